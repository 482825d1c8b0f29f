use Rattle.live_model.proofs.OverlaysOverlays.{lays_beside, lays_entry, nothing_laid, overlay_is_log, reads_file}
use Rattle.live_model.proofs.overlays.the_overlay_is_the_log.Goals as goal

pub returns : goal.returns
returns c = record {
  blocks = overlay_is_log;
  bytes = reads_file;
  none = nothing_laid;
  own = lays_entry;
  others = lays_beside;
}
