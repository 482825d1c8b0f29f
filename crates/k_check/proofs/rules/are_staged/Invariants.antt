use Rattle.std.proofs.Common.{◌≡◌, ℕ, ◌<◌, get_or}
use Rattle.oplog_entry.specs.layout_model.declared.lines.Draft.{Draft}
use Rattle.check_image.specs.image_model.Rules.{HasStagingBlocks}
use Rattle.check_image.specs.image_model.Volume.{Volume}
use Rattle.k_check.proofs.rules.are_staged.Given as goal

-- the entries so far have them
abbrev pub invariant-loop-draft : goal.invariant-loop-draft
invariant-loop-draft l = (v : Volume) → v.maps ≡ l.maps → (k : ℕ) (d : Draft) → k < l.draft-index → HasStagingBlocks v (get_or l.live k d)
