use Rattle.std.proofs.Common.{sym, subst}
use Rattle.split_machine.specs.world_view_laws.Starts.{AreInLimits}
use Rattle.split_top.specs.Top.{load_numbers}
use Rattle.split_top.proofs.Loads.{load-runs, same-run}
use Rattle.split_top.proofs.loading.loaded.Goals as goal

pub sums_of-requires-clause-limits : goal.sums_of-requires-clause-limits
sums_of-requires-clause-limits c =
    subst AreInLimits (sym c.in_ok-scripts.ensures)
    (load-runs c.scripts_are_spelled.ensures c.scripts_are_within_limits.ensures c.load_is_a_script.ensures _ _ c.requires.few c.requires.threads)

pub returns : goal.returns
returns c =
    let opened = c.in_ok-opened.ensures in
    let ran = c.in_ok-text.ensures opened.image opened.device in
    record {
      image = opened.image;
      is_fresh = opened.is_fresh;
      kept = ran.0;
      is_run = same-run opened.image _ load_numbers _ _ _ _ _ ran.0 opened.numbers c.in_ok-scripts.ensures c.plain_options.ensures.options ran.1;
    }
