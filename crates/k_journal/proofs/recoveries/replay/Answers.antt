use Rattle.std.proofs.Common.{◌≡◌, true, refl, sym, ◌∙◌, ap, arith, rules}
use Rattle.std.proofs.lemmas.Grind.{common_steps}
use Rattle.image_layout.specs.layout_model.Journal.{record_target, record_word}
use Rattle.k_journal.specs.Patches.{patched-none}
use Rattle.pm_lines.specs.pm_model.declared.Cell.TheVariants.{Single}
use Rattle.pm_lines.specs.pm_model.CellLaws.{single-newest}
use Rattle.pm_lines.specs.pm_model.Cells.{cell}
use Rattle.pm_lines.specs.pm_model.Images.{words_of}
use Rattle.pm_lines.specs.pm_model.PowerLaws.{Steps-none}
use Rattle.pm_lines.specs.pm_model.Powers.{is_on}
use Rattle.k_journal.specs.Recoveries.{AreApart}
use Rattle.k_journal.proofs.Replays.{IsReplayed, record_target-kept, replayed-more}
use Rattle.k_journal.proofs.recoveries.replay.Goals as goal

pub loop-index-init : goal.loop-index-init
loop-index-init c =
    let w = words_of c.args.pm.now in
    record {
      size = refl;
      lent = λ i. refl;
      steps = Steps-none c.args.power.now;
      others = λ i none. refl;
      done = λ on i. single-newest (cell c.args.pm.now i) (c.requires.single i) ∙ ap Single (sym (patched-none (record_target w) (record_word w) w i));
    }

pub loop-index-preserved : goal.loop-index-preserved
loop-index-preserved c =
    let old = c.args.pm.now in
    let mid = c.loop-index.pm in
    let n = c.loop-index.index in
    let on : is_on c.loop-index.power ≡ true = search rules in
    let apart : AreApart n (words_of old) = λ r h. c.requires.apart r (omega arith) in
    let replayed : IsReplayed n old mid = record { words = c.loop-index.invariant.done on } in
    let target : record_target (words_of mid) n ≡ record_target (words_of old) n = record_target-kept n old mid (omega arith) apart replayed in
    record {
      size = c.replay_record.ensures.size ∙ c.loop-index.invariant.size;
      lent = λ i. c.replay_record.ensures.lent i ∙ c.loop-index.invariant.lent i;
      steps = grind (arith, common_steps);
      others = λ i none. c.replay_record.ensures.others i (λ e. none n (omega arith) (sym target ∙ e)) ∙ c.loop-index.invariant.others i (λ r h. none r (omega arith));
      done = λ still. replayed-more n old mid c.replay_record.new.pm (omega arith) apart replayed c.replay_record.ensures.others (c.replay_record.ensures.done still);
    }
