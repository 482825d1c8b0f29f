use Rattle.std.proofs.Common.{ap, sym, ◌∙◌}
use Rattle.std.proofs.lemmas.Bool.{both_ways}
use Rattle.oplog_entry.specs.layout_model.Entries.{is_self_valid}
use Rattle.oplog_entry.specs.pm_model.Words.{word_at}
use Rattle.k_check.proofs.CrashFacts.{chance-held, chance-torn, chance-valid}
use Rattle.k_check.proofs.crashes.is_chance.Goals as goal

pub returns-then-is_self_valid : goal.returns-then-is_self_valid
returns-then-is_self_valid c =
    let f = word_at c.args.bytes.now in
    let valid = ap is_self_valid (sym c.line_in.ensures) ∙ sym c.is_self_valid.ensures ∙ c.if-is_self_valid.true in (
      λ yes. chance-held c.args.choice c.args.pm.now f c.args.line c.requires.chosen (c.is_torn.ensures.0 yes) valid,
      λ chance. c.is_torn.ensures.1 (chance-torn c.args.choice c.args.pm.now f c.args.line c.requires.chosen chance),
    )

pub returns-else-is_self_valid : goal.returns-else-is_self_valid
returns-else-is_self_valid c =
    let f = word_at c.args.bytes.now in (
      λ yes. absurd (both_ways c.is_self_valid.result c.if-is_self_valid.false yes),
      λ chance. c.is_self_valid.ensures ∙ ap is_self_valid c.line_in.ensures
          ∙ chance-valid c.args.choice c.args.pm.now f c.args.line c.requires.chosen chance,
    )
