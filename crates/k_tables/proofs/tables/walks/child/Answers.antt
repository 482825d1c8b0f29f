use Rattle.std.proofs.Common.{sym, ap, ◌∙◌, ℕ, Some}
use Rattle.std.specs.Prelude.{option_and_then}
use Rattle.name_laws.specs.EntryLaws.{child_of-rows}
use Rattle.k_tables.proofs.tables.walks.child.Goals as goal

pub returns-in-Some : goal.returns-in-Some
returns-in-Some c =
    ap (option_and_then (λ (found : ℕ × ℕ). Some found.1)) c.in-Some.ensures.found
    ∙ sym (child_of-rows c.args.names.now c.args.parent c.args.name.now)

pub returns-in-None : goal.returns-in-None
returns-in-None c =
    ap (option_and_then (λ (found : ℕ × ℕ). Some found.1)) c.in-None.ensures.found
    ∙ sym (child_of-rows c.args.names.now c.args.parent c.args.name.now)
