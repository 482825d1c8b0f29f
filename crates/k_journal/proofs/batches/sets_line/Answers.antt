use Rattle.std.proofs.Common.{◌≡◌, ℕ, List, Option, sym, ◌∙◌}
use Rattle.std.specs.Prelude.{Some, None, is_some, MatchOption}
use Rattle.k_journal.specs.Batch.{has_line, IsFirstPlace, IsNew}
use Rattle.k_journal.specs.declared.batches.Record.{Record}
use Rattle.k_journal.proofs.Laid.{has_line-at, has_line-new}
use Rattle.k_journal.proofs.batches.sets_line.Goals as goal

-- what the search for a line says of it
found_has : (b : List Record) (line : ℕ) (o : Option ℕ) → MatchOption o (IsNew b line) (IsFirstPlace b line) → has_line b line ≡ is_some o
found_has b line None fresh = has_line-new b line fresh
found_has b line (Some place) first = has_line-at b line place first.within first.here

pub returns : goal.returns
returns c = c.is_some.ensures ∙ sym (found_has c.args.entries.now c.args.line c.place_of.result c.place_of.ensures)
