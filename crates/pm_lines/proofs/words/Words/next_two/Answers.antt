use Rattle.std.proofs.Common.{ℕ, Option, Some, None, MatchOption}
use Rattle.pm_lines.proofs.HeldCells.{next-none, next-some}
use Rattle.pm_lines.proofs.words.Words.next_two.Goals as goal

-- what holds of either case, from what holds of it
either : (o : Option ℕ) (P R : Type 0) (Q S : ℕ → Type 0) → (P → R) → ((w : ℕ) → Q w → S w) → MatchOption o P Q → MatchOption o R S
either None P R Q S none some h = none h
either (Some w) P R Q S none some h = some w h

pub returns : goal.returns
returns c =
    either c.next_pair.result _ _ _ _ (next-none _ _ _ _ _ c.self.invariant c.self.view_is c.args.from) (next-some _ _ _ _ _ c.self.invariant c.self.view_is c.args.from)
    (rw (c.deref.ensures.value, c.deref-2.ensures.value) at c.next_pair.ensures)
