-- The rows of the calls that make or remove a node never say that there is nothing to do.
use Rattle.std.proofs.Common.{◌≡◌, ◌≢◌, ℕ, Bool, true, false, List, [], ◌∷◌, refl, sym, ap, ◌∙◌}
use Rattle.std.proofs.lemmas.Bool.{both_ways}
use Rattle.std.specs.Prelude.{Option, Some, None, Result, Ok, Err}
use Rattle.posix_types.specs.declared.item.Outcome.{Outcome}
use Rattle.posix_types.specs.declared.reply.Reply.{Reply}
use Rattle.posix_types.specs.declared.reply.Errno.{Errno}
use Rattle.posix_types.specs.declared.reply.What.{What}
use Rattle.k_tables.specs.posix_tables.NameRows.{mkdir_rows, rmdir_rows, unlink_rows, walk_row}
use Rattle.k_tables.specs.posix_tables.Names.{Space, walk}
use Rattle.k_tables.specs.posix_tables.Outcomes.{first, row, space_row}
use Rattle.k_tables.specs.Refusals.{outcome_of}
use Rattle.k_tables.specs.declared.tables.refusals.Refusal.{Refusal}

-- whether an outcome is that of a call that has nothing to do
is_ok : Reply → Bool
is_ok Reply.Ok = true
is_ok _ = false

is_idle : Option Outcome → Bool
is_idle None = false
is_idle (Some o) = is_ok o.reply

abbrev NoneIdle : List (Option Outcome) → Type 0
NoneIdle [] = Unit {0}
NoneIdle (o ∷ rows) = (is_idle o ≡ false) × NoneIdle rows

first-busy : (rows : List (Option Outcome)) → NoneIdle rows → is_idle (first rows) ≡ false
first-busy [] busy = unfold is_idle in refl
first-busy (None ∷ rows) busy = first-busy rows busy.1
first-busy (Some o ∷ rows) busy = busy.0

row-busy : (fits : Bool) (errno : Errno) → is_idle (row fits errno) ≡ false
unfolding is_idle is_ok
row-busy true errno = refl
row-busy false errno = refl

space-busy : (fits : Bool) (what : What) (need room : ℕ) → is_idle (space_row fits what need room) ≡ false
unfolding is_idle is_ok
space-busy true what need room = refl
space-busy false what need room = refl

walk-busy : (s : Space) (p : List (List ℕ)) → is_idle (walk_row s p) ≡ false
unfolding is_idle is_ok
walk-busy s p = by (walk s p) refl
  where
    by : (r : Result ℕ Errno) → walk s p ≡ r → is_idle (walk_row s p) ≡ false
    by (Ok node) leads = rw leads refl
    by (Err errno) leads = rw leads refl

busy-not_idle : (o : Option Outcome) (refusal : Refusal) → is_idle o ≡ false → Some (outcome_of refusal) ≡ o → refusal ≢ Refusal.Idle
unfolding is_idle is_ok
busy-not_idle o refusal busy same idle =
    both_ways (is_idle o) busy (ap is_idle (sym same) ∙ ap (λ r. is_idle (Some (outcome_of r))) idle)

pub mkdir-not_idle : (s : Space) (p : List (List ℕ)) (refusal : Refusal)
    → Some (outcome_of refusal) ≡ first (mkdir_rows s p) → refusal ≢ Refusal.Idle
unfolding mkdir_rows
mkdir-not_idle s p refusal =
    busy-not_idle (first (mkdir_rows s p)) refusal
    (first-busy (mkdir_rows s p)
    (row-busy _ _, (row-busy _ _, (walk-busy s p, (row-busy _ _, (space-busy _ _ _ _, (space-busy _ _ _ _, tt)))))))

pub rmdir-not_idle : (s : Space) (p : List (List ℕ)) (refusal : Refusal)
    → Some (outcome_of refusal) ≡ first (rmdir_rows s p) → refusal ≢ Refusal.Idle
unfolding rmdir_rows
rmdir-not_idle s p refusal =
    busy-not_idle (first (rmdir_rows s p)) refusal
    (first-busy (rmdir_rows s p)
    (row-busy _ _, (row-busy _ _, (walk-busy s p, (row-busy _ _, (row-busy _ _, (row-busy _ _, tt)))))))

pub unlink-not_idle : (s : Space) (p : List (List ℕ)) (refusal : Refusal)
    → Some (outcome_of refusal) ≡ first (unlink_rows s p) → refusal ≢ Refusal.Idle
unfolding unlink_rows
unlink-not_idle s p refusal =
    busy-not_idle (first (unlink_rows s p)) refusal
    (first-busy (unlink_rows s p)
    (row-busy _ _, (row-busy _ _, (walk-busy s p, (row-busy _ _, (row-busy _ _, tt))))))
