-- Laws of rows: what it says that none of a list fits.
use Rattle.std.specs.Prelude.{◌≡◌, ◌≢◌, ◌≤◌, ℕ, ◌+◌, Bool, true, false, cond, not, ◌==◌, nat_lt, List, [], ◌∷◌, length, Option, Some, None, All, refl}
use Rattle.std.proofs.Common.{arith, lit<}
use Rattle.std.proofs.lemmas.Bool.Decides.{nat_tests}
use Rattle.std.proofs.lemmas.List.Elements.{All-cons, All-nil}
use Rattle.posix_spec.specs.posix_types.declared.call.Who.{Who}
use Rattle.posix_spec.specs.posix_types.declared.call.Mode.{Mode}
use Rattle.posix_spec.specs.posix_types.declared.handle.Handle.{Handle}
use Rattle.posix_spec.specs.posix_types.declared.item.Outcome.{Outcome}
use Rattle.posix_spec.specs.posix_tables.block_counts.declared.TheConstants.{LONGEST_FILE, LONGEST_WRITE}
use Rattle.posix_spec.specs.posix_tables.Open.{may_write}
use Rattle.posix_spec.specs.posix_tables.Outcomes.{first}
use Rattle.posix_spec.specs.posix_tables.Room.{write_need}
use Rattle.posix_spec.specs.FileRows.{content, file_number, write_rows}
use Rattle.posix_spec.specs.Put.{Put, put_at, put_unless}
use Rattle.posix_spec.specs.State.{room, State}
use Rattle.posix_spec.specs.Step.{stepped, Stepped}

-- where none of a list fits, the first does not, and none of the others
pub first-cons : (o : Option Outcome) (rows : List (Option Outcome)) → first (o ∷ rows) ≡ None → (o ≡ None) × (first rows ≡ None)
first-cons None rows none = (refl, none)
first-cons (Some outcome) rows none = let never : Some outcome ≡ None = none in cc

-- where no row fits, each is none
pub none_fits : (rows : List (Option Outcome)) → first rows ≡ None → All (λ o. o ≡ None) rows
none_fits [] none = All-nil (λ o. o ≡ None)
none_fits (o ∷ rows) none =
    let parts = first-cons o rows none in
    All-cons (λ x. x ≡ None) o rows parts.0 (none_fits rows parts.1)

-- a row that is none does not fit
pub no_row : (b : Bool) (o : Outcome) → cond b (Some o) None ≡ None → b ≡ false
no_row true o none = let never : Some o ≡ None = none in cc
no_row false o none = refl

-- and one that does not fit is none
pub row-none : (b : Bool) (o : Outcome) → b ≡ false → cond b (Some o) None ≡ None
row-none b o not_fits = rw not_fits refl

-- what stays under the last row of a call where no row fits, and stands before it, stands after the call
pub stepped-keeps : (P : State → Type 0) (s : State) (o : Option Outcome) (last : Stepped) → P s → (o ≡ None → P last.state) → P (stepped s o last).state
stepped-keeps P s None last now acted = acted refl
stepped-keeps P s (Some outcome) last now acted = now

-- What an accepted write of so many bytes says of its rows: whether the handle may write, how long the file is in bytes, the
-- mode, where the write begins, and how many blocks are left.
pub record NoRow (may : Bool) (size : ℕ) (mode : Mode) (start : ℕ) (count : ℕ) (left : ℕ) : Type 0 where
  pub may_write : may ≡ true
  pub short : count ≤ LONGEST_WRITE
  pub some : count ≢ 0
  pub end : start + count ≤ LONGEST_FILE
  pub room : write_need mode size start (start + count) ≤ left

-- the same of a state
abbrev pub Accepts : State → Who → Handle → ℕ → List ℕ → Type 0
Accepts s who h start x = NoRow (may_write s.tables who h) (length (content s who h)) s.mode start (length x) (room s)

not_false : (b : Bool) → not b ≡ false → b ≡ true
not_false true is = refl
not_false false is = cc

true_not : (b : Bool) → b ≡ true → not b ≡ false
true_not b is = rw is refl

not_below : (m n : ℕ) → nat_lt m n ≡ false → n ≤ m
not_below m n is = grind (arith, nat_tests)

below_not : (m n : ℕ) → n ≤ m → nat_lt m n ≡ false
below_not m n le = grind (arith, nat_tests)

not_zero : (n : ℕ) → (n == 0) ≡ false → n ≢ 0
not_zero n is zero = grind (arith, nat_tests)

zero_not : (n : ℕ) → n ≢ 0 → (n == 0) ≡ false
zero_not n is = grind (arith, nat_tests)

-- where no row of a write fits, it is accepted
pub Accepts-from_rows : (s : State) (who : Who) (h : Handle) (start : ℕ) (x : List ℕ) → first (write_rows s who h start x) ≡ None → Accepts s who h start x
unfolding write_rows
Accepts-from_rows s who h start x none =
    let each = none_fits (write_rows s who h start x) none in
    record {
      may_write = not_false _ (no_row _ _ (each 0 None (lit< tt)));
      short = not_below _ _ (no_row _ _ (each 1 None (lit< tt)));
      some = not_zero _ (no_row _ _ (each 2 None (lit< tt)));
      end = not_below _ _ (no_row _ _ (each 3 None (lit< tt)));
      room = not_below _ _ (no_row _ _ (each 4 None (lit< tt)));
    }

-- and the other way round
pub rows-from_Accepts : (s : State) (who : Who) (h : Handle) (start : ℕ) (x : List ℕ) → Accepts s who h start x → first (write_rows s who h start x) ≡ None
unfolding write_rows
rows-from_Accepts s who h start x accepts =
    rw (true_not _ accepts.may_write, below_not _ _ accepts.short, zero_not _ accepts.some, below_not _ _ accepts.end, below_not _ _ accepts.room) refl

put_from : (o : Option Outcome) (put p : Put) → put_unless o put ≡ Some p → (o ≡ None) × (put ≡ p)
put_from None put p is = (refl, cc)
put_from (Some outcome) put p is = cc

-- What a write puts: it is accepted, and puts these bytes into the file of the handle, from its start on.
pub put_at-Some : (s : State) (who : Who) (h : Handle) (start : ℕ) (x : List ℕ) (p : Put) → put_at s who h start x ≡ Some p
    → Accepts s who h start x × (let put : Put = record { node = file_number s.tables who h; place = start; bytes = x } in put ≡ p)
put_at-Some s who h start x p is =
    let parts = put_from (first (write_rows s who h start x)) _ p is in
    (Accepts-from_rows s who h start x parts.0, parts.1)
