-- What contracts see of the open files, and why nothing was opened.
use Rattle.std.specs.Prelude.{◌≡◌, ℕ, ◌<◌, ◌^◌, ◌-◌, Bool, true, false, ◌&&◌, nat_lt, List, Option, Some, None, IsSome, get_or}
use Rattle.posix_types.specs.declared.call.Who.{Who}
use Rattle.posix_types.specs.declared.handle.Handle.{Handle}
use Rattle.posix_tables.specs.declared.open.Binding.{Binding}
use Rattle.posix_tables.specs.Open.{is_full, opened, Tables}
use Rattle.open_files.specs.declared.files.faults.OpenFault.{OpenFault}
use Rattle.open_files.specs.declared.files.faults.OpenFault.TheVariants.{Full, NotOpen, NoMemory}
use Rattle.open_files.specs.declared.files.kept.Kept.{Kept}
use Rattle.open_files.specs.declared.files.kept.Reference.{Reference}
use Rattle.open_files.specs.Kept.{tables_of}
use Rattle.open_files.specs.Order.{AreInOrder}

-- the tables, and whether one more call of `open` or `dup` needs no memory
pub record OpenState : Type 0 where
  pub tables : Tables
  pub has_room : Bool

-- whether there is room for one more description among so many, for one more binding, and for one more number
unfoldable pub room_for_one : ℕ → ℕ → ℕ → ℕ → ℕ → Bool
room_for_one descriptions room bindings capacity opened = nat_lt descriptions room && (nat_lt bindings capacity && nat_lt opened (2 ^ 64 - 1))

-- What is kept is told apart by its numbers, which are below the number of all that was ever opened; what a descriptor refers to is kept; and the tables are in order.
pub record AreKept (slots : List (Option Kept)) (ever_opened : ℕ) (descriptors : List (Option Reference)) (handles : List Binding) : Type 0 where
  pub below : (key : ℕ) (kept : Kept) → get_or slots key None ≡ Some kept → kept.number < ever_opened
  pub distinct : (a b : ℕ) (x y : Kept) → get_or slots a None ≡ Some x → get_or slots b None ≡ Some y → x.number ≡ y.number → a ≡ b
  pub refers : (descriptor : ℕ) (reference : Reference) → get_or descriptors descriptor None ≡ Some reference
      → (kept : Kept) × (get_or slots reference.key None ≡ Some kept) × (kept.number ≡ reference.number)
  pub in_order : AreInOrder (tables_of slots ever_opened descriptors handles)

-- Why nothing was opened: all descriptors are in use, or there was no memory.
abbrev pub IsOpenFault : OpenState → OpenFault → Type 0
IsOpenFault state (Full count) = (count ≡ 64) × (is_full state.tables ≡ true)
IsOpenFault state NotOpen = ⊥
IsOpenFault state NoMemory = (is_full state.tables ≡ false) × (state.has_room ≡ false)

-- Why nothing was doubled: the handle is unknown, and else as for an open.
abbrev pub IsDupFault : OpenState → Who → Handle → OpenFault → Type 0
IsDupFault state who old (Full count) = IsSome (opened state.tables who old) × ((count ≡ 64) × (is_full state.tables ≡ true))
IsDupFault state who old NotOpen = opened state.tables who old ≡ None
IsDupFault state who old NoMemory = IsSome (opened state.tables who old) × ((is_full state.tables ≡ false) × (state.has_room ≡ false))
