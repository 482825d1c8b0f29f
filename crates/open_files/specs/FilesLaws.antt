-- What follows for tables that are in order.
use Rattle.std.specs.Prelude.{◌≡◌, ◌≤◌, ◌↔◌, ℕ, count_by, Some, IsSome, slice_get}
use Rattle.std.specs.List.{range_with_len}
use Rattle.posix_types.specs.declared.call.Who.{Who}
use Rattle.posix_types.specs.declared.handle.Handle.{Handle}
use Rattle.posix_tables.specs.declared.open.Binding.{Binding}
use Rattle.posix_tables.specs.Open.{binding_of, is_open, opened, Tables}
use Rattle.open_files.specs.Order.{AreInOrder}

-- A handle stands for an open description exactly where it is known.
abbrev pub KnownHandlesAreOpen : Type 0
KnownHandlesAreOpen = (t : Tables) (who : Who) (handle : Handle) → AreInOrder t → IsSome (opened t who handle) ↔ IsSome (binding_of t.handles who handle)

-- Two places have bindings of one descriptor, or of one handle of a caller, only where they are one place.
abbrev pub BindingsAreApart : Type 0
BindingsAreApart = (t : Tables) (i j : ℕ) (a b : Binding) → AreInOrder t → slice_get t.handles i ≡ Some a → slice_get t.handles j ≡ Some b
    → (a.descriptor ≡ b.descriptor → i ≡ j) × (a.who ≡ b.who → a.handle ≡ b.handle → i ≡ j)

-- At most 64 files are open: each has a descriptor.
abbrev pub FewAreOpen : Type 0
FewAreOpen = (t : Tables) (n : ℕ) → AreInOrder t → count_by (is_open t) (range_with_len 0 n) ≤ 64
