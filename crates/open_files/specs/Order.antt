-- Tables in order: what is bound is open, what is open has a descriptor, and nothing is bound twice.
use Rattle.std.specs.Prelude.{◌≡◌, ◌≢◌, ℕ, length, All, AllPairs, Option, Some, IsSome, slice_get}
use Rattle.std.specs.Option.{option_flatten}
use Rattle.posix_tables.specs.declared.open.Description.{Description}
use Rattle.posix_tables.specs.declared.open.Binding.{Binding}
use Rattle.posix_tables.specs.Open.{description_number, descriptor_count, Tables}

-- the description with a number
abbrev pub description_at : Tables → ℕ → Option Description
description_at t number = option_flatten (slice_get t.descriptions number)

-- a binding's descriptor is in use
abbrev pub IsBound : Tables → Binding → Type 0
IsBound t binding = IsSome (description_number t.descriptors binding.descriptor)

-- two bindings of different descriptors, and not of one handle of one caller
pub record AreApart (a b : Binding) : Type 0 where
  pub descriptors : a.descriptor ≢ b.descriptor
  pub handles : a.who ≡ b.who → a.handle ≢ b.handle

-- There are 64 descriptors. The descriptor of a binding is in use; a descriptor in use has a description, and a description has a descriptor; no two bindings are of one descriptor, or of one handle of a caller.
pub record AreInOrder (t : Tables) : Type 0 where
  pub count : length t.descriptors ≡ descriptor_count
  pub bound : All (IsBound t) t.handles
  pub apart : AllPairs AreApart t.handles
  pub described : (descriptor number : ℕ) → description_number t.descriptors descriptor ≡ Some number → IsSome (description_at t number)
  pub used : (number : ℕ) → IsSome (description_at t number) → (descriptor : ℕ) × (description_number t.descriptors descriptor ≡ Some number)
