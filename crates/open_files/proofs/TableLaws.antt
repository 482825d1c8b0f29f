-- The laws of tables that are in order.
use Rattle.std.specs.Prelude.{◌≡◌, ◌↔◌, ℕ, ◌<◌, Option, Some, None, IsSome, get_or, slice_get, refl}
use Rattle.std.specs.Option.{option_and_then}
use Rattle.std.proofs.Common.{sym, subst, inl, inr, arith}
use Rattle.std.proofs.lemmas.Bool.{cases_lt}
use Rattle.std.proofs.lemmas.Option.{get_or_from_slice_get, slice_get_within}
use Rattle.posix_tables.specs.declared.open.Binding.{Binding}
use Rattle.posix_tables.specs.Open.{binding_of, description_number, key_of, opened}
use Rattle.open_files.specs.FilesLaws.{BindingsAreApart, KnownHandlesAreOpen}
use Rattle.open_files.specs.Order.{AreApart, AreInOrder, description_at}
use Rattle.open_files.proofs.OrderLaws.{bound_in_use}
use Rattle.open_files.proofs.Places.{some_of}

pub known_handles_are_open : KnownHandlesAreOpen
unfolding opened key_of
known_handles_are_open t who handle order = by (binding_of t.handles who handle) refl where
  by : (o : Option Binding) → binding_of t.handles who handle ≡ o
      → IsSome (option_and_then (λ (k : ℕ). description_at t k) (option_and_then (λ (b : Binding). description_number t.descriptors b.descriptor) o)) ↔ IsSome o
  by None unbound = (λ is. is, λ is. is)
  by (Some b) bound =
      let in_use = some_of (description_number t.descriptors b.descriptor) (bound_in_use t who handle b order bound) in
      let is : IsSome (option_and_then (λ (k : ℕ). description_at t k) (description_number t.descriptors b.descriptor)) =
      subst (λ o. IsSome (option_and_then (λ (k : ℕ). description_at t k) o)) (sym in_use.1) (order.described b.descriptor in_use.0 in_use.1) in
      (λ open_too. refl, λ known. is)

pub bindings_are_apart : BindingsAreApart
bindings_are_apart t i j a b order at_i at_j = elim (cases_lt i j) [
  | inl before ↦ let apart = pair i j a b order at_i at_j before in (λ same. absurd (apart.descriptors same), λ who handle. absurd (apart.handles who handle))
  | inr rest ↦ elim (cases_lt j i) [
    | inl before ↦ let apart = pair j i b a order at_j at_i before in (λ same. absurd (apart.descriptors (sym same)), λ who handle. absurd (apart.handles (sym who) (sym handle)))
    | inr other ↦ (λ same. omega arith, λ who handle. omega arith)
  ]
] where
  pair : (i j : ℕ) (a b : Binding) → AreInOrder t → slice_get t.handles i ≡ Some a → slice_get t.handles j ≡ Some b → i < j → AreApart a b
  pair i j a b order at_i at_j before =
      let first : get_or t.handles i a ≡ a = get_or_from_slice_get t.handles i a a at_i in
      let second : get_or t.handles j a ≡ b = get_or_from_slice_get t.handles j b a at_j in
      let apart = order.apart i j a before (slice_get_within t.handles j b at_j) in
      subst (λ x. AreApart x b) first (subst (λ x. AreApart (get_or t.handles i a) x) second apart)
