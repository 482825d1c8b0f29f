-- At most 64 files are open: an open file has a description, a description has a descriptor, and there are 64 of these.
use Rattle.std.specs.Prelude.{◌≡◌, ◌+◌, ◌||◌, ℕ, zero, suc, Bool, true, false, cond, count_by, filter, List, [], ◌∷◌, length, map, Option, Some, None, slice_get, refl}
use Rattle.std.specs.List.{list_any, range_with_len}
use Rattle.std.specs.Option.{option_flatten}
use Rattle.std.proofs.Common.{ap, arith, ◌∙◌, subst}
use Rattle.std.proofs.lemmas.Bool.Decides.{Decides-eqb}
use Rattle.std.proofs.lemmas.List.{length-map}
use Rattle.std.proofs.lemmas.List.Sums.{length-filter}
use Rattle.commute_laws.specs.list_laws.Filters.{filter-In, In-map, range-In}
use Rattle.commute_laws.specs.list_laws.Members.{In, In-slice_get}
use Rattle.commute_laws.specs.posix_laws.Entries.{AreDifferent, few}
use Rattle.posix_tables.specs.declared.open.Description.{Description}
use Rattle.posix_tables.specs.Open.{describes, is_open, Tables}
use Rattle.open_files.specs.FilesLaws.{FewAreOpen}
use Rattle.open_files.specs.Order.{AreInOrder, description_at}
use Rattle.open_files.proofs.Places.{is_some-of}

-- the node of a description, and 0 of none
abbrev node_of : Option Description → ℕ
node_of None = 0
node_of (Some d) = d.node

-- the node of a descriptor, and 0 of one that is free
abbrev node_by : Tables → Option ℕ → ℕ
node_by t None = 0
node_by t (Some number) = node_of (description_at t number)

-- a description of the node stands at some place
record IsDescribed (slots : List (Option Description)) (node : ℕ) : Type 0 where
  place : ℕ
  description : Description
  is : option_flatten (slice_get slots place) ≡ Some description
  node_is : description.node ≡ node

describes_some : (node : ℕ) (slot : Option Description) → describes node slot ≡ true → (d : Description) × (slot ≡ Some d) × (d.node ≡ node)
describes_some node None is = cc
describes_some node (Some d) is = (d, refl, (Decides-eqb d.node node).0 is)

described : (slots : List (Option Description)) (node : ℕ) → list_any (describes node) slots ≡ true → IsDescribed slots node
described [] node is = cc
described (slot ∷ slots) node is = by (describes node slot) refl (described slots node) is where
  by : (b : Bool) → describes node slot ≡ b → (list_any (describes node) slots ≡ true → IsDescribed slots node) → (b || list_any (describes node) slots) ≡ true
      → IsDescribed (slot ∷ slots) node
  by true here behind any = let d = describes_some node slot here in record { place = 0; description = d.0; is = d.1; node_is = d.2 }
  by false here behind any =
      let rest = behind any in
      record { place = suc rest.place; description = rest.description; is = rest.is; node_is = rest.node_is }

flat_In : (descriptors : List (Option ℕ)) (descriptor number : ℕ) → option_flatten (slice_get descriptors descriptor) ≡ Some number → In (Some number) descriptors
flat_In descriptors descriptor number is = by (slice_get descriptors descriptor) refl is where
  by : (o : Option (Option ℕ)) → slice_get descriptors descriptor ≡ o → option_flatten o ≡ Some number → In (Some number) descriptors
  by None got flat = cc
  by (Some slot) got flat = In-slice_get descriptors descriptor (Some number) (got ∙ ap (λ (x : Option ℕ). Some x) flat)

-- each open node is the node of a descriptor
open_In : (t : Tables) (n : ℕ) → AreInOrder t → is_open t n ≡ true → In n (map (node_by t) t.descriptors)
open_In t n order is =
    let own = described t.descriptions n is in
    let used = order.used own.place (is_some-of (description_at t own.place) own.description own.is) in
    let node : node_by t (Some own.place) ≡ n = ap node_of own.is ∙ own.node_is in
    subst (λ k. In k (map (node_by t) t.descriptors)) node (In-map (node_by t) t.descriptors (Some own.place) (flat_In t.descriptors used.0 own.place used.1))

-- numbers that pass are different
different : (p : ℕ → Bool) (a n : ℕ) → AreDifferent (filter p (range_with_len a n))
different p a zero = tt
different p a (suc n) = by (p a) (different p (a + 1) n) where
  by : (b : Bool) → AreDifferent (filter p (range_with_len (a + 1) n)) → AreDifferent (cond b (a ∷ filter p (range_with_len (a + 1) n)) (filter p (range_with_len (a + 1) n)))
  by true rest = (λ there. (let past = (range-In (a + 1) n a (filter-In p (range_with_len (a + 1) n) a there).0).0 in absurd (omega (arith, past))), rest)
  by false rest = rest

pub few_are_open : FewAreOpen
few_are_open t n order =
    let open_ones : List ℕ = filter (is_open t) (range_with_len 0 n) in
    let most = few open_ones (map (node_by t) t.descriptors) (different (is_open t) 0 n) (λ k there. open_In t k order (filter-In (is_open t) (range_with_len 0 n) k there).1) in
    let long : length (map (node_by t) t.descriptors) ≡ 64 = length-map t.descriptors (node_by t) ∙ order.count in
    let counted : length open_ones ≡ count_by (is_open t) (range_with_len 0 n) = length-filter (is_open t) (range_with_len 0 n) in
    omega (arith, most, long, counted)
