-- What is kept answers as the tables do.
use Rattle.std.specs.Prelude.{◌≡◌, ℕ, ◌<◌, ◌==◌, Bool, true, false, List, length, position, is_none, is_some, Option, Some, None, get_or, refl}
use Rattle.std.specs.List.{list_any}
use Rattle.std.specs.Option.{option_and_then, option_flatten, option_map, option_map_or}
use Rattle.std.proofs.Common.{ap, ◌∙◌, sym, arith}
use Rattle.std.proofs.lemmas.List.{get_or_default}
use Rattle.std.proofs.lemmas.List.Folds.{Any-from_list_any, list_any_at}
use Rattle.posix_types.specs.declared.call.Who.{Who}
use Rattle.posix_types.specs.declared.handle.Handle.{Handle}
use Rattle.posix_tables.specs.declared.open.Binding.{Binding}
use Rattle.posix_tables.specs.declared.open.Description.{Description}
use Rattle.posix_tables.specs.Open.{binding_of, describes, description_number, free_descriptor, is_open, key_of, opened, Tables}
use Rattle.open_files.specs.declared.files.found.Found.{Found}
use Rattle.open_files.specs.declared.files.kept.Kept.{Kept}
use Rattle.open_files.specs.declared.files.kept.Reference.{Reference}
use Rattle.open_files.specs.Found.{IsFound, NotFound, refers_to_ino}
use Rattle.open_files.specs.Kept.{description_of, number_of, numbered, tables_of}
use Rattle.open_files.specs.Order.{description_at}
use Rattle.open_files.specs.State.{AreKept}
use Rattle.open_files.proofs.FilesNumbers.{numbered-kept}
use Rattle.open_files.proofs.OrderLaws.{bound_in_use}
use Rattle.open_files.proofs.Places.{flat-get_or, flat-within, free-references, get-tabulated, length-references, length-tabulated, number_at, some_of}

-- the reference behind a number
reference_of : (o : Option Reference) (n : ℕ) → option_map number_of o ≡ Some n → (r : Reference) × (o ≡ Some r) × (r.number ≡ n)
reference_of None n is = cc
reference_of (Some r) n is = (r, refl, cc)

pub same_kept : (slots : List (Option Kept)) (key : ℕ) (x y : Kept) → get_or slots key None ≡ Some x → get_or slots key None ≡ Some y → x ≡ y
same_kept slots key x y at_x at_y = let both : Some x ≡ Some y = sym at_x ∙ at_y in cc

pub reference_within : (descriptors : List (Option Reference)) (d : ℕ) (r : Reference) → get_or descriptors d None ≡ Some r → d < length descriptors
reference_within descriptors d r is = flat-within descriptors d r (flat-get_or descriptors d ∙ is)

same_bool : (a b : Bool) → (a ≡ true → b ≡ true) → (b ≡ true → a ≡ true) → a ≡ b
same_bool true b onward back = sym (onward refl)
same_bool false true onward back = back refl
same_bool false false onward back = refl

module _ (slots : List (Option Kept)) (ever : ℕ) (descriptors : List (Option Reference)) (bindings : List Binding) where
  abbrev pub the_tables : Tables
  the_tables = tables_of slots ever descriptors bindings

  -- how many descriptors there are, and the lowest free one
  pub descriptors_length : AreKept slots ever descriptors bindings → length descriptors ≡ 64
  descriptors_length kept = sym (length-references descriptors) ∙ kept.in_order.count

  pub free_is : free_descriptor the_tables ≡ position (λ slot. is_none slot) descriptors
  free_is = free-references descriptors

  -- the description of what is kept
  pub description-kept : AreKept slots ever descriptors bindings → (key : ℕ) (x : Kept) → get_or slots key None ≡ Some x
      → description_at the_tables x.number ≡ Some (description_of x)
  description-kept kept key x at =
      ap (λ (o : Option (Option Description)). option_flatten o) (get-tabulated (numbered slots) ever x.number (kept.below key x at)) ∙ numbered-kept slots key x kept.distinct at

  -- what is found stands behind the handle
  pub key-found : (who : Who) (handle : Handle) (found : Found) → IsFound slots descriptors bindings who handle found
      → (description_number the_tables.descriptors found.binding.descriptor ≡ Some found.reference.number) × (key_of the_tables who handle ≡ Some found.reference.number)
  unfolding key_of
  key-found who handle found is =
      let number : description_number the_tables.descriptors found.binding.descriptor ≡ Some found.reference.number = number_at descriptors found.binding.descriptor ∙ ap (option_map number_of) is.reference in
      (number, ap (λ o. option_and_then (λ (b : Binding). description_number the_tables.descriptors b.descriptor) o) is.bound ∙ number)

  pub number-found : AreKept slots ever descriptors bindings → (who : Who) (handle : Handle) (found : Found) → IsFound slots descriptors bindings who handle found
      → found.kept.number ≡ found.reference.number
  number-found kept who handle found is =
      let of = kept.refers found.binding.descriptor found.reference is.reference in
      ap (λ (k : Kept). k.number) (same_kept slots found.reference.key found.kept of.0 is.kept of.1) ∙ of.2

  pub opened-found : AreKept slots ever descriptors bindings → (who : Who) (handle : Handle) (found : Found) → IsFound slots descriptors bindings who handle found
      → opened the_tables who handle ≡ Some (description_of found.kept)
  unfolding opened
  opened-found kept who handle found is =
      ap (λ o. option_and_then (λ (k : ℕ). description_at the_tables k) o) ((key-found who handle found is).1)
      ∙ ap (description_at the_tables) (sym (number-found kept who handle found is))
      ∙ description-kept kept found.reference.key found.kept is.kept

  -- what is not found stands for nothing, and then the handle is not bound
  pub unbound-not_found : AreKept slots ever descriptors bindings → (who : Who) (handle : Handle) → NotFound slots descriptors bindings who handle
      → binding_of bindings who handle ≡ None
  unbound-not_found kept who handle absent = by (binding_of bindings who handle) refl where
    by : (o : Option Binding) → binding_of bindings who handle ≡ o → o ≡ None
    by None is = refl
    by (Some b) is =
        let in_use = some_of (description_number the_tables.descriptors b.descriptor) (bound_in_use the_tables who handle b kept.in_order is) in
        let r = reference_of (get_or descriptors b.descriptor None) in_use.0 (sym (number_at descriptors b.descriptor) ∙ in_use.1) in
        let of = kept.refers b.descriptor r.0 r.1 in
        let never : None ≡ Some of.0 = sym (absent b is r.0 r.1) ∙ of.1 in
        cc

  pub opened-unbound : (who : Who) (handle : Handle) → binding_of bindings who handle ≡ None → opened the_tables who handle ≡ None
  unfolding opened key_of
  opened-unbound who handle is = ap (λ o. option_and_then (λ (k : ℕ). description_at the_tables k) (option_and_then (λ (b : Binding). description_number the_tables.descriptors b.descriptor) o)) is

  pub opened-not_found : AreKept slots ever descriptors bindings → (who : Who) (handle : Handle) → NotFound slots descriptors bindings who handle
      → opened the_tables who handle ≡ None
  opened-not_found kept who handle absent = opened-unbound who handle (unbound-not_found kept who handle absent)

  -- ---- whether an inode is open

  open_then_referred : AreKept slots ever descriptors bindings → (ino : ℕ) → list_any (describes ino) the_tables.descriptions ≡ true
      → list_any (refers_to_ino slots ino) descriptors ≡ true
  open_then_referred kept ino is =
      let at = Any-from_list_any (describes ino) the_tables.descriptions is in
      let n : ℕ = at.0 in
      let there : description_at the_tables n ≡ at.1 = flat-get_or the_tables.descriptions n ∙ (get_or_default the_tables.descriptions n None at.1 at.2 ∙ at.3) in
      let d = described_by ino at.1 at.4 in
      let found : description_at the_tables n ≡ Some d.0 = there ∙ d.1 in
      let holder = kept.in_order.used n (ap is_some found) in
      let r = reference_of (get_or descriptors holder.0 None) n (sym (number_at descriptors holder.0) ∙ holder.1) in
      let of = kept.refers holder.0 r.0 r.1 in
      let same_number : of.0.number ≡ n = of.2 ∙ r.2 in
      let both : Some (description_of of.0) ≡ Some d.0 = sym (description-kept kept r.0.key of.0 of.1) ∙ ap (description_at the_tables) same_number ∙ found in
      let same : description_of of.0 ≡ d.0 = cc in
      let ino_is : (of.0.ino == ino) ≡ true = ap (λ (x : Description). x.node == ino) same ∙ d.2 in
      list_any_at (refers_to_ino slots ino) descriptors holder.0 None (reference_within descriptors holder.0 r.0 r.1)
      (ap (refers_to_ino slots ino) r.1 ∙ ap (λ (o : Option Kept). option_map_or (λ kept. kept.ino == ino) o false) of.1 ∙ ino_is)
    where
      described_by : (ino : ℕ) (slot : Option Description) → describes ino slot ≡ true → (d : Description) × (slot ≡ Some d) × ((d.node == ino) ≡ true)
      described_by ino None is = cc
      described_by ino (Some d) is = (d, refl, is)

  referred_then_open : AreKept slots ever descriptors bindings → (ino : ℕ) → list_any (refers_to_ino slots ino) descriptors ≡ true
      → list_any (describes ino) the_tables.descriptions ≡ true
  referred_then_open kept ino is =
      let at = Any-from_list_any (refers_to_ino slots ino) descriptors is in
      let r = referred_by at.1 at.4 in
      let there : get_or descriptors at.0 None ≡ Some r.0 = get_or_default descriptors at.0 None at.1 at.2 ∙ at.3 ∙ r.1 in
      let of = kept.refers at.0 r.0 there in
      let ino_is : (of.0.ino == ino) ≡ true = sym (ap (λ (o : Option Kept). option_map_or (λ kept. kept.ino == ino) o false) of.1) ∙ r.2 in
      let within : of.0.number < ever = kept.below r.0.key of.0 of.1 in
      let long = length-tabulated (numbered slots) ever in
      let found = description-kept kept r.0.key of.0 of.1 in
      list_any_at (describes ino) the_tables.descriptions of.0.number None (omega arith)
      (ap (describes ino) (sym (flat-get_or the_tables.descriptions of.0.number) ∙ found) ∙ ino_is)
    where
      referred_by : (slot : Option Reference) → refers_to_ino slots ino slot ≡ true
          → (r : Reference) × (slot ≡ Some r) × (option_map_or (λ kept. kept.ino == ino) (get_or slots r.key None) false ≡ true)
      referred_by None is = cc
      referred_by (Some r) is = (r, refl, is)

  pub open-referred : AreKept slots ever descriptors bindings → (ino : ℕ) → list_any (refers_to_ino slots ino) descriptors ≡ is_open the_tables ino
  open-referred kept ino = same_bool (list_any (refers_to_ino slots ino) descriptors) (list_any (describes ino) the_tables.descriptions) (referred_then_open kept ino) (open_then_referred kept ino)
