-- What is kept changes as the tables do.
use Rattle.std.specs.Prelude.{◌≡◌, ◌≢◌, ℕ, ◌+◌, ◌<◌, Bool, true, false, cond, List, length, map, position, is_none, Option, Some, None, IsSome, get_or, slice_set, unwrap_or, refl}
use Rattle.std.specs.List.{list_any}
use Rattle.std.specs.Option.{option_map}
use Rattle.std.proofs.Common.{ap, ◌∙◌, sym, subst, inl, inr, arith}
use Rattle.std.proofs.lemmas.Bool.{cases_eq}
use Rattle.std.proofs.lemmas.Bool.Decides.{Decides-eqb}
use Rattle.std.proofs.lemmas.List.{get_or-set_other, get_or-set_same, map-set}
use Rattle.std.proofs.lemmas.List.Folds.{list_any_at}
use Rattle.posix_types.specs.declared.call.Who.{Who}
use Rattle.posix_types.specs.declared.handle.Handle.{Handle}
use Rattle.posix_tables.specs.declared.open.Binding.{Binding}
use Rattle.posix_tables.specs.Names.{without_place}
use Rattle.posix_tables.specs.Open.{binding_of, closed, description_number, has_key, is_binding, is_full, next_descriptor, Tables, with_binding, with_descriptor, with_offset, with_opened, without_binding, without_unused}
use Rattle.commute_laws.specs.Handles.{closed-is, with_offset-is}
use Rattle.slab.specs.Slab.{get, Slab, Updates}
use Rattle.open_files.specs.declared.files.found.Found.{Found}
use Rattle.open_files.specs.declared.files.kept.Kept.{Kept}
use Rattle.open_files.specs.declared.files.kept.Reference.{Reference}
use Rattle.open_files.specs.Found.{IsFound}
use Rattle.open_files.specs.Kept.{description_of, number_of, numbered, refers_to, tables_of, tabulated}
use Rattle.open_files.specs.Order.{AreInOrder, description_at}
use Rattle.open_files.specs.State.{AreKept}
use Rattle.open_files.proofs.Answering.{description-kept, free_is, number-found, reference_within, same_kept}
use Rattle.open_files.proofs.FilesNumbers.{below-changed, changes-added, changes-kept, ChangesNumber, descriptions-added, descriptions-changed, distinct-changed}
use Rattle.open_files.proofs.OrderLaws.{order-closed, order-with_descriptor, order-with_offset, order-with_opened}
use Rattle.open_files.proofs.Places.{first_place, is_some-of, length-tabulated, number_at, used-references}

-- a binding of a handle to a descriptor
abbrev pub bind_at : Who → Handle → ℕ → Binding
bind_at who handle descriptor = record { who = who; handle = handle; descriptor = descriptor }

place_within : {X : Type 0} (p : X → Bool) (xs : List X) (n : ℕ) → position p xs ≡ Some n → n < length xs
place_within p xs n at = elim (first_place p xs) [
  | inl found ↦ (let both : Some found.0 ≡ Some n = sym found.1.is ∙ at in let same : found.0 ≡ n = cc in subst (λ k. k < length xs) same found.1.within)
  | inr absent ↦ (let never : None ≡ Some n = sym absent.is ∙ at in cc)
]

abbrev pub Refers : List (Option Kept) → Reference → Type 0
Refers slots r = (kept : Kept) × (get_or slots r.key None ≡ Some kept) × (kept.number ≡ r.number)

-- ---- a lowest free descriptor is given

module _ (slots : List (Option Kept)) (ever : ℕ) (descriptors : List (Option Reference)) (bindings : List Binding) (n : ℕ) (at : position (λ slot. is_none slot) descriptors ≡ Some n) where
  abbrev before : Tables
  before = tables_of slots ever descriptors bindings

  pub next_is : n ≡ next_descriptor before
  next_is = sym (ap (λ (o : Option ℕ). unwrap_or o 0) (free_is slots ever descriptors bindings ∙ at))

  pub not_full : is_full before ≡ false
  not_full = ap (λ (o : Option ℕ). is_none o) (free_is slots ever descriptors bindings ∙ at)

  -- a dup's tables
  pub tables-doubled : (who : Who) (handle : Handle) (r : Reference)
      → tables_of slots ever (slice_set descriptors n (Some r)) (with_binding bindings (bind_at who handle n)) ≡ with_descriptor before who handle r.number
  unfolding with_descriptor
  tables-doubled who handle r =
      let numbers : map (option_map number_of) (slice_set descriptors n (Some r)) ≡ slice_set before.descriptors n (Some r.number) = map-set (option_map number_of) descriptors n (Some r) in
      let given : map (option_map number_of) (slice_set descriptors n (Some r)) ≡ slice_set before.descriptors (next_descriptor before) (Some r.number) = numbers ∙ ap (λ k. slice_set before.descriptors k (Some r.number)) next_is in
      λ i. record {
        descriptions = tabulated (numbered slots) ever;
        descriptors = given i;
        handles = with_binding bindings (bind_at who handle (next_is i));
      }

  pub kept-doubled : (who : Who) (handle : Handle) (r : Reference) (d : ℕ) → AreKept slots ever descriptors bindings → get_or descriptors d None ≡ Some r
      → AreKept slots ever (slice_set descriptors n (Some r)) (with_binding bindings (bind_at who handle n))
  kept-doubled who handle r d kept has =
      let of = kept.refers d r has in
      let opens : IsSome (description_at before r.number) = subst (λ k. IsSome (description_at before k)) of.2 (is_some-of (description_at before of.0.number) (description_of of.0) (description-kept slots ever descriptors bindings kept r.key of.0 of.1)) in
      record {
        below = kept.below;
        distinct = kept.distinct;
        refers = λ j r2 there. elim (cases_eq j n) [
          | inl here ↦
              let both : Some r ≡ Some r2 = sym (get_or-set_same descriptors n (Some r) None (place_within (λ slot. is_none slot) descriptors n at)) ∙ ap (λ k. get_or (slice_set descriptors n (Some r)) k None) (sym here) ∙ there in
              let same : r ≡ r2 = cc in
              subst (Refers slots) same of
          | inr apart ↦ kept.refers j r2 (sym (get_or-set_other descriptors n j (Some r) None apart) ∙ there)
        ];
        in_order = subst AreInOrder (sym (tables-doubled who handle r)) (order-with_descriptor before who handle r.number not_full kept.in_order opens);
      }

-- ---- a description is opened

module _ (old new : Slab Kept) (ever : ℕ) (descriptors : List (Option Reference)) (bindings : List Binding) (n : ℕ) (at : position (λ slot. is_none slot) descriptors ≡ Some n)
    (key : ℕ) (x : Kept) (number_is : x.number ≡ ever) (updates : Updates old new key (Some x)) (vacant : get old key ≡ None) (kept : AreKept old.slots ever descriptors bindings) where
  abbrev opening : Tables
  opening = tables_of old.slots ever descriptors bindings

  abbrev referring : Reference
  referring = record { number = ever; key = key }

  change : ChangesNumber old new key ever (Some x)
  change = subst (λ m. ChangesNumber old new key m (Some x)) number_is (changes-added old new key x updates (λ k z is. let less : z.number < ever = kept.below k z is in omega arith) vacant)

  pub tables-opened : (who : Who) (handle : Handle)
      → tables_of new.slots (ever + 1) (slice_set descriptors n (Some referring)) (with_binding bindings (bind_at who handle n)) ≡ with_opened opening who handle (description_of x)
  unfolding with_opened with_descriptor
  tables-opened who handle =
      let added = descriptions-added old new key ever x change kept.distinct in
      let next = next_is old.slots ever descriptors bindings n at in
      let long : ever ≡ length opening.descriptions = sym (length-tabulated (numbered old.slots) ever) in
      let numbers : map (option_map number_of) (slice_set descriptors n (Some referring)) ≡ slice_set opening.descriptors n (Some ever) = map-set (option_map number_of) descriptors n (Some referring) in
      let given : map (option_map number_of) (slice_set descriptors n (Some referring)) ≡ slice_set opening.descriptors (next_descriptor opening) (Some (length opening.descriptions)) =
      numbers ∙ (λ i. slice_set opening.descriptors (next i) (Some (long i))) in
      λ i. record {
        descriptions = added i;
        descriptors = given i;
        handles = with_binding bindings (bind_at who handle (next i));
      }

  pub kept-opened : (who : Who) (handle : Handle)
      → AreKept new.slots (ever + 1) (slice_set descriptors n (Some referring)) (with_binding bindings (bind_at who handle n))
  kept-opened who handle = record {
    below = below-changed old new key ever (Some x) ever (ever + 1) change kept.below (omega arith) (omega arith);
    distinct = distinct-changed old new key ever (Some x) change kept.distinct;
    refers = λ j r2 there. elim (cases_eq j n) [
      | inl here ↦
          let both : Some referring ≡ Some r2 = sym (get_or-set_same descriptors n (Some referring) None (place_within (λ slot. is_none slot) descriptors n at)) ∙ ap (λ k. get_or (slice_set descriptors n (Some referring)) k None) (sym here) ∙ there in
          let same : referring ≡ r2 = cc in
          subst (Refers new.slots) same (x, updates.changed, number_is)
      | inr apart ↦
          let of = kept.refers j r2 (sym (get_or-set_other descriptors n j (Some referring) None apart) ∙ there) in
          let other : r2.key ≢ key = λ same. (let never : None ≡ Some of.0 = sym vacant ∙ ap (get old) (sym same) ∙ of.1 in cc) in
          (of.0, updates.others r2.key other ∙ of.1, of.2)
    ];
    in_order = subst AreInOrder (sym (tables-opened who handle)) (order-with_opened opening who handle (description_of x) (not_full old.slots ever descriptors bindings n at) kept.in_order);
  }

-- ---- an offset is moved

module _ (old new : Slab Kept) (ever : ℕ) (descriptors : List (Option Reference)) (bindings : List Binding)
    (key : ℕ) (x : Kept) (offset : ℕ) (updates : Updates old new key (Some (record x { offset = offset }))) (there : get old key ≡ Some x) (kept : AreKept old.slots ever descriptors bindings) where
  abbrev moving : Tables
  moving = tables_of old.slots ever descriptors bindings

  moves : ChangesNumber old new key x.number (Some (record x { offset = offset }))
  moves = changes-kept old new key x (Some (record x { offset = offset })) updates kept.distinct there (λ y is. let same : record x { offset = offset } ≡ y = cc in ap (λ (k : Kept). k.number) (sym same))

  pub tables-moved : tables_of new.slots ever descriptors bindings ≡ with_offset moving x.number offset
  tables-moved =
      let changed = descriptions-changed old new key x.number (Some (record x { offset = offset })) ever moves kept.distinct (kept.below key x there) in
      (λ i. record { descriptions = changed i; descriptors = map (option_map number_of) descriptors; handles = bindings })
      ∙ sym (with_offset-is moving x.number offset (description_of x) (description-kept old.slots ever descriptors bindings kept key x there))

  pub kept-moved : AreKept new.slots ever descriptors bindings
  kept-moved = record {
    below = below-changed old new key x.number (Some (record x { offset = offset })) ever ever moves kept.below (omega arith) (kept.below key x there);
    distinct = distinct-changed old new key x.number (Some (record x { offset = offset })) moves kept.distinct;
    refers = λ j r is. (let of = kept.refers j r is in
        elim (cases_eq r.key key) [
          | inl here ↦
              let both : Some x ≡ Some of.0 = sym there ∙ ap (get old) (sym here) ∙ of.1 in
              let same : x ≡ of.0 = cc in
              (record x { offset = offset }, ap (get new) here ∙ updates.changed, ap (λ (k : Kept). k.number) same ∙ of.2)
          | inr apart ↦ (of.0, updates.others r.key apart ∙ of.1, of.2)
        ]);
    in_order = subst AreInOrder (sym tables-moved) (order-with_offset moving x.number offset kept.in_order (is_some-of (description_at moving x.number) (description_of x) (description-kept old.slots ever descriptors bindings kept key x there)));
  }

-- ---- a handle is closed

module _ (old new : Slab Kept) (ever : ℕ) (descriptors : List (Option Reference)) (bindings : List Binding) (who : Who) (handle : Handle) (found : Found)
    (is : IsFound old.slots descriptors bindings who handle found) (kept : AreKept old.slots ever descriptors bindings) where
  abbrev closing : Tables
  closing = tables_of old.slots ever descriptors bindings

  abbrev taken : List (Option Reference)
  taken = slice_set descriptors found.binding.descriptor None

  abbrev rest : List Binding
  rest = without_place bindings (position (is_binding found.binding.who found.binding.handle) bindings)

  abbrev left : Tables
  left = record closing { descriptors = slice_set closing.descriptors found.binding.descriptor None; handles = rest }

  numbers_taken : map (option_map number_of) taken ≡ left.descriptors
  numbers_taken = map-set (option_map number_of) descriptors found.binding.descriptor None

  closed_left : (c : Bool) → list_any (refers_to found.reference.number) taken ≡ c
      → closed closing who handle ≡ cond c left (record left { descriptions = slice_set closing.descriptions found.reference.number None })
  unfolding without_binding
  closed_left c used =
      let number : description_number closing.descriptors found.binding.descriptor ≡ Some found.reference.number = number_at descriptors found.binding.descriptor ∙ ap (option_map number_of) is.reference in
      let key_is : unwrap_or (description_number closing.descriptors found.binding.descriptor) 0 ≡ found.reference.number = ap (λ (o : Option ℕ). unwrap_or o 0) number in
      let test : list_any (has_key found.reference.number) left.descriptors ≡ c = ap (list_any (has_key found.reference.number)) (sym numbers_taken) ∙ used-references found.reference.number taken ∙ used in
      closed-is closing who handle found.binding is.bound
      ∙ ap (without_unused left) key_is
      ∙ ap (λ b. cond b left (record left { descriptions = slice_set closing.descriptions found.reference.number None })) test

  -- the references that are left
  rest_refers : (j : ℕ) (r : Reference) → get_or taken j None ≡ Some r → (j ≢ found.binding.descriptor) × (get_or descriptors j None ≡ Some r)
  rest_refers j r there =
      let apart : j ≢ found.binding.descriptor = λ same.
      (let never : None ≡ Some r = sym (get_or-set_same descriptors found.binding.descriptor None None (reference_within descriptors found.binding.descriptor found.reference is.reference)) ∙ ap (λ k. get_or taken k None) (sym same) ∙ there in cc) in
      (apart, sym (get_or-set_other descriptors found.binding.descriptor j None None apart) ∙ there)

  pub tables-closed_used : list_any (refers_to found.reference.number) taken ≡ true → new ≡ old
      → tables_of new.slots ever taken rest ≡ closed closing who handle
  tables-closed_used used same =
      (λ i. record { descriptions = tabulated (numbered (same i).slots) ever; descriptors = numbers_taken i; handles = rest }) ∙ sym (closed_left true used)

  pub kept-closed_used : list_any (refers_to found.reference.number) taken ≡ true → new ≡ old → AreKept new.slots ever taken rest
  kept-closed_used used same = record {
    below = subst (λ (s : Slab Kept). (k : ℕ) (z : Kept) → get s k ≡ Some z → z.number < ever) (sym same) kept.below;
    distinct = subst (λ (s : Slab Kept). (a b : ℕ) (y z : Kept) → get s a ≡ Some y → get s b ≡ Some z → y.number ≡ z.number → a ≡ b) (sym same) kept.distinct;
    refers = λ j r there. subst (λ (s : Slab Kept). Refers s.slots r) (sym same) (kept.refers j r (rest_refers j r there).1);
    in_order = subst AreInOrder (sym (tables-closed_used used same)) (order-closed closing who handle found.binding is.bound kept.in_order);
  }

  module _ (unused : list_any (refers_to found.reference.number) taken ≡ false) (updates : Updates old new found.reference.key None) where
    drops : ChangesNumber old new found.reference.key found.kept.number None
    drops = changes-kept old new found.reference.key found.kept None updates kept.distinct is.kept (λ y never. cc)

    same_number : found.kept.number ≡ found.reference.number
    same_number = number-found old.slots ever descriptors bindings kept who handle found is

    pub tables-closed_unused : tables_of new.slots ever taken rest ≡ closed closing who handle
    tables-closed_unused =
        let changed = descriptions-changed old new found.reference.key found.kept.number None ever drops kept.distinct (kept.below found.reference.key found.kept is.kept)
        ∙ ap (λ k. slice_set closing.descriptions k None) same_number in
        (λ i. record { descriptions = changed i; descriptors = numbers_taken i; handles = rest }) ∙ sym (closed_left false unused)

    pub kept-closed_unused : AreKept new.slots ever taken rest
    kept-closed_unused = record {
      below = below-changed old new found.reference.key found.kept.number None ever ever drops kept.below (omega arith) (kept.below found.reference.key found.kept is.kept);
      distinct = distinct-changed old new found.reference.key found.kept.number None drops kept.distinct;
      refers = λ j r there.
          (let was = rest_refers j r there in
          let of = kept.refers j r was.1 in
          let other : r.key ≢ found.reference.key = λ same.
          (let one : of.0 ≡ found.kept = same_kept old.slots found.reference.key of.0 found.kept (ap (get old) (sym same) ∙ of.1) is.kept in
          let number : r.number ≡ found.reference.number = sym of.2 ∙ ap (λ (k : Kept). k.number) one ∙ same_number in
          let held : list_any (refers_to found.reference.number) taken ≡ true =
          list_any_at (refers_to found.reference.number) taken j None (reference_within taken j r there)
          (ap (refers_to found.reference.number) there ∙ (Decides-eqb r.number found.reference.number).1 number) in
          let never : true ≡ false = sym held ∙ unused in
          cc) in
          (of.0, updates.others r.key other ∙ of.1, of.2));
      in_order = subst AreInOrder (sym tables-closed_unused) (order-closed closing who handle found.binding is.bound kept.in_order);
    }

  -- whichever the case
  module _ (used : list_any (refers_to found.reference.number) taken ≡ true → new ≡ old)
      (unused : list_any (refers_to found.reference.number) taken ≡ false → Updates old new found.reference.key None) where
    pub kept-closed : AreKept new.slots ever taken rest
    kept-closed = by (list_any (refers_to found.reference.number) taken) refl where
      by : (b : Bool) → list_any (refers_to found.reference.number) taken ≡ b → AreKept new.slots ever taken rest
      by true test = kept-closed_used test (used test)
      by false test = kept-closed_unused test (unused test)

    pub tables-closed : tables_of new.slots ever taken rest ≡ closed closing who handle
    tables-closed = by (list_any (refers_to found.reference.number) taken) refl where
      by : (b : Bool) → list_any (refers_to found.reference.number) taken ≡ b → tables_of new.slots ever taken rest ≡ closed closing who handle
      by true test = tables-closed_used test (used test)
      by false test = tables-closed_unused test (unused test)

-- an unknown handle closes nothing
pub closed-unbound : (t : Tables) (who : Who) (handle : Handle) → binding_of t.handles who handle ≡ None → closed t who handle ≡ t
unfolding closed
closed-unbound t who handle bound = rw bound refl
