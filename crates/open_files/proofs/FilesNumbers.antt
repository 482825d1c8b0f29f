-- Descriptions by their numbers: what is kept in the slab, after one slot has changed.
use Rattle.std.specs.Prelude.{◌≡◌, ◌≢◌, ◌⊎◌, ℕ, zero, suc, ◌+◌, ◌<◌, ◌≤◌, true, false, List, [], ◌∷◌, ◌++◌, find, Option, Some, None, get_or, slice_get, slice_set, refl}
use Rattle.std.specs.Option.{option_flatten, option_map}
use Rattle.std.proofs.Common.{ap, ◌∙◌, sym, inl, inr, arith}
use Rattle.std.proofs.lemmas.Bool.{cases_eq}
use Rattle.std.proofs.lemmas.Bool.Decides.{Decides-eqb}
use Rattle.commute_laws.specs.list_laws.Members.{find-In, find-none, In-slice_get, slice_get-In}
use Rattle.slab.specs.Slab.{get, Slab, Updates}
use Rattle.open_files.specs.declared.files.kept.Kept.{Kept}
use Rattle.open_files.specs.Kept.{description_of, has_number, numbered, tabulated}
use Rattle.open_files.proofs.Places.{tabulated-agree, tabulated-more, tabulated-set}

slot_at : (slots : List (Option Kept)) (key : ℕ) (x : Kept) → get_or slots key None ≡ Some x → slice_get slots key ≡ Some (Some x)
slot_at [] key x is = cc
slot_at (y ∷ ys) zero x is = ap Some is
slot_at (y ∷ ys) (suc key) x is = slot_at ys key x is

value_at : (slots : List (Option Kept)) (key : ℕ) (x : Kept) → slice_get slots key ≡ Some (Some x) → get_or slots key None ≡ Some x
value_at [] key x is = cc
value_at (y ∷ ys) zero x is = cc
value_at (y ∷ ys) (suc key) x is = value_at ys key x is

-- a description with this number is kept under a key
pub record KeptAt (slots : List (Option Kept)) (number : ℕ) : Type 0 where
  pub key : ℕ
  pub kept : Kept
  pub at : get_or slots key None ≡ Some kept
  pub number_is : kept.number ≡ number
  pub is : numbered slots number ≡ Some (description_of kept)

-- none is
pub record NotKept (slots : List (Option Kept)) (number : ℕ) : Type 0 where
  pub none : (key : ℕ) (x : Kept) → get_or slots key None ≡ Some x → x.number ≢ number
  pub is : numbered slots number ≡ None

-- no two keys have descriptions with one number
abbrev pub AreDistinct : List (Option Kept) → Type 0
AreDistinct slots = (a b : ℕ) (x y : Kept) → get_or slots a None ≡ Some x → get_or slots b None ≡ Some y → x.number ≡ y.number → a ≡ b

pub numbered_cases : (slots : List (Option Kept)) (number : ℕ) → KeptAt slots number ⊎ NotKept slots number
unfolding numbered
numbered_cases slots number = by (find (has_number number) slots) refl where
  by : (o : Option (Option Kept)) → find (has_number number) slots ≡ o → KeptAt slots number ⊎ NotKept slots number
  by None found = inr (record {
    none = λ key x at same. find-none (has_number number) slots (Some x) found (In-slice_get slots key (Some x) (slot_at slots key x at)) ((Decides-eqb x.number number).1 same);
    is = ap (λ o. option_map description_of (option_flatten o)) found;
  })
  by (Some None) found = let never : false ≡ true = (find-In (has_number number) slots None found).1 in cc
  by (Some (Some x)) found =
      let is = find-In (has_number number) slots (Some x) found in
      let at = slice_get-In slots (Some x) is.0 in
      inl (record {
        key = at.0;
        kept = x;
        at = value_at slots at.0 x at.1;
        number_is = (Decides-eqb x.number number).0 is.1;
        is = ap (λ o. option_map description_of (option_flatten o)) found;
      })

-- what is kept is the description with its number
pub numbered-kept : (slots : List (Option Kept)) (key : ℕ) (x : Kept) → AreDistinct slots → get_or slots key None ≡ Some x
    → numbered slots x.number ≡ Some (description_of x)
numbered-kept slots key x distinct at = elim (numbered_cases slots x.number) [
  | inl found ↦
      let key_is : found.key ≡ key = distinct found.key key found.kept x found.at at found.number_is in
      let both : Some found.kept ≡ Some x = sym found.at ∙ ap (λ k. get_or slots k None) key_is ∙ at in
      let same : found.kept ≡ x = cc in
      found.is ∙ ap (λ (k : Kept). Some (description_of k)) same
  | inr absent ↦ absurd (absent.none key x at refl)
]

pub numbered-none : (slots : List (Option Kept)) (number : ℕ) → ((key : ℕ) (x : Kept) → get_or slots key None ≡ Some x → x.number ≢ number)
    → numbered slots number ≡ None
numbered-none slots number none = elim (numbered_cases slots number) [
  | inl found ↦ absurd (none found.key found.kept found.at found.number_is)
  | inr absent ↦ absent.is
]

-- slots that keep the same with a number have the same description
pub numbered-agree : (old new : List (Option Kept)) (number : ℕ) → AreDistinct new
    → ((key : ℕ) (x : Kept) → x.number ≡ number → get_or old key None ≡ Some x → get_or new key None ≡ Some x)
    → ((key : ℕ) (x : Kept) → x.number ≡ number → get_or new key None ≡ Some x → get_or old key None ≡ Some x)
    → numbered new number ≡ numbered old number
numbered-agree old new number distinct onward back = elim (numbered_cases old number) [
  | inl found ↦
      ap (numbered new) (sym found.number_is) ∙ numbered-kept new found.key found.kept distinct (onward found.key found.kept found.number_is found.at) ∙ sym found.is
  | inr absent ↦ numbered-none new number (λ key x at same. absent.none key x (back key x same at) same) ∙ sym absent.is
]

-- ---- one slot has changed

-- One slot has changed, and its number is the slot's alone, before and after.
pub record ChangesNumber (old new : Slab Kept) (key number : ℕ) (slot : Option Kept) : Type 0 where
  pub updates : Updates old new key slot
  pub after : (y : Kept) → slot ≡ Some y → y.number ≡ number
  pub before : (x : Kept) → get old key ≡ Some x → x.number ≡ number
  pub lone : (k : ℕ) (z : Kept) → k ≢ key → get old k ≡ Some z → z.number ≢ number

-- what a key has after the change: the slot, or what it had
changed_cases : (old new : Slab Kept) (key number : ℕ) (slot : Option Kept) → ChangesNumber old new key number slot
    → (k : ℕ) (z : Kept) → get new k ≡ Some z → ((k ≡ key) × (slot ≡ Some z)) ⊎ ((k ≢ key) × (get old k ≡ Some z))
changed_cases old new key number slot change k z at = elim (cases_eq k key) [
  | inl same ↦ inl (same, sym change.updates.changed ∙ ap (get new) (sym same) ∙ at)
  | inr other ↦ inr (other, sym (change.updates.others k other) ∙ at)
]

pub distinct-changed : (old new : Slab Kept) (key number : ℕ) (slot : Option Kept) → ChangesNumber old new key number slot
    → AreDistinct old.slots → AreDistinct new.slots
distinct-changed old new key number slot change distinct = λ a b x y at_a at_b same. elim (changed_cases old new key number slot change a x at_a) [
  | inl here ↦
      elim (changed_cases old new key number slot change b y at_b) [
        | inl there ↦ here.0 ∙ sym there.0
        | inr there ↦ absurd (change.lone b y there.0 there.1 (sym same ∙ change.after x here.1))
      ]
  | inr here ↦
      elim (changed_cases old new key number slot change b y at_b) [
        | inl there ↦ absurd (change.lone a x here.0 here.1 (same ∙ change.after y there.1))
        | inr there ↦ distinct a b x y here.1 there.1 same
      ]
]

pub below-changed : (old new : Slab Kept) (key number : ℕ) (slot : Option Kept) (opened more : ℕ) → ChangesNumber old new key number slot
    → ((k : ℕ) (z : Kept) → get old k ≡ Some z → z.number < opened) → opened ≤ more → number < more
    → (k : ℕ) (z : Kept) → get new k ≡ Some z → z.number < more
below-changed old new key number slot opened more change below rises within = λ k z at. elim (changed_cases old new key number slot change k z at) [
  | inl here ↦ let same : z.number ≡ number = change.after z here.1 in omega arith
  | inr there ↦ let old_below : z.number < opened = below k z there.1 in omega arith
]

pub numbered-other : (old new : Slab Kept) (key number : ℕ) (slot : Option Kept) → ChangesNumber old new key number slot
    → AreDistinct old.slots → (m : ℕ) → m ≢ number → numbered new.slots m ≡ numbered old.slots m
numbered-other old new key number slot change distinct m other = numbered-agree old.slots new.slots m (distinct-changed old new key number slot change distinct)
    (λ k z is at. elim (cases_eq k key) [
      | inl same ↦ absurd (other (sym is ∙ change.before z (ap (get old) (sym same) ∙ at)))
      | inr apart ↦ change.updates.others k apart ∙ at
    ])
    (λ k z is at. elim (changed_cases old new key number slot change k z at) [
      | inl here ↦ absurd (other (sym is ∙ change.after z here.1))
      | inr there ↦ there.1
    ])

pub numbered-here : (old new : Slab Kept) (key number : ℕ) (slot : Option Kept) → ChangesNumber old new key number slot
    → AreDistinct old.slots → numbered new.slots number ≡ option_map description_of slot
numbered-here old new key number (Some y) change distinct =
    ap (numbered new.slots) (sym (change.after y refl)) ∙ numbered-kept new.slots key y (distinct-changed old new key number (Some y) change distinct) change.updates.changed
numbered-here old new key number None change distinct = numbered-none new.slots number (λ k z at is. elim (changed_cases old new key number None change k z at) [
  | inl here ↦ let never : None ≡ Some z = here.1 in cc
  | inr there ↦ change.lone k z there.0 there.1 is
])

-- the descriptions after the change of one that was opened before
pub descriptions-changed : (old new : Slab Kept) (key number : ℕ) (slot : Option Kept) (opened : ℕ) → ChangesNumber old new key number slot
    → AreDistinct old.slots → number < opened
    → tabulated (numbered new.slots) opened ≡ slice_set (tabulated (numbered old.slots) opened) number (option_map description_of slot)
descriptions-changed old new key number slot opened change distinct within =
    tabulated-set (numbered old.slots) (numbered new.slots) opened number within (λ m below other. numbered-other old new key number slot change distinct m other)
    ∙ ap (λ d. slice_set (tabulated (numbered old.slots) opened) number d) (numbered-here old new key number slot change distinct)

-- and with one more
pub descriptions-added : (old new : Slab Kept) (key opened : ℕ) (y : Kept) → ChangesNumber old new key opened (Some y)
    → AreDistinct old.slots
    → tabulated (numbered new.slots) (opened + 1) ≡ tabulated (numbered old.slots) opened ++ Some (description_of y) ∷ []
descriptions-added old new key opened y change distinct =
    let front = tabulated-agree (numbered old.slots) (numbered new.slots) opened (λ m below. numbered-other old new key opened (Some y) change distinct m (omega arith)) in
    let last = numbered-here old new key opened (Some y) change distinct in
    tabulated-more (numbered new.slots) opened ∙ (λ i. front i ++ last i ∷ [])

-- what is replaced or removed changes one number
pub changes-kept : (old new : Slab Kept) (key : ℕ) (x : Kept) (slot : Option Kept) → Updates old new key slot → AreDistinct old.slots
    → get old key ≡ Some x → ((y : Kept) → slot ≡ Some y → y.number ≡ x.number) → ChangesNumber old new key x.number slot
changes-kept old new key x slot updates distinct at after = record {
  updates = updates;
  after = after;
  before = λ z is. (let both : Some z ≡ Some x = sym is ∙ at in let same : z ≡ x = cc in ap (λ (k : Kept). k.number) same);
  lone = λ k z other is same. other (distinct k key z x is at same);
}

-- what is added has a new number
pub changes-added : (old new : Slab Kept) (key : ℕ) (y : Kept) → Updates old new key (Some y)
    → ((k : ℕ) (z : Kept) → get old k ≡ Some z → z.number < y.number) → get old key ≡ None → ChangesNumber old new key y.number (Some y)
changes-added old new key y updates below vacant = record {
  updates = updates;
  after = λ z is. (let same : y ≡ z = cc in ap (λ (k : Kept). k.number) (sym same));
  before = λ z is. (let never : None ≡ Some z = sym vacant ∙ is in cc);
  lone = λ k z other is same. (let less : z.number < y.number = below k z is in absurd (omega arith));
}
