-- Slots one by one, and lists of what stands in them.
use Rattle.std.proofs.Common.{◌≡◌, ℕ, ◌+◌, ◌<◌, List, [], ◌∷◌, ◌++◌, length, take, get_or, Bool, Option, Some, None, refl, sym, ◌∙◌, ap, subst, suc, arith, inl, inr}
use Rattle.std.specs.Prelude.{filter, slice_index_or}
use Rattle.std.specs.List.{filter_map}
use Rattle.std.proofs.Math.Seq.{take-suc}
use Rattle.std.proofs.lemmas.List.Elements.{filter-append, filter_map-append}
use Rattle.std.proofs.lemmas.Bool.{cases_lt}
use Rattle.std.proofs.lemmas.List.{get_or_default, get_or_past}
use Rattle.std.proofs.lemmas.Option.{same_Some}
use Rattle.oplog_entry.specs.layout_model.declared.lines.Draft.{Draft}
use Rattle.check_image.specs.image_model.Volume.{Volume}
use Rattle.k_check.specs.Slots.{passing, IsGoodPair, IsGoodSlot, IsGoodWithLater, AreGoodSlots}

abbrev pub items_of : List (Option Draft) → List Draft
items_of slots = filter_map (λ (o : Option Draft). o) slots

passing-one : (p : Draft → Bool) (o : Option Draft) → filter p (items_of (o ∷ [])) ≡ passing p o
passing-one p None = refl
passing-one p (Some d) = refl

passing-more : (p : Draft → Bool) (slots : List (Option Draft)) (k : ℕ) → k < length slots
    → filter p (items_of (take (k + 1) slots)) ≡ filter p (items_of (take k slots)) ++ passing p (get_or slots k None)
passing-more p slots k within =
    ap (λ n. filter p (items_of (take n slots))) {x = k + 1} {y = suc k} (omega arith)
    ∙ ap (λ l. filter p (items_of l)) (take-suc slots k None within)
    ∙ ap (filter p) (filter_map-append (λ (o : Option Draft). o) (take k slots) (get_or slots k None ∷ []))
    ∙ filter-append p (items_of (take k slots)) (items_of (get_or slots k None ∷ []))
    ∙ ap (λ l. filter p (items_of (take k slots)) ++ l) (passing-one p (get_or slots k None))

pub slot-at : (slots : List (Option Draft)) (k : ℕ) (o x : Option Draft) → k < length slots → get_or slots k o ≡ x → get_or slots k None ≡ x
slot-at slots k o x within is = get_or_default slots k None o within ∙ is

pub passing-read : (p : Draft → Bool) (slots : List (Option Draft)) (k : ℕ) (o : Option Draft) (items new : List Draft) → k < length slots
    → items ≡ filter p (items_of (take k slots)) → new ≡ items ++ passing p (get_or slots k o) → new ≡ filter p (items_of (take (k + 1) slots))
passing-read p slots k o items new within before pushed =
    pushed ∙ (λ i. before i ++ passing p (get_or_default slots k o None within i)) ∙ sym (passing-more p slots k within)

-- A pair in slots.
pub slot-none : (v : Volume) (d : Draft) → IsGoodSlot v d None
slot-none v d = record { pair = λ e is. absurd (let never : ⊥ = cc in never) }

pub slot-some : (v : Volume) (d e : Draft) → IsGoodPair v d e → IsGoodSlot v d (Some e)
slot-some v d e good = record { pair = λ x is. subst (IsGoodPair v d) (same_Some e x is) good }

pub later-none : (v : Volume) (slots : List (Option Draft)) (s : ℕ) → IsGoodWithLater v slots s None
later-none v slots s = record { pairs = λ t d after is. absurd (let never : ⊥ = cc in never) }

pub later-some : (v : Volume) (slots : List (Option Draft)) (s : ℕ) (d : Draft)
    → ((t : ℕ) → s < t → t < length slots → IsGoodSlot v d (slice_index_or slots t None)) → IsGoodWithLater v slots s (Some d)
later-some v slots s d each = record {
  pairs = λ t e after is. subst (λ x. IsGoodSlot v x (slice_index_or slots t None)) (same_Some d e is) (elim (cases_lt t (length slots)) [
    | inl within ↦ each t after within
    | inr past ↦ subst (IsGoodSlot v d) (sym (get_or_past slots t None past)) (slot-none v d)
  ]);
}

pub slots-all : (v : Volume) (slots : List (Option Draft)) → ((s : ℕ) → s < length slots → IsGoodWithLater v slots s (slice_index_or slots s None)) → AreGoodSlots v slots
slots-all v slots each s = elim (cases_lt s (length slots)) [
  | inl within ↦ each s within
  | inr past ↦ subst (IsGoodWithLater v slots s) (sym (get_or_past slots s None past)) (later-none v slots s)
]
