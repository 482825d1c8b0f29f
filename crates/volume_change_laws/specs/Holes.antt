-- The holes of a range of a map, and a map whose holes get blocks place by place.
use Rattle.std.proofs.Common.{◌≡◌, ◌≢◌, ℕ, zero, suc, ◌+◌, ◌-◌, ◌<◌, ◌≤◌, Bool, true, false, List, [], ◌∷◌, ◌++◌, length, Option, Some, None, get_or, take, refl, sym, ◌∙◌, ap, inl, inr, arith, subst, length-append}
use Rattle.std.specs.Prelude.{◌==◌, ◌||◌, cond, filter, is_none, slice_index}
use Rattle.std.specs.List.{list_any, range_with_len}
use Rattle.std.proofs.lemmas.Bool.{both_ways, cases_Bool, cases_lt, eq-eqb, ne_eqb}
use Rattle.std.proofs.lemmas.Bool.Decides.{nat_tests}
use Rattle.std.proofs.lemmas.Grind.{get_or_default_zero}
use Rattle.std.proofs.lemmas.List.{append-nil, get_or_append_left, get_or-append_right, get_or-take, length-take-le, take_all, take_more}
use Rattle.std.proofs.lemmas.List.Elements.{filter-append}
use Rattle.std.proofs.lemmas.List.Folds.{list_any-append, list_any_none}
use Rattle.name_laws.specs.k_split_model.image_model.Placed.{block_at}
use Rattle.name_laws.specs.volume_laws.extent_model.Counts.{one_if}
use Rattle.name_laws.specs.k_split_model.extent_model.declared.extent_words.Extent.{Extent}
use Rattle.name_laws.specs.k_split_model.extent_model.Extents.{disk_at, disk_in, holds, IsCanonical}
use Rattle.name_laws.specs.k_split_model.extent_model.Maps.{Replaces}
use Rattle.name_laws.specs.k_split_model.MapChangesChanges.{Fills, holes}
use Rattle.volume_change_laws.specs.Hits.{in_chain-push, in_map-one}
use Rattle.name_laws.specs.volume_laws.Uses.{in_chain, in_map}

-- ---- the holes of a range that grows

ranges-append : (a m n : ℕ) → range_with_len a (m + n) ≡ range_with_len a m ++ range_with_len (a + m) n
ranges-append a zero n =
    ap (range_with_len a) {x = 0 + n} {y = n} (omega arith)
    ∙ ap (λ b. range_with_len b n) {x = a} {y = a + 0} (omega arith)
ranges-append a (suc m) n =
    ap (range_with_len a) {x = suc m + n} {y = suc (m + n)} (omega arith)
    ∙ ap (λ xs. a ∷ xs) (ranges-append (a + 1) m n)
    ∙ ap (λ b. (a ∷ range_with_len (a + 1) m) ++ range_with_len b n) {x = a + 1 + m} {y = a + suc m} (omega arith)

pub holes-append : (es : List Extent) (first m n : ℕ) → holes es first (m + n) ≡ holes es first m ++ holes es (first + m) n
holes-append es first m n =
    ap (filter (λ b. is_none (disk_at es b))) (ranges-append first m n)
    ∙ filter-append (λ b. is_none (disk_at es b)) (range_with_len first m) (range_with_len (first + m) n)

one-hole : (p : ℕ → Bool) (b : ℕ) → p b ≡ true → filter p (range_with_len b 1) ≡ b ∷ []
one-hole p b is = rw is refl

no-hole : (p : ℕ → Bool) (b : ℕ) → p b ≡ false → filter p (range_with_len b 1) ≡ []
no-hole p b is = rw is refl

-- one place more, which is a hole or is none
pub holes-more : (es : List Extent) (first n : ℕ) → disk_at es (first + n) ≡ None → holes es first (n + 1) ≡ holes es first n ++ (first + n) ∷ []
holes-more es first n hole =
    holes-append es first n 1 ∙ ap (λ xs. holes es first n ++ xs) (one-hole (λ b. is_none (disk_at es b)) (first + n) (ap is_none hole))

pub holes-same : (es : List Extent) (first n : ℕ) → is_none (disk_at es (first + n)) ≡ false → holes es first (n + 1) ≡ holes es first n
holes-same es first n mapped =
    holes-append es first n 1 ∙ ap (λ xs. holes es first n ++ xs) (no-hole (λ b. is_none (disk_at es b)) (first + n) mapped)
    ∙ append-nil (holes es first n)

-- the holes of a part of the range are no more
pub holes-fewer : (es : List Extent) (first m n : ℕ) → m ≤ n → length (holes es first m) ≤ length (holes es first n)
holes-fewer es first m n less =
    let rest : m + (n - m) ≡ n = omega arith in
    omega (
      arith,
      ap (λ k. length (holes es first k)) rest,
      ap length (holes-append es first m (n - m)),
      length-append (holes es first m) (holes es (first + m) (n - m)),
    )

-- a hole of the range is one of its places
below-first : (a n : ℕ) (xs : List ℕ) → ((k : ℕ) → k < length xs → get_or xs k 0 < a + 1 + n)
    → (k : ℕ) → k < length (a ∷ xs) → get_or (a ∷ xs) k 0 < a + suc n
below-first a n xs rest zero below = omega arith
below-first a n xs rest (suc k) below = omega (arith, rest k (omega arith))

below-next : (a n : ℕ) (xs : List ℕ) → ((k : ℕ) → k < length xs → get_or xs k 0 < a + 1 + n)
    → (c : Bool) (k : ℕ) → k < length (cond c (a ∷ xs) xs) → get_or (cond c (a ∷ xs) xs) k 0 < a + suc n
below-next a n xs rest true k below = below-first a n xs rest k below
below-next a n xs rest false k below = omega (arith, rest k below)

filter-below : (p : ℕ → Bool) (a n k : ℕ) → k < length (filter p (range_with_len a n)) → get_or (filter p (range_with_len a n)) k 0 < a + n
filter-below p a zero k below = absurd (omega arith)
filter-below p a (suc n) k below = below-next a n (filter p (range_with_len (a + 1) n)) (filter-below p (a + 1) n) (p a) k below

-- ---- place by place

-- The holes of the first n places have the first k of the blocks.
pub record HasFilled (first n : ℕ) (fresh : List ℕ) (k : ℕ) (old mid : List Extent) : Type 0 where
  pub count : k ≡ length (holes old first n)
  pub fills : Fills first n (take k fresh) old mid
  pub blocks : (b : ℕ) → in_map mid b ≡ in_map old b + in_chain (take k fresh) b

pub filled-none : (first : ℕ) (fresh : List ℕ) (old : List Extent) → IsCanonical old → HasFilled first 0 fresh 0 old old
filled-none first fresh old canonical = record {
  count = refl;
  fills = record { canonical = canonical; each = refl; filled = λ k below. absurd (omega arith); others = λ b none. refl };
  blocks = λ b. let none : in_chain [] b ≡ 0 = refl in omega (arith, none);
}

-- the end of the range is none of its holes
beyond : (old : List Extent) (first n b : ℕ) → first + n ≤ b → list_any (λ hole. hole == b) (holes old first n) ≡ false
beyond old first n b past =
    list_any_none (λ hole. hole == b) (holes old first n) (λ k d below.
    let inside = filter-below (λ c. is_none (disk_at old c)) first n k below in
    let same : get_or (holes old first n) k d ≡ get_or (holes old first n) k 0 = get_or_default_zero (holes old first n) k d below in
    ne_eqb (get_or (holes old first n) k d) b (λ is. omega (arith, is, same, inside, past)))

module _ (first n : ℕ) (fresh : List ℕ) (k : ℕ) (old mid : List Extent) (has : HasFilled first n fresh k old mid) where
  -- the next place is as it was
  pub next-is : disk_at mid (first + n) ≡ disk_at old (first + n)
  next-is = has.fills.others (first + n) (beyond old first n (first + n) (omega arith))

  -- it has a disk block
  pub filled-mapped : is_none (disk_at mid (first + n)) ≡ false → HasFilled first (n + 1) fresh k old mid
  filled-mapped mapped =
      let same : holes old first (n + 1) ≡ holes old first n = holes-same old first n (ap is_none (sym next-is) ∙ mapped) in
      record {
        count = has.count ∙ sym (ap length same);
        fills = record {
          canonical = has.fills.canonical;
          each = has.fills.each ∙ sym (ap length same);
          filled = λ j below. ap (λ hs. disk_at mid (slice_index hs j)) same ∙ has.fills.filled j below;
          others = λ b none. has.fills.others b (ap (list_any (λ hole. hole == b)) (sym same) ∙ none);
        };
        blocks = has.blocks;
      }

  -- or it is a hole, and gets the next of the blocks
  module _ (count : ℕ) (hole : disk_at mid (first + n) ≡ None) (size : length fresh ≡ length (holes old first count)) (inside : n < count) where
    was : disk_at old (first + n) ≡ None
    was = sym next-is ∙ hole

    more : holes old first (n + 1) ≡ holes old first n ++ (first + n) ∷ []
    more = holes-more old first n was

    pub next-below : k < length fresh
    next-below =
        omega (
          arith,
          has.count,
          size,
          ap length more,
          length-append (holes old first n) ((first + n) ∷ []),
          holes-fewer old first (n + 1) count (omega arith),
        )

    module _ (new : List Extent) (block : ℕ) (fits : first + count ≤ 4096) (block_is : block ≡ get_or fresh k 0) (puts : Replaces (record { file = first + n; disk = block; count = 1 }) mid new) where
      first-k : length (take k fresh) ≡ k
      first-k = length-take-le k fresh (omega (arith, next-below))

      at-hole : disk_at new (first + n) ≡ Some block
      at-hole =
          let here : holds (record { file = first + n; disk = block; count = 1 }) (first + n) ≡ true = grind (arith, nat_tests) in
          let disk : disk_in (record { file = first + n; disk = block; count = 1 }) (first + n) ≡ block = omega arith in
          let at : disk_at new (first + n) ≡ Some (disk_in (record { file = first + n; disk = block; count = 1 }) (first + n)) = rw here at (puts.blocks (first + n)) in
          at ∙ ap (λ d. Some d) disk

      elsewhere : (b : ℕ) → b ≢ first + n → disk_at new b ≡ disk_at mid b
      elsewhere b apart =
          let away : holds (record { file = first + n; disk = block; count = 1 }) b ≡ false = grind (arith, nat_tests, apart) in
          rw away at (puts.blocks b)

      taken : take (k + 1) fresh ≡ take k fresh ++ block ∷ []
      taken = take_more fresh k 0 next-below ∙ ap (λ x. take k fresh ++ x ∷ []) (sym block_is)

      filled-at : (j : ℕ) → j < k + 1 → disk_at new (slice_index (holes old first (n + 1)) j) ≡ Some (block_at (take (k + 1) fresh) j)
      filled-at j below = elim (cases_lt j k) [
        | inl before ↦
            let inner : j < length (holes old first n) = omega (arith, has.count) in
            let place : slice_index (holes old first (n + 1)) j ≡ slice_index (holes old first n) j =
            ap (λ hs. slice_index hs j) more ∙ get_or_append_left (holes old first n) ((first + n) ∷ []) 0 j inner
            in
            let low = filter-below (λ c. is_none (disk_at old c)) first n j inner in
            let one : block_at (take k fresh) j ≡ block_at fresh j = get_or-take k fresh j 0 before in
            let two : block_at (take (k + 1) fresh) j ≡ block_at fresh j = get_or-take (k + 1) fresh j 0 below in
            ap (disk_at new) place ∙ elsewhere (slice_index (holes old first n) j) (λ same. omega (arith, same, low))
            ∙ has.fills.filled j (omega (arith, first-k)) ∙ ap (λ d. Some d) (one ∙ sym two)
        | inr last ↦
            let is : j ≡ k = omega arith in
            let place : slice_index (holes old first (n + 1)) j ≡ first + n =
            ap (λ hs. slice_index hs j) more ∙ get_or-append_right (holes old first n) ((first + n) ∷ []) k j 0 (sym has.count) (omega arith)
            ∙ ap (λ i. slice_index ((first + n) ∷ []) i) {x = j - k} {y = 0} (omega arith)
            in
            let two : block_at (take (k + 1) fresh) j ≡ block_at fresh j = get_or-take (k + 1) fresh j 0 below in
            ap (disk_at new) place ∙ at-hole ∙ ap (λ d. Some d) (block_is ∙ ap (λ i. get_or fresh i 0) (sym is) ∙ sym two)
      ]

      others-at : (b : ℕ) → list_any (λ h. h == b) (holes old first (n + 1)) ≡ false → disk_at new b ≡ disk_at old b
      others-at b none =
          let either : (list_any (λ h. h == b) (holes old first n) || list_any (λ h. h == b) ((first + n) ∷ [])) ≡ false =
          sym (ap (list_any (λ h. h == b)) more ∙ list_any-append (λ h. h == b) (holes old first n) ((first + n) ∷ [])) ∙ none
          in
          let apart : b ≢ first + n = λ same. absurd (both_ways (list_any (λ h. h == b) ((first + n) ∷ []))
          (or-right (list_any (λ h. h == b) (holes old first n)) (list_any (λ h. h == b) ((first + n) ∷ [])) either) (one-any (first + n) b (sym same)))
          in
          elsewhere b apart ∙ has.fills.others b (or-left (list_any (λ h. h == b) (holes old first n)) (list_any (λ h. h == b) ((first + n) ∷ [])) either)
        where
          or-left : (x y : Bool) → (x || y) ≡ false → x ≡ false
          or-left true y either = either
          or-left false y either = refl

          or-right : (x y : Bool) → (x || y) ≡ false → y ≡ false
          or-right true y either = absurd (both_ways true either refl)
          or-right false y either = either

          one-any : (x y : ℕ) → x ≡ y → list_any (λ h. h == y) (x ∷ []) ≡ true
          one-any x y is = let test : (x == y) ≡ true = eq-eqb x y is in rw test refl

      pub filled-hole : HasFilled first (n + 1) fresh (k + 1) old new
      filled-hole = record {
        count = omega (arith, has.count, ap length more, length-append (holes old first n) ((first + n) ∷ []));
        fills = record {
          canonical = puts.canonical;
          each = omega (arith, length-take-le (k + 1) fresh (omega (arith, next-below)), has.count, ap length more, length-append (holes old first n) ((first + n) ∷ []));
          filled = λ j below. filled-at j (omega (arith, below, length-take-le (k + 1) fresh (omega (arith, next-below))));
          others = others-at;
        };
        blocks = λ b.
            omega (
              arith,
              in_map-one (record { file = first + n; disk = block; count = 1 }) mid new b has.fills.canonical puts refl (omega (arith, inside, fits)) hole,
              has.blocks b,
              ap (λ bs. in_chain bs b) taken,
              in_chain-push (take k fresh) block b,
            );
      }

-- at the end all have theirs
module _ (first count : ℕ) (fresh : List ℕ) (k : ℕ) (old new : List Extent) (has : HasFilled first count fresh k old new)
    (size : length fresh ≡ length (holes old first count)) where
  all : take k fresh ≡ fresh
  all = take_all k fresh (omega (arith, has.count, size))

  pub fills-all : Fills first count fresh old new
  fills-all = subst (λ bs. Fills first count bs old new) all has.fills

  pub blocks-all : (b : ℕ) → in_map new b ≡ in_map old b + in_chain fresh b
  blocks-all b = omega (arith, has.blocks b, ap (λ bs. in_chain bs b) all)
