-- How many extents a map has, counted file block by file block; and maps that grow by few of them.
use Rattle.std.specs.Prelude.{◌≡◌, ◌≢◌, ℕ, zero, suc, ◌+◌, ◌-◌, ◌<◌, ◌≤◌, ◌==◌, ◌&&◌, ◌||◌, not, Bool, true, false, cond, List, [], ◌∷◌, filter, length, slice_index, Option, Some, None, is_none, is_some, refl}
use Rattle.std.specs.List.{list_any, range_with_len}
use Rattle.std.proofs.Common.{arith, ap, sym, ◌∙◌, inl, inr, get_or, length-append, subst}
use Rattle.std.proofs.lemmas.Bool.{cases_Bool, cases_eq, cases_lt, eq-eqb, ne_eqb}
use Rattle.std.proofs.lemmas.Bool.Decides.{Decides-eqb, nat_tests}
use Rattle.name_laws.specs.k_split_model.block_counts.Counts.{chains_for}
use Rattle.name_laws.specs.k_split_model.image_model.Placed.{no_extent, block_at}
use Rattle.name_laws.specs.k_split_model.extent_model.declared.extent_words.Extent.{Extent}
use Rattle.name_laws.specs.k_split_model.extent_model.Extents.{block_count, ComesAfter, disk_at, disk_in, holds, is_within, IsCanonical, IsExtent}
use Rattle.name_laws.specs.k_split_model.extent_model.Maps.{IsPart}
use Rattle.name_laws.specs.k_split_model.extent_model.Moves.{Moves}
use Rattle.name_laws.specs.volume_laws.extent_model.Counts.{block_count-mapped, count_below, count_below-balance, count_below-more, count_below-none, count_below-range, count_below-zero, is_mapped, one_if}
use Rattle.name_laws.specs.volume_laws.extent_model.Facts.{disk_at_found, IsCanonical-tail}
use Rattle.name_laws.specs.k_split_model.MapChangesChanges.{Fills, holes}
use Rattle.volume_change_laws.specs.Holes.{holes-more, holes-same}
use Rattle.volume_change_laws.specs.Shorts.{AreBelow, length-below, part-below}

-- ---- where an extent begins

-- the disk block of a file block goes on from that of the one before
abbrev pub goes_on : Option ℕ → Option ℕ → Bool
goes_on None after = false
goes_on (Some x) None = false
goes_on (Some x) (Some y) = y == x + 1

abbrev pub disk_before : List Extent → ℕ → Option ℕ
disk_before es zero = None
disk_before es (suc b) = disk_at es b

-- a disk block that does not go on from the one before
abbrev pub starts : Option ℕ → Option ℕ → Bool
starts before None = false
starts before (Some y) = not (goes_on before (Some y))

-- the file block has a disk block, and does not go on from the one before
abbrev pub begins : List Extent → ℕ → Bool
begins es b = starts (disk_before es b) (disk_at es b)

before-is : (es : List Extent) (b : ℕ) → 1 ≤ b → disk_before es b ≡ disk_at es (b - 1)
before-is es zero some = absurd (omega arith)
before-is es (suc b) some = ap (disk_at es) {x = b} {y = suc b - 1} (omega arith)

-- behind an extent nothing is mapped before its end
none-until : (e : Extent) (es : List Extent) (b : ℕ) → IsCanonical (e ∷ es) → b < e.file + e.count → disk_at es b ≡ None
none-until e es b c below = by (disk_at es b) refl
  where
    by : (o : Option ℕ) → disk_at es b ≡ o → disk_at es b ≡ None
    by None is = is
    by (Some x) is =
        let found = disk_at_found es b x no_extent is in
        let after = (c.rising 0 (suc found.0) no_extent (omega arith) (omega (arith, found.1))).after in
        let low : (get_or es found.0 no_extent).file ≤ b = grind (arith, nat_tests, found.2) in
        absurd (omega (arith, after, low, below))

none-before : (e : Extent) (es : List Extent) (b : ℕ) → IsCanonical (e ∷ es) → b < e.file → disk_at (e ∷ es) b ≡ None
none-before e es b c below =
    let is : IsExtent e = c.each 0 e (omega arith) in
    let away : holds e b ≡ false = grind (arith, nat_tests, below) in
    rw away (none-until e es b c (omega (arith, below)))

-- the first block behind an extent does not go on from it
apart-behind : (e : Extent) (es : List Extent) (b : ℕ) → IsCanonical (e ∷ es) → b ≡ e.file + e.count
    → goes_on (Some (disk_in e (e.file + (e.count - 1)))) (disk_at es b) ≡ false
apart-behind e es b c at = by (disk_at es b) refl
  where
    by : (o : Option ℕ) → disk_at es b ≡ o → goes_on (Some (disk_in e (e.file + (e.count - 1)))) o ≡ false
    by None is = refl
    by (Some y) is =
        let found = disk_at_found es b y no_extent is in
        let x : Extent = get_or es found.0 no_extent in
        let first : IsExtent e = c.each 0 e (omega arith) in
        let some = first.filled in
        let after : ComesAfter e x = c.rising 0 (suc found.0) no_extent (omega arith) (omega (arith, found.1)) in
        let low : x.file ≤ b = grind (arith, nat_tests, found.2) in
        let file : e.file + e.count ≡ x.file = omega (arith, after.after, low, at) in
        let own : disk_in x b ≡ y = found.3 in
        ne_eqb y (disk_in e (e.file + (e.count - 1)) + 1) (λ same.
        after.apart (record { file = file; disk = omega (arith, same, own, file, at, some) }))

-- ---- extents, counted where they begin

no-before : (e : Extent) (es : List Extent) (b : ℕ) → IsCanonical (e ∷ es) → b ≡ e.file → disk_before (e ∷ es) b ≡ None
no-before e es zero c at = refl
no-before e es (suc b) c at = none-before e es b c (omega (arith, at))

here-is : (e : Extent) (es : List Extent) (b : ℕ) → holds e b ≡ true → disk_at (e ∷ es) b ≡ Some (disk_in e b)
here-is e es b inside = rw inside refl

there-is : (e : Extent) (es : List Extent) (b : ℕ) → holds e b ≡ false → disk_at (e ∷ es) b ≡ disk_at es b
there-is e es b away = rw away refl

behind-same : (q : Option ℕ) (x : ℕ) → goes_on (Some x) q ≡ false → starts (Some x) q ≡ starts None q
behind-same None x apart = refl
behind-same (Some y) x apart = ap not apart

-- an extent before others begins once, and the others begin where they did
begins-cons : (e : Extent) (es : List Extent) (k : ℕ) → IsCanonical (e ∷ es)
    → one_if (begins (e ∷ es) k) + one_if false ≡ one_if (is_within e.file 1 k) + one_if (begins es k)
begins-cons e es k c = elim (cases_lt k e.file) [
  | inl low ↦
      let window : is_within e.file 1 k ≡ false = grind (arith, nat_tests, low) in
      omega (
        arith,
        ap (λ o. one_if (starts (disk_before (e ∷ es) k) o)) (none-before e es k c low),
        ap (λ o. one_if (starts (disk_before es k) o)) (none-until e es k c (omega (arith, low))),
        ap one_if window,
      )
  | inr high ↦
      let is : IsExtent e = c.each 0 e (omega arith) in
      let filled = is.filled in
      elim (cases_eq k e.file) [
        | inl here ↦
            let window : is_within e.file 1 k ≡ true = grind (arith, nat_tests, here) in
            let inside : holds e k ≡ true = grind (arith, nat_tests, here, filled) in
            let now : starts (disk_before (e ∷ es) k) (disk_at (e ∷ es) k) ≡ true = λ i. starts (no-before e es k c here i) (here-is e es k inside i) in
            omega (
              arith,
              ap one_if now,
              ap (λ o. one_if (starts (disk_before es k) o)) (none-until e es k c (omega (arith, here, filled))),
              ap one_if window,
            )
        | inr past ↦
            let window : is_within e.file 1 k ≡ false = grind (arith, nat_tests, past) in
            let last : disk_before (e ∷ es) k ≡ disk_at (e ∷ es) (k - 1) = before-is (e ∷ es) k (omega (arith, high, past)) in
            elim (cases_lt k (e.file + e.count)) [
              | inl below ↦
                  let inside : holds e k ≡ true = grind (arith, nat_tests, high, below) in
                  let inside_before : holds e (k - 1) ≡ true = grind (arith, nat_tests, high, below, past) in
                  let goes : goes_on (Some (disk_in e (k - 1))) (Some (disk_in e k)) ≡ true = eq-eqb (disk_in e k) (disk_in e (k - 1) + 1) (omega (arith, high, past)) in
                  let now : starts (disk_before (e ∷ es) k) (disk_at (e ∷ es) k) ≡ false =
                  (λ i. starts ((last ∙ here-is e es (k - 1) inside_before) i) (here-is e es k inside i)) ∙ ap not goes
                  in
                  omega (
                    arith,
                    ap one_if now,
                    ap (λ o. one_if (starts (disk_before es k) o)) (none-until e es k c below),
                    ap one_if window,
                  )
              | inr behind ↦
                  let away : holds e k ≡ false = grind (arith, nat_tests, behind) in
                  elim (cases_eq k (e.file + e.count)) [
                    | inl at ↦
                        let inside_before : holds e (k - 1) ≡ true = grind (arith, nat_tests, at, filled) in
                        let place : k - 1 ≡ e.file + (e.count - 1) = omega (arith, at, filled) in
                        let before : disk_before (e ∷ es) k ≡ Some (disk_in e (e.file + (e.count - 1))) =
                        last ∙ here-is e es (k - 1) inside_before ∙ ap (λ b. Some (disk_in e b)) place
                        in
                        let none : disk_before es k ≡ None = before-is es k (omega (arith, at, filled)) ∙ none-until e es (k - 1) c (omega (arith, at, filled)) in
                        let now : starts (disk_before (e ∷ es) k) (disk_at (e ∷ es) k) ≡ starts (disk_before es k) (disk_at es k) =
                        (λ i. starts (before i) (there-is e es k away i))
                        ∙ behind-same (disk_at es k) (disk_in e (e.file + (e.count - 1))) (apart-behind e es k c at)
                        ∙ (λ i. starts (sym none i) (disk_at es k))
                        in
                        omega (arith, ap one_if now, ap one_if window)
                    | inr beyond ↦
                        let away_before : holds e (k - 1) ≡ false = grind (arith, nat_tests, behind, beyond) in
                        let before : disk_before (e ∷ es) k ≡ disk_before es k =
                        last ∙ there-is e es (k - 1) away_before ∙ sym (before-is es k (omega (arith, high, past)))
                        in
                        let now : starts (disk_before (e ∷ es) k) (disk_at (e ∷ es) k) ≡ starts (disk_before es k) (disk_at es k) =
                        λ i. starts (before i) (there-is e es k away i)
                        in
                        omega (arith, ap one_if now, ap one_if window)
                  ]
            ]
      ]
]

-- a map has as many extents as file blocks at which one begins
pub length-begins : (es : List Extent) → IsCanonical es → length es ≡ count_below (begins es) 4096
length-begins [] c = sym (count_below-zero (begins []) 4096 nothing)
  where
    nothing : (b : ℕ) → begins [] b ≡ false
    nothing b = refl
length-begins (e ∷ es) c =
    let is : IsExtent e = c.each 0 e (omega arith) in
    omega (
      arith,
      length-begins es (IsCanonical-tail e es c),
      count_below-zero (λ k. false) 4096 (λ k. refl),
      count_below-range e.file 1 4096 (omega (arith, is.filled, is.in_file)),
      count_below-balance (begins (e ∷ es)) (λ k. false) (λ k. is_within e.file 1 k) (begins es) 4096 (λ k. begins-cons e es k c),
    )

-- ---- maps that grow by few extents

count_below-sum : (f g h : ℕ → Bool) (n : ℕ) → ((k : ℕ) → one_if (f k) ≤ one_if (g k) + one_if (h k)) → count_below f n ≤ count_below g n + count_below h n
unfolding count_below
count_below-sum f g h zero each = omega arith
count_below-sum f g h (suc n) each = omega (arith, count_below-sum f g h n each, each n)

one-most : (x : Bool) → one_if x ≤ 1
one-most true = omega arith
one-most false = omega arith

-- A map that gets `count` blocks of another has at most `count` extents more, and one: at each file block of the range, and
-- at the first one behind it, an extent may begin.
pub length-linked : (from to count : ℕ) (src dst left linked displaced : List Extent) → IsCanonical dst
    → Moves from to count src dst left linked displaced → to + count ≤ 4096 → length linked ≤ length dst + count + 1
length-linked from to count src dst left linked displaced c moves fits =
    omega (
      arith,
      length-begins linked moves.canonical,
      length-begins dst c,
      count_below-sum (begins linked) (begins dst) (λ k. is_within to (count + 1) k) 4096 each,
      count_below-more (λ k. is_within to (count + 1) k) 4096,
      count_below-range to (count + 1) 4097 (omega (arith, fits)),
    )
  where
    outside-is : (k : ℕ) → is_within to count k ≡ false → disk_at linked k ≡ disk_at dst k
    outside-is k out = rw out at (moves.target k)

    each : (k : ℕ) → one_if (begins linked k) ≤ one_if (begins dst k) + one_if (is_within to (count + 1) k)
    each k = elim (cases_Bool (is_within to (count + 1) k)) [
      | inl inside ↦ omega (arith, ap one_if inside, one-most (begins linked k))
      | inr outside ↦
          let out : is_within to count k ≡ false = grind (arith, nat_tests, outside) in
          let before : disk_before linked k ≡ disk_before dst k = by k outside in
          let same : begins linked k ≡ begins dst k = λ i. starts (before i) (outside-is k out i) in
          omega (arith, ap one_if same)
    ]
      where
        by : (k : ℕ) → is_within to (count + 1) k ≡ false → disk_before linked k ≡ disk_before dst k
        by zero outside = refl
        by (suc k) outside = let out : is_within to count k ≡ false = grind (arith, nat_tests, outside) in outside-is k out

-- So the chain of a file takes one block more at most by a relink: a staging file has at most 64 blocks.
pub chain-linked : (from to count : ℕ) (src dst left linked displaced : List Extent) → IsCanonical dst
    → Moves from to count src dst left linked displaced → to + count ≤ 4096 → count ≤ 64
    → chains_for (length linked) ≤ chains_for (length dst) + 1
chain-linked from to count src dst left linked displaced c moves fits few =
    omega (arith, length-linked from to count src dst left linked displaced c moves fits)

-- A file block outside a range is none of its holes.
none-with : (b : Bool) (a k : ℕ) (left : List ℕ) → (a == k) ≡ false → list_any (λ hole. hole == k) left ≡ false
    → list_any (λ hole. hole == k) (cond b (a ∷ left) left) ≡ false
none-with true a k left away rest = rw away rest
none-with false a k left away rest = rest

none-in : (p : ℕ → Bool) (a n k : ℕ) → is_within a n k ≡ false → list_any (λ hole. hole == k) (filter p (range_with_len a n)) ≡ false
none-in p a zero k out = refl
none-in p a (suc n) k out =
    none-with (p a) a k (filter p (range_with_len (a + 1) n)) (grind (arith, nat_tests, out)) (none-in p (a + 1) n k (grind (arith, nat_tests, out)))

-- A map whose holes in a range of `count` file blocks get blocks has at most `count` extents more, and one.
pub length-filled : (first count : ℕ) (fresh : List ℕ) (old new : List Extent) → IsCanonical old → Fills first count fresh old new → first + count ≤ 4096
    → length new ≤ length old + count + 1
length-filled first count fresh old new c fills fits =
    omega (
      arith,
      length-begins new fills.canonical,
      length-begins old c,
      count_below-sum (begins new) (begins old) (λ k. is_within first (count + 1) k) 4096 each,
      count_below-more (λ k. is_within first (count + 1) k) 4096,
      count_below-range first (count + 1) 4097 (omega (arith, fits)),
    )
  where
    outside-is : (k : ℕ) → is_within first count k ≡ false → disk_at new k ≡ disk_at old k
    outside-is k out = fills.others k (none-in (λ b. is_none (disk_at old b)) first count k out)

    each : (k : ℕ) → one_if (begins new k) ≤ one_if (begins old k) + one_if (is_within first (count + 1) k)
    each k = elim (cases_Bool (is_within first (count + 1) k)) [
      | inl inside ↦ omega (arith, ap one_if inside, one-most (begins new k))
      | inr outside ↦
          let out : is_within first count k ≡ false = grind (arith, nat_tests, outside) in
          let before : disk_before new k ≡ disk_before old k = by k outside in
          let same : begins new k ≡ begins old k = λ i. starts (before i) (outside-is k out i) in
          omega (arith, ap one_if same)
    ]
      where
        by : (k : ℕ) → is_within first (count + 1) k ≡ false → disk_before new k ≡ disk_before old k
        by zero outside = refl
        by (suc k) outside = let out : is_within first count k ≡ false = grind (arith, nat_tests, outside) in outside-is k out

-- and that of a staging file does not grow
pub chain-left : (chosen : ℕ → Bool) (src left : List Extent) → IsCanonical src → AreBelow 64 src → IsPart chosen src left
    → chains_for (length left) ≤ chains_for (length src)
chain-left chosen src left c below is = by src below is
  where
    by : (es : List Extent) → AreBelow 64 es → IsPart chosen es left → chains_for (length left) ≤ chains_for (length es)
    by [] low part =
        omega (arith, length-below left 0 part.canonical (part-below chosen [] left 0 part (λ k d within. absurd (omega arith))))
    by (e ∷ es) low part =
        omega (arith, length-below left 64 part.canonical (part-below chosen (e ∷ es) left 64 part low))

-- ---- how many blocks it has more

-- a file block is a hole of the range
abbrev pub is_hole : List Extent → ℕ → ℕ → ℕ → Bool
is_hole es first count k = is_within first count k && is_none (disk_at es k)

-- just those stand in the list of holes
pub any-hole : (p : ℕ → Bool) (a n k : ℕ) → list_any (λ hole. hole == k) (filter p (range_with_len a n)) ≡ (is_within a n k && p k)
any-hole p a zero k = sym (ap (λ b. b && p k) none) where
  none : is_within a zero k ≡ false
  none = grind (arith, nat_tests)
any-hole p a (suc n) k = step (p a) refl (any-hole p (a + 1) n k) where
  step : (b : Bool) → p a ≡ b → list_any (λ hole. hole == k) (filter p (range_with_len (a + 1) n)) ≡ (is_within (a + 1) n k && p k)
      → list_any (λ hole. hole == k) (cond b (a ∷ filter p (range_with_len (a + 1) n)) (filter p (range_with_len (a + 1) n))) ≡ (is_within a (suc n) k && p k)
  step b is rest = elim (cases_eq a k) [
    | inl same ↦
        let test : (a == k) ≡ true = eq-eqb a k same in
        let inside : is_within a (suc n) k ≡ true = grind (arith, nat_tests, same) in
        let outside : is_within (a + 1) n k ≡ false = grind (arith, nat_tests, same) in
        own b test (rest ∙ ap (λ c. c && p k) outside) ∙ (sym is ∙ ap p same) ∙ sym (ap (λ c. c && p k) inside)
    | inr other ↦
        let test : (a == k) ≡ false = ne_eqb a k other in
        let same : is_within a (suc n) k ≡ is_within (a + 1) n k = grind (arith, nat_tests, other) in
        past b test ∙ rest ∙ sym (ap (λ c. c && p k) same)
  ] where
    own : (b : Bool) → (a == k) ≡ true → list_any (λ hole. hole == k) (filter p (range_with_len (a + 1) n)) ≡ false
        → list_any (λ hole. hole == k) (cond b (a ∷ filter p (range_with_len (a + 1) n)) (filter p (range_with_len (a + 1) n))) ≡ b
    own true test rest = ap (λ c. c || list_any (λ hole. hole == k) (filter p (range_with_len (a + 1) n))) test
    own false test rest = rest

    past : (b : Bool) → (a == k) ≡ false
        → list_any (λ hole. hole == k) (cond b (a ∷ filter p (range_with_len (a + 1) n)) (filter p (range_with_len (a + 1) n))) ≡ list_any (λ hole. hole == k) (filter p (range_with_len (a + 1) n))
    past true test = ap (λ c. c || list_any (λ hole. hole == k) (filter p (range_with_len (a + 1) n))) test
    past false test = refl

-- a hole that is found has a place
pub any-at : (xs : List ℕ) (k : ℕ) → list_any (λ hole. hole == k) xs ≡ true → (i : ℕ) × (i < length xs) × (slice_index xs i ≡ k)
any-at [] k found = cc
any-at (x ∷ xs) k found = by (x == k) refl found (any-at xs k) where
  by : (b : Bool) → (x == k) ≡ b → (b || list_any (λ hole. hole == k) xs) ≡ true → (list_any (λ hole. hole == k) xs ≡ true → (i : ℕ) × (i < length xs) × (slice_index xs i ≡ k))
      → (i : ℕ) × (i < length (x ∷ xs)) × (slice_index (x ∷ xs) i ≡ k)
  by true is found rest = (0, omega arith, (Decides-eqb x k).0 is)
  by false is found rest = let at = rest found in (suc at.0, omega (arith, at.1), at.2)

count_none : (f : ℕ → Bool) → count_below f 0 ≡ 0
unfolding count_below
count_none f = refl

holes-counted : (es : List Extent) (first count n : ℕ) → n ≤ count → count_below (is_hole es first count) (first + n) ≡ length (holes es first n)
holes-counted es first count zero le =
    ap (count_below (is_hole es first count)) {x = first + 0} {y = first} (omega arith)
    ∙ count_below-none (is_hole es first count) 0 first (omega arith) (λ b low high. (let out : is_within first count b ≡ false = grind (arith, nat_tests, high) in ap (λ c. c && is_none (disk_at es b)) out))
    ∙ count_none (is_hole es first count)
holes-counted es first count (suc n) le =
    let before = holes-counted es first count n (omega (arith, le)) in
    let one = count_below-more (is_hole es first count) (first + n) in
    let same : count_below (is_hole es first count) (first + suc n) ≡ count_below (is_hole es first count) (first + n + 1) = ap (count_below (is_hole es first count)) {x = first + suc n} {y = first + n + 1} (omega arith) in
    let more : length (holes es first (suc n)) ≡ length (holes es first (n + 1)) = ap (λ m. length (holes es first m)) {x = suc n} {y = n + 1} (omega arith) in
    let inside : is_within first count (first + n) ≡ true = grind (arith, nat_tests, le) in
    elim (cases_Bool (is_none (disk_at es (first + n)))) [
      | inl hole ↦
          let test : is_hole es first count (first + n) ≡ true = ap (λ c. c && is_none (disk_at es (first + n))) inside ∙ hole in
          let grows = holes-more es first n (none_is (disk_at es (first + n)) hole) in
          omega (arith, before, one, same, more, ap one_if test, ap length grows, length-append (holes es first n) ((first + n) ∷ []))
      | inr mapped ↦
          let test : is_hole es first count (first + n) ≡ false = ap (λ c. c && is_none (disk_at es (first + n))) inside ∙ mapped in
          let stays = holes-same es first n mapped in
          omega (arith, before, one, same, more, ap one_if test, ap length stays)
    ]
  where
    none_is : (o : Option ℕ) → is_none o ≡ true → o ≡ None
    none_is None is = refl
    none_is (Some x) is = cc

-- A map whose holes in a range get blocks has as many blocks more as those are.
pub blocks-filled : (first count : ℕ) (fresh : List ℕ) (old new : List Extent) → IsCanonical old → Fills first count fresh old new → first + count ≤ 4096
    → block_count new ≡ block_count old + length fresh
blocks-filled first count fresh old new c fills fits =
    omega (
      arith,
      block_count-mapped new fills.canonical,
      block_count-mapped old c,
      count_below-balance (is_mapped new) (λ b. false) (is_mapped old) (is_hole old first count) 4096 each,
      count_below-zero (λ b. false) 4096 (λ b. refl),
      count_below-none (is_hole old first count) (first + count) 4096 fits (λ b low high. (let out : is_within first count b ≡ false = grind (arith, nat_tests, low) in ap (λ x. x && is_none (disk_at old b)) out)),
      holes-counted old first count count (omega arith),
      fills.each,
    )
  where
    is_there : (o : Option ℕ) (b : ℕ) → o ≡ Some b → is_some o ≡ true
    is_there o b is = ap is_some is

    none_there : (o : Option ℕ) → is_none o ≡ true → is_some o ≡ false
    none_there None is = refl
    none_there (Some x) is = cc

    second : (a b : Bool) → (a && b) ≡ true → b ≡ true
    second true b both = both
    second false b both = cc

    each : (k : ℕ) → one_if (is_mapped new k) + one_if false ≡ one_if (is_mapped old k) + one_if (is_hole old first count k)
    each k = elim (cases_Bool (is_hole old first count k)) [
      | inl hole ↦
          let at = any-at (holes old first count) k (any-hole (λ b. is_none (disk_at old b)) first count k ∙ hole) in
          let put = fills.filled at.0 (omega (arith, at.1, fills.each)) in
          let new_is : is_mapped new k ≡ true = is_there (disk_at new k) (block_at fresh at.0) (ap (disk_at new) (sym at.2) ∙ put) in
          let old_is : is_mapped old k ≡ false = none_there (disk_at old k) (second (is_within first count k) (is_none (disk_at old k)) hole) in
          omega (arith, ap one_if new_is, ap one_if old_is, ap one_if hole)
      | inr none ↦
          let same = fills.others k (any-hole (λ b. is_none (disk_at old b)) first count k ∙ none) in
          let one : is_mapped new k ≡ is_mapped old k = ap is_some same in
          omega (arith, ap one_if one, ap one_if none)
    ]
