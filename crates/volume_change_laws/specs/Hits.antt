-- How often a map and a list of blocks have a disk block, counted file block by file block and place by place.
use Rattle.std.specs.Prelude.{◌≡◌, ℕ, zero, suc, ◌+◌, ◌-◌, ◌<◌, ◌≤◌, ◌==◌, ◌&&◌, nat_lt, not, Bool, true, false, List, [], ◌∷◌, ◌++◌, length, Option, Some, None, refl, count_by}
use Rattle.std.specs.List.{range_with_len}
use Rattle.std.proofs.Common.{arith, ap, sym, ◌∙◌, inl, inr, length-append}
use Rattle.std.proofs.lemmas.Bool.{cases_Bool, cases_eq, cases_lt}
use Rattle.std.proofs.lemmas.Bool.Decides.{nat_tests}
use Rattle.std.proofs.lemmas.List.{get_or_append_left, get_or-append_right}
use Rattle.std.proofs.lemmas.List.Sums.{sum_by-cons}
use Rattle.name_laws.specs.k_split_model.extent_model.declared.extent_words.Extent.{Extent}
use Rattle.name_laws.specs.k_split_model.extent_model.Extents.{disk_at, disk_in, holds, holds_disk, is_within, IsCanonical, IsExtent}
use Rattle.name_laws.specs.k_split_model.extent_model.Maps.{IsPart, Replaces}
use Rattle.name_laws.specs.k_split_model.extent_model.Moves.{Moves}
use Rattle.name_laws.specs.volume_laws.extent_model.Counts.{count_below, count_below-agree, count_below-balance, count_below-more, count_below-range, count_below-zero, one_if}
use Rattle.name_laws.specs.volume_laws.extent_model.Facts.{IsCanonical-tail}
use Rattle.name_laws.specs.volume_laws.extent_model.Spelling.{none_behind}
use Rattle.name_laws.specs.k_split_model.image_model.Placed.{block_at}
use Rattle.name_laws.specs.volume_laws.Uses.{in_chain, in_map}
use Rattle.name_laws.specs.k_split_model.MapChangesChanges.{HasInOrder}

-- whether a file block has the disk block
abbrev pub is_disk : Option ℕ → ℕ → Bool
is_disk None b = false
is_disk (Some d) b = d == b

abbrev pub hits : List Extent → ℕ → ℕ → Bool
hits es b k = is_disk (disk_at es k) b

-- ---- counts

-- a sum of two parts
pub count_below-add : (f : ℕ → Bool) (m n : ℕ) → count_below f (m + n) ≡ count_below f m + count_below (λ k. f (m + k)) n
unfolding count_below
count_below-add f m zero = ap (count_below f) {x = m + 0} {y = m} (omega arith) ∙ omega arith
count_below-add f m (suc n) =
    let step : count_below f (m + suc n) ≡ count_below f (m + n) + one_if (f (m + n)) = ap (count_below f) {x = m + suc n} {y = suc (m + n)} (omega arith) in
    omega (arith, step, count_below-add f m n)

count_below-one : (x : Bool) → count_below (λ k. x) 1 ≡ one_if x
unfolding count_below
count_below-one x = omega arith

-- a window: only numbers from `first` on and before its end count
pub count_below-window : (g : ℕ → Bool) (first count n : ℕ) → first + count ≤ n
    → count_below (λ k. is_within first count k && g (k - first)) n ≡ count_below g count
count_below-window g first count n fits =
    let f : ℕ → Bool = λ k. is_within first count k && g (k - first) in
    let rest : ℕ = n - (first + count) in
    let whole : count_below f n ≡ count_below f (first + count + rest) = ap (count_below f) {x = n} {y = first + count + rest} (omega arith) in
    let before : count_below f first ≡ 0 =
    count_below-agree f (λ k. false) first (λ k below. let out : is_within first count k ≡ false = grind (arith, nat_tests) in ap (λ x. x && g (k - first)) out)
    ∙ count_below-zero (λ k. false) first (λ k. refl)
    in
    let inside : count_below (λ k. f (first + k)) count ≡ count_below g count =
    count_below-agree (λ k. f (first + k)) g count (λ k below.
    let within : is_within first count (first + k) ≡ true = grind (arith, nat_tests) in
    let place : first + k - first ≡ k = omega arith in
    λ i. within i && g (place i))
    in
    let behind : count_below (λ k. f (first + count + k)) rest ≡ 0 =
    count_below-zero (λ k. f (first + count + k)) rest (λ k.
    let out : is_within first count (first + count + k) ≡ false = grind (arith, nat_tests) in
    ap (λ x. x && g (first + count + k - first)) out)
    in
    omega (arith, whole, count_below-add f (first + count) rest, count_below-add f first count, before, inside, behind)

-- numbers in a row, counted either way
pub count_by-below : (p : ℕ → Bool) (a n : ℕ) → count_by p (range_with_len a n) + count_below p a ≡ count_below p (a + n)
count_by-below p a zero =
    let same : count_below p a ≡ count_below p (a + 0) = ap (count_below p) {x = a} {y = a + 0} (omega arith) in
    omega (arith, same)
count_by-below p a (suc n) =
    let rest = count_by-below p (a + 1) n in
    let same : count_below p (a + 1 + n) ≡ count_below p (a + suc n) = ap (count_below p) {x = a + 1 + n} {y = a + suc n} (omega arith) in
    omega (arith, sum_by-cons (λ k. one_if (p k)) a (range_with_len (a + 1) n), rest, same, count_below-more p a)

-- ---- a list of blocks

pub in_chain-below : (blocks : List ℕ) (b : ℕ) → in_chain blocks b ≡ count_below (λ k. block_at blocks k == b) (length blocks)
unfolding count_below
in_chain-below blocks b =
    let p : ℕ → Bool = λ k. block_at blocks k == b in
    let same : count_below p (0 + length blocks) ≡ count_below p (length blocks) = ap (count_below p) {x = 0 + length blocks} {y = length blocks} (omega arith) in
    omega (arith, count_by-below p 0 (length blocks), same)

pub in_chain-append : (xs ys : List ℕ) (b : ℕ) → in_chain (xs ++ ys) b ≡ in_chain xs b + in_chain ys b
in_chain-append xs ys b =
    let p : ℕ → Bool = λ k. block_at (xs ++ ys) k == b in
    let size : count_below p (length (xs ++ ys)) ≡ count_below p (length xs + length ys) = ap (count_below p) (length-append xs ys) in
    let first : count_below p (length xs) ≡ count_below (λ k. block_at xs k == b) (length xs) =
    count_below-agree p (λ k. block_at xs k == b) (length xs) (λ k below. ap (λ d. d == b) (get_or_append_left xs ys 0 k below))
    in
    let second : count_below (λ k. p (length xs + k)) (length ys) ≡ count_below (λ k. block_at ys k == b) (length ys) =
    count_below-agree (λ k. p (length xs + k)) (λ k. block_at ys k == b) (length ys) (λ k below.
    ap (λ d. d == b) (get_or-append_right xs ys (length xs) (length xs + k) 0 refl (omega arith) ∙ ap (block_at ys) (omega arith)))
    in
    omega (arith, in_chain-below (xs ++ ys) b, in_chain-below xs b, in_chain-below ys b, size, count_below-add p (length xs) (length ys), first, second)

-- a list with one block more
pub in_chain-push : (blocks : List ℕ) (block b : ℕ) → in_chain (blocks ++ block ∷ []) b ≡ in_chain blocks b + one_if (block == b)
in_chain-push blocks block b =
    let one : in_chain (block ∷ []) b ≡ one_if (block == b) = omega arith in
    omega (arith, in_chain-append blocks (block ∷ []) b, one)

pub in_chain-none : (b : ℕ) → in_chain [] b ≡ 0
in_chain-none b = refl

-- ---- a map

-- the file block that an extent gives a disk block
own : (e : Extent) (b : ℕ) → IsExtent e → count_below (λ k. holds e k && (disk_in e k == b)) 4096 ≡ one_if (holds_disk e b)
own e b is = elim (cases_Bool (holds_disk e b)) [
  | inl has ↦
      let p : ℕ = e.file + (b - e.disk) in
      let low : e.disk ≤ b = grind (arith, nat_tests, has) in
      let high : b < e.disk + e.count = grind (arith, nat_tests, has) in
      let in_file = is.in_file in
      let each : (k : ℕ) → (holds e k && (disk_in e k == b)) ≡ is_within p 1 k = λ k. grind (arith, nat_tests, low, high) in
      count_below-agree (λ k. holds e k && (disk_in e k == b)) (λ k. is_within p 1 k) 4096 (λ k below. each k)
      ∙ count_below-range p 1 4096 (omega arith) ∙ sym (ap one_if has)
  | inr not_here ↦
      let each : (k : ℕ) → (holds e k && (disk_in e k == b)) ≡ false = λ k. grind (arith, nat_tests, not_here) in
      count_below-zero (λ k. holds e k && (disk_in e k == b)) 4096 each ∙ sym (ap one_if not_here)
]

-- a canonical map has a disk block as often as its file blocks have it
pub in_map-hits : (es : List Extent) (b : ℕ) → IsCanonical es → in_map es b ≡ count_below (hits es b) 4096
in_map-hits [] b c = sym (count_below-zero (hits [] b) 4096 (λ k. refl))
in_map-hits (e ∷ es) b c =
    let each : (k : ℕ) → one_if (hits (e ∷ es) b k) + one_if false ≡ one_if (holds e k && (disk_in e k == b)) + one_if (hits es b k) = λ k. elim (cases_Bool (holds e k)) [
      | inl here ↦ rw (here, none_behind e es c k here) refl
      | inr away ↦ rw away (omega arith)
    ] in
    omega (
      arith,
      sum_by-cons (λ (x : Extent). one_if (holds_disk x b)) e es,
      in_map-hits es b (IsCanonical-tail e es c),
      own e b (c.each 0 e (omega arith)),
      count_below-zero (λ k. false) 4096 (λ k. refl),
      count_below-balance (hits (e ∷ es) b) (λ k. false) (λ k. holds e k && (disk_in e k == b)) (hits es b) 4096 each,
    )

-- ---- parts, moves and fills, disk block by disk block

-- two parts of a map, one of the chosen file blocks and one of the others, have together what the map has
pub in_map-parts : (chosen other : ℕ → Bool) (whole part rest : List Extent) (b : ℕ) → IsCanonical whole → IsPart chosen whole part
    → IsPart other whole rest → ((k : ℕ) → other k ≡ not (chosen k)) → in_map part b + in_map rest b ≡ in_map whole b
in_map-parts chosen other whole part rest b c is others apart =
    let each : (k : ℕ) → one_if (hits part b k) + one_if (hits rest b k) ≡ one_if (hits whole b k) + one_if false = λ k. elim (cases_Bool (chosen k)) [
      | inl in_part ↦
          let one : disk_at part k ≡ disk_at whole k = rw in_part at (is.blocks k) in
          let none : other k ≡ false = apart k ∙ ap not in_part in
          let two : disk_at rest k ≡ None = rw none at (others.blocks k) in
          omega (arith, ap (λ d. one_if (is_disk d b)) one, ap (λ d. one_if (is_disk d b)) two)
      | inr not_in ↦
          let one : disk_at part k ≡ None = rw not_in at (is.blocks k) in
          let all : other k ≡ true = apart k ∙ ap not not_in in
          let two : disk_at rest k ≡ disk_at whole k = rw all at (others.blocks k) in
          omega (arith, ap (λ d. one_if (is_disk d b)) one, ap (λ d. one_if (is_disk d b)) two)
    ] in
    omega (
      arith,
      in_map-hits part b is.canonical,
      in_map-hits rest b others.canonical,
      in_map-hits whole b c,
      count_below-zero (λ k. false) 4096 (λ k. refl),
      count_below-balance (hits part b) (hits rest b) (hits whole b) (λ k. false) 4096 each,
    )

-- the blocks that a map has in a range, in order
pub record AreAt (es : List Extent) (from : ℕ) (blocks : List ℕ) : Type 0 where
  pub each : (k : ℕ) → k < length blocks → disk_at es (from + k) ≡ Some (block_at blocks k)

-- a window of a map at another place
window : ℕ → ℕ → ℕ → List Extent → ℕ → ℕ → Bool
window from to count es b k = is_within to count k && hits es b (from + (k - to))

counted-window : (es : List Extent) (from to : ℕ) (blocks : List ℕ) (b : ℕ) → AreAt es from blocks → to + length blocks ≤ 4096
    → count_below (window from to (length blocks) es b) 4096 ≡ in_chain blocks b
unfolding window
counted-window es from to blocks b are fits =
    count_below-window (λ k. hits es b (from + k)) to (length blocks) 4096 fits
    ∙ count_below-agree (λ k. hits es b (from + k)) (λ k. block_at blocks k == b) (length blocks) (λ k below. ap (λ d. is_disk d b) (are.each k below))
    ∙ sym (in_chain-below blocks b)

-- a map without the blocks of a range has those that it had, but for the blocks of the range
pub in_map-left : (from count : ℕ) (src left : List Extent) (blocks : List ℕ) (b : ℕ) → IsCanonical src
    → IsPart (λ k. not (is_within from count k)) src left → AreAt src from blocks → length blocks ≡ count → from + count ≤ 4096
    → in_map left b + in_chain blocks b ≡ in_map src b
unfolding window
in_map-left from count src left blocks b c is are size fits =
    let each : (k : ℕ) → one_if (hits left b k) + one_if (window from from (length blocks) src b k) ≡ one_if (hits src b k) + one_if false = λ k. elim (cases_Bool (is_within from (length blocks) k)) [
      | inl inside ↦
          let within : is_within from count k ≡ true = ap (λ n. is_within from n k) (sym size) ∙ inside in
          let gone : disk_at left k ≡ None = rw within at (is.blocks k) in
          let place : from + (k - from) ≡ k = grind (arith, nat_tests, inside) in
          omega (arith, ap (λ d. one_if (is_disk d b)) gone, ap (λ x. one_if (x && hits src b (from + (k - from)))) inside, ap (λ n. one_if (hits src b n)) place)
      | inr outside ↦
          let without : is_within from count k ≡ false = ap (λ n. is_within from n k) (sym size) ∙ outside in
          let same : disk_at left k ≡ disk_at src k = rw without at (is.blocks k) in
          omega (arith, ap (λ d. one_if (is_disk d b)) same, ap (λ x. one_if (x && hits src b (from + (k - from)))) outside)
    ] in
    omega (
      arith,
      in_map-hits left b is.canonical,
      in_map-hits src b c,
      counted-window src from from blocks b are (omega (arith, size)),
      count_below-zero (λ k. false) 4096 (λ k. refl),
      count_below-balance (hits left b) (window from from (length blocks) src b) (hits src b) (λ k. false) 4096 each,
    )

-- a map that gets blocks has them, and what it had but for what they displace
pub in_map-linked : (from to count : ℕ) (src dst left linked displaced : List Extent) (blocks : List ℕ) (b : ℕ) → IsCanonical dst
    → Moves from to count src dst left linked displaced → AreAt src from blocks → length blocks ≡ count → to + count ≤ 4096
    → in_map linked b + in_map displaced b ≡ in_map dst b + in_chain blocks b
unfolding window
in_map-linked from to count src dst left linked displaced blocks b c moves are size fits =
    let each : (k : ℕ) → one_if (hits linked b k) + one_if (hits displaced b k) ≡ one_if (hits dst b k) + one_if (window from to (length blocks) src b k) = λ k. elim (cases_Bool (is_within to (length blocks) k)) [
      | inl inside ↦
          let within : is_within to count k ≡ true = ap (λ n. is_within to n k) (sym size) ∙ inside in
          let got : disk_at linked k ≡ disk_at src (from + (k - to)) = rw within at (moves.target k) in
          let was : disk_at displaced k ≡ disk_at dst k = rw within at (moves.freed.blocks k) in
          omega (arith, ap (λ d. one_if (is_disk d b)) got, ap (λ d. one_if (is_disk d b)) was, ap (λ x. one_if (x && hits src b (from + (k - to)))) inside)
      | inr outside ↦
          let without : is_within to count k ≡ false = ap (λ n. is_within to n k) (sym size) ∙ outside in
          let same : disk_at linked k ≡ disk_at dst k = rw without at (moves.target k) in
          let none : disk_at displaced k ≡ None = rw without at (moves.freed.blocks k) in
          omega (arith, ap (λ d. one_if (is_disk d b)) same, ap (λ d. one_if (is_disk d b)) none, ap (λ x. one_if (x && hits src b (from + (k - to)))) outside)
    ] in
    omega (
      arith,
      in_map-hits linked b moves.canonical,
      in_map-hits displaced b moves.freed.canonical,
      in_map-hits dst b c,
      counted-window src from to blocks b are (omega (arith, size)),
      count_below-balance (hits linked b) (hits displaced b) (hits dst b) (window from to (length blocks) src b) 4096 each,
    )

-- blocks in order, from file block 0 on
pub in_map-in_order : (fresh : List ℕ) (es : List Extent) (b : ℕ) → HasInOrder fresh es → length fresh ≤ 4096 → in_map es b ≡ in_chain fresh b
in_map-in_order fresh es b is few =
    let each : (k : ℕ) → hits es b k ≡ (is_within 0 (length fresh) k && (block_at fresh (k - 0) == b)) = λ k. elim (cases_lt k (length fresh)) [
      | inl below ↦
          let inside : is_within 0 (length fresh) k ≡ true = grind (arith, nat_tests, below) in
          let test : nat_lt k (length fresh) ≡ true = grind (arith, nat_tests, below) in
          let at : disk_at es k ≡ Some (block_at fresh k) = rw test at (is.blocks k) in
          let place : k - 0 ≡ k = omega arith in
          ap (λ d. is_disk d b) at ∙ sym (λ i. inside i && (block_at fresh (place i) == b))
      | inr past ↦
          let outside : is_within 0 (length fresh) k ≡ false = grind (arith, nat_tests, past) in
          let test : nat_lt k (length fresh) ≡ false = grind (arith, nat_tests, past) in
          let at : disk_at es k ≡ None = rw test at (is.blocks k) in
          ap (λ d. is_disk d b) at ∙ sym (ap (λ x. x && (block_at fresh (k - 0) == b)) outside)
    ] in
    in_map-hits es b is.canonical
    ∙ count_below-agree (hits es b) (λ k. is_within 0 (length fresh) k && (block_at fresh (k - 0) == b)) 4096 (λ k below. each k)
    ∙ count_below-window (λ k. block_at fresh k == b) 0 (length fresh) 4096 (omega arith)
    ∙ sym (in_chain-below fresh b)

-- a run of one block in a hole
pub in_map-one : (run : Extent) (old new : List Extent) (b : ℕ) → IsCanonical old → Replaces run old new → run.count ≡ 1 → run.file < 4096
    → disk_at old run.file ≡ None → in_map new b ≡ in_map old b + one_if (run.disk == b)
in_map-one run old new b c is one below hole =
    let each : (k : ℕ) → one_if (hits new b k) + one_if false ≡ one_if (hits old b k) + one_if (is_within run.file 1 k && (run.disk == b)) = λ k. elim (cases_eq k run.file) [
      | inl here ↦
          let inside : is_within run.file 1 k ≡ true = grind (arith, nat_tests, here) in
          let holds_it : holds run k ≡ true = grind (arith, nat_tests, here, one) in
          let at : disk_at new k ≡ Some (disk_in run k) = rw holds_it at (is.blocks k) in
          let disk : disk_in run k ≡ run.disk = omega (arith, here) in
          let was : disk_at old k ≡ None = ap (disk_at old) here ∙ hole in
          omega (arith, ap (λ d. one_if (is_disk d b)) at, ap (λ d. one_if (is_disk d b)) was, ap (λ x. one_if (x && (run.disk == b))) inside, ap (λ n. one_if (n == b)) disk)
      | inr apart ↦
          let outside : is_within run.file 1 k ≡ false = grind (arith, nat_tests, apart) in
          let not_held : holds run k ≡ false = grind (arith, nat_tests, apart, one) in
          let at : disk_at new k ≡ disk_at old k = rw not_held at (is.blocks k) in
          omega (arith, ap (λ d. one_if (is_disk d b)) at, ap (λ x. one_if (x && (run.disk == b))) outside)
    ] in
    let single : count_below (λ k. run.disk == b) 1 ≡ one_if (run.disk == b) = count_below-one (run.disk == b) in
    omega (
      arith,
      in_map-hits new b is.canonical,
      in_map-hits old b c,
      count_below-zero (λ k. false) 4096 (λ k. refl),
      count_below-window (λ k. run.disk == b) run.file 1 4096 (omega arith),
      single,
      count_below-balance (hits new b) (λ k. false) (hits old b) (λ k. is_within run.file 1 k && (run.disk == b)) 4096 each,
    )
