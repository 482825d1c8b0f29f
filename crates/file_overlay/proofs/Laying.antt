-- The pieces with a run over them: the fronts of those that begin before it, the run, and the backs of those that end behind it.
use Rattle.std.specs.Prelude.{◌≡◌, ℕ, ◌+◌, ◌-◌, ◌<◌, ◌≤◌, max, min, cond, true, false, Bool, List, [], ◌∷◌, ◌++◌, length, map, take, drop, Option, Some, None}
use Rattle.std.specs.Option.{option_map}
use Rattle.std.proofs.Common.{arith, ap, find, reverse, subst, sym, ◌∙◌, inl, inr, refl}
use Rattle.std.proofs.lemmas.Bool.{cases_Bool, cases_lt}
use Rattle.std.proofs.lemmas.Bool.Decides.{nat_tests}
use Rattle.std.proofs.lemmas.List.{get_or-append_right, get_or_append_left, get_or-drop, get_or-map, get_or-take, length-append, length-drop, length-map, length-take, reverse-append}
use Rattle.file_overlay.specs.declared.runs.Run.{Run}
use Rattle.file_overlay.specs.Laws.{LaidHides}
use Rattle.file_overlay.specs.Runs.{FitsRun, has_block, place_in, staged_at}
use Rattle.file_overlay.specs.Pieces.{back_of, end_of, front_of, no_block, piece_at, AreApart, ArePieces, IsBegun, IsEnded}

-- the blocks that a piece has
pub has_from : (b : ℕ) (p : Run) → has_block b p ≡ true → p.file_block ≤ b
has_from b p has = grind (arith, nat_tests)

pub has_to : (b : ℕ) (p : Run) → has_block b p ≡ true → b < end_of p
has_to b p has = grind (arith, nat_tests)

pub has_it : (b : ℕ) (p : Run) → p.file_block ≤ b → b < end_of p → has_block b p ≡ true
has_it b p from to = grind (arith, nat_tests)

pub has_before : (b : ℕ) (p : Run) → b < p.file_block → has_block b p ≡ false
has_before b p before = grind (arith, nat_tests)

pub has_behind : (b : ℕ) (p : Run) → end_of p ≤ b → has_block b p ≡ false
has_behind b p behind = grind (arith, nat_tests)

-- pieces that lie apart begin one behind the other
pub begin_in_order : (ps : List Run) → AreApart ps → (i j : ℕ) → i ≤ j → j < length ps → (piece_at ps i).file_block ≤ (piece_at ps j).file_block
begin_in_order ps lie i j order below = elim (cases_lt i j) [
  | inl before ↦ omega (arith, lie.apart i j before below)
  | inr same ↦ (let is : i ≡ j = omega (arith, order, same) in subst (λ (k : ℕ). (piece_at ps i).file_block ≤ (piece_at ps k).file_block) is (omega arith))
]

-- those before the last one that begins before a block end before it
pub end_in_order : (ps : List Run) → AreApart ps → (b n k : ℕ) → IsBegun ps b n → k + 1 < n → end_of (piece_at ps k) < b
end_in_order ps lie b n k begun low =
    let last : n - 1 < n = omega (arith, low) in
    omega (arith, lie.apart k (n - 1) (omega (arith, low)) (omega (arith, low, begun.within)), begun.before (n - 1) last)

-- a run that is laid last has its blocks, and each other block is found as before
pub laid_hides : LaidHides
laid_hides runs run block =
    let behind : Option Run = find (has_block block) (reverse runs) in
    ap (λ xs. option_map (place_in block) (find (has_block block) xs)) (reverse-append runs (run ∷ []))
    ∙ elim (has_block block run) as (λ h. option_map (place_in block) (cond h (Some run) behind) ≡ cond h (Some (place_in block run)) (option_map (place_in block) behind)) [
      | true ↦ refl
      | false ↦ refl
    ]

-- the blocks of a front, and of a back
front_has : (b e : ℕ) (p : Run) → has_block b (front_of e p) ≡ true → (has_block b p ≡ true) × (b < e)
front_has b e p has =
    let from = has_from b (front_of e p) has in
    let to = has_to b (front_of e p) has in
    (has_it b p from (omega (arith, from, to)), omega (arith, from, to))

front_gets : (b e : ℕ) (p : Run) → has_block b p ≡ true → b < e → has_block b (front_of e p) ≡ true
front_gets b e p has before =
    let from = has_from b p has in
    let to = has_to b p has in
    has_it b (front_of e p) from (omega (arith, from, to, before))

back_has : (b e : ℕ) (p : Run) → e ≤ end_of p → has_block b (back_of e p) ≡ true → (has_block b p ≡ true) × (e ≤ b)
back_has b e p ends has =
    let from = has_from b (back_of e p) has in
    let to = has_to b (back_of e p) has in
    (has_it b p (omega (arith, from, to)) (omega (arith, from, to, ends)), omega (arith, from))

back_gets : (b e : ℕ) (p : Run) → e ≤ end_of p → has_block b p ≡ true → e ≤ b → has_block b (back_of e p) ≡ true
back_gets b e p ends has behind =
    let from = has_from b p has in
    let to = has_to b p has in
    has_it b (back_of e p) (omega (arith, from, behind)) (omega (arith, from, to, ends, behind))

back_place : (b e : ℕ) (p : Run) → has_block b p ≡ true → e ≤ b → place_in b (back_of e p) ≡ place_in b p
back_place b e p has behind =
    let from = has_from b p has in
    let same : p.staging_block + (e - p.file_block) + (b - max p.file_block e) ≡ p.staging_block + (b - p.file_block) = omega (arith, from, behind) in
    ap (λ (n : ℕ). (p.staging, n)) same

never : {A : Type 0} (x : Bool) → x ≡ true → x ≡ false → A
never x has lacks = absurd (let both : true ≡ false = sym has ∙ lacks in cc)

module _ (ps xs ys : List Run) (run : Run) (a c : ℕ) (lie : AreApart ps) (fits : FitsRun run)
    (begun : IsBegun ps run.file_block a) (ended : IsEnded ps (end_of run) c)
    (front_size : length xs ≡ a) (front_is : (k : ℕ) → k < a → piece_at xs k ≡ piece_at ps k)
    (back_size : length ys + c ≡ length ps) (back_is : (j : ℕ) → c + j < length ps → piece_at ys j ≡ piece_at ps (c + j)) where
  abbrev fronts : List Run
  fronts = map (front_of run.file_block) xs

  abbrev backs : List Run
  backs = map (back_of (end_of run)) ys

  abbrev laid : List Run
  laid = (fronts ++ run ∷ []) ++ backs

  fronts_size : length fronts ≡ a
  fronts_size = length-map xs (front_of run.file_block) ∙ front_size

  with_run_size : length (fronts ++ run ∷ []) ≡ a + 1
  with_run_size = length-append fronts (run ∷ []) ∙ ap (λ n. n + 1) fronts_size

  laid_size : length laid ≡ a + 1 + length ys
  laid_size = length-append (fronts ++ run ∷ []) backs ∙ (λ i. with_run_size i + length-map ys (back_of (end_of run)) i)

  pub at_most_one_more : a ≤ c + 1
  at_most_one_more = elim (cases_lt (c + 1) a) [
    | inl more ↦ omega (arith, lie.apart c (a - 1) (omega (arith, more)) (omega (arith, more, begun.within)), begun.before (a - 1) (omega (arith, more)), ended.behind c (omega arith) (omega (arith, more, begun.within)), more)
    | inr few ↦ omega (arith, few)
  ]

  in_front : (k : ℕ) → k < a → piece_at laid k ≡ front_of run.file_block (piece_at ps k)
  in_front k low =
      get_or_append_left (fronts ++ run ∷ []) backs no_block k (omega (arith, low, with_run_size))
      ∙ get_or_append_left fronts (run ∷ []) no_block k (omega (arith, low, fronts_size))
      ∙ get_or-map (front_of run.file_block) xs k no_block no_block (omega (arith, low, front_size))
      ∙ ap (front_of run.file_block) (front_is k low)

  at_run : (k : ℕ) → k ≡ a → piece_at laid k ≡ run
  at_run k is =
      get_or_append_left (fronts ++ run ∷ []) backs no_block k (omega (arith, is, with_run_size))
      ∙ get_or-append_right fronts (run ∷ []) a k no_block fronts_size (omega (arith, is))
      ∙ ap (piece_at (run ∷ [])) (let none : k - a ≡ 0 = omega (arith, is) in none)

  in_back : (k j : ℕ) → k ≡ a + 1 + j → c + j < length ps → piece_at laid k ≡ back_of (end_of run) (piece_at ps (c + j))
  in_back k j is low =
      get_or-append_right (fronts ++ run ∷ []) backs (a + 1) k no_block with_run_size (omega (arith, is))
      ∙ ap (piece_at backs) (let same : k - (a + 1) ≡ j = omega (arith, is) in same)
      ∙ get_or-map (back_of (end_of run)) ys j no_block no_block (omega (arith, low, back_size))
      ∙ ap (back_of (end_of run)) (back_is j low)

  -- what holds of each front, of the run and of each back holds of each piece
  each : (P : Run → Type 0) → ((k : ℕ) → k < a → P (front_of run.file_block (piece_at ps k))) → P run
      → ((k : ℕ) → c ≤ k → k < length ps → P (back_of (end_of run) (piece_at ps k))) → (k : ℕ) → k < length laid → P (piece_at laid k)
  each P of_front of_run of_back k below = elim (cases_lt k a) [
    | inl low ↦ subst P (sym (in_front k low)) (of_front k low)
    | inr high ↦ elim (cases_lt a k) [
      | inl behind ↦ (
          let j : ℕ = k - (a + 1) in
          let is : k ≡ a + 1 + j = omega (arith, behind) in
          let within : c + j < length ps = omega (arith, is, below, laid_size, back_size) in
          subst P (sym (in_back k j is within)) (of_back (c + j) (omega arith) within))
      | inr here ↦ subst P (sym (at_run k (omega (arith, high, here)))) of_run
    ]
  ]

  fit : (k : ℕ) → k < length laid → FitsRun (piece_at laid k)
  fit = each FitsRun
      (λ k low. (let was = lie.fit k (omega (arith, low, begun.within)) in record { in_file = omega (arith, was.in_file); in_staging = omega (arith, was.in_staging) }))
      fits
      (λ k from below. (
      let was = lie.fit k below in
      let ends = ended.behind k from below in
      record { in_file = omega (arith, was.in_file, ends); in_staging = omega (arith, was.in_staging, ends) }))

  apart : (i j : ℕ) → i < j → j < length laid → end_of (piece_at laid i) ≤ (piece_at laid j).file_block
  apart i j order below = elim (cases_lt j a) [
    | inl low ↦ (
        let early : i < a = omega (arith, order, low) in
        omega (arith, ap end_of (in_front i early), ap (λ (p : Run). p.file_block) (in_front j low), lie.apart i j order (omega (arith, low, begun.within))))
    | inr high ↦ elim (cases_lt a j) [
      | inl behind ↦ (
          let n : ℕ = j - (a + 1) in
          let is : j ≡ a + 1 + n = omega (arith, behind) in
          let within : c + n < length ps = omega (arith, is, below, laid_size, back_size) in
          let begins = ap (λ (p : Run). p.file_block) (in_back j n is within) in
          elim (cases_lt i a) [
            | inl early ↦ omega (arith, ap end_of (in_front i early), begun.before i early, begins)
            | inr late ↦ elim (cases_lt a i) [
              | inl later ↦ (
                  let m : ℕ = i - (a + 1) in
                  let so : i ≡ a + 1 + m = omega (arith, later) in
                  let inside : c + m < length ps = omega (arith, so, order, is, within) in
                  omega (arith, ap end_of (in_back i m so inside), ended.behind (c + m) (omega arith) inside, begins, lie.apart (c + m) (c + n) (omega (arith, so, is, order)) within))
              | inr here ↦ omega (arith, ap end_of (at_run i (omega (arith, late, here))), begins)
            ]
          ])
      | inr here ↦ (
          let early : i < a = omega (arith, order, here) in
          omega (arith, ap end_of (in_front i early), begun.before i early, ap (λ (p : Run). p.file_block) (at_run j (omega (arith, high, here)))))
    ]
  ]

  module _ (runs : List Run) (are : ArePieces runs ps) where
    hidden : (b : ℕ) → has_block b run ≡ true → staged_at (runs ++ run ∷ []) b ≡ Some (place_in b run)
    hidden b has = laid_hides runs run b ∙ ap (λ h. cond h (Some (place_in b run)) (staged_at runs b)) has

    beside : (b : ℕ) → has_block b run ≡ false → staged_at (runs ++ run ∷ []) b ≡ staged_at runs b
    beside b lacks = laid_hides runs run b ∙ ap (λ h. cond h (Some (place_in b run)) (staged_at runs b)) lacks

    found : (b k : ℕ) → k < length laid → has_block b (piece_at laid k) ≡ true → staged_at (runs ++ run ∷ []) b ≡ Some (place_in b (piece_at laid k))
    found b = each (λ p. has_block b p ≡ true → staged_at (runs ++ run ∷ []) b ≡ Some (place_in b p))
        (λ k low has. (
        let part = front_has b run.file_block (piece_at ps k) has in
        beside b (has_before b run part.1) ∙ are.found b k (omega (arith, low, begun.within)) part.0))
        (hidden b)
        (λ k from below has. (
        let part = back_has b (end_of run) (piece_at ps k) (ended.behind k from below) has in
        beside b (has_behind b run part.1) ∙ are.found b k below part.0 ∙ ap (λ place. Some place) (sym (back_place b (end_of run) (piece_at ps k) part.0 part.1))))

    none : (b : ℕ) → ((k : ℕ) → k < length laid → has_block b (piece_at laid k) ≡ false) → staged_at (runs ++ run ∷ []) b ≡ None
    none b lack =
        let lacks_run : has_block b run ≡ false = ap (has_block b) (sym (at_run a refl)) ∙ lack a (omega (arith, laid_size)) in
        beside b lacks_run ∙ are.none b (λ k below. elim (cases_Bool (has_block b (piece_at ps k))) [
          | inr lacks ↦ lacks
          | inl has ↦ elim (cases_lt b run.file_block) [
            | inl before ↦ elim (cases_lt k a) [
              | inl low ↦ never (has_block b (piece_at laid k)) (ap (has_block b) (in_front k low) ∙ front_gets b run.file_block (piece_at ps k) has before) (lack k (omega (arith, low, laid_size)))
              | inr high ↦ absurd (omega (arith, begun.behind k high below, has_from b (piece_at ps k) has, before))
            ]
            | inr from ↦ elim (cases_lt b (end_of run)) [
              | inl within ↦ never (has_block b run) (has_it b run from within) lacks_run
              | inr behind ↦ elim (cases_lt k c) [
                | inl low ↦ absurd (omega (arith, ended.before k low, has_to b (piece_at ps k) has, behind))
                | inr high ↦ (
                    let j : ℕ = k - c in
                    let is : c + j ≡ k = omega (arith, high) in
                    let inside : c + j < length ps = omega (arith, is, below) in
                    let place : ℕ = a + 1 + j in
                    let piece = in_back place j refl inside ∙ ap (λ n. back_of (end_of run) (piece_at ps n)) is in
                    never (has_block b (piece_at laid place)) (ap (has_block b) piece ∙ back_gets b (end_of run) (piece_at ps k) (ended.behind k high below) has behind) (lack place (omega (arith, laid_size, back_size, inside))))
              ]
            ]
          ]
        ])

    pub laid_over : ArePieces (runs ++ run ∷ []) laid
    laid_over = record { lie = record { fit = fit; apart = apart }; found = found; none = none }

  pub laid_few : length laid ≤ length ps + 2
  laid_few = omega (arith, laid_size, at_most_one_more, back_size)

-- so of the first pieces and the last ones
module _ (ps : List Run) (run : Run) (a c : ℕ) (lie : AreApart ps) (fits : FitsRun run) (begun : IsBegun ps run.file_block a) (ended : IsEnded ps (end_of run) c) where
  abbrev firsts : List Run
  firsts = take a ps

  abbrev lasts : List Run
  lasts = take (length ps - c) (drop c ps)

  firsts_size : length firsts ≡ a
  firsts_size = length-take a ps ∙ (let all : min a (length ps) ≡ a = omega (arith, begun.within) in all)

  pub lasts_size : length lasts + c ≡ length ps
  lasts_size = omega (arith, length-take (length ps - c) (drop c ps), length-drop c ps, ended.within)

  first_is : (k : ℕ) → k < a → piece_at firsts k ≡ piece_at ps k
  first_is k low = get_or-take a ps k no_block low

  last_is : (j : ℕ) → c + j < length ps → piece_at lasts j ≡ piece_at ps (c + j)
  last_is j low = get_or-take (length ps - c) (drop c ps) j no_block (omega (arith, low)) ∙ get_or-drop c ps j no_block

  pub fits_room : a + 1 + length lasts ≤ length ps + 2
  fits_room = omega (arith, lasts_size, at_most_one_more ps firsts lasts run a c lie fits begun ended firsts_size first_is lasts_size last_is)

  pub first_size : length (map (front_of run.file_block) firsts) ≡ a
  first_size = length-map firsts (front_of run.file_block) ∙ firsts_size

  pub few_pieces : length ((map (front_of run.file_block) firsts ++ run ∷ []) ++ map (back_of (end_of run)) lasts) ≤ length ps + 2
  few_pieces = laid_few ps firsts lasts run a c lie fits begun ended firsts_size first_is lasts_size last_is

  pub pieces_laid : (runs : List Run) → ArePieces runs ps → ArePieces (runs ++ run ∷ []) ((map (front_of run.file_block) firsts ++ run ∷ []) ++ map (back_of (end_of run)) lasts)
  pieces_laid runs are = laid_over ps firsts lasts run a c lie fits begun ended firsts_size first_is lasts_size last_is runs are
