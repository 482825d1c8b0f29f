-- The staging files that runs touch, by rising number, and new maps whose chains lie one after the other.
use Rattle.std.proofs.Common.{◌≡◌, ◌<◌, ◌≤◌, ◌+◌, ℕ, zero, suc, map, Bool, true, false, List, [], ◌∷◌, ◌++◌, length, take, drop, length-drop, refl, sym, ◌∙◌, ap, inl, inr, arith, subst}
use Rattle.std.specs.Prelude.{◌==◌, ◌||◌, All, sum_by, filter}
use Rattle.std.specs.List.{flat_map, list_any, range_with_len}
use Rattle.std.proofs.lemmas.Bool.{cases_Bool, cases_eq, cases_lt, eq-eqb, ne_eqb}
use Rattle.std.proofs.lemmas.List.{get_or-append_right, get_or_append_left, length-append, length-take, take-append-drop}
use Rattle.std.proofs.lemmas.List.Elements.{All-cons, All-drop, All-nil, All-take}
use Rattle.std.proofs.lemmas.List.Sums.{sum_by-cons}
use Rattle.block_counts.specs.Counts.{chains_for}
use Rattle.k_relink.specs.extent_model.declared.extent_words.Extent.{Extent}
use Rattle.k_plans.specs.image_model.Placed.{AreDistinct, block_at}
use Rattle.k_plans.specs.LandingsPlans.{NewChain, blocks_of, new_at}
use Rattle.k_plans.specs.Maps.{AreApart}
use Rattle.k_plans.specs.k_split_model.MapChangesChanges.{touched}
use Rattle.k_plans.specs.k_split_model.declared.map_changes.moves.MoveRun.{MoveRun}
use Rattle.k_plans.specs.volume_change_laws.Hits.{in_chain-append}
use Rattle.k_plans.specs.volume_laws.Uses.{in_chain}
use Rattle.k_map_plans.specs.LandingSteps.{chain_size, cut_up}
use Rattle.k_map_plans.specs.Linking.{Left, left_at}
use Rattle.k_map_plans.proofs.Moves.{distinct-apart, distinct-left, distinct-right}

-- ---- rising numbers up to 4

abbrev pub AreFrom : ℕ → List ℕ → Type 0
AreFrom low [] = Unit {0}
AreFrom low (x ∷ xs) = (low ≤ x) × (x ≤ 4) × AreFrom (x + 1) xs

from-weaker : (low high : ℕ) (xs : List ℕ) → low ≤ high → AreFrom high xs → AreFrom low xs
from-weaker low high [] le is = is
from-weaker low high (x ∷ xs) le is = (omega (arith, le, is.0), is.1, is.2)

from-filter : (p : ℕ → Bool) (k : ℕ) (xs : List ℕ) → k ≤ 4 → AreFrom (k + 1) (filter p xs) → AreFrom k (filter p (k ∷ xs))
from-filter p k xs few is = elim (cases_Bool (p k)) [
  | inl among ↦ rw among (omega arith, few, is)
  | inr left ↦ rw left (from-weaker k (k + 1) (filter p xs) (omega arith) is)
]

pub touched-from : (rs : List MoveRun) → AreFrom 1 (touched rs)
touched-from rs =
    let p : ℕ → Bool = λ x. list_any (λ (r : MoveRun). r.staging == x) rs in
    from-filter p 1 (2 ∷ 3 ∷ 4 ∷ []) (omega arith) (from-filter p 2 (3 ∷ 4 ∷ []) (omega arith)
    (from-filter p 3 (4 ∷ []) (omega arith) (from-filter p 4 [] (omega arith) tt)))

pub from-low : (low : ℕ) (xs : List ℕ) → 1 ≤ low → AreFrom low xs → All (λ x. 1 ≤ x) xs
from-low low [] some is = All-nil (λ x. 1 ≤ x)
from-low low (x ∷ xs) some is = All-cons (λ y. 1 ≤ y) x xs (omega (arith, some, is.0)) (from-low (x + 1) xs (omega arith) is.2)

pub from-high : (low : ℕ) (xs : List ℕ) → AreFrom low xs → All (λ x. x ≤ 4) xs
from-high low [] is = All-nil (λ x. x ≤ 4)
from-high low (x ∷ xs) is = All-cons (λ y. y ≤ 4) x xs is.1 (from-high (x + 1) xs is.2)

pub length-from : (low : ℕ) (xs : List ℕ) → low ≤ 5 → AreFrom low xs → length xs + low ≤ 5
length-from low [] few is = omega arith
length-from low (x ∷ xs) few is = omega (arith, is.0, length-from (x + 1) xs (omega (arith, is.1)) is.2)

-- ---- no more are touched than there are runs

-- a test that one number passes besides
or-none : (s : ℕ) (q : ℕ → Bool) (low : ℕ) (xs : List ℕ) → s < low → AreFrom low xs
    → length (filter (λ x. (s == x) || q x) xs) ≡ length (filter q xs)
or-none s q low [] below from = refl
or-none s q low (x ∷ xs) below from =
    let away : (s == x) ≡ false = ne_eqb s x (λ same. omega (arith, same, below, from.0)) in
    let rest = or-none s q (x + 1) xs (omega (arith, below, from.0)) from.2 in
    elim (cases_Bool (q x)) [
      | inl among ↦ rw away (rw among (omega (arith, rest)))
      | inr left ↦ rw away (rw left rest)
    ]

or-one : (s : ℕ) (q : ℕ → Bool) (low : ℕ) (xs : List ℕ) → AreFrom low xs → length (filter (λ x. (s == x) || q x) xs) ≤ 1 + length (filter q xs)
or-one s q low [] from = omega arith
or-one s q low (x ∷ xs) from = elim (cases_eq s x) [
  | inl here ↦
      let is : (s == x) ≡ true = eq-eqb s x here in
      let rest = or-none s q (x + 1) xs (omega (arith, here)) from.2 in
      elim (cases_Bool (q x)) [
        | inl among ↦ rw is (rw among (omega (arith, rest)))
        | inr left ↦ rw is (rw left (omega (arith, rest)))
      ]
  | inr apart ↦
      let away : (s == x) ≡ false = ne_eqb s x apart in
      let rest = or-one s q (x + 1) xs from.2 in
      elim (cases_Bool (q x)) [
        | inl among ↦ rw away (rw among (omega (arith, rest)))
        | inr left ↦ rw away (rw left rest)
      ]
]

pub touched-few : (rs : List MoveRun) → length (touched rs) ≤ length rs
touched-few [] = omega arith
touched-few (r ∷ rs) =
    let most = or-one r.staging (λ x. list_any (λ (t : MoveRun). t.staging == x) rs) 1 (range_with_len 1 4)
    (omega arith, omega arith, (omega arith, omega arith, (omega arith, omega arith, (omega arith, omega arith, tt))))
    in
    omega (arith, most, touched-few rs)

-- where the touched ones lie
pub touched-places : (rs : List MoveRun) (ts : List ℕ) (n : ℕ) → ts ≡ touched rs → n ≡ 4 → All (λ x. 1 ≤ x) ts × All (λ x. x ≤ n) ts
touched-places rs ts n ts_is n_is = (
  subst (All (λ x. 1 ≤ x)) (sym ts_is) (from-low 1 (touched rs) (omega arith) (touched-from rs)),
  subst (All (λ x. x ≤ n)) (sym ts_is) (subst (λ k. All (λ x. x ≤ k) (touched rs)) (sym n_is) (from-high 1 (touched rs) (touched-from rs))),
)

-- ---- a sum over the touched ones, where the others have none

sum-filter : (p : ℕ → Bool) (f : ℕ → ℕ) (x : ℕ) (xs : List ℕ) (n : ℕ) → (p x ≡ false → f x ≡ 0) → sum_by f (filter p xs) ≡ n
    → sum_by f (filter p (x ∷ xs)) ≡ f x + n
sum-filter p f x xs n none is = elim (cases_Bool (p x)) [
  | inl among ↦ rw among (omega (arith, is, sum_by-cons f x (filter p xs)))
  | inr left ↦ rw left (omega (arith, is, none left))
]

pub touched-sum : (rs : List MoveRun) (f : ℕ → ℕ)
    → ((x : ℕ) → 1 ≤ x → x ≤ 4 → list_any (λ (r : MoveRun). r.staging == x) rs ≡ false → f x ≡ 0)
    → sum_by f (touched rs) ≡ f 1 + (f 2 + (f 3 + (f 4 + 0)))
touched-sum rs f none =
    let p : ℕ → Bool = λ x. list_any (λ (r : MoveRun). r.staging == x) rs in
    sum-filter p f 1 (2 ∷ 3 ∷ 4 ∷ []) (f 2 + (f 3 + (f 4 + 0))) (none 1 (omega arith) (omega arith))
    (sum-filter p f 2 (3 ∷ 4 ∷ []) (f 3 + (f 4 + 0)) (none 2 (omega arith) (omega arith))
    (sum-filter p f 3 (4 ∷ []) (f 4 + 0) (none 3 (omega arith) (omega arith))
    (sum-filter p f 4 [] 0 (none 4 (omega arith) (omega arith)) refl)))

-- ---- maps in chains

-- the new map has what is left of the staging file, in as many blocks as it takes
pub record Fits (lefts : List Left) (x : ℕ) (c : NewChain) : Type 0 where
  pub map : c.extents ≡ (left_at lefts x).map
  pub size : length c.blocks ≡ chain_size c.extents
  pub above : All (λ b. 1 ≤ b) c.blocks

abbrev pub FitsAll : List Left → List ℕ → List NewChain → Type 0
FitsAll lefts [] [] = Unit {0}
FitsAll lefts [] (c ∷ cs) = ⊥
FitsAll lefts (x ∷ xs) [] = ⊥
FitsAll lefts (x ∷ xs) (c ∷ cs) = Fits lefts x c × FitsAll lefts xs cs

pub cut-fits : (lefts : List Left) (xs blocks : List ℕ) → sum_by chain_size (map (λ x. (left_at lefts x).map) xs) ≡ length blocks
    → All (λ b. 1 ≤ b) blocks → FitsAll lefts xs (cut_up (map (λ x. (left_at lefts x).map) xs) blocks)
cut-fits lefts [] blocks size above = tt
cut-fits lefts (x ∷ xs) blocks size above =
    let n : ℕ = chain_size (left_at lefts x).map in
    let sum = sum_by-cons chain_size (left_at lefts x).map (map (λ y. (left_at lefts y).map) xs) in (
      record {
        map = refl;
        size = omega (arith, size, sum, length-take n blocks);
        above = All-take (λ b. 1 ≤ b) n blocks above;
      },
      cut-fits lefts xs (drop n blocks) (omega (arith, size, sum, length-drop n blocks)) (All-drop (λ b. 1 ≤ b) n blocks above),
    )

pub blocks_of-cut : (ess : List (List Extent)) (blocks : List ℕ) → sum_by chain_size ess ≡ length blocks → blocks_of (cut_up ess blocks) ≡ blocks
blocks_of-cut [] [] size = refl
blocks_of-cut [] (b ∷ bs) size = absurd (omega (arith, size))
blocks_of-cut (es ∷ ess) blocks size =
    ap (λ bs. take (chain_size es) blocks ++ bs) (blocks_of-cut ess (drop (chain_size es) blocks) (omega (arith, size, sum_by-cons chain_size es ess, length-drop (chain_size es) blocks)))
    ∙ take-append-drop (chain_size es) blocks

pub length-cut : (ess : List (List Extent)) (blocks : List ℕ) → length (cut_up ess blocks) ≡ length ess
length-cut [] blocks = refl
length-cut (es ∷ ess) blocks = omega (arith, length-cut ess (drop (chain_size es) blocks))

-- each new map has a chain of its own
abbrev pub AreSized : List NewChain → Type 0
AreSized [] = Unit {0}
AreSized (c ∷ cs) = (length c.blocks ≡ chain_size c.extents) × AreSized cs

pub cut-sized : (ess : List (List Extent)) (blocks : List ℕ) → sum_by chain_size ess ≡ length blocks → AreSized (cut_up ess blocks)
cut-sized [] blocks size = tt
cut-sized (es ∷ ess) blocks size =
    (omega (arith, size, sum_by-cons chain_size es ess, length-take (chain_size es) blocks), cut-sized ess (drop (chain_size es) blocks) (omega (arith, size, sum_by-cons chain_size es ess, length-drop (chain_size es) blocks)))

pub sized-at : (news : List NewChain) → AreSized news → (k : ℕ) → k < length news → length (new_at news k).blocks ≡ chains_for (length (new_at news k).extents)
sized-at [] all k below = absurd (omega (arith, below))
sized-at (c ∷ cs) all zero below = all.0
sized-at (c ∷ cs) all (suc k) below = sized-at cs all.1 k (omega (arith, below))

pub distinct-at : (news : List NewChain) → AreDistinct (blocks_of news) → (k : ℕ) → k < length news → AreDistinct (new_at news k).blocks
distinct-at [] all k below = absurd (omega (arith, below))
distinct-at (c ∷ cs) all zero below = distinct-left c.blocks (blocks_of cs) all
distinct-at (c ∷ cs) all (suc k) below = distinct-at cs (distinct-right c.blocks (blocks_of cs) all) k (omega (arith, below))

-- a list that has no block in common with all of them has none with one
apart-one : (bs : List ℕ) (news : List NewChain) → AreApart bs (blocks_of news) → (k : ℕ) → k < length news → AreApart bs (new_at news k).blocks
apart-one bs [] apart k below = absurd (omega (arith, below))
apart-one bs (c ∷ cs) apart zero below = λ j i within inside same.
    apart j i within (omega (arith, inside, length-append c.blocks (blocks_of cs))) (same ∙ sym (get_or_append_left c.blocks (blocks_of cs) 0 i inside))
apart-one bs (c ∷ cs) apart (suc k) below =
    apart-one bs cs (λ j i within inside same.
    apart j (length c.blocks + i) within (omega (arith, inside, length-append c.blocks (blocks_of cs)))
    (same ∙ sym (get_or-append_right c.blocks (blocks_of cs) (length c.blocks) (length c.blocks + i) 0 refl (omega arith) ∙ ap (block_at (blocks_of cs)) (omega arith))))
    k (omega (arith, below))

pub apart-at : (news : List NewChain) → AreDistinct (blocks_of news) → (j k : ℕ) → j < k → k < length news
    → AreApart (new_at news j).blocks (new_at news k).blocks
apart-at [] all j k before below = absurd (omega (arith, below))
apart-at (c ∷ cs) all j zero before below = absurd (omega (arith, before))
apart-at (c ∷ cs) all zero (suc k) before below = apart-one c.blocks cs (distinct-apart c.blocks (blocks_of cs) all) k (omega (arith, below))
apart-at (c ∷ cs) all (suc j) (suc k) before below = apart-at cs (distinct-right c.blocks (blocks_of cs) all) j k (omega (arith, before)) (omega (arith, below))

-- ---- a block of one of several lists

pub flat-some : (f : ℕ → List ℕ) (low : ℕ) (xs : List ℕ) (b : ℕ) → AreFrom low xs → 1 ≤ in_chain (flat_map f xs) b
    → (x : ℕ) × (x ≤ 4) × (1 ≤ in_chain (f x) b)
flat-some f low [] b is has = absurd (omega (arith, has))
flat-some f low (x ∷ xs) b is has = elim (cases_lt 0 (in_chain (f x) b)) [
  | inl here ↦ (x, is.1, omega (arith, here))
  | inr none ↦ flat-some f (x + 1) xs b is.2 (omega (arith, has, none, in_chain-append (f x) (flat_map f xs) b))
]
