-- At most 256 runs are out: each has a block of its own, of the 64 of one of four staging files.
use Rattle.std.specs.Prelude.{◌≡◌, ◌≢◌, ◌≤◌, ◌<◌, ◌+◌, ◌-◌, ◌*◌, nat_eq, ℕ, zero, suc, Bool, true, false, List, [], ◌∷◌, length, map, All, AllPairs, slice_index_or, refl}
use Rattle.std.specs.List.{AllByRecursion, IsDistinct, list_any}
use Rattle.std.proofs.Common.{arith, ◌∙◌, sym, subst, inl, inr}
use Rattle.std.proofs.lemmas.Bool.Decides.{Decides-eqb, nat_tests}
use Rattle.std.proofs.lemmas.List.{length-map}
use Rattle.std.proofs.lemmas.Map.Keys.{IsDistinct-cons}
use Rattle.std.proofs.lemmas.Map.Steps.{length-le_from_distinct_below}
use Rattle.k_split.specs.list_laws.Members.{In}
use Rattle.staging_files.specs.declared.runs.StageRun.{StageRun}
use Rattle.staging_files.specs.Keeps.{AreApart, given_to, has_block, IsPlaced, IsStaged, Staged}

-- ---- things with keys of their own

differ : {X : Type 0} (key : X → ℕ) (x : X) (xs : List X) → ((y : X) → In y xs → key x ≢ key y) → AllByRecursion (λ n. nat_eq (key x) n ≡ false) (map key xs)
differ key x [] apart = tt
differ key x (y ∷ ys) apart = (by (nat_eq (key x) (key y)) refl, differ key x ys (λ z is. apart z (inr is))) where
  by : (b : Bool) → nat_eq (key x) (key y) ≡ b → nat_eq (key x) (key y) ≡ false
  by false is = is
  by true is = absurd (apart y (inl refl) ((Decides-eqb (key x) (key y)).0 is))

-- no two have one key
abbrev pub AreKeyed : {X : Type 0} → (X → ℕ) → List X → Type 0
AreKeyed key [] = Unit {0}
AreKeyed {X} key (x ∷ xs) = ((y : X) → In y xs → key x ≢ key y) × AreKeyed key xs

distinct : {X : Type 0} (key : X → ℕ) (xs : List X) → AreKeyed key xs → IsDistinct nat_eq (map key xs)
unfolding IsDistinct
distinct key [] keyed = tt
distinct key (x ∷ xs) keyed = IsDistinct-cons nat_eq (key x) (map key xs) (differ key x xs keyed.0) (distinct key xs keyed.1)

found_key : {X : Type 0} (key : X → ℕ) (n : ℕ) (xs : List X) → ((x : X) → In x xs → key x < n) → (q : ℕ) → list_any (nat_eq q) (map key xs) ≡ true → q < n
found_key key n [] below q is = cc
found_key key n (x ∷ xs) below q is = by (nat_eq q (key x)) refl is (found_key key n xs (λ y at. below y (inr at)) q) where
  by : (b : Bool) → nat_eq q (key x) ≡ b → list_any (nat_eq q) (map key (x ∷ xs)) ≡ true → (list_any (nat_eq q) (map key xs) ≡ true → q < n) → q < n
  by true same found rest = subst (λ m. m < n) (sym ((Decides-eqb q (key x)).0 same)) (below x (inl refl))
  by false other found rest = rest (rw other at found)

-- so there are no more than keys
pub few_keys : {X : Type 0} (key : X → ℕ) (n : ℕ) (xs : List X) → AreKeyed key xs → ((x : X) → In x xs → key x < n) → length xs ≤ n
few_keys key n xs keyed below =
    let few : length (map key xs) ≤ n = length-le_from_distinct_below (map key xs) n (distinct key xs keyed) (found_key key n xs below) in
    omega (arith, few, length-map xs key)

-- two of a list, the one behind the other
pub pairs : {X : Type 0} (R : X → X → Type 0) (x : X) (xs : List X) → AllPairs R (x ∷ xs) → (y : X) → In y xs → R x y
pairs R x [] two y is = absurd is
pairs R x (z ∷ zs) two y (inl same) = subst (R x) same (two 0 1 x (omega arith) (omega arith))
pairs {X} R x (z ∷ zs) two y (inr behind) = pairs R x zs (λ i j d before below. by i j d before below) y behind where
  by : (i j : ℕ) (d : X) → i < j → j < length (x ∷ zs) → R (slice_index_or (x ∷ zs) i d) (slice_index_or (x ∷ zs) j d)
  by zero zero d before below = absurd (omega (arith, before))
  by zero (suc j) d before below = two 0 (suc (suc j)) d (omega arith) (omega (arith, below))
  by (suc i) zero d before below = absurd (omega (arith, before))
  by (suc i) (suc j) d before below = two (suc (suc i)) (suc (suc j)) d (omega (arith, before)) (omega (arith, below))

pub keyed_of : {X : Type 0} (key : X → ℕ) (R : X → X → Type 0) (xs : List X) → AllPairs R xs → ((x y : X) → In x xs → In y xs → R x y → key x ≢ key y) → AreKeyed key xs
keyed_of key R [] two apart = tt
keyed_of key R (x ∷ xs) two apart = (
  λ y is. apart x y (inl refl) (inr is) (pairs R x xs two y is),
  keyed_of key R xs (λ i j d before below. two (suc i) (suc j) d (omega (arith, before)) (omega (arith, below))) (λ a b at_a at_b. apart a b (inr at_a) (inr at_b)),
)

-- ---- runs that are out

run_key : StageRun → ℕ
run_key run = 64 * (run.staging - 1) + run.block

all_of : {X : Type 0} (P : X → Type 0) (xs : List X) → All P xs → (x : X) → In x xs → P x
all_of P [] all x is = absurd is
all_of P (y ∷ ys) all x (inl same) = subst P same (all 0 y (omega arith))
all_of P (y ∷ ys) all x (inr rest) = all_of P ys (λ i d below. all (suc i) d (omega (arith, below))) x rest

module _ (s : Staged) (staged : IsStaged s) where
  given_few : (x : ℕ) → 1 ≤ x → x ≤ 4 → given_to s x ≤ 64
  given_few x least most = staged.most (x - 1) 0 (omega (arith, least, most, staged.files))

  placed : (run : StageRun) → In run s.out → IsPlaced s run
  placed run is = all_of (IsPlaced s) s.out staged.placed run is

  low : (run : StageRun) → In run s.out → run.block < 64
  low run is =
      let its = placed run is in
      let given = given_few run.staging its.staging.least its.staging.most in
      omega (arith, its.some, its.inside, given)

  has_first : (run : StageRun) → 1 ≤ run.count → has_block run.staging run.block run ≡ true
  has_first run some = grind (arith, nat_tests, some)

  runs_apart : (run other : StageRun) → In run s.out → In other s.out → AreApart run other → run_key run ≢ run_key other
  unfolding run_key
  runs_apart run other at_run at_other apart same =
      let one = placed run at_run in
      let two = placed other at_other in
      let low_one = low run at_run in
      let low_two = low other at_other in
      let files : run.staging ≡ other.staging = omega (arith, same, low_one, low_two, one.staging.least, two.staging.least) in
      let blocks : run.block ≡ other.block = omega (arith, same, files) in
      let own : has_block run.staging run.block other ≡ true = rw (files, blocks) (has_first other two.some) in
      let never : true ≡ false = sym own ∙ apart run.staging run.block (has_first run one.some) in
      cc

  run_below : (run : StageRun) → In run s.out → run_key run < 256
  unfolding run_key
  run_below run is = let its = placed run is in omega (arith, low run is, its.staging.least, its.staging.most)

  -- AT MOST 256 RUNS ARE OUT: each has a block of a staging file of its own.
  pub few_runs : length s.out ≤ 256
  few_runs = few_keys run_key 256 s.out (keyed_of run_key AreApart s.out staged.apart runs_apart) run_below
