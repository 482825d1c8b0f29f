-- Lists of entries and of their runs.
use Rattle.std.specs.Prelude.{◌≡◌, ◌≤◌, ◌<◌, ◌+◌, ℕ, zero, suc, true, All, AllPairs, List, [], ◌∷◌, length, map, slice_index_or, refl}
use Rattle.std.proofs.Common.{arith, ap, ◌∙◌, sym, subst, inl, inr}
use Rattle.std.proofs.lemmas.Bool.Decides.{nat_tests}
use Rattle.log_checkpoint.specs.layout_model.declared.lines.Draft.{Draft}
use Rattle.log_checkpoint.specs.layout_model.Entries.{is_draft}
use Rattle.log_checkpoint.specs.list_laws.Members.{In}
use Rattle.log_checkpoint.specs.world_model.Stands.{Consecutive}

-- the bounds of an entry
pub record Bounds (d : Draft) : Type 0 where
  pub some : 1 ≤ d.count
  pub place : d.file_block + d.count ≤ 4096
  pub staging_least : 1 ≤ d.staging
  pub staging_most : d.staging ≤ 4

pub bounds : (d : Draft) → is_draft d ≡ true → Bounds d
bounds d is = record { some = grind (arith, nat_tests); place = grind (arith, nat_tests); staging_least = grind (arith, nat_tests); staging_most = grind (arith, nat_tests) }

-- the member at a place
pub at_In : {X : Type 0} (xs : List X) (i : ℕ) (d : X) → i < length xs → In (slice_index_or xs i d) xs
at_In [] i d below = absurd (omega (arith, below))
at_In (x ∷ xs) zero d below = inl refl
at_In (x ∷ xs) (suc i) d below = inr (at_In xs i d (omega (arith, below)))

pub each : {X : Type 0} (P : X → Type 0) (xs : List X) → ((x : X) → In x xs → P x) → All P xs
each P xs all i d below = all (slice_index_or xs i d) (at_In xs i d below)

mapped_at : {X Y : Type 0} (f : X → Y) (xs : List X) (i : ℕ) (d : X) (e : Y) → i < length xs → slice_index_or (map f xs) i e ≡ f (slice_index_or xs i d)
mapped_at f [] i d e below = absurd (omega (arith, below))
mapped_at f (x ∷ xs) zero d e below = refl
mapped_at f (x ∷ xs) (suc i) d e below = mapped_at f xs i d e (omega (arith, below))

pub mapped_length : {X Y : Type 0} (f : X → Y) (xs : List X) → length (map f xs) ≡ length xs
mapped_length f [] = refl
mapped_length f (x ∷ xs) = ap suc (mapped_length f xs)

-- what holds of each of a list holds of each of what it is mapped to; and of pairs
pub each_mapped : {X Y : Type 0} (P : Y → Type 0) (f : X → Y) (xs : List X) → ((x : X) → In x xs → P (f x)) → All P (map f xs)
each_mapped P f [] all i d below = absurd (omega (arith, below))
each_mapped P f (x ∷ xs) all i d below =
    let within : i < length (x ∷ xs) = omega (arith, below, mapped_length f (x ∷ xs)) in
    subst P (sym (mapped_at f (x ∷ xs) i x d within)) (all (slice_index_or (x ∷ xs) i x) (at_In (x ∷ xs) i x within))

pub pairs_mapped : {X Y : Type 0} (R : Y → Y → Type 0) (f : X → Y) (xs : List X) → ((i j : ℕ) (d : X) → i < j → j < length xs → R (f (slice_index_or xs i d)) (f (slice_index_or xs j d))) → AllPairs R (map f xs)
pairs_mapped R f [] all i j d before below = absurd (omega (arith, below))
pairs_mapped R f (x ∷ xs) all i j d before below =
    let within : j < length (x ∷ xs) = omega (arith, below, mapped_length f (x ∷ xs)) in
    let both = all i j x before within in
    subst (λ y. R y (slice_index_or (map f (x ∷ xs)) j d)) (sym (mapped_at f (x ∷ xs) i x d (omega (arith, before, within))))
    (subst (R (f (slice_index_or (x ∷ xs) i x))) (sym (mapped_at f (x ∷ xs) j x d within)) both)

-- Orders that go on one by one.
pub order_at : (last : ℕ) (ds : List Draft) (i : ℕ) (d : Draft) → Consecutive last ds → i < length ds → (slice_index_or ds i d).order ≡ last + 1 + i
order_at last [] i d on below = absurd (omega (arith, below))
order_at last (x ∷ ds) zero d on below = on.0 ∙ omega arith
order_at last (x ∷ ds) (suc i) d on below = order_at (last + 1) ds i d on.1 (omega (arith, below)) ∙ omega arith

pub order_of : (last : ℕ) (ds : List Draft) (d : Draft) → Consecutive last ds → In d ds → (last < d.order) × (d.order ≤ last + length ds)
order_of last [] d on is = absurd is
order_of last (x ∷ ds) d on (inl same) = let own : x.order ≡ d.order = ap (λ (y : Draft). y.order) same in (omega (arith, on.0, own), omega (arith, on.0, own))
order_of last (x ∷ ds) d on (inr behind) = let rest = order_of (last + 1) ds d on.1 behind in (omega (arith, rest.0), omega (arith, rest.1))
