-- The free blocks of a pool, counted over the data blocks.
use Rattle.std.proofs.Common.{◌≡◌, ℕ, zero, suc, ◌+◌, ◌<◌, ◌≤◌, Bool, true, false, [], length, refl, ◌∙◌, ap, arith}
use Rattle.std.proofs.lemmas.Bool.Decides.{nat_tests}
use Rattle.std.specs.Prelude.{count_by, not, ◌&&◌, ◌||◌}
use Rattle.std.specs.List.{range_with_len}
use Rattle.std.proofs.lemmas.List.Sums.{sum_by-cons}
use Rattle.k_reading.specs.block_pool.Facts.{free_count-counted}
use Rattle.k_reading.specs.block_pool.FreeSets.{FreeSet, is_among, is_free_at, free_count}
use Rattle.layout_model.specs.Places.{first_data, data_blocks, is_data_block}
use Rattle.k_tables.specs.image_model.Room.{has_none, unused_blocks}
use Rattle.k_tables.specs.image_model.Uses.{owners}
use Rattle.k_tables.specs.extent_model.Counts.{one_if, count_below, count_below-agree}
use Rattle.k_tables.specs.volume_laws.Lists.{count_by-agree}
use Rattle.k_plans.specs.Free.{IsPoolOf, free_blocks, is_free_block}
use Rattle.k_plans.specs.View.{TablesView}

count_below-front : (f : ℕ → Bool) (n : ℕ) → count_below f (suc n) ≡ one_if (f 0) + count_below (λ i. f (suc i)) n
unfolding count_below
count_below-front f zero = omega arith
count_below-front f (suc n) = omega (arith, count_below-front f n)

counted-range : (f : ℕ → Bool) (first n : ℕ) → count_below (λ i. f (first + i)) n ≡ count_by f (range_with_len first n)
unfolding count_below
counted-range f first zero = refl
counted-range f first (suc n) =
    let here : f (first + 0) ≡ f first = ap f (omega arith) in
    let rest = count_below-agree (λ i. f (first + suc i)) (λ i. f (first + 1 + i)) n (λ i below. ap f (omega arith)) in
    omega (
      arith,
      count_below-front (λ i. f (first + i)) n,
      ap one_if here,
      rest,
      counted-range f (first + 1) n,
      sum_by-cons (λ b. one_if (f b)) first (range_with_len (first + 1) n),
    )

pub pool-counted : (t : TablesView) (pool : FreeSet) → IsPoolOf t pool → free_count pool ≡ free_blocks t
pool-counted t pool is =
    free_count-counted pool
    ∙ ap (λ first. count_below (λ i. is_free_at pool (first + i)) (length pool.marks)) is.first
    ∙ ap (count_below (λ i. is_free_at pool (first_data t.volume.geometry + i))) is.count
    ∙ counted-range (is_free_at pool) (first_data t.volume.geometry) (data_blocks t.volume.geometry)
    ∙ count_by-agree (is_free_at pool) (is_free_block t) (first_data t.volume.geometry) (data_blocks t.volume.geometry) (λ b low high. is.free b)

-- where nothing is set aside and nothing waits
pub unwaiting-counted : (t : TablesView) → t.aside ≡ [] → t.waiting ≡ [] → free_blocks t ≡ unused_blocks t.volume
unwaiting-counted t idle none =
    count_by-agree (is_free_block t) (λ b. has_none (owners t.volume b)) (first_data t.volume.geometry) (data_blocks t.volume.geometry) (λ b low high.
    (λ i. is_data_block t.volume.geometry b && has_none (owners t.volume b) && not (is_among (idle i) b || is_among (none i) b))
    ∙ inside b (has_none (owners t.volume b)) (in_data b low high))
  where
    in_data : (b : ℕ) → first_data t.volume.geometry ≤ b → b < first_data t.volume.geometry + data_blocks t.volume.geometry
        → is_data_block t.volume.geometry b ≡ true
    in_data b low high = grind (arith, nat_tests)

    last : (unused : Bool) → (true && unused && true) ≡ unused
    last true = refl
    last false = refl

    inside : (b : ℕ) (unused : Bool) → is_data_block t.volume.geometry b ≡ true
        → (is_data_block t.volume.geometry b && unused && not (false || false)) ≡ unused
    inside b unused is = rw is (last unused)
