use Rattle.std.proofs.Common.{◌≡◌, true, false, ℕ, ◌<◌, ◌≤◌, length, get_or, nat_le, ap, inl, inr, arith, rules}
use Rattle.std.proofs.lemmas.Bool.{cases_eq, leb-true, leb-false}
use Rattle.std.specs.List.Sorted.{IsPartitionPoint}
use Rattle.std.proofs.lemmas.List.Sorted.{IsPartitionPoint-from_clause, IsPartitionedBy-leb}
use Rattle.extent_model.specs.declared.extent_words.Extent.{Extent}
use Rattle.extent_map.proofs.pieces.begun_by.Goals as goal

-- the extents begin one after the other, so those that have begun stand in front
split_here : (c : goal.After-partition_point) → IsPartitionPoint (λ (e : Extent). nat_le e.file c.args.block ≡ true) (λ e. nat_le e.file c.args.block ≡ false) c.args.extents.now c.partition_point.result
split_here c =
    let es = c.args.extents.now in
    let rise = λ (i j : ℕ) (d : Extent) (le : i ≤ j) (lt : j < length es). elim (cases_eq i j) as (λ _. (get_or es i d).file ≤ (get_or es j d).file) [
      | inl same ↦ omega (arith, ap (λ n. (get_or es n d).file) same)
      | inr apart ↦ let after = c.requires.rising i j d (omega arith) lt in omega (arith, after.after)
    ] in
    IsPartitionPoint-from_clause (λ (e : Extent). nat_le e.file c.args.block) es c.partition_point.result c.partition_point.ensures.partitioned
    (IsPartitionedBy-leb (λ (e : Extent). e.file) es c.args.block rise) (λ a r f called. search rules)

pub returns : goal.returns
returns c =
    let split = split_here c in
    record {
      bound = c.partition_point.ensures.bound;
      begun = λ k d lt. leb-true _ _ (split.0 k d (omega arith) lt);
      later = λ k d le lt. leb-false _ _ (split.1 k d le lt);
    }
