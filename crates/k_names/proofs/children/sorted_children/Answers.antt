-- A sort moves names, and the closure compares as the order of the bytes does.
use Rattle.std.proofs.Common.{arith, rules, is_lt, ap, cond}
use Rattle.std.proofs.lemmas.Cmp.{nat_list_cmp_total}
use Rattle.std.proofs.lemmas.List.Sorted.{ranks_by, answers_always, sum_by-IsPermutation}
use Rattle.std.specs.Prelude.{count_by}
use Rattle.layout_model.specs.Fields.{is_same}
use Rattle.layout_model.specs.TableLaws.{names_below-once}
use Rattle.std.specs.Cmp.Lexicographic.{slice_cmp}
use Rattle.std.specs.Ordering.{nat_cmp}
use Rattle.k_names.proofs.children.sorted_children.Goals as goal

pub returns-clause-sorted : goal.returns-clause-sorted
returns-clause-sorted c =
    c.sort_unstable_by.ensures.sorted (λ x y. is_lt (slice_cmp nat_cmp x y)) (ranks_by nat_list_cmp_total (λ x. x))
    (answers_always _ _ _ (λ f a r f' called. search rules))

pub returns-clause-once : goal.returns-clause-once
returns-clause-once c = λ name.
    omega (
      arith,
      sum_by-IsPermutation (λ x. cond (is_same x name) 1 0) _ _ c.sort_unstable_by.ensures.permutation,
      ap (count_by (λ x. is_same x name)) c.in_ok-names.ensures,
      names_below-once c.args.rows.now c.args.parent name c.requires.keyed,
    )
