use Rattle.std.proofs.Common.{rules, is_lt}
use Rattle.std.proofs.lemmas.Cmp.{nat_list_cmp_total}
use Rattle.std.proofs.lemmas.List.Sorted.{ranks_by, answers_always, All-permutation}
use Rattle.std.specs.Cmp.Lexicographic.{slice_cmp}
use Rattle.std.specs.Ordering.{nat_cmp}
use Rattle.k_tables.specs.declared.tables.trees.TreePlace.{TreePlace}
use Rattle.k_tables.specs.TablesTrees.{IsStanding}
use Rattle.k_tables.proofs.TreeLaws.{short-count}
use Rattle.k_tables.proofs.tables.trees.tree_places.Goals as goal

pub returns : goal.returns
returns c = record {
  each = All-permutation (IsStanding c.args.names.now) c.in_ok-places.places.items c.sort_unstable_by.new.self.items
      c.sort_unstable_by.ensures.permutation c.in_ok-places.ensures.each;
  once = λ path.
      short-count c.args.names.now c.in_ok-places.places.items c.sort_unstable_by.new.self.items path
      c.in_ok-places.ensures c.sort_unstable_by.ensures.permutation;
  sorted =
      c.sort_unstable_by.ensures.sorted (λ (x : TreePlace) (y : TreePlace). is_lt (slice_cmp nat_cmp x.text y.text)) (ranks_by nat_list_cmp_total (λ (p : TreePlace). p.text))
      (answers_always _ _ _ (λ f a r f' called. search rules));
}
