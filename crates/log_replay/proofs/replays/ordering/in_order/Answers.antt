use Rattle.std.proofs.Common.{rules}
use Rattle.std.proofs.lemmas.List.Sorted.{IsNonDecreasingBy-from_sort_by_key}
use Rattle.layout_model.specs.declared.lines.Draft.{Draft}
use Rattle.log_replay.proofs.replays.ordering.in_order.Goals as goal

pub returns : goal.returns
returns c = record {
  same = c.in_ok-sort_by_key.ensures.permutation;
  rising = IsNonDecreasingBy-from_sort_by_key (λ (d : Draft). d.order) _ c.in_ok-sort_by_key.ensures.sorted (λ a r q k. search rules);
}
