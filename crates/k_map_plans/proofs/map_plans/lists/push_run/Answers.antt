use Rattle.std.proofs.Common.{◌≡◌, ◌+◌, ◌≤◌, ℕ, true, false, ap, arith, inl, inr}
use Rattle.std.specs.Prelude.{◌==◌}
use Rattle.std.proofs.lemmas.Bool.{cases_eq}
use Rattle.std.proofs.lemmas.Bool.Decides.{nat_tests}
use Rattle.k_relink.specs.extent_model.Counts.{one_if}
use Rattle.k_relink.specs.extent_model.Extents.{is_between}
use Rattle.k_plans.specs.volume_change_laws.Hits.{in_chain-push}
use Rattle.k_plans.specs.volume_laws.Uses.{in_chain}
use Rattle.k_map_plans.proofs.map_plans.lists.push_run.Goals as goal

-- one block more of a run
between-more : (first at b : ℕ) → first ≤ at → one_if (is_between first (at + 1) b) ≡ one_if (is_between first at b) + one_if (at == b)
between-more first at b low = elim (cases_eq at b) [
  | inl here ↦
      let now : is_between first (at + 1) b ≡ true = grind (arith, nat_tests, low, here) in
      let before : is_between first at b ≡ false = grind (arith, nat_tests, low, here) in
      let is : (at == b) ≡ true = grind (arith, nat_tests, here) in
      omega (arith, ap one_if now, ap one_if before, ap one_if is)
  | inr apart ↦
      let same : is_between first (at + 1) b ≡ is_between first at b = grind (arith, nat_tests, apart) in
      let none : (at == b) ≡ false = grind (arith, nat_tests, apart) in
      omega (arith, ap one_if same, ap one_if none)
]

pub loop-block-preserved : goal.loop-block-preserved
loop-block-preserved c b =
    omega (
      arith,
      ap (λ bs. in_chain bs b) c.in_ok-push.ensures.items,
      in_chain-push c.loop-block.blocks.items c.loop-block.block b,
      c.loop-block.invariant b,
      between-more c.args.first c.loop-block.block b c.loop-block.auto.block,
    )
