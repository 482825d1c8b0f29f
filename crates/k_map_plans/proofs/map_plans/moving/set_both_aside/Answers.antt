use Rattle.std.proofs.Common.{◌≡◌, ◌∙◌, ◌+◌, ◌++◌, ◌<◌, ℕ, List, length, length-drop, ap, arith, subst, sym}
use Rattle.std.proofs.lemmas.List.{length-take, take-append-drop}
use Rattle.block_counts.specs.Counts.{chains_for}
use Rattle.k_relink.specs.extent_model.declared.extent_words.Extent.{Extent}
use Rattle.k_plans.specs.Free.{free_blocks}
use Rattle.k_plans.specs.Switching.{IsSetAside}
use Rattle.k_map_plans.proofs.Goings.{set-aside}
use Rattle.k_map_plans.proofs.map_plans.moving.set_both_aside.Goals as goal

pub returns-in_default-clause-few : goal.returns-in_default-clause-few
returns-in_default-clause-few c few =
    let none : free_blocks c.args.tables.now < c.chains_for-count.result + c.chains_for-rest_count.result = rw c.in_default.is at c.in_ok-blocks.ensures.few in
    omega (
      arith,
      none,
      c.chains_for-count.ensures.count,
      c.chains_for-rest_count.ensures.count,
      ap (λ (es : List Extent). chains_for (length es)) c.extents.ensures.all,
      ap (λ (es : List Extent). chains_for (length es)) c.extents-2.ensures.all,
    )

pub returns-in_err-rest-clause-aside : goal.returns-in_err-rest-clause-aside
returns-in_err-rest-clause-aside c =
    set-aside c.args.tables.now c.set_aside.new.self _ _ (rw c.in-Some.is at c.in_ok-blocks.ensures.taken)

pub returns-clause-aside : goal.returns-clause-aside
returns-clause-aside c =
    set-aside c.args.tables.now c.set_aside.new.self _ _ (rw c.in-Some.is at c.in_ok-blocks.ensures.taken)

pub returns-clause-file_size : goal.returns-clause-file_size
returns-clause-file_size c =
    let aside : IsSetAside (c.chains_for-count.result + c.chains_for-rest_count.result) c.in-Some.blocks.items c.args.tables.now c.set_aside.new.self =
    rw c.in-Some.is at c.in_ok-blocks.ensures.taken
    in
    omega (
      arith,
      ap (λ (bs : List ℕ). length bs) c.in_ok-rest.ensures.items,
      length-take c.chains_for-count.result c.in-Some.blocks.items,
      aside.lowest.count,
      c.chains_for-count.ensures.count,
      ap (λ (es : List Extent). chains_for (length es)) c.extents.ensures.all,
    )

pub returns-clause-staging_size : goal.returns-clause-staging_size
returns-clause-staging_size c =
    let aside : IsSetAside (c.chains_for-count.result + c.chains_for-rest_count.result) c.in-Some.blocks.items c.args.tables.now c.set_aside.new.self =
    rw c.in-Some.is at c.in_ok-blocks.ensures.taken
    in
    omega (
      arith,
      ap (λ (bs : List ℕ). length bs) c.in_ok-rest.ensures.tail,
      length-drop c.chains_for-count.result c.in-Some.blocks.items,
      aside.lowest.count,
      c.chains_for-rest_count.ensures.count,
      ap (λ (es : List Extent). chains_for (length es)) c.extents-2.ensures.all,
    )

pub returns-clause-taken : goal.returns-clause-taken
returns-clause-taken c =
    let aside : IsSetAside (c.chains_for-count.result + c.chains_for-rest_count.result) c.in-Some.blocks.items c.args.tables.now c.set_aside.new.self =
    rw c.in-Some.is at c.in_ok-blocks.ensures.taken
    in
    let parts : c.in-Some.blocks.items ≡ c.split_off.new.self.items ++ c.in_ok-rest.rest.items =
    sym (take-append-drop c.chains_for-count.result c.in-Some.blocks.items)
    ∙ (λ i. sym c.in_ok-rest.ensures.items i ++ sym c.in_ok-rest.ensures.tail i)
    in
    let count_is : c.chains_for-count.result ≡ chains_for (length c.args.linked.dst) =
    c.chains_for-count.ensures.count ∙ ap (λ (es : List Extent). chains_for (length es)) c.extents.ensures.all
    in
    let rest_is : c.chains_for-rest_count.result ≡ chains_for (length c.args.linked.src) =
    c.chains_for-rest_count.ensures.count ∙ ap (λ (es : List Extent). chains_for (length es)) c.extents-2.ensures.all
    in
    subst (λ bs. IsSetAside (chains_for (length c.args.linked.dst) + chains_for (length c.args.linked.src)) bs c.args.tables.now c.set_aside.new.self) parts
    (subst (λ n. IsSetAside n c.in-Some.blocks.items c.args.tables.now c.set_aside.new.self) (λ i. count_is i + rest_is i) aside)
