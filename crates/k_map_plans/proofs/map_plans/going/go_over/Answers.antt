use Rattle.std.proofs.Common.{◌≡◌, ◌∙◌, ◌+◌, ◌∷◌, [], ℕ, List, length, ap, arith, subst, sym}
use Rattle.block_counts.specs.Counts.{chains_for}
use Rattle.k_plans.specs.image_model.Chains.{first_or_zero}
use Rattle.k_plans.specs.image_model.Volume.{Volume, chain}
use Rattle.k_relink.specs.extent_model.Extents.{IsCanonical}
use Rattle.k_relink.specs.extent_model.declared.extent_words.Extent.{Extent}
use Rattle.k_plans.specs.PlanLaws.{turns-none}
use Rattle.k_plans.specs.k_journal.declared.batches.Record.{Record}
use Rattle.k_plans.specs.LandingsPlans.{NewChain, Turns}
use Rattle.k_plans.specs.LandingsPlans.IsMapFrom.{NewMap}
use Rattle.k_plans.specs.Free.{is_free_block}
use Rattle.k_plans.specs.Switching.{IsSetAside}
use Rattle.k_plans.specs.View.{TablesView}
use Rattle.k_plans.specs.k_split_model.Taken.{AreLowest, switched}
use Rattle.k_plans.specs.volume_change_laws.Switches.{MaySwitch}
use Rattle.k_plans.specs.volume_laws.Uses.{in_chain, in_map}
use Rattle.k_map_plans.proofs.Goings.{aside-volume, aside-waiting, left-free, may-switch, plan-one, switched-chain_is}
use Rattle.k_map_plans.proofs.map_plans.going.go_over.Goals as goal

pub switch-requires-clause-may : goal.switch-requires-clause-may
switch-requires-clause-may c =
    let u = c.set_aside.new.self in
    let aside : IsSetAside c.chains_for-count.result c.in-Some.blocks.items c.args.tables.now c.set_aside.new.self =
    rw c.in-Some.is at c.in_ok-blocks.ensures.taken
    in
    let may = may-switch c.args.tables.now c.set_aside.new.self c.chains_for-count.result c.args.ino c.args.inode.now c.in-Some.blocks.items
    c.args.map.now c.args.freed.now c.push_extents.new.blocks.items aside c.requires.may
    (c.chains_for-count.ensures.count ∙ ap (λ (es : List Extent). chains_for (length es)) c.extents.ensures.all) (λ b.
    c.in_ok-push_extents.ensures b ∙ ap (λ (bs : List ℕ). in_chain bs b + in_map c.args.freed.now b) (c.in_ok-aside.ensures.items ∙ c.chain.ensures))
    in
    subst (λ (bs : List ℕ). MaySwitch u.volume u.aside c.args.ino c.args.inode.now bs c.in_ok-own.own c.push_extents.new.blocks.items)
    (sym (c.in_ok-chain.ensures.items ∙ c.deref.ensures.value))
    (subst (λ (es : List Extent). MaySwitch u.volume u.aside c.args.ino c.args.inode.now c.in-Some.blocks.items es c.push_extents.new.blocks.items)
    (sym c.in_ok-own.ensures.copy) may)

pub returns-clause-gone : goal.returns-clause-gone
returns-clause-gone c =
    let u = c.set_aside.new.self in
    let t = c.args.tables.now in
    let aside : IsSetAside c.chains_for-count.result c.in-Some.blocks.items c.args.tables.now c.set_aside.new.self =
    rw c.in-Some.is at c.in_ok-blocks.ensures.taken
    in
    let chain_is : c.in_ok-chain.chain.items ≡ c.in-Some.blocks.items = c.in_ok-chain.ensures.items ∙ c.deref.ensures.value in
    let own_is : c.in_ok-own.own ≡ c.args.map.now = c.in_ok-own.ensures.copy in
    let written_is : c.in_ok-written.written ≡ c.args.map.now = c.in_ok-written.ensures.copy in
    let new : NewChain = record { blocks = c.in-Some.blocks.items; extents = c.in_ok-written.written } in
    let size : c.chains_for-count.result ≡ chains_for (length c.args.map.now) =
    c.chains_for-count.ensures.count ∙ ap (λ (es : List Extent). chains_for (length es)) c.extents.ensures.all
    in
    let vol : u.volume ≡ t.volume = aside-volume t u c.chains_for-count.result c.in-Some.blocks.items aside in
    let lowest : AreLowest (is_free_block t) (chains_for (length c.args.map.now)) c.in-Some.blocks.items =
    subst (λ n. AreLowest (is_free_block t) n c.in-Some.blocks.items) size aside.lowest
    in
    let none : Turns u.volume.geometry (new ∷ []) t.volume u.volume c.args.batch.now =
    subst (Turns u.volume.geometry (new ∷ []) t.volume u.volume) (sym c.requires.empty)
    (subst (λ (y : Volume). Turns y.geometry (new ∷ []) t.volume y []) (sym vol) (turns-none t.volume.geometry (new ∷ []) t.volume))
    in
    let turns : Turns u.volume.geometry (new ∷ []) t.volume c.switch.new.self.volume c.switch.new.batch =
    c.switch.ensures.turns (new ∷ []) t.volume
    (NewMap 0 (omega arith) (ap first_or_zero chain_is) (ap (λ (es : List Extent). length es) (own_is ∙ sym written_is)) chain_is (own_is ∙ sym written_is)) none
    in
    let after : c.switch.new.self.volume ≡ switched c.args.ino c.args.inode.now c.in-Some.blocks.items c.args.map.now t.volume =
    ap (λ (x : TablesView). x.volume) c.switch.ensures.switched
    ∙ (λ i. switched c.args.ino c.args.inode.now (chain_is i) (own_is i) (vol i))
    in
    record {
      extents_are = written_is;
      lowest = lowest;
      after = after;
      chain_is = sym (ap (λ (y : Volume). chain y c.args.ino) after
          ∙ switched-chain_is t.volume c.args.ino c.args.inode.now c.in-Some.blocks.items c.args.map.now c.switch.new.self.volume after c.switch.ensures.whole c.requires.may.below);
      plan = plan-one t c.switch.new.self.volume c.switch.new.batch new (subst IsCanonical (sym written_is) c.in_ok-written.ensures.canonical)
          (subst (λ (es : List Extent). AreLowest (is_free_block t) (chains_for (length es)) c.in-Some.blocks.items) (sym written_is) lowest)
          (subst (λ (y : Volume). Turns y.geometry (new ∷ []) t.volume c.switch.new.self.volume c.switch.new.batch) vol turns)
          (ap (λ (x : TablesView). x.volume.geometry) c.switch.ensures.switched ∙ ap (λ (y : Volume). y.geometry) vol)
          c.switch.ensures.some
          (omega (arith, c.switch.ensures.count, ap (λ (b : List Record). length b) c.requires.empty))
          c.switch.ensures.whole;
      free = λ k. c.switch.ensures.free k ∙ left-free t u c.chains_for-count.result c.in-Some.blocks.items aside k;
      back = c.switch.ensures.back;
      waiting = ap (λ (x : TablesView). x.waiting) c.switch.ensures.switched ∙ aside-waiting t u c.chains_for-count.result c.in-Some.blocks.items aside;
    }
