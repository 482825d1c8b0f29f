use Rattle.std.proofs.Common.{◌≡◌, ◌∙◌, ◌++◌, ℕ, List, [], length, ap, arith, refl, subst, sym}
use Rattle.std.proofs.lemmas.List.{get_or_default}
use Rattle.layout_model.specs.declared.lines.Inode.{Inode}
use Rattle.k_tables.specs.image_model.Reading.{inode_set}
use Rattle.k_tables.specs.image_model.Volume.{chain, extents, free_inode, inode}
use Rattle.k_tables.specs.extent_model.declared.extent_words.Extent.{Extent}
use Rattle.k_journal.specs.declared.batches.Record.{Record}
use Rattle.k_plans.specs.LandingsPlans.{Turns}
use Rattle.k_plans.specs.LandingsPlans.IsMapFrom.{NoMap}
use Rattle.k_plans.specs.PlanLaws.{turns-none}
use Rattle.k_plans.specs.PlansPlans.{IsPlan}
use Rattle.k_plans.specs.Free.{AreTables}
use Rattle.k_plans.specs.contracts.plans.tables.Tables.{the_view}
use Rattle.k_plans.specs.View.{TablesView, map_blocks}
use Rattle.k_tables.specs.k_split_model.ChangesChanges.{gone_node}
use Rattle.volume_change_laws.specs.Changes.{MayDrop}
use Rattle.k_plans.proofs.Drops.{dropped-plan, dropped-tables, dropped_tables}
use Rattle.k_plans.proofs.plans.tables.Tables.drop_node.Goals as goal

-- ---- the tables before

abbrev before : goal.After-drop-self-inside-2 → TablesView
before c = the_view c.self.inside

may : (c : goal.After-drop-self-inside-2) → MayDrop c.args.ino (before c).volume
may c = subst (λ (t : TablesView). MayDrop c.args.ino t.volume) (sym c.self.view_is) c.requires.may

idle : (c : goal.After-drop-self-inside-2) → (before c).aside ≡ []
idle c = ap (λ (t : TablesView). t.aside) c.self.view_is ∙ c.requires.idle

gone_is : (c : goal.After-drop-self-inside-2) → c.gone_node-gone.result ≡ gone_node (inode (before c).volume c.args.ino)
gone_is c =
    c.gone_node-gone.ensures ∙ ap gone_node
    (c.index.ensures ∙ get_or_default c.self.inside.inodes.items c.args.ino c.index.result.now free_inode (may c).below)

-- ---- what goes

chain_was : (c : goal.After-drop-self-inside-2) → c.chain.inside.blocks.items ≡ chain (before c).volume c.args.ino
chain_was c =
    c.chain.view_is ∙ c.replace-chain.ensures.value ∙ c.index_mut.ensures.value
    ∙ get_or_default c.self.inside.chains.items c.args.ino c.index_mut.result.now []
    (omega (arith, (may c).below, c.self.invariant.whole.maps.chain_count))

map_was : (c : goal.After-drop-self-inside-2) → c.replace-map.result ≡ extents (before c).volume c.args.ino
map_was c =
    c.replace-map.ensures.value ∙ c.index_mut-2.ensures.value
    ∙ get_or_default c.self.inside.maps.items c.args.ino c.index_mut-2.result.now []
    (omega (arith, (may c).below, c.self.invariant.whole.maps.map_count))

chain_now : (c : goal.After-drop-self-inside-2) → c.replace-chain.new.dest ≡ []
chain_now c = c.replace-chain.ensures.after ∙ c.new.ensures.items

map_now : (c : goal.After-drop-self-inside-2) → c.replace-map.new.dest ≡ []
map_now c = c.replace-map.ensures.after ∙ c.new-2.ensures

-- ---- the tables after

abbrev after : (c : goal.After-drop-self-inside-2) → Inode → List ℕ → List Extent → List ℕ → TablesView
after c x blocks es ks = record (before c) { volume = inode_set c.args.ino x blocks es (before c).volume; aside = ks }

is_after : (c : goal.After-drop-self-inside-2)
    → after c c.gone_node-gone.result c.replace-chain.new.dest c.replace-map.new.dest (map_blocks c.replace-map.result ++ c.chain.inside.blocks.items)
    ≡ dropped_tables c.args.ino (before c)
is_after c = λ i. after c (gone_is c i) (chain_now c i) (map_now c i) (map_blocks (map_was c i) ++ chain_was c i)

pub invariant_of-self : goal.invariant_of-self
invariant_of-self c =
    subst (λ (t : TablesView). AreTables t c.self.inside.pool c.self.inside.held) (sym (is_after c))
    (dropped-tables (before c) c.args.ino c.self.invariant.whole (may c) c.self.inside.pool c.self.inside.held c.self.invariant (idle c))

pub returns-clause-plan : goal.returns-clause-plan
returns-clause-plan c =
    let v = (before c).volume in
    subst (λ (t : TablesView). IsPlan c.args.self.now t c.put_inode.new.batch) (sym (is_after c))
    (dropped-plan (before c) c.args.ino c.self.invariant.whole (may c) c.args.self.now c.put_inode.new.batch c.self.view_is
    (subst (λ (x : Inode). Turns c.self.inside.geometry [] v (inode_set c.args.ino x [] [] v) c.put_inode.new.batch) (gone_is c)
    (c.put_inode.ensures.turns [] v v [] []
    (NoMap (ap (λ (x : Inode). x.root) (gone_is c)) (ap (λ (x : Inode). x.extents) (gone_is c)) refl refl)
    (subst (Turns c.self.inside.geometry [] v v) (sym c.requires.empty) (turns-none c.self.inside.geometry [] v))))
    c.put_inode.ensures.some (omega (arith, c.put_inode.ensures.count, ap (λ (b : List Record). length b) c.requires.empty)))
