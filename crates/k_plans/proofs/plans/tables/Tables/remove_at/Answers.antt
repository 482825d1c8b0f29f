use Rattle.std.proofs.Common.{◌∙◌, ap, subst, sym}
use Rattle.std.proofs.lemmas.List.{get_or_default}
use Rattle.k_tables.specs.image_model.Volume.{free_inode}
use Rattle.k_plans.specs.contracts.plans.tables.Tables.{the_view}
use Rattle.k_plans.specs.View.{TablesView}
use Rattle.k_tables.specs.k_split_model.ChangesChanges.{gone_node}
use Rattle.k_tables.specs.Found.{IsDirectoryAt}
use Rattle.k_plans.proofs.Removals.{Removes, removed-below, removes-plan, removes-tables}
use Rattle.k_plans.proofs.plans.tables.Tables.remove_at.Goals as goal

-- the tables before
abbrev before : goal.After-clear → TablesView
before c = the_view c.self.inside

removes : (c : goal.After-clear) → Removes c.args.path.now c.args.entry (before c) c.gone_node-gone.result c.clear.new.self
removes c =
    let at : IsDirectoryAt c.self.inside.inodes.items c.self.inside.names c.args.path.now c.args.entry =
    subst (λ (t : TablesView). IsDirectoryAt t.volume.inodes t.volume.names c.args.path.now c.args.entry) (sym c.self.view_is) c.requires.entry
    in
    record {
      is_directory = at;
      gone_is = c.gone_node-gone.ensures ∙ ap gone_node
          (c.index.ensures ∙ get_or_default c.self.inside.inodes.items c.args.entry.child c.index.result.now free_inode
          (removed-below c.args.path.now c.args.entry (before c).volume at));
      names_is = c.clear.ensures;
    }

pub invariant_of-self : goal.invariant_of-self
invariant_of-self c =
    removes-tables c.args.path.now c.args.entry (before c) c.gone_node-gone.result c.clear.new.self c.self.inside.pool c.self.inside.held c.self.invariant (removes c)

pub returns-clause-plan : goal.returns-clause-plan
returns-clause-plan c =
    removes-plan c.args.path.now c.args.entry (before c) c.args.self.now c.gone_node-gone.result c.clear.new.self c.put_removal.new.batch c.self.view_is
    c.self.invariant.whole (removes c) (c.put_removal.ensures.turns (before c).volume) c.put_removal.ensures.some c.put_removal.ensures.most
    c.requires.idle
