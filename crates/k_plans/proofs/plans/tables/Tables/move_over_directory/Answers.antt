use Rattle.std.proofs.lemmas.Grind.{common_steps}
use Rattle.std.proofs.Common.{◌≡◌, ◌∙◌, [], ap, arith, true, refl, subst, sym}
use Rattle.std.proofs.lemmas.List.{get_or_default}
use Rattle.std.specs.Prelude.{None, Some}
use Rattle.layout_model.specs.declared.lines.Inode.{Inode}
use Rattle.k_tables.specs.image_model.Reading.{node_set, row_set}
use Rattle.k_tables.specs.image_model.Volume.{Volume, free_inode, inode}
use Rattle.k_plans.specs.LandingsPlans.{Turns}
use Rattle.k_plans.specs.contracts.plans.tables.Tables.{the_view}
use Rattle.k_plans.specs.View.{TablesView, with_volume}
use Rattle.k_tables.specs.k_split_model.ChangesChanges.{gone_node, renamed_over_directory}
use Rattle.k_tables.specs.k_split_model.Spaces.{is_directory_in}
use Rattle.volume_change_laws.specs.CountLaws.{renamed_over_directory-owners}
use Rattle.k_plans.specs.Whole.{IsWhole}
use Rattle.k_plans.proofs.Renames.{Moves, moves-row, over-has, over-bare, over-below, over_directory-whole}
use Rattle.k_plans.proofs.Wholes.{after-tables, plan-from, with_lines}
use Rattle.k_plans.proofs.plans.tables.Tables.move_over_directory.Goals as goal

-- the tables before
abbrev before : goal.After-set_over → TablesView
before c = the_view c.self.inside

moves : (c : goal.After-set_over) → Moves c.args.path.now c.args.to.now c.args.moving c.args.name (before c).volume
moves c =
    subst (λ (t : TablesView). Moves c.args.path.now c.args.to.now c.args.moving c.args.name t.volume) (sym c.self.view_is)
    (record { rows = c.requires.rows; is_moving = c.requires.moving; row_is = c.requires.name })

directory : (c : goal.After-set_over) → is_directory_in (before c).volume.inodes c.args.target.child ≡ true
directory c = subst (λ (t : TablesView). is_directory_in t.volume.inodes c.args.target.child ≡ true) (sym c.self.view_is) c.requires.directory

abbrev after : goal.After-set_over → Volume
after c = renamed_over_directory c.args.moving.entry.line c.args.name c.args.target.line c.args.target.child (before c).volume

gone_is : (c : goal.After-set_over) → c.gone_node-gone.result ≡ gone_node (inode (before c).volume c.args.target.child)
gone_is c =
    c.gone_node-gone.ensures ∙ ap gone_node
    (c.index.ensures ∙ get_or_default c.self.inside.inodes.items c.args.target.child c.index.result.now free_inode
    (over-below (before c).volume c.args.target.child (directory c)))

is_after : (c : goal.After-set_over)
    → with_lines c.args.target.child c.gone_node-gone.result c.set_over.new.self (before c) ≡ with_volume (after c) (before c)
is_after c =
    λ i. with_lines c.args.target.child (gone_is c i) (c.set_over.ensures i) (before c)

whole_after : (c : goal.After-set_over) → IsWhole (after c)
whole_after c =
    over_directory-whole c.args.path.now c.args.to.now c.args.moving c.args.name (before c).volume c.args.target c.self.invariant.whole (moves c)
    c.requires.target (directory c)

pub set_over-requires-clause-has_it : goal.set_over-requires-clause-has_it
set_over-requires-clause-has_it c =
    over-has c.args.path.now c.args.to.now c.args.moving c.args.name _ c.args.target
    (subst (λ (t : TablesView). Moves c.args.path.now c.args.to.now c.args.moving c.args.name t.volume) (sym c.self.view_is)
    (record { rows = c.requires.rows; is_moving = c.requires.moving; row_is = c.requires.name })) c.requires.target

pub put_over_directory-requires-clause-name : goal.put_over_directory-requires-clause-name
put_over_directory-requires-clause-name c =
    moves-row c.args.path.now c.args.to.now c.args.moving c.args.name _ c.self.invariant.whole c.requires.spelled
    (subst (λ (t : TablesView). Moves c.args.path.now c.args.to.now c.args.moving c.args.name t.volume) (sym c.self.view_is)
    (record { rows = c.requires.rows; is_moving = c.requires.moving; row_is = c.requires.name }))

pub invariant_of-self : goal.invariant_of-self
invariant_of-self c =
    after-tables (before c) _ (after c) c.self.inside.pool c.self.inside.held (is_after c) c.self.invariant (whole_after c) refl
    (renamed_over_directory-owners c.args.moving.entry.line c.args.name c.args.target.line c.args.target.child (before c).volume)

pub returns-clause-plan : goal.returns-clause-plan
returns-clause-plan c =
    let v = (before c).volume in
    let none = over-bare v c.args.target.child c.self.invariant.whole (directory c) in
    plan-from (before c) c.args.self.now _ (after c) c.put_over_directory.new.batch c.self.view_is (is_after c)
    (subst (λ (x : Inode).
    Turns c.self.inside.geometry [] v
    (row_set c.args.moving.entry.line (Some c.args.name) (row_set c.args.target.line None (node_set c.args.target.child x v)))
    c.put_over_directory.new.batch)
    (gone_is c)
    (c.put_over_directory.ensures.turns v (ap (λ (x : Inode). x.root) (gone_is c) ∙ sym none.root) (ap (λ (x : Inode). x.extents) (gone_is c) ∙ sym none.extents)))
    c.put_over_directory.ensures.some (omega (arith, c.put_over_directory.ensures.most))
    (λ ino least few. refl) (whole_after c) c.requires.idle refl
    (renamed_over_directory-owners c.args.moving.entry.line c.args.name c.args.target.line c.args.target.child (before c).volume)

pub returns-clause-renamed : goal.returns-clause-renamed
returns-clause-renamed c = grind (arith, common_steps)

pub put_over_directory-requires-clause-ino : goal.put_over_directory-requires-clause-ino
put_over_directory-requires-clause-ino c = grind (arith, common_steps)
