use Rattle.std.proofs.Common.{◌≡◌, ap, arith, false, refl, subst, sym}
use Rattle.layout_model.specs.Names.{Rows}
use Rattle.k_tables.specs.image_model.Volume.{Volume}
use Rattle.k_plans.specs.contracts.plans.tables.Tables.{the_view}
use Rattle.k_plans.specs.View.{TablesView, with_volume}
use Rattle.k_tables.specs.k_split_model.ChangesChanges.{renamed_over_file}
use Rattle.k_tables.specs.k_split_model.Spaces.{is_directory_in}
use Rattle.volume_change_laws.specs.CountLaws.{renamed_over_file-owners}
use Rattle.k_plans.specs.Whole.{IsWhole}
use Rattle.k_plans.proofs.Renames.{Moves, moves-row, over-has, over_file-whole}
use Rattle.k_plans.proofs.Wholes.{after-tables, plan-from, with_names}
use Rattle.k_plans.proofs.plans.tables.Tables.move_over_file.Goals as goal

-- the tables before
abbrev before : goal.After-set_over → TablesView
before c = the_view c.self.inside

moves : (c : goal.After-set_over) → Moves c.args.path.now c.args.to.now c.args.moving c.args.name (before c).volume
moves c =
    subst (λ (t : TablesView). Moves c.args.path.now c.args.to.now c.args.moving c.args.name t.volume) (sym c.self.view_is)
    (record { rows = c.requires.rows; is_moving = c.requires.moving; row_is = c.requires.name })

abbrev after : goal.After-set_over → Volume
after c = renamed_over_file c.args.moving.entry.line c.args.name c.args.target.line (before c).volume

is_after : (c : goal.After-set_over) → with_names c.set_over.new.self (before c) ≡ with_volume (after c) (before c)
is_after c =
    ap (λ (rows : Rows). with_names rows (before c))
    c.set_over.ensures

whole_after : (c : goal.After-set_over) → IsWhole (after c)
whole_after c =
    over_file-whole c.args.path.now c.args.to.now c.args.moving c.args.name (before c).volume c.args.target c.self.invariant.whole (moves c) c.requires.target
    (subst (λ (t : TablesView). is_directory_in t.volume.inodes c.args.target.child ≡ false) (sym c.self.view_is) c.requires.file)

pub set_over-requires-clause-has_it : goal.set_over-requires-clause-has_it
set_over-requires-clause-has_it c =
    over-has c.args.path.now c.args.to.now c.args.moving c.args.name _ c.args.target
    (subst (λ (t : TablesView). Moves c.args.path.now c.args.to.now c.args.moving c.args.name t.volume) (sym c.self.view_is)
    (record { rows = c.requires.rows; is_moving = c.requires.moving; row_is = c.requires.name })) c.requires.target

pub put_over_file-requires-clause-name : goal.put_over_file-requires-clause-name
put_over_file-requires-clause-name c =
    moves-row c.args.path.now c.args.to.now c.args.moving c.args.name _ c.self.invariant.whole c.requires.spelled
    (subst (λ (t : TablesView). Moves c.args.path.now c.args.to.now c.args.moving c.args.name t.volume) (sym c.self.view_is)
    (record { rows = c.requires.rows; is_moving = c.requires.moving; row_is = c.requires.name }))

pub invariant_of-self : goal.invariant_of-self
invariant_of-self c =
    after-tables (before c) _ (after c) c.self.inside.pool c.self.inside.held (is_after c) c.self.invariant (whole_after c) refl
    (renamed_over_file-owners c.args.moving.entry.line c.args.name c.args.target.line (before c).volume)

pub returns-clause-plan : goal.returns-clause-plan
returns-clause-plan c =
    plan-from (before c) c.args.self.now _ (after c) c.put_over_file.new.batch c.self.view_is (is_after c)
    (c.put_over_file.ensures.turns (before c).volume) c.put_over_file.ensures.some (omega (arith, c.put_over_file.ensures.most))
    (λ ino least few. refl) (whole_after c) c.requires.idle refl
    (renamed_over_file-owners c.args.moving.entry.line c.args.name c.args.target.line (before c).volume)
