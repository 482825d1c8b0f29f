use Rattle.std.proofs.Common.{◌∙◌, List, sym, ap, subst}
use Rattle.std.proofs.lemmas.Bool.{both_ways}
use Rattle.std.proofs.lemmas.List.{get_or_default}
use Rattle.layout_model.specs.Lines.{NameRow, is_name_row}
use Rattle.layout_model.specs.Names.{is_entry, row}
use Rattle.k_tables.specs.image_model.Volume.{free_inode}
use Rattle.k_journal.specs.declared.batches.Record.{Record}
use Rattle.k_plans.specs.Making.{kind_of}
use Rattle.k_plans.specs.PlansPlans.{IsPlan}
use Rattle.k_plans.proofs.Wholes.{with_lines}
use Rattle.k_plans.specs.contracts.plans.tables.Tables.{the_view}
use Rattle.k_plans.specs.View.{TablesView}
use Rattle.k_tables.specs.k_split_model.ChangesChanges.{new_node}
use Rattle.k_tables.specs.Found.{IsPlace}
use Rattle.k_plans.proofs.Places.{MakesAt, makes-plan, makes-tables, place-new, place-row}
use Rattle.k_plans.proofs.plans.tables.Tables.make_at.Goals as goal

-- the tables before
abbrev before : goal.After-self-1 → TablesView
before c = the_view c.self.inside

makes : (c : goal.After-self-1)
    → MakesAt c.args.directory c.args.path.now c.args.place (before c) c.new_node-inode.result c.args.name c.set_name.new.names
makes c =
    let is_place : IsPlace c.self.inside.inodes.items c.self.inside.names c.args.path.now c.args.place =
    subst (λ (t : TablesView). IsPlace t.volume.inodes t.volume.names c.args.path.now c.args.place) (sym c.self.view_is) c.requires.place
    in
    record {
      is_place = is_place;
      node_is = c.new_node-inode.ensures.node ∙ ap (new_node (kind_of c.args.directory))
          (c.index.ensures ∙ get_or_default c.self.inside.inodes.items c.args.place.ino c.index.result.now free_inode is_place.room.ino_within);
      row_is = c.requires.name;
      names_is = c.in_ok-set_name.ensures.set;
    }

pub put_node-requires-clause-name : goal.put_node-requires-clause-name
put_node-requires-clause-name c =
    let is_place : IsPlace c.self.inside.inodes.items c.self.inside.names c.args.path.now c.args.place =
    subst (λ (t : TablesView). IsPlace t.volume.inodes t.volume.names c.args.path.now c.args.place) (sym c.self.view_is) c.requires.place
    in
    ap is_name_row c.requires.name ∙ place-row _ c.args.path.now c.args.place c.self.invariant.whole c.requires.spelled is_place

pub set_name-requires-clause-new : goal.set_name-requires-clause-new
set_name-requires-clause-new c = λ k entry.
    let is_place : IsPlace c.self.inside.inodes.items c.self.inside.names c.args.path.now c.args.place =
    subst (λ (t : TablesView). IsPlace t.volume.inodes t.volume.names c.args.path.now c.args.place) (sym c.self.view_is) c.requires.place
    in
    absurd (both_ways (is_entry c.args.name.parent c.args.name.name (row c.self.inside.names k))
    (ap (λ (r : NameRow). is_entry r.parent r.name (row c.self.inside.names k)) c.requires.name
    ∙ place-new _ c.args.path.now c.args.place c.self.invariant.whole is_place k) entry)

pub invariant_of-self-2 : goal.invariant_of-self-2
invariant_of-self-2 c =
    makes-tables c.args.directory c.args.path.now c.args.place (before c) c.new_node-inode.result c.args.name c.set_name.new.names c.self.inside.pool c.self.inside.held
    c.self.invariant (makes c)

pub returns-clause-plan : goal.returns-clause-plan
returns-clause-plan c =
    subst (λ (b : List Record). IsPlan c.args.self.now (with_lines c.args.place.ino c.new_node-inode.result c.set_name.new.names (before c)) b) (sym c.in_ok-set_name.ensures.planned)
    (makes-plan c.args.directory c.args.path.now c.args.place (before c) c.args.self.now c.new_node-inode.result c.args.name c.set_name.new.names c.put_node.new.batch
    c.self.view_is c.self.invariant.whole (makes c) (c.put_node.ensures.turns (before c).volume) c.put_node.ensures.some c.put_node.ensures.most c.requires.idle)
