use Rattle.std.proofs.Common.{◌≡◌, ◌∙◌, ◌++◌, ℕ, List, ap, subst, sym}
use Rattle.layout_model.specs.declared.lines.Inode.{Inode}
use Rattle.k_tables.specs.image_model.Reading.{inode_set}
use Rattle.k_tables.specs.extent_model.Extents.{IsCanonical}
use Rattle.volume_change_laws.specs.k_split_model.Taken.{with_map}
use Rattle.k_plans.specs.LandingsPlans.{IsMapFrom, Turns}
use Rattle.volume_change_laws.specs.Switches.{MaySwitch}
use Rattle.k_plans.specs.Free.{AreTables, is_free_block}
use Rattle.k_plans.specs.Switching.{switched_tables}
use Rattle.k_plans.specs.View.{TablesView, map_blocks}
use Rattle.k_plans.specs.Whole.{IsWhole}
use Rattle.k_plans.specs.contracts.plans.tables.Tables.{the_view}
use Rattle.k_plans.proofs.Switches.{still-free, switched-are, switched-whole}
use Rattle.k_plans.proofs.plans.tables.Tables.switch.Goals as goal

abbrev before : goal.After-drop-self-inside-2 → TablesView
before c = the_view c.self.inside

may : (c : goal.After-drop-self-inside-2)
    → MaySwitch (before c).volume (before c).aside c.args.ino c.args.inode.now c.args.blocks.items c.args.map c.args.aside.items
may c =
    subst (λ (t : TablesView). MaySwitch t.volume t.aside c.args.ino c.args.inode.now c.args.blocks.items c.args.map c.args.aside.items)
    (sym c.self.view_is) c.requires.may

line_is : (c : goal.After-drop-self-inside-2) → c.with_map-inode.result ≡ with_map c.args.blocks.items c.args.map c.args.inode.now
line_is c = c.with_map-inode.ensures.line ∙ ap (λ bs. with_map bs c.args.map c.args.inode.now) c.deref.ensures.value

canonical : (c : goal.After-drop-self-inside-2) → IsCanonical c.args.map
canonical c = c.with_map-inode.ensures.canonical

-- the tables after, with that line of the inode and those blocks set aside
abbrev after : (c : goal.After-drop-self-inside-2) → Inode → List ℕ → TablesView
after c x ks =
    record (before c) { volume = inode_set c.args.ino x c.args.blocks.items c.args.map (before c).volume; aside = ks }

aside_is : (c : goal.After-drop-self-inside-2) → map_blocks c.new.result ++ c.args.aside.items ≡ c.args.aside.items
aside_is c = ap (λ es. map_blocks es ++ c.args.aside.items) c.new.ensures

pub invariant_of-self : goal.invariant_of-self
invariant_of-self c =
    subst (λ ks. AreTables (after c c.with_map-inode.result ks) c.self.inside.pool c.self.inside.held) (sym (aside_is c))
    (subst (λ (x : Inode). AreTables (after c x c.args.aside.items) c.self.inside.pool c.self.inside.held) (sym (line_is c))
    (switched-are (before c) c.self.inside.pool c.self.inside.held c.args.ino c.args.inode.now c.args.blocks.items c.args.map c.args.aside.items c.self.invariant (canonical c) (may c)))

is_after : (c : goal.After-drop-self-inside-2)
    → after c c.with_map-inode.result (map_blocks c.new.result ++ c.args.aside.items)
    ≡ switched_tables c.args.ino c.args.inode.now c.args.blocks.items c.args.map c.args.aside.items (before c)
is_after c = λ i. after c (line_is c i) (aside_is c i)

pub returns-clause-switched : goal.returns-clause-switched
returns-clause-switched c =
    is_after c ∙ ap (switched_tables c.args.ino c.args.inode.now c.args.blocks.items c.args.map c.args.aside.items) c.self.view_is

pub returns-clause-free : goal.returns-clause-free
returns-clause-free c b =
    ap (λ (t : TablesView). is_free_block t b) (is_after c)
    ∙ still-free (before c) c.self.inside.pool c.self.inside.held c.args.ino c.args.inode.now c.args.blocks.items c.args.map c.args.aside.items c.self.invariant (canonical c) (may c) b
    ∙ ap (λ (t : TablesView). is_free_block t b) c.self.view_is

pub returns-clause-back : goal.returns-clause-back
returns-clause-back c = (invariant_of-self c).back

pub returns-clause-turns : goal.returns-clause-turns
returns-clause-turns c news v from turns =
    subst (λ (t : TablesView).
    IsMapFrom news t.volume c.args.ino (with_map c.args.blocks.items c.args.map c.args.inode.now) c.args.blocks.items c.args.map
    → Turns t.volume.geometry news v t.volume c.args.batch.now
    → Turns t.volume.geometry news v (inode_set c.args.ino c.with_map-inode.result c.args.blocks.items c.args.map (before c).volume) c.put_inode.new.batch)
    c.self.view_is
    (λ f u.
    c.put_inode.ensures.turns news v (before c).volume c.args.blocks.items c.args.map
    (subst (λ (x : Inode). IsMapFrom news (before c).volume c.args.ino x c.args.blocks.items c.args.map) (sym (line_is c)) f) u)
    from turns

pub returns-clause-once : goal.returns-clause-once
returns-clause-once c =
    (invariant_of-self c).back.once

pub returns-clause-whole : goal.returns-clause-whole
returns-clause-whole c =
    subst (λ (x : Inode). IsWhole (inode_set c.args.ino x c.args.blocks.items c.args.map (before c).volume)) (sym (line_is c))
    (switched-whole (before c) c.self.inside.pool c.self.inside.held c.args.ino c.args.inode.now c.args.blocks.items c.args.map c.args.aside.items c.self.invariant (canonical c) (may c))
