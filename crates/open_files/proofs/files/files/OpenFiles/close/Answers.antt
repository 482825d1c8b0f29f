use Rattle.std.proofs.Common.{ap, sym, ◌∙◌, arith}
use Rattle.std.specs.Option.{option_map}
use Rattle.posix_tables.specs.declared.open.Description.{Description}
use Rattle.open_files.specs.Found.{IsFound, NotFound}
use Rattle.open_files.specs.Kept.{tables_of}
use Rattle.open_files.proofs.Answering.{opened-found, opened-not_found, unbound-not_found}
use Rattle.open_files.proofs.Changing.{closed-unbound, kept-closed, tables-closed}
use Rattle.std.specs.Vec.{vec_capacity, vec_len}
use Rattle.slab.specs.Slab.{slab_len}
use Rattle.open_files.specs.State.{OpenState}
use Rattle.open_files.proofs.Rooms.{parts-room, room-parts}
use Rattle.open_files.proofs.files.files.OpenFiles.close.Goals as goal

pub returns-in_default-clause-ino : goal.returns-in_default-clause-ino
returns-in_default-clause-ino c =
    let absent : NotFound c.self.inside.kept.slots c.self.inside.descriptors.items c.self.inside.bindings.items c.args.who c.args.handle = rw (c.deref.ensures.value, c.deref-2.ensures.value) at c.in_default.ensures.none in
    rw (← c.self.view_is) (sym (ap (option_map (λ (d : Description). d.node)) (opened-not_found c.self.inside.kept.slots c.self.inside.ever_opened c.self.inside.descriptors.items c.self.inside.bindings.items c.self.invariant c.args.who c.args.handle absent)))

pub returns-in_default-clause-tables : goal.returns-in_default-clause-tables
returns-in_default-clause-tables c =
    let absent : NotFound c.self.inside.kept.slots c.self.inside.descriptors.items c.self.inside.bindings.items c.args.who c.args.handle = rw (c.deref.ensures.value, c.deref-2.ensures.value) at c.in_default.ensures.none in
    rw (← c.self.view_is) (sym (closed-unbound (tables_of c.self.inside.kept.slots c.self.inside.ever_opened c.self.inside.descriptors.items c.self.inside.bindings.items) c.args.who c.args.handle (unbound-not_found c.self.inside.kept.slots c.self.inside.ever_opened c.self.inside.descriptors.items c.self.inside.bindings.items c.self.invariant c.args.who c.args.handle absent)))

pub invariant_of-self : goal.invariant_of-self
invariant_of-self c =
    let is : IsFound c.self.inside.kept.slots c.self.inside.descriptors.items c.self.inside.bindings.items c.args.who c.args.handle c.in-Some.found = rw (c.deref.ensures.value, c.deref-2.ensures.value) at c.in-Some.ensures.found in
    rw c.drop_binding.ensures.items (kept-closed c.self.inside.kept c.drop_unused.new.kept c.self.inside.ever_opened c.self.inside.descriptors.items c.self.inside.bindings.items c.args.who c.args.handle c.in-Some.found is c.self.invariant
    (rw c.deref-3.ensures.value at c.drop_unused.ensures.used) (rw c.deref-3.ensures.value at c.drop_unused.ensures.unused))

pub returns-clause-ino : goal.returns-clause-ino
returns-clause-ino c =
    let is : IsFound c.self.inside.kept.slots c.self.inside.descriptors.items c.self.inside.bindings.items c.args.who c.args.handle c.in-Some.found = rw (c.deref.ensures.value, c.deref-2.ensures.value) at c.in-Some.ensures.found in
    rw (← c.self.view_is) (sym (ap (option_map (λ (d : Description). d.node)) (opened-found c.self.inside.kept.slots c.self.inside.ever_opened c.self.inside.descriptors.items c.self.inside.bindings.items c.self.invariant c.args.who c.args.handle c.in-Some.found is)))

pub returns-clause-tables : goal.returns-clause-tables
returns-clause-tables c =
    let is : IsFound c.self.inside.kept.slots c.self.inside.descriptors.items c.self.inside.bindings.items c.args.who c.args.handle c.in-Some.found = rw (c.deref.ensures.value, c.deref-2.ensures.value) at c.in-Some.ensures.found in
    rw (c.drop_binding.ensures.items, ← c.self.view_is) (tables-closed c.self.inside.kept c.drop_unused.new.kept c.self.inside.ever_opened c.self.inside.descriptors.items c.self.inside.bindings.items c.args.who c.args.handle c.in-Some.found is c.self.invariant
    (rw c.deref-3.ensures.value at c.drop_unused.ensures.used) (rw c.deref-3.ensures.value at c.drop_unused.ensures.unused))

pub returns-clause-room : goal.returns-clause-room
returns-clause-room c = λ room.
    (let parts = room-parts (slab_len c.self.inside.kept) c.self.inside.kept.capacity (vec_len c.self.inside.bindings) (vec_capacity c.self.inside.bindings) c.self.inside.ever_opened (ap (λ (s : OpenState). s.has_room) c.self.view_is ∙ room) in
    parts-room (slab_len c.drop_unused.new.kept) c.drop_unused.new.kept.capacity (vec_len c.drop_binding.new.handles) (vec_capacity c.drop_binding.new.handles) c.self.inside.ever_opened (omega arith) (omega arith) parts.2)
