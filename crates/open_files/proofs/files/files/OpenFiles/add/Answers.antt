use Rattle.std.proofs.Common.{◌≡◌, Some, ap, ◌∙◌, sym, refl, arith}
use Rattle.std.specs.Prelude.{is_none, position}
use Rattle.std.specs.Vec.{vec_capacity, vec_len}
use Rattle.slab.specs.Slab.{slab_len}
use Rattle.posix_tables.specs.Open.{free_descriptor}
use Rattle.open_files.specs.State.{OpenState}
use Rattle.open_files.proofs.Answering.{free_is}
use Rattle.open_files.proofs.Changing.{kept-opened, tables-opened}
use Rattle.open_files.proofs.Rooms.{room-parts}
use Rattle.open_files.proofs.files.files.OpenFiles.add.Goals as goal

pub insert_reserved-key-requires : goal.insert_reserved-key-requires
insert_reserved-key-requires c =
    let parts = room-parts (slab_len c.self.inside.kept) c.self.inside.kept.capacity (vec_len c.self.inside.bindings) (vec_capacity c.self.inside.bindings) c.self.inside.ever_opened (ap (λ (s : OpenState). s.has_room) c.self.view_is ∙ c.requires.room) in
    omega arith

pub overflow_add-self : goal.overflow_add-self
overflow_add-self c =
    let parts = room-parts (slab_len c.self.inside.kept) c.self.inside.kept.capacity (vec_len c.self.inside.bindings) (vec_capacity c.self.inside.bindings) c.self.inside.ever_opened (ap (λ (s : OpenState). s.has_room) c.self.view_is ∙ c.requires.room) in
    omega arith

pub bind-requires : goal.bind-requires
bind-requires c =
    let parts = room-parts (slab_len c.self.inside.kept) c.self.inside.kept.capacity (vec_len c.self.inside.bindings) (vec_capacity c.self.inside.bindings) c.self.inside.ever_opened (ap (λ (s : OpenState). s.has_room) c.self.view_is ∙ c.requires.room) in
    parts.1

pub invariant_of-self : goal.invariant_of-self
invariant_of-self c =
    let at : position (λ slot. is_none slot) c.self.inside.descriptors.items ≡ Some c.args.descriptor =
    sym (free_is c.self.inside.kept.slots c.self.inside.ever_opened c.self.inside.descriptors.items c.self.inside.bindings.items) ∙ ap (λ (s : OpenState). free_descriptor s.tables) c.self.view_is ∙ c.requires.free in
    rw c.bind.ensures (kept-opened c.self.inside.kept c.insert_reserved-key.new.self c.self.inside.ever_opened c.self.inside.descriptors.items c.self.inside.bindings.items c.args.descriptor at
    c.insert_reserved-key.result (record { number = c.self.inside.ever_opened; ino = c.args.ino; offset = 0; flags = c.args.flags }) refl c.insert_reserved-key.ensures.updates c.insert_reserved-key.ensures.was_vacant c.self.invariant c.args.who c.args.handle)

pub returns : goal.returns
returns c =
    let at : position (λ slot. is_none slot) c.self.inside.descriptors.items ≡ Some c.args.descriptor =
    sym (free_is c.self.inside.kept.slots c.self.inside.ever_opened c.self.inside.descriptors.items c.self.inside.bindings.items) ∙ ap (λ (s : OpenState). free_descriptor s.tables) c.self.view_is ∙ c.requires.free in
    rw (c.bind.ensures, ← c.self.view_is) (tables-opened c.self.inside.kept c.insert_reserved-key.new.self c.self.inside.ever_opened c.self.inside.descriptors.items c.self.inside.bindings.items c.args.descriptor at
    c.insert_reserved-key.result (record { number = c.self.inside.ever_opened; ino = c.args.ino; offset = 0; flags = c.args.flags }) refl c.insert_reserved-key.ensures.updates c.insert_reserved-key.ensures.was_vacant c.self.invariant c.args.who c.args.handle)
