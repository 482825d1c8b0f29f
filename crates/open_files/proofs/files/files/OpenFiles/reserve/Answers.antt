use Rattle.std.proofs.Common.{◌∙◌, ap, arith}
use Rattle.std.specs.Vec.{vec_capacity, vec_len}
use Rattle.slab.specs.Slab.{slab_len}
use Rattle.open_files.specs.State.{OpenState}
use Rattle.open_files.proofs.Rooms.{parts-room, room-parts}
use Rattle.open_files.proofs.files.files.OpenFiles.reserve.Goals as goal

pub returns-then-self-clause-had_room : goal.returns-then-self-clause-had_room
returns-then-self-clause-had_room c = λ room.
    (let parts = room-parts (slab_len c.self.inside.kept) c.self.inside.kept.capacity (vec_len c.self.inside.bindings) (vec_capacity c.self.inside.bindings) c.self.inside.ever_opened (ap (λ (s : OpenState). s.has_room) c.self.view_is ∙ room) in
    absurd (omega (arith, c.if-self.true)))

pub returns-in_err-reserve-clause-had_room : goal.returns-in_err-reserve-clause-had_room
returns-in_err-reserve-clause-had_room c = λ room.
    (let parts = room-parts (slab_len c.self.inside.kept) c.self.inside.kept.capacity (vec_len c.self.inside.bindings) (vec_capacity c.self.inside.bindings) c.self.inside.ever_opened (ap (λ (s : OpenState). s.has_room) c.self.view_is ∙ room) in
    let never = c.in_err-reserve.ensures.succeeds (omega arith) in
    absurd (cc))

pub returns-in_err-reserve-2-clause-had_room : goal.returns-in_err-reserve-2-clause-had_room
returns-in_err-reserve-2-clause-had_room c = λ room.
    (let parts = room-parts (slab_len c.self.inside.kept) c.self.inside.kept.capacity (vec_len c.self.inside.bindings) (vec_capacity c.self.inside.bindings) c.self.inside.ever_opened (ap (λ (s : OpenState). s.has_room) c.self.view_is ∙ room) in
    let never = c.in_err-reserve-2.ensures.succeeds (omega arith) in
    absurd (cc))

pub returns-clause-room : goal.returns-clause-room
returns-clause-room c =
    let first = c.in_ok-reserve.ensures.room in
    let second = c.in_ok-reserve-2.ensures.ok in
    parts-room (slab_len c.reserve.new.self) c.reserve.new.self.capacity (vec_len c.reserve-2.new.self) (vec_capacity c.reserve-2.new.self) c.self.inside.ever_opened (omega arith) (omega arith) (omega arith)
