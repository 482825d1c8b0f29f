use Rattle.std.proofs.Common.{◌≡◌, ℕ, Some, None, Option, ap, ◌∙◌, sym, refl, arith}
use Rattle.std.specs.Prelude.{is_none, position, unwrap_or}
use Rattle.std.specs.Vec.{vec_capacity, vec_len}
use Rattle.slab.specs.Slab.{slab_len}
use Rattle.posix_tables.specs.Open.{with_descriptor}
use Rattle.open_files.specs.Found.{IsFound, NotFound}
use Rattle.open_files.specs.Kept.{tables_of}
use Rattle.open_files.proofs.Answering.{free_is, key-found, opened-found, opened-not_found}
use Rattle.open_files.proofs.Changing.{kept-doubled, tables-doubled}
use Rattle.open_files.proofs.Places.{is_some-of}
use Rattle.open_files.proofs.Rooms.{not_true, ok_not_err, room-parts}
use Rattle.open_files.proofs.files.files.OpenFiles.dup.Goals as goal

pub returns-in_default-clause-cause : goal.returns-in_default-clause-cause
returns-in_default-clause-cause c =
    let absent : NotFound c.self.inside.kept.slots c.self.inside.descriptors.items c.self.inside.bindings.items c.args.who c.args.old = rw (c.deref.ensures.value, c.deref-2.ensures.value) at c.in_default.ensures.none in
    rw (← c.self.view_is) (opened-not_found c.self.inside.kept.slots c.self.inside.ever_opened c.self.inside.descriptors.items c.self.inside.bindings.items c.self.invariant c.args.who c.args.old absent)

pub returns-in_default-first_free-clause-cause : goal.returns-in_default-first_free-clause-cause
returns-in_default-first_free-clause-cause c =
    let is : IsFound c.self.inside.kept.slots c.self.inside.descriptors.items c.self.inside.bindings.items c.args.who c.args.old c.in-Some.found = rw (c.deref.ensures.value, c.deref-2.ensures.value) at c.in-Some.ensures.found in
    let opens = opened-found c.self.inside.kept.slots c.self.inside.ever_opened c.self.inside.descriptors.items c.self.inside.bindings.items c.self.invariant c.args.who c.args.old c.in-Some.found is in
    let at : position (λ slot. is_none slot) c.self.inside.descriptors.items ≡ None = rw c.deref-3.ensures.value at (sym c.first_free.ensures.lowest ∙ c.in_default-first_free.is) in
    let free = free_is c.self.inside.kept.slots c.self.inside.ever_opened c.self.inside.descriptors.items c.self.inside.bindings.items ∙ at in
    rw (← c.self.view_is) (is_some-of _ _ opens, (refl, ap (λ (o : Option ℕ). is_none o) free))

pub returns-then-is_err-clause-cause : goal.returns-then-is_err-clause-cause
returns-then-is_err-clause-cause c =
    let is : IsFound c.self.inside.kept.slots c.self.inside.descriptors.items c.self.inside.bindings.items c.args.who c.args.old c.in-Some.found = rw (c.deref.ensures.value, c.deref-2.ensures.value) at c.in-Some.ensures.found in
    let opens = opened-found c.self.inside.kept.slots c.self.inside.ever_opened c.self.inside.descriptors.items c.self.inside.bindings.items c.self.invariant c.args.who c.args.old c.in-Some.found is in
    let at : position (λ slot. is_none slot) c.self.inside.descriptors.items ≡ Some c.in-Some-first_free.descriptor = rw c.deref-3.ensures.value at (sym c.first_free.ensures.lowest ∙ c.in-Some-first_free.is) in
    let free = free_is c.self.inside.kept.slots c.self.inside.ever_opened c.self.inside.descriptors.items c.self.inside.bindings.items ∙ at in
    rw (← c.self.view_is) (
      is_some-of _ _ opens,
      (
        ap (λ (o : Option ℕ). is_none o) free,
        not_true _ (λ room.
            (let parts = room-parts (slab_len c.self.inside.kept) c.self.inside.kept.capacity (vec_len c.self.inside.bindings) (vec_capacity c.self.inside.bindings) c.self.inside.ever_opened room in
            ok_not_err c.reserve.result (c.reserve.ensures.succeeds (omega arith)) (sym c.is_err.ensures.value ∙ c.if-is_err.true))),
      ),
    )

pub invariant_of-self-2 : goal.invariant_of-self-2
invariant_of-self-2 c =
    let is : IsFound c.self.inside.kept.slots c.self.inside.descriptors.items c.self.inside.bindings.items c.args.who c.args.old c.in-Some.found = rw (c.deref.ensures.value, c.deref-2.ensures.value) at c.in-Some.ensures.found in
    let at : position (λ slot. is_none slot) c.self.inside.descriptors.items ≡ Some c.in-Some-first_free.descriptor = rw c.deref-3.ensures.value at (sym c.first_free.ensures.lowest ∙ c.in-Some-first_free.is) in
    rw (c.bind.ensures, c.reserve.ensures.items) (kept-doubled c.self.inside.kept.slots c.self.inside.ever_opened c.self.inside.descriptors.items c.self.inside.bindings.items c.in-Some-first_free.descriptor at c.args.who c.args.new c.in-Some.found.reference c.in-Some.found.binding.descriptor c.self.invariant is.reference)

pub returns-clause-lowest : goal.returns-clause-lowest
returns-clause-lowest c =
    let at : position (λ slot. is_none slot) c.self.inside.descriptors.items ≡ Some c.in-Some-first_free.descriptor = rw c.deref-3.ensures.value at (sym c.first_free.ensures.lowest ∙ c.in-Some-first_free.is) in
    rw (← c.self.view_is) (free_is c.self.inside.kept.slots c.self.inside.ever_opened c.self.inside.descriptors.items c.self.inside.bindings.items ∙ at)

pub returns-clause-known : goal.returns-clause-known
returns-clause-known c =
    let is : IsFound c.self.inside.kept.slots c.self.inside.descriptors.items c.self.inside.bindings.items c.args.who c.args.old c.in-Some.found = rw (c.deref.ensures.value, c.deref-2.ensures.value) at c.in-Some.ensures.found in
    let opens = opened-found c.self.inside.kept.slots c.self.inside.ever_opened c.self.inside.descriptors.items c.self.inside.bindings.items c.self.invariant c.args.who c.args.old c.in-Some.found is in
    rw (← c.self.view_is) (is_some-of _ _ opens)

pub returns-clause-ok : goal.returns-clause-ok
returns-clause-ok c =
    let is : IsFound c.self.inside.kept.slots c.self.inside.descriptors.items c.self.inside.bindings.items c.args.who c.args.old c.in-Some.found = rw (c.deref.ensures.value, c.deref-2.ensures.value) at c.in-Some.ensures.found in
    let at : position (λ slot. is_none slot) c.self.inside.descriptors.items ≡ Some c.in-Some-first_free.descriptor = rw c.deref-3.ensures.value at (sym c.first_free.ensures.lowest ∙ c.in-Some-first_free.is) in
    let keys = key-found c.self.inside.kept.slots c.self.inside.ever_opened c.self.inside.descriptors.items c.self.inside.bindings.items c.args.who c.args.old c.in-Some.found is in
    rw (c.bind.ensures, c.reserve.ensures.items, ← c.self.view_is)
    (tables-doubled c.self.inside.kept.slots c.self.inside.ever_opened c.self.inside.descriptors.items c.self.inside.bindings.items c.in-Some-first_free.descriptor at c.args.who c.args.new c.in-Some.found.reference
    ∙ ap (λ (o : Option ℕ). with_descriptor (tables_of c.self.inside.kept.slots c.self.inside.ever_opened c.self.inside.descriptors.items c.self.inside.bindings.items) c.args.who c.args.new (unwrap_or o 0)) (sym keys.1))
