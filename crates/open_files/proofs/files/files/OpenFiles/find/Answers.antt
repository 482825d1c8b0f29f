use Rattle.std.proofs.Common.{◌∙◌, sym}
use Rattle.open_files.specs.Found.{IsFound, NotFound}
use Rattle.open_files.proofs.Answering.{key-found, opened-found, opened-not_found}
use Rattle.open_files.proofs.Places.{is_some-of}
use Rattle.open_files.proofs.files.files.OpenFiles.find.Goals as goal

pub returns-in-Some-clause-description : goal.returns-in-Some-clause-description
returns-in-Some-clause-description c =
    let is : IsFound c.self.inside.kept.slots c.self.inside.descriptors.items c.self.inside.bindings.items c.args.who c.args.handle c.in-Some.found = rw (c.deref.ensures.value, c.deref-2.ensures.value) at c.in-Some.ensures.found in
    rw (← c.self.view_is) (opened-found c.self.inside.kept.slots c.self.inside.ever_opened c.self.inside.descriptors.items c.self.inside.bindings.items c.self.invariant c.args.who c.args.handle c.in-Some.found is)

pub returns-in-Some-clause-key : goal.returns-in-Some-clause-key
returns-in-Some-clause-key c =
    let is : IsFound c.self.inside.kept.slots c.self.inside.descriptors.items c.self.inside.bindings.items c.args.who c.args.handle c.in-Some.found = rw (c.deref.ensures.value, c.deref-2.ensures.value) at c.in-Some.ensures.found in
    let keys = key-found c.self.inside.kept.slots c.self.inside.ever_opened c.self.inside.descriptors.items c.self.inside.bindings.items c.args.who c.args.handle c.in-Some.found is in
    rw (← c.self.view_is) (keys.0 ∙ sym keys.1)

pub returns-in-None-clause-description : goal.returns-in-None-clause-description
returns-in-None-clause-description c =
    let absent : NotFound c.self.inside.kept.slots c.self.inside.descriptors.items c.self.inside.bindings.items c.args.who c.args.handle = rw (c.deref.ensures.value, c.deref-2.ensures.value) at c.in-None.ensures.none in
    rw (← c.self.view_is) (opened-not_found c.self.inside.kept.slots c.self.inside.ever_opened c.self.inside.descriptors.items c.self.inside.bindings.items c.self.invariant c.args.who c.args.handle absent)

pub returns-in-Some-clause-in_use : goal.returns-in-Some-clause-in_use
returns-in-Some-clause-in_use c =
    let is : IsFound c.self.inside.kept.slots c.self.inside.descriptors.items c.self.inside.bindings.items c.args.who c.args.handle c.in-Some.found = rw (c.deref.ensures.value, c.deref-2.ensures.value) at c.in-Some.ensures.found in
    let keys = key-found c.self.inside.kept.slots c.self.inside.ever_opened c.self.inside.descriptors.items c.self.inside.bindings.items c.args.who c.args.handle c.in-Some.found is in
    rw (← c.self.view_is) (is_some-of _ _ keys.0)
