use Rattle.std.proofs.Common.{◌≡◌, ℕ, Some, None, Option, ap, ◌∙◌, sym, refl}
use Rattle.std.specs.Prelude.{is_none, position}
use Rattle.posix_tables.specs.Open.{free_descriptor, Tables}
use Rattle.open_files.specs.State.{OpenState}
use Rattle.open_files.proofs.Answering.{free_is}
use Rattle.open_files.proofs.Rooms.{not_true, ok_not_err}
use Rattle.open_files.proofs.files.files.OpenFiles.open.Goals as goal

pub returns-in_default-clause-cause : goal.returns-in_default-clause-cause
returns-in_default-clause-cause c =
    let at : position (λ slot. is_none slot) c.self.inside.descriptors.items ≡ None = rw c.deref.ensures.value at (sym c.first_free.ensures.lowest ∙ c.in_default.is) in
    let free : free_descriptor c.args.self.now.tables ≡ None = sym (ap (λ (s : OpenState). free_descriptor s.tables) c.self.view_is) ∙ free_is c.self.inside.kept.slots c.self.inside.ever_opened c.self.inside.descriptors.items c.self.inside.bindings.items ∙ at in
    (refl, ap (λ (o : Option ℕ). is_none o) free)

pub returns-then-is_err-clause-cause : goal.returns-then-is_err-clause-cause
returns-then-is_err-clause-cause c =
    let at : position (λ slot. is_none slot) c.self.inside.descriptors.items ≡ Some c.in-Some.descriptor = rw c.deref.ensures.value at (sym c.first_free.ensures.lowest ∙ c.in-Some.is) in
    let free : free_descriptor c.args.self.now.tables ≡ Some c.in-Some.descriptor = sym (ap (λ (s : OpenState). free_descriptor s.tables) c.self.view_is) ∙ free_is c.self.inside.kept.slots c.self.inside.ever_opened c.self.inside.descriptors.items c.self.inside.bindings.items ∙ at in (
      ap (λ (o : Option ℕ). is_none o) free,
      not_true c.args.self.now.has_room (λ room. ok_not_err c.reserve.result (c.reserve.ensures.had_room room) (sym c.is_err.ensures.value ∙ c.if-is_err.true)),
    )

pub add-requires-clause-free : goal.add-requires-clause-free
add-requires-clause-free c =
    let at : position (λ slot. is_none slot) c.self.inside.descriptors.items ≡ Some c.in-Some.descriptor = rw c.deref.ensures.value at (sym c.first_free.ensures.lowest ∙ c.in-Some.is) in
    ap (λ (t : Tables). free_descriptor t) c.reserve.ensures.tables ∙ sym (ap (λ (s : OpenState). free_descriptor s.tables) c.self.view_is) ∙ free_is c.self.inside.kept.slots c.self.inside.ever_opened c.self.inside.descriptors.items c.self.inside.bindings.items ∙ at

pub returns-clause-lowest : goal.returns-clause-lowest
returns-clause-lowest c =
    let at : position (λ slot. is_none slot) c.self.inside.descriptors.items ≡ Some c.in-Some.descriptor = rw c.deref.ensures.value at (sym c.first_free.ensures.lowest ∙ c.in-Some.is) in
    sym (ap (λ (s : OpenState). free_descriptor s.tables) c.self.view_is) ∙ free_is c.self.inside.kept.slots c.self.inside.ever_opened c.self.inside.descriptors.items c.self.inside.bindings.items ∙ at
