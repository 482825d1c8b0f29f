use Rattle.std.proofs.Common.{◌≡◌, ◌<◌, Some, sym, subst}
use Rattle.std.specs.Prelude.{slice_get}
use Rattle.staging_files.specs.Keeps.{Agrees, AreFreeSingle, IsStaged}
use Rattle.staging_files.proofs.AgreeLaws.{agrees-back, single-back}
use Rattle.staging_files.proofs.GiveUpLaws.{at-place, back-view, not-there, place-within}
use Rattle.staging_files.proofs.StagedLaws.{staged-back}
use Rattle.staging_files.proofs.staging.Staging.give_back.Goals as goal

pub remove-requires : goal.remove-requires
remove-requires c = subst (λ n. c.in-Some.place < n) c.deref.ensures.len (place-within c.deref.result.now c.in-Some.place c.args.run c.in-Some.ensures.found)

pub invariant_of-self : goal.invariant_of-self
invariant_of-self c =
    let s = c.self.inside in
    let at : slice_get s.out.items c.in-Some.place ≡ Some c.args.run =
    subst (λ xs. slice_get xs c.in-Some.place ≡ Some c.args.run) c.deref.ensures.value c.in-Some.ensures.found
    in
    subst (λ xs. IsStaged (record { out = xs; given = s.given })) (sym c.remove.ensures.items)
    (staged-back (record { out = s.out.items; given = s.given }) c.in-Some.place c.self.invariant (place-within s.out.items c.in-Some.place c.args.run at))

pub returns-in-Some-clause-back : goal.returns-in-Some-clause-back
returns-in-Some-clause-back c =
    let s = c.self.inside in
    let at : slice_get s.out.items c.in-Some.place ≡ Some c.args.run =
    subst (λ xs. slice_get xs c.in-Some.place ≡ Some c.args.run) c.deref.ensures.value c.in-Some.ensures.found
    in
    record {
      place = c.in-Some.place;
      was = subst (λ v. slice_get v.out c.in-Some.place ≡ Some c.args.run) c.self.view_is at;
      now = back-view s.out.items c.remove.new.self.items s.given c.args.self.now c.in-Some.place c.self.view_is c.remove.ensures.items;
    }

pub returns-in-Some-clause-agrees : goal.returns-in-Some-clause-agrees
returns-in-Some-clause-agrees c k agrees there =
    let s = c.self.inside in
    let at : slice_get c.args.self.now.out c.in-Some.place ≡ Some c.args.run =
    subst (λ v. slice_get v.out c.in-Some.place ≡ Some c.args.run) c.self.view_is
    (subst (λ xs. slice_get xs c.in-Some.place ≡ Some c.args.run) c.deref.ensures.value c.in-Some.ensures.found)
    in
    subst (λ t. Agrees t k)
    (sym (back-view s.out.items c.remove.new.self.items s.given c.args.self.now c.in-Some.place c.self.view_is c.remove.ensures.items))
    (agrees-back c.args.self.now c.in-Some.place c.args.run (place-within c.args.self.now.out c.in-Some.place c.args.run at) (at-place c.args.self.now.out c.in-Some.place c.args.run at) k agrees there)

pub returns-in-Some-clause-single : goal.returns-in-Some-clause-single
returns-in-Some-clause-single c k single there =
    let s = c.self.inside in
    let at : slice_get c.args.self.now.out c.in-Some.place ≡ Some c.args.run =
    subst (λ v. slice_get v.out c.in-Some.place ≡ Some c.args.run) c.self.view_is
    (subst (λ xs. slice_get xs c.in-Some.place ≡ Some c.args.run) c.deref.ensures.value c.in-Some.ensures.found)
    in
    subst (λ t. AreFreeSingle t k)
    (sym (back-view s.out.items c.remove.new.self.items s.given c.args.self.now c.in-Some.place c.self.view_is c.remove.ensures.items))
    (single-back c.args.self.now c.in-Some.place c.args.run (place-within c.args.self.now.out c.in-Some.place c.args.run at) (at-place c.args.self.now.out c.in-Some.place c.args.run at) k single there)

pub returns-in_default-clause-back : goal.returns-in_default-clause-back
returns-in_default-clause-back c = absurd (not-there c.args.self.now c.self.inside.out.items c.self.inside.given c.deref.result.now c.args.run c.self.view_is c.deref.ensures.value c.requires c.in_default.ensures.none)

pub returns-in_default-clause-agrees : goal.returns-in_default-clause-agrees
returns-in_default-clause-agrees c k agrees there = agrees

pub returns-in_default-clause-single : goal.returns-in_default-clause-single
returns-in_default-clause-single c k single there = single
