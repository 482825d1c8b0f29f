use Rattle.std.proofs.Common.{sym, subst, ap, ◌∙◌}
use Rattle.std.specs.Prelude.{◌≡◌, slice_get, Some, List}
use Rattle.open_files.specs.list_laws.Members.{In, In-slice_get}
use Rattle.live_model.specs.Standing.{JobOut}
use Rattle.in_flight.proofs.Taking.{all_left, at_index, one_taken}
use Rattle.in_flight.proofs.jobs.pending.take_job.Goals as goal

pub returns-in-Some-clause-left : goal.returns-in-Some-clause-left
returns-in-Some-clause-left c =
    let found = c.in-Some.ensures.some in
    c.remove.ensures.items ∙ one_taken c.args.who c.args.pending.now.items c.in-Some.place found.0 c.requires (ap (λ (ps : List JobOut). slice_get ps c.in-Some.place) (sym c.deref.ensures.value) ∙ found.1) found.2

pub returns-in-Some-clause-some : goal.returns-in-Some-clause-some
returns-in-Some-clause-some c =
    let found = c.in-Some.ensures.some in
    let at : slice_get c.args.pending.now.items c.in-Some.place ≡ Some found.0 = ap (λ (ps : List JobOut). slice_get ps c.in-Some.place) (sym c.deref.ensures.value) ∙ found.1 in
    let is : found.0 ≡ c.remove.result = sym (c.remove.ensures.value ∙ at_index c.args.pending.now.items c.in-Some.place found.0 c.remove.result at) in
    (subst (λ (p : JobOut). In p c.args.pending.now.items) is (In-slice_get c.args.pending.now.items c.in-Some.place found.0 at), subst (λ (p : JobOut). p.who ≡ c.args.who) is found.2)

pub returns-in-None-clause-left : goal.returns-in-None-clause-left
returns-in-None-clause-left c = sym (all_left c.args.who c.args.pending.now.items (subst (λ (ps : List JobOut). (p : JobOut) → In p ps → p.who ≡ c.args.who → ⊥) c.deref.ensures.value c.in-None.ensures.none))

pub returns-in-None-clause-none : goal.returns-in-None-clause-none
returns-in-None-clause-none c = subst (λ (ps : List JobOut). (p : JobOut) → In p ps → p.who ≡ c.args.who → ⊥) c.deref.ensures.value c.in-None.ensures.none
