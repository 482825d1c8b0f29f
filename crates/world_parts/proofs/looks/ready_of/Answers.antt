use Rattle.std.proofs.Common.{◌≡◌, ◌∙◌, ap, sym, subst}
use Rattle.std.specs.Prelude.{List, None, Some, slice_get}
use Rattle.world_view_laws.specs.list_laws.Members.{In, In-slice_get}
use Rattle.world_view_laws.specs.in_flight.live_model.Standing.{JobOut}
use Rattle.world_view_laws.specs.Views.{next_of}
use Rattle.world_parts.specs.Seen.{seen}
use Rattle.world_parts.proofs.Nexts.{next_is}
use Rattle.world_parts.proofs.looks.ready_of.Goals as goal

pub ready_for-requires-clause-none : goal.ready_for-requires-clause-none
ready_for-requires-clause-none c = subst (λ (ps : List JobOut). (p : JobOut) → In p ps → p.who ≡ c.args.who → ⊥) c.deref.ensures.value c.in-None.ensures.none

pub returns-in-Some : goal.returns-in-Some
returns-in-Some c =
    let found = c.in-Some.ensures.some in
    (found.0, In-slice_get c.args.p.now.pending.items c.in-Some.field-0 found.0 (ap (λ (ps : List JobOut). slice_get ps c.in-Some.field-0) (sym c.deref.ensures.value) ∙ found.1), found.2)

pub returns-in-None-next_in : goal.returns-in-None-next_in
returns-in-None-next_in c = (
  subst (λ (ps : List JobOut). (p : JobOut) → In p ps → p.who ≡ c.args.who → ⊥) c.deref.ensures.value c.in-None.ensures.none,
  next_is c.args.p.now c.requires.kept c.args.who c.calls_made.result None c.calls_made.ensures c.in-None-next_in.ensures,
)

pub returns-in-Some-over : goal.returns-in-Some-over
returns-in-Some-over c = (
  subst (λ (ps : List JobOut). (p : JobOut) → In p ps → p.who ≡ c.args.who → ⊥) c.deref.ensures.value c.in-None.ensures.none,
  λ is. (
      let next : next_of (seen c.args.p.now) c.args.who ≡ Some c.in-Some-next_in.call.now =
      next_is c.args.p.now c.requires.kept c.args.who c.calls_made.result (Some c.in-Some-next_in.call.now) c.calls_made.ensures c.in-Some-next_in.ensures
      in
      let never : None ≡ Some c.in-Some-next_in.call.now = sym is ∙ next in
      cc),
  λ is. (let never : None ≡ Some c.in-Some-over.field-0 = sym is ∙ c.in-Some-over.is in cc),
)
