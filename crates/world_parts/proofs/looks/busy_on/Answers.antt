use Rattle.std.proofs.Common.{◌∙◌, subst, sym}
use Rattle.std.proofs.lemmas.Bool.{eqb-false, eqb-true}
use Rattle.std.specs.Prelude.{List, vec_len}
use Rattle.world_view_laws.specs.in_flight.live_model.Standing.{JobOut}
use Rattle.world_view_laws.specs.in_flight.Busy.{IsKept as IsKeptBusy}
use Rattle.world_parts.proofs.Nexts.{busy_alone, busy_none, busy_some}
use Rattle.world_parts.proofs.looks.busy_on.Goals as goal

pub returns-then-is_empty-clause-none : goal.returns-then-is_empty-clause-none
returns-then-is_empty-clause-none c = busy_alone c.args.p.now (eqb-true (vec_len c.args.p.now.pending) 0 (sym c.is_empty.ensures ∙ c.if-is_empty.true)) c.args.who c.args.call.now

pub returns-clause-none : goal.returns-clause-none
returns-clause-none c =
    busy_none c.args.p.now c.requires.kept c.requires.awake (eqb-false (vec_len c.args.p.now.pending) 0 (sym c.is_empty.ensures ∙ c.if-is_empty.false)) c.args.who c.args.call.now c.keeper.result
    (subst (λ (ps : List JobOut). IsKeptBusy c.args.who c.args.call.now c.args.p.now.k c.args.p.now.tables.tables ps c.keeper.result) c.deref.ensures.value c.keeper.ensures)

pub returns-clause-some : goal.returns-clause-some
returns-clause-some c =
    busy_some c.args.p.now c.requires.kept c.requires.awake (eqb-false (vec_len c.args.p.now.pending) 0 (sym c.is_empty.ensures ∙ c.if-is_empty.false)) c.args.who c.args.call.now c.keeper.result
    (subst (λ (ps : List JobOut). IsKeptBusy c.args.who c.args.call.now c.args.p.now.k c.args.p.now.tables.tables ps c.keeper.result) c.deref.ensures.value c.keeper.ensures)
