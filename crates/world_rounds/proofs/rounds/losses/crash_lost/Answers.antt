use Rattle.std.proofs.Common.{List, sym, subst}
use Rattle.world_parts.specs.pm_model.declared.Cell.{Cell}
use Rattle.world_parts.specs.posix_spec.Run.{Unfinished}
use Rattle.world_parts.specs.world_view_laws.Handed.{loans_out}
use Rattle.world_parts.specs.world_view_laws.write_end.Blocks.{ComeHome}
use Rattle.world_parts.specs.world_view_laws.Rounds.{IsLeft}
use Rattle.world_parts.specs.Seen.{seen}
use Rattle.world_rounds.proofs.Settles.{AreLent, left_now, may_out, may_places, out_each, out_lent, then_each, then_lent}
use Rattle.world_rounds.proofs.rounds.losses.crash_lost.Goals as goal

pub settle_out-requires-clause-out : goal.settle_out-requires-clause-out
settle_out-requires-clause-out c =
    subst (AreLent (loans_out c.args.out.items)) (sym c.into_pm-pm.ensures) (out_lent c.args.p c.requires.kept c.requires.gone c.args.lines.items c.args.out.items c.args.filled.items c.requires.may)

pub settle_out-requires-clause-each : goal.settle_out-requires-clause-each
settle_out-requires-clause-each c = out_each c.args.p c.requires.kept c.requires.gone c.args.lines.items c.args.out.items c.args.filled.items c.requires.may

pub settle_filled-requires-clause-out : goal.settle_filled-requires-clause-out
settle_filled-requires-clause-out c =
    then_lent c.args.p c.requires.kept c.requires.gone c.args.lines.items c.args.out.items c.args.filled.items c.requires.may c.settle_out.new.pm
    (subst (λ (d : List Cell). ComeHome (loans_out c.args.out.items) d c.settle_out.new.pm) c.into_pm-pm.ensures c.settle_out.ensures)

pub settle_filled-requires-clause-each : goal.settle_filled-requires-clause-each
settle_filled-requires-clause-each c =
    then_each c.args.p c.requires.kept c.requires.gone c.args.lines.items c.args.out.items c.args.filled.items c.requires.may c.settle_out.new.pm
    (subst (λ (d : List Cell). ComeHome (loans_out c.args.out.items) d c.settle_out.new.pm) c.into_pm-pm.ensures c.settle_out.ensures)

pub put_lines-requires-clause-places : goal.put_lines-requires-clause-places
put_lines-requires-clause-places c =
    may_places c.args.p c.requires.kept c.requires.gone c.args.lines.items c.args.out.items c.args.filled.items c.requires.may c.settle_out.new.pm
    (subst (λ (d : List Cell). ComeHome (loans_out c.args.out.items) d c.settle_out.new.pm) c.into_pm-pm.ensures c.settle_out.ensures) c.settle_filled.new.pm c.settle_filled.ensures.home
    c.lines_back.result.items c.lines_back.ensures c.log_line-first.result c.log_line-first.ensures

pub put_lines-requires-clause-out : goal.put_lines-requires-clause-out
put_lines-requires-clause-out c =
    may_out c.args.p c.requires.kept c.requires.gone c.args.lines.items c.args.out.items c.args.filled.items c.requires.may c.settle_out.new.pm
    (subst (λ (d : List Cell). ComeHome (loans_out c.args.out.items) d c.settle_out.new.pm) c.into_pm-pm.ensures c.settle_out.ensures) c.settle_filled.new.pm c.settle_filled.ensures.home
    c.lines_back.result.items c.lines_back.ensures c.log_line-first.result c.log_line-first.ensures

pub returns-clause-left : goal.returns-clause-left
returns-clause-left c =
    subst (λ (calls : List Unfinished). IsLeft (seen c.args.p) c.put_lines.new.pm c.args.p.history.items calls) (sym c.calls_of.ensures)
    (left_now c.args.p c.requires.kept c.requires.gone c.args.lines.items c.args.out.items c.args.filled.items c.requires.may c.settle_out.new.pm
    (subst (λ (d : List Cell). ComeHome (loans_out c.args.out.items) d c.settle_out.new.pm) c.into_pm-pm.ensures c.settle_out.ensures) c.settle_filled.new.pm c.settle_filled.ensures.home
    c.lines_back.result.items c.lines_back.ensures c.log_line-first.result c.log_line-first.ensures c.settle_filled.ensures.holds c.put_lines.new.pm c.put_lines.ensures.size c.put_lines.ensures.back c.put_lines.ensures.home).0

pub returns-clause-acted : goal.returns-clause-acted
returns-clause-acted c =
    (left_now c.args.p c.requires.kept c.requires.gone c.args.lines.items c.args.out.items c.args.filled.items c.requires.may c.settle_out.new.pm
    (subst (λ (d : List Cell). ComeHome (loans_out c.args.out.items) d c.settle_out.new.pm) c.into_pm-pm.ensures c.settle_out.ensures) c.settle_filled.new.pm c.settle_filled.ensures.home
    c.lines_back.result.items c.lines_back.ensures c.log_line-first.result c.log_line-first.ensures c.settle_filled.ensures.holds c.put_lines.new.pm c.put_lines.ensures.size c.put_lines.ensures.back c.put_lines.ensures.home).1
