use Rattle.std.specs.Prelude.{List}
use Rattle.std.proofs.Common.{◌∙◌, arith, subst, sym}
use Rattle.thread_laws.specs.world_view_laws.Losses.{MayCrash}
use Rattle.thread_laws.specs.world_view_laws.write_jobs.Jobs.{FilledView, JobView}
use Rattle.thread_laws.specs.MovesLaws.{AreFewActs}
use Rattle.thread_laws.specs.Returned.{jobs_left}
use Rattle.split_threads.proofs.Ending.{crashed_turns, unmounted_turns}
use Rattle.split_threads.proofs.closes.end_world.Goals as goal

pub crash-requires : goal.crash-requires
crash-requires c =
    let closed = c.requires.2 in
    let w = c.args.world in
    let may = c.a_round_ends_as_it_may.ensures.crash w c.args.power c.requires.0 c.args.lines.items c.requires.1 closed in
    record {
      usable = closed.stands.world.usable;
      may = subst (λ (out : List JobView). MayCrash w c.args.lines.items out c.args.filled.items) (sym c.requires.3)
          (subst (λ (filled : List FilledView). MayCrash w c.args.lines.items (jobs_left c.requires.1) filled) (sym c.requires.4) may);
    }

pub returns-then-is_lost : goal.returns-then-is_lost
returns-then-is_lost c = crashed_turns c.args.world c.args.power c.crash.result c.requires.2.stands.world (sym c.is_lost.ensures ∙ c.if-is_lost.true) c.crash.ensures.left

pub has_calls_left-requires : goal.has_calls_left-requires
has_calls_left-requires c =
    let closed = c.requires.2 in
    let w = c.args.world in
    record { usable = closed.stands.world.usable; none_out = (c.a_round_ends_as_it_may.ensures.quiet w c.args.power c.requires.0 c.args.lines.items c.requires.1 closed (sym c.is_lost.ensures ∙ c.if-is_lost.false) c.requires.7).0 }

pub end_lap-requires : goal.end_lap-requires
end_lap-requires c =
    let closed = c.requires.2 in
    let w = c.args.world in
    let awake = sym c.is_lost.ensures ∙ c.if-is_lost.false in
    let left = c.has_calls_left.ensures.some c.if-has_calls_left.true in
    record {
      in_round = closed.stands.world;
      awake = awake;
      may = c.a_round_ends_as_it_may.ensures.checkpoint w c.args.power c.requires.0 c.args.lines.items c.requires.1 closed awake c.requires.7 c.requires.5 c.requires.6 left.0 left.1;
    }

pub acts-acts-requires : goal.acts-acts-requires
acts-acts-requires c = c.requires.2.stands.world.usable

pub unmount-requires : goal.unmount-requires
unmount-requires c =
    let closed = c.requires.2 in
    let w = c.args.world in
    record {
      usable = closed.stands.world.usable;
      may = c.a_round_ends_as_it_may.ensures.unmount w c.args.power c.requires.0 c.args.lines.items c.requires.1 closed (sym c.is_lost.ensures ∙ c.if-is_lost.false) c.requires.7 (c.history-items.ensures.scripted closed.stands.world.usable) (c.has_calls_left.ensures.none c.if-has_calls_left.false);
    }

pub returns : goal.returns
returns c =
    let closed = c.requires.2 in
    let w = c.args.world in
    let awake = sym c.is_lost.ensures ∙ c.if-is_lost.false in
    let may = c.a_round_ends_as_it_may.ensures.unmount w c.args.power c.requires.0 c.args.lines.items c.requires.1 closed awake c.requires.7 (c.history-items.ensures.scripted closed.stands.world.usable) (c.has_calls_left.ensures.none c.if-has_calls_left.false) in
    let few : AreFewActs w = omega (arith, c.acts-acts.ensures.acts, c.acts-acts.ensures.most) in
    unmounted_turns c.a_round_ends_as_it_may.ensures.bounded w c.args.power c.unmount.new.power c.args.lines.items c.in_ok-ended.ended closed.stands.world awake few may c.in_ok-ended.ensures.steps c.in_ok-ended.ensures.ended
