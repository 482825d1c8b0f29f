use Rattle.std.specs.Prelude.{ℕ}
use Rattle.std.proofs.Common.{◌≡◌, ◌∙◌, ap, subst, sym}
use Rattle.posix_types.specs.declared.call.Who.{Who}
use Rattle.posix_types.specs.declared.item.Outcome.{Outcome}
use Rattle.posix_types.specs.declared.reply.Reply.{Reply}
use Rattle.posix_tables.specs.Outcomes.{answer}
use Rattle.world_parts.specs.list_laws.Members.{In}
use Rattle.world_parts.specs.in_flight.live_model.Standing.{JobOut}
use Rattle.world_parts.specs.Adds.{IsAdded, MayAdd}
use Rattle.world_parts.specs.declared.parts.Parts.{Parts}
use Rattle.world_rounds.proofs.job_ends.ends.return_job.Goals as goal

pub unreachable-requires : goal.unreachable-requires
unreachable-requires c = c.in_default.ensures.none c.requires.out.0 c.requires.out.1 c.requires.out.2

pub add-requires : goal.add-requires
add-requires c =
    let view : JobOut = record { who = c.job.inside.who; call = c.job.inside.call; draft = c.job.inside.draft; blocks = c.job.inside.blocks.items } in
    let own : view.who ≡ c.args.who = ap (λ (x : JobOut). x.who) c.job.view_is ∙ c.in-Some.ensures.some.1 in
    let middle : Parts = record c.args.p.now { pending = c.take_job.new.pending } in
    let may = c.requires.may in
    subst (λ (w : Who). MayAdd middle w) (sym own) (record { caller = may.caller; few = may.few; room = may.room; one_act = may.one_act })

pub returns : goal.returns
returns c =
    let view : JobOut = record { who = c.job.inside.who; call = c.job.inside.call; draft = c.job.inside.draft; blocks = c.job.inside.blocks.items } in
    let middle : Parts = record c.args.p.now { pending = c.take_job.new.pending } in
    record {
      taken = view;
      was_out = subst (λ (x : JobOut). In x c.args.p.now.pending.items) (sym c.job.view_is) c.in-Some.ensures.some.0;
      own = ap (λ (x : JobOut). x.who) c.job.view_is ∙ c.in-Some.ensures.some.1;
      pending = c.take_job.new.pending;
      left = c.in-Some.ensures.left;
      added = subst (λ (o : Outcome). IsAdded view.who view.call o middle c.add.new.p) (c.answer-outcome.ensures ∙ ap (λ (n : ℕ). answer (Reply.Count n)) c.put_count.ensures) c.add.ensures;
    }
