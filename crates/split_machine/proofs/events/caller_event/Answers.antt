use Rattle.std.specs.Prelude.{◌≡◌, ◌≢◌, ℕ, List, Some, slice_get}
use Rattle.std.proofs.Common.{subst}
use Rattle.run_laws.specs.declared.held.Held.{Held}
use Rattle.split_machine.specs.Events.{seen}
use Rattle.split_machine.proofs.Begins.{job_at, to_begin}
use Rattle.split_machine.proofs.events.caller_event.Goals as goal

pub job_event-requires : goal.job_event-requires
job_event-requires c =
    let some = c.in-Some.ensures.some in
    job_at c.args.who c.args.world.now (seen c.args.out.now) c.args.power.now c.requires.under_way c.in-Some.place some.0
    (subst (λ (xs : List Held). slice_get xs c.in-Some.place ≡ Some some.0) c.deref.ensures.value some.1)

pub begin_event-requires : goal.begin_event-requires
begin_event-requires c =
    to_begin c.args.who c.args.world.now (seen c.args.out.now) c.args.power.now c.requires.under_way
    (subst (λ (xs : List Held). (i : ℕ) (h : Held) → slice_get xs i ≡ Some h → h.who ≢ c.args.who) c.deref.ensures.value c.in-None.ensures.none) c.requires.set_up c.requires.able
