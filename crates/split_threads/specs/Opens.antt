-- How a round is opened.
use Rattle.std.specs.Prelude.{◌≡◌, ◌+◌, true, length}
use Rattle.thread_laws.specs.world_view_laws.pm_model.Powers.{Supply}
use Rattle.thread_laws.specs.world_view_laws.Lines.{AreFresh}
use Rattle.thread_laws.specs.world_view_laws.Views.{WorldView}
use Rattle.split_threads.specs.Dealt.{AreNewWorkers}
use Rattle.split_threads.specs.declared.opening.Opened.{Opened}

-- A ROUND IS OPENED over a World: its lines are out, in a log; a turn is over it; and there is a worker for each thread, and one for the set-up.
pub record IsOpenedRound (old : WorldView) (power : Supply) (o : Opened) : Type 0 where
  pub new : WorldView
  pub new_is : new ≡ record old { disk = new.disk; lines_out = true; first = new.first }
  pub workers : AreNewWorkers new power o.turn o.log o.dealt
  pub fresh : AreFresh new o.log.lines
  pub base : o.log.base ≡ new.base
  pub count : length o.dealt.owns.items ≡ length old.scripts.threads
  pub passes : o.turn.passes ≡ length old.scripts.threads + 1
  pub seats : o.log.seats ≡ length old.scripts.threads + 1
