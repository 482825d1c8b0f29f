-- A write goes on behind a step that no call sees.
use Rattle.std.specs.Prelude.{◌≡◌, ◌≤◌, ◌+◌, ◌/◌, ℕ, true, List, [], ◌∷◌, Option, None, Result, Ok, Err}
use Rattle.std.specs.declared.alloc.AllocError.{AllocError}
use Rattle.std.proofs.Common.{ap, ◌∙◌, sym, subst}
use Rattle.write_plan.specs.file_table.Files.{Files}
use Rattle.write_plan.specs.k_split_model.View.{View}
use Rattle.write_plan.specs.list_laws.Members.{In}
use Rattle.posix_types.specs.declared.call.Call.{Call}
use Rattle.posix_types.specs.declared.call.Mode.{Mode}
use Rattle.posix_types.specs.declared.call.Who.{Who}
use Rattle.write_plan.specs.posix_laws.Views.{need_of}
use Rattle.write_plan.specs.posix_spec.State.{room, State}
use Rattle.live_step_laws.specs.staging_files.Keeps.{Staged}
use Rattle.live_step_laws.specs.world_model.JobLaws.{needs}
use Rattle.live_step_laws.specs.world_model.Stands.{number}
use Rattle.live_step_laws.specs.live_model.Losses.{KeepsWhenLost}
use Rattle.live_step_laws.specs.live_model.Standing.{StandsAt}
use Rattle.write_plan.specs.declared.asks.asking.Target.{Target}
use Rattle.in_place.specs.Holes.{IsPresent}
use Rattle.write_begin.specs.Stages.{PutsFrom, with_parts}
use Rattle.write_begin.specs.declared.begins.beginning.WriteBegun.{WriteBegun}
use Rattle.write_begin.specs.Goes.{Goes, IsGone}

-- The World stands together behind it in the same state, with the same jobs.
pub record Onward (mode : Mode) (k l : View) (old new : Staged) (files then : Files) (who : Who) (target : Target) (x : List ℕ) (goes : Goes mode k old files who target x) : Type 0 where
  pub now : StandsAt goes.g l goes.t (with_parts goes.kept new then) true goes.n goes.s
  pub jobs_are : now.jobs ≡ goes.stands.jobs
  pub numbers_are : now.numbers ≡ goes.stands.numbers
  pub present : (block : ℕ) → IsPresent k.volume files target.ino block → IsPresent l.volume then target.ino block

-- the same part of a write, of a node that has another name
abbrev pub puts_at : (s : State) (who : Who) (call : Call) (node other : ℕ) (target : Target) (x : List ℕ) → node ≡ other → PutsFrom s who call node target x → PutsFrom s who call other target x
puts_at s who call node other target x same puts = record {
  put = puts.put;
  is = puts.is;
  node_is = puts.node_is ∙ same;
  place = puts.place;
  bytes = puts.bytes;
  front = puts.front;
  strict = puts.strict;
}

-- so the write goes on over it
abbrev pub goes_then : (mode : Mode) (k l : View) (old new : Staged) (files then : Files) (who : Who) (target : Target) (x : List ℕ) (goes : Goes mode k old files who target x) → Onward mode k l old new files then who target x goes
    → Goes mode l new then who target x
goes_then mode k l old new files then who target x goes on = record {
  g = goes.g;
  t = goes.t;
  kept = goes.kept;
  n = goes.n;
  few = goes.few;
  s = goes.s;
  call = goes.call;
  stands = on.now;
  mode_is = goes.mode_is;
  opened = goes.opened;
  puts = puts_at goes.s who goes.call (number goes.stands.numbers target.ino) (number on.now.numbers target.ino) target x (ap (λ (numbers : List ℕ). number numbers target.ino) (sym on.numbers_are)) goes.puts;
  present = λ i high low. on.present (i / 4096) (goes.present i high low);
  fits = subst (λ js. needs goes.s js + need_of goes.s who goes.call ≤ room goes.s) (sym on.jobs_are) goes.fits;
  others = λ j is. goes.others j (subst (In j) on.jobs_are is);
  callers = goes.callers;
}

-- What it comes to behind such a step it comes to from before it.
pub through : (mode : Mode) (k m : View) (old new : Staged) (files then last : Files) (who : Who) (target : Target) (x : List ℕ) (run : Option (ℕ × ℕ)) → (run ≡ None → ⊥) → ((goes : Goes mode k old files who target x) → Onward mode k k old old files then who target x goes) → (result : Result WriteBegun AllocError)
    → IsGone mode k m old new then last who target x run result → IsGone mode k m old new files last who target x run result
through mode k m old new files then last who target x run some on (Ok (WriteBegun.Answered outcome)) is = absurd is
through mode k m old new files then last who target x run some on (Ok (WriteBegun.Job job blocks)) is = record {
  found = is.found;
  job_who = is.job_who;
  blocks_are = is.blocks_are;
  fresh = is.fresh;
  ends = is.ends;
  plan = is.plan;
  out = is.out;
  words = λ goes. is.words (goes_then mode k k old old files then who target x goes (on goes));
  stands = λ goes. is.stands (goes_then mode k k old old files then who target x goes (on goes));
}
through mode k m old new files then last who target x run some on (Ok WriteBegun.Written) is = absurd (some is.none)
through mode k m old new files then last who target x run some on (Ok (WriteBegun.RoundOver need left)) is = record {
  needed = is.needed;
  run_is = is.run_is;
  lacks = is.lacks;
  late = is.late;
  same = is.same;
  nothing = is.nothing;
  stays = record {
    runs = is.stays.runs;
    stands = λ goes. is.stays.stands (goes_then mode k k old old files then who target x goes (on goes));
  };
}
through mode k m old new files then last who target x run some on (Ok WriteBegun.PowerLost) is = record {
  left = λ goes. is.left (goes_then mode k k old old files then who target x goes (on goes));
  kept = λ goes start history same.
      subst (λ js. KeepsWhenLost k.volume m.cells goes.kept js start history ((who, goes.call) ∷ [])) (on goes).jobs_are
      (is.kept (goes_then mode k k old old files then who target x goes (on goes)) start history same);
}
through mode k m old new files then last who target x run some on (Err e) is = record {
  runs = is.runs;
  stands = λ goes. is.stands (goes_then mode k k old old files then who target x goes (on goes));
}
