-- A logged write lands, in whatever mode; and its bytes before the first block of its entry are written in place then.
use Rattle.std.specs.Prelude.{◌≡◌, ◌<◌, ◌+◌, ◌-◌, ◌*◌, ◌/◌, ◌++◌, ℕ, true, List, [], ◌∷◌, length, take}
use Rattle.oplog_entry.specs.pm_model.Images.{IsImage}
use Rattle.oplog_entry.specs.pm_model.Words.{Words}
use Rattle.oplog_entry.specs.layout_model.Journal.{journaled}
use Rattle.oplog_entry.specs.layout_model.declared.lines.Draft.{Draft}
use Rattle.in_place.specs.Holes.{IsPresent}
use Rattle.in_place.specs.Placing.{CanPlace, LosesPlacing, Places}
use Rattle.in_place.specs.k_split_laws.k_journal.declared.outcomes.Commit.{Commit}
use Rattle.in_place.specs.k_split_laws.k_split_model.View.{View}
use Rattle.in_place.specs.k_split_laws.posix_types.declared.call.Call.{Call}
use Rattle.in_place.specs.k_split_laws.posix_types.declared.call.Mode.{Mode}
use Rattle.in_place.specs.k_split_laws.posix_types.declared.item.Item.{Item}
use Rattle.in_place.specs.k_split_laws.posix_tables.Open.{Tables}
use Rattle.in_place.specs.k_split_laws.posix_spec.Run.{after_call, run}
use Rattle.in_place.specs.k_split_laws.posix_spec.State.{State}
use Rattle.in_place.specs.write_plan.eof_laws.log_checkpoint.world_model.JobLaws.{acted}
use Rattle.in_place.specs.write_plan.eof_laws.log_checkpoint.world_model.Jobs.{HasParts, HoldsWhole, IsInFront, Job, put_bytes_of}
use Rattle.in_place.specs.live_model.file_table.Files.{Files}
use Rattle.in_place.specs.live_model.Jobs.{SpellCall, without}
use Rattle.in_place.specs.live_model.Standing.{JobOut, StandsAt}
use Rattle.in_place.specs.live_model.write_jobs.Jobs.{FilledView}
use Rattle.in_place.specs.k_split_laws.list_laws.Members.{In}
use Rattle.write_end.specs.Ends.{call_out, finished, HasJob, LeavesFinished}
use Rattle.write_end.specs.LosingLaws.{AreSpelled, claimed_by, ComesHome}
use Rattle.write_end.specs.Lost.{IsLostWith}

-- THE WRITE HAS LANDED: its entry is claimed in the slot, and the World stands together without the job, by the same numbers, in the state in which its call has
-- acted but that its file has what is found of it; its blocks came home with its words, and hold that in each image. In strict mode that is all of it. The jobs
-- that are still out have the words of their calls; and each byte that is still to be written in place has a block.
pub record HasLanded (k : View) (job : FilledView) (has : HasJob k job) (slot : ℕ) (l : View) (u : Tables) (files : Files) : Type 0 where
  pub a : List Job
  pub j : Job
  pub b : List Job
  pub jobs_are : has.stands.jobs ≡ a ++ j ∷ b
  pub who : j.who ≡ has.p.who
  pub call : j.call ≡ has.p.call
  pub draft : j.draft ≡ has.p.draft
  pub whole : has.s.mode ≡ Mode.Strict → j.found ≡ j.whole
  pub parts : HasParts j
  pub present : (i : ℕ) → IsInFront j i → IsPresent l.volume files j.draft.ino (i / 4096)
  pub stands : StandsAt has.g l u (finished has.kept slot has.p files) true (has.n + 1) (acted has.stands.numbers has.s j)
  pub rest : stands.jobs ≡ a ++ b
  pub held : (image : Words) → IsImage l.cells image → HoldsWhole k.volume (journaled image) j.draft j.found
  pub numbers : stands.numbers ≡ has.stands.numbers
  pub same : l ≡ record k { cells = l.cells }
  pub home : ComesHome k.cells l.cells has.kept has.s has.p job
  pub words : (q : JobOut) (words : List ℕ) → In q (without has.p.who has.kept.pending) → SpellCall has.s q words → SpellCall (after_call has.s (call_out k job has)) q words

-- ---- its front

-- where the front of a write begins, by its entry and its bytes, and where it ends; none, where that is no later
abbrev pub front_start : Draft → Call → ℕ
front_start d call = d.size - length (put_bytes_of call)

abbrev pub front_end : Draft → ℕ
front_end d = 4096 * d.file_block

-- the bytes of it
abbrev pub front_bytes : Draft → Call → List ℕ
front_bytes d call = take (front_end d - front_start d call) (put_bytes_of call)

-- the write has one
abbrev pub HasFront : Draft → Call → Type 0
HasFront d call = front_start d call < front_end d

-- WHAT WRITING THE FRONT LEAVES: with no front all is as it was; else the bytes are written in place, as far as the power lasted.
abbrev pub IsFrontAnswer : View → View → Files → Draft → Call → Commit → Type 0
IsFrontAnswer k l files d call Commit.Done =
    (HasFront d call → Places k l files d.ino (front_start d call) (front_bytes d call)) × (¬ HasFront d call → l ≡ k)
IsFrontAnswer k l files d call Commit.PowerLost = HasFront d call × LosesPlacing k l files d.ino (front_start d call) (front_bytes d call)

-- A WRITE THAT LANDED HAS A FRONT THAT MAY BE WRITTEN.
abbrev pub LandedMayPlace : Type 0
LandedMayPlace =
    (k l : View) (job : FilledView) (has : HasJob k job) (slot : ℕ) (u : Tables) (files : Files) → has.s.mode ≡ Mode.Sync
    → HasLanded k job has slot l u files → CanPlace l files has.p.draft.ino (front_start has.p.draft has.p.call) (front_bytes has.p.draft has.p.call)

-- WITH ITS FRONT WRITTEN ITS CALL HAS ACTED, in sync mode.
abbrev pub FrontFinishes : Type 0
FrontFinishes =
    (k m l : View) (job : FilledView) (has : HasJob k job) (slot : ℕ) (u : Tables) (files : Files) → has.s.mode ≡ Mode.Sync
    → HasLanded k job has slot m u files → IsFrontAnswer m l files has.p.draft has.p.call Commit.Done
    → (now : StandsAt has.g l u (finished has.kept slot has.p files) true (has.n + 1) (after_call has.s (call_out k job has))) × (now.numbers ≡ has.stands.numbers)

-- IN STRICT MODE it has acted once it landed: all of it was found.
abbrev pub LandedIsFinished : Type 0
LandedIsFinished =
    (k l : View) (job : FilledView) (has : HasJob k job) (slot : ℕ) (u : Tables) (files : Files) → has.s.mode ≡ Mode.Strict
    → HasLanded k job has slot l u files → LeavesFinished k job has slot l u files

-- THE POWER WENT in it: its claim counts, its blocks are at home, and its call stays unfinished, at its place.
abbrev pub FinishesCut : Type 0
FinishesCut =
    (k m l : View) (job : FilledView) (has : HasJob k job) (slot : ℕ) (u : Tables) (files : Files) (start : State) (history : List Item)
    → start.mode ≡ Mode.Sync → has.s ≡ run start history → AreSpelled has.kept.claims
    → HasLanded k job has slot m u files → IsFrontAnswer m l files has.p.draft has.p.call Commit.PowerLost
    → IsLostWith k.volume l.cells (claimed_by has.kept slot has.p) start history []
