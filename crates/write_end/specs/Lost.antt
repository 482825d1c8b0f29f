-- A World whose power went while log lines and blocks of jobs are out.
use Rattle.std.specs.Prelude.{◌≡◌, ◌⊎◌, ℕ, true, AllPairs, List, [], ◌∷◌, ◌++◌, Option, Some, None}
use Rattle.oplog_entry.specs.pm_model.declared.Cell.{Cell}
use Rattle.oplog_entry.specs.pm_model.Cells.{cell, is_lent}
use Rattle.oplog_entry.specs.pm_model.Images.{IsImage}
use Rattle.oplog_entry.specs.pm_model.Parts.{put_back}
use Rattle.oplog_entry.specs.pm_model.Words.{Words}
use Rattle.oplog_entry.specs.layout_model.Journal.{IsSound, journaled}
use Rattle.oplog_entry.specs.layout_model.declared.lines.Draft.{Draft}
use Rattle.oplog_entry.specs.image_model.Volume.{Volume}
use Rattle.in_place.specs.live_model.Flying.{IsOut}
use Rattle.in_place.specs.live_model.write_jobs.Blocks.{AreOut}
use Rattle.in_place.specs.k_split_laws.list_laws.Members.{In}
use Rattle.in_place.specs.k_split_laws.posix_types.declared.call.Mode.{Mode}
use Rattle.in_place.specs.k_split_laws.posix_types.declared.item.Item.{Item}
use Rattle.in_place.specs.write_plan.eof_laws.log_checkpoint.posix_laws.Puts.{PutsWhole}
use Rattle.in_place.specs.k_split_laws.posix_spec.Run.{Unfinished, run}
use Rattle.in_place.specs.k_split_laws.posix_spec.State.{State}
use Rattle.in_place.specs.live_model.write_jobs.world_image_laws.Back.{calls_in_log, IsPutBack}
use Rattle.in_place.specs.live_model.write_jobs.world_image_laws.Promised.{IsKept}
use Rattle.in_place.specs.write_plan.eof_laws.log_checkpoint.world_model.Lines.{IsClaimedLine}
use Rattle.in_place.specs.write_plan.eof_laws.log_checkpoint.world_model.Jobs.{HoldsWhole, Job}
use Rattle.in_place.specs.live_model.write_jobs.world_image_laws.LentLaws.{AreFound}
use Rattle.in_place.specs.live_model.Standing.{AreJobsOf, AreLinesLent, AreOfTwoThreads, HasItsBlocks, IsSpellable, Kept, JobOut}
use Rattle.in_place.specs.write_plan.eof_laws.log_checkpoint.world_step_laws.Worlds.{IsWorld}
use Rattle.write_end.specs.Blocks.{AreHome}

-- A job whose finish claimed a slot has its blocks at home, and whatever image is taken they hold what is found of it; any other one has
-- them out, or at home with any words.
abbrev pub IsLostJob : Volume → List Cell → Job → Option ℕ → Type 0
IsLostJob v cells j (Some slot) = AreHome v j.draft cells × ((image : Words) → IsImage cells image → HoldsWhole v (journaled image) j.draft j.found)
IsLostJob v cells j None = AreHome v j.draft cells ⊎ AreOut v j.draft cells

-- The jobs whose finish lost the power have the slots that they claimed, and the lines there hold their entries.
abbrev pub HoldLost : Volume → (ℕ → Cell) → List Job → List (Option ℕ) → (ℕ → Option ℕ) → Type 0
HoldLost v cells [] slots slot_of = Unit {0}
HoldLost v cells (j ∷ jobs) [] slot_of = (slot_of j.draft.ino ≡ None) × HoldLost v cells jobs [] slot_of
HoldLost v cells (j ∷ jobs) (o ∷ slots) slot_of = ((slot : ℕ) → slot_of j.draft.ino ≡ Some slot → (o ≡ Some slot) × IsClaimedLine v cells slot j.draft) × HoldLost v cells jobs slots slot_of

-- THE PROMISE then, once all is put back: each image is kept in whose log they hold so, by the jobs whose entry may stand there.
abbrev pub IsKeptLost : Volume → List Cell → Words → List (ℕ × Draft) → List Job → (ℕ → Option ℕ) → State → List Item → List Unfinished → Type 0
IsKeptLost v d first claims jobs slot_of start history last =
    (back : ℕ → Cell) (slots : List (Option ℕ)) (image : Words) → IsPutBack v d back first claims jobs slots image → HoldLost v (put_back d back) jobs slots slot_of
    → IsKept v.geometry start history (calls_in_log slots jobs ++ last) image

-- THE POWER IS LOST, while the log lines are out. The jobs are those that are kept as out, none in POSIX mode, of each of which all bytes
-- are found in strict mode. Of the claims some were finished (`done`); the
-- others are of jobs whose finish lost the power, by the inode of the file one slot each (`slot_of`). The World was valid with the claims
-- that were finished and all these jobs, by some words: so no two jobs share a block. A word that is lent is one of a log line or of a
-- block of a job; and the journal of each image is sound. THE PROMISE is kept with the calls of the jobs that may have a line unfinished, and behind them the
-- last ones: the call that lost the power, if one did.
pub record IsLostWith (v : Volume) (cells : List Cell) (kept : Kept) (start : State) (history : List Item) (last : List Unfinished) : Type 0 where
  pub jobless : start.mode ≡ Mode.Posix → kept.pending ≡ []
  pub jobs : List Job
  pub jobs_are : AreJobsOf kept.pending jobs
  pub whole : AreFound start jobs
  pub callers : AllPairs AreOfTwoThreads kept.pending
  pub blocks : (p : JobOut) → In p kept.pending → HasItsBlocks v p
  pub puts : (j : Job) → In j jobs → (node : ℕ) × PutsWhole (run start history) j.who j.call node j.whole
  pub done : List (ℕ × Draft)
  pub slot_of : ℕ → Option ℕ
  pub done_in : (slot : ℕ) (d : Draft) → In (slot, d) done → In (slot, d) kept.claims
  pub slots_in : (j : Job) (slot : ℕ) → In j jobs → slot_of j.draft.ino ≡ Some slot → In (slot, j.draft) kept.claims
  pub each_claim : (slot : ℕ) (d : Draft) → In (slot, d) kept.claims → In (slot, d) done ⊎ ((j : Job) × In j jobs × (j.draft ≡ d) × (slot_of d.ino ≡ Some slot))
  pub spelled : (slot : ℕ) (d : Draft) → In (slot, d) done → IsSpellable d
  pub words : Words
  pub numbers : List ℕ
  pub s : State
  pub count : ℕ
  pub world : IsWorld v done jobs words numbers s count
  pub lines : AreLinesLent v cells kept.first
  pub sound : (image : Words) → IsImage cells image → IsSound v.geometry image
  pub each_job : (j : Job) → In j jobs → IsLostJob v cells j (slot_of j.draft.ino)
  pub home : (i : ℕ) → is_lent (cell cells i) ≡ true → IsOut v jobs i
  pub promise : IsKeptLost v cells kept.first done jobs slot_of start history last
