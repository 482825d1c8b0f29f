-- A write that is out, and once it is finished, each law as one statement.
use Rattle.std.specs.Prelude.{◌≡◌, ◌≤◌, ℕ, Bool, List, [], ◌∷◌, ◌++◌}
use Rattle.log_checkpoint.specs.k_plans.layout_model.Places.{Geometry}
use Rattle.eof_laws.specs.Ends.{DraftEnds, FilesEnd}
use Rattle.file_table.specs.Files.{size_in}
use Rattle.log_checkpoint.specs.k_plans.k_split_model.View.{View}
use Rattle.log_checkpoint.specs.list_laws.Members.{In}
use Rattle.log_checkpoint.specs.k_plans.posix_tables.Open.{Tables}
use Rattle.live_model.specs.posix_spec.State.{State}
use Rattle.live_model.specs.Standing.{Kept, JobOut, StandsAt}

-- Its entry leaves the file no shorter than what is kept says.
abbrev pub LeavesNoShorter : Type 0
LeavesNoShorter =
    (g : Geometry) (k : View) (t : Tables) (kept : Kept) (lines : Bool) (n : ℕ) (s : State) (p : JobOut)
    → StandsAt g k t kept lines n s → In p kept.pending → size_in kept.files p.draft.ino ≤ p.draft.size

-- Where they stand together again over the same volume, with its entry as one more that is claimed, nothing lies past the end of
-- a file, if nothing did before and the entry ends with the file.
abbrev pub EndFinished : Type 0
EndFinished =
    (g : Geometry) (k l : View) (t u : Tables) (kept then : Kept) (lines after : Bool) (n m : ℕ) (s new : State) (slot : ℕ) (p : JobOut)
    → StandsAt g k t kept lines n s → In p kept.pending → DraftEnds p.draft → l.volume ≡ k.volume
    → then.claims ≡ kept.claims ++ (slot, p.draft) ∷ [] → StandsAt g l u then after m new
    → FilesEnd k.volume kept.files → FilesEnd l.volume then.files
