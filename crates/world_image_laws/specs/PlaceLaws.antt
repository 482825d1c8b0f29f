-- A write of which a part is found, first or among others, as one statement.
use Rattle.std.specs.Prelude.{◌≡◌, ◌≤◌, ◌++◌, ℕ, List, ◌∷◌, map, Option}
use Rattle.image_laws.specs.pm_model.Words.{Words}
use Rattle.image_laws.specs.layout_model.declared.lines.Draft.{Draft}
use Rattle.image_laws.specs.image_model.Volume.{Volume}
use Rattle.world_step_laws.specs.commute_laws.posix_types.declared.call.Mode.{Mode}
use Rattle.world_step_laws.specs.commute_laws.posix_types.declared.item.Item.{Item}
use Rattle.world_step_laws.specs.commute_laws.posix_types.declared.tree.TreeEntry.{TreeEntry}
use Rattle.world_step_laws.specs.commute_laws.posix_spec.Run.{run}
use Rattle.world_step_laws.specs.commute_laws.posix_spec.State.{room, State}
use Rattle.world_step_laws.specs.commute_laws.crash_spec.Sync.{file_bytes, IsPartOf, SyncFrom}
use Rattle.world_step_laws.specs.commute_laws.Needs.{AreInFlight, Flight, needs, unfinished_call}
use Rattle.world_step_laws.specs.commute_laws.Orders.{AreTwoEach}
use Rattle.world_step_laws.specs.world_model.Jobs.{Job}
use Rattle.world_step_laws.specs.Parts.{FliesWith, part_of}
use Rattle.world_image_laws.specs.Back.{calls_among, jobs_in_log}
use Rattle.world_image_laws.specs.Images.{ShowsWorld}
use Rattle.world_image_laws.specs.Promised.{IsKept}

-- WHAT IS FOUND OF A WRITE MAY STAND FIRST OR AMONG OTHERS. Whatever trees the others may leave behind a part of it, in sync mode, they may leave
-- from the state before, with the write at any place among the unfinished calls.
abbrev pub LeadsFromPart : Type 0
LeadsFromPart =
    (s : State) (f : Flight) (a b : List Flight) (bytes : List ℕ) (left : List TreeEntry)
    → AreInFlight s (f ∷ (a ++ b)) → AreTwoEach (f ∷ (a ++ b)) → needs s (f ∷ (a ++ b)) ≤ room s
    → IsPartOf (file_bytes s f.node) f.whole bytes
    → SyncFrom (part_of s f bytes) (map unfinished_call (a ++ b)) left
    → SyncFrom s (map unfinished_call a ++ f.begun ∷ map unfinished_call b) left

-- AN IMAGE IS KEPT THAT SHOWS IT, beside writes in flight, in sync mode: with the write at any place among the calls of those whose entry may stand
-- in the log.
abbrev pub KeepsPartAmong : Type 0
KeepsPartAmong =
    (v : Volume) (claims : List (ℕ × Draft)) (a b : List Job) (slots : List (Option ℕ)) (numbers : List ℕ) (s : State) (f : Flight) (bytes : List ℕ) (count : ℕ) (image : Words) (start : State) (history : List Item)
    → start.mode ≡ Mode.Sync → s ≡ run start history → FliesWith s f numbers (a ++ b) → IsPartOf (file_bytes s f.node) f.whole bytes
    → ShowsWorld v claims (jobs_in_log slots (a ++ b)) numbers (part_of s f bytes) count image
    → IsKept v.geometry start history (calls_among slots a f.begun b) image
