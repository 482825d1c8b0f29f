-- What the World promises of a power loss, each promise as one statement.
use Rattle.std.specs.Prelude.{ℕ, List, [], ◌∷◌, ◌++◌, map, Option}
use Rattle.name_laws.specs.pm_model.Words.{Words}
use Rattle.name_laws.specs.layout_model.declared.lines.Draft.{Draft}
use Rattle.name_laws.specs.image_model.Volume.{Volume}
use Rattle.crash_spec.specs.posix_laws.posix_types.declared.item.Item.{Item}
use Rattle.crash_spec.specs.posix_laws.posix_types.declared.tree.TreeEntry.{TreeEntry}
use Rattle.crash_spec.specs.posix_laws.posix_spec.Run.{Unfinished, run}
use Rattle.crash_spec.specs.posix_laws.posix_spec.State.{State}
use Rattle.crash_spec.specs.Strict.{Strict}
use Rattle.crash_spec.specs.Sync.{Sync}
use Rattle.world_model.specs.Jobs.{unfinished_call, Job, Valid}
use Rattle.world_model.specs.Promised.{AreWhole, content_shown, IsShown}
use Rattle.world_model.specs.Shown.{IsTreeOfContent}

-- THE PROMISE: where a world is valid after a history, the tree of each image that shows it, with any of its jobs landed, is
-- one that the mode permits for the history and the jobs' calls. In strict mode of each job all its bytes are found.
abbrev pub KeepsStrictPromise : Type 0
KeepsStrictPromise =
    (v : Volume) (claims : List (ℕ × Draft)) (jobs : List Job) (kept image : Words) (numbers : List ℕ) (start : State) (history : List Item) (landed : List (Option ℕ)) (left : List TreeEntry)
    → AreWhole jobs → Valid v claims jobs kept numbers (run start history) → IsShown v claims jobs kept image landed → IsTreeOfContent (content_shown v image) left
    → Strict start history (map unfinished_call jobs) left

abbrev pub KeepsSyncPromise : Type 0
KeepsSyncPromise =
    (v : Volume) (claims : List (ℕ × Draft)) (jobs : List Job) (kept image : Words) (numbers : List ℕ) (start : State) (history : List Item) (landed : List (Option ℕ)) (left : List TreeEntry)
    → Valid v claims jobs kept numbers (run start history) → IsShown v claims jobs kept image landed → IsTreeOfContent (content_shown v image) left
    → Sync start history (map unfinished_call jobs) left

-- The content of each such image has a tree, so that the promise is not empty.
abbrev pub HasTree : Type 0
HasTree =
    (v : Volume) (claims : List (ℕ × Draft)) (jobs : List Job) (kept image : Words) (numbers : List ℕ) (s : State) (landed : List (Option ℕ))
    → Valid v claims jobs kept numbers s → IsShown v claims jobs kept image landed → (left : List TreeEntry) × IsTreeOfContent (content_shown v image) left

-- A call that lost its power before it acted may stand last among the unfinished ones.
abbrev pub MayBeLost : Type 0
MayBeLost = (start : State) (history : List Item) (unfinished : List Unfinished) (c : Unfinished) (left : List TreeEntry) → Strict start history unfinished left → Strict start history (unfinished ++ c ∷ []) left

abbrev pub MayBeLostInSync : Type 0
MayBeLostInSync = (start : State) (history : List Item) (unfinished : List Unfinished) (c : Unfinished) (left : List TreeEntry) → Sync start history unfinished left → Sync start history (unfinished ++ c ∷ []) left
