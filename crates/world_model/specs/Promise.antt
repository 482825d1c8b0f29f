-- The promise, proved.
use Rattle.std.specs.Prelude.{ℕ, List, Option}
use Rattle.std.proofs.Common.{subst}
use Rattle.name_laws.specs.pm_model.Words.{Words}
use Rattle.name_laws.specs.layout_model.declared.lines.Draft.{Draft}
use Rattle.name_laws.specs.image_model.Content as shown
use Rattle.name_laws.specs.image_model.Content.{found}
use Rattle.name_laws.specs.image_model.Volume.{Volume}
use Rattle.crash_spec.specs.posix_laws.posix_types.declared.tree.TreeEntry.{TreeEntry}
use Rattle.crash_spec.specs.posix_laws.posix_spec.Run.{run}
use Rattle.crash_spec.specs.posix_laws.posix_spec.State.{State}
use Rattle.crash_spec.specs.posix_laws.posix_spec.Tree.{tree}
use Rattle.crash_spec.specs.posix_laws.TreeOf.{IsTreeOf-same, IsTreeOf-tree}
use Rattle.crash_spec.specs.posix_laws.Paths.{stands_at}
use Rattle.world_model.specs.Jobs.{Job, Valid}
use Rattle.world_model.specs.Promised.{content_shown, IsShown, LeftBy}
use Rattle.world_model.specs.Shown.{IsTreeOfContent}
use Rattle.world_model.specs.Contents.{IsTreeOf-content, IsTreeOfContent-state}
use Rattle.world_model.specs.Ends.{Ends, ends, Strict-LeftBy, StrictFrom-lost, Sync-LeftBy, SyncFrom-lost}
use Rattle.world_model.specs.PromiseLaws.{HasTree, KeepsStrictPromise, KeepsSyncPromise, MayBeLost, MayBeLostInSync}
use Rattle.world_model.specs.Lent.{Valid-words}

-- a tree of a content that a state ends with is the tree of that state
tree_of_end : (content : List (List ℕ) → Option shown.Node) (s : State) (jobs : List Job) (left : List TreeEntry) → Ends content s jobs → IsTreeOfContent content left → LeftBy s jobs left
tree_of_end content s jobs left its is =
    subst (LeftBy s jobs) (IsTreeOf-same (stands_at its.end) (tree its.end) left (IsTreeOf-tree its.end its.like) (IsTreeOf-content content its.end left its.content_is is)) its.left

ends_shown : (v : Volume) (claims : List (ℕ × Draft)) (jobs : List Job) (kept image : Words) (numbers : List ℕ) (s : State) (landed : List (Option ℕ))
    → Valid v claims jobs kept numbers s → IsShown v claims jobs kept image landed → Ends (content_shown v image) s jobs
ends_shown v claims jobs kept image numbers s landed valid is = ends v jobs landed claims image numbers s (Valid-words v claims jobs kept image numbers s is.same valid) is.filled is.log

-- THE PROMISE of strict mode, and of sync mode.
pub strict_promise : KeepsStrictPromise
strict_promise v claims jobs kept image numbers start history landed left whole valid is tree_is =
    Strict-LeftBy (run start history) jobs left whole
    (tree_of_end (content_shown v image) (run start history) jobs left (ends_shown v claims jobs kept image numbers (run start history) landed valid is) tree_is)

pub sync_promise : KeepsSyncPromise
sync_promise v claims jobs kept image numbers start history landed left valid is tree_is =
    Sync-LeftBy (run start history) jobs left
    (tree_of_end (content_shown v image) (run start history) jobs left (ends_shown v claims jobs kept image numbers (run start history) landed valid is) tree_is)

-- And there is a tree.
pub has_tree : HasTree
has_tree v claims jobs kept image numbers s landed valid is =
    let its = ends_shown v claims jobs kept image numbers s landed valid is in
    (tree its.end, IsTreeOfContent-state (content_shown v image) its.end (tree its.end) its.content_is (IsTreeOf-tree its.end its.like))

pub may_be_lost : MayBeLost
may_be_lost start history unfinished c left is = StrictFrom-lost (run start history) unfinished c left is

pub may_be_lost_in_sync : MayBeLostInSync
may_be_lost_in_sync start history unfinished c left is = SyncFrom-lost (run start history) unfinished c left is
