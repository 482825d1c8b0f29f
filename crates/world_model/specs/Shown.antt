-- What an image shows of the log and of jobs, and the tree of a content.
use Rattle.std.specs.Prelude.{◌≡◌, ◌⊎◌, ◌↔◌, ℕ, ◌+◌, ◌*◌, ◌<◌, true, List, [], ◌∷◌, Option, Some, None}
use Rattle.name_laws.specs.volume_laws.image_model.pm_model.Words.{byte_of, Words}
use Rattle.name_laws.specs.volume_laws.image_model.layout_model.Places.{is_data_block}
use Rattle.name_laws.specs.volume_laws.image_model.layout_model.declared.lines.Draft.{Draft}
use Rattle.name_laws.specs.volume_laws.image_model.Content as shown
use Rattle.name_laws.specs.volume_laws.image_model.Content.{HasBytes, IsDirectory}
use Rattle.name_laws.specs.volume_laws.image_model.Live.{entry_in}
use Rattle.name_laws.specs.volume_laws.image_model.Volume.{Volume}
use Rattle.crash_spec.specs.posix_laws.posix_types.declared.tree.TreeEntry.{TreeEntry}
use Rattle.crash_spec.specs.posix_laws.posix_types.declared.tree.TreeNode.{TreeNode}
use Rattle.crash_spec.specs.posix_laws.posix_tables.Places.{printed}
use Rattle.crash_spec.specs.list_laws.Members.{In}
use Rattle.crash_spec.specs.posix_laws.Order.{RisingBy}
use Rattle.world_model.specs.Jobs.{HoldsWhole, IsStagedIn, Job}

-- the log of the image has just these entries, each in its slot
abbrev pub ShowsClaims : Volume → List (ℕ × Draft) → Words → Type 0
ShowsClaims v claims f = (slot : ℕ) (d : Draft) → In (slot, d) claims ↔ ((slot < v.geometry.log) × (entry_in v f slot ≡ Some d))

-- Jobs land or not: `landed` says of each job in which slot its entry is found, if it is. These are the pairs of those that
-- landed.
abbrev pub landed_pairs : List Job → List (Option ℕ) → List (ℕ × Draft)
landed_pairs [] landed = []
landed_pairs (j ∷ jobs) [] = []
landed_pairs (j ∷ jobs) (None ∷ landed) = landed_pairs jobs landed
landed_pairs (j ∷ jobs) (Some slot ∷ landed) = (slot, j.draft) ∷ landed_pairs jobs landed

-- the blocks of those that landed hold what is found of them
abbrev pub AreFilled : Volume → Words → List Job → List (Option ℕ) → Type 0
AreFilled v f [] landed = Unit {0}
AreFilled v f (j ∷ jobs) [] = Unit {0}
AreFilled v f (j ∷ jobs) (None ∷ landed) = AreFilled v f jobs landed
AreFilled v f (j ∷ jobs) (Some slot ∷ landed) = HoldsWhole v f j.draft j.found × AreFilled v f jobs landed

-- the block is one of a job's, which is lent; the words of data blocks are the same but in such blocks
abbrev pub IsLent : Volume → List Job → ℕ → Type 0
IsLent v [] b = ⊥
IsLent v (j ∷ jobs) b = IsStagedIn v j.draft b ⊎ IsLent v jobs b

abbrev pub SameButLent : Volume → List Job → Words → Words → Type 0
SameButLent v jobs f g =
    (b i : ℕ) → is_data_block v.geometry b ≡ true → i < 4096 → ¬ IsLent v jobs b → byte_of g (4096 * b + i) ≡ byte_of f (4096 * b + i)

-- a node of a tree as one of an image
abbrev pub shown_as : TreeNode → shown.Node
shown_as TreeNode.Directory = IsDirectory
shown_as (TreeNode.File bytes) = HasBytes bytes

-- The tree lists what stands at each path of an image, and nothing else, in the byte order of the printed paths.
pub record IsTreeOfContent (content : List (List ℕ) → Option shown.Node) (left : List TreeEntry) : Type 0 where
  pub rising : RisingBy (λ (e : TreeEntry). printed e.path) left
  pub each : (e : TreeEntry) → In e left → content e.path ≡ Some (shown_as e.node)
  pub all : (path : List (List ℕ)) (node : TreeNode) → content path ≡ Some (shown_as node) → In (record { path = path; node = node }) left
