-- What an image shows of a valid world, and what the jobs that it shows leave.
use Rattle.std.specs.Prelude.{◌≡◌, ◌⊎◌, ℕ, ◌<◌, List, [], ◌∷◌, ◌++◌, length, Option}
use Rattle.name_laws.specs.volume_laws.image_model.pm_model.Words.{Words}
use Rattle.name_laws.specs.volume_laws.image_model.layout_model.declared.lines.Draft.{Draft}
use Rattle.name_laws.specs.volume_laws.image_model.Content.{found, Node}
use Rattle.name_laws.specs.volume_laws.image_model.Live.{live_entries}
use Rattle.name_laws.specs.volume_laws.image_model.Volume.{Volume}
use Rattle.crash_spec.specs.posix_laws.posix_types.declared.tree.TreeEntry.{TreeEntry}
use Rattle.crash_spec.specs.posix_laws.posix_tables.Nodes.{bytes_of, node_at}
use Rattle.crash_spec.specs.posix_laws.posix_spec.Run.{after_call}
use Rattle.crash_spec.specs.posix_laws.posix_spec.State.{State}
use Rattle.crash_spec.specs.posix_laws.posix_spec.Tree.{tree}
use Rattle.crash_spec.specs.Sync.{IsPartOf, with_bytes}
use Rattle.crash_spec.specs.posix_laws.Puts.{PutsWhole}
use Rattle.world_model.specs.Jobs.{unfinished_call, Job}
use Rattle.world_model.specs.Shown.{AreFilled, landed_pairs, SameButLent, ShowsClaims}

-- a job acts: its call puts whole bytes into a file that is there, and the next state has of them what is found
pub record Acts (s : State) (j : Job) (next : State) : Type 0 where
  pub node : ℕ
  pub there : node < length s.nodes
  pub puts : PutsWhole s j.who j.call node j.whole
  pub part : IsPartOf (bytes_of (node_at s.nodes node)) j.whole j.found
  pub next_is : next ≡ with_bytes (after_call s (unfinished_call j)) node j.found

-- the tree is that of the state after some of the jobs, in order, by what is found of each
abbrev pub LeftBy : State → List Job → List TreeEntry → Type 0
LeftBy s [] left = left ≡ tree s
LeftBy s (j ∷ jobs) left = ((next : State) × Acts s j next × LeftBy next jobs left) ⊎ LeftBy s jobs left

-- of each job all its bytes are found, as in strict mode
abbrev pub AreWhole : List Job → Type 0
AreWhole [] = Unit {0}
AreWhole (j ∷ jobs) = (j.found ≡ j.whole) × AreWhole jobs

-- An image that shows a valid world: its words are the world's but in lent blocks, its claims are in the log, and whole
-- those of its jobs that are in the log too.
pub record IsShown (v : Volume) (claims : List (ℕ × Draft)) (jobs : List Job) (kept image : Words) (landed : List (Option ℕ)) : Type 0 where
  pub same : SameButLent v jobs kept image
  pub filled : AreFilled v image jobs landed
  pub log : ShowsClaims v (claims ++ landed_pairs jobs landed) image

-- the content of an image with this volume
abbrev pub content_shown : Volume → Words → List (List ℕ) → Option Node
content_shown v image = found v (live_entries v image) image
