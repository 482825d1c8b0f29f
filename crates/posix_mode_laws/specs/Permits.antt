-- What is permitted where the power goes: where nothing that the medium shows differs, where the call acted, and at an unmount.
use Rattle.std.specs.Prelude.{◌≡◌, ◌<◌, ◌/◌, ℕ, true, List, [], ◌∷◌, refl}
use Rattle.std.proofs.Common.{◌∙◌, sym, subst, inl, inr}
use Rattle.world_image_laws.specs.pm_model.Words.{Words}
use Rattle.world_image_laws.specs.layout_model.declared.lines.Kind.{Kind}
use Rattle.world_image_laws.specs.layout_model.declared.lines.Kind.TheVariants.{Directory, File, Free, Staging}
use Rattle.world_image_laws.specs.image_model.Content.{byte_in, disk_of, size_of}
use Rattle.world_image_laws.specs.image_model.Volume.{inode, Volume}
use Rattle.world_image_laws.specs.posix_tables.declared.nodes.Node.{Node}
use Rattle.world_image_laws.specs.posix_tables.Nodes.{node_at}
use Rattle.world_image_laws.specs.posix_spec.Run.{after_call, run}
use Rattle.world_image_laws.specs.posix_spec.State.{State}
use Rattle.world_image_laws.specs.posix_laws.Cuts.{cut_of}
use Rattle.world_image_laws.specs.crash_spec.Posix.{LastBeforeCut, OrUnfinished}
use Rattle.world_image_laws.specs.world_model.Stands.{NodeStands, number, Stands}
use Rattle.posix_mode_laws.specs.Batch.{KeepsShown}
use Rattle.posix_mode_laws.specs.BatchLaws.{PermitsActed, PermitsShown, PermitsUnmounted}
use Rattle.posix_mode_laws.specs.CutStands.{cut_left}
use Rattle.posix_mode_laws.specs.Sides.{Same}
use Rattle.posix_mode_laws.specs.Steps.{left_weaker, permitted_left, shown_tree, starts_before_cut}

-- ---- other words of which files show the same

-- the file of one inode shows the same
abbrev pub ShownOf : Volume → Words → Words → ℕ → Type 0
ShownOf v f g ino = (i : ℕ) → (inode v ino).kind ≡ File → i < size_of v [] ino → byte_in g (disk_of v [] ino (i / 4096)) i ≡ byte_in f (disk_of v [] ino (i / 4096)) i

pub node_words : (v : Volume) (f g : Words) (ino : ℕ) (kind : Kind) (node : Node) → ShownOf v f g ino → (inode v ino).kind ≡ kind → NodeStands v [] f ino kind node → NodeStands v [] g ino kind node
node_words v f g ino Free node shown is stands = absurd stands
node_words v f g ino Staging node shown is stands = absurd stands
node_words v f g ino Directory Node.Gone shown is stands = absurd stands
node_words v f g ino Directory Node.Directory shown is stands = tt
node_words v f g ino Directory (Node.File file) shown is stands = absurd stands
node_words v f g ino File Node.Gone shown is stands = absurd stands
node_words v f g ino File Node.Directory shown is stands = absurd stands
node_words v f g ino File (Node.File file) shown is stands = record {
  size = stands.size;
  each = λ i below. shown i is (subst (λ k. i < k) (sym stands.size) below) ∙ stands.each i below;
}

pub keeps_words : (v : Volume) (f g : Words) (numbers : List ℕ) (m : State) → KeepsShown v f g → Stands v [] f numbers m → Stands v [] g numbers m
keeps_words v f g numbers m shown stands = record {
  sane = stands.sane;
  names = stands.names;
  nodes = record {
    each = λ ino used. node_words v f g ino (inode v ino).kind (node_at m.nodes (number numbers ino)) (shown ino) refl (stands.nodes.each ino used);
    all = stands.nodes.all;
  };
  log = stands.log;
}

-- ---- the promise

pub permits_shown : PermitsShown
permits_shown w f g start front later unfinished left world shown tree_is =
    let m = world.medium in
    permitted_left LastBeforeCut w f start front later unfinished left world
    (shown_tree w.committed g w.committed_numbers m.state left (keeps_words w.committed f g w.committed_numbers m.state shown m.stands) tree_is.1)

pub permits_acted : PermitsActed
permits_acted v g numbers start history c left stands shown =
    let after : State = after_call (run start history) c in
    inr (inl (record {
      marks = true ∷ [];
      tree_left = (
        cut_of after,
        left_weaker Same (OrUnfinished (LastBeforeCut after []) (run start history) []) (λ n i v x is. inl (starts_before_cut after n i v x is)) after (cut_of after) (cut_left after),
        shown_tree v g numbers (cut_of after) left stands shown.1,
      );
    }))

pub permits_unmounted : PermitsUnmounted
permits_unmounted v g numbers start history left stands shown =
    let is = shown_tree v g numbers (run start history) left stands shown.1 in
    (is, inr (inr is))
