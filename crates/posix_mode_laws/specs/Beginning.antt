-- POSIX mode begins where nothing is gathered: all three standings are one.
use Rattle.std.specs.Prelude.{◌≡◌, ℕ, List, [], ◌∷◌, length, map, take, Option, Some, None, slice_index, suc, refl}
use Rattle.std.proofs.Common.{arith, ap, ◌∙◌, sym, subst, inr}
use Rattle.std.proofs.Math.ListN.{get_or-map}
use Rattle.std.proofs.Math.Seq.{take-length}
use Rattle.world_image_laws.specs.pm_model.declared.Cell.{Cell}
use Rattle.world_image_laws.specs.pm_model.ImageLaws.{IsImage-words_of}
use Rattle.world_image_laws.specs.pm_model.Images.{IsImage, words_of}
use Rattle.world_image_laws.specs.pm_model.Words.{Words}
use Rattle.world_image_laws.specs.layout_model.Journal.{journaled}
use Rattle.world_image_laws.specs.layout_model.declared.lines.Draft.{Draft}
use Rattle.world_image_laws.specs.layout_model.declared.lines.Inode.{Inode}
use Rattle.world_image_laws.specs.layout_model.declared.lines.Kind.TheVariants.{File}
use Rattle.world_image_laws.specs.image_model.Live.{entry_in}
use Rattle.world_image_laws.specs.image_model.Volume.{free_inode, inode, Volume}
use Rattle.world_image_laws.specs.posix_types.declared.call.Mode.{Mode}
use Rattle.world_image_laws.specs.posix_tables.declared.nodes.Node.{Node}
use Rattle.world_image_laws.specs.posix_tables.Nodes.{bytes_of, node_at, published_of}
use Rattle.world_image_laws.specs.posix_spec.State.{State}
use Rattle.world_image_laws.specs.crash_spec.Posix.{ByteRule, IsLeft, LastBeforeCut, LaterRule, NodeLeft, Overwritten}
use Rattle.world_image_laws.specs.world_model.Stands.{is_used, NodeStands, number, Stands}
use Rattle.world_image_laws.specs.Images.{HasNoEntry, IsRunning, ShowsLog}
use Rattle.posix_mode_laws.specs.Device.{at_rest, IsAllPublished, PosixRuns, ShowsPosixWorld}
use Rattle.posix_mode_laws.specs.Laws.{BeginsInPosixMode}
use Rattle.posix_mode_laws.specs.Sides.{PosixWorld, Same, with_sizes}
use Rattle.posix_mode_laws.specs.Steps.{no_freed, none_cut, Starts, starts_before_cut, starts_overwritten}

-- lines with their own sizes are as they are
own_sizes : (xs : List Inode) → with_sizes xs (map (λ (x : Inode). x.size) xs) ≡ xs
own_sizes [] = refl
own_sizes (x ∷ xs) = ap (λ ys. x ∷ ys) (own_sizes xs)

count_sizes : (xs : List Inode) → length (map (λ (x : Inode). x.size) xs) ≡ length xs
count_sizes [] = refl
count_sizes (x ∷ xs) = ap suc (count_sizes xs)

-- where all is published, a state is left as it is
node_all : (rule : ByteRule) → ((n i v : ℕ) → rule n i v v) → (n : ℕ) (x : Node) → published_of x ≡ length (bytes_of x) → NodeLeft rule n x x
node_all rule same n Node.Gone is = refl
node_all rule same n Node.Directory is = refl
node_all rule same n (Node.File file) is = record { size = ap (λ (bs : List ℕ). length bs) (sym (ap (λ k. take k file.bytes) is ∙ take-length file.bytes)); each = λ i below. same n i _ }

left_all : (rule : ByteRule) → ((n i v : ℕ) → rule n i v v) → (s : State) → IsAllPublished s → IsLeft rule s s
left_all rule same s all = record { entries = refl; count = refl; each = λ n. node_all rule same n (node_at s.nodes n) (all n) }

file_size : (v : Volume) (f : Words) (ino : ℕ) (node : Node) → NodeStands v [] f ino File node → (inode v ino).size ≡ length (bytes_of node)
file_size v f ino Node.Gone is = absurd is
file_size v f ino Node.Directory is = absurd is
file_size v f ino (Node.File file) is = is.size

world_at_rest : (rule : LaterRule) → Starts rule → (v : Volume) (f : Words) (numbers : List ℕ) (s : State) → Stands v [] f numbers s → IsAllPublished s → PosixWorld rule (at_rest v numbers) f s [] []
world_at_rest rule starts v f numbers s stands all = record {
  medium = record { state = s; shape = refl; left = left_all (rule s []) (λ n i x. starts s n i x x refl) s all; stands = stands; fsyncs = refl; published = λ n i is. inr (inr is) };
  cut = record { state = s; shape = refl; left = left_all Same (λ n i x. refl) s all; stands = stands };
  live = subst (λ xs. Stands (record v { inodes = xs }) [] f numbers s) (sym (own_sizes v.inodes)) stands;
  lengths = record { count = count_sizes v.inodes; each = each };
  blocks = no_freed (at_rest v numbers) stands.sane;
  cuts = none_cut (at_rest v numbers) s [];
} where
  each : (ino : ℕ) → (inode v ino).kind ≡ File → slice_index (map (λ (x : Inode). x.size) v.inodes) ino ≡ length (bytes_of (node_at s.nodes (number numbers ino)))
  each ino file =
      get_or-map (λ (x : Inode). x.size) v.inodes ino free_inode
      ∙ file_size v f ino (node_at s.nodes (number numbers ino)) (subst (λ kind. NodeStands v [] f ino kind (node_at s.nodes (number numbers ino))) file (stands.nodes.each ino (ap is_used file)))

-- a log that shows no claim has no entry
pub no_entry : (v : Volume) (f : Words) → ShowsLog v [] f → HasNoEntry v f
no_entry v f log slot below = by (entry_in v f slot) (λ d is. (log.shows slot d).1 (below, is)) where
  by : (o : Option Draft) → ((d : Draft) → o ≡ Some d → ⊥) → o ≡ None
  by None none = refl
  by (Some d) none = absurd (none d refl)

runs_at_rest : (rule : LaterRule) → Starts rule → (v : Volume) (d : List Cell) (numbers : List ℕ) (s : State) (count : ℕ) → IsRunning v d [] numbers s count → s.mode ≡ Mode.Posix → IsAllPublished s
    → PosixRuns rule (at_rest v numbers) d s [] []
unfolding world_at_rest
runs_at_rest rule starts v d numbers s count running mode all = record {
  mode = mode;
  stands = running.device.stands;
  geometry = (running.device.world (words_of d) (IsImage-words_of d)).geometry;
  batch_geometry = refl;
  batch_base = refl;
  free = running.device.room.free;
  room = let free = running.device.room.free in omega (arith, free);
  images = images;
} where
  images : (image : Words) → IsImage d image → ShowsPosixWorld rule (at_rest v numbers) s [] [] image
  images image is =
      let world = running.device.world image is in
      let log = running.log image is in
      record {
        headed = running.device.headed image is;
        world = world_at_rest rule starts v (journaled image) numbers s world.valid.stands all;
        no_entry = no_entry v (journaled image) log;
        no_later = log.no_later;
        fits = world.valid.fits;
        shape = world.shape;
        blocks = running.device.room.blocks;
      }

pub begins_in_posix_mode : BeginsInPosixMode
begins_in_posix_mode v d numbers s count running mode all =
    (runs_at_rest Overwritten starts_overwritten v d numbers s count running mode all, runs_at_rest LastBeforeCut starts_before_cut v d numbers s count running mode all)
