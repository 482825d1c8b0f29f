-- What the calls see and the batch as it would be committed, as volumes that are seen; and changes that leave maps alone.
use Rattle.std.specs.Prelude.{◌≡◌, ◌≢◌, ℕ, List, [], length, Option, None, Some, slice_index_or, refl}
use Rattle.std.proofs.Common.{arith, ap, ◌∙◌, sym, inl}
use Rattle.eof_laws.specs.live_model.pm_model.ImageLaws.{IsImage-words_of}
use Rattle.eof_laws.specs.live_model.pm_model.Images.{words_of}
use Rattle.eof_laws.specs.live_model.extent_model.declared.extent_words.Extent.{Extent}
use Rattle.eof_laws.specs.live_model.layout_model.Journal.{journaled}
use Rattle.eof_laws.specs.live_model.layout_model.Places.{data_blocks, Geometry}
use Rattle.eof_laws.specs.live_model.layout_model.declared.lines.Draft.{Draft}
use Rattle.eof_laws.specs.live_model.layout_model.declared.lines.Inode.{Inode}
use Rattle.eof_laws.specs.live_model.layout_model.declared.lines.Kind.TheVariants.{File}
use Rattle.eof_laws.specs.live_model.image_model.Volume.{chain, extents, inode, Volume}
use Rattle.eof_laws.specs.live_model.file_table.Files.{Files}
use Rattle.eof_laws.specs.live_model.k_split_model.View.{View}
use Rattle.eof_laws.specs.live_model.commute_laws.posix_types.declared.item.Item.{Item}
use Rattle.eof_laws.specs.live_model.posix_spec.Run.{run}
use Rattle.eof_laws.specs.live_model.posix_spec.State.{State}
use Rattle.eof_laws.specs.live_model.posix_laws.Cuts.{cut_of}
use Rattle.eof_laws.specs.live_model.posix_laws.Lasting.{run_lasts}
use Rattle.eof_laws.specs.live_model.world_model.Jobs.{Job}
use Rattle.eof_laws.specs.live_model.world_model.Stands.{number}
use Rattle.posix_mode_laws.specs.Sides.{sized}
use Rattle.batch_laws.specs.Standing.{as_claims, PosixGoing, staged_of}
use Rattle.batch_laws.specs.WorldsLaws.{cut_is_world, live_is_world}
use Rattle.k_split_laws.specs.Going.{IsStep}
use Rattle.k_split_laws.specs.Seen.{SeenFor}
use Rattle.batch_laws.specs.Changes.{LeavesKept, TakesNone}
use Rattle.batch_laws.specs.CommitsLaws.{spare_blocks}
use Rattle.batch_laws.specs.Ready.{GoesReady}
use Rattle.batch_laws.specs.SizedFound.{unused_sized}

-- ---- both volumes are seen

module _ (g : Geometry) (k : View) (files : Files) (count : ℕ) (numbers : List ℕ) (start : State) (history : List Item) (ready : GoesReady g k files count numbers start history) where
  abbrev going : PosixGoing g k files count numbers start history
  going = ready.going

  same_blocks : (run start history).shape.data_blocks ≡ data_blocks k.volume.geometry
  same_blocks = ap (λ x. x.data_blocks) (run_lasts start history).shape ∙ (going.blocks ∙ ap data_blocks (sym going.geometry))

  pub live_seen : SeenFor (sized files.sizes k.volume) (as_claims (staged_of k.volume files)) [] numbers (run start history) count
  live_seen =
      let live = live_is_world g k files count numbers start history (words_of k.cells) going (IsImage-words_of k.cells) in
      record {
        words = journaled (words_of k.cells);
        world = live.0;
        room = record {
          free = (let room = ready.room in let same = ap (λ (ds : List Draft). length ds) live.1 in let unused = unused_sized files.sizes k.volume in omega (arith, room, same, unused));
          blocks = same_blocks;
        };
      }

  pub cut_seen : SeenFor k.volume [] [] numbers (cut_of (run start history)) count
  cut_seen = record {
    words = journaled (words_of k.cells);
    world = cut_is_world g k files count numbers start history (words_of k.cells) going (IsImage-words_of k.cells);
    room = record { free = spare_blocks g k.volume going.geometry going.spare; blocks = same_blocks };
  }

  -- what is kept of files stays, where what is touched is no file
  pub kept_same : (touched : Option ℕ) → ((t : ℕ) → touched ≡ Some t → (inode k.volume t).kind ≢ File) → LeavesKept touched files files
  kept_same touched plain = record { count = refl; own = λ t same. going.bare t (plain t same); others = λ ino other. (refl, refl) }

-- ---- steps one after the other

-- the volume behind a step is seen
pub seen_behind : (touched : Option ℕ) (v w : Volume) (claims : List (ℕ × Draft)) (jobs : List Job) (numbers after : List ℕ) (s next : State) (count later : ℕ) → SeenFor v claims jobs numbers s count
    → IsStep touched v w claims jobs numbers after s next count later → SeenFor w claims jobs after next later
seen_behind touched v w claims jobs numbers after s next count later seen step = record { words = seen.words; world = step.takes seen.words seen.world; room = step.room }

-- a name, and then a node
pub two_steps : (t : ℕ) (v u w : Volume) (claims : List (ℕ × Draft)) (jobs : List Job) (numbers : List ℕ) (s mid next : State) (count : ℕ) → IsStep None v u claims jobs numbers numbers s mid count count
    → IsStep (Some t) u w claims jobs numbers numbers mid next count count → IsStep (Some t) v w claims jobs numbers numbers s next count count
two_steps t v u w claims jobs numbers s mid next count one two = record {
  geometry = two.geometry ∙ one.geometry;
  base = two.base ∙ one.base;
  staging = λ ino is. two.staging ino (ap (λ (x : Inode). x.kind) (first ino) ∙ is) ∙ one.staging ino is;
  leaves = record {
    others = λ i other. two.leaves.others i other ∙ first i;
    plain = λ i same. (λ staging. two.leaves.plain i same (ap (λ (x : Inode). x.kind) (first i) ∙ staging));
    own = two.leaves.own;
    fewer = λ d is live. one.leaves.fewer d is (two.leaves.fewer d is live);
    applied = λ i. (let a = one.leaves.applied i in let b = two.leaves.applied i in omega (arith, a, b));
    frees = (let a = one.leaves.frees in let b = two.leaves.frees in omega (arith, a, b));
  };
  room = two.room;
  takes = λ f world. two.takes f (one.takes f world);
} where
  first : (i : ℕ) → inode u i ≡ inode v i
  first i = one.leaves.others i (λ never. cc)

-- ---- maps

-- a volume of the same maps
pub same_maps : (touched : Option ℕ) (v w : Volume) (numbers after : List ℕ) → w.chains ≡ v.chains → w.maps ≡ v.maps → ((t : ℕ) → touched ≡ Some t → extents v t ≡ [])
    → ((ino : ℕ) → touched ≢ Some ino → number after ino ≡ number numbers ino) → TakesNone touched v w numbers after
same_maps touched v w numbers after chains maps bare nodes = record {
  maps = λ ino. inl (same_chain ino, same_extents ino);
  own = λ t same. same_extents t ∙ bare t same;
  nodes = nodes;
} where
  same_chain : (ino : ℕ) → chain w ino ≡ chain v ino
  same_chain ino = ap (λ (cs : List (List ℕ)). slice_index_or cs ino []) chains

  same_extents : (ino : ℕ) → extents w ino ≡ extents v ino
  same_extents ino = ap (λ (ms : List (List Extent)). slice_index_or ms ino []) maps
