-- The World rests on the bytes of the blocks that maps have.
use Rattle.live_model.specs.extent_model.Extents.{disk_at, is_within}
use Rattle.live_model.specs.image_model.Content.{disk_of, entry_of_block}
use Rattle.live_model.specs.image_model.Volume.{Volume, extents, inode}
use Rattle.live_model.specs.layout_model.declared.lines.Draft.{Draft}
use Rattle.live_model.specs.list_laws.Filters.{filter-In}
use Rattle.live_model.specs.list_laws.Members.{In}
use Rattle.live_model.specs.pm_model.Words.{Words}
use Rattle.live_model.specs.posix_spec.State.{State}
use Rattle.live_model.specs.posix_tables.Nodes.{node_at}
use Rattle.live_model.specs.world_image_laws.image_model.Content.{byte_in, disk_by}
use Rattle.live_model.specs.world_image_laws.pm_model.Words.{byte_of}
use Rattle.live_model.specs.world_image_laws.world_model.Stands.{LogStands}
use Rattle.live_model.specs.world_image_laws.world_model.TreeRules.{used_below}
use Rattle.live_model.specs.world_model.Jobs.{live_claims}
use Rattle.live_model.specs.world_model.Landed.{NodeStands-same, SameFile}
use Rattle.live_model.specs.world_model.Latest.{latest-In}
use Rattle.live_model.specs.world_model.Stands.{IsUsed, Stands, number}
use Rattle.live_model.specs.world_step_laws.Worlds.{IsWorld}
use Rattle.std.proofs.Common.{arith}
use Rattle.std.specs.Prelude.{List, None, Option, Some, [], length, refl, ℕ, ◌%◌, ◌&&◌, ◌*◌, ◌+◌, ◌-◌, ◌/◌, ◌<◌, ◌==◌, ◌≡◌}
use Rattle.world_write_laws.specs.PlaceSteps.{staging_below}

-- the bytes of each block that a map has
pub record SameNamed (v : Volume) (f g : Words) : Type 0 where
  pub each : (ino block b i : ℕ) → ino < length v.inodes → disk_at (extents v ino) block ≡ Some b → i < 4096 → byte_of g (4096 * b + i) ≡ byte_of f (4096 * b + i)

module _ (v : Volume) (live : List Draft) (f g : Words) (log : LogStands v live) (same : SameNamed v f g) where
  keeps : (ino block i : ℕ) → IsUsed v ino → byte_in g (disk_of v live ino block) i ≡ byte_in f (disk_of v live ino block) i
  keeps ino block i used = by (entry_of_block live ino block) refl where
    at : (n m : ℕ) (o : Option ℕ) → n < length v.inodes → disk_at (extents v n) m ≡ o → byte_in g o i ≡ byte_in f o i
    at n m None below is = refl
    at n m (Some b) below is = same.each n m b (i % 4096) below is (omega arith)

    by : (o : Option Draft) → entry_of_block live ino block ≡ o → byte_in g (disk_by v o ino block) i ≡ byte_in f (disk_by v o ino block) i
    by None entry = at ino block (disk_at (extents v ino) block) (used_below v ino used) refl
    by (Some d) entry =
        let there : In d live = (filter-In (λ (x : Draft). (x.ino == ino) && is_within x.file_block x.count block) live d (latest-In _ d entry)).0 in
        at d.staging (d.staging_block + (block - d.file_block)) (disk_at (extents v d.staging) (d.staging_block + (block - d.file_block))) (staging_below v d.staging (log.staging d there)) refl

  pub stands_same : (numbers : List ℕ) (s : State) → Stands v live f numbers s → Stands v live g numbers s
  stands_same numbers s stands = record {
    sane = stands.sane;
    names = stands.names;
    nodes = record {
      each = λ ino used. NodeStands-same v live f v live g ino (inode v ino).kind (node_at s.nodes (number numbers ino)) (file ino used) (stands.nodes.each ino used);
      all = stands.nodes.all;
    };
    log = stands.log;
  } where
    file : (ino : ℕ) → IsUsed v ino → SameFile v live f v live g ino
    file ino used = record { size = refl; bytes = λ i below. keeps ino (i / 4096) i used }

-- WORDS OF ALL OTHER BLOCKS may be anything.
pub world_named : (v : Volume) (claims : List (ℕ × Draft)) (f g : Words) (numbers : List ℕ) (s : State) (count : ℕ) → SameNamed v f g → IsWorld v claims [] f numbers s count → IsWorld v claims [] g numbers s count
world_named v claims f g numbers s count same world = record {
  valid = record {
    stands = stands_same v (live_claims v claims) f g world.valid.stands.log same numbers s world.valid.stands;
    out = tt;
    fits = world.valid.fits;
    room = world.valid.room;
  };
  claims_stand = world.claims_stand;
  aged = world.aged;
  shape = world.shape;
  geometry = world.geometry;
}
