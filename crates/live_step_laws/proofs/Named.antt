-- The World rests on the bytes of the blocks that maps have.
use Rattle.std.specs.Prelude.{◌≡◌, ◌<◌, ℕ, ◌+◌, ◌*◌, ◌-◌, ◌/◌, ◌%◌, ◌==◌, ◌&&◌, List, [], ◌∷◌, length, Option, Some, None, refl}
use Rattle.std.proofs.Common.{arith, ◌∙◌}
use Rattle.fsync_relink.specs.world_write_laws.pm_model.Words.{byte_of, Words}
use Rattle.fsync_relink.specs.world_write_laws.extent_model.Extents.{disk_at, is_within}
use Rattle.fsync_relink.specs.world_write_laws.layout_model.declared.lines.Draft.{Draft}
use Rattle.fsync_relink.specs.world_write_laws.image_model.Content.{byte_in, disk_by, disk_of, entry_of_block}
use Rattle.fsync_relink.specs.world_write_laws.image_model.Volume.{extents, inode, Volume}
use Rattle.fsync_relink.specs.world_write_laws.posix_tables.Nodes.{node_at}
use Rattle.fsync_relink.specs.world_write_laws.posix_spec.State.{State}
use Rattle.fsync_relink.specs.world_write_laws.list_laws.Filters.{filter-In}
use Rattle.fsync_relink.specs.world_write_laws.list_laws.Members.{In}
use Rattle.fsync_relink.specs.world_write_laws.world_model.Jobs.{Job, JobsStand, live_claims}
use Rattle.fsync_relink.specs.world_write_laws.world_model.Stands.{IsUsed, LogStands, number, Stands}
use Rattle.fsync_relink.specs.world_write_laws.world_model.JobLaws.{live_used}
use Rattle.fsync_relink.specs.world_write_laws.world_model.Landed.{NodeStands-same, SameFile}
use Rattle.fsync_relink.specs.world_write_laws.world_model.Latest.{latest-In}
use Rattle.fsync_relink.specs.world_write_laws.world_model.TreeRules.{used_below}
use Rattle.fsync_relink.specs.world_write_laws.PlaceSteps.{staging_below}
use Rattle.fsync_relink.specs.world_write_laws.world_step_laws.Worlds.{IsWorld}

-- the bytes of each block that a map has
pub record SameNamed (v : Volume) (f g : Words) : Type 0 where
  pub each : (ino block b i : ℕ) → ino < length v.inodes → disk_at (extents v ino) block ≡ Some b → i < 4096 → byte_of g (4096 * b + i) ≡ byte_of f (4096 * b + i)

module _ (v : Volume) (live : List Draft) (f g : Words) (log : LogStands v live) (same : SameNamed v f g) where
  keeps : (ino block i : ℕ) → IsUsed v ino → byte_in g (disk_of v live ino block) i ≡ byte_in f (disk_of v live ino block) i
  keeps ino block i used = by (entry_of_block live ino block) refl where
    at : (n m : ℕ) (o : Option ℕ) → n < length v.inodes → disk_at (extents v n) m ≡ o → byte_in g o i ≡ byte_in f o i
    at n m None below is = refl
    at n m (Some b) below is = same.each n m b (i % 4096) below is (omega arith)

    by : (o : Option Draft) → entry_of_block live ino block ≡ o → byte_in g (disk_by v o ino block) i ≡ byte_in f (disk_by v o ino block) i
    by None entry = at ino block (disk_at (extents v ino) block) (used_below v ino used) refl
    by (Some d) entry =
        let there : In d live = (filter-In (λ (x : Draft). (x.ino == ino) && is_within x.file_block x.count block) live d (latest-In _ d entry)).0 in
        at d.staging (d.staging_block + (block - d.file_block)) (disk_at (extents v d.staging) (d.staging_block + (block - d.file_block))) (staging_below v d.staging (log.staging d there)) refl

  stands_same : (numbers : List ℕ) (s : State) → Stands v live f numbers s → Stands v live g numbers s
  stands_same numbers s stands = record {
    sane = stands.sane;
    names = stands.names;
    nodes = record {
      each = λ ino used. NodeStands-same v live f v live g ino (inode v ino).kind (node_at s.nodes (number numbers ino)) (file ino used) (stands.nodes.each ino used);
      all = stands.nodes.all;
    };
    log = stands.log;
  } where
    file : (ino : ℕ) → IsUsed v ino → SameFile v live f v live g ino
    file ino used = record { size = refl; bytes = λ i below. keeps ino (i / 4096) i used }

  jobs_same : (numbers : List ℕ) (s : State) (jobs : List Job) → JobsStand v live f numbers s jobs → JobsStand v live g numbers s jobs
  jobs_same numbers s [] out = tt
  jobs_same numbers s (j ∷ jobs) out = (
    record {
      draft = out.0.draft;
      fields = out.0.fields;
      alive = out.0.alive;
      order = out.0.order;
      size = out.0.size;
      rest = λ i below beside. keeps j.draft.ino (i / 4096) i (live_used v j.draft out.0.alive) ∙ out.0.rest i below beside;
      within = out.0.within;
      parts = out.0.parts;
      placed = out.0.placed;
      staging = out.0.staging;
      staged = out.0.staged;
      apart = out.0.apart;
      puts = out.0.puts;
      part = out.0.part;
    },
    out.1,
    jobs_same numbers s jobs out.2,
  )

-- WORDS OF ALL OTHER BLOCKS may be anything.
pub world_named : (v : Volume) (claims : List (ℕ × Draft)) (jobs : List Job) (f g : Words) (numbers : List ℕ) (s : State) (count : ℕ) → SameNamed v f g → IsWorld v claims jobs f numbers s count → IsWorld v claims jobs g numbers s count
world_named v claims jobs f g numbers s count same world = record {
  valid = record {
    stands = stands_same v (live_claims v claims) f g world.valid.stands.log same numbers s world.valid.stands;
    out = jobs_same v (live_claims v claims) f g world.valid.stands.log same numbers s jobs world.valid.out;
    fits = world.valid.fits;
    room = world.valid.room;
  };
  claims_stand = world.claims_stand;
  aged = world.aged;
  shape = world.shape;
  geometry = world.geometry;
}
