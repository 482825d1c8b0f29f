-- Of a file the World reads the bytes before its end alone.
use Rattle.std.specs.Prelude.{◌≡◌, ◌≢◌, ◌≤◌, ◌<◌, ℕ, ◌+◌, ◌*◌, ◌-◌, ◌/◌, ◌%◌, ◌==◌, ◌&&◌, List, [], ◌∷◌, length, Option, Some, None, refl}
use Rattle.std.proofs.Common.{arith, ap, ◌∙◌, sym, subst, inl, inr}
use Rattle.live_step_laws.specs.pm_model.Words.{byte_of, Words}
use Rattle.live_step_laws.specs.extent_model.Extents.{disk_at, is_within}
use Rattle.live_step_laws.specs.layout_model.declared.lines.Draft.{Draft}
use Rattle.live_step_laws.specs.layout_model.declared.lines.Kind.TheVariants.{File, Staging}
use Rattle.live_step_laws.specs.image_model.Content.{byte_in, disk_by, disk_of, entry_of_block, size_of}
use Rattle.live_step_laws.specs.image_model.Volume.{extents, inode, Volume}
use Rattle.live_step_laws.specs.posix_tables.Nodes.{node_at}
use Rattle.live_step_laws.specs.posix_spec.State.{State}
use Rattle.live_step_laws.specs.list_laws.Filters.{filter-In}
use Rattle.live_step_laws.specs.list_laws.Members.{In}
use Rattle.live_step_laws.specs.world_model.Jobs.{Job, JobsStand, live_claims}
use Rattle.live_step_laws.specs.world_model.Stands.{IsUsed, LogStands, number, Stands}
use Rattle.live_step_laws.specs.world_model.JobLaws.{live_used}
use Rattle.live_step_laws.specs.world_model.Landed.{NodeStands-same, SameFile}
use Rattle.live_step_laws.specs.world_model.Latest.{latest-In}
use Rattle.live_step_laws.specs.world_model.TreeRules.{used_below}
use Rattle.live_step_laws.specs.world_write_laws.PlaceSteps.{staging_below}
use Rattle.live_step_laws.specs.world_step_laws.Worlds.{IsWorld}

-- the bytes of the blocks that maps have, but those of one file from a place on
pub record SameBefore (v : Volume) (ino from : ℕ) (f g : Words) : Type 0 where
  pub each : (x block b i : ℕ) → x < length v.inodes → disk_at (extents v x) block ≡ Some b → i < 4096 → (x ≡ ino → 4096 * block + i < from) → byte_of g (4096 * b + i) ≡ byte_of f (4096 * b + i)

module _ (v : Volume) (live : List Draft) (f g : Words) (log : LogStands v live) (ino from : ℕ) (file : (inode v ino).kind ≡ File) (ends : size_of v live ino ≤ from) (same : SameBefore v ino from f g) where
  keeps : (x block i : ℕ) → IsUsed v x → i / 4096 ≡ block → (x ≡ ino → i < from) → byte_in g (disk_of v live x block) i ≡ byte_in f (disk_of v live x block) i
  keeps x block i used place early = by (entry_of_block live x block) refl where
    at : (n m : ℕ) (o : Option ℕ) → n < length v.inodes → (n ≡ ino → 4096 * m + i % 4096 < from) → disk_at (extents v n) m ≡ o → byte_in g o i ≡ byte_in f o i
    at n m None below first is = refl
    at n m (Some b) below first is = same.each n m b (i % 4096) below is (omega arith) first

    by : (o : Option Draft) → entry_of_block live x block ≡ o → byte_in g (disk_by v o x block) i ≡ byte_in f (disk_by v o x block) i
    by None entry = at x block (disk_at (extents v x) block) (used_below v x used) (λ own. (let before = early own in omega (arith, before, place))) refl
    by (Some d) entry =
        let there : In d live = (filter-In (λ (y : Draft). (y.ino == x) && is_within y.file_block y.count block) live d (latest-In _ d entry)).0 in
        at d.staging (d.staging_block + (block - d.file_block)) (disk_at (extents v d.staging) (d.staging_block + (block - d.file_block))) (staging_below v d.staging (log.staging d there))
        (λ own. (let never : Staging ≡ File = sym (log.staging d there) ∙ ap (λ m. (inode v m).kind) own ∙ file in cc)) refl

  stands_same : (numbers : List ℕ) (s : State) → Stands v live f numbers s → Stands v live g numbers s
  stands_same numbers s stands = record {
    sane = stands.sane;
    names = stands.names;
    nodes = record {
      each = λ x used. NodeStands-same v live f v live g x (inode v x).kind (node_at s.nodes (number numbers x)) (file_same x used) (stands.nodes.each x used);
      all = stands.nodes.all;
    };
    log = stands.log;
  } where
    early : (x i : ℕ) → i < size_of v live x → x ≡ ino → i < from
    early x i below own = let low : i < size_of v live ino = subst (λ m. i < size_of v live m) own below in omega (arith, low, ends)

    file_same : (x : ℕ) → IsUsed v x → SameFile v live f v live g x
    file_same x used = record { size = refl; bytes = λ i below. keeps x (i / 4096) i used refl (early x i below) }

  jobs_same : (numbers : List ℕ) (s : State) (jobs : List Job) → ((j : Job) → In j jobs → j.draft.ino ≢ ino) → JobsStand v live f numbers s jobs → JobsStand v live g numbers s jobs
  jobs_same numbers s [] others out = tt
  jobs_same numbers s (j ∷ jobs) others out = (
    record {
      draft = out.0.draft;
      fields = out.0.fields;
      alive = out.0.alive;
      order = out.0.order;
      size = out.0.size;
      rest = λ i below beside. keeps j.draft.ino (i / 4096) i (live_used v j.draft out.0.alive) refl (λ own. absurd (others j (inl refl) own)) ∙ out.0.rest i below beside;
      within = out.0.within;
      parts = out.0.parts;
      placed = out.0.placed;
      staging = out.0.staging;
      staged = out.0.staged;
      apart = out.0.apart;
      puts = out.0.puts;
      part = out.0.part;
    },
    out.1,
    jobs_same numbers s jobs (λ i is. others i (inr is)) out.2,
  )

pub world_before : (v : Volume) (claims : List (ℕ × Draft)) (jobs : List Job) (f g : Words) (numbers : List ℕ) (s : State) (count ino from : ℕ) → (inode v ino).kind ≡ File → size_of v (live_claims v claims) ino ≤ from
    → ((j : Job) → In j jobs → j.draft.ino ≢ ino) → SameBefore v ino from f g → IsWorld v claims jobs f numbers s count → IsWorld v claims jobs g numbers s count
world_before v claims jobs f g numbers s count ino from file ends others same world = record {
  valid = record {
    stands = stands_same v (live_claims v claims) f g world.valid.stands.log ino from file ends same numbers s world.valid.stands;
    out = jobs_same v (live_claims v claims) f g world.valid.stands.log ino from file ends same numbers s jobs others world.valid.out;
    fits = world.valid.fits;
    room = world.valid.room;
  };
  claims_stand = world.claims_stand;
  aged = world.aged;
  shape = world.shape;
  geometry = world.geometry;
}
