-- Words of lent blocks change: no file that stands has such a block.
use Rattle.std.specs.Prelude.{◌≡◌, ◌<◌, ℕ, ◌+◌, ◌-◌, ◌/◌, ◌%◌, ◌==◌, ◌&&◌, Bool, true, false, List, [], ◌∷◌, length, filter, Option, Some, None, refl}
use Rattle.std.proofs.Common.{arith, ap, ◌∙◌, sym, subst, inl, inr}
use Rattle.std.proofs.lemmas.Bool.{and_parts, cases_lt}
use Rattle.std.proofs.lemmas.List.{get_or_past}
use Rattle.name_laws.specs.pm_model.Words.{Words}
use Rattle.name_laws.specs.layout_model.Places.{is_data_block}
use Rattle.name_laws.specs.extent_model.Extents.{disk_at, is_within}
use Rattle.name_laws.specs.extent_model.Covers.{covers-disk_at}
use Rattle.name_laws.specs.layout_model.declared.lines.Draft.{Draft}
use Rattle.name_laws.specs.layout_model.declared.lines.Kind.{Kind}
use Rattle.name_laws.specs.layout_model.declared.lines.Kind.TheVariants.{Free, Staging}
use Rattle.name_laws.specs.image_model.Content.{byte_in, disk_by, disk_of, entry_of_block}
use Rattle.name_laws.specs.image_model.Rules.{AreApart, file_blocks_of, IsNamedOnce}
use Rattle.name_laws.specs.image_model.Volume.{extents, free_inode, inode, Volume}
use Rattle.name_laws.specs.volume_laws.OwnerLaws.{IsOnePlace, one_owner}
use Rattle.name_laws.specs.volume_laws.PoolLaws.{covered-in_data}
use Rattle.crash_spec.specs.posix_laws.posix_tables.Nodes.{node_at}
use Rattle.crash_spec.specs.posix_laws.posix_spec.State.{State}
use Rattle.crash_spec.specs.list_laws.Filters.{filter-In}
use Rattle.crash_spec.specs.list_laws.Members.{In}
use Rattle.world_model.specs.Jobs.{IsStagedIn, Job, JobsStand, live_claims, Valid}
use Rattle.world_model.specs.Shown.{IsLent, SameButLent}
use Rattle.world_model.specs.Stands.{is_used, IsSane, IsUsed, LogStands, number, Stands}
use Rattle.world_model.specs.JobLaws.{live_used}
use Rattle.world_model.specs.Landed.{NodeStands-same, SameFile, within_bounds}
use Rattle.world_model.specs.Latest.{latest-In}
use Rattle.world_model.specs.TreeRules.{used_below}

-- Blocks of a sane volume.

staging_below : (v : Volume) (ino : ℕ) → (inode v ino).kind ≡ Staging → ino < length v.inodes
staging_below v ino kind = elim (cases_lt ino (length v.inodes)) [
  | inl below ↦ below
  | inr past ↦
      let never : Staging ≡ Free = sym kind ∙ ap (λ x. x.kind) (get_or_past v.inodes ino free_inode past) in
      cc
]

-- a block of a map is a data block, and named once
pub in_data : (v : Volume) → IsSane v → (ino block b : ℕ) → ino < length v.inodes → disk_at (extents v ino) block ≡ Some b → is_data_block v.geometry b ≡ true
in_data v sane ino block b below is =
    let within : ino < v.geometry.inodes = subst (λ n. ino < n) sane.inode_count below in
    covered-in_data v.geometry (file_blocks_of (inode v ino).kind) (extents v ino) b (sane.kept.in_data ino within) (covers-disk_at (extents v ino) block b is)

pub once_named : (v : Volume) → IsSane v → (ino block b : ℕ) → ino < length v.inodes → disk_at (extents v ino) block ≡ Some b → IsNamedOnce v b
once_named v sane ino block b below is = sane.kept.once b (in_data v sane ino block b below is)

-- The entry that has a file block: live, and the block is within it.
record Covers (v : Volume) (live : List Draft) (block : ℕ) (d : Draft) : Type 0 where
  is : In d live
  within : is_within d.file_block d.count block ≡ true

covering : (v : Volume) (live : List Draft) (ino block : ℕ) (d : Draft) → entry_of_block live ino block ≡ Some d → Covers v live block d
covering v live ino block d entry =
    let test : Draft → Bool = λ x. (x.ino == ino) && is_within x.file_block x.count block in
    let its = filter-In test live d (latest-In (filter test live) d entry) in
    record { is = its.0; within = (and_parts (d.ino == ino) (is_within d.file_block d.count block) its.1).1 }

used_staging : (kind : Kind) → is_used kind ≡ true → kind ≡ Staging → ⊥
used_staging kind used is = let never : true ≡ false = sym used ∙ ap is_used is in cc

-- Staged blocks that are apart from those of live entries are no blocks of files.
pub unused_staged : (v : Volume) (live : List Draft) (d : Draft) → IsSane v → LogStands v live → (inode v d.staging).kind ≡ Staging → ((e : Draft) → In e live → AreApart e d)
    → (ino block b : ℕ) → IsUsed v ino → disk_of v live ino block ≡ Some b → IsStagedIn v d b → ⊥
unused_staged v live d sane log staging apart ino block b used is (k, below, at) = by (entry_of_block live ino block) refl is where
  d_below : d.staging < length v.inodes
  d_below = staging_below v d.staging staging

  once : IsNamedOnce v b
  once = once_named v sane d.staging (d.staging_block + k) b d_below at

  by : (o : Option Draft) → entry_of_block live ino block ≡ o → disk_by v o ino block ≡ Some b → ⊥
  by None entry leads =
      let one : IsOnePlace ino d.staging block (d.staging_block + k) = one_owner v b ino d.staging block (d.staging_block + k) once (used_below v ino used) d_below leads at in
      used_staging (inode v ino).kind used (ap (λ n. (inode v n).kind) one.inode ∙ staging)
  by (Some e) entry leads =
      let covers = covering v live ino block e entry in
      let e_below = staging_below v e.staging (log.staging e covers.is) in
      let one : IsOnePlace e.staging d.staging (e.staging_block + (block - e.file_block)) (d.staging_block + k) =
      one_owner v b e.staging d.staging (e.staging_block + (block - e.file_block)) (d.staging_block + k) once e_below d_below leads at in
      let bounds = within_bounds e.file_block e.count block covers.within in
      elim (apart e covers.is one.inode) [
        | inl before ↦ omega (arith, one.place, before, below, bounds.0, bounds.1)
        | inr behind ↦ omega (arith, one.place, behind, below, bounds.0, bounds.1)
      ]

-- Blocks of files are data blocks.
pub disk_of-in_data : (v : Volume) (live : List Draft) → IsSane v → LogStands v live → (ino block b : ℕ) → IsUsed v ino → disk_of v live ino block ≡ Some b → is_data_block v.geometry b ≡ true
disk_of-in_data v live sane log ino block b used is = by (entry_of_block live ino block) refl is where
  by : (o : Option Draft) → entry_of_block live ino block ≡ o → disk_by v o ino block ≡ Some b → is_data_block v.geometry b ≡ true
  by None entry leads = in_data v sane ino block b (used_below v ino used) leads
  by (Some e) entry leads =
      in_data v sane e.staging (e.staging_block + (block - e.file_block)) b (staging_below v e.staging (log.staging e (covering v live ino block e entry).is)) leads

-- And no block of a file is lent.
pub not_lent : (v : Volume) (live : List Draft) (f : Words) (numbers : List ℕ) (s : State) (jobs : List Job) → IsSane v → LogStands v live → JobsStand v live f numbers s jobs
    → (ino block b : ℕ) → IsUsed v ino → disk_of v live ino block ≡ Some b → IsLent v jobs b → ⊥
not_lent v live f numbers s [] sane log out ino block b used is lent = lent
not_lent v live f numbers s (j ∷ jobs) sane log out ino block b used is (inl here) = unused_staged v live j.draft sane log out.0.staging out.0.apart ino block b used is here
not_lent v live f numbers s (j ∷ jobs) sane log out ino block b used is (inr behind) = not_lent v live f numbers s jobs sane log out.2 ino block b used is behind

-- Bytes of files stay where words of lent blocks change.
record KeepsBytes (v : Volume) (live : List Draft) (f g : Words) : Type 0 where
  each : (ino block i : ℕ) → IsUsed v ino → byte_in g (disk_of v live ino block) i ≡ byte_in f (disk_of v live ino block) i

below_block : (i : ℕ) → i % 4096 < 4096
below_block i = omega arith

keeps_bytes : (v : Volume) (live : List Draft) (f g : Words) (numbers : List ℕ) (s : State) (jobs : List Job) → IsSane v → LogStands v live → JobsStand v live f numbers s jobs → SameButLent v jobs f g → KeepsBytes v live f g
keeps_bytes v live f g numbers s jobs sane log out same = record { each = λ ino block i used. by ino block i used (disk_of v live ino block) refl } where
  by : (ino block i : ℕ) → IsUsed v ino → (o : Option ℕ) → disk_of v live ino block ≡ o → byte_in g o i ≡ byte_in f o i
  by ino block i used None is = refl
  by ino block i used (Some b) is = same b (i % 4096) (disk_of-in_data v live sane log ino block b used is) (below_block i) (λ lent. not_lent v live f numbers s jobs sane log out ino block b used is lent)

Stands-bytes : (v : Volume) (live : List Draft) (f g : Words) (numbers : List ℕ) (s : State) → KeepsBytes v live f g → Stands v live f numbers s → Stands v live g numbers s
Stands-bytes v live f g numbers s keeps stands = record {
  sane = stands.sane;
  names = stands.names;
  nodes = record {
    each = λ ino used. NodeStands-same v live f v live g ino (inode v ino).kind (node_at s.nodes (number numbers ino)) (same ino used) (stands.nodes.each ino used);
    all = stands.nodes.all;
  };
  log = stands.log;
} where
  same : (ino : ℕ) → IsUsed v ino → SameFile v live f v live g ino
  same ino used = record { size = refl; bytes = λ i below. keeps.each ino (i / 4096) i used }

JobsStand-bytes : (v : Volume) (live : List Draft) (f g : Words) (numbers : List ℕ) (s : State) (jobs : List Job) → KeepsBytes v live f g → JobsStand v live f numbers s jobs → JobsStand v live g numbers s jobs
JobsStand-bytes v live f g numbers s [] keeps out = tt
JobsStand-bytes v live f g numbers s (j ∷ jobs) keeps out = (
  record {
    draft = out.0.draft;
    fields = out.0.fields;
    alive = out.0.alive;
    order = out.0.order;
    size = out.0.size;
    rest = λ i below beside. keeps.each j.draft.ino (i / 4096) i (live_used v j.draft out.0.alive) ∙ out.0.rest i below beside;
    within = out.0.within;
    parts = out.0.parts;
    placed = out.0.placed;
    staging = out.0.staging;
    staged = out.0.staged;
    apart = out.0.apart;
    puts = out.0.puts;
    part = out.0.part;
  },
  out.1,
  JobsStand-bytes v live f g numbers s jobs keeps out.2,
)

-- Where words of lent blocks change, the world stays valid.
pub Valid-words : (v : Volume) (claims : List (ℕ × Draft)) (jobs : List Job) (f g : Words) (numbers : List ℕ) (s : State) → SameButLent v jobs f g → Valid v claims jobs f numbers s → Valid v claims jobs g numbers s
Valid-words v claims jobs f g numbers s same valid =
    let live = live_claims v claims in
    let keeps = keeps_bytes v live f g numbers s jobs valid.stands.sane valid.stands.log valid.out same in
    record { stands = Stands-bytes v live f g numbers s keeps valid.stands; out = JobsStand-bytes v live f g numbers s jobs keeps valid.out; fits = valid.fits; room = valid.room }
