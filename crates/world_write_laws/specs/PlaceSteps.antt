-- Bytes are written in place, in the blocks of a file that no job has; where no job is out, in any block that no other file has.
use Rattle.std.specs.Prelude.{◌≡◌, ◌≢◌, ◌⊎◌, ◌<◌, ◌≤◌, ◌+◌, ◌-◌, ◌/◌, ◌%◌, ◌==◌, ◌&&◌, ℕ, true, false, List, [], ◌∷◌, length, Option, Some, None, slice_set, refl}
use Rattle.std.proofs.Common.{arith, ap, ◌∙◌, sym, subst, inl, inr}
use Rattle.std.proofs.lemmas.Bool.{and_parts, cases_eq, cases_lt, eq-eqb}
use Rattle.std.proofs.lemmas.Bool.Decides.{Decides-eqb}
use Rattle.std.proofs.lemmas.List.{get_or_past, get_or-set_other, get_or-set_same, length-set}
use Rattle.world_step_laws.specs.world_model.pm_model.Words.{Words}
use Rattle.world_step_laws.specs.world_model.extent_model.Extents.{disk_at, is_within}
use Rattle.world_step_laws.specs.world_model.layout_model.declared.lines.Draft.{Draft}
use Rattle.world_step_laws.specs.world_model.layout_model.declared.lines.Kind.{Kind}
use Rattle.world_step_laws.specs.world_model.layout_model.declared.lines.Kind.TheVariants.{Free, File, Staging}
use Rattle.world_step_laws.specs.world_model.image_model.Content.{byte_in, disk_by, disk_of, entry_of_block}
use Rattle.world_step_laws.specs.world_model.image_model.Volume.{extents, free_inode, inode, Volume}
use Rattle.world_step_laws.specs.world_model.volume_laws.OwnerLaws.{IsOnePlace, one_owner}
use Rattle.world_step_laws.specs.world_model.posix_tables.declared.nodes.Node.{Node}
use Rattle.world_step_laws.specs.world_model.posix_tables.Nodes.{bytes_of, node_at}
use Rattle.world_step_laws.specs.world_model.posix_spec.State.{State}
use Rattle.world_step_laws.specs.world_model.list_laws.Filters.{filter-In}
use Rattle.world_step_laws.specs.world_model.list_laws.Members.{In}
use Rattle.world_step_laws.specs.world_model.crash_spec.Sync.{IsPartOf}
use Rattle.world_step_laws.specs.commute_laws.Needs.{AreInFlight}
use Rattle.world_step_laws.specs.world_model.Jobs.{Job, JobsStand, live_claims}
use Rattle.world_step_laws.specs.world_model.Stands.{FileStands, is_used, IsSane, IsUsed, LogStands, NodeStands, number, Stands}
use Rattle.world_step_laws.specs.world_model.JobLaws.{live_used}
use Rattle.world_step_laws.specs.world_model.Landed.{NamesStand-same, NodeStands-same, within_bounds}
use Rattle.world_step_laws.specs.world_model.Latest.{latest-In}
use Rattle.world_step_laws.specs.world_model.Lent.{disk_of-in_data, once_named}
use Rattle.world_step_laws.specs.world_model.TreeRules.{used_below}
use Rattle.world_step_laws.specs.Steps.{AreBeside, flights_of, HaveSameFiles}
use Rattle.world_step_laws.specs.Touched.{only}
use Rattle.world_step_laws.specs.Counts.{HasShape}
use Rattle.world_write_laws.specs.BesideLaws.{KeepsInPlaceBeside, PlaceIsBeside}
use Rattle.world_write_laws.specs.JobsLaws.{KeepsInPlace}
use Rattle.world_write_laws.specs.Places.{WritesBeside, WritesInPlace}

-- ---- two files share no block

pub staging_below : (v : Volume) (ino : ℕ) → (inode v ino).kind ≡ Staging → ino < length v.inodes
staging_below v ino kind = elim (cases_lt ino (length v.inodes)) [
  | inl below ↦ below
  | inr past ↦ let never : Staging ≡ Free = sym kind ∙ ap (λ x. x.kind) (get_or_past v.inodes ino free_inode past) in cc
]

pub used_staging : (kind : Kind) → is_used kind ≡ true → kind ≡ Staging → ⊥
used_staging kind used is = let never : true ≡ false = sym used ∙ ap is_used is in cc

pub record Covers (live : List Draft) (ino block : ℕ) (d : Draft) : Type 0 where
  pub is : In d live
  pub own : d.ino ≡ ino
  pub within : is_within d.file_block d.count block ≡ true

pub covering : (live : List Draft) (ino block : ℕ) (d : Draft) → entry_of_block live ino block ≡ Some d → Covers live ino block d
covering live ino block d entry =
    let its = filter-In (λ (x : Draft). (x.ino == ino) && is_within x.file_block x.count block) live d (latest-In _ d entry) in
    let both = and_parts (d.ino == ino) (is_within d.file_block d.count block) its.1 in
    record { is = its.0; own = (Decides-eqb d.ino ino).0 both.0; within = both.1 }

pub disk_of-apart : (v : Volume) (live : List Draft) → IsSane v → LogStands v live → (i j x y b : ℕ) → IsUsed v i → IsUsed v j → i ≢ j → disk_of v live i x ≡ Some b → disk_of v live j y ≡ Some b → ⊥
disk_of-apart v live sane log i j x y b i_used j_used other first second = by (entry_of_block live i x) (entry_of_block live j y) refl refl first second where
  mapped : (ino p k q : ℕ) → IsUsed v ino → disk_at (extents v ino) p ≡ Some b → (inode v k).kind ≡ Staging → disk_at (extents v k) q ≡ Some b → ⊥
  mapped ino p k q used at staging staged =
      let low = staging_below v k staging in
      let one : IsOnePlace ino k p q = one_owner v b ino k p q (once_named v sane k q b low staged) (used_below v ino used) low at staged in
      used_staging (inode v ino).kind used (ap (λ n. (inode v n).kind) one.inode ∙ staging)

  by : (o q : Option Draft) → entry_of_block live i x ≡ o → entry_of_block live j y ≡ q → disk_by v o i x ≡ Some b → disk_by v q j y ≡ Some b → ⊥
  by None None one two a c =
      let place : IsOnePlace i j x y = one_owner v b i j x y (once_named v sane i x b (used_below v i i_used) a) (used_below v i i_used) (used_below v j j_used) a c in
      other place.inode
  by None (Some e) one two a c = mapped i x e.staging (e.staging_block + (y - e.file_block)) i_used a (log.staging e (covering live j y e two).is) c
  by (Some d) None one two a c = mapped j y d.staging (d.staging_block + (x - d.file_block)) j_used c (log.staging d (covering live i x d one).is) a
  by (Some d) (Some e) one two a c =
      let mine = covering live i x d one in
      let its = covering live j y e two in
      let d_low = staging_below v d.staging (log.staging d mine.is) in
      let e_low = staging_below v e.staging (log.staging e its.is) in
      let place : IsOnePlace d.staging e.staging (d.staging_block + (x - d.file_block)) (e.staging_block + (y - e.file_block)) =
      one_owner v b d.staging e.staging (d.staging_block + (x - d.file_block)) (e.staging_block + (y - e.file_block)) (once_named v sane d.staging (d.staging_block + (x - d.file_block)) b d_low a) d_low e_low a c
      in
      let d_in = within_bounds d.file_block d.count x mine.within in
      let e_in = within_bounds e.file_block e.count y its.within in
      elim (log.apart d e mine.is its.is) [
        | inl same ↦ other (sym mine.own ∙ (ap (λ (z : Draft). z.ino) same ∙ its.own))
        | inr apart ↦ elim (apart place.inode) [
          | inl before ↦ omega (arith, place.place, before, d_in.0, d_in.1, e_in.0, e_in.1)
          | inr behind ↦ omega (arith, place.place, behind, d_in.0, d_in.1, e_in.0, e_in.1)
        ]
      ]

-- ---- bytes in place

other_bytes : (v : Volume) (live : List Draft) (f g : Words) (ino : ℕ) (bytes : List ℕ) → IsSane v → LogStands v live → WritesInPlace v live f g ino bytes → (i x k : ℕ) → IsUsed v i → i ≢ ino → byte_in g (disk_of v live i x) k ≡ byte_in f (disk_of v live i x) k
other_bytes v live f g ino bytes sane log writes i x k used other = by (disk_of v live i x) refl where
  rest_small : (n : ℕ) → n % 4096 < 4096
  rest_small n = omega arith

  by : (o : Option ℕ) → disk_of v live i x ≡ o → byte_in g o k ≡ byte_in f o k
  by None is = refl
  by (Some b) is =
      writes.others b (k % 4096) (disk_of-in_data v live sane log i x b used is) (rest_small k) (λ y at. disk_of-apart v live sane log i ino x y b used (ap is_used writes.file) other is at)

jobs_in_place : (v : Volume) (live : List Draft) (f g : Words) (numbers : List ℕ) (s new : State) (ino : ℕ) (bytes : List ℕ) → IsSane v → LogStands v live → WritesInPlace v live f g ino bytes → (jobs : List Job) → AreBeside (only ino) jobs
    → JobsStand v live f numbers s jobs → AreInFlight new (flights_of numbers jobs) → HaveSameFiles s new numbers jobs → JobsStand v live g numbers new jobs
jobs_in_place v live f g numbers s new ino bytes sane log writes [] off out on files = tt
jobs_in_place v live f g numbers s new ino bytes sane log writes (j ∷ jobs) off out on files =
    let job = out.0 in
    let other : j.draft.ino ≢ ino = λ same. (let never : true ≡ false = sym (eq-eqb j.draft.ino ino same) ∙ off.0 in cc) in (
      record {
        draft = job.draft;
        fields = job.fields;
        alive = job.alive;
        order = job.order;
        size = job.size;
        rest = λ i below past. other_bytes v live f g ino bytes sane log writes j.draft.ino (i / 4096) i (live_used v j.draft job.alive) other ∙ job.rest i below past;
        within = job.within;
        parts = job.parts;
        placed = job.placed;
        staging = job.staging;
        staged = job.staged;
        apart = job.apart;
        puts = on.0.puts;
        part = subst (λ xs. IsPartOf xs j.whole j.found) (ap bytes_of (sym files.0)) job.part;
      },
      out.1,
      jobs_in_place v live f g numbers s new ino bytes sane log writes jobs off.1 out.2 on.1 files.1,
    )

-- THE VOLUME STANDS for the next state: the file has its bytes, and those of all other files are the same.
pub stands_written : (v : Volume) (live : List Draft) (f g : Words) (numbers : List ℕ) (s new : State) (ino : ℕ) (bytes : List ℕ) (published : ℕ) → Stands v live f numbers s → (inode v ino).kind ≡ File → FileStands v live g ino bytes
    → ((i x k : ℕ) → IsUsed v i → i ≢ ino → byte_in g (disk_of v live i x) k ≡ byte_in f (disk_of v live i x) k) → new.entries ≡ s.entries
    → new.nodes ≡ slice_set s.nodes (number numbers ino) (Node.File (record { bytes = bytes; published = published })) → Stands v live g numbers new
stands_written v live f g numbers s new ino bytes published stands file own same entries nodes = record {
  sane = stands.sane;
  names = NamesStand-same v numbers s new entries (ap length nodes ∙ length-set s.nodes (number numbers ino) node) stands.names;
  nodes = record { each = λ i used. each i used (cases_eq i ino); all = λ n there. all n there (cases_eq n (number numbers ino)) };
  log = stands.log;
} where
  node : Node
  node = Node.File (record { bytes = bytes; published = published })

  used_own : IsUsed v ino
  used_own = ap is_used file

  other_node : (n : ℕ) → n ≢ number numbers ino → node_at new.nodes n ≡ node_at s.nodes n
  other_node n other = ap (λ xs. node_at xs n) nodes ∙ get_or-set_other s.nodes (number numbers ino) n node Node.Gone other

  own_node : node_at new.nodes (number numbers ino) ≡ node
  own_node = ap (λ xs. node_at xs (number numbers ino)) nodes ∙ get_or-set_same s.nodes (number numbers ino) node Node.Gone (stands.names.within ino used_own)

  own_stands : NodeStands v live g ino (inode v ino).kind (node_at new.nodes (number numbers ino))
  own_stands =
      subst (λ k. NodeStands v live g ino k (node_at new.nodes (number numbers ino))) (sym file) (subst (NodeStands v live g ino File) (sym own_node) own)

  each : (i : ℕ) → IsUsed v i → (i ≡ ino) ⊎ (i ≢ ino) → NodeStands v live g i (inode v i).kind (node_at new.nodes (number numbers i))
  each i used (inl own_is) = subst (λ k. NodeStands v live g k (inode v k).kind (node_at new.nodes (number numbers k))) (sym own_is) own_stands
  each i used (inr other) =
      subst (NodeStands v live g i (inode v i).kind) (sym (other_node (number numbers i) (λ one. other (stands.names.one i ino used used_own one))))
      (NodeStands-same v live f v live g i (inode v i).kind (node_at s.nodes (number numbers i)) (record { size = refl; bytes = λ k below. same i (k / 4096) k used other }) (stands.nodes.each i used))

  all : (n : ℕ) → node_at new.nodes n ≢ Node.Gone → (n ≡ number numbers ino) ⊎ (n ≢ number numbers ino) → (i : ℕ) × IsUsed v i × (number numbers i ≡ n)
  all n there (inl own_is) = (ino, used_own, sym own_is)
  all n there (inr other) = stands.nodes.all n (λ gone. there (other_node n other ∙ gone))

-- the state has the shape of the volume still
pub same_shape : (v : Volume) (s new : State) → new.shape ≡ s.shape → HasShape v s → HasShape v new
same_shape v s new shape has = record {
  root = subst (λ x. 1 ≤ x.nodes) (sym shape) has.root;
  nodes = ap (λ x. x.nodes + 4) shape ∙ has.nodes;
  names = ap (λ x. x.names) shape ∙ has.names;
}

pub in_place : KeepsInPlace
in_place v claims jobs f g numbers s new count ino bytes published world writes off on entries shape nodes = record {
  valid = record {
    stands = stands_written v live f g numbers s new ino bytes published stands writes.file (record { size = writes.size; each = writes.each }) (other_bytes v live f g ino bytes stands.sane stands.log writes) entries nodes;
    out = jobs_in_place v live f g numbers s new ino bytes stands.sane stands.log writes jobs off world.valid.out on.flying_on on.files;
    fits = on.fits;
    room = on.room;
  };
  claims_stand = world.claims_stand;
  aged = world.aged;
  shape = same_shape v s new shape world.shape;
  geometry = world.geometry;
} where
  live : List Draft
  live = live_claims v claims

  stands : Stands v live f numbers s
  stands = world.valid.stands

-- ---- where no job is out, it is enough that blocks of other files are left alone

beside_bytes : (v : Volume) (live : List Draft) (f g : Words) (ino : ℕ) (bytes : List ℕ) → WritesBeside v live f g ino bytes → (i x k : ℕ) → IsUsed v i → i ≢ ino → byte_in g (disk_of v live i x) k ≡ byte_in f (disk_of v live i x) k
beside_bytes v live f g ino bytes writes i x k used other = by (disk_of v live i x) refl where
  rest_small : (n : ℕ) → n % 4096 < 4096
  rest_small n = omega arith

  by : (o : Option ℕ) → disk_of v live i x ≡ o → byte_in g o k ≡ byte_in f o k
  by None is = refl
  by (Some b) is = writes.others i x b (k % 4096) used other is (rest_small k)

pub in_place_beside : KeepsInPlaceBeside
in_place_beside v claims f g numbers s new count ino bytes published world writes fits entries shape nodes = record {
  valid = record {
    stands = stands_written v live f g numbers s new ino bytes published world.valid.stands writes.file (record { size = writes.size; each = writes.each }) (beside_bytes v live f g ino bytes writes) entries nodes;
    out = tt;
    fits = fits;
    room = omega arith;
  };
  claims_stand = world.claims_stand;
  aged = world.aged;
  shape = same_shape v s new shape world.shape;
  geometry = world.geometry;
} where
  live : List Draft
  live = live_claims v claims

pub place_is_beside : PlaceIsBeside
place_is_beside v live f g ino bytes sane log writes = record {
  file = writes.file;
  size = writes.size;
  each = writes.each;
  others = λ j block b i used other at small.
      writes.others b i (disk_of-in_data v live sane log j block b used at) small (λ y own. disk_of-apart v live sane log j ino block y b used (ap is_used writes.file) other at own);
}
