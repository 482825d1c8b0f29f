-- An entry that lands: the volume with one more live entry stands for the state with the bytes that its blocks hold.
use Rattle.std.specs.Prelude.{◌≡◌, ◌≢◌, ◌⊎◌, ◌<◌, ◌≤◌, ℕ, ◌+◌, ◌-◌, ◌*◌, ◌/◌, ◌%◌, ◌==◌, ◌&&◌, Bool, true, false, List, [], ◌∷◌, ◌++◌, length, filter, Option, Some, None, IsSome, slice_index, refl}
use Rattle.std.proofs.Common.{arith, ap, ◌∙◌, sym, subst, inl, inr}
use Rattle.std.proofs.lemmas.Bool.{and_from, and_left, and_right, cases_Bool, cases_eq, ne_eqb}
use Rattle.std.proofs.lemmas.Bool.Decides.{Decides-eqb, nat_tests}
use Rattle.std.proofs.lemmas.List.{get_or-set_other, get_or-set_same, length-set}
use Rattle.name_laws.specs.pm_model.Words.{Words}
use Rattle.name_laws.specs.extent_model.Extents.{is_within}
use Rattle.name_laws.specs.layout_model.declared.lines.Draft.{Draft}
use Rattle.name_laws.specs.layout_model.declared.lines.Kind.{Kind}
use Rattle.name_laws.specs.layout_model.declared.lines.Kind.TheVariants.{Free, Directory, File, Staging}
use Rattle.name_laws.specs.image_model.Content.{byte_in, disk_by, disk_of, size_by, size_of}
use Rattle.name_laws.specs.image_model.Live.{is_file, latest}
use Rattle.name_laws.specs.image_model.Rules.{AreApart, HasStagingBlocks}
use Rattle.name_laws.specs.image_model.Volume.{inode, Volume}
use Rattle.crash_spec.specs.posix_laws.posix_tables.declared.nodes.Node.{Node}
use Rattle.crash_spec.specs.posix_laws.posix_tables.Lookups.{AreDistinct}
use Rattle.crash_spec.specs.posix_laws.posix_tables.Names.{child_of}
use Rattle.crash_spec.specs.posix_laws.posix_tables.Nodes.{node_at}
use Rattle.crash_spec.specs.posix_laws.posix_spec.State.{State}
use Rattle.crash_spec.specs.list_laws.Filters.{filter-In, filter-more, filter-same, In-filter}
use Rattle.crash_spec.specs.list_laws.Members.{In, pushed-In}
use Rattle.crash_spec.specs.posix_laws.Puts.{LeavesWhole, with_whole}
use Rattle.world_model.specs.Jobs.{HoldsWhole, staged_block}
use Rattle.world_model.specs.Stands.{Consecutive, entries_of, FileStands, is_used, IsUsed, LogStands, NamesStand, NodeStands, number, Stands}
use Rattle.world_model.specs.Latest.{AreBelow, AreBelow-Consecutive, Consecutive-append, latest-append_last}

-- Files that stay.

-- the file has the same size and the same bytes
pub record SameFile (v : Volume) (live : List Draft) (f : Words) (w : Volume) (others : List Draft) (g : Words) (ino : ℕ) : Type 0 where
  pub size : size_of w others ino ≡ size_of v live ino
  pub bytes : (i : ℕ) → i < size_of v live ino → byte_in g (disk_of w others ino (i / 4096)) i ≡ byte_in f (disk_of v live ino (i / 4096)) i

pub FileStands-same : (v : Volume) (live : List Draft) (f : Words) (w : Volume) (others : List Draft) (g : Words) (ino : ℕ) (bytes : List ℕ)
    → SameFile v live f w others g ino → FileStands v live f ino bytes → FileStands w others g ino bytes
FileStands-same v live f w others g ino bytes same stands = record {
  size = same.size ∙ stands.size;
  each = λ i below. same.bytes i (subst (λ n. i < n) (sym stands.size) below) ∙ stands.each i below;
}

pub NodeStands-same : (v : Volume) (live : List Draft) (f : Words) (w : Volume) (others : List Draft) (g : Words) (ino : ℕ) (kind : Kind) (node : Node)
    → SameFile v live f w others g ino → NodeStands v live f ino kind node → NodeStands w others g ino kind node
NodeStands-same v live f w others g ino Free node same stands = absurd stands
NodeStands-same v live f w others g ino Staging node same stands = absurd stands
NodeStands-same v live f w others g ino Directory Node.Gone same stands = absurd stands
NodeStands-same v live f w others g ino Directory Node.Directory same stands = tt
NodeStands-same v live f w others g ino Directory (Node.File file) same stands = absurd stands
NodeStands-same v live f w others g ino File Node.Gone same stands = absurd stands
NodeStands-same v live f w others g ino File Node.Directory same stands = absurd stands
NodeStands-same v live f w others g ino File (Node.File file) same stands = FileStands-same v live f w others g ino file.bytes same stands

-- Files of other inodes, where an entry lands.

-- the test by which the entries of a file block are taken
abbrev covers_block : ℕ → ℕ → Draft → Bool
covers_block ino block d = (d.ino == ino) && is_within d.file_block d.count block

pub entries-other : (live : List Draft) (d : Draft) (ino : ℕ) → d.ino ≢ ino → entries_of ino (live ++ d ∷ []) ≡ entries_of ino live
entries-other live d ino other = filter-same (λ (e : Draft). e.ino == ino) live d (ne_eqb d.ino ino other)

pub size-other : (v : Volume) (live : List Draft) (d : Draft) (ino : ℕ) → d.ino ≢ ino → size_of v (live ++ d ∷ []) ino ≡ size_of v live ino
size-other v live d ino other = ap (λ es. size_by (latest es) (inode v ino).size) (entries-other live d ino other)

pub disk-other : (v : Volume) (live : List Draft) (d : Draft) (ino block : ℕ) → d.ino ≢ ino → disk_of v (live ++ d ∷ []) ino block ≡ disk_of v live ino block
disk-other v live d ino block other =
    ap (λ es. disk_by v (latest es) ino block)
    (filter-same (covers_block ino block) live d (and_left (d.ino == ino) (is_within d.file_block d.count block) (ne_eqb d.ino ino other)))

pub SameFile-other : (v : Volume) (live : List Draft) (f : Words) (d : Draft) (ino : ℕ) → d.ino ≢ ino → SameFile v live f v (live ++ d ∷ []) f ino
SameFile-other v live f d ino other = record {
  size = size-other v live d ino other;
  bytes = λ i below. ap (λ b. byte_in f b i) (disk-other v live d ino (i / 4096) other);
}

-- The file itself.

pub entries-own : (live : List Draft) (d : Draft) → entries_of d.ino (live ++ d ∷ []) ≡ entries_of d.ino live ++ d ∷ []
entries-own live d = filter-more (λ (e : Draft). e.ino == d.ino) live d ((Decides-eqb d.ino d.ino).1 refl)

pub size-landed : (v : Volume) (live : List Draft) (d : Draft) → AreBelow d.order (entries_of d.ino live) → size_of v (live ++ d ∷ []) d.ino ≡ d.size
size-landed v live d below =
    ap (λ es. size_by (latest es) (inode v d.ino).size) (entries-own live d)
    ∙ ap (λ o. size_by o (inode v d.ino).size) (latest-append_last (entries_of d.ino live) d below)

pub disk-landed : (v : Volume) (live : List Draft) (d : Draft) (block : ℕ) → AreBelow d.order (entries_of d.ino live) → is_within d.file_block d.count block ≡ true
    → disk_of v (live ++ d ∷ []) d.ino block ≡ staged_block v d (block - d.file_block)
disk-landed v live d block below within =
    ap (λ es. disk_by v (latest es) d.ino block)
    (filter-more (covers_block d.ino block) live d (and_from (d.ino == d.ino) (is_within d.file_block d.count block) ((Decides-eqb d.ino d.ino).1 refl) within))
    ∙ ap (λ o. disk_by v o d.ino block) (latest-append_last (filter (covers_block d.ino block) live) d below_block) where
      own : (a b : Bool) → (a && b) ≡ true → a ≡ true
      own true b both = refl
      own false b both = cc

      below_block : AreBelow d.order (filter (covers_block d.ino block) live)
      below_block e is =
          let its = filter-In (covers_block d.ino block) live e is in
          below e (In-filter (λ (x : Draft). x.ino == d.ino) live e its.0 (own (e.ino == d.ino) (is_within e.file_block e.count block) its.1))

pub disk-beside : (v : Volume) (live : List Draft) (d : Draft) (block : ℕ) → is_within d.file_block d.count block ≡ false → disk_of v (live ++ d ∷ []) d.ino block ≡ disk_of v live d.ino block
disk-beside v live d block beside =
    ap (λ es. disk_by v (latest es) d.ino block) (filter-same (covers_block d.ino block) live d (and_right (d.ino == d.ino) (is_within d.file_block d.count block) beside))

pub within_bounds : (first count block : ℕ) → is_within first count block ≡ true → (first ≤ block) × (block < first + count)
within_bounds first count block within = (grind (arith, nat_tests, within), grind (arith, nat_tests, within))

some_block : (o : Option ℕ) → IsSome o → (b : ℕ) × (o ≡ Some b)
some_block None is = cc
some_block (Some b) is = (b, refl)

-- A byte of a file block from the first of an entry's blocks on.
byte_place : (first i : ℕ) → first ≤ i / 4096 → 4096 * (first + (i / 4096 - first)) + i % 4096 ≡ i
byte_place first i low = omega (arith, low)

below_block : (i : ℕ) → i % 4096 < 4096
below_block i = omega arith

pub FileStands-landed : (v : Volume) (live : List Draft) (f : Words) (d : Draft) (whole : List ℕ) → AreBelow d.order (entries_of d.ino live) → d.size ≡ length whole
    → ((i : ℕ) → i < length whole → is_within d.file_block d.count (i / 4096) ≡ false → byte_in f (disk_of v live d.ino (i / 4096)) i ≡ slice_index whole i)
    → HoldsWhole v f d whole → HasStagingBlocks v d → FileStands v (live ++ d ∷ []) f d.ino whole
FileStands-landed v live f d whole below size rest holds staged = record { size = size-landed v live d below ∙ size; each = each } where
  inside : (i : ℕ) → is_within d.file_block d.count (i / 4096) ≡ true → byte_in f (disk_of v (live ++ d ∷ []) d.ino (i / 4096)) i ≡ slice_index whole i
  inside i within =
      let bounds = within_bounds d.file_block d.count (i / 4096) within in
      let k = i / 4096 - d.file_block in
      let k_below : k < d.count = omega (arith, bounds.0, bounds.1) in
      let block = some_block (staged_block v d k) (staged k k_below) in
      ap (λ o. byte_in f o i) (disk-landed v live d (i / 4096) below within ∙ block.1)
      ∙ (holds k block.0 (i % 4096) k_below block.1 (below_block i) ∙ ap (slice_index whole) (byte_place d.file_block i bounds.0))

  each : (i : ℕ) → i < length whole → byte_in f (disk_of v (live ++ d ∷ []) d.ino (i / 4096)) i ≡ slice_index whole i
  each i i_below = elim (cases_Bool (is_within d.file_block d.count (i / 4096))) [
    | inl within ↦ inside i within
    | inr beside ↦ ap (λ o. byte_in f o i) (disk-beside v live d (i / 4096) beside) ∙ rest i i_below beside
  ]

-- The state afterwards.

-- names stand for a state with the same entries and as many nodes
pub NamesStand-same : (v : Volume) (numbers : List ℕ) (s next : State) → next.entries ≡ s.entries → length next.nodes ≡ length s.nodes → NamesStand v numbers s → NamesStand v numbers next
NamesStand-same v numbers s next entries count names = record {
  root = names.root;
  root_used = names.root_used;
  within = λ ino used. subst (λ n. number numbers ino < n) (sym count) (names.within ino used);
  one = names.one;
  names = λ p name used. names.names p name used ∙ ap (λ es. child_of es (number numbers p) name) (sym entries);
  entry_parents = λ n name m leads. names.entry_parents n name m (ap (λ es. child_of es n name) (sym entries) ∙ leads);
  distinct = subst AreDistinct (sym entries) names.distinct;
}

pub kind_file : (kind : Kind) → is_file kind ≡ true → kind ≡ File
kind_file Free is = cc
kind_file Directory is = cc
kind_file File is = refl
kind_file Staging is = cc

-- What has to hold of an entry that lands: it is the next of a file, outside its blocks the file has the bytes already, and
-- its blocks are in a staging file, apart from those of live entries.
pub record CanLand (v : Volume) (live : List Draft) (f : Words) (d : Draft) (whole : List ℕ) : Type 0 where
  pub file : (inode v d.ino).kind ≡ File
  pub order : d.order ≡ (inode v d.ino).applied + length (entries_of d.ino live) + 1
  pub size : d.size ≡ length whole
  pub rest : (i : ℕ) → i < length whole → is_within d.file_block d.count (i / 4096) ≡ false → byte_in f (disk_of v live d.ino (i / 4096)) i ≡ slice_index whole i
  pub staging : (inode v d.staging).kind ≡ Staging
  pub staged : HasStagingBlocks v d
  pub apart : (e : Draft) → In e live → AreApart e d

pub turned : (d e : Draft) → AreApart d e → AreApart e d
turned d e apart same = elim (apart (sym same)) [ inl before ↦ inr before | inr behind ↦ inl behind ]

LogStands-landed : (v : Volume) (live : List Draft) (f : Words) (d : Draft) (whole : List ℕ) → LogStands v live → CanLand v live f d whole → LogStands v (live ++ d ∷ [])
LogStands-landed v live f d whole log can = record { staging = staging; staged = staged; apart = apart; orders = orders } where
  staging : (e : Draft) → In e (live ++ d ∷ []) → (inode v e.staging).kind ≡ Staging
  staging e is = elim (pushed-In live d e is) [ inl old ↦ log.staging e old | inr new ↦ subst (λ (x : Draft). (inode v x.staging).kind ≡ Staging) new can.staging ]

  staged : (e : Draft) → In e (live ++ d ∷ []) → HasStagingBlocks v e
  staged e is = elim (pushed-In live d e is) [ inl old ↦ log.staged e old | inr new ↦ subst (HasStagingBlocks v) new can.staged ]

  apart : (a b : Draft) → In a (live ++ d ∷ []) → In b (live ++ d ∷ []) → (a ≡ b) ⊎ AreApart a b
  apart a b a_is b_is = elim (pushed-In live d a a_is) [
    | inl a_old ↦ elim (pushed-In live d b b_is) [
      | inl b_old ↦ log.apart a b a_old b_old
      | inr b_new ↦ inr (subst (AreApart a) b_new (can.apart a a_old))
    ]
    | inr a_new ↦ elim (pushed-In live d b b_is) [
      | inl b_old ↦ inr (subst (λ x. AreApart x b) a_new (turned b d (can.apart b b_old)))
      | inr b_new ↦ inl (sym a_new ∙ b_new)
    ]
  ]

  orders : (ino : ℕ) → Consecutive (inode v ino).applied (entries_of ino (live ++ d ∷ []))
  orders ino = elim (cases_eq d.ino ino) [
    | inl same ↦
        subst (λ n. Consecutive (inode v n).applied (entries_of n (live ++ d ∷ []))) same
        (subst (Consecutive (inode v d.ino).applied) (sym (entries-own live d))
        (Consecutive-append (inode v d.ino).applied (entries_of d.ino live) d (log.orders d.ino) can.order))
    | inr other ↦ subst (Consecutive (inode v ino).applied) (sym (entries-other live d ino other)) (log.orders ino)
  ]

pub Stands-landed : (v : Volume) (live : List Draft) (f : Words) (numbers : List ℕ) (s next : State) (d : Draft) (whole : List ℕ)
    → Stands v live f numbers s → CanLand v live f d whole → HoldsWhole v f d whole → LeavesWhole s next (number numbers d.ino) whole → Stands v (live ++ d ∷ []) f numbers next
Stands-landed v live f numbers s next d whole stands can holds leaves = record {
  sane = stands.sane;
  names = NamesStand-same v numbers s next leaves.entries (ap length leaves.nodes ∙ length-set s.nodes node (with_whole s node whole)) stands.names;
  nodes = record { each = each; all = all };
  log = LogStands-landed v live f d whole stands.log can;
} where
  node : ℕ
  node = number numbers d.ino

  used : IsUsed v d.ino
  used = ap is_used can.file

  below : AreBelow d.order (entries_of d.ino live)
  below = AreBelow-Consecutive (inode v d.ino).applied d.order (entries_of d.ino live) (stands.log.orders d.ino) (omega (arith, can.order))

  here : node_at next.nodes node ≡ with_whole s node whole
  here = ap (λ nodes. node_at nodes node) leaves.nodes ∙ get_or-set_same s.nodes node (with_whole s node whole) Node.Gone (stands.names.within d.ino used)

  elsewhere : (n : ℕ) → n ≢ node → node_at next.nodes n ≡ node_at s.nodes n
  elsewhere n other = ap (λ nodes. node_at nodes n) leaves.nodes ∙ get_or-set_other s.nodes node n (with_whole s node whole) Node.Gone other

  own : NodeStands v (live ++ d ∷ []) f d.ino (inode v d.ino).kind (node_at next.nodes node)
  own =
      subst (λ k. NodeStands v (live ++ d ∷ []) f d.ino k (node_at next.nodes node)) (sym can.file)
      (subst (NodeStands v (live ++ d ∷ []) f d.ino File) (sym here) (FileStands-landed v live f d whole below can.size can.rest holds can.staged))

  each : (ino : ℕ) → IsUsed v ino → NodeStands v (live ++ d ∷ []) f ino (inode v ino).kind (node_at next.nodes (number numbers ino))
  each ino ino_used = elim (cases_eq d.ino ino) [
    | inl same ↦ subst (λ n. NodeStands v (live ++ d ∷ []) f n (inode v n).kind (node_at next.nodes (number numbers n))) same own
    | inr other ↦
        subst (NodeStands v (live ++ d ∷ []) f ino (inode v ino).kind) (sym (elsewhere (number numbers ino) (λ same. other (sym (stands.names.one ino d.ino ino_used used same)))))
        (NodeStands-same v live f v (live ++ d ∷ []) f ino (inode v ino).kind (node_at s.nodes (number numbers ino)) (SameFile-other v live f d ino other) (stands.nodes.each ino ino_used))
  ]

  all : (n : ℕ) → node_at next.nodes n ≢ Node.Gone → (ino : ℕ) × IsUsed v ino × (number numbers ino ≡ n)
  all n there = elim (cases_eq n node) [
    | inl same ↦ (d.ino, used, sym same)
    | inr other ↦ stands.nodes.all n (λ gone. there (elsewhere n other ∙ gone))
  ]
