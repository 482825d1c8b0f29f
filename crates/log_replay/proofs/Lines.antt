-- Volumes in which each inode keeps its line but for its map: the same entries are live, and with the same blocks before the ends
-- of files the same is found at each path.
use Rattle.std.proofs.Common.{◌≡◌, ◌<◌, ◌≤◌, ◌*◌, ◌/◌, ◌&&◌, ◌==◌, ℕ, Bool, true, false, cond, List, [], length, refl, sym, ◌∙◌, ap, subst, arith, inl, inr}
use Rattle.std.specs.Prelude.{filter, if◌then◌else◌, map, nat_lt, None, Option, option_and_then, Some, sum_by}
use Rattle.std.specs.List.{range_with_len}
use Rattle.std.proofs.Math.Path.{fun_ext}
use Rattle.std.proofs.lemmas.Bool.{cases_eq, cases_lt}
use Rattle.std.proofs.lemmas.List.{get_or_past, length-set}
use Rattle.block_counts.specs.Counts.{held_by}
use Rattle.k_check.specs.pm_model.Words.{Words}
use Rattle.layout_model.specs.declared.lines.Draft.{Draft}
use Rattle.layout_model.specs.declared.lines.Inode.{Inode}
use Rattle.layout_model.specs.declared.lines.Kind.{Kind}
use Rattle.layout_model.specs.declared.lines.Kind.TheVariants.{Directory, File, Free, Staging}
use Rattle.layout_model.specs.Names.{names_of, walk}
use Rattle.k_check.specs.image_model.Content.{byte_in, bytes_of_file, found, Node, node_by, node_of}
use Rattle.k_check.specs.image_model.Live.{is_file, is_of_file, live_entries}
use Rattle.k_check.specs.image_model.Reading.{inode_set}
use Rattle.k_check.specs.image_model.Room.{held_after_recovery, is_named_file}
use Rattle.k_check.specs.image_model.Rules.{file_blocks_of, IsKindAt}
use Rattle.k_check.specs.image_model.Volume.{extents, free_inode, inode, Volume}
use Rattle.k_check.specs.extent_model.declared.extent_words.Extent.{Extent}
use Rattle.k_check.specs.extent_model.Extents.{disk_at}
use Rattle.k_split.specs.k_plans.View.{node_at}
use Rattle.k_split.specs.k_plans.Whole.{IsWhole}
use Rattle.staging_files.specs.k_split_model.Spaces.{is_free}
use Rattle.log_replay.proofs.Passed.{valid-beside}
use Rattle.k_check.specs.volume_laws.Changes.{inode-set_other, inode-set_same}
use Rattle.k_check.specs.volume_laws.Lists.{map-agree}
use Rattle.staging_files.specs.volume_laws.PoolLaws.{AreInData}

-- Each inode keeps of its line the kind, the generation and the size; the names, the numbers and the log base are the same.
pub record KeepsLines (v w : Volume) : Type 0 where
  pub geometry : w.geometry ≡ v.geometry
  pub base : w.base ≡ v.base
  pub names : w.names ≡ v.names
  pub count : length w.inodes ≡ length v.inodes
  pub kind : (ino : ℕ) → (inode w ino).kind ≡ (inode v ino).kind
  pub generation : (ino : ℕ) → (inode w ino).generation ≡ (inode v ino).generation
  pub size : (ino : ℕ) → (inode w ino).size ≡ (inode v ino).size

-- each file has before its end the disk blocks that it had
abbrev pub KeepsBytes : Volume → Volume → Type 0
KeepsBytes v w = (ino block : ℕ) → (inode v ino).kind ≡ File → 4096 * block < (inode v ino).size → disk_at (extents w ino) block ≡ disk_at (extents v ino) block

-- ---- files

-- inodes below 5 are no files
pub low-file : (ino : ℕ) (kind : Kind) → IsKindAt ino kind → kind ≡ File → 5 ≤ ino
low-file ino kind at is = subst (IsKindAt ino) is at

-- a file has a line
pub used-below : (v : Volume) (ino : ℕ) → (inode v ino).kind ≡ File → ino < length v.inodes
used-below v ino file = elim (cases_lt ino (length v.inodes)) [
  | inl below ↦ below
  | inr past ↦ let never : File ≡ Free = sym file ∙ ap (λ (x : Inode). x.kind) (get_or_past v.inodes ino free_inode past) in cc
]

-- chains and files are in data blocks
pub in-data : (v : Volume) → IsWhole v → AreInData v (λ ino. file_blocks_of (inode v ino).kind)
in-data v whole = record {
  chains = λ ino below. whole.chains ino;
  files = λ ino below. whole.kept.kept.in_data ino (omega (arith, below, whole.kept.all.inode_count));
}

-- ---- one inode has another line

-- a part of the line that is as it was, is so in each inode
number-set : {X : Type 0} (number : Inode → X) (ino : ℕ) (y : Inode) (blocks : List ℕ) (es : List Extent) (v : Volume) → ino < length v.inodes
    → number y ≡ number (inode v ino) → (i : ℕ) → number (inode (inode_set ino y blocks es v) i) ≡ number (inode v i)
number-set number ino y blocks es v below same i = elim (cases_eq i ino) [
  | inl own ↦
      ap (λ k. number (inode (inode_set ino y blocks es v) k)) own
      ∙ (ap number (inode-set_same ino y blocks es v below) ∙ (same ∙ ap (λ k. number (inode v k)) (sym own)))
  | inr other ↦ ap number (inode-set_other ino y blocks es v i other)
]

module _ (ino : ℕ) (y : Inode) (blocks : List ℕ) (es : List Extent) (v : Volume) (below : ino < length v.inodes) where
  pub applied-set : y.applied ≡ (inode v ino).applied → (i : ℕ) → (inode (inode_set ino y blocks es v) i).applied ≡ (inode v i).applied
  applied-set same = number-set (λ (x : Inode). x.applied) ino y blocks es v below same

  pub lines-set : y.kind ≡ (inode v ino).kind → y.generation ≡ (inode v ino).generation → y.size ≡ (inode v ino).size
      → KeepsLines v (inode_set ino y blocks es v)
  lines-set kind generation size = record {
    geometry = refl;
    base = refl;
    names = refl;
    count = length-set v.inodes ino y;
    kind = number-set (λ (x : Inode). x.kind) ino y blocks es v below kind;
    generation = number-set (λ (x : Inode). x.generation) ino y blocks es v below generation;
    size = number-set (λ (x : Inode). x.size) ino y blocks es v below size;
  }

module _ (v w : Volume) (lines : KeepsLines v w) where
  -- ---- entries

  pub of_file-kept : (d : Draft) → is_of_file w d ≡ is_of_file v d
  of_file-kept d = λ i. is_file (lines.kind d.ino i) && (lines.generation d.ino i == d.generation)

  pub live-kept : (f : Words) → ((ino : ℕ) → (inode w ino).applied ≡ (inode v ino).applied) → live_entries w f ≡ live_entries v f
  live-kept f applied =
      λ i. filter (λ (d : Draft). (is_file (lines.kind d.ino i) && (lines.generation d.ino i == d.generation)) && nat_lt (applied d.ino i) d.order
      && (lines.generation d.staging i == d.staging_generation)) (valid-beside v w f lines.geometry lines.base i)

  -- ---- what files hold

  pub held-kept : held_after_recovery w [] ≡ held_after_recovery v []
  held-kept = λ i. sum_by (λ ino. fun_ext held_at i ino) (range_with_len 0 (lines.count i)) where
    held_at : (ino : ℕ) → cond (is_named_file w ino) (held_by (inode w ino).size) 0 ≡ cond (is_named_file v ino) (held_by (inode v ino).size) 0
    held_at ino = λ i. cond (is_file (lines.kind ino i) && nat_lt 0 (names_of (lines.names i) ino)) (held_by (lines.size ino i)) 0

  -- ---- what is found

  module _ (bytes : KeepsBytes v w) (f : Words) where
    bytes-kept : (ino : ℕ) → (inode v ino).kind ≡ File → bytes_of_file w [] f ino ≡ bytes_of_file v [] f ino
    bytes-kept ino file =
        ap (λ n. map (λ i. byte_in f (disk_at (extents w ino) (i / 4096)) i) (range_with_len 0 n)) (lines.size ino)
        ∙ map-agree (λ i. byte_in f (disk_at (extents w ino) (i / 4096)) i) (λ i. byte_in f (disk_at (extents v ino) (i / 4096)) i) 0 (inode v ino).size
        (λ i low below. ap (λ o. byte_in f o i) (bytes ino (i / 4096) file (omega (arith, below))))

    node-kept : (ino : ℕ) → node_of w [] f ino ≡ node_of v [] f ino
    unfolding node_of
    node-kept ino = ap (λ kind. node_by kind (bytes_of_file w [] f ino)) (lines.kind ino) ∙ by (inode v ino).kind refl where
      by : (kind : Kind) → (inode v ino).kind ≡ kind → node_by kind (bytes_of_file w [] f ino) ≡ node_by kind (bytes_of_file v [] f ino)
      by Free is = refl
      by Directory is = refl
      by File is = ap (node_by File) (bytes-kept ino is)
      by Staging is = refl

    pub found-kept : found w [] f ≡ found v [] f
    unfolding found
    found-kept =
        fun_ext (λ path. ap (λ names. option_and_then (node_of w [] f) (walk names 0 path)) lines.names
        ∙ ap (λ (node : ℕ → Option Node). option_and_then node (walk v.names 0 path)) (fun_ext node-kept))

-- ---- what K-Split shows of an inode

pub node-some : (v : Volume) (ino : ℕ) (x : Inode) → node_at v ino ≡ Some x → x ≡ inode v ino
node-some v ino x is = by (is_free (inode v ino).kind) refl where
  by : (b : Bool) → is_free (inode v ino).kind ≡ b → x ≡ inode v ino
  by true free = let never : None ≡ Some x = sym (ap (λ b. if b then None else Some (inode v ino)) free) ∙ is in cc
  by false used = let same : Some (inode v ino) ≡ Some x = sym (ap (λ b. if b then None else Some (inode v ino)) used) ∙ is in cc

pub node-none : (v : Volume) (ino : ℕ) → node_at v ino ≡ None → (inode v ino).kind ≡ Free
node-none v ino is = by (inode v ino).kind refl where
  by : (kind : Kind) → (inode v ino).kind ≡ kind → kind ≡ Free
  by Free same = refl
  by Directory same = let never : Some (inode v ino) ≡ None = sym (ap (λ k. if is_free k then None else Some (inode v ino)) same) ∙ is in cc
  by File same = let never : Some (inode v ino) ≡ None = sym (ap (λ k. if is_free k then None else Some (inode v ino)) same) ∙ is in cc
  by Staging same = let never : Some (inode v ino) ≡ None = sym (ap (λ k. if is_free k then None else Some (inode v ino)) same) ∙ is in cc
