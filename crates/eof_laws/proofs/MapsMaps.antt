-- Maps that end with their files.
use Rattle.std.specs.Prelude.{◌≡◌, ◌≢◌, ◌≤◌, ◌+◌, ◌-◌, not, ℕ, zero, suc, nat_lt, Bool, true, false, List, [], ◌∷◌, length, None, slice_set, slice_index_or, refl, if◌then◌else◌}
use Rattle.std.proofs.Common.{arith, ap, ◌∙◌, sym, subst, inl, inr}
use Rattle.std.proofs.lemmas.Bool.{cases_eq, cases_lt}
use Rattle.std.proofs.lemmas.Bool.Decides.{nat_tests}
use Rattle.std.proofs.lemmas.List.{get_or-set_other, get_or-set_same, get_or_past, length-set}
use Rattle.file_table.specs.block_counts.Counts.{blocks_for}
use Rattle.log_checkpoint.specs.k_plans.layout_model.declared.lines.Inode.{Inode}
use Rattle.log_checkpoint.specs.k_plans.layout_model.declared.lines.Kind.TheVariants.{File, Staging}
use Rattle.log_checkpoint.specs.k_plans.image_model.Volume.{extents, free_inode, inode, Volume}
use Rattle.file_table.specs.extent_model.declared.extent_words.Extent.{Extent}
use Rattle.file_table.specs.extent_model.Extents.{disk_at, is_within}
use Rattle.file_table.specs.extent_model.Maps.{IsPart}
use Rattle.file_table.specs.file_overlay.declared.runs.Run.{Run}
use Rattle.file_table.specs.Files.{Files, size_in}
use Rattle.log_checkpoint.specs.fsync_relink.Publishes.{AreRelinked, IsPublishDone, move_of, size_before}
use Rattle.log_checkpoint.specs.k_plans.k_split_model.View.{View}
use Rattle.log_checkpoint.specs.list_laws.Members.{In}
use Rattle.log_checkpoint.specs.k_plans.k_split_model.MapChangesChanges.{aged, given_up, IsMoved, IsPreallocated, IsSized, with_length, with_size}
use Rattle.log_checkpoint.specs.k_plans.k_split_model.declared.map_changes.moves.Move.{Move}
use Rattle.log_checkpoint.specs.k_plans.k_split_model.Taken.{switched, with_map}
use Rattle.log_checkpoint.specs.staging_files.GivesUp.{AreGivenUp}
use Rattle.log_checkpoint.specs.staging_files.k_split.MapChanges.{is_free_in}

-- no block of the map of a file lies past the size that is kept
abbrev pub MapsEnd : Volume → Files → Type 0
MapsEnd v files = (ino block : ℕ) → (inode v ino).kind ≡ File → blocks_for (size_in files ino) ≤ block → disk_at (extents v ino) block ≡ None

-- ---- one inode goes over to another map

kind_set : (xs : List Inode) (i j : ℕ) (y : Inode) → y.kind ≡ (slice_index_or xs i free_inode).kind → (slice_index_or (slice_set xs i y) j free_inode).kind ≡ (slice_index_or xs j free_inode).kind
kind_set xs i j y same = elim (cases_eq j i) [
  | inr other ↦ ap (λ (x : Inode). x.kind) (get_or-set_other xs i j y free_inode other)
  | inl own ↦ elim (cases_lt i (length xs)) [
    | inl below ↦
        ap (λ n. (slice_index_or (slice_set xs i y) n free_inode).kind) own ∙ (ap (λ (x : Inode). x.kind) (get_or-set_same xs i y free_inode below)
        ∙ same ∙ ap (λ n. (slice_index_or xs n free_inode).kind) (sym own))
    | inr past ↦
        ap (λ (x : Inode). x.kind) (get_or_past (slice_set xs i y) j free_inode (omega (arith, past, own, length-set xs i y)))
        ∙ sym (ap (λ (x : Inode). x.kind) (get_or_past xs j free_inode (omega (arith, past, own))))
  ]
]

map_set : (maps : List (List Extent)) (i j block : ℕ) (es : List Extent) → (j ≡ i → disk_at es block ≡ None) → (j ≢ i → disk_at (slice_index_or maps j []) block ≡ None) → disk_at (slice_index_or (slice_set maps i es) j []) block ≡ None
map_set maps i j block es own_none other_none = elim (cases_eq j i) [
  | inr other ↦ ap (λ xs. disk_at xs block) (get_or-set_other maps i j es [] other) ∙ other_none other
  | inl own ↦ elim (cases_lt i (length maps)) [
    | inl below ↦ ap (λ n. disk_at (slice_index_or (slice_set maps i es) n []) block) own ∙ (ap (λ xs. disk_at xs block) (get_or-set_same maps i es [] below) ∙ own_none own)
    | inr past ↦ ap (λ xs. disk_at xs block) (get_or_past (slice_set maps i es) j [] (omega (arith, past, own, length-set maps i es)))
  ]
]

-- Where the line keeps its kind and the map has no block past the end, unless it is of no file.
switched_ends : (v : Volume) (files : Files) (i : ℕ) (x : Inode) (blocks : List ℕ) (es : List Extent) → x.kind ≡ (inode v i).kind
    → ((block : ℕ) → (inode v i).kind ≡ File → blocks_for (size_in files i) ≤ block → disk_at es block ≡ None) → MapsEnd v files → MapsEnd (switched i x blocks es v) files
switched_ends v files i x blocks es same own ends j block file behind =
    let was : (inode v j).kind ≡ File = sym (kind_set v.inodes i j (with_map blocks es x) same) ∙ file in
    map_set v.maps i j block es (λ at. own block (subst (λ n. (inode v n).kind ≡ File) at was) (subst (λ n. blocks_for (size_in files n) ≤ block) at behind)) (λ other. ends j block was behind)

-- ---- another size

not_before : (a b : ℕ) → b ≤ a → nat_lt a b ≡ false
not_before a b le = grind (arith, nat_tests, le)

sized_ends : (free : ℕ → Bool) (v w : Volume) (files : Files) (ino : ℕ) → IsSized free ino (size_in files ino) v w → MapsEnd v files → MapsEnd w files
sized_ends free v w files ino is ends =
    subst (λ x. MapsEnd x files) (sym is.is_sized)
    (switched_ends v files ino (with_size (size_in files ino) (inode v ino)) is.blocks is.es refl
    (λ block file behind. is.cut.blocks block ∙ ap (λ b. if b then disk_at (extents v ino) block else None) (not_before block (blocks_for (size_in files ino)) behind)) ends)

-- ---- a relink

not_within : (first count b : ℕ) → first + count ≤ b → is_within first count b ≡ false
not_within first count b le = grind (arith, nat_tests, le)

part_none : (chosen : ℕ → Bool) (whole part : List Extent) (b : ℕ) → IsPart chosen whole part → disk_at whole b ≡ None → disk_at part b ≡ None
part_none chosen whole part b is none = is.blocks b ∙ by (chosen b) where
  by : (c : Bool) → (if c then disk_at whole b else None) ≡ None
  by true = none
  by false = refl

moved_ends : (free : ℕ → Bool) (m : Move) (v w : Volume) (displaced : List Extent) (files : Files) → m.file_block + m.count ≤ blocks_for (size_in files m.ino) → IsMoved free m v w displaced → MapsEnd v files → MapsEnd w files
moved_ends free m v w displaced files within is ends = subst (λ x. MapsEnd x files) (sym is.is_moved) linked where
  left : MapsEnd (switched m.staging (inode v m.staging) is.rest is.left v) files
  left =
      switched_ends v files m.staging (inode v m.staging) is.rest is.left refl
      (λ block file behind. part_none (λ b. not (is_within m.staging_block m.count b)) (extents v m.staging) is.left block is.moves.source (ends m.staging block file behind)) ends

  linked : MapsEnd (switched m.ino (with_length m.size m.applied (inode v m.ino)) is.blocks is.linked (switched m.staging (inode v m.staging) is.rest is.left v)) files
  linked =
      switched_ends (switched m.staging (inode v m.staging) is.rest is.left v) files m.ino (with_length m.size m.applied (inode v m.ino)) is.blocks is.linked (sym (kind_set v.inodes m.staging m.ino (with_map is.rest is.left (inode v m.staging)) refl))
      (λ block file behind. (let was : (inode v m.ino).kind ≡ File = sym (kind_set v.inodes m.staging m.ino (with_map is.rest is.left (inode v m.staging)) refl) ∙ file in
      is.moves.target block
      ∙ (ap (λ b. if b then disk_at (extents v m.staging) (m.staging_block + (block - m.file_block)) else disk_at (extents v m.ino) block) (not_within m.file_block m.count block (omega (arith, within, behind)))
      ∙ ends m.ino block was behind))) left

-- ---- a publishing

relinked_ends : (ino size : ℕ) (runs : List Run) (k l : View) (files : Files) → ((run : Run) → In run runs → run.file_block + run.count ≤ blocks_for (size_in files ino)) → AreRelinked ino size runs k l → MapsEnd k.volume files → MapsEnd l.volume files
relinked_ends ino size [] k l files within same ends = subst (λ z. MapsEnd z.volume files) (sym same) ends
relinked_ends ino size (run ∷ runs) k l files within (middle, answer, rest) ends =
    relinked_ends ino size runs middle l files (λ other there. within other (inr there)) rest
    (moved_ends (is_free_in k) (move_of ino (size_before runs size (inode k.volume ino).size) run) k.volume middle.volume answer.1.displaced files (within run (inl refl)) answer.1.moved ends)

pub published_ends : (ino : ℕ) (runs : List Run) (k l : View) (files : Files) → ((run : Run) → In run runs → run.file_block + run.count ≤ blocks_for (size_in files ino)) → IsPublishDone ino (size_in files ino) runs k l
    → MapsEnd k.volume files → MapsEnd l.volume files
published_ends ino [] k l files within (inl same) ends = subst (λ z. MapsEnd z.volume files) (sym same.1) ends
published_ends ino [] k l files within (inr resized) ends = sized_ends (is_free_in k) k.volume l.volume files ino resized.1.1.sized ends
published_ends ino (run ∷ runs) k l files within done ends = relinked_ends ino (size_in files ino) (run ∷ runs) k l files within done.1 ends

-- ---- staging files

given_ends : (v : Volume) (files : Files) (x : ℕ) → MapsEnd v files → MapsEnd (given_up x v) files
given_ends v files x ends = switched_ends v files x (inode v x) [] [] refl (λ block file behind. refl) ends

pub given_up_ends : (n : ℕ) (k l : View) (files : Files) → AreGivenUp n k l → MapsEnd k.volume files → MapsEnd l.volume files
given_up_ends zero k l files same ends = subst (λ z. MapsEnd z.volume files) (sym same) ends
given_up_ends (suc n) k l files (middle, before, answer) ends =
    subst (λ v. MapsEnd v files) (sym answer.1.given) (given_ends middle.volume files (suc n) (given_up_ends n k middle files before ends))

pub preallocated_ends : (free : ℕ → Bool) (x count : ℕ) (v w : Volume) (files : Files) → (inode v x).kind ≡ Staging → IsPreallocated free x count v w → MapsEnd v files → MapsEnd w files
preallocated_ends free x count v w files staging is ends =
    subst (λ y. MapsEnd y files) (sym is.is_preallocated)
    (switched_ends v files x (aged (inode v x)) is.blocks is.es refl (λ block file behind. (let never : Staging ≡ File = sym staging ∙ file in cc)) ends)
