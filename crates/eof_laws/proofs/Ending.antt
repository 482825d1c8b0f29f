-- That nothing lies past the end of a file stays so.
use Rattle.std.specs.Prelude.{◌≡◌, ◌≢◌, ◌⊎◌, ◌≤◌, ◌<◌, ◌+◌, ℕ, nat_lt, Bool, true, false, List, [], ◌∷◌, length, Option, Some, None, slice_index, slice_set, refl, if◌then◌else◌}
use Rattle.std.proofs.Common.{arith, ap, ◌∙◌, sym, subst, inl, inr}
use Rattle.std.proofs.lemmas.Bool.{cases_eq, cases_lt}
use Rattle.std.proofs.lemmas.Bool.Decides.{nat_tests}
use Rattle.std.proofs.lemmas.List.{get_or-set_other, get_or-set_same, get_or_past}
use Rattle.file_table.specs.block_counts.Counts.{blocks_for}
use Rattle.file_table.specs.pm_model.ImageLaws.{IsImage-words_of}
use Rattle.file_table.specs.pm_model.Images.{words_of}
use Rattle.file_table.specs.layout_model.declared.lines.Inode.{Inode}
use Rattle.file_table.specs.layout_model.declared.lines.Kind.TheVariants.{File, Free}
use Rattle.log_checkpoint.specs.k_plans.image_model.Live.{is_directory}
use Rattle.log_checkpoint.specs.k_plans.image_model.Volume.{extents, free_inode, inode, Volume}
use Rattle.file_table.specs.extent_model.declared.extent_words.Extent.{Extent}
use Rattle.file_table.specs.extent_model.Extents.{disk_at}
use Rattle.file_table.specs.file_overlay.declared.runs.Run.{Run}
use Rattle.file_table.specs.Files.{ChangesFile, Files, runs_in, size_in}
use Rattle.log_checkpoint.specs.k_plans.image_model.Reading.{inode_set}
use Rattle.log_checkpoint.specs.k_plans.Making.{kind_of}
use Rattle.log_checkpoint.specs.k_plans.Renaming.{renamed_over}
use Rattle.log_checkpoint.proofs.k_plans_proofs.Wholes.{free-bare}
use Rattle.log_checkpoint.specs.k_plans.k_split_model.ChangesChanges.{dropped, gone_node, new_node, renamed_over_directory, renamed_over_file}
use Rattle.log_checkpoint.specs.k_plans.k_split_model.Spaces.{is_directory_in}
use Rattle.log_checkpoint.specs.k_plans.k_tables.declared.tables.removing.Entry.{Entry}
use Rattle.log_checkpoint.specs.list_laws.Members.{In}
use Rattle.log_checkpoint.specs.k_plans.k_split_model.MapChangesChanges.{with_size}
use Rattle.log_checkpoint.specs.k_plans.k_split_model.Taken.{with_map}
use Rattle.log_checkpoint.specs.k_plans.volume_change_laws.CallLaws.{row_to}
use Rattle.log_checkpoint.specs.k_plans.volume_change_laws.FoundLaws.{free-found}
use Rattle.log_checkpoint.specs.k_plans.volume_laws.Changes.{extents-set_other, extents-set_same, inode-set_other, inode-set_same}
use Rattle.eof_laws.specs.Ends.{FilesEnd}
use Rattle.eof_laws.specs.FilesLaws.{EndDropped, EndMade, EndRemoved, EndRenamed, EndSized, EndUnlinked, FreeHasNoMap}

-- ---- free inodes

no_extents : (es : List Extent) → length es ≡ 0 → es ≡ []
no_extents [] is = refl
no_extents (e ∷ es) is = absurd (omega (arith, is))

pub free_has_no_map : FreeHasNoMap
free_has_no_map v d stands whole ino free = elim (cases_lt ino v.geometry.inodes) [
  | inl below ↦
      let reads = stands.reads (words_of d) (IsImage-words_of d) in
      no_extents (extents v ino) ((reads.chains ino below).map.counted ∙ (free-bare v ino whole free).extents)
  | inr past ↦
      let reads = stands.reads (words_of d) (IsImage-words_of d) in
      get_or_past v.maps ino [] (omega (arith, past, reads.map_count))
]

-- ---- maps that stay

-- Each file then was one before, with the same map.
pub record SameFiles (v w : Volume) : Type 0 where
  pub kind : (ino : ℕ) → (inode w ino).kind ≡ File → (inode v ino).kind ≡ File
  pub map : (ino : ℕ) → extents w ino ≡ extents v ino

pub ends_same : (v w : Volume) (files : Files) → SameFiles v w → FilesEnd v files → FilesEnd w files
ends_same v w files same ends = record {
  maps = λ ino block file behind. ap (λ es. disk_at es block) (same.map ino) ∙ ends.maps ino block (same.kind ino file) behind;
  runs = ends.runs;
}

pub same_same : (v : Volume) → SameFiles v v
same_same v = record { kind = λ ino file. file; map = λ ino. refl }

-- an inode that goes is no file then
gone_below : (v : Volume) (c : ℕ) → is_directory_in v.inodes c ≡ true → c < length v.inodes
gone_below v c is = elim (cases_lt c (length v.inodes)) [
  | inl below ↦ below
  | inr past ↦ let never : true ≡ false = sym is ∙ ap (λ (x : Inode). is_directory x.kind) (get_or_past v.inodes c free_inode past) in cc
]

gone_same : (v : Volume) (c : ℕ) → c < length v.inodes → SameFiles v (record v { inodes = slice_set v.inodes c (gone_node (inode v c)) })
gone_same v c below = record {
  kind = λ ino file. elim (cases_eq ino c) [
    | inl own ↦
        let free : (inode (record v { inodes = slice_set v.inodes c (gone_node (inode v c)) }) ino).kind ≡ Free =
        ap (λ i. (inode (record v { inodes = slice_set v.inodes c (gone_node (inode v c)) }) i).kind) own
        ∙ ap (λ (x : Inode). x.kind) (get_or-set_same v.inodes c (gone_node (inode v c)) free_inode below)
        in
        let never : Free ≡ File = sym free ∙ file in cc
    | inr other ↦ ap (λ (x : Inode). x.kind) (sym (get_or-set_other v.inodes c ino (gone_node (inode v c)) free_inode other)) ∙ file
  ];
  map = λ ino. refl;
}

-- ---- names and nodes

pub end_unlinked : EndUnlinked
end_unlinked path v w ino files is ends =
    subst (λ x. FilesEnd x files) (sym is.is_unlinked) (record { maps = ends.maps; runs = ends.runs })

pub end_removed : EndRemoved
end_removed path v w files is ends =
    let there = ends_same v (record v { inodes = slice_set v.inodes is.entry.child (gone_node (inode v is.entry.child)) }) files (gone_same v is.entry.child (gone_below v is.entry.child is.is_directory.is_directory)) ends in
    subst (λ x. FilesEnd x files) (sym is.is_removed) (record { maps = there.maps; runs = there.runs })

pub end_renamed : EndRenamed
end_renamed p q v w lost files is ends = subst (λ x. FilesEnd x files) (sym is.is_renamed) (by is.moving.target) where
  by_kind : (target : Entry) (b : Bool) → is_directory_in v.inodes target.child ≡ b → FilesEnd (renamed_over is.moving.entry.line (row_to q is.moving.parent is.moving.entry.child) (Some target) v) files
  by_kind target true directory =
      let there = ends_same v (record v { inodes = slice_set v.inodes target.child (gone_node (inode v target.child)) }) files (gone_same v target.child (gone_below v target.child directory)) ends in
      subst (λ b. FilesEnd (if b then renamed_over_directory is.moving.entry.line (row_to q is.moving.parent is.moving.entry.child) target.line target.child v else renamed_over_file is.moving.entry.line (row_to q is.moving.parent is.moving.entry.child) target.line v) files) (sym directory)
      (record { maps = there.maps; runs = there.runs })
  by_kind target false other =
      subst (λ b. FilesEnd (if b then renamed_over_directory is.moving.entry.line (row_to q is.moving.parent is.moving.entry.child) target.line target.child v else renamed_over_file is.moving.entry.line (row_to q is.moving.parent is.moving.entry.child) target.line v) files) (sym other)
      (record { maps = ends.maps; runs = ends.runs })

  by : (target : Option Entry) → FilesEnd (renamed_over is.moving.entry.line (row_to q is.moving.parent is.moving.entry.child) target v) files
  by None = record { maps = ends.maps; runs = ends.runs }
  by (Some target) = by_kind target (is_directory_in v.inodes target.child) refl

-- with an inode of any line in the place of one that has no map
with_line : (v : Volume) (c : ℕ) (line : Inode) (files : Files) → extents v c ≡ [] → FilesEnd v files → FilesEnd (record v { inodes = slice_set v.inodes c line }) files
with_line v c line files bare ends = record { maps = λ i block file behind. by i block file behind (cases_eq i c); runs = ends.runs } where
  by : (i block : ℕ) → (inode (record v { inodes = slice_set v.inodes c line }) i).kind ≡ File → blocks_for (size_in files i) ≤ block → (i ≡ c) ⊎ (i ≢ c) → disk_at (extents v i) block ≡ None
  by i block file behind (inl own) = ap (λ es. disk_at es block) (ap (extents v) own ∙ bare)
  by i block file behind (inr other) = ends.maps i block (ap (λ (x : Inode). x.kind) (sym (get_or-set_other v.inodes c i line free_inode other)) ∙ file) behind

pub end_made : EndMade
end_made directory path v w ino files free is ends =
    let was = free-found v.inodes is.place.ino is.is_place.room.ino in
    let there = with_line v is.place.ino (new_node (kind_of directory) (inode v is.place.ino)) files (free is.place.ino was.free) ends in
    subst (λ x. FilesEnd x files) (sym is.is_made) (record { maps = there.maps; runs = there.runs })

-- ---- one file with another size

module _ (ino size : ℕ) (old new : Files) (changes : ChangesFile ino [] size old new) where
  size_other : (i : ℕ) → i ≢ ino → size_in new i ≡ size_in old i
  size_other i other = ap (λ (xs : List ℕ). slice_index xs i) changes.sizes ∙ get_or-set_other old.sizes ino i size 0 other

  size_own : ino < length old.sizes → size_in new ino ≡ size
  size_own line = ap (λ (xs : List ℕ). slice_index xs ino) changes.sizes ∙ get_or-set_same old.sizes ino size 0 line

  none_in : (i : ℕ) (run : Run) → i ≡ ino → In run (runs_in new i) → ⊥
  none_in i run own there = subst (In run) (ap (runs_in new) own ∙ changes.runs_are) there

  runs_end : (v : Volume) → FilesEnd v old → (i : ℕ) (run : Run) → In run (runs_in new i) → run.file_block + run.count ≤ blocks_for (size_in new i)
  runs_end v ends i run there = elim (cases_eq i ino) [
    | inl own ↦ absurd (none_in i run own there)
    | inr other ↦
        let was = ends.runs i run (subst (In run) (changes.others i other) there) in
        subst (λ n. run.file_block + run.count ≤ blocks_for n) (sym (size_other i other)) was
  ]

  -- of a file whose map ends with its new size
  pub ends_with : (v w : Volume) → ((i : ℕ) → i ≢ ino → (inode w i).kind ≡ File → (inode v i).kind ≡ File) → ((i : ℕ) → i ≢ ino → extents w i ≡ extents v i)
      → ((block : ℕ) → (inode w ino).kind ≡ File → blocks_for (size_in new ino) ≤ block → disk_at (extents w ino) block ≡ None) → FilesEnd v old → FilesEnd w new
  ends_with v w kinds maps own_map ends = record {
    maps = λ i block file behind. elim (cases_eq i ino) [
      | inl own ↦
          ap (λ n. disk_at (extents w n) block) own
          ∙ own_map block (subst (λ n. (inode w n).kind ≡ File) own file) (subst (λ n. blocks_for (size_in new n) ≤ block) own behind)
      | inr other ↦
          ap (λ es. disk_at es block) (maps i other)
          ∙ ends.maps i block (kinds i other file) (subst (λ n. blocks_for n ≤ block) (size_other i other) behind)
    ];
    runs = runs_end v ends;
  }

pub end_dropped : EndDropped
end_dropped ino v old new below changes ends =
    ends_with ino 0 old new changes v (dropped ino v)
    (λ i other file. ap (λ (x : Inode). x.kind) (sym (inode-set_other ino (gone_node (inode v ino)) [] [] v i other)) ∙ file)
    (λ i other. extents-set_other ino (gone_node (inode v ino)) [] [] v i other)
    (λ block file behind. (let never : Free ≡ File = sym (ap (λ (x : Inode). x.kind) (inode-set_same ino (gone_node (inode v ino)) [] [] v below)) ∙ file in cc))
    ends

not_before : (a b : ℕ) → b ≤ a → nat_lt a b ≡ false
not_before a b le = grind (arith, nat_tests, le)

pub end_sized : EndSized
end_sized free ino size v w old new below line whole is changes ends =
    subst (λ x. FilesEnd x new) (sym is.is_sized)
    (ends_with ino size old new changes v (inode_set ino (own_line is.blocks is.es) is.blocks is.es v)
    (λ i other file. ap (λ (x : Inode). x.kind) (sym (inode-set_other ino (own_line is.blocks is.es) is.blocks is.es v i other)) ∙ file)
    (λ i other. extents-set_other ino (own_line is.blocks is.es) is.blocks is.es v i other) (λ block file behind. past block behind) ends)
  where
    own_line : List ℕ → List Extent → Inode
    own_line blocks es = with_map blocks es (with_size size (inode v ino))

    past : (block : ℕ) → blocks_for (size_in new ino) ≤ block → disk_at (extents (inode_set ino (own_line is.blocks is.es) is.blocks is.es v) ino) block ≡ None
    past block behind =
        let end : blocks_for size ≤ block = subst (λ n. blocks_for n ≤ block) (size_own ino size old new changes line) behind in
        ap (λ es. disk_at es block) (extents-set_same ino (own_line is.blocks is.es) is.blocks is.es v (omega (arith, below, whole.maps.map_count)))
        ∙ is.cut.blocks block ∙ ap (λ b. if b then disk_at (extents v ino) block else None) (not_before block (blocks_for size) end)
