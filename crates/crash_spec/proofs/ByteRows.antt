-- The worked rows of the two rules for bytes.
use Rattle.std.specs.Prelude.{◌≡◌, ℕ, zero, suc, ◌<◌, Bool, true, false, List, [], ◌∷◌, ◌++◌, length, map, take, drop, slice_index, refl}
use Rattle.std.specs.List.{list_any}
use Rattle.std.proofs.Common.{arith, lit<, ap, ◌∙◌, sym, subst, inl, inr}
use Rattle.posix_laws.specs.posix_types.declared.call.Call.{Call}
use Rattle.posix_laws.specs.posix_types.declared.call.Who.{Who}
use Rattle.posix_laws.specs.posix_types.declared.item.Item.{Item}
use Rattle.posix_laws.specs.posix_types.declared.reply.Reply.{Reply}
use Rattle.posix_laws.specs.posix_types.declared.tree.TreeEntry.{TreeEntry}
use Rattle.posix_laws.specs.posix_types.declared.tree.TreeNode.{TreeNode}
use Rattle.posix_laws.specs.posix_tables.declared.nodes.File.{File}
use Rattle.posix_laws.specs.posix_tables.declared.nodes.Node.{Node}
use Rattle.posix_laws.specs.posix_tables.Nodes.{node_at}
use Rattle.posix_laws.specs.posix_tables.Names.{height, node_at_path, walk, with_entry}
use Rattle.posix_laws.specs.posix_tables.NameRows.{open_rows}
use Rattle.posix_laws.specs.posix_tables.Open.{binding_of, key_of, opened, with_binding, with_descriptor, with_offset, with_opened}
use Rattle.posix_laws.specs.posix_tables.Places.{entry_place, path_to, places, tree_entry, tree_node, with_place}
use Rattle.posix_laws.specs.posix_spec.FileRows.{truncate_rows, write_rows}
use Rattle.posix_laws.specs.posix_spec.Put.{put_by}
use Rattle.posix_laws.specs.posix_spec.Run.{after_calls, begun, run}
use Rattle.posix_laws.specs.posix_spec.State.{made, State, with_file, with_published}
use Rattle.posix_laws.specs.posix_spec.Step.{fsync_done, open_done, opening, pwrite_done, truncate_done, write_done, written}
use Rattle.posix_laws.specs.posix_spec.Tree.{tree}
use Rattle.crash_spec.specs.ByteRows.{ByteRows, cut_and_written, file_of, fresh, later, one_later, synced}
use Rattle.crash_spec.specs.Posix.{acting, ByteRule, FileLeft, IsLeft, KeepsFront, LastBeforeCut, LaterRule, NodeLeft, OrUnfinished, others, Overwritten, StrongPosix, syncs, TreeLeft}
use Rattle.crash_spec.specs.ScheduleRows.{handle, item}
use Rattle.crash_spec.specs.Values.{is_shortened, value_before_cut, values_put}

-- ---- a tree that the state after the `fsync` leaves

abbrev abcd : List ℕ
abcd = 97 ∷ 98 ∷ 99 ∷ 100 ∷ []

abbrev abxd : List ℕ
abxd = 97 ∷ 98 ∷ 120 ∷ 100 ∷ []

-- the state with other bytes in its file
abbrev with_four : List ℕ → State
with_four bytes = record (run fresh synced) { nodes = Node.Directory ∷ Node.File (record { bytes = bytes; published = 4 }) ∷ [] }

left_by : (rule : ByteRule) (bytes : List ℕ) → length bytes ≡ 4 → ((i : ℕ) → i < 4 → rule 1 i (slice_index abcd i) (slice_index bytes i)) → IsLeft rule (run fresh synced) (with_four bytes)
unfolding with_entry walk node_at_path height open_rows binding_of key_of opened with_binding with_descriptor with_offset with_opened with_file with_published made write_rows open_done opening write_done written fsync_done
left_by rule bytes four by = record { entries = refl; count = refl; each = each } where
  each : (n : ℕ) → NodeLeft rule n (node_at (run fresh synced).nodes n) (node_at (with_four bytes).nodes n)
  each zero = refl
  each (suc zero) = record { size = four; each = λ i below. by i (omega (arith, below, four)) }
  each (suc (suc n)) = refl

weak_bytes : (i : ℕ) → i < 4 → OrUnfinished (Overwritten (run fresh synced) (map begun later)) (run fresh cut_and_written) [] 1 i (slice_index abcd i) (slice_index abxd i)
unfolding is_shortened values_put with_entry walk node_at_path height open_rows binding_of key_of opened with_binding with_descriptor with_offset with_opened with_file with_published made write_rows truncate_rows put_by open_done opening write_done written fsync_done truncate_done pwrite_done
weak_bytes zero below = inl refl
weak_bytes (suc zero) below = inl refl
weak_bytes (suc (suc zero)) below = inl (inr (inl refl))
weak_bytes (suc (suc (suc zero))) below = inl (inl refl)
weak_bytes (suc (suc (suc (suc n)))) below = absurd (omega (arith, below))

strong_bytes : (i : ℕ) → i < 4 → OrUnfinished (LastBeforeCut (run fresh synced) (map begun later)) (run fresh cut_and_written) [] 1 i (slice_index abcd i) (slice_index abcd i)
unfolding value_before_cut values_put with_entry walk node_at_path height open_rows binding_of key_of opened with_binding with_descriptor with_offset with_opened with_file with_published made write_rows truncate_rows put_by open_done opening write_done written fsync_done truncate_done pwrite_done
strong_bytes zero below = inl refl
strong_bytes (suc zero) below = inl refl
strong_bytes (suc (suc zero)) below = inl refl
strong_bytes (suc (suc (suc zero))) below = inl refl
strong_bytes (suc (suc (suc (suc n)))) below = absurd (omega (arith, below))

-- its tree
tree_of_four : (bytes : List ℕ) → file_of bytes ≡ tree (with_four bytes)
unfolding places path_to entry_place with_place height with_entry walk node_at_path open_rows binding_of key_of opened with_binding with_descriptor with_offset with_opened with_file with_published made write_rows open_done opening write_done written fsync_done
tree_of_four bytes = refl

front : (rule : LaterRule) (bytes : List ℕ) → length bytes ≡ 4
    → ((i : ℕ) → i < 4 → OrUnfinished (rule (run fresh synced) (map begun later)) (run fresh cut_and_written) [] 1 i (slice_index abcd i) (slice_index bytes i))
    → KeepsFront rule fresh cut_and_written [] (file_of bytes)
front rule bytes four by = record {
  kept = synced;
  later = later;
  is = refl;
  fsyncs = refl;
  tree_left = (with_four bytes, left_by (OrUnfinished (rule (run fresh synced) (map begun later)) (run fresh cut_and_written) []) bytes four by, tree_of_four bytes);
}

-- ---- a tree that nothing leaves

-- what stands at the second path of a tree
abbrev second : List TreeEntry → TreeNode
second [] = TreeNode.Directory
second (a ∷ []) = TreeNode.Directory
second (a ∷ b ∷ rest) = b.node

-- the file of a tree with the names of these states
file_left : (rule : ByteRule) (s : State) (file : File) (bytes : List ℕ) → s.entries ≡ (run fresh synced).entries → node_at s.nodes 1 ≡ Node.File file → TreeLeft rule s (file_of bytes)
    → FileLeft rule 1 file bytes
unfolding places path_to entry_place with_place height with_entry walk node_at_path open_rows binding_of key_of opened with_binding with_descriptor with_offset with_opened with_file with_published made write_rows open_done opening write_done written fsync_done
file_left rule s file bytes names there is =
    let m = is.0 in
    let tree_is : file_of bytes ≡ map (tree_entry m.nodes) (places (run fresh synced).entries) = is.2 ∙ ap (λ entries. map (tree_entry m.nodes) (places entries)) (is.1.entries ∙ names) in
    by (node_at m.nodes 1) (ap second tree_is) (subst (λ (n : Node). NodeLeft rule 1 n (node_at m.nodes 1)) there (is.1.each 1)) where
      by : (n : Node) → TreeNode.File bytes ≡ tree_node n → NodeLeft rule 1 (Node.File file) n → FileLeft rule 1 file bytes
      by Node.Gone same left = absurd left
      by Node.Directory same left = absurd left
      by (Node.File f) same left = subst (λ (xs : List ℕ). FileLeft rule 1 file xs) (let e : f.bytes ≡ bytes = cc in e) left

differ : (x v : ℕ) → x ≡ v → v < x → ⊥
differ x v same less = omega (arith, same, less)

-- byte 2 is not the one that it was before the file was cut
not_by_synced : FileLeft (OrUnfinished (LastBeforeCut (run fresh synced) (map begun later)) (run fresh cut_and_written) []) 1 (record { bytes = abcd; published = 4 }) abxd → ⊥
unfolding value_before_cut values_put with_entry walk node_at_path height open_rows binding_of key_of opened with_binding with_descriptor with_offset with_opened with_file with_published made write_rows truncate_rows put_by open_done opening write_done written fsync_done truncate_done pwrite_done
not_by_synced left = elim (left.each 2 (lit< tt)) [ inl same ↦ apart same | inr other ↦ absurd other ] where
  apart : slice_index abxd 2 ≡ slice_index abcd 2 → ⊥
  apart same = differ 120 99 same (lit< tt)

-- a file that is published to 2 bytes does not leave four
not_by_half : (rule : ByteRule) (bytes : List ℕ) → length (take 2 bytes) ≡ 2 → FileLeft rule 1 (record { bytes = bytes; published = 2 }) abxd → ⊥
not_by_half rule bytes two left = absurd (differ 4 2 (left.size ∙ two) (lit< tt))

-- of the history all items but the last two, but the last one, or all are kept
pub strong_synced : TreeLeft (OrUnfinished (LastBeforeCut (run fresh synced) (map begun later)) (run fresh cut_and_written) []) (run fresh synced) one_later → ⊥
unfolding with_entry walk node_at_path height open_rows binding_of key_of opened with_binding with_descriptor with_offset with_opened with_file with_published made write_rows open_done opening write_done written fsync_done
strong_synced left =
    not_by_synced (file_left (OrUnfinished (LastBeforeCut (run fresh synced) (map begun later)) (run fresh cut_and_written) []) (run fresh synced) (record { bytes = abcd; published = 4 }) abxd refl refl left)

abbrev cut_item : Item
cut_item = item (Who.Thread 0) 3 (Call.Truncate (handle 102) 2) Reply.Ok

strong_cut : (rule : ByteRule) → TreeLeft rule (run fresh (synced ++ cut_item ∷ [])) one_later → ⊥
unfolding with_entry walk node_at_path height open_rows binding_of key_of opened with_binding with_descriptor with_offset with_opened with_file with_published made write_rows truncate_rows open_done opening write_done written fsync_done truncate_done
strong_cut rule left = not_by_half rule (97 ∷ 98 ∷ []) refl (file_left rule (run fresh (synced ++ cut_item ∷ [])) (record { bytes = 97 ∷ 98 ∷ []; published = 2 }) abxd refl refl left)

strong_all : (rule : ByteRule) → TreeLeft rule (run fresh cut_and_written) one_later → ⊥
unfolding with_entry walk node_at_path height open_rows binding_of key_of opened with_binding with_descriptor with_offset with_opened with_file with_published made write_rows truncate_rows open_done opening write_done written fsync_done truncate_done pwrite_done
strong_all rule left =
    not_by_half rule (97 ∷ 98 ∷ 120 ∷ 120 ∷ []) refl (file_left rule (run fresh cut_and_written) (record { bytes = 97 ∷ 98 ∷ 120 ∷ 120 ∷ []; published = 2 }) abxd refl refl left)

-- the `fsync` is kept, so at least three items are
synced_is_kept : (after whole : List Item) → whole ≡ after → list_any syncs whole ≡ true → list_any syncs after ≡ false → ⊥
synced_is_kept after whole same any none = let never : true ≡ false = sym any ∙ (ap (λ xs. list_any syncs xs) same ∙ none) in cc

strong_front : (kept after : List Item) → cut_and_written ≡ kept ++ after → list_any syncs after ≡ false
    → TreeLeft (OrUnfinished (LastBeforeCut (run fresh kept) (map begun after)) (run fresh cut_and_written) []) (run fresh kept) one_later → ⊥
strong_front [] after is none left = synced_is_kept after cut_and_written is refl none
strong_front (a ∷ []) after is none left = synced_is_kept after (drop 1 cut_and_written) (ap (λ xs. drop 1 xs) is) refl none
strong_front (a ∷ b ∷ []) after is none left = synced_is_kept after (drop 2 cut_and_written) (ap (λ xs. drop 2 xs) is) refl none
strong_front (a ∷ b ∷ c ∷ []) after is none left =
    let kept_is : a ∷ b ∷ c ∷ [] ≡ synced = ap (λ xs. take 3 xs) (sym is) in
    let after_is : after ≡ later = ap (λ xs. drop 3 xs) (sym is) in
    strong_synced (subst (λ (xs : List Item). TreeLeft (OrUnfinished (LastBeforeCut (run fresh xs) (map begun later)) (run fresh cut_and_written) []) (run fresh xs) one_later) kept_is
    (subst (λ (ys : List Item). TreeLeft (OrUnfinished (LastBeforeCut (run fresh (a ∷ b ∷ c ∷ [])) (map begun ys)) (run fresh cut_and_written) []) (run fresh (a ∷ b ∷ c ∷ [])) one_later) after_is left))
strong_front (a ∷ b ∷ c ∷ d ∷ []) after is none left =
    let kept_is : a ∷ b ∷ c ∷ d ∷ [] ≡ synced ++ cut_item ∷ [] = ap (λ xs. take 4 xs) (sym is) in
    let rule : ByteRule = OrUnfinished (LastBeforeCut (run fresh (a ∷ b ∷ c ∷ d ∷ [])) (map begun after)) (run fresh cut_and_written) [] in
    strong_cut rule (subst (λ (xs : List Item). TreeLeft rule (run fresh xs) one_later) kept_is left)
strong_front (a ∷ b ∷ c ∷ d ∷ e ∷ []) after is none left =
    let kept_is : a ∷ b ∷ c ∷ d ∷ e ∷ [] ≡ cut_and_written = ap (λ xs. take 5 xs) (sym is) in
    let rule : ByteRule = OrUnfinished (LastBeforeCut (run fresh (a ∷ b ∷ c ∷ d ∷ e ∷ [])) (map begun after)) (run fresh cut_and_written) [] in
    strong_all rule (subst (λ (xs : List Item). TreeLeft rule (run fresh xs) one_later) kept_is left)
strong_front (a ∷ b ∷ c ∷ d ∷ e ∷ f ∷ kept) after is none left = too_long (ap (λ xs. drop 5 xs) is) where
  too_long : [] ≡ f ∷ (kept ++ after) → ⊥
  too_long same = cc

-- the whole history leaves other bytes
not_whole : one_later ≡ tree (run fresh cut_and_written) → ⊥
unfolding places path_to entry_place with_place height with_entry walk node_at_path open_rows binding_of key_of opened with_binding with_descriptor with_offset with_opened with_file with_published made write_rows truncate_rows open_done opening write_done written fsync_done truncate_done pwrite_done
not_whole same = by (ap second same) where
  by : TreeNode.File abxd ≡ TreeNode.File (97 ∷ 98 ∷ 120 ∷ 120 ∷ []) → ⊥
  by is = differ 120 100 (sym (ap fourth is)) (lit< tt) where
    fourth : TreeNode → ℕ
    fourth TreeNode.Directory = 0
    fourth (TreeNode.File bytes) = slice_index bytes 3

none_act : (marks : List Bool) → after_calls (run fresh cut_and_written) (acting marks []) ≡ run fresh cut_and_written
none_act [] = refl
none_act (mark ∷ marks) = refl

not_strong : StrongPosix fresh cut_and_written [] one_later → ⊥
not_strong is = elim is [
  | inl fronted ↦ strong_front fronted.kept fronted.later fronted.is fronted.fsyncs fronted.tree_left
  | inr more ↦ elim more [
    | inl all ↦
        let rule : ByteRule = OrUnfinished (LastBeforeCut (after_calls (run fresh cut_and_written) (acting all.marks [])) []) (run fresh cut_and_written) (others all.marks []) in
        strong_all rule (subst (λ (s : State). TreeLeft rule s one_later) (none_act all.marks) all.tree_left)
    | inr same ↦ not_whole same
  ]
]

pub byte_rows : ByteRows
byte_rows = record {
  weaker_has_one_later = inl (front Overwritten abxd refl weak_bytes);
  stronger_has_not = not_strong;
  stronger_has_it_as_synced = inl (front LastBeforeCut abcd refl strong_bytes);
}
