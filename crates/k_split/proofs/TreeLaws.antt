-- The tables and the device of a K-Split have a tree, which is that of the content.
use Rattle.std.proofs.Common.{◌≡◌, Bool, false, List, [], Result, Ok, Err, sym, subst}
use Rattle.std.specs.Prelude.{IfOk}
use Rattle.std.specs.declared.alloc.AllocError.{AllocError}
use Rattle.block_io.specs.pm_model.declared.Cell.{Cell}
use Rattle.block_io.specs.pm_model.Cells.{AllHome}
use Rattle.block_io.specs.pm_model.Images.{words_of}
use Rattle.block_io.specs.layout_model.Journal.{journaled}
use Rattle.block_io.specs.image_model.Content.{content, found}
use Rattle.block_io.specs.image_model.Live.{live_entries}
use Rattle.block_io.specs.image_model.Volume.{Volume}
use Rattle.posix_types.specs.declared.tree.TreeEntry.{TreeEntry}
use Rattle.k_tables.specs.posix_laws.TreeOf.{IsTreeOf}
use Rattle.k_tables.proofs.Reading.{have-trees}
use Rattle.k_tables.specs.ContentsTrees.{HasTables, HasTree, tree_content}
use Rattle.block_io.specs.extent_model.declared.extent_words.Extent.{Extent}
use Rattle.layout_model.specs.declared.lines.Inode.{Inode}
use Rattle.layout_model.specs.Names.{Rows}
use Rattle.k_map_plans.specs.k_journal.declared.batches.Record.{Record}
use Rattle.k_map_plans.specs.k_plans.View.{TablesView}
use Rattle.block_io.specs.layout_model.Places.{Geometry}
use Rattle.k_map_plans.specs.k_plans.Whole.{IsWhole}
use Rattle.k_split.specs.Order.{IsReady, view_of}
use Rattle.k_tables.specs.k_split_model.Stands.{Stands}
use Rattle.k_tables.specs.k_split_model.View.{View}
use Rattle.k_split.proofs.ContentLaws.{content-words}
use Rattle.k_split.proofs.Ready.{no-lines, ready-idle, reads-ready}

-- where the device stands at the volume
pub tree-content : (g : Geometry) (v : Volume) (d : List Cell) (r : Result (List TreeEntry) AllocError) → Stands g v d → IsWhole v
    → live_entries v (journaled (words_of d)) ≡ []
    → IfOk r (IsTreeOf (tree_content (found v [] (words_of d)))) → IfOk r (IsTreeOf (tree_content (content g (words_of d))))
tree-content g v d (Err e) stands whole none is = tt
tree-content g v d (Ok tree) stands whole none is =
    subst (λ c. IsTreeOf (tree_content c) tree) (sym (content-words g v d stands whole.kept.kept none)) is

-- ---- by the parts of a K-Split

module _ (t : TablesView) (group b : List Record) (d : List Cell) (batched lost : Bool) (k : View) (same : view_of t group d batched lost ≡ k) (on : k.lost ≡ false)
    (ready : lost ≡ false → IsReady t group b d batched) (inodes : List Inode) (rows : Rows) (maps : List (List Extent))
    (inodes_are : inodes ≡ t.volume.inodes) (rows_are : rows ≡ t.volume.names) (maps_are : maps ≡ t.volume.maps) where
  are : IsReady t group b d batched
  are = ready (subst (λ (x : View). x.lost ≡ false) (sym same) on)

  pub parts-tree : AllHome k.cells → HasTree inodes rows maps d
  parts-tree home =
      let reads = reads-ready t group b d batched are in
      let whole : HasTree t.volume.inodes t.volume.names t.volume.maps d =
      have-trees t.volume.geometry reads.0 t.volume d are.opened.whole.kept.geometry reads.1 are.opened.whole.kept.kept are.opened.are.stands.size
      (subst (λ (x : View). AllHome x.cells) (sym same) home)
      in
      subst (λ i. HasTree i rows maps d) (sym inodes_are) (subst (λ r. HasTree t.volume.inodes r maps d) (sym rows_are)
      (subst (λ m. HasTree t.volume.inodes t.volume.names m d) (sym maps_are) whole))

  pub parts-listed : (r : Result (List TreeEntry) AllocError)
      → IfOk r (λ tree. (v : Volume) → HasTables inodes rows maps v → IsTreeOf (tree_content (found v [] (words_of d))) tree)
      → IfOk r (IsTreeOf (tree_content (found k.volume [] (words_of k.cells))))
  parts-listed (Err e) is = tt
  parts-listed (Ok tree) is =
      subst (λ (x : View). IsTreeOf (tree_content (found x.volume [] (words_of x.cells))) tree) same
      (is t.volume (record { same_inodes = sym inodes_are; same_names = sym rows_are; same_maps = sym maps_are }))

  pub parts-content : (r : Result (List TreeEntry) AllocError) → k.lines ≡ [] → live_entries k.volume (journaled (words_of k.cells)) ≡ []
      → IfOk r (λ tree. (v : Volume) → HasTables inodes rows maps v → IsTreeOf (tree_content (found v [] (words_of d))) tree)
      → IfOk r (IsTreeOf (tree_content (content k.volume.geometry (words_of k.cells))))
  parts-content r lines none is =
      let plain = ready-idle t group b d batched are (no-lines group (subst (λ (x : View). x.lines ≡ []) (sym same) lines)) in
      subst (λ (x : View). IfOk r (IsTreeOf (tree_content (content x.volume.geometry (words_of x.cells))))) same
      (tree-content t.volume.geometry t.volume d r plain.stands plain.whole
      (subst (λ (x : View). live_entries x.volume (journaled (words_of x.cells)) ≡ []) (sym same) none)
      (subst (λ (x : View). IfOk r (IsTreeOf (tree_content (found x.volume [] (words_of x.cells))))) (sym same) (parts-listed r is)))
