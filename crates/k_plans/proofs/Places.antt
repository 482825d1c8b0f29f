-- A node that is made in a place: the volume stays whole, and its lines are a plan for it.
use Rattle.std.proofs.Common.{◌≡◌, ◌<◌, ◌≤◌, ◌⊎◌, ℕ, Bool, true, false, not, List, [], length, refl, sym, ◌∙◌, ap, inl, inr, arith, subst}
use Rattle.std.proofs.lemmas.Bool.{and_from, ne_eqb}
use Rattle.std.specs.Prelude.{◌==◌, Some, slice_set}
use Rattle.k_reading.specs.block_pool.FreeSets.{FreeSet}
use Rattle.layout_model.specs.declared.lines.Inode.{Inode}
use Rattle.layout_model.specs.declared.lines.Kind.{Kind}
use Rattle.layout_model.specs.declared.lines.Kind.TheVariants.{Directory, File}
use Rattle.layout_model.specs.Lines.{NameRow, is_name, is_name_row}
use Rattle.layout_model.specs.Names.{Rows, is_entry, row}
use Rattle.k_tables.specs.image_model.Reading.{node_set, row_set}
use Rattle.k_tables.specs.image_model.Rules.{IsKindAt}
use Rattle.k_tables.specs.image_model.Volume.{Volume, inode}
use Rattle.k_journal.specs.declared.batches.Record.{Record}
use Rattle.k_plans.specs.LandingsPlans.{Turns}
use Rattle.k_tables.specs.k_split_model.ChangesChanges.{new_node}
use Rattle.k_tables.specs.Found.{IsPlace}
use Rattle.k_tables.specs.declared.tables.making.Place.{Place}
use Rattle.k_tables.specs.posix_tables.Names.{last_name}
use Rattle.volume_change_laws.specs.CallLaws.{may-make, row_to}
use Rattle.volume_change_laws.specs.Changes.{MayMake}
use Rattle.volume_change_laws.specs.CountLaws.{made-owners, new_node-fits}
use Rattle.volume_change_laws.specs.FoundLaws.{IsLowestFree, free-found, make-keeps}
use Rattle.volume_change_laws.specs.LineLaws.{lines-node, lines-row, maps-node, maps-row}
use Rattle.k_plans.specs.Free.{AreTables}
use Rattle.k_plans.specs.Making.{kind_of, made_at}
use Rattle.k_plans.specs.PlansPlans.{IsPlan}
use Rattle.layout_model.specs.Spelling.{AreSpelled}
use Rattle.k_plans.specs.View.{TablesView, with_volume}
use Rattle.k_plans.specs.Whole.{IsWhole}
use Rattle.k_plans.proofs.Names.{last-fits}
use Rattle.k_plans.proofs.Wholes.{IsBare, free-bare, inodes-set, plan-from, tables-same, with_lines}

kind-made : (directory : Bool) → (kind_of directory ≡ Directory) ⊎ (kind_of directory ≡ File)
kind-made true = inl refl
kind-made false = inr refl

place-free : (v : Volume) (path : List (List ℕ)) (place : Place) → IsPlace v.inodes v.names path place
    → IsLowestFree v.inodes place.ino
place-free v path place is = free-found v.inodes place.ino is.room.ino

place-may : (v : Volume) (path : List (List ℕ)) (place : Place) → IsWhole v → IsPlace v.inodes v.names path place
    → MayMake Directory place.ino place.line (row_to path place.parent place.ino) v
place-may v path place whole is =
    let free = place-free v path place is in
    may-make v path place.parent Directory place.ino place.line whole.kept is.is_new (inl refl) free.within free.free is.room.line

-- the name is in no line
pub place-new : (v : Volume) (path : List (List ℕ)) (place : Place) → IsWhole v → IsPlace v.inodes v.names path place
    → (k : ℕ) → is_entry place.parent (last_name path) (row v.names k) ≡ false
place-new v path place whole is = (place-may v path place whole is).is_new

-- the inode has no map, and is behind those of the staging files
pub place-bare : (v : Volume) (path : List (List ℕ)) (place : Place) → IsWhole v → IsPlace v.inodes v.names path place
    → IsBare (inode v place.ino)
place-bare v path place whole is = free-bare v place.ino whole (place-free v path place is).free

pub place-behind : (v : Volume) (path : List (List ℕ)) (place : Place) → IsWhole v → IsPlace v.inodes v.names path place
    → 5 ≤ place.ino
place-behind v path place whole is =
    subst (IsKindAt place.ino) (place-free v path place is).free
    (whole.kept.kept.kinds place.ino (omega (arith, is.room.ino_within, whole.kept.all.inode_count)))

-- the name may stand in a line
pub place-row : (v : Volume) (path : List (List ℕ)) (place : Place) → IsWhole v → AreSpelled path
    → IsPlace v.inodes v.names path place → is_name_row (row_to path place.parent place.ino) ≡ true
place-row v path place whole spelled is =
    and_from (not (place.ino == 0)) (is_name (last_name path))
    (ap not (ne_eqb place.ino 0 (λ zero. omega (arith, place-behind v path place whole is))))
    (last-fits path spelled is.is_new.directory.below is.is_new.directory.short)

-- and the volume stays whole
pub made-whole : (directory : Bool) (path : List (List ℕ)) (place : Place) (v : Volume) → IsWhole v
    → IsPlace v.inodes v.names path place → IsWhole (made_at directory path place v)
made-whole directory path place v whole is = record {
  kept = record {
    kept = make-keeps v path place.parent kind place.ino place.line whole.kept is.is_new (kind-made directory) (place-free v path place is) is.room.line;
    all = lines-row place.line _ (node_set place.ino node v) (lines-node place.ino node v whole.kept.all);
    geometry = whole.kept.geometry;
  };
  maps = maps-row place.line _ (node_set place.ino node v) (maps-node place.ino node v whole.maps);
  inodes = inodes-set v place.ino node is.room.ino_within (new_node-fits kind (inode v place.ino) (kind-made directory)) whole.inodes;
  chains = whole.chains;
}
  where
    kind : Kind
    kind = kind_of directory

    node : Inode
    node = new_node kind (inode v place.ino)

-- ---- what a call does in the place

-- the inode, the row and the names are those of a node that is made there
pub record MakesAt (directory : Bool) (path : List (List ℕ)) (place : Place) (t : TablesView) (node : Inode) (r : NameRow) (names : Rows)
    : Type 0 where
  pub is_place : IsPlace t.volume.inodes t.volume.names path place
  pub node_is : node ≡ new_node (kind_of directory) (inode t.volume place.ino)
  pub row_is : r ≡ row_to path place.parent place.ino
  pub names_is : names ≡ slice_set t.volume.names place.line (Some r)

pub makes-made : (directory : Bool) (path : List (List ℕ)) (place : Place) (t : TablesView) (node : Inode) (r : NameRow) (names : Rows)
    → MakesAt directory path place t node r names
    → with_lines place.ino node names t ≡ with_volume (made_at directory path place t.volume) t
makes-made directory path place t node r names makes =
    let names_are : names ≡ slice_set t.volume.names place.line (Some (row_to path place.parent place.ino)) =
    makes.names_is ∙ ap (λ (x : NameRow). slice_set t.volume.names place.line (Some x)) makes.row_is
    in
    λ i. with_lines place.ino (makes.node_is i) (names_are i) t

pub makes-tables : (directory : Bool) (path : List (List ℕ)) (place : Place) (t : TablesView) (node : Inode) (r : NameRow) (names : Rows)
    (pool held : FreeSet) → AreTables t pool held → MakesAt directory path place t node r names → AreTables (with_lines place.ino node names t) pool held
makes-tables directory path place t node r names pool held are makes =
    subst (λ u. AreTables u pool held) (sym (makes-made directory path place t node r names makes))
    (tables-same t (made_at directory path place t.volume) pool held are (made-whole directory path place t.volume are.whole makes.is_place) refl
    (made-owners (kind_of directory) place.ino place.line (row_to path place.parent place.ino) t.volume))

pub makes-plan : (directory : Bool) (path : List (List ℕ)) (place : Place) (t old : TablesView) (node : Inode) (r : NameRow) (names : Rows)
    (b : List Record) → t ≡ old → IsWhole t.volume → MakesAt directory path place t node r names
    → (node.root ≡ (inode t.volume place.ino).root → node.extents ≡ (inode t.volume place.ino).extents
    → Turns t.volume.geometry [] t.volume (row_set place.line (Some r) (node_set place.ino node t.volume)) b)
    → 0 < length b → length b ≤ 2 → old.aside ≡ [] → IsPlan old (with_lines place.ino node names t) b
makes-plan directory path place t old node r names b same whole makes turns some most idle =
    let v = t.volume in
    let free = place-bare v path place whole makes.is_place in
    let root : node.root ≡ (inode v place.ino).root = ap (λ (x : Inode). x.root) makes.node_is ∙ sym free.root in
    let extents : node.extents ≡ (inode v place.ino).extents = ap (λ (x : Inode). x.extents) makes.node_is ∙ sym free.extents in
    plan-from t old (with_lines place.ino node names t) (made_at directory path place v) b same
    (makes-made directory path place t node r names makes)
    (subst (λ w. Turns v.geometry [] v w b) (λ i. row_set place.line (Some (makes.row_is i)) (node_set place.ino (makes.node_is i) v)) (turns root extents))
    some (omega arith) (λ ino least few. refl) (made-whole directory path place v whole makes.is_place) idle refl
    (made-owners (kind_of directory) place.ino place.line (row_to path place.parent place.ino) v)
