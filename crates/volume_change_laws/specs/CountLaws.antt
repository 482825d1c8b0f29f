-- How many inode lines and name lines are left after each change, and that the changes of names leave who uses a block.
use Rattle.std.specs.Prelude.{◌≡◌, ◌≢◌, ◌⊎◌, ℕ, ◌+◌, ◌<◌, List, length, true, false, count_by, slice_set, slice_index_or, Some, None, refl}
use Rattle.std.proofs.Common.{arith, ap, sym, ◌∙◌, inl, inr}
use Rattle.name_laws.specs.volume_laws.layout_model.declared.lines.Inode.{Inode}
use Rattle.name_laws.specs.volume_laws.layout_model.declared.lines.Kind.{Kind}
use Rattle.name_laws.specs.volume_laws.layout_model.declared.lines.Kind.TheVariants.{Free, Directory, File, Staging}
use Rattle.name_laws.specs.volume_laws.layout_model.Lines.{NameRow, is_inode}
use Rattle.name_laws.specs.volume_laws.layout_model.Names.{Rows, row, is_free_row}
use Rattle.name_laws.specs.volume_laws.image_model.Live.{is_directory}
use Rattle.name_laws.specs.volume_laws.image_model.Reading.{node_set}
use Rattle.name_laws.specs.volume_laws.image_model.Uses.{owners}
use Rattle.name_laws.specs.volume_laws.image_model.Volume.{Volume, inode, free_inode}
use Rattle.name_laws.specs.k_split_model.ChangesChanges.{new_node, gone_node, made, unnamed, removed, renamed, renamed_over_file, renamed_over_directory, dropped}
use Rattle.name_laws.specs.k_split_model.Spaces.{is_free, volume_space}
use Rattle.name_laws.specs.RowLaws.{row-below}
use Rattle.name_laws.specs.SetLaws.{free_lines-taken, free_lines-freed}
use Rattle.volume_change_laws.specs.Changes.{MayMake, MayRenameOver, MayDrop}
use Rattle.name_laws.specs.volume_laws.Changes.{row-set_other}
use Rattle.name_laws.specs.volume_laws.Lists.{one_if, count_by-set}
use Rattle.name_laws.specs.volume_laws.OwnerLaws.{owners-node, owners-row}

-- ---- inode lines

free-count : (inodes : List Inode) (ino : ℕ) (x : Inode) → ino < length inodes
    → count_by (λ (y : Inode). is_free y.kind) (slice_set inodes ino x) + one_if (is_free (slice_index_or inodes ino free_inode).kind)
    ≡ count_by (λ (y : Inode). is_free y.kind) inodes + one_if (is_free x.kind)
free-count inodes ino x below = count_by-set (λ (y : Inode). is_free y.kind) inodes ino x free_inode below

node-used : (kind : Kind) → (kind ≡ Directory) ⊎ (kind ≡ File) → is_free kind ≡ false
node-used kind (inl is) = ap is_free is
node-used kind (inr is) = ap is_free is

directory-used : (kind : Kind) → is_directory kind ≡ true → is_free kind ≡ false
directory-used Free is = cc
directory-used Directory is = refl
directory-used File is = refl
directory-used Staging is = refl

-- one line less is left where a node is made
pub made-nodes_left : (kind : Kind) (ino line : ℕ) (r : NameRow) (v : Volume) → MayMake kind ino line r v
    → (volume_space (made kind ino line r v)).nodes_left + 1 ≡ (volume_space v).nodes_left
made-nodes_left kind ino line r v may =
    omega (arith, free-count v.inodes ino (new_node kind (inode v ino)) may.ino_below, ap (λ k. one_if (is_free k)) may.ino_free, ap one_if (node-used kind may.kind_is))

-- one more where a directory or a file goes
pub removed-nodes_left : (line ino : ℕ) (v : Volume) → ino < length v.inodes → is_directory (inode v ino).kind ≡ true
    → (volume_space (removed line ino v)).nodes_left ≡ (volume_space v).nodes_left + 1
removed-nodes_left line ino v below directory =
    omega (arith, free-count v.inodes ino (gone_node (inode v ino)) below, ap one_if (directory-used (inode v ino).kind directory))

pub dropped-nodes_left : (ino : ℕ) (v : Volume) → MayDrop ino v
    → (volume_space (dropped ino v)).nodes_left ≡ (volume_space v).nodes_left + 1
dropped-nodes_left ino v may =
    omega (arith, free-count v.inodes ino (gone_node (inode v ino)) may.below, ap (λ k. one_if (is_free k)) may.file)

-- ---- name lines

pub made-lines_left : (kind : Kind) (ino line : ℕ) (r : NameRow) (v : Volume) → MayMake kind ino line r v
    → (volume_space (made kind ino line r v)).lines_left + 1 ≡ (volume_space v).lines_left
made-lines_left kind ino line r v may = free_lines-taken v.names line r may.line_below may.line_free

pub unnamed-lines_left : (line : ℕ) (r : NameRow) (v : Volume) → row v.names line ≡ Some r
    → (volume_space (unnamed line v)).lines_left ≡ (volume_space v).lines_left + 1
unnamed-lines_left line r v is = free_lines-freed v.names line r (row-below v.names line r is) is

pub removed-lines_left : (line ino : ℕ) (r : NameRow) (v : Volume) → row v.names line ≡ Some r
    → (volume_space (removed line ino v)).lines_left ≡ (volume_space v).lines_left + 1
removed-lines_left line ino r v is = free_lines-freed v.names line r (row-below v.names line r is) is

-- a rename needs no free line
moved-count : (rows : Rows) (line : ℕ) (r s : NameRow) → row rows line ≡ Some r
    → count_by is_free_row (slice_set rows line (Some s)) ≡ count_by is_free_row rows
moved-count rows line r s is =
    omega (arith, count_by-set is_free_row rows line (Some s) None (row-below rows line r is), ap (λ o. one_if (is_free_row o)) is)

pub renamed-lines_left : (line : ℕ) (r s : NameRow) (v : Volume) → row v.names line ≡ Some r
    → (volume_space (renamed line s v)).lines_left ≡ (volume_space v).lines_left
renamed-lines_left line r s v is = moved-count v.names line r s is

-- and one over another name leaves one line more
over-apart : (line : ℕ) (r s : NameRow) (high target : ℕ) (t : NameRow) (v : Volume)
    → MayRenameOver line r s high target t v → line ≢ target
over-apart line r s high target t v over e =
    let both : Some r ≡ Some t = sym over.is ∙ ap (row v.names) e ∙ over.target_is in
    let same : r ≡ t = cc in
    over.apart (ap (λ (x : NameRow). x.child) (sym same))

pub renamed_over-lines_left : (line : ℕ) (r s : NameRow) (high target : ℕ) (t : NameRow) (v : Volume)
    → MayRenameOver line r s high target t v
    → (volume_space (renamed_over_file line s target v)).lines_left ≡ (volume_space v).lines_left + 1
renamed_over-lines_left line r s high target t v over =
    moved-count (slice_set v.names target None) line r s
    (row-set_other v.names target None line (over-apart line r s high target t v over) ∙ over.is)
    ∙ free_lines-freed v.names target t (row-below v.names target t over.target_is) over.target_is

-- ---- blocks

-- the changes of names leave each use of a block
pub made-owners : (kind : Kind) (ino line : ℕ) (r : NameRow) (v : Volume) (b : ℕ)
    → owners (made kind ino line r v) b ≡ owners v b
made-owners kind ino line r v b =
    owners-row (node_set ino (new_node kind (inode v ino)) v) line (Some r) b
    ∙ owners-node v ino (new_node kind (inode v ino)) b

pub unnamed-owners : (line : ℕ) (v : Volume) (b : ℕ) → owners (unnamed line v) b ≡ owners v b
unnamed-owners line v b = owners-row v line None b

pub removed-owners : (line ino : ℕ) (v : Volume) (b : ℕ) → owners (removed line ino v) b ≡ owners v b
removed-owners line ino v b =
    owners-row (node_set ino (gone_node (inode v ino)) v) line None b ∙ owners-node v ino (gone_node (inode v ino)) b

pub renamed-owners : (line : ℕ) (s : NameRow) (v : Volume) (b : ℕ) → owners (renamed line s v) b ≡ owners v b
renamed-owners line s v b = owners-row v line (Some s) b

pub renamed_over_file-owners : (line : ℕ) (s : NameRow) (target : ℕ) (v : Volume) (b : ℕ)
    → owners (renamed_over_file line s target v) b ≡ owners v b
renamed_over_file-owners line s target v b = owners-row (unnamed target v) line (Some s) b ∙ unnamed-owners target v b

pub renamed_over_directory-owners : (line : ℕ) (s : NameRow) (target ino : ℕ) (v : Volume) (b : ℕ)
    → owners (renamed_over_directory line s target ino v) b ≡ owners v b
renamed_over_directory-owners line s target ino v b =
    owners-row (removed target ino v) line (Some s) b ∙ removed-owners target ino v b

-- ---- the lines that are written

-- the inode of a new node, and that of one that goes, may stand in a line
pub new_node-fits : (kind : Kind) (x : Inode) → (kind ≡ Directory) ⊎ (kind ≡ File) → is_inode (new_node kind x) ≡ true
new_node-fits kind x (inl is) = ap (λ k. is_inode (new_node k x)) is
new_node-fits kind x (inr is) = ap (λ k. is_inode (new_node k x)) is

pub gone_node-fits : (x : Inode) → is_inode (gone_node x) ≡ true
gone_node-fits x = refl
