-- What stands in the lines of the view.
use Rattle.std.proofs.Common.{◌≡◌, ℕ, ◌<◌, Option, Some, None, unwrap_or, sym, ◌∙◌, ap, arith, subst, List, length}
use Rattle.std.proofs.lemmas.Option.{same_Some}
use Rattle.std.proofs.lemmas.List.FromFn.{length-map-range_with_len}
use Rattle.std.specs.Prelude.{slice_index_or}
use Rattle.k_journal.specs.pm_model.Words.{Words}
use Rattle.k_journal.specs.layout_model.Places.{Geometry}
use Rattle.k_reading.specs.layout_model.declared.lines.Inode.{Inode}
use Rattle.k_reading.specs.layout_model.Lines.{NameRow, NameSlot}
use Rattle.k_reading.specs.layout_model.Names.{row}
use Rattle.k_reading.specs.image_model.Chains.{chain_of, map_of}
use Rattle.k_reading.specs.image_model.Rules.{IsKindAt, HasInode}
use Rattle.k_reading.specs.image_model.Volume.{volume, inode_at, name_at, row_of, free_inode, inode_or_free, inode}
use Rattle.k_reading.specs.image_laws.CheckedLaws.{volume-inode, volume-row}
use Rattle.k_reading.specs.volume_laws.ReadingLaws.{volume-geometry}

pub inode-kept : (j : Words) (ino : ℕ) (x : Inode) → inode_at j ino ≡ Some x → IsKindAt ino x.kind → HasInode j ino
inode-kept j ino x is kind = record { line = x; is = is; kind = kind }

pub inode-none : (j : Words) (ino : ℕ) → inode_at j ino ≡ None → HasInode j ino → ⊥
inode-none j ino none has = cc (none, has.is)

pub inode-kind : (j : Words) (ino : ℕ) (x : Inode) → inode_at j ino ≡ Some x → (IsKindAt ino x.kind → ⊥) → HasInode j ino → ⊥
inode-kind j ino x is none has =
    none (subst (λ (y : Inode). IsKindAt ino y.kind) (same_Some has.line x (sym has.is ∙ is)) has.kind)

pub inode-read : (g : Geometry) (j : Words) (ino : ℕ) (x : Inode) → ino < g.inodes → inode_at j ino ≡ Some x → x ≡ inode (volume g j) ino
inode-read g j ino x below is = sym (volume-inode g j ino below ∙ ap (λ (o : Option Inode). unwrap_or o free_inode) is)

-- how many lines a volume has
pub count-inodes : (g : Geometry) (j : Words) → length (volume g j).inodes ≡ g.inodes
unfolding volume
count-inodes g j = length-map-range_with_len (inode_or_free j) 0 g.inodes

pub count-names : (g : Geometry) (j : Words) → length (volume g j).names ≡ g.names
unfolding volume
count-names g j = length-map-range_with_len (λ k. row_of (name_at g j k)) 0 g.names

pub count-chains : (g : Geometry) (j : Words) → length (volume g j).chains ≡ g.inodes
unfolding volume
count-chains g j = length-map-range_with_len (λ ino. chain_of j (inode_or_free j ino)) 0 g.inodes

pub count-maps : (g : Geometry) (j : Words) → length (volume g j).maps ≡ g.inodes
unfolding volume
count-maps g j = length-map-range_with_len (λ ino. map_of j (inode_or_free j ino)) 0 g.inodes

pub count-of : (g : Geometry) (j : Words) (inodes : List Inode) → inodes ≡ (volume g j).inodes → (volume g j).geometry.inodes ≡ length inodes
count-of g j inodes is =
    ap (λ (h : Geometry). h.inodes) (volume-geometry g j) ∙ sym (count-inodes g j) ∙ ap (λ (l : List Inode). length l) (sym is)

pub row-read : (g : Geometry) (j : Words) (k : ℕ) (s : NameSlot) (r : Option NameRow) → k < g.names → s ≡ name_at g j k → r ≡ row_of s
    → r ≡ row (volume g j).names k
row-read g j k s r below slot is = is ∙ ap row_of slot ∙ sym (volume-row g j k below)

-- the inode of a table that is the volume's
pub inode-of : (g : Geometry) (j : Words) (inodes : List Inode) (ino : ℕ) (x : Inode) → inodes ≡ (volume g j).inodes → slice_index_or inodes ino free_inode ≡ x
    → inode (volume g j) ino ≡ x
inode-of g j inodes ino x same is = ap (λ (l : List Inode). slice_index_or l ino free_inode) (sym same) ∙ is

pub index-below : (g : Geometry) (j : Words) (inodes : List Inode) (ino : ℕ) → inodes ≡ (volume g j).inodes → ino < length inodes → ino < g.inodes
index-below g j inodes ino same below = omega (arith, below, count-inodes g j, ap (λ (l : List Inode). length l) same)

pub index-count : (g : Geometry) (j : Words) (inodes : List Inode) → inodes ≡ (volume g j).inodes → length inodes ≡ g.inodes
index-count g j inodes same = ap (λ (l : List Inode). length l) same ∙ count-inodes g j
