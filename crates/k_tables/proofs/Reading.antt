-- A device whose words read as a volume that keeps the rules has the tables of a tree.
use Rattle.std.proofs.Common.{◌≡◌, ℕ, suc, ◌+◌, ◌*◌, ◌<◌, ◌≤◌, true, List, [], ◌∷◌, length, get_or, Option, Some, None, refl, sym, ◌∙◌, ap, arith, inl, inr}
use Rattle.std.proofs.lemmas.Bool.{and_parts, cases_lt}
use Rattle.std.proofs.lemmas.Bool.Decides.{nat_tests}
use Rattle.std.proofs.lemmas.List.{get_or_past}
use Rattle.pm_lines.specs.pm_model.declared.Cell.{Cell}
use Rattle.pm_lines.specs.pm_model.Cells.{AllHome}
use Rattle.pm_lines.specs.pm_model.Words.{Words, line_bytes}
use Rattle.layout_model.specs.Places.{Geometry, IsGeometry, inode_line, name_line}
use Rattle.extent_map.specs.extent_model.declared.extent_words.Extent.{Extent}
use Rattle.extent_map.specs.extent_model.Extents.{disk_at, disk_in}
use Rattle.extent_map.specs.extent_model.Facts.{disk_at_found}
use Rattle.layout_model.specs.declared.lines.Inode.{Inode}
use Rattle.layout_model.specs.declared.lines.Kind.{Kind}
use Rattle.layout_model.specs.declared.lines.Kind.TheVariants.{Free, Directory, File, Staging}
use Rattle.layout_model.specs.LineLaws.{IsInodeLine-decode_inode}
use Rattle.layout_model.specs.block_counts.declared.TheConstants.{LONGEST_FILE}
use Rattle.layout_model.specs.Lines.{NameRow, is_inode_of_kind, is_name}
use Rattle.layout_model.specs.NameLaws.{IsNameLine-decode_name}
use Rattle.layout_model.specs.Names.{parent_of, row, up, walk}
use Rattle.layout_model.specs.TableLaws.{NamingLine-parent_of}
use Rattle.name_laws.specs.image_model.Kept.{AreKept}
use Rattle.name_laws.specs.image_model.Live.{is_directory}
use Rattle.name_laws.specs.image_model.Reading.{Reads, slot_for}
use Rattle.name_laws.specs.image_model.Rules.{IsInData, IsKindAt, file_blocks_of}
use Rattle.name_laws.specs.image_model.Volume.{Volume, extents, free_inode, inode}
use Rattle.name_laws.specs.k_split_model.Spaces.{is_directory_in}
use Rattle.name_laws.specs.ForestLaws.{up-parent, up-top}
use Rattle.name_laws.specs.KeptLaws.{HasAllLines, kept-forest, kept-keyed, kept-named, kept-one_name, kept-placed, reads-all_lines}
use Rattle.name_laws.specs.RowLaws.{row-below}
use Rattle.posix_laws.specs.posix_tables.Names.{longest_path}
use Rattle.name_laws.specs.TreeLaws.{one-depth, up-of_walk}
use Rattle.k_tables.specs.Files.{IsInside}
use Rattle.k_tables.specs.Laws.{HaveTrees}
use Rattle.k_tables.specs.ContentsTrees.{HasTree}

root-node : (kind : Kind) → IsKindAt 0 kind → is_directory kind ≡ true
root-node Free at = absurd (omega (arith, at))
root-node Directory at = refl
root-node File at = absurd (omega (arith, at))
root-node Staging at = absurd (omega (arith, at.0))

-- an inode of a line has no more bytes than a file may have
few-bytes : (kind : Kind) (x : Inode) → is_inode_of_kind kind x ≡ true → x.size ≤ LONGEST_FILE
few-bytes Free x ok = grind (arith, nat_tests)
few-bytes Directory x ok = grind (arith, nat_tests)
few-bytes File x ok = grind (arith, nat_tests)
few-bytes Staging x ok = grind (arith, nat_tests)

none-some : (o : Option ℕ) (n : ℕ) → o ≡ None → o ≡ Some n → ⊥
none-some o n none some = cc

-- a disk block of an extent in the data blocks lies in the device
inside-data : (g : Geometry) (limit : ℕ) (es : List Extent) (d : List Cell) → length d ≡ 512 * g.blocks
    → ((k : ℕ) (e : Extent) → k < length es → IsInData g limit (get_or es k e)) → IsInside es d
inside-data g limit es d size in_data block b is =
    let none : Extent = record { file = 0; disk = 0; count = 0 } in
    let at = disk_at_found es block b none is in
    let lies = in_data at.0 none at.1 in
    let last : disk_in (get_or es at.0 none) block < (get_or es at.0 none).disk + (get_or es at.0 none).count =
    (let held = at.2 in grind (arith, nat_tests)) in
    omega (arith, last, at.3, lies.2, size)

module _ (g : Geometry) (f : Words) (v : Volume) (d : List Cell) (is : IsGeometry g) (r : Reads g f v) (kept : AreKept v) where
  all : HasAllLines v
  all = reads-all_lines g f v r

  same : v.geometry.inodes ≡ g.inodes
  same = ap (λ (x : Geometry). x.inodes) r.geometry

  sizes : (ino : ℕ) → (inode v ino).size ≤ LONGEST_FILE
  sizes ino = elim (cases_lt ino g.inodes) [
    | inl below ↦ few-bytes (inode v ino).kind (inode v ino) (IsInodeLine-decode_inode (line_bytes f (inode_line ino)) (inode v ino) (r.inodes ino below)).fields
    | inr past ↦
        let free : inode v ino ≡ free_inode = get_or_past v.inodes ino free_inode (omega (arith, r.inode_count)) in
        let none : (inode v ino).size ≡ 0 = ap (λ (x : Inode). x.size) free in
        omega (arith, none)
  ]

  inside : (ino : ℕ) → length d ≡ 512 * g.blocks → IsInside (extents v ino) d
  inside ino size = elim (cases_lt ino g.inodes) [
    | inl below ↦
        inside-data v.geometry (file_blocks_of (inode v ino).kind) (extents v ino) d (size ∙ ap (λ (x : Geometry). 512 * x.blocks) (sym r.geometry))
        (kept.in_data ino (omega (arith, same)))
    | inr past ↦
        let none : extents v ino ≡ [] = get_or_past v.maps ino [] (omega (arith, r.map_count)) in
        λ block b at. absurd (none-some (disk_at (extents v ino) block) b (ap (λ es. disk_at es block) none) at)
  ]

  spelled : (k : ℕ) (x : NameRow) → row v.names k ≡ Some x → is_name x.name ≡ true
  spelled k x at =
      let below : k < g.names = omega (arith, row-below v.names k x at, r.name_count) in
      (and_parts _ (is_name x.name) (IsNameLine-decode_name (line_bytes f (name_line g k)) x (r.names k below ∙ ap slot_for at)).fields).1

  -- no path is longer than the way up from its end
  short : (path : List (List ℕ)) (ino : ℕ) → walk v.names 0 path ≡ Some ino → length path ≤ longest_path
  short [] ino leads = omega arith
  short (name ∷ names) ino leads = by (parent_of v.names ino) refl
    where
      back : up v.names (suc (length names)) ino ≡ Some 0
      back = up-of_walk (is_directory_in v.inodes) v.names 0 (name ∷ names) ino (kept-forest v kept all) (kept-one_name v kept all ino) leads

      by : (o : Option ℕ) → parent_of v.names ino ≡ o → suc (length names) ≤ longest_path
      by None none = absurd (none-some (up v.names (suc (length names)) ino) 0 (up-top v.names (length names) ino none) back)
      by (Some p) above =
          let named = NamingLine-parent_of v.names ino p above in
          let steps : (n : ℕ) × (n < 16) × (up v.names n named.1.at.parent ≡ Some 0) = (kept-placed v named.1.line named.1.at kept all named.1.is).steps in
          let at_p : up v.names steps.0 p ≡ Some 0 = ap (up v.names steps.0) (sym named.1.parent_is) ∙ steps.2 in
          let depth : suc (length names) ≡ suc steps.0 =
          one-depth (is_directory_in v.inodes) v.names (suc (length names)) (suc steps.0) ino 0 (kept-forest v kept all) back (up-parent v.names steps.0 ino p above ∙ at_p) in
          omega (arith, depth, steps.1)

  pub has-tree : length d ≡ 512 * g.blocks → AllHome d → HasTree v.inodes v.names v.maps d
  has-tree size home = record {
    home = home;
    map_count = r.map_count ∙ sym r.inode_count;
    root = inl (root-node (inode v 0).kind (kept.kinds 0 (omega (arith, same, is.least_inodes))));
    children = λ k x at. (kept-named v k x kept all at).0;
    spelled = spelled;
    keyed = kept-keyed v kept all;
    short = short;
    sizes = sizes;
    inside = λ ino. inside ino size;
  }

pub have-trees : HaveTrees
have-trees g f v d is r kept size home = has-tree g f v d is r kept size home
