-- Sizes are no part of what makes a volume sane.
use Rattle.std.specs.Prelude.{◌≡◌, ◌⊎◌, ◌≤◌, ℕ, zero, suc, All, true, List, [], ◌∷◌, length, Option, Some, None, slice_index_or, refl}
use Rattle.std.specs.List.{flat_map, range_with_len}
use Rattle.std.proofs.Common.{ap, ◌∙◌, sym, subst}
use Rattle.world_image_laws.specs.layout_model.declared.lines.Inode.{Inode}
use Rattle.world_image_laws.specs.layout_model.Lines.{NameRow}
use Rattle.world_image_laws.specs.layout_model.Names.{row}
use Rattle.world_image_laws.specs.image_model.Kept.{IsNamedRow}
use Rattle.world_image_laws.specs.image_model.Live.{is_directory, is_file}
use Rattle.world_image_laws.specs.image_model.Rules.{file_blocks_of, IsInData, IsKindAt, IsRowPlaced}
use Rattle.world_image_laws.specs.image_model.Uses.{owners, uses_by}
use Rattle.world_image_laws.specs.image_model.Volume.{chain, extents, free_inode, inode, Volume}
use Rattle.posix_mode_laws.specs.Laws.{KeepsSane}
use Rattle.posix_mode_laws.specs.Sides.{sized, with_sizes}

pub length-with_sizes : (xs : List Inode) (ns : List ℕ) → length (with_sizes xs ns) ≡ length xs
length-with_sizes [] ns = refl
length-with_sizes (x ∷ xs) [] = refl
length-with_sizes (x ∷ xs) (n ∷ ns) = ap suc (length-with_sizes xs ns)

-- a line changes in its size alone
pub with_sizes-at : (xs : List Inode) (ns : List ℕ) (i : ℕ)
    → slice_index_or (with_sizes xs ns) i free_inode ≡ record (slice_index_or xs i free_inode) { size = (slice_index_or (with_sizes xs ns) i free_inode).size }
with_sizes-at [] ns i = refl
with_sizes-at (x ∷ xs) [] i = refl
with_sizes-at (x ∷ xs) (n ∷ ns) zero = refl
with_sizes-at (x ∷ xs) (n ∷ ns) (suc i) = with_sizes-at xs ns i

pub kind-sized : (lengths : List ℕ) (v : Volume) (ino : ℕ) → (inode (sized lengths v) ino).kind ≡ (inode v ino).kind
kind-sized lengths v ino = ap (λ (x : Inode). x.kind) (with_sizes-at v.inodes lengths ino)

owners-sized : (lengths : List ℕ) (v : Volume) (b : ℕ) → owners (sized lengths v) b ≡ owners v b
unfolding owners
owners-sized lengths v b = ap (λ n. flat_map (λ i. uses_by i (chain v i) (extents v i) b) (range_with_len 0 n)) (length-with_sizes v.inodes lengths)

pub sane_sized : KeepsSane
sane_sized lengths v sane = record {
  kept = record {
    kinds = λ ino below. subst (IsKindAt ino) (sym (kind-sized lengths v ino)) (sane.kept.kinds ino below);
    named = λ k below. named (row v.names k) (sane.kept.named k below);
    in_data = λ ino below. subst (λ kind. All (IsInData v.geometry (file_blocks_of kind)) (extents v ino)) (sym (kind-sized lengths v ino)) (sane.kept.in_data ino below);
    once = λ b is. subst (λ us. length us ≤ 1) (sym (owners-sized lengths v b)) (sane.kept.once b is);
    placed = λ k below. placed k (row v.names k) (sane.kept.placed k below);
    directories = record {
      each = λ ino after is. sane.kept.directories.each ino after (subst (λ kind. is_directory kind ≡ true) (kind-sized lengths v ino) is);
      root = sane.kept.directories.root;
    };
    one_name = sane.kept.one_name;
  };
  inode_count = length-with_sizes v.inodes lengths ∙ sane.inode_count;
  name_count = sane.name_count;
  chain_count = sane.chain_count;
  map_count = sane.map_count;
  spelled = sane.spelled;
} where
  named : (o : Option NameRow) → IsNamedRow v o → IsNamedRow (sized lengths v) o
  named None is = tt
  named (Some r) is = (subst (λ kind. (is_directory kind ≡ true) ⊎ (is_file kind ≡ true)) (sym (kind-sized lengths v r.child)) is.0, is.1)

  placed : (k : ℕ) (o : Option NameRow) → IsRowPlaced v k o → IsRowPlaced (sized lengths v) k o
  placed k None is = tt
  placed k (Some r) is = record { parent = subst (λ kind. is_directory kind ≡ true) (sym (kind-sized lengths v r.parent)) is.parent; only = is.only; steps = is.steps }
