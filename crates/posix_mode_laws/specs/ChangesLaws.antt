-- The changes of a volume with other sizes: one line changes, in both.
use Rattle.std.specs.Prelude.{◌≡◌, ℕ, zero, suc, List, [], ◌∷◌, length, slice_index, slice_set, Some, None, refl}
use Rattle.std.proofs.Common.{arith, ap, ◌∙◌, sym}
use Rattle.world_image_laws.specs.layout_model.declared.lines.Inode.{Inode}
use Rattle.world_image_laws.specs.image_model.Volume.{inode, Volume}
use Rattle.world_image_laws.specs.k_split_model.ChangesChanges.{gone_node, new_node, renamed}
use Rattle.world_image_laws.specs.k_split_model.Taken.{with_map}
use Rattle.posix_mode_laws.specs.Changes.{SizedDropped, SizedMade, SizedRemoved, SizedRenamed, SizedRenamedOverDirectory, SizedRenamedOverFile, SizedSwitched, SizedUnnamed}
use Rattle.posix_mode_laws.specs.Sides.{sized, with_sizes}
use Rattle.posix_mode_laws.specs.Sized.{with_sizes-at}

-- a line that is set, with a size that is set
sizes_set : (xs : List Inode) (ns : List ℕ) (i : ℕ) (x : Inode) (n : ℕ) → length ns ≡ length xs → with_sizes (slice_set xs i x) (slice_set ns i n) ≡ slice_set (with_sizes xs ns) i (record x { size = n })
sizes_set [] ns i x n same = refl
sizes_set (y ∷ xs) [] i x n same = absurd (omega (arith, same))
sizes_set (y ∷ xs) (m ∷ ns) zero x n same = refl
sizes_set (y ∷ xs) (m ∷ ns) (suc i) x n same = ap (λ ys. record y { size = m } ∷ ys) (sizes_set xs ns i x n (omega (arith, same)))

-- a size that is there already
size_there : (ns : List ℕ) (i n : ℕ) → slice_index ns i ≡ n → slice_set ns i n ≡ ns
size_there [] i n is = refl
size_there (m ∷ ns) zero n is = ap (λ k. k ∷ ns) (sym is)
size_there (m ∷ ns) (suc i) n is = ap (λ ks. m ∷ ks) (size_there ns i n is)

-- so of a line whose size stays
line_set : (xs : List Inode) (ns : List ℕ) (i : ℕ) (x : Inode) (n : ℕ) → length ns ≡ length xs → slice_index ns i ≡ n → with_sizes (slice_set xs i x) ns ≡ slice_set (with_sizes xs ns) i (record x { size = n })
line_set xs ns i x n same is = ap (with_sizes (slice_set xs i x)) (sym (size_there ns i n is)) ∙ sizes_set xs ns i x n same

same_generation : (lengths : List ℕ) (v : Volume) (ino : ℕ) → (inode (sized lengths v) ino).generation ≡ (inode v ino).generation
same_generation lengths v ino = ap (λ (x : Inode). x.generation) (with_sizes-at v.inodes lengths ino)

pub sized_made : SizedMade
sized_made lengths kind ino line r v same none =
    let lines = line_set v.inodes lengths ino (new_node kind (inode v ino)) 0 same none in
    let own = same_generation lengths v ino in
    λ i. record v { inodes = (lines ∙ ap (λ (g : ℕ). slice_set (with_sizes v.inodes lengths) ino (new_node kind (record (inode v ino) { generation = g }))) (sym own)) i; names = slice_set v.names line (Some r) }

pub sized_removed : SizedRemoved
sized_removed lengths line ino v same none =
    let lines = line_set v.inodes lengths ino (gone_node (inode v ino)) 0 same none in
    let own = same_generation lengths v ino in
    λ i. record v { inodes = (lines ∙ ap (λ (g : ℕ). slice_set (with_sizes v.inodes lengths) ino (gone_node (record (inode v ino) { generation = g }))) (sym own)) i; names = slice_set v.names line None }

pub sized_unnamed : SizedUnnamed
sized_unnamed lengths line v = refl

pub sized_renamed : SizedRenamed
sized_renamed lengths line r v = refl

pub sized_renamed_over_file : SizedRenamedOverFile
sized_renamed_over_file lengths line r target v = refl

pub sized_renamed_over_directory : SizedRenamedOverDirectory
sized_renamed_over_directory lengths line r target ino v same none = ap (renamed line r) (sized_removed lengths target ino v same none)

pub sized_dropped : SizedDropped
sized_dropped lengths ino v same =
    let lines = sizes_set v.inodes lengths ino (gone_node (inode v ino)) 0 same in
    let own = same_generation lengths v ino in
    λ i. record v {
      inodes = (lines ∙ ap (λ (g : ℕ). slice_set (with_sizes v.inodes lengths) ino (gone_node (record (inode v ino) { generation = g }))) (sym own)) i;
      chains = slice_set v.chains ino [];
      maps = slice_set v.maps ino [];
    }

pub sized_switched : SizedSwitched
sized_switched lengths ino size x blocks es v same =
    let lines = sizes_set v.inodes lengths ino (with_map blocks es x) size same in
    λ i. record v { inodes = lines i; chains = slice_set v.chains ino blocks; maps = slice_set v.maps ino es }
