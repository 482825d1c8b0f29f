-- How many blocks the chain of a changed map takes, beside what is kept in reserve.
use Rattle.std.specs.Prelude.{◌≡◌, ℕ, zero, suc, ◌+◌, ◌-◌, ◌<◌, ◌≤◌, Bool, true, List, length, None}
use Rattle.std.proofs.Common.{arith, ap, ◌∙◌, inl, inr, get_or}
use Rattle.std.proofs.lemmas.Bool.{cases_Bool, cases_lt}
use Rattle.std.proofs.lemmas.Bool.Decides.{nat_tests}
use Rattle.std.proofs.lemmas.List.{get_or_default}
use Rattle.name_laws.specs.k_split_model.block_counts.Counts.{chains_for}
use Rattle.name_laws.specs.k_split_model.layout_model.Places.{is_data_block, reserve}
use Rattle.name_laws.specs.k_split_model.extent_model.declared.extent_words.Extent.{Extent}
use Rattle.name_laws.specs.k_split_model.extent_model.Extents.{disk_at, holds_disk, IsCanonical, IsExtent}
use Rattle.name_laws.specs.k_split_model.extent_model.Maps.{IsPart}
use Rattle.name_laws.specs.volume_laws.extent_model.Counts.{count_below, one_if}
use Rattle.name_laws.specs.k_split_model.image_model.Kept.{AreKept}
use Rattle.name_laws.specs.k_split_model.image_model.Placed.{extent_at, no_extent}
use Rattle.name_laws.specs.k_split_model.image_model.Rules.{file_blocks_of}
use Rattle.name_laws.specs.k_split_model.image_model.Volume.{Volume, extents, inode}
use Rattle.name_laws.specs.KeptLaws.{HasAllLines}
use Rattle.name_laws.specs.volume_laws.BoundLaws.{chains-bound}
use Rattle.name_laws.specs.volume_laws.OwnerLaws.{one_use}
use Rattle.name_laws.specs.volume_laws.PoolLaws.{covered-in_data}
use Rattle.name_laws.specs.volume_laws.UseLaws.{covers-in_map, in_map-at}
use Rattle.name_laws.specs.volume_laws.Uses.{in_map}
use Rattle.volume_change_laws.specs.Hits.{hits, in_map-hits, is_disk}

-- ---- parts of a map

-- no more pass where fewer pass one by one
pub count_below-most : (f g : ℕ → Bool) (n : ℕ) → ((k : ℕ) → one_if (f k) ≤ one_if (g k)) → count_below f n ≤ count_below g n
unfolding count_below
count_below-most f g zero each = omega arith
count_below-most f g (suc n) each = omega (arith, count_below-most f g n each, each n)

-- a part of a map has no block more often than the map
pub in_map-part : (chosen : ℕ → Bool) (whole part : List Extent) (b : ℕ) → IsCanonical whole → IsPart chosen whole part
    → in_map part b ≤ in_map whole b
in_map-part chosen whole part b c is =
    let each : (k : ℕ) → one_if (hits part b k) ≤ one_if (hits whole b k) = λ k. elim (cases_Bool (chosen k)) [
      | inl in_part ↦
          let same : disk_at part k ≡ disk_at whole k = rw in_part at (is.blocks k) in
          omega (arith, ap (λ d. one_if (is_disk d b)) same)
      | inr not_in ↦
          let none : disk_at part k ≡ None = rw not_in at (is.blocks k) in
          omega (arith, ap (λ d. one_if (is_disk d b)) none)
    ] in
    omega (arith, in_map-hits part b is.canonical, in_map-hits whole b c, count_below-most (hits part b) (hits whole b) 4096 each)

-- ---- what the reserve has room for

-- A map of data blocks, each at most once: the reserve has room for its chain, and for three blocks more.
pub map-bound : (v : Volume) (es : List Extent) → IsCanonical es → ((b : ℕ) → in_map es b ≤ 1)
    → ((b : ℕ) → 1 ≤ in_map es b → is_data_block v.geometry b ≡ true) → chains_for (length es) + 3 ≤ reserve v.geometry
map-bound v es c once in_data =
    chains-bound v 4096 es c
    (λ k d within.
    let e : Extent = get_or es k d in
    let is : IsExtent e = c.each k d within in
    let same : extent_at es k ≡ e = get_or_default es k no_extent d within in
    let filled = is.filled in
    let first : holds_disk e e.disk ≡ true = grind (arith, nat_tests, filled) in
    let last : holds_disk e (e.disk + (e.count - 1)) ≡ true = grind (arith, nat_tests, filled) in
    let low = in_data e.disk (in_map-at es k e.disk within (ap (λ y. holds_disk y e.disk) same ∙ first)) in
    let high = in_data (e.disk + (e.count - 1)) (in_map-at es k (e.disk + (e.count - 1)) within (ap (λ y. holds_disk y (e.disk + (e.count - 1))) same ∙ last)) in
    (is.in_file, grind (arith, nat_tests, low), grind (arith, nat_tests, high, filled)))
    (λ b data_block. once b)

-- the blocks of the map of an inode: data blocks, each once
pub own-data : (v : Volume) (ino b : ℕ) → AreKept v → HasAllLines v → ino < length v.inodes → 1 ≤ in_map (extents v ino) b
    → is_data_block v.geometry b ≡ true
own-data v ino b kept lines below has =
    covered-in_data v.geometry (file_blocks_of (inode v ino).kind) (extents v ino) b
    (kept.in_data ino (omega (arith, below, lines.inode_count)))
    (covers-in_map (extents v ino) b has)

pub own-once : (v : Volume) (ino b : ℕ) → AreKept v → HasAllLines v → ino < length v.inodes → in_map (extents v ino) b ≤ 1
own-once v ino b kept lines below = elim (cases_lt 0 (in_map (extents v ino) b)) [
  | inl has ↦ omega (arith, one_use v b ino (kept.once b (own-data v ino b kept lines below (omega arith))) below)
  | inr past ↦ omega arith
]

-- so the reserve has room for the chain of a part of the map of an inode
pub part-bound : (v : Volume) (ino : ℕ) (chosen : ℕ → Bool) (part : List Extent) → AreKept v → HasAllLines v → ino < length v.inodes
    → IsCanonical (extents v ino) → IsPart chosen (extents v ino) part → chains_for (length part) + 3 ≤ reserve v.geometry
part-bound v ino chosen part kept lines below c is =
    map-bound v part is.canonical
    (λ b. omega (arith, in_map-part chosen (extents v ino) part b c is, own-once v ino b kept lines below))
    (λ b has. own-data v ino b kept lines below (omega (arith, has, in_map-part chosen (extents v ino) part b c is)))
