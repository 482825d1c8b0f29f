-- The tables of the fresh image, for the tests.
use Rattle.std.proofs.Common.{◌≡◌, ℕ, ◌<◌, true, List, [], All, get_or, replicate, None, sym, ◌∙◌, ap, subst, arith}
use Rattle.std.proofs.lemmas.Bool.{both_ways}
use Rattle.std.proofs.lemmas.List.{get_or-replicate, length-replicate}
use Rattle.k_inodes.specs.image_layout.pm_model.Words.{Words}
use Rattle.k_inodes.specs.image_layout.layout_model.Places.{Geometry, IsGeometry, is_data_block, first_data, data_blocks}
use Rattle.block_pool.specs.extent_model.declared.extent_words.Extent.{Extent}
use Rattle.k_inodes.specs.layout_model.Fresh.{fresh}
use Rattle.k_inodes.specs.layout_model.Names.{Rows, row, is_entry}
use Rattle.k_inodes.specs.layout_model.Tables.{IsKeyed}
use Rattle.map_chain.specs.image_model.FreshVolume.{fresh_volume}
use Rattle.map_chain.specs.image_model.Volume.{Volume, volume}
use Rattle.block_pool.specs.FreeSets.{LiesWithin}
use Rattle.image_laws.specs.volume_laws.ReadingLaws.{reads-volume}
use Rattle.image_laws.specs.FreshLaws.{fresh-reads, row-fresh}
use Rattle.map_chain.specs.image_model.Reading.{Reads}
use Rattle.k_reading.specs.Pools.{AreInData}

pub volume-fresh : (g : Geometry) (f : Words) → IsGeometry g → f ≡ fresh g → volume g f ≡ fresh_volume g
volume-fresh g f is same = ap (volume g) same ∙ reads-volume g (fresh g) (fresh_volume g) (fresh-reads g is)

pub reads-fresh : (g : Geometry) (f : Words) → IsGeometry g → f ≡ fresh g → Reads g f (fresh_volume g)
reads-fresh g f is same = subst (λ h. Reads g h (fresh_volume g)) (sym same) (fresh-reads g is)

none-keyed : (rows : Rows) → ((k : ℕ) → row rows k ≡ None) → IsKeyed rows
none-keyed rows none = record {
  one_line = λ parent name j k first second.
      absurd (both_ways (is_entry parent name (row rows j)) (ap (is_entry parent name) (none j)) first);
}

pub keyed-fresh : (g : Geometry) (f : Words) → IsGeometry g → f ≡ fresh g → IsKeyed (volume g f).names
keyed-fresh g f is same =
    subst (λ (v : Volume). IsKeyed v.names) (sym (volume-fresh g f is same)) (none-keyed (fresh_volume g).names (row-fresh g))

none-all : {X : Type 0} (P : X → Type 0) (n k : ℕ) (d : List X) → k < n → All P (get_or (replicate n []) k d)
none-all P n k d below = subst (λ xs. All P xs) (sym (get_or-replicate n k [] d below)) (λ i e less. absurd (omega arith))

pub in_data-fresh : (g : Geometry) (chains : List (List ℕ)) (maps : List (List Extent))
    → (chains ≡ (fresh_volume g).chains) × (maps ≡ (fresh_volume g).maps) → AreInData g chains maps
in_data-fresh g chains maps same = record {
  blocks = subst (λ (l : List (List ℕ)). All (λ blocks. All (λ b. is_data_block g b ≡ true) blocks) l) (sym same.0)
      (λ k d below. none-all (λ b. is_data_block g b ≡ true) g.inodes k d (omega (arith, below, length-replicate {A = List ℕ} g.inodes [])));
  extents = subst (λ (l : List (List Extent)). All (λ es. All (LiesWithin (first_data g) (data_blocks g)) es) l) (sym same.1)
      (λ k d below. none-all (LiesWithin (first_data g) (data_blocks g)) g.inodes k d (omega (arith, below, length-replicate {A = List Extent} g.inodes [])));
}
