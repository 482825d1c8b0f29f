-- Laws of a walk along a chain that stands in a device.
use Rattle.std.specs.Prelude.{◌≡◌, ◌≢◌, ◌<◌, ◌≤◌, ◌+◌, ◌-◌, ◌*◌, ◌/◌, ◌%◌, ◌^◌, ℕ, zero, suc, ◌∷◌, true, false, List, [], length, Option, Some, None, refl}
use Rattle.std.proofs.Common.{arith, ap, sym, ◌∙◌, subst, inl, inr}
use Rattle.std.proofs.lemmas.Bool.{cases_Bool, cases_eq}
use Rattle.std.proofs.lemmas.List.{get_or_default}
use Rattle.pm_lines.specs.pm_model.declared.Cell.{Cell}
use Rattle.pm_lines.specs.pm_model.CellLaws.{single-home}
use Rattle.pm_lines.specs.pm_model.Cells.{cell, is_lent, newest}
use Rattle.pm_lines.specs.pm_model.ImageLaws.{IsImage-words_of}
use Rattle.pm_lines.specs.pm_model.Images.{words_of}
use Rattle.pm_lines.specs.pm_model.Words.{Words}
use Rattle.k_plans.specs.extent_model.declared.extent_words.Extent.{Extent}
use Rattle.k_plans.specs.extent_model.Extents.{disk_at, disk_in, holds, IsExtent}
use Rattle.k_plans.specs.extent_model.Facts.{disk_at-None, disk_at_is}
use Rattle.k_plans.specs.image_model.Chains.{blocks_from, next_block}
use Rattle.k_plans.specs.image_model.Listed.{listed_at}
use Rattle.k_plans.specs.image_model.Placed.{AreHome, block_at, extent_at, no_extent}
use Rattle.k_plans.specs.image_model.Reading.{Reads}
use Rattle.k_plans.specs.image_model.Standing.{IsChain, IsMapIn}
use Rattle.k_plans.specs.image_model.Volume.{chain, extents, inode, inode_at, Volume}
use Rattle.k_plans.specs.layout_model.Journal.{journaled}
use Rattle.k_plans.specs.layout_model.PlaceLaws.{behind_log-words, journaled-words}
use Rattle.k_plans.specs.layout_model.Places.{commit_word, Geometry}
use Rattle.k_plans.specs.k_split_model.Stands.{Stands}
use Rattle.k_plans.specs.volume_laws.ChainLaws.{chain-count, listed-map}
use Rattle.k_plans.specs.volume_laws.ImageLaws.{journaled-idle}
use Rattle.k_plans.specs.volume_laws.LineWords.{data_word}
use Rattle.k_plans.specs.volume_laws.ReadingLaws.{reads-same}

-- ---- the blocks of a chain

first-of : (f : Words) (root n : ℕ) → 0 < n → block_at (blocks_from f root n) 0 ≡ root
unfolding blocks_from
first-of f root zero some = absurd (omega arith)
first-of f root (suc n) some = refl

next-of : (f : Words) (root n k : ℕ) → k + 1 < n → block_at (blocks_from f root n) (k + 1) ≡ next_block f (block_at (blocks_from f root n) k)
unfolding blocks_from
next-of f root zero k below = absurd (omega (arith, below))
next-of f root (suc zero) k below = absurd (omega (arith, below))
next-of f root (suc (suc n)) zero below = refl
next-of f root (suc (suc n)) (suc k) below =
    let place : suc k + 1 ≡ suc (k + 1) = omega arith in
    ap (block_at (blocks_from f root (suc (suc n)))) place ∙ next-of f (next_block f root) (suc n) k (omega (arith, below))

-- ---- what the words say of each extent

listed_from : Words → List ℕ → ℕ → ℕ → List Extent
listed_from f blocks start zero = []
listed_from f blocks start (suc n) = listed_at f blocks start ∷ listed_from f blocks (start + 1) n

length-listed : (f : Words) (blocks : List ℕ) (start n : ℕ) → length (listed_from f blocks start n) ≡ n
unfolding listed_from
length-listed f blocks start zero = refl
length-listed f blocks start (suc n) = ap suc (length-listed f blocks (start + 1) n)

at-listed : (f : Words) (blocks : List ℕ) (start n k : ℕ) → k < n → extent_at (listed_from f blocks start n) k ≡ listed_at f blocks (start + k)
unfolding listed_from
at-listed f blocks start zero k below = absurd (omega (arith, below))
at-listed f blocks start (suc n) zero below = ap (listed_at f blocks) (omega arith)
at-listed f blocks start (suc n) (suc k) below =
    at-listed f blocks (start + 1) n k (omega (arith, below)) ∙ ap (listed_at f blocks) (omega arith)

pub listed-each : (f : Words) (blocks : List ℕ) (count : ℕ) (es : List Extent) → IsMapIn f blocks count es → (k : ℕ) → k < count
    → extent_at es k ≡ listed_at f blocks k
listed-each f blocks count es map k below =
    let same : listed_from f blocks 0 count ≡ es =
    listed-map f blocks count es (listed_from f blocks 0 count) map (length-listed f blocks 0 count)
    (λ j within. at-listed f blocks 0 count j (omega (arith, within, length-listed f blocks 0 count)) ∙ ap (listed_at f blocks) (omega arith))
    in
    ap (λ (ls : List Extent). extent_at ls k) (sym same) ∙ at-listed f blocks 0 count k below ∙ ap (listed_at f blocks) (omega arith)

-- ---- the walk

-- Extents before number k do not have the file block, and `at` is the block of the chain in which extent k stands.
abbrev pub IsWalked : Words → ℕ → ℕ → ℕ → ℕ → ℕ → ℕ → Type 0
IsWalked f size root count block k at =
    (blocks : List ℕ) (es : List Extent) → IsChain f size root count blocks es
    → (k < count → at ≡ block_at blocks (k / 255)) × ((j : ℕ) → j < k → holds (extent_at es j) block ≡ false)

pub walk-begins : (f : Words) (size root count block : ℕ) → IsWalked f size root count block 0 root
walk-begins f size root count block blocks es chain = (
  λ some. sym (ap (λ (bs : List ℕ). block_at bs 0) chain.linked ∙ first-of f root _ (omega (arith, some))),
  λ j below. absurd (omega (arith, below)),
)

module _ (f : Words) (size root count block k at : ℕ) (walked : IsWalked f size root count block k at) (below : k < count) where
  module _ (blocks : List ℕ) (es : List Extent) (chain : IsChain f size root count blocks es) where
    here : at ≡ block_at blocks (k / 255)
    here = (walked blocks es chain).0 below

    within : k / 255 < length blocks
    within = omega (arith, below, chain-count f size root count blocks es chain)

    pub at-in_device : at < size / 512
    at-in_device = subst (λ b. b < size / 512) (sym here) (chain.in_device (k / 255) within)

    pub at-home : (d : List Cell) → AreHome blocks d → (i : ℕ) → i / 512 ≡ at → is_lent (cell d i) ≡ false
    at-home d home i is = home (k / 255) within i (is ∙ here)

    extent-is : extent_at es k ≡ listed_at f blocks k
    extent-is = listed-each f blocks count es chain.map k below

    in-map : k < length es
    in-map = omega (arith, below, chain.map.counted)

    -- an extent, by the words at `at`
    module _ (e : Extent) (file_is : e.file ≡ f (512 * at + (2 + 2 * (k % 255))) % 2 ^ 32) (disk_is : e.disk ≡ f (512 * at + (2 + 2 * (k % 255))) / 2 ^ 32)
        (count_is : e.count ≡ f (512 * at + (3 + 2 * (k % 255))) % 2 ^ 32) where
      same-file : (extent_at es k).file ≡ e.file
      same-file =
          ap (λ (x : Extent). x.file) extent-is ∙ ap (λ b. f (512 * b + (2 + 2 * (k % 255))) % 2 ^ 32) (sym here) ∙ sym file_is

      same-disk : (extent_at es k).disk ≡ e.disk
      same-disk =
          ap (λ (x : Extent). x.disk) extent-is ∙ ap (λ b. f (512 * b + (2 + 2 * (k % 255))) / 2 ^ 32) (sym here) ∙ sym disk_is

      same-count : (extent_at es k).count ≡ e.count
      same-count =
          ap (λ (x : Extent). x.count) extent-is ∙ ap (λ b. f (512 * b + (3 + 2 * (k % 255))) % 2 ^ 32) (sym here) ∙ sym count_is

      same : extent_at es k ≡ e
      same = λ i. record { file = same-file i; disk = same-disk i; count = same-count i }

      -- its disk blocks are in range
      pub disk-fits : e.disk + e.count < 2 ^ 32
      disk-fits = let fits : IsExtent (extent_at es k) = chain.map.canonical.each k no_extent in-map in omega (arith, fits.on_disk, same-disk, same-count)

      pub walk-finds : (r : Option ℕ) (disk : ℕ) → (holds e block ≡ true → r ≡ Some (disk_in e block)) → (holds e block ≡ false → r ≡ None)
          → r ≡ Some disk → Some disk ≡ disk_at es block
      walk-finds r disk some none is = elim (cases_Bool (holds e block)) [
        | inl has ↦
            sym is ∙ some has ∙ ap (λ x. Some (disk_in x block)) (sym same)
            ∙ sym (disk_at_is es k block no_extent chain.map.canonical in-map (ap (λ x. holds x block) same ∙ has))
        | inr lacks ↦ let never : Some disk ≡ None = sym is ∙ none lacks in absurd (cc)
      ]

      pub walk-misses : (r : Option ℕ) → (holds e block ≡ true → r ≡ Some (disk_in e block)) → r ≡ None → holds (extent_at es k) block ≡ false
      walk-misses r some is = elim (cases_Bool (holds e block)) [
        | inl has ↦ let never : None ≡ Some (disk_in e block) = sym is ∙ some has in absurd (cc)
        | inr lacks ↦ ap (λ x. holds x block) same ∙ lacks
      ]

    next-is : k % 255 ≡ 254 → k + 1 < count → next_block f at ≡ block_at blocks ((k + 1) / 255)
    next-is last more =
        let n : (k + 1) / 255 ≡ k / 255 + 1 = omega (arith, last) in
        ap (next_block f) (here ∙ ap (λ (bs : List ℕ). block_at bs (k / 255)) chain.linked)
        ∙ sym (next-of f root _ (k / 255) (omega (arith, last, more)))
        ∙ ap (λ (bs : List ℕ). block_at bs (k / 255 + 1)) (sym chain.linked) ∙ ap (block_at blocks) (sym n)

    same-is : k % 255 ≢ 254 → at ≡ block_at blocks ((k + 1) / 255)
    same-is other = here ∙ ap (block_at blocks) (omega (arith, other))

  -- the extent does not have the block
  pub walk-goes : (next : ℕ) → (k % 255 ≡ 254 → next ≡ next_block f at) → (k % 255 ≢ 254 → next ≡ at)
      → ((blocks : List ℕ) (es : List Extent) → IsChain f size root count blocks es → holds (extent_at es k) block ≡ false)
      → IsWalked f size root count block (k + 1) next
  walk-goes next moves stays misses blocks es chain = (
    λ more. elim (cases_eq (k % 255) 254) [
      | inl last ↦ moves last ∙ next-is blocks es chain last more
      | inr other ↦ stays other ∙ same-is blocks es chain other
    ],
    λ j before. elim (cases_eq j k) [
      | inl same ↦ ap (λ n. holds (extent_at es n) block) same ∙ misses blocks es chain
      | inr apart ↦ (walked blocks es chain).1 j (omega (arith, before, apart))
    ],
  )

-- no extent has the block
pub walk-ends : (f : Words) (size root count block k at : ℕ) (blocks : List ℕ) (es : List Extent) → IsWalked f size root count block k at → count ≡ k
    → IsChain f size root count blocks es → disk_at es block ≡ None
walk-ends f size root count block k at blocks es walked all chain =
    disk_at-None es block (λ j d below.
    ap (λ (e : Extent). holds e block) (get_or_default es j d no_extent below)
    ∙ (walked blocks es chain).1 j (omega (arith, below, chain.map.counted, all)))

-- ---- the device stands at a volume

-- its words read as the volume
pub reads-standing : (g : Geometry) (u : Volume) (d : List Cell) → Stands g u d → Reads g (words_of d) u
reads-standing g u d stands =
    reads-same g (journaled (words_of d)) (words_of d) u
    (record {
      lines = λ w line. sym (journaled-idle (words_of d) w idle (journaled-words g (w / 8) w line refl));
      chains = λ ino k j below within word.
          sym (journaled-idle (words_of d) _ idle (behind_log-words g _ (data_word g _ j (through.blocks ino below k 0 within) word)));
    })
    through
  where
    through : Reads g (journaled (words_of d)) u
    through = stands.reads (words_of d) (IsImage-words_of d)

    idle : words_of d commit_word ≡ 0
    idle = ap newest stands.idle

pub chain-standing : (g : Geometry) (u : Volume) (d : List Cell) (ino : ℕ) → Stands g u d → ino < g.inodes
    → (blocks : List ℕ) × (es : List Extent) × IsChain (words_of d) (length d) (inode u ino).root (inode u ino).extents blocks es × AreHome blocks d
chain-standing g u d ino stands below = (
  chain u ino,
  extents u ino,
  subst (λ n. IsChain (words_of d) n (inode u ino).root (inode u ino).extents (chain u ino) (extents u ino)) (sym stands.size)
      ((reads-standing g u d stands).chains ino below),
  λ k within i at. single-home (cell d i) (stands.chains ino k i within at),
)

pub chain-words : (g : Geometry) (u : Volume) (d : List Cell) (ino : ℕ) → Stands g u d → ino < g.inodes
    → IsChain (words_of d) (length d) (inode u ino).root (inode u ino).extents (chain u ino) (extents u ino)
chain-words g u d ino stands below =
    subst (λ n. IsChain (words_of d) n (inode u ino).root (inode u ino).extents (chain u ino) (extents u ino)) (sym stands.size)
    ((reads-standing g u d stands).chains ino below)

pub inode-standing : (g : Geometry) (u : Volume) (d : List Cell) (ino : ℕ) → Stands g u d → ino < g.inodes → inode_at (words_of d) ino ≡ Some (inode u ino)
inode-standing g u d ino stands below = (reads-standing g u d stands).inodes ino below
