-- The content of the images of a change, by the footprint of contents.
use Rattle.std.proofs.Common.{◌≡◌, ◌≢◌, ℕ, ◌+◌, ◌*◌, ◌/◌, ◌<◌, ◌≤◌, true, false, List, [], length, All, Some, sym, ◌∙◌, ap, subst, arith, inl, inr}
use Rattle.std.proofs.lemmas.Bool.{both_ways, cases_lt}
use Rattle.std.proofs.lemmas.Bool.Decides.{nat_tests}
use Rattle.std.proofs.lemmas.List.{get_or_past}
use Rattle.block_io.specs.pm_model.declared.Cell.{Cell}
use Rattle.block_io.specs.pm_model.CellLaws.{newest-candidate}
use Rattle.block_io.specs.pm_model.Cells.{cell, newest}
use Rattle.block_io.specs.pm_model.Images.{words_of}
use Rattle.block_io.specs.pm_model.Words.{Words}
use Rattle.block_io.specs.layout_model.Journal.{is_journal_word, journaled}
use Rattle.block_io.specs.layout_model.PlaceLaws.{behind_log-words, log_line-not_journaled}
use Rattle.block_io.specs.layout_model.Places.{commit_word, first_data, Geometry, is_data_block, is_journaled_line, log_line}
use Rattle.block_io.specs.extent_model.Extents.{covers}
use Rattle.layout_model.specs.declared.lines.Draft.{Draft}
use Rattle.block_io.specs.image_model.Content.{content, disk_of, found}
use Rattle.block_io.specs.image_model.Kept.{AreKept}
use Rattle.block_io.specs.image_model.Live.{live_entries}
use Rattle.block_io.specs.image_model.Placed.{block_at, IsOutside}
use Rattle.block_io.specs.image_model.Reading.{Reads}
use Rattle.block_io.specs.image_model.Rules.{file_blocks_of}
use Rattle.block_io.specs.image_model.Volume.{Volume, extents, inode}
use Rattle.k_tables.specs.volume_laws.Footprint.{SameData, SameLog}
use Rattle.k_tables.specs.volume_laws.FootprintLaws.{content-own, content-read, disk_of-covered, found-same}
use Rattle.k_tables.specs.volume_laws.ImageLaws.{journaled-idle, journaled-other}
use Rattle.k_tables.specs.volume_laws.LineWords.{data_word, data_word-not_journaled}
use Rattle.k_tables.specs.volume_laws.SetLaws.{block-outside}
use Rattle.k_map_plans.specs.volume_laws.PoolLaws.{covered-in_data, unused-uncovered}
use Rattle.k_map_plans.specs.volume_laws.Uses.{is_unused}
use Rattle.k_map_plans.specs.k_plans.LandingLaws.{idle-image}
use Rattle.k_map_plans.specs.k_plans.WrittenLaws.{unused-apart}
use Rattle.k_tables.specs.k_split_model.Stands.{IsOldOrNew, Stands}
use Rattle.k_split.specs.Contents.{AreOwnBlocks, HasNoBlocks, HasOldOrNew, HaveOldOrNew}

-- a block that a file reads is a data block
read-in_data : (g : Geometry) (f : Words) (v : Volume) (live : List Draft) (ino block b : ℕ) → Reads g f v → AreKept v
    → disk_of v live ino block ≡ Some b → is_data_block g b ≡ true
read-in_data g f v live ino block b r kept is =
    let has = disk_of-covered v live ino block b is in
    let inodes_are : v.geometry.inodes ≡ g.inodes = ap (λ (x : Geometry). x.inodes) r.geometry in
    elim (cases_lt has.0 g.inodes) [
      | inl below ↦
          subst (λ h. is_data_block h b ≡ true) r.geometry
          (covered-in_data v.geometry (file_blocks_of (inode v has.0).kind) (extents v has.0) b (kept.in_data has.0 (omega (arith, inodes_are))) has.1)
      | inr past ↦
          let none : covers (extents v has.0) b ≡ false =
          ap (λ es. covers es b) (get_or_past v.maps has.0 [] (omega (arith, r.map_count))) in
          let never : false ≡ true = sym none ∙ has.1 in
          absurd (cc)
    ]

-- the log lines lie outside data blocks
log-outside : (g : Geometry) (blocks : List ℕ) (s i : ℕ) → All (λ b. is_data_block g b ≡ true) blocks → s < g.log → i / 8 ≡ log_line g s → IsOutside blocks i
log-outside g blocks s i in_data below at k within same =
    let in_range : first_data g ≤ block_at blocks k = let of_data = in_data k 0 within in grind (arith, nat_tests) in
    omega arith

-- what no map of a volume has, no file reads
not-read : (x : Volume) (live : List Draft) (ino block b c : ℕ) → ((i : ℕ) → covers (extents x i) c ≡ false) → disk_of x live ino block ≡ Some b → c ≢ b
not-read x live ino block b c unmapped at same =
    let has = disk_of-covered x live ino block b at in
    both_ways (covers (extents x has.0) b) (subst (λ n. covers (extents x has.0) n ≡ false) same (unmapped has.0)) has.1

-- blocks that no inode has are in no map
unused-unmapped : (g : Geometry) (f : Words) (v : Volume) (b ino : ℕ) → Reads g f v → is_unused v b ≡ true → covers (extents v ino) b ≡ false
unused-unmapped g f v b ino r unused = elim (cases_lt ino (length v.inodes)) [
  | inl below ↦ unused-uncovered v b ino below unused
  | inr past ↦ ap (λ es. covers es b) (get_or_past v.maps ino [] (omega (arith, r.inode_count, r.map_count)))
]

module _ (g : Geometry) (blocks : List ℕ) (v w : Volume) (before image : Words) (idle : before commit_word ≡ 0) (old : Reads g (journaled before) v)
    (in_data : All (λ b. is_data_block g b ≡ true) blocks) (own : AreOwnBlocks v w blocks) (is : IsOldOrNew g blocks v w before image) where
  -- words of no journaled line, and of none of the blocks, are those of the image before
  same_word : (i : ℕ) → is_journal_word i ≡ false → is_journaled_line g (i / 8) ≡ false → IsOutside blocks i → journaled image i ≡ journaled before i
  same_word i journal line outside =
      journaled-other g image i is.sound journal line ∙ is.others i journal line outside ∙ sym (journaled-idle before i idle journal)

  same_log : SameLog g (journaled before) (journaled image)
  same_log = record {
    words = λ s i below at.
        same_word i (behind_log-words g i (omega arith)) (subst (λ line. is_journaled_line g line ≡ false) (sym at) (log_line-not_journaled g s))
        (log-outside g blocks s i in_data below at);
  }

  same_data : (x : Volume) (f : Words) (live : List Draft) → Reads g f x → AreKept x
      → ((ino k : ℕ) → k < length blocks → covers (extents x ino) (block_at blocks k) ≡ false)
      → SameData x live (journaled before) (journaled image)
  same_data x f live r kept unmapped = record {
    words = λ ino block b j file within at word.
        let data_block = read-in_data g f x live ino block b r kept at in
        same_word (512 * b + j) (behind_log-words g (512 * b + j) (data_word g b j data_block word)) (data_word-not_journaled g b j data_block word)
        (block-outside blocks b j word (λ k below. not-read x live ino block b (block_at blocks k) (λ i. unmapped i k below) at));
  }

  pub old-or-new : AreKept v → AreKept w → HasOldOrNew g w before image
  old-or-new v_kept w_kept = elim is.reads [
    | inl r ↦
        inl (content-read g v (journaled before) (journaled image) r same_log
        (same_data v (journaled image) (live_entries v (journaled before)) r v_kept
        (λ ino k below. unused-unmapped g (journaled before) v (block_at blocks k) ino old (own.unused k 0 below)))
        ∙ sym (content-own g v (journaled before) old))
    | inr r ↦
        inr (content-read g w (journaled before) (journaled image) r same_log
        (same_data w (journaled image) (live_entries w (journaled before)) r w_kept own.unmapped))
  ]

pub have-old-or-new : HaveOldOrNew
have-old-or-new g blocks v w old new stands v_kept w_kept own follows image is =
    let from = follows image is in (
      from.0,
      from.1,
      old-or-new g blocks v w from.0 image (idle-image old from.0 stands.idle from.1.is_image) (stands.reads from.0 from.1.is_image)
          (unused-apart g v old blocks stands own.unused).in_data own from.2 v_kept w_kept,
    )

pub none-own : HasNoBlocks
none-own v w = record { unused = λ k d below. absurd (omega arith); unmapped = λ ino k below. absurd (omega arith) }

-- ---- the content of the device itself

-- What the volume makes of the words of the device is its content, where no entry of the log is live.
module _ (g : Geometry) (v : Volume) (d : List Cell) (stands : Stands g v d) (kept : AreKept v) where
  pub reads-words : Reads g (journaled (words_of d)) v
  reads-words = stands.reads (words_of d) (λ i. newest-candidate (cell d i))

  no_commit : words_of d commit_word ≡ 0
  no_commit = ap newest stands.idle

  same-as-read : SameData v [] (words_of d) (journaled (words_of d))
  same-as-read = record {
    words = λ ino block b j file within at word.
        let in_data = read-in_data g (journaled (words_of d)) v [] ino block b reads-words kept at in
        journaled-idle (words_of d) (512 * b + j) no_commit (behind_log-words g (512 * b + j) (data_word g b j in_data word));
  }

  pub content-words : live_entries v (journaled (words_of d)) ≡ [] → content g (words_of d) ≡ found v [] (words_of d)
  content-words none =
      content-own g v (journaled (words_of d)) reads-words
      ∙ ap (λ live. found v live (journaled (words_of d))) none
      ∙ found-same v [] (words_of d) (journaled (words_of d)) same-as-read
