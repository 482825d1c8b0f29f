-- The content of the images of a change that shows the same files, and its log lines.
use Rattle.std.proofs.Common.{◌≡◌, ℕ, ◌+◌, ◌*◌, ◌/◌, ◌<◌, ◌≤◌, true, false, List, [], length, Some, sym, ◌∙◌, ap, subst, arith, inl, inr}
use Rattle.std.specs.Prelude.{All}
use Rattle.std.proofs.lemmas.Bool.{both_ways, cases_lt}
use Rattle.std.proofs.lemmas.Bool.Decides.{nat_tests}
use Rattle.std.proofs.lemmas.List.{get_or_past}
use Rattle.log_laws.specs.pm_model.declared.Cell.{Cell}
use Rattle.log_laws.specs.pm_model.Images.{Follows}
use Rattle.log_laws.specs.pm_model.Words.{Words}
use Rattle.log_laws.specs.layout_model.Journal.{is_journal_word, journaled}
use Rattle.log_laws.specs.layout_model.PlaceLaws.{behind_log-words, log_line-not_journaled}
use Rattle.log_laws.specs.layout_model.Places.{commit_word, first_data, Geometry, is_data_block, is_journaled_line, log_line}
use Rattle.log_laws.specs.extent_model.Extents.{covers}
use Rattle.log_laws.specs.image_model.Content.{content, disk_of}
use Rattle.log_laws.specs.image_model.Kept.{AreKept}
use Rattle.log_laws.specs.image_model.Live.{is_file, live_entries}
use Rattle.log_laws.specs.image_model.Placed.{block_at, IsOutside}
use Rattle.log_laws.specs.image_model.Reading.{Reads}
use Rattle.log_laws.specs.image_model.Rules.{file_blocks_of}
use Rattle.log_laws.specs.image_model.Volume.{extents, inode, Volume}
use Rattle.k_split.specs.k_plans.LandingLaws.{idle-image}
use Rattle.log_laws.specs.k_split_model.Stands.{IsOldOrNew, Stands}
use Rattle.k_split.specs.MapChanges.{ChangesMaps}
use Rattle.log_laws.specs.volume_laws.Footprint.{SameData, SameLog}
use Rattle.log_laws.specs.volume_laws.FootprintLaws.{content-own, content-read, disk_of-covered}
use Rattle.log_laws.specs.volume_laws.ImageLaws.{journaled-idle, journaled-other}
use Rattle.log_laws.specs.volume_laws.LineWords.{data_word, data_word-not_journaled}
use Rattle.log_laws.specs.volume_laws.SetLaws.{block-outside}
use Rattle.log_laws.specs.volume_laws.PoolLaws.{covered-in_data}
use Rattle.log_laws.specs.world_model.Landed.{kind_file}
use Rattle.log_laws.specs.Logs.{HasSameFiles}
use Rattle.log_laws.proofs.FoundLaws.{same-found}

module _ (g : Geometry) (blocks : List ℕ) (v w : Volume) (before image : Words) (idle : before commit_word ≡ 0) (old : Reads g (journaled before) v)
    (in_data : All (λ b. is_data_block g b ≡ true) blocks) (is : IsOldOrNew g blocks v w before image) where
  -- words of no journaled line, and of none of the blocks, are those of the image before
  same-word : (i : ℕ) → is_journal_word i ≡ false → is_journaled_line g (i / 8) ≡ false → IsOutside blocks i → journaled image i ≡ journaled before i
  same-word i journal line outside =
      journaled-other g image i is.sound journal line ∙ is.others i journal line outside ∙ sym (journaled-idle before i idle journal)

  log-outside : (s i : ℕ) → s < g.log → i / 8 ≡ log_line g s → IsOutside blocks i
  log-outside s i below at k within same =
      let in_range : first_data g ≤ block_at blocks k = let of_data = in_data k 0 within in grind (arith, nat_tests) in
      omega arith

  pub same-log : SameLog g (journaled before) (journaled image)
  same-log = record {
    words = λ s i below at.
        same-word i (behind_log-words g i (omega arith)) (subst (λ line. is_journaled_line g line ≡ false) (sym at) (log_line-not_journaled g s))
        (log-outside s i below at);
  }

  module _ (kept : AreKept v) (unmapped : (ino k : ℕ) → k < length blocks → covers (extents v ino) (block_at blocks k) ≡ false) where
    -- a block that a file reads is a data block, and none of those that are written
    read-in_data : (ino block b : ℕ) → disk_of v (live_entries v (journaled before)) ino block ≡ Some b → is_data_block g b ≡ true
    read-in_data ino block b at =
        let has = disk_of-covered v (live_entries v (journaled before)) ino block b at in
        let inodes_are : v.geometry.inodes ≡ g.inodes = ap (λ (x : Geometry). x.inodes) old.geometry in
        elim (cases_lt has.0 g.inodes) [
          | inl below ↦
              subst (λ h. is_data_block h b ≡ true) old.geometry
              (covered-in_data v.geometry (file_blocks_of (inode v has.0).kind) (extents v has.0) b (kept.in_data has.0 (omega (arith, inodes_are))) has.1)
          | inr past ↦
              let none : covers (extents v has.0) b ≡ false = ap (λ es. covers es b) (get_or_past v.maps has.0 [] (omega (arith, old.map_count))) in
              absurd (both_ways (covers (extents v has.0) b) none has.1)
        ]

    not-read : (ino block b k : ℕ) → disk_of v (live_entries v (journaled before)) ino block ≡ Some b → k < length blocks → block_at blocks k ≡ b → ⊥
    not-read ino block b k at below same =
        let has = disk_of-covered v (live_entries v (journaled before)) ino block b at in
        both_ways (covers (extents v has.0) b) (subst (λ n. covers (extents v has.0) n ≡ false) same (unmapped has.0 k below)) has.1

    same-data : SameData v (live_entries v (journaled before)) (journaled before) (journaled image)
    same-data = record {
      words = λ ino block b j file within at word.
          let data_block = read-in_data ino block b at in
          same-word (512 * b + j) (behind_log-words g (512 * b + j) (data_word g b j data_block word)) (data_word-not_journaled g b j data_block word)
          (block-outside blocks b j word (λ k below. not-read ino block b k at below));
    }

    same-data-new : HasSameFiles v w (journaled before) → SameData w (live_entries w (journaled before)) (journaled before) (journaled image)
    same-data-new files = record {
      words = λ ino block b j file within at word.
          let was : is_file (inode v ino).kind ≡ true = subst (λ kind. is_file kind ≡ true) (files.kind ino) file in
          let kind = kind_file (inode v ino).kind was in
          same-data.words ino block b j was (subst (λ n. 4096 * block < n) (files.size ino kind) within) (sym (files.disk ino block kind) ∙ at) word;
    }

    -- THE CONTENT IS THAT OF THE IMAGE BEFORE.
    pub same-content : HasSameFiles v w (journaled before) → content g image ≡ content g before
    same-content files = elim is.reads [
      | inl r ↦ content-read g v (journaled before) (journaled image) r same-log same-data ∙ sym (content-own g v (journaled before) old)
      | inr r ↦
          content-read g w (journaled before) (journaled image) r same-log (same-data-new files)
          ∙ (same-found v w (journaled before) files ∙ sym (content-own g v (journaled before) old))
    ]

-- ---- the images of a device

-- beside the image before, where the same files are shown
abbrev pub IsBeside : Volume → Volume → Words → Words → Type 0
IsBeside v w before image =
    SameLog v.geometry (journaled before) (journaled image)
    × (HasSameFiles v w (journaled before) → content v.geometry image ≡ content v.geometry before)

pub images-beside : (v w : Volume) (blocks : List ℕ) (old new : List Cell) → Stands v.geometry v old → AreKept v
    → All (λ b. is_data_block v.geometry b ≡ true) blocks → ((ino k : ℕ) → k < length blocks → covers (extents v ino) (block_at blocks k) ≡ false)
    → ChangesMaps blocks v w old new → Follows (IsBeside v w) old new
images-beside v w blocks old new stands kept in_data unmapped changes image is =
    let from = changes.each_image image is in
    let idle = idle-image old from.0 stands.idle from.1.is_image in
    let reads = stands.reads from.0 from.1.is_image in (
      from.0,
      from.1,
      (
        same-log v.geometry blocks v w from.0 image idle reads in_data from.2,
        λ files. same-content v.geometry blocks v w from.0 image idle reads in_data from.2 kept unmapped files,
      ),
    )
