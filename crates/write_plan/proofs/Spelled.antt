-- The words of a write spell its file.
use Rattle.std.proofs.Common.{◌≡◌, ◌<◌, ◌+◌, ◌-◌, ◌*◌, ◌/◌, ◌%◌, ◌^◌, ℕ, true, List, length, Option, None, Some, refl, arith, ap, ◌∙◌, sym, subst}
use Rattle.std.specs.Prelude.{map}
use Rattle.std.specs.List.{range_with_len}
use Rattle.layout_model.specs.pm_model.Cells.{newest}
use Rattle.layout_model.specs.pm_model.ImageLaws.{IsImage-words_of}
use Rattle.layout_model.specs.pm_model.Images.{words_of}
use Rattle.layout_model.specs.pm_model.Words.{byte_of, Words}
use Rattle.live_model.specs.data_route.Reads.{read_len, source_by, source_of}
use Rattle.file_overlay.specs.Runs.{staged_at}
use Rattle.live_model.specs.data_route.declared.reads.Source.{Source}
use Rattle.live_model.specs.data_route.declared.reads.Source.TheVariants.{Disk, Staged, Zero}
use Rattle.layout_model.specs.Journal.{journaled}
use Rattle.layout_model.specs.PlaceLaws.{behind_log-words}
use Rattle.layout_model.specs.Places.{is_data_block}
use Rattle.layout_model.specs.declared.lines.Draft.{Draft}
use Rattle.live_model.specs.image_model.Content.{byte_in}
use Rattle.live_model.specs.image_model.Rules.{file_blocks_of}
use Rattle.live_model.specs.image_model.Volume.{extents, inode, Volume}
use Rattle.file_overlay.specs.extent_model.Covers.{covers-disk_at}
use Rattle.file_overlay.specs.extent_model.Extents.{disk_at}
use Rattle.live_model.specs.volume_laws.ImageLaws.{journaled-idle}
use Rattle.live_model.specs.volume_laws.LineWords.{data_word}
use Rattle.live_model.specs.volume_laws.PoolLaws.{covered-in_data}
use Rattle.live_model.specs.file_reads.Reads.{block_in, block_of, bytes_in}
use Rattle.file_table.specs.Files.{runs_in, size_in}
use Rattle.live_model.proofs.Readable.{flies_readable}
use Rattle.live_model.proofs.write_jobs_proofs.Staged.{spells_whole}
use Rattle.live_model.specs.k_split_model.View.{View}
use Rattle.live_model.proofs.OverlaysOverlays.{reads_file}
use Rattle.posix_tables.specs.Bytes.{bytes_from}
use Rattle.posix_tables.specs.Nodes.{bytes_of, node_at}
use Rattle.open_files.specs.posix_spec.State.{State}
use Rattle.live_model.specs.world_model.TreeRules.{used_below}
use Rattle.live_model.specs.world_model.Jobs.{live_claims, Valid}
use Rattle.live_model.specs.world_model.Stands.{is_used, number}
use Rattle.live_model.specs.write_jobs.Contents.{SpellBytes, staged_bytes}
use Rattle.live_model.specs.Standing.{file_state}
use Rattle.write_plan.proofs.Numbers.{file_node}
use Rattle.file_table.specs.Files.{Files}
use Rattle.live_model.specs.world_model.Jobs.{Job}
use Rattle.write_plan.specs.Shown.{ShowsFile, StagesWhatIsShown}
use Rattle.write_plan.specs.Words.{StagesTheFile, StandsReadable}

pub stands_readable : StandsReadable
stands_readable g k t kept lines n s ino stands file =
    flies_readable k.volume k.cells kept.claims stands.jobs (file_state kept.files) stands.numbers s stands.count ino stands.flying file

module _ (k : View) (v : Volume) (claims : List (ℕ × Draft)) (jobs : List Job) (files : Files) (numbers : List ℕ) (s : State) (count ino : ℕ) (shows : ShowsFile k v claims jobs files numbers s count ino) where
  abbrev w : Words
  w = words_of k.cells

  valid : Valid v claims jobs (journaled w) numbers s
  valid = shows.world.valid

  -- a block that a map gives is a data block
  in_data : (x b block : ℕ) → x < length v.inodes → disk_at (extents v x) block ≡ Some b → is_data_block v.geometry b ≡ true
  in_data x b block below at =
      covered-in_data v.geometry (file_blocks_of (inode v x).kind) (extents v x) b (valid.stands.sane.kept.in_data x (omega (arith, below, valid.stands.sane.inode_count)))
      (covers-disk_at (extents v x) block b at)

  data_in : (block b : ℕ) → block_in v (runs_in files ino) ino block ≡ Some b → is_data_block v.geometry b ≡ true
  data_in block b is = by (source_of (runs_in files ino) (extents v ino) block) refl is where
    mapped : (c : ℕ) → source_of (runs_in files ino) (extents v ino) block ≡ Disk c → disk_at (extents v ino) block ≡ Some c
    mapped c same = by_parts (staged_at (runs_in files ino) block) (disk_at (extents v ino) block) same where
      by_parts : (o : Option (ℕ × ℕ)) (d : Option ℕ) → source_by o d ≡ Disk c → d ≡ Some c
      by_parts (Some place) d is_disk = cc
      by_parts None (Some x) is_disk = cc
      by_parts None None is_disk = cc

    by : (source : Source) → source_of (runs_in files ino) (extents v ino) block ≡ source → block_of v source ≡ Some b → is_data_block v.geometry b ≡ true
    by (Disk c) same at =
        in_data ino b block (used_below v ino (ap is_used shows.file)) (mapped c same ∙ at)
    by (Staged staging place) same at = in_data staging b place ((shows.readable block).staged staging place same) at
    by Zero same at = cc

  -- a byte of a data block is the same as the journal shows it
  plain : (b i : ℕ) → is_data_block v.geometry b ≡ true → i < 4096 → byte_of (journaled w) (4096 * b + i) ≡ byte_of w (4096 * b + i)
  plain b i of_data within =
      let word : (4096 * b + i) / 8 ≡ 512 * b + i / 8 = omega arith in
      let behind = data_word v.geometry b (i / 8) of_data (omega (arith, within)) in
      ap (λ x. x / 256 ^ ((4096 * b + i) % 8) % 256)
      (journaled-idle w ((4096 * b + i) / 8) (ap newest shows.idle) (behind_log-words v.geometry ((4096 * b + i) / 8) (omega (arith, word, behind))))

  same_byte : (i : ℕ) → byte_in (journaled w) (block_in v (runs_in files ino) ino (i / 4096)) i ≡ byte_in w (block_in v (runs_in files ino) ino (i / 4096)) i
  same_byte i = by (block_in v (runs_in files ino) ino (i / 4096)) refl where
    by : (o : Option ℕ) → block_in v (runs_in files ino) ino (i / 4096) ≡ o → byte_in (journaled w) o i ≡ byte_in w o i
    by None is = refl
    by (Some b) is = plain b (i % 4096) (data_in (i / 4096) b is) (omega arith)

  -- so what is read is of the file
  pub read_of_file : (first len : ℕ) → bytes_from (bytes_of (node_at s.nodes (number numbers ino))) first len ≡ bytes_in v w (runs_in files ino) ino first (read_len (size_in files ino) first len)
  read_of_file first len =
      reads_file v (live_claims v claims) (journaled w) ino (size_in files ino) (runs_in files ino) (bytes_of (node_at s.nodes (number numbers ino))) first len valid.stands.log
      (shows.overlays ino shows.file)
      (file_node v (live_claims v claims) (journaled w) ino (inode v ino).kind (node_at s.nodes (number numbers ino)) shows.file (valid.stands.nodes.each ino (ap is_used shows.file)))
      ∙ (λ step. map (λ i. same_byte i step) (range_with_len first (read_len (size_in files ino) first len)))

  -- by K-Split's maps, which are the same
  pub old_of_file : (first len : ℕ) → bytes_from (bytes_of (node_at s.nodes (number numbers ino))) first len ≡ bytes_in k.volume w (runs_in files ino) ino first (read_len (size_in files ino) first len)
  old_of_file first len =
      read_of_file first len ∙ (λ i. bytes_in (record k.volume { maps = shows.maps i }) w (runs_in files ino) ino first (read_len (size_in files ino) first len))

pub stages_what_is_shown : StagesWhatIsShown
stages_what_is_shown k v claims jobs files numbers s count ino start new words draft shows first fits spell =
    spells_whole draft words (bytes_of (node_at s.nodes (number numbers ino))) new start (omega (arith, first)) (omega (arith, first, fits)) (
    subst (λ (b : ℕ). SpellBytes words (staged_bytes (bytes_from (bytes_of (node_at s.nodes (number numbers ino))) (4096 * b) (4096 * draft.count)) (start - 4096 * b) new draft.count)) (sym first)
    (subst (λ (old : List ℕ). SpellBytes words (staged_bytes old (start - 4096 * (start / 4096)) new draft.count))
    (sym (old_of_file k v claims jobs files numbers s count ino shows (4096 * (start / 4096)) (4096 * draft.count))) spell))

pub stages_the_file : StagesTheFile
stages_the_file g k t kept lines n s ino start new words draft stands file =
    stages_what_is_shown k k.volume kept.claims stands.jobs kept.files stands.numbers s stands.count ino start new words draft (record {
      file = file;
      world = stands.flying.device.world (words_of k.cells) (IsImage-words_of k.cells);
      overlays = stands.flying.overlays;
      maps = refl;
      readable = stands_readable g k t kept lines n s ino stands file;
      idle = stands.flying.device.stands.idle;
    })
