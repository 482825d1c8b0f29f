-- The bytes of files in POSIX mode: each file can be read, by what is staged of it and by its map, and what is read are the bytes of the
-- calls' state.
use Rattle.std.specs.Prelude.{◌≡◌, ◌<◌, ◌+◌, ◌*◌, ◌%◌, ◌/◌, ◌==◌, ◌&&◌, ℕ, Bool, true, false, List, [], length, Option, Some, None, option_map, refl}
use Rattle.std.proofs.Common.{arith, ap, ◌∙◌, sym, subst, inl, inr}
use Rattle.std.proofs.lemmas.Bool.{cases_lt}
use Rattle.std.proofs.lemmas.Bool.Decides.{nat_tests}
use Rattle.std.proofs.lemmas.List.{get_or_past}
use Rattle.eof_laws.specs.pm_model.Cells.{cell, is_lent, newest}
use Rattle.eof_laws.specs.pm_model.ImageLaws.{IsImage-words_of}
use Rattle.eof_laws.specs.pm_model.Images.{words_of}
use Rattle.eof_laws.specs.layout_model.Journal.{journaled}
use Rattle.eof_laws.specs.layout_model.Places.{Geometry, is_data_block, log_line}
use Rattle.layout_model.specs.declared.lines.Draft.{Draft}
use Rattle.layout_model.specs.declared.lines.Inode.{Inode}
use Rattle.layout_model.specs.declared.lines.Kind.TheVariants.{File, Staging}
use Rattle.eof_laws.specs.extent_model.Extents.{disk_at, is_within}
use Rattle.eof_laws.specs.image_model.Content.{disk_of, entry_of_block}
use Rattle.eof_laws.specs.image_model.Volume.{extents, free_inode, inode, Volume}
use Rattle.eof_laws.specs.file_overlay.Runs.{place_in}
use Rattle.eof_laws.specs.file_table.Files.{Files, runs_in, size_in}
use Rattle.eof_laws.specs.k_split_model.View.{View}
use Rattle.live_step_laws.specs.data_route.declared.reads.Source.TheVariants.{Staged}
use Rattle.live_step_laws.specs.data_route.Reads.{read_len, source_by}
use Rattle.live_step_laws.specs.file_reads.Reads.{bytes_in, FileCanBeRead, IsReadable}
use Rattle.live_step_laws.specs.live_model.Overlays.{IsOverlayOf, run_of}
use Rattle.live_step_laws.proofs.live_model_proofs.OverlaysOverlays.{overlay_is_log, source_is_log}
use Rattle.live_step_laws.specs.world_model.Jobs.{live_claims}
use Rattle.live_step_laws.specs.world_model.Latest.{latest-In}
use Rattle.live_step_laws.specs.world_model.Lent.{disk_of-in_data}
use Rattle.live_step_laws.specs.world_step_laws.Worlds.{IsWorld}
use Rattle.live_step_laws.specs.world_model.Stands.{FileStands, is_used, LogStands, number}
use Rattle.open_files.specs.list_laws.Filters.{filter-In}
use Rattle.open_files.specs.list_laws.Members.{In}
use Rattle.posix_types.specs.declared.item.Item.{Item}
use Rattle.posix_tables.specs.Bytes.{bytes_from}
use Rattle.posix_tables.specs.Nodes.{bytes_of, node_at}
use Rattle.open_files.specs.posix_spec.Run.{run}
use Rattle.open_files.specs.posix_spec.State.{State}
use Rattle.batch_laws.specs.Ready.{GoesReady}
use Rattle.batch_laws.specs.Standing.{as_claims, staged_of}
use Rattle.batch_laws.specs.WorldsLaws.{live_is_world, staged_is_overlay}
use Rattle.batch_laws.specs.posix_mode_laws.Sides.{sized}
use Rattle.batch_laws.specs.posix_mode_laws.Sized.{kind-sized, length-with_sizes}
use Rattle.file_calls.proofs.ReadCalls.{bytes_read, file_node, plain_words}

-- a data block lies behind the log lines
data_behind_log : (g : Geometry) (b j slot : ℕ) → is_data_block g b ≡ true → j < 512 → slot < g.log → (512 * b + j) / 8 ≡ log_line g slot → ⊥
data_behind_log g b j slot in_data word below e = grind (arith, nat_tests)

-- a staging file is an inode of the volume
staging_below : (v : Volume) (x : ℕ) → (inode v x).kind ≡ Staging → x < length v.inodes
staging_below v x staging = elim (cases_lt x (length v.inodes)) [
  | inl below ↦ below
  | inr past ↦ let never : Staging ≡ free_inode.kind = sym staging ∙ ap (λ (y : Inode). y.kind) (get_or_past v.inodes x free_inode past) in cc
]

module _ (g : Geometry) (k : View) (files : Files) (count : ℕ) (numbers : List ℕ) (start : State) (history : List Item) (ready : GoesReady g k files count numbers start history) (ino : ℕ) (file : (inode k.volume ino).kind ≡ File) where
  abbrev v : Volume
  v = sized files.sizes k.volume

  abbrev staged : List Draft
  staged = staged_of k.volume files

  live : IsWorld (sized files.sizes k.volume) (as_claims (staged_of k.volume files)) [] (journaled (words_of k.cells)) numbers (run start history) count
      × (live_claims (sized files.sizes k.volume) (as_claims (staged_of k.volume files)) ≡ staged_of k.volume files)
  live = live_is_world g k files count numbers start history (words_of k.cells) ready.going (IsImage-words_of k.cells)

  log : LogStands v staged
  log = subst (LogStands v) live.1 live.0.valid.stands.log

  kind : (inode v ino).kind ≡ File
  kind = kind-sized files.sizes k.volume ino ∙ file

  overlay : IsOverlayOf v staged ino (runs_in files ino) (size_in files ino)
  overlay = staged_is_overlay g k files count numbers start history ready.going ino kind

  -- a staged block is one of a staging file
  named_staging : (block : ℕ) (o : Option Draft) (disk : Option ℕ) → entry_of_block staged ino block ≡ o
      → (staging p : ℕ) → source_by (option_map (place_in block) (option_map run_of o)) disk ≡ Staged staging p → staging < length v.inodes
  named_staging block None None is staging p same = cc
  named_staging block None (Some b) is staging p same = cc
  named_staging block (Some e) disk is staging p same =
      let among : In e staged = (filter-In (λ (x : Draft). (x.ino == ino) && is_within x.file_block x.count block) staged e (latest-In _ e is)).0 in
      let own : e.staging ≡ staging = cc in
      subst (λ x. x < length v.inodes) own (staging_below v e.staging (log.staging e among))

  -- a block of the file is a data block, and at home
  block_readable : (block b : ℕ) → disk_of v staged ino block ≡ Some b → IsReadable k.cells b
  block_readable block b at = record { inside = inside; home = λ i word. by i word (is_lent (cell k.cells i)) refl } where
    in_data : is_data_block v.geometry b ≡ true
    in_data = disk_of-in_data v staged live.0.valid.stands.sane log ino block b (ap is_used kind) at

    inside : b < length k.cells / 512
    inside =
        let size = ready.going.order.stands.size in
        let same : k.volume.geometry.blocks ≡ k.committed.geometry.blocks = ap (λ (x : Geometry). x.blocks) ready.geometry in
        grind (arith, nat_tests, in_data, size, same)

    by : (i : ℕ) → i / 512 ≡ b → (c : Bool) → is_lent (cell k.cells i) ≡ c → is_lent (cell k.cells i) ≡ false
    by i word false is = is
    by i word true is = elim (ready.going.home i is) [
      | inl line ↦
          (let same : 512 * b + i % 512 ≡ i = omega (arith, word) in absurd (data_behind_log k.volume.geometry b (i % 512) line.0 in_data (omega arith) line.1 (ap (λ n. n / 8) same ∙ line.2)))
      | inr job ↦ absurd job.1
    ]

  -- THE FILE CAN BE READ.
  pub gathered_can_be_read : FileCanBeRead k.volume k.cells (runs_in files ino) ino
  gathered_can_be_read block = record {
    staged = λ staging p same. (
        let below = named_staging block (entry_of_block staged ino block) (disk_at (extents v ino) block) refl staging p (sym (source_is_log v staged ino (size_in files ino) (runs_in files ino) block log overlay) ∙ same) in
        subst (λ m. staging < m) (length-with_sizes k.volume.inodes files.sizes) below);
    readable = λ b at. block_readable block b (sym (overlay_is_log v staged ino (size_in files ino) (runs_in files ino) block log overlay) ∙ at);
  }

  stands : FileStands v staged (journaled (words_of k.cells)) ino (bytes_of (node_at (run start history).nodes (number numbers ino)))
  stands =
      subst (λ ds. FileStands v ds (journaled (words_of k.cells)) ino (bytes_of (node_at (run start history).nodes (number numbers ino)))) live.1
      (file_node v (live_claims v (as_claims staged)) (journaled (words_of k.cells)) ino (inode v ino).kind (node_at (run start history).nodes (number numbers ino)) kind (live.0.valid.stands.nodes.each ino (ap is_used kind)))

  -- WHAT IS READ OF IT are its bytes.
  pub gathered_bytes : (place n : ℕ) → bytes_from (bytes_of (node_at (run start history).nodes (number numbers ino))) place n ≡ bytes_in k.volume (words_of k.cells) (runs_in files ino) ino place (read_len (size_in files ino) place n)
  gathered_bytes place n =
      bytes_read v k.cells staged (runs_in files ino) ino (size_in files ino) place n (bytes_of (node_at (run start history).nodes (number numbers ino))) log overlay stands
      (plain_words v k.cells (runs_in files ino) ino live.0.valid.stands.sane (ap is_used kind)
      (λ block. (
      let can = gathered_can_be_read block in
      record { staged = λ staging p same. subst (λ m. staging < m) (sym (length-with_sizes k.volume.inodes files.sizes)) (can.staged staging p same); readable = can.readable }))
      (ap newest ready.going.order.stands.idle))
