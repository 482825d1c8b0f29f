-- The bytes of files: those of the state are those that are read.
use Rattle.std.specs.Prelude.{◌≡◌, ◌≤◌, ◌<◌, ◌+◌, ◌*◌, ◌/◌, ◌%◌, ◌^◌, ◌||◌, ℕ, zero, suc, true, List, [], ◌∷◌, length, map, Option, Some, None, slice_get, slice_set, refl}
use Rattle.std.specs.List.{list_any, range_with_len}
use Rattle.std.specs.Option.{option_flatten}
use Rattle.std.proofs.Common.{arith, ap, ◌∙◌, sym}
use Rattle.pm_lines.specs.pm_model.declared.Cell.{Cell}
use Rattle.pm_lines.specs.pm_model.Cells.{newest}
use Rattle.pm_lines.specs.pm_model.Images.{words_of}
use Rattle.pm_lines.specs.pm_model.Words.{byte_of, Words}
use Rattle.eof_laws.specs.layout_model.Journal.{journaled}
use Rattle.eof_laws.specs.layout_model.PlaceLaws.{behind_log-words}
use Rattle.eof_laws.specs.layout_model.Places.{commit_word, Geometry, is_data_block}
use Rattle.eof_laws.specs.extent_model.Covers.{covers-disk_at}
use Rattle.eof_laws.specs.extent_model.Extents.{disk_at}
use Rattle.eof_laws.specs.layout_model.declared.lines.Draft.{Draft}
use Rattle.eof_laws.specs.layout_model.declared.lines.Kind.{Kind}
use Rattle.eof_laws.specs.layout_model.declared.lines.Kind.TheVariants.{Directory, File, Free, Staging}
use Rattle.eof_laws.specs.image_model.Content.{byte_in}
use Rattle.eof_laws.specs.image_model.Rules.{file_blocks_of}
use Rattle.eof_laws.specs.image_model.Volume.{extents, inode, Volume}
use Rattle.live_step_laws.specs.volume_laws.ImageLaws.{journaled-idle}
use Rattle.live_step_laws.specs.volume_laws.LineWords.{data_word}
use Rattle.live_step_laws.specs.volume_laws.PoolLaws.{covered-in_data}
use Rattle.live_step_laws.specs.data_route.Reads.{read_len, source_by}
use Rattle.eof_laws.specs.file_overlay.declared.runs.Run.{Run}
use Rattle.eof_laws.specs.file_overlay.Runs.{staged_at}
use Rattle.live_step_laws.specs.file_reads.Reads.{block_in, block_of, bytes_in, FileCanBeRead, SourceCanBeRead}
use Rattle.eof_laws.specs.file_table.Files.{runs_in, size_in}
use Rattle.live_step_laws.proofs.live_model_proofs.Readable.{flies_readable}
use Rattle.eof_laws.specs.k_split_model.View.{View}
use Rattle.posix_tables.specs.declared.nodes.Node.{Node}
use Rattle.posix_tables.specs.declared.open.Description.{Description}
use Rattle.posix_tables.specs.Bytes.{bytes_from}
use Rattle.posix_tables.specs.Nodes.{bytes_of, node_at}
use Rattle.posix_tables.specs.Open.{describes, is_open, Tables, with_offset}
use Rattle.open_files.specs.posix_spec.State.{State}
use Rattle.live_step_laws.specs.live_model.Overlays.{IsOverlayOf}
use Rattle.live_step_laws.proofs.live_model_proofs.OverlaysOverlays.{reads_file}
use Rattle.live_step_laws.specs.world_model.Jobs.{live_claims}
use Rattle.live_step_laws.specs.world_model.Stands.{FileStands, is_used, IsSane, IsUsed, LogStands, NodeStands, number}
use Rattle.live_step_laws.specs.live_model.Standing.{file_state, Kept}
use Rattle.live_step_laws.specs.world_step_laws.Worlds.{IsWorld}
use Rattle.live_step_laws.specs.world_model.TreeRules.{used_below}
use Rattle.file_calls.specs.Runs.{RunsAs}
use Rattle.file_calls.proofs.OpenCalls.{node_stands, size_there}
use Rattle.file_calls.proofs.Running.{world}

-- ---- offsets

described_still : (node : ℕ) (slots : List (Option Description)) (key : ℕ) (d : Description) (offset : ℕ) → option_flatten (slice_get slots key) ≡ Some d
    → list_any (describes node) (slice_set slots key (Some (record d { offset = offset }))) ≡ list_any (describes node) slots
described_still node [] key d offset is = refl
described_still node (slot ∷ slots) zero d offset is = ap (λ x. describes node x || list_any (describes node) slots) (sym is)
described_still node (slot ∷ slots) (suc key) d offset is = ap (λ b. describes node slot || b) (described_still node slots key d offset is)

-- an offset that moves opens and closes nothing
pub open_once_moved : (t : Tables) (key offset node : ℕ) → is_open (with_offset t key offset) node ≡ is_open t node
unfolding with_offset
open_once_moved t key offset node = by (option_flatten (slice_get t.descriptions key)) refl where
  by : (o : Option Description) → option_flatten (slice_get t.descriptions key) ≡ o → is_open (with_offset t key offset) node ≡ is_open t node
  by None is = rw is refl
  by (Some d) is = rw is (described_still node t.descriptions key d offset is)

-- ---- the bytes of a file

pub file_node : (v : Volume) (live : List Draft) (f : Words) (ino : ℕ) (kind : Kind) (node : Node) → kind ≡ File → NodeStands v live f ino kind node → FileStands v live f ino (bytes_of node)
file_node v live f ino Free node file is = absurd is
file_node v live f ino Staging node file is = absurd is
file_node v live f ino Directory node file is = cc
file_node v live f ino File Node.Gone file is = absurd is
file_node v live f ino File Node.Directory file is = absurd is
file_node v live f ino File (Node.File x) file is = is

-- the words of a block of a file are those of the device
abbrev pub IsPlain : Volume → List Cell → List Run → ℕ → Type 0
IsPlain v d runs ino = (block b i : ℕ) → block_in v runs ino block ≡ Some b → i < 4096 → byte_of (journaled (words_of d)) (4096 * b + i) ≡ byte_of (words_of d) (4096 * b + i)

plain_byte : (v : Volume) (d : List Cell) (runs : List Run) (ino i : ℕ) → IsPlain v d runs ino → byte_in (journaled (words_of d)) (block_in v runs ino (i / 4096)) i ≡ byte_in (words_of d) (block_in v runs ino (i / 4096)) i
plain_byte v d runs ino i plain = by (block_in v runs ino (i / 4096)) refl where
  by : (o : Option ℕ) → block_in v runs ino (i / 4096) ≡ o → byte_in (journaled (words_of d)) o i ≡ byte_in (words_of d) o i
  by None is = refl
  by (Some b) is = plain (i / 4096) b (i % 4096) is (omega arith)

pub bytes_read : (v : Volume) (d : List Cell) (live : List Draft) (runs : List Run) (ino size place n : ℕ) (bytes : List ℕ) → LogStands v live → IsOverlayOf v live ino runs size → FileStands v live (journaled (words_of d)) ino bytes → IsPlain v d runs ino
    → bytes_from bytes place n ≡ bytes_in v (words_of d) runs ino place (read_len size place n)
bytes_read v d live runs ino size place n bytes log overlay stands plain =
    reads_file v live (journaled (words_of d)) ino size runs bytes place n log overlay stands
    ∙ (λ j. map (λ i. plain_byte v d runs ino i plain j) (range_with_len place (read_len size place n)))

-- blocks of maps are data blocks
mapped_in_data : (v : Volume) → IsSane v → (ino block b : ℕ) → ino < length v.inodes → disk_at (extents v ino) block ≡ Some b → is_data_block v.geometry b ≡ true
mapped_in_data v sane ino block b below at =
    covered-in_data v.geometry (file_blocks_of (inode v ino).kind) (extents v ino) b (sane.kept.in_data ino (omega (arith, below, sane.inode_count))) (covers-disk_at (extents v ino) block b at)

-- So the words of a file that can be read are those of the device, while its journal is empty.
pub plain_words : (v : Volume) (d : List Cell) (runs : List Run) (ino : ℕ) → IsSane v → IsUsed v ino → FileCanBeRead v d runs ino → words_of d commit_word ≡ 0 → IsPlain v d runs ino
plain_words v d runs ino sane used can idle block b i at within =
    let in_data = by (staged_at runs block) refl (disk_at (extents v ino) block) refl at (can block) in
    let word : (4096 * b + i) / 8 ≡ 512 * b + i / 8 = omega arith in
    ap (λ w. w / 256 ^ ((4096 * b + i) % 8) % 256)
    (journaled-idle (words_of d) ((4096 * b + i) / 8) idle
    (behind_log-words v.geometry ((4096 * b + i) / 8) (omega (arith, word, data_word v.geometry b (i / 8) in_data (omega (arith, within))))))
  where
    by : (o : Option (ℕ × ℕ)) → staged_at runs block ≡ o → (m : Option ℕ) → disk_at (extents v ino) block ≡ m → block_of v (source_by o m) ≡ Some b → SourceCanBeRead v d (source_by o m) → is_data_block v.geometry b ≡ true
    by None staged None mapped is readable = let never : None ≡ Some b = is in cc
    by None staged (Some c) mapped is readable = mapped_in_data v sane ino block b (used_below v ino used) (mapped ∙ is)
    by (Some place) staged m mapped is readable = mapped_in_data v sane place.0 place.1 b (readable.staged place.0 place.1 refl) is

-- ---- a file, in the state and in the volume

module _ (g : Geometry) (k : View) (t : Tables) (x : Kept) (n : ℕ) (s : State) (runs : RunsAs g k t x n s) where
  abbrev live : List Draft
  live = live_claims k.volume x.claims

  here : IsWorld k.volume x.claims runs.jobs (journaled (words_of k.cells)) runs.numbers s runs.count
  here = world g k t x n s runs

  pub can_be_read : (ino : ℕ) → (inode k.volume ino).kind ≡ File → FileCanBeRead k.volume k.cells (runs_in x.files ino) ino
  can_be_read ino file = flies_readable k.volume k.cells x.claims runs.jobs (file_state x.files) runs.numbers s runs.count ino runs.flying file

  plain : (ino : ℕ) → (inode k.volume ino).kind ≡ File → IsPlain k.volume k.cells (runs_in x.files ino) ino
  plain ino file = plain_words k.volume k.cells (runs_in x.files ino) ino here.valid.stands.sane (ap is_used file) (can_be_read ino file) (ap newest runs.flying.device.stands.idle)

  bytes_stand : (ino : ℕ) → (inode k.volume ino).kind ≡ File → FileStands k.volume (live_claims k.volume x.claims) (journaled (words_of k.cells)) ino (bytes_of (node_at s.nodes (number runs.numbers ino)))
  bytes_stand ino file =
      file_node k.volume (live_claims k.volume x.claims) (journaled (words_of k.cells)) ino (inode k.volume ino).kind (node_at s.nodes (number runs.numbers ino)) file (node_stands g k t x n s runs ino (ap is_used file))

  -- its length is the size that is kept
  pub length_there : (ino : ℕ) → (inode k.volume ino).kind ≡ File → length (bytes_of (node_at s.nodes (number runs.numbers ino))) ≡ size_in x.files ino
  length_there ino file = sym (bytes_stand ino file).size ∙ sym (size_there g k t x n s runs ino file)

  -- what is read of it
  pub bytes_there : (ino : ℕ) → (inode k.volume ino).kind ≡ File → (place count : ℕ)
      → bytes_from (bytes_of (node_at s.nodes (number runs.numbers ino))) place count ≡ bytes_in k.volume (words_of k.cells) (runs_in x.files ino) ino place (read_len (size_in x.files ino) place count)
  bytes_there ino file place count =
      bytes_read k.volume k.cells (live_claims k.volume x.claims) (runs_in x.files ino) ino (size_in x.files ino) place count (bytes_of (node_at s.nodes (number runs.numbers ino))) here.valid.stands.log (runs.flying.overlays ino file)
      (bytes_stand ino file) (plain ino file)

-- the offset behind what is read fits 64 bits
pub read_fits : (size offset count : ℕ) → size ≤ 2 ^ 24 → offset < 2 ^ 64 → offset + read_len size offset count < 2 ^ 64
read_fits size offset count small fits = omega (arith, small, fits)
