-- Laws of the footprint: words that read as one volume, with the same log lines and the same words in the files'
-- blocks, have the same content.
use Rattle.std.specs.Prelude.{◌≡◌, ℕ, ◌+◌, ◌-◌, ◌*◌, ◌/◌, ◌%◌, ◌^◌, ◌<◌, ◌≤◌, true, List, filter, All, Option, Some, None, option_and_then, refl}
use Rattle.std.proofs.Common.{arith, ap, sym, ◌∙◌}
use Rattle.std.proofs.Math.Path.{fun_ext}
use Rattle.std.proofs.lemmas.Bool.Decides.{nat_tests}
use Rattle.image_model.specs.pm_model.Bytes.{line_bytes-same}
use Rattle.image_model.specs.pm_model.Words.{Words}
use Rattle.image_model.specs.layout_model.Journal.{journaled}
use Rattle.image_model.specs.layout_model.Places.{Geometry, first_data, log_line, is_data_block}
use Rattle.image_model.specs.extent_model.Extents.{covers}
use Rattle.image_model.specs.extent_model.Covers.{covers-disk_at}
use Rattle.image_model.specs.layout_model.declared.lines.Draft.{Draft}
use Rattle.image_model.specs.layout_model.Entries.{decode_entry}
use Rattle.image_model.specs.layout_model.declared.lines.Kind.{Kind}
use Rattle.image_model.specs.layout_model.declared.lines.Kind.TheVariants.{Free, Directory, File, Staging}
use Rattle.image_model.specs.layout_model.Names.{walk}
use Rattle.image_model.specs.Content.{Node, size_of, entry_of_block, disk_by, disk_of, byte_in, bytes_of_file, node_by, node_of, found, content_of, content}
use Rattle.image_model.specs.Live.{is_file, entry_in, is_live, live_entries}
use Rattle.image_model.specs.Placed.{block_at, IsOutside}
use Rattle.image_model.specs.Reading.{Reads}
use Rattle.image_model.specs.Volume.{Volume, inode, extents}
use Rattle.volume_laws.specs.Footprint.{SameLog, SameData, AreUnread}
use Rattle.volume_laws.specs.Lists.{map-agree, filter_map-agree}
use Rattle.volume_laws.specs.ImageLaws.{journaled-same, journal-outside}
use Rattle.volume_laws.specs.Reading.{AgreeFor, AreUnchained}
use Rattle.volume_laws.specs.ReadingLaws.{reads-same, reads-volume}
use Rattle.volume_laws.specs.SetLaws.{reads-written, block-outside}

-- log lines that are the same have the same entries, and so the same live ones
pub entry_in-same : (v : Volume) (f h : Words) → SameLog v.geometry f h → (s : ℕ) → s < v.geometry.log
    → entry_in v h s ≡ entry_in v f s
entry_in-same v f h same s below =
    ap (λ bytes. decode_entry bytes (v.base + s)) (line_bytes-same h f (log_line v.geometry s) (λ i at. same.words s i below at))

pub live_entries-same : (v : Volume) (f h : Words) → SameLog v.geometry f h → live_entries v h ≡ live_entries v f
live_entries-same v f h same =
    ap (filter (is_live v)) (filter_map-agree (entry_in v h) (entry_in v f) 0 v.geometry.log
    (λ s low below. entry_in-same v f h same s (omega arith)))

-- the bytes of a block whose words are the same
byte_in-same : (f h : Words) (o : Option ℕ) (i : ℕ)
    → ((b j : ℕ) → o ≡ Some b → j < 512 → h (512 * b + j) ≡ f (512 * b + j)) → byte_in h o i ≡ byte_in f o i
byte_in-same f h None i same = refl
byte_in-same f h (Some b) i same =
    let k : ℕ = 4096 * b + i % 4096 in
    let place : 512 * b + i % 4096 / 8 ≡ k / 8 = omega arith in
    ap (λ (n : ℕ). n / 256 ^ (k % 8) % 256) (ap h (sym place) ∙ same b (i % 4096 / 8) refl (omega arith) ∙ ap f place)

pub bytes_of_file-same : (v : Volume) (live : List Draft) (f h : Words) (ino : ℕ) → is_file (inode v ino).kind ≡ true
    → SameData v live f h → bytes_of_file v live h ino ≡ bytes_of_file v live f ino
bytes_of_file-same v live f h ino file same =
    map-agree (λ i. byte_in h (disk_of v live ino (i / 4096)) i) (λ i. byte_in f (disk_of v live ino (i / 4096)) i) 0
    (size_of v live ino)
    (λ i low below. byte_in-same f h (disk_of v live ino (i / 4096)) i
    (λ b j is word. same.words ino (i / 4096) b j file (omega arith) is word))

pub node_of-same : (v : Volume) (live : List Draft) (f h : Words) (ino : ℕ) → SameData v live f h
    → node_of v live h ino ≡ node_of v live f ino
unfolding node_of
node_of-same v live f h ino same = by (inode v ino).kind (λ file. bytes_of_file-same v live f h ino file same)
  where
    by : (kind : Kind) → (is_file kind ≡ true → bytes_of_file v live h ino ≡ bytes_of_file v live f ino)
        → node_by kind (bytes_of_file v live h ino) ≡ node_by kind (bytes_of_file v live f ino)
    by Free bytes = refl
    by Directory bytes = refl
    by File bytes = ap (node_by File) (bytes refl)
    by Staging bytes = refl

-- the same stands at every path
pub found-same : (v : Volume) (live : List Draft) (f h : Words) → SameData v live f h → found v live h ≡ found v live f
unfolding found
found-same v live f h same =
    fun_ext (λ path. ap (λ (node : ℕ → Option Node). option_and_then node (walk v.names 0 path))
    (fun_ext (λ ino. node_of-same v live f h ino same)))

-- The footprint: words that read as the volume, with the log lines and the files' blocks of others, have as their
-- content what the volume makes of those.
pub content-read : (g : Geometry) (v : Volume) (f h : Words) → Reads g h v → SameLog g f h
    → SameData v (live_entries v f) f h → content_of g h ≡ found v (live_entries v f) f
content-read g v f h r log files =
    let same_log : SameLog v.geometry f h = rw r.geometry log in
    ap (λ (x : Volume). found x (live_entries x h) h) (reads-volume g h v r)
    ∙ ap (λ live. found v live h) (live_entries-same v f h same_log)
    ∙ found-same v (live_entries v f) f h files

-- the content of words that read as a volume, and of others that agree in all that it rests on
pub content-own : (g : Geometry) (v : Volume) (f : Words) → Reads g f v → content_of g f ≡ found v (live_entries v f) f
content-own g v f r = content-read g v f f r (record { words = λ s w below at. refl }) (record { words = λ ino block b j file within is word. refl })

pub content-same : (g : Geometry) (v : Volume) (f h : Words) → AgreeFor g v f h → SameLog g f h
    → SameData v (live_entries v f) f h → Reads g f v → content_of g h ≡ content_of g f
content-same g v f h agree log files r =
    content-read g v f h (reads-same g f h v agree r) log files ∙ sym (content-own g v f r)

-- a block that a file has is in the map of some inode
pub disk_of-covered : (v : Volume) (live : List Draft) (ino block b : ℕ) → disk_of v live ino block ≡ Some b
    → (i : ℕ) × (covers (extents v i) b ≡ true)
disk_of-covered v live ino block b is = by (entry_of_block live ino block) is
  where
    by : (o : Option Draft) → disk_by v o ino block ≡ Some b → (i : ℕ) × (covers (extents v i) b ≡ true)
    by None own = (ino, covers-disk_at (extents v ino) block b own)
    by (Some d) staged = (d.staging, covers-disk_at (extents v d.staging) (d.staging_block + (block - d.file_block)) b staged)

-- ---- blocks that no chain has and no file reads

-- the log lines lie outside data blocks
log-outside : (g : Geometry) (blocks : List ℕ) (s w : ℕ) → All (λ b. is_data_block g b ≡ true) blocks → s < g.log
    → w / 8 ≡ log_line g s → IsOutside blocks w
log-outside g blocks s w in_data below at k within same =
    let in_range : first_data g ≤ block_at blocks k = let of_data = in_data k 0 within in grind (arith, nat_tests) in
    omega arith

-- Words that agree but in data blocks that no chain has and no file reads have the same content.
pub content-outside : (g : Geometry) (v : Volume) (blocks : List ℕ) (f h : Words) → AreUnchained g v blocks
    → AreUnread v (live_entries v f) blocks
    → ((i : ℕ) → IsOutside blocks i → h i ≡ f i) → Reads g f v → content_of g h ≡ content_of g f
content-outside g v blocks f h free unread same r =
    content-read g v f h (reads-written g f h v blocks free same r)
    (record { words = λ s w below at. same w (log-outside g blocks s w free.in_data below at) })
    (record {
      words = λ ino block b j file within is word.
          same (512 * b + j) (block-outside blocks b j word (λ k in_blocks. unread.apart ino block b k file within is in_blocks));
    })
    ∙ sym (content-own g v f r)

-- So have images, whatever their journals: while such a block is lent, the content is as before.
pub content-image : (g : Geometry) (v : Volume) (blocks : List ℕ) (before image : Words) → AreUnchained g v blocks
    → AreUnread v (live_entries v (journaled before)) blocks
    → ((i : ℕ) → IsOutside blocks i → image i ≡ before i) → Reads g (journaled before) v
    → content g image ≡ content g before
content-image g v blocks before image free unread same r =
    content-outside g v blocks (journaled before) (journaled image) free unread
    (λ i outside. journaled-same before image i
    (λ w journal. same w (journal-outside g blocks w free.in_data journal)) (same i outside)) r
