-- The last run laid over a block is that of the latest entry that has it.
use Rattle.std.specs.Prelude.{◌≡◌, ◌≢◌, ◌==◌, ◌<◌, ◌+◌, ◌-◌, ◌/◌, ℕ, Bool, true, false, cond, nat_lt, List, [], ◌∷◌, ◌++◌, length, map, filter, find, reverse, drop, Option, Some, None, option_map, refl}
use Rattle.std.specs.Option.{option_or}
use Rattle.std.proofs.Common.{arith, ap, ◌∙◌, sym}
use Rattle.std.proofs.lemmas.Bool.Decides.{nat_tests}
use Rattle.std.proofs.lemmas.Grind.{same_number_lists}
use Rattle.std.proofs.lemmas.List.{get_or-drop, get_or-take, length-drop, length-take, map-append, reverse-append}
use Rattle.std.proofs.lemmas.List.Folds.{find-append}
use Rattle.std.proofs.lemmas.List.FromFn.{get_or-map-range_with_len, length-map-range_with_len}
use Rattle.file_reads.specs.data_route.Reads.{read_len, source_by, source_of}
use Rattle.write_jobs.specs.layout_model.declared.lines.Draft.{Draft}
use Rattle.write_jobs.specs.world_model.image_model.Content.{byte_in, disk_by, entry_of_block, size_by}
use Rattle.write_jobs.specs.world_model.image_model.Live.{later_of, latest}
use Rattle.write_jobs.specs.world_model.image_model.Volume.{extents, inode, Volume}
use Rattle.write_jobs.specs.extent_model.Extents.{disk_at, is_within}
use Rattle.file_reads.specs.file_overlay.declared.runs.Run.{Run}
use Rattle.file_reads.specs.file_overlay.Runs.{has_block, last_run, place_in}
use Rattle.file_reads.specs.Reads.{block_in, block_of, bytes_in}
use Rattle.write_jobs.specs.list_laws.Filters.{filter-both, filter-In, filter-more, filter-same}
use Rattle.write_jobs.specs.posix_tables.Bytes.{bytes_from}
use Rattle.write_jobs.specs.world_model.Latest.{Consecutive-between, latest-append_last, latest-In}
use Rattle.write_jobs.specs.world_model.Stands.{Consecutive, entries_of, LogStands}
use Rattle.live_model.specs.OverlaysLaws.{LaysBeside, LaysEntry, NothingIsLaid, OverlayIsLog, OverlayReadsFile}
use Rattle.live_model.specs.Overlays.{IsOverlayOf, run_of}

-- ---- the last run

abbrev covers_block : ℕ → Draft → Bool
covers_block block d = is_within d.file_block d.count block

last-cons : (p : Run → Bool) (x : Run) (xs : List Run) → find p (reverse (x ∷ xs)) ≡ option_or (find p (reverse xs)) (cond (p x) (Some x) None)
last-cons p x xs = ap (find p) (reverse-append (x ∷ []) xs) ∙ find-append p (reverse xs) (x ∷ [])

or-none : (o : Option Run) → option_or o None ≡ o
or-none None = refl
or-none (Some x) = refl

last_is_latest : (block last : ℕ) (ds : List Draft) → Consecutive last ds → option_map run_of (latest (filter (covers_block block) ds)) ≡ last_run (map run_of ds) block
last_is_latest block last [] go_on = refl
last_is_latest block last (d ∷ ds) go_on =
    by (covers_block block d) (latest (filter (covers_block block) ds)) refl refl (last_is_latest block (last + 1) ds go_on.1) ∙ sym (last-cons (has_block block) (run_of d) (map run_of ds))
  where
    later : (e : Draft) → latest (filter (covers_block block) ds) ≡ Some e → nat_lt d.order e.order ≡ true
    later e is =
        let there = filter-In (covers_block block) ds e (latest-In (filter (covers_block block) ds) e is) in
        let above = Consecutive-between (last + 1) ds e go_on.1 there.0 in
        grind (arith, nat_tests, above.0, go_on.0)

    by : (b : Bool) (o : Option Draft) → covers_block block d ≡ b → latest (filter (covers_block block) ds) ≡ o
        → option_map run_of (latest (filter (covers_block block) ds)) ≡ last_run (map run_of ds) block
        → option_map run_of (latest (filter (covers_block block) (d ∷ ds))) ≡ option_or (last_run (map run_of ds) block) (cond (covers_block block d) (Some (run_of d)) None)
    by false o is at before = rw is (before ∙ sym (or-none (last_run (map run_of ds) block)))
    by true None is at before =
        rw is
        (ap (λ x. option_map run_of (later_of d x)) at
        ∙ ap (λ (x : Option Run). option_or x (Some (run_of d))) (sym (ap (option_map run_of) at) ∙ before))
    by true (Some e) is at before =
        rw is
        (ap (λ x. option_map run_of (later_of d x)) at ∙ ap (λ c. Some (run_of (cond c e d))) (later e at)
        ∙ ap (λ (x : Option Run). option_or x (Some (run_of d))) (sym (ap (option_map run_of) at) ∙ before))

-- ---- blocks

by_source : (v : Volume) (ino block : ℕ) (o : Option Draft) → block_of v (source_by (option_map (place_in block) (option_map run_of o)) (disk_at (extents v ino) block)) ≡ disk_by v o ino block
by_source v ino block (Some d) = refl
by_source v ino block None = by (disk_at (extents v ino) block) where
  by : (o : Option ℕ) → block_of v (source_by None o) ≡ o
  by None = refl
  by (Some b) = refl

-- what has a file block, by the log
pub source_is_log : (v : Volume) (live : List Draft) (ino size : ℕ) (runs : List Run) (block : ℕ) → LogStands v live → IsOverlayOf v live ino runs size
    → source_of runs (extents v ino) block ≡ source_by (option_map (place_in block) (option_map run_of (entry_of_block live ino block))) (disk_at (extents v ino) block)
source_is_log v live ino size runs block log overlay =
    ap (λ o. source_by (option_map (place_in block) o) (disk_at (extents v ino) block))
    (ap (λ xs. last_run xs block) overlay.runs_are ∙ sym (last_is_latest block (inode v ino).applied (entries_of ino live) (log.orders ino))
    ∙ ap (λ ds. option_map run_of (latest ds)) (sym (filter-both (λ (d : Draft). d.ino == ino) (covers_block block) live)))

pub overlay_is_log : OverlayIsLog
overlay_is_log v live ino size runs block log overlay =
    ap (block_of v) (source_is_log v live ino size runs block log overlay) ∙ by_source v ino block (entry_of_block live ino block)

-- ---- bytes

pub reads_file : OverlayReadsFile
reads_file v live f ino size runs bytes place n log overlay stands =
    same_number_lists (bytes_from bytes place n) (bytes_in v f runs ino place count) same_length (λ i within.
    let below : i < count = omega (arith, within, same_length, length-map-range_with_len byte place count) in
    get_or-take n (drop place bytes) i 0 (omega (arith, below)) ∙ get_or-drop place bytes i 0
    ∙ sym (stands.each (place + i) (omega (arith, below, overlay.size_is, stands.size)))
    ∙ ap (λ o. byte_in f o (place + i)) (sym (overlay_is_log v live ino size runs ((place + i) / 4096) log overlay))
    ∙ sym (get_or-map-range_with_len byte place count i (place + i) 0 below refl)) where
      count : ℕ
      count = read_len size place n

      byte : ℕ → ℕ
      byte i = byte_in f (block_in v runs ino (i / 4096)) i

      same_length : length (bytes_from bytes place n) ≡ length (bytes_in v f runs ino place count)
      same_length = omega (arith, length-take n (drop place bytes), length-drop place bytes, length-map-range_with_len byte place count, overlay.size_is, stands.size)

-- ---- entries

pub nothing_laid : NothingIsLaid
nothing_laid v live ino none = record { runs_are = ap (map run_of) (sym none); size_is = ap (λ ds. size_by (latest ds) (inode v ino).size) (sym none) }

own_test : (n : ℕ) → (n == n) ≡ true
own_test n = grind (arith, nat_tests)

other_test : (m n : ℕ) → m ≢ n → (m == n) ≡ false
other_test m n apart = grind (arith, nat_tests, apart)

pub lays_entry : LaysEntry
lays_entry v live d runs size below overlay =
    let more : entries_of d.ino (live ++ d ∷ []) ≡ entries_of d.ino live ++ d ∷ [] = filter-more (λ (e : Draft). e.ino == d.ino) live d (own_test d.ino) in
    record {
      runs_are = ap (λ xs. xs ++ run_of d ∷ []) overlay.runs_are ∙ sym (map-append run_of (entries_of d.ino live) (d ∷ [])) ∙ ap (map run_of) (sym more);
      size_is = ap (λ o. size_by o (inode v d.ino).size) (sym (latest-append_last (entries_of d.ino live) d below)) ∙ ap (λ ds. size_by (latest ds) (inode v d.ino).size) (sym more);
    }

pub lays_beside : LaysBeside
lays_beside v live d ino runs size other overlay =
    let same : entries_of ino (live ++ d ∷ []) ≡ entries_of ino live = filter-same (λ (e : Draft). e.ino == ino) live d (other_test d.ino ino other) in
    record {
      runs_are = overlay.runs_are ∙ ap (map run_of) (sym same);
      size_is = overlay.size_is ∙ ap (λ ds. size_by (latest ds) (inode v ino).size) (sym same);
    }
