-- What stands together in POSIX mode goes on to.
use Rattle.std.specs.Prelude.{◌≡◌, ◌≢◌, ◌≤◌, ◌<◌, ◌+◌, ◌*◌, ◌^◌, ℕ, zero, suc, true, List, [], ◌∷◌, ◌++◌, length, map, Contains, Option, Some, refl}
use Rattle.std.specs.List.{flat_map, range_with_len}
use Rattle.std.proofs.Common.{arith, ap, ◌∙◌, sym, subst, inl, inr}
use Rattle.eof_laws.specs.live_model.pm_model.Cells.{cell, is_lent}
use Rattle.eof_laws.specs.live_model.pm_model.Words.{line_bytes}
use Rattle.eof_laws.specs.live_model.extent_model.Extents.{disk_at}
use Rattle.eof_laws.specs.live_model.layout_model.Entries.{held_seq, is_self_valid}
use Rattle.eof_laws.specs.live_model.layout_model.Places.{Geometry, log_line}
use Rattle.eof_laws.specs.live_model.layout_model.block_counts.declared.TheConstants.{LONGEST_FILE}
use Rattle.eof_laws.specs.live_model.layout_model.declared.lines.Draft.{Draft}
use Rattle.eof_laws.specs.live_model.layout_model.declared.lines.Inode.{Inode}
use Rattle.eof_laws.specs.live_model.layout_model.declared.lines.Kind.TheVariants.{File, Staging}
use Rattle.eof_laws.specs.live_model.image_model.Volume.{inode, Volume}
use Rattle.eof_laws.specs.live_model.file_overlay.declared.runs.Run.{Run}
use Rattle.eof_laws.specs.live_model.file_table.Files.{Files, runs_in, size_in}
use Rattle.eof_laws.specs.live_model.k_split_model.View.{View}
use Rattle.eof_laws.specs.live_model.list_laws.Filters.{In-map}
use Rattle.eof_laws.specs.live_model.list_laws.Members.{In}
use Rattle.eof_laws.specs.live_model.commute_laws.posix_types.declared.item.Item.{Item}
use Rattle.eof_laws.specs.live_model.posix_tables.Open.{Tables}
use Rattle.eof_laws.specs.live_model.posix_spec.Run.{run}
use Rattle.eof_laws.specs.live_model.posix_spec.State.{State}
use Rattle.eof_laws.specs.live_model.staging_files.Keeps.{Agrees, AreFreeSingle}
use Rattle.eof_laws.specs.live_model.Standing.{AreLinesLent, Kept, reserved_run}
use Rattle.batch_laws.specs.ChangesLaws.{entries_again, in_flat, touched_or_not}
use Rattle.batch_laws.specs.Ready.{GoesReady}
use Rattle.batch_laws.specs.Standing.{draft_of_run, staged_of}
use Rattle.batch_laws.specs.StandsOn.{FilesStandOn, IsNext, LeavesFiles}
use Rattle.batch_laws.specs.Together.{PosixStandsAt}

-- ---- lists

map_same : (f h : Run → Draft) (rs : List Run) → ((r : Run) → In r rs → f r ≡ h r) → map f rs ≡ map h rs
map_same f h [] each = refl
map_same f h (r ∷ rs) each = let own = each r (inl refl) in let rest = map_same f h rs (λ q is. each q (inr is)) in λ i. own i ∷ rest i

flat_same : (f h : ℕ → List Draft) (a n : ℕ) → ((ino : ℕ) → a ≤ ino → ino < a + n → f ino ≡ h ino) → flat_map f (range_with_len a n) ≡ flat_map h (range_with_len a n)
flat_same f h a zero each = refl
flat_same f h a (suc n) each =
    let own = each a (omega arith) (omega arith) in
    let rest = flat_same f h (a + 1) n (λ ino low high. each ino (omega (arith, low)) (omega (arith, high))) in
    λ i. own i ++ rest i

-- ---- a change that leaves files

module _ (g : Geometry) (k l : View) (t : Tables) (kept : Kept) (n : ℕ) (start : State) (history : List Item) (touched : Option ℕ) (stands : PosixStandsAt g k t kept true n start history) (leaves : LeavesFiles touched k l) where
  abbrev v : Volume
  v = k.volume

  abbrev w : Volume
  w = l.volume

  abbrev files : Files
  files = kept.files

  abbrev staged : List Draft
  staged = staged_of k.volume kept.files

  -- the staging file of a run is not touched
  apart : (d : Draft) → In d staged → touched ≢ Some d.staging
  apart d is same = leaves.staging d.staging same (stands.ready.going.aged.staging d (subst (In d) (sym (entries_again staged)) is))

  same_draft : (ino : ℕ) (r : Run) → touched ≢ Some ino → touched ≢ Some r.staging → draft_of_run w files ino r ≡ draft_of_run v files ino r
  same_draft ino r other plain =
      let own = leaves.others ino other in
      let from = leaves.others r.staging plain in
      λ i. record {
        count = r.count;
        order = r.order;
        ino = ino;
        generation = (own i).generation;
        file_block = r.file_block;
        staging = r.staging;
        staging_block = r.staging_block;
        staging_generation = (from i).generation;
        size = size_in files ino;
      }

  -- THE SAME RUNS ARE STAGED.
  staged_same : staged_of w files ≡ staged
  staged_same = flat_same (λ (ino : ℕ). map (draft_of_run w files ino) (runs_in files ino)) (λ (ino : ℕ). map (draft_of_run v files ino) (runs_in files ino)) 0 (length files.sizes) part where
    part : (ino : ℕ) → 0 ≤ ino → ino < 0 + length files.sizes → map (draft_of_run w files ino) (runs_in files ino) ≡ map (draft_of_run v files ino) (runs_in files ino)
    part ino low high = elim (touched_or_not touched ino) [
      | inl same ↦ (let none = (stands.ready.going.bare ino (leaves.file ino same)).0 in ap (map (draft_of_run w files ino)) none ∙ sym (ap (map (draft_of_run v files ino)) none))
      | inr other ↦
          map_same (draft_of_run w files ino) (draft_of_run v files ino) (runs_in files ino)
          (λ r is. same_draft ino r other
          (apart (draft_of_run v files ino r)
          (in_flat (λ (j : ℕ). map (draft_of_run v files j) (runs_in files j)) 0 (length files.sizes) ino (draft_of_run v files ino r) low high (In-map (draft_of_run v files ino) (runs_in files ino) r is))))
    ]

  lines_on : AreLinesLent v k.cells kept.first → AreLinesLent w l.cells kept.first
  lines_on is = record {
    lent = λ slot j below word.
        let same : log_line w.geometry slot ≡ log_line v.geometry slot = ap (λ x. log_line x slot) leaves.geometry in
        subst (λ line. is_lent (cell l.cells (8 * line + j)) ≡ true) (sym same)
        (leaves.lent (8 * log_line v.geometry slot + j) ∙ is.lent slot j (subst (λ (x : Geometry). slot < x.log) leaves.geometry below) word);
    old = λ slot below valid.
        let same : log_line w.geometry slot ≡ log_line v.geometry slot = ap (λ x. log_line x slot) leaves.geometry in
        let was = is.old slot (subst (λ (x : Geometry). slot < x.log) leaves.geometry below) (ap (λ line. is_self_valid (line_bytes kept.first line)) (sym same) ∙ valid) in
        omega (arith, was, ap (λ line. held_seq (line_bytes kept.first line)) same, leaves.base);
  }

  agrees_on : Agrees kept.staging l
  agrees_on = record {
    free = λ x b is free.
        let was = stands.agrees.free x b is free in
        record { disk = was.disk; at = ap (λ es. disk_at es b) (leaves.maps x) ∙ was.at; home = λ i at. leaves.lent i ∙ was.home i at };
    empty = λ x is empty. leaves.maps x ∙ stands.agrees.empty x is empty;
  }

  single_on : AreFreeSingle kept.staging l
  single_on x b is free disk i at word = leaves.singles i (stands.free_single x b is free disk i (ap (λ es. disk_at es b) (sym (leaves.maps x)) ∙ at) word)

  short_on : (ino : ℕ) → (inode w ino).kind ≡ File → size_in files ino ≤ LONGEST_FILE
  short_on ino file = elim (touched_or_not touched ino) [
    | inl same ↦ (let none = (stands.ready.going.bare ino (leaves.file ino same)).1 in omega (arith, none))
    | inr other ↦ stands.short ino (ap (λ (x : Inode). x.kind) (sym (leaves.others ino other)) ∙ file)
  ]

  stand_on : (t2 : Tables) (m count : ℕ) (numbers : List ℕ) (more : List Item) → GoesReady g l kept.files count numbers start (history ++ more) → count ≤ m → n ≤ m
      → IsNext l t2 kept numbers (run start (history ++ more)) → PosixStandsAt g l t2 kept true m start (history ++ more)
  stand_on t2 m count numbers more ready few later next = record {
    count = count;
    few = few;
    numbers = numbers;
    ready = ready;
    none_out = stands.none_out;
    none_claimed = stands.none_claimed;
    lines = lines_on stands.lines;
    tables = next.tables;
    open_are_files = next.open_are_files;
    ordered = next.ordered;
    staged = stands.staged;
    agrees = agrees_on;
    free_single = single_on;
    runs_out = λ d is. stands.runs_out d (subst (In d) staged_same is);
    owed = (let was = stands.owed in let same = ap (λ (ds : List Draft). length ds) staged_same in omega (arith, was, same));
    low = λ ino. (let was = stands.low ino in let applied = leaves.applied ino in omega (arith, was, applied, later));
    ends = next.ends;
    short = short_on;
  }

pub files_stand_on : FilesStandOn
files_stand_on g k l t t2 kept n m count numbers start history more touched stands leaves ready few later next = stand_on g k l t kept n start history touched stands leaves t2 m count numbers more ready few later next
