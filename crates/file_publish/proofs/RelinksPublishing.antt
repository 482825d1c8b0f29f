-- All runs of a file are relinked, one after the other.
use Rattle.std.specs.Prelude.{◌≡◌, ◌≢◌, ◌<◌, ◌≤◌, ℕ, Bool, true, false, List, [], ◌∷◌, length, map, slice_set, slice_index_or, refl}
use Rattle.std.proofs.Common.{arith, ap, ◌∙◌, sym, subst, inl, inr, get_or, get_or-set_other, get_or-set_same}
use Rattle.std.proofs.lemmas.Bool.{cases_eq, cases_lt}
use Rattle.std.proofs.lemmas.List.{get_or_past, set-get_or}
use Rattle.live_step_laws.specs.layout_model.Places.{Geometry}
use Rattle.live_step_laws.specs.layout_model.declared.lines.Draft.{Draft}
use Rattle.live_step_laws.specs.image_model.Content.{size_by}
use Rattle.live_step_laws.specs.image_model.Live.{latest}
use Rattle.live_step_laws.specs.image_model.Volume.{inode, Volume}
use Rattle.log_checkpoint.specs.file_overlay.declared.runs.Run.{Run}
use Rattle.log_checkpoint.specs.file_overlay.Runs.{Overlaid}
use Rattle.live_step_laws.specs.live_model.file_table.Files.{ChangesFile, Files, nothing_laid, runs_in, size_in, spare_in}
use Rattle.log_checkpoint.proofs.fsync_relink_proofs.NextLaws.{next-may}
use Rattle.log_checkpoint.specs.fsync_relink.Publishes.{AreRelinked, IsPublishDone, MayPublish}
use Rattle.live_step_laws.specs.k_split_model.View.{View}
use Rattle.live_step_laws.specs.list_laws.Members.{In}
use Rattle.live_step_laws.specs.live_model.Overlays.{IsOverlayOf, run_of}
use Rattle.live_step_laws.specs.posix_tables.Open.{Tables}
use Rattle.live_step_laws.specs.posix_spec.State.{State}
use Rattle.live_step_laws.specs.world_model.Jobs.{live_claims}
use Rattle.live_step_laws.specs.world_model.Stands.{entries_of}
use Rattle.live_step_laws.specs.world_step_laws.Steps.{AreBeside}
use Rattle.live_step_laws.specs.world_step_laws.Touched.{only}
use Rattle.live_step_laws.specs.live_model.Standing.{Kept, LinesStand, JobOut, StandsAt}
use Rattle.file_publish.specs.RelinksLaws.{StandsPublished, StandsThen}
use Rattle.file_publish.proofs.Relinked.{job-beside}
use Rattle.file_publish.proofs.RelinksStanding.{job-of, stands-relinked}

-- ---- a table of which a file has lost its first runs

abbrev pub with-runs : ℕ → List Run → Files → Files
with-runs ino rest files = record files { overlays = slice_set files.overlays ino (record { runs = rest; spare = spare_in files ino }) }

-- where a file has runs, it has an overlay
pub has-overlay : (files : Files) (ino : ℕ) (run : Run) (rest : List Run) → runs_in files ino ≡ run ∷ rest → ino < length files.overlays
has-overlay files ino run rest is = elim (cases_lt ino (length files.overlays)) [
  | inl below ↦ below
  | inr past ↦
      let none : runs_in files ino ≡ [] = ap (λ (o : Overlaid). o.runs) (get_or_past files.overlays ino nothing_laid past) in
      let never : run ∷ rest ≡ [] = sym is ∙ none in
      absurd (cc)
]

module _ (files : Files) (ino : ℕ) (rest : List Run) (below : ino < length files.overlays) where
  own-overlay : slice_index_or (with-runs ino rest files).overlays ino nothing_laid ≡ record { runs = rest; spare = spare_in files ino }
  own-overlay = get_or-set_same files.overlays ino (record { runs = rest; spare = spare_in files ino }) nothing_laid below

  other-overlay : (i : ℕ) → i ≢ ino → slice_index_or (with-runs ino rest files).overlays i nothing_laid ≡ slice_index_or files.overlays i nothing_laid
  other-overlay i other = get_or-set_other files.overlays ino i (record { runs = rest; spare = spare_in files ino }) nothing_laid other

  pub loses-runs : ChangesFile ino rest (size_in files ino) files (with-runs ino rest files)
  loses-runs = record {
    sizes = sym (set-get_or files.sizes ino 0);
    runs_are = ap (λ (o : Overlaid). o.runs) own-overlay;
    others = λ i other. ap (λ (o : Overlaid). o.runs) (other-overlay i other);
    spares = λ i other. ap (λ (o : Overlaid). o.spare) (other-overlay i other);
  }

  -- the last table, as one that changes this one
  loses-rest : (last : Files) → ChangesFile ino [] (size_in files ino) files last → ChangesFile ino [] (size_in files ino) (with-runs ino rest files) last
  loses-rest last is = record {
    sizes = is.sizes;
    runs_are = is.runs_are;
    others = λ i other. is.others i other ∙ sym (loses-runs.others i other);
    spares = λ i other. is.spares i other ∙ sym (loses-runs.spares i other);
  }

-- ---- one state behind another

then-stands : (g : Geometry) (k m l : View) (t : Tables) (kept next last : Kept) (lines : Bool) (n : ℕ) (s : State) (stands : StandsAt g k t kept lines n s) (first : StandsThen g k m t kept next lines n s stands)
    → StandsThen g m l t next last lines n s first.now → StandsThen g k l t kept last lines n s stands
then-stands g k m l t kept next last lines n s stands first second = record {
  now = second.now;
  jobs_are = second.jobs_are ∙ first.jobs_are;
  numbers_are = second.numbers_are ∙ first.numbers_are;
}

each-stands : (g : Geometry) (t : Tables) (lines : Bool) (n : ℕ) (s : State) (ino : ℕ) (run : Run) (rest : List Run) (k l : View) (kept : Kept) (files : Files) (stands : StandsAt g k t kept lines n s)
    → runs_in kept.files ino ≡ run ∷ rest → MayPublish ino (size_in kept.files ino) (run ∷ rest) k → AreBeside (only ino) stands.jobs
    → ChangesFile ino [] (size_in kept.files ino) kept.files files → AreRelinked ino (size_in kept.files ino) (run ∷ rest) k l
    → StandsThen g k l t kept (record kept { files = files }) lines n s stands
each-stands g t lines n s ino run [] k l kept files stands runs_are may beside loses (middle, gave, same) =
    subst (λ z. StandsThen g k z t kept (record kept { files = files }) lines n s stands) (sym same)
    (stands-relinked g k middle t kept files lines n s ino run [] stands runs_are may beside loses gave)
each-stands g t lines n s ino run (next ∷ rest) k l kept files stands runs_are may beside loses (middle, gave, behind) =
    let below = has-overlay kept.files ino run (next ∷ rest) runs_are in
    let table : Files = with-runs ino (next ∷ rest) kept.files in
    let first : StandsThen g k middle t kept (record kept { files = table }) lines n s stands =
    stands-relinked g k middle t kept table lines n s ino run (next ∷ rest) stands runs_are may beside (loses-runs kept.files ino (next ∷ rest) below) gave
    in
    then-stands g k middle l t kept (record kept { files = table }) (record kept { files = files }) lines n s stands first
    (each-stands g t lines n s ino next rest middle l (record kept { files = table }) files first.now (loses-runs kept.files ino (next ∷ rest) below).runs_are
    (next-may ino (size_in kept.files ino) run (next ∷ rest) k middle stands.order stands.unbatched may gave) (subst (AreBeside (only ino)) (sym first.jobs_are) beside)
    (loses-rest kept.files ino (next ∷ rest) below files loses) behind)

-- ---- no run

-- a file without a live entry has its own size
pub own-size : (v : Volume) (live : List Draft) (ino size : ℕ) → IsOverlayOf v live ino [] size → size ≡ (inode v ino).size
own-size v live ino size is = is.size_is ∙ ap (λ ds. size_by (latest ds) (inode v ino).size) (none (entries_of ino live) is.runs_are) where
  none : (es : List Draft) → [] ≡ map run_of es → es ≡ []
  none [] same = refl
  none (d ∷ ds) same = absurd (let never : [] ≡ run_of d ∷ map run_of ds = same in cc)

-- a table that keeps the same
module _ (g : Geometry) (k : View) (t : Tables) (kept : Kept) (files : Files) (lines : Bool) (n : ℕ) (s : State) (ino : ℕ) (stands : StandsAt g k t kept lines n s) (none : runs_in kept.files ino ≡ [])
    (beside : AreBeside (only ino) stands.jobs) (loses : ChangesFile ino [] (size_in kept.files ino) kept.files files) where
  sizes-same : files.sizes ≡ kept.files.sizes
  sizes-same = loses.sizes ∙ set-get_or kept.files.sizes ino 0

  runs-same : (i : ℕ) → runs_in files i ≡ runs_in kept.files i
  runs-same i = elim (cases_eq i ino) [
    | inl own ↦ ap (runs_in files) own ∙ (loses.runs_are ∙ (sym none ∙ ap (runs_in kept.files) (sym own)))
    | inr other ↦ loses.others i other
  ]

  size-same : (i : ℕ) → size_in files i ≡ size_in kept.files i
  size-same i = ap (λ (xs : List ℕ). get_or xs i 0) sizes-same

  same-lines : (b : Bool) → LinesStand b k.volume k.cells kept → LinesStand b k.volume k.cells (record kept { files = files })
  same-lines true is = record { lent = is.lent; old = is.old }
  same-lines false is = is

  other-spare : (p : JobOut) → In p kept.pending → 3 ≤ spare_in files p.draft.ino
  other-spare p is =
      let job = job-of kept.pending stands.jobs p stands.jobs_are is in
      let other : p.draft.ino ≢ ino = subst (λ (d : Draft). d.ino ≢ ino) job.draft (job-beside ino stands.jobs job.job beside job.there) in
      omega (arith, loses.spares p.draft.ino other, stands.spare p is)

  stands-table : StandsThen g k k t kept (record kept { files = files }) lines n s stands
  stands-table = record {
    now = record {
      count = stands.count;
      few = stands.few;
      numbers = stands.numbers;
      jobs = stands.jobs;
      jobs_are = stands.jobs_are;
      order = stands.order;
      unbatched = stands.unbatched;
      on = stands.on;
      geometry = stands.geometry;
      flying = record {
        device = stands.flying.device;
        whole = stands.flying.whole;
        out = stands.flying.out;
        home = stands.flying.home;
        overlays = λ i file.
            let was = stands.flying.overlays i file in
            record { runs_are = runs-same i ∙ was.runs_are; size_is = size-same i ∙ was.size_is };
      };
      lines = same-lines lines stands.lines;
      quiet = stands.quiet;
      blocks = stands.blocks;
      callers = stands.callers;
      spare = other-spare;
      tables = stands.tables;
      open_are_files = stands.open_are_files;
      ordered = stands.ordered;
      sizes = record {
        count = ap (λ (xs : List ℕ). length xs) sizes-same ∙ stands.sizes.count;
        files = λ i file. size-same i ∙ stands.sizes.files i file;
        others = λ i other. size-same i ∙ stands.sizes.others i other;
      };
      bare = λ i other. runs-same i ∙ stands.bare i other;
      staged = stands.staged;
      agrees = stands.agrees;
      free_single = stands.free_single;
      drafts = stands.drafts;
      low = stands.low;
      claims_out = stands.claims_out;
      jobs_out = stands.jobs_out;
      owed = stands.owed;
    };
    jobs_are = refl;
    numbers_are = refl;
  }

-- ---- a publishing

pub stands-published : StandsPublished
stands-published g k l t kept files lines n s ino stands may beside loses done = by (runs_in kept.files ino) refl may done where
  by : (runs : List Run) → runs_in kept.files ino ≡ runs → MayPublish ino (size_in kept.files ino) runs k → IsPublishDone ino (size_in kept.files ino) runs k l
      → StandsThen g k l t kept (record kept { files = files }) lines n s stands
  by [] none may_be (inl same) =
      subst (λ z. StandsThen g k z t kept (record kept { files = files }) lines n s stands) (sym same.1) (stands-table g k t kept files lines n s ino stands none beside loses)
  by [] none may_be (inr resized) =
      let overlay = stands.flying.overlays ino may_be.file.file in
      absurd (resized.0 (sym (own-size k.volume (live_claims k.volume kept.claims) ino (size_in kept.files ino)
      (subst (λ rs. IsOverlayOf k.volume (live_claims k.volume kept.claims) ino rs (size_in kept.files ino)) none overlay))))
  by (run ∷ rest) are may_be relinked = each-stands g t lines n s ino run rest k l kept files stands are may_be beside loses relinked.1
