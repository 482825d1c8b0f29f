-- K-Split, the World and what is kept stand together behind a relink.
use Rattle.std.specs.Prelude.{◌≡◌, ◌≢◌, ◌≤◌, ◌<◌, ◌+◌, ◌*◌, ◌&&◌, ◌^◌, ℕ, Bool, true, false, List, [], ◌∷◌, length, map, Ok, refl}
use Rattle.std.specs.List.{list_any}
use Rattle.std.proofs.Common.{arith, ap, ◌∙◌, sym, subst, inl, inr, get_or}
use Rattle.std.proofs.lemmas.List.{set-get_or}
use Rattle.std.proofs.lemmas.List.Folds.{list_any_at}
use Rattle.std.proofs.lemmas.Bool.{both_ways, cases_Bool, cases_eq, eq-eqb}
use Rattle.live_step_laws.specs.pm_model.Cells.{cell, is_lent}
use Rattle.live_step_laws.specs.pm_model.ImageLaws.{IsImage-words_of}
use Rattle.live_step_laws.specs.pm_model.Images.{words_of}
use Rattle.live_step_laws.specs.pm_model.Words.{line_bytes}
use Rattle.live_step_laws.specs.layout_model.Places.{Geometry, log_line}
use Rattle.live_step_laws.specs.layout_model.declared.lines.Draft.{Draft}
use Rattle.live_step_laws.specs.layout_model.declared.lines.Kind.TheVariants.{File}
use Rattle.live_step_laws.specs.layout_model.Entries.{held_seq, is_self_valid}
use Rattle.live_step_laws.specs.image_model.Content.{size_by}
use Rattle.live_step_laws.specs.image_model.Live.{latest}
use Rattle.live_step_laws.specs.image_model.Volume.{extents, inode, Volume}
use Rattle.live_step_laws.specs.extent_model.Extents.{disk_at, is_within}
use Rattle.log_checkpoint.specs.file_overlay.declared.runs.Run.{Run}
use Rattle.live_step_laws.specs.live_model.file_table.Files.{ChangesFile, Files, runs_in, size_in, spare_in}
use Rattle.live_step_laws.specs.live_model.Flying.{IsOut}
use Rattle.log_checkpoint.specs.fsync_relink.Publishes.{MayPublish}
use Rattle.live_step_laws.specs.live_model.world_model.HeldLaws.{AreSizes}
use Rattle.live_step_laws.specs.live_model.write_jobs.Blocks.{AreOut}
use Rattle.live_step_laws.specs.k_split_model.Stands.{Stands}
use Rattle.live_step_laws.specs.k_split_model.View.{View}
use Rattle.log_checkpoint.specs.fsync_relink.k_split.MapChanges.{ChangesMaps, IsMapDone, IsRelinkAnswer}
use Rattle.live_step_laws.specs.list_laws.Members.{In}
use Rattle.live_step_laws.specs.live_model.Overlays.{IsOverlayOf, run_of}
use Rattle.live_step_laws.specs.posix_tables.Open.{Tables}
use Rattle.live_step_laws.specs.posix_spec.State.{State}
use Rattle.live_step_laws.proofs.live_model_proofs.staging_files_proofs.GiveUpLaws.{staging-file}
use Rattle.live_step_laws.proofs.live_model_proofs.staging_files_proofs.StagedLaws.{free-none}
use Rattle.live_step_laws.specs.live_model.staging_files.Keeps.{Agrees, has_block, is_kept_free, IsKeptEmpty, IsStaging}
use Rattle.live_step_laws.specs.world_image_laws.Images.{StandsFor}
use Rattle.live_step_laws.specs.world_model.Jobs.{Job, live_claims, staged_block}
use Rattle.live_step_laws.specs.world_model.Stands.{entries_of, IsSane}
use Rattle.live_step_laws.specs.world_step_laws.Steps.{AreBeside}
use Rattle.live_step_laws.specs.world_step_laws.Touched.{only}
use Rattle.live_step_laws.specs.live_model.Standing.{AreJobsOf, HasItsBlocks, Kept, LinesStand, JobOut, reserved_run, StandsAt}
use Rattle.live_step_laws.specs.Changes.{IsChangeWith}
use Rattle.live_step_laws.proofs.Devices.{changes_device_with, keeps_log_home_with}
use Rattle.file_publish.specs.RelinksLaws.{first_move, StandsRelinked, StandsThen}
use Rattle.file_publish.proofs.Relinked as relinking

-- the job of a pending one
pub record IsJobOf (p : JobOut) (jobs : List Job) : Type 0 where
  pub job : Job
  pub there : In job jobs
  pub draft : job.draft ≡ p.draft

pub job-of : (pending : List JobOut) (jobs : List Job) (p : JobOut) → AreJobsOf pending jobs → In p pending → IsJobOf p jobs
job-of [] jobs p are is = absurd is
job-of (q ∷ pending) [] p are is = absurd are
job-of (q ∷ pending) (j ∷ jobs) p are (inl same) = record { job = j; there = inl refl; draft = are.2 ∙ ap (λ (x : JobOut). x.draft) same }
job-of (q ∷ pending) (j ∷ jobs) p are (inr rest) = let its = job-of pending jobs p are.3 rest in record { job = its.job; there = inr its.there; draft = its.draft }

module _ (g : Geometry) (k l : View) (t : Tables) (kept : Kept) (files : Files) (lines : Bool) (n : ℕ) (s : State) (ino : ℕ) (run : Run) (rest : List Run) (stands : StandsAt g k t kept lines n s)
    (runs_are : runs_in kept.files ino ≡ run ∷ rest) (may : MayPublish ino (size_in kept.files ino) (run ∷ rest) k) (beside : AreBeside (only ino) stands.jobs)
    (loses : ChangesFile ino rest (size_in kept.files ino) kept.files files) (gave : IsRelinkAnswer (first_move kept k ino run rest) k l (Ok tt)) where
  abbrev v : Volume
  v = k.volume

  abbrev w : Volume
  w = l.volume

  done : IsMapDone gave.0 k l
  done = gave.2

  off : l.batched ≡ false
  off = done.batched ∙ stands.unbatched

  -- what the relink makes of the World
  abbrev entry : Draft
  entry = relinking.entry g k t kept lines n s stands ino run rest runs_are may beside l.volume gave.0 gave.1 gave.2.order.whole

  there : In (relinking.entry g k t kept lines n s stands ino run rest runs_are may beside l.volume gave.0 gave.1 gave.2.order.whole) (live_claims k.volume kept.claims)
  there = relinking.there g k t kept lines n s stands ino run rest runs_are may beside l.volume gave.0 gave.1 gave.2.order.whole

  geometry : l.volume.geometry ≡ k.volume.geometry
  geometry = (relinking.change g k t kept lines n s stands ino run rest runs_are may beside l.volume gave.0 gave.1 gave.2.order.whole).geometry

  base : l.volume.base ≡ k.volume.base
  base = relinking.same-base g k t kept lines n s stands ino run rest runs_are may beside l.volume gave.0 gave.1 gave.2.order.whole

  kinds : (i : ℕ) → (inode l.volume i).kind ≡ (inode k.volume i).kind
  kinds i = ((relinking.change g k t kept lines n s stands ino run rest runs_are may beside l.volume gave.0 gave.1 gave.2.order.whole).same i).kind

  still : (e : Draft) → In e (live_claims l.volume kept.claims) → In e (live_claims k.volume kept.claims)
  still = relinking.still g k t kept lines n s stands ino run rest runs_are may beside l.volume gave.0 gave.1 gave.2.order.whole

  fewer : length (live_claims l.volume kept.claims) + 1 ≤ length (live_claims k.volume kept.claims)
  fewer = relinking.fewer g k t kept lines n s stands ino run rest runs_are may beside l.volume gave.0 gave.1 gave.2.order.whole

  entries-beside : (i : ℕ) → i ≢ ino → entries_of i (live_claims l.volume kept.claims) ≡ entries_of i (live_claims k.volume kept.claims)
  entries-beside = relinking.entries-beside g k t kept lines n s stands ino run rest runs_are may beside l.volume gave.0 gave.1 gave.2.order.whole

  job-block : (j : Job) → In j stands.jobs → (i : ℕ) → i < j.draft.count → staged_block l.volume j.draft i ≡ staged_block k.volume j.draft i
  job-block = relinking.job-block g k t kept lines n s stands ino run rest runs_are may beside l.volume gave.0 gave.1 gave.2.order.whole

  other-file : (i : ℕ) → i ≢ ino → i ≢ (relinking.entry g k t kept lines n s stands ino run rest runs_are may beside l.volume gave.0 gave.1 gave.2.order.whole).ino
  other-file i other same = other (same ∙ relinking.own g k t kept lines n s stands ino run rest runs_are may beside l.volume gave.0 gave.1 gave.2.order.whole)

  same-lent : (i : ℕ) → is_lent (cell l.cells i) ≡ is_lent (cell k.cells i)
  same-lent = done.changes.lent

  -- ---- the device

  changed : IsChangeWith gave.0 k.volume l.volume k.cells l.cells
  changed =
      let of_v : ChangesMaps gave.0 v w k.cells l.cells = subst (λ u. ChangesMaps gave.0 u w k.cells l.cells) (stands.order.settled stands.unbatched) done.changes in
      record { each_image = of_v.each_image; geometry = geometry; base = base }

  device : StandsFor l.volume l.cells kept.claims stands.jobs stands.numbers s stands.count
  device =
      changes_device_with gave.0 v w k.cells l.cells kept.claims stands.jobs stands.numbers stands.numbers s s stands.count stands.count stands.flying.device changed
      (relinking.spare g k t kept lines n s stands ino run rest runs_are may beside l.volume gave.0 gave.1 gave.2.order.whole) (subst (λ u. Stands u.geometry u l.cells) (done.order.settled off) done.order.stands) (relinking.room g k t kept lines n s stands ino run rest runs_are may beside l.volume gave.0 gave.1 gave.2.order.whole) (relinking.takes g k t kept lines n s stands ino run rest runs_are may beside l.volume gave.0 gave.1 gave.2.order.whole)

  out : (j : Job) → In j stands.jobs → AreOut l.volume j.draft l.cells
  out j is i b x below at word = same-lent x ∙ stands.flying.out j is i b x below (sym (job-block j is i below) ∙ at) word

  home : (i : ℕ) → is_lent (cell l.cells i) ≡ true → IsOut l.volume stands.jobs i
  home i lent = elim (stands.flying.home i (sym (same-lent i) ∙ lent)) [
    | inl line ↦ inl (line.0, subst (λ (y : Geometry). line.0 < y.log) (sym geometry) line.1, line.2 ∙ ap (λ y. log_line y line.0) (sym geometry))
    | inr block ↦ inr (block.0, block.1, (block.2.0, block.2.1, job-block block.0 block.1 block.2.0 block.2.1 ∙ block.2.2))
  ]

  -- ---- files

  size-same : (i : ℕ) → size_in files i ≡ size_in kept.files i
  size-same i = ap (λ (xs : List ℕ). get_or xs i 0) (loses.sizes ∙ set-get_or kept.files.sizes ino 0)

  overlay-own : IsOverlayOf l.volume (live_claims l.volume kept.claims) ino (runs_in files ino) (size_in files ino)
  overlay-own =
      let was = stands.flying.overlays ino may.file.file in
      record { runs_are = loses.runs_are ∙ relinking.runs-left g k t kept lines n s stands ino run rest runs_are may beside l.volume gave.0 gave.1 gave.2.order.whole; size_is = size-same ino ∙ (was.size_is ∙ sym (relinking.size-left g k t kept lines n s stands ino run rest runs_are may beside l.volume gave.0 gave.1 gave.2.order.whole)) }

  overlay-other : (i : ℕ) → i ≢ ino → (inode k.volume i).kind ≡ File → IsOverlayOf l.volume (live_claims l.volume kept.claims) i (runs_in files i) (size_in files i)
  overlay-other i other file =
      let was = stands.flying.overlays i file in
      let size = (relinking.change g k t kept lines n s stands ino run rest runs_are may beside l.volume gave.0 gave.1 gave.2.order.whole).size_others i (other-file i other) in
      record {
        runs_are = loses.others i other ∙ (was.runs_are ∙ ap (map run_of) (sym (entries-beside i other)));
        size_is = size-same i ∙ (was.size_is ∙ (λ j. size_by (latest (sym (entries-beside i other) j)) (sym size j)));
      }

  overlay : (i : ℕ) → (inode l.volume i).kind ≡ File → IsOverlayOf l.volume (live_claims l.volume kept.claims) i (runs_in files i) (size_in files i)
  overlay i file = elim (cases_eq i ino) [
    | inl own ↦ subst (λ x. IsOverlayOf w (live_claims w kept.claims) x (runs_in files x) (size_in files x)) (sym own) overlay-own
    | inr other ↦ overlay-other i other (sym (kinds i) ∙ file)
  ]

  sane : IsSane k.volume
  sane = (stands.flying.device.world (words_of k.cells) (IsImage-words_of k.cells)).valid.stands.sane

  sizes : AreSizes l.volume (live_claims l.volume kept.claims) files.sizes
  sizes = record {
    count =
        ap (λ (xs : List ℕ). length xs) (loses.sizes ∙ set-get_or kept.files.sizes ino 0)
        ∙ (stands.sizes.count ∙ (sane.inode_count ∙ (ap (λ (y : Geometry). y.inodes) (sym geometry) ∙ sym (relinking.change g k t kept lines n s stands ino run rest runs_are may beside l.volume gave.0 gave.1 gave.2.order.whole).sane.inode_count)));
    files = λ i file. (overlay i file).size_is;
    others = λ i none. size-same i ∙ stands.sizes.others i (λ file. none (kinds i ∙ file));
  }

  bare : (i : ℕ) → (inode l.volume i).kind ≢ File → runs_in files i ≡ []
  bare i none =
      let was : (inode v i).kind ≢ File = λ file. none (kinds i ∙ file) in
      loses.others i (λ same. was (ap (λ x. (inode v x).kind) same ∙ may.file.file)) ∙ stands.bare i was

  -- ---- log lines

  lines-on : (b : Bool) → LinesStand b k.volume k.cells kept → LinesStand b l.volume l.cells (record kept { files = files })
  lines-on true is = record {
    lent = λ slot j below word.
        let same : log_line w.geometry slot ≡ log_line v.geometry slot = ap (λ y. log_line y slot) geometry in
        subst (λ line. is_lent (cell l.cells (8 * line + j)) ≡ true) (sym same)
        (same-lent (8 * log_line v.geometry slot + j) ∙ is.lent slot j (subst (λ (y : Geometry). slot < y.log) geometry below) word);
    old = λ slot below valid.
        let same : log_line w.geometry slot ≡ log_line v.geometry slot = ap (λ y. log_line y slot) geometry in
        let was = is.old slot (subst (λ (y : Geometry). slot < y.log) geometry below) (ap (λ line. is_self_valid (line_bytes kept.first line)) (sym same) ∙ valid) in
        omega (arith, was, ap (λ line. held_seq (line_bytes kept.first line)) same, base);
  }
  lines-on false is = (is.0, keeps_log_home_with gave.0 v w k.cells l.cells kept.claims stands.flying.device.headed changed (relinking.spare g k t kept lines n s stands ino run rest runs_are may beside l.volume gave.0 gave.1 gave.2.order.whole) is.1)

  -- ---- staging files

  -- a block that is kept as free is none of the run
  free-away : (x b : ℕ) → is_kept_free kept.staging x b ≡ true → x ≡ (relinking.entry g k t kept lines n s stands ino run rest runs_are may beside l.volume gave.0 gave.1 gave.2.order.whole).staging → is_within (relinking.entry g k t kept lines n s stands ino run rest runs_are may beside l.volume gave.0 gave.1 gave.2.order.whole).staging_block (relinking.entry g k t kept lines n s stands ino run rest runs_are may beside l.volume gave.0 gave.1 gave.2.order.whole).count b ≡ false
  free-away x b free same = elim (cases_Bool (is_within (relinking.entry g k t kept lines n s stands ino run rest runs_are may beside l.volume gave.0 gave.1 gave.2.order.whole).staging_block (relinking.entry g k t kept lines n s stands ino run rest runs_are may beside l.volume gave.0 gave.1 gave.2.order.whole).count b)) [
    | inr outside ↦ outside
    | inl inside ↦
        let c = stands.claims_out entry there in
        let has : has_block x b (reserved_run entry) ≡ true = (λ i. eq-eqb entry.staging x (sym same) i && inside i) in
        absurd (both_ways (list_any (has_block x b) kept.staging.out) (free-none kept.staging x b free)
        (list_any_at (has_block x b) kept.staging.out c.0 (reserved_run entry) c.1 (ap (has_block x b) c.2 ∙ has)))
  ]

  staged-stays : (x b : ℕ) → IsStaging x → is_kept_free kept.staging x b ≡ true → disk_at (extents l.volume x) b ≡ disk_at (extents k.volume x) b
  staged-stays x b is free = relinking.block-stays g k t kept lines n s stands ino run rest runs_are may beside l.volume gave.0 gave.1 gave.2.order.whole x b (staging-file v x stands.order.whole is).kind (free-away x b free)

  empty-stays : (x : ℕ) → IsStaging x → IsKeptEmpty kept.staging x → extents l.volume x ≡ []
  empty-stays x is empty = relinking.map-empty g k t kept lines n s stands ino run rest runs_are may beside l.volume gave.0 gave.1 gave.2.order.whole x (staging-file v x stands.order.whole is).kind (stands.agrees.empty x is empty)

  agrees : Agrees kept.staging l
  agrees = record {
    free = λ x b is free.
        let was = stands.agrees.free x b is free in
        record { disk = was.disk; at = staged-stays x b is free ∙ was.at; home = λ i at. same-lent i ∙ was.home i at };
    empty = empty-stays;
  }

  -- ---- jobs

  job-at : (p : JobOut) → In p kept.pending → IsJobOf p stands.jobs
  job-at p is = job-of kept.pending stands.jobs p stands.jobs_are is

  blocks : (p : JobOut) → In p kept.pending → HasItsBlocks l.volume p
  blocks p is =
      let its = stands.blocks p is in
      let job = job-at p is in
      record {
        count = its.count;
        each = λ i below.
            subst (λ (d : Draft). i < d.count → staged_block w d i ≡ staged_block v d i) job.draft (job-block job.job job.there i) below ∙ its.each i below;
      }

  spare-on : (p : JobOut) → In p kept.pending → 3 ≤ spare_in files p.draft.ino
  spare-on p is =
      let job = job-at p is in
      let other : p.draft.ino ≢ ino = subst (λ (d : Draft). d.ino ≢ ino) job.draft (relinking.job-other g k t kept lines n s stands ino run rest runs_are may beside l.volume gave.0 gave.1 gave.2.order.whole job.job job.there) in
      omega (arith, loses.spares p.draft.ino other, stands.spare p is)

  -- ---- orders

  low : (i : ℕ) → (inode l.volume i).applied + length (entries_of i (live_claims l.volume kept.claims)) ≤ 2 ^ 62 + n
  low i = elim (cases_eq i ino) [
    | inl own ↦ subst (λ x. (inode w x).applied + length (entries_of x (live_claims w kept.claims)) ≤ 2 ^ 62 + n) (sym own) (let was = stands.low ino in let same = relinking.low-own g k t kept lines n s stands ino run rest runs_are may beside l.volume gave.0 gave.1 gave.2.order.whole in omega (arith, was, same))
    | inr other ↦ let was = stands.low i in let applied = (relinking.change g k t kept lines n s stands ino run rest runs_are may beside l.volume gave.0 gave.1 gave.2.order.whole).applied_others i (other-file i other) in let same = ap length (entries-beside i other) in omega (arith, was, applied, same)
  ]

  pub stands-then : StandsThen g k l t kept (record kept { files = files }) lines n s stands
  stands-then = record {
    now = record {
      count = stands.count;
      few = stands.few;
      numbers = stands.numbers;
      jobs = stands.jobs;
      jobs_are = stands.jobs_are;
      order = done.order;
      unbatched = off;
      on = done.kept_on;
      geometry = geometry ∙ stands.geometry;
      flying = record { device = device; whole = stands.flying.whole; out = out; home = home; overlays = overlay };
      lines = lines-on lines stands.lines;
      quiet = λ i journal line not_lent. done.singles i (stands.quiet i journal line (sym (same-lent i) ∙ not_lent));
      blocks = blocks;
      callers = stands.callers;
      spare = spare-on;
      tables = stands.tables;
      open_are_files = λ i is. kinds i ∙ stands.open_are_files i is;
      ordered = stands.ordered;
      sizes = sizes;
      bare = bare;
      staged = stands.staged;
      agrees = agrees;
      free_single = λ x b is free disk i at word. done.singles i (stands.free_single x b is free disk i (sym (staged-stays x b is free) ∙ at) word);
      drafts = λ d is. stands.drafts d (still d is);
      low = low;
      claims_out = λ d is. stands.claims_out d (still d is);
      jobs_out = stands.jobs_out;
      owed = (let was = stands.owed in omega (arith, was, fewer));
    };
    jobs_are = refl;
    numbers_are = refl;
  }

pub stands-relinked : StandsRelinked
stands-relinked g k l t kept files lines n s ino run rest stands runs_are may beside loses gave =
    stands-then g k l t kept files lines n s ino run rest stands runs_are may beside loses gave
