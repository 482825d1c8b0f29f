-- A file has another size: they stand together in the next state.
use Rattle.std.specs.Prelude.{◌≡◌, ◌≢◌, ◌≤◌, ◌<◌, ◌+◌, ◌*◌, ◌^◌, ℕ, Bool, true, false, List, [], ◌∷◌, length, map, Ok, slice_index, refl}
use Rattle.std.proofs.Common.{arith, ap, ◌∙◌, sym, subst, inl, inr}
use Rattle.std.proofs.lemmas.Bool.{cases_eq}
use Rattle.std.proofs.lemmas.List.{get_or-set_other, get_or-set_same, length-set}
use Rattle.file_calls.specs.live_step_laws.live_model.world_image_laws.Settings.{keeps_setting}
use Rattle.file_calls.specs.live_step_laws.pm_model.Cells.{cell, is_lent}
use Rattle.file_calls.specs.live_step_laws.pm_model.Words.{line_bytes}
use Rattle.file_calls.specs.live_step_laws.layout_model.Places.{Geometry, log_line}
use Rattle.file_calls.specs.live_step_laws.layout_model.declared.lines.Draft.{Draft}
use Rattle.file_calls.specs.live_step_laws.layout_model.declared.lines.Kind.TheVariants.{File, Staging}
use Rattle.file_calls.specs.live_step_laws.layout_model.Entries.{held_seq, is_self_valid}
use Rattle.file_calls.specs.eof_laws.image_model.Content.{size_by}
use Rattle.file_calls.specs.eof_laws.image_model.Live.{latest}
use Rattle.file_calls.specs.eof_laws.image_model.Volume.{extents, inode, Volume}
use Rattle.file_calls.specs.live_step_laws.posix_laws.Orders.{AreOrdered-step_of}
use Rattle.file_calls.specs.live_step_laws.extent_model.Extents.{disk_at}
use Rattle.file_calls.specs.eof_laws.file_table.Files.{ChangesFile, Files, runs_in, size_in, spare_in}
use Rattle.file_calls.specs.eof_laws.k_split_model.Stands.{Stands}
use Rattle.file_calls.specs.eof_laws.k_split_model.View.{View}
use Rattle.file_calls.specs.live_step_laws.list_laws.Members.{In}
use Rattle.file_calls.specs.live_step_laws.posix_types.declared.call.Call.{Call}
use Rattle.file_calls.specs.live_step_laws.posix_types.declared.call.Who.{Who}
use Rattle.file_calls.specs.live_step_laws.posix_types.declared.handle.Handle.{Handle}
use Rattle.file_calls.specs.live_step_laws.posix_tables.Open.{Tables}
use Rattle.file_calls.specs.live_step_laws.posix_spec.Run.{after_call}
use Rattle.file_calls.specs.live_step_laws.posix_spec.State.{alone, State, with_file}
use Rattle.file_calls.specs.live_step_laws.posix_spec.Step.{stepped, truncate_done}
use Rattle.file_calls.specs.live_step_laws.live_model.Flying.{IsOut}
use Rattle.file_calls.specs.live_step_laws.live_model.world_model.HeldLaws.{AreSizes}
use Rattle.file_calls.specs.live_step_laws.live_model.write_jobs.Blocks.{AreOut}
use Rattle.file_calls.specs.live_step_laws.live_model.k_split.MapChanges.{ChangesMaps, IsMapDone, IsSizeAnswer}
use Rattle.file_calls.specs.live_step_laws.live_model.Overlays.{IsOverlayOf, run_of}
use Rattle.file_calls.specs.live_step_laws.live_model.staging_files.Keeps.{Agrees, IsStaging}
use Rattle.file_calls.specs.live_step_laws.live_model.world_image_laws.Images.{StandsFor}
use Rattle.file_calls.specs.live_step_laws.live_model.world_model.Jobs.{Job, JobsStand, JobStands, live_claims, staged_block}
use Rattle.file_calls.specs.live_step_laws.live_model.world_model.Stands.{entries_of}
use Rattle.file_calls.proofs.live_step_laws_proofs.live_model_proofs.staging_files_proofs.GiveUpLaws.{staging-file}
use Rattle.file_calls.specs.live_step_laws.live_model.Standing.{AreJobsOf, HasItsBlocks, Kept, LinesStand, JobOut, StandsAt}
use Rattle.file_calls.specs.live_step_laws.Changes.{IsChangeWith}
use Rattle.file_calls.proofs.live_step_laws_proofs.Devices.{keeps_log_home_with}
use Rattle.file_truncate.specs.Sizes.{MaySize, StandsSized}
use Rattle.file_truncate.proofs.Device.{device_on}
use Rattle.file_truncate.proofs.Sizing as sizing

-- the job of a pending one
record IsJobOf (p : JobOut) (jobs : List Job) : Type 0 where
  job : Job
  there : In job jobs
  draft : job.draft ≡ p.draft

job_of : (pending : List JobOut) (jobs : List Job) (p : JobOut) → AreJobsOf pending jobs → In p pending → IsJobOf p jobs
job_of [] jobs p are is = absurd is
job_of (q ∷ pending) [] p are is = absurd are
job_of (q ∷ pending) (j ∷ jobs) p are (inl same) = record { job = j; there = inl refl; draft = are.2 ∙ ap (λ (x : JobOut). x.draft) same }
job_of (q ∷ pending) (j ∷ jobs) p are (inr rest) = let its = job_of pending jobs p are.3 rest in record { job = its.job; there = inr its.there; draft = its.draft }

job_stands : (v : Volume) (live : List Draft) (f : ℕ → ℕ) (numbers : List ℕ) (s : State) (jobs : List Job) (j : Job) → JobsStand v live f numbers s jobs → In j jobs → JobStands v live f numbers s j
job_stands v live f numbers s [] j out is = absurd is
job_stands v live f numbers s (i ∷ jobs) j out (inl same) = subst (JobStands v live f numbers s) same out.0
job_stands v live f numbers s (i ∷ jobs) j out (inr behind) = job_stands v live f numbers s jobs j out.2 behind

module _ (g : Geometry) (k l : View) (t : Tables) (kept : Kept) (files : Files) (lines : Bool) (n m : ℕ) (s : State) (who : Who) (h : Handle) (size ino : ℕ) (more : n ≤ m) (stands : StandsAt g k t kept lines n s)
    (may : MaySize k kept stands.jobs stands.numbers s who h size ino) (gave : IsSizeAnswer ino size k l (Ok tt)) (changes : ChangesFile ino [] size kept.files files) (spares : spare_in kept.files ino ≤ spare_in files ino) where
  abbrev v : Volume
  v = k.volume

  abbrev w : Volume
  w = l.volume

  done : IsMapDone gave.0 k l
  done = gave.2

  off : l.batched ≡ false
  off = done.batched ∙ stands.unbatched

  abbrev next : State
  next = after_call s (who, Call.Truncate h size)

  below : ino < length k.volume.inodes
  below = sizing.below g k t kept lines n s stands who h size ino may w gave.0 gave.1 done.order.whole

  geometry : l.volume.geometry ≡ k.volume.geometry
  geometry = sizing.same_geometry g k t kept lines n s stands who h size ino may w gave.0 gave.1 done.order.whole

  base : l.volume.base ≡ k.volume.base
  base = sizing.same_base g k t kept lines n s stands who h size ino may w gave.0 gave.1 done.order.whole

  kinds : (i : ℕ) → (inode l.volume i).kind ≡ (inode k.volume i).kind
  kinds = sizing.kinds g k t kept lines n s stands who h size ino may w gave.0 gave.1 done.order.whole

  other_line : (i : ℕ) → i ≢ ino → inode l.volume i ≡ inode k.volume i
  other_line = sizing.other_line g k t kept lines n s stands who h size ino may w gave.0 gave.1 done.order.whole

  lives : live_claims l.volume kept.claims ≡ live_claims k.volume kept.claims
  lives = sizing.lives g k t kept lines n s stands who h size ino may w gave.0 gave.1 done.order.whole

  none : entries_of ino (live_claims k.volume kept.claims) ≡ []
  none = sizing.none g k t kept lines n s stands who h size ino may w gave.0 gave.1 done.order.whole

  staging_map : (x : ℕ) → (inode k.volume x).kind ≡ Staging → extents l.volume x ≡ extents k.volume x
  staging_map = sizing.staging_map g k t kept lines n s stands who h size ino may w gave.0 gave.1 done.order.whole

  same_lent : (i : ℕ) → is_lent (cell l.cells i) ≡ is_lent (cell k.cells i)
  same_lent = done.changes.lent

  -- ---- the device

  changed : IsChangeWith gave.0 k.volume l.volume k.cells l.cells
  changed =
      let of_v : ChangesMaps gave.0 v w k.cells l.cells = subst (λ u. ChangesMaps gave.0 u w k.cells l.cells) (stands.order.settled stands.unbatched) done.changes in
      record { each_image = of_v.each_image; geometry = geometry; base = base }

  device : StandsFor l.volume l.cells kept.claims stands.jobs stands.numbers next stands.count
  device =
      device_on gave.0 v w k.cells l.cells kept.claims stands.jobs stands.numbers s next stands.count ino (size_in kept.files ino) size below stands.flying.device changed
      (sizing.spare g k t kept lines n s stands who h size ino may w gave.0 gave.1 done.order.whole) (sizing.room_on g k t kept lines n s stands who h size ino may w gave.0 gave.1 done.order.whole)
      (sizing.takes_zeros g k t kept lines n s stands who h size ino may w gave.0 gave.1 done.order.whole) may.zeros
      (subst (λ u. Stands u.geometry u l.cells) (done.order.settled off) done.order.stands)

  job_staging : (j : Job) → In j stands.jobs → (inode k.volume j.draft.staging).kind ≡ Staging
  job_staging j is =
      (job_stands v (live_claims v kept.claims) _ stands.numbers s stands.jobs j (sizing.world g k t kept lines n s stands who h size ino may w gave.0 gave.1 done.order.whole).valid.out is).staging

  same_block : (d : Draft) → (inode k.volume d.staging).kind ≡ Staging → (i : ℕ) → staged_block l.volume d i ≡ staged_block k.volume d i
  same_block d staging i = ap (λ es. disk_at es (d.staging_block + i)) (staging_map d.staging staging)

  out : (j : Job) → In j stands.jobs → AreOut l.volume j.draft l.cells
  out j is i b x lower at word = same_lent x ∙ stands.flying.out j is i b x lower (sym (same_block j.draft (job_staging j is) i) ∙ at) word

  home : (i : ℕ) → is_lent (cell l.cells i) ≡ true → IsOut l.volume stands.jobs i
  home i lent = elim (stands.flying.home i (sym (same_lent i) ∙ lent)) [
    | inl line ↦ inl (line.0, subst (λ (y : Geometry). line.0 < y.log) (sym geometry) line.1, line.2 ∙ ap (λ y. log_line y line.0) (sym geometry))
    | inr block ↦ inr (block.0, block.1, (block.2.0, block.2.1, same_block block.0.draft (job_staging block.0 block.1) block.2.0 ∙ block.2.2))
  ]

  blocks : (p : JobOut) → In p kept.pending → HasItsBlocks l.volume p
  blocks p is =
      let its = stands.blocks p is in
      let job = job_of kept.pending stands.jobs p stands.jobs_are is in
      let staging : (inode v p.draft.staging).kind ≡ Staging = subst (λ (d : Draft). (inode v d.staging).kind ≡ Staging) job.draft (job_staging job.job job.there) in
      record { count = its.count; each = λ i lower. same_block p.draft staging i ∙ its.each i lower }

  -- ---- files

  line_there : ino < length kept.files.sizes
  line_there = omega (arith, below, stands.sizes.count)

  size_other : (i : ℕ) → i ≢ ino → size_in files i ≡ size_in kept.files i
  size_other i other = ap (λ (xs : List ℕ). slice_index xs i) changes.sizes ∙ get_or-set_other kept.files.sizes ino i size 0 other

  size_own : size_in files ino ≡ size
  size_own = ap (λ (xs : List ℕ). slice_index xs ino) changes.sizes ∙ get_or-set_same kept.files.sizes ino size 0 line_there

  overlay_own : IsOverlayOf l.volume (live_claims l.volume kept.claims) ino (runs_in files ino) (size_in files ino)
  overlay_own =
      let now : entries_of ino (live_claims w kept.claims) ≡ [] = ap (entries_of ino) lives ∙ none in
      record {
        runs_are = changes.runs_are ∙ ap (map run_of) (sym now);
        size_is = size_own ∙ (sym (sizing.size_now g k t kept lines n s stands who h size ino may w gave.0 gave.1 done.order.whole) ∙ ap (λ ds. size_by (latest ds) (inode w ino).size) (sym now));
      }

  overlay_other : (i : ℕ) → i ≢ ino → (inode k.volume i).kind ≡ File → IsOverlayOf l.volume (live_claims l.volume kept.claims) i (runs_in files i) (size_in files i)
  overlay_other i other file =
      let was = stands.flying.overlays i file in
      let line = other_line i other in
      record {
        runs_are = changes.others i other ∙ (was.runs_are ∙ ap (λ ds. map run_of (entries_of i ds)) (sym lives));
        size_is = size_other i other ∙ (was.size_is ∙ (λ j. size_by (latest (entries_of i (sym lives j))) (sym line j).size));
      }

  overlay : (i : ℕ) → (inode l.volume i).kind ≡ File → IsOverlayOf l.volume (live_claims l.volume kept.claims) i (runs_in files i) (size_in files i)
  overlay i file = elim (cases_eq i ino) [
    | inl own ↦ subst (λ x. IsOverlayOf w (live_claims w kept.claims) x (runs_in files x) (size_in files x)) (sym own) overlay_own
    | inr other ↦ overlay_other i other (sym (kinds i) ∙ file)
  ]

  lines_many : length l.volume.inodes ≡ length k.volume.inodes
  lines_many =
      let old = (sizing.world g k t kept lines n s stands who h size ino may w gave.0 gave.1 done.order.whole).valid.stands.sane.inode_count in
      done.order.whole.kept.all.inode_count ∙ (ap (λ (y : Geometry). y.inodes) geometry ∙ sym old)

  sizes : AreSizes l.volume (live_claims l.volume kept.claims) files.sizes
  sizes = record {
    count = ap (λ (xs : List ℕ). length xs) changes.sizes ∙ (length-set kept.files.sizes ino size ∙ (stands.sizes.count ∙ sym lines_many));
    files = λ i file. (overlay i file).size_is;
    others = λ i other. size_other i (λ own. other (kinds i ∙ (ap (λ x. (inode v x).kind) own ∙ may.file))) ∙ stands.sizes.others i (λ file. other (kinds i ∙ file));
  }

  bare : (i : ℕ) → (inode l.volume i).kind ≢ File → runs_in files i ≡ []
  bare i other = changes.others i (λ own. other (kinds i ∙ (ap (λ x. (inode v x).kind) own ∙ may.file))) ∙ stands.bare i (λ file. other (kinds i ∙ file))

  -- ---- log lines

  lines_on : (b : Bool) → LinesStand b k.volume k.cells kept → LinesStand b l.volume l.cells (record kept { files = files })
  lines_on true is = record {
    lent = λ slot j lower word.
        let same : log_line w.geometry slot ≡ log_line v.geometry slot = ap (λ y. log_line y slot) geometry in
        subst (λ line. is_lent (cell l.cells (8 * line + j)) ≡ true) (sym same)
        (same_lent (8 * log_line v.geometry slot + j) ∙ is.lent slot j (subst (λ (y : Geometry). slot < y.log) geometry lower) word);
    old = λ slot lower valid.
        let same : log_line w.geometry slot ≡ log_line v.geometry slot = ap (λ y. log_line y slot) geometry in
        let was = is.old slot (subst (λ (y : Geometry). slot < y.log) geometry lower) (ap (λ line. is_self_valid (line_bytes kept.first line)) (sym same) ∙ valid) in
        omega (arith, was, ap (λ line. held_seq (line_bytes kept.first line)) same, base);
  }
  lines_on false is = (is.0, keeps_log_home_with gave.0 v w k.cells l.cells kept.claims stands.flying.device.headed changed (sizing.spare g k t kept lines n s stands who h size ino may w gave.0 gave.1 done.order.whole) is.1)

  -- ---- staging files

  staging_same : (x : ℕ) → IsStaging x → extents l.volume x ≡ extents k.volume x
  staging_same x is = staging_map x (staging-file v x stands.order.whole is).kind

  agrees : Agrees kept.staging l
  agrees = record {
    free = λ x b is free.
        let was = stands.agrees.free x b is free in
        record { disk = was.disk; at = ap (λ es. disk_at es b) (staging_same x is) ∙ was.at; home = λ i at. same_lent i ∙ was.home i at };
    empty = λ x is empty. staging_same x is ∙ stands.agrees.empty x is empty;
  }

  still : (d : Draft) → In d (live_claims l.volume kept.claims) → In d (live_claims k.volume kept.claims)
  still d is = subst (In d) lives is

  spare_on : (i : ℕ) → 3 ≤ spare_in kept.files i → 3 ≤ spare_in files i
  spare_on i enough = elim (cases_eq i ino) [
    | inl own ↦ subst (λ x. 3 ≤ spare_in files x) (sym own) (let was : 3 ≤ spare_in kept.files ino = subst (λ x. 3 ≤ spare_in kept.files x) own enough in omega (arith, was, spares))
    | inr other ↦ omega (arith, enough, changes.spares i other)
  ]

  low : (i : ℕ) → (inode l.volume i).applied + length (entries_of i (live_claims l.volume kept.claims)) ≤ 2 ^ 62 + m
  low i =
      let was = stands.low i in
      let same = sizing.applied g k t kept lines n s stands who h size ino may w gave.0 gave.1 done.order.whole i in
      let live = ap (λ ds. length (entries_of i ds)) lives in
      omega (arith, was, same, live, more)

  -- no description is opened or closed
  same_tables : next.tables ≡ s.tables
  unfolding truncate_done with_file
  same_tables = ap (λ o. (stepped s o (truncate_done s who h size)).state.tables) may.accepted

  pub stands_then : (now : StandsAt g l t (record kept { files = files }) lines m (after_call s (who, Call.Truncate h size))) × (now.jobs ≡ stands.jobs) × (now.numbers ≡ stands.numbers)
  stands_then = (
    record {
      count = stands.count;
      few = omega (arith, stands.few, more);
      numbers = stands.numbers;
      jobs = stands.jobs;
      jobs_are = stands.jobs_are;
      order = done.order;
      unbatched = off;
      on = done.kept_on;
      geometry = geometry ∙ stands.geometry;
      flying = record { device = device; whole = λ strict. stands.flying.whole (sym (keeps_setting s (who, Call.Truncate h size)).mode ∙ strict); out = out; home = home; overlays = overlay };
      lines = lines_on lines stands.lines;
      quiet = λ i journal line not_lent. done.singles i (stands.quiet i journal line (sym (same_lent i) ∙ not_lent));
      blocks = blocks;
      callers = stands.callers;
      spare = λ p is. spare_on p.draft.ino (stands.spare p is);
      tables = same_tables ∙ stands.tables;
      open_are_files = λ i is. kinds i ∙ stands.open_are_files i is;
      ordered = AreOrdered-step_of alone s who (Call.Truncate h size) stands.ordered;
      sizes = sizes;
      bare = bare;
      staged = stands.staged;
      agrees = agrees;
      free_single = λ x b is free disk i at word. done.singles i (stands.free_single x b is free disk i (ap (λ es. disk_at es b) (sym (staging_same x is)) ∙ at) word);
      drafts = λ d is. stands.drafts d (still d is);
      low = low;
      claims_out = λ d is. stands.claims_out d (still d is);
      jobs_out = stands.jobs_out;
      owed = (let was = stands.owed in let same = ap (λ (ds : List Draft). length ds) lives in omega (arith, was, same));
    },
    refl,
    refl,
  )

pub stands_sized : StandsSized
stands_sized g k l t kept files lines n m s who h size ino more stands may gave changes spares = stands_then g k l t kept files lines n m s who h size ino more stands may gave changes spares
