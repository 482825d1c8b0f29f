-- All files are published, line by line, and the next lap begins; or the power goes on the way.
use Rattle.std.specs.Prelude.{◌≡◌, ◌≢◌, ◌<◌, ◌≤◌, ◌^◌, ℕ, zero, suc, false, List, [], length, Ok, refl}
use Rattle.std.proofs.Common.{arith, ap, ◌∙◌, sym, subst, inl, inr}
use Rattle.std.proofs.lemmas.Bool.{cases_eq, cases_lt}
use Rattle.live_step_laws.specs.layout_model.declared.lines.Kind.TheVariants.{File}
use Rattle.live_step_laws.specs.layout_model.block_counts.declared.TheConstants.{LONGEST_FILE}
use Rattle.live_step_laws.specs.layout_model.Places.{Geometry}
use Rattle.log_checkpoint.specs.image_model.Volume.{inode}
use Rattle.log_checkpoint.specs.file_overlay.declared.runs.Run.{Run}
use Rattle.log_checkpoint.specs.file_table.Files.{Files, runs_in, size_in}
use Rattle.log_checkpoint.specs.fsync_relink.Publishes.{IsPublishDone, IsPublishStopped, MayPublish}
use Rattle.log_checkpoint.specs.k_journal.declared.outcomes.Commit.{Commit}
use Rattle.log_checkpoint.specs.fsync_relink.k_map_plans.Plans.{IsLiveFile}
use Rattle.log_checkpoint.specs.k_split_model.View.{View}
use Rattle.log_checkpoint.specs.fsync_relink.k_split.declared.faults.KFault.{KFault}
use Rattle.log_checkpoint.specs.fsync_relink.k_split.Laps.{HasNextLap}
use Rattle.log_checkpoint.proofs.Laps.{still-next}
use Rattle.log_checkpoint.specs.Gathers.{AreAllDone, AreDone, AreDoneUpTo, IsGatheredTo, IsLineDone, IsLineStopped}
use Rattle.live_step_laws.specs.posix_types.declared.call.Mode.{Mode}
use Rattle.live_step_laws.specs.posix_types.declared.item.Item.{Item}
use Rattle.live_step_laws.specs.posix_tables.Open.{Tables}
use Rattle.log_checkpoint.specs.posix_spec.Run.{run}
use Rattle.log_checkpoint.specs.posix_spec.State.{State}
use Rattle.live_step_laws.specs.live_model.staging_files.Keeps.{Staged}
use Rattle.file_publish.specs.StandingLaws.{StandsToPublish}
use Rattle.live_step_laws.specs.world_image_laws.Images.{IsRunning, StandsFor}
use Rattle.live_step_laws.specs.world_image_laws.Promised.{KeepsPromise}
use Rattle.live_step_laws.specs.world_image_laws.Running.{promise_now}
use Rattle.live_step_laws.specs.world_model.TreeRules.{used_below}
use Rattle.live_step_laws.specs.world_model.Jobs.{Job}
use Rattle.live_step_laws.specs.world_model.Stands.{is_used}
use Rattle.live_step_laws.specs.world_step_laws.Steps.{AreBeside}
use Rattle.live_step_laws.specs.world_step_laws.Touched.{only}
use Rattle.live_step_laws.specs.live_model.Standing.{Kept, StandsAt}
use Rattle.file_publish.specs.LapsLaws.{HasNoRuns, KeepsLapped, StandsLapped}
use Rattle.file_publish.specs.RelinksLaws.{KeepsPublishedHome, StandsPublished, StandsThen}
use Rattle.file_publish.specs.GathersLaws.{AreSmall, KeepsGathered, StandsGathered, with_table}
use Rattle.file_publish.proofs.Tables.{all-cleared, cleared, cleared-none, cleared-size, cleared-sizes, clears-next, left-runs, no-jobs, stands-same}

-- ---- lines

none-beside : (ino : ℕ) (jobs : List Job) → jobs ≡ [] → AreBeside (only ino) jobs
none-beside ino jobs none = subst (AreBeside (only ino)) (sym none) tt

module _ (may : StandsToPublish) (published : StandsPublished) (g : Geometry) (k : View) (t : Tables) (kept : Kept) (n : ℕ) (s : State) (stands : StandsAt g k t kept false n s) (few : n ≤ 2 ^ 62) (small : AreSmall kept) where
  size-small : (m : ℕ) (ino : ℕ) → ino < length kept.files.sizes → size_in (cleared m kept.files) ino ≤ LONGEST_FILE
  size-small m ino below = subst (λ size. size ≤ LONGEST_FILE) (sym (cleared-size m kept.files ino)) (small ino 0 below)

  may-next : (m : ℕ) (l : View) → m < length kept.files.sizes → StandsThen g k l t kept (with_table kept (cleared m kept.files)) false n s stands → IsLiveFile m l.volume
      → MayPublish m (size_in (cleared m kept.files) m) (runs_in (cleared m kept.files) m) l
  may-next m l below at file = may g l t (with_table kept (cleared m kept.files)) false n s m at.now few file (size-small m m below)

  jobs-none : (m : ℕ) (l : View) (at : StandsThen g k l t kept (with_table kept (cleared m kept.files)) false n s stands) → at.now.jobs ≡ []
  jobs-none m l at = no-jobs kept.pending at.now.jobs at.now.jobs_are at.now.lines.0

  line-done : (m : ℕ) (l next : View) → m < length kept.files.sizes → StandsThen g k l t kept (with_table kept (cleared m kept.files)) false n s stands → IsLineDone m kept.files l next
      → StandsThen g k next t kept (with_table kept (cleared (suc m) kept.files)) false n s stands
  line-done m l next below at (inl (file, done)) =
      let of_size : IsPublishDone m (size_in (cleared m kept.files) m) (runs_in kept.files m) l next = subst (λ size. IsPublishDone m size (runs_in kept.files m) l next) (sym (cleared-size m kept.files m)) done in
      let of_runs : IsPublishDone m (size_in (cleared m kept.files) m) (runs_in (cleared m kept.files) m) l next =
      subst (λ (rs : List Run). IsPublishDone m (size_in (cleared m kept.files) m) rs l next) (sym (left-runs m kept.files m (omega arith))) of_size
      in
      let then =
      published g l next t (with_table kept (cleared m kept.files)) (cleared (suc m) kept.files) false n s m at.now (may-next m l below at file) (none-beside m at.now.jobs (jobs-none m l at)) (clears-next m kept.files) of_runs
      in
      record { now = then.now; jobs_are = then.jobs_are ∙ at.jobs_are; numbers_are = then.numbers_are ∙ at.numbers_are }
  line-done m l next below at (inr (none, same)) =
      let then = stands-same g l t (with_table kept (cleared m kept.files)) (cleared (suc m) kept.files) n s at.now (cleared-sizes (suc m) kept.files ∙ sym (cleared-sizes m kept.files)) runs-same in
      subst (λ y. StandsThen g k y t kept (with_table kept (cleared (suc m) kept.files)) false n s stands) (sym same)
      (record { now = then.now; jobs_are = then.jobs_are ∙ at.jobs_are; numbers_are = then.numbers_are ∙ at.numbers_are })
    where
      no_file : (inode l.volume m).kind ≢ File
      no_file file = none (record { below = subst (λ count. m < count) (at.now.sizes.count) (subst (λ (xs : List ℕ). m < length xs) (sym (cleared-sizes m kept.files)) below); file = file })

      bare : runs_in (cleared m kept.files) m ≡ []
      bare = at.now.bare m no_file

      runs-same : (i : ℕ) → runs_in (cleared (suc m) kept.files) i ≡ runs_in (cleared m kept.files) i
      runs-same i = elim (cases_eq i m) [
        | inl own ↦ ap (runs_in (cleared (suc m) kept.files)) own ∙ ((clears-next m kept.files).runs_are ∙ (sym bare ∙ ap (runs_in (cleared m kept.files)) (sym own)))
        | inr other ↦ (clears-next m kept.files).others i other
      ]

  pub lines-done : (m : ℕ) (l : View) → m ≤ length kept.files.sizes → AreDone m kept.files k l → StandsThen g k l t kept (with_table kept (cleared m kept.files)) false n s stands
  lines-done zero l below same =
      subst (λ y. StandsThen g k y t kept (with_table kept (cleared zero kept.files)) false n s stands) (sym same)
      (subst (λ (u : Files). StandsThen g k k t kept (with_table kept u) false n s stands) (sym (cleared-none kept.files)) (record { now = stands; jobs_are = refl; numbers_are = refl }))
  lines-done (suc m) l below (middle, before, line) = line-done m middle l (omega (arith, below)) (lines-done m middle (omega (arith, below)) before) line

  -- all lines are done, by the table that was left
  module _ (files : Files) (l : View) (done : AreAllDone kept.files k files l) where
    all-at : StandsThen g k l t kept (with_table kept (cleared (length kept.files.sizes) kept.files)) false n s stands
    all-at = lines-done (length kept.files.sizes) l (omega arith) done.done

    last : StandsThen g l l t (with_table kept (cleared (length kept.files.sizes) kept.files)) (with_table kept files) false n s all-at.now
    last = stands-same g l t (with_table kept (cleared (length kept.files.sizes) kept.files)) files n s all-at.now (done.table.sizes ∙ sym (cleared-sizes (length kept.files.sizes) kept.files)) (all-cleared kept.files files done.table)

    pub at-table : StandsAt g l t (with_table kept files) false n s
    at-table = last.now

    pub numbers-at : at-table.numbers ≡ stands.numbers
    unfolding at-table last
    numbers-at = last.numbers_are ∙ all-at.numbers_are

    pub no-runs-left : HasNoRuns (with_table kept files)
    no-runs-left i = elim (cases_lt i (length kept.files.sizes)) [
      | inl below ↦ done.table.cleared i below
      | inr past ↦ at-table.bare i (λ file. past-none past file)
    ] where
      past-none : length kept.files.sizes ≤ i → (inode l.volume i).kind ≡ File → ⊥
      past-none past file = absurd (omega (arith, past, used_below l.volume i (ap is_used file), at-table.sizes.count, ap (λ (xs : List ℕ). length xs) done.table.sizes))

-- ---- all of it

pub stands-gathered : StandsToPublish → StandsPublished → StandsLapped → StandsGathered
stands-gathered may published lapping g k l t kept staging files n s stands few small next (middle, done, begun) =
    let then = lapping g middle l t (with_table kept files) staging n s (at-table may published g k t kept n s stands few small files middle done) (no-runs-left may published g k t kept n s stands few small files middle done)
    (still-next k middle done.rest next) begun
    in
    record { now = then.now; numbers_are = then.numbers_are ∙ numbers-at may published g k t kept n s stands few small files middle done; applied = then.applied; old = then.old }

-- ---- the power went

module _ (may : StandsToPublish) (published : StandsPublished) (stopped : KeepsPublishedHome) (cutting : KeepsLapped) (g : Geometry) (k l : View) (t : Tables) (kept : Kept) (n : ℕ) (start : State)
    (history : List Item) (mode : start.mode ≢ Mode.Posix) (stands : StandsAt g k t kept false n (run start history)) (few : n ≤ 2 ^ 62) (small : AreSmall kept) where
  abbrev s : State
  s = run start history

  -- nothing was done where they stand
  still-kept : (m : View) (kept_then : Kept) → StandsAt g m t kept_then false n (run start history) → l ≡ m → KeepsPromise g l.cells start history []
  still-kept m kept_then at same =
      subst (λ y. KeepsPromise g y.cells start history []) (sym same)
      (subst (λ y. KeepsPromise y m.cells start history []) at.geometry (promise_now m.volume m.cells kept_then.claims at.numbers start history [] at.count running))
    where
      running : IsRunning m.volume m.cells kept_then.claims at.numbers (run start history) at.count
      running = record {
        device = subst (λ js. StandsFor m.volume m.cells kept_then.claims js at.numbers s at.count) (no-jobs kept_then.pending at.jobs at.jobs_are at.lines.0) at.flying.device;
        log = at.lines.1;
      }

  line-kept : (m : ℕ) (middle : View) → m ≤ length kept.files.sizes → AreDone m kept.files k middle → IsLineStopped KFault.PowerLost m kept.files middle l → KeepsPromise g l.cells start history []
  line-kept m middle below done (file, stop) =
      let at = lines-done may published g k t kept n s stands few small m middle below done in
      let inside : m < length kept.files.sizes = subst (λ count. m < count) (sym at.now.sizes.count ∙ ap (λ (xs : List ℕ). length xs) (cleared-sizes m kept.files)) file.below in
      let of_size : IsPublishStopped KFault.PowerLost m (size_in (cleared m kept.files) m) (runs_in kept.files m) middle l =
      subst (λ size. IsPublishStopped KFault.PowerLost m size (runs_in kept.files m) middle l) (sym (cleared-size m kept.files m)) stop
      in
      let of_runs : IsPublishStopped KFault.PowerLost m (size_in (cleared m kept.files) m) (runs_in (cleared m kept.files) m) middle l =
      subst (λ (rs : List Run). IsPublishStopped KFault.PowerLost m (size_in (cleared m kept.files) m) rs middle l) (sym (left-runs m kept.files m (omega arith))) of_size
      in
      stopped g middle l t (with_table kept (cleared m kept.files)) n start history m mode at.now (may-next may published g k t kept n s stands few small m middle inside at file) of_runs

  up-to-kept : AreDoneUpTo KFault.PowerLost kept.files k l → KeepsPromise g l.cells start history []
  up-to-kept is = elim is.stopped [
    | inl off ↦ still-kept is.middle (with_table kept (cleared is.done kept.files)) (lines-done may published g k t kept n s stands few small is.done is.middle is.below is.before).now off.1
    | inr line ↦ line-kept is.done is.middle is.below is.before line
  ]

  lap-kept : (staging : Staged) (files : Files) → HasNextLap k → IsGatheredTo kept.files k staging files l (Ok Commit.PowerLost) → KeepsPromise g l.cells start history []
  lap-kept staging files next (middle, done, answer) =
      cutting g middle l t (with_table kept files) staging n start history [] (at-table may published g k t kept n s stands few small files middle done) (no-runs-left may published g k t kept n s stands few small files middle done)
      (still-next k middle done.rest next) answer

pub keeps-gathered : StandsToPublish → StandsPublished → KeepsPublishedHome → KeepsLapped → KeepsGathered
keeps-gathered may published stopped cutting g k l t kept staging files n start history mode stands few small next (inl up_to) =
    up-to-kept may published stopped cutting g k l t kept n start history mode stands few small up_to
keeps-gathered may published stopped cutting g k l t kept staging files n start history mode stands few small next (inr gathered) =
    lap-kept may published stopped cutting g k l t kept n start history mode stands few small staging files next gathered
