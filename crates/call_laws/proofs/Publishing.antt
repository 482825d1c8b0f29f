-- The file of a call is published before the call.
use Rattle.std.specs.Prelude.{◌≡◌, ◌≢◌, ◌≤◌, ◌<◌, ◌+◌, ◌^◌, ◌==◌, ℕ, Bool, true, false, List, [], ◌∷◌, length, Some, None, if◌then◌else◌, refl, Ok}
use Rattle.std.proofs.Common.{arith, ap, ◌∙◌, sym, subst}
use Rattle.std.proofs.lemmas.Bool.Decides.{Decides-eqb}
use Rattle.std.proofs.lemmas.Option.{same_Some}
use Rattle.world_view_laws.specs.eof_laws.pm_model.Powers.{is_on, Supply}
use Rattle.world_view_laws.specs.eof_laws.layout_model.declared.lines.Draft.{Draft}
use Rattle.world_view_laws.specs.eof_laws.layout_model.declared.lines.Inode.{Inode}
use Rattle.world_view_laws.specs.eof_laws.layout_model.declared.lines.Kind.TheVariants.{File}
use Rattle.world_view_laws.specs.eof_laws.layout_model.Places.{Geometry}
use Rattle.world_view_laws.specs.eof_laws.image_model.Live.{is_file}
use Rattle.world_view_laws.specs.eof_laws.image_model.Volume.{inode}
use Rattle.world_view_laws.specs.eof_laws.file_overlay.declared.runs.Run.{Run}
use Rattle.world_view_laws.specs.eof_laws.file_table.Files.{ChangesFile, Files, runs_in, size_in}
use Rattle.world_view_laws.specs.file_calls.Built.{CutsNothing}
use Rattle.world_view_laws.specs.file_publish.Answers.{LosesFile, PublishesFile}
use Rattle.world_view_laws.specs.file_publish.fsync_relink.Others.{GoesOn}
use Rattle.world_view_laws.specs.file_publish.fsync_relink.Publishes.{IsPublishDone, IsPublishStopped, MayPublish}
use Rattle.world_view_laws.specs.file_publish.RelinksLaws.{StandsThen}
use Rattle.world_view_laws.specs.file_publish.world_model.TreeRules.{used_below}
use Rattle.world_view_laws.specs.eof_laws.k_split_model.View.{View}
use Rattle.world_view_laws.specs.eof_laws.list_laws.Members.{In}
use Rattle.file_truncate.proofs.file_calls_proofs.eof_laws_proofs.MapsFiles.{end_published}
use Rattle.world_view_laws.specs.eof_laws.posix_types.declared.call.Call.{Call}
use Rattle.world_view_laws.specs.eof_laws.posix_types.declared.call.Who.{Who}
use Rattle.world_view_laws.specs.eof_laws.posix_types.declared.handle.Handle.{Handle}
use Rattle.world_view_laws.specs.eof_laws.posix_tables.declared.open.Description.{Description}
use Rattle.world_view_laws.specs.eof_laws.posix_tables.Open.{opened, Tables}
use Rattle.world_view_laws.specs.eof_laws.posix_spec.Run.{Unfinished}
use Rattle.world_view_laws.specs.eof_laws.posix_spec.State.{State}
use Rattle.world_view_laws.specs.eof_laws.crash_spec.Busy.{handle_node, path_node, waits_for}
use Rattle.world_view_laws.proofs.in_flight_proofs.Claims.{claims_applied}
use Rattle.world_view_laws.proofs.in_flight_proofs.CountsCounts.{sizes_small}
use Rattle.world_view_laws.proofs.in_flight_proofs.Waiting.{handle_waits, one_file, path_waits}
use Rattle.world_view_laws.specs.in_flight.Busy.{IsNodeOf, WaitsForFile}
use Rattle.world_view_laws.specs.in_flight.k_split.declared.faults.KFault.{KFault}
use Rattle.world_view_laws.specs.in_flight.staging_files.Keeps.{Staged}
use Rattle.world_view_laws.specs.in_flight.world_image_laws.InLog.{kept_back_more}
use Rattle.world_view_laws.specs.in_flight.world_model.Jobs.{Job}
use Rattle.world_view_laws.specs.in_flight.world_model.Stands.{is_used, IsUsed, number}
use Rattle.world_view_laws.specs.in_flight.live_model.Losses.{KeepsWhenLost}
use Rattle.world_view_laws.specs.in_flight.live_model.Standing.{Kept, StandsAt}
use Rattle.world_view_laws.specs.in_flight.live_model.world_model.Landed.{kind_file}
use Rattle.world_view_laws.specs.in_flight.world_step_laws.Steps.{AreBeside, LetsJobsBe}
use Rattle.world_view_laws.specs.in_flight.world_step_laws.Touched.{only}
use Rattle.world_view_laws.proofs.Beginning.{lets, lost_call, others_lost}
use Rattle.world_view_laws.proofs.Losing.{lost_view}
use Rattle.world_view_laws.proofs.write_end_proofs.Stopped.{leaves_stopped}
use Rattle.world_view_laws.specs.Begins.{LosesCall, OthersStay, Publishes}
use Rattle.world_view_laws.specs.eof_laws.Ends.{FilesEnd}
use Rattle.world_view_laws.specs.k_split_laws.Left.{IsLeftOf}
use Rattle.world_view_laws.specs.Views.{Disk, disk_of, inode_on, IsWorldOver, kept_of, state_of, WorldView}
use Rattle.file_truncate.specs.Truncates.{HasNothingStaged}
use Rattle.file_truncate.proofs.write_plan_proofs.Calls.{handle_open}
use Rattle.world_view_laws.specs.file_publish.StandingLaws.{StandsToPublish}
use Rattle.call_laws.specs.Calls.{AtCall, HasBareFile, IsBare}
use Rattle.call_laws.proofs.Staying.{few_made, going_now, others_still, stands_now, still_at}

-- ---- a file of which nothing is staged

module _ (g : Geometry) (k : View) (t : Tables) (kept : Kept) (lines : Bool) (n : ℕ) (s : State) (stands : StandsAt g k t kept lines n s) (who : Who) where
  -- it waits for none
  pub bare_none : (call : Call) → IsNodeOf stands.numbers k None (waits_for s (who, call)) → IsBare g k t kept lines n s stands who call
  bare_none call none ino is used = let never : None ≡ Some (number stands.numbers ino) = sym none ∙ is in cc

  -- or nothing is staged of the one that it waits for
  pub bare_some : (call : Call) (own : ℕ) → IsNodeOf stands.numbers k (Some own) (waits_for s (who, call)) → runs_in kept.files own ≡ [] → IsBare g k t kept lines n s stands who call
  bare_some call own node bare ino is used =
      let same : own ≡ ino = one_file g k t kept lines n s stands own ino node.1 used (same_Some (number stands.numbers own) (number stands.numbers ino) (sym node.0 ∙ is)) in
      ap (runs_in kept.files) (sym same) ∙ bare

  -- an `open` then cuts none of which something is staged,
  pub cuts_nothing : (call : Call) → IsBare g k t kept lines n s stands who call → CutsNothing call k kept.files
  unfolding waits_for
  cuts_nothing (Call.Open h p f) bare = λ cuts ino found.
      let node = path_waits g k t kept lines n s stands p (Ok ino) found in
      bare ino ((λ i. if cuts i then path_node s p else None) ∙ node.0) node.1
  cuts_nothing (Call.Mkdir p) bare = tt
  cuts_nothing (Call.Rmdir p) bare = tt
  cuts_nothing (Call.Unlink p) bare = tt
  cuts_nothing (Call.Rename p q) bare = tt
  cuts_nothing (Call.Close h) bare = tt
  cuts_nothing (Call.Dup h to) bare = tt
  cuts_nothing (Call.Read h m) bare = tt
  cuts_nothing (Call.Pread h o m) bare = tt
  cuts_nothing (Call.Write h x) bare = tt
  cuts_nothing (Call.Pwrite h o x) bare = tt
  cuts_nothing (Call.Seek h w by) bare = tt
  cuts_nothing (Call.Truncate h size) bare = tt
  cuts_nothing (Call.Fsync h) bare = tt
  cuts_nothing (Call.Stat p) bare = tt
  cuts_nothing (Call.List p) bare = tt

  -- the file of a handle
  of_handle : (call : Call) (h : Handle) (d : Description) → waits_for s (who, call) ≡ handle_node s who h → IsBare g k t kept lines n s stands who call → opened t who h ≡ Some d → runs_in kept.files d.node ≡ []
  of_handle call h d waits bare is =
      let node = handle_waits g k t kept lines n s stands who h (Some d) is in
      bare d.node (waits ∙ node.0) node.1

  -- a `truncate` finds nothing staged,
  pub nothing_staged_of : (h : Handle) (size : ℕ) → IsBare g k t kept lines n s stands who (Call.Truncate h size) → HasNothingStaged who h t kept.files
  unfolding waits_for
  nothing_staged_of h size bare d is = of_handle (Call.Truncate h size) h d refl bare is

  -- and an `fsync` has published its file.
  pub all_applied : (h : Handle) → IsBare g k t kept lines n s stands who (Call.Fsync h) → (d : Description) (slot : ℕ) (x : Draft) → opened t who h ≡ Some d → In (slot, x) kept.claims → x.ino ≡ d.node
      → x.generation ≡ (inode k.volume d.node).generation → x.order ≤ (inode k.volume d.node).applied
  unfolding waits_for
  all_applied h bare d slot x is there own generation =
      claims_applied g k t kept lines n s stands d.node slot x (stands.open_are_files d.node (handle_open t who h d is)) (of_handle (Call.Fsync h) h d refl bare is) there own generation

-- ---- of a World at its next call

module _ (k : View) (t : Tables) (staging : Staged) (files : Files) (w : WorldView) (who : Who) where
  -- the call waits for no file, or nothing is staged of it
  pub bare_waiting_none : (call : Call) → AtCall k t staging files w who call → WaitsForFile who call k t None → HasBareFile k t staging files w who call
  bare_waiting_none call one waits =
      let now = stands_now k t staging files w who call one in
      record {
        stands = now;
        bare = bare_none w.geometry k t (kept_of w staging files) true (length w.history) (state_of w) now who call (waits w.geometry (kept_of w staging files) (length w.history) (state_of w) now);
      }

  pub bare_waiting_some : (call : Call) (ino : ℕ) → AtCall k t staging files w who call → WaitsForFile who call k t (Some ino) → runs_in files ino ≡ [] → HasBareFile k t staging files w who call
  bare_waiting_some call ino one waits none =
      let now = stands_now k t staging files w who call one in
      record {
        stands = now;
        bare = bare_some w.geometry k t (kept_of w staging files) true (length w.history) (state_of w) now who call ino (waits w.geometry (kept_of w staging files) (length w.history) (state_of w) now) none;
      }

  -- so an `open` cuts none of which something is staged,
  pub bare_cuts : (call : Call) → HasBareFile k t staging files w who call → CutsNothing call k files
  bare_cuts call has = cuts_nothing w.geometry k t (kept_of w staging files) true (length w.history) (state_of w) has.stands who call has.bare

  -- a `truncate` finds nothing staged,
  pub bare_truncates : (h : Handle) (size : ℕ) → HasBareFile k t staging files w who (Call.Truncate h size) → HasNothingStaged who h t files
  bare_truncates h size has = nothing_staged_of w.geometry k t (kept_of w staging files) true (length w.history) (state_of w) has.stands who h size has.bare

  -- and an `fsync` that leaves all as it is has published its file.
  pub bare_publishes : (h : Handle) (old new : WorldView) → HasBareFile k t staging files w who (Call.Fsync h) → old.claims ≡ w.claims → old.disk.tables ≡ t → new.disk ≡ disk_of k t staging files → Publishes who (Call.Fsync h) old new
  bare_publishes h old new has claims tables disk file slot d is there own generation =
      let same : inode_on new.disk file.node ≡ inode k.volume file.node = ap (λ (e : Disk). inode_on e file.node) disk in
      subst (λ (i : Inode). d.order ≤ i.applied) (sym same)
      (all_applied w.geometry k t (kept_of w staging files) true (length w.history) (state_of w) has.stands who h has.bare file slot d
      (ap (λ (u : Tables). opened u who h) (sym tables) ∙ is) (subst (In (slot, d)) claims there) own (generation ∙ ap (λ (i : Inode). i.generation) same))

-- ---- publishing

-- no job is out of the file that a call waits for, as it lets all jobs be
beside_of : (s : State) (c : Unfinished) (numbers : List ℕ) (ino : ℕ) (jobs : List Job) → waits_for s c ≡ Some (number numbers ino) → LetsJobsBe s c numbers jobs → AreBeside (only ino) jobs
beside_of s c numbers ino [] waits lets_be = tt
beside_of s c numbers ino (j ∷ jobs) waits lets_be = (by (j.draft.ino == ino) refl, beside_of s c numbers ino jobs waits lets_be.1) where
  by : (b : Bool) → (j.draft.ino == ino) ≡ b → b ≡ false
  by false is = refl
  by true is = absurd (lets_be.0.aside (waits ∙ ap (λ i. Some (number numbers i)) (sym ((Decides-eqb j.draft.ino ino).0 is))))

base_of : (ino size : ℕ) (runs : List Run) (k l : View) → runs ≢ [] → IsPublishDone ino size runs k l → l.volume.base ≡ k.volume.base
base_of ino size [] k l some done = absurd (some refl)
base_of ino size (r ∷ runs) k l some done = done.0.base

module _ (k : View) (t : Tables) (staging : Staged) (files : Files) (w : WorldView) (who : Who) (call : Call) (one : AtCall k t staging files w who call) (ino : ℕ) (waits : WaitsForFile who call k t (Some ino))
    (some : runs_in files ino ≢ []) where
  abbrev now : StandsAt w.geometry k t (kept_of w staging files) true (length w.history) (state_of w)
  now = stands_now k t staging files w who call one

  node : IsNodeOf now.numbers k (Some ino) (waits_for (state_of w) (who, call))
  node = waits w.geometry (kept_of w staging files) (length w.history) (state_of w) now

  is_live : (inode k.volume ino).kind ≡ File
  is_live = by (is_file (inode k.volume ino).kind) refl where
    by : (b : Bool) → is_file (inode k.volume ino).kind ≡ b → (inode k.volume ino).kind ≡ File
    by true is = kind_file (inode k.volume ino).kind is
    by false is = absurd (some (now.bare ino (λ same. (let never : true ≡ false = sym (ap is_file same) ∙ is in cc))))

  below : ino < length k.volume.inodes
  below = used_below k.volume ino node.1

  -- IT MAY BE PUBLISHED.
  pub line_of : ino < length files.sizes
  line_of = (let count = now.sizes.count in omega (arith, below, count))

  pub goes_on : GoesOn k
  goes_on = record { order = now.order; unbatched = now.unbatched; on = now.on }

  few : length w.history ≤ 2 ^ 62
  few = (let made = few_made k t staging files w who call one in omega (arith, made))

  pub may_publish : StandsToPublish → MayPublish ino (size_in files ino) (runs_in files ino) k
  may_publish law =
      law w.geometry k t (kept_of w staging files) true (length w.history) (state_of w) ino now few (record { below = below; file = is_live })
      (sizes_small w.geometry k t (kept_of w staging files) true (length w.history) (state_of w) now ino 0 line_of)

  beside : AreBeside (only ino) now.jobs
  beside =
      beside_of (state_of w) (who, call) now.numbers ino now.jobs node.0
      (lets k t staging files w one.world one.begins.awake one.out who call one.begins.next one.up one.none one.begins.idle)

  -- ---- it is published

  module _ (l : View) (laid : Files) (done : IsPublishDone ino (size_in files ino) (runs_in files ino) k l) (clears : ChangesFile ino [] (size_in files ino) files laid) (publishes : PublishesFile ino k files l laid) where
    stood : StandsThen w.geometry k l t (kept_of w staging files) (kept_of w staging laid) true (length w.history) (state_of w) now
    stood = publishes w.geometry t (kept_of w staging files) true (length w.history) (state_of w) now beside

    base_now : l.volume.base ≡ k.volume.base
    base_now = base_of ino (size_in files ino) (runs_in files ino) k l some done

    ends_now : FilesEnd l.volume laid
    ends_now = end_published ino k l files laid done clears (going_now k t staging files w who call one).ends

    -- THE WORLD IS AT THE CALL STILL,
    pub published_at : AtCall l t staging laid (record w { disk = disk_of l t staging laid }) who call
    published_at = still_at k t staging files w who call one l staging laid refl base_now ends_now stood.now refl

    pub others_published : OthersStay w (record w { disk = disk_of l t staging laid }) who
    others_published = others_still k t staging files w who call one l staging laid refl base_now ends_now stood.now w.over w.acts

    -- and nothing is staged of its file.
    node_then : IsNodeOf stood.now.numbers l (Some ino) (waits_for (state_of w) (who, call))
    node_then = (node.0 ∙ ap (λ (numbers : List ℕ). Some (number numbers ino)) (sym stood.numbers_are), used_then) where
      used_then : IsUsed l.volume ino
      used_then = ap is_used (kind_of (runs_in files ino) some done ∙ is_live) where
        kind_of : (runs : List Run) → runs ≢ [] → IsPublishDone ino (size_in files ino) runs k l → (inode l.volume ino).kind ≡ (inode k.volume ino).kind
        kind_of [] is published = absurd (is refl)
        kind_of (r ∷ runs) is published = published.0.kind

    pub bare_published : HasBareFile l t staging laid (record w { disk = disk_of l t staging laid }) who call
    bare_published = record {
      stands = stood.now;
      bare = bare_some w.geometry l t (kept_of w staging laid) true (length w.history) (state_of w) stood.now who call ino node_then clears.runs_are;
    }

  -- ---- the power went

  module _ (l : View) (stopped : IsPublishStopped KFault.PowerLost ino (size_in files ino) (runs_in files ino) k l) (loses : LosesFile ino k files l) where
    left : IsLeftOf w.geometry k.cells l.cells
    left = leaves_stopped w.geometry k l t (kept_of w staging files) true (length w.history) (state_of w) ino (size_in files ino) (runs_in files ino) now stopped

    promise : KeepsWhenLost k.volume l.cells (kept_of w staging files) now.jobs w.start w.history ((who, call) ∷ [])
    promise mode =
        kept_back_more k.volume l.cells (kept_of w staging files).first w.claims now.jobs w.start w.history (who, call) mode
        (loses w.geometry t (kept_of w staging files) true (length w.history) w.start w.history now beside mode)

    abbrev pub off_view : WorldView
    off_view = lost_view w ((who, call) ∷ []) (w.acts + 1) (disk_of l t staging files)

    pub publish_lost : IsWorldOver l t staging files off_view
    publish_lost = lost_call k t staging files w one.world one.begins.awake one.out who call one.begins.next one.up one.none l t staging files left promise

    pub publish_loses : (after : Supply) → is_on after ≡ false → LosesCall who w off_view after
    publish_loses after off = record {
      call = call;
      next = one.begins.next;
      awake = one.begins.awake;
      new_is = refl;
      stay = others_lost k t staging files w one.world one.begins.awake one.out who call one.begins.next one.up one.none l t staging files left promise;
      off = off;
    }
