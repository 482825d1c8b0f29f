-- A run is reserved in flight: by blocks that are kept as free, or by a staging file that gets blocks; or the power goes in it.
use Rattle.std.specs.Prelude.{◌≡◌, ◌≢◌, ◌⊎◌, ◌≤◌, ◌<◌, ◌+◌, ◌*◌, ℕ, Bool, true, false, Contains, List, [], ◌∷◌, ◌++◌, length, map, Option, refl}
use Rattle.std.proofs.Common.{arith, ap, ◌∙◌, sym, subst, inl, inr}
use Rattle.std.proofs.lemmas.List.{length-append}
use Rattle.std.proofs.lemmas.List.Elements.{Contains-append_left}
use Rattle.k_split_laws.specs.world_image_laws.Settings.{setting_run}
use Rattle.fsync_relink.specs.world_write_laws.pm_model.declared.Cell.{Cell}
use Rattle.fsync_relink.specs.world_write_laws.pm_model.Cells.{cell, is_lent}
use Rattle.fsync_relink.specs.world_write_laws.pm_model.ImageLaws.{IsImage-words_of}
use Rattle.fsync_relink.specs.world_write_laws.pm_model.Images.{words_of}
use Rattle.fsync_relink.specs.world_write_laws.pm_model.Words.{line_bytes, Words}
use Rattle.fsync_relink.specs.world_write_laws.layout_model.declared.lines.Draft.{Draft}
use Rattle.fsync_relink.specs.world_write_laws.layout_model.declared.lines.Kind.TheVariants.{File}
use Rattle.fsync_relink.specs.world_write_laws.layout_model.Entries.{held_seq, is_self_valid}
use Rattle.fsync_relink.specs.world_write_laws.layout_model.Places.{Geometry, log_line, reserve}
use Rattle.fsync_relink.specs.world_write_laws.image_model.Content.{size_by}
use Rattle.fsync_relink.specs.world_write_laws.image_model.Live.{latest}
use Rattle.fsync_relink.specs.world_write_laws.image_model.Room.{unused_blocks}
use Rattle.fsync_relink.specs.world_write_laws.image_model.Volume.{inode, Volume}
use Rattle.live_model.specs.file_table.Files.{runs_in, size_in}
use Rattle.live_model.specs.Flying.{IsOut}
use Rattle.live_model.specs.world_model.HeldLaws.{AreSizes}
use Rattle.live_model.specs.write_jobs.Blocks.{AreOut}
use Rattle.fsync_relink.proofs.k_plans_proofs.FreeCounts.{unwaiting-counted}
use Rattle.fsync_relink.specs.world_write_laws.k_split_model.Stands.{Stands}
use Rattle.fsync_relink.specs.world_write_laws.k_split_model.View.{View}
use Rattle.fsync_relink.specs.k_split.Answers.{IsOff}
use Rattle.fsync_relink.specs.k_split.MapChanges.{ChangesMaps, free_blocks_in, IsMapCut, IsMapDone, IsPreallocatedWith}
use Rattle.fsync_relink.specs.world_write_laws.list_laws.Members.{In}
use Rattle.live_model.specs.Overlays.{IsOverlayOf, run_of}
use Rattle.fsync_relink.specs.world_write_laws.posix_types.declared.item.Item.{Item}
use Rattle.fsync_relink.specs.world_write_laws.posix_tables.Open.{Tables}
use Rattle.fsync_relink.specs.world_write_laws.posix_spec.Run.{Unfinished, run}
use Rattle.fsync_relink.specs.world_write_laws.posix_spec.State.{State}
use Rattle.live_model.specs.staging_files.declared.runs.StageRun.{StageRun}
use Rattle.live_model.specs.staging_files.Keeps.{Agrees, AreApart, AreFreeSingle, IsKeptEmpty, IsRunSingle, IsStaged, IsStaging, IsThere, Staged}
use Rattle.live_model.specs.staging_files.Reserves.{IsFreeRun, IsGiven, IsTaken, share, wanted, with_out}
use Rattle.live_model.proofs.staging_files_proofs.AgreeLaws.{agrees-given, agrees-taken, run-single-given, run-single-taken, single-given, single-taken, there-given, there-taken}
use Rattle.live_model.proofs.staging_files_proofs.RoomLaws.{share-fits, share-leaves}
use Rattle.live_model.proofs.staging_files_proofs.StagedLaws.{apart-empty, apart-free, staged-given, staged-taken}
use Rattle.fsync_relink.specs.world_write_laws.world_model.Jobs.{unfinished_call, Job, live_claims, staged_block}
use Rattle.fsync_relink.specs.world_write_laws.world_model.Stands.{entries_of, IsSane}
use Rattle.fsync_relink.specs.world_write_laws.Restages.{Restages}
use Rattle.k_split_laws.specs.world_image_laws.Images.{HasRoom, StandsFor}
use Rattle.k_split_laws.specs.world_image_laws.Back.{IsKeptBack}
use Rattle.k_split_laws.specs.world_image_laws.Flights.{leads_before, promise_at_begin}
use Rattle.live_model.specs.Losses.{KeepsWhenLost}
use Rattle.live_model.specs.Standing.{AreJobsOf, HasItsBlocks, Kept, LinesStand, JobOut, reserved_run, StandsAt}
use Rattle.live_step_laws.specs.Changes.{IsChangeWith}
use Rattle.live_step_laws.proofs.Devices.{changes_device_with, keeps_log_home_with, promise_with}
use Rattle.live_step_laws.specs.ReservesLaws.{KeepsReserved, StandsReserved, StandsWithRun, with_staging}
use Rattle.live_step_laws.proofs.Restaged as restaging

-- what is owed
owed_more : (s : Staged) (run : StageRun) → length (with_out run s).out ≡ length s.out + 1
owed_more s run = length-append s.out (run ∷ [])

-- ---- the first way

module _ (g : Geometry) (k : View) (t : Tables) (kept : Kept) (lines : Bool) (n : ℕ) (s : State) (stands : StandsAt g k t kept lines n s) where
  free_is : free_blocks_in k ≡ unused_blocks k.volume
  free_is = unwaiting-counted (record { volume = k.volume; aside = []; waiting = k.waiting }) refl (stands.order.none_waits stands.unbatched)

  -- a run more is out, of blocks that were kept as free
  taken_on : (count : ℕ) (l : View) (staging : Staged) (taken : StageRun) → 1 ≤ count → IsTaken count kept.staging staging k l taken → StandsWithRun g k l t kept staging lines n s taken stands
  taken_on count l staging taken some is =
      subst (λ y. StandsWithRun g k y t kept staging lines n s taken stands) (sym is.same)
      (subst (λ y. StandsWithRun g k k t kept y lines n s taken stands) (sym is.staged) (record {
        now = now_is;
        jobs_are = refl;
        numbers_are = refl;
        there = there;
        single = single;
        apart = λ other has. subst (λ y. AreApart y taken) has.2 (apart-free kept.staging taken free_run has.0 other has.1);
        owed = (let was = stands.owed in omega (arith, was, owed_more kept.staging taken));
        free = (let room = is.way.room in omega (arith, room, free_is, owed_more kept.staging taken));
      }))
    where
      count_is : taken.count ≡ count
      count_is = ap (λ (r : StageRun). r.count) is.run_is

      free_run : IsFreeRun kept.staging taken.count taken.staging taken.block
      free_run i low high = is.way.place.here i low (omega (arith, high, count_is))

      there : IsThere k taken
      there = there-taken kept.staging k taken stands.agrees is.way.place.staging free_run

      single : IsRunSingle k taken
      single = run-single-taken kept.staging k taken stands.free_single is.way.place.staging free_run

      now_is : StandsAt g k t (with_staging kept (with_out taken kept.staging)) lines n s
      now_is = record {
        count = stands.count;
        few = stands.few;
        numbers = stands.numbers;
        jobs = stands.jobs;
        jobs_are = stands.jobs_are;
        order = stands.order;
        unbatched = stands.unbatched;
        on = stands.on;
        geometry = stands.geometry;
        flying = stands.flying;
        lines = same_lines lines stands.lines;
        quiet = stands.quiet;
        blocks = stands.blocks;
        callers = stands.callers;
        spare = stands.spare;
        tables = stands.tables;
        open_are_files = stands.open_are_files;
        ordered = stands.ordered;
        sizes = stands.sizes;
        bare = stands.bare;
        staged = staged-taken kept.staging taken stands.staged is.way.place.staging (omega (arith, some, count_is)) free_run;
        agrees = agrees-taken kept.staging k taken stands.agrees;
        free_single = single-taken kept.staging k taken stands.free_single;
        drafts = stands.drafts;
        low = stands.low;
        claims_out = λ d there_is. Contains-append_left kept.staging.out (taken ∷ []) _ (stands.claims_out d there_is);
        jobs_out = λ p there_is. Contains-append_left kept.staging.out (taken ∷ []) _ (stands.jobs_out p there_is);
        owed = (let was = stands.owed in omega (arith, was, owed_more kept.staging taken));
      } where
        same_lines : (b : Bool) → LinesStand b k.volume k.cells kept → LinesStand b k.volume k.cells (with_staging kept (with_out taken kept.staging))
        same_lines true lent = record { lent = lent.lent; old = lent.old }
        same_lines false home = home

-- ---- the second way

module _ (g : Geometry) (k l : View) (t : Tables) (kept : Kept) (lines : Bool) (n : ℕ) (s : State) (stands : StandsAt g k t kept lines n s) (count : ℕ) (staging : Staged) (taken : StageRun) (some : 1 ≤ count) (few : count ≤ 33)
    (is : IsGiven count kept.staging staging k l taken) where
  abbrev v : Volume
  v = k.volume

  abbrev w : Volume
  w = l.volume

  abbrev x : ℕ
  x = taken.staging

  abbrev size : ℕ
  size = share kept.staging k count

  made : IsPreallocatedWith x size k w is.given.0
  made = is.given.1

  done : IsMapDone is.given.0 k l
  done = is.given.2

  off : l.batched ≡ false
  off = done.batched ∙ stands.unbatched

  file_is : IsStaging x
  file_is = is.way.place.staging

  count_is : taken.count ≡ count
  count_is = ap (λ (r : StageRun). r.count) is.run_is

  block_is : taken.block ≡ 0
  block_is = ap (λ (r : StageRun). r.block) is.run_is

  fits : (count ≤ size) × (size ≤ 64) × (size + reserve k.volume.geometry ≤ free_blocks_in k + 1)
  fits = share-fits kept.staging k count few is.way.room

  restages : Restages v w x
  restages = restaging.restages g k t kept lines n s stands x size w is.given.0 file_is is.way.place.empty made done.order.whole

  same_base : w.base ≡ v.base
  same_base = restaging.same_base g k t kept lines n s stands x size w is.given.0 file_is is.way.place.empty made done.order.whole

  other_line : (i : ℕ) → i ≢ x → inode w i ≡ inode v i
  other_line = restaging.other_line g k t kept lines n s stands x size w is.given.0 file_is is.way.place.empty made done.order.whole

  none_out : (j : Job) → In j stands.jobs → j.draft.staging ≢ x
  none_out = restaging.none_out g k t kept lines n s stands x size w is.given.0 file_is is.way.place.empty made done.order.whole

  none_live : (d : Draft) → In d (live_claims v kept.claims) → d.staging ≢ x
  none_live = restaging.none_live g k t kept lines n s stands x size w is.given.0 file_is is.way.place.empty made done.order.whole

  same_block : (d : Draft) → d.staging ≢ x → (i : ℕ) → staged_block w d i ≡ staged_block v d i
  same_block = restaging.same_block g k t kept lines n s stands x size w is.given.0 file_is is.way.place.empty made done.order.whole

  same_live : live_claims w kept.claims ≡ live_claims v kept.claims
  same_live = restaging.same_live g k t kept lines n s stands x size w is.given.0 file_is is.way.place.empty made done.order.whole

  same_applied : (i : ℕ) → (inode w i).applied ≡ (inode v i).applied
  same_applied = restaging.same_applied g k t kept lines n s stands x size w is.given.0 file_is is.way.place.empty made done.order.whole

  kinds : (i : ℕ) → (inode w i).kind ≡ (inode v i).kind
  kinds = restaging.kinds g k t kept lines n s stands x size w is.given.0 file_is is.way.place.empty made done.order.whole

  file_other : (i : ℕ) → (inode v i).kind ≡ File → i ≢ x
  file_other = restaging.file_other g k t kept lines n s stands x size w is.given.0 file_is is.way.place.empty made done.order.whole

  -- room: what all runs that are out want stays free
  left : wanted kept.staging k ≤ free_blocks_in l
  left = share-leaves kept.staging k l count x stands.order file_is stands.unbatched is.way.room is.given

  free_then : free_blocks_in l ≡ unused_blocks w
  free_then = unwaiting-counted (record { volume = l.volume; aside = []; waiting = l.waiting }) refl (done.order.none_waits off)

  room : HasRoom w kept.claims stands.jobs s
  room = restaging.room g k t kept lines n s stands x size w is.given.0 file_is is.way.place.empty made done.order.whole (let owed = stands.owed in omega (arith, owed, left, free_then))

  change : IsChangeWith is.given.0 v w k.cells l.cells
  change =
      let of_v : ChangesMaps is.given.0 v w k.cells l.cells = subst (λ u. ChangesMaps is.given.0 u w k.cells l.cells) (stands.order.settled stands.unbatched) done.changes in
      record { each_image = of_v.each_image; geometry = restages.geometry; base = same_base }

  same_lent : (i : ℕ) → is_lent (cell l.cells i) ≡ is_lent (cell k.cells i)
  same_lent = done.changes.lent

  device_now : StandsFor w l.cells kept.claims stands.jobs stands.numbers s stands.count
  device_now =
      changes_device_with is.given.0 v w k.cells l.cells kept.claims stands.jobs stands.numbers stands.numbers s s stands.count stands.count stands.flying.device change (restaging.spare g k t kept lines n s stands x size w is.given.0 file_is is.way.place.empty made done.order.whole)
      (subst (λ u. Stands u.geometry u l.cells) (done.order.settled off) done.order.stands) room (restaging.takes g k t kept lines n s stands x size w is.given.0 file_is is.way.place.empty made done.order.whole)

  out : (j : Job) → In j stands.jobs → AreOut w j.draft l.cells
  out j is_out i b y below at word = same_lent y ∙ stands.flying.out j is_out i b y below (sym (same_block j.draft (none_out j is_out) i) ∙ at) word

  home : (i : ℕ) → is_lent (cell l.cells i) ≡ true → IsOut w stands.jobs i
  home i lent = elim (stands.flying.home i (sym (same_lent i) ∙ lent)) [
    | inl line ↦ inl (line.0, subst (λ (y : Geometry). line.0 < y.log) (sym restages.geometry) line.1, line.2 ∙ ap (λ y. log_line y line.0) (sym restages.geometry))
    | inr block ↦ inr (block.0, block.1, (block.2.0, block.2.1, same_block block.0.draft (none_out block.0 block.1) block.2.0 ∙ block.2.2))
  ]

  -- files
  overlay : (ino : ℕ) → (inode w ino).kind ≡ File → IsOverlayOf w (live_claims w kept.claims) ino (runs_in kept.files ino) (size_in kept.files ino)
  overlay ino file =
      let file_before = sym (kinds ino) ∙ file in
      let was = stands.flying.overlays ino file_before in
      let line = other_line ino (file_other ino file_before) in
      record {
        runs_are = was.runs_are ∙ ap (λ ds. map run_of (entries_of ino ds)) (sym same_live);
        size_is = was.size_is ∙ (λ i. size_by (latest (entries_of ino (sym same_live i))) (sym line i).size);
      }

  sizes : AreSizes w (live_claims w kept.claims) kept.files.sizes
  sizes = record {
    count = stands.sizes.count ∙ lines_same;
    files = λ ino file. (overlay ino file).size_is;
    others = λ ino none. stands.sizes.others ino (λ file. none (kinds ino ∙ file));
  } where
    world_sane : IsSane v
    world_sane = (stands.flying.device.world (words_of k.cells) (IsImage-words_of k.cells)).valid.stands.sane

    lines_same : length v.inodes ≡ length w.inodes
    lines_same = world_sane.inode_count ∙ (ap (λ (y : Geometry). y.inodes) (sym restages.geometry) ∙ sym restages.sane.inode_count)

  -- log lines
  lines_on : (b : Bool) → LinesStand b v k.cells kept → LinesStand b w l.cells (with_staging kept staging)
  lines_on true lent_is = record {
    lent = λ slot j below word.
        let same : log_line w.geometry slot ≡ log_line v.geometry slot = ap (λ y. log_line y slot) restages.geometry in
        subst (λ line. is_lent (cell l.cells (8 * line + j)) ≡ true) (sym same)
        (same_lent (8 * log_line v.geometry slot + j) ∙ lent_is.lent slot j (subst (λ (y : Geometry). slot < y.log) restages.geometry below) word);
    old = λ slot below valid.
        let same : log_line w.geometry slot ≡ log_line v.geometry slot = ap (λ y. log_line y slot) restages.geometry in
        let was = lent_is.old slot (subst (λ (y : Geometry). slot < y.log) restages.geometry below) (ap (λ line. is_self_valid (line_bytes kept.first line)) (sym same) ∙ valid) in
        omega (arith, was, ap (λ line. held_seq (line_bytes kept.first line)) same, same_base);
  }
  lines_on false home_is = (home_is.0, keeps_log_home_with is.given.0 v w k.cells l.cells kept.claims stands.flying.device.headed change (restaging.spare g k t kept lines n s stands x size w is.given.0 file_is is.way.place.empty made done.order.whole) home_is.1)

  pending_apart : (p : JobOut) → In p kept.pending → p.draft.staging ≢ x
  pending_apart p there = by kept.pending stands.jobs stands.jobs_are there none_out where
    by : (pending : List JobOut) (jobs : List Job) → AreJobsOf pending jobs → In p pending → ((j : Job) → In j jobs → j.draft.staging ≢ x) → p.draft.staging ≢ x
    by [] jobs are is_in apart = absurd is_in
    by (q ∷ pending) [] are is_in apart = absurd are
    by (q ∷ pending) (j ∷ jobs) are (inl same) apart = subst (λ (d : Draft). d.staging ≢ x) (are.2 ∙ ap (λ (y : JobOut). y.draft) same) (apart j (inl refl))
    by (q ∷ pending) (j ∷ jobs) are (inr behind) apart = by pending jobs are.3 behind (λ i i_is. apart i (inr i_is))

  blocks_on : (p : JobOut) → In p kept.pending → HasItsBlocks w p
  blocks_on p there = let its = stands.blocks p there in record { count = its.count; each = λ i below. same_block p.draft (pending_apart p there) i ∙ its.each i below }

  there_now : IsThere l taken
  there_now = there-given x size k l stands.order file_is is.given kept.staging taken stands.staged refl block_is (omega (arith, fits.0, count_is))

  single_now : IsRunSingle l taken
  single_now = run-single-given x size k l stands.order file_is is.given kept.staging taken stands.staged refl block_is (omega (arith, fits.0, count_is))

  out_count : length staging.out ≡ length kept.staging.out + 1
  out_count = ap (λ (y : Staged). length y.out) is.staged ∙ owed_more kept.staging taken

  now_is : StandsAt g l t (with_staging kept staging) lines n s
  now_is = record {
    count = stands.count;
    few = stands.few;
    numbers = stands.numbers;
    jobs = stands.jobs;
    jobs_are = stands.jobs_are;
    order = done.order;
    unbatched = off;
    on = done.kept_on;
    geometry = restages.geometry ∙ stands.geometry;
    flying = record { device = device_now; whole = stands.flying.whole; out = out; home = home; overlays = overlay };
    lines = lines_on lines stands.lines;
    quiet = λ i journal line not_lent. done.singles i (stands.quiet i journal line (sym (same_lent i) ∙ not_lent));
    blocks = blocks_on;
    callers = stands.callers;
    spare = stands.spare;
    tables = stands.tables;
    open_are_files = λ ino there. kinds ino ∙ stands.open_are_files ino there;
    ordered = stands.ordered;
    sizes = sizes;
    bare = λ ino none. stands.bare ino (λ file. none (kinds ino ∙ file));
    staged =
        subst IsStaged (sym is.staged)
        (staged-given kept.staging taken size stands.staged file_is (omega (arith, some, count_is)) block_is (omega (arith, fits.0, count_is)) fits.1 is.way.place.empty);
    agrees = subst (λ y. Agrees y l) (sym is.staged) (agrees-given x size k l stands.order file_is is.given kept.staging taken stands.staged refl (omega (arith, some, fits.0)) stands.agrees);
    free_single = subst (λ y. AreFreeSingle y l) (sym is.staged) (single-given x size k l stands.order file_is is.given kept.staging taken stands.staged refl stands.free_single);
    drafts = λ d is_live. stands.drafts d (subst (In d) same_live is_live);
    low = λ ino. (let was = stands.low ino in omega (arith, was, same_applied ino, ap (λ ds. length (entries_of ino ds)) same_live));
    claims_out = λ d is_live. subst (λ y. Contains y.out (reserved_run d)) (sym is.staged) (Contains-append_left kept.staging.out (taken ∷ []) _ (stands.claims_out d (subst (In d) same_live is_live)));
    jobs_out = λ p there. subst (λ y. Contains y.out (reserved_run p.draft)) (sym is.staged) (Contains-append_left kept.staging.out (taken ∷ []) _ (stands.jobs_out p there));
    owed = (let was = stands.owed in omega (arith, was, ap length same_live, out_count));
  }

  pub given_on : StandsWithRun g k l t kept staging lines n s taken stands
  unfolding now_is
  given_on = record {
    now = now_is;
    jobs_are = refl;
    numbers_are = refl;
    there = there_now;
    single = single_now;
    apart = λ other has. subst (λ y. AreApart y taken) has.2 (apart-empty kept.staging taken stands.staged is.way.place.empty has.0 other has.1);
    owed = (let was = stands.owed in omega (arith, was, ap length same_live, out_count));
    free = omega (arith, left, free_then, out_count, ap reserve restages.geometry);
  }

pub stands_reserved : StandsReserved
stands_reserved g k l t kept staging lines n s count taken stands some few (inl is) = taken_on g k t kept lines n s stands count l staging taken some is
stands_reserved g k l t kept staging lines n s count taken stands some few (inr is) = given_on g k l t kept lines n s stands count staging taken some few is

-- ---- the power went

module _ (g : Geometry) (k l : View) (t : Tables) (kept : Kept) (lines : Bool) (n : ℕ) (start : State) (history : List Item) (c : Unfinished) (stands : StandsAt g k t kept lines n (run start history)) where
  -- before it changed anything
  kept_off : l.cells ≡ k.cells → KeepsWhenLost k.volume l.cells kept stands.jobs start history (c ∷ [])
  kept_off same mode =
      subst (λ d. IsKeptBack k.volume d kept.first kept.claims stands.jobs start history (c ∷ [])) (sym same)
      (promise_at_begin k.volume k.cells kept.claims stands.jobs stands.numbers start history stands.count kept.first c mode (λ strict. stands.flying.whole ((setting_run start history).mode ∙ strict)) stands.flying.device)

  -- in the change
  kept_cut : (count x : ℕ) (w : Volume) (blocks : List ℕ) → IsStaging x → IsKeptEmpty kept.staging x → share kept.staging k count + length kept.staging.out + reserve k.volume.geometry ≤ free_blocks_in k + 1
      → share kept.staging k count ≤ 64 → IsPreallocatedWith x (share kept.staging k count) k w blocks → IsMapCut blocks w k l → KeepsWhenLost k.volume l.cells kept stands.jobs start history (c ∷ [])
  kept_cut count x w blocks file_is empty enough few made cut mode =
      promise_with blocks k.volume w k.cells l.cells kept.claims stands.jobs stands.numbers stands.numbers (run start history) (run start history) start history stands.count stands.count kept.first c mode
      (λ strict. stands.flying.whole ((setting_run start history).mode ∙ strict)) stands.flying.device (leads_before start history c stands.jobs) (leads_before start history c stands.jobs) change (restaging.spare g k t kept lines n (run start history) stands x (share kept.staging k count) w blocks file_is empty made cut.whole)
      (restaging.same_blocks g k t kept lines n (run start history) stands x (share kept.staging k count) w blocks file_is empty made cut.whole stands.jobs (restaging.none_out g k t kept lines n (run start history) stands x (share kept.staging k count) w blocks file_is empty made cut.whole)) room (restaging.takes g k t kept lines n (run start history) stands x (share kept.staging k count) w blocks file_is empty made cut.whole)
    where
      change : IsChangeWith blocks k.volume w k.cells l.cells
      change =
          let of_v : ChangesMaps blocks k.volume w k.cells l.cells = subst (λ u. ChangesMaps blocks u w k.cells l.cells) (stands.order.settled stands.unbatched) cut.changes in
          record { each_image = of_v.each_image; geometry = (restaging.restages g k t kept lines n (run start history) stands x (share kept.staging k count) w blocks file_is empty made cut.whole).geometry; base = restaging.same_base g k t kept lines n (run start history) stands x (share kept.staging k count) w blocks file_is empty made cut.whole }

      less : unused_blocks k.volume ≤ unused_blocks w + share kept.staging k count + 1
      less = restaging.unused_less g k t kept lines n (run start history) stands x (share kept.staging k count) w blocks file_is empty made cut.whole few

      room : HasRoom w kept.claims stands.jobs (run start history)
      room =
          let owed = stands.owed in
          let counted = unwaiting-counted (record { volume = k.volume; aside = []; waiting = k.waiting }) refl (stands.order.none_waits stands.unbatched) in
          restaging.room g k t kept lines n (run start history) stands x (share kept.staging k count) w blocks file_is empty made cut.whole (omega (arith, owed, less, enough, counted))

pub keeps_reserved : KeepsReserved
keeps_reserved g k l t kept staging lines n start history c count stands some few (inl same) = kept_off g k l t kept lines n start history c stands (ap (λ (y : View). y.cells) same.volume)
keeps_reserved g k l t kept staging lines n start history c count stands some few (inr cut) = by cut.given where
  fits : (count ≤ share kept.staging k count) × (share kept.staging k count ≤ 64) × (share kept.staging k count + reserve k.volume.geometry ≤ free_blocks_in k + 1)
  fits = share-fits kept.staging k count few cut.way.room

  enough : share kept.staging k count + length kept.staging.out + reserve k.volume.geometry ≤ free_blocks_in k + 1
  enough = let room = cut.way.room in omega (arith, room)

  by : IsOff k l ⊎ ((w : Volume) × (blocks : List ℕ) × IsPreallocatedWith cut.staging (share kept.staging k count) k w blocks × IsMapCut blocks w k l) → KeepsWhenLost k.volume l.cells kept stands.jobs start history (c ∷ [])
  by (inl off) = kept_off g k l t kept lines n start history c stands (ap (λ (y : View). y.cells) off)
  by (inr landed) =
      kept_cut g k l t kept lines n start history c stands count cut.staging landed.0 landed.1 cut.way.place.staging cut.way.place.empty enough fits.1 landed.2 landed.3
