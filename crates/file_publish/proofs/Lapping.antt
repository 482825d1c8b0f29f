-- K-Split and the World stand together in the next lap; or the power goes on the way to it.
use Rattle.std.specs.Prelude.{◌≡◌, ◌⊎◌, ◌≤◌, ◌<◌, ◌+◌, ◌-◌, ◌==◌, ◌&&◌, ℕ, suc, true, false, List, [], ◌∷◌, length, map, Ok, refl}
use Rattle.std.proofs.Common.{arith, ap, ◌∙◌, sym, subst, inl, inr}
use Rattle.std.proofs.lemmas.List.{get_or-replicate}
use Rattle.std.proofs.lemmas.Bool.{eq-eqb}
use Rattle.log_checkpoint.specs.pm_model.Cells.{cell, is_lent}
use Rattle.log_checkpoint.specs.pm_model.ImageLaws.{IsImage-words_of}
use Rattle.log_checkpoint.specs.pm_model.Images.{Follows, IsImage, words_of}
use Rattle.log_checkpoint.specs.pm_model.Words.{Words}
use Rattle.log_checkpoint.specs.crash_spec.Permitted.{StronglyPermitted}
use Rattle.log_checkpoint.specs.crash_spec.RelationLaws.{StronglyPermitted-none}
use Rattle.log_checkpoint.specs.layout_model.Places.{Geometry, log_line}
use Rattle.log_checkpoint.specs.layout_model.declared.lines.Draft.{Draft}
use Rattle.log_checkpoint.specs.layout_model.declared.lines.Inode.{Inode}
use Rattle.log_checkpoint.specs.layout_model.declared.lines.Kind.TheVariants.{File}
use Rattle.log_checkpoint.specs.image_model.Content.{size_by}
use Rattle.log_checkpoint.specs.image_model.Live.{is_file, is_live, is_of_file, latest}
use Rattle.log_checkpoint.specs.image_model.Reading.{base_set}
use Rattle.log_checkpoint.specs.image_model.Volume.{extents, inode, Volume}
use Rattle.log_checkpoint.specs.file_table.Files.{runs_in, size_in}
use Rattle.live_step_laws.specs.live_model.Flying.{IsOut}
use Rattle.log_checkpoint.specs.fsync_relink.Others.{GoesOn}
use Rattle.live_step_laws.specs.live_model.world_model.HeldLaws.{AreSizes}
use Rattle.log_checkpoint.specs.k_journal.declared.outcomes.Commit.{Commit}
use Rattle.log_checkpoint.specs.k_split_model.Stands.{IsOldOrNew, Stands}
use Rattle.log_checkpoint.specs.k_split_model.View.{View}
use Rattle.log_checkpoint.specs.k_split.Answers.{Changes, IsCut, IsDone, IsOff}
use Rattle.log_checkpoint.specs.k_split.Laps.{HasNextLap, IsBaseAnswer, next_base}
use Rattle.log_checkpoint.specs.k_split.MapChanges.{IsGivenUpWith, IsMapCut}
use Rattle.log_checkpoint.specs.list_laws.Filters.{filter-In, In-filter}
use Rattle.log_checkpoint.specs.list_laws.Members.{In}
use Rattle.log_checkpoint.specs.Gathers.{IsLapAnswer, IsLapBegun}
use Rattle.live_step_laws.specs.live_model.Overlays.{IsOverlayOf, run_of}
use Rattle.log_checkpoint.specs.posix_types.declared.item.Item.{Item}
use Rattle.log_checkpoint.specs.posix_tables.Open.{Tables}
use Rattle.log_checkpoint.specs.posix_spec.Run.{Unfinished, run}
use Rattle.log_checkpoint.specs.posix_spec.State.{State}
use Rattle.log_checkpoint.specs.posix_spec.Tree.{tree}
use Rattle.log_checkpoint.proofs.staging_files_proofs.GiveUpLaws.{agrees-nothing, AreBare, staged-nothing}
use Rattle.log_checkpoint.proofs.staging_files_proofs.StagedLaws.{free-given}
use Rattle.log_checkpoint.specs.staging_files.GivesUp.{AreCutOff, AreGivenUp, nothing_staged}
use Rattle.log_checkpoint.specs.staging_files.Keeps.{Agrees, AreFreeSingle, is_kept_free, IsStaging, Staged}
use Rattle.live_step_laws.specs.live_model.world_image_laws.Images.{HasOldLines, IsRunning, StandsFor}
use Rattle.live_step_laws.specs.live_model.world_image_laws.Promised.{KeepsPromise}
use Rattle.live_step_laws.specs.live_model.world_image_laws.Running.{promise_now}
use Rattle.log_checkpoint.specs.world_model.JobLaws.{live_file}
use Rattle.log_checkpoint.specs.world_model.Jobs.{Job, live_claims}
use Rattle.log_checkpoint.specs.world_model.Stands.{entries_of}
use Rattle.live_step_laws.specs.live_model.Standing.{AreJobsOf, Kept, JobOut, StandsAt}
use Rattle.file_publish.specs.LapsLaws.{AreApplied, HasLapped, HasNoRuns, KeepsLapped, StandsLapped}
use Rattle.file_publish.proofs.Gone.{all-gone, cut-gone, HasGone, none-gone}
use Rattle.file_publish.proofs.Based.{old-next, promise-next, running-next}

-- ---- nothing is live where no run is kept

mapped-empty : (ds : List Draft) → [] ≡ map run_of ds → ds ≡ []
mapped-empty [] is = refl
mapped-empty (d ∷ ds) is = absurd (let never : [] ≡ run_of d ∷ map run_of ds = is in cc)

no-members : (ds : List Draft) → ((d : Draft) → In d ds → ⊥) → ds ≡ []
no-members [] none = refl
no-members (d ∷ ds) none = absurd (none d (inl refl))

entry_of : (claims : List (ℕ × Draft)) (slot : ℕ) (d : Draft) → In (slot, d) claims → In d (map (λ (c : ℕ × Draft). c.1) claims)
entry_of [] slot d is = absurd is
entry_of (c ∷ claims) slot d (inl same) = inl (ap (λ (x : ℕ × Draft). x.1) same)
entry_of (c ∷ claims) slot d (inr rest) = inr (entry_of claims slot d rest)

no-jobs : (pending : List JobOut) (jobs : List Job) → AreJobsOf pending jobs → pending ≡ [] → jobs ≡ []
no-jobs [] [] are none = refl
no-jobs [] (j ∷ jobs) are none = absurd are
no-jobs (p ∷ pending) jobs are none = absurd (let never : p ∷ pending ≡ [] = none in cc)

module _ (g : Geometry) (k : View) (t : Tables) (kept : Kept) (n : ℕ) (s : State) (stands : StandsAt g k t kept false n s) (no_runs : HasNoRuns kept) where
  abbrev live : List Draft
  live = live_claims k.volume kept.claims

  none-out : stands.jobs ≡ []
  none-out = no-jobs kept.pending stands.jobs stands.jobs_are stands.lines.0

  -- a live entry is one of a file
  own-file : (d : Draft) → In d (live_claims k.volume kept.claims) → (inode k.volume d.ino).kind ≡ File
  own-file d is = live_file k.volume d (filter-In (is_live k.volume) (map (λ (c : ℕ × Draft). c.1) kept.claims) d is).1

  none-live : live_claims k.volume kept.claims ≡ []
  none-live = no-members live (λ d is.
      let overlay = stands.flying.overlays d.ino (own-file d is) in
      let none : entries_of d.ino live ≡ [] = mapped-empty (entries_of d.ino live) (sym (no_runs d.ino) ∙ overlay.runs_are) in
      subst (In d) none (In-filter (λ (e : Draft). e.ino == d.ino) live d is (eq-eqb d.ino d.ino refl)))

  on : GoesOn k
  on = record { order = stands.order; unbatched = stands.unbatched; on = stands.on }

  pub running : IsRunning k.volume k.cells kept.claims stands.numbers s stands.count
  running = record { device = subst (λ js. StandsFor k.volume k.cells kept.claims js stands.numbers s stands.count) none-out stands.flying.device; log = stands.lines.1 }

  pub gone-first : HasGone k k kept.claims stands.numbers s stands.count
  gone-first = none-gone k kept.claims stands.numbers s stands.count on running none-live

  -- ---- the next lap has begun

  module _ (next : HasNextLap k) (staging : Staged) (l : View) (begun : IsLapBegun k staging l) where
    all : HasGone k begun.bare kept.claims stands.numbers s stands.count × AreBare 4 begun.bare
    all = all-gone k kept.claims stands.numbers s stands.count 4 begun.bare (omega arith) gone-first begun.given_up

    gone : HasGone k begun.bare kept.claims stands.numbers s stands.count
    gone = all.0

    done : IsDone begun.bare l
    done = begun.lap.1

    volume-is : l.volume ≡ base_set (next_base k.volume) begun.bare.volume
    volume-is = begun.lap.0

    -- the change of the log base, in the words of the volumes
    follows : Follows (IsOldOrNew begun.bare.volume.geometry [] begun.bare.volume (base_set (next_base k.volume) begun.bare.volume)) begun.bare.cells l.cells
    follows =
        let of_v : Changes begun.bare.volume l.volume begun.bare.cells l.cells = subst (λ u. Changes u l.volume begun.bare.cells l.cells) (gone.on.order.settled gone.on.unbatched) done.changes in
        let of_w : Changes begun.bare.volume (base_set (next_base k.volume) begun.bare.volume) begun.bare.cells l.cells = subst (λ u. Changes begun.bare.volume u begun.bare.cells l.cells) volume-is of_v in
        of_w.each_image

    least : begun.bare.volume.base + begun.bare.volume.geometry.log ≤ next_base k.volume
    least = omega (arith, gone.base, ap (λ (y : Geometry). y.log) gone.geometry)

    running-based : IsRunning (base_set (next_base k.volume) begun.bare.volume) l.cells [] stands.numbers s 0
    running-based =
        let on_l : Stands l.volume.geometry l.volume l.cells = subst (λ u. Stands u.geometry u l.cells) (begun.goes_on.order.settled begun.goes_on.unbatched) begun.goes_on.order.stands in
        let on_w : Stands begun.bare.volume.geometry (base_set (next_base k.volume) begun.bare.volume) l.cells = subst (λ u. Stands u.geometry u l.cells) volume-is on_l in
        running-next begun.bare.volume begun.bare.cells l.cells kept.claims stands.numbers s stands.count (next_base k.volume) gone.running gone.none least next follows on_w

    old : (image : Words) → IsImage l.cells image → HasOldLines l.volume image
    old image is =
        subst (λ v. HasOldLines v image) (sym volume-is)
        (old-next begun.bare.volume begun.bare.cells l.cells kept.claims stands.numbers s stands.count (next_base k.volume) gone.running gone.none least next follows image is)

    running-then : IsRunning l.volume l.cells [] stands.numbers s 0
    running-then = subst (λ v. IsRunning v l.cells [] stands.numbers s 0) (sym volume-is) running-based

    -- what stays

    line-same : (i : ℕ) → inode l.volume i ≡ inode begun.bare.volume i
    line-same i = ap (λ v. inode v i) volume-is

    kinds : (i : ℕ) → (inode l.volume i).kind ≡ (inode k.volume i).kind
    kinds i = ap (λ x. x.kind) (line-same i) ∙ gone.kinds i

    applied : (i : ℕ) → (inode l.volume i).applied ≡ (inode k.volume i).applied
    applied i = ap (λ x. x.applied) (line-same i) ∙ gone.applied i

    geometry : l.volume.geometry ≡ k.volume.geometry
    geometry = ap (λ v. v.geometry) volume-is ∙ gone.geometry

    same-lent : (i : ℕ) → is_lent (cell l.cells i) ≡ is_lent (cell k.cells i)
    same-lent i = done.changes.lent i ∙ gone.lent i

    home : (i : ℕ) → is_lent (cell l.cells i) ≡ true → IsOut l.volume [] i
    home i lent = elim (subst (λ js. IsOut k.volume js i) none-out (stands.flying.home i (sym (same-lent i) ∙ lent))) [
      | inl line ↦ inl (line.0, subst (λ (y : Geometry). line.0 < y.log) (sym geometry) line.1, line.2 ∙ ap (λ y. log_line y line.0) (sym geometry))
      | inr block ↦ absurd block.1
    ]

    overlay : (ino : ℕ) → (inode l.volume ino).kind ≡ File → IsOverlayOf l.volume [] ino (runs_in kept.files ino) (size_in kept.files ino)
    overlay ino file =
        let file_before : (inode k.volume ino).kind ≡ File = sym (kinds ino) ∙ file in
        let was = stands.flying.overlays ino file_before in
        let line : inode l.volume ino ≡ inode k.volume ino = line-same ino ∙ gone.files ino file_before in
        record {
          runs_are = no_runs ino;
          size_is = was.size_is ∙ (λ i. size_by (latest (entries_of ino (none-live i))) (sym line i).size);
        }

    -- a claim of a file that is there is applied, since it is not live
    claims_applied : AreApplied l.volume kept.claims
    claims_applied slot d there file generation =
        let was : (inode k.volume d.ino).kind ≡ File = sym (kinds d.ino) ∙ file in
        let line : inode l.volume d.ino ≡ inode k.volume d.ino = line-same d.ino ∙ gone.files d.ino was in
        let age : ((inode k.volume d.ino).generation == d.generation) ≡ true = eq-eqb (inode k.volume d.ino).generation d.generation (sym (generation ∙ ap (λ (x : Inode). x.generation) line)) in
        let of_file : is_of_file k.volume d ≡ true = (λ i. is_file (was i) && age i) in
        elim ((running.device.world (words_of k.cells) (IsImage-words_of k.cells)).claims_stand.settled slot d there of_file) [
          | inl applied ↦ subst (λ (n : ℕ). d.order ≤ n) (sym (ap (λ (x : Inode). x.applied) line)) applied
          | inr lives ↦ absurd (subst (In d) none-live (In-filter (is_live k.volume) (map (λ (c : ℕ × Draft). c.1) kept.claims) d (entry_of kept.claims slot d there) lives))
        ]

    lines-same : length k.volume.inodes ≡ length l.volume.inodes
    lines-same =
        let before = (running.device.world (words_of k.cells) (IsImage-words_of k.cells)).valid.stands.sane.inode_count in
        let after = (running-then.device.world (words_of l.cells) (IsImage-words_of l.cells)).valid.stands.sane.inode_count in
        before ∙ (ap (λ (y : Geometry). y.inodes) (sym geometry) ∙ sym after)

    sizes : AreSizes l.volume [] kept.files.sizes
    sizes = record {
      count = stands.sizes.count ∙ lines-same;
      files = λ ino file. (overlay ino file).size_is;
      others = λ ino none. stands.sizes.others ino (λ file. none (kinds ino ∙ file));
    }

    none-given : (x b : ℕ) → IsStaging x → is_kept_free nothing_staged x b ≡ true → ⊥
    none-given x b is free = omega (arith, free-given nothing_staged x b free, get_or-replicate {A = ℕ} 4 (x - 1) 0 0 (omega (arith, is.least, is.most)))

    agrees : Agrees nothing_staged l
    agrees = record {
      free = λ x b is free. absurd (none-given x b is free);
      empty = λ x is empty. ap (λ v. extents v x) volume-is ∙ (agrees-nothing begun.bare all.1).empty x is empty;
    }

    none-free : AreFreeSingle nothing_staged l
    none-free x b is free = absurd (none-given x b is free)

    pub has-lapped : HasLapped g k l t kept n s stands
    has-lapped = record {
      now = record {
        count = 0;
        few = omega arith;
        numbers = stands.numbers;
        jobs = [];
        jobs_are = tt;
        order = begun.goes_on.order;
        unbatched = begun.goes_on.unbatched;
        on = begun.goes_on.on;
        geometry = geometry ∙ stands.geometry;
        flying = record { device = running-then.device; whole = λ strict. tt; out = λ j is. absurd is; home = home; overlays = overlay };
        lines = (refl, running-then.log);
        quiet = λ i journal line not_lent. done.singles i (gone.singles i (stands.quiet i journal line (sym (same-lent i) ∙ not_lent)));
        blocks = λ p is. absurd is;
        callers = λ i j d before below. absurd (omega (arith, below));
        spare = λ p is. absurd is;
        tables = stands.tables;
        open_are_files = λ i is. kinds i ∙ stands.open_are_files i is;
        ordered = stands.ordered;
        sizes = sizes;
        bare = λ i none. stands.bare i (λ file. none (kinds i ∙ file));
        staged = staged-nothing;
        agrees = agrees;
        free_single = none-free;
        drafts = λ d is. absurd is;
        low = λ i. (let was = stands.low i in omega (arith, was, applied i));
        claims_out = λ d is. absurd is;
        jobs_out = λ p is. absurd is;
        owed = omega arith;
      };
      numbers_are = refl;
      applied = claims_applied;
      old = old;
    }

pub stands-lapped : StandsLapped
stands-lapped g k l t kept staging n s stands no_runs next begun = has-lapped g k t kept n s stands no_runs next staging l begun

-- ---- the power went

module _ (g : Geometry) (k l : View) (t : Tables) (kept : Kept) (n : ℕ) (start : State) (history : List Item) (unfinished : List Unfinished) (stands : StandsAt g k t kept false n (run start history)) (no_runs : HasNoRuns kept) (next : HasNextLap k) where
  abbrev s : State
  s = run start history

  permitted : StronglyPermitted start.mode start history unfinished (tree (run start history))
  permitted = StronglyPermitted-none start.mode start history unfinished

  first : HasGone k k kept.claims stands.numbers (run start history) stands.count
  first = gone-first g k t kept n (run start history) stands no_runs

  -- before a change did anything
  kept-still : (m : View) → HasGone k m kept.claims stands.numbers (run start history) stands.count → IsOff m l → KeepsPromise k.volume.geometry l.cells start history unfinished
  kept-still m gone off =
      subst (λ d. KeepsPromise k.volume.geometry d start history unfinished) (sym (ap (λ (y : View). y.cells) off))
      (subst (λ y. KeepsPromise y m.cells start history unfinished) gone.geometry
      (promise_now m.volume m.cells kept.claims stands.numbers start history unfinished stands.count gone.running))

  kept-cut-off : AreCutOff k l → KeepsPromise k.volume.geometry l.cells start history unfinished
  kept-cut-off is = by is.cut where
    gone : HasGone k is.middle kept.claims stands.numbers (run start history) stands.count
    gone = (all-gone k kept.claims stands.numbers s stands.count is.done is.middle (omega (arith, is.few)) first is.gave).0

    by : IsOff is.middle l ⊎ ((w : Volume) × (blocks : List ℕ) × IsGivenUpWith (suc is.done) is.middle w blocks × IsMapCut blocks w is.middle l) → KeepsPromise k.volume.geometry l.cells start history unfinished
    by (inl off) = kept-still is.middle gone off
    by (inr (w, blocks, makes, cut)) =
        cut-gone k kept.claims stands.numbers s stands.count is.middle l (suc is.done) (record { least = omega arith; most = is.few }) gone w blocks makes cut start history unfinished permitted

  kept-base : (bare : View) → AreGivenUp 4 k bare → IsBaseAnswer (next_base k.volume) bare l Commit.PowerLost → KeepsPromise k.volume.geometry l.cells start history unfinished
  kept-base bare gave cut = by cut where
    gone : HasGone k bare kept.claims stands.numbers (run start history) stands.count
    gone = (all-gone k kept.claims stands.numbers s stands.count 4 bare (omega arith) first gave).0

    by : IsOff bare l ⊎ IsCut (base_set (next_base k.volume) bare.volume) bare l → KeepsPromise k.volume.geometry l.cells start history unfinished
    by (inl off) = kept-still bare gone off
    by (inr is) =
        let of_v : Changes bare.volume (base_set (next_base k.volume) bare.volume) bare.cells l.cells =
        subst (λ u. Changes u (base_set (next_base k.volume) bare.volume) bare.cells l.cells) (gone.on.order.settled gone.on.unbatched) is.changes
        in
        subst (λ y. KeepsPromise y l.cells start history unfinished) gone.geometry
        (promise-next bare.volume bare.cells l.cells kept.claims stands.numbers s stands.count (next_base k.volume) gone.running gone.none (omega (arith, gone.base, ap (λ (y : Geometry). y.log) gone.geometry)) next of_v.each_image
        start history unfinished permitted)

  pub kept-lapped : (staging : Staged) → IsLapAnswer k staging l (Ok Commit.PowerLost) → KeepsPromise g l.cells start history unfinished
  kept-lapped staging answer = subst (λ y. KeepsPromise y l.cells start history unfinished) stands.geometry (by answer) where
    by : AreCutOff k l ⊎ ((bare : View) × AreGivenUp 4 k bare × IsBaseAnswer (next_base k.volume) bare l Commit.PowerLost) → KeepsPromise k.volume.geometry l.cells start history unfinished
    by (inl cut) = kept-cut-off cut
    by (inr (bare, gave, cut)) = kept-base bare gave cut

pub keeps-lapped : KeepsLapped
keeps-lapped g k l t kept staging n start history unfinished stands no_runs next answer = kept-lapped g k l t kept n start history unfinished stands no_runs next staging answer
