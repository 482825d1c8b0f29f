-- What stands together goes on to.
use Rattle.std.specs.Prelude.{◌≡◌, ◌≢◌, ◌⊎◌, ◌≤◌, ◌<◌, ◌+◌, ◌*◌, ◌^◌, ℕ, Bool, true, false, List, [], ◌∷◌, length, map, Option, Some, if◌then◌else◌, refl}
use Rattle.std.proofs.Common.{arith, ap, ◌∙◌, sym, subst, inl, inr}
use Rattle.k_split_laws.specs.pm_model.Cells.{cell, is_lent}
use Rattle.k_split_laws.specs.pm_model.ImageLaws.{IsImage-words_of}
use Rattle.k_split_laws.specs.pm_model.Images.{words_of}
use Rattle.k_split_laws.specs.pm_model.Words.{line_bytes, Words}
use Rattle.k_split_laws.specs.layout_model.Journal.{journaled}
use Rattle.k_split_laws.specs.layout_model.Places.{Geometry, log_line}
use Rattle.k_split_laws.specs.layout_model.declared.lines.Draft.{Draft}
use Rattle.k_split_laws.specs.layout_model.declared.lines.Kind.{Kind}
use Rattle.k_split_laws.specs.layout_model.declared.lines.Kind.TheVariants.{Directory, File, Free, Staging}
use Rattle.k_split_laws.specs.layout_model.Entries.{held_seq, is_self_valid}
use Rattle.k_split_laws.specs.image_model.Content.{size_by}
use Rattle.k_split_laws.specs.image_model.Live.{is_file, is_live, latest}
use Rattle.k_split_laws.specs.image_model.Volume.{extents, inode, Volume}
use Rattle.live_model.specs.posix_laws.Orders.{AreOrdered}
use Rattle.k_split_laws.specs.extent_model.Extents.{disk_at}
use Rattle.live_model.specs.file_table.Files.{Files, runs_in, size_in, spare_in}
use Rattle.live_model.specs.Flying.{AreOverlays, IsOut}
use Rattle.live_model.specs.world_model.HeldLaws.{AreSizes}
use Rattle.k_split_laws.specs.k_split_model.View.{View}
use Rattle.k_split_laws.specs.k_split.Answers.{IsDone}
use Rattle.k_split_laws.specs.list_laws.Filters.{filter-In, In-filter}
use Rattle.k_split_laws.specs.list_laws.Members.{In}
use Rattle.live_model.specs.open_files.Numbered.{numbered_as}
use Rattle.live_model.specs.Overlays.{IsOverlayOf, run_of}
use Rattle.k_split_laws.specs.posix_tables.Open.{is_open, Tables}
use Rattle.k_split_laws.specs.posix_spec.State.{State}
use Rattle.live_model.specs.staging_files.Keeps.{Agrees, IsStaging}
use Rattle.live_model.proofs.staging_files_proofs.GiveUpLaws.{staging-file}
use Rattle.live_model.specs.write_jobs.Blocks.{AreOut}
use Rattle.k_split_laws.specs.world_model.Jobs.{Job, JobsStand, JobStands, live_claims, staged_block}
use Rattle.k_split_laws.specs.world_model.Stands.{entries_of, number}
use Rattle.k_split_laws.specs.world_step_laws.Worlds.{IsWorld}
use Rattle.k_split_laws.specs.Done.{goes_on, keeps_log}
use Rattle.k_split_laws.specs.Going.{IsGoing, IsStep}
use Rattle.k_split_laws.specs.Lives.{no_entries}
use Rattle.k_split_laws.specs.world_model.JobLaws.{live_file}
use Rattle.live_model.specs.Standing.{AreJobsOf, file_state, HasItsBlocks, Kept, LinesStand, JobOut, StandsAt}
use Rattle.live_step_laws.specs.StepsLaws.{AreLeft, size_now, StandsOn, StandsStill}
use Rattle.live_step_laws.proofs.Entries.{decide, fewer_live, same_entries}

-- ---- jobs

pub job_stands : (v : Volume) (live : List Draft) (f : Words) (numbers : List ℕ) (s : State) (jobs : List Job) (j : Job) → JobsStand v live f numbers s jobs → In j jobs → JobStands v live f numbers s j
job_stands v live f numbers s [] j out is = absurd is
job_stands v live f numbers s (i ∷ jobs) j out (inl same) = subst (JobStands v live f numbers s) same out.0
job_stands v live f numbers s (i ∷ jobs) j out (inr behind) = job_stands v live f numbers s jobs j out.2 behind

-- the job of a pending one
pub record IsJobOf (p : JobOut) (jobs : List Job) : Type 0 where
  pub job : Job
  pub there : In job jobs
  pub draft : job.draft ≡ p.draft

pub job_of : (pending : List JobOut) (jobs : List Job) (p : JobOut) → AreJobsOf pending jobs → In p pending → IsJobOf p jobs
job_of [] jobs p are is = absurd is
job_of (q ∷ pending) [] p are is = absurd are
job_of (q ∷ pending) (j ∷ jobs) p are (inl same) = record { job = j; there = inl refl; draft = are.2 ∙ ap (λ (x : JobOut). x.draft) same }
job_of (q ∷ pending) (j ∷ jobs) p are (inr rest) = let its = job_of pending jobs p are.3 rest in record { job = its.job; there = inr its.there; draft = its.draft }

-- ---- kinds

no_file : (kind : Kind) → kind ≢ File → is_file kind ≡ false
no_file Free other = refl
no_file Directory other = refl
no_file File other = absurd (other refl)
no_file Staging other = refl

size_of_file : (w : Volume) (ino : ℕ) → (inode w ino).kind ≡ File → size_now w ino ≡ (inode w ino).size
size_of_file w ino file = ap (λ b. if b then (inode w ino).size else 0) (ap is_file file)

size_of_none : (w : Volume) (ino : ℕ) → (inode w ino).kind ≢ File → size_now w ino ≡ 0
size_of_none w ino none = ap (λ b. if b then (inode w ino).size else 0) (no_file (inode w ino).kind none)

-- ---- a step

module _ (g : Geometry) (k k2 : View) (t t2 : Tables) (kept : Kept) (files : Files) (lines : Bool) (n m : ℕ) (s next : State) (after : List ℕ) (later : ℕ) (touched : Option ℕ) (stands : StandsAt g k t kept lines n s) (done : IsDone k k2)
    (step : IsStep touched k.volume k2.volume kept.claims stands.jobs stands.numbers after s next stands.count later) (left : AreLeft touched k2.volume kept.files files) where
  abbrev v : Volume
  v = k.volume

  abbrev w : Volume
  w = k2.volume

  going : IsGoing k kept.claims stands.jobs stands.numbers s stands.count
  going = record { order = stands.order; unbatched = stands.unbatched; on = stands.on; device = stands.flying.device }

  pub now : IsGoing k2 kept.claims stands.jobs after next later
  now = goes_on touched k k2 kept.claims stands.jobs stands.numbers after s next stands.count later going done step

  world : IsWorld v kept.claims stands.jobs (journaled (words_of k.cells)) stands.numbers s stands.count
  world = stands.flying.device.world (words_of k.cells) (IsImage-words_of k.cells)

  new_world : IsWorld w kept.claims stands.jobs (journaled (words_of k2.cells)) after next later
  new_world = now.device.world (words_of k2.cells) (IsImage-words_of k2.cells)

  same_lent : (i : ℕ) → is_lent (cell k2.cells i) ≡ is_lent (cell k.cells i)
  same_lent = done.changes.lent

  -- blocks of jobs
  job_staging : (j : Job) → In j stands.jobs → (inode v j.draft.staging).kind ≡ Staging
  job_staging j is = (job_stands v (live_claims v kept.claims) (journaled (words_of k.cells)) stands.numbers s stands.jobs j world.valid.out is).staging

  same_block : (d : Draft) → (inode v d.staging).kind ≡ Staging → (i : ℕ) → staged_block w d i ≡ staged_block v d i
  same_block d staging i = ap (λ es. disk_at es (d.staging_block + i)) (step.staging d.staging staging)

  pub out : (j : Job) → In j stands.jobs → AreOut w j.draft k2.cells
  out j is i b x below at word = same_lent x ∙ stands.flying.out j is i b x below (sym (same_block j.draft (job_staging j is) i) ∙ at) word

  pub home : (i : ℕ) → is_lent (cell k2.cells i) ≡ true → IsOut w stands.jobs i
  home i is = elim (stands.flying.home i (sym (same_lent i) ∙ is)) [
    | inl line ↦ inl (line.0, subst (λ (x : Geometry). line.0 < x.log) (sym step.geometry) line.1, line.2 ∙ ap (λ x. log_line x line.0) (sym step.geometry))
    | inr block ↦ inr (block.0, block.1, (block.2.0, block.2.1, same_block block.0.draft (job_staging block.0 block.1) block.2.0 ∙ block.2.2))
  ]

  pub blocks : (p : JobOut) → In p kept.pending → HasItsBlocks w p
  blocks p is =
      let its = stands.blocks p is in
      let job = job_of kept.pending stands.jobs p stands.jobs_are is in
      let staging : (inode v p.draft.staging).kind ≡ Staging = subst (λ (d : Draft). (inode v d.staging).kind ≡ Staging) job.draft (job_staging job.job job.there) in
      record { count = its.count; each = λ i below. same_block p.draft staging i ∙ its.each i below }

  -- files
  entries_same : (ino : ℕ) → touched ≢ Some ino → entries_of ino (live_claims w kept.claims) ≡ entries_of ino (live_claims v kept.claims)
  entries_same ino other = same_entries touched v w kept.claims ino step.leaves world.aged.staging other

  overlay : (ino : ℕ) → (inode w ino).kind ≡ File → (touched ≡ Some ino) ⊎ (touched ≢ Some ino) → IsOverlayOf w (live_claims w kept.claims) ino (runs_in files ino) (size_in files ino)
  overlay ino file (inl own) =
      let none = step.leaves.own ino own file in
      record {
        runs_are = left.own_runs ino own ∙ ap (map run_of) (sym none);
        size_is = left.own_size ino own ∙ (size_of_file w ino file ∙ ap (λ ds. size_by (latest ds) (inode w ino).size) (sym none));
      }
  overlay ino file (inr other) =
      let line = step.leaves.others ino other in
      let was = stands.flying.overlays ino (ap (λ x. x.kind) (sym line) ∙ file) in
      let entries = entries_same ino other in
      record {
        runs_are = left.runs ino other ∙ (was.runs_are ∙ ap (map run_of) (sym entries));
        size_is = left.sizes ino other ∙ (was.size_is ∙ (λ i. size_by (latest (sym entries i)) (sym line i).size));
      }

  pub overlays : AreOverlays w (live_claims w kept.claims) (file_state files)
  overlays ino file = overlay ino file (decide touched ino)

  pub sizes : AreSizes w (live_claims w kept.claims) files.sizes
  sizes = record {
    count = left.count ∙ (stands.sizes.count ∙ (world.valid.stands.sane.inode_count ∙ (ap (λ (x : Geometry). x.inodes) (sym step.geometry) ∙ sym new_world.valid.stands.sane.inode_count)));
    files = λ ino file. (overlay ino file (decide touched ino)).size_is;
    others = λ ino none. other ino none (decide touched ino);
  } where
    other : (ino : ℕ) → (inode w ino).kind ≢ File → (touched ≡ Some ino) ⊎ (touched ≢ Some ino) → size_in files ino ≡ 0
    other ino none (inl own) = left.own_size ino own ∙ size_of_none w ino none
    other ino none (inr beside) = left.sizes ino beside ∙ stands.sizes.others ino (λ file. none (ap (λ x. x.kind) (step.leaves.others ino beside) ∙ file))

  pub bare : (ino : ℕ) → (inode w ino).kind ≢ File → runs_in files ino ≡ []
  bare ino none = by (decide touched ino) where
    by : (touched ≡ Some ino) ⊎ (touched ≢ Some ino) → runs_in files ino ≡ []
    by (inl own) = left.own_runs ino own
    by (inr beside) = left.runs ino beside ∙ stands.bare ino (λ file. none (ap (λ x. x.kind) (step.leaves.others ino beside) ∙ file))

  -- log lines
  pub lines_on : (b : Bool) → LinesStand b v k.cells kept → LinesStand b w k2.cells (record kept { files = files })
  lines_on true is = record {
    lent = λ slot j below word.
        let same : log_line w.geometry slot ≡ log_line v.geometry slot = ap (λ x. log_line x slot) step.geometry in
        subst (λ line. is_lent (cell k2.cells (8 * line + j)) ≡ true) (sym same)
        (same_lent (8 * log_line v.geometry slot + j) ∙ is.lent slot j (subst (λ (x : Geometry). slot < x.log) step.geometry below) word);
    old = λ slot below valid.
        let same : log_line w.geometry slot ≡ log_line v.geometry slot = ap (λ x. log_line x slot) step.geometry in
        let was = is.old slot (subst (λ (x : Geometry). slot < x.log) step.geometry below) (ap (λ line. is_self_valid (line_bytes kept.first line)) (sym same) ∙ valid) in
        omega (arith, was, ap (λ line. held_seq (line_bytes kept.first line)) same, step.base);
  }
  lines_on false is = (is.0, keeps_log touched k k2 kept.claims stands.jobs stands.numbers after s next stands.count later going done step is.1)

  -- staging files
  staging_same : (x : ℕ) → IsStaging x → extents w x ≡ extents v x
  staging_same x is = step.staging x (staging-file v x stands.order.whole is).kind

  pub agrees : Agrees kept.staging k2
  agrees = record {
    free = λ x b is free.
        let was = stands.agrees.free x b is free in
        record { disk = was.disk; at = ap (λ es. disk_at es b) (staging_same x is) ∙ was.at; home = λ i at. same_lent i ∙ was.home i at };
    empty = λ x is empty. staging_same x is ∙ stands.agrees.empty x is empty;
  }

  pub claims_still : (d : Draft) → In d (live_claims w kept.claims) → In d (live_claims v kept.claims)
  claims_still d is =
      let its = filter-In (is_live w) (map (λ (c : ℕ × Draft). c.1) kept.claims) d is in
      In-filter (is_live v) (map (λ (c : ℕ × Draft). c.1) kept.claims) d its.0 (step.leaves.fewer d its.0 its.1)

  -- room to lay runs of jobs
  spare_on : (ino : ℕ) → 3 ≤ spare_in kept.files ino → 3 ≤ spare_in files ino
  spare_on ino enough = elim (decide touched ino) [
    | inl own ↦ let more = left.own_spare ino own in omega (arith, enough, more)
    | inr other ↦ let same = left.spares ino other in omega (arith, enough, same)
  ]

  -- orders
  entries_gone : (ino : ℕ) → touched ≡ Some ino → entries_of ino (live_claims w kept.claims) ≡ []
  entries_gone ino own = by (inode w ino).kind refl where
    none : (kind : Kind) → (inode w ino).kind ≡ kind → kind ≢ File → entries_of ino (live_claims w kept.claims) ≡ []
    none kind is other = no_entries w kept.claims ino (λ d there same live. other (sym is ∙ (ap (λ i. (inode w i).kind) (sym same) ∙ live_file w d live)))

    by : (kind : Kind) → (inode w ino).kind ≡ kind → entries_of ino (live_claims w kept.claims) ≡ []
    by File is = step.leaves.own ino own is
    by Free is = none Free is (λ same. cc)
    by Directory is = none Directory is (λ same. cc)
    by Staging is = none Staging is (λ same. cc)

  fewer_entries : (ino : ℕ) → (touched ≡ Some ino) ⊎ (touched ≢ Some ino) → length (entries_of ino (live_claims w kept.claims)) ≤ length (entries_of ino (live_claims v kept.claims))
  fewer_entries ino (inl own) = let none : length (entries_of ino (live_claims w kept.claims)) ≡ 0 = ap length (entries_gone ino own) in omega (arith, none)
  fewer_entries ino (inr other) = let same = ap length (entries_same ino other) in omega (arith, same)

  pub low : n ≤ m → (ino : ℕ) → (inode w ino).applied + length (entries_of ino (live_claims w kept.claims)) ≤ 2 ^ 62 + m
  low more ino =
      let was = stands.low ino in
      let applied = step.leaves.applied ino in
      let fewer = fewer_entries ino (decide touched ino) in
      omega (arith, was, applied, fewer, more)

  pub still_standing : next.mode ≡ s.mode → later ≤ m → n ≤ m → next.tables ≡ numbered_as (number after) t2 → ((ino : ℕ) → is_open t2 ino ≡ true → (inode k2.volume ino).kind ≡ File) → AreOrdered next.entries
      → (x : StandsAt g k2 t2 (record kept { files = files }) lines m next) × (x.jobs ≡ stands.jobs) × (x.numbers ≡ after)
  still_standing mode few more tables open_files ordered = (
    record {
      count = later;
      few = few;
      numbers = after;
      jobs = stands.jobs;
      jobs_are = stands.jobs_are;
      order = now.order;
      unbatched = now.unbatched;
      on = now.on;
      geometry = step.geometry ∙ stands.geometry;
      flying = record { device = now.device; whole = λ strict. stands.flying.whole (sym mode ∙ strict); out = out; home = home; overlays = overlays };
      lines = lines_on lines stands.lines;
      quiet = λ i journal line not_lent. done.singles i (stands.quiet i journal line (sym (same_lent i) ∙ not_lent));
      blocks = blocks;
      callers = stands.callers;
      spare = λ p is. spare_on p.draft.ino (stands.spare p is);
      tables = tables;
      open_are_files = open_files;
      ordered = ordered;
      sizes = sizes;
      bare = bare;
      staged = stands.staged;
      agrees = agrees;
      free_single = λ x b is free disk i at word. done.singles i (stands.free_single x b is free disk i (ap (λ es. disk_at es b) (sym (staging_same x is)) ∙ at) word);
      drafts = λ d is. stands.drafts d (claims_still d is);
      low = low more;
      claims_out = λ d is. stands.claims_out d (claims_still d is);
      jobs_out = stands.jobs_out;
      owed = (let was = stands.owed in let fewer = fewer_live w v kept.claims step.leaves.fewer in omega (arith, was, fewer));
    },
    refl,
    refl,
  )

pub stands_on : StandsOn
stands_on g k k2 t t2 kept files lines n m s next after later touched stands done step mode few more tables open_files ordered left =
    still_standing g k k2 t t2 kept files lines n m s next after later touched stands done step left mode few more tables open_files ordered

pub stands_still : StandsStill
stands_still g k t t2 kept lines n s next stands shape mode takes tables open_files ordered = (
  record {
    count = stands.count;
    few = omega (arith, stands.few);
    numbers = stands.numbers;
    jobs = stands.jobs;
    jobs_are = stands.jobs_are;
    order = stands.order;
    unbatched = stands.unbatched;
    on = stands.on;
    geometry = stands.geometry;
    flying = record {
      device = record {
        stands = stands.flying.device.stands;
        headed = stands.flying.device.headed;
        world = λ image is. takes (journaled image) (stands.flying.device.world image is);
        room = record { free = stands.flying.device.room.free; blocks = ap (λ x. x.data_blocks) shape ∙ stands.flying.device.room.blocks };
      };
      whole = λ strict. stands.flying.whole (sym mode ∙ strict);
      out = stands.flying.out;
      home = stands.flying.home;
      overlays = stands.flying.overlays;
    };
    lines = stands.lines;
    quiet = stands.quiet;
    blocks = stands.blocks;
    callers = stands.callers;
    spare = stands.spare;
    tables = tables;
    open_are_files = open_files;
    ordered = ordered;
    sizes = stands.sizes;
    bare = stands.bare;
    staged = stands.staged;
    agrees = stands.agrees;
    free_single = stands.free_single;
    drafts = stands.drafts;
    low = λ ino. (let was = stands.low ino in omega (arith, was));
    claims_out = stands.claims_out;
    jobs_out = stands.jobs_out;
    owed = stands.owed;
  },
  refl,
  refl,
)
