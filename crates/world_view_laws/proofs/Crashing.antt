-- A crash: all that is out comes back, and what is left of the run.
use Rattle.std.specs.Prelude.{◌≡◌, ◌⊎◌, ◌≤◌, ◌<◌, ◌+◌, ◌*◌, ◌/◌, ◌++◌, ℕ, true, false, List, [], ◌∷◌, filter, length, map, refl}
use Rattle.std.proofs.Common.{ap, ◌∙◌, sym, subst, inl, inr}
use Rattle.file_calls.specs.eof_laws.pm_model.declared.Cell.{Cell}
use Rattle.file_calls.specs.eof_laws.pm_model.Cells.{AllHome, cell, is_lent}
use Rattle.file_calls.specs.eof_laws.pm_model.Parts.{Part}
use Rattle.in_flight.specs.block_io.Overwrites.{IsInLines}
use Rattle.file_calls.specs.eof_laws.layout_model.declared.lines.Draft.{Draft}
use Rattle.file_calls.specs.eof_laws.layout_model.Places.{Geometry, log_line}
use Rattle.in_flight.specs.image_model.Volume.{Volume}
use Rattle.in_flight.specs.file_table.Files.{Files}
use Rattle.in_flight.specs.k_split_model.View.{View}
use Rattle.in_flight.specs.block_io.Lines.{LinesComeBack}
use Rattle.file_calls.specs.eof_laws.list_laws.Members.{In}
use Rattle.file_calls.specs.eof_laws.posix_spec.Run.{Unfinished}
use Rattle.file_calls.specs.eof_laws.posix_tables.Open.{Tables}
use Rattle.in_flight.specs.Counts.{history_within}
use Rattle.in_flight.specs.staging_files.Keeps.{Staged}
use Rattle.in_flight.specs.world_image_laws.Promised.{KeepsPromise}
use Rattle.in_flight.specs.live_model.Standing.{JobOut}
use Rattle.in_flight.specs.write_jobs.Jobs.{blocks_of, FilledView, HoldWords, JobView}
use Rattle.write_end.specs.Blocks.{AreBlocksOut, ComeHome}
use Rattle.write_end.specs.CrashesLaws.{AreHandedIn, IsCrashKept, LinesAreHome}
use Rattle.write_end.specs.Ends.{begun_by}
use Rattle.write_end.specs.Lines as crashed
use Rattle.write_end.proofs.Crashed.{keeps_crashed}
use Rattle.world_view_laws.specs.Handed.{handed, loans_filled, loans_out}
use Rattle.world_view_laws.proofs.Handing.{in_behind, in_either, in_front}
use Rattle.world_view_laws.specs.Begins.{IsFilledOut, IsJobOut}
use Rattle.world_view_laws.specs.Lines.{AreCrashLines}
use Rattle.world_view_laws.specs.Losses.{AreAllOut, calls_acted, KeepsActed, MayCrash}
use Rattle.world_view_laws.specs.Rounds.{IsLeft}
use Rattle.world_view_laws.specs.Views.{calls_out, first_by, IsLost, IsLostHome, IsLostOut, IsWorldOver, kept_of, state_of, WorldView}

-- ---- the loans of jobs

pub of_out : (jobs : List JobView) (loan : Part) → In loan (loans_out jobs) → (job : JobView) × In job jobs × In loan job.loans
of_out [] loan at = absurd at
of_out (job ∷ jobs) loan at = elim (in_either job.loans (loans_out jobs) loan at) [
  | inl own ↦ (job, inl refl, own)
  | inr rest ↦ (let its = of_out jobs loan rest in (its.0, inr its.1, its.2))
]

pub of_filled : (jobs : List FilledView) (loan : Part) → In loan (loans_filled jobs) → (job : FilledView) × In job jobs × In loan job.loans
of_filled [] loan at = absurd at
of_filled (job ∷ jobs) loan at = elim (in_either job.loans (loans_filled jobs) loan at) [
  | inl own ↦ (job, inl refl, own)
  | inr rest ↦ (let its = of_filled jobs loan rest in (its.0, inr its.1, its.2))
]

out_there : (jobs : List JobView) (job : JobView) (loan : Part) → In job jobs → In loan job.loans → In loan (loans_out jobs)
out_there [] job loan at own = absurd at
out_there (x ∷ jobs) job loan (inl same) own = in_front x.loans (loans_out jobs) loan (subst (λ (y : JobView). In loan y.loans) (sym same) own)
out_there (x ∷ jobs) job loan (inr rest) own = in_behind x.loans (loans_out jobs) loan (out_there jobs job loan rest own)

filled_there : (jobs : List FilledView) (job : FilledView) (loan : Part) → In job jobs → In loan job.loans → In loan (loans_filled jobs)
filled_there [] job loan at own = absurd at
filled_there (x ∷ jobs) job loan (inl same) own = in_front x.loans (loans_filled jobs) loan (subst (λ (y : FilledView). In loan y.loans) (sym same) own)
filled_there (x ∷ jobs) job loan (inr rest) own = in_behind x.loans (loans_filled jobs) loan (filled_there jobs job loan rest own)

-- a loan of a block
loan_of : (loans : List Part) (b : ℕ) → In b (blocks_of loans) → (loan : Part) × In loan loans × (loan.place ≡ b)
loan_of [] b at = absurd at
loan_of (loan ∷ loans) b (inl same) = (loan, inl refl, same)
loan_of (loan ∷ loans) b (inr rest) = let its = loan_of loans b rest in (its.0, inr its.1, its.2)

pub place_in : (loans : List Part) (loan : Part) → In loan loans → In loan.place (blocks_of loans)
place_in [] loan at = absurd at
place_in (x ∷ loans) loan (inl same) = inl (ap (λ (y : Part). y.place) same)
place_in (x ∷ loans) loan (inr rest) = inr (place_in loans loan rest)

-- the words of a loan of a job are lent
lent_of : (blocks : List ℕ) (loans : List Part) (d : List Cell) (loan : Part) (i : ℕ) → blocks_of loans ≡ blocks → AreBlocksOut blocks d → In loan loans → loan.place ≡ i / 512 → is_lent (cell d i) ≡ true
lent_of blocks loans d loan i are out at place = out i (subst (λ b. In b blocks) place (subst (In loan.place) are (place_in loans loan at)))

module _ (w : WorldView) (staging : Staged) (files : Files) (out : List JobView) (filled : List FilledView) (jobs : AreAllOut w out filled) where
  -- WHAT SETTLING ASKS FOR
  pub loans_lent : (loan : Part) (i : ℕ) → In loan (handed out filled) → loan.place ≡ i / 512 → is_lent (cell w.disk.cells i) ≡ true
  loans_lent loan i at place = elim (in_either (loans_out out) (loans_filled filled) loan at) [
    | inl one ↦ (
        let its = of_out out loan one in
        let is = jobs.each_out its.0 its.1 in
        lent_of is.0.blocks its.0.loans w.disk.cells loan i is.1.blocks is.1.lent its.2 place)
    | inr one ↦ (
        let its = of_filled filled loan one in
        let is = jobs.each_filled its.0 its.1 in
        lent_of is.0.blocks its.0.loans w.disk.cells loan i is.1.blocks is.1.lent its.2 place)
  ]

  block_handed : (p : JobOut) → ((job : JobView) × In job out × IsJobOut w p job) ⊎ ((job : FilledView) × In job filled × IsFilledOut w p job) → (b : ℕ) → In b p.blocks → (loan : Part) × In loan (handed out filled) × (loan.place ≡ b)
  block_handed p (inl (job, at, is)) b there =
      let its = loan_of job.loans b (subst (In b) (sym is.blocks) there) in
      (its.0, in_front (loans_out out) (loans_filled filled) its.0 (out_there out job its.0 at its.1), its.2)
  block_handed p (inr (job, at, is)) b there =
      let its = loan_of job.loans b (subst (In b) (sym is.blocks) there) in
      (its.0, in_behind (loans_out out) (loans_filled filled) its.0 (filled_there filled job its.0 at its.1), its.2)

  -- ALL IS HANDED IN
  pub handed_in : ((job : FilledView) → In job filled → HoldWords job.loans job.words) → AreHandedIn w.disk.cells (kept_of w staging files) (state_of w) (handed out filled) filled
  handed_in holds = record {
    all = λ p at. elim (jobs.all p at) [ inl home ↦ inl home | inr here ↦ inr (block_handed p here) ];
    lent = loans_lent;
    of_world = λ job at. (let is = jobs.each_filled job at in (is.0, record { there = is.1.there; who = is.1.who; draft = is.1.draft; blocks = is.1.blocks; words = is.1.words }));
    holds = holds;
    there = λ job loan at own. in_behind (loans_out out) (loans_filled filled) loan (filled_there filled job loan at own);
  }

-- where no job is out none is handed in
pub none_handed : (w : WorldView) (out : List JobView) (filled : List FilledView) → AreAllOut w out filled → w.pending ≡ [] → (loan : Part) → In loan (handed out filled) → ⊥
none_handed w out filled jobs none loan at = elim (in_either (loans_out out) (loans_filled filled) loan at) [
  | inl one ↦ (let its = of_out out loan one in let is = jobs.each_out its.0 its.1 in subst (In is.0) none is.1.there)
  | inr one ↦ (let its = of_filled filled loan one in let is = jobs.each_filled its.0 its.1 in subst (In is.0) none is.1.there)
]

-- ---- the lines

-- the lines of a crash, by the volume that stood before the loss
crash_lines : (v : Volume) (w : WorldView) (filled : List FilledView) (taken : List (ℕ × Draft)) (lines : List Part) → v.geometry ≡ w.geometry → v.base ≡ w.base → AreCrashLines w filled taken lines
    → crashed.AreCrashLines v.geometry v.base (first_by w.geometry w.first) w.claims filled taken lines
crash_lines v w filled taken lines geometry base is =
    subst (λ (g : Geometry). crashed.AreCrashLines g v.base (first_by w.geometry w.first) w.claims filled taken lines) (sym geometry)
    (subst (λ (b : ℕ). crashed.AreCrashLines w.geometry b (first_by w.geometry w.first) w.claims filled taken lines) (sym base) is)

-- ---- what is left

module _ (k : View) (t : Tables) (staging : Staged) (files : Files) (w : WorldView) (world : IsWorldOver k t staging files w) (off : w.lost ≡ true)
    (lines : List Part) (out : List JobView) (filled : List FilledView) (may : MayCrash w lines out filled) (holds : (job : FilledView) → In job filled → HoldWords job.loans job.words)
    (middle e : List Cell) (home : ComeHome (handed out filled) w.disk.cells middle) (size : length e ≡ length middle) where
  left : length e ≡ 512 * w.geometry.blocks → AllHome e × KeepsPromise w.geometry e w.start w.history (calls_out w) → IsLeft w e w.history (calls_out w)
  left long is = record {
    history_is = refl;
    unfinished_is = refl;
    legal = world.legal;
    scripted = world.scripted;
    open_calls = world.open_calls;
    within = history_within w.scripts w.history world.scripted;
    size = long;
    home = is.0;
    promise = is.1;
  }

  -- with the log's lines out
  module _ (lines_out : w.lines_out ≡ true) (back : LinesComeBack (log_line w.geometry 0) lines middle e) (lines_home : (i : ℕ) → IsInLines (log_line w.geometry 0) (length lines) i → is_lent (cell e i) ≡ false) where
    gone : IsLostOut staging files w
    gone = subst (IsLost staging files w) lines_out (world.gone off)

    are_home : (taken : List (ℕ × Draft)) → AreCrashLines w filled taken lines → LinesAreHome gone.volume lines middle e
    are_home taken crash = record {
      back = subst (λ (g : Geometry). LinesComeBack (log_line g 0) lines middle e) (sym gone.geometry) back;
      home = λ i at. lines_home i (record {
        from = subst (λ (g : Geometry). log_line g 0 ≤ i / 8) gone.geometry at.from;
        below = subst (λ n. i / 8 < log_line w.geometry 0 + n) (sym crash.are.count) (subst (λ (g : Geometry). i / 8 < log_line g 0 + g.log) gone.geometry at.below);
      });
    }

    crash_kept : (taken : List (ℕ × Draft)) → AreCrashLines w filled taken lines → IsCrashKept gone.volume.geometry w.disk.cells e (kept_of w staging files) w.start w.history w.unfinished taken
    crash_kept taken crash =
        keeps_crashed gone.volume w.disk.cells middle e (kept_of w staging files) w.start w.history w.unfinished (handed out filled) filled taken lines gone.at
        (handed_in w staging files out filled may.jobs holds) (crash_lines gone.volume w filled taken lines gone.geometry gone.base crash) home (are_home taken crash)

    pub crashed_out : IsLeft w e w.history (calls_out w)
    crashed_out =
        left (size ∙ home.size ∙ gone.size)
        (subst (λ (g : Geometry). AllHome e × KeepsPromise g e w.start w.history (calls_out w)) gone.geometry
        (let is = crash_kept (may.lines_are lines_out).0 (may.lines_are lines_out).1 in (is.home, is.promise)))

    pub acted_out : KeepsActed w lines filled e
    acted_out acts tells =
        let now = tells lines_out in
        subst (λ (g : Geometry). KeepsPromise g e w.start w.history (calls_acted w acts)) gone.geometry ((crash_kept now.0 now.1).acted acts now.2)

  -- with them at home, where no job is out
  module _ (lines_home : w.lines_out ≡ false) (back : LinesComeBack (log_line w.geometry 0) w.home middle e) (words_home : (i : ℕ) → IsInLines (log_line w.geometry 0) (length w.home) i → is_lent (cell e i) ≡ false) where
    gone_home : IsLostHome w
    gone_home = subst (IsLost staging files w) lines_home (world.gone off)

    kept_home : AllHome e × KeepsPromise w.geometry e w.start w.history (calls_out w)
    kept_home =
        gone_home.keeps e (record {
          size = size ∙ home.size;
          back = record { words = back.words; others = λ i beside. back.others i beside ∙ home.beside i (λ loan at. absurd (none_handed w out filled may.jobs gone_home.none loan at)) };
          home = words_home;
        })

    pub crashed_home : IsLeft w e w.history (calls_out w)
    crashed_home = left (size ∙ home.size ∙ gone_home.size) kept_home

    pub acted_home : KeepsActed w lines filled e
    acted_home acts tells = subst (λ (calls : List Unfinished). KeepsPromise w.geometry e w.start w.history calls) same kept_home.1 where
      same : calls_out w ≡ calls_acted w acts
      same = ap (λ (ps : List JobOut). map begun_by ps ++ w.unfinished) gone_home.none ∙ sym (ap (λ (ps : List JobOut). map begun_by (filter acts ps) ++ w.unfinished) gone_home.none)
