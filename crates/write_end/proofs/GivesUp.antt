-- A write is given up: the World stands together without it.
use Rattle.std.proofs.Common.{◌≡◌, ◌≢◌, ◌≤◌, ◌<◌, ◌+◌, ◌-◌, ◌/◌, ◌++◌, ◌∷◌, [], not, ℕ, zero, suc, true, List, length, Some, refl, arith, ap, ◌∙◌, sym, subst, inl, inr}
use Rattle.std.specs.Prelude.{Contains, remove, slice_get}
use Rattle.std.proofs.lemmas.Bool.Decides.{nat_tests}
use Rattle.std.proofs.lemmas.List.{length-append}
use Rattle.std.proofs.lemmas.List.Kept.{AllPairs-filter}
use Rattle.std.proofs.lemmas.Option.{same_Some}
use Rattle.in_place.specs.write_plan.pm_model.declared.Cell.{Cell}
use Rattle.in_place.specs.write_plan.pm_model.CellLaws.{single-home}
use Rattle.in_place.specs.write_plan.pm_model.Cells.{cell, is_lent, is_single}
use Rattle.layout_model.specs.declared.lines.Draft.{Draft}
use Rattle.layout_model.specs.Entries.{is_draft}
use Rattle.in_place.specs.write_plan.layout_model.Places.{Geometry}
use Rattle.in_place.specs.live_model.write_jobs.world_image_laws.image_model.Rules.{AreApart}
use Rattle.in_place.specs.live_model.write_jobs.world_image_laws.image_model.Volume.{extents}
use Rattle.in_place.specs.write_plan.extent_model.Extents.{disk_at, is_within}
use Rattle.in_place.specs.live_model.write_jobs.world_image_laws.k_split_model.View.{View}
use Rattle.in_place.specs.live_model.write_jobs.k_split.Order.{IsInOrder}
use Rattle.in_place.specs.write_plan.list_laws.Members.{In}
use Rattle.in_place.specs.write_plan.posix_tables.Open.{same_who}
use Rattle.in_place.specs.live_model.staging_files.declared.runs.StageRun.{StageRun}
use Rattle.in_place.specs.live_model.staging_files.GivesUp.{IsGivenBack}
use Rattle.in_place.specs.live_model.staging_files.Keeps.{Agrees, AreFreeSingle, IsRunSingle, IsStaged, IsThere, Staged}
use Rattle.in_place.specs.live_model.write_jobs.world_image_laws.world_model.Jobs.{Job, live_claims, staged_block}
use Rattle.in_place.specs.live_model.write_jobs.world_image_laws.world_model.Promised.{AreWhole}
use Rattle.in_place.specs.live_model.write_jobs.Jobs.{FilledView, HoldWords, loan_at}
use Rattle.in_place.specs.live_model.write_jobs.Loans.{ComeBack}
use Rattle.in_place.specs.live_model.Flying.{IsFlying}
use Rattle.in_place.proofs.live_model_proofs.FlightsFlights.{others_home, others_out}
use Rattle.in_place.proofs.live_model_proofs.write_jobs_proofs.Ends.{gives_up_job}
use Rattle.in_place.specs.live_model.Standing.{AreOfTwoThreads, file_state, IsQuietBeside, JobOut, reserved_run, StandsAt}
use Rattle.in_place.specs.live_model.Jobs.{without}
use Rattle.write_end.specs.Ends.{given_up, HasJob, LeavesGivenUp}
use Rattle.write_end.proofs.Ending.{claims, flying, j, loans_count, numbers, others, out, places, put_back, split, stood, valid, draft_is}
use Rattle.write_end.proofs.EndsPending.{apart_of, job_of, left_there}
use Rattle.write_end.proofs.Settled.{agrees_still, free_single_still, lines_still, own_single, quiet_still}

-- ---- runs that are out

stays_in : (out : List StageRun) (place : ℕ) (run other : StageRun) → slice_get out place ≡ Some run → run ≢ other → Contains out other → Contains (remove out place) other
stays_in [] place run other at differs (k, below, is) = absurd (omega (arith, below))
stays_in (x ∷ out) zero run other at differs (zero, below, is) = absurd (differs (sym (same_Some x run at) ∙ is))
stays_in (x ∷ out) zero run other at differs (suc k, below, is) = (k, omega (arith, below), is)
stays_in (x ∷ out) (suc place) run other at differs (zero, below, is) = (0, omega arith, is)
stays_in (x ∷ out) (suc place) run other at differs (suc k, below, is) =
    let rest = stays_in out place run other at differs (k, omega (arith, below), is) in
    (suc rest.0, omega (arith, rest.1), rest.2)

pub one_fewer : (out : List StageRun) (place : ℕ) (run : StageRun) → slice_get out place ≡ Some run → length (remove out place) + 1 ≡ length out
one_fewer [] place run at = cc
one_fewer (x ∷ out) zero run at = omega arith
one_fewer (x ∷ out) (suc place) run at = omega (arith, one_fewer out place run at)

-- runs of entries that are apart are two
two_runs : (d e : Draft) → AreApart d e → is_draft d ≡ true → reserved_run d ≢ reserved_run e
two_runs d e apart draft same = elim (apart (ap (λ (r : StageRun). r.staging) same)) [
  | inl before ↦ omega (arith, before, some, ap (λ (r : StageRun). r.block) same, ap (λ (r : StageRun). r.count) same)
  | inr behind ↦ omega (arith, behind, some, ap (λ (r : StageRun). r.block) same, ap (λ (r : StageRun). r.count) same)
] where
  some : 1 ≤ d.count
  some = grind (arith, nat_tests, draft)

apart_back : (d e : Draft) → AreApart d e → AreApart e d
apart_back d e apart same = elim (apart (sym same)) [ inl before ↦ inr before | inr behind ↦ inl behind ]

pub whole_rest : (a : List Job) (j : Job) (b : List Job) → AreWhole (a ++ j ∷ b) → AreWhole (a ++ b)
whole_rest [] j b whole = whole.1
whole_rest (x ∷ a) j b whole = (whole.0, whole_rest a j b whole.1)

module _ (k : View) (job : FilledView) (has : HasJob k job) where
  -- the run of the job is out
  pub run_out : Contains has.kept.staging.out (reserved_run job.draft)
  run_out = subst (λ (d : Draft). Contains has.kept.staging.out (reserved_run d)) (sym has.out.draft) (has.stands.jobs_out has.p has.out.there)

  module _ (e : List Cell) (hold : HoldWords job.loans job.words) (back : ComeBack job.loans k.cells e) (order : IsInOrder (record k { cells = e })) where
    abbrev l : View
    l = record k { cells = e }

    -- its blocks are at home, each word alone
    in_run : (b : ℕ) → is_within (reserved_run job.draft).block (reserved_run job.draft).count b ≡ true → (n : ℕ) × (n < (j k job has).draft.count) × (job.draft.staging_block + n ≡ b)
    in_run b within =
        let from : job.draft.staging_block ≤ b = grind (arith, nat_tests, within) in
        let below : b < job.draft.staging_block + job.draft.count = grind (arith, nat_tests, within) in
        let count : (j k job has).draft.count ≡ job.draft.count = ap (λ (d : Draft). d.count) (draft_is k job has) in
        (b - job.draft.staging_block, omega (arith, from, below, count), omega (arith, from))

    block_at : (b n : ℕ) → n < (j k job has).draft.count → job.draft.staging_block + n ≡ b → disk_at (extents k.volume job.draft.staging) b ≡ Some (loan_at job.loans n).place
    block_at b n below at =
        ap (disk_at (extents k.volume job.draft.staging)) (sym at) ∙ ap (λ (d : Draft). staged_block k.volume d n) (sym (draft_is k job has)) ∙ places k job has n below

    own_word : (n i : ℕ) → n < (j k job has).draft.count → i / 512 ≡ (loan_at job.loans n).place → is_single (cell e i) ≡ true
    own_word n i below at = own_single k job has e back hold i (n, below, places k job has n below ∙ ap (λ b. Some b) (sym at))

    pub there : IsThere l (reserved_run job.draft)
    there b within =
        let n = in_run b within in
        record {
          disk = (loan_at job.loans n.0).place;
          at = block_at b n.0 n.1 n.2;
          home = λ i at. single-home (cell e i) (own_word n.0 i n.1 at);
        }

    pub run_single : IsRunSingle l (reserved_run job.draft)
    run_single b within disk i at word =
        let n = in_run b within in
        own_word n.0 i n.1 (word ∙ same_Some disk (loan_at job.loans n.0).place (sym at ∙ block_at b n.0 n.1 n.2))

    pub agrees_before : Agrees has.kept.staging l
    agrees_before = agrees_still k job has e back hold l refl has.kept.staging has.stands.agrees

    pub single_before : AreFreeSingle has.kept.staging l
    single_before = free_single_still k job has e back hold l refl has.kept.staging has.stands.free_single

    module _ (staging : Staged) (given : IsGivenBack (reserved_run job.draft) has.kept.staging staging) (staged : IsStaged staging) (agrees : Agrees staging l) (single : AreFreeSingle staging l) where
      out_still : (d : Draft) → reserved_run job.draft ≢ reserved_run d → Contains has.kept.staging.out (reserved_run d) → Contains staging.out (reserved_run d)
      out_still d differs is =
          subst (λ (s : Staged). Contains s.out (reserved_run d)) (sym given.now) (stays_in has.kept.staging.out given.place (reserved_run job.draft) (reserved_run d) given.was differs is)

      draft_ok : is_draft job.draft ≡ true
      draft_ok = subst (λ (d : Draft). is_draft d ≡ true) (draft_is k job has) (stood k job has).draft

      of_claim : (d : Draft) → In d (live_claims k.volume has.kept.claims) → reserved_run job.draft ≢ reserved_run d
      of_claim d is = two_runs job.draft d (apart_back d job.draft (subst (AreApart d) (draft_is k job has) ((stood k job has).apart d is))) draft_ok

      of_other : (q : JobOut) → In q (without has.p.who has.kept.pending) → reserved_run job.draft ≢ reserved_run q.draft
      of_other q is =
          let its = job_of (without has.p.who has.kept.pending) (others k job has) q (split k job has).rest is in
          let apart = (apart_of (j k job has) (others k job has) its.job (valid k job has).out.1 its.there).staging in
          two_runs job.draft q.draft (subst (AreApart job.draft) its.draft (subst (λ (d : Draft). AreApart d its.job.draft) (draft_is k job has) apart)) draft_ok

      now : IsFlying k.volume e has.kept.claims (others k job has) (file_state has.kept.files) (numbers k job has) has.s has.stands.count
      now = record {
        device = gives_up_job k.volume k.cells e (claims k job has) (split k job has).a (j k job has) (split k job has).b (numbers k job has) has.s has.stands.count job.loans (flying k job has).device (out k job has) (put_back k job has e back);
        whole = λ strict. whole_rest (split k job has).a (j k job has) (split k job has).b ((flying k job has).whole strict);
        out = others_out k.volume k.cells e (claims k job has) (split k job has).a (j k job has) (split k job has).b (file_state has.kept.files) (numbers k job has) has.s has.stands.count job.loans (flying k job has) (put_back k job has e back);
        home = others_home k.volume k.cells e (claims k job has) (split k job has).a (j k job has) (split k job has).b (file_state has.kept.files) (numbers k job has) has.s has.stands.count job.loans (flying k job has) (put_back k job has e back)
            (λ n w below within. ap is_lent (hold n w (omega (arith, below, loans_count k job has)) within));
        overlays = (flying k job has).overlays;
      }

      there_still : (q : JobOut) → In q (without has.p.who has.kept.pending) → In q has.kept.pending
      there_still q is = left_there has.p.who has.kept.pending q is

      -- THE WORLD STANDS TOGETHER
      stands : StandsAt has.g l has.t (given_up has.kept has.p staging) true has.n has.s
      stands = record {
        count = has.stands.count;
        few = has.stands.few;
        numbers = numbers k job has;
        jobs = others k job has;
        jobs_are = (split k job has).rest;
        order = order;
        unbatched = has.stands.unbatched;
        on = has.stands.on;
        geometry = has.stands.geometry;
        flying = now;
        lines = lines_still k job has e back hold (given_up has.kept has.p staging) refl has.stands.lines;
        quiet = subst (λ (g : Geometry). IsQuietBeside g e) has.stands.geometry
            (quiet_still k job has e back hold (subst (λ (g : Geometry). IsQuietBeside g k.cells) (sym has.stands.geometry) has.stands.quiet));
        blocks = λ q is. has.stands.blocks q (there_still q is);
        callers = AllPairs-filter AreOfTwoThreads (λ (q : JobOut). not (same_who q.who has.p.who)) has.kept.pending has.stands.callers;
        tables = has.stands.tables;
        open_are_files = has.stands.open_are_files;
        ordered = has.stands.ordered;
        sizes = has.stands.sizes;
        bare = has.stands.bare;
        staged = staged;
        agrees = agrees;
        free_single = single;
        drafts = has.stands.drafts;
        low = has.stands.low;
        claims_out = λ d is. out_still d (of_claim d is) (has.stands.claims_out d is);
        jobs_out = λ q is. out_still q.draft (of_other q is) (has.stands.jobs_out q (there_still q is));
        spare = λ q is. has.stands.spare q (there_still q is);
        owed = omega (
          arith,
          has.stands.owed,
          one_fewer has.kept.staging.out given.place (reserved_run job.draft) given.was,
          ap (λ (s : Staged). length s.out) given.now,
          ap length (split k job has).jobs_are,
          length-append (split k job has).a (j k job has ∷ (split k job has).b),
          length-append (split k job has).a (split k job has).b,
        );
      }

      pub leaves_given_up : (m : View) → m ≡ l → LeavesGivenUp k job has m staging
      unfolding stands
      leaves_given_up m same = subst (λ (w : View). LeavesGivenUp k job has w staging) (sym same) (record { stands = stands; numbers = refl })

-- WHAT GIVING UP LEAVES
pub give_up_leaves : (k l : View) (job : FilledView) (old new : Staged) (run : StageRun) → HoldWords job.loans job.words → ComeBack job.loans k.cells l.cells → l ≡ record k { cells = l.cells } → IsInOrder l
    → run ≡ reserved_run job.draft → IsGivenBack run old new → IsStaged new → ((w : View) → Agrees old w → IsThere w run → Agrees new w) → ((w : View) → AreFreeSingle old w → IsRunSingle w run → AreFreeSingle new w)
    → (has : HasJob k job) → has.kept.staging ≡ old → LeavesGivenUp k job has l new
give_up_leaves k l job old new run hold back same order run_is given staged agrees single has staging =
    leaves_given_up k job has l.cells hold back in_order new
    (subst (λ (s : Staged). IsGivenBack (reserved_run job.draft) s new) (sym staging) (subst (λ (r : StageRun). IsGivenBack r old new) run_is given)) staged
    (agrees (record k { cells = l.cells }) (subst (λ (s : Staged). Agrees s (record k { cells = l.cells })) staging (agrees_before k job has l.cells hold back in_order))
    (subst (IsThere (record k { cells = l.cells })) (sym run_is) (there k job has l.cells hold back in_order)))
    (single (record k { cells = l.cells }) (subst (λ (s : Staged). AreFreeSingle s (record k { cells = l.cells })) staging (single_before k job has l.cells hold back in_order))
    (subst (IsRunSingle (record k { cells = l.cells })) (sym run_is) (run_single k job has l.cells hold back in_order)))
    l same where
      in_order : IsInOrder (record k { cells = l.cells })
      in_order = subst IsInOrder same order
