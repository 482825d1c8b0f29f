-- Loans come back one after the other, and the jobs of a crash one after the other.
use Rattle.std.specs.Prelude.{◌≡◌, ◌/◌, ◌++◌, ℕ, true, false, List, [], ◌∷◌, length, refl, if◌then◌else◌}
use Rattle.std.proofs.Common.{ap, ◌∙◌, sym, subst, inl, inr}
use Rattle.std.proofs.lemmas.List.{append-nil}
use Rattle.world_parts.specs.pm_model.declared.Cell.{Cell}
use Rattle.world_parts.specs.pm_model.Cells.{cell, is_lent}
use Rattle.world_parts.specs.pm_model.Parts.{ComesBack, Part}
use Rattle.world_parts.specs.block_io.Overwrites.{IsInLines}
use Rattle.world_parts.specs.layout_model.Places.{log_line}
use Rattle.world_parts.specs.block_io.Lines.{AreFrom, LinesComeBack}
use Rattle.world_parts.specs.list_laws.Members.{In, pushed-In}
use Rattle.world_parts.specs.write_jobs.Jobs.{FilledView, HoldWords, JobView}
use Rattle.world_parts.specs.world_view_laws.write_end.Blocks.{ComeHome}
use Rattle.world_parts.specs.world_view_laws.Handed.{AreOneEach, handed, HaveOtherPlaces, loans_filled, loans_out}
use Rattle.world_parts.proofs.world_view_laws_proofs.Crashing.{loans_lent}
use Rattle.world_parts.proofs.world_view_laws_proofs.Handing.{each_behind, each_front, home_more, home_one, in_behind, in_front, loans_filled_more, loans_out_more, other_places}
use Rattle.world_parts.proofs.world_view_laws_proofs.Leaving.{crash_left, handed_apart, may_put, MayPutLines}
use Rattle.world_parts.specs.world_view_laws.Losses.{KeepsActed, MayCrash}
use Rattle.world_parts.specs.world_view_laws.Rounds.{IsLeft}
use Rattle.world_parts.specs.world_view_laws.Begins.{IsFilledOut, IsJobOut}
use Rattle.world_parts.specs.world_view_laws.Views.{calls_out, WorldView}
use Rattle.world_parts.specs.in_flight.live_model.Standing.{JobOut}
use Rattle.posix_types.specs.declared.item.Item.{Item}
use Rattle.world_parts.specs.posix_spec.Run.{Unfinished}
use Rattle.world_parts.specs.declared.parts.Parts.{Parts}
use Rattle.world_parts.specs.Seen.{IsKept, seen}

-- each loan of these is of a block that is lent
abbrev pub AreLent : List Part → List Cell → Type 0
AreLent loans d = (loan : Part) (i : ℕ) → In loan loans → i / 512 ≡ loan.place → is_lent (cell d i) ≡ true

-- ---- the next part of what comes back

module _ (all before next rest : List Part) (is : all ≡ before ++ (next ++ rest)) (d e : List Cell) (each : AreOneEach all) (lent : AreLent all d) (home : ComeHome before d e) where
  each_now : AreOneEach (before ++ (next ++ rest))
  each_now = subst AreOneEach is each

  apart : HaveOtherPlaces before next
  apart loan other at there = other_places before (next ++ rest) each_now loan other at (in_front next rest other there)

  pub next_each : AreOneEach next
  next_each = each_front next rest (each_behind before (next ++ rest) each_now)

  pub next_lent : AreLent next e
  next_lent loan i at place =
      ap is_lent (home.beside i (λ other there same. apart other loan there at (sym same ∙ place)))
      ∙ lent loan i (subst (In loan) (sym is) (in_behind before (next ++ rest) loan (in_front next rest loan at))) place

  pub next_home : (f : List Cell) → ComeHome next e f → ComeHome (before ++ next) d f
  next_home f two = home_more before next d e f apart home two

-- one loan more
one_more : (before : List Part) (loan : Part) (rest : List Part) → before ++ (loan ∷ rest) ≡ before ++ ((loan ∷ []) ++ rest)
one_more before loan rest = refl

module _ (loans before : List Part) (loan : Part) (rest : List Part) (is : loans ≡ before ++ (loan ∷ rest)) (d e : List Cell) (each : AreOneEach loans) (lent : AreLent loans d) (home : ComeHome before d e) where
  pub loan_lent : (i : ℕ) → i / 512 ≡ loan.place → is_lent (cell e i) ≡ true
  loan_lent i place = next_lent loans before (loan ∷ []) rest (is ∙ one_more before loan rest) d e each lent home loan i (inl refl) place

  pub loan_home : (f : List Cell) → length f ≡ length e → ComesBack 512 loan.place loan.cells e f → ((i : ℕ) → i / 512 ≡ loan.place → is_lent (cell f i) ≡ false) → ComeHome (before ++ loan ∷ []) d f
  loan_home f size back gone = next_home loans before (loan ∷ []) rest (is ∙ one_more before loan rest) d e each lent home f (home_one loan e f size back gone)

-- ---- one job more

out_parts : (before : List JobView) (job : JobView) (rest : List JobView) → loans_out (before ++ job ∷ rest) ≡ loans_out before ++ (job.loans ++ loans_out rest)
out_parts before job rest = loans_out_more before (job ∷ rest)

filled_parts : (before : List FilledView) (job : FilledView) (rest : List FilledView) → loans_filled (before ++ job ∷ rest) ≡ loans_filled before ++ (job.loans ++ loans_filled rest)
filled_parts before job rest = loans_filled_more before (job ∷ rest)

module _ (jobs before : List JobView) (job : JobView) (rest : List JobView) (is : jobs ≡ before ++ job ∷ rest) (d e : List Cell) (each : AreOneEach (loans_out jobs)) (lent : AreLent (loans_out jobs) d) (home : ComeHome (loans_out before) d e) where
  parts_are : loans_out jobs ≡ loans_out before ++ (job.loans ++ loans_out rest)
  parts_are = ap loans_out is ∙ out_parts before job rest

  pub job_each : AreOneEach job.loans
  job_each = next_each (loans_out jobs) (loans_out before) job.loans (loans_out rest) parts_are d e each lent home

  pub job_lent : AreLent job.loans e
  job_lent = next_lent (loans_out jobs) (loans_out before) job.loans (loans_out rest) parts_are d e each lent home

  pub job_home : (f : List Cell) → ComeHome job.loans e f → ComeHome (loans_out (before ++ job ∷ [])) d f
  job_home f two =
      subst (λ (xs : List Part). ComeHome xs d f) (ap (λ (xs : List Part). loans_out before ++ xs) (sym (append-nil job.loans)) ∙ sym (out_parts before job []))
      (next_home (loans_out jobs) (loans_out before) job.loans (loans_out rest) parts_are d e each lent home f two)

module _ (jobs before : List FilledView) (job : FilledView) (rest : List FilledView) (is : jobs ≡ before ++ job ∷ rest) (d e : List Cell) (each : AreOneEach (loans_filled jobs)) (lent : AreLent (loans_filled jobs) d) (home : ComeHome (loans_filled before) d e) where
  filled_are : loans_filled jobs ≡ loans_filled before ++ (job.loans ++ loans_filled rest)
  filled_are = ap loans_filled is ∙ filled_parts before job rest

  pub filled_each : AreOneEach job.loans
  filled_each = next_each (loans_filled jobs) (loans_filled before) job.loans (loans_filled rest) filled_are d e each lent home

  pub filled_lent : AreLent job.loans e
  filled_lent = next_lent (loans_filled jobs) (loans_filled before) job.loans (loans_filled rest) filled_are d e each lent home

  pub filled_home : (f : List Cell) → ComeHome job.loans e f → ComeHome (loans_filled (before ++ job ∷ [])) d f
  filled_home f two =
      subst (λ (xs : List Part). ComeHome xs d f) (ap (λ (xs : List Part). loans_filled before ++ xs) (sym (append-nil job.loans)) ∙ sym (filled_parts before job []))
      (next_home (loans_filled jobs) (loans_filled before) job.loans (loans_filled rest) filled_are d e each lent home f two)

-- those so far hold their words, and the next one
pub holds_more : (before : List FilledView) (job : FilledView) → ((x : FilledView) → In x before → HoldWords x.loans x.words) → HoldWords job.loans job.words → (x : FilledView) → In x (before ++ job ∷ []) → HoldWords x.loans x.words
holds_more before job old new x at = elim (pushed-In before job x at) [ inl there ↦ old x there | inr same ↦ subst (λ (y : FilledView). HoldWords y.loans y.words) same new ]

-- ---- a crash

module _ (p : Parts) (kept : IsKept p) (off : p.lost ≡ true) (lines : List Part) (out : List JobView) (filled : List FilledView) (may : MayCrash (seen p) lines out filled) where
  each_handed : AreOneEach (handed out filled)
  each_handed = handed_apart p.k p.tables.tables p.staging p.files (seen p) kept.world off lines out filled may

  lent_handed : AreLent (handed out filled) p.k.cells
  lent_handed loan i at place = loans_lent (seen p) p.staging p.files out filled may.jobs loan i at (sym place)

  pub out_each : AreOneEach (loans_out out)
  out_each = each_front (loans_out out) (loans_filled filled) each_handed

  pub out_lent : AreLent (loans_out out) p.k.cells
  out_lent loan i at place = lent_handed loan i (in_front (loans_out out) (loans_filled filled) loan at) place

  module _ (first : List Cell) (home : ComeHome (loans_out out) p.k.cells first) where
    handed_are : handed out filled ≡ loans_out out ++ (loans_filled filled ++ [])
    handed_are = ap (λ (xs : List Part). loans_out out ++ xs) (sym (append-nil (loans_filled filled)))

    pub then_each : AreOneEach (loans_filled filled)
    then_each = each_behind (loans_out out) (loans_filled filled) each_handed

    pub then_lent : AreLent (loans_filled filled) first
    then_lent = next_lent (handed out filled) (loans_out out) (loans_filled filled) [] handed_are p.k.cells first each_handed lent_handed home

    module _ (middle : List Cell) (two : ComeHome (loans_filled filled) first middle) where
      all_home : ComeHome (handed out filled) p.k.cells middle
      all_home = next_home (handed out filled) (loans_out out) (loans_filled filled) [] handed_are p.k.cells first each_handed lent_handed home middle two

      pub lines_may : MayPutLines (seen p) middle (if p.lines_out then lines else p.home.items)
      lines_may = may_put p.k p.tables.tables p.staging p.files (seen p) kept.world off lines out filled may middle all_home

      module _ (holds : (job : FilledView) → In job filled → HoldWords job.loans job.words) (e : List Cell) (size : length e ≡ length middle) where
        pub left_so : LinesComeBack (log_line p.geometry 0) (if p.lines_out then lines else p.home.items) middle e
            → ((i : ℕ) → IsInLines (log_line p.geometry 0) (length (if p.lines_out then lines else p.home.items)) i → is_lent (cell e i) ≡ false)
            → IsLeft (seen p) e p.history.items (calls_out (seen p)) × KeepsActed (seen p) lines filled e
        left_so = crash_left p.k p.tables.tables p.staging p.files (seen p) kept.world off lines out filled may middle all_home holds e size

      -- the lines that are put back, from this line on
      module _ (back : List Part) (is : back ≡ (if p.lines_out then lines else p.home.items)) (line : ℕ) (line_is : line ≡ log_line p.geometry 0) where
        may_now : AreFrom line back × ((i : ℕ) → IsInLines line (length back) i → is_lent (cell middle i) ≡ true)
        may_now =
            subst (λ (n : ℕ). AreFrom n back × ((i : ℕ) → IsInLines n (length back) i → is_lent (cell middle i) ≡ true)) (sym line_is)
            (subst (λ (xs : List Part). AreFrom (log_line p.geometry 0) xs × ((i : ℕ) → IsInLines (log_line p.geometry 0) (length xs) i → is_lent (cell middle i) ≡ true)) (sym is) (lines_may.places, lines_may.out))

        pub may_places : AreFrom line back
        may_places = may_now.0

        pub may_out : (i : ℕ) → IsInLines line (length back) i → is_lent (cell middle i) ≡ true
        may_out = may_now.1

        -- WHAT IS LEFT
        pub left_now : ((job : FilledView) → In job filled → HoldWords job.loans job.words) → (e : List Cell) → length e ≡ length middle → LinesComeBack line back middle e
            → ((i : ℕ) → IsInLines line (length back) i → is_lent (cell e i) ≡ false) → IsLeft (seen p) e p.history.items (calls_out (seen p)) × KeepsActed (seen p) lines filled e
        left_now holds e size comes gone =
            let now =
            subst (λ (n : ℕ). LinesComeBack n (if p.lines_out then lines else p.home.items) middle e × ((i : ℕ) → IsInLines n (length (if p.lines_out then lines else p.home.items)) i → is_lent (cell e i) ≡ false)) line_is
            (subst (λ (xs : List Part). LinesComeBack line xs middle e × ((i : ℕ) → IsInLines line (length xs) i → is_lent (cell e i) ≡ false)) is (comes, gone))
            in
            left_so holds e size now.0 now.1

-- ---- once the power is lost a crash asks for the same

module _ (w : WorldView) (lines : List Part) (out : List JobView) (filled : List FilledView) where
  abbrev lost : WorldView
  lost = record w { lost = true }

  job_lost : (p : JobOut) (job : JobView) → IsJobOut w p job → IsJobOut lost p job
  job_lost p job is = record { there = is.there; who = is.who; draft = is.draft; blocks = is.blocks; words = is.words; lent = is.lent }

  filled_lost : (p : JobOut) (job : FilledView) → IsFilledOut w p job → IsFilledOut lost p job
  filled_lost p job is = record { there = is.there; who = is.who; draft = is.draft; blocks = is.blocks; words = is.words; lent = is.lent }

  pub may_lost : MayCrash w lines out filled → MayCrash lost lines out filled
  may_lost may = record {
    jobs = record {
      each_out = λ job at. (let is = may.jobs.each_out job at in (is.0, job_lost is.0 job is.1));
      each_filled = λ job at. (let is = may.jobs.each_filled job at in (is.0, filled_lost is.0 job is.1));
      one_each = may.jobs.one_each;
      all = λ p at. elim (may.jobs.all p at) [
        | inl home ↦ inl home
        | inr here ↦ inr (elim here [ inl one ↦ inl (one.0, one.1, job_lost p one.0 one.2) | inr two ↦ inr (two.0, two.1, filled_lost p two.0 two.2) ])
      ];
    };
    lines_are = may.lines_are;
    none = may.none;
  }

  pub left_lost : (pm : List Cell) (history : List Item) (calls : List Unfinished) → IsLeft lost pm history calls → IsLeft w pm history calls
  left_lost pm history calls is = record {
    history_is = is.history_is;
    unfinished_is = is.unfinished_is;
    legal = is.legal;
    scripted = is.scripted;
    open_calls = is.open_calls;
    within = is.within;
    size = is.size;
    home = is.home;
    promise = is.promise;
  }

  pub acted_lost : (pm : List Cell) → KeepsActed lost lines filled pm → KeepsActed w lines filled pm
  acted_lost pm keeps acts tells = keeps acts tells
