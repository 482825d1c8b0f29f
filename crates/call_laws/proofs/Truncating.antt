-- A `truncate` of a World.
use Rattle.std.specs.Prelude.{◌≡◌, ◌⊎◌, ◌≤◌, ◌+◌, ◌-◌, nat_le, nat_lt, ℕ, Bool, true, false, [], ◌∷◌, length, None, refl}
use Rattle.std.proofs.Common.{arith, lit<, ap, ◌∙◌, sym}
use Rattle.std.proofs.lemmas.Bool.Decides.{nat_tests}
use Rattle.world_view_laws.specs.eof_laws.block_counts.Counts.{held_by}
use Rattle.world_view_laws.specs.eof_laws.pm_model.Powers.{is_on, Supply}
use Rattle.world_view_laws.specs.eof_laws.file_table.Files.{Files}
use Rattle.file_truncate.specs.Truncates as truncates
use Rattle.file_truncate.specs.Truncates.{Finds}
use Rattle.world_view_laws.specs.eof_laws.k_split_model.View.{View}
use Rattle.world_view_laws.specs.eof_laws.posix_types.declared.call.Call.{Call}
use Rattle.world_view_laws.specs.eof_laws.posix_types.declared.call.Who.{Who}
use Rattle.world_view_laws.specs.eof_laws.posix_types.declared.handle.Handle.{Handle}
use Rattle.world_view_laws.specs.eof_laws.posix_types.declared.item.Outcome.{Outcome}
use Rattle.world_view_laws.specs.eof_laws.posix_types.declared.reply.What.{What}
use Rattle.world_view_laws.specs.eof_laws.posix_tables.Open.{Tables}
use Rattle.world_view_laws.specs.eof_laws.posix_tables.Outcomes.{first, space_row, unless}
use Rattle.world_view_laws.specs.eof_laws.posix_tables.Room.{growth}
use Rattle.world_view_laws.specs.eof_laws.posix_laws.RowLaws.{none_fits}
use Rattle.world_view_laws.specs.eof_laws.posix_spec.FileRows.{content, no_blocks, truncate_rows}
use Rattle.world_view_laws.specs.eof_laws.posix_spec.Put.{put_by}
use Rattle.world_view_laws.specs.eof_laws.posix_spec.Run.{after_call}
use Rattle.world_view_laws.specs.eof_laws.posix_spec.State.{room, State}
use Rattle.world_view_laws.specs.eof_laws.posix_spec.Step.{step}
use Rattle.world_view_laws.specs.eof_laws.posix_spec.Tree.{tree}
use Rattle.world_view_laws.specs.eof_laws.k_journal.Commits.{TakesAStep}
use Rattle.world_view_laws.specs.in_flight.staging_files.Keeps.{Staged}
use Rattle.world_view_laws.specs.in_flight.live_model.Losses.{KeepsWhenLost}
use Rattle.world_view_laws.specs.in_flight.live_model.Standing.{StandsAt}
use Rattle.world_view_laws.specs.in_flight.live_model.world_model.JobLaws.{needs}
use Rattle.world_view_laws.proofs.Beginning.{lost_call, others_lost}
use Rattle.world_view_laws.proofs.Losing.{lost_view}
use Rattle.world_view_laws.specs.Begins.{LacksBeside, LosesCall}
use Rattle.world_view_laws.specs.k_split_laws.Left.{IsLeftOf}
use Rattle.world_view_laws.specs.Views.{disk_of, IsWorldOver, kept_of, state_of, WorldView}
use Rattle.call_laws.proofs.Jobs.{needs_are}
use Rattle.call_laws.proofs.Running.{few_next, lets_now}
use Rattle.call_laws.specs.Calls.{AtCall}
use Rattle.call_laws.proofs.Staying.{stands_now}

pub truncate_unput : (s : State) (who : Who) (h : Handle) (size : ℕ) → put_by s who (Call.Truncate h size) ≡ None
unfolding put_by
truncate_unput s who h size = refl

-- what no row refuses fits
last_row : (s : State) (small : Bool) (need : ℕ) → unless small (no_blocks s need) ≡ None → small ≡ false → need ≤ room s
last_row s small need none large = by (nat_lt (room s) need) refl (sym (ap (λ b. unless b (no_blocks s need)) large) ∙ none) where
  by : (b : Bool) → nat_lt (room s) need ≡ b → space_row b What.Blocks need (room s) ≡ None → need ≤ room s
  by false is row_is = grind (arith, nat_tests)
  by true is row_is = cc

blocks_grow : (m n : ℕ) → m ≤ n → held_by m ≤ held_by n
blocks_grow m n le = omega (arith, le)

no_growth : (from to : ℕ) → to ≤ from → growth from to ≡ 0
no_growth from to le = (let less = blocks_grow to from le in omega (arith, less))

pub truncate_fits : (s : State) (who : Who) (h : Handle) (size : ℕ) → first (truncate_rows s who h size) ≡ None → growth (length (content s who h)) size ≤ room s
unfolding truncate_rows
truncate_fits s who h size none = by (nat_le size (length (content s who h))) refl where
  last : unless (nat_le size (length (content s who h))) (no_blocks s (growth (length (content s who h)) size)) ≡ None
  last = none_fits (truncate_rows s who h size) none 2 None (lit< tt)

  by : (b : Bool) → nat_le size (length (content s who h)) ≡ b → growth (length (content s who h)) size ≤ room s
  by true is = (let none_more = no_growth (length (content s who h)) size (grind (arith, nat_tests)) in omega (arith, none_more))
  by false is = last_row s (nat_le size (length (content s who h))) (growth (length (content s who h)) size) last is

module _ (k : View) (t : Tables) (staging : Staged) (files : Files) (w : WorldView) (who : Who) (h : Handle) (size : ℕ) (one : AtCall k t staging files w who (Call.Truncate h size)) (taken : ℕ)
    (taken_is : taken ≡ needs (state_of w) (stands_now k t staging files w who (Call.Truncate h size) one).jobs) where
  abbrev now : StandsAt w.geometry k t (kept_of w staging files) true (length w.history) (state_of w)
  now = stands_now k t staging files w who (Call.Truncate h size) one

  -- IT IS FOUND AS IT ASKS.
  abbrev pub finds : Finds w.geometry k t (kept_of w staging files) (length w.history) (state_of w) who (Call.Truncate h size) taken
  finds = record {
    runs = now;
    few = few_next k t staging files w who (Call.Truncate h size) one;
    beside = lets_now k t staging files w who (Call.Truncate h size) one;
    needs_are = taken_is;
  }

  -- ---- the jobs that are out leave too little, or enough

  pub truncate_lacks : (needed left : ℕ) → truncates.LeavesLess who h size taken k t files needed left → LacksBeside w who (Call.Truncate h size) needed left
  truncate_lacks needed left less =
      let accepted = less.accepted w.geometry (kept_of w staging files) (length w.history) (state_of w) finds in
      let needed_is = less.need_is w.geometry (kept_of w staging files) (length w.history) (state_of w) finds in
      let fit = truncate_fits (state_of w) who h size accepted in
      record {
        need_is = (accepted, needed_is);
        left_is =
            less.left_is w.geometry (kept_of w staging files) (length w.history) (state_of w) finds
            ∙ ap (λ n. room (state_of w) - n) (taken_is ∙ needs_are (state_of w) w.pending now.jobs now.jobs_are);
        fits = omega (arith, fit, needed_is);
        lacks = less.lacks;
      }

  pub truncate_room : truncates.LeavesEnough who h size taken k t files → (need left : ℕ) → ¬ LacksBeside w who (Call.Truncate h size) need left
  truncate_room leaves need left lacks =
      let enough = leaves w.geometry (kept_of w staging files) (length w.history) (state_of w) finds lacks.need_is.0 in
      let needed = lacks.need_is.1 in
      let rest = lacks.left_is in
      let less = lacks.lacks in
      let taken_by = taken_is ∙ needs_are (state_of w) w.pending now.jobs now.jobs_are in
      omega (arith, enough, needed, rest, less, taken_by)

  -- ---- it returned, or lost its power

  pub truncate_stands : (l : View) (laid : Files) (outcome : Outcome) → truncates.Answers who h size taken k t files l laid outcome
      → StandsAt w.geometry l t (kept_of w staging laid) true (length w.history + 1) (after_call (state_of w) (who, Call.Truncate h size))
      × ((step (state_of w) who (Call.Truncate h size)).outcome ≡ outcome)
  truncate_stands l laid outcome answers = (
    answers.runs w.geometry (kept_of w staging files) (length w.history) (state_of w) finds,
    answers.outcome_is w.geometry (kept_of w staging files) (length w.history) (state_of w) finds,
  )

  pub truncate_spent : (before after : Supply) → truncates.IsSpent who h size taken k t files before after → (tree (after_call (state_of w) (who, Call.Truncate h size)) ≡ tree (state_of w)) ⊎ TakesAStep before after
  truncate_spent before after spent = spent w.geometry (kept_of w staging files) (length w.history) (state_of w) finds

  module _ (l : View) (loses : truncates.Loses who h size taken k t files l) where
    left_device : IsLeftOf w.geometry k.cells l.cells
    left_device = loses.left w.geometry (kept_of w staging files) (length w.history) (state_of w) finds

    promise : KeepsWhenLost k.volume l.cells (kept_of w staging files) now.jobs w.start w.history ((who, Call.Truncate h size) ∷ [])
    promise = loses.kept w.geometry (kept_of w staging files) (length w.history) w.start w.history finds

    pub truncate_lost : IsWorldOver l t staging files (lost_view w ((who, Call.Truncate h size) ∷ []) (w.acts + 1) (disk_of l t staging files))
    truncate_lost = lost_call k t staging files w one.world one.begins.awake one.out who (Call.Truncate h size) one.begins.next one.up one.none l t staging files left_device promise

    pub truncate_loses : (after : Supply) → is_on after ≡ false → LosesCall who w (lost_view w ((who, Call.Truncate h size) ∷ []) (w.acts + 1) (disk_of l t staging files)) after
    truncate_loses after off = record {
      call = Call.Truncate h size;
      next = one.begins.next;
      awake = one.begins.awake;
      new_is = refl;
      stay = others_lost k t staging files w one.world one.begins.awake one.out who (Call.Truncate h size) one.begins.next one.up one.none l t staging files left_device promise;
      off = off;
    }
