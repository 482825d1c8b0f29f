-- The jobs that are out need what their calls do.
use Rattle.std.specs.Prelude.{◌≡◌, ◌≤◌, ◌+◌, ◌&&◌, nat_le, if◌then◌else◌, option_map, ℕ, Bool, true, false, List, [], ◌∷◌, length, map, Option, None, Some, sum_by, refl}
use Rattle.std.specs.Option.{option_map_or}
use Rattle.std.proofs.Common.{arith, ap, ◌∙◌, sym}
use Rattle.std.proofs.lemmas.Bool.Decides.{nat_tests}
use Rattle.std.proofs.lemmas.List.Sums.{sum_by-cons}
use Rattle.write_plan.specs.pm_model.ImageLaws.{IsImage-words_of}
use Rattle.write_plan.specs.pm_model.Images.{words_of}
use Rattle.write_plan.specs.pm_model.Words.{Words}
use Rattle.write_plan.specs.layout_model.declared.lines.Draft.{Draft}
use Rattle.write_plan.specs.layout_model.Journal.{journaled}
use Rattle.write_plan.specs.image_model.Volume.{Volume}
use Rattle.write_plan.specs.file_table.Files.{Files}
use Rattle.write_plan.proofs.open_files_proofs.Lookups.{same_opened}
use Rattle.write_plan.specs.open_files.Numbered.{described_as}
use Rattle.posix_types.specs.declared.call.Call.{Call}
use Rattle.posix_types.specs.declared.call.Who.{Who}
use Rattle.posix_types.specs.declared.handle.Handle.{Handle}
use Rattle.posix_tables.specs.declared.open.Description.{Description}
use Rattle.posix_tables.specs.block_counts.declared.TheConstants.{LONGEST_FILE}
use Rattle.posix_tables.specs.Open.{may_write, opened, Tables}
use Rattle.write_plan.specs.posix_laws.RowLaws.{Accepts, put_at-Some}
use Rattle.write_plan.specs.posix_laws.Views.{need_of}
use Rattle.write_plan.specs.posix_spec.FileRows.{write_start}
use Rattle.write_plan.specs.posix_spec.Put.{Put, put_by}
use Rattle.write_plan.specs.posix_spec.Run.{Unfinished}
use Rattle.write_plan.specs.posix_spec.State.{State}
use Rattle.live_step_laws.specs.world_model.JobLaws.{needs}
use Rattle.live_step_laws.specs.world_model.Jobs.{unfinished_call, Job, JobsStand, live_claims}
use Rattle.live_step_laws.specs.world_model.Stands.{number}
use Rattle.live_step_laws.specs.live_model.Standing.{AreJobsOf, JobOut}
use Rattle.write_plan.specs.Asks.{need_in, start_at}
use Rattle.write_plan.specs.AsksLaws.{AreOfState, call_of, NeedsAsCall, start_of, StartsAsCall}
use Rattle.write_plan.specs.Numbers.{StandsAsKept}
use Rattle.write_begin.specs.Needs.{JobsNeed, need_by, need_through}

same_may : (f : ℕ → ℕ) (o : Option Description) → option_map_or (λ d. d.flags.write) (option_map (described_as f) o) false ≡ option_map_or (λ d. d.flags.write) o false
same_may f None = refl
same_may f (Some d) = refl

taken_then : (a b : Bool) (m : ℕ) → a ≡ true → b ≡ true → (if a && b then m else 0) ≡ m
taken_then a b m first second = (λ i. if first i && second i then m else 0)

le_is : (m n : ℕ) → m ≤ n → nat_le m n ≡ true
le_is m n few = grind (arith, nat_tests)

module _ (starts : StartsAsCall) (needs_law : NeedsAsCall) (s : State) (f : ℕ → ℕ) (t : Tables) (files : Files) (of_state : AreOfState s f t files) where
  -- a write that no row refuses needs what it does by numbers
  through : (who : Who) (h : Handle) (at : Option ℕ) (x : List ℕ) → Accepts s who h (start_of s who h at) x → need_through s.mode t files who h at (length x) ≡ need_of s who (call_of h at x)
  through who h at x accepts =
      let may : may_write t who h ≡ true = sym (ap (λ y. may_write y who h) of_state.tables ∙ (ap (λ (o : Option Description). option_map_or (λ d. d.flags.write) o false) (same_opened f t who h) ∙ same_may f (opened t who h))) ∙ accepts.may_write in
      let start = starts s f t files who h at of_state accepts.may_write in
      let end = accepts.end in
      taken_then (may_write t who h) (nat_le (start_at t files who h at + length x) LONGEST_FILE) (need_in s.mode t files who h at (length x)) may
      (le_is (start_at t files who h at + length x) LONGEST_FILE (omega (arith, start, end)))
      ∙ sym (needs_law s f t files who h at x of_state accepts.may_write)

  -- a call that puts something needs what it does by numbers
  one : (who : Who) (call : Call) (p : Put) → put_by s who call ≡ Some p → need_by s.mode t files who call ≡ need_of s who call
  unfolding put_by
  one who (Call.Write h x) p is = through who h None x (put_at-Some s who h (write_start s who h) x p is).0
  one who (Call.Pwrite h place x) p is = through who h (Some place) x (put_at-Some s who h place x p is).0
  one who call p is = cc

  all : (v : Volume) (live : List Draft) (g : Words) (numbers : List ℕ) (pending : List JobOut) (jobs : List Job) → AreJobsOf pending jobs → JobsStand v live g numbers s jobs
      → sum_by (λ (p : JobOut). need_by s.mode t files p.who p.call) pending ≡ needs s jobs
  all v live g numbers [] [] are out = refl
  all v live g numbers [] (j ∷ jobs) are out = absurd are
  all v live g numbers (p ∷ pending) [] are out = absurd are
  all v live g numbers (p ∷ pending) (j ∷ jobs) are out =
      let own : need_by s.mode t files p.who p.call ≡ need_of s j.who j.call = (λ i. need_by s.mode t files (sym are.0 i) (sym are.1 i)) ∙ one j.who j.call out.0.puts.put out.0.puts.is in
      let rest = all v live g numbers pending jobs are.3 out.2 in
      sum_by-cons (λ (q : JobOut). need_by s.mode t files q.who q.call) p pending
      ∙ ((λ i. own i + rest i) ∙ sym (sum_by-cons (λ (c : Unfinished). need_of s c.0 c.1) (unfinished_call j) (map unfinished_call jobs)))

pub jobs_need : StartsAsCall → NeedsAsCall → StandsAsKept → JobsNeed
jobs_need starts needs_law kept_law g k t kept lines n s stands =
    all starts needs_law s (number stands.numbers) t kept.files (kept_law g k t kept lines n s stands) k.volume (live_claims k.volume kept.claims) (journaled (words_of k.cells)) stands.numbers kept.pending stands.jobs stands.jobs_are
    (stands.flying.device.world (words_of k.cells) (IsImage-words_of k.cells)).valid.out
