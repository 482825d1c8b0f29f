-- The job of a caller, the reply of its call, and the ends of files once it finished.
use Rattle.std.specs.Prelude.{◌≡◌, ℕ, suc, Bool, true, false, List, [], ◌∷◌, length, Some, AllPairs, refl}
use Rattle.std.proofs.Common.{arith, ap, ◌∙◌, sym, inl, inr}
use Rattle.file_calls.specs.eof_laws.layout_model.Places.{Geometry}
use Rattle.in_flight.specs.file_table.Files.{Files}
use Rattle.file_calls.specs.eof_laws.FinishesLaws.{EndFinished}
use Rattle.in_flight.specs.k_split_model.View.{View}
use Rattle.file_calls.specs.eof_laws.list_laws.Members.{In}
use Rattle.file_calls.specs.eof_laws.posix_types.declared.call.Call.{Call}
use Rattle.file_calls.specs.eof_laws.posix_types.declared.call.Who.{Who}
use Rattle.file_calls.specs.eof_laws.posix_types.declared.reply.Reply.{Reply}
use Rattle.file_calls.specs.eof_laws.posix_tables.Open.{same_who, Tables}
use Rattle.file_calls.specs.eof_laws.posix_tables.Outcomes.{answer}
use Rattle.in_flight.specs.posix_spec.FileRows.{write_start}
use Rattle.in_flight.specs.posix_spec.Put.{Put, put_by}
use Rattle.in_flight.specs.posix_spec.State.{State}
use Rattle.in_flight.specs.posix_spec.Step.{step}
use Rattle.in_flight.specs.posix_laws.RowLaws.{put_at-Some}
use Rattle.file_publish.specs.world_image_laws.commute_laws.Counted.{outcome-put}
use Rattle.in_flight.proofs.CountsCounts.{pairs}
use Rattle.in_flight.proofs.CountsJobs.{puts_of, same_who-refl}
use Rattle.in_flight.specs.staging_files.Keeps.{Staged}
use Rattle.in_flight.specs.live_model.Standing.{AreOfTwoThreads, Kept, JobOut, StandsAt}
use Rattle.file_calls.specs.eof_laws.Ends.{FilesEnd}
use Rattle.write_end.specs.Ends.{LeavesFinished}
use Rattle.in_flight.specs.write_jobs.Jobs.{FilledView}
use Rattle.in_flight.specs.world_model.Jobs.{put_bytes_of}
use Rattle.world_view_laws.proofs.Modes.{no_job}
use Rattle.world_view_laws.proofs.Ending.{has, no_both}
use Rattle.world_view_laws.specs.Begins.{IsFilledOut}
use Rattle.world_view_laws.specs.Views.{IsWorldOver, kept_of, state_of, WorldView}

-- two jobs of one caller are one
pub one_job : (pending : List JobOut) (a b : JobOut) → AllPairs AreOfTwoThreads pending → In a pending → In b pending → a.who ≡ b.who → a ≡ b
one_job [] a b two first second same = absurd first
one_job (x ∷ pending) a b two (inl one) (inl other) same = sym one ∙ other
one_job (x ∷ pending) a b two (inl one) (inr at) same =
    no_both (same_who x.who b.who) (ap (λ v. same_who v b.who) (ap (λ (y : JobOut). y.who) one ∙ same) ∙ same_who-refl b.who) (pairs AreOfTwoThreads x pending two b at).other _
one_job (x ∷ pending) a b two (inr at) (inl other) same =
    no_both (same_who x.who a.who) (ap (λ v. same_who v a.who) (ap (λ (y : JobOut). y.who) other ∙ sym same) ∙ same_who-refl a.who) (pairs AreOfTwoThreads x pending two a at).other _
one_job (x ∷ pending) a b two (inr first) (inr second) same = one_job pending a b (λ m n d before below. two (suc m) (suc n) d (omega (arith, before)) (omega (arith, below))) first second same

-- ---- the reply

put_bytes_are : (s : State) (who : Who) (call : Call) (put : Put) → put_by s who call ≡ Some put → put.bytes ≡ put_bytes_of call
unfolding put_by
put_bytes_are s who (Call.Write h x) put is = sym (ap (λ (p : Put). p.bytes) (put_at-Some s who h (write_start s who h) x put is).1)
put_bytes_are s who (Call.Pwrite h start x) put is = sym (ap (λ (p : Put). p.bytes) (put_at-Some s who h start x put is).1)
put_bytes_are s who call put is = let never = is in cc

-- A JOB ANSWERS how many bytes its call puts.
pub job_answers : (g : Geometry) (k : View) (t : Tables) (kept : Kept) (lines : Bool) (n : ℕ) (s : State) → StandsAt g k t kept lines n s → (p : JobOut) → In p kept.pending
    → (step s p.who p.call).outcome ≡ answer (Reply.Count (length (put_bytes_of p.call)))
job_answers g k t kept lines n s stands p there =
    let puts = puts_of g k t kept lines n s stands p there in
    outcome-put s p.who p.call _ _ puts ∙ ap (λ (bytes : List ℕ). answer (Reply.Count (length bytes))) (put_bytes_are s p.who p.call puts.put puts.is)

-- ---- the ends of files

module _ (law : EndFinished) (k : View) (t : Tables) (staging : Staged) (files : Files) (w : WorldView) (world : IsWorldOver k t staging files w) (on : w.lost ≡ false) (out : w.lines_out ≡ true)
    (p : JobOut) (job : FilledView) (is_out : IsFilledOut w p job) (slot : ℕ) (l : View) (u : Tables) (laid : Files) (same : l ≡ record k { cells = l.cells })
    (leaves : LeavesFinished k job (has k t staging files w world on out p job is_out) slot l u laid) where
  -- NOTHING LIES PAST THE END of a file once it finished.
  pub finished_ends : FilesEnd l.volume laid
  finished_ends =
      let going = world.going on in
      law w.geometry k l t u (kept_of w staging files) _ _ true _ _ (state_of w) _ slot p (going.stands (no_job k t staging files w going p is_out.there)) is_out.there (going.drafts_end p is_out.there)
      (ap (λ (x : View). x.volume) same) refl leaves.stands going.ends
