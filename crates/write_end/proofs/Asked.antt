-- What the parts of an end ask for, and what they leave together.
use Rattle.std.proofs.Common.{◌≡◌, ◌≤◌, ◌<◌, ◌+◌, ◌^◌, ◌++◌, ◌∷◌, [], ℕ, true, length, arith, ◌∙◌, sym, subst}
use Rattle.std.proofs.lemmas.Bool.Decides.{nat_tests}
use Rattle.layout_model.specs.declared.lines.Draft.{Draft}
use Rattle.layout_model.specs.Entries.{is_draft}
use Rattle.layout_model.specs.block_counts.declared.TheConstants.{LONGEST_FILE}
use Rattle.in_place.specs.write_plan.file_table.Files.{ChangesFile, Files, runs_in, spare_in}
use Rattle.in_place.specs.live_model.write_jobs.world_image_laws.k_split_model.View.{View}
use Rattle.in_place.specs.live_model.write_jobs.k_split.Order.{IsInOrder}
use Rattle.in_place.specs.live_model.Overlays.{run_of}
use Rattle.posix_types.specs.declared.call.Call.{Call}
use Rattle.posix_types.specs.declared.call.Who.{Who}
use Rattle.in_place.specs.write_plan.posix_tables.Open.{Tables}
use Rattle.in_place.specs.live_model.write_jobs.Jobs.{FilledView, HoldWords}
use Rattle.in_place.specs.live_model.write_jobs.Loans.{ComeBack}
use Rattle.in_place.specs.write_plan.Asks.{CanMoveBy, moved_by}
use Rattle.write_end.specs.Ends.{CanFinish, HasJob, HasWrite}
use Rattle.write_end.specs.Landing.{HasLanded}
use Rattle.write_end.proofs.Ending.{below, draft_is, split, stood}
use Rattle.write_end.proofs.Finishes.{lands, may_move}

-- the numbers of an entry are in range
pub record Ranges (d : Draft) : Type 0 where
  pub in_file : d.file_block + d.count ≤ 4096
  pub in_staging : d.staging_block + d.count ≤ 64
  pub size : d.size ≤ LONGEST_FILE

pub ranges : (d : Draft) → is_draft d ≡ true → Ranges d
ranges d is = record { in_file = grind (arith, nat_tests, is); in_staging = grind (arith, nat_tests, is); size = grind (arith, nat_tests, is) }

-- What laying the run asks for.
pub record MayLay (d : Draft) (files : Files) : Type 0 where
  pub below : d.ino < length files.sizes
  pub room : 3 ≤ spare_in files d.ino
  pub in_file : d.file_block + d.count < 2 ^ 32
  pub in_staging : d.staging_block + d.count < 2 ^ 32
  pub small : d.size ≤ LONGEST_FILE

pub may_lay : (k : View) (job : FilledView) (has : HasJob k job) (files : Files) → has.kept.files ≡ files → MayLay job.draft files
may_lay k job has files files_are =
    subst (MayLay job.draft) files_are (subst (λ (d : Draft). MayLay d has.kept.files) (draft_is k job has) (record {
      below = omega (arith, below k job has, has.stands.sizes.count);
      room = subst (λ (d : Draft). 3 ≤ spare_in has.kept.files d.ino) (sym (split k job has).draft) (has.stands.spare has.p has.out.there);
      in_file = omega (arith, fits.in_file);
      in_staging = omega (arith, fits.in_staging);
      small = fits.size;
    })) where
      fits : Ranges (split k job has).j.draft
      fits = ranges (split k job has).j.draft (stood k job has).draft

-- What moving the offset asks for.
pub may_move_by : (k : View) (job : FilledView) (t : Tables) (files : Files) (call : Call) (who : Who) → CanFinish k job t files call → who ≡ job.who → CanMoveBy t files who call
may_move_by k job t files call who can same =
    subst (λ (w : Who). CanMoveBy t files w call) (sym (same ∙ can.0.out.who))
    (subst (CanMoveBy t files can.0.p.who) can.1.call_is
    (subst (λ (f : Files). CanMoveBy t f can.0.p.who can.0.p.call) can.1.files_are
    (subst (λ (u : Tables). CanMoveBy u can.0.kept.files can.0.p.who can.0.p.call) can.1.tables (may_move k job can.0))))

-- WHAT A FINISH LEAVES
pub finish_lands : (k l : View) (job : FilledView) (t u : Tables) (files new : Files) (call : Call) (slot : ℕ) → HoldWords job.loans job.words → ComeBack job.loans k.cells l.cells → l ≡ record k { cells = l.cells } → IsInOrder l
    → u ≡ moved_by t files job.who call → ChangesFile job.draft.ino (runs_in files job.draft.ino ++ run_of job.draft ∷ []) job.draft.size files new
    → (has : HasJob k job) → HasWrite k job t files call has → HasLanded k job has slot l u new
finish_lands k l job t u files new call slot hold back same order moved lays has write =
    lands k job has l.cells u new slot hold back (subst IsInOrder same order)
    (moved ∙ (λ i. moved_by (sym write.tables i) (sym write.files_are i) (has.out.who i) (sym write.call_is i)))
    (subst (λ (d : Draft). ChangesFile d.ino (runs_in has.kept.files d.ino ++ run_of d ∷ []) d.size has.kept.files new) has.out.draft
    (subst (λ (f : Files). ChangesFile job.draft.ino (runs_in f job.draft.ino ++ run_of job.draft ∷ []) job.draft.size f new) (sym write.files_are) lays))
    l same
