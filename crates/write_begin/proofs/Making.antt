-- What the parts of a job ask for.
use Rattle.std.specs.Prelude.{◌≡◌, ◌≤◌, ◌<◌, ◌+◌, ◌-◌, ◌*◌, ◌/◌, ◌^◌, ℕ, true, Contains, List, length}
use Rattle.std.proofs.Common.{arith, ap, ◌∙◌, sym, subst}
use Rattle.std.proofs.lemmas.Bool.Decides.{nat_tests}
use Rattle.write_jobs.specs.pm_model.Cells.{is_single}
use Rattle.write_jobs.specs.pm_model.ImageLaws.{IsImage-words_of}
use Rattle.write_jobs.specs.pm_model.Images.{words_of}
use Rattle.write_jobs.specs.pm_model.Parts.{Part}
use Rattle.write_jobs.specs.layout_model.Journal.{journaled}
use Rattle.write_jobs.specs.layout_model.declared.lines.Draft.{Draft}
use Rattle.write_jobs.specs.layout_model.block_counts.declared.TheConstants.{LONGEST_FILE}
use Rattle.write_jobs.specs.image_model.Volume.{inode, Volume}
use Rattle.write_jobs.specs.extent_model.Extents.{is_within}
use Rattle.live_step_laws.specs.file_reads.Reads.{FileCanBeRead}
use Rattle.live_step_laws.specs.file_table.Files.{Files, runs_in}
use Rattle.posix_laws.proofs.ByteLaws.{length-resized}
use Rattle.write_jobs.specs.k_map_plans.Plans.{IsStagingFile}
use Rattle.write_jobs.specs.k_split_model.View.{View}
use Rattle.posix_types.specs.declared.call.Who.{Who}
use Rattle.posix_tables.specs.Bytes.{overwritten}
use Rattle.live_step_laws.specs.staging_files.declared.runs.StageRun.{StageRun}
use Rattle.live_step_laws.specs.staging_files.Keeps.{given_to, IsAtHome, IsPlaced}
use Rattle.live_step_laws.proofs.staging_files_proofs.GiveUpLaws.{staging-file}
use Rattle.write_jobs.specs.volume_laws.OwnerLaws.{IsOnePlace, one_owner}
use Rattle.write_jobs.specs.world_model.Lent.{once_named}
use Rattle.write_jobs.specs.world_model.TreeRules.{used_below}
use Rattle.write_jobs.specs.world_model.Jobs.{live_claims}
use Rattle.write_jobs.specs.world_model.Stands.{is_used, IsSane}
use Rattle.write_jobs.specs.world_step_laws.Worlds.{IsWorld}
use Rattle.write_jobs.specs.Loans.{AreLoansOf, MayLendAll}
use Rattle.write_plan.specs.declared.asks.asking.Target.{Target}
use Rattle.write_plan.specs.Drafts.{draft_in, DraftsAreNext, IsNextEntry, order_behind}
use Rattle.write_plan.specs.eof_laws.block_io.Overwrites.{blocks_reached}
use Rattle.write_jobs.specs.Contents.{SpellBytes}
use Rattle.write_jobs.specs.Jobs.{AreOfEntry, AreSingle, loan_at}
use Rattle.write_plan.specs.Words.{old_in, staged_in, StandsReadable}
use Rattle.live_step_laws.specs.live_model.Standing.{Kept}
use Rattle.write_begin.specs.Stages.{Ready, with_parts}

within_from : (first count i : ℕ) → i < count → is_within first count (first + i) ≡ true
within_from first count i below = grind (arith, nat_tests)

few_staged : (start len : ℕ) → 1 ≤ len → len ≤ 131072 → (1 ≤ blocks_reached start len) × (blocks_reached start len ≤ 33) × (start + len ≤ 4096 * (start / 4096 + blocks_reached start len))
few_staged start len some most = (omega (arith, some), omega (arith, most), omega (arith, some))

small_start : (start len : ℕ) → start + len ≤ LONGEST_FILE → start + len ≤ 16777216
small_start start len fits = omega (arith, fits)

module _ (k : View) (files : Files) (who : Who) (target : Target) (x : List ℕ) (run : StageRun) (ready : Ready k files who target x run) where
  abbrev pub v : Volume
  v = k.volume

  abbrev pub live : List Draft
  live = live_claims k.volume ready.kept.claims

  abbrev pub draft : Draft
  draft = draft_in k.volume files target (length x) run

  abbrev pub kept_is : Kept
  kept_is = with_parts ready.kept ready.staging files

  pub world_now : IsWorld k.volume ready.kept.claims ready.stands.jobs (journaled (words_of k.cells)) ready.stands.numbers ready.s ready.stands.count
  world_now = ready.stands.flying.device.world (words_of k.cells) (IsImage-words_of k.cells)

  pub sane : IsSane k.volume
  sane = world_now.valid.stands.sane

  pub below_inodes : target.ino < length k.volume.inodes
  below_inodes = used_below k.volume target.ino (ap is_used ready.file)

  pub below_lines : target.ino < length files.sizes
  below_lines = let count = ready.stands.sizes.count in omega (arith, below_inodes, count)

  pub placed : IsPlaced ready.staging run
  placed = by ready.has_run.out where
    by : Contains ready.staging.out run → IsPlaced ready.staging run
    by (i, below, is) = subst (IsPlaced ready.staging) is (ready.stands.staged.placed i run below)

  pub staging_file : IsStagingFile run.staging k.volume
  staging_file = staging-file k.volume run.staging ready.stands.order.whole placed.staging

  pub count_is : run.count ≡ blocks_reached target.start (length x)
  count_is = ready.has_run.count_is

  pub few : (1 ≤ run.count) × (run.count ≤ 33) × (target.start + length x ≤ 4096 * (target.start / 4096 + run.count))
  few =
      let all = few_staged target.start (length x) ready.has_run.some ready.has_run.most in
      (omega (arith, all.0, count_is), omega (arith, all.1, count_is), subst (λ n. target.start + length x ≤ 4096 * (target.start / 4096 + n)) (sym count_is) all.2)

  pub in_staging : run.block + run.count ≤ 64
  in_staging =
      let inside = placed.inside in
      let least = placed.staging.least in
      let most = placed.staging.most in
      let all : given_to ready.staging run.staging ≤ 64 = ready.stands.staged.most (run.staging - 1) 0 (omega (arith, ready.stands.staged.files, least, most)) in
      omega (arith, inside, all)

  -- ---- the entry

  pub next : DraftsAreNext → IsNextEntry k.volume ready.kept.claims draft
  next law = law ready.g k ready.t kept_is true ready.n ready.s target (length x) run ready.stands ready.few ready.file ready.has_run

  pub small_order : DraftsAreNext → order_behind (inode k.volume target.ino).applied (runs_in files target.ino) < 2 ^ 64
  small_order law =
      let order = (next law).order in
      let low = ready.stands.low target.ino in
      let last = ready.few in
      omega (arith, order, low, last)

  -- ---- the words

  pub readable : StandsReadable → FileCanBeRead k.volume k.cells (runs_in files target.ino) target.ino
  readable law = law ready.g k ready.t kept_is true ready.n ready.s target.ino ready.stands ready.file

  pub each_word : (words : List ℕ) → SpellBytes words (staged_in k files target.ino target.start run.count x) → length words ≡ 512 * run.count
  each_word words spell = let size = length-resized (overwritten (old_in k files target.ino target.start run.count) (target.start - 4096 * (target.start / 4096)) x) (4096 * run.count) in let count = spell.count in omega (arith, count, size)

  -- ---- the blocks

  at_home : (n : ℕ) → n < run.count → IsAtHome k run.staging (run.block + n)
  at_home n below = ready.there (run.block + n) (within_from run.block run.count n below)

  pub may_lend : MayLendAll k.volume k.cells draft
  may_lend = record {
    may = λ n below. (
        let home = at_home n below in (
          home.disk,
          record {
            least = placed.staging.least;
            most = placed.staging.most;
            at = home.at;
            single = λ i word. ready.single (run.block + n) (within_from run.block run.count n below) home.disk i home.at word;
          },
        ));
    apart = λ m n b m_below n_below first second.
        let place : IsOnePlace run.staging run.staging (run.block + m) (run.block + n) =
        one_owner k.volume b run.staging run.staging (run.block + m) (run.block + n) (once_named k.volume sane run.staging (run.block + m) b staging_file.below first) staging_file.below staging_file.below first second in
        omega (arith, place.place);
  }

  pub are_single : (loans : List Part) → AreLoansOf k.volume draft k.cells run.count loans → AreSingle loans
  are_single loans are n j below word =
      let within : n < run.count = omega (arith, below, are.count_is) in
      let place : ℕ = (loan_at loans n).place in
      ap is_single (are.words n j within word)
      ∙ ready.single (run.block + n) (within_from run.block run.count n within) place (512 * place + j) (are.places n within) (omega (arith, word))

  pub of_entry : (loans : List Part) (words : List ℕ) → AreLoansOf k.volume draft k.cells run.count loans → SpellBytes words (staged_in k files target.ino target.start run.count x) → AreOfEntry draft loans words
  of_entry loans words are spell = record { few = few.1; each_loan = are.count_is; each_word = each_word words spell }
