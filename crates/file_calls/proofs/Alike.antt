-- How a call ends in each mode that leaves K-Split and what is kept of files as they are.
use Rattle.std.specs.Prelude.{◌≡◌, ℕ, true, Result, Ok, refl}
use Rattle.std.proofs.Common.{sym, subst, inl}
use Rattle.eof_laws.specs.pm_model.Powers.{is_on, Supply}
use Rattle.eof_laws.specs.file_table.Files.{Files}
use Rattle.eof_laws.specs.k_split_model.View.{View}
use Rattle.live_step_laws.specs.live_model.staging_files.Keeps.{Staged}
use Rattle.live_step_laws.specs.world_step_laws.Worlds.{IsIdle}
use Rattle.posix_types.specs.declared.call.Call.{Call}
use Rattle.posix_types.specs.declared.call.Who.{Who}
use Rattle.posix_types.specs.declared.item.Item.{Item}
use Rattle.posix_types.specs.declared.item.Outcome.{Outcome}
use Rattle.open_files.specs.posix_tables.Open.{is_open, Tables}
use Rattle.open_files.specs.posix_spec.State.{State}
use Rattle.open_files.specs.posix_spec.Step.{step}
use Rattle.batch_laws.specs.Changes.{PutsNone}
use Rattle.batch_laws.specs.Quiet.{IsQuiet}
use Rattle.batch_laws.specs.QuietLaws.{quiet_puts_none}
use Rattle.file_calls.specs.Answers.{Answers, IsEnded}
use Rattle.file_calls.specs.Gathers.{IsGatheredEnd, IsItemOf}
use Rattle.file_calls.specs.Runs.{with_files}
use Rattle.file_calls.specs.declared.names.outcomes.NoMemory.{NoMemory}
use Rattle.file_calls.specs.declared.names.outcomes.Told.{Told}
use Rattle.file_calls.proofs.Running.{idle_on, nothing_ended}
use Rattle.file_calls.proofs.Seen.{IsSeenAs, nothing_gathered, runs_seen, still_gathered, StepsStill}
use Rattle.file_calls.proofs.Trees.{tree_still}

-- THE CALL ENDS SO IN EACH MODE, with these tables: K-Split and what is kept of files stay, and it takes no step.
pub record EndsAlike (who : Who) (call : Call) (k : View) (t t2 : Tables) (f : Files) (result : Result Told NoMemory) : Type 0 where
  pub ended : (power : Supply) → is_on power ≡ true → IsEnded who call k t f k t2 f power power result
  pub gathers : (a : Staged) (power : Supply) → is_on power ≡ true → IsGatheredEnd who call k t a f k t2 a f power power result

module _ (who : Who) (call : Call) (k : View) (t : Tables) (f : Files) (o : Outcome) where
  -- its step leaves the state
  pub stays_alike : ((s : State) (item : Item) → IsSeenAs k t f s → IsItemOf who call o item → PutsNone s item) → ((s : State) → IsSeenAs k t f s → step s who call ≡ record { state = s; outcome = o })
      → EndsAlike who call k t t f (Ok (Told.Answered o))
  stays_alike puts stays = record {
    ended = λ power on. nothing_ended who call k k t f o power power refl on (λ g x n s runs. stays s (runs_seen g k t (with_files x f) n s runs));
    gathers = λ a power on. (nothing_gathered who call k t a f o puts stays, on);
  }

  quiet_item : ((s : State) → IsQuiet s call) → (s : State) (item : Item) → IsItemOf who call o item → PutsNone s item
  quiet_item quiet s item item_is = quiet_puts_none s item (subst (IsQuiet s) (sym item_is.1) (quiet s))

  -- it is a call that puts nothing anyhow
  pub looks_alike : ((s : State) → IsQuiet s call) → ((s : State) → IsSeenAs k t f s → step s who call ≡ record { state = s; outcome = o }) → EndsAlike who call k t t f (Ok (Told.Answered o))
  looks_alike quiet = stays_alike (λ s item seen. quiet_item quiet s item)

  -- it changes the tables alone, and opens nothing
  module _ (t2 : Tables) (idle : IsIdle call) (quiet : (s : State) → IsQuiet s call) (was_open : (i : ℕ) → is_open t2 i ≡ true → is_open t i ≡ true)
      (steps : (s : State) → (seen : IsSeenAs k t f s) → StepsStill who call t2 seen.numbers s o) where
    tables_answers : Answers who call k t f k t2 f o
    tables_answers g x n s small runs lets =
        let is = steps s (runs_seen g k t (with_files x f) n s runs) in
        (idle_on g k t t2 (with_files x f) n s who call runs idle lets is.tables (λ i there. runs.open_are_files i (was_open i there)), is.outcome_is)

    pub tables_alike : EndsAlike who call k t t2 f (Ok (Told.Answered o))
    tables_alike = record {
      ended = λ power on. (
        tables_answers,
        on,
        λ g x n s runs. (let is = steps s (runs_seen g k t (with_files x f) n s runs) in inl (tree_still s (step s who call).state is.nodes is.entries)),
      );
      gathers = λ a power on. (
        still_gathered who call k t t2 a f o (λ s item seen item_is same. quiet_item quiet s item item_is) (λ i there files. files i (was_open i there)) (λ s seen within. steps s seen),
        on,
      );
    }
