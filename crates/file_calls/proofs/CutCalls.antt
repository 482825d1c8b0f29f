-- An `open` that cuts the file that is there, of which nothing is staged.
use Rattle.std.specs.Prelude.{◌≡◌, ◌≤◌, ◌<◌, ◌+◌, ℕ, true, false, List, [], ◌∷◌, length, map, Some, None, Result, Ok, Err, refl}
use Rattle.std.proofs.Common.{arith, ap, ◌∙◌, sym, inr}
use Rattle.live_step_laws.specs.world_image_laws.Settings.{keeps_setting}
use Rattle.eof_laws.specs.pm_model.Powers.{Supply}
use Rattle.layout_model.specs.declared.lines.Draft.{Draft}
use Rattle.eof_laws.specs.layout_model.Places.{Geometry, reserve}
use Rattle.layout_model.specs.declared.lines.Kind.TheVariants.{File}
use Rattle.eof_laws.specs.image_model.Room.{unused_blocks}
use Rattle.eof_laws.specs.image_model.Volume.{inode, Volume}
use Rattle.live_step_laws.specs.posix_laws.Orders.{AreOrdered-step_of}
use Rattle.eof_laws.specs.file_table.Files.{ChangesFile, Files, runs_in, spare_in}
use Rattle.eof_laws.specs.volume_laws.Changes.{inode-set_same}
use Rattle.live_step_laws.specs.k_map_plans.Plans.{IsLiveFile}
use Rattle.live_step_laws.specs.k_plans.Whole.{IsWhole}
use Rattle.eof_laws.specs.k_split_model.Spaces.{volume_space}
use Rattle.eof_laws.specs.k_split_model.View.{View}
use Rattle.live_step_laws.specs.k_split.declared.faults.KFault.{KFault}
use Rattle.live_step_laws.specs.k_split.Answers.{IsDone, IsPaid}
use Rattle.live_step_laws.specs.k_split.Looks.{IsFound}
use Rattle.live_step_laws.specs.k_split.MapChanges.{IsSizeAnswer}
use Rattle.eof_laws.specs.k_split_model.MapChangesChanges.{with_size}
use Rattle.eof_laws.specs.k_split_model.Taken.{with_map}
use Rattle.live_step_laws.specs.live_model.Overlays.{run_of}
use Rattle.posix_types.specs.declared.call.Call.{Call}
use Rattle.posix_types.specs.declared.call.Who.{Who}
use Rattle.posix_types.specs.declared.handle.Flags.{Flags}
use Rattle.posix_types.specs.declared.handle.Handle.{Handle}
use Rattle.posix_types.specs.declared.reply.Reply.{Reply}
use Rattle.open_files.specs.posix_tables.NameRows.{open_rows}
use Rattle.open_files.specs.posix_tables.Open.{free_descriptor, is_full, Tables, with_opened}
use Rattle.open_files.specs.posix_tables.Outcomes.{answer, first}
use Rattle.open_files.specs.posix_spec.Run.{after_call, run}
use Rattle.open_files.specs.posix_spec.State.{alone, State}
use Rattle.open_files.specs.posix_spec.Step.{open_done}
use Rattle.live_step_laws.specs.world_model.Jobs.{live_claims}
use Rattle.live_step_laws.specs.world_model.Stands.{entries_of, is_used}
use Rattle.live_step_laws.specs.world_model.TreeRules.{used_below}
use Rattle.live_step_laws.specs.world_step_laws.Steps.{LetsJobsBe}
use Rattle.live_step_laws.specs.k_split_laws.Cuts.{cut_kind, cuts_as_answer}
use Rattle.live_step_laws.specs.k_split_laws.DeviceSteps.{steps_cut}
use Rattle.live_step_laws.specs.k_split_laws.Going.{IsStep}
use Rattle.live_step_laws.specs.k_split_laws.Laws.{cut_to_nothing}
use Rattle.live_step_laws.specs.live_model.Standing.{Kept}
use Rattle.live_step_laws.proofs.Cleared.{left_cleared}
use Rattle.live_step_laws.proofs.Standing.{stands_on}
use Rattle.file_calls.specs.Answers.{Answers, IsEnded, told_of}
use Rattle.file_calls.specs.Runs.{RunsAs, RunsInSome, with_files}
use Rattle.file_calls.specs.declared.names.outcomes.Told.{Told}
use Rattle.file_calls.proofs.NameCalls.{took}
use Rattle.file_calls.proofs.OpenCalls.{files_opened, full_there, next_there, open_step, opened_tables, opening_of}
use Rattle.file_calls.proofs.Running.{fault_ended, leads_end, loses_cut}

-- While calls run, the reserve is there: a change of a map finds the blocks that it asks for.
pub has_reserve : (k : View) (t : Tables) (fs : Files) → RunsInSome k t fs → reserve k.volume.geometry ≤ unused_blocks k.volume + 3
has_reserve k t fs some =
    let free = some.runs.flying.device.room.free in
    omega (arith, free)

pub live_file : (k : View) (ino : ℕ) → (inode k.volume ino).kind ≡ File → IsLiveFile ino k.volume
live_file k ino file = record { below = used_below k.volume ino (ap is_used file); file = file }

none_mapped : (ds : List Draft) → [] ≡ map run_of ds → ds ≡ []
none_mapped [] is = refl
none_mapped (d ∷ ds) is = let never : [] ≡ run_of d ∷ map run_of ds = is in cc

-- nothing of a file is live of which nothing is staged
nothing_live : (g : Geometry) (k : View) (t : Tables) (x : Kept) (n : ℕ) (s : State) (ino : ℕ) → RunsAs g k t x n s → (inode k.volume ino).kind ≡ File → runs_in x.files ino ≡ [] → entries_of ino (live_claims k.volume x.claims) ≡ []
nothing_live g k t x n s ino runs file bare = none_mapped (entries_of ino (live_claims k.volume x.claims)) (sym bare ∙ (runs.flying.overlays ino file).runs_are)

module _ (who : Who) (h : Handle) (p : List (List ℕ)) (f : Flags) (k : View) (t : Tables) (fs : Files) (ino : ℕ) (whole : IsWhole k.volume) (found : IsFound k.volume p (Ok ino)) (file : (inode k.volume ino).kind ≡ File) (cuts : f.truncate ≡ true)
    (bare : runs_in fs ino ≡ []) (none : first (open_rows (volume_space k.volume) (is_full t) false p f) ≡ None) where
  below : ino < length k.volume.inodes
  below = used_below k.volume ino (ap is_used file)

  cut_step : (w : Volume) → IsWhole w → w ≡ cut_to_nothing ino k.volume → (g : Geometry) (x : Kept) (n : ℕ) (s : State) → (runs : RunsAs g k t (with_files x fs) n s) → LetsJobsBe s (who, Call.Open h p f) runs.numbers runs.jobs
      → IsStep (Some ino) k.volume w x.claims runs.jobs runs.numbers runs.numbers s (after_call s (who, Call.Open h p f)) runs.count runs.count
  cut_step w whole_after is g x n s runs lets =
      steps_cut k.volume k.cells x.claims runs.jobs runs.numbers s runs.count who h p f ino w runs.flying.device lets
      (ap (λ full. first (open_rows (volume_space k.volume) full false p f)) (full_there g k t (with_files x fs) n s runs) ∙ none) cuts found.1 file
      (nothing_live g k t (with_files x fs) n s ino runs file bare) below whole whole_after is

  -- each inode is of the kind that it was
  same_kind : (w : Volume) → w ≡ cut_to_nothing ino k.volume → (i : ℕ) → (inode k.volume i).kind ≡ File → (inode w i).kind ≡ File
  same_kind w is i was = ap (λ y. (inode y i).kind) is ∙ (cut_kind k.volume ino below i ∙ was)

  -- it has no bytes
  empty : (w : Volume) → w ≡ cut_to_nothing ino k.volume → (inode w ino).size ≡ 0
  empty w is = ap (λ y. (inode y ino).size) is ∙ ap (λ y. y.size) (inode-set_same ino (with_map [] [] (with_size 0 (inode k.volume ino))) [] [] k.volume below)

  -- it is cut and opened
  pub cut_ended : (k2 : View) (t2 : Tables) (f2 : Files) (fd : ℕ) (old new : Supply) → (let r : Result (Unit {0}) KFault = Ok tt in IsSizeAnswer ino 0 k k2 r × IsPaid None old new r)
      → free_descriptor t ≡ Some fd → t2 ≡ with_opened t who h (opening_of ino f) → ChangesFile ino [] 0 fs f2 → spare_in fs ino ≤ spare_in f2 ino → length fs.sizes ≡ length k.volume.inodes
      → IsEnded who (Call.Open h p f) k t fs k2 t2 f2 old new (Ok (Told.Answered (answer (Reply.Fd fd))))
  unfolding open_done
  cut_ended k2 t2 f2 fd old new is free t2_is cleared spare lines = let taken = took {T = Unit {0}} None old new tt refl is.1 in (answers, taken.0, λ g x n s runs. inr taken.1) where
    cut_is : (k2.volume ≡ cut_to_nothing ino k.volume) × IsDone k k2
    cut_is = let whole_is = cuts_as_answer ino k k2 (Ok tt) whole.maps below is.0 in (whole_is.1, whole_is.2)

    answers : Answers who (Call.Open h p f) k t fs k2 t2 f2 (answer (Reply.Fd fd))
    answers g x n s small runs lets = (
      (stands_on g k k2 t t2 (with_files x fs) f2 true n (n + 1) s (after_call s (who, Call.Open h p f)) runs.numbers runs.count (Some ino) runs cut_is.1
          (cut_step k2.volume cut_is.1.order.whole cut_is.0 g x n s runs lets) (keeps_setting s (who, Call.Open h p f)).mode (omega (arith, runs.few)) (omega arith) (opened_tables who h p f k t fs ino found t2 none t2_is g x n s runs)
          (files_opened k2 t t2 who h ino f t2_is (λ i there. same_kind k2.volume cut_is.0 i (runs.open_are_files i there)) (same_kind k2.volume cut_is.0 ino file)) (AreOrdered-step_of alone s who (Call.Open h p f) runs.ordered)
          (left_cleared k2.volume ino fs f2 cleared spare (omega (arith, below, lines)) (empty k2.volume cut_is.0))).0,
      ap (λ y. y.outcome) (open_step who h p f k t none g (with_files x fs) n s runs) ∙ ap (λ i. answer (Reply.Fd i)) (next_there g k t (with_files x fs) n s runs fd free),
    )

  pub cut_fault : (k2 : View) (old new : Supply) (fault : KFault) → (let r : Result (Unit {0}) KFault = Err fault in IsSizeAnswer ino 0 k k2 r × IsPaid None old new r)
      → IsEnded who (Call.Open h p f) k t fs k2 t fs old new (told_of fault)
  cut_fault k2 old new fault is =
      fault_ended None (λ (done : Unit {0}) w. w ≡ cut_to_nothing ino k.volume) who (Call.Open h p f) k k2 t fs old new fault (λ o row_is g x n s runs. (let never : None ≡ Some o = row_is in cc))
      (λ done w row_is made_is cut. loses_cut who (Call.Open h p f) k k2 t fs w cut (λ g x n start history small runs lets. record {
        touched = Some ino;
        after = runs.numbers;
        next = after_call (run start history) (who, Call.Open h p f);
        later = runs.count;
        is_step = cut_step w cut.whole made_is g x n (run start history) runs lets;
        leads = leads_end g k t (with_files x fs) n start history who (Call.Open h p f) runs lets refl;
      }))
      (cuts_as_answer ino k k2 (Err fault) whole.maps below is.0, is.1)
