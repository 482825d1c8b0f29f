-- Calls of two changes: a file loses its name, or its last descriptor; then it goes, where it has neither.
use Rattle.std.specs.Prelude.{◌≡◌, ◌≢◌, ◌⊎◌, ◌≤◌, ◌<◌, ◌+◌, ℕ, Bool, true, false, if◌then◌else◌, List, [], ◌∷◌, length, Option, Some, None, Result, Ok, Err, IsTrue, ◌↔◌, refl}
use Rattle.std.proofs.Common.{arith, ap, ◌∙◌, sym, subst, inl, inr}
use Rattle.std.proofs.lemmas.List.{length-set}
use Rattle.live_step_laws.specs.world_image_laws.Settings.{keeps_setting, keeps_swept, setting_run}
use Rattle.eof_laws.specs.pm_model.Images.{words_of}
use Rattle.eof_laws.specs.pm_model.Powers.{is_on, Steps, Supply}
use Rattle.eof_laws.specs.layout_model.Journal.{journaled}
use Rattle.eof_laws.specs.layout_model.Places.{Geometry}
use Rattle.layout_model.specs.declared.lines.Kind.TheVariants.{File}
use Rattle.layout_model.specs.Lines.{NameRow}
use Rattle.layout_model.specs.Names.{is_child, names_of, row as row_at}
use Rattle.layout_model.specs.TableLaws.{is_child-parts}
use Rattle.eof_laws.specs.image_model.Live.{is_directory}
use Rattle.eof_laws.specs.image_model.Volume.{inode, Volume}
use Rattle.live_step_laws.specs.posix_laws.Orders.{AreOrdered, renamed_ordered, unnamed_ordered}
use Rattle.eof_laws.specs.file_table.Files.{ChangesFile, Files, spare_in}
use Rattle.eof_laws.specs.volume_laws.Lists.{count_by-some}
use Rattle.live_step_laws.specs.volume_change_laws.Changes.{MayDrop}
use Rattle.live_step_laws.specs.volume_change_laws.FrameLaws.{dropped-inode, dropped-others}
use Rattle.eof_laws.specs.k_journal.Commits.{TakesAStep}
use Rattle.live_step_laws.specs.k_plans.Removing.{IsUnlinked}
use Rattle.live_step_laws.specs.k_plans.Renaming.{IsRenamed, renamed_over}
use Rattle.live_step_laws.specs.volume_change_laws.CallLaws.{row_to}
use Rattle.live_step_laws.specs.k_tables.declared.tables.removing.Entry.{Entry}
use Rattle.eof_laws.specs.k_split_model.Spaces.{is_directory_in}
use Rattle.live_step_laws.specs.world_image_laws.Images.{StandsFor}
use Rattle.eof_laws.specs.k_split_model.ChangesChanges.{dropped, gone_node, renamed_over_directory, renamed_over_file}
use Rattle.eof_laws.specs.k_split_model.View.{View}
use Rattle.live_step_laws.specs.k_split.declared.faults.KFault.{KFault}
use Rattle.live_step_laws.specs.k_split.Answers.{IsAnswer, IsDone, IsPaid}
use Rattle.live_step_laws.specs.k_split.Names.{IsDropAnswer, IsRenameAnswer, IsUnlinkAnswer, rename_row, unlink_row}
use Rattle.live_step_laws.proofs.k_split_laws_proofs.Cuts.{left_through}
use Rattle.live_step_laws.specs.k_split_laws.Left.{IsLeftOf}
use Rattle.live_step_laws.specs.open_files.Numbered.{IsTold}
use Rattle.live_step_laws.proofs.open_files_proofs.Lookups.{same_open}
use Rattle.eof_laws.specs.layout_model.Spelling.{AreSpelled}
use Rattle.posix_types.specs.declared.call.Call.{Call}
use Rattle.posix_types.specs.declared.call.Mode.{Mode}
use Rattle.posix_types.specs.declared.call.Who.{Who}
use Rattle.posix_types.specs.declared.item.Item.{Item}
use Rattle.posix_types.specs.declared.item.Outcome.{Outcome}
use Rattle.posix_types.specs.declared.reply.Errno.{Errno}
use Rattle.posix_types.specs.declared.reply.Reply.{Reply}
use Rattle.open_files.specs.posix_tables.Names.{is_named}
use Rattle.open_files.specs.posix_tables.Open.{is_open, Tables}
use Rattle.open_files.specs.posix_tables.Outcomes.{answer}
use Rattle.open_files.specs.posix_spec.Run.{after_call, run}
use Rattle.open_files.specs.posix_spec.State.{alone, State, swept, unnamed as unnamed_state}
use Rattle.open_files.specs.posix_spec.Tree.{tree}
use Rattle.live_step_laws.specs.commute_laws.Commutes.{takes}
use Rattle.live_step_laws.specs.world_model.Jobs.{Job, live_claims}
use Rattle.live_step_laws.specs.world_model.Stands.{is_used, number}
use Rattle.live_step_laws.specs.world_image_laws.Back.{IsKeptBack}
use Rattle.live_step_laws.specs.world_image_laws.LentLaws.{LeadsTo}
use Rattle.live_step_laws.specs.world_step_laws.RemoveCalls.{swept-named, swept-open}
use Rattle.live_step_laws.specs.k_split_laws.DeviceSteps.{renames_over_file, state_unlink, steps_dropped, steps_rename, steps_unlinked, tree_of_rename, tree_of_unlink, unlinks_file}
use Rattle.live_step_laws.specs.k_split_laws.Done.{keeps_image_between, keeps_image_cut, same_blocks}
use Rattle.live_step_laws.specs.k_split_laws.Ends.{not_root_number}
use Rattle.live_step_laws.specs.k_split_laws.Going.{gone_by, IsStep, moved_so_far}
use Rattle.live_step_laws.specs.k_split_laws.Sweeps.{leads_swept}
use Rattle.live_step_laws.specs.live_model.Losses.{KeepsWhenLost}
use Rattle.live_step_laws.specs.live_model.Standing.{Kept, StandsAt}
use Rattle.live_step_laws.specs.world_step_laws.Nameless.{named-row}
use Rattle.live_step_laws.specs.world_step_laws.Steps.{LetsJobsBe}
use Rattle.live_step_laws.specs.world_step_laws.Worlds.{IsWorld}
use Rattle.live_step_laws.proofs.Cleared.{left_cleared}
use Rattle.live_step_laws.proofs.Standing.{stands_on}
use Rattle.live_step_laws.specs.StepsLaws.{AreLeft}
use Rattle.file_calls.specs.Answers.{ComesHalfWay, HasSameLoans, IsEnded, IsFileOf, IsHalfWay, IsReplyOf, IsSpent, told_of}
use Rattle.file_calls.specs.Runs.{RunsAs, RunsInSome, with_files}
use Rattle.file_calls.specs.declared.names.outcomes.Told.{Told}
use Rattle.live_step_laws.proofs.Backs.{kept_over}
use Rattle.file_calls.proofs.CallTables.{swept_entries, swept_tables}
use Rattle.file_calls.proofs.NameCalls.{files_renamed, renamed_left, reply_ok, took}
use Rattle.file_calls.proofs.Running.{fault_ended, going, leads_end, leaves_cut, leaves_off, left_alone, loses_cut, row_refuses, two_each, world}

-- the file is open in the state exactly where it is in the open files
pub open_there : (g : Geometry) (k : View) (t : Tables) (x : Kept) (n : ℕ) (s : State) (runs : RunsAs g k t x n s) (ino : ℕ) → (inode k.volume ino).kind ≡ File
    → is_open s.tables (number runs.numbers ino) ≡ is_open t ino
open_there g k t x n s runs ino file =
    ap (λ y. is_open y (number runs.numbers ino)) runs.tables ∙ same_open (number runs.numbers) t ino told where
      told : IsTold (number runs.numbers) t ino
      told other there same = (world g k t x n s runs).valid.stands.names.one other ino (ap is_used (runs.open_are_files other there)) (ap is_used file) same

-- a name of the volume is one of the state
pub named_there : (g : Geometry) (k : View) (t : Tables) (x : Kept) (n : ℕ) (s : State) (runs : RunsAs g k t x n s) (ino : ℕ) → 0 < names_of k.volume.names ino → is_named s.entries (number runs.numbers ino) ≡ true
named_there g k t x n s runs ino some =
    let found = count_by-some (is_child ino) k.volume.names None some in
    let child = is_child-parts ino (row_at k.volume.names found.0) found.2 in
    let here = world g k t x n s runs in
    subst (λ i. is_named s.entries (number runs.numbers i) ≡ true) child.2 (named-row k.volume runs.numbers s found.0 child.0 here.valid.stands.sane here.valid.stands.names child.1)

-- what `named` says
pub no_name : (b : Bool) (n : ℕ) → (IsTrue b ↔ (0 < n)) → b ≡ false → n ≡ 0
no_name true n says is = cc
no_name false n says is = by_order n says where
  by_order : (m : ℕ) → (IsTrue false ↔ (0 < m)) → m ≡ 0
  by_order m says = grind arith

pub some_name : (b : Bool) (n : ℕ) → (IsTrue b ↔ (0 < n)) → b ≡ true → 0 < n
some_name b n says is = says.0 is

-- it is open still: the call has ended
half_open : (g : Geometry) (v : Volume) (k : View) (t : Tables) (x : Kept) (n : ℕ) (jobs : List Job) (end : State) (ino : ℕ) → IsHalfWay g v k t x n jobs end ino → is_open t ino ≡ true → RunsAs g k t x n end
half_open g v k t x n jobs end ino half there =
    subst (RunsAs g k t x n)
    (sym (half.ends ∙ swept-open half.middle (number half.runs.numbers ino) (open_there g k t x n half.middle half.runs ino half.file.is_file ∙ there))) half.runs

-- it has a name still: so it has one in the state, and the call has ended
half_named : (g : Geometry) (v : Volume) (k : View) (t : Tables) (x : Kept) (n : ℕ) (jobs : List Job) (end : State) (ino : ℕ) → IsHalfWay g v k t x n jobs end ino → 0 < names_of k.volume.names ino → RunsAs g k t x n end
half_named g v k t x n jobs end ino half some =
    subst (RunsAs g k t x n) (sym (half.ends ∙ swept-named half.middle (number half.runs.numbers ino) (named_there g k t x n half.middle half.runs ino some))) half.runs

-- where it has none it may be dropped
half_may : (g : Geometry) (v : Volume) (k : View) (t : Tables) (x : Kept) (n : ℕ) (jobs : List Job) (end : State) (ino : ℕ) → IsHalfWay g v k t x n jobs end ino → names_of k.volume.names ino ≡ 0 → MayDrop ino k.volume
half_may g v k t x n jobs end ino half unnamed = record { below = half.file.below; file = half.file.is_file; unnamed = unnamed }

-- the mode is that of its end
same_mode : (s : State) (n : ℕ) → (swept alone s n).mode ≡ s.mode
same_mode s n = (keeps_swept s s n (record { shape = refl; mode = refl })).mode

half_mode : (g : Geometry) (v : Volume) (k : View) (t : Tables) (x : Kept) (n : ℕ) (jobs : List Job) (end : State) (ino : ℕ) → (half : IsHalfWay g v k t x n jobs end ino) → end.mode ≡ half.middle.mode
half_mode g v k t x n jobs end ino half = ap (λ (y : State). y.mode) half.ends ∙ same_mode half.middle (number half.runs.numbers ino)

-- the step that drops it
drop_step : (g : Geometry) (v : Volume) (k : View) (t : Tables) (x : Kept) (n : ℕ) (jobs : List Job) (end : State) (ino : ℕ) (w : Volume) → (half : IsHalfWay g v k t x n jobs end ino) → names_of k.volume.names ino ≡ 0 → is_open t ino ≡ false → w ≡ dropped ino k.volume
    → IsStep (Some ino) k.volume w x.claims half.runs.jobs half.runs.numbers half.runs.numbers half.middle end half.runs.count half.runs.count
drop_step g v k t x n jobs end ino w half unnamed shut w_is =
    subst (λ y. IsStep (Some ino) k.volume y x.claims half.runs.jobs half.runs.numbers half.runs.numbers half.middle end half.runs.count half.runs.count) (sym w_is)
    (subst (λ y. IsStep (Some ino) k.volume (dropped ino k.volume) x.claims half.runs.jobs half.runs.numbers half.runs.numbers half.middle y half.runs.count half.runs.count) (sym half.ends)
    (steps_dropped k.volume k.cells x.claims half.runs.jobs half.runs.numbers half.middle half.runs.count ino half.runs.flying.device (half_may g v k t x n jobs end ino half unnamed)
    (open_there g k t x n half.middle half.runs ino half.file.is_file ∙ shut)))

-- it is dropped, and with it what was kept of it
half_dropped : (g : Geometry) (v : Volume) (k k2 : View) (t : Tables) (x : Kept) (f : Files) (n : ℕ) (jobs : List Job) (end : State) (ino : ℕ) → IsHalfWay g v k t x n jobs end ino → names_of k.volume.names ino ≡ 0 → is_open t ino ≡ false → ChangesFile ino [] 0 x.files f → spare_in x.files ino ≤ spare_in f ino
    → IsDropAnswer ino k k2 (Ok tt) → RunsAs g k2 t (with_files x f) n end
half_dropped g v k k2 t x f n jobs end ino half unnamed shut cleared spare drop =
    (stands_on g k k2 t t x f true n n half.middle end half.runs.numbers half.runs.count (Some ino) half.runs drop.2 (drop_step g v k t x n jobs end ino k2.volume half unnamed shut drop.1) (half_mode g v k t x n jobs end ino half) half.runs.few (omega arith)
    (ap (λ (y : State). y.tables) half.ends ∙ swept_tables half.middle (number half.runs.numbers ino) ∙ half.runs.tables) files
    (subst (λ (y : State). AreOrdered y.entries) (sym half.ends) (subst AreOrdered (sym (swept_entries half.middle (number half.runs.numbers ino))) half.runs.ordered))
    (left_cleared k2.volume ino x.files f cleared spare below empty)).0
  where
    apart : (i : ℕ) → is_open t i ≡ true → i ≢ ino
    apart i there same = let never : true ≡ false = sym there ∙ (ap (is_open t) same ∙ shut) in cc

    files : (i : ℕ) → is_open t i ≡ true → (inode k2.volume i).kind ≡ File
    files i there = ap (λ y. (inode y i).kind) drop.1 ∙ (ap (λ y. y.kind) ((dropped-others ino k.volume).inodes i (apart i there, tt)) ∙ half.runs.open_are_files i there)

    below : ino < length x.files.sizes
    below = omega (arith, half.file.below, half.runs.sizes.count)

    empty : (inode k2.volume ino).size ≡ 0
    empty = ap (λ y. (inode y ino).size) drop.1 ∙ ap (λ y. y.size) (dropped-inode ino k.volume half.file.below)

-- from the state half way the trees are those of the history's state, where those of the end are
leads_half : (g : Geometry) (v : Volume) (k : View) (t : Tables) (x : Kept) (n : ℕ) (jobs : List Job) (start : State) (history : List Item) (who : Who) (call : Call) (ino : ℕ)
    → (half : IsHalfWay g v k t x n jobs (after_call (run start history) (who, call)) ino) → LeadsTo start history (who, call) jobs (after_call (run start history) (who, call)) → LeadsTo start history (who, call) half.runs.jobs half.middle
leads_half g v k t x n jobs start history who call ino half leads =
    let stands = world g k t x n half.middle half.runs in
    leads_swept k.volume x.claims half.runs.jobs (journaled (words_of k.cells)) half.runs.numbers half.middle half.runs.count (number half.runs.numbers ino) start history (who, call) stands
    (not_root_number k.volume x.claims half.runs.jobs (journaled (words_of k.cells)) half.runs.numbers half.middle half.runs.count ino stands (ap is_used half.file.is_file) (ap is_directory half.file.is_file))
    (two_each g k t x n half.middle half.runs)
    (subst (LeadsTo start history (who, call) half.runs.jobs) half.ends (subst (λ js. LeadsTo start history (who, call) js (after_call (run start history) (who, call))) (sym half.jobs_are) leads))

-- the power went in between, or in the second change
half_lost : (g : Geometry) (v : Volume) (k k2 : View) (t : Tables) (x : Kept) (n : ℕ) (jobs : List Job) (start : State) (history : List Item) (who : Who) (call : Call) (ino : ℕ)
    → (half : IsHalfWay g v k t x n jobs (after_call (run start history) (who, call)) ino) → LeadsTo start history (who, call) jobs (after_call (run start history) (who, call)) → names_of k.volume.names ino ≡ 0 → is_open t ino ≡ false
    → IsDropAnswer ino k k2 (Err KFault.PowerLost) → KeepsWhenLost v k2.cells x jobs start history ((who, call) ∷ [])
half_lost g v k k2 t x n jobs start history who call ino half leads unnamed shut drop mode =
    kept_over v k.volume k2.cells x.first x.claims jobs start history ((who, call) ∷ []) half.geometry half.base half.blocks
    (subst (λ js. IsKeptBack k.volume k2.cells x.first x.claims js start history ((who, call) ∷ [])) half.jobs_are (by drop)) where
      middle_leads : LeadsTo start history (who, call) half.runs.jobs half.middle
      middle_leads = leads_half g v k t x n jobs start history who call ino half leads

      end_leads : LeadsTo start history (who, call) half.runs.jobs (after_call (run start history) (who, call))
      end_leads = subst (λ js. LeadsTo start history (who, call) js (after_call (run start history) (who, call))) (sym half.jobs_are) leads

      strict_there : start.mode ≡ Mode.Strict → half.middle.mode ≡ Mode.Strict
      strict_there strict =
          sym (half_mode g v k t x n jobs (after_call (run start history) (who, call)) ino half)
          ∙ ((keeps_setting (run start history) (who, call)).mode ∙ ((setting_run start history).mode ∙ strict))

      by : IsDropAnswer ino k k2 (Err KFault.PowerLost) → IsKeptBack k.volume k2.cells x.first x.claims half.runs.jobs start history ((who, call) ∷ [])
      by (inl off) =
          keeps_image_between k k2 x.claims half.runs.jobs half.runs.numbers half.middle start history half.runs.count (who, call) x.first mode (λ strict. half.runs.flying.whole (strict_there strict))
          (going g k t x n half.middle half.runs) middle_leads off
      by (inr cut) =
          keeps_image_cut (Some ino) k k2 cut.1.1 x.claims half.runs.jobs half.runs.numbers half.runs.numbers half.middle (after_call (run start history) (who, call)) half.runs.count half.runs.count start history (who, call) x.first mode
          (λ strict. half.runs.flying.whole (strict_there strict)) (going g k t x n half.middle half.runs) cut.1.3
          (drop_step g v k t x n jobs (after_call (run start history) (who, call)) ino cut.1.1 half unnamed shut cut.1.2) middle_leads end_leads

-- ---- the ends of a call that came half way, in whatever state it began

module _ (who : Who) (call : Call) (k k1 : View) (t t1 : Tables) (f : Files) (o : Outcome) (ino : ℕ) (old middle : Supply) (half : ComesHalfWay who call k t f k1 t1 ino) (replies : IsReplyOf who call k t f o)
    (spent : IsSpent who call k t f old middle) (on : is_on middle ≡ true) (no_room : (s : State) → takes s (who, call) ≡ 0) (loans : HasSameLoans k k1) where
  pub stays_named : 0 < names_of k1.volume.names ino → IsEnded who call k t f k1 t1 f old middle (Ok (Told.Answered o))
  stays_named some = (
    λ g x n s small runs lets. (half_named g k.volume k1 t1 (with_files x f) (n + 1) runs.jobs (after_call s (who, call)) ino (half g x n s small runs lets) some, replies g x n s runs),
    on,
    spent,
  )

  pub stays_open : is_open t1 ino ≡ true → IsEnded who call k t f k1 t1 f old middle (Ok (Told.Answered o))
  stays_open there = (
    λ g x n s small runs lets. (half_open g k.volume k1 t1 (with_files x f) (n + 1) runs.jobs (after_call s (who, call)) ino (half g x n s small runs lets) there, replies g x n s runs),
    on,
    spent,
  )

  still_spent : (new : Supply) → Steps 256 middle new → IsSpent who call k t f old new
  still_spent new steps g x n s runs = by (spent g x n s runs) where
    by : (tree (after_call s (who, call)) ≡ tree s) ⊎ TakesAStep old middle → (tree (after_call s (who, call)) ≡ tree s) ⊎ TakesAStep old new
    by (inl same) = inl same
    by (inr taken) = inr (λ given is. (let was = taken given is in omega (arith, was, steps.later)))

  -- what was kept of the file goes with it
  pub goes_too : (k2 : View) (f2 : Files) (new : Supply) → names_of k1.volume.names ino ≡ 0 → is_open t1 ino ≡ false → ChangesFile ino [] 0 f f2 → spare_in f ino ≤ spare_in f2 ino → Steps 256 middle new → (let r : Result (Unit {0}) KFault = Ok tt in IsDropAnswer ino k1 k2 r × IsPaid None middle new r)
      → IsEnded who call k t f k2 t1 f2 old new (Ok (Told.Answered o))
  goes_too k2 f2 new unnamed shut cleared spare steps is = (
    λ g x n s small runs lets. (
      half_dropped g k.volume k1 k2 t1 (with_files x f) f2 (n + 1) runs.jobs (after_call s (who, call)) ino (half g x n s small runs lets) unnamed shut cleared spare is.0,
      replies g x n s runs,
    ),
    is.1.0,
    still_spent new steps,
  )

  pub goes_lost : (k2 : View) (t2 : Tables) (f2 : Files) (new : Supply) → names_of k1.volume.names ino ≡ 0 → is_open t1 ino ≡ false → (let r : Result (Unit {0}) KFault = Err KFault.PowerLost in IsDropAnswer ino k1 k2 r × IsPaid None middle new r)
      → IsEnded who call k t f k2 t2 f2 old new (Ok Told.PowerLost)
  goes_lost k2 t2 f2 new unnamed shut is = (
    λ g x n start history small runs lets.
        half_lost g k.volume k1 k2 t1 (with_files x f) (n + 1) runs.jobs start history who call ino (half g x n (run start history) small runs lets)
        (leads_end g k t (with_files x f) n start history who call runs lets (no_room (run start history))) unnamed shut is.0,
    λ g x n s small runs lets. (let there = half g x n s small runs lets in left_through g k.cells k1.cells k2.cells loans.size loans.lent (leaves g x n there.middle there.runs is.0)),
    is.1,
  ) where
    leaves : (g : Geometry) (x : Kept) (n : ℕ) (s : State) → RunsAs g k1 t1 (with_files x f) (n + 1) s → IsDropAnswer ino k1 k2 (Err KFault.PowerLost) → IsLeftOf g k1.cells k2.cells
    leaves g x n s runs (inl off) = leaves_off g k1 k2 t1 (with_files x f) (n + 1) s runs off
    leaves g x n s runs (inr cut) = leaves_cut g k1 k2 t1 (with_files x f) (n + 1) s cut.1.1 runs cut.1.3

-- only the power stops a drop
pub drop_fault : (k k2 : View) (ino : ℕ) (old new : Supply) (fault : KFault) → (let r : Result (Unit {0}) KFault = Err fault in r ≢ Err KFault.NoMemory)
    → (let r : Result (Unit {0}) KFault = Err fault in IsDropAnswer ino k k2 r × IsPaid None old new r)
    → (let r : Result (Unit {0}) KFault = Err KFault.PowerLost in IsDropAnswer ino k k2 r × IsPaid None old new r)
drop_fault k k2 ino old new (KFault.Refused errno) memory is = let never : None ≡ Some (answer (Reply.Error errno)) = is.0.0 in cc
drop_fault k k2 ino old new (KFault.Room room) memory is = let never : None ≡ Some (let o : Outcome = record { reply = Reply.Error Errno.ENOSPC; room = Some room } in o) = is.0.0 in cc
drop_fault k k2 ino old new KFault.PowerLost memory is = is
drop_fault k k2 ino old new KFault.NoMemory memory is = absurd (memory refl)

-- a change that is done lends nothing and takes nothing back
pub loans_done : (k k1 : View) → IsDone k k1 → HasSameLoans k k1
loans_done k k1 done = record { size = done.changes.size; lent = done.changes.lent }

pub loans_same : (k : View) → HasSameLoans k k
loans_same k = record { size = refl; lent = λ i. refl }

-- ---- the state half way

module _ (who : Who) (call : Call) (k k1 : View) (t : Tables) (f : Files) (g : Geometry) (x : Kept) (n : ℕ) (s middle : State) (ino : ℕ) (touched : Option ℕ) (runs : RunsAs g k t (with_files x f) n s) (done : IsDone k k1)
    (a_step : IsStep touched k.volume k1.volume x.claims runs.jobs runs.numbers runs.numbers s middle runs.count runs.count) where
  pub comes : middle.tables ≡ s.tables → ((i : ℕ) → is_open t i ≡ true → (inode k1.volume i).kind ≡ File) → AreOrdered middle.entries → AreLeft touched k1.volume f f → IsFileOf ino k1.volume
      → after_call s (who, call) ≡ swept alone middle (number runs.numbers ino) → tree middle ≡ tree (after_call s (who, call)) → IsHalfWay g k.volume k1 t (with_files x f) (n + 1) runs.jobs (after_call s (who, call)) ino
  comes tables files ordered left file ends tree_is = record {
    geometry = a_step.geometry;
    base = a_step.base;
    blocks = same_blocks k.volume k1.volume (live_claims k.volume x.claims) (journaled (words_of k.cells)) runs.numbers s runs.jobs a_step.staging (world g k t (with_files x f) n s runs).valid.out;
    middle = middle;
    runs = now.0;
    jobs_are = now.1;
    file = file;
    ends = subst (λ ns. after_call s (who, call) ≡ swept alone middle (number ns ino)) (sym now.2) ends;
    tree_is = tree_is;
  } where
    same : middle.mode ≡ s.mode
    same = sym (same_mode middle (number runs.numbers ino)) ∙ (sym (ap (λ (y : State). y.mode) ends) ∙ (keeps_setting s (who, call)).mode)

    now : (y : StandsAt g k1 t (with_files x f) true (n + 1) middle) × (y.jobs ≡ runs.jobs) × (y.numbers ≡ runs.numbers)
    now = stands_on g k k1 t t (with_files x f) f true n (n + 1) s middle runs.numbers runs.count touched runs done a_step same (omega (arith, runs.few)) (omega arith) (tables ∙ runs.tables) files ordered left

-- In a change that is cut off no device of the new volume is at hand but by its words: the World takes the step there, so from the
-- state half way the trees are those of the history's state.
leads_cut : (who : Who) (call : Call) (k : View) (t : Tables) (f : Files) (g : Geometry) (x : Kept) (n : ℕ) (start : State) (history : List Item) (ino : ℕ) (touched : Option ℕ) (w : Volume)
    → (runs : RunsAs g k t (with_files x f) n (run start history)) → LetsJobsBe (run start history) (who, call) runs.numbers runs.jobs → takes (run start history) (who, call) ≡ 0 → {middle : State}
    → IsStep touched k.volume w x.claims runs.jobs runs.numbers runs.numbers (run start history) middle runs.count runs.count → IsFileOf ino w
    → after_call (run start history) (who, call) ≡ swept alone middle (number runs.numbers ino) → LeadsTo start history (who, call) runs.jobs middle
leads_cut who call k t f g x n start history ino touched w runs lets no_room {middle} a_step file ends =
    let after : IsWorld w x.claims runs.jobs (journaled (words_of k.cells)) runs.numbers middle runs.count = a_step.takes (journaled (words_of k.cells)) (world g k t (with_files x f) n (run start history) runs) in
    leads_swept w x.claims runs.jobs (journaled (words_of k.cells)) runs.numbers middle runs.count (number runs.numbers ino) start history (who, call) after
    (not_root_number w x.claims runs.jobs (journaled (words_of k.cells)) runs.numbers middle runs.count ino after (ap is_used file.is_file) (ap is_directory file.is_file))
    (two_each g k t (with_files x f) n (run start history) runs)
    (subst (LeadsTo start history (who, call) runs.jobs) ends (leads_end g k t (with_files x f) n start history who call runs lets no_room))

-- ---- what the second change asks for

module _ (k : View) (t : Tables) (f : Files) (some : RunsInSome k t f) where
  device_there : StandsFor k.volume k.cells some.kept.claims some.runs.jobs some.runs.numbers some.state some.runs.count
  device_there = some.runs.flying.device

  line_there : (w : Volume) (ino : ℕ) → length w.inodes ≡ length k.volume.inodes → IsFileOf ino w → ino < length f.sizes
  line_there w ino same file = omega (arith, same, file.below, some.runs.sizes.count)

-- a file that may be dropped is one
file_of : (ino : ℕ) (v : Volume) → MayDrop ino v → IsFileOf ino v
file_of ino v may = record { below = may.below; is_file = may.file }

pub unlink_file : (p : List (List ℕ)) (k : View) (t : Tables) (f : Files) → RunsInSome k t f → (k1 : View) (ino : ℕ) → IsUnlinkAnswer p k k1 (Ok ino) → IsFileOf ino k1.volume
unlink_file p k t f some k1 ino is = file_of ino k1.volume (unlinks_file k.volume k.cells some.kept.claims some.runs.jobs some.runs.numbers some.state some.runs.count p k1.volume ino (device_there k t f some) is.1)

pub unlink_line : (p : List (List ℕ)) (k : View) (t : Tables) (f : Files) → RunsInSome k t f → (k1 : View) (ino : ℕ) → IsUnlinkAnswer p k k1 (Ok ino) → ino < length f.sizes
unlink_line p k t f some k1 ino is = line_there k t f some k1.volume ino (ap (λ v. length v.inodes) is.1.is_unlinked) (unlink_file p k t f some k1 ino is)

renamed_lines : (p q : List (List ℕ)) (v w : Volume) (lost : Option ℕ) → IsRenamed p q v w lost → length w.inodes ≡ length v.inodes
renamed_lines p q v w lost is = ap (λ x. length x.inodes) is.is_renamed ∙ by is.moving.target where
  row : NameRow
  row = row_to q is.moving.parent is.moving.entry.child

  over : (e : Entry) (b : Bool) → length (if b then renamed_over_directory is.moving.entry.line row e.line e.child v else renamed_over_file is.moving.entry.line row e.line v).inodes ≡ length v.inodes
  over e true = length-set v.inodes e.child (gone_node (inode v e.child))
  over e false = refl

  by : (o : Option Entry) → length (renamed_over is.moving.entry.line row o v).inodes ≡ length v.inodes
  by None = refl
  by (Some e) = over e (is_directory_in v.inodes e.child)

-- a file that lost its name is no idle rename
pub over_file : (p q : List (List ℕ)) (k k1 : View) (ino : ℕ) → IsRenameAnswer p q k k1 (Ok (Some ino)) → IsAnswer (rename_row p q k) (λ l w. IsRenamed p q k.volume w l) k k1 (Ok (Some ino))
over_file p q k k1 ino (inl idle) = let never : Some ino ≡ None = idle.none_lost in cc
over_file p q k k1 ino (inr done) = done

pub rename_file : (p q : List (List ℕ)) (k : View) (t : Tables) (f : Files) → RunsInSome k t f → (k1 : View) (ino : ℕ) → IsRenameAnswer p q k k1 (Ok (Some ino)) → IsFileOf ino k1.volume
rename_file p q k t f some k1 ino answer_is =
    let is = over_file p q k k1 ino answer_is in
    file_of ino k1.volume (renames_over_file k.volume k.cells some.kept.claims some.runs.jobs some.runs.numbers some.state some.runs.count Who.Setup p q k1.volume ino (device_there k t f some) is.0 is.1).0

pub rename_line : (p q : List (List ℕ)) (k : View) (t : Tables) (f : Files) → RunsInSome k t f → (k1 : View) (ino : ℕ) → IsRenameAnswer p q k k1 (Ok (Some ino)) → ino < length f.sizes
rename_line p q k t f some k1 ino answer_is =
    line_there k t f some k1.volume ino (renamed_lines p q k.volume k1.volume (Some ino) (over_file p q k k1 ino answer_is).1) (rename_file p q k t f some k1 ino answer_is)

-- ---- unlink

module _ (who : Who) (p : List (List ℕ)) (k : View) (t : Tables) (f : Files) where
  unlink_step : (w : Volume) (ino : ℕ) → IsUnlinked p k.volume w ino → (g : Geometry) (x : Kept) (n : ℕ) (s : State) → (runs : RunsAs g k t (with_files x f) n s)
      → IsStep None k.volume w x.claims runs.jobs runs.numbers runs.numbers s (unnamed_state s p) runs.count runs.count
  unlink_step w ino is g x n s runs = steps_unlinked k.volume k.cells x.claims runs.jobs runs.numbers s runs.count p w ino runs.flying.device is

  files_unlinked : (w : Volume) (ino : ℕ) → IsUnlinked p k.volume w ino → ((i : ℕ) → is_open t i ≡ true → (inode k.volume i).kind ≡ File) → (i : ℕ) → is_open t i ≡ true → (inode w i).kind ≡ File
  files_unlinked w ino is files i there = ap (λ y. (inode y i).kind) is.is_unlinked ∙ files i there

  pub unlink_half : (k1 : View) (ino : ℕ) → IsUnlinkAnswer p k k1 (Ok ino) → ComesHalfWay who (Call.Unlink p) k t f k1 t ino
  unfolding unnamed_state
  unlink_half k1 ino is g x n s small runs lets =
      comes who (Call.Unlink p) k k1 t f g x n s (unnamed_state s p) ino None runs is.2 (unlink_step k1.volume ino is.1 g x n s runs) refl (files_unlinked k1.volume ino is.1 runs.open_are_files) (unnamed_ordered s p runs.ordered)
      (left_alone k1.volume f) (file_of ino k1.volume (unlinks_file k.volume k.cells x.claims runs.jobs runs.numbers s runs.count p k1.volume ino runs.flying.device is.1))
      (state_unlink k.volume k.cells x.claims runs.jobs runs.numbers s runs.count who p k1.volume ino runs.flying.device is.0 is.1)
      (tree_of_unlink k.volume k.cells x.claims runs.jobs runs.numbers s runs.count who p k1.volume ino runs.flying.device is.0 is.1)

  pub unlink_replies : (k1 : View) (ino : ℕ) → IsUnlinkAnswer p k k1 (Ok ino) → IsReplyOf who (Call.Unlink p) k t f (answer Reply.Ok)
  unlink_replies k1 ino is g x n s runs = reply_ok who (Call.Unlink p) k t g (with_files x f) n s tt is.0 runs

  pub unlink_spent : (k1 : View) (ino : ℕ) (old new : Supply) → (let r : Result ℕ KFault = Ok ino in IsUnlinkAnswer p k k1 r × IsPaid (unlink_row p k) old new r)
      → IsSpent who (Call.Unlink p) k t f old new × (is_on new ≡ true)
  unlink_spent k1 ino old new is = let taken = took (unlink_row p k) old new ino is.0.0 is.1 in (λ g x n s runs. inr taken.1, taken.0)

  -- cut off in the first change: the trees of the state half way are those of the end's
  pub unlink_fault : (k2 : View) (old new : Supply) (fault : KFault) → (let r : Result ℕ KFault = Err fault in IsUnlinkAnswer p k k2 r × IsPaid (unlink_row p k) old new r)
      → IsEnded who (Call.Unlink p) k t f k2 t f old new (told_of fault)
  unlink_fault k2 old new fault is =
      fault_ended (unlink_row p k) (λ ino w. IsUnlinked p k.volume w ino) who (Call.Unlink p) k k2 t f old new fault (λ o row. row_refuses who (Call.Unlink p) k t f o tt row)
      (λ ino w none unlinked_is cut. loses_cut who (Call.Unlink p) k k2 t f w cut (λ g x n start history small runs lets. record {
        touched = None;
        after = runs.numbers;
        next = unnamed_state (run start history) p;
        later = runs.count;
        is_step = unlink_step w ino unlinked_is g x n (run start history) runs;
        leads =
            leads_cut who (Call.Unlink p) k t f g x n start history ino None w runs lets refl (unlink_step w ino unlinked_is g x n (run start history) runs)
            (file_of ino w (unlinks_file k.volume k.cells x.claims runs.jobs runs.numbers (run start history) runs.count p w ino runs.flying.device unlinked_is))
            (state_unlink k.volume k.cells x.claims runs.jobs runs.numbers (run start history) runs.count who p w ino runs.flying.device none unlinked_is);
      }))
      is

-- ---- rename

module _ (who : Who) (p q : List (List ℕ)) (k : View) (t : Tables) (f : Files) (spelled : AreSpelled q) where
  pub rename_half : (k1 : View) (ino : ℕ) → IsAnswer (rename_row p q k) (λ l w. IsRenamed p q k.volume w l) k k1 (Ok (Some ino)) → ComesHalfWay who (Call.Rename p q) k t f k1 t ino
  rename_half k1 ino is g x n s small runs lets =
      let over = renames_over_file k.volume k.cells x.claims runs.jobs runs.numbers s runs.count who p q k1.volume ino runs.flying.device is.0 is.1 in
      comes who (Call.Rename p q) k k1 t f g x n s (moved_so_far (Some ino) s who p q) ino (gone_by k.volume is.1.moving.target) runs is.2
      (steps_rename k.volume k.cells x.claims runs.jobs runs.numbers s runs.count who p q k1.volume (Some ino) runs.flying.device lets is.0 spelled is.1) refl
      (files_renamed p q k.volume k1.volume (Some ino) t is.1 runs.open_are_files) (renamed_ordered s p q runs.ordered) (renamed_left p q g k t (with_files x f) n s runs k1.volume (Some ino) is.1) (file_of ino k1.volume over.0) over.1
      (tree_of_rename k.volume k.cells x.claims runs.jobs runs.numbers s runs.count who p q k1.volume (Some ino) runs.flying.device is.0 is.1)

  pub rename_replies : (k1 : View) (ino : ℕ) → IsAnswer (rename_row p q k) (λ l w. IsRenamed p q k.volume w l) k k1 (Ok (Some ino)) → IsReplyOf who (Call.Rename p q) k t f (answer Reply.Ok)
  rename_replies k1 ino is g x n s runs = reply_ok who (Call.Rename p q) k t g (with_files x f) n s tt is.0 runs

  pub rename_fault : (k2 : View) (old new : Supply) (fault : KFault) → (let r : Result (Option ℕ) KFault = Err fault in IsRenameAnswer p q k k2 r × IsPaid (rename_row p q k) old new r)
      → IsEnded who (Call.Rename p q) k t f k2 t f old new (told_of fault)
  rename_fault k2 old new fault is =
      fault_ended (rename_row p q k) (λ l w. IsRenamed p q k.volume w l) who (Call.Rename p q) k k2 t f old new fault (λ o row. row_refuses who (Call.Rename p q) k t f o tt row)
      (λ l w none renamed_is cut. loses_cut who (Call.Rename p q) k k2 t f w cut (λ g x n start history small runs lets. record {
        touched = gone_by k.volume renamed_is.moving.target;
        after = runs.numbers;
        next = moved_so_far l (run start history) who p q;
        later = runs.count;
        is_step = steps_rename k.volume k.cells x.claims runs.jobs runs.numbers (run start history) runs.count who p q w l runs.flying.device lets none spelled renamed_is;
        leads = rename_leads l w none renamed_is g x n start history runs lets;
      }))
      is where
        rename_leads : (l : Option ℕ) (w : Volume) → rename_row p q k ≡ None → IsRenamed p q k.volume w l → (g : Geometry) (x : Kept) (n : ℕ) (start : State) (history : List Item)
            → (runs : RunsAs g k t (with_files x f) n (run start history)) → LetsJobsBe (run start history) (who, Call.Rename p q) runs.numbers runs.jobs
            → LeadsTo start history (who, Call.Rename p q) runs.jobs (moved_so_far l (run start history) who p q)
        rename_leads None w none renamed_is g x n start history runs lets = leads_end g k t (with_files x f) n start history who (Call.Rename p q) runs lets refl
        rename_leads (Some ino) w none renamed_is g x n start history runs lets =
            let over = renames_over_file k.volume k.cells x.claims runs.jobs runs.numbers (run start history) runs.count who p q w ino runs.flying.device none renamed_is in
            leads_cut who (Call.Rename p q) k t f g x n start history ino (gone_by k.volume renamed_is.moving.target) w runs lets refl
            (steps_rename k.volume k.cells x.claims runs.jobs runs.numbers (run start history) runs.count who p q w (Some ino) runs.flying.device lets none spelled renamed_is) (file_of ino w over.0) over.1
