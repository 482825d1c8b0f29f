-- `mkdir` and `rmdir`, and the first changes of `unlink` and `rename`.
use Rattle.std.specs.Prelude.{◌≡◌, ◌≢◌, ◌<◌, ◌+◌, ◌^◌, ℕ, Bool, true, false, List, [], length, Option, Some, None, Result, Ok, Err, refl, if◌then◌else◌}
use Rattle.std.proofs.Common.{arith, ap, ◌∙◌, sym, subst, inl, inr}
use Rattle.live_step_laws.specs.world_image_laws.Settings.{keeps_setting}
use Rattle.eof_laws.specs.pm_model.Powers.{is_on, Steps, Supply}
use Rattle.eof_laws.specs.layout_model.Places.{Geometry}
use Rattle.layout_model.specs.declared.lines.Kind.{Kind}
use Rattle.layout_model.specs.declared.lines.Kind.TheVariants.{Directory, File, Free, Staging}
use Rattle.layout_model.specs.Lines.{NameRow}
use Rattle.eof_laws.specs.image_model.Live.{is_directory, is_file}
use Rattle.eof_laws.specs.image_model.Volume.{inode, Volume}
use Rattle.live_step_laws.specs.posix_laws.Orders.{AreOrdered-step_of}
use Rattle.live_step_laws.specs.volume_change_laws.CallLaws.{row_to}
use Rattle.live_step_laws.specs.volume_change_laws.FoundLaws.{free-found, IsLowestFree}
use Rattle.live_step_laws.specs.volume_change_laws.FrameLaws.{made-inode, made-others, removed-inode, removed-others}
use Rattle.eof_laws.specs.k_journal.Commits.{TakesAStep}
use Rattle.live_step_laws.specs.k_plans.Making.{IsMade, kind_of}
use Rattle.live_step_laws.specs.k_plans.Removing.{IsRemoved}
use Rattle.live_step_laws.specs.k_plans.Renaming.{IsRenamed, renamed_over}
use Rattle.eof_laws.specs.k_split_model.ChangesChanges.{made, removed, renamed_over_directory, renamed_over_file}
use Rattle.eof_laws.specs.k_split_model.Spaces.{is_directory_in, volume_space}
use Rattle.eof_laws.specs.k_split_model.View.{View}
use Rattle.live_step_laws.specs.k_tables.declared.tables.removing.Entry.{Entry}
use Rattle.eof_laws.specs.layout_model.Spelling.{AreSpelled}
use Rattle.live_step_laws.specs.k_split.declared.faults.KFault.{KFault}
use Rattle.live_step_laws.specs.k_split.Answers.{IsAnswer, IsPaid}
use Rattle.live_step_laws.specs.k_split.Names.{IsIdle, IsMakeAnswer, IsRenameAnswer, IsRmdirAnswer, make_row, rename_row, rmdir_row}
use Rattle.live_step_laws.specs.open_files.Numbered.{numbered_as}
use Rattle.live_step_laws.proofs.open_files_proofs.Lookups.{same_where_open}
use Rattle.posix_types.specs.declared.call.Call.{Call}
use Rattle.posix_types.specs.declared.call.Who.{Who}
use Rattle.posix_types.specs.declared.item.Outcome.{Outcome}
use Rattle.posix_types.specs.declared.reply.Reply.{Reply}
use Rattle.open_files.specs.posix_tables.Open.{is_open, Tables}
use Rattle.open_files.specs.posix_tables.Outcomes.{answer}
use Rattle.open_files.specs.posix_spec.Run.{after_call, run}
use Rattle.open_files.specs.posix_spec.State.{alone, State}
use Rattle.open_files.specs.posix_spec.Step.{step}
use Rattle.live_step_laws.specs.world_model.Stands.{is_used, number}
use Rattle.live_step_laws.specs.world_model.TreeRules.{used_below}
use Rattle.live_step_laws.specs.world_step_laws.Makers.{renumbered, renumbered-other}
use Rattle.live_step_laws.specs.k_split_laws.DeviceSteps.{done_by_row, steps_mkdir, steps_rename, steps_rmdir}
use Rattle.live_step_laws.specs.k_split_laws.Going.{gone_by, IsNameCall, IsStep, row_of_call}
use Rattle.file_calls.specs.Answers.{Answers, IsEnded, told_of}
use Rattle.file_calls.specs.Runs.{RunsAs, with_files}
use Rattle.file_calls.specs.declared.names.outcomes.Told.{Told}
use Rattle.file_calls.proofs.CallTables.{tables_mkdir, tables_rename, tables_rmdir}
use Rattle.live_step_laws.specs.StepsLaws.{AreLeft, size_now}
use Rattle.live_step_laws.proofs.Standing.{stands_on}
use Rattle.eof_laws.specs.file_table.Files.{Files, runs_in, size_in}
use Rattle.live_step_laws.specs.live_model.Standing.{Kept}
use Rattle.live_step_laws.specs.world_step_laws.Steps.{LetsJobsBe}
use Rattle.file_calls.proofs.Running.{fault_ended, leads_end, left_alone, loses_cut, nothing_ended, row_refuses}

-- ---- which files stay

-- what is open is no free inode
pub not_open : (v : Volume) (t : Tables) (c : ℕ) → ((i : ℕ) → is_open t i ≡ true → (inode v i).kind ≡ File) → (inode v c).kind ≢ File → (i : ℕ) → is_open t i ≡ true → i ≢ c
not_open v t c files other i is same = other (ap (λ n. (inode v n).kind) (sym same) ∙ files i is)

pub files_made : (directory : Bool) (p : List (List ℕ)) (v w : Volume) (ino : ℕ) (t : Tables) → IsMade directory p v w ino → ((i : ℕ) → is_open t i ≡ true → (inode v i).kind ≡ File)
    → ((i : ℕ) → is_open t i ≡ true → i ≢ ino) × ((i : ℕ) → is_open t i ≡ true → (inode w i).kind ≡ File)
files_made directory p v w ino t is files =
    (λ i there. subst (λ n. i ≢ n) (sym is.ino_is) (apart i there), λ i there. subst (λ x. (inode x i).kind ≡ File) (sym is.is_made) (stays i there)) where
      free : (inode v is.place.ino).kind ≡ Free
      free = (free-found v.inodes is.place.ino is.is_place.room.ino).free

      no_file : (inode v is.place.ino).kind ≢ File
      no_file file = let never : Free ≡ File = sym free ∙ file in cc

      apart : (i : ℕ) → is_open t i ≡ true → i ≢ is.place.ino
      apart = not_open v t is.place.ino files no_file

      stays : (i : ℕ) → is_open t i ≡ true → (inode (made (kind_of directory) is.place.ino is.place.line (row_to p is.place.parent is.place.ino) v) i).kind ≡ File
      stays i there =
          ap (λ x. x.kind) ((made-others (kind_of directory) is.place.ino is.place.line (row_to p is.place.parent is.place.ino) v).inodes i (apart i there, tt)) ∙ files i there

-- the numbers of what is open stay with another one for a new inode
pub tables_renumbered : (numbers : List ℕ) (t : Tables) (ino m : ℕ) → ((i : ℕ) → is_open t i ≡ true → i ≢ ino) → numbered_as (number numbers) t ≡ numbered_as (number (renumbered numbers ino m)) t
tables_renumbered numbers t ino m apart = same_where_open (number numbers) (number (renumbered numbers ino m)) t (λ i there. sym (renumbered-other numbers ino m i (apart i there)))

pub directory_kind : (kind : Kind) → is_directory kind ≡ true → kind ≢ File
directory_kind kind is same = let never : true ≡ false = sym is ∙ ap is_directory same in cc

pub files_removed : (p : List (List ℕ)) (v w : Volume) (t : Tables) → IsRemoved p v w → ((i : ℕ) → is_open t i ≡ true → (inode v i).kind ≡ File) → (i : ℕ) → is_open t i ≡ true → (inode w i).kind ≡ File
files_removed p v w t is files i there =
    let apart = not_open v t is.entry.child files (directory_kind (inode v is.entry.child).kind is.is_directory.is_directory) i there in
    subst (λ x. (inode x i).kind ≡ File) (sym is.is_removed) (ap (λ x. x.kind) ((removed-others is.entry.line is.entry.child v).inodes i (apart, tt)) ∙ files i there)

pub files_renamed : (p q : List (List ℕ)) (v w : Volume) (lost : Option ℕ) (t : Tables) → IsRenamed p q v w lost → ((i : ℕ) → is_open t i ≡ true → (inode v i).kind ≡ File) → (i : ℕ) → is_open t i ≡ true → (inode w i).kind ≡ File
files_renamed p q v w lost t is files i there = subst (λ x. (inode x i).kind ≡ File) (sym is.is_renamed) (by is.moving.target) where
  row : NameRow
  row = row_to q is.moving.parent is.moving.entry.child

  over : (e : Entry) (b : Bool) → is_directory_in v.inodes e.child ≡ b → (inode (if b then renamed_over_directory is.moving.entry.line row e.line e.child v else renamed_over_file is.moving.entry.line row e.line v) i).kind ≡ File
  over e true directory =
      let apart = not_open v t e.child files (directory_kind (inode v e.child).kind directory) i there in
      ap (λ x. x.kind) ((removed-others e.line e.child v).inodes i (apart, tt)) ∙ files i there
  over e false plain = files i there

  by : (o : Option Entry) → (inode (renamed_over is.moving.entry.line row o v) i).kind ≡ File
  by None = files i there
  by (Some e) = over e (is_directory_in v.inodes e.child) refl

-- ---- what is kept of a line that is made or goes

pub zero_size : (w : Volume) (ino : ℕ) → (inode w ino).size ≡ 0 → size_now w ino ≡ 0
zero_size w ino empty = by (is_file (inode w ino).kind) where
  by : (b : Bool) → (if b then (inode w ino).size else 0) ≡ 0
  by true = empty
  by false = refl

-- of a line that was none of a file nothing is kept; so nothing changes where it is no file, or an empty one
pub left_bare : (g : Geometry) (k : View) (t : Tables) (x : Kept) (n : ℕ) (s : State) (w : Volume) (ino : ℕ) → (runs : RunsAs g k t x n s) → (inode k.volume ino).kind ≢ File → (inode w ino).size ≡ 0 → AreLeft (Some ino) w x.files x.files
left_bare g k t x n s w ino runs none empty = record {
  count = refl;
  runs = λ i out. refl;
  sizes = λ i out. refl;
  spares = λ i out. refl;
  own_spare = λ i same. omega arith;
  own_runs = λ i same. (let own : ino ≡ i = cc in subst (λ m. runs_in x.files m ≡ []) own (runs.bare ino none));
  own_size = λ i same. (
      let own : ino ≡ i = cc in
      subst (λ m. size_in x.files m ≡ size_now w m) own (runs.sizes.others ino none ∙ sym (zero_size w ino empty)));
}

-- a free line becomes an empty file or a directory
pub made_left : (directory : Bool) (p : List (List ℕ)) (g : Geometry) (k : View) (t : Tables) (x : Kept) (n : ℕ) (s : State) → RunsAs g k t x n s → (w : Volume) (ino : ℕ) → IsMade directory p k.volume w ino → AreLeft (Some ino) w x.files x.files
made_left directory p g k t x n s runs w ino is =
    subst (λ m. AreLeft (Some m) w x.files x.files) (sym is.ino_is)
    (subst (λ y. AreLeft (Some is.place.ino) y x.files x.files) (sym is.is_made)
    (left_bare g k t x n s (made (kind_of directory) is.place.ino is.place.line (row_to p is.place.parent is.place.ino) k.volume) is.place.ino runs no_file
    (ap (λ y. y.size) (made-inode (kind_of directory) is.place.ino is.place.line (row_to p is.place.parent is.place.ino) k.volume free.within)))) where
      free : IsLowestFree k.volume.inodes is.place.ino
      free = free-found k.volume.inodes is.place.ino is.is_place.room.ino

      no_file : (inode k.volume is.place.ino).kind ≢ File
      no_file file = let never : Free ≡ File = sym free.free ∙ file in cc

directory_used : (kind : Kind) → is_directory kind ≡ true → is_used kind ≡ true
directory_used Free is = cc
directory_used Directory is = refl
directory_used File is = cc
directory_used Staging is = cc

-- a directory goes
gone_left : (g : Geometry) (k : View) (t : Tables) (x : Kept) (n : ℕ) (s : State) → RunsAs g k t x n s → (w : Volume) (line c : ℕ) → is_directory (inode k.volume c).kind ≡ true → inode w c ≡ inode (removed line c k.volume) c → AreLeft (Some c) w x.files x.files
gone_left g k t x n s runs w line c directory same =
    left_bare g k t x n s w c runs (directory_kind (inode k.volume c).kind directory)
    (ap (λ y. y.size) (same ∙ removed-inode line c k.volume (used_below k.volume c (directory_used (inode k.volume c).kind directory))))

pub removed_left : (p : List (List ℕ)) (g : Geometry) (k : View) (t : Tables) (x : Kept) (n : ℕ) (s : State) → RunsAs g k t x n s → (w : Volume) → (is : IsRemoved p k.volume w) → AreLeft (Some is.entry.child) w x.files x.files
removed_left p g k t x n s runs w is = gone_left g k t x n s runs w is.entry.line is.entry.child is.is_directory.is_directory (ap (λ y. inode y is.entry.child) is.is_removed)

pub renamed_left : (p q : List (List ℕ)) (g : Geometry) (k : View) (t : Tables) (x : Kept) (n : ℕ) (s : State) → RunsAs g k t x n s → (w : Volume) (lost : Option ℕ) → (is : IsRenamed p q k.volume w lost)
    → AreLeft (gone_by k.volume is.moving.target) w x.files x.files
renamed_left p q g k t x n s runs w lost is = subst (λ y. AreLeft (gone_by k.volume is.moving.target) y x.files x.files) (sym is.is_renamed) (by is.moving.target) where
  row : NameRow
  row = row_to q is.moving.parent is.moving.entry.child

  over : (e : Entry) (b : Bool) → is_directory_in k.volume.inodes e.child ≡ b
      → AreLeft (if b then Some e.child else None) (if b then renamed_over_directory is.moving.entry.line row e.line e.child k.volume else renamed_over_file is.moving.entry.line row e.line k.volume) x.files x.files
  over e true directory = gone_left g k t x n s runs (renamed_over_directory is.moving.entry.line row e.line e.child k.volume) e.line e.child directory refl
  over e false plain = left_alone (renamed_over_file is.moving.entry.line row e.line k.volume) x.files

  by : (o : Option Entry) → AreLeft (gone_by k.volume o) (renamed_over is.moving.entry.line row o k.volume) x.files x.files
  by None = left_alone (renamed_over is.moving.entry.line row None k.volume) x.files
  by (Some e) = over e (is_directory_in k.volume.inodes e.child) refl

-- ---- a call on names that is done in one change

-- the reply
pub reply_ok : (who : Who) (call : Call) (k : View) (t : Tables) (g : Geometry) (x : Kept) (n : ℕ) (s : State) → IsNameCall call → row_of_call (volume_space k.volume) call ≡ None → RunsAs g k t x n s
    → (step s who call).outcome ≡ answer Reply.Ok
reply_ok who call k t g x n s named row runs = done_by_row k.volume k.cells x.claims runs.jobs runs.numbers s runs.count who call runs.flying.device named row

-- a step was taken
pub took : {T : Type 0} (row : Option Outcome) (old new : Supply) (x : T) → row ≡ None → (let r : Result T KFault = Ok x in IsPaid row old new r) → (is_on new ≡ true) × TakesAStep old new
took row old new x none paid = (paid.0, paid.1 none)

-- ---- mkdir

module _ (who : Who) (p : List (List ℕ)) (k k2 : View) (t : Tables) (f : Files) (old new : Supply) (spelled : AreSpelled p) where
  made_step : (w : Volume) (ino : ℕ) → make_row p k ≡ None → IsMade true p k.volume w ino → (g : Geometry) (x : Kept) (n : ℕ) (s : State) → n + 1 < 2 ^ 31 → (runs : RunsAs g k t x n s) → LetsJobsBe s (who, Call.Mkdir p) runs.numbers runs.jobs
      → IsStep (Some ino) k.volume w x.claims runs.jobs runs.numbers (renumbered runs.numbers ino (length s.nodes)) s (after_call s (who, Call.Mkdir p)) runs.count (runs.count + 1)
  made_step w ino none is g x n s small runs lets =
      steps_mkdir k.volume k.cells x.claims runs.jobs runs.numbers s runs.count who p w ino runs.flying.device lets (omega (arith, small, runs.few)) spelled none is

  pub mkdir_done : (ino : ℕ) → (let r : Result ℕ KFault = Ok ino in IsMakeAnswer true p k k2 r × IsPaid (make_row p k) old new r)
      → IsEnded who (Call.Mkdir p) k t f k2 t f old new (Ok (Told.Answered (answer Reply.Ok)))
  mkdir_done ino is = let step_taken = took (make_row p k) old new ino is.0.0 is.1 in (answers, step_taken.0, λ g x n s runs. inr step_taken.1) where
    answers : Answers who (Call.Mkdir p) k t f k2 t f (answer Reply.Ok)
    answers g x n s small runs lets =
        let a_step = made_step k2.volume ino is.0.0 is.0.1 g (with_files x f) n s small runs lets in
        let files = files_made true p k.volume k2.volume ino t is.0.1 runs.open_are_files in (
          (stands_on g k k2 t t (with_files x f) f true n (n + 1) s (after_call s (who, Call.Mkdir p)) (renumbered runs.numbers ino (length s.nodes)) (runs.count + 1) (Some ino) runs is.0.2 a_step (keeps_setting s (who, Call.Mkdir p)).mode (omega (arith, runs.few)) (omega arith)
              (tables_mkdir s who p ∙ runs.tables ∙ tables_renumbered runs.numbers t ino (length s.nodes) files.0) files.1 (AreOrdered-step_of alone s who (Call.Mkdir p) runs.ordered)
              (made_left true p g k t (with_files x f) n s runs k2.volume ino is.0.1)).0,
          reply_ok who (Call.Mkdir p) k t g (with_files x f) n s tt is.0.0 runs,
        )

  pub mkdir_fault : (fault : KFault) → (let r : Result ℕ KFault = Err fault in IsMakeAnswer true p k k2 r × IsPaid (make_row p k) old new r)
      → IsEnded who (Call.Mkdir p) k t f k2 t f old new (told_of fault)
  mkdir_fault fault is =
      fault_ended (make_row p k) (λ ino w. IsMade true p k.volume w ino) who (Call.Mkdir p) k k2 t f old new fault (λ o row. row_refuses who (Call.Mkdir p) k t f o tt row)
      (λ ino w none made_is cut. loses_cut who (Call.Mkdir p) k k2 t f w cut (λ g x n start history small runs lets. record {
        touched = Some ino;
        after = renumbered runs.numbers ino (length (run start history).nodes);
        next = after_call (run start history) (who, Call.Mkdir p);
        later = runs.count + 1;
        is_step = made_step w ino none made_is g (with_files x f) n (run start history) small runs lets;
        leads = leads_end g k t (with_files x f) n start history who (Call.Mkdir p) runs lets refl;
      }))
      is

-- ---- rmdir

module _ (who : Who) (p : List (List ℕ)) (k k2 : View) (t : Tables) (f : Files) (old new : Supply) where
  removed_step : (w : Volume) → rmdir_row p k ≡ None → (is : IsRemoved p k.volume w) → (g : Geometry) (x : Kept) (n : ℕ) (s : State) → (runs : RunsAs g k t x n s) → LetsJobsBe s (who, Call.Rmdir p) runs.numbers runs.jobs
      → IsStep (Some is.entry.child) k.volume w x.claims runs.jobs runs.numbers runs.numbers s (after_call s (who, Call.Rmdir p)) runs.count runs.count
  removed_step w none is g x n s runs lets = steps_rmdir k.volume k.cells x.claims runs.jobs runs.numbers s runs.count who p w runs.flying.device lets none is

  pub rmdir_done : (let r : Result (Unit {0}) KFault = Ok tt in IsRmdirAnswer p k k2 r × IsPaid (rmdir_row p k) old new r)
      → IsEnded who (Call.Rmdir p) k t f k2 t f old new (Ok (Told.Answered (answer Reply.Ok)))
  rmdir_done is = let step_taken = took {T = Unit {0}} (rmdir_row p k) old new tt is.0.0 is.1 in (answers, step_taken.0, λ g x n s runs. inr step_taken.1) where
    answers : Answers who (Call.Rmdir p) k t f k2 t f (answer Reply.Ok)
    answers g x n s small runs lets = (
      (stands_on g k k2 t t (with_files x f) f true n (n + 1) s (after_call s (who, Call.Rmdir p)) runs.numbers runs.count (Some is.0.1.entry.child) runs is.0.2
          (removed_step k2.volume is.0.0 is.0.1 g (with_files x f) n s runs lets) (keeps_setting s (who, Call.Rmdir p)).mode (omega (arith, runs.few)) (omega arith) (tables_rmdir s who p ∙ runs.tables)
          (files_removed p k.volume k2.volume t is.0.1 runs.open_are_files) (AreOrdered-step_of alone s who (Call.Rmdir p) runs.ordered)
          (removed_left p g k t (with_files x f) n s runs k2.volume is.0.1)).0,
      reply_ok who (Call.Rmdir p) k t g (with_files x f) n s tt is.0.0 runs,
    )

  pub rmdir_fault : (fault : KFault) → (let r : Result (Unit {0}) KFault = Err fault in IsRmdirAnswer p k k2 r × IsPaid (rmdir_row p k) old new r)
      → IsEnded who (Call.Rmdir p) k t f k2 t f old new (told_of fault)
  rmdir_fault fault is =
      fault_ended (rmdir_row p k) (λ done w. IsRemoved p k.volume w) who (Call.Rmdir p) k k2 t f old new fault (λ o row. row_refuses who (Call.Rmdir p) k t f o tt row)
      (λ done w none removed_is cut. loses_cut who (Call.Rmdir p) k k2 t f w cut (λ g x n start history small runs lets. record {
        touched = Some removed_is.entry.child;
        after = runs.numbers;
        next = after_call (run start history) (who, Call.Rmdir p);
        later = runs.count;
        is_step = removed_step w none removed_is g (with_files x f) n (run start history) runs lets;
        leads = leads_end g k t (with_files x f) n start history who (Call.Rmdir p) runs lets refl;
      }))
      is

-- ---- rename: what it does without a second change

module _ (who : Who) (p q : List (List ℕ)) (k k2 : View) (t : Tables) (f : Files) (old new : Supply) (spelled : AreSpelled q) where
  -- both paths are those of one node
  idle : IsIdle (rename_row p q k) k k2 None → is_on new ≡ true → IsEnded who (Call.Rename p q) k t f k2 t f old new (Ok (Told.Answered (answer Reply.Ok)))
  idle is on = nothing_ended who (Call.Rename p q) k k2 t f (answer Reply.Ok) old new is.same on (row_refuses who (Call.Rename p q) k t f (answer Reply.Ok) tt is.idle)

  moved : (let r : Result (Option ℕ) KFault = Ok None in IsAnswer (rename_row p q k) (λ l w. IsRenamed p q k.volume w l) k k2 r × IsPaid (rename_row p q k) old new r)
      → IsEnded who (Call.Rename p q) k t f k2 t f old new (Ok (Told.Answered (answer Reply.Ok)))
  moved is = let step_taken = took {T = Option ℕ} (rename_row p q k) old new None is.0.0 is.1 in (answers, step_taken.0, λ g x n s runs. inr step_taken.1) where
    answers : Answers who (Call.Rename p q) k t f k2 t f (answer Reply.Ok)
    answers g x n s small runs lets = (
      (stands_on g k k2 t t (with_files x f) f true n (n + 1) s (after_call s (who, Call.Rename p q)) runs.numbers runs.count (gone_by k.volume is.0.1.moving.target) runs is.0.2
          (steps_rename k.volume k.cells x.claims runs.jobs runs.numbers s runs.count who p q k2.volume None runs.flying.device lets is.0.0 spelled is.0.1) (keeps_setting s (who, Call.Rename p q)).mode (omega (arith, runs.few)) (omega arith) (tables_rename s who p q ∙ runs.tables)
          (files_renamed p q k.volume k2.volume None t is.0.1 runs.open_are_files) (AreOrdered-step_of alone s who (Call.Rename p q) runs.ordered)
          (renamed_left p q g k t (with_files x f) n s runs k2.volume None is.0.1)).0,
      reply_ok who (Call.Rename p q) k t g (with_files x f) n s tt is.0.0 runs,
    )

  pub rename_done : (let r : Result (Option ℕ) KFault = Ok None in IsRenameAnswer p q k k2 r × IsPaid (rename_row p q k) old new r)
      → IsEnded who (Call.Rename p q) k t f k2 t f old new (Ok (Told.Answered (answer Reply.Ok)))
  rename_done is = by is.0 where
    by : (let r : Result (Option ℕ) KFault = Ok None in IsRenameAnswer p q k k2 r) → IsEnded who (Call.Rename p q) k t f k2 t f old new (Ok (Told.Answered (answer Reply.Ok)))
    by (inl same) = idle same is.1.0
    by (inr done) = moved (done, is.1)

-- one change takes no more steps than two
pub twice_as_many : (p q : Supply) → Steps 256 p q → Steps 512 p q
twice_as_many p q steps = record { given = steps.given; on_before = steps.on_before; later = steps.later; bound = omega (arith, steps.bound) }
