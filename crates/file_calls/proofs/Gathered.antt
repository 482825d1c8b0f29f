-- `mkdir` and `rmdir` where changes gather.
use Rattle.std.specs.Prelude.{◌≡◌, ◌≢◌, ◌⊎◌, ◌≤◌, ◌+◌, ℕ, Bool, true, false, List, [], ◌∷◌, ◌++◌, length, Some, None, Result, Ok, Err, refl}
use Rattle.std.proofs.Common.{arith, ap, ◌∙◌, sym, subst, inl, inr}
use Rattle.eof_laws.specs.pm_model.declared.Cell.{Cell}
use Rattle.eof_laws.specs.pm_model.Frames.{KeepsSingle, SameLent}
use Rattle.eof_laws.specs.pm_model.Powers.{Supply}
use Rattle.eof_laws.specs.layout_model.Spelling.{AreSpelled}
use Rattle.layout_model.specs.declared.lines.Inode.{Inode}
use Rattle.layout_model.specs.declared.lines.Kind.{Kind}
use Rattle.layout_model.specs.declared.lines.Kind.TheVariants.{Directory, File, Free, Staging}
use Rattle.eof_laws.specs.image_model.Live.{is_directory}
use Rattle.eof_laws.specs.image_model.Volume.{extents, inode, Volume}
use Rattle.eof_laws.proofs.Ending.{end_made, end_removed}
use Rattle.eof_laws.specs.Ends.{FreeHaveNone}
use Rattle.eof_laws.specs.file_table.Files.{Files}
use Rattle.eof_laws.specs.k_split_model.Spaces.{volume_space}
use Rattle.eof_laws.specs.k_split_model.View.{View}
use Rattle.live_step_laws.specs.k_plans.Making.{IsMade, kind_of}
use Rattle.live_step_laws.specs.k_plans.Removing.{IsRemoved}
use Rattle.live_step_laws.specs.k_split.declared.faults.KFault.{KFault}
use Rattle.live_step_laws.specs.k_split.Answers.{IsPowered}
use Rattle.live_step_laws.specs.k_split.Gathers.{IsGatherMake, IsGatherRmdir}
use Rattle.live_step_laws.specs.k_split.Names.{make_row, rmdir_row}
use Rattle.live_step_laws.specs.live_model.Standing.{Kept}
use Rattle.live_step_laws.specs.live_model.staging_files.Keeps.{Staged}
use Rattle.live_step_laws.specs.posix_laws.Orders.{AreOrdered-step_of}
use Rattle.live_step_laws.specs.volume_change_laws.CallLaws.{row_to}
use Rattle.live_step_laws.specs.volume_change_laws.FoundLaws.{free-found, IsLowestFree}
use Rattle.live_step_laws.specs.volume_change_laws.FrameLaws.{made-inode, made-others, removed-inode, removed-others}
use Rattle.live_step_laws.specs.world_model.Stands.{is_used}
use Rattle.live_step_laws.specs.world_model.TreeRules.{used_below}
use Rattle.live_step_laws.specs.world_step_laws.Makers.{renumbered}
use Rattle.posix_types.specs.declared.call.Call.{Call}
use Rattle.posix_types.specs.declared.call.Who.{Who}
use Rattle.posix_types.specs.declared.item.Item.{Item}
use Rattle.posix_types.specs.declared.item.Outcome.{Outcome}
use Rattle.posix_types.specs.declared.reply.Reply.{Reply}
use Rattle.open_files.specs.posix_tables.NameRows.{mkdir_rows, rmdir_rows}
use Rattle.open_files.specs.posix_tables.Open.{is_open, Tables}
use Rattle.open_files.specs.posix_tables.Outcomes.{answer, first}
use Rattle.open_files.specs.posix_spec.Run.{after_call, run, run-append}
use Rattle.open_files.specs.posix_spec.State.{alone, State}
use Rattle.open_files.specs.posix_spec.Step.{mkdir_done, rmdir_done, step, stepped}
use Rattle.batch_laws.specs.GoneLaws.{rmdir_goes_on}
use Rattle.batch_laws.specs.ChangesLaws.{touched_or_not}
use Rattle.batch_laws.specs.Joins.{IsFoundFor, IsJoinedFrom}
use Rattle.batch_laws.specs.JoinsLaws.{found_goes_on, make_joins, rmdir_joins}
use Rattle.batch_laws.specs.MadeLaws.{mkdir_goes_on}
use Rattle.batch_laws.specs.Quiet.{IsQuiet}
use Rattle.batch_laws.specs.QuietLaws.{quiet_puts_none}
use Rattle.batch_laws.specs.Ready.{AreUnmapped, GoesReady}
use Rattle.batch_laws.specs.StandsOn.{IsNext, LeavesFiles}
use Rattle.batch_laws.specs.StandsOnLaws.{files_stand_on}
use Rattle.batch_laws.specs.Together.{with_parts}
use Rattle.file_calls.specs.Answers.{told_of}
use Rattle.file_calls.specs.Gathers.{GatheredAnswers, IsGatheredEnd, IsItemOf}
use Rattle.file_calls.specs.declared.names.outcomes.Told.{Told}
use Rattle.file_calls.proofs.CallTables.{tables_mkdir, tables_rmdir}
use Rattle.file_calls.proofs.NameCalls.{directory_kind, files_made, files_removed, tables_renumbered}
use Rattle.file_calls.proofs.Seen.{fault_gathered, IsSeenAs, rows_seen, seen_of}

-- ---- what joined leaves of the device

found_lent : (k mid : View) → IsFoundFor k mid → SameLent k.cells mid.cells
found_lent k mid (inl still) = still.changes.lent
found_lent k mid (inr committed) = committed.changes.lent

found_singles : (k mid : View) → IsFoundFor k mid → KeepsSingle k.cells mid.cells
found_singles k mid (inl still) = still.singles
found_singles k mid (inr committed) = committed.singles

module _ (k l : View) (joined : IsJoinedFrom k l) where
  pub joined_lent : SameLent k.cells l.cells
  joined_lent = subst (λ (d : List Cell). SameLent k.cells d) (sym joined.gathered.cells) (found_lent k joined.mid joined.found)

  pub joined_singles : KeepsSingle k.cells l.cells
  joined_singles = subst (λ (d : List Cell). KeepsSingle k.cells d) (sym joined.gathered.cells) (found_singles k joined.mid joined.found)

-- ---- a node is made

-- free inodes have no map
pub free_unmapped : (v : Volume) → AreUnmapped v → FreeHaveNone v
free_unmapped v unmapped ino free = unmapped ino (λ file. (let never : Free ≡ File = sym free ∙ file in cc)) (λ staging. (let never : Free ≡ Staging = sym free ∙ staging in cc))

module _ (directory : Bool) (p : List (List ℕ)) (k l : View) (ino : ℕ) (is : IsMade directory p k.volume l.volume ino) (joined : IsJoinedFrom k l) where
  found_free : IsLowestFree k.volume.inodes is.place.ino
  found_free = free-found k.volume.inodes is.place.ino is.is_place.room.ino

  was_free : (i : ℕ) → Some ino ≡ Some i → (inode k.volume i).kind ≡ Free
  was_free i same = let own : i ≡ ino = cc in ap (λ j. (inode k.volume j).kind) (own ∙ is.ino_is) ∙ found_free.free

  others : (i : ℕ) → Some ino ≢ Some i → inode l.volume i ≡ inode k.volume i
  others i other =
      subst (λ (x : Volume). inode x i ≡ inode k.volume i) (sym is.is_made)
      ((made-others (kind_of directory) is.place.ino is.place.line (row_to p is.place.parent is.place.ino) k.volume).inodes i (λ same. other (ap Some (is.ino_is ∙ sym same)), tt))

  own_applied : (inode l.volume ino).applied ≡ 0
  own_applied =
      subst (λ i. (inode l.volume i).applied ≡ 0) (sym is.ino_is)
      (subst (λ (x : Volume). (inode x is.place.ino).applied ≡ 0) (sym is.is_made)
      (ap (λ (x : Inode). x.applied) (made-inode (kind_of directory) is.place.ino is.place.line (row_to p is.place.parent is.place.ino) k.volume found_free.within)))

  applied : (i : ℕ) → (Some ino ≡ Some i) ⊎ (Some ino ≢ Some i) → (inode l.volume i).applied ≤ (inode k.volume i).applied
  applied i (inl same) = let own : i ≡ ino = cc in let none = ap (λ j. (inode l.volume j).applied) own ∙ own_applied in omega (arith, none)
  applied i (inr other) = omega (arith, ap (λ (x : Inode). x.applied) (others i other))

  pub made_leaves : LeavesFiles (Some ino) k l
  made_leaves = record {
    lent = joined_lent k l joined;
    singles = joined_singles k l joined;
    geometry = ap (λ (x : Volume). x.geometry) is.is_made;
    base = ap (λ (x : Volume). x.base) is.is_made;
    others = others;
    file = λ i same file. (let never : Free ≡ File = sym (was_free i same) ∙ file in cc);
    staging = λ i same staging. (let never : Free ≡ Staging = sym (was_free i same) ∙ staging in cc);
    applied = λ i. applied i (touched_or_not (Some ino) i);
    maps = λ i. ap (λ (x : Volume). extents x i) is.is_made;
  }

-- ---- a directory goes

module _ (p : List (List ℕ)) (k l : View) (is : IsRemoved p k.volume l.volume) (joined : IsJoinedFrom k l) where
  was_directory : (i : ℕ) → Some is.entry.child ≡ Some i → is_directory (inode k.volume i).kind ≡ true
  was_directory i same = let own : i ≡ is.entry.child = cc in ap (λ j. is_directory (inode k.volume j).kind) own ∙ is.is_directory.is_directory

  others_stay : (i : ℕ) → Some is.entry.child ≢ Some i → inode l.volume i ≡ inode k.volume i
  others_stay i other =
      subst (λ (x : Volume). inode x i ≡ inode k.volume i) (sym is.is_removed) ((removed-others is.entry.line is.entry.child k.volume).inodes i (λ same. other (ap Some (sym same)), tt))

  used : (kind : Kind) → is_directory kind ≡ true → is_used kind ≡ true
  used Free never = cc
  used Directory there = refl
  used File never = cc
  used Staging never = cc

  gone_applied : (inode l.volume is.entry.child).applied ≡ 0
  gone_applied =
      subst (λ (x : Volume). (inode x is.entry.child).applied ≡ 0) (sym is.is_removed)
      (ap (λ (x : Inode). x.applied) (removed-inode is.entry.line is.entry.child k.volume (used_below k.volume is.entry.child (used (inode k.volume is.entry.child).kind is.is_directory.is_directory))))

  gone : (i : ℕ) → (Some is.entry.child ≡ Some i) ⊎ (Some is.entry.child ≢ Some i) → (inode l.volume i).applied ≤ (inode k.volume i).applied
  gone i (inl same) = let own : i ≡ is.entry.child = cc in let none = ap (λ j. (inode l.volume j).applied) own ∙ gone_applied in omega (arith, none)
  gone i (inr other) = omega (arith, ap (λ (x : Inode). x.applied) (others_stay i other))

  pub removed_leaves : LeavesFiles (Some is.entry.child) k l
  removed_leaves = record {
    lent = joined_lent k l joined;
    singles = joined_singles k l joined;
    geometry = ap (λ (x : Volume). x.geometry) is.is_removed;
    base = ap (λ (x : Volume). x.base) is.is_removed;
    others = others_stay;
    file = λ i same. directory_kind (inode k.volume i).kind (was_directory i same);
    staging = λ i same staging. (let never : true ≡ false = sym (was_directory i same) ∙ ap is_directory staging in cc);
    applied = λ i. gone i (touched_or_not (Some is.entry.child) i);
    maps = λ i. ap (λ (x : Volume). extents x i) is.is_removed;
  }

-- ---- mkdir

-- the state behind an item of the call
pub behind_item : (start : State) (history : List Item) (item : Item) (who : Who) (call : Call) (o : Outcome) → IsItemOf who call o item → run start (history ++ item ∷ []) ≡ after_call (run start history) (who, call)
behind_item start history item who call o is = run-append start history item ∙ (λ i. (step (run start history) (is.0 i) (is.1 i)).state)

module _ (who : Who) (p : List (List ℕ)) (k l : View) (t : Tables) (a : Staged) (f : Files) (old new : Supply) (spelled : AreSpelled p) where
  mkdir_stays : (o : Outcome) → make_row p k ≡ Some o → (s : State) → IsSeenAs k t f s → step s who (Call.Mkdir p) ≡ record { state = s; outcome = o }
  mkdir_stays o row s seen = ap (λ y. stepped s y (mkdir_done s p)) (ap first (sym ((rows_seen k t f s seen).mkdir p)) ∙ row)

  mkdir_replies : make_row p k ≡ None → (s : State) → IsSeenAs k t f s → (step s who (Call.Mkdir p)).outcome ≡ answer Reply.Ok
  unfolding mkdir_done
  mkdir_replies none s seen = ap (λ y. (stepped s y (mkdir_done s p)).outcome) (ap first (sym ((rows_seen k t f s seen).mkdir p)) ∙ none)

  pub mkdir_gathered : (ino : ℕ) → (let r : Result ℕ KFault = Ok ino in IsGatherMake true p k l r × IsPowered new r) → IsGatheredEnd who (Call.Mkdir p) k t a f l t a f old new (Ok (Told.Answered (answer Reply.Ok)))
  mkdir_gathered ino is = (answers, is.1) where
    answers : GatheredAnswers who (Call.Mkdir p) k t a f l t a f (answer Reply.Ok)
    answers g x n start history item small item_is stands = (
      files_stand_on g k l t t kept n (n + 1) (stands.count + 1) after start history (item ∷ []) (Some ino) stands (made_leaves true p k l ino made joined) ready (omega (arith, stands.few)) (omega arith)
          (subst (IsNext l t kept after) (sym (behind_item start history item who (Call.Mkdir p) (answer Reply.Ok) item_is)) (record {
            tables = tables_mkdir s who p ∙ stands.tables ∙ tables_renumbered stands.numbers t ino (length s.nodes) files.0;
            open_are_files = files.1;
            ordered = AreOrdered-step_of alone s who (Call.Mkdir p) stands.ordered;
            ends = end_made true p k.volume l.volume ino f (free_unmapped k.volume stands.ready.unmapped) made stands.ends;
          })),
      mkdir_replies is.0.0 s (seen_of g k t kept n start history stands),
    ) where
      kept : Kept
      kept = with_parts x a f

      s : State
      s = run start history

      both : IsMade true p k.volume l.volume ino × IsJoinedFrom k l
      both = make_joins true p k l ino stands.ready.going.order stands.ready.going.batched stands.ready.going.on is.0

      made : IsMade true p k.volume l.volume ino
      made = both.0

      joined : IsJoinedFrom k l
      joined = both.1

      after : List ℕ
      after = renumbered stands.numbers ino (length (run start history).nodes)

      files : ((i : ℕ) → is_open t i ≡ true → i ≢ ino) × ((i : ℕ) → is_open t i ≡ true → (inode l.volume i).kind ≡ File)
      files = files_made true p k.volume l.volume ino t both.0 stands.open_are_files

      ready : GoesReady g l f (stands.count + 1) after start (history ++ item ∷ [])
      ready =
          mkdir_goes_on g joined.mid l f stands.count stands.numbers start history item p l.volume ino
          (found_goes_on g k joined.mid f stands.count stands.numbers start history stands.ready joined.found) item_is.1 (omega (arith, small, stands.few)) spelled
          (ap (λ (v : Volume). first (mkdir_rows (volume_space v) p)) joined.volume ∙ is.0.0) (subst (λ (v : Volume). IsMade true p v l.volume ino) (sym joined.volume) made) joined.gathered

  pub mkdir_gathered_fault : (fault : KFault) → (let r : Result ℕ KFault = Err fault in IsGatherMake true p k l r × IsPowered new r) → IsGatheredEnd who (Call.Mkdir p) k t a f l t a f old new (told_of fault)
  mkdir_gathered_fault fault is =
      fault_gathered (make_row p k) (λ ino w. IsMade true p k.volume w ino) who (Call.Mkdir p) k l t a f old new fault
      (λ o s item row seen item_is. quiet_puts_none s item (subst (IsQuiet s) (sym item_is.1) tt)) mkdir_stays is

-- ---- rmdir

module _ (who : Who) (p : List (List ℕ)) (k l : View) (t : Tables) (a : Staged) (f : Files) (old new : Supply) where
  rmdir_stays : (o : Outcome) → rmdir_row p k ≡ Some o → (s : State) → IsSeenAs k t f s → step s who (Call.Rmdir p) ≡ record { state = s; outcome = o }
  rmdir_stays o row s seen = ap (λ y. stepped s y (rmdir_done s p)) (ap first (sym ((rows_seen k t f s seen).rmdir p)) ∙ row)

  rmdir_replies : rmdir_row p k ≡ None → (s : State) → IsSeenAs k t f s → (step s who (Call.Rmdir p)).outcome ≡ answer Reply.Ok
  unfolding rmdir_done
  rmdir_replies none s seen = ap (λ y. (stepped s y (rmdir_done s p)).outcome) (ap first (sym ((rows_seen k t f s seen).rmdir p)) ∙ none)

  pub rmdir_gathered : (let r : Result (Unit {0}) KFault = Ok tt in IsGatherRmdir p k l r × IsPowered new r) → IsGatheredEnd who (Call.Rmdir p) k t a f l t a f old new (Ok (Told.Answered (answer Reply.Ok)))
  rmdir_gathered is = (answers, is.1) where
    answers : GatheredAnswers who (Call.Rmdir p) k t a f l t a f (answer Reply.Ok)
    answers g x n start history item small item_is stands = (
      files_stand_on g k l t t kept n (n + 1) stands.count stands.numbers start history (item ∷ []) (Some removed.entry.child) stands (removed_leaves p k l removed joined) ready (omega (arith, stands.few)) (omega arith)
          (subst (IsNext l t kept stands.numbers) (sym (behind_item start history item who (Call.Rmdir p) (answer Reply.Ok) item_is)) (record {
            tables = tables_rmdir s who p ∙ stands.tables;
            open_are_files = files_removed p k.volume l.volume t removed stands.open_are_files;
            ordered = AreOrdered-step_of alone s who (Call.Rmdir p) stands.ordered;
            ends = end_removed p k.volume l.volume f removed stands.ends;
          })),
      rmdir_replies is.0.0 s (seen_of g k t kept n start history stands),
    ) where
      kept : Kept
      kept = with_parts x a f

      s : State
      s = run start history

      both : IsRemoved p k.volume l.volume × IsJoinedFrom k l
      both = rmdir_joins p k l stands.ready.going.order stands.ready.going.batched stands.ready.going.on is.0

      removed : IsRemoved p k.volume l.volume
      removed = both.0

      joined : IsJoinedFrom k l
      joined = both.1

      ready : GoesReady g l f stands.count stands.numbers start (history ++ item ∷ [])
      ready =
          rmdir_goes_on g joined.mid l f stands.count stands.numbers start history item p l.volume
          (found_goes_on g k joined.mid f stands.count stands.numbers start history stands.ready joined.found) item_is.1
          (ap (λ (v : Volume). first (rmdir_rows (volume_space v) p)) joined.volume ∙ is.0.0) (subst (λ (v : Volume). IsRemoved p v l.volume) (sym joined.volume) removed) joined.gathered

  pub rmdir_gathered_fault : (fault : KFault) → (let r : Result (Unit {0}) KFault = Err fault in IsGatherRmdir p k l r × IsPowered new r) → IsGatheredEnd who (Call.Rmdir p) k t a f l t a f old new (told_of fault)
  rmdir_gathered_fault fault is =
      fault_gathered {T = Unit {0}} (rmdir_row p k) (λ done w. IsRemoved p k.volume w) who (Call.Rmdir p) k l t a f old new fault
      (λ o s item row seen item_is. quiet_puts_none s item (subst (IsQuiet s) (sym item_is.1) tt)) rmdir_stays is
