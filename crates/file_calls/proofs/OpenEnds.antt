-- How an `open` ends that is refused, in each mode; and what a path leads to.
use Rattle.std.specs.Prelude.{◌≡◌, ◌&&◌, not, nat_lt, ℕ, Bool, true, false, List, [], ◌∷◌, Some, None, is_none, Ok, Err, refl, if◌then◌else◌}
use Rattle.std.proofs.Common.{arith, ap, ◌∙◌, sym, subst}
use Rattle.std.proofs.lemmas.Bool.{ltb-false}
use Rattle.eof_laws.specs.pm_model.Powers.{is_on, Supply}
use Rattle.layout_model.specs.declared.lines.Inode.{Inode}
use Rattle.layout_model.specs.declared.lines.Kind.{Kind}
use Rattle.layout_model.specs.declared.lines.Kind.TheVariants.{Directory, File, Free, Staging}
use Rattle.eof_laws.specs.image_model.Live.{is_directory}
use Rattle.eof_laws.specs.image_model.Volume.{inode, Volume}
use Rattle.eof_laws.specs.file_table.Files.{Files, size_in}
use Rattle.live_step_laws.specs.k_plans.View.{node_at as inode_at}
use Rattle.eof_laws.specs.k_split_model.Spaces.{is_directory_in, is_free, volume_space}
use Rattle.eof_laws.specs.k_split_model.View.{View}
use Rattle.live_step_laws.specs.k_split.Looks.{IsFound, IsLed}
use Rattle.open_files.specs.State.{IsOpenFault, OpenState}
use Rattle.open_files.specs.declared.files.faults.OpenFault.{OpenFault}
use Rattle.posix_types.specs.declared.call.Call.{Call}
use Rattle.posix_types.specs.declared.call.Who.{Who}
use Rattle.posix_types.specs.declared.handle.Flags.{Flags}
use Rattle.posix_types.specs.declared.handle.Handle.{Handle}
use Rattle.posix_types.specs.declared.item.Item.{Item}
use Rattle.posix_types.specs.declared.item.Outcome.{Outcome}
use Rattle.posix_types.specs.declared.reply.Errno.{Errno}
use Rattle.posix_types.specs.declared.reply.Reply.{Reply}
use Rattle.posix_types.specs.declared.reply.Stat.{Stat}
use Rattle.open_files.specs.posix_tables.NameRows.{no_line, no_node, open_rows}
use Rattle.open_files.specs.posix_tables.Open.{free_descriptor, is_full, Tables, with_opened}
use Rattle.open_files.specs.posix_tables.Outcomes.{answer, first, row}
use Rattle.open_files.specs.posix_spec.Put.{put_by}
use Rattle.open_files.specs.posix_spec.Run.{after_call}
use Rattle.open_files.specs.posix_spec.State.{alone, space, State}
use Rattle.open_files.specs.posix_spec.Step.{is_busy, open_done, step, stepped}
use Rattle.live_step_laws.specs.crash_spec.Posix.{is_fsync, is_ok}
use Rattle.live_step_laws.specs.k_split_laws.Steps.{plain_file}
use Rattle.batch_laws.specs.Changes.{PutsNone}
use Rattle.batch_laws.specs.QuietLaws.{still_puts_none}
use Rattle.file_calls.specs.Answers.{IsEnded, IsMissing, stat_by, told_of_open}
use Rattle.file_calls.specs.Gathers.{IsItemOf}
use Rattle.file_calls.specs.Runs.{RunsInSome, with_files}
use Rattle.file_calls.specs.declared.names.outcomes.Told.{Told}
use Rattle.file_calls.proofs.Alike.{EndsAlike, stays_alike}
use Rattle.file_calls.proofs.OpenCalls.{opened_ended, opening_of, used_there}
use Rattle.file_calls.proofs.Paths.{found_rows, missing, open_lost_rows, open_missing_rows, open_there_rows, parent_rows}
use Rattle.file_calls.proofs.Seen.{IsSeenAs, rows_seen}

-- an inode that is there, and one that is free
some_line : (b : Bool) (y x : Inode) → (if b then None else Some y) ≡ Some x → x ≡ y
some_line true y x is = cc
some_line false y x is = cc

no_some : (b : Bool) (y : Inode) → (if b then None else Some y) ≡ None → b ≡ true
no_some true y is = refl
no_some false y is = cc

pub line_there : (v : Volume) (ino : ℕ) (x : Inode) → inode_at v ino ≡ Some x → x ≡ inode v ino
line_there v ino x is = some_line (is_free (inode v ino).kind) (inode v ino) x is

free_stat : (kind : Kind) (size : ℕ) → is_free kind ≡ true → stat_by kind size ≡ Stat.Directory
free_stat Free size is = refl
free_stat Directory size is = refl
free_stat File size is = cc
free_stat Staging size is = refl

pub line_free : (v : Volume) (ino size : ℕ) → inode_at v ino ≡ None → stat_by (inode v ino).kind size ≡ Stat.Directory
line_free v ino size is = free_stat (inode v ino).kind size (no_some (is_free (inode v ino).kind) (inode v ino) is)

free_directory : (kind : Kind) → is_free kind ≡ true → is_directory kind ≡ false
free_directory Free is = refl
free_directory Directory is = cc
free_directory File is = refl
free_directory Staging is = refl

pub line_free_directory : (v : Volume) (ino : ℕ) → inode_at v ino ≡ None → is_directory_in v.inodes ino ≡ false
line_free_directory v ino is = free_directory (inode v ino).kind (no_some (is_free (inode v ino).kind) (inode v ino) is)

-- ---- open: what is found, and what is missing

-- a path to a directory that leads nowhere
pub missing_at : (v : Volume) (p : List (List ℕ)) (errno : Errno) (parent : ℕ) → IsFound v p (Err errno) → IsLed v p (Ok parent) → IsMissing v p
missing_at v p errno parent found there = let rows_are = parent_rows v p parent there in record { short = rows_are.0; walked = rows_are.1; none = missing v p errno parent found there }

pub plain_found : (k : View) (t : Tables) (fs : Files) (p : List (List ℕ)) (ino : ℕ) → RunsInSome k t fs → IsFound k.volume p (Ok ino) → is_directory_in k.volume.inodes ino ≡ false → (inode k.volume ino).kind ≡ File
plain_found k t fs p ino some found plain =
    plain_file (inode k.volume ino).kind (used_there some.geometry_is k t (with_files some.kept fs) some.made some.state some.runs p ino found.1) plain

-- an `open` behind which all nodes are as they were puts nothing
open_puts_none : (h : Handle) (p : List (List ℕ)) (f : Flags) (s : State) (item : Item) → item.call ≡ Call.Open h p f → (after_call s (item.who, item.call)).nodes ≡ s.nodes → PutsNone s item
unfolding put_by
open_puts_none h p f s item is same = still_puts_none s item same (ap (put_by s item.who) is) (ap (λ c. is_fsync c && is_ok item.reply) is)

module _ (who : Who) (h : Handle) (p : List (List ℕ)) (f : Flags) (k : View) (t : Tables) (fs : Files) where
  -- its rows in the state
  row_seen : (s : State) (seen : IsSeenAs k t fs s) → first (open_rows (space s) (is_full s.tables) (is_busy alone s p) p f) ≡ first (open_rows (volume_space k.volume) (is_full t) false p f)
  row_seen s seen = ap (λ full. first (open_rows (space s) full false p f)) (ap is_full seen.tables) ∙ ap first (sym ((rows_seen k t fs s seen).open_ (is_full t) false p f))

  pub refused_seen : (o : Outcome) → first (open_rows (volume_space k.volume) (is_full t) false p f) ≡ Some o → (s : State) → IsSeenAs k t fs s → step s who (Call.Open h p f) ≡ record { state = s; outcome = o }
  refused_seen o is s seen = ap (λ y. stepped s y (open_done s who h p f)) (row_seen s seen ∙ is)

  pub step_seen : first (open_rows (volume_space k.volume) (is_full t) false p f) ≡ None → (s : State) → IsSeenAs k t fs s → step s who (Call.Open h p f) ≡ open_done s who h p f
  step_seen none s seen = ap (λ y. stepped s y (open_done s who h p f)) (row_seen s seen ∙ none)

  pub opens_quietly : (o : Outcome) (s : State) (item : Item) → IsItemOf who (Call.Open h p f) o item → (step s who (Call.Open h p f)).state.nodes ≡ s.nodes → PutsNone s item
  opens_quietly o s item item_is same = open_puts_none h p f s item item_is.1 ((λ i. (step s (item_is.0 i) (item_is.1 i)).state.nodes) ∙ same)

  pub refused_puts : (o : Outcome) → first (open_rows (volume_space k.volume) (is_full t) false p f) ≡ Some o → (s : State) (item : Item) → IsSeenAs k t fs s → IsItemOf who (Call.Open h p f) o item → PutsNone s item
  refused_puts o is s item seen item_is = opens_quietly o s item item_is (ap (λ y. y.state.nodes) (refused_seen o is s seen))

  -- a row refuses it
  open_by_row : (errno : Errno) → first (open_rows (volume_space k.volume) (is_full t) false p f) ≡ Some (answer (Reply.Error errno)) → EndsAlike who (Call.Open h p f) k t t fs (Ok (Told.Answered (answer (Reply.Error errno))))
  open_by_row errno row_is = stays_alike who (Call.Open h p f) k t fs (answer (Reply.Error errno)) (refused_puts (answer (Reply.Error errno)) row_is) (refused_seen (answer (Reply.Error errno)) row_is)

  pub open_lost : (errno : Errno) → IsLed k.volume p (Err errno) → EndsAlike who (Call.Open h p f) k t t fs (Ok (Told.Answered (answer (Reply.Error errno))))
  open_lost errno lost = open_by_row errno (open_lost_rows k.volume (is_full t) p f errno lost)

  pub there_rows : (ino : ℕ) → IsFound k.volume p (Ok ino)
      → first (open_rows (volume_space k.volume) (is_full t) false p f) ≡ first (row (f.create && f.exclusive) Errno.EEXIST ∷ row (is_directory_in k.volume.inodes ino) Errno.EISDIR ∷ row (is_full t) Errno.EMFILE ∷ [])
  there_rows ino found = let rows_are = found_rows k.volume p ino found in open_there_rows (volume_space k.volume) (is_full t) p f ino rows_are.0 rows_are.1 found.1

  pub open_exists : (ino : ℕ) → IsFound k.volume p (Ok ino) → (f.create && f.exclusive) ≡ true → EndsAlike who (Call.Open h p f) k t t fs (Ok (Told.Answered (answer (Reply.Error Errno.EEXIST))))
  open_exists ino found exclusive =
      open_by_row Errno.EEXIST (there_rows ino found ∙ ap (λ b. first (row b Errno.EEXIST ∷ row (is_directory_in k.volume.inodes ino) Errno.EISDIR ∷ row (is_full t) Errno.EMFILE ∷ [])) exclusive)

  pub open_directory : (ino : ℕ) → IsFound k.volume p (Ok ino) → (f.create && f.exclusive) ≡ false → is_directory_in k.volume.inodes ino ≡ true
      → EndsAlike who (Call.Open h p f) k t t fs (Ok (Told.Answered (answer (Reply.Error Errno.EISDIR))))
  open_directory ino found shared directory =
      open_by_row Errno.EISDIR (there_rows ino found ∙ (λ i. first (row (shared i) Errno.EEXIST ∷ row (directory i) Errno.EISDIR ∷ row (is_full t) Errno.EMFILE ∷ [])))

  pub open_found_full : (ino : ℕ) → IsFound k.volume p (Ok ino) → (f.create && f.exclusive) ≡ false → is_directory_in k.volume.inodes ino ≡ false → is_full t ≡ true
      → EndsAlike who (Call.Open h p f) k t t fs (Ok (Told.Answered (answer (Reply.Error Errno.EMFILE))))
  open_found_full ino found shared plain full =
      open_by_row Errno.EMFILE (there_rows ino found ∙ (λ i. first (row (shared i) Errno.EEXIST ∷ row (plain i) Errno.EISDIR ∷ row (full i) Errno.EMFILE ∷ [])))

  pub free_unfull : (fd : ℕ) → free_descriptor t ≡ Some fd → is_full t ≡ false
  free_unfull fd free = ap is_none free

  -- no row does
  pub open_found_none : (ino : ℕ) → IsFound k.volume p (Ok ino) → (f.create && f.exclusive) ≡ false → (inode k.volume ino).kind ≡ File → is_full t ≡ false
      → first (open_rows (volume_space k.volume) (is_full t) false p f) ≡ None
  open_found_none ino found shared file unfull =
      there_rows ino found ∙ (λ i. first (row (shared i) Errno.EEXIST ∷ row (is_directory (file i)) Errno.EISDIR ∷ row (unfull i) Errno.EMFILE ∷ []))

  pub open_found_done : (ino fd : ℕ) (t2 : Tables) (power : Supply) → is_on power ≡ true → IsFound k.volume p (Ok ino) → (f.create && f.exclusive) ≡ false → (inode k.volume ino).kind ≡ File → (f.truncate ≡ true → size_in fs ino ≡ 0)
      → free_descriptor t ≡ Some fd → t2 ≡ with_opened t who h (opening_of ino f) → IsEnded who (Call.Open h p f) k t fs k t2 fs power power (Ok (Told.Answered (answer (Reply.Fd fd))))
  open_found_done ino fd t2 power on found shared file stays free t2_is =
      opened_ended who h p f k t fs ino found file stays t2 fd power power (open_found_none ino found shared file (free_unfull fd free)) free t2_is on

  -- the open files refuse it
  pub open_found_fault : (ino : ℕ) (t2 : Tables) (files : OpenState) (fault : OpenFault) → files.tables ≡ t → t2 ≡ t → IsFound k.volume p (Ok ino) → (f.create && f.exclusive) ≡ false → is_directory_in k.volume.inodes ino ≡ false
      → IsOpenFault files fault → EndsAlike who (Call.Open h p f) k t t2 fs (told_of_open fault)
  open_found_fault ino t2 files (OpenFault.Full count) files_are t2_is found shared plain is =
      subst (λ x. EndsAlike who (Call.Open h p f) k t x fs (Ok (Told.Answered (answer (Reply.Error Errno.EMFILE))))) (sym t2_is)
      (open_found_full ino found shared plain (ap is_full (sym files_are) ∙ is.1))
  open_found_fault ino t2 files OpenFault.NotOpen files_are t2_is found shared plain is = absurd is
  open_found_fault ino t2 files OpenFault.NoMemory files_are t2_is found shared plain is = record { ended = λ power on. (refl, t2_is, refl, refl); gathers = λ a power on. on }

  pub missing_rows : IsMissing k.volume p
      → first (open_rows (volume_space k.volume) (is_full t) false p f) ≡ first (row (not f.create) Errno.ENOENT ∷ row (is_full t) Errno.EMFILE ∷ no_node (volume_space k.volume) ∷ no_line (volume_space k.volume) p ∷ [])
  missing_rows is = open_missing_rows (volume_space k.volume) (is_full t) p f is.short is.walked is.none

  pub open_missing_stays : IsMissing k.volume p → f.create ≡ false → EndsAlike who (Call.Open h p f) k t t fs (Ok (Told.Answered (answer (Reply.Error Errno.ENOENT))))
  open_missing_stays is create =
      open_by_row Errno.ENOENT
      (missing_rows is ∙ ap (λ b. first (row (not b) Errno.ENOENT ∷ row (is_full t) Errno.EMFILE ∷ no_node (volume_space k.volume) ∷ no_line (volume_space k.volume) p ∷ [])) create)

  pub open_missing_full : IsMissing k.volume p → f.create ≡ true → is_full t ≡ true → EndsAlike who (Call.Open h p f) k t t fs (Ok (Told.Answered (answer (Reply.Error Errno.EMFILE))))
  open_missing_full is create full =
      open_by_row Errno.EMFILE
      (missing_rows is ∙ (λ i. first (row (not (create i)) Errno.ENOENT ∷ row (full i) Errno.EMFILE ∷ no_node (volume_space k.volume) ∷ no_line (volume_space k.volume) p ∷ [])))

-- with room and a free descriptor the open files refuse nothing
pub no_open_fault : (files : OpenState) (fault : OpenFault) → is_full files.tables ≡ false → files.has_room ≡ true → IsOpenFault files fault → ⊥
no_open_fault files (OpenFault.Full count) unfull roomy is = let never : true ≡ false = sym is.1 ∙ unfull in cc
no_open_fault files OpenFault.NotOpen unfull roomy is = is
no_open_fault files OpenFault.NoMemory unfull roomy is = let never : true ≡ false = sym roomy ∙ is.1 in cc

pub set_flag : (b : Bool) → not b ≡ false → b ≡ true
set_flag true is = refl
set_flag false is = cc

pub clear_flag : (b : Bool) → not b ≡ true → b ≡ false
clear_flag true is = cc
clear_flag false is = refl

-- a file that is cut, and one that is not
pub cuts_of : (truncate : Bool) (size : ℕ) → (truncate && nat_lt 0 size) ≡ true → truncate ≡ true
cuts_of true size is = refl
cuts_of false size is = cc

pub no_cut : (truncate : Bool) (size : ℕ) → truncate ≡ true → (truncate && nat_lt 0 size) ≡ false → size ≡ 0
no_cut true size cuts is = let least = ltb-false 0 size is in omega (arith, least)
no_cut false size cuts is = cc
