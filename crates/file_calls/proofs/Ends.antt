-- The log's base stays, and nothing comes to lie past the end of a file.
use Rattle.std.specs.Prelude.{◌≡◌, ◌<◌, ℕ, Bool, true, false, List, [], length, Option, None, Some, Result, Ok, Err, refl, if◌then◌else◌}
use Rattle.std.proofs.Common.{arith, ap, ◌∙◌, sym, subst, inl, inr}
use Rattle.eof_laws.specs.pm_model.Powers.{is_on, Supply}
use Rattle.layout_model.specs.Lines.{NameRow}
use Rattle.eof_laws.specs.image_model.Volume.{Volume}
use Rattle.eof_laws.proofs.Ending.{end_dropped, end_made, end_removed, end_renamed, end_sized, end_unlinked, free_has_no_map}
use Rattle.eof_laws.specs.Ends.{FilesEnd, FreeHaveNone}
use Rattle.eof_laws.specs.file_table.Files.{ChangesFile, Files}
use Rattle.eof_laws.specs.k_split_model.ChangesChanges.{renamed_over_directory, renamed_over_file}
use Rattle.eof_laws.specs.k_split_model.Spaces.{is_directory_in}
use Rattle.eof_laws.specs.k_split_model.Stands.{Stands}
use Rattle.eof_laws.specs.k_split_model.View.{View}
use Rattle.live_step_laws.specs.k_plans.Renaming.{renamed_over}
use Rattle.live_step_laws.specs.k_tables.declared.tables.removing.Entry.{Entry}
use Rattle.live_step_laws.specs.volume_change_laws.CallLaws.{row_to}
use Rattle.live_step_laws.specs.k_split.declared.faults.KFault.{KFault}
use Rattle.live_step_laws.specs.k_split.Answers.{IsAnswer, IsPaid}
use Rattle.live_step_laws.specs.k_split.MapChanges.{IsSizeAnswer}
use Rattle.live_step_laws.specs.k_split.Names.{IsDropAnswer, IsMakeAnswer, IsRenameAnswer, IsRmdirAnswer, IsUnlinkAnswer}
use Rattle.posix_types.specs.declared.item.Outcome.{Outcome}
use Rattle.open_files.specs.posix_tables.Open.{Tables}
use Rattle.file_calls.specs.Answers.{KeepsEnds}
use Rattle.file_calls.specs.Runs.{RunsInSome}

-- nothing was done
pub same_ends : (k k2 : View) (f : Files) (new : Supply) → k2 ≡ k → KeepsEnds k f k2 f new
same_ends k k2 f new same on = (ap (λ (z : View). z.volume.base) same, λ ends. subst (λ z. FilesEnd z.volume f) (sym same) ends)

-- one change, and then another
pub ends_then : (k k1 k2 : View) (f f1 f2 : Files) (new : Supply) → (k1.volume.base ≡ k.volume.base) × (FilesEnd k.volume f → FilesEnd k1.volume f1) → KeepsEnds k1 f1 k2 f2 new → KeepsEnds k f k2 f2 new
ends_then k k1 k2 f f1 f2 new one two on = let later = two on in (later.0 ∙ one.0, λ ends. later.1 (one.1 ends))

pub off_on : (new : Supply) → is_on new ≡ false → is_on new ≡ true → ⊥
off_on new off on = let never : false ≡ true = sym off ∙ on in cc

-- a fault of K-Split
pub fault_ends : {T : Type 0} (row : Option Outcome) (Makes : T → Volume → Type 0) (k k2 : View) (f : Files) (old new : Supply) (fault : KFault)
    → (let r : Result T KFault = Err fault in IsAnswer row Makes k k2 r × IsPaid row old new r) → KeepsEnds k f k2 f new
fault_ends row Makes k k2 f old new (KFault.Refused errno) is = same_ends k k2 f new is.0.1
fault_ends row Makes k k2 f old new (KFault.Room room) is = same_ends k k2 f new is.0.1
fault_ends row Makes k k2 f old new KFault.NoMemory is = same_ends k k2 f new is.0.1
fault_ends row Makes k k2 f old new KFault.PowerLost is = λ on. absurd (off_on new is.1 on)

-- free inodes have no map
free_bare : (k : View) (t : Tables) (f : Files) → RunsInSome k t f → FreeHaveNone k.volume
free_bare k t f some =
    free_has_no_map k.volume k.cells (subst (λ u. Stands u.geometry u k.cells) (some.runs.order.settled some.runs.unbatched) some.runs.order.stands) some.runs.order.whole

pub make_ends : (directory : Bool) (p : List (List ℕ)) (k k2 : View) (t : Tables) (f : Files) (new : Supply) (ino : ℕ) → RunsInSome k t f → IsMakeAnswer directory p k k2 (Ok ino) → KeepsEnds k f k2 f new
make_ends directory p k k2 t f new ino some is on =
    (ap (λ (v : Volume). v.base) is.1.is_made, λ ends. end_made directory p k.volume k2.volume ino f (free_bare k t f some) is.1 ends)

pub rmdir_ends : (p : List (List ℕ)) (k k2 : View) (f : Files) (new : Supply) → IsRmdirAnswer p k k2 (Ok tt) → KeepsEnds k f k2 f new
rmdir_ends p k k2 f new is on = (ap (λ (v : Volume). v.base) is.1.is_removed, λ ends. end_removed p k.volume k2.volume f is.1 ends)

pub unlink_ends : (p : List (List ℕ)) (k k2 : View) (f : Files) (ino : ℕ) → IsUnlinkAnswer p k k2 (Ok ino) → (k2.volume.base ≡ k.volume.base) × (FilesEnd k.volume f → FilesEnd k2.volume f)
unlink_ends p k k2 f ino is = (ap (λ (v : Volume). v.base) is.1.is_unlinked, λ ends. end_unlinked p k.volume k2.volume ino f is.1 ends)

-- a name line with another row
base_over : (line : ℕ) (r : NameRow) (target : Option Entry) (v : Volume) → (renamed_over line r target v).base ≡ v.base
base_over line r None v = refl
base_over line r (Some target) v = by (is_directory_in v.inodes target.child) where
  by : (b : Bool) → (if b then renamed_over_directory line r target.line target.child v else renamed_over_file line r target.line v).base ≡ v.base
  by true = refl
  by false = refl

pub rename_ends : (p q : List (List ℕ)) (k k2 : View) (f : Files) (lost : Option ℕ) → IsRenameAnswer p q k k2 (Ok lost) → (k2.volume.base ≡ k.volume.base) × (FilesEnd k.volume f → FilesEnd k2.volume f)
rename_ends p q k k2 f lost (inl idle) = (ap (λ (z : View). z.volume.base) idle.same, λ ends. subst (λ z. FilesEnd z.volume f) (sym idle.same) ends)
rename_ends p q k k2 f lost (inr is) =
    (ap (λ (v : Volume). v.base) is.1.is_renamed ∙ base_over is.1.moving.entry.line (row_to q is.1.moving.parent is.1.moving.entry.child) is.1.moving.target k.volume, λ ends. end_renamed p q k.volume k2.volume lost f is.1 ends)

pub drop_ends : (ino : ℕ) (k k2 : View) (f f2 : Files) (new : Supply) → ino < length k.volume.inodes → IsDropAnswer ino k k2 (Ok tt) → ChangesFile ino [] 0 f f2 → KeepsEnds k f k2 f2 new
drop_ends ino k k2 f f2 new below is cleared on =
    (ap (λ (v : Volume). v.base) is.1, λ ends. subst (λ v. FilesEnd v f2) (sym is.1) (end_dropped ino k.volume f f2 below cleared ends))

pub cut_ends : (ino : ℕ) (k k2 : View) (t : Tables) (f f2 : Files) (new : Supply) → RunsInSome k t f → ino < length k.volume.inodes → IsSizeAnswer ino 0 k k2 (Ok tt) → ChangesFile ino [] 0 f f2 → KeepsEnds k f k2 f2 new
cut_ends ino k k2 t f f2 new some below is cleared on =
    (ap (λ (v : Volume). v.base) is.1.sized.is_sized, λ ends. end_sized _ ino 0 k.volume k2.volume f f2 below (omega (arith, below, some.runs.sizes.count)) some.runs.order.whole is.1.sized cleared ends)

-- a size that was not given
pub size_fault_ends : (ino size : ℕ) (k k2 : View) (f : Files) (old new : Supply) (fault : KFault) → (let r : Result (Unit {0}) KFault = Err fault in IsSizeAnswer ino size k k2 r × IsPaid None old new r) → KeepsEnds k f k2 f new
size_fault_ends ino size k k2 f old new (KFault.Refused errno) is = absurd is.0
size_fault_ends ino size k k2 f old new (KFault.Room room) is = absurd is.0
size_fault_ends ino size k k2 f old new KFault.NoMemory is = same_ends k k2 f new is.0
size_fault_ends ino size k k2 f old new KFault.PowerLost is = λ on. absurd (off_on new is.1 on)
