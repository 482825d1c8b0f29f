-- The World over K-Split between two calls, and what one change of the volume makes of it.
use Rattle.std.specs.Prelude.{◌≡◌, ◌≢◌, ◌≤◌, ℕ, true, false, List, [], map, Option, None, Some, if◌then◌else◌}
use Rattle.world_write_laws.specs.world_step_laws.layout_model.declared.lines.Draft.{Draft}
use Rattle.world_write_laws.specs.world_step_laws.layout_model.declared.lines.Kind.TheVariants.{File, Staging}
use Rattle.world_write_laws.specs.world_step_laws.image_model.Live.{is_live}
use Rattle.world_write_laws.specs.world_step_laws.image_model.Room.{unused_blocks}
use Rattle.world_write_laws.specs.world_step_laws.image_model.Volume.{extents, inode, Volume}
use Rattle.world_write_laws.specs.world_step_laws.k_split_model.Spaces.{is_directory_in}
use Rattle.world_write_laws.specs.world_step_laws.k_split_model.View.{View}
use Rattle.k_split.specs.k_tables.declared.tables.removing.Entry.{Entry}
use Rattle.k_split.specs.Order.{IsInOrder}
use Rattle.world_write_laws.specs.world_step_laws.posix_types.declared.call.Call.{Call}
use Rattle.world_write_laws.specs.world_step_laws.posix_types.declared.call.Who.{Who}
use Rattle.world_write_laws.specs.world_step_laws.posix_types.declared.item.Outcome.{Outcome}
use Rattle.world_write_laws.specs.world_step_laws.posix_tables.NameRows.{mkdir_rows, rename_rows, rmdir_rows, unlink_rows}
use Rattle.world_write_laws.specs.world_step_laws.posix_tables.Names.{Space}
use Rattle.world_write_laws.specs.world_step_laws.posix_tables.Outcomes.{first}
use Rattle.world_write_laws.specs.world_step_laws.posix_spec.Run.{after_call}
use Rattle.world_write_laws.specs.world_step_laws.posix_spec.State.{State}
use Rattle.world_write_laws.specs.world_step_laws.posix_spec.Step.{renamed as renamed_state}
use Rattle.world_write_laws.specs.world_step_laws.list_laws.Members.{In}
use Rattle.world_write_laws.specs.world_step_laws.world_model.Jobs.{Job, live_claims}
use Rattle.world_write_laws.specs.world_step_laws.world_model.Stands.{entries_of}
use Rattle.world_image_laws.specs.Images.{HasRoom, StandsFor}
use Rattle.world_image_laws.specs.ImagesLaws.{Takes}

-- THE WORLD GOES ON: K-Split is in order, each change is committed at once, the power is on, and its device stands for the
-- state, with these claims in the log and these writes in flight, whatever is in the log lines.
pub record IsGoing (k : View) (claims : List (ℕ × Draft)) (jobs : List Job) (numbers : List ℕ) (s : State) (count : ℕ) : Type 0 where
  pub order : IsInOrder k
  pub unbatched : k.batched ≡ false
  pub on : k.lost ≡ false
  pub device : StandsFor k.volume k.cells claims jobs numbers s count

-- What a change leaves, which makes, cuts or drops at most one file or directory: the lines of all other inodes, among them
-- those of staging files; of the file
-- that it made or cut no live entry; no claim comes to life; what a file has applied does not rise; and at least as many blocks
-- are free.
pub record LeavesFiles (touched : Option ℕ) (v w : Volume) (claims : List (ℕ × Draft)) : Type 0 where
  pub others : (i : ℕ) → touched ≢ Some i → inode w i ≡ inode v i
  pub plain : (t : ℕ) → touched ≡ Some t → (inode v t).kind ≢ Staging
  pub own : (ino : ℕ) → touched ≡ Some ino → (inode w ino).kind ≡ File → entries_of ino (live_claims w claims) ≡ []
  pub fewer : (d : Draft) → In d (map (λ (c : ℕ × Draft). c.1) claims) → is_live w d ≡ true → is_live v d ≡ true
  pub applied : (i : ℕ) → (inode w i).applied ≤ (inode v i).applied
  pub frees : unused_blocks v ≤ unused_blocks w

-- One change takes the volume and the state on: the geometry and the lap stay, and the maps of staging files; other files are
-- left; room is left, and a valid World becomes one.
pub record IsStep (touched : Option ℕ) (v w : Volume) (claims : List (ℕ × Draft)) (jobs : List Job) (numbers after : List ℕ) (s next : State) (count later : ℕ) : Type 0 where
  pub geometry : w.geometry ≡ v.geometry
  pub base : w.base ≡ v.base
  pub staging : (ino : ℕ) → (inode v ino).kind ≡ Staging → extents w ino ≡ extents v ino
  pub leaves : LeavesFiles touched v w claims
  pub room : HasRoom w claims jobs next
  pub takes : Takes v w claims jobs numbers after s next count later

-- what a rename drops: the directory that stood at the new path, if one did
abbrev pub gone_by : Volume → Option Entry → Option ℕ
gone_by v None = None
gone_by v (Some target) = if is_directory_in v.inodes target.child then Some target.child else None

-- the state after the first change of a `rename`: the call's end, unless a file lost its name, which stays so far
abbrev pub moved_so_far : Option ℕ → State → Who → List (List ℕ) → List (List ℕ) → State
moved_so_far None s who p q = after_call s (who, Call.Rename p q)
moved_so_far (Some ino) s who p q = record s { entries = (renamed_state s p q).entries }

-- the calls that make, remove or move a name, and by which row each is refused
abbrev pub IsNameCall : Call → Type 0
IsNameCall (Call.Mkdir p) = Unit {0}
IsNameCall (Call.Rmdir p) = Unit {0}
IsNameCall (Call.Unlink p) = Unit {0}
IsNameCall (Call.Rename p q) = Unit {0}
IsNameCall call = ⊥

abbrev pub row_of_call : Space → Call → Option Outcome
row_of_call space (Call.Mkdir p) = first (mkdir_rows space p)
row_of_call space (Call.Rmdir p) = first (rmdir_rows space p)
row_of_call space (Call.Unlink p) = first (unlink_rows space p)
row_of_call space (Call.Rename p q) = first (rename_rows space p q)
row_of_call space call = None
