-- What the parts of a job answer.
use Rattle.std.specs.Prelude.{◌≡◌, ◌≢◌, ◌⊎◌, ⊤, ℕ, false, List, Option, Some}
use Rattle.outside.specs.Outside.{FileList}
use Rattle.command_line.specs.script_text.Scripts.{bad_line}
use Rattle.command_line.specs.Command.{Command}
use Rattle.command_line.specs.declared.commands.commands.Command as words
use Rattle.command_line.specs.declared.statuses.statuses.Status.{Status}
use Rattle.command_line.specs.pm_model.declared.Cell.{Cell}
use Rattle.split_top.specs.declared.opening.Opened.{Opened}
use Rattle.split_top.specs.Devices.{CanMount, IsDeviceOf}
use Rattle.split_top.specs.Images.{IsFreshImage, IsRefused}
use Rattle.split_top.specs.Top.{BreaksGrammar, BreaksRule, Completes, IsCutShort, IsDone, IsMissing, IsRefusal, IsReplacedBy, Keeps, load_numbers, MayFail, Replaces}

-- the command is no run by threads
abbrev pub IsAlone : words.Command → Type 0
IsAlone (words.Command.Step image script options) = options.by_threads ≡ false
IsAlone command = ⊤

-- a file was not read
abbrev pub IsUnread : Status → Type 0
IsUnread (Status.NoSuchFile name) = ⊤
IsUnread Status.ReadFault = ⊤
IsUnread Status.NoMemory = ⊤
IsUnread status = ⊥

-- a script was not run
abbrev pub IsUnrun : List ℕ → Status → Type 0
IsUnrun bytes (Status.BadScript line) = bad_line bytes ≡ Some line
IsUnrun bytes Status.NoMemory = ⊤
IsUnrun bytes status = ⊥

-- an image was not opened
abbrev pub IsUnopened : List ℕ → Status → Type 0
IsUnopened bytes (Status.BadImage rule place) = IsRefused bytes rule place
IsUnopened bytes Status.NoMemory = ⊤
IsUnopened bytes status = ⊥

-- the fresh image of a load became this device
pub record IsOpenedFresh (opened : Opened) : Type 0 where
  pub image : List ℕ
  pub is_fresh : IsFreshImage load_numbers image
  pub device : IsDeviceOf image opened.pm
  pub numbers : opened.geometry ≡ load_numbers
  pub mounts : CanMount opened.geometry opened.pm

-- an image was not kept
abbrev pub IsUnkept : Status → Type 0
IsUnkept Status.WriteFault = ⊤
IsUnkept Status.NoMemory = ⊤
IsUnkept status = ⊥

-- the image of the device that was left is the file of this name, where a name is given, and every other file is as before
pub record IsKept (name : Option (List ℕ)) (d : List Cell) (old new : Option FileList) : Type 0 where
  pub kept : List ℕ
  pub is_image : IsDeviceOf kept d
  pub keeps : Keeps name kept old new

-- an output was put, or not
abbrev pub IsPutOrNot : Status → Type 0
IsPutOrNot Status.Done = ⊤
IsPutOrNot Status.WriteFault = ⊤
IsPutOrNot Status.NoMemory = ⊤
IsPutOrNot status = ⊥

-- WHAT THE ANSWER TO A COMMAND SAYS: of the files before and after, of what the sink has before and after, and of three
-- counts: whether that of missing files rose, that of failures of the files, and that of failures of the sink.
pub record IsAnswer (c : Command) (files left : Option FileList) (old new : Option (List ℕ)) (Missed Failed Refused : Type 0) (status : Status) : Type 0 where
  pub usage : status ≢ Status.Usage
  pub no_such_file : (name : List ℕ) → status ≡ Status.NoSuchFile name → IsMissing c files name × Missed
  pub bad_image : (rule place : ℕ) → status ≡ Status.BadImage rule place → BreaksRule c files rule place
  pub bad_script : (line : ℕ) → status ≡ Status.BadScript line → BreaksGrammar c files line
  pub read_fault : status ≡ Status.ReadFault → MayFail c files × Failed
  pub write_fault : status ≡ Status.WriteFault → Refused ⊎ (Replaces c × Failed)
  pub done : status ≡ Status.Done → IsDone c files left old new
  pub kept : (left ≡ files) ⊎ IsReplacedBy c files left
  pub front : (status ≡ Status.WriteFault) ⊎ (status ≡ Status.NoMemory) → ((left ≡ files) × (new ≡ old)) ⊎ IsCutShort c files left old new
  pub nothing : IsRefusal status → (left ≡ files) × (new ≡ old)
  pub complete : ¬ Failed → ¬ Refused → Completes c files status
