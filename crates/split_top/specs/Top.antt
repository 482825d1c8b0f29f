-- What the statuses of the top call say.
use Rattle.std.specs.Prelude.{◌≡◌, ◌⊎◌, ◌↔◌, ⊤, ℕ, true, List, ◌++◌, Option, Some, None, IsSome}
use Rattle.outside.specs.Outside.{FileList, AreOfFile, IsAbsent, IsReplaced, Takes, TakesFront, bytes_named}
use Rattle.command_line.specs.pm_model.Words.{word_at}
use Rattle.split_machine.specs.image_model.Rules.{geometry_of}
use Rattle.command_line.specs.layout_model.Places.{Geometry}
use Rattle.posix_types.specs.declared.item.Item.{Item}
use Rattle.posix_types.specs.declared.reply.Shape.{Shape}
use Rattle.posix_types.specs.declared.tree.TreeEntry.{TreeEntry}
use Rattle.posix_types.specs.Scripts.{Scripts}
use Rattle.command_line.specs.posix_spec.Run.{Unfinished}
use Rattle.split_machine.specs.world_image_laws.BeginningLaws.{IsShapeOf}
use Rattle.report_text.specs.Texts.{history_text, tree_text}
use Rattle.command_line.specs.script_text.Scripts.{bad_line, scripts_of}
use Rattle.command_line.specs.Command.{Command, Mkfs, Tree, Step, Load, Loading, Image, Fresh, Options, options_in, Stored, Run, command_of}
use Rattle.command_line.specs.image_layout.Numbers.{numbered}
use Rattle.split_cases.specs.Load.{load_scripts}
use Rattle.split_cases.specs.Summary.{summary_text}
use Rattle.split_top.specs.Images.{AreOfImage, blocks_text, CanOpen, IsFreshImage, IsMade, IsMounted, IsRefused, IsTreeText, ShowsTree}
use Rattle.split_top.specs.Runs.{IsRunBy, Task, task_on}
use Rattle.command_line.specs.declared.statuses.statuses.Status.{Status}

-- THE WORDS ARE A COMMAND of which this holds.
pub record Says (words : List (List ℕ)) (Holds : Command → Type 0) : Type 0 where
  pub command : Command
  pub is_command : command_of words ≡ Some command
  pub holds : Holds command

-- ---- what is done
-- how a run is told: of its history, and of the tree that was left
abbrev pub Printer : Type 0
Printer = List Item → List TreeEntry → List ℕ

-- `step` tells the history, and then the tree
abbrev pub step_text : Printer
step_text history left = history_text history ++ tree_text left

-- WHAT A RUN PUTS AND LEAVES: what its printer tells, and an image with these numbers and the tree that was left, as a
-- mount leaves it.
pub record IsOutcome (g : Geometry) (task : Task) (options : Options) (print : Printer)
    (output kept : List ℕ) : Type 0 where
  pub history : List Item
  pub unfinished : List Unfinished
  pub left : List TreeEntry
  pub is_run : IsRunBy options.by_threads task options history unfinished left
  pub is_text : output ≡ print history left
  pub is_kept : IsMounted kept left
  pub numbers : geometry_of (word_at kept) ≡ g

-- A RUN ON AN IMAGE with these numbers: the image shows a tree, and a run of the scripts that begins with this tree puts this and
-- leaves this image.
pub record IsRunOn (image : List ℕ) (g : Geometry) (scripts : Scripts) (options : Options) (print : Printer)
    (output kept : List ℕ) : Type 0 where
  pub tree : List TreeEntry
  pub shows : ShowsTree image tree
  pub shape : Shape
  pub is_shape : IsShapeOf g shape
  pub outcome : IsOutcome g (task_on tree shape g.log scripts options.mode) options print output kept

-- the bytes are a script, and it is run
pub record IsScriptRunOn (image : List ℕ) (g : Geometry) (script : List ℕ) (options : Options)
    (output kept : List ℕ) : Type 0 where
  pub is_script : bad_line script ≡ None
  pub is_run : IsRunOn image g (scripts_of script) options step_text output kept

-- so the image and the script that the words name are run
pub record IsStepped (files : Option FileList) (run : Run) (output kept : List ℕ) : Type 0 where
  pub image : List ℕ
  pub is_image : AreOfImage files run.image image
  pub script : List ℕ
  pub is_read : AreOfFile files run.script script
  pub is_run : IsScriptRunOn image (geometry_of (word_at image)) script run.options output kept

-- the image that is left is the file of this name, and every other file is as before; or nothing is kept
abbrev pub Keeps : Option (List ℕ) → List ℕ → Option FileList → Option FileList → Type 0
Keeps None kept old new = new ≡ old
Keeps (Some name) kept old new = IsReplaced old new name kept

-- `step` and `run`: a run of the script on the image, which is kept where a name says so
pub record IsStepDone (run : Run) (old new : Option FileList) (output : List ℕ) : Type 0 where
  pub kept : List ℕ
  pub stepped : IsStepped old run output kept
  pub is_left : Keeps run.options.keep kept old new

-- `tree`: the bytes of the image have this tree, and no file changes
pub record IsTreeDone (image : Image) (old new : Option FileList) (output : List ℕ) : Type 0 where
  pub bytes : List ℕ
  pub is_read : AreOfImage old image bytes
  pub is_tree : IsTreeText bytes output
  pub is_left : new ≡ old

-- `mkfs`: the fresh image is the file of this name, and the line says its room
pub record IsMkfsDone (name : List ℕ) (g : Geometry) (old new : Option FileList) (output : List ℕ) : Type 0 where
  pub made : IsMade name g old new
  pub is_line : output ≡ blocks_text g

-- the numbers of the image on which a load runs
abbrev pub load_numbers : Geometry
load_numbers = numbered 4096 256 64 128

-- a load is a run of its scripts on a fresh image, its threads in turn, and tells the sums of its history and its tree
pub record IsLoaded (loading : Loading) (output : List ℕ) : Type 0 where
  pub image : List ℕ
  pub is_fresh : IsFreshImage load_numbers image
  pub kept : List ℕ
  pub is_run : IsRunOn image load_numbers (load_scripts loading.calls loading.threads) (options_in loading.mode) summary_text output kept

-- `load`: its scripts are run, and no file changes
pub record IsLoadDone (loading : Loading) (old new : Option FileList) (output : List ℕ) : Type 0 where
  pub loaded : IsLoaded loading output
  pub is_left : new ≡ old

-- WHAT A COMMAND DOES: what it leaves of the files, and what it puts
abbrev pub Does : Command → Option FileList → Option FileList → List ℕ → Type 0
Does (Mkfs name geometry) old new output = IsMkfsDone name geometry old new output
Does (Tree image) old new output = IsTreeDone image old new output
Does (Step run) old new output = IsStepDone run old new output
Does (Load loading) old new output = IsLoadDone loading old new output

-- `mkfs` replaces a file, and `step` where it keeps the image
abbrev pub Replaces : Command → Type 0
Replaces (Mkfs name geometry) = ⊤
Replaces (Tree image) = ⊥
Replaces (Step run) = IsSome run.options.keep
Replaces (Load loading) = ⊥

-- a command that replaces a file left the files as it does where it is done
pub record IsReplacedBy (c : Command) (files left : Option FileList) : Type 0 where
  pub replaces : Replaces c
  pub output : List ℕ
  pub does : Does c files left output

-- ---- the job was done, or was cut short
-- the files are as the job leaves them, and the sink took all of its output
pub record IsDone (c : Command) (files left : Option FileList) (old new : Option (List ℕ)) : Type 0 where
  pub output : List ℕ
  pub does : Does c files left output
  pub is_taken : Takes old new output

-- the files are as the job leaves them, and the sink took a front of its output
pub record IsCutShort (c : Command) (files left : Option FileList) (old new : Option (List ℕ)) : Type 0 where
  pub output : List ℕ
  pub does : Does c files left output
  pub is_front : TakesFront old new output

-- ---- why it was refused
-- the image is that of a file
abbrev pub IsStored : Image → Type 0
IsStored Fresh = ⊥
IsStored (Stored name) = ⊤

-- the image that the words name can be opened
pub record OpensImage (run : Run) (files : Option FileList) : Type 0 where
  pub image : List ℕ
  pub is_image : AreOfImage files run.image image
  pub can_open : CanOpen image

-- the file of the image has this name, and is not there, as far as the files are told
pub record IsMissingImage (image : Image) (files : Option FileList) (name : List ℕ) : Type 0 where
  pub is_named : image ≡ Stored name
  pub is_absent : IsAbsent files name

-- the image can be opened, and the script has this name, and is not there
pub record IsMissingScript (run : Run) (files : Option FileList) (name : List ℕ) : Type 0 where
  pub opens : OpensImage run files
  pub is_named : run.script ≡ name
  pub is_absent : IsAbsent files name

-- of an image and a script that are both missing the image is named
abbrev pub IsMissing : Command → Option FileList → List ℕ → Type 0
IsMissing (Mkfs stored geometry) files name = ⊥
IsMissing (Tree image) files name = IsMissingImage image files name
IsMissing (Step run) files name = IsMissingImage run.image files name ⊎ IsMissingScript run files name
IsMissing (Load loading) files name = ⊥

-- a read may fail: that of the image; or that of the script, behind an image that can be opened
abbrev pub MayFail : Command → Option FileList → Type 0
MayFail (Mkfs stored geometry) files = ⊥
MayFail (Tree image) files = IsStored image
MayFail (Step run) files = IsStored run.image ⊎ OpensImage run files
MayFail (Load loading) files = ⊥

-- the bytes of the image are refused, by this rule at this place
pub record IsBadImage (image : Image) (files : Option FileList) (rule place : ℕ) : Type 0 where
  pub bytes : List ℕ
  pub is_read : AreOfImage files image bytes
  pub is_refused : IsRefused bytes rule place

abbrev pub BreaksRule : Command → Option FileList → ℕ → ℕ → Type 0
BreaksRule (Mkfs name geometry) files rule place = ⊥
BreaksRule (Tree image) files rule place = IsBadImage image files rule place
BreaksRule (Step run) files rule place = IsBadImage run.image files rule place
BreaksRule (Load loading) files rule place = ⊥

-- the image can be opened, and this line of the script is the first that breaks the grammar
pub record IsBadScript (run : Run) (files : Option FileList) (line : ℕ) : Type 0 where
  pub opens : OpensImage run files
  pub bytes : List ℕ
  pub is_read : AreOfFile files run.script bytes
  pub is_bad : bad_line bytes ≡ Some line

abbrev pub BreaksGrammar : Command → Option FileList → ℕ → Type 0
BreaksGrammar (Mkfs name geometry) files line = ⊥
BreaksGrammar (Tree image) files line = ⊥
BreaksGrammar (Step run) files line = IsBadScript run files line
BreaksGrammar (Load loading) files line = ⊥

-- nothing is put, and no file is replaced
abbrev pub IsRefusal : Status → Type 0
IsRefusal Status.Usage = ⊤
IsRefusal (Status.NoSuchFile name) = ⊤
IsRefusal (Status.BadImage rule place) = ⊤
IsRefusal (Status.BadScript line) = ⊤
IsRefusal Status.ReadFault = ⊤
IsRefusal status = ⊥

-- ---- what has to be answered where nothing fails and the files are there
-- the files have these bytes under this name
pub record IsGiven (files : Option FileList) (name bytes : List ℕ) : Type 0 where
  pub list : FileList
  pub is_told : files ≡ Some list
  pub is_there : bytes_named list name ≡ Some bytes

-- the image is the fresh one, or the files have it
abbrev pub IsGivenImage : Option FileList → Image → List ℕ → Type 0
IsGivenImage files Fresh bytes = AreOfImage files Fresh bytes
IsGivenImage files (Stored name) bytes = IsGiven files name bytes

-- for an image and a script that are there what the rules and the grammar say, or that memory ran out
abbrev pub IsStepVerdict : List ℕ → List ℕ → Status → Type 0
IsStepVerdict image script Status.Done = CanOpen image × (bad_line script ≡ None)
IsStepVerdict image script (Status.BadImage rule place) = IsRefused image rule place
IsStepVerdict image script (Status.BadScript line) = CanOpen image × (bad_line script ≡ Some line)
IsStepVerdict image script Status.NoMemory = ⊤
IsStepVerdict image script status = ⊥

-- for an image that is there what the rules say, or that memory ran out
abbrev pub IsImageVerdict : List ℕ → Status → Type 0
IsImageVerdict bytes Status.Done = CanOpen bytes
IsImageVerdict bytes (Status.BadImage rule place) = IsRefused bytes rule place
IsImageVerdict bytes Status.NoMemory = ⊤
IsImageVerdict bytes status = ⊥

-- to make an image, or for a load, nothing is needed but memory
abbrev pub IsDoneOrNot : Status → Type 0
IsDoneOrNot Status.Done = ⊤
IsDoneOrNot Status.NoMemory = ⊤
IsDoneOrNot status = ⊥

-- an image that is refused is refused without its script
pub record CompletesStep (run : Run) (files : Option FileList) (status : Status) : Type 0 where
  pub refused : (image : List ℕ) → IsGivenImage files run.image image → ¬ CanOpen image → IsImageVerdict image status
  pub ran : (image script : List ℕ) → IsGivenImage files run.image image → IsGiven files run.script script → IsStepVerdict image script status

abbrev pub Completes : Command → Option FileList → Status → Type 0
Completes (Mkfs name geometry) files status = IsDoneOrNot status
Completes (Tree image) files status = (bytes : List ℕ) → IsGivenImage files image bytes → IsImageVerdict bytes status
Completes (Step run) files status = CompletesStep run files status
Completes (Load loading) files status = IsDoneOrNot status

-- ---- all of this, of words
-- the command is a run by threads
abbrev pub IsByThreads : Command → Type 0
IsByThreads (Step run) = run.options.by_threads ≡ true
IsByThreads command = ⊥

-- WHAT THE STATUS SAYS for these words: of the files before and after, of what the sink has before and after, and of three counts: whether
-- that of missing files rose, that of failures of the files, and that of failures of the sink.
pub record IsTold (words : List (List ℕ)) (files left : Option FileList) (old new : Option (List ℕ)) (Missed Failed Refused : Type 0) (status : Status) : Type 0 where
  pub usage : (status ≡ Status.Usage) ↔ (command_of words ≡ None)
  pub no_such_file : (name : List ℕ) → status ≡ Status.NoSuchFile name → Says words (λ c. IsMissing c files name) × Missed
  pub bad_image : (rule place : ℕ) → status ≡ Status.BadImage rule place → Says words (λ c. BreaksRule c files rule place)
  pub bad_script : (line : ℕ) → status ≡ Status.BadScript line → Says words (λ c. BreaksGrammar c files line)
  pub read_fault : status ≡ Status.ReadFault → Says words (λ c. MayFail c files) × Failed
  pub write_fault : status ≡ Status.WriteFault → Refused ⊎ Says words (λ c. Replaces c × Failed)
  pub done : status ≡ Status.Done → Says words (λ c. IsDone c files left old new)
  pub kept : (left ≡ files) ⊎ Says words (λ c. IsReplacedBy c files left)
  pub front : (status ≡ Status.WriteFault) ⊎ (status ≡ Status.NoMemory) → ((left ≡ files) × (new ≡ old)) ⊎ Says words (λ c. IsCutShort c files left old new)
  pub nothing : IsRefusal status → (left ≡ files) × (new ≡ old)
  pub complete : (c : Command) → command_of words ≡ Some c → ¬ Failed → ¬ Refused → Completes c files status
