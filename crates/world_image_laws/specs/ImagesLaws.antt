-- The laws of the images of a running world, each as one statement.
use Rattle.std.specs.Prelude.{None, true, false, ◌≡◌, ◌≢◌, ◌⊎◌, ◌≤◌, ◌<◌, ℕ, ◌*◌, length, List, [], ◌∷◌, ◌++◌, map}
use Rattle.image_laws.specs.pm_model.declared.Cell.{Cell}
use Rattle.image_laws.specs.pm_model.Cells.{AllSingle}
use Rattle.image_laws.specs.pm_model.Images.{IsImage, words_of}
use Rattle.image_laws.specs.pm_model.Words.{Words}
use Rattle.image_laws.specs.layout_model.Journal.{journaled}
use Rattle.image_laws.specs.layout_model.Places.{Geometry, IsGeometry}
use Rattle.image_laws.specs.layout_model.declared.lines.Draft.{Draft}
use Rattle.image_laws.specs.layout_model.declared.lines.Kind.{Kind}
use Rattle.image_laws.specs.layout_model.declared.lines.Kind.TheVariants.{File, Free}
use Rattle.image_laws.specs.layout_model.Lines.{NameRow}
use Rattle.image_laws.specs.layout_model.Names.{names_of}
use Rattle.image_laws.specs.image_model.Checked.{IsCheckedAs}
use Rattle.image_laws.specs.image_model.Content.{content}
use Rattle.image_laws.specs.image_model.Rules.{geometry_of}
use Rattle.image_laws.specs.image_model.Volume.{inode, Volume}
use Rattle.world_step_laws.specs.world_model.volume_laws.Uses.{HasAllMaps}
use Rattle.world_step_laws.specs.k_split_model.ChangesChanges.{dropped, made, removed, renamed, renamed_over_directory, renamed_over_file, unnamed}
use Rattle.world_step_laws.specs.k_split_model.Stands.{Stands}
use Rattle.world_step_laws.specs.world_model.posix_types.declared.call.Call.{Call}
use Rattle.world_step_laws.specs.world_model.posix_types.declared.call.Mode.{Mode}
use Rattle.world_step_laws.specs.world_model.posix_types.declared.call.Who.{Who}
use Rattle.world_step_laws.specs.world_model.posix_types.declared.handle.Handle.{Handle}
use Rattle.world_step_laws.specs.world_model.posix_types.declared.item.Item.{Item}
use Rattle.world_step_laws.specs.world_model.posix_types.declared.reply.Shape.{Shape}
use Rattle.world_step_laws.specs.world_model.posix_types.declared.tree.TreeEntry.{TreeEntry}
use Rattle.world_step_laws.specs.world_model.posix_tables.NameRows.{rename_rows, unlink_rows}
use Rattle.world_step_laws.specs.world_model.posix_tables.Names.{directory_stands}
use Rattle.world_step_laws.specs.world_model.posix_tables.Nodes.{is_directory}
use Rattle.world_step_laws.specs.world_model.posix_tables.Outcomes.{first}
use Rattle.world_step_laws.specs.world_model.posix_spec.FileRows.{file_number}
use Rattle.world_step_laws.specs.world_model.posix_spec.Run.{after_call, Unfinished, run}
use Rattle.world_step_laws.specs.world_model.posix_spec.State.{space, State, unnamed as unnamed_state}
use Rattle.world_step_laws.specs.world_model.posix_spec.Step.{renamed as renamed_state}
use Rattle.world_step_laws.specs.world_model.posix_spec.Tree.{start, tree}
use Rattle.world_step_laws.specs.world_model.crash_spec.Permitted.{StronglyPermitted}
use Rattle.world_step_laws.specs.world_model.Jobs.{unfinished_call, Job}
use Rattle.world_step_laws.specs.world_model.Promised.{AreWhole}
use Rattle.world_step_laws.specs.world_model.Shown.{IsTreeOfContent}
use Rattle.world_image_laws.specs.Begun.{numbers_of}
use Rattle.world_image_laws.specs.BeginningLaws.{IsShapeOf}
use Rattle.world_step_laws.specs.Ages.{AreAged}
use Rattle.world_step_laws.specs.Worlds.{IsWorld}
use Rattle.world_image_laws.specs.Images.{HasLogHome, HasNoEntry, HasRoom, IsChange, IsHeaded, IsRunning, ShowsWorld, StandsFor}
use Rattle.world_image_laws.specs.Promised.{IsKept, KeepsPromise}
use Rattle.world_image_laws.specs.Settings.{KeepsSetting}

-- ---- the promise

-- A device on which the World runs keeps the promise: the tree of the history is left, whatever calls are unfinished.
abbrev pub RunsPromised : Type 0
RunsPromised =
    (v : Volume) (d : List Cell) (claims : List (ℕ × Draft)) (numbers : List ℕ) (start : State) (history : List Item) (unfinished : List Unfinished) (count : ℕ)
    → IsRunning v d claims numbers (run start history) count → KeepsPromise v.geometry d start history unfinished

-- With writes in flight, an image that shows the World is kept: in strict mode where each of them is found whole, in sync mode
-- as it is found.
abbrev pub KeepsStrictImage : Type 0
KeepsStrictImage =
    (v : Volume) (claims : List (ℕ × Draft)) (jobs : List Job) (numbers : List ℕ) (count : ℕ) (image : Words) (start : State) (history : List Item) → start.mode ≡ Mode.Strict → AreWhole jobs
    → ShowsWorld v claims jobs numbers (run start history) count image → IsKept v.geometry start history (map unfinished_call jobs) image

abbrev pub KeepsSyncImage : Type 0
KeepsSyncImage =
    (v : Volume) (claims : List (ℕ × Draft)) (jobs : List Job) (numbers : List ℕ) (count : ℕ) (image : Words) (start : State) (history : List Item) → start.mode ≡ Mode.Sync
    → ShowsWorld v claims jobs numbers (run start history) count image → IsKept v.geometry start history (map unfinished_call jobs) image

-- and is kept with one more call that lost its power before it acted
abbrev pub MayBeLostLast : Type 0
MayBeLostLast =
    (g : Geometry) (start : State) (history : List Item) (unfinished : List Unfinished) (c : Unfinished) (image : Words) → start.mode ≢ Mode.Posix → IsKept g start history unfinished image
    → IsKept g start history (unfinished ++ c ∷ []) image

-- ---- a change of the volume

-- the change makes of a valid World, whatever its data words, a valid World
abbrev pub Takes : Volume → Volume → List (ℕ × Draft) → List Job → List ℕ → List ℕ → State → State → ℕ → ℕ → Type 0
Takes v w claims jobs numbers after s new count later = (f : Words) → IsWorld v claims jobs f numbers s count → IsWorld w claims jobs f after new later

-- A device that stands for the state stands for the next one after the change, with any writes in flight and whatever is in
-- the log lines.
abbrev pub ChangesDevice : Type 0
ChangesDevice =
    (v w : Volume) (d e : List Cell) (claims : List (ℕ × Draft)) (jobs : List Job) (numbers after : List ℕ) (s new : State) (count later : ℕ) → StandsFor v d claims jobs numbers s count → IsChange v w d e
    → Stands w.geometry w e → HasRoom w claims jobs new → Takes v w claims jobs numbers after s new count later → StandsFor w e claims jobs after new later

-- Log lines that are at home show what they showed.
abbrev pub KeepsLogHome : Type 0
KeepsLogHome =
    (v w : Volume) (d e : List Cell) (claims : List (ℕ × Draft)) → ((image : Words) → IsImage d image → IsHeaded v.geometry image) → IsChange v w d e → HasLogHome v d claims → HasLogHome w e claims

-- THE WORLD RUNS ON.
abbrev pub RunsOn : Type 0
RunsOn =
    (v w : Volume) (d e : List Cell) (claims : List (ℕ × Draft)) (numbers after : List ℕ) (s new : State) (count later : ℕ) → IsRunning v d claims numbers s count → IsChange v w d e
    → Stands w.geometry w e → HasRoom w claims [] new → Takes v w claims [] numbers after s new count later → IsRunning w e claims after new later

-- So it does after a call that leaves the device as it is.
abbrev pub StaysRunning : Type 0
StaysRunning =
    (v : Volume) (d : List Cell) (claims : List (ℕ × Draft)) (numbers after : List ℕ) (s new : State) (count later : ℕ) → IsRunning v d claims numbers s count → new.shape ≡ s.shape
    → Takes v v claims [] numbers after s new count later → IsRunning v d claims after new later

-- The change cut off: the promise is kept where the trees before and after it are permitted.
abbrev pub KeepsPromiseInChange : Type 0
KeepsPromiseInChange =
    (v w : Volume) (d e : List Cell) (claims : List (ℕ × Draft)) (numbers after : List ℕ) (s new : State) (count later : ℕ) (start : State) (history : List Item) (unfinished : List Unfinished)
    → IsRunning v d claims numbers s count → IsChange v w d e → HasRoom w claims [] new → Takes v w claims [] numbers after s new count later
    → StronglyPermitted start.mode start history unfinished (tree s) → StronglyPermitted start.mode start history unfinished (tree new) → KeepsPromise v.geometry e start history unfinished

-- the tree of the history, or that of the history and one more call
abbrev pub IsTreeOf : State → List Item → Unfinished → List TreeEntry → Type 0
IsTreeOf start history c t = (t ≡ tree (run start history)) ⊎ (t ≡ tree (after_call (run start history) c))

-- So in strict and in sync mode within each change of one call, the first or a later one.
abbrev pub KeepsPromiseOfCall : Type 0
KeepsPromiseOfCall =
    (v w : Volume) (d e : List Cell) (claims : List (ℕ × Draft)) (numbers after : List ℕ) (s new : State) (count later : ℕ) (start : State) (history : List Item) (c : Unfinished) → start.mode ≢ Mode.Posix
    → IsRunning v d claims numbers s count → IsChange v w d e → HasRoom w claims [] new → Takes v w claims [] numbers after s new count later
    → IsTreeOf start history c (tree s) → IsTreeOf start history c (tree new) → KeepsPromise v.geometry e start history (c ∷ [])

-- And between two changes of one call.
abbrev pub KeepsPromiseBetween : Type 0
KeepsPromiseBetween =
    (v : Volume) (d : List Cell) (claims : List (ℕ × Draft)) (numbers : List ℕ) (s : State) (count : ℕ) (start : State) (history : List Item) (c : Unfinished) → start.mode ≢ Mode.Posix
    → IsRunning v d claims numbers s count → IsTreeOf start history c (tree s) → KeepsPromise v.geometry d start history (c ∷ [])

-- ---- the room

-- Room is kept where a node is made in the place of a free one, which no claim of the lap is of;
abbrev pub KeepsRoomMade : Type 0
KeepsRoomMade =
    (kind : Kind) (ino line : ℕ) (r : NameRow) (v : Volume) (claims : List (ℕ × Draft)) (jobs : List Job) (s new : State) (count : ℕ) → HasRoom v claims jobs s → AreAged v claims count → ino < length v.inodes
    → (inode v ino).kind ≡ Free → new.shape ≡ s.shape → HasRoom (made kind ino line r v) claims jobs new

-- where a name goes, or leads elsewhere;
abbrev pub KeepsRoomUnnamed : Type 0
KeepsRoomUnnamed = (line : ℕ) (v : Volume) (claims : List (ℕ × Draft)) (jobs : List Job) (s new : State) → HasRoom v claims jobs s → new.shape ≡ s.shape → HasRoom (unnamed line v) claims jobs new

abbrev pub KeepsRoomRenamed : Type 0
KeepsRoomRenamed =
    (line : ℕ) (r : NameRow) (v : Volume) (claims : List (ℕ × Draft)) (jobs : List Job) (s new : State) → HasRoom v claims jobs s → new.shape ≡ s.shape → HasRoom (renamed line r v) claims jobs new

abbrev pub KeepsRoomRenamedOverFile : Type 0
KeepsRoomRenamedOverFile =
    (line : ℕ) (r : NameRow) (target : ℕ) (v : Volume) (claims : List (ℕ × Draft)) (jobs : List Job) (s new : State) → HasRoom v claims jobs s → new.shape ≡ s.shape
    → HasRoom (renamed_over_file line r target v) claims jobs new

-- where a node goes with its name;
abbrev pub KeepsRoomRemoved : Type 0
KeepsRoomRemoved =
    (line ino : ℕ) (v : Volume) (claims : List (ℕ × Draft)) (jobs : List Job) (s new : State) → HasRoom v claims jobs s → ino < length v.inodes → new.shape ≡ s.shape → HasRoom (removed line ino v) claims jobs new

abbrev pub KeepsRoomRenamedOverDirectory : Type 0
KeepsRoomRenamedOverDirectory =
    (line : ℕ) (r : NameRow) (target ino : ℕ) (v : Volume) (claims : List (ℕ × Draft)) (jobs : List Job) (s new : State) → HasRoom v claims jobs s → ino < length v.inodes → new.shape ≡ s.shape
    → HasRoom (renamed_over_directory line r target ino v) claims jobs new

-- and where a node goes with its map.
abbrev pub KeepsRoomDropped : Type 0
KeepsRoomDropped =
    (ino : ℕ) (v : Volume) (claims : List (ℕ × Draft)) (jobs : List Job) (s new : State) → HasRoom v claims jobs s → ino < length v.inodes → HasAllMaps v → new.shape ≡ s.shape
    → HasRoom (dropped ino v) claims jobs new

-- ---- the trees within a call

-- No call changes the shape or the mode.
abbrev pub KeepsSettings : Type 0
KeepsSettings = (s : State) (c : Unfinished) → KeepsSetting s (after_call s c)

-- Where the root is a directory: once the name is gone, the tree is that of the end of the `unlink`, whether the file goes or
-- stays;
abbrev pub HasTreeOfUnlink : Type 0
HasTreeOfUnlink =
    (s : State) (who : Who) (p : List (List ℕ)) → is_directory s.nodes 0 ≡ true → first (unlink_rows (space s) p) ≡ None → tree (after_call s (who, Call.Unlink p)) ≡ tree (unnamed_state s p)

-- once the names are changed, it is that of the end of a `rename` to where no directory stands;
abbrev pub HasTreeOfRename : Type 0
HasTreeOfRename =
    (s : State) (who : Who) (p q : List (List ℕ)) → is_directory s.nodes 0 ≡ true → first (rename_rows (space s) p q) ≡ None → directory_stands (space s) q ≡ false
    → tree (after_call s (who, Call.Rename p q)) ≡ tree (record s { entries = (renamed_state s p q).entries })

-- and a `close` of a file leaves the tree as it is.
abbrev pub HasTreeOfClose : Type 0
HasTreeOfClose = (s : State) (who : Who) (h : Handle) → file_number s.tables who h ≢ 0 → tree (after_call s (who, Call.Close h)) ≡ tree s

-- ---- the beginning

-- The state that a tree begins as has this shape and this mode.
abbrev pub HasSetting : Type 0
HasSetting = (t : List TreeEntry) (shape : Shape) (mode : Mode) → ((start t shape mode).shape ≡ shape) × ((start t shape mode).mode ≡ mode)

-- The World runs on a device of single words whose image is checked, in which each file has a name and no line of the log is
-- an entry: as the tree of its content.
abbrev pub BeginsRunning : Type 0
BeginsRunning =
    (v : Volume) (d : List Cell) (t : List TreeEntry) (shape : Shape) (mode : Mode) → Stands v.geometry v d → AllSingle d → IsCheckedAs (4096 * v.geometry.blocks) (words_of d) v → geometry_of (words_of d) ≡ v.geometry
    → IsGeometry v.geometry → ((ino : ℕ) → (inode v ino).kind ≡ File → 1 ≤ names_of v.names ino) → HasNoEntry v (journaled (words_of d)) → IsShapeOf v.geometry shape
    → IsTreeOfContent (content v.geometry (words_of d)) t
    → IsRunning v d [] (numbers_of v t) (start t shape mode) 0 × (tree (start t shape mode) ≡ t)
