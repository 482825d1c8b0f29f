-- The laws of one step, each as one statement. `IsWorld v claims jobs f numbers s count`: the World is valid, `count` nodes were made
-- since the lap began, and `numbers` has the node of each inode.
use Rattle.std.specs.Prelude.{◌≡◌, ◌≢◌, ◌<◌, ◌+◌, ℕ, Bool, false, List, length, map, None, Some, slice_set}
use Rattle.volume_change_laws.specs.pm_model.Words.{Words}
use Rattle.volume_change_laws.specs.layout_model.declared.lines.Draft.{Draft}
use Rattle.volume_change_laws.specs.layout_model.declared.lines.Kind.{Kind}
use Rattle.volume_change_laws.specs.layout_model.declared.lines.Kind.TheVariants.{Free}
use Rattle.volume_change_laws.specs.layout_model.Lines.{NameRow}
use Rattle.volume_change_laws.specs.layout_model.Names.{child_named, row}
use Rattle.volume_change_laws.specs.image_model.Live.{is_of_file}
use Rattle.volume_change_laws.specs.image_model.Reading.{row_set}
use Rattle.volume_change_laws.specs.image_model.Volume.{inode, Volume}
use Rattle.volume_change_laws.specs.k_split_model.ChangesChanges.{made}
use Rattle.volume_change_laws.specs.LookupLaws.{leads_nowhere, leads_to}
use Rattle.commute_laws.specs.posix_tables.Names.{with_entry, without_entry}
use Rattle.commute_laws.specs.posix_spec.Run.{after_call, Unfinished}
use Rattle.commute_laws.specs.posix_spec.State.{State}
use Rattle.commute_laws.specs.list_laws.Members.{In}
use Rattle.commute_laws.specs.Needs.{needs}
use Rattle.commute_laws.specs.Rooms.{FitsBeside}
use Rattle.world_model.specs.Jobs.{Job, live_claims, Valid}
use Rattle.world_model.specs.Stands.{IsSane, IsUsed, NamesStand, number}
use Rattle.world_step_laws.specs.Ages.{AreAged}
use Rattle.world_step_laws.specs.NameTables.{moved_entries}
use Rattle.world_step_laws.specs.Steps.{AreBeside, flights_of, GoOn, LetsJobsBe, Steps}
use Rattle.world_step_laws.specs.Touched.{beside}
use Rattle.world_step_laws.specs.Worlds.{IsWorld, SameSizes}

-- ONE STEP keeps the World: where what it makes of volume and state stands (`Steps`), jobs go on, and none is of a touched inode.
abbrev pub KeepsStep : Type 0
KeepsStep =
    (touched : ℕ → Bool) (v w : Volume) (claims : List (ℕ × Draft)) (jobs : List Job) (f : Words)
    (numbers after : List ℕ) (s new : State) (count later : ℕ)
    → IsWorld v claims jobs f numbers s count → AreBeside touched jobs → GoOn s new numbers jobs
    → Steps touched v w claims f numbers after s new → SameSizes v w s new → AreAged w claims later
    → IsWorld w claims jobs f after new later

-- the live claims afterwards are those of the inodes that are not touched
abbrev pub LeavesLive : Type 0
LeavesLive =
    (touched : ℕ → Bool) (v w : Volume) (claims : List (ℕ × Draft)) (f : Words) (numbers after : List ℕ) (s new : State)
    → Steps touched v w claims f numbers after s new → live_claims w claims ≡ beside touched (live_claims v claims)

-- jobs go on under a call of another caller that leaves their files alone and fits beside them
abbrev pub LetsJobsGoOn : Type 0
LetsJobsGoOn =
    (v : Volume) (claims : List (ℕ × Draft)) (jobs : List Job) (f : Words) (numbers : List ℕ) (s : State) (c : Unfinished)
    → Valid v claims jobs f numbers s → LetsJobsBe s c numbers jobs
    → FitsBeside s c (needs s (flights_of numbers jobs)) → GoOn s (after_call s c) numbers jobs

-- no claim of the lap is of the file that is made, as long as fewer than 2^31 nodes are made in a lap
abbrev pub StaysDead : Type 0
StaysDead =
    (kind : Kind) (ino line : ℕ) (r : NameRow) (v : Volume) (claims : List (ℕ × Draft)) (count : ℕ) (d : Draft)
    → AreAged v claims count → ino < length v.inodes → In d (map (λ (c : ℕ × Draft). c.1) claims) → d.ino ≡ ino
    → is_of_file (made kind ino line r v) d ≡ false

-- Names of volume and state agree after a name was freed
abbrev pub AgreesFreed : Type 0
AgreesFreed =
    (v : Volume) (numbers : List ℕ) (s new : State) (line : ℕ) (r : NameRow) → IsSane v → NamesStand v numbers s
    → row v.names line ≡ Some r → new.entries ≡ without_entry s.entries (number numbers r.parent) r.name
    → length new.nodes ≡ length s.nodes → NamesStand (row_set line None v) numbers new

-- moved, with what stood in its place gone
abbrev pub AgreesMoved : Type 0
AgreesMoved =
    (v w : Volume) (numbers : List ℕ) (s new : State) (line : ℕ) (r t : NameRow) → IsSane v → NamesStand v numbers s
    → row v.names line ≡ Some r → IsUsed v t.parent → w.inodes ≡ v.inodes
    → ((p : ℕ) (name : List ℕ) → child_named w.names p name ≡ leads_to t (leads_nowhere r (child_named v.names)) p name)
    → new.entries ≡ moved_entries s.entries (number numbers r.parent) r.name (record { parent = number numbers t.parent; name = t.name; child = number numbers t.child })
    → length new.nodes ≡ length s.nodes → NamesStand w numbers new

-- taken by a node that is made
abbrev pub AgreesMade : Type 0
AgreesMade =
    (v w : Volume) (numbers after : List ℕ) (s new : State) (line : ℕ) (r : NameRow) → IsSane v
    → NamesStand v numbers s → line < length v.names → row v.names line ≡ None
    → child_named v.names r.parent r.name ≡ None → IsUsed v r.parent → (inode v r.child).kind ≡ Free
    → w.names ≡ slice_set v.names line (Some r) → ((ino : ℕ) → ino ≢ r.child → inode w ino ≡ inode v ino)
    → IsUsed w r.child → number after r.child ≡ length s.nodes
    → ((ino : ℕ) → ino ≢ r.child → number after ino ≡ number numbers ino)
    → new.entries ≡ with_entry s.entries (record { parent = number numbers r.parent; name = r.name; child = length s.nodes })
    → length new.nodes ≡ length s.nodes + 1 → NamesStand w after new

-- and after a node went that has no entries
abbrev pub AgreesGone : Type 0
AgreesGone =
    (v w : Volume) (numbers : List ℕ) (s new : State) (c : ℕ) → NamesStand v numbers s → w.names ≡ v.names
    → ((ino : ℕ) → ino ≢ c → inode w ino ≡ inode v ino) → (inode w c).kind ≡ Free → c ≢ 0
    → ((name : List ℕ) → child_named v.names c name ≡ None) → IsUsed v c → new.entries ≡ s.entries
    → length new.nodes ≡ length s.nodes → NamesStand w numbers new
