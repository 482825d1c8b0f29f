-- The chief laws of images, each as one statement.
use Rattle.std.specs.Prelude.{◌≡◌, ◌≢◌, ◌↔◌, ℕ, suc, ◌+◌, ◌*◌, ◌/◌, ◌<◌, ◌≤◌, ◌++◌, true, false, List, length, Contains, Some}
use Rattle.volume_laws.specs.pm_model.declared.Cell.{Cell}
use Rattle.volume_laws.specs.pm_model.Cells.{cell, is_lent, has_two, oldest, newest}
use Rattle.volume_laws.specs.pm_model.Words.{Words}
use Rattle.volume_laws.specs.layout_model.Journal.{journaled, IsSound}
use Rattle.volume_laws.specs.layout_model.Places.{Geometry, IsGeometry}
use Rattle.volume_laws.specs.layout_model.declared.lines.Draft.{Draft}
use Rattle.volume_laws.specs.layout_model.Fresh.{fresh}
use Rattle.volume_laws.specs.layout_model.Names.{Rows, up, ends_at_root}
use Rattle.volume_laws.specs.image_model.Broken.{HoldAll, BreaksFirst, log_rules, rules_of, Breaks}
use Rattle.volume_laws.specs.image_model.Checked.{HasHead, IsCheckedAs}
use Rattle.volume_laws.specs.image_model.Content.{content}
use Rattle.volume_laws.specs.image_model.FreshVolume.{fresh_volume, root_alone}
use Rattle.volume_laws.specs.image_model.Honest.{HasOlder, HasNewer, SomeHasTwo, EachHasTwo, IsTorn}
use Rattle.volume_laws.specs.image_model.LogRule.{HoldsClaims}
use Rattle.volume_laws.specs.image_model.Reading.{Reads}
use Rattle.volume_laws.specs.image_model.Rules.{geometry_of, IsChecked}
use Rattle.volume_laws.specs.image_model.Volume.{Volume, volume}
use Rattle.image_laws.specs.ClimbLaws.{ReachesRoot}
use Rattle.image_laws.specs.KeptRules.{kept_rules}
use Rattle.image_laws.specs.ViewLaws.{HaveSameView, AgreeButLog}

-- A checked image is the conjunction of its head, what its lines read as, what the volume keeps, and its log.
abbrev pub HasParts : Type 0
HasParts = (bytes : ℕ) (f : Words) → IsChecked bytes f → IsCheckedAs bytes f (volume (geometry_of f) (journaled f))

abbrev pub IsOfParts : Type 0
IsOfParts = (bytes : ℕ) (f : Words) (v : Volume) → IsCheckedAs bytes f v → IsChecked bytes f

-- Its rules are those of the list; where they hold none is broken first, and of broken ones one is, at one place.
abbrev pub IsOfRules : Type 0
IsOfRules = (bytes : ℕ) (f : Words) → IsChecked bytes f ↔ HoldAll (rules_of bytes f (volume (geometry_of f) (journaled f)) (journaled f))

abbrev pub BreaksNone : Type 0
BreaksNone = (bytes : ℕ) (f : Words) (number place : ℕ) → IsChecked bytes f → ¬ Breaks bytes f number place

abbrev pub BreaksOne : Type 0
BreaksOne = (bytes : ℕ) (f : Words) (m p n q : ℕ) → Breaks bytes f m p → Breaks bytes f n q → (m ≡ n) × (p ≡ q)

-- An image whose head is right and whose words read as a volume breaks first what the volume does, or the log.
abbrev pub BreaksAsVolume : Type 0
BreaksAsVolume =
    (bytes : ℕ) (f : Words) (v : Volume) (number place : ℕ) → HasHead bytes f → Reads (geometry_of f) (journaled f) v
    → BreaksFirst (kept_rules v ++ log_rules v (journaled f)) number place → Breaks bytes f number place

-- The fresh image is checked, and the root stands in it alone.
abbrev pub FreshIsChecked : Type 0
FreshIsChecked = (g : Geometry) → IsGeometry g → IsCheckedAs (4096 * g.blocks) (fresh g) (fresh_volume g)

abbrev pub FreshHasRoot : Type 0
FreshHasRoot = (g : Geometry) → IsGeometry g → content g (fresh g) ≡ root_alone

-- Images that read alike through sound journals are checked alike, as one volume and with one content.
abbrev pub IsCheckedAlike : Type 0
IsCheckedAlike = (bytes : ℕ) (f h : Words) (v : Volume) → IsCheckedAs bytes f v → IsSound (geometry_of f) h → HaveSameView f h → IsCheckedAs bytes h v

abbrev pub HasOneContent : Type 0
HasOneContent = (g : Geometry) (f h : Words) → HaveSameView f h → content g h ≡ content g f

-- The head and the reading stand whatever is in the log lines.
abbrev pub StandsWithoutLog : Type 0
StandsWithoutLog =
    (bytes : ℕ) (f h : Words) (v : Volume) → HasHead bytes f → Reads (geometry_of f) (journaled f) v → AgreeButLog (geometry_of f) f h
    → HasHead bytes h × Reads (geometry_of f) (journaled h) v

-- A line is not torn that reads as before, or as after stores to each of its words. It is torn that has the newer
-- value of one word and the older one of another, and where only some words were stored, unless it reads as before.
-- On the device itself a lent line never is.
abbrev pub IsWholeOlder : Type 0
IsWholeOlder = (cells : ℕ → Cell) (image : Words) (line : ℕ) → HasOlder cells image line → ¬ IsTorn cells image line

abbrev pub IsWholeNewer : Type 0
IsWholeNewer = (cells : ℕ → Cell) (image : Words) (line : ℕ) → EachHasTwo cells line → HasNewer cells image line → ¬ IsTorn cells image line

abbrev pub IsTornMixed : Type 0
IsTornMixed =
    (cells : ℕ → Cell) (image : Words) (line j k : ℕ) → j < 8 → k < 8 → has_two (cells (8 * line + j)) ≡ true
    → image (8 * line + j) ≢ oldest (cells (8 * line + j)) → image (8 * line + k) ≢ newest (cells (8 * line + k)) → IsTorn cells image line

abbrev pub IsTornPartly : Type 0
IsTornPartly =
    (cells : ℕ → Cell) (image : Words) (line k : ℕ) → SomeHasTwo cells line → k < 8 → has_two (cells (8 * line + k)) ≡ false
    → ¬ HasOlder cells image line → IsTorn cells image line

abbrev pub IsWholeLent : Type 0
IsWholeLent = (d : List Cell) (image : Words) (line : ℕ) → ((i : ℕ) → i / 8 ≡ line → is_lent (cell d i) ≡ true) → ¬ IsTorn (cell d) image line

-- No lines hold a claim whose number is past them.
abbrev pub HoldsNonePast : Type 0
HoldsNonePast =
    (base : ℕ) (lines : List (List Cell)) (claims : List (ℕ × Draft)) (first : ℕ → Words) (n : ℕ) (d : Draft)
    → length lines ≤ n → Contains claims (n, d) → ¬ HoldsClaims base lines claims first

-- Going up within n steps is decided by the fold, in tables of any kind; and a way up that comes back to an inode,
-- and did not come to the root before, never does.
abbrev pub DecidesTheWayUp : Type 0
DecidesTheWayUp = (rows : Rows) (n ino : ℕ) → (ends_at_root rows n ino ≡ true) ↔ ReachesRoot rows n ino

abbrev pub ReturnsForEver : Type 0
ReturnsForEver =
    (rows : Rows) (m ino : ℕ) → up rows (suc m) ino ≡ Some ino → ((k : ℕ) → k ≤ m → up rows k ino ≢ Some 0) → (n : ℕ) → ends_at_root rows n ino ≡ false
