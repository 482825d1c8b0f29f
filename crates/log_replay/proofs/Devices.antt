-- A device keeps its size and what is lent of it, whatever K-Split makes of it.
use Rattle.std.proofs.Common.{◌≡◌, ◌<◌, ◌≤◌, ◌^◌, ℕ, List, Option, Result, Ok, Err, refl, sym, ◌∙◌, subst, inl, inr}
use Rattle.std.proofs.lemmas.Bool.{cases_lt}
use Rattle.world_image_laws.specs.pm_model.declared.Cell.{Cell}
use Rattle.world_image_laws.specs.pm_model.CellLaws.{single-home}
use Rattle.world_image_laws.specs.pm_model.Cells.{AllHome, AllSingle, cell}
use Rattle.world_image_laws.specs.image_model.Volume.{Volume}
use Rattle.k_split.specs.k_journal.declared.outcomes.Commit.{Commit}
use Rattle.world_image_laws.specs.k_split_model.View.{View}
use Rattle.k_split.specs.Answers.{Changes, IsAnswer, IsOff}
use Rattle.k_split.specs.declared.faults.KFault.{KFault}
use Rattle.k_split.specs.Laps.{IsBaseAnswer, IsRestartAnswer, LosesLog}
use Rattle.k_split.specs.MapChanges.{IsMapAnswer}
use Rattle.world_image_laws.specs.posix_types.declared.item.Outcome.{Outcome}
use Rattle.log_replay.specs.Sheds.{IsSameDevice}

pub device-none : (d : List Cell) → IsSameDevice d d
device-none d = record { size = refl; lent = λ i. refl }

pub device-then : (a b c : List Cell) → IsSameDevice a b → IsSameDevice b c → IsSameDevice a c
device-then a b c first second = record { size = second.size ∙ first.size; lent = λ i. second.lent i ∙ first.lent i }

-- no word is lent after of a device at rest
pub home-device : (a b : List Cell) → AllSingle a → IsSameDevice a b → AllHome b
home-device a b single is i = is.lent i ∙ single-home (cell a i) (single i)

device-same : (k k2 : View) → k2 ≡ k → IsSameDevice k.cells k2.cells
device-same k k2 same = subst (λ (z : View). IsSameDevice k.cells z.cells) (sym same) (device-none k.cells)

device-off : (k k2 : View) → IsOff k k2 → IsSameDevice k.cells k2.cells
device-off k k2 off = subst (λ (z : View). IsSameDevice k.cells z.cells) (sym off) (device-none k.cells)

device-changed : (v w : Volume) (a b : List Cell) → Changes v w a b → IsSameDevice a b
device-changed v w a b is = record { size = is.size; lent = is.lent }

-- ---- after a change

pub device-answer : (refused : Option Outcome) (Makes : Unit {0} → Volume → Type 0) (k k2 : View) (r : Result (Unit {0}) KFault)
    → IsAnswer {T = Unit {0}} refused Makes k k2 r → IsSameDevice k.cells k2.cells
device-answer refused Makes k k2 (Ok done) gave = device-changed k.committed k2.volume k.cells k2.cells gave.2.changes
device-answer refused Makes k k2 (Err (KFault.Refused errno)) gave = device-same k k2 gave.1
device-answer refused Makes k k2 (Err (KFault.Room room)) gave = device-same k k2 gave.1
device-answer refused Makes k k2 (Err KFault.NoMemory) gave = device-same k k2 gave.1
device-answer refused Makes k k2 (Err KFault.PowerLost) (inl off) = device-off k k2 off
device-answer refused Makes k k2 (Err KFault.PowerLost) (inr (none, (done, w, made, cut))) = device-changed k.committed w k.cells k2.cells cut.changes

pub device-mapped : (Makes : Volume → List ℕ → Type 0) (k k2 : View) (r : Result (Unit {0}) KFault) → IsMapAnswer Makes k k2 r → IsSameDevice k.cells k2.cells
device-mapped Makes k k2 (Ok done) (blocks, made, is) = record { size = is.changes.size; lent = is.changes.lent }
device-mapped Makes k k2 (Err (KFault.Refused errno)) never = absurd never
device-mapped Makes k k2 (Err (KFault.Room room)) never = absurd never
device-mapped Makes k k2 (Err KFault.NoMemory) same = device-same k k2 same
device-mapped Makes k k2 (Err KFault.PowerLost) (inl off) = device-off k k2 off
device-mapped Makes k k2 (Err KFault.PowerLost) (inr (w, blocks, made, cut)) = record { size = cut.changes.size; lent = cut.changes.lent }

-- ---- after a new lap

device-based : (base : ℕ) (k k2 : View) (r : Commit) → IsBaseAnswer base k k2 r → IsSameDevice k.cells k2.cells
device-based base k k2 Commit.Done gave = device-changed k.committed k2.volume k.cells k2.cells gave.1.changes
device-based base k k2 Commit.PowerLost (inl off) = device-off k k2 off
device-based base k k2 Commit.PowerLost (inr cut) = device-changed k.committed _ k.cells k2.cells cut.changes

device-lost : (v : Volume) (a b : List Cell) → LosesLog v a b → IsSameDevice a b
device-lost v a b is = record { size = is.size; lent = is.lent }

device-restarted : (k k2 : View) (r : Commit) → IsRestartAnswer k k2 r → IsSameDevice k.cells k2.cells
device-restarted k k2 Commit.Done (middle, clear, done) =
    device-then k.cells middle k2.cells (device-lost k.volume k.cells middle clear.loses) (device-based 1 (record k { cells = middle }) k2 Commit.Done done)
device-restarted k k2 Commit.PowerLost (inl off) = device-off k k2 off
device-restarted k k2 Commit.PowerLost (inr (inl (same, loses))) = device-lost k.volume k.cells k2.cells loses
device-restarted k k2 Commit.PowerLost (inr (inr (middle, clear, cut))) =
    device-then k.cells middle k2.cells (device-lost k.volume k.cells middle clear.loses) (device-changed k.committed _ middle k2.cells cut.changes)

pub device-lapped : (base : ℕ) (k k2 : View) (r : Commit) → (k.volume.base ≤ 2 ^ 62 → IsBaseAnswer base k k2 r) → (2 ^ 62 < k.volume.base → IsRestartAnswer k k2 r)
    → IsSameDevice k.cells k2.cells
device-lapped base k k2 r rises anew = elim (cases_lt (2 ^ 62) k.volume.base) [
  | inl high ↦ device-restarted k k2 r (anew high)
  | inr low ↦ device-based base k k2 r (rises low)
]
