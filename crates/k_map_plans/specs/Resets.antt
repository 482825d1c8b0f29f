-- The entries that a file has applied count anew: what becomes of the volume, and what is planned.
use Rattle.std.specs.Prelude.{◌≡◌, ◌<◌, ℕ, List, length, None, Result, Ok, Err}
use Rattle.std.specs.declared.alloc.AllocError.{AllocError}
use Rattle.layout_model.specs.pm_model.Words.{Words}
use Rattle.k_plans.specs.image_model.Content.{found}
use Rattle.k_plans.specs.image_model.Live.{entry_in, live_entries}
use Rattle.k_plans.specs.image_model.Volume.{Volume}
use Rattle.k_plans.specs.k_journal.declared.batches.Record.{Record}
use Rattle.k_map_plans.specs.Plans.{IsNotPlanned}
use Rattle.k_plans.specs.PlansPlans.{IsPlan}
use Rattle.k_plans.specs.View.{TablesView, with_volume}
pub use Rattle.k_plans.specs.MapPlans.{reset, unapplied}

-- a reset is planned, or nothing where memory runs out
abbrev pub IsResetPlan : ℕ → TablesView → TablesView → List Record → Result (Unit {0}) AllocError → Type 0
IsResetPlan ino old new b (Ok done) = (new ≡ with_volume (reset ino old.volume) old) × IsPlan old new b
IsResetPlan ino old new b (Err e) = IsNotPlanned old new b

-- no slot of the log has a valid entry
abbrev pub HasNoValid : Volume → Words → Type 0
HasNoValid v f = (slot : ℕ) → slot < v.geometry.log → entry_in v f slot ≡ None

-- Where no slot has one, the same stands at each path before and after a reset.
abbrev pub KeepsContentWithoutEntries : Type 0
KeepsContentWithoutEntries =
    (ino : ℕ) (v : Volume) (f : Words) (path : List (List ℕ)) → ino < length v.inodes → HasNoValid v f
    → found (reset ino v) (live_entries (reset ino v) f) f path ≡ found v (live_entries v f) f path
