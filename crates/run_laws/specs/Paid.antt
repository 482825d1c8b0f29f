-- What a history has of calls that move data, and how its changes of the tree keep within the steps.
use Rattle.std.specs.Prelude.{◌≢◌, ◌≤◌, ◌+◌, ℕ, Bool, List, map}
use Rattle.std.specs.List.{list_any}
use Rattle.round_log.specs.pm_model.Powers.{Supply}
use Rattle.world_view_laws.specs.posix_types.declared.call.Mode.{Mode}
use Rattle.world_view_laws.specs.posix_types.declared.item.Item.{Item}
use Rattle.world_view_laws.specs.posix_spec.Afforded.{moves_data}
use Rattle.world_view_laws.specs.Views.{WorldView}
use Rattle.run_laws.specs.Changes.{ChangesTreeAtMost}

-- a call that returned moved data
abbrev pub has_moved : List Item → Bool
has_moved history = list_any moves_data (map (λ (item : Item). item.call) history)

-- Some number of steps is as many as the calls that changed the tree, or more, outside POSIX mode, which gathers changes; and so many steps
-- besides were taken for calls that have not returned.
pub record KeepsTree (first now : Supply) (w : WorldView) (early given : ℕ) : Type 0 where
  pub changed : ℕ
  pub fewer : changed + early + first.taken ≤ now.taken
  pub most : changed + early ≤ given
  pub each : w.start.mode ≢ Mode.Posix → ChangesTreeAtMost w.start w.history changed

-- AT MOST SO MANY CALLS CHANGED THE TREE as steps were given, outside POSIX mode.
abbrev pub KeepsGiven : Type 0
KeepsGiven = (first now : Supply) (w : WorldView) (early given : ℕ) → KeepsTree first now w early given → w.start.mode ≢ Mode.Posix → ChangesTreeAtMost w.start w.history given
