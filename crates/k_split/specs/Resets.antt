-- The entries that a file has applied count anew.
use Rattle.std.specs.Prelude.{◌≡◌, ℕ, List, None, Result}
use Rattle.block_io.specs.pm_model.Words.{Words}
use Rattle.block_io.specs.layout_model.Journal.{journaled}
use Rattle.block_io.specs.image_model.Content.{content}
use Rattle.block_io.specs.image_model.Volume.{Volume}
use Rattle.k_map_plans.specs.Resets.{HasNoValid, reset}
use Rattle.k_tables.specs.k_split_model.View.{View}
use Rattle.k_split.specs.declared.faults.KFault.{KFault}
use Rattle.k_split.specs.Answers.{IsAnswer}

-- The file has applied no entry, and nothing else changes.
abbrev pub IsResetAnswer : ℕ → View → View → Result (Unit {0}) KFault → Type 0
IsResetAnswer ino old new result = IsAnswer None (λ done w. w ≡ reset ino old.volume) old new result

-- Where no slot of the log had a valid entry in the image before, the same stands at each path of the image.
abbrev pub KeepsUnloggedContent : Volume → Words → Words → Type 0
KeepsUnloggedContent v before image =
    HasNoValid v (journaled before) → (path : List (List ℕ)) → content v.geometry image path ≡ content v.geometry before path
