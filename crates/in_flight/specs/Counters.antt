-- How many calls of each caller have returned, as the World counts them.
use Rattle.std.specs.Prelude.{◌≡◌, ◌<◌, ℕ, List, length, slice_index}
use Rattle.posix_types.specs.declared.call.Who.{Who}
use Rattle.posix_types.specs.declared.item.Item.{Item}
use Rattle.live_model.specs.commute_laws.posix_spec.Scripted.{items_of}

-- the number of a caller: of the set-up, or of one of 8 threads; others have none
abbrev pub count_for : ℕ → List ℕ → Who → ℕ
count_for setup threads Who.Setup = setup
count_for setup threads (Who.Thread n) = slice_index threads n

-- a caller that is counted
abbrev pub IsCounted : Who → Type 0
IsCounted Who.Setup = Unit {0}
IsCounted (Who.Thread n) = n < 8

-- The number of each caller is that of its items.
abbrev pub AreCounts : ℕ → List ℕ → List Item → Type 0
AreCounts setup threads history = (who : Who) → count_for setup threads who ≡ length (items_of history who)
