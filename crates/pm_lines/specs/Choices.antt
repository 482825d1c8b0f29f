-- Which candidate of each word a choice takes.
use Rattle.std.specs.Prelude.{◌%◌, ◌==◌, ℕ, zero, suc, Bool, true, false, List, take, if◌then◌else◌}
use Rattle.std.specs.List.{count_by}
use Rattle.rand_xoshiro.specs.SplitMix64.{mix_u64}
use Rattle.pm_model.specs.declared.Cell.{Cell}
use Rattle.pm_model.specs.Cells.{cell, has_two, oldest, newest}
use Rattle.pm_model.specs.Words.{Words}
use Rattle.pm_lines.specs.declared.choices.Choice.{Choice}
use Rattle.pm_lines.specs.declared.choices.Choice.TheVariants.{Oldest, Newest, Even, Odd, Seed}

-- the state of SplitMix64 after k draws from a seed, and whether draw k, from 0 on, is odd
unfoldable pub state_after : ℕ → ℕ → ℕ
state_after seed zero = seed
state_after seed (suc k) = (mix_u64 (state_after seed k)).1

unfoldable pub is_odd_draw : ℕ → ℕ → Bool
is_odd_draw seed k = (mix_u64 (state_after seed k)).0 % 2 == 1

-- how many of the first n words have two candidates
abbrev pub twos_before : List Cell → ℕ → ℕ
twos_before d n = count_by has_two (take n d)

-- and how many draws a word takes
abbrev pub draws_of : Cell → ℕ
draws_of c = if has_two c then 1 else 0

-- Whether the choice takes the newest candidate of word i. By a seed each word with two candidates has a draw, in rising
-- order, and an odd draw takes the newest; of the other words both candidates are the same.
abbrev pub takes_newest : Choice → List Cell → ℕ → Bool
takes_newest Oldest d i = false
takes_newest Newest d i = true
takes_newest Even d i = i % 2 == 0
takes_newest Odd d i = i % 2 == 1
takes_newest (Seed seed) d i = is_odd_draw seed (twos_before d i)

-- the image that the choice takes from a device
abbrev pub chosen : Choice → List Cell → Words
chosen choice d i = if takes_newest choice d i then newest (cell d i) else oldest (cell d i)

-- the newest candidate of the even-numbered words, or the oldest, and the same of the odd-numbered ones
abbrev pub by_parity : Bool → Bool → List Cell → Words
by_parity even odd d i = if (if i % 2 == 0 then even else odd) then newest (cell d i) else oldest (cell d i)

-- by a seed, from its draws
abbrev pub by_draws : ℕ → List Cell → Words
by_draws seed d i = if is_odd_draw seed (twos_before d i) then newest (cell d i) else oldest (cell d i)
