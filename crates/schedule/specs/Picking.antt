-- What a picker stands for, and what a pick is.
use Rattle.std.specs.Prelude.{◌≡◌, ◌⊎◌, ◌≤◌, ◌<◌, ◌+◌, ◌%◌, ℕ, List, length, Option, Some, None, slice_get, Contains}
use Rattle.rand_xoshiro.specs.SplitMix64.{mix_u64}
use Rattle.crash_spec.specs.Orders as meaning
use Rattle.crash_spec.specs.Orders.{ArePassedOver, draw, IsInTurn, IsLowest, Picks}
use Rattle.schedule.specs.declared.picks.Picker.{Picker}
use Rattle.schedule.specs.declared.picks.Source.{Source}

-- it is this order, so far: the list, of which so many numbers were used or passed over; or a generator that draws from here on what
-- the seed does behind so many draws
abbrev pub IsSource : Source → ℕ → meaning.Order → ℕ → Type 0
IsSource (Source.List numbers) place (meaning.Listed list) far = (numbers.items ≡ list) × (place ≡ far)
IsSource (Source.Seed draws) place (meaning.Seeded seed) far = (i : ℕ) → draw draws i ≡ draw seed (far + i)
IsSource Source.Round place meaning.Round far = Unit {0}
IsSource source place order far = ⊥

-- THE PICKER STANDS FOR AN ORDER that came so far.
pub record IsSoFar (picker : Picker) (order : meaning.Order) (far : meaning.Picker) : Type 0 where
  pub source : IsSource picker.source picker.place order far.place
  pub last : picker.last ≡ far.last

-- A PICK OF THE ORDER: whichever it stands for, this number of a thread is picked by it, and it stands behind that pick.
abbrev pub PicksNext : List ℕ → Picker → Picker → ℕ → Type 0
PicksNext numbers old new n = (order : meaning.Order) (far : meaning.Picker) → IsSoFar old order far → (next : meaning.Picker) × Picks numbers far order n next × IsSoFar new order next

-- the first place of a list, from one on, with a number that is among these, and the number
abbrev pub IsPlace : List ℕ → List ℕ → ℕ → Option (ℕ × ℕ) → Type 0
IsPlace list numbers from None = ArePassedOver list numbers from (length list)
IsPlace list numbers from (Some (k, n)) = (from ≤ k) × (slice_get list k ≡ Some n) × Contains numbers n × ArePassedOver list numbers from k

-- the lowest of some numbers that is not below one
abbrev pub IsLowestFrom : List ℕ → ℕ → Option ℕ → Type 0
IsLowestFrom numbers from None = (i : ℕ) → Contains numbers i → i < from
IsLowestFrom numbers from (Some n) = IsLowest (λ i. from ≤ i) numbers n

-- it is below the number that was found, or none was
abbrev pub IsLower : ℕ → Option ℕ → Type 0
IsLower n None = Unit {0}
IsLower n (Some low) = n < low

-- or it is not
abbrev pub IsNotLower : ℕ → Option ℕ → Type 0
IsNotLower n None = ⊥
IsNotLower n (Some low) = low ≤ n

-- a list's number that is among these, behind which its place then stands, and those before it are passed over; or all are, and it is one
-- in turn
abbrev pub IsListed : List ℕ → List ℕ → Option ℕ → ℕ → ℕ → ℕ → Type 0
IsListed list numbers last from to n =
    ((k : ℕ) × (from ≤ k) × (slice_get list k ≡ Some n) × Contains numbers n × ArePassedOver list numbers from k × (to ≡ k + 1))
    ⊎ (ArePassedOver list numbers from (length list) × IsInTurn numbers last n × (to ≡ length list))

-- WHERE A PICK GOES, by what the order takes its picks from: to this number, with its source and place behind it
abbrev pub GoesTo : List ℕ → Option ℕ → Source → ℕ → Source → ℕ → ℕ → Type 0
GoesTo numbers last (Source.List list) from then to n = (then ≡ Source.List list) × IsListed list.items numbers last from to n
GoesTo numbers last (Source.Seed draws) from then to n = (then ≡ Source.Seed (mix_u64 draws).1) × (slice_get numbers ((mix_u64 draws).0 % length numbers) ≡ Some n)
GoesTo numbers last Source.Round from then to n = (then ≡ Source.Round) × IsInTurn numbers last n
