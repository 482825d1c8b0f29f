-- The orders in which threads are picked: by a list, by a number, or round.
use Rattle.std.specs.Prelude.{◌≡◌, ◌⊎◌, ℕ, zero, suc, ◌+◌, ◌%◌, ◌<◌, ◌≤◌, List, length, Option, Some, None, slice_get, Contains}
use Rattle.rand_xoshiro.specs.SplitMix64.{mix_u64}

pub data Order : Type 0 where
  Listed : List ℕ → Order
  Seeded : ℕ → Order
  Round : Order

-- How far an order is: how many numbers of its list were used or passed over, or how many were drawn; and the thread that
-- was picked last.
pub record Picker : Type 0 where
  pub place : ℕ
  pub last : Option ℕ

abbrev pub none_picked : Picker
none_picked = record { place = 0; last = None }

-- draw k of SplitMix64 from a seed, a number of 64 bits
unfoldable pub draw : ℕ → ℕ → ℕ
draw seed zero = (mix_u64 seed).0
draw seed (suc k) = draw (mix_u64 seed).1 k

-- the lowest of the numbers that pass
pub record IsLowest (passes : ℕ → Type 0) (numbers : List ℕ) (n : ℕ) : Type 0 where
  pub is_there : Contains numbers n
  pub passes_it : passes n
  pub lowest : (i : ℕ) → Contains numbers i → passes i → n ≤ i

-- round: the next higher of the numbers after the last one that was picked, or else the lowest
abbrev pub IsInTurn : List ℕ → Option ℕ → ℕ → Type 0
IsInTurn numbers None n = IsLowest (λ i. Unit {0}) numbers n
IsInTurn numbers (Some last) n =
    IsLowest (λ i. last < i) numbers n ⊎ (((i : ℕ) → Contains numbers i → i ≤ last) × IsLowest (λ i. Unit {0}) numbers n)

-- none of the list's numbers from a place on and before another is among these
abbrev pub ArePassedOver : List ℕ → List ℕ → ℕ → ℕ → Type 0
ArePassedOver list numbers from to = (j i : ℕ) → from ≤ j → j < to → slice_get list j ≡ Some i → ¬ Contains numbers i

-- Which thread is picked of those that can run, by rising number. A list's next number that can run is picked, and those
-- before it are passed over; behind the list it goes round. A seed's next draw picks by its remainder.
pub data Picks (numbers : List ℕ) (p : Picker) : Order → ℕ → Picker → Type 0 where
  ByList : (list : List ℕ) (k n : ℕ) → p.place ≤ k → slice_get list k ≡ Some n → Contains numbers n → ArePassedOver list numbers p.place k
      → Picks numbers p (Listed list) n (record { place = k + 1; last = Some n })
  BehindList : (list : List ℕ) (n : ℕ) → ArePassedOver list numbers p.place (length list) → IsInTurn numbers p.last n
      → Picks numbers p (Listed list) n (record { place = length list; last = Some n })
  ByDraw : (seed n : ℕ) → slice_get numbers (draw seed p.place % length numbers) ≡ Some n → Picks numbers p (Seeded seed) n (record { place = p.place + 1; last = Some n })
  InTurn : (n : ℕ) → IsInTurn numbers p.last n → Picks numbers p Round n (record { place = p.place; last = Some n })
