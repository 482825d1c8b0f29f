-- A value of which a turn asks nothing.
use Rattle.std.specs.Prelude.{◌≡◌, ℕ, Bool, false, List, length, replicate, slice_get, slice_set, Some}
use Rattle.std.proofs.lemmas.List.{length-replicate}
use Rattle.thread_rows.specs.declared.heavies.Heavy.{Heavy}

abbrev pub OpensAny : Heavy → ℕ → Type 0
OpensAny x n = Unit {0}

abbrev pub first_flags : Heavy → ℕ → List Bool
first_flags x n = replicate n false

abbrev pub HoldsAny : Heavy → List Bool → Type 0
HoldsAny x views = Unit {0}

abbrev pub AllowsAny : Bool → Heavy → Heavy → Type 0
AllowsAny v x y = Unit {0}

-- its view stays
abbrev pub next_flag : Bool → Heavy → Heavy → Bool
next_flag v x y = v

abbrev pub KnowsAny : Heavy → Bool → Type 0
KnowsAny x v = Unit {0}

pub sized_flags : (x : Heavy) (n : ℕ) → OpensAny x n → length (first_flags x n) ≡ n
sized_flags x n opens = length-replicate n false

pub starts_any : (x : Heavy) (n : ℕ) → OpensAny x n → HoldsAny x (first_flags x n)
starts_any x n opens = tt

pub keeps_any : (x y : Heavy) (views : List Bool) (i : ℕ) (v : Bool) → HoldsAny x views → slice_get views i ≡ Some v → AllowsAny v x y → HoldsAny y (slice_set views i (next_flag v x y))
keeps_any x y views i v holds at may = tt

pub tells_any : (x : Heavy) (views : List Bool) (i : ℕ) (v : Bool) → HoldsAny x views → slice_get views i ≡ Some v → KnowsAny x v
tells_any x views i v holds at = tt
