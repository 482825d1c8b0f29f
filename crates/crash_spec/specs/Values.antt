-- Bytes and what calls make of them: the values that writes put at a byte of a file, in order, and whether the file was
-- shortened to that byte or less. Files go by node numbers, which never change for a file.
use Rattle.std.specs.Prelude.{◌≡◌, ◌⊎◌, ℕ, ◌-◌, Bool, false, ◌&&◌, ◌||◌, ◌==◌, nat_le, List, [], ◌∷◌, Option, Some, None, slice_get, if◌then◌else◌}
use Rattle.posix_laws.specs.posix_spec.Put.{Put, put_by}
use Rattle.posix_laws.specs.posix_spec.Run.{after_call, Unfinished}
use Rattle.posix_laws.specs.posix_spec.State.{State}
pub use Rattle.posix_laws.specs.Shortens.{ends_before, shortens}

-- the value that a put has for byte i of node n
abbrev pub value_of : Option Put → ℕ → ℕ → Option ℕ
value_of None n i = None
value_of (Some put) n i = if (put.node == n) && nat_le put.place i then slice_get put.bytes (i - put.place) else None

-- the value that a call puts there: none, unless it is a write that is accepted and reaches the byte
abbrev pub value_put : State → Unfinished → ℕ → ℕ → Option ℕ
value_put s c n i = value_of (put_by s c.0 c.1) n i

-- some call of a list shortens it so
unfoldable pub is_shortened : State → List Unfinished → ℕ → ℕ → Bool
is_shortened s [] n i = false
is_shortened s (c ∷ calls) n i = shortens s c n i || is_shortened (after_call s c) calls n i

-- one more value, if there is one
abbrev pub with_value : Option ℕ → List ℕ → List ℕ
with_value None values = values
with_value (Some x) values = x ∷ values

-- the values that calls put there, in order
unfoldable pub values_put : State → List Unfinished → ℕ → ℕ → List ℕ
values_put s [] n i = []
values_put s (c ∷ calls) n i = with_value (value_put s c n i) (values_put (after_call s c) calls n i)

-- a value is one of these
abbrev pub IsOneOf : List ℕ → ℕ → Type 0
IsOneOf [] x = ⊥
IsOneOf (v ∷ values) x = (x ≡ v) ⊎ IsOneOf values x

-- the last of a value and the values that follow it
abbrev pub last_of : ℕ → List ℕ → ℕ
last_of v [] = v
last_of v (w ∷ values) = last_of w values

-- the last of v and the values that are put before the file is first shortened to i bytes or less
unfoldable pub value_before_cut : State → List Unfinished → ℕ → ℕ → ℕ → ℕ
value_before_cut s [] n i v = v
value_before_cut s (c ∷ calls) n i v =
    if shortens s c n i then v
    else value_before_cut (after_call s c) calls n i (last_of v (with_value (value_put s c n i) []))
