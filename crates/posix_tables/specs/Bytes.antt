-- The bytes of a file, and places in them. All limits and places are in bytes.
use Rattle.std.specs.Prelude.{ℕ, ◌+◌, ◌-◌, List, ◌++◌, length, take, drop, replicate, Option, Some, None, nat_lt, ℤ, pos, negsuc, if◌then◌else◌}

-- the furthest offset that a seek leaves
abbrev pub furthest_offset : ℕ
furthest_offset = 999999999999999999

-- bytes cut to a length, or lengthened with zeros
abbrev pub resized : List ℕ → ℕ → List ℕ
resized bytes n = take n bytes ++ replicate (n - length bytes) 0

-- bytes with others from a place on, a gap being zeros
abbrev pub overwritten : List ℕ → ℕ → List ℕ → List ℕ
overwritten old start new = resized old start ++ new ++ drop (start + length new) old

-- at most n bytes from a place, up to the end
abbrev pub bytes_from : List ℕ → ℕ → ℕ → List ℕ
bytes_from bytes place n = take n (drop place bytes)

-- a place, if it is not above the limit
abbrev pub within_limit : ℕ → Option ℕ
within_limit place = if nat_lt furthest_offset place then None else Some place

-- a place with a number added, if that is neither below 0 nor above the limit
abbrev pub moved_place : ℕ → ℤ → Option ℕ
moved_place place (pos by) = within_limit (place + by)
moved_place place (negsuc less) = if nat_lt less place then within_limit (place - (less + 1)) else None
