-- Laws of numbers in a line: a number that is read from spelled bytes has room in them.
use Rattle.std.specs.Prelude.{ℕ, ◌<◌, ◌^◌}
use Rattle.std.specs.Int.{from_le_bytes, to_le_bytes, w16, w32, w64}
use Rattle.std.proofs.Common.{arith}

pub from_le_bytes-bound_2 : (n : ℕ) → from_le_bytes w16 (to_le_bytes w16 n) < 2 ^ 16
from_le_bytes-bound_2 n = omega arith

pub from_le_bytes-bound_4 : (n : ℕ) → from_le_bytes w32 (to_le_bytes w32 n) < 2 ^ 32
from_le_bytes-bound_4 n = omega arith

pub from_le_bytes-bound_8 : (n : ℕ) → from_le_bytes w64 (to_le_bytes w64 n) < 2 ^ 64
from_le_bytes-bound_8 n = omega arith
