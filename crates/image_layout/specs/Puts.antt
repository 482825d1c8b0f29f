-- Bytes written into a line.
use Rattle.std.specs.Prelude.{ℕ, ◌+◌, List, ◌++◌, length, take, drop}

-- the bytes with the part in their place from byte `at` on
abbrev pub put_at : List ℕ → ℕ → List ℕ → List ℕ
put_at bytes at part = take at bytes ++ part ++ drop (at + length part) bytes
