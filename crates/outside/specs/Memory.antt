-- What the objects in memory keep.
use Rattle.std.specs.Prelude.{ℕ, ◌+◌, min, List, map}
use Rattle.std.specs.String.{string_bytes}
use Rattle.std.specs.Global.{Vec, Global}
use Rattle.std.specs.declared.string.String.{String}
use Rattle.outside.specs.Outside.{FileList, last_count}

-- files, the numbers of the calls that fail, the number of the next call, and the counts
pub record FilesInMemory : Type 0 where
  pub files : FileList
  pub failing : List ℕ
  pub calls : ℕ
  pub faults : ℕ
  pub misses : ℕ

pub record SinkInMemory : Type 0 where
  pub taken : List ℕ
  pub failing : List ℕ
  pub calls : ℕ
  pub faults : ℕ

-- the list that a vector of names and bytes stands for
abbrev pub shown : List (String Global × Vec ℕ) → FileList
shown files = map (λ file. (string_bytes file.0, file.1.items)) files

-- a count after one more, which stands still at its last value
abbrev pub counted : ℕ → ℕ
counted n = min (n + 1) last_count
