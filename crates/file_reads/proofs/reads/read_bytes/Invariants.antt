use Rattle.std.proofs.Common.{◌≡◌, take}
use Rattle.std.specs.List.{flat_map}
use Rattle.k_split.specs.pm_model.Images.{words_of}
use Rattle.file_reads.specs.Reads.{bytes_of_piece}
use Rattle.file_reads.proofs.reads.read_bytes.Given as goal

-- the pieces so far
abbrev pub invariant-loop-piece : goal.invariant-loop-piece
invariant-loop-piece l = l.bytes.items ≡ flat_map (bytes_of_piece l.k.volume (words_of l.k.cells)) (take l.piece-index l.piece-items)
