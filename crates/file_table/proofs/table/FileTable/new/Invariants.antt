use Rattle.std.proofs.Common.{◌≡◌, ℕ, [], length}
use Rattle.std.specs.Prelude.{slice_index, slice_index_or}
use Rattle.file_table.specs.Files.{nothing_laid}
use Rattle.file_table.proofs.table.FileTable.new.Given as goal

-- the lines so far are empty
abbrev pub invariant-loop-line : goal.invariant-loop-line
invariant-loop-line l = record {
  overlays : length l.overlays.items ≡ l._line;
  count : length l.sizes.items ≡ l._line;
  sizes : (i : ℕ) → slice_index l.sizes.items i ≡ 0;
  runs : (i : ℕ) → (slice_index_or l.overlays.items i nothing_laid).runs ≡ [];
}
