use Rattle.std.specs.Prelude.{◌≡◌, ◌≤◌, ◌<◌, ◌/◌, ◌%◌, ◌*◌, ℕ, length, slice_index}
use Rattle.std.specs.Vec.{vec_capacity}
use Rattle.world_parts.specs.block_io.Lines.{line_at}
use Rattle.world_parts.specs.pm_model.Cells.{cell, newest}
use Rattle.world_rounds.proofs.rounds.rounds.words_of.Given as goal

abbrev pub invariant-loop-i : goal.invariant-loop-i
invariant-loop-i l = record {
  count : length l.words.items ≡ l.i;
  room : 8 * length l.lines ≤ vec_capacity l.words;
  words : (j : ℕ) → j < l.i → slice_index l.words.items j ≡ newest (cell (line_at l.lines (j / 8)).cells (j % 8));
}
