use Rattle.std.proofs.Common.{◌≡◌, ◌≢◌, ◌*◌, ◌/◌, ◌-◌, ◌<◌, ◌≤◌, ℕ, true, length, Some}
use Rattle.extent_map.specs.extent_model.Extents.{disk_at}
use Rattle.pm_lines.specs.pm_model.declared.Cell.TheVariants.{Single}
use Rattle.pm_lines.specs.pm_model.Cells.{cell, is_lent, fenced, newest}
use Rattle.pm_lines.specs.pm_model.Images.{words_of}
use Rattle.pm_lines.specs.pm_model.Powers.{is_on, Steps}
use Rattle.block_io.specs.Overwrites.{word_with}
use Rattle.block_io.specs.Puts.{HoldsEither}
use Rattle.block_io.proofs.block_bytes.ranges.store_range.Given as goal

-- the blocks before block m are flushed, the other words are as they were
abbrev pub invariant-loop-m : goal.invariant-loop-m
invariant-loop-m l = record {
  size : length l.pm ≡ length l.fn.pm;
  steps : Steps (576 * (l.m - l.first / 4096)) l.fn.power l.power;
  lent : (i : ℕ) → is_lent (cell l.pm i) ≡ is_lent (cell l.fn.pm i);
  others : (i : ℕ) → ((n : ℕ) → l.first / 4096 ≤ n → n < l.m → disk_at l.map n ≢ Some (i / 512)) → cell l.pm i ≡ cell l.fn.pm i;
  each : (n i : ℕ) → l.first / 4096 ≤ n → n < l.m → disk_at l.map n ≡ Some (i / 512)
      → HoldsEither (newest (cell l.fn.pm i)) (word_with l.first l.bytes n (words_of l.fn.pm) i) (cell l.pm i);
  done : is_on l.power ≡ true → (n i : ℕ) → l.first / 4096 ≤ n → n < l.m → disk_at l.map n ≡ Some (i / 512)
      → fenced (cell l.pm i) ≡ Single (word_with l.first l.bytes n (words_of l.fn.pm) i);
}
