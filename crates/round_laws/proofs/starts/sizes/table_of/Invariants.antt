use Rattle.std.specs.Prelude.{◌≡◌, ◌<◌, ℕ, [], length}
use Rattle.world_view_laws.specs.eof_laws.image_model.Volume.{inode}
use Rattle.world_view_laws.specs.eof_laws.file_table.Files.{runs_in, size_in}
use Rattle.round_laws.proofs.starts.sizes.table_of.Given as goal

abbrev pub invariant-loop-ino : goal.invariant-loop-ino
invariant-loop-ino l = record {
  count : length l.table.sizes ≡ l.k.volume.geometry.inodes;
  done : (i : ℕ) → i < l.ino → size_in l.table i ≡ (inode l.k.volume i).size;
  runs : (i : ℕ) → runs_in l.table i ≡ [];
}
