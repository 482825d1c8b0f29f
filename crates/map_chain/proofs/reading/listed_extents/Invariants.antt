use Rattle.std.proofs.Common.{◌≡◌, length}
use Rattle.volume_laws.specs.image_model.Listed.{AreListed}
use Rattle.pm_lines.specs.pm_model.Images.{words_of}
use Rattle.map_chain.proofs.reading.listed_extents.Given as goal

-- the extents before place k are listed
abbrev pub invariant-loop-k : goal.invariant-loop-k
invariant-loop-k l = record {
  count : length l.listed.items ≡ l.k;
  listed : AreListed (words_of l.pm) l.blocks l.listed.items;
}
