use Rattle.k_inodes.specs.image_layout.pm_model.Images.{words_of}
use Rattle.map_chain.specs.image_model.Volume.{volume}
use Rattle.k_reading.proofs.NameRows.{AreRead}
use Rattle.k_reading.proofs.lines.read_names.Given as goal

-- the names of the lines so far
abbrev pub invariant-loop-line : goal.invariant-loop-line
invariant-loop-line l = AreRead l.names (volume l.geometry (words_of l.pm)).names l.line
