use Rattle.std.proofs.Common.{◌≡◌, take, map}
use Rattle.pm_lines.specs.pm_model.Images.{words_of}
use Rattle.k_tables.specs.ContentsTrees.{entry_in}
use Rattle.k_tables.proofs.contents.trees.content_tree.Given as goal

-- the entries of the places so far
abbrev pub invariant-loop-place : goal.invariant-loop-place
invariant-loop-place l = l.entries.items ≡ map (entry_in l.inodes l.maps (words_of l.pm)) (take l.place-index l.place-items)
