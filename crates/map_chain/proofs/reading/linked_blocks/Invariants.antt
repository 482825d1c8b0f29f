use Rattle.std.proofs.Common.{◌≡◌, ◌++◌, ◌-◌, length}
use Rattle.volume_laws.specs.image_model.Chains.{blocks_from}
use Rattle.volume_laws.specs.image_model.Placed.{AreInDevice}
use Rattle.pm_lines.specs.pm_model.Images.{words_of}
use Rattle.map_chain.proofs.reading.linked_blocks.Given as goal

-- the blocks so far, and those that come from `block` on
abbrev pub invariant-loop-place : goal.invariant-loop-place
invariant-loop-place l = record {
  count : length l.blocks.items ≡ l._place;
  linked : blocks_from (words_of l.pm) l.root l.count ≡ l.blocks.items ++ blocks_from (words_of l.pm) l.block (l.count - l._place);
  in_device : AreInDevice (length l.pm) l.blocks.items;
}
