use Rattle.std.proofs.Common.{sym, arith}
use Rattle.extent_map.proofs.Found.{none_begun, last_begun, last_ended}
use Rattle.extent_map.proofs.pieces.disk_block.Goals as goal

pub returns-then-begun-eq0 : goal.returns-then-begun-eq0
returns-then-begun-eq0 c = sym (none_begun _ _ _ c.requires c.begun_by-begun.ensures c.if-begun-eq0.true)

pub returns-then-block-extent : goal.returns-then-block-extent
returns-then-block-extent c = sym (last_begun _ _ _ c.requires c.begun_by-begun.ensures _ (omega arith) c.if-block-extent.true)

pub returns-else-block-extent : goal.returns-else-block-extent
returns-else-block-extent c = sym (last_ended _ _ _ c.requires c.begun_by-begun.ensures _ (omega arith) c.if-block-extent.false)
