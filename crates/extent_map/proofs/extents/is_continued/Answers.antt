use Rattle.std.proofs.Common.{rules}
use Rattle.extent_map.proofs.extents.is_continued.Goals as goal

pub returns-then-extent-next : goal.returns-then-extent-next
returns-then-extent-next c = search rules
