use Rattle.std.proofs.Common.{rules}
use Rattle.script_text.proofs.handles.may_open.Goals as goal

pub returns-then-not-flags-2 : goal.returns-then-not-flags-2
returns-then-not-flags-2 c = search rules

pub returns-else-not-flags-2 : goal.returns-else-not-flags-2
returns-else-not-flags-2 c = search rules
