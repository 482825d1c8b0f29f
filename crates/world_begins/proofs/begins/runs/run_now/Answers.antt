use Rattle.std.proofs.Common.{subst}
use Rattle.posix_types.specs.declared.call.Call.{Call}
use Rattle.world_begins.specs.Runs.{HasRoom}
use Rattle.world_parts.specs.Seen.{seen}
use Rattle.world_begins.proofs.begins.runs.run_now.Goals as goal

pub run_truncate-requires-clause-enough : goal.run_truncate-requires-clause-enough
run_truncate-requires-clause-enough c = subst (λ (call : Call). HasRoom (seen c.args.p.now) c.args.who call) c.in-Truncate.is c.requires.enough
