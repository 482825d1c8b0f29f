-- How a job of the parts of a World returns.
use Rattle.std.specs.Prelude.{◌≡◌, length}
use Rattle.std.proofs.Common.{Global, Vec}
use Rattle.posix_types.specs.declared.call.Who.{Who}
use Rattle.posix_types.specs.declared.reply.Reply.{Reply}
use Rattle.posix_tables.specs.Outcomes.{answer}
use Rattle.world_parts.specs.list_laws.Members.{In}
use Rattle.world_parts.specs.in_flight.live_model.Jobs.{without}
use Rattle.world_parts.specs.in_flight.live_model.Standing.{JobOut}
use Rattle.world_parts.specs.in_flight.world_model.Jobs.{put_bytes_of}
use Rattle.world_parts.specs.Adds.{IsAdded}
use Rattle.world_parts.specs.declared.parts.Parts.{Parts}

-- the job of a caller is taken out, and its item added: it put all its bytes
pub record IsReturned (who : Who) (old new : Parts) : Type 0 where
  pub taken : JobOut
  pub was_out : In taken old.pending.items
  pub own : taken.who ≡ who
  pub pending : Vec JobOut Global
  pub left : pending.items ≡ without who old.pending.items
  pub added : IsAdded taken.who taken.call (answer (Reply.Count (length (put_bytes_of taken.call)))) (record old { pending = pending }) new
