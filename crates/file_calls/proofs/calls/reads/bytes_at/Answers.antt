use Rattle.std.proofs.Common.{subst, sym, List}
use Rattle.eof_laws.specs.image_model.Volume.{extents}
use Rattle.eof_laws.specs.file_overlay.declared.runs.Run.{Run}
use Rattle.live_step_laws.specs.file_reads.Reads.{FileCanBeRead}
use Rattle.live_step_laws.specs.map_collection.Kept.{Agrees, Answer}
use Rattle.file_calls.proofs.calls.reads.bytes_at.Goals as goal

pub read_bytes-requires-clause-readable : goal.read_bytes-requires-clause-readable
read_bytes-requires-clause-readable c = subst (λ (rs : List Run). FileCanBeRead c.args.k.now.volume c.args.k.now.cells rs c.args.ino) (sym c.overlay.ensures) c.requires.readable

pub read_bytes-requires-clause-agrees : goal.read_bytes-requires-clause-agrees
read_bytes-requires-clause-agrees c = subst (λ (kept : List Answer). Agrees kept c.args.ino (extents c.args.k.now.volume c.args.ino)) (sym c.new-collection.ensures) (λ block disk is. cc)
