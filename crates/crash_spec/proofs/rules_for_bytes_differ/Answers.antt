use Rattle.crash_spec.proofs.ByteRows.{byte_rows}
use Rattle.crash_spec.proofs.rules_for_bytes_differ.Goals as goal

pub returns : goal.returns
returns c = byte_rows
