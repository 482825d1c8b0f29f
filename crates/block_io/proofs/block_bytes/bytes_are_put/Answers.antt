use Rattle.block_io.proofs.Bytes.{bytes_put}
use Rattle.block_io.proofs.block_bytes.bytes_are_put.Goals as goal

pub returns : goal.returns
returns c = bytes_put
