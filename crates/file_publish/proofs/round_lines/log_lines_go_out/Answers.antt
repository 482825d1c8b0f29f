use Rattle.file_publish.proofs.Out.{stands-out}
use Rattle.file_publish.proofs.round_lines.log_lines_go_out.Goals as goal

pub returns : goal.returns
returns c = stands-out
