use Rattle.file_publish.proofs.Home.{stands-home}
use Rattle.file_publish.proofs.round_lines.log_lines_come_home.Goals as goal

pub returns : goal.returns
returns c = stands-home
