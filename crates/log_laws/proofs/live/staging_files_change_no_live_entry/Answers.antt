use Rattle.log_laws.proofs.RestagedLaws.{keeps-files}
use Rattle.log_laws.proofs.live.staging_files_change_no_live_entry.Goals as goal

pub returns : goal.returns
returns c = keeps-files
