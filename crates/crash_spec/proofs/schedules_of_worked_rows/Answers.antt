use Rattle.crash_spec.proofs.ScheduleRows.{worked_schedules}
use Rattle.crash_spec.proofs.schedules_of_worked_rows.Goals as goal

pub returns : goal.returns
returns c = worked_schedules
