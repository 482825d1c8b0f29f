use Rattle.crash_spec.proofs.OneWay.{no_choice, one_course, one_event_follows, wants_are_few}
use Rattle.crash_spec.proofs.schedules_have_one_way.Goals as goal

pub returns-clause-event : goal.returns-clause-event
returns-clause-event c = one_event_follows

pub returns-clause-course : goal.returns-clause-course
returns-clause-course c = one_course

pub returns-clause-quiet : goal.returns-clause-quiet
returns-clause-quiet c = no_choice

pub returns-clause-wants : goal.returns-clause-wants
returns-clause-wants c = wants_are_few
