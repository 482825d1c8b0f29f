use Rattle.log_laws.proofs.CheckedLaws.{sound-checked}
use Rattle.log_laws.proofs.FoundLaws.{carries-out}
use Rattle.log_laws.proofs.live.the_next_entry_is_carried_out.Goals as goal

pub returns-clause-sound : goal.returns-clause-sound
returns-clause-sound c = sound-checked

pub returns-clause-carried : goal.returns-clause-carried
returns-clause-carried c = carries-out
