use Rattle.log_replay.proofs.Recovered.{recovers_checked}
use Rattle.log_replay.proofs.Same.{shows_the_same, trees_are_of_content}
use Rattle.log_replay.proofs.settling.a_remount_shows_the_same.Goals as goal

pub returns : goal.returns
returns c = record { recovered = recovers_checked; nameless = shows_the_same; trees = trees_are_of_content }
