use Rattle.log_replay.proofs.settling.laps.begin_lap.Goals as goal

pub restart_log-requires-clause-empty : goal.restart_log-requires-clause-empty
restart_log-requires-clause-empty c on = c.requires.order.none_set c.requires.unbatched

pub new_lap-requires-clause-empty : goal.new_lap-requires-clause-empty
new_lap-requires-clause-empty c on = c.requires.order.none_set c.requires.unbatched
