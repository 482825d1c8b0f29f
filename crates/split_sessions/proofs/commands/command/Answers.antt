use Rattle.split_sessions.proofs.commands.command.Goals as goal

pub returns-clause-threads : goal.returns-clause-threads
returns-clause-threads c = c.top_alone.ensures.threads

pub returns-clause-told : goal.returns-clause-told
returns-clause-told c = c.top_alone.ensures.told
