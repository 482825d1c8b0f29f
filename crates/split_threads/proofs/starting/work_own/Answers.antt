use Rattle.split_threads.proofs.starting.work_own.Goals as goal

pub work-worked-requires : goal.work-worked-requires
work-worked-requires g c = (c.requires.number, c.requires.view, c.requires.worker, c.requires.may)
