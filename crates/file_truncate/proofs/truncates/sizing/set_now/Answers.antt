use Rattle.std.proofs.Common.{refl}
use Rattle.file_truncate.proofs.truncates.sizing.set_now.Goals as goal

pub returns-in-Ok-clause-paid : goal.returns-in-Ok-clause-paid
returns-in-Ok-clause-paid c = ((c.in-Ok.ensures.paid c.requires.unbatched).0, (c.in-Ok.ensures.paid c.requires.unbatched).1 refl)
