-- the laws of the definitions
use Rattle.image_laws.specs.HonestLaws.{older-whole, newer-whole, mixed-torn, partly-torn, lent-whole}
use Rattle.image_laws.proofs.torn_lines_are_told.Goals as goal

pub returns-clause-older : goal.returns-clause-older
returns-clause-older c = older-whole

pub returns-clause-newer : goal.returns-clause-newer
returns-clause-newer c = newer-whole

pub returns-clause-mixed : goal.returns-clause-mixed
returns-clause-mixed c = mixed-torn

pub returns-clause-partly : goal.returns-clause-partly
returns-clause-partly c = partly-torn

pub returns-clause-lent : goal.returns-clause-lent
returns-clause-lent c = lent-whole
