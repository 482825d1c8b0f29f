-- the rows
use Rattle.image_laws.specs.HeadDamage.{first_magic_byte, version_9, one_block_more, word_of_block_0, line_5_set}
use Rattle.image_laws.proofs.damages.wrong_superblocks.Goals as goal

pub returns-clause-magic : goal.returns-clause-magic
returns-clause-magic c = first_magic_byte

pub returns-clause-version : goal.returns-clause-version
returns-clause-version c = version_9

pub returns-clause-blocks : goal.returns-clause-blocks
returns-clause-blocks c = one_block_more

pub returns-clause-unnamed : goal.returns-clause-unnamed
returns-clause-unnamed c = word_of_block_0

pub returns-clause-hidden : goal.returns-clause-hidden
returns-clause-hidden c = line_5_set
