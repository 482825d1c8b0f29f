use Rattle.image_laws.specs.MapDamage.{block_of_two_files, chain_block_of_its_file}
use Rattle.image_laws.proofs.damages.wrong_owners.Goals as goal

pub returns : goal.returns
returns c = record { two_files = block_of_two_files; chain = chain_block_of_its_file }
