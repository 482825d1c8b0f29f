use Rattle.world_image_laws.specs.FirstPaths.{first_path-is, first_path-own}
use Rattle.world_image_laws.proofs.beginning.an_inode_has_a_first_path.Goals as goal

pub returns-clause-first : goal.returns-clause-first
returns-clause-first c = first_path-is

pub returns-clause-own : goal.returns-clause-own
returns-clause-own c = first_path-own
