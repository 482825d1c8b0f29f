use Rattle.fsync_relink.proofs.Moved.{grows-little, moves-relink, reads-chains, sets-size}
use Rattle.fsync_relink.proofs.relink_laws.maps.moves_are_relinks.Goals as goal

pub returns-clause-relinks : goal.returns-clause-relinks
returns-clause-relinks c free d size v w displaced sane after two moved = moves-relink free d size v w displaced two moved sane after

pub returns-clause-sizes : goal.returns-clause-sizes
returns-clause-sizes c free d size v w displaced two moved = sets-size free d size v w displaced two moved

pub returns-clause-little : goal.returns-clause-little
returns-clause-little c free d size v w displaced sane old new two staging few fits moved =
    grows-little free d size v w displaced two moved sane old new staging few fits

pub returns-clause-chains : goal.returns-clause-chains
returns-clause-chains c = reads-chains
