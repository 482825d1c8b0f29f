-- the laws of the definitions
use Rattle.volume_change_laws.specs.MapLaws.{dropped-keeps, switch-keeps, tree-keeps}
use Rattle.volume_change_laws.proofs.name_changes.maps_change.Goals as goal

pub returns-clause-dropped : goal.returns-clause-dropped
returns-clause-dropped c = λ ino v kept all maps below file unnamed. dropped-keeps ino v kept all maps (record { below = below; file = file; unnamed = unnamed })

pub returns-clause-tree : goal.returns-clause-tree
returns-clause-tree c = tree-keeps

pub returns-clause-switched : goal.returns-clause-switched
returns-clause-switched c = switch-keeps
