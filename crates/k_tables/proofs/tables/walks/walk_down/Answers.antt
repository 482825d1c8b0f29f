use Rattle.std.proofs.Common.{◌∙◌}
use Rattle.name_laws.specs.k_split_model.Spaces.{entries_of, is_directory_in}
use Rattle.k_tables.proofs.WalkStops.{walk-stops}
use Rattle.k_tables.proofs.tables.walks.walk_down.Goals as goal

pub returns-in-Err : goal.returns-in-Err
returns-in-Err c =
    walk-stops (is_directory_in c.args.inodes.now) (entries_of c.args.names.now) c.loop-name.at c.args.path.now c.loop-name.name-index
    c.name-item.result c.in-Err.errno c.loop-name-test.true c.name-item.is c.in-Err.ensures
    ∙ c.loop-name.invariant
