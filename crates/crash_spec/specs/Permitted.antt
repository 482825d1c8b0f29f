-- Which trees a power loss may leave, by the mode of the file system.
use Rattle.std.specs.Prelude.{List}
use Rattle.posix_laws.specs.posix_types.declared.call.Mode.{Mode}
use Rattle.posix_laws.specs.posix_types.declared.item.Item.{Item}
use Rattle.posix_laws.specs.posix_types.declared.tree.TreeEntry.{TreeEntry}
use Rattle.posix_laws.specs.posix_spec.Run.{Unfinished}
use Rattle.posix_laws.specs.posix_spec.State.{State}
use Rattle.crash_spec.specs.Strict.{Strict}
use Rattle.crash_spec.specs.Sync.{Sync}
use Rattle.crash_spec.specs.Posix.{Posix, StrongPosix}

abbrev pub Permitted : Mode → State → List Item → List Unfinished → List TreeEntry → Type 0
Permitted Mode.Strict s history unfinished left = Strict s history unfinished left
Permitted Mode.Sync s history unfinished left = Sync s history unfinished left
Permitted Mode.Posix s history unfinished left = Posix s history unfinished left

-- WHAT THE FILE SYSTEM KEEPS, which is no more than its mode permits: in POSIX mode by the stronger rule for bytes
abbrev pub StronglyPermitted : Mode → State → List Item → List Unfinished → List TreeEntry → Type 0
StronglyPermitted Mode.Strict s history unfinished left = Strict s history unfinished left
StronglyPermitted Mode.Sync s history unfinished left = Sync s history unfinished left
StronglyPermitted Mode.Posix s history unfinished left = StrongPosix s history unfinished left
