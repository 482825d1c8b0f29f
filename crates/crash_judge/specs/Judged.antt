-- What the judge decides.
use Rattle.std.specs.Prelude.{List}
use Rattle.posix_laws.specs.posix_types.declared.call.Mode.{Mode}
use Rattle.posix_laws.specs.posix_types.declared.item.Item.{Item}
use Rattle.posix_laws.specs.posix_types.declared.reply.Shape.{Shape}
use Rattle.posix_laws.specs.posix_types.declared.tree.TreeEntry.{TreeEntry}
use Rattle.posix_laws.specs.posix_spec.Run.{Unfinished}
use Rattle.posix_laws.specs.posix_spec.Tree.{start}
use Rattle.crash_spec.specs.Permitted.{Permitted}

-- the mode permits this tree of a file system that began with a tree
abbrev pub IsPermitted : Mode → Shape → List TreeEntry → List Item → List Unfinished → List TreeEntry → Type 0
IsPermitted mode shape tree history unfinished left = Permitted mode (start tree shape mode) history unfinished left
