-- What the changes of names and nodes make of a volume.
use Rattle.std.specs.Prelude.{ℕ, ◌+◌, ◌%◌, ◌^◌, [], Some, None}
use Rattle.image_model.specs.layout_model.declared.lines.Inode.{Inode}
use Rattle.image_model.specs.layout_model.declared.lines.Kind.{Kind}
use Rattle.image_model.specs.layout_model.declared.lines.Kind.TheVariants.{Free}
use Rattle.image_model.specs.layout_model.Fresh.{empty_inode}
use Rattle.image_model.specs.layout_model.Lines.{NameRow}
use Rattle.image_model.specs.Reading.{inode_set, node_set, row_set}
use Rattle.image_model.specs.Volume.{Volume, inode}

-- the inode of a node that is made in the place of a free one: its line is taken once more
abbrev pub new_node : Kind → Inode → Inode
new_node kind x = empty_inode kind ((x.generation + 1) % 2 ^ 32)

-- a free inode, which keeps its generation
abbrev pub gone_node : Inode → Inode
gone_node x = empty_inode Free x.generation

-- a node is made, with a name
abbrev pub made : Kind → ℕ → ℕ → NameRow → Volume → Volume
made kind ino line r v = row_set line (Some r) (node_set ino (new_node kind (inode v ino)) v)

-- a name goes; its node stays
abbrev pub unnamed : ℕ → Volume → Volume
unnamed line v = row_set line None v

-- a name and its directory go
abbrev pub removed : ℕ → ℕ → Volume → Volume
removed line ino v = row_set line None (node_set ino (gone_node (inode v ino)) v)

-- a name line has another parent and another name, and the same child
abbrev pub renamed : ℕ → NameRow → Volume → Volume
renamed line r v = row_set line (Some r) v

-- likewise, and a file loses the name that stood there
abbrev pub renamed_over_file : ℕ → NameRow → ℕ → Volume → Volume
renamed_over_file line r target v = renamed line r (unnamed target v)

-- likewise, and the empty directory that stood there goes with its name
abbrev pub renamed_over_directory : ℕ → NameRow → ℕ → ℕ → Volume → Volume
renamed_over_directory line r target ino v = renamed line r (removed target ino v)

-- a node goes, with its map
abbrev pub dropped : ℕ → Volume → Volume
dropped ino v = inode_set ino (gone_node (inode v ino)) [] [] v
