-- Which calls run by now, and how their paths are spelled.
use Rattle.eof_laws.specs.layout_model.Spelling.{AreSpelled}
use Rattle.eof_laws.specs.file_table.Files.{Files}
use Rattle.file_calls.specs.Answers.{CutsNothingStaged}
use Rattle.eof_laws.specs.k_split_model.View.{View}
use Rattle.posix_types.specs.declared.call.Call.{Call}

-- THE CALLS THAT ARE BUILT. Here alone it grows.
abbrev pub IsBuilt : Call → Type 0
IsBuilt (Call.Mkdir p) = Unit {0}
IsBuilt (Call.Rmdir p) = Unit {0}
IsBuilt (Call.Unlink p) = Unit {0}
IsBuilt (Call.Rename p q) = Unit {0}
IsBuilt (Call.Open h p f) = Unit {0}
IsBuilt (Call.Close h) = Unit {0}
IsBuilt (Call.Dup h g) = Unit {0}
IsBuilt (Call.Read h n) = Unit {0}
IsBuilt (Call.Pread h o n) = Unit {0}
IsBuilt (Call.Seek h w by) = Unit {0}
IsBuilt (Call.Fsync h) = Unit {0}
IsBuilt (Call.Stat p) = Unit {0}
IsBuilt (Call.List p) = Unit {0}
IsBuilt call = ⊥

-- an `open` cuts no file of which something is staged; other calls cut none
abbrev pub CutsNothing : Call → View → Files → Type 0
CutsNothing (Call.Open h p f) k files = CutsNothingStaged k.volume p f files
CutsNothing call k files = Unit {0}

-- a path under which a call may give a node a name is spelled
abbrev pub NamesAreSpelled : Call → Type 0
NamesAreSpelled (Call.Mkdir p) = AreSpelled p
NamesAreSpelled (Call.Rename p q) = AreSpelled q
NamesAreSpelled (Call.Open h p f) = AreSpelled p
NamesAreSpelled call = Unit {0}
