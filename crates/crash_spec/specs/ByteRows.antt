-- Worked rows of the two rules for bytes of POSIX mode: four bytes and an `fsync`, then the file is cut to two bytes and the
-- other two are written again.
use Rattle.std.specs.Prelude.{ℕ, List, [], ◌∷◌, ◌++◌}
use Rattle.posix_laws.specs.posix_types.declared.call.Call.{Call}
use Rattle.posix_laws.specs.posix_types.declared.call.Mode.{Mode}
use Rattle.posix_laws.specs.posix_types.declared.call.Who.{Who}
use Rattle.posix_laws.specs.posix_types.declared.item.Item.{Item}
use Rattle.posix_laws.specs.posix_types.declared.reply.Reply.{Reply}
use Rattle.posix_laws.specs.posix_types.declared.tree.TreeEntry.{TreeEntry}
use Rattle.posix_laws.specs.posix_types.declared.tree.TreeNode.{TreeNode}
use Rattle.posix_laws.specs.posix_spec.State.{State}
use Rattle.posix_laws.specs.posix_spec.Tree.{default_shape, root_alone, start}
use Rattle.crash_spec.specs.Posix.{Posix, StrongPosix}
use Rattle.crash_spec.specs.ScheduleRows.{handle, item, opens, path}

abbrev pub fresh : State
fresh = start root_alone default_shape Mode.Posix

-- `open f /f wc`, `write f 61626364`, `fsync f`; and `truncate f 2`, `pwrite f 2 7878`
abbrev pub synced : List Item
synced =
    item (Who.Thread 0) 0 (opens 102) (Reply.Fd 0)
    ∷ item (Who.Thread 0) 1 (Call.Write (handle 102) (97 ∷ 98 ∷ 99 ∷ 100 ∷ [])) (Reply.Count 4)
    ∷ item (Who.Thread 0) 2 (Call.Fsync (handle 102)) Reply.Ok
    ∷ []

abbrev pub later : List Item
later =
    item (Who.Thread 0) 3 (Call.Truncate (handle 102) 2) Reply.Ok
    ∷ item (Who.Thread 0) 4 (Call.Pwrite (handle 102) 2 (120 ∷ 120 ∷ [])) (Reply.Count 2)
    ∷ []

abbrev pub cut_and_written : List Item
cut_and_written = synced ++ later

-- a file /f with these bytes
abbrev pub file_of : List ℕ → List TreeEntry
file_of bytes = record { path = []; node = TreeNode.Directory } ∷ record { path = path 102; node = TreeNode.File bytes } ∷ []

-- the bytes as they were when they were synced, and with one of the two that came later
abbrev pub as_synced : List TreeEntry
as_synced = file_of (97 ∷ 98 ∷ 99 ∷ 100 ∷ [])

abbrev pub one_later : List TreeEntry
one_later = file_of (97 ∷ 98 ∷ 120 ∷ 100 ∷ [])

pub record ByteRows : Type 0 where
  pub weaker_has_one_later : Posix fresh cut_and_written [] one_later
  pub stronger_has_not : ¬ StrongPosix fresh cut_and_written [] one_later
  pub stronger_has_it_as_synced : StrongPosix fresh cut_and_written [] as_synced
