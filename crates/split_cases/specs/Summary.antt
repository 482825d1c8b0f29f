-- WHAT A LOAD PRINTS of a history and a tree: five sums, one a line.
use Rattle.std.specs.Prelude.{ℕ, List, ◌++◌, length, codes, count_by, decimal, sum_by, Bool, true, false, ◌&&◌, if◌then◌else◌}
use Rattle.posix_types.specs.declared.call.Call.{Call}
use Rattle.posix_types.specs.declared.call.Who.{Who}
use Rattle.posix_types.specs.declared.item.Item.{Item}
use Rattle.posix_types.specs.declared.reply.Reply.{Reply}
use Rattle.posix_types.specs.declared.tree.TreeEntry.{TreeEntry}
use Rattle.posix_types.specs.declared.tree.TreeNode.{TreeNode}

-- ---- the calls of the threads, those of the set-up left out
abbrev pub is_thread : Who → Bool
is_thread Who.Setup = false
is_thread (Who.Thread number) = true

abbrev pub is_called : Item → Bool
is_called item = is_thread item.who

abbrev pub is_error : Reply → Bool
is_error Reply.Ok = false
is_error (Reply.Fd number) = false
is_error (Reply.Count count) = false
is_error (Reply.Offset offset) = false
is_error (Reply.Bytes bytes) = false
is_error (Reply.Stat stat) = false
is_error (Reply.Names names) = false
is_error (Reply.Error errno) = true

abbrev pub is_refused : Item → Bool
is_refused item = is_thread item.who && is_error item.reply

-- what a write of a thread answered that it wrote
abbrev pub is_write : Call → Bool
is_write (Call.Mkdir path) = false
is_write (Call.Rmdir path) = false
is_write (Call.Unlink path) = false
is_write (Call.Rename from to) = false
is_write (Call.Open handle path flags) = false
is_write (Call.Close handle) = false
is_write (Call.Dup old new) = false
is_write (Call.Read handle count) = false
is_write (Call.Pread handle offset count) = false
is_write (Call.Write handle bytes) = true
is_write (Call.Pwrite handle offset bytes) = true
is_write (Call.Seek handle whence by) = false
is_write (Call.Truncate handle length) = false
is_write (Call.Fsync handle) = false
is_write (Call.Stat path) = false
is_write (Call.List path) = false

abbrev pub count_in : Reply → ℕ
count_in Reply.Ok = 0
count_in (Reply.Fd number) = 0
count_in (Reply.Count count) = count
count_in (Reply.Offset offset) = 0
count_in (Reply.Bytes bytes) = 0
count_in (Reply.Stat stat) = 0
count_in (Reply.Names names) = 0
count_in (Reply.Error errno) = 0

abbrev pub written_by : Item → ℕ
written_by item = if is_thread item.who && is_write item.call then count_in item.reply else 0

-- ---- the files of the tree
abbrev pub is_file : TreeNode → Bool
is_file TreeNode.Directory = false
is_file (TreeNode.File bytes) = true

abbrev pub is_file_entry : TreeEntry → Bool
is_file_entry entry = is_file entry.node

abbrev pub size_of : TreeNode → ℕ
size_of TreeNode.Directory = 0
size_of (TreeNode.File bytes) = length bytes

abbrev pub bytes_of : TreeEntry → ℕ
bytes_of entry = size_of entry.node

-- ---- the text
abbrev pub sum_line : List ℕ → ℕ → List ℕ
sum_line word sum = word ++ decimal sum ++ codes "\n"

-- the calls of the threads, those with an error, what their writes wrote, and the files and their bytes
unfoldable pub summary_text : List Item → List TreeEntry → List ℕ
summary_text history tree =
    sum_line (codes "calls ") (count_by is_called history)
    ++ sum_line (codes "refused ") (count_by is_refused history)
    ++ sum_line (codes "written ") (sum_by written_by history)
    ++ sum_line (codes "files ") (count_by is_file_entry tree)
    ++ sum_line (codes "bytes ") (sum_by bytes_of tree)
