-- What a history and a tree are printed as, byte by byte. Every line ends with byte 10.
use Rattle.std.specs.Prelude.{ℕ, ◌+◌, ◌/◌, ◌%◌, ◌==◌, List, [], ◌∷◌, ◌++◌, length, take, codes, slice_index, Bool, ◌&&◌, nat_le, nat_lt, if◌then◌else◌, Option, Some, None, flat_map, decimal}
use Rattle.std.specs.Fmt.{signed_decimal}
use Rattle.std.specs.List.{list_all}
use Rattle.posix_types.specs.declared.call.Call.{Call}
use Rattle.posix_types.specs.declared.call.Who.{Who}
use Rattle.posix_types.specs.declared.handle.Flags.{Flags}
use Rattle.posix_types.specs.declared.handle.Handle.{Handle}
use Rattle.posix_types.specs.declared.handle.Whence.{Whence}
use Rattle.posix_types.specs.declared.item.Item.{Item}
use Rattle.posix_types.specs.declared.reply.Errno.{Errno}
use Rattle.posix_types.specs.declared.reply.Reply.{Reply}
use Rattle.posix_types.specs.declared.reply.Room.{Room}
use Rattle.posix_types.specs.declared.reply.Stat.{Stat}
use Rattle.posix_types.specs.declared.reply.What.{What}
use Rattle.posix_types.specs.declared.tree.TreeEntry.{TreeEntry}
use Rattle.posix_types.specs.declared.tree.TreeNode.{TreeNode}
use Rattle.posix_tables.specs.Places.{printed}

-- a byte as two hexadecimal digits, in small letters
abbrev pub hex_digit : ℕ → ℕ
hex_digit digit = if nat_lt digit 10 then 48 + digit else 87 + digit

abbrev pub hex_byte : ℕ → List ℕ
hex_byte byte = hex_digit (byte / 16) ∷ hex_digit (byte % 16) ∷ []

-- Data: no bytes as `-`, nine or more equal bytes as the byte and how often, all others byte by byte.
abbrev pub are_equal : List ℕ → Bool
are_equal bytes = list_all (λ byte. byte == slice_index bytes 0) bytes

abbrev pub is_short : List ℕ → Bool
is_short bytes = nat_le 9 (length bytes) && are_equal bytes

unfoldable pub data_text : List ℕ → List ℕ
data_text bytes =
    if length bytes == 0 then codes "-"
    else if is_short bytes then hex_byte (slice_index bytes 0) ++ codes "*" ++ decimal (length bytes)
    else flat_map hex_byte bytes

-- The words of a call.
abbrev pub handle_text : Handle → List ℕ
handle_text handle = take handle.len handle.bytes

abbrev pub letter_if : Bool → List ℕ → List ℕ
letter_if is_set letter = if is_set then letter else []

unfoldable pub flags_text : Flags → List ℕ
flags_text flags =
    letter_if flags.read (codes "r")
    ++ letter_if flags.write (codes "w")
    ++ letter_if flags.append (codes "a")
    ++ letter_if flags.create (codes "c")
    ++ letter_if flags.exclusive (codes "x")
    ++ letter_if flags.truncate (codes "t")

abbrev pub whence_text : Whence → List ℕ
whence_text Whence.Set = codes "set"
whence_text Whence.Cur = codes "cur"
whence_text Whence.End = codes "end"

unfoldable pub call_text : Call → List ℕ
call_text (Call.Mkdir path) = codes "mkdir " ++ printed path
call_text (Call.Rmdir path) = codes "rmdir " ++ printed path
call_text (Call.Unlink path) = codes "unlink " ++ printed path
call_text (Call.Rename from to) = codes "rename " ++ printed from ++ codes " " ++ printed to
call_text (Call.Open handle path flags) = codes "open " ++ handle_text handle ++ codes " " ++ printed path ++ codes " " ++ flags_text flags
call_text (Call.Close handle) = codes "close " ++ handle_text handle
call_text (Call.Dup old new) = codes "dup " ++ handle_text old ++ codes " " ++ handle_text new
call_text (Call.Read handle count) = codes "read " ++ handle_text handle ++ codes " " ++ decimal count
call_text (Call.Pread handle offset count) = codes "pread " ++ handle_text handle ++ codes " " ++ decimal offset ++ codes " " ++ decimal count
call_text (Call.Write handle bytes) = codes "write " ++ handle_text handle ++ codes " " ++ data_text bytes
call_text (Call.Pwrite handle offset bytes) = codes "pwrite " ++ handle_text handle ++ codes " " ++ decimal offset ++ codes " " ++ data_text bytes
call_text (Call.Seek handle whence by) = codes "seek " ++ handle_text handle ++ codes " " ++ whence_text whence ++ codes " " ++ signed_decimal by
call_text (Call.Truncate handle length) = codes "truncate " ++ handle_text handle ++ codes " " ++ decimal length
call_text (Call.Fsync handle) = codes "fsync " ++ handle_text handle
call_text (Call.Stat path) = codes "stat " ++ printed path
call_text (Call.List path) = codes "list " ++ printed path

-- The words of a reply.
abbrev pub errno_text : Errno → List ℕ
errno_text Errno.ENOENT = codes "ENOENT"
errno_text Errno.EEXIST = codes "EEXIST"
errno_text Errno.ENOTDIR = codes "ENOTDIR"
errno_text Errno.EISDIR = codes "EISDIR"
errno_text Errno.ENOTEMPTY = codes "ENOTEMPTY"
errno_text Errno.EBADF = codes "EBADF"
errno_text Errno.EINVAL = codes "EINVAL"
errno_text Errno.EPERM = codes "EPERM"
errno_text Errno.ENAMETOOLONG = codes "ENAMETOOLONG"
errno_text Errno.EMFILE = codes "EMFILE"
errno_text Errno.EFBIG = codes "EFBIG"
errno_text Errno.ENOSPC = codes "ENOSPC"
errno_text Errno.EBUSY = codes "EBUSY"

abbrev pub stat_text : Stat → List ℕ
stat_text Stat.Directory = codes "dir"
stat_text (Stat.File length) = codes "file " ++ decimal length

unfoldable pub reply_text : Reply → List ℕ
reply_text Reply.Ok = codes "ok"
reply_text (Reply.Fd number) = codes "fd " ++ decimal number
reply_text (Reply.Count count) = codes "count " ++ decimal count
reply_text (Reply.Offset offset) = codes "offset " ++ decimal offset
reply_text (Reply.Bytes bytes) = codes "data " ++ data_text bytes
reply_text (Reply.Stat stat) = stat_text stat
reply_text (Reply.Names names) = codes "names" ++ flat_map (λ name. 32 ∷ name) names
reply_text (Reply.Error errno) = errno_text errno

-- what was used up, how much of it was needed, and how much was left
abbrev pub what_text : What → List ℕ
what_text What.Blocks = codes "blocks"
what_text What.Nodes = codes "nodes"
what_text What.Names = codes "names"

abbrev pub room_text : Option Room → List ℕ
room_text None = []
room_text (Some room) = codes " " ++ what_text room.what ++ codes " " ++ decimal room.need ++ codes " " ++ decimal room.room

-- the set-up as `s`, a thread by its number
abbrev pub who_text : Who → List ℕ
who_text Who.Setup = codes "s"
who_text (Who.Thread number) = decimal number

-- who called, and the number of the call in that script
abbrev pub place_text : Who → ℕ → List ℕ
place_text who index = who_text who ++ codes "." ++ decimal index ++ codes " "

abbrev pub answer_text : Reply → Option Room → List ℕ
answer_text reply room = codes " = " ++ reply_text reply ++ room_text room ++ codes "\n"

-- a line of a history
unfoldable pub item_text : Item → List ℕ
item_text item = place_text item.who item.index ++ call_text item.call ++ answer_text item.reply item.room

abbrev pub history_text : List Item → List ℕ
history_text items = flat_map item_text items

-- a line of a tree: a directory, or a file with its length and, where it has any, its bytes
abbrev pub file_text : List ℕ → List ℕ
file_text bytes = if length bytes == 0 then [] else codes " " ++ data_text bytes

abbrev pub node_text : TreeNode → List ℕ
node_text TreeNode.Directory = codes " dir"
node_text (TreeNode.File bytes) = codes " file " ++ decimal (length bytes) ++ file_text bytes

unfoldable pub entry_text : TreeEntry → List ℕ
entry_text entry = printed entry.path ++ node_text entry.node ++ codes "\n"

abbrev pub tree_text : List TreeEntry → List ℕ
tree_text entries = flat_map entry_text entries
