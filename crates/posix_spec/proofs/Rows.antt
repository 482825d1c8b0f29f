-- Worked rows, by computation over the definitions alone: outcomes, trees, and published lengths, which no reply shows.
use Rattle.std.proofs.Common.{◌≡◌, ℕ, List, [], ◌∷◌, ◌++◌, Some, map, replicate, refl, true, false, pos, codes}
use Rattle.std.specs.Prelude.{None, Option}
use Rattle.std.specs.List.{range_with_len}
use Rattle.posix_types.specs.declared.call.Mode.{Mode}
use Rattle.posix_types.specs.declared.call.Who.{Who}
use Rattle.posix_types.specs.declared.call.Call.{Call}
use Rattle.posix_types.specs.declared.handle.Handle.{Handle}
use Rattle.posix_types.specs.declared.handle.Flags.{Flags}
use Rattle.posix_types.specs.declared.handle.Whence.{Whence}
use Rattle.posix_types.specs.declared.item.Outcome.{Outcome}
use Rattle.posix_types.specs.declared.reply.Errno.{Errno}
use Rattle.posix_types.specs.declared.reply.Reply.{Reply}
use Rattle.posix_types.specs.declared.reply.What.{What}
use Rattle.posix_types.specs.declared.tree.TreeEntry.{TreeEntry}
use Rattle.posix_types.specs.declared.tree.TreeNode.{TreeNode}
use Rattle.posix_tables.specs.Places.{entry_place, path_to, places, with_place}
use Rattle.posix_tables.specs.Open.{binding_of, closed, key_of, opened, with_binding, with_descriptor, with_offset, with_opened, without_binding}
use Rattle.posix_tables.specs.Names.{height, node_at_path, walk, with_entry, without_entry}
use Rattle.posix_spec.specs.Tree.{default_shape, root_alone, start, tree}
use Rattle.posix_spec.specs.Step.{close_done, dup_done, fsync_done, list_done, mkdir_done, open_done, opening, pread_done, pwrite_done, read_done, rename_done, renamed, rmdir_done, seek_done, stat_done, step, truncate_done, unlink_done, write_done, written}
use Rattle.posix_spec.specs.State.{made, State, swept, unnamed, with_file, with_published}
use Rattle.posix_tables.specs.Outcomes.{answer, no_space}
use Rattle.posix_tables.specs.NameRows.{list_rows, mkdir_rows, open_rows, rename_kind_rows, rename_rows, rmdir_rows, stat_rows, unlink_rows}
use Rattle.posix_spec.specs.FileRows.{dup_rows, seek_rows, truncate_rows, write_rows}
use Rattle.posix_tables.specs.Nodes.{node_at, published_of}
use Rattle.posix_spec.specs.Put.{Put, put_by}

-- the outcomes of calls of thread 0, one after another
abbrev outcomes : State → List Call → List Outcome
outcomes s [] = []
outcomes s (call ∷ calls) = (step s (Who.Thread 0) call).outcome ∷ outcomes (step s (Who.Thread 0) call).state calls

abbrev after : State → List Call → State
after s [] = s
after s (call ∷ calls) = after (step s (Who.Thread 0) call).state calls

-- the default image (247 data blocks, 64 inodes, 128 names) and the small one (56, 16, 16), strict
abbrev default : State
default = start root_alone default_shape Mode.Strict

abbrev small : State
small = start root_alone (record { data_blocks = 56; nodes = 12; names = 16 }) Mode.Strict

-- the handle `a`
abbrev handle_a : Handle
handle_a = record { len = 1; bytes = 97 ∷ 0 ∷ 0 ∷ 0 ∷ 0 ∷ 0 ∷ 0 ∷ 0 ∷ [] }

abbrev flags : Flags
flags = record { read = true; write = true; append = false; create = true; exclusive = false; truncate = false }

abbrev file_f : List (List ℕ)
file_f = codes "f" ∷ []

-- open a /f rwc, write a 6869, seek a set 0, read a 9
abbrev write_then_read : List Call
write_then_read = Call.Open handle_a file_f flags ∷ Call.Write handle_a (codes "hi") ∷ Call.Seek handle_a Whence.Set (pos 0) ∷ Call.Read handle_a 9 ∷ []

abbrev handle_b : Handle
handle_b = record { len = 1; bytes = 98 ∷ 0 ∷ 0 ∷ 0 ∷ 0 ∷ 0 ∷ 0 ∷ 0 ∷ [] }

abbrev cutting : Flags
cutting = record { read = true; write = true; append = false; create = false; exclusive = false; truncate = true }

abbrev path_a : List (List ℕ)
path_a = codes "a" ∷ []

abbrev path_ab : List (List ℕ)
path_ab = codes "a" ∷ codes "b" ∷ []

abbrev path_abc : List (List ℕ)
path_abc = codes "a" ∷ codes "b" ∷ codes "c" ∷ []

abbrev path_x : List (List ℕ)
path_x = codes "x" ∷ []

-- the published length of the first node made, after calls
abbrev published_after : List Call → ℕ
published_after calls = published_of (node_at (after default calls).nodes 1)

-- open a /f rwc, write a 6869
abbrev two_bytes : List Call
two_bytes = Call.Open handle_a file_f flags ∷ Call.Write handle_a (codes "hi") ∷ []

-- the same through a handle that appends
abbrev append_two_bytes : List Call
append_two_bytes = Call.Open handle_a file_f (record flags { append = true }) ∷ Call.Write handle_a (codes "hi") ∷ []

-- what a call of thread 0 puts after others
abbrev puts : List Call → Call → Option Put
puts calls call = put_by (after default calls) (Who.Thread 0) call

-- directories one below the other, up to 18 names deep
abbrev deep : List TreeEntry
deep = map (λ n. record { path = replicate n (codes "d"); node = TreeNode.Directory }) (range_with_len 0 19)

record WorkedRows : Type 0 where
  write_then_read_back : outcomes default write_then_read ≡ answer (Reply.Fd 0) ∷ answer (Reply.Count 2) ∷ answer (Reply.Offset 0) ∷ answer (Reply.Bytes (codes "hi")) ∷ []
  write_then_read_tree : tree (after default write_then_read) ≡ record { path = []; node = TreeNode.Directory } ∷ record { path = file_f; node = TreeNode.File (codes "hi") } ∷ []
  no_room_for_a_second_file : outcomes small (Call.Open handle_a file_f flags ∷ Call.Write handle_a (replicate 131072 120) ∷ Call.Write handle_a (replicate 131072 120) ∷ [])
      ≡ answer (Reply.Fd 0) ∷ answer (Reply.Count 131072) ∷ no_space What.Blocks 32 19 ∷ []
  rename_below_itself_and_away : outcomes default (Call.Mkdir path_a ∷ Call.Mkdir path_ab ∷ Call.Rename path_a path_abc ∷ Call.Rename path_ab path_x ∷ Call.Rmdir path_a ∷ Call.List [] ∷ [])
      ≡ answer Reply.Ok ∷ answer Reply.Ok ∷ answer (Reply.Error Errno.EINVAL) ∷ answer Reply.Ok ∷ answer Reply.Ok ∷ answer (Reply.Names (codes "x" ∷ [])) ∷ []
  fresh_tree : tree default ≡ root_alone
  published_by_creation : published_after (Call.Open handle_a file_f flags ∷ []) ≡ 0
  not_published_by_write : published_after two_bytes ≡ 0
  published_by_fsync : published_after (two_bytes ++ Call.Fsync handle_a ∷ Call.Write handle_a (codes "!") ∷ []) ≡ 2
  published_by_close : published_after (two_bytes ++ Call.Close handle_a ∷ []) ≡ 2
  published_by_close_of_a_duplicate : published_after (two_bytes ++ Call.Dup handle_a handle_b ∷ Call.Close handle_b ∷ []) ≡ 2
  published_by_truncate : published_after (two_bytes ++ Call.Truncate handle_a 5 ∷ []) ≡ 5
  published_by_open_with_t : published_after (two_bytes ++ Call.Fsync handle_a ∷ Call.Open handle_b file_f cutting ∷ []) ≡ 0
  tree_of_18_names : tree (start deep default_shape Mode.Strict) ≡ deep
  put_by_a_write : puts two_bytes (Call.Write handle_a (codes "hi")) ≡ Some (record { node = 1; place = 2; bytes = codes "hi" })
  put_by_an_append : puts (append_two_bytes ++ Call.Seek handle_a Whence.Set (pos 0) ∷ []) (Call.Write handle_a (codes "hi")) ≡ Some (record { node = 1; place = 2; bytes = codes "hi" })
  put_by_a_pwrite : puts append_two_bytes (Call.Pwrite handle_a 1 (codes "hi")) ≡ Some (record { node = 1; place = 1; bytes = codes "hi" })
  not_put_by_a_write_of_nothing : puts two_bytes (Call.Write handle_a []) ≡ None
  not_put_through_an_unknown_handle : puts two_bytes (Call.Write handle_b (codes "hi")) ≡ None
  not_put_too_far : puts two_bytes (Call.Pwrite handle_a 16777215 (codes "hi")) ≡ None
  not_put_without_room : put_by (after small (Call.Open handle_a file_f flags ∷ [])) (Who.Thread 0) (Call.Pwrite handle_a 300000 (codes "hi")) ≡ None
  not_put_by_truncate : puts two_bytes (Call.Truncate handle_a 9) ≡ None

worked_rows : WorkedRows
unfolding with_entry without_entry walk node_at_path height mkdir_rows rmdir_rows unlink_rows rename_kind_rows rename_rows open_rows stat_rows list_rows binding_of key_of opened with_binding with_descriptor with_opened with_offset without_binding closed with_file with_published made unnamed swept dup_rows write_rows seek_rows truncate_rows mkdir_done rmdir_done unlink_done renamed rename_done opening open_done close_done dup_done read_done pread_done written write_done pwrite_done seek_done truncate_done fsync_done stat_done list_done path_to entry_place with_place places put_by
worked_rows = record {
  write_then_read_back = refl;
  write_then_read_tree = refl;
  no_room_for_a_second_file = refl;
  rename_below_itself_and_away = refl;
  fresh_tree = refl;
  published_by_creation = refl;
  not_published_by_write = refl;
  published_by_fsync = refl;
  published_by_close = refl;
  published_by_close_of_a_duplicate = refl;
  published_by_truncate = refl;
  published_by_open_with_t = refl;
  tree_of_18_names = refl;
  put_by_a_write = refl;
  put_by_an_append = refl;
  put_by_a_pwrite = refl;
  not_put_by_a_write_of_nothing = refl;
  not_put_through_an_unknown_handle = refl;
  not_put_too_far = refl;
  not_put_without_room = refl;
  not_put_by_truncate = refl;
}
