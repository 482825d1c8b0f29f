-- Which calls are logged, and which wait for a logged call of another caller.
use Rattle.std.specs.Prelude.{ℕ, ◌+◌, Bool, true, false, not, ◌&&◌, ◌==◌, nat_lt, List, length, Option, None, option_map, if◌then◌else◌}
use Rattle.std.specs.List.{list_any}
use Rattle.std.specs.Option.{option_map_or}
use Rattle.posix_laws.specs.posix_types.declared.call.Call.{Call}
use Rattle.posix_laws.specs.posix_types.declared.call.Mode.{Mode}
use Rattle.posix_laws.specs.posix_types.declared.call.Who.{Who}
use Rattle.posix_laws.specs.posix_types.declared.handle.Handle.{Handle}
use Rattle.posix_laws.specs.posix_tables.Names.{node_at_path, too_long}
use Rattle.posix_laws.specs.posix_tables.Nodes.{bytes_of, node_at}
use Rattle.posix_laws.specs.posix_tables.Open.{opened, same_who}
use Rattle.posix_laws.specs.posix_spec.Put.{Put, put_by}
use Rattle.posix_laws.specs.posix_spec.Run.{Unfinished}
use Rattle.posix_laws.specs.posix_spec.State.{space, State}

-- A write of at least one byte that is accepted is logged: in strict mode always, in sync mode where it reaches past the
-- file's length, in POSIX mode never. No other call is.
abbrev pub reaches_past : State → Put → Bool
reaches_past s put = nat_lt (length (bytes_of (node_at s.nodes put.node))) (put.place + length put.bytes)

abbrev pub is_logged_put : Mode → State → Put → Bool
is_logged_put Mode.Strict s put = true
is_logged_put Mode.Sync s put = reaches_past s put
is_logged_put Mode.Posix s put = false

abbrev pub is_logged : State → Unfinished → Bool
is_logged s c = option_map_or (is_logged_put s.mode s) (put_by s c.0 c.1) false

-- the node of a handle's file, and the node at a path that is not too long
abbrev pub handle_node : State → Who → Handle → Option ℕ
handle_node s who h = option_map (λ description. description.node) (opened s.tables who h)

abbrev pub path_node : State → List (List ℕ) → Option ℕ
path_node s p = if too_long (space s).longest p then None else node_at_path (space s) p

-- The file that a call waits for, if it is busy: that of its handle; for `stat`, what stands at the path; for an
-- `open` that cuts the file, likewise, also where it would then be refused. The calls that look at names alone wait
-- for none.
unfoldable pub waits_for : State → Unfinished → Option ℕ
waits_for s (who, Call.Mkdir p) = None
waits_for s (who, Call.Rmdir p) = None
waits_for s (who, Call.Unlink p) = None
waits_for s (who, Call.Rename p q) = None
waits_for s (who, Call.Open h p f) = if f.truncate then path_node s p else None
waits_for s (who, Call.Close h) = handle_node s who h
waits_for s (who, Call.Dup h g) = handle_node s who h
waits_for s (who, Call.Read h n) = handle_node s who h
waits_for s (who, Call.Pread h o n) = handle_node s who h
waits_for s (who, Call.Write h x) = handle_node s who h
waits_for s (who, Call.Pwrite h o x) = handle_node s who h
waits_for s (who, Call.Seek h w i) = handle_node s who h
waits_for s (who, Call.Truncate h n) = handle_node s who h
waits_for s (who, Call.Fsync h) = handle_node s who h
waits_for s (who, Call.Stat p) = path_node s p
waits_for s (who, Call.List p) = None

-- a logged call that is out: its caller and its file
abbrev pub Out : Type 0
Out = Who × ℕ

-- it is another caller's, on this file
abbrev pub keeps_busy : Who → ℕ → Out → Bool
keeps_busy who node out = not (same_who out.0 who) && (out.1 == node)

-- the call waits, while these are out
unfoldable pub is_busy : State → List Out → Unfinished → Bool
is_busy s out c = option_map_or (λ node. list_any (keeps_busy c.0 node) out) (waits_for s c) false
