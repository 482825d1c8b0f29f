use Rattle.std.proofs.Common.{ap, ◌∙◌}
use Rattle.std.specs.Prelude.{None, if◌then◌else◌}
use Rattle.open_files.specs.crash_spec.Busy.{path_node, waits_for}
use Rattle.posix_types.specs.declared.call.Call.{Call}
use Rattle.open_files.specs.posix_spec.State.{State}
use Rattle.in_flight.proofs.Looks.{by_handle, by_path, by_none}
use Rattle.in_flight.proofs.jobs.keeping.waits_for.Goals as goal

pub returns-then-flags : goal.returns-then-flags
unfolding waits_for
returns-then-flags c = by_path c.args.k.now c.args.tables.now.tables c.args.who c.in-Open.path c.args.call.now c.path_file.result c.path_file.ensures
    (λ (s : State). ap (λ (call : Call). waits_for s (c.args.who, call)) c.in-Open.is ∙ ap (λ b. if b then path_node s c.in-Open.path else None) c.if-flags.true)

pub returns-else-flags : goal.returns-else-flags
unfolding waits_for
returns-else-flags c = by_none c.args.k.now c.args.tables.now.tables c.args.who c.args.call.now
    (λ (s : State). ap (λ (call : Call). waits_for s (c.args.who, call)) c.in-Open.is ∙ ap (λ b. if b then path_node s c.in-Open.path else None) c.if-flags.false)

pub returns-in-Stat : goal.returns-in-Stat
unfolding waits_for
returns-in-Stat c = by_path c.args.k.now c.args.tables.now.tables c.args.who c.in-Stat.path c.args.call.now c.path_file-in-Stat.result c.path_file-in-Stat.ensures
    (λ (s : State). ap (λ (call : Call). waits_for s (c.args.who, call)) c.in-Stat.is)

pub returns-in-Close : goal.returns-in-Close
unfolding waits_for
returns-in-Close c = by_handle c.args.k.now c.args.tables.now.tables c.args.who c.in-Close.handle c.args.call.now c.handle_file.result c.handle_file.ensures
    (λ (s : State). ap (λ (call : Call). waits_for s (c.args.who, call)) c.in-Close.is)

pub returns-in-Dup : goal.returns-in-Dup
unfolding waits_for
returns-in-Dup c = by_handle c.args.k.now c.args.tables.now.tables c.args.who c.in-Dup.handle c.args.call.now c.handle_file-in-Dup.result c.handle_file-in-Dup.ensures
    (λ (s : State). ap (λ (call : Call). waits_for s (c.args.who, call)) c.in-Dup.is)

pub returns-in-Read : goal.returns-in-Read
unfolding waits_for
returns-in-Read c = by_handle c.args.k.now c.args.tables.now.tables c.args.who c.in-Read.handle c.args.call.now c.handle_file-in-Read.result c.handle_file-in-Read.ensures
    (λ (s : State). ap (λ (call : Call). waits_for s (c.args.who, call)) c.in-Read.is)

pub returns-in-Pread : goal.returns-in-Pread
unfolding waits_for
returns-in-Pread c = by_handle c.args.k.now c.args.tables.now.tables c.args.who c.in-Pread.handle c.args.call.now c.handle_file-in-Pread.result c.handle_file-in-Pread.ensures
    (λ (s : State). ap (λ (call : Call). waits_for s (c.args.who, call)) c.in-Pread.is)

pub returns-in-Write : goal.returns-in-Write
unfolding waits_for
returns-in-Write c = by_handle c.args.k.now c.args.tables.now.tables c.args.who c.in-Write.handle c.args.call.now c.handle_file-in-Write.result c.handle_file-in-Write.ensures
    (λ (s : State). ap (λ (call : Call). waits_for s (c.args.who, call)) c.in-Write.is)

pub returns-in-Pwrite : goal.returns-in-Pwrite
unfolding waits_for
returns-in-Pwrite c = by_handle c.args.k.now c.args.tables.now.tables c.args.who c.in-Pwrite.handle c.args.call.now c.handle_file-in-Pwrite.result c.handle_file-in-Pwrite.ensures
    (λ (s : State). ap (λ (call : Call). waits_for s (c.args.who, call)) c.in-Pwrite.is)

pub returns-in-Seek : goal.returns-in-Seek
unfolding waits_for
returns-in-Seek c = by_handle c.args.k.now c.args.tables.now.tables c.args.who c.in-Seek.handle c.args.call.now c.handle_file-in-Seek.result c.handle_file-in-Seek.ensures
    (λ (s : State). ap (λ (call : Call). waits_for s (c.args.who, call)) c.in-Seek.is)

pub returns-in-Truncate : goal.returns-in-Truncate
unfolding waits_for
returns-in-Truncate c = by_handle c.args.k.now c.args.tables.now.tables c.args.who c.in-Truncate.handle c.args.call.now c.handle_file-in-Truncate.result c.handle_file-in-Truncate.ensures
    (λ (s : State). ap (λ (call : Call). waits_for s (c.args.who, call)) c.in-Truncate.is)

pub returns-in-Fsync : goal.returns-in-Fsync
unfolding waits_for
returns-in-Fsync c = by_handle c.args.k.now c.args.tables.now.tables c.args.who c.in-Fsync.handle c.args.call.now c.handle_file-in-Fsync.result c.handle_file-in-Fsync.ensures
    (λ (s : State). ap (λ (call : Call). waits_for s (c.args.who, call)) c.in-Fsync.is)

pub returns-in-Mkdir : goal.returns-in-Mkdir
unfolding waits_for
returns-in-Mkdir c = by_none c.args.k.now c.args.tables.now.tables c.args.who c.args.call.now
    (λ (s : State). ap (λ (call : Call). waits_for s (c.args.who, call)) c.in-Mkdir.is)

pub returns-in-Rmdir : goal.returns-in-Rmdir
unfolding waits_for
returns-in-Rmdir c = by_none c.args.k.now c.args.tables.now.tables c.args.who c.args.call.now
    (λ (s : State). ap (λ (call : Call). waits_for s (c.args.who, call)) c.in-Rmdir.is)

pub returns-in-Unlink : goal.returns-in-Unlink
unfolding waits_for
returns-in-Unlink c = by_none c.args.k.now c.args.tables.now.tables c.args.who c.args.call.now
    (λ (s : State). ap (λ (call : Call). waits_for s (c.args.who, call)) c.in-Unlink.is)

pub returns-in-Rename : goal.returns-in-Rename
unfolding waits_for
returns-in-Rename c = by_none c.args.k.now c.args.tables.now.tables c.args.who c.args.call.now
    (λ (s : State). ap (λ (call : Call). waits_for s (c.args.who, call)) c.in-Rename.is)

pub returns-in-List : goal.returns-in-List
unfolding waits_for
returns-in-List c = by_none c.args.k.now c.args.tables.now.tables c.args.who c.args.call.now
    (λ (s : State). ap (λ (call : Call). waits_for s (c.args.who, call)) c.in-List.is)
