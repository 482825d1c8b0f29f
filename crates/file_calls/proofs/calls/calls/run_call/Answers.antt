use Rattle.std.proofs.Common.{rules, sym, subst, w64}
use Rattle.std.proofs.Math.Facts.{to_z-of_z}
use Rattle.posix_types.specs.declared.call.Call.{Call}
use Rattle.std.specs.Prelude.{FitsSigned, Ok}
use Rattle.file_calls.specs.Answers.{IsEnded}
use Rattle.file_calls.specs.Built.{CutsNothing}
use Rattle.file_calls.proofs.CanRuns.{runs_can}
use Rattle.file_calls.proofs.calls.calls.run_call.Goals as goal

pub open-requires-clause-bare : goal.open-requires-clause-bare
open-requires-clause-bare c = subst (λ x. CutsNothing x c.args.k.now c.args.files.now) c.in-Open.is c.requires.bare

pub stat-requires : goal.stat-requires
stat-requires c = c.requires.runs.runs.sizes.count

pub returns-in-Mkdir-clause-ended : goal.returns-in-Mkdir-clause-ended
returns-in-Mkdir-clause-ended c =
    subst (λ x. IsEnded c.args.who x c.args.k.now c.args.tables.now.tables c.args.files.now c.mkdir.new.k c.args.tables.now.tables c.args.files.now c.args.power.now c.mkdir.new.power c.mkdir.result) (sym c.in-Mkdir.is)
    (c.mkdir.ensures.ended c.requires.runs.runs.unbatched c.args.who c.args.tables.now.tables c.args.files.now)

pub returns-in-Rmdir-clause-ended : goal.returns-in-Rmdir-clause-ended
returns-in-Rmdir-clause-ended c =
    subst (λ x. IsEnded c.args.who x c.args.k.now c.args.tables.now.tables c.args.files.now c.rmdir.new.k c.args.tables.now.tables c.args.files.now c.args.power.now c.rmdir.new.power c.rmdir.result) (sym c.in-Rmdir.is)
    (c.rmdir.ensures.ended c.requires.runs.runs.unbatched c.args.who c.args.tables.now.tables c.args.files.now)

pub returns-in-Unlink-clause-ended : goal.returns-in-Unlink-clause-ended
returns-in-Unlink-clause-ended c =
    subst (λ x. IsEnded c.args.who x c.args.k.now c.args.tables.now.tables c.args.files.now c.unlink.new.k c.args.tables.now.tables c.unlink.new.files c.args.power.now c.unlink.new.power c.unlink.result) (sym c.in-Unlink.is)
    (c.unlink.ensures.ended c.args.who)

pub returns-in-Rename-clause-ended : goal.returns-in-Rename-clause-ended
returns-in-Rename-clause-ended c =
    subst (λ x. IsEnded c.args.who x c.args.k.now c.args.tables.now.tables c.args.files.now c.rename.new.k c.args.tables.now.tables c.rename.new.files c.args.power.now c.rename.new.power c.rename.result) (sym c.in-Rename.is)
    (c.rename.ensures.ended c.args.who)

pub returns-in-Close-clause-ended : goal.returns-in-Close-clause-ended
returns-in-Close-clause-ended c =
    subst (λ x. IsEnded c.args.who x c.args.k.now c.args.tables.now.tables c.args.files.now c.close.new.k c.close.new.tables.tables c.close.new.files c.args.power.now c.close.new.power (Ok c.close.result)) (sym c.in-Close.is)
    (c.close.ensures.ended)

pub returns-in-Dup-clause-ended : goal.returns-in-Dup-clause-ended
returns-in-Dup-clause-ended c =
    subst (λ x. IsEnded c.args.who x c.args.k.now c.args.tables.now.tables c.args.files.now c.args.k.now c.dup.new.tables.tables c.args.files.now c.args.power.now c.args.power.now c.dup.result) (sym c.in-Dup.is)
    (c.dup.ensures.ended c.args.k.now c.args.files.now c.args.power.now c.requires.power)

pub returns-in-Stat-clause-ended : goal.returns-in-Stat-clause-ended
returns-in-Stat-clause-ended c =
    subst (λ x. IsEnded c.args.who x c.args.k.now c.args.tables.now.tables c.args.files.now c.args.k.now c.args.tables.now.tables c.args.files.now c.args.power.now c.args.power.now (Ok c.stat.result)) (sym c.in-Stat.is)
    (c.stat.ensures.ended c.args.who c.args.tables.now.tables c.args.power.now c.requires.power)

pub returns-in-List-clause-ended : goal.returns-in-List-clause-ended
returns-in-List-clause-ended c =
    subst (λ x. IsEnded c.args.who x c.args.k.now c.args.tables.now.tables c.args.files.now c.args.k.now c.args.tables.now.tables c.args.files.now c.args.power.now c.args.power.now c.list.result) (sym c.in-List.is)
    (c.list.ensures.ended c.args.who c.args.tables.now.tables c.args.files.now c.args.power.now c.requires.power)

pub returns-in-Read-clause-ended : goal.returns-in-Read-clause-ended
returns-in-Read-clause-ended c =
    subst (λ x. IsEnded c.args.who x c.args.k.now c.args.tables.now.tables c.args.files.now c.args.k.now c.read.new.tables.tables c.args.files.now c.args.power.now c.args.power.now c.read.result) (sym c.in-Read.is)
    (c.read.ensures.ended c.args.power.now c.requires.power)

pub returns-in-Pread-clause-ended : goal.returns-in-Pread-clause-ended
returns-in-Pread-clause-ended c =
    subst (λ x. IsEnded c.args.who x c.args.k.now c.args.tables.now.tables c.args.files.now c.args.k.now c.args.tables.now.tables c.args.files.now c.args.power.now c.args.power.now c.pread.result) (sym c.in-Pread.is)
    (c.pread.ensures.ended c.args.power.now c.requires.power)

pub returns-in-Fsync-clause-ended : goal.returns-in-Fsync-clause-ended
returns-in-Fsync-clause-ended c =
    subst (λ x. IsEnded c.args.who x c.args.k.now c.args.tables.now.tables c.args.files.now c.args.k.now c.args.tables.now.tables c.args.files.now c.args.power.now c.args.power.now (Ok c.fsync.result)) (sym c.in-Fsync.is)
    (c.fsync.ensures c.args.k.now c.args.files.now c.args.power.now c.requires.power)

pub returns-in-Seek-clause-ended : goal.returns-in-Seek-clause-ended
returns-in-Seek-clause-ended c =
    let fits : FitsSigned w64 c.in-Seek.by = search rules in
    subst (λ x. IsEnded c.args.who x c.args.k.now c.args.tables.now.tables c.args.files.now c.args.k.now c.seek.new.tables.tables c.args.files.now c.args.power.now c.args.power.now (Ok c.seek.result)) (sym c.in-Seek.is)
    (subst (λ z. IsEnded c.args.who (Call.Seek c.in-Seek.handle c.in-Seek.whence z) c.args.k.now c.args.tables.now.tables c.args.files.now c.args.k.now c.seek.new.tables.tables c.args.files.now c.args.power.now c.args.power.now (Ok c.seek.result))
    (to_z-of_z {w = w64} fits) (c.seek.ensures.ended c.args.power.now c.requires.power))

pub returns-in-Mkdir-clause-ends : goal.returns-in-Mkdir-clause-ends
returns-in-Mkdir-clause-ends c = c.mkdir.ensures.ends c.args.tables.now.tables c.args.files.now c.requires.runs

pub returns-in-Rmdir-clause-ends : goal.returns-in-Rmdir-clause-ends
returns-in-Rmdir-clause-ends c = c.rmdir.ensures.ends c.requires.runs.runs.unbatched c.args.files.now

pub read-requires : goal.read-requires
read-requires c = runs_can c.args.k.now c.args.tables.now.tables c.args.files.now c.requires.runs

pub pread-requires : goal.pread-requires
pread-requires c = runs_can c.args.k.now c.args.tables.now.tables c.args.files.now c.requires.runs

pub seek-requires : goal.seek-requires
seek-requires c = runs_can c.args.k.now c.args.tables.now.tables c.args.files.now c.requires.runs
