use Rattle.std.proofs.Common.{arith, ap, sym, subst, ◌∙◌}
use Rattle.live_step_laws.specs.world_model.TreeRules.{used_below}
use Rattle.live_step_laws.specs.world_model.Stands.{is_used}
use Rattle.std.specs.Prelude.{Ok}
use Rattle.posix_types.specs.declared.call.Call.{Call}
use Rattle.file_calls.specs.Answers.{IsEnded}
use Rattle.file_calls.proofs.OpenEnds.{cuts_of, no_cut, open_directory, open_exists, plain_found}
use Rattle.file_calls.proofs.names.opens.open_found.Goals as goal

pub is_cut-requires : goal.is_cut-requires
is_cut-requires c =
    let file = plain_found c.args.k.now c.args.tables.now.tables c.args.files.now c.args.path.now c.args.ino c.requires.runs c.requires.found (sym c.is_directory.ensures ∙ c.if-is_directory.false) in
    let below = used_below c.args.k.now.volume c.args.ino (ap is_used file) in
    let lines = c.requires.runs.runs.sizes.count in
    omega (arith, below, lines)

pub open_cut-requires-clause-bare : goal.open_cut-requires-clause-bare
open_cut-requires-clause-bare c = c.requires.bare (cuts_of c.args.flags.truncate _ (sym c.is_cut.ensures ∙ c.if-is_cut.true)) c.args.ino c.requires.found

pub open_cut-requires-clause-file : goal.open_cut-requires-clause-file
open_cut-requires-clause-file c = plain_found c.args.k.now c.args.tables.now.tables c.args.files.now c.args.path.now c.args.ino c.requires.runs c.requires.found (sym c.is_directory.ensures ∙ c.if-is_directory.false)

pub open_there-requires-clause-file : goal.open_there-requires-clause-file
open_there-requires-clause-file c = plain_found c.args.k.now c.args.tables.now.tables c.args.files.now c.args.path.now c.args.ino c.requires.runs c.requires.found (sym c.is_directory.ensures ∙ c.if-is_directory.false)

pub open_cut-requires-clause-cuts : goal.open_cut-requires-clause-cuts
open_cut-requires-clause-cuts c = cuts_of c.args.flags.truncate _ (sym c.is_cut.ensures ∙ c.if-is_cut.true)

pub open_there-requires-clause-stays : goal.open_there-requires-clause-stays
open_there-requires-clause-stays c cuts = no_cut c.args.flags.truncate _ cuts (sym c.is_cut.ensures ∙ c.if-is_cut.false)

pub returns-then-is_exclusive-clause-ended : goal.returns-then-is_exclusive-clause-ended
returns-then-is_exclusive-clause-ended c =
    subst (λ x. IsEnded c.args.who (Call.Open c.args.handle c.args.path.now c.args.flags) c.args.k.now c.args.tables.now.tables c.args.files.now c.args.k.now c.args.tables.now.tables c.args.files.now c.args.power.now c.args.power.now (Ok x)) (sym c.answered.ensures)
    ((open_exists c.args.who c.args.handle c.args.path.now c.args.flags c.args.k.now c.args.tables.now.tables c.args.files.now c.args.ino c.requires.found (sym c.is_exclusive.ensures ∙ c.if-is_exclusive.true)).ended c.args.power.now c.requires.power)

pub returns-then-is_directory-clause-ended : goal.returns-then-is_directory-clause-ended
returns-then-is_directory-clause-ended c =
    subst (λ x. IsEnded c.args.who (Call.Open c.args.handle c.args.path.now c.args.flags) c.args.k.now c.args.tables.now.tables c.args.files.now c.args.k.now c.args.tables.now.tables c.args.files.now c.args.power.now c.args.power.now (Ok x))
    (sym c.answered-then-is_directory.ensures)
    ((open_directory c.args.who c.args.handle c.args.path.now c.args.flags c.args.k.now c.args.tables.now.tables c.args.files.now c.args.ino c.requires.found (sym c.is_exclusive.ensures ∙ c.if-is_exclusive.false)
    (sym c.is_directory.ensures ∙ c.if-is_directory.true)).ended c.args.power.now c.requires.power)

pub returns-clause-ended : goal.returns-clause-ended
returns-clause-ended c = c.open_there.ensures.ended c.args.power.now c.requires.power
