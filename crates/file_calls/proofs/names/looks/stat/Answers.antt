use Rattle.std.proofs.Common.{arith, sym, subst, ap, ◌∙◌}
use Rattle.std.specs.Prelude.{Ok}
use Rattle.layout_model.specs.declared.lines.Inode.{Inode}
use Rattle.eof_laws.specs.file_table.Files.{size_in}
use Rattle.posix_types.specs.declared.call.Call.{Call}
use Rattle.posix_types.specs.declared.reply.Reply.{Reply}
use Rattle.open_files.specs.posix_tables.Outcomes.{answer}
use Rattle.live_step_laws.specs.world_model.TreeRules.{used_below}
use Rattle.live_step_laws.specs.world_model.Stands.{is_used}
use Rattle.file_calls.specs.Answers.{IsEnded, stat_by}
use Rattle.file_calls.specs.Gathers.{IsGatheredEnd}
use Rattle.file_calls.specs.declared.names.outcomes.Told.{Told}
use Rattle.file_calls.proofs.LookEnds.{stat_lost, stat_seen}
use Rattle.file_calls.proofs.OpenEnds.{line_free, line_there}
use Rattle.file_calls.proofs.names.looks.stat.Goals as goal

pub returns-in-Err-clause-ended : goal.returns-in-Err-clause-ended
returns-in-Err-clause-ended c who t power on =
    subst (λ x. IsEnded who (Call.Stat c.args.path.now) c.args.k.now t c.args.files.now c.args.k.now t c.args.files.now power power (Ok x)) (sym c.answered.ensures)
    ((stat_lost who c.args.path.now c.args.k.now t c.args.files.now c.in-Err.errno c.in-Err.ensures).ended power on)

pub stat_of-requires : goal.stat_of-requires
stat_of-requires c file =
    let line = line_there c.args.k.now.volume c.in-Ok.ino c.in-Some.inode (sym c.node.ensures ∙ c.in-Some.is) in
    let below = used_below c.args.k.now.volume c.in-Ok.ino (ap (λ (x : Inode). is_used x.kind) (sym line) ∙ ap is_used file) in
    omega (arith, below, c.requires)

pub returns-in-Some-clause-ended : goal.returns-in-Some-clause-ended
returns-in-Some-clause-ended c who t power on =
    let v = c.args.k.now.volume in
    let line = line_there v c.in-Ok.ino c.in-Some.inode (sym c.node.ensures ∙ c.in-Some.is) in
    let reply = c.stat_of.ensures ∙ ap (λ (x : Inode). stat_by x.kind (size_in c.args.files.now c.in-Ok.ino)) line in
    subst (λ x. IsEnded who (Call.Stat c.args.path.now) c.args.k.now t c.args.files.now c.args.k.now t c.args.files.now power power (Ok x)) (sym (c.answered-in-Some.ensures ∙ ap (λ s. Told.Answered (answer (Reply.Stat s))) reply))
    ((stat_seen who c.args.path.now c.args.k.now t c.args.files.now c.in-Ok.ino c.in-Ok.ensures).ended power on)

pub returns-in-None-clause-ended : goal.returns-in-None-clause-ended
returns-in-None-clause-ended c who t power on =
    let v = c.args.k.now.volume in
    let reply = sym (line_free v c.in-Ok.ino (size_in c.args.files.now c.in-Ok.ino) (sym c.node.ensures ∙ c.in-None.is)) in
    subst (λ x. IsEnded who (Call.Stat c.args.path.now) c.args.k.now t c.args.files.now c.args.k.now t c.args.files.now power power (Ok x)) (sym (c.answered-in-None.ensures ∙ ap (λ s. Told.Answered (answer (Reply.Stat s))) reply))
    ((stat_seen who c.args.path.now c.args.k.now t c.args.files.now c.in-Ok.ino c.in-Ok.ensures).ended power on)

pub returns-in-Err-clause-gathers : goal.returns-in-Err-clause-gathers
returns-in-Err-clause-gathers c who t a power on =
    subst (λ x. IsGatheredEnd who (Call.Stat c.args.path.now) c.args.k.now t a c.args.files.now c.args.k.now t a c.args.files.now power power (Ok x)) (sym c.answered.ensures)
    ((stat_lost who c.args.path.now c.args.k.now t c.args.files.now c.in-Err.errno c.in-Err.ensures).gathers a power on)

pub returns-in-Some-clause-gathers : goal.returns-in-Some-clause-gathers
returns-in-Some-clause-gathers c who t a power on =
    let v = c.args.k.now.volume in
    let line = line_there v c.in-Ok.ino c.in-Some.inode (sym c.node.ensures ∙ c.in-Some.is) in
    let reply = c.stat_of.ensures ∙ ap (λ (x : Inode). stat_by x.kind (size_in c.args.files.now c.in-Ok.ino)) line in
    subst (λ x. IsGatheredEnd who (Call.Stat c.args.path.now) c.args.k.now t a c.args.files.now c.args.k.now t a c.args.files.now power power (Ok x)) (sym (c.answered-in-Some.ensures ∙ ap (λ s. Told.Answered (answer (Reply.Stat s))) reply))
    ((stat_seen who c.args.path.now c.args.k.now t c.args.files.now c.in-Ok.ino c.in-Ok.ensures).gathers a power on)

pub returns-in-None-clause-gathers : goal.returns-in-None-clause-gathers
returns-in-None-clause-gathers c who t a power on =
    let v = c.args.k.now.volume in
    let reply = sym (line_free v c.in-Ok.ino (size_in c.args.files.now c.in-Ok.ino) (sym c.node.ensures ∙ c.in-None.is)) in
    subst (λ x. IsGatheredEnd who (Call.Stat c.args.path.now) c.args.k.now t a c.args.files.now c.args.k.now t a c.args.files.now power power (Ok x)) (sym (c.answered-in-None.ensures ∙ ap (λ s. Told.Answered (answer (Reply.Stat s))) reply))
    ((stat_seen who c.args.path.now c.args.k.now t c.args.files.now c.in-Ok.ino c.in-Ok.ensures).gathers a power on)
