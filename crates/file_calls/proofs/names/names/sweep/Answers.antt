use Rattle.std.proofs.Common.{sym, subst, ◌∙◌}
use Rattle.std.specs.Prelude.{Ok}
use Rattle.open_files.specs.posix_tables.Outcomes.{answer}
use Rattle.file_calls.specs.Answers.{IsEnded}
use Rattle.file_calls.proofs.Ends.{drop_ends, off_on}
use Rattle.file_calls.proofs.Halves.{drop_fault, goes_lost, goes_too, no_name, some_name, stays_named, stays_open}
use Rattle.file_calls.proofs.names.names.sweep.Goals as goal

pub drop_node-requires-clause-may : goal.drop_node-requires-clause-may
drop_node-requires-clause-may c awake = record { below = c.requires.file.below; file = c.requires.file.is_file; unnamed = no_name c.named.result _ c.named.ensures c.if-named.false }

pub returns-then-named-clause-ended : goal.returns-then-named-clause-ended
returns-then-named-clause-ended c who call before t entry half replies spent on no_room loans =
    subst (λ x. IsEnded who call before t c.args.files.now c.args.k.now c.args.tables.now.tables c.args.files.now entry c.args.power.now (Ok x)) (sym c.answered.ensures)
    (stays_named who call before c.args.k.now t c.args.tables.now.tables c.args.files.now (answer c.args.reply) c.args.ino entry c.args.power.now half replies spent on no_room loans (some_name c.named.result _ c.named.ensures c.if-named.true))

pub returns-then-is_open-clause-ended : goal.returns-then-is_open-clause-ended
returns-then-is_open-clause-ended c who call before t entry half replies spent on no_room loans =
    subst (λ x. IsEnded who call before t c.args.files.now c.args.k.now c.args.tables.now.tables c.args.files.now entry c.args.power.now (Ok x)) (sym c.answered-then-is_open.ensures)
    (stays_open who call before c.args.k.now t c.args.tables.now.tables c.args.files.now (answer c.args.reply) c.args.ino entry c.args.power.now half replies spent on no_room loans (sym c.is_open.ensures ∙ c.if-is_open.true))

pub returns-in-Ok-clause-ended : goal.returns-in-Ok-clause-ended
returns-in-Ok-clause-ended c who call before t entry half replies spent on no_room loans =
    subst (λ x. IsEnded who call before t c.args.files.now c.drop_node.new.self c.args.tables.now.tables c.clear.new.self entry c.drop_node.new.power (Ok x)) (sym c.answered-in-Ok.ensures)
    (goes_too who call before c.args.k.now t c.args.tables.now.tables c.args.files.now (answer c.args.reply) c.args.ino entry c.args.power.now half replies spent on no_room loans c.drop_node.new.self c.clear.new.self c.drop_node.new.power
    (no_name c.named.result _ c.named.ensures c.if-named.false) (sym c.is_open.ensures ∙ c.if-is_open.false) c.clear.ensures.file c.clear.ensures.spare (c.drop_node.ensures.steps c.requires.unbatched) (c.in-Ok.ensures.answer c.requires.unbatched, (c.in-Ok.ensures.paid c.requires.unbatched)))

pub returns-in-Err-clause-ended : goal.returns-in-Err-clause-ended
returns-in-Err-clause-ended c who call before t entry half replies spent on no_room loans =
    let fault = drop_fault c.args.k.now c.drop_node.new.self c.args.ino c.args.power.now c.drop_node.new.power c.in-Err.field-0 c.in-Err.ensures.memory (c.in-Err.ensures.answer c.requires.unbatched, (c.in-Err.ensures.paid c.requires.unbatched)) in
    goes_lost who call before c.args.k.now t c.args.tables.now.tables c.args.files.now (answer c.args.reply) c.args.ino entry c.args.power.now half replies spent on no_room loans c.drop_node.new.self c.args.tables.now.tables c.args.files.now
    c.drop_node.new.power (no_name c.named.result _ c.named.ensures c.if-named.false) (sym c.is_open.ensures ∙ c.if-is_open.false) fault

pub returns-in-Ok-clause-ends : goal.returns-in-Ok-clause-ends
returns-in-Ok-clause-ends c =
    drop_ends c.args.ino c.args.k.now c.drop_node.new.self c.args.files.now c.clear.new.self c.drop_node.new.power c.requires.file.below (c.in-Ok.ensures.answer c.requires.unbatched) c.clear.ensures.file

pub returns-in-Err-clause-ends : goal.returns-in-Err-clause-ends
returns-in-Err-clause-ends c on =
    let fault = drop_fault c.args.k.now c.drop_node.new.self c.args.ino c.args.power.now c.drop_node.new.power c.in-Err.field-0 c.in-Err.ensures.memory (c.in-Err.ensures.answer c.requires.unbatched, (c.in-Err.ensures.paid c.requires.unbatched)) in
    absurd (off_on c.drop_node.new.power fault.1 on)
