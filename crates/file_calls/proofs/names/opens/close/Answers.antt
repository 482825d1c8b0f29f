use Rattle.std.proofs.Common.{◌≡◌, sym, subst, ap, ◌∙◌, refl, inl, inr, arith}
use Rattle.std.specs.Prelude.{Ok, option_map}
use Rattle.layout_model.specs.declared.lines.Kind.TheVariants.{File}
use Rattle.eof_laws.specs.image_model.Volume.{inode}
use Rattle.posix_types.specs.declared.call.Call.{Call}
use Rattle.posix_types.specs.declared.reply.Errno.{Errno}
use Rattle.posix_types.specs.declared.reply.Reply.{Reply}
use Rattle.open_files.specs.posix_tables.Outcomes.{answer}
use Rattle.open_files.specs.Found.{description_in}
use Rattle.live_step_laws.specs.world_model.TreeRules.{used_below}
use Rattle.live_step_laws.specs.world_model.Stands.{is_used}
use Rattle.file_calls.specs.Answers.{IsEnded}
use Rattle.file_calls.proofs.Ends.{drop_ends, off_on}
use Rattle.file_calls.proofs.CloseCalls.{close_half, close_refused, close_replies, close_spent, close_stays, handle_open, may_drop}
use Rattle.file_calls.proofs.Halves.{drop_fault, goes_lost, goes_too, loans_same, no_name}
use Rattle.file_calls.proofs.Running.{nothing_ended}
use Rattle.file_calls.proofs.names.opens.close.Goals as goal

pub returns-in-None-clause-ended : goal.returns-in-None-clause-ended
returns-in-None-clause-ended c =
    let t = c.args.tables.now.tables in
    let f = c.args.files.now in
    let none = c.find.ensures.description ∙ ap (option_map description_in) c.in-None.is in
    subst (λ x. IsEnded c.args.who (Call.Close c.args.handle) c.args.k.now t f c.args.k.now t f c.args.power.now c.args.power.now (Ok x)) (sym c.answered.ensures)
    (nothing_ended c.args.who (Call.Close c.args.handle) c.args.k.now c.args.k.now t f (answer (Reply.Error Errno.EBADF)) c.args.power.now c.args.power.now refl c.requires.power
    (close_refused c.args.who c.args.handle c.args.k.now t f none))

pub returns-then-named-clause-ended : goal.returns-then-named-clause-ended
returns-then-named-clause-ended c =
    let t = c.args.tables.now.tables in
    let f = c.args.files.now in
    let known = c.find.ensures.description ∙ ap (option_map description_in) c.in-Some.is in
    subst (λ x. IsEnded c.args.who (Call.Close c.args.handle) c.args.k.now t f c.args.k.now c.close.new.self.tables f c.args.power.now c.args.power.now (Ok x)) (sym c.answered-then-named.ensures)
    (close_stays c.args.who c.args.handle c.args.k.now t c.close.new.self.tables f (description_in c.in-Some.opened) known c.close.ensures.tables c.args.power.now c.args.power.now (inl (c.named.ensures.0 c.if-named.true)) c.requires.power)

pub returns-then-is_open-clause-ended : goal.returns-then-is_open-clause-ended
returns-then-is_open-clause-ended c =
    let t = c.args.tables.now.tables in
    let f = c.args.files.now in
    let known = c.find.ensures.description ∙ ap (option_map description_in) c.in-Some.is in
    subst (λ x. IsEnded c.args.who (Call.Close c.args.handle) c.args.k.now t f c.args.k.now c.close.new.self.tables f c.args.power.now c.args.power.now (Ok x)) (sym c.answered-then-is_open.ensures)
    (close_stays c.args.who c.args.handle c.args.k.now t c.close.new.self.tables f (description_in c.in-Some.opened) known c.close.ensures.tables c.args.power.now c.args.power.now (inr (sym c.is_open.ensures ∙ c.if-is_open.true))
    c.requires.power)

pub drop_node-requires-clause-may : goal.drop_node-requires-clause-may
drop_node-requires-clause-may c still =
    let known = c.find.ensures.description ∙ ap (option_map description_in) c.in-Some.is in
    let file = c.requires.runs.runs.open_are_files c.in-Some.opened.ino (handle_open c.args.tables.now.tables c.args.who c.args.handle (description_in c.in-Some.opened) known) in
    may_drop c.args.k.now.volume c.in-Some.opened.ino file (no_name c.named.result _ c.named.ensures c.if-named.false)

pub clear-requires-clause-below : goal.clear-requires-clause-below
clear-requires-clause-below c =
    let known = c.find.ensures.description ∙ ap (option_map description_in) c.in-Some.is in
    let file : (inode c.args.k.now.volume c.in-Some.opened.ino).kind ≡ File =
    c.requires.runs.runs.open_are_files c.in-Some.opened.ino (handle_open c.args.tables.now.tables c.args.who c.args.handle (description_in c.in-Some.opened) known)
    in
    let below = used_below c.args.k.now.volume c.in-Some.opened.ino (ap is_used file) in
    let lines = c.requires.runs.runs.sizes.count in
    omega (arith, below, lines)

pub returns-in-Ok-clause-ended : goal.returns-in-Ok-clause-ended
returns-in-Ok-clause-ended c =
    let t = c.args.tables.now.tables in
    let t2 = c.close.new.self.tables in
    let k = c.args.k.now in
    let f = c.args.files.now in
    let known = c.find.ensures.description ∙ ap (option_map description_in) c.in-Some.is in
    let shut = sym c.is_open.ensures ∙ c.if-is_open.false in
    let half = close_half c.args.who c.args.handle k t t2 f (description_in c.in-Some.opened) known c.close.ensures.tables (no_name c.named.result _ c.named.ensures c.if-named.false) shut in
    subst (λ x. IsEnded c.args.who (Call.Close c.args.handle) k t f c.drop_node.new.self t2 c.clear.new.self c.args.power.now c.drop_node.new.power (Ok x)) (sym c.answered-in-Ok.ensures)
    (goes_too c.args.who (Call.Close c.args.handle) k k t t2 f (answer Reply.Ok) c.in-Some.opened.ino c.args.power.now c.args.power.now half
    (close_replies c.args.who c.args.handle k t t2 f (description_in c.in-Some.opened) known c.close.ensures.tables)
    (close_spent c.args.who c.args.handle k t t2 f (description_in c.in-Some.opened) known c.close.ensures.tables c.args.power.now c.args.power.now) c.requires.power (λ s. refl) (loans_same k) c.drop_node.new.self c.clear.new.self c.drop_node.new.power
    (no_name c.named.result _ c.named.ensures c.if-named.false) shut c.clear.ensures.file c.clear.ensures.spare (c.drop_node.ensures.steps c.requires.runs.runs.unbatched) (c.in-Ok.ensures.answer c.requires.runs.runs.unbatched, (c.in-Ok.ensures.paid c.requires.runs.runs.unbatched)))

pub returns-in-Err-clause-ended : goal.returns-in-Err-clause-ended
returns-in-Err-clause-ended c =
    let t = c.args.tables.now.tables in
    let t2 = c.close.new.self.tables in
    let k = c.args.k.now in
    let f = c.args.files.now in
    let known = c.find.ensures.description ∙ ap (option_map description_in) c.in-Some.is in
    let shut = sym c.is_open.ensures ∙ c.if-is_open.false in
    let half = close_half c.args.who c.args.handle k t t2 f (description_in c.in-Some.opened) known c.close.ensures.tables (no_name c.named.result _ c.named.ensures c.if-named.false) shut in
    let fault = drop_fault k c.drop_node.new.self c.in-Some.opened.ino c.args.power.now c.drop_node.new.power c.in-Err.field-0 c.in-Err.ensures.memory (c.in-Err.ensures.answer c.requires.runs.runs.unbatched, (c.in-Err.ensures.paid c.requires.runs.runs.unbatched)) in
    goes_lost c.args.who (Call.Close c.args.handle) k k t t2 f (answer Reply.Ok) c.in-Some.opened.ino c.args.power.now c.args.power.now half
    (close_replies c.args.who c.args.handle k t t2 f (description_in c.in-Some.opened) known c.close.ensures.tables)
    (close_spent c.args.who c.args.handle k t t2 f (description_in c.in-Some.opened) known c.close.ensures.tables c.args.power.now c.args.power.now) c.requires.power (λ s. refl) (loans_same k) c.drop_node.new.self t2 f c.drop_node.new.power
    (no_name c.named.result _ c.named.ensures c.if-named.false) shut fault

pub returns-in-Ok-clause-ends : goal.returns-in-Ok-clause-ends
returns-in-Ok-clause-ends c =
    let known = c.find.ensures.description ∙ ap (option_map description_in) c.in-Some.is in
    let file : (inode c.args.k.now.volume c.in-Some.opened.ino).kind ≡ File =
    c.requires.runs.runs.open_are_files c.in-Some.opened.ino (handle_open c.args.tables.now.tables c.args.who c.args.handle (description_in c.in-Some.opened) known)
    in
    drop_ends c.in-Some.opened.ino c.args.k.now c.drop_node.new.self c.args.files.now c.clear.new.self c.drop_node.new.power (used_below c.args.k.now.volume c.in-Some.opened.ino (ap is_used file)) (c.in-Ok.ensures.answer c.requires.runs.runs.unbatched) c.clear.ensures.file

pub returns-in-Err-clause-ends : goal.returns-in-Err-clause-ends
returns-in-Err-clause-ends c on =
    let fault = drop_fault c.args.k.now c.drop_node.new.self c.in-Some.opened.ino c.args.power.now c.drop_node.new.power c.in-Err.field-0 c.in-Err.ensures.memory (c.in-Err.ensures.answer c.requires.runs.runs.unbatched, (c.in-Err.ensures.paid c.requires.runs.runs.unbatched)) in
    absurd (off_on c.drop_node.new.power fault.1 on)
