use Rattle.std.proofs.Common.{◌+◌, ◌^◌, Bool, refl, subst, sym}
use Rattle.std.specs.Prelude.{if◌then◌else◌}
use Rattle.world_parts.specs.pm_model.Powers.{Steps}
use Rattle.world_begins.proofs.Firsts.{few_first, file_first, file_lost, may_first, none_first, steps_within}
use Rattle.world_begins.proofs.Turning.{one_act}
use Rattle.world_begins.proofs.turns.publishing.publish_first.Goals as goal

pub returns-in_default-clause-first : goal.returns-in_default-clause-first
returns-in_default-clause-first c = (refl, none_first c.args.p.now c.args.who c.args.call c.requires.turn c.in_default.ensures c.args.power.now c.requires.on)

pub publish_file-requires-clause-may : goal.publish_file-requires-clause-may
publish_file-requires-clause-may c = may_first c.args.p.now c.args.who c.args.call c.requires.turn c.what_stands_may_be_published.ensures c.in-Some.ino c.in-Some.ensures.1 c.in-Some.ensures.2

pub lose_call-requires : goal.lose_call-requires
lose_call-requires c = one_act c.args.p.now c.args.who c.args.call c.requires.turn

pub returns-in-Ok-Done-clause-first : goal.returns-in-Ok-Done-clause-first
returns-in-Ok-Done-clause-first c =
    let answer = rw c.in-Ok-Done.field-0-is at c.in-Ok-Done.ensures.answer in
    let paid = rw c.in-Ok-Done.field-0-is at c.in-Ok-Done.ensures.paid in
    (refl, file_first c.args.p.now c.args.who c.args.call c.requires.turn c.in-Some.ino c.in-Some.ensures.1 c.in-Some.ensures.2 c.publish_file.new.k c.publish_file.new.files answer.0 answer.1 answer.2 c.publish_file.new.power paid)

pub returns-in-Ok-PowerLost-clause-first : goal.returns-in-Ok-PowerLost-clause-first
returns-in-Ok-PowerLost-clause-first c =
    let answer = rw c.in-Ok-PowerLost.field-0-is at c.in-Ok-PowerLost.ensures.answer in
    let paid = rw c.in-Ok-PowerLost.field-0-is at c.in-Ok-PowerLost.ensures.paid in
    file_lost c.args.p.now c.args.who c.args.call c.requires.turn c.in-Some.ino c.in-Some.ensures.1 c.in-Some.ensures.2 c.publish_file.new.k c.publish_file.new.files answer.0 answer.1 answer.2 c.lose_call.new.p c.lose_call.ensures c.publish_file.new.power paid

pub returns-in-Ok-Done-clause-steps : goal.returns-in-Ok-Done-clause-steps
returns-in-Ok-Done-clause-steps c =
    subst (λ (b : Bool). Steps (if b then 2 ^ 25 + 2 ^ 15 else 0) c.args.power.now c.publish_file.new.power) (sym c.in-Some.ensures.0)
    (steps_within _ (2 ^ 25 + 2 ^ 15) c.args.power.now c.publish_file.new.power (few_first c.args.p.now c.args.who c.args.call c.requires.turn c.in-Some.ino) c.publish_file.ensures.steps)

pub returns-in-Ok-PowerLost-clause-steps : goal.returns-in-Ok-PowerLost-clause-steps
returns-in-Ok-PowerLost-clause-steps c =
    subst (λ (b : Bool). Steps (if b then 2 ^ 25 + 2 ^ 15 else 0) c.args.power.now c.publish_file.new.power) (sym c.in-Some.ensures.0)
    (steps_within _ (2 ^ 25 + 2 ^ 15) c.args.power.now c.publish_file.new.power (few_first c.args.p.now c.args.who c.args.call c.requires.turn c.in-Some.ino) c.publish_file.ensures.steps)

pub returns-in-Err-clause-steps : goal.returns-in-Err-clause-steps
returns-in-Err-clause-steps c =
    subst (λ (b : Bool). Steps (if b then 2 ^ 25 + 2 ^ 15 else 0) c.args.power.now c.publish_file.new.power) (sym c.in-Some.ensures.0)
    (steps_within _ (2 ^ 25 + 2 ^ 15) c.args.power.now c.publish_file.new.power (few_first c.args.p.now c.args.who c.args.call c.requires.turn c.in-Some.ino) c.publish_file.ensures.steps)
