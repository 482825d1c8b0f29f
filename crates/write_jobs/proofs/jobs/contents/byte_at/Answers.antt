use Rattle.std.proofs.Common.{arith, ◌∙◌, ◌-◌, length, sym}
use Rattle.std.proofs.lemmas.List.{get_or_past}
use Rattle.write_jobs.proofs.Framed.{framed_back, framed_front, framed_new}
use Rattle.write_jobs.proofs.jobs.contents.byte_at.Goals as goal

pub returns-then-i-front : goal.returns-then-i-front
returns-then-i-front c = sym (framed_front c.args.front.now c.args.at c.args.new.now c.args.back.now c.args.i (omega arith))

pub returns-else-i-front : goal.returns-else-i-front
returns-else-i-front c = sym (framed_front c.args.front.now c.args.at c.args.new.now c.args.back.now c.args.i (omega arith) ∙ get_or_past c.args.front.now c.args.i 0 (omega arith))

pub returns-then-inside-new : goal.returns-then-inside-new
returns-then-inside-new c = sym (framed_new c.args.front.now c.args.at c.args.new.now c.args.back.now c.args.i (c.args.i - c.args.at) (omega arith) (omega arith))

pub returns-then-behind-back : goal.returns-then-behind-back
returns-then-behind-back c = sym (framed_back c.args.front.now c.args.at c.args.new.now c.args.back.now c.args.i _ (omega arith))

pub returns-else-behind-back : goal.returns-else-behind-back
returns-else-behind-back c =
    sym (framed_back c.args.front.now c.args.at c.args.new.now c.args.back.now c.args.i (c.args.i - c.args.at - length c.args.new.now) (omega arith)
    ∙ get_or_past c.args.back.now (c.args.i - c.args.at - length c.args.new.now) 0 (omega arith))
