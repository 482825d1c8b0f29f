use Rattle.std.proofs.Common.{◌<◌, ◌^◌, arith, take}
use Rattle.std.specs.Str.Parse.{digits_value}
use Rattle.script_text.proofs.Digits.{value_more, value_so_far}
use Rattle.script_text.proofs.numbers.value_of.Goals as goal

pub overflow_mul-value : goal.overflow_mul-value
overflow_mul-value c =
    let so_far : digits_value 10 (take c.loop-byte.byte-index c.args.word.now) < 10 ^ 18 = value_so_far c.args.word.now c.loop-byte.byte-index c.requires.digits c.requires.few in
    omega arith

pub overflow_add-value : goal.overflow_add-value
overflow_add-value c =
    let so_far : digits_value 10 (take c.loop-byte.byte-index c.args.word.now) < 10 ^ 18 = value_so_far c.args.word.now c.loop-byte.byte-index c.requires.digits c.requires.few in
    omega arith

pub loop-byte-preserved : goal.loop-byte-preserved
loop-byte-preserved c =
    let more = value_more c.args.word.now c.loop-byte.byte-index c.requires.digits c.loop-byte-test.true in
    omega arith

pub returns-clause-small : goal.returns-clause-small
returns-clause-small c =
    let so_far : digits_value 10 (take c.loop-byte.byte-index c.args.word.now) < 10 ^ 18 = value_so_far c.args.word.now c.loop-byte.byte-index c.requires.digits c.requires.few in
    omega arith
