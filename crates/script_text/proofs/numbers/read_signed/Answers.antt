use Rattle.std.proofs.Common.{◌<◌, ◌^◌, ◌∙◌, ap, arith, length, sym, w64, Some, rules, SFits}
use Rattle.std.proofs.lemmas.Int.{to_z-of_z, to_z_pos}
use Rattle.std.proofs.lemmas.Bool.{eqb-true}
use Rattle.script_text.proofs.Digits.{signed_in-empty, signed_minus_none, signed_minus_some, signed_plain_none, signed_plain_some}
use Rattle.script_text.specs.Words.{number_in}
use Rattle.script_text.proofs.numbers.read_signed.Goals as goal

pub returns-then-is_empty : goal.returns-then-is_empty
returns-then-is_empty c = sym (signed_in-empty c.args.word.now (eqb-true _ 0 (sym c.if-is_empty.ensures)))

pub returns-in_err-number : goal.returns-in_err-number
returns-in_err-number c =
    let some : 0 < length c.args.word.now = search rules in
    c.from_residual.ensures ∙ signed_minus_none c.args.word.now some c.if-word-eq45.true (c.in_err-number.ensures.value ∙ ap number_in c.behind.ensures)

pub returns-then-word-eq45 : goal.returns-then-word-eq45
returns-then-word-eq45 c =
    let some : 0 < length c.args.word.now = search rules in
    let fits : SFits w64 c.less.result = record { sfits = c.less.type_inv } in
    ap Some (to_z-of_z w64 c.less.result fits ∙ c.less.ensures) ∙ signed_minus_some c.args.word.now c.in_ok-number.number some c.if-word-eq45.true (c.in_ok-number.ensures.value ∙ ap number_in c.behind.ensures)

pub returns-in_err-number-2 : goal.returns-in_err-number-2
returns-in_err-number-2 c =
    let some : 0 < length c.args.word.now = search rules in
    c.from_residual-in_err-number-2.ensures ∙ signed_plain_none c.args.word.now some c.if-word-eq45.false c.in_err-number-2.ensures.value

pub returns : goal.returns
returns c =
    let some : 0 < length c.args.word.now = search rules in
    let small : c.in_ok-number-2.number < 10 ^ 18 = c.in_ok-number-2.ensures.small in
    ap Some (to_z_pos w64 c.in_ok-number-2.number (omega arith)) ∙ signed_plain_some c.args.word.now c.in_ok-number-2.number some c.if-word-eq45.false c.in_ok-number-2.ensures.value
