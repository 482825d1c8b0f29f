use Rattle.std.proofs.Common.{◌+◌, ◌≡◌, ◌∙◌, ◌++◌, ◌∷◌, [], ◌<◌, List, ℕ, Option, ap, sym, subst, arith, length, take, drop, Some, None}
use Rattle.script_text.specs.Words.{number_in}
use Rattle.script_text.proofs.NumberLists.{AreRead, last_read, next_read, none_read}
use Rattle.script_text.proofs.numbers.read_numbers.Goals as goal

pub returns-in_default : goal.returns-in_default
returns-in_default c =
    let none : number_in (take c.length_before-end.result c.loop-number.rest.now) ≡ None =
    sym (ap number_in c.front.ensures) ∙ sym c.read_number.ensures.value ∙ c.in_default.is in
    none_read c.args.word.now c.loop-number.rest.now c.loop-number.numbers.items c.length_before-end.result c.loop-number.invariant c.length_before-end.ensures.within c.length_before-end.ensures.before c.length_before-end.ensures.stops none

pub returns-then-end-rest : goal.returns-then-end-rest
returns-then-end-rest c =
    let some : number_in (take c.length_before-end.result c.loop-number.rest.now) ≡ Some c.in-Some.number =
    sym (ap number_in c.front.ensures) ∙ sym c.read_number.ensures.value ∙ c.in-Some.is in
    ap Some c.in_ok-push.ensures.items
    ∙ last_read c.args.word.now c.loop-number.rest.now c.loop-number.numbers.items c.length_before-end.result c.in-Some.number c.loop-number.invariant c.if-end-rest.true c.length_before-end.ensures.before some

pub loop-number-preserved : goal.loop-number-preserved
loop-number-preserved c =
    let some : number_in (take c.length_before-end.result c.loop-number.rest.now) ≡ Some c.in-Some.number =
    sym (ap number_in c.front.ensures) ∙ sym c.read_number.ensures.value ∙ c.in-Some.is in
    let lt : c.length_before-end.result < length c.loop-number.rest.now = omega (arith, c.length_before-end.ensures.within, c.if-end-rest.false) in
    let read : AreRead c.args.word.now (drop (c.length_before-end.result + 1) c.loop-number.rest.now) (c.loop-number.numbers.items ++ c.in-Some.number ∷ []) =
    next_read c.args.word.now c.loop-number.rest.now c.loop-number.numbers.items c.length_before-end.result c.in-Some.number c.loop-number.invariant lt c.length_before-end.ensures.before (c.length_before-end.ensures.stops lt) some in
    subst (λ (items : List ℕ). AreRead c.args.word.now c.behind-rest.result.now items) (sym c.in_ok-push.ensures.items)
    (subst (λ (rest : List ℕ). AreRead c.args.word.now rest (c.loop-number.numbers.items ++ c.in-Some.number ∷ [])) (sym c.behind-rest.ensures) read)
