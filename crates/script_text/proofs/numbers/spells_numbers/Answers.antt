use Rattle.std.proofs.Common.{◌≡◌, ◌∙◌, ◌+◌, ◌++◌, ◌∷◌, [], ◌<◌, List, ℕ, ap, sym, subst, arith, length, take, drop, Some, None}
use Rattle.script_text.specs.Words.{number_in}
use Rattle.script_text.proofs.NumberLists.{AreRead, last_read, next_read, none_read}
use Rattle.script_text.proofs.NumbersFit.{all_fit, AreSoFar, none_fit, one_more, too_high, too_many}
use Rattle.script_text.proofs.numbers.spells_numbers.Goals as goal

pub returns-in_default : goal.returns-in_default
returns-in_default c =
    let far = c.loop-number.invariant in
    let none : number_in (take c.length_before-end.result c.loop-number.rest.now) ≡ None =
    sym (ap number_in c.front.ensures) ∙ sym c.read_number.ensures.value ∙ c.in_default.is in
    none_fit c.args.most c.args.highest c.args.word.now
    (none_read c.args.word.now c.loop-number.rest.now far.read c.length_before-end.result far.are c.length_before-end.ensures.within c.length_before-end.ensures.before c.length_before-end.ensures.stops none)

pub returns-then-number-highest : goal.returns-then-number-highest
returns-then-number-highest c =
    let far = c.loop-number.invariant in
    let some : number_in (take c.length_before-end.result c.loop-number.rest.now) ≡ Some c.in-Some.number =
    sym (ap number_in c.front.ensures) ∙ sym c.read_number.ensures.value ∙ c.in-Some.is in
    too_high c.args.most c.args.highest c.args.word.now c.loop-number.rest.now c.loop-number.count c.length_before-end.result c.in-Some.number far
    c.length_before-end.ensures.within c.length_before-end.ensures.before c.length_before-end.ensures.stops some c.if-number-highest.true

pub returns-then-count-most : goal.returns-then-count-most
returns-then-count-most c =
    let far = c.loop-number.invariant in
    let some : number_in (take c.length_before-end.result c.loop-number.rest.now) ≡ Some c.in-Some.number =
    sym (ap number_in c.front.ensures) ∙ sym c.read_number.ensures.value ∙ c.in-Some.is in
    too_many c.args.most c.args.highest c.args.word.now c.loop-number.rest.now c.loop-number.count c.length_before-end.result c.in-Some.number far
    c.length_before-end.ensures.within c.length_before-end.ensures.before c.length_before-end.ensures.stops some c.if-count-most.true

pub returns-then-end-rest : goal.returns-then-end-rest
returns-then-end-rest c =
    let far = c.loop-number.invariant in
    let some : number_in (take c.length_before-end.result c.loop-number.rest.now) ≡ Some c.in-Some.number =
    sym (ap number_in c.front.ensures) ∙ sym c.read_number.ensures.value ∙ c.in-Some.is in
    all_fit c.args.most c.args.highest c.args.word.now far.read c.loop-number.count c.in-Some.number
    (last_read c.args.word.now c.loop-number.rest.now far.read c.length_before-end.result c.in-Some.number far.are c.if-end-rest.true c.length_before-end.ensures.before some)
    far.count_is far.low far.few (omega (arith, c.if-number-highest.false)) c.if-count-most.false

pub loop-number-preserved : goal.loop-number-preserved
loop-number-preserved c =
    let far = c.loop-number.invariant in
    let some : number_in (take c.length_before-end.result c.loop-number.rest.now) ≡ Some c.in-Some.number =
    sym (ap number_in c.front.ensures) ∙ sym c.read_number.ensures.value ∙ c.in-Some.is in
    let lt : c.length_before-end.result < length c.loop-number.rest.now = omega (arith, c.length_before-end.ensures.within, c.if-end-rest.false) in
    subst (λ (rest : List ℕ). AreSoFar c.args.most c.args.highest c.args.word.now rest (c.loop-number.count + 1)) (sym c.behind-rest.ensures)
    (one_more c.args.most c.args.highest c.args.word.now c.loop-number.rest.now (drop (c.length_before-end.result + 1) c.loop-number.rest.now) far.read c.loop-number.count c.in-Some.number
    (next_read c.args.word.now c.loop-number.rest.now far.read c.length_before-end.result c.in-Some.number far.are lt c.length_before-end.ensures.before (c.length_before-end.ensures.stops lt) some)
    far.count_is far.low far.few (omega (arith, c.if-number-highest.false)) c.if-count-most.false)
