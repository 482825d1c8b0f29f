use Rattle.std.proofs.Common.{◌∙◌, ◌<◌, ap, arith, drop, length, sym, ◌∷◌, List, ℕ}
use Rattle.std.proofs.lemmas.List.{length-take-le}
use Rattle.script_text.proofs.Blanks.{behind_blanks, first_of_words, no_words, word_some}
use Rattle.script_text.specs.Lines.{words_of}
use Rattle.script_text.proofs.lines.split_word.Goals as goal

pub returns-then-start-text-clause-words : goal.returns-then-start-text-clause-words
returns-then-start-text-clause-words c = no_words c.args.text.now c.blanks_before-start.result c.if-start-text.true c.blanks_before-start.ensures.blank

pub returns-clause-words : goal.returns-clause-words
returns-clause-words c =
    let lt : c.blanks_before-start.result < length c.args.text.now = omega (arith, c.blanks_before-start.ensures.within, c.if-start-text.false) in
    let rest = behind_blanks c.args.text.now c.behind-text.result.now c.blanks_before-start.result c.behind-text.ensures lt c.blanks_before-start.ensures.blank (c.blanks_before-start.ensures.stops lt) in
    rest.words
    ∙ first_of_words c.behind-text.result.now c.length_before-end.result rest.some rest.begins c.length_before-end.ensures.within c.length_before-end.ensures.before c.length_before-end.ensures.stops
    ∙ ap (λ (word : List ℕ). word ∷ words_of (drop c.length_before-end.result c.behind-text.result.now)) (sym c.front.ensures)
    ∙ ap (λ (more : List ℕ). c.front.result.now ∷ words_of more) (sym c.behind.ensures)

pub returns-clause-some : goal.returns-clause-some
returns-clause-some c =
    let lt : c.blanks_before-start.result < length c.args.text.now = omega (arith, c.blanks_before-start.ensures.within, c.if-start-text.false) in
    let rest = behind_blanks c.args.text.now c.behind-text.result.now c.blanks_before-start.result c.behind-text.ensures lt c.blanks_before-start.ensures.blank (c.blanks_before-start.ensures.stops lt) in
    let some : 0 < c.length_before-end.result = word_some c.behind-text.result.now c.length_before-end.result rest.some rest.begins c.length_before-end.ensures.within c.length_before-end.ensures.stops in
    omega (arith, ap length c.front.ensures, length-take-le c.length_before-end.result c.behind-text.result.now c.length_before-end.ensures.within)
