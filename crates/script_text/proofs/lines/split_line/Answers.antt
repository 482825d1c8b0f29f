use Rattle.std.proofs.Common.{drop, ◌+◌, ◌∙◌, ap, arith, sym, ◌∷◌, List, ℕ}
use Rattle.std.specs.Prelude.{map}
use Rattle.script_text.proofs.Ends.{ended_text, last_text}
use Rattle.script_text.specs.Lines.{lines_of, text_of, without_return}
use Rattle.script_text.proofs.lines.split_line.Goals as goal

pub returns-then-end-bytes-clause-texts : goal.returns-then-end-bytes-clause-texts
returns-then-end-bytes-clause-texts c =
    ended_text c.args.bytes.now c.length_before-end.result c.if-end-bytes.true c.length_before-end.ensures.before (c.length_before-end.ensures.stops c.if-end-bytes.true)
    ∙ ap (λ (text : List ℕ). text ∷ map text_of (lines_of (drop (c.length_before-end.result + 1) c.args.bytes.now))) (sym (c.without_return.ensures ∙ ap without_return c.front.ensures))
    ∙ ap (λ (rest : List ℕ). c.without_return.result.now ∷ map text_of (lines_of rest)) (sym c.behind.ensures)

pub returns-else-end-bytes-clause-texts : goal.returns-else-end-bytes-clause-texts
returns-else-end-bytes-clause-texts c = last_text c.args.bytes.now c.requires (λ k lt. c.length_before-end.ensures.before k (omega arith))
