use Rattle.std.proofs.Common.{◌≡◌, ◌/◌, ℕ, List, length, get_or, ◌∙◌, ap, arith}
use Rattle.std.proofs.lemmas.List.FromFn.{length-map-range_with_len}
use Rattle.pm_model.specs.declared.Cell.TheVariants.{Single}
use Rattle.pm_model.specs.Cells.{cell}
use Rattle.pm_model.specs.Words.{word_at}
use Rattle.pm_lines.proofs.LentCells.{length-with_lent, made_lines, made_cells, image_word}
use Rattle.pm_lines.proofs.devices.Pm.from_image.Goals as goal

-- as many words as the bytes have
sized : (c : goal.In_ok-lent) → length c.in_ok-words.words ≡ length c.args.bytes.now / 8
sized c = c.in_ok-words.ensures.size ∙ ap (λ (xs : List ℕ). length xs) c.in_ok-words_of_bytes.ensures ∙ length-map-range_with_len (word_at c.args.bytes.now) 0 (length c.args.bytes.now / 8)

cells : (c : goal.In_ok-lent) (i : ℕ) → cell c.in_ok-words.words i ≡ Single (word_at c.args.bytes.now i)
cells c i = c.in_ok-words.ensures.cells i ∙ ap Single (ap (λ (xs : List ℕ). get_or xs i 0) c.in_ok-words_of_bytes.ensures ∙ image_word c.args.bytes.now i (omega arith))

pub invariant_of-result : goal.invariant_of-result
invariant_of-result c = rw c.in_ok-lent.ensures (made_lines _ _ (word_at c.args.bytes.now) (omega (arith, sized c, c.len.ensures)) (omega (arith, sized c)) (cells c))

pub returns-clause-size : goal.returns-clause-size
returns-clause-size c = rw (length-with_lent c.in_ok-lent.lent.items c.in_ok-words.words) (omega (arith, sized c))

pub returns-clause-words : goal.returns-clause-words
returns-clause-words c i = rw c.in_ok-lent.ensures (made_cells _ _ (word_at c.args.bytes.now) (omega (arith, sized c, c.len.ensures)) (omega (arith, sized c)) (cells c) i)
