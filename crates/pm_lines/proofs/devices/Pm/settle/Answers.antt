use Rattle.std.proofs.Common.{◌≡◌, ◌≤◌, ◌<◌, ◌+◌, ◌-◌, ◌*◌, ◌/◌, ◌%◌, length, ⊎_elim, ◌∙◌, refl, arith}
use Rattle.std.proofs.lemmas.Bool.{cases_lt}
use Rattle.pm_model.specs.CellLaws.{lent-within}
use Rattle.pm_lines.proofs.LentCells.{length_is, out_from_lent, back_lines, back_size, back_inside, back_home, back_below, back_above}
use Rattle.pm_lines.proofs.devices.Pm.settle.Goals as goal

-- the last word is lent, so that it is a word of the device
pub put_words-requires-clause-in_range : goal.put_words-requires-clause-in_range
put_words-requires-clause-in_range c =
    let last : 512 * c.args.loan.place + 511 < length c.args.self.now = lent-within c.args.self.now (512 * c.args.loan.place + 511) (c.requires.out _ (omega arith)) in
    omega (arith, last, length_is _ _ _ c.self.invariant c.self.view_is, c.block.ensures, c.words.ensures.count)

pub put_words-requires-clause-single : goal.put_words-requires-clause-single
put_words-requires-clause-single c i after before =
    c.self.invariant.single i (out_from_lent _ _ _ c.self.invariant c.self.view_is i (c.requires.out i (omega (arith, c.block.ensures, c.words.ensures.count))))

pub note_lines-requires : goal.note_lines-requires
note_lines-requires c =
    let last : 512 * c.args.loan.place + 511 < length c.args.self.now = lent-within c.args.self.now (512 * c.args.loan.place + 511) (c.requires.out _ (omega arith)) in
    omega (arith, last, length_is _ _ _ c.self.invariant c.self.view_is, c.self.invariant.size, c.block.ensures)

pub invariant_of-self : goal.invariant_of-self
invariant_of-self c = back_lines _ _ _ c.self.invariant c.self.view_is (64 * c.block.result) 64 _ _ _ c.words.ensures.count c.put_words.ensures c.note_lines.ensures

pub returns-clause-size : goal.returns-clause-size
returns-clause-size c = back_size _ _ _ c.self.invariant c.self.view_is (64 * c.block.result) 64 _ _ _ c.words.ensures.count c.put_words.ensures c.note_lines.ensures

pub returns-clause-back : goal.returns-clause-back
returns-clause-back c = record {
  words = λ i inside.
      let at : i - 8 * (64 * c.block.result) ≡ i % 512 = omega (arith, c.block.ensures) in
      back_inside _ _ _ c.self.invariant c.self.view_is (64 * c.block.result) 64 _ _ _ c.words.ensures.count c.put_words.ensures c.note_lines.ensures i (omega (arith, c.block.ensures)) (omega (arith, c.block.ensures))
      ∙ rw (at, c.words.ensures.words) refl;
  others = λ i other. ⊎_elim
      (λ (h : i / 8 < 64 * c.block.result). back_below _ _ _ c.self.invariant c.self.view_is (64 * c.block.result) 64 _ _ _ c.words.ensures.count c.put_words.ensures c.note_lines.ensures i h)
      (λ (h : 64 * c.block.result ≤ i / 8). back_above _ _ _ c.self.invariant c.self.view_is (64 * c.block.result) 64 _ _ _ c.words.ensures.count c.put_words.ensures c.note_lines.ensures i (omega (arith, c.block.ensures)))
      (cases_lt (i / 8) (64 * c.block.result));
}

pub returns-clause-home : goal.returns-clause-home
returns-clause-home c i inside =
    back_home _ _ _ c.self.invariant c.self.view_is (64 * c.block.result) 64 _ _ _ c.words.ensures.count c.put_words.ensures c.note_lines.ensures i (omega (arith, c.block.ensures)) (omega (arith, c.block.ensures))
