use Rattle.std.proofs.Common.{◌≡◌, ◌≤◌, ◌<◌, ◌+◌, ◌-◌, ◌*◌, ◌/◌, ◌%◌, length, ⊎_elim, ◌∙◌, refl, arith}
use Rattle.std.proofs.lemmas.Bool.{cases_lt}
use Rattle.pm_model.specs.CellLaws.{lent-within}
use Rattle.pm_lines.proofs.LentCells.{length_is, out_from_lent, back_lines, back_size, back_inside, back_home, back_below, back_above}
use Rattle.pm_lines.proofs.devices.Pm.put_line.Goals as goal

pub overflow_mul-place : goal.overflow_mul-place
overflow_mul-place c =
    let last : 8 * c.args.line.place + 7 < length c.args.self.now = lent-within c.args.self.now (8 * c.args.line.place + 7) (c.requires.out _ (omega arith)) in
    omega (arith, last, c.place-place.ensures, c.words-place.ensures)

-- the last word is lent, so that it is a word of the device
pub put_cells-requires-clause-in_range : goal.put_cells-requires-clause-in_range
put_cells-requires-clause-in_range c =
    let last : 8 * c.args.line.place + 7 < length c.args.self.now = lent-within c.args.self.now (8 * c.args.line.place + 7) (c.requires.out _ (omega arith)) in
    omega (arith, last, length_is _ _ _ c.self.invariant c.self.view_is, c.place-place.ensures, c.cells.ensures.whole.count)

pub put_cells-requires-clause-single : goal.put_cells-requires-clause-single
put_cells-requires-clause-single c i after before =
    c.self.invariant.single i (out_from_lent _ _ _ c.self.invariant c.self.view_is i (c.requires.out i (omega (arith, c.place-place.ensures, c.cells.ensures.whole.count))))

pub note_lines-requires : goal.note_lines-requires
note_lines-requires c =
    let last : 8 * c.args.line.place + 7 < length c.args.self.now = lent-within c.args.self.now (8 * c.args.line.place + 7) (c.requires.out _ (omega arith)) in
    omega (arith, last, length_is _ _ _ c.self.invariant c.self.view_is, c.self.invariant.size, c.place-place.ensures)

pub invariant_of-self : goal.invariant_of-self
invariant_of-self c = back_lines _ _ _ c.self.invariant c.self.view_is (c.place-place.result) 1 _ _ _ c.cells.ensures.whole.count c.put_cells.ensures c.note_lines.ensures

pub returns-clause-size : goal.returns-clause-size
returns-clause-size c = back_size _ _ _ c.self.invariant c.self.view_is (c.place-place.result) 1 _ _ _ c.cells.ensures.whole.count c.put_cells.ensures c.note_lines.ensures

pub returns-clause-back : goal.returns-clause-back
returns-clause-back c = record {
  words = λ i inside.
      let at : i - 8 * (c.place-place.result) ≡ i % 8 = omega (arith, c.place-place.ensures) in
      back_inside _ _ _ c.self.invariant c.self.view_is (c.place-place.result) 1 _ _ _ c.cells.ensures.whole.count c.put_cells.ensures c.note_lines.ensures i (omega (arith, c.place-place.ensures)) (omega (arith, c.place-place.ensures))
      ∙ rw (at, c.cells.ensures.cells) refl;
  others = λ i other. ⊎_elim
      (λ (h : i / 8 < c.place-place.result). back_below _ _ _ c.self.invariant c.self.view_is (c.place-place.result) 1 _ _ _ c.cells.ensures.whole.count c.put_cells.ensures c.note_lines.ensures i h)
      (λ (h : c.place-place.result ≤ i / 8). back_above _ _ _ c.self.invariant c.self.view_is (c.place-place.result) 1 _ _ _ c.cells.ensures.whole.count c.put_cells.ensures c.note_lines.ensures i (omega (arith, c.place-place.ensures)))
      (cases_lt (i / 8) (c.place-place.result));
}

pub returns-clause-home : goal.returns-clause-home
returns-clause-home c i inside =
    back_home _ _ _ c.self.invariant c.self.view_is (c.place-place.result) 1 _ _ _ c.cells.ensures.whole.count c.put_cells.ensures c.note_lines.ensures i (omega (arith, c.place-place.ensures)) (omega (arith, c.place-place.ensures))
