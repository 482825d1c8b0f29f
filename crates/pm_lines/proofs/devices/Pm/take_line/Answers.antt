use Rattle.std.proofs.Common.{◌≡◌, ◌≤◌, ◌<◌, ◌+◌, ◌*◌, ◌/◌, ◌%◌, ℕ, true, ⊎_elim, sym, ◌∙◌, arith}
use Rattle.std.proofs.lemmas.Bool.{cases_lt}
use Rattle.pm_model.specs.Cells.{cell, is_single}
use Rattle.pm_lines.proofs.LentCells.{length_is, cell_single, out_lines, out_size, out_inside, out_below, out_above}
use Rattle.pm_lines.proofs.devices.Pm.take_line.Goals as goal

pub cells_of_line-cells-requires : goal.cells_of_line-cells-requires
cells_of_line-cells-requires c = omega (arith, length_is _ _ _ c.self.invariant c.self.view_is, c.requires.in_device)

pub note_lines-requires : goal.note_lines-requires
note_lines-requires c = omega (arith, c.self.invariant.size, length_is _ _ _ c.self.invariant c.self.view_is, c.requires.in_device)

singles : (c : goal.After-of) (i : ℕ) → c.args.line ≤ i / 8 → i / 8 < c.args.line + 1 → is_single (cell c.args.self.now i) ≡ true
singles c i after before = c.requires.single i (omega arith)

pub invariant_of-self : goal.invariant_of-self
invariant_of-self c = out_lines _ _ _ c.self.invariant c.self.view_is _ c.args.line 1 c.note_lines.ensures (singles c)

pub returns-clause-size : goal.returns-clause-size
returns-clause-size c = out_size _ _ _ c.self.invariant c.self.view_is _ c.args.line 1 c.note_lines.ensures (singles c)

pub returns-clause-lent : goal.returns-clause-lent
returns-clause-lent c = rw c.of.ensures (record {
  count = c.cells_of_line-cells.ensures.whole.count;
  words = λ i inside.
      let at : 8 * c.args.line + i % 8 ≡ i = omega arith in
      rw at at (c.cells_of_line-cells.ensures.cells (i % 8) (omega arith)) ∙ sym (cell_single _ _ _ c.self.invariant c.self.view_is i (c.requires.single i inside));
  out = λ i inside. out_inside _ _ _ c.self.invariant c.self.view_is _ c.args.line 1 c.note_lines.ensures (singles c) i (omega arith) (omega arith);
  others = λ i other. ⊎_elim
      (λ (h : i / 8 < c.args.line). out_below _ _ _ c.self.invariant c.self.view_is _ c.args.line 1 c.note_lines.ensures (singles c) i h)
      (λ (h : c.args.line ≤ i / 8). out_above _ _ _ c.self.invariant c.self.view_is _ c.args.line 1 c.note_lines.ensures (singles c) i (omega arith))
      (cases_lt (i / 8) c.args.line);
})
