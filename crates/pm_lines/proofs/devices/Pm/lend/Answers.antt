use Rattle.std.proofs.Common.{◌≡◌, ◌≤◌, ◌<◌, ◌+◌, ◌*◌, ◌/◌, ◌%◌, ℕ, true, ⊎_elim, sym, ◌∙◌, arith}
use Rattle.std.proofs.lemmas.Bool.{cases_lt}
use Rattle.pm_model.specs.Cells.{cell, is_single}
use Rattle.pm_lines.proofs.LentCells.{length_is, cell_single, out_lines, out_size, out_inside, out_below, out_above}
use Rattle.pm_lines.proofs.devices.Pm.lend.Goals as goal

pub copy-requires-clause-in_range : goal.copy-requires-clause-in_range
copy-requires-clause-in_range c = omega (arith, length_is _ _ _ c.self.invariant c.self.view_is, c.requires.in_device)

pub copy-requires-clause-single : goal.copy-requires-clause-single
copy-requires-clause-single c i after before =
    let single : is_single (cell c.args.self.now i) ≡ true = c.requires.single i (omega arith) in
    rw (cell_single _ _ _ c.self.invariant c.self.view_is i single) at single

pub note_lines-requires : goal.note_lines-requires
note_lines-requires c = omega (arith, c.self.invariant.size, length_is _ _ _ c.self.invariant c.self.view_is, c.requires.in_device)

singles : (c : goal.After-of) (i : ℕ) → 64 * c.args.block ≤ i / 8 → i / 8 < 64 * c.args.block + 64 → is_single (cell c.args.self.now i) ≡ true
singles c i after before = c.requires.single i (omega arith)

pub invariant_of-self : goal.invariant_of-self
invariant_of-self c = out_lines _ _ _ c.self.invariant c.self.view_is _ (64 * c.args.block) 64 c.note_lines.ensures (singles c)

pub returns-clause-size : goal.returns-clause-size
returns-clause-size c = out_size _ _ _ c.self.invariant c.self.view_is _ (64 * c.args.block) 64 c.note_lines.ensures (singles c)

pub returns-clause-lent : goal.returns-clause-lent
returns-clause-lent c = rw c.of.ensures (record {
  count = c.in_ok-words.ensures.size;
  words = λ i inside.
      let at : 8 * (64 * c.args.block) + i % 512 ≡ i = omega arith in
      rw at at (c.in_ok-words.ensures.cells (i % 512) (omega arith)) ∙ sym (cell_single _ _ _ c.self.invariant c.self.view_is i (c.requires.single i inside));
  out = λ i inside. out_inside _ _ _ c.self.invariant c.self.view_is _ (64 * c.args.block) 64 c.note_lines.ensures (singles c) i (omega arith) (omega arith);
  others = λ i other. ⊎_elim
      (λ (h : i / 8 < 64 * c.args.block). out_below _ _ _ c.self.invariant c.self.view_is _ (64 * c.args.block) 64 c.note_lines.ensures (singles c) i h)
      (λ (h : 64 * c.args.block ≤ i / 8). out_above _ _ _ c.self.invariant c.self.view_is _ (64 * c.args.block) 64 c.note_lines.ensures (singles c) i (omega arith))
      (cases_lt (i / 8) (64 * c.args.block));
})
