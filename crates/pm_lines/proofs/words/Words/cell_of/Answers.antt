use Rattle.std.proofs.Common.{◌≡◌, sym, ap, arith}
use Rattle.std.proofs.lemmas.List.{get_or_read}
use Rattle.pm_model.specs.declared.Cell.TheVariants.{Single}
use Rattle.pm_lines.specs.Pairs.{pair_at, IsPlace, HasNoPair}
use Rattle.pm_lines.proofs.WordCells.{pair_cell-marked, pair_cell-unmarked}
use Rattle.pm_lines.proofs.HeldCells.{length_is, cell_none, cell_pair}
use Rattle.pm_lines.proofs.words.Words.cell_of.Goals as goal

pub place_of-requires-clause-in_range : goal.place_of-requires-clause-in_range
place_of-requires-clause-in_range c = omega (arith, length_is _ _ _ _ _ c.self.invariant c.self.view_is, c.requires)

pub index-requires : goal.index-requires
index-requires c = omega (arith, length_is _ _ _ _ _ c.self.invariant c.self.view_is, c.requires)

pub returns-in-None-clause-cell : goal.returns-in-None-clause-cell
returns-in-None-clause-cell c =
    let none : HasNoPair c.self.inside.pairs.items c.args.word = rw c.deref-2.ensures.value at c.in-None.ensures in
    let below = length_is _ _ _ _ _ c.self.invariant c.self.view_is in
    rw (cell_none _ _ _ _ _ c.self.invariant c.self.view_is _ none) (ap Single (get_or_read c.self.inside.values.items c.args.word c.index.result.now (omega (arith, below, c.requires)) c.index.ensures 0))

pub returns-then-place-self-clause-cell : goal.returns-then-place-self-clause-cell
returns-then-place-self-clause-cell c =
    let at : IsPlace c.self.inside.pairs.items c.args.word c.in-Some.place = rw c.deref-2.ensures.value at c.in-Some.ensures in
    let read : c.index-pair.result.now ≡ pair_at c.self.inside.pairs.items c.in-Some.place = get_or_read _ _ _ at.below c.index-pair.ensures _ in
    rw (cell_pair _ _ _ _ _ c.self.invariant c.self.view_is _ _ at, ← read) (sym (pair_cell-marked _ _ c.index-pair.result.now c.if-place-self.true))

pub returns-else-place-self-clause-cell : goal.returns-else-place-self-clause-cell
returns-else-place-self-clause-cell c =
    let at : IsPlace c.self.inside.pairs.items c.args.word c.in-Some.place = rw c.deref-2.ensures.value at c.in-Some.ensures in
    let read : c.index-pair.result.now ≡ pair_at c.self.inside.pairs.items c.in-Some.place = get_or_read _ _ _ at.below c.index-pair.ensures _ in
    rw (cell_pair _ _ _ _ _ c.self.invariant c.self.view_is _ _ at, ← read) (sym (pair_cell-unmarked _ _ c.index-pair.result.now c.if-place-self.false))
