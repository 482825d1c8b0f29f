use Rattle.std.proofs.Common.{sym, arith}
use Rattle.pm_lines.specs.Pairs.{IsPlace, HasNoPair}
use Rattle.pm_lines.proofs.HeldCells.{length_is, mark-held, mark-size, mark-at, mark-others, flushed-none, flushed-marked}
use Rattle.pm_lines.proofs.words.Words.mark.Goals as goal

pub place_of-requires-clause-in_range : goal.place_of-requires-clause-in_range
place_of-requires-clause-in_range c = omega (arith, length_is _ _ _ _ _ c.self.invariant c.self.view_is, c.requires)

pub invariant_of-self : goal.invariant_of-self
invariant_of-self c =
    let at : IsPlace c.self.inside.pairs.items c.args.word c.in-Some.place = rw c.deref-2.ensures.value at c.in-Some.ensures in
    rw c.swap_pairs.ensures.capacity (mark-held _ _ _ _ _ c.self.invariant c.self.view_is _ _ _ _ at c.if-place-self.true c.swap_pairs.ensures.swaps)

pub returns-then-place-self-clause-size : goal.returns-then-place-self-clause-size
returns-then-place-self-clause-size c =
    let at : IsPlace c.self.inside.pairs.items c.args.word c.in-Some.place = rw c.deref-2.ensures.value at c.in-Some.ensures in
    mark-size _ _ _ _ _ c.self.invariant c.self.view_is _ _ _ _ at c.if-place-self.true c.swap_pairs.ensures.swaps

pub returns-then-place-self-clause-marked : goal.returns-then-place-self-clause-marked
returns-then-place-self-clause-marked c =
    let at : IsPlace c.self.inside.pairs.items c.args.word c.in-Some.place = rw c.deref-2.ensures.value at c.in-Some.ensures in
    mark-at _ _ _ _ _ c.self.invariant c.self.view_is _ _ _ _ at c.if-place-self.true c.swap_pairs.ensures.swaps

pub returns-then-place-self-clause-others : goal.returns-then-place-self-clause-others
returns-then-place-self-clause-others c =
    let at : IsPlace c.self.inside.pairs.items c.args.word c.in-Some.place = rw c.deref-2.ensures.value at c.in-Some.ensures in
    mark-others _ _ _ _ _ c.self.invariant c.self.view_is _ _ _ _ at c.if-place-self.true c.swap_pairs.ensures.swaps

pub returns-else-place-self-clause-marked : goal.returns-else-place-self-clause-marked
returns-else-place-self-clause-marked c =
    let at : IsPlace c.self.inside.pairs.items c.args.word c.in-Some.place = rw c.deref-2.ensures.value at c.in-Some.ensures in
    sym (flushed-marked _ _ _ _ _ c.self.invariant c.self.view_is _ _ at c.if-place-self.false)

pub returns-in_default-clause-marked : goal.returns-in_default-clause-marked
returns-in_default-clause-marked c =
    let none : HasNoPair c.self.inside.pairs.items c.args.word = rw c.deref-2.ensures.value at c.in_default.ensures in
    sym (flushed-none _ _ _ _ _ c.self.invariant c.self.view_is _ none)
