use Rattle.std.proofs.Common.{arith}
use Rattle.std.proofs.lemmas.Grind.{common_steps}
use Rattle.k_journal.specs.Batch.{IsFirstPlace, IsNew}
use Rattle.k_journal.specs.declared.batches.Record.{Record}
use Rattle.k_journal.proofs.Puts.{with_line_set-known, with_line_set-new, meaning-known, distinct-push, meaning-new}
use Rattle.k_journal.proofs.batches.Batch.put.Goals as goal

-- ---- the line is there already

pub returns-in-Some-clause-entries : goal.returns-in-Some-clause-entries
returns-in-Some-clause-entries c =
    let e : Record = record { line = c.args.line; bytes = c.args.bytes } in
    let first : IsFirstPlace c.self.inside.entries.items e.line c.in-Some.place = rw c.deref.ensures.value at c.in-Some.ensures in
    rw (← c.self.view_is) (with_line_set-known c.self.inside.entries.items e c.in-Some.place first)

pub returns-in-Some-clause-meaning : goal.returns-in-Some-clause-meaning
returns-in-Some-clause-meaning c =
    let e : Record = record { line = c.args.line; bytes = c.args.bytes } in
    let first : IsFirstPlace c.self.inside.entries.items e.line c.in-Some.place = rw c.deref.ensures.value at c.in-Some.ensures in
    rw (← c.self.view_is) (meaning-known c.self.inside.entries.items e c.in-Some.place c.self.invariant.distinct first)

-- ---- the line is new

pub invariant_of-self-2 : goal.invariant_of-self-2
invariant_of-self-2 c =
    let e : Record = record { line = c.args.line; bytes = c.args.bytes } in
    let fresh : IsNew c.self.inside.entries.items e.line = rw c.deref.ensures.value at c.in_default.ensures in
    record {
      most = grind (arith, common_steps);
      room = grind (arith, common_steps);
      distinct = rw c.push_reserved.ensures.items (distinct-push c.self.inside.entries.items e c.self.invariant.distinct fresh);
    }

pub returns-clause-entries : goal.returns-clause-entries
returns-clause-entries c =
    let e : Record = record { line = c.args.line; bytes = c.args.bytes } in
    let fresh : IsNew c.self.inside.entries.items e.line = rw c.deref.ensures.value at c.in_default.ensures in
    rw (c.push_reserved.ensures.items, ← c.self.view_is) (with_line_set-new c.self.inside.entries.items e fresh)

pub returns-clause-meaning : goal.returns-clause-meaning
returns-clause-meaning c =
    let e : Record = record { line = c.args.line; bytes = c.args.bytes } in
    let fresh : IsNew c.self.inside.entries.items e.line = rw c.deref.ensures.value at c.in_default.ensures in
    rw (c.push_reserved.ensures.items, ← c.self.view_is) (meaning-new c.self.inside.entries.items e c.self.invariant.distinct fresh)
