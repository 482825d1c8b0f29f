-- A name goes from one line to another: no two lines have the same parent and name.
use Rattle.std.proofs.Common.{ap, arith, length, subst, sym}
use Rattle.std.proofs.lemmas.List.{length-set}
use Rattle.std.specs.Prelude.{None, Some, slice_set}
use Rattle.layout_model.specs.Names.{Rows}
use Rattle.layout_model.specs.Tables.{IsKeyed}
use Rattle.k_names.proofs.KeyedLaws.{cleared-keyed, new-keyed}
use Rattle.k_names.proofs.table.NameTable.set_over.Goals as goal

pub put-requires-clause-keyed : goal.put-requires-clause-keyed
put-requires-clause-keyed c = cleared-keyed c.args.self.now c.args.target c.requires.other

pub put-requires-2-clause-in_table : goal.put-requires-2-clause-in_table
put-requires-2-clause-in_table c =
    omega (arith, c.requires.in_table, ap (λ (xs : Rows). length xs) c.put.ensures.put, length-set c.args.self.now c.args.target None)

pub put-requires-2-clause-keyed : goal.put-requires-2-clause-keyed
put-requires-2-clause-keyed c = λ _.
    subst (λ (xs : Rows). IsKeyed (slice_set xs c.args.line (Some c.args.value))) (sym c.put.ensures.put)
    (new-keyed c.args.self.now c.args.target c.args.line c.args.value c.put.ensures.was_keyed c.requires.other c.requires.in_table c.requires.has_it)
