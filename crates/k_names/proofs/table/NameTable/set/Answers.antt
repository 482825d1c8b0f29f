use Rattle.k_names.proofs.KeyedLaws.{set-keyed}
use Rattle.k_names.proofs.table.NameTable.set.Goals as goal

pub put-requires-clause-keyed : goal.put-requires-clause-keyed
put-requires-clause-keyed c = λ keyed. set-keyed c.args.self.now c.args.line c.args.value keyed c.requires.in_table c.requires.new
