use Rattle.k_names.proofs.KeyedLaws.{cleared-keyed}
use Rattle.k_names.proofs.table.NameTable.clear.Goals as goal

pub put-requires-clause-keyed : goal.put-requires-clause-keyed
put-requires-clause-keyed c = cleared-keyed c.args.self.now c.args.line c.requires
