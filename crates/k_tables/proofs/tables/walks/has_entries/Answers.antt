use Rattle.k_tables.proofs.Entries.{entries-height}
use Rattle.k_tables.proofs.tables.walks.has_entries.Goals as goal

pub returns : goal.returns
returns c = entries-height c.args.names.now c.args.parent c.height.result c.height.ensures
