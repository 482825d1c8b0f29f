use Rattle.std.proofs.Common.{◌≤◌, ◌+◌, ◌∙◌, length, arith}
use Rattle.std.specs.Prelude.{nat_lt}
use Rattle.std.proofs.lemmas.Bool.Decides.{nat_tests}
use Rattle.posix_tables.specs.Names.{longest_path}
use Rattle.k_tables.proofs.Heights.{deep-height}
use Rattle.k_tables.proofs.tables.renaming.is_too_deep.Goals as goal

pub returns : goal.returns
returns c =
    let some : 1 ≤ length c.args.to.now = grind (arith, nat_tests, c.requires.below) in
    (λ i. nat_lt longest_path (c.name_count.ensures.count i + c.from.ensures i))
    ∙ deep-height c.args.names.now c.args.node c.height.result (length c.args.to.now) c.requires.keyed c.height.ensures some
