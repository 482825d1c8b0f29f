-- The test is true exactly of equal lists of names.
use Rattle.std.proofs.Common.{◌≡◌, rules}
use Rattle.posix_types.specs.SameNames.{told, names_decide, same_names}
use Rattle.posix_types.proofs.name.NameListPartialEq.eq.Goals as goal

pub returns-clause-exact : goal.returns-clause-exact
returns-clause-exact c =
    let value : c.eq.result ≡ same_names c.args.self.now c.args.other.now = search rules in
    told names_decide c.args.self.now c.args.other.now c.eq.result value
