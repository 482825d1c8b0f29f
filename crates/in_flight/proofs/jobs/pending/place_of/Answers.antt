use Rattle.std.proofs.Common.{arith}
use Rattle.std.proofs.lemmas.Option.{slice_get_within}
use Rattle.open_files.specs.list_laws.Members.{slice_get-In}
use Rattle.in_flight.proofs.jobs.pending.place_of.Goals as goal

pub returns-clause-none : goal.returns-clause-none
returns-clause-none c p is =
    let at = slice_get-In c.args.pending.now p is in
    c.loop-place.invariant at.0 p (omega (arith, slice_get_within c.args.pending.now at.0 p at.1)) at.1
