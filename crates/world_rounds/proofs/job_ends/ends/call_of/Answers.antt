use Rattle.std.proofs.Common.{◌≡◌, ◌∙◌, ap, slice_get, Some, sym}
use Rattle.world_parts.specs.list_laws.Members.{In-slice_get}
use Rattle.world_parts.specs.in_flight.live_model.Standing.{JobOut}
use Rattle.world_parts.proofs.world_view_laws_proofs.Finishing.{one_job}
use Rattle.world_parts.proofs.in_flight_proofs.Taking.{at_index}
use Rattle.world_rounds.proofs.job_ends.ends.call_of.Goals as goal

pub returns : goal.returns
returns c q at own =
    let found = c.in-Some.ensures.some in
    let there : slice_get c.args.pending.now c.in-Some.place ≡ Some found.0 = found.1 in
    let is : c.index-pending-place.result ≡ found.0 = c.index-pending-place.is ∙ at_index c.args.pending.now c.in-Some.place found.0 c.index-pending-place.result there in
    ap (λ (x : JobOut). x.call) (c.job.view_is ∙ is ∙ one_job c.args.pending.now found.0 q c.requires.callers (In-slice_get c.args.pending.now c.in-Some.place found.0 there) at (found.2 ∙ sym own))

pub unreachable-requires : goal.unreachable-requires
unreachable-requires c = c.in-None.ensures.none c.requires.out.0 c.requires.out.1 c.requires.out.2
