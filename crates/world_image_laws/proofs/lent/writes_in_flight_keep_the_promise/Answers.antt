use Rattle.world_image_laws.specs.Flights.{leads_after, leads_before, promise_at_begin, promise_beside, promise_in_flight}
use Rattle.world_image_laws.proofs.lent.writes_in_flight_keep_the_promise.Goals as goal

pub returns : goal.returns
returns c = record { jobs = promise_in_flight; begun = promise_at_begin; beside = promise_beside; before = leads_before; after = leads_after }
