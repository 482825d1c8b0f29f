use Rattle.live_model.proofs.FlightsFlights.{flies_begun, flies_finished, flies_given_up, flies_landed}
use Rattle.live_model.proofs.Readable.{flies_readable}
use Rattle.live_model.proofs.flights.flights_come_and_go.Goals as goal

pub returns : goal.returns
returns c = record {
  begun = flies_begun;
  finished = flies_finished;
  landed = flies_landed;
  given_up = flies_given_up;
  readable = flies_readable;
}
