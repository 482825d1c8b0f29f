use Rattle.std.proofs.Common.{◌∙◌, sym}
use Rattle.split_threads.specs.Backs.{no_hand, parts_of}
use Rattle.split_threads.proofs.Closing.{all_outside, closed, filled_mapped, given_is, jobs_mapped, lap_is, of_log, of_turn, passes_all, seats_all, some_line, workers}
use Rattle.split_threads.proofs.Ending.{from_turned}
use Rattle.split_threads.proofs.closes.close_round.Goals as goal

pub close-lines-requires : goal.close-lines-requires
close-lines-requires c =
    let w = c.requires.0 in
    let power = c.requires.1 in
    let backs = c.requires.2 in
    let can = c.requires.3 in
    let parted = c.requires.4 in
    record { all = seats_all w power c.args.turn c.args.log backs can c.args.parted parted; log = of_log w power c.args.turn c.args.log backs can c.args.parted parted }

pub close-requires : goal.close-requires
close-requires c =
    let w = c.requires.0 in
    let power = c.requires.1 in
    let backs = c.requires.2 in
    let can = c.requires.3 in
    let parted = c.requires.4 in
    record { all = passes_all w power c.args.turn c.args.log backs can c.args.parted parted; turn = of_turn w power c.args.turn c.args.log backs can c.args.parted parted; outside = all_outside w power c.args.turn c.args.log backs can c.args.parted parted }

pub end_world-requires : goal.end_world-requires
end_world-requires c =
    let w = c.requires.0 in
    let power = c.requires.1 in
    let backs = c.requires.2 in
    let can = c.requires.3 in
    let parted = c.requires.4 in
    let views = c.in-Here.ensures in
    let first = c.claims_have_the_first_numbers.ensures c.args.log c.args.parted.seats.items c.close-lines.ensures.numbers in (
      c.args.log,
      parts_of w power backs,
      closed w power c.args.turn c.args.log backs can c.args.parted parted c.in-Here.world c.in-Here.power views.0 views.1 views.2 views.3 c.close-lines.result.items c.close-lines.ensures.lines first,
      parted.jobs ∙ sym (jobs_mapped (no_hand w power) backs),
      parted.filled ∙ sym (filled_mapped (no_hand w power) backs),
      can.back.stopped,
      workers w power c.args.turn c.args.log backs can c.args.parted parted c.in-Here.world c.in-Here.power views.0 views.1 views.2 views.3,
      some_line w power c.args.turn c.args.log backs can c.args.parted parted c.in-Here.world c.in-Here.power views.0 views.1 views.2 views.3,
    )

pub returns-in-Here : goal.returns-in-Here
returns-in-Here c w power backs can parted =
    let views = c.in-Here.ensures in
    from_turned w c.in-Here.world power c.in-Here.power c.end_world.result (lap_is w power c.args.turn c.args.log backs can c.args.parted parted c.in-Here.world c.in-Here.power views.0 views.1 views.2 views.3) (given_is w power c.args.turn c.args.log backs can c.args.parted parted c.in-Here.world c.in-Here.power views.0 views.1 views.2 views.3) views.1.world c.end_world.ensures
