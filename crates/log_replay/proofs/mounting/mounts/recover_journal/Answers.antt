use Rattle.std.proofs.Common.{◌∙◌}
use Rattle.k_check.specs.pm_model.Images.{words_of}
use Rattle.log_replay.proofs.MountingMounting.{sound-journal}
use Rattle.log_replay.proofs.Spending.{spent-steps}
use Rattle.log_replay.proofs.Showing.{left-viewed}
use Rattle.log_replay.proofs.mounting.mounts.recover_journal.Goals as goal

pub unreachable-requires : goal.unreachable-requires
unreachable-requires c =
    rw c.in-Bad.is at (c.recover.ensures.sound (sound-journal c.args.geometry.now (words_of c.args.pm.now) c.requires.numbers c.requires.checked))

pub returns-in-Done-clause-spent : goal.returns-in-Done-clause-spent
returns-in-Done-clause-spent c = spent-steps 1283 c.args.power.now c.recover.new.power c.recover.ensures.steps

pub returns-in-PowerLost-clause-spent : goal.returns-in-PowerLost-clause-spent
returns-in-PowerLost-clause-spent c = spent-steps 1283 c.args.power.now c.recover.new.power c.recover.ensures.steps

pub returns-in-PowerLost-clause-lost : goal.returns-in-PowerLost-clause-lost
returns-in-PowerLost-clause-lost c = record {
  size = c.recover.ensures.size ∙ c.requires.size;
  home = c.recover.ensures.home;
  shown = left-viewed c.args.geometry.now c.args.pm.now c.recover.new.pm c.requires.numbers c.requires.checked c.recover.ensures.each_image;
}
