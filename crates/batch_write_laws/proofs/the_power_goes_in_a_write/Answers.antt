use Rattle.batch_write_laws.specs.LossesLaws.{join_keeps_back, kept_back_of_one, shown_keeps_back, tail_keeps_back, write_keeps_back}
use Rattle.batch_write_laws.proofs.the_power_goes_in_a_write.Goals as goal

pub returns : goal.returns
returns c = record {
  shown = shown_keeps_back;
  joined = join_keeps_back;
  tail = tail_keeps_back;
  lost = write_keeps_back;
  of_one = kept_back_of_one;
}
