use Rattle.batch_write_laws.specs.ShownLaws.{fills_go_on, tail_goes_on, words_go_on}
use Rattle.batch_write_laws.proofs.words_go_unseen.Goals as goal

pub returns : goal.returns
returns c = record { words = words_go_on; fills = fills_go_on; tail = tail_goes_on }
