use Rattle.round_laws.proofs.Taking.{may_begin}
use Rattle.round_laws.proofs.ends.the_lines_of_a_round_may_go_out.Goals as goal

pub returns : goal.returns
returns c = may_begin
