use Rattle.std.proofs.Common.{◌+◌, ◌*◌, vec_len}
use Rattle.split_threads.proofs.starting.+starts.Given as goal

abbrev pub decreases-others : goal.decreases-others
decreases-others g l = 2 * vec_len l.owns + 1

abbrev pub decreases-start_all : goal.decreases-start_all
decreases-start_all g l = 2 * vec_len l.owns
