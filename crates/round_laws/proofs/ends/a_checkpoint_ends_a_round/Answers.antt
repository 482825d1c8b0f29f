use Rattle.round_laws.proofs.Rounds.{applies_claims, goes_into_next_round, loses_round_before, loses_round_inside}
use Rattle.round_laws.proofs.ends.a_checkpoint_ends_a_round.Goals as goal

pub returns-clause-done : goal.returns-clause-done
returns-clause-done c =
    goes_into_next_round c.log_lines_come_home.ensures c.a_crash_keeps_the_promise.ensures.lines c.all_files_are_gathered.ensures.done
    c.publishing_leaves_what_is_out.ensures.gathered c.files_end_after_changes_of_maps.ensures.gathered

pub returns-clause-applied : goal.returns-clause-applied
returns-clause-applied c =
    applies_claims c.log_lines_come_home.ensures c.a_crash_keeps_the_promise.ensures.lines c.all_files_are_gathered.ensures.done
    c.publishing_leaves_what_is_out.ensures.gathered

pub returns-clause-inside : goal.returns-clause-inside
returns-clause-inside c =
    loses_round_inside c.log_lines_come_home.ensures c.a_crash_keeps_the_promise.ensures.lines c.all_files_are_gathered.ensures.cut
    c.publishing_leaves_what_is_out.ensures.gathered

pub returns-clause-before : goal.returns-clause-before
returns-clause-before c = loses_round_before c.a_crash_keeps_the_promise.ensures.crashed
