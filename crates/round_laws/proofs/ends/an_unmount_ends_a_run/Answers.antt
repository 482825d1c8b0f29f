use Rattle.round_laws.proofs.Runs.{ends_run_empty, ends_run_whole, loses_run, may_crash_whole}
use Rattle.round_laws.proofs.ends.an_unmount_ends_a_run.Goals as goal

pub returns-clause-whole : goal.returns-clause-whole
returns-clause-whole c =
    ends_run_whole c.log_lines_come_home.ensures c.a_crash_keeps_the_promise.ensures.lines c.all_files_are_gathered.ensures.done
    c.publishing_leaves_what_is_out.ensures.gathered c.a_crash_keeps_the_promise.ensures.home

pub returns-clause-empty : goal.returns-clause-empty
returns-clause-empty c =
    ends_run_empty c.log_lines_come_home.ensures c.a_crash_keeps_the_promise.ensures.lines c.all_files_are_gathered.ensures.done
    c.publishing_leaves_what_is_out.ensures.gathered

pub returns-clause-lost : goal.returns-clause-lost
returns-clause-lost c =
    loses_run c.log_lines_come_home.ensures c.a_crash_keeps_the_promise.ensures.lines c.all_files_are_gathered.ensures.cut
    c.publishing_leaves_what_is_out.ensures.gathered

pub returns-clause-crash : goal.returns-clause-crash
returns-clause-crash c = may_crash_whole
