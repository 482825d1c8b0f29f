use Rattle.write_begin.proofs.begins.rooms.begin_job.Goals as goal

pub returns-in-Err : goal.returns-in-Err
returns-in-Err c = record {
  same = c.in-Err.ensures.err;
  back = c.give_back.ensures.back;
  keeps = c.owed-owed.ensures.keeps;
  agrees = λ agrees there. c.give_back.ensures.agrees c.args.k.now agrees there;
  single = λ single own. c.give_back.ensures.single c.args.k.now single own;
}
