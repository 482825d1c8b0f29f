use Rattle.script_text.proofs.Steps.{reached-call, reached-passed, reached-set_up, reached-thread}
use Rattle.script_text.proofs.reading.Reading.take.Goals as goal

pub returns-in-Passed : goal.returns-in-Passed
returns-in-Passed c = λ before h. rw c.in-Passed.is (reached-passed c.args.self.now before h)

pub returns-in-SetUp : goal.returns-in-SetUp
returns-in-SetUp c = λ before h. rw (c.in-SetUp.is, c.begin_set_up.ensures) (reached-set_up c.args.self.now before h (rw c.in-SetUp.is at c.requires))

pub returns-in_ok-begin_thread-in-Thread : goal.returns-in_ok-begin_thread-in-Thread
returns-in_ok-begin_thread-in-Thread c = λ before h. rw (c.in-Thread.is, c.in_ok-begin_thread-in-Thread.ensures) (reached-thread c.args.self.now before h)

pub returns-in_ok-add_call-in-Calls : goal.returns-in_ok-add_call-in-Calls
returns-in_ok-add_call-in-Calls c = λ before h. rw (c.in-Calls.is, c.in_ok-add_call-in-Calls.ensures) (reached-call c.args.self.now before c.in-Calls.call h)
