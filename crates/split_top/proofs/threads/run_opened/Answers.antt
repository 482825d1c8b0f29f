use Rattle.split_top.specs.Runs.{task_on}
use Rattle.split_top.proofs.Results.{follows}
use Rattle.split_top.proofs.threads.run_opened.Goals as goal

pub run_world-requires-clause-begins : goal.run_world-requires-clause-begins
run_world-requires-clause-begins g c κs within =
    let b = c.in_ok-world.ensures in
    (task_on b.tree b.shape c.args.opened.geometry.log c.args.scripts c.args.options.now.mode, b.on)

pub returns-clause-ran : goal.returns-clause-ran
returns-clause-ran g c =
    let b = c.in_ok-world.ensures in
    follows c.run_world.result _ _
    (λ ran ensures.
    let x = ensures (task_on b.tree b.shape c.args.opened.geometry.log c.args.scripts c.args.options.now.mode) b.on in
    record { tree = b.tree; shape = b.shape; is_tree = b.is_tree; is_shape = b.is_shape; is_run = x })
    c.run_world.ensures.ran
