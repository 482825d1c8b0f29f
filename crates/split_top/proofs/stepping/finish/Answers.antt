use Rattle.std.proofs.Common.{◌≡◌, Err, sym, ap, subst}
use Rattle.std.specs.Prelude.{IsSome}
use Rattle.command_line.specs.Command as commands
use Rattle.command_line.specs.declared.statuses.statuses.Status.{Status}
use Rattle.split_top.specs.Top.{IsStepped, Keeps}
use Rattle.split_top.proofs.Answered.{put-answer}
use Rattle.split_top.proofs.Stepped.{keeps-or, starved-step, unkept-answer}
use Rattle.split_top.proofs.stepping.finish.Goals as goal

pub returns-in-Ok : goal.returns-in-Ok
returns-in-Ok g c run options stepped done_is =
    let told = g.F.Files.told c.args.files.now in
    let was = c.in-Ok.ensures.kept in
    let image = was.kept in
    let kept : Keeps run.options.keep image told (g.F.Files.told c.keep_image.new.files) =
    subst (λ (o : commands.Options). Keeps o.keep image told (g.F.Files.told c.keep_image.new.files)) (sym options) was.keeps in
    let does : IsStepped told run c.deref.result.now image = subst (λ output. IsStepped told run output image) (sym c.deref.ensures.value) (stepped image was.is_image) in
    put-answer (commands.Step run) told _ _ _ _ _ _ c.deref.result.now
    (record { kept = image; stepped = does; is_left = kept })
    (keeps-or run told _ c.deref.result.now image does kept)
    done_is (starved-step run told)
    c.put_output.result c.put_output.ensures.kind c.put_output.ensures.done c.put_output.ensures.front c.put_output.ensures.failed

pub returns-in-Err : goal.returns-in-Err
returns-in-Err g c run options stepped done_is =
    let told = g.F.Files.told c.args.files.now in
    let failed = λ (e : c.in-Err.status ≡ Status.WriteFault). c.in-Err.ensures.failed (ap (λ (s : Status). Err s) e) in
    unkept-answer run told _ _ _ _ _ c.in-Err.ensures.refused c.in-Err.status c.in-Err.ensures.kind
    (λ e. (subst (λ (o : commands.Options). IsSome o.keep) (sym options) (failed e).0, (failed e).1))
