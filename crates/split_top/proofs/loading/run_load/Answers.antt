use Rattle.std.proofs.Common.{inl, refl, sym, subst}
use Rattle.command_line.specs.Command as commands
use Rattle.split_top.specs.Top.{IsLoaded}
use Rattle.split_top.proofs.Answered.{put-answer, starved-answer}
use Rattle.split_top.proofs.loading.run_load.Goals as goal

pub returns-in-Ok : goal.returns-in-Ok
returns-in-Ok g c =
    let loading : commands.Loading = record { calls = c.args.calls; threads = c.args.threads; mode = c.args.mode } in
    put-answer (commands.Load loading) _ _ _ _ _ _ _ c.deref.result.now
    (record { loaded = subst (IsLoaded loading) (sym c.deref.ensures.value) c.in-Ok.ensures; is_left = refl }) (inl refl) tt tt
    c.put_output.result c.put_output.ensures.kind c.put_output.ensures.done c.put_output.ensures.front c.put_output.ensures.failed

pub returns-in-Err : goal.returns-in-Err
returns-in-Err g c = starved-answer (commands.Load (record { calls = c.args.calls; threads = c.args.threads; mode = c.args.mode })) _ _ _ _ _ _ refl tt
