use Rattle.std.proofs.Common.{◌≡◌, ℕ, List, Err, sym, ◌∙◌, ap, subst, inr, refl}
use Rattle.command_line.specs.Command as commands
use Rattle.command_line.specs.Seen.{seen_options}
use Rattle.command_line.specs.declared.statuses.statuses.Status.{Status}
use Rattle.outside.specs.Outside.{AreOfFile, IsAbsent, Rose}
use Rattle.split_top.proofs.Answered.{answer-later, rose-later, unread-answer}
use Rattle.split_top.proofs.Opened.{can-open, same-numbers}
use Rattle.split_top.proofs.Stepped.{ran-step, unread-script, unrun-answer}
use Rattle.split_top.specs.Devices.{IsDeviceOf}
use Rattle.split_top.specs.Jobs.{IsAnswer}
use Rattle.split_top.specs.Top.{CompletesStep, IsScriptRunOn, IsStepped, OpensImage}
use Rattle.split_top.proofs.threads.run_on.Goals as goal

pub returns-in-Err : goal.returns-in-Err
returns-in-Err g c named image are device =
    let told = g.F.Files.told c.args.files.now in
    let run : commands.Run = record { image = named; script = c.args.named.now.script.now; options = seen_options c.args.named.now.options.now } in
    let missing = λ (name : List ℕ) (e : c.in-Err.status ≡ Status.NoSuchFile name). c.read_file.ensures.missing name (c.in-Err.is ∙ ap (λ (s : Status). Err s) e) in
    let opens : OpensImage run told = record { image = image; is_image = are; can_open = can-open image c.args.opened.pm device c.requires.mounts.checked } in
    let failed = λ (e : c.in-Err.status ≡ Status.ReadFault). c.read_file.ensures.failed (c.in-Err.is ∙ ap (λ (s : Status). Err s) e) in
    unread-answer (commands.Step run) told _ _ _ _ _ c.read_file.ensures.told c.in-Err.status c.in-Err.ensures.kind
    (λ name e. (inr (record { opens = opens; is_named = sym (missing name e).0; is_absent = subst (IsAbsent told) (sym (missing name e).0) (missing name e).1 }), (missing name e).2))
    (λ e. (inr opens, failed e))
    (λ none. unread-script run told image are (can-open image c.args.opened.pm device c.requires.mounts.checked) _ c.in-Err.status c.in-Err.ensures.kind (λ name e. (missing name e).1) failed none)

pub returns-in-Ok-run_script : goal.returns-in-Ok-run_script
returns-in-Ok-run_script g c named image are device =
    let told = g.F.Files.told in
    let run : commands.Run = record { image = named; script = c.args.named.now.script.now; options = seen_options c.args.named.now.options.now } in
    let script : AreOfFile (told c.args.files.now) c.args.named.now.script.now c.deref.result.now = subst (AreOfFile (told c.args.files.now) c.args.named.now.script.now) (sym c.deref.ensures.value) c.in-Ok.ensures.bytes in
    let o = c.in-Ok-run_script.outcome in
    let ran = c.in-Ok-run_script.ensures in
    let stepped = λ (kept : List ℕ) (is : IsDeviceOf kept o.pm).
    let on = subst (λ h. IsScriptRunOn image h c.deref.result.now run.options o.output.items kept) (same-numbers image c.args.opened.pm device c.args.opened.geometry c.requires.mounts.numbers) (ran.outcome image device kept is) in
    let r : IsStepped (told c.args.files.now) run o.output.items kept = record { image = image; is_image = are; script = c.deref.result.now; is_read = script; is_run = on } in r in
    let done_is = ran-step run (told c.args.files.now) image are (can-open image c.args.opened.pm device c.requires.mounts.checked) c.deref.result.now script ran.script in
    let later = c.finish.ensures run refl
    (λ kept is. subst (λ f. IsStepped f run o.output.items kept) (sym c.read_file.ensures.told) (stepped kept is))
    (subst (λ f. CompletesStep run f Status.Done) (sym c.read_file.ensures.told) done_is) in
    answer-later (commands.Step run) (told c.args.files.now) _ _ _ _ _ _ _ _ c.finish.result (rose-later _ _ _ c.read_file.ensures.misses) (rose-later _ _ _ c.read_file.ensures.faults)
    (subst (λ f. IsAnswer (commands.Step run) f (told c.finish.new.files) (g.K.Sink.told c.args.out.now) (g.K.Sink.told c.finish.new.out) (Rose (g.F.Files.misses c.read_file.new.files) (g.F.Files.misses c.finish.new.files)) (Rose (g.F.Files.faults c.read_file.new.files) (g.F.Files.faults c.finish.new.files)) (Rose (g.K.Sink.faults c.args.out.now) (g.K.Sink.faults c.finish.new.out)) c.finish.result) c.read_file.ensures.told later)

pub returns : goal.returns
returns g c named image are device =
    let told = g.F.Files.told c.args.files.now in
    let run : commands.Run = record { image = named; script = c.args.named.now.script.now; options = seen_options c.args.named.now.options.now } in
    let script : AreOfFile told c.args.named.now.script.now c.deref.result.now = subst (AreOfFile told c.args.named.now.script.now) (sym c.deref.ensures.value) c.in-Ok.ensures.bytes in
    unrun-answer run told image are (can-open image c.args.opened.pm device c.requires.mounts.checked) _ _ _ _ _ c.deref.result.now script c.read_file.ensures.told c.in-Err-run_script.status c.in-Err-run_script.ensures.kind
