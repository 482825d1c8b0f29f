use Rattle.std.proofs.Common.{◌≡◌, ℕ, List, Err, inl, sym, ◌∙◌, ap, subst}
use Rattle.command_line.specs.Command as commands
use Rattle.command_line.specs.Seen.{seen_image, seen_options}
use Rattle.command_line.specs.declared.statuses.statuses.Status.{Status}
use Rattle.outside.specs.Outside.{Rose}
use Rattle.split_top.proofs.Answered.{answer-later, rose-later, unread-answer}
use Rattle.split_top.proofs.Shown.{unopened-answer}
use Rattle.split_top.proofs.Stepped.{unopened-step, unread-image}
use Rattle.split_top.specs.Images.{AreOfImage}
use Rattle.split_top.specs.Jobs.{IsAnswer}
use Rattle.split_top.proofs.threads.run_threads.Goals as goal

pub returns-in-Err : goal.returns-in-Err
returns-in-Err g c =
    let told = g.F.Files.told c.args.files.now in
    let run : commands.Run = record { image = seen_image c.args.named.now.image.now; script = c.args.named.now.script.now; options = seen_options c.args.named.now.options.now } in
    let missing = λ (name : List ℕ) (e : c.in-Err.status ≡ Status.NoSuchFile name). c.read_image.ensures.missing name (c.in-Err.is ∙ ap (λ (s : Status). Err s) e) in
    let failed = λ (e : c.in-Err.status ≡ Status.ReadFault). c.read_image.ensures.failed (c.in-Err.is ∙ ap (λ (s : Status). Err s) e) in
    unread-answer (commands.Step run) told _ _ _ _ _ c.read_image.ensures.told c.in-Err.status c.in-Err.ensures.kind
    (λ name e. (inl (record { is_named = (missing name e).0; is_absent = (missing name e).1 }), (missing name e).2))
    (λ e. (inl (failed e).0, (failed e).1))
    (λ none. unread-image run told _ c.in-Err.status c.in-Err.ensures.kind (λ name e. ((missing name e).0, (missing name e).1)) (λ e. (failed e).1) none)

pub returns-in-Ok-open_image : goal.returns-in-Ok-open_image
returns-in-Ok-open_image g c =
    let told = g.F.Files.told in
    let image = seen_image c.args.named.now.image.now in
    let run : commands.Run = record { image = image; script = c.args.named.now.script.now; options = seen_options c.args.named.now.options.now } in
    let bytes = c.in-Ok.bytes.items in
    let later = c.run_on.ensures image bytes (subst (λ f. AreOfImage f image bytes) (sym c.read_image.ensures.told) c.in-Ok.ensures.bytes) c.in-Ok-open_image.ensures.opened.device in
    answer-later (commands.Step run) (told c.args.files.now) _ _ _ _ _ _ _ _ c.run_on.result (rose-later _ _ _ c.read_image.ensures.misses) (rose-later _ _ _ c.read_image.ensures.faults)
    (subst (λ f. IsAnswer (commands.Step run) f (told c.run_on.new.files) (g.K.Sink.told c.args.out.now) (g.K.Sink.told c.run_on.new.out) (Rose (g.F.Files.misses c.read_image.new.files) (g.F.Files.misses c.run_on.new.files)) (Rose (g.F.Files.faults c.read_image.new.files) (g.F.Files.faults c.run_on.new.files)) (Rose (g.K.Sink.faults c.args.out.now) (g.K.Sink.faults c.run_on.new.out)) c.run_on.result) c.read_image.ensures.told later)

pub returns-in-Err-open_image : goal.returns-in-Err-open_image
returns-in-Err-open_image g c =
    let told = g.F.Files.told c.args.files.now in
    let image = seen_image c.args.named.now.image.now in
    let run : commands.Run = record { image = image; script = c.args.named.now.script.now; options = seen_options c.args.named.now.options.now } in
    let bytes = c.in-Ok.bytes.items in
    let are = c.in-Ok.ensures.bytes in
    unopened-answer (commands.Step run) image told _ _ _ _ _ bytes are c.read_image.ensures.told (λ rule place bad. bad) c.in-Err-open_image.status c.in-Err-open_image.ensures.kind
    (unopened-step run told bytes are c.in-Err-open_image.status c.in-Err-open_image.ensures.kind)
