use Rattle.std.proofs.Common.{◌≡◌, ℕ, List, Err, sym, ◌∙◌, ap, subst, inl}
use Rattle.command_line.specs.Command as commands
use Rattle.command_line.specs.Seen.{seen_image}
use Rattle.command_line.specs.declared.statuses.statuses.Status.{Status}
use Rattle.split_top.proofs.Answered.{put-answer, unread-answer}
use Rattle.split_top.proofs.Shown.{given-opens, tree-unread, unopened-answer, verdict-given}
use Rattle.split_top.specs.Images.{IsTreeText}
use Rattle.split_top.proofs.showing.show.Goals as goal

pub returns-in-Err : goal.returns-in-Err
returns-in-Err g c =
    let told = g.F.Files.told c.args.files.now in
    let image = seen_image c.args.image.now in
    let missing = λ (name : List ℕ) (e : c.in-Err.status ≡ Status.NoSuchFile name). c.read_image.ensures.missing name (c.in-Err.is ∙ ap (λ (s : Status). Err s) e) in
    let failed = λ (e : c.in-Err.status ≡ Status.ReadFault). c.read_image.ensures.failed (c.in-Err.is ∙ ap (λ (s : Status). Err s) e) in
    unread-answer (commands.Tree image) told _ _ _ _ _ c.read_image.ensures.told c.in-Err.status c.in-Err.ensures.kind
    (λ name e. (record { is_named = (missing name e).0; is_absent = (missing name e).1 }, (missing name e).2))
    failed
    (λ none. tree-unread told image _ c.in-Err.status c.in-Err.ensures.kind (λ name e. ((missing name e).0, (missing name e).1)) (λ e. (failed e).1) none)

pub returns-in-Ok-tree_of : goal.returns-in-Ok-tree_of
returns-in-Ok-tree_of g c =
    let told = g.F.Files.told c.args.files.now in
    let image = seen_image c.args.image.now in
    let bytes = c.in-Ok.bytes.items in
    let are = c.in-Ok.ensures.bytes in
    let text : IsTreeText bytes c.deref.result.now = subst (IsTreeText bytes) (sym c.deref.ensures.value) c.in-Ok-tree_of.ensures.output in
    put-answer (commands.Tree image) told _ _ _ _ _ _ c.deref.result.now
    (record { bytes = bytes; is_read = are; is_tree = text; is_left = c.read_image.ensures.told }) (inl c.read_image.ensures.told)
    (λ given_bytes given. given-opens told image bytes given_bytes are given text.shows.can_open) (λ given_bytes given. tt)
    c.put_output.result c.put_output.ensures.kind c.put_output.ensures.done c.put_output.ensures.front c.put_output.ensures.failed

pub returns-in-Err-tree_of : goal.returns-in-Err-tree_of
returns-in-Err-tree_of g c =
    let told = g.F.Files.told c.args.files.now in
    let image = seen_image c.args.image.now in
    let bytes = c.in-Ok.bytes.items in
    let are = c.in-Ok.ensures.bytes in
    unopened-answer (commands.Tree image) image told _ _ _ _ _ bytes are c.read_image.ensures.told (λ rule place bad. bad) c.in-Err-tree_of.status c.in-Err-tree_of.ensures.kind
    (λ given_bytes given. verdict-given told image bytes given_bytes are given c.in-Err-tree_of.status c.in-Err-tree_of.ensures.kind)
