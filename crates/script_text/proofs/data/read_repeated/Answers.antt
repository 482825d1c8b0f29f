use Rattle.std.proofs.Common.{◌≤◌, ◌∙◌, ℕ, ap, arith, length, replicate, Some}
use Rattle.script_text.specs.Words.{number_in, repeated_in}
use Rattle.script_text.proofs.Pairs.{repeat_long, repeated-some}
use Rattle.script_text.proofs.data.read_repeated.Goals as goal

pub returns : goal.returns
returns c =
    let long : 3 ≤ length c.args.word.now = repeat_long c.args.word.now c.requires in
    let items = c.in_ok-bytes.ensures.items_if_clones_equal (λ y e. e) in
    ap Some (c.in_ok-of.ensures ∙ items ∙ ap (λ (b : ℕ). replicate c.in-Some.count b) c.hex_byte-byte.ensures)
    ∙ repeated-some c.args.word.now c.in-Some.count (omega arith) (omega arith) (omega arith)
    ∙ ap (repeated_in c.args.word.now) (c.in-Some.ensures.value ∙ ap number_in c.behind.ensures)
