use Rattle.std.proofs.Common.{◌≡◌, ◌∙◌, ◌/◌, ap, arith, subst}
use Rattle.std.proofs.lemmas.List.{take-replicate}
use Rattle.block_io.specs.extent_model.Extents.{disk_at}
use Rattle.k_tables.specs.k_split_model.View.{View}
use Rattle.k_split.specs.Bytes.{IsOverwriteAnswer, tail_zeros, zeros_behind}
use Rattle.k_split.proofs.state.KSplit.clean_tail.Goals as goal

pub returns-clause-answer : goal.returns-clause-answer
returns-clause-answer c =
    let k = c.self.inside in
    let from = c.args.from in
    let count = c.tail_length-count.result in
    let bytes : c.front_of-some.result.now ≡ tail_zeros k.tables.volume c.args.ino from =
    c.front_of-some.ensures
    ∙ take-replicate count 4096 0 (omega (arith, c.tail_length-count.ensures.in_block))
    ∙ c.tail_length-count.ensures.zeros
    ∙ ap (λ es. zeros_behind (disk_at es (from / 4096)) from) c.in-Some.ensures.map
    in
    subst (λ bs. IsOverwriteAnswer c.args.ino from bs c.args.self.now c.write_in_place.new.self c.write_in_place.result)
    (bytes ∙ ap (λ (x : View). tail_zeros x.volume c.args.ino from) c.self.view_is) c.write_in_place.ensures.answer
