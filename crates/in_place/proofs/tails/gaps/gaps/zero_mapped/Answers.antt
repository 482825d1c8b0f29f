use Rattle.std.proofs.Common.{◌≡◌, ◌∙◌, ◌/◌, List, ℕ, ap, arith, subst}
use Rattle.std.specs.Prelude.{◌⊎◌}
use Rattle.std.proofs.lemmas.List.{take-replicate}
use Rattle.live_step_laws.specs.k_split_laws.extent_model.Extents.{disk_at}
use Rattle.live_step_laws.specs.k_split_laws.k_split.Bytes.{IsOverwriteCut, IsOverwriteDone, tail_zeros, zeros_behind}
use Rattle.in_place.proofs.Writes.{lost_of}
use Rattle.in_place.proofs.tails.gaps.gaps.zero_mapped.Goals as goal

pub returns-in-Ok-clause-answer : goal.returns-in-Ok-clause-answer
returns-in-Ok-clause-answer c =
    let from = c.args.from in
    let bytes : c.front_of.result.now ≡ tail_zeros c.args.k.now.volume c.args.ino from =
    c.front_of.ensures
    ∙ take-replicate c.rest_length-count.result 4096 0 (omega (arith, c.rest_length-count.ensures.in_block))
    ∙ c.rest_length-count.ensures.zeros
    ∙ ap (λ es. zeros_behind (disk_at es (from / 4096)) from) c.in-Some.ensures.map
    in
    subst (λ (bs : List ℕ). IsOverwriteDone c.args.ino from bs c.args.k.now c.write_in_place.new.self) bytes c.in-Ok.ensures.answer

pub returns-in-Err-clause-answer : goal.returns-in-Err-clause-answer
returns-in-Err-clause-answer c =
    let from = c.args.from in
    let bytes : c.front_of.result.now ≡ tail_zeros c.args.k.now.volume c.args.ino from =
    c.front_of.ensures
    ∙ take-replicate c.rest_length-count.result 4096 0 (omega (arith, c.rest_length-count.ensures.in_block))
    ∙ c.rest_length-count.ensures.zeros
    ∙ ap (λ es. zeros_behind (disk_at es (from / 4096)) from) c.in-Some.ensures.map
    in
    subst (λ (bs : List ℕ). (c.write_in_place.new.self.cells ≡ c.args.k.now.cells) ⊎ IsOverwriteCut c.args.ino from bs c.args.k.now c.write_in_place.new.self) bytes
    (lost_of c.args.ino from c.front_of.result.now c.args.k.now c.write_in_place.new.self c.in-Err.field-0 c.in-Err.ensures.answer)
