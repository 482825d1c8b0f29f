use Rattle.std.proofs.Common.{◌≡◌, ◌∙◌, ◌-◌, ◌%◌, List, ℕ, arith, subst}
use Rattle.std.specs.Prelude.{◌⊎◌}
use Rattle.std.proofs.lemmas.List.{take-replicate}
use Rattle.in_place.specs.Zeros.{staged_place}
use Rattle.live_step_laws.specs.k_split_laws.k_split.Bytes.{IsOverwriteCut, IsOverwriteDone, tail_zeros}
use Rattle.in_place.proofs.Writes.{lost_of, staged_zeros}
use Rattle.in_place.proofs.tails.gaps.gaps.zero_staged.Goals as goal

pub returns-in-Ok-clause-answer : goal.returns-in-Ok-clause-answer
returns-in-Ok-clause-answer c =
    let from = c.args.from in
    let bytes : c.front_of-some.result.now ≡ tail_zeros c.args.k.now.volume c.args.staging (staged_place c.args.block from) =
    c.front_of-some.ensures
    ∙ take-replicate (4096 - from % 4096) 4096 0 (omega arith)
    ∙ staged_zeros c.args.k.now.volume c.args.staging c.args.block from c.requires.may.0 c.requires.may.1.at
    in
    subst (λ (bs : List ℕ). IsOverwriteDone c.args.staging (staged_place c.args.block from) bs c.args.k.now c.write_staged.new.self) bytes c.in-Ok.ensures.answer

pub returns-in-Err-clause-answer : goal.returns-in-Err-clause-answer
returns-in-Err-clause-answer c =
    let from = c.args.from in
    let bytes : c.front_of-some.result.now ≡ tail_zeros c.args.k.now.volume c.args.staging (staged_place c.args.block from) =
    c.front_of-some.ensures
    ∙ take-replicate (4096 - from % 4096) 4096 0 (omega arith)
    ∙ staged_zeros c.args.k.now.volume c.args.staging c.args.block from c.requires.may.0 c.requires.may.1.at
    in
    subst (λ (bs : List ℕ). (c.write_staged.new.self.cells ≡ c.args.k.now.cells) ⊎ IsOverwriteCut c.args.staging (staged_place c.args.block from) bs c.args.k.now c.write_staged.new.self) bytes
    (lost_of c.args.staging (staged_place c.args.block from) c.front_of-some.result.now c.args.k.now c.write_staged.new.self c.in-Err.field-0 c.in-Err.ensures.answer)
