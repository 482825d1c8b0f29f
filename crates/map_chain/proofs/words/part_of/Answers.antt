use Rattle.std.proofs.Common.{◌≡◌, ◌-◌, ◌*◌, length, take, drop, min, ◌∙◌, ap, arith}
use Rattle.std.proofs.lemmas.List.{take_min, length-drop}
use Rattle.map_chain.proofs.words.part_of.Goals as goal

pub returns-clause-part : goal.returns-clause-part
returns-clause-part c =
    let rest = drop (255 * c.args.k) c.args.extents.now in
    let few : c.min-to.result - 255 * c.args.k ≡ min 255 (length rest) = omega (arith, length-drop (255 * c.args.k) c.args.extents.now, c.min-to.ensures) in
    ap (λ n. take n rest) few ∙ take_min 255 rest
