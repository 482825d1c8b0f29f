use Rattle.std.proofs.Common.{◌≡◌, ◌+◌, ◌-◌, ◌<◌, arith, subst, drop, ap, ◌∙◌, length}
use Rattle.std.proofs.lemmas.List.{length-set}
use Rattle.k_reading.specs.layout_model.Lines.{NameRow}
use Rattle.check_image.specs.Above.{IsAbove}
use Rattle.check_image.proofs.NameFacts.{above-free, above-line, row-read, child-read}
use Rattle.check_image.proofs.names.parents_above.Goals as goal

pub loop-line-preserved-in-Some : goal.loop-line-preserved-in-Some
loop-line-preserved-in-Some c =
    let k = c.loop-line.line - 1 in
    let rows = c.args.names.now in
    let next : c.loop-line.line ≡ k + 1 = omega arith in
    let within : k < length rows = omega (arith, c.loop-line.invariant.0) in
    let before = subst (λ n. IsAbove (drop n rows) c.loop-line.above.items) next c.loop-line.invariant.2 in
    let read = row-read rows k c.index-names-line.result within c.index-names-line.is ∙ c.in-Some.is in
    let inside : c.in-Some.name.child < length c.loop-line.above.items =
    omega (arith, child-read rows c.args.inodes k c.in-Some.name c.requires read, c.loop-line.invariant.1)
    in (
      omega arith,
      length-set c.loop-line.above.items c.name.inside.child _ ∙ c.loop-line.invariant.1,
      above-line rows c.loop-line.above.items k c.name.inside.child c.name.inside.parent c.in-Some.name within read
          (ap (λ (r : NameRow). r.child) c.name.view_is) (ap (λ (r : NameRow). r.parent) c.name.view_is) inside before,
    )

pub loop-line-preserved : goal.loop-line-preserved
loop-line-preserved c =
    let k = c.loop-line.line - 1 in
    let rows = c.args.names.now in
    let next : c.loop-line.line ≡ k + 1 = omega arith in
    let within : k < length rows = omega (arith, c.loop-line.invariant.0) in
    let before = subst (λ n. IsAbove (drop n rows) c.loop-line.above.items) next c.loop-line.invariant.2 in
    let read = row-read rows k c.index-names-line.result within c.index-names-line.is ∙ c.in_default.is in
    (omega arith, c.loop-line.invariant.1, above-free rows c.loop-line.above.items k within read before)
