use Rattle.std.proofs.Common.{◌-◌, get_or, refl, sym, ◌∙◌, subst, arith}
use Rattle.std.proofs.lemmas.Bool.{iff_false}
use Rattle.std.proofs.lemmas.List.{get_or_default}
use Rattle.extent_model.specs.declared.extent_words.Extent.{Extent}
use Rattle.extent_model.specs.Extents.{Continues}
use Rattle.extent_map.proofs.Grown.{appends_push, appends_merged}
use Rattle.extent_map.proofs.pieces.append.Goals as goal
use Rattle.extent_map.proofs.pieces.append.Goals.{else-count-gt0-via-then-count-gt0+else-is_continued, else-count-gt0-via-else-count-gt0}

-- the last extent is made longer
pub returns-then-is_continued : goal.returns-then-is_continued
returns-then-is_continued c =
    let es = c.args.extents.now.items in
    let n = c.len-count.result - 1 in
    let read = c.index.ensures ∙ get_or_default es n _ c.index_mut.result.now (omega arith) ∙ sym c.index_mut.ensures.value in
    appends_merged es n c.index_mut.result.now c.args.next (omega arith) (sym c.index_mut.ensures.value) c.requires.canonical c.requires.extent c.requires.behind
    (subst (λ (e : Extent). Continues e c.args.next) read (c.if-is_continued.ensures.0 refl))

-- the extent is added behind the last, if there is one
pub returns : goal.returns
returns c =
    let es = c.args.extents.now.items in
    rw c.in_ok-push.ensures.items (appends_push es c.args.next c.requires.canonical c.requires.extent c.requires.behind
    (λ k d last joined. elim c.else-count-gt0.branch [
      | else-count-gt0-via-then-count-gt0+else-is_continued w ↦
          let n = c.len-count.result - 1 in
          let here = subst (λ i. Continues (get_or es i d) c.args.next) {y = n} (omega arith) joined in
          let read = get_or_default es n d w.index.result.now (omega arith) ∙ sym w.index.ensures in
          iff_false w.is_continued.ensures w.if-is_continued.false (subst (λ (e : Extent). Continues e c.args.next) read here)
      | else-count-gt0-via-else-count-gt0 w ↦ omega arith
    ]))
