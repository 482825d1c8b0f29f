-- Words behind the extents are zero; one word more.
use Rattle.std.proofs.Common.{◌≡◌, ◌≢◌, ◌≤◌, ◌<◌, ◌+◌, ◌*◌, ◌-◌, ℕ, List, length, sym, ◌∙◌, arith, below_more, get_or-set_other, get_or-set_same}
use Rattle.std.proofs.lemmas.Bool.{ne_eqb}
use Rattle.std.proofs.lemmas.List.{get_or-replicate, length-set}
use Rattle.extent_map.specs.extent_model.declared.extent_words.Extent.{Extent}
use Rattle.volume_laws.specs.image_model.Chains.{chain_word}
use Rattle.volume_laws.specs.ChainLaws.{extent_word-past}
use Rattle.map_chain.proofs.words.line_words.Goals as goal

word-past : (next : ℕ) (es : List Extent) (j : ℕ) → 2 * length es + 2 ≤ j → chain_word next es j ≡ 0
unfolding chain_word
word-past next es j past = rw (ne_eqb j 0 (omega arith)) (rw (ne_eqb j 1 (omega arith)) (extent_word-past es (j - 2) (omega arith)))

pub returns-then-extents-line : goal.returns-then-extents-line
returns-then-extents-line c k below =
    get_or-replicate 8 k 0 0 below ∙ sym (word-past c.args.next c.args.extents.now (8 * c.args.line + k) (omega (arith, c.if-extents-line.true)))

pub loop-k-preserved : goal.loop-k-preserved
loop-k-preserved c =
    let words = c.loop-k.words in
    let n = c.loop-k.k in
    record {
      size = length-set words n c.chain_word.result ∙ c.loop-k.invariant.size;
      front = below_more _ _
          (λ j h. get_or-set_other words n j c.chain_word.result 0 (omega arith) ∙ c.loop-k.invariant.front j h)
          (get_or-set_same words n c.chain_word.result 0 (omega (arith, c.loop-k.invariant.size)) ∙ c.chain_word.ensures);
    }
