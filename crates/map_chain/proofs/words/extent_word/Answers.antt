use Rattle.std.proofs.Common.{sym, ◌∙◌, arith}
use Rattle.volume_laws.specs.ChainLaws.{extent_word-even, extent_word-odd, extent_word-past}
use Rattle.map_chain.proofs.words.extent_word.Goals as goal

pub returns-then-k-extents : goal.returns-then-k-extents
returns-then-k-extents c = sym (extent_word-past c.args.extents.now c.args.j (omega arith))

pub returns-then-j-eq0 : goal.returns-then-j-eq0
returns-then-j-eq0 c = c.word_of_halves.ensures ∙ sym (extent_word-even c.args.extents.now c.args.j c.if-j-eq0.true)

pub returns-else-j-eq0 : goal.returns-else-j-eq0
returns-else-j-eq0 c = c.from.ensures ∙ sym (extent_word-odd c.args.extents.now c.args.j c.if-j-eq0.false)
