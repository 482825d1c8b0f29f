-- A line that the index gives is the lowest of its word from the last one on, and what it passes has another word.
use Rattle.std.proofs.Common.{◌≡◌, ◌∙◌, ap, arith, false, sym, true}
use Rattle.std.proofs.lemmas.List.{get_or_read}
use Rattle.std.specs.Prelude.{None, Some}
use Rattle.layout_model.specs.Names.{is_child, parent_of_row, row}
use Rattle.k_names.specs.Indexes.{child_word_of}
use Rattle.k_names.proofs.IndexLaws.{child-marks, next-within, no-parent, parent-found, passed-all, passed-before, passed-it}
use Rattle.k_names.proofs.rows.parent_of.Goals as goal

pub bounds-rows-line : goal.bounds-rows-line
bounds-rows-line c =
    let rows = c.args.rows.now in
    let by = c.args.by_child.now in
    let from = c.loop-line.from in
    let line = c.in-Some.line in
    let next = c.in-Some.ensures.some in
    next-within child_word_of rows by c.requires.size c.requires.index c.args.ino from line next

pub overflow_add-from : goal.overflow_add-from
overflow_add-from c =
    let rows = c.args.rows.now in
    let by = c.args.by_child.now in
    let from = c.loop-line.from in
    let line = c.in-Some.line in
    let next = c.in-Some.ensures.some in
    let within = next-within child_word_of rows by c.requires.size c.requires.index c.args.ino from line next in
    omega (arith, within, c.requires.size)

pub loop-line-smaller : goal.loop-line-smaller
loop-line-smaller c =
    let rows = c.args.rows.now in
    let by = c.args.by_child.now in
    let from = c.loop-line.from in
    let line = c.in-Some.line in
    let next = c.in-Some.ensures.some in
    let within = next-within child_word_of rows by c.requires.size c.requires.index c.args.ino from line next in
    omega (arith, within, next.from_on, c.loop-line.invariant.within)

pub loop-line-preserved : goal.loop-line-preserved
loop-line-preserved c =
    let rows = c.args.rows.now in
    let by = c.args.by_child.now in
    let from = c.loop-line.from in
    let line = c.in-Some.line in
    let next = c.in-Some.ensures.some in
    let within = next-within child_word_of rows by c.requires.size c.requires.index c.args.ino from line next in
    let item = c.index-rows-line.result in
    let is : row rows line ≡ item = sym (get_or_read rows line item within c.index-rows-line.is None) in
    let fails : is_child c.args.ino (row rows line) ≡ false = ap (is_child c.args.ino) is ∙ sym c.is_child.ensures ∙ c.if-is_child.false in
    record {
      within = omega (arith, within);
      passed = passed-it child_word_of rows by c.requires.size c.requires.index (is_child c.args.ino) c.args.ino (child-marks c.args.ino) from line next c.loop-line.invariant.passed fails;
    }

pub returns-then-is_child : goal.returns-then-is_child
returns-then-is_child c =
    let rows = c.args.rows.now in
    let by = c.args.by_child.now in
    let from = c.loop-line.from in
    let line = c.in-Some.line in
    let next = c.in-Some.ensures.some in
    let within = next-within child_word_of rows by c.requires.size c.requires.index c.args.ino from line next in
    let item = c.index-rows-line.result in
    let is : row rows line ≡ item = sym (get_or_read rows line item within c.index-rows-line.is None) in
    let passes : is_child c.args.ino (row rows line) ≡ true = ap (is_child c.args.ino) is ∙ sym c.is_child.ensures ∙ c.if-is_child.true in
    let before = passed-before child_word_of rows by c.requires.size c.requires.index (is_child c.args.ino) c.args.ino (child-marks c.args.ino) from line next c.loop-line.invariant.passed in
    let parent = c.parent_in.ensures ∙ ap parent_of_row (sym is) in
    ap (λ p. Some p) parent ∙ sym (parent-found rows c.args.ino line within passes before)

pub returns : goal.returns
returns c =
    let rows = c.args.rows.now in
    let by = c.args.by_child.now in
    let from = c.loop-line.from in
    let none = c.in_default.ensures.none in
    let all = passed-all child_word_of rows by c.requires.size c.requires.index (is_child c.args.ino) c.args.ino (child-marks c.args.ino) from none c.loop-line.invariant.passed in
    sym (no-parent rows c.args.ino all)
