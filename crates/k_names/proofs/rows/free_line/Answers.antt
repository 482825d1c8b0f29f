-- A line that the index gives is the lowest of its word from the last one on, and what it passes has another word.
use Rattle.std.proofs.Common.{◌≡◌, ◌∙◌, ap, arith, false, sym, true}
use Rattle.std.proofs.lemmas.List.{get_or_read}
use Rattle.std.specs.Prelude.{None}
use Rattle.layout_model.specs.Names.{is_free_row, row}
use Rattle.k_names.specs.Indexes.{child_word_of, no_word}
use Rattle.k_names.proofs.IndexLaws.{free-found, free-marks, next-within, no-free, passed-all, passed-before, passed-it}
use Rattle.k_names.proofs.rows.free_line.Goals as goal

pub bounds-rows-line : goal.bounds-rows-line
bounds-rows-line c =
    let rows = c.args.rows.now in
    let by = c.args.by_child.now in
    let from = c.loop-line.from in
    let line = c.in-Some.line in
    let next = c.in-Some.ensures.some in
    next-within child_word_of rows by c.requires.size c.requires.index no_word from line next

pub overflow_add-from : goal.overflow_add-from
overflow_add-from c =
    let rows = c.args.rows.now in
    let by = c.args.by_child.now in
    let from = c.loop-line.from in
    let line = c.in-Some.line in
    let next = c.in-Some.ensures.some in
    let within = next-within child_word_of rows by c.requires.size c.requires.index no_word from line next in
    omega (arith, within, c.requires.size)

pub loop-line-smaller : goal.loop-line-smaller
loop-line-smaller c =
    let rows = c.args.rows.now in
    let by = c.args.by_child.now in
    let from = c.loop-line.from in
    let line = c.in-Some.line in
    let next = c.in-Some.ensures.some in
    let within = next-within child_word_of rows by c.requires.size c.requires.index no_word from line next in
    omega (arith, within, next.from_on, c.loop-line.invariant.within)

pub loop-line-preserved : goal.loop-line-preserved
loop-line-preserved c =
    let rows = c.args.rows.now in
    let by = c.args.by_child.now in
    let from = c.loop-line.from in
    let line = c.in-Some.line in
    let next = c.in-Some.ensures.some in
    let within = next-within child_word_of rows by c.requires.size c.requires.index no_word from line next in
    let item = c.index-rows-line.result in
    let is : row rows line ≡ item = sym (get_or_read rows line item within c.index-rows-line.is None) in
    let fails : is_free_row (row rows line) ≡ false = ap (is_free_row) is ∙ sym c.is_free.ensures ∙ c.if-is_free.false in
    record {
      within = omega (arith, within);
      passed = passed-it child_word_of rows by c.requires.size c.requires.index (is_free_row) no_word (free-marks) from line next c.loop-line.invariant.passed fails;
    }

pub returns-then-is_free-clause-lowest : goal.returns-then-is_free-clause-lowest
returns-then-is_free-clause-lowest c =
    let rows = c.args.rows.now in
    let by = c.args.by_child.now in
    let from = c.loop-line.from in
    let line = c.in-Some.line in
    let next = c.in-Some.ensures.some in
    let within = next-within child_word_of rows by c.requires.size c.requires.index no_word from line next in
    let item = c.index-rows-line.result in
    let is : row rows line ≡ item = sym (get_or_read rows line item within c.index-rows-line.is None) in
    let passes : is_free_row (row rows line) ≡ true = ap (is_free_row) is ∙ sym c.is_free.ensures ∙ c.if-is_free.true in
    let before = passed-before child_word_of rows by c.requires.size c.requires.index (is_free_row) no_word (free-marks) from line next c.loop-line.invariant.passed in
    sym (free-found rows line within passes before)

pub returns-then-is_free-clause-within : goal.returns-then-is_free-clause-within
returns-then-is_free-clause-within c =
    let rows = c.args.rows.now in
    let by = c.args.by_child.now in
    let from = c.loop-line.from in
    let line = c.in-Some.line in
    let next = c.in-Some.ensures.some in
    let within = next-within child_word_of rows by c.requires.size c.requires.index no_word from line next in
    let item = c.index-rows-line.result in
    let is : row rows line ≡ item = sym (get_or_read rows line item within c.index-rows-line.is None) in
    let passes : is_free_row (row rows line) ≡ true = ap (is_free_row) is ∙ sym c.is_free.ensures ∙ c.if-is_free.true in
    let before = passed-before child_word_of rows by c.requires.size c.requires.index (is_free_row) no_word (free-marks) from line next c.loop-line.invariant.passed in
    within

pub returns-clause-lowest : goal.returns-clause-lowest
returns-clause-lowest c =
    let rows = c.args.rows.now in
    let by = c.args.by_child.now in
    let from = c.loop-line.from in
    let none = c.in_default.ensures.none in
    let all = passed-all child_word_of rows by c.requires.size c.requires.index (is_free_row) no_word (free-marks) from none c.loop-line.invariant.passed in
    sym (no-free rows all)
