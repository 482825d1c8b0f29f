-- A line that the index gives is the lowest of its word from the last one on, and what it passes has another word.
use Rattle.std.proofs.Common.{◌≡◌, ◌∙◌, ap, arith, false, sym, true, subst}
use Rattle.std.proofs.lemmas.List.{get_or_read}
use Rattle.std.specs.Prelude.{None, Some}
use Rattle.layout_model.specs.Names.{child_of_row, is_entry, row}
use Rattle.layout_model.specs.TableLaws.{find_name-none}
use Rattle.k_names.specs.Finding.{IsRow}
use Rattle.k_names.specs.Indexes.{HasNoLine, IsNextLine, name_word, name_word_of}
use Rattle.k_names.proofs.IndexLaws.{entry-marks, name-found, name-row, next-within, no-name, passed-all, passed-before, passed-it}
use Rattle.k_names.proofs.rows.find_name.Goals as goal

pub bounds-rows-line : goal.bounds-rows-line
bounds-rows-line c =
    let rows = c.args.rows.now in
    let by = c.args.by_name.now in
    let from = c.loop-line.from in
    let w = name_word c.args.parent c.args.name.now in
    let line = c.in-Some.line in
    let next = subst (λ v. IsNextLine by v from line) c.name_word-word.ensures c.in-Some.ensures.some in
    next-within name_word_of rows by c.requires.size c.requires.index w from line next

pub overflow_add-from : goal.overflow_add-from
overflow_add-from c =
    let rows = c.args.rows.now in
    let by = c.args.by_name.now in
    let from = c.loop-line.from in
    let w = name_word c.args.parent c.args.name.now in
    let line = c.in-Some.line in
    let next = subst (λ v. IsNextLine by v from line) c.name_word-word.ensures c.in-Some.ensures.some in
    let within = next-within name_word_of rows by c.requires.size c.requires.index w from line next in
    omega (arith, within, c.requires.size)

pub loop-line-smaller : goal.loop-line-smaller
loop-line-smaller c =
    let rows = c.args.rows.now in
    let by = c.args.by_name.now in
    let from = c.loop-line.from in
    let w = name_word c.args.parent c.args.name.now in
    let line = c.in-Some.line in
    let next = subst (λ v. IsNextLine by v from line) c.name_word-word.ensures c.in-Some.ensures.some in
    let within = next-within name_word_of rows by c.requires.size c.requires.index w from line next in
    omega (arith, within, next.from_on, c.loop-line.invariant.within)

pub loop-line-preserved : goal.loop-line-preserved
loop-line-preserved c =
    let rows = c.args.rows.now in
    let by = c.args.by_name.now in
    let from = c.loop-line.from in
    let w = name_word c.args.parent c.args.name.now in
    let line = c.in-Some.line in
    let next = subst (λ v. IsNextLine by v from line) c.name_word-word.ensures c.in-Some.ensures.some in
    let within = next-within name_word_of rows by c.requires.size c.requires.index w from line next in
    let item = c.index-rows-line.result in
    let is : row rows line ≡ item = sym (get_or_read rows line item within c.index-rows-line.is None) in
    let fails : is_entry c.args.parent c.args.name.now (row rows line) ≡ false = ap (is_entry c.args.parent c.args.name.now) is ∙ sym c.is_entry.ensures ∙ c.if-is_entry.false in
    record {
      within = omega (arith, within);
      passed = passed-it name_word_of rows by c.requires.size c.requires.index (is_entry c.args.parent c.args.name.now) w (entry-marks c.args.parent c.args.name.now) from line next c.loop-line.invariant.passed fails;
    }

pub returns-then-is_entry-clause-found : goal.returns-then-is_entry-clause-found
returns-then-is_entry-clause-found c =
    let rows = c.args.rows.now in
    let by = c.args.by_name.now in
    let from = c.loop-line.from in
    let w = name_word c.args.parent c.args.name.now in
    let line = c.in-Some.line in
    let next = subst (λ v. IsNextLine by v from line) c.name_word-word.ensures c.in-Some.ensures.some in
    let within = next-within name_word_of rows by c.requires.size c.requires.index w from line next in
    let item = c.index-rows-line.result in
    let is : row rows line ≡ item = sym (get_or_read rows line item within c.index-rows-line.is None) in
    let passes : is_entry c.args.parent c.args.name.now (row rows line) ≡ true = ap (is_entry c.args.parent c.args.name.now) is ∙ sym c.is_entry.ensures ∙ c.if-is_entry.true in
    let before = passed-before name_word_of rows by c.requires.size c.requires.index (is_entry c.args.parent c.args.name.now) w (entry-marks c.args.parent c.args.name.now) from line next c.loop-line.invariant.passed in
    let child = c.child_of.ensures ∙ ap child_of_row (sym is) in
    (λ i. Some (line, child i)) ∙ sym (name-found rows c.args.parent c.args.name.now line within passes before)

pub returns-then-is_entry-clause-within : goal.returns-then-is_entry-clause-within
returns-then-is_entry-clause-within c =
    let rows = c.args.rows.now in
    let by = c.args.by_name.now in
    let from = c.loop-line.from in
    let w = name_word c.args.parent c.args.name.now in
    let line = c.in-Some.line in
    let next = subst (λ v. IsNextLine by v from line) c.name_word-word.ensures c.in-Some.ensures.some in
    let within = next-within name_word_of rows by c.requires.size c.requires.index w from line next in
    let item = c.index-rows-line.result in
    let is : row rows line ≡ item = sym (get_or_read rows line item within c.index-rows-line.is None) in
    let passes : is_entry c.args.parent c.args.name.now (row rows line) ≡ true = ap (is_entry c.args.parent c.args.name.now) is ∙ sym c.is_entry.ensures ∙ c.if-is_entry.true in
    let before = passed-before name_word_of rows by c.requires.size c.requires.index (is_entry c.args.parent c.args.name.now) w (entry-marks c.args.parent c.args.name.now) from line next c.loop-line.invariant.passed in
    within

pub returns-then-is_entry-clause-row : goal.returns-then-is_entry-clause-row
returns-then-is_entry-clause-row c =
    let rows = c.args.rows.now in
    let by = c.args.by_name.now in
    let from = c.loop-line.from in
    let w = name_word c.args.parent c.args.name.now in
    let line = c.in-Some.line in
    let next = subst (λ v. IsNextLine by v from line) c.name_word-word.ensures c.in-Some.ensures.some in
    let within = next-within name_word_of rows by c.requires.size c.requires.index w from line next in
    let item = c.index-rows-line.result in
    let is : row rows line ≡ item = sym (get_or_read rows line item within c.index-rows-line.is None) in
    let passes : is_entry c.args.parent c.args.name.now (row rows line) ≡ true = ap (is_entry c.args.parent c.args.name.now) is ∙ sym c.is_entry.ensures ∙ c.if-is_entry.true in
    let before = passed-before name_word_of rows by c.requires.size c.requires.index (is_entry c.args.parent c.args.name.now) w (entry-marks c.args.parent c.args.name.now) from line next c.loop-line.invariant.passed in
    subst (IsRow rows c.args.parent c.args.name.now line) (sym (c.child_of.ensures ∙ ap child_of_row (sym is))) (name-row rows c.args.parent c.args.name.now line passes)

pub returns-clause-found : goal.returns-clause-found
returns-clause-found c =
    let rows = c.args.rows.now in
    let by = c.args.by_name.now in
    let from = c.loop-line.from in
    let w = name_word c.args.parent c.args.name.now in
    let none = subst (λ v. HasNoLine by v from) c.name_word-word.ensures c.in_default.ensures.none in
    let all = passed-all name_word_of rows by c.requires.size c.requires.index (is_entry c.args.parent c.args.name.now) w (entry-marks c.args.parent c.args.name.now) from none c.loop-line.invariant.passed in
    sym (no-name rows c.args.parent c.args.name.now all)

pub returns-clause-none : goal.returns-clause-none
returns-clause-none c =
    let rows = c.args.rows.now in
    let by = c.args.by_name.now in
    let from = c.loop-line.from in
    let w = name_word c.args.parent c.args.name.now in
    let none = subst (λ v. HasNoLine by v from) c.name_word-word.ensures c.in_default.ensures.none in
    let all = passed-all name_word_of rows by c.requires.size c.requires.index (is_entry c.args.parent c.args.name.now) w (entry-marks c.args.parent c.args.name.now) from none c.loop-line.invariant.passed in
    find_name-none rows c.args.parent c.args.name.now (no-name rows c.args.parent c.args.name.now all)
