-- The names of the lines that the index gives, since those between have another parent.
use Rattle.std.proofs.Common.{◌≡◌, ◌∙◌, ◌++◌, arith, sym}
use Rattle.std.proofs.lemmas.List.{get_or_read}
use Rattle.std.specs.Prelude.{None}
use Rattle.layout_model.specs.Names.{is_below_parent, row}
use Rattle.layout_model.specs.Tables.{name_below}
use Rattle.k_names.specs.Indexes.{parent_word_of}
use Rattle.k_names.proofs.IndexLaws.{below-marks, names-all, names-to, next-within, passed-between, passed-rest}
use Rattle.k_names.proofs.children.children.Goals as goal

pub bounds-rows-line : goal.bounds-rows-line
bounds-rows-line c =
    let rows = c.args.rows.now in
    let by = c.args.by_parent.now in
    let from = c.loop-line.from in
    let line = c.in-Some.line in
    let next = c.in-Some.ensures.some in
    next-within parent_word_of rows by c.requires.size c.requires.index c.args.parent from line next

pub overflow_add-from : goal.overflow_add-from
overflow_add-from c =
    let rows = c.args.rows.now in
    let by = c.args.by_parent.now in
    let from = c.loop-line.from in
    let line = c.in-Some.line in
    let next = c.in-Some.ensures.some in
    let within = next-within parent_word_of rows by c.requires.size c.requires.index c.args.parent from line next in
    omega (arith, within, c.requires.size)

pub loop-line-smaller : goal.loop-line-smaller
loop-line-smaller c =
    let rows = c.args.rows.now in
    let by = c.args.by_parent.now in
    let from = c.loop-line.from in
    let line = c.in-Some.line in
    let next = c.in-Some.ensures.some in
    let within = next-within parent_word_of rows by c.requires.size c.requires.index c.args.parent from line next in
    omega (arith, within, next.from_on, c.loop-line.invariant.within)

pub loop-line-preserved : goal.loop-line-preserved
loop-line-preserved c =
    let rows = c.args.rows.now in
    let by = c.args.by_parent.now in
    let from = c.loop-line.from in
    let line = c.in-Some.line in
    let next = c.in-Some.ensures.some in
    let within = next-within parent_word_of rows by c.requires.size c.requires.index c.args.parent from line next in
    let item = c.index-rows-line.result in
    let is : row rows line ≡ item = sym (get_or_read rows line item within c.index-rows-line.is None) in
    let parent = c.args.parent in
    let quiet = passed-between parent_word_of rows by c.requires.size c.requires.index (is_below_parent parent) parent (below-marks parent) from line next in
    let back = sym is in
    record {
      within = omega (arith, within);
      names = c.in_ok-push_name.ensures
          ∙ (λ i. c.loop-line.invariant.names i ++ name_below parent (back i))
          ∙ sym (names-to rows parent from line next.from_on within quiet);
    }

pub returns : goal.returns
returns c =
    let rows = c.args.rows.now in
    let by = c.args.by_parent.now in
    let from = c.loop-line.from in
    let none = c.in_default.ensures.none in
    let parent = c.args.parent in
    let quiet = passed-rest parent_word_of rows by c.requires.size c.requires.index (is_below_parent parent) parent (below-marks parent) from none in
    c.loop-line.invariant.names ∙ names-all rows parent from c.loop-line.invariant.within quiet
