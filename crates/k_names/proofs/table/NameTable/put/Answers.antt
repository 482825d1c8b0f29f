-- Each index had the line with the word of its old row, and has it with the word of the new one.
use Rattle.std.proofs.Common.{◌≡◌, ◌<◌, ◌∙◌, ap, arith, length, subst, sym}
use Rattle.std.proofs.lemmas.List.{get_or_read, length-set}
use Rattle.std.specs.Prelude.{None, slice_set}
use Rattle.layout_model.specs.Names.{Rows, row}
use Rattle.layout_model.specs.Tables.{IsKeyed}
use Rattle.k_names.specs.Indexes.{child_word_of, name_word_of, parent_word_of}
use Rattle.k_names.proofs.IndexLaws.{changed-by, has-by, once-by}
use Rattle.k_names.proofs.table.NameTable.put.Goals as goal

pub change-requires-clause-once : goal.change-requires-clause-once
change-requires-clause-once c =
    let rows = c.self.inside.lines.items in
    let line = c.args.line in
    let within : line < length rows = subst (λ (xs : Rows). line < length xs) (sym c.self.view_is) c.requires.in_table in
    let is : row rows line ≡ c.index.result.now = sym (get_or_read rows line c.index.result.now within c.index.ensures None) in
    let small = c.self.invariant.1 in
    let indexes = c.self.invariant.2 in
    once-by name_word_of rows c.self.inside.by_name small indexes.names line c.words_of-was.result.name c.words_of-now.result.name within (c.words_of-was.ensures.name ∙ ap name_word_of (sym is))

pub change-requires-2-clause-has : goal.change-requires-2-clause-has
change-requires-2-clause-has c =
    let rows = c.self.inside.lines.items in
    let line = c.args.line in
    let within : line < length rows = subst (λ (xs : Rows). line < length xs) (sym c.self.view_is) c.requires.in_table in
    let is : row rows line ≡ c.index.result.now = sym (get_or_read rows line c.index.result.now within c.index.ensures None) in
    let small = c.self.invariant.1 in
    let indexes = c.self.invariant.2 in
    has-by parent_word_of rows c.self.inside.by_parent small indexes.parents line c.words_of-was.result.parent within (c.words_of-was.ensures.parent ∙ ap parent_word_of (sym is))

pub change-requires-2-clause-once : goal.change-requires-2-clause-once
change-requires-2-clause-once c =
    let rows = c.self.inside.lines.items in
    let line = c.args.line in
    let within : line < length rows = subst (λ (xs : Rows). line < length xs) (sym c.self.view_is) c.requires.in_table in
    let is : row rows line ≡ c.index.result.now = sym (get_or_read rows line c.index.result.now within c.index.ensures None) in
    let small = c.self.invariant.1 in
    let indexes = c.self.invariant.2 in
    once-by parent_word_of rows c.self.inside.by_parent small indexes.parents line c.words_of-was.result.parent c.words_of-now.result.parent within (c.words_of-was.ensures.parent ∙ ap parent_word_of (sym is))

pub change-requires-3-clause-has : goal.change-requires-3-clause-has
change-requires-3-clause-has c =
    let rows = c.self.inside.lines.items in
    let line = c.args.line in
    let within : line < length rows = subst (λ (xs : Rows). line < length xs) (sym c.self.view_is) c.requires.in_table in
    let is : row rows line ≡ c.index.result.now = sym (get_or_read rows line c.index.result.now within c.index.ensures None) in
    let small = c.self.invariant.1 in
    let indexes = c.self.invariant.2 in
    has-by child_word_of rows c.self.inside.by_child small indexes.children line c.words_of-was.result.child within (c.words_of-was.ensures.child ∙ ap child_word_of (sym is))

pub change-requires-3-clause-once : goal.change-requires-3-clause-once
change-requires-3-clause-once c =
    let rows = c.self.inside.lines.items in
    let line = c.args.line in
    let within : line < length rows = subst (λ (xs : Rows). line < length xs) (sym c.self.view_is) c.requires.in_table in
    let is : row rows line ≡ c.index.result.now = sym (get_or_read rows line c.index.result.now within c.index.ensures None) in
    let small = c.self.invariant.1 in
    let indexes = c.self.invariant.2 in
    once-by child_word_of rows c.self.inside.by_child small indexes.children line c.words_of-was.result.child c.words_of-now.result.child within (c.words_of-was.ensures.child ∙ ap child_word_of (sym is))

pub invariant_of-self : goal.invariant_of-self
invariant_of-self c =
    let rows = c.self.inside.lines.items in
    let line = c.args.line in
    let within : line < length rows = subst (λ (xs : Rows). line < length xs) (sym c.self.view_is) c.requires.in_table in
    let is : row rows line ≡ c.index.result.now = sym (get_or_read rows line c.index.result.now within c.index.ensures None) in
    let small = c.self.invariant.1 in
    let indexes = c.self.invariant.2 in
    let keyed : IsKeyed rows = c.self.invariant.0 in
    let after : IsKeyed (slice_set rows line c.args.row) =
    subst (λ (xs : Rows). IsKeyed (slice_set xs line c.args.row)) (sym c.self.view_is) (c.requires.keyed (subst IsKeyed c.self.view_is keyed)) in (
      after,
      omega (arith, small, length-set rows line c.args.row),
      record {
        names = changed-by name_word_of rows c.self.inside.by_name small indexes.names line c.words_of-was.result.name c.words_of-now.result.name c.args.row c.change.new.self within (c.words_of-was.ensures.name ∙ ap name_word_of (sym is)) c.words_of-now.ensures.name c.change.ensures;
        parents = changed-by parent_word_of rows c.self.inside.by_parent small indexes.parents line c.words_of-was.result.parent c.words_of-now.result.parent c.args.row c.change-2.new.self within (c.words_of-was.ensures.parent ∙ ap parent_word_of (sym is)) c.words_of-now.ensures.parent c.change-2.ensures;
        children = changed-by child_word_of rows c.self.inside.by_child small indexes.children line c.words_of-was.result.child c.words_of-now.result.child c.args.row c.change-3.new.self within (c.words_of-was.ensures.child ∙ ap child_word_of (sym is)) c.words_of-now.ensures.child c.change-3.ensures;
      },
    )
