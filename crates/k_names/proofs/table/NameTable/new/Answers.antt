-- Where all lines are free the indexes have them so, and no two lines have a name.
use Rattle.std.proofs.Common.{◌<◌, arith, length, refl, subst, sym}
use Rattle.std.proofs.lemmas.List.{length-replicate}
use Rattle.std.specs.Prelude.{None, Option}
use Rattle.layout_model.specs.Lines.{NameRow}
use Rattle.layout_model.specs.Names.{Rows}
use Rattle.layout_model.specs.Tables.{IsKeyed}
use Rattle.k_names.specs.Indexes.{AreIndexes, child_word_of, name_word_of, parent_word_of}
use Rattle.k_names.proofs.IndexLaws.{blank-index, blank-keyed}
use Rattle.k_names.proofs.table.NameTable.new.Goals as goal

pub invariant_of-result : goal.invariant_of-result
invariant_of-result c =
    let lines = c.args.lines in
    let names = c.in_ok-new.field-0 in
    let parents = c.in_ok-new-2.field-0 in
    let children = c.in_ok-new-3.field-0 in
    let same = sym c.in_ok-blank_lines.ensures in (
      subst IsKeyed same (blank-keyed lines),
      subst (λ (rows : Rows). length rows < 4294967296) same (omega (arith, c.ranges.lines.fits, length-replicate {A = Option NameRow} lines None)),
      subst (λ (rows : Rows). AreIndexes rows names parents children) same (record {
        names = blank-index name_word_of lines names refl c.in_ok-new.ensures;
        parents = blank-index parent_word_of lines parents refl c.in_ok-new-2.ensures;
        children = blank-index child_word_of lines children refl c.in_ok-new-3.ensures;
      }),
    )
