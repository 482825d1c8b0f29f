use Rattle.std.proofs.Common.{◌∙◌, ap, arith, sym, subst, List, length}
use Rattle.k_reading.specs.layout_model.declared.lines.Inode.{Inode}
use Rattle.k_reading.specs.layout_model.Names.{Rows}
use Rattle.k_journal.specs.layout_model.Journal.{journaled}
use Rattle.k_journal.specs.layout_model.Places.{Geometry, IsGeometry}
use Rattle.k_reading.specs.image_model.Broken.{Holds, HoldAll, BreaksFirst, line_rules}
use Rattle.k_reading.specs.image_model.Volume.{volume}
use Rattle.k_journal.specs.pm_model.Images.{words_of}
use Rattle.k_reading.specs.volume_laws.ReadingLaws.{volume-geometry}
use Rattle.check_image.specs.Readings.{AreOf, blocks_rule, body_rules}
use Rattle.check_image.proofs.ReadFacts.{good-lines, of-tables, volume-base, breaks-blocks, breaks-tree, body-holds}
use Rattle.check_image.proofs.reading.read_tables.Goals as goal

pub check_blocks-requires : goal.check_blocks-requires
check_blocks-requires c =
    let g = c.args.geometry in
    let j = journaled (words_of c.args.pm.now) in
    let of : AreOf (volume g j) c.in-Ok.lines.inodes.items c.in-Ok.lines.names.items c.in-Ok.lines.maps.chains.items c.in-Ok.lines.maps.maps.items = rw c.in-Ok.is at c.in_ok-lines.ensures.lines in
    let lines : HoldAll (line_rules (volume g j) j) = rw c.in-Ok.is at c.in_ok-lines.ensures.ok in
    let good = good-lines g j _ _ _ _ (subst IsGeometry c.geometry.view_is c.geometry.invariant) of lines in
    let tables = of-tables g j _ _ _ _ of in
    good.in_data

pub returns-in-Err-2-clause-bad : goal.returns-in-Err-2-clause-bad
returns-in-Err-2-clause-bad c =
    let g = c.args.geometry in
    let j = journaled (words_of c.args.pm.now) in
    let of : AreOf (volume g j) c.in-Ok.lines.inodes.items c.in-Ok.lines.names.items c.in-Ok.lines.maps.chains.items c.in-Ok.lines.maps.maps.items = rw c.in-Ok.is at c.in_ok-lines.ensures.lines in
    let lines : HoldAll (line_rules (volume g j) j) = rw c.in-Ok.is at c.in_ok-lines.ensures.ok in
    let good = good-lines g j _ _ _ _ (subst IsGeometry c.geometry.view_is c.geometry.invariant) of lines in
    let tables = of-tables g j _ _ _ _ of in
    let bad = rw c.in-Err-2.is at c.in_ok-uses.ensures.bad in
    subst (BreaksFirst (body_rules g j) 8) (sym c.from.ensures) (breaks-blocks g j c.in-Err-2.block lines (bad (volume g j) tables))

pub check_tree-requires-clause-some : goal.check_tree-requires-clause-some
check_tree-requires-clause-some c =
    let g = c.args.geometry in
    let j = journaled (words_of c.args.pm.now) in
    let of : AreOf (volume g j) c.in-Ok.lines.inodes.items c.in-Ok.lines.names.items c.in-Ok.lines.maps.chains.items c.in-Ok.lines.maps.maps.items = rw c.in-Ok.is at c.in_ok-lines.ensures.lines in
    let lines : HoldAll (line_rules (volume g j) j) = rw c.in-Ok.is at c.in_ok-lines.ensures.ok in
    let good = good-lines g j _ _ _ _ (subst IsGeometry c.geometry.view_is c.geometry.invariant) of lines in
    let tables = of-tables g j _ _ _ _ of in
    let most : IsGeometry g = subst IsGeometry c.geometry.view_is c.geometry.invariant in
    omega (arith, good.inode_count, ap (λ (l : List Inode). length l) c.deref.ensures.value, most.least_inodes)

pub check_tree-requires-clause-few : goal.check_tree-requires-clause-few
check_tree-requires-clause-few c =
    let g = c.args.geometry in
    let j = journaled (words_of c.args.pm.now) in
    let of : AreOf (volume g j) c.in-Ok.lines.inodes.items c.in-Ok.lines.names.items c.in-Ok.lines.maps.chains.items c.in-Ok.lines.maps.maps.items = rw c.in-Ok.is at c.in_ok-lines.ensures.lines in
    let lines : HoldAll (line_rules (volume g j) j) = rw c.in-Ok.is at c.in_ok-lines.ensures.ok in
    let good = good-lines g j _ _ _ _ (subst IsGeometry c.geometry.view_is c.geometry.invariant) of lines in
    let tables = of-tables g j _ _ _ _ of in
    let most : IsGeometry g = subst IsGeometry c.geometry.view_is c.geometry.invariant in
    omega (arith, good.inode_count, ap (λ (l : List Inode). length l) c.deref.ensures.value, most.most_inodes)

pub check_tree-requires-clause-children : goal.check_tree-requires-clause-children
check_tree-requires-clause-children c =
    let g = c.args.geometry in
    let j = journaled (words_of c.args.pm.now) in
    let of : AreOf (volume g j) c.in-Ok.lines.inodes.items c.in-Ok.lines.names.items c.in-Ok.lines.maps.chains.items c.in-Ok.lines.maps.maps.items = rw c.in-Ok.is at c.in_ok-lines.ensures.lines in
    let lines : HoldAll (line_rules (volume g j) j) = rw c.in-Ok.is at c.in_ok-lines.ensures.ok in
    let good = good-lines g j _ _ _ _ (subst IsGeometry c.geometry.view_is c.geometry.invariant) of lines in
    let tables = of-tables g j _ _ _ _ of in
    rw (c.deref.ensures.value, c.deref-2.ensures.value) good.children

pub returns-in-Err-3-clause-bad : goal.returns-in-Err-3-clause-bad
returns-in-Err-3-clause-bad c =
    let g = c.args.geometry in
    let j = journaled (words_of c.args.pm.now) in
    let of : AreOf (volume g j) c.in-Ok.lines.inodes.items c.in-Ok.lines.names.items c.in-Ok.lines.maps.chains.items c.in-Ok.lines.maps.maps.items = rw c.in-Ok.is at c.in_ok-lines.ensures.lines in
    let lines : HoldAll (line_rules (volume g j) j) = rw c.in-Ok.is at c.in_ok-lines.ensures.ok in
    let good = good-lines g j _ _ _ _ (subst IsGeometry c.geometry.view_is c.geometry.invariant) of lines in
    let tables = of-tables g j _ _ _ _ of in
    let blocks : Holds (blocks_rule (volume g j)) = (rw c.in-Ok-2.is at c.in_ok-uses.ensures.ok) (volume g j) tables in
    let same_inodes = of.same_inodes ∙ sym c.deref.ensures.value in
    let same_names = of.same_names ∙ sym c.deref-2.ensures.value in
    let inode_count = ap (λ (h : Geometry). h.inodes) (volume-geometry g j) ∙ sym good.inode_count ∙ ap (λ (l : List Inode). length l) (sym c.deref.ensures.value) in
    let name_count = ap (λ (h : Geometry). h.names) (volume-geometry g j) ∙ sym good.name_count ∙ ap (λ (l : Rows). length l) (sym c.deref-2.ensures.value) in
    let bad = rw c.in-Err-3.is at c.in_ok-named.ensures.bad in
    breaks-tree g j c.in-Err-3.bad.rule c.in-Err-3.bad.place lines blocks (bad (volume g j) same_inodes same_names inode_count name_count)

pub returns-clause-tables : goal.returns-clause-tables
returns-clause-tables c =
    let g = c.args.geometry in
    let j = journaled (words_of c.args.pm.now) in
    let of : AreOf (volume g j) c.in-Ok.lines.inodes.items c.in-Ok.lines.names.items c.in-Ok.lines.maps.chains.items c.in-Ok.lines.maps.maps.items = rw c.in-Ok.is at c.in_ok-lines.ensures.lines in
    let lines : HoldAll (line_rules (volume g j) j) = rw c.in-Ok.is at c.in_ok-lines.ensures.ok in
    let good = good-lines g j _ _ _ _ (subst IsGeometry c.geometry.view_is c.geometry.invariant) of lines in
    let tables = of-tables g j _ _ _ _ of in
    let same_inodes = of.same_inodes ∙ sym c.deref.ensures.value in
    let same_names = of.same_names ∙ sym c.deref-2.ensures.value in
    let inode_count = ap (λ (h : Geometry). h.inodes) (volume-geometry g j) ∙ sym good.inode_count ∙ ap (λ (l : List Inode). length l) (sym c.deref.ensures.value) in
    let name_count = ap (λ (h : Geometry). h.names) (volume-geometry g j) ∙ sym good.name_count ∙ ap (λ (l : Rows). length l) (sym c.deref-2.ensures.value) in
    let named = rw c.in-Ok-3.is at c.in_ok-named.ensures.marks in
    let used = rw c.in-Ok-2.is at c.in_ok-uses.ensures.marks in
    record {
      geometry = volume-geometry g j;
      base = volume-base g j ∙ sym c.view_word-base.ensures;
      inode_count = good.inode_count;
      tables = of;
      used = used (volume g j) tables;
      named = named (volume g j) same_inodes same_names;
    }

pub returns-clause-ok : goal.returns-clause-ok
returns-clause-ok c =
    let g = c.args.geometry in
    let j = journaled (words_of c.args.pm.now) in
    let of : AreOf (volume g j) c.in-Ok.lines.inodes.items c.in-Ok.lines.names.items c.in-Ok.lines.maps.chains.items c.in-Ok.lines.maps.maps.items = rw c.in-Ok.is at c.in_ok-lines.ensures.lines in
    let lines : HoldAll (line_rules (volume g j) j) = rw c.in-Ok.is at c.in_ok-lines.ensures.ok in
    let good = good-lines g j _ _ _ _ (subst IsGeometry c.geometry.view_is c.geometry.invariant) of lines in
    let tables = of-tables g j _ _ _ _ of in
    let blocks : Holds (blocks_rule (volume g j)) = (rw c.in-Ok-2.is at c.in_ok-uses.ensures.ok) (volume g j) tables in
    let same_inodes = of.same_inodes ∙ sym c.deref.ensures.value in
    let same_names = of.same_names ∙ sym c.deref-2.ensures.value in
    let inode_count = ap (λ (h : Geometry). h.inodes) (volume-geometry g j) ∙ sym good.inode_count ∙ ap (λ (l : List Inode). length l) (sym c.deref.ensures.value) in
    let name_count = ap (λ (h : Geometry). h.names) (volume-geometry g j) ∙ sym good.name_count ∙ ap (λ (l : Rows). length l) (sym c.deref-2.ensures.value) in
    let tree = rw c.in-Ok-3.is at c.in_ok-named.ensures.ok in
    body-holds g j lines blocks (tree (volume g j) same_inodes same_names inode_count name_count)
