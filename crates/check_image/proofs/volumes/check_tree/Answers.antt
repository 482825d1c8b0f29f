use Rattle.std.proofs.Common.{◌∙◌, ap, subst, sym, List, length}
use Rattle.k_reading.specs.layout_model.Names.{Rows}
use Rattle.k_reading.specs.layout_model.declared.lines.Inode.{Inode}
use Rattle.k_reading.specs.image_model.Broken.{Holds, BreaksFirst}
use Rattle.k_reading.specs.image_model.Rules.{AreDirectoriesNamed}
use Rattle.check_image.specs.Above.{rows_rule}
use Rattle.check_image.specs.Marks.{AreFew, IsFirstTwice}
use Rattle.check_image.specs.Readings.{tree_rules, AreNameMarks}
use Rattle.check_image.proofs.UseFacts.{breaks-name, tree-held, marks-names}
use Rattle.check_image.proofs.volumes.check_tree.Goals as goal

pub returns-in-Some-first_twice-clause-bad : goal.returns-in-Some-first_twice-clause-bad
returns-in-Some-first_twice-clause-bad c v inodes names inode_count name_count =
    let marks = c.in_ok-marks.marks.items in
    let are : AreNameMarks v marks = marks-names v c.args.inodes.now c.args.names.now marks inodes names c.in_ok-marks.ensures.count c.in_ok-marks.ensures.names in
    let rows : Holds (rows_rule v) = c.in_default.ensures v inodes names in
    let named : AreDirectoriesNamed v = (c.are_directories_named.ensures v inodes (rw c.deref-2.ensures.value are.names)).0 c.if-not-are_directories_named.false in
    let twice : IsFirstTwice marks c.in-Some-first_twice.ino = rw c.deref-3.ensures.value at c.in-Some-first_twice.ensures in
    subst (BreaksFirst (tree_rules v) 10) (sym c.from.ensures)
    (breaks-name v marks c.in-Some-first_twice.ino (name_count ∙ ap (λ (l : Rows). length l) (sym names)) rows named
    (inode_count ∙ ap (λ (l : List Inode). length l) (sym inodes)) are twice)

pub returns-clause-ok : goal.returns-clause-ok
returns-clause-ok c v inodes names inode_count name_count =
    let marks = c.in_ok-marks.marks.items in
    let are : AreNameMarks v marks = marks-names v c.args.inodes.now c.args.names.now marks inodes names c.in_ok-marks.ensures.count c.in_ok-marks.ensures.names in
    let rows : Holds (rows_rule v) = c.in_default.ensures v inodes names in
    let named : AreDirectoriesNamed v = (c.are_directories_named.ensures v inodes (rw c.deref-2.ensures.value are.names)).0 c.if-not-are_directories_named.false in
    let few : AreFew marks (length marks) = rw c.deref-3.ensures.value at c.in-None.ensures in
    tree-held v marks (name_count ∙ ap (λ (l : Rows). length l) (sym names)) rows named (inode_count ∙ ap (λ (l : List Inode). length l) (sym inodes)) are few
