use Rattle.std.proofs.Common.{sym, subst}
use Rattle.k_journal.specs.layout_model.Journal.{journaled}
use Rattle.k_reading.specs.image_model.Broken.{Holds, FailsFirst, BreaksFirst, line_rules}
use Rattle.k_reading.specs.image_model.Volume.{volume}
use Rattle.k_journal.specs.pm_model.Images.{words_of}
use Rattle.check_image.specs.LineRules.{inodes_rule, names_rule, chains_rule}
use Rattle.check_image.proofs.ReadFacts.{breaks-inodes, breaks-names, breaks-chains, lines-hold}
use Rattle.check_image.proofs.reading.read_lines.Goals as goal

pub returns-in-Err-clause-bad : goal.returns-in-Err-clause-bad
returns-in-Err-clause-bad c =
    let g = c.args.geometry.now in
    let j = journaled (words_of c.args.pm.now) in
    let bad : FailsFirst (inodes_rule g j) c.in-Err.ino = rw c.in-Err.is at c.in_ok-inodes.ensures.bad in
    subst (BreaksFirst (line_rules (volume g j) j) 5) (sym c.from.ensures) (breaks-inodes g j c.in-Err.ino bad)

pub returns-in-Err-2-clause-bad : goal.returns-in-Err-2-clause-bad
returns-in-Err-2-clause-bad c =
    let g = c.args.geometry.now in
    let j = journaled (words_of c.args.pm.now) in
    let inodes : Holds (inodes_rule g j) = rw c.in-Ok.is at c.in_ok-inodes.ensures.ok in
    let bad : FailsFirst (names_rule g (volume g j) j) c.in-Err-2.line = rw c.in-Err-2.is at c.in_ok-names.ensures.bad in
    subst (BreaksFirst (line_rules (volume g j) j) 6) (sym c.from-in-Err-2.ensures) (breaks-names g j c.in-Err-2.line inodes bad)

pub returns-in-Ok-3-clause-ok : goal.returns-in-Ok-3-clause-ok
returns-in-Ok-3-clause-ok c =
    let g = c.args.geometry.now in
    let j = journaled (words_of c.args.pm.now) in
    let inodes : Holds (inodes_rule g j) = rw c.in-Ok.is at c.in_ok-inodes.ensures.ok in
    let names : Holds (names_rule g (volume g j) j) = rw c.in-Ok-2.is at c.in_ok-names.ensures.ok in
    let chains : Holds (chains_rule g (volume g j) j) = rw c.in-Ok-3.is at c.in_ok-maps.ensures.ok in
    lines-hold g j inodes names chains

pub returns-in-Err-3-clause-bad : goal.returns-in-Err-3-clause-bad
returns-in-Err-3-clause-bad c =
    let g = c.args.geometry.now in
    let j = journaled (words_of c.args.pm.now) in
    let inodes : Holds (inodes_rule g j) = rw c.in-Ok.is at c.in_ok-inodes.ensures.ok in
    let names : Holds (names_rule g (volume g j) j) = rw c.in-Ok-2.is at c.in_ok-names.ensures.ok in
    let bad : FailsFirst (chains_rule g (volume g j) j) c.in-Err-3.ino = rw c.in-Err-3.is at c.in_ok-maps.ensures.bad in
    breaks-chains g j c.in-Err-3.ino inodes names bad
