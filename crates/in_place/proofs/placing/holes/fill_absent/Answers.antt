use Rattle.std.proofs.Common.{◌∙◌, arith, sym}
use Rattle.in_place.proofs.Entries.{blocks_fit, line_there}
use Rattle.in_place.proofs.Filled.{range_full}
use Rattle.in_place.proofs.placing.holes.fill_absent.Goals as goal

pub count_absent-absent-requires : goal.count_absent-absent-requires
count_absent-absent-requires c = record {
  known = line_there c.args.k.now c.args.staging.now c.args.files.now c.args.ino c.requires.has;
  file = c.requires.has.has.file;
  short = (let all = blocks_fit c.args.k.now c.args.staging.now c.args.files.now c.args.ino c.requires.has in let range = c.requires.range in omega (arith, all, range));
}

pub returns-then-absent-eq0-clause-answer : goal.returns-then-absent-eq0-clause-answer
returns-then-absent-eq0-clause-answer c =
    range_full c.args.k.now c.args.staging.now c.args.files.now c.args.ino c.args.first c.args.count (sym c.count_absent-absent.ensures ∙ c.if-absent-eq0.true)
