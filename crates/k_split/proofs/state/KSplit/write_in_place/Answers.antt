use Rattle.std.proofs.Common.{◌≡◌, ◌<◌, ◌∙◌, false, true, length, arith, subst, sym}
use Rattle.block_io.specs.pm_model.Powers.{is_on}
use Rattle.block_io.specs.image_model.Volume.{extents}
use Rattle.block_io.specs.extent_model.Extents.{IsCanonical}
use Rattle.block_io.specs.Overwrites.{MayOverwrite}
use Rattle.k_tables.specs.k_split_model.View.{View}
use Rattle.k_split.proofs.ByteLaws.{asked, file_below, file_single, may_overwrite, overwrite-none, short_range}
use Rattle.k_split.proofs.ChangeLaws.{awake}
use Rattle.k_split.proofs.Ready.{reads-ready}
use Rattle.k_split.proofs.state.KSplit.write_in_place.Goals as goal

pub returns-then-bytes-eq0-clause-answer : goal.returns-then-bytes-eq0-clause-answer
returns-then-bytes-eq0-clause-answer c =
    let k = c.self.inside in
    let on : is_on c.args.power.now ≡ true = sym c.on.ensures ∙ c.if-not-on.false in
    let is : k.lost ≡ false = awake k.tables k.group k.pm k.batched k.lost c.args.self.now c.args.power.now c.self.view_is c.requires.awake on in
    overwrite-none k.tables k.group k.batch k.pm k.batched k.lost c.args.self.now c.args.ino c.args.offset c.args.bytes.now is c.self.view_is (c.self.invariant is) (omega arith)

pub overwrite-requires-clause-short : goal.overwrite-requires-clause-short
overwrite-requires-clause-short c =
    let k = c.self.inside in
    let on : is_on c.args.power.now ≡ true = sym c.on.ensures ∙ c.if-not-on.false in
    let is : k.lost ≡ false = awake k.tables k.group k.pm k.batched k.lost c.args.self.now c.args.power.now c.self.view_is c.requires.awake on in
    let may = asked k.tables k.group k.pm k.batched k.lost c.args.self.now c.args.ino c.args.offset (length c.args.bytes.now) c.self.view_is c.requires.may is in
    let ready = c.self.invariant is in
    let canonical : IsCanonical (extents k.tables.volume c.args.ino) =
    ((reads-ready k.tables k.group k.batch k.pm k.batched ready).1.chains c.args.ino (omega (arith, file_below k.tables.volume c.args.ino may.file, ready.opened.whole.kept.all.inode_count))).map.canonical
    in
    short_range (extents k.tables.volume c.args.ino) c.args.offset (length c.args.bytes.now) canonical (omega arith) may.mapped

pub overwrite-requires-clause-below : goal.overwrite-requires-clause-below
overwrite-requires-clause-below c =
    let k = c.self.inside in
    let on : is_on c.args.power.now ≡ true = sym c.on.ensures ∙ c.if-not-on.false in
    let is : k.lost ≡ false = awake k.tables k.group k.pm k.batched k.lost c.args.self.now c.args.power.now c.self.view_is c.requires.awake on in
    let may = asked k.tables k.group k.pm k.batched k.lost c.args.self.now c.args.ino c.args.offset (length c.args.bytes.now) c.self.view_is c.requires.may is in
    subst (λ (x : View). c.args.ino < length x.volume.inodes) c.self.view_is (file_below k.tables.volume c.args.ino may.file)

pub overwrite-requires-clause-may : goal.overwrite-requires-clause-may
overwrite-requires-clause-may c =
    let k = c.self.inside in
    let count = length c.args.bytes.now in
    let on : is_on c.args.power.now ≡ true = sym c.on.ensures ∙ c.if-not-on.false in
    let is : k.lost ≡ false = awake k.tables k.group k.pm k.batched k.lost c.args.self.now c.args.power.now c.self.view_is c.requires.awake on in
    let may = asked k.tables k.group k.pm k.batched k.lost c.args.self.now c.args.ino c.args.offset count c.self.view_is c.requires.may is in
    let ready = c.self.invariant is in
    let below = file_below k.tables.volume c.args.ino may.file in
    subst (λ (x : View). MayOverwrite (extents x.volume c.args.ino) c.args.offset count x.cells) c.self.view_is
    (may_overwrite k.tables.volume k.pm c.args.ino c.args.offset count ready.opened.whole ready.opened.are.stands.size below may.mapped
    (file_single k.tables.volume k.pm c.args.ino c.args.offset count ready.opened.whole ready.opened.are.stands.size below may.file ready.unstaged))

pub returns-then-not-on-clause-took : goal.returns-then-not-on-clause-took
returns-then-not-on-clause-took c on some = (let never : true ≡ false = sym on ∙ (sym c.on.ensures ∙ c.if-not-on.true) in cc)

pub returns-then-bytes-eq0-clause-took : goal.returns-then-bytes-eq0-clause-took
returns-then-bytes-eq0-clause-took c on some = absurd (omega (arith, some))

pub returns-clause-took : goal.returns-clause-took
returns-clause-took c = c.overwrite.ensures.took
