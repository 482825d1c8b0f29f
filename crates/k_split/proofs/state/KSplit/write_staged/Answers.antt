use Rattle.std.proofs.Common.{◌≡◌, ◌*◌, ◌+◌, ◌<◌, ◌∙◌, ℕ, false, true, length, arith, subst, sym}
use Rattle.block_io.specs.pm_model.Powers.{is_on}
use Rattle.block_io.specs.Overwrites.{MayOverwrite}
use Rattle.block_io.specs.image_model.Volume.{extents}
use Rattle.k_tables.specs.k_split_model.View.{View}
use Rattle.k_split.specs.Loans.{MayLend}
use Rattle.k_split.proofs.ChangeLaws.{awake}
use Rattle.k_split.proofs.Ready.{reads-ready}
use Rattle.k_split.proofs.StagedBytes.{block_short, staged_below, staged_overwrite}
use Rattle.k_split.proofs.state.KSplit.write_staged.Goals as goal

pub overwrite-requires-clause-short : goal.overwrite-requires-clause-short
overwrite-requires-clause-short c =
    let k = c.self.inside in
    let on : is_on c.args.power.now ≡ true = sym c.on.ensures ∙ c.if-not-on.false in
    let is : k.lost ≡ false = awake k.tables k.group k.pm k.batched k.lost c.args.self.now c.args.power.now c.self.view_is c.requires.awake on in
    let may = subst (λ (x : View). x.lost ≡ false → (b : ℕ) × MayLend x.volume x.cells c.args.staging c.args.block b) (sym c.self.view_is) c.requires.may is in
    let ready = c.self.invariant is in
    let reads = reads-ready k.tables k.group k.batch k.pm k.batched ready in
    let short = block_short k.tables.volume k.pm c.args.staging c.args.block may.0 ready.opened.whole ready.opened.are.stands.size reads.0 reads.1 may.1 in
    omega (arith, short, c.requires.short)

pub overwrite-requires-clause-below : goal.overwrite-requires-clause-below
overwrite-requires-clause-below c =
    let k = c.self.inside in
    let on : is_on c.args.power.now ≡ true = sym c.on.ensures ∙ c.if-not-on.false in
    let is : k.lost ≡ false = awake k.tables k.group k.pm k.batched k.lost c.args.self.now c.args.power.now c.self.view_is c.requires.awake on in
    let may = subst (λ (x : View). x.lost ≡ false → (b : ℕ) × MayLend x.volume x.cells c.args.staging c.args.block b) (sym c.self.view_is) c.requires.may is in
    subst (λ (x : View). c.args.staging < length x.volume.inodes) c.self.view_is
    (staged_below k.tables.volume k.pm c.args.staging c.args.block may.0 (c.self.invariant is).opened.whole may.1)

pub overwrite-requires-clause-may : goal.overwrite-requires-clause-may
overwrite-requires-clause-may c =
    let k = c.self.inside in
    let on : is_on c.args.power.now ≡ true = sym c.on.ensures ∙ c.if-not-on.false in
    let is : k.lost ≡ false = awake k.tables k.group k.pm k.batched k.lost c.args.self.now c.args.power.now c.self.view_is c.requires.awake on in
    let may = subst (λ (x : View). x.lost ≡ false → (b : ℕ) × MayLend x.volume x.cells c.args.staging c.args.block b) (sym c.self.view_is) c.requires.may is in
    let ready = c.self.invariant is in
    let reads = reads-ready k.tables k.group k.batch k.pm k.batched ready in
    let first : 4096 * c.args.block + c.args.offset ≡ 4096 * c.from.result + c.from-2.result = omega arith in
    subst (λ n. MayOverwrite (extents c.args.self.now.volume c.args.staging) n (length c.args.bytes.now) c.args.self.now.cells) first
    (subst (λ (x : View). MayOverwrite (extents x.volume c.args.staging) (4096 * c.args.block + c.args.offset) (length c.args.bytes.now) x.cells) c.self.view_is
    (staged_overwrite k.tables.volume k.pm c.args.staging c.args.block may.0 ready.opened.whole ready.opened.are.stands.size reads.0 reads.1 may.1
    c.args.offset (length c.args.bytes.now) c.requires.short))

pub returns-then-not-on-clause-took : goal.returns-then-not-on-clause-took
returns-then-not-on-clause-took c on some = (let never : true ≡ false = sym on ∙ (sym c.on.ensures ∙ c.if-not-on.true) in cc)

pub returns-clause-took : goal.returns-clause-took
returns-clause-took c = c.overwrite.ensures.took
