use Rattle.std.proofs.Common.{◌≡◌, ◌<◌, ◌∙◌, ℕ, false, List, length, ap, inr, subst, sym, true}
use Rattle.block_io.specs.extent_model.declared.extent_words.Extent.{Extent}
use Rattle.block_io.specs.Overwrites.{IsBesideBlocks, IsOverwritten, IsOverwrittenWhole, MayOverwrite}
use Rattle.block_io.specs.image_model.Volume.{extents}
use Rattle.block_io.specs.pm_model.Cells.{cell, Settles}
use Rattle.block_io.specs.pm_model.Images.{Follows}
use Rattle.k_tables.specs.k_split_model.View.{View}
use Rattle.k_split.proofs.ByteLaws.{overwrite-cut, overwrite-done, ready-over, steady-over}
use Rattle.k_split.proofs.state.KSplit.overwrite.Goals as goal

pub write_bytes-requires-clause-ready : goal.write_bytes-requires-clause-ready
write_bytes-requires-clause-ready c on =
    let k = c.self.inside in
    subst (λ (es : List Extent). MayOverwrite es c.args.first (length c.args.bytes.now) k.pm) (sym c.in-Some.ensures.map)
    (subst (λ (x : View). MayOverwrite (extents x.volume c.args.ino) c.args.first (length c.args.bytes.now) x.cells) (sym c.self.view_is) c.requires.may)

pub invariant_of-self : goal.invariant_of-self
invariant_of-self c off =
    let k = c.self.inside in
    let bytes = c.args.bytes.now in
    let e = c.write_bytes.new.pm in
    let below = subst (λ (x : View). c.args.ino < length x.volume.inodes) (sym c.self.view_is) c.requires.below in
    let on = sym c.on.ensures ∙ c.if-on.true in
    ready-over k.tables k.group k.batch k.pm k.batched (c.self.invariant off) c.args.ino c.args.first bytes below e c.write_bytes.ensures.size c.write_bytes.ensures.lent
    (subst (λ (es : List Extent). Follows (IsOverwritten es c.args.first bytes) k.pm e) c.in-Some.ensures.map c.write_bytes.ensures.each_image)
    (subst (λ (es : List Extent). (i : ℕ) → IsBesideBlocks es c.args.first (length bytes) i → Settles (cell k.pm i) (cell e i)) c.in-Some.ensures.map c.write_bytes.ensures.others)
    (c.write_bytes.ensures.keeps on)

pub returns-then-on-clause-answer : goal.returns-then-on-clause-answer
returns-then-on-clause-answer c =
    let k = c.self.inside in
    let bytes = c.args.bytes.now in
    let e = c.write_bytes.new.pm in
    let is : k.lost ≡ false = ap (λ (x : View). x.lost) c.self.view_is ∙ c.requires.on in
    let below = subst (λ (x : View). c.args.ino < length x.volume.inodes) (sym c.self.view_is) c.requires.below in
    let on = sym c.on.ensures ∙ c.if-on.true in
    overwrite-done k.tables k.group k.batch k.pm k.batched (c.self.invariant is) c.args.ino c.args.first bytes below e c.write_bytes.ensures.size c.write_bytes.ensures.lent
    (subst (λ (es : List Extent). Follows (IsOverwritten es c.args.first bytes) k.pm e) c.in-Some.ensures.map c.write_bytes.ensures.each_image)
    (subst (λ (es : List Extent). (i : ℕ) → IsBesideBlocks es c.args.first (length bytes) i → Settles (cell k.pm i) (cell e i)) c.in-Some.ensures.map c.write_bytes.ensures.others)
    c.args.self.now k.lost is c.self.view_is
    (subst (λ (es : List Extent). Follows (IsOverwrittenWhole es c.args.first bytes) k.pm e) c.in-Some.ensures.map (c.write_bytes.ensures.durable on))
    (c.write_bytes.ensures.keeps on)

pub returns-clause-answer : goal.returns-clause-answer
returns-clause-answer c =
    let k = c.self.inside in
    let bytes = c.args.bytes.now in
    let e = c.write_bytes.new.pm in
    let is : k.lost ≡ false = ap (λ (x : View). x.lost) c.self.view_is ∙ c.requires.on in
    let below = subst (λ (x : View). c.args.ino < length x.volume.inodes) (sym c.self.view_is) c.requires.below in
    inr (overwrite-cut k.tables k.group k.batch k.pm k.batched (c.self.invariant is) c.args.ino c.args.first bytes below e c.write_bytes.ensures.size c.write_bytes.ensures.lent
    (subst (λ (es : List Extent). Follows (IsOverwritten es c.args.first bytes) k.pm e) c.in-Some.ensures.map c.write_bytes.ensures.each_image)
    (subst (λ (es : List Extent). (i : ℕ) → IsBesideBlocks es c.args.first (length bytes) i → Settles (cell k.pm i) (cell e i)) c.in-Some.ensures.map c.write_bytes.ensures.others)
    c.args.self.now k.lost c.self.view_is)

pub returns-then-on-clause-took : goal.returns-then-on-clause-took
returns-then-on-clause-took c = c.write_bytes.ensures.took

pub returns-clause-took : goal.returns-clause-took
returns-clause-took c on some = (let never : true ≡ false = sym on ∙ (sym c.on.ensures ∙ c.if-on.false) in cc)

pub invariant_of-self-inside : goal.invariant_of-self-inside
invariant_of-self-inside c =
    let k = c.self.inside in
    let bytes = c.args.bytes.now in
    let e = c.write_bytes.new.pm in
    let is : k.lost ≡ false = ap (λ (x : View). x.lost) c.self.view_is ∙ c.requires.on in
    let below = subst (λ (x : View). c.args.ino < length x.volume.inodes) (sym c.self.view_is) c.requires.below in (
      k.none_aside,
      (
        λ batched. steady-over k.tables k.group k.batch k.pm k.batched (c.self.invariant is) c.args.ino c.args.first bytes below e c.write_bytes.ensures.size c.write_bytes.ensures.lent
            (subst (λ (es : List Extent). Follows (IsOverwritten es c.args.first bytes) k.pm e) c.in-Some.ensures.map c.write_bytes.ensures.each_image)
            (subst (λ (es : List Extent). (i : ℕ) → IsBesideBlocks es c.args.first (length bytes) i → Settles (cell k.pm i) (cell e i)) c.in-Some.ensures.map c.write_bytes.ensures.others),
        tt,
      ),
    )

pub invariant_of-self-inside-2 : goal.invariant_of-self-inside-2
invariant_of-self-inside-2 c =
    let k = c.self.inside in
    let bytes = c.args.bytes.now in
    let e = c.write_bytes.new.pm in
    let is : k.lost ≡ false = ap (λ (x : View). x.lost) c.self.view_is ∙ c.requires.on in
    let below = subst (λ (x : View). c.args.ino < length x.volume.inodes) (sym c.self.view_is) c.requires.below in (
      k.none_aside,
      (
        λ batched. steady-over k.tables k.group k.batch k.pm k.batched (c.self.invariant is) c.args.ino c.args.first bytes below e c.write_bytes.ensures.size c.write_bytes.ensures.lent
            (subst (λ (es : List Extent). Follows (IsOverwritten es c.args.first bytes) k.pm e) c.in-Some.ensures.map c.write_bytes.ensures.each_image)
            (subst (λ (es : List Extent). (i : ℕ) → IsBesideBlocks es c.args.first (length bytes) i → Settles (cell k.pm i) (cell e i)) c.in-Some.ensures.map c.write_bytes.ensures.others),
        tt,
      ),
    )
