use Rattle.std.proofs.Common.{◌≡◌, ◌∙◌, false, true, refl, sym}
use Rattle.open_files.proofs.files.found.drop_unused.Goals as goal

pub returns-then-is_used-clause-used : goal.returns-then-is_used-clause-used
returns-then-is_used-clause-used c used = refl

pub returns-then-is_used-clause-unused : goal.returns-then-is_used-clause-unused
returns-then-is_used-clause-unused c unused =
    let never : true ≡ false = sym c.if-is_used.true ∙ (c.is_used.ensures ∙ unused) in
    cc

pub returns-clause-used : goal.returns-clause-used
returns-clause-used c used =
    let never : true ≡ false = sym used ∙ (sym c.is_used.ensures ∙ c.if-is_used.false) in
    cc

pub returns-clause-unused : goal.returns-clause-unused
returns-clause-unused c unused = c.try_remove.ensures.updates
