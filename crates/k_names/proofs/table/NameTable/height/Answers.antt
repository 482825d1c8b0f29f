-- As many names as the table has lines are room enough for each path.
use Rattle.std.proofs.Common.{arith, ◌∙◌, ap, length, subst}
use Rattle.layout_model.specs.Names.{Rows}
use Rattle.layout_model.specs.Tables.{IsKeyed}
use Rattle.k_names.specs.Heights.{HasHeightWithin}
use Rattle.k_names.proofs.HeightLaws.{height_from_within}
use Rattle.k_names.proofs.table.NameTable.height.Goals as goal

pub returns : goal.returns
returns c =
    let most = c.len.result in
    let h = c.height_within.result in
    let same = c.deref.ensures.value ∙ c.self.view_is in
    height_from_within c.args.self.now most c.args.ino h (subst IsKeyed c.self.view_is c.self.invariant.0) c.requires
    (omega (arith, ap length same, c.deref.ensures.len, c.len.ensures))
    (subst (λ (rows : Rows). HasHeightWithin rows most c.args.ino h) same c.height_within.ensures.height)
