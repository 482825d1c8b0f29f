use Rattle.std.proofs.Common.{◌≡◌, ◌*◌, arith, length, refl, subst}
use Rattle.k_check.specs.image_model.Rules.{IsChecked}
use Rattle.k_check.specs.pm_model.Images.{words_of}
use Rattle.k_map_tests.proofs.Opens.{opened-fresh}
use Rattle.k_map_tests.proofs.devices.open_recovered.Goals as goal

pub open-requires-clause-checked : goal.open-requires-clause-checked
open-requires-clause-checked c =
    let size : 8 * length c.args.pm ≡ 4096 * c.in_ok-geometry.geometry.blocks = omega (arith, c.if-not-has_blocks.ensures refl) in
    subst (λ n. IsChecked n (words_of c.args.pm)) size c.in_ok-geometry.ensures.checked

pub returns : goal.returns
returns c = opened-fresh _ _ _ c.requires.single c.in_ok-open.ensures
