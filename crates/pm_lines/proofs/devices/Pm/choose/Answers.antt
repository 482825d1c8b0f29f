use Rattle.std.proofs.Common.{◌≡◌, arith}
use Rattle.pm_lines.proofs.LentCells.{all_home}
use Rattle.pm_lines.proofs.devices.Pm.choose.Goals as goal

pub chosen_bytes-requires : goal.chosen_bytes-requires
chosen_bytes-requires c = omega (arith, c.self.invariant.blocks)

pub returns-clause-image : goal.returns-clause-image
returns-clause-image c =
    let same : c.self.inside.words ≡ c.args.self.now = all_home _ _ _ c.self.invariant c.self.view_is c.requires in
    rw same at c.chosen_bytes.ensures.image

pub returns-clause-chosen : goal.returns-clause-chosen
returns-clause-chosen c =
    let same : c.self.inside.words ≡ c.args.self.now = all_home _ _ _ c.self.invariant c.self.view_is c.requires in
    rw same at c.chosen_bytes.ensures.words
