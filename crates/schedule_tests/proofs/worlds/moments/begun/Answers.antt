use Rattle.std.specs.Prelude.{◌≡◌, true, refl}
use Rattle.std.proofs.Common.{subst, sym}
use Rattle.command_line.specs.pm_model.declared.Cell.{Cell}
use Rattle.command_line.specs.pm_model.Cells.{is_single}
use Rattle.schedule_tests.proofs.worlds.moments.begun.Goals as goal

pub mounted-requires-clause-single : goal.mounted-requires-clause-single
mounted-requires-clause-single c = λ i. subst (λ (x : Cell). is_single x ≡ true) (sym (c.in_ok-pm.ensures.words i)) refl

pub mounted-requires-clause-limits : goal.mounted-requires-clause-limits
mounted-requires-clause-limits c = c.requires.limits
