use Rattle.std.specs.Prelude.{None}
use Rattle.k_journal.specs.layout_model.Journal.{journaled}
use Rattle.k_reading.specs.image_model.Rules.{IsNameSlot}
use Rattle.k_reading.specs.image_model.Volume.{volume, name_at}
use Rattle.k_journal.specs.pm_model.Images.{words_of}
use Rattle.check_image.proofs.Fronts.{IsFront}
use Rattle.check_image.proofs.lines.read_names.Given as goal

-- the names of the lines so far
abbrev pub invariant-loop-line : goal.invariant-loop-line
invariant-loop-line l =
    let j = journaled (words_of l.pm) in
    IsFront None (λ k. IsNameSlot (volume l.geometry j) (name_at l.geometry j k)) l.names.items (volume l.geometry j).names l.line
