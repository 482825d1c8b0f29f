use Rattle.std.proofs.Common.{[]}
use Rattle.k_journal.specs.layout_model.Journal.{journaled}
use Rattle.k_reading.specs.image_model.Rules.{HasChain}
use Rattle.k_reading.specs.image_model.Volume.{volume}
use Rattle.k_journal.specs.pm_model.Images.{words_of}
use Rattle.check_image.proofs.Fronts.{IsFront}
use Rattle.check_image.proofs.chains.read_chains.Given as goal

-- the chains and the maps of the inodes so far
abbrev pub invariant-loop-ino : goal.invariant-loop-ino
invariant-loop-ino l =
    let j = journaled (words_of l.pm) in
    let v = volume l.geometry j in
    IsFront [] (HasChain v j) l.chains.items v.chains l.ino × IsFront [] (HasChain v j) l.maps.items v.maps l.ino
