use Rattle.std.proofs.Common.{[], sym, ◌∙◌, subst, arith}
use Rattle.std.proofs.lemmas.List.{get_or_default}
use Rattle.k_tables.specs.Files.{IsInside}
use Rattle.k_tables.proofs.contents.trees.entry_in.Goals as goal

pub node_in-requires-clause-inside : goal.node_in-requires-clause-inside
node_in-requires-clause-inside c =
    subst (λ es. IsInside es c.args.pm.now)
    (get_or_default c.args.maps.now c.args.place.now.ino [] c.index-maps-ino.result (omega (arith, c.requires.tree.map_count, c.requires.inode))
    ∙ sym c.index-maps-ino.is)
    (c.requires.tree.inside c.args.place.now.ino)
