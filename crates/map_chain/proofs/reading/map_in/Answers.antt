use Rattle.std.proofs.Common.{rules}
use Rattle.pm_lines.specs.pm_model.Images.{words_of}
use Rattle.volume_laws.specs.image_model.Placed.{StandsIn}
use Rattle.map_chain.proofs.Found.{not_spelled, map_found, map_missed}
use Rattle.map_chain.proofs.reading.map_in.Goals as goal

pub returns-then-not-is_spelled-clause-none : goal.returns-then-not-is_spelled-clause-none
returns-then-not-is_spelled-clause-none c =
    not_spelled (words_of c.args.pm.now) c.args.blocks.now c.args.extents c.in_ok-listed.listed.items (search rules) c.in_ok-listed.ensures.listed
    (λ stands. let told = c.is_spelled.ensures.1 (rw c.deref.ensures.value stands) in cc)

pub returns-clause-map : goal.returns-clause-map
returns-clause-map c =
    let stands : StandsIn (words_of c.args.pm.now) c.args.blocks.now c.in_ok-listed.listed.items = rw c.deref.ensures.value at (c.is_spelled.ensures.0 c.if-not-is_spelled.false) in
    let made = rw c.deref-2.ensures.value at c.in_ok-from_extents.ensures.made in
    map_found c.in_ok-from_extents.field-0 (words_of c.args.pm.now) c.args.blocks.now c.args.extents c.in_ok-listed.listed.items made (search rules) stands

pub returns-clause-none : goal.returns-clause-none
returns-clause-none c =
    let made = rw c.deref-2.ensures.value at c.in_ok-from_extents.ensures.made in
    map_missed c.in_ok-from_extents.field-0 (words_of c.args.pm.now) c.args.blocks.now c.args.extents c.in_ok-listed.listed.items made (search rules) c.in_ok-listed.ensures.listed
