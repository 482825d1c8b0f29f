use Rattle.std.proofs.Common.{◌<◌, length, get_or, map, ◌∙◌, ap, subst}
use Rattle.std.proofs.lemmas.List.{take_all}
use Rattle.pm_lines.specs.pm_model.Images.{words_of}
use Rattle.k_tables.specs.ContentsTrees.{entry_in}
use Rattle.k_tables.proofs.Listing.{place-within, tree-listed}
use Rattle.k_tables.proofs.contents.trees.content_tree.Goals as goal

pub entry_in-requires-clause-inode : goal.entry_in-requires-clause-inode
entry_in-requires-clause-inode c =
    let at = c.loop-place.place-index in
    place-within c.args.inodes.now c.args.names.now c.args.maps.now c.args.pm.now c.in_ok-places.places.items at
    c.place-item.result c.requires c.in_ok-places.ensures
    (subst (λ places. at < length places) c.deref-place-items.ensures.value c.loop-place-test.true)
    (c.place-item.is ∙ ap (λ places. get_or places at c.place-item.result) c.deref-place-items.ensures.value)

pub returns : goal.returns
returns c v same =
    let f = words_of c.args.pm.now in
    tree-listed v c.args.pm.now f c.args.inodes.now c.args.names.now c.args.maps.now c.in_ok-places.places.items c.loop-place.entries.items
    c.requires c.in_ok-places.ensures same
    (c.loop-place.invariant
    ∙ ap (map (entry_in c.args.inodes.now c.args.maps.now f))
    (take_all c.loop-place.place-index c.deref-place-items.result.now c.loop-place-test.false ∙ c.deref-place-items.ensures.value))
