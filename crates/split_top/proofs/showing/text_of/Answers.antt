use Rattle.split_top.proofs.Opened.{shows-tree}
use Rattle.split_top.proofs.Results.{follows}
use Rattle.split_top.proofs.showing.text_of.Goals as goal

pub returns : goal.returns
returns c =
    let tree = c.in_ok-mounted.mounted.tree in
    follows c.tree_text.result _ _
    (λ text is bytes device. record { tree = tree; shows = shows-tree bytes c.args.opened.pm device tree c.requires.checked c.in_ok-mounted.ensures.is_tree; is_text = is })
    c.tree_text.ensures
