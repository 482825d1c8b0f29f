use Rattle.std.proofs.Common.{◌≡◌, ◌*◌, List, length, true, sym, subst, ◌∙◌, ap}
use Rattle.command_line.specs.Seen.{seen_options}
use Rattle.command_line.specs.pm_model.declared.Cell.{Cell}
use Rattle.command_line.specs.pm_model.Cells.{cell, is_single}
use Rattle.command_line.specs.pm_model.Images.{words_of}
use Rattle.command_line.specs.pm_model.Words.{word_at}
use Rattle.split_top.proofs.Mounted.{kept-mounted, kept-numbers}
use Rattle.split_top.proofs.Remounts.{left-crash, left-found, left-permitted}
use Rattle.split_top.proofs.runs.left_on.Goals as goal

pub crashed_device-requires : goal.crashed_device-requires
crashed_device-requires c =
    let r = c.requires in
    left-crash c.args.geometry.now c.args.pm.now r.0 r.1 r.2 r.3

pub remounted-requires : goal.remounted-requires
remounted-requires c = c.in_ok-crashed.ensures.mounts

pub mount_image-requires-clause-checked : goal.mount_image-requires-clause-checked
mount_image-requires-clause-checked c = c.in_ok-last.ensures.goes_on.mounts.checked

pub mount_image-requires-clause-single : goal.mount_image-requires-clause-single
mount_image-requires-clause-single c = c.in_ok-last.ensures.goes_on.mounts.single

pub returns-clause-found : goal.returns-clause-found
returns-clause-found c =
    let last = c.in_ok-last.ensures in
    left-found c.args.geometry.now c.in_ok-last.last last.goes_on.mounts.numbers c.in_ok-mounted.mounted.k c.in_ok-mounted.mounted.tree c.in_ok-mounted.ensures
    c.args.options.now.choice c.args.pm.now c.in_ok-crashed.crashed c.in_ok-crashed.ensures.crashed (seen_options c.args.options.now).again last.remounted

pub returns-clause-permitted : goal.returns-clause-permitted
returns-clause-permitted c start history unfinished left =
    let last = c.in_ok-last.ensures in
    left-permitted c.args.geometry.now c.in_ok-last.last last.goes_on.mounts.numbers c.in_ok-mounted.mounted.k c.in_ok-mounted.mounted.tree c.in_ok-mounted.ensures
    c.args.options.now.choice c.args.pm.now c.in_ok-crashed.crashed c.in_ok-crashed.ensures.crashed start history unfinished left last.goes_on

pub returns-clause-single : goal.returns-clause-single
returns-clause-single c i =
    subst (λ (d : List Cell). is_single (cell d i) ≡ true) (sym c.into_pm-kept.ensures) (c.in_ok-mounted.ensures.mounted.rest.single i)

pub returns-clause-mounted : goal.returns-clause-mounted
returns-clause-mounted c kept is =
    let k = c.in_ok-mounted.mounted.k in
    let size : length kept ≡ 8 * length k.cells = sym is.size ∙ ap (λ (d : List Cell). 8 * length d) c.into_pm-kept.ensures in
    let words : word_at kept ≡ words_of k.cells = sym is.words ∙ ap words_of c.into_pm-kept.ensures in
    kept-mounted (words_of c.in_ok-last.last) k c.in_ok-mounted.mounted.tree kept c.in_ok-mounted.ensures size words

pub returns-clause-numbers : goal.returns-clause-numbers
returns-clause-numbers c kept is =
    let k = c.in_ok-mounted.mounted.k in
    let size : length kept ≡ 8 * length k.cells = sym is.size ∙ ap (λ (d : List Cell). 8 * length d) c.into_pm-kept.ensures in
    let words : word_at kept ≡ words_of k.cells = sym is.words ∙ ap words_of c.into_pm-kept.ensures in
    kept-numbers (words_of c.in_ok-last.last) k c.in_ok-mounted.mounted.tree kept c.in_ok-mounted.ensures size words
    ∙ c.in_ok-last.ensures.goes_on.mounts.numbers
