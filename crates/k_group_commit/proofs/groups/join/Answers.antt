use Rattle.std.proofs.Common.{◌≡◌, true, sym, ◌∙◌}
use Rattle.pm_lines.specs.pm_model.Powers.{is_on}
use Rattle.k_plans.specs.WrittenLaws.{outside-each}
use Rattle.k_group_commit.specs.GatheredLaws.{gathered-joined, same-outside}
use Rattle.k_group_commit.proofs.groups.join.Goals as goal

pub returns-then-not-on-clause-each_image : goal.returns-then-not-on-clause-each_image
returns-then-not-on-clause-each_image c =
    same-outside c.args.maps.now c.args.pm.now c.write_all.new.pm c.args.power.now c.write_all.new.power c.write_all.ensures

pub returns-then-not-on-clause-others : goal.returns-then-not-on-clause-others
returns-then-not-on-clause-others c i out = c.write_all.ensures.others i (outside-each c.args.maps.now i out)

pub returns-clause-each_image : goal.returns-clause-each_image
returns-clause-each_image c =
    same-outside c.args.maps.now c.args.pm.now c.write_all.new.pm c.args.power.now c.write_all.new.power c.write_all.ensures

pub returns-clause-others : goal.returns-clause-others
returns-clause-others c i out = c.write_all.ensures.others i (outside-each c.args.maps.now i out)

pub returns-clause-done : goal.returns-clause-done
returns-clause-done c done g news u v w are unused apart turns =
    let on : is_on c.write_all.new.power ≡ true = sym c.on.ensures ∙ c.if-not-on.false in
    gathered-joined g news c.args.maps.now u v w c.args.group.now c.args.batch.now c.lay.new.self c.args.pm.now c.write_all.new.pm
    c.args.power.now c.write_all.new.power are unused apart turns c.lay.ensures.laid
    (c.requires.write (c.write_all.ensures.steps.on_before on)) c.write_all.ensures on
