use Rattle.std.proofs.lemmas.Grind.{common_steps}
-- the write of the maps, and then a commit
use Rattle.std.proofs.Common.{◌≡◌, true, rules, arith}
use Rattle.k_inodes.specs.pm_model.Powers.{is_on}
use Rattle.k_plans.specs.WrittenLaws.{outside-each, may-commit-written, each_image-landed, stands-landed, same_elsewhere, settles_elsewhere, took-later, unused-apart}
use Rattle.k_plans.proofs.landings.maps.land_maps.Goals as goal

pub commit-requires : goal.commit-requires
commit-requires c = record {
  ready = λ on.
      let before : is_on c.args.power.now ≡ true = c.write_all.ensures.steps.on_before on in
      may-commit-written c.args.geometry.now _ c.args.batch.now c.args.pm.now c.write_all.new.pm (c.requires.ready before) c.requires.in_data
      c.write_all.ensures.size (λ i out. c.write_all.ensures.others i (outside-each c.args.maps.now i out)) (c.write_all.ensures.keeps on);
}

pub returns-clause-each_image : goal.returns-clause-each_image
returns-clause-each_image c v w stands unused turns =
    each_image-landed c.args.geometry.now c.args.maps.now v c.args.pm.now c.write_all.new.pm c.args.power.now c.write_all.new.power stands
    (unused-apart c.args.geometry.now v c.args.pm.now _ stands unused) c.write_all.ensures
    w c.args.batch.now c.commit.new.pm turns (λ off. (c.commit.ensures.off off).0) c.commit.ensures.each_image

pub returns-clause-elsewhere : goal.returns-clause-elsewhere
returns-clause-elsewhere c =
    same_elsewhere c.args.geometry.now c.args.maps.now c.args.batch.now c.args.pm.now c.write_all.new.pm c.commit.new.pm c.args.power.now c.write_all.new.power
    c.write_all.ensures c.commit.ensures.each_image

pub returns-clause-others : goal.returns-clause-others
returns-clause-others c =
    settles_elsewhere c.args.maps.now c.args.batch.now c.args.pm.now c.write_all.new.pm c.commit.new.pm c.args.power.now c.write_all.new.power
    c.write_all.ensures c.commit.ensures.others

pub returns-clause-done : goal.returns-clause-done
returns-clause-done c done v w stands unused turns =
    let on : is_on c.write_all.new.power ≡ true = c.commit.ensures.steps.on_before (c.commit.ensures.done done) in
    stands-landed c.args.geometry.now c.args.maps.now v c.args.pm.now c.write_all.new.pm c.args.power.now c.write_all.new.power stands
    (unused-apart c.args.geometry.now v c.args.pm.now _ stands unused) c.write_all.ensures
    w c.args.batch.now c.commit.new.pm on (c.requires.write (c.write_all.ensures.steps.on_before on)) turns
    c.commit.ensures.size (c.commit.ensures.idle done) (c.commit.ensures.keeps done) (c.commit.ensures.durable done)

pub returns-clause-took : goal.returns-clause-took
returns-clause-took c done some =
    took-later _ c.args.power.now c.write_all.new.power c.commit.new.power c.write_all.ensures.steps (c.commit.ensures.took done some)

pub returns-clause-size : goal.returns-clause-size
returns-clause-size c = cc

pub returns-clause-lent : goal.returns-clause-lent
returns-clause-lent c = search rules

pub returns-clause-steps : goal.returns-clause-steps
returns-clause-steps c = grind (arith, common_steps)

pub returns-clause-on : goal.returns-clause-on
returns-clause-on c = search rules

pub returns-clause-lost : goal.returns-clause-lost
returns-clause-lost c = search rules

pub returns-clause-off : goal.returns-clause-off
returns-clause-off c = search rules

pub returns-clause-keeps : goal.returns-clause-keeps
returns-clause-keeps c = search rules

pub returns-clause-empty : goal.returns-clause-empty
returns-clause-empty c = search rules

pub returns-clause-kept : goal.returns-clause-kept
returns-clause-kept c = search rules
