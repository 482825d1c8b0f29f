use Rattle.std.proofs.Common.{◌∙◌, [], List, length, ap, arith}
use Rattle.k_plans.specs.k_journal.declared.batches.Record.{Record}
use Rattle.k_plans.specs.View.{TablesView}
use Rattle.k_map_plans.proofs.Goings.{kept-aside}
use Rattle.k_map_plans.proofs.Keeps.{keep-is, keep-may, keep-plan}
use Rattle.k_map_plans.proofs.map_plans.going.keep_map.Goals as goal

pub switch-requires-clause-may : goal.switch-requires-clause-may
switch-requires-clause-may c =
    keep-may c.args.tables.now c.args.ino c.args.inode.now c.in_ok-blocks.blocks.items c.in_ok-map.map c.new.result.items c.requires.may
    (c.in_ok-blocks.ensures.items ∙ c.chain.ensures) c.in_ok-map.ensures.copy c.new.ensures.items c.in_ok-map.ensures.whole

pub returns-clause-kept : goal.returns-clause-kept
returns-clause-kept c =
    keep-is c.args.tables.now c.args.ino c.args.inode.now c.in_ok-blocks.blocks.items c.in_ok-map.map c.new.result.items c.requires.may
    (c.in_ok-blocks.ensures.items ∙ c.chain.ensures) c.in_ok-map.ensures.copy c.new.ensures.items c.switch.new.self c.switch.ensures.switched

pub returns-clause-plan : goal.returns-clause-plan
returns-clause-plan c =
    let t = c.args.tables.now in
    keep-plan t c.args.ino c.args.inode.now c.in_ok-blocks.blocks.items c.in_ok-map.map c.new.result.items c.requires.may
    (c.in_ok-blocks.ensures.items ∙ c.chain.ensures) c.in_ok-map.ensures.copy c.new.ensures.items c.switch.new.self c.args.batch.now c.switch.new.batch
    c.switch.ensures.switched c.requires.empty c.switch.ensures.some c.switch.ensures.count c.switch.ensures.whole
    (λ from. c.switch.ensures.turns [] t.volume from)

pub returns-clause-aside : goal.returns-clause-aside
returns-clause-aside c =
    kept-aside c.args.tables.now c.switch.new.self c.requires.may.idle c.in_ok-map.ensures.back c.switch.ensures.back
    (ap (λ (x : TablesView). x.waiting) c.switch.ensures.switched) c.switch.ensures.free

pub returns-clause-line : goal.returns-clause-line
returns-clause-line c = omega (arith, c.switch.ensures.count, ap (λ (b : List Record). length b) c.requires.empty)
