use Rattle.std.proofs.Common.{◌≡◌, ◌∙◌, ◌+◌, ◌++◌, rules}
use Rattle.k_plans.specs.image_model.Volume.{chain}
use Rattle.k_plans.specs.volume_laws.Uses.{in_chain, in_map}
use Rattle.k_map_plans.proofs.map_plans.moving.taken_by.Goals as goal

pub returns-clause-freed : goal.returns-clause-freed
returns-clause-freed c b =
    let staging : c.chain-2.result.now ≡ chain c.args.tables.now.volume c.args.asked.now.staging = c.chain-2.ensures in
    let file : c.chain-3.result.now ≡ chain c.args.tables.now.volume c.args.asked.now.ino = c.chain-3.ensures in
    let displaced : c.deref-2.result.now ≡ c.args.placed.now.displaced.items = first_of (search rules, cc) in
    c.in_ok-freed.ensures b ∙ (λ i. in_chain (staging i ++ file i) b + in_map (displaced i) b)
