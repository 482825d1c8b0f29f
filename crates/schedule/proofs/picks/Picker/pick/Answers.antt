use Rattle.std.specs.Prelude.{refl}
use Rattle.schedule.proofs.Picked.{goes_member, picked}
use Rattle.schedule.proofs.picks.Picker.pick.Goals as goal

pub returns-clause-among : goal.returns-clause-among
returns-clause-among c = goes_member c.args.numbers.now c.args.self.now.last c.args.self.now.source c.next_of-n.new.source c.args.self.now.place c.next_of-n.new.place c.next_of-n.result c.next_of-n.ensures

pub returns-clause-picks : goal.returns-clause-picks
returns-clause-picks c = picked c.args.self.now _ c.args.numbers.now c.next_of-n.result c.next_of-n.ensures refl
