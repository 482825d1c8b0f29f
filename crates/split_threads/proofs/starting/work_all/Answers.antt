use Rattle.std.proofs.Common.{subst, sym}
use Rattle.std.specs.Prelude.{List}
use Rattle.split_threads.specs.Backs.{AreBack}
use Rattle.split_threads.specs.declared.starting.Back.{Back}
use Rattle.split_threads.proofs.Started.{all_back_by, set_up_came, set_up_starts}
use Rattle.split_threads.proofs.starting.work_all.Goals as goal

pub work_own-back-requires : goal.work_own-back-requires
work_own-back-requires g c =
    set_up_starts c.requires.new.0 c.requires.new.1 c.args.shared.now.turn c.args.shared.now.log c.requires.new.2.threads.opened _ c.args.dealt.setup c.requires.new.2.set_up

pub returns-clause-backs : goal.returns-clause-backs
returns-clause-backs g c w power new =
    let back = set_up_came w power c.args.shared.now.turn c.args.shared.now.log new.threads.opened c.a_round_ends_as_it_may.ensures.worked _ c.args.dealt.setup c.work_own-back.result new.set_up c.work_own-back.ensures in
    subst (λ (bs : List Back). AreBack w power c.args.shared.now.turn c.args.shared.now.log bs) (sym c.push_reserved.ensures.items)
    (all_back_by w power c.args.shared.now.turn c.args.shared.now.log new.threads.opened c.work_threads-backs.result.items c.work_own-back.result _ c.work_threads-backs.ensures.count (c.work_threads-backs.ensures.backs w power new.threads) back)
