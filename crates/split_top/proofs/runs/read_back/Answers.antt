use Rattle.std.proofs.Common.{[], refl, subst, sym}
use Rattle.split_threads.specs.world_parts.declared.outcomes.Ended.{Ended}
use Rattle.split_top.specs.Found.{AreCallsOf, IsEndedAs, IsEndedWith}
use Rattle.split_top.proofs.runs.read_back.Goals as goal

pub left_on-requires : goal.left_on-requires
left_on-requires c = (c.requires.0, c.in-Whole.history.items, [], subst (λ (e : Ended). IsEndedAs c.args.geometry c.requires.0 e) c.in-Whole.is c.requires.1)

pub left_on-requires-in-Lost : goal.left_on-requires-in-Lost
left_on-requires-in-Lost c =
    (c.requires.0, c.in-Lost.crashed.history.items, c.in-Lost.crashed.unfinished.items, subst (λ (e : Ended). IsEndedAs c.args.geometry c.requires.0 e) c.in-Lost.is c.requires.1)

pub returns-in_ok-left-in-Whole-clause-back : goal.returns-in_ok-left-in-Whole-clause-back
returns-in_ok-left-in-Whole-clause-back c =
    let history = c.in-Whole.history.items in
    record {
      calls = subst (λ (e : Ended). AreCallsOf e history c.new.result.items) (sym c.in-Whole.is) (refl, c.new.ensures.items);
      permitted = λ start calls is.
          c.in_ok-left-in-Whole.ensures.permitted start history calls (subst (λ (e : Ended). IsEndedWith c.args.geometry start e calls) c.in-Whole.is is);
    }

pub returns-in_ok-left-in-Lost-clause-back : goal.returns-in_ok-left-in-Lost-clause-back
returns-in_ok-left-in-Lost-clause-back c =
    let crashed = c.in-Lost.crashed in
    record {
      calls = subst (λ (e : Ended). AreCallsOf e crashed.history.items crashed.unfinished.items) (sym c.in-Lost.is) (refl, refl);
      permitted = λ start calls is.
          c.in_ok-left-in-Lost.ensures.permitted start crashed.history.items calls (subst (λ (e : Ended). IsEndedWith c.args.geometry start e calls) c.in-Lost.is is);
    }
