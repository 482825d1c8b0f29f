use Rattle.std.proofs.Common.{◌∙◌, ◌++◌, ◌∷◌, [], List, ap, arith, length-append, subst, sym}
use Rattle.std.proofs.lemmas.List.{append_assoc}
use Rattle.split_threads.specs.declared.starting.Back.{Back}
use Rattle.split_threads.specs.declared.working.Own.{Own}
use Rattle.split_threads.proofs.Started.{AreStill, still_more}
use Rattle.split_threads.proofs.starting.none_started.Goals as goal

pub loop-own-preserved : goal.loop-own-preserved
loop-own-preserved c =
    let inv = c.loop-own.invariant in
    let is = inv.all ∙ ap (λ (xs : List Own). c.loop-own.yielded ++ xs) c.in-Some.ensures.steps.0 in
    record {
      all = is ∙ sym (append_assoc c.loop-own.yielded (c.in-Some.own ∷ []) c.next.new.self.rest.items);
      count = omega (arith, inv.count, c.push_reserved.ensures.len, c.push_reserved.new.self.ok.0, c.loop-own.backs.ok.0, length-append c.loop-own.yielded (c.in-Some.own ∷ []));
      still = subst (λ (bs : List Back). AreStill (c.loop-own.yielded ++ c.in-Some.own ∷ []) bs) (sym c.push_reserved.ensures.items) (still_more c.loop-own.yielded c.loop-own.backs.items c.in-Some.own inv.count inv.still);
      room = c.push_reserved.ensures.capacity ∙ inv.room;
    }
