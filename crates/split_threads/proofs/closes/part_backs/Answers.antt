use Rattle.std.proofs.Common.{◌∙◌, ◌++◌, ◌∷◌, [], List, ap, length, sym}
use Rattle.std.proofs.lemmas.List.{append_assoc}
use Rattle.split_threads.specs.declared.starting.Back.{Back}
use Rattle.split_threads.proofs.Parting.{below_all, parting_first, parting_more, parting_room}
use Rattle.split_threads.proofs.closes.part_backs.Goals as goal

pub loop-back-init : goal.loop-back-init
loop-back-init c = record { all = cc; parting = parting_first (length c.args.backs.items) c.args.room c.requires }

pub part_one-requires : goal.part_one-requires
part_one-requires c =
    let inv = c.loop-back.invariant in
    let is = inv.all ∙ ap (λ (xs : List Back). c.loop-back.yielded ++ xs) c.in-Some.ensures.steps.0 in
    parting_room (length c.args.backs.items) c.loop-back.yielded c.loop-back.parted inv.parting (below_all c.args.backs.items c.loop-back.yielded c.next.new.self.rest.items c.in-Some.back is)

pub loop-back-preserved : goal.loop-back-preserved
loop-back-preserved c =
    let inv = c.loop-back.invariant in
    let is = inv.all ∙ ap (λ (xs : List Back). c.loop-back.yielded ++ xs) c.in-Some.ensures.steps.0 in
    record {
      all = is ∙ sym (append_assoc c.loop-back.yielded (c.in-Some.back ∷ []) c.next.new.self.rest.items);
      parting = parting_more (length c.args.backs.items) c.loop-back.yielded c.loop-back.parted c.part_one.new.parted c.in-Some.back inv.parting c.part_one.ensures;
    }
