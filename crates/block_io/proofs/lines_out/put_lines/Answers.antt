use Rattle.std.proofs.Common.{◌∙◌, ◌++◌, ◌∷◌, [], List, ap, sym}
use Rattle.std.proofs.lemmas.List.{append_assoc}
use Rattle.pm_lines.specs.pm_model.Parts.{Part}
use Rattle.block_io.proofs.Steps.{back_more, home_more, out_next, place_next}
use Rattle.block_io.proofs.lines_out.put_lines.Goals as goal

pub put_line-requires : goal.put_line-requires
put_line-requires c =
    let inv = c.loop-line.invariant in
    let is = inv.all ∙ ap (λ (xs : List Part). c.loop-line.yielded ++ xs) c.in-Some.ensures.steps.0 in
    record { out = out_next c.args.first c.args.pm.now c.loop-line.pm c.args.lines.items c.loop-line.yielded c.next.new.self.rest.items c.in-Some.line is c.requires.places inv.back c.requires.out }

pub loop-line-preserved : goal.loop-line-preserved
loop-line-preserved c =
    let inv = c.loop-line.invariant in
    let is = inv.all ∙ ap (λ (xs : List Part). c.loop-line.yielded ++ xs) c.in-Some.ensures.steps.0 in
    record {
      size = c.put_line.ensures.size ∙ inv.size;
      all = is ∙ sym (append_assoc c.loop-line.yielded (c.in-Some.line ∷ []) c.next.new.self.rest.items);
      back = back_more c.args.first c.args.pm.now c.loop-line.pm c.put_line.new.self c.loop-line.yielded c.in-Some.line inv.back
          (place_next c.args.first c.args.pm.now c.loop-line.pm c.args.lines.items c.loop-line.yielded c.next.new.self.rest.items c.in-Some.line is c.requires.places)
          c.put_line.ensures.back;
      home = home_more c.args.first c.args.pm.now c.loop-line.pm c.put_line.new.self c.loop-line.yielded c.in-Some.line
          (place_next c.args.first c.args.pm.now c.loop-line.pm c.args.lines.items c.loop-line.yielded c.next.new.self.rest.items c.in-Some.line is c.requires.places)
          inv.home c.put_line.ensures.home c.put_line.ensures.back;
    }
