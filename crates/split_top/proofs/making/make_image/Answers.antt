use Rattle.std.proofs.Common.{inr, sym, ◌∙◌, subst}
use Rattle.command_line.specs.Command as commands
use Rattle.split_top.proofs.Answered.{put-answer}
use Rattle.split_top.proofs.making.make_image.Goals as goal
use Rattle.split_top.specs.Images.{IsFreshImage, IsMade}
use Rattle.split_top.specs.Top.{IsMkfsDone}

pub returns-in-Ok-replace : goal.returns-in-Ok-replace
returns-in-Ok-replace g c =
    let told = g.F.Files.told in
    let made : IsMade c.args.name.now c.args.geometry.now (told c.args.files.now) (told c.replace.new.self) =
    record {
      bytes = c.deref.result.now;
      is_fresh = subst (IsFreshImage c.args.geometry.now) (sym c.deref.ensures.value) c.in-Ok.ensures;
      is_replaced = c.in-Ok-replace.ensures.replaced;
    } in
    let does : IsMkfsDone c.args.name.now c.args.geometry.now (told c.args.files.now) (told c.replace.new.self) c.deref-in-Ok-replace.result.now =
    record { made = made; is_line = c.deref-in-Ok-replace.ensures.value ∙ c.in-Ok-blocks_text.ensures } in
    put-answer (commands.Mkfs c.args.name.now c.args.geometry.now) _ _ _ _ _ _ _ c.deref-in-Ok-replace.result.now
    does (inr (record { replaces = tt; output = c.deref-in-Ok-replace.result.now; does = does })) tt tt
    c.put_output.result c.put_output.ensures.kind c.put_output.ensures.done c.put_output.ensures.front c.put_output.ensures.failed
