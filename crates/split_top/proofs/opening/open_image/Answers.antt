use Rattle.std.proofs.Common.{◌*◌, length, sym}
use Rattle.command_line.specs.pm_model.Images.{words_of}
use Rattle.split_machine.specs.image_model.Broken.{Breaks}
use Rattle.split_top.proofs.Opened.{refused}
use Rattle.split_top.proofs.opening.open_image.Goals as goal

pub returns-in-Err-Bad-clause-kind : goal.returns-in-Err-Bad-clause-kind
returns-in-Err-Bad-clause-kind c =
    let d = c.in-Ok.pm in
    let breaks : Breaks (8 * length d) (words_of d) c.in-Err-Bad.bad.rule c.in-Err-Bad.bad.place = rw c.in-Err-Bad.field-0-is at c.in-Err-Bad.ensures.bad in
    refused c.args.bytes.items d c.in-Ok.ensures c.in-Err-Bad.bad.rule c.in-Err-Bad.bad.place breaks

pub returns-in-Ok-check-clause-opened : goal.returns-in-Ok-check-clause-opened
returns-in-Ok-check-clause-opened c = record {
  device = c.in-Ok.ensures;
  mounts = record { checked = c.in-Ok-check.ensures.ok; numbers = sym c.in-Ok-check.ensures.geometry; single = c.in-Ok.ensures.single };
}
