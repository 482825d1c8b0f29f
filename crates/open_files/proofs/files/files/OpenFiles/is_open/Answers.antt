use Rattle.open_files.proofs.Answering.{open-referred}
use Rattle.open_files.proofs.files.files.OpenFiles.is_open.Goals as goal

pub returns : goal.returns
returns c = rw (c.is_open.ensures, c.deref.ensures.value, ← c.self.view_is) (open-referred c.self.inside.kept.slots c.self.inside.ever_opened c.self.inside.descriptors.items c.self.inside.bindings.items c.self.invariant c.args.ino)
