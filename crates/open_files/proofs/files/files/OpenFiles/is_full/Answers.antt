use Rattle.std.proofs.Common.{◌≡◌, ℕ, Option, ap, sym}
use Rattle.std.specs.Prelude.{is_none, is_some}
use Rattle.open_files.proofs.Answering.{free_is}
use Rattle.open_files.proofs.Rooms.{turned}
use Rattle.open_files.proofs.files.files.OpenFiles.is_full.Goals as goal

pub returns : goal.returns
returns c =
    let test : c.is_none.result ≡ is_none c.first_free.result = turned (is_some c.first_free.result) c.is_none.result c.is_none.ensures in
    rw (test, c.first_free.ensures.lowest, c.deref.ensures.value, ← c.self.view_is) (sym (ap (λ (o : Option ℕ). is_none o) (free_is c.self.inside.kept.slots c.self.inside.ever_opened c.self.inside.descriptors.items c.self.inside.bindings.items)))
