-- When the calls can run, in either mode.
use Rattle.std.specs.Prelude.{◌≡◌, ◌≤◌, ◌+◌, ℕ, Bool, List}
use Rattle.std.proofs.Common.{arith, ap, subst, sym}
use Rattle.eof_laws.specs.layout_model.Places.{Geometry, reserve}
use Rattle.layout_model.specs.declared.lines.Kind.TheVariants.{File}
use Rattle.eof_laws.specs.image_model.Room.{unused_blocks}
use Rattle.eof_laws.specs.image_model.Volume.{inode}
use Rattle.eof_laws.specs.file_table.Files.{Files}
use Rattle.eof_laws.specs.k_split_model.View.{View}
use Rattle.live_step_laws.specs.live_model.Standing.{Kept}
use Rattle.live_step_laws.specs.world_model.TreeRules.{used_below}
use Rattle.live_step_laws.specs.world_model.Stands.{is_used}
use Rattle.posix_types.specs.declared.item.Item.{Item}
use Rattle.open_files.specs.posix_tables.Open.{Tables}
use Rattle.open_files.specs.posix_spec.State.{State}
use Rattle.batch_laws.specs.Together.{PosixStandsAt}
use Rattle.file_calls.specs.Reading.{IsReadableFile}
use Rattle.file_calls.specs.Runs.{CanRun, RunsInSome, with_files}
use Rattle.file_calls.proofs.GatheredContents.{gathered_can_be_read}
use Rattle.file_calls.proofs.ReadCalls.{can_be_read}
use Rattle.file_calls.proofs.Sizes.{size_small}

-- where each change is committed at once
pub runs_can : (k : View) (t : Tables) (f : Files) → RunsInSome k t f → CanRun k t f
runs_can k t f some = record {
  on = some.runs.on;
  count = some.runs.sizes.count;
  open_are_files = some.runs.open_are_files;
  readable = can_be_read some.geometry_is k t (with_files some.kept f) some.made some.state some.runs;
  short = size_small some.geometry_is k t (with_files some.kept f) some.made some.state some.runs;
  room = (let free = some.runs.flying.device.room.free in omega (arith, free));
}

-- and where changes gather
pub posix_can : (g : Geometry) (k : View) (t : Tables) (kept : Kept) (lines_out : Bool) (n : ℕ) (start : State) (history : List Item) → PosixStandsAt g k t kept lines_out n start history → CanRun k t kept.files
posix_can g k t kept lines_out n start history stands = record {
  on = stands.ready.going.on;
  count = stands.ready.going.sizes;
  open_are_files = stands.open_are_files;
  readable = gathered_can_be_read g k kept.files stands.count stands.numbers start history stands.ready;
  short = stands.short;
  room = subst (λ (x : Geometry). reserve x ≤ unused_blocks k.volume + 3) (sym stands.ready.going.geometry) stands.ready.going.spare;
}

-- a file that can be read
pub readable_of : (k : View) (t : Tables) (f : Files) → CanRun k t f → (ino : ℕ) → (inode k.volume ino).kind ≡ File → IsReadableFile k f ino
readable_of k t f can ino file =
    let below = used_below k.volume ino (ap is_used file) in
    record { below = below; line = omega (arith, below, can.count); readable = can.readable ino file }
