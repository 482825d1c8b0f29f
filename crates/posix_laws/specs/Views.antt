-- What a write looks at, and what it needs.
use Rattle.std.specs.Prelude.{◌≡◌, ℕ, ◌+◌, ◌≤◌, List, length, sum_by}
use Rattle.posix_spec.specs.posix_types.declared.call.Call.{Call}
use Rattle.posix_spec.specs.posix_types.declared.call.Who.{Who}
use Rattle.posix_spec.specs.posix_types.declared.handle.Handle.{Handle}
use Rattle.posix_spec.specs.posix_tables.Nodes.{node_at}
use Rattle.posix_spec.specs.posix_tables.Open.{opened}
use Rattle.posix_spec.specs.posix_tables.Room.{write_need}
use Rattle.posix_spec.specs.FileRows.{content, file_number, write_start}
use Rattle.posix_spec.specs.Run.{Unfinished}
use Rattle.posix_spec.specs.State.{room, State}

-- what a write needs, in blocks; other calls need none
abbrev pub need_of : State → Who → Call → ℕ
need_of s who (Call.Write h x) = write_need s.mode (length (content s who h)) (write_start s who h) (write_start s who h + length x)
need_of s who (Call.Pwrite h o x) = write_need s.mode (length (content s who h)) o (o + length x)
need_of s who call = 0

-- all of these together find room
abbrev pub AreAfforded : State → List Unfinished → Type 0
AreAfforded s calls = sum_by (λ (c : Unfinished). need_of s c.0 c.1) calls ≤ room s

-- What a write through a handle looks at, besides the room, stays: what the handle stands for, its file, the mode.
pub record SameView (s new : State) (who : Who) (h : Handle) : Type 0 where
  pub handle : opened new.tables who h ≡ opened s.tables who h
  pub node : node_at new.nodes (file_number s.tables who h) ≡ node_at s.nodes (file_number s.tables who h)
  pub mode : new.mode ≡ s.mode

abbrev pub KeepsView : State → State → Who → Call → Type 0
KeepsView s new who (Call.Write h x) = SameView s new who h
KeepsView s new who (Call.Pwrite h o x) = SameView s new who h
KeepsView s new who call = Unit {0}
