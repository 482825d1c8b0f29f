-- The plan of a write by the mode, as the state has it.
use Rattle.std.specs.Option.{option_map_or}
use Rattle.std.specs.Prelude.{◌≡◌, ◌≢◌, ◌+◌, ℕ, length, max, min, nat_lt, Option, Some, None, if◌then◌else◌}
use Rattle.live_model.specs.data_route.declared.writes.WritePlan.{WritePlan}
use Rattle.live_model.specs.data_route.Writes.{plan_of}
use Rattle.posix_types.specs.declared.call.Mode.{Mode}
use Rattle.posix_tables.specs.Nodes.{bytes_of, node_at, published_of}
use Rattle.open_files.specs.posix_spec.Afforded.{is_posix}
use Rattle.open_files.specs.posix_spec.Put.{Put}
use Rattle.open_files.specs.posix_spec.State.{State}

-- how many bytes the file of a write has
abbrev pub size_at : State → Put → ℕ
size_at s put = length (bytes_of (node_at s.nodes put.node))

-- THE PLAN OF A WRITE, by the mode: what it stages, and what it writes in place.
abbrev pub plan_at : State → Put → WritePlan
plan_at s put = plan_of s.mode (size_at s put) put.place (length put.bytes)

-- the blocks that a call stages, the first one and how many; none, where it puts nothing, or all of it in place
abbrev pub staged_run : State → Option Put → Option (ℕ × ℕ)
staged_run s None = None
staged_run s (Some put) = (plan_at s put).staged

-- the bytes that it writes in place, from the first and before the second
abbrev pub placed_at : State → Option Put → Option (ℕ × ℕ)
placed_at s None = None
placed_at s (Some put) = (plan_at s put).in_place

-- where the bytes end of a write that lie below the published length: POSIX mode writes them in the file's own blocks, staged or not
abbrev pub published_end : State → Put → ℕ
published_end s put = if is_posix s.mode then min (put.place + length put.bytes) (published_of (node_at s.nodes put.node)) else put.place

-- where those end that go into the file's own blocks: the ones in place, and in POSIX mode all below the published length
abbrev pub own_end : State → Put → ℕ
own_end s put = max (option_map_or (λ (r : ℕ × ℕ). r.1) (plan_at s put).in_place put.place) (published_end s put)

-- THE BYTES THAT IT WRITES IN THE FILE'S OWN BLOCKS, from the first and before the second
abbrev pub own_at : State → Option Put → Option (ℕ × ℕ)
own_at s None = None
own_at s (Some put) = if nat_lt put.place (own_end s put) then Some (put.place, own_end s put) else None

-- Outside POSIX mode these are the bytes in place.
abbrev pub OwnIsPlaced : Type 0
OwnIsPlaced = (s : State) (put : Option Put) → s.mode ≢ Mode.Posix → own_at s put ≡ placed_at s put
