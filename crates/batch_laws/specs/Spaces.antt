-- What the look-ups over the batch say of the state of the calls, each law as one statement.
use Rattle.std.specs.Prelude.{◌≡◌, ℕ, List, option_map}
use Rattle.eof_laws.specs.live_model.layout_model.Places.{Geometry}
use Rattle.eof_laws.specs.live_model.file_table.Files.{Files}
use Rattle.eof_laws.specs.live_model.k_split_model.Spaces.{volume_space}
use Rattle.eof_laws.specs.live_model.k_split_model.View.{View}
use Rattle.eof_laws.specs.live_model.commute_laws.posix_types.declared.item.Item.{Item}
use Rattle.eof_laws.specs.live_model.posix_tables.Names.{node_at_path}
use Rattle.eof_laws.specs.live_model.posix_spec.Run.{run}
use Rattle.eof_laws.specs.live_model.posix_spec.State.{space, State}
use Rattle.eof_laws.specs.live_model.world_model.Stands.{number}
use Rattle.eof_laws.specs.live_model.world_step_laws.Rows.{HaveSameRows}
use Rattle.batch_laws.specs.Ready.{GoesReady}

-- The rows of each call on a path are those of the state: by the same row it is refused.
abbrev pub RowsAreAlike : Type 0
RowsAreAlike =
    (g : Geometry) (k : View) (files : Files) (count : ℕ) (numbers : List ℕ) (start : State) (history : List Item)
    → GoesReady g k files count numbers start history → HaveSameRows (volume_space k.volume) (space (run start history))

-- A path leads to the node of the inode to which it leads in the batch.
abbrev pub PathsLeadAlike : Type 0
PathsLeadAlike =
    (g : Geometry) (k : View) (files : Files) (count : ℕ) (numbers : List ℕ) (start : State) (history : List Item) (p : List (List ℕ))
    → GoesReady g k files count numbers start history → option_map (number numbers) (node_at_path (volume_space k.volume) p) ≡ node_at_path (space (run start history)) p
