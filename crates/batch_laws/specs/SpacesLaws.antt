-- What the look-ups over the batch say of the state of the calls.
use Rattle.std.specs.Prelude.{ℕ, List, []}
use Rattle.std.proofs.Common.{subst}
use Rattle.eof_laws.specs.live_model.layout_model.Places.{Geometry}
use Rattle.eof_laws.specs.live_model.file_table.Files.{Files}
use Rattle.eof_laws.specs.live_model.k_split_model.Spaces.{volume_space}
use Rattle.eof_laws.specs.live_model.k_split_model.View.{View}
use Rattle.eof_laws.specs.live_model.commute_laws.posix_types.declared.item.Item.{Item}
use Rattle.eof_laws.specs.live_model.posix_tables.Names.{Space}
use Rattle.eof_laws.specs.live_model.posix_spec.Run.{run}
use Rattle.eof_laws.specs.live_model.posix_spec.State.{space, State}
use Rattle.eof_laws.specs.live_model.posix_laws.CutLaws.{space_cut}
use Rattle.eof_laws.specs.live_model.posix_laws.Cuts.{cut_of}
use Rattle.eof_laws.specs.live_model.world_model.Stands.{IsUsed}
use Rattle.eof_laws.specs.live_model.world_step_laws.Mirrors.{Mirrors, node_at_path-same}
use Rattle.eof_laws.specs.live_model.world_step_laws.Rows.{HaveSameRows-Mirrors}
use Rattle.eof_laws.specs.live_model.world_step_laws.Worlds.{world_mirror}
use Rattle.batch_laws.specs.CallSteps.{cut_seen}
use Rattle.batch_laws.specs.Ready.{GoesReady}
use Rattle.batch_laws.specs.Spaces.{PathsLeadAlike, RowsAreAlike}

-- the space of the batch mirrors that of the state
pub batch_mirror : (g : Geometry) (k : View) (files : Files) (count : ℕ) (numbers : List ℕ) (start : State) (history : List Item) → GoesReady g k files count numbers start history
    → Mirrors (IsUsed k.volume) numbers (volume_space k.volume) (space (run start history))
batch_mirror g k files count numbers start history ready =
    let s : State = run start history in
    let seen = cut_seen g k files count numbers start history ready in
    subst (λ (sp : Space). Mirrors (IsUsed k.volume) numbers (volume_space k.volume) sp) (space_cut s) (world_mirror k.volume [] [] seen.words numbers (cut_of s) count seen.world)

pub rows_are_alike : RowsAreAlike
rows_are_alike g k files count numbers start history ready =
    HaveSameRows-Mirrors (IsUsed k.volume) numbers (volume_space k.volume) (space (run start history)) (batch_mirror g k files count numbers start history ready)

pub paths_lead_alike : PathsLeadAlike
paths_lead_alike g k files count numbers start history p ready =
    node_at_path-same (IsUsed k.volume) numbers (volume_space k.volume) (space (run start history)) (batch_mirror g k files count numbers start history ready) p
