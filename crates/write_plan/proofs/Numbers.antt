-- What is kept of files beside the state.
use Rattle.std.proofs.Common.{◌≡◌, ◌-◌, ℕ, Bool, true, List, length, arith, ap, ◌∙◌, sym}
use Rattle.posix_tables.specs.block_counts.Counts.{reserve_for}
use Rattle.file_table.specs.pm_model.ImageLaws.{IsImage-words_of}
use Rattle.file_table.specs.pm_model.Images.{words_of}
use Rattle.file_table.specs.pm_model.Words.{Words}
use Rattle.file_table.specs.layout_model.Journal.{journaled}
use Rattle.file_table.specs.layout_model.Places.{Geometry}
use Rattle.layout_model.specs.declared.lines.Draft.{Draft}
use Rattle.layout_model.specs.declared.lines.Kind.{Kind}
use Rattle.layout_model.specs.declared.lines.Kind.TheVariants.{Directory, File, Free, Staging}
use Rattle.live_model.specs.image_model.Volume.{inode, Volume}
use Rattle.file_table.specs.Files.{size_in}
use Rattle.live_model.specs.world_model.HeldLaws.{HeldIsTheSum}
use Rattle.live_model.specs.k_split_model.View.{View}
use Rattle.posix_tables.specs.declared.nodes.Node.{Node}
use Rattle.posix_tables.specs.Nodes.{bytes_of, node_at}
use Rattle.posix_tables.specs.Open.{is_open, Tables}
use Rattle.open_files.specs.posix_spec.State.{State}
use Rattle.live_model.specs.world_model.TreeRules.{used_below}
use Rattle.live_model.specs.world_model.Jobs.{live_claims}
use Rattle.live_model.specs.world_model.Stands.{FileStands, is_used, NodeStands, number}
use Rattle.live_model.specs.Standing.{Kept, StandsAt}
use Rattle.write_plan.proofs.Calls.{handle_open}
use Rattle.write_plan.specs.Numbers.{OpenHaveLines, RoomIsKept, StandsAsKept}

pub file_node : (v : Volume) (live : List Draft) (f : Words) (ino : ℕ) (kind : Kind) (node : Node) → kind ≡ File → NodeStands v live f ino kind node → FileStands v live f ino (bytes_of node)
file_node v live f ino Free node file is = absurd is
file_node v live f ino Staging node file is = absurd is
file_node v live f ino Directory node file is = cc
file_node v live f ino File Node.Gone file is = absurd is
file_node v live f ino File Node.Directory file is = absurd is
file_node v live f ino File (Node.File x) file is = is

module _ (g : Geometry) (k : View) (t : Tables) (kept : Kept) (s : State) where
  -- the length of an open file
  pub length_at : {lines : Bool} {n : ℕ} → (stands : StandsAt g k t kept lines n s) → (ino : ℕ) → is_open t ino ≡ true → length (bytes_of (node_at s.nodes (number stands.numbers ino))) ≡ size_in kept.files ino
  length_at stands ino opened =
      let file = stands.open_are_files ino opened in
      let node = node_at s.nodes (number stands.numbers ino) in
      let valid = (stands.flying.device.world (words_of k.cells) (IsImage-words_of k.cells)).valid in
      let is = file_node k.volume (live_claims k.volume kept.claims) (journaled (words_of k.cells)) ino (inode k.volume ino).kind node file (valid.stands.nodes.each ino (ap is_used file)) in
      sym is.size ∙ sym (stands.flying.overlays ino file).size_is

pub stands_as_kept : StandsAsKept
stands_as_kept g k t kept lines n s stands = record { tables = stands.tables; sizes = length_at g k t kept s stands }

pub open_have_lines : OpenHaveLines
open_have_lines g k t kept lines n s stands who h d known =
    let below = used_below k.volume d.node (ap is_used (stands.open_are_files d.node (handle_open t who h d known))) in
    omega (arith, below, stands.sizes.count)

pub room_is_kept : HeldIsTheSum → RoomIsKept
room_is_kept held g k t kept lines n s stands =
    let valid = (stands.flying.device.world (words_of k.cells) (IsImage-words_of k.cells)).valid in
    let blocks = stands.flying.device.room.blocks in
    let sum = held k.volume (live_claims k.volume kept.claims) (journaled (words_of k.cells)) stands.numbers s kept.files.sizes valid.stands stands.sizes in
    λ i. blocks i - reserve_for (blocks i) - sym sum i
