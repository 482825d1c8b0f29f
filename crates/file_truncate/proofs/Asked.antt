-- What the changes of a `truncate` ask for.
use Rattle.std.specs.Prelude.{◌≡◌, ◌≤◌, ◌<◌, ◌+◌, List, [], ◌∷◌, length, map, Some, refl}
use Rattle.std.proofs.Common.{arith, ap, ◌∙◌, sym}
use Rattle.in_place.specs.layout_model.declared.lines.Draft.{Draft}
use Rattle.in_place.specs.layout_model.Places.{reserve}
use Rattle.in_place.specs.write_plan.image_model.Content.{size_by}
use Rattle.in_place.specs.write_plan.image_model.Live.{latest}
use Rattle.in_place.specs.write_plan.image_model.Room.{unused_blocks}
use Rattle.in_place.specs.write_plan.image_model.Volume.{inode}
use Rattle.in_place.specs.write_plan.file_table.Files.{Files, runs_in, size_in}
use Rattle.in_place.specs.write_plan.k_split_model.View.{View}
use Rattle.posix_types.specs.declared.call.Who.{Who}
use Rattle.posix_types.specs.declared.handle.Handle.{Handle}
use Rattle.posix_tables.specs.declared.open.Description.{Description}
use Rattle.posix_tables.specs.Open.{opened, Tables}
use Rattle.file_calls.specs.live_step_laws.k_map_plans.Plans.{IsLiveFile}
use Rattle.file_calls.specs.live_step_laws.live_model.Overlays.{run_of}
use Rattle.file_calls.specs.live_step_laws.world_model.TreeRules.{used_below}
use Rattle.file_calls.specs.live_step_laws.world_model.Jobs.{live_claims}
use Rattle.file_calls.specs.live_step_laws.world_model.Stands.{entries_of, is_used}
use Rattle.file_calls.specs.Runs.{RunsInSome}
use Rattle.file_calls.proofs.CloseCalls.{handle_open}

none_mapped : (ds : List Draft) → [] ≡ map run_of ds → ds ≡ []
none_mapped [] is = refl
none_mapped (d ∷ ds) is = let never : [] ≡ run_of d ∷ map run_of ds = is in cc

module _ (k : View) (t : Tables) (f : Files) (some : RunsInSome k t f) where
  pub reserve_there : reserve k.volume.geometry ≤ unused_blocks k.volume + 3
  reserve_there =
      let free = some.runs.flying.device.room.free in
      omega (arith, free)

  module _ (who : Who) (h : Handle) (d : Description) (known : opened t who h ≡ Some d) where
    pub live_file : IsLiveFile d.node k.volume
    live_file =
        let file = some.runs.open_are_files d.node (handle_open t who h d known) in
        record { below = used_below k.volume d.node (ap is_used file); file = file }

    pub line_there : d.node < length f.sizes
    line_there = let below = live_file.below in let lines = some.runs.sizes.count in omega (arith, below, lines)

    -- where nothing is staged, its size is that of its inode
    pub published : runs_in f d.node ≡ [] → (inode k.volume d.node).size ≡ size_in f d.node
    published bare =
        let over = some.runs.flying.overlays d.node live_file.file in
        let none : entries_of d.node (live_claims k.volume some.kept.claims) ≡ [] = none_mapped (entries_of d.node (live_claims k.volume some.kept.claims)) (sym bare ∙ over.runs_are) in
        sym (over.size_is ∙ ap (λ ds. size_by (latest ds) (inode k.volume d.node).size) none)
