-- What a file has, in its map or staged, is where its content is read.
use Rattle.std.specs.Prelude.{◌≡◌, ◌⊎◌, ◌-◌, ℕ, List, Option, Some, None, IsSome, option_map, refl}
use Rattle.std.proofs.Common.{arith, inl, inr}
use Rattle.live_step_laws.specs.pm_model.ImageLaws.{IsImage-words_of}
use Rattle.live_step_laws.specs.pm_model.Images.{words_of}
use Rattle.live_step_laws.specs.extent_model.Extents.{disk_at}
use Rattle.live_step_laws.specs.layout_model.declared.lines.Draft.{Draft}
use Rattle.live_step_laws.specs.image_model.Content.{disk_by, entry_of_block}
use Rattle.live_step_laws.specs.image_model.Volume.{extents, Volume}
use Rattle.live_step_laws.specs.data_route.Reads.{source_by}
use Rattle.live_step_laws.specs.live_model.file_table.Files.{runs_in, size_in}
use Rattle.live_step_laws.specs.live_model.Overlays.{run_of}
use Rattle.live_step_laws.specs.world_model.Jobs.{live_claims}
use Rattle.live_step_laws.specs.world_model.Landed.{within_bounds}
use Rattle.live_step_laws.specs.world_model.Stands.{LogStands}
use Rattle.live_step_laws.specs.world_write_laws.PlaceSteps.{covering}
use Rattle.live_step_laws.proofs.live_model_proofs.OverlaysOverlays.{source_is_log}
use Rattle.write_plan.specs.file_overlay.Runs.{place_in, staged_at}
use Rattle.in_place.specs.PlaceLaws.{PresentIsFound}

module _ (v : Volume) (live : List Draft) (ino block : ℕ) (log : LogStands v live) where
  -- the block of an entry is mapped in its staging file
  entry_some : (o : Option Draft) → entry_of_block live ino block ≡ o → IsSome o → IsSome (disk_by v o ino block)
  entry_some None is some = cc
  entry_some (Some d) is some =
      let its = covering live ino block d is in
      let low = within_bounds d.file_block d.count block its.within in
      log.staged d its.is (block - d.file_block) (omega (arith, low.0, low.1))

  found : (o : Option (ℕ × ℕ)) (e : Option Draft) → entry_of_block live ino block ≡ e → source_by o (disk_at (extents v ino) block) ≡ source_by (option_map (place_in block) (option_map run_of e)) (disk_at (extents v ino) block)
      → (IsSome (disk_at (extents v ino) block) ⊎ IsSome o → IsSome (disk_by v e ino block)) × (IsSome (disk_by v e ino block) → IsSome (disk_at (extents v ino) block) ⊎ IsSome o)
  found None None is same = ((λ has. elim has [ inl mapped ↦ mapped | inr staged ↦ absurd (no staged) ]), (λ some. inl some)) where
    no : IsSome {T = ℕ × ℕ} None → ⊥
    no some = cc
  found (Some place) None is same = absurd (no (disk_at (extents v ino) block) same) where
    no : (disk : Option ℕ) → source_by (Some place) disk ≡ source_by None disk → ⊥
    no None equal = cc
    no (Some b) equal = cc
  found None (Some d) is same = absurd (no (disk_at (extents v ino) block) same) where
    no : (disk : Option ℕ) → source_by None disk ≡ source_by (Some (place_in block (run_of d))) disk → ⊥
    no None equal = cc
    no (Some b) equal = cc
  found (Some place) (Some d) is same = ((λ has. entry_some (Some d) is refl), (λ some. inr refl))

pub present_is_found : PresentIsFound
present_is_found g k t kept lines n s ino block stands file =
    let live = live_claims k.volume kept.claims in
    let log : LogStands k.volume live = (stands.flying.device.world (words_of k.cells) (IsImage-words_of k.cells)).valid.stands.log in
    found k.volume live ino block log (staged_at (runs_in kept.files ino) block) (entry_of_block live ino block) refl
    (source_is_log k.volume live ino (size_in kept.files ino) (runs_in kept.files ino) block log (stands.flying.overlays ino file))
