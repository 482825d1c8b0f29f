-- A change that writes spare blocks, of a device whose images have zeros behind the end of a file: done and cut off.
use Rattle.std.specs.Prelude.{◌≡◌, ◌≢◌, ◌⊎◌, ◌<◌, ◌/◌, ◌%◌, ℕ, List, [], ◌∷◌, ◌++◌, length, Option, Some, None, refl}
use Rattle.std.proofs.Common.{arith, ◌∙◌, subst, sym, inl, inr}
use Rattle.file_calls.specs.live_step_laws.pm_model.declared.Cell.{Cell}
use Rattle.file_calls.specs.live_step_laws.pm_model.Images.{ComesFrom, IsImage}
use Rattle.file_calls.specs.live_step_laws.pm_model.Words.{Words}
use Rattle.file_calls.specs.live_step_laws.layout_model.Journal.{IsSound, journaled}
use Rattle.file_calls.specs.live_step_laws.layout_model.declared.lines.Draft.{Draft}
use Rattle.file_calls.specs.eof_laws.image_model.Content.{byte_in}
use Rattle.file_calls.specs.eof_laws.image_model.Reading.{Reads}
use Rattle.file_calls.specs.eof_laws.image_model.Volume.{extents, Volume}
use Rattle.file_calls.specs.live_step_laws.extent_model.Extents.{disk_at}
use Rattle.file_calls.specs.eof_laws.k_split_model.Stands.{IsOldOrNew, Stands}
use Rattle.file_calls.specs.live_step_laws.posix_types.declared.item.Item.{Item}
use Rattle.file_calls.specs.live_step_laws.posix_types.declared.call.Mode.{Mode}
use Rattle.file_calls.specs.live_step_laws.posix_spec.Run.{Unfinished}
use Rattle.file_calls.specs.live_step_laws.posix_spec.State.{State}
use Rattle.file_calls.specs.live_step_laws.live_model.world_model.Jobs.{Job}
use Rattle.file_calls.specs.live_step_laws.live_model.world_step_laws.Worlds.{IsWorld}
use Rattle.file_calls.specs.live_step_laws.live_model.world_image_laws.Changed.{sound_headed}
use Rattle.file_calls.specs.live_step_laws.live_model.world_image_laws.Images.{HasRoom, IsHeaded, ShowsWorld, StandsFor}
use Rattle.file_calls.specs.live_step_laws.live_model.world_image_laws.Promised.{IsKept}
use Rattle.file_calls.specs.live_step_laws.world_image_laws.Back.{calls_in_log, IsKeptBack, jobs_in_log}
use Rattle.file_calls.specs.live_step_laws.world_image_laws.Flights.{image_of, kept_leading, shows_back, shows_changed, shows_in_log, ShowsBack, small_lap}
use Rattle.file_calls.specs.live_step_laws.world_image_laws.InLog.{put_in_log, slots_in_log}
use Rattle.file_calls.specs.live_step_laws.world_image_laws.LentLaws.{AreFound, LeadsTo, SameBlocks}
use Rattle.file_calls.specs.live_step_laws.Changes.{AreSpare, IsChangeWith}
use Rattle.file_calls.proofs.live_step_laws_proofs.Devices.{named_same}
use Rattle.file_calls.proofs.live_step_laws_proofs.Named.{SameNamed, world_named}
use Rattle.file_calls.proofs.live_step_laws_proofs.Words.{headed_changed}
use Rattle.file_truncate.specs.Sizes.{AreZeros}

-- zeros of a file stay where the bytes of the blocks that maps have are the same
pub zeros_named : (v : Volume) (ino from to : ℕ) (f g : Words) → ino < length v.inodes → SameNamed v f g → AreZeros v ino from to f → AreZeros v ino from to g
zeros_named v ino from to f g below same zeros i least most = by (disk_at (extents v ino) (i / 4096)) refl where
  by : (o : Option ℕ) → disk_at (extents v ino) (i / 4096) ≡ o → byte_in g (disk_at (extents v ino) (i / 4096)) i ≡ 0
  by None at = subst (λ o. byte_in g o i ≡ 0) (sym at) refl
  by (Some b) at =
      let was : byte_in f (Some b) i ≡ 0 = subst (λ o. byte_in f o i ≡ 0) at (zeros i least most) in
      subst (λ o. byte_in g o i ≡ 0) (sym at) (same.each ino (i / 4096) b (i % 4096) below at (omega arith) ∙ was)

module _ (blocks : List ℕ) (v w : Volume) (d e : List Cell) (claims : List (ℕ × Draft)) (jobs : List Job) (numbers : List ℕ) (s new : State) (count : ℕ) (ino from to : ℕ) (below : ino < length v.inodes)
    (device : StandsFor v d claims jobs numbers s count) (change : IsChangeWith blocks v w d e) (spare : AreSpare blocks v) (room : HasRoom w claims jobs new)
    (takes : (f : Words) → IsWorld v claims jobs f numbers s count → AreZeros v ino from to f → IsWorld w claims jobs f numbers new count)
    (zeros : (image : Words) → IsImage d image → AreZeros v ino from to (journaled image)) where
  module _ (image : Words) (of_device : IsImage e image) where
    before : (b : Words) × ComesFrom d image b × IsOldOrNew v.geometry blocks v w b image
    before = change.each_image image of_device

    was : IsWorld v claims jobs (journaled before.0) numbers s count
    was = device.world before.0 before.1.is_image

    sound : IsSound v.geometry before.0
    sound = sound_headed v.geometry before.0 (device.headed before.0 before.1.is_image)

    pub headed : IsHeaded v.geometry image
    headed = headed_changed v.geometry blocks v w before.0 image spare.in_data before.2 (device.headed before.0 before.1.is_image) change.base (device.stands.reads before.0 before.1.is_image).base

    same : SameNamed v (journaled before.0) (journaled image)
    same = named_same blocks v w claims jobs numbers s count before.0 image was sound before.2 spare

    world_old : IsWorld v claims jobs (journaled image) numbers s count
    world_old = world_named v claims jobs (journaled before.0) (journaled image) numbers s count same was

    pub world_new : IsWorld w claims jobs (journaled image) numbers new count
    world_new = takes (journaled image) world_old (zeros_named v ino from to (journaled before.0) (journaled image) below same (zeros before.0 before.1.is_image))

    shows : (slots : List (Option ℕ)) → SameBlocks v w jobs → ShowsBack v claims (jobs_in_log slots jobs) image
        → ShowsWorld v claims (jobs_in_log slots jobs) numbers s count image ⊎ ShowsWorld w claims (jobs_in_log slots jobs) numbers new count image
    shows slots blocks_same back = elim before.2.reads [
      | inl old ↦ inl (shows_in_log v claims jobs slots numbers s count image headed old world_old device.room back)
      | inr new_one ↦
          inr (shows_in_log w claims jobs slots numbers new count image (subst (λ y. IsHeaded y image) (sym change.geometry) headed) (subst (λ y. Reads y (journaled image) w) (sym change.geometry) new_one) world_new room
          (shows_changed v w claims jobs slots image change.geometry change.base blocks_same back))
    ]

  -- DONE
  pub device_on : Stands w.geometry w e → StandsFor w e claims jobs numbers new count
  device_on stands = record {
    stands = stands;
    headed = λ image is. subst (λ y. IsHeaded y image) (sym change.geometry) (headed image is);
    world = λ image is. world_new image is;
    room = room;
  }

  -- CUT OFF
  pub kept_image : (start : State) (history : List Item) (c : Unfinished) → start.mode ≢ Mode.Posix → AreFound start jobs → SameBlocks v w jobs → LeadsTo start history c jobs s → LeadsTo start history c jobs new
      → (first : Words) → IsKeptBack v e first claims jobs start history (c ∷ [])
  kept_image start history c mode found blocks_same before_leads after_leads first back slots image is =
      let of_device = image_of e back image is.image_is in
      let put =
      shows_back v e claims (jobs_in_log slots jobs) back first (slots_in_log slots jobs) image (headed image of_device) (small_lap v d claims jobs numbers s count (before image of_device).0 device (before image of_device).1.is_image)
      (put_in_log v e back first claims jobs slots image is)
      in
      elim (shows image of_device slots blocks_same put) [
        | inl old ↦ kept_leading v claims jobs slots numbers s count image start history c mode found before_leads old
        | inr changed ↦
            subst (λ y. IsKept y start history (calls_in_log slots jobs ++ c ∷ []) image) change.geometry
            (kept_leading w claims jobs slots numbers new count image start history c mode found after_leads changed)
      ]
