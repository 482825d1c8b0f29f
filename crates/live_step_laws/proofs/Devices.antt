-- A change that writes spare blocks, done and cut off.
use Rattle.std.specs.Prelude.{◌≡◌, ◌⊎◌, ◌<◌, ◌≤◌, ◌+◌, ◌*◌, ◌/◌, ◌^◌, ℕ, List, [], ◌∷◌, ◌++◌, Option, None, Some, refl}
use Rattle.std.proofs.Common.{ap, inl, inr, ◌∙◌, subst, sym}
use Rattle.fsync_relink.specs.world_write_laws.pm_model.declared.Cell.{Cell}
use Rattle.fsync_relink.specs.world_write_laws.pm_model.Images.{ComesFrom, IsImage}
use Rattle.fsync_relink.specs.world_write_laws.pm_model.Words.{Words}
use Rattle.fsync_relink.specs.world_write_laws.layout_model.Journal.{IsSound, journaled}
use Rattle.fsync_relink.specs.world_write_laws.layout_model.declared.lines.Draft.{Draft}
use Rattle.fsync_relink.specs.world_write_laws.image_model.Reading.{Reads}
use Rattle.fsync_relink.specs.world_write_laws.image_model.Volume.{Volume}
use Rattle.fsync_relink.specs.world_write_laws.k_split_model.Stands.{IsOldOrNew}
use Rattle.fsync_relink.specs.world_write_laws.posix_spec.State.{State}
use Rattle.fsync_relink.specs.world_write_laws.world_model.Jobs.{Job}
use Rattle.fsync_relink.specs.world_write_laws.world_model.Lent.{in_data}
use Rattle.fsync_relink.specs.world_write_laws.world_step_laws.Worlds.{IsWorld}
use Rattle.k_split_laws.specs.world_image_laws.Changed.{ShowsLog-same, sound_headed}
use Rattle.k_split_laws.specs.world_image_laws.Images.{HasRoom, IsHeaded, ShowsWorld, StandsFor}
use Rattle.k_split_laws.specs.world_image_laws.ImagesLaws.{Takes}
use Rattle.k_split_laws.specs.world_image_laws.InLog.{put_in_log, slots_in_log}
use Rattle.k_split_laws.specs.world_image_laws.Promised.{IsKept}
use Rattle.k_split_laws.specs.world_image_laws.Back.{calls_in_log, IsPutBack, jobs_in_log}
use Rattle.k_split_laws.specs.world_image_laws.Flights.{image_of, kept_leading, shows_back, shows_changed, shows_in_log, ShowsBack, small_lap}
use Rattle.k_split_laws.specs.world_image_laws.LentLaws.{SameBlocks}
use Rattle.live_step_laws.specs.Changes.{AreSpare, IsChangeWith}
use Rattle.live_step_laws.specs.ChangesLaws.{ChangesDeviceWith, KeepsLogHomeWith, KeepsPromiseWith}
use Rattle.live_step_laws.specs.FillsLaws.{ChangesDeviceRead, KeepsPromiseRead, TakesWhereRead}
use Rattle.live_step_laws.proofs.Named.{SameNamed, world_named}
use Rattle.live_step_laws.proofs.Words.{headed_changed, same_block, same_log}

-- the bytes of the blocks that maps have are those before
pub named_same : (blocks : List ℕ) (v w : Volume) (claims : List (ℕ × Draft)) (jobs : List Job) (numbers : List ℕ) (s : State) (count : ℕ) (before image : Words) → IsWorld v claims jobs (journaled before) numbers s count → IsSound v.geometry before
    → IsOldOrNew v.geometry blocks v w before image → AreSpare blocks v → SameNamed v (journaled before) (journaled image)
named_same blocks v w claims jobs numbers s count before image world sound is spare = record {
  each = λ ino block b i below at within.
      same_block v.geometry blocks v w before image spare.in_data is b i sound (in_data v world.valid.stands.sane ino block b below at) (λ k k_below same. spare.apart ino block k below k_below (at ∙ ap Some (sym same))) within;
}

-- ---- done

pub changes_device_read : ChangesDeviceRead
changes_device_read blocks v w d e claims jobs numbers after s new count later device change spare stands room takes = record {
  stands = stands;
  headed = λ image is.
      let from = change.each_image image is in
      subst (λ g. IsHeaded g image) (sym change.geometry)
      (headed_changed v.geometry blocks v w from.0 image spare.in_data from.2 (device.headed from.0 from.1.is_image) change.base (device.stands.reads from.0 from.1.is_image).base);
  world = λ image is.
      let from = change.each_image image is in
      let was = device.world from.0 from.1.is_image in
      takes image is (subst (λ g. Reads g (journaled image) w) change.geometry (stands.reads image is))
      (world_named v claims jobs (journaled from.0) (journaled image) numbers s count
      (named_same blocks v w claims jobs numbers s count from.0 image was (sound_headed v.geometry from.0 (device.headed from.0 from.1.is_image)) from.2 spare) was);
  room = room;
}

pub changes_device_with : ChangesDeviceWith
changes_device_with blocks v w d e claims jobs numbers after s new count later device change spare stands room takes =
    changes_device_read blocks v w d e claims jobs numbers after s new count later device change spare stands room (λ image is reads world. takes (journaled image) world)

pub keeps_log_home_with : KeepsLogHomeWith
keeps_log_home_with blocks v w d e claims headed change spare home image is =
    let from = change.each_image image is in
    ShowsLog-same v w claims (journaled from.0) (journaled image) change.geometry change.base
    (same_log v.geometry blocks v w from.0 image spare.in_data from.2 (sound_headed v.geometry from.0 (headed from.0 from.1.is_image))) (home from.0 from.1.is_image)

-- ---- cut off

-- An image within the change shows the world before it, or the one after it, with the same of its log.
shows_with : (blocks : List ℕ) (v w : Volume) (d e : List Cell) (claims : List (ℕ × Draft)) (jobs : List Job) (numbers after : List ℕ) (s new : State) (count later : ℕ) (back : ℕ → Cell) (first : Words) (slots : List (Option ℕ)) (image : Words)
    → StandsFor v d claims jobs numbers s count → IsChangeWith blocks v w d e → AreSpare blocks v → SameBlocks v w jobs → HasRoom w claims jobs new → TakesWhereRead v w e claims jobs numbers after s new count later
    → IsPutBack v e back first claims jobs slots image → ShowsWorld v claims (jobs_in_log slots jobs) numbers s count image ⊎ ShowsWorld w claims (jobs_in_log slots jobs) after new later image
shows_with blocks v w d e claims jobs numbers after s new count later back first slots image device change spare same room takes is = by from.2.reads where
  from : (before : Words) × ComesFrom d image before × IsOldOrNew v.geometry blocks v w before image
  from = change.each_image image (image_of e back image is.image_is)

  was : IsWorld v claims jobs (journaled from.0) numbers s count
  was = device.world from.0 from.1.is_image

  sound : IsSound v.geometry from.0
  sound = sound_headed v.geometry from.0 (device.headed from.0 from.1.is_image)

  headed : IsHeaded v.geometry image
  headed = headed_changed v.geometry blocks v w from.0 image spare.in_data from.2 (device.headed from.0 from.1.is_image) change.base (device.stands.reads from.0 from.1.is_image).base

  world : IsWorld v claims jobs (journaled image) numbers s count
  world = world_named v claims jobs (journaled from.0) (journaled image) numbers s count (named_same blocks v w claims jobs numbers s count from.0 image was sound from.2 spare) was

  shows : ShowsBack v claims (jobs_in_log slots jobs) image
  shows = shows_back v e claims (jobs_in_log slots jobs) back first (slots_in_log slots jobs) image headed (small_lap v d claims jobs numbers s count from.0 device from.1.is_image) (put_in_log v e back first claims jobs slots image is)

  by : Reads v.geometry (journaled image) v ⊎ Reads v.geometry (journaled image) w → ShowsWorld v claims (jobs_in_log slots jobs) numbers s count image ⊎ ShowsWorld w claims (jobs_in_log slots jobs) after new later image
  by (inl old) = inl (shows_in_log v claims jobs slots numbers s count image headed old world device.room shows)
  by (inr new_one) =
      inr (shows_in_log w claims jobs slots after new later image (subst (λ g. IsHeaded g image) (sym change.geometry) headed) (subst (λ g. Reads g (journaled image) w) (sym change.geometry) new_one)
      (takes image (image_of e back image is.image_is) new_one world) room (shows_changed v w claims jobs slots image change.geometry change.base same shows))

pub promise_read : KeepsPromiseRead
promise_read blocks v w d e claims jobs numbers after s new start history count later first c mode found device before behind change spare same room takes back slots image is =
    elim (shows_with blocks v w d e claims jobs numbers after s new count later back first slots image device change spare same room takes is) [
      | inl old ↦ kept_leading v claims jobs slots numbers s count image start history c mode found before old
      | inr changed ↦
          subst (λ g. IsKept g start history (calls_in_log slots jobs ++ c ∷ []) image) change.geometry
          (kept_leading w claims jobs slots after new later image start history c mode found behind changed)
    ]

pub promise_with : KeepsPromiseWith
promise_with blocks v w d e claims jobs numbers after s new start history count later first c mode found device before behind change spare same room takes =
    promise_read blocks v w d e claims jobs numbers after s new start history count later first c mode found device before behind change spare same room (λ image is reads world. takes (journaled image) world)
