-- A running world, its promise, and what a change of its volume makes of it, done or cut off.
use Rattle.std.specs.Prelude.{◌≡◌, ◌≢◌, ◌⊎◌, ℕ, true, List, [], ◌∷◌, refl}
use Rattle.std.proofs.Common.{ap, append-nil, ◌∙◌, sym, subst, inl, inr}
use Rattle.image_laws.specs.pm_model.declared.Cell.{Cell}
use Rattle.image_laws.specs.pm_model.Images.{ComesFrom, IsImage}
use Rattle.image_laws.specs.pm_model.Words.{Words}
use Rattle.image_laws.specs.layout_model.Journal.{IsSound, journaled}
use Rattle.image_laws.specs.layout_model.Places.{Geometry, is_data_block}
use Rattle.image_laws.specs.layout_model.declared.lines.Draft.{Draft}
use Rattle.image_laws.specs.image_model.Reading.{Reads}
use Rattle.image_laws.specs.image_model.Volume.{Volume}
use Rattle.world_step_laws.specs.k_split_model.Stands.{IsOldOrNew}
use Rattle.world_step_laws.specs.world_model.posix_types.declared.call.Mode.{Mode}
use Rattle.world_step_laws.specs.world_model.posix_types.declared.item.Item.{Item}
use Rattle.world_step_laws.specs.world_model.posix_types.declared.tree.TreeEntry.{TreeEntry}
use Rattle.world_step_laws.specs.world_model.posix_spec.Run.{Unfinished, run}
use Rattle.world_step_laws.specs.world_model.posix_spec.State.{State}
use Rattle.world_step_laws.specs.world_model.posix_spec.Tree.{tree}
use Rattle.world_step_laws.specs.world_model.crash_spec.Permitted.{StronglyPermitted}
use Rattle.world_step_laws.specs.world_model.crash_spec.RelationLaws.{StronglyPermitted-none, Sync-one}
use Rattle.world_step_laws.specs.world_model.crash_spec.Strict.{Strict-one}
use Rattle.world_step_laws.specs.world_model.Jobs.{Job}
use Rattle.world_step_laws.specs.world_model.Shown.{SameButLent}
use Rattle.world_image_laws.specs.Changed.{headed_changed, IsWorld-words, same_data, SameLog-changed, ShowsLog-same, sound_headed}
use Rattle.world_image_laws.specs.Images.{HasRoom, IsChange, IsHeaded, IsRunning, ShowsLog, ShowsWorld}
use Rattle.world_image_laws.specs.Kept.{kept_one}
use Rattle.world_image_laws.specs.ImagesLaws.{ChangesDevice, IsTreeOf, KeepsLogHome, KeepsPromiseBetween, KeepsPromiseInChange, KeepsPromiseOfCall, RunsOn, RunsPromised, StaysRunning, Takes}
use Rattle.world_image_laws.specs.Promised.{IsKept}

-- each image of a running world shows it
pub shows_running : (v : Volume) (d : List Cell) (claims : List (ℕ × Draft)) (numbers : List ℕ) (s : State) (count : ℕ) (image : Words) → IsRunning v d claims numbers s count → IsImage d image
    → ShowsWorld v claims [] numbers s count image
shows_running v d claims numbers s count image running is = record {
  headed = running.device.headed image is;
  reads = running.device.stands.reads image is;
  world = running.device.world image is;
  room = running.device.room;
  landed = [];
  filled = tt;
  log = subst (λ cs. ShowsLog v cs (journaled image)) (sym (append-nil claims)) (running.log image is);
}

-- THE PROMISE of a running world: the tree of the history is left, whatever is unfinished.
pub promise_now : RunsPromised
promise_now v d claims numbers start history unfinished count running image is honest =
    kept_one v claims numbers (run start history) count image start history unfinished (shows_running v d claims numbers (run start history) count image running is) (StronglyPermitted-none start.mode start history unfinished)

-- ---- a change that is done

data_same : (u v w : Volume) (jobs : List Job) (before image : Words) → IsSound v.geometry before → IsOldOrNew v.geometry [] v w before image → u.geometry ≡ v.geometry → SameButLent u jobs (journaled before) (journaled image)
data_same u v w jobs before image sound is same b i in_data below lent =
    same_data v.geometry v w before image sound is b i (subst (λ (g : Geometry). is_data_block g b ≡ true) same in_data) below

-- THE DEVICE stands for the state after the change.
pub changes_device : ChangesDevice
changes_device v w d e claims jobs numbers after s new count later device change stands room takes = record {
  stands = stands;
  headed = λ image is.
      let from = change.each_image image is in
      subst (λ g. IsHeaded g image) (sym change.geometry)
      (headed_changed v.geometry v w from.0 image (device.headed from.0 from.1.is_image) from.2 change.base (device.stands.reads from.0 from.1.is_image).base);
  world = λ image is.
      let from = change.each_image image is in
      IsWorld-words w claims jobs (journaled from.0) (journaled image) after new later
      (data_same w v w jobs from.0 image (sound_headed v.geometry from.0 (device.headed from.0 from.1.is_image)) from.2 change.geometry)
      (takes (journaled from.0) (device.world from.0 from.1.is_image));
  room = room;
}

pub keeps_log_home : KeepsLogHome
keeps_log_home v w d e claims headed change home image is =
    let from = change.each_image image is in
    ShowsLog-same v w claims (journaled from.0) (journaled image) change.geometry change.base
    (SameLog-changed v.geometry v w from.0 image (sound_headed v.geometry from.0 (headed from.0 from.1.is_image)) from.2) (home from.0 from.1.is_image)

pub runs_on : RunsOn
runs_on v w d e claims numbers after s new count later running change stands room takes = record {
  device = changes_device v w d e claims [] numbers after s new count later running.device change stands room takes;
  log = keeps_log_home v w d e claims running.device.headed change running.log;
}

-- a call that leaves the device as it is
pub stays_running : StaysRunning
stays_running v d claims numbers after s new count later running shape takes = record {
  device = record {
    stands = running.device.stands;
    headed = running.device.headed;
    world = λ image is. takes (journaled image) (running.device.world image is);
    room = record { free = running.device.room.free; blocks = ap (λ x. x.data_blocks) shape ∙ running.device.room.blocks };
  };
  log = running.log;
}

-- ---- a change that is cut off

-- an image within the change shows the world before it, or the one after it
shows_changed : (v w : Volume) (d e : List Cell) (claims : List (ℕ × Draft)) (numbers after : List ℕ) (s new : State) (count later : ℕ) (image : Words) → IsRunning v d claims numbers s count → IsChange v w d e
    → HasRoom w claims [] new → Takes v w claims [] numbers after s new count later → IsImage e image
    → ShowsWorld v claims [] numbers s count image ⊎ ShowsWorld w claims [] after new later image
shows_changed v w d e claims numbers after s new count later image running change room takes is = by from.2.reads where
  from : (before : Words) × ComesFrom d image before × IsOldOrNew v.geometry [] v w before image
  from = change.each_image image is

  sound : IsSound v.geometry from.0
  sound = sound_headed v.geometry from.0 (running.device.headed from.0 from.1.is_image)

  headed : IsHeaded v.geometry image
  headed = headed_changed v.geometry v w from.0 image (running.device.headed from.0 from.1.is_image) from.2 change.base (running.device.stands.reads from.0 from.1.is_image).base

  by : Reads v.geometry (journaled image) v ⊎ Reads v.geometry (journaled image) w → ShowsWorld v claims [] numbers s count image ⊎ ShowsWorld w claims [] after new later image
  by (inl old) = inl (record {
    headed = headed;
    reads = old;
    world = IsWorld-words v claims [] (journaled from.0) (journaled image) numbers s count (data_same v v w [] from.0 image sound from.2 refl) (running.device.world from.0 from.1.is_image);
    room = running.device.room;
    landed = [];
    filled = tt;
    log = subst (λ cs. ShowsLog v cs (journaled image)) (sym (append-nil claims))
        (ShowsLog-same v v claims (journaled from.0) (journaled image) refl refl (SameLog-changed v.geometry v w from.0 image sound from.2) (running.log from.0 from.1.is_image));
  })
  by (inr new_one) = inr (record {
    headed = subst (λ g. IsHeaded g image) (sym change.geometry) headed;
    reads = subst (λ g. Reads g (journaled image) w) (sym change.geometry) new_one;
    world = IsWorld-words w claims [] (journaled from.0) (journaled image) after new later (data_same w v w [] from.0 image sound from.2 change.geometry) (takes (journaled from.0) (running.device.world from.0 from.1.is_image));
    room = room;
    landed = [];
    filled = tt;
    log = subst (λ cs. ShowsLog w cs (journaled image)) (sym (append-nil claims))
        (ShowsLog-same v w claims (journaled from.0) (journaled image) change.geometry change.base (SameLog-changed v.geometry v w from.0 image sound from.2) (running.log from.0 from.1.is_image));
  })

-- THE PROMISE within a change: where the trees before and after it are permitted.
pub promise_in_change : KeepsPromiseInChange
promise_in_change v w d e claims numbers after s new count later start history unfinished running change room takes before behind image is honest =
    elim (shows_changed v w d e claims numbers after s new count later image running change room takes is) [
      | inl old ↦ kept_one v claims numbers s count image start history unfinished old before
      | inr changed ↦
          subst (λ g. IsKept g start history unfinished image) change.geometry
          (kept_one w claims after new later image start history unfinished changed behind)
    ]

-- and so within a change of one call
permitted_one : (mode : Mode) (start : State) (history : List Item) (c : Unfinished) (t : List TreeEntry) → mode ≢ Mode.Posix → IsTreeOf start history c t → StronglyPermitted mode start history (c ∷ []) t
permitted_one mode start history c t other (inl before) = subst (StronglyPermitted mode start history (c ∷ [])) (sym before) (StronglyPermitted-none mode start history (c ∷ []))
permitted_one Mode.Strict start history c t other (inr behind) = subst (StronglyPermitted Mode.Strict start history (c ∷ [])) (sym behind) (Strict-one start history c)
permitted_one Mode.Sync start history c t other (inr behind) = subst (StronglyPermitted Mode.Sync start history (c ∷ [])) (sym behind) (Sync-one start history c)
permitted_one Mode.Posix start history c t other (inr behind) = absurd (other refl)

pub promise_of_call : KeepsPromiseOfCall
promise_of_call v w d e claims numbers after s new count later start history c mode running change room takes before behind =
    promise_in_change v w d e claims numbers after s new count later start history (c ∷ []) running change room takes
    (permitted_one start.mode start history c (tree s) mode before) (permitted_one start.mode start history c (tree new) mode behind)

pub promise_between : KeepsPromiseBetween
promise_between v d claims numbers s count start history c mode running tree_is image is honest =
    kept_one v claims numbers s count image start history (c ∷ []) (shows_running v d claims numbers s count image running is) (permitted_one start.mode start history c (tree s) mode tree_is)
