-- A change that leaves the state is cut off: each image is kept.
use Rattle.std.specs.Prelude.{◌≡◌, ◌≢◌, ◌⊎◌, ◌<◌, ℕ, List, [], ◌∷◌, ◌++◌, Option, Some, None, refl}
use Rattle.std.proofs.Common.{◌∙◌, sym, subst, inl, inr}
use Rattle.std.proofs.lemmas.List.{append-nil}
use Rattle.live_step_laws.specs.pm_model.declared.Cell.{Cell}
use Rattle.live_step_laws.specs.pm_model.Images.{ComesFrom, IsImage}
use Rattle.live_step_laws.specs.pm_model.Words.{Words}
use Rattle.live_step_laws.specs.layout_model.Journal.{IsSound, journaled}
use Rattle.live_step_laws.specs.layout_model.declared.lines.Draft.{Draft}
use Rattle.live_step_laws.specs.image_model.Reading.{Reads}
use Rattle.live_step_laws.specs.image_model.Volume.{Volume}
use Rattle.live_step_laws.specs.k_split_model.Stands.{IsOldOrNew}
use Rattle.live_step_laws.specs.list_laws.Members.{In}
use Rattle.live_step_laws.specs.posix_types.declared.call.Mode.{Mode}
use Rattle.live_step_laws.specs.posix_types.declared.item.Item.{Item}
use Rattle.live_step_laws.specs.posix_spec.Run.{run}
use Rattle.live_step_laws.specs.posix_spec.State.{State}
use Rattle.live_step_laws.specs.world_model.Jobs.{Job, staged_block}
use Rattle.live_step_laws.specs.world_model.Shown.{AreFilled, landed_pairs}
use Rattle.live_step_laws.specs.world_step_laws.Worlds.{IsWorld}
use Rattle.live_step_laws.specs.world_image_laws.Changed.{ShowsLog-same, sound_headed}
use Rattle.live_step_laws.specs.world_image_laws.Images.{HasLogHome, HasRoom, IsHeaded, ShowsLog, ShowsWorld, StandsFor}
use Rattle.live_step_laws.specs.world_image_laws.ImagesLaws.{Takes}
use Rattle.live_step_laws.specs.world_image_laws.LentLaws.{AreFound}
use Rattle.live_step_laws.specs.world_image_laws.Promised.{IsKept}
use Rattle.live_step_laws.specs.world_image_laws.Back.{calls_in_log, IsKeptBack, jobs_in_log}
use Rattle.live_step_laws.specs.world_image_laws.Flights.{image_of, kept_mode, shows_back, shows_in_log, ShowsBack, small_lap}
use Rattle.live_step_laws.specs.world_image_laws.InLog.{put_in_log, slots_in_log, whole_in_log}
use Rattle.live_step_laws.specs.Changes.{AreSpare, IsChangeWith}
use Rattle.live_step_laws.proofs.Devices.{keeps_log_home_with, named_same}
use Rattle.live_step_laws.proofs.Named.{world_named}
use Rattle.live_step_laws.proofs.Words.{headed_changed}

-- the blocks of each job are the same in both volumes
abbrev pub HaveSameBlocks : Volume → Volume → List Job → Type 0
HaveSameBlocks v w jobs = (j : Job) → In j jobs → (i : ℕ) → i < j.draft.count → staged_block w j.draft i ≡ staged_block v j.draft i

-- what of jobs landed is in the log of both
pub filled-same : (v w : Volume) (f : Words) (jobs : List Job) (slots : List (Option ℕ)) → HaveSameBlocks v w jobs → AreFilled v f jobs slots → AreFilled w f jobs slots
filled-same v w f [] slots same filled = tt
filled-same v w f (j ∷ jobs) [] same filled = tt
filled-same v w f (j ∷ jobs) (None ∷ slots) same filled = filled-same v w f jobs slots (λ i is. same i (inr is)) filled
filled-same v w f (j ∷ jobs) (Some slot ∷ slots) same filled = (
  λ i b x below at x_below. filled.0 i b x below (sym (same j (inl refl) i below) ∙ at) x_below,
  filled-same v w f jobs slots (λ i is. same i (inr is)) filled.1,
)

in-log : (slots : List (Option ℕ)) (jobs : List Job) (j : Job) → In j (jobs_in_log slots jobs) → In j jobs
in-log [] jobs j is = absurd is
in-log (o ∷ slots) [] j is = absurd is
in-log (None ∷ slots) (i ∷ jobs) j is = inr (in-log slots jobs j is)
in-log (Some slot ∷ slots) (i ∷ jobs) j (inl same) = inl same
in-log (Some slot ∷ slots) (i ∷ jobs) j (inr rest) = inr (in-log slots jobs j rest)

module _ (blocks : List ℕ) (v w : Volume) (d e : List Cell) (claims : List (ℕ × Draft)) (jobs : List Job) (numbers : List ℕ) (s : State) (count : ℕ) (device : StandsFor v d claims jobs numbers s count)
    (change : IsChangeWith blocks v w d e) (spare : AreSpare blocks v) (room : HasRoom w claims jobs s) (takes : Takes v w claims jobs numbers numbers s s count count) where
  -- an image of the device then
  module _ (image : Words) (of_device : IsImage e image) where
    from : (before : Words) × ComesFrom d image before × IsOldOrNew v.geometry blocks v w before image
    from = change.each_image image of_device

    was : IsWorld v claims jobs (journaled from.0) numbers s count
    was = device.world from.0 from.1.is_image

    sound : IsSound v.geometry from.0
    sound = sound_headed v.geometry from.0 (device.headed from.0 from.1.is_image)

    headed : IsHeaded v.geometry image
    headed = headed_changed v.geometry blocks v w from.0 image spare.in_data from.2 (device.headed from.0 from.1.is_image) change.base (device.stands.reads from.0 from.1.is_image).base

    world : IsWorld v claims jobs (journaled image) numbers s count
    world = world_named v claims jobs (journaled from.0) (journaled image) numbers s count (named_same blocks v w claims jobs numbers s count from.0 image was sound from.2 spare) was

    -- log lines and blocks of jobs were put back
    shows-put_back : (slots : List (Option ℕ)) → HaveSameBlocks v w jobs → ShowsBack v claims (jobs_in_log slots jobs) image
        → ShowsWorld v claims (jobs_in_log slots jobs) numbers s count image ⊎ ShowsWorld w claims (jobs_in_log slots jobs) numbers s count image
    shows-put_back slots same shows = elim from.2.reads [
      | inl reads ↦ inl (shows_in_log v claims jobs slots numbers s count image headed reads world device.room shows)
      | inr reads ↦
          inr (shows_in_log w claims jobs slots numbers s count image (subst (λ g. IsHeaded g image) (sym change.geometry) headed) (subst (λ g. Reads g (journaled image) w) (sym change.geometry) reads) (takes (journaled image) world) room
          (record {
            landed = shows.landed;
            filled = filled-same v w (journaled image) (jobs_in_log slots jobs) shows.landed (λ j is. same j (in-log slots jobs j is)) shows.filled;
            log = ShowsLog-same v w (claims ++ landed_pairs (jobs_in_log slots jobs) shows.landed) (journaled image) (journaled image) change.geometry change.base (record { words = λ slot i below at. refl }) shows.log;
          }))
    ]

  module _ (start : State) (history : List Item) (mode : start.mode ≢ Mode.Posix) (is_run : s ≡ run start history) (found : AreFound start jobs) where
    kept : (slots : List (Option ℕ)) (image : Words) → ShowsWorld v claims (jobs_in_log slots jobs) numbers s count image ⊎ ShowsWorld w claims (jobs_in_log slots jobs) numbers s count image
        → IsKept v.geometry start history (calls_in_log slots jobs) image
    kept slots image (inl old) =
        kept_mode start.mode v claims (jobs_in_log slots jobs) numbers count image start history refl mode (λ strict. whole_in_log slots jobs (found strict)) (subst (λ x. ShowsWorld v claims (jobs_in_log slots jobs) numbers x count image) is_run old)
    kept slots image (inr new) =
        subst (λ g. IsKept g start history (calls_in_log slots jobs) image) change.geometry
        (kept_mode start.mode w claims (jobs_in_log slots jobs) numbers count image start history refl mode (λ strict. whole_in_log slots jobs (found strict)) (subst (λ x. ShowsWorld w claims (jobs_in_log slots jobs) numbers x count image) is_run new))

    pub kept-back : HaveSameBlocks v w jobs → (first : Words) → IsKeptBack v e first claims jobs start history []
    kept-back same first back slots image is =
        let of_device = image_of e back image is.image_is in
        let before = (from image of_device).1.is_image in
        let shows =
        shows_back v e claims (jobs_in_log slots jobs) back first (slots_in_log slots jobs) image (headed image of_device) (small_lap v d claims jobs numbers s count (from image of_device).0 device before)
        (put_in_log v e back first claims jobs slots image is)
        in
        subst (λ cs. IsKept v.geometry start history cs image) (sym (append-nil (calls_in_log slots jobs))) (kept slots image (shows-put_back image of_device slots same shows))

    -- log lines at home: nothing of a job is there
    pub kept-home : HaveSameBlocks v w jobs → HasLogHome v d claims → (image : Words) → IsImage e image → IsKept v.geometry start history [] image
    kept-home same home image of_device =
        let log_new = keeps_log_home_with blocks v w d e claims device.headed change spare home image of_device in
        let log_old = ShowsLog-same w v claims (journaled image) (journaled image) (sym change.geometry) (sym change.base) (record { words = λ slot i below at. refl }) log_new in
        let shows : ShowsBack v claims [] image = record { landed = []; filled = tt; log = subst (λ cs. ShowsLog v cs (journaled image)) (sym (append-nil claims)) log_old } in
        kept [] image (shows-put_back image of_device [] same shows)
