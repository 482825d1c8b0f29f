-- The promise while writes are in flight, proved.
use Rattle.std.specs.Prelude.{◌≡◌, ◌≢◌, ◌⊎◌, ◌<◌, ◌≤◌, ◌+◌, ◌*◌, ◌/◌, ◌^◌, ℕ, cond, true, List, [], ◌∷◌, ◌++◌, Option, None, Some, map, refl}
use Rattle.std.proofs.Common.{ap, append-nil, arith, inl, inr, ◌∙◌, subst, sym}
use Rattle.image_laws.specs.pm_model.declared.Cell.{Cell}
use Rattle.image_laws.specs.pm_model.declared.Cell.TheVariants.{Lent, Marked, Single, Two}
use Rattle.image_laws.specs.pm_model.Bytes.{line_bytes-same}
use Rattle.image_laws.specs.pm_model.Cells.{cell, is_lent, IsCandidate}
use Rattle.image_laws.specs.pm_model.Images.{ComesFrom, IsImage}
use Rattle.image_laws.specs.pm_model.Parts.{IsImageWith, put_back}
use Rattle.image_laws.specs.pm_model.Words.{line_bytes, Words}
use Rattle.image_laws.specs.layout_model.Journal.{IsSound, journaled}
use Rattle.image_laws.specs.layout_model.PlaceLaws.{behind_log-not_journaled, behind_log-words}
use Rattle.image_laws.specs.layout_model.Places.{base_word, Geometry, is_data_block, log_line}
use Rattle.image_laws.specs.layout_model.declared.lines.Draft.{Draft}
use Rattle.image_laws.specs.layout_model.Entries.{is_self_valid}
use Rattle.image_laws.specs.image_model.Honest.{IsHonest, IsTorn}
use Rattle.image_laws.specs.image_model.Reading.{Reads}
use Rattle.image_laws.specs.image_model.Volume.{Volume}
use Rattle.world_step_laws.specs.world_model.volume_laws.ImageLaws.{journaled-other}
use Rattle.world_step_laws.specs.k_split_model.Stands.{IsOldOrNew}
use Rattle.world_step_laws.specs.commute_laws.posix_types.declared.call.Mode.{Mode}
use Rattle.world_step_laws.specs.commute_laws.posix_types.declared.item.Item.{Item}
use Rattle.world_step_laws.specs.commute_laws.posix_spec.Run.{after_call, Unfinished, run}
use Rattle.world_step_laws.specs.commute_laws.posix_spec.State.{room, State}
use Rattle.world_step_laws.specs.commute_laws.crash_spec.Permitted.{StronglyPermitted}
use Rattle.world_step_laws.specs.commute_laws.posix_types.declared.tree.TreeEntry.{TreeEntry}
use Rattle.world_step_laws.specs.commute_laws.Commutes.{takes}
use Rattle.world_step_laws.specs.commute_laws.Needs.{AreInFlight, Flight, LetsAllBe}
use Rattle.world_step_laws.specs.commute_laws.Needs as flying
use Rattle.world_step_laws.specs.commute_laws.Orders.{AreTwoEach, StrictFrom-last}
use Rattle.world_step_laws.specs.world_model.Jobs.{unfinished_call, Job, live_claims}
use Rattle.world_step_laws.specs.world_model.Promised.{content_shown}
use Rattle.world_step_laws.specs.world_model.Shown.{AreFilled, IsTreeOfContent, landed_pairs, SameButLent}
use Rattle.world_step_laws.specs.world_model.Ends.{StrictFrom-lost, SyncFrom-lost}
use Rattle.world_step_laws.specs.world_model.Promise.{strict_promise, sync_promise}
use Rattle.world_step_laws.specs.world_model.Lines.{HasLogWords}
use Rattle.world_step_laws.specs.world_model.Pictures.{keeps_laps, shows_pictures}
use Rattle.world_step_laws.specs.Steps.{AreInFlight-jobs, begun-flights, flights_of}
use Rattle.world_step_laws.specs.Worlds.{IsWorld}
use Rattle.world_image_laws.specs.Changed.{headed_changed, IsWorld-words, same_data, ShowsLog-same, sound_headed}
use Rattle.world_image_laws.specs.Images.{HasRoom, IsChange, IsHeaded, ShowsLog, ShowsWorld, StandsFor}
use Rattle.world_image_laws.specs.InLog.{beside_in_log, kept_back_more, put_in_log, room_in_log, slots_in_log, whole_in_log, world_in_log}
use Rattle.world_image_laws.specs.PartOrders.{SyncFrom-last}
use Rattle.world_image_laws.specs.Kept.{kept_by, kept_strict, kept_sync, shown}
use Rattle.world_image_laws.specs.ImagesLaws.{Takes}
use Rattle.world_image_laws.specs.Promised.{IsKept}
use Rattle.world_image_laws.specs.Back.{calls_in_log, IsPutBack, jobs_in_log}
use Rattle.world_image_laws.specs.LentLaws.{AreFound, KeepsPromiseAtBegin, KeepsPromiseBeside, KeepsPromiseBetween, KeepsPromiseInFlight, LeadsAfter, LeadsBefore, LeadsTo, SameBlocks, UnfinishedFrom}

-- ---- the words of the log

-- an image with cells put back is one of the device
candidate : (c back : Cell) (x : ℕ) → IsCandidate (cond (is_lent c) back c) x → IsCandidate c x
candidate (Single a) back x is = is
candidate (Two a b) back x is = is
candidate (Marked a b) back x is = is
candidate Lent back x is = tt

pub image_of : (d : List Cell) (back : ℕ → Cell) (image : Words) → IsImageWith d back image → IsImage d image
image_of d back image is i = candidate (cell d i) (back i) (image i) (is i)

behind_log : (g : Geometry) (slot i : ℕ) → i / 8 ≡ log_line g slot → log_line g 0 ≤ i / 8
behind_log g slot i at = omega (arith, at)

far_word : (n slot i : ℕ) → i / 8 ≡ 64 * n + slot → 512 * n ≤ i
far_word n slot i at = omega (arith, at)

-- no word of a log line is of the journal, or of a line that the journal may hold
seen_word : (g : Geometry) (image : Words) (slot i : ℕ) → IsSound g image → i / 8 ≡ log_line g slot → journaled image i ≡ image i
seen_word g image slot i sound at = journaled-other g image i sound (behind_log-words g i (far_word _ slot i at)) (behind_log-not_journaled g (i / 8) (behind_log g slot i at))

in_line : (line j : ℕ) → j < 8 → (8 * line + j) / 8 ≡ line
in_line line j below = omega (arith, below)

log_word : (g : Geometry) (image : Words) (slot j : ℕ) → IsSound g image → j < 8 → journaled image (8 * log_line g slot + j) ≡ image (8 * log_line g slot + j)
log_word g image slot j sound below = seen_word g image slot (8 * log_line g slot + j) sound (in_line (log_line g slot) j below)

same_line : (g : Geometry) (image : Words) (slot : ℕ) → IsSound g image → line_bytes (journaled image) (log_line g slot) ≡ line_bytes image (log_line g slot)
same_line g image slot sound = line_bytes-same (journaled image) image (log_line g slot) (λ i at. seen_word g image slot i sound at)

-- the log as the journal shows it is honest, and has words that the lines may have
torn_too : (g : Geometry) (cells : ℕ → Cell) (image : Words) (slot : ℕ) → IsSound g image → IsTorn cells (journaled image) (log_line g slot) → IsTorn cells image (log_line g slot)
torn_too g cells image slot sound torn = record {
  some = torn.some;
  not_older = λ older. torn.not_older (λ j below. log_word g image slot j sound below ∙ older j below);
  not_newer = λ each newer. torn.not_newer each (λ j below. log_word g image slot j sound below ∙ newer j below);
}

honest_through : (g : Geometry) (cells : ℕ → Cell) (image : Words) → IsSound g image → IsHonest g cells image → IsHonest g cells (journaled image)
honest_through g cells image sound honest slot below torn = ap is_self_valid (same_line g image slot sound) ∙ honest slot below (torn_too g cells image slot sound torn)

words_through : (v : Volume) (cells : ℕ → Cell) (image : Words) → IsSound v.geometry image → ((i : ℕ) → IsCandidate (cells i) (image i)) → HasLogWords v cells (journaled image)
words_through v cells image sound is slot j below j_below =
    subst (IsCandidate (cells (8 * log_line v.geometry slot + j))) (sym (log_word v.geometry image slot j sound j_below)) (is (8 * log_line v.geometry slot + j))

-- ---- what an image shows

-- no slot has a number past 64 bits
small_base : (base head log blocks : ℕ) → head ≡ base → head ≤ 2 ^ 63 → log ≤ 1024 → base + log ≤ 2 ^ 64
small_base base head log blocks same most few = omega (arith, same, most, few)

-- the log, and which of the jobs are in it
pub record ShowsBack (v : Volume) (claims : List (ℕ × Draft)) (jobs : List Job) (image : Words) : Type 0 where
  pub landed : List (Option ℕ)
  pub filled : AreFilled v (journaled image) jobs landed
  pub log : ShowsLog v (claims ++ landed_pairs jobs landed) (journaled image)

pub shows_back : (v : Volume) (d : List Cell) (claims : List (ℕ × Draft)) (jobs : List Job) (back : ℕ → Cell) (first : Words) (slots : List (Option ℕ)) (image : Words)
    → IsHeaded v.geometry image → v.base + v.geometry.log ≤ 2 ^ 64 → IsPutBack v d back first claims jobs slots image → ShowsBack v claims jobs image
shows_back v d claims jobs back first slots image headed small is =
    let sound = sound_headed v.geometry image headed in
    let has = words_through v (put_back d back) image sound is.image_is in
    let honest = honest_through v.geometry (put_back d back) image sound is.honest in
    let shows = shows_pictures v (put_back d back) first (journaled image) claims jobs slots small is.lines has honest is.filled in
    record {
      landed = shows.0;
      filled = shows.1;
      log = record { shows = shows.2; no_later = keeps_laps v (put_back d back) first (journaled image) claims jobs slots small is.lines has honest };
    }

-- The World with just the jobs whose entry may stand in the log, where the image reads as its volume, and shows of the log what they
-- left.
pub shows_in_log : (v : Volume) (claims : List (ℕ × Draft)) (jobs : List Job) (slots : List (Option ℕ)) (numbers : List ℕ) (s : State) (count : ℕ) (image : Words) → IsHeaded v.geometry image → Reads v.geometry (journaled image) v
    → IsWorld v claims jobs (journaled image) numbers s count → HasRoom v claims jobs s → ShowsBack v claims (jobs_in_log slots jobs) image → ShowsWorld v claims (jobs_in_log slots jobs) numbers s count image
shows_in_log v claims jobs slots numbers s count image headed reads world room shows = record {
  headed = headed;
  reads = reads;
  world = world_in_log v claims jobs slots (journaled image) numbers s count world;
  room = room_in_log v claims jobs slots s room;
  landed = shows.landed;
  filled = shows.filled;
  log = shows.log;
}

shows_world : (v : Volume) (d : List Cell) (claims : List (ℕ × Draft)) (jobs : List Job) (numbers : List ℕ) (s : State) (count : ℕ) (back : ℕ → Cell) (first : Words) (slots : List (Option ℕ)) (image : Words)
    → StandsFor v d claims jobs numbers s count → v.base + v.geometry.log ≤ 2 ^ 64 → IsPutBack v d back first claims jobs slots image → ShowsWorld v claims (jobs_in_log slots jobs) numbers s count image
shows_world v d claims jobs numbers s count back first slots image device small is =
    let image_is = image_of d back image is.image_is in
    shows_in_log v claims jobs slots numbers s count image (device.headed image image_is) (device.stands.reads image image_is) (device.world image image_is) device.room
    (shows_back v d claims (jobs_in_log slots jobs) back first (slots_in_log slots jobs) image (device.headed image image_is) small (put_in_log v d back first claims jobs slots image is))

-- ---- between two calls of one caller, and in a call that did nothing yet

pub small_lap : (v : Volume) (d : List Cell) (claims : List (ℕ × Draft)) (jobs : List Job) (numbers : List ℕ) (s : State) (count : ℕ) (image : Words) → StandsFor v d claims jobs numbers s count → IsImage d image → v.base + v.geometry.log ≤ 2 ^ 64
small_lap v d claims jobs numbers s count image device is =
    small_base v.base (journaled image base_word) v.geometry.log v.geometry.blocks (sym (device.stands.reads image is).base) (device.headed image is).head.state.most_base (device.world image is).geometry.most_log

pub kept_mode : (mode : Mode) (v : Volume) (claims : List (ℕ × Draft)) (jobs : List Job) (numbers : List ℕ) (count : ℕ) (image : Words) (start : State) (history : List Item) → start.mode ≡ mode → mode ≢ Mode.Posix → AreFound start jobs
    → ShowsWorld v claims jobs numbers (run start history) count image → IsKept v.geometry start history (map unfinished_call jobs) image
kept_mode Mode.Strict v claims jobs numbers count image start history is other found shows = kept_strict v claims jobs numbers count image start history is (found is) shows
kept_mode Mode.Sync v claims jobs numbers count image start history is other found shows = kept_sync v claims jobs numbers count image start history is shows
kept_mode Mode.Posix v claims jobs numbers count image start history is other found shows = absurd (other refl)

pub promise_in_flight : KeepsPromiseInFlight
promise_in_flight v d claims jobs numbers start history count first mode found device back slots image is =
    let small = small_lap v d claims jobs numbers (run start history) count image device (image_of d back image is.image_is) in
    subst (λ cs. IsKept v.geometry start history cs image) (sym (append-nil (calls_in_log slots jobs)))
    (kept_mode start.mode v claims (jobs_in_log slots jobs) numbers count image start history refl mode (λ strict. whole_in_log slots jobs (found strict))
    (shows_world v d claims jobs numbers (run start history) count back first slots image device small is))

pub promise_at_begin : KeepsPromiseAtBegin
promise_at_begin v d claims jobs numbers start history count first c mode found device =
    kept_back_more v d first claims jobs start history c mode (promise_in_flight v d claims jobs numbers start history count first mode found device)

-- ---- within a change

-- the blocks of jobs hold the same in both volumes
pub filled_same : (v w : Volume) (f : Words) (jobs : List Job) (slots : List (Option ℕ)) → SameBlocks v w jobs → AreFilled v f jobs slots → AreFilled w f jobs slots
filled_same v w f [] slots same filled = tt
filled_same v w f (j ∷ jobs) [] same filled = tt
filled_same v w f (j ∷ jobs) (None ∷ slots) same filled = filled_same v w f jobs slots same.1 filled
filled_same v w f (j ∷ jobs) (Some slot ∷ slots) same filled = (
  λ k b i below at i_below. filled.0 k b i below (sym (same.0 k) ∙ at) i_below,
  filled_same v w f jobs slots same.1 filled.1,
)

same_blocks : (v w : Volume) (slots : List (Option ℕ)) (jobs : List Job) → SameBlocks v w jobs → SameBlocks v w (jobs_in_log slots jobs)
same_blocks v w [] jobs same = tt
same_blocks v w (o ∷ slots) [] same = tt
same_blocks v w (None ∷ slots) (j ∷ jobs) same = same_blocks v w slots jobs same.1
same_blocks v w (Some slot ∷ slots) (j ∷ jobs) same = (same.0, same_blocks v w slots jobs same.1)

-- so the image shows of the log the same over either
pub shows_changed : (v w : Volume) (claims : List (ℕ × Draft)) (jobs : List Job) (slots : List (Option ℕ)) (image : Words) → w.geometry ≡ v.geometry → w.base ≡ v.base → SameBlocks v w jobs → ShowsBack v claims (jobs_in_log slots jobs) image
    → ShowsBack w claims (jobs_in_log slots jobs) image
shows_changed v w claims jobs slots image geometry base same shows = record {
  landed = shows.landed;
  filled = filled_same v w (journaled image) (jobs_in_log slots jobs) shows.landed (same_blocks v w slots jobs same) shows.filled;
  log = ShowsLog-same v w (claims ++ landed_pairs (jobs_in_log slots jobs) shows.landed) (journaled image) (journaled image) geometry base (record { words = λ slot i below at. refl }) shows.log;
}

data_same : (u v w : Volume) (jobs : List Job) (before image : Words) → IsSound v.geometry before → IsOldOrNew v.geometry [] v w before image → u.geometry ≡ v.geometry → SameButLent u jobs (journaled before) (journaled image)
data_same u v w jobs before image sound is same b i in_data below lent =
    same_data v.geometry v w before image sound is b i (subst (λ (g : Geometry). is_data_block g b ≡ true) same in_data) below

-- An image within the change shows the world before it, or the one after it, with the same of its log.
shows_beside : (v w : Volume) (d e : List Cell) (claims : List (ℕ × Draft)) (jobs : List Job) (numbers after : List ℕ) (s new : State) (count later : ℕ) (back : ℕ → Cell) (first : Words) (slots : List (Option ℕ)) (image : Words)
    → StandsFor v d claims jobs numbers s count → IsChange v w d e → SameBlocks v w jobs → HasRoom w claims jobs new → Takes v w claims jobs numbers after s new count later → IsPutBack v e back first claims jobs slots image
    → ShowsWorld v claims (jobs_in_log slots jobs) numbers s count image ⊎ ShowsWorld w claims (jobs_in_log slots jobs) after new later image
shows_beside v w d e claims jobs numbers after s new count later back first slots image device change blocks room takes is = by from.2.reads where
  from : (before : Words) × ComesFrom d image before × IsOldOrNew v.geometry [] v w before image
  from = change.each_image image (image_of e back image is.image_is)

  sound : IsSound v.geometry from.0
  sound = sound_headed v.geometry from.0 (device.headed from.0 from.1.is_image)

  headed : IsHeaded v.geometry image
  headed = headed_changed v.geometry v w from.0 image (device.headed from.0 from.1.is_image) from.2 change.base (device.stands.reads from.0 from.1.is_image).base

  shows : ShowsBack v claims (jobs_in_log slots jobs) image
  shows = shows_back v e claims (jobs_in_log slots jobs) back first (slots_in_log slots jobs) image headed (small_lap v d claims jobs numbers s count from.0 device from.1.is_image) (put_in_log v e back first claims jobs slots image is)

  by : Reads v.geometry (journaled image) v ⊎ Reads v.geometry (journaled image) w → ShowsWorld v claims (jobs_in_log slots jobs) numbers s count image ⊎ ShowsWorld w claims (jobs_in_log slots jobs) after new later image
  by (inl old) =
      inl (shows_in_log v claims jobs slots numbers s count image headed old
      (IsWorld-words v claims jobs (journaled from.0) (journaled image) numbers s count (data_same v v w jobs from.0 image sound from.2 refl) (device.world from.0 from.1.is_image)) device.room shows)
  by (inr new_one) =
      inr (shows_in_log w claims jobs slots after new later image (subst (λ g. IsHeaded g image) (sym change.geometry) headed) (subst (λ g. Reads g (journaled image) w) (sym change.geometry) new_one)
      (IsWorld-words w claims jobs (journaled from.0) (journaled image) after new later (data_same w v w jobs from.0 image sound from.2 change.geometry) (takes (journaled from.0) (device.world from.0 from.1.is_image))) room
      (shows_changed v w claims jobs slots image change.geometry change.base blocks shows))

-- the call may not have acted, or acted before the jobs
unfinished_lost : (m : Mode) (s : State) (unfinished : List Unfinished) (c : Unfinished) (left : List TreeEntry) → UnfinishedFrom m s unfinished left → UnfinishedFrom m s (unfinished ++ c ∷ []) left
unfinished_lost Mode.Strict s unfinished c left is = StrictFrom-lost s unfinished c left is
unfinished_lost Mode.Sync s unfinished c left is = SyncFrom-lost s unfinished c left is
unfinished_lost Mode.Posix s unfinished c left is = tt

pub leads_before : LeadsBefore
leads_before start history c jobs slots left is = unfinished_lost start.mode (run start history) (calls_in_log slots jobs) c left is

unfinished_last : (m : Mode) (s : State) (c : Unfinished) (flights : List Flight) (left : List TreeEntry) → AreInFlight s flights → AreTwoEach flights → LetsAllBe s c flights → takes s c + flying.needs s flights ≤ room s
    → UnfinishedFrom m (after_call s c) (map flying.unfinished_call flights) left → UnfinishedFrom m s (map flying.unfinished_call flights ++ c ∷ []) left
unfinished_last Mode.Strict s c flights left on two lets fits is = StrictFrom-last s c flights left on two lets fits is
unfinished_last Mode.Sync s c flights left on two lets fits is = SyncFrom-last s c flights left on two lets fits is
unfinished_last Mode.Posix s c flights left on two lets fits is = tt

pub leads_after : LeadsAfter
leads_after v claims jobs f numbers start history count c world beside slots left is =
    let s = run start history in
    let some : List Job = jobs_in_log slots jobs in
    let same = begun-flights numbers some in
    let world_some = world_in_log v claims jobs slots f numbers s count world in
    let beside_some = beside_in_log s c numbers slots jobs beside in
    let last =
    unfinished_last start.mode s c (flights_of numbers some) left (AreInFlight-jobs v (live_claims v claims) f numbers s some world_some.valid.stands world_some.valid.out) beside_some.two beside_some.lets beside_some.fits
    (subst (λ cs. UnfinishedFrom start.mode (after_call s c) cs left) (sym same) is)
    in
    subst (λ cs. UnfinishedFrom start.mode s (cs ++ c ∷ []) left) same last

-- an image that shows the World in such a state is kept
pub kept_leading : (v : Volume) (claims : List (ℕ × Draft)) (jobs : List Job) (slots : List (Option ℕ)) (numbers : List ℕ) (s : State) (count : ℕ) (image : Words) (start : State) (history : List Item) (c : Unfinished) → start.mode ≢ Mode.Posix → AreFound start jobs
    → LeadsTo start history c jobs s → ShowsWorld v claims (jobs_in_log slots jobs) numbers s count image → IsKept v.geometry start history (calls_in_log slots jobs ++ c ∷ []) image
kept_leading v claims jobs slots numbers s count image start history c mode found leads is =
    kept_by v claims (jobs_in_log slots jobs) numbers s count image start history (calls_in_log slots jobs ++ c ∷ []) is (λ left tree_is. by start.mode refl mode left tree_is) where
      led : (m : Mode) → start.mode ≡ m → (left : List TreeEntry) → UnfinishedFrom m s (calls_in_log slots jobs) left → UnfinishedFrom m (run start history) (calls_in_log slots jobs ++ c ∷ []) left
      led m same left from =
          subst (λ x. UnfinishedFrom x (run start history) (calls_in_log slots jobs ++ c ∷ []) left) same (leads slots left (subst (λ x. UnfinishedFrom x s (calls_in_log slots jobs) left) (sym same) from))

      by : (m : Mode) → start.mode ≡ m → m ≢ Mode.Posix → (left : List TreeEntry) → IsTreeOfContent (content_shown v (journaled image)) left → StronglyPermitted start.mode start history (calls_in_log slots jobs ++ c ∷ []) left
      by Mode.Strict same other left tree_is =
          subst (λ m. StronglyPermitted m start history (calls_in_log slots jobs ++ c ∷ []) left) (sym same)
          (led Mode.Strict same left
          (strict_promise v claims (jobs_in_log slots jobs) (journaled image) (journaled image) numbers s [] is.landed left (whole_in_log slots jobs (found same)) is.world.valid (shown v claims (jobs_in_log slots jobs) numbers s count image is) tree_is))
      by Mode.Sync same other left tree_is =
          subst (λ m. StronglyPermitted m start history (calls_in_log slots jobs ++ c ∷ []) left) (sym same)
          (led Mode.Sync same left
          (sync_promise v claims (jobs_in_log slots jobs) (journaled image) (journaled image) numbers s [] is.landed left is.world.valid (shown v claims (jobs_in_log slots jobs) numbers s count image is) tree_is))
      by Mode.Posix same other left tree_is = absurd (other refl)

pub promise_beside : KeepsPromiseBeside
promise_beside v w d e claims jobs numbers after s new start history count later first c mode found device before behind change blocks room takes back slots image is =
    elim (shows_beside v w d e claims jobs numbers after s new count later back first slots image device change blocks room takes is) [
      | inl old ↦ kept_leading v claims jobs slots numbers s count image start history c mode found before old
      | inr changed ↦
          subst (λ g. IsKept g start history (calls_in_log slots jobs ++ c ∷ []) image) change.geometry
          (kept_leading w claims jobs slots after new later image start history c mode found behind changed)
    ]

-- between two changes
pub promise_between : KeepsPromiseBetween
promise_between v d claims jobs numbers s start history count first c mode found device leads back slots image is =
    let small = small_lap v d claims jobs numbers s count image device (image_of d back image is.image_is) in
    kept_leading v claims jobs slots numbers s count image start history c mode found leads
    (shows_world v d claims jobs numbers s count back first slots image device small is)
