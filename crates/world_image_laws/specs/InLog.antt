-- The jobs whose entry may stand in the log, alone: what holds of the World with all jobs holds of the World with these.
use Rattle.std.specs.Prelude.{◌≡◌, ◌≢◌, ◌≤◌, ◌+◌, ℕ, List, [], ◌∷◌, ◌++◌, length, map, Option, None, Some, refl}
use Rattle.std.proofs.Common.{arith, append-nil, inl, inr, subst}
use Rattle.std.proofs.lemmas.List.Sums.{sum_by-cons}
use Rattle.image_laws.specs.pm_model.declared.Cell.{Cell}
use Rattle.image_laws.specs.pm_model.Parts.{put_back}
use Rattle.image_laws.specs.pm_model.Words.{Words}
use Rattle.image_laws.specs.layout_model.Journal.{journaled}
use Rattle.image_laws.specs.layout_model.declared.lines.Draft.{Draft}
use Rattle.image_laws.specs.layout_model.Places.{Geometry}
use Rattle.image_laws.specs.image_model.Volume.{Volume}
use Rattle.world_step_laws.specs.commute_laws.posix_types.declared.call.Mode.{Mode}
use Rattle.world_step_laws.specs.commute_laws.posix_types.declared.item.Item.{Item}
use Rattle.world_step_laws.specs.commute_laws.posix_types.declared.tree.TreeEntry.{TreeEntry}
use Rattle.world_step_laws.specs.commute_laws.posix_spec.Run.{after_call, Unfinished}
use Rattle.world_step_laws.specs.commute_laws.posix_spec.State.{State}
use Rattle.world_step_laws.specs.commute_laws.posix_laws.Views.{need_of}
use Rattle.world_step_laws.specs.commute_laws.crash_spec.Permitted.{StronglyPermitted}
use Rattle.world_step_laws.specs.commute_laws.crash_spec.Strict.{StrictFrom}
use Rattle.world_step_laws.specs.commute_laws.crash_spec.Sync.{SyncFrom}
use Rattle.world_step_laws.specs.commute_laws.Needs.{Flight, IsApart}
use Rattle.world_step_laws.specs.commute_laws.Needs as flying
use Rattle.world_step_laws.specs.commute_laws.Orders.{AreTwoEach}
use Rattle.world_step_laws.specs.world_model.JobLaws.{needs}
use Rattle.world_step_laws.specs.world_model.Jobs.{ApartFrom, unfinished_call, Job, JobsStand, live_claims}
use Rattle.world_step_laws.specs.world_model.Lines.{AreJobLines, IsTaken}
use Rattle.world_step_laws.specs.world_model.Promised.{AreWhole}
use Rattle.world_step_laws.specs.world_model.Shown.{AreFilled}
use Rattle.world_step_laws.specs.Steps.{flight_of, flights_of, LetsJobsBe}
use Rattle.world_step_laws.specs.Worlds.{IsWorld}
use Rattle.world_image_laws.specs.Back.{calls_in_log, IsKeptBack, IsPutBack, jobs_in_log}
use Rattle.world_image_laws.specs.Images.{HasRoom}
use Rattle.world_image_laws.specs.Kept.{kept_more}
use Rattle.world_image_laws.specs.LentLaws.{GoesBeside}
use Rattle.world_image_laws.specs.Promised.{IsKept}

-- their slots
abbrev pub slots_in_log : List (Option ℕ) → List Job → List (Option ℕ)
slots_in_log [] jobs = []
slots_in_log (o ∷ slots) [] = []
slots_in_log (None ∷ slots) (j ∷ jobs) = slots_in_log slots jobs
slots_in_log (Some slot ∷ slots) (j ∷ jobs) = Some slot ∷ slots_in_log slots jobs

-- ---- what is put back

filled_in_log : (v : Volume) (f : Words) (slots : List (Option ℕ)) (jobs : List Job) → AreFilled v f jobs slots → AreFilled v f (jobs_in_log slots jobs) (slots_in_log slots jobs)
filled_in_log v f [] jobs filled = tt
filled_in_log v f (o ∷ slots) [] filled = tt
filled_in_log v f (None ∷ slots) (j ∷ jobs) filled = filled_in_log v f slots jobs filled
filled_in_log v f (Some slot ∷ slots) (j ∷ jobs) filled = (filled.0, filled_in_log v f slots jobs filled.1)

lines_in_log : (v : Volume) (cells : ℕ → Cell) (first : Words) (slots : List (Option ℕ)) (jobs : List Job) → AreJobLines v cells first jobs slots → AreJobLines v cells first (jobs_in_log slots jobs) (slots_in_log slots jobs)
lines_in_log v cells first [] jobs are = tt
lines_in_log v cells first (o ∷ slots) [] are = tt
lines_in_log v cells first (None ∷ slots) (j ∷ jobs) are = lines_in_log v cells first slots jobs are
lines_in_log v cells first (Some slot ∷ slots) (j ∷ jobs) are = (are.0, lines_in_log v cells first slots jobs are.1)

taken_in_log : (slots : List (Option ℕ)) (jobs : List Job) (n : ℕ) → IsTaken jobs slots n → IsTaken (jobs_in_log slots jobs) (slots_in_log slots jobs) n
taken_in_log slots [] n is = absurd is
taken_in_log [] (j ∷ jobs) n is = absurd is
taken_in_log (None ∷ slots) (j ∷ jobs) n is = taken_in_log slots jobs n is
taken_in_log (Some slot ∷ slots) (j ∷ jobs) n (inl same) = inl same
taken_in_log (Some slot ∷ slots) (j ∷ jobs) n (inr rest) = inr (taken_in_log slots jobs n rest)

pub put_in_log : (v : Volume) (d : List Cell) (back : ℕ → Cell) (first : Words) (claims : List (ℕ × Draft)) (jobs : List Job) (slots : List (Option ℕ)) (image : Words) → IsPutBack v d back first claims jobs slots image
    → IsPutBack v d back first claims (jobs_in_log slots jobs) (slots_in_log slots jobs) image
put_in_log v d back first claims jobs slots image is = record {
  lines = record {
    claimed = is.lines.claimed;
    out = lines_in_log v (put_back d back) first slots jobs is.lines.out;
    others = λ slot below free none. is.lines.others slot below free (λ taken. none (taken_in_log slots jobs slot taken));
    old = is.lines.old;
  };
  image_is = is.image_is;
  honest = is.honest;
  filled = filled_in_log v (journaled image) slots jobs is.filled;
}

-- ---- the World

pub whole_in_log : (slots : List (Option ℕ)) (jobs : List Job) → AreWhole jobs → AreWhole (jobs_in_log slots jobs)
whole_in_log [] jobs whole = tt
whole_in_log (o ∷ slots) [] whole = tt
whole_in_log (None ∷ slots) (j ∷ jobs) whole = whole_in_log slots jobs whole.1
whole_in_log (Some slot ∷ slots) (j ∷ jobs) whole = (whole.0, whole_in_log slots jobs whole.1)

apart_in_log : (i : Job) (slots : List (Option ℕ)) (jobs : List Job) → ApartFrom i jobs → ApartFrom i (jobs_in_log slots jobs)
apart_in_log i [] jobs apart = tt
apart_in_log i (o ∷ slots) [] apart = tt
apart_in_log i (None ∷ slots) (j ∷ jobs) apart = apart_in_log i slots jobs apart.1
apart_in_log i (Some slot ∷ slots) (j ∷ jobs) apart = (apart.0, apart_in_log i slots jobs apart.1)

stand_in_log : (v : Volume) (live : List Draft) (f : Words) (numbers : List ℕ) (s : State) (slots : List (Option ℕ)) (jobs : List Job) → JobsStand v live f numbers s jobs → JobsStand v live f numbers s (jobs_in_log slots jobs)
stand_in_log v live f numbers s [] jobs stand = tt
stand_in_log v live f numbers s (o ∷ slots) [] stand = tt
stand_in_log v live f numbers s (None ∷ slots) (j ∷ jobs) stand = stand_in_log v live f numbers s slots jobs stand.2
stand_in_log v live f numbers s (Some slot ∷ slots) (j ∷ jobs) stand = (stand.0, apart_in_log j slots jobs stand.1, stand_in_log v live f numbers s slots jobs stand.2)

needs-cons : (s : State) (j : Job) (jobs : List Job) → needs s (j ∷ jobs) ≡ need_of s j.who j.call + needs s jobs
needs-cons s j jobs = sum_by-cons (λ (c : Unfinished). need_of s c.0 c.1) (unfinished_call j) (map unfinished_call jobs)

less_needed : (s : State) (slots : List (Option ℕ)) (jobs : List Job) → needs s (jobs_in_log slots jobs) ≤ needs s jobs
less_needed s [] jobs = omega arith
less_needed s (o ∷ slots) [] = omega arith
less_needed s (None ∷ slots) (j ∷ jobs) = let rest = less_needed s slots jobs in omega (arith, needs-cons s j jobs, rest)
less_needed s (Some slot ∷ slots) (j ∷ jobs) = let rest = less_needed s slots jobs in omega (arith, needs-cons s j jobs, needs-cons s j (jobs_in_log slots jobs), rest)

fewer : (slots : List (Option ℕ)) (jobs : List Job) → length (jobs_in_log slots jobs) ≤ length jobs
fewer [] jobs = omega arith
fewer (o ∷ slots) [] = omega arith
fewer (None ∷ slots) (j ∷ jobs) = let rest = fewer slots jobs in omega (arith, rest)
fewer (Some slot ∷ slots) (j ∷ jobs) = let rest = fewer slots jobs in omega (arith, rest)

pub world_in_log : (v : Volume) (claims : List (ℕ × Draft)) (jobs : List Job) (slots : List (Option ℕ)) (f : Words) (numbers : List ℕ) (s : State) (count : ℕ) → IsWorld v claims jobs f numbers s count
    → IsWorld v claims (jobs_in_log slots jobs) f numbers s count
world_in_log v claims jobs slots f numbers s count world = record {
  valid = record {
    stands = world.valid.stands;
    out = stand_in_log v (live_claims v claims) f numbers s slots jobs world.valid.out;
    fits = world.valid.fits;
    room = (let room = world.valid.room in let less = less_needed s slots jobs in omega (arith, room, less));
  };
  claims_stand = world.claims_stand;
  aged = world.aged;
  shape = world.shape;
  geometry = world.geometry;
}

pub room_in_log : (v : Volume) (claims : List (ℕ × Draft)) (jobs : List Job) (slots : List (Option ℕ)) (s : State) → HasRoom v claims jobs s → HasRoom v claims (jobs_in_log slots jobs) s
room_in_log v claims jobs slots s room = record { free = (let free = room.free in let less = fewer slots jobs in omega (arith, free, less)); blocks = room.blocks }

-- ---- a call beside them

pub apart_flights : (f : Flight) (numbers : List ℕ) (slots : List (Option ℕ)) (jobs : List Job) → IsApart f (flights_of numbers jobs) → IsApart f (flights_of numbers (jobs_in_log slots jobs))
apart_flights f numbers [] jobs apart = tt
apart_flights f numbers (o ∷ slots) [] apart = tt
apart_flights f numbers (None ∷ slots) (j ∷ jobs) apart = apart_flights f numbers slots jobs apart.1
apart_flights f numbers (Some slot ∷ slots) (j ∷ jobs) apart = (apart.0, apart_flights f numbers slots jobs apart.1)

pub two_in_log : (numbers : List ℕ) (slots : List (Option ℕ)) (jobs : List Job) → AreTwoEach (flights_of numbers jobs) → AreTwoEach (flights_of numbers (jobs_in_log slots jobs))
two_in_log numbers [] jobs two = tt
two_in_log numbers (o ∷ slots) [] two = tt
two_in_log numbers (None ∷ slots) (j ∷ jobs) two = two_in_log numbers slots jobs two.1
two_in_log numbers (Some slot ∷ slots) (j ∷ jobs) two = (apart_flights (flight_of numbers j) numbers slots jobs two.0, two_in_log numbers slots jobs two.1)

lets_in_log : (s : State) (c : Unfinished) (numbers : List ℕ) (slots : List (Option ℕ)) (jobs : List Job) → LetsJobsBe s c numbers jobs → LetsJobsBe s c numbers (jobs_in_log slots jobs)
lets_in_log s c numbers [] jobs lets = tt
lets_in_log s c numbers (o ∷ slots) [] lets = tt
lets_in_log s c numbers (None ∷ slots) (j ∷ jobs) lets = lets_in_log s c numbers slots jobs lets.1
lets_in_log s c numbers (Some slot ∷ slots) (j ∷ jobs) lets = (lets.0, lets_in_log s c numbers slots jobs lets.1)

pub less_flown : (s : State) (numbers : List ℕ) (slots : List (Option ℕ)) (jobs : List Job) → flying.needs s (flights_of numbers (jobs_in_log slots jobs)) ≤ flying.needs s (flights_of numbers jobs)
less_flown s numbers [] jobs = omega arith
less_flown s numbers (o ∷ slots) [] = omega arith
less_flown s numbers (None ∷ slots) (j ∷ jobs) =
    let rest = less_flown s numbers slots jobs in
    let sum = flying.needs-cons s (flight_of numbers j) (flights_of numbers jobs) in
    omega (arith, sum, rest)
less_flown s numbers (Some slot ∷ slots) (j ∷ jobs) =
    let rest = less_flown s numbers slots jobs in
    let sum = flying.needs-cons s (flight_of numbers j) (flights_of numbers jobs) in
    let fewer_sum = flying.needs-cons s (flight_of numbers j) (flights_of numbers (jobs_in_log slots jobs)) in
    omega (arith, sum, fewer_sum, rest)

pub beside_in_log : (s : State) (c : Unfinished) (numbers : List ℕ) (slots : List (Option ℕ)) (jobs : List Job) → GoesBeside s c numbers jobs → GoesBeside s c numbers (jobs_in_log slots jobs)
beside_in_log s c numbers slots jobs beside = record {
  two = two_in_log numbers slots jobs beside.two;
  lets = lets_in_log s c numbers slots jobs beside.lets;
  fits = (let fits = beside.fits in let less = less_flown s numbers slots jobs in omega (arith, fits, less));
}

-- ---- more calls unfinished

strict_of_all : (s : State) (slots : List (Option ℕ)) (jobs : List Job) (last : List Unfinished) (left : List TreeEntry) → StrictFrom s (calls_in_log slots jobs ++ last) left → StrictFrom s (map unfinished_call jobs ++ last) left
strict_of_all s [] [] last left is = is
strict_of_all s (o ∷ slots) [] last left is = is
strict_of_all s [] (j ∷ jobs) last left is = inr (strict_of_all s [] jobs last left is)
strict_of_all s (None ∷ slots) (j ∷ jobs) last left is = inr (strict_of_all s slots jobs last left is)
strict_of_all s (Some slot ∷ slots) (j ∷ jobs) last left (inl acts) = inl (strict_of_all (after_call s (unfinished_call j)) slots jobs last left acts)
strict_of_all s (Some slot ∷ slots) (j ∷ jobs) last left (inr idle) = inr (strict_of_all s slots jobs last left idle)

sync_of_all : (s : State) (slots : List (Option ℕ)) (jobs : List Job) (last : List Unfinished) (left : List TreeEntry) → SyncFrom s (calls_in_log slots jobs ++ last) left → SyncFrom s (map unfinished_call jobs ++ last) left
sync_of_all s [] [] last left is = is
sync_of_all s (o ∷ slots) [] last left is = is
sync_of_all s [] (j ∷ jobs) last left is = inr (inr (sync_of_all s [] jobs last left is))
sync_of_all s (None ∷ slots) (j ∷ jobs) last left is = inr (inr (sync_of_all s slots jobs last left is))
sync_of_all s (Some slot ∷ slots) (j ∷ jobs) last left (inl acts) = inl (sync_of_all (after_call s (unfinished_call j)) slots jobs last left acts)
sync_of_all s (Some slot ∷ slots) (j ∷ jobs) last left (inr (inl part)) = inr (inl (part.0, part.1, sync_of_all part.0 slots jobs last left part.2))
sync_of_all s (Some slot ∷ slots) (j ∷ jobs) last left (inr (inr idle)) = inr (inr (sync_of_all s slots jobs last left idle))

-- strict mode is no POSIX mode
pub not_posix : (m : Mode) → m ≡ Mode.Strict → m ≢ Mode.Posix
not_posix m strict posix = cc

-- AN IMAGE IS KEPT WITH THE CALLS OF ALL JOBS unfinished, where it is kept with those of some: a call that is unfinished need not
-- have acted.
pub kept_of_all : (g : Geometry) (start : State) (history : List Item) (slots : List (Option ℕ)) (jobs : List Job) (last : List Unfinished) (image : Words) → (start.mode ≡ Mode.Posix → jobs ≡ [])
    → IsKept g start history (calls_in_log slots jobs ++ last) image → IsKept g start history (map unfinished_call jobs ++ last) image
kept_of_all g start history slots jobs last image jobless is =
    record { checked = is.checked; geometry = is.geometry; tree = is.tree; permitted = λ left tree_is. by start.mode refl left (is.permitted left tree_is) } where
      alike : (slots : List (Option ℕ)) (jobs : List Job) → jobs ≡ [] → calls_in_log slots jobs ≡ map unfinished_call jobs
      alike [] [] none = refl
      alike (o ∷ slots) [] none = refl
      alike slots (j ∷ jobs) none = cc

      by : (m : Mode) → start.mode ≡ m → (left : List TreeEntry) → StronglyPermitted m start history (calls_in_log slots jobs ++ last) left → StronglyPermitted m start history (map unfinished_call jobs ++ last) left
      by Mode.Strict own left permitted = strict_of_all _ slots jobs last left permitted
      by Mode.Sync own left permitted = sync_of_all _ slots jobs last left permitted
      by Mode.Posix own left permitted = subst (λ cs. StronglyPermitted Mode.Posix start history (cs ++ last) left) (alike slots jobs (jobless own)) permitted

-- and with one more, which lost its power before it acted
pub kept_back_more : (v : Volume) (d : List Cell) (first : Words) (claims : List (ℕ × Draft)) (jobs : List Job) (start : State) (history : List Item) (c : Unfinished) → start.mode ≢ Mode.Posix
    → IsKeptBack v d first claims jobs start history [] → IsKeptBack v d first claims jobs start history (c ∷ [])
kept_back_more v d first claims jobs start history c mode is back slots image put =
    kept_more v.geometry start history (calls_in_log slots jobs) c image mode
    (subst (λ cs. IsKept v.geometry start history cs image) (append-nil (calls_in_log slots jobs)) (is back slots image put))
