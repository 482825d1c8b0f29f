-- An image that shows what is found of a write beside writes in flight is kept, with the write at any place among their calls.
use Rattle.std.specs.Prelude.{◌≡◌, ◌≤◌, ◌+◌, ℕ, suc, slice_get, List, [], ◌∷◌, ◌++◌, length, map, take, drop, Option, None, Some, refl}
use Rattle.std.proofs.Common.{arith, ap, ◌∙◌, sym, subst}
use Rattle.image_laws.specs.layout_model.Journal.{journaled}
use Rattle.image_laws.specs.image_model.Volume.{Volume}
use Rattle.world_step_laws.specs.commute_laws.posix_types.declared.call.Mode.{Mode}
use Rattle.world_step_laws.specs.commute_laws.posix_types.declared.tree.TreeEntry.{TreeEntry}
use Rattle.world_step_laws.specs.commute_laws.posix_spec.Run.{run, Unfinished}
use Rattle.world_step_laws.specs.commute_laws.posix_spec.State.{room, State}
use Rattle.world_step_laws.specs.commute_laws.crash_spec.Sync.{SyncFrom}
use Rattle.world_step_laws.specs.commute_laws.Needs as flying
use Rattle.world_step_laws.specs.commute_laws.Needs.{AreInFlight, Flight, IsApart}
use Rattle.world_step_laws.specs.commute_laws.posix_laws.Views.{need_of}
use Rattle.world_step_laws.specs.commute_laws.crash_spec.Permitted.{StronglyPermitted}
use Rattle.world_step_laws.specs.world_model.Promise.{sync_promise}
use Rattle.world_step_laws.specs.commute_laws.Orders.{AreTwoEach}
use Rattle.world_step_laws.specs.world_model.Jobs.{Job, unfinished_call}
use Rattle.world_step_laws.specs.Parts.{FliesWith, part_of}
use Rattle.world_step_laws.specs.Steps.{begun-flights, flight_of, flights_of}
use Rattle.world_image_laws.specs.Back.{calls_among, calls_in_log, jobs_in_log}
use Rattle.world_image_laws.specs.InLog.{apart_flights, less_flown, two_in_log}
use Rattle.world_image_laws.specs.Kept.{kept_by, shown}
use Rattle.world_image_laws.specs.Places.{SyncFrom-part}
use Rattle.world_image_laws.specs.PlaceLaws.{KeepsPartAmong}

-- those of the first jobs and those of the others
log_among : (slots : List (Option ℕ)) (a b : List Job) → jobs_in_log slots (a ++ b) ≡ jobs_in_log (take (length a) slots) a ++ jobs_in_log (drop (length a) slots) b
log_among [] [] b = refl
log_among [] (j ∷ a) b = refl
log_among (o ∷ slots) [] b = refl
log_among (None ∷ slots) (j ∷ a) b = log_among slots a b
log_among (Some slot ∷ slots) (j ∷ a) b = ap (λ js. j ∷ js) (log_among slots a b)

flights_among : (numbers : List ℕ) (a b : List Job) → flights_of numbers (a ++ b) ≡ flights_of numbers a ++ flights_of numbers b
flights_among numbers [] b = refl
flights_among numbers (j ∷ a) b = ap (λ fs. flight_of numbers j ∷ fs) (flights_among numbers a b)

flying_in_log : (s : State) (numbers : List ℕ) (slots : List (Option ℕ)) (jobs : List Job) → AreInFlight s (flights_of numbers jobs) → AreInFlight s (flights_of numbers (jobs_in_log slots jobs))
flying_in_log s numbers [] jobs on = tt
flying_in_log s numbers (o ∷ slots) [] on = tt
flying_in_log s numbers (None ∷ slots) (j ∷ jobs) on = flying_in_log s numbers slots jobs on.1
flying_in_log s numbers (Some slot ∷ slots) (j ∷ jobs) on = (on.0, flying_in_log s numbers slots jobs on.1)

pub kept_part_among : KeepsPartAmong
kept_part_among v claims a b slots numbers s f bytes count image start history sync state flies part shows =
    kept_by v claims some numbers (part_of s f bytes) count image start history (calls_among slots a f.begun b) shows
    (λ left tree_is. subst (λ m. StronglyPermitted m start history (calls_among slots a f.begun b) left) (sym sync) (permitted left
    (sync_promise v claims some (journaled image) (journaled image) numbers (part_of s f bytes) [] shows.landed left shows.world.valid (shown v claims some numbers (part_of s f bytes) count image shows) tree_is)))
  where
    some : List Job
    some = jobs_in_log slots (a ++ b)

    first : List Job
    first = jobs_in_log (take (length a) slots) a

    last : List Job
    last = jobs_in_log (drop (length a) slots) b

    flights_are : flights_of numbers some ≡ flights_of numbers first ++ flights_of numbers last
    flights_are = ap (flights_of numbers) (log_among slots a b) ∙ flights_among numbers first last

    sum_all : flying.needs s (f ∷ flights_of numbers (a ++ b)) ≡ need_of s f.begun.0 f.begun.1 + flying.needs s (flights_of numbers (a ++ b))
    sum_all = flying.needs-cons s f (flights_of numbers (a ++ b))

    fits : flying.needs s (f ∷ (flights_of numbers first ++ flights_of numbers last)) ≤ room s
    fits =
        let less = less_flown s numbers slots (a ++ b) in
        let sum = flying.needs-cons s f (flights_of numbers first ++ flights_of numbers last) in
        let same = ap (flying.needs s) flights_are in
        let whole = flies.fits in
        omega (arith, less, sum, same, whole, sum_all)

    permitted : (left : List TreeEntry) → SyncFrom (part_of s f bytes) (map unfinished_call some) left → SyncFrom (run start history) (calls_among slots a f.begun b) left
    permitted left from =
        let begun : SyncFrom (part_of s f bytes) (map flying.unfinished_call (flights_of numbers first ++ flights_of numbers last)) left =
        subst (λ fs. SyncFrom (part_of s f bytes) (map flying.unfinished_call fs) left) flights_are
        (subst (λ cs. SyncFrom (part_of s f bytes) cs left) (sym (begun-flights numbers some)) from)
        in
        let amid =
        SyncFrom-part s f (flights_of numbers first) (flights_of numbers last) bytes left
        (flies.flying.0, subst (AreInFlight s) flights_are (flying_in_log s numbers slots (a ++ b) flies.flying.1))
        (subst (IsApart f) flights_are (apart_flights f numbers slots (a ++ b) flies.two.0), subst AreTwoEach flights_are (two_in_log numbers slots (a ++ b) flies.two.1)) fits part begun
        in
        subst (λ x. SyncFrom x (calls_among slots a f.begun b) left) state
        (subst (λ cs. SyncFrom s (cs ++ f.begun ∷ map unfinished_call last) left) (begun-flights numbers first)
        (subst (λ cs. SyncFrom s (map flying.unfinished_call (flights_of numbers first) ++ f.begun ∷ cs) left) (begun-flights numbers last) amid))

-- ---- a call among others

take_in_log : (slots : List (Option ℕ)) (jobs : List Job) → jobs_in_log (take (length jobs) slots) jobs ≡ jobs_in_log slots jobs
take_in_log [] [] = refl
take_in_log [] (j ∷ jobs) = refl
take_in_log (o ∷ slots) [] = refl
take_in_log (None ∷ slots) (j ∷ jobs) = take_in_log slots jobs
take_in_log (Some slot ∷ slots) (j ∷ jobs) = ap (λ js. j ∷ js) (take_in_log slots jobs)

none_in_log : (slots : List (Option ℕ)) → jobs_in_log slots [] ≡ []
none_in_log [] = refl
none_in_log (o ∷ slots) = refl

-- the last one is behind them all
pub among_last : (slots : List (Option ℕ)) (jobs : List Job) (c : Unfinished) → calls_among slots jobs c [] ≡ calls_in_log slots jobs ++ c ∷ []
among_last slots jobs c = λ i. map unfinished_call (take_in_log slots jobs i) ++ c ∷ map unfinished_call (none_in_log (drop (length jobs) slots) i)

-- that of a job with a slot is at its place
pub among_own : (slots : List (Option ℕ)) (a : List Job) (j : Job) (b : List Job) (slot : ℕ) → slice_get slots (length a) ≡ Some (Some slot)
    → calls_in_log slots (a ++ j ∷ b) ≡ calls_among (take (length a) slots ++ drop (suc (length a)) slots) a (unfinished_call j) b
among_own [] a j b slot is = cc
among_own (None ∷ slots) [] j b slot is = cc
among_own (Some n ∷ slots) [] j b slot is = refl
among_own (None ∷ slots) (x ∷ a) j b slot is = among_own slots a j b slot is
among_own (Some n ∷ slots) (x ∷ a) j b slot is = ap (λ cs. unfinished_call x ∷ cs) (among_own slots a j b slot is)
