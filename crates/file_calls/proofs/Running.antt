-- One change of K-Split in a call: done, refused, or cut off, beside jobs that are out.
use Rattle.std.specs.Prelude.{◌≡◌, ◌≢◌, ◌⊎◌, ◌≤◌, ◌<◌, ◌+◌, ◌^◌, ℕ, suc, true, AllPairs, length, slice_index_or, List, [], ◌∷◌, Option, Some, None, Result, Err, refl}
use Rattle.std.proofs.Common.{arith, ap, ◌∙◌, sym, subst, inl, inr}
use Rattle.eof_laws.specs.pm_model.ImageLaws.{IsImage-words_of}
use Rattle.eof_laws.specs.pm_model.Images.{words_of}
use Rattle.eof_laws.specs.pm_model.Powers.{is_on, Supply}
use Rattle.eof_laws.specs.pm_model.Words.{Words}
use Rattle.eof_laws.specs.layout_model.Journal.{IsSound, journaled}
use Rattle.eof_laws.specs.layout_model.Places.{Geometry}
use Rattle.layout_model.specs.declared.lines.Draft.{Draft}
use Rattle.layout_model.specs.declared.lines.Kind.TheVariants.{File}
use Rattle.eof_laws.specs.image_model.Volume.{inode, Volume}
use Rattle.live_step_laws.specs.posix_laws.Orders.{AreOrdered, AreOrdered-step_of}
use Rattle.eof_laws.specs.file_table.Files.{Files}
use Rattle.eof_laws.specs.k_split_model.Spaces.{volume_space}
use Rattle.eof_laws.specs.k_split_model.View.{View}
use Rattle.live_step_laws.specs.k_split.declared.faults.KFault.{KFault}
use Rattle.live_step_laws.specs.k_split.Answers.{IsAnswer, IsCut, IsOff, IsPaid}
use Rattle.live_step_laws.proofs.k_split_laws_proofs.Cuts.{left_at, left_cut, left_same}
use Rattle.live_step_laws.specs.k_split_laws.Left.{IsLeftOf}
use Rattle.live_step_laws.specs.open_files.Numbered.{numbered_as}
use Rattle.posix_types.specs.declared.call.Call.{Call}
use Rattle.posix_types.specs.declared.call.Who.{Who}
use Rattle.posix_types.specs.declared.item.Item.{Item}
use Rattle.posix_types.specs.declared.item.Outcome.{Outcome}
use Rattle.posix_types.specs.declared.reply.Errno.{Errno}
use Rattle.posix_types.specs.declared.reply.Reply.{Reply}
use Rattle.open_files.specs.posix_tables.Open.{is_open, Tables}
use Rattle.open_files.specs.posix_tables.Outcomes.{answer}
use Rattle.open_files.specs.posix_spec.Run.{after_call, Unfinished, run}
use Rattle.open_files.specs.posix_spec.State.{alone, room, State}
use Rattle.open_files.specs.posix_spec.Step.{step}
use Rattle.open_files.specs.posix_spec.Tree.{tree}
use Rattle.open_files.specs.commute_laws.Frames.{AreThreads}
use Rattle.open_files.specs.commute_laws.Needs.{IsApart, needs}
use Rattle.live_step_laws.specs.commute_laws.Commutes.{takes}
use Rattle.live_step_laws.specs.commute_laws.Orders.{AreTwoEach}
use Rattle.open_files.specs.posix_laws.Views.{AreAfforded}
use Rattle.live_step_laws.specs.world_model.Jobs.{ApartFrom, Job, JobsStand, JobStands, live_claims}
use Rattle.live_step_laws.specs.world_model.Stands.{number}
use Rattle.live_step_laws.specs.world_model.JobLaws.{live_used}
use Rattle.live_step_laws.specs.world_image_laws.Changed.{sound_headed}
use Rattle.live_step_laws.specs.world_image_laws.Settings.{keeps_setting, setting_run}
use Rattle.live_step_laws.specs.world_step_laws.OtherCalls.{IsWorld-idle}
use Rattle.live_step_laws.specs.world_image_laws.Flights.{leads_after, leads_before}
use Rattle.live_step_laws.specs.world_image_laws.LentLaws.{LeadsTo}
use Rattle.live_step_laws.specs.world_step_laws.Steps.{begun-flights, flight_of, flights_of, LetsJobsBe}
use Rattle.live_step_laws.specs.world_step_laws.Worlds.{IsIdle, IsWorld}
use Rattle.live_step_laws.specs.k_split_laws.DeviceSteps.{refused_by_row}
use Rattle.live_step_laws.specs.k_split_laws.Done.{keeps_image_cut, keeps_image_off}
use Rattle.live_step_laws.specs.k_split_laws.Going.{IsGoing, IsNameCall, IsStep, row_of_call}
use Rattle.live_step_laws.specs.live_model.Standing.{AreJobsOf, AreOfTwoThreads, Kept, JobOut}
use Rattle.live_step_laws.proofs.Standing.{stands_still}
use Rattle.live_step_laws.specs.StepsLaws.{AreLeft}
use Rattle.file_calls.specs.Answers.{Answers, IsEnded, IsSpent, LeavesDevice, Loses, told_of}
use Rattle.file_calls.specs.Runs.{RunsAs, with_files}

-- ---- what runs says

module _ (g : Geometry) (k : View) (t : Tables) (x : Kept) (n : ℕ) (s : State) (runs : RunsAs g k t x n s) where
  pub going : IsGoing k x.claims runs.jobs runs.numbers s runs.count
  going = record { order = runs.order; unbatched = runs.unbatched; on = runs.on; device = runs.flying.device }

  pub world : IsWorld k.volume x.claims runs.jobs (journaled (words_of k.cells)) runs.numbers s runs.count
  world = runs.flying.device.world (words_of k.cells) (IsImage-words_of k.cells)

  -- of the writes in flight any two are of two threads and two files
  pub two_each : AreTwoEach (flights_of runs.numbers runs.jobs)
  two_each = all x.pending runs.jobs runs.jobs_are runs.callers world.valid.out where
    nodes_apart : (i j : Job) → JobStands k.volume (live_claims k.volume x.claims) (journaled (words_of k.cells)) runs.numbers s i → JobStands k.volume (live_claims k.volume x.claims) (journaled (words_of k.cells)) runs.numbers s j
        → i.draft.ino ≢ j.draft.ino → number runs.numbers i.draft.ino ≢ number runs.numbers j.draft.ino
    nodes_apart i j one two files same =
        files (world.valid.stands.names.one i.draft.ino j.draft.ino (live_used k.volume i.draft one.alive) (live_used k.volume j.draft two.alive) same)

    apart : (p : JobOut) (i : Job) (pending : List JobOut) (jobs : List Job) → i.who ≡ p.who → AreJobsOf pending jobs
        → ((m : ℕ) (d : JobOut) → m < length pending → AreOfTwoThreads p (slice_index_or pending m d))
        → JobStands k.volume (live_claims k.volume x.claims) (journaled (words_of k.cells)) runs.numbers s i → ApartFrom i jobs
        → JobsStand k.volume (live_claims k.volume x.claims) (journaled (words_of k.cells)) runs.numbers s jobs → IsApart (flight_of runs.numbers i) (flights_of runs.numbers jobs)
    apart p i [] [] who are each one away out = tt
    apart p i [] (j ∷ jobs) who are each one away out = absurd are
    apart p i (q ∷ pending) [] who are each one away out = absurd are
    apart p i (q ∷ pending) (j ∷ jobs) who are each one away out = (
      record {
        threads = subst (λ w. AreThreads w i.who) (sym are.0) (subst (AreThreads q.who) (sym who) (each 0 q (omega arith)));
        files = nodes_apart i j one out.0 away.0.files;
      },
      apart p i pending jobs who are.3 (λ m d below. each (suc m) d (omega (arith, below))) one away.1 out.2,
    )

    all : (pending : List JobOut) (jobs : List Job) → AreJobsOf pending jobs → AllPairs AreOfTwoThreads pending
        → JobsStand k.volume (live_claims k.volume x.claims) (journaled (words_of k.cells)) runs.numbers s jobs → AreTwoEach (flights_of runs.numbers jobs)
    all [] [] are callers out = tt
    all [] (j ∷ jobs) are callers out = absurd are
    all (p ∷ pending) [] are callers out = absurd are
    all (p ∷ pending) (j ∷ jobs) are callers out = (
      apart p j pending jobs are.0 are.3 (λ m d below. callers 0 (suc m) d (omega arith) (omega (arith, below))) out.0 out.1 out.2,
      all pending jobs are.3 (λ a b d lt below. callers (suc a) (suc b) d (omega (arith, lt)) (omega (arith, below))) out.2,
    )

-- with one node more that may have been made
pub runs_later : (g : Geometry) (k : View) (t : Tables) (x : Kept) (n : ℕ) (s : State) → RunsAs g k t x n s → RunsAs g k t x (n + 1) s
runs_later g k t x n s runs = (stands_still g k t t x true n s s runs refl refl (λ f valid. valid) runs.tables runs.open_are_files runs.ordered).0

-- a call that leaves K-Split as it is
pub runs_still : (g : Geometry) (k : View) (t t2 : Tables) (x : Kept) (n : ℕ) (s next : State) (runs : RunsAs g k t x n s) → next.shape ≡ s.shape → next.mode ≡ s.mode
    → ((f : Words) → IsWorld k.volume x.claims runs.jobs f runs.numbers s runs.count → IsWorld k.volume x.claims runs.jobs f runs.numbers next runs.count)
    → next.tables ≡ numbered_as (number runs.numbers) t2 → ((ino : ℕ) → is_open t2 ino ≡ true → (inode k.volume ino).kind ≡ File) → AreOrdered next.entries → RunsAs g k t2 x (n + 1) next
runs_still g k t t2 x n s next runs shape mode takes_on tables files ordered = (stands_still g k t t2 x true n s next runs shape mode takes_on tables files ordered).0

-- A call that changes tables and published lengths alone.
pub idle_on : (g : Geometry) (k : View) (t t2 : Tables) (x : Kept) (n : ℕ) (s : State) (who : Who) (call : Call) (runs : RunsAs g k t x n s) → IsIdle call → LetsJobsBe s (who, call) runs.numbers runs.jobs
    → (after_call s (who, call)).tables ≡ numbered_as (number runs.numbers) t2 → ((ino : ℕ) → is_open t2 ino ≡ true → (inode k.volume ino).kind ≡ File) → RunsAs g k t2 x (n + 1) (after_call s (who, call))
idle_on g k t t2 x n s who call runs idle lets tables files =
    runs_still g k t t2 x n s (after_call s (who, call)) runs (keeps_setting s (who, call)).shape (keeps_setting s (who, call)).mode
    (λ f valid. IsWorld-idle k.volume x.claims runs.jobs f runs.numbers s runs.count who call valid lets idle) tables files (AreOrdered-step_of alone s who call runs.ordered)

-- a step that touches no file leaves what is kept of files
pub left_alone : (w : Volume) (f : Files) → AreLeft None w f f
left_alone w f = record {
  count = refl;
  runs = λ i out. refl;
  sizes = λ i out. refl;
  spares = λ i out. refl;
  own_spare = λ ino same. omega arith;
  own_runs = λ ino same. (let never : None ≡ Some ino = same in cc);
  own_size = λ ino same. (let never : None ≡ Some ino = same in cc);
}

-- ---- refused

-- A call that changes nothing: it answers what its step answers.
pub answers_nothing : (who : Who) (call : Call) (k : View) (t : Tables) (f : Files) (o : Outcome)
    → ((g : Geometry) (x : Kept) (n : ℕ) (s : State) → RunsAs g k t (with_files x f) n s → step s who call ≡ record { state = s; outcome = o }) → Answers who call k t f k t f o
answers_nothing who call k t f o stays g x n s small runs lets =
    let is = stays g x n s runs in
    (subst (λ z. RunsAs g k t (with_files x f) (n + 1) z) (sym (ap (λ z. z.state) is)) (runs_later g k t (with_files x f) n s runs), ap (λ z. z.outcome) is)

pub spent_nothing : (who : Who) (call : Call) (k : View) (t : Tables) (f : Files) (o : Outcome) (old new : Supply)
    → ((g : Geometry) (x : Kept) (n : ℕ) (s : State) → RunsAs g k t (with_files x f) n s → step s who call ≡ record { state = s; outcome = o }) → IsSpent who call k t f old new
spent_nothing who call k t f o old new stays g x n s runs = inl (ap (λ z. tree z.state) (stays g x n s runs))

pub nothing_ended : (who : Who) (call : Call) (k k2 : View) (t : Tables) (f : Files) (o : Outcome) (old new : Supply) → k2 ≡ k → is_on new ≡ true
    → ((g : Geometry) (x : Kept) (n : ℕ) (s : State) → RunsAs g k t (with_files x f) n s → step s who call ≡ record { state = s; outcome = o })
    → Answers who call k t f k2 t f o × (is_on new ≡ true) × IsSpent who call k t f old new
nothing_ended who call k k2 t f o old new same on stays =
    (subst (λ z. Answers who call k t f z t f o) (sym same) (answers_nothing who call k t f o stays), on, spent_nothing who call k t f o old new stays)

-- a call on names that a row of the volume refuses
pub row_refuses : (who : Who) (call : Call) (k : View) (t : Tables) (f : Files) (o : Outcome) → IsNameCall call → row_of_call (volume_space k.volume) call ≡ Some o
    → (g : Geometry) (x : Kept) (n : ℕ) (s : State) → RunsAs g k t (with_files x f) n s → step s who call ≡ record { state = s; outcome = o }
row_refuses who call k t f o named row g x n s runs = refused_by_row k.volume k.cells x.claims runs.jobs runs.numbers s runs.count who call o runs.flying.device named row

-- ---- the power went

-- before the change
pub loses_off : (who : Who) (call : Call) (k k2 : View) (t : Tables) (f : Files) → IsOff k k2 → Loses who call k t f k2
loses_off who call k k2 t f off g x n start history small runs lets mode =
    keeps_image_off k k2 x.claims runs.jobs runs.numbers start history runs.count (who, call) x.first mode (λ strict. runs.flying.whole ((setting_run start history).mode ∙ strict)) (going g k t (with_files x f) n (run start history) runs) off

-- and where no change comes
pub loses_now : (who : Who) (call : Call) (k : View) (t : Tables) (f : Files) → Loses who call k t f k
loses_now who call k t f g x n start history small runs lets mode =
    keeps_image_off k (record k { lost = true }) x.claims runs.jobs runs.numbers start history runs.count (who, call) x.first mode (λ strict. runs.flying.whole ((setting_run start history).mode ∙ strict)) (going g k t (with_files x f) n (run start history) runs) refl

-- a call that takes no room leads to its end
pub leads_end : (g : Geometry) (k : View) (t : Tables) (x : Kept) (n : ℕ) (start : State) (history : List Item) (who : Who) (call : Call) → (runs : RunsAs g k t x n (run start history))
    → LetsJobsBe (run start history) (who, call) runs.numbers runs.jobs → takes (run start history) (who, call) ≡ 0 → LeadsTo start history (who, call) runs.jobs (after_call (run start history) (who, call))
leads_end g k t x n start history who call runs lets none =
    let valid = world g k t x n (run start history) runs in
    let fits : needs (run start history) (flights_of runs.numbers runs.jobs) ≤ room (run start history) = subst (AreAfforded (run start history)) (sym (begun-flights runs.numbers runs.jobs)) valid.valid.room in
    leads_after k.volume x.claims runs.jobs (journaled (words_of k.cells)) runs.numbers start history runs.count (who, call) valid
    (record { two = two_each g k t x n (run start history) runs; lets = lets; fits = omega (arith, fits, none) })

-- In it: a step from the history's state to another one, whose trees are those of the history's state with the call as the last of the
-- unfinished ones.
pub record CutsInto (v w : Volume) (claims : List (ℕ × Draft)) (jobs : List Job) (numbers : List ℕ) (start : State) (history : List Item) (c : Unfinished) (count : ℕ) : Type 0 where
  pub touched : Option ℕ
  pub after : List ℕ
  pub next : State
  pub later : ℕ
  pub is_step : IsStep touched v w claims jobs numbers after (run start history) next count later
  pub leads : LeadsTo start history c jobs next

pub loses_cut : (who : Who) (call : Call) (k k2 : View) (t : Tables) (f : Files) (w : Volume) → IsCut w k k2
    → ((g : Geometry) (x : Kept) (n : ℕ) (start : State) (history : List Item) → n + 1 < 2 ^ 31 → (runs : RunsAs g k t (with_files x f) n (run start history)) → LetsJobsBe (run start history) (who, call) runs.numbers runs.jobs
    → CutsInto k.volume w x.claims runs.jobs runs.numbers start history (who, call) runs.count)
    → Loses who call k t f k2
loses_cut who call k k2 t f w cut into g x n start history small runs lets mode =
    let is = into g x n start history small runs lets in
    keeps_image_cut is.touched k k2 w x.claims runs.jobs runs.numbers is.after (run start history) is.next runs.count is.later start history (who, call) x.first mode (λ strict. runs.flying.whole ((setting_run start history).mode ∙ strict))
    (going g k t (with_files x f) n (run start history) runs) cut is.is_step (leads_before start history (who, call) runs.jobs) is.leads

-- ---- what it leaves of the device

headed_left : (g : Geometry) (k : View) (t : Tables) (x : Kept) (n : ℕ) (s : State) → RunsAs g k t x n s → IsLeftOf g k.cells k.cells
headed_left g k t x n s runs = left_same g k.cells (λ image is. subst (λ y. IsSound y image) runs.geometry (sound_headed k.volume.geometry image (runs.flying.device.headed image is)))

-- a change that was cut off, from where they run
pub leaves_off : (g : Geometry) (k k2 : View) (t : Tables) (x : Kept) (n : ℕ) (s : State) → RunsAs g k t x n s → IsOff k k2 → IsLeftOf g k.cells k2.cells
leaves_off g k k2 t x n s runs off = subst (IsLeftOf g k.cells) (sym (ap (λ y. y.cells) off)) (headed_left g k t x n s runs)

pub leaves_cut : (g : Geometry) (k k2 : View) (t : Tables) (x : Kept) (n : ℕ) (s : State) (w : Volume) → RunsAs g k t x n s → IsCut w k k2 → IsLeftOf g k.cells k2.cells
leaves_cut g k k2 t x n s w runs cut =
    subst (λ y. IsLeftOf y k.cells k2.cells) runs.geometry (left_at k.volume k.committed k.cells k2.cells (runs.order.settled runs.unbatched) (left_cut w k k2 cut))

-- ---- a fault of K-Split

pub fault_ended : {T : Type 0} (row : Option Outcome) (Makes : T → Volume → Type 0) (who : Who) (call : Call) (k k2 : View) (t : Tables) (f : Files) (old new : Supply) (fault : KFault)
    → ((o : Outcome) → row ≡ Some o → (g : Geometry) (x : Kept) (n : ℕ) (s : State) → RunsAs g k t (with_files x f) n s → step s who call ≡ record { state = s; outcome = o })
    → ((y : T) (w : Volume) → row ≡ None → Makes y w → IsCut w k k2 → Loses who call k t f k2)
    → (let r : Result T KFault = Err fault in IsAnswer row Makes k k2 r × IsPaid row old new r) → IsEnded who call k t f k2 t f old new (told_of fault)
fault_ended row Makes who call k k2 t f old new (KFault.Refused errno) stays loses is =
    nothing_ended who call k k2 t f (answer (Reply.Error errno)) old new is.0.1 is.1.1 (stays (answer (Reply.Error errno)) is.0.0)
fault_ended row Makes who call k k2 t f old new (KFault.Room room) stays loses is =
    let o : Outcome = record { reply = Reply.Error Errno.ENOSPC; room = Some room } in
    nothing_ended who call k k2 t f o old new is.0.1 is.1.1 (stays o is.0.0)
fault_ended row Makes who call k k2 t f old new KFault.NoMemory stays loses is = (is.0.1, refl, refl, is.1.0)
fault_ended {T} row Makes who call k k2 t f old new KFault.PowerLost stays loses is = (by is.0, leaves is.0, is.1) where
  leaves : IsOff k k2 ⊎ ((row ≡ None) × ((y : T) × (w : Volume) × Makes y w × IsCut w k k2)) → LeavesDevice who call k t f k2
  leaves (inl off) g x n s small runs lets = leaves_off g k k2 t (with_files x f) n s runs off
  leaves (inr cut) g x n s small runs lets = leaves_cut g k k2 t (with_files x f) n s cut.1.1 runs cut.1.3

  by : IsOff k k2 ⊎ ((row ≡ None) × ((y : T) × (w : Volume) × Makes y w × IsCut w k k2)) → Loses who call k t f k2
  by (inl off) = loses_off who call k k2 t f off
  by (inr cut) = loses cut.1.0 cut.1.1 cut.0 cut.1.2 cut.1.3
