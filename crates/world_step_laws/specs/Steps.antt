-- A call of another caller than those of the jobs keeps the world valid, where what it makes of the volume stands for what
-- it makes of the state.
use Rattle.std.specs.Prelude.{IsSome, ◌≡◌, ◌≢◌, ◌⊎◌, ◌≤◌, ◌/◌, ◌+◌, ℕ, Bool, true, false, not, ◌&&◌, ◌==◌, nat_lt, List, [], ◌∷◌, map, length, sum_by, refl}
use Rattle.std.proofs.Common.{arith, ap, ◌∙◌, sym, subst, inl, inr}
use Rattle.std.proofs.lemmas.Bool.{cases_Bool}
use Rattle.std.proofs.lemmas.Bool.Decides.{nat_tests}
use Rattle.std.proofs.lemmas.List.Sums.{sum_by-cons}
use Rattle.volume_change_laws.specs.pm_model.Words.{Words}
use Rattle.volume_change_laws.specs.layout_model.declared.lines.Draft.{Draft}
use Rattle.volume_change_laws.specs.layout_model.declared.lines.Kind.{Kind}
use Rattle.volume_change_laws.specs.layout_model.declared.lines.Kind.TheVariants.{Free, Directory, File, Staging}
use Rattle.volume_change_laws.specs.image_model.Content.{byte_in}
use Rattle.volume_change_laws.specs.image_model.Live.{is_file, is_live, is_of_file}
use Rattle.volume_change_laws.specs.image_model.Volume.{inode, Volume}
use Rattle.commute_laws.specs.posix_types.declared.call.Call.{Call}
use Rattle.commute_laws.specs.posix_types.declared.call.Who.{Who}
use Rattle.commute_laws.specs.posix_tables.declared.nodes.DirEntry.{DirEntry}
use Rattle.commute_laws.specs.posix_tables.declared.nodes.File.{File as FileNode}
use Rattle.commute_laws.specs.posix_tables.declared.nodes.Node.{Node}
use Rattle.commute_laws.specs.posix_tables.Nodes.{bytes_of, node_at}
use Rattle.commute_laws.specs.posix_spec.Run.{after_call, Unfinished}
use Rattle.commute_laws.specs.posix_spec.State.{alone, Fits, room, State}
use Rattle.commute_laws.specs.posix_laws.FitsLaws.{Fits-step_of}
use Rattle.commute_laws.specs.crash_spec.Sync.{IsPartOf}
use Rattle.commute_laws.specs.list_laws.Filters.{filter-agree, filter-both}
use Rattle.commute_laws.specs.list_laws.Members.{In}
use Rattle.commute_laws.specs.posix_laws.Puts.{PutsWhole}
use Rattle.commute_laws.specs.posix_laws.ViewLaws.{need_of-kept, PutsWhole-kept}
use Rattle.commute_laws.specs.posix_laws.Views.{AreAfforded, KeepsView, need_of}
use Rattle.commute_laws.specs.Flights.{InFlight, KeepsSeen-call}
use Rattle.commute_laws.specs.Needs.{AreAfforded-step, AreInFlight, Flight, LetsAllBe, needs}
use Rattle.commute_laws.specs.Needs as flying
use Rattle.commute_laws.specs.Rooms.{FitsBeside}
use Rattle.world_model.specs.Claims.{ClaimsStand}
use Rattle.world_model.specs.Jobs.{unfinished_call, Job, JobsStand, JobStands, live_claims, Valid}
use Rattle.world_model.specs.Stands.{is_used, IsSane, IsUsed, NamesStand, NodeStands, number, Stands}
use Rattle.world_model.specs.JobLaws.{live_file, live_used}
use Rattle.world_model.specs.Landed.{NodeStands-same}
use Rattle.world_step_laws.specs.Touched.{beside, beside-In, disk_of-left, entries-beside, is_beside, Leaves, LogStands-left, SameFile-left, staged-left, staging-left, untouched}

-- a node as it is shown: its published length does not matter
abbrev pub shown_node : Node → Node
shown_node Node.Gone = Node.Gone
shown_node Node.Directory = Node.Directory
shown_node (Node.File file) = Node.File (record { bytes = file.bytes; published = 0 })

-- the jobs as writes in flight
abbrev pub flight_of : List ℕ → Job → Flight
flight_of numbers j = record { begun = unfinished_call j; node = number numbers j.draft.ino; whole = j.whole }

abbrev pub flights_of : List ℕ → List Job → List Flight
flights_of numbers jobs = map (flight_of numbers) jobs

-- the call is another caller's than those of the jobs, and leaves their files alone
abbrev pub LetsJobsBe : State → Unfinished → List ℕ → List Job → Type 0
LetsJobsBe s c numbers jobs = LetsAllBe s c (flights_of numbers jobs)

-- no job is of a touched inode
abbrev pub AreBeside : (ℕ → Bool) → List Job → Type 0
AreBeside touched [] = Unit {0}
AreBeside touched (j ∷ jobs) = (touched j.draft.ino ≡ false) × AreBeside touched jobs

-- What a step makes of volume, numbers and state, so that the one stands for the other.
pub record Steps (touched : ℕ → Bool) (v w : Volume) (claims : List (ℕ × Draft)) (f : Words) (numbers after : List ℕ) (s new : State) : Type 0 where
  pub leaves : Leaves touched v w
  pub sane : IsSane w
  pub names : NamesStand w after new
  pub same_number : (ino : ℕ) → IsUsed v ino → touched ino ≡ false → number after ino ≡ number numbers ino
  pub same_node : (ino : ℕ) → IsUsed v ino → touched ino ≡ false → shown_node (node_at new.nodes (number numbers ino)) ≡ shown_node (node_at s.nodes (number numbers ino))
  pub own : (ino : ℕ) → IsUsed w ino → touched ino ≡ true → NodeStands w (beside touched (live_claims v claims)) f ino (inode w ino).kind (node_at new.nodes (number after ino))
  pub all : (n : ℕ) → node_at new.nodes n ≢ Node.Gone → (ino : ℕ) × IsUsed w ino × (number after ino ≡ n)
  -- claims of staging files; those of a touched inode are of no file that is there now, or of the same file, and settled
  pub staging : (d : Draft) → In d (map (λ (c : ℕ × Draft). c.1) claims) → touched d.staging ≡ false
  pub dead : (d : Draft) → In d (map (λ (c : ℕ × Draft). c.1) claims) → touched d.ino ≡ true
      → (is_of_file w d ≡ false) ⊎ ((is_of_file v d ≡ true) × (d.order ≤ (inode w d.ino).applied))

-- ---- claims

live_settled : (v : Volume) (d : Draft) → d.order ≤ (inode v d.ino).applied → is_live v d ≡ false
live_settled v d old = by (is_of_file v d) (nat_lt (inode v d.ino).applied d.order) ((inode v d.staging).generation == d.staging_generation) (not_below (inode v d.ino).applied d.order old) where
  not_below : (a b : ℕ) → b ≤ a → nat_lt a b ≡ false
  not_below a b le = grind (arith, nat_tests, le)

  by : (a b c : Bool) → b ≡ false → (a && b && c) ≡ false
  by true b c is = ap (λ x. x && c) is
  by false b c is = refl

live_other : (v : Volume) (d : Draft) → is_of_file v d ≡ false → is_live v d ≡ false
live_other v d none = ap (λ x. x && nat_lt (inode v d.ino).applied d.order && ((inode v d.staging).generation == d.staging_generation)) none

live_same : (v w : Volume) (d : Draft) → inode w d.ino ≡ inode v d.ino → inode w d.staging ≡ inode v d.staging → is_live w d ≡ is_live v d
live_same v w d own staging =
    λ i. is_file (own i).kind && ((own i).generation == d.generation) && nat_lt (own i).applied d.order && ((staging i).generation == d.staging_generation)

is_live-left : (touched : ℕ → Bool) (v w : Volume) (claims : List (ℕ × Draft)) (f : Words) (numbers after : List ℕ) (s new : State) (d : Draft) → Steps touched v w claims f numbers after s new
    → In d (map (λ (c : ℕ × Draft). c.1) claims) → is_live w d ≡ (is_live v d && is_beside touched d)
is_live-left touched v w claims f numbers after s new d steps is = elim (cases_Bool (touched d.ino)) [
  | inl out ↦ dead (steps.dead d is out) ∙ sym (and_none (is_live v d) (is_beside touched d) (ap not out))
  | inr out ↦ live_same v w d (steps.leaves.inodes d.ino out) (steps.leaves.inodes d.staging (steps.staging d is)) ∙ sym (and_all (is_live v d) (is_beside touched d) (ap not out))
]
  where
    dead : (is_of_file w d ≡ false) ⊎ ((is_of_file v d ≡ true) × (d.order ≤ (inode w d.ino).applied)) → is_live w d ≡ false
    dead (inl none) = live_other w d none
    dead (inr (file, old)) = live_settled w d old

    and_none : (a b : Bool) → b ≡ false → (a && b) ≡ false
    and_none true b is = is
    and_none false b is = refl

    and_all : (a b : Bool) → b ≡ true → (a && b) ≡ a
    and_all true b is = is
    and_all false b is = refl

-- THE LIVE CLAIMS are those of the inodes that are not touched.
pub live_claims-left : (touched : ℕ → Bool) (v w : Volume) (claims : List (ℕ × Draft)) (f : Words) (numbers after : List ℕ) (s new : State) → Steps touched v w claims f numbers after s new
    → live_claims w claims ≡ beside touched (live_claims v claims)
live_claims-left touched v w claims f numbers after s new steps =
    filter-agree (is_live w) (λ d. is_live v d && is_beside touched d) (map (λ (c : ℕ × Draft). c.1) claims) (λ d is. is_live-left touched v w claims f numbers after s new d steps is)
    ∙ filter-both (is_live v) (is_beside touched) (map (λ (c : ℕ × Draft). c.1) claims)

claimed : (claims : List (ℕ × Draft)) (slot : ℕ) (d : Draft) → In (slot, d) claims → In d (map (λ (c : ℕ × Draft). c.1) claims)
claimed [] slot d is = absurd is
claimed (c ∷ claims) slot d (inl same) = inl (ap (λ (x : ℕ × Draft). x.1) same)
claimed (c ∷ claims) slot d (inr behind) = inr (claimed claims slot d behind)

-- a claim of a file that is there now was one of that file
of_file : (touched : ℕ → Bool) (v w : Volume) (claims : List (ℕ × Draft)) (f : Words) (numbers after : List ℕ) (s new : State) (d : Draft) → Steps touched v w claims f numbers after s new
    → In d (map (λ (c : ℕ × Draft). c.1) claims) → is_of_file w d ≡ true → is_of_file v d ≡ true
of_file touched v w claims f numbers after s new d steps is file = elim (cases_Bool (touched d.ino)) [
  | inl out ↦ dead (steps.dead d is out)
  | inr out ↦ (λ i. is_file (sym (steps.leaves.inodes d.ino out) i).kind && ((sym (steps.leaves.inodes d.ino out) i).generation == d.generation)) ∙ file
]
  where
    dead : (is_of_file w d ≡ false) ⊎ ((is_of_file v d ≡ true) × (d.order ≤ (inode w d.ino).applied)) → is_of_file v d ≡ true
    dead (inl none) = let never : true ≡ false = sym file ∙ none in cc
    dead (inr (was, old)) = was

-- THE CLAIMS STAND.
pub ClaimsStand-left : (touched : ℕ → Bool) (v w : Volume) (claims : List (ℕ × Draft)) (f : Words) (numbers after : List ℕ) (s new : State) → Steps touched v w claims f numbers after s new
    → ClaimsStand v claims → ClaimsStand w claims
ClaimsStand-left touched v w claims f numbers after s new steps stand = record {
  orders = λ m n d e first second other d_file e_file same.
      stand.orders m n d e first second other (of_file touched v w claims f numbers after s new d steps (claimed claims m d first) d_file)
      (of_file touched v w claims f numbers after s new e steps (claimed claims n e second) e_file) same;
  settled = λ slot d is file. settled slot d is file (cases_Bool (touched d.ino));
} where
  settled : (slot : ℕ) (d : Draft) → In (slot, d) claims → is_of_file w d ≡ true → (touched d.ino ≡ true) ⊎ (touched d.ino ≡ false) → (d.order ≤ (inode w d.ino).applied) ⊎ (is_live w d ≡ true)
  settled slot d is file (inl out) = dead (steps.dead d (claimed claims slot d is) out) where
    dead : (is_of_file w d ≡ false) ⊎ ((is_of_file v d ≡ true) × (d.order ≤ (inode w d.ino).applied)) → (d.order ≤ (inode w d.ino).applied) ⊎ (is_live w d ≡ true)
    dead (inl none) = let never : true ≡ false = sym file ∙ none in cc
    dead (inr (was, old)) = inl old
  settled slot d is file (inr out) = elim (stand.settled slot d is (of_file touched v w claims f numbers after s new d steps (claimed claims slot d is) file)) [
    | inl old ↦ inl (subst (λ x. d.order ≤ x.applied) (sym (steps.leaves.inodes d.ino out)) old)
    | inr alive ↦ inr (live_same v w d (steps.leaves.inodes d.ino out) (steps.leaves.inodes d.staging (steps.staging d (claimed claims slot d is))) ∙ alive)
  ]

-- ---- the volume stands

stands_shown : (v : Volume) (live : List Draft) (f : Words) (ino : ℕ) (kind : Kind) (a b : Node) → shown_node b ≡ shown_node a → NodeStands v live f ino kind a → NodeStands v live f ino kind b
stands_shown v live f ino kind a b same stands = from kind b (subst (NodeStands v live f ino kind) (sym same) (to kind a stands)) where
  to : (k : Kind) (n : Node) → NodeStands v live f ino k n → NodeStands v live f ino k (shown_node n)
  to Free n is = absurd is
  to Staging n is = absurd is
  to Directory Node.Gone is = is
  to Directory Node.Directory is = is
  to Directory (Node.File file) is = is
  to File Node.Gone is = is
  to File Node.Directory is = is
  to File (Node.File file) is = is

  from : (k : Kind) (n : Node) → NodeStands v live f ino k (shown_node n) → NodeStands v live f ino k n
  from Free n is = absurd is
  from Staging n is = absurd is
  from Directory Node.Gone is = is
  from Directory Node.Directory is = is
  from Directory (Node.File file) is = is
  from File Node.Gone is = is
  from File Node.Directory is = is
  from File (Node.File file) is = is

pub Stands-left : (touched : ℕ → Bool) (v w : Volume) (claims : List (ℕ × Draft)) (f : Words) (numbers after : List ℕ) (s new : State) → Steps touched v w claims f numbers after s new
    → Stands v (live_claims v claims) f numbers s → Stands w (beside touched (live_claims v claims)) f after new
Stands-left touched v w claims f numbers after s new steps stands = record {
  sane = steps.sane;
  names = steps.names;
  nodes = record { each = λ ino used. each ino used (cases_Bool (touched ino)); all = steps.all };
  log = LogStands-left touched v w (live_claims v claims) steps.leaves stands.log;
} where
  live : List Draft
  live = live_claims v claims

  each : (ino : ℕ) → IsUsed w ino → (touched ino ≡ true) ⊎ (touched ino ≡ false) → NodeStands w (beside touched live) f ino (inode w ino).kind (node_at new.nodes (number after ino))
  each ino used (inl out) = steps.own ino used out
  each ino used (inr out) =
      let same = steps.leaves.inodes ino out in
      let was : IsUsed v ino = ap (λ x. is_used x.kind) (sym same) ∙ used in
      let before = stands_shown v live f ino (inode v ino).kind (node_at s.nodes (number numbers ino)) (node_at new.nodes (number numbers ino)) (steps.same_node ino was out) (stands.nodes.each ino was) in
      let now = NodeStands-same v live f w (beside touched live) f ino (inode v ino).kind (node_at new.nodes (number numbers ino)) (SameFile-left touched v w live f ino steps.leaves stands.log out) before in
      subst (λ n. NodeStands w (beside touched live) f ino (inode w ino).kind (node_at new.nodes n)) (sym (steps.same_number ino was out))
      (subst (λ x. NodeStands w (beside touched live) f ino x.kind (node_at new.nodes (number numbers ino))) (sym same) now)

-- ---- jobs

file_node : (v : Volume) (live : List Draft) (f : Words) (ino : ℕ) (kind : Kind) (node : Node) → kind ≡ File → NodeStands v live f ino kind node → (file : FileNode) × (node ≡ Node.File file)
file_node v live f ino Free node is stands = absurd stands
file_node v live f ino Staging node is stands = absurd stands
file_node v live f ino Directory node is stands = cc
file_node v live f ino File Node.Gone is stands = absurd stands
file_node v live f ino File Node.Directory is stands = absurd stands
file_node v live f ino File (Node.File file) is stands = (file, refl)

-- jobs are writes in flight
pub InFlight-job : (v : Volume) (live : List Draft) (f : Words) (numbers : List ℕ) (s : State) (j : Job) → Stands v live f numbers s → JobStands v live f numbers s j
    → InFlight s (unfinished_call j) (number numbers j.draft.ino) j.whole
InFlight-job v live f numbers s j stands job =
    let file = file_node v live f j.draft.ino (inode v j.draft.ino).kind (node_at s.nodes (number numbers j.draft.ino)) (live_file v j.draft job.alive) (stands.nodes.each j.draft.ino (live_used v j.draft job.alive)) in
    record { puts = job.puts; file = file.0; is = file.1 }

pub AreInFlight-jobs : (v : Volume) (live : List Draft) (f : Words) (numbers : List ℕ) (s : State) (jobs : List Job) → Stands v live f numbers s → JobsStand v live f numbers s jobs
    → AreInFlight s (flights_of numbers jobs)
AreInFlight-jobs v live f numbers s [] stands out = tt
AreInFlight-jobs v live f numbers s (j ∷ jobs) stands out = (InFlight-job v live f numbers s j stands out.0, AreInFlight-jobs v live f numbers s jobs stands out.2)

pub begun-flights : (numbers : List ℕ) (jobs : List Job) → map flying.unfinished_call (flights_of numbers jobs) ≡ map unfinished_call jobs
begun-flights numbers [] = refl
begun-flights numbers (j ∷ jobs) = ap (λ xs. unfinished_call j ∷ xs) (begun-flights numbers jobs)

-- a job after the call
job_left : (touched : ℕ → Bool) (v w : Volume) (claims : List (ℕ × Draft)) (f : Words) (numbers after : List ℕ) (s new : State) (j : Job) → Steps touched v w claims f numbers after s new
    → Stands v (live_claims v claims) f numbers s → JobStands v (live_claims v claims) f numbers s j → touched j.draft.ino ≡ false → InFlight new (unfinished_call j) (number numbers j.draft.ino) j.whole
    → node_at new.nodes (number numbers j.draft.ino) ≡ node_at s.nodes (number numbers j.draft.ino) → JobStands w (beside touched (live_claims v claims)) f after new j
job_left touched v w claims f numbers after s new j steps stands job out flight node =
    let live = live_claims v claims in
    let same = steps.leaves.inodes j.draft.ino out in
    let num = steps.same_number j.draft.ino (live_used v j.draft job.alive) out in
    record {
      draft = job.draft;
      fields = job.fields;
      alive = live_same v w j.draft same (steps.leaves.inodes j.draft.staging (steps.leaves.staging j.draft.staging job.staging)) ∙ job.alive;
      order = job.order ∙ (λ i. (sym same i).applied + length (sym (entries-beside touched live j.draft.ino out) i) + 1);
      size = job.size;
      rest = λ i below past. ap (λ b. byte_in f b i) (disk_of-left touched v w live j.draft.ino (i / 4096) steps.leaves stands.log out) ∙ job.rest i below past;
      within = job.within;
      parts = job.parts;
      placed = λ i front. subst IsSome (sym (disk_of-left touched v w live j.draft.ino (i / 4096) steps.leaves stands.log out)) (job.placed i front);
      staging = staging-left touched v w j.draft steps.leaves job.staging;
      staged = staged-left touched v w j.draft steps.leaves job.staging job.staged;
      apart = λ d is. job.apart d (beside-In touched live d is);
      puts = subst (λ n. PutsWhole new j.who j.call n j.whole) (sym num) flight.puts;
      part = subst (λ bytes. IsPartOf bytes j.whole j.found) (ap bytes_of (sym node) ∙ ap (λ n. bytes_of (node_at new.nodes n)) (sym num)) job.part;
    }

-- What goes on in the next state: each write in flight, with its file as it was; their needs find room, and what files hold
-- leaves the reserve.
abbrev pub HaveSameFiles : State → State → List ℕ → List Job → Type 0
HaveSameFiles s new numbers [] = Unit {0}
HaveSameFiles s new numbers (j ∷ jobs) = (node_at new.nodes (number numbers j.draft.ino) ≡ node_at s.nodes (number numbers j.draft.ino)) × HaveSameFiles s new numbers jobs

pub record GoOn (s new : State) (numbers : List ℕ) (jobs : List Job) : Type 0 where
  pub flying_on : AreInFlight new (flights_of numbers jobs)
  pub files : HaveSameFiles s new numbers jobs
  pub fits : Fits new
  pub room : AreAfforded new (map unfinished_call jobs)

jobs_left : (touched : ℕ → Bool) (v w : Volume) (claims : List (ℕ × Draft)) (f : Words) (numbers after : List ℕ) (s new : State) (jobs : List Job) → Steps touched v w claims f numbers after s new
    → Stands v (live_claims v claims) f numbers s → JobsStand v (live_claims v claims) f numbers s jobs → AreBeside touched jobs → AreInFlight new (flights_of numbers jobs) → HaveSameFiles s new numbers jobs
    → JobsStand w (beside touched (live_claims v claims)) f after new jobs
jobs_left touched v w claims f numbers after s new [] steps stands out off on files = tt
jobs_left touched v w claims f numbers after s new (j ∷ jobs) steps stands out off on files =
    (job_left touched v w claims f numbers after s new j steps stands out.0 off.0 on.0 files.0, out.1, jobs_left touched v w claims f numbers after s new jobs steps stands out.2 off.1 on.1 files.1)

-- THE WORLD STAYS VALID.
pub Valid-left : (touched : ℕ → Bool) (v w : Volume) (claims : List (ℕ × Draft)) (jobs : List Job) (f : Words) (numbers after : List ℕ) (s new : State)
    → Valid v claims jobs f numbers s → AreBeside touched jobs → GoOn s new numbers jobs → Steps touched v w claims f numbers after s new → Valid w claims jobs f after new
Valid-left touched v w claims jobs f numbers after s new valid off on steps =
    let same = live_claims-left touched v w claims f numbers after s new steps in
    record {
      stands = subst (λ l. Stands w l f after new) (sym same) (Stands-left touched v w claims f numbers after s new steps valid.stands);
      out = subst (λ l. JobsStand w l f after new jobs) (sym same) (jobs_left touched v w claims f numbers after s new jobs steps valid.stands valid.out off on.flying_on on.files);
      fits = on.fits;
      room = on.room;
    }

-- Jobs go on under a call of another caller that leaves their files alone and fits beside them.
same_files : (v : Volume) (live : List Draft) (f : Words) (numbers : List ℕ) (s : State) (c : Unfinished) (jobs : List Job) → Stands v live f numbers s → JobsStand v live f numbers s jobs → LetsJobsBe s c numbers jobs
    → HaveSameFiles s (after_call s c) numbers jobs
same_files v live f numbers s c [] stands out lets = tt
same_files v live f numbers s c (j ∷ jobs) stands out lets = (
  (KeepsSeen-call s (unfinished_call j) c (number numbers j.draft.ino) j.whole lets.0.threads (InFlight-job v live f numbers s j stands out.0) lets.0.aside).file,
  same_files v live f numbers s c jobs stands out.2 lets.1,
)

pub GoOn-call : (v : Volume) (claims : List (ℕ × Draft)) (jobs : List Job) (f : Words) (numbers : List ℕ) (s : State) (c : Unfinished) → Valid v claims jobs f numbers s → LetsJobsBe s c numbers jobs
    → FitsBeside s c (needs s (flights_of numbers jobs)) → GoOn s (after_call s c) numbers jobs
GoOn-call v claims jobs f numbers s c valid lets fits =
    let live = live_claims v claims in
    let begun = begun-flights numbers jobs in
    let moved =
    AreAfforded-step s c (flights_of numbers jobs) (AreInFlight-jobs v live f numbers s jobs valid.stands valid.out) lets (subst (AreAfforded s) (sym begun) valid.room) fits
    in
    record {
      flying_on = moved.0;
      files = same_files v live f numbers s c jobs valid.stands valid.out lets;
      fits = Fits-step_of alone s c.0 c.1 valid.fits;
      room = subst (AreAfforded (after_call s c)) begun moved.1;
    }

-- And where only the entries of the state change, as in the middle of a call.
same_view : (s : State) (entries : List DirEntry) (who : Who) (call : Call) → KeepsView s (record s { entries = entries }) who call
same_view s entries who (Call.Write h x) = record { handle = refl; node = refl; mode = refl }
same_view s entries who (Call.Pwrite h o x) = record { handle = refl; node = refl; mode = refl }
same_view s entries who call = tt

room_one : (s : State) (j : Job) (jobs : List Job) → AreAfforded s (map unfinished_call (j ∷ jobs)) → (need_of s j.who j.call ≤ room s) × AreAfforded s (map unfinished_call jobs)
room_one s j jobs fits =
    let sum = sum_by-cons (λ (c : Unfinished). need_of s c.0 c.1) (unfinished_call j) (map unfinished_call jobs) in
    (omega (arith, sum, fits), omega (arith, sum, fits))

flying_entries : (v : Volume) (live : List Draft) (f : Words) (numbers : List ℕ) (s : State) (entries : List DirEntry) (jobs : List Job) → Stands v live f numbers s → JobsStand v live f numbers s jobs
    → AreAfforded s (map unfinished_call jobs) → AreInFlight (record s { entries = entries }) (flights_of numbers jobs)
flying_entries v live f numbers s entries [] stands out room = tt
flying_entries v live f numbers s entries (j ∷ jobs) stands out room =
    let flight = InFlight-job v live f numbers s j stands out.0 in
    let parts = room_one s j jobs room in (
      record {
        puts = PutsWhole-kept s (record s { entries = entries }) j.who j.call (number numbers j.draft.ino) j.whole flight.puts (same_view s entries j.who j.call) parts.0;
        file = flight.file;
        is = flight.is;
      },
      flying_entries v live f numbers s entries jobs stands out.2 parts.1,
    )

needs_entries : (s : State) (entries : List DirEntry) (jobs : List Job) → AreAfforded s (map unfinished_call jobs) → AreAfforded (record s { entries = entries }) (map unfinished_call jobs)
needs_entries s entries jobs fits = subst (λ n. n ≤ room s) (sym (same jobs)) fits where
  same : (js : List Job) → sum_by (λ (c : Unfinished). need_of (record s { entries = entries }) c.0 c.1) (map unfinished_call js) ≡ sum_by (λ (c : Unfinished). need_of s c.0 c.1) (map unfinished_call js)
  same [] = refl
  same (j ∷ js) =
      let one = need_of-kept s (record s { entries = entries }) j.who j.call (same_view s entries j.who j.call) in
      sum_by-cons (λ (c : Unfinished). need_of (record s { entries = entries }) c.0 c.1) (unfinished_call j) (map unfinished_call js)
      ∙ ((λ i. one i + same js i) ∙ sym (sum_by-cons (λ (c : Unfinished). need_of s c.0 c.1) (unfinished_call j) (map unfinished_call js)))

all_files : (s : State) (entries : List DirEntry) (numbers : List ℕ) (jobs : List Job) → HaveSameFiles s (record s { entries = entries }) numbers jobs
all_files s entries numbers [] = tt
all_files s entries numbers (j ∷ jobs) = (refl, all_files s entries numbers jobs)

pub GoOn-entries : (v : Volume) (claims : List (ℕ × Draft)) (jobs : List Job) (f : Words) (numbers : List ℕ) (s : State) (entries : List DirEntry) → Valid v claims jobs f numbers s → GoOn s (record s { entries = entries }) numbers jobs
GoOn-entries v claims jobs f numbers s entries valid = record {
  flying_on = flying_entries v (live_claims v claims) f numbers s entries jobs valid.stands valid.out valid.room;
  files = all_files s entries numbers jobs;
  fits = valid.fits;
  room = needs_entries s entries jobs valid.room;
}

pub AreBeside-none : (jobs : List Job) → AreBeside untouched jobs
AreBeside-none [] = tt
AreBeside-none (j ∷ jobs) = (refl, AreBeside-none jobs)
