-- A job finishes in sync mode: its entry is claimed, and then the bytes of its file below the old length are written in place.
use Rattle.std.specs.Prelude.{◌≡◌, ◌≢◌, ◌≤◌, ◌+◌, ℕ, zero, suc, List, [], ◌∷◌, ◌++◌, map, slice_set, refl}
use Rattle.std.proofs.Common.{arith, ap, ◌∙◌, sym, subst}
use Rattle.std.proofs.lemmas.Bool.{ne_eqb}
use Rattle.std.proofs.lemmas.List.{get_or-set_other}
use Rattle.std.proofs.lemmas.List.Sums.{sum_by-cons}
use Rattle.world_step_laws.specs.world_model.pm_model.Words.{Words}
use Rattle.world_step_laws.specs.world_model.layout_model.declared.lines.Draft.{Draft}
use Rattle.world_step_laws.specs.world_model.image_model.Volume.{Volume}
use Rattle.world_step_laws.specs.world_model.posix_tables.declared.nodes.Node.{Node}
use Rattle.world_step_laws.specs.world_model.posix_tables.Nodes.{node_at, published_of}
use Rattle.world_step_laws.specs.world_model.posix_spec.Run.{after_call, Unfinished}
use Rattle.world_step_laws.specs.world_model.posix_spec.State.{room, State}
use Rattle.world_step_laws.specs.world_model.posix_laws.Puts.{LeavesWhole, with_whole}
use Rattle.world_step_laws.specs.world_model.posix_laws.ViewLaws.{need_of-kept, PutsWhole-kept}
use Rattle.world_step_laws.specs.world_model.posix_laws.Views.{KeepsView, need_of}
use Rattle.world_step_laws.specs.commute_laws.Needs.{AreInFlight}
use Rattle.world_step_laws.specs.world_model.crash_spec.Sync.{with_bytes}
use Rattle.world_step_laws.specs.world_model.Jobs.{ApartFrom, unfinished_call, Job, JobsStand, JobStands, live_claims}
use Rattle.world_step_laws.specs.world_model.Stands.{number, Stands}
use Rattle.world_step_laws.specs.world_model.Beside.{Fits-after, KeepsView-other, LeavesWhole-bytes, room-after, with_bytes-whole}
use Rattle.world_step_laws.specs.world_model.JobLaws.{acted, live_used, needs}
use Rattle.world_step_laws.specs.Steps.{AreBeside, flights_of, HaveSameFiles, InFlight-job}
use Rattle.world_step_laws.specs.Touched.{only}
use Rattle.world_step_laws.specs.Worlds.{IsWorld}
use Rattle.world_write_laws.specs.JobSteps.{landed, Valid-front}
use Rattle.world_write_laws.specs.BesideLaws.{KeepsFinishedInPlaceBeside}
use Rattle.world_write_laws.specs.JobsLaws.{KeepsFinishedInPlace}
use Rattle.world_write_laws.specs.PlaceSteps.{in_place, in_place_beside}

-- the state in which the job has acted, with these bytes
abbrev left_with : List ℕ → State → Job → List ℕ → State
left_with numbers s j bytes = with_bytes (after_call s (unfinished_call j)) (number numbers j.draft.ino) bytes

leaves_with : (v : Volume) (live : List Draft) (f : Words) (numbers : List ℕ) (s : State) (j : Job) (bytes : List ℕ) → Stands v live f numbers s → JobStands v live f numbers s j
    → LeavesWhole s (left_with numbers s j bytes) (number numbers j.draft.ino) bytes
leaves_with v live f numbers s j bytes stands job =
    LeavesWhole-bytes s (unfinished_call j) (number numbers j.draft.ino) j.whole bytes job.puts (stands.names.within j.draft.ino (live_used v j.draft job.alive))

other_number : (v : Volume) (live : List Draft) (f : Words) (numbers : List ℕ) (s : State) (j k : Job) → Stands v live f numbers s → JobStands v live f numbers s j → JobStands v live f numbers s k → j.draft.ino ≢ k.draft.ino
    → number numbers k.draft.ino ≢ number numbers j.draft.ino
other_number v live f numbers s j k stands first second other same = other (sym (stands.names.one k.draft.ino j.draft.ino (live_used v k.draft second.alive) (live_used v j.draft first.alive) same))

other_node : (v : Volume) (live : List Draft) (f : Words) (numbers : List ℕ) (s : State) (j k : Job) (bytes : List ℕ) → Stands v live f numbers s → JobStands v live f numbers s j → JobStands v live f numbers s k → j.draft.ino ≢ k.draft.ino
    → node_at (left_with numbers s j bytes).nodes (number numbers k.draft.ino) ≡ node_at s.nodes (number numbers k.draft.ino)
other_node v live f numbers s j k bytes stands first second other =
    ap (λ xs. node_at xs (number numbers k.draft.ino)) (leaves_with v live f numbers s j bytes stands first).nodes
    ∙ get_or-set_other s.nodes (number numbers j.draft.ino) (number numbers k.draft.ino) (with_whole s (number numbers j.draft.ino) bytes) Node.Gone (other_number v live f numbers s j k stands first second other)

view : (v : Volume) (live : List Draft) (f : Words) (numbers : List ℕ) (s : State) (j k : Job) (bytes : List ℕ) → Stands v live f numbers s → JobStands v live f numbers s j → JobStands v live f numbers s k → j.draft.ino ≢ k.draft.ino
    → KeepsView s (left_with numbers s j bytes) k.who k.call
view v live f numbers s j k bytes stands first second other =
    KeepsView-other s (unfinished_call j) (number numbers j.draft.ino) j.whole bytes k.who k.call (number numbers k.draft.ino) k.whole first.puts (stands.names.within j.draft.ino (live_used v j.draft first.alive)) second.puts
    (other_number v live f numbers s j k stands first second other)

needs_cons : (s : State) (j : Job) (jobs : List Job) → needs s (j ∷ jobs) ≡ need_of s j.who j.call + needs s jobs
needs_cons s j jobs = sum_by-cons (λ (c : Unfinished). need_of s c.0 c.1) (unfinished_call j) (map unfinished_call jobs)

-- the other jobs go on
flying_with : (v : Volume) (live : List Draft) (f : Words) (numbers : List ℕ) (s : State) (j : Job) (bytes : List ℕ) (jobs : List Job) → Stands v live f numbers s → JobStands v live f numbers s j → ApartFrom j jobs
    → JobsStand v live f numbers s jobs → needs s jobs ≤ room (left_with numbers s j bytes) → AreInFlight (left_with numbers s j bytes) (flights_of numbers jobs)
flying_with v live f numbers s j bytes [] stands first apart out fits = tt
flying_with v live f numbers s j bytes (k ∷ jobs) stands first apart out fits =
    let flight = InFlight-job v live f numbers s k stands out.0 in
    let sum = needs_cons s k jobs in (
      record {
        puts =
            PutsWhole-kept s (left_with numbers s j bytes) k.who k.call (number numbers k.draft.ino) k.whole flight.puts (view v live f numbers s j k bytes stands first out.0 apart.0.files) (omega (arith, sum, fits));
        file = flight.file;
        is = other_node v live f numbers s j k bytes stands first out.0 apart.0.files ∙ flight.is;
      },
      flying_with v live f numbers s j bytes jobs stands first apart.1 out.2 (omega (arith, sum, fits)),
    )

files_with : (v : Volume) (live : List Draft) (f : Words) (numbers : List ℕ) (s : State) (j : Job) (a b : List ℕ) (jobs : List Job) → Stands v live f numbers s → JobStands v live f numbers s j → ApartFrom j jobs
    → JobsStand v live f numbers s jobs → HaveSameFiles (left_with numbers s j a) (left_with numbers s j b) numbers jobs
files_with v live f numbers s j a b [] stands first apart out = tt
files_with v live f numbers s j a b (k ∷ jobs) stands first apart out = (
  other_node v live f numbers s j k b stands first out.0 apart.0.files ∙ sym (other_node v live f numbers s j k a stands first out.0 apart.0.files),
  files_with v live f numbers s j a b jobs stands first apart.1 out.2,
)

needs_with : (v : Volume) (live : List Draft) (f : Words) (numbers : List ℕ) (s : State) (j : Job) (bytes : List ℕ) (jobs : List Job) → Stands v live f numbers s → JobStands v live f numbers s j → ApartFrom j jobs
    → JobsStand v live f numbers s jobs → needs (left_with numbers s j bytes) jobs ≡ needs s jobs
needs_with v live f numbers s j bytes [] stands first apart out = refl
needs_with v live f numbers s j bytes (k ∷ jobs) stands first apart out =
    let own = need_of-kept s (left_with numbers s j bytes) k.who k.call (view v live f numbers s j k bytes stands first out.0 apart.0.files) in
    omega (arith, needs_cons s k jobs, needs_cons (left_with numbers s j bytes) k jobs, own, needs_with v live f numbers s j bytes jobs stands first apart.1 out.2)

beside_apart : (j : Job) (jobs : List Job) → ApartFrom j jobs → AreBeside (only j.draft.ino) jobs
beside_apart j [] apart = tt
beside_apart j (k ∷ jobs) apart = (ne_eqb k.draft.ino j.draft.ino (λ same. apart.0.files (sym same)), beside_apart j jobs apart.1)

set_twice : (nodes : List Node) (k : ℕ) (x y : Node) → slice_set (slice_set nodes k x) k y ≡ slice_set nodes k y
set_twice [] k x y = refl
set_twice (z ∷ zs) zero x y = refl
set_twice (z ∷ zs) (suc k) x y = ap (λ l. z ∷ l) (set_twice zs k x y)

pub finished_in_place : KeepsFinishedInPlace
finished_in_place v claims a j b f g numbers s count slot world holds writes =
    let live = live_claims v claims in
    let n : ℕ = number numbers j.draft.ino in
    let valid = Valid-front v claims a j b f numbers s world.valid in
    let job = valid.out.0 in
    let after : State = left_with numbers s j j.whole in
    let same : after ≡ after_call s (unfinished_call j) = with_bytes-whole s (unfinished_call j) n j.whole job.puts (valid.stands.names.within j.draft.ino (live_used v j.draft job.alive)) in
    let first = leaves_with v live f numbers s j j.found valid.stands job in
    let last = leaves_with v live f numbers s j j.whole valid.stands job in
    let sum = needs_cons s j (a ++ b) in
    let all : need_of s j.who j.call + needs s (a ++ b) ≤ room s = omega (arith, valid.room, sum) in
    let fits : needs s (a ++ b) ≤ room after = room-after s after (unfinished_call j) n j.whole j.whole (needs s (a ++ b)) job.puts last refl all in
    subst (λ x. IsWorld v (claims ++ (slot, j.draft) ∷ []) (a ++ b) g numbers x count) same
    (in_place v (claims ++ (slot, j.draft) ∷ []) (a ++ b) f g numbers (acted numbers s j) after count j.draft.ino j.whole (published_of (node_at s.nodes n))
    (landed v claims a j b f numbers s count slot world holds) writes (beside_apart j (a ++ b) valid.out.1)
    (record {
      flying_on = flying_with v live f numbers s j j.whole (a ++ b) valid.stands job valid.out.1 valid.out.2 fits;
      files = files_with v live f numbers s j j.found j.whole (a ++ b) valid.stands job valid.out.1 valid.out.2;
      fits = Fits-after s after (unfinished_call j) n j.whole j.whole job.puts last refl (omega (arith, all)) valid.fits;
      room = omega (arith, fits, needs_with v live f numbers s j j.whole (a ++ b) valid.stands job valid.out.1 valid.out.2);
    })
    (last.entries ∙ sym first.entries) (last.shape ∙ sym first.shape)
    (last.nodes ∙ (sym (set_twice s.nodes n (with_whole s n j.found) (with_whole s n j.whole)) ∙ ap (λ xs. slice_set xs n (with_whole s n j.whole)) (sym first.nodes))))

-- where it is the only one, it is enough that blocks of other files are left alone
pub finished_beside : KeepsFinishedInPlaceBeside
finished_beside v claims j f g numbers s count slot world holds writes =
    let live = live_claims v claims in
    let n : ℕ = number numbers j.draft.ino in
    let valid = world.valid in
    let job = valid.out.0 in
    let after : State = left_with numbers s j j.whole in
    let same : after ≡ after_call s (unfinished_call j) = with_bytes-whole s (unfinished_call j) n j.whole job.puts (valid.stands.names.within j.draft.ino (live_used v j.draft job.alive)) in
    let first = leaves_with v live f numbers s j j.found valid.stands job in
    let last = leaves_with v live f numbers s j j.whole valid.stands job in
    let room_is : need_of s j.who j.call + needs s [] ≤ room s = omega (arith, valid.room, needs_cons s j []) in
    subst (λ x. IsWorld v (claims ++ (slot, j.draft) ∷ []) [] g numbers x count) same
    (in_place_beside v (claims ++ (slot, j.draft) ∷ []) f g numbers (acted numbers s j) after count j.draft.ino j.whole (published_of (node_at s.nodes n))
    (landed v claims [] j [] f numbers s count slot world holds) writes (Fits-after s after (unfinished_call j) n j.whole j.whole job.puts last refl (omega (arith, room_is)) valid.fits)
    (last.entries ∙ sym first.entries) (last.shape ∙ sym first.shape)
    (last.nodes ∙ (sym (set_twice s.nodes n (with_whole s n j.found) (with_whole s n j.whole)) ∙ ap (λ xs. slice_set xs n (with_whole s n j.whole)) (sym first.nodes))))
