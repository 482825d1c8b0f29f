-- A job that lands, or does not: the world of the other jobs is valid.
use Rattle.std.specs.Prelude.{◌≡◌, ◌≢◌, ◌≤◌, ◌<◌, ℕ, ◌+◌, ◌*◌, ◌/◌, ◌==◌, ◌&&◌, nat_lt, true, List, [], ◌∷◌, ◌++◌, length, map, filter, Option, IsSome, sum_by, refl}
use Rattle.std.proofs.Common.{arith, ap, ◌∙◌, sym, subst, inl, inr}
use Rattle.std.proofs.lemmas.Bool.{and_parts}
use Rattle.std.proofs.lemmas.Bool.Decides.{nat_tests}
use Rattle.std.proofs.lemmas.List.{get_or-set_other, map-append}
use Rattle.std.proofs.lemmas.List.Sums.{sum_by-cons}
use Rattle.name_laws.specs.pm_model.Words.{Words}
use Rattle.name_laws.specs.volume_laws.image_model.extent_model.Extents.{is_within}
use Rattle.name_laws.specs.layout_model.declared.lines.Draft.{Draft}
use Rattle.name_laws.specs.layout_model.declared.lines.Kind.TheVariants.{File}
use Rattle.name_laws.specs.image_model.Content.{byte_in}
use Rattle.name_laws.specs.image_model.Live.{is_file, is_live, is_of_file}
use Rattle.name_laws.specs.image_model.Rules.{AreApart}
use Rattle.name_laws.specs.image_model.Volume.{inode, Volume}
use Rattle.crash_spec.specs.posix_laws.posix_tables.declared.nodes.Node.{Node}
use Rattle.crash_spec.specs.posix_laws.posix_tables.Nodes.{bytes_of, node_at}
use Rattle.crash_spec.specs.posix_laws.posix_spec.Run.{after_call, Unfinished}
use Rattle.crash_spec.specs.posix_laws.posix_spec.State.{room, State}
use Rattle.crash_spec.specs.Sync.{IsPartOf, with_bytes}
use Rattle.crash_spec.specs.list_laws.Filters.{filter-more}
use Rattle.crash_spec.specs.list_laws.Members.{pushed-In}
use Rattle.crash_spec.specs.posix_laws.Puts.{LeavesWhole, with_whole}
use Rattle.crash_spec.specs.posix_laws.ViewLaws.{need_of-kept, PutsWhole-kept}
use Rattle.crash_spec.specs.posix_laws.Views.{KeepsView, need_of}
use Rattle.world_model.specs.Jobs.{ApartFrom, AreApartJobs, unfinished_call, HoldsWhole, Job, JobsStand, JobStands, live_claims, Valid}
use Rattle.world_model.specs.Promised.{Acts}
use Rattle.world_model.specs.Stands.{is_used, IsUsed, number, Stands}
use Rattle.world_model.specs.Beside.{Fits-after, KeepsView-other, LeavesWhole-bytes, room-after}
use Rattle.world_model.specs.Landed.{CanLand, disk-other, entries-other, kind_file, Stands-landed}

-- the state in which a job has acted, with the bytes that are found of it
abbrev pub acted : List ℕ → State → Job → State
acted numbers s j = with_bytes (after_call s (unfinished_call j)) (number numbers j.draft.ino) j.found

-- an entry that is live is one of a file
pub live_file : (v : Volume) (d : Draft) → is_live v d ≡ true → (inode v d.ino).kind ≡ File
live_file v d alive =
    let first = and_parts (is_of_file v d && nat_lt (inode v d.ino).applied d.order) ((inode v d.staging).generation == d.staging_generation) alive in
    let second = and_parts (is_of_file v d) (nat_lt (inode v d.ino).applied d.order) first.0 in
    kind_file (inode v d.ino).kind (and_parts (is_file (inode v d.ino).kind) ((inode v d.ino).generation == d.generation) second.0).0

pub live_used : (v : Volume) (d : Draft) → is_live v d ≡ true → IsUsed v d.ino
live_used v d alive = ap is_used (live_file v d alive)

-- one more claim that is live
pub live_claims-more : (v : Volume) (claims : List (ℕ × Draft)) (slot : ℕ) (d : Draft) → is_live v d ≡ true → live_claims v (claims ++ (slot, d) ∷ []) ≡ live_claims v claims ++ d ∷ []
live_claims-more v claims slot d alive =
    ap (filter (is_live v)) (map-append (λ (c : ℕ × Draft). c.1) claims ((slot, d) ∷ []))
    ∙ filter-more (is_live v) (map (λ (c : ℕ × Draft). c.1) claims) d alive

pub can_land : (v : Volume) (live : List Draft) (f : Words) (numbers : List ℕ) (s : State) (j : Job) → JobStands v live f numbers s j → CanLand v live f j.draft j.found
can_land v live f numbers s j job = record {
  file = live_file v j.draft job.alive;
  order = job.order;
  size = job.size;
  rest = job.rest;
  staging = job.staging;
  staged = job.staged;
  apart = job.apart;
}

inside : (first count k i : ℕ) → k < count → i < 4096 → is_within first count ((4096 * (first + k) + i) / 4096) ≡ true
inside first count k i below short =
    let block : (4096 * (first + k) + i) / 4096 ≡ first + k = omega (arith, short) in
    subst (λ (b : ℕ). is_within first count b ≡ true) (sym block) (at (first + k) (omega arith) (omega (arith, below))) where
      at : (b : ℕ) → first ≤ b → b < first + count → is_within first count b ≡ true
      at b least most = grind (arith, nat_tests)

-- The blocks of a job that hold its whole bytes hold what is found of it.
pub HoldsWhole-found : (v : Volume) (live : List Draft) (f g : Words) (numbers : List ℕ) (s : State) (j : Job) → JobStands v live f numbers s j → HoldsWhole v g j.draft j.whole → HoldsWhole v g j.draft j.found
HoldsWhole-found v live f g numbers s j job holds k b i below at short =
    holds k b i below at short ∙ sym (job.within (4096 * (j.draft.file_block + k) + i) (inside j.draft.file_block j.draft.count k i below short))

pub Acts-job : (v : Volume) (live : List Draft) (f : Words) (numbers : List ℕ) (s : State) (j : Job) → Stands v live f numbers s → JobStands v live f numbers s j → Acts s j (acted numbers s j)
Acts-job v live f numbers s j stands job = record {
  node = number numbers j.draft.ino;
  there = stands.names.within j.draft.ino (live_used v j.draft job.alive);
  puts = job.puts;
  part = job.part;
  next_is = refl;
}

pub LeavesWhole-acted : (v : Volume) (live : List Draft) (f : Words) (numbers : List ℕ) (s : State) (j : Job) → Stands v live f numbers s → JobStands v live f numbers s j
    → LeavesWhole s (acted numbers s j) (number numbers j.draft.ino) j.found
LeavesWhole-acted v live f numbers s j stands job =
    LeavesWhole-bytes s (unfinished_call j) (number numbers j.draft.ino) j.whole j.found job.puts (stands.names.within j.draft.ino (live_used v j.draft job.alive))

-- Another job.

apart_nodes : (v : Volume) (live : List Draft) (f : Words) (numbers : List ℕ) (s : State) (i j : Job) → Stands v live f numbers s → JobStands v live f numbers s i → JobStands v live f numbers s j
    → i.draft.ino ≢ j.draft.ino → number numbers j.draft.ino ≢ number numbers i.draft.ino
apart_nodes v live f numbers s i j stands first second other same =
    other (sym (stands.names.one j.draft.ino i.draft.ino (live_used v j.draft second.alive) (live_used v i.draft first.alive) same))

view : (v : Volume) (live : List Draft) (f : Words) (numbers : List ℕ) (s : State) (i j : Job) → Stands v live f numbers s → JobStands v live f numbers s i → JobStands v live f numbers s j
    → i.draft.ino ≢ j.draft.ino → KeepsView s (acted numbers s i) j.who j.call
view v live f numbers s i j stands first second other =
    KeepsView-other s (unfinished_call i) (number numbers i.draft.ino) i.whole i.found j.who j.call (number numbers j.draft.ino) j.whole first.puts
    (stands.names.within i.draft.ino (live_used v i.draft first.alive)) second.puts (apart_nodes v live f numbers s i j stands first second other)

-- stands as before, where one of another file has landed
JobStands-beside : (v : Volume) (live : List Draft) (f : Words) (numbers : List ℕ) (s : State) (i j : Job) → Stands v live f numbers s → JobStands v live f numbers s i → JobStands v live f numbers s j
    → AreApartJobs i j → need_of s j.who j.call ≤ room (acted numbers s i) → JobStands v (live ++ i.draft ∷ []) f numbers (acted numbers s i) j
JobStands-beside v live f numbers s i j stands first second apart fits = record {
  draft = second.draft;
  fields = second.fields;
  alive = second.alive;
  order = second.order ∙ ap (λ (es : List Draft). (inode v j.draft.ino).applied + length es + 1) (sym (entries-other live i.draft j.draft.ino apart.files));
  size = second.size;
  rest = λ k below beside. ap (λ b. byte_in f b k) (disk-other v live i.draft j.draft.ino (k / 4096) apart.files) ∙ second.rest k below beside;
  within = second.within;
  parts = second.parts;
  placed = λ k front. subst IsSome (sym (disk-other v live i.draft j.draft.ino (k / 4096) apart.files)) (second.placed k front);
  staging = second.staging;
  staged = second.staged;
  apart = λ d is. elim (pushed-In live i.draft d is) [ inl old ↦ second.apart d old | inr new ↦ subst (λ x. AreApart x j.draft) new apart.staging ];
  puts = PutsWhole-kept s (acted numbers s i) j.who j.call (number numbers j.draft.ino) j.whole second.puts (view v live f numbers s i j stands first second apart.files) fits;
  part = subst (λ (n : Node). IsPartOf (bytes_of n) j.whole j.found) (sym same) second.part;
} where
  same : node_at (acted numbers s i).nodes (number numbers j.draft.ino) ≡ node_at s.nodes (number numbers j.draft.ino)
  same =
      ap (λ nodes. node_at nodes (number numbers j.draft.ino)) (LeavesWhole-acted v live f numbers s i stands first).nodes
      ∙ get_or-set_other s.nodes (number numbers i.draft.ino) (number numbers j.draft.ino) (with_whole s (number numbers i.draft.ino) i.found) Node.Gone
      (apart_nodes v live f numbers s i j stands first second apart.files)

-- what some jobs need together
abbrev pub needs : State → List Job → ℕ
needs s jobs = sum_by (λ (c : Unfinished). need_of s c.0 c.1) (map unfinished_call jobs)

needs-cons : (s : State) (j : Job) (jobs : List Job) → needs s (j ∷ jobs) ≡ need_of s j.who j.call + needs s jobs
needs-cons s j jobs = sum_by-cons (λ (c : Unfinished). need_of s c.0 c.1) (unfinished_call j) (map unfinished_call jobs)

JobsStand-beside : (v : Volume) (live : List Draft) (f : Words) (numbers : List ℕ) (s : State) (i : Job) (jobs : List Job) → Stands v live f numbers s → JobStands v live f numbers s i → ApartFrom i jobs
    → JobsStand v live f numbers s jobs → needs s jobs ≤ room (acted numbers s i) → JobsStand v (live ++ i.draft ∷ []) f numbers (acted numbers s i) jobs
JobsStand-beside v live f numbers s i [] stands first apart out fits = tt
JobsStand-beside v live f numbers s i (j ∷ jobs) stands first apart out fits = (
  JobStands-beside v live f numbers s i j stands first out.0 apart.0 (omega (arith, fits, needs-cons s j jobs)),
  out.1,
  JobsStand-beside v live f numbers s i jobs stands first apart.1 out.2 (omega (arith, fits, needs-cons s j jobs)),
)

-- and needs what it needed
needs-beside : (v : Volume) (live : List Draft) (f : Words) (numbers : List ℕ) (s : State) (i : Job) (jobs : List Job) → Stands v live f numbers s → JobStands v live f numbers s i → ApartFrom i jobs
    → JobsStand v live f numbers s jobs → needs (acted numbers s i) jobs ≡ needs s jobs
needs-beside v live f numbers s i [] stands first apart out = refl
needs-beside v live f numbers s i (j ∷ jobs) stands first apart out =
    let own = need_of-kept s (acted numbers s i) j.who j.call (view v live f numbers s i j stands first out.0 apart.0.files) in
    omega (arith, needs-cons s j jobs, needs-cons (acted numbers s i) j jobs, own, needs-beside v live f numbers s i jobs stands first apart.1 out.2)

-- The first job lands: its entry is claimed, and its blocks hold what is found.
pub Valid-landed : (v : Volume) (claims : List (ℕ × Draft)) (j : Job) (jobs : List Job) (f : Words) (numbers : List ℕ) (s : State) (slot : ℕ) → Valid v claims (j ∷ jobs) f numbers s → HoldsWhole v f j.draft j.found
    → Valid v (claims ++ (slot, j.draft) ∷ []) jobs f numbers (acted numbers s j)
Valid-landed v claims j jobs f numbers s slot valid holds =
    let live = live_claims v claims in
    let job = valid.out.0 in
    let next = acted numbers s j in
    let node : ℕ = number numbers j.draft.ino in
    let left = LeavesWhole-acted v live f numbers s j valid.stands job in
    let more = live_claims-more v claims slot j.draft job.alive in
    let all : need_of s j.who j.call + needs s jobs ≤ room s = omega (arith, valid.room, needs-cons s j jobs) in
    let fits : needs s jobs ≤ room next = room-after s next (unfinished_call j) node j.whole j.found (needs s jobs) job.puts left job.part.size all in
    record {
      stands = subst (λ es. Stands v es f numbers next) (sym more) (Stands-landed v live f numbers s next j.draft j.found valid.stands (can_land v live f numbers s j job) holds left);
      out = subst (λ es. JobsStand v es f numbers next jobs) (sym more) (JobsStand-beside v live f numbers s j jobs valid.stands job valid.out.1 valid.out.2 fits);
      fits = Fits-after s next (unfinished_call j) node j.whole j.found job.puts left job.part.size (omega (arith, all)) valid.fits;
      room = omega (arith, fits, needs-beside v live f numbers s j jobs valid.stands job valid.out.1 valid.out.2);
    }

-- The first job is dropped.
pub Valid-dropped : (v : Volume) (claims : List (ℕ × Draft)) (j : Job) (jobs : List Job) (f : Words) (numbers : List ℕ) (s : State) → Valid v claims (j ∷ jobs) f numbers s → Valid v claims jobs f numbers s
Valid-dropped v claims j jobs f numbers s valid =
    record { stands = valid.stands; out = valid.out.2; fits = valid.fits; room = omega (arith, valid.room, needs-cons s j jobs) }
