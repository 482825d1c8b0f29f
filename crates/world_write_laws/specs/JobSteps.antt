-- Jobs begin, are filled, finish or are given up; and a lap ends.
use Rattle.std.specs.Prelude.{◌≡◌, ◌⊎◌, ◌<◌, ◌≤◌, ◌+◌, ◌%◌, ◌^◌, ◌==◌, ◌&&◌, nat_lt, ℕ, true, List, [], ◌∷◌, ◌++◌, map, refl}
use Rattle.std.proofs.Common.{arith, ap, ◌∙◌, sym, subst, inl, inr}
use Rattle.std.proofs.lemmas.Bool.{and_parts}
use Rattle.std.proofs.lemmas.Bool.Decides.{Decides-eqb}
use Rattle.std.proofs.lemmas.List.Sums.{sum_by-cons}
use Rattle.world_step_laws.specs.world_model.pm_model.Words.{Words}
use Rattle.world_step_laws.specs.world_model.layout_model.declared.lines.Draft.{Draft}
use Rattle.world_step_laws.specs.world_model.layout_model.declared.lines.Kind.{Kind}
use Rattle.world_step_laws.specs.world_model.layout_model.declared.lines.Kind.TheVariants.{Directory, File, Free, Staging}
use Rattle.world_step_laws.specs.world_model.image_model.Rules.{IsKindAt}
use Rattle.world_step_laws.specs.world_model.image_model.Live.{is_file, is_live, is_of_file}
use Rattle.world_step_laws.specs.world_model.image_model.Reading.{base_set}
use Rattle.world_step_laws.specs.world_model.image_model.Volume.{inode, Volume}
use Rattle.world_step_laws.specs.volume_change_laws.MapLaws.{base-keeps}
use Rattle.world_step_laws.specs.world_model.posix_tables.Nodes.{node_at}
use Rattle.world_step_laws.specs.world_model.posix_spec.Run.{after_call, Unfinished}
use Rattle.world_step_laws.specs.world_model.posix_spec.State.{room, State}
use Rattle.world_step_laws.specs.world_model.list_laws.Members.{In}
use Rattle.world_step_laws.specs.world_model.posix_laws.Views.{need_of}
use Rattle.world_step_laws.specs.world_model.crash_spec.Sync.{with_bytes}
use Rattle.world_step_laws.specs.world_model.Jobs.{ApartFrom, AreApartJobs, unfinished_call, Job, JobsStand, JobStands, live_claims, Valid}
use Rattle.world_step_laws.specs.world_model.Stands.{IsSane, number, Stands}
use Rattle.world_step_laws.specs.world_model.Beside.{with_bytes-whole}
use Rattle.world_step_laws.specs.world_model.JobLaws.{acted, LeavesWhole-acted, live_file, live_used, needs, Valid-dropped, Valid-landed}
use Rattle.world_step_laws.specs.world_model.Landed.{NodeStands-same}
use Rattle.world_step_laws.specs.world_model.Lent.{Valid-words}
use Rattle.world_step_laws.specs.world_model.TreeRules.{all_lines, used_below}
use Rattle.world_step_laws.specs.world_model.LogRules.{ClaimsStand-landed}
use Rattle.world_step_laws.specs.Ages.{AreAged}
use Rattle.world_step_laws.specs.Worlds.{IsWorld}
use Rattle.world_write_laws.specs.JobsLaws.{KeepsBegun, KeepsFilled, KeepsFinished, KeepsGivenUp, KeepsLanded, KeepsLap}

-- ---- any job may be taken to the front

apart_turned : (i j : Job) → AreApartJobs i j → AreApartJobs j i
apart_turned i j apart = record { files = λ same. apart.files (sym same); staging = λ same. (elim (apart.staging (sym same)) [ inl before ↦ inr before | inr behind ↦ inl behind ]) }

pub record Parted (v : Volume) (live : List Draft) (f : Words) (numbers : List ℕ) (s : State) (j : Job) (rest : List Job) : Type 0 where
  pub one : JobStands v live f numbers s j
  pub apart : ApartFrom j rest
  pub others : JobsStand v live f numbers s rest

apart_front : (i j : Job) (a b : List Job) → ApartFrom i (a ++ j ∷ b) → AreApartJobs i j × ApartFrom i (a ++ b)
apart_front i j [] b apart = apart
apart_front i j (k ∷ a) b apart = let rest = apart_front i j a b apart.1 in (rest.0, (apart.0, rest.1))

pub front : (v : Volume) (live : List Draft) (f : Words) (numbers : List ℕ) (s : State) (a : List Job) (j : Job) (b : List Job) → JobsStand v live f numbers s (a ++ j ∷ b) → Parted v live f numbers s j (a ++ b)
front v live f numbers s [] j b out = record { one = out.0; apart = out.1; others = out.2 }
front v live f numbers s (i ∷ a) j b out =
    let rest = front v live f numbers s a j b out.2 in
    let apart = apart_front i j a b out.1 in
    record { one = rest.one; apart = (apart_turned i j apart.0, rest.apart); others = (out.0, apart.1, rest.others) }

needs_front : (s : State) (a : List Job) (j : Job) (b : List Job) → needs s (a ++ j ∷ b) ≡ needs s (j ∷ (a ++ b))
needs_front s [] j b = refl
needs_front s (i ∷ a) j b =
    let w : Unfinished → ℕ = λ (c : Unfinished). need_of s c.0 c.1 in
    omega (
      arith,
      sum_by-cons w (unfinished_call i) (map unfinished_call (a ++ j ∷ b)),
      needs_front s a j b,
      sum_by-cons w (unfinished_call j) (map unfinished_call (a ++ b)),
      sum_by-cons w (unfinished_call j) (map unfinished_call (i ∷ (a ++ b))),
      sum_by-cons w (unfinished_call i) (map unfinished_call (a ++ b)),
    )

pub Valid-front : (v : Volume) (claims : List (ℕ × Draft)) (a : List Job) (j : Job) (b : List Job) (f : Words) (numbers : List ℕ) (s : State) → Valid v claims (a ++ j ∷ b) f numbers s → Valid v claims (j ∷ (a ++ b)) f numbers s
Valid-front v claims a j b f numbers s valid =
    let parts = front v (live_claims v claims) f numbers s a j b valid.out in
    record { stands = valid.stands; out = (parts.one, parts.apart, parts.others); fits = valid.fits; room = subst (λ n. n ≤ room s) (needs_front s a j b) valid.room }

-- ---- a job begins

AllApart-In : (j : Job) (jobs : List Job) → ((i : Job) → In i jobs → AreApartJobs i j) → ApartFrom j jobs
AllApart-In j [] apart = tt
AllApart-In j (i ∷ jobs) apart = (apart_turned i j (apart i (inl refl)), AllApart-In j jobs (λ k is. apart k (inr is)))

pushed_apart : (i j : Job) (jobs : List Job) → ApartFrom i jobs → AreApartJobs i j → ApartFrom i (jobs ++ j ∷ [])
pushed_apart i j [] apart own = (own, tt)
pushed_apart i j (k ∷ jobs) apart own = (apart.0, pushed_apart i j jobs apart.1 own)

pushed : (v : Volume) (live : List Draft) (f : Words) (numbers : List ℕ) (s : State) (jobs : List Job) (j : Job) → JobsStand v live f numbers s jobs → JobStands v live f numbers s j → ((i : Job) → In i jobs → AreApartJobs i j)
    → JobsStand v live f numbers s (jobs ++ j ∷ [])
pushed v live f numbers s [] j out own apart = (own, tt, tt)
pushed v live f numbers s (i ∷ jobs) j out own apart = (out.0, pushed_apart i j jobs out.1 (apart i (inl refl)), pushed v live f numbers s jobs j out.2 own (λ k is. apart k (inr is)))

needs_pushed : (s : State) (jobs : List Job) (j : Job) → needs s (jobs ++ j ∷ []) ≡ needs s jobs + need_of s j.who j.call
needs_pushed s [] j = let w : Unfinished → ℕ = λ (c : Unfinished). need_of s c.0 c.1 in omega (arith, sum_by-cons w (unfinished_call j) [])
needs_pushed s (i ∷ jobs) j =
    let w : Unfinished → ℕ = λ (c : Unfinished). need_of s c.0 c.1 in
    omega (arith, sum_by-cons w (unfinished_call i) (map unfinished_call (jobs ++ j ∷ [])), needs_pushed s jobs j, sum_by-cons w (unfinished_call i) (map unfinished_call jobs))

pub begun : KeepsBegun
begun v claims jobs j f numbers s count world own apart fits = record {
  valid = record {
    stands = world.valid.stands;
    out = pushed v (live_claims v claims) f numbers s jobs j world.valid.out own apart;
    fits = world.valid.fits;
    room = subst (λ n. n ≤ room s) (sym (needs_pushed s jobs j)) fits;
  };
  claims_stand = world.claims_stand;
  aged = world.aged;
  shape = world.shape;
  geometry = world.geometry;
}

-- ---- a job is filled, and given up

pub filled : KeepsFilled
filled v claims jobs f g numbers s count world same =
    record { valid = Valid-words v claims jobs f g numbers s same world.valid; claims_stand = world.claims_stand; aged = world.aged; shape = world.shape; geometry = world.geometry }

pub given_up : KeepsGivenUp
given_up v claims a j b f numbers s count world = record {
  valid = Valid-dropped v claims j (a ++ b) f numbers s (Valid-front v claims a j b f numbers s world.valid);
  claims_stand = world.claims_stand;
  aged = world.aged;
  shape = world.shape;
  geometry = world.geometry;
}

-- ---- a job finishes

same_generation : (v : Volume) (d : Draft) → is_live v d ≡ true → (inode v d.ino).generation ≡ d.generation
same_generation v d alive =
    let first = and_parts (is_of_file v d && nat_lt (inode v d.ino).applied d.order) ((inode v d.staging).generation == d.staging_generation) alive in
    let second = and_parts (is_of_file v d) (nat_lt (inode v d.ino).applied d.order) first.0 in
    (Decides-eqb (inode v d.ino).generation d.generation).0 (and_parts (is_file (inode v d.ino).kind) ((inode v d.ino).generation == d.generation) second.0).1

small_rest : (n : ℕ) → n < 2 ^ 32 → (n + 0) % 2 ^ 32 ≡ n
small_rest n small = omega (arith, small)

mapped_more : (claims : List (ℕ × Draft)) (slot : ℕ) (d e : Draft) → In e (map (λ (c : ℕ × Draft). c.1) (claims ++ (slot, d) ∷ [])) → In e (map (λ (c : ℕ × Draft). c.1) claims) ⊎ (d ≡ e)
mapped_more [] slot d e (inl same) = inr same
mapped_more [] slot d e (inr none) = absurd none
mapped_more (c ∷ claims) slot d e (inl same) = inl (inl same)
mapped_more (c ∷ claims) slot d e (inr behind) = elim (mapped_more claims slot d e behind) [ inl old ↦ inl (inr old) | inr new ↦ inr new ]

of_file : (kind : Kind) (ino : ℕ) → kind ≡ File → IsKindAt ino kind → 5 ≤ ino
of_file Free ino is at = cc
of_file Directory ino is at = cc
of_file Staging ino is at = cc
of_file File ino is at = at

live_ino : (v : Volume) (d : Draft) → IsSane v → is_live v d ≡ true → 5 ≤ d.ino
live_ino v d sane alive =
    of_file (inode v d.ino).kind d.ino (live_file v d alive) (sane.kept.kinds d.ino (subst (λ n. d.ino < n) sane.inode_count (used_below v d.ino (live_used v d alive))))

AreAged-more : (v : Volume) (claims : List (ℕ × Draft)) (slot : ℕ) (d : Draft) (count : ℕ) → AreAged v claims count → is_live v d ≡ true → (inode v d.staging).kind ≡ Staging → d.generation < 2 ^ 32 → 5 ≤ d.ino
    → AreAged v (claims ++ (slot, d) ∷ []) count
AreAged-more v claims slot d count aged alive staging small least = record {
  small = aged.small;
  staging = λ e is. elim (mapped_more claims slot d e is) [ inl old ↦ aged.staging e old | inr new ↦ subst (λ x. (inode v x.staging).kind ≡ Staging) new staging ];
  own = λ e is. elim (mapped_more claims slot d e is) [ inl old ↦ aged.own e old | inr new ↦ subst (λ (x : Draft). 5 ≤ x.ino) new least ];
  taken = λ e is. elim (mapped_more claims slot d e is) [
    | inl old ↦ aged.taken e old
    | inr new ↦
        subst (λ (x : Draft). (x.generation < 2 ^ 32) × ((m : ℕ) × (m ≤ count) × ((x.generation + m) % 2 ^ 32 ≡ (inode v x.ino).generation))) new
        (small, (0, omega arith, small_rest d.generation small ∙ sym (same_generation v d alive)))
  ];
}

pub landed : KeepsLanded
landed v claims a j b f numbers s count slot world holds =
    let valid = Valid-front v claims a j b f numbers s world.valid in
    let job = valid.out.0 in
    let left = LeavesWhole-acted v (live_claims v claims) f numbers s j valid.stands job in
    record {
      valid = Valid-landed v claims j (a ++ b) f numbers s slot valid holds;
      claims_stand = ClaimsStand-landed v claims slot j.draft world.claims_stand valid.stands.log job.alive job.order;
      aged = AreAged-more v claims slot j.draft count world.aged job.alive job.staging job.fields.generation (live_ino v j.draft valid.stands.sane job.alive);
      shape = record {
        root = subst (λ x. 1 ≤ x.nodes) (sym left.shape) world.shape.root;
        nodes = ap (λ x. x.nodes + 4) left.shape ∙ world.shape.nodes;
        names = ap (λ x. x.names) left.shape ∙ world.shape.names;
      };
      geometry = world.geometry;
    }

pub finished : KeepsFinished
finished v claims a j b f numbers s count slot world holds whole =
    let valid = Valid-front v claims a j b f numbers s world.valid in
    let job = valid.out.0 in
    let same : acted numbers s j ≡ after_call s (unfinished_call j) =
    ap (with_bytes (after_call s (unfinished_call j)) (number numbers j.draft.ino)) whole
    ∙ with_bytes-whole s (unfinished_call j) (number numbers j.draft.ino) j.whole job.puts (valid.stands.names.within j.draft.ino (live_used v j.draft job.alive))
    in
    subst (λ x. IsWorld v (claims ++ (slot, j.draft) ∷ []) (a ++ b) f numbers x count) same (landed v claims a j b f numbers s count slot world holds)

-- ---- a lap ends

pub lap : KeepsLap
lap v claims f numbers s count base world none = record {
  valid = record {
    stands = record {
      sane = record {
        kept = base-keeps base v sane.kept (all_lines v sane);
        inode_count = sane.inode_count;
        name_count = sane.name_count;
        chain_count = sane.chain_count;
        map_count = sane.map_count;
        spelled = sane.spelled;
      };
      names = record {
        root = stands.names.root;
        root_used = stands.names.root_used;
        within = stands.names.within;
        one = stands.names.one;
        names = stands.names.names;
        entry_parents = stands.names.entry_parents;
        distinct = stands.names.distinct;
      };
      nodes = record { each = λ ino used. NodeStands-same v [] f (base_set base v) [] f ino (inode v ino).kind (node_at s.nodes (number numbers ino)) (record { size = refl; bytes = λ i below. refl }) (stands.nodes.each ino used); all = stands.nodes.all };
      log = record { staging = λ d is. absurd is; staged = λ d is. absurd is; apart = λ d e is other. absurd is; orders = λ ino. tt };
    };
    out = tt;
    fits = world.valid.fits;
    room = world.valid.room;
  };
  claims_stand = record { orders = λ m n d e first. absurd first; settled = λ m d first. absurd first };
  aged = record { small = omega arith; staging = λ d is. absurd is; own = λ d is. absurd is; taken = λ d is. absurd is };
  shape = record { root = world.shape.root; nodes = world.shape.nodes; names = world.shape.names };
  geometry = world.geometry;
} where
  sane : IsSane v
  sane = world.valid.stands.sane

  stands : Stands v [] f numbers s
  stands = subst (λ l. Stands v l f numbers s) none world.valid.stands
