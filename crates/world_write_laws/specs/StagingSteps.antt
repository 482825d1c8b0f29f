-- A staging file in which nothing is live, nor any job, is given up or filled anew.
use Rattle.std.specs.Prelude.{◌≡◌, ◌≢◌, ◌⊎◌, ◌<◌, ◌≤◌, ◌+◌, ◌-◌, ◌/◌, ◌==◌, ◌&&◌, nat_lt, ℕ, Bool, true, false, List, [], ◌∷◌, length, map, Option, Some, None, IsSome, option_map, refl}
use Rattle.std.proofs.Common.{arith, ap, ◌∙◌, sym, subst, inl, inr}
use Rattle.std.proofs.lemmas.Bool.{cases_Bool, cases_eq}
use Rattle.std.proofs.lemmas.Bool.Decides.{Decides-eqb, nat_tests}
use Rattle.world_step_laws.specs.world_model.layout_model.Places.{IsGeometry}
use Rattle.world_step_laws.specs.world_model.extent_model.Extents.{disk_at}
use Rattle.world_step_laws.specs.world_model.layout_model.declared.lines.Draft.{Draft}
use Rattle.world_step_laws.specs.world_model.layout_model.declared.lines.Kind.{Kind}
use Rattle.world_step_laws.specs.world_model.layout_model.declared.lines.Kind.TheVariants.{Free, Directory, File, Staging}
use Rattle.world_step_laws.specs.world_model.layout_model.Names.{child_named}
use Rattle.world_step_laws.specs.world_model.image_model.Content.{byte_in, disk_by, disk_of, entry_of_block, size_by}
use Rattle.world_step_laws.specs.world_model.image_model.Live.{is_file, is_live, is_of_file, latest}
use Rattle.world_step_laws.specs.world_model.image_model.Rules.{IsKindAt}
use Rattle.world_step_laws.specs.world_model.image_model.Volume.{inode, Volume}
use Rattle.world_step_laws.specs.world_model.posix_tables.Nodes.{node_at}
use Rattle.world_step_laws.specs.world_model.list_laws.Filters.{filter-agree, filter-In, In-filter}
use Rattle.world_step_laws.specs.world_model.list_laws.Members.{In}
use Rattle.world_step_laws.specs.world_model.Jobs.{Job, JobsStand, live_claims}
use Rattle.world_step_laws.specs.world_model.Stands.{Consecutive, entries_of, is_used, IsUsed, NodeStands, number, Stands}
use Rattle.world_step_laws.specs.world_model.JobLaws.{live_used}
use Rattle.world_step_laws.specs.world_model.Landed.{NodeStands-same}
use Rattle.world_write_laws.specs.PlaceSteps.{covering, staging_below, used_staging}
use Rattle.world_write_laws.specs.RunsLaws.{KeepsRestaged}

-- ---- staging files

staging_low : (kind : Kind) (ino : ℕ) → kind ≡ Staging → IsKindAt ino kind → ino < 5
staging_low Free ino is at = cc
staging_low Directory ino is at = cc
staging_low File ino is at = cc
staging_low Staging ino is at = omega (arith, at.1)

pub restaged : KeepsRestaged
restaged v w claims jobs f numbers s count x world change none_live none_out = record {
  valid = record {
    stands = subst (λ l. Stands w l f numbers s) (sym same_live) after;
    out = subst (λ l. JobsStand w l f numbers s jobs) (sym same_live) (jobs_same jobs none_out world.valid.out);
    fits = world.valid.fits;
    room = world.valid.room;
  };
  claims_stand = record {
    orders = λ m n a b is there other a_file b_file ino.
        world.claims_stand.orders m n a b is there other (sym (of_file a (slotted claims m a is)) ∙ a_file) (sym (of_file b (slotted claims n b there)) ∙ b_file) ino;
    settled = λ slot d is file. elim (world.claims_stand.settled slot d is (sym (of_file d (slotted claims slot d is)) ∙ file)) [
      | inl old ↦ inl (subst (λ y. d.order ≤ y.applied) (sym (own_line d (slotted claims slot d is))) old)
      | inr alive ↦ inr (live_same d (slotted claims slot d is) ∙ alive)
    ];
  };
  aged = record {
    small = world.aged.small;
    staging = λ d is. kinds d.staging (cases_eq d.staging x) ∙ world.aged.staging d is;
    own = world.aged.own;
    taken = λ d is. (let its = world.aged.taken d is in (its.0, (its.1.0, its.1.1, its.1.2 ∙ ap (λ y. y.generation) (sym (own_line d is)))));
  };
  shape = record {
    root = world.shape.root;
    nodes = world.shape.nodes ∙ sym (change.sane.inode_count ∙ (ap (λ g. g.inodes) change.geometry ∙ sym stands.sane.inode_count));
    names = world.shape.names ∙ ap length (sym change.names);
  };
  geometry = subst IsGeometry (sym change.geometry) world.geometry;
} where
  live : List Draft
  live = live_claims v claims

  stands : Stands v live f numbers s
  stands = world.valid.stands

  low : x < 5
  low = staging_low (inode v x).kind x change.staging (stands.sane.kept.kinds x (subst (λ n. x < n) stands.sane.inode_count (staging_below v x change.staging)))

  not_file : (d : Draft) → In d (map (λ (c : ℕ × Draft). c.1) claims) → d.ino ≢ x
  not_file d is same = let least = world.aged.own d is in omega (arith, least, low, same)

  own_line : (d : Draft) → In d (map (λ (c : ℕ × Draft). c.1) claims) → inode w d.ino ≡ inode v d.ino
  own_line d is = change.others d.ino (not_file d is)

  of_file : (d : Draft) → In d (map (λ (c : ℕ × Draft). c.1) claims) → is_of_file w d ≡ is_of_file v d
  of_file d is = λ i. is_file (own_line d is i).kind && ((own_line d is i).generation == d.generation)

  kinds : (ino : ℕ) → (ino ≡ x) ⊎ (ino ≢ x) → (inode w ino).kind ≡ (inode v ino).kind
  kinds ino (inl same) = ap (λ k. (inode w k).kind) same ∙ (change.kind ∙ (sym change.staging ∙ ap (λ k. (inode v k).kind) (sym same)))
  kinds ino (inr other) = ap (λ y. y.kind) (change.others ino other)

  same_used : (ino : ℕ) → is_used (inode w ino).kind ≡ is_used (inode v ino).kind
  same_used ino = ap is_used (kinds ino (cases_eq ino x))

  slotted : (cs : List (ℕ × Draft)) (slot : ℕ) (d : Draft) → In (slot, d) cs → In d (map (λ (c : ℕ × Draft). c.1) cs)
  slotted [] slot d is = absurd is
  slotted (c ∷ cs) slot d (inl same) = inl (ap (λ (y : ℕ × Draft). y.1) same)
  slotted (c ∷ cs) slot d (inr behind) = inr (slotted cs slot d behind)

  slot_of : (cs : List (ℕ × Draft)) (d : Draft) → In d (map (λ (c : ℕ × Draft). c.1) cs) → (slot : ℕ) × In (slot, d) cs
  slot_of [] d is = absurd is
  slot_of (c ∷ cs) d (inl here) = (c.0, inl (λ i. (c.0, here i)))
  slot_of (c ∷ cs) d (inr behind) = let rest = slot_of cs d behind in (rest.0, inr rest.1)

  -- a claim in the staging file is not live, before or after
  settled_dead : (y : Volume) (d : Draft) → (is_of_file y d ≡ false) ⊎ (d.order ≤ (inode y d.ino).applied) → is_live y d ≡ false
  settled_dead y d (inl none) = ap (λ b. b && nat_lt (inode y d.ino).applied d.order && ((inode y d.staging).generation == d.staging_generation)) none
  settled_dead y d (inr old) = by (is_of_file y d) (nat_lt (inode y d.ino).applied d.order) ((inode y d.staging).generation == d.staging_generation) (not_below (inode y d.ino).applied d.order old) where
    not_below : (a b : ℕ) → b ≤ a → nat_lt a b ≡ false
    not_below a b le = grind (arith, nat_tests, le)

    by : (a b c : Bool) → b ≡ false → (a && b && c) ≡ false
    by true b c is = ap (λ z. z && c) is
    by false b c is = refl

  live_same : (d : Draft) → In d (map (λ (c : ℕ × Draft). c.1) claims) → is_live w d ≡ is_live v d
  live_same d is = by (cases_eq d.staging x) where
    dead : is_live v d ≡ false → (is_of_file w d ≡ false) ⊎ (d.order ≤ (inode w d.ino).applied)
    dead old_dead = elim (cases_Bool (is_of_file w d)) [
      | inr none ↦ inl none
      | inl file ↦ (
          let slot = slot_of claims d is in
          elim (world.claims_stand.settled slot.0 d slot.1 (sym (of_file d is) ∙ file)) [
            | inl old ↦ inr (subst (λ y. d.order ≤ y.applied) (sym (own_line d is)) old)
            | inr alive ↦ absurd (both (is_live v d) alive old_dead)
          ])
    ] where
      both : (b : Bool) → b ≡ true → b ≡ false → ⊥
      both b yes_it no_it = let never : true ≡ false = sym yes_it ∙ no_it in cc

    by : (d.staging ≡ x) ⊎ (d.staging ≢ x) → is_live w d ≡ is_live v d
    by (inr other) = λ i. of_file d is i && nat_lt (own_line d is i).applied d.order && ((change.others d.staging other i).generation == d.staging_generation)
    by (inl there) = elim (cases_Bool (is_live v d)) [
      | inl alive ↦ absurd (none_live d (In-filter (is_live v) (map (λ (c : ℕ × Draft). c.1) claims) d is alive) there)
      | inr out_of ↦ settled_dead w d (dead out_of) ∙ sym out_of
    ]

  same_live : live_claims w claims ≡ live
  same_live = filter-agree (is_live w) (is_live v) (map (λ (c : ℕ × Draft). c.1) claims) live_same

  disk_same : (ino block : ℕ) → IsUsed v ino → disk_of w live ino block ≡ disk_of v live ino block
  disk_same ino block used = by (entry_of_block live ino block) refl where
    by : (o : Option Draft) → entry_of_block live ino block ≡ o → disk_by w o ino block ≡ disk_by v o ino block
    by None entry = ap (λ es. disk_at es block) (change.maps ino (λ same. used_staging (inode v ino).kind used (ap (λ k. (inode v k).kind) same ∙ change.staging)))
    by (Some e) entry = ap (λ es. disk_at es (e.staging_block + (block - e.file_block))) (change.maps e.staging (none_live e (covering live ino block e entry).is))

  not_used : (ino : ℕ) → IsUsed v ino → ino ≢ x
  not_used ino used same = used_staging (inode v ino).kind used (ap (λ k. (inode v k).kind) same ∙ change.staging)

  jobs_same : (js : List Job) → ((j : Job) → In j js → j.draft.staging ≢ x) → JobsStand v live f numbers s js → JobsStand w live f numbers s js
  jobs_same [] off out = tt
  jobs_same (j ∷ js) off out =
      let job = out.0 in
      let used = live_used v j.draft job.alive in
      let line = change.others j.draft.ino (not_used j.draft.ino used) in
      let there = off j (inl refl) in (
        record {
          draft = job.draft;
          fields = job.fields;
          alive = (λ i. is_file (line i).kind && ((line i).generation == j.draft.generation) && nat_lt (line i).applied j.draft.order && ((change.others j.draft.staging there i).generation == j.draft.staging_generation)) ∙ job.alive;
          order = job.order ∙ (λ i. (sym line i).applied + length (entries_of j.draft.ino live) + 1);
          size = job.size;
          rest = λ i below past. ap (λ b. byte_in f b i) (disk_same j.draft.ino (i / 4096) used) ∙ job.rest i below past;
          within = job.within;
          parts = job.parts;
          placed = λ i front. subst IsSome (sym (disk_same j.draft.ino (i / 4096) used)) (job.placed i front);
          staging = kinds j.draft.staging (inr there) ∙ job.staging;
          staged = λ k below. subst (λ es. IsSome (disk_at es (j.draft.staging_block + k))) (sym (change.maps j.draft.staging there)) (job.staged k below);
          apart = job.apart;
          puts = job.puts;
          part = job.part;
        },
        out.1,
        jobs_same js (λ k is. off k (inr is)) out.2,
      )

  after : Stands w live f numbers s
  after = record {
    sane = change.sane;
    names = record {
      root = stands.names.root;
      root_used = same_used 0 ∙ stands.names.root_used;
      within = λ i used. stands.names.within i (sym (same_used i) ∙ used);
      one = λ i j a b. stands.names.one i j (sym (same_used i) ∙ a) (sym (same_used j) ∙ b);
      names = λ p name used. ap (λ rows. option_map (number numbers) (child_named rows p name)) change.names ∙ stands.names.names p name (sym (same_used p) ∙ used);
      entry_parents = λ n name m led. (let its = stands.names.entry_parents n name m led in (its.0, same_used its.0 ∙ its.1, its.2));
      distinct = stands.names.distinct;
    };
    nodes = record {
      each = λ ino used. (
          let was = sym (same_used ino) ∙ used in
          subst (λ y. NodeStands w live f ino y.kind (node_at s.nodes (number numbers ino))) (sym (change.others ino (not_used ino was)))
          (NodeStands-same v live f w live f ino (inode v ino).kind (node_at s.nodes (number numbers ino))
          (record { size = ap (λ y. size_by (latest (entries_of ino live)) y.size) (change.others ino (not_used ino was)); bytes = λ i below. ap (λ b. byte_in f b i) (disk_same ino (i / 4096) was) })
          (stands.nodes.each ino was)));
      all = λ n is. (let its = stands.nodes.all n is in (its.0, same_used its.0 ∙ its.1, its.2));
    };
    log = record {
      staging = λ d is. kinds d.staging (inr (none_live d is)) ∙ stands.log.staging d is;
      staged = λ d is k below. subst (λ es. IsSome (disk_at es (d.staging_block + k))) (sym (change.maps d.staging (none_live d is))) (stands.log.staged d is k below);
      apart = stands.log.apart;
      orders = λ ino. orders ino (cases_eq ino x);
    };
  } where
    nothing : (ds : List Draft) → ((d : Draft) → In d ds → ⊥) → ds ≡ []
    nothing [] out = refl
    nothing (d ∷ ds) out = absurd (out d (inl refl))

    orders : (ino : ℕ) → (ino ≡ x) ⊎ (ino ≢ x) → Consecutive (inode w ino).applied (entries_of ino live)
    orders ino (inr other) = subst (λ y. Consecutive y.applied (entries_of ino live)) (sym (change.others ino other)) (stands.log.orders ino)
    orders ino (inl same) = subst (λ ds. Consecutive (inode w ino).applied ds) (sym (nothing (entries_of ino live) (λ d is. (
        let its = filter-In (λ (e : Draft). e.ino == ino) live d is in
        let claimed = filter-In (is_live v) (map (λ (c : ℕ × Draft). c.1) claims) d its.0 in
        not_file d claimed.0 ((Decides-eqb d.ino ino).0 its.1 ∙ same))))) tt
