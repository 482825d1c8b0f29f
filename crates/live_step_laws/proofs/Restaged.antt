-- A staging file that is kept as empty gets blocks: what that leaves of the World.
use Rattle.std.specs.Prelude.{◌≡◌, ◌≢◌, ◌⊎◌, ◌≤◌, ◌<◌, ◌+◌, ◌==◌, ◌&&◌, not, nat_lt, ℕ, Bool, true, false, List, [], ◌∷◌, filter, length, map, Option, Some, None, IsSome, is_some, refl}
use Rattle.std.proofs.Common.{arith, ap, ◌∙◌, sym, subst, inl, inr}
use Rattle.std.proofs.lemmas.Bool.{and_parts, cases_eq, cases_lt}
use Rattle.std.proofs.lemmas.Bool.Decides.{nat_tests}
use Rattle.std.proofs.lemmas.List.{get_or-append-add, length-append}
use Rattle.fsync_relink.specs.world_write_laws.pm_model.ImageLaws.{IsImage-words_of}
use Rattle.fsync_relink.specs.world_write_laws.pm_model.Images.{words_of}
use Rattle.fsync_relink.specs.world_write_laws.layout_model.Journal.{journaled}
use Rattle.fsync_relink.specs.world_write_laws.layout_model.Places.{data_blocks, Geometry, reserve}
use Rattle.fsync_relink.specs.world_write_laws.layout_model.declared.lines.Draft.{Draft}
use Rattle.fsync_relink.specs.world_write_laws.layout_model.declared.lines.Inode.{Inode}
use Rattle.fsync_relink.specs.world_write_laws.layout_model.declared.lines.Kind.TheVariants.{File, Staging}
use Rattle.fsync_relink.specs.world_write_laws.layout_model.Entries.{is_draft}
use Rattle.fsync_relink.specs.world_write_laws.image_model.Live.{is_file, is_live, is_of_file}
use Rattle.fsync_relink.specs.world_write_laws.image_model.Placed.{block_at}
use Rattle.fsync_relink.specs.world_write_laws.image_model.Reading.{inode_set}
use Rattle.fsync_relink.specs.world_write_laws.image_model.Room.{unused_blocks}
use Rattle.fsync_relink.specs.world_write_laws.image_model.Rules.{file_blocks_of}
use Rattle.fsync_relink.specs.world_write_laws.image_model.Volume.{chain, extents, inode, Volume}
use Rattle.fsync_relink.specs.world_write_laws.extent_model.Counts.{block_count-mapped, count_below-agree, count_below-range, is_mapped}
use Rattle.fsync_relink.specs.world_write_laws.extent_model.Covers.{covers-disk_at}
use Rattle.fsync_relink.specs.world_write_laws.extent_model.declared.extent_words.Extent.{Extent}
use Rattle.fsync_relink.specs.world_write_laws.extent_model.Extents.{block_count, disk_at, is_within}
use Rattle.fsync_relink.specs.world_write_laws.volume_laws.Changes.{chain-set_same, inode-set_same}
use Rattle.fsync_relink.specs.volume_change_laws.Switches.{unused-data}
use Rattle.fsync_relink.specs.volume_change_laws.Shorts.{in_order-below, length-below}
use Rattle.fsync_relink.specs.world_write_laws.volume_laws.PoolLaws.{AreInData, unused-set, unused-uncovered}
use Rattle.fsync_relink.specs.world_write_laws.list_laws.Filters.{filter-agree}
use Rattle.fsync_relink.specs.world_write_laws.list_laws.Members.{In}
use Rattle.fsync_relink.specs.k_split_model.MapChangesChanges.{aged, HasInOrder, in_order, IsPreallocated}
use Rattle.fsync_relink.specs.k_split_model.Taken.{with_map}
use Rattle.fsync_relink.specs.k_map_plans.Plans.{IsStagingFile}
use Rattle.fsync_relink.specs.block_pool.FreeSets.{is_among}
use Rattle.fsync_relink.specs.world_write_laws.volume_laws.Uses.{is_unused}
use Rattle.fsync_relink.specs.k_plans.Whole.{IsWhole}
use Rattle.fsync_relink.specs.world_write_laws.k_split_model.View.{View}
use Rattle.fsync_relink.specs.k_split.MapChanges.{is_free_in, IsPreallocatedWith}
use Rattle.fsync_relink.specs.world_write_laws.posix_tables.Open.{Tables}
use Rattle.fsync_relink.specs.world_write_laws.posix_spec.State.{State}
use Rattle.live_model.specs.staging_files.Keeps.{IsKeptEmpty, IsStaging}
use Rattle.live_model.proofs.staging_files_proofs.GiveUpLaws.{staging-file}
use Rattle.fsync_relink.specs.world_write_laws.world_model.Jobs.{Job, JobsStand, JobStands, live_claims, staged_block}
use Rattle.k_split_laws.specs.world_image_laws.Images.{HasRoom}
use Rattle.k_split_laws.specs.world_image_laws.ImagesLaws.{Takes}
use Rattle.k_split_laws.specs.world_image_laws.LentLaws.{SameBlocks}
use Rattle.fsync_relink.proofs.StagingLaws.{restages-filled}
use Rattle.fsync_relink.specs.world_write_laws.Restages.{Restages}
use Rattle.fsync_relink.specs.world_write_laws.StagingSteps.{restaged}
use Rattle.fsync_relink.specs.world_write_laws.world_step_laws.Worlds.{IsWorld}
use Rattle.live_model.specs.Standing.{Kept, StandsAt}
use Rattle.live_step_laws.specs.Changes.{AreSpare}

-- a map of blocks in order has as many as there are
in_order-count : (fresh : List ℕ) (es : List Extent) → HasInOrder fresh es → length fresh ≤ 4096 → block_count es ≡ length fresh
in_order-count fresh es is few =
    block_count-mapped es is.canonical
    ∙ (count_below-agree (λ b. is_mapped es b) (λ b. is_within 0 (length fresh) b) 4096 (λ b low. ap is_some (is.blocks b) ∙ same b (cases_lt b (length fresh)))
    ∙ count_below-range 0 (length fresh) 4096 (omega (arith, few)))
  where
    same : (b : ℕ) → (b < length fresh) ⊎ (length fresh ≤ b) → is_some (in_order fresh b) ≡ is_within 0 (length fresh) b
    same b (inl low) =
        let test : nat_lt b (length fresh) ≡ true = grind (arith, nat_tests, low) in
        let inside : is_within 0 (length fresh) b ≡ true = grind (arith, nat_tests, low) in
        rw test (sym inside)
    same b (inr past) =
        let test : nat_lt b (length fresh) ≡ false = grind (arith, nat_tests, past) in
        let outside : is_within 0 (length fresh) b ≡ false = grind (arith, nat_tests, past) in
        rw test (sym outside)

in-data : (v : Volume) → IsWhole v → AreInData v (λ ino. file_blocks_of (inode v ino).kind)
in-data v whole = record {
  chains = λ ino below. whole.chains ino;
  files = λ ino below. whole.kept.kept.in_data ino (omega (arith, below, whole.kept.all.inode_count));
}

some_blocks : (d : Draft) → is_draft d ≡ true → 1 ≤ d.count
some_blocks d is = grind (arith, nat_tests)

dead_by : (a b c : Bool) → b ≡ false → (a && b && c) ≡ false
dead_by true b c is = ap (λ z. z && c) is
dead_by false b c is = refl

not_below : (a b : ℕ) → b ≤ a → nat_lt a b ≡ false
not_below a b le = grind (arith, nat_tests, le)

slot_of : (cs : List (ℕ × Draft)) (d : Draft) → In d (map (λ (c : ℕ × Draft). c.1) cs) → (slot : ℕ) × In (slot, d) cs
slot_of [] d is = absurd is
slot_of (c ∷ cs) d (inl here) = (c.0, inl (λ i. (c.0, here i)))
slot_of (c ∷ cs) d (inr behind) = let rest = slot_of cs d behind in (rest.0, inr rest.1)

no_some : (b : ℕ) → Some b ≡ None → ⊥
no_some b is = cc

module _ (g : Geometry) (k : View) (t : Tables) (kept : Kept) (lines : Bool) (n : ℕ) (s : State) (stands : StandsAt g k t kept lines n s) (x share : ℕ) (w : Volume) (blocks : List ℕ) (staging : IsStaging x) (empty : IsKeptEmpty kept.staging x)
    (made : IsPreallocatedWith x share k w blocks) (whole : IsWhole w) where
  abbrev v : Volume
  v = k.volume

  abbrev p : IsPreallocated (is_free_in k) x share v w
  p = made.preallocated

  world : IsWorld v kept.claims stands.jobs (journaled (words_of k.cells)) stands.numbers s stands.count
  world = stands.flying.device.world (words_of k.cells) (IsImage-words_of k.cells)

  file : IsStagingFile x v
  file = staging-file v x stands.order.whole staging

  both : Restages v w x × (w.base ≡ v.base)
  both = restages-filled x share k w blocks file whole world.valid.stands.sane made

  pub restages : Restages v w x
  restages = both.0

  pub same_base : w.base ≡ v.base
  same_base = both.1

  bare : extents v x ≡ []
  bare = stands.agrees.empty x staging empty

  nothing_at : (b : ℕ) → disk_at (extents v x) b ≡ None
  nothing_at b = ap (λ es. disk_at es b) bare

  -- nothing live and no job is in it
  has_none : (d : Draft) → is_draft d ≡ true → ((i : ℕ) → i < d.count → IsSome (disk_at (extents v d.staging) (d.staging_block + i))) → d.staging ≢ x
  has_none d fields staged same = by (disk_at (extents v d.staging) (d.staging_block + 0)) (ap (λ y. disk_at (extents v y) (d.staging_block + 0)) same ∙ nothing_at (d.staging_block + 0)) (staged 0 (omega (arith, some_blocks d fields))) where
    by : (o : Option ℕ) → o ≡ None → IsSome o → ⊥
    by None is some = cc
    by (Some b) is some = no_some b is

  pub none_live : (d : Draft) → In d (live_claims v kept.claims) → d.staging ≢ x
  none_live d is = has_none d (stands.drafts d is).fields (world.valid.stands.log.staged d is)

  job_stands : (jobs : List Job) (j : Job) → JobsStand v (live_claims v kept.claims) (journaled (words_of k.cells)) stands.numbers s jobs → In j jobs → JobStands v (live_claims v kept.claims) (journaled (words_of k.cells)) stands.numbers s j
  job_stands [] j out is = absurd is
  job_stands (i ∷ jobs) j out (inl same) = subst (JobStands v (live_claims v kept.claims) (journaled (words_of k.cells)) stands.numbers s) same out.0
  job_stands (i ∷ jobs) j out (inr behind) = job_stands jobs j out.2 behind

  pub none_out : (j : Job) → In j stands.jobs → j.draft.staging ≢ x
  none_out j is = let job = job_stands stands.jobs j world.valid.out is in has_none j.draft job.draft job.staged

  -- the World takes it
  pub takes : Takes v w kept.claims stands.jobs stands.numbers stands.numbers s s stands.count stands.count
  takes f valid = restaged v w kept.claims stands.jobs f stands.numbers s stands.count x valid restages none_live none_out

  pub other_line : (i : ℕ) → i ≢ x → inode w i ≡ inode v i
  other_line i other = restages.others i other

  pub other_map : (i : ℕ) → i ≢ x → extents w i ≡ extents v i
  other_map i other = restages.maps i other

  pub same_block : (d : Draft) → d.staging ≢ x → (i : ℕ) → staged_block w d i ≡ staged_block v d i
  same_block d other i = ap (λ es. disk_at es (d.staging_block + i)) (other_map d.staging other)

  pub same_blocks : (jobs : List Job) → ((j : Job) → In j jobs → j.draft.staging ≢ x) → SameBlocks v w jobs
  same_blocks [] apart = tt
  same_blocks (j ∷ jobs) apart = (λ i. same_block j.draft (apart j (inl refl)) i, same_blocks jobs (λ i is. apart i (inr is)))

  -- claims
  not_own : (d : Draft) → In d (map (λ (c : ℕ × Draft). c.1) kept.claims) → d.ino ≢ x
  not_own d is same = let least = world.aged.own d is in omega (arith, least, staging.most, same)

  live_same : (d : Draft) → In d (map (λ (c : ℕ × Draft). c.1) kept.claims) → is_live w d ≡ is_live v d
  live_same d is = by (cases_eq d.staging x) where
    own : inode w d.ino ≡ inode v d.ino
    own = other_line d.ino (not_own d is)

    of_file : is_of_file w d ≡ is_of_file v d
    of_file = λ i. is_file (own i).kind && ((own i).generation == d.generation)

    none : (y : Volume) → is_of_file y d ≡ false → is_live y d ≡ false
    none y is_none = ap (λ b. b && nat_lt (inode y d.ino).applied d.order && ((inode y d.staging).generation == d.staging_generation)) is_none

    old : (y : Volume) → d.order ≤ (inode y d.ino).applied → is_live y d ≡ false
    old y past = dead_by (is_of_file y d) (nat_lt (inode y d.ino).applied d.order) ((inode y d.staging).generation == d.staging_generation) (not_below (inode y d.ino).applied d.order past)

    in_it : d.staging ≡ x → (b : Bool) → is_of_file v d ≡ b → is_live w d ≡ is_live v d
    in_it same false is_none = none w (of_file ∙ is_none) ∙ sym (none v is_none)
    in_it same true a_file = let slot = slot_of kept.claims d is in elim (world.claims_stand.settled slot.0 d slot.1 a_file) [
      | inl past ↦ old w (subst (λ y. d.order ≤ y.applied) (sym own) past) ∙ sym (old v past)
      | inr alive ↦ absurd (none_live d (alive_there alive) same)
    ]
      where
        alive_there : is_live v d ≡ true → In d (live_claims v kept.claims)
        alive_there alive = in_filter (map (λ (c : ℕ × Draft). c.1) kept.claims) is where
          in_filter : (ds : List Draft) → In d ds → In d (filter (is_live v) ds)
          in_filter [] there = absurd there
          in_filter (e ∷ ds) (inl here) = let e_alive : is_live v e ≡ true = ap (is_live v) here ∙ alive in rw e_alive (inl here)
          in_filter (e ∷ ds) (inr behind) = by_head (is_live v e) refl (in_filter ds behind) where
            by_head : (b : Bool) → is_live v e ≡ b → In d (filter (is_live v) ds) → In d (filter (is_live v) (e ∷ ds))
            by_head true is_true rest = rw is_true (inr rest)
            by_head false is_false rest = rw is_false rest

    by : (d.staging ≡ x) ⊎ (d.staging ≢ x) → is_live w d ≡ is_live v d
    by (inl same) = in_it same (is_of_file v d) refl
    by (inr other) = λ i. is_file (own i).kind && ((own i).generation == d.generation) && nat_lt (own i).applied d.order && ((other_line d.staging other i).generation == d.staging_generation)

  pub same_live : live_claims w kept.claims ≡ live_claims v kept.claims
  same_live = filter-agree (is_live w) (is_live v) (map (λ (c : ℕ × Draft). c.1) kept.claims) live_same

  -- its blocks
  blocks_are : blocks ≡ p.blocks
  blocks_are = made.written ∙ (ap (λ y. chain y x) p.is_preallocated ∙ chain-set_same x (with_map p.blocks p.es (aged (inode v x))) p.blocks p.es v (omega (arith, file.below, stands.order.whole.maps.chain_count)))

  free_block : (i : ℕ) → i < length p.blocks → is_free_in k (block_at p.blocks i) ≡ true
  free_block i below =
      subst (λ b. is_free_in k b ≡ true) (get_or-append-add p.fresh p.blocks i 0) (p.taken.were_free (length p.fresh + i) 0 (omega (arith, length-append p.fresh p.blocks, below)))

  unused : (i : ℕ) → i < length p.blocks → is_unused v (block_at p.blocks i) ≡ true
  unused i below = (and_parts (is_unused v (block_at p.blocks i)) (not (is_among k.waiting (block_at p.blocks i))) (free_block i below)).0

  spare_own : AreSpare p.blocks v
  spare_own = record {
    in_data = λ i below. unused-data v (block_at p.blocks i) (unused i below);
    apart = λ ino block i ino_below below at. (
        let none = unused-uncovered v (block_at p.blocks i) ino ino_below (unused i below) in
        let never : true ≡ false = sym (covers-disk_at (extents v ino) block (block_at p.blocks i) at) ∙ none in
        cc);
  }

  pub spare : AreSpare blocks v
  spare = subst (λ bs. AreSpare bs v) (sym blocks_are) spare_own

  -- room
  pub room : length (live_claims v kept.claims) + length stands.jobs + reserve v.geometry ≤ unused_blocks w + 3 → HasRoom w kept.claims stands.jobs s
  room enough = record {
    free = omega (arith, enough, ap length same_live, ap reserve restages.geometry);
    blocks = stands.flying.device.room.blocks ∙ ap data_blocks (sym restages.geometry);
  }

  -- what its line keeps
  own_line : inode w x ≡ with_map p.blocks p.es (aged (inode v x))
  own_line = ap (λ y. inode y x) p.is_preallocated ∙ inode-set_same x (with_map p.blocks p.es (aged (inode v x))) p.blocks p.es v file.below

  pub same_applied : (i : ℕ) → (inode w i).applied ≡ (inode v i).applied
  same_applied i = elim (cases_eq i x) [
    | inl same ↦ ap (λ (m : ℕ). (inode w m).applied) same ∙ (ap (λ (y : Inode). y.applied) own_line ∙ ap (λ (m : ℕ). (inode v m).applied) (sym same))
    | inr other ↦ ap (λ (y : Inode). y.applied) (other_line i other)
  ]

  pub kinds : (i : ℕ) → (inode w i).kind ≡ (inode v i).kind
  kinds i = elim (cases_eq i x) [
    | inl same ↦ ap (λ (m : ℕ). (inode w m).kind) same ∙ (restages.kind ∙ (sym restages.staging ∙ ap (λ (m : ℕ). (inode v m).kind) (sym same)))
    | inr other ↦ ap (λ (y : Inode). y.kind) (other_line i other)
  ]

  pub file_other : (i : ℕ) → (inode v i).kind ≡ File → i ≢ x
  file_other i is same = let never : File ≡ Staging = sym is ∙ (ap (λ (m : ℕ). (inode v m).kind) same ∙ restages.staging) in cc

  -- at most one block more than it gets is gone
  pub unused_less : share ≤ 64 → unused_blocks v ≤ unused_blocks w + share + 1
  unused_less most =
      let line : Inode = with_map p.blocks p.es (aged (inode v x)) in
      let u : Volume = inode_set x line p.blocks p.es v in
      let whole_u : IsWhole u = subst IsWhole p.is_preallocated whole in
      let set =
      unused-set v x line p.blocks p.es (λ ino. file_blocks_of (inode v ino).kind) (λ ino. file_blocks_of (inode u ino).kind) file.below stands.order.whole.maps (in-data v stands.order.whole) (in-data u whole_u)
      stands.order.whole.kept.kept.once whole_u.kept.kept.once
      in
      let same : unused_blocks w ≡ unused_blocks u = ap unused_blocks p.is_preallocated in
      let size = p.size in
      let count = p.taken.count in
      let both_are = length-append p.fresh p.blocks in
      let counted = in_order-count p.fresh p.es p.map (omega (arith, size, most)) in
      let extents_few = length-below p.es (length p.fresh) p.map.canonical (in_order-below p.fresh p.es p.map) in
      omega (arith, set, same, size, count, both_are, counted, extents_few, most)
