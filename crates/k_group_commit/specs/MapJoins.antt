-- Each plan of a change of maps is one that may join the changes that gathered.
use Rattle.std.specs.Prelude.{All, ◌≡◌, ◌≢◌, ◌⊎◌, ◌<◌, ◌≤◌, ◌+◌, ◌-◌, ◌==◌, nat_lt, ℕ, ◌∷◌, Bool, true, false, not, List, [], ◌++◌, length, get_or, slice_index, Option, Some, None, refl, if◌then◌else◌}
use Rattle.std.specs.List.{list_any}
use Rattle.std.proofs.Common.{arith, ap, sym, ◌∙◌, subst, inl, inr, length-set, length-append}
use Rattle.std.proofs.lemmas.Bool.{both_ways, cases_Bool, cases_eq, cases_lt, eqb-true}
use Rattle.std.proofs.lemmas.Bool.Decides.{nat_tests}
use Rattle.std.proofs.lemmas.Grind.{get_or_default_zero}
use Rattle.std.proofs.lemmas.List.{append-nil, get_or_append_left, get_or-append-add}
use Rattle.std.proofs.lemmas.List.Folds.{Any-from_list_any}
use Rattle.k_plans.specs.extent_model.Covers.{covers-disk_at, covers-IsPart, disk_at-covers}
use Rattle.k_plans.specs.extent_model.declared.extent_words.Extent.{Extent}
use Rattle.k_plans.specs.extent_model.Extents.{covers, disk_at, is_within}
use Rattle.k_plans.specs.image_model.Placed.{block_at}
use Rattle.k_plans.specs.image_model.Volume.{chain, extents, inode, Volume}
use Rattle.k_plans.specs.layout_model.declared.lines.Inode.{Inode}
use Rattle.k_plans.specs.layout_model.declared.lines.Kind.TheVariants.{File, Staging}
use Rattle.k_plans.specs.k_journal.declared.batches.Record.{Record}
use Rattle.k_plans.specs.Free.{is_free_block}
use Rattle.k_plans.specs.LandingsPlans.{blocks_of, NewChain}
use Rattle.k_plans.specs.View.{TablesView}
use Rattle.k_plans.specs.Whole.{IsWhole}
use Rattle.k_plans.specs.WrittenLaws.{blocks_of-one}
use Rattle.k_plans.specs.k_split_model.MapChangesChanges.{aged, given_up, holes, in_order, IsFilled, IsMoved, IsPreallocated, IsSized, TakesChain, with_length, with_size, WritesChain}
use Rattle.k_plans.specs.k_split_model.Taken.{switched, with_map}
use Rattle.k_plans.specs.k_split_model.declared.map_changes.moves.Move.{Move}
use Rattle.k_plans.specs.MapPlans.{IsPlannedChange, IsPlannedMove, IsPlannedOne, listed, MayMove}
use Rattle.k_plans.specs.volume_laws.Changes.{chain-set_other, chain-set_same, extents-set_same}
use Rattle.k_group_commit.specs.Gathered.{IsCovered, IsJoining}
use Rattle.k_group_commit.specs.OpenLaws.{each-of-both}
use Rattle.k_group_commit.specs.PlanJoins.{none-some, placed-chain, some-same, switched-covers}

-- ---- free blocks, in a list or at its end

front-free : (P : ℕ → Type 0) (xs ys : List ℕ) → All P (xs ++ ys) → (k : ℕ) → k < length xs → P (block_at xs k)
front-free P xs ys all k below = subst P (get_or_append_left xs ys 0 k below) (all k 0 (omega (arith, below, length-append xs ys)))

back-all : (P : ℕ → Type 0) (xs ys : List ℕ) → All P (xs ++ ys) → All P ys
back-all P xs ys all k d below = subst P (get_or-append-add xs ys k d) (all (length xs + k) d (omega (arith, below, length-append xs ys)))

front-all : (P : ℕ → Type 0) (xs ys : List ℕ) → All P (xs ++ ys) → All P xs
front-all P xs ys all k d below = subst P (get_or_append_left xs ys d k below) (all k d (omega (arith, below, length-append xs ys)))

-- the chain of an inode that went over to a map
switched-chain_is : (v w : Volume) (ino : ℕ) (x : Inode) (blocks : List ℕ) (es : List Extent) → w ≡ switched ino x blocks es v → ino < length v.chains
    → chain w ino ≡ blocks
switched-chain_is v w ino x blocks es is below =
    ap (λ (y : Volume). chain y ino) is ∙ chain-set_same ino (with_map blocks es x) blocks es v below

order-in : (fresh : List ℕ) (n : ℕ) → n < length fresh → in_order fresh n ≡ Some (block_at fresh n)
order-in fresh n within = grind (arith, nat_tests)

order-past : (fresh : List ℕ) (n : ℕ) → length fresh ≤ n → in_order fresh n ≡ None
order-past fresh n past = grind (arith, nat_tests)

-- ---- one new map

one-joins : (ino : ℕ) (t p : TablesView) (b : List Record) (c : NewChain) → IsPlannedOne ino t p b c → ino < length p.volume.inodes
    → All (λ k. is_free_block t k ≡ true) c.blocks → ((k : ℕ) → IsCovered p.volume k → IsCovered t.volume k ⊎ (is_free_block t k ≡ true))
    → IsJoining t p (c ∷ []) b
one-joins ino t p b c one below free mapped = record {
  turns = one.plan.turns;
  some = one.plan.some;
  most = one.plan.most;
  geometry = one.plan.geometry;
  whole = one.plan.whole;
  waiting = one.waiting;
  aside = one.aside;
  free = subst (All (λ k. is_free_block t k ≡ true)) (sym (blocks_of-one c)) free;
  placed = placed-chain p.volume ino (blocks_of (c ∷ [])) below (blocks_of-one c ∙ one.chain_is);
  mapped = mapped;
}

-- the inodes are as many as before
same-count : (v w : Volume) → IsWhole v → IsWhole w → w.geometry ≡ v.geometry → length w.inodes ≡ length v.inodes
same-count v w old new geometry = new.kept.all.inode_count ∙ ap (λ g. g.inodes) geometry ∙ sym old.kept.all.inode_count

module _ (t p : TablesView) (ino : ℕ) (b : List Record) (whole : IsWhole t.volume) (below : ino < length t.volume.inodes) where
  in_maps : ino < length t.volume.maps
  in_maps = omega (arith, below, whole.maps.map_count)

  in_chains : ino < length t.volume.chains
  in_chains = omega (arith, below, whole.maps.chain_count)

  own : (k : ℕ) → covers (extents t.volume ino) k ≡ true → IsCovered t.volume k
  own k has = (ino, below, has)

  -- a staging file gives up its blocks
  pub given-joins : (c : NewChain) → p.volume ≡ given_up ino t.volume → IsPlannedOne ino t p b c → IsJoining t p (c ∷ []) b
  given-joins c given one =
      one-joins ino t p b c one (omega (arith, below, same-count t.volume p.volume whole one.plan.whole one.plan.geometry))
      (subst (All (λ k. is_free_block t k ≡ true))
      (sym (one.chain_is ∙ switched-chain_is t.volume p.volume ino (inode t.volume ino) [] [] given in_chains)) (λ k d none. absurd (omega (arith, none))))
      (switched-covers t.volume p.volume ino (inode t.volume ino) [] [] (λ k. IsCovered t.volume k ⊎ (is_free_block t k ≡ true)) given in_maps
      (λ k has. let never : false ≡ true = has in absurd (both_ways false refl never)) (λ k has. inl has))

  -- a staging file gets blocks
  pub preallocated-joins : (count : ℕ) (c : NewChain) → IsPreallocated (is_free_block t) ino count t.volume p.volume → IsPlannedOne ino t p b c
      → IsJoining t p (c ∷ []) b
  preallocated-joins count c made one =
      one-joins ino t p b c one (omega (arith, below, same-count t.volume p.volume whole one.plan.whole one.plan.geometry))
      (subst (All (λ k. is_free_block t k ≡ true))
      (sym (one.chain_is ∙ switched-chain_is t.volume p.volume ino (aged (inode t.volume ino)) made.blocks made.es made.is_preallocated in_chains))
      (back-all (λ k. is_free_block t k ≡ true) made.fresh made.blocks made.taken.were_free))
      (switched-covers t.volume p.volume ino (aged (inode t.volume ino)) made.blocks made.es (λ k. IsCovered t.volume k ⊎ (is_free_block t k ≡ true))
      made.is_preallocated in_maps (λ k has. inr (fresh-free k has)) (λ k has. inl has))
    where
      fresh-free : (k : ℕ) → covers made.es k ≡ true → is_free_block t k ≡ true
      fresh-free k has =
          let at = disk_at-covers made.es k made.map.canonical has in
          by at.0 (sym (made.map.blocks at.0) ∙ at.1)
        where
          by : (n : ℕ) → in_order made.fresh n ≡ Some k → is_free_block t k ≡ true
          by n is = elim (cases_lt n (length made.fresh)) [
            | inl within ↦
                subst (λ x. is_free_block t x ≡ true) (some-same (block_at made.fresh n) k (sym (order-in made.fresh n within) ∙ is))
                (front-free (λ x. is_free_block t x ≡ true) made.fresh made.blocks made.taken.were_free n within)
            | inr past ↦ absurd (none-some k (sym (order-past made.fresh n past) ∙ is))
          ]

  -- holes get blocks
  pub filled-joins : (first count : ℕ) (fresh : List ℕ) (c : NewChain) → IsFilled (is_free_block t) ino first count t.volume p.volume fresh
      → IsPlannedOne ino t p b c → IsJoining t p (c ∷ []) b
  filled-joins first count fresh c made one =
      one-joins ino t p b c one (omega (arith, below, same-count t.volume p.volume whole one.plan.whole one.plan.geometry))
      (subst (All (λ k. is_free_block t k ≡ true))
      (sym (one.chain_is ∙ switched-chain_is t.volume p.volume ino (inode t.volume ino) made.blocks made.es made.is_filled in_chains))
      (back-all (λ k. is_free_block t k ≡ true) fresh made.blocks made.taken.were_free))
      (switched-covers t.volume p.volume ino (inode t.volume ino) made.blocks made.es (λ k. IsCovered t.volume k ⊎ (is_free_block t k ≡ true))
      made.is_filled in_maps filled-data (λ k has. inl has))
    where
      filled-data : (k : ℕ) → covers made.es k ≡ true → IsCovered t.volume k ⊎ (is_free_block t k ≡ true)
      filled-data k has =
          let at = disk_at-covers made.es k made.fills.canonical has in
          elim (cases_Bool (list_any (λ hole. hole == at.0) (holes (extents t.volume ino) first count))) [
            | inr none ↦ inl (own k (covers-disk_at (extents t.volume ino) at.0 k (sym (made.fills.others at.0 none) ∙ at.1)))
            | inl hole ↦
                let any = Any-from_list_any (λ h. h == at.0) (holes (extents t.volume ino) first count) hole in
                inr (hole-free k at.0 any.0 at.1 (omega (arith, any.2)) (sym (get_or_default_zero (holes (extents t.volume ino) first count) any.0 any.1 any.2) ∙ any.3 ∙ eqb-true any.1 at.0 any.4))
          ]
        where
          hole-free : (k at place : ℕ) → disk_at made.es at ≡ Some k → place < length (holes (extents t.volume ino) first count)
              → slice_index (holes (extents t.volume ino) first count) place ≡ at → is_free_block t k ≡ true
          hole-free k at place is within same =
              let short : place < length fresh = omega (arith, within, made.fills.each) in
              subst (λ x. is_free_block t x ≡ true)
              (some-same (block_at fresh place) k (sym (made.fills.filled place short) ∙ ap (disk_at made.es) same ∙ is))
              (front-free (λ x. is_free_block t x ≡ true) fresh made.blocks made.taken.were_free place short)

  -- a file gets a size
  pub sized-joins : (size : ℕ) (o : Option NewChain) → IsSized (is_free_block t) ino size t.volume p.volume → IsPlannedChange ino t p b o
      → IsJoining t p (listed o) b
  sized-joins size o made change = record {
    turns = change.plan.turns;
    some = change.plan.some;
    most = change.plan.most;
    geometry = change.plan.geometry;
    whole = change.plan.whole;
    waiting = change.waiting;
    aside = change.aside;
    free = free-by change.written made.taken;
    placed = placed-by change.written;
    mapped = switched-covers t.volume p.volume ino (with_size size (inode t.volume ino)) made.blocks made.es (λ k. IsCovered t.volume k ⊎ (is_free_block t k ≡ true))
        made.is_sized in_maps (λ k has. inl (own k (covers-IsPart _ (extents t.volume ino) made.es made.cut k has))) (λ k has. inl has);
  }
    where
      chain_is : chain p.volume ino ≡ made.blocks
      chain_is = switched-chain_is t.volume p.volume ino (with_size size (inode t.volume ino)) made.blocks made.es made.is_sized in_chains

      map_is : extents p.volume ino ≡ made.es
      map_is =
          ap (λ (y : Volume). extents y ino) made.is_sized
          ∙ extents-set_same ino (with_map made.blocks made.es (with_size size (inode t.volume ino))) made.blocks made.es t.volume in_maps

      nothing : (P : ℕ → Type 0) (bs : List ℕ) → bs ≡ [] → All P bs
      nothing P bs none = subst (All P) (sym none) (λ k d past. absurd (omega (arith, past)))

      free-by : WritesChain ino t.volume p.volume (blocks_of (listed o)) → TakesChain (is_free_block t) (extents t.volume ino) made.es (chain t.volume ino) made.blocks
          → All (λ k. is_free_block t k ≡ true) (blocks_of (listed o))
      free-by (inl kept) taken = nothing (λ k. is_free_block t k ≡ true) (blocks_of (listed o)) kept.1
      free-by (inr changed) (inl stays) = absurd (changed.0 (map_is ∙ stays.0))
      free-by (inr changed) (inr fresh) = subst (All (λ k. is_free_block t k ≡ true)) (sym (changed.1 ∙ chain_is)) fresh.1.were_free

      placed-by : WritesChain ino t.volume p.volume (blocks_of (listed o)) → (k : ℕ) → k < length (blocks_of (listed o))
          → (i j : ℕ) × (i < length p.volume.inodes) × (j < length (chain p.volume i)) × (block_at (chain p.volume i) j ≡ block_at (blocks_of (listed o)) k)
      placed-by (inl kept) k within = absurd (omega (arith, within, ap (λ (bs : List ℕ). length bs) kept.1))
      placed-by (inr changed) k within =
          placed-chain p.volume ino (blocks_of (listed o)) (omega (arith, below, same-count t.volume p.volume whole change.plan.whole change.plan.geometry)) changed.1 k within

-- ---- blocks move from a staging file to a file

module _ (t p : TablesView) (m : Move) (b : List Record) (file staging : NewChain) (displaced : List Extent) (whole : IsWhole t.volume)
    (may : MayMove m t.volume) (made : IsMoved (is_free_block t) m t.volume p.volume displaced) (move : IsPlannedMove m t p b file staging) where
  between : Volume
  between = switched m.staging (inode t.volume m.staging) made.rest made.left t.volume

  kinds-apart : m.staging ≢ m.ino
  kinds-apart same =
      let never : Staging ≡ File = sym may.staging.kind ∙ ap (λ n. (inode t.volume n).kind) same ∙ may.file.file in
      cc

  file-chain : file.blocks ≡ made.blocks
  unfolding between
  file-chain =
      move.file_chain ∙ ap (λ (y : Volume). chain y m.ino) made.is_moved
      ∙ chain-set_same m.ino (with_map made.blocks made.linked (with_length m.size m.applied (inode t.volume m.ino))) made.blocks made.linked between
      (omega (arith, may.file.below, whole.maps.chain_count, length-set t.volume.chains m.staging made.rest))

  staging-chain : staging.blocks ≡ made.rest
  unfolding between
  staging-chain =
      move.staging_chain ∙ ap (λ (y : Volume). chain y m.staging) made.is_moved
      ∙ chain-set_other m.ino (with_map made.blocks made.linked (with_length m.size m.applied (inode t.volume m.ino))) made.blocks made.linked between
      m.staging kinds-apart
      ∙ chain-set_same m.staging (with_map made.rest made.left (inode t.volume m.staging)) made.rest made.left t.volume
      (omega (arith, may.staging.below, whole.maps.chain_count))

  both : blocks_of (file ∷ staging ∷ []) ≡ file.blocks ++ staging.blocks
  both = ap (λ bs. file.blocks ++ bs) (append-nil staging.blocks)

  now-count : length p.volume.inodes ≡ length t.volume.inodes
  now-count = same-count t.volume p.volume whole move.plan.whole move.plan.geometry

  Had : ℕ → Type 0
  Had k = IsCovered t.volume k ⊎ (is_free_block t k ≡ true)

  linked-data : (k : ℕ) → covers made.linked k ≡ true → Had k
  unfolding Had
  linked-data k has =
      let at = disk_at-covers made.linked k made.moves.canonical has in
      elim (cases_Bool (is_within m.file_block m.count at.0)) [
        | inl inside ↦
            let same : disk_at made.linked at.0 ≡ disk_at (extents t.volume m.staging) (m.staging_block + (at.0 - m.file_block)) = rw inside at (made.moves.target at.0) in
            inl (m.staging, may.staging.below, covers-disk_at (extents t.volume m.staging) (m.staging_block + (at.0 - m.file_block)) k (sym same ∙ at.1))
        | inr outside ↦
            let same : disk_at made.linked at.0 ≡ disk_at (extents t.volume m.ino) at.0 = rw outside at (made.moves.target at.0) in
            inl (m.ino, may.file.below, covers-disk_at (extents t.volume m.ino) at.0 k (sym same ∙ at.1))
      ]

  pub moved-joins : IsJoining t p (file ∷ staging ∷ []) b
  unfolding between Had
  moved-joins = record {
    turns = move.plan.turns;
    some = move.plan.some;
    most = move.plan.most;
    geometry = move.plan.geometry;
    whole = move.plan.whole;
    waiting = move.waiting;
    aside = move.aside;
    free = subst (All (λ k. is_free_block t k ≡ true)) (sym (both ∙ (λ i. file-chain i ++ staging-chain i))) made.taken.were_free;
    placed = subst (λ (bs : List ℕ). (k : ℕ) → k < length bs
        → (i j : ℕ) × (i < length p.volume.inodes) × (j < length (chain p.volume i)) × (block_at (chain p.volume i) j ≡ block_at bs k)) (sym both)
        (each-of-both (λ n. (i j : ℕ) × (i < length p.volume.inodes) × (j < length (chain p.volume i)) × (block_at (chain p.volume i) j ≡ n)) file.blocks staging.blocks
        (placed-chain p.volume m.ino file.blocks (omega (arith, may.file.below, now-count)) move.file_chain)
        (placed-chain p.volume m.staging staging.blocks (omega (arith, may.staging.below, now-count)) move.staging_chain));
    mapped = switched-covers between p.volume m.ino (with_length m.size m.applied (inode t.volume m.ino)) made.blocks made.linked Had made.is_moved
        (omega (arith, may.file.below, whole.maps.map_count, length-set t.volume.maps m.staging made.left)) linked-data
        (switched-covers t.volume between m.staging (inode t.volume m.staging) made.rest made.left Had refl (omega (arith, may.staging.below, whole.maps.map_count))
        (λ k has. inl (m.staging, may.staging.below, covers-IsPart _ (extents t.volume m.staging) made.left made.moves.source k has)) (λ k has. inl has));
  }
