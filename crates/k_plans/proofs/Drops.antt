-- A file that is given up: its blocks are set aside, and the volume stays whole.
use Rattle.std.proofs.Common.{◌≡◌, ◌<◌, ◌≤◌, ◌+◌, ℕ, Bool, true, false, not, List, [], ◌++◌, length, refl, sym, ◌∙◌, ap, inl, inr, arith, subst}
use Rattle.std.proofs.lemmas.Bool.{and_right, both_ways, cases_eq, cases_lt, false_from_ne_true}
use Rattle.std.specs.Prelude.{◌&&◌, ◌||◌, All}
use Rattle.k_reading.specs.block_pool.FreeSets.{FreeSet, is_among}
use Rattle.layout_model.specs.declared.lines.Inode.{Inode}
use Rattle.layout_model.specs.Places.{is_data_block}
use Rattle.k_tables.specs.image_model.Placed.{block_at}
use Rattle.k_tables.specs.image_model.Room.{has_none}
use Rattle.layout_model.specs.declared.lines.Kind.TheVariants.{File}
use Rattle.k_tables.specs.image_model.Rules.{IsInData, IsKindAt, file_blocks_of}
use Rattle.k_tables.specs.image_model.Uses.{owners}
use Rattle.k_tables.specs.image_model.Volume.{Volume, chain, extents, inode}
use Rattle.k_tables.specs.extent_model.declared.extent_words.Extent.{Extent}
use Rattle.k_tables.specs.extent_model.Extents.{covers}
use Rattle.k_tables.specs.k_split_model.ChangesChanges.{dropped, gone_node}
use Rattle.volume_change_laws.specs.Changes.{MayDrop}
use Rattle.volume_change_laws.specs.CountLaws.{gone_node-fits}
use Rattle.volume_change_laws.specs.LineLaws.{lines-inode, maps-inode}
use Rattle.volume_change_laws.specs.MapLaws.{dropped-keeps}
use Rattle.volume_change_laws.specs.Switches.{among-counted, counted-among}
use Rattle.k_tables.specs.volume_laws.Changes.{chain-set_other, chain-set_same, extents-set_other}
use Rattle.map_chain.specs.volume_laws.OwnerLaws.{one_use, uses-le-owners}
use Rattle.map_chain.specs.volume_laws.PoolLaws.{covered-in_data, has_none-some, is_unused-given, is_unused-others}
use Rattle.map_chain.specs.volume_laws.UseLaws.{covers-in_map, in_chain-some, length-uses_by}
use Rattle.map_chain.specs.volume_laws.Uses.{in_chain, in_map, is_unused}
use Rattle.k_journal.specs.declared.batches.Record.{Record}
use Rattle.k_plans.specs.Free.{AreKeptBack, AreTables, SetsFreedAside}
use Rattle.k_plans.specs.LandingsPlans.{Turns}
use Rattle.k_plans.specs.PlansPlans.{IsPlan, KeepsStaged}
use Rattle.k_plans.specs.View.{TablesView, map_blocks}
use Rattle.k_plans.specs.Whole.{IsWhole}
use Rattle.k_plans.proofs.Asides.{aside-counted}
use Rattle.k_plans.proofs.Wholes.{inodes-set, none-freed}

-- ---- the blocks of an inode

-- a block of an inode is a data block, that it uses once and nobody else
record IsUsedOnce (v : Volume) (ino b : ℕ) : Type 0 where
  in_data : is_data_block v.geometry b ≡ true
  once : in_chain (chain v ino) b + in_map (extents v ino) b ≤ 1

held : (v : Volume) (ino b : ℕ) → IsWhole v → ino < length v.inodes → is_data_block v.geometry b ≡ true → IsUsedOnce v ino b
held v ino b whole below in_data = record { in_data = in_data; once = one_use v b ino (whole.kept.kept.once b in_data) below }

chain-held : (v : Volume) (ino k : ℕ) → IsWhole v → ino < length v.inodes → k < length (chain v ino)
    → IsUsedOnce v ino (block_at (chain v ino) k)
chain-held v ino k whole below within = held v ino (block_at (chain v ino) k) whole below (whole.chains ino k 0 within)

extents-in_data : (v : Volume) (ino : ℕ) → IsWhole v → ino < length v.inodes
    → All (IsInData v.geometry (file_blocks_of (inode v ino).kind)) (extents v ino)
extents-in_data v ino whole below = whole.kept.kept.in_data ino (omega (arith, whole.kept.all.inode_count))

map-held : (v : Volume) (ino b : ℕ) → IsWhole v → ino < length v.inodes → covers (extents v ino) b ≡ true → IsUsedOnce v ino b
map-held v ino b whole below has =
    held v ino b whole below
    (covered-in_data v.geometry (file_blocks_of (inode v ino).kind) (extents v ino) b (extents-in_data v ino whole below) has)

among-held : (v : Volume) (ino b : ℕ) → IsWhole v → ino < length v.inodes → is_among (chain v ino) b ≡ true → IsUsedOnce v ino b
among-held v ino b whole below among =
    let found = in_chain-some (chain v ino) b (among-counted (chain v ino) b among) in
    subst (IsUsedOnce v ino) found.2 (chain-held v ino found.0 whole below found.1)

-- it is not free
not_unused : (v : Volume) (ino b : ℕ) → ino < length v.inodes → 1 ≤ in_chain (chain v ino) b + in_map (extents v ino) b
    → is_unused v b ≡ false
not_unused v ino b below used =
    and_right (is_data_block v.geometry b) (has_none (owners v b))
    (has_none-some (owners v b)
    (omega (arith, used, uses-le-owners v b ino below, length-uses_by ino (chain v ino) (extents v ino) b)))

-- ---- the tables without the file

pub dropped-whole : (v : Volume) (ino : ℕ) → IsWhole v → MayDrop ino v → IsWhole (dropped ino v)
dropped-whole v ino whole may = record {
  kept = record {
    kept = dropped-keeps ino v whole.kept.kept whole.kept.all whole.maps may;
    all = lines-inode ino gone [] [] v whole.kept.all;
    geometry = whole.kept.geometry;
  };
  maps = maps-inode ino gone [] [] v whole.maps;
  inodes = inodes-set v ino gone may.below (gone_node-fits (inode v ino)) whole.inodes;
  chains = λ i. elim (cases_eq i ino) [
    | inl same ↦ subst (All (λ b. is_data_block v.geometry b ≡ true)) (sym (ap (chain (dropped ino v)) same ∙ own)) (λ k d below. absurd (omega arith))
    | inr other ↦ subst (All (λ b. is_data_block v.geometry b ≡ true)) (sym (chain-set_other ino gone [] [] v i other)) (whole.chains i)
  ];
}
  where
    gone : Inode
    gone = gone_node (inode v ino)

    own : chain (dropped ino v) ino ≡ []
    own = chain-set_same ino gone [] [] v (omega (arith, may.below, whole.maps.chain_count))

-- a file is no staging file
pub dropped-staged : (v : Volume) (ino : ℕ) → IsWhole v → MayDrop ino v → KeepsStaged v (dropped ino v)
dropped-staged v ino whole may i least most =
    let kept = whole.kept.kept.kinds ino (omega (arith, may.below, whole.kept.all.inode_count)) in
    let file : IsKindAt ino File = subst (IsKindAt ino) may.file kept in
    extents-set_other ino (gone_node (inode v ino)) [] [] v i (λ same. omega (arith, file, same))

-- the tables without the file, whose blocks are set aside
abbrev pub dropped_tables : ℕ → TablesView → TablesView
dropped_tables ino t = record t {
  volume = dropped ino t.volume;
  aside = map_blocks (extents t.volume ino) ++ chain t.volume ino;
}

module _ (t : TablesView) (ino : ℕ) (whole : IsWhole t.volume) (may : MayDrop ino t.volume) where
  abbrev v : Volume
  v = t.volume

  abbrev w : Volume
  w = dropped ino t.volume

  abbrev blocks : List ℕ
  blocks = chain t.volume ino

  abbrev es : List Extent
  es = extents t.volume ino

  -- a block of the file is a data block, which the file alone uses
  own : (b : ℕ) → 1 ≤ in_chain blocks b + in_map es b → IsUsedOnce v ino b
  own b used = elim (cases_lt 0 (in_chain blocks b)) [
    | inl chained ↦ among-held v ino b whole may.below (counted-among blocks b (omega arith))
    | inr past ↦ map-held v ino b whole may.below (covers-in_map es b (omega arith))
  ]

  -- it is free of the file then
  freed : (b : ℕ) → 1 ≤ in_chain blocks b + in_map es b → is_unused w b ≡ true
  freed b used =
      let is = own b used in
      let one = whole.kept.kept.once b is.in_data in
      is_unused-given v ino (gone_node (inode v ino)) [] [] b may.below whole.maps is.in_data refl
      (omega (arith, one, used, uses-le-owners v b ino may.below, length-uses_by ino blocks es b))

  -- a block that the file does not use is as before
  still : (b : ℕ) → in_chain blocks b + in_map es b ≡ 0 → is_unused w b ≡ is_unused v b
  still b none =
      is_unused-others v ino (gone_node (inode v ino)) [] [] b may.below whole.maps
      (omega (arith, none, length-uses_by ino blocks es b))

  none_used : (b : ℕ) → is_unused v b ≡ true → in_chain blocks b + in_map es b ≡ 0
  none_used b unused = elim (cases_lt 0 (in_chain blocks b + in_map es b)) [
    | inl used ↦ absurd (both_ways (is_unused v b) (not_unused v ino b may.below (omega arith)) unused)
    | inr past ↦ omega arith
  ]

  aside_of : (b : ℕ) → 1 ≤ in_chain blocks b + in_map es b → is_among (map_blocks es ++ blocks) b ≡ true
  aside_of b used = counted-among (map_blocks es ++ blocks) b (omega (arith, used, aside-counted es blocks b))

  used_of : (b : ℕ) → is_among (map_blocks es ++ blocks) b ≡ true → 1 ≤ in_chain blocks b + in_map es b
  used_of b among = omega (arith, among-counted (map_blocks es ++ blocks) b among, aside-counted es blocks b)

  not_aside : (b : ℕ) → in_chain blocks b + in_map es b ≡ 0 → is_among (map_blocks es ++ blocks) b ≡ false
  not_aside b none = false_from_ne_true (is_among (map_blocks es ++ blocks) b) (λ among. omega (arith, none, used_of b among))

  -- just the blocks of the file came free, and are set aside
  pub dropped-aside : SetsFreedAside t (dropped_tables ino t)
  dropped-aside b = elim (cases_lt 0 (in_chain blocks b + in_map es b)) [
    | inl used ↦ aside_of b (omega arith) ∙ sym (λ i. not (not_unused v ino b may.below (omega arith) i) && freed b (omega arith) i)
    | inr past ↦ not_aside b (omega arith) ∙ none-freed v w b (still b (omega arith))
  ]

  dropped-back : AreKeptBack t → AreKeptBack (dropped_tables ino t)
  dropped-back back = record {
    aside = λ b among. freed b (used_of b among);
    waiting = λ b waits. still b (none_used b (back.waiting b waits)) ∙ back.waiting b waits;
    apart = λ b among. false_from_ne_true (is_among t.waiting b)
        (λ waits. omega (arith, used_of b among, none_used b (back.waiting b waits)));
    once = λ b. elim (cases_lt 0 (in_chain blocks b + in_map es b)) [
      | inl used ↦ omega (arith, aside-counted es blocks b, (own b (omega arith)).once)
      | inr past ↦ omega (arith, aside-counted es blocks b)
    ];
  }

  pub dropped-tables : (pool held : FreeSet) → AreTables t pool held → t.aside ≡ [] → AreTables (dropped_tables ino t) pool held
  dropped-tables pool held are idle = record {
    whole = dropped-whole v ino whole may;
    pool_is = record {
      first = are.pool_is.first;
      count = are.pool_is.count;
      free = λ b. are.pool_is.free b ∙ ap (λ ks. is_unused v b && not (is_among ks b || is_among t.waiting b)) idle
          ∙ elim (cases_lt 0 (in_chain blocks b + in_map es b)) [
            | inl used ↦
                (λ i. not_unused v ino b may.below (omega arith) i && not (false || is_among t.waiting b))
                ∙ sym (no_more (is_unused w b) (is_among (map_blocks es ++ blocks) b) (is_among t.waiting b) (aside_of b (omega arith)))
            | inr past ↦ sym (λ i. still b (omega arith) i && not (not_aside b (omega arith) i || is_among t.waiting b))
          ];
    };
    back = dropped-back are.back;
    held_is = are.held_is;
  }
    where
      no_more : (u a x : Bool) → a ≡ true → (u && not (a || x)) ≡ false
      no_more true true x is = refl
      no_more true false x is = absurd (both_ways false refl is)
      no_more false a x is = refl

  pub dropped-plan : (old : TablesView) (b : List Record) → t ≡ old → Turns v.geometry [] v w b → 0 < length b → length b ≤ 4
      → IsPlan old (dropped_tables ino t) b
  dropped-plan old b same turns some most =
      subst (λ o. IsPlan o (dropped_tables ino t) b) same (record {
        turns = turns;
        some = some;
        most = most;
        aside = dropped-aside;
        waiting = refl;
        staged = dropped-staged v ino whole may;
        whole = dropped-whole v ino whole may;
      })
