-- A landing takes one free block for each run at most.
use Rattle.batch_publish_laws.specs.LandingsLaws.{MayAllMove, in_touched, inodes_stay, landing_leaves, left_at, may_all_move, one, other_chain, other_map, own_chain, own_map}
use Rattle.batch_publish_laws.specs.MovesLaws.{any_in}
use Rattle.batch_publish_laws.specs.Moves.{LandingTakesFew, LeavesMoved, landing_of, loses, moves_from, run_of_draft, runs_of}
use Rattle.batch_publish_laws.specs.RenewalsLaws.{below_file}
use Rattle.live_model.specs.extent_model.Extents.{block_count}
use Rattle.live_model.specs.extent_model.declared.extent_words.Extent.{Extent}
use Rattle.live_model.specs.image_model.Room.{unused_blocks}
use Rattle.live_model.specs.image_model.Volume.{Volume, chain, extents, inode}
use Rattle.live_model.specs.k_split.k_plans.Whole.{HasFullMaps, IsWhole}
use Rattle.live_model.specs.k_split_model.MapChangesChanges.{AreAllMoved, MovesAll, touched, with_other}
use Rattle.live_model.specs.layout_model.Places.{data_blocks}
use Rattle.live_model.specs.layout_model.declared.lines.Draft.{Draft}
use Rattle.live_model.specs.layout_model.declared.lines.Kind.{Kind}
use Rattle.live_model.specs.layout_model.declared.lines.Kind.TheVariants.{Staging}
use Rattle.live_model.specs.list_laws.Members.{In}
use Rattle.live_model.specs.volume_laws.Lists.{sum_by-agree, sum_by-but_one}
use Rattle.live_model.specs.volume_laws.PoolLaws.{unused-held}
use Rattle.world_write_laws.specs.volume_laws.Uses.{blocks_held, blocks_of}
use Rattle.live_model.specs.world_image_laws.image_model.Rules.{IsInData, IsKindAt, file_blocks_of}
use Rattle.live_model.specs.k_split.volume_change_laws.Lengths.{chain-left, chain-linked}
use Rattle.live_model.specs.k_split.volume_change_laws.Shorts.{AreBelow}
use Rattle.world_write_laws.specs.PlaceSteps.{staging_below}
use Rattle.std.proofs.Common.{ap, arith, inl, inr, subst, sym, ◌∙◌}
use Rattle.std.proofs.lemmas.Bool.{cases_Bool, cases_eq, eq-eqb, false_from_ne_true, ne_eqb}
use Rattle.std.proofs.lemmas.Bool.Decides.{nat_tests}
use Rattle.std.specs.List.{list_any, range_with_len}
use Rattle.std.specs.Prelude.{All, Bool, List, [], false, if◌then◌else◌, length, map, nat_lt, not, refl, suc, sum_by, true, zero, ℕ, ◌+◌, ◌<◌, ◌==◌, ◌||◌, ◌∷◌, ◌≡◌, ◌≢◌, ◌≤◌, ◌⊎◌}
use Rattle.world_write_laws.specs.block_counts.Counts.{chains_for}
use Rattle.world_write_laws.specs.extent_model.Extents.{IsCanonical}
use Rattle.world_write_laws.specs.extent_model.Moves.{Moves}

-- ---- maps

-- the blocks of the four staging files
abbrev of_four : (ℕ → List Extent) → ℕ
of_four f = block_count (f 1) + block_count (f 2) + block_count (f 3) + block_count (f 4)

one_of_four : (x : ℕ) (one : List Extent) (src : ℕ → List Extent) (count : ℕ) → 1 ≤ x → x ≤ 4 → block_count one + count ≡ block_count (src x) → of_four (with_other x one src) + count ≡ of_four src
one_of_four zero one src count least most same = absurd (omega (arith, least))
one_of_four (suc zero) one src count least most same = omega (arith, same)
one_of_four (suc (suc zero)) one src count least most same = omega (arith, same)
one_of_four (suc (suc (suc zero))) one src count least most same = omega (arith, same)
one_of_four (suc (suc (suc (suc zero)))) one src count least most same = omega (arith, same)
one_of_four (suc (suc (suc (suc (suc x))))) one src count least most same = absurd (omega (arith, most))

-- the chain of the file grows by one a run at most, and no block is lost but those displaced
record Grown (ds : List Draft) (src : ℕ → List Extent) (dst : List Extent) (left : ℕ → List Extent) (linked : List Extent) : Type 0 where
  chains : chains_for (length linked) ≤ chains_for (length dst) + length ds
  blocks : of_four left + block_count linked ≤ of_four src + block_count dst
  canonical : (x : ℕ) → IsCanonical (src x) → IsCanonical (left x)

grown : (ds : List Draft) (src : ℕ → List Extent) (dst : List Extent) (left : ℕ → List Extent) (linked displaced : List Extent) → IsCanonical dst
    → ((d : Draft) → In d ds → (1 ≤ d.staging) × (d.staging ≤ 4) × (d.file_block + d.count ≤ 4096) × (d.count ≤ 64)) → MovesAll (map run_of_draft ds) src dst left linked displaced → Grown ds src dst left linked
grown [] src dst left linked displaced canonical fits moves = record {
  chains = omega (arith, ap (λ (es : List Extent). chains_for (length es)) moves.1);
  blocks = omega (
    arith,
    ap (λ (es : List Extent). block_count es) moves.1,
    ap (λ (es : List Extent). block_count es) (moves.0 1),
    ap (λ (es : List Extent). block_count es) (moves.0 2),
    ap (λ (es : List Extent). block_count es) (moves.0 3),
    ap (λ (es : List Extent). block_count es) (moves.0 4),
  );
  canonical = λ x is. subst IsCanonical (sym (moves.0 x)) is;
}
grown (d ∷ ds) src dst left linked displaced canonical fits moves =
    with_first (grown ds (with_other d.staging moves.0 src) moves.1 left linked moves.3 first_moves.canonical (λ e is. fits e (inr is)) moves.5)
  where
    first_moves : Moves d.staging_block d.file_block d.count (src d.staging) dst moves.0 moves.1 moves.2
    first_moves = moves.4

    by : (x : ℕ) → IsCanonical (src x) → (x ≡ d.staging) ⊎ (x ≢ d.staging) → IsCanonical (with_other d.staging moves.0 src x)
    by x is (inl same) = subst (λ (b : Bool). IsCanonical (if b then moves.0 else src x)) (sym (eq-eqb x d.staging same)) first_moves.source.canonical
    by x is (inr other) = subst (λ (b : Bool). IsCanonical (if b then moves.0 else src x)) (sym (ne_eqb x d.staging other)) is

    with_first : Grown ds (with_other d.staging moves.0 src) moves.1 left linked → Grown (d ∷ ds) src dst left linked
    with_first rest =
        let place = fits d (inl refl) in
        let four = one_of_four d.staging moves.0 src d.count place.0 place.1 first_moves.source_count in
        let target = first_moves.target_count in
        let chain = chain-linked d.staging_block d.file_block d.count (src d.staging) dst moves.0 moves.1 moves.2 canonical first_moves place.2 place.3 in
        let more = rest.chains in
        let fewer = rest.blocks in
        record {
          chains = omega (arith, chain, more);
          blocks = omega (arith, fewer, four, target);
          canonical = λ x is. rest.canonical x (by x is (cases_eq x d.staging));
        }

neither_left : (a b : Bool) → (a || b) ≡ false → a ≡ false
neither_left true b is = is
neither_left false b is = refl

neither_right : (a b : Bool) → (a || b) ≡ false → b ≡ false
neither_right true b is = cc
neither_right false b is = is

-- of a staging file of none of them nothing moves
none_moves : (ds : List Draft) (src : ℕ → List Extent) (dst : List Extent) (left : ℕ → List Extent) (linked displaced : List Extent) (x : ℕ) → loses ds x ≡ false → MovesAll (map run_of_draft ds) src dst left linked displaced → left x ≡ src x
none_moves [] src dst left linked displaced x none moves = moves.0 x
none_moves (d ∷ ds) src dst left linked displaced x none moves =
    none_moves ds (with_other d.staging moves.0 src) moves.1 left linked moves.3 x (neither_right (d.staging == x) (loses ds x) none) moves.5
    ∙ ap (λ (b : Bool). if b then moves.0 else src x) (ne_eqb x d.staging (λ same. (let never : true ≡ false = sym (eq-eqb d.staging x (sym same)) ∙ neither_left (d.staging == x) (loses ds x) none in cc)))

-- ---- the sum over all inodes

-- as the one volume has it up to inode j, and as the other has it from there on
abbrev mix : Volume → Volume → ℕ → ℕ → ℕ
mix v w j k = if nat_lt k j then blocks_of w k else blocks_of v k

mix_next : (v w : Volume) (n j : ℕ) → j < n → sum_by (mix v w (suc j)) (range_with_len 0 n) + blocks_of v j ≡ sum_by (mix v w j) (range_with_len 0 n) + blocks_of w j
mix_next v w n j low =
    let both = sum_by-but_one (mix v w (suc j)) (mix v w j) 0 n j (omega arith) (omega (arith, low)) (λ k other. ap (λ (b : Bool). if b then blocks_of w k else blocks_of v k) (same k j other)) in
    let here = ap (λ (b : Bool). if b then blocks_of w j else blocks_of v j) (not_below j) in
    let there = ap (λ (b : Bool). if b then blocks_of w j else blocks_of v j) (below_next j) in
    omega (arith, both, here, there)
  where
    same : (k j : ℕ) → k ≢ j → nat_lt k (suc j) ≡ nat_lt k j
    same k j other = by (nat_lt k j) refl where
      by : (b : Bool) → nat_lt k j ≡ b → nat_lt k (suc j) ≡ b
      by true is = grind (arith, nat_tests)
      by false is = grind (arith, nat_tests, other)

    not_below : (j : ℕ) → nat_lt j j ≡ false
    not_below j = grind (arith, nat_tests)

    below_next : (j : ℕ) → nat_lt j (suc j) ≡ true
    below_next j = grind (arith, nat_tests)

mix_none : (v w : Volume) (n : ℕ) → sum_by (mix v w 0) (range_with_len 0 n) ≡ sum_by (blocks_of v) (range_with_len 0 n)
mix_none v w n = sum_by-agree (mix v w 0) (blocks_of v) 0 n (λ k low below. ap (λ (b : Bool). if b then blocks_of w k else blocks_of v k) (none k)) where
  none : (k : ℕ) → nat_lt k 0 ≡ false
  none k = grind (arith, nat_tests)

-- all blocks are free or held
pub counted : (v : Volume) → IsWhole v → unused_blocks v + blocks_held v ≡ data_blocks v.geometry
counted v whole =
    unused-held v (λ ino. file_blocks_of (inode v ino).kind)
    (record { chains = λ ino low. whole.chains ino; files = λ ino low. whole.kept.kept.in_data ino (subst (λ n. ino < n) whole.kept.all.inode_count low) })
    (λ b is. whole.kept.kept.once b is)

among_all : (xs : List ℕ) (x : ℕ) → In x xs → list_any (λ t. t == x) xs ≡ true
among_all [] x is = absurd is
among_all (y ∷ ys) x (inl same) = ap (λ (b : Bool). b || list_any (λ t. t == x) ys) (eq-eqb y x same)
among_all (y ∷ ys) x (inr behind) = or_true (y == x) (list_any (λ t. t == x) ys) (among_all ys x behind) where
  or_true : (a b : Bool) → b ≡ true → (a || b) ≡ true
  or_true true b is = refl
  or_true false b is = is

-- ---- THE LANDING

module _ (free : ℕ → Bool) (ds : List Draft) (ino size applied : ℕ) (v w : Volume) (displaced : List Extent) (may : MayAllMove ds ino v) (moved : AreAllMoved free (landing_of ds ino size applied) v w displaced)
    (full : HasFullMaps v) (fits : (d : Draft) → In d ds → (d.file_block + d.count ≤ 4096) × (d.count ≤ 64)) where
  leaves : LeavesMoved ds ino size applied v w
  leaves = landing_leaves free ds ino size applied v w displaced may moved

  staging_place : (x : ℕ) → loses ds x ≡ true → (1 ≤ x) × (x ≤ 4)
  staging_place x lost = let staging = may.staging x lost in subst (IsKindAt x) staging (may.sane.kept.kinds x (subst (λ n. x < n) may.sane.inode_count (staging_below v x staging)))

  file_place : 5 ≤ ino
  file_place = subst (IsKindAt ino) may.file (may.sane.kept.kinds ino (subst (λ n. ino < n) may.sane.inode_count (below_file v ino may.file)))

  runs_fit : (d : Draft) → In d ds → (1 ≤ d.staging) × (d.staging ≤ 4) × (d.file_block + d.count ≤ 4096) × (d.count ≤ 64)
  runs_fit d is =
      let place = staging_place d.staging (any_in (λ (e : Draft). e.staging == d.staging) ds d is (eq-eqb d.staging d.staging refl)) in
      let its = fits d is in
      (place.0, place.1, its.0, its.1)

  grows : Grown ds (extents v) (extents v ino) moved.left moved.linked
  grows = grown ds (extents v) (extents v ino) moved.left moved.linked displaced (full.canonical ino (below_file v ino may.file)) runs_fit moved.moves

  -- a staging file has at most 64 blocks
  short : (x : ℕ) → (inode v x).kind ≡ Staging → AreBelow 64 (extents v x)
  short x staging i e low =
      let all : All (IsInData v.geometry (file_blocks_of Staging)) (extents v x) =
      subst (λ (kind : Kind). All (IsInData v.geometry (file_blocks_of kind)) (extents v x)) staging (may.sane.kept.in_data x (subst (λ n. x < n) may.sane.inode_count (staging_below v x staging)))
      in
      (all i e low).0

  apart_four : (x : ℕ) → x ≤ 4 → x ≢ ino
  apart_four x most same = let place = file_place in omega (arith, same, most, place)

  kept_files : (k : ℕ) → (4 < k) ⊎ (k ≡ 0) → loses ds k ≡ false
  kept_files k (inl past) = false_from_ne_true (loses ds k) (λ lost. (let place = staging_place k lost in omega (arith, past, place.1)))
  kept_files k (inr root) = false_from_ne_true (loses ds k) (λ lost. (let place = staging_place k lost in omega (arith, root, place.0)))

  beside : (k : ℕ) → k ≢ ino → loses ds k ≡ false → blocks_of w k ≡ blocks_of v k
  beside k other kept = let its = leaves.others k other kept in λ i. length (its.1 i) + block_count (its.2 i)

  -- a staging file has no longer chain, and the blocks that are left
  staged : (x : ℕ) → x ≤ 4 → blocks_of w x ≤ length (chain v x) + block_count (moved.left x)
  staged x most = by (cases_Bool (loses ds x)) where
    by : (loses ds x ≡ true) ⊎ (loses ds x ≡ false) → blocks_of w x ≤ length (chain v x) + block_count (moved.left x)
    by (inl lost) =
        let other = apart_four x most in
        let there = in_touched free ds ino size applied v w displaced may moved x lost in
        let its = (one free ds ino size applied v w displaced may moved x).1 there in
        let chain_is = other_chain free ds ino size applied v w displaced may moved x other ∙ its.1 in
        let map_is = other_map free ds ino size applied v w displaced may moved x other ∙ its.2 in
        let long = moved.sizes x (among_all (touched (map run_of_draft ds)) x there) in
        let staging = may.staging x lost in
        let low = staging_below v x staging in
        let fewer = chain-left (λ p. not (moves_from ds x p)) (extents v x) (moved.left x) (full.canonical x low) (short x staging)
        (record { canonical = grows.canonical x (full.canonical x low); blocks = λ p. left_at ds (extents v) (extents v ino) moved.left moved.linked displaced x p moved.moves })
        in
        let was = full.full x low in
        let chain_long = ap (λ (bs : List ℕ). length bs) chain_is in
        let map_long = ap (λ (es : List Extent). block_count es) map_is in
        omega (arith, chain_long, map_long, long, fewer, was)
    by (inr kept) =
        let its = leaves.others x (apart_four x most) kept in
        let same = ap (λ (es : List Extent). block_count es) (none_moves ds (extents v) (extents v ino) moved.left moved.linked displaced x kept moved.moves) in
        let chain_long = ap (λ (bs : List ℕ). length bs) its.1 in
        let map_long = ap (λ (es : List Extent). block_count es) its.2 in
        omega (arith, chain_long, map_long, same)

  -- the file has its new map
  own : blocks_of w ino + block_count (extents v ino) ≤ blocks_of v ino + block_count moved.linked + length ds
  own =
      let chain_long = ap (λ (bs : List ℕ). length bs) (own_chain free ds ino size applied v w displaced may moved) in
      let map_long = ap (λ (es : List Extent). block_count es) (own_map free ds ino size applied v w displaced may moved) in
      let long = moved.size in
      let more = grows.chains in
      let was = full.full ino (below_file v ino may.file) in
      omega (arith, chain_long, map_long, long, more, was)

  pub held_few : blocks_held w ≤ blocks_held v + length ds
  held_few =
      let n : ℕ = length v.inodes in
      let low = below_file v ino may.file in
      let place = file_place in
      let many = ap (λ m. sum_by (blocks_of w) (range_with_len 0 m)) same_count in
      let last = sum_by-but_one (blocks_of w) (mix v w 5) 0 n ino (omega arith) (omega (arith, low)) (λ k other. beyond k other) in
      let here = ap (λ (b : Bool). if b then blocks_of w ino else blocks_of v ino) (not_low ino place) in
      let s4 = mix_next v w n 4 (omega (arith, low, place)) in
      let s3 = mix_next v w n 3 (omega (arith, low, place)) in
      let s2 = mix_next v w n 2 (omega (arith, low, place)) in
      let s1 = mix_next v w n 1 (omega (arith, low, place)) in
      let s0 = mix_next v w n 0 (omega (arith, low, place)) in
      let none = mix_none v w n in
      let root = beside 0 (apart_four 0 (omega arith)) (kept_files 0 (inr refl)) in
      let f1 = staged 1 (omega arith) in
      let f2 = staged 2 (omega arith) in
      let f3 = staged 3 (omega arith) in
      let f4 = staged 4 (omega arith) in
      let file = own in
      let maps = grows.blocks in
      omega (arith, many, last, here, s4, s3, s2, s1, s0, none, root, f1, f2, f3, f4, file, maps)
    where
      same_count : length w.inodes ≡ length v.inodes
      same_count = inodes_stay free ds ino size applied v w displaced may moved

      not_low : (k : ℕ) → 5 ≤ k → nat_lt k 5 ≡ false
      not_low k past = grind (arith, nat_tests, past)

      beyond : (k : ℕ) → k ≢ ino → blocks_of w k ≡ mix v w 5 k
      beyond k other = by (nat_lt k 5) refl where
        by : (b : Bool) → nat_lt k 5 ≡ b → blocks_of w k ≡ (if b then blocks_of w k else blocks_of v k)
        by true is = refl
        by false is = beside k other (kept_files k (inl (grind (arith, nat_tests, is))))

pub landing_takes_few : LandingTakesFew
landing_takes_few g k files count numbers start history free w ino size applied displaced ready file whole fits moved =
    let may = may_all_move g k files count numbers start history ino ready file in
    let leaves_it = landing_leaves free (runs_of k.volume files ino) ino size applied k.volume w displaced may moved in
    let before = counted k.volume ready.going.order.whole in
    let behind = counted w whole in
    let few = held_few free (runs_of k.volume files ino) ino size applied k.volume w displaced may moved ready.going.order.full fits in
    let space = ap data_blocks leaves_it.geometry in
    omega (arith, before, behind, few, space)
