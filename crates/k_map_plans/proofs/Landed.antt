-- A landing of several runs on the tables: what its steps ask for, what they make of the volume, and what the plan is then.
use Rattle.std.proofs.Common.{◌≡◌, ◌≢◌, ◌<◌, ◌≤◌, ◌+◌, ◌*◌, ℕ, suc, map, Bool, true, false, get_or, List, [], ◌∷◌, ◌++◌, length, take, drop, length-drop, refl, sym, ◌∙◌, ap, inl, inr, arith, subst}
use Rattle.std.specs.Prelude.{◌==◌, ◌||◌, All, sum_by}
use Rattle.std.specs.List.{flat_map, list_any}
use Rattle.std.proofs.lemmas.Bool.{both_ways, cases_Bool, cases_lt, eqb-true}
use Rattle.std.proofs.lemmas.List.{length-set, length-take, take-append-drop}
use Rattle.std.proofs.lemmas.List.Elements.{All-drop, All-take}
use Rattle.std.proofs.lemmas.List.Sums.{sum_by-cons}
use Rattle.block_counts.specs.Counts.{chains_for}
use Rattle.layout_model.specs.declared.lines.Inode.{Inode}
use Rattle.k_plans.specs.layout_model.Places.{Geometry, is_data_block, reserve}
use Rattle.k_relink.specs.extent_model.Counts.{length-le}
use Rattle.k_relink.specs.extent_model.declared.extent_words.Extent.{Extent}
use Rattle.k_plans.specs.block_pool.FreeSets.{is_among}
use Rattle.k_plans.specs.image_model.Placed.{AreDistinct}
use Rattle.k_plans.specs.image_model.Rules.{IsKindAt}
use Rattle.k_plans.specs.image_model.Volume.{Volume, chain, extents, inode}
use Rattle.k_plans.specs.Free.{AreKeptBack, is_free_block}
use Rattle.k_plans.specs.k_journal.declared.batches.Record.{Record}
use Rattle.k_plans.specs.LandingsPlans.{NewChain, Turns, blocks_of, new_at}
use Rattle.k_plans.specs.Maps.{write_steps}
use Rattle.k_plans.specs.PlanLaws.{turns-none}
use Rattle.k_plans.specs.Switching.{IsMapPlan, IsSetAside}
use Rattle.k_plans.specs.View.{TablesView}
use Rattle.k_plans.specs.Whole.{IsWhole}
use Rattle.k_plans.specs.k_split_model.MapChangesChanges.{AreAllMoved, Landing, touched, with_lefts, with_length}
use Rattle.k_plans.specs.k_split_model.Taken.{AreLowest, switched, with_map}
use Rattle.k_plans.specs.k_split_model.declared.map_changes.moves.MoveRun.{MoveRun}
use Rattle.k_plans.specs.volume_change_laws.Bounds.{map-bound, own-data}
use Rattle.k_plans.specs.volume_change_laws.Hits.{in_chain-append}
use Rattle.k_plans.specs.volume_change_laws.Shorts.{length-below}
use Rattle.k_plans.specs.volume_change_laws.Switches.{among-counted, unused-data}
use Rattle.k_plans.specs.volume_change_laws.TakenLaws.{rising-distinct}
use Rattle.k_plans.specs.volume_laws.Changes.{chain-set_other, chain-set_same}
use Rattle.k_plans.specs.volume_laws.Uses.{in_chain, in_map, is_unused}
use Rattle.k_map_plans.specs.Landings.{IsLandingPlan, MayLand, WantsToLand}
use Rattle.k_map_plans.specs.LandingSteps.{AreLandingSteps, chain_size, cut_up, freed_with, steps_of}
use Rattle.k_map_plans.specs.Linking.{AreLinked, Left, all_went, left_at}
use Rattle.k_map_plans.specs.Steps.{ComeFrom, ComesFrom, MayStep, MayStepAll, Step, after_step, after_steps}
use Rattle.k_map_plans.proofs.Chains.{AreFrom, AreSized, FitsAll, apart-at, blocks_of-cut, cut-fits, cut-sized, distinct-at, flat-some, length-from, sized-at, touched-few, touched-from, touched-sum}
use Rattle.k_map_plans.proofs.Goings.{aside-volume, aside-waiting, data-above, fields-fit, free-unused, freed-aside, in-use, left-free}
use Rattle.k_map_plans.proofs.Lands.{HaveChains, IsPartway, after-end, all-come, all-may, are-lefts, chains-flat, chains-same, have-chains, partway-begin, partway-end}
use Rattle.k_map_plans.proofs.Links.{inodes-room}
use Rattle.k_map_plans.proofs.Moves.{two-once}
use Rattle.k_map_plans.proofs.Sizes.{file-fields, file-short}

-- ---- lists of staging files

-- how many blocks the chains take, by what is left
pub sum-maps : (lefts : List Left) (left : ℕ → List Extent) (low : ℕ) (xs : List ℕ) → 1 ≤ low
    → ((x : ℕ) → 1 ≤ x → x ≤ 4 → (left_at lefts x).map ≡ left x) → AreFrom low xs
    → sum_by chain_size (map (λ x. (left_at lefts x).map) xs) ≡ sum_by (λ x. chains_for (length (left x))) xs
sum-maps lefts left low [] some here from = refl
sum-maps lefts left low (x ∷ xs) some here from =
    omega (
      arith,
      sum_by-cons chain_size (left_at lefts x).map (map (λ y. (left_at lefts y).map) xs),
      sum_by-cons (λ y. chains_for (length (left y))) x xs,
      ap (λ es. chain_size es) (here x (omega (arith, some, from.0)) from.1),
      sum-maps lefts left (x + 1) xs (omega arith) here from.2,
    )

size-at : (lefts : List Left) (f : ℕ → List ℕ) (left : ℕ → List Extent) (low : ℕ) (xs : List ℕ) (cs : List NewChain) (x : ℕ) → 1 ≤ low
    → ((y : ℕ) → 1 ≤ y → y ≤ 4 → (left_at lefts y).map ≡ left y) → AreFrom low xs → FitsAll lefts xs cs → HaveChains f xs cs
    → list_any (λ t. t == x) xs ≡ true → length (f x) ≡ chains_for (length (left x))
size-at lefts f left low [] cs x some here from fits have among = absurd (both_ways false refl among)
size-at lefts f left low (t ∷ ts) [] x some here from fits have among = absurd fits
size-at lefts f left low (t ∷ ts) (c ∷ cs) x some here from fits have among = elim (cases_Bool (t == x)) [
  | inl same ↦
      subst (λ y. length (f y) ≡ chains_for (length (left y))) (eqb-true t x same)
      (omega (
        arith,
        ap (λ (bs : List ℕ). length bs) have.0,
        fits.0.size,
        ap (λ (es : List Extent). chain_size es) (fits.0.map ∙ here t (omega (arith, some, from.0)) from.1),
      ))
  | inr away ↦
      size-at lefts f left (t + 1) ts cs x (omega arith) here from.2 fits.1 have.1 (behind (t == x) (list_any (λ y. y == x) ts) away among)
]
  where
    behind : (y z : Bool) → y ≡ false → (y || z) ≡ true → z ≡ true
    behind true z away either = absurd (both_ways true away refl)
    behind false z away either = either

-- the writes of the chains of staging files
rest-steps : (lefts : List Left) (low : ℕ) (xs : List ℕ) (cs : List NewChain) → 1 ≤ low → ((x : ℕ) → 1 ≤ x → x ≤ 4 → length (left_at lefts x).map ≤ 64)
    → AreFrom low xs → FitsAll lefts xs cs → write_steps cs ≤ 578 * length xs
rest-steps lefts low [] [] some short from fits = omega arith
rest-steps lefts low [] (c ∷ cs) some short from fits = absurd fits
rest-steps lefts low (x ∷ xs) [] some short from fits = absurd fits
rest-steps lefts low (x ∷ xs) (c ∷ cs) some short from fits =
    omega (
      arith,
      sum_by-cons (λ (n : NewChain). 577 * length n.blocks + 1) c cs,
      fits.0.size,
      ap (λ (es : List Extent). length es) fits.0.map,
      short x (omega (arith, some, from.0)) from.1,
      rest-steps lefts (x + 1) xs cs (omega arith) short from.2 fits.1,
    )

-- a staging file's chain takes one block at most
rest-ones : (lefts : List Left) (low : ℕ) (xs : List ℕ) → 1 ≤ low → ((x : ℕ) → 1 ≤ x → x ≤ 4 → length (left_at lefts x).map ≤ 64) → AreFrom low xs
    → sum_by chain_size (map (λ x. (left_at lefts x).map) xs) ≤ length xs
rest-ones lefts low [] some short from = omega arith
rest-ones lefts low (x ∷ xs) some short from =
    omega (
      arith,
      sum_by-cons chain_size (left_at lefts x).map (map (λ y. (left_at lefts y).map) xs),
      short x (omega (arith, some, from.0)) from.1,
      rest-ones lefts (x + 1) xs (omega arith) short from.2,
    )

-- ---- how many blocks a landing wants

-- of five numbers no two are more than 1 together
five-once : (a b c d e : ℕ) → a + b ≤ 1 → a + c ≤ 1 → a + d ≤ 1 → a + e ≤ 1 → b + c ≤ 1 → b + d ≤ 1 → b + e ≤ 1 → c + d ≤ 1 → c + e ≤ 1 → d + e ≤ 1
    → a + (b + (c + (d + e))) ≤ 1
five-once a b c d e ab ac ad ae bc bd be cd ce de = elim (cases_lt 0 a) [
  | inl has ↦ omega (arith, has, ab, ac, ad, ae)
  | inr none ↦ elim (cases_lt 0 b) [
    | inl has ↦ omega (arith, none, has, bc, bd, be)
    | inr none2 ↦ elim (cases_lt 0 c) [
      | inl has ↦ omega (arith, none, none2, has, cd, ce)
      | inr none3 ↦ omega (arith, none, none2, none3, de)
    ]
  ]
]

module _ (v : Volume) (m : Landing) (lefts : List Left) (linked displaced : List Extent) (may : MayLand m v) (whole : IsWhole v)
    (al : AreLinked v m.ino m.runs lefts linked displaced) where
  live-place : 5 ≤ m.ino
  live-place = subst (IsKindAt m.ino) may.file.file (whole.kept.kept.kinds m.ino (omega (arith, may.file.below, whole.kept.all.inode_count)))

  pair : (i j b : ℕ) → i ≤ 4 → j ≤ 4 → i ≢ j → in_map (extents v i) b + in_map (extents v j) b ≤ 1
  pair i j b first second apart =
      two-once v i j b whole (omega (arith, first, inodes-room v whole)) (omega (arith, second, inodes-room v whole)) apart

  with-file : (i b : ℕ) → i ≤ 4 → in_map (extents v m.ino) b + in_map (extents v i) b ≤ 1
  with-file i b most =
      two-once v m.ino i b whole may.file.below (omega (arith, most, inodes-room v whole)) (λ same. omega (arith, same, most, live-place))

  all-once : (b : ℕ) → in_map (extents v m.ino) b + (in_map (extents v 1) b + (in_map (extents v 2) b + (in_map (extents v 3) b + in_map (extents v 4) b))) ≤ 1
  all-once b =
      five-once (in_map (extents v m.ino) b) (in_map (extents v 1) b) (in_map (extents v 2) b) (in_map (extents v 3) b) (in_map (extents v 4) b)
      (with-file 1 b (omega arith)) (with-file 2 b (omega arith)) (with-file 3 b (omega arith)) (with-file 4 b (omega arith))
      (pair 1 2 b (omega arith) (omega arith) (λ same. omega (arith, same))) (pair 1 3 b (omega arith) (omega arith) (λ same. omega (arith, same)))
      (pair 1 4 b (omega arith) (omega arith) (λ same. omega (arith, same))) (pair 2 3 b (omega arith) (omega arith) (λ same. omega (arith, same)))
      (pair 2 4 b (omega arith) (omega arith) (λ same. omega (arith, same))) (pair 3 4 b (omega arith) (omega arith) (λ same. omega (arith, same)))

  linked-within : (b : ℕ) → in_map linked b
      ≤ in_map (extents v m.ino) b + (in_map (extents v 1) b + (in_map (extents v 2) b + (in_map (extents v 3) b + in_map (extents v 4) b)))
  linked-within b =
      omega (
        arith,
        al.keeps.file_blocks b,
        al.keeps.blocks 1 b (omega arith) (omega arith),
        al.keeps.blocks 2 b (omega arith) (omega arith),
        al.keeps.blocks 3 b (omega arith) (omega arith),
        al.keeps.blocks 4 b (omega arith) (omega arith),
      )

  staged-data : (i b : ℕ) → i ≤ 4 → 1 ≤ in_map (extents v i) b → is_data_block v.geometry b ≡ true
  staged-data i b most has = own-data v i b whole.kept.kept whole.kept.all (omega (arith, most, inodes-room v whole)) has

  linked-data : (b : ℕ) → 1 ≤ in_map linked b → is_data_block v.geometry b ≡ true
  linked-data b has = elim (cases_lt 0 (in_map (extents v m.ino) b)) [
    | inl own ↦ own-data v m.ino b whole.kept.kept whole.kept.all may.file.below (omega (arith, own))
    | inr none ↦ elim (cases_lt 0 (in_map (extents v 1) b)) [
      | inl one ↦ staged-data 1 b (omega arith) (omega (arith, one))
      | inr not1 ↦ elim (cases_lt 0 (in_map (extents v 2) b)) [
        | inl two ↦ staged-data 2 b (omega arith) (omega (arith, two))
        | inr not2 ↦ elim (cases_lt 0 (in_map (extents v 3) b)) [
          | inl three ↦ staged-data 3 b (omega arith) (omega (arith, three))
          | inr not3 ↦ staged-data 4 b (omega arith) (omega (arith, has, none, not1, not2, not3, linked-within b))
        ]
      ]
    ]
  ]

  -- what it wants, where so many blocks are not free
  pub landing-wants : (free : ℕ) → free < sum_by chain_size (linked ∷ map (λ x. (left_at lefts x).map) (touched m.runs))
      → ((n : ℕ) × WantsToLand m v n × (free < n)) × (free + 3 < length m.runs + reserve v.geometry)
  landing-wants free few =
      let ts : List ℕ = touched m.runs in
      let sum = sum_by-cons chain_size linked (map (λ x. (left_at lefts x).map) ts) in
      let wants : sum_by chain_size (linked ∷ map (λ x. (left_at lefts x).map) ts) ≡ chains_for (length linked) + sum_by (λ x. chains_for (length (al.left x))) ts =
      sum ∙ ap (λ n. chains_for (length linked) + n) (sum-maps lefts al.left 1 ts (omega arith) al.here (touched-from m.runs))
      in
      let short = λ (x : ℕ) (low : 1 ≤ x) (high : x ≤ 4). length-below (left_at lefts x).map 64 (al.keeps.maps x low high) (al.keeps.short x low high) in (
        (chains_for (length linked) + sum_by (λ x. chains_for (length (al.left x))) ts, (al.left, linked, displaced, al.moves, refl), omega (arith, few, wants)),
        omega (
          arith,
          few,
          sum,
          map-bound v linked al.keeps.file_map (λ b. omega (arith, linked-within b, all-once b)) linked-data,
          rest-ones lefts 1 ts (omega arith) short (touched-from m.runs),
          touched-few m.runs,
        ),
      )

-- ---- the landing

-- the maps are those of the landing
pub set-for : (t u : TablesView) (rs : List MoveRun) (lefts lefts0 : List Left) (linked : List Extent) (news : List NewChain) (ts0 : List ℕ)
    (maps0 maps1 : List (List Extent)) → ts0 ≡ touched rs → lefts0 ≡ lefts → maps0 ≡ linked ∷ map (λ x. (left_at lefts0 x).map) ts0 → maps1 ≡ maps0
    → ((taken : List ℕ) × IsSetAside (sum_by chain_size maps1) taken t u × (news ≡ cut_up maps1 taken))
    → (taken : List ℕ) × IsSetAside (sum_by chain_size (linked ∷ map (λ x. (left_at lefts x).map) (touched rs))) taken t u
    × (news ≡ cut_up (linked ∷ map (λ x. (left_at lefts x).map) (touched rs)) taken)
set-for t u rs lefts lefts0 linked news ts0 maps0 maps1 ts_is lefts_are maps_are same got =
    subst (λ ms. (taken : List ℕ) × IsSetAside (sum_by chain_size ms) taken t u × (news ≡ cut_up ms taken))
    (same ∙ maps_are ∙ (λ i. linked ∷ map (λ x. (left_at (lefts_are i) x).map) (ts_is i))) got

-- the steps are those of the landing
pub steps-for : (v : Volume) (m : Landing) (ts0 : List ℕ) (lefts : List Left) (displaced : List Extent) (news news0 : List NewChain) (steps : List Step)
    → ts0 ≡ touched m.runs → news0 ≡ news → AreLandingSteps v m ts0 lefts displaced (new_at news0 0) (drop 1 news0) steps
    → AreLandingSteps v m (touched m.runs) lefts displaced (new_at news 0) (drop 1 news) steps
steps-for v m ts0 lefts displaced news news0 steps ts_is news_are is =
    subst (λ ns. AreLandingSteps v m (touched m.runs) lefts displaced (new_at ns 0) (drop 1 ns) steps) news_are
    (subst (λ xs. AreLandingSteps v m xs lefts displaced (new_at news0 0) (drop 1 news0) steps) ts_is is)

module _ (t u : TablesView) (m : Landing) (lefts : List Left) (linked displaced : List Extent) (news : List NewChain) (steps : List Step) (taken : List ℕ)
    (idle : t.aside ≡ []) (may : MayLand m t.volume) (whole : IsWhole t.volume) (al : AreLinked t.volume m.ino m.runs lefts linked displaced)
    (news-are : news ≡ cut_up (linked ∷ map (λ x. (left_at lefts x).map) (touched m.runs)) taken)
    (aside : IsSetAside (sum_by chain_size (linked ∷ map (λ x. (left_at lefts x).map) (touched m.runs))) taken t u)
    (landing : AreLandingSteps u.volume m (touched m.runs) lefts displaced (new_at news 0) (drop 1 news) steps) where
  abbrev v : Volume
  v = t.volume

  abbrev ts : List ℕ
  ts = touched m.runs

  abbrev maps : List (List Extent)
  maps = map (λ x. (left_at lefts x).map) ts

  abbrev own : List ℕ
  own = take (chain_size linked) taken

  abbrev rests : List NewChain
  rests = cut_up maps (drop (chain_size linked) taken)

  abbrev cut : List NewChain
  cut = record { blocks = own; extents = linked } ∷ rests

  vol : u.volume ≡ v
  vol = aside-volume t u (sum_by chain_size (linked ∷ maps)) taken aside

  from : AreFrom 1 ts
  from = touched-from m.runs

  sum : sum_by chain_size (linked ∷ maps) ≡ chain_size linked + sum_by chain_size maps
  sum = sum_by-cons chain_size linked maps

  own-size : length own ≡ chain_size linked
  own-size = omega (arith, sum, aside.lowest.count, length-take (chain_size linked) taken)

  rest-size : sum_by chain_size maps ≡ length (drop (chain_size linked) taken)
  rest-size = omega (arith, sum, aside.lowest.count, length-drop (chain_size linked) taken)

  above : All (λ b. 1 ≤ b) taken
  above k d below = data-above v (get_or taken k d) (unused-data v (get_or taken k d) (free-unused t (get_or taken k d) (aside.lowest.were_free k d below)))

  fits : FitsAll lefts ts rests
  fits = cut-fits lefts ts (drop (chain_size linked) taken) rest-size (All-drop (λ b. 1 ≤ b) (chain_size linked) taken above)

  rest-blocks : blocks_of rests ≡ drop (chain_size linked) taken
  rest-blocks = blocks_of-cut maps (drop (chain_size linked) taken) rest-size

  parts : own ++ blocks_of rests ≡ taken
  parts = ap (λ bs. own ++ bs) rest-blocks ∙ take-append-drop (chain_size linked) taken

  file-place : 5 ≤ m.ino
  file-place = subst (IsKindAt m.ino) may.file.file (whole.kept.kept.kinds m.ino (omega (arith, may.file.below, whole.kept.all.inode_count)))

  steps-are : AreLandingSteps v m ts lefts displaced (record { blocks = own; extents = linked }) rests steps
  steps-are =
      subst (λ (ns : List NewChain). AreLandingSteps v m ts lefts displaced (new_at ns 0) (drop 1 ns) steps) news-are
      (subst (λ (y : Volume). AreLandingSteps y m ts lefts displaced (new_at news 0) (drop 1 news) steps) vol landing)

  line : Inode
  line = with_length m.size m.applied (inode v m.ino)

  last : Step
  last = steps-are.last

  the-last : Step
  the-last = record { ino = m.ino; line = line; map = linked; chain = own; aside = last.aside }

  last-is : last ≡ the-last
  unfolding last line the-last
  last-is = λ i. record {
    ino = steps-are.file.ino i;
    line = steps-are.file.line i;
    map = steps-are.file.map i;
    chain = steps-are.file.chain i;
    aside = steps-are.last.aside;
  }

  total : ℕ → ℕ
  total b = in_chain (flat_map (chain v) ts) b + sum_by (λ x. in_chain (left_at lefts x).went b) ts

  went-sum : (b : ℕ) → sum_by (λ x. in_chain (left_at lefts x).went b) ts ≡ all_went lefts b
  went-sum b =
      omega (arith, touched-sum m.runs (λ x. in_chain (left_at lefts x).went b) (λ x some most none. ap (λ ks. in_chain ks b) (al.keeps.untouched x some most none)))

  final : (low : ℕ) (w : Volume) (waits : List ℕ) → IsPartway v w m.ino low → ((b : ℕ) → in_chain waits b ≡ in_chain own b + total b) → MayStep w waits last
  unfolding last line the-last total
  final low w waits is counts = subst (MayStep w waits) (sym last-is) (record {
    below = omega (arith, may.file.below, is.inode_count);
    kind = ap (λ (y : Inode). y.kind) (sym is.file.line);
    fields = fields-fit line own linked (inl may.file.file) (file-fields line may.file.file may.size may.applied) own-size
        (All-take (λ b. 1 ≤ b) (chain_size linked) taken above);
    short = file-short line linked may.file.file al.keeps.file_map;
    same = λ b.
        omega (
          arith,
          steps-are.file.aside b,
          counts b,
          al.keeps.file_blocks b,
          went-sum b,
          ap (λ ks. in_chain ks b) is.file.chain_is,
          ap (λ es. in_map es b) is.file.map,
        );
  })

  aside-now : (b : ℕ) → in_chain u.aside b ≡ in_chain own b + (in_chain (blocks_of rests) b + 0)
  aside-now b =
      omega (
        arith,
        ap (λ (y : TablesView). in_chain y.aside b) aside.after,
        ap (λ (ks : List ℕ). in_chain (ks ++ taken) b) idle,
        ap (λ (ks : List ℕ). in_chain ks b) parts,
        in_chain-append own (blocks_of rests) b,
      )

  pub landing-may : MayStepAll u.volume u.aside steps
  unfolding last total
  landing-may =
      subst (λ (y : Volume). MayStepAll y u.aside steps) (sym vol)
      (subst (MayStepAll v u.aside) (sym steps-are.all)
      (all-may v m.ino m.runs lefts linked displaced own last file-place whole al.keeps total final 1 ts rests [] u.aside v (omega arith) from fits
      (partway-begin v m.ino) aside-now (λ b. omega arith)))

  last-comes : ComesFrom cut last
  unfolding last
  last-comes = record { place = 0; below = omega arith; chain = steps-are.file.chain; map = steps-are.file.map }

  pub landing-comes : ComeFrom news steps
  unfolding last
  landing-comes =
      subst (λ (ns : List NewChain). ComeFrom ns steps) (sym news-are)
      (subst (ComeFrom cut) (sym steps-are.all)
      (all-come v lefts own cut last 1 ts rests [] last-comes (omega arith) (λ j below.
      let next : 1 + j ≡ suc j = omega arith in
      ap (new_at cut) next)))

  pub landing-some : 0 < length steps
  landing-some = elim_length steps-are
    where
      more : (xs : List ℕ) (cs : List NewChain) (freed : List ℕ) (s : Step) → 0 < length (steps_of v lefts own xs cs freed (s ∷ []))
      more [] cs freed s = omega arith
      more (x ∷ xs) [] freed s = omega arith
      more (x ∷ xs) (c ∷ cs) freed s = omega arith

      elim_length : AreLandingSteps v m ts lefts displaced (record { blocks = own; extents = linked }) rests steps → 0 < length steps
      elim_length is = subst (λ (ss : List Step). 0 < length ss) (sym is.all) (more ts rests [] is.last)

  pub landing-few : length steps ≤ 5
  landing-few = subst (λ (ss : List Step). length ss ≤ 5) (sym steps-are.all) (omega (arith, most ts rests [] steps-are.last, length-from 1 ts (omega arith) from))
    where
      most : (xs : List ℕ) (cs : List NewChain) (freed : List ℕ) (s : Step) → length (steps_of v lefts own xs cs freed (s ∷ [])) ≤ length xs + 1
      most [] cs freed s = omega arith
      most (x ∷ xs) [] freed s = omega arith
      most (x ∷ xs) (c ∷ cs) freed s = omega (arith, most xs cs (freed_with v (left_at lefts x) x freed) s)

  -- ---- the volume then

  module _ (w : TablesView) (b : List Record) (after : w.volume ≡ after_steps steps u.volume) where
    abbrev w1 : Volume
    w1 = after_steps (steps_of v lefts own ts rests [] []) v

    w-is : w.volume ≡ switched m.ino line own linked w1
    unfolding last line the-last
    w-is =
        after ∙ (λ i. after_steps (steps-are.all i) (vol i)) ∙ after-end v m.ino lefts own file-place ts rests [] (last ∷ []) v
        ∙ ap (λ (s : Step). after_step s w1) last-is

    part : IsPartway v w1 m.ino 5
    part = partway-end v m.ino lefts own file-place 1 ts rests [] v (omega arith) from (partway-begin v m.ino)

    have1 : HaveChains (chain w1) ts rests
    have1 = have-chains v m.ino lefts own file-place 1 ts rests [] v from (omega (arith, inodes-room v whole, whole.maps.chain_count))

    w1-is : w1 ≡ with_lefts ts (chain w1) al.left v
    w1-is = are-lefts v m.ino lefts own file-place (chain w1) al.left 1 ts rests [] v (omega arith) al.here from fits have1 (partway-begin v m.ino)

    file-chain : chain w.volume m.ino ≡ own
    file-chain =
        ap (λ (y : Volume). chain y m.ino) w-is
        ∙ chain-set_same m.ino (with_map own linked line) own linked w1 (omega (arith, may.file.below, whole.maps.chain_count, part.chain_count))

    other-chain : (x : ℕ) → x ≤ 4 → chain w.volume x ≡ chain w1 x
    other-chain x most =
        ap (λ (y : Volume). chain y x) w-is
        ∙ chain-set_other m.ino (with_map own linked line) own linked w1 x (λ same. omega (arith, same, most, file-place))

    have : HaveChains (chain w.volume) ts rests
    have = chains-same (chain w.volume) (chain w1) 1 ts rests other-chain from have1

    blocks-are : own ++ flat_map (chain w.volume) ts ≡ taken
    blocks-are = ap (λ bs. own ++ bs) (chains-flat (chain w.volume) lefts ts rests fits have) ∙ parts

    news-blocks : blocks_of news ≡ taken
    news-blocks = ap blocks_of news-are ∙ parts

    moved : AreAllMoved (is_free_block t) m v w.volume displaced
    unfolding line
    moved = record {
      left = al.left;
      linked = linked;
      blocks = own;
      rests = chain w1;
      moves = al.moves;
      size = own-size;
      sizes = λ x among. size-at lefts (chain w1) al.left 1 ts rests x (omega arith) al.here from fits have1 among;
      taken = subst (AreLowest (is_free_block t) (chain_size linked + sum_by (λ x. chains_for (length (al.left x))) ts))
          (sym (ap (λ bs. own ++ bs) (chains-flat (chain w1) lefts ts rests fits have1) ∙ parts))
          (subst (λ n. AreLowest (is_free_block t) n taken) (sum ∙ ap (λ n. chain_size linked + n) (sum-maps lefts al.left 1 ts (omega arith) al.here from)) aside.lowest);
      is_moved = w-is ∙ ap (λ (y : Volume). switched m.ino (with_length m.size m.applied (inode v m.ino)) own linked y) w1-is;
    }

    now-used : (k : ℕ) → is_among taken k ≡ true → is_unused w.volume k ≡ false
    now-used k among =
        let count : length w.volume.inodes ≡ length v.inodes =
        ap (λ (y : Volume). length y.inodes) w-is ∙ length-set w1.inodes m.ino (with_map own linked line) ∙ part.inode_count
        in
        let has : 1 ≤ in_chain own k + in_chain (flat_map (chain w.volume) ts) k =
        omega (arith, among-counted taken k among, ap (λ ks. in_chain ks k) blocks-are, in_chain-append own (flat_map (chain w.volume) ts) k)
        in
        elim (cases_lt 0 (in_chain own k)) [
          | inl file ↦ in-use w.volume m.ino k (omega (arith, may.file.below, count)) (omega (arith, file, ap (λ ks. in_chain ks k) file-chain))
          | inr none ↦
              let some = flat-some (chain w.volume) 1 ts k from (omega (arith, has, none)) in
              in-use w.volume some.0 k (omega (arith, some.1, count, inodes-room v whole)) (omega (arith, some.2))
        ]

    module _ (whole-now : IsWhole w.volume) (back-old : AreKeptBack t) (back : AreKeptBack w) (waiting : w.waiting ≡ u.waiting)
        (free : (k : ℕ) → is_free_block w k ≡ is_free_block u k) (some : 0 < length b) (most : length b ≤ 5)
        (turns : (ns : List NewChain) (y : Volume) → ComeFrom ns steps → Turns u.volume.geometry ns y u.volume [] → Turns u.volume.geometry ns y w.volume b) where
      plan : IsMapPlan news v w.volume b
      plan = record {
        turns = subst (λ (g : Geometry). Turns g news v w.volume b) (ap (λ (y : Volume). y.geometry) vol)
            (turns news v landing-comes (subst (λ (y : Volume). Turns y.geometry news v y []) (sym vol) (turns-none v.geometry news v)));
        geometry = ap (λ (y : Volume). y.geometry) w-is ∙ part.geometry;
        some = some;
        most = most;
        unused = subst (All (λ k. is_unused v k ≡ true)) (sym news-blocks) (λ k d below. free-unused t (get_or taken k d) (aside.lowest.were_free k d below));
        distinct = distinct-at news (subst AreDistinct (sym news-blocks) (rising-distinct taken aside.lowest.rising));
        apart = apart-at news (subst AreDistinct (sym news-blocks) (rising-distinct taken aside.lowest.rising));
        counts = sized-at news (subst AreSized (sym news-are) (cut-sized (linked ∷ maps) taken (sym aside.lowest.count)));
        steps = subst (λ (ns : List NewChain). write_steps ns ≤ 32000) (sym news-are)
            (omega (
              arith,
              sum_by-cons (λ (n : NewChain). 577 * length n.blocks + 1) (record { blocks = own; extents = linked }) rests,
              own-size,
              length-le linked al.keeps.file_map,
              length-from 1 ts (omega arith) from,
              rest-steps lefts 1 ts rests (omega arith) (λ x low high. length-below (left_at lefts x).map 64 (al.keeps.maps x low high) (al.keeps.short x low high)) from fits,
            ));
        whole = whole-now;
      }

      pub landing-plan : IsLandingPlan m t w b news
      landing-plan = record {
        moved = (displaced, moved);
        plan = plan;
        chains_are = news-blocks ∙ sym (blocks-are) ∙ ap (λ bs. bs ++ flat_map (chain w.volume) ts) (sym file-chain);
        aside = freed-aside t w taken idle back-old back (waiting ∙ aside-waiting t u (sum_by chain_size (linked ∷ maps)) taken aside)
            (λ k. free k ∙ left-free t u (sum_by chain_size (linked ∷ maps)) taken aside k) now-used;
        waiting = waiting ∙ aside-waiting t u (sum_by chain_size (linked ∷ maps)) taken aside;
      }
