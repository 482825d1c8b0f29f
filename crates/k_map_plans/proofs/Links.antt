-- Runs that go one after the other: what is left of the maps, and where the blocks are.
use Rattle.std.proofs.Common.{◌≡◌, ◌≢◌, ◌<◌, ◌≤◌, ◌+◌, ◌-◌, ℕ, zero, suc, map, Bool, true, false, not, get_or, List, [], ◌∷◌, ◌++◌, length, drop, append_assoc, Some, None, Option, IsSome, refl, sym, ◌∙◌, ap, inl, inr, arith, subst}
use Rattle.std.specs.Prelude.{◌==◌, ◌&&◌, All, AllPairs, if◌then◌else◌}
use Rattle.std.specs.List.{list_any, range_with_len}
use Rattle.std.proofs.Math.Seq.{drop-cons}
use Rattle.std.proofs.lemmas.Bool.{both_ways, cases_Bool, cases_eq, eq-eqb, ne_eqb}
use Rattle.std.proofs.lemmas.Bool.Decides.{nat_tests}
use Rattle.std.proofs.lemmas.List.{append-nil, drop_all, get_or-set_other, get_or-set_same, length-set}
use Rattle.std.proofs.lemmas.List.Elements.{All-append}
use Rattle.std.proofs.lemmas.List.Folds.{list_any_at}
use Rattle.std.proofs.lemmas.List.Sums.{sum_by-append}
use Rattle.layout_model.specs.declared.lines.Kind.{Kind}
use Rattle.layout_model.specs.declared.lines.Kind.TheVariants.{Directory, File, Free, Staging}
use Rattle.k_relink.specs.extent_model.Counts.{one_if}
use Rattle.k_relink.specs.extent_model.declared.extent_words.Extent.{Extent}
use Rattle.k_relink.specs.extent_model.Extents.{IsCanonical, IsExtent, disk_at, holds_disk, is_within}
use Rattle.k_relink.specs.extent_model.Moves.{IsMapped, Moves}
use Rattle.k_plans.specs.image_model.Rules.{IsKindAt, file_blocks_of}
use Rattle.k_plans.specs.image_model.Volume.{Volume, extents, inode}
use Rattle.k_plans.specs.Whole.{IsWhole}
use Rattle.k_plans.specs.k_split_model.MapChangesChanges.{MovesAll, with_other}
use Rattle.k_plans.specs.k_split_model.declared.map_changes.moves.MoveRun.{MoveRun}
use Rattle.k_plans.specs.volume_change_laws.Hits.{in_chain-append, in_map-left, in_map-linked}
use Rattle.k_plans.specs.volume_change_laws.Shorts.{AreBelow, mapped-below, part-below}
use Rattle.k_plans.specs.volume_laws.Uses.{in_chain, in_map}
use Rattle.k_map_plans.specs.Landings.{MayGo, TakeApart, takes}
use Rattle.k_map_plans.specs.Linking.{AreLinked, KeepsLeft, Left, RunGoes, all_went, left_at, no_left, whole_left}
use Rattle.k_map_plans.specs.Plans.{IsStagingFile}

-- ---- the four staging files

-- one of four
pub one_of_four : (P : ℕ → Type 0) → P 1 → P 2 → P 3 → P 4 → (n : ℕ) → 1 ≤ n → n ≤ 4 → P n
one_of_four P p1 p2 p3 p4 zero low high = absurd (omega arith)
one_of_four P p1 p2 p3 p4 (suc zero) low high = p1
one_of_four P p1 p2 p3 p4 (suc (suc zero)) low high = p2
one_of_four P p1 p2 p3 p4 (suc (suc (suc zero))) low high = p3
one_of_four P p1 p2 p3 p4 (suc (suc (suc (suc zero)))) low high = p4
one_of_four P p1 p2 p3 p4 (suc (suc (suc (suc (suc n))))) low high = absurd (omega arith)

-- a staging file is inode 1, 2, 3 or 4, and these are staging files
pub staging-place : (v : Volume) (x : ℕ) → IsWhole v → IsStagingFile x v → (1 ≤ x) × (x ≤ 4)
staging-place v x whole is =
    subst (IsKindAt x) is.kind (whole.kept.kept.kinds x (omega (arith, is.below, whole.kept.all.inode_count)))

pub inodes-room : (v : Volume) → IsWhole v → 5 ≤ length v.inodes
inodes-room v whole = omega (arith, whole.kept.geometry.least_inodes, whole.kept.all.inode_count)

pub staging-kind : (v : Volume) (x : ℕ) → IsWhole v → 1 ≤ x → x ≤ 4 → (inode v x).kind ≡ Staging
staging-kind v x whole low high =
    by (inode v x).kind (whole.kept.kept.kinds x (omega (arith, whole.kept.geometry.least_inodes, high)))
  where
    by : (kind : Kind) → IsKindAt x kind → kind ≡ Staging
    by Free at = absurd (omega (arith, at, high))
    by Directory (inl zero_is) = absurd (omega (arith, zero_is, low))
    by Directory (inr at) = absurd (omega (arith, at, high))
    by File at = absurd (omega (arith, at, high))
    by Staging at = refl

-- they lie below file block 64
pub staging-below : (v : Volume) (x : ℕ) → IsWhole v → 1 ≤ x → x ≤ 4 → AreBelow 64 (extents v x)
staging-below v x whole low high k d within =
    let is = whole.kept.kept.in_data x (omega (arith, whole.kept.geometry.least_inodes, high)) k d within in
    subst (λ kind. (get_or (extents v x) k d).file + (get_or (extents v x) k d).count ≤ file_blocks_of kind) (staging-kind v x whole low high) is.0

-- a sum over them of which one part grows
four-more : (w u : ℕ → ℕ) (s m : ℕ) → 1 ≤ s → s ≤ 4 → w s ≡ u s + m → ((x : ℕ) → 1 ≤ x → x ≢ s → w x ≡ u x)
    → w 1 + (w 2 + (w 3 + w 4)) ≡ u 1 + (u 2 + (u 3 + u 4)) + m
four-more w u s m low high is others =
    one_of_four (λ n. w n ≡ u n + m → ((x : ℕ) → 1 ≤ x → x ≢ n → w x ≡ u x) → w 1 + (w 2 + (w 3 + w 4)) ≡ u 1 + (u 2 + (u 3 + u 4)) + m)
    (λ one rest. omega (arith, one, rest 2 (omega arith) (λ same. omega (arith, same)), rest 3 (omega arith) (λ same. omega (arith, same)), rest 4 (omega arith) (λ same. omega (arith, same))))
    (λ one rest. omega (arith, one, rest 1 (omega arith) (λ same. omega (arith, same)), rest 3 (omega arith) (λ same. omega (arith, same)), rest 4 (omega arith) (λ same. omega (arith, same))))
    (λ one rest. omega (arith, one, rest 1 (omega arith) (λ same. omega (arith, same)), rest 2 (omega arith) (λ same. omega (arith, same)), rest 4 (omega arith) (λ same. omega (arith, same))))
    (λ one rest. omega (arith, one, rest 1 (omega arith) (λ same. omega (arith, same)), rest 2 (omega arith) (λ same. omega (arith, same)), rest 3 (omega arith) (λ same. omega (arith, same))))
    s low high is others

-- ---- a run goes

-- a block that is mapped has a number
mapped-at : (o : Option ℕ) → IsSome o → (n : ℕ) × (o ≡ Some n)
mapped-at (Some n) is = (n, refl)
mapped-at None is = absurd (both_ways false refl is)

-- blocks that are mapped in a staging file end by file block 64
pub mapped-end : (es : List Extent) (from count : ℕ) → AreBelow 64 es → 1 ≤ count → IsMapped es from count → from + count ≤ 64
mapped-end es from count below some there =
    let last = mapped-at (disk_at es (from + (count - 1))) (there (from + (count - 1)) (omega arith) (omega (arith, some))) in
    omega (arith, some, mapped-below es 64 (from + (count - 1)) last.0 below last.1)

module _ (v : Volume) (ino : ℕ) (runs : List MoveRun) (r : MoveRun) (lefts lefts2 : List Left) (linked linked2 displaced displaced2 : List Extent)
    (low : 1 ≤ r.staging) (high : r.staging ≤ 4) (among : list_any (λ (t : MoveRun). t.staging == r.staging) runs ≡ true)
    (source-end : r.staging_block + r.count ≤ 4096) (target-end : r.file_block + r.count ≤ 4096)
    (goes : RunGoes r lefts linked displaced lefts2 linked2 displaced2) (keeps : KeepsLeft v ino runs lefts linked displaced) where
  now : Left
  now = record { map = goes.one; went = (left_at lefts r.staging).went ++ goes.moved }

  left-same : left_at lefts2 r.staging ≡ now
  unfolding now
  left-same =
      ap (λ (ls : List Left). left_at ls r.staging) goes.lefts_are
      ∙ get_or-set_same lefts (r.staging - 1) (record { map = goes.one; went = (left_at lefts r.staging).went ++ goes.moved }) no_left
      (omega (arith, keeps.count, low, high))

  left-other : (x : ℕ) → 1 ≤ x → x ≢ r.staging → left_at lefts2 x ≡ left_at lefts x
  left-other x some apart =
      ap (λ (ls : List Left). left_at ls x) goes.lefts_are
      ∙ get_or-set_other lefts (r.staging - 1) (x - 1) (record { map = goes.one; went = (left_at lefts r.staging).went ++ goes.moved }) no_left
      (λ same. apart (omega (arith, same, some, low)))

  -- a fact of each of them, where it holds of the one that changed and of the others
  each-left : (P : ℕ → Left → Type 0) → P r.staging now → ((x : ℕ) → 1 ≤ x → x ≤ 4 → P x (left_at lefts x)) → (x : ℕ) → 1 ≤ x → x ≤ 4
      → P x (left_at lefts2 x)
  each-left P one others x some most = elim (cases_eq x r.staging) [
    | inl here ↦ subst (λ y. P y (left_at lefts2 y)) (sym here) (subst (P r.staging) (sym left-same) one)
    | inr apart ↦ subst (P x) (sym (left-other x some apart)) (others x some most)
  ]

  moved-left : (b : ℕ) → in_map goes.one b + in_chain goes.moved b ≡ in_map (left_at lefts r.staging).map b
  moved-left b =
      in_map-left r.staging_block r.count (left_at lefts r.staging).map goes.one goes.moved b goes.source goes.moves.source goes.at goes.size source-end

  moved-linked : (b : ℕ) → in_map linked2 b + in_map goes.gone b ≡ in_map linked b + in_chain goes.moved b
  moved-linked b =
      in_map-linked r.staging_block r.file_block r.count (left_at lefts r.staging).map linked goes.one linked2 goes.gone goes.moved b goes.target
      goes.moves goes.at goes.size target-end

  went-more : (b : ℕ) → all_went lefts2 b ≡ all_went lefts b + in_chain goes.moved b
  unfolding now
  went-more b =
      let more = four-more (λ x. in_chain (left_at lefts2 x).went b) (λ x. in_chain (left_at lefts x).went b) r.staging (in_chain goes.moved b) low high
      (ap (λ (l : Left). in_chain l.went b) left-same ∙ in_chain-append (left_at lefts r.staging).went goes.moved b)
      (λ x some apart. ap (λ (l : Left). in_chain l.went b) (left-other x some apart))
      in
      omega (arith, more)

  pub keeps-step : KeepsLeft v ino runs lefts2 linked2 displaced2
  unfolding now
  keeps-step = record {
    count = ap (λ (ls : List Left). length ls) goes.lefts_are
        ∙ length-set lefts (r.staging - 1) (record { map = goes.one; went = (left_at lefts r.staging).went ++ goes.moved }) ∙ keeps.count;
    maps = each-left (λ x l. IsCanonical l.map) goes.moves.source.canonical keeps.maps;
    short = each-left (λ x l. AreBelow 64 l.map)
        (part-below (λ b. not (is_within r.staging_block r.count b)) (left_at lefts r.staging).map goes.one 64 goes.moves.source (keeps.short r.staging low high))
        keeps.short;
    blocks = λ x b some most. each-left (λ y l. in_map l.map b + in_chain l.went b ≡ in_map (extents v y) b)
        (omega (arith, moved-left b, in_chain-append (left_at lefts r.staging).went goes.moved b, keeps.blocks r.staging b low high))
        (λ y least greatest. keeps.blocks y b least greatest) x some most;
    file_map = goes.moves.canonical;
    file_blocks = λ b.
        omega (
          arith,
          keeps.file_blocks b,
          went-more b,
          moved-linked b,
          ap (λ (es : List Extent). in_map es b) goes.displaced_are,
          sum_by-append (λ (e : Extent). one_if (holds_disk e b)) displaced goes.gone,
        );
    untouched = λ x some most none.
        let apart : x ≢ r.staging = λ same. both_ways (list_any (λ (t : MoveRun). t.staging == x) runs) none
        (subst (λ y. list_any (λ (t : MoveRun). t.staging == y) runs ≡ true) (sym same) among)
        in
        ap (λ (l : Left). l.went) (left-other x some apart) ∙ keeps.untouched x some most none;
    displaced_are = subst (All IsExtent) (sym goes.displaced_are) (All-append IsExtent displaced goes.gone keeps.displaced_are goes.moves.freed.canonical.each);
  }

-- ---- the runs that are to go

get_or-same : (rs : List MoveRun) (k : ℕ) (d e : MoveRun) → k < length rs → get_or rs k d ≡ get_or rs k e
get_or-same [] k d e within = absurd (omega (arith, within))
get_or-same (x ∷ xs) zero d e within = refl
get_or-same (x ∷ xs) (suc k) d e within = get_or-same xs k d e (omega (arith, within))

-- Runs from place i on are to go: each has its blocks in what is left, and what they make of it is what all runs make of what was.
pub record AreToGo (v : Volume) (ino : ℕ) (runs : List MoveRun) (i : ℕ) (lefts : List Left) (linked displaced : List Extent) : Type 0 where
  pub left : ℕ → List Extent
  pub here : (x : ℕ) → 1 ≤ x → x ≤ 4 → (left_at lefts x).map ≡ left x
  pub there : (j : ℕ) (d : MoveRun) → i ≤ j → j < length runs
      → IsMapped (left (get_or runs j d).staging) (get_or runs j d).staging_block (get_or runs j d).count
  pub on : (l : ℕ → List Extent) (linked2 more : List Extent) → MovesAll (drop i runs) left linked l linked2 more
      → MovesAll runs (extents v) (extents v ino) l linked2 (displaced ++ more)

-- what a run does not take stays mapped
stays-mapped : (r other : MoveRun) (x : ℕ) (src one : List Extent) → r.staging ≡ x → other.staging ≡ x → TakeApart r other
    → ((b : ℕ) → disk_at one b ≡ (if not (is_within r.staging_block r.count b) then disk_at src b else None))
    → IsMapped src other.staging_block other.count → IsMapped one other.staging_block other.count
stays-mapped r other x src one first second apart is there b low high = elim (cases_Bool (is_within r.staging_block r.count b)) [
  | inl within ↦
      let one_takes : takes x b r ≡ true = both_true (r.staging == x) (is_within r.staging_block r.count b) (eq-eqb r.staging x first) within in
      let two_takes : takes x b other ≡ true =
      both_true (other.staging == x) (is_within other.staging_block other.count b) (eq-eqb other.staging x second) (grind (arith, nat_tests, low, high))
      in
      absurd (both_ways (takes x b other) (apart x b one_takes) two_takes)
  | inr outside ↦
      let same : disk_at one b ≡ disk_at src b = rw outside at (is b) in
      subst IsSome (sym same) (there b low high)
]
  where
    both_true : (y z : Bool) → y ≡ true → z ≡ true → (y && z) ≡ true
    both_true true z first second = second
    both_true false z first second = absurd (both_ways false refl first)

module _ (v : Volume) (ino : ℕ) (runs : List MoveRun) (i : ℕ) (r : MoveRun) (lefts lefts2 : List Left) (linked linked2 displaced displaced2 : List Extent)
    (below : i < length runs) (r_is : get_or runs i r ≡ r) (low : 1 ≤ r.staging) (high : r.staging ≤ 4) (apart : AllPairs TakeApart runs)
    (count : length lefts ≡ 4) (goes : RunGoes r lefts linked displaced lefts2 linked2 displaced2) (to-go : AreToGo v ino runs i lefts linked displaced) where
  map-is : (left_at lefts r.staging).map ≡ to-go.left r.staging
  map-is = to-go.here r.staging low high

  other-is : (x : ℕ) → x ≢ r.staging → with_other r.staging goes.one to-go.left x ≡ to-go.left x
  other-is x away = rw (ne_eqb x r.staging away) refl

  same-is : with_other r.staging goes.one to-go.left r.staging ≡ goes.one
  same-is = rw (eq-eqb r.staging r.staging refl) refl

  pub to-go-step : AreToGo v ino runs (i + 1) lefts2 linked2 displaced2
  to-go-step = record {
    left = with_other r.staging goes.one to-go.left;
    here = λ x some most. elim (cases_eq x r.staging) [
      | inl same ↦ subst (λ y. (left_at lefts2 y).map ≡ with_other r.staging goes.one to-go.left y) (sym same)
          (ap (λ (ls : List Left). (left_at ls r.staging).map) goes.lefts_are
          ∙ ap (λ (l : Left). l.map) (get_or-set_same lefts (r.staging - 1) (record { map = goes.one; went = (left_at lefts r.staging).went ++ goes.moved }) no_left
          (omega (arith, count, low, high))) ∙ sym same-is)
      | inr away ↦
          ap (λ (ls : List Left). (left_at ls x).map) goes.lefts_are
          ∙ ap (λ (l : Left). l.map) (get_or-set_other lefts (r.staging - 1) (x - 1) (record { map = goes.one; went = (left_at lefts r.staging).went ++ goes.moved }) no_left
          (λ same. away (omega (arith, same, some, low)))) ∙ to-go.here x some most ∙ sym (other-is x away)
    ];
    there = λ j d behind within.
        let other : MoveRun = get_or runs j d in
        let was = to-go.there j d (omega (arith, behind)) within in
        elim (cases_eq other.staging r.staging) [
          | inl same ↦
              let pair : TakeApart r other = subst (λ (t : MoveRun). TakeApart t other) (get_or-same runs i d r below ∙ r_is) (apart i j d (omega (arith, behind)) within) in
              subst (λ es. IsMapped es other.staging_block other.count) (sym (ap (with_other r.staging goes.one to-go.left) same ∙ same-is))
              (stays-mapped r other r.staging (left_at lefts r.staging).map goes.one refl same pair goes.moves.source.blocks
              (subst (λ es. IsMapped es other.staging_block other.count) (ap to-go.left same ∙ sym map-is) was))
          | inr away ↦ subst (λ es. IsMapped es other.staging_block other.count) (sym (other-is other.staging away)) was
        ];
    on = λ l linked3 more moves.
        let first : Moves r.staging_block r.file_block r.count (to-go.left r.staging) linked goes.one linked2 goes.gone =
        subst (λ es. Moves r.staging_block r.file_block r.count es linked goes.one linked2 goes.gone) map-is goes.moves
        in
        let next : suc i ≡ i + 1 = omega arith in
        let front : drop i runs ≡ r ∷ drop (i + 1) runs = drop-cons runs i r below ∙ ap (λ (k : ℕ). get_or runs i r ∷ drop k runs) next ∙ ap (λ (t : MoveRun). t ∷ drop (i + 1) runs) r_is in
        let all : MovesAll (drop i runs) to-go.left linked l linked3 (goes.gone ++ more) =
        subst (λ rs. MovesAll rs to-go.left linked l linked3 (goes.gone ++ more)) (sym front) (goes.one, linked2, goes.gone, more, first, moves, refl)
        in
        subst (MovesAll runs (extents v) (extents v ino) l linked3)
        (sym (append_assoc displaced goes.gone more) ∙ ap (λ es. es ++ more) (sym goes.displaced_are))
        (to-go.on l linked3 (goes.gone ++ more) all);
  }

-- ---- run i

abbrev no_run : MoveRun
no_run = record { staging = 0; staging_block = 0; file_block = 0; count = 0 }

-- a run that can go now
pub record IsReady (r : MoveRun) (lefts : List Left) : Type 0 where
  pub low : 1 ≤ r.staging
  pub high : r.staging ≤ 4
  pub below : r.staging ≤ length lefts
  pub source : r.staging_block + r.count ≤ 4096
  pub target : r.file_block + r.count ≤ 4096
  pub there : IsMapped (left_at lefts r.staging).map r.staging_block r.count

ready : (v : Volume) (ino : ℕ) (runs : List MoveRun) (i : ℕ) (lefts : List Left) (linked displaced : List Extent) → i < length runs → IsWhole v
    → All (MayGo v) runs → KeepsLeft v ino runs lefts linked displaced → AreToGo v ino runs i lefts linked displaced → IsReady (get_or runs i no_run) lefts
ready v ino runs i lefts linked displaced within whole each keeps to-go =
    let r : MoveRun = get_or runs i no_run in
    let may : MayGo v r = each i no_run within in
    let place = staging-place v r.staging whole may.staging in
    let there : IsMapped (left_at lefts r.staging).map r.staging_block r.count =
    subst (λ es. IsMapped es r.staging_block r.count) (sym (to-go.here r.staging place.0 place.1)) (to-go.there i no_run (omega arith) within)
    in
    record {
      low = place.0;
      high = place.1;
      below = omega (arith, place.1, keeps.count);
      source = omega (arith, mapped-end (left_at lefts r.staging).map r.staging_block r.count (keeps.short r.staging place.0 place.1) may.some there);
      target = may.place;
      there = there;
    }

pub run-ready : (v : Volume) (ino : ℕ) (runs rs : List MoveRun) (i : ℕ) (lefts : List Left) (linked displaced : List Extent) → rs ≡ runs
    → i < length rs → IsWhole v → All (MayGo v) runs → KeepsLeft v ino runs lefts linked displaced → AreToGo v ino runs i lefts linked displaced
    → IsReady (get_or rs i no_run) lefts
run-ready v ino runs rs i lefts linked displaced same within whole each keeps to-go =
    subst (λ ts. i < length ts → IsReady (get_or ts i no_run) lefts) (sym same)
    (λ below. ready v ino runs i lefts linked displaced below whole each keeps to-go) within

-- what holds once it went
pub record HaveGone (v : Volume) (ino : ℕ) (runs : List MoveRun) (i : ℕ) (lefts : List Left) (linked displaced : List Extent) : Type 0 where
  pub keeps : KeepsLeft v ino runs lefts linked displaced
  pub to_go : AreToGo v ino runs i lefts linked displaced

pub run-goes : (v : Volume) (ino : ℕ) (runs rs : List MoveRun) (i : ℕ) (lefts lefts2 : List Left) (linked linked2 displaced displaced2 : List Extent)
    → rs ≡ runs → i < length rs → IsWhole v → All (MayGo v) runs → AllPairs TakeApart runs → KeepsLeft v ino runs lefts linked displaced
    → AreToGo v ino runs i lefts linked displaced → RunGoes (get_or rs i no_run) lefts linked displaced lefts2 linked2 displaced2
    → HaveGone v ino runs (i + 1) lefts2 linked2 displaced2
run-goes v ino runs rs i lefts lefts2 linked linked2 displaced displaced2 same within whole each apart keeps to-go goes =
    subst (λ ts. i < length ts → RunGoes (get_or ts i no_run) lefts linked displaced lefts2 linked2 displaced2 → HaveGone v ino runs (i + 1) lefts2 linked2 displaced2)
    (sym same) by within goes
  where
    by : i < length runs → RunGoes (get_or runs i no_run) lefts linked displaced lefts2 linked2 displaced2 → HaveGone v ino runs (i + 1) lefts2 linked2 displaced2
    by below went =
        let r : MoveRun = get_or runs i no_run in
        let is = ready v ino runs i lefts linked displaced below whole each keeps to-go in
        let among : list_any (λ (t : MoveRun). t.staging == r.staging) runs ≡ true =
        list_any_at (λ (t : MoveRun). t.staging == r.staging) runs i no_run below (eq-eqb r.staging r.staging refl)
        in
        record {
          keeps = keeps-step v ino runs r lefts lefts2 linked linked2 displaced displaced2 is.low is.high among is.source is.target went keeps;
          to_go = to-go-step v ino runs i r lefts lefts2 linked linked2 displaced displaced2 below (get_or-same runs i r no_run below) is.low is.high apart keeps.count went to-go;
        }

-- ---- the begin and the end

left-whole : (v : Volume) (lefts : List Left) → lefts ≡ map (whole_left v) (range_with_len 0 4) → (x : ℕ) → 1 ≤ x → x ≤ 4
    → left_at lefts x ≡ record { map = extents v x; went = [] }
left-whole v lefts is x low high =
    ap (λ (ls : List Left). left_at ls x) is
    ∙ one_of_four (λ n. left_at (map (whole_left v) (range_with_len 0 4)) n ≡ record { map = extents v n; went = [] }) refl refl refl refl x low high

pub keeps-begin : (v : Volume) (ino : ℕ) (runs : List MoveRun) (lefts : List Left) → lefts ≡ map (whole_left v) (range_with_len 0 4) → IsWhole v
    → ((k : ℕ) → k < 4 → IsCanonical (extents v (k + 1))) → IsCanonical (extents v ino) → KeepsLeft v ino runs lefts (extents v ino) []
keeps-begin v ino runs lefts is whole canonical file = record {
  count = ap (λ (ls : List Left). length ls) is;
  maps = λ x low high. subst (λ (l : Left). IsCanonical l.map) (sym (left-whole v lefts is x low high)) (staging-canonical x low high);
  short = λ x low high. subst (λ (l : Left). AreBelow 64 l.map) (sym (left-whole v lefts is x low high)) (staging-below v x whole low high);
  blocks = λ x b low high. subst (λ (l : Left). in_map l.map b + in_chain l.went b ≡ in_map (extents v x) b) (sym (left-whole v lefts is x low high)) (omega arith);
  file_map = file;
  file_blocks = λ b. subst (λ (ls : List Left). in_map (extents v ino) b + 0 ≡ in_map (extents v ino) b + all_went ls b) (sym is) (omega arith);
  untouched = λ x low high none. ap (λ (l : Left). l.went) (left-whole v lefts is x low high);
  displaced_are = λ k d within. absurd (omega (arith, within));
}
  where
    staging-canonical : (x : ℕ) → 1 ≤ x → x ≤ 4 → IsCanonical (extents v x)
    staging-canonical x low high = subst (λ y. IsCanonical (extents v y)) (omega (arith, low)) (canonical (x - 1) (omega (arith, low, high)))

pub to-go-begin : (v : Volume) (ino : ℕ) (runs : List MoveRun) (lefts : List Left) → lefts ≡ map (whole_left v) (range_with_len 0 4)
    → All (MayGo v) runs → AreToGo v ino runs 0 lefts (extents v ino) []
to-go-begin v ino runs lefts is each = record {
  left = extents v;
  here = λ x low high. ap (λ (l : Left). l.map) (left-whole v lefts is x low high);
  there = λ j d behind within. (each j d within).there;
  on = λ l linked more moves. moves;
}

pub all-linked : (v : Volume) (ino : ℕ) (runs : List MoveRun) (i : ℕ) (lefts : List Left) (linked displaced : List Extent) → length runs ≤ i
    → AreToGo v ino runs i lefts linked displaced → KeepsLeft v ino runs lefts linked displaced → AreLinked v ino runs lefts linked displaced
all-linked v ino runs i lefts linked displaced end to-go keeps = record {
  left = to-go.left;
  here = to-go.here;
  moves = subst (MovesAll runs (extents v) (extents v ino) to-go.left linked) (append-nil displaced)
      (to-go.on to-go.left linked [] (subst (λ rs. MovesAll rs to-go.left linked to-go.left linked []) (sym (drop_all i runs end)) ((λ x. refl), refl, refl)));
  keeps = keeps;
}
