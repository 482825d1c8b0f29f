-- Blocks that move: the two inodes go over to their maps one after the other, and what that asks for.
use Rattle.std.proofs.Common.{◌≡◌, ◌≢◌, ◌<◌, ◌≤◌, ◌+◌, ◌-◌, ℕ, true, false, not, get_or, List, [], ◌∷◌, ◌++◌, length, Some, None, Option, IsSome, refl, sym, ◌∙◌, ap, inl, inr, arith, subst}
use Rattle.std.specs.Prelude.{All}
use Rattle.std.proofs.lemmas.Bool.{both_ways, cases_lt}
use Rattle.std.proofs.lemmas.Grind.{get_or_default_zero}
use Rattle.std.proofs.lemmas.List.{append-nil, get_or-append_right, get_or_append_left, length-append, length-set}
use Rattle.block_counts.specs.Counts.{chains_for}
use Rattle.layout_model.specs.declared.lines.Inode.{Inode}
use Rattle.layout_model.specs.declared.lines.Kind.TheVariants.{File, Staging}
use Rattle.k_plans.specs.layout_model.Places.{is_data_block, reserve}
use Rattle.k_plans.specs.image_model.Placed.{AreDistinct, block_at}
use Rattle.k_relink.specs.extent_model.Counts.{length-le}
use Rattle.k_plans.specs.Maps.{AreApart}
use Rattle.k_plans.specs.block_pool.FreeSets.{is_among}
use Rattle.k_plans.specs.Free.{AreKeptBack, SetsFreedAside, is_free_block}
use Rattle.k_plans.specs.image_model.Rules.{file_blocks_of}
use Rattle.k_plans.specs.image_model.Volume.{Volume, chain, extents, inode}
use Rattle.k_relink.specs.extent_model.Extents.{IsCanonical, disk_at, is_within}
use Rattle.k_relink.specs.extent_model.Moves.{Moves}
use Rattle.k_plans.specs.Switching.{IsMapPlan, IsSetAside}
use Rattle.k_plans.specs.View.{TablesView}
use Rattle.k_plans.specs.Whole.{IsWhole}
use Rattle.k_plans.specs.volume_laws.Changes.{chain-set_other, chain-set_same, extents-set_other, inode-set_other}
use Rattle.k_plans.specs.volume_change_laws.Bounds.{map-bound, own-data, own-once}
use Rattle.k_plans.specs.volume_change_laws.Hits.{AreAt, in_chain-append, in_map-left, in_map-linked}
use Rattle.k_plans.specs.volume_change_laws.Shorts.{AreBelow, length-below, mapped-below, part-below}
use Rattle.k_plans.specs.volume_change_laws.Switches.{MaySwitch, among-counted, StandsWith, unused-data, wait-once}
use Rattle.k_plans.specs.volume_change_laws.TakenLaws.{rising-distinct, rising-once}
use Rattle.k_plans.specs.volume_laws.OwnerLaws.{two-le-owners}
use Rattle.k_plans.specs.volume_laws.UseLaws.{in_chain-at, length-uses_by}
use Rattle.k_plans.specs.volume_laws.Uses.{in_chain, in_map, is_unused}
use Rattle.k_relink.specs.extent_model.declared.extent_words.Extent.{Extent}
use Rattle.k_plans.specs.k_journal.declared.batches.Record.{Record}
use Rattle.k_plans.specs.LandingsPlans.{IsMapFrom, NewChain, Turns, blocks_of, new_at}
use Rattle.k_plans.specs.k_split_model.MapChangesChanges.{with_length}
use Rattle.k_plans.specs.k_split_model.Taken.{AreLowest, switched, with_map}
use Rattle.k_plans.specs.k_split_model.declared.map_changes.moves.Move.{Move}
use Rattle.k_map_plans.specs.Moving.{MayGoBoth, left_volume, moved_volume}
use Rattle.k_map_plans.specs.Plans.{MayMove, WantsToMove}
use Rattle.k_map_plans.proofs.Goings.{aside-unused, aside-waiting, data-above, fields-fit, free-unused, freed-aside, in-use, left-free}
use Rattle.k_map_plans.proofs.Sizes.{file-fields, file-short}
use Rattle.k_map_plans.proofs.Stagings.{staging-fields}

-- ---- lines

pub both-turns : (m : Move) (t t1 w : Volume) (left linked : List Extent) (rest blocks : List ℕ) (line1 line2 : Inode) (news : List NewChain)
    (v : Volume) (b0 b1 b2 : List Record) → line1 ≡ inode t m.staging → line2 ≡ with_length m.size m.applied (inode t m.ino)
    → t1 ≡ switched m.staging line1 rest left t
    → (IsMapFrom news t m.staging (with_map rest left line1) rest left → Turns t.geometry news v t b0 → Turns t.geometry news v t1 b1)
    → (IsMapFrom news t1 m.ino (with_map blocks linked line2) blocks linked → Turns t1.geometry news v t1 b1 → Turns t1.geometry news v w b2)
    → IsMapFrom news t m.staging (with_map rest left (inode t m.staging)) rest left
    → IsMapFrom news (left_volume m left rest t) m.ino (with_map blocks linked (with_length m.size m.applied (inode t m.ino))) blocks linked
    → Turns t.geometry news v t b0 → Turns t.geometry news v w b2
both-turns m t t1 w left linked rest blocks line1 line2 news v b0 b1 b2 is1 is2 t1_is first second from1 from2 turns =
    let one = first (subst (λ (x : Inode). IsMapFrom news t m.staging (with_map rest left x) rest left) (sym is1) from1) turns in
    let here : t1 ≡ left_volume m left rest t = t1_is ∙ ap (λ (x : Inode). switched m.staging x rest left t) is1 in
    let same : t1.geometry ≡ t.geometry = ap (λ (y : Volume). y.geometry) t1_is in
    let from : IsMapFrom news t1 m.ino (with_map blocks linked line2) blocks linked =
    subst (λ (y : Volume). IsMapFrom news y m.ino (with_map blocks linked line2) blocks linked) (sym here)
    (subst (λ (x : Inode). IsMapFrom news (left_volume m left rest t) m.ino (with_map blocks linked x) blocks linked) (sym is2) from2)
    in
    subst (λ g. Turns g news v w b2) same (second from (subst (λ g. Turns g news v t1 b1) (sym same) one))

-- ---- numbers

-- two inodes have no block in common, and each its own once
pub two-once : (v : Volume) (i j b : ℕ) → IsWhole v → i < length v.inodes → j < length v.inodes → i ≢ j
    → in_map (extents v i) b + in_map (extents v j) b ≤ 1
two-once v i j b whole i_below j_below apart = elim (cases_lt 0 (in_map (extents v i) b)) [
  | inl has ↦ by (own-data v i b whole.kept.kept whole.kept.all i_below (omega arith))
  | inr none ↦ omega (arith, own-once v j b whole.kept.kept whole.kept.all j_below)
]
  where
    by : is_data_block v.geometry b ≡ true → in_map (extents v i) b + in_map (extents v j) b ≤ 1
    by in_data =
        let once = whole.kept.kept.once b in_data in
        let first = length-uses_by i (chain v i) (extents v i) b in
        let second = length-uses_by j (chain v j) (extents v j) b in
        elim (cases_lt i j) [
          | inl before ↦ omega (arith, once, first, second, two-le-owners v b i j before j_below)
          | inr behind ↦ omega (arith, once, first, second, two-le-owners v b j i (omega (arith, behind, apart)) i_below)
        ]

staging-file : (v : Volume) (m : Move) → MayMove m v → m.ino ≢ m.staging
staging-file v m may same =
    let one : (inode v m.ino).kind ≡ File = may.file.file in
    let two : (inode v m.ino).kind ≡ Staging = ap (λ i. (inode v i).kind) same ∙ may.staging.kind in
    let never : File ≡ Staging = sym one ∙ two in
    absurd (cc)

module _ (v : Volume) (m : Move) (left linked displaced : List Extent) (moved : List ℕ) (whole : IsWhole v) (may : MayMove m v)
    (source : IsCanonical (extents v m.staging)) (target : IsCanonical (extents v m.ino))
    (moves : Moves m.staging_block m.file_block m.count (extents v m.staging) (extents v m.ino) left linked displaced)
    (at : AreAt (extents v m.staging) m.staging_block moved) (size : length moved ≡ m.count) where
  -- the staging file lies below file block 64
  pub source-below : AreBelow 64 (extents v m.staging)
  source-below k d within =
      let is = whole.kept.kept.in_data m.staging (omega (arith, may.staging.below, whole.kept.all.inode_count)) k d within in
      subst (λ kind. (get_or (extents v m.staging) k d).file + (get_or (extents v m.staging) k d).count ≤ file_blocks_of kind) may.staging.kind is.0

  pub left-below : AreBelow 64 left
  left-below = part-below (λ b. not (is_within m.staging_block m.count b)) (extents v m.staging) left 64 moves.source source-below

  pub source-end : m.staging_block + m.count ≤ 4096
  source-end =
      let some = may.some in
      let last = at.each (m.count - 1) (omega (arith, size, some)) in
      omega (arith, some, mapped-below (extents v m.staging) 64 (m.staging_block + (m.count - 1)) (block_at moved (m.count - 1)) source-below last)

  left-blocks : (b : ℕ) → in_map left b + in_chain moved b ≡ in_map (extents v m.staging) b
  left-blocks b = in_map-left m.staging_block m.count (extents v m.staging) left moved b source moves.source at size source-end

  linked-blocks : (b : ℕ) → in_map linked b + in_map displaced b ≡ in_map (extents v m.ino) b + in_chain moved b
  linked-blocks b =
      in_map-linked m.staging_block m.file_block m.count (extents v m.staging) (extents v m.ino) left linked displaced moved b target moves at size may.place

  both-once : (b : ℕ) → in_map (extents v m.ino) b + in_map (extents v m.staging) b ≤ 1
  both-once b = two-once v m.ino m.staging b whole may.file.below may.staging.below (staging-file v m may)

  linked-room : chains_for (length linked) + 3 ≤ reserve v.geometry
  linked-room =
      map-bound v linked moves.canonical (λ b. omega (arith, linked-blocks b, left-blocks b, both-once b)) (λ b has.
      elim (cases_lt 0 (in_map (extents v m.ino) b)) [
        | inl own ↦ own-data v m.ino b whole.kept.kept whole.kept.all may.file.below (omega arith)
        | inr none ↦
            own-data v m.staging b whole.kept.kept whole.kept.all may.staging.below (omega (arith, has, none, linked-blocks b, left-blocks b))
      ])

  -- what it wants, where so many blocks are not free
  pub move-few : (free : ℕ) → free < chains_for (length linked) + chains_for (length left)
      → ((n : ℕ) × WantsToMove m v n × (free < n)) × (free + 2 < reserve v.geometry)
  move-few free few = (
    (chains_for (length linked) + chains_for (length left), (left, linked, displaced, moves, refl), few),
    omega (arith, few, linked-room, length-below left 64 moves.source.canonical left-below),
  )

  -- the blocks that were set aside are those of the two chains
  module _ (t u : TablesView) (n r : ℕ) (taken blocks rest gone freed : List ℕ) (is : t.volume ≡ v) (idle : t.aside ≡ [])
      (aside : IsSetAside (n + r) taken t u) (n_is : n ≡ chains_for (length linked)) (r_is : r ≡ chains_for (length left))
      (blocks_size : length blocks ≡ n) (rest_size : length rest ≡ r) (parts : taken ≡ blocks ++ rest)
      (goes : (b : ℕ) → in_chain gone b ≡ in_chain (chain v m.staging) b + in_chain moved b + in_chain blocks b)
      (frees : (b : ℕ) → in_chain freed b ≡ in_chain (chain v m.staging) b + in_chain (chain v m.ino) b + in_map displaced b) where
    aside-now : (b : ℕ) → in_chain u.aside b ≡ in_chain blocks b + in_chain rest b
    aside-now b =
        ap (λ (y : TablesView). in_chain y.aside b) aside.after
        ∙ (λ i. in_chain (idle i ++ parts i) b)
        ∙ in_chain-append blocks rest b

    taken-unused : (b : ℕ) → 1 ≤ in_chain blocks b + in_chain rest b → is_unused v b ≡ true
    taken-unused b has =
        subst (λ (y : Volume). is_unused y b ≡ true) is
        (aside-unused t u (n + r) taken aside b (omega (arith, has, in_chain-append blocks rest b, ap (λ bs. in_chain bs b) parts)))

    above : (bs : List ℕ) → ((b : ℕ) → in_chain bs b ≤ in_chain blocks b + in_chain rest b) → All (λ b. 1 ≤ b) bs
    above bs within k d below =
        let b : ℕ = get_or bs k d in
        let has : 1 ≤ in_chain bs b = in_chain-at bs k b below (sym (get_or_default_zero bs k d below)) in
        data-above v b (unused-data v b (taken-unused b (omega (arith, has, within b))))

    stands : StandsWith v u.aside
    stands = record {
      kept = whole.kept.kept;
      lines = whole.kept.all;
      maps = whole.maps;
      chains = whole.chains;
      unused = λ b has. taken-unused b (omega (arith, has, aside-now b));
    }

    staging-line : Inode
    staging-line = inode v m.staging

    first : MaySwitch v u.aside m.staging staging-line rest left gone
    unfolding staging-line
    first = record {
      below = may.staging.below;
      kind = refl;
      fields = fields-fit staging-line rest left (inr may.staging.kind)
          (staging-fields staging-line staging-line may.staging.kind (whole.inodes m.staging) may.staging.kind refl refl) (rest_size ∙ r_is) (above rest (λ b. omega arith));
      short = subst (λ kind. All (λ (e : Extent). e.file + e.count ≤ file_blocks_of kind) left) (sym may.staging.kind) left-below;
      once = λ b. omega (arith, aside-now b, in_chain-append blocks rest b, ap (λ bs. in_chain bs b) parts, rising-once taken b aside.lowest.rising);
      same = λ b. omega (arith, goes b, aside-now b, left-blocks b);
    }

    v2 : Volume
    v2 = left_volume m left rest v

    line : Inode
    line = with_length m.size m.applied (inode v m.ino)

    second : MaySwitch v2 gone m.ino line blocks linked freed
    unfolding v2 line staging-line
    second =
        let x = with_map rest left (inode v m.staging) in
        let own_chain : chain v2 m.ino ≡ chain v m.ino = chain-set_other m.staging x rest left v m.ino (staging-file v m may) in
        let own_map : extents v2 m.ino ≡ extents v m.ino = extents-set_other m.staging x rest left v m.ino (staging-file v m may) in
        let own_line : inode v2 m.ino ≡ inode v m.ino = inode-set_other m.staging x rest left v m.ino (staging-file v m may) in
        record {
          below = omega (arith, may.file.below, length-set v.inodes m.staging x);
          kind = sym (ap (λ (y : Inode). y.kind) own_line);
          fields = fields-fit line blocks linked (inl may.file.file)
              (file-fields line may.file.file may.size may.applied) (blocks_size ∙ n_is) (above blocks (λ b. omega arith));
          short = file-short line linked may.file.file moves.canonical;
          once = wait-once v u.aside m.staging (inode v m.staging) rest left gone stands moves.source.canonical first;
          same = λ b.
              omega (
                arith,
                frees b,
                goes b,
                linked-blocks b,
                ap (λ bs. in_chain bs b) own_chain,
                ap (λ es. in_map es b) own_map,
              );
        }

    pub both-may : MayGoBoth m u left rest gone linked blocks freed
    unfolding v2 line staging-line
    both-may =
        let same : u.volume ≡ v = ap (λ (y : TablesView). y.volume) aside.after ∙ is in
        record {
          staging = subst (λ (y : Volume). MaySwitch y u.aside m.staging (inode y m.staging) rest left gone) (sym same) first;
          file = subst (λ (y : Volume). MaySwitch (left_volume m left rest y) gone m.ino (with_length m.size m.applied (inode y m.ino)) blocks linked freed) (sym same) second;
          file_below = omega (arith, may.file.below, ap (λ (y : Volume). length y.inodes) same);
        }

-- ---- what came free

module _ (t u w : TablesView) (m : Move) (n : ℕ) (left linked : List Extent) (blocks rest : List ℕ) (aside : IsSetAside n (blocks ++ rest) t u)
    (whole : IsWhole t.volume) (may : MayMove m t.volume) (is : w.volume ≡ moved_volume m left rest linked blocks t.volume) where
  inodes-same : length w.volume.inodes ≡ length t.volume.inodes
  inodes-same =
      ap (λ (y : Volume). length y.inodes) is
      ∙ length-set (left_volume m left rest t.volume).inodes m.ino (with_map blocks linked (with_length m.size m.applied (inode t.volume m.ino)))
      ∙ length-set t.volume.inodes m.staging (with_map rest left (inode t.volume m.staging))

  file-chain : chain w.volume m.ino ≡ blocks
  file-chain =
      ap (λ (y : Volume). chain y m.ino) is
      ∙ chain-set_same m.ino (with_map blocks linked (with_length m.size m.applied (inode t.volume m.ino))) blocks linked (left_volume m left rest t.volume)
      (omega (arith, may.file.below, whole.maps.chain_count, length-set t.volume.chains m.staging rest))

  staging-chain : chain w.volume m.staging ≡ rest
  staging-chain =
      ap (λ (y : Volume). chain y m.staging) is
      ∙ chain-set_other m.ino (with_map blocks linked (with_length m.size m.applied (inode t.volume m.ino))) blocks linked (left_volume m left rest t.volume)
      m.staging (λ same. staging-file t.volume m may (sym same))
      ∙ chain-set_same m.staging (with_map rest left (inode t.volume m.staging)) rest left t.volume (omega (arith, may.staging.below, whole.maps.chain_count))

  now-used : (b : ℕ) → is_among (blocks ++ rest) b ≡ true → is_unused w.volume b ≡ false
  now-used b among = elim (cases_lt 0 (in_chain blocks b)) [
    | inl file ↦
        in-use w.volume m.ino b (omega (arith, may.file.below, inodes-same)) (omega (arith, file, ap (λ ks. in_chain ks b) file-chain))
    | inr other ↦
        in-use w.volume m.staging b (omega (arith, may.staging.below, inodes-same))
        (omega (
          arith,
          other,
          among-counted (blocks ++ rest) b among,
          in_chain-append blocks rest b,
          ap (λ ks. in_chain ks b) staging-chain,
        ))
  ]

  pub moved-aside : t.aside ≡ [] → AreKeptBack t → AreKeptBack w → w.waiting ≡ u.waiting
      → ((b : ℕ) → is_free_block w b ≡ is_free_block u b) → SetsFreedAside t w
  moved-aside idle old new same free =
      freed-aside t w (blocks ++ rest) idle old new (same ∙ aside-waiting t u n (blocks ++ rest) aside)
      (λ b. free b ∙ left-free t u n (blocks ++ rest) aside b) now-used

-- the same with equal maps and chains
pub go-both-as : (m : Move) (u : TablesView) (left left1 : List Extent) (rest rest1 gone : List ℕ) (linked linked1 : List Extent)
    (blocks blocks1 freed : List ℕ) → left1 ≡ left → rest1 ≡ rest → linked1 ≡ linked → blocks1 ≡ blocks
    → MayGoBoth m u left rest gone linked blocks freed → MayGoBoth m u left1 rest1 gone linked1 blocks1 freed
go-both-as m u left left1 rest rest1 gone linked linked1 blocks blocks1 freed left_is rest_is linked_is blocks_is may =
    subst (λ x. MayGoBoth m u x rest1 gone linked1 blocks1 freed) (sym left_is)
    (subst (λ x. MayGoBoth m u left x gone linked1 blocks1 freed) (sym rest_is)
    (subst (λ x. MayGoBoth m u left rest gone x blocks1 freed) (sym linked_is)
    (subst (λ x. MayGoBoth m u left rest gone linked x freed) (sym blocks_is) may)))

-- ---- a plan with two new maps

pub distinct-left : (xs ys : List ℕ) → AreDistinct (xs ++ ys) → AreDistinct xs
distinct-left xs ys distinct j k before below same =
    distinct j k before (omega (arith, below, length-append xs ys))
    (get_or_append_left xs ys 0 j (omega arith) ∙ same ∙ sym (get_or_append_left xs ys 0 k below))

pub distinct-right : (xs ys : List ℕ) → AreDistinct (xs ++ ys) → AreDistinct ys
distinct-right xs ys distinct j k before below same =
    distinct (length xs + j) (length xs + k) (omega arith) (omega (arith, below, length-append xs ys)) (right j ∙ same ∙ sym (right k))
  where
    right : (i : ℕ) → block_at (xs ++ ys) (length xs + i) ≡ block_at ys i
    right i = get_or-append_right xs ys (length xs) (length xs + i) 0 refl (omega arith) ∙ ap (block_at ys) (omega arith)

pub distinct-apart : (xs ys : List ℕ) → AreDistinct (xs ++ ys) → AreApart xs ys
distinct-apart xs ys distinct j k below within same =
    distinct j (length xs + k) (omega arith) (omega (arith, within, length-append xs ys))
    (get_or_append_left xs ys 0 j below ∙ same ∙ sym (get_or-append_right xs ys (length xs) (length xs + k) 0 refl (omega arith) ∙ ap (block_at ys) (omega arith)))

pub plan-two : (t : TablesView) (w : Volume) (b : List Record) (file staging : NewChain) (n : ℕ) (taken : List ℕ) → IsCanonical file.extents
    → IsCanonical staging.extents → AreLowest (is_free_block t) n taken → taken ≡ file.blocks ++ staging.blocks
    → length file.blocks ≡ chains_for (length file.extents) → length staging.blocks ≡ chains_for (length staging.extents)
    → Turns t.volume.geometry (file ∷ staging ∷ []) t.volume w b → w.geometry ≡ t.volume.geometry → 0 < length b → length b ≤ 5 → IsWhole w
    → IsMapPlan (file ∷ staging ∷ []) t.volume w b
plan-two t w b file staging n taken file_map staging_map lowest parts file_size staging_size turns geometry some most whole = record {
  turns = turns;
  geometry = geometry;
  some = some;
  most = most;
  unused = subst (All (λ k. is_unused t.volume k ≡ true)) all (λ k d below. free-unused t (get_or taken k d) (lowest.were_free k d below));
  distinct = λ k below. elim (cases_lt k 1) [
    | inl below_one ↦
        let here : 0 ≡ k = omega arith in
        subst (λ i. AreDistinct (new_at (file ∷ staging ∷ []) i).blocks) here (distinct-left file.blocks staging.blocks distinct)
    | inr later ↦
        let here : 1 ≡ k = omega arith in
        subst (λ i. AreDistinct (new_at (file ∷ staging ∷ []) i).blocks) here (distinct-right file.blocks staging.blocks distinct)
  ];
  apart = λ j k before below.
      let first : 0 ≡ j = omega arith in
      let second : 1 ≡ k = omega arith in
      subst (λ i. AreApart (new_at (file ∷ staging ∷ []) i).blocks (new_at (file ∷ staging ∷ []) k).blocks) first
      (subst (λ i. AreApart file.blocks (new_at (file ∷ staging ∷ []) i).blocks) second (distinct-apart file.blocks staging.blocks distinct));
  counts = λ k below. elim (cases_lt k 1) [
    | inl below_one ↦
        let here : 0 ≡ k = omega arith in
        subst (λ i. length (new_at (file ∷ staging ∷ []) i).blocks ≡ chains_for (length (new_at (file ∷ staging ∷ []) i).extents)) here file_size
    | inr later ↦
        let here : 1 ≡ k = omega arith in
        subst (λ i. length (new_at (file ∷ staging ∷ []) i).blocks ≡ chains_for (length (new_at (file ∷ staging ∷ []) i).extents)) here staging_size
  ];
  steps = omega (arith, file_size, staging_size, length-le file.extents file_map, length-le staging.extents staging_map);
  whole = whole;
}
  where
    distinct : AreDistinct (file.blocks ++ staging.blocks)
    distinct = subst AreDistinct parts (rising-distinct taken lowest.rising)

    all : taken ≡ blocks_of (file ∷ staging ∷ [])
    all = parts ∙ ap (λ bs. file.blocks ++ bs) (sym (append-nil staging.blocks))

-- ---- where the blocks are taken from

-- a block that is mapped has a number
mapped-at : (o : Option ℕ) → IsSome o → (n : ℕ) × (o ≡ Some n)
mapped-at (Some n) is = (n, refl)
mapped-at None is = absurd (both_ways false refl is)

pub no_hole : (o : Option ℕ) → IsSome o → o ≡ None → ⊥
no_hole (Some n) is none = absurd (cc)
no_hole None is none = both_ways false refl is

-- the blocks that a move asks for end by file block 64
pub source-fits : (v : Volume) (m : Move) → IsWhole v → MayMove m v → m.staging_block + m.count ≤ 4096
source-fits v m whole may =
    let some = may.some in
    let last = mapped-at (disk_at (extents v m.staging) (m.staging_block + (m.count - 1)))
    (may.there (m.staging_block + (m.count - 1)) (omega arith) (omega (arith, some)))
    in
    let below : AreBelow 64 (extents v m.staging) =
    λ k d within.
    let is = whole.kept.kept.in_data m.staging (omega (arith, may.staging.below, whole.kept.all.inode_count)) k d within in
    subst (λ kind. (get_or (extents v m.staging) k d).file + (get_or (extents v m.staging) k d).count ≤ file_blocks_of kind) may.staging.kind is.0
    in
    omega (arith, some, mapped-below (extents v m.staging) 64 (m.staging_block + (m.count - 1)) last.0 below last.1)
