-- The proofs.
use Rattle.std.specs.Prelude.{◌≡◌, ◌≢◌, ◌⊎◌, ◌<◌, ◌≤◌, ◌+◌, ◌==◌, ℕ, zero, suc, Bool, true, false, cond, All, List, [], ◌∷◌, length, map, filter, count_by, sum_by, refl}
use Rattle.std.specs.List.{range_with_len}
use Rattle.std.proofs.Common.{arith, ap, ◌∙◌, length-append, sym, subst, inl, inr}
use Rattle.std.proofs.lemmas.Bool.{cases_eq, eq-eqb, ne_eqb}
use Rattle.std.proofs.lemmas.List.{length-set}
use Rattle.world_step_laws.specs.world_model.layout_model.Places.{data_blocks, first_data, is_data_block, reserve}
use Rattle.world_step_laws.specs.world_model.extent_model.Extents.{block_count}
use Rattle.world_step_laws.specs.world_model.layout_model.declared.lines.Draft.{Draft}
use Rattle.world_step_laws.specs.world_model.image_model.Live.{is_live}
use Rattle.world_step_laws.specs.world_model.image_model.Room.{has_none, unused_blocks}
use Rattle.world_step_laws.specs.world_model.image_model.Rules.{file_blocks_of}
use Rattle.world_step_laws.specs.world_model.image_model.Uses.{owners}
use Rattle.world_step_laws.specs.world_model.image_model.Volume.{chain, inode, Volume}
use Rattle.world_step_laws.specs.k_split_model.ChangesChanges.{dropped, gone_node}
use Rattle.world_step_laws.specs.world_model.volume_laws.Changes.{chain-set_other, chain-set_same}
use Rattle.world_step_laws.specs.world_model.volume_laws.Lists.{count_by-agree, sum_by-but_one}
use Rattle.world_step_laws.specs.world_model.volume_laws.PoolLaws.{AreInData, held-set, unused-held}
use Rattle.world_step_laws.specs.world_model.volume_laws.Uses.{blocks_held, blocks_of}
use Rattle.world_step_laws.specs.world_model.Jobs.{live_claims}
use Rattle.world_step_laws.specs.world_model.Stands.{IsSane}
use Rattle.world_step_laws.specs.world_model.JobLaws.{live_claims-more}
use Rattle.world_write_laws.specs.RoomLaws.{FindsEach, FindsItsBlocks, FreesAsMany, FreesDropped, LeavesForTheNext, LivesNoMore, StaysFree, StaysFreeBegun, StaysFreeFinished, StaysFreeGivenUp, StaysFreeRelinked, TakesOneAtMost}

pub stays_free : StaysFree
stays_free v w claims jobs free geometry unused live =
    subst (λ g. length (live_claims w claims) + length jobs + reserve g ≤ unused_blocks w + 3) (sym geometry) (omega (arith, free, unused, live))

pub frees_as_many : FreesAsMany
frees_as_many v w geometry same =
    ap (λ g. count_by (λ b. has_none (owners w b)) (range_with_len (first_data g) (data_blocks g))) geometry
    ∙ count_by-agree (λ b. has_none (owners w b)) (λ b. has_none (owners v b)) (first_data v.geometry) (data_blocks v.geometry) (λ b low below. ap has_none (same b))

fewer : (p q : Draft → Bool) (xs : List Draft) → ((d : Draft) → p d ≡ true → q d ≡ true) → length (filter p xs) ≤ length (filter q xs)
fewer p q [] weaker = omega arith
fewer p q (x ∷ xs) weaker = by (p x) (q x) (weaker x) (fewer p q xs weaker) where
  by : (a b : Bool) → (a ≡ true → b ≡ true) → length (filter p xs) ≤ length (filter q xs) → length (cond a (x ∷ filter p xs) (filter p xs)) ≤ length (cond b (x ∷ filter q xs) (filter q xs))
  by true true w rest = omega (arith, rest)
  by false true w rest = omega (arith, rest)
  by false false w rest = rest
  by true false w rest = let never : false ≡ true = w refl in cc

pub lives_no_more : LivesNoMore
lives_no_more v w claims was = fewer (is_live w) (is_live v) (map (λ (c : ℕ × Draft). c.1) claims) was

pub stays_free_begun : StaysFreeBegun
stays_free_begun v claims jobs j free = omega (arith, free, length-append jobs (j ∷ []))

pub stays_free_finished : StaysFreeFinished
stays_free_finished v claims a j b slot free alive =
    omega (arith, free, ap length (live_claims-more v claims slot j.draft alive), length-append (live_claims v claims) (j.draft ∷ []), length-append a (j ∷ b), length-append a b)

pub stays_free_given_up : StaysFreeGivenUp
stays_free_given_up v claims a j b free = omega (arith, free, length-append a (j ∷ b), length-append a b)

pub finds_its_blocks : FindsItsBlocks
finds_its_blocks v claims jobs d rest free live = omega (arith, free, ap length live)

pub stays_free_relinked : StaysFreeRelinked
stays_free_relinked v w claims jobs free geometry unused live =
    subst (λ g. length (live_claims w claims) + length jobs + reserve g ≤ unused_blocks w + 3) (sym geometry) (omega (arith, free, unused, live))

free_at : (free : ℕ → ℕ) (steps wanted : ℕ) → ((k : ℕ) → k < steps → free k ≤ free (k + 1) + 1) → (k : ℕ) → k ≤ steps → free 0 ≤ free k + k
free_at free steps wanted each zero within = omega arith
free_at free steps wanted each (suc k) within =
    let before = free_at free steps wanted each k (omega (arith, within)) in
    let step = each k (omega (arith, within)) in
    let same : free (k + 1) ≡ free (suc k) = ap free (more k) in
    omega (arith, before, step, same)
  where
    more : (n : ℕ) → n + 1 ≡ suc n
    more n = omega arith

pub finds_each : FindsEach
finds_each free steps wanted each enough k below = omega (arith, free_at free steps wanted each k (omega (arith, below)), enough, below)

-- ---- what the volumes hold

in_data : (v : Volume) → IsSane v → ((ino : ℕ) → ino < length v.inodes → All (λ b. is_data_block v.geometry b ≡ true) (chain v ino)) → AreInData v (λ ino. file_blocks_of (inode v ino).kind)
in_data v sane chains = record { chains = chains; files = λ ino below. sane.kept.in_data ino (subst (λ n. ino < n) sane.inode_count below) }

counted : (v : Volume) → IsSane v → ((ino : ℕ) → ino < length v.inodes → All (λ b. is_data_block v.geometry b ≡ true) (chain v ino)) → unused_blocks v + blocks_held v ≡ data_blocks v.geometry
counted v sane chains = unused-held v (λ ino. file_blocks_of (inode v ino).kind) (in_data v sane chains) (λ b is. sane.kept.once b is)

pub frees_dropped : FreesDropped
frees_dropped v ino sane after below chains =
    let w : Volume = dropped ino v in
    let held = held-set v ino (gone_node (inode v ino)) [] [] below (record { chain_count = sane.chain_count ∙ sym sane.inode_count; map_count = sane.map_count ∙ sym sane.inode_count }) in
    omega (arith, counted v sane chains, counted w after (λ i low. still i (cases_eq i ino) (subst (λ n. i < n) (length-set v.inodes ino (gone_node (inode v ino))) low)), held)
  where
    still : (i : ℕ) → (i ≡ ino) ⊎ (i ≢ ino) → i < length v.inodes → All (λ b. is_data_block v.geometry b ≡ true) (chain (dropped ino v) i)
    still i (inl same) low =
        subst (All (λ b. is_data_block v.geometry b ≡ true))
        (sym (ap (λ k. chain (dropped ino v) k) same ∙ chain-set_same ino (gone_node (inode v ino)) [] [] v (subst (λ n. ino < n) (sym (sane.chain_count ∙ sym sane.inode_count)) below)))
        (λ k d short. absurd (omega (arith, short)))
    still i (inr other) low = subst (All (λ b. is_data_block v.geometry b ≡ true)) (sym (chain-set_other ino (gone_node (inode v ino)) [] [] v i other)) (chains i low)

-- the blocks of all inodes after a relink
half : Volume → Volume → ℕ → ℕ → ℕ
half v w at ino = cond (ino == at) (blocks_of w ino) (blocks_of v ino)

half_own : (v w : Volume) (at : ℕ) → half v w at at ≡ blocks_of w at
unfolding half
half_own v w at = ap (λ b. cond b (blocks_of w at) (blocks_of v at)) (eq-eqb at at refl)

half_other : (v w : Volume) (at ino : ℕ) → ino ≢ at → half v w at ino ≡ blocks_of v ino
unfolding half
half_other v w at ino other = ap (λ b. cond b (blocks_of w ino) (blocks_of v ino)) (ne_eqb ino at other)

pub takes_one_at_most : TakesOneAtMost
takes_one_at_most v w d displaced sane change little file_low staging_low apart =
    let n : ℕ = length v.inodes in
    let many : length w.inodes ≡ n = change.sane.inode_count ∙ (ap (λ g. g.inodes) change.geometry ∙ sym sane.inode_count) in
    let first = sum_by-but_one (half v w d.ino) (blocks_of v) 0 n d.ino (omega arith) (omega (arith, file_low)) (λ k other. half_other v w d.ino k other) in
    let second = sum_by-but_one (blocks_of w) (half v w d.ino) 0 n d.staging (omega arith) (omega (arith, staging_low)) (λ k other. same k other (cases_eq k d.ino)) in
    let own = half_own v w d.ino in
    let beside = half_other v w d.ino d.staging (λ e. apart (sym e)) in
    let all : blocks_held w ≡ sum_by (blocks_of w) (range_with_len 0 n) = ap (λ m. sum_by (blocks_of w) (range_with_len 0 m)) many in
    let before = counted v sane little.before in
    let after = counted w change.sane little.after in
    let space : data_blocks w.geometry ≡ data_blocks v.geometry = ap data_blocks change.geometry in
    let source = change.moves.source_count in
    let target = change.moves.target_count in
    let file = little.file in
    let staging = little.staging in
    omega (arith, first, second, own, beside, all, before, after, space, source, target, file, staging)
  where
    same : (k : ℕ) → k ≢ d.staging → (k ≡ d.ino) ⊎ (k ≢ d.ino) → blocks_of w k ≡ half v w d.ino k
    same k other (inl own) = ap (blocks_of w) own ∙ (sym (half_own v w d.ino) ∙ ap (half v w d.ino) (sym own))
    same k other (inr beside) =
        let chains = little.others k beside other in
        let maps = change.maps k beside other in
        (λ i. length (chains i) + block_count (maps i)) ∙ sym (half_other v w d.ino k beside)

pub leaves_for_the_next : LeavesForTheNext
leaves_for_the_next owed kept free count least enough = omega (arith, least, enough)
