-- The jobs of a World that lost its power, and their blocks.
use Rattle.std.proofs.Common.{◌≡◌, ◌≤◌, ◌<◌, ◌+◌, ◌*◌, ◌/◌, ◌∷◌, [], ℕ, zero, suc, true, List, length, Option, Some, None, refl, arith, ap, ◌∙◌, sym, subst, inl, inr}
use Rattle.std.specs.Prelude.{slice_index}
use Rattle.std.proofs.lemmas.Bool.{both_ways}
use Rattle.std.proofs.lemmas.Bool.Decides.{nat_tests}
use Rattle.std.proofs.lemmas.Option.{same_Some}
use Rattle.oplog_entry.specs.pm_model.declared.Cell.{Cell}
use Rattle.oplog_entry.specs.pm_model.declared.Cell.TheVariants.{Lent, Marked, Single, Two}
use Rattle.oplog_entry.specs.pm_model.Cells.{cell, is_lent, IsCandidate}
use Rattle.oplog_entry.specs.pm_model.Words.{Words}
use Rattle.oplog_entry.specs.layout_model.declared.lines.Draft.{Draft}
use Rattle.oplog_entry.specs.layout_model.declared.lines.Kind.TheVariants.{Staging}
use Rattle.oplog_entry.specs.layout_model.Entries.{is_draft}
use Rattle.oplog_entry.specs.layout_model.Places.{is_data_block}
use Rattle.oplog_entry.specs.image_model.Rules.{AreApart, file_blocks_of}
use Rattle.oplog_entry.specs.image_model.Volume.{extents, inode, Volume}
use Rattle.in_place.specs.k_split_laws.extent_model.Covers.{covers-disk_at}
use Rattle.in_place.specs.live_model.write_jobs.Blocks.{AreOut}
use Rattle.in_place.specs.k_split_laws.list_laws.Members.{In}
use Rattle.in_place.specs.k_split_laws.posix_types.declared.item.Item.{Item}
use Rattle.in_place.specs.k_split_laws.posix_spec.Run.{Unfinished}
use Rattle.in_place.specs.k_split_laws.posix_spec.State.{State}
use Rattle.in_place.specs.k_split_laws.volume_laws.OwnerLaws.{IsOnePlace, one_owner}
use Rattle.in_place.specs.k_split_laws.volume_laws.PoolLaws.{covered-in_data}
use Rattle.in_place.specs.write_plan.eof_laws.log_checkpoint.world_model.Lent.{once_named}
use Rattle.in_place.specs.write_plan.eof_laws.log_checkpoint.world_model.Jobs.{IsStagedIn, Job, JobsStand, JobStands, live_claims, staged_block}
use Rattle.in_place.specs.write_plan.eof_laws.log_checkpoint.world_model.Stands.{IsSane}
use Rattle.in_place.specs.live_model.Standing.{AreJobsOf, HasItsBlocks, Kept, JobOut}
use Rattle.write_end.proofs.LosingPending.{IsJobOf, apart_of, job_of, staging_below, stands_of}
use Rattle.write_end.specs.Blocks.{AreBlocksHome, AreBlocksOut, AreHome}
use Rattle.write_end.specs.Lost.{IsLostJob, IsLostWith}

-- ---- blocks of entries

pub some_blocks : (draft : Draft) → is_draft draft ≡ true → 1 ≤ draft.count
some_blocks draft is = grind (arith, nat_tests)

in_list : (xs : List ℕ) (k : ℕ) → k < length xs → In (slice_index xs k) xs
in_list [] k below = absurd (omega (arith, below))
in_list (x ∷ xs) zero below = inl refl
in_list (x ∷ xs) (suc k) below = inr (in_list xs k (omega (arith, below)))

-- a block of an entry is among those that its job was lent
pub block_of : (v : Volume) (p : JobOut) (b : ℕ) → HasItsBlocks v p → IsStagedIn v p.draft b → In b p.blocks
block_of v p b its staged =
    let same : slice_index p.blocks staged.0 ≡ b = same_Some (slice_index p.blocks staged.0) b (sym (its.each staged.0 staged.1) ∙ staged.2) in
    subst (λ (x : ℕ). In x p.blocks) same (in_list p.blocks staged.0 (omega (arith, staged.1, its.count)))

place_in : (xs : List ℕ) (x : ℕ) → In x xs → (k : ℕ) × (k < length xs) × (slice_index xs k ≡ x)
place_in [] x at = absurd at
place_in (y ∷ xs) x (inl same) = (0, omega arith, same)
place_in (y ∷ xs) x (inr rest) = let its = place_in xs x rest in (suc its.0, omega (arith, its.1), its.2)

-- and the other way round
pub staged_of : (v : Volume) (p : JobOut) (b : ℕ) → HasItsBlocks v p → In b p.blocks → IsStagedIn v p.draft b
staged_of v p b its at =
    let place = place_in p.blocks b at in
    let below : place.0 < p.draft.count = omega (arith, place.1, its.count) in
    (place.0, below, its.each place.0 below ∙ ap (λ x. Some x) place.2)

pub blocks_out : (v : Volume) (p : JobOut) (draft : Draft) (d : List Cell) → HasItsBlocks v p → draft ≡ p.draft → AreOut v draft d → AreBlocksOut p.blocks d
blocks_out v p draft d its same out i at =
    let staged = subst (λ (x : Draft). IsStagedIn v x (i / 512)) (sym same) (staged_of v p (i / 512) its at) in
    out staged.0 (i / 512) i staged.1 staged.2 refl

pub blocks_home : (v : Volume) (p : JobOut) (draft : Draft) (d : List Cell) → HasItsBlocks v p → draft ≡ p.draft → AreHome v draft d → AreBlocksHome p.blocks d
blocks_home v p draft d its same home i at = home i (subst (λ (x : Draft). IsStagedIn v x (i / 512)) (sym same) (staged_of v p (i / 512) its at))

-- the blocks are not out and at home
pub not_both : (v : Volume) (draft : Draft) (d : List Cell) (p : JobOut) → draft ≡ p.draft → is_draft draft ≡ true → HasItsBlocks v p → AreHome v draft d → AreBlocksOut p.blocks d → ⊥
not_both v draft d p same fields its home out =
    let some : 0 < p.draft.count = subst (λ (x : Draft). 0 < x.count) same (some_blocks draft fields) in
    let b : ℕ = slice_index p.blocks 0 in
    let word : 512 * b / 512 ≡ b = omega arith in
    let staged : IsStagedIn v p.draft b = (0, some, its.each 0 some) in
    both_ways (is_lent (cell d (512 * b)))
    (home (512 * b) (subst (λ (x : Draft). IsStagedIn v x (512 * b / 512)) (sym same) (subst (IsStagedIn v p.draft) (sym word) staged)))
    (out (512 * b) (subst (λ (x : ℕ). In x p.blocks) (sym word) (block_of v p b its staged)))

module _ (v : Volume) (sane : IsSane v) where
  pub in_data_block : (draft : Draft) (n b : ℕ) → (inode v draft.staging).kind ≡ Staging → staged_block v draft n ≡ Some b → is_data_block v.geometry b ≡ true
  in_data_block draft n b staging at =
      covered-in_data v.geometry (file_blocks_of (inode v draft.staging).kind) (extents v draft.staging) b
      (sane.kept.in_data draft.staging (omega (arith, staging_below v draft.staging staging, sane.inode_count)))
      (covers-disk_at (extents v draft.staging) (draft.staging_block + n) b at)

  -- two entries that share no staging block share no disk block
  pub none_common : (d e : Draft) (b m n : ℕ) → (inode v d.staging).kind ≡ Staging → (inode v e.staging).kind ≡ Staging → AreApart d e → m < d.count → n < e.count → staged_block v d m ≡ Some b → staged_block v e n ≡ Some b → ⊥
  none_common d e b m n first second apart m_below n_below m_at n_at =
      let below = staging_below v d.staging first in
      let one : IsOnePlace d.staging e.staging (d.staging_block + m) (e.staging_block + n) =
      one_owner v b d.staging e.staging (d.staging_block + m) (e.staging_block + n) (once_named v sane d.staging (d.staging_block + m) b below m_at) below (staging_below v e.staging second) m_at n_at
      in
      elim (apart one.inode) [
        | inl before ↦ omega (arith, one.place, before, m_below, n_below)
        | inr behind ↦ omega (arith, one.place, behind, m_below, n_below)
      ]

-- ---- cells

-- of a lent word any value is a candidate
pub lent_any : (c : Cell) (x : ℕ) → is_lent c ≡ true → IsCandidate c x
lent_any (Single a) x lent = cc
lent_any (Two a b) x lent = cc
lent_any (Marked a b) x lent = cc
lent_any Lent x lent = tt

-- ---- jobs

-- two jobs of one file are one
pub one_job : (v : Volume) (live : List Draft) (f : Words) (numbers : List ℕ) (s : State) (jobs : List Job) (i j : Job) → JobsStand v live f numbers s jobs → In i jobs → In j jobs → i.draft.ino ≡ j.draft.ino → i ≡ j
one_job v live f numbers s [] i j out at_i at_j same = absurd at_i
one_job v live f numbers s (x ∷ jobs) i j out (inl a) (inl b) same = sym a ∙ b
one_job v live f numbers s (x ∷ jobs) i j out (inl a) (inr b) same = absurd ((apart_of x jobs j out.1 b).files (ap (λ (y : Job). y.draft.ino) a ∙ same))
one_job v live f numbers s (x ∷ jobs) i j out (inr a) (inl b) same = absurd ((apart_of x jobs i out.1 a).files (ap (λ (y : Job). y.draft.ino) b ∙ sym same))
one_job v live f numbers s (x ∷ jobs) i j out (inr a) (inr b) same = one_job v live f numbers s jobs i j out.2 a b same

-- the one that is kept as out of a job
pub pending_of : (pending : List JobOut) (jobs : List Job) (j : Job) → AreJobsOf pending jobs → In j jobs → (p : JobOut) × In p pending × (j.draft ≡ p.draft)
pending_of [] [] j are is = absurd is
pending_of [] (x ∷ jobs) j are is = absurd are
pending_of (p ∷ pending) [] j are is = absurd is
pending_of (p ∷ pending) (x ∷ jobs) j are (inl same) = (p, inl refl, ap (λ (y : Job). y.draft) (sym same) ∙ are.2)
pending_of (p ∷ pending) (x ∷ jobs) j are (inr rest) = let its = pending_of pending jobs j are.3 rest in (its.0, inr its.1, its.2)

-- ---- in a World that lost its power

module _ (v : Volume) (d : List Cell) (kept : Kept) (start : State) (history : List Item) (last : List Unfinished) (lost : IsLostWith v d kept start history last) where
  pub sane : IsSane v
  sane = lost.world.valid.stands.sane

  pub stood : (j : Job) → In j lost.jobs → JobStands v (live_claims v lost.done) lost.words lost.numbers lost.s j
  stood j is = stands_of v (live_claims v lost.done) lost.words lost.numbers lost.s lost.jobs j lost.world.valid.out is

  pub same_job : (i j : Job) → In i lost.jobs → In j lost.jobs → i.draft.ino ≡ j.draft.ino → i ≡ j
  same_job i j at_i at_j same = one_job v (live_claims v lost.done) lost.words lost.numbers lost.s lost.jobs i j lost.world.valid.out at_i at_j same

  pub its_job : (p : JobOut) → In p kept.pending → IsJobOf p lost.jobs
  its_job p is = job_of kept.pending lost.jobs p lost.jobs_are is

  -- a job whose blocks are lent claimed no slot
  pub no_slot : (p : JobOut) (j : Job) → In p kept.pending → In j lost.jobs → j.draft ≡ p.draft → AreBlocksOut p.blocks d → lost.slot_of j.draft.ino ≡ None
  no_slot p j there is same out = by (lost.slot_of j.draft.ino) refl where
    by : (o : Option ℕ) → lost.slot_of j.draft.ino ≡ o → o ≡ None
    by None at = refl
    by (Some slot) at =
        let home = subst (IsLostJob v d j) at (lost.each_job j is) in
        absurd (not_both v j.draft d p same (stood j is).draft (lost.blocks p there) home.0 out)
