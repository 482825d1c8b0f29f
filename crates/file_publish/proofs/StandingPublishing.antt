-- What is staged of a file may be published.
use Rattle.std.specs.Prelude.{◌≡◌, ◌≢◌, ◌≤◌, ◌<◌, ◌+◌, ◌-◌, ◌*◌, ◌/◌, ◌%◌, ◌^◌, ◌==◌, ◌&&◌, ℕ, Bool, true, false, List, [], ◌∷◌, filter, length, map, Some, IsSome, slice_index_or, refl}
use Rattle.std.proofs.Common.{arith, ap, ◌∙◌, sym, subst, inl, inr}
use Rattle.std.proofs.lemmas.Bool.Decides.{Decides-eqb, nat_tests}
use Rattle.log_checkpoint.specs.pm_model.Cells.{cell, is_lent, is_single}
use Rattle.log_checkpoint.specs.pm_model.ImageLaws.{IsImage-words_of}
use Rattle.log_checkpoint.specs.pm_model.Images.{words_of}
use Rattle.log_checkpoint.specs.layout_model.Journal.{journaled}
use Rattle.log_checkpoint.specs.layout_model.PlaceLaws.{behind_log-words}
use Rattle.log_checkpoint.specs.layout_model.Places.{Geometry, is_data_block, is_journaled_line, log_line}
use Rattle.log_checkpoint.specs.layout_model.declared.lines.Draft.{Draft}
use Rattle.log_checkpoint.specs.layout_model.block_counts.declared.TheConstants.{LONGEST_FILE}
use Rattle.log_checkpoint.specs.image_model.Rules.{file_blocks_of}
use Rattle.log_checkpoint.specs.image_model.Volume.{extents, inode, Volume}
use Rattle.log_checkpoint.specs.extent_model.Covers.{covers-disk_at}
use Rattle.log_checkpoint.specs.extent_model.Extents.{disk_at, is_within}
use Rattle.log_checkpoint.specs.file_overlay.Laws.{IsEarlier}
use Rattle.log_checkpoint.specs.file_table.Files.{runs_in, size_in}
use Rattle.log_checkpoint.specs.fsync_relink.Publishes.{IsStagedRun, MayPublish, ShareNone}
use Rattle.log_checkpoint.specs.k_map_plans.Plans.{IsLiveFile, IsStagingFile}
use Rattle.log_checkpoint.proofs.k_plans_proofs.FreeCounts.{unwaiting-counted}
use Rattle.log_checkpoint.specs.k_split_model.View.{View}
use Rattle.log_checkpoint.specs.list_laws.Filters.{filter-In}
use Rattle.log_checkpoint.specs.list_laws.Members.{In}
use Rattle.live_step_laws.specs.live_model.Overlays.{run_of}
use Rattle.log_checkpoint.specs.posix_tables.Open.{Tables}
use Rattle.log_checkpoint.specs.posix_spec.State.{State}
use Rattle.log_checkpoint.proofs.staging_files_proofs.GiveUpLaws.{staging-file}
use Rattle.log_checkpoint.specs.volume_laws.LineWords.{data_word, data_word-not_journaled}
use Rattle.log_checkpoint.specs.volume_laws.OwnerLaws.{IsOnePlace, one_owner}
use Rattle.log_checkpoint.specs.volume_laws.PoolLaws.{covered-in_data}
use Rattle.log_checkpoint.specs.world_model.Lent.{once_named}
use Rattle.log_checkpoint.specs.world_model.Jobs.{IsStagedIn, Job, JobsStand, JobStands, live_claims}
use Rattle.log_checkpoint.specs.world_model.Stands.{Consecutive, entries_of}
use Rattle.log_checkpoint.specs.world_step_laws.Worlds.{IsWorld}
use Rattle.live_step_laws.specs.live_model.Standing.{Kept, StandsAt}
use Rattle.file_publish.specs.StandingLaws.{StandsToPublish}
use Rattle.file_publish.proofs.Entries.{bounds, each_mapped, mapped_length, order_at, order_of, at_In, pairs_mapped}

-- a data block lies behind the log lines
data_behind_log : (g : Geometry) (b j slot : ℕ) → is_data_block g b ≡ true → j < 512 → slot < g.log → (512 * b + j) / 8 ≡ log_line g slot → ⊥
data_behind_log g b j slot in_data word below e = grind (arith, nat_tests)

within_bounds : (first count b : ℕ) → is_within first count b ≡ true → (first ≤ b) × (b < first + count)
within_bounds first count b is = (grind (arith, nat_tests), grind (arith, nat_tests))

within_from : (first count b : ℕ) → first ≤ b → b < first + count → is_within first count b ≡ true
within_from first count b low high = grind (arith, nat_tests)

both : (a b : Bool) → (a && b) ≡ true → (a ≡ true) × (b ≡ true)
both true b is = (refl, is)
both false b is = cc

not_both : (a b : Bool) → (a ≡ true → b ≡ true → ⊥) → (a && b) ≡ false
not_both true true never = absurd (never refl refl)
not_both true false never = refl
not_both false b never = refl

pub fewer : (xs : List Draft) (p : Draft → Bool) → length (filter p xs) ≤ length xs
fewer [] p = omega arith
fewer (x ∷ xs) p = by (p x) refl (fewer xs p) where
  by : (c : Bool) → p x ≡ c → length (filter p xs) ≤ length xs → length (filter p (x ∷ xs)) ≤ length (x ∷ xs)
  by true is rest = rw is (omega (arith, rest))
  by false is rest = rw is (omega (arith, rest))

module _ (g : Geometry) (k : View) (t : Tables) (kept : Kept) (lines : Bool) (n : ℕ) (s : State) (stands : StandsAt g k t kept lines n s) where
  abbrev v : Volume
  v = k.volume

  abbrev pub live : List Draft
  live = live_claims v kept.claims

  world : IsWorld v kept.claims stands.jobs (journaled (words_of k.cells)) stands.numbers s stands.count
  world = stands.flying.device.world (words_of k.cells) (IsImage-words_of k.cells)

  staging_of : (d : Draft) → In d live → IsStagingFile d.staging v
  staging_of d is =
      let b = bounds d (stands.drafts d is).fields in
      staging-file v d.staging stands.order.whole (record { least = b.staging_least; most = b.staging_most })

  -- blocks of maps are data blocks, each named once
  in_data : (ino block b : ℕ) → ino < length v.inodes → disk_at (extents v ino) block ≡ Some b → is_data_block v.geometry b ≡ true
  in_data ino block b below at =
      let sane = world.valid.stands.sane in
      covered-in_data v.geometry (file_blocks_of (inode v ino).kind) (extents v ino) b (sane.kept.in_data ino (omega (arith, below, sane.inode_count))) (covers-disk_at (extents v ino) block b at)

  -- a job that is out has other blocks
  job_stands : (jobs : List Job) (j : Job) → JobsStand v live (journaled (words_of k.cells)) stands.numbers s jobs → In j jobs → JobStands v live (journaled (words_of k.cells)) stands.numbers s j
  job_stands [] j out is = absurd is
  job_stands (i ∷ jobs) j out (inl same) = subst (JobStands v live (journaled (words_of k.cells)) stands.numbers s) same out.0
  job_stands (i ∷ jobs) j out (inr behind) = job_stands jobs j out.2 behind

  other_block : (d : Draft) (j : Job) (b disk : ℕ) → In d live → In j stands.jobs → is_within d.staging_block d.count b ≡ true → disk_at (extents v d.staging) b ≡ Some disk → IsStagedIn v j.draft disk → ⊥
  other_block d j b disk is out within at (m, m_below, m_at) =
      let job = job_stands stands.jobs j world.valid.out out in
      let own = staging_of d is in
      let place = within_bounds d.staging_block d.count b within in
      let one : IsOnePlace d.staging j.draft.staging b (j.draft.staging_block + m) =
      one_owner v disk d.staging j.draft.staging b (j.draft.staging_block + m) (once_named v world.valid.stands.sane d.staging b disk own.below at) own.below (staging_below j.draft job) at m_at
      in
      elim (job.apart d is one.inode) [
        | inl before ↦ omega (arith, one.place, before, place.0, place.1, m_below)
        | inr behind ↦ omega (arith, one.place, behind, place.0, place.1, m_below)
      ]
    where
      staging_below : (e : Draft) → JobStands v live (journaled (words_of k.cells)) stands.numbers s j → j.draft.staging < length v.inodes
      staging_below e job =
          let b = bounds j.draft job.draft in
          (staging-file v j.draft.staging stands.order.whole (record { least = b.staging_least; most = b.staging_most })).below

  -- no word of a live entry's blocks is lent, so it has one candidate
  at_home : (d : Draft) → In d live → (b i : ℕ) → is_within d.staging_block d.count b ≡ true → disk_at (extents v d.staging) b ≡ Some (i / 512) → (c : Bool) → is_lent (cell k.cells i) ≡ c → is_lent (cell k.cells i) ≡ false
  at_home d is b i within at false lent = lent
  at_home d is b i within at true lent = elim (stands.flying.home i lent) [
    | inl line ↦
        let there = in_data d.staging b (i / 512) (staging_of d is).below at in
        let same : 512 * (i / 512) + i % 512 ≡ i = omega arith in
        absurd (data_behind_log v.geometry (i / 512) (i % 512) line.0 there (omega arith) line.1 (ap (λ m. m / 8) same ∙ line.2))
    | inr job ↦ absurd (other_block d job.0 b (i / 512) is job.1 within at job.2)
  ]

  single : (d : Draft) → In d live → (b i : ℕ) → is_within d.staging_block d.count b ≡ true → disk_at (extents v d.staging) b ≡ Some (i / 512) → is_single (cell k.cells i) ≡ true
  single d is b i within at =
      let there = in_data d.staging b (i / 512) (staging_of d is).below at in
      let same : 512 * (i / 512) + i % 512 ≡ i = omega arith in
      let behind = data_word v.geometry (i / 512) (i % 512) there (omega arith) in
      let no_line : is_journaled_line v.geometry (i / 8) ≡ false = ap (λ m. is_journaled_line v.geometry (m / 8)) (sym same) ∙ data_word-not_journaled v.geometry (i / 512) (i % 512) there (omega arith) in
      stands.quiet i (behind_log-words v.geometry i (omega (arith, behind, same))) (subst (λ (x : Geometry). is_journaled_line x (i / 8) ≡ false) stands.geometry no_line) (at_home d is b i within at (is_lent (cell k.cells i)) refl)

  -- entries share no block
  pub share_none : (d e : Draft) → In d live → In e live → d ≢ e → ShareNone (run_of d) (run_of e)
  share_none d e d_is e_is other x b has = not_both (e.staging == x) (is_within e.staging_block e.count b) (λ staging within.
      let d_has = both (d.staging == x) (is_within d.staging_block d.count b) has in
      let d_at = within_bounds d.staging_block d.count b d_has.1 in
      let e_at = within_bounds e.staging_block e.count b within in
      let same : d.staging ≡ e.staging = (Decides-eqb d.staging x).0 d_has.0 ∙ sym ((Decides-eqb e.staging x).0 staging) in
      elim (world.valid.stands.log.apart d e d_is e_is) [
        | inl one ↦ absurd (other one)
        | inr apart ↦ elim (apart same) [ inl before ↦ omega (arith, before, d_at.1, e_at.0) | inr behind ↦ omega (arith, behind, d_at.0, e_at.1) ]
      ])

  module _ (ino : ℕ) (few : n ≤ 2 ^ 62) (file : IsLiveFile ino v) (small : size_in kept.files ino ≤ LONGEST_FILE) where
    abbrev own : List Draft
    own = entries_of ino live

    own_live : (d : Draft) → In d own → In d live
    own_live d is = (filter-In (λ (x : Draft). x.ino == ino) live d is).0

    on : Consecutive (inode v ino).applied own
    on = world.valid.stands.log.orders ino

    staged : (d : Draft) → In d own → IsStagedRun k (run_of d)
    staged d is =
        let there = own_live d is in
        let b = bounds d (stands.drafts d there).fields in
        record {
          staging = staging_of d there;
          some = b.some;
          place = b.place;
          there = λ block low high. (
              let k_is : d.staging_block + (block - d.staging_block) ≡ block = omega (arith, low) in
              subst (λ m. IsSome (disk_at (extents v d.staging) m)) k_is (world.valid.stands.log.staged d there (block - d.staging_block) (omega (arith, low, high))));
          single = single d there;
        }

    low_order : (d : Draft) → In d own → ((inode v ino).applied < d.order) × (d.order ≤ 2 ^ 63)
    low_order d is =
        let order = order_of (inode v ino).applied own d on is in
        let low = stands.low ino in
        (order.0, omega (arith, order.1, low, few))

    own_publish : MayPublish ino (size_in kept.files ino) (map run_of own) k
    own_publish = record {
      file = file;
      size_fits = small;
      staged = each_mapped (IsStagedRun k) run_of own staged;
      apart = pairs_mapped ShareNone run_of own (λ i j d before below.
          let first = order_at (inode v ino).applied own i d on (omega (arith, before, below)) in
          let second = order_at (inode v ino).applied own j d on below in
          share_none (slice_index_or own i d) (slice_index_or own j d) (own_live _ (at_In own i d (omega (arith, before, below)))) (own_live _ (at_In own j d below)) (λ same. (let orders : (slice_index_or own i d).order ≡ (slice_index_or own j d).order = ap (λ (y : Draft). y.order) same in omega (arith, first, second, orders, before))));
      rising = pairs_mapped IsEarlier run_of own (λ i j d before below.
          let first = order_at (inode v ino).applied own i d on (omega (arith, before, below)) in
          let second = order_at (inode v ino).applied own j d on below in
          omega (arith, first, second, before));
      orders = each_mapped (λ run. ((inode v ino).applied < run.order) × (run.order ≤ 2 ^ 63)) run_of own low_order;
      room =
          let free = stands.flying.device.room.free in
          let counted = unwaiting-counted (record { volume = k.volume; aside = []; waiting = k.waiting }) refl (stands.order.none_waits stands.unbatched) in
          omega (arith, free, counted, mapped_length run_of own, fewer live (λ d. d.ino == ino));
    }

    pub may_publish : MayPublish ino (size_in kept.files ino) (runs_in kept.files ino) k
    may_publish = subst (λ runs. MayPublish ino (size_in kept.files ino) runs k) (sym (stands.flying.overlays ino file.file).runs_are) own_publish

pub stands_to_publish : StandsToPublish
stands_to_publish g k t kept lines n s ino stands few file small = may_publish g k t kept lines n s stands ino few file small
