-- A job begins in flight.
use Rattle.std.specs.Prelude.{◌≡◌, ◌≢◌, ◌≤◌, ◌<◌, ◌+◌, ◌*◌, ◌/◌, ◌==◌, ◌&&◌, ℕ, zero, suc, Bool, true, false, Contains, List, [], ◌∷◌, ◌++◌, length, Some, slice_index_or, refl}
use Rattle.std.specs.List.{list_any}
use Rattle.std.proofs.Common.{arith, ap, ◌∙◌, sym, subst, inl, inr}
use Rattle.std.proofs.lemmas.Bool.Decides.{Decides-eqb, nat_tests}
use Rattle.std.proofs.lemmas.List.{length-append}
use Rattle.std.proofs.lemmas.List.Folds.{list_any_at}
use Rattle.std.proofs.lemmas.List.Quantifiers.{all_pairs_push}
use Rattle.live_model.specs.pm_model.declared.Cell.{Cell}
use Rattle.live_model.specs.pm_model.Cells.{cell, is_lent, is_single}
use Rattle.live_model.specs.pm_model.ImageLaws.{IsImage-words_of}
use Rattle.live_model.specs.pm_model.Images.{words_of}
use Rattle.live_model.specs.layout_model.declared.lines.Draft.{Draft}
use Rattle.live_model.specs.layout_model.Entries.{is_draft}
use Rattle.live_model.specs.layout_model.Journal.{journaled}
use Rattle.live_model.specs.layout_model.Places.{Geometry, is_data_block, log_line, reserve}
use Rattle.live_model.specs.image_model.Room.{unused_blocks}
use Rattle.live_model.specs.image_model.Rules.{file_blocks_of}
use Rattle.live_model.specs.image_model.Volume.{extents, inode, Volume}
use Rattle.live_model.specs.extent_model.Covers.{covers-disk_at}
use Rattle.live_model.specs.extent_model.Extents.{disk_at, is_within}
use Rattle.live_model.specs.file_table.Files.{spare_in}
use Rattle.live_model.specs.Flying.{IsFlying}
use Rattle.live_model.proofs.FlightsFlights.{flies_begun}
use Rattle.live_model.specs.write_jobs.Blocks.{GoOut, IsBeside}
use Rattle.live_model.specs.k_split_model.Stands.{Stands}
use Rattle.live_model.specs.k_split_model.View.{View}
use Rattle.live_model.specs.k_split.Order.{IsInOrder}
use Rattle.live_model.specs.list_laws.Members.{In, pushed-In}
use Rattle.live_model.specs.posix_tables.Open.{Tables}
use Rattle.live_model.specs.posix_spec.State.{State}
use Rattle.live_model.specs.staging_files.Keeps.{Agrees, AreFreeSingle, has_block, is_kept_free, IsStaging}
use Rattle.live_model.proofs.staging_files_proofs.GiveUpLaws.{staging-file}
use Rattle.live_model.proofs.staging_files_proofs.StagedLaws.{free-none}
use Rattle.live_model.specs.volume_laws.OwnerLaws.{IsOnePlace, one_owner}
use Rattle.live_model.specs.volume_laws.PoolLaws.{covered-in_data}
use Rattle.live_model.specs.world_model.Lent.{once_named}
use Rattle.live_model.specs.world_model.Jobs.{Job, live_claims}
use Rattle.live_model.specs.world_step_laws.Worlds.{IsWorld}
use Rattle.live_model.specs.Standing.{AreJobsOf, AreLinesLent, AreOfTwoThreads, file_state, HasItsBlocks, Kept, JobOut, reserved_run, StandsAt}
use Rattle.live_step_laws.specs.BeginsLaws.{MayBegin, StandsBegun, with_cells, with_job}

-- a data block lies behind the log lines
data_behind_log : (g : Geometry) (b slot i : ℕ) → is_data_block g b ≡ true → slot < g.log → i / 8 ≡ log_line g slot → i / 512 ≢ b
data_behind_log g b slot i in_data below at same = absurd (grind (arith, nat_tests))

within_from : (first count i : ℕ) → i < count → is_within first count (first + i) ≡ true
within_from first count i below = grind (arith, nat_tests)

line_place : (line j : ℕ) → j < 8 → (8 * line + j) / 8 ≡ line
line_place line j below = omega (arith, below)

pushed_jobs : (pending : List JobOut) (jobs : List Job) (p : JobOut) (j : Job) → AreJobsOf pending jobs → j.who ≡ p.who → j.call ≡ p.call → j.draft ≡ p.draft → AreJobsOf (pending ++ p ∷ []) (jobs ++ j ∷ [])
pushed_jobs [] [] p j are who call draft = (who, call, draft, tt)
pushed_jobs [] (i ∷ jobs) p j are who call draft = absurd are
pushed_jobs (q ∷ pending) [] p j are who call draft = absurd are
pushed_jobs (q ∷ pending) (i ∷ jobs) p j are who call draft = (are.0, are.1, are.2, pushed_jobs pending jobs p j are.3 who call draft)

at_In : {X : Type 0} (xs : List X) (i : ℕ) (d : X) → i < length xs → In (slice_index_or xs i d) xs
at_In [] i d below = absurd (omega (arith, below))
at_In (x ∷ xs) zero d below = inl refl
at_In (x ∷ xs) (suc i) d below = inr (at_In xs i d (omega (arith, below)))

staging_of : (d : Draft) → is_draft d ≡ true → IsStaging d.staging
staging_of d is = record { least = grind (arith, nat_tests); most = grind (arith, nat_tests) }

both_true : (a b : Bool) → a ≡ true → b ≡ true → (a && b) ≡ true
both_true true b first second = second
both_true false b first second = cc

module _ (g : Geometry) (k : View) (cells : List Cell) (t : Tables) (kept : Kept) (n : ℕ) (s : State) (p : JobOut) (j : Job) (stands : StandsAt g k t kept true n s) (may : MayBegin k kept stands.jobs stands.numbers s p j)
    (out : GoOut k.volume p.draft k.cells cells) (order : IsInOrder (with_cells k cells)) where
  abbrev v : Volume
  v = k.volume

  world : IsWorld v kept.claims stands.jobs (journaled (words_of k.cells)) stands.numbers s stands.count
  world = stands.flying.device.world (words_of k.cells) (IsImage-words_of k.cells)

  -- blocks of maps are data blocks
  in_data : (ino block b : ℕ) → ino < length v.inodes → disk_at (extents v ino) block ≡ Some b → is_data_block v.geometry b ≡ true
  in_data ino block b below at =
      let sane = world.valid.stands.sane in
      covered-in_data v.geometry (file_blocks_of (inode v ino).kind) (extents v ino) b (sane.kept.in_data ino (omega (arith, below, sane.inode_count))) (covers-disk_at (extents v ino) block b at)

  -- the entry's staging file
  staging_is : IsStaging p.draft.staging
  staging_is = staging_of p.draft may_fields where
    may_fields : is_draft p.draft ≡ true
    may_fields = subst (λ (d : Draft). is_draft d ≡ true) may.draft_is (may.stands (words_of k.cells) (IsImage-words_of k.cells)).draft

  below_file : (x : ℕ) → IsStaging x → x < length v.inodes
  below_file x is = (staging-file v x stands.order.whole is).below

  -- a word that is not out is the same
  beside_not_lent : (i : ℕ) → is_lent (cell cells i) ≡ false → IsBeside v p.draft i
  beside_not_lent i home m b below at word = let never : true ≡ false = sym (out.out m b i below at word) ∙ home in cc

  -- words of log lines are in no block of the entry
  line_beside : (slot m : ℕ) → slot < v.geometry.log → m < 8 → IsBeside v p.draft (8 * log_line v.geometry slot + m)
  line_beside slot m slot_below m_below a b below at =
      data_behind_log v.geometry b slot (8 * log_line v.geometry slot + m) (in_data p.draft.staging (p.draft.staging_block + a) b (below_file p.draft.staging staging_is) at) slot_below (line_place (log_line v.geometry slot) m m_below)

  -- and so are those of blocks that are kept as free
  has_own : (a : ℕ) → a < p.draft.count → list_any (has_block p.draft.staging (p.draft.staging_block + a)) kept.staging.out ≡ true
  has_own a below =
      let has = may.out in
      list_any_at (has_block p.draft.staging (p.draft.staging_block + a)) kept.staging.out has.0 (reserved_run p.draft) has.1
      (subst (λ r. has_block p.draft.staging (p.draft.staging_block + a) r ≡ true) (sym has.2) (both_true (p.draft.staging == p.draft.staging) (is_within p.draft.staging_block p.draft.count (p.draft.staging_block + a)) ((Decides-eqb p.draft.staging p.draft.staging).1 refl)
      (within_from p.draft.staging_block p.draft.count a below)))

  free_beside : (x b disk i : ℕ) → IsStaging x → is_kept_free kept.staging x b ≡ true → disk_at (extents v x) b ≡ Some disk → i / 512 ≡ disk → IsBeside v p.draft i
  free_beside x b disk i is free at word a c below there same =
      let x_below = below_file x is in
      let one : IsOnePlace x p.draft.staging b (p.draft.staging_block + a) =
      one_owner v disk x p.draft.staging b (p.draft.staging_block + a) (once_named v world.valid.stands.sane x b disk x_below at) x_below (below_file p.draft.staging staging_is) at (there ∙ ap Some (sym same ∙ word))
      in
      let none = free-none kept.staging x b free in
      let never : true ≡ false = sym (has_own a below) ∙ (λ m. list_any (has_block (sym one.inode m) (sym one.place m)) kept.staging.out) ∙ none in
      cc

  lines : AreLinesLent v cells kept.first
  lines = record {
    lent = λ slot m slot_below m_below. ap is_lent (out.beside (8 * log_line v.geometry slot + m) (line_beside slot m slot_below m_below)) ∙ stands.lines.lent slot m slot_below m_below;
    old = stands.lines.old;
  }

  agrees : Agrees kept.staging (with_cells k cells)
  agrees = record {
    free = λ x b is free.
        let was = stands.agrees.free x b is free in
        record { disk = was.disk; at = was.at; home = λ i word. ap is_lent (out.beside i (free_beside x b was.disk i is free was.at word)) ∙ was.home i word };
    empty = stands.agrees.empty;
  }

  free_single : AreFreeSingle kept.staging (with_cells k cells)
  free_single x b is free disk i at word = ap is_single (out.beside i (free_beside x b disk i is free at word)) ∙ stands.free_single x b is free disk i at word

  stands_device : Stands v.geometry v cells
  stands_device = subst (λ u. Stands u.geometry u cells) (order.settled stands.unbatched) order.stands

  room_is : length (live_claims v kept.claims) + length stands.jobs + reserve v.geometry ≤ unused_blocks v + 2
  room_is = let owed = may.owed in let free = may.free in omega (arith, owed, free)

  flying : IsFlying v cells kept.claims (stands.jobs ++ j ∷ []) (file_state kept.files) stands.numbers s stands.count
  flying =
      flies_begun v k.cells cells kept.claims stands.jobs j (file_state kept.files) stands.numbers s stands.count stands.flying may.stands may.apart may.fits room_is may.whole
      (subst (λ d. GoOut v d k.cells cells) (sym may.draft_is) out) stands_device

  count_jobs : length (stands.jobs ++ j ∷ []) ≡ length stands.jobs + 1
  count_jobs = length-append stands.jobs (j ∷ [])

  pub begun : (now : StandsAt g (with_cells k cells) t (with_job kept p) true n s) × (now.jobs ≡ stands.jobs ++ j ∷ []) × (now.numbers ≡ stands.numbers)
  begun = (
    record {
      count = stands.count;
      few = stands.few;
      numbers = stands.numbers;
      jobs = stands.jobs ++ j ∷ [];
      jobs_are = pushed_jobs kept.pending stands.jobs p j stands.jobs_are may.who_is may.call_is may.draft_is;
      order = order;
      unbatched = stands.unbatched;
      on = stands.on;
      geometry = stands.geometry;
      flying = flying;
      lines = lines;
      quiet = λ i journal line home.
          let beside = beside_not_lent i home in
          ap is_single (out.beside i beside) ∙ stands.quiet i journal line (ap is_lent (sym (out.beside i beside)) ∙ home);
      blocks = λ q is. (elim (pushed-In kept.pending p q is) [ inl old ↦ stands.blocks q old | inr new ↦ subst (HasItsBlocks v) new may.blocks ]);
      callers = all_pairs_push AreOfTwoThreads kept.pending p stands.callers (λ m d below. may.caller (slice_index_or kept.pending m d) (at_In kept.pending m d below));
      spare = λ q is. (elim (pushed-In kept.pending p q is) [ inl old ↦ stands.spare q old | inr new ↦ subst (λ (y : JobOut). 3 ≤ spare_in kept.files y.draft.ino) new may.spare ]);
      tables = stands.tables;
      open_are_files = stands.open_are_files;
      ordered = stands.ordered;
      sizes = stands.sizes;
      bare = stands.bare;
      staged = stands.staged;
      agrees = agrees;
      free_single = free_single;
      drafts = stands.drafts;
      low = stands.low;
      claims_out = stands.claims_out;
      jobs_out = λ q is. (elim (pushed-In kept.pending p q is) [ inl old ↦ stands.jobs_out q old | inr new ↦ subst (λ (y : JobOut). Contains kept.staging.out (reserved_run y.draft)) new may.out ]);
      owed = (let owed = may.owed in omega (arith, owed, count_jobs));
    },
    refl,
    refl,
  )

pub stands_begun : StandsBegun
stands_begun g k cells t kept n s p j stands may out order = begun g k cells t kept n s p j stands may out order
