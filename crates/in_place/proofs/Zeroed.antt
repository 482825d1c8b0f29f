-- A staged block is zeroed in flight, done and cut off.
use Rattle.std.specs.Prelude.{◌≡◌, ◌≤◌, ◌<◌, ◌+◌, ◌*◌, ◌-◌, ◌/◌, ◌%◌, ◌==◌, ◌&&◌, ℕ, Bool, true, false, List, [], ◌∷◌, ◌++◌, length, map, Option, Some, None, IsSome, option_map, refl}
use Rattle.std.proofs.Common.{arith, ap, ◌∙◌, sym, subst}
use Rattle.std.proofs.lemmas.Bool.{and_parts}
use Rattle.std.proofs.lemmas.Bool.Decides.{Decides-eqb, nat_tests}
use Rattle.live_step_laws.specs.world_image_laws.Settings.{setting_run}
use Rattle.live_step_laws.specs.fsync_relink.pm_model.declared.Cell.{Cell}
use Rattle.live_step_laws.specs.fsync_relink.pm_model.Cells.{cell, is_lent, is_single}
use Rattle.live_step_laws.specs.fsync_relink.pm_model.ImageLaws.{IsImage-words_of}
use Rattle.live_step_laws.specs.fsync_relink.pm_model.Images.{ComesFrom, IsImage, words_of}
use Rattle.live_step_laws.specs.fsync_relink.pm_model.Words.{Words}
use Rattle.write_plan.specs.live_model.data_route.declared.reads.Source.TheVariants.{Staged}
use Rattle.write_plan.specs.live_model.data_route.Reads.{source_by, source_of}
use Rattle.live_step_laws.specs.fsync_relink.extent_model.Extents.{disk_at, is_within}
use Rattle.live_step_laws.specs.fsync_relink.layout_model.declared.lines.Draft.{Draft}
use Rattle.live_step_laws.specs.fsync_relink.layout_model.Entries.{is_draft}
use Rattle.live_step_laws.specs.fsync_relink.layout_model.Journal.{is_journal_word, IsSound, journaled}
use Rattle.live_step_laws.specs.fsync_relink.layout_model.PlaceLaws.{behind_log-words}
use Rattle.live_step_laws.specs.fsync_relink.layout_model.Places.{Geometry, is_data_block, is_journaled_line, log_block, log_line}
use Rattle.live_step_laws.specs.image_model.Content.{entry_of_block, size_of}
use Rattle.live_step_laws.specs.image_model.Volume.{extents, Volume}
use Rattle.write_plan.specs.file_overlay.Runs.{place_in}
use Rattle.write_plan.specs.live_model.file_reads.Reads.{block_of}
use Rattle.write_plan.specs.live_model.file_table.Files.{runs_in, size_in}
use Rattle.write_plan.specs.live_model.Flying.{IsFlying}
use Rattle.write_plan.proofs.live_model_proofs.Readable.{flies_readable}
use Rattle.live_step_laws.specs.k_split_model.Stands.{Stands}
use Rattle.live_step_laws.specs.k_split_model.View.{View}
use Rattle.live_step_laws.specs.fsync_relink.k_split.Bytes.{IsWrittenOver, Overwrites, tail_zeros}
use Rattle.live_step_laws.specs.fsync_relink.k_split.Loans.{MayLend}
use Rattle.live_step_laws.specs.fsync_relink.k_split.Order.{IsInOrder}
use Rattle.live_step_laws.specs.fsync_relink.list_laws.Filters.{filter-In}
use Rattle.live_step_laws.specs.fsync_relink.list_laws.Members.{In}
use Rattle.write_plan.proofs.live_model_proofs.OverlaysOverlays.{source_is_log}
use Rattle.write_plan.specs.live_model.Overlays.{run_of}
use Rattle.live_step_laws.specs.fsync_relink.posix_tables.Open.{Tables}
use Rattle.live_step_laws.specs.posix_spec.Run.{run}
use Rattle.live_step_laws.specs.posix_spec.State.{State}
use Rattle.write_plan.specs.live_model.staging_files.Keeps.{Agrees}
use Rattle.live_step_laws.specs.volume_laws.LineWords.{data_word, data_word-not_journaled}
use Rattle.live_step_laws.specs.world_write_laws.PlaceSteps.{staging_below}
use Rattle.live_step_laws.specs.world_model.Latest.{latest-In}
use Rattle.live_step_laws.specs.world_model.Lent.{in_data}
use Rattle.live_step_laws.specs.world_model.Jobs.{Job, live_claims}
use Rattle.live_step_laws.specs.world_step_laws.Worlds.{IsWorld}
use Rattle.live_step_laws.specs.world_image_laws.Changed.{ShowsLog-same, sound_headed}
use Rattle.live_step_laws.specs.world_image_laws.Images.{HasLogHome, IsHeaded, ShowsWorld}
use Rattle.live_step_laws.specs.world_image_laws.Back.{jobs_in_log}
use Rattle.live_step_laws.specs.world_image_laws.Flights.{image_of, kept_leading, leads_before, shows_back, shows_in_log, small_lap}
use Rattle.live_step_laws.specs.world_image_laws.InLog.{put_in_log, slots_in_log}
use Rattle.write_plan.specs.live_model.Standing.{file_state, Kept, LinesStand, StandsAt}
use Rattle.live_step_laws.proofs.Words.{headed_changed, same_log}
use Rattle.in_place.specs.ZerosLaws.{KeepsZeroed, StandsToPlace, StandsToZero, StandsZeroed}
use Rattle.in_place.specs.Zeros.{IsStagedAt, MayZero, staged_place}
use Rattle.in_place.proofs.Places.{in_data_tail, old_or_new, same_but, tail_blocks}
use Rattle.in_place.proofs.ZerosReading.{place_of, SameBut, world_but}

-- what K-Split is, with other cells
abbrev with_cells : View → List Cell → View
with_cells k cells = record k { cells = cells }

-- ---- the device behind it, wherever bytes are zeroed that the World does not read

module _ (g : Geometry) (k : View) (cells : List Cell) (t : Tables) (kept : Kept) (lines : Bool) (n : ℕ) (s : State) (stands : StandsAt g k t kept lines n s) (x p : ℕ) (below : x < length k.volume.inodes)
    (over_u : Overwrites k.committed k.volume x p (tail_zeros k.volume x p) k.cells cells)
    (goes : (f h : Words) → SameBut k.volume x (p / 4096) (p % 4096) f h → IsWorld k.volume kept.claims stands.jobs f stands.numbers s stands.count → IsWorld k.volume kept.claims stands.jobs h stands.numbers s stands.count) where
  abbrev v : Volume
  v = k.volume

  over : Overwrites v v x p (tail_zeros v x p) k.cells cells
  over = subst (λ u. Overwrites u v x p (tail_zeros v x p) k.cells cells) (stands.order.settled stands.unbatched) over_u

  -- where an image comes from
  pub source : (image : Words) → IsImage cells image → (before : Words) × ComesFrom k.cells image before × IsWrittenOver v v x p (tail_zeros v x p) before image
  source image is = over.each_image image is

  world_at : (before : Words) → IsImage k.cells before → IsWorld v kept.claims stands.jobs (journaled before) stands.numbers s stands.count
  world_at before is = stands.flying.device.world before is

  sound_at : (before : Words) → IsImage k.cells before → IsSound v.geometry before
  sound_at before is = sound_headed v.geometry before (stands.flying.device.headed before is)

  pub headed : (image : Words) → IsImage cells image → IsHeaded v.geometry image
  headed image is =
      let from_one = source image is in
      let sane = (world_at from_one.0 from_one.1.is_image).valid.stands.sane in
      headed_changed v.geometry (tail_blocks (disk_at (extents v x) (p / 4096))) v v from_one.0 image (in_data_tail v sane x p below) (old_or_new v sane x p below from_one.0 image from_one.2)
      (stands.flying.device.headed from_one.0 from_one.1.is_image) refl (stands.flying.device.stands.reads from_one.0 from_one.1.is_image).base

  pub world : (image : Words) → IsImage cells image → IsWorld v kept.claims stands.jobs (journaled image) stands.numbers s stands.count
  world image is =
      let from_one = source image is in
      let was = world_at from_one.0 from_one.1.is_image in
      goes (journaled from_one.0) (journaled image)
      (same_but v was.valid.stands.sane x p below from_one.0 image (sound_at from_one.0 from_one.1.is_image) from_one.2) was

  log_home : HasLogHome v k.cells kept.claims → HasLogHome v cells kept.claims
  log_home home image is =
      let from_one = source image is in
      let sane = (world_at from_one.0 from_one.1.is_image).valid.stands.sane in
      ShowsLog-same v v kept.claims (journaled from_one.0) (journaled image) refl refl
      (same_log v.geometry (tail_blocks (disk_at (extents v x) (p / 4096))) v v from_one.0 image (in_data_tail v sane x p below) (old_or_new v sane x p below from_one.0 image from_one.2) (sound_at from_one.0 from_one.1.is_image))
      (home from_one.0 from_one.1.is_image)

  lines_on : (b : Bool) → LinesStand b v k.cells kept → LinesStand b v cells kept
  lines_on true lent_is = record { lent = λ slot j slot_below j_below. over.lent (8 * log_line v.geometry slot + j) ∙ lent_is.lent slot j slot_below j_below; old = lent_is.old }
  lines_on false home_is = (home_is.0, log_home home_is.1)

  module _ (order : IsInOrder (with_cells k cells)) (singles : (i : ℕ) → is_single (cell k.cells i) ≡ true → is_single (cell cells i) ≡ true) where
    stands_device : Stands v.geometry v cells
    stands_device = subst (λ u. Stands u.geometry u cells) (order.settled stands.unbatched) order.stands

    flying : IsFlying v cells kept.claims stands.jobs (file_state kept.files) stands.numbers s stands.count
    flying = record {
      device = record { stands = stands_device; headed = headed; world = world; room = stands.flying.device.room };
      whole = stands.flying.whole;
      out = λ j is i b y within at word. over.lent y ∙ stands.flying.out j is i b y within at word;
      home = λ i lent. stands.flying.home i (sym (over.lent i) ∙ lent);
      overlays = stands.flying.overlays;
    }

    agrees : Agrees kept.staging (with_cells k cells)
    agrees = record {
      free = λ y b is free.
          let was = stands.agrees.free y b is free in
          record { disk = was.disk; at = was.at; home = λ i word. over.lent i ∙ was.home i word };
      empty = stands.agrees.empty;
    }

    pub now_zeroed : (now : StandsAt g (with_cells k cells) t kept lines n s) × (now.jobs ≡ stands.jobs) × (now.numbers ≡ stands.numbers)
    now_zeroed = (
      record {
        count = stands.count;
        few = stands.few;
        numbers = stands.numbers;
        jobs = stands.jobs;
        jobs_are = stands.jobs_are;
        order = order;
        unbatched = stands.unbatched;
        on = stands.on;
        geometry = stands.geometry;
        flying = flying;
        lines = lines_on lines stands.lines;
        quiet = λ i journal line not_lent. singles i (stands.quiet i journal line (sym (over.lent i) ∙ not_lent));
        blocks = stands.blocks;
        callers = stands.callers;
        spare = stands.spare;
        tables = stands.tables;
        open_are_files = stands.open_are_files;
        ordered = stands.ordered;
        sizes = stands.sizes;
        bare = stands.bare;
        staged = stands.staged;
        agrees = agrees;
        free_single = λ y b is free disk i at word. singles i (stands.free_single y b is free disk i at word);
        drafts = stands.drafts;
        low = stands.low;
        claims_out = stands.claims_out;
        jobs_out = stands.jobs_out;
        owed = stands.owed;
      },
      refl,
      refl,
    )

-- ---- the entry that has the block

-- Where a staged run has the block, an entry has it.
pub record HasEntry (k : View) (kept : Kept) (ino block staging place : ℕ) : Type 0 where
  pub e : Draft
  pub there : In e (live_claims k.volume kept.claims)
  pub ino_is : e.ino ≡ ino
  pub covers : is_within e.file_block e.count block ≡ true
  pub staging_is : e.staging ≡ staging
  pub place_is : place_of e block ≡ place

place_in_block : (block from : ℕ) → (staged_place block from / 4096 ≡ block) × (staged_place block from % 4096 ≡ from % 4096)
place_in_block block from = (omega arith, omega arith)

within_from : (first count i : ℕ) → is_within first count i ≡ true → (first ≤ i) × (i - first < count)
within_from first count i is = (grind (arith, nat_tests, is), grind (arith, nat_tests, is))

draft_staging : (d : Draft) → is_draft d ≡ true → (1 ≤ d.staging) × (d.staging ≤ 4)
draft_staging d is = (grind (arith, nat_tests), grind (arith, nat_tests))

module _ (g : Geometry) (k : View) (t : Tables) (kept : Kept) (lines : Bool) (n : ℕ) (s : State) (ino from staging block : ℕ) (stands : StandsAt g k t kept lines n s) (staged : IsStagedAt k kept ino from staging block) where
  world_now : IsWorld k.volume kept.claims stands.jobs (journaled (words_of k.cells)) stands.numbers s stands.count
  world_now = stands.flying.device.world (words_of k.cells) (IsImage-words_of k.cells)

  source_is : source_of (runs_in kept.files ino) (extents k.volume ino) (from / 4096) ≡ Staged staging block
  source_is = ap (λ o. source_by o (disk_at (extents k.volume ino) (from / 4096))) staged.at

  entry_of : (o : Option Draft) (disk : Option ℕ) → source_by (option_map (place_in (from / 4096)) (option_map run_of o)) disk ≡ Staged staging block
      → (e : Draft) × (o ≡ Some e) × (e.staging ≡ staging) × (place_of e (from / 4096) ≡ block)
  entry_of None None is = cc
  entry_of None (Some b) is = cc
  entry_of (Some e) disk is = (e, refl, cc, cc)

  pub entry : HasEntry k kept ino (from / 4096) staging block
  entry =
      let live = live_claims k.volume kept.claims in
      let log_is = source_is_log k.volume live ino (size_in kept.files ino) (runs_in kept.files ino) (from / 4096) world_now.valid.stands.log (stands.flying.overlays ino staged.file) in
      let found = entry_of (entry_of_block live ino (from / 4096)) (disk_at (extents k.volume ino) (from / 4096)) (sym log_is ∙ source_is) in
      let chosen = filter-In (λ (z : Draft). (z.ino == ino) && is_within z.file_block z.count (from / 4096)) live found.0 (latest-In _ found.0 found.1) in
      let tests = and_parts (found.0.ino == ino) (is_within found.0.file_block found.0.count (from / 4096)) chosen.1 in
      record {
        e = found.0;
        there = chosen.0;
        ino_is = (Decides-eqb found.0.ino ino).0 tests.0;
        covers = tests.1;
        staging_is = found.2;
        place_is = found.3;
      }

  pub staging_there : staging < length k.volume.inodes
  staging_there = subst (λ m. m < length k.volume.inodes) entry.staging_is (staging_below k.volume entry.e.staging (world_now.valid.stands.log.staging entry.e entry.there))

  ends : size_in kept.files ino ≤ from → size_of k.volume (live_claims k.volume kept.claims) entry.e.ino ≤ from
  ends behind =
      subst (λ m. size_of k.volume (live_claims k.volume kept.claims) m ≤ from) (sym entry.ino_is)
      (let size = stands.sizes.files ino staged.file in omega (arith, size, behind))

  -- behind the end the World reads none of the bytes
  pub goes_on : MayZero k kept stands.jobs ino from staging block → (f h : Words) → SameBut k.volume staging (staged_place block from / 4096) (staged_place block from % 4096) f h
      → IsWorld k.volume kept.claims stands.jobs f stands.numbers s stands.count → IsWorld k.volume kept.claims stands.jobs h stands.numbers s stands.count
  goes_on may f h same world_is =
      let at = place_in_block block from in
      world_but k.volume kept.claims stands.jobs f h stands.numbers s stands.count entry.e from entry.there entry.covers (ends may.behind)
      (λ j is own. may.others j is (own ∙ entry.ino_is))
      (record {
        each = λ y m b i y_below leads within first. same.each y m b i y_below leads within (λ own there.
            let low = first (own ∙ sym entry.staging_is) (there ∙ (at.0 ∙ sym entry.place_is)) in
            omega (arith, low, at.1));
      })
      world_is

  -- it has a disk block, which is at home
  lends : (o : Option ℕ) → disk_at (extents k.volume staging) block ≡ o → IsSome o → (b : ℕ) × MayLend k.volume k.cells staging block b
  lends None is some = cc
  lends (Some b) is some = (
    b,
    record {
      least = subst (λ m. 1 ≤ m) entry.staging_is in_range.0;
      most = subst (λ m. m ≤ 4) entry.staging_is in_range.1;
      at = is;
      single = λ i word. stands.quiet i (not_journal i word) (not_line i word) (home i word);
    },
  ) where
    in_range : (1 ≤ entry.e.staging) × (entry.e.staging ≤ 4)
    in_range = draft_staging entry.e (stands.drafts entry.e entry.there).fields

    data_is : is_data_block k.volume.geometry b ≡ true
    data_is = in_data k.volume world_now.valid.stands.sane staging block b staging_there is

    behind : (i : ℕ) → i / 512 ≡ b → 512 * log_block k.volume.geometry ≤ i
    behind i word = let from_data = data_word k.volume.geometry b (i % 512) data_is (omega arith) in omega (arith, from_data, word)

    not_journal : (i : ℕ) → i / 512 ≡ b → is_journal_word i ≡ false
    not_journal i word = behind_log-words k.volume.geometry i (behind i word)

    not_line : (i : ℕ) → i / 512 ≡ b → is_journaled_line g (i / 8) ≡ false
    not_line i word =
        let same : 512 * b + i % 512 ≡ i = omega (arith, word) in
        subst (λ y. is_journaled_line y (i / 8) ≡ false) stands.geometry
        (subst (λ m. is_journaled_line k.volume.geometry (m / 8) ≡ false) same (data_word-not_journaled k.volume.geometry b (i % 512) data_is (omega arith)))

    home : (i : ℕ) → i / 512 ≡ b → is_lent (cell k.cells i) ≡ false
    home i word = ((flies_readable k.volume k.cells kept.claims stands.jobs (file_state kept.files) stands.numbers s stands.count ino stands.flying staged.file (from / 4096)).readable b (ap (block_of k.volume) source_is ∙ is)).home i word

pub stands_to_place : StandsToPlace
stands_to_place g k t kept lines n s ino from staging block stands staged =
    let has = entry g k t kept lines n s ino from staging block stands staged in
    let low = within_from has.e.file_block has.e.count (from / 4096) has.covers in
    lends g k t kept lines n s ino from staging block stands staged (disk_at (extents k.volume staging) block) refl
    (subst (λ m. IsSome (disk_at (extents k.volume m) block)) has.staging_is
    (subst (λ m. IsSome (disk_at (extents k.volume has.e.staging) m)) has.place_is
    ((world_now g k t kept lines n s ino from staging block stands staged).valid.stands.log.staged has.e has.there (from / 4096 - has.e.file_block) low.1)))

staged_of : (k : View) (kept : Kept) (jobs : List Job) (ino from staging block : ℕ) → MayZero k kept jobs ino from staging block → IsStagedAt k kept ino from staging block
staged_of k kept jobs ino from staging block may = record { file = may.file; at = may.at }

pub stands_to_zero : StandsToZero
stands_to_zero g k t kept lines n s ino from staging block stands may = stands_to_place g k t kept lines n s ino from staging block stands (staged_of k kept stands.jobs ino from staging block may)

-- ---- done

pub stands_zeroed : StandsZeroed
stands_zeroed g k l t kept lines n s ino from staging block stands may done =
    subst (λ y. (now : StandsAt g y t kept lines n s) × (now.jobs ≡ stands.jobs) × (now.numbers ≡ stands.numbers)) (sym done.same)
    (now_zeroed g k l.cells t kept lines n s stands staging (staged_place block from) (staging_there g k t kept lines n s ino from staging block stands (staged_of k kept stands.jobs ino from staging block may)) done.over
    (goes_on g k t kept lines n s ino from staging block stands (staged_of k kept stands.jobs ino from staging block may) may) (subst IsInOrder done.same done.order) done.singles)

-- ---- cut off

pub keeps_zeroed : KeepsZeroed
keeps_zeroed g k l t kept lines n start history c ino from staging block stands may cut mode back slots image put =
    kept_leading k.volume kept.claims stands.jobs slots stands.numbers (run start history) stands.count image start history c mode (λ strict. stands.flying.whole ((setting_run start history).mode ∙ strict)) (leads_before start history c stands.jobs) shows
  where
    is_image : IsImage l.cells image
    is_image = image_of l.cells back image put.image_is

    below : staging < length k.volume.inodes
    below = staging_there g k t kept lines n (run start history) ino from staging block stands (staged_of k kept stands.jobs ino from staging block may)

    goes : (f h : Words) → SameBut k.volume staging (staged_place block from / 4096) (staged_place block from % 4096) f h
        → IsWorld k.volume kept.claims stands.jobs f stands.numbers (run start history) stands.count → IsWorld k.volume kept.claims stands.jobs h stands.numbers (run start history) stands.count
    goes = goes_on g k t kept lines n (run start history) ino from staging block stands (staged_of k kept stands.jobs ino from staging block may) may

    from_one : (before : Words) × ComesFrom k.cells image before × IsWrittenOver k.volume k.volume staging (staged_place block from) (tail_zeros k.volume staging (staged_place block from)) before image
    from_one = source g k l.cells t kept lines n (run start history) stands staging (staged_place block from) below cut.over goes image is_image

    headed_is : IsHeaded k.volume.geometry image
    headed_is = headed g k l.cells t kept lines n (run start history) stands staging (staged_place block from) below cut.over goes image is_image

    shows : ShowsWorld k.volume kept.claims (jobs_in_log slots stands.jobs) stands.numbers (run start history) stands.count image
    shows =
        shows_in_log k.volume kept.claims stands.jobs slots stands.numbers (run start history) stands.count image headed_is from_one.2.reads
        (world g k l.cells t kept lines n (run start history) stands staging (staged_place block from) below cut.over goes image is_image) stands.flying.device.room
        (shows_back k.volume l.cells kept.claims (jobs_in_log slots stands.jobs) back kept.first (slots_in_log slots stands.jobs) image headed_is
        (small_lap k.volume k.cells kept.claims stands.jobs stands.numbers (run start history) stands.count from_one.0 stands.flying.device from_one.1.is_image)
        (put_in_log k.volume l.cells back kept.first kept.claims stands.jobs slots image put))
