-- Holes of a file are filled in flight, or the power goes in it.
use Rattle.std.specs.Prelude.{◌≡◌, ◌≢◌, ◌⊎◌, ◌≤◌, ◌<◌, ◌+◌, ◌*◌, ◌/◌, ◌%◌, ◌==◌, ℕ, Bool, true, false, All, List, [], ◌∷◌, ◌++◌, length, map, Some, refl}
use Rattle.std.proofs.Common.{arith, ap, ◌∙◌, sym, subst, inl, inr, length-append}
use Rattle.std.proofs.lemmas.List.{get_or_append_left}
use Rattle.std.proofs.lemmas.Bool.{both_ways, ne_eqb}
use Rattle.fsync_relink.specs.world_write_laws.pm_model.declared.Cell.{Cell}
use Rattle.fsync_relink.specs.world_write_laws.pm_model.Cells.{cell, is_lent}
use Rattle.fsync_relink.specs.world_write_laws.pm_model.ImageLaws.{IsImage-words_of}
use Rattle.fsync_relink.specs.world_write_laws.pm_model.Images.{IsImage, words_of}
use Rattle.fsync_relink.specs.world_write_laws.pm_model.Words.{line_bytes, Words}
use Rattle.fsync_relink.specs.world_write_laws.extent_model.Covers.{covers-disk_at}
use Rattle.fsync_relink.specs.world_write_laws.extent_model.Extents.{covers, disk_at}
use Rattle.fsync_relink.specs.world_write_laws.layout_model.Entries.{held_seq, is_self_valid}
use Rattle.fsync_relink.specs.world_write_laws.layout_model.Journal.{journaled}
use Rattle.fsync_relink.specs.world_write_laws.layout_model.PlaceLaws.{behind_log-not_journaled}
use Rattle.fsync_relink.specs.world_write_laws.layout_model.Places.{data_blocks, Geometry, is_data_block, log_line, reserve}
use Rattle.fsync_relink.specs.world_write_laws.layout_model.declared.lines.Draft.{Draft}
use Rattle.fsync_relink.specs.world_write_laws.layout_model.declared.lines.Kind.TheVariants.{File, Staging}
use Rattle.fsync_relink.specs.world_write_laws.image_model.Content.{size_by}
use Rattle.fsync_relink.specs.world_write_laws.image_model.Live.{latest}
use Rattle.fsync_relink.specs.world_write_laws.image_model.Placed.{block_at}
use Rattle.fsync_relink.specs.world_write_laws.image_model.Reading.{Reads}
use Rattle.fsync_relink.specs.world_write_laws.image_model.Room.{unused_blocks}
use Rattle.fsync_relink.specs.world_write_laws.image_model.Volume.{chain, extents, inode, Volume}
use Rattle.fsync_relink.specs.world_write_laws.volume_laws.Changes.{chain-set_same}
use Rattle.fsync_relink.specs.world_write_laws.volume_laws.ImageLaws.{journaled-other}
use Rattle.fsync_relink.specs.world_write_laws.volume_laws.LineWords.{data_word}
use Rattle.fsync_relink.specs.world_write_laws.k_split_model.Stands.{Stands}
use Rattle.fsync_relink.specs.world_write_laws.k_split_model.Taken.{with_map}
use Rattle.fsync_relink.specs.world_write_laws.k_split_model.View.{View}
use Rattle.fsync_relink.specs.world_write_laws.k_split_model.Zeros.{AreZeros}
use Rattle.fsync_relink.specs.world_write_laws.list_laws.Members.{In}
use Rattle.fsync_relink.specs.world_write_laws.posix_types.declared.item.Item.{Item}
use Rattle.fsync_relink.specs.world_write_laws.posix_tables.Open.{Tables}
use Rattle.fsync_relink.specs.world_write_laws.posix_spec.Run.{run, Unfinished}
use Rattle.fsync_relink.specs.world_write_laws.posix_spec.State.{State}
use Rattle.fsync_relink.specs.world_write_laws.world_model.Jobs.{Job, JobsStand, live_claims, staged_block}
use Rattle.fsync_relink.specs.world_write_laws.world_model.Stands.{entries_of, is_used}
use Rattle.fsync_relink.specs.world_write_laws.world_model.TreeRules.{used_below}
use Rattle.fsync_relink.specs.world_write_laws.world_step_laws.Steps.{AreBeside}
use Rattle.fsync_relink.specs.world_write_laws.world_step_laws.Touched.{only}
use Rattle.fsync_relink.specs.world_write_laws.world_step_laws.Worlds.{IsWorld}
use Rattle.fsync_relink.specs.world_write_laws.HolesLaws.{FillsHoles, KeepsLine}
use Rattle.fsync_relink.specs.world_write_laws.HolesSteps.{filled_holes, filled_line, filled_live, filled_staging}
use Rattle.fsync_relink.proofs.RelinkLaws.{has-chain}
use Rattle.fsync_relink.proofs.WorldLaws.{free-in_data, free-unmapped}
use Rattle.k_split_laws.specs.k_plans.Whole.{IsWhole}
use Rattle.k_split_laws.specs.k_split.Filling.{IsFillAnswer, IsFilledWith}
use Rattle.k_split_laws.specs.k_split.MapChanges.{ChangesMaps, is_free_in, IsMapCut, IsMapDone}
use Rattle.k_split_laws.specs.world_image_laws.Flights.{leads_before}
use Rattle.k_split_laws.specs.world_image_laws.Images.{HasRoom, StandsFor}
use Rattle.k_split_laws.specs.world_image_laws.LentLaws.{SameBlocks}
use Rattle.k_split_laws.specs.world_image_laws.Settings.{setting_run}
use Rattle.live_model.specs.file_table.Files.{runs_in, size_in}
use Rattle.live_model.specs.Flying.{IsOut}
use Rattle.live_model.specs.Losses.{KeepsWhenLost}
use Rattle.live_model.specs.Overlays.{IsOverlayOf, run_of}
use Rattle.live_model.specs.Standing.{HasItsBlocks, JobOut, Kept, LinesStand, StandsAt}
use Rattle.live_model.specs.staging_files.Keeps.{Agrees, IsStaging}
use Rattle.live_model.specs.world_model.HeldLaws.{AreSizes}
use Rattle.live_model.specs.write_jobs.Blocks.{AreOut}
use Rattle.live_model.proofs.staging_files_proofs.GiveUpLaws.{staging-file}
use Rattle.live_step_laws.specs.Changes.{AreSpare, IsChangeWith}
use Rattle.live_step_laws.specs.FillsLaws.{AreOfOthers, FillsAs, KeepsFilledCut, StandsFilled, TakesWhereRead}
use Rattle.live_step_laws.proofs.Devices.{changes_device_read, keeps_log_home_with, promise_read}
use Rattle.live_step_laws.proofs.Filled.{fills_as_asked}
use Rattle.live_step_laws.proofs.Standing.{job_of, job_stands}
use Rattle.live_step_laws.proofs.Words.{behind_journal}

beside_others : (ino : ℕ) (jobs : List Job) → AreOfOthers ino jobs → AreBeside (only ino) jobs
beside_others ino [] others = tt
beside_others ino (j ∷ jobs) others = (ne_eqb j.draft.ino ino (others j (inl refl)), beside_others ino jobs (λ i is. others i (inr is)))

-- ---- what the change makes

module _ (g : Geometry) (k : View) (t : Tables) (kept : Kept) (lines : Bool) (n : ℕ) (s : State) (stands : StandsAt g k t kept lines n s) (ino first count : ℕ) (file : (inode k.volume ino).kind ≡ File) (others : AreOfOthers ino stands.jobs) (fits : first + count ≤ 4096)
    (d : List Cell) (w : Volume) (blocks : List ℕ) (is : IsFilledWith ino first count k d w blocks) (whole : IsWhole w) (changes : ChangesMaps blocks k.committed w k.cells d) (enough : length kept.staging.out + reserve g ≤ unused_blocks w + 3) where
  abbrev v : Volume
  v = k.volume

  as_asked : FillsAs ino first count v w is.fresh
  as_asked = fills_as_asked k ino first count w blocks d is stands.order stands.unbatched file fits whole

  pub fills : FillsHoles v w ino is.fresh
  fills = as_asked.fills

  pub line : (i : ℕ) → KeepsLine (inode v i) (inode w i)
  line = filled_line v w ino is.fresh fills

  pub same_live : live_claims w kept.claims ≡ live_claims v kept.claims
  same_live = filled_live v w ino is.fresh fills kept.claims

  pub staging_map : (i : ℕ) → (inode v i).kind ≡ Staging → extents w i ≡ extents v i
  staging_map = filled_staging v w ino is.fresh fills

  pub base : w.base ≡ v.base
  base = as_asked.base

  world : IsWorld v kept.claims stands.jobs (journaled (words_of k.cells)) stands.numbers s stands.count
  world = stands.flying.device.world (words_of k.cells) (IsImage-words_of k.cells)

  -- the blocks that are written were free
  blocks_are : blocks ≡ is.fresh ++ is.filled.blocks
  blocks_are =
      is.written ∙ ap (λ c. is.fresh ++ c) (ap (λ (x : Volume). chain x ino) is.filled.is_filled
      ∙ chain-set_same ino (with_map is.filled.blocks is.filled.es (inode v ino)) is.filled.blocks is.filled.es v (omega (arith, used_below v ino (ap is_used file), stands.order.whole.maps.chain_count)))

  free : All (λ b. is_free_in k b ≡ true) blocks
  free = subst (All (λ b. is_free_in k b ≡ true)) (sym blocks_are) is.filled.taken.were_free

  pub spare : AreSpare blocks v
  spare = record {
    in_data = λ i below. free-in_data k (block_at blocks i) (free i 0 below);
    apart = λ x block i x_below below at.
        both_ways (covers (extents v x) (block_at blocks i)) (free-unmapped k (block_at blocks i) x stands.order.whole.maps.map_count (free i 0 below))
        (covers-disk_at (extents v x) block (block_at blocks i) at);
  }

  fresh_in_data : (i : ℕ) → i < length is.fresh → is_data_block v.geometry (block_at is.fresh i) ≡ true
  fresh_in_data i below = free-in_data k (block_at is.fresh i) (fresh_free i below) where
    fresh_free : (j : ℕ) → j < length is.fresh → is_free_in k (block_at is.fresh j) ≡ true
    fresh_free j low =
        subst (λ b. is_free_in k b ≡ true) (get_or_append_left is.fresh is.filled.blocks 0 j low)
        (is.filled.taken.were_free j 0 (omega (arith, length-append is.fresh is.filled.blocks, low)))

  pub change : IsChangeWith blocks v w k.cells d
  change =
      let of_v : ChangesMaps blocks v w k.cells d = subst (λ u. ChangesMaps blocks u w k.cells d) (stands.order.settled stands.unbatched) changes in
      record { each_image = of_v.each_image; geometry = fills.geometry; base = base }

  -- the World takes it
  pub takes : TakesWhereRead v w d kept.claims stands.jobs stands.numbers stands.numbers s s stands.count stands.count
  takes image is_image reads valid =
      filled_holes v w kept.claims stands.jobs (journaled image) stands.numbers s stands.count ino is.fresh valid fills zeros (beside_others ino stands.jobs others) where
        zeros : AreZeros is.fresh (journaled image)
        zeros i x below at =
            let sound = (change.each_image image is_image).2.sound in
            let far = data_word v.geometry (block_at is.fresh i) (x % 512) (fresh_in_data i below) (omega arith) in
            let word : x ≡ 512 * block_at is.fresh i + x % 512 = omega (arith, at) in
            journaled-other v.geometry image x sound (behind_journal v.geometry x (omega (arith, far, word))) (behind_log-not_journaled v.geometry (x / 8) (omega (arith, far, word)))
            ∙ is.zeros image is_image reads i x below at

  pub room : HasRoom w kept.claims stands.jobs s
  room = record {
    free =
        let owed = stands.owed in
        let same = ap length same_live in
        let space : reserve w.geometry ≡ reserve g = ap reserve (fills.geometry ∙ stands.geometry) in
        omega (arith, owed, same, space, enough);
    blocks = stands.flying.device.room.blocks ∙ ap data_blocks (sym fills.geometry);
  }

  pub job_staging : (j : Job) → In j stands.jobs → (inode v j.draft.staging).kind ≡ Staging
  job_staging j there = (job_stands v (live_claims v kept.claims) (journaled (words_of k.cells)) stands.numbers s stands.jobs j world.valid.out there).staging

  pub same_block : (e : Draft) → (inode v e.staging).kind ≡ Staging → (i : ℕ) → staged_block w e i ≡ staged_block v e i
  same_block e staging i = ap (λ es. disk_at es (e.staging_block + i)) (staging_map e.staging staging)

  pub same_blocks : SameBlocks v w stands.jobs
  same_blocks = by stands.jobs world.valid.out where
    by : (jobs : List Job) → JobsStand v (live_claims v kept.claims) (journaled (words_of k.cells)) stands.numbers s jobs → SameBlocks v w jobs
    by [] out = tt
    by (j ∷ jobs) out = ((λ i. same_block j.draft out.0.staging i), by jobs out.2)

  lines_same : length v.inodes ≡ length w.inodes
  lines_same = world.valid.stands.sane.inode_count ∙ (ap (λ (y : Geometry). y.inodes) (sym fills.geometry) ∙ sym fills.sane.inode_count)

  pub overlay : (i : ℕ) → (inode w i).kind ≡ File → IsOverlayOf w (live_claims w kept.claims) i (runs_in kept.files i) (size_in kept.files i)
  overlay i is_file =
      let was = stands.flying.overlays i (sym (line i).kind ∙ is_file) in
      record {
        runs_are = was.runs_are ∙ ap (λ ds. map run_of (entries_of i ds)) (sym same_live);
        size_is = was.size_is ∙ (λ j. size_by (latest (entries_of i (sym same_live j))) (sym (line i).size j));
      }

  pub sizes : AreSizes w (live_claims w kept.claims) kept.files.sizes
  sizes = record {
    count = stands.sizes.count ∙ lines_same;
    files = λ i is_file. (overlay i is_file).size_is;
    others = λ i none. stands.sizes.others i (λ was. none ((line i).kind ∙ was));
  }

-- ---- done

module _ (g : Geometry) (k l : View) (t : Tables) (kept : Kept) (lines : Bool) (n : ℕ) (s : State) (stands : StandsAt g k t kept lines n s) (ino first count : ℕ) (file : (inode k.volume ino).kind ≡ File) (others : AreOfOthers ino stands.jobs) (fits : first + count ≤ 4096)
    (blocks : List ℕ) (is : IsFilledWith ino first count k l.cells l.volume blocks) (done : IsMapDone blocks k l) (enough : length kept.staging.out + reserve g ≤ unused_blocks l.volume + 3) where
  abbrev w : Volume
  w = l.volume

  off : l.batched ≡ false
  off = done.batched ∙ stands.unbatched

  fills_is : FillsHoles k.volume w ino is.fresh
  fills_is = fills g k t kept lines n s stands ino first count file others fits l.cells w blocks is done.order.whole done.changes enough

  line_is : (i : ℕ) → KeepsLine (inode k.volume i) (inode w i)
  line_is = line g k t kept lines n s stands ino first count file others fits l.cells w blocks is done.order.whole done.changes enough

  live_is : live_claims w kept.claims ≡ live_claims k.volume kept.claims
  live_is = same_live g k t kept lines n s stands ino first count file others fits l.cells w blocks is done.order.whole done.changes enough

  map_is : (i : ℕ) → (inode k.volume i).kind ≡ Staging → extents w i ≡ extents k.volume i
  map_is = staging_map g k t kept lines n s stands ino first count file others fits l.cells w blocks is done.order.whole done.changes enough

  base_is : w.base ≡ k.volume.base
  base_is = base g k t kept lines n s stands ino first count file others fits l.cells w blocks is done.order.whole done.changes enough

  change_is : IsChangeWith blocks k.volume w k.cells l.cells
  change_is = change g k t kept lines n s stands ino first count file others fits l.cells w blocks is done.order.whole done.changes enough

  spare_is : AreSpare blocks k.volume
  spare_is = spare g k t kept lines n s stands ino first count file others fits l.cells w blocks is done.order.whole done.changes enough

  block_is : (e : Draft) → (inode k.volume e.staging).kind ≡ Staging → (i : ℕ) → staged_block w e i ≡ staged_block k.volume e i
  block_is = same_block g k t kept lines n s stands ino first count file others fits l.cells w blocks is done.order.whole done.changes enough

  staging_is : (j : Job) → In j stands.jobs → (inode k.volume j.draft.staging).kind ≡ Staging
  staging_is = job_staging g k t kept lines n s stands ino first count file others fits l.cells w blocks is done.order.whole done.changes enough

  same_lent : (i : ℕ) → is_lent (cell l.cells i) ≡ is_lent (cell k.cells i)
  same_lent = done.changes.lent

  device_now : StandsFor w l.cells kept.claims stands.jobs stands.numbers s stands.count
  device_now =
      changes_device_read blocks k.volume w k.cells l.cells kept.claims stands.jobs stands.numbers stands.numbers s s stands.count stands.count stands.flying.device change_is spare_is
      (subst (λ u. Stands u.geometry u l.cells) (done.order.settled off) done.order.stands)
      (room g k t kept lines n s stands ino first count file others fits l.cells w blocks is done.order.whole done.changes enough)
      (takes g k t kept lines n s stands ino first count file others fits l.cells w blocks is done.order.whole done.changes enough)

  out : (j : Job) → In j stands.jobs → AreOut w j.draft l.cells
  out j there i b x below at word = same_lent x ∙ stands.flying.out j there i b x below (sym (block_is j.draft (staging_is j there) i) ∙ at) word

  home : (i : ℕ) → is_lent (cell l.cells i) ≡ true → IsOut w stands.jobs i
  home i lent = elim (stands.flying.home i (sym (same_lent i) ∙ lent)) [
    | inl log ↦ inl (log.0, subst (λ (y : Geometry). log.0 < y.log) (sym fills_is.geometry) log.1, log.2 ∙ ap (λ y. log_line y log.0) (sym fills_is.geometry))
    | inr block ↦ inr (block.0, block.1, (block.2.0, block.2.1, block_is block.0.draft (staging_is block.0 block.1) block.2.0 ∙ block.2.2))
  ]

  lines_on : (b : Bool) → LinesStand b k.volume k.cells kept → LinesStand b w l.cells kept
  lines_on true lent_is = record {
    lent = λ slot j below word.
        let same : log_line w.geometry slot ≡ log_line k.volume.geometry slot = ap (λ y. log_line y slot) fills_is.geometry in
        subst (λ line. is_lent (cell l.cells (8 * line + j)) ≡ true) (sym same)
        (same_lent (8 * log_line k.volume.geometry slot + j) ∙ lent_is.lent slot j (subst (λ (y : Geometry). slot < y.log) fills_is.geometry below) word);
    old = λ slot below valid.
        let same : log_line w.geometry slot ≡ log_line k.volume.geometry slot = ap (λ y. log_line y slot) fills_is.geometry in
        let was = lent_is.old slot (subst (λ (y : Geometry). slot < y.log) fills_is.geometry below) (ap (λ line. is_self_valid (line_bytes kept.first line)) (sym same) ∙ valid) in
        omega (arith, was, ap (λ line. held_seq (line_bytes kept.first line)) same, base_is);
  }
  lines_on false home_is = (home_is.0, keeps_log_home_with blocks k.volume w k.cells l.cells kept.claims stands.flying.device.headed change_is spare_is home_is.1)

  blocks_on : (p : JobOut) → In p kept.pending → HasItsBlocks w p
  blocks_on p there =
      let its = stands.blocks p there in
      let job = job_of kept.pending stands.jobs p stands.jobs_are there in
      let staging : (inode k.volume p.draft.staging).kind ≡ Staging = subst (λ (e : Draft). (inode k.volume e.staging).kind ≡ Staging) job.draft (staging_is job.job job.there) in
      record { count = its.count; each = λ i below. block_is p.draft staging i ∙ its.each i below }

  staging_same : (x : ℕ) → IsStaging x → extents w x ≡ extents k.volume x
  staging_same x there = map_is x (staging-file k.volume x stands.order.whole there).kind

  agrees : Agrees kept.staging l
  agrees = record {
    free = λ x b there free.
        let was = stands.agrees.free x b there free in
        record { disk = was.disk; at = ap (λ es. disk_at es b) (staging_same x there) ∙ was.at; home = λ i at. same_lent i ∙ was.home i at };
    empty = λ x there empty. staging_same x there ∙ stands.agrees.empty x there empty;
  }

  pub holed : (now : StandsAt g l t kept lines n s) × (now.jobs ≡ stands.jobs) × (now.numbers ≡ stands.numbers)
  holed = (
    record {
      count = stands.count;
      few = stands.few;
      numbers = stands.numbers;
      jobs = stands.jobs;
      jobs_are = stands.jobs_are;
      order = done.order;
      unbatched = off;
      on = done.kept_on;
      geometry = fills_is.geometry ∙ stands.geometry;
      flying = record {
        device = device_now;
        whole = stands.flying.whole;
        out = out;
        home = home;
        overlays = overlay g k t kept lines n s stands ino first count file others fits l.cells w blocks is done.order.whole done.changes enough;
      };
      lines = lines_on lines stands.lines;
      quiet = λ i journal line not_lent. done.singles i (stands.quiet i journal line (sym (same_lent i) ∙ not_lent));
      blocks = blocks_on;
      callers = stands.callers;
      spare = stands.spare;
      tables = stands.tables;
      open_are_files = λ i there. (line_is i).kind ∙ stands.open_are_files i there;
      ordered = stands.ordered;
      sizes = sizes g k t kept lines n s stands ino first count file others fits l.cells w blocks is done.order.whole done.changes enough;
      bare = λ i none. stands.bare i (λ was. none ((line_is i).kind ∙ was));
      staged = stands.staged;
      agrees = agrees;
      free_single = λ x b there free disk i at word. done.singles i (stands.free_single x b there free disk i (ap (λ es. disk_at es b) (sym (staging_same x there)) ∙ at) word);
      drafts = λ e alive. stands.drafts e (subst (In e) live_is alive);
      low = λ i. (let was = stands.low i in omega (arith, was, (line_is i).applied, ap (λ ds. length (entries_of i ds)) live_is));
      claims_out = λ e alive. stands.claims_out e (subst (In e) live_is alive);
      jobs_out = stands.jobs_out;
      owed = (let was = stands.owed in omega (arith, was, ap length live_is));
    },
    refl,
    refl,
  )

pub stands_filled : StandsFilled
stands_filled g k l t kept lines n s ino first count stands file others fits (inl full) enough =
    subst (λ y. (now : StandsAt g y t kept lines n s) × (now.jobs ≡ stands.jobs) × (now.numbers ≡ stands.numbers)) (sym full.same) (stands, refl, refl)
stands_filled g k l t kept lines n s ino first count stands file others fits (inr made) enough =
    holed g k l t kept lines n s stands ino first count file others fits made.1.0 made.1.1 made.1.2 enough

-- ---- the power went

pub keeps_filled_cut : KeepsFilledCut
keeps_filled_cut g k l t kept lines n start history c ino first count w blocks stands file others fits is cut enough mode =
    promise_read blocks k.volume w k.cells l.cells kept.claims stands.jobs stands.numbers stands.numbers (run start history) (run start history) start history stands.count stands.count kept.first c mode
    (λ strict. stands.flying.whole ((setting_run start history).mode ∙ strict)) stands.flying.device (leads_before start history c stands.jobs) (leads_before start history c stands.jobs)
    (change g k t kept lines n (run start history) stands ino first count file others fits l.cells w blocks is cut.whole cut.changes enough)
    (spare g k t kept lines n (run start history) stands ino first count file others fits l.cells w blocks is cut.whole cut.changes enough)
    (same_blocks g k t kept lines n (run start history) stands ino first count file others fits l.cells w blocks is cut.whole cut.changes enough)
    (room g k t kept lines n (run start history) stands ino first count file others fits l.cells w blocks is cut.whole cut.changes enough)
    (takes g k t kept lines n (run start history) stands ino first count file others fits l.cells w blocks is cut.whole cut.changes enough)
