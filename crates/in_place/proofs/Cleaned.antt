-- The end of a file is cleaned in flight, done and cut off.
use Rattle.std.specs.Prelude.{◌≡◌, ◌≤◌, ◌<◌, ◌+◌, ◌*◌, ◌/◌, ℕ, Bool, true, false, List, [], ◌∷◌, ◌++◌, length, map, refl}
use Rattle.std.proofs.Common.{arith, ap, ◌∙◌, sym, subst}
use Rattle.live_step_laws.specs.world_image_laws.Settings.{setting_run}
use Rattle.live_step_laws.specs.pm_model.declared.Cell.{Cell}
use Rattle.live_step_laws.specs.pm_model.Cells.{cell, is_single}
use Rattle.live_step_laws.specs.pm_model.Images.{ComesFrom, IsImage}
use Rattle.live_step_laws.specs.pm_model.Words.{Words}
use Rattle.live_step_laws.specs.extent_model.Extents.{disk_at}
use Rattle.live_step_laws.specs.layout_model.Journal.{IsSound, journaled}
use Rattle.live_step_laws.specs.layout_model.Places.{Geometry, log_line}
use Rattle.live_step_laws.specs.image_model.Content.{size_of}
use Rattle.live_step_laws.specs.image_model.Volume.{extents, Volume}
use Rattle.write_plan.specs.live_model.Flying.{IsFlying}
use Rattle.live_step_laws.specs.k_split_model.Stands.{Stands}
use Rattle.live_step_laws.specs.k_split_model.View.{View}
use Rattle.write_plan.specs.live_model.k_split.Bytes.{IsWrittenOver, Overwrites, tail_zeros}
use Rattle.write_plan.specs.live_model.k_split.Order.{IsInOrder}
use Rattle.live_step_laws.specs.posix_tables.Open.{Tables}
use Rattle.live_step_laws.specs.posix_spec.Run.{run}
use Rattle.live_step_laws.specs.posix_spec.State.{State}
use Rattle.write_plan.specs.live_model.staging_files.Keeps.{Agrees}
use Rattle.live_step_laws.specs.world_model.TreeRules.{used_below}
use Rattle.live_step_laws.specs.world_model.Jobs.{live_claims}
use Rattle.live_step_laws.specs.world_model.Stands.{is_used}
use Rattle.live_step_laws.specs.world_step_laws.Worlds.{IsWorld}
use Rattle.live_step_laws.specs.world_image_laws.Changed.{ShowsLog-same, sound_headed}
use Rattle.live_step_laws.specs.world_image_laws.Images.{HasLogHome, IsHeaded, ShowsWorld}
use Rattle.live_step_laws.specs.world_image_laws.Back.{jobs_in_log}
use Rattle.live_step_laws.specs.world_image_laws.Flights.{image_of, kept_leading, leads_before, shows_back, shows_in_log, small_lap}
use Rattle.live_step_laws.specs.world_image_laws.InLog.{put_in_log, slots_in_log}
use Rattle.write_plan.specs.live_model.Standing.{file_state, Kept, LinesStand, StandsAt}
use Rattle.live_step_laws.proofs.Words.{headed_changed, same_log}
use Rattle.in_place.specs.CleansLaws.{KeepsCleaned, MayClean, StandsCleaned}
use Rattle.in_place.proofs.CleansReading.{world_before}
use Rattle.in_place.proofs.TailsTails.{in_data_tail, old_or_new, same_before, tail_blocks}

-- what K-Split is, with other cells
abbrev with_cells : View → List Cell → View
with_cells k cells = record k { cells = cells }

module _ (g : Geometry) (k : View) (cells : List Cell) (t : Tables) (kept : Kept) (lines : Bool) (n : ℕ) (s : State) (ino from : ℕ) (stands : StandsAt g k t kept lines n s) (may : MayClean k kept stands.jobs ino from)
    (over_u : Overwrites k.committed k.volume ino from (tail_zeros k.volume ino from) k.cells cells) where
  abbrev v : Volume
  v = k.volume

  over : Overwrites v v ino from (tail_zeros v ino from) k.cells cells
  over = subst (λ u. Overwrites u v ino from (tail_zeros v ino from) k.cells cells) (stands.order.settled stands.unbatched) over_u

  below : ino < length v.inodes
  below = used_below v ino (ap is_used may.file)

  ends : size_of v (live_claims v kept.claims) ino ≤ from
  ends = let size = stands.sizes.files ino may.file in let behind = may.behind in omega (arith, size, behind)

  -- where an image comes from
  pub source : (image : Words) → IsImage cells image → (before : Words) × ComesFrom k.cells image before × IsWrittenOver v v ino from (tail_zeros v ino from) before image
  source image is = over.each_image image is

  world_at : (before : Words) → IsImage k.cells before → IsWorld v kept.claims stands.jobs (journaled before) stands.numbers s stands.count
  world_at before is = stands.flying.device.world before is

  sound_at : (before : Words) → IsImage k.cells before → IsSound v.geometry before
  sound_at before is = sound_headed v.geometry before (stands.flying.device.headed before is)

  pub headed : (image : Words) → IsImage cells image → IsHeaded v.geometry image
  headed image is =
      let from_one = source image is in
      let sane = (world_at from_one.0 from_one.1.is_image).valid.stands.sane in
      headed_changed v.geometry (tail_blocks (disk_at (extents v ino) (from / 4096))) v v from_one.0 image (in_data_tail v sane ino from below) (old_or_new v sane ino from below from_one.0 image from_one.2)
      (stands.flying.device.headed from_one.0 from_one.1.is_image) refl (stands.flying.device.stands.reads from_one.0 from_one.1.is_image).base

  pub world : (image : Words) → IsImage cells image → IsWorld v kept.claims stands.jobs (journaled image) stands.numbers s stands.count
  world image is =
      let from_one = source image is in
      let was = world_at from_one.0 from_one.1.is_image in
      world_before v kept.claims stands.jobs (journaled from_one.0) (journaled image) stands.numbers s stands.count ino from may.file ends may.others
      (same_before v was.valid.stands.sane ino from below from_one.0 image (sound_at from_one.0 from_one.1.is_image) from_one.2) was

  -- ---- done

  log_home : HasLogHome v k.cells kept.claims → HasLogHome v cells kept.claims
  log_home home image is =
      let from_one = source image is in
      let sane = (world_at from_one.0 from_one.1.is_image).valid.stands.sane in
      ShowsLog-same v v kept.claims (journaled from_one.0) (journaled image) refl refl
      (same_log v.geometry (tail_blocks (disk_at (extents v ino) (from / 4096))) v v from_one.0 image (in_data_tail v sane ino from below) (old_or_new v sane ino from below from_one.0 image from_one.2) (sound_at from_one.0 from_one.1.is_image))
      (home from_one.0 from_one.1.is_image)

  lines_on : (b : Bool) → LinesStand b v k.cells kept → LinesStand b v cells kept
  lines_on true lent_is = record { lent = λ slot j slot_below j_below. over.lent (8 * log_line v.geometry slot + j) ∙ lent_is.lent slot j slot_below j_below; old = lent_is.old }
  lines_on false home_is = (home_is.0, log_home home_is.1)

  module _ (order : IsInOrder (with_cells k cells)) (singles : (i : ℕ) → is_single (cell k.cells i) ≡ true → is_single (cell cells i) ≡ true) where
    stands_device : Stands v.geometry v cells
    stands_device = subst (λ u. Stands u.geometry u cells) (order.settled stands.unbatched) order.stands

    flying : IsFlying v cells kept.claims stands.jobs (file_state kept.files) stands.numbers s stands.count
    flying = record {
      device = record { stands = stands_device; headed = headed; world = world; room = stands.flying.device.room };
      whole = stands.flying.whole;
      out = λ j is i b y within at word. over.lent y ∙ stands.flying.out j is i b y within at word;
      home = λ i lent. stands.flying.home i (sym (over.lent i) ∙ lent);
      overlays = stands.flying.overlays;
    }

    agrees : Agrees kept.staging (with_cells k cells)
    agrees = record {
      free = λ x b is free.
          let was = stands.agrees.free x b is free in
          record { disk = was.disk; at = was.at; home = λ i word. over.lent i ∙ was.home i word };
      empty = stands.agrees.empty;
    }

    pub now_cleaned : (now : StandsAt g (with_cells k cells) t kept lines n s) × (now.jobs ≡ stands.jobs) × (now.numbers ≡ stands.numbers)
    now_cleaned = (
      record {
        count = stands.count;
        few = stands.few;
        numbers = stands.numbers;
        jobs = stands.jobs;
        jobs_are = stands.jobs_are;
        order = order;
        unbatched = stands.unbatched;
        on = stands.on;
        geometry = stands.geometry;
        flying = flying;
        lines = lines_on lines stands.lines;
        quiet = λ i journal line not_lent. singles i (stands.quiet i journal line (sym (over.lent i) ∙ not_lent));
        blocks = stands.blocks;
        callers = stands.callers;
        spare = stands.spare;
        tables = stands.tables;
        open_are_files = stands.open_are_files;
        ordered = stands.ordered;
        sizes = stands.sizes;
        bare = stands.bare;
        staged = stands.staged;
        agrees = agrees;
        free_single = λ x b is free disk i at word. singles i (stands.free_single x b is free disk i at word);
        drafts = stands.drafts;
        low = stands.low;
        claims_out = stands.claims_out;
        jobs_out = stands.jobs_out;
        owed = stands.owed;
      },
      refl,
      refl,
    )

pub stands_cleaned : StandsCleaned
stands_cleaned g k l t kept lines n s ino from stands may done =
    subst (λ y. (now : StandsAt g y t kept lines n s) × (now.jobs ≡ stands.jobs) × (now.numbers ≡ stands.numbers)) (sym done.same)
    (now_cleaned g k l.cells t kept lines n s ino from stands may done.over (subst IsInOrder done.same done.order) done.singles)

-- ---- cut off

pub keeps_cleaned : KeepsCleaned
keeps_cleaned g k l t kept lines n start history c ino from stands may cut mode back slots image put =
    kept_leading k.volume kept.claims stands.jobs slots stands.numbers (run start history) stands.count image start history c mode (λ strict. stands.flying.whole ((setting_run start history).mode ∙ strict)) (leads_before start history c stands.jobs) shows
  where
    is_image : IsImage l.cells image
    is_image = image_of l.cells back image put.image_is

    from_one : (before : Words) × ComesFrom k.cells image before × IsWrittenOver k.volume k.volume ino from (tail_zeros k.volume ino from) before image
    from_one = source g k l.cells t kept lines n (run start history) ino from stands may cut.over image is_image

    headed_is : IsHeaded k.volume.geometry image
    headed_is = headed g k l.cells t kept lines n (run start history) ino from stands may cut.over image is_image

    shows : ShowsWorld k.volume kept.claims (jobs_in_log slots stands.jobs) stands.numbers (run start history) stands.count image
    shows =
        shows_in_log k.volume kept.claims stands.jobs slots stands.numbers (run start history) stands.count image headed_is from_one.2.reads
        (world g k l.cells t kept lines n (run start history) ino from stands may cut.over image is_image) stands.flying.device.room
        (shows_back k.volume l.cells kept.claims (jobs_in_log slots stands.jobs) back kept.first (slots_in_log slots stands.jobs) image headed_is
        (small_lap k.volume k.cells kept.claims stands.jobs stands.numbers (run start history) stands.count from_one.0 stands.flying.device from_one.1.is_image)
        (put_in_log k.volume l.cells back kept.first kept.claims stands.jobs slots image put))
