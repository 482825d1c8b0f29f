-- One piece of bytes in place in flight: done, and cut off.
use Rattle.std.specs.Prelude.{◌≡◌, ◌≢◌, ◌<◌, ◌+◌, ◌*◌, ℕ, Bool, true, false, List, [], ◌∷◌, length, Option, slice_index, slice_set, refl}
use Rattle.std.proofs.Common.{arith, ap, ◌∙◌, sym, subst, inl, inr}
use Rattle.std.proofs.lemmas.Bool.{ne_eqb}
use Rattle.std.proofs.lemmas.List.{get_or-set_same, set-set}
use Rattle.live_step_laws.specs.pm_model.declared.Cell.{Cell}
use Rattle.live_step_laws.specs.pm_model.Cells.{cell, is_single}
use Rattle.live_step_laws.specs.pm_model.Images.{ComesFrom, IsImage}
use Rattle.live_step_laws.specs.pm_model.Words.{Words}
use Rattle.live_step_laws.specs.layout_model.Journal.{IsSound, journaled}
use Rattle.live_step_laws.specs.layout_model.Places.{log_line}
use Rattle.live_step_laws.specs.layout_model.declared.lines.Draft.{Draft}
use Rattle.live_step_laws.specs.image_model.Volume.{inode, Volume}
use Rattle.live_step_laws.specs.k_split.Bytes.{IsWrittenOver, Overwrites}
use Rattle.live_step_laws.specs.k_split.Order.{IsInOrder}
use Rattle.live_step_laws.specs.k_split_model.Stands.{Stands}
use Rattle.live_step_laws.specs.k_split_model.View.{View}
use Rattle.live_step_laws.specs.list_laws.Members.{In}
use Rattle.live_step_laws.specs.commute_laws.Needs.{Flight}
use Rattle.live_step_laws.specs.crash_spec.Sync.{file_bytes, IsPartOf}
use Rattle.live_step_laws.specs.posix_laws.FitsLaws.{length-overwritten}
use Rattle.live_step_laws.specs.posix_tables.declared.nodes.Node.{Node}
use Rattle.live_step_laws.specs.posix_tables.Nodes.{bytes_of, node_at, published_of}
use Rattle.live_step_laws.specs.posix_tables.Open.{Tables}
use Rattle.live_step_laws.specs.posix_spec.Run.{after_call}
use Rattle.live_step_laws.specs.posix_spec.State.{State, with_file}
use Rattle.live_step_laws.specs.posix_laws.Orders.{AreOrdered}
use Rattle.live_step_laws.specs.posix_laws.Puts.{with_whole}
use Rattle.live_step_laws.specs.world_model.Jobs.{Job, live_claims}
use Rattle.live_step_laws.specs.world_model.Stands.{FileStands, is_used, number}
use Rattle.live_step_laws.specs.world_step_laws.Parts.{FliesWith, part_of}
use Rattle.live_step_laws.specs.world_step_laws.Steps.{AreBeside}
use Rattle.live_step_laws.specs.world_step_laws.Touched.{only}
use Rattle.live_step_laws.specs.world_step_laws.Worlds.{IsWorld}
use Rattle.live_step_laws.specs.world_write_laws.PlaceSteps.{in_place}
use Rattle.live_step_laws.specs.world_write_laws.Places.{WritesInPlace}
use Rattle.live_step_laws.specs.world_image_laws.Amid.{kept_part_among}
use Rattle.live_step_laws.specs.world_image_laws.Back.{IsPutBack, jobs_in_log}
use Rattle.live_step_laws.specs.world_image_laws.Changed.{ShowsLog-same, sound_headed}
use Rattle.live_step_laws.specs.world_image_laws.Flights.{image_of, shows_back, shows_in_log, small_lap}
use Rattle.live_step_laws.specs.world_image_laws.Images.{HasLogHome, IsHeaded, ShowsWorld}
use Rattle.live_step_laws.specs.world_image_laws.InLog.{put_in_log, slots_in_log}
use Rattle.live_step_laws.specs.world_image_laws.PartOrders.{leaves, within}
use Rattle.live_step_laws.specs.world_image_laws.Places.{go_on_in_part}
use Rattle.live_step_laws.specs.world_image_laws.Settings.{setting_run}
use Rattle.live_step_laws.specs.live_model.file_table.Files.{Files}
use Rattle.live_step_laws.specs.live_model.Flying.{IsFlying}
use Rattle.live_step_laws.specs.live_model.staging_files.Keeps.{Agrees}
use Rattle.live_step_laws.specs.live_model.Standing.{file_state, LinesStand, StandsAt}
use Rattle.live_step_laws.proofs.Words.{headed_changed, same_log}
use Rattle.write_plan.proofs.Numbers.{file_node}
use Rattle.posix_laws.specs.posix_tables.Bytes.{overwritten}
use Rattle.in_place.specs.Placing.{Placing}
use Rattle.in_place.specs.PlaceLaws.{LieAt, PieceIsCut, PieceIsOff, PieceIsPlaced, PieceLeaves}
use Rattle.in_place.proofs.Ranges.{all_data, all_in_data, beside_same, found_of, found_size, part_found, written_old_or_new, written_part, written_whole}

-- ---- states of which a part is found

-- what such states have in common
record AreAlike (s new : State) : Type 0 where
  mode : new.mode ≡ s.mode
  shape : new.shape ≡ s.shape
  tables : new.tables ≡ s.tables
  entries : new.entries ≡ s.entries

alike : (s : State) (f : Flight) (now then : List ℕ) → AreAlike (part_of s f now) (part_of s f then)
unfolding with_file
alike s f now then = record { mode = refl; shape = refl; tables = refl; entries = refl }

nodes_then : (s : State) (f : Flight) (now then : List ℕ)
    → (part_of s f then).nodes ≡ slice_set (part_of s f now).nodes f.node (Node.File (record { bytes = then; published = published_of (node_at (after_call s f.begun).nodes f.node) }))
unfolding with_file
nodes_then s f now then =
    sym (set-set (after_call s f.begun).nodes f.node (Node.File (record { bytes = now; published = published_of (node_at (after_call s f.begun).nodes f.node) })) (Node.File (record { bytes = then; published = published_of (node_at (after_call s f.begun).nodes f.node) })))

beside_others : (ino : ℕ) (jobs : List Job) → ((j : Job) → In j jobs → j.draft.ino ≢ ino) → AreBeside (only ino) jobs
beside_others ino [] others = tt
beside_others ino (j ∷ jobs) others = (ne_eqb j.draft.ino ino (others j (inl refl)), beside_others ino jobs (λ i is. others i (inr is)))

-- what K-Split is, with other cells
abbrev with_cells : View → List Cell → View
with_cells k cells = record k { cells = cells }

-- ---- the device behind it

module _ (k : View) (cells : List Cell) (t : Tables) (files : Files) (ino at x place : ℕ) (now bytes : List ℕ) (p : Placing k t files ino now) (lies : LieAt k.volume (live_claims k.volume p.kept.claims) ino at (length bytes) x place)
    (over_u : Overwrites k.committed k.volume x place bytes k.cells cells) where
  abbrev v : Volume
  v = k.volume

  abbrev claims : List (ℕ × Draft)
  claims = p.kept.claims

  abbrev jobs : List Job
  jobs = p.stands.jobs

  abbrev numbers : List ℕ
  numbers = p.stands.numbers

  abbrev state : State
  state = part_of p.s p.f now

  over : Overwrites v v x place bytes k.cells cells
  over = subst (λ u. Overwrites u v x place bytes k.cells cells) (p.stands.order.settled p.stands.unbatched) over_u

  world_at : (before : Words) → IsImage k.cells before → IsWorld v claims jobs (journaled before) numbers state p.stands.count
  world_at before is = p.stands.flying.device.world before is

  sound_at : (before : Words) → IsImage k.cells before → IsSound v.geometry before
  sound_at before is = sound_headed v.geometry before (p.stands.flying.device.headed before is)

  own_bytes : bytes_of (node_at state.nodes p.f.node) ≡ now
  own_bytes =
      ap bytes_of (ap (λ nodes. node_at nodes p.f.node) (leaves p.s p.f p.flies.flying.0 now p.part.size).nodes
      ∙ get_or-set_same p.s.nodes p.f.node (with_whole p.s p.f.node now) Node.Gone (within p.s p.f p.flies.flying.0 now p.part.size))

  file_at : (before : Words) → IsImage k.cells before → FileStands v (live_claims v claims) (journaled before) ino now
  file_at before is =
      subst (FileStands v (live_claims v claims) (journaled before) ino) (ap (λ n. bytes_of (node_at state.nodes n)) (sym p.node) ∙ own_bytes)
      (file_node v (live_claims v claims) (journaled before) ino (inode v ino).kind (node_at state.nodes (number numbers ino)) p.file ((world_at before is).valid.stands.nodes.each ino (ap is_used p.file)))

  -- the World in the next state, where the file has such bytes
  world_by : (before image : Words) (then : List ℕ) → IsImage k.cells before → length then ≡ length now → WritesInPlace v (live_claims v claims) (journaled before) (journaled image) ino then
      → IsWorld v claims jobs (journaled image) numbers (part_of p.s p.f then) p.stands.count
  world_by before image then is size writes =
      in_place v claims jobs (journaled before) (journaled image) numbers state (part_of p.s p.f then) p.stands.count ino then (published_of (node_at (after_call p.s p.f.begun).nodes p.f.node))
      (world_at before is) writes (beside_others ino jobs p.others) (go_on_in_part p.s p.f numbers jobs now then p.flies p.part.size (size ∙ p.part.size)) (alike p.s p.f now then).entries (alike p.s p.f now then).shape
      (nodes_then p.s p.f now then ∙ ap (λ n. slice_set state.nodes n (Node.File (record { bytes = then; published = published_of (node_at (after_call p.s p.f.begun).nodes p.f.node) }))) p.node)

  headed : (image : Words) → IsImage cells image → IsHeaded v.geometry image
  headed image is =
      let from_one = over.each_image image is in
      let sane = (world_at from_one.0 from_one.1.is_image).valid.stands.sane in
      headed_changed v.geometry (all_data v.geometry) v v from_one.0 image (all_in_data v.geometry) (written_old_or_new v sane x place bytes lies.below from_one.0 image from_one.2)
      (p.stands.flying.device.headed from_one.0 from_one.1.is_image) refl (p.stands.flying.device.stands.reads from_one.0 from_one.1.is_image).base

  log_home : HasLogHome v k.cells claims → HasLogHome v cells claims
  log_home home image is =
      let from_one = over.each_image image is in
      let sane = (world_at from_one.0 from_one.1.is_image).valid.stands.sane in
      ShowsLog-same v v claims (journaled from_one.0) (journaled image) refl refl
      (same_log v.geometry (all_data v.geometry) v v from_one.0 image (all_in_data v.geometry) (written_old_or_new v sane x place bytes lies.below from_one.0 image from_one.2) (sound_at from_one.0 from_one.1.is_image))
      (home from_one.0 from_one.1.is_image)

  lines_on : (b : Bool) → LinesStand b v k.cells (record p.kept { files = files }) → LinesStand b v cells (record p.kept { files = files })
  lines_on true lent_is = record { lent = λ slot j slot_below j_below. over.lent (8 * log_line v.geometry slot + j) ∙ lent_is.lent slot j slot_below j_below; old = lent_is.old }
  lines_on false home_is = (home_is.0, log_home home_is.1)

  -- ---- done

  module _ (order : IsInOrder (with_cells k cells)) (singles : (i : ℕ) → is_single (cell k.cells i) ≡ true → is_single (cell cells i) ≡ true) (then : List ℕ)
      (world : (image : Words) → IsImage cells image → IsWorld v claims jobs (journaled image) numbers (part_of p.s p.f then) p.stands.count) where
    same : AreAlike state (part_of p.s p.f then)
    same = alike p.s p.f now then

    flying : IsFlying v cells claims jobs (file_state files) numbers (part_of p.s p.f then) p.stands.count
    flying = record {
      device = record {
        stands = subst (λ u. Stands u.geometry u cells) (order.settled p.stands.unbatched) order.stands;
        headed = headed;
        world = world;
        room = record { free = p.stands.flying.device.room.free; blocks = ap (λ z. z.data_blocks) same.shape ∙ p.stands.flying.device.room.blocks };
      };
      whole = λ strict. p.stands.flying.whole (sym same.mode ∙ strict);
      out = λ j is i b y inside at_word word. over.lent y ∙ p.stands.flying.out j is i b y inside at_word word;
      home = λ i lent. p.stands.flying.home i (sym (over.lent i) ∙ lent);
      overlays = p.stands.flying.overlays;
    }

    agrees : Agrees p.kept.staging (with_cells k cells)
    agrees = record {
      free = λ y b is free.
          let was = p.stands.agrees.free y b is free in
          record { disk = was.disk; at = was.at; home = λ i word. over.lent i ∙ was.home i word };
      empty = p.stands.agrees.empty;
    }

    places_on : (stands : StandsAt p.g (with_cells k cells) t (record p.kept { files = files }) true p.n (part_of p.s p.f then)) × (stands.jobs ≡ jobs) × (stands.numbers ≡ numbers)
    places_on = (
      record {
        count = p.stands.count;
        few = p.stands.few;
        numbers = p.stands.numbers;
        jobs = p.stands.jobs;
        jobs_are = p.stands.jobs_are;
        order = order;
        unbatched = p.stands.unbatched;
        on = p.stands.on;
        geometry = p.stands.geometry;
        flying = flying;
        lines = lines_on true p.stands.lines;
        quiet = λ i journal line not_lent. singles i (p.stands.quiet i journal line (sym (over.lent i) ∙ not_lent));
        blocks = p.stands.blocks;
        callers = p.stands.callers;
        spare = p.stands.spare;
        tables = same.tables ∙ p.stands.tables;
        open_are_files = p.stands.open_are_files;
        ordered = subst AreOrdered (sym same.entries) p.stands.ordered;
        sizes = p.stands.sizes;
        bare = p.stands.bare;
        staged = p.stands.staged;
        agrees = agrees;
        free_single = λ y b is free disk i at_word word. singles i (p.stands.free_single y b is free disk i at_word word);
        drafts = p.stands.drafts;
        low = p.stands.low;
        claims_out = p.stands.claims_out;
        jobs_out = p.stands.jobs_out;
        owed = p.stands.owed;
      },
      refl,
      refl,
    )

  -- ---- cut off

  module _ (image : Words) (is_image : IsImage cells image) (puts : (i : ℕ) → i < length bytes → slice_index p.f.whole (at + i) ≡ slice_index bytes i) where
    from : (before : Words) × ComesFrom k.cells image before × IsWrittenOver v v x place bytes before image
    from = over.each_image image is_image

    was : IsWorld v claims jobs (journaled from.0) numbers state p.stands.count
    was = world_at from.0 from.1.is_image

    found : List ℕ
    found =
        found_of v (live_claims v claims) ino at x place bytes was.valid.stands.sane was.valid.stands.log p.file lies from.0 image (sound_at from.0 from.1.is_image) from.2.sound from.2.bytes_are.others (length now)

    long : length found ≡ length now
    unfolding found
    long = found_size v (live_claims v claims) ino at x place bytes was.valid.stands.sane was.valid.stands.log p.file lies from.0 image (sound_at from.0 from.1.is_image) from.2.sound from.2.bytes_are.others (length now)

    world_found : IsWorld v claims jobs (journaled image) numbers (part_of p.s p.f found) p.stands.count
    unfolding found
    world_found =
        world_by from.0 image found from.1.is_image long
        (written_part v (live_claims v claims) ino at x place bytes was.valid.stands.sane was.valid.stands.log p.file lies from.0 image (sound_at from.0 from.1.is_image) from.2.sound from.2.bytes_are.others now (file_at from.0 from.1.is_image))

    part_is : IsPartOf (file_bytes p.s p.f.node) p.f.whole found
    unfolding found
    part_is =
        part_found v (live_claims v claims) ino at x place bytes was.valid.stands.sane was.valid.stands.log p.file lies from.0 image (sound_at from.0 from.1.is_image) from.2.sound from.2.bytes_are.others now
        (file_bytes p.s p.f.node) p.f.whole (file_at from.0 from.1.is_image) from.2.bytes_are p.part puts

    shows : (back : ℕ → Cell) (slots : List (Option ℕ)) → IsPutBack v cells back p.kept.first claims jobs slots image → ShowsWorld v claims (jobs_in_log slots jobs) numbers (part_of p.s p.f found) p.stands.count image
    shows back slots put =
        shows_in_log v claims jobs slots numbers (part_of p.s p.f found) p.stands.count image (headed image is_image) from.2.reads world_found
        (record { free = p.stands.flying.device.room.free; blocks = ap (λ z. z.data_blocks) (alike p.s p.f now found).shape ∙ p.stands.flying.device.room.blocks })
        (shows_back v cells claims (jobs_in_log slots jobs) back p.kept.first (slots_in_log slots jobs) image (headed image is_image)
        (small_lap v k.cells claims jobs numbers state p.stands.count from.0 p.stands.flying.device from.1.is_image)
        (put_in_log v cells back p.kept.first claims jobs slots image put))

pub piece_is_placed : PieceIsPlaced
piece_is_placed k l t files ino at x place now bytes p lies inside puts done =
    let r = subst (λ y. (stands : StandsAt p.g y t (record p.kept { files = files }) true p.n (part_of p.s p.f (overwritten now at bytes))) × (stands.jobs ≡ p.stands.jobs) × (stands.numbers ≡ p.stands.numbers)) (sym done.same)
    (places_on k l.cells t files ino at x place now bytes p lies done.over (subst IsInOrder done.same done.order) done.singles (overwritten now at bytes) world) in
    record { stands = r.0; jobs_are = r.1; numbers_are = r.2 }
  where
    world : (image : Words) → IsImage l.cells image → IsWorld k.volume p.kept.claims p.stands.jobs (journaled image) p.stands.numbers (part_of p.s p.f (overwritten now at bytes)) p.stands.count
    world image is_image =
        let one = over k l.cells t files ino at x place now bytes p lies done.over in
        let sound_then = (one.each_image image is_image).2.sound in
        let from = done.whole image is_image in
        let was = world_at k l.cells t files ino at x place now bytes p lies done.over from.0 from.1.is_image in
        let long : length (overwritten now at bytes) ≡ length now = (let size = length-overwritten now at bytes in omega (arith, size, inside)) in
        world_by k l.cells t files ino at x place now bytes p lies done.over from.0 image (overwritten now at bytes) from.1.is_image long
        (written_whole k.volume (live_claims k.volume p.kept.claims) ino at x place bytes was.valid.stands.sane was.valid.stands.log p.file lies from.0 image
        (sound_at k l.cells t files ino at x place now bytes p lies done.over from.0 from.1.is_image) sound_then from.2.others now
        (file_at k l.cells t files ino at x place now bytes p lies done.over from.0 from.1.is_image) inside from.2)

pub piece_is_cut : PieceIsCut
piece_is_cut k l t files ino at x place now bytes p start history a b lies inside puts state_is jobs_are cut back slots image put =
    let is_image : IsImage l.cells image = image_of l.cells back image put.image_is in
    let put_all : IsPutBack k.volume l.cells back p.kept.first p.kept.claims p.stands.jobs slots image = subst (λ js. IsPutBack k.volume l.cells back p.kept.first p.kept.claims js slots image) (sym jobs_are) put in
    let found_is : List ℕ = found k l.cells t files ino at x place now bytes p lies cut.over image is_image puts in
    kept_part_among k.volume p.kept.claims a b slots p.stands.numbers p.s p.f found_is p.stands.count image start history
    (sym (setting_run start history).mode ∙ (ap (λ (z : State). z.mode) (sym state_is) ∙ p.sync)) state_is (subst (FliesWith p.s p.f p.stands.numbers) jobs_are p.flies)
    (part_is k l.cells t files ino at x place now bytes p lies cut.over image is_image puts)
    (subst (λ js. ShowsWorld k.volume p.kept.claims (jobs_in_log slots js) p.stands.numbers (part_of p.s p.f found_is) p.stands.count image) jobs_are (shows k l.cells t files ino at x place now bytes p lies cut.over image is_image puts back slots put_all))

pub piece_is_off : PieceIsOff
piece_is_off k l t files ino now p start history a b state_is jobs_are cells_are back slots image put =
    kept_part_among k.volume p.kept.claims a b slots p.stands.numbers p.s p.f now p.stands.count image start history
    (sym (setting_run start history).mode ∙ (ap (λ (z : State). z.mode) (sym state_is) ∙ p.sync)) state_is (subst (FliesWith p.s p.f p.stands.numbers) jobs_are p.flies) p.part
    (subst (λ js. ShowsWorld k.volume p.kept.claims (jobs_in_log slots js) p.stands.numbers (part_of p.s p.f now) p.stands.count image) jobs_are shows_now)
  where
    put_all : IsPutBack k.volume k.cells back p.kept.first p.kept.claims p.stands.jobs slots image
    put_all = subst (λ d. IsPutBack k.volume d back p.kept.first p.kept.claims p.stands.jobs slots image) cells_are
        (subst (λ js. IsPutBack k.volume l.cells back p.kept.first p.kept.claims js slots image) (sym jobs_are) put)

    is_image : IsImage k.cells image
    is_image = image_of k.cells back image put_all.image_is

    headed_is : IsHeaded k.volume.geometry image
    headed_is = p.stands.flying.device.headed image is_image

    shows_now : ShowsWorld k.volume p.kept.claims (jobs_in_log slots p.stands.jobs) p.stands.numbers (part_of p.s p.f now) p.stands.count image
    shows_now =
        shows_in_log k.volume p.kept.claims p.stands.jobs slots p.stands.numbers (part_of p.s p.f now) p.stands.count image headed_is (p.stands.flying.device.stands.reads image is_image) (p.stands.flying.device.world image is_image)
        p.stands.flying.device.room
        (shows_back k.volume k.cells p.kept.claims (jobs_in_log slots p.stands.jobs) back p.kept.first (slots_in_log slots p.stands.jobs) image headed_is
        (small_lap k.volume k.cells p.kept.claims p.stands.jobs p.stands.numbers (part_of p.s p.f now) p.stands.count image p.stands.flying.device is_image)
        (put_in_log k.volume k.cells back p.kept.first p.kept.claims p.stands.jobs slots image put_all))

pub piece_leaves : PieceLeaves
piece_leaves k cells t files ino at x place now bytes p lies over_u image is_image =
    let one = over k cells t files ino at x place now bytes p lies over_u in
    let from = one.each_image image is_image in
    let was = world_at k cells t files ino at x place now bytes p lies over_u from.0 from.1.is_image in (
      from.0,
      from.1,
      beside_same k.volume (live_claims k.volume p.kept.claims) ino at x place bytes was.valid.stands.sane was.valid.stands.log p.file lies from.0 image
          (sound_at k cells t files ino at x place now bytes p lies over_u from.0 from.1.is_image) from.2.sound from.2.bytes_are.others,
    )
