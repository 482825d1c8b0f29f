-- The log's lines go out in POSIX mode, and come home.
use Rattle.std.specs.Prelude.{◌≡◌, ◌≤◌, ◌+◌, ◌/◌, ◌%◌, ◌^◌, ℕ, Bool, true, false, List, [], Option, Some, None, refl}
use Rattle.std.proofs.Common.{append-nil, arith, ap, ◌∙◌, sym, subst}
use Rattle.file_calls.specs.batch_laws.Goings.{ComesFrom, IsLeftGoing}
use Rattle.file_calls.specs.batch_laws.GoingsLaws.{going_goes_on}
use Rattle.file_calls.specs.batch_laws.Ready.{GoesReady}
use Rattle.file_calls.specs.batch_laws.Standing.{as_claims, PosixGoing, sides_of, staged_of}
use Rattle.file_calls.specs.batch_laws.StepsLaws.{worlds_make_batch}
use Rattle.file_calls.specs.batch_laws.Together.{PosixStandsAt}
use Rattle.file_calls.specs.batch_laws.WorldsLaws.{cut_is_world, live_is_world}
use Rattle.file_calls.specs.batch_laws.posix_mode_laws.Batch.{IsBatch, KeepsShown}
use Rattle.file_calls.specs.batch_laws.posix_mode_laws.Sides.{sized}
use Rattle.file_calls.specs.eof_laws.pm_model.declared.Cell.{Cell}
use Rattle.file_calls.specs.eof_laws.pm_model.Cells.{cell, is_lent}
use Rattle.file_calls.specs.eof_laws.pm_model.Images.{IsImage}
use Rattle.file_calls.specs.eof_laws.pm_model.Words.{Words}
use Rattle.file_calls.specs.eof_laws.layout_model.declared.lines.Draft.{Draft}
use Rattle.file_calls.specs.eof_laws.layout_model.Journal.{journaled}
use Rattle.file_calls.specs.eof_laws.layout_model.Places.{base_word, Geometry, log_line}
use Rattle.file_calls.specs.eof_laws.posix_tables.Open.{Tables}
use Rattle.file_publish.proofs.Beside.{agrees-beside, bytes-beside, ComesBeside, headed-beside, SameBeside, single-beside}
use Rattle.file_publish.proofs.Home.{comes-home, home-left, quiet-home, same-home, shows-home}
use Rattle.file_publish.proofs.Out.{comes-out, home-out, lines-lent, quiet-out, same-out}
use Rattle.file_publish.specs.RoundLinesLaws.{with_cells, with_first}
use Rattle.in_flight.specs.block_io.Overwrites.{SameBesideLines}
use Rattle.in_flight.specs.file_table.Files.{Files}
use Rattle.in_flight.specs.image_model.Content.{byte_in, disk_of}
use Rattle.in_flight.specs.image_model.Volume.{Volume}
use Rattle.in_flight.specs.k_split.Order.{IsInOrder}
use Rattle.in_flight.specs.k_split_model.View.{View}
use Rattle.in_flight.specs.live_model.Flying.{IsOut}
use Rattle.in_flight.specs.live_model.Standing.{IsQuietBeside, Kept, LinesStand}
use Rattle.in_flight.specs.posix_laws.Cuts.{cut_of}
use Rattle.in_flight.specs.posix_spec.Run.{run}
use Rattle.in_flight.specs.posix_spec.State.{State}
use Rattle.in_flight.specs.posix_types.declared.item.Item.{Item}
use Rattle.in_flight.specs.world_image_laws.Changed.{IsWorld-words}
use Rattle.in_flight.specs.world_image_laws.Images.{HasLogHome, IsHeaded}
use Rattle.in_flight.specs.world_model.Lent.{disk_of-in_data}
use Rattle.in_flight.specs.world_model.Stands.{is_used, Stands}
use Rattle.in_flight.specs.world_step_laws.Worlds.{IsWorld}
use Rattle.world_view_laws.specs.PosixLines.{PosixLinesHome, PosixLinesOut}

-- what files of a volume show is no word of the log
module _ (v : Volume) (numbers : List ℕ) (f : Words) (s : State) (stands : Stands v [] f numbers s) (before image : Words) (same : SameBesideLines (log_line v.geometry 0) v.geometry.log before image) where
  pub shown-beside : KeepsShown v (journaled before) (journaled image)
  shown-beside ino i file below = by (disk_of v [] ino (i / 4096)) refl where
    by : (o : Option ℕ) → disk_of v [] ino (i / 4096) ≡ o → byte_in (journaled image) o i ≡ byte_in (journaled before) o i
    by None is = refl
    by (Some b) is = bytes-beside v before image same b (i % 4096) (disk_of-in_data v [] stands.sane stands.log ino (i / 4096) b (ap is_used file) is) (omega arith)

-- ---- a device of which words of the log alone differ

module _ (g : Geometry) (k : View) (files : Files) (count : ℕ) (numbers : List ℕ) (start : State) (history : List Item) (ready : GoesReady g k files count numbers start history) (e : List Cell)
    (order : IsInOrder (with_cells k e)) (quiet : IsQuietBeside g e) (home : (i : ℕ) → is_lent (cell e i) ≡ true → IsOut k.volume [] i) (comes : ComesBeside k.volume k.cells e) where
  abbrev going : PosixGoing g k files count numbers start history
  going = ready.going

  abbrev now : View
  now = with_cells k e

  left_going : IsLeftGoing g now files count (run start history)
  left_going = record {
    order = order;
    batched = going.batched;
    on = going.on;
    geometry = going.geometry;
    publishing = going.publishing;
    fits = going.fits;
    shape = going.shape;
    quiet = quiet;
    home = home;
    sizes = going.sizes;
    bare = going.bare;
    alive = going.alive;
    aged = going.aged;
    spare = going.spare;
  }

  medium : k.committed.geometry ≡ g
  medium = sym ready.geometry ∙ going.geometry

  -- an image, and the one before
  module _ (before image : Words) (was : IsImage k.cells before) (is : IsImage e image) (same : SameBesideLines (log_line k.volume.geometry 0) k.volume.geometry.log before image) where
    same_medium : SameBesideLines (log_line k.committed.geometry 0) k.committed.geometry.log before image
    same_medium = subst (λ (x : Geometry). SameBesideLines (log_line x 0) x.log before image) ready.geometry same

    world_same : (v : Volume) (claims : List (ℕ × Draft)) (s : State) → v.geometry ≡ k.volume.geometry → IsWorld v claims [] (journaled before) numbers s count → IsWorld v claims [] (journaled image) numbers s count
    world_same v claims s geometry world =
        IsWorld-words v claims [] (journaled before) (journaled image) numbers s count
        (λ b i in_data below lent. bytes-beside v before image (subst (λ (x : Geometry). SameBesideLines (log_line x 0) x.log before image) (sym geometry) same) b i in_data below) world

    batch_now : IsBatch (sides_of now files going.old_numbers numbers) (journaled image) start going.front going.later
    batch_now =
        worlds_make_batch (sides_of now files going.old_numbers numbers) k.volume files (journaled image) start going.front going.later count
        (record { batch = refl; staged = refl; lengths = refl; count = going.sizes; alive = going.alive })
        (subst (λ h. IsWorld (sized files.sizes k.volume) (as_claims (staged_of k.volume files)) [] (journaled image) numbers (run start h) count) going.history_is
        (world_same (sized files.sizes k.volume) (as_claims (staged_of k.volume files)) (run start history) refl (live_is_world g k files count numbers start history before going was).0))
        (subst (λ h. IsWorld k.volume [] [] (journaled image) numbers (cut_of (run start h)) count) going.history_is
        (world_same k.volume [] (cut_of (run start history)) refl (cut_is_world g k files count numbers start history before going was)))
        (going.world before was).blocks (going.world before was).cuts

    headed_medium : IsHeaded k.committed.geometry image
    headed_medium =
        headed-beside k.committed e order.stands before image is same_medium (subst (λ (x : Geometry). IsHeaded x before) (sym medium) (going.headed before was)) (going.order.stands.reads before was).base

    headed_now : IsHeaded g image
    headed_now = subst (λ (x : Geometry). IsHeaded x image) medium headed_medium

    come : ComesFrom g k now files files count numbers numbers start history [] going image
    come = record {
      before = before;
      is = was;
      shown = (let stood = (going.world before was).medium in shown-beside k.committed going.old_numbers (journaled before) stood.state stood.stands before image same_medium);
      adds = tt;
      batch = subst (λ later. IsBatch (sides_of now files going.old_numbers numbers) (journaled image) start going.front later) (sym (append-nil going.later)) batch_now;
      headed = headed_now;
    }

  -- THE DEVICE GOES ON, in the same state.
  pub ready_beside : GoesReady g now files count numbers start history
  ready_beside = record {
    going =
        subst (PosixGoing g now files count numbers start) (append-nil history)
        (going_goes_on g k now files files count count numbers numbers start history [] going refl (subst (λ h. IsLeftGoing g now files count (run start h)) (sym (append-nil history)) left_going)
        (λ image is. (let from = comes image is in come from.0 image from.1 is from.2)));
    geometry = ready.geometry;
    base = ready.base;
    unmapped = ready.unmapped;
    room = ready.room;
  }

  -- its head is right, and no slot has a number past 64 bits
  pub headed_beside : (image : Words) → IsImage e image → IsHeaded g image
  headed_beside image is = let from = comes image is in headed_now from.0 image from.1 is from.2

  pub small_beside : (image : Words) → IsImage e image → k.volume.base + k.volume.geometry.log ≤ 2 ^ 64
  small_beside image is =
      let base : k.volume.base ≡ journaled image base_word = ready.base ∙ (order.stands.reads image is).base in
      let most = (headed_beside image is).head.state.most_base in
      let few = going.is_geometry.most_log in
      omega (arith, most, few, base, ap (λ (x : Geometry). x.log) going.geometry)

-- ---- they stand together

module _ (g : Geometry) (k : View) (t : Tables) (kept : Kept) (lines_out : Bool) (n : ℕ) (start : State) (history : List Item) (stands : PosixStandsAt g k t kept lines_out n start history) (e : List Cell) (same : SameBeside k.volume k.cells e) (first : Words) (after : Bool)
    (lines : LinesStand after k.volume e (with_first kept first)) (ready : GoesReady g (with_cells k e) kept.files stands.count stands.numbers start history) where
  pub stands_turned : PosixStandsAt g (with_cells k e) t (with_first kept first) after n start history
  stands_turned = record {
    count = stands.count;
    few = stands.few;
    numbers = stands.numbers;
    ready = ready;
    none_out = stands.none_out;
    none_claimed = stands.none_claimed;
    lines = lines;
    tables = stands.tables;
    open_are_files = stands.open_are_files;
    ordered = stands.ordered;
    staged = stands.staged;
    agrees = agrees-beside k e kept.staging stands.ready.going.order.whole same stands.agrees;
    free_single = single-beside k e kept.staging stands.ready.going.order.whole same stands.free_single;
    runs_out = stands.runs_out;
    owed = stands.owed;
    low = stands.low;
    ends = stands.ends;
    short = stands.short;
  }

pub posix_lines_out : PosixLinesOut
posix_lines_out g k t kept n start history e lines first words stands old order are out =
    let going = stands.ready.going in
    let quiet = quiet-out k.volume k.cells e lines are.count out g going.quiet in
    let home = home-out k.volume k.cells e lines are.count out [] going.home in
    stands_turned g k t kept false n start history stands e (same-out k.volume k.cells e lines are.count out) first true (lines-lent k.volume k.cells e lines are.count out first words old)
    (ready_beside g k kept.files stands.count stands.numbers start history stands.ready e order quiet home (comes-out k.volume k.cells e lines are.count out))

pub posix_lines_home : PosixLinesHome
posix_lines_home g k t kept n start history e lines back stands order are comes log_home held =
    stands_turned g k t kept true n start history stands e same kept.first false (stands.none_out, log)
    (ready_beside g k kept.files stands.count stands.numbers start history stands.ready e order quiet home from) where
      going : PosixGoing g k kept.files stands.count stands.numbers start history
      going = stands.ready.going

      same : SameBeside k.volume k.cells e
      same = same-home k.volume k.cells e kept.first kept.claims lines back stands.lines are comes log_home held

      from : ComesBeside k.volume k.cells e
      from = comes-home k.volume k.cells e kept.first kept.claims lines back stands.lines are comes log_home held

      quiet : IsQuietBeside g e
      quiet = quiet-home k.volume k.cells e kept.first kept.claims lines back stands.lines are comes log_home held going.home g going.quiet

      home : (i : ℕ) → is_lent (cell e i) ≡ true → IsOut k.volume [] i
      home = home-left k.volume k.cells e kept.first kept.claims lines back stands.lines are comes log_home held [] going.home

      log : HasLogHome k.volume e kept.claims
      log image is =
          shows-home k.volume k.cells e kept.first kept.claims lines back stands.lines are comes log_home held going.home image is
          (subst (λ (x : Geometry). IsHeaded x image) (sym going.geometry)
          (headed_beside g k kept.files stands.count stands.numbers start history stands.ready e order quiet home from image is))
          (small_beside g k kept.files stands.count stands.numbers start history stands.ready e order quiet home from image is)
