-- Words that no file shows below its length: the device goes on as it did.
use Rattle.std.specs.Prelude.{◌≡◌, ◌≢◌, ◌⊎◌, ◌<◌, ◌≤◌, ◌-◌, ◌/◌, ◌%◌, ℕ, true, List, [], ◌++◌, Option, Some, None, refl}
use Rattle.std.proofs.Common.{arith, ap, ◌∙◌, sym, subst, inl, inr}
use Rattle.std.proofs.lemmas.Bool.{cases_eq}
use Rattle.live_model.specs.pm_model.ImageLaws.{IsImage-words_of}
use Rattle.live_model.specs.pm_model.Images.{IsImage, words_of}
use Rattle.live_model.specs.pm_model.Words.{Words}
use Rattle.live_model.specs.layout_model.Journal.{journaled}
use Rattle.live_model.specs.layout_model.Places.{Geometry, is_data_block}
use Rattle.live_model.specs.layout_model.declared.lines.Draft.{Draft}
use Rattle.live_model.specs.layout_model.declared.lines.Kind.{Kind}
use Rattle.live_model.specs.layout_model.declared.lines.Kind.TheVariants.{Directory, File, Free, Staging}
use Rattle.live_model.specs.image_model.Content.{byte_in, disk_by, disk_of, entry_of_block, size_of}
use Rattle.live_model.specs.image_model.Volume.{inode, Volume}
use Rattle.live_model.specs.file_table.Files.{Files, size_in}
use Rattle.live_model.specs.k_split.Order.{IsInOrder}
use Rattle.live_model.specs.k_split_model.View.{View}
use Rattle.live_model.specs.commute_laws.posix_types.declared.item.Item.{Item}
use Rattle.live_model.specs.posix_tables.declared.nodes.Node.{Node}
use Rattle.live_model.specs.posix_tables.Nodes.{node_at}
use Rattle.live_model.specs.posix_spec.Run.{run}
use Rattle.live_model.specs.posix_spec.State.{State}
use Rattle.live_model.specs.crash_spec.Posix.{LastBeforeCut}
use Rattle.live_model.specs.world_model.Landed.{within_bounds}
use Rattle.live_model.specs.world_model.Lent.{disk_of-in_data}
use Rattle.live_model.specs.world_model.Stands.{is_used, IsSane, IsUsed, LogStands, NodeStands, number}
use Rattle.posix_mode_laws.specs.Batch.{KeepsShown}
use Rattle.posix_mode_laws.specs.Permits.{keeps_words}
use Rattle.posix_mode_laws.specs.Sides.{PosixWorld, Sides, sized}
use Rattle.posix_mode_laws.specs.Sized.{kind-sized}
use Rattle.batch_laws.specs.IdleLaws.{lengths_are_kept}
use Rattle.batch_laws.specs.Ready.{GoesReady}
use Rattle.batch_laws.specs.Standing.{PosixGoing, sides_of, staged_of}
use Rattle.batch_laws.specs.WorldsLaws.{cut_is_world, size_of_staged}
use Rattle.world_write_laws.specs.PlaceSteps.{covering}
use Rattle.batch_write_laws.specs.Cutting.{log_plain}
use Rattle.batch_write_laws.specs.InPlaceLaws.{headed_written, quiet_written}
use Rattle.batch_write_laws.specs.Places.{staged_mapped}
use Rattle.batch_write_laws.specs.Shown.{FillsGoOn, FillsUnstaged, GoesLikewise, IsUnstagedBlock, KeepsSeen, TailGoesOn, WordsGoOn}
use Rattle.batch_write_laws.specs.Words.{WritesWords}
use Rattle.batch_write_laws.specs.WordsLaws.{IsRange, mapped_stays, other_mapped, other_seen, seen_stays}
use Rattle.batch_write_laws.specs.Writes.{HasWritten, IsNoBlock}

-- ---- what the calls see

-- a node whose file shows the same
node_seen : (v : Volume) (live : List Draft) (f h : Words) (ino : ℕ) (kind : Kind) (node : Node)
    → (kind ≡ File → (i : ℕ) → i < size_of v live ino → byte_in h (disk_of v live ino (i / 4096)) i ≡ byte_in f (disk_of v live ino (i / 4096)) i) → NodeStands v live f ino kind node → NodeStands v live h ino kind node
node_seen v live f h ino Free node same stands = absurd stands
node_seen v live f h ino Staging node same stands = absurd stands
node_seen v live f h ino Directory Node.Gone same stands = absurd stands
node_seen v live f h ino Directory Node.Directory same stands = tt
node_seen v live f h ino Directory (Node.File file) same stands = absurd stands
node_seen v live f h ino File Node.Gone same stands = absurd stands
node_seen v live f h ino File Node.Directory same stands = absurd stands
node_seen v live f h ino File (Node.File file) same stands = record {
  size = stands.size;
  each = λ i below. same refl i (subst (λ n. i < n) (sym stands.size) below) ∙ stands.each i below;
}

module _ (g : Geometry) (k : View) (files : Files) (count : ℕ) (numbers : List ℕ) (start : State) (history : List Item) (ready : GoesReady g k files count numbers start history) where
  abbrev going : PosixGoing g k files count numbers start history
  going = ready.going

  abbrev v : Volume
  v = k.volume

  abbrev staged : List Draft
  staged = staged_of k.volume files

  abbrev sides : Sides
  sides = sides_of k files ready.going.old_numbers numbers

  -- by other words of which no byte differs that a file shows
  world_seen : (f h : Words) → KeepsSeen k files f h → PosixWorld LastBeforeCut sides f start ready.going.front ready.going.later → PosixWorld LastBeforeCut sides h start ready.going.front ready.going.later
  world_seen f h keeps world = record {
    medium = record {
      state = world.medium.state;
      shape = world.medium.shape;
      left = world.medium.left;
      stands = keeps_words k.committed f h ready.going.old_numbers world.medium.state keeps.medium world.medium.stands;
      fsyncs = world.medium.fsyncs;
      published = world.medium.published;
    };
    cut = record {
      state = world.cut.state;
      shape = world.cut.shape;
      left = world.cut.left;
      stands = keeps_words k.volume f h numbers world.cut.state keeps.mapped world.cut.stands;
    };
    live = record {
      sane = world.live.sane;
      names = world.live.names;
      nodes = record {
        each = λ ino used.
            node_seen (sized files.sizes v) staged f h ino (inode (sized files.sizes v) ino).kind (node_at (run start (ready.going.front ++ ready.going.later)).nodes (number numbers ino))
            (λ file i below. (
            let plain : (inode v ino).kind ≡ File = sym (kind-sized files.sizes v ino) ∙ file in
            keeps.seen ino i plain (subst (λ n. i < n) (sym (size_of_staged v files ino ready.going.sizes plain)) below)))
            (world.live.nodes.each ino used);
        all = world.live.nodes.all;
      };
      log = world.live.log;
    };
    lengths = world.lengths;
    blocks = world.blocks;
    cuts = world.cuts;
  }

  words_go : (l : View) → HasWritten g (KeepsSeen k files) k l → GoesLikewise g (record k { cells = l.cells }) files count numbers start history ready.going.front ready.going.later
  words_go l wrote = record {
    ready = record {
      going = record {
        mode = going.mode;
        order = subst IsInOrder wrote.same wrote.order;
        batched = going.batched;
        on = going.on;
        geometry = going.geometry;
        is_geometry = going.is_geometry;
        publishing = going.publishing;
        fits = going.fits;
        shape = going.shape;
        blocks = going.blocks;
        quiet = quiet_written g (KeepsSeen k files) k l wrote going.quiet;
        home = λ i out. going.home i (sym (wrote.lent i) ∙ out);
        sizes = going.sizes;
        bare = going.bare;
        alive = going.alive;
        aged = going.aged;
        spare = going.spare;
        front = going.front;
        later = going.later;
        history_is = going.history_is;
        old_numbers = going.old_numbers;
        world = λ image is. (
            let from = wrote.each_image image is in
            world_seen (journaled from.0) (journaled image) from.2.words (going.world from.0 from.1.is_image));
        headed = λ image is. (
            let from = wrote.each_image image is in
            headed_written g (KeepsSeen k files) from.0 image from.2 (going.headed from.0 from.1.is_image));
        fits_front = going.fits_front;
        shape_front = going.shape_front;
        free = going.free;
      };
      geometry = ready.geometry;
      base = ready.base;
      unmapped = ready.unmapped;
      room = ready.room;
    };
    front_is = refl;
    later_is = refl;
  }

  -- ---- an image before

  abbrev image : Words
  image = words_of k.cells

  is_image : IsImage k.cells image
  is_image = IsImage-words_of k.cells

  abbrev old_world : PosixWorld LastBeforeCut sides (journaled image) start ready.going.front ready.going.later
  old_world = ready.going.world image is_image

  sane : IsSane v
  sane = (cut_is_world g k files count numbers start history image going is_image).valid.stands.sane

  none : LogStands v []
  none = (cut_is_world g k files count numbers start history image going is_image).valid.stands.log

  log : LogStands v staged
  log = log_plain files.sizes v staged old_world.live.log

  file_used : (ino : ℕ) → (inode v ino).kind ≡ File → IsUsed v ino
  file_used ino file = ap is_used file

  -- ---- blocks of staging files

  unstaged_unseen : (ino block b : ℕ) → IsUsed v ino → disk_of v staged ino block ≡ Some b → IsUnstagedBlock v files b → ⊥
  unstaged_unseen ino block b used at is = by (entry_of_block staged ino block) refl at where
    by : (o : Option Draft) → entry_of_block staged ino block ≡ o → disk_by v o ino block ≡ Some b → ⊥
    by None entry mapped = staged_mapped v [] sane none ino b used is.staging.0 is.staging.1 block is.staging.2 is.staging.3 mapped
    by (Some d) entry there =
        let covers = covering staged ino block d entry in
        let bounds = within_bounds d.file_block d.count block covers.within in
        is.apart d covers.is (block - d.file_block) (omega (arith, bounds.0, bounds.1)) there

  unstaged_unmapped : (ino block b : ℕ) → IsUsed v ino → disk_of v [] ino block ≡ Some b → IsUnstagedBlock v files b → ⊥
  unstaged_unmapped ino block b used at is = staged_mapped v [] sane none ino b used is.staging.0 is.staging.1 block is.staging.2 is.staging.3 at

  fills_unseen : (f h : Words) → FillsUnstaged k.volume files f h → KeepsSeen k files f h
  fills_unseen f h fills = record {
    seen = λ ino i file below. seen ino i (disk_of v staged ino (i / 4096)) refl (file_used ino file);
    mapped = λ ino i file below. mapped ino i (disk_of v [] ino (i / 4096)) refl (file_used ino file);
    medium = λ ino i file below. medium ino i (disk_of k.committed [] ino (i / 4096)) refl (ap is_used file);
  } where
    small : (i : ℕ) → i % 4096 < 4096
    small i = omega arith

    seen : (ino i : ℕ) (o : Option ℕ) → disk_of v staged ino (i / 4096) ≡ o → IsUsed v ino → byte_in h o i ≡ byte_in f o i
    seen ino i None at used = refl
    seen ino i (Some b) at used = fills b (i % 4096) (disk_of-in_data v staged sane log ino (i / 4096) b used at) (small i) (unstaged_unseen ino (i / 4096) b used at)

    mapped : (ino i : ℕ) (o : Option ℕ) → disk_of v [] ino (i / 4096) ≡ o → IsUsed v ino → byte_in h o i ≡ byte_in f o i
    mapped ino i None at used = refl
    mapped ino i (Some b) at used = fills b (i % 4096) (disk_of-in_data v [] sane none ino (i / 4096) b used at) (small i) (unstaged_unmapped ino (i / 4096) b used at)

    medium : (ino i : ℕ) (o : Option ℕ) → disk_of k.committed [] ino (i / 4096) ≡ o → IsUsed k.committed ino → byte_in h o i ≡ byte_in f o i
    medium ino i None at used = refl
    medium ino i (Some b) at used =
        fills b (i % 4096)
        (subst (λ (x : Geometry). is_data_block x b ≡ true) (sym ready.geometry) (disk_of-in_data k.committed [] old_world.medium.stands.sane old_world.medium.stands.log ino (i / 4096) b used at)) (small i)
        (λ is. (old_world.blocks.staging is.staging.0 is.staging.1 b is.staging.2 is.staging.3).files ino (i / 4096) used at)

  -- ---- a tail

  cleans : (ino last : ℕ) → k.committed ≡ k.volume → (inode k.volume ino).kind ≡ File → (f h : Words) → WritesWords k.volume staged ino (size_in files ino) last [] IsNoBlock f h → KeepsSeen k files f h
  cleans ino last empty file f h writes = record {
    seen = λ j i j_file below. seen j i below (file_used j j_file) (cases_eq j ino);
    mapped = shown;
    medium = subst (λ u. KeepsShown u f h) (sym empty) shown;
  } where
    range : IsRange v staged staged ino (size_in files ino) last last IsNoBlock
    range = record { was = λ i b from below at. inr (at, below); unused = λ j block b used at never. never; unmapped = λ j block b used at never. never }

    low : (inode v ino).size ≤ size_in files ino
    low =
        let lengths = lengths_are_kept g k files count numbers start history ino ready file in
        let published = lengths.0 in
        let long = lengths.1 in
        let within = ready.going.publishing.within (number numbers ino) in
        omega (arith, published, long, within)

    seen : (j i : ℕ) → i < size_in files j → IsUsed v j → (j ≡ ino) ⊎ (j ≢ ino) → byte_in h (disk_of v staged j (i / 4096)) i ≡ byte_in f (disk_of v staged j (i / 4096)) i
    seen j i below used (inr other) = other_seen v staged staged ino (size_in files ino) last last [] IsNoBlock f h sane log none file range writes j (i / 4096) i used other
    seen j i below used (inl own) =
        subst (λ m. byte_in h (disk_of v staged m (i / 4096)) i ≡ byte_in f (disk_of v staged m (i / 4096)) i) (sym own)
        (seen_stays v staged staged ino (size_in files ino) last last [] IsNoBlock f h sane log none file range writes i (inl (subst (λ m. i < size_in files m) own below)))

    map_stays : (j i : ℕ) → i < (inode v j).size → IsUsed v j → (j ≡ ino) ⊎ (j ≢ ino) → byte_in h (disk_of v [] j (i / 4096)) i ≡ byte_in f (disk_of v [] j (i / 4096)) i
    map_stays j i below used (inr other) = other_mapped v staged staged ino (size_in files ino) last last [] IsNoBlock f h sane log none file range writes j (i / 4096) i used other
    map_stays j i below used (inl own) =
        subst (λ m. byte_in h (disk_of v [] m (i / 4096)) i ≡ byte_in f (disk_of v [] m (i / 4096)) i) (sym own)
        (mapped_stays v staged staged ino (size_in files ino) last last [] IsNoBlock f h sane log none file range writes i
        (inl (let short = subst (λ m. i < (inode v m).size) own below in omega (arith, short, low))))

    shown : KeepsShown v f h
    shown j i j_file below = map_stays j i below (file_used j j_file) (cases_eq j ino)

  -- ---- by a rule of which no byte differs that a file shows

  likewise : (Wrote : Words → Words → Type 0) → ((f h : Words) → Wrote f h → KeepsSeen k files f h) → (l : View) → HasWritten g Wrote k l
      → GoesLikewise g l files count numbers start history ready.going.front ready.going.later
  likewise Wrote keeps l wrote =
      subst (λ (m : View). GoesLikewise g m files count numbers start history ready.going.front ready.going.later) (sym wrote.same)
      (words_go l (record {
        same = wrote.same;
        order = wrote.order;
        lent = wrote.lent;
        singles = wrote.singles;
        each_image = λ i is. (
            let from = wrote.each_image i is in
            (from.0, from.1, record { beside = from.2.beside; words = keeps (journaled from.0) (journaled i) from.2.words }));
      }))

pub words_go_on : WordsGoOn
words_go_on g k l files count numbers start history ready wrote = likewise g k files count numbers start history ready (KeepsSeen k files) (λ f h keeps. keeps) l wrote

pub fills_go_on : FillsGoOn
fills_go_on g k l files count numbers start history ready wrote =
    likewise g k files count numbers start history ready (FillsUnstaged k.volume files) (fills_unseen g k files count numbers start history ready) l wrote

pub tail_goes_on : TailGoesOn
tail_goes_on g k l files count numbers start history ino last ready empty file wrote =
    likewise g k files count numbers start history ready (WritesWords k.volume (staged_of k.volume files) ino (size_in files ino) last [] IsNoBlock)
    (cleans g k files count numbers start history ready ino last empty file) l wrote
