-- The batch is committed behind a change of maps, before the call returns.
use Rattle.batch_laws.specs.Commits.{GoesCommitted, IsCommitted}
use Rattle.batch_laws.specs.CommitsLaws.{spare_blocks}
use Rattle.batch_laws.specs.Ready.{GoesReady}
use Rattle.batch_laws.specs.Standing.{PosixGoing, sides_of, staged_of}
use Rattle.batch_publish_laws.specs.Changes.{BatchComesFrom, BatchIsCommitted, LeavesBatch}
use Rattle.batch_publish_laws.specs.Named.{SameNamed, stands_same}
use Rattle.live_model.specs.commute_laws.posix_types.declared.item.Item.{Item}
use Rattle.live_model.specs.crash_spec.Posix.{LastBeforeCut}
use Rattle.live_model.specs.file_table.Files.{Files}
use Rattle.live_model.specs.image_model.Volume.{Volume}
use Rattle.live_model.specs.k_split.Answers.{Changes}
use Rattle.live_model.specs.k_split.Order.{IsInOrder}
use Rattle.live_model.specs.k_split_model.Stands.{IsOldOrNew}
use Rattle.live_model.specs.k_split_model.View.{View}
use Rattle.live_model.specs.layout_model.Journal.{IsSound, journaled}
use Rattle.live_model.specs.layout_model.Places.{Geometry, is_data_block}
use Rattle.live_model.specs.pm_model.Images.{ComesFrom, IsImage}
use Rattle.live_model.specs.pm_model.Words.{Words}
use Rattle.live_model.specs.pm_model.declared.Cell.{Cell}
use Rattle.live_model.specs.posix_spec.Run.{run}
use Rattle.live_model.specs.posix_spec.State.{State}
use Rattle.live_model.specs.world_image_laws.Changed.{headed_changed, same_data, sound_headed}
use Rattle.live_model.specs.world_image_laws.Images.{IsHeaded}
use Rattle.live_model.specs.world_model.Stands.{IsSane, Stands}
use Rattle.posix_mode_laws.specs.Sides.{AreLengths, BatchStands, PosixWorld, Sides, sized}
use Rattle.posix_mode_laws.specs.Steps.{batch_commits}
use Rattle.std.proofs.Common.{ap, append-nil, append_assoc, subst, sym, ◌∙◌}
use Rattle.std.specs.Prelude.{List, [], refl, true, ℕ, ◌++◌, ◌≡◌}
use Rattle.world_write_laws.specs.world_model.Lent.{in_data}

abbrev pub at_rest : Volume → Files → List ℕ → Sides
at_rest v files numbers = record { committed = v; committed_numbers = numbers; batch = v; numbers = numbers; staged = staged_of v files; lengths = files.sizes }

-- ---- an image within the commit, or behind it

module _ (g : Geometry) (k l : View) (files e : Files) (count : ℕ) (numbers : List ℕ) (start : State) (history more : List Item) (ready : GoesReady g k files count numbers start history)
    (leaves : LeavesBatch g k l files e count numbers start history more ready.going) (cells : List Cell) (changes : Changes l.committed l.volume l.cells cells) where
  abbrev going : PosixGoing g k files count numbers start history
  going = ready.going

  abbrev sides : Sides
  sides = sides_of l e ready.going.old_numbers numbers

  abbrev whole : List Item
  whole = history ++ more

  medium : l.committed.geometry ≡ g
  medium = sym leaves.geometry ∙ leaves.left.geometry

  whole_is : going.front ++ (going.later ++ more) ≡ whole
  whole_is = sym (append_assoc going.front going.later more) ∙ ap (λ (h : List Item). h ++ more) (sym going.history_is)

  module _ (image : Words) (is : IsImage cells image) where
    from : (before : Words) × ComesFrom l.cells image before × IsOldOrNew l.committed.geometry [] l.committed l.volume before image
    from = changes.each_image image is

    comes : BatchComesFrom g k l files e count numbers start history more going from.0
    comes = leaves.comes from.0 from.1.is_image

    sound : IsSound l.committed.geometry from.0
    sound = subst (λ x. IsSound x from.0) (sym medium) (sound_headed g from.0 comes.headed)

    pub headed : IsHeaded g image
    headed =
        subst (λ x. IsHeaded x image) medium
        (headed_changed l.committed.geometry l.committed l.volume from.0 image (subst (λ x. IsHeaded x from.0) (sym medium) comes.headed) from.2 leaves.base
        (leaves.left.order.stands.reads from.0 from.1.is_image).base)

    same_in : (u : Volume) → IsSane u → u.geometry ≡ g → SameNamed u (journaled from.0) (journaled image)
    same_in u sane same = record {
      each = λ ino block b i below at within.
          same_data l.committed.geometry l.committed l.volume from.0 image sound from.2 b i (subst (λ x. is_data_block x b ≡ true) (same ∙ sym medium) (in_data u sane ino block b below at)) within;
    }

    pub committed_world : PosixWorld LastBeforeCut (at_rest l.volume e numbers) (journaled image) start whole []
    committed_world =
        let batch = subst (λ h. BatchStands sides (journaled from.0) (run start h)) whole_is comes.batch.cut in
        let live = subst (λ h. Stands (sized e.sizes l.volume) (staged_of l.volume e) (journaled from.0) numbers (run start h)) whole_is comes.batch.live in
        batch_commits sides (journaled image) start whole
        (record {
          state = batch.state;
          shape = batch.shape;
          left = batch.left;
          stands = stands_same l.volume [] (journaled from.0) (journaled image) batch.stands.log (same_in l.volume batch.stands.sane leaves.left.geometry) numbers batch.state batch.stands;
        })
        (stands_same (sized e.sizes l.volume) (staged_of l.volume e) (journaled from.0) (journaled image) live.log (same_in (sized e.sizes l.volume) live.sane leaves.left.geometry) numbers (run start whole) live)
        (subst (λ h. AreLengths sides (run start h)) whole_is comes.batch.lengths)

-- ---- the commit is done

module _ (g : Geometry) (k l m : View) (files e : Files) (count : ℕ) (numbers : List ℕ) (start : State) (history more : List Item) (ready : GoesReady g k files count numbers start history)
    (leaves : LeavesBatch g k l files e count numbers start history more ready.going) (committed : IsCommitted l m) where
  abbrev standing : PosixGoing g k files count numbers start history
  standing = ready.going

  abbrev at_new : View
  at_new = record m { volume = l.volume; committed = l.volume }

  is_new : m ≡ at_new
  is_new = λ i. record m { volume = committed.volume i; committed = committed.committed i }

  goes_committed : GoesCommitted g at_new e count numbers start (history ++ more)
  goes_committed = record {
    ready = record {
      going = record {
        mode = standing.mode;
        order = subst IsInOrder is_new committed.order;
        batched = committed.batched;
        on = committed.on;
        geometry = leaves.left.geometry;
        is_geometry = standing.is_geometry;
        publishing = leaves.left.publishing;
        fits = leaves.left.fits;
        shape = leaves.left.shape;
        blocks = standing.blocks;
        quiet = λ i journal line home. committed.singles i (leaves.left.quiet i journal line (sym (committed.changes.lent i) ∙ home));
        home = λ i lent. leaves.left.home i (sym (committed.changes.lent i) ∙ lent);
        sizes = leaves.left.sizes;
        bare = leaves.left.bare;
        alive = leaves.left.alive;
        aged = leaves.left.aged;
        spare = leaves.left.spare;
        front = history ++ more;
        later = [];
        history_is = sym (append-nil (history ++ more));
        old_numbers = numbers;
        world = committed_world g k l files e count numbers start history more ready leaves m.cells committed.changes;
        headed = headed g k l files e count numbers start history more ready leaves m.cells committed.changes;
        fits_front = leaves.left.fits;
        shape_front = leaves.left.shape;
        free = spare_blocks g l.volume leaves.left.geometry leaves.left.spare;
      };
      geometry = refl;
      base = refl;
      unmapped = leaves.unmapped;
      room = leaves.room;
    };
    front = refl;
    later = refl;
  }

pub batch_is_committed : BatchIsCommitted
batch_is_committed g k l m files e count numbers start history more ready leaves committed =
    subst (λ (x : View). GoesCommitted g x e count numbers start (history ++ more)) (sym (is_new g k l m files e count numbers start history more ready leaves committed))
    (goes_committed g k l m files e count numbers start history more ready leaves committed)
