-- Where the power goes in a commit behind a change, before the call returned.
use Rattle.batch_laws.specs.CommitsLaws.{shows_medium, spare_blocks}
use Rattle.batch_laws.specs.Standing.{sides_of}
use Rattle.batch_publish_laws.specs.Closings.{SyncLossIsKept}
use Rattle.batch_publish_laws.specs.CommittedLaws.{at_rest, committed_world}
use Rattle.batch_publish_laws.specs.JoinsLaws.{image_headed, shown_kept, world_still}
use Rattle.live_model.specs.commute_laws.posix_types.declared.tree.TreeEntry.{TreeEntry}
use Rattle.live_model.specs.crash_spec.Permitted.{StronglyPermitted}
use Rattle.live_model.specs.crash_spec.Posix.{IsLeft, LastBeforeCut, OrUnfinished, StrongPosix}
use Rattle.live_model.specs.image_model.Reading.{Reads}
use Rattle.live_model.specs.image_model.Volume.{Volume}
use Rattle.live_model.specs.k_split_model.Stands.{IsOldOrNew}
use Rattle.live_model.specs.layout_model.Journal.{journaled}
use Rattle.live_model.specs.layout_model.Places.{IsGeometry, data_blocks}
use Rattle.live_model.specs.pm_model.Images.{ComesFrom}
use Rattle.live_model.specs.pm_model.Words.{Words}
use Rattle.live_model.specs.posix_spec.Run.{after_call, begun, run, run-append}
use Rattle.live_model.specs.posix_spec.State.{State}
use Rattle.live_model.specs.world_image_laws.Changed.{ShowsLog-same}
use Rattle.live_model.specs.world_image_laws.Images.{IsHeaded, ShowsWorld}
use Rattle.live_model.specs.world_image_laws.Kept.{kept_by, one_tree}
use Rattle.live_model.specs.world_image_laws.Promised.{IsKept}
use Rattle.live_model.specs.world_image_laws.world_step_laws.world_model.Promised.{content_shown}
use Rattle.live_model.specs.world_model.Shown.{IsTreeOfContent}
use Rattle.posix_mode_laws.specs.Sides.{PosixWorld}
use Rattle.posix_mode_laws.specs.Steps.{left_weaker}
use Rattle.std.proofs.Common.{ap, arith, inl, inr, subst, sym, ◌∙◌}
use Rattle.std.specs.Prelude.{List, [], refl, true, ℕ, ◌++◌, ◌∷◌, ◌≡◌, ◌⊎◌}
use Rattle.world_write_laws.specs.image_model.Placed.{IsOutside}

pub sync_loss_is_kept : SyncLossIsKept
sync_loss_is_kept g k l files e count numbers start history item blocks w cells image ready gathered leaves changes is log = by changed.reads
  where
    second : (before : Words) × ComesFrom l.cells image before × IsOldOrNew l.committed.geometry [] l.committed l.volume before image
    second = changes.each_image image is

    first : (before : Words) × ComesFrom k.cells second.0 before × IsOldOrNew k.committed.geometry blocks k.committed k.committed before second.0
    first = gathered.changes.each_image second.0 second.1.is_image

    commit : IsOldOrNew k.committed.geometry [] k.committed l.volume second.0 image
    commit = subst (λ (v : Volume). IsOldOrNew v.geometry [] v l.volume second.0 image) gathered.committed second.2

    no_block : (i : ℕ) → IsOutside [] i
    no_block i j below = absurd (omega (arith, below))

    -- the change and the commit in one
    changed : IsOldOrNew k.committed.geometry blocks k.committed l.volume first.0 image
    changed = record {
      reads = commit.reads;
      others = λ i journal line out. commit.others i journal line (no_block i) ∙ first.2.others i journal line out;
      sound = commit.sound;
    }

    lap : l.volume.base ≡ k.committed.base
    lap = leaves.base ∙ ap (λ (v : Volume). v.base) gathered.committed

    medium : k.committed.geometry ≡ g
    medium = sym ready.geometry ∙ ready.going.geometry

    of_medium : l.volume.geometry ≡ k.committed.geometry
    of_medium = leaves.geometry ∙ ap (λ (v : Volume). v.geometry) gathered.committed

    head : IsHeaded g image
    head = image_headed g k files count numbers start history ready l.volume blocks gathered.spare.batch lap first.0 image first.1.is_image changed

    world : PosixWorld LastBeforeCut (at_rest l.volume e numbers) (journaled image) start (history ++ item ∷ []) []
    world = committed_world g k l files e count numbers start history (item ∷ []) ready leaves cells changes image is

    shown : Reads k.committed.geometry (journaled image) l.volume → ShowsWorld l.volume [] [] numbers world.medium.state 0 image
    shown reads =
        shows_medium (at_rest l.volume e numbers) (journaled image) start (history ++ item ∷ []) [] world image leaves.left.fits leaves.left.shape
        (ready.going.blocks ∙ ap data_blocks (sym leaves.left.geometry)) (subst IsGeometry (sym leaves.left.geometry) ready.going.is_geometry) (spare_blocks g l.volume leaves.left.geometry leaves.left.spare)
        (subst (λ y. IsHeaded y image) (sym leaves.left.geometry) head) (subst (λ y. Reads y (journaled image) l.volume) (sym of_medium) reads) (λ b i in_data below lent. refl)
        (ShowsLog-same k.committed l.volume [] (journaled image) (journaled image) of_medium lap (record { words = λ slot i below at. refl }) log)

    after : State
    after = after_call (run start history) (begun item)

    -- all of the history is kept, and this call
    strong : Reads k.committed.geometry (journaled image) l.volume → (left : List TreeEntry) → IsTreeOfContent (content_shown l.volume (journaled image)) left → StrongPosix start history (begun item ∷ []) left
    strong reads left tree_is = inr (inl (record {
      marks = true ∷ [];
      tree_left = (
        world.medium.state,
        left_weaker (LastBeforeCut after []) (OrUnfinished (LastBeforeCut after []) (run start history) []) (λ n i v x rule. inl rule) after world.medium.state
            (subst (λ (t : State). IsLeft (LastBeforeCut t []) t world.medium.state) (run-append start history item) world.medium.left),
        one_tree l.volume [] numbers world.medium.state 0 image left (shown reads) tree_is,
      );
    }))

    by : Reads k.committed.geometry (journaled image) k.committed ⊎ Reads k.committed.geometry (journaled image) l.volume
        → IsKept g start history (begun item ∷ []) image
    by (inl old) =
        shown_kept g k files count numbers start history (begun item ∷ []) ready image (sides_of k files ready.going.old_numbers numbers) ready.going.front ready.going.later
        ready.going.history_is medium
        (world_still g k files count numbers start history ready l.volume blocks gathered.spare.batch lap first.0 image first.1.is_image changed gathered.spare.committed) ready.going.fits_front ready.going.shape_front
        ready.going.free head old log
    by (inr new) =
        subst (λ x. IsKept x start history (begun item ∷ []) image) leaves.left.geometry
        (kept_by l.volume [] [] numbers world.medium.state 0 image start history (begun item ∷ []) (shown new)
        (λ left tree_is. subst (λ m. StronglyPermitted m start history (begun item ∷ []) left) (sym ready.going.mode) (strong new left tree_is)))
