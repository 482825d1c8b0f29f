-- What a crash finds of the device while its log lines are out.
use Rattle.std.specs.Prelude.{◌≡◌, ◌≤◌, ◌+◌, ◌^◌, ℕ, List, [], ◌∷◌, ◌++◌, length, Option, refl}
use Rattle.std.proofs.Common.{arith, ap, ◌∙◌, sym, subst, inl, inr}
use Rattle.eof_laws.specs.live_model.pm_model.declared.Cell.{Cell}
use Rattle.eof_laws.specs.live_model.pm_model.Images.{IsImage}
use Rattle.eof_laws.specs.live_model.pm_model.Words.{Words}
use Rattle.eof_laws.specs.live_model.layout_model.Journal.{journaled}
use Rattle.eof_laws.specs.live_model.layout_model.Places.{base_word, data_blocks, Geometry, IsGeometry}
use Rattle.eof_laws.specs.live_model.image_model.Volume.{Volume}
use Rattle.eof_laws.specs.live_model.file_table.Files.{Files}
use Rattle.eof_laws.specs.live_model.k_split.Answers.{Changes}
use Rattle.eof_laws.specs.live_model.k_split_model.View.{View}
use Rattle.eof_laws.specs.live_model.commute_laws.posix_types.declared.item.Item.{Item}
use Rattle.eof_laws.specs.live_model.posix_spec.Run.{Unfinished}
use Rattle.eof_laws.specs.live_model.posix_spec.State.{State}
use Rattle.eof_laws.specs.live_model.crash_spec.Posix.{LastBeforeCut}
use Rattle.eof_laws.specs.live_model.world_image_laws.Back.{calls_in_log, IsKeptBack, IsPutBack, jobs_in_log}
use Rattle.eof_laws.specs.live_model.world_image_laws.Changed.{ShowsLog-same}
use Rattle.eof_laws.specs.live_model.world_image_laws.Flights.{image_of, shows_back}
use Rattle.eof_laws.specs.live_model.world_image_laws.Images.{IsHeaded, ShowsLog, ShowsWorld}
use Rattle.eof_laws.specs.live_model.world_image_laws.Promised.{IsKept}
use Rattle.posix_mode_laws.specs.Sides.{PosixWorld, Sides}
use Rattle.batch_laws.specs.Backs.{LossKeepsBack, PosixKeepsBack, ReadyKeepsBack}
use Rattle.batch_laws.specs.CommitsLaws.{cut_kept, headed, kept, shows_medium}
use Rattle.batch_laws.specs.Losses.{IsBegun}
use Rattle.batch_laws.specs.LossesLaws.{begin_goes_on}
use Rattle.batch_laws.specs.Ready.{GoesReady}
use Rattle.batch_laws.specs.Standing.{PosixGoing, sides_of}

-- without a job no call is in the log, and none landed
no_jobs : (slots : List (Option ℕ)) → jobs_in_log slots [] ≡ []
no_jobs [] = refl
no_jobs (o ∷ slots) = refl

no_calls : (slots : List (Option ℕ)) (unfinished : List Unfinished) → calls_in_log slots [] ++ unfinished ≡ unfinished
no_calls [] unfinished = refl
no_calls (o ∷ slots) unfinished = refl

-- ---- the log of an image

module _ (g : Geometry) (k : View) (files : Files) (count : ℕ) (numbers : List ℕ) (start : State) (history : List Item) (ready : GoesReady g k files count numbers start history) where
  abbrev going : PosixGoing g k files count numbers start history
  going = ready.going

  -- the geometry is that of the medium
  abbrev medium : k.committed.geometry ≡ g
  medium = sym ready.geometry ∙ going.geometry

  -- no slot has a number past 64 bits
  small : (image : Words) → IsHeaded g image → k.volume.base ≡ journaled image base_word → k.volume.base + k.volume.geometry.log ≤ 2 ^ 64
  small image head base =
      let most = head.head.state.most_base in
      let few = going.is_geometry.most_log in
      omega (arith, most, few, base, ap (λ (x : Geometry). x.log) going.geometry)

  -- an image with its lines put back shows no entry, over the medium
  shows_no_entry : (d : List Cell) (back : ℕ → Cell) (first : Words) (slots : List (Option ℕ)) (image : Words) → IsHeaded g image → k.volume.base ≡ journaled image base_word
      → IsPutBack k.volume d back first [] [] slots image → ShowsLog k.committed [] (journaled image)
  shows_no_entry d back first slots image head base put =
      let shown = shows_back k.volume d [] [] back first slots image (subst (λ x. IsHeaded x image) (sym going.geometry) head) (small image head base) put in
      ShowsLog-same k.volume k.committed [] (journaled image) (journaled image) (sym ready.geometry) (sym ready.base) (record { words = λ slot i below at. refl }) shown.log

  -- ---- an image of the device

  module _ (image : Words) (is : IsImage k.cells image) (seen : ShowsLog k.committed [] (journaled image)) where
    abbrev sides : Sides
    sides = sides_of k files ready.going.old_numbers numbers

    abbrev world : PosixWorld LastBeforeCut sides (journaled image) start ready.going.front ready.going.later
    world = ready.going.world image is

    shows : ShowsWorld k.committed [] [] ready.going.old_numbers world.medium.state 0 image
    shows =
        shows_medium sides (journaled image) start going.front going.later world image going.fits_front going.shape_front
        (going.blocks ∙ ap data_blocks (sym medium)) (subst IsGeometry (sym medium) going.is_geometry) going.free (subst (λ x. IsHeaded x image) (sym medium) (going.headed image is))
        (going.order.stands.reads image is) (λ b i in_data below lent. refl) seen

    image_kept : (unfinished : List Unfinished) → IsKept g start history unfinished image
    image_kept unfinished =
        subst (λ h. IsKept g start h unfinished image) (sym going.history_is)
        (subst (λ x. IsKept x start (going.front ++ going.later) unfinished image) medium
        (kept sides (journaled image) start going.front going.later world image unfinished shows going.mode))

  base_of : (image : Words) → IsImage k.cells image → k.volume.base ≡ journaled image base_word
  base_of image is = ready.base ∙ (going.order.stands.reads image is).base

-- ---- between two calls

pub ready_keeps_back : ReadyKeepsBack
ready_keeps_back g k files count numbers start history first unfinished ready back slots image put =
    let is = image_of k.cells back image put.image_is in
    let seen = shows_no_entry g k files count numbers start history ready k.cells back first slots image (ready.going.headed image is) (base_of g k files count numbers start history ready image is) put in
    subst (λ cs. IsKept k.volume.geometry start history cs image) (sym (no_calls slots unfinished))
    (subst (λ x. IsKept x start history unfinished image) (sym ready.going.geometry)
    (image_kept g k files count numbers start history ready image is seen unfinished))

pub posix_keeps_back : PosixKeepsBack
posix_keeps_back g k t kept lines_out n start history unfinished stands =
    ready_keeps_back g k kept.files stands.count stands.numbers start history kept.first unfinished stands.ready

-- ---- within a call

-- the base of an image within the commit is that of both volumes
cut_base : (g : Geometry) (k : View) (files : Files) (count : ℕ) (numbers : List ℕ) (start : State) (history : List Item) (ready : GoesReady g k files count numbers start history) (d : List Cell) (image : Words) → IsImage d image
    → Changes k.committed k.volume k.cells d → k.volume.base ≡ journaled image base_word
cut_base g k files count numbers start history ready d image is changes =
    let from = changes.each_image image is in
    elim from.2.reads [
      | inl old ↦ ready.base ∙ old.base
      | inr new ↦ new.base
    ]

-- the volume stays behind a begin
same : {k mid : View} → IsBegun k mid → mid.volume ≡ k.volume
same (inl is) = ap (λ (m : View). m.volume) is
same (inr committed) = committed.volume

cut_keeps_back : (g : Geometry) (k l : View) (files : Files) (count : ℕ) (numbers : List ℕ) (start : State) (history : List Item) (first : Words) (unfinished : List Unfinished)
    → GoesReady g k files count numbers start history → Changes k.committed k.volume k.cells l.cells → IsKeptBack k.volume l.cells first [] [] start history unfinished
cut_keeps_back g k l files count numbers start history first unfinished ready changes back slots image put =
    let is = image_of l.cells back image put.image_is in
    let from = changes.each_image image is in
    let head = headed g k files count numbers start history ready from.0 image from.1.is_image from.2 in
    let seen = shows_no_entry g k files count numbers start history ready l.cells back first slots image head (cut_base g k files count numbers start history ready l.cells image is changes) put in
    subst (λ cs. IsKept k.volume.geometry start history cs image) (sym (no_calls slots unfinished))
    (subst (λ x. IsKept x start history unfinished image) (sym ready.going.geometry)
    (cut_kept g k files count numbers start history ready from.0 image from.1.is_image from.2 seen unfinished))

pub loss_keeps_back : LossKeepsBack
loss_keeps_back g k l files count numbers start history first unfinished ready (inl changes) = cut_keeps_back g k l files count numbers start history first unfinished ready changes
loss_keeps_back g k l files count numbers start history first unfinished ready (inr begun) =
    let mid = begun.0 in
    let behind = begin_goes_on g k mid files count numbers start history ready begun.1 in
    subst (λ (v : Volume). IsKeptBack v l.cells first [] [] start history unfinished) (same begun.1)
    (subst (λ (d : List Cell). IsKeptBack mid.volume d first [] [] start history unfinished) (sym begun.2)
    (ready_keeps_back g mid files count numbers start history first unfinished behind))
