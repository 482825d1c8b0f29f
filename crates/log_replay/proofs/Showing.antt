-- Images of a device that is mounted, beside the first one, wherever the power goes.
use Rattle.std.proofs.Common.{◌≡◌, ◌*◌, ℕ, true, false, List, [], length, refl, sym, ◌∙◌, ap, subst, inl}
use Rattle.k_check.specs.pm_model.declared.Cell.{Cell}
use Rattle.k_check.specs.pm_model.Cells.{AllSingle}
use Rattle.k_check.specs.pm_model.ImageLaws.{image-single, IsImage-words_of}
use Rattle.k_check.specs.pm_model.Images.{Follows, IsImage, words_of}
use Rattle.k_check.specs.pm_model.Words.{Words}
use Rattle.layout_model.specs.declared.lines.Draft.{Draft}
use Rattle.k_check.specs.layout_model.Journal.{is_journal_word, journaled}
use Rattle.k_check.specs.layout_model.Places.{commit_word, Geometry}
use Rattle.k_check.specs.image_model.Checked.{IsCheckedAs, IsLogKept}
use Rattle.k_check.specs.image_model.Content.{content_of}
use Rattle.k_check.specs.image_model.Reading.{Reads}
use Rattle.k_check.specs.image_model.Rules.{geometry_of, IsChecked}
use Rattle.k_check.specs.image_model.Volume.{Volume, volume}
use Rattle.staging_files.specs.image_laws.CheckedLaws.{checked-parts, parts-checked}
use Rattle.k_check.specs.k_journal.Recoveries.{KeepsView}
use Rattle.log_replay.proofs.Devices.{home-device}
use Rattle.log_replay.proofs.Shown.{shown-then}
use Rattle.log_replay.specs.Sheds.{IsSameDevice, IsSettled, StaysShown, StillShows}
use Rattle.staging_files.specs.k_split_model.Stands.{IsOldOrNew}
use Rattle.staging_files.specs.k_split_model.View.{View}
use Rattle.log_replay.specs.Replays.{IsReplayed, MayReplay, ShowsTheSame}
use Rattle.world_image_laws.specs.Changed.{headed_changed, sound_headed}
use Rattle.world_image_laws.specs.Images.{IsHeaded}
use Rattle.log_replay.specs.Mounts.{IsLeft}
use Rattle.log_replay.specs.Sweeps.{AreSwept}

still-same : (g : Geometry) (a b : Words) → ShowsTheSame g a b → StillShows g a b
still-same g a b is = record { numbers = is.numbers; checked = is.checked; same = λ path. ap (λ c. c path) is.same }

-- all images of a device that show the same, and so the honest ones
pub shown-same : (g : Geometry) (a d : List Cell) → AllSingle a → Follows (ShowsTheSame g) a d → StaysShown g (words_of a) d
shown-same g a d single images image is honest =
    let from = images image is in
    still-same g (words_of a) image (subst (λ before. ShowsTheSame g before image) (image-single a from.0 single from.1.is_image) from.2)

-- ---- the stages

pub still-swept : (k k2 : View) → AreSwept k k2 → StillShows k.volume.geometry (words_of k.cells) (words_of k2.cells)
still-swept k k2 is = record {
  numbers = is.shows.quiet.numbers ∙ is.shows.geometry;
  checked =
      subst (λ (h : Geometry). IsChecked (4096 * h.blocks) (words_of k2.cells)) is.shows.geometry
      (checked-parts (4096 * k2.volume.geometry.blocks) (words_of k2.cells) k2.volume is.shows.quiet.checked);
  same = λ path. ap (λ c. c path) is.shows.same;
}

pub still-settled : (k k2 : View) → IsSettled k.volume.geometry (words_of k.cells) k2 → StillShows k.volume.geometry (words_of k.cells) (words_of k2.cells)
still-settled k k2 is = record {
  numbers = is.numbers;
  checked = checked-parts (4096 * k.volume.geometry.blocks) (words_of k2.cells) k2.volume is.checked;
  same = is.shows;
}

pub geometry-settled : (k k2 : View) → IsSettled k.volume.geometry (words_of k.cells) k2 → k2.volume.geometry ≡ k.volume.geometry
geometry-settled k k2 is = is.checked.reads.geometry ∙ is.numbers

-- settled, and then reset
pub images-closed : (k k2 k3 : View) → IsSettled k.volume.geometry (words_of k.cells) k2 → Follows (ShowsTheSame k2.volume.geometry) k2.cells k3.cells
    → StaysShown k.volume.geometry (words_of k.cells) k3.cells
images-closed k k2 k3 settled images =
    shown-then k.volume.geometry k2.volume.geometry (words_of k.cells) (words_of k2.cells) k3.cells (geometry-settled k k2 settled) (still-settled k k2 settled)
    (shown-same k2.volume.geometry k2.cells k3.cells settled.rest.single images)

-- swept, and then closed
pub images-finished : (k k2 k3 : View) → AreSwept k k2 → StaysShown k2.volume.geometry (words_of k2.cells) k3.cells → StaysShown k.volume.geometry (words_of k.cells) k3.cells
images-finished k k2 k3 is images =
    shown-then k.volume.geometry k2.volume.geometry (words_of k.cells) (words_of k2.cells) k3.cells is.shows.geometry (still-swept k k2 is) images

-- carried out, and then finished
pub images-recovered : (ds : List Draft) (k k2 k3 : View) → MayReplay k ds → IsReplayed k k2 → Follows (ShowsTheSame k.volume.geometry) k.cells k2.cells
    → StaysShown k2.volume.geometry (words_of k2.cells) k3.cells → StaysShown k.volume.geometry (words_of k.cells) k3.cells
images-recovered ds k k2 k3 may done first images =
    shown-then k.volume.geometry k2.volume.geometry (words_of k.cells) (words_of k2.cells) k3.cells done.geometry still images
  where
    still : StillShows k.volume.geometry (words_of k.cells) (words_of k2.cells)
    still =
        let from = first (words_of k2.cells) (IsImage-words_of k2.cells) in
        still-same k.volume.geometry (words_of k.cells) (words_of k2.cells)
        (subst (λ before. ShowsTheSame k.volume.geometry before (words_of k2.cells)) (image-single k.cells from.0 may.rest.single from.1.is_image) from.2)

-- ---- an image while the journal is recovered

module _ (g : Geometry) (before image : Words) (numbers : geometry_of before ≡ g) (checked : IsChecked (4096 * g.blocks) before) (keeps : KeepsView g before image) where
  abbrev v : Volume
  v = volume (geometry_of before) (journaled before)

  parts : IsCheckedAs (4096 * g.blocks) before v
  parts = parts-checked (4096 * g.blocks) before checked

  headed : IsHeaded g before
  headed = record { head = parts.head; geometry = numbers }

  reads-now : Reads g (journaled image) v
  reads-now = subst (λ j. Reads g j v) (sym keeps.view) (subst (λ k. Reads k (journaled before) v) numbers parts.reads)

  no-commit : (i : ℕ) → is_journal_word i ≡ false → i ≡ commit_word → ⊥
  no-commit i out at = let never : false ≡ true = sym out ∙ ap is_journal_word at in cc

  changed : IsOldOrNew g [] v v before image
  changed = record {
    reads = inl reads-now;
    others = λ i out line none. keeps.others i line (no-commit i out);
    sound = keeps.sound (sound_headed g before headed);
  }

  headed-now : IsHeaded g image
  headed-now = headed_changed g v v before image headed changed refl parts.reads.base

  pub still-viewed : StillShows g before image
  still-viewed = record {
    numbers = headed-now.geometry;
    checked = checked-parts (4096 * g.blocks) image v (record {
      head = headed-now.head;
      reads = subst (λ k. Reads k (journaled image) v) (sym headed-now.geometry) reads-now;
      kept = parts.kept;
      log = subst (λ j. IsLogKept v j) (sym keeps.view) parts.log;
    });
    same = λ path. ap (λ j. content_of g j path) keeps.view;
  }

-- ---- what is left of a device

pub left-viewed : (g : Geometry) (pm left : List Cell) → geometry_of (words_of pm) ≡ g → IsChecked (4096 * g.blocks) (words_of pm)
    → ((x : Words) → IsImage left x → KeepsView g (words_of pm) x) → StaysShown g (words_of pm) left
left-viewed g pm left numbers checked views x is honest = still-viewed g (words_of pm) x numbers checked (views x is)

-- of K-Split's device
pub left-opened : (g : Geometry) (pm left : List Cell) (k : View) → AllSingle pm → length pm ≡ 512 * g.blocks → k.cells ≡ pm → k.volume.geometry ≡ g
    → IsSameDevice k.cells left → StaysShown k.volume.geometry (words_of k.cells) left → IsLeft g (words_of pm) left
left-opened g pm left k single size cells geometry device shown = record {
  size = device.size ∙ ap length cells ∙ size;
  home = home-device k.cells left (subst AllSingle (sym cells) single) device;
  shown = subst (λ d. StaysShown g (words_of d) left) cells (subst (λ h. StaysShown h (words_of k.cells) left) geometry shown);
}

-- of a device that was recovered from an image
pub left-recovered : (g : Geometry) (image : Words) (d left : List Cell) → journaled (words_of d) ≡ journaled image → IsLeft g (words_of d) left → IsLeft g image left
left-recovered g image d left view is = record {
  size = is.size;
  home = is.home;
  shown = λ x image_is honest.
      let here = is.shown x image_is honest in
      record { numbers = here.numbers; checked = here.checked; same = λ path. here.same path ∙ ap (λ j. content_of g j path) view };
}
