-- A recovered device is checked where the image was.
use Rattle.std.specs.Prelude.{◌≡◌, ◌≤◌, ◌/◌, ◌*◌, ℕ, Bool, true, false, List, [], refl}
use Rattle.std.proofs.Common.{◌∙◌, sym, ap, subst, arith, inl}
use Rattle.std.proofs.Math.Path.{fun_ext}
use Rattle.world_image_laws.specs.pm_model.declared.Cell.{Cell}
use Rattle.world_image_laws.specs.pm_model.Cells.{newest}
use Rattle.world_image_laws.specs.pm_model.Images.{words_of}
use Rattle.world_image_laws.specs.pm_model.Words.{Words}
use Rattle.world_image_laws.specs.layout_model.Journal.{is_journal_word, IsSound, journaled}
use Rattle.world_image_laws.specs.layout_model.Places.{commit_word, Geometry, is_journaled_line}
use Rattle.world_image_laws.specs.image_model.Checked.{IsCheckedAs, IsLogKept}
use Rattle.world_image_laws.specs.image_model.Reading.{Reads}
use Rattle.world_image_laws.specs.image_model.Rules.{geometry_of, IsChecked}
use Rattle.world_image_laws.specs.image_model.Volume.{Volume, volume}
use Rattle.world_image_laws.specs.volume_laws.ImageLaws.{journaled-idle, journaled-other}
use Rattle.world_image_laws.specs.image_laws.CheckedLaws.{checked-parts, parts-checked}
use Rattle.world_image_laws.specs.k_split_model.Stands.{IsOldOrNew}
use Rattle.world_image_laws.specs.Changed.{headed_changed, sound_headed}
use Rattle.world_image_laws.specs.Images.{IsHeaded}
use Rattle.log_replay.specs.Laws.{IsCheckedToo, IsRecovered, RecoversChecked}

idle_word : (image : Words) (d : List Cell) → IsRecovered image d → words_of d commit_word ≡ 0
idle_word image d is = ap newest is.idle

-- words of the journal are seen as zeros
journal_seen : (f : Words) (i : ℕ) → is_journal_word i ≡ true → journaled f i ≡ 0
journal_seen f i is = rw is refl

-- the same is seen through both journals
pub seen_same : (image : Words) (d : List Cell) → IsRecovered image d → journaled (words_of d) ≡ journaled image
seen_same image d is = fun_ext (λ i. by i (is_journal_word i) refl) where
  by : (i : ℕ) (b : Bool) → is_journal_word i ≡ b → journaled (words_of d) i ≡ journaled image i
  by i true journal = journal_seen (words_of d) i journal ∙ sym (journal_seen image i journal)
  by i false out = journaled-idle (words_of d) i (idle_word image d is) out ∙ ap newest (is.words i out)

-- so it is an image of a change from the volume to itself
module _ (g : Geometry) (image : Words) (d : List Cell) (g_is : geometry_of image ≡ g) (checked : IsChecked (4096 * g.blocks) image) (is : IsRecovered image d) where
  abbrev v : Volume
  v = volume (geometry_of image) (journaled image)

  parts : IsCheckedAs (4096 * g.blocks) image v
  parts = parts-checked (4096 * g.blocks) image checked

  headed : IsHeaded g image
  headed = record { head = parts.head; geometry = g_is }

  sound : IsSound g image
  sound = sound_headed g image headed

  reads : Reads g (journaled image) v
  reads = subst (λ k. Reads k (journaled image) v) g_is parts.reads

  other_word : (i : ℕ) → is_journal_word i ≡ false → is_journaled_line g (i / 8) ≡ false → words_of d i ≡ image i
  other_word i out line = ap newest (is.words i out) ∙ journaled-other g image i sound out line

  changed : IsOldOrNew g [] v v image (words_of d)
  changed = record {
    reads = inl (subst (λ j. Reads g j v) (sym (seen_same image d is)) reads);
    others = λ i out line none. other_word i out line;
    sound = record {
      count = subst (λ n. n ≤ 128) (sym (idle_word image d is)) (omega arith);
      targets = λ r below. absurd (omega (arith, below, idle_word image d is));
    };
  }

  headed_now : IsHeaded g (words_of d)
  headed_now = headed_changed g v v image (words_of d) headed changed refl parts.reads.base

  pub recovered : IsCheckedToo g image d
  recovered = record {
    geometry = headed_now.geometry;
    seen = seen_same image d is;
    checked = checked-parts (4096 * g.blocks) (words_of d) v (record {
      head = headed_now.head;
      reads = subst (λ k. Reads k (journaled (words_of d)) v) (sym headed_now.geometry) (subst (λ j. Reads g j v) (sym (seen_same image d is)) reads);
      kept = parts.kept;
      log = subst (λ j. IsLogKept v j) (sym (seen_same image d is)) parts.log;
    });
  }

pub recovers_checked : RecoversChecked
recovers_checked g image d g_is checked is = recovered g image d g_is checked is
