-- A write that stages nothing: the device goes on.
use Rattle.std.specs.Prelude.{min, refl}
use Rattle.std.proofs.Common.{arith, ◌∙◌, sym}
use Rattle.live_model.specs.pm_model.Images.{ComesFrom, IsImage}
use Rattle.live_model.specs.pm_model.Words.{Words}
use Rattle.live_model.specs.layout_model.Journal.{journaled}
use Rattle.live_model.specs.layout_model.Places.{Geometry}
use Rattle.live_model.specs.image_model.Volume.{inode}
use Rattle.live_model.specs.k_split_model.View.{View}
use Rattle.live_model.specs.posix_laws.Puts.{put_bytes}
use Rattle.live_model.specs.posix_spec.Run.{run}
use Rattle.live_model.specs.world_image_laws.Images.{IsHeaded}
use Rattle.live_model.specs.Standing.{IsQuietBeside}
use Rattle.batch_laws.specs.Standing.{staged_of}
use Rattle.batch_write_laws.specs.Behind.{ComesWritten, goes_behind, IsKeptBehind}
use Rattle.batch_write_laws.specs.Cutting.{cut_behind}
use Rattle.batch_write_laws.specs.Heads.{headed_low, low_beside}
use Rattle.batch_write_laws.specs.MediumWrites.{writes_published}
use Rattle.batch_write_laws.specs.Seen.{range_in, seen_behind}
use Rattle.batch_write_laws.specs.Words.{WritesWords, put_end}
use Rattle.batch_write_laws.specs.Writes.{HasWritten, InPlaceGoesOn, IsNoBlock, WritesData}

-- the head stays right
pub headed_written : (g : Geometry) (Wrote : Words → Words → Type 0) (before image : Words) → WritesData g Wrote before image → IsHeaded g before → IsHeaded g image
headed_written g Wrote before image wrote headed = headed_low g before image headed (λ w low. wrote.beside w (low_beside g w low))

-- and words that were single are so
pub quiet_written : (g : Geometry) (Wrote : Words → Words → Type 0) (k l : View) → HasWritten g Wrote k l → IsQuietBeside g k.cells → IsQuietBeside g l.cells
quiet_written g Wrote k l wrote quiet i journal line home = wrote.singles i (quiet i journal line (sym (wrote.lent i) ∙ home))

pub in_place_goes_on : InPlaceGoesOn
in_place_goes_on g k l files count numbers start history item ino p ready puts within settled wrote =
    goes_behind g k l files files count numbers start history item ino p p.place (min (put_end p) (inode k.volume ino).size) ready puts kept wrote.same wrote.order
    (quiet_written g Wrote k l wrote ready.going.quiet) wrote.lent comes
  where
    Wrote : Words → Words → Type 0
    Wrote = WritesWords k.volume (staged_of k.volume files) ino p.place (put_end p) (put_bytes (run start history) p) IsNoBlock

    kept : IsKeptBehind g k files files count numbers start history ino ready
    kept = record {
      count_is = refl;
      others = λ j other. (refl, refl);
      alive = ready.going.alive;
      aged = ready.going.aged;
      room = ready.room;
      covers = λ j block none. none;
      got = λ i b past below at none. absurd (omega (arith, past, below));
    }

    comes : (image : Words) → IsImage l.cells image → ComesWritten g k files files count numbers start history item ino p.place (min (put_end p) (inode k.volume ino).size) ready image
    comes image is = by (wrote.each_image image is) where
      by : (from : (before : Words) × ComesFrom k.cells image before × WritesData g Wrote before image) → ComesWritten g k files files count numbers start history item ino p.place (min (put_end p) (inode k.volume ino).size) ready image
      by from =
          let is_before = from.1.is_image in
          let words = from.2.words in
          let range = range_in g k files count numbers start history item ino p ready puts from.0 is_before within (journaled image) words in
          record {
            before = from.0;
            is = is_before;
            live = seen_behind g k files count numbers start history item ino p ready puts from.0 is_before within (journaled image) words;
            cut = cut_behind g k files count numbers start history item ino p ready puts (staged_of k.volume files) IsNoBlock from.0 (journaled image) is_before range words;
            written = writes_published g k files count numbers start history item ino p ready puts (staged_of k.volume files) IsNoBlock from.0 (journaled image) is_before range words settled (λ b never. absurd never);
            headed = headed_written g Wrote from.0 image from.2 (ready.going.headed from.0 is_before);
          }
