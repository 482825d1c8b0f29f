-- A write that stages a run: the device goes on.
use Rattle.std.specs.Prelude.{◌≡◌, ◌<◌, ◌≤◌, ◌+◌, ◌/◌, ℕ, List, [], ◌∷◌, ◌++◌, length, min, Option, Some, None}
use Rattle.std.proofs.Common.{arith, ap, ◌∙◌}
use Rattle.live_model.specs.pm_model.ImageLaws.{IsImage-words_of}
use Rattle.live_model.specs.pm_model.Images.{ComesFrom, words_of}
use Rattle.live_model.specs.pm_model.Words.{Words}
use Rattle.live_model.specs.layout_model.Journal.{journaled}
use Rattle.live_model.specs.layout_model.Places.{Geometry}
use Rattle.live_model.specs.layout_model.declared.lines.Draft.{Draft}
use Rattle.live_model.specs.image_model.Content.{disk_by, disk_of, entry_of_block}
use Rattle.live_model.specs.image_model.Volume.{inode, Volume}
use Rattle.live_model.specs.file_overlay.declared.runs.Run.{Run}
use Rattle.live_model.specs.file_table.Files.{Files, size_in}
use Rattle.live_model.specs.k_split_model.View.{View}
use Rattle.live_model.specs.commute_laws.posix_types.declared.item.Item.{Item}
use Rattle.live_model.specs.posix_laws.Puts.{put_bytes}
use Rattle.live_model.specs.posix_spec.Put.{Put}
use Rattle.live_model.specs.posix_spec.Run.{run}
use Rattle.live_model.specs.posix_spec.State.{State}
use Rattle.posix_mode_laws.specs.Sides.{IsFresh}
use Rattle.batch_laws.specs.Ready.{GoesReady}
use Rattle.batch_laws.specs.Standing.{sides_of, staged_of}
use Rattle.batch_write_laws.specs.Behind.{ComesWritten, goes_behind, IsKeptBehind}
use Rattle.batch_write_laws.specs.Cutting.{cut_behind}
use Rattle.batch_write_laws.specs.InPlaceLaws.{headed_written, quiet_written}
use Rattle.batch_write_laws.specs.MediumWrites.{writes_published}
use Rattle.batch_write_laws.specs.StagedLaws.{one_more}
use Rattle.batch_write_laws.specs.StagedSeen.{aged_behind, alive_behind, bare, covers, longer, none_within, not_within, range, some_stands, staged_behind}
use Rattle.batch_write_laws.specs.Words.{put_end}
use Rattle.batch_write_laws.specs.Writes.{AreSettledIn, HasTheRest, HasWritten, IsBlockOf, IsGapClear, LaysRun, PutsInto, StagedGoesOn, StagesWords, WritesData}

module _ (g : Geometry) (k l : View) (files e : Files) (count : ℕ) (numbers : List ℕ) (start : State) (history : List Item) (item : Item) (ino : ℕ) (p : Put) (r : Run)
    (ready : GoesReady g k files count numbers start history) (puts : PutsInto k.volume numbers (run start history) item ino p)
    (laid : LaysRun k.volume files e ino (length (put_bytes (run start history) p)) r) (rest : HasTheRest r (size_in files ino) p) (gap : IsGapClear g k files count numbers start history ino r ready) where
  abbrev v : Volume
  v = k.volume

  abbrev staged : List Draft
  staged = staged_of k.volume files

  -- where nothing is staged the calls see the file's own map
  own_map : (i b : ℕ) → entry_of_block staged ino (i / 4096) ≡ None → disk_of v [] ino (i / 4096) ≡ Some b → disk_of v staged ino (i / 4096) ≡ Some b
  own_map i b none at = ap (λ (o : Option Draft). disk_by v o ino (i / 4096)) none ∙ at

  pub kept : IsKeptBehind g k files e count numbers start history ino ready
  kept = record {
    count_is = laid.count;
    others = laid.others;
    alive = alive_behind g k files e count numbers start history item ino p r ready puts laid rest;
    aged = aged_behind g k files e count numbers start history item ino p r ready puts laid rest;
    room =
        let room = laid.room in
        let more =
        one_more v files e ino (length (put_bytes (run start history) p)) r ready.going.sizes puts.file (bare g k files e count numbers start history item ino p r ready puts laid rest)
        (some_stands g k files e count numbers start history item ino p r ready puts laid rest).log laid
        in
        omega (arith, room, more);
    covers = covers g k files e count numbers start history item ino p r ready puts laid rest;
    got = got;
  } where
    got : (i b : ℕ) → size_in files ino ≤ i → i < size_in e ino → disk_of v [] ino (i / 4096) ≡ Some b → entry_of_block (staged_of v e) ino (i / 4096) ≡ None → ready.going.later ≡ []
    got i b past below at none =
        let beside = none_within g k files e count numbers start history item ino p r ready puts laid rest (i / 4096) none in
        let ends = rest.ends in
        let size = laid.size_is in
        let long = longer g k files e count numbers start history item ino p r ready puts laid rest in
        let short = not_within r.file_block r.count i beside (omega (arith, below, ends, size, long)) in
        (gap i b past short (own_map i b (covers g k files e count numbers start history item ino p r ready puts laid rest ino (i / 4096) none) at)).0

  -- a block of the run is fresh
  fresh_run : (b : ℕ) → IsBlockOf v r b → IsFresh k.committed b
  fresh_run b is = (ready.going.world (words_of k.cells) (IsImage-words_of k.cells)).blocks.staging r.staging (r.staging_block + is.0) b laid.staging is.2

  pub staged_goes : AreSettledIn (sides_of k files ready.going.old_numbers numbers) ino p.place (put_end p)
      → HasWritten g (StagesWords k.volume files e ino p.place (put_end p) (put_bytes (run start history) p) r) k l → GoesReady g l e count numbers start (history ++ item ∷ [])
  staged_goes settled wrote =
      goes_behind g k l files e count numbers start history item ino p p.place (min (put_end p) (inode k.volume ino).size) ready puts kept wrote.same wrote.order
      (quiet_written g (StagesWords v files e ino p.place (put_end p) (put_bytes (run start history) p) r) k l wrote ready.going.quiet) wrote.lent
      (λ image is. comes image (wrote.each_image image is))
    where
      comes : (image : Words) → (before : Words) × ComesFrom k.cells image before × WritesData g (StagesWords v files e ino p.place (put_end p) (put_bytes (run start history) p) r) before image
          → ComesWritten g k files e count numbers start history item ino p.place (min (put_end p) (inode k.volume ino).size) ready image
      comes image from =
          let is_before = from.1.is_image in
          let words = from.2.words in
          let places = range g k files e count numbers start history item ino p r ready puts laid rest in
          record {
            before = from.0;
            is = is_before;
            live = staged_behind g k files e count numbers start history item ino p r ready puts laid rest gap from.0 (journaled image) is_before words;
            cut = cut_behind g k files count numbers start history item ino p ready puts (staged_of v e) (IsBlockOf v r) from.0 (journaled image) is_before places words.place;
            written = writes_published g k files count numbers start history item ino p ready puts (staged_of v e) (IsBlockOf v r) from.0 (journaled image) is_before places words.place settled fresh_run;
            headed = headed_written g (StagesWords v files e ino p.place (put_end p) (put_bytes (run start history) p) r) from.0 image from.2 (ready.going.headed from.0 is_before);
          }

pub staged_goes_on : StagedGoesOn
staged_goes_on g k l files e count numbers start history item ino p r ready puts laid rest gap settled wrote =
    staged_goes g k l files e count numbers start history item ino p r ready puts laid rest gap settled wrote
