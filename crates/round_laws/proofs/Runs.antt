-- An unmount: what is left of a run keeps the promise, and its log is empty.
use Rattle.std.specs.Prelude.{◌≡◌, ◌*◌, ◌++◌, Bool, true, false, List, [], length, map, Option, Some, None, refl}
use Rattle.std.proofs.Common.{arith, ◌∙◌, sym, subst}
use Rattle.world_view_laws.specs.eof_laws.pm_model.declared.Cell.{Cell}
use Rattle.world_view_laws.specs.eof_laws.pm_model.Cells.{AllHome}
use Rattle.world_view_laws.specs.eof_laws.pm_model.Parts.{Part}
use Rattle.world_view_laws.specs.eof_laws.pm_model.Words.{Words}
use Rattle.world_view_laws.specs.eof_laws.layout_model.declared.lines.Draft.{Draft}
use Rattle.world_view_laws.specs.eof_laws.layout_model.Journal.{journaled}
use Rattle.world_view_laws.specs.eof_laws.layout_model.Places.{Geometry}
use Rattle.world_view_laws.specs.eof_laws.image_model.Live.{entry_in}
use Rattle.world_view_laws.specs.eof_laws.image_model.Reading.{Reads}
use Rattle.world_view_laws.specs.eof_laws.image_model.Volume.{Volume, volume}
use Rattle.world_view_laws.specs.eof_laws.volume_laws.ReadingLaws.{reads-volume}
use Rattle.world_view_laws.specs.write_end.CrashesLaws.{KeepsHome, LinesHoldOut}
use Rattle.world_view_laws.specs.eof_laws.file_table.Files.{Files}
use Rattle.world_view_laws.specs.file_publish.GathersLaws.{KeepsGathered, StandsGathered}
use Rattle.world_view_laws.specs.file_publish.staging_files.GivesUp.{nothing_staged}
use Rattle.world_view_laws.specs.file_publish.staging_files.Keeps.{Staged}
use Rattle.world_view_laws.specs.world_image_laws.Images.{HasNoEntry, ShowsLog}
use Rattle.world_view_laws.specs.world_image_laws.Promised.{KeepsPromise}
use Rattle.world_view_laws.specs.file_publish.RoundLinesLaws.{StandsHome}
use Rattle.world_view_laws.specs.eof_laws.k_split_model.View.{View}
use Rattle.world_view_laws.specs.eof_laws.list_laws.Members.{In}
use Rattle.world_view_laws.specs.write_end.Stops.{KeepsGatheredOut}
use Rattle.world_view_laws.specs.eof_laws.posix_spec.Run.{Unfinished}
use Rattle.world_view_laws.specs.eof_laws.posix_spec.Unfinished.{AreUnfinished}
use Rattle.world_view_laws.specs.eof_laws.posix_tables.Open.{Tables}
use Rattle.world_view_laws.specs.write_end.Ends.{begun_by}
use Rattle.world_view_laws.specs.Rounds.{IsLeft}
use Rattle.world_view_laws.specs.in_flight.Counts.{history_within}
use Rattle.world_view_laws.specs.Views.{calls_out, first_by, WorldView}
use Rattle.round_laws.proofs.EndsLines.{lines_of_round}
use Rattle.round_laws.proofs.Rounds.{home_behind, home_cut, promise_cut, size_behind, size_cut, stands_behind}
use Rattle.round_laws.specs.EndsLaws.{EndsRunEmpty, EndsRunWhole, IsEnding, LosesRun, MayCrashWhole}

-- what is left on this device
left : (k l : View) (t : Tables) (staging : Staged) (files : Files) (w : WorldView) (lines : List Part) (pm : List Cell) (unfinished : List Unfinished) → IsEnding k l t staging files w lines → unfinished ≡ calls_out w
    → length pm ≡ 512 * w.geometry.blocks → AllHome pm → KeepsPromise w.geometry pm w.start w.history unfinished → IsLeft w pm w.history unfinished
left k l t staging files w lines pm unfinished ending same size home promise = record {
  history_is = refl;
  unfinished_is = same;
  legal = ending.world.legal;
  scripted = ending.world.scripted;
  open_calls = subst (AreUnfinished w.scripts w.history) (sym same) ending.world.open_calls;
  within = history_within w.scripts w.history ending.world.scripted;
  size = size;
  home = home;
  promise = promise;
}

none_begun : (k l : View) (t : Tables) (staging : Staged) (files : Files) (w : WorldView) (lines : List Part) → IsEnding k l t staging files w lines → [] ≡ calls_out w
none_begun k l t staging files w lines ending = sym (λ i. map begun_by (ending.none_out i) ++ (ending.world.going ending.awake).none_unfinished i)

-- DONE
pub ends_run_whole : StandsHome → LinesHoldOut → StandsGathered → KeepsGatheredOut → KeepsHome → EndsRunWhole
ends_run_whole turning holding gathered keeps at_home k l m t staging then files table w lines ending done =
    left k l t staging files w lines m.cells [] ending (none_begun k l t staging files w lines ending)
    (size_behind turning holding gathered keeps k l m t staging then files table w lines ending done)
    (home_behind turning holding gathered keeps k l m t staging then files table w lines ending done)
    (at_home w.geometry m t (record { staging = nothing_staged; files = table; claims = []; pending = []; first = first_by w.geometry w.first }) (length w.history) w.start w.history []
    (stands_behind turning holding gathered keeps k l m t staging then files table w lines ending done))

-- a log that shows no claim has no entry
no_entry : (v : Volume) (f : Words) → ShowsLog v [] f → HasNoEntry v f
no_entry v f log slot below = by (entry_in v f slot) (λ d is. (log.shows slot d).1 (below, is)) where
  by : (o : Option Draft) → ((d : Draft) → o ≡ Some d → ⊥) → o ≡ None
  by None none = refl
  by (Some d) none = absurd (none d refl)

-- by the volume that words read as
read_empty : (g : Geometry) (v : Volume) (f : Words) → v.geometry ≡ g → Reads v.geometry f v → ShowsLog v [] f → HasNoEntry (volume g f) f
read_empty g v f numbers reads log =
    let same : volume g f ≡ v = reads-volume g f v (subst (λ (h : Geometry). Reads h f v) numbers reads) in
    subst (λ (x : Volume). HasNoEntry x f) (sym same) (no_entry v f log)

-- ALL IS PUBLISHED.
pub ends_run_empty : StandsHome → LinesHoldOut → StandsGathered → KeepsGatheredOut → EndsRunEmpty
ends_run_empty turning holding gathered keeps k l m t staging then files table w lines ending done image is =
    let stands = stands_behind turning holding gathered keeps k l m t staging then files table w lines ending done in
    read_empty w.geometry m.volume (journaled image) stands.geometry (stands.flying.device.stands.reads image is) (stands.lines.1 image is)

-- THE POWER WENT.
pub loses_run : StandsHome → LinesHoldOut → KeepsGathered → KeepsGatheredOut → LosesRun
loses_run turning holding cutting keeps k l m t staging then files table w lines ending cut =
    left k l t staging files w lines m.cells (calls_out w) ending refl
    (size_cut turning holding cutting keeps k l m t staging then files table w lines ending cut)
    (home_cut turning holding cutting keeps k l m t staging then files table w lines ending cut)
    (promise_cut turning holding cutting keeps k l m t staging then files table w lines ending cut)

-- it had gone
pub may_crash_whole : MayCrashWhole
may_crash_whole w lines none_out holds = record {
  jobs = record {
    each_out = λ job at. absurd at;
    each_filled = λ job at. absurd at;
    one_each = λ m n d before below. absurd (omega (arith, below));
    all = λ p at. absurd (subst (In p) none_out at);
  };
  lines_are = λ out. ([], lines_of_round w lines holds);
  none = λ home. absurd (both w.lines_out holds.are.out home);
} where
  both : (b : Bool) → b ≡ true → b ≡ false → ⊥
  both b one two = (let never : true ≡ false = sym one ∙ two in cc)
