-- Once a file is published of which the log holds the runs, just the entries of others are live.
use Rattle.std.proofs.Common.{◌≡◌, ◌≢◌, ◌<◌, ◌/◌, ◌↔◌, ℕ, List, [], ◌∷◌, Ok, refl, sym, ◌∙◌, ap, subst, inl, inr}
use Rattle.log_laws.specs.pm_model.ImageLaws.{Follows-then}
use Rattle.log_laws.specs.pm_model.Images.{Follows, Follows-same, Follows-weaken, Then}
use Rattle.log_laws.specs.pm_model.Words.{Words}
use Rattle.log_laws.specs.layout_model.declared.lines.Draft.{Draft}
use Rattle.log_laws.specs.layout_model.declared.lines.Kind.TheVariants.{File}
use Rattle.log_laws.specs.layout_model.Journal.{journaled}
use Rattle.log_laws.specs.layout_model.Places.{log_line}
use Rattle.log_laws.specs.image_model.Content.{content, disk_of, size_of}
use Rattle.log_laws.specs.image_model.Live.{live_entries}
use Rattle.log_laws.specs.image_model.Volume.{inode, Volume}
use Rattle.file_overlay.specs.declared.runs.Run.{Run}
use Rattle.k_split.specs.k_split_model.Stands.{IsOldOrNew}
use Rattle.k_split.specs.k_split_model.View.{View}
use Rattle.k_split.specs.MapChanges.{IsRelinkAnswer}
use Rattle.log_laws.specs.list_laws.Members.{In}
use Rattle.log_laws.specs.Logs.{AreSound, CarriesOut, HasSameFiles}
use Rattle.k_split.specs.k_split_model.declared.map_changes.moves.Move.{Move}
use Rattle.log_laws.specs.volume_laws.Footprint.{SameLog}
use Rattle.log_laws.specs.volume_laws.FootprintLaws.{live_entries-same}
use Rattle.fsync_relink.specs.Images.{IsCarried}
use Rattle.fsync_relink.specs.Logged.{IsLogged, run_of}
use Rattle.fsync_relink.specs.Others.{CarriesAllOut, GoesOn, HasPublishedLog, IsPublishedIn, KeepsRest, LeavesEntries}
use Rattle.fsync_relink.specs.Publishes.{AreRelinked, IsResized, MayPublish, move_of, size_before}
use Rattle.fsync_relink.proofs.LoggedLaws.{carried-entry, no-runs, relinked-images}
use Rattle.fsync_relink.proofs.NextLaws.{next-may}
use Rattle.fsync_relink.proofs.OtherLaws.{keeps-relinked, leaves-each}

-- ---- entries

same-files : (v : Volume) (f : Words) → HasSameFiles v v f
same-files v f = record { names = refl; kind = λ ino. refl; size = λ ino file. refl; disk = λ ino block file. refl }

then-files : (u v w : Volume) (f : Words) → HasSameFiles u v f → HasSameFiles v w f → HasSameFiles u w f
then-files u v w f one two = record {
  names = two.names ∙ one.names;
  kind = λ ino. two.kind ino ∙ one.kind ino;
  size = λ ino file. two.size ino (one.kind ino ∙ file) ∙ one.size ino file;
  disk = λ ino block file. two.disk ino block (one.kind ino ∙ file) ∙ one.disk ino block file;
}

-- a log that holds no run of the file has none of its entries
none-out : (ino size : ℕ) (v : Volume) (f : Words) → IsLogged ino size [] v (live_entries v f) → CarriesAllOut ino v v f
none-out ino size v f logged = record {
  left = λ e. ((λ is. (is, λ own. (logged.runs_are (run_of e)).1 (e, is, own, refl))), λ both. both.0);
  sound = logged.sound;
  files = same-files v f;
}

-- the first entry, and then those behind it
first-out : (ino : ℕ) (u v w : Volume) (f : Words) (d : Draft) → d.ino ≡ ino → CarriesOut u v f d → CarriesAllOut ino v w f → CarriesAllOut ino u w f
first-out ino u v w f d own one rest = record {
  left = λ e. (
    λ is.
        let then = (rest.left e).0 is in
        (((one.left e).0 then.0).0, then.1),
    λ both. (rest.left e).1 ((one.left e).1 (both.0, λ same. both.1 (ap (λ (x : Draft). x.ino) (sym same) ∙ own)), both.1),
  );
  sound = rest.sound;
  files = then-files u v w f one.files rest.files;
}

-- what is said of entries goes by the entries that are live
abbrev AreOut : ℕ → Volume → Volume → List Draft → List Draft → Type 0
AreOut ino v w before after =
    ((e : Draft) → In e after ↔ (In e before × (e.ino ≢ ino))) × AreSound w after × (w.names ≡ v.names)
    × ((n : ℕ) → (inode w n).kind ≡ (inode v n).kind) × ((n : ℕ) → (inode v n).kind ≡ File → size_of w after n ≡ size_of v before n)
    × ((n block : ℕ) → (inode v n).kind ≡ File → disk_of w after n block ≡ disk_of v before n block)

out-same : (ino : ℕ) (v w : Volume) (f h : Words) → live_entries v h ≡ live_entries v f → live_entries w h ≡ live_entries w f → CarriesAllOut ino v w h → CarriesAllOut ino v w f
out-same ino v w f h before after out =
    let is : AreOut ino v w (live_entries v f) (live_entries w f) =
    subst (λ ds. AreOut ino v w ds (live_entries w f)) before
    (subst (λ ds. AreOut ino v w (live_entries v h) ds) after (out.left, out.sound, out.files.names, out.files.kind, out.files.size, out.files.disk))
    in
    record { left = is.0; sound = is.1; files = record { names = is.2; kind = is.3; size = is.4; disk = is.5 } }

-- ---- the images of all relinks

-- nothing was done
none-in : (ino size : ℕ) (v : Volume) (f : Words) → HasPublishedLog ino size [] v v f f
none-in ino size v f logged = record {
  log = record { words = λ s w below at. refl };
  out = none-out ino size v (journaled f) logged;
  same = refl;
}

none-entries : (ino size : ℕ) (k l : View) → l ≡ k → Follows (HasPublishedLog ino size [] k.volume l.volume) k.cells l.cells
none-entries ino size k l same =
    subst (λ (x : View). Follows (HasPublishedLog ino size [] k.volume x.volume) k.cells x.cells) (sym same)
    (Follows-same (HasPublishedLog ino size [] k.volume k.volume) k.cells (none-in ino size k.volume))

-- one relink, and the runs behind
module _ (ino size : ℕ) (run : Run) (runs : List Run) (k n l : View) (on : GoesOn k) (may : MayPublish ino size (run ∷ runs) k)
    (gave : IsRelinkAnswer (move_of ino (size_before runs size (inode k.volume ino).size) run) k n (Ok tt)) (rest : AreRelinked ino size runs n l) where
  abbrev m : Move
  m = move_of ino (size_before runs size (inode k.volume ino).size) run

  first : KeepsRest k n
  first = keeps-relinked ino size run runs k n on may gave

  may-behind : MayPublish ino size runs n
  may-behind = next-may ino size run runs k n on.order on.unbatched may gave

  behind : KeepsRest n l
  behind = (leaves-each ino size runs n l first.goes_on may-behind rest).rest

  module _ (before middle image : Words) (carried : IsCarried (move_of ino (size_before runs size (inode k.volume ino).size) run) k.volume n.volume before middle)
      (then : HasPublishedLog ino size runs n.volume l.volume middle image) (logged : IsLogged ino size (run ∷ runs) k.volume (live_entries k.volume (journaled before))) where
    log-middle : SameLog n.volume.geometry (journaled before) (journaled middle)
    log-middle = subst (λ g. SameLog g (journaled before) (journaled middle)) (sym first.numbers) carried.log

    log-last : SameLog l.volume.geometry (journaled before) (journaled middle)
    log-last = subst (λ g. SameLog g (journaled before) (journaled middle)) (sym behind.numbers) log-middle

    entry : (d : Draft) × ((d.ino ≡ ino) × CarriesOut k.volume n.volume (journaled before) d) × IsLogged ino size runs n.volume (live_entries n.volume (journaled before))
        × (content k.volume.geometry middle ≡ content k.volume.geometry before)
    entry = carried-entry ino size run runs k n n.volume gave.0 on.order on.unbatched may gave.2.order.whole gave.1 gave.2.changes before middle carried logged

    live-middle : live_entries n.volume (journaled middle) ≡ live_entries n.volume (journaled before)
    live-middle = live_entries-same n.volume (journaled before) (journaled middle) log-middle

    is : IsPublishedIn ino n.volume l.volume middle image
    is = then (subst (IsLogged ino size runs n.volume) (sym live-middle) entry.2)

    published : IsPublishedIn ino k.volume l.volume before image
    published = record {
      log = record {
        words = λ s w below at.
            is.log.words s w (subst (λ g. s < g.log) (sym first.numbers) below) (subst (λ g. w / 8 ≡ log_line g s) (sym first.numbers) at)
            ∙ carried.log.words s w below at;
      };
      out =
          first-out ino k.volume n.volume l.volume (journaled before) entry.0 entry.1.0 entry.1.1
          (out-same ino n.volume l.volume (journaled before) (journaled middle) live-middle (live_entries-same l.volume (journaled before) (journaled middle) log-last) is.out);
      same = subst (λ g. content g image ≡ content g middle) first.numbers is.same ∙ entry.3;
    }

  then-entries : Follows (HasPublishedLog ino size runs n.volume l.volume) n.cells l.cells → Follows (HasPublishedLog ino size (run ∷ runs) k.volume l.volume) k.cells l.cells
  then-entries follows =
      Follows-weaken (Then (IsCarried m k.volume n.volume) (HasPublishedLog ino size runs n.volume l.volume)) (HasPublishedLog ino size (run ∷ runs) k.volume l.volume) k.cells l.cells
      (λ before image is logged. published before is.0 image is.1 is.2 logged)
      (Follows-then (IsCarried m k.volume n.volume) (HasPublishedLog ino size runs n.volume l.volume) k.cells n.cells l.cells (λ i lent. gave.2.changes.lent i ∙ lent)
      (relinked-images ino size run runs k n n.volume gave.0 on.order on.unbatched may gave.2.order.whole gave.1 gave.2.changes) follows)

each-entries : (ino size : ℕ) (runs : List Run) (k l : View) → GoesOn k → MayPublish ino size runs k → AreRelinked ino size runs k l
    → Follows (HasPublishedLog ino size runs k.volume l.volume) k.cells l.cells
each-entries ino size [] k l on may same = none-entries ino size k l same
each-entries ino size (run ∷ runs) k l on may (n, gave, rest) =
    then-entries ino size run runs k n l on may gave rest
    (each-entries ino size runs n l (keeps-relinked ino size run runs k n on may gave).goes_on (next-may ino size run runs k n on.order on.unbatched may gave) rest)

-- ---- a publishing

-- no image of a change to another length is one of a log that holds no run
resized-entries : (ino size : ℕ) (k l : View) → IsResized ino size k l (Ok tt) → Follows (HasPublishedLog ino size [] k.volume l.volume) k.cells l.cells
resized-entries ino size k l (other, (blocks, sized, is)) =
    Follows-weaken (IsOldOrNew k.committed.geometry blocks k.committed l.volume) (HasPublishedLog ino size [] k.volume l.volume) k.cells l.cells
    (λ before image changed logged. absurd (other (no-runs ino size k.volume (live_entries k.volume (journaled before)) logged))) is.changes.each_image

pub leaves-entries : LeavesEntries
leaves-entries ino size [] k l on may (inl same) = none-entries ino size k l same.1
leaves-entries ino size [] k l on may (inr resized) = resized-entries ino size k l resized
leaves-entries ino size (run ∷ runs) k l on may done = each-entries ino size (run ∷ runs) k l on may done.1
