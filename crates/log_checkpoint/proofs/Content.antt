-- The content of the images while files are published, where the log of the image before holds the runs of all files.
use Rattle.std.proofs.Common.{◌≡◌, ◌≢◌, ◌≤◌, ◌<◌, ◌⊎◌, ℕ, zero, suc, length, refl, sym, ◌∙◌, ap, subst, arith, inl, inr}
use Rattle.file_table.specs.pm_model.Bytes.{line_bytes-same}
use Rattle.file_table.specs.pm_model.ImageLaws.{Follows-then}
use Rattle.file_table.specs.pm_model.Images.{Follows, Follows-same, Follows-weaken, Then}
use Rattle.file_table.specs.pm_model.Words.{line_bytes, Words}
use Rattle.layout_model.specs.declared.lines.Draft.{Draft}
use Rattle.layout_model.specs.Entries.{held_seq, is_self_valid}
use Rattle.file_table.specs.layout_model.Journal.{journaled}
use Rattle.file_table.specs.layout_model.Places.{Geometry, log_line}
use Rattle.staging_files.specs.image_model.Content.{content}
use Rattle.staging_files.specs.image_model.Live.{live_entries}
use Rattle.staging_files.specs.image_model.Rules.{IsOfNoLater}
use Rattle.staging_files.specs.image_model.Volume.{Volume}
use Rattle.file_table.specs.Files.{Files, runs_in, size_in}
use Rattle.fsync_relink.proofs.EntryLaws.{leaves-entries}
use Rattle.fsync_relink.proofs.LoggedLaws.{halted-images}
use Rattle.fsync_relink.proofs.OtherLaws.{leaves-others}
use Rattle.fsync_relink.specs.Logged.{HasSameContent, IsLogged}
use Rattle.fsync_relink.specs.Others.{GoesOn, HasPublishedLog, IsPublishedIn, KeepsRest}
use Rattle.fsync_relink.specs.Publishes.{MayPublish}
use Rattle.staging_files.specs.k_map_plans.Plans.{IsLiveFile}
use Rattle.staging_files.specs.k_split_model.View.{View}
use Rattle.staging_files.specs.k_split.declared.faults.KFault.{KFault}
use Rattle.staging_files.specs.list_laws.Members.{In}
use Rattle.staging_files.specs.volume_laws.Footprint.{SameLog}
use Rattle.staging_files.specs.volume_laws.FootprintLaws.{live_entries-same}
use Rattle.log_checkpoint.specs.Gathers.{AreDone, AreDoneUpTo, IsLineDone, IsLineStopped, MayGather}
use Rattle.log_checkpoint.specs.Logged.{AreLogged}
use Rattle.log_checkpoint.proofs.Lines.{IsOnTheWay, way-of}

-- ---- what the log holds

-- The log holds the runs of the files of the lines from n on, and no other entry is live.
pub record IsLoggedFrom (n : ℕ) (t : Files) (v : Volume) (f : Words) : Type 0 where
  pub each : (ino : ℕ) → n ≤ ino → IsLiveFile ino v → IsLogged ino (size_in t ino) (runs_in t ino) v (live_entries v f)
  pub files : (d : Draft) → In d (live_entries v f) → IsLiveFile d.ino v × (n ≤ d.ino)
  pub no_later : (slot : ℕ) → slot < v.geometry.log → IsOfNoLater v f slot

pub all-logged : (t : Files) (v : Volume) (f : Words) → AreLogged t v f → IsLoggedFrom 0 t v f
all-logged t v f logged = record {
  each = λ ino past file. logged.each ino file;
  files = λ d is. (logged.files d is, omega arith);
  no_later = logged.no_later;
}

-- by other words with the same log lines, and of another volume with the same numbers and the same base
pub no-later-words : (v : Volume) (f h : Words) → SameLog v.geometry f h → ((slot : ℕ) → slot < v.geometry.log → IsOfNoLater v f slot)
    → (slot : ℕ) → slot < v.geometry.log → IsOfNoLater v h slot
no-later-words v f h same was slot below valid =
    let line : line_bytes h (log_line v.geometry slot) ≡ line_bytes f (log_line v.geometry slot) =
    line_bytes-same h f (log_line v.geometry slot) (λ i at. same.words slot i below at)
    in
    omega (arith, was slot below (ap is_self_valid (sym line) ∙ valid), ap held_seq line)

pub no-later-same : (v w : Volume) (f : Words) → w.geometry ≡ v.geometry → w.base ≡ v.base → ((slot : ℕ) → slot < v.geometry.log → IsOfNoLater v f slot)
    → (slot : ℕ) → slot < w.geometry.log → IsOfNoLater w f slot
no-later-same v w f geometry base was slot below valid =
    let line : line_bytes f (log_line w.geometry slot) ≡ line_bytes f (log_line v.geometry slot) = ap (λ (g : Geometry). line_bytes f (log_line g slot)) geometry in
    let logs : w.geometry.log ≡ v.geometry.log = ap (λ (g : Geometry). g.log) geometry in
    omega (arith, was slot (omega (arith, below, logs)) (ap is_self_valid (sym line) ∙ valid), ap held_seq line, base, logs)

from-words : (n : ℕ) (t : Files) (v : Volume) (f h : Words) → SameLog v.geometry f h → IsLoggedFrom n t v f → IsLoggedFrom n t v h
from-words n t v f h same logged =
    let live = live_entries-same v f h same in
    record {
      each = λ ino past file. subst (IsLogged ino (size_in t ino) (runs_in t ino) v) (sym live) (logged.each ino past file);
      files = λ d is. logged.files d (subst (In d) live is);
      no_later = no-later-words v f h same logged.no_later;
    }

-- ---- one line

-- From v to w the lines from n to m were done: where the log of the image before holds the runs from n on, that of the image holds
-- those from m on, and the content is the same.
abbrev pub Shows : ℕ → ℕ → Files → Volume → Volume → Words → Words → Type 0
Shows n m t v w before image =
    IsLoggedFrom n t v (journaled before) → IsLoggedFrom m t w (journaled image) × (content v.geometry image ≡ content v.geometry before)

module _ (n : ℕ) (t : Files) (k l : View) (rest : KeepsRest k l) (before image : Words) (is : IsPublishedIn n k.volume l.volume before image)
    (logged : IsLoggedFrom n t k.volume (journaled before)) where
  abbrev f : Words
  f = journaled before

  was-file : (ino : ℕ) → IsLiveFile ino l.volume → IsLiveFile ino k.volume
  was-file ino file = record { below = omega (arith, file.below, rest.count); file = sym (rest.kinds ino) ∙ file.file }

  still-file : (ino : ℕ) → IsLiveFile ino k.volume → IsLiveFile ino l.volume
  still-file ino file = record { below = omega (arith, file.below, rest.count); file = rest.kinds ino ∙ file.file }

  other-logged : (ino : ℕ) → ino ≢ n → IsLiveFile ino k.volume → IsLogged ino (size_in t ino) (runs_in t ino) k.volume (live_entries k.volume (journaled before))
      → IsLogged ino (size_in t ino) (runs_in t ino) l.volume (live_entries l.volume (journaled before))
  other-logged ino other file was = record {
    runs_are = λ run. (
      λ there.
          let from = (was.runs_are run).0 there in
          (from.0, (is.out.left from.0).1 (from.1, λ own. other (sym from.2 ∙ own)), from.2, from.3),
      λ from. (was.runs_are run).1 (from.0, ((is.out.left from.0).0 from.1).0, from.2, from.3),
    );
    size_is = is.out.files.size ino file.file ∙ was.size_is;
    sound = is.out.sound;
  }

  here : IsLoggedFrom (suc n) t l.volume (journaled before)
  here = record {
    each = λ ino past file.
        other-logged ino (λ same. omega (arith, past, same)) (was-file ino file) (logged.each ino (omega (arith, past)) (was-file ino file));
    files = λ d there.
        let was = (is.out.left d).0 there in
        let from = logged.files d was.0 in
        let other : d.ino ≢ n = was.1 in
        (still-file d.ino from.0, omega (arith, from.1, other));
    no_later = no-later-same k.volume l.volume f rest.numbers rest.base logged.no_later;
  }

  pub line-logged : IsLoggedFrom (suc n) t l.volume (journaled image)
  line-logged =
      from-words (suc n) t l.volume f (journaled image) (subst (λ g. SameLog g (journaled before) (journaled image)) (sym rest.numbers) is.log) here

-- a line without a file has no live entry
no-line : (n : ℕ) (t : Files) (v : Volume) (f : Words) → (¬ IsLiveFile n v) → IsLoggedFrom n t v f → IsLoggedFrom (suc n) t v f
no-line n t v h absent logged = record {
  each = λ ino past file. logged.each ino (omega (arith, past)) file;
  files = λ d is.
      let from = logged.files d is in
      let other : d.ino ≢ n = λ same. absent (subst (λ i. IsLiveFile i v) same from.0) in
      (from.0, omega (arith, from.1, other));
  no_later = logged.no_later;
}

line-content : (n : ℕ) (t : Files) (k l : View) → GoesOn k → (IsLiveFile n k.volume → MayPublish n (size_in t n) (runs_in t n) k) → IsLineDone n t k l
    → Follows (Shows n (suc n) t k.volume l.volume) k.cells l.cells
line-content n t k l on may (inl (file, done)) =
    let rest : KeepsRest k l = (leaves-others n (size_in t n) (runs_in t n) k l on (may file) done).rest in
    Follows-weaken (HasPublishedLog n (size_in t n) (runs_in t n) k.volume l.volume) (Shows n (suc n) t k.volume l.volume) k.cells l.cells
    (λ before image is logged.
    let it = is (logged.each n (omega arith) file) in
    (line-logged n t k l rest before image it logged, it.same))
    (leaves-entries n (size_in t n) (runs_in t n) k l on (may file) done)
line-content n t k l on may (inr (absent, same)) =
    subst (λ (x : View). Follows (Shows n (suc n) t k.volume x.volume) k.cells x.cells) (sym same)
    (Follows-same (Shows n (suc n) t k.volume k.volume) k.cells (λ h logged. (no-line n t k.volume (journaled h) absent logged, refl)))

-- ---- all lines

pub then-shows : (n m p : ℕ) (t : Files) (a b c : View) → KeepsRest a b → Follows (Shows n m t a.volume b.volume) a.cells b.cells
    → Follows (Shows m p t b.volume c.volume) b.cells c.cells → Follows (Shows n p t a.volume c.volume) a.cells c.cells
then-shows n m p t a b c rest first second =
    Follows-weaken (Then (Shows n m t a.volume b.volume) (Shows m p t b.volume c.volume)) (Shows n p t a.volume c.volume) a.cells c.cells
    (λ before image is logged.
    let one = is.1 logged in
    let two = is.2 one.0 in
    (two.0, subst (λ g. content g image ≡ content g is.0) rest.numbers two.1 ∙ one.1))
    (Follows-then (Shows n m t a.volume b.volume) (Shows m p t b.volume c.volume) a.cells b.cells c.cells (λ i lent. rest.lent i ∙ lent) first second)

pub done-content : (t : Files) (k0 : View) → MayGather t k0 → GoesOn k0 → (n : ℕ) → n ≤ length t.sizes → (k : View) → AreDone n t k0 k
    → Follows (Shows 0 n t k0.volume k.volume) k0.cells k.cells
done-content t k0 may on zero few k same =
    subst (λ (x : View). Follows (Shows 0 0 t k0.volume x.volume) k0.cells x.cells) (sym same) (Follows-same (Shows 0 0 t k0.volume k0.volume) k0.cells (λ f logged. (logged, refl)))
done-content t k0 may on (suc n) few k (middle, before, line) =
    let way : IsOnTheWay t k0 n middle = way-of t k0 may on n (omega (arith, few)) middle before in
    then-shows 0 n (suc n) t k0 middle k way.rest (done-content t k0 may on n (omega (arith, few)) middle before)
    (line-content n t middle k way.rest.goes_on (way.others n (omega arith)) line)

-- ---- it stopped

-- where the log holds the runs from n on, the content is the same
abbrev pub ShowsSame : ℕ → Files → Volume → Words → Words → Type 0
ShowsSame n t v before image = IsLoggedFrom n t v (journaled before) → content v.geometry image ≡ content v.geometry before

pub then-same : (n m : ℕ) (t : Files) (a b c : View) → KeepsRest a b → Follows (Shows n m t a.volume b.volume) a.cells b.cells
    → Follows (ShowsSame m t b.volume) b.cells c.cells → Follows (ShowsSame n t a.volume) a.cells c.cells
then-same n m t a b c rest first second =
    Follows-weaken (Then (Shows n m t a.volume b.volume) (ShowsSame m t b.volume)) (ShowsSame n t a.volume) a.cells c.cells
    (λ before image is logged.
    let one = is.1 logged in
    subst (λ g. content g image ≡ content g is.0) rest.numbers (is.2 one.0) ∙ one.1)
    (Follows-then (Shows n m t a.volume b.volume) (ShowsSame m t b.volume) a.cells b.cells c.cells (λ i lent. rest.lent i ∙ lent) first second)

stopped-content : (fault : KFault) (n : ℕ) (t : Files) (k l : View) → GoesOn k → (IsLiveFile n k.volume → MayPublish n (size_in t n) (runs_in t n) k)
    → ((fault ≡ KFault.PowerLost) × (l ≡ k)) ⊎ IsLineStopped fault n t k l → Follows (ShowsSame n t k.volume) k.cells l.cells
stopped-content fault n t k l on may (inl (off, same)) =
    subst (λ (x : View). Follows (ShowsSame n t k.volume) k.cells x.cells) (sym same) (Follows-same (ShowsSame n t k.volume) k.cells (λ f logged. refl))
stopped-content fault n t k l on may (inr (file, stopped)) =
    Follows-weaken (HasSameContent n (size_in t n) (runs_in t n) k.volume) (ShowsSame n t k.volume) k.cells l.cells
    (λ before image is logged. is (logged.each n (omega arith) file))
    (halted-images fault n (size_in t n) (runs_in t n) k l on.order on.unbatched (may file) stopped)

pub up-to-content : (fault : KFault) (t : Files) (k0 l : View) → MayGather t k0 → GoesOn k0 → AreDoneUpTo fault t k0 l → Follows (ShowsSame 0 t k0.volume) k0.cells l.cells
up-to-content fault t k0 l may on is =
    let way : IsOnTheWay t k0 is.done is.middle = way-of t k0 may on is.done is.below is.middle is.before in
    then-same 0 is.done t k0 is.middle l way.rest (done-content t k0 may on is.done is.below is.middle is.before)
    (stopped-content fault is.done t is.middle l way.rest.goes_on (way.others is.done (omega arith)) is.stopped)
