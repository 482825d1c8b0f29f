-- Staging files give up their blocks once no entry is live: the image stays checked, and has the same content.
use Rattle.std.proofs.Common.{◌≡◌, ◌≢◌, ◌≤◌, ◌<◌, ◌⊎◌, ℕ, zero, suc, true, List, [], Result, Ok, Err, refl, sym, ◌∙◌, ap, subst, arith, inl, inr}
use Rattle.std.specs.Prelude.{All}
use Rattle.std.specs.declared.alloc.AllocError.{AllocError}
use Rattle.std.proofs.lemmas.Bool.{cases_eq}
use Rattle.std.proofs.lemmas.List.Elements.{All-nil}
use Rattle.k_check.specs.pm_model.Cells.{AllSingle}
use Rattle.k_check.specs.pm_model.Images.{Follows}
use Rattle.k_check.specs.pm_model.Powers.{Supply}
use Rattle.layout_model.specs.declared.lines.Inode.{Inode}
use Rattle.layout_model.specs.declared.lines.Kind.TheVariants.{File, Staging}
use Rattle.k_check.specs.image_model.Live.{live_entries}
use Rattle.k_check.specs.image_model.Reading.{inode_set}
use Rattle.k_check.specs.image_model.Room.{unused_blocks}
use Rattle.k_check.specs.image_model.Rules.{file_blocks_of}
use Rattle.k_check.specs.image_model.Volume.{extents, inode, Volume}
use Rattle.k_check.specs.extent_model.Extents.{disk_at}
use Rattle.k_check.specs.k_journal.declared.outcomes.Commit.{Commit}
use Rattle.k_split.specs.k_map_plans.Plans.{IsStagingFile}
use Rattle.log_replay.proofs.Devices.{device-mapped, device-none, device-then}
use Rattle.log_replay.specs.Sheds.{IsSameDevice}
use Rattle.k_split.specs.k_plans.Whole.{IsWhole}
use Rattle.staging_files.specs.k_split_model.View.{View}
use Rattle.staging_files.specs.k_split.declared.faults.KFault.{KFault}
use Rattle.staging_files.specs.k_split.MapChanges.{is_free_in, IsGiveUpAnswer, IsGivenUpWith}
use Rattle.staging_files.specs.k_split_model.MapChangesChanges.{given_up}
use Rattle.staging_files.specs.k_split_model.Taken.{with_map}
use Rattle.staging_files.proofs.GiveUpLaws.{staging-file}
use Rattle.k_check.specs.volume_laws.Changes.{extents-set_other, extents-set_same}
use Rattle.staging_files.specs.GivesUp.{AreGivenUp, IsGiveUpAllAnswer, IsGiveUpAllPaid}
use Rattle.staging_files.specs.Keeps.{IsStaging, Staged}
use Rattle.staging_files.specs.volume_laws.PoolLaws.{unused-set}
use Rattle.log_replay.specs.Replays.{seen, ShowsTheSame}
use Rattle.log_replay.proofs.Keeping.{images-next, images-off, images-own, images-then, shows-first, shows-next}
use Rattle.log_replay.proofs.Lines.{applied-set, in-data, KeepsBytes, KeepsLines, lines-set, live-kept}
use Rattle.log_replay.specs.Quiet.{IsQuiet, IsSweepPaid, left, OnDone, ShowsAsBefore}
use Rattle.log_replay.specs.Sweeps.{AreUnstaged}

-- the first n staging files have no blocks
record IsOnTheWay (n : ℕ) (k0 k : View) : Type 0 where
  shows : ShowsAsBefore k0 k
  bare : (x : ℕ) → IsStaging x → x ≤ n → extents k.volume x ≡ []

-- ---- one more gives up its blocks, done or cut off

module _ (n : ℕ) (k : View) (w : Volume) (blocks : List ℕ) (few : n < 4) (quiet : IsQuiet k) (makes : IsGivenUpWith (suc n) k w blocks) (whole : IsWhole w) where
  abbrev line : Inode
  line = with_map [] [] (inode k.volume (suc n))

  number : IsStaging (suc n)
  number = record { least = omega arith; most = omega (arith, few) }

  staging : IsStagingFile (suc n) k.volume
  staging = staging-file k.volume (suc n) quiet.rest.order.whole number

  given : w ≡ given_up (suc n) k.volume
  given = makes.given

  lines : KeepsLines k.volume w
  lines = subst (KeepsLines k.volume) (sym given) (lines-set (suc n) line [] [] k.volume staging.below refl refl refl)

  applied : (ino : ℕ) → (inode w ino).applied ≡ (inode k.volume ino).applied
  applied ino = ap (λ v. (inode v ino).applied) given ∙ applied-set (suc n) line [] [] k.volume staging.below refl ino

  no-file : (ino : ℕ) → (inode k.volume ino).kind ≡ File → ino ≢ suc n
  no-file ino file same = let never : File ≡ Staging = sym file ∙ (ap (λ i. (inode k.volume i).kind) same ∙ staging.kind) in cc

  map-own : extents w (suc n) ≡ []
  map-own =
      ap (λ v. extents v (suc n)) given
      ∙ extents-set_same (suc n) line [] [] k.volume (omega (arith, staging.below, quiet.rest.order.whole.maps.map_count))

  map-other : (ino : ℕ) → ino ≢ suc n → extents w ino ≡ extents k.volume ino
  map-other ino other = ap (λ v. extents v ino) given ∙ extents-set_other (suc n) line [] [] k.volume ino other

  bytes : KeepsBytes k.volume w
  bytes ino block file within = ap (λ es. disk_at es block) (map-other ino (no-file ino file))

  none : live_entries w (seen k) ≡ []
  none = live-kept k.volume w lines (seen k) applied ∙ quiet.none

  free : All (λ b. is_free_in k b ≡ true) blocks
  free = subst (All (λ b. is_free_in k b ≡ true)) (sym makes.written) (All-nil (λ b. is_free_in k b ≡ true))

  -- what is freed is named by nothing
  freed : unused_blocks k.volume ≤ unused_blocks w
  freed =
      let x : Volume = inode_set (suc n) line [] [] k.volume in
      let before : IsWhole k.volume = quiet.rest.order.whole in
      let after : IsWhole x = subst IsWhole given whole in
      let set =
      unused-set k.volume (suc n) line [] [] (λ ino. file_blocks_of (inode k.volume ino).kind) (λ ino. file_blocks_of (inode x ino).kind) staging.below before.maps
      (in-data k.volume before) (in-data x after) before.kept.kept.once after.kept.kept.once
      in
      let same : unused_blocks w ≡ unused_blocks x = ap unused_blocks given in
      omega (arith, set, same)

way-next : (n : ℕ) (k0 k k2 : View) → n < 4 → IsOnTheWay n k0 k → IsGiveUpAnswer (suc n) k k2 (Ok tt) → IsOnTheWay (suc n) k0 k2
way-next n k0 k k2 few was gave = record {
  shows =
      shows-next k0 k k2 gave.0 was.shows gave.2 (lines n k k2.volume gave.0 few was.shows.quiet gave.1 gave.2.order.whole)
      (bytes n k k2.volume gave.0 few was.shows.quiet gave.1 gave.2.order.whole) (none n k k2.volume gave.0 few was.shows.quiet gave.1 gave.2.order.whole)
      (free n k k2.volume gave.0 few was.shows.quiet gave.1 gave.2.order.whole) (freed n k k2.volume gave.0 few was.shows.quiet gave.1 gave.2.order.whole);
  bare = λ x is most. by x is most (cases_eq x (suc n));
} where
  by : (x : ℕ) → IsStaging x → x ≤ suc n → (x ≡ suc n) ⊎ (x ≢ suc n) → extents k2.volume x ≡ []
  by x is most (inl own) = ap (extents k2.volume) own ∙ map-own n k k2.volume gave.0 few was.shows.quiet gave.1 gave.2.order.whole
  by x is most (inr other) = map-other n k k2.volume gave.0 few was.shows.quiet gave.1 gave.2.order.whole x other ∙ was.bare x is (omega (arith, most, other))

-- it was cut off, or the power was off before
way-cut : (n : ℕ) (k0 k k2 : View) → n < 4 → AllSingle k0.cells → IsOnTheWay n k0 k → IsGiveUpAnswer (suc n) k k2 (Err KFault.PowerLost)
    → Follows (ShowsTheSame k0.volume.geometry) k0.cells k2.cells
way-cut n k0 k k2 few single was (inl off) = images-off k0 k k2 single was.shows off
way-cut n k0 k k2 few single was (inr (w, blocks, makes, cut)) =
    images-then k0 k k2.cells single was.shows
    (images-next k w blocks was.shows.quiet cut.whole (lines n k w blocks few was.shows.quiet makes cut.whole) (bytes n k w blocks few was.shows.quiet makes cut.whole)
    (none n k w blocks few was.shows.quiet makes cut.whole) (free n k w blocks few was.shows.quiet makes cut.whole) (freed n k w blocks few was.shows.quiet makes cut.whole)
    k2.cells cut.changes)

-- ---- all of them do

way-begins : (k : View) → IsQuiet k → IsOnTheWay 0 k k
way-begins k quiet = record { shows = shows-first k quiet; bare = λ x is most. absurd (omega (arith, is.least, most)) }

way-each : (n : ℕ) (k0 k : View) → n ≤ 4 → IsQuiet k0 → AreGivenUp n k0 k → IsOnTheWay n k0 k
way-each zero k0 k few quiet gave = subst (IsOnTheWay 0 k0) (sym gave) (way-begins k0 quiet)
way-each (suc n) k0 k few quiet (middle, before, last) =
    way-next n k0 middle k (omega (arith, few)) (way-each n k0 middle (omega (arith, few)) quiet before) last

pub unstaged-done : (s t : Staged) (k k2 : View) (r : Result Commit AllocError) → IsQuiet k → IsGiveUpAllAnswer s k t k2 r → OnDone (left r) (AreUnstaged k k2)
unstaged-done s t k k2 (Ok Commit.Done) quiet answer =
    let way = way-each 4 k k2 (omega arith) quiet answer.2 in
    record { shows = way.shows; bare = λ x is. way.bare x is is.most }
unstaged-done s t k k2 (Ok Commit.PowerLost) quiet answer = tt
unstaged-done s t k k2 (Err e) quiet answer = tt

pub unstaged-paid : (p : Supply) (r : Result Commit AllocError) → IsGiveUpAllPaid p r → IsSweepPaid p (left r)
unstaged-paid p (Ok Commit.Done) paid = paid
unstaged-paid p (Ok Commit.PowerLost) paid = paid
unstaged-paid p (Err e) paid = paid

pub unstaged-images : (s t : Staged) (k k2 : View) (r : Result Commit AllocError) → IsQuiet k → IsGiveUpAllAnswer s k t k2 r
    → Follows (ShowsTheSame k.volume.geometry) k.cells k2.cells
unstaged-images s t k k2 (Ok Commit.Done) quiet answer = images-own k k2 quiet.rest.single (way-each 4 k k2 (omega arith) quiet answer.2).shows
unstaged-images s t k k2 (Ok Commit.PowerLost) quiet answer =
    let cut = answer.1 in
    way-cut cut.done k cut.middle k2 cut.few quiet.rest.single (way-each cut.done k cut.middle (omega (arith, cut.few)) quiet cut.gave) cut.cut
unstaged-images s t k k2 (Err e) quiet answer =
    let some = answer.1 in
    images-own k k2 quiet.rest.single (way-each some.done k k2 (omega (arith, some.few)) quiet some.gave).shows

-- ---- the device

device-given : (n : ℕ) (k k2 : View) → AreGivenUp n k k2 → IsSameDevice k.cells k2.cells
device-given zero k k2 gave = subst (λ (z : View). IsSameDevice k.cells z.cells) (sym gave) (device-none k.cells)
device-given (suc n) k k2 (middle, before, last) =
    device-then k.cells middle.cells k2.cells (device-given n k middle before) (device-mapped (IsGivenUpWith (suc n) middle) middle k2 (Ok tt) last)

pub unstaged-device : (s t : Staged) (k k2 : View) (r : Result Commit AllocError) → IsGiveUpAllAnswer s k t k2 r → IsSameDevice k.cells k2.cells
unstaged-device s t k k2 (Ok Commit.Done) answer = device-given 4 k k2 answer.2
unstaged-device s t k k2 (Ok Commit.PowerLost) answer =
    let cut = answer.1 in
    device-then k.cells cut.middle.cells k2.cells (device-given cut.done k cut.middle cut.gave)
    (device-mapped (IsGivenUpWith (suc cut.done) cut.middle) cut.middle k2 (Err KFault.PowerLost) cut.cut)
unstaged-device s t k k2 (Err e) answer = device-given answer.1.done k k2 answer.1.gave
