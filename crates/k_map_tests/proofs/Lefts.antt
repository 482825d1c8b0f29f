-- What a call leaves of a fresh K-Split.
use Rattle.std.proofs.Common.{◌≡◌, ℕ, false, List, Result, Ok, Err, sym, ◌∙◌, ap, subst, inl, inr}
use Rattle.k_check.specs.pm_model.declared.Cell.{Cell}
use Rattle.k_check.specs.pm_model.Cells.{AllHome}
use Rattle.k_check.specs.pm_model.Frames.{KeepsSingle, SameLent}
use Rattle.k_check.specs.image_model.Volume.{Volume}
use Rattle.k_split.specs.k_split_model.View.{View}
use Rattle.k_split.specs.declared.faults.KFault.{KFault}
use Rattle.k_split.specs.Answers.{IsDone}
use Rattle.k_split.specs.Bytes.{IsOverwriteAnswer}
use Rattle.k_split.specs.Filling.{IsFillAnswer}
use Rattle.k_split.specs.MapChanges.{IsMapAnswer}
use Rattle.k_split.specs.Order.{IsInOrder}
use Rattle.k_map_tests.specs.Calls.{IsFresh, IsLeftBy}

home-lent : (old new : List Cell) → SameLent old new → AllHome old → AllHome new
home-lent old new lent home i = lent i ∙ home i

home-same : (old new : View) → new.cells ≡ old.cells → AllHome old.cells → AllHome new.cells
home-same old new same = subst AllHome (sym same)

fresh-kept : (old new : View) → new.lost ≡ false → new.batched ≡ old.batched → IsInOrder new → SameLent old.cells new.cells
    → KeepsSingle old.cells new.cells → IsFresh old → IsFresh new
fresh-kept old new on batched order lent singles fresh = record {
  on = on;
  unbatched = batched ∙ fresh.unbatched;
  order = order;
  single = λ i. singles i (fresh.single i);
  home = home-lent old.cells new.cells lent fresh.home;
}

pub fresh-done : (old new : View) → IsDone old new → IsFresh old → IsFresh new
fresh-done old new done fresh = fresh-kept old new done.kept_on done.batched done.order done.changes.lent done.singles fresh

fresh-same : (old new : View) → new ≡ old → IsFresh old → IsFresh new
fresh-same old new same = subst IsFresh (sym same)

pub map-left : (Makes : Volume → List ℕ → Type 0) (old new : View) (r : Result (Unit {0}) KFault) → IsMapAnswer Makes old new r
    → IsFresh old → IsLeftBy new r
map-left Makes old new (Ok done) is fresh =
    fresh-kept old new is.2.kept_on is.2.batched is.2.order is.2.changes.lent is.2.singles fresh
map-left Makes old new (Err (KFault.Refused errno)) is fresh = tt
map-left Makes old new (Err (KFault.Room room)) is fresh = absurd is
map-left Makes old new (Err KFault.NoMemory) is fresh = tt
map-left Makes old new (Err KFault.PowerLost) (inl off) fresh = home-same old new (ap (λ (k : View). k.cells) off) fresh.home
map-left Makes old new (Err KFault.PowerLost) (inr cut) fresh = home-lent old.cells new.cells cut.3.changes.lent fresh.home

pub fill-left : (ino from count : ℕ) (old new : View) (r : Result (Unit {0}) KFault) → IsFillAnswer ino from count old new r
    → IsFresh old → IsLeftBy new r
fill-left ino from count old new (Ok done) (inl full) fresh = fresh-same old new full.same fresh
fill-left ino from count old new (Ok done) (inr is) fresh =
    fresh-kept old new is.1.2.kept_on is.1.2.batched is.1.2.order is.1.2.changes.lent is.1.2.singles fresh
fill-left ino from count old new (Err (KFault.Refused errno)) is fresh = tt
fill-left ino from count old new (Err (KFault.Room room)) is fresh = fresh-same old new is.1 fresh
fill-left ino from count old new (Err KFault.NoMemory) is fresh = tt
fill-left ino from count old new (Err KFault.PowerLost) (inl off) fresh = home-same old new (ap (λ (k : View). k.cells) off) fresh.home
fill-left ino from count old new (Err KFault.PowerLost) (inr cut) fresh = home-lent old.cells new.cells cut.1.3.changes.lent fresh.home

pub bytes-left : (ino first : ℕ) (bytes : List ℕ) (old new : View) (r : Result (Unit {0}) KFault) → IsOverwriteAnswer ino first bytes old new r
    → IsFresh old → IsLeftBy new r
bytes-left ino first bytes old new (Ok done) is fresh =
    fresh-kept old new is.kept_on (ap (λ (k : View). k.batched) is.same) is.order is.over.lent is.singles fresh
bytes-left ino first bytes old new (Err KFault.PowerLost) (inl off) fresh = home-same old new (ap (λ (k : View). k.cells) off) fresh.home
bytes-left ino first bytes old new (Err KFault.PowerLost) (inr cut) fresh = home-lent old.cells new.cells cut.over.lent fresh.home
bytes-left ino first bytes old new (Err (KFault.Refused errno)) is fresh = tt
bytes-left ino first bytes old new (Err (KFault.Room room)) is fresh = absurd is
bytes-left ino first bytes old new (Err KFault.NoMemory) is fresh = tt
