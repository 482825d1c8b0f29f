-- A change of names that gathers, as one law over what it makes of the batch.
use Rattle.std.specs.Prelude.{◌≡◌, ◌≢◌, ◌⊎◌, ℕ, true, false, List, [], ◌∷◌, ◌++◌, length, Option, Some, None}
use Rattle.eof_laws.specs.live_model.layout_model.Places.{Geometry}
use Rattle.eof_laws.specs.live_model.image_model.Volume.{chain, extents, Volume}
use Rattle.eof_laws.specs.live_model.file_table.Files.{Files, runs_in, size_in}
use Rattle.eof_laws.specs.live_model.k_split.Order.{IsInOrder}
use Rattle.eof_laws.specs.live_model.k_split_model.View.{View}
use Rattle.eof_laws.specs.live_model.commute_laws.posix_types.declared.item.Item.{Item}
use Rattle.eof_laws.specs.live_model.posix_spec.Run.{after_call, begun, run}
use Rattle.eof_laws.specs.live_model.posix_spec.State.{State}
use Rattle.eof_laws.specs.live_model.posix_laws.Cuts.{cut_of}
use Rattle.eof_laws.specs.live_model.posix_laws.Shortens.{shortens}
use Rattle.eof_laws.specs.live_model.crash_spec.Posix.{syncs}
use Rattle.eof_laws.specs.live_model.crash_spec.Values.{value_put}
use Rattle.eof_laws.specs.live_model.world_model.Stands.{number}
use Rattle.posix_mode_laws.specs.Sides.{sized}
use Rattle.batch_laws.specs.Standing.{as_claims, staged_of}
use Rattle.k_split_laws.specs.Going.{IsStep}
use Rattle.batch_laws.specs.Ready.{GoesReady}

-- K-Split gathered a change, and its volume is this one: neither the device nor the committed volume differs.
pub record IsGathered (k l : View) (w : Volume) : Type 0 where
  pub volume : l.volume ≡ w
  pub committed : l.committed ≡ k.committed
  pub cells : l.cells ≡ k.cells
  pub order : IsInOrder l
  pub batched : l.batched ≡ true
  pub on : l.lost ≡ false

-- What is kept of files behind a change that makes or drops at most one file or directory: of that one nothing, of all others what it was.
pub record LeavesKept (touched : Option ℕ) (files e : Files) : Type 0 where
  pub count : length e.sizes ≡ length files.sizes
  pub own : (ino : ℕ) → touched ≡ Some ino → (runs_in e ino ≡ []) × (size_in e ino ≡ 0)
  pub others : (ino : ℕ) → touched ≢ Some ino → (runs_in e ino ≡ runs_in files ino) × (size_in e ino ≡ size_in files ino)

-- It takes no block: each map and chain is as it was, or there is none any more; what it touched has no block; and all others have their
-- nodes.
pub record TakesNone (touched : Option ℕ) (v w : Volume) (numbers after : List ℕ) : Type 0 where
  pub maps : (ino : ℕ) → ((chain w ino ≡ chain v ino) × (extents w ino ≡ extents v ino)) ⊎ ((chain w ino ≡ []) × (extents w ino ≡ []))
  pub own : (ino : ℕ) → touched ≡ Some ino → extents w ino ≡ []
  pub nodes : (ino : ℕ) → touched ≢ Some ino → number after ino ≡ number numbers ino

-- The call puts no byte, shortens no file, and is no `fsync` that returned ok.
pub record PutsNone (s : State) (item : Item) : Type 0 where
  pub no_sync : syncs item ≡ false
  pub puts : (n i : ℕ) → value_put s (begun item) n i ≡ None
  pub shortens_none : (n i : ℕ) → shortens s (begun item) n i ≡ false

-- A CHANGE OF NAMES: where it is a step of what the calls see, and of the batch as it would be committed, the device goes on behind the
-- call.
abbrev pub ChangeGoesOn : Type 0
ChangeGoesOn =
    (g : Geometry) (k l : View) (files e : Files) (count next : ℕ) (numbers after : List ℕ) (start : State) (history : List Item) (item : Item) (touched : Option ℕ) (w : Volume)
    → GoesReady g k files count numbers start history → IsGathered k l w → LeavesKept touched files e → TakesNone touched k.volume w numbers after → PutsNone (run start history) item
    → IsStep touched (sized files.sizes k.volume) (sized e.sizes w) (as_claims (staged_of k.volume files)) [] numbers after (run start history) (after_call (run start history) (begun item)) count next
    → IsStep touched k.volume w [] [] numbers after (cut_of (run start history)) (cut_of (after_call (run start history) (begun item))) count next
    → GoesReady g l e next after start (history ++ item ∷ [])
