-- The log's slots, and what is asked of two entries in them.
use Rattle.std.specs.Prelude.{◌≡◌, ◌≢◌, ℕ, ◌+◌, ◌<◌, true, Bool, if◌then◌else◌, All, List, [], ◌∷◌, map, Option, Some, None, slice_index_or}
use Rattle.std.specs.List.{range_with_len}
use Rattle.oplog_entry.specs.pm_model.Words.{Words, line_bytes}
use Rattle.oplog_entry.specs.layout_model.Places.{Geometry, log_line}
use Rattle.oplog_entry.specs.layout_model.declared.lines.Draft.{Draft}
use Rattle.oplog_entry.specs.layout_model.Entries.{decode_entry, is_draft, is_self_valid, held_seq}
use Rattle.check_image.specs.image_model.Broken.{Rule, below}
use Rattle.check_image.specs.image_model.Live.{is_of_file, is_live}
use Rattle.check_image.specs.image_model.Rules.{AreApart, IsOfNoLater}
use Rattle.check_image.specs.image_model.Volume.{Volume}

-- the entry that is valid in each slot of a log with this base
abbrev pub slots_at : Geometry → ℕ → Words → List (Option Draft)
slots_at g base f = map (λ s. decode_entry (line_bytes f (log_line g s)) (base + s)) (range_with_len 0 g.log)

-- what rule 12 asks of two entries in slots
pub record IsGoodPair (v : Volume) (d e : Draft) : Type 0 where
  pub apart : is_live v d ≡ true → is_live v e ≡ true → AreApart d e
  pub orders : is_of_file v d ≡ true → is_of_file v e ≡ true → d.ino ≡ e.ino → d.order ≢ e.order

-- the entry in a slot, where there is one, is such a pair with the other
pub record IsGoodSlot (v : Volume) (d : Draft) (o : Option Draft) : Type 0 where
  pub pair : (e : Draft) → o ≡ Some e → IsGoodPair v d e

-- the entry in slot s, where there is one, is such a pair with each in a later slot
pub record IsGoodWithLater (v : Volume) (slots : List (Option Draft)) (s : ℕ) (o : Option Draft) : Type 0 where
  pub pairs : (t : ℕ) (d : Draft) → s < t → o ≡ Some d → IsGoodSlot v d (slice_index_or slots t None)

-- so it is of each slot
abbrev pub AreGoodSlots : Volume → List (Option Draft) → Type 0
AreGoodSlots v slots = (s : ℕ) → IsGoodWithLater v slots s (slice_index_or slots s None)

-- each entry in a slot has its fields in range
abbrev pub IsDraftOrNone : Option Draft → Type 0
IsDraftOrNone None = Unit {0}
IsDraftOrNone (Some d) = is_draft d ≡ true

abbrev pub AreDrafts : List (Option Draft) → Type 0
AreDrafts slots = All IsDraftOrNone slots

-- the line of a slot is no valid entry of a lap to come
abbrev pub IsNoLaterAt : Geometry → ℕ → Words → ℕ → Type 0
IsNoLaterAt g base f slot =
    is_self_valid (line_bytes f (log_line g slot)) ≡ true → held_seq (line_bytes f (log_line g slot)) < base + g.log

-- rule 13
abbrev pub later_rule : Volume → Words → Rule
later_rule v f = below 13 v.geometry.log (IsOfNoLater v f)

-- what a slot adds to the entries that pass a test
abbrev pub passing : (Draft → Bool) → Option Draft → List Draft
passing p None = []
passing p (Some d) = if p d then d ∷ [] else []
