-- Rule 12 by its tests.
use Rattle.std.proofs.Common.{◌≡◌, ℕ, zero, suc, ◌+◌, ◌<◌, List, [], ◌∷◌, length, map, get_or, All, Bool, true, Option, Some, None, refl, sym, ◌∙◌, ap, subst, arith, inl, inr}
use Rattle.std.specs.Prelude.{slice_index_or, filter}
use Rattle.std.specs.List.{filter_map, cons_option, range_with_len}
use Rattle.std.proofs.lemmas.List.Elements.{All-filter}
use Rattle.std.proofs.lemmas.Bool.{cases_lt}
use Rattle.std.proofs.lemmas.List.{get_or_past}
use Rattle.std.proofs.lemmas.List.FromFn.{length-map-range_with_len, get_or-map-range_with_len}
use Rattle.oplog_entry.specs.pm_model.Words.{Words, line_bytes}
use Rattle.oplog_entry.specs.layout_model.Places.{Geometry, log_line}
use Rattle.oplog_entry.specs.layout_model.declared.lines.Draft.{Draft}
use Rattle.oplog_entry.specs.layout_model.Entries.{decode_entry, is_draft}
use Rattle.oplog_entry.specs.layout_model.EntryLaws.{IsEntryLine-decode_entry}
use Rattle.check_image.specs.image_model.Live.{entry_in, is_live, live_entries}
use Rattle.check_image.specs.image_model.Rules.{HasStagingBlocks, CanRecover}
use Rattle.check_image.specs.image_model.Volume.{Volume}
use Rattle.k_check.specs.Rooms.{HasRoom}
use Rattle.k_check.specs.Slots.{slots_at, AreGoodSlots, IsDraftOrNone, AreDrafts}
use Rattle.k_check.proofs.SlotFacts.{items_of}

-- the entry in a slot
slot-entry : (v : Volume) (j : Words) (s : ℕ) → s < v.geometry.log → slice_index_or (slots_at v.geometry v.base j) s None ≡ entry_in v j s
slot-entry v j s below =
    get_or-map-range_with_len (λ k. decode_entry (line_bytes j (log_line v.geometry k)) (v.base + k)) 0 v.geometry.log s s None below (omega arith)

slot-within : (v : Volume) (j : Words) (s : ℕ) (d : Draft) → slice_index_or (slots_at v.geometry v.base j) s None ≡ Some d → s < v.geometry.log
slot-within v j s d is = elim (cases_lt s v.geometry.log) [
  | inl within ↦ within
  | inr past ↦
      let count = length-map-range_with_len (λ k. decode_entry (line_bytes j (log_line v.geometry k)) (v.base + k)) 0 v.geometry.log in
      let none : slice_index_or (slots_at v.geometry v.base j) s None ≡ None = get_or_past (slots_at v.geometry v.base j) s None (omega (arith, count, past)) in
      absurd (let never : ⊥ = cc (none, is) in never)
]

-- what stands in slots has its fields in range
draft-or-none : (bytes : List ℕ) (seq : ℕ) (o : Option Draft) → decode_entry bytes seq ≡ o → IsDraftOrNone o
draft-or-none bytes seq None is = tt
draft-or-none bytes seq (Some d) is = (IsEntryLine-decode_entry bytes seq d is).fields

pub slots-drafts : (g : Geometry) (base : ℕ) (j : Words) → AreDrafts (slots_at g base j)
slots-drafts g base j k d below =
    let f : ℕ → Option Draft = λ s. decode_entry (line_bytes j (log_line g s)) (base + s) in
    let within : k < g.log = omega (arith, below, length-map-range_with_len f 0 g.log) in
    subst IsDraftOrNone (sym (get_or-map-range_with_len f 0 g.log k k d within (omega arith)))
    (draft-or-none (line_bytes j (log_line g k)) (base + k) (f k) refl)

-- the live entries are those of the slots
items-of_map : (f : ℕ → Option Draft) (xs : List ℕ) → items_of (map f xs) ≡ filter_map f xs
items-of_map f [] = refl
items-of_map f (x ∷ xs) = ap (cons_option (f x)) (items-of_map f xs)

pub live-slots : (v : Volume) (j : Words) → filter (is_live v) (items_of (slots_at v.geometry v.base j)) ≡ live_entries v j
live-slots v j = ap (filter (is_live v)) (items-of_map (entry_in v j) (range_with_len 0 v.geometry.log))

-- what stands in slots has its fields in range, also as a list
items-drafts : (slots : List (Option Draft)) → AreDrafts slots → All (λ d. is_draft d ≡ true) (items_of slots)
items-drafts [] all = λ k d below. absurd (omega arith)
items-drafts (None ∷ slots) all = items-drafts slots (λ k d below. all (suc k) d (omega arith))
items-drafts (Some x ∷ slots) all = by (items-drafts slots (λ k d below. all (suc k) d (omega arith)))
  where
    by : All (λ d. is_draft d ≡ true) (items_of slots) → (k : ℕ) (d : Draft) → k < length (x ∷ items_of slots) → is_draft (get_or (x ∷ items_of slots) k d) ≡ true
    by rest zero d below = all 0 None (omega arith)
    by rest (suc k) d below = rest k d (omega arith)

pub live-drafts : (p : Draft → Bool) (slots : List (Option Draft)) → AreDrafts slots → All (λ d. is_draft d ≡ true) (filter p (items_of slots))
live-drafts p slots all = All-filter p (λ d. is_draft d ≡ true) (items_of slots) (items-drafts slots all)

-- Pairs of entries, by their slots.
pub pairs-held : (v : Volume) (j : Words) → CanRecover v j → AreGoodSlots v (slots_at v.geometry v.base j)
pairs-held v j can s = record {
  pairs = λ t d after first. record {
    pair = λ e second.
        let within = slot-within v j t e second in
        let entry = sym (slot-entry v j s (omega arith)) ∙ first in
        let other = sym (slot-entry v j t within) ∙ second in
        record {
          apart = λ live live_too. can.apart s t d e after within entry other live live_too;
          orders = λ of_file of_file_too. can.orders s t d e after within entry other of_file of_file_too;
        };
  };
}

pub recover-held : (v : Volume) (j : Words) → All (HasStagingBlocks v) (live_entries v j) → AreGoodSlots v (slots_at v.geometry v.base j)
    → HasRoom v (live_entries v j) → CanRecover v j
recover-held v j staged good room = record {
  staged = staged;
  apart = λ s t d e before below first second live live_too.
      (((good s).pairs t d before (slot-entry v j s (omega arith) ∙ first)).pair e (slot-entry v j t below ∙ second)).apart live live_too;
  orders = λ s t d e before below first second of_file of_file_too.
      (((good s).pairs t d before (slot-entry v j s (omega arith) ∙ first)).pair e (slot-entry v j t below ∙ second)).orders of_file of_file_too;
  held = room.held;
  unused = room.unused;
}

pub room-of : (v : Volume) (j : Words) → CanRecover v j → HasRoom v (live_entries v j)
room-of v j can = record { held = can.held; unused = can.unused }
