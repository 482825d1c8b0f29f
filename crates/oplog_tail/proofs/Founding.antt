-- A log that is opened keeps the rule: nobody claimed a line, and each is in its slot.
use Rattle.std.proofs.Common.{◌≡◌, ℕ, zero, suc, ◌<◌, ◌≤◌, List, [], ◌∷◌, length, map, sym, refl, ap, ◌∙◌, subst, arith}
use Rattle.std.proofs.lemmas.List.{get_or_default, length-map}
use mathlib.Core.Option.{some, some-injective, some-ne-none}
use lib.ListN.{get_elem?}
use Rattle.atomic_table.specs.Table.{opening}
use Rattle.atomic_table.proofs.Lists.{at_index, at_map}
use Rattle.oplog_entry.specs.image_model.pm_model.Parts.{Part}
use Rattle.oplog_tail.specs.declared.views.Knows.{Knows}
use Rattle.oplog_tail.specs.declared.views.Slot.{Slot}
use Rattle.oplog_tail.specs.declared.views.Slot.TheVariants.{Fresh}
use Rattle.oplog_tail.specs.declared.views.Start.{Start}
use Rattle.oplog_entry.specs.EntryLines.{IsSingle}
use Rattle.oplog_tail.specs.Views.{newcomer}
use Rattle.oplog_tail.specs.Rule.{first_view, IsView, Kept}
use Rattle.oplog_entry.specs.LogLines.{line_at}
use Rattle.oplog_tail.proofs.Seating.{is_newcomer}
use Rattle.list_laws.specs.Numbers.{once_past}

pub opens_kept : (key : Start) (xs : List Slot) → xs ≡ map Fresh key.lines.value.items → key.seats ≤ 9 → length key.lines.value.items ≤ 4096
    → ((n : ℕ) → n < length key.lines.value.items → IsSingle (line_at key.lines.value.items n).cells) → Kept key (opening (0 ∷ 0 ∷ []) xs (first_view key))
opens_kept key xs slots few small single = record {
  tail = 0;
  marks = 0;
  words = refl;
  rule = record {
    size = length-map xs some ∙ (ap (λ (l : List Slot). length l) slots ∙ length-map start Fresh);
    small = small;
    seats_few = few;
    single = single;
    parts = omega arith;
    claims = refl;
    once = λ x. sym (once_past x 0 (omega arith));
    fulls = omega arith;
    written = refl;
    each = each;
    fresh = λ n past within. at_map some xs n (Fresh (line_at start n)) (at n within);
  };
} where
  start : List Part
  start = key.lines.value.items

  at : (n : ℕ) → n < length start → get_elem? xs n ≡ some (Fresh (line_at start n))
  at n within = subst (λ (l : List Slot). get_elem? l n ≡ some (Fresh (line_at start n))) (sym slots)
      (at_map Fresh start n (line_at start n) (at_index start n (line_at start n) within (get_or_default start n (record { place = 0; cells = [] }) (line_at start n) within)))

  each : (j : ℕ) (v : Knows) → get_elem? (newcomer key.seats ∷ []) j ≡ some v → IsView key.base start (map some xs) v
  each zero v there = subst (IsView key.base start (map some xs)) (some-injective (newcomer key.seats) v there) (is_newcomer key.base start (map some xs) key.seats)
  each (suc j) v there = absurd (some-ne-none v (sym there))
