-- Seats that are dealt and gathered keep the rule.
use Rattle.std.proofs.Common.{◌≡◌, ◌≢◌, ℕ, ◌+◌, ◌-◌, ◌<◌, ◌≤◌, List, [], ◌∷◌, ◌++◌, length, set, sym, refl, ◌∙◌, subst, ⊎_elim, arith, length-append}
use Rattle.std.specs.Prelude.{Contains, None}
use Rattle.std.proofs.lemmas.List.Elements.{Contains-append_cases}
use mathlib.Core.Option.{none, some}
use mathlib.Core.Option as maybe
use lib.ListN.{get_elem?}
use Rattle.atomic_table.proofs.Lists.{at_set, at_snoc, set_else}
use Rattle.oplog_entry.specs.image_model.pm_model.Parts.{Part}
use Rattle.oplog_tail.specs.declared.views.Claim.{Claim}
use Rattle.oplog_tail.specs.declared.views.Knows.{Knows}
use Rattle.oplog_tail.specs.declared.views.Slot.{Slot}
use Rattle.oplog_tail.specs.Views.{claims_of, fulls_of, joined, newcomer, parts_of, times_in, written_of}
use Rattle.oplog_tail.specs.Rule.{IsKept, IsView, Rule}
use Rattle.oplog_tail.proofs.Counts.{claims_of-joined, times_in-joined, written_of-joined}
use Rattle.list_laws.specs.Sums.{sum_set, sum_split}

-- a seat that claimed nothing
pub is_newcomer : (base : ℕ) (start : List Part) (homes : List (maybe.Option Slot)) (parts : ℕ) → IsView base start homes (newcomer parts)
is_newcomer base start homes parts = record {
  few = omega arith;
  spent = λ empty. refl;
  past = λ n has. let within = has.1 in absurd (omega arith);
  held = tt;
  claims = λ c has. let within = has.1 in absurd (omega arith);
}

pub deals : (seats base : ℕ) (start : List Part) (tail marks : ℕ) (homes : List (maybe.Option Slot)) (views : List Knows) (id parts : ℕ)
    → Rule seats base start tail marks homes views → get_elem? views id ≡ some (newcomer parts) → 0 < parts
    → Rule seats base start tail marks homes (set views id (newcomer (parts - 1)) ++ newcomer 1 ∷ [])
deals seats base start tail marks homes views id parts rule at some_part = record {
  size = rule.size;
  small = rule.small;
  seats_few = rule.seats_few;
  single = rule.single;
  parts = omega (arith, sum_split parts_of views id v w (newcomer 1) at, rule.parts, some_part);
  claims = omega (arith, sum_split claims_of views id v w (newcomer 1) at, rule.claims);
  once = λ x. omega (arith, sum_split (times_in x) views id v w (newcomer 1) at, rule.once x);
  fulls = omega (arith, sum_split fulls_of views id v w (newcomer 1) at, rule.fulls);
  written = omega (arith, sum_split written_of views id v w (newcomer 1) at, rule.written);
  each = each;
  fresh = rule.fresh;
} where
  v : Knows
  v = newcomer parts

  w : Knows
  w = newcomer (parts - 1)

  each : (j : ℕ) (u : Knows) → get_elem? (set views id w ++ newcomer 1 ∷ []) j ≡ some u → IsView base start homes u
  each j u there = ⊎_elim
      (λ (old : get_elem? (set views id w) j ≡ some u). ⊎_elim
      (λ (mine : (j ≡ id) × (w ≡ u)). subst (IsView base start homes) mine.1 (is_newcomer base start homes (parts - 1)))
      (λ (other : (j ≢ id) × (get_elem? views j ≡ some u)). rule.each j u other.1)
      (at_set views id j w u old))
      (λ (new : newcomer 1 ≡ u). subst (IsView base start homes) new (is_newcomer base start homes 1))
      (at_snoc (set views id w) (newcomer 1) u j there)

pub gathers : (seats base : ℕ) (start : List Part) (tail marks : ℕ) (homes : List (maybe.Option Slot)) (views : List Knows) (id : ℕ) (v : Knows) (other : ℕ) (w : Knows)
    → Rule seats base start tail marks homes views → get_elem? views id ≡ some v → other ≢ id → get_elem? (set views id (joined v w)) other ≡ some w → w.held ≡ None
    → Rule seats base start tail marks homes (set (set views id (joined v w)) other (newcomer 0))
gathers seats base start tail marks homes views id v other w rule at apart there idle = record {
  size = rule.size;
  small = rule.small;
  seats_few = rule.seats_few;
  single = rule.single;
  parts = omega (arith, sum_set parts_of views id v both at, sum_set parts_of views' other w (newcomer 0) there, rule.parts);
  claims = omega (arith, sum_set claims_of views id v both at, sum_set claims_of views' other w (newcomer 0) there, claims_of-joined v w idle, rule.claims);
  once = λ x. omega (arith, sum_set (times_in x) views id v both at, sum_set (times_in x) views' other w (newcomer 0) there, times_in-joined x v w idle, rule.once x);
  fulls = omega (arith, sum_set fulls_of views id v both at, sum_set fulls_of views' other w (newcomer 0) there, length-append w.full v.full, rule.fulls);
  written = omega (arith, sum_set written_of views id v both at, sum_set written_of views' other w (newcomer 0) there, written_of-joined v w, rule.written);
  each = each;
  fresh = rule.fresh;
} where
  both : Knows
  both = joined v w

  views' : List Knows
  views' = set views id both

  mine : IsView base start homes v
  mine = rule.each id v at

  its : IsView base start homes w
  its = rule.each other w (sym (set_else views id other both apart) ∙ there)

  past : (n : ℕ) → Contains (w.full ++ v.full) n → length start ≤ n
  past n has = ⊎_elim (λ (b : Contains w.full n). its.past n b) (λ (a : Contains v.full n). mine.past n a) (Contains-append_cases w.full v.full n has)

  claims : (c : Claim) → Contains (w.claims ++ v.claims) c → IsKept base start homes c
  claims c has = ⊎_elim (λ (b : Contains w.claims c). its.claims c b) (λ (a : Contains v.claims c). mine.claims c a) (Contains-append_cases w.claims v.claims c has)

  spent : v.parts + w.parts ≡ 0 → claims_of both ≡ 0
  spent empty =
      let a : v.parts ≡ 0 = omega (arith, empty) in
      let b : w.parts ≡ 0 = omega (arith, empty) in
      omega (arith, claims_of-joined v w idle, mine.spent a, its.spent b)

  each : (j : ℕ) (u : Knows) → get_elem? (set views' other (newcomer 0)) j ≡ some u → IsView base start homes u
  each j u is = ⊎_elim
      (λ (gone : (j ≡ other) × (newcomer 0 ≡ u)). subst (IsView base start homes) gone.1 (is_newcomer base start homes 0))
      (λ (rest : (j ≢ other) × (get_elem? views' j ≡ some u)). ⊎_elim
      (λ (here : (j ≡ id) × (both ≡ u)). subst (IsView base start homes) here.1 (record {
        few = omega (arith, length-append w.full v.full, mine.few, its.few);
        spent = spent;
        past = past;
        held = mine.held;
        claims = claims;
      }))
      (λ (old : (j ≢ id) × (get_elem? views j ≡ some u)). rule.each j u old.1)
      (at_set views id j both u rest.1))
      (at_set views' other j (newcomer 0) u is)
