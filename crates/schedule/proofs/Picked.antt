-- A pick of a picker is one of the order that it stands for.
use Rattle.std.specs.Prelude.{◌≡◌, ◌≢◌, ◌⊎◌, ◌≤◌, ◌<◌, ◌+◌, ◌%◌, ℕ, zero, suc, List, [], length, Option, Some, None, Contains, slice_get, refl}
use Rattle.std.proofs.Common.{arith, ap, ◌∙◌, sym, subst, inl, inr, Global, Vec}
use Rattle.rand_xoshiro.specs.SplitMix64.{mix_u64}
use Rattle.crash_spec.specs.Orders as meaning
use Rattle.crash_spec.specs.Orders.{ArePassedOver, draw, IsInTurn, Picks}
use Rattle.schedule.specs.declared.picks.Picker.{Picker}
use Rattle.schedule.specs.declared.picks.Source.{Source}
use Rattle.schedule.specs.Picking.{GoesTo, IsListed, IsSoFar, IsSource, PicksNext}
use Rattle.schedule.proofs.Lowest.{member_at, turn_member}

-- one draw further
draw_next : (seed k : ℕ) → draw seed (suc k) ≡ draw (mix_u64 seed).1 k
unfolding draw
draw_next seed k = refl

draw_first : (seed : ℕ) → draw seed 0 ≡ (mix_u64 seed).0
unfolding draw
draw_first seed = refl

-- by its list
pub picked_list : (old new : Picker) (numbers : List ℕ) (n : ℕ) (v : Vec ℕ Global) → old.source ≡ Source.List v → new.source ≡ Source.List v → new.last ≡ Some n → IsListed v.items numbers old.last old.place new.place n → PicksNext numbers old new n
picked_list old new numbers n v old_is new_is last is (meaning.Listed list) far so = by is where
  from : (v.items ≡ list) × (old.place ≡ far.place)
  from = subst (λ (s : Source). IsSource s old.place (meaning.Listed list) far.place) old_is so.source

  so_then : (to : ℕ) → new.place ≡ to → IsSoFar new (meaning.Listed list) (record { place = to; last = Some n })
  so_then to same = record { source = subst (λ (s : Source). IsSource s new.place (meaning.Listed list) to) (sym new_is) (from.0, same); last = last }

  passed : (to : ℕ) → ArePassedOver v.items numbers old.place to → ArePassedOver list numbers far.place to
  passed to was = subst (λ (k : ℕ). ArePassedOver list numbers k to) from.1 (subst (λ (xs : List ℕ). ArePassedOver xs numbers old.place to) from.0 was)

  by : IsListed v.items numbers old.last old.place new.place n → (next : meaning.Picker) × Picks numbers far (meaning.Listed list) n next × IsSoFar new (meaning.Listed list) next
  by (inl at) = (
    record { place = at.0 + 1; last = Some n },
    meaning.ByList list at.0 n (omega (arith, at.1, from.1)) (subst (λ (xs : List ℕ). slice_get xs at.0 ≡ Some n) from.0 at.2) at.3 (passed at.0 at.4),
    so_then (at.0 + 1) at.5,
  )
  by (inr behind) = (
    record { place = length list; last = Some n },
    meaning.BehindList list n (passed (length list) (subst (λ (k : ℕ). ArePassedOver v.items numbers old.place k) long behind.0)) (subst (λ (l : Option ℕ). IsInTurn numbers l n) so.last behind.1),
    so_then (length list) (behind.2 ∙ long),
  ) where
    long : length v.items ≡ length list
    long = ap (λ (xs : List ℕ). length xs) from.0
picked_list old new numbers n v old_is new_is last is (meaning.Seeded seed) far so = absurd (subst (λ (s : Source). IsSource s old.place (meaning.Seeded seed) far.place) old_is so.source)
picked_list old new numbers n v old_is new_is last is meaning.Round far so = absurd (subst (λ (s : Source). IsSource s old.place meaning.Round far.place) old_is so.source)

-- by a draw
pub picked_draw : (old new : Picker) (numbers : List ℕ) (n draws : ℕ) → old.source ≡ Source.Seed draws → new.source ≡ Source.Seed (mix_u64 draws).1 → new.last ≡ Some n → slice_get numbers ((mix_u64 draws).0 % length numbers) ≡ Some n
    → PicksNext numbers old new n
picked_draw old new numbers n draws old_is new_is last is (meaning.Seeded seed) far so = (
  record { place = far.place + 1; last = Some n },
  meaning.ByDraw seed n (subst (λ (k : ℕ). slice_get numbers (k % length numbers) ≡ Some n) (sym (draw_first draws) ∙ (from 0 ∙ ap (draw seed) (omega arith))) is),
  record { source = subst (λ (s : Source). IsSource s new.place (meaning.Seeded seed) (far.place + 1)) (sym new_is) (λ i. sym (draw_next draws i) ∙ (from (suc i) ∙ ap (draw seed) (omega arith))); last = last },
) where
  from : (i : ℕ) → draw draws i ≡ draw seed (far.place + i)
  from = subst (λ (s : Source). IsSource s old.place (meaning.Seeded seed) far.place) old_is so.source
picked_draw old new numbers n draws old_is new_is last is (meaning.Listed list) far so = absurd (subst (λ (s : Source). IsSource s old.place (meaning.Listed list) far.place) old_is so.source)
picked_draw old new numbers n draws old_is new_is last is meaning.Round far so = absurd (subst (λ (s : Source). IsSource s old.place meaning.Round far.place) old_is so.source)

-- in turn
pub picked_turn : (old new : Picker) (numbers : List ℕ) (n : ℕ) → old.source ≡ Source.Round → new.source ≡ Source.Round → new.last ≡ Some n → IsInTurn numbers old.last n → PicksNext numbers old new n
picked_turn old new numbers n old_is new_is last is meaning.Round far so = (
  record { place = far.place; last = Some n },
  meaning.InTurn n (subst (λ (l : Option ℕ). IsInTurn numbers l n) so.last is),
  record { source = subst (λ (s : Source). IsSource s new.place meaning.Round far.place) (sym new_is) tt; last = last },
)
picked_turn old new numbers n old_is new_is last is (meaning.Listed list) far so = absurd (subst (λ (s : Source). IsSource s old.place (meaning.Listed list) far.place) old_is so.source)
picked_turn old new numbers n old_is new_is last is (meaning.Seeded seed) far so = absurd (subst (λ (s : Source). IsSource s old.place (meaning.Seeded seed) far.place) old_is so.source)

-- ---- each is one of those that can run

pub listed_member : (list numbers : List ℕ) (last : Option ℕ) (from to n : ℕ) → IsListed list numbers last from to n → Contains numbers n
listed_member list numbers last from to n (inl at) = at.3
listed_member list numbers last from to n (inr behind) = turn_member numbers last n behind.1

pub picked : (old new : Picker) (numbers : List ℕ) (n : ℕ) → GoesTo numbers old.last old.source old.place new.source new.place n → new.last ≡ Some n → PicksNext numbers old new n
picked old new numbers n goes last = by old.source refl goes where
  by : (s : Source) → old.source ≡ s → GoesTo numbers old.last s old.place new.source new.place n → PicksNext numbers old new n
  by (Source.List list) is to = picked_list old new numbers n list is to.0 last to.1
  by (Source.Seed draws) is to = picked_draw old new numbers n draws is to.0 last to.1
  by Source.Round is to = picked_turn old new numbers n is to.0 last to.1

pub goes_member : (numbers : List ℕ) (last : Option ℕ) (s then : Source) (from to n : ℕ) → GoesTo numbers last s from then to n → Contains numbers n
goes_member numbers last (Source.List list) then from to n goes = listed_member list.items numbers last from to n goes.1
goes_member numbers last (Source.Seed draws) then from to n goes = member_at numbers ((mix_u64 draws).0 % length numbers) n goes.1
goes_member numbers last Source.Round then from to n goes = turn_member numbers last n goes.1
