-- A place that takes over what one seat after another knows.
use Rattle.std.proofs.Common.{◌≡◌, ℕ, List, [], ◌∷◌, ◌++◌, length, All, sym, ap, ◌∙◌, subst, arith, append-nil, append_assoc}
use Rattle.std.specs.Prelude.{None}
use Rattle.std.specs.List.{flat_map}
use Rattle.atomic_table.specs.Seated.{TableId}
use Rattle.atomic_table.specs.Table.{Me}
use Rattle.oplog_tail.specs.declared.views.Knows.{Knows}
use Rattle.oplog_tail.specs.declared.views.Slot.{Slot}
use Rattle.oplog_tail.specs.Closing.{claims_of_all, full_number}
use Rattle.oplog_tail.specs.Seats.{SeatView}
use Rattle.oplog_tail.specs.Views.{joined}

-- the numbers of the seats' answers
abbrev pub full_numbers : List SeatView → List ℕ
full_numbers seats = flat_map (λ s. full_number s.full) seats

-- The place knows what the last seats know, and the others are left.
pub record IsWhole (table : TableId) (all left : List SeatView) (id : TableId) (me : Me Slot Knows) : Type 0 where
  pub done : List SeatView
  pub split : all ≡ left ++ done
  pub at_table : id ≡ table
  pub home : me.1 ≡ []
  pub idle : me.0.held ≡ None
  pub parts : me.0.parts ≡ length done
  pub claims : me.0.claims ≡ claims_of_all done
  pub full : me.0.full ≡ full_numbers done
  pub others : All (λ s. s.log ≡ table) left

-- what is known of the place of a seat
pub record IsPlace (table : TableId) (s : SeatView) (id : TableId) (me : Me Slot Knows) : Type 0 where
  pub at_table : id ≡ table
  pub home : me.1 ≡ []
  pub idle : me.0.held ≡ None
  pub parts : me.0.parts ≡ 1
  pub claims : me.0.claims ≡ s.claims
  pub full : me.0.full ≡ full_number s.full

pub whole_one : (table : TableId) (all left : List SeatView) (s : SeatView) (id : TableId) (me : Me Slot Knows) → all ≡ left ++ s ∷ [] → All (λ x. x.log ≡ table) left
    → IsPlace table s id me → IsWhole table all left id me
whole_one table all left s id me split others place = record {
  done = s ∷ [];
  split = split;
  at_table = place.at_table;
  home = place.home;
  idle = place.idle;
  parts = place.parts;
  claims = place.claims ∙ sym (append-nil s.claims);
  full = place.full ∙ sym (append-nil (full_number s.full));
  others = others;
}

pub whole_more : (table : TableId) (all left rest : List SeatView) (s : SeatView) (id new_id other_id : TableId) (me new other : Me Slot Knows) → left ≡ rest ++ s ∷ [] → All (λ x. x.log ≡ table) rest
    → IsWhole table all left id me → IsPlace table s other_id other → new_id ≡ id → new ≡ (joined me.0 other.0, me.1) → IsWhole table all rest new_id new
whole_more table all left rest s id new_id other_id me new other split others whole place same is =
    subst (λ (m : Me Slot Knows). IsWhole table all rest new_id m) (sym is) (record {
      done = s ∷ whole.done;
      split = whole.split ∙ (ap (λ (l : List SeatView). l ++ whole.done) split ∙ append_assoc rest (s ∷ []) whole.done);
      at_table = same ∙ whole.at_table;
      home = whole.home;
      idle = whole.idle;
      parts = omega (arith, whole.parts, place.parts);
      claims = (λ i. place.claims i ++ whole.claims i);
      full = (λ i. place.full i ++ whole.full i);
      others = others;
    })
