-- The log of a round holds the claims that were made of it.
use Rattle.std.proofs.Common.{◌≡◌, ◌≢◌, ◌<◌, ◌+◌, ◌⊎◌, ℕ, zero, suc, List, [], ◌∷◌, ◌++◌, length, refl, sym, ◌∙◌, ap, subst, arith, inl, inr}
use Rattle.std.specs.Prelude.{Contains}
use Rattle.std.proofs.lemmas.Bool.{cases_eq}
use Rattle.std.proofs.lemmas.List.{length-map}
use Rattle.std.proofs.Math.ListN.{get_or-map}
use Rattle.std.proofs.lemmas.List.Elements.{Contains-append_left, Contains-push, Contains-push_cases}
use Rattle.oplog_entry.specs.pm_model.Parts.{Part}
use Rattle.layout_model.specs.declared.lines.Draft.{Draft}
use Rattle.oplog_entry.specs.image_model.LogRule.{cells_of_line, HoldsEntry, IsAsAtFirst}
use Rattle.oplog_entry.specs.LogLines.{cells_of}
use Rattle.oplog_entry.specs.LogLines.{line_at}
use Rattle.round_log.specs.Held.{ChangesTaken, ClaimsSlot, HoldsNone, IsUnclaimed, LinesHoldClaims, TakesSlot}
use Rattle.round_log.specs.Rounds.{RoundView}

-- ---- lists

none-in : {X : Type 0} (x : X) → ¬ Contains [] x
none-in x (k, below, is) = absurd (omega (arith, below))

first-in : {X : Type 0} (x : X) (xs : List X) → Contains (x ∷ xs) x
first-in x xs = (0, omega arith, refl)

behind-in : {X : Type 0} (x y : X) (xs : List X) → Contains xs y → Contains (x ∷ xs) y
behind-in x y xs (k, below, is) = (suc k, omega (arith, below), is)

in-cons : {X : Type 0} (x y : X) (xs : List X) → Contains (x ∷ xs) y → (x ≡ y) ⊎ Contains xs y
in-cons x y xs (zero, below, is) = inl is
in-cons x y xs (suc k, below, is) = inr (k, omega (arith, below), is)

-- ---- the laws

pub holds_none : HoldsNone
holds_none start base = record {
  count = refl;
  places = λ n. refl;
  claimed = λ n d is. absurd (none-in (n, d) is);
  out = λ n is. absurd (none-in n is);
  others = λ n free apart. refl;
}

pub takes_slot : TakesSlot
takes_slot start old new slot claims taken holds (same, below, new_is) = (
  record {
    count = ap (λ (x : RoundView). length x.lines) new_is ∙ holds.count;
    places = λ n. ap (λ (x : RoundView). (line_at x.lines n).place) new_is ∙ holds.places n;
    claimed = λ n d is.
        let was = holds.claimed n d is in (
          omega (arith, was.0, tail_is),
          subst (λ (x : RoundView). HoldsEntry (line_at x.lines n).cells d (x.base + n)) (sym new_is) was.1,
        );
    out = λ n is. by n (in-cons slot n taken is);
    others = λ n free apart.
        ap (λ (x : RoundView). line_at x.lines n) new_is ∙ holds.others n free (λ is. apart (behind-in slot n taken is));
  },
  ap (λ (x : RoundView). line_at x.lines slot) new_is ∙ holds.others slot unclaimed fresh,
  fresh,
) where
  tail_is : new.tail ≡ old.tail + 1
  tail_is = ap (λ (x : RoundView). x.tail) new_is

  unclaimed : IsUnclaimed claims slot
  unclaimed d is = let was = holds.claimed slot d is in absurd (omega (arith, was.0, same))

  fresh : ¬ Contains taken slot
  fresh is = let was = holds.out slot is in absurd (omega (arith, was.0, same))

  by : (n : ℕ) → (slot ≡ n) ⊎ Contains taken n → (n < new.tail) × IsUnclaimed claims n
  by n (inl own) = (omega (arith, own, same, tail_is), subst (IsUnclaimed claims) own unclaimed)
  by n (inr is) = let was = holds.out n is in (omega (arith, was.0, tail_is), was.1)

pub changes_taken : ChangesTaken
changes_taken start old new slot claims taken holds out change = record {
  count = change.count ∙ holds.count;
  places = λ n. place_is n (cases_eq n slot) ∙ holds.places n;
  claimed = λ n d is.
      let was = holds.claimed n d is in
      let other : n ≢ slot = λ own. (holds.out slot out).1 d (subst (λ m. Contains claims (m, d)) own is) in (
        omega (arith, was.0, change.tail),
        subst (λ b. HoldsEntry (line_at new.lines n).cells d (b + n)) (sym change.base) (subst (λ (line : Part). HoldsEntry line.cells d (old.base + n)) (sym (change.others n other)) was.1),
      );
  out = λ n is. let was = holds.out n is in (omega (arith, was.0, change.tail), was.1);
  others = λ n free apart.
      let other : n ≢ slot = λ own. apart (subst (Contains taken) (sym own) out) in
      change.others n other ∙ holds.others n free apart;
} where
  place_is : (n : ℕ) → (n ≡ slot) ⊎ (n ≢ slot) → (line_at new.lines n).place ≡ (line_at old.lines n).place
  place_is n (inl own) = subst (λ m. (line_at new.lines m).place ≡ (line_at old.lines m).place) (sym own) change.place
  place_is n (inr other) = ap (λ (line : Part). line.place) (change.others n other)

-- the two pairs are one
abbrev IsPair : ℕ → Draft → ℕ → Draft → Type 0
IsPair slot d n e = let one : ℕ × Draft = (slot, d) in let other : ℕ × Draft = (n, e) in one ≡ other

pub claims_slot : ClaimsSlot
claims_slot start log slot d claims taken holds apart entry = record {
  count = holds.count;
  places = holds.places;
  claimed = λ n e is. by n e (Contains-push_cases claims (slot, d) (n, e) is);
  out = λ n is. ((holds.out n (behind-in slot n taken is)).0, λ e in_both. other n e is (Contains-push_cases claims (slot, d) (n, e) in_both));
  others = λ n free away.
      holds.others n (λ e is. free e (Contains-append_left claims ((slot, d) ∷ []) (n, e) is))
      (λ is. still n free away (in-cons slot n taken is));
} where
  by : (n : ℕ) (e : Draft) → Contains claims (n, e) ⊎ IsPair slot d n e → (n < log.tail) × HoldsEntry (line_at log.lines n).cells e (log.base + n)
  by n e (inl was) = holds.claimed n e was
  by n e (inr own) =
      let at : slot ≡ n = ap (λ (c : ℕ × Draft). c.0) own in
      let is : d ≡ e = ap (λ (c : ℕ × Draft). c.1) own in (
        omega (arith, (holds.out slot (first-in slot taken)).0, at),
        subst (λ m. HoldsEntry (line_at log.lines m).cells e (log.base + m)) at (subst (λ x. HoldsEntry (line_at log.lines slot).cells x (log.base + slot)) is entry),
      )

  other : (n : ℕ) (e : Draft) → Contains taken n → Contains claims (n, e) ⊎ IsPair slot d n e → ⊥
  other n e is (inl was) = (holds.out n (behind-in slot n taken is)).1 e was
  other n e is (inr own) = apart (subst (Contains taken) (sym (ap (λ (c : ℕ × Draft). c.0) own)) is)

  still : (n : ℕ) → IsUnclaimed (claims ++ (slot, d) ∷ []) n → ¬ Contains taken n → (slot ≡ n) ⊎ Contains taken n → ⊥
  still n free away (inl own) = free d (subst (λ m. Contains (claims ++ (slot, d) ∷ []) (m, d)) own (Contains-push claims (slot, d)))
  still n free away (inr is) = away is

-- ---- once no entry is on its way

cells_at : (lines : List Part) (n : ℕ) → cells_of_line (cells_of lines) n ≡ (line_at lines n).cells
cells_at lines n = get_or-map (λ (p : Part). p.cells) lines n (record { place = 0; cells = [] })

count_of : (lines : List Part) → length (cells_of lines) ≡ length lines
count_of lines = length-map lines (λ (p : Part). p.cells)

pub lines_hold : LinesHoldClaims
lines_hold start log claims first holds round fresh = record {
  claimed = λ n d is.
      let was = holds.claimed n d is in (
        omega (arith, was.0, round.within, count_of log.lines),
        subst (λ cells. HoldsEntry cells d (log.base + n)) (sym (cells_at log.lines n)) was.1,
      );
  unclaimed = λ n below free.
      let same : line_at log.lines n ≡ line_at start n = holds.others n free (none-in n) in
      subst (λ cells. IsAsAtFirst cells (first n)) (sym (cells_at log.lines n ∙ ap (λ (line : Part). line.cells) same))
      (fresh n (omega (arith, below, count_of log.lines, holds.count)));
}
