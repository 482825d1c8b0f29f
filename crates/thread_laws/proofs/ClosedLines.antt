-- The lines of a log that threads filled, closed, are those that a World asks for.
use Rattle.std.specs.Prelude.{◌≡◌, ◌⊎◌, ◌<◌, ◌≤◌, ◌+◌, ℕ, zero, suc, Contains, List, [], ◌∷◌, ◌++◌, length, sum_by, refl}
use Rattle.std.proofs.Common.{arith, ap, ◌∙◌, sym, subst, inl, inr}
use Rattle.std.proofs.lemmas.Bool.{cases_lt}
use Rattle.std.proofs.lemmas.List.{length-map}
use Rattle.std.proofs.lemmas.List.Sums.{sum_by-cons}
use Rattle.oplog_tail.specs.declared.views.Claim.{Claim}
use Rattle.oplog_tail.specs.Closing.{claim_with, claims_of_all}
use Rattle.oplog_tail.specs.Logs.{LogView}
use Rattle.oplog_tail.specs.Seats.{SeatView}
use Rattle.oplog_tail.specs.Views.{claim, claims_with, number_of}
use Rattle.oplog_tail.specs.oplog_entry.declared.claims.Mark.TheVariants.{Lost, Written}
use Rattle.oplog_tail.specs.oplog_entry.LogLines.{cells_of, line_at}
use Rattle.oplog_tail.specs.layout_model.declared.lines.Draft.{Draft}
use Rattle.round_laws.specs.world_view_laws.pm_model.Cells.{newest}
use Rattle.round_laws.specs.world_view_laws.pm_model.declared.Cell.{Cell}
use Rattle.round_laws.specs.world_view_laws.pm_model.Parts.{Part}
use Rattle.round_laws.specs.world_view_laws.image_model.LogRule.{cells_of_line, HoldsEntry, IsAsAtFirst, words_of_line}
use Rattle.round_laws.specs.world_view_laws.list_laws.Members.{In}
use Rattle.round_laws.specs.world_view_laws.list_laws.Numbers.{member_of_with, once_of_below}
use Rattle.round_laws.specs.world_view_laws.write_end.Lines.{AreLinesOf, IsJobLine}
use Rattle.round_laws.specs.world_view_laws.Lines.{AreFresh, first_of}
use Rattle.round_laws.specs.world_view_laws.Views.{WorldView}
use Rattle.thread_laws.specs.Places.{Contains-In, In-behind, In-Contains, In-front}
use Rattle.thread_laws.specs.Closed.{AreClaimsOf, ClosedCrash, ClosedHolds, FullIsClaimed, IsClosedOver}

-- ---- one line

-- the words of a line that was fresh
first_words_are : (w : WorldView) (lines : List Part) (n : ℕ) → n < length lines → AreFresh w lines → (j : ℕ) → j < 8 → words_of_line (line_at lines n).cells j ≡ first_of w n j
first_words_are w lines n below fresh j within = ap newest (fresh.words n below j within)

cells_at : (lines : List Part) (n : ℕ) → cells_of_line (cells_of lines) n ≡ (line_at lines n).cells
cells_at [] n = refl
cells_at (p ∷ lines) zero = refl
cells_at (p ∷ lines) (suc n) = cells_at lines n

module _ (w : WorldView) (log : LogView) (claims : List Claim) (lines : List Part) (is : IsClosedOver w log claims lines) where
  within : (n : ℕ) → n < length lines → n < length log.lines
  within n below = omega (arith, below, is.closed.size)

  are_lines : AreLinesOf w.geometry lines
  are_lines = record { count = is.closed.size ∙ is.fresh.are.count; places = λ n below. is.closed.places n below ∙ is.fresh.are.places n (within n below) }

  -- that of a claim which was written, of one whose append lost the power, and one that nobody claimed
  written_line : (n : ℕ) (d : Draft) → Contains claims (claim n d Written) → (n < length lines) × HoldsEntry (line_at lines n).cells d (w.base + n)
  written_line n d has =
      let held = is.closed.claimed (claim n d Written) has in
      (held.0, subst (λ (b : ℕ). HoldsEntry (line_at lines n).cells d (b + n)) is.base held.1)

  lost_line : (n : ℕ) (d : Draft) → Contains claims (claim n d Lost) → (n < length lines) × IsJobLine (line_at lines n).cells (first_of w n) d (w.base + n)
  lost_line n d has =
      let held = is.closed.claimed (claim n d Lost) has in
      let line : IsJobLine (line_at lines n).cells (first_of w n) d (log.base + n) = elim held.1 [
        | inl whole ↦ inl whole
        | inr put ↦ inr (record {
          home = put.home;
          older = λ j low. put.older j low ∙ first_words_are w log.lines n (within n held.0) is.fresh j low;
          newer = put.newer;
        })
      ] in
      (held.0, subst (λ (b : ℕ). IsJobLine (line_at lines n).cells (first_of w n) d (b + n)) is.base line)

  free_line : (n : ℕ) → n < length lines → ((c : Claim) → Contains claims c → ¬ (c.number ≡ n)) → IsAsAtFirst (line_at lines n).cells (first_of w n)
  free_line n below free = subst (λ (line : Part). IsAsAtFirst line.cells (first_of w n)) (sym (is.closed.others n below free)) (is.fresh.words n (within n below))

-- ---- all of them

pub closed_crash : ClosedCrash
closed_crash w log claims lines filled taken is of jobs one = record {
  are = are_lines w log claims lines is;
  claimed = λ n d there. written_line w log claims lines is n d (of.written n d there);
  of_jobs = jobs;
  one_each = one;
  entries = λ n d there. lost_line w log claims lines is n d (of.lost n d there);
  others = λ n below free untaken. free_line w log claims lines is n below (λ c has same. elim (of.all c has) [
    | inl done ↦ free c.entry (subst (λ (k : ℕ). In (k, c.entry) w.claims) same done.1)
    | inr lost ↦ untaken c.entry (subst (λ (k : ℕ). In (k, c.entry) taken) same lost.1)
  ]);
}

pub closed_holds : ClosedHolds
closed_holds w log claims lines is of = record {
  are = record { out = is.fresh.are.out; count = (are_lines w log claims lines is).count; places = (are_lines w log claims lines is).places };
  holds = record {
    claimed = λ n d has. (
        let held = written_line w log claims lines is n d (of.written n d (Contains-In w.claims (n, d) has)) in
        (omega (arith, held.0, length-map lines (λ (p : Part). p.cells)), subst (λ (cells : List Cell). HoldsEntry cells d (w.base + n)) (sym (cells_at lines n)) held.1));
    unclaimed = λ n below free. subst (λ (cells : List Cell). IsAsAtFirst cells (first_of w n)) (sym (cells_at lines n))
        (free_line w log claims lines is n (omega (arith, below, length-map lines (λ (p : Part). p.cells))) (λ c has same. elim (of.all c has) [
          | inl done ↦ free c.entry (In-Contains w.claims (n, c.entry) (subst (λ (k : ℕ). In (k, c.entry) w.claims) same done.1))
          | inr lost ↦ absurd lost.1
        ]));
  };
}

some_claim : (x : ℕ) (seats : List SeatView) → 1 ≤ sum_by (claim_with x) seats → (c : Claim) × In c (claims_of_all seats)
some_claim x [] some = absurd (omega (arith, some))
some_claim x (s ∷ seats) some = elim (cases_lt (claims_with x s.claims) 1) [
  | inl none ↦
      let rest = some_claim x seats (omega (arith, some, none, sum_by-cons (claim_with x) s seats)) in
      (rest.0, In-behind s.claims (claims_of_all seats) rest.0 rest.1)
  | inr one ↦
      let its = member_of_with number_of s.claims x one in
      (its.0, In-front s.claims (claims_of_all seats) its.0 (Contains-In s.claims its.0 its.1))
]

pub full_is_claimed : FullIsClaimed
full_is_claimed log seats seat full first has found some =
    let one = some_claim 0 seats (omega (arith, first.once 0, once_of_below 0 first.upto (omega (arith, some, first.full seat full has found)))) in
    (one.0, In-Contains (claims_of_all seats) one.0 one.1)
