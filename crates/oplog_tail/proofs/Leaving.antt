-- The lines of a log that was closed, by the claims of its seats.
use Rattle.std.proofs.Common.{◌≡◌, ◌≢◌, ◌⊎◌, ℕ, zero, suc, ◌+◌, ◌<◌, ◌≤◌, List, [], ◌∷◌, All, length, map, sym, refl, ap, ◌∙◌, subst, inl, inr, ⊎_elim, arith}
use Rattle.std.specs.Prelude.{Contains, min, sum_by, None, Option, Some}
use Rattle.std.proofs.lemmas.Bool.{cases_lt}
use Rattle.std.proofs.lemmas.Bool.Decides.{nat_tests}
use Rattle.std.proofs.lemmas.List.{length-map}
use Rattle.std.proofs.Math.ListN.{get_or-map}
use Rattle.std.proofs.lemmas.List.Elements.{Contains-append_left, Contains-append_right}
use Rattle.std.proofs.lemmas.List.Sums.{get_or-le-sum_by, sum_by-cons}
use mathlib.Core.Option.{some}
use lib.ListN.{get_elem?}
use Rattle.oplog_entry.specs.image_model.pm_model.declared.Cell.{Cell}
use Rattle.oplog_entry.specs.image_model.pm_model.Cells.{cell}
use Rattle.oplog_entry.specs.image_model.pm_model.CellLaws.{single-newest}
use Rattle.oplog_entry.specs.image_model.pm_model.Parts.{Part}
use Rattle.layout_model.specs.declared.lines.Draft.{Draft}
use Rattle.oplog_entry.specs.image_model.LogRule.{cells_of_line, HoldsClaims, HoldsEntry, IsAsAtFirst}
use Rattle.oplog_tail.specs.declared.views.Claim.{Claim}
use Rattle.oplog_entry.specs.declared.claims.Full.{Full}
use Rattle.oplog_tail.specs.declared.views.Knows.{Knows}
use Rattle.oplog_entry.specs.declared.claims.Mark.{Mark}
use Rattle.oplog_tail.specs.declared.views.Slot.{Slot}
use Rattle.oplog_tail.specs.declared.views.Slot.TheVariants.{Filled, Fresh, Out}
use Rattle.oplog_tail.specs.declared.views.Start.{Start}
use Rattle.oplog_entry.specs.EntryLines.{Holds, IsSingle}
use Rattle.oplog_tail.specs.Views.{claims_with, held_with, times, number_of}
use Rattle.oplog_entry.specs.LogLines.{line_at, cells_of}
use Rattle.oplog_tail.specs.Seats.{pairs_of, SeatView}
use Rattle.oplog_tail.specs.Logs.{capacity, LogView}
use Rattle.oplog_tail.specs.Closing.{AllWritten, AreNumbered, claims_of_all, first_words, full_number, HasLine, LeavesLines, line_in, seat_with, AreFirst, claim_with}
use Rattle.oplog_tail.proofs.Ends.{IsEnd}
use Rattle.oplog_tail.proofs.Gathering.{full_numbers}
use Rattle.oplog_tail.proofs.Slots.{get_of_at}
use Rattle.list_laws.specs.Numbers.{with_of_member, member_of_with, count_with-append, count_with, once_below, once_past, below_of_once}

-- what no element has is not counted
none_counted : {A : Type 0} (f : A → ℕ) (x : ℕ) (l : List A) → ((a : A) → Contains l a → f a ≢ x) → count_with f x l ≡ 0
none_counted f x l none = ⊎_elim
    (λ (lone : count_with f x l < 1). omega (arith, lone))
    (λ (counted : 1 ≤ count_with f x l). let its = member_of_with f l x counted in absurd (none its.0 its.1 its.2))
    (cases_lt (count_with f x l) 1)

Contains-only : (m n : ℕ) → Contains (m ∷ []) n → m ≡ n
Contains-only m n (zero, below, is) = is
Contains-only m n (suc k, below, is) = absurd (omega arith)

-- a number is that of a claim or of none
claimed_or_not : (claims : List Claim) (n : ℕ) → ((c : Claim) × Contains claims c × (c.number ≡ n)) ⊎ ((c : Claim) → Contains claims c → c.number ≢ n)
claimed_or_not claims n = ⊎_elim
    (λ (lone : claims_with n claims < 1). inr (λ c has e. absurd (omega (arith, lone, with_of_member number_of claims c has, ap (λ (k : ℕ). claims_with k claims) e))))
    (λ (counted : 1 ≤ claims_with n claims). inl (member_of_with number_of claims n counted))
    (cases_lt (claims_with n claims) 1)

-- each slot has a line
pub have_lines : (key : Start) (v : Knows) (xs : List Slot) → IsEnd key v xs → All HasLine xs
have_lines key v xs end k d below = ⊎_elim
    (λ (is : (c : Claim) × Contains v.claims c × (c.number ≡ k)).
    let its = end.claimed is.0 is.1 in
    let at : get_elem? xs k ≡ some (Filled its.1.0 is.0.entry) = subst (λ (n : ℕ). get_elem? xs n ≡ some (Filled its.1.0 is.0.entry)) is.2 its.1.1 in
    subst HasLine (sym (get_of_at xs k (Filled its.1.0 is.0.entry) d at)) tt)
    (λ (none : (c : Claim) → Contains v.claims c → c.number ≢ k).
    let line : Part = line_at key.lines.value.items k in
    subst HasLine (sym (get_of_at xs k (Fresh line) d (end.others k (omega (arith, below, end.size)) none))) tt)
    (claimed_or_not v.claims k)

-- the line that comes out of a slot
line_out : (xs : List Slot) (n : ℕ) (x : Slot) → get_elem? xs n ≡ some x → line_at (map line_in xs) n ≡ line_in x
line_out xs n x at = get_or-map line_in xs n Out ∙ ap line_in (get_of_at xs n x Out at)

-- THE LINES
pub leaves : (log : LogView) (key : Start) (v : Knows) (xs : List Slot) (claims : List Claim) → log.base ≡ key.base → log.lines ≡ key.lines.value.items → v.claims ≡ claims → IsEnd key v xs → LeavesLines log claims (map line_in xs)
leaves log key v xs claims base lines are end =
    subst (λ (l : List Part). LeavesLines (record { id = log.id; base = log.base; seats = log.seats; lines = l }) claims (map line_in xs)) (sym lines)
    (subst (λ (b : ℕ). LeavesLines (record { id = log.id; base = b; seats = log.seats; lines = start }) claims (map line_in xs)) (sym base)
    (subst (λ (cs : List Claim). LeavesLines (record { id = log.id; base = key.base; seats = log.seats; lines = start }) cs (map line_in xs)) are (record {
      size = long;
      places = places;
      claimed = claimed;
      others = λ n below none. line_out xs n (Fresh (line_at start n)) (end.others n (omega (arith, below, long)) none);
    }))) where
      start : List Part
      start = key.lines.value.items

      long : length (map line_in xs) ≡ length start
      long = length-map xs line_in ∙ end.size

      claimed : (c : Claim) → Contains v.claims c → (c.number < length (map line_in xs)) × Holds c.mark c.entry (key.base + c.number) (line_at start c.number).cells (line_at (map line_in xs) c.number).cells
      claimed c has =
          let its = end.claimed c has in
          let below = its.0 in
          let out : line_at (map line_in xs) c.number ≡ its.1.0 = line_out xs c.number (Filled its.1.0 c.entry) its.1.1 in
          (omega (arith, below, long), subst (λ (p : Part). Holds c.mark c.entry (key.base + c.number) (line_at start c.number).cells p.cells) (sym out) its.1.3)

      places : (n : ℕ) → n < length (map line_in xs) → (line_at (map line_in xs) n).place ≡ (line_at start n).place
      places n below = ⊎_elim
          (λ (is : (c : Claim) × Contains v.claims c × (c.number ≡ n)).
          let its = end.claimed is.0 is.1 in
          subst (λ (k : ℕ). (line_at (map line_in xs) k).place ≡ (line_at start k).place) is.2
          (ap (λ (p : Part). p.place) (line_out xs is.0.number (Filled its.1.0 is.0.entry) its.1.1) ∙ its.1.2))
          (λ (none : (c : Claim) → Contains v.claims c → c.number ≢ n).
          ap (λ (p : Part). p.place) (line_out xs n (Fresh (line_at start n)) (end.others n (omega (arith, below, long)) none)))
          (claimed_or_not v.claims n)

-- what the seats claimed, counted by seats
counted_by_seats : (x : ℕ) (seats : List SeatView) → claims_with x (claims_of_all seats) + times x (full_numbers seats) ≡ sum_by (seat_with x) seats
counted_by_seats x [] = refl
counted_by_seats x (s ∷ seats) =
    omega (arith, sum_by-cons (seat_with x) s seats, count_with-append number_of x s.claims (claims_of_all seats), count_with-append (λ (n : ℕ). n) x (full_number s.full) (full_numbers seats), counted_by_seats x seats)

-- a claim of one of the seats, and the number of a seat's answer
claim_of_seat : (seats : List SeatView) (s : SeatView) (c : Claim) → Contains seats s → Contains s.claims c → Contains (claims_of_all seats) c
claim_of_seat [] s c is has = let below = is.1 in absurd (omega arith)
claim_of_seat (r ∷ seats) s c (zero, below, same) has = Contains-append_left r.claims (claims_of_all seats) c (subst (λ (q : SeatView). Contains q.claims c) (sym same) has)
claim_of_seat (r ∷ seats) s c (suc k, below, same) has =
    Contains-append_right r.claims (claims_of_all seats) c (claim_of_seat seats s c (k, omega (arith, below), same) has)

number_of_seat : (seats : List SeatView) (s : SeatView) (full : Full) → Contains seats s → s.full ≡ Some full → Contains (full_numbers seats) full.claimed
number_of_seat [] s full is has = let below = is.1 in absurd (omega arith)
number_of_seat (r ∷ seats) s full (zero, below, same) has =
    Contains-append_left (full_number r.full) (full_numbers seats) full.claimed
    (subst (λ (o : Option Full). Contains (full_number o) full.claimed) (sym (ap (λ (q : SeatView). q.full) same ∙ has)) (0, omega arith, refl))
number_of_seat (r ∷ seats) s full (suc k, below, same) has =
    Contains-append_right (full_number r.full) (full_numbers seats) full.claimed (number_of_seat seats s full (k, omega (arith, below), same) has)

-- THE NUMBERS
pub numbered : (log : LogView) (key : Start) (v : Knows) (xs : List Slot) (seats : List SeatView) → log.lines ≡ key.lines.value.items → log.seats ≡ key.seats → v.claims ≡ claims_of_all seats → v.full ≡ full_numbers seats
    → v.held ≡ None → IsEnd key v xs → AreNumbered log seats
numbered log key v xs seats lines count claims full idle end = record {
  tail = end.tail;
  once = λ x.
      omega (arith, end.once x, ap (held_with x) idle, counted_by_seats x seats, ap (λ (cs : List Claim). claims_with x cs) claims, ap (λ (ns : List ℕ). times x ns) full);
  few = omega (arith, end.few, count, long);
  below = λ s c is has.
      let its = end.claimed c (subst (λ (cs : List Claim). Contains cs c) (sym claims) (claim_of_seat seats s c is has)) in
      let within = its.0 in
      omega (arith, within, long);
  past = λ s f is has. omega (arith, end.past f.claimed (subst (λ (ns : List ℕ). Contains ns f.claimed) (sym full) (number_of_seat seats s f is has)), long);
} where
  long : length log.lines ≡ length key.lines.value.items
  long = ap (λ (l : List Part). length l) lines

-- THE CLAIMS

-- a sum of nothing, and of two
sum_nothing : (f : SeatView → ℕ) (seats : List SeatView) → ((s : SeatView) → Contains seats s → f s ≡ 0) → sum_by f seats ≡ 0
sum_nothing f [] none = refl
sum_nothing f (s ∷ seats) none =
    omega (arith, sum_by-cons f s seats, none s (0, omega arith, refl), sum_nothing f seats (λ r has. none r (suc has.0, omega (arith, has.1), has.2)))

abbrev full_with : ℕ → SeatView → ℕ
full_with x s = times x (full_number s.full)

sum_both : (x : ℕ) (seats : List SeatView) → sum_by (seat_with x) seats ≡ sum_by (claim_with x) seats + sum_by (full_with x) seats
sum_both x [] = refl
sum_both x (s ∷ seats) = omega (arith, sum_by-cons (seat_with x) s seats, sum_by-cons (claim_with x) s seats, sum_by-cons (full_with x) s seats, sum_both x seats)

-- a number that is no seat's answer, and one that is no seat's claim
no_answer : (x : ℕ) (o : Option Full) → ((full : Full) → o ≡ Some full → full.claimed ≢ x) → times x (full_number o) ≡ 0
no_answer x None none = refl
no_answer x (Some full) none = none_counted (λ (n : ℕ). n) x (full.claimed ∷ []) (λ n has. λ e. none full refl (Contains-only full.claimed n has ∙ e))

no_claim : (x : ℕ) (claims : List Claim) → ((c : Claim) → Contains claims c → c.number ≢ x) → claims_with x claims ≡ 0
no_claim x claims none = none_counted number_of x claims none

pub first_numbers : (log : LogView) (seats : List SeatView) → AreNumbered log seats → AreFirst log seats
first_numbers log seats are = record { upto = min are.tail (capacity log); within = min-le; once = once; full = full } where
  min-le : min are.tail (capacity log) ≤ capacity log
  min-le = omega arith

  once : (x : ℕ) → sum_by (claim_with x) seats ≡ once_below x (min are.tail (capacity log))
  once x = ⊎_elim
      (λ (below : x < capacity log).
      let none : sum_by (full_with x) seats ≡ 0 = sum_nothing (full_with x) seats (unanswered below) in
      omega (arith, are.once x, sum_both x seats, none, same_below x below))
      (λ (past : capacity log ≤ x).
      sum_nothing (claim_with x) seats (λ s is. no_claim x s.claims (λ c has e. absurd (omega (arith, are.below s c is has, past, e)))) ∙ sym (once_past x (min are.tail (capacity log)) (omega (arith, past))))
      (cases_lt x (capacity log)) where
        unanswered : x < capacity log → (s : SeatView) → Contains seats s → full_with x s ≡ 0
        unanswered below s is = no_answer x s.full (λ f has e. absurd (omega (arith, are.past s f is has, below, e)))

        same_below : (y : ℕ) → y < capacity log → once_below y are.tail ≡ once_below y (min are.tail (capacity log))
        same_below y below = grind (arith, nat_tests)

  full : (s : SeatView) (f : Full) → Contains seats s → s.full ≡ Some f → min are.tail (capacity log) ≡ capacity log
  full s f is has =
      let counted : 1 ≤ times f.claimed (full_number s.full) = subst (λ (o : Option Full). 1 ≤ times f.claimed (full_number o)) (sym has) (with_of_member (λ (n : ℕ). n) (f.claimed ∷ []) f.claimed (0, omega arith, refl)) in
      let within : seat_with f.claimed s ≤ sum_by (seat_with f.claimed) seats = term_of_member (seat_with f.claimed) seats s is in
      let below : f.claimed < are.tail = below_of_once f.claimed are.tail (omega (arith, counted, within, are.once f.claimed)) in
      omega (arith, below, are.past s f is has) where
        term_of_member : (g : SeatView → ℕ) (all : List SeatView) (r : SeatView) → Contains all r → g r ≤ sum_by g all
        term_of_member g all r member = omega (arith, get_or-le-sum_by g all member.0 r member.1, ap g member.2)

-- a pair of a claim
pair_of : (claims : List Claim) (n : ℕ) (d : Draft) → Contains (pairs_of claims) (n, d) → (c : Claim) × Contains claims c × (c.number ≡ n) × (c.entry ≡ d)
pair_of [] n d has = let below = has.1 in absurd (omega arith)
pair_of (c ∷ claims) n d (zero, below, is) = (c, (0, omega arith, refl), ap (λ (p : ℕ × Draft). p.0) is, ap (λ (p : ℕ × Draft). p.1) is)
pair_of (c ∷ claims) n d (suc k, below, is) =
    let rest = pair_of claims n d (k, omega (arith, below), is) in
    let at = rest.1 in
    (rest.0, (suc at.0, omega (arith, at.1), at.2), rest.2, rest.3)

claim_pair : (claims : List Claim) (c : Claim) → Contains claims c → Contains (pairs_of claims) (c.number, c.entry)
claim_pair claims c has =
    let f : Claim → ℕ × Draft = λ x. (x.number, x.entry) in
    (has.0, omega (arith, has.1, length-map claims f), get_or-map f claims has.0 c ∙ ap f has.2)

cells_at : (lines : List Part) (n : ℕ) → cells_of_line (cells_of lines) n ≡ (line_at lines n).cells
cells_at lines n = get_or-map (λ (p : Part). p.cells) lines n (record { place = 0; cells = [] })

-- THE CLAIMS ARE HELD
pub holds_claims : (log : LogView) (claims : List Claim) (lines : List Part) → LeavesLines log claims lines → ((n : ℕ) → n < length log.lines → IsSingle (line_at log.lines n).cells) → AllWritten claims
    → HoldsClaims log.base (cells_of lines) (pairs_of claims) (first_words log)
holds_claims log claims lines leaves_ single written = record { claimed = claimed; unclaimed = unclaimed } where
  long : length (cells_of lines) ≡ length lines
  long = length-map lines (λ (p : Part). p.cells)

  claimed : (n : ℕ) (d : Draft) → Contains (pairs_of claims) (n, d) → (n < length (cells_of lines)) × HoldsEntry (cells_of_line (cells_of lines) n) d (log.base + n)
  claimed n d has =
      let its = pair_of claims n d has in
      let c : Claim = its.0 in
      let is = leaves_.claimed c its.1 in
      let below = is.0 in
      let holds : HoldsEntry (line_at lines c.number).cells c.entry (log.base + c.number) =
      subst (λ (m : Mark). Holds m c.entry (log.base + c.number) (line_at log.lines c.number).cells (line_at lines c.number).cells) (written c its.1) is.1 in (
        omega (arith, below, long, its.2),
        subst (λ (cells : List Cell). HoldsEntry cells d (log.base + n)) (sym (cells_at lines n))
            (subst (λ (e : Draft). HoldsEntry (line_at lines n).cells e (log.base + n)) its.3
            (subst (λ (k : ℕ). HoldsEntry (line_at lines k).cells c.entry (log.base + k)) its.2 holds)),
      )

  unclaimed : (n : ℕ) → n < length (cells_of lines) → ((d : Draft) → ¬ Contains (pairs_of claims) (n, d)) → IsAsAtFirst (cells_of_line (cells_of lines) n) (first_words log n)
  unclaimed n below none =
      let within : n < length lines = omega (arith, below, long) in
      let apart : (c : Claim) → Contains claims c → ¬ (c.number ≡ n) = λ c has e. none c.entry (subst (λ (k : ℕ). Contains (pairs_of claims) (k, c.entry)) e (claim_pair claims c has)) in
      let same : line_at lines n ≡ line_at log.lines n = leaves_.others n within apart in
      λ j inside.
      ap (λ (cells : List Cell). cell cells j) (cells_at lines n)
      ∙ (ap (λ (p : Part). cell p.cells j) same ∙ single-newest (cell (line_at log.lines n).cells j) (single n (omega (arith, within, leaves_.size)) j inside))
