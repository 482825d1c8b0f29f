-- All came back, and turn and log are closed: so the round is closed, as the laws ask for it.
use Rattle.std.specs.Prelude.{◌≡◌, ◌≢◌, ◌<◌, ◌≤◌, ◌+◌, ◌-◌, ◌*◌, ◌==◌, ℕ, zero, suc, if◌then◌else◌, true, false, All, Contains, List, [], ◌∷◌, length, map, slice_get, slice_index_or, Some, None, refl}
use Rattle.std.specs.List.{cons_option, filter_map}
use Rattle.std.proofs.Common.{arith, ap, ◌∙◌, sym, subst, inl, inr}
use Rattle.std.proofs.lemmas.Bool.{cases_lt}
use Rattle.std.proofs.lemmas.Bool.Decides.{nat_tests}
use Rattle.std.proofs.lemmas.List.{length-map}
use Rattle.std.proofs.lemmas.Option.{slice_get-get_or, slice_get_within}
use Rattle.oplog_tail.specs.Closing.{AreFirst, claims_of_all, LeavesLines}
use Rattle.oplog_tail.specs.Logs.{IsSeatOf, LogView}
use Rattle.oplog_tail.specs.Seats.{SeatView}
use Rattle.oplog_tail.specs.oplog_entry.LogLines.{line_at}
use Rattle.ruled_turn.specs.Passes.{HaveViews, PassView, TurnView}
use Rattle.thread_laws.specs.world_view_laws.image_model.LogRule.{IsAsAtFirst}
use Rattle.thread_laws.specs.world_view_laws.oplog_entry.layout_model.Places.{Geometry, log_line}
use Rattle.thread_laws.specs.world_view_laws.block_io.Lines.{AreFrom}
use Rattle.thread_laws.specs.world_view_laws.pm_model.Parts.{Part}
use Rattle.thread_laws.specs.world_view_laws.pm_model.Powers.{Supply}
use Rattle.thread_laws.specs.world_view_laws.list_laws.Filters.{In-map, map-In}
use Rattle.thread_laws.specs.world_view_laws.list_laws.Members.{In, In-slice_get, slice_get-In}
use Rattle.thread_laws.specs.world_view_laws.posix_types.declared.call.Call.{Call}
use Rattle.thread_laws.specs.world_view_laws.posix_types.declared.call.Who.{Who}
use Rattle.thread_laws.specs.world_view_laws.posix_spec.Scripted.{items_of}
use Rattle.thread_laws.specs.world_view_laws.Lines.{AreFresh}
use Rattle.thread_laws.specs.world_view_laws.Views.{first_by, next_of, WorldView}
use Rattle.thread_laws.specs.Hands.{HandView, Lap, lap_of}
use Rattle.thread_laws.specs.Places.{In-Contains, mapped_at}
use Rattle.thread_laws.specs.Returned.{filled_jobs_left, filled_left, HaveWorkers, IsClosed, IsReturned, job_left, jobs_left, Returned, seats_of}
use Rattle.thread_laws.specs.Stands.{IsViewOf, Stands}
use Rattle.split_threads.specs.Backs.{caller_at, carried_by, IsBack, no_hand, number_of, part_of, parts_of}
use Rattle.split_threads.specs.Parted.{ArePartedFrom, CanEndRound}
use Rattle.split_threads.specs.declared.closes.Parted.{Parted}
use Rattle.split_threads.specs.declared.starting.Back.{Back}
use Rattle.split_threads.specs.declared.turns.Held.{Held}
use Rattle.split_threads.proofs.Hands.{caller_last, caller_thread}
use Rattle.split_threads.proofs.Places.{map_at, some_at}

-- ---- numbers and places

pub number_last : (n k : ℕ) → k ≡ n - 1 → number_of n k ≡ k
number_last n k is = let test : (k == n - 1) ≡ true = grind (arith, nat_tests, is) in ap (λ b. if b then k else n - 1 - 1 - k) test

pub number_thread : (n k : ℕ) → k < n - 1 → number_of n k ≡ n - 1 - 1 - k
number_thread n k below = let test : (k == n - 1) ≡ false = grind (arith, nat_tests, below) in ap (λ b. if b then k else n - 1 - 1 - k) test

-- the place of a number is got as the number of a place
pub number_twice : (n k : ℕ) → k < n → number_of n (number_of n k) ≡ k
number_twice n k below = elim (cases_lt k (n - 1)) [
  | inl thread ↦ (
      let one = number_thread n k thread in
      let within : n - 1 - 1 - k < n - 1 = omega (arith, thread) in
      let again : n - 1 - 1 - (n - 1 - 1 - k) ≡ k = omega (arith, thread) in
      ap (number_of n) one ∙ (number_thread n (n - 1 - 1 - k) within ∙ again)
      )
  | inr past ↦ (let last : k ≡ n - 1 = omega (arith, past, below) in ap (number_of n) (number_last n k last) ∙ number_last n k last)
]

pub number_below : (n k : ℕ) → k < n → number_of n k < n
number_below n k below = elim (cases_lt k (n - 1)) [
  | inl thread ↦ omega (arith, number_thread n k thread, thread)
  | inr past ↦ (let last : k ≡ n - 1 = omega (arith, past, below) in omega (arith, number_last n k last, below))
]

-- ---- lists

seats_mapped : (none : ℕ × HandView) (backs : List Back) → seats_of (map (part_of none) backs) ≡ map (λ (b : Back). b.own.seat) backs
seats_mapped none [] = refl
seats_mapped none (b ∷ backs) = ap (λ (ss : List SeatView). b.own.seat ∷ ss) (seats_mapped none backs)

pub jobs_mapped : (none : ℕ × HandView) (backs : List Back) → jobs_left (map (part_of none) backs) ≡ filter_map (λ (b : Back). job_left b.worked) backs
jobs_mapped none [] = refl
jobs_mapped none (b ∷ backs) = ap (cons_option (job_left b.worked)) (jobs_mapped none backs)

pub filled_mapped : (none : ℕ × HandView) (backs : List Back) → filled_jobs_left (map (part_of none) backs) ≡ filter_map (λ (b : Back). filled_left b.worked) backs
filled_mapped none [] = refl
filled_mapped none (b ∷ backs) = ap (cons_option (filled_left b.worked)) (filled_mapped none backs)

pub past_default : {X : Type 0} (xs : List X) (i : ℕ) (d : X) → length xs ≤ i → slice_index_or xs i d ≡ d
past_default [] i d past = refl
past_default (x ∷ xs) zero d past = absurd (omega (arith, past))
past_default (x ∷ xs) (suc i) d past = past_default xs i d (omega (arith, past))

-- ---- one that came back

module _ (w : WorldView) (power : Supply) (turn : TurnView) (log : LogView) where
  abbrev none : ℕ × HandView
  none = no_hand w power

  abbrev as_part : Back → ℕ × HandView → Returned
  as_part back c = record { number = c.0; view = c.1; seat = back.own.seat; worked = back.worked }

  pub part_is : (who : Who) (number : ℕ) (back : Back) (is : IsBack w power turn log who number back)
      → part_of none back ≡ record { number = number; view = is.view; seat = back.own.seat; worked = back.worked }
  part_is who number back is =
      let carried : carried_by none back.own.pass ≡ (number, is.view) = ap (carried_by none) is.pass in
      ap (as_part back) carried

  module _ (backs : List Back) (can : CanEndRound w power turn log backs) where
    abbrev n : ℕ
    n = length backs

    abbrev parts : List Returned
    parts = parts_of w power backs

    back_at : (k : ℕ) → k < n → (back : Back) × (slice_get backs k ≡ Some back) × IsBack w power turn log (caller_at n (number_of n k)) (number_of n k) back
    back_at k below = let b = some_at backs k below in (b.0, b.1, can.back.each k b.0 b.1)

    -- the part of each number
    part_of_number : (i : ℕ) → i < n → (r : Returned) × In r parts × (r.number ≡ i) × (r.view.who ≡ caller_at n i)
    part_of_number i below =
        let b = back_at (number_of n i) (number_below n i below) in
        let twice = number_twice n i below in
        let is = part_is (caller_at n (number_of n (number_of n i))) (number_of n (number_of n i)) b.0 b.2 in (
          part_of none b.0,
          In-slice_get parts (number_of n i) (part_of none b.0) (map_at (part_of none) backs (number_of n i) b.0 b.1),
          ap (λ (r : Returned). r.number) is ∙ twice,
          ap (λ (r : Returned). r.view.who) is ∙ (b.2.later.who ∙ ap (caller_at n) twice),
        )

    -- each part is of some place
    place_of_part : (r : Returned) → In r parts → (k : ℕ) × (back : Back) × (slice_get backs k ≡ Some back) × (part_of none back ≡ r)
    place_of_part r there =
        let b = map-In (part_of none) backs r there in
        let k = slice_get-In backs b.0 b.1 in (k.0, b.0, k.1, b.2)

    number_at_place : (k : ℕ) (back : Back) → slice_get backs k ≡ Some back → (part_of none back).number ≡ number_of n k
    number_at_place k back at = ap (λ (r : Returned). r.number) (part_is (caller_at n (number_of n k)) (number_of n k) back (can.back.each k back at))

    numbers_apart : (j k : ℕ) (r s : Returned) → slice_get parts j ≡ Some r → slice_get parts k ≡ Some s → r.number ≡ s.number → j ≡ k
    numbers_apart j k r s at_j at_k same =
        let a = mapped_at (part_of none) backs j r at_j in
        let b = mapped_at (part_of none) backs k s at_k in
        let below_j = slice_get_within backs j a.0 a.1 in
        let below_k = slice_get_within backs k b.0 b.1 in
        let number_j : r.number ≡ number_of n j = ap (λ (x : Returned). x.number) (sym a.2) ∙ number_at_place j a.0 a.1 in
        let number_k : s.number ≡ number_of n k = ap (λ (x : Returned). x.number) (sym b.2) ∙ number_at_place k b.0 b.1 in
        sym (number_twice n j below_j) ∙ (ap (number_of n) (sym number_j ∙ (same ∙ number_k)) ∙ number_twice n k below_k)

    -- ---- what came back may close turn and log

    module _ (p : Parted) (parted : ArePartedFrom backs p) where
      back_of_pass : (k : ℕ) (q : PassView Held HandView) → slice_get p.passes.items k ≡ Some q → (b : Back) × (slice_get backs k ≡ Some b) × (b.own.pass ≡ q)
      back_of_pass k q at = mapped_at (λ (b : Back). b.own.pass) backs k q (subst (λ (qs : List (PassView Held HandView)). slice_get qs k ≡ Some q) parted.passes at)

      back_of_seat : (k : ℕ) (s : SeatView) → slice_get p.seats.items k ≡ Some s → (b : Back) × (slice_get backs k ≡ Some b) × (b.own.seat ≡ s)
      back_of_seat k s at = mapped_at (λ (b : Back). b.own.seat) backs k s (subst (λ (ss : List SeatView). slice_get ss k ≡ Some s) parted.seats at)

      pub of_turn : All (λ (q : PassView Held HandView). q.turn ≡ turn.id) p.passes.items
      of_turn k d below =
          let q = slice_index_or p.passes.items k d in
          let b = back_of_pass k q (slice_get-get_or p.passes.items k d below) in
          ap (λ (r : PassView Held HandView). r.turn) (sym b.2 ∙ (can.back.each k b.0 b.1).pass)

      pub all_outside : All (λ (q : PassView Held HandView). q.inside ≡ None) p.passes.items
      all_outside k d below =
          let q = slice_index_or p.passes.items k d in
          let b = back_of_pass k q (slice_get-get_or p.passes.items k d below) in
          ap (λ (r : PassView Held HandView). r.inside) (sym b.2 ∙ (can.back.each k b.0 b.1).pass)

      pub of_log : All (λ (s : SeatView). IsSeatOf log s) p.seats.items
      of_log k d below =
          let s = slice_index_or p.seats.items k d in
          let b = back_of_seat k s (slice_get-get_or p.seats.items k d below) in
          subst (λ (x : SeatView). IsSeatOf log x) b.2 (can.back.each k b.0 b.1).seat

      pub passes_all : length p.passes.items ≡ turn.passes
      passes_all = ap length parted.passes ∙ (length-map backs (λ (b : Back). b.own.pass) ∙ sym can.passes)

      pub seats_all : length p.seats.items ≡ log.seats
      seats_all = ap length parted.seats ∙ (length-map backs (λ (b : Back). b.own.seat) ∙ sym can.seats)

    -- ---- the round is closed

    module _ (p : Parted) (parted : ArePartedFrom backs p) (last : WorldView) (after : Supply) (views : List HandView) (stands : Stands last after views)
        (count : length views ≡ turn.passes) (have : HaveViews views p.passes.items) where
      each_returned : (r : Returned) → In r parts → (slice_get views r.number ≡ Some r.view) × IsReturned r
      each_returned r there =
          let b = place_of_part r there in
          let number = number_of n b.0 in
          let is = can.back.each b.0 b.1 b.2 in
          let r_is : r ≡ record { number = number; view = is.view; seat = b.1.own.seat; worked = b.1.worked } = sym b.3 ∙ part_is (caller_at n number) number b.1 is in
          let passes : Contains p.passes.items b.1.own.pass = subst (λ (ps : List (PassView Held HandView)). Contains ps b.1.own.pass) (sym parted.passes)
          (In-Contains (map (λ (x : Back). x.own.pass) backs) b.1.own.pass (In-map (λ (x : Back). x.own.pass) backs b.1 (In-slice_get backs b.0 b.1 b.2))) in
          let at : slice_get views number ≡ Some is.view = have b.1.own.pass number is.view passes (ap (λ (q : PassView Held HandView). q.carried) is.pass) in
          subst (λ (x : Returned). (slice_get views x.number ≡ Some x.view) × IsReturned x) (sym r_is) (at, is.returned)

      -- a round has a worker for the set-up
      some_part : (r : Returned) × In r parts
      some_part = let r = part_of_number 0 (omega (arith, can.count)) in (r.0, r.1)

      view_in : (r : Returned) → In r parts → IsViewOf last after r.view
      view_in r there = stands.each r.number r.view (each_returned r there).0

      -- its view began with the lap of the first World, and with its power
      later_lap : (r : Returned) → In r parts → (r.view.lap ≡ lap_of w) × (r.view.given ≡ power.given)
      later_lap r there =
          let b = place_of_part r there in
          let number = number_of n b.0 in
          let is = can.back.each b.0 b.1 b.2 in
          let r_is : r ≡ record { number = number; view = is.view; seat = b.1.own.seat; worked = b.1.worked } = sym b.3 ∙ part_is (caller_at n number) number b.1 is in
          subst (λ (x : Returned). (x.view.lap ≡ lap_of w) × (x.view.given ≡ power.given)) (sym r_is) (is.later.lap, is.later.given)

      pub lap_is : lap_of last ≡ lap_of w
      lap_is = let r = some_part in (view_in r.0 r.1).lap ∙ (later_lap r.0 r.1).0

      pub given_is : after.given ≡ power.given
      given_is = let r = some_part in (view_in r.0 r.1).given ∙ (later_lap r.0 r.1).1

      abbrev geometry_is : last.geometry ≡ w.geometry
      geometry_is = ap (λ (l : Lap). l.geometry) lap_is

      -- the lines that it was opened with are fresh in the World that came out, too
      fresh_is : AreFresh last log.lines
      fresh_is = record {
        are = record {
          out = stands.world.lines_out;
          count = can.fresh.are.count ∙ sym (ap (λ (g : Geometry). g.log) geometry_is);
          places = subst (λ (g : Geometry). AreFrom (log_line g 0) log.lines) (sym geometry_is) can.fresh.are.places;
        };
        words = subst (λ (l : Lap). (m : ℕ) → m < length log.lines → IsAsAtFirst (line_at log.lines m).cells (λ j. first_by l.geometry l.first (8 * log_line l.geometry m + j))) (sym lap_is) can.fresh.words;
      }

      abbrev seats_are : seats_of parts ≡ p.seats.items
      seats_are = seats_mapped none backs ∙ sym parted.seats

      pub closed : (lines : List Part) → LeavesLines log (claims_of_all p.seats.items) lines → AreFirst log p.seats.items → IsClosed last after log lines parts
      closed lines leaves first = record {
        views = views;
        stands = stands;
        each = each_returned;
        all = λ i below. (let r = part_of_number i (omega (arith, below, count, can.passes)) in (r.0, r.1, r.2));
        apart = numbers_apart;
        over = record {
          fresh = fresh_is;
          base = can.base ∙ sym (ap (λ (l : Lap). l.base) lap_is);
          closed = subst (λ (seats : List SeatView). LeavesLines log (claims_of_all seats) lines) (sym seats_are) leaves;
        };
        first = subst (λ (seats : List SeatView). AreFirst log seats) (sym seats_are) first;
      }

      -- each caller with a call left has a worker
      threads_are : n ≡ length last.scripts.threads + 1
      threads_are = can.count ∙ sym (ap (λ (l : Lap). length l.scripts.threads + 1) lap_is)

      worker_of : (who : Who) → next_of last who ≢ None → (r : Returned) × In r parts × (r.view.who ≡ who)
      worker_of Who.Setup left =
          let r = part_of_number (n - 1) (omega (arith, threads_are)) in (r.0, r.1, r.3 ∙ caller_last n (n - 1) refl)
      worker_of (Who.Thread t) left = elim (cases_lt t (length last.scripts.threads)) [
        | inl below ↦ (let r = part_of_number t (omega (arith, below, threads_are)) in (r.0, r.1, r.3 ∙ caller_thread n t (omega (arith, below, threads_are))))
        | inr past ↦ absurd (left (ap (λ (calls : List Call). slice_get calls (length (items_of last.history (Who.Thread t)))) (past_default last.scripts.threads t [] past)))
      ]

      pub workers : HaveWorkers last parts
      workers = worker_of

      pub some_line : 1 ≤ last.geometry.log
      some_line = subst (λ (g : Geometry). 1 ≤ g.log) (sym geometry_is) can.lines
