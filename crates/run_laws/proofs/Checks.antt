-- A round begins and ends; a crash may come at any moment; and the end of the run.
use Rattle.std.specs.Prelude.{◌≡◌, ◌≢◌, ◌<◌, ◌≤◌, ◌+◌, ◌^◌, ◌&&◌, ◌||◌, not, ℕ, Bool, true, false, IsTrue, List, [], ◌∷◌, ◌++◌, length, Option, Some, None, IsSome, nat_lt, slice_get, if◌then◌else◌, refl}
use Rattle.std.specs.List.{list_any}
use Rattle.std.proofs.Common.{arith, ap, ◌∙◌, sym, subst, inl, inr}
use Rattle.std.proofs.lemmas.Bool.{and_parts}
use Rattle.std.proofs.lemmas.Bool.Decides.{nat_tests}
use Rattle.round_log.specs.layout_model.declared.lines.Draft.{Draft}
use Rattle.round_log.specs.pm_model.Parts.{Part}
use Rattle.round_log.specs.pm_model.Powers.{is_on, Steps, Supply}
use Rattle.round_log.specs.Held.{HoldsRound}
use Rattle.round_log.specs.Rounds.{RoundView}
use Rattle.round_log.proofs.Holding.{holds_none}
use Rattle.world_view_laws.specs.in_flight.Counts.{history_within}
use Rattle.world_view_laws.specs.list_laws.Members.{In}
use Rattle.world_view_laws.specs.live_model.Standing.{JobOut}
use Rattle.world_view_laws.specs.posix_types.declared.call.Mode.{Mode}
use Rattle.world_view_laws.specs.posix_types.declared.item.Item.{Item}
use Rattle.world_view_laws.specs.posix_types.Scripts.{Scripts}
use Rattle.world_view_laws.specs.posix_spec.Afforded.{is_posix, is_quiet, moves_data, next_calls}
use Rattle.world_view_laws.specs.posix_spec.Run.{Unfinished}
use Rattle.world_view_laws.specs.posix_spec.Scripted.{call_count, IsComplete, Scripted, Scripted-append}
use Rattle.world_view_laws.specs.declared.views.over.Over.{Over}
use Rattle.world_view_laws.specs.Begins.{item_of}
use Rattle.world_view_laws.specs.Lines.{AreFresh, HoldTheClaims}
use Rattle.world_view_laws.specs.Rounds.{IsNextRound, IsRoundBegun, LosesRound, MayCheckpoint}
use Rattle.world_view_laws.specs.Views.{WorldView}
use Rattle.run_laws.specs.Paid.{has_moved}
use Rattle.run_laws.proofs.Logs.{log_holds}
use Rattle.run_laws.proofs.Longer.{tree_later}
use Rattle.run_laws.specs.declared.held.Held.{Held}
use Rattle.run_laws.specs.Between.{Between, ends_by, GoesOn, left_to_do, LosesPower}
use Rattle.run_laws.specs.EventsLaws.{ActedBetween, AffordsLost, AffordsWhole, BeginsRound, CanCheck, CheckLoses, CrashesBetween, IsOpened, IsTurn, MayCheck, MayEnd, opened_log, PaidIsPaidOff, RoundChecked, with_log}
use Rattle.run_laws.specs.Held.{AreHeld, HasLog, IsFull, IsLogOf, nothing_out, OutView, slots_of}
use Rattle.run_laws.specs.EventsPaid.{HaveActed, IsPaid, moves_now, steps_early}
use Rattle.run_laws.proofs.Begins.{left_of, one_longer}
use Rattle.run_laws.proofs.Crashes.{AreOut, have_acted, held_out, may_crash}
use Rattle.run_laws.proofs.Moves.{moves_by, next_moves}
use Rattle.run_laws.proofs.Pays.{IsPaidAny, pays, pays_acted}
use Rattle.run_laws.proofs.Places.{at_In}
use Rattle.run_laws.proofs.Stays.{open_calls}

-- ---- lists with nothing in them

none_long : {X : Type 0} (xs : List X) → length xs ≡ 0 → xs ≡ []
none_long [] is = refl
none_long (x ∷ xs) is = absurd (omega (arith, is))

-- with no job held none is out
pub none_pending : (w : WorldView) (jobs : List Held) → AreHeld w jobs → jobs ≡ [] → w.pending ≡ []
none_pending w jobs held none = none_long w.pending (omega (arith, held.count, ap (λ (xs : List Held). length xs) none))

-- ---- a crash

pub crashes_between : CrashesBetween
crashes_between w out b = record {
  usable = b.usable;
  crash = may_crash w [] out.log out.jobs (held_out w out.jobs b.held) b.callers b.drafts (left_of w out.log out.jobs b.log);
  open_calls = open_calls w b.none_unfinished b.next b.callers;
}

-- ---- a round begins

module _ (old new : WorldView) (out : OutView) (lines : List Part) (base : ℕ) (b : Between old out) (none : out.log ≡ None) (begun : IsRoundBegun old new lines base) where
  turn : IsTurn old new
  turn = begun.new_is ∙ λ i. record old { disk = new.disk; lines_out = sym (ap (λ (x : WorldView). x.lines_out) begun.new_is) i; first = new.first }

  abbrev turned : WorldView
  turned = record old { disk = new.disk; lines_out = new.lines_out; first = new.first }

  abbrev opened : OutView
  opened = with_log out (opened_log lines base)

  home : HasLog old None out.jobs
  home = subst (λ (o : Option RoundView). HasLog old o out.jobs) none b.log

  nobody : (i : ℕ) (h : Held) → slice_get out.jobs i ≡ Some h → ⊥
  nobody i h at = (let never : None ≡ Some h = sym (ap (λ (xs : List Held). slice_get xs i) home.2) ∙ at in cc)

  log_opened : IsLogOf turned (opened_log lines base) out.jobs
  log_opened = record {
    start = lines;
    fresh = subst (λ (x : WorldView). AreFresh x lines) turn begun.lines_are;
    base = begun.base_is;
    round = record { few = omega (arith, begun.lines_are.are.count, ap (λ (x : WorldView). x.geometry.log) begun.new_is, b.few); small = begun.most; within = omega arith };
    holds = subst (λ (js : List Held). HoldsRound lines (opened_log lines base) old.claims (slots_of js)) (sym home.2)
        (subst (λ (cs : List (ℕ × Draft)). HoldsRound lines (opened_log lines base) cs []) (sym home.1) (holds_none lines base));
    count = omega (arith, ap (λ (cs : List (ℕ × Draft)). length cs) home.1, ap (λ (js : List Held). length (slots_of js)) home.2);
    lines = λ h there. (let place = at_In out.jobs h there in absurd (nobody place.0 h place.1));
    apart = λ i j slot h k at_h at_k is_h is_k. absurd (nobody i h at_h);
  }

  between_opened : Between turned opened
  between_opened = record {
    usable = b.usable;
    awake = b.awake;
    none_unfinished = b.none_unfinished;
    held = record { count = b.held.count; each = λ i p h at_p at_h. absurd (nobody i h at_h) };
    log = log_opened;
    next = b.next;
    writes = b.writes;
    callers = b.callers;
    drafts = b.drafts;
    scripted = b.scripted;
    threads = b.threads;
    lines = b.lines;
    few = b.few;
    settled = b.settled;
    claimed = b.claimed;
    given_up = λ given. absurd (subst (λ (o : Option RoundView). IsFull o) none (b.given_up given));
    late = b.late;
    moves = b.moves;
    waits = λ over. (let x = b.waits over in record { who = x.who; call = x.call; none = x.none; next = x.next; set_up = x.set_up });
  }

  paid_turned : (first now : Supply) → IsPaid first now old out.jobs → IsPaid first now turned out.jobs
  paid_turned first now paid = record {
    any = paid.any;
    ahead = paid.ahead;
    quiet = paid.quiet;
    tree = λ given some. (let kept = paid.tree given some in record { changed = kept.changed; fewer = kept.fewer; most = kept.most; each = kept.each });
  }

  pub begins_now : IsOpened old out new opened
  begins_now = record {
    turn = turn;
    between = subst (λ (x : WorldView). Between x opened) (sym turn) between_opened;
    jobs = refl;
    same = ap (λ (x : WorldView). left_to_do x opened) turn;
    paid = λ first now paid. subst (λ (x : WorldView). IsPaid first now x out.jobs) (sym turn) (paid_turned first now paid);
  }

pub begins_round : BeginsRound
begins_round old new out lines base b none begun = begins_now old new out lines base b none begun

-- ---- its lines, and its measure

-- with no job out the lines hold the claims
pub holds_claims : (w : WorldView) (log : RoundView) (jobs : List Held) → jobs ≡ [] → IsLogOf w log jobs → HoldTheClaims w log.lines
holds_claims w log jobs none is = log_holds w log (record {
  start = is.start;
  fresh = is.fresh;
  base = is.base;
  round = is.round;
  holds = subst (λ (js : List Held). HoldsRound is.start log w.claims (slots_of js)) none is.holds;
  count = is.count ∙ ap (λ (js : List Held). length w.claims + length (slots_of js)) none;
})

below_true : (m n : ℕ) → m < n → nat_lt m n ≡ true
below_true m n below = grind (arith, nat_tests)

not_below : (n : ℕ) → nat_lt n n ≡ false
not_below n = grind (arith, nat_tests)

-- a round that is over, and in which a call returned, has a Checkpoint left
was_far : (c : Bool) (o : Option Over) → c ≡ true → o ≢ None → 64 ≤ (if c then ends_by o else 0)
was_far true None is over = absurd (over refl)
was_far true (Some x) is over = omega arith
was_far false o is over = cc

now_near : (c : Bool) → c ≡ false → (if c then ends_by None else 0) ≤ 0
now_near true is = cc
now_near false is = omega arith

-- ---- a Checkpoint

module _ (w : WorldView) (out : OutView) (log : RoundView) (can : CanCheck w out log) where
  abbrev b : Between w out
  b = can.between

  log_w : IsLogOf w log out.jobs
  log_w = subst (λ (o : Option RoundView). HasLog w o out.jobs) can.log_is b.log

  pending_w : w.pending ≡ []
  pending_w = none_pending w out.jobs b.held can.none_out

  some_over : IsSome w.over
  some_over = by w.over can.over where
    by : (o : Option Over) → (o ≡ None → ⊥) → IsSome o
    by None over = absurd (over refl)
    by (Some x) over = refl

  -- where a job was given up something is claimed
  some_claims : (w.given_up ≡ 0 → ⊥) → w.claims ≢ []
  some_claims given none =
      let full : log.tail ≡ length log.lines = subst (λ (o : Option RoundView). IsFull o) can.log_is (b.given_up given) in
      omega (
        arith,
        full,
        log_w.count,
        ap (λ (cs : List (ℕ × Draft)). length cs) none,
        ap (λ (js : List Held). length (slots_of js)) can.none_out,
        log_w.holds.count,
        log_w.fresh.are.count,
        b.lines,
      )

  -- so a call returned in this round
  returned : w.settled < length w.history
  returned = elim (b.late can.over) [
    | inl some ↦ absurd (some pending_w)
    | inr others ↦ elim others [
      | inl given ↦ b.claimed (some_claims given)
      | inr late ↦ late
    ]
  ]

  pub check_may : MayCheckpoint w log.lines
  check_may = record {
    over = some_over;
    none_out = pending_w;
    lines_are = holds_claims w log out.jobs can.none_out log_w;
    some = some_claims;
  }

  moves_w : moves_now w ≡ true
  moves_w = b.moves can.over

  module _ (new : WorldView) (before after : Supply) (steps : Steps (2 ^ 26) before after) where
    -- it is done
    module _ (is : IsNextRound w new after) where
      abbrev v : WorldView
      v = record w { base = w.base + w.geometry.log; settled = length w.history; claims = []; over = None; given_up = 0; acts = w.acts + 1; disk = new.disk; lines_out = false }

      between_v : Between v nothing_out
      between_v = record {
        usable = b.usable;
        awake = b.awake;
        none_unfinished = b.none_unfinished;
        held = record { count = ap (λ (ps : List JobOut). length ps) (sym pending_w); each = λ i p h at_p at_h. (let never : None ≡ Some h = at_h in cc) };
        log = (refl, refl, refl);
        next = b.next;
        writes = b.writes;
        callers = b.callers;
        drafts = b.drafts;
        scripted = b.scripted;
        threads = b.threads;
        lines = b.lines;
        few = b.few;
        settled = omega arith;
        claimed = λ some. absurd (some refl);
        given_up = λ given. absurd (given refl);
        late = λ over. absurd (over refl);
        moves = λ over. absurd (over refl);
        waits = λ over. absurd (over refl);
      }

      less_v : left_to_do v nothing_out < left_to_do w out
      less_v = omega (arith, was_far (nat_lt w.settled (length w.history)) w.over (below_true w.settled (length w.history) returned) can.over, now_near (nat_lt (length w.history) (length w.history)) (not_below (length w.history)))

      paid_v : (first : Supply) → IsPaid first before w out.jobs → IsPaid first after v []
      paid_v first was = record {
        any = both.any;
        ahead = both.ahead;
        quiet = λ calm quiet. (let never : true ≡ false = sym moves_w ∙ quiet in cc);
        tree = λ given some. tree_later first before after w v (steps_early out.jobs) 0 given (2 ^ 26) refl refl (omega arith) steps (was.tree given some);
      } where
        both : IsPaidAny first after v []
        both = pays first before after w v out.jobs [] (2 ^ 26) was steps (omega arith)

      pub done_now : GoesOn w out new nothing_out before after
      done_now = subst (λ (x : WorldView). GoesOn w out x nothing_out before after) (sym is.new_is)
          (record { later = record { geometry = refl; start = refl; scripts = refl }; between = between_v; less = less_v; on = is.on; paid = paid_v })

    -- or the power goes
    module _ (is : LosesRound w new after) where
      abbrev u : WorldView
      u = record w { acts = w.acts + 1; disk = new.disk; lines_out = false; home = new.home; lost = true }

      new_is : new ≡ u
      new_is = is.new_is ∙ λ i. record w { acts = is.first_one b.awake i; disk = new.disk; lines_out = false; home = new.home; lost = true }

      off : is_on after ≡ false
      off = elim is.off [
        | inl lost_already ↦ let never : true ≡ false = sym lost_already ∙ b.awake in cc
        | inr off_now ↦ off_now
      ]

      out_u : AreOut u [] []
      out_u = held_out u [] (record { count = ap (λ (ps : List JobOut). length ps) (sym pending_w); each = λ i p h at_p at_h. (let never : None ≡ Some h = at_h in cc) })

      acted_u : HaveActed u nothing_out 0
      acted_u = have_acted u [] [] b.callers 0 (omega (arith, ap (λ (cs : List Unfinished). length cs) b.none_unfinished)) None out_u b.drafts refl

      lost : LosesPower None w out u nothing_out before after
      lost = record {
        later = record { geometry = refl; start = refl; scripts = refl };
        history = refl;
        calls = refl;
        can = record {
          usable = b.usable;
          crash = may_crash u [] None [] out_u b.callers b.drafts refl;
          open_calls = open_calls u b.none_unfinished b.next b.callers;
        };
        off = off;
        paid = λ first was. (
            let both = pays first before after w u out.jobs [] (2 ^ 26) was steps (omega arith) in
            record {
              any = both.any;
              quiet = λ calm quiet. (let never : true ≡ false = sym moves_w ∙ quiet in cc);
              tree = λ given some. tree_later first before after w u (steps_early out.jobs) 0 given (2 ^ 26) refl refl (omega arith) steps (was.tree given some);
            });
        acted = λ first given on some was. pays_acted first before after w u nothing_out (steps_early out.jobs) 0 given (2 ^ 26) refl refl (was.any.given ∙ some) on off (omega arith) steps acted_u (was.tree given some);
      }

      pub lost_now : LosesPower None w out new nothing_out before after
      lost_now = subst (λ (x : WorldView). LosesPower None w out x nothing_out before after) (sym new_is) lost

pub may_check : MayCheck
may_check w out log can = check_may w out log can

pub round_checked : RoundChecked
round_checked w new out log before after can steps is = done_now w out log can new before after steps is

pub check_loses : CheckLoses
check_loses w new out log before after can steps is = lost_now w out log can new before after steps is

-- ---- the end of the run

-- where all calls returned no job is out: its call would be one more
module _ (w : WorldView) (out : OutView) (b : Between w out) (complete : IsComplete w.scripts w.history) where
  no_job : (p : JobOut) → In p w.pending → ⊥
  no_job p there =
      let item : Item = item_of w p.who p.call in
      let more : Scripted w.scripts (w.history ++ item ∷ []) = Scripted-append w.scripts w.history item b.scripted (record { call = (b.next p there).0; index = refl; set_up = (b.next p there).1 }) in
      omega (arith, complete, one_longer w.history item, history_within w.scripts (w.history ++ item ∷ []) more)

  no_jobs : (ps : List JobOut) → ((p : JobOut) → In p ps → ⊥) → ps ≡ []
  no_jobs [] none = refl
  no_jobs (p ∷ ps) none = absurd (none p (inl refl))

  pub none_left : w.pending ≡ []
  none_left = no_jobs w.pending no_job

  pub none_held : out.jobs ≡ []
  none_held = none_long out.jobs (omega (arith, b.held.count, ap (λ (ps : List JobOut). length ps) none_left))

pub may_end : MayEnd
may_end w out log b is complete =
    let none = none_held w out b complete in (
      none,
      record {
        none_out = none_left w out b complete;
        lines_are = holds_claims w log out.jobs none (subst (λ (o : Option RoundView). HasLog w o out.jobs) is b.log);
        ended = complete;
      },
    )

-- ---- the steps

not_true : (b : Bool) → not b ≡ true → b ≡ false
not_true true is = cc
not_true false is = refl

-- what a quiet history is
record AreQuiet (mode : Mode) (scripts : Scripts) (history : List Item) : Type 0 where
  calm : is_posix mode ≡ false
  left : nat_lt (length history) (call_count scripts) ≡ true
  history_is : has_moved history ≡ false
  next_is : next_moves scripts history ≡ false

are_quiet : (mode : Mode) (scripts : Scripts) (history : List Item) → IsTrue (is_quiet mode scripts history) → AreQuiet mode scripts history
are_quiet mode scripts history quiet =
    let first = and_parts (not (is_posix mode) && nat_lt (length history) (call_count scripts) && not (has_moved history)) (not (list_any moves_data (next_calls scripts history))) quiet in
    let second = and_parts (not (is_posix mode) && nat_lt (length history) (call_count scripts)) (not (has_moved history)) first.0 in
    let third = and_parts (not (is_posix mode)) (nat_lt (length history) (call_count scripts)) second.0 in
    record { calm = not_true (is_posix mode) third.0; left = third.1; history_is = not_true (has_moved history) second.1; next_is = not_true (next_moves scripts history) first.1 }

neither : (a b : Bool) → a ≡ false → b ≡ false → (a || b) ≡ false
neither true b one two = cc
neither false b one two = two

quiet_now : (mode : Mode) (scripts : Scripts) (history : List Item) → AreQuiet mode scripts history → moves_by scripts history ≡ false
quiet_now mode scripts history are = neither (has_moved history) (next_moves scripts history) are.history_is are.next_is

pub affords_lost : AffordsLost
affords_lost w first after steps paid few took = record {
  by_any = omega (arith, few, took, paid.any.bound);
  by_names = λ quiet. (
      let are = are_quiet w.start.mode w.scripts w.history quiet in
      let bound = (paid.quiet are.calm (quiet_now w.start.mode w.scripts w.history are)).bound in
      omega (arith, took, bound));
}

pub paid_is_paid_off : PaidIsPaidOff
paid_is_paid_off w out first now paid = record {
  any = paid.any;
  quiet = λ calm quiet. (let was = paid.quiet calm quiet in record { given = was.given; on_before = was.on_before; later = was.later; bound = omega (arith, was.bound) });
  tree = λ given some. (let kept = paid.tree given some in record { changed = kept.changed; fewer = (let fewer = kept.fewer in omega (arith, fewer)); most = (let most = kept.most in omega (arith, most)); each = kept.each });
}

pub acted_between : ActedBetween
acted_between w out first now given b some paid = record {
  most = steps_early out.jobs;
  tree = paid.tree given some;
  acted = have_acted w [] out.jobs b.callers (steps_early out.jobs) (omega (arith, ap (λ (cs : List Unfinished). length cs) b.none_unfinished)) out.log (held_out w out.jobs b.held) b.drafts (left_of w out.log out.jobs b.log);
}

not_less : (m n : ℕ) → m ≡ n → nat_lt m n ≡ true → ⊥
not_less m n same below = absurd (grind (arith, same, below))

pub affords_whole : AffordsWhole
affords_whole w out first now after steps paid complete few more took = record {
  by_any = omega (arith, few, took, paid.any.bound, more.bound);
  by_names = λ quiet. absurd (not_less (length w.history) (call_count w.scripts) complete (are_quiet w.start.mode w.scripts w.history quiet).left);
}
