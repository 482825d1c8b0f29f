-- The log of the round beside the jobs, as each event leaves it.
use Rattle.std.specs.Prelude.{◌≡◌, ◌≢◌, ◌⊎◌, ◌<◌, ◌≤◌, ◌+◌, ◌^◌, ℕ, Bool, true, false, Contains, List, [], ◌∷◌, ◌++◌, length, Some, None, Ok, slice_get, slice_set, refl}
use Rattle.std.specs.List.{remove}
use Rattle.std.proofs.Common.{arith, ap, ◌∙◌, sym, subst, inl, inr, length-append}
use Rattle.std.proofs.lemmas.Option.{slice_get_within}
use Rattle.round_log.specs.pm_model.declared.Cell.{Cell}
use Rattle.round_log.specs.pm_model.declared.Cell.TheVariants.{Two}
use Rattle.round_log.specs.pm_model.Cells.{cell, has_two, is_lent, newest, oldest}
use Rattle.round_log.specs.pm_model.Parts.{Part}
use Rattle.round_log.specs.pm_model.Words.{Words}
use Rattle.round_log.specs.layout_model.declared.lines.Draft.{Draft}
use Rattle.round_log.specs.image_model.LogRule.{HoldsEntry, IsAsAtFirst}
use Rattle.round_log.specs.oplog_entry.declared.claims.Mark.TheVariants.{Lost}
use Rattle.round_log.specs.oplog_entry.EntryLines.{entry_words, Holds, IsPutOver}
use Rattle.round_log.specs.oplog_entry.LogLines.{line_at}
use Rattle.round_log.specs.Held.{HoldsRound}
use Rattle.round_log.specs.Rounds.{ChangesLine, IsClaimed, IsRound, RoundView}
use Rattle.round_log.specs.Stores.{HasStored}
use Rattle.round_log.proofs.Holding.{changes_taken, claims_slot, takes_slot}
use Rattle.world_view_laws.specs.list_laws.Members.{In}
use Rattle.world_view_laws.specs.posix_types.declared.call.Who.{Who}
use Rattle.world_view_laws.specs.write_end.Lines.{IsJobLine}
use Rattle.world_view_laws.specs.write_jobs.Jobs.{FilledView}
use Rattle.world_view_laws.specs.Lines.{first_of}
use Rattle.world_view_laws.specs.Views.{WorldView}
use Rattle.run_laws.proofs.Logs.{fresh_stays, over_first, SameLap}
use Rattle.run_laws.specs.declared.held.Held.{Held}
use Rattle.run_laws.specs.declared.held.Work.{Work}
use Rattle.run_laws.specs.Held.{HasLine, IsLogOf, slot_in, slots_of}
use Rattle.run_laws.proofs.Places.{at_In, In_at, none_pushed, none_taken, push_cases, set_cases, skip, some_more, some_set, some_taken, taken_at}
use Rattle.run_laws.proofs.Slots.{less_back, less_forth, less_free, more_back, more_forth, own_more, own_same, own_taken, same_taken, slot_held, slot_there}

-- ---- a line stays where its slot's line does

pub line_stays : (start : List Part) (old new : RoundView) (work : Work) → new.base ≡ old.base → ((slot : ℕ) → slot_in work ≡ Some slot → line_at new.lines slot ≡ line_at old.lines slot) → HasLine start old work → HasLine start new work
line_stays start old new (Work.Began job) base same has = tt
line_stays start old new (Work.Filled job) base same has = tt
line_stays start old new (Work.Claimed job slot) base same has = same slot refl ∙ has
line_stays start old new (Work.Stored job slot) base same has =
    subst (λ (b : ℕ). HasStored (line_at start slot).cells (entry_words job.draft (b + slot)) true (line_at new.lines slot).cells) (sym base)
    (subst (λ (line : Part). HasStored (line_at start slot).cells (entry_words job.draft (old.base + slot)) true line.cells) (sym (same slot refl)) has)
line_stays start old new (Work.Persisted job slot) base same has =
    subst (λ (b : ℕ). HoldsEntry (line_at new.lines slot).cells job.draft (b + slot)) (sym base)
    (subst (λ (line : Part). HoldsEntry line.cells job.draft (old.base + slot)) (sym (same slot refl)) has)

-- one that has no slot has no line
pub no_line : (start : List Part) (log : RoundView) (work : Work) → slot_in work ≡ None → HasLine start log work
no_line start log (Work.Began job) none = tt
no_line start log (Work.Filled job) none = tt
no_line start log (Work.Claimed job slot) none = cc
no_line start log (Work.Stored job slot) none = cc
no_line start log (Work.Persisted job slot) none = cc

-- ---- the World goes on in its lap

pub log_later : (w v : WorldView) (log : RoundView) (jobs : List Held) → SameLap w v → v.claims ≡ w.claims → IsLogOf w log jobs → IsLogOf v log jobs
log_later w v log jobs same claims is = record {
  start = is.start;
  fresh = fresh_stays w v is.start same is.fresh;
  base = is.base ∙ sym same.base;
  round = is.round;
  holds = subst (λ (cs : List (ℕ × Draft)). HoldsRound is.start log cs (slots_of jobs)) (sym claims) is.holds;
  count = is.count ∙ ap (λ (cs : List (ℕ × Draft)). length cs + length (slots_of jobs)) (sym claims);
  lines = is.lines;
  apart = is.apart;
}

module _ (w : WorldView) (log : RoundView) (jobs : List Held) (is : IsLogOf w log jobs) where
  -- ---- a job begins

  pub log_pushed : (new : Held) → slot_in new.work ≡ None → IsLogOf w log (jobs ++ new ∷ [])
  log_pushed new none = record {
    start = is.start;
    fresh = is.fresh;
    base = is.base;
    round = is.round;
    holds = subst (HoldsRound is.start log w.claims) (sym same) is.holds;
    count = is.count ∙ ap (λ (slots : List ℕ). length w.claims + length slots) (sym same);
    lines = λ h at.
        let place = at_In (jobs ++ new ∷ []) h at in
        elim (push_cases jobs place.0 new h place.1) [
          | inl was ↦ is.lines h (In_at jobs place.0 h was)
          | inr last ↦ subst (λ (x : Held). HasLine is.start log x.work) last.1 (no_line is.start log new.work none)
        ];
    apart = λ i j slot x y at_x at_y is_x is_y. by i j slot x y is_x is_y (push_cases jobs i new x at_x) (push_cases jobs j new y at_y);
  } where
    same : slots_of (jobs ++ new ∷ []) ≡ slots_of jobs
    same = none_pushed slot_held jobs new none

    never : (slot : ℕ) (x : Held) → new ≡ x → slot_in x.work ≡ Some slot → ⊥
    never slot x is_new some = no (sym none ∙ (ap slot_held is_new ∙ some)) where
      no : None ≡ Some slot → ⊥
      no one = cc

    by : (i j slot : ℕ) (x y : Held) → slot_in x.work ≡ Some slot → slot_in y.work ≡ Some slot → (slice_get jobs i ≡ Some x) ⊎ ((i ≡ length jobs) × (new ≡ x)) → (slice_get jobs j ≡ Some y) ⊎ ((j ≡ length jobs) × (new ≡ y)) → i ≡ j
    by i j slot x y is_x is_y (inl one) (inl two) = is.apart i j slot x y one two is_x is_y
    by i j slot x y is_x is_y (inr one) two = absurd (never slot x one.1 is_x)
    by i j slot x y is_x is_y (inl one) (inr two) = absurd (never slot y two.1 is_y)

  -- ---- one came further

  module _ (i : ℕ) (h : Held) (at : slice_get jobs i ≡ Some h) where
    below : i < length jobs
    below = slice_get_within jobs i h at

    -- the lines of all others
    others_lines : (new : Held) (then : RoundView) → then.base ≡ log.base → ((slot : ℕ) (j : ℕ) (k : Held) → j ≢ i → slice_get jobs j ≡ Some k → slot_in k.work ≡ Some slot → line_at then.lines slot ≡ line_at log.lines slot)
        → HasLine is.start then new.work → (x : Held) → In x (slice_set jobs i new) → HasLine is.start then x.work
    others_lines new then base same own x there =
        let place = at_In (slice_set jobs i new) x there in
        elim (set_cases jobs i place.0 new x below place.1) [
          | inl one ↦ subst (λ (y : Held). HasLine is.start then y.work) one.1 own
          | inr two ↦ line_stays is.start log then x.work base (λ slot some. same slot place.0 x two.0 two.1 some) (is.lines x (In_at jobs place.0 x two.1))
        ]

    -- with no slot before and behind
    pub log_filled : (new : Held) → slot_in h.work ≡ None → slot_in new.work ≡ None → IsLogOf w log (slice_set jobs i new)
    log_filled new none still = record {
      start = is.start;
      fresh = is.fresh;
      base = is.base;
      round = is.round;
      holds = subst (HoldsRound is.start log w.claims) (sym same) is.holds;
      count = is.count ∙ ap (λ (slots : List ℕ). length w.claims + length slots) (sym same);
      lines = others_lines new log refl (λ slot j k other there some. refl) (no_line is.start log new.work still);
      apart = own_same jobs i h new at (still ∙ sym none) is.apart;
    } where
      same : slots_of (slice_set jobs i new) ≡ slots_of jobs
      same = some_set slot_held jobs i h new at (still ∙ sym none)

    -- it claims a slot
    module _ (then : RoundView) (slot : ℕ) (job : FilledView) (who : Who) (none : slot_in h.work ≡ None) (claims : IsClaimed log then (Ok slot)) where
      abbrev claimed : Held
      claimed = record { who = who; work = Work.Claimed job slot }

      takes : HoldsRound is.start then w.claims (slot ∷ slots_of jobs) × (line_at then.lines slot ≡ line_at is.start slot) × (¬ Contains (slots_of jobs) slot)
      takes = takes_slot is.start log then slot w.claims (slots_of jobs) is.holds claims

      pub log_claimed : IsLogOf w then (slice_set jobs i claimed)
      log_claimed = record {
        start = is.start;
        fresh = is.fresh;
        base = ap (λ (x : RoundView). x.base) claims.2 ∙ is.base;
        round = record {
          few = subst (λ (x : RoundView). length x.lines < 2 ^ 32) (sym claims.2) is.round.few;
          small = subst (λ (x : RoundView). x.base ≤ 2 ^ 63) (sym claims.2) is.round.small;
          within = omega (arith, claims.0, claims.1, ap (λ (x : RoundView). x.tail) claims.2, ap (λ (x : RoundView). length x.lines) claims.2);
        };
        holds = same_taken is.start then w.claims (slot ∷ slots_of jobs) (slots_of (slice_set jobs i claimed)) (more_back jobs i h claimed at slot none refl) (more_forth jobs i h claimed at slot none refl) takes.0;
        count = (let more : length (slots_of (slice_set jobs i claimed)) ≡ length (slots_of jobs) + 1 = some_more slot_held jobs i h claimed slot at none refl in omega (arith, is.count, ap (λ (x : RoundView). x.tail) claims.2, more));
        lines = others_lines claimed then (ap (λ (x : RoundView). x.base) claims.2) (λ m j k other there some. ap (λ (x : RoundView). line_at x.lines m) claims.2) takes.1;
        apart = own_more jobs i h claimed at slot none refl is.apart takes.2;
      }

    -- its line changes
    module _ (then : RoundView) (slot : ℕ) (new : Held) (some : slot_in h.work ≡ Some slot) (still : slot_in new.work ≡ Some slot) (line : ChangesLine slot log then) where
      pub changed_round : IsRound then
      changed_round = record {
        few = omega (arith, is.round.few, line.count);
        small = omega (arith, is.round.small, line.base);
        within = omega (arith, is.round.within, line.tail, line.count);
      }

      same-2 : slots_of (slice_set jobs i new) ≡ slots_of jobs
      same-2 = some_set slot_held jobs i h new at (still ∙ sym some)

      pub changed_holds : HoldsRound is.start then w.claims (slots_of (slice_set jobs i new))
      changed_holds = subst (HoldsRound is.start then w.claims) (sym same-2) (changes_taken is.start log then slot w.claims (slots_of jobs) is.holds (slot_there jobs i slot h at some) line)

      other_slot : (m j : ℕ) (k : Held) → j ≢ i → slice_get jobs j ≡ Some k → slot_in k.work ≡ Some m → m ≢ slot
      other_slot m j k other there is_m same = other (is.apart j i m k h there at is_m (some ∙ ap (λ n. Some n) (sym same)))

      pub log_changed : HasLine is.start then new.work → IsLogOf w then (slice_set jobs i new)
      log_changed own = record {
        start = is.start;
        fresh = is.fresh;
        base = line.base ∙ is.base;
        round = changed_round;
        holds = changed_holds;
        count = line.tail ∙ (is.count ∙ ap (λ (slots : List ℕ). length w.claims + length slots) (sym same-2));
        lines = others_lines new then line.base (λ m j k other there is_m. line.others m (other_slot m j k other there is_m)) own;
        apart = own_same jobs i h new at (still ∙ sym some) is.apart;
      }

    -- ---- it is out no more

    in_taken : (x : Held) → In x (remove jobs i) → In x jobs
    in_taken x there = let place = at_In (remove jobs i) x there in In_at jobs (skip i place.0) x (sym (taken_at jobs i place.0 below) ∙ place.1)

    -- without a slot
    pub log_without : slot_in h.work ≡ None → IsLogOf w log (remove jobs i)
    log_without none = record {
      start = is.start;
      fresh = is.fresh;
      base = is.base;
      round = is.round;
      holds = subst (HoldsRound is.start log w.claims) (sym same) is.holds;
      count = is.count ∙ ap (λ (slots : List ℕ). length w.claims + length slots) (sym same);
      lines = λ x there. is.lines x (in_taken x there);
      apart = own_taken jobs i h at is.apart;
    } where
      same : slots_of (remove jobs i) ≡ slots_of jobs
      same = none_taken slot_held jobs i h at none

    -- with one, which is a claim now
    pub log_finished : (v : WorldView) (slot : ℕ) (d : Draft) → SameLap w v → v.claims ≡ w.claims ++ (slot, d) ∷ [] → slot_in h.work ≡ Some slot → HoldsEntry (line_at log.lines slot).cells d (log.base + slot)
        → IsLogOf v log (remove jobs i)
    log_finished v slot d lap claims some entry = record {
      start = is.start;
      fresh = fresh_stays w v is.start lap is.fresh;
      base = is.base ∙ sym lap.base;
      round = is.round;
      holds = subst (λ (cs : List (ℕ × Draft)). HoldsRound is.start log cs (slots_of (remove jobs i))) (sym claims)
          (claims_slot is.start log slot d w.claims (slots_of (remove jobs i))
          (same_taken is.start log w.claims (slots_of jobs) (slot ∷ slots_of (remove jobs i)) (less_back jobs i h at slot some is.apart) (less_forth jobs i h at slot some is.apart) is.holds)
          (less_free jobs i h at slot some is.apart) entry);
      count = (let less : length (slots_of (remove jobs i)) + 1 ≡ length (slots_of jobs) = some_taken slot_held jobs i h slot at some in omega (arith, is.count, less, more));
      lines = λ x there. is.lines x (in_taken x there);
      apart = own_taken jobs i h at is.apart;
    } where
      more : length v.claims ≡ length w.claims + 1
      more = ap (λ (cs : List (ℕ × Draft)). length cs) claims ∙ length-append w.claims ((slot, d) ∷ [])

-- ---- what a crash finds in a line

-- HOW FAR A LINE CAME where the power may have gone: it is as at the beginning of the lap; or it is its entry, or has it put over its first words.
abbrev pub IsLineLeft : WorldView → RoundView → Work → Type 0
IsLineLeft w log (Work.Began job) = Unit {0}
IsLineLeft w log (Work.Filled job) = Unit {0}
IsLineLeft w log (Work.Claimed job slot) = IsAsAtFirst (line_at log.lines slot).cells (first_of w slot)
IsLineLeft w log (Work.Stored job slot) = IsJobLine (line_at log.lines slot).cells (first_of w slot) job.draft (w.base + slot)
IsLineLeft w log (Work.Persisted job slot) = IsJobLine (line_at log.lines slot).cells (first_of w slot) job.draft (w.base + slot)

module _ (first : Words) (line : List Cell) (fresh : IsAsAtFirst line first) where
  -- with words of the entry stored into it
  pub stored_over : (entry : Words) (on : Bool) (cells : List Cell) → HasStored line entry on cells → IsPutOver cells first entry
  stored_over entry on cells has = record {
    home = λ j below. home_by j below (has.some j below);
    older = λ j below. older_by j below (has.some j below);
    newer = λ j below two. newer_by j below two (has.some j below);
  } where
    home_by : (j : ℕ) → j < 8 → (cell cells j ≡ cell line j) ⊎ (cell cells j ≡ Two (newest (cell line j)) (entry j)) → is_lent (cell cells j) ≡ false
    home_by j below (inl same) = ap is_lent (same ∙ fresh j below)
    home_by j below (inr two) = ap is_lent two

    older_by : (j : ℕ) → j < 8 → (cell cells j ≡ cell line j) ⊎ (cell cells j ≡ Two (newest (cell line j)) (entry j)) → oldest (cell cells j) ≡ first j
    older_by j below (inl same) = ap oldest (same ∙ fresh j below)
    older_by j below (inr two) = ap oldest two ∙ ap newest (fresh j below)

    newer_by : (j : ℕ) → j < 8 → has_two (cell cells j) ≡ true → (cell cells j ≡ cell line j) ⊎ (cell cells j ≡ Two (newest (cell line j)) (entry j)) → newest (cell cells j) ≡ entry j
    newer_by j below two (inl same) = (let never : false ≡ true = sym (ap has_two (same ∙ fresh j below)) ∙ two in cc)
    newer_by j below has_both (inr two) = ap newest two

-- what holds as lost is that, too
pub lost_line : (w : WorldView) (slot : ℕ) (d : Draft) (seq : ℕ) (first line : List Cell) → seq ≡ w.base + slot → IsAsAtFirst first (first_of w slot) → Holds Lost d seq first line → IsJobLine line (first_of w slot) d (w.base + slot)
lost_line w slot d seq first line same fresh (inl is) = inl (subst (HoldsEntry line d) same is)
lost_line w slot d seq first line same fresh (inr over) = inr (subst (λ (n : ℕ). IsPutOver line (first_of w slot) (entry_words d n)) same (over_first w slot line first (entry_words d seq) fresh over))

module _ (w : WorldView) (log : RoundView) (jobs : List Held) (is : IsLogOf w log jobs) where
  -- the first words of a slot that was claimed
  pub slot_below : (slot : ℕ) → Contains (slots_of jobs) slot → slot < length log.lines
  slot_below slot there = omega (arith, (is.holds.out slot there).0, is.round.within)

  pub fresh_line : (slot : ℕ) → Contains (slots_of jobs) slot → IsAsAtFirst (line_at is.start slot).cells (first_of w slot)
  fresh_line slot there = is.fresh.words slot (omega (arith, slot_below slot there, is.holds.count))

  seq_is : (slot : ℕ) → log.base + slot ≡ w.base + slot
  seq_is slot = ap (λ (b : ℕ). b + slot) is.base

  -- between two events each line is as far as a crash may find it
  pub line_left : (work : Work) → ((slot : ℕ) → slot_in work ≡ Some slot → Contains (slots_of jobs) slot) → HasLine is.start log work → IsLineLeft w log work
  line_left (Work.Began job) there has = tt
  line_left (Work.Filled job) there has = tt
  line_left (Work.Claimed job slot) there has =
      subst (λ (line : Part). IsAsAtFirst line.cells (first_of w slot)) (sym has) (fresh_line slot (there slot refl))
  line_left (Work.Stored job slot) there has =
      inr (stored_over (first_of w slot) (line_at is.start slot).cells (fresh_line slot (there slot refl)) (entry_words job.draft (w.base + slot)) true (line_at log.lines slot).cells
      (subst (λ (n : ℕ). HasStored (line_at is.start slot).cells (entry_words job.draft n) true (line_at log.lines slot).cells) (seq_is slot) has))
  line_left (Work.Persisted job slot) there has = inl (subst (HoldsEntry (line_at log.lines slot).cells job.draft) (seq_is slot) has)
