-- From round to round: what a run begins with, what a round is opened with, and what it leaves.
use Rattle.std.specs.Prelude.{◌≡◌, ◌≤◌, ◌*◌, ◌^◌, ℕ, true, false, List, [], length, Option, refl}
use Rattle.std.proofs.Common.{arith, ap, ◌∙◌, sym, subst}
use Rattle.thread_laws.specs.world_view_laws.pm_model.declared.Cell.{Cell}
use Rattle.thread_laws.specs.world_view_laws.pm_model.Cells.{cell}
use Rattle.thread_laws.specs.world_view_laws.pm_model.Images.{IsImage}
use Rattle.thread_laws.specs.world_view_laws.pm_model.Powers.{Supply}
use Rattle.thread_laws.specs.world_view_laws.pm_model.Words.{Words}
use Rattle.thread_laws.specs.world_view_laws.image_model.Content.{content}
use Rattle.thread_laws.specs.world_view_laws.image_model.Honest.{IsHonest}
use Rattle.thread_laws.specs.world_view_laws.oplog_entry.layout_model.Places.{Geometry}
use Rattle.thread_laws.specs.world_view_laws.posix_types.declared.item.Item.{Item}
use Rattle.thread_laws.specs.world_view_laws.posix_types.declared.tree.TreeEntry.{TreeEntry}
use Rattle.thread_laws.specs.world_view_laws.posix_types.Scripts.{Scripts}
use Rattle.thread_laws.specs.world_view_laws.posix_spec.Run.{IsLegal, run, Unfinished}
use Rattle.thread_laws.specs.world_view_laws.posix_spec.Scripted.{IsComplete, Scripted}
use Rattle.thread_laws.specs.world_view_laws.posix_spec.State.{State}
use Rattle.thread_laws.specs.world_view_laws.posix_spec.Tree.{tree}
use Rattle.thread_laws.specs.world_view_laws.posix_spec.Unfinished.{AreUnfinished}
use Rattle.thread_laws.specs.world_view_laws.in_flight.world_model.Shown.{IsTreeOfContent}
use Rattle.thread_laws.specs.world_view_laws.world_image_laws.Promised.{KeepsPromise}
use Rattle.thread_laws.specs.world_view_laws.Views.{Disk, WorldView}
use Rattle.split_world.specs.world_parts.declared.outcomes.Ended.{Ended}
use Rattle.thread_laws.specs.Hands.{Lap, lap_of}
use Rattle.thread_laws.specs.Moves.{MayOpen}
use Rattle.split_threads.specs.Dealt.{fresh_power}
use Rattle.split_threads.specs.Ends.{IsFirst, IsLostByThreads, IsRanByThreads, IsWholeByThreads}
use Rattle.split_threads.specs.Rounds.{IsBetweenRounds, IsLeftOf, IsRoundDone, IsTurnedFrom, IsTurnedLost, IsTurnedNext, IsTurnedWhole}
use Rattle.split_threads.specs.declared.closes.Turned.{Turned}

-- ---- the first round

pub first_between : (w : WorldView) (stop : Option ℕ) → IsFirst w → IsBetweenRounds w stop w (fresh_power stop)
first_between w stop first = record {
  geometry = refl;
  start = refl;
  scripts = refl;
  lines = first.lines;
  threads = first.threads;
  usable = first.usable;
  lines_home = first.lines_out;
  awake = first.on;
  going = first.over;
  none_returned = first.settled ∙ sym (ap length first.history);
  none_claimed = first.claims;
  none_out = first.pending;
  none_given_up = first.given_up;
  given = refl;
  paid = omega arith;
}

-- ---- a round is opened

-- what a beginning of a round leaves of its World
abbrev pub with_lines_out : WorldView → Disk → List ℕ → WorldView
with_lines_out w disk words = record w { disk = disk; lines_out = true; first = words }

module _ (first old new : WorldView) (stop : Option ℕ) (power : Supply) (between : IsBetweenRounds first stop old power)
    (new_is : new ≡ with_lines_out old new.disk new.first) where
  lost_not : new.lost ≡ true → ⊥
  lost_not is = let never : true ≡ false = sym is ∙ (ap (λ (x : WorldView). x.lost) new_is ∙ between.awake) in cc

  pub may_open : (n : ℕ) → 1 ≤ n → MayOpen new power n
  may_open n some = record {
    some = some;
    usable = ap (λ (x : WorldView). x.usable) new_is ∙ between.usable;
    lines_out = ap (λ (x : WorldView). x.lines_out) new_is;
    going = ap (λ (x : WorldView). x.over) new_is ∙ between.going;
    none_returned = ap (λ (x : WorldView). x.settled) new_is ∙ (between.none_returned ∙ sym (ap (λ (x : WorldView). length x.history) new_is));
    none_claimed = ap (λ (x : WorldView). x.claims) new_is ∙ between.none_claimed;
    none_out = ap (λ (x : WorldView). x.pending) new_is ∙ between.none_out;
    none_given_up = ap (λ (x : WorldView). x.given_up) new_is ∙ between.none_given_up;
    paid = omega (arith, between.paid, ap (λ (x : WorldView). x.acts) new_is);
    bound = λ is. absurd (lost_not is);
  }

  -- ---- and ends

  module _ (last : WorldView) (after : Supply) (lap : lap_of last ≡ lap_of new) where
    pub same_geometry : last.geometry ≡ first.geometry
    same_geometry = ap (λ (l : Lap). l.geometry) lap ∙ (ap (λ (x : WorldView). x.geometry) new_is ∙ between.geometry)

    pub same_start : last.start ≡ first.start
    same_start = ap (λ (l : Lap). l.start) lap ∙ (ap (λ (x : WorldView). x.start) new_is ∙ between.start)

    pub same_scripts : last.scripts ≡ first.scripts
    same_scripts = ap (λ (l : Lap). l.scripts) lap ∙ (ap (λ (x : WorldView). x.scripts) new_is ∙ between.scripts)

    -- the geometry and the scripts are those of the World before, too
    own_geometry : last.geometry ≡ old.geometry
    own_geometry = ap (λ (l : Lap). l.geometry) lap ∙ ap (λ (x : WorldView). x.geometry) new_is

    own_scripts : last.scripts ≡ old.scripts
    own_scripts = ap (λ (l : Lap). l.scripts) lap ∙ ap (λ (x : WorldView). x.scripts) new_is

    ran : (pm : List Cell) (history : List Item) (unfinished : List Unfinished) → IsLeftOf last pm history unfinished → IsRanByThreads first pm history unfinished
    ran pm history unfinished left =
        let start = left.start ∙ same_start in
        let scripts = left.scripts ∙ same_scripts in
        let geometry = left.geometry ∙ same_geometry in
        record {
          legal = subst (λ (s : State). IsLegal s history) start left.left.legal;
          scripted = subst (λ (s : Scripts). Scripted s history) scripts left.left.scripted;
          open_calls = subst (λ (s : Scripts). AreUnfinished s history unfinished) scripts left.left.open_calls;
          size = left.left.size ∙ ap (λ (g : Geometry). 512 * g.blocks) geometry;
          home = left.left.home;
          promise = subst (λ (g : Geometry). KeepsPromise g pm first.start history unfinished) geometry
              (subst (λ (s : State). KeepsPromise left.last.geometry pm s history unfinished) start left.left.promise);
        }

    -- the history is that of the World
    history_is : (pm : List Cell) (history : List Item) (unfinished : List Unfinished) → IsLeftOf last pm history unfinished → history ≡ last.history
    history_is pm history unfinished left = left.left.history_is ∙ left.same

    -- its tree, of any numbers, start and history
    abbrev HasTree : List Cell → Geometry → State → List Item → Type 0
    HasTree pm g s history =
        (image : Words) → IsImage pm image → IsHonest g (cell pm) image → (left : List TreeEntry) → IsTreeOfContent (content g image) left → left ≡ tree (run s history)

    whole : (pm : List Cell) (history : List Item) → IsTurnedWhole last pm history → IsWholeByThreads first pm history
    whole pm history is =
        let same = sym (history_is pm history [] is.left) in
        record {
          ran = ran pm history [] is.left;
          complete = subst (λ (s : Scripts). IsComplete s history) same_scripts (subst (λ (h : List Item). IsComplete last.scripts h) same is.complete);
          tree = subst (λ (g : Geometry). HasTree pm g first.start history) same_geometry
              (subst (λ (s : State). HasTree pm last.geometry s history) same_start (subst (λ (h : List Item). HasTree pm last.geometry last.start h) same is.tree));
        }

    lost : (pm : List Cell) (history : List Item) (unfinished : List Unfinished) → after.given ≡ power.given → IsTurnedLost last after pm history unfinished
        → IsLostByThreads first stop pm history unfinished
    lost pm history unfinished given is =
        record {
          ran = ran pm history unfinished is.left;
          steps = is.steps;
          given = sym between.given ∙ (sym given ∙ is.given);
          afforded = omega (arith, is.afforded, ap length (history_is pm history unfinished is.left));
        }

    next : (w : WorldView) (left : Supply) → after.given ≡ power.given → last.usable ≡ true → after.taken ≤ 2 ^ 26 * last.acts → IsTurnedNext last after w left
        → IsBetweenRounds first stop w left
    next w left given usable paid is =
        let is_new = is.next.new_is in
        let geometry : w.geometry ≡ last.geometry = ap (λ (x : WorldView). x.geometry) is_new in
        let scripts : w.scripts ≡ last.scripts = ap (λ (x : WorldView). x.scripts) is_new in
        record {
          geometry = geometry ∙ same_geometry;
          start = ap (λ (x : WorldView). x.start) is_new ∙ same_start;
          scripts = scripts ∙ same_scripts;
          lines = subst (λ (g : Geometry). 1 ≤ g.log) (sym (geometry ∙ own_geometry)) between.lines;
          threads = subst (λ (s : Scripts). length s.threads ≤ 8) (sym (scripts ∙ own_scripts)) between.threads;
          usable = ap (λ (x : WorldView). x.usable) is_new ∙ usable;
          lines_home = ap (λ (x : WorldView). x.lines_out) is_new;
          awake = ap (λ (x : WorldView). x.lost) is_new ∙ is.next.awake;
          going = ap (λ (x : WorldView). x.over) is_new;
          none_returned = ap (λ (x : WorldView). x.settled) is_new ∙ sym (ap (λ (x : WorldView). length x.history) is_new);
          none_claimed = ap (λ (x : WorldView). x.claims) is_new;
          none_out = ap (λ (x : WorldView). x.pending) is_new ∙ is.none_out;
          none_given_up = ap (λ (x : WorldView). x.given_up) is_new;
          given = is.steps.given ∙ (given ∙ between.given);
          paid = omega (arith, is.steps.bound, paid, ap (λ (x : WorldView). x.acts) is_new);
        }

  pub round_done : (turned : Turned) → IsTurnedFrom new power turned → IsRoundDone first stop turned
  round_done (Turned.Next w left) is = next is.last is.after is.lap w left is.given is.in_round.usable is.in_round.paid is.turned_is
  round_done (Turned.Ended (Ended.Whole pm history)) is = whole is.last is.after is.lap pm history.items is.turned_is
  round_done (Turned.Ended (Ended.Lost crashed)) is = lost is.last is.after is.lap crashed.pm crashed.history.items crashed.unfinished.items is.given is.turned_is
