-- A history with one more call: what it changed, moved and took.
use Rattle.std.specs.Prelude.{◌≡◌, ◌≢◌, ◌⊎◌, ◌<◌, ◌≤◌, ◌+◌, ◌-◌, ◌||◌, ℕ, Bool, true, false, nat_lt, List, [], ◌∷◌, ◌++◌, map, Option, None, Some, refl}
use Rattle.std.specs.List.{list_any}
use Rattle.std.proofs.Common.{arith, ap, ◌∙◌, sym, subst, inl, inr}
use Rattle.std.proofs.lemmas.Bool.{ltb-false}
use Rattle.std.proofs.lemmas.List.{map-append}
use Rattle.std.specs.Option.{option_map_or}
use Rattle.std.proofs.lemmas.List.Folds.{list_any-append}
use Rattle.world_view_laws.specs.k_journal.Commits.{TakesAStep}
use Rattle.round_log.specs.pm_model.Powers.{is_left, is_on, Steps, Supply}
use Rattle.world_view_laws.specs.posix_types.declared.call.Call.{Call}
use Rattle.world_view_laws.specs.posix_types.declared.call.Mode.{Mode}
use Rattle.world_view_laws.specs.posix_types.declared.call.Who.{Who}
use Rattle.world_view_laws.specs.posix_types.declared.item.Item.{Item}
use Rattle.world_view_laws.specs.posix_tables.Open.{same_who}
use Rattle.world_view_laws.specs.posix_spec.Afforded.{moves_data}
use Rattle.world_view_laws.specs.posix_spec.Put.{Put, put_by}
use Rattle.world_view_laws.specs.posix_spec.Run.{run}
use Rattle.world_view_laws.specs.posix_spec.State.{State}
use Rattle.world_view_laws.specs.posix_spec.Tree.{tree}
use Rattle.world_view_laws.specs.crash_spec.Busy.{is_logged, is_logged_put}
use Rattle.world_view_laws.specs.Views.{WorldView}
use Rattle.run_laws.specs.Changes.{after_item, ChangesTreeAtMost}
use Rattle.run_laws.specs.Paid.{has_moved, KeepsGiven, KeepsTree}

-- ---- changes of the tree

pub same_tree : (s : State) (items : List Item) (item : Item) (n : ℕ) → ChangesTreeAtMost s items n → tree (after_item (run s items) item) ≡ tree (run s items) → ChangesTreeAtMost s (items ++ item ∷ []) n
same_tree s [] item n most stays = inl (stays, tt)
same_tree s (x ∷ items) item n (inl own) stays = inl (own.0, same_tree (after_item s x) items item n own.1 stays)
same_tree s (x ∷ items) item n (inr one) stays = inr (one.0, one.1, same_tree (after_item s x) items item one.0 one.2 stays)

pub one_change : (s : State) (items : List Item) (item : Item) (n : ℕ) → ChangesTreeAtMost s items n → ChangesTreeAtMost s (items ++ item ∷ []) (n + 1)
one_change s [] item n most = inr (n, refl, tt)
one_change s (x ∷ items) item n (inl own) = inl (own.0, one_change (after_item s x) items item n own.1)
one_change s (x ∷ items) item n (inr one) = inr (one.0 + 1, ap (λ k. k + 1) one.1, one_change (after_item s x) items item one.0 one.2)

-- ---- callers

pub same_caller : (who : Who) → same_who who who ≡ true
same_caller Who.Setup = refl
same_caller (Who.Thread n) = grind arith

-- ---- moved data

or_false : (a b : Bool) → (a || b) ≡ false → (a ≡ false) × (b ≡ false)
or_false true b is = cc
or_false false b is = (refl, is)

moved_more : (history : List Item) (item : Item) → has_moved (history ++ item ∷ []) ≡ (has_moved history || (moves_data item.call || false))
moved_more history item =
    ap (list_any moves_data) (map-append (λ (i : Item). i.call) history (item ∷ [])) ∙ list_any-append moves_data (map (λ (i : Item). i.call) history) (item.call ∷ [])

-- no call moved data, and so neither did the last one nor those before it
pub none_moved : (history : List Item) (item : Item) → has_moved (history ++ item ∷ []) ≡ false → (has_moved history ≡ false) × (moves_data item.call ≡ false)
none_moved history item none =
    let both = or_false (has_moved history) (moves_data item.call || false) (sym (moved_more history item) ∙ none) in
    (both.0, (or_false (moves_data item.call) false both.1).0)

or_left : (a b : Bool) → a ≡ true → (a || b) ≡ true
or_left true b is = refl
or_left false b is = cc

or_right : (a b : Bool) → b ≡ true → (a || b) ≡ true
or_right true b is = refl
or_right false b is = is

-- a history in which one moved data still has it
pub moved_still : (history : List Item) (item : Item) → has_moved history ≡ true → has_moved (history ++ item ∷ []) ≡ true
moved_still history item is = moved_more history item ∙ or_left (has_moved history) (moves_data item.call || false) is

pub moved_now : (history : List Item) (item : Item) → moves_data item.call ≡ true → has_moved (history ++ item ∷ []) ≡ true
moved_now history item is = moved_more history item ∙ or_right (has_moved history) (moves_data item.call || false) (or_left (moves_data item.call) false is)

-- a call that puts nothing is not logged
none_logged : (s : State) (who : Who) (call : Call) → put_by s who call ≡ None → is_logged s (who, call) ≡ false
none_logged s who call none = ap (λ (o : Option Put). option_map_or (is_logged_put s.mode s) o false) none

-- one that puts bytes moves data
pub put_moves : (s : State) (who : Who) (call : Call) (put : Put) → put_by s who call ≡ Some put → moves_data call ≡ true
unfolding put_by
put_moves s who (Call.Mkdir p) put is = cc
put_moves s who (Call.Rmdir p) put is = cc
put_moves s who (Call.Unlink p) put is = cc
put_moves s who (Call.Rename p q) put is = cc
put_moves s who (Call.Open h p f) put is = cc
put_moves s who (Call.Close h) put is = cc
put_moves s who (Call.Dup h g) put is = cc
put_moves s who (Call.Read h n) put is = cc
put_moves s who (Call.Pread h o n) put is = cc
put_moves s who (Call.Write h x) put is = refl
put_moves s who (Call.Pwrite h o x) put is = refl
put_moves s who (Call.Seek h w by) put is = cc
put_moves s who (Call.Truncate h n) put is = cc
put_moves s who (Call.Fsync h) put is = cc
put_moves s who (Call.Stat p) put is = cc
put_moves s who (Call.List p) put is = cc

pub logged_moves : (s : State) (who : Who) (call : Call) → is_logged s (who, call) ≡ true → moves_data call ≡ true
logged_moves s who call is = by (put_by s who call) refl where
  by : (o : Option Put) → put_by s who call ≡ o → moves_data call ≡ true
  by None none = (let never : true ≡ false = sym is ∙ none_logged s who call none in cc)
  by (Some put) some = put_moves s who call put some

-- ---- supplies

pub on_below : (given : ℕ) (p : Supply) → p.given ≡ Some given → is_on p ≡ true → p.taken < given
on_below given p is on = below p.taken given (sym (ap (λ g. is_left g p.taken) is) ∙ on) where
  below : (m n : ℕ) → nat_lt m n ≡ true → m < n
  below m n is = grind arith

pub off_past : (given : ℕ) (p : Supply) → p.given ≡ Some given → is_on p ≡ false → given ≤ p.taken
off_past given p is off = ltb-false p.taken given (sym (ap (λ g. is_left g p.taken) is) ∙ off)

-- at most as many steps as a greater number
pub Steps-more : (m n : ℕ) (a b : Supply) → m ≤ n → Steps m a b → Steps n a b
Steps-more m n a b least steps = record { given = steps.given; on_before = steps.on_before; later = steps.later; bound = omega (arith, steps.bound, least) }

-- ---- steps for the changes of the tree

-- a mode that is not POSIX mode's, of two states that are one
same_mode : (s t : State) → s ≡ t → s.mode ≢ Mode.Posix → t.mode ≢ Mode.Posix
same_mode s t same other posix = other (ap (λ (x : State). x.mode) same ∙ posix)

-- the same history, later, with no more steps ahead of their calls
pub tree_later : (first now after : Supply) (w v : WorldView) (early left given n : ℕ) → v.start ≡ w.start → v.history ≡ w.history → left ≤ early → Steps n now after → KeepsTree first now w early given → KeepsTree first after v left given
tree_later first now after w v early left given n start history fewer steps kept = record {
  changed = kept.changed;
  fewer = omega (arith, kept.fewer, steps.later, fewer);
  most = omega (arith, kept.most, fewer);
  each = λ mode. subst (λ (s : State). ChangesTreeAtMost s v.history kept.changed) (sym start)
      (subst (λ (h : List Item). ChangesTreeAtMost w.start h kept.changed) (sym history) (kept.each (same_mode v.start w.start start mode)));
}

-- the power went: a step was taken in which it did
pub tree_off : (first now after : Supply) (w v : WorldView) (early left given n : ℕ) → v.start ≡ w.start → v.history ≡ w.history → now.given ≡ Some given → is_on now ≡ true → is_on after ≡ false → left ≤ early + 1 → Steps n now after
    → KeepsTree first now w early given → KeepsTree first after v left given
tree_off first now after w v early left given n start history given_now on off one steps kept =
    let below = on_below given now given_now on in
    let past = off_past given after (steps.given ∙ given_now) off in
    record {
      changed = kept.changed;
      fewer = omega (arith, kept.fewer, below, past, one);
      most = omega (arith, kept.fewer, below, one);
      each = λ mode. subst (λ (s : State). ChangesTreeAtMost s v.history kept.changed) (sym start)
          (subst (λ (h : List Item). ChangesTreeAtMost w.start h kept.changed) (sym history) (kept.each (same_mode v.start w.start start mode)));
    }

-- a step more, ahead of its call
pub tree_ahead : (first now after : Supply) (w : WorldView) (early left given n : ℕ) → now.given ≡ Some given → is_on after ≡ true → left ≡ early + 1 → Steps n now after → TakesAStep now after → KeepsTree first now w early given
    → KeepsTree first after w left given
tree_ahead first now after w early left given n given_now on one steps takes kept =
    let more = takes given given_now in
    let below = on_below given after (steps.given ∙ given_now) on in
    record {
      changed = kept.changed;
      fewer = omega (arith, kept.fewer, more, one);
      most = omega (arith, kept.fewer, more, below, one);
      each = kept.each;
    }

module _ (first now after : Supply) (w v : WorldView) (item : Item) (early given n : ℕ) (start : v.start ≡ w.start) (history : v.history ≡ w.history ++ item ∷ []) (steps : Steps n now after) (kept : KeepsTree first now w early given) where
  most_by : (m : ℕ) → ChangesTreeAtMost w.start (w.history ++ item ∷ []) m → ChangesTreeAtMost v.start v.history m
  most_by m few = subst (λ (s : State). ChangesTreeAtMost s v.history m) (sym start) (subst (λ (h : List Item). ChangesTreeAtMost w.start h m) (sym history) few)

  -- the mode before
  mode_before : v.start.mode ≢ Mode.Posix → w.start.mode ≢ Mode.Posix
  mode_before = same_mode v.start w.start start

  -- one call more, of which no change of the tree is counted
  tree_stays : (w.start.mode ≢ Mode.Posix → tree (after_item (run w.start w.history) item) ≡ tree (run w.start w.history)) → KeepsTree first after v early given
  tree_stays stays = record {
    changed = kept.changed;
    fewer = omega (arith, kept.fewer, steps.later);
    most = kept.most;
    each = λ mode. most_by kept.changed (same_tree w.start w.history item kept.changed (kept.each (mode_before mode)) (stays (mode_before mode)));
  }

  -- one call more, which left the tree or took a step, outside POSIX mode
  pub tree_more : now.given ≡ Some given → is_on after ≡ true → (w.start.mode ≢ Mode.Posix → (tree (after_item (run w.start w.history) item) ≡ tree (run w.start w.history)) ⊎ TakesAStep now after) → KeepsTree first after v early given
  tree_more given_now on spent = by w.start.mode refl where
    by_spent : (tree (after_item (run w.start w.history) item) ≡ tree (run w.start w.history)) ⊎ TakesAStep now after → KeepsTree first after v early given
    by_spent (inl stays) = tree_stays (λ mode. stays)
    by_spent (inr takes) =
        let more = takes given given_now in
        let below = on_below given after (steps.given ∙ given_now) on in
        record {
          changed = kept.changed + 1;
          fewer = omega (arith, kept.fewer, more);
          most = omega (arith, kept.fewer, more, below);
          each = λ mode. most_by (kept.changed + 1) (one_change w.start w.history item kept.changed (kept.each (mode_before mode)));
        }

    by : (mode : Mode) → w.start.mode ≡ mode → KeepsTree first after v early given
    by Mode.Strict is = by_spent (spent (λ posix. let never : Mode.Strict ≡ Mode.Posix = sym is ∙ posix in cc))
    by Mode.Sync is = by_spent (spent (λ posix. let never : Mode.Sync ≡ Mode.Posix = sym is ∙ posix in cc))
    by Mode.Posix is = tree_stays (λ other. absurd (other is))

  -- one call more, whose step was taken ahead of it
  pub tree_paid : (left : ℕ) → early ≡ left + 1 → KeepsTree first after v left given
  tree_paid left one = record {
    changed = kept.changed + 1;
    fewer = omega (arith, kept.fewer, steps.later, one);
    most = omega (arith, kept.most, one);
    each = λ mode. most_by (kept.changed + 1) (one_change w.start w.history item kept.changed (kept.each (mode_before mode)));
  }

-- ---- a given number of steps

weaker : (s : State) (items : List Item) (n k : ℕ) → ChangesTreeAtMost s items n → n ≤ k → ChangesTreeAtMost s items k
weaker s [] n k most least = tt
weaker s (x ∷ items) n k (inl own) least = inl (own.0, weaker (after_item s x) items n k own.1 least)
weaker s (x ∷ items) n k (inr one) least = inr (k - 1, omega (arith, one.1, least), weaker (after_item s x) items one.0 (k - 1) one.2 (omega (arith, one.1, least)))

pub keeps_given : KeepsGiven
keeps_given first now w early given kept mode = weaker w.start w.history kept.changed given (kept.each mode) (let most = kept.most in omega (arith, most))
