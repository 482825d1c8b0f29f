-- What effects say of the calls that they are of.
use Rattle.std.specs.Prelude.{◌≡◌, ◌⊎◌, ℕ, zero, suc, ◌+◌, ◌<◌, ◌≤◌, Bool, true, false, cond, ◌&&◌, ◌||◌, ◌==◌, nat_lt, nat_le, List, [], ◌∷◌, ◌++◌, length, take, Option, Some, None, slice_get, unwrap_or, refl}
use Rattle.std.proofs.Common.{arith, get_or, ap, ◌∙◌, sym, subst, inl, inr}
use Rattle.std.proofs.lemmas.Bool.Decides.{nat_tests}
use Rattle.std.proofs.lemmas.List.{get_or_past, take_more}
use Rattle.posix_tables.specs.declared.nodes.Node.{Node}
use Rattle.posix_tables.specs.Nodes.{bytes_of, node_at}
use Rattle.crash_spec.specs.posix_spec.Put.{Put, put_by}
use Rattle.crash_spec.specs.posix_spec.Run.{after_call, after_calls, Unfinished}
use Rattle.crash_spec.specs.posix_spec.State.{State}
use Rattle.crash_spec.specs.Posix.{IsLastOrAny, OrUnfinished, Overwritten}
use Rattle.crash_spec.specs.Values.{ends_before, is_shortened, IsOneOf, last_of, shortens, value_of, value_put, values_put, with_value}
use Rattle.crash_judge.specs.declared.judge_bytes.effects.Cut.{Cut}
use Rattle.crash_judge.specs.declared.judge_bytes.effects.Effect.{Effect}
use Rattle.crash_judge.specs.Effects.{any_cuts, any_puts, AreCuts, AreEffects, cut_of, EffectRule, in_cut, is_cut, is_value, IsEffect, newest}

-- ---- cuts

none_there : (b : Bool) → (b && false) ≡ false
none_there true = refl
none_there false = refl

nothing_between : (i from : ℕ) → (nat_lt i from && nat_le from i) ≡ false
nothing_between i from = grind (arith, nat_tests)

cut_node : (before after : Node) (i : ℕ) → in_cut (Some (cut_of before after)) i ≡ (nat_lt i (length (bytes_of before)) && ends_before after i)
cut_node before Node.Gone i = nothing_between i (length (bytes_of before)) ∙ sym (none_there (nat_lt i (length (bytes_of before))))
cut_node before Node.Directory i = nothing_between i (length (bytes_of before)) ∙ sym (none_there (nat_lt i (length (bytes_of before))))
cut_node before (Node.File file) i = refl

no_byte : (nodes : List Node) (n i : ℕ) (b : Bool) → length nodes ≤ n → (nat_lt i (length (bytes_of (node_at nodes n))) && b) ≡ false
no_byte nodes n i b past = ap (λ (node : Node). nat_lt i (length (bytes_of node)) && b) (get_or_past nodes n Node.Gone past) ∙ ap (λ a. a && b) below_none
  where
    below_none : nat_lt i 0 ≡ false
    below_none = grind (arith, nat_tests)

past_end : (cuts : List Cut) (n : ℕ) → slice_get cuts n ≡ None → length cuts ≤ n
past_end [] n none = omega arith
past_end (cut ∷ cuts) zero none = cc
past_end (cut ∷ cuts) (suc n) none = let rest = past_end cuts n none in omega (arith, rest)

pub cuts_are : (before after : List Node) (cuts : List Cut) → AreCuts before after cuts → (n i : ℕ)
    → is_cut cuts n i ≡ (nat_lt i (length (bytes_of (node_at before n))) && ends_before (node_at after n) i)
cuts_are before after cuts are n i = by (slice_get cuts n) refl where
  by : (o : Option Cut) → slice_get cuts n ≡ o → in_cut o i ≡ (nat_lt i (length (bytes_of (node_at before n))) && ends_before (node_at after n) i)
  by None is =
      let past : length before ≤ n = (let size = are.size in let end = past_end cuts n is in omega arith) in
      sym (no_byte before n i (ends_before (node_at after n) i) past)
  by (Some cut) is = ap (λ (c : Cut). in_cut (Some c) i) (are.each n cut is) ∙ cut_node (node_at before n) (node_at after n) i

pub effect_is : (s next : State) (c : Unfinished) (e : Effect) (before after : List Node) → next ≡ after_call s c → e.put ≡ put_by s c.0 c.1 → before ≡ s.nodes → after ≡ next.nodes
    → AreCuts before after e.cuts.items → IsEffect s c e
effect_is s next c e before after next_is put old new are = record { put = put; cuts = cuts } where
  nodes_are : AreCuts s.nodes (after_call s c).nodes e.cuts.items
  nodes_are = subst (λ (ns : List Node). AreCuts s.nodes ns e.cuts.items) (new ∙ ap (λ (m : State). m.nodes) next_is) (subst (λ (ns : List Node). AreCuts ns after e.cuts.items) old are)

  cuts : (n i : ℕ) → is_cut e.cuts.items n i ≡ shortens s c n i
  cuts n i = cuts_are s.nodes (after_call s c).nodes e.cuts.items nodes_are n i

-- ---- lists of effects

after_calls-push : (s : State) (calls : List Unfinished) (c : Unfinished) → after_calls s (calls ++ c ∷ []) ≡ after_call (after_calls s calls) c
after_calls-push s [] c = refl
after_calls-push s (d ∷ calls) c = after_calls-push (after_call s d) calls c

pub AreEffects-push : (s : State) (calls : List Unfinished) (effects : List Effect) (c : Unfinished) (e : Effect) → AreEffects s calls effects → IsEffect (after_calls s calls) c e
    → AreEffects s (calls ++ c ∷ []) (effects ++ e ∷ [])
AreEffects-push s [] [] c e are is = (is, tt)
AreEffects-push s [] (f ∷ effects) c e are is = absurd are
AreEffects-push s (d ∷ calls) [] c e are is = absurd are
AreEffects-push s (d ∷ calls) (f ∷ effects) c e are is = (are.0, AreEffects-push (after_call s d) calls effects c e are.1 is)

-- one more call of a list, with its effect
pub effects_more : (s at next : State) (calls : List Unfinished) (i : ℕ) (c : Unfinished) (effects new : List Effect) (e : Effect) → i < length calls → c ≡ get_or calls i c
    → AreEffects s (take i calls) effects → at ≡ after_calls s (take i calls) → next ≡ after_call at c → IsEffect at c e → new ≡ effects ++ e ∷ []
    → AreEffects s (take (i + 1) calls) new × (next ≡ after_calls s (take (i + 1) calls))
effects_more s at next calls i c effects new e below is are at_is next_is effect new_is =
    let longer : take (i + 1) calls ≡ take i calls ++ c ∷ [] = take_more calls i c below ∙ ap (λ (d : Unfinished). take i calls ++ d ∷ []) (sym is) in
    let here : IsEffect (after_calls s (take i calls)) c e = subst (λ (m : State). IsEffect m c e) at_is effect in
    let pushed = AreEffects-push s (take i calls) effects c e are here in (
      subst (λ (xs : List Unfinished). AreEffects s xs new) (sym longer) (subst (λ (es : List Effect). AreEffects s (take i calls ++ c ∷ []) es) (sym new_is) pushed),
      next_is ∙ ap (λ (m : State). after_call m c) at_is ∙ sym (after_calls-push s (take i calls) c) ∙ ap (λ (xs : List Unfinished). after_calls s xs) (sym longer),
    )

-- a call shortens a file exactly where its effect does
cut_same : (s : State) (calls : List Unfinished) (effects : List Effect) (n i : ℕ) → AreEffects s calls effects → any_cuts effects n i ≡ is_shortened s calls n i
unfolding is_shortened
cut_same s [] [] n i are = refl
cut_same s [] (e ∷ effects) n i are = absurd are
cut_same s (c ∷ calls) [] n i are = absurd are
cut_same s (c ∷ calls) (e ∷ effects) n i are = λ k. are.0.cuts n i k || cut_same (after_call s c) calls effects n i are.1 k

value_same : (s : State) (c : Unfinished) (e : Effect) (n i : ℕ) → IsEffect s c e → value_of e.put n i ≡ value_put s c n i
value_same s c e n i is = ap (λ (o : Option Put). value_of o n i) is.put

-- the last value is that of the effects
newest_same : (s : State) (calls : List Unfinished) (effects : List Effect) (n i v : ℕ) → AreEffects s calls effects → newest effects n i v ≡ last_of v (values_put s calls n i)
unfolding values_put
newest_same s [] [] n i v are = refl
newest_same s [] (e ∷ effects) n i v are = absurd are
newest_same s (c ∷ calls) [] n i v are = absurd are
newest_same s (c ∷ calls) (e ∷ effects) n i v are =
    ap (λ (o : Option ℕ). newest effects n i (unwrap_or o v)) (value_same s c e n i are.0)
    ∙ newest_same (after_call s c) calls effects n i (unwrap_or (value_put s c n i) v) are.1
    ∙ by (value_put s c n i)
  where
    by : (o : Option ℕ) → last_of (unwrap_or o v) (values_put (after_call s c) calls n i) ≡ last_of v (with_value o (values_put (after_call s c) calls n i))
    by None = refl
    by (Some y) = refl

same_number : (a b : ℕ) → (a == b) ≡ true → b ≡ a
same_number a b is = grind (arith, nat_tests)

number_same : (a b : ℕ) → b ≡ a → (a == b) ≡ true
number_same a b is = grind (arith, nat_tests)

-- a value is put exactly where an effect puts it
put_is_one : (s : State) (calls : List Unfinished) (effects : List Effect) (n i x : ℕ) → AreEffects s calls effects → any_puts effects n i x ≡ true → IsOneOf (values_put s calls n i) x
unfolding values_put
put_is_one s [] [] n i x are is = cc
put_is_one s [] (e ∷ effects) n i x are is = absurd are
put_is_one s (c ∷ calls) [] n i x are is = absurd are
put_is_one s (c ∷ calls) (e ∷ effects) n i x are is =
    by (value_put s c n i) (put_is_one (after_call s c) calls effects n i x are.1) (ap (λ (o : Option ℕ). is_value o x || any_puts effects n i x) (sym (value_same s c e n i are.0)) ∙ is)
  where
    by : (o : Option ℕ) → (any_puts effects n i x ≡ true → IsOneOf (values_put (after_call s c) calls n i) x) → (is_value o x || any_puts effects n i x) ≡ true
        → IsOneOf (with_value o (values_put (after_call s c) calls n i)) x
    by None rest is' = rest is'
    by (Some y) rest is' = either (y == x) refl rest is' where
      either : (b : Bool) → (y == x) ≡ b → (any_puts effects n i x ≡ true → IsOneOf (values_put (after_call s c) calls n i) x) → (b || any_puts effects n i x) ≡ true
          → (x ≡ y) ⊎ IsOneOf (values_put (after_call s c) calls n i) x
      either true same rest' is'' = inl (same_number y x same)
      either false other rest' is'' = inr (rest' is'')

one_is_put : (s : State) (calls : List Unfinished) (effects : List Effect) (n i x : ℕ) → AreEffects s calls effects → IsOneOf (values_put s calls n i) x → any_puts effects n i x ≡ true
unfolding values_put
one_is_put s [] [] n i x are is = absurd is
one_is_put s [] (e ∷ effects) n i x are is = absurd are
one_is_put s (c ∷ calls) [] n i x are is = absurd are
one_is_put s (c ∷ calls) (e ∷ effects) n i x are is =
    ap (λ (o : Option ℕ). is_value o x || any_puts effects n i x) (value_same s c e n i are.0) ∙ by (value_put s c n i) (one_is_put (after_call s c) calls effects n i x are.1) is
  where
    or_true : (b a : Bool) → a ≡ true → (b || a) ≡ true
    or_true true a is' = refl
    or_true false a is' = is'

    true_or : (b a : Bool) → b ≡ true → (b || a) ≡ true
    true_or true a is' = refl
    true_or false a is' = cc

    by : (o : Option ℕ) → (IsOneOf (values_put (after_call s c) calls n i) x → any_puts effects n i x ≡ true) → IsOneOf (with_value o (values_put (after_call s c) calls n i)) x
        → (is_value o x || any_puts effects n i x) ≡ true
    by None rest is' = rest is'
    by (Some y) rest (inl same) = true_or (y == x) (any_puts effects n i x) (number_same y x same)
    by (Some y) rest (inr behind) = or_true (y == x) (any_puts effects n i x) (rest behind)

-- ---- the rule for bytes

abbrev pub here_may_be : Bool → ℕ → ℕ → Bool → ℕ → Bool
here_may_be cut v x put last = cond cut ((v == x) || put) (last == x)

rule_here : (cut : Bool) (v x : ℕ) (put : Bool) (values : List ℕ) → (put ≡ true → IsOneOf values x) → here_may_be cut v x put (last_of v values) ≡ true → IsLastOrAny cut v values x
rule_here true v x put values one is = by (v == x) refl is where
  by : (b : Bool) → (v == x) ≡ b → (b || put) ≡ true → IsOneOf (v ∷ values) x
  by true same is' = inl (same_number v x same)
  by false other is' = inr (one is')
rule_here false v x put values one is = same_number (last_of v values) x is

here_rule : (cut : Bool) (v x : ℕ) (put : Bool) (values : List ℕ) → (IsOneOf values x → put ≡ true) → IsLastOrAny cut v values x → here_may_be cut v x put (last_of v values) ≡ true
here_rule true v x put values one (inl same) = ap (λ b. b || put) (number_same v x same)
here_rule true v x put values one (inr behind) = ap (λ p. (v == x) || p) (one behind) ∙ last (v == x) where
  last : (b : Bool) → (b || true) ≡ true
  last true = refl
  last false = refl
here_rule false v x put values one is = number_same (last_of v values) x is

both_same : (effects : List Effect) (s : State) (calls : List Unfinished) (n i v x : ℕ) → AreEffects s calls effects
    → here_may_be (any_cuts effects n i) v x (any_puts effects n i x) (newest effects n i v)
    ≡ here_may_be (is_shortened s calls n i) v x (any_puts effects n i x) (last_of v (values_put s calls n i))
both_same effects s calls n i v x are = λ k. here_may_be (cut_same s calls effects n i are k) v x (any_puts effects n i x) (newest_same s calls effects n i v are k)

-- by the effects the same may be found as by the calls
pub effect_rule : (s u : State) (calls unfinished : List Unfinished) (effects extra : List Effect) → AreEffects s calls effects → AreEffects u unfinished extra → (n i v x : ℕ)
    → EffectRule effects extra n i v x → OrUnfinished (Overwritten s calls) u unfinished n i v x
effect_rule s u calls unfinished effects extra are others n i v x is =
    by (here_may_be (any_cuts effects n i) v x (any_puts effects n i x) (newest effects n i v)) refl is
  where
    by : (b : Bool) → here_may_be (any_cuts effects n i) v x (any_puts effects n i x) (newest effects n i v) ≡ b → (b || any_puts extra n i x) ≡ true
        → OrUnfinished (Overwritten s calls) u unfinished n i v x
    by true here is' = inl (rule_here (is_shortened s calls n i) v x (any_puts effects n i x) (values_put s calls n i) (put_is_one s calls effects n i x are)
        (sym (both_same effects s calls n i v x are) ∙ here))
    by false here is' = inr (put_is_one u unfinished extra n i x others is')

pub rule_effect : (s u : State) (calls unfinished : List Unfinished) (effects extra : List Effect) → AreEffects s calls effects → AreEffects u unfinished extra → (n i v x : ℕ)
    → OrUnfinished (Overwritten s calls) u unfinished n i v x → EffectRule effects extra n i v x
rule_effect s u calls unfinished effects extra are others n i v x (inl by_rule) =
    ap (λ b. b || any_puts extra n i x)
    (both_same effects s calls n i v x are ∙ here_rule (is_shortened s calls n i) v x (any_puts effects n i x) (values_put s calls n i) (one_is_put s calls effects n i x are) by_rule)
rule_effect s u calls unfinished effects extra are others n i v x (inr by_others) =
    ap (λ b. here_may_be (any_cuts effects n i) v x (any_puts effects n i x) (newest effects n i v) || b) (one_is_put u unfinished extra n i x others by_others)
    ∙ last (here_may_be (any_cuts effects n i) v x (any_puts effects n i x) (newest effects n i v))
  where
    last : (b : Bool) → (b || true) ≡ true
    last true = refl
    last false = refl
