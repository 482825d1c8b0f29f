-- What is drawn of a generator that came so far.
use Rattle.std.proofs.Common.{◌≡◌, ◌+◌, ◌*◌, ℕ, List, [], ◌∷◌, ◌++◌, refl, sym, ◌∙◌, ap, arith, zero-add}
use Rattle.std.specs.Prelude.{map}
use Rattle.std.specs.List.{range_with_len}
use Rattle.std.proofs.lemmas.List.FromFn.{map-range_with_len_more}
use Rattle.posix_types.specs.declared.call.Call.{Call}
use Rattle.crash_spec.specs.Orders.{draw}
use Rattle.split_cases.specs.Drawn.{AreDrawn}
use Rattle.split_cases.specs.Load.{calls_by, load_call, load_calls, load_open, load_seed}

-- one more of a list
pub one_more : {A : Type 0} (f : ℕ → A) (old new : List A) (x : A) (t : ℕ) → old ≡ map f (range_with_len 0 t) → x ≡ f t → new ≡ old ++ x ∷ [] → new ≡ map f (range_with_len 0 (t + 1))
one_more f old new x t is here pushed =
    pushed ∙ ap (λ l. l ++ x ∷ []) is ∙ ap (λ y. map f (range_with_len 0 t) ++ y ∷ []) here ∙ sym (map-range_with_len_more f 0 t t (zero-add t))

-- one more call, by the next draw
pub drawn_more : (old far next n t r : ℕ) (calls : List Call) (call : Call) (more : List Call) → AreDrawn old far n t calls → r ≡ draw far 0 → ((k : ℕ) → draw next k ≡ draw far (k + 1)) → call ≡ load_call t r → more ≡ calls ++ call ∷ [] → AreDrawn old next (n + 1) t more
drawn_more old far next n t r calls call more so_far drawn after is pushed = record {
  calls_are =
      one_more (λ i. load_call t (draw old (0 + i))) calls more call n so_far.calls_are
      (is ∙ ap (load_call t) (drawn ∙ so_far.behind 0 ∙ (let same : n + 0 ≡ 0 + n = omega arith in ap (draw old) same))) pushed;
  behind = λ k. after k ∙ so_far.behind (k + 1) ∙ (let same : n + (k + 1) ≡ n + 1 + k = omega arith in ap (draw old) same);
}

same_map : (f g : ℕ → Call) (xs : List ℕ) → ((i : ℕ) → f i ≡ g i) → map f xs ≡ map g xs
same_map f g [] h = refl
same_map f g (x ∷ xs) h = ap (λ (call : Call). call ∷ map f xs) (h x) ∙ ap (λ (calls : List Call). g x ∷ calls) (same_map f g xs h)

-- the calls by a generator that came so far are those from there on
calls-further : (draws seed far n t : ℕ) → ((k : ℕ) → draw draws k ≡ draw seed (far + k)) → calls_by draws 0 n t ≡ calls_by seed far n t
calls-further draws seed far n t so_far =
    same_map (λ i. load_call t (draw draws (0 + i))) (λ i. load_call t (draw seed (far + i))) (range_with_len 0 n)
    (λ i. ap (load_call t) (so_far (0 + i) ∙ (let same : far + (0 + i) ≡ far + i = omega arith in ap (draw seed) same)))

-- the lists of the threads so far, and the generator behind them
pub record AreListed (n threads t draws : ℕ) (lists : List (List Call)) : Type 0 where
  pub lists_are : lists ≡ map (load_calls n threads) (range_with_len 0 t)
  pub behind : (k : ℕ) → draw draws k ≡ draw (load_seed n threads) (n * t + k)

pub none_listed : (n threads draws : ℕ) → draws ≡ load_seed n threads → AreListed n threads 0 draws []
none_listed n threads draws is = record { lists_are = refl; behind = λ k. ap (λ s. draw s k) is ∙ (let same : k ≡ n * 0 + k = omega arith in ap (draw (load_seed n threads)) same) }

pub listed_more : (n threads t draws next : ℕ) (lists : List (List Call)) (calls : List Call) (more : List (List Call)) → AreListed n threads t draws lists → AreDrawn draws next n t calls → more ≡ lists ++ calls ∷ [] → AreListed n threads (t + 1) next more
listed_more n threads t draws next lists calls more so_far drawn pushed = record {
  lists_are =
      one_more (load_calls n threads) lists more calls t so_far.lists_are
      (drawn.calls_are ∙ calls-further draws (load_seed n threads) (n * t) n t so_far.behind) pushed;
  behind = λ k. drawn.behind k ∙ so_far.behind (n + k) ∙ (let same : n * t + (n + k) ≡ n * (t + 1) + k = omega arith in ap (draw (load_seed n threads)) same);
}
