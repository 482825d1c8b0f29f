-- A schedule of one thread that runs to its end gives the calls of its script, in their order.
use Rattle.std.specs.Prelude.{◌≡◌, ℕ, zero, suc, ◌+◌, List, [], ◌∷◌, ◌++◌, length, map, filter, drop, Some, slice_get, refl}
use Rattle.std.proofs.Common.{arith, ap, ◌∙◌, sym, subst}
use Rattle.std.proofs.lemmas.List.{drop_all, drop_more, length-append}
use Rattle.std.proofs.lemmas.List.Elements.{filter-append}
use Rattle.std.proofs.lemmas.Option.{get_or_from_slice_get, slice_get_within}
use Rattle.posix_laws.specs.posix_types.declared.call.Call.{Call}
use Rattle.posix_laws.specs.posix_types.declared.call.Who.{Who}
use Rattle.posix_laws.specs.posix_types.declared.item.Item.{Item}
use Rattle.posix_laws.specs.posix_tables.Open.{same_who}
use Rattle.posix_laws.specs.posix_spec.Run.{Unfinished}
use Rattle.posix_laws.specs.posix_spec.Scripted.{items_of, next_call, ScriptedAfter}
use Rattle.posix_laws.specs.posix_spec.State.{State}
use Rattle.crash_spec.specs.Laws.{on_one_thread, one_script}
use Rattle.crash_spec.proofs.MachineLaws.{Follows-Scheduled}
use Rattle.crash_spec.specs.Orders.{Order}
use Rattle.crash_spec.specs.Schedules.{Scheduled}

-- all items are the thread's own
AreOwn : List Item → Type 0
AreOwn items = items_of items (Who.Thread 0) ≡ items

own_more : (items : List Item) (item : Item) → AreOwn items → item.who ≡ Who.Thread 0 → AreOwn (items ++ item ∷ [])
unfolding AreOwn
own_more items item own is =
    filter-append (λ (i : Item). same_who i.who (Who.Thread 0)) items (item ∷ [])
    ∙ ap (λ (xs : List Item). xs ++ items_of (item ∷ []) (Who.Thread 0)) own
    ∙ ap (λ (w : Who). items ++ filter (λ (i : Item). same_who w (Who.Thread 0)) (item ∷ [])) is

-- a next call is the thread's
own_call : (calls : List Call) (past : List Item) (who : Who) (call : Call) → AreOwn past → next_call (one_script calls) past who ≡ Some call
    → (who ≡ Who.Thread 0) × (slice_get calls (length past) ≡ Some call)
unfolding AreOwn
own_call calls past Who.Setup call own next = cc
own_call calls past (Who.Thread zero) call own next = (refl, subst (λ (xs : List Item). slice_get calls (length xs) ≡ Some call) own next)
own_call calls past (Who.Thread (suc n)) call own next = cc

in_order : (calls : List Call) (past items : List Item) → AreOwn past → ScriptedAfter (one_script calls) past items → length past + length items ≡ length calls
    → map (λ (item : Item). item.call) items ≡ drop (length past) calls
in_order calls past [] own scripted size = sym (drop_all (length past) calls (omega (arith, size)))
in_order calls past (item ∷ items) own scripted size =
    let mine = own_call calls past item.who item.call own scripted.0.call in
    let longer : length (past ++ item ∷ []) ≡ length past + 1 = length-append past (item ∷ []) in
    let rest = in_order calls (past ++ item ∷ []) items (own_more past item own mine.0) scripted.1 (omega (arith, longer, size)) in
    let here = drop_more calls (length past) item.call (slice_get_within calls (length past) item.call mine.1) in
    ap (λ (xs : List Call). item.call ∷ xs) (rest ∙ ap (λ n. drop n calls) longer)
    ∙ ap (λ (call : Call). call ∷ drop (length past + 1) calls) (sym (get_or_from_slice_get calls (length past) item.call item.call mine.1))
    ∙ sym here

pub OneThread-Scheduled : (start : State) (calls : List Call) (lines : ℕ) (order : Order) (events : ℕ) (history : List Item) (unfinished : List Unfinished)
    → Scheduled (on_one_thread start calls lines) order events history unfinished → length history ≡ length calls → map (λ (item : Item). item.call) history ≡ calls
unfolding AreOwn
OneThread-Scheduled start calls lines order events history unfinished is size =
    in_order calls [] history refl (Follows-Scheduled (on_one_thread start calls lines) order events history unfinished is).scripted (omega (arith, size))
