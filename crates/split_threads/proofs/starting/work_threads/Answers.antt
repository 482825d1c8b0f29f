use Rattle.std.specs.Prelude.{◌≡◌, ℕ, true, false, List, None, length, slice_get, Some}
use Rattle.std.proofs.Common.{arith, subst, sym}
use Rattle.std.proofs.lemmas.List.{take_at}
use Rattle.ruled_turn.specs.Passes.{outside_pass}
use Rattle.thread_laws.specs.Hands.{HandView}
use Rattle.thread_laws.specs.declared.works.Worked.{Worked}
use Rattle.split_threads.specs.Backs.{AllMayStart, HaveComeBack}
use Rattle.split_threads.specs.Dealt.{HaveSeen}
use Rattle.split_threads.specs.declared.starting.Back.{Back}
use Rattle.split_threads.specs.declared.working.Own.{Own}
use Rattle.split_threads.proofs.Started.{all_start, may_look, none_worked, threads_worked}
use Rattle.split_threads.proofs.starting.work_threads.Goals as goal

pub show_all-requires : goal.show_all-requires
show_all-requires g c =
    let turn = c.args.shared.now.turn in
    subst (λ (os : List Own). (k : ℕ) (own : Own) → slice_get os k ≡ Some own → (i : ℕ) × (v : HandView) × (own.pass ≡ outside_pass turn.id i v) × (v.out ≡ None) × (v.begun ≡ None)) (sym c.as_mut_slice.ensures.value)
    (may_look c.requires.new.0 c.requires.new.1 turn c.args.shared.now.log c.requires.new.2.opened c.args.owns.items c.requires.new.2)

-- The workers that looked are those that the vector has.
pub start_all-requires-clause-may : goal.start_all-requires-clause-may
start_all-requires-clause-may g c κs within =
    let turn = c.args.shared.now.turn in
    let log = c.args.shared.now.log in
    let now = c.show_all.new.owns in
    let seen = subst (λ (os : List Own). HaveSeen turn os now true) c.as_mut_slice.ensures.value c.if-show_all.ensures in
    let count : length now ≡ c.args.owns.len = omega (arith, seen.count, c.args.owns.ok.0) in
    subst (λ (os : List Own). AllMayStart turn log os) (sym (take_at now _ c.args.owns.len count))
    (all_start c.requires.new.0 c.requires.new.1 turn log c.requires.new.2.opened c.args.owns.items now c.requires.new.2 seen)

pub returns-then-show_all-clause-backs : goal.returns-then-show_all-clause-backs
returns-then-show_all-clause-backs g c w power new =
    let turn = c.args.shared.now.turn in
    let log = c.args.shared.now.log in
    let now = c.show_all.new.owns in
    let seen = subst (λ (os : List Own). HaveSeen turn os now true) c.as_mut_slice.ensures.value c.if-show_all.ensures in
    let count : length now ≡ c.args.owns.len = omega (arith, seen.count, c.args.owns.ok.0) in
    let come = subst (λ (os : List Own). HaveComeBack turn log os c.start_all.result.items) (take_at now _ c.args.owns.len count) c.start_all.ensures.back in
    threads_worked w power turn log new.opened c.a_round_ends_as_it_may.ensures.worked c.args.owns.items now c.start_all.result.items new seen come

pub returns-else-show_all-clause-backs : goal.returns-else-show_all-clause-backs
returns-else-show_all-clause-backs g c w power new =
    let turn = c.args.shared.now.turn in
    let log = c.args.shared.now.log in
    let now = c.show_all.new.owns in
    let backs = c.none_started.result.items in
    let seen = subst (λ (os : List Own). HaveSeen turn os now false) c.as_mut_slice.ensures.value c.if-show_all.ensures in
    let count : length now ≡ c.args.owns.len = omega (arith, seen.count, c.args.owns.ok.0) in
    let same : length backs ≡ length now = omega (arith, count, c.none_started.ensures.count, c.none_started.result.ok.0) in
    let still = subst (λ (os : List Own). (k : ℕ) (b : Back) → slice_get backs k ≡ Some b → (slice_get os k ≡ Some b.own) × (b.worked ≡ Worked.Ended)) (take_at now _ c.args.owns.len count) c.none_started.ensures.each in
    none_worked w power turn log new.opened c.a_round_ends_as_it_may.ensures.still c.args.owns.items now backs new seen same still
