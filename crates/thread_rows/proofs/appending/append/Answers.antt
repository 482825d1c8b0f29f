-- The list has the entry behind what it had, and so has the view of the pass.
use Rattle.std.proofs.Common.{◌≡◌, ◌∙◌, ◌∷◌, ◌++◌, [], List, ℕ, Bool, cond, ap, sym, length, drop}
use Rattle.std.specs.Result.{is_ok}
use Rattle.ruled_turn.specs.Passes.{entered, outside_pass, PassView}
use Rattle.thread_rows.specs.EntryLaws.{drop_front}
use Rattle.thread_rows.specs.Entries.{Entries, next_view, own}
use Rattle.thread_rows.specs.declared.entries.Own.{Own}
use Rattle.thread_rows.proofs.Pushes.{one_more_or_none}
use Rattle.thread_rows.proofs.appending.append.Goals as goal

pub leave-requires-clause-may : goal.leave-requires-clause-may
leave-requires-clause-may g c =
    let old = c.requires in
    let x : Entries = c.enter-list.result in
    let pass : c.enter-list.new.pass ≡ entered (outside_pass c.args.turn.now.id old.0 (own old.1)) x = c.enter-list.ensures.pass ∙ ap (λ (p : PassView Entries Own). entered p x) old.2 in (
      old.0,
      own old.1,
      x,
      ap (λ (p : PassView Entries Own). p.carried) pass,
      ap (λ (p : PassView Entries Own). p.inside) pass,
      (cond (is_ok c.push.result) (c.args.entry ∷ []) [], c.push.ensures.items ∙ one_more_or_none (is_ok c.push.result) x.items c.args.entry),
    )

pub returns : goal.returns
returns g c = λ i entries is.
    let x : Entries = c.enter-list.result in
    let y : Entries = c.push.new.self in
    let more : List ℕ = cond c.is_ok-done.result (c.args.entry ∷ []) [] in
    let pass : c.enter-list.new.pass ≡ entered (outside_pass c.args.turn.now.id i (own entries)) x = c.enter-list.ensures.pass ∙ ap (λ (p : PassView Entries Own). entered p x) is in
    let items : y.items ≡ x.items ++ more =
    c.push.ensures.items ∙ (one_more_or_none (is_ok c.push.result) x.items c.args.entry ∙ ap (λ (b : Bool). x.items ++ cond b (c.args.entry ∷ []) []) (sym c.is_ok-done.ensures.value)) in
    let behind : drop (length x.items) y.items ≡ more = ap (drop (length x.items)) items ∙ drop_front x.items more in
    let left = c.leave.ensures i (own entries) x (ap (λ (p : PassView Entries Own). p.carried) pass) (ap (λ (p : PassView Entries Own). p.inside) pass) in
    left
    ∙ (ap (λ (p : PassView Entries Own). outside_pass p.turn i (next_view (own entries) x y)) pass ∙ ap (λ (l : List ℕ). outside_pass c.args.turn.now.id i (own (entries ++ l))) behind)
