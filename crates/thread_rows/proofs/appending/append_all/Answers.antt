-- One number more was appended, or there was no memory for it.
use Rattle.std.proofs.Common.{◌≡◌, ◌∙◌, ◌+◌, ◌∷◌, ◌++◌, [], List, ℕ, Bool, cond, ap, sym, add-one, append-nil}
use Rattle.std.specs.List.{range_with_len}
use Rattle.ruled_turn.specs.Passes.{outside_pass, PassView}
use Rattle.thread_rows.specs.Entries.{Entries, own}
use Rattle.thread_rows.specs.declared.entries.Own.{Own}
use Rattle.thread_rows.proofs.Pushes.{range_push}
use Rattle.thread_rows.proofs.appending.append_all.Goals as goal

pub returns-then-not-append : goal.returns-then-not-append
returns-then-not-append g c =
    let done : List ℕ = range_with_len c.args.first c.loop-k.k in
    let pass : List ℕ → PassView Entries Own = λ l. outside_pass c.args.turn.now.id c.args.number (own l) in
    let entry : ℕ = c.args.first + c.loop-k.k in
    let new : c.append.new.pass ≡ pass (done ++ cond c.append.result (entry ∷ []) []) = c.append.ensures c.args.number done c.loop-k.invariant in
    new ∙ (ap (λ (b : Bool). pass (done ++ cond b (entry ∷ []) [])) c.if-not-append.true ∙ ap pass (append-nil done))

pub loop-k-preserved : goal.loop-k-preserved
loop-k-preserved g c =
    let done : List ℕ = range_with_len c.args.first c.loop-k.k in
    let pass : List ℕ → PassView Entries Own = λ l. outside_pass c.args.turn.now.id c.args.number (own l) in
    let entry : ℕ = c.args.first + c.loop-k.k in
    let new : c.append.new.pass ≡ pass (done ++ cond c.append.result (entry ∷ []) []) = c.append.ensures c.args.number done c.loop-k.invariant in
    let more : done ++ entry ∷ [] ≡ range_with_len c.args.first (c.loop-k.k + 1) = range_push c.args.first c.loop-k.k ∙ ap (range_with_len c.args.first) (sym (add-one c.loop-k.k)) in
    new ∙ (ap (λ (b : Bool). pass (done ++ cond b (entry ∷ []) [])) c.if-not-append.false ∙ ap pass more)
