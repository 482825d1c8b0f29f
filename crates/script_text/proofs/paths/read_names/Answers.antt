use Rattle.std.proofs.Common.{drop, ◌+◌, ◌≡◌, ◌∙◌, ◌++◌, ◌∷◌, [], ◌<◌, List, ℕ, ap, sym, arith, length, true, take, Some}
use Rattle.std.specs.List.{list_all}
use Rattle.layout_model.specs.Spelling.{is_spelled}
use Rattle.script_text.specs.Words.{parts_by}
use Rattle.script_text.proofs.Parts.{bad_name, last_name, next_name, spelled_more}
use Rattle.script_text.proofs.paths.read_names.Goals as goal

pub returns-then-not-is_spelled : goal.returns-then-not-is_spelled
returns-then-not-is_spelled c =
    bad_name c.args.text.now c.loop-rest.rest.now c.loop-rest.names.items c.length_before-end.result c.loop-rest.invariant.parts c.length_before-end.ensures.within c.length_before-end.ensures.before c.length_before-end.ensures.stops
    (sym (ap is_spelled c.front-name.ensures) ∙ sym c.is_spelled.ensures ∙ c.if-not-is_spelled.true)

pub returns-then-end-rest : goal.returns-then-end-rest
returns-then-end-rest c =
    let name = c.in_ok-bytes.ensures.items ∙ c.front-name.ensures in
    let items = c.in_ok-push.ensures.items ∙ ap (λ (n : List ℕ). c.loop-rest.names.items ++ n ∷ []) name in
    let spelled : is_spelled (take c.length_before-end.result c.loop-rest.rest.now) ≡ true =
    sym (ap is_spelled c.front-name.ensures) ∙ sym c.is_spelled.ensures ∙ c.if-not-is_spelled.false in
    ap Some items
    ∙ last_name c.args.text.now c.loop-rest.rest.now c.loop-rest.names.items c.length_before-end.result c.loop-rest.invariant.parts c.if-end-rest.true c.length_before-end.ensures.before
    (spelled_more c.loop-rest.names.items _ c.loop-rest.invariant.spelled spelled)

pub loop-rest-preserved : goal.loop-rest-preserved
loop-rest-preserved c =
    let name = c.in_ok-bytes.ensures.items ∙ c.front-name.ensures in
    let items = c.in_ok-push.ensures.items ∙ ap (λ (n : List ℕ). c.loop-rest.names.items ++ n ∷ []) name in
    let spelled : is_spelled (take c.length_before-end.result c.loop-rest.rest.now) ≡ true =
    sym (ap is_spelled c.front-name.ensures) ∙ sym c.is_spelled.ensures ∙ c.if-not-is_spelled.false in
    let lt : c.length_before-end.result < length c.loop-rest.rest.now = omega (arith, c.length_before-end.ensures.within, c.if-end-rest.false) in
    record {
      parts =
          next_name c.args.text.now c.loop-rest.rest.now c.loop-rest.names.items c.length_before-end.result c.loop-rest.invariant.parts lt c.length_before-end.ensures.before (c.length_before-end.ensures.stops lt)
          ∙ ap (λ (n : List (List ℕ)). n ++ parts_by 47 (drop (c.length_before-end.result + 1) c.loop-rest.rest.now)) (sym items)
          ∙ ap (λ (n : List ℕ). c.push.new.self.items ++ parts_by 47 n) (sym c.behind-rest.ensures);
      spelled = ap (list_all is_spelled) items ∙ spelled_more c.loop-rest.names.items _ c.loop-rest.invariant.spelled spelled;
    }
