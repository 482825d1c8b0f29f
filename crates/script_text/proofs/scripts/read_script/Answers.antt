use Rattle.std.proofs.Common.{◌≡◌, ◌∙◌, ◌≤◌, ◌∷◌, ap, arith, below_more, length, List, sym, take, drop}
use Rattle.std.proofs.lemmas.Bool.{eqb-true}
use Rattle.std.proofs.lemmas.List.{take_all}
use Rattle.script_text.specs.declared.kinds.Kind.{Kind}
use Rattle.script_text.specs.Scripts.{kinds_of, scripts_in}
use Rattle.script_text.proofs.FirstBad.{first_bad-none, first_bad-some}
use Rattle.script_text.proofs.LinesRead.{all_read, bad_line-short, breaks_at-next, first_kind, next_kind, no_kinds}
use Rattle.script_text.proofs.scripts.read_script.Goals as goal

pub returns-then-breaks-clause-bad : goal.returns-then-breaks-clause-bad
returns-then-breaks-clause-bad c =
    let kinds : List Kind = kinds_of c.args.bytes.now in
    let first = first_kind c.loop-rest.rest.now c.split_line.result.0.now c.split_line.result.1.now c.split_line.ensures.texts in
    let cons : drop c.loop-rest.line kinds ≡ c.in_ok-kind.kind ∷ kinds_of c.split_line.result.1.now =
    c.loop-rest.invariant.rest ∙ first ∙ ap (λ (kind : Kind). kind ∷ kinds_of c.split_line.result.1.now) (sym c.in_ok-kind.ensures) in
    let next = next_kind kinds (kinds_of c.split_line.result.1.now) c.loop-rest.line c.in_ok-kind.kind cons in
    bad_line-short c.args.bytes.now c.if-bytes-gt-LONGEST_SCRIPT.false
    ∙ first_bad-some kinds c.loop-rest.line next.within c.loop-rest.invariant.good
    (breaks_at-next kinds _ c.loop-rest.line c.in_ok-kind.kind c.loop-rest.reading _ next c.loop-rest.invariant.reached (sym c.breaks.ensures ∙ c.if-breaks.true))

pub loop-rest-preserved : goal.loop-rest-preserved
loop-rest-preserved c =
    let kinds : List Kind = kinds_of c.args.bytes.now in
    let first = first_kind c.loop-rest.rest.now c.split_line.result.0.now c.split_line.result.1.now c.split_line.ensures.texts in
    let cons : drop c.loop-rest.line kinds ≡ c.in_ok-kind.kind ∷ kinds_of c.split_line.result.1.now =
    c.loop-rest.invariant.rest ∙ first ∙ ap (λ (kind : Kind). kind ∷ kinds_of c.split_line.result.1.now) (sym c.in_ok-kind.ensures) in
    let next = next_kind kinds (kinds_of c.split_line.result.1.now) c.loop-rest.line c.in_ok-kind.kind cons in
    let good = breaks_at-next kinds _ c.loop-rest.line c.in_ok-kind.kind c.loop-rest.reading _ next c.loop-rest.invariant.reached (sym c.breaks.ensures ∙ c.if-breaks.false) in
    record {
      rest = next.behind;
      good = below_more _ _ c.loop-rest.invariant.good good;
      reached = rw next.before (c.in_ok-take.ensures (take c.loop-rest.line kinds) c.loop-rest.invariant.reached);
      few = omega (arith, c.split_line.ensures.shorter, c.loop-rest.invariant.few);
    }

pub returns-clause-ok : goal.returns-clause-ok
returns-clause-ok c =
    let kinds : List Kind = kinds_of c.args.bytes.now in
    let none = c.loop-rest.invariant.rest ∙ no_kinds c.loop-rest.rest.now (eqb-true _ 0 (sym c.is_empty.ensures ∙ c.loop-rest-test.false)) in
    let all : take c.loop-rest.line kinds ≡ kinds = take_all c.loop-rest.line kinds (all_read kinds c.loop-rest.line none) in
    c.in_ok-scripts.ensures (take c.loop-rest.line kinds) c.loop-rest.invariant.reached ∙ ap scripts_in all

pub returns-clause-sound : goal.returns-clause-sound
returns-clause-sound c =
    let kinds : List Kind = kinds_of c.args.bytes.now in
    let none = c.loop-rest.invariant.rest ∙ no_kinds c.loop-rest.rest.now (eqb-true _ 0 (sym c.is_empty.ensures ∙ c.loop-rest-test.false)) in
    let long : length kinds ≤ c.loop-rest.line = all_read kinds c.loop-rest.line none in
    bad_line-short c.args.bytes.now c.if-bytes-gt-LONGEST_SCRIPT.false
    ∙ first_bad-none kinds (λ j lt. c.loop-rest.invariant.good j (omega arith))
