use Rattle.std.specs.Prelude.{List}
use Rattle.std.proofs.Common.{ap, ◌∙◌}
use Rattle.std.proofs.lemmas.Result.{IfOk-weaker}
use Rattle.posix_laws.specs.posix_types.declared.tree.TreeEntry.{TreeEntry}
use Rattle.crash_judge.specs.Parts.{all_toward}
use Rattle.crash_judge.specs.Wanted.{wanted}
use Rattle.crash_judge.proofs.PartLaws.{lead_decided}
use Rattle.crash_judge.proofs.judging.parts.lead_to.Goals as goal

pub returns : goal.returns
returns c =
    IfOk-weaker c.has_tree.result _ _
    (λ b is. lead_decided c.args.state.now c.args.calls.now c.deref.result.now c.args.left.now c.in_ok-end.end b
    (c.deref.ensures.value ∙ c.in_ok-numbers.ensures)
    (c.in_ok-end.ensures ∙ ap (λ (l : List TreeEntry). all_toward (wanted c.deref.result.now l) c.args.state.now c.args.calls.now) (c.deref-2.ensures.value ∙ c.left.view_is)) is) c.has_tree.ensures
