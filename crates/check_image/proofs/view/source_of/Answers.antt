use Rattle.std.proofs.Common.{◌≡◌, ◌+◌, arith, sym, ◌∙◌, subst}
use Rattle.k_journal.specs.pm_model.Images.{words_of}
use Rattle.k_journal.specs.layout_model.Places.{record_line}
use Rattle.check_image.proofs.Views.{StandsAt, stands-none, stands-last, stands-skip, view-word}
use Rattle.check_image.proofs.view.source_of.Goals as goal
use Rattle.check_image.proofs.view.source_of.Goals.{then-target_of-line, else-target_of-line}

pub loop-record-init : goal.loop-record-init
loop-record-init c = (c.requires.in_device, stands-none (words_of c.args.pm.now) c.args.line)

pub loop-record-preserved : goal.loop-record-preserved
loop-record-preserved c =
    let f = words_of c.args.pm.now in
    let n = c.loop-record.record in
    elim c.if-target_of-line.branch [
      | then-target_of-line w ↦
          let place : record_line n + 1 ≡ c.if-target_of-line.source = omega arith in (
            omega arith,
            subst (StandsAt f (n + 1) c.args.line) place
                (stands-last f n c.args.line (sym c.target_of.ensures ∙ w.if-target_of-line.true)),
          )
      | else-target_of-line w ↦ (
        omega arith,
        subst (StandsAt f (n + 1) c.args.line) (sym w.source-is)
            (stands-skip f n c.args.line c.loop-record.source (λ e. w.if-target_of-line.false (c.target_of.ensures ∙ e)) c.loop-record.invariant.1),
      )
    ]

pub returns-clause-words : goal.returns-clause-words
returns-clause-words c i at apart =
    view-word (words_of c.args.pm.now) c.loop-record.record c.args.line c.loop-record.source i
    (omega arith) c.loop-record.invariant.1 at apart
