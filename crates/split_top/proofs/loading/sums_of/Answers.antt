use Rattle.std.proofs.Common.{◌∙◌, ap, subst, sym}
use Rattle.std.specs.Prelude.{Bool}
use Rattle.command_line.specs.Seen.{seen_options}
use Rattle.split_top.specs.Runs.{IsRunBy, task_on}
use Rattle.split_cases.specs.Summary.{summary_text}
use Rattle.split_top.proofs.Opened.{shows-tree}
use Rattle.split_top.proofs.loading.sums_of.Goals as goal

pub returns : goal.returns
returns c image device =
    let ran = c.in_ok-ran.ensures.ran in
    let kept = c.has_image.ensures.0 in
    let is = c.has_image.ensures.1 in (
      kept,
      record {
        tree = ran.tree;
        shows = shows-tree image c.args.opened.pm device ran.tree c.requires.mounts.checked ran.is_tree;
        shape = ran.shape;
        is_shape = ran.is_shape;
        outcome = record {
          history = c.in_ok-ran.ran.history.items;
          unfinished = c.in_ok-ran.ran.unfinished.items;
          left = c.in_ok-ran.ran.tree;
          is_run = subst (λ (by : Bool). IsRunBy by (task_on ran.tree ran.shape c.args.opened.geometry.log c.args.scripts c.args.options.now.mode) (seen_options c.args.options.now) c.in_ok-ran.ran.history.items c.in_ok-ran.ran.unfinished.items c.in_ok-ran.ran.tree) (sym c.requires.events) ran.is_run;
          is_text = c.in_ok-text.ensures ∙ ap (λ history. summary_text history c.in_ok-ran.ran.tree) c.deref.ensures.value;
          is_kept = c.in_ok-ran.ensures.mounted kept is;
          numbers = c.in_ok-ran.ensures.numbers kept is;
        };
      },
    )
