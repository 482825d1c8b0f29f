use Rattle.std.proofs.Common.{◌++◌, ◌∙◌, ap, subst, sym}
use Rattle.std.specs.Prelude.{Bool}
use Rattle.command_line.specs.Seen.{seen_options}
use Rattle.split_top.specs.Runs.{IsRunBy, task_on}
use Rattle.report_text.specs.Texts.{history_text}
use Rattle.split_top.proofs.Opened.{shows-tree}
use Rattle.split_top.proofs.threads.outcome_of.Goals as goal

pub returns-clause-ran : goal.returns-clause-ran
returns-clause-ran g c image device kept is =
    let ran = c.in_ok-ran.ensures.ran in
    record {
      tree = ran.tree;
      shows = shows-tree image c.args.opened.pm device ran.tree c.requires.mounts.checked ran.is_tree;
      shape = ran.shape;
      is_shape = ran.is_shape;
      outcome = record {
        history = c.in_ok-ran.ran.history.items;
        unfinished = c.in_ok-ran.ran.unfinished.items;
        left = c.in_ok-ran.ran.tree;
        is_run = subst (λ (by : Bool). IsRunBy by (task_on ran.tree ran.shape c.args.opened.geometry.log c.args.scripts c.args.options.now.mode) (seen_options c.args.options.now) c.in_ok-ran.ran.history.items c.in_ok-ran.ran.unfinished.items c.in_ok-ran.ran.tree) (sym c.requires.threads) ran.is_run;
        is_text = c.in_ok-extend_from_slice.ensures.items
            ∙ (λ i. (c.in_ok-output.ensures ∙ ap history_text c.deref.ensures.value) i ++ (c.deref-2.ensures.value ∙ c.in_ok-tree.ensures) i);
        is_kept = c.in_ok-ran.ensures.mounted kept is;
        numbers = c.in_ok-ran.ensures.numbers kept is;
      };
    }
