use Rattle.std.proofs.Common.{◌∙◌, ℕ, List, ap, arith}
use Rattle.std.specs.Prelude.{slice_index_or}
use Rattle.layout_model.specs.declared.lines.Inode.{Inode}
use Rattle.k_plans.specs.image_model.Volume.{chain, free_inode, inode}
use Rattle.k_plans.specs.k_split_model.MapChangesChanges.{Landing, with_length}
use Rattle.k_plans.specs.volume_change_laws.Hits.{in_chain-append}
use Rattle.k_plans.specs.volume_laws.Uses.{in_chain}
use Rattle.k_map_plans.specs.Steps.{Step}
use Rattle.k_map_plans.proofs.map_plans.landing.file_step.Goals as goal

pub returns : goal.returns
returns c =
    let v = c.args.tables.now.volume in
    let m = c.args.asked.now in
    let is = c.in_ok-step.ensures in
    let view = c.asked.view_is in
    record {
      ino = ap (λ (s : Step). s.ino) is ∙ ap (λ (x : Landing). x.ino) view;
      line = ap (λ (s : Step). s.line) is
          ∙ ap (λ (xs : List Inode). with_length c.asked.inside.size c.asked.inside.applied (slice_index_or xs c.asked.inside.ino free_inode)) c.inodes.ensures
          ∙ ap (λ (x : Landing). with_length x.size x.applied (inode v x.ino)) view;
      map = ap (λ (s : Step). s.map) is;
      chain = ap (λ (s : Step). s.chain) is;
      aside = λ b.
          omega (
            arith,
            ap (λ (s : Step). in_chain s.aside b) is,
            c.in_ok-push_extents.ensures b,
            ap (λ (xs : List ℕ). in_chain xs b) c.in_ok-extend_from_slice.ensures.items,
            in_chain-append c.in_ok-aside.aside.items c.chain.result.now b,
            ap (λ (xs : List ℕ). in_chain xs b) c.in_ok-aside.ensures,
            ap (λ (xs : List ℕ). in_chain xs b) c.chain.ensures,
            ap (λ (x : Landing). in_chain (chain v x.ino) b) view,
          );
    }
