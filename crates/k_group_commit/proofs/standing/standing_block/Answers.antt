use Rattle.std.proofs.Common.{◌≡◌, ◌∙◌, ℕ, List, length, None, Some, arith, sym, ap, subst}
use Rattle.std.proofs.lemmas.Option.{same_Some}
use Rattle.k_plans.specs.layout_model.declared.lines.Inode.{Inode}
use Rattle.pm_lines.specs.pm_model.Images.{words_of}
use Rattle.pm_lines.specs.pm_model.Words.{line_bytes}
use Rattle.k_plans.specs.extent_model.declared.extent_words.Extent.{Extent}
use Rattle.k_plans.specs.image_model.Placed.{AreHome}
use Rattle.k_plans.specs.image_model.Standing.{IsChain}
use Rattle.k_plans.specs.image_model.Volume.{chain, extents, inode}
use Rattle.k_plans.specs.layout_model.Lines.{decode_inode}
use Rattle.k_group_commit.specs.StandingLaws.{chain-standing, chain-words, inode-standing}
use Rattle.k_group_commit.proofs.standing.standing_block.Goals as goal

pub mapped_block-requires : goal.mapped_block-requires
mapped_block-requires c =
    let f = words_of c.args.pm.now in
    let st = c.requires.stands in
    let found : c.in-Some.inode ≡ inode st.0 c.args.ino =
    same_Some c.in-Some.inode (inode st.0 c.args.ino)
    (sym c.in-Some.is ∙ c.decode_inode.ensures ∙ ap decode_inode (c.read_line.ensures.bytes ∙ ap (line_bytes f) c.inode_line.ensures)
    ∙ inode-standing c.args.geometry.now st.0 c.args.pm.now c.args.ino st.1 c.requires.below)
    in
    record {
      chain = subst (λ (x : Inode). (blocks : List ℕ) × (es : List Extent) × IsChain f (length c.args.pm.now) x.root x.extents blocks es × AreHome blocks c.args.pm.now) (sym found)
          (chain-standing c.args.geometry.now st.0 c.args.pm.now c.args.ino st.1 c.requires.below);
    }

pub unreachable-requires : goal.unreachable-requires
unreachable-requires c =
    let f = words_of c.args.pm.now in
    let st = c.requires.stands in
    let never : None ≡ Some (inode st.0 c.args.ino) =
    sym c.in-None.is ∙ c.decode_inode.ensures ∙ ap decode_inode (c.read_line.ensures.bytes ∙ ap (line_bytes f) c.inode_line.ensures)
    ∙ inode-standing c.args.geometry.now st.0 c.args.pm.now c.args.ino st.1 c.requires.below
    in
    cc

pub returns : goal.returns
returns c u stands =
    let f = words_of c.args.pm.now in
    let found : c.in-Some.inode ≡ inode u c.args.ino =
    same_Some c.in-Some.inode (inode u c.args.ino)
    (sym c.in-Some.is ∙ c.decode_inode.ensures ∙ ap decode_inode (c.read_line.ensures.bytes ∙ ap (line_bytes f) c.inode_line.ensures)
    ∙ inode-standing c.args.geometry.now u c.args.pm.now c.args.ino stands c.requires.below)
    in
    c.mapped_block.ensures (chain u c.args.ino) (extents u c.args.ino)
    (subst (λ (x : Inode). IsChain f (length c.args.pm.now) x.root x.extents (chain u c.args.ino) (extents u c.args.ino)) (sym found)
    (chain-words c.args.geometry.now u c.args.pm.now c.args.ino stands c.requires.below))
