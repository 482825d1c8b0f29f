use Rattle.std.proofs.Common.{◌∙◌, ap, refl}
use Rattle.k_inodes.specs.layout_model.Lines.{encode_inode}
use Rattle.k_inodes.specs.layout_model.Fresh.{fresh}
use Rattle.k_reading.proofs.LineWords.{set_more}
use Rattle.k_reading.proofs.fresh.put_lines.Goals as goal

pub returns : goal.returns
unfolding fresh
returns c =
    set_more _ _ _ _ _ _ _ c.put_line-3.ensures refl c.superblock.ensures
    (set_more _ _ _ _ _ _ _ c.put_line-2.ensures c.state_line.ensures c.state_bytes.ensures
    (set_more _ _ _ _ _ _ _ c.put_line.ensures c.inode_line.ensures (c.encode_inode-root.ensures.line ∙ ap encode_inode c.empty_inode.ensures) c.put_staging_files.ensures))
