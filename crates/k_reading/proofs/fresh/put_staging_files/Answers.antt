use Rattle.std.proofs.Common.{◌∙◌, ap}
use Rattle.k_inodes.specs.layout_model.Lines.{encode_inode}
use Rattle.k_reading.proofs.LineWords.{set_more}
use Rattle.k_reading.proofs.fresh.put_staging_files.Goals as goal

pub returns : goal.returns
returns c =
    let line = c.encode_inode-staging.ensures.line ∙ ap encode_inode c.empty_inode.ensures in
    set_more _ _ _ _ _ _ _ c.put_line-4.ensures c.inode_line-4.ensures line
    (set_more _ _ _ _ _ _ _ c.put_line-3.ensures c.inode_line-3.ensures line
    (set_more _ _ _ _ _ _ _ c.put_line-2.ensures c.inode_line-2.ensures line
    (set_more _ _ _ _ _ _ _ c.put_line.ensures c.inode_line.ensures line c.requires.blank)))
