-- A volume that is read from words, and keeps the rules, is whole.
use Rattle.std.specs.Prelude.{◌≡◌, ℕ, List, [], All, true}
use Rattle.std.proofs.Common.{arith, ap, sym, subst, inl, inr}
use Rattle.std.proofs.lemmas.Bool.{cases_lt}
use Rattle.std.proofs.lemmas.List.{get_or_past}
use Rattle.layout_model.specs.pm_model.Words.{Words, line_bytes}
use Rattle.layout_model.specs.Places.{Geometry, IsGeometry, inode_line, is_data_block}
use Rattle.layout_model.specs.LineLaws.{IsInodeLine-decode_inode}
use Rattle.layout_model.specs.Lines.{is_inode}
use Rattle.k_tables.specs.image_model.Kept.{AreKept}
use Rattle.k_tables.specs.image_model.Reading.{Reads}
use Rattle.k_tables.specs.image_model.Volume.{Volume, free_inode, inode, chain}
use Rattle.k_tables.specs.name_laws.KeptLaws.{reads-all_lines}
use Rattle.map_chain.specs.volume_laws.PoolLaws.{reads-all_maps}
use Rattle.k_plans.specs.Whole.{IsWhole}

none-in_data : (g : Geometry) (blocks : List ℕ) → blocks ≡ [] → All (λ b. is_data_block g b ≡ true) blocks
none-in_data g blocks none = subst (All (λ b. is_data_block g b ≡ true)) (sym none) (λ k d below. absurd (omega arith))

pub whole-read : (g : Geometry) (f : Words) (v : Volume) → IsGeometry g → Reads g f v → AreKept v → IsWhole v
whole-read g f v is r kept = record {
  kept = record { kept = kept; all = reads-all_lines g f v r; geometry = subst IsGeometry (sym r.geometry) is };
  maps = reads-all_maps g f v r;
  inodes = λ ino. elim (cases_lt ino g.inodes) [
    | inl below ↦ (IsInodeLine-decode_inode (line_bytes f (inode_line ino)) (inode v ino) (r.inodes ino below)).fields
    | inr past ↦ ap is_inode (get_or_past v.inodes ino free_inode (omega (arith, r.inode_count)))
  ];
  chains = λ ino. elim (cases_lt ino g.inodes) [
    | inl below ↦ subst (λ h. All (λ b. is_data_block h b ≡ true) (chain v ino)) (sym r.geometry) (r.blocks ino below)
    | inr past ↦ none-in_data v.geometry (chain v ino) (get_or_past v.chains ino [] (omega (arith, r.chain_count)))
  ];
}
