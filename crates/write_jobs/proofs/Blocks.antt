-- The blocks of an entry are data blocks; any value may stand where a word is lent.
use Rattle.std.specs.Prelude.{◌≡◌, ◌<◌, ◌+◌, ℕ, true, length, Some}
use Rattle.std.proofs.Common.{arith, ap, ◌∙◌, sym, inl, inr}
use Rattle.std.proofs.lemmas.Bool.{cases_lt}
use Rattle.std.proofs.lemmas.List.{get_or_past}
use Rattle.pm_lines.specs.pm_model.declared.Cell.{Cell}
use Rattle.pm_lines.specs.pm_model.declared.Cell.TheVariants.{Lent, Marked, Single, Two}
use Rattle.pm_lines.specs.pm_model.Cells.{is_lent, IsCandidate}
use Rattle.layout_model.specs.Places.{is_data_block}
use Rattle.world_write_laws.specs.extent_model.Covers.{covers-disk_at}
use Rattle.layout_model.specs.declared.lines.Draft.{Draft}
use Rattle.layout_model.specs.declared.lines.Kind.TheVariants.{Staging}
use Rattle.world_write_laws.specs.image_model.Rules.{file_blocks_of}
use Rattle.world_write_laws.specs.image_model.Volume.{extents, free_inode, inode, Volume}
use Rattle.world_write_laws.specs.volume_laws.PoolLaws.{covered-in_data}
use Rattle.world_write_laws.specs.world_model.Jobs.{staged_block}
use Rattle.world_write_laws.specs.world_model.Stands.{IsSane}

pub lent_any : (c : Cell) (x : ℕ) → is_lent c ≡ true → IsCandidate c x
lent_any Lent x lent = tt
lent_any (Single a) x lent = cc
lent_any (Two a b) x lent = cc
lent_any (Marked a b) x lent = cc

staging_below : (v : Volume) (x : ℕ) → (inode v x).kind ≡ Staging → x < length v.inodes
staging_below v x staging = elim (cases_lt x (length v.inodes)) [
  | inl below ↦ below
  | inr past ↦ let never : Staging ≡ free_inode.kind = sym staging ∙ ap (λ y. y.kind) (get_or_past v.inodes x free_inode past) in cc
]

pub staged_in_data : (v : Volume) (draft : Draft) (k b : ℕ) → IsSane v → (inode v draft.staging).kind ≡ Staging → staged_block v draft k ≡ Some b → is_data_block v.geometry b ≡ true
staged_in_data v draft k b sane staging at =
    covered-in_data v.geometry (file_blocks_of (inode v draft.staging).kind) (extents v draft.staging) b
    (sane.kept.in_data draft.staging (omega (arith, staging_below v draft.staging staging, sane.inode_count)))
    (covers-disk_at (extents v draft.staging) (draft.staging_block + k) b at)
