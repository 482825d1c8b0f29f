-- Each change leaves all inodes, chains, maps and rows as they were but those that it names.
use Rattle.std.specs.Prelude.{◌≡◌, ◌≢◌, ℕ, ◌<◌, [], ◌∷◌, length, slice_set, slice_index_or, Some, None, refl}
use Rattle.std.proofs.Common.{◌∙◌}
use Rattle.name_laws.specs.volume_laws.layout_model.declared.lines.Inode.{Inode}
use Rattle.name_laws.specs.volume_laws.layout_model.declared.lines.Kind.{Kind}
use Rattle.name_laws.specs.volume_laws.layout_model.Lines.{NameRow}
use Rattle.name_laws.specs.volume_laws.image_model.Volume.{Volume, inode, chain, extents, free_inode}
use Rattle.name_laws.specs.k_split_model.ChangesChanges.{new_node, gone_node, made, unnamed, removed, renamed, renamed_over_file, renamed_over_directory, dropped}
use Rattle.volume_change_laws.specs.Frames.{LeavesOthers}
use Rattle.name_laws.specs.volume_laws.Changes.{inode-set_same, inode-set_other, chain-set_other, extents-set_other, row-set_other}

other_node : (v : Volume) (ino : ℕ) (x : Inode) (i : ℕ) → i ≢ ino
    → slice_index_or (slice_set v.inodes ino x) i free_inode ≡ inode v i
other_node v ino x i apart = inode-set_other ino x (chain v ino) (extents v ino) v i apart

pub made-others : (kind : Kind) (ino line : ℕ) (r : NameRow) (v : Volume)
    → LeavesOthers (ino ∷ []) (line ∷ []) v (made kind ino line r v)
made-others kind ino line r v = record {
  geometry = refl;
  base = refl;
  inodes = λ i other. other_node v ino (new_node kind (inode v ino)) i other.0;
  chains = λ i other. refl;
  maps = λ i other. refl;
  rows = λ l other. row-set_other v.names line (Some r) l other.0;
}

pub unnamed-others : (line : ℕ) (v : Volume) → LeavesOthers [] (line ∷ []) v (unnamed line v)
unnamed-others line v = record {
  geometry = refl;
  base = refl;
  inodes = λ i other. refl;
  chains = λ i other. refl;
  maps = λ i other. refl;
  rows = λ l other. row-set_other v.names line None l other.0;
}

pub removed-others : (line ino : ℕ) (v : Volume) → LeavesOthers (ino ∷ []) (line ∷ []) v (removed line ino v)
removed-others line ino v = record {
  geometry = refl;
  base = refl;
  inodes = λ i other. other_node v ino (gone_node (inode v ino)) i other.0;
  chains = λ i other. refl;
  maps = λ i other. refl;
  rows = λ l other. row-set_other v.names line None l other.0;
}

pub renamed-others : (line : ℕ) (s : NameRow) (v : Volume) → LeavesOthers [] (line ∷ []) v (renamed line s v)
renamed-others line s v = record {
  geometry = refl;
  base = refl;
  inodes = λ i other. refl;
  chains = λ i other. refl;
  maps = λ i other. refl;
  rows = λ l other. row-set_other v.names line (Some s) l other.0;
}

pub renamed_over_file-others : (line : ℕ) (s : NameRow) (target : ℕ) (v : Volume)
    → LeavesOthers [] (line ∷ target ∷ []) v (renamed_over_file line s target v)
renamed_over_file-others line s target v = record {
  geometry = refl;
  base = refl;
  inodes = λ i other. refl;
  chains = λ i other. refl;
  maps = λ i other. refl;
  rows = λ l other. row-set_other (slice_set v.names target None) line (Some s) l other.0 ∙ row-set_other v.names target None l other.1.0;
}

pub renamed_over_directory-others : (line : ℕ) (s : NameRow) (target ino : ℕ) (v : Volume)
    → LeavesOthers (ino ∷ []) (line ∷ target ∷ []) v (renamed_over_directory line s target ino v)
renamed_over_directory-others line s target ino v = record {
  geometry = refl;
  base = refl;
  inodes = λ i other. other_node v ino (gone_node (inode v ino)) i other.0;
  chains = λ i other. refl;
  maps = λ i other. refl;
  rows = λ l other. row-set_other (slice_set v.names target None) line (Some s) l other.0 ∙ row-set_other v.names target None l other.1.0;
}

pub dropped-others : (ino : ℕ) (v : Volume) → LeavesOthers (ino ∷ []) [] v (dropped ino v)
dropped-others ino v = record {
  geometry = refl;
  base = refl;
  inodes = λ i other. inode-set_other ino (gone_node (inode v ino)) [] [] v i other.0;
  chains = λ i other. chain-set_other ino (gone_node (inode v ino)) [] [] v i other.0;
  maps = λ i other. extents-set_other ino (gone_node (inode v ino)) [] [] v i other.0;
  rows = λ l other. refl;
}

-- and what it sets is set
pub made-inode : (kind : Kind) (ino line : ℕ) (r : NameRow) (v : Volume) → ino < length v.inodes
    → inode (made kind ino line r v) ino ≡ new_node kind (inode v ino)
made-inode kind ino line r v below =
    inode-set_same ino (new_node kind (inode v ino)) (chain v ino) (extents v ino) v below

pub removed-inode : (line ino : ℕ) (v : Volume) → ino < length v.inodes
    → inode (removed line ino v) ino ≡ gone_node (inode v ino)
removed-inode line ino v below = inode-set_same ino (gone_node (inode v ino)) (chain v ino) (extents v ino) v below

pub dropped-inode : (ino : ℕ) (v : Volume) → ino < length v.inodes → inode (dropped ino v) ino ≡ gone_node (inode v ino)
dropped-inode ino v below = inode-set_same ino (gone_node (inode v ino)) [] [] v below
