-- A volume with one inode or one row set: what its parts are.
use Rattle.std.specs.Prelude.{◌≡◌, ◌≢◌, ℕ, ◌<◌, List, [], length, Option, None, slice_set}
use Rattle.std.proofs.lemmas.List.{get_or-set_same, get_or-set_other, set-get_or}
use Rattle.image_model.specs.extent_model.declared.extent_words.Extent.{Extent}
use Rattle.image_model.specs.layout_model.declared.lines.Inode.{Inode}
use Rattle.image_model.specs.layout_model.Lines.{NameRow}
use Rattle.image_model.specs.layout_model.Names.{Rows, row}
use Rattle.image_model.specs.Reading.{inode_set, node_set, row_set}
use Rattle.image_model.specs.Volume.{Volume, free_inode, inode, chain, extents}

-- the inode that was set, with its chain and its map, and another one
pub inode-set_same : (ino : ℕ) (x : Inode) (blocks : List ℕ) (es : List Extent) (v : Volume) → ino < length v.inodes
    → inode (inode_set ino x blocks es v) ino ≡ x
inode-set_same ino x blocks es v below = get_or-set_same v.inodes ino x free_inode below

pub chain-set_same : (ino : ℕ) (x : Inode) (blocks : List ℕ) (es : List Extent) (v : Volume) → ino < length v.chains
    → chain (inode_set ino x blocks es v) ino ≡ blocks
chain-set_same ino x blocks es v below = get_or-set_same v.chains ino blocks [] below

pub extents-set_same : (ino : ℕ) (x : Inode) (blocks : List ℕ) (es : List Extent) (v : Volume) → ino < length v.maps
    → extents (inode_set ino x blocks es v) ino ≡ es
extents-set_same ino x blocks es v below = get_or-set_same v.maps ino es [] below

pub inode-set_other : (ino : ℕ) (x : Inode) (blocks : List ℕ) (es : List Extent) (v : Volume) (i : ℕ) → i ≢ ino
    → inode (inode_set ino x blocks es v) i ≡ inode v i
inode-set_other ino x blocks es v i apart = get_or-set_other v.inodes ino i x free_inode apart

pub chain-set_other : (ino : ℕ) (x : Inode) (blocks : List ℕ) (es : List Extent) (v : Volume) (i : ℕ) → i ≢ ino
    → chain (inode_set ino x blocks es v) i ≡ chain v i
chain-set_other ino x blocks es v i apart = get_or-set_other v.chains ino i blocks [] apart

pub extents-set_other : (ino : ℕ) (x : Inode) (blocks : List ℕ) (es : List Extent) (v : Volume) (i : ℕ) → i ≢ ino
    → extents (inode_set ino x blocks es v) i ≡ extents v i
extents-set_other ino x blocks es v i apart = get_or-set_other v.maps ino i es [] apart

-- the row that was set, and another one
pub row-set_same : (rows : Rows) (k : ℕ) (o : Option NameRow) → k < length rows → row (slice_set rows k o) k ≡ o
row-set_same rows k o below = get_or-set_same rows k o None below

pub row-set_other : (rows : Rows) (k : ℕ) (o : Option NameRow) (j : ℕ) → j ≢ k → row (slice_set rows k o) j ≡ row rows j
row-set_other rows k o j apart = get_or-set_other rows k j o None apart

-- an inode that is set with the chain and the map that it has
pub inode_set-same : (ino : ℕ) (x : Inode) (v : Volume)
    → inode_set ino x (chain v ino) (extents v ino) v ≡ node_set ino x v
inode_set-same ino x v =
    let chains = set-get_or v.chains ino [] in
    let maps = set-get_or v.maps ino [] in
    λ i. record (node_set ino x v) { chains = chains i; maps = maps i }

-- a part that is set as it was changes nothing
pub node_set-own : (ino : ℕ) (v : Volume) → node_set ino (inode v ino) v ≡ v
node_set-own ino v = let inodes = set-get_or v.inodes ino free_inode in λ i. record v { inodes = inodes i }

pub row_set-own : (k : ℕ) (v : Volume) → row_set k (row v.names k) v ≡ v
row_set-own k v = let names = set-get_or v.names k None in λ i. record v { names = names i }
