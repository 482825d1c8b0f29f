-- Laws of reading: which words read as the volume too, what the volume of such words is, and what the words read as
-- after one line was set, or a chain was written into data blocks that no chain has.
use Rattle.std.specs.Prelude.{◌≡◌, ℕ, ◌*◌, ◌/◌, ◌^◌, ◌<◌, true, [], Option, Some, None, unwrap_or, refl}
use Rattle.std.proofs.Common.{arith, ap, sym, ◌∙◌, subst}
use Rattle.std.proofs.lemmas.List.FromFn.{fill_by_all}
use Rattle.image_model.specs.pm_model.Bytes.{line_bytes-same}
use Rattle.image_model.specs.pm_model.Words.{Words, line_bytes}
use Rattle.image_model.specs.layout_model.PlaceLaws.{journaled-state, journaled-inode, journaled-name}
use Rattle.image_model.specs.layout_model.Places.{Geometry, state_line, base_word, inode_line, name_line, is_journaled_line}
use Rattle.image_model.specs.layout_model.declared.lines.Inode.{Inode}
use Rattle.image_model.specs.layout_model.LineLaws.{IsInodeLine, IsInodeLine-decode_inode}
use Rattle.image_model.specs.layout_model.Lines.{NameRow, decode_inode, decode_name}
use Rattle.image_model.specs.layout_model.Names.{row}
use Rattle.image_model.specs.Chains.{extents_in, chain_of, map_of}
use Rattle.image_model.specs.Reading.{slot_for, Reads}
use Rattle.image_model.specs.Volume.{Volume, volume, name_at, inode_or_free, free_inode, row_of, inode, chain, extents}
use Rattle.volume_laws.specs.ChainLaws.{IsChain-same, chain-map}
use Rattle.volume_laws.specs.Reading.{AgreeFor}
use Rattle.std.specs.List.{flat_map}

-- words that agree in journaled lines and in the blocks of its chains read as the volume too
pub reads-same : (g : Geometry) (f h : Words) (v : Volume) → AgreeFor g v f h → Reads g f v → Reads g h v
reads-same g f h v agree r =
    let in_line : (line : ℕ) → is_journaled_line g line ≡ true → (i : ℕ) → i / 8 ≡ line → h i ≡ f i =
    λ line journaled i at. agree.lines i (subst (λ n. is_journaled_line g n ≡ true) (sym at) journaled)
    in
    record {
      geometry = r.geometry;
      base = r.base ∙ sym (in_line state_line (journaled-state g) base_word refl);
      state = λ w from below. in_line state_line (journaled-state g) w (omega arith) ∙ r.state w from below;
      inode_count = r.inode_count;
      name_count = r.name_count;
      chain_count = r.chain_count;
      map_count = r.map_count;
      inodes = λ ino below. ap decode_inode (line_bytes-same h f (inode_line ino) (in_line (inode_line ino) (journaled-inode g ino below))) ∙ r.inodes ino below;
      names = λ k below. ap decode_name (line_bytes-same h f (name_line g k) (in_line (name_line g k) (journaled-name g k below))) ∙ r.names k below;
      chains = λ ino below.
          IsChain-same f h (512 * g.blocks) (inode v ino).root (inode v ino).extents (chain v ino) (extents v ino)
          (λ k j within word. agree.chains ino k j below within word) (r.chains ino below);
      blocks = r.blocks;
    }

row_of-slot_for : (o : Option NameRow) → row_of (slot_for o) ≡ o
row_of-slot_for None = refl
row_of-slot_for (Some r) = refl

-- an inode that is read has a root of 32 bits
pub reads-root : (g : Geometry) (f : Words) (v : Volume) → Reads g f v → (ino : ℕ) → ino < g.inodes
    → (inode v ino).root < 2 ^ 32
reads-root g f v r ino below =
    let line : IsInodeLine (line_bytes f (inode_line ino)) (inode v ino) = IsInodeLine-decode_inode (line_bytes f (inode_line ino)) (inode v ino) (r.inodes ino below) in
    line.fits.root

-- the volume of words that read as one is that one
pub reads-volume : (g : Geometry) (f : Words) (v : Volume) → Reads g f v → volume g f ≡ v
unfolding volume
reads-volume g f v r =
    let line : (ino : ℕ) → ino < g.inodes → inode v ino ≡ inode_or_free f ino = λ ino below. sym (ap (λ (o : Option Inode). unwrap_or o free_inode) (r.inodes ino below)) in
    let linked : (ino : ℕ) → ino < g.inodes → chain v ino ≡ chain_of f (inode_or_free f ino) = λ ino below. (r.chains ino below).linked ∙ ap (chain_of f) (line ino below) in
    let mapped : (ino : ℕ) → ino < g.inodes → extents v ino ≡ map_of f (inode_or_free f ino) =
    λ ino below.
    sym (chain-map f (512 * g.blocks) (inode v ino).root (inode v ino).extents (chain v ino) (extents v ino)
    (reads-root g f v r ino below) (r.chains ino below))
    ∙ ap (flat_map (extents_in f)) (linked ino below)
    in
    let inodes = fill_by_all (inode_or_free f) v.inodes g.inodes free_inode r.inode_count line in
    let names = fill_by_all (λ k. row_of (name_at g f k)) v.names g.names None r.name_count (λ k below. sym (ap row_of (r.names k below) ∙ row_of-slot_for (row v.names k))) in
    let chains = fill_by_all (λ ino. chain_of f (inode_or_free f ino)) v.chains g.inodes [] r.chain_count linked in
    let maps = fill_by_all (λ ino. map_of f (inode_or_free f ino)) v.maps g.inodes [] r.map_count mapped in
    λ i. record {
      geometry = sym r.geometry i;
      base = sym r.base i;
      inodes = sym inodes i;
      names = sym names i;
      chains = sym chains i;
      maps = sym maps i;
    }

pub volume-geometry : (g : Geometry) (f : Words) → (volume g f).geometry ≡ g
unfolding volume
volume-geometry g f = refl

-- words read as one volume at most
pub reads-one : (g : Geometry) (f : Words) (v w : Volume) → Reads g f v → Reads g f w → w ≡ v
reads-one g f v w r s = sym (reads-volume g f w s) ∙ reads-volume g f v r
