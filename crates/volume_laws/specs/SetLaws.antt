-- What words read as after one line was set, or after a chain was written into data blocks that no chain has.
use Rattle.std.specs.Prelude.{◌≡◌, ◌≢◌, ℕ, ◌+◌, ◌*◌, ◌/◌, ◌%◌, ◌<◌, true, false, List, length, All, Option, Some, refl}
use Rattle.std.proofs.Common.{arith, ap, sym, ◌∙◌, subst, inl, inr}
use Rattle.std.proofs.lemmas.Bool.{both_ways, cases_eq}
use Rattle.std.proofs.lemmas.List.{length-set}
use Rattle.image_model.specs.pm_model.Words.{Words, word_at, with_line}
use Rattle.image_model.specs.layout_model.PlaceLaws.{journaled-inode, journaled-name, inode_line-name_line}
use Rattle.image_model.specs.layout_model.Places.{Geometry, state_line, base_word, inode_line, name_line, is_data_block, is_journaled_line}
use Rattle.image_model.specs.extent_model.declared.extent_words.Extent.{Extent}
use Rattle.image_model.specs.layout_model.declared.lines.Inode.{Inode}
use Rattle.image_model.specs.layout_model.Lines.{NameRow, decode_inode, decode_name}
use Rattle.image_model.specs.layout_model.Names.{row}
use Rattle.image_model.specs.Placed.{block_at, IsOutside}
use Rattle.image_model.specs.Reading.{slot_for, StandsFor, Reads, inode_set, node_set, row_set, base_set, AreBytes}
use Rattle.image_model.specs.Standing.{IsChain}
use Rattle.image_model.specs.Volume.{Volume, volume, inode_at, name_at, inode, chain, extents}
use Rattle.volume_laws.specs.ChainLaws.{IsChain-same}
use Rattle.volume_laws.specs.Changes.{inode-set_same, chain-set_same, extents-set_same, inode-set_other, chain-set_other, extents-set_other, row-set_same, row-set_other, inode_set-same}
use Rattle.volume_laws.specs.LineWords.{with_line-in, with_line-out, line_bytes-set, line_bytes-other, data_word-apart, data_word-not_journaled}
use Rattle.volume_laws.specs.Reading.{AreUnchained}
use Rattle.volume_laws.specs.ReadingLaws.{reads-same, reads-volume}

-- a chain in data blocks still stands when a journaled line is set
pub StandsFor-set : (g : Geometry) (f : Words) (x : Inode) (blocks : List ℕ) (es : List Extent) (line : ℕ) (bytes : List ℕ)
    → is_journaled_line g line ≡ true → StandsFor g f x blocks es → StandsFor g (with_line line bytes f) x blocks es
StandsFor-set g f x blocks es line bytes journaled stands = record {
  is_chain = IsChain-same f (with_line line bytes f) (512 * g.blocks) x.root x.extents blocks es
      (λ k j within word. with_line-out line bytes f (512 * block_at blocks k + j)
      (data_word-apart g line (block_at blocks k) j journaled (stands.in_data k 0 within) word))
      stands.is_chain;
  in_data = stands.in_data;
}

-- the chain of an inode of a volume that is read
pub reads-stands : (g : Geometry) (f : Words) (v : Volume) (ino : ℕ) → ino < g.inodes → Reads g f v
    → StandsFor g f (inode v ino) (chain v ino) (extents v ino)
reads-stands g f v ino below r = record { is_chain = r.chains ino below; in_data = r.blocks ino below }

-- After an inode line was set, where a chain stands for the inode, the words read as the volume with that inode.
pub reads-inode : (g : Geometry) (f : Words) (v : Volume) (ino : ℕ) (x : Inode) (blocks : List ℕ) (es : List Extent) (bytes : List ℕ)
    → ino < g.inodes → AreBytes bytes → decode_inode bytes ≡ Some x → StandsFor g f x blocks es → Reads g f v
    → Reads g (with_line (inode_line ino) bytes f) (inode_set ino x blocks es v)
reads-inode g f v ino x blocks es bytes within are decoded stands r =
    let h = with_line (inode_line ino) bytes f in
    let w = inode_set ino x blocks es v in
    let own_inode : inode w ino ≡ x = inode-set_same ino x blocks es v (omega (arith, r.inode_count)) in
    let own_chain : chain w ino ≡ blocks = chain-set_same ino x blocks es v (omega (arith, r.chain_count)) in
    let own_extents : extents w ino ≡ es = extents-set_same ino x blocks es v (omega (arith, r.map_count)) in
    let chain_is : (i : ℕ) → i < g.inodes → StandsFor g h (inode w i) (chain w i) (extents w i) =
    λ i below. elim (cases_eq i ino) [
      | inl same ↦
          subst (λ n. StandsFor g h (inode w n) (chain w n) (extents w n)) (sym same)
          (rw (own_inode, own_chain, own_extents)
          (StandsFor-set g f x blocks es (inode_line ino) bytes (journaled-inode g ino within) stands))
      | inr apart ↦
          rw (inode-set_other ino x blocks es v i apart, chain-set_other ino x blocks es v i apart, extents-set_other ino x blocks es v i apart)
          (StandsFor-set g f (inode v i) (chain v i) (extents v i) (inode_line ino) bytes
          (journaled-inode g ino within) (reads-stands g f v i below r))
    ]
    in
    record {
      geometry = r.geometry;
      base = r.base ∙ sym (with_line-out (inode_line ino) bytes f base_word (λ e. omega arith));
      state = λ i from below. with_line-out (inode_line ino) bytes f i (λ e. omega arith) ∙ r.state i from below;
      inode_count = length-set v.inodes ino x ∙ r.inode_count;
      name_count = r.name_count;
      chain_count = length-set v.chains ino blocks ∙ r.chain_count;
      map_count = length-set v.maps ino es ∙ r.map_count;
      inodes = λ i below. elim (cases_eq i ino) [
        | inl same ↦ subst (λ n. inode_at h n ≡ Some (inode w n)) (sym same) (ap decode_inode (line_bytes-set (inode_line ino) bytes f are) ∙ decoded ∙ ap Some (sym own_inode))
        | inr apart ↦
            ap decode_inode (line_bytes-other (inode_line ino) (inode_line i) bytes f (λ e. apart (omega arith)))
            ∙ r.inodes i below ∙ ap Some (sym (inode-set_other ino x blocks es v i apart))
      ];
      names = λ k below. ap decode_name (line_bytes-other (inode_line ino) (name_line g k) bytes f (λ e. inode_line-name_line g ino k within (sym e))) ∙ r.names k below;
      chains = λ i below. (chain_is i below).is_chain;
      blocks = λ i below. (chain_is i below).in_data;
    }

-- the same of an inode that keeps its root and its number of extents, and so its map
pub reads-node : (g : Geometry) (f : Words) (v : Volume) (ino : ℕ) (x : Inode) (bytes : List ℕ)
    → ino < g.inodes → AreBytes bytes → decode_inode bytes ≡ Some x → x.root ≡ (inode v ino).root
    → x.extents ≡ (inode v ino).extents → Reads g f v
    → Reads g (with_line (inode_line ino) bytes f) (node_set ino x v)
reads-node g f v ino x bytes within are decoded root count r =
    let own = reads-stands g f v ino within r in
    let stands : StandsFor g f x (chain v ino) (extents v ino) = record { is_chain = rw (root, count) own.is_chain; in_data = own.in_data } in
    subst (Reads g (with_line (inode_line ino) bytes f)) (inode_set-same ino x v)
    (reads-inode g f v ino x (chain v ino) (extents v ino) bytes within are decoded stands r)

-- After a name line was set the words read as the volume with that row.
pub reads-row : (g : Geometry) (f : Words) (v : Volume) (k : ℕ) (o : Option NameRow) (bytes : List ℕ)
    → k < g.names → AreBytes bytes → decode_name bytes ≡ slot_for o → Reads g f v
    → Reads g (with_line (name_line g k) bytes f) (row_set k o v)
reads-row g f v k o bytes within are decoded r =
    let h = with_line (name_line g k) bytes f in
    let chain_is : (i : ℕ) → i < g.inodes → StandsFor g h (inode v i) (chain v i) (extents v i) =
    λ i below. StandsFor-set g f (inode v i) (chain v i) (extents v i) (name_line g k) bytes
    (journaled-name g k within) (reads-stands g f v i below r)
    in
    record {
      geometry = r.geometry;
      base = r.base ∙ sym (with_line-out (name_line g k) bytes f base_word (λ e. omega arith));
      state = λ i from below. with_line-out (name_line g k) bytes f i (λ e. omega arith) ∙ r.state i from below;
      inode_count = r.inode_count;
      name_count = length-set v.names k o ∙ r.name_count;
      chain_count = r.chain_count;
      map_count = r.map_count;
      inodes = λ i below. ap decode_inode (line_bytes-other (name_line g k) (inode_line i) bytes f (inode_line-name_line g i k below)) ∙ r.inodes i below;
      names = λ j below. elim (cases_eq j k) [
        | inl same ↦
            subst (λ n. name_at g h n ≡ slot_for (row (row_set k o v).names n)) (sym same)
            (ap decode_name (line_bytes-set (name_line g k) bytes f are) ∙ decoded
            ∙ ap slot_for (sym (row-set_same v.names k o (omega (arith, r.name_count)))))
        | inr apart ↦
            ap decode_name (line_bytes-other (name_line g k) (name_line g j) bytes f (λ e. apart (omega arith)))
            ∙ r.names j below ∙ ap slot_for (sym (row-set_other v.names k o j apart))
      ];
      chains = λ i below. (chain_is i below).is_chain;
      blocks = λ i below. (chain_is i below).in_data;
    }

-- After the line of the log base was set, to a base and zeros, the words read as the volume with that base.
pub reads-base : (g : Geometry) (f : Words) (v : Volume) (base : ℕ) (bytes : List ℕ)
    → word_at bytes 0 ≡ base → ((k : ℕ) → 0 < k → k < 8 → word_at bytes k ≡ 0) → Reads g f v
    → Reads g (with_line state_line bytes f) (base_set base v)
reads-base g f v base bytes first zero r =
    let h = with_line state_line bytes f in
    let chain_is : (i : ℕ) → i < g.inodes → StandsFor g h (inode v i) (chain v i) (extents v i) =
    λ i below. StandsFor-set g f (inode v i) (chain v i) (extents v i) state_line bytes refl (reads-stands g f v i below r)
    in
    record {
      geometry = r.geometry;
      base = sym (with_line-in state_line bytes f base_word refl ∙ first);
      state = λ i from below. with_line-in state_line bytes f i (omega arith) ∙ zero (i % 8) (omega arith) (omega arith);
      inode_count = r.inode_count;
      name_count = r.name_count;
      chain_count = r.chain_count;
      map_count = r.map_count;
      inodes = λ i below. ap decode_inode (line_bytes-other state_line (inode_line i) bytes f (λ e. omega arith)) ∙ r.inodes i below;
      names = λ k below. ap decode_name (line_bytes-other state_line (name_line g k) bytes f (λ e. omega arith)) ∙ r.names k below;
      chains = λ i below. (chain_is i below).is_chain;
      blocks = λ i below. (chain_is i below).in_data;
    }

-- the volumes of such words
pub volume-with_inode : (g : Geometry) (f : Words) (v : Volume) (ino : ℕ) (x : Inode) (blocks : List ℕ) (es : List Extent) (bytes : List ℕ)
    → ino < g.inodes → AreBytes bytes → decode_inode bytes ≡ Some x → StandsFor g f x blocks es → Reads g f v
    → volume g (with_line (inode_line ino) bytes f) ≡ inode_set ino x blocks es v
volume-with_inode g f v ino x blocks es bytes within are decoded stands r =
    reads-volume g (with_line (inode_line ino) bytes f) (inode_set ino x blocks es v)
    (reads-inode g f v ino x blocks es bytes within are decoded stands r)

pub volume-with_node : (g : Geometry) (f : Words) (v : Volume) (ino : ℕ) (x : Inode) (bytes : List ℕ)
    → ino < g.inodes → AreBytes bytes → decode_inode bytes ≡ Some x → x.root ≡ (inode v ino).root
    → x.extents ≡ (inode v ino).extents → Reads g f v
    → volume g (with_line (inode_line ino) bytes f) ≡ node_set ino x v
volume-with_node g f v ino x bytes within are decoded root count r =
    reads-volume g (with_line (inode_line ino) bytes f) (node_set ino x v)
    (reads-node g f v ino x bytes within are decoded root count r)

pub volume-with_row : (g : Geometry) (f : Words) (v : Volume) (k : ℕ) (o : Option NameRow) (bytes : List ℕ)
    → k < g.names → AreBytes bytes → decode_name bytes ≡ slot_for o → Reads g f v
    → volume g (with_line (name_line g k) bytes f) ≡ row_set k o v
volume-with_row g f v k o bytes within are decoded r =
    reads-volume g (with_line (name_line g k) bytes f) (row_set k o v) (reads-row g f v k o bytes within are decoded r)

pub volume-with_base : (g : Geometry) (f : Words) (v : Volume) (base : ℕ) (bytes : List ℕ)
    → word_at bytes 0 ≡ base → ((k : ℕ) → 0 < k → k < 8 → word_at bytes k ≡ 0) → Reads g f v
    → volume g (with_line state_line bytes f) ≡ base_set base v
volume-with_base g f v base bytes first zero r =
    reads-volume g (with_line state_line bytes f) (base_set base v) (reads-base g f v base bytes first zero r)

-- ---- a chain is written

-- a word of a block that is none of these blocks is outside them
pub block-outside : (blocks : List ℕ) (b j : ℕ) → j < 512 → ((k : ℕ) → k < length blocks → block_at blocks k ≢ b)
    → IsOutside blocks (512 * b + j)
block-outside blocks b j word apart k below same = apart k below (omega arith)

-- a word of a journaled line is outside data blocks
pub journaled-outside : (g : Geometry) (blocks : List ℕ) (w : ℕ) → All (λ b. is_data_block g b ≡ true) blocks
    → is_journaled_line g (w / 8) ≡ true → IsOutside blocks w
journaled-outside g blocks w in_data journaled k below same =
    let other = data_word-not_journaled g (block_at blocks k) (w % 512) (in_data k 0 below) (omega arith) in
    let at : 512 * block_at blocks k + w % 512 ≡ w = omega arith in
    both_ways (is_journaled_line g (w / 8)) (subst (λ n. is_journaled_line g (n / 8) ≡ false) at other) journaled

-- Words that agree but in data blocks that no chain of the volume has read as the same volume.
pub reads-written : (g : Geometry) (f h : Words) (v : Volume) (blocks : List ℕ) → AreUnchained g v blocks
    → ((i : ℕ) → IsOutside blocks i → h i ≡ f i) → Reads g f v → Reads g h v
reads-written g f h v blocks free same r =
    reads-same g f h v (record {
      lines = λ w journaled. same w (journaled-outside g blocks w free.in_data journaled);
      chains = λ ino k j below within word. same (512 * block_at (chain v ino) k + j) (block-outside blocks (block_at (chain v ino) k) j word (λ n in_blocks. free.apart ino k n below within in_blocks));
    }) r

-- And then, where the blocks have a chain for the inode that is set, they read as the volume with that inode.
pub reads-switched : (g : Geometry) (f h : Words) (v : Volume) (ino : ℕ) (x : Inode) (blocks : List ℕ) (es : List Extent) (bytes : List ℕ)
    → AreUnchained g v blocks → ((i : ℕ) → IsOutside blocks i → h i ≡ f i)
    → IsChain h (512 * g.blocks) x.root x.extents blocks es
    → ino < g.inodes → AreBytes bytes → decode_inode bytes ≡ Some x → Reads g f v
    → Reads g (with_line (inode_line ino) bytes h) (inode_set ino x blocks es v)
reads-switched g f h v ino x blocks es bytes free same stands within are decoded r =
    reads-inode g h v ino x blocks es bytes within are decoded (record { is_chain = stands; in_data = free.in_data })
    (reads-written g f h v blocks free same r)
