-- Laws of plans: no line turns nothing, and one line more turns its own part of the volume.
use Rattle.std.specs.Prelude.{◌≡◌, ℕ, ◌+◌, ◌*◌, ◌^◌, ◌<◌, ◌==◌, if◌then◌else◌, List, [], ◌∷◌, length, Bool, true, false, Option, Some, refl, slice_index_or}
use Rattle.std.proofs.Common.{arith, sym, subst, inl, inr}
use Rattle.std.proofs.Math.Path.{fun_ext}
use Rattle.std.proofs.lemmas.Bool.{both_ways, cases_eq, cases_lt}
use Rattle.std.proofs.lemmas.List.{set_past}
use Rattle.k_inodes.specs.pm_model.Words.{Words, with_line}
use Rattle.k_inodes.specs.layout_model.Places.{Geometry, state_line, inode_line, name_line, is_data_block, is_journaled_line}
use Rattle.volume_change_laws.specs.k_split_model.extent_model.declared.extent_words.Extent.{Extent}
use Rattle.k_inodes.specs.layout_model.declared.lines.Inode.{Inode}
use Rattle.k_inodes.specs.layout_model.Fresh.{state_bytes}
use Rattle.k_inodes.specs.layout_model.Lines.{NameRow, decode_inode, decode_name}
use Rattle.volume_change_laws.specs.k_split_model.image_model.Chains.{blocks_from, first_or_zero, SpellsChain}
use Rattle.volume_change_laws.specs.k_split_model.image_model.Placed.{block_at}
use Rattle.volume_change_laws.specs.k_split_model.image_model.Reading.{slot_for, StandsFor, Reads, inode_set, row_set, base_set, AreBytes}
use Rattle.volume_change_laws.specs.k_split_model.image_model.Standing.{IsChain}
use Rattle.volume_change_laws.specs.k_split_model.image_model.Volume.{Volume, chain}
use Rattle.map_chain.specs.volume_laws.ChainLaws.{IsChain-same}
use Rattle.map_chain.specs.volume_laws.Changes.{chain-set_same, chain-set_other}
use Rattle.map_chain.specs.volume_laws.LineWords.{data_word-not_journaled}
use Rattle.map_chain.specs.volume_laws.SetLaws.{reads-stands, reads-inode, reads-row}
use Rattle.map_chain.specs.volume_laws.StateLaws.{reads-state}
use Rattle.k_journal.specs.Batch.{target, content, with_batch, with_line_set, AllLines}
use Rattle.k_journal.specs.Patches.{patched-none, patched-miss}
use Rattle.k_journal.specs.declared.batches.Record.{Record}
use Rattle.k_plans.specs.LandingsPlans.{NewChain, new_at, HasNew, HasAllNew, IsChainFrom, Turns, IsMapFrom}
use Rattle.k_plans.specs.LandingsPlans.IsChainFrom.{NoBlocks, OldBlocks, NewBlocks}
use Rattle.k_plans.specs.LandingsPlans.IsMapFrom.{NoMap, SameMap, NewMap}

-- the batch c sets one line more than b, or one line anew
abbrev pub SetsOneMore : List Record → ℕ → List ℕ → List Record → Type 0
SetsOneMore b line bytes c = (f : Words) (i : ℕ) → with_batch c f i ≡ with_line line bytes (with_batch b f) i

one_more : (b : List Record) (line : ℕ) (bytes : List ℕ) (c : List Record) (f : Words) → SetsOneMore b line bytes c
    → with_line line bytes (with_batch b f) ≡ with_batch c f
one_more b line bytes c f sets = fun_ext (λ i. sym (sets f i))

-- a batch in which a line was set has a line
pub length-with_line_set : (b : List Record) (line : ℕ) (bytes : List ℕ) → 0 < length (with_line_set b line bytes)
length-with_line_set [] line bytes = omega arith
length-with_line_set (e ∷ es) line bytes = by (e.line == line)
  where
    by : (same : Bool) → 0 < length (if same then record { line = line; bytes = bytes } ∷ es else e ∷ with_line_set es line bytes)
    by true = omega arith
    by false = omega arith

-- no line
pub turns-none : (g : Geometry) (news : List NewChain) (v : Volume) → Turns g news v v []
turns-none g news v = record {
  lines = λ k below. absurd (omega arith);
  reads = λ f has r. subst (λ h. Reads g h v) (fun_ext (λ w. sym (patched-none (target []) (content []) f w))) r;
  chains = λ ino. OldBlocks ino refl;
}

-- ---- a chain under the lines of a plan

-- a word of a data block is in none of the lines
with_batch-data : (g : Geometry) (b : List Record) (f : Words) (block j : ℕ) → AllLines (is_journaled_line g) b
    → is_data_block g block ≡ true → j < 512 → with_batch b f (512 * block + j) ≡ f (512 * block + j)
with_batch-data g b f block j lines in_data word =
    patched-miss (length b) (target b) (content b) f (512 * block + j)
    (λ k below at. both_ways (is_journaled_line g (target b k))
    (subst (λ n. is_journaled_line g n ≡ false) (sym at) (data_word-not_journaled g block j in_data word)) (lines k below))

-- so a new map still stands once they are set
new-batch : (g : Geometry) (b : List Record) (f : Words) (c : NewChain) → AllLines (is_journaled_line g) b → HasNew g f c
    → HasNew g (with_batch b f) c
new-batch g b f c lines has = record {
  is_chain = IsChain-same f (with_batch b f) (512 * g.blocks) (first_or_zero c.blocks) (length c.extents) c.blocks c.extents
      (λ k j within word. with_batch-data g b f (block_at c.blocks k) j lines (has.in_data k 0 within) word) has.is_chain;
  in_data = has.in_data;
}

-- no map stands in no blocks
no_chain : (f : Words) (size : ℕ) → IsChain f size 0 0 [] []
unfolding blocks_from SpellsChain
no_chain f size = record {
  linked = refl;
  in_device = λ k below. absurd (omega arith);
  map = record {
    spelled = refl;
    counted = refl;
    canonical = record { each = λ k d below. absurd (omega arith); rising = λ i j d before below. absurd (omega arith) };
  };
}

-- wherever the map of an inode comes from, it stands for the inode
stands-from : (g : Geometry) (news : List NewChain) (w : Volume) (b : List Record) (f : Words) (ino : ℕ) (x : Inode) (blocks : List ℕ) (es : List Extent)
    → ino < g.inodes → AllLines (is_journaled_line g) b → HasAllNew g news f → Reads g (with_batch b f) w
    → IsMapFrom news w ino x blocks es → StandsFor g (with_batch b f) x blocks es
stands-from g news w b f ino x blocks es within lines has r (NoMap root count no_blocks no_extents) =
    rw (no_blocks, no_extents) (record {
      is_chain = rw (root, count) (no_chain (with_batch b f) (512 * g.blocks));
      in_data = λ k d below. absurd (omega arith);
    })
stands-from g news w b f ino x blocks es within lines has r (SameMap root count same_blocks same_extents) =
    let own = reads-stands g (with_batch b f) w ino within r in
    rw (same_blocks, same_extents) (record { is_chain = rw (root, count) own.is_chain; in_data = own.in_data })
stands-from g news w b f ino x blocks es within lines has r (NewMap k below root count new_blocks new_extents) =
    let new = new-batch g b f (new_at news k) lines (has k below) in
    rw (new_blocks, new_extents) (record { is_chain = rw (root, count) new.is_chain; in_data = new.in_data })

-- ---- one line more

-- the blocks of such a map are old ones or new ones
chain-from : (news : List NewChain) (v w : Volume) (ino : ℕ) (x : Inode) (blocks : List ℕ) (es : List Extent)
    → IsMapFrom news w ino x blocks es → IsChainFrom news v (chain w ino) → IsChainFrom news v blocks
chain-from news v w ino x blocks es (NoMap root count no_blocks no_extents) from = NoBlocks no_blocks
chain-from news v w ino x blocks es (SameMap root count same_blocks same_extents) from = subst (IsChainFrom news v) (sym same_blocks) from
chain-from news v w ino x blocks es (NewMap k below root count new_blocks new_extents) from = NewBlocks k below new_blocks

chains-set : (news : List NewChain) (v w : Volume) (ino : ℕ) (x : Inode) (blocks : List ℕ) (es : List Extent)
    → ((i : ℕ) → IsChainFrom news v (chain w i)) → IsChainFrom news v blocks
    → (i : ℕ) → IsChainFrom news v (chain (inode_set ino x blocks es w) i)
chains-set news v w ino x blocks es from own i = elim (cases_lt ino (length w.chains)) [
  | inl within ↦ elim (cases_eq i ino) [
    | inl same ↦
        subst (λ n. IsChainFrom news v (chain (inode_set ino x blocks es w) n)) (sym same)
        (subst (IsChainFrom news v) (sym (chain-set_same ino x blocks es w within)) own)
    | inr apart ↦ subst (IsChainFrom news v) (sym (chain-set_other ino x blocks es w i apart)) (from i)
  ]
  | inr past ↦ subst (λ (cs : List (List ℕ)). IsChainFrom news v (slice_index_or cs i [])) (sym (set_past w.chains ino blocks past)) (from i)
]

-- one more inode line
pub turns-inode : (g : Geometry) (news : List NewChain) (v w : Volume) (b c : List Record) (ino : ℕ) (x : Inode) (blocks : List ℕ) (es : List Extent) (bytes : List ℕ)
    → ino < g.inodes → AreBytes bytes → decode_inode bytes ≡ Some x → IsMapFrom news w ino x blocks es
    → SetsOneMore b (inode_line ino) bytes c → AllLines (is_journaled_line g) c
    → Turns g news v w b → Turns g news v (inode_set ino x blocks es w) c
turns-inode g news v w b c ino x blocks es bytes within are decoded map sets lines turns = record {
  lines = lines;
  reads = λ f has r.
      let mid = turns.reads f has r in
      subst (λ h. Reads g h (inode_set ino x blocks es w)) (one_more b (inode_line ino) bytes c f sets)
      (reads-inode g (with_batch b f) w ino x blocks es bytes within are decoded
      (stands-from g news w b f ino x blocks es within turns.lines has mid map) mid);
  chains = chains-set news v w ino x blocks es turns.chains (chain-from news v w ino x blocks es map (turns.chains ino));
}

-- one more name line
pub turns-row : (g : Geometry) (news : List NewChain) (v w : Volume) (b c : List Record) (k : ℕ) (o : Option NameRow) (bytes : List ℕ)
    → k < g.names → AreBytes bytes → decode_name bytes ≡ slot_for o
    → SetsOneMore b (name_line g k) bytes c → AllLines (is_journaled_line g) c
    → Turns g news v w b → Turns g news v (row_set k o w) c
turns-row g news v w b c k o bytes within are decoded sets lines turns = record {
  lines = lines;
  reads = λ f has r.
      subst (λ h. Reads g h (row_set k o w)) (one_more b (name_line g k) bytes c f sets)
      (reads-row g (with_batch b f) w k o bytes within are decoded (turns.reads f has r));
  chains = turns.chains;
}

-- the line of the log base
pub turns-base : (g : Geometry) (news : List NewChain) (v w : Volume) (b c : List Record) (base : ℕ)
    → base < 2 ^ 64 → SetsOneMore b state_line (state_bytes base) c → AllLines (is_journaled_line g) c
    → Turns g news v w b → Turns g news v (base_set base w) c
turns-base g news v w b c base small sets lines turns = record {
  lines = lines;
  reads = λ f has r.
      subst (λ h. Reads g h (base_set base w)) (one_more b state_line (state_bytes base) c f sets)
      (reads-state g (with_batch b f) w base small (turns.reads f has r));
  chains = turns.chains;
}
