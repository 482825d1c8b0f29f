-- What the files of a mounted volume hold is what those of the state hold, and leaves the reserve.
use Rattle.std.specs.Prelude.{◌≡◌, ◌≢◌, ◌⊎◌, ◌<◌, ◌≤◌, ◌+◌, ℕ, nat_lt, ◌&&◌, true, cond, List, length, slice_index_or, refl}
use Rattle.std.specs.List.{range_with_len}
use Rattle.std.proofs.Common.{arith, ◌∙◌, sym, subst, inl, inr}
use Rattle.std.proofs.lemmas.Bool.Decides.{nat_tests}
use Rattle.std.proofs.lemmas.List.FromFn.{get_or-range_with_len, length-range_with_len}
use Rattle.world_step_laws.specs.block_counts.Counts.{held_by, reserve_for}
use Rattle.world_step_laws.specs.pm_model.Words.{Words}
use Rattle.world_step_laws.specs.layout_model.Places.{data_blocks, reserve}
use Rattle.world_step_laws.specs.layout_model.declared.lines.Draft.{Draft}
use Rattle.world_step_laws.specs.layout_model.declared.lines.Kind.{Kind}
use Rattle.world_step_laws.specs.layout_model.declared.lines.Kind.TheVariants.{Free, Directory, File, Staging}
use Rattle.world_step_laws.specs.layout_model.Names.{names_of}
use Rattle.world_step_laws.specs.image_model.Content.{size_of}
use Rattle.world_step_laws.specs.image_model.Live.{is_file}
use Rattle.world_step_laws.specs.image_model.Room.{held_after_recovery, is_named_file}
use Rattle.world_step_laws.specs.image_model.Volume.{inode, Volume}
use Rattle.world_step_laws.specs.posix_tables.declared.nodes.Node.{Node}
use Rattle.world_step_laws.specs.posix_tables.Nodes.{bytes_of, node_at}
use Rattle.world_step_laws.specs.posix_tables.Room.{held}
use Rattle.world_step_laws.specs.posix_spec.State.{Fits, State}
use Rattle.world_step_laws.specs.world_model.Stands.{NodesStand, NodeStands, number}
use Rattle.world_step_laws.specs.world_model.TreeRules.{used_below}
use Rattle.world_step_laws.specs.Sums.{sum-Reaches}
use Rattle.world_image_laws.specs.Mounted.{IsMounted}

abbrev weight : Node → ℕ
weight node = held_by (length (bytes_of node))

abbrev line_weight : Volume → List Draft → ℕ → ℕ
line_weight v live ino = cond (is_named_file v ino) (held_by (size_of v live ino)) 0

-- a node weighs nothing, or what the file of its inode holds
node_weight : (v : Volume) (live : List Draft) (f : Words) (ino : ℕ) (kind : Kind) (node : Node) → kind ≡ (inode v ino).kind → ((inode v ino).kind ≡ File → 1 ≤ names_of v.names ino) → NodeStands v live f ino kind node
    → weight node ≤ line_weight v live ino
node_weight v live f ino Free node is named stands = absurd stands
node_weight v live f ino Staging node is named stands = absurd stands
node_weight v live f ino Directory Node.Gone is named stands = absurd stands
node_weight v live f ino Directory Node.Directory is named stands = omega arith
node_weight v live f ino Directory (Node.File file) is named stands = absurd stands
node_weight v live f ino File Node.Gone is named stands = absurd stands
node_weight v live f ino File Node.Directory is named stands = absurd stands
node_weight v live f ino File (Node.File file) is named stands =
    let test : is_named_file v ino ≡ true = (λ i. is_file (sym is i) && some (names_of v.names ino) (named (sym is)) i) in
    subst (λ b. held_by (length file.bytes) ≤ cond b (held_by (size_of v live ino)) 0) (sym test) (subst (λ n. held_by (length file.bytes) ≤ held_by n) (sym stands.size) (omega arith))
  where
    some : (n : ℕ) → 1 ≤ n → nat_lt 0 n ≡ true
    some n many = grind (arith, nat_tests, many)

zero_or : (node : Node) → (weight node ≡ 0) ⊎ (node ≢ Node.Gone)
zero_or Node.Gone = inl refl
zero_or Node.Directory = inl refl
zero_or (Node.File file) = inr (λ is. cc)

pub held-mounted : (v : Volume) (live : List Draft) (f : Words) (numbers : List ℕ) (s : State) → IsMounted v → NodesStand v live f numbers s → held s.nodes ≤ held_after_recovery v live
held-mounted v live f numbers s m stand =
    sum-Reaches (λ n i. number numbers i ≡ n) weight (line_weight v live) s.nodes (range_with_len 0 (length v.inodes)) Node.Gone 0 (record { each = λ n below. each n (zero_or (node_at s.nodes n)); one = λ n k i a b. sym a ∙ b }) where
      plus : (n : ℕ) → 0 + n ≡ n
      plus n = omega arith

      each : (n : ℕ) → (weight (node_at s.nodes n) ≡ 0) ⊎ (node_at s.nodes n ≢ Node.Gone)
          → (weight (node_at s.nodes n) ≡ 0) ⊎ ((i : ℕ) × (number numbers i ≡ n) × (i < length (range_with_len 0 (length v.inodes))) × (weight (node_at s.nodes n) ≤ line_weight v live (slice_index_or (range_with_len 0 (length v.inodes)) i 0)))
      each n (inl none) = inl none
      each n (inr there) =
          let its = stand.all n there in
          let low = used_below v its.0 its.1 in
          let weighs = node_weight v live f its.0 (inode v its.0).kind (node_at s.nodes (number numbers its.0)) refl (m.named its.0) (stand.each its.0 its.1) in
          inr (
            its.0,
            its.2,
            subst (λ k. its.0 < k) (sym (length-range_with_len 0 (length v.inodes))) low,
            subst (λ i. weight (node_at s.nodes n) ≤ line_weight v live i) (sym (get_or-range_with_len 0 (length v.inodes) its.0 0 low ∙ plus its.0))
                (subst (λ k. weight (node_at s.nodes k) ≤ line_weight v live its.0) its.2 weighs),
          )

-- THE ROOM at the beginning.
pub Fits-mounted : (v : Volume) (live : List Draft) (f : Words) (numbers : List ℕ) (s : State) → IsMounted v → NodesStand v live f numbers s → s.shape.data_blocks ≡ data_blocks v.geometry
    → held_after_recovery v live + reserve v.geometry ≤ data_blocks v.geometry → Fits s
Fits-mounted v live f numbers s m stand shape fits =
    subst (λ n. held s.nodes + reserve_for n ≤ n) (sym shape) (omega (arith, fits, held-mounted v live f numbers s m stand))
