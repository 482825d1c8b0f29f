-- What the files of a volume that stands hold is at most what those of the state hold.
use Rattle.std.specs.Prelude.{◌≡◌, ◌≢◌, ◌≤◌, ℕ, zero, suc, ◌+◌, nat_lt, Bool, true, false, cond, List, [], ◌∷◌, length, slice_set, sum_by, refl}
use Rattle.std.specs.List.{range_with_len}
use Rattle.std.proofs.Common.{arith, ap, sym, subst}
use Rattle.std.proofs.lemmas.Bool.{and_parts}
use Rattle.std.proofs.lemmas.List.{get_or-set_other}
use Rattle.std.proofs.lemmas.List.Sums.{sum_by-cons}
use Rattle.name_laws.specs.block_counts.Counts.{held_by, reserve_for}
use Rattle.name_laws.specs.pm_model.Words.{Words}
use Rattle.name_laws.specs.layout_model.Places.{data_blocks, reserve}
use Rattle.name_laws.specs.layout_model.declared.lines.Draft.{Draft}
use Rattle.name_laws.specs.layout_model.declared.lines.Kind.TheVariants.{File}
use Rattle.name_laws.specs.layout_model.Names.{names_of}
use Rattle.name_laws.specs.image_model.Content.{size_of}
use Rattle.name_laws.specs.image_model.Live.{is_file}
use Rattle.name_laws.specs.image_model.Room.{held_after_recovery, is_named_file}
use Rattle.name_laws.specs.image_model.Volume.{inode, Volume}
use Rattle.crash_spec.specs.posix_laws.posix_tables.declared.nodes.Node.{Node}
use Rattle.crash_spec.specs.posix_laws.posix_tables.Nodes.{bytes_of, node_at}
use Rattle.crash_spec.specs.posix_laws.posix_tables.Room.{held}
use Rattle.crash_spec.specs.posix_laws.posix_spec.State.{Fits, State}
use Rattle.world_model.specs.Stands.{Consecutive, entries_of, is_used, IsUsed, NodeStands, number, Stands}
use Rattle.world_model.specs.Contents.{size-same}
use Rattle.world_model.specs.Landed.{kind_file}
use Rattle.world_model.specs.Latest.{OneOrderEach-Consecutive, SameMembers}

-- what a node holds
abbrev weight : Node → ℕ
weight node = held_by (length (bytes_of node))

held_gone : (nodes : List Node) (n : ℕ) → held (slice_set nodes n Node.Gone) + weight (node_at nodes n) ≤ held nodes
held_gone [] n = omega arith
held_gone (x ∷ xs) zero = omega (arith, sum_by-cons weight x xs, sum_by-cons weight Node.Gone xs)
held_gone (x ∷ xs) (suc n) = omega (arith, sum_by-cons weight x xs, sum_by-cons weight x (slice_set xs n Node.Gone), held_gone xs n)

-- Numbers that pass a test have nodes, no two the same, that hold so much.
record HaveNodes (test : ℕ → Bool) (holds : ℕ → ℕ) (num : ℕ → ℕ) (from : ℕ) (nodes : List Node) : Type 0 where
  each : (i : ℕ) → from ≤ i → test i ≡ true → holds i ≤ weight (node_at nodes (num i))
  one : (i j : ℕ) → test i ≡ true → test j ≡ true → num i ≡ num j → i ≡ j

-- Together they hold no more than the nodes.
held_together : (test : ℕ → Bool) (holds : ℕ → ℕ) (num : ℕ → ℕ) (from count : ℕ) (nodes : List Node) → HaveNodes test holds num from nodes
    → sum_by (λ i. cond (test i) (holds i) 0) (range_with_len from count) ≤ held nodes
held_together test holds num from zero nodes have = omega arith
held_together test holds num from (suc count) nodes have = by (test from) refl (held_together test holds num (from + 1) count) where
  apart : (i : ℕ) → from + 1 ≤ i → i ≢ from
  apart i after same = omega (arith, after, same)

  by : (b : Bool) → test from ≡ b → ((others : List Node) → HaveNodes test holds num (from + 1) others → sum_by (λ i. cond (test i) (holds i) 0) (range_with_len (from + 1) count) ≤ held others)
      → sum_by (λ i. cond (test i) (holds i) 0) (from ∷ range_with_len (from + 1) count) ≤ held nodes
  by false is rest =
      let more = rest nodes (record { each = λ i after. have.each i (omega (arith, after)); one = have.one }) in
      omega (arith, sum_by-cons (λ i. cond (test i) (holds i) 0) from (range_with_len (from + 1) count), ap (λ (c : Bool). cond c (holds from) 0) is, more)
  by true is rest =
      let more = rest (slice_set nodes (num from) Node.Gone) (record {
        each = λ i after passes.
            subst (λ n. holds i ≤ weight n)
            (sym (get_or-set_other nodes (num from) (num i) Node.Gone Node.Gone (λ same. apart i after (have.one i from passes is same)))) (have.each i (omega (arith, after)) passes);
        one = have.one;
      }) in
      omega (arith, sum_by-cons (λ i. cond (test i) (holds i) 0) from (range_with_len (from + 1) count), ap (λ (c : Bool). cond c (holds from) 0) is, more, held_gone nodes (num from), have.each from (omega arith) is)

-- Files of a volume that stands.

named_file : (v : Volume) (ino : ℕ) → is_named_file v ino ≡ true → (inode v ino).kind ≡ File
named_file v ino is = kind_file (inode v ino).kind (and_parts (is_file (inode v ino).kind) (nat_lt 0 (names_of v.names ino)) is).0

file_holds : (v : Volume) (live : List Draft) (f : Words) (ino : ℕ) (node : Node) → NodeStands v live f ino File node → held_by (size_of v live ino) ≤ weight node
file_holds v live f ino Node.Gone stands = absurd stands
file_holds v live f ino Node.Directory stands = absurd stands
file_holds v live f ino (Node.File file) stands = subst (λ n. held_by n ≤ held_by (length file.bytes)) (sym stands.size) (omega arith)

pub held-Stands : (v : Volume) (live : List Draft) (f : Words) (numbers : List ℕ) (s : State) → Stands v live f numbers s → held_after_recovery v live ≤ held s.nodes
held-Stands v live f numbers s stands =
    held_together (is_named_file v) (λ ino. held_by (size_of v live ino)) (number numbers) 0 (length v.inodes) s.nodes (record { each = each; one = one }) where
      used : (ino : ℕ) → is_named_file v ino ≡ true → IsUsed v ino
      used ino is = ap is_used (named_file v ino is)

      each : (ino : ℕ) → 0 ≤ ino → is_named_file v ino ≡ true → held_by (size_of v live ino) ≤ weight (node_at s.nodes (number numbers ino))
      each ino after is =
          file_holds v live f ino (node_at s.nodes (number numbers ino))
          (subst (λ k. NodeStands v live f ino k (node_at s.nodes (number numbers ino))) (named_file v ino is) (stands.nodes.each ino (used ino is)))

      one : (i j : ℕ) → is_named_file v i ≡ true → is_named_file v j ≡ true → number numbers i ≡ number numbers j → i ≡ j
      one i j first second same = stands.names.one i j (used i first) (used j second) same

-- So they leave the reserve.
pub held-rule : (v : Volume) (live : List Draft) (f : Words) (numbers : List ℕ) (s : State) → Stands v live f numbers s → Fits s → s.shape.data_blocks ≡ data_blocks v.geometry
    → held_after_recovery v live + reserve v.geometry ≤ data_blocks v.geometry
held-rule v live f numbers s stands fits shape =
    subst (λ n. held_after_recovery v live + reserve_for n ≤ n) shape (omega (arith, fits, held-Stands v live f numbers s stands))

-- Live entries listed in another order give the same.
pub held-same_members : (v : Volume) (xs ys : List Draft) → SameMembers xs ys → ((ino : ℕ) → Consecutive (inode v ino).applied (entries_of ino ys)) → held_after_recovery v ys + reserve v.geometry ≤ data_blocks v.geometry
    → held_after_recovery v xs + reserve v.geometry ≤ data_blocks v.geometry
held-same_members v xs ys same go_on fits =
    subst (λ n. n + reserve v.geometry ≤ data_blocks v.geometry) (sym again) fits where
      again : held_after_recovery v xs ≡ held_after_recovery v ys
      again =
          λ t. sum_by (λ ino. cond (is_named_file v ino) (held_by (size-same v xs ys ino same (OneOrderEach-Consecutive (inode v ino).applied (entries_of ino ys) (go_on ino)) t)) 0)
          (range_with_len 0 (length v.inodes))
