-- Inodes and nodes are paired off one by one: what is left of the nodes, once each inode's is gone, holds nothing.
use Rattle.std.specs.Prelude.{◌≡◌, ◌≢◌, ◌<◌, ◌+◌, ℕ, zero, suc, Bool, true, false, List, [], ◌∷◌, length, slice_index, slice_set, sum_by, refl}
use Rattle.std.proofs.Common.{arith, ap, ◌∙◌, sym, subst}
use Rattle.std.proofs.lemmas.List.{get_or-set_other}
use Rattle.std.proofs.lemmas.List.Sums.{sum_by-cons}
use Rattle.name_laws.specs.block_counts.Counts.{held_by}
use Rattle.name_laws.specs.layout_model.declared.lines.Kind.{Kind}
use Rattle.name_laws.specs.layout_model.declared.lines.Kind.TheVariants.{Directory, File, Free, Staging}
use Rattle.name_laws.specs.image_model.Volume.{inode}
use Rattle.crash_spec.specs.posix_laws.posix_tables.declared.nodes.Node.{Node}
use Rattle.crash_spec.specs.posix_laws.posix_tables.Nodes.{bytes_of, node_at}
use Rattle.crash_spec.specs.posix_laws.posix_tables.Room.{held}
use Rattle.world_model.specs.Stands.{is_used, NodeStands, number}
use Rattle.world_model.specs.TreeRules.{used_below}
use Rattle.world_model.specs.HeldLaws.{HeldIsTheSum}

-- what a node holds
weight : Node → ℕ
weight node = held_by (length (bytes_of node))

-- a node goes
held_gone : (nodes : List Node) (n : ℕ) → held (slice_set nodes n Node.Gone) + weight (node_at nodes n) ≡ held nodes
unfolding weight
held_gone [] n = refl
held_gone (x ∷ xs) zero = omega (arith, sum_by-cons weight x xs, sum_by-cons weight Node.Gone xs)
held_gone (x ∷ xs) (suc n) = omega (arith, sum_by-cons weight x xs, sum_by-cons weight x (slice_set xs n Node.Gone), held_gone xs n)

-- and holds nothing then
gone_weight : (nodes : List Node) (n : ℕ) → weight (node_at (slice_set nodes n Node.Gone) n) ≡ 0
unfolding weight
gone_weight [] n = refl
gone_weight (x ∷ xs) zero = refl
gone_weight (x ∷ xs) (suc n) = gone_weight xs n

-- nodes of which none holds anything
held_nothing : (nodes : List Node) → ((n : ℕ) → weight (node_at nodes n) ≡ 0) → held nodes ≡ 0
unfolding weight
held_nothing [] none = refl
held_nothing (x ∷ xs) none = omega (arith, sum_by-cons weight x xs, none 0, held_nothing xs (λ n. none (suc n)))

-- Each index in use has a node, which holds what the size says, no two the same; of the others the size is 0; and each node that
-- holds something is one of them.
record Pairs (used : ℕ → Bool) (place : ℕ → ℕ) (sizes : List ℕ) (nodes : List Node) : Type 0 where
  own : (k : ℕ) → k < length sizes → used k ≡ true → weight (node_at nodes (place k)) ≡ held_by (slice_index sizes k)
  none : (k : ℕ) → k < length sizes → used k ≡ false → slice_index sizes k ≡ 0
  one : (i j : ℕ) → used i ≡ true → used j ≡ true → place i ≡ place j → i ≡ j
  all : (n : ℕ) → weight (node_at nodes n) ≢ 0 → (k : ℕ) × (k < length sizes) × (used k ≡ true) × (place k ≡ n)

-- the pairs behind the first one: its node is gone,
rest_used : (used : ℕ → Bool) (place : ℕ → ℕ) (x : ℕ) (xs : List ℕ) (nodes : List Node) → Pairs used place (x ∷ xs) nodes → used 0 ≡ true
    → Pairs (λ k. used (suc k)) (λ k. place (suc k)) xs (slice_set nodes (place 0) Node.Gone)
rest_used used place x xs nodes pairs first = record {
  own = λ k below is.
      let apart : place (suc k) ≢ place 0 = λ same. (let never : suc k ≡ 0 = pairs.one (suc k) 0 is first same in omega (arith, never)) in
      ap weight (get_or-set_other nodes (place 0) (place (suc k)) Node.Gone Node.Gone apart) ∙ pairs.own (suc k) (omega (arith, below)) is;
  none = λ k below is. pairs.none (suc k) (omega (arith, below)) is;
  one = λ i j ui uj same. (let both = pairs.one (suc i) (suc j) ui uj same in omega (arith, both));
  all = λ n some.
      let apart : n ≢ place 0 = λ same. some (subst (λ m. weight (node_at (slice_set nodes (place 0) Node.Gone) m) ≡ 0) (sym same) (gone_weight nodes (place 0))) in
      let still : weight (node_at nodes n) ≢ 0 = λ zeroth. some (ap weight (get_or-set_other nodes (place 0) n Node.Gone Node.Gone apart) ∙ zeroth) in
      behind n apart (pairs.all n still);
} where
  behind : (n : ℕ) → n ≢ place 0 → (k : ℕ) × (k < length (x ∷ xs)) × (used k ≡ true) × (place k ≡ n) → (k : ℕ) × (k < length xs) × (used (suc k) ≡ true) × (place (suc k) ≡ n)
  behind n apart (zero, below, is, at) = absurd (apart (sym at))
  behind n apart (suc k, below, is, at) = (k, omega (arith, below), is, at)

-- or there was none
rest_unused : (used : ℕ → Bool) (place : ℕ → ℕ) (x : ℕ) (xs : List ℕ) (nodes : List Node) → Pairs used place (x ∷ xs) nodes → used 0 ≡ false
    → Pairs (λ k. used (suc k)) (λ k. place (suc k)) xs nodes
rest_unused used place x xs nodes pairs first = record {
  own = λ k below is. pairs.own (suc k) (omega (arith, below)) is;
  none = λ k below is. pairs.none (suc k) (omega (arith, below)) is;
  one = λ i j ui uj same. (let both = pairs.one (suc i) (suc j) ui uj same in omega (arith, both));
  all = λ n some. behind n (pairs.all n some);
} where
  behind : (n : ℕ) → (k : ℕ) × (k < length (x ∷ xs)) × (used k ≡ true) × (place k ≡ n) → (k : ℕ) × (k < length xs) × (used (suc k) ≡ true) × (place (suc k) ≡ n)
  behind n (zero, below, is, at) = let never : true ≡ false = sym is ∙ first in cc
  behind n (suc k, below, is, at) = (k, omega (arith, below), is, at)

paired : (used : ℕ → Bool) (place : ℕ → ℕ) (sizes : List ℕ) (nodes : List Node) → Pairs used place sizes nodes → sum_by held_by sizes ≡ held nodes
paired used place [] nodes pairs = sym (held_nothing nodes (λ n. nothing n (weight (node_at nodes n)) refl)) where
  nothing : (n m : ℕ) → weight (node_at nodes n) ≡ m → weight (node_at nodes n) ≡ 0
  nothing n zero is = is
  nothing n (suc m) is =
      let found = pairs.all n (λ zeroth. (let never : suc m ≡ 0 = sym is ∙ zeroth in omega (arith, never))) in
      absurd (omega (arith, found.1))
paired used place (x ∷ xs) nodes pairs =
    by (used 0) refl (λ is. paired (λ k. used (suc k)) (λ k. place (suc k)) xs (slice_set nodes (place 0) Node.Gone) (rest_used used place x xs nodes pairs is))
    (λ is. paired (λ k. used (suc k)) (λ k. place (suc k)) xs nodes (rest_unused used place x xs nodes pairs is)) where
      by : (b : Bool) → used 0 ≡ b → (used 0 ≡ true → sum_by held_by xs ≡ held (slice_set nodes (place 0) Node.Gone)) → (used 0 ≡ false → sum_by held_by xs ≡ held nodes) → sum_by held_by (x ∷ xs) ≡ held nodes
      by true is gone still =
          let own : weight (node_at nodes (place 0)) ≡ held_by x = pairs.own 0 (omega arith) is in
          omega (arith, sum_by-cons held_by x xs, own, gone is, held_gone nodes (place 0))
      by false is gone still =
          let empty : x ≡ 0 = pairs.none 0 (omega arith) is in
          omega (arith, sum_by-cons held_by x xs, ap held_by empty, still is)

-- ---- inodes and nodes

no_file : (kind : Kind) → is_used kind ≡ false → kind ≢ File
no_file kind unused is = let never : true ≡ false = sym (ap is_used is) ∙ unused in cc

pub held_is_the_sum : HeldIsTheSum
unfolding weight
held_is_the_sum v live f numbers s sizes stands are =
    paired (λ ino. is_used (inode v ino).kind) (number numbers) sizes s.nodes (record {
      own = λ ino below used. own ino (inode v ino).kind refl (node_at s.nodes (number numbers ino)) (stands.nodes.each ino used);
      none = λ ino below unused. are.others ino (no_file (inode v ino).kind unused);
      one = stands.names.one;
      all = λ n some.
          let there = stands.nodes.all n (λ gone. some (ap weight gone)) in
          (there.0, omega (arith, used_below v there.0 there.1, are.count), there.1, there.2);
    })
  where
    own : (ino : ℕ) (kind : Kind) → (inode v ino).kind ≡ kind → (node : Node) → NodeStands v live f ino kind node → weight node ≡ held_by (slice_index sizes ino)
    own ino Free is node it = absurd it
    own ino Staging is node it = absurd it
    own ino Directory is Node.Gone it = absurd it
    own ino Directory is Node.Directory it = ap held_by (sym (are.others ino (λ file. (let never : Directory ≡ File = sym is ∙ file in cc))))
    own ino Directory is (Node.File x) it = absurd it
    own ino File is Node.Gone it = absurd it
    own ino File is Node.Directory it = absurd it
    own ino File is (Node.File x) it = ap held_by (sym (are.files ino is ∙ it.size))
