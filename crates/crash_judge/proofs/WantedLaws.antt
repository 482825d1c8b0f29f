-- What nodes that tell their numbers tell, and that a tree wants of each node the bytes that it has.
use Rattle.std.specs.Prelude.{◌≡◌, ℕ, ◌<◌, ◌≤◌, Bool, true, false, cond, ◌==◌, nat_lt, List, [], ◌∷◌, length, map, refl}
use Rattle.std.proofs.Common.{arith, ap, ◌∙◌}
use Rattle.std.proofs.lemmas.Bool.Decides.{nat_tests}
use Rattle.std.proofs.lemmas.List.{get_or_past, length-replicate}
use Rattle.crash_spec.specs.posix_types.declared.tree.TreeEntry.{TreeEntry}
use Rattle.posix_tables.specs.declared.nodes.Node.{Node}
use Rattle.posix_tables.specs.declared.places.Place.{Place}
use Rattle.posix_tables.specs.Nodes.{bytes_of, node_at}
use Rattle.posix_tables.specs.declared.nodes.DirEntry.{DirEntry}
use Rattle.posix_tables.specs.Places.{places, tree_entry, tree_node}
use Rattle.crash_judge.specs.Wanted.{AreLabels, entry_bytes, numbers_of, told_number, wanted, within}

-- the number that a label tells
told : (count : ℕ) (nodes : List Node) (n : ℕ) → AreLabels count nodes → told_number count (tree_node (node_at nodes n)) ≡ within count n
told count nodes n are = by (nat_lt n count) refl where
  by : (b : Bool) → nat_lt n count ≡ b → told_number count (tree_node (node_at nodes n)) ≡ cond b n count
  by true is =
      let below : n < count = grind (arith, nat_tests) in
      ap (λ (node : Node). told_number count (tree_node node)) (are.each n below) ∙ length-replicate n 0
  by false is =
      let past : length nodes ≤ n = (let size = are.size in grind (arith, nat_tests)) in
      ap (λ (node : Node). told_number count (tree_node node)) (get_or_past nodes n Node.Gone past)

pub told_all : (count : ℕ) (nodes : List Node) (spots : List Place) → AreLabels count nodes
    → map (λ (entry : TreeEntry). told_number count entry.node) (map (tree_entry nodes) spots) ≡ map (λ (place : Place). within count place.node) spots
told_all count nodes [] are = refl
told_all count nodes (place ∷ rest) are = λ i. told count nodes place.node are i ∷ told_all count nodes rest are i

-- the numbers that are read from the tree of nodes that tell them
pub numbers_told : (count : ℕ) (nodes given : List Node) (tree found : List TreeEntry) (numbers : List ℕ) (entries : List DirEntry) → AreLabels count nodes → given ≡ nodes
    → tree ≡ map (tree_entry given) (places entries) → found ≡ tree → numbers ≡ map (λ (entry : TreeEntry). told_number count entry.node) found → numbers ≡ numbers_of count entries
numbers_told count nodes given tree found numbers entries are same is read_is numbers_are =
    numbers_are
    ∙ ap (λ (xs : List TreeEntry). map (λ (entry : TreeEntry). told_number count entry.node) xs) (read_is ∙ is ∙ ap (λ (ns : List Node). map (tree_entry ns) (places entries)) same)
    ∙ told_all count nodes (places entries) are

bytes_told : (node : Node) → entry_bytes (tree_node node) ≡ bytes_of node
bytes_told Node.Gone = refl
bytes_told Node.Directory = refl
bytes_told (Node.File file) = refl

-- what holds of each place of a list
abbrev pub Each : (Place → Type 0) → List Place → Type 0
Each P [] = Unit {0}
Each P (place ∷ spots) = P place × Each P spots

pub Each-map : (P Q : Place → Type 0) (spots : List Place) → ((place : Place) → P place → Q place) → Each P spots → Each Q spots
Each-map P Q [] implies each = tt
Each-map P Q (place ∷ spots) implies each = (implies place each.0, Each-map P Q spots implies each.1)

-- two lists of what is read at spots are one where they are so at each place
pub same_map : (f g : Place → TreeEntry) (spots : List Place) → Each (λ place. f place ≡ g place) spots → map f spots ≡ map g spots
same_map f g [] each = refl
same_map f g (place ∷ spots) each = λ i. each.0 i ∷ same_map f g spots each.1 i

-- the tree of some nodes wants of each node that is there the bytes that it has
abbrev pub IsWanted : ℕ → List Node → List ℕ → List TreeEntry → Place → Type 0
IsWanted count nodes numbers left place = place.node < count → wanted numbers left place.node ≡ bytes_of (node_at nodes place.node)

abbrev pub numbers_at : ℕ → List Place → List ℕ
numbers_at count spots = map (λ (place : Place). within count place.node) spots

same_number : (count m n : ℕ) → n < count → (within count m == n) ≡ true → m ≡ n
same_number count m n below same = by (nat_lt m count) refl same where
  by : (b : Bool) → nat_lt m count ≡ b → (cond b m count == n) ≡ true → m ≡ n
  by true is same' = grind (arith, nat_tests)
  by false is same' = absurd (let other : ⊥ = grind (arith, nat_tests) in other)

own_number : (count n : ℕ) → n < count → (within count n == n) ≡ true
own_number count n below =
    let is : nat_lt n count ≡ true = grind (arith, nat_tests) in
    let same : (n == n) ≡ true = grind (arith, nat_tests) in
    ap (λ b. cond b n count == n) is ∙ same

pub wanted-tree : (count : ℕ) (nodes : List Node) (spots : List Place) → Each (IsWanted count nodes (numbers_at count spots) (map (tree_entry nodes) spots)) spots
wanted-tree count nodes [] = tt
wanted-tree count nodes (p ∷ spots) = (first, Each-map (IsWanted count nodes (numbers_at count spots) (map (tree_entry nodes) spots)) (IsWanted count nodes (numbers_at count (p ∷ spots)) (map (tree_entry nodes) (p ∷ spots))) spots further (wanted-tree count nodes spots))
  where
    first : IsWanted count nodes (numbers_at count (p ∷ spots)) (map (tree_entry nodes) (p ∷ spots)) p
    first below =
        ap (λ b. cond b (entry_bytes (tree_node (node_at nodes p.node))) (wanted (numbers_at count spots) (map (tree_entry nodes) spots) p.node)) (own_number count p.node below)
        ∙ bytes_told (node_at nodes p.node)

    further : (q : Place) → IsWanted count nodes (numbers_at count spots) (map (tree_entry nodes) spots) q → IsWanted count nodes (numbers_at count (p ∷ spots)) (map (tree_entry nodes) (p ∷ spots)) q
    further q is below = by (within count p.node == q.node) refl where
      by : (b : Bool) → (within count p.node == q.node) ≡ b
          → cond b (entry_bytes (tree_node (node_at nodes p.node))) (wanted (numbers_at count spots) (map (tree_entry nodes) spots) q.node) ≡ bytes_of (node_at nodes q.node)
      by true same = bytes_told (node_at nodes p.node) ∙ ap (λ n. bytes_of (node_at nodes n)) (same_number count p.node q.node below same)
      by false other = is below
