-- What is nearest to a tree may be left; and where the tree may be left, it is that of what is nearest.
use Rattle.std.specs.Prelude.{◌≡◌, ◌⊎◌, ◌↔◌, ℕ, ◌<◌, ◌≤◌, Bool, true, false, cond, ◌||◌, ◌==◌, nat_lt, IsTrue, List, [], ◌∷◌, length, map, Option, Some, None, unwrap_or, slice_index, refl}
use Rattle.std.proofs.Common.{arith, ap, ◌∙◌, sym, subst, inl, inr}
use Rattle.std.proofs.lemmas.Bool.Decides.{nat_tests}
use Rattle.std.proofs.lemmas.List.{ext_get_or, get_or_past}
use Rattle.crash_spec.specs.posix_types.declared.tree.TreeEntry.{TreeEntry}
use Rattle.crash_spec.specs.posix_types.declared.tree.TreeNode.{TreeNode}
use Rattle.posix_tables.specs.declared.nodes.File.{File}
use Rattle.posix_tables.specs.declared.nodes.Node.{Node}
use Rattle.posix_tables.specs.declared.places.Place.{Place}
use Rattle.posix_tables.specs.Nodes.{bytes_of, node_at}
use Rattle.posix_tables.specs.Places.{places, tree_entry, tree_node}
use Rattle.crash_spec.specs.posix_spec.State.{State}
use Rattle.crash_spec.specs.posix_spec.Tree.{tree}
use Rattle.crash_spec.specs.Posix.{FileLeft, IsLeft, NodeLeft, TreeLeft}
use Rattle.crash_spec.specs.Values.{value_of}
use Rattle.crash_judge.specs.declared.judge_bytes.effects.Effect.{Effect}
use Rattle.crash_judge.specs.Effects.{any_cuts, any_puts, EffectRule, is_value, may_be, newest}
use Rattle.crash_judge.specs.Nearest.{AreNearest, IsNearest, IsNearestNode, nearest}
use Rattle.crash_judge.specs.Wanted.{numbers_of, wanted}
use Rattle.crash_judge.proofs.WantedLaws.{Each, Each-map, IsWanted, same_map, wanted-tree}

-- ---- the newest value may be there

same : (a : ℕ) → (a == a) ≡ true
same a = grind (arith, nat_tests)

true_or : (b a : Bool) → b ≡ true → (b || a) ≡ true
true_or true a is = refl
true_or false a is = cc

or_true : (b a : Bool) → a ≡ true → (b || a) ≡ true
or_true true a is = refl
or_true false a is = is

regroup : (a b c : Bool) → (a || (b || c)) ≡ true → (b || a || c) ≡ true
regroup true true c is = refl
regroup true false c is = refl
regroup false true c is = refl
regroup false false c is = is

-- it is the first value, or one that is put
newest_is_one : (effects : List Effect) (n i v : ℕ) → ((v == newest effects n i v) || any_puts effects n i (newest effects n i v)) ≡ true
newest_is_one [] n i v = true_or (v == v) false (same v)
newest_is_one (e ∷ effects) n i v = by (value_of e.put n i) (newest_is_one effects n i) where
  by : (o : Option ℕ) → ((w : ℕ) → ((w == newest effects n i w) || any_puts effects n i (newest effects n i w)) ≡ true)
      → (let x : ℕ = newest effects n i (unwrap_or o v) in ((v == x) || (is_value o x || any_puts effects n i x)) ≡ true)
  by None rest = rest v
  by (Some y) rest = or_true (v == newest effects n i y) _ (rest y)

newest_may_be : (effects extra : List Effect) (n i v : ℕ) → may_be effects extra n i v (newest effects n i v) ≡ true
newest_may_be effects extra n i v = true_or _ _ (by (any_cuts effects n i)) where
  by : (b : Bool) → cond b ((v == newest effects n i v) || any_puts effects n i (newest effects n i v)) (newest effects n i v == newest effects n i v) ≡ true
  by true = newest_is_one effects n i v
  by false = same (newest effects n i v)

-- so the nearest may be there
nearest_may_be : (effects extra : List Effect) (n i v x : ℕ) → EffectRule effects extra n i v (nearest effects extra n i v x)
nearest_may_be effects extra n i v x = by (may_be effects extra n i v x) refl where
  by : (b : Bool) → may_be effects extra n i v x ≡ b → may_be effects extra n i v (cond b x (newest effects n i v)) ≡ true
  by true is = is
  by false is = newest_may_be effects extra n i v

pub split : (a b : ℕ) → (a < b) ⊎ (b ≤ a)
split a b = by (nat_lt a b) refl where
  by : (c : Bool) → nat_lt a b ≡ c → (a < b) ⊎ (b ≤ a)
  by true is = inl (grind (arith, nat_tests))
  by false is = inr (grind (arith, nat_tests))

-- ---- what is nearest is left

node_left : (effects extra : List Effect) (n : ℕ) (want : List ℕ) (node new : Node) → IsNearestNode effects extra n want node new → NodeLeft (EffectRule effects extra) n node new
node_left effects extra n want (Node.File file) (Node.File left) is = record {
  size = is.size;
  each = λ i below. subst (λ x. EffectRule effects extra n i (slice_index file.bytes i) x) (sym (is.each i below)) (nearest_may_be effects extra n i (slice_index file.bytes i) (slice_index want i));
}
node_left effects extra n want (Node.File file) Node.Gone is = is
node_left effects extra n want (Node.File file) Node.Directory is = is
node_left effects extra n want Node.Gone new is = is
node_left effects extra n want Node.Directory new is = is

-- a number beyond all nodes
both_gone : (rule : (n i v x : ℕ) → Type 0) (n : ℕ) (nodes new : List Node) → length nodes ≤ n → length new ≡ length nodes → NodeLeft rule n (node_at nodes n) (node_at new n)
both_gone rule n nodes new past size =
    let there = get_or_past nodes n Node.Gone past in
    let left = get_or_past new n Node.Gone (omega (arith, past, size)) in
    subst (λ (node : Node). NodeLeft rule n node (node_at new n)) (sym there) left

pub nearest_is_left : (effects extra : List Effect) (numbers : List ℕ) (left : List TreeEntry) (s : State) (new : List Node) → AreNearest effects extra numbers left s.nodes new
    → IsLeft (EffectRule effects extra) s (record s { nodes = new })
nearest_is_left effects extra numbers left s new are = record { entries = refl; count = are.size; each = each } where
  each : (n : ℕ) → NodeLeft (EffectRule effects extra) n (node_at s.nodes n) (node_at new n)
  each n = by (split n (length s.nodes)) where
    by : (n < length s.nodes) ⊎ (length s.nodes ≤ n) → NodeLeft (EffectRule effects extra) n (node_at s.nodes n) (node_at new n)
    by (inl below) = node_left effects extra n (wanted numbers left n) (node_at s.nodes n) (node_at new n) (are.each n below)
    by (inr past) = both_gone (EffectRule effects extra) n s.nodes new past are.size

-- ---- and a tree that may be left is that of what is nearest

nearest_wanted : (effects extra : List Effect) (n i v x : ℕ) → EffectRule effects extra n i v x → nearest effects extra n i v x ≡ x
nearest_wanted effects extra n i v x is = ap (λ b. cond b x (newest effects n i v)) is

file_same : (effects extra : List Effect) (n : ℕ) (want : List ℕ) (file : File) (left new : List ℕ) → want ≡ left → FileLeft (EffectRule effects extra) n file left → IsNearest effects extra n want file new
    → new ≡ left
file_same effects extra n want file left new wants is near =
    let size : length new ≡ length left = near.size ∙ sym is.size in
    ext_get_or 0 new left size (λ i below.
    let value = slice_index file.bytes i in
    let wanted_is : slice_index want i ≡ slice_index left i = ap (λ xs. slice_index xs i) wants in
    let there : i < length left = subst (λ k. i < k) size below in
    near.each i below
    ∙ ap (nearest effects extra n i value) wanted_is
    ∙ nearest_wanted effects extra n i value (slice_index left i) (is.each i there))

node_same : (effects extra : List Effect) (n : ℕ) (want : List ℕ) (node left new : Node) → want ≡ bytes_of left → NodeLeft (EffectRule effects extra) n node left → IsNearestNode effects extra n want node new
    → tree_node left ≡ tree_node new
node_same effects extra n want (Node.File file) (Node.File left) (Node.File new) wants is near = ap TreeNode.File (sym (file_same effects extra n want file left.bytes new.bytes wants is near))
node_same effects extra n want (Node.File file) (Node.File left) Node.Gone wants is near = absurd near
node_same effects extra n want (Node.File file) (Node.File left) Node.Directory wants is near = absurd near
node_same effects extra n want (Node.File file) Node.Gone new wants is near = absurd is
node_same effects extra n want (Node.File file) Node.Directory new wants is near = absurd is
node_same effects extra n want Node.Gone left new wants is near = ap tree_node (is ∙ sym near)
node_same effects extra n want Node.Directory left new wants is near = ap tree_node (is ∙ sym near)

pub left_is_nearest : (effects extra : List Effect) (s m : State) (left : List TreeEntry) (new : List Node) → AreNearest effects extra (numbers_of (length s.nodes) s.entries) left s.nodes new
    → IsLeft (EffectRule effects extra) s m → left ≡ tree m → left ≡ map (tree_entry new) (places s.entries)
left_is_nearest effects extra s m left new are is tree_is =
    whole ∙ same_map (tree_entry m.nodes) (tree_entry new) (places s.entries) each
  where
    count : ℕ
    count = length s.nodes

    whole : left ≡ map (tree_entry m.nodes) (places s.entries)
    whole = tree_is ∙ ap (λ entries. map (tree_entry m.nodes) (places entries)) is.entries

    wants : Each (IsWanted count m.nodes (numbers_of count s.entries) left) (places s.entries)
    wants = subst (λ (t : List TreeEntry). Each (IsWanted count m.nodes (numbers_of count s.entries) t) (places s.entries)) (sym whole) (wanted-tree count m.nodes (places s.entries))

    at : (place : Place) → IsWanted count m.nodes (numbers_of count s.entries) left place → tree_entry m.nodes place ≡ tree_entry new place
    at place wanted_is = by (split place.node count) where
      node : (place.node < count) ⊎ (count ≤ place.node) → tree_node (node_at m.nodes place.node) ≡ tree_node (node_at new place.node)
      node (inl below) = node_same effects extra place.node (wanted (numbers_of count s.entries) left place.node) (node_at s.nodes place.node) (node_at m.nodes place.node) (node_at new place.node)
          (wanted_is below) (is.each place.node) (are.each place.node below)
      node (inr past) =
          let gone = get_or_past m.nodes place.node Node.Gone (let n = is.count in omega (arith, past, n)) in
          let left_gone = get_or_past new place.node Node.Gone (let n = are.size in omega (arith, past, n)) in
          ap tree_node (gone ∙ sym left_gone)

      by : (place.node < count) ⊎ (count ≤ place.node) → tree_entry m.nodes place ≡ tree_entry new place
      by either = λ k. record { path = place.path; node = node either k }

    each : Each (λ place. tree_entry m.nodes place ≡ tree_entry new place) (places s.entries)
    each = Each-map (IsWanted count m.nodes (numbers_of count s.entries) left) (λ place. tree_entry m.nodes place ≡ tree_entry new place) (places s.entries) at wants

-- so a tree may be left exactly where it is that of what is nearest
pub TreeLeft-nearest : (effects extra : List Effect) (s : State) (left : List TreeEntry) (new : List Node) → AreNearest effects extra (numbers_of (length s.nodes) s.entries) left s.nodes new
    → (left ≡ map (tree_entry new) (places s.entries)) ↔ TreeLeft (EffectRule effects extra) s left
TreeLeft-nearest effects extra s left new are = (
  λ is. (record s { nodes = new }, nearest_is_left effects extra (numbers_of (length s.nodes) s.entries) left s new are, is),
  λ is. left_is_nearest effects extra s is.0 left new are is.1 is.2,
)

pub AreNearest-same : (effects extra : List Effect) (numbers numbers2 : List ℕ) (left left2 : List TreeEntry) (nodes nodes2 new new2 : List Node) → numbers ≡ numbers2 → left ≡ left2 → nodes ≡ nodes2
    → new ≡ new2 → AreNearest effects extra numbers left nodes new → AreNearest effects extra numbers2 left2 nodes2 new2
AreNearest-same effects extra numbers numbers2 left left2 nodes nodes2 new new2 a b c d are =
    subst (λ (x : List ℕ). AreNearest effects extra x left2 nodes2 new2) a
    (subst (λ (x : List TreeEntry). AreNearest effects extra numbers x nodes2 new2) b
    (subst (λ (x : List Node). AreNearest effects extra numbers left x new2) c
    (subst (λ (x : List Node). AreNearest effects extra numbers left nodes x) d are)))

pub left_decided : (effects extra : List Effect) (s : State) (left found : List TreeEntry) (new : List Node) (b : Bool) → (IsTrue b ↔ (left ≡ found)) → found ≡ map (tree_entry new) (places s.entries)
    → AreNearest effects extra (numbers_of (length s.nodes) s.entries) left s.nodes new → IsTrue b ↔ TreeLeft (EffectRule effects extra) s left
left_decided effects extra s left found new b is found_is are =
    let same = TreeLeft-nearest effects extra s left new are in
    (λ t. same.0 (is.0 t ∙ found_is), λ h. is.1 (same.1 h ∙ sym found_is))
