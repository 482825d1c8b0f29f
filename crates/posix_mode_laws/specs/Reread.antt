-- One file of the medium read anew, over other words: it stands for the state in which the file has the bytes that are found.
use Rattle.std.specs.Prelude.{◌≡◌, ◌≢◌, ◌⊎◌, ◌<◌, ◌≤◌, ◌+◌, ◌*◌, ◌/◌, ◌%◌, ℕ, List, [], ◌∷◌, ◌++◌, length, map, Option, Some, None, slice_index, refl}
use Rattle.std.specs.List.{range_with_len}
use Rattle.std.proofs.Common.{arith, ap, ◌∙◌, sym, subst, inl, inr}
use Rattle.std.proofs.lemmas.Bool.{cases_eq, cases_lt}
use Rattle.std.proofs.lemmas.List.{get_or-set_other, get_or-set_same, length-set}
use Rattle.std.proofs.lemmas.List.FromFn.{get_or-map-range_with_len, length-map-range_with_len}
use Rattle.world_image_laws.specs.pm_model.Words.{byte_of, Words}
use Rattle.world_image_laws.specs.layout_model.declared.lines.Kind.TheVariants.{File}
use Rattle.world_image_laws.specs.image_model.Content.{byte_in, disk_of, size_of}
use Rattle.world_image_laws.specs.image_model.Volume.{inode, Volume}
use Rattle.world_image_laws.specs.posix_tables.declared.nodes.Node.{Node}
use Rattle.world_image_laws.specs.posix_tables.Nodes.{bytes_of, node_at}
use Rattle.world_image_laws.specs.posix_spec.Run.{Unfinished, begun, run}
use Rattle.world_image_laws.specs.posix_spec.State.{State, with_node}
use Rattle.world_image_laws.specs.posix_laws.PublishLaws.{node_set}
use Rattle.world_image_laws.specs.crash_spec.Posix.{ByteRule, IsLeft, LastBeforeCut, NodeLeft, OrUnfinished}
use Rattle.world_image_laws.specs.crash_spec.Values.{IsOneOf, value_put, values_put, with_value}
use Rattle.world_image_laws.specs.volume_laws.OwnerLaws.{IsOnePlace, one_owner}
use Rattle.world_image_laws.specs.world_model.Lent.{once_named}
use Rattle.world_image_laws.specs.world_model.Stands.{is_used, IsSane, IsUsed, NodeStands, number, Stands}
use Rattle.world_image_laws.specs.world_model.TreeRules.{used_below}
use Rattle.posix_mode_laws.specs.BatchLaws.{PermitsLost}
use Rattle.posix_mode_laws.specs.BatchSteps.{node_step}
use Rattle.posix_mode_laws.specs.Permits.{node_words, ShownOf}
use Rattle.posix_mode_laws.specs.Sides.{MediumStands}
use Rattle.posix_mode_laws.specs.Steps.{shown_tree}

-- the bytes of a file as these words have them
abbrev pub found_bytes : Volume → Words → ℕ → List ℕ
found_bytes v g ino = map (λ i. byte_in g (disk_of v [] ino (i / 4096)) i) (range_with_len 0 (size_of v [] ino))

abbrev pub found_node : Volume → Words → ℕ → Node
found_node v g ino = Node.File (record { bytes = found_bytes v g ino; published = 0 })

-- the state in which the file of an inode is read anew
abbrev pub reread : Volume → Words → ℕ → List ℕ → State → State
reread v g ino numbers m = with_node m (number numbers ino) (found_node v g ino)

found_length : (v : Volume) (g : Words) (ino : ℕ) → length (found_bytes v g ino) ≡ size_of v [] ino
found_length v g ino = length-map-range_with_len (λ i. byte_in g (disk_of v [] ino (i / 4096)) i) 0 (size_of v [] ino)

found_at : (v : Volume) (g : Words) (ino i : ℕ) → i < size_of v [] ino → slice_index (found_bytes v g ino) i ≡ byte_in g (disk_of v [] ino (i / 4096)) i
found_at v g ino i below = get_or-map-range_with_len (λ k. byte_in g (disk_of v [] ino (k / 4096)) k) 0 (size_of v [] ino) i i 0 below (omega arith)

file_used : (v : Volume) (ino : ℕ) → (inode v ino).kind ≡ File → IsUsed v ino
file_used v ino file = ap is_used file

module _ (v : Volume) (f g : Words) (numbers : List ℕ) (m : State) (ino : ℕ) (stands : Stands v [] f numbers m) (file : (inode v ino).kind ≡ File) where
  there : node_at (reread v g ino numbers m).nodes (number numbers ino) ≡ found_node v g ino
  there = get_or-set_same m.nodes (number numbers ino) (found_node v g ino) Node.Gone (stands.names.within ino (file_used v ino file))

  own : NodeStands v [] g ino (inode v ino).kind (node_at (reread v g ino numbers m).nodes (number numbers ino))
  own =
      subst (λ kind. NodeStands v [] g ino kind (node_at (reread v g ino numbers m).nodes (number numbers ino))) (sym file)
      (subst (NodeStands v [] g ino File) (sym there)
      (record { size = sym (found_length v g ino); each = λ i below. sym (found_at v g ino i (subst (λ k. i < k) (found_length v g ino) below)) }))

  pub reread_stands : ((j : ℕ) → IsUsed v j → j ≢ ino → ShownOf v f g j) → Stands v [] g numbers (reread v g ino numbers m)
  reread_stands shown = record {
    sane = stands.sane;
    names = record {
      root = stands.names.root;
      root_used = stands.names.root_used;
      within = λ j used. (let below = stands.names.within j used in let same = length-set m.nodes (number numbers ino) (found_node v g ino) in omega (arith, below, same));
      one = stands.names.one;
      names = stands.names.names;
      entry_parents = stands.names.entry_parents;
      distinct = stands.names.distinct;
    };
    nodes = record { each = each; all = all };
    log = stands.log;
  } where
    each : (j : ℕ) → IsUsed v j → NodeStands v [] g j (inode v j).kind (node_at (reread v g ino numbers m).nodes (number numbers j))
    each j used = elim (cases_eq j ino) [
      | inl same ↦ subst (λ k. NodeStands v [] g k (inode v k).kind (node_at (reread v g ino numbers m).nodes (number numbers k))) (sym same) own
      | inr other ↦
          let apart : number numbers j ≢ number numbers ino = λ same. other (stands.names.one j ino used (file_used v ino file) same) in
          subst (NodeStands v [] g j (inode v j).kind) (sym (get_or-set_other m.nodes (number numbers ino) (number numbers j) (found_node v g ino) Node.Gone apart))
          (node_words v f g j (inode v j).kind (node_at m.nodes (number numbers j)) (shown j used other) refl (stands.nodes.each j used))
    ]

    all : (k : ℕ) → node_at (reread v g ino numbers m).nodes k ≢ Node.Gone → (j : ℕ) × IsUsed v j × (number numbers j ≡ k)
    all k is = elim (node_set m.nodes (number numbers ino) (found_node v g ino) k) [
      | inl same ↦ stands.nodes.all k (λ gone. is (same ∙ gone))
      | inr here ↦ (ino, file_used v ino file, sym here.0)
    ]

  -- the node that was read anew, from what stood there
  left_file : (a b : ByteRule) (x y : Node) → NodeStands v [] f ino File y → NodeLeft a (number numbers ino) x y
      → ((i z : ℕ) → i < size_of v [] ino → a (number numbers ino) i z (byte_in f (disk_of v [] ino (i / 4096)) i) → b (number numbers ino) i z (byte_in g (disk_of v [] ino (i / 4096)) i))
      → NodeLeft b (number numbers ino) x (found_node v g ino)
  left_file a b x Node.Gone standing is step = absurd standing
  left_file a b x Node.Directory standing is step = absurd standing
  left_file a b Node.Gone (Node.File old) standing is step = absurd (let never : Node.File old ≡ Node.Gone = is in cc)
  left_file a b Node.Directory (Node.File old) standing is step = absurd (let never : Node.File old ≡ Node.Directory = is in cc)
  left_file a b (Node.File kept) (Node.File old) standing is step = record {
    size = found_length v g ino ∙ (standing.size ∙ is.size);
    each = λ i below.
        let low : i < size_of v [] ino = subst (λ k. i < k) (found_length v g ino) below in
        let old_low : i < length old.bytes = subst (λ k. i < k) standing.size low in
        let was = subst (λ y. a (number numbers ino) i (slice_index kept.bytes i) y) (sym (standing.each i old_low)) (is.each i old_low) in
        subst (λ y. b (number numbers ino) i (slice_index kept.bytes i) y) (sym (found_at v g ino i low)) (step i (slice_index kept.bytes i) low was);
  }

  pub reread_left : (a b : ByteRule) (s : State)
      → ((k i z y : ℕ) → k ≢ number numbers ino → i < length (bytes_of (node_at m.nodes k)) → a k i z y → b k i z y)
      → ((i z : ℕ) → i < size_of v [] ino → a (number numbers ino) i z (byte_in f (disk_of v [] ino (i / 4096)) i) → b (number numbers ino) i z (byte_in g (disk_of v [] ino (i / 4096)) i))
      → IsLeft a s m → IsLeft b s (reread v g ino numbers m)
  reread_left a b s others step is = record {
    entries = is.entries;
    count = length-set m.nodes (number numbers ino) (found_node v g ino) ∙ is.count;
    each = λ k. elim (cases_eq k (number numbers ino)) [
      | inl same ↦ subst (λ j. NodeLeft b j (node_at s.nodes j) (node_at (reread v g ino numbers m).nodes j)) (sym same)
          (subst (NodeLeft b (number numbers ino) (node_at s.nodes (number numbers ino))) (sym there)
          (left_file a b (node_at s.nodes (number numbers ino)) (node_at m.nodes (number numbers ino)) standing (is.each (number numbers ino)) step))
      | inr other ↦ subst (NodeLeft b k (node_at s.nodes k)) (sym (get_or-set_other m.nodes (number numbers ino) k (found_node v g ino) Node.Gone other))
          (node_step a b k (node_at s.nodes k) (node_at m.nodes k) (λ i z y below. others k i z y other below) (is.each k))
    ];
  } where
    standing : NodeStands v [] f ino File (node_at m.nodes (number numbers ino))
    standing = subst (λ kind. NodeStands v [] f ino kind (node_at m.nodes (number numbers ino))) file (stands.nodes.each ino (file_used v ino file))

-- ---- cut off in place

-- a block is in one place of one file
pub one_place : (v : Volume) → IsSane v → (i j x y b : ℕ) → IsUsed v i → IsUsed v j → disk_of v [] i x ≡ Some b → disk_of v [] j y ≡ Some b → IsOnePlace i j x y
one_place v sane i j x y b i_used j_used first second = one_owner v b i j x y (once_named v sane i x b (used_below v i i_used) first) (used_below v i i_used) (used_below v j j_used) first second

one_value : (s : State) (c : Unfinished) (n i x : ℕ) → value_put s c n i ≡ Some x → IsOneOf (values_put s (c ∷ []) n i) x
unfolding values_put
one_value s c n i x is = subst (λ (o : Option ℕ). IsOneOf (with_value o []) x) (sym is) (inl refl)

small : (n : ℕ) → n % 4096 < 4096
small n = omega arith

pub permits_lost : PermitsLost
permits_lost w f g start front later c ino first last left world lost tree_is = inl (record {
  kept = front;
  later = later;
  is = refl;
  fsyncs = m.fsyncs;
  tree_left = (
    reread w.committed g ino w.committed_numbers m.state,
    reread_left w.committed f g w.committed_numbers m.state ino m.stands lost.file (LastBeforeCut s (map begun later)) (OrUnfinished (LastBeforeCut s (map begun later)) (run start (front ++ later)) (c ∷ [])) s
        (λ k i z y other below is. inl is) own m.left,
    shown_tree w.committed g w.committed_numbers (reread w.committed g ino w.committed_numbers m.state) left (reread_stands w.committed f g w.committed_numbers m.state ino m.stands lost.file shown) tree_is.1,
  );
}) where
  m : MediumStands LastBeforeCut w f start front later
  m = world.medium

  s : State
  s = run start front

  n : ℕ
  n = number w.committed_numbers ino

  used : IsUsed w.committed ino
  used = file_used w.committed ino lost.file

  -- files but this one show the same
  shown : (j : ℕ) → IsUsed w.committed j → j ≢ ino → ShownOf w.committed f g j
  shown j j_used other i file below = by (disk_of w.committed [] j (i / 4096)) refl where
    by : (o : Option ℕ) → disk_of w.committed [] j (i / 4096) ≡ o → byte_in g o i ≡ byte_in f o i
    by None at = refl
    by (Some b) at =
        lost.others j (i / 4096) b (i % 4096) j_used at (small i)
        (λ p from low same. absurd (other (one_place w.committed m.stands.sane j ino (i / 4096) (p / 4096) b j_used used at same).inode))

  own : (i z : ℕ) → i < size_of w.committed [] ino → LastBeforeCut s (map begun later) n i z (byte_in f (disk_of w.committed [] ino (i / 4096)) i)
      → OrUnfinished (LastBeforeCut s (map begun later)) (run start (front ++ later)) (c ∷ []) n i z (byte_in g (disk_of w.committed [] ino (i / 4096)) i)
  own i z below is = by (disk_of w.committed [] ino (i / 4096)) refl is where
    same_byte : (b : ℕ) → disk_of w.committed [] ino (i / 4096) ≡ Some b → ((first ≤ i) × (i < last) → ⊥) → byte_of g (4096 * b + i % 4096) ≡ byte_of f (4096 * b + i % 4096)
    same_byte b at outside = lost.others ino (i / 4096) b (i % 4096) used at (small i)
        (λ p from low same rest. outside (
        let place = one_place w.committed m.stands.sane ino ino (i / 4096) (p / 4096) b used used at same in
        let block = place.place in
        let equal : p ≡ i = omega (arith, block, rest) in
        (subst (λ k. first ≤ k) equal from, subst (λ k. k < last) equal low)))

    changed : (b : ℕ) → disk_of w.committed [] ino (i / 4096) ≡ Some b → LastBeforeCut s (map begun later) n i z (byte_of f (4096 * b + i % 4096))
        → (byte_of g (4096 * b + i % 4096) ≡ byte_of f (4096 * b + i % 4096)) ⊎ (value_put (run start (front ++ later)) c n i ≡ Some (byte_of g (4096 * b + i % 4096)))
        → OrUnfinished (LastBeforeCut s (map begun later)) (run start (front ++ later)) (c ∷ []) n i z (byte_of g (4096 * b + i % 4096))
    changed b at was (inl old) = inl (old ∙ was)
    changed b at was (inr put) = inr (one_value (run start (front ++ later)) c n i (byte_of g (4096 * b + i % 4096)) put)

    by : (o : Option ℕ) → disk_of w.committed [] ino (i / 4096) ≡ o → LastBeforeCut s (map begun later) n i z (byte_in f o i)
        → OrUnfinished (LastBeforeCut s (map begun later)) (run start (front ++ later)) (c ∷ []) n i z (byte_in g o i)
    by None at was = inl was
    by (Some b) at was = elim (cases_lt i first) [
      | inl before ↦ changed b at was (inl (same_byte b at (λ range. (let from = range.0 in omega (arith, before, from)))))
      | inr from ↦ elim (cases_lt i last) [
        | inl low ↦ changed b at was (lost.each i b from low at)
        | inr past ↦ changed b at was (inl (same_byte b at (λ range. (let low = range.1 in omega (arith, past, low)))))
      ]
    ]
