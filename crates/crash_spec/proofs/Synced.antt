-- What POSIX mode leaves where all is published: a history that ends with an `fsync`, after which every file is published
-- whole, leaves one tree.
use Rattle.std.specs.Prelude.{◌≡◌, ℕ, ◌≤◌, Bool, true, false, ◌||◌, List, [], ◌∷◌, ◌++◌, length, map, refl}
use Rattle.std.specs.List.{list_any}
use Rattle.std.proofs.Common.{ap, ◌∙◌, sym, subst, inl, inr}
use Rattle.std.proofs.lemmas.List.{append-nil, ext_get_or, take_all}
use Rattle.std.proofs.lemmas.List.Folds.{list_any-append}
use Rattle.posix_laws.specs.posix_types.declared.item.Item.{Item}
use Rattle.posix_laws.specs.posix_types.declared.tree.TreeEntry.{TreeEntry}
use Rattle.posix_laws.specs.posix_types.declared.tree.TreeNode.{TreeNode}
use Rattle.posix_laws.specs.posix_tables.declared.nodes.File.{File}
use Rattle.posix_laws.specs.posix_tables.declared.nodes.Node.{Node}
use Rattle.posix_laws.specs.posix_tables.declared.places.Place.{Place}
use Rattle.posix_laws.specs.posix_tables.Nodes.{node_at}
use Rattle.posix_laws.specs.posix_tables.Places.{places, tree_entry, tree_node}
use Rattle.posix_laws.specs.posix_spec.Run.{after_calls, Unfinished, begun, run}
use Rattle.posix_laws.specs.posix_spec.State.{State}
use Rattle.posix_laws.specs.posix_spec.Tree.{tree}
use Rattle.crash_spec.specs.Laws.{AllPublished, IsPublished}
use Rattle.crash_spec.specs.Posix.{acting, ByteRule, FileLeft, NodeLeft, others, OrUnfinished, Overwritten, Posix, syncs, TreeLeft}
use Rattle.crash_spec.specs.Values.{is_shortened, values_put}

-- a rule by which each byte is as it was
abbrev pub KeepsBytes : ByteRule → Type 0
KeepsBytes rule = (n i v x : ℕ) → rule n i v x → x ≡ v

same_file : (rule : ByteRule) (n : ℕ) (file left : File) → KeepsBytes rule → length file.bytes ≤ file.published → FileLeft rule n file left.bytes → left.bytes ≡ file.bytes
same_file rule n file left keeps whole is =
    let size : length left.bytes ≡ length file.bytes = is.size ∙ ap length (take_all file.published file.bytes whole) in
    ext_get_or 0 left.bytes file.bytes size (λ i below. keeps n i _ _ (is.each i below))

same_node : (rule : ByteRule) (n : ℕ) (node left : Node) → KeepsBytes rule → IsPublished node → NodeLeft rule n node left → tree_node left ≡ tree_node node
same_node rule n (Node.File file) (Node.File left) keeps whole is = ap TreeNode.File (same_file rule n file left keeps whole is)
same_node rule n (Node.File file) Node.Gone keeps whole is = absurd is
same_node rule n (Node.File file) Node.Directory keeps whole is = absurd is
same_node rule n Node.Gone left keeps whole is = ap tree_node is
same_node rule n Node.Directory left keeps whole is = ap tree_node is

-- what is left by such a rule of a state that is published whole is its tree
pub TreeLeft-published : (rule : ByteRule) (s : State) (left : List TreeEntry) → KeepsBytes rule → AllPublished s → TreeLeft rule s left → left ≡ tree s
TreeLeft-published rule s left keeps whole is =
    let m = is.0 in
    let by = is.1 in
    let each : (n : ℕ) → tree_node (node_at m.nodes n) ≡ tree_node (node_at s.nodes n) = λ n. same_node rule n (node_at s.nodes n) (node_at m.nodes n) keeps (whole n) (by.each n) in
    is.2
    ∙ ap (λ entries. map (tree_entry m.nodes) (places entries)) by.entries
    ∙ (λ k. map (λ (place : Place). (let entry : TreeEntry = record { path = place.path; node = each place.node k } in entry)) (places s.entries))

-- without unfinished calls and later ones each byte is as it was
idle_rule : (s h : State) → KeepsBytes (OrUnfinished (Overwritten s []) h [])
unfolding is_shortened values_put
idle_rule s h n i v x is = elim is [ inl by_rule ↦ by_rule | inr by_others ↦ absurd by_others ]

any_last : (a b c : Bool) → (a || (b || false)) ≡ c → b ≡ true → c ≡ true
any_last true true c is synced = sym is
any_last false true c is synced = sym is
any_last a false c is synced = cc

both_empty : (xs ys : List Item) → xs ++ ys ≡ [] → ys ≡ []
both_empty [] ys is = is
both_empty (x ∷ xs) ys is = cc

-- of a list that ends with an `fsync`, each front that keeps all such calls is the whole list
ends_synced : (kept later front : List Item) (item : Item) → front ++ item ∷ [] ≡ kept ++ later → syncs item ≡ true → list_any syncs later ≡ false → later ≡ []
ends_synced [] later front item is synced none =
    let any : list_any syncs later ≡ true = any_last _ _ _ (sym (list_any-append syncs front (item ∷ [])) ∙ ap (λ xs. list_any syncs xs) is) synced in
    let never : true ≡ false = sym any ∙ none in
    cc
ends_synced (k ∷ kept) later [] item is synced none = both_empty kept later (let same : kept ++ later ≡ [] = cc in same)
ends_synced (k ∷ kept) later (f ∷ front) item is synced none = ends_synced kept later front item (let same : front ++ item ∷ [] ≡ kept ++ later = cc in same) synced none

none_act : (marks : List Bool) → acting marks [] ≡ []
none_act [] = refl
none_act (mark ∷ marks) = refl

none_rest : (marks : List Bool) → others marks [] ≡ []
none_rest [] = refl
none_rest (mark ∷ marks) = refl

all_kept : (h kept later : List Item) → h ≡ kept ++ later → later ≡ [] → kept ≡ h
all_kept h kept later is none = sym (is ∙ ap (λ xs. kept ++ xs) none ∙ append-nil kept)

-- A history that ends with an `fsync`, after which every file is published whole, leaves one tree where no call is
-- unfinished.
pub Posix-synced : (s : State) (front : List Item) (item : Item) (left : List TreeEntry) → syncs item ≡ true → AllPublished (run s (front ++ item ∷ []))
    → Posix s (front ++ item ∷ []) [] left → left ≡ tree (run s (front ++ item ∷ []))
Posix-synced s front item left synced whole is = elim is [
  | inl fronted ↦
      let none = ends_synced fronted.kept fronted.later front item fronted.is synced fronted.fsyncs in
      let same = all_kept (front ++ item ∷ []) fronted.kept fronted.later fronted.is none in
      let h = run s (front ++ item ∷ []) in
      let there : TreeLeft (OrUnfinished (Overwritten h []) h []) h left =
      subst (λ (xs : List Item). TreeLeft (OrUnfinished (Overwritten (run s xs) []) h []) (run s xs) left) same
      (subst (λ (xs : List Item). TreeLeft (OrUnfinished (Overwritten (run s fronted.kept) (map begun xs)) h []) (run s fronted.kept) left) none fronted.tree_left) in
      TreeLeft-published (OrUnfinished (Overwritten h []) h []) h left (idle_rule h h) whole there
  | inr more ↦ elim more [
    | inl all ↦
        let h = run s (front ++ item ∷ []) in
        let there : TreeLeft (OrUnfinished (Overwritten h []) h []) h left =
        subst (λ (cs : List Unfinished). TreeLeft (OrUnfinished (Overwritten h []) h cs) h left) (none_rest all.marks)
        (subst (λ (cs : List Unfinished). TreeLeft (OrUnfinished (Overwritten (after_calls h cs) []) h (others all.marks [])) (after_calls h cs) left) (none_act all.marks) all.tree_left) in
        TreeLeft-published (OrUnfinished (Overwritten h []) h []) h left (idle_rule h h) whole there
    | inr same ↦ same
  ]
]
