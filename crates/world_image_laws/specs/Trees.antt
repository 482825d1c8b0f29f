-- The content of a mounted volume is listed by a tree: the root first, each entry below a directory that stands before it.
use Rattle.std.specs.Prelude.{◌≡◌, ◌⊎◌, ◌==◌, nat_lt, ℕ, true, false, cond, List, [], ◌∷◌, ◌++◌, flat_map, Some, refl}
use Rattle.std.specs.Cmp.Lexicographic.{slice_cmp}
use Rattle.std.specs.Ordering.{is_lt, nat_cmp, ordering_then}
use Rattle.std.specs.declared.cmp.Ordering.TheVariants.{Equal, Greater, Less}
use Rattle.std.proofs.Common.{arith, ap, ◌∙◌, append_assoc, sym, subst, inl, inr}
use Rattle.std.proofs.lemmas.Grind.{flat_map-append}
use Rattle.std.proofs.lemmas.Bool.Decides.{nat_tests}
use Rattle.std.proofs.lemmas.Option.{same_Some}
use Rattle.world_step_laws.specs.pm_model.Words.{Words}
use Rattle.world_step_laws.specs.layout_model.declared.lines.Draft.{Draft}
use Rattle.world_step_laws.specs.layout_model.Names.{walk}
use Rattle.world_step_laws.specs.layout_model.TableLaws.{NamingLine-child_named}
use Rattle.world_step_laws.specs.image_model.Content.{bytes_of_file, found, IsDirectory, node_by}
use Rattle.world_step_laws.specs.image_model.Live.{is_directory}
use Rattle.world_step_laws.specs.image_model.Volume.{inode, Volume}
use Rattle.world_step_laws.specs.name_laws.KeptLaws.{kept-placed}
use Rattle.world_step_laws.specs.posix_types.declared.tree.TreeEntry.{TreeEntry}
use Rattle.world_step_laws.specs.posix_types.declared.tree.TreeNode.{TreeNode}
use Rattle.world_step_laws.specs.posix_tables.Names.{bytes_before}
use Rattle.world_step_laws.specs.posix_tables.Places.{printed}
use Rattle.world_step_laws.specs.list_laws.Members.{In}
use Rattle.world_step_laws.specs.posix_laws.Begins.{Follow, IsTree, MayFollow}
use Rattle.world_step_laws.specs.posix_laws.Order.{before_trans, not_before_itself, RisingBy}
use Rattle.world_step_laws.specs.posix_laws.Paths.{by_last, IsFilled}
use Rattle.world_step_laws.specs.world_model.Shown.{IsTreeOfContent, shown_as}
use Rattle.world_step_laws.specs.world_model.Stands.{is_used}
use Rattle.world_step_laws.specs.world_model.TreeRules.{all_lines, parent_used}
use Rattle.world_image_laws.specs.Mounted.{directory_shown, filled_name, found_at, IsMounted, last_step, nothing_before_root, printed_more, same_shown, Shows, shows}

abbrev text : TreeEntry → List ℕ
text e = printed e.path

-- ---- a path is printed before the paths below it

same_order : (n : ℕ) → nat_cmp n n ≡ Equal
same_order n = λ i. cond (not_less n i) Less (cond (itself n i) Equal Greater) where
  not_less : (k : ℕ) → nat_lt k k ≡ false
  not_less k = grind (arith, nat_tests)

  itself : (k : ℕ) → (k == k) ≡ true
  itself k = grind (arith, nat_tests)

longer : (xs : List ℕ) (y : ℕ) (ys : List ℕ) → bytes_before xs (xs ++ y ∷ ys) ≡ true
longer [] y ys = refl
longer (x ∷ xs) y ys = ap (λ r. is_lt (ordering_then r (slice_cmp nat_cmp xs (xs ++ y ∷ ys)))) (same_order x) ∙ longer xs y ys

abbrev slashed : List (List ℕ) → List ℕ
slashed names = flat_map (λ (name : List ℕ). 47 ∷ name) names

printed_before : (q : List (List ℕ)) (x : List ℕ) → IsFilled x → bytes_before (printed q) (printed (q ++ x ∷ [])) ≡ true
printed_before [] [] filled = absurd filled
printed_before [] (b ∷ bs) filled = ap (bytes_before (47 ∷ [])) (printed_more (b ∷ bs) []) ∙ longer (47 ∷ []) b (bs ++ [])
printed_before (n ∷ ns) x filled =
    (λ i. bytes_before (printed_more n ns i) (printed_more n (ns ++ x ∷ []) i))
    ∙ (ap (bytes_before (slashed (n ∷ ns))) (flat_map-append (λ (name : List ℕ). 47 ∷ name) (n ∷ ns) (x ∷ [])) ∙ longer (slashed (n ∷ ns)) 47 (x ++ []))

-- ---- rising lists

rising_before : (front : List TreeEntry) (e : TreeEntry) (es : List TreeEntry) → RisingBy text (front ++ e ∷ es) → (other : TreeEntry) → In other front → bytes_before (text other) (text e) ≡ true
rising_before [] e es rising other is = absurd is
rising_before (x ∷ front) e es rising other (inl same) = subst (λ o. bytes_before (text o) (text e) ≡ true) same (rising.0 e (middle front e es)) where
  middle : (xs : List TreeEntry) (y : TreeEntry) (ys : List TreeEntry) → In y (xs ++ y ∷ ys)
  middle [] y ys = inl refl
  middle (z ∷ zs) y ys = inr (middle zs y ys)
rising_before (x ∷ front) e es rising other (inr behind) = rising_before front e es rising.1 other behind

rising_behind : (front : List TreeEntry) (e : TreeEntry) (es : List TreeEntry) → RisingBy text (front ++ e ∷ es) → (other : TreeEntry) → In other es → bytes_before (text e) (text other) ≡ true
rising_behind [] e es rising other is = rising.0 other is
rising_behind (x ∷ front) e es rising other is = rising_behind front e es rising.1 other is

parted : (front : List TreeEntry) (e : TreeEntry) (es : List TreeEntry) (other : TreeEntry) → In other (front ++ e ∷ es) → In other front ⊎ ((e ≡ other) ⊎ In other es)
parted [] e es other is = inr is
parted (x ∷ front) e es other (inl same) = inl (inl same)
parted (x ∷ front) e es other (inr behind) = elim (parted front e es other behind) [ inl there ↦ inl (inr there) | inr here ↦ inr here ]

middle_In : (front : List TreeEntry) (e : TreeEntry) (es : List TreeEntry) → In e (front ++ e ∷ es)
middle_In [] e es = inl refl
middle_In (x ∷ front) e es = inr (middle_In front e es)

-- ---- entries of the tree

-- a directory is shown as one
directory_node : (v : Volume) (live : List Draft) (f : Words) (c : ℕ) (path : List (List ℕ)) (its : Shows v live f path c) → is_directory (inode v c).kind ≡ true → its.node ≡ TreeNode.Directory
directory_node v live f c path its directory =
    same_shown its.node TreeNode.Directory (same_Some (shown_as its.node) IsDirectory (sym its.by_kind ∙ directory_shown (inode v c).kind (bytes_of_file v live f c) directory))

-- the directory above an entry stands at its path, and comes first
may_follow : (v : Volume) (live : List Draft) (f : Words) (root : TreeEntry) (front : List TreeEntry) (e : TreeEntry) (es : List TreeEntry) → IsMounted v → IsTreeOfContent (found v live f) (front ++ e ∷ es)
    → root.path ≡ [] → In root front → MayFollow front e
may_follow v live f root front e es m is root_path root_in = by (by_last e.path) where
  here : found v live f e.path ≡ Some (shown_as e.node)
  here = is.each e (middle_In front e es)

  by : (e.path ≡ []) ⊎ ((q : List (List ℕ)) × (x : List ℕ) × (e.path ≡ q ++ x ∷ [])) → MayFollow front e
  by (inl root_too) = absurd (not_before_itself (text e) (ap (λ p. bytes_before (printed p) (text e)) (root_too ∙ sym root_path) ∙ rising_before front e es is.rising root root_in))
  by (inr more) =
      let at = found_at v live f e.path (shown_as e.node) here in
      let last = last_step v.names more.0 more.1 at.0 (ap (walk v.names 0) (sym more.2) ∙ at.1) in
      let line = NamingLine-child_named v.names last.above more.1 at.0 last.named in
      let directory = subst (λ n. is_directory (inode v n).kind ≡ true) line.parent_is (kept-placed v line.line line.at m.sane.kept (all_lines v m.sane) line.is).parent in
      let its = shows v live f more.0 last.above (parent_used v m.sane last.above more.1 at.0 last.named) last.led in
      let node = directory_node v live f last.above more.0 its directory in
      let above : TreeEntry = record { path = more.0; node = TreeNode.Directory } in
      let there : In above (front ++ e ∷ es) = is.all more.0 TreeNode.Directory (its.found_is ∙ ap (λ n. Some (shown_as n)) node) in
      let filled = subst IsFilled line.name_is (filled_name line.at.name (m.sane.spelled line.line line.at line.is)) in
      record {
        above = above;
        name = more.1;
        stands = front_of above there (subst (λ p. bytes_before (printed more.0) (printed p) ≡ true) (sym more.2) (printed_before more.0 more.1 filled));
        directory = refl;
        below = more.2;
        last = λ other is_there. rising_before front e es is.rising other is_there;
      }
    where
      front_of : (above : TreeEntry) → In above (front ++ e ∷ es) → bytes_before (text above) (text e) ≡ true → In above front
      front_of above there first = elim (parted front e es above there) [
        | inl before ↦ before
        | inr rest ↦ elim rest [
          | inl same ↦ absurd (not_before_itself (text e) (ap (λ (x : TreeEntry). bytes_before (text x) (text e)) same ∙ first))
          | inr behind ↦ absurd (not_before_itself (text e) (before_trans (text e) (text above) (text e) (rising_behind front e es is.rising above behind) first))
        ]
      ]

follow_all : (v : Volume) (live : List Draft) (f : Words) (root : TreeEntry) (front rest : List TreeEntry) → IsMounted v → IsTreeOfContent (found v live f) (front ++ rest) → root.path ≡ [] → In root front → Follow front rest
follow_all v live f root front [] m is root_path root_in = tt
follow_all v live f root front (e ∷ es) m is root_path root_in = (
  may_follow v live f root front e es m is root_path root_in,
  follow_all v live f root (front ++ e ∷ []) es m (subst (IsTreeOfContent (found v live f)) (sym (append_assoc front (e ∷ []) es)) is) root_path (In_front front e root root_in),
)
  where
    In_front : (xs : List TreeEntry) (y z : TreeEntry) → In z xs → In z (xs ++ y ∷ [])
    In_front [] y z none = absurd none
    In_front (x ∷ xs) y z (inl same) = inl same
    In_front (x ∷ xs) y z (inr behind) = inr (In_front xs y z behind)

-- THE LIST IS A TREE.
pub IsTree-content : (v : Volume) (live : List Draft) (f : Words) (t : List TreeEntry) → IsMounted v → IsTreeOfContent (found v live f) t → IsTree t
unfolding walk
IsTree-content v live f [] m is =
    let its = shows v live f [] 0 (ap is_used m.root) refl in
    is.all [] its.node its.found_is
IsTree-content v live f (x ∷ rest) m is = (root_path, root_node, follow_all v live f x (x ∷ []) rest m is root_path (inl refl)) where
  its : Shows v live f [] 0
  its = shows v live f [] 0 (ap is_used m.root) refl

  root : TreeEntry
  root = record { path = []; node = its.node }

  first : In root (x ∷ rest) → x ≡ root
  first (inl same) = same
  first (inr behind) = absurd (nothing_before_root x.path (is.rising.0 root behind))

  same : x ≡ root
  same = first (is.all [] its.node its.found_is)

  root_path : x.path ≡ []
  root_path = ap (λ (e : TreeEntry). e.path) same

  root_node : x.node ≡ TreeNode.Directory
  root_node =
      ap (λ (e : TreeEntry). e.node) same
      ∙ same_shown its.node TreeNode.Directory (same_Some (shown_as its.node) IsDirectory (sym its.by_kind ∙ ap (λ k. node_by k (bytes_of_file v live f 0)) m.root))
