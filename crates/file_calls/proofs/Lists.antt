-- The names below a directory line, sorted, are those that the state lists.
use Rattle.std.specs.Prelude.{◌≡◌, ◌≢◌, ◌≤◌, ◌+◌, ℕ, Bool, true, false, cond, List, [], ◌∷◌, count_by, Option, Some, None, is_some, option_map, IsPermutation, IsSorted, refl}
use Rattle.std.specs.Cmp.Lexicographic.{bytes_decides, slice_cmp}
use Rattle.std.specs.Ordering.{nat_cmp}
use Rattle.std.proofs.Common.{arith, ap, ◌∙◌, sym, subst, inl, inr}
use Rattle.std.proofs.lemmas.List.Sorted.{sum_by-IsPermutation}
use Rattle.std.proofs.lemmas.List.Sums.{sum_by-cons}
use Rattle.eof_laws.specs.layout_model.Fields.{is_same}
use Rattle.layout_model.specs.Names.{child_named}
use Rattle.layout_model.specs.Tables.{names_below}
use Rattle.eof_laws.specs.image_model.Volume.{Volume}
use Rattle.live_step_laws.specs.posix_laws.Listed.{AreOnce, names-sorted}
use Rattle.live_step_laws.specs.posix_laws.Orders.{AreOrdered}
use Rattle.live_step_laws.proofs.k_tables_proofs.ChildNames.{count-child}
use Rattle.open_files.specs.list_laws.Members.{In}
use Rattle.live_step_laws.specs.name_laws.KeptLaws.{kept-keyed}
use Rattle.open_files.specs.posix_tables.Names.{child_of, names_in}
use Rattle.open_files.specs.posix_spec.State.{State}
use Rattle.live_step_laws.specs.world_model.TreeRules.{all_lines}
use Rattle.live_step_laws.specs.world_model.Stands.{IsSane, IsUsed, number}

-- ---- how often a name stands in a list, and whether it is there

counted : List (List ℕ) → List ℕ → ℕ
counted names name = count_by (λ x. is_same x name) names

counted_more : (x : List ℕ) (xs : List (List ℕ)) (name : List ℕ) → counted (x ∷ xs) name ≡ cond (is_same x name) 1 0 + counted xs name
unfolding counted
counted_more x xs name = sum_by-cons (λ z. cond (is_same z name) 1 0) x xs

there_counted : (names : List (List ℕ)) (name : List ℕ) → In name names → 1 ≤ counted names name
there_counted [] name is = absurd is
there_counted (x ∷ xs) name (inl same) =
    let one : cond (is_same x name) 1 0 ≡ 1 = ap {B = ℕ} (λ b. cond b 1 0) ((bytes_decides x name).1 same) in
    omega (arith, counted_more x xs name, one)
there_counted (x ∷ xs) name (inr behind) = omega (arith, counted_more x xs name, there_counted xs name behind)

counted_there : (names : List (List ℕ)) (name : List ℕ) → 1 ≤ counted names name → In name names
unfolding counted
counted_there [] name some = absurd (omega (arith, some))
counted_there (x ∷ xs) name some = by (is_same x name) refl (counted_there xs name) where
  by : (b : Bool) → is_same x name ≡ b → (1 ≤ counted xs name → In name xs) → In name (x ∷ xs)
  by true same rest = inl ((bytes_decides x name).0 same)
  by false other rest =
      let none : cond (is_same x name) 1 0 ≡ 0 = ap {B = ℕ} (λ b. cond b 1 0) other in
      inr (rest (omega (arith, counted_more x xs name, none, some)))

-- ---- the names below a directory that stands

some_mapped : (f : ℕ → ℕ) (o : Option ℕ) → option_map f o ≢ None → is_some o ≡ true
some_mapped f None some = absurd (some refl)
some_mapped f (Some n) some = refl

mapped_some : (f : ℕ → ℕ) (o : Option ℕ) → is_some o ≡ true → option_map f o ≢ None
mapped_some f None some none = cc
mapped_some f (Some n) some none = cc

at_most : (b : Bool) → cond b 1 0 ≤ 1
at_most true = omega arith
at_most false = omega arith

some_counted : (b : Bool) → 1 ≤ cond b 1 0 → b ≡ true
some_counted true some = refl
some_counted false some = absurd (omega (arith, some))

module _ (v : Volume) (numbers : List ℕ) (s : State) (sane : IsSane v) (ordered : AreOrdered s.entries)
    (children : (p : ℕ) (name : List ℕ) → IsUsed v p → option_map (number numbers) (child_named v.names p name) ≡ child_of s.entries (number numbers p) name)
    (ino : ℕ) (used : IsUsed v ino) (names : List (List ℕ)) where
  child : (name : List ℕ) → option_map (number numbers) (child_named v.names ino name) ≡ child_of s.entries (number numbers ino) name
  child name = children ino name used

  -- each name stands there once where it leads to a child, and else not
  below : IsPermutation (names_below v.names ino) names → (name : List ℕ) → counted names name ≡ cond (is_some (child_named v.names ino name)) 1 0
  unfolding counted
  below are name =
      sum_by-IsPermutation (λ y. cond (is_same y name) 1 0) (names_below v.names ino) names are
      ∙ count-child v.names ino name (kept-keyed v sane.kept (all_lines v sane))

  once : IsPermutation (names_below v.names ino) names → AreOnce names
  unfolding counted
  once are name = subst (λ m. m ≤ 1) (sym (below are name)) (at_most (is_some (child_named v.names ino name)))

  leads : IsPermutation (names_below v.names ino) names → (name : List ℕ) → In name names → child_of s.entries (number numbers ino) name ≢ None
  leads are name is =
      let some = some_counted (is_some (child_named v.names ino name)) (subst (λ m. 1 ≤ m) (below are name) (there_counted names name is)) in
      λ none. mapped_some (number numbers) (child_named v.names ino name) some (child name ∙ none)

  lists : IsPermutation (names_below v.names ino) names → (name : List ℕ) → child_of s.entries (number numbers ino) name ≢ None → In name names
  lists are name led =
      let some = some_mapped (number numbers) (child_named v.names ino name) (λ none. led (sym (child name) ∙ none)) in
      let one : counted names name ≡ 1 = below are name ∙ ap {B = ℕ} (λ b. cond b 1 0) some in
      counted_there names name (omega (arith, one))

  -- SORTED, THEY ARE THOSE THAT THE STATE LISTS.
  pub state_lists : IsPermutation (names_below v.names ino) names → IsSorted (slice_cmp nat_cmp) names → names_in s.entries (number numbers ino) ≡ names
  state_lists are sorted = names-sorted s.entries (number numbers ino) names ordered.1 sorted (once are) (leads are) (lists are)
