-- One space mirrors another, by the numbers of its nodes: look-ups, walks, and so the rows of every call, are the same.
use Rattle.std.specs.Prelude.{◌≡◌, ℕ, Bool, true, false, not, ◌==◌, List, [], ◌∷◌, Option, Some, None, is_some, option_map, unwrap_or, Result, Ok, Err, refl, if◌then◌else◌}
use Rattle.std.specs.Option.{option_map_or}
use Rattle.std.proofs.Common.{ap, ◌∙◌, sym, subst, inl, inr}
use Rattle.std.proofs.lemmas.Bool.{cases_eq, eq-eqb, ne_eqb}
use Rattle.std.proofs.lemmas.Option.{same_Some}
use Rattle.world_model.specs.name_laws.posix_types.declared.item.Outcome.{Outcome}
use Rattle.world_model.specs.name_laws.posix_types.declared.reply.Errno.{Errno}
use Rattle.world_model.specs.name_laws.posix_types.declared.reply.Reply.{Reply}
use Rattle.world_model.specs.name_laws.posix_tables.NameRows.{walk_row}
use Rattle.world_model.specs.name_laws.posix_tables.Names.{child_of, directory_path, directory_stands, downward, exists_at, file_stands, has_entries, height, is_root, last_name, longest_path, node_at_path, number_at, parent_at, Space, walk, walk_from}
use Rattle.world_model.specs.name_laws.posix_tables.Outcomes.{answer}
use Rattle.world_model.specs.Stands.{number}

-- The second space mirrors the first: each node in use has a number, no two the same, and directories, names, heights and
-- what is left are the same by the numbers.
pub record Mirrors (used : ℕ → Type 0) (numbers : List ℕ) (a b : Space) : Type 0 where
  pub root : number numbers 0 ≡ 0
  pub root_used : used 0
  pub one : (i j : ℕ) → used i → used j → number numbers i ≡ number numbers j → i ≡ j
  pub directory : (i : ℕ) → used i → b.directory (number numbers i) ≡ a.directory i
  pub names : (p : ℕ) (name : List ℕ) → used p → option_map (number numbers) (child_of a.entries p name) ≡ child_of b.entries (number numbers p) name
  pub children : (p : ℕ) (name : List ℕ) (c : ℕ) → child_of a.entries p name ≡ Some c → used c
  pub filled : (p : ℕ) → used p → has_entries a.entries p ≡ has_entries b.entries (number numbers p)
  pub heights : (p : ℕ) → used p → height a.entries longest_path p ≡ height b.entries longest_path (number numbers p)
  pub nodes_left : a.nodes_left ≡ b.nodes_left
  pub lines_left : a.lines_left ≡ b.lines_left
  pub longest : a.longest ≡ b.longest

-- a walk that led to a node led to one in use, and to that of its number in the mirror
abbrev pub result_map : (ℕ → ℕ) → Result ℕ Errno → Result ℕ Errno
result_map f (Ok n) = Ok (f n)
result_map f (Err e) = Err e

abbrev pub IsOkUsed : (ℕ → Type 0) → Result ℕ Errno → Type 0
IsOkUsed used (Ok n) = used n
IsOkUsed used (Err e) = Unit {0}

abbrev pub IsSomeUsed : (ℕ → Type 0) → Option ℕ → Type 0
IsSomeUsed used (Some n) = used n
IsSomeUsed used None = Unit {0}

-- what a walk to a directory finds there
abbrev found_in : Space → List ℕ → Result ℕ Errno → Option ℕ
found_in s name (Ok directory) = child_of s.entries directory name
found_in s name (Err errno) = None

abbrev refusal : Result ℕ Errno → Option Outcome
refusal (Ok node) = None
refusal (Err errno) = Some (answer (Reply.Error errno))

abbrev result_ok : ℕ → Result ℕ Errno
result_ok n = Ok n

same_Ok : (n k : ℕ) → result_ok n ≡ result_ok k → n ≡ k
same_Ok n k is = cc

record Walks (used : ℕ → Type 0) (numbers : List ℕ) (r t : Result ℕ Errno) : Type 0 where
  same : result_map (number numbers) r ≡ t
  used_end : IsOkUsed used r

walks_from : (used : ℕ → Type 0) (numbers : List ℕ) (a b : Space) → Mirrors used numbers a b → (at : ℕ) (names : List (List ℕ)) → used at
    → Walks used numbers (walk_from a.directory a.entries at names) (walk_from b.directory b.entries (number numbers at) names)
walks_from used numbers a b m at [] is = record { same = refl; used_end = is }
walks_from used numbers a b m at (name ∷ names) is =
    by (child_of a.entries at name) (child_of b.entries (number numbers at) name) refl (m.names at name is)
    (λ c. walks_from used numbers a b m c names) where
      on : (c d : ℕ) → used c → number numbers c ≡ d → (x y : Bool) → a.directory c ≡ x → b.directory d ≡ y
          → (used c → Walks used numbers (walk_from a.directory a.entries c names) (walk_from b.directory b.entries (number numbers c) names))
          → Walks used numbers (if x then walk_from a.directory a.entries c names else Err Errno.ENOTDIR) (if y then walk_from b.directory b.entries d names else Err Errno.ENOTDIR)
      on c d there num true true dx dy rest =
          let r = rest there in
          record { same = r.same ∙ ap (λ n. walk_from b.directory b.entries n names) num; used_end = r.used_end }
      on c d there num false false dx dy rest = record { same = refl; used_end = tt }
      on c d there num true false dx dy rest = let never : false ≡ true = sym dy ∙ (ap b.directory (sym num) ∙ (m.directory c there ∙ dx)) in cc
      on c d there num false true dx dy rest = let never : true ≡ false = sym dy ∙ (ap b.directory (sym num) ∙ (m.directory c there ∙ dx)) in cc

      by : (o q : Option ℕ) → child_of a.entries at name ≡ o → option_map (number numbers) (child_of a.entries at name) ≡ q
          → ((c : ℕ) → used c → Walks used numbers (walk_from a.directory a.entries c names) (walk_from b.directory b.entries (number numbers c) names))
          → Walks used numbers (downward a.directory o (λ node. walk_from a.directory a.entries node names)) (downward b.directory q (λ node. walk_from b.directory b.entries node names))
      by None None here there rest = record { same = refl; used_end = tt }
      by None (Some d) here there rest = let never : None ≡ Some d = ap (option_map (number numbers)) (sym here) ∙ there in cc
      by (Some c) None here there rest = let never : Some (number numbers c) ≡ None = ap (option_map (number numbers)) (sym here) ∙ there in cc
      by (Some c) (Some d) here there rest =
          on c d (m.children at name c here) (same_Some (number numbers c) d (ap (option_map (number numbers)) (sym here) ∙ there)) (a.directory c) (b.directory d) refl refl (rest c)

walks : (used : ℕ → Type 0) (numbers : List ℕ) (a b : Space) → Mirrors used numbers a b → (p : List (List ℕ)) → Walks used numbers (walk a p) (walk b p)
unfolding walk
walks used numbers a b m p =
    let w = walks_from used numbers a b m 0 (directory_path p) m.root_used in
    record { same = w.same ∙ ap (λ n. walk_from b.directory b.entries n (directory_path p)) m.root; used_end = w.used_end }

-- the directory of a path
pub walk-same : (used : ℕ → Type 0) (numbers : List ℕ) (a b : Space) → Mirrors used numbers a b → (p : List (List ℕ)) → result_map (number numbers) (walk a p) ≡ walk b p
walk-same used numbers a b m p = (walks used numbers a b m p).same

-- where a walk leads to a directory, it leads to the one of that number
pub walk-Ok : (used : ℕ → Type 0) (numbers : List ℕ) (a b : Space) → Mirrors used numbers a b → (p : List (List ℕ)) (parent : ℕ) → walk a p ≡ Ok parent
    → used parent × (walk b p ≡ Ok (number numbers parent)) × (parent_at b p ≡ number numbers parent)
walk-Ok used numbers a b m p parent leads =
    let w = walks used numbers a b m p in
    let there : walk b p ≡ Ok (number numbers parent) = sym w.same ∙ ap (result_map (number numbers)) leads in
    (by (walk a p) w.used_end leads, there, rw there refl) where
      by : (r : Result ℕ Errno) → IsOkUsed used r → r ≡ Ok parent → used parent
      by (Ok n) is same = let one : n ≡ parent = cc in subst used one is
      by (Err e) is same = cc

pub walk_row-same : (used : ℕ → Type 0) (numbers : List ℕ) (a b : Space) → Mirrors used numbers a b → (p : List (List ℕ)) → walk_row a p ≡ walk_row b p
walk_row-same used numbers a b m p = by (walk a p) (walk b p) (walk-same used numbers a b m p) where
  by : (r t : Result ℕ Errno) → result_map (number numbers) r ≡ t → refusal r ≡ refusal t
  by (Ok n) t same = ap refusal same
  by (Err e) t same = ap refusal same

-- What stands at a path.

record Places (used : ℕ → Type 0) (numbers : List ℕ) (o q : Option ℕ) : Type 0 where
  same : option_map (number numbers) o ≡ q
  used_there : IsSomeUsed used o

places : (used : ℕ → Type 0) (numbers : List ℕ) (a b : Space) → Mirrors used numbers a b → (p : List (List ℕ)) → Places used numbers (node_at_path a p) (node_at_path b p)
unfolding node_at_path
places used numbers a b m p = by (is_root p) (walk a p) (walk b p) (walks used numbers a b m p) where
  child : (d : ℕ) → used d → (o : Option ℕ) → child_of a.entries d (last_name p) ≡ o → IsSomeUsed used o
  child d is None leads = tt
  child d is (Some c) leads = m.children d (last_name p) c leads

  by : (c : Bool) (r t : Result ℕ Errno) → Walks used numbers r t
      → Places used numbers (if c then Some 0 else found_in a (last_name p) r) (if c then Some 0 else found_in b (last_name p) t)
  by true r t w = record { same = ap Some m.root; used_there = m.root_used }
  by false (Ok d) (Ok e) w =
      let num : number numbers d ≡ e = same_Ok (number numbers d) e w.same in
      record { same = m.names d (last_name p) w.used_end ∙ ap (λ n. child_of b.entries n (last_name p)) num; used_there = child d w.used_end (child_of a.entries d (last_name p)) refl }
  by false (Ok d) (Err e) w = let never = w.same in cc
  by false (Err e) (Ok d) w = let never = w.same in cc
  by false (Err e) (Err f) w = record { same = refl; used_there = tt }

-- the node at a path, and its number
pub node_at_path-same : (used : ℕ → Type 0) (numbers : List ℕ) (a b : Space) → Mirrors used numbers a b → (p : List (List ℕ))
    → option_map (number numbers) (node_at_path a p) ≡ node_at_path b p
node_at_path-same used numbers a b m p = (places used numbers a b m p).same

pub node_at_path-used : (used : ℕ → Type 0) (numbers : List ℕ) (a b : Space) → Mirrors used numbers a b → (p : List (List ℕ)) (n : ℕ) → node_at_path a p ≡ Some n → used n
node_at_path-used used numbers a b m p n is = by (node_at_path a p) (places used numbers a b m p).used_there is where
  by : (o : Option ℕ) → IsSomeUsed used o → o ≡ Some n → used n
  by None there same = cc
  by (Some k) there same = let one : k ≡ n = cc in subst used one there

-- the number of what stands at a path, the root's where nothing does
record Numbered (used : ℕ → Type 0) (numbers : List ℕ) (n k : ℕ) : Type 0 where
  same : number numbers n ≡ k
  used_there : used n

numbered : (used : ℕ → Type 0) (numbers : List ℕ) (a b : Space) → Mirrors used numbers a b → (p : List (List ℕ)) → Numbered used numbers (number_at a p) (number_at b p)
numbered used numbers a b m p = by (node_at_path a p) (node_at_path b p) (places used numbers a b m p) where
  by : (o q : Option ℕ) → Places used numbers o q → Numbered used numbers (unwrap_or o 0) (unwrap_or q 0)
  by None None w = record { same = m.root; used_there = m.root_used }
  by None (Some k) w = let never = w.same in cc
  by (Some n) None w = let never = w.same in cc
  by (Some n) (Some k) w = record { same = same_Some (number numbers n) k w.same; used_there = w.used_there }

pub number_at-same : (used : ℕ → Type 0) (numbers : List ℕ) (a b : Space) → Mirrors used numbers a b → (p : List (List ℕ)) → number numbers (number_at a p) ≡ number_at b p
number_at-same used numbers a b m p = (numbered used numbers a b m p).same

pub exists-same : (used : ℕ → Type 0) (numbers : List ℕ) (a b : Space) → Mirrors used numbers a b → (p : List (List ℕ)) → exists_at a p ≡ exists_at b p
exists-same used numbers a b m p = by (node_at_path a p) (node_at_path b p) (places used numbers a b m p).same where
  by : (o q : Option ℕ) → option_map (number numbers) o ≡ q → is_some o ≡ is_some q
  by None q same = ap is_some same
  by (Some n) q same = ap is_some same

kinds_same : (used : ℕ → Type 0) (numbers : List ℕ) (a b : Space) → Mirrors used numbers a b → (g : Bool → Bool) (p : List (List ℕ))
    → option_map_or (λ n. g (a.directory n)) (node_at_path a p) false ≡ option_map_or (λ n. g (b.directory n)) (node_at_path b p) false
kinds_same used numbers a b m g p = by (node_at_path a p) (node_at_path b p) (places used numbers a b m p) where
  by : (o q : Option ℕ) → Places used numbers o q → option_map_or (λ n. g (a.directory n)) o false ≡ option_map_or (λ n. g (b.directory n)) q false
  by None q w = ap (λ o. option_map_or (λ n. g (b.directory n)) o false) w.same
  by (Some n) q w = ap g (sym (m.directory n w.used_there)) ∙ ap (λ o. option_map_or (λ k. g (b.directory k)) o false) w.same

pub directory_stands-same : (used : ℕ → Type 0) (numbers : List ℕ) (a b : Space) → Mirrors used numbers a b → (p : List (List ℕ)) → directory_stands a p ≡ directory_stands b p
directory_stands-same used numbers a b m p = kinds_same used numbers a b m (λ c. c) p

pub file_stands-same : (used : ℕ → Type 0) (numbers : List ℕ) (a b : Space) → Mirrors used numbers a b → (p : List (List ℕ)) → file_stands a p ≡ file_stands b p
file_stands-same used numbers a b m p = kinds_same used numbers a b m not p

pub filled-same : (used : ℕ → Type 0) (numbers : List ℕ) (a b : Space) → Mirrors used numbers a b → (p : List (List ℕ)) → has_entries a.entries (number_at a p) ≡ has_entries b.entries (number_at b p)
filled-same used numbers a b m p =
    let n = numbered used numbers a b m p in
    m.filled (number_at a p) n.used_there ∙ ap (has_entries b.entries) n.same

pub height-same : (used : ℕ → Type 0) (numbers : List ℕ) (a b : Space) → Mirrors used numbers a b → (p : List (List ℕ))
    → height a.entries longest_path (number_at a p) ≡ height b.entries longest_path (number_at b p)
height-same used numbers a b m p =
    let n = numbered used numbers a b m p in
    m.heights (number_at a p) n.used_there ∙ ap (height b.entries longest_path) n.same

pub meets-same : (used : ℕ → Type 0) (numbers : List ℕ) (a b : Space) → Mirrors used numbers a b → (p q : List (List ℕ))
    → (number_at a p == number_at a q) ≡ (number_at b p == number_at b q)
meets-same used numbers a b m p q =
    let n = numbered used numbers a b m p in
    let k = numbered used numbers a b m q in
    elim (cases_eq (number_at a p) (number_at a q)) [
      | inl same ↦ eq-eqb (number_at a p) (number_at a q) same ∙ sym (eq-eqb (number_at b p) (number_at b q) (sym n.same ∙ (ap (number numbers) same ∙ k.same)))
      | inr other ↦
          ne_eqb (number_at a p) (number_at a q) other
          ∙ sym (ne_eqb (number_at b p) (number_at b q) (λ same. other (m.one (number_at a p) (number_at a q) n.used_there k.used_there (n.same ∙ (same ∙ sym k.same)))))
    ]
