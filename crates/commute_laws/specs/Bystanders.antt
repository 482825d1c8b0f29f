-- What calls that change names keep of a file that someone has open.
use Rattle.std.specs.Prelude.{◌≡◌, ◌≢◌, ◌<◌, ℕ, zero, suc, Bool, true, false, cond, not, ◌||◌, List, [], ◌∷◌, length, Option, Some, None, is_some, unwrap_or, slice_get, refl}
use Rattle.std.specs.List.{list_any}
use Rattle.std.specs.Option.{option_map_or}
use Rattle.std.proofs.Common.{ap, ◌∙◌, sym, subst, inl, inr, arith, lit<}
use Rattle.std.proofs.lemmas.Bool.{cases_eq}
use Rattle.std.proofs.lemmas.Bool.Decides.{Decides-eqb}
use Rattle.std.proofs.lemmas.List.{get_or_append_left, get_or-set_other}
use Rattle.crash_spec.specs.posix_laws.posix_types.declared.call.Call.{Call}
use Rattle.crash_spec.specs.posix_laws.posix_types.declared.call.Who.{Who}
use Rattle.crash_spec.specs.posix_laws.posix_types.declared.handle.Handle.{Handle}
use Rattle.crash_spec.specs.posix_laws.posix_tables.declared.nodes.File.{File}
use Rattle.crash_spec.specs.posix_laws.posix_tables.declared.nodes.Node.{Node}
use Rattle.crash_spec.specs.posix_laws.posix_tables.declared.open.Description.{Description}
use Rattle.crash_spec.specs.posix_laws.posix_tables.NameRows.{rmdir_rows}
use Rattle.crash_spec.specs.posix_laws.posix_tables.Names.{directory_stands, file_stands, is_named, node_at_path, number_at}
use Rattle.crash_spec.specs.posix_laws.posix_tables.Nodes.{is_directory, node_at}
use Rattle.crash_spec.specs.posix_laws.posix_tables.Open.{describes, is_open, Tables}
use Rattle.crash_spec.specs.posix_laws.posix_spec.State.{alone, made, space, State, swept, unnamed, with_node}
use Rattle.crash_spec.specs.posix_laws.posix_spec.Step.{mkdir_done, rename_done, renamed, rmdir_done, step, unlink_done}
use Rattle.crash_spec.specs.posix_laws.RowLaws.{no_row, none_fits, stepped-keeps}
use Rattle.commute_laws.specs.Handles.{Opens, slot_of}

-- The file of a node, and that someone has it open.
pub record IsHeld (s : State) (node : ℕ) : Type 0 where
  pub file : File
  pub is : node_at s.nodes node ≡ Node.File file
  pub held_open : is_open s.tables node ≡ true

-- what a call of names keeps of a file
pub record KeepsFile (s new : State) (node : ℕ) : Type 0 where
  pub tables : new.tables ≡ s.tables
  pub mode : new.mode ≡ s.mode
  pub file : node_at new.nodes node ≡ node_at s.nodes node

any_at : {X : Type 0} (p : X → Bool) (xs : List X) (n : ℕ) (x : X) → slice_get xs n ≡ Some x → p x ≡ true
    → list_any p xs ≡ true
any_at p [] n x is passes = cc
any_at p (y ∷ ys) zero x is passes = let same : y ≡ x = cc in ap (λ b. b || list_any p ys) (ap p same ∙ passes)
any_at p (y ∷ ys) (suc n) x is passes = by (p y) (any_at p ys n x is passes) where
  by : (b : Bool) → list_any p ys ≡ true → (b || list_any p ys) ≡ true
  by true rest = refl
  by false rest = rest

-- a file that a handle stands for is open
pub is_open-Opens : (t : Tables) (who : Who) (h : Handle) (key node : ℕ) (d : Description) → Opens t who h key d
    → d.node ≡ node → is_open t node ≡ true
is_open-Opens t who h key node d o same =
    any_at (describes node) t.descriptions key (Some d) (slot_of t key d o.stands) ((Decides-eqb d.node node).1 same)

-- a file that is there has a number below the count
pub file_within : (nodes : List Node) (node : ℕ) (file : File) → node_at nodes node ≡ Node.File file
    → node < length nodes
file_within [] node file is = cc
file_within (x ∷ xs) zero file is = omega arith
file_within (x ∷ xs) (suc n) file is = omega (arith, file_within xs n file is)

-- a file is no directory
pub directory_apart : (s : State) (n node : ℕ) (file : File) → node_at s.nodes node ≡ Node.File file
    → is_directory s.nodes n ≡ true → node ≢ n
directory_apart s n node file is directory same =
    let no : is_directory s.nodes node ≡ false = rw is refl in
    let never : true ≡ false = sym directory ∙ ap (is_directory s.nodes) (sym same) ∙ no in
    cc

pub stands : (f : ℕ → Bool) (o : Option ℕ) → option_map_or f o false ≡ true → f (unwrap_or o 0) ≡ true
stands f None is = cc
stands f (Some n) is = is

pub no_file : (f : ℕ → Bool) (o : Option ℕ) → is_some o ≡ true → option_map_or (λ n. not (f n)) o false ≡ false
    → f (unwrap_or o 0) ≡ true
no_file f None is none = cc
no_file f (Some n) is none = yes (f n) none where
  yes : (b : Bool) → not b ≡ false → b ≡ true
  yes true is = refl
  yes false is = cc

pub not_not : (b : Bool) → not b ≡ false → b ≡ true
not_not true is = refl
not_not false is = cc

-- ---- changes, one by one

pub KeepsFile-none : (s : State) (node : ℕ) → KeepsFile s s node
KeepsFile-none s node = record { tables = refl; mode = refl; file = refl }

pub kept-made : (s : State) (p : List (List ℕ)) (x : Node) (node : ℕ) → node < length s.nodes
    → KeepsFile s (made s p x) node
unfolding made
kept-made s p x node within = record { tables = refl; mode = refl; file = get_or_append_left s.nodes (x ∷ []) Node.Gone node within }

pub kept-with_node : (s m : State) (n node : ℕ) (x : Node) → KeepsFile s m node → node ≢ n
    → KeepsFile s (with_node m n x) node
kept-with_node s m n node x keeps other = record { tables = keeps.tables; mode = keeps.mode; file = get_or-set_other m.nodes n node x Node.Gone other ∙ keeps.file }

or_true : (a b : Bool) → b ≡ true → (a || b) ≡ true
or_true true b is = refl
or_true false b is = is

-- what is open is not swept away
pub swept-open : (m : State) (n : ℕ) → is_open m.tables n ≡ true → swept alone m n ≡ m
unfolding swept
swept-open m n is = ap (λ b. cond b m (with_node m n Node.Gone)) (or_true (is_named m.entries n) (is_open m.tables n) is)

pub kept-swept : (s m : State) (n node : ℕ) → KeepsFile s m node → is_open s.tables node ≡ true
    → KeepsFile s (swept alone m n) node
unfolding swept
kept-swept s m n node keeps held = elim (cases_eq n node) [
  | inl same ↦
      let still : is_open m.tables n ≡ true = ap (λ k. is_open m.tables k) same ∙ ap (λ t. is_open t node) keeps.tables ∙ held in
      subst (λ x. KeepsFile s x node) (sym (swept-open m n still)) keeps
  | inr other ↦ by (is_named m.entries n || is_open m.tables n) (λ e. other (sym e))
] where
  by : (b : Bool) → node ≢ n → KeepsFile s (cond b m (with_node m n Node.Gone)) node
  by true apart = keeps
  by false apart = kept-with_node s m n node Node.Gone keeps apart

-- ---- calls

pub KeepsFile-mkdir : (s : State) (who : Who) (p : List (List ℕ)) (node : ℕ) → IsHeld s node
    → KeepsFile s (step s who (Call.Mkdir p)).state node
unfolding mkdir_done
KeepsFile-mkdir s who p node held = stepped-keeps (λ new. KeepsFile s new node) s _ _ (KeepsFile-none s node) (λ none. kept-made s p Node.Directory node (file_within s.nodes node held.file held.is))

pub KeepsFile-rmdir : (s : State) (who : Who) (p : List (List ℕ)) (node : ℕ) → IsHeld s node
    → KeepsFile s (step s who (Call.Rmdir p)).state node
unfolding rmdir_done rmdir_rows unnamed
KeepsFile-rmdir s who p node held = stepped-keeps (λ new. KeepsFile s new node) s _ _ (KeepsFile-none s node) (λ none.
    let each = none_fits (rmdir_rows (space s) p) none in
    let there = not_not (is_some (node_at_path (space s) p)) (no_row _ _ (each 3 None (lit< tt))) in
    let directory = no_file (is_directory s.nodes) (node_at_path (space s) p) there (no_row _ _ (each 4 None (lit< tt))) in
    kept-with_node s (unnamed s p) (number_at (space s) p) node Node.Gone (record { tables = refl; mode = refl; file = refl }) (directory_apart s (number_at (space s) p) node held.file held.is directory))

pub KeepsFile-unlink : (s : State) (who : Who) (p : List (List ℕ)) (node : ℕ) → IsHeld s node
    → KeepsFile s (step s who (Call.Unlink p)).state node
unfolding unlink_done unnamed
KeepsFile-unlink s who p node held = stepped-keeps (λ new. KeepsFile s new node) s _ _ (KeepsFile-none s node) (λ none.
    kept-swept s (unnamed s p) (number_at (space s) p) node (record { tables = refl; mode = refl; file = refl }) held.held_open)

pub KeepsFile-rename : (s : State) (who : Who) (p q : List (List ℕ)) (node : ℕ) → IsHeld s node
    → KeepsFile s (step s who (Call.Rename p q)).state node
unfolding rename_done renamed
KeepsFile-rename s who p q node held =
    stepped-keeps (λ new. KeepsFile s new node) s _ _ (KeepsFile-none s node) (λ none. by (directory_stands (space s) q) (file_stands (space s) q) (stands (is_directory s.nodes) (node_at_path (space s) q)))
  where
    kept : KeepsFile s (renamed s p q) node
    kept = record { tables = refl; mode = refl; file = refl }

    by : (b c : Bool) → (b ≡ true → is_directory s.nodes (number_at (space s) q) ≡ true)
        → KeepsFile s (cond b (with_node (renamed s p q) (number_at (space s) q) Node.Gone) (cond c (swept alone (renamed s p q) (number_at (space s) q)) (renamed s p q))) node
    by true c directory = kept-with_node s (renamed s p q) (number_at (space s) q) node Node.Gone kept (directory_apart s (number_at (space s) q) node held.file held.is (directory refl))
    by false true directory = kept-swept s (renamed s p q) (number_at (space s) q) node kept held.held_open
    by false false directory = kept
