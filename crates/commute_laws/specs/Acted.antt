-- A state in which a write in flight has acted: another description of its file with the same number, and another file. What
-- other callers look at stays.
use Rattle.std.specs.Prelude.{◌≡◌, ◌≢◌, ◌⊎◌, ℕ, zero, suc, ◌+◌, ◌-◌, Bool, true, false, cond, ◌||◌, ◌==◌, List, [], ◌∷◌, count_by, sum_by, Option, Some, None, option_and_then, option_map, position, slice_get, slice_set, unwrap_or, refl}
use Rattle.std.specs.List.{list_any}
use Rattle.std.specs.Option.{option_flatten}
use Rattle.std.proofs.Common.{ap, ◌∙◌, sym, subst, inl, inr}
use Rattle.std.proofs.lemmas.Bool.{cases_eq}
use Rattle.std.proofs.lemmas.List.{get_or-set_other, get_or-set_same, set-append_left, set_comm}
use Rattle.std.proofs.lemmas.List.Sums.{sum_by-cons}
use Rattle.std.proofs.lemmas.Option.{slice_get_within}
use Rattle.std.proofs.Math.ListN.{length-set}
use Rattle.crash_spec.specs.posix_laws.posix_types.declared.call.Who.{Who}
use Rattle.crash_spec.specs.posix_laws.posix_types.declared.handle.Handle.{Handle}
use Rattle.crash_spec.specs.posix_laws.posix_tables.declared.nodes.DirEntry.{DirEntry}
use Rattle.crash_spec.specs.posix_laws.posix_tables.declared.nodes.File.{File}
use Rattle.crash_spec.specs.posix_laws.posix_tables.declared.nodes.Node.{Node}
use Rattle.crash_spec.specs.posix_laws.posix_tables.declared.open.Binding.{Binding}
use Rattle.crash_spec.specs.posix_laws.posix_tables.declared.open.Description.{Description}
use Rattle.crash_spec.specs.posix_laws.posix_tables.Names.{exists_at, is_named, last_name, lines_taken, longest_name, number_at, parent_at, with_entry, without_entry, without_place}
use Rattle.crash_spec.specs.posix_laws.posix_tables.Nodes.{is_directory, is_live, node_at}
use Rattle.crash_spec.specs.posix_laws.posix_tables.Open.{closed, describes, description_number, has_key, is_binding, is_open, key_of, next_descriptor, opened, Tables, with_binding, with_descriptor, with_offset, with_opened, without_binding, without_unused}
use Rattle.crash_spec.specs.posix_laws.posix_spec.FileRows.{file_number}
use Rattle.crash_spec.specs.posix_laws.posix_spec.State.{alone, made, space, State, swept, unnamed, with_node}
use Rattle.crash_spec.specs.posix_laws.posix_spec.Step.{empty_file, opening, opening_number, renamed}
use Rattle.crash_spec.specs.posix_laws.Views.{SameView}
use Rattle.commute_laws.specs.Bystanders.{file_within, swept-open}
use Rattle.commute_laws.specs.Frames.{file_number-is, KeepsSeen}
use Rattle.commute_laws.specs.Handles.{closed-is, described, keys_apart, Opens, Opens-opened, opened-Opens, Opens-set, slot_of, with_offset-is}
use Rattle.commute_laws.specs.Lists.{slice_get-set_other}

-- What a write in flight changes: the description with a number, and a file.
pub record Change : Type 0 where
  pub key : ℕ
  pub to : Description
  pub node : ℕ
  pub file : File

abbrev pub with_slot : Tables → Change → Tables
with_slot t c = record t { descriptions = slice_set t.descriptions c.key (Some c.to) }

abbrev pub acted : State → Change → State
acted s c = record s { nodes = slice_set s.nodes c.node (Node.File c.file); tables = with_slot s.tables c }

-- the change is one of a file, through a handle of it
pub record Touches (s : State) (who : Who) (h : Handle) (c : Change) : Type 0 where
  pub by : Description
  pub opens : Opens s.tables who h c.key by
  pub by_node : by.node ≡ c.node
  pub to_node : c.to.node ≡ c.node
  pub before : File
  pub is : node_at s.nodes c.node ≡ Node.File before

pub Touches-seen : (s new : State) (who : Who) (h : Handle) (c : Change) → Touches s who h c
    → KeepsSeen s new who c.node → Touches new who h c
Touches-seen s new who h c t keeps = record {
  by = t.by;
  opens = keeps.handles h c.key t.by t.opens t.by_node;
  by_node = t.by_node;
  to_node = t.to_node;
  before = t.before;
  is = keeps.file ∙ t.is;
}

-- ---- names

sum_by-set : {X : Type 0} (f : X → ℕ) (xs : List X) (n : ℕ) (x y : X) → slice_get xs n ≡ Some x → f y ≡ f x
    → sum_by f (slice_set xs n y) ≡ sum_by f xs
sum_by-set f [] n x y is same = refl
sum_by-set f (z ∷ zs) zero x y is same =
    let one : z ≡ x = cc in
    sum_by-cons f y zs ∙ ap (λ n. n + sum_by f zs) (same ∙ ap f (sym one)) ∙ sym (sum_by-cons f z zs)
sum_by-set f (z ∷ zs) (suc n) x y is same = sum_by-cons f z (slice_set zs n y) ∙ ap (λ k. f z + k) (sum_by-set f zs n x y is same) ∙ sym (sum_by-cons f z zs)

node_slot : (nodes : List Node) (n : ℕ) (file : File) → node_at nodes n ≡ Node.File file
    → slice_get nodes n ≡ Some (Node.File file)
node_slot [] n file is = cc
node_slot (x ∷ xs) zero file is = ap Some is
node_slot (x ∷ xs) (suc n) file is = node_slot xs n file is

directory_by : (xs ys : List Node) (n : ℕ) → node_at xs n ≡ node_at ys n → is_directory xs n ≡ is_directory ys n
directory_by xs ys n same = rw same refl

no_directory : (xs : List Node) (n : ℕ) (file : File) → node_at xs n ≡ Node.File file → is_directory xs n ≡ false
no_directory xs n file is = rw is refl

directory-acted : (s : State) (who : Who) (h : Handle) (c : Change) → Touches s who h c → (n : ℕ)
    → is_directory (acted s c).nodes n ≡ is_directory s.nodes n
directory-acted s who h c t n = elim (cases_eq n c.node) [
  | inl same ↦
      let there = get_or-set_same s.nodes c.node (Node.File c.file) Node.Gone (file_within s.nodes c.node t.before t.is) in
      ap (is_directory (acted s c).nodes) same ∙ no_directory (acted s c).nodes c.node c.file there ∙ sym (no_directory s.nodes c.node t.before t.is) ∙ ap (is_directory s.nodes) (sym same)
  | inr other ↦ directory_by (acted s c).nodes s.nodes n (get_or-set_other s.nodes c.node n (Node.File c.file) Node.Gone other)
]

-- The rules of names look at the same.
pub space-acted : (s : State) (who : Who) (h : Handle) (c : Change) → Touches s who h c → space (acted s c) ≡ space s
space-acted s who h c t =
    let directory = directory-acted s who h c t in
    let live : count_by is_live (acted s c).nodes ≡ count_by is_live s.nodes =
    sum_by-set (λ x. cond (is_live x) 1 0) s.nodes c.node (Node.File t.before) (Node.File c.file) (node_slot s.nodes c.node t.before t.is) refl in
    λ i. record {
      directory = λ n. directory n i;
      entries = s.entries;
      nodes_left = s.shape.nodes - live i;
      lines_left = s.shape.names - sum_by (λ (entry : DirEntry). lines_taken entry.name) s.entries;
      longest = longest_name s.shape;
    }

-- ---- handles

-- a handle of another file stands for the same
pub view-acted : (s : State) (who who2 : Who) (h h2 : Handle) (c : Change) (e : Description) → Touches s who h c
    → opened s.tables who2 h2 ≡ Some e → c.node ≢ e.node → SameView s (acted s c) who2 h2
view-acted s who who2 h h2 c e t is other =
    let found = Opens-opened s.tables who2 h2 e is in
    let keys = keys_apart s.tables found.0 c.key e t.by found.1.stands t.opens.stands (λ same. other (sym (same ∙ t.by_node))) in
    let after = opened-Opens (with_slot s.tables c) who2 h2 found.0 e (Opens-set s.tables who2 h2 found.0 c.key e (Some c.to) keys found.1) in
    record {
      handle = after ∙ sym is;
      node = get_or-set_other s.nodes c.node (file_number s.tables who2 h2) (Node.File c.file) Node.Gone (λ same. other (sym same ∙ file_number-is s who2 h2 e is));
      mode = refl;
    }

-- and one that is unknown stays unknown
pub unknown-acted : (s : State) (who who2 : Who) (h h2 : Handle) (c : Change) → Touches s who h c
    → opened s.tables who2 h2 ≡ None → opened (acted s c).tables who2 h2 ≡ None
unfolding opened key_of
unknown-acted s who who2 h h2 c t is = by (key_of s.tables who2 h2) is where
  by : (o : Option ℕ) → option_and_then (described s.tables) o ≡ None
      → option_and_then (described (with_slot s.tables c)) o ≡ None
  by None none = refl
  by (Some k) none =
      let other : k ≢ c.key = λ same. (let never : None ≡ Some t.by = sym none ∙ ap (described s.tables) same ∙ t.opens.stands in cc) in
      ap (λ (x : Option (Option Description)). option_flatten x) (slice_get-set_other s.tables.descriptions c.key k (Some c.to) other) ∙ none

pub option_either : {X : Type 0} (o : Option X) → (o ≡ None) ⊎ ((x : X) × (o ≡ Some x))
option_either None = inl refl
option_either (Some x) = inr (x, refl)

pub handle-acted : (s : State) (who who2 : Who) (h h2 : Handle) (c : Change) → Touches s who h c
    → option_map (λ (d : Description). d.node) (opened s.tables who2 h2) ≢ Some c.node
    → opened (acted s c).tables who2 h2 ≡ opened s.tables who2 h2
handle-acted s who who2 h h2 c t aside = elim (option_either (opened s.tables who2 h2)) [
  | inl none ↦ unknown-acted s who who2 h h2 c t none ∙ sym none
  | inr some ↦ (view-acted s who who2 h h2 c some.0 t some.1 (λ same. aside (ap (λ o. option_map (λ (d : Description). d.node) o) some.1 ∙ ap Some (sym same)))).handle
]

any-set : {X : Type 0} (p : X → Bool) (xs : List X) (n : ℕ) (x y : X) → slice_get xs n ≡ Some x → p y ≡ p x
    → list_any p (slice_set xs n y) ≡ list_any p xs
any-set p [] n x y is same = refl
any-set p (z ∷ zs) zero x y is same = let one : z ≡ x = cc in ap (λ b. b || list_any p zs) (same ∙ ap p (sym one))
any-set p (z ∷ zs) (suc n) x y is same = ap (λ b. p z || b) (any-set p zs n x y is same)

-- ---- changes of others, before or after

pub node-acted : (m : State) (c : Change) (n : ℕ) (x : Node) → c.node ≢ n
    → with_node (acted m c) n x ≡ acted (with_node m n x) c
node-acted m c n x other = let nodes = set_comm m.nodes c.node n (Node.File c.file) x other in λ i. record (acted m c) { nodes = nodes i }

-- the same file is open, as far as a sweep looks
pub record IsSwept (m : State) (c : Change) : Type 0 where
  pub by : Description
  pub stands : described m.tables c.key ≡ Some by
  pub by_node : by.node ≡ c.node
  pub to_node : c.to.node ≡ c.node
  pub held_open : is_open m.tables c.node ≡ true

still_open : (m : State) (c : Change) (n : ℕ) → IsSwept m c → is_open (acted m c).tables n ≡ is_open m.tables n
still_open m c n is = any-set (describes n) m.tables.descriptions c.key (Some is.by) (Some c.to) (slot_of m.tables c.key is.by is.stands) (ap (λ (k : ℕ). k == n) (is.to_node ∙ sym is.by_node))

pub swept-acted : (m : State) (c : Change) (n : ℕ) → IsSwept m c → swept alone (acted m c) n ≡ acted (swept alone m n) c
unfolding swept
swept-acted m c n is = elim (cases_eq c.node n) [
  | inl same ↦
      let there : is_open m.tables n ≡ true = ap (is_open m.tables) (sym same) ∙ is.held_open in
      swept-open (acted m c) n (still_open m c n is ∙ there) ∙ ap (λ x. acted x c) (sym (swept-open m n there))
  | inr other ↦
      ap (λ b. cond (is_named m.entries n || b) (acted m c) (with_node (acted m c) n Node.Gone)) (still_open m c n is)
      ∙ by (is_named m.entries n || is_open m.tables n) (node-acted m c n Node.Gone other)
] where
  by : (b : Bool) → with_node (acted m c) n Node.Gone ≡ acted (with_node m n Node.Gone) c
      → cond b (acted m c) (with_node (acted m c) n Node.Gone) ≡ acted (cond b m (with_node m n Node.Gone)) c
  by true same = refl
  by false same = same

pub made-acted : (s : State) (who : Who) (h : Handle) (c : Change) (p : List (List ℕ)) (x : Node) → Touches s who h c
    → made (acted s c) p x ≡ acted (made s p x) c
unfolding made
made-acted s who h c p x t =
    let names = space-acted s who h c t in
    let count = length-set s.nodes c.node (Node.File c.file) in
    let nodes = set-append_left s.nodes (x ∷ []) c.node (Node.File c.file) (file_within s.nodes c.node t.before t.is) in
    λ i. record (acted s c) {
      nodes = sym nodes i;
      entries = with_entry s.entries (record { parent = parent_at (names i) p; name = last_name p; child = count i });
    }

pub unnamed-acted : (s : State) (who : Who) (h : Handle) (c : Change) (p : List (List ℕ)) → Touches s who h c
    → unnamed (acted s c) p ≡ acted (unnamed s p) c
unfolding unnamed
unnamed-acted s who h c p t =
    let names = space-acted s who h c t in
    λ i. record (acted s c) { entries = without_entry s.entries (parent_at (names i) p) (last_name p) }

pub renamed-acted : (s : State) (who : Who) (h : Handle) (c : Change) (p q : List (List ℕ)) → Touches s who h c
    → renamed (acted s c) p q ≡ acted (renamed s p q) c
unfolding renamed unnamed
renamed-acted s who h c p q t =
    let names = space-acted s who h c t in
    λ i. record (acted s c) {
      entries = with_entry (without_entry (without_entry s.entries (parent_at (names i) p) (last_name p)) (parent_at (names i) q) (last_name q))
          (record { parent = parent_at (names i) q; name = last_name q; child = number_at (names i) p });
    }

pub opening-acted : (s : State) (who : Who) (h : Handle) (c : Change) (p : List (List ℕ)) (truncate : Bool)
    → Touches s who h c
    → (truncate ≡ true → exists_at (space s) p ≡ true → c.node ≢ number_at (space s) p)
    → opening (acted s c) p truncate ≡ acted (opening s p truncate) c
unfolding opening
opening-acted s who h c p truncate t aside =
    let names = space-acted s who h c t in
    ap (λ sp. cond (exists_at sp p) (cond truncate (with_node (acted s c) (number_at sp p) empty_file) (acted s c)) (made (acted s c) p empty_file)) names
    ∙ by (exists_at (space s) p) truncate aside
  where
    by : (b d : Bool) → (d ≡ true → b ≡ true → c.node ≢ number_at (space s) p)
        → cond b (cond d (with_node (acted s c) (number_at (space s) p) empty_file) (acted s c)) (made (acted s c) p empty_file)
        ≡ acted (cond b (cond d (with_node s (number_at (space s) p) empty_file) s) (made s p empty_file)) c
    by true true apart = node-acted s c (number_at (space s) p) empty_file (apart refl refl)
    by true false apart = refl
    by false d apart = made-acted s who h c p empty_file t

pub opening_number-acted : (s : State) (who : Who) (h : Handle) (c : Change) (p : List (List ℕ)) → Touches s who h c
    → opening_number (acted s c) p ≡ opening_number s p
opening_number-acted s who h c p t =
    let names = space-acted s who h c t in
    let count = length-set s.nodes c.node (Node.File c.file) in
    λ i. cond (exists_at (names i) p) (number_at (names i) p) (count i)

-- ---- tables

pub with_opened-acted : (t : Tables) (c : Change) (by : Description) (who : Who) (h : Handle) (new : Description)
    → described t c.key ≡ Some by → with_opened (with_slot t c) who h new ≡ with_slot (with_opened t who h new) c
unfolding with_opened with_descriptor
with_opened-acted t c by who h new is =
    let count = length-set t.descriptions c.key (Some c.to) in
    let slots = set-append_left t.descriptions (Some new ∷ []) c.key (Some c.to) (slice_get_within t.descriptions c.key (Some by) (slot_of t c.key by is)) in
    λ i. record t {
      descriptions = sym slots i;
      descriptors = slice_set t.descriptors (next_descriptor t) (Some (count i));
      handles = with_binding t.handles (record { who = who; handle = h; descriptor = next_descriptor t });
    }

pub with_descriptor-acted : (t : Tables) (c : Change) (who : Who) (h : Handle) (key : ℕ)
    → with_descriptor (with_slot t c) who h key ≡ with_slot (with_descriptor t who h key) c
unfolding with_descriptor
with_descriptor-acted t c who h key = refl

pub key_of-acted : (t : Tables) (c : Change) (who : Who) (h : Handle) → key_of (with_slot t c) who h ≡ key_of t who h
unfolding key_of
key_of-acted t c who h = refl

pub with_offset-acted : (t : Tables) (c : Change) (key offset : ℕ) (e : Description) → described t key ≡ Some e
    → key ≢ c.key → with_offset (with_slot t c) key offset ≡ with_slot (with_offset t key offset) c
with_offset-acted t c key offset e is other =
    let moved : Option Description = Some (record e { offset = offset }) in
    let still : described (with_slot t c) key ≡ Some e = ap (λ (x : Option (Option Description)). option_flatten x) (slice_get-set_other t.descriptions c.key key (Some c.to) other) ∙ is in
    let slots = set_comm t.descriptions c.key key (Some c.to) moved (λ same. other (sym same)) in
    with_offset-is (with_slot t c) key offset e still ∙ (λ i. record t { descriptions = slots i }) ∙ ap (λ x. with_slot x c) (sym (with_offset-is t key offset e is))

unused-acted : (m : Tables) (c : Change) (key : ℕ) → c.key ≢ key
    → without_unused (with_slot m c) key ≡ with_slot (without_unused m key) c
unused-acted m c key other = by (list_any (has_key key) m.descriptors) (set_comm m.descriptions c.key key (Some c.to) None other) where
  by : (b : Bool)
      → slice_set (slice_set m.descriptions c.key (Some c.to)) key None ≡ slice_set (slice_set m.descriptions key None) c.key (Some c.to)
      → cond b (with_slot m c) (record (with_slot m c) { descriptions = slice_set (slice_set m.descriptions c.key (Some c.to)) key None }) ≡ with_slot (cond b m (record m { descriptions = slice_set m.descriptions key None })) c
  by true slots = refl
  by false slots = λ i. record m { descriptions = slots i }

without_binding-acted : (t : Tables) (c : Change) (b : Binding) (key : ℕ)
    → description_number t.descriptors b.descriptor ≡ Some key → c.key ≢ key
    → without_binding (with_slot t c) b ≡ with_slot (without_binding t b) c
unfolding without_binding
without_binding-acted t c b key is other =
    let number : key ≡ unwrap_or (description_number t.descriptors b.descriptor) 0 = sym (ap (λ x. unwrap_or x 0) is) in
    let left : Tables = record t {
      descriptors = slice_set t.descriptors b.descriptor None;
      handles = without_place t.handles (position (is_binding b.who b.handle) t.handles);
    } in
    unused-acted left c (unwrap_or (description_number t.descriptors b.descriptor) 0) (subst (λ k. c.key ≢ k) number other)

pub closed-acted : (t : Tables) (c : Change) (who : Who) (h : Handle) (key : ℕ) (e : Description)
    → Opens t who h key e → c.key ≢ key → closed (with_slot t c) who h ≡ with_slot (closed t who h) c
closed-acted t c who h key e o other =
    closed-is (with_slot t c) who h o.binding o.bound ∙ without_binding-acted t c o.binding key o.key_is other ∙ ap (λ x. with_slot x c) (sym (closed-is t who h o.binding o.bound))
