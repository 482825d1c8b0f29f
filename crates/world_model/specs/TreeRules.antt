-- The names of a sane volume are those of a tree, and so are the entries of a state for which it stands.
use Rattle.std.specs.Prelude.{◌≡◌, ◌≢◌, ◌⊎◌, ◌<◌, ◌≤◌, ℕ, zero, suc, ◌==◌, not, ◌&&◌, nat_le, true, false, List, [], ◌∷◌, length, Option, Some, None, option_and_then, option_map, refl}
use Rattle.std.specs.List.{list_all}
use Rattle.std.proofs.Common.{ap, ◌∙◌, sym, subst, inl, inr}
use Rattle.std.proofs.lemmas.Bool.{and_parts, cases_lt}
use Rattle.std.proofs.lemmas.Bool.Decides.{Decides-eqb}
use Rattle.std.proofs.lemmas.List.{get_or_past}
use Rattle.std.proofs.lemmas.Option.{same_Some}
use Rattle.name_laws.specs.layout_model.declared.lines.Kind.{Kind}
use Rattle.name_laws.specs.layout_model.declared.lines.Kind.TheVariants.{Free, Directory, File, Staging}
use Rattle.name_laws.specs.layout_model.Lines.{is_dots, is_name, is_name_byte, line_name_bytes, NameRow}
use Rattle.name_laws.specs.layout_model.Names.{child_named, is_child, names_of, parent_of, row, up}
use Rattle.name_laws.specs.layout_model.TableLaws.{child_named-NamingLine, NamingLine-child_named, NamingLine-parent_of}
use Rattle.name_laws.specs.layout_model.Tables.{NamingLine}
use Rattle.name_laws.specs.image_model.Live.{is_directory, is_file}
use Rattle.name_laws.specs.image_model.Volume.{free_inode, inode, Volume}
use Rattle.name_laws.specs.k_split_model.Spaces.{is_directory_in}
use Rattle.name_laws.specs.KeptLaws.{HasAllLines, kept-forest, kept-keyed, kept-named, kept-one_name, kept-placed}
use Rattle.name_laws.specs.RowLaws.{names_of-one_line, names_of-zero}
use Rattle.crash_spec.specs.posix_laws.posix_tables.declared.nodes.DirEntry.{DirEntry}
use Rattle.crash_spec.specs.posix_laws.posix_tables.Names.{child_of}
use Rattle.crash_spec.specs.posix_laws.posix_spec.State.{State}
use Rattle.crash_spec.specs.list_laws.Members.{In}
use Rattle.crash_spec.specs.posix_laws.Entries.{child_of-In, HoldsEntry, IsDeep, IsTreeLike, Leads-child_of}
use Rattle.crash_spec.specs.posix_laws.Paths.{HasNoSlash, IsFilled, IsPlainName}
use Rattle.world_model.specs.Stands.{is_used, IsSane, IsUsed, NamesStand, number}

pub all_lines : (v : Volume) → IsSane v → HasAllLines v
all_lines v sane = record { inode_count = sane.inode_count; name_count = sane.name_count }

-- no node has two names
pub one_name : (v : Volume) → IsSane v → (ino : ℕ) → names_of v.names ino ≤ 1
one_name v sane ino = kept-one_name v sane.kept (all_lines v sane) ino

-- Inodes in use.

pub used_below : (v : Volume) (ino : ℕ) → IsUsed v ino → ino < length v.inodes
used_below v ino used = elim (cases_lt ino (length v.inodes)) [
  | inl below ↦ below
  | inr past ↦
      let never : true ≡ false = sym used ∙ ap (λ x. is_used x.kind) (get_or_past v.inodes ino free_inode past) in
      cc
]

used_node : (kind : Kind) → (is_directory kind ≡ true) ⊎ (is_file kind ≡ true) → is_used kind ≡ true
used_node Free (inl is) = cc
used_node Free (inr is) = cc
used_node Directory is = refl
used_node File is = refl
used_node Staging (inl is) = cc
used_node Staging (inr is) = cc

-- names lead from inodes in use to inodes in use
pub child_used : (v : Volume) → IsSane v → (p : ℕ) (name : List ℕ) (c : ℕ) → child_named v.names p name ≡ Some c → IsUsed v c
child_used v sane p name c leads =
    let line = NamingLine-child_named v.names p name c leads in
    subst (IsUsed v) line.child_is (used_node (inode v line.at.child).kind (kept-named v line.line line.at sane.kept (all_lines v sane) line.is).0)

pub parent_used : (v : Volume) → IsSane v → (p : ℕ) (name : List ℕ) (c : ℕ) → child_named v.names p name ≡ Some c → IsUsed v p
parent_used v sane p name c leads =
    let line = NamingLine-child_named v.names p name c leads in
    subst (IsUsed v) line.parent_is (used_node (inode v line.at.parent).kind (inl (kept-placed v line.line line.at sane.kept (all_lines v sane) line.is).parent))

-- Names of lines are plain.

no_slash : (name : List ℕ) → list_all is_name_byte name ≡ true → HasNoSlash name
no_slash [] all = tt
no_slash (b ∷ bs) all =
    let parts = and_parts (is_name_byte b) (list_all is_name_byte bs) all in
    let printable = and_parts (nat_le 33 b && nat_le b 126) (not (b == 47)) parts.0 in
    (λ is. let never : true ≡ false = sym printable.1 ∙ ap not ((Decides-eqb b 47).1 is) in cc, no_slash bs parts.1)

filled : (name : List ℕ) → nat_le 1 (length name) ≡ true → IsFilled name
filled [] long = let never : true ≡ false = sym long in cc
filled (b ∷ bs) long = tt

plain : (name : List ℕ) → is_name name ≡ true → IsPlainName name
plain name is =
    let first = and_parts (list_all is_name_byte name && nat_le 1 (length name) && nat_le (length name) line_name_bytes) (not (is_dots name)) is in
    let second = and_parts (list_all is_name_byte name && nat_le 1 (length name)) (nat_le (length name) line_name_bytes) first.0 in
    let third = and_parts (list_all is_name_byte name) (nat_le 1 (length name)) second.0 in
    record { filled = filled name third.1; no_slash = no_slash name third.0 }

-- Entries of the state.

-- the line of an entry
record HasLine (v : Volume) (numbers : List ℕ) (e : DirEntry) : Type 0 where
  parent : ℕ
  child : ℕ
  parent_used : IsUsed v parent
  child_used : IsUsed v child
  parent_is : number numbers parent ≡ e.parent
  child_is : number numbers child ≡ e.child
  line : NamingLine v.names parent e.name child

has_line : (v : Volume) (numbers : List ℕ) (s : State) → IsSane v → NamesStand v numbers s → (e : DirEntry) → In e s.entries → HasLine v numbers e
has_line v numbers s sane names e is =
    let leads : child_of s.entries e.parent e.name ≡ Some e.child = child_of-In s.entries e names.distinct is in
    let from = names.entry_parents e.parent e.name e.child leads in
    by from.0 from.1 from.2 (child_named v.names from.0 e.name) refl (names.names from.0 e.name from.1 ∙ (ap (λ n. child_of s.entries n e.name) from.2 ∙ leads)) where
      by : (p : ℕ) → IsUsed v p → number numbers p ≡ e.parent → (o : Option ℕ) → child_named v.names p e.name ≡ o → option_map (number numbers) o ≡ Some e.child → HasLine v numbers e
      by p used parent None named to = cc
      by p used parent (Some c) named to = record {
        parent = p;
        child = c;
        parent_used = used;
        child_used = child_used v sane p e.name c named;
        parent_is = parent;
        child_is = same_Some (number numbers c) e.child to;
        line = NamingLine-child_named v.names p e.name c named;
      }

child_at : (rows : List (Option NameRow)) (p c : ℕ) (name : List ℕ) (line : NamingLine rows p name c) → is_child c (row rows line.line) ≡ true
child_at rows p c name line = ap (is_child c) line.is ∙ (Decides-eqb line.at.child c).1 line.child_is

deep_up : (v : Volume) (numbers : List ℕ) (s : State) → IsSane v → NamesStand v numbers s → (n p : ℕ) → IsUsed v p → up v.names n p ≡ Some 0 → IsDeep s.entries n (number numbers p)
unfolding up
deep_up v numbers s sane names zero p used ends = ap (number numbers) (same_Some p 0 ends) ∙ names.root
deep_up v numbers s sane names (suc n) p used ends = by (parent_of v.names p) refl ends (deep_up v numbers s sane names n) where
  by : (o : Option ℕ) → parent_of v.names p ≡ o → option_and_then (up v.names n) o ≡ Some 0 → ((q : ℕ) → IsUsed v q → up v.names n q ≡ Some 0 → IsDeep s.entries n (number numbers q))
      → (e : DirEntry) × In e s.entries × (e.child ≡ number numbers p) × IsDeep s.entries n e.parent
  by None parent to rest = cc
  by (Some q) parent to rest =
      let line = NamingLine-parent_of v.names p q parent in
      let named = child_named-NamingLine v.names q line.0 p (kept-keyed v sane.kept (all_lines v sane)) line.1 in
      let above = parent_used v sane q line.0 p named in
      let led : child_of s.entries (number numbers q) line.0 ≡ Some (number numbers p) = sym (names.names q line.0 above) ∙ ap (λ o. option_map (number numbers) o) named in
      let its = Leads-child_of s.entries (number numbers q) line.0 (number numbers p) led in
      (its.entry, its.is, its.child_is, subst (IsDeep s.entries n) (sym its.parent_is) (rest q above to))

-- The entries of a state for which a sane volume stands are those of a tree.
pub IsTreeLike-names : (v : Volume) (numbers : List ℕ) (s : State) → IsSane v → NamesStand v numbers s → IsTreeLike s.entries
IsTreeLike-names v numbers s sane names = record { distinct = names.distinct; root = root; one = one; deep = deep; names = plain_name } where
  line_of : (e : DirEntry) → In e s.entries → HasLine v numbers e
  line_of e is = has_line v numbers s sane names e is

  root : (e : DirEntry) → In e s.entries → e.child ≢ 0
  root e is zeroth =
      let its = line_of e is in
      let none : its.child ≡ 0 = names.one its.child 0 its.child_used names.root_used (its.child_is ∙ (zeroth ∙ sym names.root)) in
      let there : is_child 0 (row v.names its.line.line) ≡ true = ap (is_child 0) its.line.is ∙ (Decides-eqb its.line.at.child 0).1 (its.line.child_is ∙ none) in
      let never : true ≡ false = sym there ∙ names_of-zero v.names 0 sane.kept.directories.root its.line.line in
      cc

  -- a directory in which an entry stands has one line
  one : (d : ℕ) (a b : DirEntry) → HoldsEntry s.entries d → In a s.entries → In b s.entries → a.child ≡ d → b.child ≡ d → a ≡ b
  one d a b holds a_is b_is first second =
      let its = line_of a a_is in
      let other = line_of b b_is in
      let below = line_of holds.entry holds.is in
      let forest = kept-forest v sane.kept (all_lines v sane) in
      let same : a.child ≡ b.child = first ∙ sym second in
      let child : other.child ≡ its.child = names.one other.child its.child other.child_used its.child_used (other.child_is ∙ (sym same ∙ sym its.child_is)) in
      let it : its.child ≡ below.parent = names.one its.child below.parent its.child_used below.parent_used (its.child_is ∙ (first ∙ (sym holds.parent_is ∙ sym below.parent_is))) in
      let directory : is_directory_in v.inodes its.child ≡ true =
      ap (is_directory_in v.inodes) (it ∙ sym below.line.parent_is) ∙ forest.parents below.line.line below.line.at below.line.is in
      let there = subst (λ c. is_child c (row v.names other.line.line) ≡ true) child (child_at v.names other.parent other.child b.name other.line) in
      let line : its.line.line ≡ other.line.line =
      names_of-one_line v.names its.child its.line.line other.line.line (forest.one_name its.child directory)
      (child_at v.names its.parent its.child a.name its.line) there in
      let at : its.line.at ≡ other.line.at = same_Some its.line.at other.line.at (sym its.line.is ∙ (ap (row v.names) line ∙ other.line.is)) in
      let name : a.name ≡ b.name = sym its.line.name_is ∙ (ap (λ (r : NameRow). r.name) at ∙ other.line.name_is) in
      let above : its.parent ≡ other.parent = sym its.line.parent_is ∙ (ap (λ (r : NameRow). r.parent) at ∙ other.line.parent_is) in
      let parent : a.parent ≡ b.parent = sym its.parent_is ∙ (ap (number numbers) above ∙ other.parent_is) in
      λ i. record { parent = parent i; name = name i; child = same i }

  deep : (e : DirEntry) → In e s.entries → (n : ℕ) × IsDeep s.entries n e.parent
  deep e is =
      let its = line_of e is in
      let steps = (kept-placed v its.line.line its.line.at sane.kept (all_lines v sane) its.line.is).steps in
      let ends = subst (λ p. up v.names steps.0 p ≡ Some 0) its.line.parent_is steps.2 in
      (steps.0, subst (IsDeep s.entries steps.0) its.parent_is (deep_up v numbers s sane names steps.0 its.parent its.parent_used ends))

  plain_name : (e : DirEntry) → In e s.entries → IsPlainName e.name
  plain_name e is =
      let its = line_of e is in
      subst IsPlainName its.line.name_is (plain its.line.at.name (sane.spelled its.line.line its.line.at its.line.is))
