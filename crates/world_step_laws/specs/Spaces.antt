-- The space of a state mirrors that of a volume that stands for it.
use Rattle.std.specs.Prelude.{◌≡◌, ℕ, zero, suc, List, [], ◌∷◌, Option, Some, None, option_map, refl}
use Rattle.std.proofs.Common.{ap, ◌∙◌, sym, subst, inl, inr}
use Rattle.std.proofs.lemmas.Option.{get_or_from_slice_get, same_Some}
use Rattle.world_model.specs.name_laws.pm_model.Words.{Words}
use Rattle.world_model.specs.name_laws.layout_model.declared.lines.Draft.{Draft}
use Rattle.world_model.specs.name_laws.layout_model.declared.lines.Kind.{Kind}
use Rattle.world_model.specs.name_laws.layout_model.declared.lines.Kind.TheVariants.{Free, Directory, File, Staging}
use Rattle.world_model.specs.name_laws.layout_model.Lines.{NameRow}
use Rattle.world_model.specs.name_laws.layout_model.Names.{child_named, row, Rows}
use Rattle.world_model.specs.name_laws.layout_model.TableLaws.{child_named-at, NamingLine-child_named}
use Rattle.world_model.specs.name_laws.image_model.Live.{is_directory}
use Rattle.world_model.specs.name_laws.image_model.Volume.{inode, Volume}
use Rattle.world_model.specs.name_laws.k_split_model.Spaces.{entries_of, entry_of, volume_space}
use Rattle.world_model.specs.name_laws.KeptLaws.{kept-keyed}
use Rattle.world_model.specs.name_laws.RowLaws.{row-below}
use Rattle.world_model.specs.name_laws.EntryLaws.{child_of-rows}
use Rattle.world_model.specs.name_laws.posix_tables.declared.nodes.DirEntry.{DirEntry}
use Rattle.world_model.specs.name_laws.posix_tables.declared.nodes.Node.{Node}
use Rattle.world_model.specs.name_laws.posix_tables.Names.{child_of, longest_path}
use Rattle.world_model.specs.name_laws.posix_tables.Nodes.{is_directory as is_directory_node, node_at}
use Rattle.world_model.specs.posix_spec.State.{space, State}
use Rattle.world_model.specs.list_laws.Filters.{filter_map-In, In-filter_map}
use Rattle.world_model.specs.list_laws.Members.{In, slice_get-In}
use Rattle.world_model.specs.posix_laws.Entries.{child_of-In, Leads-child_of}
use Rattle.world_model.specs.Stands.{IsSane, IsUsed, NamesStand, NodeStands, number, Stands}
use Rattle.world_model.specs.TreeRules.{all_lines, child_used}
use Rattle.world_step_laws.specs.Counts.{HasShape, lines_left-same, nodes_left-same}
use Rattle.world_step_laws.specs.Heights.{has_entries-Match, height-Match, IsMatched, IsMatchedBack, Match}
use Rattle.world_step_laws.specs.Mirrors.{Mirrors}

-- A row is one of its table.
In_row : (rows : Rows) (k : ℕ) (r : NameRow) → row rows k ≡ Some r → In (Some r) rows
In_row [] k r is = cc
In_row (o ∷ rows) zero r is = inl is
In_row (o ∷ rows) (suc k) r is = inr (In_row rows k r is)

the_row : (o : Option NameRow) (e : DirEntry) → entry_of o ≡ Some e → (r : NameRow) × (o ≡ Some r) × (r.parent ≡ e.parent) × (r.name ≡ e.name) × (r.child ≡ e.child)
the_row None e is = cc
the_row (Some r) e is =
    let same = same_Some _ e is in
    (r, refl, ap (λ (d : DirEntry). d.parent) same, ap (λ (d : DirEntry). d.name) same, ap (λ (d : DirEntry). d.child) same)

matched : (v : Volume) (numbers : List ℕ) (s : State) → IsSane v → NamesStand v numbers s → (e : DirEntry) → In e (entries_of v.names) → IsUsed v e.parent → IsMatched (IsUsed v) numbers s.entries e.parent e.child
matched v numbers s sane names e is used =
    let from = filter_map-In entry_of v.names e is in
    let place = slice_get-In v.names from.0 from.1 in
    let r = the_row from.0 e from.2 in
    let at : row v.names place.0 ≡ Some r.0 = get_or_from_slice_get v.names place.0 from.0 None place.1 ∙ r.1 in
    let led : child_named v.names r.0.parent r.0.name ≡ Some r.0.child = child_named-at v.names place.0 r.0 (kept-keyed v sane.kept (all_lines v sane)) (row-below v.names place.0 r.0 at) at in
    let named : child_named v.names e.parent e.name ≡ Some e.child = (λ i. child_named v.names (sym r.2 i) (sym r.3 i)) ∙ (led ∙ ap Some r.4) in
    let leads : child_of s.entries (number numbers e.parent) e.name ≡ Some (number numbers e.child) = sym (names.names e.parent e.name used) ∙ ap (option_map (number numbers)) named in
    let its = Leads-child_of s.entries (number numbers e.parent) e.name (number numbers e.child) leads in
    record { entry = its.entry; is = its.is; parent_is = its.parent_is; child_is = its.child_is; child_used = child_used v sane e.parent e.name e.child named }

matched_back : (v : Volume) (numbers : List ℕ) (s : State) → IsSane v → NamesStand v numbers s → (p : ℕ) (e : DirEntry) → IsUsed v p → In e s.entries → e.parent ≡ number numbers p
    → IsMatchedBack (IsUsed v) numbers (entries_of v.names) p e.child
matched_back v numbers s sane names p e used is parent =
    by (child_named v.names p e.name) refl (names.names p e.name used ∙ (ap (λ n. child_of s.entries n e.name) (sym parent) ∙ child_of-In s.entries e names.distinct is)) where
      by : (o : Option ℕ) → child_named v.names p e.name ≡ o → option_map (number numbers) o ≡ Some e.child → IsMatchedBack (IsUsed v) numbers (entries_of v.names) p e.child
      by None named to = cc
      by (Some c) named to =
          let line = NamingLine-child_named v.names p e.name c named in
          let made : DirEntry = record { parent = line.at.parent; name = line.at.name; child = line.at.child } in
          record {
            entry = made;
            is = In-filter_map entry_of v.names (Some line.at) made (In_row v.names line.line line.at line.is) refl;
            parent_is = line.parent_is;
            child_is = ap (number numbers) line.child_is ∙ same_Some (number numbers c) e.child to;
            child_used = subst (IsUsed v) (sym line.child_is) (child_used v sane p e.name c named);
          }

Match-entries : (v : Volume) (numbers : List ℕ) (s : State) → IsSane v → NamesStand v numbers s → Match (IsUsed v) numbers (entries_of v.names) s.entries
Match-entries v numbers s sane names = record { on = matched v numbers s sane names; back = matched_back v numbers s sane names }

same_kind : (v : Volume) (live : List Draft) (f : Words) (ino : ℕ) (kind : Kind) (node : Node) → NodeStands v live f ino kind node → is_directory_node (node ∷ []) 0 ≡ is_directory kind
same_kind v live f ino Free node stands = absurd stands
same_kind v live f ino Staging node stands = absurd stands
same_kind v live f ino Directory Node.Gone stands = absurd stands
same_kind v live f ino Directory Node.Directory stands = refl
same_kind v live f ino Directory (Node.File file) stands = absurd stands
same_kind v live f ino File Node.Gone stands = absurd stands
same_kind v live f ino File Node.Directory stands = absurd stands
same_kind v live f ino File (Node.File file) stands = refl

-- THE SPACE OF THE STATE mirrors that of the volume.
pub Mirrors-Stands : (v : Volume) (live : List Draft) (f : Words) (numbers : List ℕ) (s : State) → Stands v live f numbers s → HasShape v s → Mirrors (IsUsed v) numbers (volume_space v) (space s)
Mirrors-Stands v live f numbers s stands shape = record {
  root = stands.names.root;
  root_used = stands.names.root_used;
  one = stands.names.one;
  directory = λ i used. same_kind v live f i (inode v i).kind (node_at s.nodes (number numbers i)) (stands.nodes.each i used);
  names = λ p name used. ap (option_map (number numbers)) (child_of-rows v.names p name) ∙ stands.names.names p name used;
  children = λ p name c leads. child_used v stands.sane p name c (sym (child_of-rows v.names p name) ∙ leads);
  filled = λ p used. has_entries-Match (IsUsed v) numbers (entries_of v.names) s.entries match p used;
  heights = λ p used. height-Match (IsUsed v) numbers (entries_of v.names) s.entries match longest_path p used;
  nodes_left = nodes_left-same v live f numbers s stands.sane stands.names stands.nodes shape;
  lines_left = lines_left-same v numbers s stands.sane stands.names shape;
  longest = refl;
} where
  match : Match (IsUsed v) numbers (entries_of v.names) s.entries
  match = Match-entries v numbers s stands.sane stands.names
