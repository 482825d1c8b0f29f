-- Where a volume stands for a state, each path of the state leads to a node that is there.
use Rattle.std.specs.Prelude.{◌≡◌, ◌≢◌, ℕ, Bool, true, false, List, Option, Some, None, is_some, option_map, Result, Ok, Err, unwrap_or, refl}
use Rattle.std.proofs.Common.{ap, ◌∙◌, subst}
use Rattle.std.proofs.lemmas.Option.{same_Some}
use Rattle.world_image_laws.specs.pm_model.Words.{Words}
use Rattle.world_image_laws.specs.layout_model.declared.lines.Draft.{Draft}
use Rattle.world_image_laws.specs.layout_model.declared.lines.Kind.{Kind}
use Rattle.world_image_laws.specs.layout_model.declared.lines.Kind.TheVariants.{Directory, File, Free, Staging}
use Rattle.world_image_laws.specs.layout_model.Names.{child_named}
use Rattle.world_image_laws.specs.image_model.Volume.{inode, Volume}
use Rattle.world_image_laws.specs.posix_types.declared.reply.Errno.{Errno}
use Rattle.world_image_laws.specs.posix_tables.declared.nodes.Node.{Node}
use Rattle.world_image_laws.specs.posix_tables.Names.{child_of, is_root, last_name, node_at_path, walk}
use Rattle.world_image_laws.specs.posix_tables.Nodes.{node_at}
use Rattle.world_image_laws.specs.posix_spec.State.{space, State}
use Rattle.world_image_laws.specs.posix_laws.Publishes.{PathsLeadToNodes}
use Rattle.world_image_laws.specs.world_model.Stands.{IsUsed, NodeStands, number, Stands}
use Rattle.world_image_laws.specs.world_model.TreeRules.{child_used}

-- the inode of a node
record IsNodeOf (v : Volume) (numbers : List ℕ) (n : ℕ) : Type 0 where
  ino : ℕ
  used : IsUsed v ino
  is : number numbers ino ≡ n

gone_stands : (v : Volume) (live : List Draft) (f : Words) (ino : ℕ) (kind : Kind) → NodeStands v live f ino kind Node.Gone → ⊥
gone_stands v live f ino Free stands = stands
gone_stands v live f ino Directory stands = stands
gone_stands v live f ino File stands = stands
gone_stands v live f ino Staging stands = stands

child_node : (v : Volume) (live : List Draft) (f : Words) (numbers : List ℕ) (s : State) → Stands v live f numbers s → (d n : ℕ) (name : List ℕ) → child_of s.entries d name ≡ Some n → IsNodeOf v numbers n
child_node v live f numbers s stands d n name is = by from.0 from.1 (child_named v.names from.0 name) refl (stands.names.names from.0 name from.1 ∙ (ap (λ k. child_of s.entries k name) from.2 ∙ is)) where
  from : (p : ℕ) × IsUsed v p × (number numbers p ≡ d)
  from = stands.names.entry_parents d name n is

  by : (p : ℕ) → IsUsed v p → (o : Option ℕ) → child_named v.names p name ≡ o → option_map (number numbers) o ≡ Some n → IsNodeOf v numbers n
  by p used None named leads = cc
  by p used (Some c) named leads = record { ino = c; used = child_used v stands.sane p name c named; is = same_Some (number numbers c) n leads }

path_node : (v : Volume) (live : List Draft) (f : Words) (numbers : List ℕ) (s : State) → Stands v live f numbers s → (p : List (List ℕ)) (n : ℕ) → node_at_path (space s) p ≡ Some n → IsNodeOf v numbers n
unfolding node_at_path
path_node v live f numbers s stands p n is = by (is_root p) (walk (space s) p) refl refl where
  by : (root : Bool) (w : Result ℕ Errno) → is_root p ≡ root → walk (space s) p ≡ w → IsNodeOf v numbers n
  by true w rooted led =
      let zeroth : Some 0 ≡ Some n = rw rooted at is in
      record { ino = 0; used = stands.names.root_used; is = stands.names.root ∙ same_Some 0 n zeroth }
  by false (Err errno) rooted led = let never : None ≡ Some n = rw (rooted, led) at is in cc
  by false (Ok d) rooted led =
      let child : child_of s.entries d (last_name p) ≡ Some n = rw (rooted, led) at is in
      child_node v live f numbers s stands d n (last_name p) child

pub paths_lead : (v : Volume) (live : List Draft) (f : Words) (numbers : List ℕ) (s : State) → Stands v live f numbers s → PathsLeadToNodes s
paths_lead v live f numbers s stands p = by (node_at_path (space s) p) refl where
  by : (o : Option ℕ) → node_at_path (space s) p ≡ o → is_some o ≡ true → node_at s.nodes (unwrap_or o 0) ≢ Node.Gone
  by None at there = cc
  by (Some n) at there = λ gone.
      let node = path_node v live f numbers s stands p n at in
      let stands_there = stands.nodes.each node.ino node.used in
      gone_stands v live f node.ino (inode v node.ino).kind
      (subst (NodeStands v live f node.ino (inode v node.ino).kind) (ap (node_at s.nodes) node.is ∙ gone) stands_there)
