-- The beginning, put together.
use Rattle.std.specs.Prelude.{◌≡◌, ◌<◌, ◌≤◌, ◌+◌, ℕ, Bool, true, false, List, [], ◌∷◌, fold, not, ◌==◌, Some, refl, if◌then◌else◌}
use Rattle.std.proofs.Common.{arith, ap, ◌∙◌, sym, subst}
use Rattle.std.proofs.lemmas.Bool.{and_parts}
use Rattle.world_step_laws.specs.layout_model.Places.{Geometry}
use Rattle.world_step_laws.specs.layout_model.declared.lines.Kind.{Kind}
use Rattle.world_step_laws.specs.layout_model.declared.lines.Kind.TheVariants.{Free, Directory, File, Staging}
use Rattle.world_step_laws.specs.layout_model.Lines.{is_name, NameRow}
use Rattle.world_step_laws.specs.layout_model.NameLaws.{IsNameLine-decode_name}
use Rattle.world_step_laws.specs.layout_model.Names.{row}
use Rattle.world_step_laws.specs.image_model.Reading.{slot_for}
use Rattle.world_step_laws.specs.image_model.Rules.{IsKindAt}
use Rattle.world_step_laws.specs.image_model.Volume.{inode}
use Rattle.world_step_laws.specs.name_laws.RowLaws.{row-below}
use Rattle.world_step_laws.specs.posix_types.declared.reply.Shape.{Shape}
use Rattle.world_step_laws.specs.posix_types.declared.tree.TreeEntry.{TreeEntry}
use Rattle.world_step_laws.specs.posix_tables.Names.{is_root}
use Rattle.world_step_laws.specs.posix_tables.Places.{node_of}
use Rattle.world_step_laws.specs.posix_spec.State.{made, State}
use Rattle.world_step_laws.specs.posix_spec.Tree.{bare, planted, start}
use Rattle.world_step_laws.specs.posix_laws.Begins.{AreBegun-start, IsTree}
use Rattle.world_step_laws.specs.posix_laws.TreeLaws.{tree-start}
use Rattle.world_step_laws.specs.world_model.Stands.{NodesStand, Stands}
use Rattle.world_step_laws.specs.Counts.{HasShape, lines_left-same, nodes_left-same}
use Rattle.world_image_laws.specs.Begun.{NamesStand-begun, NodesStand-begun, numbers_of}
use Rattle.world_image_laws.specs.BeginningLaws.{BeginsMounted, HasTreeMounted, MountsReads}
use Rattle.world_image_laws.specs.BeginningRooms.{Fits-mounted}
use Rattle.world_image_laws.specs.Trees.{IsTree-content}

pub has_tree : HasTreeMounted
has_tree v live f t m is = IsTree-content v live f t m is

-- the shape of a beginning
shape_planted : (s : State) (e : TreeEntry) → (planted s e).shape ≡ s.shape
unfolding made
shape_planted s e = by (is_root e.path) where
  by : (b : Bool) → (if b then s else made s e.path (node_of e.node)).shape ≡ s.shape
  by true = refl
  by false = refl

shape_fold : (s : State) (es : List TreeEntry) → (fold planted s es).shape ≡ s.shape
shape_fold s [] = refl
shape_fold s (e ∷ es) = shape_fold (planted s e) es ∙ shape_planted s e

-- THE BEGINNING.
pub begins : BeginsMounted
begins v f t shape mode m geometry same is fits = record {
  world = record {
    valid = record {
      stands = stands;
      out = tt;
      fits = Fits-mounted v [] f (numbers_of v t) s m nodes (ap (λ (x : Shape). x.data_blocks) shape_is ∙ same.blocks) fits;
      room = omega arith;
    };
    claims_stand = record { orders = λ a b d e first. absurd first; settled = λ a d first. absurd first };
    aged = record { small = omega arith; staging = λ d is_in. absurd is_in; own = λ d is_in. absurd is_in; taken = λ d is_in. absurd is_in };
    shape = has_shape;
    geometry = geometry;
  };
  tree_is = tree-start t shape mode is_tree;
  nodes_left = nodes_left-same v [] f (numbers_of v t) s m.sane stands.names nodes has_shape;
  lines_left = lines_left-same v (numbers_of v t) s m.sane stands.names has_shape;
} where
  s : State
  s = start t shape mode

  is_tree : IsTree t
  is_tree = IsTree-content v [] f t m is

  nodes : NodesStand v [] f (numbers_of v t) s
  nodes = NodesStand-begun v [] f t s m is (AreBegun-start t shape mode is_tree)

  stands : Stands v [] f (numbers_of v t) s
  stands = record {
    sane = m.sane;
    names = NamesStand-begun v [] f t s m is (AreBegun-start t shape mode is_tree);
    nodes = nodes;
    log = record { staging = λ d is_in. absurd is_in; staged = λ d is_in. absurd is_in; apart = λ d e is_in other. absurd is_in; orders = λ ino. tt };
  }

  shape_is : s.shape ≡ shape
  shape_is = shape_fold (bare shape mode) t

  has_shape : HasShape v s
  has_shape = record {
    root = subst (λ (x : Shape). 1 ≤ x.nodes) (sym shape_is) (omega (arith, same.nodes, geometry.least_inodes));
    nodes = ap (λ (x : Shape). x.nodes + 4) shape_is ∙ (same.nodes ∙ sym m.sane.inode_count);
    names = ap (λ (x : Shape). x.names) shape_is ∙ (same.names ∙ sym m.sane.name_count);
  }

-- Words that read as a volume.
root_kind : (kind : Kind) → IsKindAt 0 kind → kind ≡ Directory
root_kind Free is = absurd (omega (arith, is))
root_kind Directory is = refl
root_kind File is = absurd (omega (arith, is))
root_kind Staging is = absurd (omega (arith, is.0))

pub mounts : MountsReads
mounts g j v reads kept geometry named = record {
  sane = record {
    kept = kept;
    inode_count = reads.inode_count ∙ ap (λ (x : Geometry). x.inodes) (sym reads.geometry);
    name_count = reads.name_count ∙ ap (λ (x : Geometry). x.names) (sym reads.geometry);
    chain_count = reads.chain_count ∙ ap (λ (x : Geometry). x.inodes) (sym reads.geometry);
    map_count = reads.map_count ∙ ap (λ (x : Geometry). x.inodes) (sym reads.geometry);
    spelled = spelled;
  };
  root = root_kind (inode v 0).kind (kept.kinds 0 (subst (λ (x : Geometry). 0 < x.inodes) (sym reads.geometry) (omega (arith, geometry.least_inodes))));
  named = named;
} where
  spelled : (k : ℕ) (r : NameRow) → row v.names k ≡ Some r → is_name r.name ≡ true
  spelled k r is =
      let below : k < g.names = subst (λ n. k < n) reads.name_count (row-below v.names k r is) in
      let line = IsNameLine-decode_name _ r (reads.names k below ∙ ap slot_for is) in
      (and_parts (not (r.child == 0)) (is_name r.name) line.fields).1
