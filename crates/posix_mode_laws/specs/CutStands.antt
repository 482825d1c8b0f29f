-- The state that would be committed: it is left, it is the one for which the batch stands, and it leaves the reserve.
use Rattle.std.specs.Prelude.{◌≡◌, ◌≤◌, ◌<◌, ◌+◌, ℕ, suc, List, [], ◌∷◌, length, option_map, Some, take, slice_index, refl}
use Rattle.std.proofs.Common.{arith, ap, ◌∙◌, sym, subst}
use Rattle.std.proofs.Math.ListN.{get_or-map}
use Rattle.std.proofs.lemmas.List.{ext_get_or, get_or-take, length-map, length-take}
use Rattle.std.proofs.lemmas.List.Sums.{sum_by-cons}
use Rattle.world_image_laws.specs.pm_model.Words.{Words}
use Rattle.world_image_laws.specs.layout_model.declared.lines.Draft.{Draft}
use Rattle.world_image_laws.specs.layout_model.declared.lines.Kind.{Kind}
use Rattle.world_image_laws.specs.layout_model.declared.lines.Kind.TheVariants.{Directory, File, Free, Staging}
use Rattle.world_image_laws.specs.layout_model.Names.{child_named}
use Rattle.world_image_laws.specs.image_model.Volume.{inode, Volume}
use Rattle.world_image_laws.specs.posix_types.declared.reply.Shape.{Shape}
use Rattle.world_image_laws.specs.block_counts.Counts.{held_by, reserve_for}
use Rattle.world_image_laws.specs.posix_tables.declared.nodes.DirEntry.{DirEntry}
use Rattle.world_image_laws.specs.posix_tables.declared.nodes.Node.{Node}
use Rattle.world_image_laws.specs.posix_tables.Lookups.{AreDistinct}
use Rattle.world_image_laws.specs.posix_tables.Names.{child_of}
use Rattle.world_image_laws.specs.posix_tables.Nodes.{bytes_of, node_at}
use Rattle.world_image_laws.specs.posix_tables.Room.{held}
use Rattle.world_image_laws.specs.posix_spec.State.{Fits, State}
use Rattle.world_image_laws.specs.posix_laws.Cuts.{cut_node, cut_of}
use Rattle.world_image_laws.specs.posix_laws.FitsLaws.{held_by-le}
use Rattle.world_image_laws.specs.crash_spec.Posix.{ByteRule, IsLeft, NodeLeft}
use Rattle.world_image_laws.specs.world_model.Stands.{NodeStands, number, Stands}
use Rattle.posix_mode_laws.specs.BatchLaws.{AnyByte, CutIsLeft, CutIsOne, FitsLeft}
use Rattle.posix_mode_laws.specs.Sides.{Same}

-- ---- it is left

take_index : (xs : List ℕ) (n i : ℕ) → i < length (take n xs) → slice_index (take n xs) i ≡ slice_index xs i
take_index xs n i below = get_or-take n xs i 0 (let long = length-take n xs in omega (arith, below, long))

left_one : (n : ℕ) (x : Node) → NodeLeft Same n x (cut_node x)
left_one n Node.Gone = refl
left_one n Node.Directory = refl
left_one n (Node.File file) = record { size = refl; each = λ i below. take_index file.bytes file.published i below }

node_cut : (s : State) (n : ℕ) → node_at (cut_of s).nodes n ≡ cut_node (node_at s.nodes n)
node_cut s n = get_or-map cut_node s.nodes n Node.Gone

pub cut_left : CutIsLeft
cut_left s = record {
  entries = refl;
  count = length-map s.nodes cut_node;
  each = λ n. subst (NodeLeft Same n (node_at s.nodes n)) (sym (node_cut s n)) (left_one n (node_at s.nodes n));
}

-- ---- states that differ in published lengths and tables alone

abbrev AreAlike : Node → Node → Type 0
AreAlike Node.Gone y = y ≡ Node.Gone
AreAlike Node.Directory y = y ≡ Node.Directory
AreAlike (Node.File a) (Node.File b) = a.bytes ≡ b.bytes
AreAlike (Node.File a) Node.Gone = ⊥
AreAlike (Node.File a) Node.Directory = ⊥

alike_gone : (x y : Node) → AreAlike x y → x ≡ Node.Gone → y ≡ Node.Gone
alike_gone Node.Gone y is gone = is
alike_gone Node.Directory y is gone = cc
alike_gone (Node.File file) y is gone = cc

stands_alike : (v : Volume) (live : List Draft) (f : Words) (ino : ℕ) (kind : Kind) (x y : Node) → AreAlike x y → NodeStands v live f ino kind x → NodeStands v live f ino kind y
stands_alike v live f ino Free x y is stands = absurd stands
stands_alike v live f ino Staging x y is stands = absurd stands
stands_alike v live f ino Directory Node.Gone y is stands = absurd stands
stands_alike v live f ino Directory Node.Directory y is stands = subst (NodeStands v live f ino Directory) (sym is) tt
stands_alike v live f ino Directory (Node.File file) y is stands = absurd stands
stands_alike v live f ino File Node.Gone y is stands = absurd stands
stands_alike v live f ino File Node.Directory y is stands = absurd stands
stands_alike v live f ino File (Node.File a) Node.Gone is stands = absurd is
stands_alike v live f ino File (Node.File a) Node.Directory is stands = absurd is
stands_alike v live f ino File (Node.File a) (Node.File b) is stands = record {
  size = stands.size ∙ ap (λ (bs : List ℕ). length bs) is;
  each = λ i below. (
      let there = subst (λ (bs : List ℕ). i < length bs) (sym is) below in
      stands.each i there ∙ ap (λ (bs : List ℕ). slice_index bs i) is);
}

same_stands : (v : Volume) (live : List Draft) (f : Words) (numbers : List ℕ) (s t : State) → t.entries ≡ s.entries → length t.nodes ≡ length s.nodes
    → ((n : ℕ) → AreAlike (node_at s.nodes n) (node_at t.nodes n)) → Stands v live f numbers s → Stands v live f numbers t
same_stands v live f numbers s t entries count alike stands = record {
  sane = stands.sane;
  names = record {
    root = stands.names.root;
    root_used = stands.names.root_used;
    within = λ ino used. (let below = stands.names.within ino used in omega (arith, below, count));
    one = stands.names.one;
    names = λ p name used. subst (λ (es : List DirEntry). option_map (number numbers) (child_named v.names p name) ≡ child_of es (number numbers p) name) (sym entries) (stands.names.names p name used);
    entry_parents = λ n name m is. stands.names.entry_parents n name m (subst (λ (es : List DirEntry). child_of es n name ≡ Some m) entries is);
    distinct = subst AreDistinct (sym entries) stands.names.distinct;
  };
  nodes = record {
    each = λ ino used. stands_alike v live f ino (inode v ino).kind (node_at s.nodes (number numbers ino)) (node_at t.nodes (number numbers ino)) (alike (number numbers ino)) (stands.nodes.each ino used);
    all = λ n there. stands.nodes.all n (λ gone. there (alike_gone (node_at s.nodes n) (node_at t.nodes n) (alike n) gone));
  };
  log = stands.log;
}

-- ---- it is the one

left_alike : (n : ℕ) (x y : Node) → NodeLeft Same n x y → AreAlike y (cut_node x)
left_alike n Node.Gone y is = subst (λ z. AreAlike z Node.Gone) (sym is) refl
left_alike n Node.Directory y is = subst (λ z. AreAlike z Node.Directory) (sym is) refl
left_alike n (Node.File file) Node.Gone is = absurd is
left_alike n (Node.File file) Node.Directory is = absurd is
left_alike n (Node.File file) (Node.File left) is =
    ext_get_or 0 left.bytes (take file.published file.bytes) is.size
    (λ i below. is.each i below ∙ sym (take_index file.bytes file.published i (let size = is.size in omega (arith, below, size))))

pub cut_is_one : CutIsOne
cut_is_one w f s = (
  λ batch. same_stands w.batch [] f w.numbers batch.state (cut_of s) (sym batch.left.entries) (length-map s.nodes cut_node ∙ sym batch.left.count)
      (λ n. subst (AreAlike (node_at batch.state.nodes n)) (sym (node_cut s n)) (left_alike n (node_at s.nodes n) (node_at batch.state.nodes n) (batch.left.each n))) batch.stands,
  λ stands. record { state = cut_of s; shape = refl; left = cut_left s; stands = stands },
)

-- ---- it leaves the reserve

abbrev weight : Node → ℕ
weight x = held_by (length (bytes_of x))

weight_left : (rule : ByteRule) (n : ℕ) (x y : Node) → NodeLeft rule n x y → weight y ≤ weight x
weight_left rule n Node.Gone y is = subst (λ z. weight z ≤ weight Node.Gone) (sym is) (omega arith)
weight_left rule n Node.Directory y is = subst (λ z. weight z ≤ weight Node.Directory) (sym is) (omega arith)
weight_left rule n (Node.File file) Node.Gone is = absurd is
weight_left rule n (Node.File file) Node.Directory is = absurd is
weight_left rule n (Node.File file) (Node.File left) is =
    held_by-le (length left.bytes) (length file.bytes) (let size = is.size in let long = length-take file.published file.bytes in omega (arith, size, long))

held_le : (xs ys : List Node) → length ys ≡ length xs → ((n : ℕ) → weight (node_at ys n) ≤ weight (node_at xs n)) → held ys ≤ held xs
held_le [] [] count each = omega arith
held_le [] (y ∷ ys) count each = absurd (omega (arith, count))
held_le (x ∷ xs) [] count each = absurd (omega (arith, count))
held_le (x ∷ xs) (y ∷ ys) count each =
    let first = each 0 in
    let rest = held_le xs ys (omega (arith, count)) (λ n. each (suc n)) in
    omega (arith, sum_by-cons weight x xs, sum_by-cons weight y ys, first, rest)

-- by any rule for bytes
pub left_fits : (rule : ByteRule) (s m : State) → IsLeft rule s m → m.shape ≡ s.shape → Fits s → Fits m
left_fits rule s m left shape fits =
    let less = held_le s.nodes m.nodes left.count (λ n. weight_left rule n (node_at s.nodes n) (node_at m.nodes n) (left.each n)) in
    subst (λ (sh : Shape). held m.nodes + reserve_for sh.data_blocks ≤ sh.data_blocks) (sym shape) (omega (arith, less, fits))

pub fits_left : FitsLeft
fits_left = left_fits AnyByte
