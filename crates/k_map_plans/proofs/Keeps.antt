-- A line of an inode that keeps its chain and its map: a switch to its own.
use Rattle.std.proofs.Common.{◌≡◌, ◌∙◌, ◌<◌, ◌≤◌, ◌+◌, ℕ, List, [], length, refl, sym, ap, subst, arith}
use Rattle.std.specs.Prelude.{All}
use Rattle.layout_model.specs.declared.lines.Inode.{Inode}
use Rattle.layout_model.specs.declared.lines.Kind.{Kind}
use Rattle.k_plans.specs.image_model.Rules.{file_blocks_of}
use Rattle.k_plans.specs.image_model.Volume.{Volume, chain, extents, inode}
use Rattle.extent_map.specs.extent_model.declared.extent_words.Extent.{Extent}
use Rattle.k_plans.specs.k_journal.declared.batches.Record.{Record}
use Rattle.k_plans.specs.PlanLaws.{turns-none}
use Rattle.k_plans.specs.LandingsPlans.{Turns, IsMapFrom}
use Rattle.k_plans.specs.LandingsPlans.IsMapFrom.{SameMap}
use Rattle.k_plans.specs.Switching.{IsMapPlan, switched_tables}
use Rattle.k_plans.specs.View.{TablesView, with_volume}
use Rattle.k_plans.specs.Whole.{IsWhole}
use Rattle.k_plans.specs.k_split_model.Taken.{with_map}
use Rattle.k_plans.specs.volume_change_laws.Switches.{MaySwitch}
use Rattle.k_map_plans.specs.Going.{HasOwnMap, kept_map, MayKeep}

-- a line with the root and the count of its own map is as it was
pub own-line : (v : Volume) (ino : ℕ) (x : Inode) → HasOwnMap v ino → x.root ≡ (inode v ino).root → x.extents ≡ (inode v ino).extents
    → with_map (chain v ino) (extents v ino) x ≡ x
own-line v ino x own root count i = record x { root = (own.root ∙ sym root) i; extents = (own.count ∙ sym count) i }

module _ (t : TablesView) (ino : ℕ) (x : Inode) (blocks : List ℕ) (es : List Extent) (aside : List ℕ) (may : MayKeep t ino x)
    (blocks-are : blocks ≡ chain t.volume ino) (map-is : es ≡ extents t.volume ino) (none : aside ≡ []) where
  own-may : IsWhole t.volume → MaySwitch t.volume [] ino x (chain t.volume ino) (extents t.volume ino) []
  own-may whole = record {
    below = may.below;
    kind = may.kind;
    fields = may.fields whole;
    short = subst (λ (kind : Kind). All (λ (e : Extent). e.file + e.count ≤ file_blocks_of kind) (extents t.volume ino)) (sym may.kind)
        (λ k d within. (whole.kept.kept.in_data ino (omega (arith, may.below, whole.kept.all.inode_count)) k d within).0);
    once = λ b. omega arith;
    same = λ b. refl;
  }

  pub keep-may : IsWhole t.volume → MaySwitch t.volume t.aside ino x blocks es aside
  keep-may whole =
      subst (λ was. MaySwitch t.volume was ino x blocks es aside) (sym may.idle)
      (subst (λ now. MaySwitch t.volume [] ino x blocks es now) (sym none)
      (subst (λ fs. MaySwitch t.volume [] ino x blocks fs []) (sym map-is)
      (subst (λ bs. MaySwitch t.volume [] ino x bs (extents t.volume ino) []) (sym blocks-are) (own-may whole))))

  -- the tables have no other volume than that
  pub keep-is : (u : TablesView) → u ≡ switched_tables ino x blocks es aside t → u ≡ with_volume (kept_map ino x t.volume) t
  keep-is u is = is ∙ (λ i. switched_tables ino x (blocks-are i) (map-is i) ((none ∙ sym may.idle) i) t)

  own-map : IsMapFrom [] t.volume ino (with_map blocks es x) blocks es
  own-map = SameMap (ap (λ bs. (with_map bs es x).root) blocks-are ∙ may.own.root) (ap (λ fs. (with_map blocks fs x).extents) map-is ∙ may.own.count)
      blocks-are map-is

  pub keep-plan : (u : TablesView) (a b : List Record) → u ≡ switched_tables ino x blocks es aside t → a ≡ [] → 0 < length b
      → length b ≤ length a + 1 → IsWhole u.volume
      → (IsMapFrom [] t.volume ino (with_map blocks es x) blocks es
      → Turns t.volume.geometry [] t.volume t.volume a → Turns t.volume.geometry [] t.volume u.volume b)
      → IsMapPlan [] t.volume u.volume b
  keep-plan u a b is empty some count whole turns = record {
    turns = turns own-map (subst (Turns t.volume.geometry [] t.volume t.volume) (sym empty) (turns-none t.volume.geometry [] t.volume));
    geometry = ap (λ (y : TablesView). y.volume.geometry) is;
    some = some;
    most = omega (arith, count, ap length empty);
    unused = λ k d below. absurd (omega (arith, below));
    distinct = λ k below. absurd (omega (arith, below));
    apart = λ j k before below. absurd (omega (arith, below));
    counts = λ k below. absurd (omega (arith, below));
    steps = omega arith;
    whole = whole;
  }
