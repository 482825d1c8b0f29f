-- A change with new maps that was landed, or joined the changes that gathered.
use Rattle.std.proofs.Common.{◌≡◌, ◌<◌, ◌≤◌, ◌*◌, ◌/◌, ℕ, Bool, true, false, List, [], length, Result, Ok, Err, refl, sym, ◌∙◌, ap, subst, arith, inl, inr}
use Rattle.std.specs.Prelude.{All, OnErr, OnOk}
use Rattle.std.proofs.lemmas.Bool.Decides.{nat_tests}
use Rattle.block_io.specs.pm_model.declared.Cell.{Cell}
use Rattle.block_io.specs.pm_model.Cells.{cell, is_single}
use Rattle.block_io.specs.pm_model.Powers.{Supply}
use Rattle.block_io.specs.layout_model.Places.{Geometry, is_data_block}
use Rattle.block_io.specs.image_model.Placed.{block_at}
use Rattle.block_io.specs.image_model.Volume.{Volume}
use Rattle.k_group_commit.specs.Joins.{IsJoined, IsToJoin}
use Rattle.k_group_commit.specs.JoinLaws.{alone-few}
use Rattle.k_map_plans.specs.k_journal.declared.batches.Record.{Record}
use Rattle.k_map_plans.specs.k_journal.declared.outcomes.Commit.{Commit}
use Rattle.k_map_plans.specs.k_plans.LandingsPlans.{NewChain, new_at}
use Rattle.k_map_plans.specs.k_plans.Maps.{MayWriteAll}
use Rattle.k_map_plans.specs.k_plans.Switching.{IsMapPlan, with_aside}
use Rattle.k_map_plans.specs.k_plans.View.{TablesView}
use Rattle.k_map_plans.specs.k_plans.Whole.{IsWhole}
use Rattle.k_map_plans.specs.k_plans.WrittenLaws.{block-among}
use Rattle.k_map_plans.specs.volume_change_laws.Switches.{unused-data}
use Rattle.k_map_plans.specs.volume_laws.PoolLaws.{unused-uncovered}
use Rattle.k_map_plans.specs.volume_laws.Uses.{is_unused}
use Rattle.k_split.specs.declared.faults.KFault.{KFault}
use Rattle.k_split.specs.MapChanges.{IsMapLanded, IsMapLandedDone, IsMapPlanned}
use Rattle.k_split.specs.MapLanded.{IsMapPlanOn}
use Rattle.k_split.specs.Order.{IsPlain, IsReady, IsUnstaged, IsUnstagedSingle}
use Rattle.k_split.proofs.Changed.{ready-joined}
use Rattle.k_split.proofs.Ready.{plain-ready, ready-plain}
use Rattle.k_split.proofs.Released.{same-volume}

pub inside-device : (h : Geometry) (block size : ℕ) → is_data_block h block ≡ true → size ≡ 512 * h.blocks → block < size / 512
inside-device h block size inside is =
    let high : block < h.blocks = grind (arith, nat_tests, inside) in
    omega (arith, high, is)

module _ (t p : TablesView) (maps : List NewChain) (group b : List Record) (d : List Cell) (batched : Bool)
    (planned : IsMapPlanOn t p maps group b d batched) where
  pub unstaged-block : (k : ℕ) → is_unused t.volume k ≡ true → IsUnstaged t.volume k
  unstaged-block k unused ino least most =
      let whole = planned.ready.opened.whole in
      unused-uncovered t.volume k ino (omega (arith, most, whole.kept.all.inode_count, whole.kept.geometry.least_inodes)) unused

  -- a block of a new map is unused
  new-unused : (k j : ℕ) → k < length maps → j < length (new_at maps k).blocks → is_unused t.volume (block_at (new_at maps k).blocks j) ≡ true
  new-unused k j below within =
      let among = block-among maps k j below within in
      subst (λ n. is_unused t.volume n ≡ true) among.is (planned.plan.unused among.place 0 among.within)

  new-single : (k : ℕ) → k < length maps → (j i : ℕ) → j < length (new_at maps k).blocks → i / 512 ≡ block_at (new_at maps k).blocks j
      → is_single (cell d i) ≡ true
  new-single k below j i within at =
      let unused : is_unused t.volume (i / 512) ≡ true = subst (λ n. is_unused t.volume n ≡ true) (sym at) (new-unused k j below within) in
      planned.ready.unstaged i (unused-data t.volume (i / 512) unused) (unstaged-block (i / 512) unused)

  pub may-write-on : MayWriteAll maps d
  may-write-on = record {
    each = λ k below. record {
      count = planned.plan.counts k below;
      distinct = planned.plan.distinct k below;
      in_device = λ j within.
          inside-device t.volume.geometry (block_at (new_at maps k).blocks j) (length d) (unused-data t.volume (block_at (new_at maps k).blocks j) (new-unused k j below within))
          planned.ready.opened.are.stands.size;
      single = new-single k below;
    };
    apart = planned.plan.apart;
  }

  pub map-to-join : IsToJoin planned.ready.committed t p maps group b d
  map-to-join = record { opened = planned.ready.opened; joining = planned.joining }

  pub map-joined : (h : TablesView) (c none : List Record) (e : List Cell) → IsJoined planned.ready.committed t p h maps group b c d e Commit.Done
      → batched ≡ true → none ≡ [] → IsReady h c none e batched
  map-joined h c none e joined on no_lines = elim joined [
    | inl room ↦
        ready-joined planned.ready.committed planned.ready.committed t.waiting t p h maps group b c none d e batched room.1 room.0 planned.plan.some planned.plan.geometry
        planned.keeps on no_lines
    | inr was ↦
        ready-joined planned.ready.committed t.volume [] t p h maps [] b c none d e batched was.1 (alone-few b planned.plan.most) planned.plan.some planned.plan.geometry
        planned.keeps on no_lines
  ]

  module _ (off : batched ≡ false) (r : TablesView) (released : r ≡ with_aside [] p) where
    plain : IsPlain t d
    plain = ready-plain t group [] d batched planned.ready off

    pub map-alone : IsMapPlanned maps t.volume r.volume b d
    map-alone = record {
      stands = plain.stands;
      plan = subst (λ (v : Volume). IsMapPlan maps t.volume v b) (same-volume p r released) planned.plan;
      single = λ k below. new-single k below;
    }

    map-plain : (e : List Cell) (x y : Supply) (blocks : List ℕ) → IsMapLandedDone blocks t.volume r.volume d e x y → IsPlain r e
    map-plain e x y blocks done = record {
      stands = done.stands;
      whole = subst IsWhole (same-volume p r released) planned.plan.whole;
      none_waits = ap (λ (s : TablesView). s.waiting) released ∙ planned.joining.waiting ∙ plain.none_waits;
      none_aside = ap (λ (s : TablesView). s.aside) released;
      unstaged = subst (λ (v : Volume). IsUnstagedSingle v e) (same-volume p r released) (planned.keeps e done.singles);
    }

    pub map-landed-ready : (e : List Cell) (x y : Supply) (none : List Record) (blocks : List ℕ) (result : Result (Unit {0}) KFault)
        → IsMapLanded blocks t.volume r.volume d e x y result → OnOk result (none ≡ []) → OnOk result (IsReady r group none e batched)
    map-landed-ready e x y none blocks (Ok done) landed no_lines =
        plain-ready r group none e batched (map-plain e x y blocks landed) (planned.ready.unbatched off) no_lines
    map-landed-ready e x y none blocks (Err fault) landed no_lines = tt
