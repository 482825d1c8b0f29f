-- A change without new maps that was landed, or joined the changes that gathered.
use Rattle.std.proofs.Common.{◌≡◌, ◌<◌, ◌≤◌, ◌+◌, ℕ, Bool, true, false, List, [], ◌∷◌, length, Result, Ok, Err, refl, sym, ◌∙◌, ap, subst, arith, inl, inr}
use Rattle.std.specs.Prelude.{not, OnErr, OnOk}
use Rattle.std.specs.List.{filter}
use Rattle.std.proofs.lemmas.Bool.{both_ways}
use Rattle.std.proofs.lemmas.List.{length-map}
use Rattle.block_io.specs.pm_model.declared.Cell.{Cell}
use Rattle.block_io.specs.pm_model.Frames.{KeepsSingle}
use Rattle.block_io.specs.pm_model.Powers.{Supply}
use Rattle.block_io.specs.image_model.Volume.{Volume}
use Rattle.k_group_commit.specs.Joins.{Fits, HasJoined, IsJoined, IsToJoin}
use Rattle.k_group_commit.specs.JoinLaws.{alone-few}
use Rattle.k_group_commit.specs.PlanJoins.{plan-joins}
use Rattle.k_map_plans.specs.k_journal.Batch.{has_line, lines_of, new_lines}
use Rattle.k_map_plans.specs.k_journal.declared.batches.Record.{Record}
use Rattle.k_map_plans.specs.k_journal.declared.outcomes.Commit.{Commit}
use Rattle.k_map_plans.specs.k_plans.LandingsPlans.{NewChain, Turns}
use Rattle.k_map_plans.specs.k_plans.Switching.{with_aside}
use Rattle.k_map_plans.specs.k_plans.View.{TablesView}
use Rattle.k_split.specs.declared.faults.KFault.{KFault}
use Rattle.k_split.specs.Landed.{IsLanded, IsLandedDone, IsPlanned, IsPlanOn}
use Rattle.k_map_plans.specs.k_plans.Whole.{IsWhole}
use Rattle.k_split.specs.Order.{IsPlain, IsReady, IsUnstagedSingle}
use Rattle.k_split.proofs.ChangeLaws.{unstaged-kept}
use Rattle.k_split.proofs.Ready.{plain-ready, ready-idle}
use Rattle.k_split.proofs.Released.{same-volume}

-- ---- it joined

-- all lines are new to an empty batch
all-new : (ls : List ℕ) → filter (λ line. not (has_line [] line)) ls ≡ ls
all-new [] = refl
all-new (l ∷ ls) = ap (λ xs. l ∷ xs) (all-new ls)

no-records : (a : List Record) → length a ≡ 0 → a ≡ []
no-records [] none = refl
no-records (e ∷ es) none = absurd (omega (arith, none))

-- a batch with lines is not empty where it was laid
some-laid : (a b c : List Record) → 0 < length b → length c ≡ length a + length (new_lines a b) → c ≡ [] → ⊥
some-laid a b c some count none =
    let no : length c ≡ 0 = ap (λ (x : List Record). length x) none in
    let first : a ≡ [] = no-records a (omega (arith, count, no)) in
    let lines : length (new_lines a b) ≡ length b =
    ap (λ (x : List Record). length (new_lines x b)) first ∙ ap (λ (ls : List ℕ). length ls) (all-new (lines_of b)) ∙ length-map b (λ (e : Record). e.line)
    in
    omega (arith, some, count, no, lines)

-- K-Split is ready again
pub ready-joined : (u v : Volume) (waiting : List ℕ) (t p h : TablesView) (maps : List NewChain) (a b c none : List Record) (d e : List Cell) (batched : Bool)
    → HasJoined u v waiting t p h maps a b c d e → Fits a b → 0 < length b → p.volume.geometry ≡ t.volume.geometry
    → ((x : List Cell) → KeepsSingle d x → IsUnstagedSingle p.volume x) → batched ≡ true → none ≡ [] → IsReady h c none e batched
ready-joined u v waiting t p h maps a b c none d e batched has fits some geometry keeps on no_lines = record {
  committed = v;
  opened = has.opened;
  unstaged = subst (λ (x : Volume). IsUnstagedSingle x e) (sym has.volume) (keeps e has.singles);
  few = omega (arith, has.laid.count, fits);
  empty = λ same. absurd (some-laid a b c some has.laid.count same);
  unbatched = λ off. let never : true ≡ false = sym on ∙ off in absurd (both_ways true never refl);
  no_lines = no_lines;
}

module _ (t p : TablesView) (group b : List Record) (d : List Cell) (batched : Bool) (planned : IsPlanOn t p group b d batched) where
  pub to-join : IsToJoin planned.ready.committed t p [] group b d
  to-join = record { opened = planned.ready.opened; joining = plan-joins t p b planned.plan planned.keeps }

  keeps-unstaged : (x : List Cell) → KeepsSingle d x → IsUnstagedSingle p.volume x
  keeps-unstaged x singles = unstaged-kept t.volume p.volume d x planned.keeps.geometry planned.plan.staged singles planned.ready.unstaged

  pub change-joined : (h : TablesView) (c none : List Record) (e : List Cell) → IsJoined planned.ready.committed t p h [] group b c d e Commit.Done
      → batched ≡ true → none ≡ [] → IsReady h c none e batched
  change-joined h c none e joined on no_lines = elim joined [
    | inl room ↦
        ready-joined planned.ready.committed planned.ready.committed t.waiting t p h [] group b c none d e batched room.1 room.0 planned.plan.some planned.keeps.geometry
        keeps-unstaged on no_lines
    | inr was ↦
        ready-joined planned.ready.committed t.volume [] t p h [] [] b c none d e batched was.1 (alone-few b (omega (arith, planned.plan.most))) planned.plan.some planned.keeps.geometry
        keeps-unstaged on no_lines
  ]

  -- ---- it was landed

  module _ (none : group ≡ []) (r : TablesView) (released : r ≡ with_aside [] p) where
    plain : IsPlain t d
    plain = ready-idle t group [] d batched planned.ready none

    pub alone-idle : IsPlanned t.volume r.volume b d
    alone-idle = record {
      stands = plain.stands;
      turns = subst (λ (v : Volume). Turns t.volume.geometry [] t.volume v b) (same-volume p r released) planned.plan.turns;
      most = planned.plan.most;
    }

    plain-done : (e : List Cell) (x y : Supply) → IsLandedDone t.volume r.volume b d e x y → IsPlain r e
    plain-done e x y done = record {
      stands = done.stands;
      whole = subst IsWhole (same-volume p r released) planned.plan.whole;
      none_waits = ap (λ (s : TablesView). s.waiting) released ∙ planned.plan.waiting ∙ plain.none_waits;
      none_aside = ap (λ (s : TablesView). s.aside) released;
      unstaged = subst (λ (v : Volume). IsUnstagedSingle v e) (same-volume p r released) (keeps-unstaged e done.singles);
    }

    pub landed-idle : (e : List Cell) (x y : Supply) (no_lines : List Record) (result : Result (Unit {0}) KFault)
        → IsLanded t.volume r.volume b d e x y result → OnOk result (no_lines ≡ []) → OnOk result (IsReady r group no_lines e batched)
    landed-idle e x y no_lines (Ok done) landed is = plain-ready r group no_lines e batched (plain-done e x y landed) none is
    landed-idle e x y no_lines (Err fault) landed is = tt

  -- where changes do not gather nothing has
  module _ (off : batched ≡ false) (r : TablesView) (released : r ≡ with_aside [] p) where
    pub alone : IsPlanned t.volume r.volume b d
    alone = alone-idle (planned.ready.unbatched off) r released

    pub landed-ready : (e : List Cell) (x y : Supply) (none : List Record) (result : Result (Unit {0}) KFault)
        → IsLanded t.volume r.volume b d e x y result → OnOk result (none ≡ []) → OnOk result (IsReady r group none e batched)
    landed-ready e x y none result landed no_lines = landed-idle (planned.ready.unbatched off) r released e x y none result landed no_lines
