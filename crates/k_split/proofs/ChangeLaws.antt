-- What a change leaves that was planned and landed, or neither.
use Rattle.std.proofs.Common.{◌≡◌, ℕ, Bool, true, false, List, [], length, Option, Some, None, Result, Ok, Err, refl, sym, ◌∙◌, ap, subst, arith, inl, inr}
use Rattle.std.specs.Prelude.{◌==◌, ◌+◌, ◌*◌, ◌/◌, ◌<◌, if◌then◌else◌, OnOk, OnErr}
use Rattle.block_io.specs.pm_model.declared.Cell.{Cell}
use Rattle.block_io.specs.pm_model.Frames.{KeepsSingle}
use Rattle.block_io.specs.pm_model.Powers.{is_on, Supply}
use Rattle.block_io.specs.layout_model.Places.{is_data_block}
use Rattle.block_io.specs.extent_model.Extents.{covers}
use Rattle.block_io.specs.image_model.Volume.{Volume}
use Rattle.k_map_plans.specs.k_journal.declared.batches.Record.{Record}
use Rattle.k_map_plans.specs.k_plans.Renaming.{IsRenamed, IsRenamePlan}
use Rattle.k_tables.specs.k_split_model.Spaces.{volume_space}
use Rattle.posix_tables.specs.NameRows.{rename_rows}
use Rattle.k_map_plans.specs.k_plans.PlansPlans.{IsPlan, KeepsStaged}
use Rattle.k_map_plans.specs.k_plans.View.{TablesView}
use Rattle.k_tables.specs.k_split_model.View.{View}
use Rattle.posix_types.specs.declared.item.Outcome.{Outcome}
use Rattle.posix_types.specs.declared.reply.Reply.{Reply}
use Rattle.posix_tables.specs.Outcomes.{answer, first}
use Rattle.k_split.specs.declared.faults.KFault.{KFault}
use Rattle.k_split.specs.Answers.{Changes, IsAnswer, IsPaid}
use Rattle.k_map_plans.specs.k_plans.Whole.{IsWhole}
use Rattle.k_map_plans.specs.volume_change_laws.Changes.{MayDrop}
use Rattle.k_split.specs.Landed.{IsLanded, IsLandedDone, IsPlanOn}
use Rattle.k_split.specs.Order.{IsReady, IsUnstagedSingle, standing, view_of}
use Rattle.k_split.proofs.Ready.{in-order}

-- a K-Split that is handed power is not lost
not_lost : (lost on : Bool) → (lost ≡ true → on ≡ false) → on ≡ true → lost ≡ false
not_lost true on asleep is = let never : true ≡ false = sym is ∙ asleep refl in never
not_lost false on asleep is = refl

pub awake : (t : TablesView) (group : List Record) (d : List Cell) (batched lost : Bool) (k : View) (p : Supply) → view_of t group d batched lost ≡ k
    → (k.lost ≡ true → is_on p ≡ false) → is_on p ≡ true → lost ≡ false
awake t group d batched lost k p same asleep on =
    not_lost lost (is_on p) (subst (λ (x : View). x.lost ≡ true → is_on p ≡ false) (sym same) asleep) on

-- data blocks that no staging file has stay single
pub unstaged-kept : (v w : Volume) (d e : List Cell) → w.geometry ≡ v.geometry → KeepsStaged v w → KeepsSingle d e
    → IsUnstagedSingle v d → IsUnstagedSingle w e
unstaged-kept v w d e geometry staged singles single i in_data free =
    singles i
    (single i (subst (λ g. is_data_block g (i / 512) ≡ true) geometry in_data) (λ ino least most.
    ap (λ es. covers es (i / 512)) (sym (staged ino least most)) ∙ free ino least most))

-- ---- a change that was planned

-- no line of a change is left over
pub ready-none : (t : TablesView) (group b : List Record) (d : List Cell) (batched : Bool) → IsReady t group b d batched → IsReady t group [] d batched
ready-none t group b d batched ready = record {
  committed = ready.committed;
  opened = ready.opened;
  unstaged = ready.unstaged;
  few = ready.few;
  empty = ready.empty;
  unbatched = ready.unbatched;
  no_lines = refl;
}

pub ready-none-ok : (t : TablesView) (group b : List Record) (d : List Cell) (batched : Bool) (r : Result (Unit {0}) KFault)
    → OnOk r (IsReady t group b d batched) → OnOk r (IsReady t group [] d batched)
ready-none-ok t group b d batched (Ok done) ready = ready-none t group b d batched ready
ready-none-ok t group b d batched (Err fault) ready = tt

-- a file that is dropped has a map
pub drop-below : (t : TablesView) (group : List Record) (d : List Cell) (batched lost : Bool) (k : View) (ino : ℕ) → view_of t group d batched lost ≡ k
    → IsWhole t.volume → (k.lost ≡ false → MayDrop ino k.volume) → lost ≡ false → ino < length t.volume.maps
drop-below t group d batched lost k ino same whole may is =
    let asked : MayDrop ino t.volume = subst (λ (x : View). x.lost ≡ false → MayDrop ino x.volume) (sym same) may is in
    omega (arith, asked.below, whole.maps.map_count)

-- K-Split is ready again, or lost
pub ready-or-lost : (t : TablesView) (group b : List Record) (d : List Cell) (batched now : Bool) (r : Result (Unit {0}) KFault)
    → OnOk r (IsReady t group b d batched) → OnErr r (now ≡ true) → now ≡ false → IsReady t group b d batched
ready-or-lost t group b d batched now (Ok done) ready goes off = ready
ready-or-lost t group b d batched now (Err fault) ready goes off = let never : true ≡ false = sym goes ∙ off in absurd (cc)

off-committed : (batched : Bool) (u v : Volume) → batched ≡ false → (if batched then u else v) ≡ v
off-committed false u v off = refl
off-committed true u v off = let never : true ≡ false = off in absurd (cc)

module _ (t p : TablesView) (group b : List Record) (d : List Cell) (batched lost : Bool) (k : View) (is : lost ≡ false)
    (same : view_of t group d batched lost ≡ k) (planned : IsPlanOn t p group b d batched) (h : TablesView) (c : List Record) (e : List Cell) (now : Bool)
    (volume : h.volume ≡ p.volume) where
  -- ---- landed, where the device stands at the volume of the tables

  module _ (at : (view_of t group d batched lost).committed ≡ t.volume) where
    changed : Changes t.volume p.volume d e → Changes (view_of t group d batched lost).committed h.volume d e
    changed changes =
        subst (λ v. Changes v h.volume d e) (sym at)
        (subst (λ w. Changes t.volume w d e) (sym volume) changes)

    done-at : {T : Type 0} (made : T) (row : View → Option Outcome) (Makes : View → T → Volume → Type 0) (x y : Supply) → now ≡ lost
        → IsReady h c [] e batched → row (view_of t group d batched lost) ≡ None → Makes (view_of t group d batched lost) made p.volume
        → IsLandedDone t.volume p.volume b d e x y → IsAnswer (row k) (Makes k) k (view_of h c e batched now) (Ok made)
    done-at made row Makes x y stays ready allowed makes landed =
        subst (λ z. IsAnswer (row z) (Makes z) z (view_of h c e batched now) (Ok made)) same (
          allowed,
          subst (Makes (view_of t group d batched lost) made) (sym volume) makes,
          record {
            kept_on = stays ∙ is;
            batched = refl;
            order = in-order h c [] e batched ready now;
            changes = changed landed.changes;
            singles = landed.singles;
          },
        )

    cut-at : {T : Type 0} (made : T) (row : View → Option Outcome) (Makes : View → T → Volume → Type 0) (x y : Supply) (fault : KFault) → now ≡ true
        → row (view_of t group d batched lost) ≡ None → Makes (view_of t group d batched lost) made p.volume
        → IsLanded t.volume p.volume b d e x y (Err fault) → IsAnswer (row k) (Makes k) k (view_of h c e batched now) (Err fault)
    cut-at made row Makes x y KFault.PowerLost goes allowed makes landed =
        subst (λ z. IsAnswer (row z) (Makes z) z (view_of h c e batched now) (Err KFault.PowerLost)) same (inr (
          allowed,
          (
            made,
            h.volume,
            subst (Makes (view_of t group d batched lost) made) (sym volume) makes,
            record { lost = goes; batched = refl; whole = subst IsWhole (sym volume) planned.plan.whole; changes = changed landed.changes },
          ),
        ))
    cut-at made row Makes x y (KFault.Refused errno) goes allowed makes landed = absurd landed
    cut-at made row Makes x y (KFault.Room room) goes allowed makes landed = absurd landed
    cut-at made row Makes x y KFault.NoMemory goes allowed makes landed = absurd landed

    -- of a change that answers nothing
    pub landed-at : (row : View → Option Outcome) (Makes : View → Unit {0} → Volume → Type 0) (x y : Supply) (r : Result (Unit {0}) KFault)
        → OnOk r (now ≡ lost) → OnErr r (now ≡ true) → OnOk r (IsReady h c [] e batched) → row (view_of t group d batched lost) ≡ None
        → Makes (view_of t group d batched lost) tt p.volume → IsLanded t.volume p.volume b d e x y r → IsAnswer (row k) (Makes k) k (view_of h c e batched now) r
    landed-at row Makes x y (Ok done) stays goes ready allowed makes landed = done-at done row Makes x y stays ready allowed makes landed
    landed-at row Makes x y (Err fault) stays goes ready allowed makes landed =
        cut-at (let done : Unit {0} = tt in done) row Makes x y fault goes allowed makes landed

  -- so it does where changes do not gather
  module _ (off : batched ≡ false) where
    at : (view_of t group d batched lost).committed ≡ t.volume
    at = off-committed batched (standing t.volume.geometry d) t.volume off

    pub answer-done : {T : Type 0} (made : T) (row : View → Option Outcome) (Makes : View → T → Volume → Type 0) (x y : Supply) → now ≡ lost
        → IsReady h c [] e batched → row (view_of t group d batched lost) ≡ None → Makes (view_of t group d batched lost) made p.volume
        → IsLandedDone t.volume p.volume b d e x y → IsAnswer (row k) (Makes k) k (view_of h c e batched now) (Ok made)
    answer-done made row Makes x y stays ready allowed makes landed = done-at at made row Makes x y stays ready allowed makes landed

    pub answer-cut : {T : Type 0} (made : T) (row : View → Option Outcome) (Makes : View → T → Volume → Type 0) (x y : Supply) (fault : KFault) → now ≡ true
        → row (view_of t group d batched lost) ≡ None → Makes (view_of t group d batched lost) made p.volume
        → IsLanded t.volume p.volume b d e x y (Err fault) → IsAnswer (row k) (Makes k) k (view_of h c e batched now) (Err fault)
    answer-cut made row Makes x y fault goes allowed makes landed = cut-at at made row Makes x y fault goes allowed makes landed

    pub answer-landed : (row : View → Option Outcome) (Makes : View → Unit {0} → Volume → Type 0) (x y : Supply) (r : Result (Unit {0}) KFault)
        → OnOk r (now ≡ lost) → OnErr r (now ≡ true) → OnOk r (IsReady h c [] e batched) → row (view_of t group d batched lost) ≡ None
        → Makes (view_of t group d batched lost) tt p.volume → IsLanded t.volume p.volume b d e x y r → IsAnswer (row k) (Makes k) k (view_of h c e batched now) r
    answer-landed row Makes x y r stays goes ready allowed makes landed = landed-at at row Makes x y r stays goes ready allowed makes landed

pub paid-cut : (T : Type 0) (o : Option Outcome) (v w : Volume) (b : List Record) (d e : List Cell) (p q : Supply) (fault : KFault)
    → IsLanded v w b d e p q (Err fault) → IsPaid {T = T} o p q (Err fault)
paid-cut T o v w b d e p q KFault.PowerLost landed = landed.off
paid-cut T o v w b d e p q (KFault.Refused errno) landed = absurd landed
paid-cut T o v w b d e p q (KFault.Room room) landed = absurd landed
paid-cut T o v w b d e p q KFault.NoMemory landed = absurd landed

not_idle : (o : Option Outcome) (x : Outcome) → o ≡ None → o ≡ Some x → ⊥
not_idle o x none some = cc

pub paid-done : {T : Type 0} (made : T) (row : View → Option Outcome) (v w : Volume) (b : List Record) (d e : List Cell) (old k : View) (p q : Supply) → old ≡ k
    → row old ≡ None → 0 < length b → IsLandedDone v w b d e p q → IsPaid (row k) p q (Ok made)
paid-done made row v w b d e old k p q same allowed some landed = (
  landed.on,
  λ none. landed.took some,
  λ idle. absurd (not_idle (row k) (answer Reply.Ok) (sym (ap row same) ∙ allowed) idle),
)

pub paid-landed : (row : View → Option Outcome) (v w : Volume) (b : List Record) (d e : List Cell) (old k : View) (p q : Supply) (r : Result (Unit {0}) KFault) → old ≡ k
    → row old ≡ None → 0 < length b → IsLanded v w b d e p q r → IsPaid (row k) p q r
paid-landed row v w b d e old k p q (Ok done) same allowed some landed = paid-done done row v w b d e old k p q same allowed some landed
paid-landed row v w b d e old k p q (Err fault) same allowed some landed = paid-cut (Unit {0}) (row k) v w b d e p q fault landed

-- ---- a rename that has something to do

pub to-do : (p q : List (List ℕ)) (t u : TablesView) (b : List Record) (lost : Option ℕ) → IsRenamePlan p q t u b (Ok lost) → (length b == 0) ≡ false
    → (first (rename_rows (volume_space t.volume) p q) ≡ None) × IsRenamed p q t.volume u.volume lost × IsPlan t u b
to-do p q t u b lost (inr planned) some = planned
to-do p q t u b lost (inl idle) some =
    let none : (length b == 0) ≡ true = ap (λ (l : List Record). length l == 0) idle.no_lines in
    let never : true ≡ false = sym none ∙ some in
    absurd (cc)
