-- What a change of maps answers and leaves, landed or joined.
use Rattle.std.proofs.Common.{◌≡◌, ◌<◌, ◌≤◌, ◌+◌, ◌/◌, ℕ, Bool, true, false, List, [], ◌++◌, length, Option, None, Result, Ok, Err, refl, sym, ◌∙◌, ap, subst, arith, inl, inr, length-append}
use Rattle.std.specs.Prelude.{◌||◌, if◌then◌else◌, OnErr, OnOk}
use Rattle.std.proofs.lemmas.List.{length-map}
use Rattle.block_io.specs.pm_model.declared.Cell.{Cell}
use Rattle.block_io.specs.pm_model.Powers.{Supply}
use Rattle.block_io.specs.layout_model.Journal.{journaled}
use Rattle.block_io.specs.image_model.Volume.{Volume}
use Rattle.k_group_commit.specs.Joins.{IsBlocksCut, IsJoined}
use Rattle.k_map_plans.specs.block_pool.FreeSets.{is_among}
use Rattle.k_map_plans.specs.k_journal.Batch.{lines_of}
use Rattle.k_map_plans.specs.k_journal.declared.batches.Record.{Record}
use Rattle.k_map_plans.specs.k_journal.declared.outcomes.Commit.{Commit}
use Rattle.k_map_plans.specs.k_plans.Free.{is_freed}
use Rattle.k_map_plans.specs.k_plans.View.{TablesView}
use Rattle.k_tables.specs.k_split_model.View.{once_committed, View}
use Rattle.k_split.specs.declared.faults.KFault.{KFault}
use Rattle.k_split.specs.Gathers.{AreSet, Change, HasJoined, joined, IsGatherAnswer, IsGatherMaps}
use Rattle.k_split.specs.Gathers.Begins.{InBatch, LinesFull}
use Rattle.k_split.specs.Landed.{IsLandedJoin}
use Rattle.k_split.specs.MapLanded.{HasJoinedWith, IsJoinedWith, IsMapPlanOn}
use Rattle.k_map_plans.specs.k_plans.LandingsPlans.{blocks_of, NewChain}
use Rattle.k_split.proofs.Joined.{both-count, maps-changed, names-changed, on-committed, reads-at}
use Rattle.k_split.specs.MapChanges.{ChangesMaps, IsMapAnswer, IsMapLanded}
use Rattle.k_map_plans.specs.k_plans.Whole.{IsWhole}
use Rattle.k_split.specs.Order.{IsReady, standing, view_of}
use Rattle.k_split.proofs.Ready.{in-order, lines-journaled}

-- the same with the blocks of its new maps alone
pub with-maps : (u : Volume) (t p h : TablesView) (maps : List NewChain) (a b c : List Record) (d e : List Cell) (r : Commit) → IsJoined u t p h maps a b c d e r
    → IsJoinedWith (blocks_of maps) u t p h a b c d e r
with-maps u t p h maps a b c d e Commit.Done joined = elim joined [
  | inl room ↦
      inl (room.0, record { opened = room.1.opened; waits = room.1.waits; laid = room.1.laid; goes = room.1.goes; singles = room.1.singles })
  | inr was ↦ inr (was.0, record { opened = was.1.opened; waits = was.1.waits; laid = was.1.laid; goes = was.1.goes; singles = was.1.singles })
]
with-maps u t p h maps a b c d e Commit.PowerLost joined = joined

module _ (t p : TablesView) (blocks : List ℕ) (group b : List Record) (d : List Cell) (batched lost : Bool) (is : lost ≡ false) (before : IsReady t group [] d batched)
    (set : AreSet t.volume (lines_of b)) (on : batched ≡ true) (h : TablesView) (c : List Record) (e : List Cell) (now : Bool) (volume : h.volume ≡ p.volume) where
  at : (view_of t group d batched lost).committed ≡ before.committed
  at = on-committed t group d batched lost before.committed on before.opened

  -- it joined the batch of `base`
  has-joined : (v : Volume) (waiting : List ℕ) (a : List Record) (base : View) → HasJoinedWith blocks before.committed v waiting t p h a b c d e
      → base.volume ≡ t.volume → base.committed ≡ v → base.waiting ≡ waiting → base.lines ≡ lines_of a → now ≡ lost → IsReady h c [] e batched
      → HasJoined (lines_of b) blocks base (view_of t group d batched lost) (view_of h c e batched now)
  has-joined v waiting a base has same here waits lines stays ready = record {
    kept_on = stays ∙ is;
    batched = on;
    order = in-order h c [] e batched ready now;
    committed = on-committed h c e batched now v on has.opened ∙ sym here;
    waiting = λ x.
        has.waits x
        ∙ (λ i. is_among (waits-back i) x || is_freed (same-back i) (volume-back i) x);
    lines_are = has.laid.lines ∙ ap (λ (ls : List ℕ). joined_with ls) (sym lines);
    changes = maps-changed blocks before.committed v (view_of t group d batched lost).committed (view_of h c e batched now).committed d e
        at (on-committed h c e batched now v on has.opened) has.goes;
    singles = has.singles;
  }
    where
      waits-back : waiting ≡ base.waiting
      waits-back = sym waits

      same-back : t.volume ≡ base.volume
      same-back = sym same

      volume-back : p.volume ≡ h.volume
      volume-back = sym volume

      joined_with : List ℕ → List ℕ
      joined_with ls = joined ls (lines_of b)

  made : {T : Type 0} (done : T) (v : View) (Makes : Change T) → Makes done v p.volume blocks → Makes done v h.volume blocks
  made done v Makes makes = subst (λ x. Makes done v x blocks) (sym volume) makes

  pub done-with : {T : Type 0} (done : T) (Makes : Change T) → now ≡ lost → IsReady h c [] e batched
      → Makes done (view_of t group d batched lost) p.volume blocks → IsJoinedWith blocks before.committed t p h group b c d e Commit.Done
      → IsGatherAnswer None Makes (view_of t group d batched lost) (view_of h c e batched now) (Ok done)
  done-with done Makes stays ready makes joined = (
    refl,
    elim joined [
      | inl room ↦ (
        record {
          lines = lines_of b;
          blocks = blocks;
          seen = view_of t group d batched lost;
          base = view_of t group d batched lost;
          set = set;
          begins = InBatch (omega (arith, room.0, both-count group b)) refl refl;
          makes = made done (view_of t group d batched lost) Makes makes;
        },
        has-joined before.committed t.waiting group (view_of t group d batched lost) room.1 refl at refl refl stays ready,
      )
      | inr was ↦ (
        record {
          lines = lines_of b;
          blocks = blocks;
          seen = view_of t group d batched lost;
          base = once_committed (view_of t group d batched lost);
          set = set;
          begins = LinesFull (λ fits. was.0 (omega (arith, fits, both-count group b))) refl refl;
          makes = made done (view_of t group d batched lost) Makes makes;
        },
        has-joined t.volume [] [] (once_committed (view_of t group d batched lost)) was.1 refl refl refl refl stays ready,
      )
    ],
  )

  -- the power went while blocks were written
  pub written-with : {T : Type 0} (done : T) (Makes : Change T) → now ≡ true → Makes done (view_of t group d batched lost) p.volume blocks
      → IsBlocksCut blocks before.committed t group b d e
      → IsGatherAnswer None Makes (view_of t group d batched lost) (view_of h c e batched now) (Err KFault.PowerLost)
  written-with done Makes goes makes cut = inr (inr (
    refl,
    elim cut [
      | inl room ↦ (
        done,
        p.volume,
        record {
          lines = lines_of b;
          blocks = blocks;
          seen = view_of t group d batched lost;
          base = view_of t group d batched lost;
          set = set;
          begins = InBatch (omega (arith, room.0, both-count group b)) refl refl;
          makes = makes;
        },
        record {
          lost = goes;
          batched = refl;
          changes = maps-changed blocks before.committed before.committed (view_of t group d batched lost).committed
              (view_of t group d batched lost).committed d e at at room.1.goes;
          reads = reads-at before.committed (view_of t group d batched lost).committed e at room.1.reads;
        },
      )
      | inr was ↦ (
        done,
        p.volume,
        record {
          lines = lines_of b;
          blocks = blocks;
          seen = view_of t group d batched lost;
          base = once_committed (view_of t group d batched lost);
          set = set;
          begins = LinesFull (λ fits. was.0 (omega (arith, fits, both-count group b))) refl refl;
          makes = makes;
        },
        record {
          lost = goes;
          batched = refl;
          changes = maps-changed blocks before.committed t.volume (view_of t group d batched lost).committed t.volume d e at refl was.1.goes;
          reads = was.1.reads;
        },
      )
    ],
  ))

  -- or in a commit before
  pub cut-with : {T : Type 0} (done : T) (Makes : Change T) → now ≡ true → Makes done (view_of t group d batched lost) p.volume blocks
      → IsJoinedWith blocks before.committed t p h group b c d e Commit.PowerLost
      → IsGatherAnswer None Makes (view_of t group d batched lost) (view_of h c e batched now) (Err KFault.PowerLost)
  cut-with done Makes goes makes joined = elim joined [
    | inr cut ↦ written-with done Makes goes makes cut
    | inl was ↦ inr (inl (
      refl,
      inl (lines_of b, set, λ fits. was.0 (omega (arith, fits, both-count group b))),
      record {
        lost = goes;
        batched = refl;
        whole = before.opened.whole;
        changes = names-changed before.committed t.volume (view_of t group d batched lost).committed d e at was.1;
      },
    ))
  ]

pub plan-set : (t p : TablesView) (maps : List NewChain) (group b : List Record) (d : List Cell) (batched : Bool) → IsMapPlanOn t p maps group b d batched
    → AreSet t.volume (lines_of b)
plan-set t p maps group b d batched planned = record {
  some = omega (arith, planned.plan.some, length-map b (λ (r : Record). r.line));
  most = omega (arith, planned.plan.most, length-map b (λ (r : Record). r.line));
  journaled = λ line among. lines-journaled t.volume.geometry b line planned.plan.turns.lines among;
}

module _ (t p : TablesView) (maps : List NewChain) (group b : List Record) (d : List Cell) (batched lost : Bool) (is : lost ≡ false) (planned : IsMapPlanOn t p maps group b d batched)
    (on : batched ≡ true) (h : TablesView) (c : List Record) (e : List Cell) (now : Bool) (volume : h.volume ≡ p.volume) where
  pub gather-maps : (Makes : View → Volume → List ℕ → Type 0) (k : View) (after : Supply) (r : Result (Unit {0}) KFault)
      → view_of t group d batched lost ≡ k → OnOk r (now ≡ lost) → OnErr r (now ≡ true) → OnOk r (IsReady h c [] e batched)
      → Makes (view_of t group d batched lost) p.volume (blocks_of maps)
      → IsLandedJoin planned.ready.committed t p h maps group b c d e after r → IsGatherMaps Makes k (view_of h c e batched now) r
  gather-maps Makes k after (Ok done) same stays goes ready makes joined =
      subst (λ z. IsGatherMaps Makes z (view_of h c e batched now) (Ok done)) same
      (done-with t p (blocks_of maps) group b d batched lost is planned.ready (plan-set t p maps group b d batched planned) on h c e now volume done
      (λ (done : Unit {0}) seen w blocks. Makes seen w blocks) stays ready makes
      (with-maps planned.ready.committed t p h maps group b c d e Commit.Done joined.0))
  gather-maps Makes k after (Err KFault.PowerLost) same stays goes ready makes joined =
      subst (λ z. IsGatherMaps Makes z (view_of h c e batched now) (Err KFault.PowerLost)) same
      (cut-with t p (blocks_of maps) group b d batched lost is planned.ready (plan-set t p maps group b d batched planned) on h c e now volume (let done : Unit {0} = tt in done)
      (λ (done : Unit {0}) seen w blocks. Makes seen w blocks) goes makes
      (with-maps planned.ready.committed t p h maps group b c d e Commit.PowerLost joined.0))
  gather-maps Makes k after (Err (KFault.Refused errno)) same stays goes ready makes joined = absurd joined
  gather-maps Makes k after (Err (KFault.Room room)) same stays goes ready makes joined = absurd joined
  gather-maps Makes k after (Err KFault.NoMemory) same stays goes ready makes joined = absurd joined

-- ---- landed, where changes do not gather

off-committed : (x : Bool) (u v : Volume) → x ≡ false → (if x then u else v) ≡ v
off-committed false u v off = refl
off-committed true u v off = let never : true ≡ false = off in absurd (cc)

module _ (t p : TablesView) (maps : List NewChain) (group b : List Record) (d : List Cell) (batched lost : Bool) (is : lost ≡ false)
    (planned : IsMapPlanOn t p maps group b d batched) (off : batched ≡ false) (h : TablesView) (c : List Record) (e : List Cell) (now : Bool)
    (volume : h.volume ≡ p.volume) (blocks : List ℕ) where
  landed-changes : ChangesMaps blocks t.volume p.volume d e → ChangesMaps blocks (view_of t group d batched lost).committed h.volume d e
  landed-changes changes =
      subst (λ v. ChangesMaps blocks v h.volume d e) (sym (off-committed batched (standing t.volume.geometry d) t.volume off))
      (subst (λ w. ChangesMaps blocks t.volume w d e) (sym volume) changes)

  pub answer-maps : (Makes : View → Volume → List ℕ → Type 0) (k : View) (x y : Supply) (r : Result (Unit {0}) KFault) → view_of t group d batched lost ≡ k
      → OnOk r (now ≡ lost) → OnErr r (now ≡ true) → OnOk r (IsReady h c [] e batched) → Makes (view_of t group d batched lost) p.volume blocks
      → IsMapLanded blocks t.volume p.volume d e x y r → IsMapAnswer (Makes k) k (view_of h c e batched now) r
  answer-maps Makes k x y (Ok done) same stays goes ready makes landed =
      subst (λ z. IsMapAnswer (Makes z) z (view_of h c e batched now) (Ok done)) same (
        blocks,
        subst (λ w. Makes (view_of t group d batched lost) w blocks) (sym volume) makes,
        record {
          kept_on = stays ∙ is;
          batched = refl;
          order = in-order h c [] e batched ready now;
          changes = landed-changes landed.changes;
          singles = landed.singles;
        },
      )
  answer-maps Makes k x y (Err KFault.PowerLost) same stays goes ready makes landed =
      subst (λ z. IsMapAnswer (Makes z) z (view_of h c e batched now) (Err KFault.PowerLost)) same (inr (
        h.volume,
        blocks,
        subst (λ w. Makes (view_of t group d batched lost) w blocks) (sym volume) makes,
        record { lost = goes; batched = refl; whole = subst IsWhole (sym volume) planned.plan.whole; changes = landed-changes landed.changes },
      ))
  answer-maps Makes k x y (Err (KFault.Refused errno)) same stays goes ready makes landed = absurd landed
  answer-maps Makes k x y (Err (KFault.Room room)) same stays goes ready makes landed = absurd landed
  answer-maps Makes k x y (Err KFault.NoMemory) same stays goes ready makes landed = absurd landed
