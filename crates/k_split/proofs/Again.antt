-- A change that wanted blocks that wait, and is made after a commit.
use Rattle.std.proofs.Common.{◌≡◌, ◌≤◌, ◌<◌, ◌+◌, ◌/◌, ℕ, Bool, false, true, List, [], ◌++◌, length, Option, Some, None, Result, Ok, Err, refl, sym, ◌∙◌, ap, subst, arith, inl, inr}
use Rattle.std.specs.Prelude.{not, ◌||◌}
use Rattle.std.specs.List.{filter}
use Rattle.std.proofs.lemmas.List.Sums.{count_by-le-length, length-filter}
use Rattle.block_io.specs.pm_model.declared.Cell.{Cell}
use Rattle.block_io.specs.image_model.Volume.{Volume}
use Rattle.k_group_commit.specs.JoinLaws.{goes-then}
use Rattle.k_group_commit.specs.Joins.{Goes}
use Rattle.k_map_plans.specs.block_pool.FreeSets.{is_among}
use Rattle.k_map_plans.specs.k_journal.declared.outcomes.Commit.{Commit}
use Rattle.k_map_plans.specs.k_plans.Free.{is_freed}
use Rattle.k_map_plans.specs.k_plans.Whole.{IsWhole}
use Rattle.k_tables.specs.k_split_model.View.{once_committed, View}
use Rattle.block_io.specs.k_split_model.declared.map_changes.moves.Move.{Move}
use Rattle.posix_types.specs.declared.item.Outcome.{Outcome}
use Rattle.k_split.specs.declared.faults.KFault.{KFault}
use Rattle.k_split.specs.Answers.{Changes}
use Rattle.k_split.specs.Gathers.{AreSet, Begins, Change, HasJoined, IsCommitOutcome, IsCommitted, IsGatherAnswer, joined, Joins, WantsBlocks}
use Rattle.k_split.specs.Gathers.Begins.{BlocksWanted, InBatch, LinesFull}
use Rattle.k_split.specs.MapChanges.{ChangesMaps, IsMovedWith, IsSizedWith}
use Rattle.k_split.specs.Order.{IsInOrder}
use Rattle.k_split.proofs.Joined.{reads-at}

some-none : (o : Outcome) → None ≡ Some o → ⊥
some-none o is = cc

-- the lines of a change fit into an empty batch
few-lines : (v : Volume) (ls lines : List ℕ) → ls ≡ [] → AreSet v lines → length (joined ls lines) ≤ 128
few-lines v ls lines none set =
    subst (λ (xs : List ℕ). length (joined xs lines) ≤ 128) (sym none)
    (omega (
      arith,
      set.most,
      length-filter (λ line. not (is_among [] line)) lines,
      count_by-le-length (λ line. not (is_among [] line)) lines,
    ))

as-goes : (u v : Volume) (d m : List Cell) → Changes u v d m → Goes [] u v d m
as-goes u v d m changes =
    record { size = changes.size; lent = changes.lent; each_image = changes.each_image; others = λ i journal line out. changes.others i journal line }

maps-goes : (blocks : List ℕ) (u v : Volume) (d m : List Cell) → ChangesMaps blocks u v d m → Goes blocks u v d m
maps-goes blocks u v d m changes =
    record { size = changes.size; lent = changes.lent; each_image = changes.each_image; others = changes.others }

-- a commit, and then a change
changes-then : (blocks : List ℕ) (u v : Volume) (d m e : List Cell) → v.geometry ≡ u.geometry → Changes u v d m → ChangesMaps blocks v v m e
    → ChangesMaps blocks u v d e
changes-then blocks u v d m e same first next =
    let goes = goes-then blocks u v d m e same (as-goes u v d m first) (maps-goes blocks v v m e next) in
    record { size = goes.size; lent = goes.lent; each_image = goes.each_image; others = goes.others }

module _ {T : Type 0} (Makes : Change T) (old mid : View) (geometry : old.volume.geometry ≡ old.committed.geometry) (wants : WantsBlocks Makes old)
    (committed : IsCommitted old mid) (again : (t : T) (w : Volume) (blocks : List ℕ) → Makes t mid w blocks → Makes t (once_committed old) w blocks) where
  volume_is : mid.volume ≡ old.volume
  volume_is = ap (λ (x : View). x.volume) committed.same

  stands_at : mid.committed ≡ old.volume
  stands_at = ap (λ (x : View). x.committed) committed.same

  none_wait : mid.waiting ≡ []
  none_wait = ap (λ (x : View). x.waiting) committed.same

  no_line : mid.lines ≡ []
  no_line = ap (λ (x : View). x.lines) committed.same

  wants_none : WantsBlocks Makes mid → ⊥
  wants_none more = more.waits none_wait

  -- it begins in the batch, which is empty
  begins-here : (lines : List ℕ) (seen base : View) → AreSet mid.volume lines → Begins Makes mid lines seen base → (seen ≡ mid) × (base ≡ mid)
  begins-here lines seen base set (InBatch fits first second) = (first, second)
  begins-here lines seen base set (LinesFull full first second) = absurd (full (few-lines mid.volume mid.lines lines no_line set))
  begins-here lines seen base set (BlocksWanted more first second) = absurd (wants_none more)

  joins-here : (t : T) (w : Volume) (join : Joins Makes t mid w) → Joins Makes t old w
  joins-here t w join = record {
    lines = join.lines;
    blocks = join.blocks;
    seen = once_committed old;
    base = once_committed old;
    set = subst (λ (v : Volume). AreSet v join.lines) volume_is join.set;
    begins = BlocksWanted wants refl refl;
    makes = again t w join.blocks
        (subst (λ (x : View). Makes t x w join.blocks) (begins-here join.lines join.seen join.base join.set join.begins).0 join.makes);
  }

  goes-on : (blocks : List ℕ) (base : View) (v : Volume) (e : List Cell) → base ≡ mid → v ≡ base.committed → ChangesMaps blocks mid.committed v mid.cells e
      → ChangesMaps blocks old.committed v old.cells e
  goes-on blocks base v e here is changes =
      let now : v ≡ old.volume = is ∙ ap (λ (x : View). x.committed) here ∙ stands_at in
      subst (λ (x : Volume). ChangesMaps blocks old.committed x old.cells e) (sym now)
      (changes-then blocks old.committed old.volume old.cells mid.cells e geometry committed.changes
      (subst (λ (x : Volume). ChangesMaps blocks x old.volume mid.cells e) stands_at
      (subst (λ (x : Volume). ChangesMaps blocks mid.committed x mid.cells e) now changes)))

  has-joined : (lines blocks : List ℕ) (base new : View) → base ≡ mid → HasJoined lines blocks base mid new → HasJoined lines blocks (once_committed old) old new
  has-joined lines blocks base new here has = record {
    kept_on = has.kept_on;
    batched = has.batched;
    order = has.order;
    committed = has.committed ∙ ap (λ (x : View). x.committed) here ∙ stands_at;
    waiting = λ b. has.waiting b ∙ ap (λ (x : View). is_among x.waiting b || is_freed x.volume new.volume b) (here ∙ committed.same);
    lines_are = has.lines_are ∙ ap (λ (x : View). joined x.lines lines) (here ∙ committed.same);
    changes = goes-on blocks base new.committed new.cells here has.committed has.changes;
    singles = λ i single. has.singles i (committed.singles i single);
  }

  cut-here : IsWhole old.volume
  cut-here = subst IsWhole volume_is committed.order.whole

  -- What it answers then is what it answers of all.
  pub after-commit : (new : View) (r : Result T KFault) → IsGatherAnswer None Makes mid new r → IsGatherAnswer None Makes old new r
  unfolding joins-here
  after-commit new (Ok t) answer =
      let join = answer.1.0 in (
        refl,
        (
          joins-here t new.volume join,
          has-joined join.lines join.blocks join.base new (begins-here join.lines join.seen join.base join.set join.begins).1 answer.1.1,
        ),
      )
  after-commit new (Err (KFault.Refused errno)) answer = absurd (some-none _ answer.0)
  after-commit new (Err (KFault.Room room)) answer = absurd (some-none _ answer.0)
  after-commit new (Err KFault.NoMemory) answer = (
    refl,
    elim answer.1 [
      | inl same ↦ inr (wants, subst (λ (x : View). IsCommitted old x) (sym same) committed)
      | inr more ↦ absurd (wants_none more.0)
    ],
  )
  after-commit new (Err KFault.PowerLost) (inl off) = inr (inl (
    refl,
    inr wants,
    record {
      lost = ap (λ (x : View). x.lost) off;
      batched = ap (λ (x : View). x.batched) off ∙ ap (λ (x : View). x.batched) committed.same;
      whole = cut-here;
      changes = subst (λ (d : List Cell). Changes old.committed old.volume old.cells d) (sym (ap (λ (x : View). x.cells) off)) committed.changes;
    },
  ))
  after-commit new (Err KFault.PowerLost) (inr (inl cut)) = elim cut.1 [
    | inl full ↦ absurd (full.2 (few-lines mid.volume mid.lines full.0 no_line full.1))
    | inr more ↦ absurd (wants_none more)
  ]
  after-commit new (Err KFault.PowerLost) (inr (inr cut)) =
      let t = cut.1.0 in
      let w = cut.1.1 in
      let join = cut.1.2 in
      let lost = cut.1.3 in
      let here = (begins-here join.lines join.seen join.base join.set join.begins).1 in
      inr (inr (
        refl,
        (
          t,
          w,
          joins-here t w join,
          record {
            lost = lost.lost;
            batched = lost.batched ∙ ap (λ (x : View). x.batched) committed.same;
            changes = subst (λ (x : Volume). ChangesMaps join.blocks old.committed x old.cells new.cells)
                (ap (λ (x : View). x.committed) here ∙ stands_at)
                (goes-on join.blocks join.base join.base.committed new.cells here refl lost.changes);
            reads = reads-at join.base.committed old.volume new.cells (sym (ap (λ (x : View). x.committed) here ∙ stands_at)) lost.reads;
          },
        ),
      ))

-- the power went in the commit
pub lost-commit : {T : Type 0} (Makes : Change T) (old new : View) → WantsBlocks Makes old → IsCommitOutcome old new Commit.PowerLost
    → IsGatherAnswer None Makes old new (Err KFault.PowerLost)
lost-commit Makes old new wants (inl off) = inl off
lost-commit Makes old new wants (inr cut) = inr (inl (refl, inr wants, cut))

pub committed-outcome : (old new : View) (r : Commit) → r ≡ Commit.Done → IsCommitOutcome old new r → IsCommitted old new
committed-outcome old new Commit.Done done outcome = outcome
committed-outcome old new Commit.PowerLost done outcome = let never : Commit.PowerLost ≡ Commit.Done = done in absurd (cc)

pub lost-outcome : (old new : View) (r : Commit) → r ≡ Commit.PowerLost → IsCommitOutcome old new r → IsCommitOutcome old new Commit.PowerLost
lost-outcome old new r lost outcome = subst (IsCommitOutcome old new) lost outcome

-- ---- what is answered after a commit

module _ {T : Type 0} (Makes : Change T) (old one : View) (order : IsInOrder old) (same : one ≡ old) (wants : WantsBlocks Makes old) where
  pub second-answer : (mid new : View) (result : Commit) (r : Result T KFault) → result ≡ Commit.Done → IsCommitOutcome one mid result
      → ((t : T) (w : Volume) (blocks : List ℕ) → Makes t mid w blocks → Makes t (once_committed old) w blocks)
      → IsGatherAnswer None Makes mid new r → IsGatherAnswer None Makes old new r
  second-answer mid new result r done outcome again answer =
      after-commit Makes old mid order.geometry wants
      (subst (λ (x : View). IsCommitted x mid) same (committed-outcome one mid result done outcome)) again new r answer

  pub mid-same : (mid : View) (result : Commit) → result ≡ Commit.Done → IsCommitOutcome one mid result → mid ≡ record (once_committed old) { cells = mid.cells }
  mid-same mid result done outcome = (subst (λ (x : View). IsCommitted x mid) same (committed-outcome one mid result done outcome)).same

-- a cut, and a move, do not look at the cells
pub size-again : (ino size : ℕ) (old mid : View) → mid ≡ record (once_committed old) { cells = mid.cells } → (t : Unit {0}) (w : Volume) (blocks : List ℕ)
    → IsSizedWith ino size mid w blocks → IsSizedWith ino size (once_committed old) w blocks
size-again ino size old mid same t w blocks is =
    let at : IsSizedWith ino size (record (once_committed old) { cells = mid.cells }) w blocks = subst (λ (x : View). IsSizedWith ino size x w blocks) same is in
    record { sized = at.sized; written = at.written }

pub move-again : (m : Move) (old mid : View) → mid ≡ record (once_committed old) { cells = mid.cells } → (t : Unit {0}) (w : Volume) (blocks : List ℕ)
    → IsMovedWith m mid w blocks → IsMovedWith m (once_committed old) w blocks
move-again m old mid same t w blocks is =
    let at : IsMovedWith m (record (once_committed old) { cells = mid.cells }) w blocks = subst (λ (x : View). IsMovedWith m x w blocks) same is in
    record { displaced = at.displaced; moved = at.moved; written = at.written }
