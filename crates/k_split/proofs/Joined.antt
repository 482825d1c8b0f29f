-- What a change answers and leaves that joined the changes that gathered.
use Rattle.std.proofs.Common.{◌≡◌, ◌<◌, ◌≤◌, ◌+◌, ◌/◌, ℕ, Bool, true, false, List, [], ◌++◌, length, Option, None, Result, Ok, Err, refl, sym, ◌∙◌, ap, subst, arith, inl, inr, length-append}
use Rattle.std.specs.Prelude.{◌||◌, if◌then◌else◌, OnErr, OnOk}
use Rattle.std.proofs.lemmas.List.{length-map}
use Rattle.block_io.specs.pm_model.declared.Cell.{Cell}
use Rattle.block_io.specs.pm_model.ImageLaws.{IsImage-words_of}
use Rattle.block_io.specs.pm_model.Images.{IsImage, words_of}
use Rattle.block_io.specs.pm_model.Words.{Words}
use Rattle.block_io.specs.pm_model.Powers.{Supply}
use Rattle.block_io.specs.layout_model.Journal.{journaled}
use Rattle.block_io.specs.image_model.Placed.{IsOutside}
use Rattle.block_io.specs.image_model.Reading.{Reads}
use Rattle.block_io.specs.image_model.Volume.{Volume}
use Rattle.k_tables.specs.volume_laws.ReadingLaws.{reads-volume}
use Rattle.k_group_commit.specs.Gathered.{IsOpen}
use Rattle.k_group_commit.specs.Joins.{Goes, IsJoined}
use Rattle.k_group_commit.specs.Joins as joins
use Rattle.k_map_plans.specs.block_pool.FreeSets.{is_among}
use Rattle.k_map_plans.specs.k_journal.Batch.{lines_of, new_lines}
use Rattle.k_map_plans.specs.k_journal.declared.batches.Record.{Record}
use Rattle.k_map_plans.specs.k_journal.declared.outcomes.Commit.{Commit}
use Rattle.k_map_plans.specs.k_plans.Free.{is_freed}
use Rattle.k_map_plans.specs.k_plans.View.{TablesView}
use Rattle.k_tables.specs.k_split_model.View.{once_committed, View}
use Rattle.posix_types.specs.declared.item.Outcome.{Outcome}
use Rattle.k_split.specs.declared.faults.KFault.{KFault}
use Rattle.k_split.specs.Answers.{Changes}
use Rattle.k_split.specs.Gathers.{AreSet, Fits, HasJoined, joined, IsGatherAnswer, WritesNone}
use Rattle.k_split.specs.Gathers.Begins.{InBatch, LinesFull}
use Rattle.k_split.specs.Landed.{IsLandedJoin, IsPlanOn}
use Rattle.k_split.specs.MapChanges.{ChangesMaps}
use Rattle.k_split.specs.Order.{IsReady, standing, view_of}
use Rattle.k_split.proofs.Ready.{in-order, lines-journaled}

-- the volume of the device is the one that its words read as
pub on-committed : (t : TablesView) (group : List Record) (d : List Cell) (batched lost : Bool) (u : Volume) → batched ≡ true → IsOpen u t group d
    → (view_of t group d batched lost).committed ≡ u
on-committed t group d batched lost u on opened =
    subst (λ x. (if x then standing t.volume.geometry d else t.volume) ≡ u) (sym on)
    (reads-volume t.volume.geometry (journaled (words_of d)) u (opened.are.stands.reads (words_of d) (IsImage-words_of d)))

outside-none : (i : ℕ) → IsOutside [] i
outside-none i k below at = absurd (omega (arith, below))

-- how many lines both set
pub both-count : (a b : List Record) → length (lines_of a ++ new_lines a b) ≡ length a + length (new_lines a b)
both-count a b = length-append (lines_of a) (new_lines a b) ∙ ap (λ n. n + length (new_lines a b)) (length-map a (λ (e : Record). e.line))

-- cells that went from u to v
pub maps-changed : (blocks : List ℕ) (u v x y : Volume) (d e : List Cell) → x ≡ u → y ≡ v → Goes blocks u v d e → ChangesMaps blocks x y d e
maps-changed blocks u v x y d e first second goes =
    subst (λ s. ChangesMaps blocks s y d e) (sym first) (subst (λ s. ChangesMaps blocks u s d e) (sym second) (record {
      size = goes.size;
      lent = goes.lent;
      each_image = goes.each_image;
      others = goes.others;
    }))

-- each image reads as u
pub reads-at : (u x : Volume) (e : List Cell) → x ≡ u → ((image : Words) → IsImage e image → Reads u.geometry (journaled image) u)
    → (image : Words) → IsImage e image → Reads x.geometry (journaled image) x
reads-at u x e same reads = subst (λ (v : Volume). (image : Words) → IsImage e image → Reads v.geometry (journaled image) v) (sym same) reads

pub names-changed : (u v x : Volume) (d e : List Cell) → x ≡ u → Goes [] u v d e → Changes x v d e
names-changed u v x d e first goes =
    subst (λ s. Changes s v d e) (sym first) (record {
      size = goes.size;
      lent = goes.lent;
      each_image = goes.each_image;
      others = λ i journal line. goes.others i journal line (outside-none i);
    })

module _ (t p : TablesView) (group b : List Record) (d : List Cell) (batched lost : Bool) (is : lost ≡ false) (planned : IsPlanOn t p group b d batched)
    (on : batched ≡ true) (h : TablesView) (c : List Record) (e : List Cell) (now : Bool) (volume : h.volume ≡ p.volume) where
  old : View
  old = view_of t group d batched lost

  new : View
  new = view_of h c e batched now

  are-set : AreSet t.volume (lines_of b)
  are-set = record {
    some = omega (arith, planned.plan.some, length-map b (λ (r : Record). r.line));
    most = omega (arith, planned.plan.most, length-map b (λ (r : Record). r.line));
    journaled = λ line among. lines-journaled t.volume.geometry b line planned.plan.turns.lines among;
  }

  -- it joined the batch of `base`
  has-joined : (v : Volume) (waiting : List ℕ) (a : List Record) (base : View) → joins.HasJoined planned.ready.committed v waiting t p h [] a b c d e
      → base.volume ≡ t.volume → base.committed ≡ v → base.waiting ≡ waiting → base.lines ≡ lines_of a → now ≡ lost → IsReady h c [] e batched
      → HasJoined (lines_of b) [] base (view_of t group d batched lost) (view_of h c e batched now)
  has-joined v waiting a base has same at waits lines stays ready = record {
    kept_on = stays ∙ is;
    batched = on;
    order = in-order h c [] e batched ready now;
    committed = on-committed h c e batched now v on has.opened ∙ sym at;
    waiting = λ x.
        has.waits x
        ∙ (λ i. is_among (waits-back i) x || is_freed (same-back i) (volume-back i) x);
    lines_are = has.laid.lines ∙ ap (λ (ls : List ℕ). joined_with ls) (sym lines);
    changes = maps-changed [] planned.ready.committed v (view_of t group d batched lost).committed (view_of h c e batched now).committed d e
        (on-committed t group d batched lost planned.ready.committed on planned.ready.opened) (on-committed h c e batched now v on has.opened) has.goes;
    singles = has.singles;
  }
    where
      waits-back : waiting ≡ base.waiting
      waits-back = sym waits

      same-back : t.volume ≡ base.volume
      same-back = sym same

      volume-back : p.volume ≡ h.volume
      volume-back = sym volume

      joined_with : List ℕ → List ℕ
      joined_with ls = joined ls (lines_of b)

  pub gather-done : {T : Type 0} (made : T) (row : View → Option Outcome) (Makes : View → T → Volume → Type 0) (k : View) → view_of t group d batched lost ≡ k
      → now ≡ lost → IsReady h c [] e batched → row (view_of t group d batched lost) ≡ None → Makes (view_of t group d batched lost) made p.volume
      → IsJoined planned.ready.committed t p h [] group b c d e Commit.Done
      → IsGatherAnswer (row k) (WritesNone (Makes k)) k (view_of h c e batched now) (Ok made)
  gather-done {T} made row Makes k same stays ready allowed makes joined =
      subst (λ z. IsGatherAnswer (row z) (WritesNone (Makes z)) z (view_of h c e batched now) (Ok made)) same (
        allowed,
        elim joined [
          | inl room ↦ (
            record {
              lines = lines_of b;
              blocks = [];
              seen = view_of t group d batched lost;
              base = view_of t group d batched lost;
              set = are-set;
              begins = InBatch (omega (arith, room.0, both-count group b)) refl refl;
              makes = (subst (Makes (view_of t group d batched lost) made) (sym volume) makes, refl);
            },
            has-joined planned.ready.committed t.waiting group (view_of t group d batched lost) room.1 refl
                (on-committed t group d batched lost planned.ready.committed on planned.ready.opened) refl refl stays ready,
          )
          | inr was ↦ (
            record {
              lines = lines_of b;
              blocks = [];
              seen = view_of t group d batched lost;
              base = once_committed (view_of t group d batched lost);
              set = are-set;
              begins = LinesFull (λ fits. was.0 (omega (arith, fits, both-count group b))) refl refl;
              makes = (subst (Makes (view_of t group d batched lost) made) (sym volume) makes, refl);
            },
            has-joined t.volume [] [] (once_committed (view_of t group d batched lost)) was.1 refl refl refl refl stays ready,
          )
        ],
      )

  pub gather-cut : {T : Type 0} (made : T) (row : View → Option Outcome) (Makes : View → T → Volume → Type 0) (k : View) → view_of t group d batched lost ≡ k
      → now ≡ true → row (view_of t group d batched lost) ≡ None → Makes (view_of t group d batched lost) made p.volume
      → IsJoined planned.ready.committed t p h [] group b c d e Commit.PowerLost
      → IsGatherAnswer (row k) (WritesNone (Makes k)) k (view_of h c e batched now) (Err KFault.PowerLost)
  gather-cut {T} made row Makes k same goes allowed makes joined =
      subst (λ z. IsGatherAnswer (row z) (WritesNone (Makes z)) z (view_of h c e batched now) (Err KFault.PowerLost)) same (elim joined [
        | inl was ↦ in-commit was.0 was.1
        | inr cut ↦ elim cut [
          | inr was ↦ in-commit was.0 was.1.goes
          | inl room ↦ inr (inr (
            allowed,
            (
              made,
              p.volume,
              record {
                lines = lines_of b;
                blocks = [];
                seen = view_of t group d batched lost;
                base = view_of t group d batched lost;
                set = are-set;
                begins = InBatch (omega (arith, room.0, both-count group b)) refl refl;
                makes = (makes, refl);
              },
              record {
                lost = goes;
                batched = refl;
                changes = maps-changed [] planned.ready.committed planned.ready.committed (view_of t group d batched lost).committed (view_of t group d batched lost).committed d e
                    (on-committed t group d batched lost planned.ready.committed on planned.ready.opened)
                    (on-committed t group d batched lost planned.ready.committed on planned.ready.opened) room.1.goes;
                reads = reads-at planned.ready.committed (view_of t group d batched lost).committed e
                    (on-committed t group d batched lost planned.ready.committed on planned.ready.opened) room.1.reads;
              },
            ),
          ))
        ]
      ])
    where
      in-commit : (joins.Fits group b → ⊥) → Goes [] planned.ready.committed t.volume d e
          → IsGatherAnswer (row (view_of t group d batched lost)) (WritesNone (Makes (view_of t group d batched lost))) (view_of t group d batched lost)
          (view_of h c e batched now) (Err KFault.PowerLost)
      in-commit full changed = inr (inl (
        allowed,
        inl (lines_of b, are-set, λ fits. full (omega (arith, fits, both-count group b))),
        record {
          lost = goes;
          batched = refl;
          whole = planned.ready.opened.whole;
          changes = names-changed planned.ready.committed t.volume (view_of t group d batched lost).committed d e
              (on-committed t group d batched lost planned.ready.committed on planned.ready.opened) changed;
        },
      ))

  -- of faults the power alone comes
  pub gather-fault : {T : Type 0} (made : T) (row : View → Option Outcome) (Makes : View → T → Volume → Type 0) (k : View) (after : Supply) (fault : KFault)
      → view_of t group d batched lost ≡ k → now ≡ true → row (view_of t group d batched lost) ≡ None → Makes (view_of t group d batched lost) made p.volume
      → IsLandedJoin planned.ready.committed t p h [] group b c d e after (Err fault)
      → IsGatherAnswer (row k) (WritesNone (Makes k)) k (view_of h c e batched now) (Err fault)
  gather-fault made row Makes k after KFault.PowerLost same goes allowed makes joined = gather-cut made row Makes k same goes allowed makes joined.0
  gather-fault made row Makes k after (KFault.Refused errno) same goes allowed makes joined = absurd joined
  gather-fault made row Makes k after (KFault.Room room) same goes allowed makes joined = absurd joined
  gather-fault made row Makes k after KFault.NoMemory same goes allowed makes joined = absurd joined

  -- a change that answers nothing
  pub gather-landed : (row : View → Option Outcome) (Makes : View → Unit {0} → Volume → Type 0) (k : View) (after : Supply) (r : Result (Unit {0}) KFault)
      → view_of t group d batched lost ≡ k → OnOk r (now ≡ lost) → OnErr r (now ≡ true) → OnOk r (IsReady h c [] e batched)
      → row (view_of t group d batched lost) ≡ None → Makes (view_of t group d batched lost) tt p.volume
      → IsLandedJoin planned.ready.committed t p h [] group b c d e after r → IsGatherAnswer (row k) (WritesNone (Makes k)) k (view_of h c e batched now) r
  gather-landed row Makes k after (Ok done) same stays goes ready allowed makes joined = gather-done done row Makes k same stays ready allowed makes joined.0
  gather-landed row Makes k after (Err fault) same stays goes ready allowed makes joined =
      gather-fault (let done : Unit {0} = tt in done) row Makes k after fault same goes allowed makes joined
