-- Once a file is published, others find what they ask for.
use Rattle.std.proofs.Common.{◌≡◌, ◌≢◌, ◌≤◌, ◌+◌, ℕ, zero, suc, List, [], ◌∷◌, length, Some, None, Ok, refl, sym, ◌∙◌, ap, subst, arith, get_or, inl, inr}
use Rattle.std.specs.Prelude.{All, IsSome}
use Rattle.std.proofs.lemmas.Bool.{cases_Bool}
use Rattle.std.proofs.lemmas.List.Elements.{All-head, All-tail}
use Rattle.log_laws.specs.layout_model.declared.lines.Inode.{Inode}
use Rattle.log_laws.specs.layout_model.Places.{reserve}
use Rattle.log_laws.specs.image_model.Volume.{extents, inode}
use Rattle.file_overlay.specs.extent_model.Extents.{disk_at}
use Rattle.file_overlay.specs.declared.runs.Run.{Run}
use Rattle.k_split.specs.k_map_plans.Plans.{IsLiveFile, IsStagingFile, MayMove}
use Rattle.k_split.proofs.k_plans_proofs.FreeCounts.{unwaiting-counted}
use Rattle.k_split.specs.k_split_model.View.{View}
use Rattle.k_split.specs.MapChanges.{free_blocks_in, is_free_in, IsRelinkAnswer, IsSizeAnswer}
use Rattle.k_split.specs.k_split_model.declared.map_changes.moves.Move.{Move}
use Rattle.fsync_relink.specs.Others.{AllApart, GoesOn, KeepsRest, LeavesOthers, LeavesRoom}
use Rattle.fsync_relink.specs.Publishes.{AreRelinked, has_staged, IsStagedRun, MayPublish, move_of, ShareNone, size_before}
use Rattle.fsync_relink.proofs.NextLaws.{may-move, next-may, run-stays, staged-stays}
use Rattle.fsync_relink.proofs.PublishedLaws.{staged-goes}
use Rattle.fsync_relink.proofs.SizedLaws.{free-more, keeps-sized, line-beside, map-beside, no-staging}
use Rattle.fsync_relink.proofs.RelinkLaws.{applied-other, base-same, count-same, geometry-same, kind-same}
use Rattle.fsync_relink.proofs.WorldLaws.{relink-takes_one}

-- ---- one relink

module _ (ino size : ℕ) (run : Run) (runs : List Run) (k l : View) (on : GoesOn k) (may : MayPublish ino size (run ∷ runs) k)
    (gave : IsRelinkAnswer (move_of ino (size_before runs size (inode k.volume ino).size) run) k l (Ok tt)) where
  abbrev m : Move
  m = move_of ino (size_before runs size (inode k.volume ino).size) run

  moves : MayMove (move_of ino (size_before runs size (inode k.volume ino).size) run) k.volume
  moves = may-move ino size run runs k on.order may

  -- one block at most is taken
  one-taken : free_blocks_in k ≤ free_blocks_in l + 1
  one-taken = omega (
    arith,
    relink-takes_one m k l.volume gave.0 on.order on.unbatched moves gave.2.order.whole gave.1,
    unwaiting-counted (record { volume = k.volume; aside = []; waiting = k.waiting }) refl (on.order.none_waits on.unbatched),
    unwaiting-counted (record { volume = l.volume; aside = []; waiting = l.waiting }) refl (gave.2.order.none_waits (gave.2.batched ∙ on.unbatched)),
  )

  -- what a staging file has then it had there
  had-staged : (x b n : ℕ) → IsStagingFile x k.volume → disk_at (extents l.volume x) b ≡ Some n → disk_at (extents k.volume x) b ≡ Some n
  had-staged x b n is at = elim (cases_Bool (has_staged x b run)) [
    | inl has ↦
        let never : None ≡ Some n = sym (staged-goes ino size run runs k l on.order on.unbatched may gave x b has) ∙ at in
        absurd (cc)
    | inr away ↦ sym (staged-stays ino size run runs k l on.order on.unbatched may gave x b is away) ∙ at
  ]

  pub keeps-relinked : KeepsRest k l
  keeps-relinked = record {
    goes_on = record { order = gave.2.order; unbatched = gave.2.batched ∙ on.unbatched; on = gave.2.kept_on };
    numbers = geometry-same (is_free_in k) m k.volume l.volume gave.1.displaced on.order.whole moves gave.1.moved;
    base = base-same (is_free_in k) m k.volume l.volume gave.1.displaced on.order.whole moves gave.1.moved;
    count = count-same (is_free_in k) m k.volume l.volume gave.1.displaced on.order.whole moves gave.1.moved;
    kinds = kind-same (is_free_in k) m k.volume l.volume gave.1.displaced on.order.whole moves gave.1.moved;
    lent = gave.2.changes.lent;
    singles = gave.2.singles;
    staged = had-staged;
  }

  -- another file may be published as before
  other-may : (other length_is : ℕ) (rest : List Run) → other ≢ ino → All (ShareNone run) rest → MayPublish other length_is rest k
      → 1 + length rest + reserve k.volume.geometry ≤ free_blocks_in k + 3 → MayPublish other length_is rest l
  other-may other length_is rest own apart was room = record {
    file = record {
      below = omega (arith, was.file.below, count-same (is_free_in k) m k.volume l.volume gave.1.displaced on.order.whole moves gave.1.moved);
      file = kind-same (is_free_in k) m k.volume l.volume gave.1.displaced on.order.whole moves gave.1.moved other ∙ was.file.file;
    };
    size_fits = was.size_fits;
    staged = λ n d below. run-stays ino size run runs k l on.order on.unbatched may gave (get_or rest n d) (apart n d below) (was.staged n d below);
    apart = was.apart;
    rising = was.rising;
    orders = λ n d below. (
      omega (
        arith,
        (was.orders n d below).0,
        applied-other (is_free_in k) m k.volume l.volume gave.1.displaced on.order.whole moves gave.1.moved other own,
      ),
      (was.orders n d below).1,
    );
    room = omega (
      arith,
      room,
      one-taken,
      ap reserve (geometry-same (is_free_in k) m k.volume l.volume gave.1.displaced on.order.whole moves gave.1.moved),
    );
  }

  pub leaves-relinked : LeavesRoom ino (run ∷ []) k l
  leaves-relinked = record {
    rest = keeps-relinked;
    others = λ other length_is left own apart was room.
        other-may other length_is left own (All-head (λ r. All (ShareNone r) left) run [] apart) was (omega (arith, room));
    room = λ more room. omega (
      arith,
      room,
      one-taken,
      ap reserve (geometry-same (is_free_in k) m k.volume l.volume gave.1.displaced on.order.whole moves gave.1.moved),
    );
  }

-- ---- one change after another

-- nothing is done
pub keeps-same : (k : View) → GoesOn k → KeepsRest k k
keeps-same k on = record {
  goes_on = on;
  numbers = refl;
  base = refl;
  count = refl;
  kinds = λ i. refl;
  lent = λ i. refl;
  singles = λ i single. single;
  staged = λ x b n is at. at;
}

pub keeps-then : (k m l : View) → KeepsRest k m → KeepsRest m l → KeepsRest k l
keeps-then k m l first second = record {
  goes_on = second.goes_on;
  numbers = second.numbers ∙ first.numbers;
  base = second.base ∙ first.base;
  count = second.count ∙ first.count;
  kinds = λ i. second.kinds i ∙ first.kinds i;
  lent = λ i. second.lent i ∙ first.lent i;
  singles = λ i single. second.singles i (first.singles i single);
  staged = λ x b n is at.
      first.staged x b n is
      (second.staged x b n (record { below = omega (arith, is.below, first.count); kind = first.kinds x ∙ is.kind }) at);
}

-- ---- all runs

one-apart : (run : Run) (left : List Run) → All (ShareNone run) left → AllApart (run ∷ []) left
one-apart run left apart zero d below = apart
one-apart run left apart (suc n) d below = absurd (omega (arith, below))

leaves-none : (ino : ℕ) (k : View) → GoesOn k → LeavesRoom ino [] k k
leaves-none ino k on = record {
  rest = keeps-same k on;
  others = λ other length_is rest own apart was room. was;
  room = λ more room. omega (arith, room);
}

pub leaves-each : (ino size : ℕ) (runs : List Run) (k l : View) → GoesOn k → MayPublish ino size runs k → AreRelinked ino size runs k l → LeavesRoom ino runs k l
leaves-each ino size [] k l on may same = subst (LeavesRoom ino [] k) (sym same) (leaves-none ino k on)
leaves-each ino size (run ∷ runs) k l on may (middle, gave, rest) =
    let first : LeavesRoom ino (run ∷ []) k middle = leaves-relinked ino size run runs k middle on may gave in
    let behind : LeavesRoom ino runs middle l =
    leaves-each ino size runs middle l first.rest.goes_on (next-may ino size run runs k middle on.order on.unbatched may gave) rest
    in
    let numbers : reserve middle.volume.geometry ≡ reserve k.volume.geometry = ap reserve first.rest.numbers in
    record {
      rest = keeps-then k middle l first.rest behind.rest;
      others = λ other length_is left own apart was room.
          behind.others other length_is left own (All-tail (λ r. All (ShareNone r) left) run runs apart)
          (first.others other length_is left own (one-apart run left (All-head (λ r. All (ShareNone r) left) run runs apart)) was (omega (arith, room)))
          (let one_more = first.room (length runs + length left) (omega (arith, room)) in omega (arith, one_more));
      room = λ more room.
          behind.room more
          (let one_more = first.room (length runs + more) (omega (arith, room)) in omega (arith, one_more));
    }

-- ---- the length alone

leaves-sized : (ino size : ℕ) (k l : View) → GoesOn k → IsLiveFile ino k.volume → IsSizeAnswer ino size k l (Ok tt) → LeavesRoom ino [] k l
leaves-sized ino size k l on file gave = record {
  rest = keeps-sized ino size k l on file gave;
  others = λ other length_is rest own apart was room. record {
    file = record { below = omega (arith, was.file.below, kept.count); file = kept.kinds other ∙ was.file.file };
    size_fits = was.size_fits;
    staged = λ n d below. run-there (get_or rest n d) (was.staged n d below);
    apart = was.apart;
    rising = was.rising;
    orders = λ n d below. (
      omega (arith, (was.orders n d below).0, ap (λ (x : Inode). x.applied) (line-beside ino size k l on file gave other own)),
      (was.orders n d below).1,
    );
    room = omega (arith, room, free-more ino size k l on file gave, ap reserve kept.numbers);
  };
  room = λ more room. omega (arith, room, free-more ino size k l on file gave, ap reserve kept.numbers);
} where
  kept : KeepsRest k l
  kept = keeps-sized ino size k l on file gave

  run-there : (run : Run) → IsStagedRun k run → IsStagedRun l run
  run-there run was =
      let map = map-beside ino size k l on file gave run.staging (no-staging ino size k l on file gave run.staging was.staging) in
      record {
        staging = record { below = omega (arith, was.staging.below, kept.count); kind = kept.kinds run.staging ∙ was.staging.kind };
        some = was.some;
        place = was.place;
        there = λ b low high. subst IsSome (sym (ap (λ es. disk_at es b) map)) (was.there b low high);
        single = λ b i inside at. kept.singles i (was.single b i inside (sym (ap (λ es. disk_at es b) map) ∙ at));
      }

-- ---- a publishing

pub leaves-others : LeavesOthers
leaves-others ino size [] k l on may (inl same) = subst (LeavesRoom ino [] k) (sym same.1) (leaves-none ino k on)
leaves-others ino size [] k l on may (inr resized) = leaves-sized ino size k l on may.file resized.1
leaves-others ino size (run ∷ runs) k l on may done = leaves-each ino size (run ∷ runs) k l on may done.1
