-- Runs one after the other: what the ones behind find once a run is relinked.
use Rattle.std.proofs.Common.{◌≡◌, ◌≢◌, ◌≤◌, ◌<◌, ◌+◌, ◌&&◌, ℕ, suc, true, false, List, [], ◌∷◌, Some, None, Ok, refl, sym, ◌∙◌, ap, subst, inl, inr, arith, get_or}
use Rattle.std.specs.Prelude.{IsSome, if◌then◌else◌}
use Rattle.std.proofs.lemmas.Bool.{both_ways, cases_Bool, cases_eq, eq-eqb}
use Rattle.std.proofs.lemmas.Bool.Decides.{nat_tests}
use Rattle.std.proofs.lemmas.Option.{same_Some}
use Rattle.log_laws.specs.layout_model.block_counts.declared.TheConstants.{LONGEST_FILE}
use Rattle.log_laws.specs.layout_model.Lines.{is_inode, is_inode_of_kind}
use Rattle.log_laws.specs.layout_model.declared.lines.Inode.{Inode}
use Rattle.log_laws.specs.layout_model.declared.lines.Kind.{Kind}
use Rattle.log_laws.specs.layout_model.declared.lines.Kind.TheVariants.{File, Staging}
use Rattle.log_laws.specs.layout_model.Places.{reserve}
use Rattle.log_laws.specs.image_model.Volume.{extents, inode, Volume}
use Rattle.file_overlay.specs.extent_model.Extents.{disk_at, is_within}
use Rattle.file_overlay.specs.declared.runs.Run.{Run}
use Rattle.k_split.specs.k_map_plans.Plans.{IsLiveFile, IsStagingFile, MayMove}
use Rattle.k_split.specs.k_plans.View.{node_at}
use Rattle.k_split.specs.k_plans.Whole.{IsWhole}
use Rattle.k_split.specs.k_split_model.Spaces.{is_free}
use Rattle.k_split.specs.k_split_model.View.{View}
use Rattle.k_split.specs.MapChanges.{is_free_in, IsMovedSingle, IsRelinkAnswer}
use Rattle.k_split.specs.Order.{IsInOrder}
use Rattle.k_split.specs.k_split_model.declared.map_changes.moves.Move.{Move}
use Rattle.k_split.proofs.k_plans_proofs.FreeCounts.{unwaiting-counted}
use Rattle.fsync_relink.specs.Publishes.{has_staged, IsStagedRun, MayPublish, move_of, ShareNone, size_before}
use Rattle.fsync_relink.proofs.RelinkLaws.{count-same, geometry-same, kind-same, line-file, map-left, map-other}
use Rattle.fsync_relink.proofs.WorldLaws.{relink-takes_one}

-- ---- what a relink asks for

-- a file's line has a length in range
file-size : (x : Inode) → x.kind ≡ File → is_inode x ≡ true → x.size ≤ LONGEST_FILE
file-size x file is = within (subst (λ (k : Kind). is_inode_of_kind k x ≡ true) file is) where
  within : is_inode_of_kind File x ≡ true → x.size ≤ LONGEST_FILE
  within fits = grind (arith, nat_tests, fits)

-- the length that a file has once a run is relinked
pub size-fits : (runs : List Run) (size : ℕ) (v : Volume) (ino : ℕ) → IsWhole v → IsLiveFile ino v → size ≤ LONGEST_FILE
    → size_before runs size (inode v ino).size ≤ LONGEST_FILE
size-fits [] size v ino whole file fits = fits
size-fits (run ∷ runs) size v ino whole file fits = file-size (inode v ino) file.file (whole.inodes ino)

pub may-move : (ino size : ℕ) (run : Run) (runs : List Run) (k : View) → IsInOrder k → MayPublish ino size (run ∷ runs) k
    → MayMove (move_of ino (size_before runs size (inode k.volume ino).size) run) k.volume
may-move ino size run runs k order may =
    let staged = may.staged 0 run (omega arith) in
    record {
      staging = staged.staging;
      file = may.file;
      some = staged.some;
      there = staged.there;
      place = staged.place;
      size = size-fits runs size k.volume ino order.whole may.file may.size_fits;
      applied = (may.orders 0 run (omega arith)).1;
    }

pub moved-single : (ino size : ℕ) (run : Run) (runs : List Run) (k : View) → MayPublish ino size (run ∷ runs) k
    → IsMovedSingle (move_of ino (size_before runs size (inode k.volume ino).size) run) k.volume k.cells
moved-single ino size run runs k may = (may.staged 0 run (omega arith)).single

-- ---- the node of a live file

pub node-is : (v : Volume) (ino : ℕ) → IsLiveFile ino v → node_at v ino ≡ Some (inode v ino)
node-is v ino file = ap (λ (kind : Kind). if is_free kind then None else Some (inode v ino)) file.file

pub node-there : (v : Volume) (ino : ℕ) → IsLiveFile ino v → node_at v ino ≡ None → ⊥
node-there v ino file none = let never : Some (inode v ino) ≡ None = sym (node-is v ino file) ∙ none in cc

pub node-file : (v : Volume) (ino : ℕ) (x : Inode) → IsLiveFile ino v → node_at v ino ≡ Some x → x.size ≡ (inode v ino).size
node-file v ino x file is = ap (λ (y : Inode). y.size) (same_Some x (inode v ino) (sym is ∙ node-is v ino file))

-- ---- what the runs behind find

pub has-staged : (x b : ℕ) (run : Run) → run.staging ≡ x → is_within run.staging_block run.count b ≡ true → has_staged x b run ≡ true
has-staged x b run same inside = (λ i. eq-eqb run.staging x same i && inside i)

module _ (ino size : ℕ) (run : Run) (runs : List Run) (k l : View) (order : IsInOrder k) (unbatched : k.batched ≡ false) (may : MayPublish ino size (run ∷ runs) k)
    (gave : IsRelinkAnswer (move_of ino (size_before runs size (inode k.volume ino).size) run) k l (Ok tt)) where
  abbrev m : Move
  m = move_of ino (size_before runs size (inode k.volume ino).size) run

  moves : MayMove (move_of ino (size_before runs size (inode k.volume ino).size) run) k.volume
  moves = may-move ino size run runs k order may

  -- a staged block that the run has not stays where it was
  pub staged-stays : (x b : ℕ) → IsStagingFile x k.volume → has_staged x b run ≡ false → disk_at (extents l.volume x) b ≡ disk_at (extents k.volume x) b
  staged-stays x b is away = elim (cases_eq x run.staging) [
    | inl same ↦ elim (cases_Bool (is_within run.staging_block run.count b)) [
      | inl inside ↦ absurd (both_ways (has_staged x b run) away (has-staged x b run (sym same) inside))
      | inr outside ↦
          ap (λ y. disk_at (extents l.volume y) b) same
          ∙ (ap (λ es. disk_at es b) (map-left (is_free_in k) m k.volume l.volume gave.1.displaced order.whole moves gave.1.moved)
          ∙ ((let at = gave.1.moved.moves.source.blocks b in rw outside at at) ∙ ap (λ y. disk_at (extents k.volume y) b) (sym same)))
    ]
    | inr other ↦ ap (λ es. disk_at es b) (map-other (is_free_in k) m k.volume l.volume gave.1.displaced order.whole moves gave.1.moved x not_file other)
  ]
    where
      not_file : x ≢ ino
      not_file same =
          let one : (inode k.volume ino).kind ≡ File = may.file.file in
          let two : (inode k.volume ino).kind ≡ Staging = ap (λ i. (inode k.volume i).kind) (sym same) ∙ is.kind in
          let never : File ≡ Staging = sym one ∙ two in
          absurd (cc)

  pub staging-stays : (x : ℕ) → IsStagingFile x k.volume → IsStagingFile x l.volume
  staging-stays x is = record {
    below = omega (arith, is.below, count-same (is_free_in k) m k.volume l.volume gave.1.displaced order.whole moves gave.1.moved);
    kind = kind-same (is_free_in k) m k.volume l.volume gave.1.displaced order.whole moves gave.1.moved x ∙ is.kind;
  }

  pub run-stays : (other : Run) → ShareNone run other → IsStagedRun k other → IsStagedRun l other
  run-stays other apart_runs was = record {
    staging = staging-stays other.staging was.staging;
    some = was.some;
    place = was.place;
    there = λ b low high.
        subst IsSome (sym (staged-stays other.staging b was.staging (away b (within b low high)))) (was.there b low high);
    single = λ b i inside at.
        gave.2.singles i (was.single b i inside (sym (staged-stays other.staging b was.staging (away b inside)) ∙ at));
  }
    where
      within : (b : ℕ) → other.staging_block ≤ b → b < other.staging_block + other.count → is_within other.staging_block other.count b ≡ true
      within b low high = grind (arith, nat_tests, low, high)

      away : (b : ℕ) → is_within other.staging_block other.count b ≡ true → has_staged other.staging b run ≡ false
      away b inside = elim (cases_Bool (has_staged other.staging b run)) [
        | inr lacks ↦ lacks
        | inl shared ↦ absurd (both_ways (has_staged other.staging b other) (apart_runs other.staging b shared) (has-staged other.staging b other refl inside))
      ]

  -- what the file has applied is the run's order
  pub applied-then : (inode l.volume ino).applied ≡ run.order
  applied-then = ap (λ (x : Inode). x.applied) (line-file (is_free_in k) m k.volume l.volume gave.1.displaced order.whole moves gave.1.moved)

  pub size-then : (inode l.volume ino).size ≡ size_before runs size (inode k.volume ino).size
  size-then = ap (λ (x : Inode). x.size) (line-file (is_free_in k) m k.volume l.volume gave.1.displaced order.whole moves gave.1.moved)

  -- SO THE RUNS BEHIND MAY BE PUBLISHED.
  pub next-may : MayPublish ino size runs l
  next-may = record {
    file = record {
      below = omega (arith, may.file.below, count-same (is_free_in k) m k.volume l.volume gave.1.displaced order.whole moves gave.1.moved);
      file = kind-same (is_free_in k) m k.volume l.volume gave.1.displaced order.whole moves gave.1.moved ino ∙ may.file.file;
    };
    size_fits = may.size_fits;
    staged = λ n d below. run-stays (get_or runs n d) (may.apart 0 (suc n) d (omega arith) (omega arith)) (may.staged (suc n) d (omega arith));
    apart = λ i j d before below. may.apart (suc i) (suc j) d (omega arith) (omega arith);
    rising = λ i j d before below. may.rising (suc i) (suc j) d (omega arith) (omega arith);
    orders = λ n d below. (
      omega (arith, applied-then, may.rising 0 (suc n) d (omega arith) (omega arith)),
      (may.orders (suc n) d (omega arith)).1,
    );
    room = omega (
      arith,
      may.room,
      relink-takes_one m k l.volume gave.0 order unbatched moves gave.2.order.whole gave.1,
      unwaiting-counted (record { volume = k.volume; aside = []; waiting = k.waiting }) refl (order.none_waits unbatched),
      unwaiting-counted (record { volume = l.volume; aside = []; waiting = l.waiting }) refl (gave.2.order.none_waits (gave.2.batched ∙ unbatched)),
      ap reserve (geometry-same (is_free_in k) m k.volume l.volume gave.1.displaced order.whole moves gave.1.moved),
    );
  }
