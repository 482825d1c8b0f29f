-- The runs are published once each is relinked.
use Rattle.std.proofs.Common.{◌≡◌, ◌≢◌, ◌+◌, ◌-◌, ◌==◌, ◌||◌, ℕ, suc, Bool, true, false, cond, List, [], ◌∷◌, length, Option, Some, None, Result, Ok, Err, refl, sym, ◌∙◌, ap, subst, inl, inr, arith}
use Rattle.std.specs.Prelude.{All, find, reverse, if◌then◌else◌}
use Rattle.std.specs.List.{list_any}
use Rattle.std.specs.Option.{option_map, option_or}
use Rattle.std.proofs.lemmas.List.{reverse-append}
use Rattle.std.proofs.lemmas.List.Elements.{All-head, All-tail}
use Rattle.std.proofs.lemmas.List.Folds.{find-append}
use Rattle.std.proofs.lemmas.Bool.{and_parts, both_ways, cases_Bool, eqb-true}
use Rattle.std.proofs.lemmas.Bool.Decides.{nat_tests}
use Rattle.std.specs.declared.alloc.AllocError.{AllocError}
use Rattle.k_split.specs.k_journal.declared.outcomes.Commit.{Commit}
use Rattle.log_laws.specs.image_model.Volume.{extents, inode, Volume}
use Rattle.file_overlay.specs.extent_model.Extents.{disk_at, is_within}
use Rattle.file_overlay.specs.declared.runs.Run.{Run}
use Rattle.file_overlay.specs.Runs.{has_block, Overlaid, place_in, staged_at}
use Rattle.k_split.specs.k_map_plans.Plans.{IsStagingFile, MayMove}
use Rattle.k_split.specs.k_split_model.View.{View}
use Rattle.k_split.specs.MapChanges.{is_free_in, IsRelinkAnswer}
use Rattle.k_split.specs.Order.{IsInOrder}
use Rattle.k_split.specs.k_split_model.declared.map_changes.moves.Move.{Move}
use Rattle.fsync_relink.specs.Publishes.{ArePublished, AreRelinked, has_staged, IsCarriedOut, IsPublishAnswer, IsRelinkedEach, IsResizedOnce, IsStagedRun, last_order, MayPublish, move_of, published_at, ShareNone, size_before}
use Rattle.fsync_relink.proofs.NextLaws.{applied-then, has-staged, may-move, next-may, size-then, staged-stays, staging-stays}
use Rattle.fsync_relink.proofs.RelinkLaws.{base-same, count-same, generation-same, geometry-same, kind-same, line-other, map-file, map-left, map-other, names-same}

-- ---- the last run laid

-- the last run that passes among one and those behind it
last-cons : (p : Run → Bool) (x : Run) (xs : List Run) → find p (reverse (x ∷ xs)) ≡ option_or (find p (reverse xs)) (cond (p x) (Some x) None)
last-cons p x xs = ap (find p) (reverse-append (x ∷ []) xs) ∙ find-append p (reverse xs) (x ∷ [])

-- what is found is in the list, and passes
pub last-passes : (p : Run → Bool) (P : Run → Type 0) (xs : List Run) (y : Run) → All P xs → find p (reverse xs) ≡ Some y → P y × (p y ≡ true)
last-passes p P [] y all is = cc
last-passes p P (x ∷ xs) y all found =
    by (find p (reverse xs)) (p x) refl refl (sym (last-cons p x xs) ∙ found) (last-passes p P xs y (All-tail P x xs all)) where
      by : (o : Option Run) (b : Bool) → find p (reverse xs) ≡ o → p x ≡ b → option_or (find p (reverse xs)) (cond (p x) (Some x) None) ≡ Some y
          → (find p (reverse xs) ≡ Some y → P y × (p y ≡ true)) → P y × (p y ≡ true)
      by (Some z) b is at same rest = rest cc
      by None true is at same rest = let e : x ≡ y = cc in (subst P e (All-head P x xs all), ap p (sym e) ∙ at)
      by None false is at same rest = cc

-- ---- one run, and those behind it

module _ (ino size : ℕ) (run : Run) (runs : List Run) (k m : View) (order : IsInOrder k) (unbatched : k.batched ≡ false) (may : MayPublish ino size (run ∷ runs) k)
    (gave : IsRelinkAnswer (move_of ino (size_before runs size (inode k.volume ino).size) run) k m (Ok tt)) where
  abbrev move : Move
  move = move_of ino (size_before runs size (inode k.volume ino).size) run

  moves : MayMove (move_of ino (size_before runs size (inode k.volume ino).size) run) k.volume
  moves = may-move ino size run runs k order may

  -- a staged block that the run has is in no staging file then
  pub staged-goes : (x b : ℕ) → has_staged x b run ≡ true → disk_at (extents m.volume x) b ≡ None
  staged-goes x b has =
      let both = and_parts (run.staging == x) (is_within run.staging_block run.count b) has in
      ap (λ y. disk_at (extents m.volume y) b) (sym (eqb-true run.staging x both.0))
      ∙ (ap (λ es. disk_at es b) (map-left (is_free_in k) move k.volume m.volume gave.1.displaced order.whole moves gave.1.moved)
      ∙ (let at = gave.1.moved.moves.source.blocks b in let inside = both.1 in rw inside at at))

  -- a file block that the run has gets its staged disk block, and others stay
  file-gets : (b : ℕ) → has_block b run ≡ true → disk_at (extents m.volume ino) b ≡ disk_at (extents k.volume run.staging) (run.staging_block + (b - run.file_block))
  file-gets b has =
      ap (λ es. disk_at es b) (map-file (is_free_in k) move k.volume m.volume gave.1.displaced order.whole moves gave.1.moved) ∙ (let at = gave.1.moved.moves.target b in rw has at at)

  file-stays : (b : ℕ) → has_block b run ≡ false → disk_at (extents m.volume ino) b ≡ disk_at (extents k.volume ino) b
  file-stays b away =
      ap (λ es. disk_at es b) (map-file (is_free_in k) move k.volume m.volume gave.1.displaced order.whole moves gave.1.moved) ∙ (let at = gave.1.moved.moves.target b in rw away at at)

  -- the place of a run behind it stays
  place-stays : (b : ℕ) (other : Run) → find (has_block b) (reverse runs) ≡ Some other
      → disk_at (extents m.volume (place_in b other).0) (place_in b other).1 ≡ disk_at (extents k.volume (place_in b other).0) (place_in b other).1
  place-stays b other found =
      let facts =
      last-passes (has_block b) (λ r. IsStagedRun k r × ShareNone run r) runs other
      (λ i d below. (may.staged (suc i) d (omega (arith, below)), may.apart 0 (suc i) d (omega arith) (omega (arith, below)))) found
      in
      staged-stays ino size run runs k m order unbatched may gave other.staging (other.staging_block + (b - other.file_block)) facts.0.0.staging
      (away other facts.0.1 (within b other facts.1))
    where
      within : (b : ℕ) (other : Run) → has_block b other ≡ true → is_within other.staging_block other.count (other.staging_block + (b - other.file_block)) ≡ true
      within b other has = grind (arith, nat_tests, has)

      away : (other : Run) → ShareNone run other → is_within other.staging_block other.count (other.staging_block + (b - other.file_block)) ≡ true
          → has_staged other.staging (other.staging_block + (b - other.file_block)) run ≡ false
      away other apart inside = elim (cases_Bool (has_staged other.staging (other.staging_block + (b - other.file_block)) run)) [
        | inr lacks ↦ lacks
        | inl shared ↦
            absurd (both_ways (has_staged other.staging (other.staging_block + (b - other.file_block)) other) (apart other.staging (other.staging_block + (b - other.file_block)) shared)
            (has-staged other.staging (other.staging_block + (b - other.file_block)) other refl inside))
      ]

  map-then : (b : ℕ) → published_at m.volume ino b (staged_at runs b) ≡ published_at k.volume ino b (staged_at (run ∷ runs) b)
  map-then b = by (find (has_block b) (reverse runs)) refl ∙ sym (ap (λ o. published_at k.volume ino b (option_map (place_in b) o)) (last-cons (has_block b) run runs)) where
    by : (o : Option Run) → find (has_block b) (reverse runs) ≡ o
        → published_at m.volume ino b (option_map (place_in b) (find (has_block b) (reverse runs)))
        ≡ published_at k.volume ino b (option_map (place_in b) (option_or (find (has_block b) (reverse runs)) (cond (has_block b run) (Some run) None)))
    by (Some other) found =
        ap (λ o. published_at m.volume ino b (option_map (place_in b) o)) found
        ∙ (place-stays b other found
        ∙ sym (ap (λ o. published_at k.volume ino b (option_map (place_in b) (option_or o (cond (has_block b run) (Some run) None)))) found))
    by None none =
        ap (λ o. published_at m.volume ino b (option_map (place_in b) o)) none
        ∙ (own (has_block b run) refl
        ∙ sym (ap (λ o. published_at k.volume ino b (option_map (place_in b) (option_or o (cond (has_block b run) (Some run) None)))) none))
      where
        own : (t : Bool) → has_block b run ≡ t → disk_at (extents m.volume ino) b ≡ published_at k.volume ino b (option_map (place_in b) (cond (has_block b run) (Some run) None))
        own true test = file-gets b test ∙ sym (ap (λ (c : Bool). published_at k.volume ino b (option_map (place_in b) (cond c (Some run) None))) test)
        own false test = file-stays b test ∙ sym (ap (λ (c : Bool). published_at k.volume ino b (option_map (place_in b) (cond c (Some run) None))) test)

  staged-then : (x b : ℕ) → IsStagingFile x k.volume
      → (if list_any (has_staged x b) runs then None else disk_at (extents m.volume x) b)
      ≡ (if list_any (has_staged x b) (run ∷ runs) then None else disk_at (extents k.volume x) b)
  staged-then x b is = by (has_staged x b run) refl where
    by : (t : Bool) → has_staged x b run ≡ t
        → (if list_any (has_staged x b) runs then None else disk_at (extents m.volume x) b)
        ≡ (if has_staged x b run || list_any (has_staged x b) runs then None else disk_at (extents k.volume x) b)
    by true test =
        ap (λ o. if list_any (has_staged x b) runs then None else o) (staged-goes x b test)
        ∙ (both (list_any (has_staged x b) runs) ∙ sym (ap (λ (c : Bool). if c || list_any (has_staged x b) runs then None else disk_at (extents k.volume x) b) test))
      where
        both : (c : Bool) → let none : Option ℕ = None in (if c then none else none) ≡ none
        both true = refl
        both false = refl
    by false test =
        ap (λ o. if list_any (has_staged x b) runs then None else o) (staged-stays ino size run runs k m order unbatched may gave x b is test)
        ∙ sym (ap (λ (c : Bool). if c || list_any (has_staged x b) runs then None else disk_at (extents k.volume x) b) test)

  not-staging : (i : ℕ) → ¬ IsStagingFile i k.volume → i ≢ run.staging
  not-staging i other same = other (subst (λ x. IsStagingFile x k.volume) (sym same) moves.staging)

  back-staging : (i : ℕ) → IsStagingFile i m.volume → IsStagingFile i k.volume
  back-staging i is = record {
    below = omega (arith, is.below, count-same (is_free_in k) move k.volume m.volume gave.1.displaced order.whole moves gave.1.moved);
    kind = sym (kind-same (is_free_in k) move k.volume m.volume gave.1.displaced order.whole moves gave.1.moved i) ∙ is.kind;
  }

  pub published-cons : (w : Volume) → ArePublished ino size runs m.volume w → ArePublished ino size (run ∷ runs) k.volume w
  published-cons w rest = record {
    geometry = rest.geometry ∙ geometry-same (is_free_in k) move k.volume m.volume gave.1.displaced order.whole moves gave.1.moved;
    base = rest.base ∙ base-same (is_free_in k) move k.volume m.volume gave.1.displaced order.whole moves gave.1.moved;
    names = rest.names ∙ names-same (is_free_in k) move k.volume m.volume gave.1.displaced order.whole moves gave.1.moved;
    kind = rest.kind ∙ kind-same (is_free_in k) move k.volume m.volume gave.1.displaced order.whole moves gave.1.moved ino;
    generation = rest.generation ∙ generation-same (is_free_in k) move k.volume m.volume gave.1.displaced order.whole moves gave.1.moved ino;
    size_is = rest.size_is;
    applied = rest.applied ∙ ap (λ n. last_order n runs) (applied-then ino size run runs k m order unbatched may gave);
    map = λ b. rest.map b ∙ map-then b;
    staged = λ x b is. rest.staged x b (staging-stays ino size run runs k m order unbatched may gave x is) ∙ staged-then x b is;
    generations = λ x is. rest.generations x (staging-stays ino size run runs k m order unbatched may gave x is) ∙ generation-same (is_free_in k) move k.volume m.volume gave.1.displaced order.whole moves gave.1.moved x;
    lines = λ i own other. rest.lines i own (λ is. other (back-staging i is)) ∙ line-other (is_free_in k) move k.volume m.volume gave.1.displaced order.whole moves gave.1.moved i own (not-staging i other);
    maps = λ i own other. rest.maps i own (λ is. other (back-staging i is)) ∙ map-other (is_free_in k) move k.volume m.volume gave.1.displaced order.whole moves gave.1.moved i own (not-staging i other);
  }

-- ---- all runs

none-published : (ino size : ℕ) (v : Volume) → (inode v ino).size ≡ size → ArePublished ino size [] v v
none-published ino size v is = record {
  geometry = refl;
  base = refl;
  names = refl;
  kind = refl;
  generation = refl;
  size_is = is;
  applied = refl;
  map = λ b. refl;
  staged = λ x b staging. refl;
  generations = λ x staging. refl;
  lines = λ i own other. refl;
  maps = λ i own other. refl;
}

pub are-published : (ino size : ℕ) (runs : List Run) (k l : View) → IsInOrder k → k.batched ≡ false → MayPublish ino size runs k
    → (runs ≡ [] → (inode k.volume ino).size ≡ size) → AreRelinked ino size runs k l → ArePublished ino size runs k.volume l.volume
are-published ino size [] k l order unbatched may sized same = subst (λ (y : View). ArePublished ino size [] k.volume y.volume) (sym same) (none-published ino size k.volume (sized refl))
are-published ino size (run ∷ runs) k l order unbatched may sized (m, gave, rest) =
    published-cons ino size run runs k m order unbatched may gave l.volume
    (are-published ino size runs m l gave.2.order (gave.2.batched ∙ unbatched) (next-may ino size run runs k m order unbatched may gave)
    (λ none. size-then ino size run runs k m order unbatched may gave ∙ ap (λ rs. size_before rs size (inode k.volume ino).size) none) rest)

-- ---- what is answered

pub resized-carried : (ino size : ℕ) (runs : List Run) (k l : View) (r : Result Commit AllocError) → runs ≡ [] → IsResizedOnce ino size k l r → IsCarriedOut ino size runs k l r
resized-carried ino size runs k l r none is = subst (λ rs. IsCarriedOut ino size rs k l r) (sym none) (by r is) where
  by : (r : Result Commit AllocError) → IsResizedOnce ino size k l r → IsCarriedOut ino size [] k l r
  by (Ok Commit.Done) is = is
  by (Ok Commit.PowerLost) is = is
  by (Err e) is = is

pub each-carried : (ino size : ℕ) (runs : List Run) (k l : View) (r : Result Commit AllocError) → (runs ≡ [] → ⊥) → IsInOrder k → k.batched ≡ false → MayPublish ino size runs k
    → IsRelinkedEach ino size runs k l r → IsCarriedOut ino size runs k l r
each-carried ino size [] k l r some order unbatched may is = absurd (some refl)
each-carried ino size (run ∷ runs) k l (Ok Commit.Done) some order unbatched may is =
    (are-published ino size (run ∷ runs) k l order unbatched may (λ none. absurd (some none)) is, is)
each-carried ino size (run ∷ runs) k l (Ok Commit.PowerLost) some order unbatched may is = is
each-carried ino size (run ∷ runs) k l (Err e) some order unbatched may is = is

-- from what was carried out, over the runs of an overlay
pub lost-answer : (ino size : ℕ) (o : Overlaid) (runs : List Run) (k l : View) (commit : Commit) → commit ≡ Commit.PowerLost → runs ≡ o.runs → IsCarriedOut ino size runs k l (Ok commit)
    → IsPublishAnswer ino size o k o l (Ok Commit.PowerLost)
lost-answer ino size o runs k l commit is same carried =
    (refl, inr (subst (λ rs. IsCarriedOut ino size rs k l (Ok Commit.PowerLost)) same (subst (λ x. IsCarriedOut ino size runs k l (Ok x)) is carried)))

pub failed-answer : (ino size : ℕ) (o : Overlaid) (runs : List Run) (k l : View) (e : AllocError) → runs ≡ o.runs → IsCarriedOut ino size runs k l (Err e)
    → IsPublishAnswer ino size o k o l (Err e)
failed-answer ino size o runs k l e same carried = (refl, subst (λ rs. IsCarriedOut ino size rs k l (Err e)) same carried)

pub done-answer : (ino size : ℕ) (o p : Overlaid) (runs : List Run) (k l : View) (commit : Commit) → commit ≡ Commit.Done → p.runs ≡ [] → runs ≡ o.runs
    → IsCarriedOut ino size runs k l (Ok commit) → IsPublishAnswer ino size o k p l (Ok Commit.Done)
done-answer ino size o p runs k l commit is none same carried =
    (none, subst (λ rs. IsCarriedOut ino size rs k l (Ok Commit.Done)) same (subst (λ x. IsCarriedOut ino size runs k l (Ok x)) is carried))

-- ---- no run

pub none-there : (runs : List Run) (b : Bool) → b ≡ (length runs == 0) → b ≡ true → runs ≡ []
none-there [] b test is = refl
none-there (run ∷ runs) b test is = absurd (omega (arith, eqb-true (length (run ∷ runs)) 0 (sym test ∙ is)))

pub some-there : (runs : List Run) (b : Bool) → b ≡ (length runs == 0) → b ≡ false → runs ≡ [] → ⊥
some-there [] b test is none = both_ways b is test
some-there (run ∷ runs) b test is none = cc
