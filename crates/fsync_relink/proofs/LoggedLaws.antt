-- The content of the images while runs that the log holds are relinked.
use Rattle.std.proofs.Common.{◌≡◌, ◌≢◌, ◌⊎◌, ◌≤◌, ◌<◌, ◌==◌, ◌&&◌, ℕ, zero, suc, true, false, List, [], ◌∷◌, length, Option, Some, None, Result, Ok, Err, refl, sym, ◌∙◌, ap, subst, inl, inr, arith, get_or}
use Rattle.std.specs.Prelude.{All, AllPairs, filter}
use Rattle.std.specs.Option.{option_map}
use Rattle.std.proofs.lemmas.Bool.{and_parts, both_ways, eq-eqb}
use Rattle.std.proofs.lemmas.Bool.Decides.{Decides-eqb}
use Rattle.log_laws.specs.pm_model.ImageLaws.{Follows-then}
use Rattle.log_laws.specs.pm_model.Images.{Follows, Follows-same, Follows-weaken, Then}
use Rattle.log_laws.specs.pm_model.Words.{Words}
use Rattle.log_laws.specs.layout_model.declared.lines.Draft.{Draft}
use Rattle.log_laws.specs.layout_model.declared.lines.Inode.{Inode}
use Rattle.log_laws.specs.layout_model.Journal.{journaled}
use Rattle.log_laws.specs.image_model.Content.{content, disk_by, entry_of_block, size_by, size_of}
use Rattle.log_laws.specs.image_model.Live.{latest, live_entries}
use Rattle.log_laws.specs.image_model.Volume.{inode, Volume}
use Rattle.file_overlay.specs.extent_model.Extents.{is_within}
use Rattle.file_overlay.specs.declared.runs.Run.{Run}
use Rattle.file_overlay.specs.Laws.{IsEarlier, LastIsGreatest, NoneHasBlock}
use Rattle.file_overlay.specs.Runs.{has_block, last_run, place_in}
use Rattle.k_split.specs.k_map_plans.Plans.{MayMove}
use Rattle.k_split.specs.k_plans.Whole.{IsWhole}
use Rattle.std.specs.declared.alloc.AllocError.{AllocError}
use Rattle.k_split.specs.k_journal.declared.outcomes.Commit.{Commit}
use Rattle.k_split.specs.k_split_model.Stands.{IsOldOrNew}
use Rattle.k_split.specs.k_split_model.View.{View}
use Rattle.k_split.specs.MapChanges.{ChangesMaps, is_free_in, IsMovedWith, IsRelinkAnswer}
use Rattle.k_split.specs.Order.{IsInOrder}
use Rattle.k_split.specs.declared.faults.KFault.{KFault}
use Rattle.log_laws.specs.list_laws.Filters.{filter-In, In-filter}
use Rattle.log_laws.specs.list_laws.Members.{In}
use Rattle.fsync_relink.specs.Moves.{move_for}
use Rattle.k_split.specs.k_split_model.declared.map_changes.moves.Move.{Move}
use Rattle.log_laws.specs.volume_laws.FootprintLaws.{live_entries-same}
use Rattle.log_laws.specs.volume_laws.Footprint.{SameLog}
use Rattle.log_laws.specs.world_model.Latest.{latest-In, latest-most, latest-none}
use Rattle.fsync_relink.proofs.RelinkLaws.{geometry-same, line-file}
use Rattle.fsync_relink.proofs.WorldLaws.{keeps-content}
use Rattle.log_laws.specs.Logs.{CarriesOut, IsNext}
use Rattle.fsync_relink.specs.Images.{IsCarried}
use Rattle.fsync_relink.specs.Logged.{HasSameContent, IsLogged, run_of, ShowsLogged}
use Rattle.fsync_relink.specs.Publishes.{AreRelinked, IsCarriedOut, IsPublishDone, IsPublishStopped, IsRelinkedUpTo, IsResized, MayPublish, move_of, published_at, size_before}
use Rattle.fsync_relink.proofs.NextLaws.{may-move, next-may}
use Rattle.fsync_relink.proofs.PublishedLaws.{last-passes}

-- ---- members

All-In : {X : Type 0} (P : X → Type 0) (xs : List X) (x : X) → All P xs → In x xs → P x
All-In P [] x all is = absurd is
All-In P (y ∷ ys) x all (inl same) = subst P same (all 0 y (omega arith))
All-In P (y ∷ ys) x all (inr is) = All-In P ys x (λ k d below. all (suc k) d (omega (arith, below))) is

In-get : {X : Type 0} (xs : List X) (k : ℕ) (d : X) → k < length xs → In (get_or xs k d) xs
In-get [] k d below = absurd (omega arith)
In-get (x ∷ xs) zero d below = inl refl
In-get (x ∷ xs) (suc k) d below = inr (In-get xs k d (omega (arith, below)))

order-of : (d : Draft) (run : Run) → run_of d ≡ run → d.order ≡ run.order
order-of d run same = ap (λ (r : Run). r.order) same

-- the runs behind the first one come later
behind : (run : Run) (runs : List Run) (r : Run) → AllPairs IsEarlier (run ∷ runs) → In r runs → run.order < r.order
behind run runs r rising is = All-In (λ x. run.order < x.order) runs r (λ k d below. rising 0 (suc k) d (omega arith) (omega (arith, below))) is

-- ---- the first run

module _ (ino size : ℕ) (run : Run) (runs : List Run) (v w : Volume) (live : List Draft) (rising : AllPairs IsEarlier (run ∷ runs)) (logged : IsLogged ino size (run ∷ runs) v live)
    (sized : (inode w ino).size ≡ size_before runs size (inode v ino).size) where
  first-entry : (d : Draft) × In d live × (d.ino ≡ ino) × (run_of d ≡ run)
  first-entry = (logged.runs_are run).0 (inl refl)

  -- an entry of the file that is not the first one's has a run behind
  other-behind : (d e : Draft) → In d live → d.ino ≡ ino → run_of d ≡ run → In e live → e.ino ≡ ino → (d ≡ e) ⊎ In (run_of e) runs
  other-behind d e d_is d_own d_run e_is e_own = elim ((logged.runs_are (run_of e)).1 (e, e_is, e_own, refl)) [
    | inl same ↦ inl (logged.sound.orders d e d_is e_is (d_own ∙ sym e_own) (order-of d run d_run ∙ ap (λ (r : Run). r.order) same))
    | inr later ↦ inr later
  ]

  first-next : (d : Draft) → In d live → d.ino ≡ ino → run_of d ≡ run → IsNext w live d
  first-next d d_is d_own d_run = record {
    there = d_is;
    first = λ e e_is same. elim (other-behind d e d_is d_own d_run e_is (same ∙ d_own)) [
      | inl it ↦ inl it
      | inr later ↦ inr (omega (arith, order-of d run d_run, behind run runs (run_of e) rising later))
    ];
    size = λ alone. ap (λ i. (inode w i).size) d_own ∙ (sized ∙ by runs refl alone);
  }
    where
      -- the size of the file is that of its only entry
      only : ((e : Draft) → In e live → e.ino ≡ d.ino → d ≡ e) → size ≡ d.size
      only alone = sym logged.size_is ∙ latest_is (latest (filter (λ (e : Draft). e.ino == ino) live)) refl where
        latest_is : (o : Option Draft) → latest (filter (λ (e : Draft). e.ino == ino) live) ≡ o → size_of v live ino ≡ d.size
        latest_is None none =
            absurd (latest-none (filter (λ (e : Draft). e.ino == ino) live) d none (In-filter (λ (e : Draft). e.ino == ino) live d d_is (eq-eqb d.ino ino d_own)))
        latest_is (Some e) is =
            let its = filter-In (λ (x : Draft). x.ino == ino) live e (latest-In _ e is) in
            ap (λ o. size_by o (inode v ino).size) is
            ∙ ap (λ (x : Draft). x.size) (sym (alone e its.0 ((Decides-eqb e.ino ino).0 its.1 ∙ sym d_own)))

      by : (rs : List Run) → runs ≡ rs → ((e : Draft) → In e live → e.ino ≡ d.ino → d ≡ e) → size_before rs size (inode v ino).size ≡ d.size
      by [] none alone = only alone
      by (r ∷ rs) are alone =
          let there : In r runs = subst (In r) (sym are) (inl refl) in
          let from = (logged.runs_are r).0 (inr there) in
          let same : d ≡ from.0 = alone from.0 from.1 (from.2 ∙ sym d_own) in
          let later = behind run runs r rising there in
          absurd (omega (arith, later, order-of d run d_run, ap (λ (x : Draft). x.order) same, order-of from.0 r from.3))

  -- what is left then is what the log holds of the runs behind
  left-logged : (f : Words) (d : Draft) → live ≡ live_entries v f → In d live → d.ino ≡ ino → run_of d ≡ run → CarriesOut v w f d
      → size_of w (live_entries w f) ino ≡ size_of v (live_entries v f) ino → IsLogged ino size runs w (live_entries w f)
  left-logged f d are d_is d_own d_run out sizes = record {
    runs_are = λ r. (
      λ is.
          let from = (logged.runs_are r).0 (inr is) in
          let other : d ≢ from.0 = λ same. later_differs (behind run runs r rising is) (sym (order-of d run d_run) ∙ (ap (λ (x : Draft). x.order) same ∙ order-of from.0 r from.3)) in
          (from.0, (out.left from.0).1 (subst (In from.0) are from.1, other), from.2, from.3),
      λ from.
          let was = (out.left from.0).0 from.1 in
          let was_live : In from.0 live = subst (In from.0) (sym are) was.0 in
          elim ((logged.runs_are r).1 (from.0, was_live, from.2, from.3)) [
            | inl same ↦ absurd (was.1 (logged.sound.orders d from.0 d_is was_live (d_own ∙ sym from.2) (order-of d run d_run ∙ (ap (λ (x : Run). x.order) same ∙ sym (order-of from.0 r from.3)))))
            | inr later ↦ later
          ],
    );
    size_is = sizes ∙ (ap (λ ds. size_of v ds ino) (sym are) ∙ logged.size_is);
    sound = out.sound;
  }
    where
      later_differs : {a b : ℕ} → a < b → a ≡ b → ⊥
      later_differs low same = omega (arith, low, same)

-- ---- the images of one relink

-- the move of a run is that of each entry that the run is of
carries : (ino length : ℕ) (run : Run) (d : Draft) → d.ino ≡ ino → run_of d ≡ run → move_of ino length run ≡ move_for d length
carries ino length run d own same = λ i. move_of (sym own i) length (sym same i)

module _ (ino size : ℕ) (run : Run) (runs : List Run) (k l : View) (w : Volume) (blocks : List ℕ) (order : IsInOrder k) (unbatched : k.batched ≡ false) (may : MayPublish ino size (run ∷ runs) k)
    (whole : IsWhole w) (moved : IsMovedWith (move_of ino (size_before runs size (inode k.volume ino).size) run) k w blocks) (changes : ChangesMaps blocks k.committed w k.cells l.cells) where
  abbrev m : Move
  m = move_of ino (size_before runs size (inode k.volume ino).size) run

  moves : MayMove (move_of ino (size_before runs size (inode k.volume ino).size) run) k.volume
  moves = may-move ino size run runs k order may

  sized-then : (inode w ino).size ≡ size_before runs size (inode k.volume ino).size
  sized-then = ap (λ (x : Inode). x.size) (line-file (is_free_in k) m k.volume w moved.displaced order.whole moves moved.moved)

  pub relinked-images : Follows (IsCarried (move_of ino (size_before runs size (inode k.volume ino).size) run) k.volume w) k.cells l.cells
  relinked-images = keeps-content m k l w blocks order unbatched moves whole moved changes

  -- of a first run that the log holds: carried out, and the content is the same
  carried-first : (before image : Words) → IsCarried m k.volume w before image → IsLogged ino size (run ∷ runs) k.volume (live_entries k.volume (journaled before))
      → IsLogged ino size runs w (live_entries w (journaled before)) × (content k.volume.geometry image ≡ content k.volume.geometry before)
  carried-first before image is logged =
      let live = live_entries k.volume (journaled before) in
      let d = first-entry ino size run runs k.volume w live may.rising logged sized-then in
      let next = first-next ino size run runs k.volume w live may.rising logged sized-then d.0 d.1 d.2 d.3 in
      let same = carries ino (size_before runs size (inode k.volume ino).size) run d.0 d.2 d.3 in
      let out = is.carried d.0 same logged.sound next in (
        left-logged ino size run runs k.volume w live may.rising logged sized-then (journaled before) d.0 refl d.1 d.2 d.3 out (out.files.size ino may.file.file),
        is.same d.0 same logged.sound next,
      )

  -- its entry, what the log holds then, and the content
  pub carried-entry : (before image : Words) → IsCarried (move_of ino (size_before runs size (inode k.volume ino).size) run) k.volume w before image
      → IsLogged ino size (run ∷ runs) k.volume (live_entries k.volume (journaled before))
      → (d : Draft) × ((d.ino ≡ ino) × CarriesOut k.volume w (journaled before) d) × IsLogged ino size runs w (live_entries w (journaled before))
      × (content k.volume.geometry image ≡ content k.volume.geometry before)
  carried-entry before image is logged =
      let live = live_entries k.volume (journaled before) in
      let d = first-entry ino size run runs k.volume w live may.rising logged sized-then in
      let next = first-next ino size run runs k.volume w live may.rising logged sized-then d.0 d.1 d.2 d.3 in
      let same = carries ino (size_before runs size (inode k.volume ino).size) run d.0 d.2 d.3 in
      let first = carried-first before image is logged in
      (d.0, (d.2, is.carried d.0 same logged.sound next), first.0, first.1)

  -- a relink that is done or cut off, of the first run
  pub first-images : Follows (HasSameContent ino size (run ∷ runs) k.volume) k.cells l.cells
  first-images =
      Follows-weaken (IsCarried m k.volume w) (HasSameContent ino size (run ∷ runs) k.volume) k.cells l.cells (λ before image is logged. (carried-first before image is logged).1) relinked-images

  -- and the runs behind
  pub then-images : (z : View) → Follows (HasSameContent ino size runs w) l.cells z.cells → Follows (HasSameContent ino size (run ∷ runs) k.volume) k.cells z.cells
  then-images z rest =
      Follows-weaken (Then (IsCarried m k.volume w) (HasSameContent ino size runs w)) (HasSameContent ino size (run ∷ runs) k.volume) k.cells z.cells (λ before image is logged.
      let first = carried-first before is.0 is.1 logged in
      let log : SameLog w.geometry (journaled before) (journaled is.0) = subst (λ g. SameLog g (journaled before) (journaled is.0)) (sym geometry) is.1.log in
      let second : content w.geometry image ≡ content w.geometry is.0 = is.2 (subst (IsLogged ino size runs w) (sym (live_entries-same w (journaled before) (journaled is.0) log)) first.0) in
      subst (λ g. content g image ≡ content g is.0) geometry second ∙ first.1)
      (Follows-then (IsCarried m k.volume w) (HasSameContent ino size runs w) k.cells l.cells z.cells (λ i lent. changes.lent i ∙ lent) relinked-images rest)
    where
      geometry : w.geometry ≡ k.volume.geometry
      geometry = geometry-same (is_free_in k) m k.volume w moved.displaced order.whole moves moved.moved

-- ---- all runs

same-images : (ino size : ℕ) (runs : List Run) (v : Volume) (k l : View) → l.cells ≡ k.cells → Follows (HasSameContent ino size runs v) k.cells l.cells
same-images ino size runs v k l same =
    subst (λ d. Follows (HasSameContent ino size runs v) k.cells d) (sym same) (Follows-same (HasSameContent ino size runs v) k.cells (λ f logged. refl))

pub done-images : (ino size : ℕ) (runs : List Run) (k l : View) → IsInOrder k → k.batched ≡ false → MayPublish ino size runs k → AreRelinked ino size runs k l
    → Follows (HasSameContent ino size runs k.volume) k.cells l.cells
done-images ino size [] k l order unbatched may same = same-images ino size [] k.volume k l (ap (λ (x : View). x.cells) same)
done-images ino size (run ∷ runs) k l order unbatched may (m, gave, rest) =
    then-images ino size run runs k m m.volume gave.0 order unbatched may gave.2.order.whole gave.1 gave.2.changes l
    (done-images ino size runs m l gave.2.order (gave.2.batched ∙ unbatched) (next-may ino size run runs k m order unbatched may gave) rest)

-- a relink that was cut off, or not made where memory runs out
stopped-first : (ino size : ℕ) (run : Run) (runs : List Run) (k l : View) (fault : KFault) → IsInOrder k → k.batched ≡ false → MayPublish ino size (run ∷ runs) k
    → IsRelinkAnswer (move_of ino (size_before runs size (inode k.volume ino).size) run) k l (Err fault) → Follows (HasSameContent ino size (run ∷ runs) k.volume) k.cells l.cells
stopped-first ino size run runs k l (KFault.Refused errno) order unbatched may answer = absurd answer
stopped-first ino size run runs k l (KFault.Room room) order unbatched may answer = absurd answer
stopped-first ino size run runs k l KFault.NoMemory order unbatched may answer = same-images ino size (run ∷ runs) k.volume k l (ap (λ (x : View). x.cells) answer)
stopped-first ino size run runs k l KFault.PowerLost order unbatched may (inl off) = same-images ino size (run ∷ runs) k.volume k l (ap (λ (x : View). x.cells) off)
stopped-first ino size run runs k l KFault.PowerLost order unbatched may (inr (w, blocks, moved, cut)) =
    first-images ino size run runs k l w blocks order unbatched may cut.whole moved cut.changes

pub stopped-images : (fault : KFault) (ino size : ℕ) (runs : List Run) (k l : View) → IsInOrder k → k.batched ≡ false → MayPublish ino size runs k → IsRelinkedUpTo fault ino size runs k l
    → Follows (HasSameContent ino size runs k.volume) k.cells l.cells
stopped-images fault ino size [] k l order unbatched may never = absurd never
stopped-images fault ino size (run ∷ runs) k l order unbatched may (inl answer) = stopped-first ino size run runs k l fault order unbatched may answer
stopped-images fault ino size (run ∷ runs) k l order unbatched may (inr (m, gave, rest)) =
    then-images ino size run runs k m m.volume gave.0 order unbatched may gave.2.order.whole gave.1 gave.2.changes l
    (stopped-images fault ino size runs m l gave.2.order (gave.2.batched ∙ unbatched) (next-may ino size run runs k m order unbatched may gave) rest)

-- ---- the length alone

-- where the log holds no run of the file, its length is the size
pub no-runs : (ino size : ℕ) (v : Volume) (live : List Draft) → IsLogged ino size [] v live → (inode v ino).size ≡ size
no-runs ino size v live logged = by (latest (filter (λ (e : Draft). e.ino == ino) live)) refl where
  by : (o : Option Draft) → latest (filter (λ (e : Draft). e.ino == ino) live) ≡ o → (inode v ino).size ≡ size
  by None is = sym (ap (λ o. size_by o (inode v ino).size) is) ∙ logged.size_is
  by (Some e) is =
      let its = filter-In (λ (x : Draft). x.ino == ino) live e (latest-In _ e is) in
      absurd ((logged.runs_are (run_of e)).1 (e, its.0, (Decides-eqb e.ino ino).0 its.1, refl))

-- So no image of a change to another length is one of a log that holds no run.
changed-images : (ino size : ℕ) (k l : View) (w : Volume) (blocks : List ℕ) → ((inode k.volume ino).size ≢ size) → ChangesMaps blocks k.committed w k.cells l.cells
    → Follows (HasSameContent ino size [] k.volume) k.cells l.cells
changed-images ino size k l w blocks other changes =
    Follows-weaken (IsOldOrNew k.committed.geometry blocks k.committed w) (HasSameContent ino size [] k.volume) k.cells l.cells
    (λ before image is logged. absurd (other (no-runs ino size k.volume (live_entries k.volume (journaled before)) logged))) changes.each_image

resized-images : (ino size : ℕ) (k l : View) (r : Result (Unit {0}) KFault) → IsResized ino size k l r → Follows (HasSameContent ino size [] k.volume) k.cells l.cells
resized-images ino size k l (Ok done) (other, (blocks, sized, is)) = changed-images ino size k l l.volume blocks other is.changes
resized-images ino size k l (Err (KFault.Refused errno)) (other, answer) = absurd answer
resized-images ino size k l (Err (KFault.Room room)) (other, answer) = absurd answer
resized-images ino size k l (Err KFault.NoMemory) (other, answer) = same-images ino size [] k.volume k l (ap (λ (x : View). x.cells) answer)
resized-images ino size k l (Err KFault.PowerLost) (other, inl off) = same-images ino size [] k.volume k l (ap (λ (x : View). x.cells) off)
resized-images ino size k l (Err KFault.PowerLost) (other, inr (w, blocks, sized, cut)) = changed-images ino size k l w blocks other cut.changes

-- ---- a publishing

published-images : (ino size : ℕ) (runs : List Run) (k l : View) → IsInOrder k → k.batched ≡ false → MayPublish ino size runs k → IsPublishDone ino size runs k l
    → Follows (HasSameContent ino size runs k.volume) k.cells l.cells
published-images ino size [] k l order unbatched may (inl same) = same-images ino size [] k.volume k l (ap (λ (x : View). x.cells) same.1)
published-images ino size [] k l order unbatched may (inr resized) = resized-images ino size k l (Ok tt) resized
published-images ino size (run ∷ runs) k l order unbatched may done = done-images ino size (run ∷ runs) k l order unbatched may done.1

pub halted-images : (fault : KFault) (ino size : ℕ) (runs : List Run) (k l : View) → IsInOrder k → k.batched ≡ false → MayPublish ino size runs k → IsPublishStopped fault ino size runs k l
    → Follows (HasSameContent ino size runs k.volume) k.cells l.cells
halted-images fault ino size [] k l order unbatched may stopped = resized-images ino size k l (Err fault) stopped
halted-images fault ino size (run ∷ runs) k l order unbatched may stopped = stopped-images fault ino size (run ∷ runs) k l order unbatched may stopped

pub carried-images : (ino size : ℕ) (runs : List Run) (k l : View) (r : Result Commit AllocError) → IsInOrder k → k.batched ≡ false → MayPublish ino size runs k → IsCarriedOut ino size runs k l r
    → Follows (HasSameContent ino size runs k.volume) k.cells l.cells
carried-images ino size runs k l (Ok Commit.Done) order unbatched may is = published-images ino size runs k l order unbatched may is
carried-images ino size runs k l (Ok Commit.PowerLost) order unbatched may is = halted-images KFault.PowerLost ino size runs k l order unbatched may is
carried-images ino size runs k l (Err e) order unbatched may is = halted-images KFault.NoMemory ino size runs k l order unbatched may is

-- ---- what the overlay shows

pub shows-logged : LastIsGreatest → NoneHasBlock → ShowsLogged
shows-logged greatest none ino size runs v live rising logged block = by (last_run runs block) (entry_of_block live ino block) refl refl where
  entry-parts : (d : Draft) → entry_of_block live ino block ≡ Some d → In d live × (d.ino ≡ ino) × (has_block block (run_of d) ≡ true)
  entry-parts d is =
      let its = filter-In (λ (x : Draft). (x.ino == ino) && is_within x.file_block x.count block) live d (latest-In _ d is) in
      let both = and_parts (d.ino == ino) (is_within d.file_block d.count block) its.1 in
      (its.0, (Decides-eqb d.ino ino).0 both.0, both.1)

  into : (d : Draft) → In d live → d.ino ≡ ino → has_block block (run_of d) ≡ true → In d (filter (λ (x : Draft). (x.ino == ino) && is_within x.file_block x.count block) live)
  into d is own has = In-filter (λ (x : Draft). (x.ino == ino) && is_within x.file_block x.count block) live d is (λ i. eq-eqb d.ino ino own i && has i)

  found-run : (r : Run) → last_run runs block ≡ Some r → In r runs
  found-run r is = (last-passes (has_block block) (λ x. In x runs) runs r (λ k d below. In-get runs k d below) is).0

  by : (o : Option Run) (q : Option Draft) → last_run runs block ≡ o → entry_of_block live ino block ≡ q
      → published_at v ino block (option_map (place_in block) (last_run runs block)) ≡ disk_by v (entry_of_block live ino block) ino block
  by None None run entry =
      ap (λ o. published_at v ino block (option_map (place_in block) o)) run ∙ ap (λ q. disk_by v q ino block) (sym entry)
  by None (Some d) run entry =
      let its = entry-parts d entry in
      absurd (both_ways (has_block block (run_of d)) (All-In (λ r. has_block block r ≡ false) runs (run_of d) (none runs block run) ((logged.runs_are (run_of d)).1 (d, its.0, its.1, refl))) its.2)
  by (Some r) None run entry =
      let from = (logged.runs_are r).0 (found-run r run) in
      let has : has_block block (run_of from.0) ≡ true = ap (has_block block) from.3 ∙ (greatest runs block r rising run).0 in
      absurd (latest-none (filter (λ (x : Draft). (x.ino == ino) && is_within x.file_block x.count block) live) from.0 entry (into from.0 from.1 from.2 has))
  by (Some r) (Some d) run entry =
      let from = (logged.runs_are r).0 (found-run r run) in
      let its = entry-parts d entry in
      let great = greatest runs block r rising run in
      let has : has_block block (run_of from.0) ≡ true = ap (has_block block) from.3 ∙ great.0 in
      let most : from.0.order ≤ d.order = latest-most (filter (λ (x : Draft). (x.ino == ino) && is_within x.file_block x.count block) live) d from.0 entry (into from.0 from.1 from.2 has) in
      let back : d.order ≤ r.order = All-In (λ other. has_block block other ≡ true → other.order ≤ r.order) runs (run_of d) great.1 ((logged.runs_are (run_of d)).1 (d, its.0, its.1, refl)) its.2 in
      let same : from.0 ≡ d = logged.sound.orders from.0 d from.1 its.0 (from.2 ∙ sym its.1) (omega (arith, most, back, order-of from.0 r from.3)) in
      ap (λ o. published_at v ino block (option_map (place_in block) o)) run
      ∙ (ap (λ x. published_at v ino block (Some (place_in block x))) (sym from.3 ∙ ap run_of same) ∙ ap (λ q. disk_by v q ino block) (sym entry))
