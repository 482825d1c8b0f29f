-- The content of the images once all files are published: nothing is live while staging files give up their blocks and the next lap
-- begins.
use Rattle.std.proofs.Common.{◌≡◌, ◌≤◌, ◌<◌, ◌+◌, ◌^◌, ℕ, zero, suc, Bool, true, false, List, [], ◌∷◌, length, Option, Some, None, Result, Ok, Err, refl, sym, ◌∙◌, ap, subst, arith, inl, inr}
use Rattle.std.specs.Prelude.{is_some}
use Rattle.std.specs.List.{range_with_len}
use Rattle.std.specs.declared.alloc.AllocError.{AllocError}
use Rattle.file_table.specs.pm_model.declared.Cell.{Cell}
use Rattle.file_table.specs.pm_model.Frames.{SameLent}
use Rattle.file_table.specs.pm_model.ImageLaws.{Follows-then}
use Rattle.file_table.specs.pm_model.Images.{Follows, Follows-same, Follows-weaken, Then}
use Rattle.file_table.specs.pm_model.Words.{line_bytes, Words}
use Rattle.layout_model.specs.declared.lines.Draft.{Draft}
use Rattle.layout_model.specs.Entries.{decode_entry, held_seq, is_self_valid}
use Rattle.layout_model.specs.EntryLaws.{held_seq-decode_entry}
use Rattle.file_table.specs.layout_model.Journal.{journaled}
use Rattle.file_table.specs.layout_model.Places.{log_line}
use Rattle.staging_files.specs.image_model.Content.{content, found, node_of}
use Rattle.staging_files.specs.image_model.Live.{entry_in, is_live, live_entries, valid_entries}
use Rattle.staging_files.specs.image_model.Reading.{base_set}
use Rattle.staging_files.specs.image_model.Rules.{IsOfNoLater}
use Rattle.staging_files.specs.image_model.Volume.{Volume}
use Rattle.file_table.specs.Files.{Files}
use Rattle.fsync_relink.specs.Others.{GoesOn, KeepsRest}
use Rattle.staging_files.specs.k_journal.declared.outcomes.Commit.{Commit}
use Rattle.staging_files.specs.k_map_plans.Plans.{IsStagingFile}
use Rattle.staging_files.specs.k_plans.Whole.{IsWhole}
use Rattle.staging_files.specs.k_split_model.Stands.{IsOldOrNew, Stands}
use Rattle.staging_files.specs.k_split_model.View.{View}
use Rattle.staging_files.specs.k_split.Answers.{Changes}
use Rattle.staging_files.specs.k_split.Contents.{AreOwnBlocks, HasOldOrNew, HaveOldOrNew}
use Rattle.staging_files.specs.k_split.declared.faults.KFault.{KFault}
use Rattle.staging_files.specs.k_split.Laps.{HasNextLap, IsBaseAnswer, next_base}
use Rattle.staging_files.specs.k_split.Order.{IsInOrder}
use Rattle.staging_files.specs.k_split.MapChanges.{ChangesMaps, IsGiveUpAnswer, IsGivenUpWith}
use Rattle.staging_files.specs.list_laws.Filters.{filter-In, filter_map-In, range-In}
use Rattle.staging_files.specs.list_laws.Members.{In}
use Rattle.fsync_relink.proofs.log_laws_proofs.RestagedLaws.{keeps-files}
use Rattle.fsync_relink.specs.log_laws.Logs.{IsDeadIn}
use Rattle.staging_files.proofs.GiveUpLaws.{bared-volume, staging-file}
use Rattle.staging_files.specs.GivesUp.{AreGivenUp}
use Rattle.staging_files.specs.Keeps.{Staged}
use Rattle.staging_files.specs.volume_laws.Footprint.{SameLog}
use Rattle.staging_files.specs.volume_laws.FootprintLaws.{content-own, live_entries-same}
use Rattle.fsync_relink.proofs.StagingLaws.{keeps-content-given_up, restages-given_up, stays-dead}
use Rattle.fsync_relink.proofs.WorldLaws.{sane-in-order}
use Rattle.fsync_relink.specs.Images.{IsRestaged}
use Rattle.log_checkpoint.specs.Gathers.{AreAllDone, IsGatherAnswer, IsLapAnswer, MayGather}
use Rattle.log_checkpoint.specs.Logged.{KeepsLoggedContent}
use Rattle.log_checkpoint.proofs.Content.{all-logged, done-content, IsLoggedFrom, no-later-same, no-later-words, Shows, ShowsSame, up-to-content}
use Rattle.log_checkpoint.proofs.Laps.{given-on, still-next}

-- ---- nothing is live

-- no entry is live, and no line is a valid entry of a lap to come
pub record IsEnded (v : Volume) (f : Words) : Type 0 where
  pub none : (d : Draft) → In d (live_entries v f) → ⊥
  pub no_later : (slot : ℕ) → slot < v.geometry.log → IsOfNoLater v f slot

-- so it is where all lines are done
all-ended : (t : Files) (v : Volume) (f : Words) → length t.sizes ≡ length v.inodes → IsLoggedFrom (length t.sizes) t v f → IsEnded v f
all-ended t v f lines logged = record {
  none = λ d is. let from = logged.files d is in omega (arith, lines, from.0.below, from.1);
  no_later = logged.no_later;
}

ended-words : (v : Volume) (f h : Words) → SameLog v.geometry f h → IsEnded v f → IsEnded v h
ended-words v f h same ended = record {
  none = λ d is. ended.none d (subst (In d) (live_entries-same v f h same) is);
  no_later = no-later-words v f h same ended.no_later;
}

-- from v to w with nothing live; and with the same content
abbrev pub Ends : Volume → Volume → Words → Words → Type 0
Ends v w before image = IsEnded v (journaled before) → IsEnded w (journaled image) × (content v.geometry image ≡ content v.geometry before)

abbrev pub EndsSame : Volume → Words → Words → Type 0
EndsSame v before image = IsEnded v (journaled before) → content v.geometry image ≡ content v.geometry before

same-ends : (k : View) → Follows (EndsSame k.volume) k.cells k.cells
same-ends k = Follows-same (EndsSame k.volume) k.cells (λ f ended. refl)

only-same : (v w : Volume) (old new : List Cell) → Follows (Ends v w) old new → Follows (EndsSame v) old new
only-same v w old new follows = Follows-weaken (Ends v w) (EndsSame v) old new (λ before image is ended. (is ended).1) follows

-- what stays from one to the other
record Keeps (a b : View) : Type 0 where
  numbers : b.volume.geometry ≡ a.volume.geometry
  lent : SameLent a.cells b.cells

then-ends : (a b c : View) → Keeps a b → Follows (Ends a.volume b.volume) a.cells b.cells → Follows (Ends b.volume c.volume) b.cells c.cells
    → Follows (Ends a.volume c.volume) a.cells c.cells
then-ends a b c keeps first second =
    Follows-weaken (Then (Ends a.volume b.volume) (Ends b.volume c.volume)) (Ends a.volume c.volume) a.cells c.cells
    (λ before image is ended.
    let one = is.1 ended in
    let two = is.2 one.0 in
    (two.0, subst (λ g. content g image ≡ content g is.0) keeps.numbers two.1 ∙ one.1))
    (Follows-then (Ends a.volume b.volume) (Ends b.volume c.volume) a.cells b.cells c.cells (λ i lent. keeps.lent i ∙ lent) first second)

then-same-ends : (a b c : View) → Keeps a b → Follows (Ends a.volume b.volume) a.cells b.cells → Follows (EndsSame b.volume) b.cells c.cells
    → Follows (EndsSame a.volume) a.cells c.cells
then-same-ends a b c keeps first second =
    Follows-weaken (Then (Ends a.volume b.volume) (EndsSame b.volume)) (EndsSame a.volume) a.cells c.cells
    (λ before image is ended.
    let one = is.1 ended in
    subst (λ g. content g image ≡ content g is.0) keeps.numbers (is.2 one.0) ∙ one.1)
    (Follows-then (Ends a.volume b.volume) (EndsSame b.volume) a.cells b.cells c.cells (λ i lent. keeps.lent i ∙ lent) first second)

-- ---- a staging file gives up its blocks, done or cut off

module _ (x : ℕ) (k l : View) (w : Volume) (blocks : List ℕ) (on : GoesOn k) (staging : IsStagingFile x k.volume) (whole : IsWhole w) (makes : IsGivenUpWith x k w blocks)
    (changes : ChangesMaps blocks k.committed w k.cells l.cells) where
  numbers-given : w.geometry ≡ k.volume.geometry
  numbers-given = ap (λ (v : Volume). v.geometry) makes.given

  base-given : w.base ≡ k.volume.base
  base-given = ap (λ (v : Volume). v.base) makes.given

  module _ (before image : Words) (is : IsRestaged x k.volume w before image) (ended : IsEnded k.volume (journaled before)) where
    abbrev f : Words
    f = journaled before

    dead : IsDeadIn k.volume f x
    dead d there own = ended.none d there

    dead-then : IsDeadIn w f x
    dead-then = subst (λ v. IsDeadIn v f x) (sym makes.given) (stays-dead k.volume f x staging dead)

    live-then : live_entries w f ≡ live_entries k.volume f
    live-then =
        let change = restages-given_up x k w blocks staging whole (sane-in-order k on.order on.unbatched) makes in
        (keeps-files k.volume w f x change.0 change.1 dead dead-then).0

    ended-then : IsEnded w f × (content k.volume.geometry image ≡ content k.volume.geometry before)
    ended-then = (
      record {
        none = λ d there. ended.none d (subst (In d) live-then there);
        no_later = no-later-same k.volume w f numbers-given base-given ended.no_later;
      },
      is.same dead dead-then,
    )

    ended-image : IsEnded w (journaled image) × (content k.volume.geometry image ≡ content k.volume.geometry before)
    ended-image = (
      ended-words w f (journaled image) (subst (λ g. SameLog g (journaled before) (journaled image)) (sym numbers-given) is.log) ended-then.0,
      ended-then.1,
    )

  pub given-ends : Follows (Ends k.volume w) k.cells l.cells
  given-ends =
      Follows-weaken (IsRestaged x k.volume w) (Ends k.volume w) k.cells l.cells (λ before image is ended. ended-image before image is ended)
      (keeps-content-given_up x k l w blocks on.order on.unbatched staging whole makes changes)

-- some first of them do
given-keeps : (n : ℕ) (k l : View) → AreGivenUp n k l → Keeps k l
given-keeps zero k l same = subst (Keeps k) (sym same) (record { numbers = refl; lent = λ i. refl })
given-keeps (suc n) k l (middle, before, last) =
    let was = given-keeps n k middle before in
    record {
      numbers = ap (λ (v : Volume). v.geometry) last.1.given ∙ was.numbers;
      lent = λ i. last.2.changes.lent i ∙ was.lent i;
    }

number-staging : (n : ℕ) (k : View) → n < 4 → GoesOn k → IsStagingFile (suc n) k.volume
number-staging n k few on = staging-file k.volume (suc n) on.order.whole (record { least = omega arith; most = omega (arith, few) })

given-content : (n : ℕ) (k l : View) → n ≤ 4 → GoesOn k → AreGivenUp n k l → Follows (Ends k.volume l.volume) k.cells l.cells
given-content zero k l few on same =
    subst (λ (z : View). Follows (Ends k.volume z.volume) k.cells z.cells) (sym same) (Follows-same (Ends k.volume k.volume) k.cells (λ f ended. (ended, refl)))
given-content (suc n) k l few on (middle, before, last) =
    let there = given-on n k middle on before in
    then-ends k middle l (given-keeps n k middle before) (given-content n k middle (omega (arith, few)) on before)
    (given-ends (suc n) middle l l.volume last.0 there (number-staging n middle (omega (arith, few)) there) last.2.order.whole last.1 last.2.changes)

-- the next one was cut off, or the power was off before
cut-content : (n : ℕ) (k l : View) → n < 4 → GoesOn k → IsGiveUpAnswer (suc n) k l (Err KFault.PowerLost) → Follows (EndsSame k.volume) k.cells l.cells
cut-content n k l few on (inl off) = subst (λ (z : View). Follows (EndsSame k.volume) k.cells z.cells) (sym off) (same-ends k)
cut-content n k l few on (inr (w, blocks, makes, cut)) =
    only-same k.volume w k.cells l.cells (given-ends (suc n) k l w blocks on (number-staging n k few on) cut.whole makes cut.changes)

-- ---- the next lap

-- A line that is no valid entry of this lap or a later one has no entry at a number past the lap.
none-past : (bytes : List ℕ) (seq : ℕ) → seq < 2 ^ 64 → (is_self_valid bytes ≡ true → held_seq bytes < seq) → decode_entry bytes seq ≡ None
none-past bytes seq small early = by (decode_entry bytes seq) refl where
  by : (o : Option Draft) → decode_entry bytes seq ≡ o → decode_entry bytes seq ≡ None
  by None is = is
  by (Some d) is =
      let held : held_seq bytes ≡ seq = held_seq-decode_entry bytes seq d small is in
      let valid : is_self_valid bytes ≡ true = ap (λ n. is_some (decode_entry bytes n)) held ∙ ap (λ (o : Option Draft). is_some o) is in
      absurd (omega (arith, early valid, held))

no-members : (ds : List Draft) → ((d : Draft) → In d ds → ⊥) → ds ≡ []
no-members [] none = refl
no-members (d ∷ ds) none = absurd (none d (inl refl))

-- what is found does not go by the base
based : (base : ℕ) (v : Volume) (f : Words) → found (base_set base v) [] f ≡ found v [] f
unfolding found node_of
based base v f = refl

none-own : (v w : Volume) → AreOwnBlocks v w []
none-own v w = record { unused = λ k d below. absurd (omega arith); unmapped = λ ino k below. absurd (omega arith) }

module _ (old_or_new : HaveOldOrNew) (k l : View) (on : GoesOn k) (next : HasNextLap k) (w : Volume) (is : w ≡ base_set (next_base k.volume) k.volume) (whole : IsWhole w)
    (changes : Changes k.committed w k.cells l.cells) where
  abbrev v : Volume
  v = k.volume

  settled : k.committed ≡ k.volume
  settled = on.order.settled on.unbatched

  stands : Stands v.geometry v k.cells
  stands = subst (λ (y : Volume). Stands y.geometry y k.cells) settled on.order.stands

  follows : Follows (IsOldOrNew v.geometry [] v w) k.cells l.cells
  follows = subst (λ (y : Volume). Follows (IsOldOrNew y.geometry [] y w) k.cells l.cells) settled changes.each_image

  module _ (before : Words) (ended : IsEnded k.volume (journaled before)) where
    abbrev seen : Words
    seen = journaled before

    none-there : (d : Draft) → In d (live_entries (base_set (next_base k.volume) k.volume) (journaled before)) → ⊥
    none-there d there =
        let x : Volume = base_set (next_base v) v in
        let valid = filter-In (is_live x) (valid_entries x seen) d there in
        let from = filter_map-In (entry_in x seen) (range_with_len 0 v.geometry.log) d valid.0 in
        let place = range-In 0 v.geometry.log from.0 from.1 in
        let below : from.0 < v.geometry.log = omega (arith, place.1) in
        let none : entry_in x seen from.0 ≡ None =
        none-past (line_bytes seen (log_line v.geometry from.0)) (next_base v + from.0) (omega (arith, next, below, on.order.whole.kept.geometry.most_log))
        (λ valid_line. let early = ended.no_later from.0 below valid_line in omega (arith, early))
        in
        let never : None ≡ Some d = sym none ∙ from.2 in
        cc

    found-same : found w (live_entries w (journaled before)) (journaled before) ≡ found k.volume (live_entries k.volume (journaled before)) (journaled before)
    found-same =
        ap (λ (y : Volume). found y (live_entries y seen) seen) is
        ∙ (ap (λ ds. found (base_set (next_base v) v) ds seen) (no-members (live_entries (base_set (next_base v) v) seen) none-there)
        ∙ (based (next_base v) v seen ∙ ap (λ ds. found v ds seen) (sym (no-members (live_entries v seen) ended.none))))

  lap-images : Follows (EndsSame k.volume) k.cells l.cells
  lap-images image of_new =
      let from = old_or_new v.geometry [] v w k.cells l.cells stands on.order.whole.kept.kept whole.kept.kept (none-own v w) follows image of_new in
      (from.0, from.1, λ ended. by from.0 ended from.2 (content-own v.geometry v (journaled from.0) (stands.reads from.0 from.1.is_image)))
    where
      by : (before : Words) → IsEnded k.volume (journaled before) → HasOldOrNew k.volume.geometry w before image
          → content k.volume.geometry before ≡ found k.volume (live_entries k.volume (journaled before)) (journaled before)
          → content k.volume.geometry image ≡ content k.volume.geometry before
      by before ended (inl same) own = same
      by before ended (inr new) own = new ∙ (found-same before ended ∙ sym own)

lap-content : HaveOldOrNew → (k l : View) (r : Commit) → GoesOn k → HasNextLap k → IsBaseAnswer (next_base k.volume) k l r → Follows (EndsSame k.volume) k.cells l.cells
lap-content law k l Commit.Done on next (is, done) = lap-images law k l on next l.volume is done.order.whole done.changes
lap-content law k l Commit.PowerLost on next (inl off) = subst (λ (z : View). Follows (EndsSame k.volume) k.cells z.cells) (sym off) (same-ends k)
lap-content law k l Commit.PowerLost on next (inr cut) = lap-images law k l on next (base_set (next_base k.volume) k.volume) refl cut.whole cut.changes

-- ---- both

base-bared : (k bare : View) → AreGivenUp 4 k bare → next_base bare.volume ≡ next_base k.volume
base-bared k bare gave = ap next_base (bared-volume k bare gave)

behind-content : HaveOldOrNew → (k bare l : View) (r : Commit) → GoesOn k → HasNextLap k → AreGivenUp 4 k bare → IsBaseAnswer (next_base k.volume) bare l r
    → Follows (EndsSame k.volume) k.cells l.cells
behind-content law k bare l r on next gave lap =
    then-same-ends k bare l (given-keeps 4 k bare gave) (given-content 4 k bare (omega arith) on gave)
    (lap-content law bare l r (given-on 4 k bare on gave) (subst (λ n. n ≤ 2 ^ 63) (sym (base-bared k bare gave)) next)
    (subst (λ n. IsBaseAnswer n bare l r) (sym (base-bared k bare gave)) lap))

answer-content : HaveOldOrNew → (k l : View) (s : Staged) (r : Result Commit AllocError) → GoesOn k → HasNextLap k → IsLapAnswer k s l r → Follows (EndsSame k.volume) k.cells l.cells
answer-content law k l s (Ok Commit.Done) on next is = behind-content law k is.bare l Commit.Done on next is.given_up is.lap
answer-content law k l s (Ok Commit.PowerLost) on next (inl cut) =
    then-same-ends k cut.middle l (given-keeps cut.done k cut.middle cut.gave) (given-content cut.done k cut.middle (omega (arith, cut.few)) on cut.gave)
    (cut-content cut.done cut.middle l cut.few (given-on cut.done k cut.middle on cut.gave) cut.cut)
answer-content law k l s (Ok Commit.PowerLost) on next (inr (bare, gave, lap)) = behind-content law k bare l Commit.PowerLost on next gave lap
answer-content law k l s (Err e) on next some =
    only-same k.volume l.volume k.cells l.cells (given-content some.done k l (omega (arith, some.few)) on some.gave)

-- ---- a gathering

-- all files were published, and then nothing is live
all-content : HaveOldOrNew → (t u : Files) (k published l : View) (s : Staged) (r : Result Commit AllocError) → MayGather t k → GoesOn k → HasNextLap k → AreAllDone t k u published
    → IsLapAnswer published s l r → Follows (ShowsSame 0 t k.volume) k.cells l.cells
all-content law t u k published l s r may on next done lap =
    let n : ℕ = length t.sizes in
    let rest : KeepsRest k published = done.rest in
    Follows-weaken (Then (Shows 0 n t k.volume published.volume) (EndsSame published.volume)) (ShowsSame 0 t k.volume) k.cells l.cells
    (λ before image is logged.
    let one = is.1 logged in
    let ended = all-ended t published.volume (journaled is.0) (may.lines ∙ sym rest.count) one.0 in
    subst (λ g. content g image ≡ content g is.0) rest.numbers (is.2 ended) ∙ one.1)
    (Follows-then (Shows 0 n t k.volume published.volume) (EndsSame published.volume) k.cells published.cells l.cells (λ i lent. rest.lent i ∙ lent)
    (done-content t k may on n (omega arith) published done.done)
    (answer-content law published l s r rest.goes_on (still-next k published rest next) lap))

same-logged : (t : Files) (k l : View) → Follows (ShowsSame 0 t k.volume) k.cells l.cells → Follows (KeepsLoggedContent t k.volume) k.cells l.cells
same-logged t k l follows =
    Follows-weaken (ShowsSame 0 t k.volume) (KeepsLoggedContent t k.volume) k.cells l.cells (λ before image is logged. is (all-logged t k.volume (journaled before) logged)) follows

-- WHATEVER IT ANSWERED, the content is the same in every image.
pub gathered-content : HaveOldOrNew → (t u : Files) (k l : View) (s : Staged) (r : Result Commit AllocError) → MayGather t k → GoesOn k → HasNextLap k → IsGatherAnswer t k s u l r
    → Follows (KeepsLoggedContent t k.volume) k.cells l.cells
gathered-content law t u k l s (Ok Commit.Done) may on next (published, done, lap) =
    same-logged t k l (all-content law t u k published l s (Ok Commit.Done) may on next done lap)
gathered-content law t u k l s (Ok Commit.PowerLost) may on next (inl stopped) = same-logged t k l (up-to-content KFault.PowerLost t k l may on stopped)
gathered-content law t u k l s (Ok Commit.PowerLost) may on next (inr (published, done, lap)) =
    same-logged t k l (all-content law t u k published l s (Ok Commit.PowerLost) may on next done lap)
gathered-content law t u k l s (Err e) may on next (inl stopped) = same-logged t k l (up-to-content KFault.NoMemory t k l may on stopped)
gathered-content law t u k l s (Err e) may on next (inr (published, done, lap)) = same-logged t k l (all-content law t u k published l s (Err e) may on next done lap)

-- K-Split goes on where its power is on
pub goes-on : (k : View) (lost : Bool) → lost ≡ k.lost → lost ≡ false → (k.lost ≡ false → IsInOrder k) → (k.lost ≡ false → k.batched ≡ false) → GoesOn k
goes-on k lost is on order unbatched =
    let off : k.lost ≡ false = sym is ∙ on in
    record { order = order off; unbatched = unbatched off; on = off }

-- where the power was off at the call
pub same-content : (t : Files) (k : View) → Follows (KeepsLoggedContent t k.volume) k.cells k.cells
same-content t k = Follows-same (KeepsLoggedContent t k.volume) k.cells (λ f logged. refl)
