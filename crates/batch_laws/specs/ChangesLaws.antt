-- A change of names that gathers: the device goes on.
use Rattle.std.specs.Prelude.{◌≡◌, ◌≢◌, ◌⊎◌, ◌≤◌, ◌<◌, ◌+◌, ◌/◌, ◌==◌, ◌&&◌, ◌||◌, ℕ, zero, suc, Bool, true, false, List, [], ◌∷◌, ◌++◌, length, map, filter, nat_lt, Option, Some, None, IsSome, if◌then◌else◌, refl}
use Rattle.std.specs.List.{flat_map, range_with_len}
use Rattle.std.proofs.Common.{arith, ap, append_assoc, ◌∙◌, sym, subst, inl, inr}
use Rattle.std.proofs.lemmas.Bool.{cases_eq, eq-eqb, false_from_ne_true, ne_eqb}
use Rattle.std.proofs.lemmas.List.Elements.{filter-append}
use Rattle.eof_laws.specs.live_model.pm_model.ImageLaws.{IsImage-words_of}
use Rattle.eof_laws.specs.live_model.pm_model.Images.{IsImage, words_of}
use Rattle.eof_laws.specs.live_model.pm_model.Words.{Words}
use Rattle.eof_laws.specs.live_model.extent_model.Extents.{disk_at, is_within}
use Rattle.eof_laws.specs.live_model.extent_model.declared.extent_words.Extent.{Extent}
use Rattle.eof_laws.specs.live_model.layout_model.Journal.{journaled}
use Rattle.eof_laws.specs.live_model.layout_model.Places.{Geometry, log_line, reserve}
use Rattle.eof_laws.specs.live_model.layout_model.declared.lines.Draft.{Draft}
use Rattle.eof_laws.specs.live_model.layout_model.declared.lines.Inode.{Inode}
use Rattle.eof_laws.specs.live_model.layout_model.declared.lines.Kind.TheVariants.{File, Staging}
use Rattle.eof_laws.specs.live_model.image_model.Content.{disk_of, entry_of_block}
use Rattle.eof_laws.specs.live_model.image_model.Live.{is_file, is_live, latest}
use Rattle.eof_laws.specs.live_model.image_model.Placed.{block_at}
use Rattle.eof_laws.specs.live_model.image_model.Room.{unused_blocks}
use Rattle.eof_laws.specs.live_model.image_model.Volume.{chain, extents, inode, Volume}
use Rattle.eof_laws.specs.live_model.file_overlay.declared.runs.Run.{Run}
use Rattle.eof_laws.specs.live_model.file_table.Files.{Files, runs_in, size_in}
use Rattle.eof_laws.specs.live_model.k_split.Order.{IsInOrder}
use Rattle.eof_laws.specs.live_model.k_split_model.View.{View}
use Rattle.eof_laws.specs.live_model.list_laws.Filters.{filter-agree, filter-both, filter-In, In-filter, In-map, map-In}
use Rattle.eof_laws.specs.live_model.list_laws.Members.{In}
use Rattle.eof_laws.specs.live_model.commute_laws.posix_types.declared.item.Item.{Item}
use Rattle.eof_laws.specs.live_model.posix_spec.Run.{after_call, after_calls, begun, run, run-append, Unfinished}
use Rattle.eof_laws.specs.live_model.posix_spec.State.{State}
use Rattle.eof_laws.specs.live_model.posix_laws.Cuts.{cut_of}
use Rattle.eof_laws.specs.live_model.posix_laws.Lasting.{step_lasts}
use Rattle.eof_laws.specs.live_model.posix_laws.PublishLaws.{publishing_kept}
use Rattle.eof_laws.specs.live_model.posix_laws.Publishes.{PathsLeadToNodes}
use Rattle.eof_laws.specs.live_model.posix_laws.Shortens.{shortens}
use Rattle.eof_laws.specs.live_model.crash_spec.Values.{is_shortened, value_put}
use Rattle.eof_laws.specs.live_model.world_model.JobLaws.{live_file}
use Rattle.eof_laws.specs.live_model.world_model.Jobs.{live_claims}
use Rattle.eof_laws.specs.live_model.world_model.Stands.{entries_of, is_used, IsUsed, number, Stands}
use Rattle.eof_laws.specs.live_model.world_step_laws.Ages.{AreAged}
use Rattle.eof_laws.specs.live_model.world_step_laws.Counts.{HasShape}
use Rattle.eof_laws.specs.live_model.world_step_laws.Worlds.{IsWorld}
use Rattle.eof_laws.specs.live_model.Flying.{IsOut}
use Rattle.posix_mode_laws.specs.Batch.{IsBatch}
use Rattle.posix_mode_laws.specs.BatchSteps.{after_is_run, begun_more, run_both, shortened_more}
use Rattle.posix_mode_laws.specs.ClaimsLaws.{generation_sized, live_sized}
use Rattle.posix_mode_laws.specs.Leading.{paths_lead}
use Rattle.posix_mode_laws.specs.Sides.{IsSettled, KeepsCutBytes, Sides, sized}
use Rattle.posix_mode_laws.specs.Sized.{kind-sized, length-with_sizes}
use Rattle.batch_laws.specs.Goings.{ComesFrom, IsLeftGoing}
use Rattle.batch_laws.specs.GoingsLaws.{going_goes_on}
use Rattle.batch_laws.specs.Standing.{as_claims, draft_of_run, PosixGoing, sides_of, staged_of}
use Rattle.batch_laws.specs.Steps.{IsOfStaging, TakesBlocks}
use Rattle.batch_laws.specs.StepsLaws.{blocks_stay, worlds_make_batch}
use Rattle.batch_laws.specs.WorldsLaws.{cut_is_world, live_all, live_is_world}
use Rattle.k_split_laws.specs.Going.{IsStep}
use Rattle.batch_laws.specs.Changes.{ChangeGoesOn, IsGathered, LeavesKept, PutsNone, TakesNone}
use Rattle.batch_laws.specs.Ready.{GoesReady}

-- ---- lists

-- an inode is the one that is touched, or is not
pub touched_or_not : (touched : Option ℕ) (ino : ℕ) → (touched ≡ Some ino) ⊎ (touched ≢ Some ino)
touched_or_not None ino = inr (λ never. cc)
touched_or_not (Some t) ino = elim (cases_eq t ino) [
  | inl same ↦ inl (ap Some same)
  | inr apart ↦ inr (λ is. apart (same_some t ino is))
] where
  same_some : (a b : ℕ) → Some a ≡ Some b → a ≡ b
  same_some a b is = cc

-- a filter of lists one behind the other, each of which it makes another
filter_flat : (p : Draft → Bool) (f h : ℕ → List Draft) (a n : ℕ) → ((ino : ℕ) → a ≤ ino → ino < a + n → filter p (f ino) ≡ h ino) → filter p (flat_map f (range_with_len a n)) ≡ flat_map h (range_with_len a n)
filter_flat p f h a zero each = refl
filter_flat p f h a (suc n) each =
    filter-append p (f a) (flat_map f (range_with_len (a + 1) n))
    ∙ (ap (λ xs. xs ++ filter p (flat_map f (range_with_len (a + 1) n))) (each a (omega arith) (omega arith))
    ∙ ap (λ ys. h a ++ ys) (filter_flat p f h (a + 1) n (λ ino low high. each ino (omega (arith, low)) (omega (arith, high)))))

in_front : (xs ys : List Draft) (d : Draft) → In d xs → In d (xs ++ ys)
in_front [] ys d is = absurd is
in_front (x ∷ xs) ys d (inl same) = inl same
in_front (x ∷ xs) ys d (inr behind) = inr (in_front xs ys d behind)

in_behind : (xs ys : List Draft) (d : Draft) → In d ys → In d (xs ++ ys)
in_behind [] ys d is = is
in_behind (x ∷ xs) ys d is = inr (in_behind xs ys d is)

pub in_flat : (f : ℕ → List Draft) (a n ino : ℕ) (d : Draft) → a ≤ ino → ino < a + n → In d (f ino) → In d (flat_map f (range_with_len a n))
in_flat f a zero ino d low high is = absurd (omega (arith, low, high))
in_flat f a (suc n) ino d low high is = elim (cases_eq a ino) [
  | inl same ↦ in_front (f a) (flat_map f (range_with_len (a + 1) n)) d (subst (λ i. In d (f i)) (sym same) is)
  | inr apart ↦ in_behind (f a) (flat_map f (range_with_len (a + 1) n)) d (in_flat f (a + 1) n ino d (omega (arith, low, apart)) (omega (arith, high)) is)
]

filter_none : (p : Draft → Bool) (ds : List Draft) → ((d : Draft) → In d ds → p d ≡ false) → filter p ds ≡ []
filter_none p [] none = refl
filter_none p (d ∷ ds) none = ap (λ (b : Bool). if b then (d ∷ filter p ds) else filter p ds) (none d (inl refl)) ∙ filter_none p ds (λ e is. none e (inr is))

filter_short : (p : Draft → Bool) (ds : List Draft) → length (filter p ds) ≤ length ds
filter_short p [] = omega arith
filter_short p (d ∷ ds) = by (p d) (filter_short p ds) where
  by : (b : Bool) → length (filter p ds) ≤ length ds → length (if b then (d ∷ filter p ds) else filter p ds) ≤ suc (length ds)
  by true rest = omega (arith, rest)
  by false rest = omega (arith, rest)

-- entries as claims
pub entries_again : (ds : List Draft) → map (λ (c : ℕ × Draft). c.1) (as_claims ds) ≡ ds
entries_again [] = refl
entries_again (d ∷ ds) = ap (λ es. d ∷ es) (entries_again ds)

claim_of : (ds : List Draft) (slot : ℕ) (d : Draft) → In (slot, d) (as_claims ds) → (slot ≡ 0) × In d ds
claim_of [] slot d is = absurd is
claim_of (e ∷ ds) slot d (inl same) = (sym (ap (λ (c : ℕ × Draft). c.0) same), inl (ap (λ (c : ℕ × Draft). c.1) same))
claim_of (e ∷ ds) slot d (inr behind) = let rest = claim_of ds slot d behind in (rest.0, inr rest.1)

live_same : (v w : Volume) (d : Draft) → inode w d.ino ≡ inode v d.ino → inode w d.staging ≡ inode v d.staging → is_live w d ≡ is_live v d
live_same v w d own staging =
    λ i. is_file (own i).kind && ((own i).generation == d.generation) && nat_lt (own i).applied d.order && ((staging i).generation == d.staging_generation)

-- a World by fewer claims, of which the same are live
pub world_of_fewer : (v : Volume) (ds es : List Draft) (f : Words) (numbers : List ℕ) (s : State) (count : ℕ) → IsWorld v (as_claims ds) [] f numbers s count → live_claims v (as_claims ds) ≡ es
    → ((d : Draft) → In d es → In d ds × (is_live v d ≡ true)) → live_claims v (as_claims es) ≡ es → IsWorld v (as_claims es) [] f numbers s count
world_of_fewer v ds es f numbers s count world live fewer again = record {
  valid = record { stands = subst (λ xs. Stands v xs f numbers s) (live ∙ sym again) world.valid.stands; out = tt; fits = world.valid.fits; room = world.valid.room };
  claims_stand = record {
    orders = λ a b d e first second other d_file e_file one. absurd (other ((claim_of es a d first).0 ∙ sym (claim_of es b e second).0));
    settled = λ slot d is file. inr (fewer d (claim_of es slot d is).1).1;
  };
  aged = record {
    small = world.aged.small;
    staging = λ d is. world.aged.staging d (back d is);
    own = λ d is. world.aged.own d (back d is);
    taken = λ d is. world.aged.taken d (back d is);
  };
  shape = world.shape;
  geometry = world.geometry;
} where
  back : (d : Draft) → In d (map (λ (c : ℕ × Draft). c.1) (as_claims es)) → In d (map (λ (c : ℕ × Draft). c.1) (as_claims ds))
  back d is = subst (In d) (sym (entries_again ds)) (fewer d (subst (In d) (entries_again es) is)).0

-- a block that a hole does not have
no_block : (es : List Extent) (block b : ℕ) → es ≡ [] → disk_at es block ≡ Some b → ⊥
no_block es block b none is = let never : None ≡ Some b = sym (ap (λ (xs : List Extent). disk_at xs block) none) ∙ is in cc

and_false : (b : Bool) → (b && false) ≡ false
and_false true = refl
and_false false = refl

-- neither of two
pub neither : (a b : Bool) → a ≡ false → b ≡ false → (a || b) ≡ false
neither a b first second = λ i. first i || second i

-- ---- the change

module _ (g : Geometry) (k : View) (files e : Files) (count next : ℕ) (numbers after : List ℕ) (start : State) (history : List Item) (item : Item) (touched : Option ℕ) (w : Volume)
    (ready : GoesReady g k files count numbers start history) (left : LeavesKept touched files e) (takes : TakesNone touched k.volume w numbers after) (puts : PutsNone (run start history) item)
    (live_step : IsStep touched (sized files.sizes k.volume) (sized e.sizes w) (as_claims (staged_of k.volume files)) [] numbers after (run start history) (after_call (run start history) (begun item)) count next)
    (cut_step : IsStep touched k.volume w [] [] numbers after (cut_of (run start history)) (cut_of (after_call (run start history) (begun item))) count next) where
  abbrev going : PosixGoing g k files count numbers start history
  going = ready.going

  abbrev v : Volume
  v = k.volume

  abbrev s : State
  s = run start history

  abbrev behind : State
  behind = after_call (run start history) (begun item)

  abbrev staged : List Draft
  staged = staged_of k.volume files

  -- ---- the staged runs

  -- each would be live as an entry, of a staging file that is not touched
  alive : (d : Draft) → In d staged → is_live (sized files.sizes v) d ≡ true
  alive d is = live_sized files.sizes v d ∙ going.alive d is

  apart : (d : Draft) → In d staged → touched ≢ Some d.staging
  apart d is same = cut_step.leaves.plain d.staging same (going.aged.staging d (subst (In d) (sym (entries_again staged)) is))

  -- so of a file that is not touched all are live still, and the same entries;
  live_still : (d : Draft) → In d staged → touched ≢ Some d.ino → is_live (sized e.sizes w) d ≡ true
  live_still d is other = live_same (sized files.sizes v) (sized e.sizes w) d (live_step.leaves.others d.ino other) (live_step.leaves.others d.staging (apart d is)) ∙ alive d is

  same_draft : (ino : ℕ) (r : Run) → touched ≢ Some ino → touched ≢ Some r.staging → draft_of_run v files ino r ≡ draft_of_run w e ino r
  same_draft ino r other plain =
      let own = sym (cut_step.leaves.others ino other) in
      let from = sym (cut_step.leaves.others r.staging plain) in
      let size = sym (left.others ino other).1 in
      λ i. record {
        count = r.count;
        order = r.order;
        ino = ino;
        generation = (own i).generation;
        file_block = r.file_block;
        staging = r.staging;
        staging_block = r.staging_block;
        staging_generation = (from i).generation;
        size = size i;
      }

  live_runs : (ino : ℕ) (rs : List Run) → touched ≢ Some ino → ((r : Run) → In r rs → In (draft_of_run v files ino r) staged)
      → filter (is_live (sized e.sizes w)) (map (draft_of_run v files ino) rs) ≡ map (draft_of_run w e ino) rs
  live_runs ino [] other among = refl
  live_runs ino (r ∷ rs) other among =
      let d : Draft = draft_of_run v files ino r in
      let rest = live_runs ino rs other (λ q is. among q (inr is)) in
      let there = among r (inl refl) in
      ap (λ (b : Bool). if b then (d ∷ filter (is_live (sized e.sizes w)) (map (draft_of_run v files ino) rs)) else filter (is_live (sized e.sizes w)) (map (draft_of_run v files ino) rs)) (live_still d there other)
      ∙ (λ i. same_draft ino r other (apart d there) i ∷ rest i)

  -- of the one that is touched none is.
  dead_runs : (ino : ℕ) → touched ≡ Some ino → ((d : Draft) → In d (map (draft_of_run v files ino) (runs_in files ino)) → In d staged)
      → filter (is_live (sized e.sizes w)) (map (draft_of_run v files ino) (runs_in files ino)) ≡ []
  dead_runs ino same among = filter_none (is_live (sized e.sizes w)) (map (draft_of_run v files ino) (runs_in files ino)) (λ d is. false_from_ne_true (is_live (sized e.sizes w) d) (λ live. none d is live)) where
    none : (d : Draft) → In d (map (draft_of_run v files ino) (runs_in files ino)) → is_live (sized e.sizes w) d ≡ true → ⊥
    none d is live =
        let from = map-In (draft_of_run v files ino) (runs_in files ino) d is in
        let own : d.ino ≡ ino = ap (λ (x : Draft). x.ino) (sym from.2) in
        let file : (inode (sized e.sizes w) ino).kind ≡ File = ap (λ i. (inode (sized e.sizes w) i).kind) (sym own) ∙ live_file (sized e.sizes w) d live in
        let claimed : In d (live_claims (sized e.sizes w) (as_claims staged)) =
        In-filter (is_live (sized e.sizes w)) (map (λ (c : ℕ × Draft). c.1) (as_claims staged)) d (subst (In d) (sym (entries_again staged)) (among d is)) live
        in
        let entry : In d (entries_of ino (live_claims (sized e.sizes w) (as_claims staged))) =
        In-filter (λ (x : Draft). x.ino == ino) (live_claims (sized e.sizes w) (as_claims staged)) d claimed (eq-eqb d.ino ino own)
        in
        subst (In d) (live_step.leaves.own ino same file) entry

  -- THE RUNS THAT ARE STAGED BEHIND IT are those that are live still.
  live_left : filter (is_live (sized e.sizes w)) staged ≡ staged_of w e
  live_left =
      filter_flat (is_live (sized e.sizes w)) (λ (ino : ℕ). map (draft_of_run v files ino) (runs_in files ino)) (λ (ino : ℕ). map (draft_of_run w e ino) (runs_in e ino)) 0 (length files.sizes) part
      ∙ ap (λ n. flat_map (λ (ino : ℕ). map (draft_of_run w e ino) (runs_in e ino)) (range_with_len 0 n)) (sym left.count)
    where
      part : (ino : ℕ) → 0 ≤ ino → ino < 0 + length files.sizes → filter (is_live (sized e.sizes w)) (map (draft_of_run v files ino) (runs_in files ino)) ≡ map (draft_of_run w e ino) (runs_in e ino)
      part ino low high =
          let among = λ (d : Draft) (is : In d (map (draft_of_run v files ino) (runs_in files ino))). in_flat (λ (j : ℕ). map (draft_of_run v files j) (runs_in files j)) 0 (length files.sizes) ino d low high is in
          elim (touched_or_not touched ino) [
            | inl same ↦ dead_runs ino same among ∙ sym (ap (map (draft_of_run w e ino)) (left.own ino same).0)
            | inr other ↦
                live_runs ino (runs_in files ino) other (λ r is. among (draft_of_run v files ino r) (In-map (draft_of_run v files ino) (runs_in files ino) r is))
                ∙ ap (map (draft_of_run w e ino)) (sym (left.others ino other).0)
          ]

  left_in : (d : Draft) → In d (staged_of w e) → In d staged × (is_live (sized e.sizes w) d ≡ true)
  left_in d is = filter-In (is_live (sized e.sizes w)) staged d (subst (In d) (sym live_left) is)

  alive_behind : (d : Draft) → In d (staged_of w e) → is_live w d ≡ true
  alive_behind d is = sym (live_sized e.sizes w d) ∙ (left_in d is).1

  -- of another file the same runs lie at each block
  same_entry : (ino block : ℕ) → touched ≢ Some ino → entry_of_block (staged_of w e) ino block ≡ entry_of_block staged ino block
  same_entry ino block other =
      let p : Draft → Bool = is_live (sized e.sizes w) in
      let q : Draft → Bool = λ (d : Draft). (d.ino == ino) && is_within d.file_block d.count block in
      ap (λ xs. latest (filter q xs)) (sym live_left)
      ∙ ap latest (sym (filter-both p q staged) ∙ filter-agree (λ d. p d && q d) q staged (λ d is. by d is (cases_eq d.ino ino)))
    where
      by : (d : Draft) → In d staged → (d.ino ≡ ino) ⊎ (d.ino ≢ ino)
          → (is_live (sized e.sizes w) d && ((d.ino == ino) && is_within d.file_block d.count block)) ≡ ((d.ino == ino) && is_within d.file_block d.count block)
      by d is (inl same) = ap (λ (b : Bool). b && ((d.ino == ino) && is_within d.file_block d.count block)) (live_still d is (λ one. other (one ∙ ap Some same)))
      by d is (inr differs) =
          ap (λ (b : Bool). is_live (sized e.sizes w) d && (b && is_within d.file_block d.count block)) (ne_eqb d.ino ino differs)
          ∙ (and_false (is_live (sized e.sizes w) d) ∙ ap (λ (b : Bool). b && is_within d.file_block d.count block) (sym (ne_eqb d.ino ino differs)))

  -- ---- blocks

  -- a block of a file of the batch was there, in a file that is not touched
  was_there : (ino block b : ℕ) → IsUsed w ino → disk_of w [] ino block ≡ Some b → (touched ≢ Some ino) × (IsUsed v ino × (disk_of v [] ino block ≡ Some b))
  was_there ino block b used at = elim (touched_or_not touched ino) [
    | inl same ↦ absurd (no_block (extents w ino) block b (takes.own ino same) at)
    | inr other ↦ (other, (ap (λ (x : Inode). is_used x.kind) (sym (cut_step.leaves.others ino other)) ∙ used, by (takes.maps ino)))
  ] where
    by : ((chain w ino ≡ chain v ino) × (extents w ino ≡ extents v ino)) ⊎ ((chain w ino ≡ []) × (extents w ino ≡ [])) → disk_of v [] ino block ≡ Some b
    by (inl same) = subst (λ (es : List Extent). disk_at es block ≡ Some b) same.1 at
    by (inr none) = absurd (no_block (extents w ino) block b none.1 at)

  abbrev old_sides : Sides
  old_sides = sides_of k files ready.going.old_numbers numbers

  -- the K-Split behind it
  abbrev at_change : View → View
  at_change l = record l { volume = w; committed = k.committed; cells = k.cells }

  abbrev new_sides : Sides
  new_sides = record { committed = k.committed; committed_numbers = ready.going.old_numbers; batch = w; numbers = after; staged = staged_of w e; lengths = e.sizes }

  takes_blocks : TakesBlocks old_sides new_sides []
  takes_blocks = record {
    committed = refl;
    committed_numbers = refl;
    files = λ ino block b used at. (let was = was_there ino block b used at in inl (was.1.0, was.1.1, takes.nodes ino was.0));
    staging = λ ino block b kind at. inr (staging ino block b kind at (touched_or_not touched ino) (takes.maps ino));
    chains = λ ino. chains ino (takes.maps ino);
  } where
    staging : (ino block b : ℕ) → (inode w ino).kind ≡ Staging → disk_at (extents w ino) block ≡ Some b → (touched ≡ Some ino) ⊎ (touched ≢ Some ino)
        → ((chain w ino ≡ chain v ino) × (extents w ino ≡ extents v ino)) ⊎ ((chain w ino ≡ []) × (extents w ino ≡ [])) → IsOfStaging v b
    staging ino block b kind at (inl same) maps = absurd (no_block (extents w ino) block b (takes.own ino same) at)
    staging ino block b kind at (inr other) (inr none) = absurd (no_block (extents w ino) block b none.1 at)
    staging ino block b kind at (inr other) (inl same) =
        (ino, block, ap (λ (x : Inode). x.kind) (sym (cut_step.leaves.others ino other)) ∙ kind, subst (λ (es : List Extent). disk_at es block ≡ Some b) same.1 at)

    chains : (ino : ℕ) → ((chain w ino ≡ chain v ino) × (extents w ino ≡ extents v ino)) ⊎ ((chain w ino ≡ []) × (extents w ino ≡ []))
        → ((chain w ino ≡ chain v ino) × (extents w ino ≡ extents v ino)) ⊎ ((j : ℕ) → j < length (chain w ino) → In (block_at (chain w ino) j) [])
    chains ino (inl same) = inl same
    chains ino (inr none) = inr (λ j below. (let short = subst (λ (bs : List ℕ). j < length bs) none.0 below in absurd (omega (arith, short))))

  -- ---- bytes that were cut off

  later_is : run start (going.front ++ going.later) ≡ after_calls (run start going.front) (map begun going.later)
  later_is = run_both start going.front going.later ∙ sym (after_is_run (run start going.front) going.later)

  not_cut : (n i : ℕ) → is_shortened (run start going.front) (map begun going.later) n i ≡ false → is_shortened (run start going.front) (map begun (going.later ++ item ∷ [])) n i ≡ false
  not_cut n i before =
      let now : shortens (after_calls (run start going.front) (map begun going.later)) (begun item) n i ≡ false =
      ap (λ (t : State). shortens t (begun item) n i) (sym later_is) ∙ (ap (λ (h : List Item). shortens (run start h) (begun item) n i) (sym going.history_is) ∙ puts.shortens_none n i)
      in
      ap (λ (cs : List Unfinished). is_shortened (run start going.front) cs n i) (begun_more going.later item)
      ∙ (shortened_more (run start going.front) (map begun going.later) (begun item) n i
      ∙ neither (is_shortened (run start going.front) (map begun going.later) n i) (shortens (after_calls (run start going.front) (map begun going.later)) (begun item) n i) before now)

  settled_back : (ino block b : ℕ) → touched ≢ Some ino → IsSettled new_sides ino block b → IsSettled old_sides ino block b
  settled_back ino block b other is = record { used = is.used; same = is.same; node = is.node ∙ takes.nodes ino other }

  cut_bytes : KeepsCutBytes old_sides start going.front going.later → KeepsCutBytes new_sides start going.front (going.later ++ item ∷ [])
  cut_bytes cuts = record {
    settled = λ ino i b used below at is.
        let was = was_there ino (i / 4096) b used at in
        moved ino i was.0 (cuts.settled ino i b was.1.0 (subst (λ (x : Inode). i < x.size) (cut_step.leaves.others ino was.0) below) was.1.1 (settled_back ino (i / 4096) b was.0 is));
    staged = λ ino i b used same past there short at is.
        let was = was_there ino (i / 4096) b used at in
        subst IsSome (sym (same_entry ino (i / 4096) was.0))
        (cuts.staged ino i b was.1.0 (same ∙ takes.nodes ino was.0) (subst (λ (x : Inode). x.size ≤ i) (cut_step.leaves.others ino was.0) past) there
        (subst (λ n. i < n) (left.others ino was.0).1 short) was.1.1 (settled_back ino (i / 4096) b was.0 is));
    unstaged = λ ino i b used short none at is.
        let was = was_there ino (i / 4096) b used at in
        moved ino i was.0
        (cuts.unstaged ino i b was.1.0 (subst (λ n. i < n) (left.others ino was.0).1 short) (sym (same_entry ino (i / 4096) was.0) ∙ none) was.1.1 (settled_back ino (i / 4096) b was.0 is));
  } where
    moved : (ino i : ℕ) → touched ≢ Some ino → is_shortened (run start going.front) (map begun going.later) (number numbers ino) i ≡ false
        → is_shortened (run start going.front) (map begun (going.later ++ item ∷ [])) (number after ino) i ≡ false
    moved ino i other before = ap (λ n. is_shortened (run start going.front) (map begun (going.later ++ item ∷ [])) n i) (takes.nodes ino other) ∙ not_cut (number numbers ino) i before

  -- ---- both Worlds, by the words of an image

  live_world : (image : Words) → IsImage k.cells image → IsWorld (sized e.sizes w) (as_claims (staged_of w e)) [] (journaled image) after behind next
  live_world image is =
      world_of_fewer (sized e.sizes w) staged (staged_of w e) (journaled image) after behind next
      (live_step.takes (journaled image) (live_is_world g k files count numbers start history image going is).0)
      (ap (filter (is_live (sized e.sizes w))) (entries_again staged) ∙ live_left) left_in (live_all w e.sizes (staged_of w e) alive_behind)

  cut_world : (image : Words) → IsImage k.cells image → IsWorld w [] [] (journaled image) after (cut_of behind) next
  cut_world image is = cut_step.takes (journaled image) (cut_is_world g k files count numbers start history image going is)

  -- ---- the standing behind it

  abbrev first_image : Words
  first_image = words_of k.cells

  some_world : IsWorld (sized e.sizes w) (as_claims (staged_of w e)) [] (journaled first_image) after behind next
  some_world = live_world first_image (IsImage-words_of k.cells)

  paths_before : PathsLeadToNodes s
  paths_before =
      let live = live_is_world g k files count numbers start history first_image going (IsImage-words_of k.cells) in
      paths_lead (sized files.sizes v) (live_claims (sized files.sizes v) (as_claims staged)) (journaled first_image) numbers s live.0.valid.stands

  shape_behind : HasShape w behind
  shape_behind = record { root = some_world.shape.root; nodes = some_world.shape.nodes ∙ length-with_sizes w.inodes e.sizes; names = some_world.shape.names }

  count_behind : length w.inodes ≡ length v.inodes
  count_behind =
      let lasts = step_lasts s item.who item.call in
      let old = going.shape.nodes in
      let new = shape_behind.nodes in
      sym new ∙ (ap (λ x. x.nodes + 4) lasts.shape ∙ old)

  aged_behind : AreAged w (as_claims (staged_of w e)) next
  aged_behind = record {
    small = some_world.aged.small;
    staging = λ d is. sym (kind-sized e.sizes w d.staging) ∙ some_world.aged.staging d is;
    own = some_world.aged.own;
    taken = λ d is. (let its = some_world.aged.taken d is in (its.0, (its.1.0, its.1.1, its.1.2 ∙ generation_sized e.sizes w d.ino)));
  }

  bare_behind : (ino : ℕ) → (inode w ino).kind ≢ File → (runs_in e ino ≡ []) × (size_in e ino ≡ 0)
  bare_behind ino other_kind = elim (touched_or_not touched ino) [
    | inl same ↦ left.own ino same
    | inr other ↦ (
        let was = going.bare ino (λ file. other_kind (ap (λ (x : Inode). x.kind) (cut_step.leaves.others ino other) ∙ file)) in
        let kept = left.others ino other in
        (kept.0 ∙ was.0, kept.1 ∙ was.1))
  ]

  out_behind : (i : ℕ) → IsOut v [] i → IsOut w [] i
  out_behind i out = elim out [
    | inl line ↦
        inl (line.0, subst (λ (x : Geometry). line.0 < x.log) (sym cut_step.geometry) line.1, line.2 ∙ ap (λ (x : Geometry). log_line x line.0) (sym cut_step.geometry))
    | inr job ↦ absurd job.1
  ]

  module _ (l : View) (gathered : IsGathered k l w) where
    is_change : l ≡ at_change l
    is_change = λ i. record l { volume = gathered.volume i; committed = gathered.committed i; cells = gathered.cells i }

    left_going : IsLeftGoing g (at_change l) e next behind
    left_going = record {
      order = subst IsInOrder is_change gathered.order;
      batched = gathered.batched;
      on = gathered.on;
      geometry = cut_step.geometry ∙ going.geometry;
      publishing = publishing_kept s item.who item.call going.publishing paths_before;
      fits = some_world.valid.fits;
      shape = shape_behind;
      quiet = going.quiet;
      home = λ i lent. out_behind i (going.home i lent);
      sizes = left.count ∙ (going.sizes ∙ sym count_behind);
      bare = bare_behind;
      alive = alive_behind;
      aged = aged_behind;
      spare = (let before = going.spare in let freed = cut_step.leaves.frees in omega (arith, before, freed));
    }

    -- all of the history
    whole_is : run start (going.front ++ (going.later ++ item ∷ [])) ≡ behind
    whole_is =
        ap (run start) (sym (append_assoc going.front going.later (item ∷ []))) ∙ (ap (λ (h : List Item). run start (h ++ item ∷ [])) (sym going.history_is) ∙ run-append start history item)

    batch_behind : (image : Words) → IsImage k.cells image → IsBatch new_sides (journaled image) start going.front (going.later ++ item ∷ [])
    batch_behind image is =
        let before = going.world image is in
        worlds_make_batch new_sides w e (journaled image) start going.front (going.later ++ item ∷ []) next
        (record { batch = refl; staged = refl; lengths = refl; count = left_going.sizes; alive = alive_behind })
        (subst (λ (t : State). IsWorld (sized e.sizes w) (as_claims (staged_of w e)) [] (journaled image) after t next) (sym whole_is) (live_world image is))
        (subst (λ (t : State). IsWorld w [] [] (journaled image) after (cut_of t) next) (sym whole_is) (cut_world image is))
        (blocks_stay old_sides new_sides [] before.blocks takes_blocks (λ b never. absurd never))
        (cut_bytes before.cuts)

    comes_from : (image : Words) → IsImage k.cells image → ComesFrom g k (at_change l) files e count numbers after start history (item ∷ []) going image
    comes_from image is = record {
      before = image;
      is = is;
      shown = λ ino i file below. refl;
      adds = (puts.no_sync, record { each = λ n i below. inl (subst (λ (h : List Item). value_put (run start h) (begun item) n i ≡ None) going.history_is (puts.puts n i)) });
      batch = batch_behind image is;
      headed = going.headed image is;
    }

    goes_ready : GoesReady g (at_change l) e next after start (history ++ item ∷ [])
    goes_ready = record {
      going = going_goes_on g k (at_change l) files e count next numbers after start history (item ∷ []) going refl
          (subst (IsLeftGoing g (at_change l) e next) (sym (run-append start history item)) left_going) comes_from;
      geometry = cut_step.geometry ∙ ready.geometry;
      base = cut_step.base ∙ ready.base;
      unmapped = λ ino no_file no_staging. unmapped ino no_file no_staging (touched_or_not touched ino) (takes.maps ino);
      room =
          subst (λ (x : Geometry). length (staged_of w e) + reserve x ≤ unused_blocks w + 3) (sym cut_step.geometry)
          (let room = ready.room in
          let freed = cut_step.leaves.frees in
          let short = filter_short (is_live (sized e.sizes w)) staged in
          let same = ap (λ (ds : List Draft). length ds) live_left in
          omega (arith, room, freed, short, same));
    } where
      unmapped : (ino : ℕ) → (inode w ino).kind ≢ File → (inode w ino).kind ≢ Staging → (touched ≡ Some ino) ⊎ (touched ≢ Some ino)
          → ((chain w ino ≡ chain v ino) × (extents w ino ≡ extents v ino)) ⊎ ((chain w ino ≡ []) × (extents w ino ≡ [])) → extents w ino ≡ []
      unmapped ino no_file no_staging (inl same) maps = takes.own ino same
      unmapped ino no_file no_staging (inr other) (inr none) = none.1
      unmapped ino no_file no_staging (inr other) (inl same) =
          let kind : (inode w ino).kind ≡ (inode v ino).kind = ap (λ (x : Inode). x.kind) (cut_step.leaves.others ino other) in
          same.1 ∙ ready.unmapped ino (λ file. no_file (kind ∙ file)) (λ staging. no_staging (kind ∙ staging))

pub change_goes_on : ChangeGoesOn
change_goes_on g k l files e count next numbers after start history item touched w ready gathered left takes puts live_step cut_step =
    subst (λ (m : View). GoesReady g m e next after start (history ++ item ∷ []))
    (sym (is_change g k files e count next numbers after start history item touched w ready left takes puts live_step cut_step l gathered))
    (goes_ready g k files e count next numbers after start history item touched w ready left takes puts live_step cut_step l gathered)
