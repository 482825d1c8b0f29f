-- The standing behind a write.
use Rattle.std.specs.Prelude.{◌≡◌, ◌≢◌, ◌⊎◌, ◌<◌, ◌≤◌, ◌+◌, ◌/◌, ℕ, true, false, List, [], ◌∷◌, ◌++◌, length, map, Option, Some, None, IsSome, refl}
use Rattle.std.proofs.Common.{ap, append_assoc, ◌∙◌, sym, subst, inl, inr}
use Rattle.std.proofs.lemmas.Bool.{cases_eq, cases_lt}
use Rattle.live_model.specs.pm_model.Cells.{cell, is_lent}
use Rattle.live_model.specs.pm_model.ImageLaws.{IsImage-words_of}
use Rattle.live_model.specs.pm_model.Images.{IsImage, words_of}
use Rattle.live_model.specs.pm_model.Words.{Words}
use Rattle.live_model.specs.layout_model.Journal.{journaled}
use Rattle.live_model.specs.layout_model.Places.{Geometry, reserve}
use Rattle.live_model.specs.layout_model.declared.lines.Draft.{Draft}
use Rattle.live_model.specs.layout_model.declared.lines.Kind.TheVariants.{File}
use Rattle.live_model.specs.image_model.Content.{disk_of, entry_of_block}
use Rattle.live_model.specs.image_model.Live.{is_live}
use Rattle.live_model.specs.image_model.Room.{unused_blocks}
use Rattle.live_model.specs.image_model.Volume.{inode, Volume}
use Rattle.live_model.specs.file_table.Files.{Files, runs_in, size_in}
use Rattle.live_model.specs.k_split.Order.{IsInOrder}
use Rattle.live_model.specs.k_split_model.View.{View}
use Rattle.live_model.specs.list_laws.Members.{In}
use Rattle.live_model.specs.commute_laws.posix_types.declared.item.Item.{Item}
use Rattle.live_model.specs.posix_laws.Cuts.{cut_of}
use Rattle.live_model.specs.posix_laws.PublishLaws.{publishing_kept}
use Rattle.live_model.specs.posix_laws.Publishes.{IsPublishing, PathsLeadToNodes}
use Rattle.live_model.specs.posix_laws.PutKeeps.{put_keeps}
use Rattle.live_model.specs.posix_laws.Shortens.{shortens}
use Rattle.live_model.specs.posix_spec.Put.{Put}
use Rattle.live_model.specs.posix_spec.Run.{after_call, after_calls, begun, run, run-append, Unfinished}
use Rattle.live_model.specs.posix_spec.State.{Fits, State}
use Rattle.live_model.specs.crash_spec.Posix.{LastBeforeCut}
use Rattle.live_model.specs.crash_spec.Values.{is_shortened}
use Rattle.live_model.specs.world_model.Jobs.{live_claims}
use Rattle.live_model.specs.world_model.Stands.{IsUsed, number}
use Rattle.live_model.specs.world_step_laws.Ages.{AreAged}
use Rattle.live_model.specs.world_step_laws.Counts.{HasShape}
use Rattle.live_model.specs.world_step_laws.Worlds.{IsWorld}
use Rattle.live_model.specs.world_image_laws.Images.{IsHeaded}
use Rattle.live_model.specs.Standing.{IsQuietBeside}
use Rattle.posix_mode_laws.specs.Batch.{IsBatch, WritesPublished}
use Rattle.posix_mode_laws.specs.BatchSteps.{after_is_run, begun_more, run_both, shortened_more}
use Rattle.posix_mode_laws.specs.Leading.{paths_lead}
use Rattle.posix_mode_laws.specs.Sides.{IsSettled, KeepsCutBytes, PosixWorld, Sides, sized, UsesNoFreed}
use Rattle.posix_mode_laws.specs.Sized.{length-with_sizes}
use Rattle.posix_mode_laws.specs.Written.{written_steps}
use Rattle.batch_laws.specs.ChangesLaws.{neither}
use Rattle.batch_laws.specs.Ready.{GoesReady}
use Rattle.batch_laws.specs.Standing.{as_claims, PosixGoing, sides_of, staged_of}
use Rattle.batch_laws.specs.StepsLaws.{worlds_make_batch}
use Rattle.batch_laws.specs.WorldsLaws.{live_is_world}
use Rattle.batch_write_laws.specs.Medium.{medium_low}
use Rattle.batch_write_laws.specs.PutBytes.{put_no_sync}
use Rattle.batch_write_laws.specs.Writes.{PutsInto}

-- What is kept of files behind a write: of all others what it was; of its own file the staged runs, each of which would be live, and maybe
-- one more; and each byte that the file got is in a staged run, or nothing but what is kept came since the commit.
pub record IsKeptBehind (g : Geometry) (k : View) (files e : Files) (count : ℕ) (numbers : List ℕ) (start : State) (history : List Item) (ino : ℕ) (ready : GoesReady g k files count numbers start history) : Type 0 where
  pub count_is : length e.sizes ≡ length files.sizes
  pub others : (j : ℕ) → j ≢ ino → (runs_in e j ≡ runs_in files j) × (size_in e j ≡ size_in files j)
  pub alive : (d : Draft) → In d (staged_of k.volume e) → is_live k.volume d ≡ true
  pub aged : AreAged k.volume (as_claims (staged_of k.volume e)) count
  pub room : length (staged_of k.volume e) + reserve k.volume.geometry ≤ unused_blocks k.volume + 3
  pub covers : (j block : ℕ) → entry_of_block (staged_of k.volume e) j block ≡ None → entry_of_block (staged_of k.volume files) j block ≡ None
  pub got : (i b : ℕ) → size_in files ino ≤ i → i < size_in e ino → disk_of k.volume [] ino (i / 4096) ≡ Some b → entry_of_block (staged_of k.volume e) ino (i / 4096) ≡ None → ready.going.later ≡ []

-- An image behind it comes from one before, of which both Worlds behind stand, and the medium shows the call's bytes alone.
pub record ComesWritten (g : Geometry) (k : View) (files e : Files) (count : ℕ) (numbers : List ℕ) (start : State) (history : List Item) (item : Item) (ino first last : ℕ) (ready : GoesReady g k files count numbers start history) (image : Words) : Type 0 where
  pub before : Words
  pub is : IsImage k.cells before
  pub live : IsWorld (sized e.sizes k.volume) (as_claims (staged_of k.volume e)) [] (journaled image) numbers (after_call (run start history) (begun item)) count
  pub cut : IsWorld k.volume [] [] (journaled image) numbers (cut_of (after_call (run start history) (begun item))) count
  pub written : WritesPublished (sides_of k files ready.going.old_numbers numbers) (journaled before) (journaled image) (run start history) (begun item) ino first last
  pub headed : IsHeaded g image

no_entry : (o : Option Draft) → (o ≡ None) ⊎ IsSome o
no_entry None = inl refl
no_entry (Some d) = inr refl

some_none : (o : Option Draft) → IsSome o → o ≡ None → ⊥
some_none None is none = cc
some_none (Some d) is none = cc

module _ (g : Geometry) (k l : View) (files e : Files) (count : ℕ) (numbers : List ℕ) (start : State) (history : List Item) (item : Item) (ino : ℕ) (p : Put) (first last : ℕ)
    (ready : GoesReady g k files count numbers start history) (puts : PutsInto k.volume numbers (run start history) item ino p)
    (behind : IsKeptBehind g k files e count numbers start history ino ready) (same : l ≡ record k { cells = l.cells }) (order : IsInOrder l) (quiet : IsQuietBeside g l.cells)
    (lent : (i : ℕ) → is_lent (cell l.cells i) ≡ is_lent (cell k.cells i))
    (comes : (image : Words) → IsImage l.cells image → ComesWritten g k files e count numbers start history item ino first last ready image) where
  abbrev going : PosixGoing g k files count numbers start history
  going = ready.going

  abbrev v : Volume
  v = k.volume

  abbrev s : State
  s = run start history

  abbrev new : State
  new = after_call (run start history) (begun item)

  abbrev old_sides : Sides
  old_sides = sides_of k files ready.going.old_numbers numbers

  abbrev new_sides : Sides
  new_sides = record { committed = k.committed; committed_numbers = ready.going.old_numbers; batch = k.volume; numbers = numbers; staged = staged_of k.volume e; lengths = e.sizes }

  abbrev at_write : View
  at_write = record k { cells = l.cells }

  -- ---- bytes that were cut off

  later_is : run start (going.front ++ going.later) ≡ after_calls (run start going.front) (map begun going.later)
  later_is = run_both start going.front going.later ∙ sym (after_is_run (run start going.front) going.later)

  not_cut : (n i : ℕ) → is_shortened (run start going.front) (map begun going.later) n i ≡ false → is_shortened (run start going.front) (map begun (going.later ++ item ∷ [])) n i ≡ false
  not_cut n i before =
      let now : shortens (after_calls (run start going.front) (map begun going.later)) (begun item) n i ≡ false =
      ap (λ (t : State). shortens t (begun item) n i) (sym later_is) ∙ (ap (λ (h : List Item). shortens (run start h) (begun item) n i) (sym going.history_is) ∙ put_keeps s item.who item.call p puts.is n i)
      in
      ap (λ (cs : List Unfinished). is_shortened (run start going.front) cs n i) (begun_more going.later item)
      ∙ (shortened_more (run start going.front) (map begun going.later) (begun item) n i
      ∙ neither (is_shortened (run start going.front) (map begun going.later) n i) (shortens (after_calls (run start going.front) (map begun going.later)) (begun item) n i) before now)

  settled_back : (j block b : ℕ) → IsSettled new_sides j block b → IsSettled old_sides j block b
  settled_back j block b is = record { used = is.used; same = is.same; node = is.node }

  abbrev some_image : Words
  some_image = words_of k.cells

  old_world : PosixWorld LastBeforeCut old_sides (journaled some_image) start going.front going.later
  old_world = going.world some_image (IsImage-words_of k.cells)

  none_came : ready.going.later ≡ [] → (n i : ℕ) → is_shortened (run start going.front) (map begun going.later) n i ≡ false
  unfolding is_shortened
  none_came none n i = ap (λ (h : List Item). is_shortened (run start going.front) (map begun h) n i) none

  cut_bytes : KeepsCutBytes old_sides start going.front going.later → KeepsCutBytes new_sides start going.front (going.later ++ item ∷ [])
  cut_bytes cuts = record {
    settled = λ j i b used below at is. not_cut (number numbers j) i (cuts.settled j i b used below at (settled_back j (i / 4096) b is));
    staged = λ j i b used one past there short at is. elim (no_entry (entry_of_block (staged_of v e) j (i / 4096))) [
      | inr some ↦ some
      | inl none ↦ absurd (no_staged j i b used one past there short at is none)
    ];
    unstaged = λ j i b used short none at is. not_cut (number numbers j) i (unstaged j i b used short none at is);
  } where
    -- below the length of before, or none of the file
    was_short : (j i b : ℕ) → i < size_in e j → disk_of v [] j (i / 4096) ≡ Some b → entry_of_block (staged_of v e) j (i / 4096) ≡ None → (i < size_in files j) ⊎ ((j ≡ ino) × (size_in files ino ≤ i) × (ready.going.later ≡ []))
    was_short j i b short at none = elim (cases_eq j ino) [
      | inr other ↦ inl (subst (λ m. i < m) (behind.others j other).1 short)
      | inl own ↦ elim (cases_lt i (size_in files j)) [
        | inl low ↦ inl low
        | inr past ↦ (
            let past_own : size_in files ino ≤ i = subst (λ m. size_in files m ≤ i) own past in
            inr (own, past_own, behind.got i b past_own (subst (λ m. i < size_in e m) own short) (subst (λ m. disk_of v [] m (i / 4096) ≡ Some b) own at) (subst (λ m. entry_of_block (staged_of v e) m (i / 4096) ≡ None) own none)))
      ]
    ]

    no_staged : (j i b : ℕ) → IsUsed v j → number ready.going.old_numbers j ≡ number numbers j → (inode v j).size ≤ i → i < (inode k.committed j).size → i < size_in e j → disk_of v [] j (i / 4096) ≡ Some b
        → IsSettled new_sides j (i / 4096) b → entry_of_block (staged_of v e) j (i / 4096) ≡ None → ⊥
    no_staged j i b used one past there short at is none = elim (was_short j i b short at none) [
      | inl low ↦ some_none (entry_of_block (staged_of v files) j (i / 4096)) (cuts.staged j i b used one past there low at (settled_back j (i / 4096) b is)) (behind.covers j (i / 4096) none)
      | inr got ↦ medium_low g k files count numbers start history ready j i (subst (λ m. (inode v m).kind ≡ File) (sym got.0) puts.file) is.used one got.2 there (subst (λ m. size_in files m ≤ i) (sym got.0) got.1)
    ]

    unstaged : (j i b : ℕ) → IsUsed v j → i < size_in e j → entry_of_block (staged_of v e) j (i / 4096) ≡ None → disk_of v [] j (i / 4096) ≡ Some b → IsSettled new_sides j (i / 4096) b
        → is_shortened (run start going.front) (map begun going.later) (number numbers j) i ≡ false
    unstaged j i b used short none at is = elim (was_short j i b short at none) [
      | inl low ↦ cuts.unstaged j i b used low (behind.covers j (i / 4096) none) at (settled_back j (i / 4096) b is)
      | inr got ↦ none_came got.2 (number numbers j) i
    ]

  uses : UsesNoFreed new_sides
  uses =
      let blocks = old_world.blocks in
      record {
        mapped = λ j block b used at. elim (blocks.mapped j block b used at) [ inl settled ↦ inl (record { used = settled.used; same = settled.same; node = settled.node }) | inr fresh ↦ inr fresh ];
        staging = blocks.staging;
        chains = blocks.chains;
      }

  -- ---- the standing behind it

  whole_is : run start (going.front ++ (going.later ++ item ∷ [])) ≡ new
  whole_is =
      ap (run start) (sym (append_assoc going.front going.later (item ∷ []))) ∙ (ap (λ (h : List Item). run start (h ++ item ∷ [])) (sym going.history_is) ∙ run-append start history item)

  more_is : run start (history ++ item ∷ []) ≡ new
  more_is = run-append start history item

  e_count : length e.sizes ≡ length v.inodes
  e_count = behind.count_is ∙ going.sizes

  batch_behind : (image : Words) → IsImage l.cells image → IsBatch new_sides (journaled image) start going.front (going.later ++ item ∷ [])
  batch_behind image is =
      let from = comes image is in
      worlds_make_batch new_sides v e (journaled image) start going.front (going.later ++ item ∷ []) count
      (record { batch = refl; staged = refl; lengths = refl; count = e_count; alive = behind.alive })
      (subst (λ (t : State). IsWorld (sized e.sizes v) (as_claims (staged_of v e)) [] (journaled image) numbers t count) (sym whole_is) from.live)
      (subst (λ (t : State). IsWorld v [] [] (journaled image) numbers (cut_of t) count) (sym whole_is) from.cut)
      uses (cut_bytes old_world.cuts)

  world_behind : (image : Words) → IsImage l.cells image → PosixWorld LastBeforeCut new_sides (journaled image) start going.front (going.later ++ item ∷ [])
  world_behind image is =
      let from = comes image is in
      written_steps old_sides new_sides (journaled from.before) (journaled image) start going.front going.later item ino first last (going.world from.before from.is)
      (subst (λ h. IsPublishing (run start h)) going.history_is going.publishing) refl refl (put_no_sync s item p puts.is)
      (subst (λ h. WritesPublished old_sides (journaled from.before) (journaled image) (run start h) (begun item) ino first last) going.history_is from.written) (batch_behind image is)

  abbrev last_image : Words
  last_image = words_of l.cells

  some_world : IsWorld (sized e.sizes v) (as_claims (staged_of v e)) [] (journaled last_image) numbers new count
  some_world = (comes last_image (IsImage-words_of l.cells)).live

  paths_before : PathsLeadToNodes s
  paths_before =
      let live = live_is_world g k files count numbers start history some_image going (IsImage-words_of k.cells) in
      paths_lead (sized files.sizes v) (live_claims (sized files.sizes v) (as_claims (staged_of v files))) (journaled some_image) numbers s live.0.valid.stands

  bare_behind : (j : ℕ) → (inode v j).kind ≢ File → (runs_in e j ≡ []) × (size_in e j ≡ 0)
  bare_behind j no_file =
      let other : j ≢ ino = λ own. no_file (ap (λ m. (inode v m).kind) own ∙ puts.file) in
      let was = going.bare j no_file in
      let kept = behind.others j other in
      (kept.0 ∙ was.0, kept.1 ∙ was.1)

  going_behind : PosixGoing g at_write e count numbers start (history ++ item ∷ [])
  going_behind = record {
    mode = going.mode;
    order = subst IsInOrder same order;
    batched = going.batched;
    on = going.on;
    geometry = going.geometry;
    is_geometry = going.is_geometry;
    publishing = subst IsPublishing (sym more_is) (publishing_kept s item.who item.call going.publishing paths_before);
    fits = subst Fits (sym more_is) some_world.valid.fits;
    shape = subst (HasShape v) (sym more_is) (record { root = some_world.shape.root; nodes = some_world.shape.nodes ∙ length-with_sizes v.inodes e.sizes; names = some_world.shape.names });
    blocks = going.blocks;
    quiet = quiet;
    home = λ i out. going.home i (sym (lent i) ∙ out);
    sizes = e_count;
    bare = bare_behind;
    alive = behind.alive;
    aged = behind.aged;
    spare = going.spare;
    front = going.front;
    later = going.later ++ item ∷ [];
    history_is = ap (λ (h : List Item). h ++ item ∷ []) going.history_is ∙ append_assoc going.front going.later (item ∷ []);
    old_numbers = going.old_numbers;
    world = world_behind;
    headed = λ image is. (comes image is).headed;
    fits_front = going.fits_front;
    shape_front = going.shape_front;
    free = going.free;
  }

  -- THE DEVICE GOES ON, READY FOR A COMMIT, with the write in its history.
  pub goes_behind : GoesReady g l e count numbers start (history ++ item ∷ [])
  goes_behind = subst (λ (m : View). GoesReady g m e count numbers start (history ++ item ∷ [])) (sym same) (record {
    going = going_behind;
    geometry = ready.geometry;
    base = ready.base;
    unmapped = ready.unmapped;
    room = behind.room;
  })
