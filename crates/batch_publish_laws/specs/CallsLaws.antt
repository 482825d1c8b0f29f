-- Truncate, an open with `t`, and what publishes a length by the size alone.
use Rattle.batch_laws.specs.Ready.{GoesReady}
use Rattle.batch_laws.specs.Standing.{as_claims, sides_of, staged_of}
use Rattle.batch_laws.specs.WorldsLaws.{cut_is_world}
use Rattle.batch_publish_laws.specs.Changes.{IsMapGathered, LeavesBatch}
use Rattle.batch_publish_laws.specs.ChangesLaws.{batch_goes_on, named_same, unused_data}
use Rattle.batch_publish_laws.specs.Named.{SameNamed}
use Rattle.batch_publish_laws.specs.RenewalsLaws.{below_file}
use Rattle.batch_publish_laws.specs.Sizes.{OpenCutGoesOn, SizeLeavesBatch, TruncateGoesOn}
use Rattle.batch_publish_laws.specs.SizesLaws.{bytes_before, none_later, set_leaves, set_lengths, set_node, unstaged_uncut}
use Rattle.live_model.specs.commute_laws.posix_types.declared.call.Call.{Call}
use Rattle.live_model.specs.commute_laws.posix_types.declared.call.Who.{Who}
use Rattle.live_model.specs.commute_laws.posix_types.declared.handle.Flags.{Flags}
use Rattle.live_model.specs.commute_laws.posix_types.declared.handle.Handle.{Handle}
use Rattle.live_model.specs.commute_laws.posix_types.declared.item.Item.{Item}
use Rattle.live_model.specs.crash_spec.Posix.{is_fsync, is_ok, syncs}
use Rattle.live_model.specs.crash_spec.Values.{is_shortened, value_put}
use Rattle.live_model.specs.extent_model.Extents.{disk_at}
use Rattle.live_model.specs.file_table.Files.{Files, size_in}
use Rattle.live_model.specs.image_model.Volume.{Volume, extents, inode}
use Rattle.live_model.specs.k_split_model.Stands.{IsOldOrNew}
use Rattle.live_model.specs.k_split_model.View.{View}
use Rattle.live_model.specs.layout_model.Journal.{IsSound, journaled}
use Rattle.live_model.specs.layout_model.Places.{Geometry}
use Rattle.live_model.specs.pm_model.Images.{ComesFrom, IsImage}
use Rattle.live_model.specs.pm_model.Words.{Words}
use Rattle.live_model.specs.posix_laws.FitsLaws.{length-resized}
use Rattle.live_model.specs.posix_spec.FileRows.{content, file_number, truncate_rows}
use Rattle.live_model.specs.posix_spec.Put.{put_by}
use Rattle.live_model.specs.posix_spec.Run.{after_call, begun, run}
use Rattle.live_model.specs.posix_spec.State.{State, alone, made, space, with_node, with_published}
use Rattle.live_model.specs.posix_spec.Step.{empty_file, is_busy, open_done, opening, stepped}
use Rattle.live_model.specs.posix_tables.NameRows.{open_rows}
use Rattle.live_model.specs.posix_tables.Names.{exists_at, number_at}
use Rattle.live_model.specs.posix_tables.Nodes.{bytes_of, node_at, published_node, published_of}
use Rattle.live_model.specs.posix_tables.Open.{is_full}
use Rattle.live_model.specs.posix_tables.Outcomes.{first}
use Rattle.live_model.specs.posix_tables.declared.nodes.Node.{Node}
use Rattle.live_model.specs.world_image_laws.Changed.{sound_headed}
use Rattle.live_model.specs.world_image_laws.image_model.Content.{byte_in}
use Rattle.live_model.specs.world_model.Stands.{number}
use Rattle.live_model.specs.world_model.posix_spec.State.{with_file}
use Rattle.live_model.specs.world_model.posix_spec.Step.{truncate_done}
use Rattle.live_model.specs.world_model.posix_tables.Bytes.{resized}
use Rattle.live_model.specs.world_step_laws.Worlds.{IsWorld}
use Rattle.posix_mode_laws.specs.Batch.{AddsQuietly}
use Rattle.posix_mode_laws.specs.Sides.{IsSettled, KeepsCutBytes, sized}
use Rattle.std.proofs.Common.{ap, arith, inl, inr, subst, sym, ◌∙◌}
use Rattle.std.proofs.lemmas.Bool.{cases_lt}
use Rattle.std.proofs.lemmas.Bool.Decides.{nat_tests}
use Rattle.std.proofs.lemmas.List.{get_or-append_right, get_or-replicate, get_or-take, get_or_append_left, get_or_past, length-take}
use Rattle.std.specs.Prelude.{Bool, List, None, Option, Some, [], false, if◌then◌else◌, length, map, nat_lt, refl, replicate, slice_index, slice_set, take, true, ℕ, ◌%◌, ◌&&◌, ◌++◌, ◌-◌, ◌/◌, ◌<◌, ◌∷◌, ◌≡◌, ◌≤◌, ◌⊎◌}

-- ---- bytes

split : (a b : ℕ) → (a < b) ⊎ (b ≤ a)
split a b = by (nat_lt a b) refl where
  by : (c : Bool) → nat_lt a b ≡ c → (a < b) ⊎ (b ≤ a)
  by true is = inl (grind (arith, nat_tests))
  by false is = inr (grind (arith, nat_tests))

resized_front : (xs : List ℕ) (n i : ℕ) → i < length xs → i < n → slice_index (resized xs n) i ≡ slice_index xs i
resized_front xs n i below low =
    let size = length-take n xs in
    let within : i < length (take n xs) = grind arith in
    get_or_append_left (take n xs) (replicate (n - length xs) 0) 0 i within ∙ get_or-take n xs i 0 low

resized_behind : (xs : List ℕ) (n i : ℕ) → length xs ≤ i → slice_index (resized xs n) i ≡ 0
resized_behind xs n i past = by (split i n) where
  by : (i < n) ⊎ (n ≤ i) → slice_index (resized xs n) i ≡ 0
  by (inl below) =
      let size = length-take n xs in
      let short : length (take n xs) ≡ length xs = grind arith in
      let zero_at : i - length xs < n - length xs = omega (arith, below, past) in
      get_or-append_right (take n xs) (replicate (n - length xs) 0) (length xs) i 0 short past ∙ get_or-replicate (n - length xs) (i - length xs) 0 0 zero_at
  by (inr above) = get_or_past (resized xs n) i 0 (let size = length-resized xs n in omega (arith, size, above))

-- ---- the image from which one comes

module _ (g : Geometry) (k l : View) (files : Files) (count : ℕ) (numbers : List ℕ) (start : State) (history : List Item) (blocks : List ℕ) (w : Volume) (ready : GoesReady g k files count numbers start history)
    (gathered : IsMapGathered blocks k l w) (image : Words) (is : IsImage l.cells image) where
  same_medium : k.committed.geometry ≡ g
  same_medium = sym ready.geometry ∙ ready.going.geometry

  come_from : (before : Words) × ComesFrom k.cells image before × IsOldOrNew k.committed.geometry blocks k.committed k.committed before image
  come_from = gathered.changes.each_image image is

  from_image : IsImage k.cells come_from.0
  from_image = come_from.1.is_image

  from_words : SameNamed k.volume (journaled come_from.0) (journaled image)
  from_words =
      named_same blocks k.committed.geometry k.volume k.committed k.committed come_from.0 image (cut_is_world g k files count numbers start history come_from.0 ready.going come_from.1.is_image).valid.stands.sane (ready.going.geometry ∙ sym same_medium)
      (subst (λ x. IsSound x come_from.0) (sym same_medium) (sound_headed g come_from.0 (ready.going.headed come_from.0 come_from.1.is_image))) come_from.2
      (λ b among. unused_data k.committed b (gathered.spare.committed b among)) gathered.spare.batch

  -- zeros of its blocks stay
  zeros_stay : (ino i : ℕ) → ino < length k.volume.inodes → byte_in (journaled come_from.0) (disk_at (extents k.volume ino) (i / 4096)) i ≡ 0 → byte_in (journaled image) (disk_at (extents k.volume ino) (i / 4096)) i ≡ 0
  zeros_stay ino i below zero_before = by (disk_at (extents k.volume ino) (i / 4096)) refl zero_before where
    by : (o : Option ℕ) → disk_at (extents k.volume ino) (i / 4096) ≡ o → byte_in (journaled come_from.0) o i ≡ 0 → byte_in (journaled image) o i ≡ 0
    by None at before = refl
    by (Some b) at before = from_words.each ino (i / 4096) b (i % 4096) below at (omega arith) ∙ before

-- ---- truncate

truncated : (s : State) (who : Who) (h : Handle) (size : ℕ) → first (truncate_rows s who h size) ≡ None
    → ((after_call s (who, Call.Truncate h size)).nodes ≡ (with_file s (file_number s.tables who h) (resized (content s who h) size) size).nodes) × ((after_call s (who, Call.Truncate h size)).entries ≡ s.entries)
unfolding truncate_done with_file
truncated s who h size none = (ap (λ o. (stepped s o (truncate_done s who h size)).state.nodes) none, ap (λ o. (stepped s o (truncate_done s who h size)).state.entries) none)

truncate_puts : (s : State) (who : Who) (h : Handle) (size n i : ℕ) → value_put s (who, Call.Truncate h size) n i ≡ None
unfolding put_by
truncate_puts s who h size n i = refl

open_puts : (s : State) (who : Who) (h : Handle) (p : List (List ℕ)) (f : Flags) (n i : ℕ) → value_put s (who, Call.Open h p f) n i ≡ None
unfolding put_by
open_puts s who h p f n i = refl

-- a call that puts none, and is no `fsync`, adds quietly
pub quietly : (start : State) (front later : List Item) (item : Item) (medium : State) → syncs item ≡ false → ((n i : ℕ) → value_put (run start (front ++ later)) (begun item) n i ≡ None)
    → AddsQuietly start front later medium (item ∷ [])
quietly start front later item medium no_sync none = (no_sync, record { each = λ n i below. inl (none n i) })

truncate_no_sync : (item : Item) (h : Handle) (size : ℕ) → item.call ≡ Call.Truncate h size → syncs item ≡ false
truncate_no_sync item h size is = ap (λ c. is_fsync c && is_ok item.reply) is

open_no_sync : (item : Item) (h : Handle) (p : List (List ℕ)) (f : Flags) → item.call ≡ Call.Open h p f → syncs item ≡ false
open_no_sync item h p f is = ap (λ c. is_fsync c && is_ok item.reply) is

pub truncate_goes_on : TruncateGoesOn
unfolding with_file come_from
truncate_goes_on g k l files e count numbers start history item h size blocks w ino ready call_is none file_is no_runs clean sets =
    batch_goes_on g k l files e count numbers start history (item ∷ []) ready leaves
    (λ image is. quietly start ready.going.front ready.going.later item (ready.going.world image is).medium.state (truncate_no_sync item h size call_is)
    (λ n i. ap (λ c. value_put (run start (ready.going.front ++ ready.going.later)) (item.who, c) n i) call_is ∙ truncate_puts (run start (ready.going.front ++ ready.going.later)) item.who h size n i))
  where
    s : State
    s = run start history

    old : List ℕ
    old = bytes_of (node_at (run start history).nodes (number numbers ino))

    bytes : List ℕ
    bytes = resized (bytes_of (node_at (run start history).nodes (number numbers ino))) size

    kept : (published_of (node_at (run start history).nodes (number numbers ino)) ≡ (inode k.volume ino).size) × (length (bytes_of (node_at (run start history).nodes (number numbers ino))) ≡ size_in files ino)
    kept = set_lengths g k l files e count numbers start history blocks w ino size ready sets

    behind : ((after_call s (item.who, Call.Truncate h size)).nodes ≡ (with_file s (file_number s.tables item.who h) (resized (content s item.who h) size) size).nodes)
        × ((after_call s (item.who, Call.Truncate h size)).entries ≡ s.entries)
    behind = truncated s item.who h size none

    nodes : (after_call s (begun item)).nodes ≡ slice_set s.nodes (number numbers ino) (Node.File (record { bytes = bytes; published = size }))
    nodes =
        ap (λ c. (after_call s (item.who, c)).nodes) call_is
        ∙ (behind.0 ∙ ap (λ (n : ℕ). slice_set s.nodes n (Node.File (record { bytes = resized (bytes_of (node_at s.nodes n)) size; published = size }))) (sym file_is))

    has : (image : Words) → IsImage l.cells image → IsWorld (sized files.sizes k.volume) (as_claims (staged_of k.volume files)) [] (journaled image) numbers s count
        → (i : ℕ) → i < size → byte_in (journaled image) (disk_at (extents k.volume ino) (i / 4096)) i ≡ slice_index (resized (bytes_of (node_at (run start history).nodes (number numbers ino))) size) i
    has image is world i low = elim (cases_lt i (length (bytes_of (node_at (run start history).nodes (number numbers ino))))) [
      | inl below ↦
          bytes_before g k l files e count numbers start history blocks w ino size ready sets no_runs (journaled image) world i below
          ∙ sym (resized_front (bytes_of (node_at (run start history).nodes (number numbers ino))) size i below low)
      | inr past ↦
          let same = kept.1 in
          zeros_stay g k l files count numbers start history blocks w ready sets.gathered image is ino i (below_file k.volume ino sets.file)
          (clean.zeros (sets.gathered.changes.each_image image is).0 (from_image g k l files count numbers start history blocks w ready sets.gathered image is) i (omega (arith, past, same)) low)
          ∙ sym (resized_behind (bytes_of (node_at (run start history).nodes (number numbers ino))) size i past)
    ]

    uncut : KeepsCutBytes (sides_of k files ready.going.old_numbers numbers) start ready.going.front ready.going.later → (i b : ℕ) → i < size → disk_at (extents k.volume ino) (i / 4096) ≡ Some b
        → IsSettled (sides_of k files ready.going.old_numbers numbers) ino (i / 4096) b → is_shortened (run start ready.going.front) (map begun ready.going.later) (number numbers ino) i ≡ false
    uncut cuts i b low at is = elim (cases_lt i (length (bytes_of (node_at (run start history).nodes (number numbers ino))))) [
      | inl below ↦ unstaged_uncut g k l files e count numbers start history blocks w ino size ready sets no_runs cuts i b below at is
      | inr past ↦ (let same = kept.1 in none_later (run start ready.going.front) ready.going.later (number numbers ino) i (clean.uncut i b (omega (arith, past, same)) low at))
    ]

    leaves : LeavesBatch g k l files e count numbers start history (item ∷ []) ready.going
    leaves =
        set_leaves g k l files e count numbers start history blocks w ino size ready sets item bytes (length-resized old size) nodes
        (ap (λ c. (after_call s (item.who, c)).entries) call_is ∙ behind.1) has uncut

-- ---- an open with `t`

opened_cut : (s : State) (who : Who) (h : Handle) (p : List (List ℕ)) (f : Flags) → first (open_rows (space s) (is_full s.tables) (is_busy alone s p) p f) ≡ None → exists_at (space s) p ≡ true → f.truncate ≡ true
    → ((after_call s (who, Call.Open h p f)).nodes ≡ slice_set s.nodes (number_at (space s) p) empty_file) × ((after_call s (who, Call.Open h p f)).entries ≡ s.entries)
unfolding open_done opening
opened_cut s who h p f none there cut = (
  ap (λ o. (stepped s o (open_done s who h p f)).state.nodes) none ∙ ap (λ (x : State). x.nodes) same,
  ap (λ o. (stepped s o (open_done s who h p f)).state.entries) none ∙ ap (λ (x : State). x.entries) same,
) where
  same : opening s p f.truncate ≡ with_node s (number_at (space s) p) empty_file
  same =
      ap (λ (b : Bool). if b then (if f.truncate then with_node s (number_at (space s) p) empty_file else s) else made s p empty_file) there
      ∙ ap (λ (b : Bool). if b then with_node s (number_at (space s) p) empty_file else s) cut

pub open_cut_goes_on : OpenCutGoesOn
open_cut_goes_on g k l files e count numbers start history item h p flags blocks w ino ready call_is none there cut file_is sets =
    batch_goes_on g k l files e count numbers start history (item ∷ []) ready
    (set_leaves g k l files e count numbers start history blocks w ino 0 ready sets item [] refl
    (ap (λ c. (after_call s (item.who, c)).nodes) call_is ∙ (behind.0 ∙ ap (λ (n : ℕ). slice_set s.nodes n empty_file) (sym file_is)))
    (ap (λ c. (after_call s (item.who, c)).entries) call_is ∙ behind.1) (λ image is world i low. absurd (omega (arith, low))) (λ cuts i b low at is. absurd (omega (arith, low))))
    (λ image is. quietly start ready.going.front ready.going.later item (ready.going.world image is).medium.state (open_no_sync item h p flags call_is)
    (λ n i. ap (λ c. value_put (run start (ready.going.front ++ ready.going.later)) (item.who, c) n i) call_is ∙ open_puts (run start (ready.going.front ++ ready.going.later)) item.who h p flags n i))
  where
    s : State
    s = run start history

    behind : ((after_call s (item.who, Call.Open h p flags)).nodes ≡ slice_set s.nodes (number_at (space s) p) empty_file) × ((after_call s (item.who, Call.Open h p flags)).entries ≡ s.entries)
    behind = opened_cut s item.who h p flags none there cut

-- ---- the length is published by the size alone

pub size_leaves_batch : SizeLeavesBatch
unfolding with_published
size_leaves_batch g k l files e count numbers start history item blocks w ino ready no_runs sets nodes entries =
    set_leaves g k l files e count numbers start history blocks w ino (size_in files ino) ready sets item (bytes_of (node_at s.nodes (number numbers ino))) kept.1 nodes_are entries
    (λ image is world i low. bytes_before g k l files e count numbers start history blocks w ino (size_in files ino) ready sets no_runs (journaled image) world i (let same = kept.1 in omega (arith, low, same)))
    (λ cuts i b low at is. unstaged_uncut g k l files e count numbers start history blocks w ino (size_in files ino) ready sets no_runs cuts i b (let same = kept.1 in omega (arith, low, same)) at is)
  where
    s : State
    s = run start history

    it : Node
    it = node_at (run start history).nodes (number numbers ino)

    kept : (published_of it ≡ (inode k.volume ino).size) × (length (bytes_of it) ≡ size_in files ino)
    kept = set_lengths g k l files e count numbers start history blocks w ino (size_in files ino) ready sets

    nodes_are : (after_call s (begun item)).nodes ≡ slice_set s.nodes (number numbers ino) (Node.File (record { bytes = bytes_of it; published = size_in files ino }))
    nodes_are =
        nodes
        ∙ (ap (λ (x : Node). slice_set s.nodes (number numbers ino) (published_node x)) (set_node g k l files e count numbers start history blocks w ino (size_in files ino) ready sets)
        ∙ ap (λ n. slice_set s.nodes (number numbers ino) (Node.File (record { bytes = bytes_of it; published = n }))) kept.1)
