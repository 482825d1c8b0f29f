-- A device on which the next lap of the log began is a checked image with the same content, and no line of its log is an entry.
use Rattle.std.specs.Prelude.{◌≡◌, ◌≢◌, ◌<◌, ◌≤◌, ◌+◌, ◌*◌, ◌/◌, ◌^◌, ℕ, true, false, All, List, [], ◌∷◌, length, count_by, filter_map, Option, Some, None, is_some, refl}
use Rattle.std.specs.List.{range_with_len}
use Rattle.std.proofs.Common.{◌∙◌, sym, ap, subst, arith, inl, inr}
use Rattle.std.proofs.Math.Path.{fun_ext}
use Rattle.std.proofs.lemmas.Bool.Decides.{nat_tests}
use Rattle.std.proofs.lemmas.List.Elements.{All-nil}
use Rattle.world_image_laws.specs.pm_model.Bytes.{line_bytes-same}
use Rattle.world_image_laws.specs.pm_model.Cells.{cell, newest}
use Rattle.world_image_laws.specs.pm_model.ImageLaws.{IsImage-words_of}
use Rattle.world_image_laws.specs.pm_model.Images.{words_of}
use Rattle.world_image_laws.specs.pm_model.Words.{line_bytes, Words}
use Rattle.world_image_laws.specs.layout_model.Fields.{zeros}
use Rattle.world_image_laws.specs.layout_model.Journal.{is_journal_word, IsSound, journaled}
use Rattle.world_image_laws.specs.layout_model.PlaceLaws.{behind_log-not_journaled, behind_log-words}
use Rattle.world_image_laws.specs.layout_model.Places.{commit_word, data_blocks, first_data, Geometry, is_data_block, is_journaled_line, log_line, reserve, state_line}
use Rattle.world_image_laws.specs.layout_model.Superblock.{geometry_at, has_magic, has_numbers, has_version}
use Rattle.world_image_laws.specs.layout_model.declared.lines.Draft.{Draft}
use Rattle.world_image_laws.specs.layout_model.Entries.{decode_entry, held_seq, is_self_valid}
use Rattle.world_image_laws.specs.layout_model.EntryLaws.{held_seq-decode_entry}
use Rattle.world_image_laws.specs.image_model.Checked.{IsCheckedAs, IsLogKept}
use Rattle.world_image_laws.specs.image_model.Content.{content, found, node_of}
use Rattle.world_image_laws.specs.image_model.Live.{entry_in, is_live, live_entries}
use Rattle.world_image_laws.specs.image_model.Kept.{AreKept}
use Rattle.world_image_laws.specs.image_model.Placed.{IsOutside}
use Rattle.world_image_laws.specs.image_model.Reading.{base_set, Reads}
use Rattle.world_image_laws.specs.image_model.Room.{has_none, held_after_recovery, unused_blocks}
use Rattle.world_image_laws.specs.image_model.Rules.{geometry_of, HasStagingBlocks, HasTarget, IsOfNoLater}
use Rattle.world_image_laws.specs.image_model.Volume.{Volume}
use Rattle.world_image_laws.specs.list_laws.Filters.{filter-In, filter_map-In, range-In}
use Rattle.world_image_laws.specs.list_laws.Members.{In}
use Rattle.world_image_laws.specs.volume_laws.ImageLaws.{journaled-idle, journaled-other}
use Rattle.world_image_laws.specs.volume_laws.LineWords.{data_word, data_word-not_journaled}
use Rattle.world_image_laws.specs.volume_laws.ReadingLaws.{reads-volume}
use Rattle.world_image_laws.specs.volume_laws.OwnerLaws.{owners-base}
use Rattle.world_image_laws.specs.image_laws.FreshLaws.{zeros-no_entry}
use Rattle.world_image_laws.specs.image_laws.ViewLaws.{head_word, sound-targets}
use Rattle.world_image_laws.specs.k_split_model.Stands.{IsOldOrNew, Stands}
use Rattle.world_image_laws.specs.k_split_model.View.{View}
use Rattle.k_split.specs.Laps.{IsLogWord, next_base}
use Rattle.world_image_laws.specs.Changed.{sound_headed}
use Rattle.world_image_laws.specs.Images.{HasNoEntry, HasOldLines}
use Rattle.log_replay.specs.NextLaps.{BeginsLap}
use Rattle.log_replay.specs.Sheds.{IsAtRest, MaySettle}

-- ---- lines

nothing : Words
nothing i = 0

-- a line of zeros
pub zero_line : (f : Words) (line : ℕ) → ((i : ℕ) → i / 8 ≡ line → f i ≡ 0) → line_bytes f line ≡ zeros 64
unfolding line_bytes nothing
zero_line f line zero = line_bytes-same f nothing line zero ∙ refl

-- A line that is no valid entry of this lap or a later one has no entry at a number past the lap.
none_past : (bytes : List ℕ) (seq : ℕ) → seq < 2 ^ 64 → (is_self_valid bytes ≡ true → held_seq bytes < seq) → decode_entry bytes seq ≡ None
none_past bytes seq small early = by (decode_entry bytes seq) refl where
  by : (o : Option Draft) → decode_entry bytes seq ≡ o → decode_entry bytes seq ≡ None
  by None is = is
  by (Some d) is =
      let held : held_seq bytes ≡ seq = held_seq-decode_entry bytes seq d small is in
      let valid : is_self_valid bytes ≡ true = ap (λ n. is_some (decode_entry bytes n)) held ∙ ap (λ (o : Option Draft). is_some o) is in
      absurd (omega (arith, early valid, held))

-- zeros are no entry at all
pub none_of_zeros : (bytes : List ℕ) (n : ℕ) → bytes ≡ zeros 64 → decode_entry bytes n ≡ None
none_of_zeros bytes n is = ap (λ b. decode_entry b n) is ∙ zeros-no_entry n

pub never_valid : (bytes : List ℕ) → bytes ≡ zeros 64 → is_self_valid bytes ≡ true → ⊥
never_valid bytes is valid =
    let none : false ≡ true = sym (ap (λ (o : Option Draft). is_some o) (none_of_zeros bytes (held_seq bytes) is)) ∙ valid in
    cc

-- where no slot has an entry, none is live
pub no_members : (ds : List Draft) → ((d : Draft) → In d ds → ⊥) → ds ≡ []
no_members [] none = refl
no_members (d ∷ ds) none = absurd (none d (inl refl))

pub none_live : (v : Volume) (f : Words) → HasNoEntry v f → live_entries v f ≡ []
none_live v f none =
    no_members (live_entries v f) (λ d is.
    let valid = filter-In (is_live v) (filter_map (entry_in v f) (range_with_len 0 v.geometry.log)) d is in
    let from = filter_map-In (entry_in v f) (range_with_len 0 v.geometry.log) d valid.0 in
    let place = range-In 0 v.geometry.log from.0 from.1 in
    let never : None ≡ Some d = sym (none from.0 (omega (arith, place.1))) ∙ from.2 in
    cc)

-- ---- blocks and what is found do not go by the base

unused_based : (base : ℕ) (v : Volume) → unused_blocks (base_set base v) ≡ unused_blocks v
unused_based base v = λ i. count_by (λ b. has_none (fun_ext (λ n. owners-base v base n) i b)) (range_with_len (first_data v.geometry) (data_blocks v.geometry))

held_based : (base : ℕ) (v : Volume) → held_after_recovery (base_set base v) [] ≡ held_after_recovery v []
held_based base v = refl

based : (base : ℕ) (v : Volume) (f : Words) (path : List (List ℕ)) → found (base_set base v) [] f path ≡ found v [] f path
unfolding found node_of
based base v f path = refl

-- ---- an image of a volume with another base, in whose log nothing is an entry

-- in a slot: no entry of this base, and none of a later lap
pub record Slot (v : Volume) (base : ℕ) (j : Words) (slot : ℕ) : Type 0 where
  pub none : decode_entry (line_bytes j (log_line v.geometry slot)) (base + slot) ≡ None
  pub no_later : is_self_valid (line_bytes j (log_line v.geometry slot)) ≡ true → held_seq (line_bytes j (log_line v.geometry slot)) < base + v.geometry.log
  pub old : is_self_valid (line_bytes j (log_line v.geometry slot)) ≡ true → held_seq (line_bytes j (log_line v.geometry slot)) < base

-- words of the log
pub log-beside : (v : Volume) (i : ℕ) → IsLogWord v i → is_journal_word i ≡ false
log-beside v i at = behind_log-words v.geometry i (omega (arith, at.from))

pub log-no_line : (v : Volume) (i : ℕ) → IsLogWord v i → is_journaled_line v.geometry (i / 8) ≡ false
log-no_line v i at = behind_log-not_journaled v.geometry (i / 8) at.from

pub in-log : (v : Volume) (slot i : ℕ) → slot < v.geometry.log → i / 8 ≡ log_line v.geometry slot → IsLogWord v i
in-log v slot i below at = record { from = omega (arith, at); below = omega (arith, at, below) }

-- in whose log nothing is live, and which is kept
module _ (g : Geometry) (k : View) (numbers : geometry_of (words_of k.cells) ≡ g) (checked : IsCheckedAs (4096 * g.blocks) (words_of k.cells) k.volume)
    (w : Volume) (base : ℕ) (same_volume : w ≡ base_set base k.volume) (kept : AreKept w)
    (h : Words) (sound : IsSound g h) (reads : Reads g (journaled h) w) (least : 1 ≤ base) (most : base ≤ 2 ^ 63)
    (others : (i : ℕ) → is_journal_word i ≡ false → is_journaled_line g (i / 8) ≡ false → ¬ IsLogWord k.volume i → h i ≡ words_of k.cells i)
    (log : IsLogKept w (journaled h)) (dead_then : live_entries w (journaled h) ≡ []) where
  abbrev f : Words
  f = words_of k.cells

  geometry_is : k.volume.geometry ≡ g
  geometry_is = checked.reads.geometry ∙ numbers

  base_is : w.base ≡ base
  base_is = ap (λ (v : Volume). v.base) same_volume

  -- the head

  low_word : (i : ℕ) → i < 512 → i ≢ commit_word → i / 8 ≢ state_line → h i ≡ f i
  low_word i below commit state =
      let at = head_word g i below commit state in
      others i at.0 at.1 (λ is. omega (arith, is.from, below))

  first_line : line_bytes h 0 ≡ line_bytes f 0
  first_line = line_bytes-same h f 0 (λ i at. low_word i (omega (arith, at)) (λ e. omega (arith, at, e)) (λ e. omega (arith, at, e)))

  pub numbers_kept : geometry_of h ≡ g
  numbers_kept = ap geometry_at first_line ∙ numbers

  pub checked_kept : IsCheckedAs (4096 * g.blocks) h w
  checked_kept = record {
    head = record {
      whole_blocks = checked.head.whole_blocks;
      magic = ap has_magic first_line ∙ checked.head.magic;
      version = ap has_version first_line ∙ checked.head.version;
      numbers = record {
        numbers = ap has_numbers first_line ∙ checked.head.numbers.numbers;
        whole = ap (λ (x : Geometry). 4096 * x.blocks) (sym numbers_kept);
        state = reads.state;
        others = λ i from below commit state. low_word i below commit state ∙ checked.head.numbers.others i from below commit state;
      };
      records = λ r below. subst (λ x. HasTarget x h r) (sym numbers_kept) (sound-targets g h r sound);
      state = record {
        count = sound.count;
        least_base = subst (λ n. 1 ≤ n) (sym base_is ∙ reads.base) least;
        most_base = subst (λ n. n ≤ 2 ^ 63) (sym base_is ∙ reads.base) most;
      };
    };
    reads = subst (λ x. Reads x (journaled h) w) (sym numbers_kept) reads;
    kept = kept;
    log = log;
  }

  -- the content

  data_beside : (b j : ℕ) → is_data_block g b ≡ true → j < 512 → ¬ IsLogWord k.volume (512 * b + j)
  data_beside b j is short at =
      beside k.volume.geometry b j (subst (λ (x : Geometry). is_data_block x b ≡ true) (sym geometry_is) is) short at.below where
        beside : (x : Geometry) (b j : ℕ) → is_data_block x b ≡ true → j < 512 → (512 * b + j) / 8 < log_line x 0 + x.log → ⊥
        beside x b j is short at = grind (arith, nat_tests, is, short, at)

  pub data_kept : (b j : ℕ) → is_data_block g b ≡ true → j < 512 → journaled h (512 * b + j) ≡ f (512 * b + j)
  data_kept b j is below =
      let out = behind_log-words g (512 * b + j) (data_word g b j is below) in
      let line = data_word-not_journaled g b j is below in
      journaled-other g h (512 * b + j) sound out line ∙ others (512 * b + j) out line (data_beside b j is below)

  -- what is found is what the volume before finds in these words
  pub content_kept : (path : List (List ℕ)) → content g h path ≡ found k.volume [] (journaled h) path
  content_kept path =
      ap (λ v. found v (live_entries v (journaled h)) (journaled h) path) (reads-volume g (journaled h) w reads)
      ∙ (ap (λ live. found w live (journaled h) path) dead_then
      ∙ (ap (λ v. found v [] (journaled h) path) same_volume ∙ based base k.volume (journaled h) path))

-- in no slot of which is an entry
module _ (g : Geometry) (k : View) (numbers : geometry_of (words_of k.cells) ≡ g) (checked : IsCheckedAs (4096 * g.blocks) (words_of k.cells) k.volume)
    (dead : live_entries k.volume (journaled (words_of k.cells)) ≡ []) (was : IsAtRest k) (w : Volume) (base : ℕ) (same_volume : w ≡ base_set base k.volume) (kept : AreKept w)
    (h : Words) (sound : IsSound g h) (reads : Reads g (journaled h) w) (least : 1 ≤ base) (most : base ≤ 2 ^ 63)
    (others : (i : ℕ) → is_journal_word i ≡ false → is_journaled_line g (i / 8) ≡ false → ¬ IsLogWord k.volume i → h i ≡ words_of k.cells i)
    (slots : (slot : ℕ) → slot < k.volume.geometry.log → Slot k.volume base (journaled h) slot) where
  base_now : w.base ≡ base
  base_now = ap (λ (v : Volume). v.base) same_volume

  slot_of : (slot : ℕ) → slot < w.geometry.log → Slot k.volume base (journaled h) slot
  slot_of slot below = slots slot (subst (λ (x : Geometry). slot < x.log) (ap (λ (v : Volume). v.geometry) same_volume) below)

  no_entry_based : HasNoEntry w (journaled h)
  no_entry_based slot below =
      (λ i. decode_entry (line_bytes (journaled h) (log_line (same_volume i).geometry slot)) (base_now i + slot)) ∙ (slot_of slot below).none

  old_based : HasOldLines w (journaled h)
  old_based slot below valid =
      let geometries = ap (λ (v : Volume). v.geometry) same_volume in
      let lines : line_bytes (journaled h) (log_line w.geometry slot) ≡ line_bytes (journaled h) (log_line k.volume.geometry slot) =
      ap (λ (x : Geometry). line_bytes (journaled h) (log_line x slot)) geometries
      in
      omega (arith, ap held_seq lines, (slot_of slot below).old (ap is_self_valid (sym lines) ∙ valid), base_now)

  dead_based : live_entries w (journaled h) ≡ []
  dead_based = none_live w (journaled h) no_entry_based

  log_based : IsLogKept w (journaled h)
  log_based = record {
    recovers = record {
      staged = subst (All (HasStagingBlocks w)) (sym dead_based) (All-nil (HasStagingBlocks w));
      apart = λ s t d e before below is_s is_t live_d live_e. absurd (not_there t e below is_t);
      orders = λ s t d e before below is_s is_t of_d of_e. absurd (not_there t e below is_t);
      held = omega (
        arith,
        ap (held_after_recovery w) dead_based,
        ap (λ (v : Volume). held_after_recovery v []) same_volume,
        held_based base k.volume,
        ap (held_after_recovery k.volume) dead,
        checked.log.recovers.held,
        ap (λ (v : Volume). reserve v.geometry) same_volume,
        ap (λ (v : Volume). data_blocks v.geometry) same_volume,
      );
      unused = omega (
        arith,
        ap length dead_based,
        ap length dead,
        checked.log.recovers.unused,
        ap (λ (v : Volume). reserve v.geometry) same_volume,
        ap unused_blocks same_volume,
        unused_based base k.volume,
      );
    };
    no_later = λ slot below valid.
        let geometries = ap (λ (v : Volume). v.geometry) same_volume in
        let lines : line_bytes (journaled h) (log_line w.geometry slot) ≡ line_bytes (journaled h) (log_line k.volume.geometry slot) =
        ap (λ (x : Geometry). line_bytes (journaled h) (log_line x slot)) geometries
        in
        omega (arith, ap held_seq lines, (slot_of slot below).no_later (ap is_self_valid (sym lines) ∙ valid), ap (λ (x : Geometry). x.log) geometries, base_now);
  } where
    not_there : (slot : ℕ) (d : Draft) → slot < w.geometry.log → entry_in w (journaled h) slot ≡ Some d → ⊥
    not_there slot d below is = let never : None ≡ Some d = sym (no_entry_based slot below) ∙ is in cc

  pub numbers_based : geometry_of h ≡ g
  numbers_based = numbers_kept g k numbers checked w base same_volume kept h sound reads least most others log_based dead_based

  pub checked_based : IsCheckedAs (4096 * g.blocks) h w
  checked_based = checked_kept g k numbers checked w base same_volume kept h sound reads least most others log_based dead_based

  pub data_based : (b j : ℕ) → is_data_block g b ≡ true → j < 512 → journaled h (512 * b + j) ≡ words_of k.cells (512 * b + j)
  data_based = data_kept g k numbers checked w base same_volume kept h sound reads least most others log_based dead_based

  pub content_based : (path : List (List ℕ)) → content g h path ≡ found k.volume [] (journaled h) path
  content_based = content_kept g k numbers checked w base same_volume kept h sound reads least most others log_based dead_based

-- a slot of the lap before holds no entry of the next one
slot_risen : (v : Volume) (j h : Words) (slot : ℕ) → v.base ≤ 2 ^ 62 → v.geometry.log ≤ 1024 → slot < v.geometry.log → IsOfNoLater v j slot
    → line_bytes h (log_line v.geometry slot) ≡ line_bytes j (log_line v.geometry slot) → Slot v (next_base v) h slot
slot_risen v j h slot low small below no_later same = record {
  none = none_past (line_bytes h (log_line v.geometry slot)) (next_base v + slot) (omega (arith, low, small, below)) (λ valid. omega (arith, early valid));
  no_later = λ valid. omega (arith, early valid);
  old = early;
} where
  early : is_self_valid (line_bytes h (log_line v.geometry slot)) ≡ true → held_seq (line_bytes h (log_line v.geometry slot)) < v.base + v.geometry.log
  early valid = omega (arith, ap held_seq same, no_later (ap is_self_valid (sym same) ∙ valid))

-- nor does a line of zeros
pub slot_zero : (v : Volume) (base : ℕ) (h : Words) (slot : ℕ) → line_bytes h (log_line v.geometry slot) ≡ zeros 64 → Slot v base h slot
slot_zero v base h slot zero = record {
  none = none_of_zeros (line_bytes h (log_line v.geometry slot)) (base + slot) zero;
  no_later = λ valid. absurd (never_valid (line_bytes h (log_line v.geometry slot)) zero valid);
  old = λ valid. absurd (never_valid (line_bytes h (log_line v.geometry slot)) zero valid);
}

-- ---- the device

module _ (g : Geometry) (k k2 : View) (numbers : geometry_of (words_of k.cells) ≡ g) (checked : IsCheckedAs (4096 * g.blocks) (words_of k.cells) k.volume)
    (dead : live_entries k.volume (journaled (words_of k.cells)) ≡ []) (was : IsAtRest k) (rest : IsAtRest k2) (begins : BeginsLap k k2) where
  abbrev h : Words
  h = words_of k2.cells

  own_geometry : k.volume.geometry ≡ g
  own_geometry = checked.reads.geometry ∙ numbers

  abbrev volume_by : BeginsLap k k2 → (base : ℕ) × (k2.volume ≡ base_set base k.volume)
  volume_by (inl low) = (next_base k.volume, low.1.volume_is)
  volume_by (inr high) = (1, high.1.volume_is)

  pub volume_now : (base : ℕ) × (k2.volume ≡ base_set base k.volume)
  volume_now = volume_by begins

  now_geometry : k2.volume.geometry ≡ g
  now_geometry = ap (λ (v : Volume). v.geometry) (volume_by begins).1 ∙ own_geometry

  -- words

  others_by : BeginsLap k k2 → (i : ℕ) → is_journal_word i ≡ false → is_journaled_line k.volume.geometry (i / 8) ≡ false → ¬ IsLogWord k.volume i → cell k2.cells i ≡ cell k.cells i
  others_by (inl low) i out line beside = low.1.others i out line
  others_by (inr high) i out line beside = high.1.others i out line beside

  pub others_now : (i : ℕ) → is_journal_word i ≡ false → is_journaled_line g (i / 8) ≡ false → ¬ IsLogWord k.volume i → cell k2.cells i ≡ cell k.cells i
  others_now i out line beside = others_by begins i out (subst (λ (x : Geometry). is_journaled_line x (i / 8) ≡ false) (sym own_geometry) line) beside

  others_words : (i : ℕ) → is_journal_word i ≡ false → is_journaled_line g (i / 8) ≡ false → ¬ IsLogWord k.volume i → h i ≡ words_of k.cells i
  others_words i out line beside = ap newest (others_now i out line beside)

  settled : (x : View) → IsAtRest x → Stands x.volume.geometry x.volume x.cells
  settled x at = subst (λ v. Stands v.geometry v x.cells) (at.order.settled at.unbatched) at.order.stands

  stands : Stands g k2.volume k2.cells
  stands = subst (λ x. Stands x k2.volume k2.cells) now_geometry (settled k2 rest)

  idle_was : words_of k.cells commit_word ≡ 0
  idle_was = ap newest (settled k was).idle

  idle_now : h commit_word ≡ 0
  idle_now = ap newest stands.idle

  seen_was : (i : ℕ) → is_journal_word i ≡ false → journaled (words_of k.cells) i ≡ words_of k.cells i
  seen_was i out = journaled-idle (words_of k.cells) i idle_was out

  seen_now : (i : ℕ) → is_journal_word i ≡ false → journaled h i ≡ h i
  seen_now i out = journaled-idle h i idle_now out

  sound_now : IsSound g h
  sound_now = record { count = subst (λ n. n ≤ 128) (sym idle_now) (omega arith); targets = λ r below. absurd (omega (arith, below, idle_now)) }

  reads_now : Reads g (journaled h) k2.volume
  reads_now = stands.reads h (IsImage-words_of k2.cells)

  range_by : (b : BeginsLap k k2) → (1 ≤ (volume_by b).0) × ((volume_by b).0 ≤ 2 ^ 63)
  range_by (inl low) =
      let least : 1 ≤ k.volume.base = subst (λ n. 1 ≤ n) (sym checked.reads.base) checked.head.state.least_base in
      (omega (arith, least), omega (arith, low.0, was.order.whole.kept.geometry.most_log))
  range_by (inr high) = (omega arith, omega arith)

  slot_by : (b : BeginsLap k k2) → (slot : ℕ) → slot < k.volume.geometry.log → Slot k.volume (volume_by b).0 (journaled h) slot
  slot_by (inl low) slot below =
      slot_risen k.volume (journaled (words_of k.cells)) (journaled h) slot low.0 was.order.whole.kept.geometry.most_log below (checked.log.no_later slot below)
      (line_bytes-same (journaled h) (journaled (words_of k.cells)) (log_line k.volume.geometry slot) (λ i at.
      let is = in-log k.volume slot i below at in
      let out = log-beside k.volume i is in
      seen_now i out ∙ (ap newest (low.1.others i out (log-no_line k.volume i is)) ∙ sym (seen_was i out))))
  slot_by (inr high) slot below =
      slot_zero k.volume 1 (journaled h) slot (zero_line (journaled h) (log_line k.volume.geometry slot) (λ i at.
      let is = in-log k.volume slot i below at in
      seen_now i (log-beside k.volume i is) ∙ ap newest (high.1.zero i is)))

  pub numbers_lap : geometry_of h ≡ g
  numbers_lap =
      numbers_based g k numbers checked dead was k2.volume (volume_by begins).0 (volume_by begins).1 rest.order.whole.kept.kept h sound_now reads_now (range_by begins).0 (range_by begins).1
      others_words (slot_by begins)

  pub no_entry_now : HasNoEntry k2.volume (journaled h)
  no_entry_now =
      no_entry_based g k numbers checked dead was k2.volume (volume_by begins).0 (volume_by begins).1 rest.order.whole.kept.kept h sound_now reads_now (range_by begins).0 (range_by begins).1
      others_words (slot_by begins)

  pub old_now : HasOldLines k2.volume (journaled h)
  old_now =
      old_based g k numbers checked dead was k2.volume (volume_by begins).0 (volume_by begins).1 rest.order.whole.kept.kept h sound_now reads_now (range_by begins).0 (range_by begins).1
      others_words (slot_by begins)

  pub checked_lap : IsCheckedAs (4096 * g.blocks) h k2.volume
  checked_lap =
      checked_based g k numbers checked dead was k2.volume (volume_by begins).0 (volume_by begins).1 rest.order.whole.kept.kept h sound_now reads_now (range_by begins).0 (range_by begins).1
      others_words (slot_by begins)

  pub data_now : (b j : ℕ) → is_data_block g b ≡ true → j < 512 → journaled h (512 * b + j) ≡ words_of k.cells (512 * b + j)
  data_now =
      data_based g k numbers checked dead was k2.volume (volume_by begins).0 (volume_by begins).1 rest.order.whole.kept.kept h sound_now reads_now (range_by begins).0 (range_by begins).1
      others_words (slot_by begins)

  pub content_lap : (path : List (List ℕ)) → content g h path ≡ found k.volume [] (journaled h) path
  content_lap =
      content_based g k numbers checked dead was k2.volume (volume_by begins).0 (volume_by begins).1 rest.order.whole.kept.kept h sound_now reads_now (range_by begins).0 (range_by begins).1
      others_words (slot_by begins)

-- ---- the power went while the base rose

module _ (k : View) (may : MaySettle k) (checked : IsCheckedAs (4096 * k.volume.geometry.blocks) (words_of k.cells) k.volume) (low : k.volume.base ≤ 2 ^ 62)
    (w : Volume) (is : w ≡ base_set (next_base k.volume) k.volume) (kept : AreKept w) (image : Words)
    (changed : IsOldOrNew k.volume.geometry [] k.volume w (words_of k.cells) image) (reads : Reads k.volume.geometry (journaled image) w) where
  abbrev g1 : Geometry
  g1 = k.volume.geometry

  sound_was : IsSound g1 (words_of k.cells)
  sound_was = sound_headed g1 (words_of k.cells) (record { head = checked.head; geometry = may.numbers })

  outside_none : (i : ℕ) → IsOutside [] i
  outside_none i n below same = absurd (omega (arith, below))

  others_risen : (i : ℕ) → is_journal_word i ≡ false → is_journaled_line g1 (i / 8) ≡ false → image i ≡ words_of k.cells i
  others_risen i out line = changed.others i out line (outside_none i)

  slot_cut : (slot : ℕ) → slot < g1.log → Slot k.volume (next_base k.volume) (journaled image) slot
  slot_cut slot below =
      slot_risen k.volume (journaled (words_of k.cells)) (journaled image) slot low may.rest.order.whole.kept.geometry.most_log below (checked.log.no_later slot below)
      (line_bytes-same (journaled image) (journaled (words_of k.cells)) (log_line g1 slot) (λ i at.
      let in_log = in-log k.volume slot i below at in
      let out = log-beside k.volume i in_log in
      let line = log-no_line k.volume i in_log in
      journaled-other g1 image i changed.sound out line ∙ (others_risen i out line ∙ sym (journaled-other g1 (words_of k.cells) i sound_was out line))))

  least_risen : 1 ≤ next_base k.volume
  least_risen = let least : 1 ≤ k.volume.base = subst (λ n. 1 ≤ n) (sym checked.reads.base) checked.head.state.least_base in omega (arith, least)

  most_risen : next_base k.volume ≤ 2 ^ 63
  most_risen = omega (arith, low, may.rest.order.whole.kept.geometry.most_log)

  pub numbers_risen : geometry_of image ≡ g1
  numbers_risen =
      numbers_based g1 k may.numbers checked may.dead may.rest w (next_base k.volume) is kept image changed.sound reads least_risen most_risen
      (λ i out line beside. others_risen i out line) slot_cut

  pub checked_risen : IsCheckedAs (4096 * g1.blocks) image w
  checked_risen =
      checked_based g1 k may.numbers checked may.dead may.rest w (next_base k.volume) is kept image changed.sound reads least_risen most_risen
      (λ i out line beside. others_risen i out line) slot_cut

  pub data_risen : (b j : ℕ) → is_data_block g1 b ≡ true → j < 512 → journaled image (512 * b + j) ≡ words_of k.cells (512 * b + j)
  data_risen =
      data_based g1 k may.numbers checked may.dead may.rest w (next_base k.volume) is kept image changed.sound reads least_risen most_risen
      (λ i out line beside. others_risen i out line) slot_cut

  pub content_risen : (path : List (List ℕ)) → content g1 image path ≡ found k.volume [] (journaled image) path
  content_risen =
      content_based g1 k may.numbers checked may.dead may.rest w (next_base k.volume) is kept image changed.sound reads least_risen most_risen
      (λ i out line beside. others_risen i out line) slot_cut
