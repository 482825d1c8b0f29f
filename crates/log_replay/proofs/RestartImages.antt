-- While the log begins anew, each honest image is checked and has the content of the image before: a line of the log is as it was, or
-- it is no entry.
use Rattle.std.specs.Prelude.{◌≡◌, ◌≢◌, ◌⊎◌, ◌<◌, ◌≤◌, ◌+◌, ◌*◌, ◌/◌, ◌%◌, ◌^◌, ℕ, zero, suc, true, false, All, List, [], length, Some, Option, is_some, refl}
use Rattle.std.specs.List.{range_with_len}
use Rattle.std.proofs.Common.{◌∙◌, sym, ap, subst, arith, inl, inr}
use Rattle.std.proofs.lemmas.Bool.{cases_Bool, cases_eq}
use Rattle.std.proofs.lemmas.List.Elements.{All-nil}
use Rattle.world_image_laws.specs.pm_model.Bytes.{line_bytes-same}
use Rattle.world_image_laws.specs.pm_model.declared.Cell.{Cell}
use Rattle.world_image_laws.specs.pm_model.declared.Cell.TheVariants.{Single, Two, Marked, Lent}
use Rattle.world_image_laws.specs.pm_model.Cells.{cell, has_two, is_single, IsCandidate, newest, oldest}
use Rattle.world_image_laws.specs.pm_model.ImageLaws.{image-single, IsImage-words_of}
use Rattle.world_image_laws.specs.pm_model.Images.{IsImage, words_of}
use Rattle.world_image_laws.specs.pm_model.Words.{line_bytes, Words}
use Rattle.k_split.specs.block_io.Overwrites.{GoesToZero}
use Rattle.world_image_laws.specs.layout_model.Journal.{is_journal_word, IsSound, journaled}
use Rattle.world_image_laws.specs.layout_model.Places.{commit_word, Geometry, is_data_block, is_journaled_line, log_line}
use Rattle.world_image_laws.specs.layout_model.declared.lines.Draft.{Draft}
use Rattle.world_image_laws.specs.layout_model.Entries.{decode_entry, held_seq, is_self_valid}
use Rattle.world_image_laws.specs.layout_model.EntryLaws.{held_seq-decode_entry}
use Rattle.world_image_laws.specs.image_model.Checked.{IsCheckedAs, IsLogKept}
use Rattle.world_image_laws.specs.image_model.Content.{content, found}
use Rattle.world_image_laws.specs.image_model.Honest.{IsHonest}
use Rattle.world_image_laws.specs.image_model.Kept.{AreKept}
use Rattle.world_image_laws.specs.image_model.Live.{entry_in, is_live, live_entries, valid_entries}
use Rattle.world_image_laws.specs.image_model.Placed.{block_at, IsOutside}
use Rattle.world_image_laws.specs.image_model.Reading.{base_set, Reads}
use Rattle.world_image_laws.specs.image_model.Room.{held_after_recovery}
use Rattle.world_image_laws.specs.image_model.Rules.{HasStagingBlocks}
use Rattle.world_image_laws.specs.image_model.Volume.{chain, Volume, volume}
use Rattle.world_image_laws.specs.image_laws.CheckedLaws.{checked-parts, parts-checked}
use Rattle.world_image_laws.specs.image_laws.FreshLaws.{zeros-no_entry}
use Rattle.k_split.specs.k_journal.declared.outcomes.Commit.{Commit}
use Rattle.world_image_laws.specs.k_split_model.Stands.{IsOldOrNew, Stands}
use Rattle.world_image_laws.specs.k_split_model.View.{View}
use Rattle.k_split.proofs.LogLaws.{data_beside, journal_beside, line_beside, seen}
use Rattle.k_split.specs.Answers.{Changes, IsCut}
use Rattle.k_split.specs.Laps.{ClearsLog, IsLogWord, IsRestartAnswer, LosesLog}
use Rattle.world_image_laws.specs.list_laws.Filters.{filter-In, filter_map-In, In-filter, In-filter_map, range-In}
use Rattle.world_image_laws.specs.list_laws.Members.{In}
use Rattle.world_image_laws.specs.volume_laws.ImageLaws.{journaled-other}
use Rattle.world_image_laws.specs.volume_laws.ReadingLaws.{reads-same}
use Rattle.log_replay.proofs.Dropping.{begun}
use Rattle.log_replay.proofs.LapImages.{checked_based, checked_kept, content_based, content_kept, data_based, data_kept, in-log, log-beside, log-no_line, no_members, numbers_based, numbers_kept, Slot, slot_zero, zero_line}
use Rattle.log_replay.proofs.Opened.{content_of_image, shown_in}
use Rattle.log_replay.proofs.OwnImage.{dead-own, recovered-own, volume-own}
use Rattle.log_replay.proofs.Shown.{shown-single}
use Rattle.log_replay.specs.Sheds.{MaySettle, StaysShown, StillShows}

-- ---- a log of which some lines are no entry any more

-- the line is as it was, or it is no entry
abbrev IsLineKept : Geometry → Words → Words → ℕ → Type 0
IsLineKept g j h slot = (line_bytes h (log_line g slot) ≡ line_bytes j (log_line g slot)) ⊎ (is_self_valid (line_bytes h (log_line g slot)) ≡ false)

module _ (v : Volume) (j h : Words) (lines : (slot : ℕ) → slot < v.geometry.log → IsLineKept v.geometry j h slot) (small : v.base + v.geometry.log ≤ 2 ^ 64)
    (kept : IsLogKept v j) (dead : live_entries v j ≡ []) where
  entry-before : (slot : ℕ) (d : Draft) → slot < v.geometry.log → entry_in v h slot ≡ Some d → entry_in v j slot ≡ Some d
  entry-before slot d below is = by (lines slot below) where
    by : IsLineKept v.geometry j h slot → entry_in v j slot ≡ Some d
    by (inl same) = ap (λ bytes. decode_entry bytes (v.base + slot)) (sym same) ∙ is
    by (inr spoilt) =
        let bytes = line_bytes h (log_line v.geometry slot) in
        let held : held_seq (line_bytes h (log_line v.geometry slot)) ≡ v.base + slot = held_seq-decode_entry bytes (v.base + slot) d (omega (arith, small, below)) is in
        let valid : is_self_valid (line_bytes h (log_line v.geometry slot)) ≡ true = ap (λ n. is_some (decode_entry bytes n)) held ∙ ap (λ (o : Option Draft). is_some o) is in
        let never : false ≡ true = sym spoilt ∙ valid in
        cc

  dead-then : live_entries v h ≡ []
  dead-then =
      no_members (live_entries v h) (λ d is.
      let valid = filter-In (is_live v) (valid_entries v h) d is in
      let from = filter_map-In (entry_in v h) (range_with_len 0 v.geometry.log) d valid.0 in
      let place = range-In 0 v.geometry.log from.0 from.1 in
      let was = entry-before from.0 d (omega (arith, place.1)) from.2 in
      let before : In d (live_entries v j) =
      In-filter (is_live v) (valid_entries v j) d (In-filter_map (entry_in v j) (range_with_len 0 v.geometry.log) from.0 d from.1 was) valid.1
      in
      let never : In d [] = subst (In d) dead before in
      never)

  log-then : IsLogKept v h
  log-then = record {
    recovers = record {
      staged = subst (All (HasStagingBlocks v)) (sym dead-then) (All-nil (HasStagingBlocks v));
      apart = λ s t d e before below is_s is_t live_d live_e.
          kept.recovers.apart s t d e before below (entry-before s d (omega (arith, before, below)) is_s) (entry-before t e below is_t) live_d live_e;
      orders = λ s t d e before below is_s is_t of_d of_e.
          kept.recovers.orders s t d e before below (entry-before s d (omega (arith, before, below)) is_s) (entry-before t e below is_t) of_d of_e;
      held = omega (arith, ap (held_after_recovery v) dead-then, ap (held_after_recovery v) dead, kept.recovers.held);
      unused = omega (arith, ap length dead-then, ap length dead, kept.recovers.unused);
    };
    no_later = λ slot below valid. later slot below valid (lines slot below);
  } where
    later : (slot : ℕ) → slot < v.geometry.log → is_self_valid (line_bytes h (log_line v.geometry slot)) ≡ true → IsLineKept v.geometry j h slot
        → held_seq (line_bytes h (log_line v.geometry slot)) < v.base + v.geometry.log
    later slot below valid (inl same) = omega (arith, ap held_seq same, kept.no_later slot below (ap is_self_valid (sym same) ∙ valid))
    later slot below valid (inr spoilt) = let never : false ≡ true = sym spoilt ∙ valid in cc

-- ---- a line that is being set to zero, in an honest image

-- below n it holds of each, or of some it does not
each_or_not : (P : ℕ → Type 0) → ((j : ℕ) → P j ⊎ ¬ P j) → (n : ℕ) → ((j : ℕ) → j < n → P j) ⊎ ((j : ℕ) × (j < n) × (¬ P j))
each_or_not P decided zero = inl (λ j below. absurd (omega (arith, below)))
each_or_not P decided (suc n) = by (each_or_not P decided n) (decided n) where
  by : ((j : ℕ) → j < n → P j) ⊎ ((j : ℕ) × (j < n) × (¬ P j)) → P n ⊎ ¬ P n → ((j : ℕ) → j < suc n → P j) ⊎ ((j : ℕ) × (j < suc n) × (¬ P j))
  by (inr (j, below, not)) last = inr (j, omega (arith, below), not)
  by (inl each) (inr not) = inr (n, omega arith, not)
  by (inl each) (inl last) = inl (λ j below. elim (cases_eq j n) [ inl same ↦ subst P (sym same) last | inr other ↦ each j (omega (arith, below, other)) ])

-- of a cell of one candidate, a value that may be is the older one
single_older : (c : Cell) (x : ℕ) → has_two c ≡ false → is_single c ≡ true → IsCandidate c x → x ≡ oldest c
single_older (Single a) x none one is = is
single_older (Two a b) x none one is = let never : true ≡ false = none in cc
single_older (Marked a b) x none one is = let never : true ≡ false = none in cc
single_older Lent x none one is = let never : false ≡ true = one in cc

single_none : (c : Cell) → is_single c ≡ true → has_two c ≡ false
single_none (Single a) one = refl
single_none (Two a b) one = let never : false ≡ true = one in cc
single_none (Marked a b) one = let never : false ≡ true = one in cc
single_none Lent one = let never : false ≡ true = one in cc

older_newest : (c : Cell) → is_single c ≡ true → oldest c ≡ newest c
older_newest (Single a) one = refl
older_newest (Two a b) one = let never : false ≡ true = one in cc
older_newest (Marked a b) one = let never : false ≡ true = one in cc
older_newest Lent one = let never : false ≡ true = one in cc

-- where the word does not read as before, it has two candidates, and 0 is the newer one
came_to_two : (old new : Cell) (x : ℕ) → is_single old ≡ true → GoesToZero old new → IsCandidate new x → x ≢ oldest new → (has_two new ≡ true) × (newest new ≡ 0)
came_to_two old new x one (inl same) is other =
    let single : is_single new ≡ true = ap is_single same ∙ one in
    absurd (other (single_older new x (single_none new single) single is))
came_to_two old new x one (inr gone) is other = (gone.two, gone.newer)

older_before : (old new : Cell) → is_single old ≡ true → GoesToZero old new → oldest new ≡ newest old
older_before old new one (inl same) = ap oldest same ∙ older_newest old one
older_before old new one (inr gone) = gone.older ∙ older_newest old one

newer_zero : (old new : Cell) → is_single old ≡ true → GoesToZero old new → has_two new ≡ true → newest new ≡ 0
newer_zero old new one (inl same) two = let never : false ≡ true = sym (single_none old one) ∙ (ap has_two (sym same) ∙ two) in cc
newer_zero old new one (inr gone) two = gone.newer

module _ (g : Geometry) (old new : List Cell) (slot : ℕ) (below : slot < g.log) (image : Words) (is : IsImage new image) (honest : IsHonest g (cell new) image)
    (single : (i : ℕ) → i / 8 ≡ log_line g slot → is_single (cell old i) ≡ true) (going : (i : ℕ) → i / 8 ≡ log_line g slot → GoesToZero (cell old i) (cell new i)) where
  abbrev line : ℕ
  line = log_line g slot

  in_line : (j : ℕ) → j < 8 → (8 * line + j) / 8 ≡ line
  in_line j short = omega (arith, short)

  Older : ℕ → Type 0
  Older j = image (8 * line + j) ≡ oldest (cell new (8 * line + j))

  Newer : ℕ → Type 0
  Newer j = (has_two (cell new (8 * line + j)) ≡ true) × (image (8 * line + j) ≡ newest (cell new (8 * line + j)))

  is_older : (j : ℕ) → Older j ⊎ ¬ Older j
  unfolding Older
  is_older j = cases_eq (image (8 * line + j)) (oldest (cell new (8 * line + j)))

  is_newer : (j : ℕ) → Newer j ⊎ ¬ Newer j
  unfolding Newer
  is_newer j = by (cases_Bool (has_two (cell new (8 * line + j)))) (cases_eq (image (8 * line + j)) (newest (cell new (8 * line + j)))) where
    by : (has_two (cell new (8 * line + j)) ≡ true) ⊎ (has_two (cell new (8 * line + j)) ≡ false)
        → (image (8 * line + j) ≡ newest (cell new (8 * line + j))) ⊎ (image (8 * line + j) ≢ newest (cell new (8 * line + j)))
        → Newer j ⊎ ¬ Newer j
    by (inl two) (inl same) = inl (two, same)
    by (inl two) (inr other) = inr (λ both. other both.1)
    by (inr one) same = inr (λ both. let never : false ≡ true = sym one ∙ both.0 in cc)

  -- it reads as before
  as_before : ((j : ℕ) → j < 8 → Older j) → line_bytes image line ≡ line_bytes (words_of old) line
  unfolding Older
  as_before older =
      line_bytes-same image (words_of old) line (λ i at.
      let short : i % 8 < 8 = omega arith in
      let place : 8 * line + i % 8 ≡ i = omega (arith, at) in
      subst (λ n. image n ≡ newest (cell old n)) place
      (older (i % 8) short ∙ older_before (cell old (8 * line + i % 8)) (cell new (8 * line + i % 8)) (single (8 * line + i % 8) (in_line (i % 8) short)) (going (8 * line + i % 8) (in_line (i % 8) short))))

  -- it is zero
  as_zero : ((j : ℕ) → j < 8 → Newer j) → is_self_valid (line_bytes image line) ≡ false
  unfolding Newer
  as_zero newer =
      let zeros_are = zero_line image line (λ i at.
      let short : i % 8 < 8 = omega arith in
      let place : 8 * line + i % 8 ≡ i = omega (arith, at) in
      subst (λ n. image n ≡ 0) place
      ((newer (i % 8) short).1 ∙ newer_zero (cell old (8 * line + i % 8)) (cell new (8 * line + i % 8)) (single (8 * line + i % 8) (in_line (i % 8) short)) (going (8 * line + i % 8) (in_line (i % 8) short)) (newer (i % 8) short).0))
      in
      ap is_self_valid zeros_are ∙ ap (λ (o : Option Draft). is_some o) (zeros-no_entry _)

  -- it is torn
  as_torn : (j : ℕ) → j < 8 → ¬ Older j → (k : ℕ) → k < 8 → ¬ Newer k → is_self_valid (line_bytes image line) ≡ false
  unfolding Older Newer
  as_torn j j_below not_older k k_below not_newer =
      honest slot below (record {
        some = (
          j,
          j_below,
          (came_to_two (cell old (8 * line + j)) (cell new (8 * line + j)) (image (8 * line + j)) (single (8 * line + j) (in_line j j_below))
              (going (8 * line + j) (in_line j j_below)) (is (8 * line + j)) not_older).0,
        );
        not_older = λ older. not_older (older j j_below);
        not_newer = λ each newer. not_newer (each k k_below, newer k k_below);
      })

  pub honest-line : (line_bytes image (log_line g slot) ≡ line_bytes (words_of old) (log_line g slot)) ⊎ (is_self_valid (line_bytes image (log_line g slot)) ≡ false)
  honest-line = by (each_or_not Older is_older 8) (each_or_not Newer is_newer 8) where
    by : ((j : ℕ) → j < 8 → Older j) ⊎ ((j : ℕ) × (j < 8) × (¬ Older j)) → ((j : ℕ) → j < 8 → Newer j) ⊎ ((j : ℕ) × (j < 8) × (¬ Newer j))
        → (line_bytes image line ≡ line_bytes (words_of old) line) ⊎ (is_self_valid (line_bytes image line) ≡ false)
    by (inl older) newer = inl (as_before older)
    by (inr (j, j_below, not_older)) (inl newer) = inr (as_zero newer)
    by (inr (j, j_below, not_older)) (inr (k, k_below, not_newer)) = inr (as_torn j j_below not_older k k_below not_newer)

-- ---- an image of a device whose log begins anew

module _ (k : View) (may : MaySettle k) where
  abbrev g : Geometry
  g = k.volume.geometry

  abbrev f : Words
  f = words_of k.cells

  was : IsCheckedAs (4096 * g.blocks) f k.volume
  was =
      subst (IsCheckedAs (4096 * g.blocks) f) ((λ i. volume (may.numbers i) (journaled f)) ∙ sym (volume-own k may))
      (parts-checked (4096 * g.blocks) f may.checked)

  stands : Stands g k.volume k.cells
  stands = subst (λ (v : Volume). Stands v.geometry v k.cells) (may.rest.order.settled may.rest.unbatched) may.rest.order.stands

  idle : f commit_word ≡ 0
  idle = ap newest stands.idle

  own_reads : Reads g (journaled f) k.volume
  own_reads = stands.reads f (IsImage-words_of k.cells)

  least : 1 ≤ k.volume.base
  least = subst (λ n. 1 ≤ n) (sym was.reads.base) was.head.state.least_base

  most : k.volume.base ≤ 2 ^ 63
  most = subst (λ n. n ≤ 2 ^ 63) (sym was.reads.base) was.head.state.most_base

  -- what is found in words that have its data blocks
  found-again : (h : Words) → ((b j : ℕ) → is_data_block g b ≡ true → j < 512 → journaled h (512 * b + j) ≡ f (512 * b + j)) → (path : List (List ℕ))
      → found k.volume [] (journaled h) path ≡ content g f path
  found-again h blocks path =
      shown_in g f k k may.numbers may.checked (recovered-own k may) (volume-own k may) may.rest (begun k may.rest).sheds (λ i out line. refl) (journaled h) blocks path
      ∙ sym (content_of_image g f k k may.numbers may.checked (recovered-own k may) (volume-own k may) may.rest (begun k may.rest).sheds (λ i out line. refl) (dead-own k may) path)

  -- its log is zero, and it has the base, or another
  module _ (h : Words) (w : Volume) (base : ℕ) (w_is : w ≡ base_set base k.volume) (kept : AreKept w) (sound : IsSound g h) (reads : Reads g (journaled h) w)
      (least_base : 1 ≤ base) (most_base : base ≤ 2 ^ 63)
      (others : (i : ℕ) → is_journal_word i ≡ false → is_journaled_line g (i / 8) ≡ false → ¬ IsLogWord k.volume i → h i ≡ f i)
      (zeros : (i : ℕ) → IsLogWord k.volume i → h i ≡ 0) where
    slots : (slot : ℕ) → slot < k.volume.geometry.log → Slot k.volume base (journaled h) slot
    slots slot below =
        slot_zero k.volume base (journaled h) slot (zero_line (journaled h) (log_line k.volume.geometry slot) (λ i at.
        let is = in-log k.volume slot i below at in
        journaled-other g h i sound (log-beside k.volume i is) (log-no_line k.volume i is) ∙ zeros i is))

    zero-shows : StillShows g f h
    zero-shows = record {
      numbers = numbers_based g k may.numbers was may.dead may.rest w base w_is kept h sound reads least_base most_base others slots;
      checked = checked-parts (4096 * g.blocks) h w (checked_based g k may.numbers was may.dead may.rest w base w_is kept h sound reads least_base most_base others slots);
      same = λ path.
          content_based g k may.numbers was may.dead may.rest w base w_is kept h sound reads least_base most_base others slots path
          ∙ found-again h (data_based g k may.numbers was may.dead may.rest w base w_is kept h sound reads least_base most_base others slots) path;
    }

  -- words of its log differ, and no others
  module _ (h : Words) (beside : (i : ℕ) → ¬ IsLogWord k.volume i → h i ≡ f i) where
    sound-beside : IsSound g h
    sound-beside =
        let idle_now : h commit_word ≡ 0 = beside commit_word (journal_beside k.volume commit_word refl) ∙ idle in
        record { count = subst (λ n. n ≤ 128) (sym idle_now) (omega arith); targets = λ r below. absurd (omega (arith, below, idle_now)) }

    reads-beside : Reads g (journaled h) k.volume
    reads-beside =
        reads-same g (journaled f) (journaled h) k.volume
        (record {
          lines = λ w line. seen k.volume f h beside w (line_beside k.volume w line);
          chains = λ n m j short within word.
              seen k.volume f h beside (512 * block_at (chain k.volume n) m + j) (data_beside k.volume (block_at (chain k.volume n) m) j (own_reads.blocks n short m 0 within) word);
        })
        own_reads

    others-beside : (i : ℕ) → is_journal_word i ≡ false → is_journaled_line g (i / 8) ≡ false → ¬ IsLogWord k.volume i → h i ≡ f i
    others-beside i out _ off = beside i off

    module _ (lines : (slot : ℕ) → slot < g.log → (line_bytes h (log_line g slot) ≡ line_bytes f (log_line g slot)) ⊎ (is_self_valid (line_bytes h (log_line g slot)) ≡ false)) where
      -- through the journal
      same_line : (x : Words) → IsSound g x → (slot : ℕ) → slot < g.log → line_bytes (journaled x) (log_line g slot) ≡ line_bytes x (log_line g slot)
      same_line x sound slot below =
          line_bytes-same (journaled x) x (log_line g slot) (λ i at.
          let is = in-log k.volume slot i below at in
          journaled-other g x i sound (log-beside k.volume i is) (log-no_line k.volume i is))

      sound-own : IsSound g f
      sound-own = record { count = subst (λ n. n ≤ 128) (sym idle) (omega arith); targets = λ r below. absurd (omega (arith, below, idle)) }

      kept_lines : (slot : ℕ) → slot < g.log → IsLineKept g (journaled f) (journaled h) slot
      kept_lines slot below = by (lines slot below) where
        by : (line_bytes h (log_line g slot) ≡ line_bytes f (log_line g slot)) ⊎ (is_self_valid (line_bytes h (log_line g slot)) ≡ false)
            → IsLineKept g (journaled f) (journaled h) slot
        by (inl same) = inl (same_line h sound-beside slot below ∙ (same ∙ sym (same_line f sound-own slot below)))
        by (inr spoilt) = inr (ap is_self_valid (same_line h sound-beside slot below) ∙ spoilt)

      small : k.volume.base + g.log ≤ 2 ^ 64
      small = omega (arith, most, may.rest.order.whole.kept.geometry.most_log)

      log_now : IsLogKept k.volume (journaled h)
      log_now = log-then k.volume (journaled f) (journaled h) kept_lines small was.log may.dead

      dead_now : live_entries k.volume (journaled h) ≡ []
      dead_now = dead-then k.volume (journaled f) (journaled h) kept_lines small was.log may.dead

      lines-show : StillShows g f h
      lines-show = record {
        numbers = numbers_kept g k may.numbers was k.volume k.volume.base refl was.kept h sound-beside reads-beside least most others-beside log_now dead_now;
        checked =
            checked-parts (4096 * g.blocks) h k.volume
            (checked_kept g k may.numbers was k.volume k.volume.base refl was.kept h sound-beside reads-beside least most others-beside log_now dead_now);
        same = λ path.
            content_kept g k may.numbers was k.volume k.volume.base refl was.kept h sound-beside reads-beside least most others-beside log_now dead_now path
            ∙ found-again h (data_kept g k may.numbers was k.volume k.volume.base refl was.kept h sound-beside reads-beside least most others-beside log_now dead_now) path;
      }

  -- ---- the power went

  -- while lines became zero
  lost-shows : (d : List Cell) → LosesLog k.volume k.cells d → StaysShown g f d
  lost-shows d loses image is honest = by loses.words where
    same_beside : (i : ℕ) → ¬ IsLogWord k.volume i → image i ≡ f i
    same_beside =
        let from = loses.each_image image is in
        subst (λ (before : Words). (i : ℕ) → ¬ IsLogWord k.volume i → image i ≡ before i) (image-single k.cells from.0 may.rest.single from.1.is_image) from.2

    by : ((i : ℕ) → IsLogWord k.volume i → GoesToZero (cell k.cells i) (cell d i)) ⊎ ((i : ℕ) → IsLogWord k.volume i → cell d i ≡ Single 0) → StillShows g f image
    by (inl going) =
        lines-show image same_beside (λ slot below.
        honest-line g k.cells d slot below image is honest (λ i at. may.rest.single i) (λ i at. going i (in-log k.volume slot i below at)))
    by (inr zeros) =
        zero-shows image k.volume k.volume.base refl was.kept (sound-beside image same_beside) (reads-beside image same_beside) least most (others-beside image same_beside)
        (λ i at. subst (λ c. IsCandidate c (image i)) (zeros i at) (is i))

  -- while the base changed, with all of them zero
  cut-shows : (middle : List Cell) (k3 : View) → ClearsLog k.volume k.cells middle → IsCut (base_set 1 k.volume) (record k { cells = middle }) k3 → StaysShown g f k3.cells
  cut-shows middle k3 clear cut image is honest = both now.reads where
    settled : k.committed ≡ k.volume
    settled = may.rest.order.settled may.rest.unbatched

    from : (before : Words) × IsImage middle before × IsOldOrNew g [] k.volume (base_set 1 k.volume) before image
    from =
        let it = (subst (λ v. Changes v (base_set 1 k.volume) middle k3.cells) settled cut.changes).each_image image is in
        (it.0, it.1.is_image, it.2)

    now : IsOldOrNew g [] k.volume (base_set 1 k.volume) from.0 image
    now = from.2

    was_zero : (i : ℕ) → IsLogWord k.volume i → from.0 i ≡ 0
    was_zero i at = (clear.zero from.0 from.1).2.zero i at

    was_same : (i : ℕ) → ¬ IsLogWord k.volume i → from.0 i ≡ f i
    was_same =
        let it = clear.loses.each_image from.0 from.1 in
        subst (λ (before : Words). (i : ℕ) → ¬ IsLogWord k.volume i → from.0 i ≡ before i) (image-single k.cells it.0 may.rest.single it.1.is_image) it.2

    outside_none : (i : ℕ) → IsOutside [] i
    outside_none i n below same = absurd (omega (arith, below))

    others : (i : ℕ) → is_journal_word i ≡ false → is_journaled_line g (i / 8) ≡ false → ¬ IsLogWord k.volume i → image i ≡ f i
    others i out line off = now.others i out line (outside_none i) ∙ was_same i off

    zeros : (i : ℕ) → IsLogWord k.volume i → image i ≡ 0
    zeros i at = now.others i (log-beside k.volume i at) (log-no_line k.volume i at) (outside_none i) ∙ was_zero i at

    both : Reads g (journaled image) k.volume ⊎ Reads g (journaled image) (base_set 1 k.volume) → StillShows g f image
    both (inl reads) = zero-shows image k.volume k.volume.base refl was.kept now.sound reads least most others zeros
    both (inr reads) = zero-shows image (base_set 1 k.volume) 1 refl cut.whole.kept.kept now.sound reads (omega arith) (omega arith) others zeros

  own-shows : StillShows g f f
  own-shows = record { numbers = may.numbers; checked = may.checked; same = λ path. refl }

  pub restart-shows : (k3 : View) → IsRestartAnswer k k3 Commit.PowerLost → StaysShown g f k3.cells
  restart-shows k3 (inl off) = subst (λ (z : View). StaysShown g f z.cells) (sym off) (shown-single g f k.cells may.rest.single own-shows)
  restart-shows k3 (inr (inl (same, loses))) = lost-shows k3.cells loses
  restart-shows k3 (inr (inr (middle, clear, cut))) = cut-shows middle k3 clear cut
