-- A change of K-Split that keeps each file's line, and the blocks before its end: the image stays checked, and has the same content.
use Rattle.std.proofs.Common.{◌≡◌, ◌≤◌, ◌<◌, ◌+◌, ◌*◌, ◌/◌, ℕ, true, false, List, [], length, Some, refl, sym, ◌∙◌, ap, subst, arith, get_or, inl, inr}
use Rattle.std.specs.Prelude.{All}
use Rattle.std.specs.List.{range_with_len}
use Rattle.std.proofs.lemmas.Bool.{both_ways, cases_lt}
use Rattle.std.proofs.lemmas.List.{get_or_past}
use Rattle.std.proofs.lemmas.List.Elements.{All-nil}
use Rattle.k_check.specs.pm_model.declared.Cell.{Cell}
use Rattle.k_check.specs.pm_model.CellLaws.{single-home}
use Rattle.k_check.specs.pm_model.Cells.{AllHome, AllSingle, cell}
use Rattle.k_check.specs.pm_model.ImageLaws.{Follows-from_words, image-single, IsImage-words_of}
use Rattle.k_check.specs.pm_model.Images.{Follows, IsImage, words_of}
use Rattle.k_check.specs.pm_model.Words.{line_bytes, Words}
use Rattle.layout_model.specs.declared.lines.Draft.{Draft}
use Rattle.layout_model.specs.Entries.{held_seq, is_self_valid}
use Rattle.k_check.specs.layout_model.Journal.{is_journal_word, journaled}
use Rattle.k_check.specs.layout_model.PlaceLaws.{behind_log-words}
use Rattle.k_check.specs.layout_model.Places.{commit_word, data_blocks, Geometry, is_data_block, is_journaled_line, log_line, reserve}
use Rattle.k_check.specs.image_model.Checked.{IsCheckedAs, IsLogKept}
use Rattle.k_check.specs.image_model.Content.{content, found}
use Rattle.k_check.specs.image_model.Kept.{AreKept}
use Rattle.k_check.specs.image_model.Live.{entry_in, is_file, is_live, live_entries, valid_entries}
use Rattle.k_check.specs.image_model.Placed.{block_at, IsOutside}
use Rattle.k_check.specs.image_model.Reading.{Reads}
use Rattle.k_check.specs.image_model.Room.{held_after_recovery, unused_blocks}
use Rattle.k_check.specs.image_model.Rules.{file_blocks_of, HasStagingBlocks, IsChecked}
use Rattle.k_check.specs.image_model.Volume.{extents, inode, Volume}
use Rattle.k_check.specs.extent_model.Covers.{covers-disk_at}
use Rattle.k_check.specs.extent_model.Extents.{covers, disk_at}
use Rattle.staging_files.specs.image_laws.CheckedLaws.{checked-parts}
use Rattle.staging_files.specs.k_plans.LandingLaws.{idle-image}
use Rattle.log_replay.specs.Sheds.{IsAtRest}
use Rattle.k_split.specs.k_plans.Whole.{IsWhole}
use Rattle.staging_files.specs.k_split_model.Stands.{IsOldOrNew, Stands}
use Rattle.staging_files.specs.k_split_model.View.{View}
use Rattle.staging_files.specs.k_split.Answers.{IsOff}
use Rattle.staging_files.specs.k_split.MapChanges.{ChangesMaps, is_free_in, IsMapDone}
use Rattle.staging_files.specs.list_laws.Filters.{In-filter, In-filter_map, In-range}
use Rattle.staging_files.specs.list_laws.Members.{In}
use Rattle.log_replay.proofs.Passed.{free-data, free-uncovered, headed-beside, kept-beside, log-beside}
use Rattle.fsync_relink.specs.log_laws.world_model.Landed.{kind_file}
use Rattle.log_replay.specs.Replays.{seen, ShowsTheSame}
use Rattle.k_check.specs.volume_laws.Footprint.{SameData, SameLog}
use Rattle.k_check.specs.volume_laws.FootprintLaws.{content-own, content-read, live_entries-same}
use Rattle.k_check.specs.volume_laws.ImageLaws.{journaled-idle, journaled-other}
use Rattle.k_check.specs.volume_laws.LineWords.{data_word, data_word-not_journaled}
use Rattle.k_check.specs.volume_laws.SetLaws.{block-outside}
use Rattle.staging_files.specs.volume_laws.PoolLaws.{covered-in_data}
use Rattle.world_image_laws.specs.Images.{IsHeaded}
use Rattle.log_replay.proofs.Lines.{found-kept, held-kept, KeepsBytes, KeepsLines, of_file-kept}
use Rattle.log_replay.specs.Quiet.{IsQuiet, ShowsAsBefore}

pub home-single : (d : List Cell) → AllSingle d → AllHome d
home-single d single i = single-home (cell d i) (single i)

-- ---- the content of an image of the change

module _ (g : Geometry) (blocks : List ℕ) (v w : Volume) (before image : Words) (idle : before commit_word ≡ 0) (old : Reads g (journaled before) v)
    (in_data : All (λ b. is_data_block g b ≡ true) blocks) (is : IsOldOrNew g blocks v w before image) (kept : AreKept v)
    (unmapped : (ino k : ℕ) → k < length blocks → covers (extents v ino) (block_at blocks k) ≡ false) where
  same-word : (i : ℕ) → is_journal_word i ≡ false → is_journaled_line g (i / 8) ≡ false → IsOutside blocks i → journaled image i ≡ journaled before i
  same-word i journal line outside =
      journaled-other g image i is.sound journal line ∙ is.others i journal line outside ∙ sym (journaled-idle before i idle journal)

  -- a block of a map is a data block
  mapped-in_data : (ino b : ℕ) → covers (extents v ino) b ≡ true → is_data_block g b ≡ true
  mapped-in_data ino b has =
      let inodes_are : v.geometry.inodes ≡ g.inodes = ap (λ (x : Geometry). x.inodes) old.geometry in
      elim (cases_lt ino g.inodes) [
        | inl below ↦
            subst (λ h. is_data_block h b ≡ true) old.geometry
            (covered-in_data v.geometry (file_blocks_of (inode v ino).kind) (extents v ino) b (kept.in_data ino (omega (arith, below, inodes_are))) has)
        | inr past ↦
            let none : covers (extents v ino) b ≡ false = ap (λ es. covers es b) (get_or_past v.maps ino [] (omega (arith, past, old.map_count))) in
            absurd (both_ways (covers (extents v ino) b) none has)
      ]

  -- its words are those of the image before
  mapped-word : (ino b j : ℕ) → covers (extents v ino) b ≡ true → j < 512 → journaled image (512 * b + j) ≡ journaled before (512 * b + j)
  mapped-word ino b j has word =
      let data_block = mapped-in_data ino b has in
      same-word (512 * b + j) (behind_log-words g (512 * b + j) (data_word g b j data_block word)) (data_word-not_journaled g b j data_block word)
      (block-outside blocks b j word (λ k below same. both_ways (covers (extents v ino) b)
      (subst (λ n. covers (extents v ino) n ≡ false) same (unmapped ino k below)) has))

  module _ (lines : KeepsLines v w) (bytes : KeepsBytes v w) (none : live_entries v (journaled before) ≡ []) (none_then : live_entries w (journaled before) ≡ []) where
    data-old : SameData v [] (journaled before) (journaled image)
    data-old = record {
      words = λ ino block b j file within at word. mapped-word ino b j (covers-disk_at (extents v ino) block b at) word;
    }

    data-new : SameData w [] (journaled before) (journaled image)
    data-new = record {
      words = λ ino block b j file within at word. new-word ino block b j (subst (λ kind. is_file kind ≡ true) (lines.kind ino) file)
          (subst (λ n. 4096 * block < n) (lines.size ino) within) at word;
    } where
      new-word : (ino block b j : ℕ) → is_file (inode v ino).kind ≡ true → 4096 * block < (inode v ino).size → disk_at (extents w ino) block ≡ Some b → j < 512
          → journaled image (512 * b + j) ≡ journaled before (512 * b + j)
      new-word ino block b j file within at word =
          let was : disk_at (extents v ino) block ≡ Some b = sym (bytes ino block (kind_file (inode v ino).kind file) within) ∙ at in
          mapped-word ino b j (covers-disk_at (extents v ino) block b was) word

    log : SameLog g (journaled before) (journaled image)
    log = log-beside g blocks v w before image idle old in_data is

    own : content g before ≡ found v [] (journaled before)
    own = content-own g v (journaled before) old ∙ ap (λ live. found v live (journaled before)) none

    pub content-kept : content g image ≡ content g before
    content-kept = elim is.reads [
      | inl r ↦
          content-read g v (journaled before) (journaled image) r log (subst (λ live. SameData v live (journaled before) (journaled image)) (sym none) data-old)
          ∙ sym (content-own g v (journaled before) old)
      | inr r ↦
          content-read g w (journaled before) (journaled image) r log (subst (λ live. SameData w live (journaled before) (journaled image)) (sym none_then) data-new)
          ∙ ap (λ live. found w live (journaled before)) none_then
          ∙ found-kept v w lines bytes (journaled before)
          ∙ sym own
    ]

log-then : (g : Geometry) (a b c : Words) → SameLog g a b → SameLog g b c → SameLog g a c
log-then g a b c first second = record { words = λ s w below at. second.words s w below at ∙ first.words s w below at }

-- ---- a change from a device at rest, done or cut off

module _ (k : View) (w : Volume) (blocks : List ℕ) (quiet : IsQuiet k) (whole : IsWhole w) (lines : KeepsLines k.volume w) (bytes : KeepsBytes k.volume w)
    (none : live_entries w (seen k) ≡ []) (free : All (λ b. is_free_in k b ≡ true) blocks) (more : unused_blocks k.volume ≤ unused_blocks w) where
  abbrev g : Geometry
  g = k.volume.geometry

  settled : k.committed ≡ k.volume
  settled = quiet.rest.order.settled quiet.rest.unbatched

  stands : Stands g k.volume k.cells
  stands = subst (λ (v : Volume). Stands v.geometry v k.cells) settled quiet.rest.order.stands

  idle : words_of k.cells commit_word ≡ 0
  idle = idle-image k.cells (words_of k.cells) stands.idle (IsImage-words_of k.cells)

  old : Reads g (seen k) k.volume
  old = stands.reads (words_of k.cells) (IsImage-words_of k.cells)

  in_data : All (λ b. is_data_block g b ≡ true) blocks
  in_data b d below = free-data k (get_or blocks b d) (free b d below)

  unmapped : (ino n : ℕ) → n < length blocks → covers (extents k.volume ino) (block_at blocks n) ≡ false
  unmapped ino n below = free-uncovered k (block_at blocks n) ino quiet.rest.order.whole.maps.map_count (free n 0 below)

  -- ---- the rules of the log

  entry : (slot : ℕ) → entry_in w (seen k) slot ≡ entry_in k.volume (seen k) slot
  entry slot = λ i. entry_in (record w { geometry = lines.geometry i; base = lines.base i }) (seen k) slot

  logs : w.geometry.log ≡ g.log
  logs = ap (λ (h : Geometry). h.log) lines.geometry

  not-live : (slot : ℕ) (e : Draft) → slot < w.geometry.log → entry_in w (seen k) slot ≡ Some e → is_live w e ≡ true → ⊥
  not-live slot e below at alive =
      let valid = In-filter_map (entry_in w (seen k)) (range_with_len 0 w.geometry.log) slot e (In-range 0 w.geometry.log slot (omega arith) (omega (arith, below))) at in
      let is : In e (live_entries w (seen k)) = In-filter (is_live w) (valid_entries w (seen k)) e valid alive in
      let never : In e [] = subst (In e) none is in
      never

  held : held_after_recovery w (live_entries w (seen k)) ≡ held_after_recovery k.volume (live_entries k.volume (seen k))
  held = ap (held_after_recovery w) none ∙ held-kept k.volume w lines ∙ ap (held_after_recovery k.volume) (sym quiet.none)

  kept : IsLogKept k.volume (seen k)
  kept = quiet.checked.log

  log-kept : IsLogKept w (seen k)
  log-kept = record {
    recovers = record {
      staged = subst (All (HasStagingBlocks w)) (sym none) (All-nil (HasStagingBlocks w));
      apart = λ s t a b before below is_s is_t live_a live_b. absurd (not-live t b below is_t live_b);
      orders = λ s t a b before below is_s is_t a_file b_file.
          kept.recovers.orders s t a b before (omega (arith, below, logs)) (sym (entry s) ∙ is_s) (sym (entry t) ∙ is_t)
          (sym (of_file-kept k.volume w lines a) ∙ a_file) (sym (of_file-kept k.volume w lines b) ∙ b_file);
      held = omega (arith, held, kept.recovers.held, ap reserve lines.geometry, ap data_blocks lines.geometry);
      unused = omega (arith, ap length none, kept.recovers.unused, ap reserve lines.geometry, more);
    };
    no_later = λ slot below valid.
        let line : line_bytes (seen k) (log_line w.geometry slot) ≡ line_bytes (seen k) (log_line g slot) =
        ap (λ (h : Geometry). line_bytes (seen k) (log_line h slot)) lines.geometry
        in
        omega (arith, kept.no_later slot (omega (arith, below, logs)) (ap is_self_valid (sym line) ∙ valid), ap held_seq line, lines.base, logs);
  }

  -- ---- an image of it

  module _ (image : Words) (changed : IsOldOrNew g blocks k.volume w (words_of k.cells) image) where
    headed : IsHeaded g image
    headed =
        headed-beside g blocks k.volume w (words_of k.cells) image in_data (record { head = quiet.checked.head; geometry = quiet.numbers }) changed lines.base quiet.checked.reads.base

    log_here : SameLog g (seen k) (journaled image)
    log_here = log-beside g blocks k.volume w (words_of k.cells) image idle old in_data changed

    log_new : SameLog w.geometry (seen k) (journaled image)
    log_new = subst (λ h. SameLog h (seen k) (journaled image)) (sym lines.geometry) log_here

    content-same : content g image ≡ content g (words_of k.cells)
    content-same =
        content-kept g blocks k.volume w (words_of k.cells) image idle old in_data changed quiet.rest.order.whole.kept.kept unmapped lines bytes quiet.none none

    as_old : Reads g (journaled image) k.volume → IsCheckedAs (4096 * g.blocks) image k.volume
    as_old reads = record {
      head = headed.head;
      reads = subst (λ h. Reads h (journaled image) k.volume) (sym headed.geometry) reads;
      kept = quiet.rest.order.whole.kept.kept;
      log = kept-beside k.volume (seen k) (journaled image) log_here quiet.checked.log;
    }

    as_new : Reads g (journaled image) w → IsCheckedAs (4096 * g.blocks) image w
    as_new reads = record {
      head = headed.head;
      reads = subst (λ h. Reads h (journaled image) w) (sym headed.geometry) reads;
      kept = whole.kept.kept;
      log = kept-beside w (seen k) (journaled image) log_new log-kept;
    }

    is-checked : IsChecked (4096 * g.blocks) image
    is-checked = elim changed.reads [
      | inl reads ↦ checked-parts (4096 * g.blocks) image k.volume (as_old reads)
      | inr reads ↦ checked-parts (4096 * g.blocks) image w (as_new reads)
    ]

    shows-image : ShowsTheSame g (words_of k.cells) image
    shows-image = record { numbers = headed.geometry; checked = is-checked; log = log_here; same = content-same }

  -- ---- the device then

  module _ (d : List Cell) (changes : ChangesMaps blocks k.committed w k.cells d) where
    of-own : ChangesMaps blocks k.volume w k.cells d
    of-own = subst (λ v. ChangesMaps blocks v w k.cells d) settled changes

    changed-image : (image : Words) → IsImage d image → IsOldOrNew g blocks k.volume w (words_of k.cells) image
    changed-image image is =
        let from = of-own.each_image image is in
        subst (λ before. IsOldOrNew g blocks k.volume w before image) (image-single k.cells from.0 quiet.rest.single from.1.is_image) from.2

    -- EACH IMAGE SHOWS WHAT IT DID, done or cut off.
    pub images-next : Follows (ShowsTheSame g) k.cells d
    images-next =
        Follows-from_words (ShowsTheSame g) k.cells d (home-single k.cells quiet.rest.single) (λ image is. shows-image image (changed-image image is))

-- ---- a change that is done

module _ (k0 k k2 : View) (blocks : List ℕ) (was : ShowsAsBefore k0 k) (done : IsMapDone blocks k k2) (lines : KeepsLines k.volume k2.volume)
    (bytes : KeepsBytes k.volume k2.volume) (none : live_entries k2.volume (seen k) ≡ []) (free : All (λ b. is_free_in k b ≡ true) blocks)
    (more : unused_blocks k.volume ≤ unused_blocks k2.volume) where
  abbrev h : Geometry
  h = k.volume.geometry

  rest-now : IsAtRest k2
  rest-now = record {
    order = done.order;
    unbatched = done.batched ∙ was.quiet.rest.unbatched;
    on = done.kept_on;
    single = λ i. done.singles i (was.quiet.rest.single i);
  }

  now : IsOldOrNew h blocks k.volume k2.volume (words_of k.cells) (words_of k2.cells)
  now = changed-image k k2.volume blocks was.quiet done.order.whole lines bytes none free more k2.cells done.changes (words_of k2.cells) (IsImage-words_of k2.cells)

  shown : ShowsTheSame h (words_of k.cells) (words_of k2.cells)
  shown = shows-image k k2.volume blocks was.quiet done.order.whole lines bytes none free more (words_of k2.cells) now

  pub log-next : SameLog k2.volume.geometry (seen k) (seen k2)
  log-next = log_new k k2.volume blocks was.quiet done.order.whole lines bytes none free more (words_of k2.cells) now

  reads-now : Reads h (seen k2) k2.volume
  reads-now =
      let is : k2.committed ≡ k2.volume = done.order.settled rest-now.unbatched in
      subst (λ x. Reads x (seen k2) k2.volume) lines.geometry
      (subst (λ (v : Volume). Reads v.geometry (seen k2) v) is (done.order.stands.reads (words_of k2.cells) (IsImage-words_of k2.cells)))

  quiet-now : IsQuiet k2
  quiet-now = record {
    rest = rest-now;
    numbers = shown.numbers ∙ sym lines.geometry;
    checked =
        subst (λ (x : Geometry). IsCheckedAs (4096 * x.blocks) (words_of k2.cells) k2.volume) (sym lines.geometry)
        (as_new k k2.volume blocks was.quiet done.order.whole lines bytes none free more (words_of k2.cells) now reads-now);
    none = live_entries-same k2.volume (seen k) (seen k2) log-next ∙ none;
  }

  -- THE IMAGE SHOWS WHAT IT DID.
  pub shows-next : ShowsAsBefore k0 k2
  shows-next = record {
    quiet = quiet-now;
    geometry = lines.geometry ∙ was.geometry;
    base = lines.base ∙ was.base;
    names = lines.names ∙ was.names;
    log = log-then k0.volume.geometry (seen k0) (seen k) (seen k2) was.log (subst (λ x. SameLog x (seen k) (seen k2)) was.geometry shown.log);
    same = subst (λ x. content x (words_of k2.cells) ≡ content x (words_of k.cells)) was.geometry shown.same ∙ was.same;
  }

-- where nothing was changed yet
pub shows-first : (k : View) → IsQuiet k → ShowsAsBefore k k
shows-first k quiet = record {
  quiet = quiet;
  geometry = refl;
  base = refl;
  names = refl;
  log = record { words = λ s w below at. refl };
  same = refl;
}

-- two stretches of changes
pub shows-then : (a b c : View) → ShowsAsBefore a b → ShowsAsBefore b c → ShowsAsBefore a c
shows-then a b c first second = record {
  quiet = second.quiet;
  geometry = second.geometry ∙ first.geometry;
  base = second.base ∙ first.base;
  names = second.names ∙ first.names;
  log = log-then a.volume.geometry (seen a) (seen b) (seen c) first.log (subst (λ h. SameLog h (seen b) (seen c)) first.geometry second.log);
  same = subst (λ h. content h (words_of c.cells) ≡ content h (words_of b.cells)) first.geometry second.same ∙ first.same;
}

-- ---- images beside those of the beginning

shows-own : (k0 k : View) → ShowsAsBefore k0 k → ShowsTheSame k0.volume.geometry (words_of k0.cells) (words_of k.cells)
shows-own k0 k shows = record {
  numbers = shows.quiet.numbers ∙ shows.geometry;
  checked =
      subst (λ (x : Geometry). IsChecked (4096 * x.blocks) (words_of k.cells)) shows.geometry
      (checked-parts (4096 * k.volume.geometry.blocks) (words_of k.cells) k.volume shows.quiet.checked);
  log = shows.log;
  same = shows.same;
}

-- of a device that was only changed so far as it shows the same
pub images-then : (k0 k : View) (d : List Cell) → AllSingle k0.cells → ShowsAsBefore k0 k → Follows (ShowsTheSame k.volume.geometry) k.cells d
    → Follows (ShowsTheSame k0.volume.geometry) k0.cells d
images-then k0 k d single shows images =
    Follows-from_words (ShowsTheSame k0.volume.geometry) k0.cells d (home-single k0.cells single) (λ image is.
    (let from = images image is in
    let last : ShowsTheSame k.volume.geometry (words_of k.cells) image =
    subst (λ before. ShowsTheSame k.volume.geometry before image) (image-single k.cells from.0 shows.quiet.rest.single from.1.is_image) from.2
    in
    shows-both k0 k image shows last))
  where
    shows-both : (k0 k : View) (image : Words) → ShowsAsBefore k0 k → ShowsTheSame k.volume.geometry (words_of k.cells) image
        → ShowsTheSame k0.volume.geometry (words_of k0.cells) image
    shows-both k0 k image shows last = record {
      numbers = last.numbers ∙ shows.geometry;
      checked = subst (λ (x : Geometry). IsChecked (4096 * x.blocks) image) shows.geometry last.checked;
      log = log-then k0.volume.geometry (seen k0) (seen k) (journaled image) shows.log (subst (λ x. SameLog x (seen k) (journaled image)) shows.geometry last.log);
      same = subst (λ x. content x image ≡ content x (words_of k.cells)) shows.geometry last.same ∙ shows.same;
    }

pub images-own : (k0 k : View) → AllSingle k0.cells → ShowsAsBefore k0 k → Follows (ShowsTheSame k0.volume.geometry) k0.cells k.cells
images-own k0 k single shows =
    Follows-from_words (ShowsTheSame k0.volume.geometry) k0.cells k.cells (home-single k0.cells single) (λ image is.
    subst (ShowsTheSame k0.volume.geometry (words_of k0.cells)) (sym (image-single k.cells image shows.quiet.rest.single is)) (shows-own k0 k shows))

-- where the power was off before the change
pub images-off : (k0 k k2 : View) → AllSingle k0.cells → ShowsAsBefore k0 k → IsOff k k2 → Follows (ShowsTheSame k0.volume.geometry) k0.cells k2.cells
images-off k0 k k2 single shows off =
    subst (λ (z : View). Follows (ShowsTheSame k0.volume.geometry) k0.cells z.cells) (sym off) (images-own k0 k single shows)
