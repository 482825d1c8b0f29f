-- The log base of the next lap is set while nothing is live: what that leaves of a running World.
use Rattle.std.specs.Prelude.{◌≡◌, ◌≢◌, ◌⊎◌, ◌≤◌, ◌<◌, ◌+◌, ◌*◌, ◌/◌, ◌^◌, ℕ, true, List, [], Option, Some, None, is_some, refl}
use Rattle.std.proofs.Common.{arith, ap, ◌∙◌, sym, subst, inl, inr, append-nil}
use Rattle.log_checkpoint.specs.pm_model.declared.Cell.{Cell}
use Rattle.log_checkpoint.specs.pm_model.Bytes.{line_bytes-same}
use Rattle.log_checkpoint.specs.pm_model.Images.{Follows, IsImage}
use Rattle.log_checkpoint.specs.pm_model.Words.{line_bytes, Words}
use Rattle.log_checkpoint.specs.crash_spec.Permitted.{StronglyPermitted}
use Rattle.log_checkpoint.specs.layout_model.Journal.{IsSound, journaled}
use Rattle.log_checkpoint.specs.layout_model.PlaceLaws.{behind_log-not_journaled, behind_log-words}
use Rattle.log_checkpoint.specs.layout_model.Places.{base_word, commit_word, Geometry, is_data_block, log_line, state_line}
use Rattle.log_checkpoint.specs.layout_model.Superblock.{geometry_at, has_magic, has_numbers, has_version}
use Rattle.log_checkpoint.specs.layout_model.declared.lines.Draft.{Draft}
use Rattle.log_checkpoint.specs.layout_model.Entries.{decode_entry, held_seq, is_self_valid}
use Rattle.log_checkpoint.specs.layout_model.EntryLaws.{held_seq-decode_entry}
use Rattle.log_checkpoint.specs.image_model.Live.{entry_in}
use Rattle.log_checkpoint.specs.image_model.Reading.{base_set, Reads}
use Rattle.log_checkpoint.specs.image_model.Room.{unused_blocks}
use Rattle.log_checkpoint.specs.image_model.Rules.{geometry_of, HasTarget}
use Rattle.log_checkpoint.specs.image_model.Volume.{Volume}
use Rattle.log_checkpoint.specs.image_laws.ViewLaws.{head_word, sound-targets}
use Rattle.log_checkpoint.specs.k_split_model.Stands.{IsOldOrNew, Stands}
use Rattle.log_checkpoint.specs.posix_types.declared.item.Item.{Item}
use Rattle.log_checkpoint.specs.posix_spec.Run.{Unfinished}
use Rattle.log_checkpoint.specs.posix_spec.State.{State}
use Rattle.log_checkpoint.specs.posix_spec.Tree.{tree}
use Rattle.log_checkpoint.specs.volume_laws.Footprint.{SameLog}
use Rattle.log_checkpoint.specs.volume_laws.ImageLaws.{journaled-other}
use Rattle.log_checkpoint.specs.volume_laws.OwnerLaws.{owners-base}
use Rattle.live_step_laws.specs.live_model.world_image_laws.Changed.{IsWorld-words, same_data, same_word, SameLog-changed, ShowsLog-same, sound_headed}
use Rattle.live_step_laws.specs.live_model.world_image_laws.Images.{HasOldLines, HasRoom, IsHeaded, IsRunning, ShowsLog, ShowsWorld}
use Rattle.live_step_laws.specs.live_model.world_image_laws.Kept.{kept_one}
use Rattle.live_step_laws.specs.live_model.world_image_laws.Promised.{KeepsPromise}
use Rattle.log_checkpoint.specs.world_write_laws.JobSteps.{lap}
use Rattle.log_checkpoint.specs.world_write_laws.Free.{frees_as_many}
use Rattle.log_checkpoint.specs.world_model.Jobs.{live_claims}
use Rattle.log_checkpoint.specs.world_model.Shown.{SameButLent}
use Rattle.log_checkpoint.specs.world_step_laws.Worlds.{IsWorld}

-- a line that is a valid entry of an earlier lap at most has no entry of a later one
none-past : (bytes : List ℕ) (seq : ℕ) → seq < 2 ^ 64 → (is_self_valid bytes ≡ true → held_seq bytes < seq) → decode_entry bytes seq ≡ None
none-past bytes seq small early = by (decode_entry bytes seq) refl where
  by : (o : Option Draft) → decode_entry bytes seq ≡ o → decode_entry bytes seq ≡ None
  by None is = is
  by (Some d) is =
      let held : held_seq bytes ≡ seq = held_seq-decode_entry bytes seq d small is in
      let valid : is_self_valid bytes ≡ true = ap (λ n. is_some (decode_entry bytes n)) held ∙ ap (λ (o : Option Draft). is_some o) is in
      absurd (omega (arith, early valid, held))

module _ (v : Volume) (d e : List Cell) (claims : List (ℕ × Draft)) (numbers : List ℕ) (s : State) (count base : ℕ) (running : IsRunning v d claims numbers s count) (none : live_claims v claims ≡ [])
    (least : v.base + v.geometry.log ≤ base) (most : base ≤ 2 ^ 63) (follows : Follows (IsOldOrNew v.geometry [] v (base_set base v)) d e) where
  abbrev w : Volume
  w = base_set base v

  unused-same : unused_blocks (base_set base v) ≡ unused_blocks v
  unused-same = frees_as_many v (base_set base v) refl (owners-base v base)

  room : HasRoom (base_set base v) [] [] s
  room = record {
    free = (let was = running.device.room.free in omega (arith, was, unused-same));
    blocks = running.device.room.blocks;
  }

  -- of one image
  module _ (before image : Words) (was : IsImage d before) (is : IsOldOrNew v.geometry [] v (base_set base v) before image) where
    headed-before : IsHeaded v.geometry before
    headed-before = running.device.headed before was

    sound : IsSound v.geometry before
    sound = sound_headed v.geometry before headed-before

    -- the head
    first-word : (i : ℕ) → i < 512 → i ≢ commit_word → i / 8 ≢ state_line → image i ≡ before i
    first-word i below commit state = let at = head_word v.geometry i below commit state in same_word v.geometry v w before image i is at.0 at.1

    line : line_bytes image 0 ≡ line_bytes before 0
    line = line_bytes-same image before 0 (λ i at. first-word i (omega (arith, at)) (λ same. omega (arith, at, same)) (λ same. omega (arith, at, same)))

    same : geometry_of image ≡ geometry_of before
    same = ap geometry_at line

    base-before : v.base ≡ journaled before base_word
    base-before = (running.device.stands.reads before was).base

    base-in : (1 ≤ journaled image base_word) × (journaled image base_word ≤ 2 ^ 63)
    base-in = by is.reads where
      low : 1 ≤ journaled before base_word
      low = headed-before.head.state.least_base

      high : journaled before base_word ≤ 2 ^ 63
      high = headed-before.head.state.most_base

      by : Reads v.geometry (journaled image) v ⊎ Reads v.geometry (journaled image) (base_set base v) → (1 ≤ journaled image base_word) × (journaled image base_word ≤ 2 ^ 63)
      by (inl old) = let now = old.base in (omega (arith, now, base-before, low), omega (arith, now, base-before, high))
      by (inr new) = let now : base ≡ journaled image base_word = new.base in (omega (arith, now, base-before, low, least), omega (arith, now, most))

    zeros-in : (i : ℕ) → base_word < i → i < base_word + 8 → journaled image i ≡ 0
    zeros-in i from below = by is.reads where
      by : Reads v.geometry (journaled image) v ⊎ Reads v.geometry (journaled image) (base_set base v) → journaled image i ≡ 0
      by (inl old) = old.state i from below
      by (inr new) = new.state i from below

    pub headed : IsHeaded v.geometry image
    headed = record {
      head = record {
        whole_blocks = headed-before.head.whole_blocks;
        magic = ap has_magic line ∙ headed-before.head.magic;
        version = ap has_version line ∙ headed-before.head.version;
        numbers = record {
          numbers = ap has_numbers line ∙ headed-before.head.numbers.numbers;
          whole = headed-before.head.numbers.whole ∙ ap (λ (k : Geometry). 4096 * k.blocks) (sym same);
          state = zeros-in;
          others = λ i from below commit state. first-word i below commit state ∙ headed-before.head.numbers.others i from below commit state;
        };
        records = λ r below. subst (λ k. HasTarget k image r) (sym (same ∙ headed-before.geometry)) (sound-targets v.geometry image r is.sound);
        state = record { count = is.sound.count; least_base = base-in.0; most_base = base-in.1 };
      };
      geometry = same ∙ headed-before.geometry;
    }

    same-log : SameLog v.geometry (journaled before) (journaled image)
    same-log = SameLog-changed v.geometry v w before image sound is

    data-same : (u : Volume) → u.geometry ≡ v.geometry → SameButLent u [] (journaled before) (journaled image)
    data-same u geometry b i in_data below lent = same_data v.geometry v w before image sound is b i (ap (λ g. is_data_block g b) (sym geometry) ∙ in_data) below

    -- the World
    pub world-old : IsWorld v claims [] (journaled image) numbers s count
    world-old = IsWorld-words v claims [] (journaled before) (journaled image) numbers s count (data-same v refl) (running.device.world before was)

    pub world-new : IsWorld (base_set base v) [] [] (journaled image) numbers s 0
    world-new = IsWorld-words w [] [] (journaled before) (journaled image) numbers s 0 (data-same w refl) (lap v claims (journaled before) numbers s count base (running.device.world before was) none)

    -- the log
    pub log-old : ShowsLog v claims (journaled image)
    log-old = ShowsLog-same v v claims (journaled before) (journaled image) refl refl same-log (running.log before was)

    no-entry : (slot : ℕ) → slot < v.geometry.log → entry_in (base_set base v) (journaled image) slot ≡ None
    no-entry slot below =
        none-past (line_bytes (journaled image) (log_line v.geometry slot)) (base + slot) (omega (arith, most, below, small)) (λ valid. (let was = log-old.no_later slot below valid in omega (arith, was, least)))
      where
        small : v.geometry.log ≤ 1024
        small = (running.device.world before was).geometry.most_log

    pub log-new : ShowsLog (base_set base v) [] (journaled image)
    log-new = record {
      shows = λ slot d. (λ there. absurd there, λ there. (let never : None ≡ Some d = sym (no-entry slot there.0) ∙ there.1 in cc));
      no_later = λ slot below valid. (let old = log-old.no_later slot below valid in omega (arith, old, least));
    }

    -- the words of a line of the log are seen as they are
    seen : (slot : ℕ) → line_bytes image (log_line v.geometry slot) ≡ line_bytes (journaled image) (log_line v.geometry slot)
    seen slot = line_bytes-same image (journaled image) (log_line v.geometry slot) (λ i at.
        sym (journaled-other v.geometry image i is.sound (behind_log-words v.geometry i (omega (arith, at))) (behind_log-not_journaled v.geometry (i / 8) (omega (arith, at)))))

    pub old-lines : HasOldLines (base_set base v) image
    old-lines slot below valid =
        let old = log-old.no_later slot below (ap is_self_valid (sym (seen slot)) ∙ valid) in
        omega (arith, old, ap held_seq (seen slot), least)

    -- what it shows
    pub shown-old : Reads v.geometry (journaled image) v → ShowsWorld v claims [] numbers s count image
    shown-old reads = record {
      headed = headed;
      reads = reads;
      world = world-old;
      room = running.device.room;
      landed = [];
      filled = tt;
      log = subst (λ cs. ShowsLog v cs (journaled image)) (sym (append-nil claims)) log-old;
    }

    pub shown-new : Reads v.geometry (journaled image) (base_set base v) → ShowsWorld (base_set base v) [] [] numbers s 0 image
    shown-new reads = record {
      headed = headed;
      reads = reads;
      world = world-new;
      room = room;
      landed = [];
      filled = tt;
      log = log-new;
    }

  pub running-next : Stands v.geometry (base_set base v) e → IsRunning (base_set base v) e [] numbers s 0
  running-next stands = record {
    device = record {
      stands = stands;
      headed = λ image is. (let from = follows image is in headed from.0 image from.1.is_image from.2);
      world = λ image is. (let from = follows image is in world-new from.0 image from.1.is_image from.2);
      room = room;
    };
    log = λ image is. (let from = follows image is in log-new from.0 image from.1.is_image from.2);
  }

  pub old-next : (image : Words) → IsImage e image → HasOldLines (base_set base v) image
  old-next image is = let from = follows image is in old-lines from.0 image from.1.is_image from.2

  pub promise-next : (start : State) (history : List Item) (unfinished : List Unfinished) → StronglyPermitted start.mode start history unfinished (tree s) → KeepsPromise v.geometry e start history unfinished
  promise-next start history unfinished permitted image is honest =
      let from = follows image is in
      elim from.2.reads [
        | inl old ↦ kept_one v claims numbers s count image start history unfinished (shown-old from.0 image from.1.is_image from.2 old) permitted
        | inr new ↦ kept_one w [] numbers s 0 image start history unfinished (shown-new from.0 image from.1.is_image from.2 new) permitted
      ]
