-- What K-Split answers where bytes are written over in place, as words of a write; and pieces of a write, one behind the other.
use Rattle.std.specs.Prelude.{◌≡◌, ◌≢◌, ◌⊎◌, ◌<◌, ◌≤◌, ◌+◌, ◌-◌, ◌*◌, ◌/◌, ◌%◌, ◌^◌, ℕ, true, false, List, [], length, Option, Some, None, IsSome, slice_index, refl}
use Rattle.std.proofs.Common.{arith, ap, ◌∙◌, sym, subst, inl, inr}
use Rattle.std.proofs.lemmas.Bool.{cases_eq, cases_lt}
use Rattle.live_model.specs.pm_model.Images.{Follows, IsImage}
use Rattle.live_model.specs.pm_model.Words.{byte_of, Words}
use Rattle.live_model.specs.pm_model.declared.Cell.{Cell}
use Rattle.live_model.specs.layout_model.Journal.{IsSound, journaled}
use Rattle.live_model.specs.layout_model.Places.{Geometry, is_data_block}
use Rattle.live_model.specs.layout_model.declared.lines.Draft.{Draft}
use Rattle.live_model.specs.layout_model.declared.lines.Kind.TheVariants.{File, Staging}
use Rattle.live_model.specs.extent_model.Extents.{disk_at}
use Rattle.live_model.specs.image_model.Content.{byte_in, disk_by, disk_of, entry_of_block}
use Rattle.live_model.specs.image_model.Volume.{extents, inode, Volume}
use Rattle.live_model.specs.file_table.Files.{Files}
use Rattle.live_model.specs.k_split.Bytes.{IsWrittenOver}
use Rattle.live_model.specs.k_split.block_io.Overwrites.{IsOverwrittenWhole}
use Rattle.live_model.specs.k_split_model.View.{View}
use Rattle.live_model.specs.commute_laws.posix_types.declared.item.Item.{Item}
use Rattle.live_model.specs.posix_spec.State.{State}
use Rattle.live_model.specs.volume_laws.ImageLaws.{journaled-other}
use Rattle.live_model.specs.volume_laws.LineWords.{data_word, data_word-not_journaled}
use Rattle.live_model.specs.world_image_laws.Changed.{sound_headed}
use Rattle.live_model.specs.world_image_laws.Images.{IsHeaded}
use Rattle.live_model.specs.world_model.Lent.{disk_of-in_data, in_data}
use Rattle.live_model.specs.world_model.Stands.{is_used, IsSane, IsUsed, LogStands}
use Rattle.batch_laws.specs.Ready.{GoesReady}
use Rattle.batch_laws.specs.Steps.{IsOfStaging}
use Rattle.batch_laws.specs.WorldsLaws.{cut_is_world}
use Rattle.batch_publish_laws.specs.Words.{behind_journal}
use Rattle.world_write_laws.specs.PlaceSteps.{covering}
use Rattle.batch_write_laws.specs.Losses.{LosesPut, LosesWords}
use Rattle.batch_write_laws.specs.Pieces.{CutIsLost, DoneIsWritten, LiesAt, LosesAt, WritesAt, WritesCopy}
use Rattle.batch_write_laws.specs.Places.{place_mapped, place_seen, staged_mapped}
use Rattle.batch_write_laws.specs.Words.{WritesWords}
use Rattle.batch_write_laws.specs.WordsLaws.{IsRange, mapped_stays, seen_stays}
use Rattle.batch_write_laws.specs.Writes.{HasWritten, IsNoBlock}

-- ---- the answers

-- a byte of a data block is seen as it is
seen_byte : (g : Geometry) (f : Words) (b i : ℕ) → IsSound g f → is_data_block g b ≡ true → i < 4096 → byte_of (journaled f) (4096 * b + i) ≡ byte_of f (4096 * b + i)
seen_byte g f b i sound there below =
    let word : (4096 * b + i) / 8 ≡ 512 * b + i / 8 = omega arith in
    let low : i / 8 < 512 = omega (arith, below) in
    ap (λ (n : ℕ). n / 256 ^ ((4096 * b + i) % 8) % 256)
    (ap (journaled f) word ∙ (journaled-other g f (512 * b + i / 8) sound (behind_journal g (512 * b + i / 8) (data_word g b (i / 8) there low)) (data_word-not_journaled g b (i / 8) there low) ∙ ap f (sym word)))

module _ (g : Geometry) (k : View) (files : Files) (count : ℕ) (numbers : List ℕ) (start : State) (history : List Item) (x place : ℕ) (bytes : List ℕ)
    (ready : GoesReady g k files count numbers start history) (low : x < length k.volume.inodes) (before image : Words) (is : IsImage k.cells before) (over : IsWrittenOver k.committed k.volume x place bytes before image) where
  abbrev v : Volume
  v = k.volume

  same_geometry : k.committed.geometry ≡ k.volume.geometry
  same_geometry = sym ready.geometry

  was_sound : IsSound k.volume.geometry before
  was_sound = sound_headed k.volume.geometry before (subst (λ y. IsHeaded y before) (sym ready.going.geometry) (ready.going.headed before is))

  now_sound : IsSound k.volume.geometry image
  now_sound = subst (λ y. IsSound y image) same_geometry over.sound

  -- a block of the map is a data block
  mapped_data : (q b : ℕ) → disk_at (extents v x) q ≡ Some b → is_data_block v.geometry b ≡ true
  mapped_data q b at = in_data v (cut_is_world g k files count numbers start history before ready.going is).valid.stands.sane x q b low at

  -- words beside the data blocks are the same
  beside_data : (i : ℕ) → is_data_block k.volume.geometry (i / 512) ≡ false → image i ≡ before i
  beside_data i out = over.bytes_are.words i (λ p b stands same. (
      let never : true ≡ false = sym (mapped_data (p / 4096) b stands.at) ∙ (ap (is_data_block v.geometry) (sym same) ∙ out) in cc))

  other_bytes : (b j : ℕ) → is_data_block v.geometry b ≡ true → j < 4096 → ((q : ℕ) → place ≤ q → q < place + length bytes → q % 4096 ≡ j → disk_at (extents v x) (q / 4096) ≢ Some b)
      → byte_of (journaled image) (4096 * b + j) ≡ byte_of (journaled before) (4096 * b + j)
  other_bytes b j there small apart =
      seen_byte v.geometry image b j now_sound there small
      ∙ (over.bytes_are.others (4096 * b + j) (λ p c stands same. (
      let block : c ≡ b = omega (arith, same, small) in
      apart p stands.from stands.below (omega (arith, same, small)) (stands.at ∙ ap (λ y. Some y) block)))
      ∙ sym (seen_byte v.geometry before b j was_sound there small))

  abbrev rest : ℕ → ℕ
  rest q = q % 4096

  whole_bytes : IsOverwrittenWhole (extents k.volume x) place bytes before image → WritesAt k.volume x place bytes (journaled before) (journaled image)
  whole_bytes whole = record {
    each = λ q b from below at.
        seen_byte v.geometry image b (q % 4096) now_sound (mapped_data (q / 4096) b at) (omega arith) ∙ whole.each q b (record { from = from; below = below; at = at });
    others = other_bytes;
  }

  some_bytes : LosesAt k.volume x place bytes (journaled before) (journaled image)
  some_bytes = record {
    each = λ q b from below at. (
        let there = mapped_data (q / 4096) b at in
        let now = seen_byte v.geometry image b (q % 4096) now_sound there (omega arith) in
        elim (over.bytes_are.each q b (record { from = from; below = below; at = at })) [
          | inl old ↦ inl (now ∙ (old ∙ sym (seen_byte v.geometry before b (q % 4096) was_sound there (omega arith))))
          | inr new ↦ inr (now ∙ new)
        ]);
    others = other_bytes;
  }

pub done_is_written : DoneIsWritten
done_is_written g k l files count numbers start history x place bytes ready low done = record {
  same = done.same;
  order = done.order;
  lent = done.over.lent;
  singles = done.singles;
  each_image = λ image is. (
      let from = done.over.each_image image is in
      let whole = done.whole image is in (
        whole.0,
        whole.1,
        record {
          beside = λ i out. beside_by image is whole.0 whole.1.is_image whole.2 i out;
          words = words_by image is whole.0 whole.1.is_image whole.2;
        },
      ));
} where
  over_now : (image : Words) → IsImage l.cells image → (before : Words) → IsOverwrittenWhole (extents k.volume x) place bytes before image → IsWrittenOver k.committed k.volume x place bytes before image
  over_now image is before whole =
      let from = done.over.each_image image is in
      record {
        reads = from.2.reads;
        sound = from.2.sound;
        bytes_are = record { each = λ p b stands. inr (whole.each p b stands); others = whole.others; words = whole.words };
      }

  beside_by : (image : Words) → IsImage l.cells image → (before : Words) → IsImage k.cells before → IsOverwrittenWhole (extents k.volume x) place bytes before image → (i : ℕ) → is_data_block g (i / 512) ≡ false → image i ≡ before i
  beside_by image is before was whole i out =
      beside_data g k files count numbers start history x place bytes ready low before image was (over_now image is before whole) i (subst (λ y. is_data_block y (i / 512) ≡ false) (sym ready.going.geometry) out)

  words_by : (image : Words) → IsImage l.cells image → (before : Words) → IsImage k.cells before → IsOverwrittenWhole (extents k.volume x) place bytes before image → WritesAt k.volume x place bytes (journaled before) (journaled image)
  words_by image is before was whole = whole_bytes g k files count numbers start history x place bytes ready low before image was (over_now image is before whole) whole

pub cut_is_lost : CutIsLost
cut_is_lost g k l files count numbers start history x place bytes ready low cut image is =
    let from = cut.over.each_image image is in (
      from.0,
      from.1,
      record {
        reads = from.2.reads;
        beside = λ i out.
            beside_data g k files count numbers start history x place bytes ready low from.0 image from.1.is_image from.2 i (subst (λ y. is_data_block y (i / 512) ≡ false) (sym ready.geometry) out);
        words = some_bytes g k files count numbers start history x place bytes ready low from.0 image from.1.is_image from.2;
      },
    )

-- ---- one rule behind another

-- both done
pub written_then : (g : Geometry) (R S : Words → Words → Type 0) (k l m : View) → HasWritten g R k l → HasWritten g S l m → HasWritten g (λ f h. (u : Words) × R f u × S u h) k m
written_then g R S k l m first second = record {
  same = second.same ∙ ap (λ (z : View). record z { cells = m.cells }) first.same;
  order = second.order;
  lent = λ i. second.lent i ∙ first.lent i;
  singles = λ i single. second.singles i (first.singles i single);
  each_image = λ image is. (
      let mid = second.each_image image is in
      let from = first.each_image mid.0 mid.1.is_image in (
        from.0,
        record { is_image = from.1.is_image; lent = λ i out. from.1.lent i out ∙ mid.1.lent i (first.lent i ∙ out) },
        record { beside = λ i out. mid.2.beside i out ∙ from.2.beside i out; words = (journaled mid.0, from.2.words, mid.2.words) },
      ));
}

-- the first done, the second cut off
pub lost_then : (g : Geometry) (R S : Words → Words → Type 0) (k l : View) (d : List Cell) → k.committed.geometry ≡ g → HasWritten g R k l → Follows (LosesWords k.committed S) l.cells d
    → Follows (LosesWords k.committed (λ f h. (u : Words) × R f u × S u h)) k.cells d
lost_then g R S k l d medium first second image is =
    let mid = second image is in
    let from = first.each_image mid.0 mid.1.is_image in (
      from.0,
      record { is_image = from.1.is_image; lent = λ i out. from.1.lent i out ∙ mid.1.lent i (first.lent i ∙ out) },
      record {
        reads = mid.2.reads;
        beside = λ i out. mid.2.beside i out ∙ from.2.beside i (subst (λ y. is_data_block y (i / 512) ≡ false) medium out);
        words = (journaled mid.0, from.2.words, mid.2.words);
      },
    )

-- ---- pieces of a write

small : (i : ℕ) → i % 4096 < 4096
small i = omega arith

same_byte : (i j : ℕ) → i / 4096 ≡ j / 4096 → i % 4096 ≡ j % 4096 → i ≡ j
same_byte i j block rest = omega (arith, block, rest)

there_is : (o : Option ℕ) → IsSome o → (b : ℕ) × (o ≡ Some b)
there_is None is = cc
there_is (Some b) is = (b, refl)

-- by its map an inode has one copy of the bytes of a file: so that is written
pub copy_written : (v : Volume) (live : List Draft) (ino at x place : ℕ) (bytes whole : List ℕ) (f h : Words) → LiesAt v live ino at (length bytes) x place
    → ((i : ℕ) → i < length bytes → slice_index whole (at + i) ≡ slice_index bytes i) → WritesAt v x place bytes f h → WritesCopy v live ino at (at + length bytes) whole f h
copy_written v live ino at x place bytes whole f h lies puts writes = record {
  seen = λ i from below. seen i from below (there_is (disk_at (extents v x) ((place + (i - at)) / 4096)) (lies.some (i - at) (omega (arith, from, below))));
  others = λ b j there low apart. writes.others b j there low (λ q from below rest is. (
      let offset = lies.offset in
      let back : place + (q - place) ≡ q = omega (arith, from) in
      apart (at + (q - place)) (omega arith) (omega (arith, from, below)) (omega (arith, offset, rest, from))
      (lies.same (q - place) (omega (arith, from, below)) ∙ (ap (λ n. disk_at (extents v x) (n / 4096)) back ∙ is))));
} where
  seen : (i : ℕ) → at ≤ i → i < at + length bytes → (b : ℕ) × (disk_at (extents v x) ((place + (i - at)) / 4096) ≡ Some b) → byte_in h (disk_of v live ino (i / 4096)) i ≡ slice_index whole i
  seen i from below (b, is) =
      let d = i - at in
      let back : at + (i - at) ≡ i = omega (arith, from) in
      let offset = lies.offset in
      let rest : (place + (i - at)) % 4096 ≡ i % 4096 = omega (arith, offset, from) in
      let count : place + (i - at) - place ≡ i - at = omega arith in
      let block : disk_of v live ino (i / 4096) ≡ Some b = ap (λ n. disk_of v live ino (n / 4096)) (sym back) ∙ (lies.same (i - at) (omega (arith, from, below)) ∙ is) in
      ap (λ o. byte_in h o i) block
      ∙ (ap (λ n. byte_of h (4096 * b + n)) (sym rest)
      ∙ (writes.each (place + (i - at)) b (omega arith) (omega (arith, from, below)) is
      ∙ (ap (slice_index bytes) count ∙ (sym (puts (i - at) (omega (arith, from, below))) ∙ ap (slice_index whole) back))))

module _ (v : Volume) (live : List Draft) (sane : IsSane v) (log : LogStands v live) (none : LogStands v []) (ino : ℕ) (file : (inode v ino).kind ≡ File) (whole : List ℕ) where
  abbrev size : ℕ
  size = (inode v ino).size

  used : IsUsed v ino
  used = ap is_used file

  some_or : (o : Option ℕ) (b : ℕ) → (o ≡ Some b) ⊎ (o ≢ Some b)
  some_or None b = inr (λ never. cc)
  some_or (Some e) b = elim (cases_eq e b) [
    | inl same ↦ inl (ap (λ y. Some y) same)
    | inr other ↦ inr (λ is. other (ap value is))
  ] where
    value : Option ℕ → ℕ
    value None = 0
    value (Some y) = y

  -- BOTH COPIES of a piece: where the calls see it, and of what is published in the file's own map
  pub both_copies : (first last end : ℕ) (f u h : Words) → ((i : ℕ) → first ≤ i → i < end → (i < last) × (i < size)) → ((i : ℕ) → first ≤ i → i < last → i < size → i < end)
      → WritesCopy v live ino first last whole f u → WritesCopy v [] ino first end whole u h → WritesWords v live ino first last whole IsNoBlock f h
  both_copies first last end f u h short covers seen mapped = record {
    seen = λ i from below. by i from below (disk_of v live ino (i / 4096)) refl;
    mapped = λ i from below low. mapped.seen i from (covers i from below low);
    others = λ b j there low out apart.
        mapped.others b j there low (λ i from below rest is. (let its = short i from below in (apart i from its.0 rest).1 its.1 is))
        ∙ seen.others b j there low (λ i from below rest is. (apart i from below rest).0 is);
  } where
    by : (i : ℕ) → first ≤ i → i < last → (o : Option ℕ) → disk_of v live ino (i / 4096) ≡ o → byte_in h (disk_of v live ino (i / 4096)) i ≡ slice_index whole i
    by i from below None at = ap (λ o. byte_in h o i) at ∙ (sym (ap (λ o. byte_in u o i) at) ∙ seen.seen i from below)
    by i from below (Some b) at = elim (some_or (disk_of v [] ino (i / 4096)) b) [
      | inl own ↦ elim (cases_lt i end) [
        | inl low ↦ ap (λ o. byte_in h o i) (at ∙ sym own) ∙ mapped.seen i from low
        | inr past ↦ stays (λ m m_from m_below rest is. (
            let block = place_mapped v live sane log ino b used (i / 4096) (m / 4096) at is in
            let same = same_byte i m block (sym rest) in
            omega (arith, same, m_below, past)))
      ]
      | inr other ↦ stays (λ m m_from m_below rest is. other (subst (λ y. disk_of v [] ino y ≡ Some b) (sym (place_mapped v live sane log ino b used (i / 4096) (m / 4096) at is)) is))
    ] where
      stays : ((m : ℕ) → first ≤ m → m < end → m % 4096 ≡ i % 4096 → disk_of v [] ino (m / 4096) ≢ Some b) → byte_in h (disk_of v live ino (i / 4096)) i ≡ slice_index whole i
      stays apart =
          ap (λ o. byte_in h o i) at
          ∙ (mapped.others b (i % 4096) (disk_of-in_data v live sane log ino (i / 4096) b used at) (small i) apart
          ∙ (sym (ap (λ o. byte_in u o i) at) ∙ seen.seen i from below))

  range : (first last : ℕ) → IsRange v live live ino first last last IsNoBlock
  range first last = record { was = λ i b from below at. inr (at, below); unused = λ j block b j_used at never. never; unmapped = λ j block b j_used at never. never }

  -- ONE PIECE BEHIND THE OTHER
  pub words_more : (first mid last : ℕ) (f u h : Words) → first ≤ mid → mid ≤ last → WritesWords v live ino first mid whole IsNoBlock f u → WritesWords v live ino mid last whole IsNoBlock u h
      → WritesWords v live ino first last whole IsNoBlock f h
  words_more first mid last f u h low high one two = record {
    seen = λ i from below. elim (cases_lt i mid) [
      | inl early ↦ seen_stays v live live ino mid last last whole IsNoBlock u h sane log none file (range mid last) two i (inl early) ∙ one.seen i from early
      | inr late ↦ two.seen i (omega (arith, late)) below
    ];
    mapped = λ i from below short. elim (cases_lt i mid) [
      | inl early ↦ mapped_stays v live live ino mid last last whole IsNoBlock u h sane log none file (range mid last) two i (inl early) ∙ one.mapped i from early short
      | inr late ↦ two.mapped i (omega (arith, late)) below short
    ];
    others = λ b j there small_j out apart.
        two.others b j there small_j out (λ i from below rest. apart i (omega (arith, low, from)) below rest)
        ∙ one.others b j there small_j out (λ i from below rest. apart i from (omega (arith, below, high)) rest);
  }

  -- ---- cut off

  -- a block of the file's own map is in no staging file
  mapped_unstaged : (block b : ℕ) → disk_of v [] ino block ≡ Some b → IsOfStaging v b → ⊥
  mapped_unstaged block b at staged = staged_mapped v [] sane none ino b used staged.0 staged.1 block staged.2 staged.3 at

  mapped_data_of : (block b : ℕ) → disk_of v [] ino block ≡ Some b → is_data_block v.geometry b ≡ true
  mapped_data_of block b at = disk_of-in_data v [] sane none ino block b used at

  -- Where blocks of staging files alone differ, the file's own map has what it had.
  pub staging_put : (first last : ℕ) (f h : Words) → ((b j : ℕ) → is_data_block v.geometry b ≡ true → j < 4096 → (IsOfStaging v b → ⊥) → byte_of h (4096 * b + j) ≡ byte_of f (4096 * b + j))
      → LosesPut v ino first last whole f h
  staging_put first last f h same = record {
    each = λ i b from below at. inl (same b (i % 4096) (mapped_data_of (i / 4096) b at) (small i) (mapped_unstaged (i / 4096) b at));
    others = λ b j there low out apart. same b j there low out;
  }

  -- the copy in a staging file was cut off, or that in the map
  pub staged_copy_lost : (first last x place : ℕ) (bytes : List ℕ) (f h : Words) → (inode v x).kind ≡ Staging → LosesAt v x place bytes f h → LosesPut v ino first last whole f h
  staged_copy_lost first last x place bytes f h kind loses =
      staging_put first last f h (λ b j there low out. loses.others b j there low (λ q from below rest at. out (x, q / 4096, kind, at)))

  pub map_copy_lost : (at : ℕ) (bytes : List ℕ) (f h : Words) → ((i : ℕ) → i < length bytes → slice_index whole (at + i) ≡ slice_index bytes i) → LosesAt v ino at bytes f h
      → LosesPut v ino at (at + length bytes) whole f h
  map_copy_lost at bytes f h puts loses = record {
    each = λ i b from below is. (
        let back : at + (i - at) ≡ i = omega (arith, from) in
        elim (loses.each i b from below is) [
          | inl old ↦ inl old
          | inr new ↦ inr (new ∙ (sym (puts (i - at) (omega (arith, from, below))) ∙ ap (slice_index whole) back))
        ]);
    others = λ b j there low out apart. loses.others b j there low apart;
  }

  -- a write of a range is one of a wider range,
  pub put_wider : (first last from_byte to_byte : ℕ) (f h : Words) → from_byte ≤ first → last ≤ to_byte → LosesPut v ino first last whole f h → LosesPut v ino from_byte to_byte whole f h
  put_wider first last from_byte to_byte f h low high loses = record {
    each = λ i b from below at. elim (cases_lt i first) [
      | inl early ↦ inl (stays i b at (λ m m_from m_below same. omega (arith, same, early, m_from)))
      | inr late ↦ elim (cases_lt i last) [
        | inl within ↦ loses.each i b (omega (arith, late)) within at
        | inr past ↦ inl (stays i b at (λ m m_from m_below same. omega (arith, same, past, m_below)))
      ]
    ];
    others = λ b j there small_j out apart. loses.others b j there small_j out (λ i from below rest. apart i (omega (arith, low, from)) (omega (arith, below, high)) rest);
  } where
    stays : (i b : ℕ) → disk_of v [] ino (i / 4096) ≡ Some b → ((m : ℕ) → first ≤ m → m < last → i ≡ m → ⊥) → byte_of h (4096 * b + i % 4096) ≡ byte_of f (4096 * b + i % 4096)
    stays i b at apart = loses.others b (i % 4096) (mapped_data_of (i / 4096) b at) (small i) (mapped_unstaged (i / 4096) b at) (λ m from below rest is.
        apart m from below (same_byte i m (place_seen v [] sane none ino b used (i / 4096) (m / 4096) at is) (sym rest)))

  -- and so are two of one.
  pub put_again : (first last : ℕ) (f u h : Words) → LosesPut v ino first last whole f u → LosesPut v ino first last whole u h → LosesPut v ino first last whole f h
  put_again first last f u h one two = record {
    each = λ i b from below at. elim (two.each i b from below at) [
      | inr new ↦ inr new
      | inl old ↦ elim (one.each i b from below at) [
        | inl older ↦ inl (old ∙ older)
        | inr new ↦ inr (old ∙ new)
      ]
    ];
    others = λ b j there low out apart. two.others b j there low out apart ∙ one.others b j there low out apart;
  }

  -- what is written is cut off nowhere
  pub words_put : (first last : ℕ) (f h : Words) → WritesWords v live ino first last whole IsNoBlock f h → LosesPut v ino first last whole f h
  words_put first last f h writes = record {
    each = λ i b from below at. elim (some_or (disk_of v live ino (i / 4096)) b) [
      | inl seen ↦ inr (sym (ap (λ o. byte_in h o i) seen) ∙ writes.seen i from below)
      | inr other ↦ elim (cases_lt i size) [
        | inl short ↦ inr (sym (ap (λ o. byte_in h o i) at) ∙ writes.mapped i from below short)
        | inr long ↦ inl (writes.others b (i % 4096) (mapped_data_of (i / 4096) b at) (small i) (λ never. never) (λ m m_from m_below rest. (
          λ is. other (subst (λ y. disk_of v live ino y ≡ Some b) (place_mapped v live sane log ino b used (m / 4096) (i / 4096) is at) is),
          λ m_short is. (
              let same = same_byte i m (place_seen v [] sane none ino b used (i / 4096) (m / 4096) at is) (sym rest) in
              omega (arith, same, m_short, long)),
        )))
      ]
    ];
    others = λ b j there low out apart. writes.others b j there low (λ never. never) (λ i from below rest. (seen_apart b i out (apart i from below rest), λ short is. apart i from below rest is));
  } where
    seen_apart : (b i : ℕ) → (IsOfStaging v b → ⊥) → disk_of v [] ino (i / 4096) ≢ Some b → disk_of v live ino (i / 4096) ≢ Some b
    seen_apart b i out apart at = by (entry_of_block live ino (i / 4096)) refl at where
      by : (o : Option Draft) → entry_of_block live ino (i / 4096) ≡ o → disk_by v o ino (i / 4096) ≡ Some b → ⊥
      by None entry is = apart is
      by (Some d) entry is = out (d.staging, d.staging_block + (i / 4096 - d.file_block), log.staging d (covering live ino (i / 4096) d entry).is, is)
