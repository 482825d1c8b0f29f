-- What the medium shows of a write.
use Rattle.std.specs.Prelude.{◌≡◌, ◌⊎◌, ◌<◌, ◌≤◌, ◌+◌, ◌-◌, ◌*◌, ◌/◌, ◌%◌, ℕ, true, List, [], min, Option, Some, None, IsSome, slice_index, refl}
use Rattle.std.proofs.Common.{arith, ap, ◌∙◌, sym, subst, inl, inr}
use Rattle.std.proofs.lemmas.Bool.{cases_lt}
use Rattle.live_model.specs.pm_model.Images.{IsImage}
use Rattle.live_model.specs.pm_model.Words.{byte_of, Words}
use Rattle.live_model.specs.layout_model.Journal.{journaled}
use Rattle.live_model.specs.layout_model.Places.{Geometry, is_data_block}
use Rattle.live_model.specs.layout_model.declared.lines.Draft.{Draft}
use Rattle.live_model.specs.layout_model.declared.lines.Kind.TheVariants.{File}
use Rattle.live_model.specs.image_model.Content.{byte_in, disk_by, disk_of, entry_of_block}
use Rattle.live_model.specs.image_model.Volume.{inode, Volume}
use Rattle.live_model.specs.file_table.Files.{Files, size_in}
use Rattle.live_model.specs.k_split_model.View.{View}
use Rattle.live_model.specs.commute_laws.posix_types.declared.item.Item.{Item}
use Rattle.live_model.specs.posix_laws.Puts.{put_bytes}
use Rattle.live_model.specs.posix_spec.Put.{Put}
use Rattle.live_model.specs.posix_spec.Run.{begun, run}
use Rattle.live_model.specs.posix_spec.State.{State}
use Rattle.live_model.specs.crash_spec.Posix.{LastBeforeCut}
use Rattle.live_model.specs.crash_spec.Values.{value_put}
use Rattle.live_model.specs.volume_laws.OwnerLaws.{IsOnePlace}
use Rattle.live_model.specs.world_model.Lent.{disk_of-in_data}
use Rattle.live_model.specs.world_model.Stands.{is_used, IsUsed, LogStands, number}
use Rattle.posix_mode_laws.specs.Batch.{WritesPublished}
use Rattle.posix_mode_laws.specs.Reread.{one_place}
use Rattle.posix_mode_laws.specs.Sides.{IsFresh, IsSettled, PosixWorld, Sides}
use Rattle.batch_laws.specs.Ready.{GoesReady}
use Rattle.batch_laws.specs.Standing.{sides_of, staged_of}
use Rattle.world_write_laws.specs.PlaceSteps.{covering}
use Rattle.batch_write_laws.specs.PutBytes.{put_beside, put_within}
use Rattle.batch_write_laws.specs.Seen.{old_stands}
use Rattle.batch_write_laws.specs.Cutting.{log_plain}
use Rattle.batch_write_laws.specs.Words.{WritesWords, put_end}
use Rattle.batch_write_laws.specs.WordsLaws.{IsRange}
use Rattle.batch_write_laws.specs.Writes.{AreSettledIn, PutsInto}

min_left : (a b i : ℕ) → i < min a b → i < a
min_left a b i below = grind (arith, below)

min_right : (a b i : ℕ) → i < min a b → i < b
min_right a b i below = grind (arith, below)

below_min : (a b i : ℕ) → i < a → i < b → i < min a b
below_min a b i first second = grind (arith, first, second)

min_low : (a b : ℕ) → min a b ≤ b
min_low a b = grind arith

below_block : (i : ℕ) → i % 4096 < 4096
below_block i = omega arith

same_place : (i j : ℕ) → i / 4096 ≡ j / 4096 → i % 4096 ≡ j % 4096 → i ≡ j
same_place i j block rest = omega (arith, block, rest)

not_both : (o : Option Draft) → IsSome o → o ≡ None → ⊥
not_both None is none = cc
not_both (Some d) is none = cc

module _ (g : Geometry) (k : View) (files : Files) (count : ℕ) (numbers : List ℕ) (start : State) (history : List Item) (item : Item) (ino : ℕ) (p : Put)
    (ready : GoesReady g k files count numbers start history) (puts : PutsInto k.volume numbers (run start history) item ino p)
    (live : List Draft) (IsFreshBlock : ℕ → Type 0) (before h : Words) (is : IsImage k.cells before)
    (range : IsRange k.volume (staged_of k.volume files) live ino p.place (put_end p) (size_in files ino) IsFreshBlock)
    (writes : WritesWords k.volume live ino p.place (put_end p) (put_bytes (run start history) p) IsFreshBlock (journaled before) h)
    (settled : AreSettledIn (sides_of k files ready.going.old_numbers numbers) ino p.place (put_end p)) (fresh : (b : ℕ) → IsFreshBlock b → IsFresh k.committed b) where
  abbrev v : Volume
  v = k.volume

  abbrev s : State
  s = run start history

  abbrev n : ℕ
  n = number numbers ino

  abbrev size : ℕ
  size = (inode k.volume ino).size

  -- where the published bytes of it end
  abbrev pub last : ℕ
  last = min (put_end p) (inode k.volume ino).size

  abbrev sides : Sides
  sides = sides_of k files ready.going.old_numbers numbers

  world : PosixWorld LastBeforeCut sides (journaled before) start ready.going.front ready.going.later
  world = ready.going.world before is

  used : IsUsed v ino
  used = ap is_used puts.file

  log : LogStands v (staged_of v files)
  log = log_plain files.sizes v (staged_of v files) (old_stands g k files count numbers start history item ino p ready puts before is).log

  module _ (j i b : ℕ) (file : (inode k.committed j).kind ≡ File) (below : i < (inode k.committed j).size) (outside : (j ≡ ino) × (p.place ≤ i) × (i < last) → ⊥) (at : disk_of k.committed [] j (i / 4096) ≡ Some b) where
    j_used : IsUsed k.committed j
    j_used = ap is_used file

    no_fresh : IsFresh k.committed b → ⊥
    no_fresh is_fresh = is_fresh.files j (i / 4096) j_used at

    -- a place of the file in its own map, which has the block: it is this one, past what is published
    own_place : (m : ℕ) → p.place ≤ m → m < put_end p → m % 4096 ≡ i % 4096 → disk_of v [] ino (m / 4096) ≡ Some b → (j ≡ ino) × (i ≡ m) × (size ≤ i) × IsSettled sides ino (i / 4096) b
    own_place m from low rest there = elim (world.blocks.mapped ino (m / 4096) b used there) [
      | inr is_fresh ↦ absurd (no_fresh is_fresh)
      | inl is_settled ↦ (
          let one : IsOnePlace j ino (i / 4096) (m / 4096) = one_place k.committed world.medium.stands.sane j ino (i / 4096) (m / 4096) b j_used is_settled.used at is_settled.same in
          let same : i ≡ m = same_place i m one.place (sym rest) in
          (one.inode, same, past one.inode same, subst (λ x. IsSettled sides ino x b) (sym one.place) is_settled))
    ] where
      past : j ≡ ino → i ≡ m → size ≤ i
      past own same = elim (cases_lt i size) [
        | inl short ↦ absurd (outside (own, omega (arith, same, from), below_min (put_end p) size i (omega (arith, same, low)) short))
        | inr high ↦ high
      ]

    no_mapped : (m : ℕ) → p.place ≤ m → m < put_end p → m % 4096 ≡ i % 4096 → m < size → disk_of v [] ino (m / 4096) ≡ Some b → ⊥
    no_mapped m from low rest short there =
        let is = own_place m from low rest there in
        let same = is.1 in
        let high = is.2 in
        omega (arith, same, high, short)

    no_seen : (m : ℕ) → p.place ≤ m → m < put_end p → m % 4096 ≡ i % 4096 → disk_of v live ino (m / 4096) ≡ Some b → ⊥
    no_seen m from low rest there = elim (range.was m b from low there) [
      | inl is_fresh ↦ no_fresh (fresh b is_fresh)
      | inr was ↦ by (entry_of_block (staged_of v files) ino (m / 4096)) refl was.0 was.1
    ] where
      by : (o : Option Draft) → entry_of_block (staged_of v files) ino (m / 4096) ≡ o → disk_by v o ino (m / 4096) ≡ Some b → m < size_in files ino → ⊥
      by (Some d) entry staged short = no_fresh (world.blocks.staging d.staging (d.staging_block + (m / 4096 - d.file_block)) b (log.staging d (covering (staged_of v files) ino (m / 4096) d entry).is) staged)
      by None entry mapped short =
          let is = own_place m from low rest mapped in
          let same = is.1 in
          let mine : i < (inode k.committed ino).size = subst (λ x. i < (inode k.committed x).size) is.0 below in
          not_both (entry_of_block (staged_of v files) ino (i / 4096))
          (world.cuts.staged ino i b used is.3.node is.2 mine (omega (arith, same, short)) (subst (λ x. disk_of v [] ino (x / 4096) ≡ Some b) (sym same) mapped) is.3)
          (subst (λ x. entry_of_block (staged_of v files) ino (x / 4096) ≡ None) (sym same) entry)

    pub medium_byte : byte_of h (4096 * b + i % 4096) ≡ byte_of (journaled before) (4096 * b + i % 4096)
    medium_byte =
        writes.others b (i % 4096)
        (subst (λ (x : Geometry). is_data_block x b ≡ true) (sym ready.geometry) (disk_of-in_data k.committed [] world.medium.stands.sane world.medium.stands.log j (i / 4096) b j_used at)) (below_block i)
        (λ is_fresh. no_fresh (fresh b is_fresh)) (λ m from low rest. (λ there. no_seen m from low rest there, λ short there. no_mapped m from low rest short there))

  same_medium : (j i : ℕ) → (inode k.committed j).kind ≡ File → i < (inode k.committed j).size → ((j ≡ ino) × (p.place ≤ i) × (i < last) → ⊥)
      → byte_in h (disk_of k.committed [] j (i / 4096)) i ≡ byte_in (journaled before) (disk_of k.committed [] j (i / 4096)) i
  same_medium j i file below outside = by (disk_of k.committed [] j (i / 4096)) refl where
    by : (o : Option ℕ) → disk_of k.committed [] j (i / 4096) ≡ o → byte_in h o i ≡ byte_in (journaled before) o i
    by None at = refl
    by (Some b) at = medium_byte j i b file below outside at

  -- a byte beside the published ones of the range
  beside_it : (i : ℕ) → ((p.place ≤ i) × (i < last) → ⊥) → i < size → (i < p.place) ⊎ (put_end p ≤ i)
  beside_it i outside low = elim (cases_lt i p.place) [
    | inl before_it ↦ inl before_it
    | inr from ↦ elim (cases_lt i (put_end p)) [
      | inl short ↦ absurd (outside (omega (arith, from), below_min (put_end p) size i short low))
      | inr past ↦ inr past
    ]
  ]

  -- OF WHAT THE MEDIUM SHOWS the published bytes of the range are the call's, and nothing else differs.
  pub writes_published : WritesPublished sides (journaled before) h s (begun item) ino p.place last
  writes_published = record {
    file = puts.file;
    settled = λ i from low. settled i from (min_left (put_end p) size i low) (min_right (put_end p) size i low);
    puts = λ i b from low at. (
        let bytes : byte_of h (4096 * b + i % 4096) ≡ slice_index (put_bytes s p) i = ap (λ o. byte_in h o i) (sym at) ∙ writes.mapped i from (min_left (put_end p) size i low) (min_right (put_end p) size i low) in
        subst (λ m. value_put s (begun item) m i ≡ Some (byte_of h (4096 * b + i % 4096))) puts.node
        (put_within s (begun item) p i puts.is from (min_left (put_end p) size i low) ∙ ap (λ x. Some x) (sym bytes)));
    beyond = λ i outside low. put_beside s (begun item) p n i puts.is (inr (beside_it i outside low));
    own = λ m i other. put_beside s (begun item) p m i puts.is (inl (λ same. other (sym same ∙ puts.node)));
    published = min_low (put_end p) size;
    others = same_medium;
  }
