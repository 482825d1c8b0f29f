-- Bytes that were cut off, behind a change by which one file is anew.
use Rattle.batch_laws.specs.Ready.{GoesReady}
use Rattle.batch_laws.specs.Standing.{PosixGoing, sides_of, staged_of}
use Rattle.batch_laws.specs.WorldsLaws.{cut_is_world}
use Rattle.batch_publish_laws.specs.Changes.{IsMapGathered}
use Rattle.batch_publish_laws.specs.Renewals.{RenewsFile}
use Rattle.batch_publish_laws.specs.RenewalsLaws.{other_size, own_size, staged_left}
use Rattle.live_model.specs.commute_laws.posix_types.declared.item.Item.{Item}
use Rattle.live_model.specs.crash_spec.Values.{is_shortened}
use Rattle.live_model.specs.extent_model.Extents.{disk_at, is_within}
use Rattle.live_model.specs.extent_model.declared.extent_words.Extent.{Extent}
use Rattle.live_model.specs.file_table.Files.{Files, size_in}
use Rattle.live_model.specs.image_model.Content.{entry_of_block, size_of}
use Rattle.live_model.specs.image_model.Live.{latest}
use Rattle.live_model.specs.image_model.Volume.{Volume, extents, inode}
use Rattle.live_model.specs.k_split_model.View.{View}
use Rattle.live_model.specs.layout_model.Places.{Geometry}
use Rattle.live_model.specs.layout_model.declared.lines.Draft.{Draft}
use Rattle.live_model.specs.layout_model.declared.lines.Inode.{Inode}
use Rattle.live_model.specs.layout_model.declared.lines.Kind.TheVariants.{Staging}
use Rattle.live_model.specs.list_laws.Filters.{filter-agree, filter-both}
use Rattle.live_model.specs.pm_model.ImageLaws.{IsImage-words_of}
use Rattle.live_model.specs.pm_model.Images.{words_of}
use Rattle.live_model.specs.posix_laws.Cuts.{cut_of}
use Rattle.live_model.specs.posix_spec.Run.{begun, run}
use Rattle.live_model.specs.posix_spec.State.{State}
use Rattle.live_model.specs.world_model.Stands.{IsSane, IsUsed, NamesStand, is_used, number}
use Rattle.posix_mode_laws.specs.Sides.{IsSettled, KeepsCutBytes, Sides}
use Rattle.std.proofs.Common.{ap, arith, inl, inr, subst, sym, ◌∙◌}
use Rattle.std.proofs.lemmas.Bool.{cases_eq, ne_eqb}
use Rattle.std.specs.Prelude.{Bool, IsSome, List, None, Some, [], false, filter, length, map, not, refl, true, ℕ, ◌&&◌, ◌++◌, ◌/◌, ◌<◌, ◌==◌, ◌≡◌, ◌≢◌, ◌≤◌, ◌⊎◌}

and_none : (b : Bool) → (b && false) ≡ false
and_none true = refl
and_none false = refl

module _ (g : Geometry) (k l : View) (files e : Files) (count : ℕ) (numbers : List ℕ) (start : State) (history more : List Item) (blocks : List ℕ) (w : Volume) (ino : ℕ) (bytes : List ℕ) (published : ℕ)
    (ready : GoesReady g k files count numbers start history) (gathered : IsMapGathered blocks k l w) (renewal : RenewsFile blocks k.volume w files e ino (length bytes)) (published_is : (inode w ino).size ≡ published) where
  abbrev going : PosixGoing g k files count numbers start history
  going = ready.going

  abbrev v : Volume
  v = k.volume

  abbrev old_sides : Sides
  old_sides = sides_of k files ready.going.old_numbers numbers

  abbrev new_sides : Sides
  new_sides = sides_of l e ready.going.old_numbers numbers

  -- the same with the volume named
  abbrev named_sides : Sides
  named_sides = record { committed = k.committed; committed_numbers = ready.going.old_numbers; batch = w; numbers = numbers; staged = staged_of w e; lengths = e.sizes }

  same_sides : named_sides ≡ new_sides
  same_sides = sym (λ i. record {
    committed = gathered.committed i;
    committed_numbers = ready.going.old_numbers;
    batch = gathered.volume i;
    numbers = numbers;
    staged = staged_of (gathered.volume i) e;
    lengths = e.sizes;
  })

  batch_sane : IsSane v
  batch_sane = (cut_is_world g k files count numbers start history (words_of k.cells) going (IsImage-words_of k.cells)).valid.stands.sane

  batch_names : NamesStand v numbers (cut_of (run start history))
  batch_names = (cut_is_world g k files count numbers start history (words_of k.cells) going (IsImage-words_of k.cells)).valid.stands.names

  abbrev was_shortened : ℕ → ℕ → Bool
  was_shortened n i = is_shortened (run start ready.going.front) (map begun ready.going.later) n i

  abbrev is_cut_off : ℕ → ℕ → Bool
  is_cut_off n i = is_shortened (run start ready.going.front) (map begun (ready.going.later ++ more)) n i

  -- of other files the same blocks and sizes
  other_used : (i : ℕ) → IsUsed w i → IsUsed v i × ((inode v i).kind ≢ Staging)
  other_used i used =
      let was : IsUsed v i = ap is_used (sym (renewal.renews.kinds i)) ∙ used in
      (was, λ staging. (let never : true ≡ false = sym was ∙ ap is_used staging in cc))

  old_entry : (i block : ℕ) → i ≢ ino → entry_of_block (staged_of w e) i block ≡ entry_of_block (staged_of v files) i block
  old_entry i block other =
      ap (λ (ds : List Draft). entry_of_block ds i block) (sym (staged_left blocks v w files e ino (length bytes) renewal going.sizes going.alive batch_sane))
      ∙ covers_other (staged_of v files) i block other
    where
      covers_other : (ds : List Draft) (i block : ℕ) → i ≢ ino → entry_of_block (filter (λ (d : Draft). not (d.ino == ino)) ds) i block ≡ entry_of_block ds i block
      covers_other ds i block apart =
          let p : Draft → Bool = λ (d : Draft). not (d.ino == ino) in
          let q : Draft → Bool = λ (d : Draft). (d.ino == i) && is_within d.file_block d.count block in
          ap latest (sym (filter-both p q ds) ∙ filter-agree (λ d. p d && q d) q ds (λ d is. by d (cases_eq d.ino i)))
        where
          by : (d : Draft) → (d.ino ≡ i) ⊎ (d.ino ≢ i) → (not (d.ino == ino) && ((d.ino == i) && is_within d.file_block d.count block)) ≡ ((d.ino == i) && is_within d.file_block d.count block)
          by d (inl same) = ap (λ (b : Bool). not b && ((d.ino == i) && is_within d.file_block d.count block)) (ne_eqb d.ino ino (λ one. apart (sym same ∙ one)))
          by d (inr differs) =
              ap (λ (b : Bool). not (d.ino == ino) && (b && is_within d.file_block d.count block)) (ne_eqb d.ino i differs)
              ∙ (and_none (not (d.ino == ino)) ∙ sym (ap (λ (b : Bool). b && is_within d.file_block d.count block) (ne_eqb d.ino i differs)))

  old_settled : (i block b : ℕ) → IsSettled named_sides i block b → IsSettled old_sides i block b
  old_settled i block b is = record { used = is.used; same = is.same; node = is.node }

  -- WHERE NO BYTE OF THE FILE COMES BACK that was cut off, none of any file does.
  pub renewed_cuts : ((n i : ℕ) → n ≢ number numbers ino → was_shortened n i ≡ false → is_cut_off n i ≡ false)
      → ((i b : ℕ) → i < length bytes → disk_at (extents w ino) (i / 4096) ≡ Some b → IsSettled old_sides ino (i / 4096) b → is_cut_off (number numbers ino) i ≡ false)
      → ((i b : ℕ) → published ≤ i → i < length bytes → i < size_of k.committed [] ino → number ready.going.old_numbers ino ≡ number numbers ino → disk_at (extents w ino) (i / 4096) ≡ Some b
      → IsSettled old_sides ino (i / 4096) b → ⊥)
      → published ≤ length bytes → KeepsCutBytes old_sides start going.front going.later → KeepsCutBytes new_sides start going.front (going.later ++ more)
  renewed_cuts beside own past within cuts = subst (λ (x : Sides). KeepsCutBytes x start ready.going.front (ready.going.later ++ more)) same_sides (record {
    settled = λ i at b used below lies is. settled i at b used below lies is (cases_eq i ino);
    staged = λ i at b used same low there short lies is. staged i at b used same low there short lies is (cases_eq i ino);
    unstaged = λ i at b used short none lies is. unstaged i at b used short none lies is (cases_eq i ino);
  }) where
    own_length : size_in e ino ≡ length bytes
    own_length = own_size blocks v w files e ino (length bytes) renewal going.sizes going.alive batch_sane

    other_length : (i : ℕ) → i ≢ ino → size_in e i ≡ size_in files i
    other_length i other = other_size blocks v w files e ino (length bytes) renewal going.sizes going.alive batch_sane i other

    apart : (i : ℕ) → IsUsed v i → i ≢ ino → number numbers i ≢ number numbers ino
    apart i used other same = other (batch_names.one i ino used (ap is_used renewal.renews.file) same)

    settled : (i at b : ℕ) → IsUsed w i → at < (inode w i).size → disk_at (extents w i) (at / 4096) ≡ Some b → IsSettled named_sides i (at / 4096) b → (i ≡ ino) ⊎ (i ≢ ino)
        → is_cut_off (number numbers i) at ≡ false
    settled i at b used below lies is (inl same) =
        subst (λ j. is_cut_off (number numbers j) at ≡ false) (sym same)
        (own at b (let short = subst (λ j. at < (inode w j).size) same below in omega (arith, short, published_is, within)) (subst (λ j. disk_at (extents w j) (at / 4096) ≡ Some b) same lies)
        (old_settled ino (at / 4096) b (subst (λ j. IsSettled named_sides j (at / 4096) b) same is)))
    settled i at b used below lies is (inr other) =
        let was = other_used i used in
        let kept = renewal.renews.others i other was.1 in
        beside (number numbers i) at (apart i was.0 other)
        (cuts.settled i at b was.0 (subst (λ (x : Inode). at < x.size) kept.0 below) (subst (λ (es : List Extent). disk_at es (at / 4096) ≡ Some b) kept.1 lies) (old_settled i (at / 4096) b is))

    staged : (i at b : ℕ) → IsUsed w i → number ready.going.old_numbers i ≡ number numbers i → (inode w i).size ≤ at → at < size_of k.committed [] i → at < size_in e i → disk_at (extents w i) (at / 4096) ≡ Some b
        → IsSettled named_sides i (at / 4096) b → (i ≡ ino) ⊎ (i ≢ ino) → IsSome (entry_of_block (staged_of w e) i (at / 4096))
    staged i at b used same low there short lies is (inl own_file) =
        absurd (past at b (let from = subst (λ j. (inode w j).size ≤ at) own_file low in omega (arith, from, published_is))
        (let below = subst (λ j. at < size_in e j) own_file short in omega (arith, below, own_length)) (subst (λ j. at < size_of k.committed [] j) own_file there)
        (subst (λ j. number ready.going.old_numbers j ≡ number numbers j) own_file same) (subst (λ j. disk_at (extents w j) (at / 4096) ≡ Some b) own_file lies)
        (old_settled ino (at / 4096) b (subst (λ j. IsSettled named_sides j (at / 4096) b) own_file is)))
    staged i at b used same low there short lies is (inr other) =
        let was = other_used i used in
        let kept = renewal.renews.others i other was.1 in
        subst IsSome (sym (old_entry i (at / 4096) other))
        (cuts.staged i at b was.0 same (subst (λ (x : Inode). x.size ≤ at) kept.0 low) there (subst (λ n. at < n) (other_length i other) short)
        (subst (λ (es : List Extent). disk_at es (at / 4096) ≡ Some b) kept.1 lies) (old_settled i (at / 4096) b is))

    unstaged : (i at b : ℕ) → IsUsed w i → at < size_in e i → entry_of_block (staged_of w e) i (at / 4096) ≡ None → disk_at (extents w i) (at / 4096) ≡ Some b → IsSettled named_sides i (at / 4096) b
        → (i ≡ ino) ⊎ (i ≢ ino) → is_cut_off (number numbers i) at ≡ false
    unstaged i at b used short none lies is (inl same) =
        subst (λ j. is_cut_off (number numbers j) at ≡ false) (sym same)
        (own at b (let below = subst (λ j. at < size_in e j) same short in omega (arith, below, own_length)) (subst (λ j. disk_at (extents w j) (at / 4096) ≡ Some b) same lies)
        (old_settled ino (at / 4096) b (subst (λ j. IsSettled named_sides j (at / 4096) b) same is)))
    unstaged i at b used short none lies is (inr other) =
        let was = other_used i used in
        let kept = renewal.renews.others i other was.1 in
        beside (number numbers i) at (apart i was.0 other)
        (cuts.unstaged i at b was.0 (subst (λ n. at < n) (other_length i other) short) (sym (old_entry i (at / 4096) other) ∙ none)
        (subst (λ (es : List Extent). disk_at es (at / 4096) ≡ Some b) kept.1 lies) (old_settled i (at / 4096) b is))
