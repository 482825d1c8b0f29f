-- Bytes of a file that are written over in place: the device stands where it stood.
use Rattle.std.proofs.Common.{◌≡◌, ℕ, zero, suc, ◌+◌, ◌-◌, ◌*◌, ◌/◌, ◌<◌, ◌≤◌, Bool, true, false, All, List, [], ◌∷◌, length, Option, Some, None, refl, sym, ◌∙◌, ap, subst, arith, inl, inr}
use Rattle.std.specs.Prelude.{IsSome}
use Rattle.std.proofs.lemmas.Bool.{cases_lt}
use Rattle.std.proofs.lemmas.Bool.Decides.{nat_tests}
use Rattle.std.proofs.lemmas.List.{get_or_past}
use Rattle.block_io.specs.pm_model.declared.Cell.{Cell}
use Rattle.block_io.specs.pm_model.declared.Cell.TheVariants.{Single}
use Rattle.block_io.specs.pm_model.CellLaws.{settled-single}
use Rattle.block_io.specs.pm_model.Cells.{cell, is_single, newest, Settles}
use Rattle.block_io.specs.pm_model.Frames.{KeepsSingle, SameLent}
use Rattle.block_io.specs.pm_model.ImageLaws.{IsImage-words_of}
use Rattle.block_io.specs.pm_model.Images.{Follows, IsImage, words_of}
use Rattle.block_io.specs.pm_model.Words.{Words}
use Rattle.block_io.specs.layout_model.Journal.{journaled}
use Rattle.block_io.specs.layout_model.Places.{commit_word, Geometry, is_data_block}
use Rattle.block_io.specs.extent_model.declared.extent_words.Extent.{Extent}
use Rattle.block_io.specs.extent_model.Extents.{covers, disk_at, IsCanonical}
use Rattle.block_io.specs.extent_model.Covers.{covers-disk_at}
use Rattle.block_io.specs.extent_model.Facts.{disk_at-past}
use Rattle.layout_model.specs.declared.lines.Kind.{Kind}
use Rattle.layout_model.specs.declared.lines.Kind.TheVariants.{File, Free}
use Rattle.block_io.specs.image_model.Reading.{Reads}
use Rattle.block_io.specs.image_model.Rules.{file_blocks_of, IsKindAt, IsNamedOnce}
use Rattle.block_io.specs.image_model.Volume.{chain, extents, free_inode, inode, Volume}
use Rattle.k_map_plans.specs.volume_laws.OwnerLaws.{one_owner, one_user}
use Rattle.k_map_plans.specs.volume_laws.PoolLaws.{covered-in_data}
use Rattle.k_map_plans.specs.volume_laws.UseLaws.{in_map-covers, length-uses_by}
use Rattle.k_map_plans.specs.volume_laws.Uses.{uses_of}
use Rattle.block_io.specs.Overwrites.{IsBesideBlocks, IsOverwritten, IsOverwrittenWhole, MayOverwrite, StandsIn}
use Rattle.k_group_commit.specs.BesideLaws.{ChangesOthers, reads-others, rests-uncovered, RestsOn}
use Rattle.k_group_commit.specs.Gathered.{IsCovered}
use Rattle.k_map_plans.specs.k_journal.declared.batches.Record.{Record}
use Rattle.k_map_plans.specs.k_plans.LandingLaws.{idle-image, idle-sound}
use Rattle.k_map_plans.specs.k_plans.View.{TablesView}
use Rattle.k_map_plans.specs.k_plans.Whole.{IsWhole}
use Rattle.k_tables.specs.k_split_model.View.{View}
use Rattle.k_split.specs.Bytes.{IsOverwriteCut, IsOverwriteDone, IsWrittenOver, MayWriteBytes, Overwrites}
use Rattle.k_split.specs.Order.{IsReady, IsSteady, IsUnstaged, IsUnstagedSingle, view_of}
use Rattle.k_split.proofs.Beside.{ready-others, view-reads}
use Rattle.k_split.proofs.Ready.{committed-is, device-same, in-order}
use Rattle.k_split.proofs.Steady.{steady-reads}

low_file : (ino : ℕ) (kind : Kind) → IsKindAt ino kind → kind ≡ File → 5 ≤ ino
low_file ino kind at is = subst (IsKindAt ino) is at

pub file_below : (v : Volume) (ino : ℕ) → (inode v ino).kind ≡ File → ino < length v.inodes
file_below v ino file = elim (cases_lt ino (length v.inodes)) [
  | inl below ↦ below
  | inr past ↦ let never : File ≡ Free = sym file ∙ ap (λ x. x.kind) (get_or_past v.inodes ino free_inode past) in cc
]

pub one_of : (g : Geometry) (b : ℕ) → is_data_block g b ≡ true → All (λ c. is_data_block g c ≡ true) (b ∷ [])
one_of g b is zero c short = is
one_of g b is (suc i) c short = absurd (omega (arith, short))

module _ (v : Volume) (d : List Cell) (ino first count : ℕ) (whole : IsWhole v) (size : length d ≡ 512 * v.geometry.blocks)
    (below : ino < length v.inodes) where
  has_block : (p b : ℕ) → StandsIn (extents v ino) first count p b → covers (extents v ino) b ≡ true
  has_block p b is = covers-disk_at (extents v ino) (p / 4096) b is.at

  in_data : (p b : ℕ) → StandsIn (extents v ino) first count p b → is_data_block v.geometry b ≡ true
  in_data p b is =
      covered-in_data v.geometry (file_blocks_of (inode v ino).kind) (extents v ino) b
      (whole.kept.kept.in_data ino (omega (arith, below, whole.kept.all.inode_count)))
      (has_block p b is)

  once : (p b : ℕ) → StandsIn (extents v ino) first count p b → IsNamedOnce v b
  once p b is = whole.kept.kept.once b (in_data p b is)

  -- no staging file has a block of a file
  is_unstaged : (inode v ino).kind ≡ File → (p b : ℕ) → StandsIn (extents v ino) first count p b → IsUnstaged v b
  is_unstaged file p b is staging least most = by (covers (extents v staging) b) refl where
    short : staging < length v.inodes
    short = omega (arith, most, whole.kept.geometry.least_inodes, whole.kept.all.inode_count)

    used : (n : ℕ) → covers (extents v n) b ≡ true → 1 ≤ uses_of v b n
    used n has = omega (arith, in_map-covers (extents v n) b has, length-uses_by n (chain v n) (extents v n) b)

    by : (c : Bool) → covers (extents v staging) b ≡ c → covers (extents v staging) b ≡ false
    by false none = none
    by true has =
        let same = one_user v b ino staging (once p b is) below short (used ino (has_block p b is)) (used staging has) in
        absurd (omega (arith, same, most, low_file ino (inode v ino).kind (whole.kept.kept.kinds ino (omega (arith, below, whole.kept.all.inode_count))) file))

  -- The range may be written over, where words of its blocks have one candidate.
  pub may_overwrite : ((p : ℕ) → first ≤ p → p < first + count → IsSome (disk_at (extents v ino) (p / 4096)))
      → ((p b i : ℕ) → StandsIn (extents v ino) first count p b → i / 512 ≡ b → is_single (cell d i) ≡ true)
      → MayOverwrite (extents v ino) first count d
  may_overwrite mapped single = record {
    mapped = mapped;
    in_device = λ p b is. within b (in_data p b is) size;
    apart = λ p q b is at. (one_owner v b ino ino (p / 4096) (q / 4096) (once p b is) below below is.at at.at).place;
    single = single;
  } where
    within : (b : ℕ) → is_data_block v.geometry b ≡ true → length d ≡ 512 * v.geometry.blocks → 512 * b + 512 ≤ length d
    within b is size = grind (arith, nat_tests, is, size)

  -- so it is of a file
  pub file_single : (inode v ino).kind ≡ File → IsUnstagedSingle v d
      → (p b i : ℕ) → StandsIn (extents v ino) first count p b → i / 512 ≡ b → is_single (cell d i) ≡ true
  file_single file unstaged p b i is at =
      unstaged i (subst (λ n. is_data_block v.geometry n ≡ true) (sym at) (in_data p b is)) (subst (IsUnstaged v) (sym at) (is_unstaged file p b is))

-- ---- what is left of a write

module _ (t : TablesView) (group b : List Record) (d : List Cell) (batched : Bool) (ready : IsReady t group b d batched) (ino first : ℕ) (bytes : List ℕ)
    (below : ino < length t.volume.inodes) where
  -- nothing that gathered rests on a block of the range
  pub rests-over : RestsOn t.volume.geometry ready.committed ready.opened.news (IsBesideBlocks (extents t.volume ino) first (length bytes))
  rests-over =
      rests-uncovered ready.committed t group d ready.opened (IsBesideBlocks (extents t.volume ino) first (length bytes))
      (λ i bare p c is at.
      bare (subst (IsCovered t.volume) (sym at) (ino, below, covers-disk_at (extents t.volume ino) (p / 4096) c is.at)))

  idle-over : (before image : Words) → IsImage d before → IsOverwritten (extents t.volume ino) first bytes before image → image commit_word ≡ 0
  idle-over before image from is =
      is.words commit_word (rests-over.low commit_word (omega arith)) ∙ idle-image d before ready.opened.are.stands.idle from

  over : (before image : Words) → IsImage d before → IsOverwritten (extents t.volume ino) first bytes before image
      → IsWrittenOver ready.committed t.volume ino first bytes before image
  over before image from is = record {
    reads = subst (λ h. Reads h (journaled image) ready.committed) (sym (device-same t group b d batched ready))
        (reads-others t.volume.geometry ready.committed ready.opened.news (IsBesideBlocks (extents t.volume ino) first (length bytes)) rests-over d
        ready.opened.are.stands before image from is.words);
    sound = idle-sound ready.committed.geometry image (idle-over before image from is);
    bytes_are = is;
  }

  module _ (e : List Cell) (size : length e ≡ length d) (lent : SameLent d e) (follows : Follows (IsOverwritten (extents t.volume ino) first bytes) d e)
      (others : (i : ℕ) → IsBesideBlocks (extents t.volume ino) first (length bytes) i → Settles (cell d i) (cell e i)) where
    pub overwrites : Overwrites (view_of t group d batched false).committed t.volume ino first bytes d e
    overwrites = subst (λ u. Overwrites u t.volume ino first bytes d e) (sym (committed-is t group b d batched ready)) (record {
      size = size;
      lent = lent;
      each_image = λ image is. let f = follows image is in (f.0, f.1, over f.0 image f.1.is_image f.2);
      others = others;
    })

    changes-over : KeepsSingle d e → ChangesOthers (IsBesideBlocks (extents t.volume ino) first (length bytes)) d e
    changes-over singles = record {
      size = size;
      idle = λ is.
          settled-single (cell d commit_word) (cell e commit_word) (others commit_word (rests-over.low commit_word (omega arith))) (ap is_single is)
          ∙ ap (λ c. Single (newest c)) is;
      singles = λ i stays. singles i;
      comes = λ image is. let f = follows image is in (f.0, f.1.is_image, f.2.words);
    }

    -- K-Split is ready again
    pub ready-over : KeepsSingle d e → IsReady t group b e batched
    ready-over singles =
        ready-others t group b d e batched ready (IsBesideBlocks (extents t.volume ino) first (length bytes)) rests-over (changes-over singles)
        (λ i in_data free. singles i (ready.unstaged i in_data free))

    -- the volume of the device is the one that it was
    view-over : (lost now : Bool) → view_of t group e batched now ≡ record (view_of t group d batched lost) { cells = e; lost = now }
    view-over lost now =
        let f = follows (words_of e) (IsImage-words_of e) in
        view-reads t group b d e batched ready lost now
        (reads-others t.volume.geometry ready.committed ready.opened.news (IsBesideBlocks (extents t.volume ino) first (length bytes)) rests-over d
        ready.opened.are.stands f.0 (words_of e) f.1.is_image f.2.words)

    pub steady-over : IsSteady t.volume.geometry e
    steady-over =
        let f = follows (words_of e) (IsImage-words_of e) in
        steady-reads t group b d batched ready e lent
        (reads-others t.volume.geometry ready.committed ready.opened.news (IsBesideBlocks (extents t.volume ino) first (length bytes)) rests-over d
        ready.opened.are.stands f.0 (words_of e) f.1.is_image f.2.words)

    -- the answers
    pub overwrite-done : (k : View) (lost : Bool) → lost ≡ false → view_of t group d batched lost ≡ k
        → Follows (IsOverwrittenWhole (extents t.volume ino) first bytes) d e → KeepsSingle d e
        → IsOverwriteDone ino first bytes k (view_of t group e batched lost)
    overwrite-done k lost is same whole singles =
        subst (λ x. IsOverwriteDone ino first bytes x (view_of t group e batched lost)) same
        (record {
          kept_on = is;
          same = view-over lost lost;
          order = in-order t group b e batched (ready-over singles) lost;
          over = overwrites;
          whole = whole;
          singles = singles;
        })

    pub overwrite-cut : (k : View) (lost : Bool) → view_of t group d batched lost ≡ k
        → IsOverwriteCut ino first bytes k (view_of t group e batched true)
    overwrite-cut k lost same =
        subst (λ x. IsOverwriteCut ino first bytes x (view_of t group e batched true)) same
        (record { same = view-over lost true; over = overwrites })

-- what is asked of the state before, said of its tables
pub asked : (t : TablesView) (group : List Record) (d : List Cell) (batched lost : Bool) (k : View) (ino first count : ℕ) → view_of t group d batched lost ≡ k
    → (k.lost ≡ false → MayWriteBytes k.volume ino first count) → lost ≡ false → MayWriteBytes t.volume ino first count
asked t group d batched lost k ino first count same may = subst (λ (x : View). x.lost ≡ false → MayWriteBytes x.volume ino first count) (sym same) may

-- A range whose blocks are there lies below the longest length.
pub short_range : (es : List Extent) (first count : ℕ) → IsCanonical es → 0 < count → ((p : ℕ) → first ≤ p → p < first + count → IsSome (disk_at es (p / 4096))) → first + count ≤ 16777216
short_range es first count canonical some mapped = elim (cases_lt ((first + count - 1) / 4096) 4096) [
  | inl below ↦ omega (arith, below, some)
  | inr past ↦ absurd (by (disk_at es ((first + count - 1) / 4096)) (disk_at-past es ((first + count - 1) / 4096) canonical past) (mapped (first + count - 1) (omega (arith, some)) (omega (arith, some))))
] where
  by : (o : Option ℕ) → o ≡ None → IsSome o → ⊥
  by None none there = cc
  by (Some b) none there = cc

-- An empty write leaves all as it was.
pub overwrite-none : (t : TablesView) (group b : List Record) (d : List Cell) (batched lost : Bool) (k : View) (ino first : ℕ) (bytes : List ℕ) → lost ≡ false
    → view_of t group d batched lost ≡ k → IsReady t group b d batched → length bytes ≡ 0 → IsOverwriteDone ino first bytes k k
overwrite-none t group b d batched lost k ino first bytes is same ready empty =
    subst (λ x. IsOverwriteDone ino first bytes x x) same
    (record {
      kept_on = is;
      same = refl;
      order = in-order t group b d batched ready lost;
      over = subst (λ u. Overwrites u t.volume ino first bytes d d) (sym (committed-is t group b d batched ready))
          (record { size = refl; lent = λ i. refl; each_image = over_none; others = λ i beside. inl refl });
      whole = λ image from. (
        image,
        record { is_image = from; lent = λ i out. refl },
        record { each = λ p c stands. absurd (none p c stands); others = λ k beside. refl; words = λ i beside. refl },
      );
      singles = λ i single. single;
    })
  where
    none : (p c : ℕ) → StandsIn (extents t.volume ino) first (length bytes) p c → ⊥
    none p c stands = (let from = stands.from in let below = stands.below in omega (arith, empty, from, below))

    over_none : Follows (IsWrittenOver ready.committed t.volume ino first bytes) d d
    over_none image from = (
      image,
      record { is_image = from; lent = λ i out. refl },
      record {
        reads = subst (λ h. Reads h (journaled image) ready.committed) (sym (device-same t group b d batched ready)) (ready.opened.are.stands.reads image from);
        sound = idle-sound ready.committed.geometry image (idle-image d image ready.opened.are.stands.idle from);
        bytes_are = record { each = λ p c stands. inl refl; others = λ k beside. refl; words = λ i beside. refl };
      },
    )
