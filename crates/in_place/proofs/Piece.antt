-- Where a piece of bytes lies, and what writing it answers.
use Rattle.std.specs.Prelude.{◌≡◌, ◌⊎◌, ◌≤◌, ◌<◌, ◌+◌, ◌*◌, ◌/◌, ◌%◌, ℕ, true, List, length, is_some, Option, Some, None, IsSome, Err, refl}
use Rattle.std.proofs.Common.{arith, ap, ◌∙◌, sym, subst, inl, inr}
use Rattle.live_step_laws.specs.pm_model.declared.Cell.{Cell}
use Rattle.live_step_laws.specs.pm_model.ImageLaws.{IsImage-words_of}
use Rattle.live_step_laws.specs.pm_model.Images.{Follows, Follows-same, words_of}
use Rattle.live_step_laws.specs.pm_model.Powers.{Steps, Supply}
use Rattle.live_step_laws.specs.extent_model.Extents.{disk_at}
use Rattle.live_step_laws.specs.image_model.Content.{disk_of}
use Rattle.live_step_laws.specs.image_model.Volume.{extents, Volume}
use Rattle.live_step_laws.specs.data_route.Reads.{source_by}
use Rattle.live_step_laws.specs.file_reads.Reads.{block_in, block_of}
use Rattle.live_step_laws.specs.k_split.Bytes.{IsOverwriteAnswer, IsOverwriteCut, IsOverwriteDone, MayWriteBytes}
use Rattle.live_step_laws.specs.k_split.declared.faults.KFault.{KFault}
use Rattle.live_step_laws.specs.k_split.Loans.{MayLend}
use Rattle.live_step_laws.specs.k_split_model.View.{View}
use Rattle.live_step_laws.specs.live_model.file_table.Files.{Files, runs_in, size_in}
use Rattle.live_step_laws.specs.posix_tables.Open.{Tables}
use Rattle.live_step_laws.specs.world_model.Jobs.{live_claims}
use Rattle.live_step_laws.specs.world_model.Stands.{is_used, LogStands}
use Rattle.live_step_laws.specs.world_model.TreeRules.{used_below}
use Rattle.live_step_laws.specs.world_step_laws.Parts.{part_of}
use Rattle.live_step_laws.proofs.live_model_proofs.OverlaysOverlays.{overlay_is_log}
use Rattle.write_plan.specs.file_overlay.Runs.{staged_at}
use Rattle.in_place.specs.Gaps.{with_files}
use Rattle.in_place.specs.Zeros.{staged_place}
use Rattle.in_place.proofs.Lost.{left_bytes, left_off}
use Rattle.in_place.proofs.Zeroed.{staging_there, stands_to_place}
use Rattle.in_place.specs.Holes.{IsPresent}
use Rattle.in_place.specs.Placing.{CanPlace, IsOnePiece, IsPieceAnswer, IsPlaceAnswer, LosesPlacing, Places, Placing, SameBeside}
use Rattle.in_place.specs.PlaceLaws.{LieAt}
use Rattle.in_place.proofs.Placed.{piece_is_cut, piece_is_off, piece_is_placed, piece_leaves}
use Rattle.live_step_laws.specs.k_split_laws.k_journal.declared.outcomes.Commit.{Commit}

-- ---- steps

pub steps_more : (m n : ℕ) (old new : Supply) → m ≤ n → Steps m old new → Steps n old new
steps_more m n old new le is = record { given = is.given; on_before = is.on_before; later = is.later; bound = omega (arith, is.bound, le) }

-- ---- where it lies

alone : (v : Volume) (o : Option ℕ) → block_of v (source_by None o) ≡ o
alone v None = refl
alone v (Some b) = refl

some_is : (o : Option ℕ) (b : ℕ) → o ≡ Some b → IsSome o
some_is o b is = ap is_some is

none_staged : (o : Option (ℕ × ℕ)) → o ≡ None → IsSome o → ⊥
none_staged None none is = cc
none_staged (Some x) none is = cc

module _ (k : View) (files : Files) (ino at count : ℕ) where
  -- where a block is read, whoever places
  pub found_in_log : (t : Tables) (now : List ℕ) (p : Placing k t files ino now) (block : ℕ) → block_in k.volume (runs_in files ino) ino block ≡ disk_of k.volume (live_claims k.volume p.kept.claims) ino block
  found_in_log t now p block =
      let live = live_claims k.volume p.kept.claims in
      let log : LogStands k.volume live = (p.stands.flying.device.world (words_of k.cells) (IsImage-words_of k.cells)).valid.stands.log in
      overlay_is_log k.volume live ino (size_in files ino) (runs_in files ino) block log (p.stands.flying.overlays ino p.file)

  -- in the map, where no block of it is staged
  pub mapped_there : ((i : ℕ) → at ≤ i → i < at + count → staged_at (runs_in files ino) (i / 4096) ≡ None) → ((i : ℕ) → at ≤ i → i < at + count → IsPresent k.volume files ino (i / 4096))
      → (i : ℕ) → at ≤ i → i < at + count → IsSome (disk_at (extents k.volume ino) (i / 4096))
  mapped_there none present i from to = elim (present i from to) [ inl mapped ↦ mapped | inr staged ↦ absurd (none_staged (staged_at (runs_in files ino) (i / 4096)) (none i from to) staged) ]

  pub lies_mapped : ((i : ℕ) → at ≤ i → i < at + count → staged_at (runs_in files ino) (i / 4096) ≡ None) → ((i : ℕ) → at ≤ i → i < at + count → IsPresent k.volume files ino (i / 4096))
      → (t : Tables) (now : List ℕ) (p : Placing k t files ino now) → LieAt k.volume (live_claims k.volume p.kept.claims) ino at count ino at
  lies_mapped none present t now p = record {
    below = used_below k.volume ino (ap is_used p.file);
    offset = refl;
    same = λ i low.
        sym (found_in_log t now p ((at + i) / 4096))
        ∙ (ap (λ o. block_of k.volume (source_by o (disk_at (extents k.volume ino) ((at + i) / 4096)))) (none (at + i) (omega arith) (omega (arith, low)))
        ∙ alone k.volume (disk_at (extents k.volume ino) ((at + i) / 4096)));
    some = λ i low. mapped_there none present (at + i) (omega arith) (omega (arith, low));
  }

  -- in a staging file, where their one block is staged
  module _ (staging block : ℕ) (at_is : staged_at (runs_in files ino) (at / 4096) ≡ Some (staging, block)) where
    pub lends : (t : Tables) (now : List ℕ) (p : Placing k t files ino now) → (b : ℕ) × MayLend k.volume k.cells staging block b
    lends t now p = stands_to_place p.g k t (with_files p.kept files) true p.n (part_of p.s p.f now) ino at staging block p.stands (record { file = p.file; at = at_is })

    pub lies_staged : at + count ≤ 4096 * (at / 4096) + 4096 → (t : Tables) (now : List ℕ) (p : Placing k t files ino now)
        → LieAt k.volume (live_claims k.volume p.kept.claims) ino at count staging (staged_place block at)
    lies_staged short t now p = record {
      below = staging_there p.g k t (with_files p.kept files) true p.n (part_of p.s p.f now) ino at staging block p.stands (record { file = p.file; at = at_is });
      offset = omega arith;
      same = λ i low.
          let here : (at + i) / 4096 ≡ at / 4096 = omega (arith, low, short) in
          let there : (staged_place block at + i) / 4096 ≡ block = place_is i low in
          ap (disk_of k.volume (live_claims k.volume p.kept.claims) ino) here
          ∙ (sym (found_in_log t now p (at / 4096))
          ∙ (ap (λ o. block_of k.volume (source_by o (disk_at (extents k.volume ino) (at / 4096)))) at_is ∙ ap (disk_at (extents k.volume staging)) (sym there)));
      some = λ i low. (let lent = lends t now p in subst (λ n. IsSome (disk_at (extents k.volume staging) n)) (sym (place_is i low)) (some_is (disk_at (extents k.volume staging) block) lent.0 lent.1.at));
    } where
      place_is : (i : ℕ) → i < count → (staged_place block at + i) / 4096 ≡ block
      place_is i low = omega (arith, low, short)

-- ---- what it answers

module _ (k l : View) (files : Files) (ino at x place : ℕ) (bytes : List ℕ) (lies : (t : Tables) (now : List ℕ) (p : Placing k t files ino now) → LieAt k.volume (live_claims k.volume p.kept.claims) ino at (length bytes) x place) where
  placed : IsOverwriteDone x place bytes k l → Places k l files ino at bytes
  placed done = record {
    same = done.same;
    size = done.over.size;
    lent = done.over.lent;
    singles = done.singles;
    beside = λ t now p. piece_leaves k l.cells t files ino at x place now bytes p (lies t now p) done.over;
    goes_on = λ t now p within puts. piece_is_placed k l t files ino at x place now bytes p (lies t now p) within puts done;
  }

  off : l ≡ record k { lost = true } → LosesPlacing k l files ino at bytes
  off is = record {
    off = is ∙ ap (λ (d : List Cell). record k { cells = d; lost = true }) (sym cells_are);
    left = λ t now p. left_off p.g k l t (with_files p.kept files) true p.n (part_of p.s p.f now) p.stands cells_are;
    beside = λ t now p.
        subst (Follows (SameBeside k.volume (live_claims k.volume p.kept.claims) ino at (length bytes)) k.cells) (sym cells_are)
        (Follows-same (SameBeside k.volume (live_claims k.volume p.kept.claims) ino at (length bytes)) k.cells (λ f b i there low none. refl));
    kept = λ t now p start history a b state jobs within puts. piece_is_off k l t files ino now p start history a b state jobs cells_are;
  } where
    cells_are : l.cells ≡ k.cells
    cells_are = ap (λ (z : View). z.cells) is

  cut_off : IsOverwriteCut x place bytes k l → LosesPlacing k l files ino at bytes
  cut_off cut = record {
    off = cut.same;
    left = λ t now p. left_bytes p.g k l t (with_files p.kept files) true p.n (part_of p.s p.f now) x place bytes p.stands cut;
    beside = λ t now p. piece_leaves k l.cells t files ino at x place now bytes p (lies t now p) cut.over;
    kept = λ t now p start history a b state jobs within puts. piece_is_cut k l t files ino at x place now bytes p start history a b (lies t now p) within puts state jobs cut;
  }

  pub piece_answer : (commit : Commit) → IsPieceAnswer x place bytes k l commit → IsPlaceAnswer k l files ino at bytes commit
  piece_answer Commit.Done done = placed done
  piece_answer Commit.PowerLost (inl is) = off is
  piece_answer Commit.PowerLost (inr cut) = cut_off cut

-- only the power stops a write over bytes in place
pub lost_by : (x place : ℕ) (bytes : List ℕ) (k l : View) (fault : KFault) → IsOverwriteAnswer x place bytes k l (Err fault) → (l ≡ record k { lost = true }) ⊎ IsOverwriteCut x place bytes k l
lost_by x place bytes k l KFault.PowerLost is = is
lost_by x place bytes k l (KFault.Refused errno) is = absurd is
lost_by x place bytes k l (KFault.Room room) is = absurd is
lost_by x place bytes k l KFault.NoMemory is = absurd is

-- ---- one piece

module _ (k : View) (files : Files) (ino at : ℕ) (bytes : List ℕ) (can : CanPlace k files ino at bytes) (some : 1 ≤ length bytes) (one : IsOnePiece files ino at (length bytes)) where
  pub line_there : ino < length files.sizes
  line_there = let low = used_below k.volume ino (ap is_used can.placing.file) in let count = can.placing.stands.sizes.count in omega (arith, low, count)

  none_of : staged_at (runs_in files ino) (at / 4096) ≡ None → (i : ℕ) → at ≤ i → i < at + length bytes → staged_at (runs_in files ino) (i / 4096) ≡ None
  none_of none = elim one [ inl staged ↦ absurd (none_staged (staged_at (runs_in files ino) (at / 4096)) none staged.1) | inr all ↦ all ]

  pub may_write : staged_at (runs_in files ino) (at / 4096) ≡ None → MayWriteBytes k.volume ino at (length bytes)
  may_write none = record { file = can.placing.file; mapped = mapped_there k files ino at (length bytes) (none_of none) can.present }

  pub mapped_answer : staged_at (runs_in files ino) (at / 4096) ≡ None → (l : View) (commit : Commit) → IsPieceAnswer ino at bytes k l commit → IsPlaceAnswer k l files ino at bytes commit
  mapped_answer none l = piece_answer k l files ino at ino at bytes (lies_mapped k files ino at (length bytes) (none_of none) can.present)

  module _ (staging block : ℕ) (at_is : staged_at (runs_in files ino) (at / 4096) ≡ Some (staging, block)) where
    short_of : at + length bytes ≤ 4096 * (at / 4096) + 4096
    short_of = elim one [ inl staged ↦ staged.0 | inr all ↦ absurd (let never : Some (staging, block) ≡ None = sym at_is ∙ all at (omega arith) (omega (arith, some)) in cc) ]

    pub in_block : at % 4096 + length bytes ≤ 4096
    in_block = let short = short_of in omega (arith, short)

    pub may_lend : (b : ℕ) × MayLend k.volume k.cells staging block b
    may_lend = lends k files ino at (length bytes) staging block at_is can.t can.now can.placing

    pub staged_answer : (l : View) (commit : Commit) → IsPieceAnswer staging (staged_place block at) bytes k l commit → IsPlaceAnswer k l files ino at bytes commit
    staged_answer l = piece_answer k l files ino at staging (staged_place block at) bytes (lies_staged k files ino at (length bytes) staging block at_is short_of)
