-- Between the end of a file and a later block.
use Rattle.std.specs.Prelude.{◌≡◌, ◌⊎◌, ◌≤◌, ◌<◌, ◌+◌, ◌/◌, ◌%◌, ◌&&◌, nat_lt, ℕ, Bool, true, false, cond, find, reverse, List, [], ◌∷◌, Option, Some, None, option_map, refl}
use Rattle.std.specs.Option.{option_or}
use Rattle.std.proofs.Common.{arith, ap, ◌∙◌, sym, subst, inl, inr}
use Rattle.std.proofs.lemmas.Bool.{and_parts, cases_lt}
use Rattle.std.proofs.lemmas.Bool.Decides.{nat_tests}
use Rattle.std.proofs.lemmas.List.{reverse-append}
use Rattle.std.proofs.lemmas.List.Folds.{find-append}
use Rattle.live_step_laws.specs.block_counts.Counts.{blocks_for}
use Rattle.live_step_laws.specs.k_split_laws.pm_model.Powers.{Steps, Supply}
use Rattle.live_step_laws.specs.k_split_laws.pm_model.PowerLaws.{Steps-none}
use Rattle.live_step_laws.specs.k_split_laws.layout_model.Journal.{journaled}
use Rattle.live_step_laws.specs.k_split_laws.layout_model.declared.lines.Kind.TheVariants.{File}
use Rattle.live_step_laws.specs.k_split_laws.image_model.Content.{byte_in}
use Rattle.live_step_laws.specs.k_split_laws.image_model.Volume.{extents, inode, Volume}
use Rattle.live_step_laws.specs.k_split_laws.extent_model.Extents.{disk_at, is_within}
use Rattle.live_step_laws.specs.k_split_laws.k_journal.declared.outcomes.Commit.{Commit}
use Rattle.live_step_laws.specs.k_split_laws.k_split_model.View.{View}
use Rattle.live_step_laws.specs.k_split_laws.list_laws.Members.{In}
use Rattle.write_plan.specs.eof_laws.Ends.{FilesEnd}
use Rattle.write_plan.specs.file_overlay.declared.runs.Run.{Run}
use Rattle.write_plan.specs.file_overlay.Runs.{has_block, last_run, place_in}
use Rattle.write_plan.specs.live_model.data_route.Reads.{source_by}
use Rattle.write_plan.specs.live_model.data_route.Writes.{cleans}
use Rattle.write_plan.specs.live_model.file_reads.Reads.{block_in, block_of}
use Rattle.write_plan.specs.live_model.file_table.Files.{Files, runs_in, size_in}
use Rattle.in_place.specs.Zeros.{block_end, ReadZero}
use Rattle.in_place.specs.Gaps.{block_start, Clears, IsCleared}

-- nothing lies between the end and a byte that is not behind it
pub nothing_between : (k : View) (files : Files) (ino to : ℕ) → to ≤ size_in files ino → ReadZero k files ino (size_in files ino) to
nothing_between k files ino to few image is i high low = absurd (omega (arith, few, high, low))

-- where none passes, none is found
none_last : (p : Run → Bool) (runs : List Run) → ((run : Run) → In run runs → p run ≡ false) → find p (reverse runs) ≡ None
none_last p [] each = refl
none_last p (run ∷ runs) each =
    ap (find p) (reverse-append (run ∷ []) runs)
    ∙ find-append p (reverse runs) (run ∷ [])
    ∙ (λ i. option_or (none_last p runs (λ other is. each other (inr is)) i) (cond (each run (inl refl) i) (Some run) None))

outside : (first count block : ℕ) → first + count ≤ block → is_within first count block ≡ false
outside first count block past = grind (arith, nat_tests)

-- where the end is not to be cleaned, it ends a block or is not before the other one
not_cleaned : (size start : ℕ) → cleans size start ≡ false → (size % 4096 ≡ 0) ⊎ (start / 4096 ≤ size / 4096)
not_cleaned size start is = elim (cases_lt 0 (size % 4096)) [
  | inl some ↦ elim (cases_lt (size / 4096) (start / 4096)) [
    | inl low ↦ (
        let does : (nat_lt 0 (size % 4096) && nat_lt (size / 4096) (start / 4096)) ≡ true = grind (arith, nat_tests, some, low) in
        let never : true ≡ false = sym does ∙ is in
        cc)
    | inr near ↦ inr near
  ]
  | inr none ↦ inl (omega (arith, none))
]

pub cleaned : (size start : ℕ) → cleans size start ≡ true → 0 < size % 4096
cleaned size start is = let inside = (and_parts (nat_lt 0 (size % 4096)) (nat_lt (size / 4096) (start / 4096)) is).0 in grind (arith, nat_tests, inside)

-- no step was taken
pub steps_none : (n : ℕ) (power : Supply) → Steps n power power
steps_none n power = let is = Steps-none power in record { given = is.given; on_before = is.on_before; later = is.later; bound = (let bound = is.bound in omega (arith, bound)) }

module _ (k : View) (files : Files) (ino : ℕ) (ends : FilesEnd k.volume files) (file : (inode k.volume ino).kind ≡ File) where
  none_staged : (block : ℕ) → blocks_for (size_in files ino) ≤ block → last_run (runs_in files ino) block ≡ None
  none_staged block past =
      none_last (has_block block) (runs_in files ino) (λ run is. outside run.file_block run.count block (let low = ends.runs ino run is in omega (arith, low, past)))

  -- no block lies past the last one of the file
  none_past : (block : ℕ) → blocks_for (size_in files ino) ≤ block → block_in k.volume (runs_in files ino) ino block ≡ None
  none_past block past =
      ap (λ (o : Option Run). block_of k.volume (source_by (option_map (place_in block) o) (disk_at (extents k.volume ino) block))) (none_staged block past)
      ∙ ap (λ (o : Option ℕ). block_of k.volume (source_by None o)) (ends.maps ino block file past)

  -- so all reads zero where the block of the end does,
  pub zero_on : (to : ℕ) → ReadZero k files ino (size_in files ino) (block_end (size_in files ino)) → ReadZero k files ino (size_in files ino) to
  zero_on to zero image is i high low = elim (cases_lt i (block_end (size_in files ino))) [
    | inl own ↦ zero image is i high own
    | inr past ↦ ap (λ (o : Option ℕ). byte_in (journaled image) o i) (none_past (i / 4096) (omega (arith, past)))
  ]

  -- or where the end is not to be cleaned
  pub zero_already : (start : ℕ) → cleans (size_in files ino) start ≡ false → ReadZero k files ino (size_in files ino) (block_start start)
  zero_already start none image is i high low = by (not_cleaned (size_in files ino) start none) where
    by : (size_in files ino % 4096 ≡ 0) ⊎ (start / 4096 ≤ size_in files ino / 4096) → byte_in (journaled image) (block_in k.volume (runs_in files ino) ino (i / 4096)) i ≡ 0
    by (inl whole) = ap (λ (o : Option ℕ). byte_in (journaled image) o i) (none_past (i / 4096) (omega (arith, whole, high)))
    by (inr near) = absurd (omega (arith, near, high, low))

  -- nothing is to be cleaned
  pub clears_none : (start : ℕ) → cleans (size_in files ino) start ≡ false → Clears ino files k k (block_start start)
  clears_none start none = record {
    same = refl;
    size = refl;
    lent = λ i. refl;
    singles = λ i is. is;
    stays = λ has. record { now = has.stands; jobs_are = refl; numbers_are = refl };
    zero = zero_already start none;
  }

-- The block of the end was cleaned.
clears_on : (k l : View) (files : Files) (ino to : ℕ) → FilesEnd k.volume files → (inode k.volume ino).kind ≡ File → Clears ino files k l (block_end (size_in files ino)) → Clears ino files k l to
clears_on k l files ino to ends file is = record {
  same = is.same;
  size = is.size;
  lent = is.lent;
  singles = is.singles;
  stays = is.stays;
  zero =
      zero_on l files ino (subst (λ (v : Volume). FilesEnd v files) (sym same) ends) (subst (λ (v : Volume). (inode v ino).kind ≡ File) (sym same) file) to is.zero;
} where
  same : l.volume ≡ k.volume
  same = ap (λ (y : View). y.volume) is.same

pub cleared_on : (k l : View) (files : Files) (ino end start : ℕ) → FilesEnd k.volume files → (inode k.volume ino).kind ≡ File → end ≡ size_in files ino → (commit : Commit)
    → IsCleared ino files (block_end end) k l commit → IsCleared ino files (block_start start) k l commit
cleared_on k l files ino end start ends file same Commit.Done is = clears_on k l files ino (block_start start) ends file (subst (λ n. Clears ino files k l (block_end n)) same is)
cleared_on k l files ino end start ends file same Commit.PowerLost is = is
