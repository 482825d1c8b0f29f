-- Blocks of a file are looked up one after the other.
use Rattle.std.specs.Prelude.{◌≡◌, ◌⊎◌, ◌≤◌, ◌<◌, ◌+◌, ◌*◌, ◌-◌, ◌/◌, ◌%◌, ◌&&◌, min, max, ℕ, List, None, Bool, is_none, IsSome}
use Rattle.std.proofs.Common.{arith, ap, ◌∙◌, sym, subst, inl, inr}
use Rattle.std.proofs.lemmas.Bool.{cases_lt}
use Rattle.live_step_laws.specs.extent_model.declared.extent_words.Extent.{Extent}
use Rattle.live_step_laws.specs.extent_model.Extents.{disk_at}
use Rattle.live_step_laws.specs.image_model.Volume.{extents, Volume}
use Rattle.live_step_laws.specs.live_model.file_table.Files.{Files, runs_in}
use Rattle.write_plan.specs.file_overlay.declared.runs.Run.{Run}
use Rattle.write_plan.specs.file_overlay.Runs.{staged_at}
use Rattle.in_place.specs.Holes.{absent_count, is_absent, IsUnstaged}
use Rattle.in_place.proofs.Counting.{count_more, one_if}

pub count_on : (v : Volume) (files : Files) (ino first block absent more : ℕ) → first ≤ block → absent ≡ absent_count v files ino first (block - first) → one_if (is_absent v files ino block) ≡ more
    → absent + more ≡ absent_count v files ino first (block + 1 - first)
count_on v files ino first block absent more from so_far one =
    let whole : block + 1 - first ≡ (block - first) + 1 = omega (arith, from) in
    let here : first + (block - first) ≡ block = omega (arith, from) in
    let next = count_more (is_absent v files ino) first (block - first) in
    let same = ap (absent_count v files ino first) whole in
    let at = ap (λ n. one_if (is_absent v files ino n)) here in
    omega (arith, next, same, at, one, so_far)

pub lacks_is : (v : Volume) (files : Files) (ino block : ℕ) (es : List Extent) (runs : List Run) (lacks : Bool) → es ≡ extents v ino → runs ≡ runs_in files ino → lacks ≡ (is_none (disk_at es block) && is_none (staged_at runs block))
    → one_if (is_absent v files ino block) ≡ one_if lacks
lacks_is v files ino block es runs lacks map staged is =
    ap one_if (sym (is ∙ (λ i. is_none (disk_at (map i) block) && is_none (staged_at (staged i) block))))

-- ---- pieces

-- A piece that ends with a block, or with the bytes: one staged block, or all up to the next one.
pub record IsPiece (runs : List Run) (at count result : ℕ) : Type 0 where
  pub least : 1 ≤ result
  pub most : result ≤ count
  pub ends : result < count → (at + result) % 4096 ≡ 0
  pub one : ((at + result ≤ 4096 * (at / 4096) + 4096) × IsSome (staged_at runs (at / 4096))) ⊎ ((i : ℕ) → at ≤ i → i < at + result → staged_at runs (i / 4096) ≡ None)

pub is_piece : (runs : List Run) (at count bare result : ℕ) → 1 ≤ count → IsUnstaged runs (at / 4096) ((at + count + 4095) / 4096) bare → result ≡ min count (4096 * (at / 4096 + max bare 1) - at) → IsPiece runs at count result
is_piece runs at count bare result some unstaged is = record {
  least = omega (arith, is, some);
  most = omega (arith, is);
  ends = λ less. omega (arith, is, less);
  one = elim (cases_lt 0 bare) [
    | inl bares ↦ inr (λ i from low. unstaged.none (i / 4096) (omega (arith, from)) (omega (arith, low, is, bares)))
    | inr none ↦ (
        let zero_is : at / 4096 + bare ≡ at / 4096 = omega (arith, none) in
        inl (omega (arith, is, none), subst (λ n. IsSome (staged_at runs n)) zero_is (unstaged.next (omega (arith, none, some)))))
  ];
}
