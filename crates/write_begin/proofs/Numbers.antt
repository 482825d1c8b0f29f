-- Places of a write in its blocks, and runs that share none.
use Rattle.std.specs.Prelude.{◌≡◌, ◌⊎◌, ◌≤◌, ◌<◌, ◌+◌, ◌-◌, ◌*◌, ◌/◌, ℕ, true, false, cond, nat_lt, List, drop, length, slice_index, refl}
use Rattle.std.proofs.Common.{arith, ap, ◌∙◌, sym, inl, inr}
use Rattle.std.proofs.lemmas.Bool.{cases_lt}
use Rattle.std.proofs.lemmas.Bool.Decides.{nat_tests}
use Rattle.write_jobs.specs.extent_model.Extents.{is_within}
use Rattle.std.proofs.lemmas.List.{get_or-drop, length-drop}
use Rattle.posix_laws.proofs.ByteLaws.{index-overwritten, length-overwritten}
use Rattle.posix_tables.specs.Bytes.{overwritten}
use Rattle.live_step_laws.specs.staging_files.declared.runs.StageRun.{StageRun}
use Rattle.live_step_laws.specs.staging_files.Keeps.{AreApart, has_block}
use Rattle.write_plan.specs.eof_laws.block_io.Overwrites.{blocks_reached}

-- ---- blocks of a write

below_is : (i m : ℕ) → i < m → nat_lt i m ≡ true
below_is i m below = grind (arith, nat_tests)

not_below : (i m : ℕ) → m ≤ i → nat_lt i m ≡ false
not_below i m past = grind (arith, nat_tests)

-- the new bytes lie in the blocks
in_blocks : (start len i : ℕ) → 1 ≤ len → start ≤ i → i < start + len → i / 4096 < start / 4096 + blocks_reached start len
in_blocks start len i some high low = omega (arith, some, high, low)

within_is : (first count b : ℕ) → first ≤ b → b < first + count → is_within first count b ≡ true
within_is first count b high low = grind (arith, nat_tests)

-- a byte in none of them is before the write or behind it
pub beside_write : (start len i : ℕ) → 1 ≤ len → is_within (start / 4096) (blocks_reached start len) (i / 4096) ≡ false → (i < start) ⊎ (start + len ≤ i)
beside_write start len i some outside = elim (cases_lt i start) [
  | inl low ↦ inl low
  | inr high ↦ elim (cases_lt i (start + len)) [
    | inl below ↦ (
        let inside = within_is (start / 4096) (blocks_reached start len) (i / 4096) (omega (arith, high)) (in_blocks start len i some high below) in
        let never : true ≡ false = sym inside ∙ outside in
        cc)
    | inr past ↦ inr past
  ]
]

-- and if it is before, its block is before that of the first byte
pub before_write : (start len i : ℕ) → 1 ≤ len → is_within (start / 4096) (blocks_reached start len) (i / 4096) ≡ false → i < start → i < 4096 * (start / 4096)
before_write start len i some outside low = elim (cases_lt i (4096 * (start / 4096))) [
  | inl early ↦ early
  | inr late ↦ (
      let one : i / 4096 ≡ start / 4096 = omega (arith, late, low) in
      let first = in_blocks start len start some (omega arith) (omega (arith, some)) in
      let inside = within_is (start / 4096) (blocks_reached start len) (i / 4096) (omega (arith, one)) (omega (arith, one, first)) in
      let never : true ≡ false = sym inside ∙ outside in
      cc)
]

-- there a byte is what it was

pub same_beside : (old new : List ℕ) (start i : ℕ) → (i < start) ⊎ (start + length new ≤ i) → slice_index (overwritten old start new) i ≡ slice_index old i
same_beside old new start i (inl low) = index-overwritten old start new i ∙ ap (λ t. cond t (slice_index old i) (cond (nat_lt i (start + length new)) (slice_index new (i - start)) (slice_index old i))) (below_is i start low)
same_beside old new start i (inr high) =
    index-overwritten old start new i
    ∙ (ap (λ t. cond t (slice_index old i) (cond (nat_lt i (start + length new)) (slice_index new (i - start)) (slice_index old i))) (not_below i start (omega (arith, high)))
    ∙ ap (λ t. cond t (slice_index new (i - start)) (slice_index old i)) (not_below i (start + length new) high))

-- and among them a new one
pub written_there : (old new : List ℕ) (start i : ℕ) → start ≤ i → i < start + length new → slice_index (overwritten old start new) i ≡ slice_index new (i - start)
written_there old new start i high low =
    index-overwritten old start new i
    ∙ (ap (λ t. cond t (slice_index old i) (cond (nat_lt i (start + length new)) (slice_index new (i - start)) (slice_index old i))) (not_below i start high)
    ∙ ap (λ t. cond t (slice_index new (i - start)) (slice_index old i)) (below_is i (start + length new) low))

-- ---- a part of a write

module _ (old bytes : List ℕ) (place start : ℕ) (after : place ≤ start) (within : start ≤ place + length bytes) where
  abbrev part : List ℕ
  part = drop (start - place) bytes

  part_end : start + length part ≡ place + length bytes
  part_end = omega (arith, length-drop (start - place) bytes, after, within)

  -- the part over the old bytes has the length that the whole has,
  pub part_length : length (overwritten old start part) ≡ length (overwritten old place bytes)
  part_length = omega (arith, length-overwritten old start part, length-overwritten old place bytes, part_end)

  -- and is as the whole, but between the write's place and its own
  pub part_beside : (i : ℕ) → (i < place) ⊎ (start ≤ i) → slice_index (overwritten old start part) i ≡ slice_index (overwritten old place bytes) i
  part_beside i (inl before) = same_beside old part start i (inl (omega (arith, before, after))) ∙ sym (same_beside old bytes place i (inl before))
  part_beside i (inr behind) = elim (cases_lt i (place + length bytes)) [
    | inl inside ↦ (
        let same : start - place + (i - start) ≡ i - place = omega (arith, after, behind) in
        written_there old part start i behind (omega (arith, inside, part_end))
        ∙ (get_or-drop (start - place) bytes (i - start) 0 ∙ ap (λ n. slice_index bytes n) same)
        ∙ sym (written_there old bytes place i (omega (arith, after, behind)) inside))
    | inr past ↦ same_beside old part start i (inr (omega (arith, past, part_end))) ∙ sym (same_beside old bytes place i (inr past))
  ]

-- ---- runs

has_it : (r : StageRun) (x m : ℕ) → r.staging ≡ x → r.block ≤ m → m < r.block + r.count → has_block x m r ≡ true
has_it r x m own high low = grind (arith, nat_tests)

-- two runs of one staging file that share no block lie one before the other
pub apart_runs : (a b : StageRun) → AreApart a b → 1 ≤ a.count → 1 ≤ b.count → a.staging ≡ b.staging → (a.block + a.count ≤ b.block) ⊎ (b.block + b.count ≤ a.block)
apart_runs a b apart some other same = elim (cases_lt b.block (a.block + a.count)) [
  | inr before ↦ inl before
  | inl low ↦ elim (cases_lt a.block (b.block + b.count)) [
    | inr behind ↦ inr behind
    | inl other_low ↦ elim (cases_lt a.block b.block) [
      | inl first ↦ (
          let own = has_it a b.staging b.block same (omega (arith, first)) low in
          let their = has_it b b.staging b.block refl (omega arith) (omega (arith, other)) in
          let never : true ≡ false = sym their ∙ apart b.staging b.block own in
          cc)
      | inr last ↦ (
          let own = has_it a b.staging a.block same (omega arith) (omega (arith, some)) in
          let their = has_it b b.staging a.block refl last other_low in
          let never : true ≡ false = sym their ∙ apart b.staging a.block own in
          cc)
    ]
  ]
]
