-- The staged blocks of a write are those of its staged part.
use Rattle.std.specs.Prelude.{◌≡◌, ◌≤◌, ◌<◌, ◌+◌, ◌-◌, ◌*◌, ◌/◌, ℕ, nat_lt, Bool, true, false, max, refl, Option, None, Some, is_some, if◌then◌else◌}
use Rattle.std.specs.Option.{option_map_or}
use Rattle.std.proofs.Common.{arith, ap, ◌∙◌, sym, inl, inr}
use Rattle.std.proofs.lemmas.Bool.{cases_Bool}
use Rattle.std.proofs.lemmas.Bool.Decides.{nat_tests}
use Rattle.eof_laws.specs.block_counts.Counts.{blocks_for}
use Rattle.eof_laws.specs.block_io.Overwrites.{blocks_reached}
use Rattle.posix_types.specs.declared.call.Mode.{Mode}
use Rattle.live_model.specs.data_route.Writes.{first_staged, plan_of, staged_by}
use Rattle.write_plan.specs.Parts.{StagesThePart}

first_is : (run : ℕ × ℕ) (first count : ℕ) → Some (first, count) ≡ Some run → run.0 ≡ first
first_is run first count is = sym (ap (λ (o : Option (ℕ × ℕ)). option_map_or (λ (r : ℕ × ℕ). r.0) o 0) is)

count_is : (run : ℕ × ℕ) (first count : ℕ) → Some (first, count) ≡ Some run → run.1 ≡ count
count_is run first count is = sym (ap (λ (o : Option (ℕ × ℕ)). option_map_or (λ (r : ℕ × ℕ). r.1) o 0) is)

-- where the first block is that of the part, the blocks are those that the part reaches
reaches : (start len first : ℕ) → start / 4096 ≤ first → max start (4096 * first) ≤ start + len
    → (first ≡ max start (4096 * first) / 4096) × (blocks_for (start + len) - first ≡ blocks_reached (max start (4096 * first)) (len - (max start (4096 * first) - start)))
reaches start len first behind within = (at, omega (arith, at, place)) where
  at : first ≡ max start (4096 * first) / 4096
  at = omega (arith, behind)

  place : max start (4096 * first) + (len - (max start (4096 * first) - start)) ≡ start + len
  place = omega (arith, within)

strict_part : (size start len : ℕ) → start / 4096 ≡ first_staged Mode.Strict size start
strict_part size start len = omega arith

past_part : (size start len : ℕ) → size < start + len → max start (4096 * max (size / 4096) (start / 4096)) ≤ start + len
past_part size start len past = omega (arith, past)

past_end : (size start len : ℕ) (run : ℕ × ℕ) → staged_by Mode.Sync size start (start + len) ≡ Some run
    → (run.0 ≡ max start (4096 * max (size / 4096) (start / 4096)) / 4096)
    × (run.1 ≡ blocks_reached (max start (4096 * max (size / 4096) (start / 4096))) (len - (max start (4096 * max (size / 4096) (start / 4096)) - start)))
past_end size start len run is = by (nat_lt size (start + len)) refl is where
  by : (b : Bool) → nat_lt size (start + len) ≡ b → (if b then Some (max (size / 4096) (start / 4096), blocks_for (start + len) - (max (size / 4096) (start / 4096))) else None) ≡ Some run
      → (run.0 ≡ max start (4096 * max (size / 4096) (start / 4096)) / 4096) × (run.1 ≡ blocks_reached (max start (4096 * max (size / 4096) (start / 4096))) (len - (max start (4096 * max (size / 4096) (start / 4096)) - start)))
  by false not_past none = cc
  by true past same =
      let part = reaches start len (max (size / 4096) (start / 4096)) (omega arith) (past_part size start len (grind (arith, nat_tests, past))) in
      (omega (arith, first_is run (max (size / 4096) (start / 4096)) (blocks_for (start + len) - (max (size / 4096) (start / 4096))) same, part.0), omega (arith, count_is run (max (size / 4096) (start / 4096)) (blocks_for (start + len) - (max (size / 4096) (start / 4096))) same, part.1))

-- the staged blocks of a write that has some bytes
part_of : (mode : Mode) (size start len : ℕ) (run : ℕ × ℕ) → staged_by mode size start (start + len) ≡ Some run
    → (run.0 ≡ max start (4096 * first_staged mode size start) / 4096) × (run.1 ≡ blocks_reached (max start (4096 * first_staged mode size start)) (len - (max start (4096 * first_staged mode size start) - start)))
part_of Mode.Strict size start len run is =
    let part = reaches start len (start / 4096) (omega arith) (omega arith) in
    (omega (arith, first_is run (start / 4096) (blocks_for (start + len) - start / 4096) is, part.0), omega (arith, count_is run (start / 4096) (blocks_for (start + len) - start / 4096) is, part.1))
part_of Mode.Sync size start len run is = past_end size start len run is
part_of Mode.Posix size start len run is = past_end size start len run is

-- what the plan of a write with some bytes stages; of one with none, nothing
planned : (mode : Mode) (size start len : ℕ) → nat_lt 0 len ≡ true → (plan_of mode size start len).staged ≡ staged_by mode size start (start + len)
planned mode size start len some = rw some refl

unplanned : (mode : Mode) (size start len : ℕ) → nat_lt 0 len ≡ false → (plan_of mode size start len).staged ≡ None
unplanned mode size start len none = rw none refl

pub stages_the_part : StagesThePart
stages_the_part mode target len run is = elim (cases_Bool (nat_lt 0 len)) [
  | inl some ↦ part_of mode target.size target.start len run (sym (planned mode target.size target.start len some) ∙ is)
  | inr none ↦ (let never : false ≡ true = ap is_some (sym (unplanned mode target.size target.start len none) ∙ is) in cc)
]
