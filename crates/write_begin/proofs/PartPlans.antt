-- The staged part of a write, and what lies before it.
use Rattle.std.specs.Prelude.{◌≡◌, ◌≢◌, ◌≤◌, ◌<◌, ◌+◌, ◌-◌, ◌*◌, ◌/◌, ◌%◌, ℕ, nat_lt, if◌then◌else◌, Bool, true, false, max, Option, None, Some, refl}
use Rattle.std.proofs.Common.{arith, ap, ◌∙◌, sym, subst}
use Rattle.std.proofs.lemmas.Bool.Decides.{nat_tests}
use Rattle.block_counts.specs.declared.TheConstants.{LONGEST_FILE, LONGEST_WRITE}
use Rattle.block_counts.specs.Counts.{blocks_for}
use Rattle.data_route.specs.declared.writes.WritePlan.{WritePlan}
use Rattle.data_route.specs.Writes.{first_staged, in_place_by, plan_of, stages}
use Rattle.posix_tables.specs.Room.{write_need}
use Rattle.write_plan.specs.pm_model.PowerLaws.{Steps-none}
use Rattle.write_plan.specs.pm_model.Powers.{Steps, Supply}
use Rattle.posix_types.specs.declared.call.Mode.{Mode}
use Rattle.write_plan.specs.eof_laws.block_io.Overwrites.{blocks_reached}
use Rattle.write_plan.specs.Parts.{part_start, StagesThePart}
use Rattle.write_plan.specs.declared.asks.asking.Target.{Target}
use Rattle.write_plan.specs.file_table.Files.{Files, size_in}
use Rattle.write_begin.specs.Rooms.{LieWithin}
use Rattle.write_begin.proofs.Plans.{chosen, plan_placed, plan_staged, strict_staged, unchosen}

less_is : (a b : ℕ) → a < b → nat_lt a b ≡ true
less_is a b less = grind (arith, nat_tests, less)

less_of : (a b : ℕ) → nat_lt a b ≡ true → a < b
less_of a b is = grind (arith, nat_tests, is)

not_less_of : (a b : ℕ) → nat_lt a b ≡ false → b ≤ a
not_less_of a b is = grind (arith, nat_tests, is)

-- From here on it is staged: what lies before is below the end of the file, ends with a block, and is written in place.
pub record IsPart (mode : Mode) (size start len from : ℕ) : Type 0 where
  pub behind : start ≤ from
  pub within : from < start + len
  pub front : start < from → (from ≤ size) × (from % 4096 ≡ 0) × (size ≤ start + len)
  pub strict : mode ≡ Mode.Strict → from ≡ start
  pub placed : start < from → (plan_of mode size start len).in_place ≡ Some (start, from)
  pub staged : (plan_of mode size from (len - (from - start))).staged ≡ Some (from / 4096, blocks_reached from (len - (from - start)))
  pub need : write_need mode size from (from + (len - (from - start))) ≤ write_need mode size start (start + len)

at_most : (a b : ℕ) → a ≡ b → a ≤ b
at_most a b is = omega (arith, is)

pair_is : (a b c d : ℕ) → a ≡ c → b ≡ d → (let one : Option (ℕ × ℕ) = Some (a, b) in let other : Option (ℕ × ℕ) = Some (c, d) in one ≡ other)
pair_is a b c d first second = λ i. (let both : ℕ × ℕ = (first i, second i) in Some both)

strict_part : (size start len from : ℕ) → 1 ≤ len → from ≡ max start (4096 * (start / 4096)) → IsPart Mode.Strict size start len from
strict_part size start len from some is = record {
  behind = omega (arith, same);
  within = omega (arith, same, some);
  front = λ before. absurd (omega (arith, same, before));
  strict = λ strict. same;
  placed = λ before. absurd (omega (arith, same, before));
  staged = strict_staged size from (len - (from - start)) (omega (arith, same, some));
  need = at_most (write_need Mode.Strict size from (from + (len - (from - start)))) (write_need Mode.Strict size start (start + len)) (λ i. write_need Mode.Strict size (same i) (end i));
} where
  same : from ≡ start
  same = omega (arith, is)

  end : from + (len - (from - start)) ≡ start + len
  end = omega (arith, same)

sync_part : (size start len from : ℕ) → 1 ≤ len → size < start + len → from ≡ max start (4096 * max (size / 4096) (start / 4096)) → IsPart Mode.Sync size start len from
sync_part size start len from some past is = record {
  behind = omega (arith, is);
  within = omega (arith, is, past, some);
  front = λ before. (omega (arith, is, before), omega (arith, is, before), omega (arith, past));
  strict = λ strict. (let never : Mode.Sync ≡ Mode.Strict = strict in cc);
  placed = λ before.
      plan_placed Mode.Sync size start len some
      ∙ (ap (λ n. (let o : Option (ℕ × ℕ) = if nat_lt start n then Some (start, n) else None in o))
      (ap (λ (b : Bool). if b then 4096 * max (size / 4096) (start / 4096) else start + len) (less_is size (start + len) past) ∙ end_is before)
      ∙ ap (λ (b : Bool). (let o : Option (ℕ × ℕ) = if b then Some (start, from) else None in o)) (less_is start from before));
  staged =
      plan_staged Mode.Sync size from (len - (from - start)) (omega (arith, inside))
      ∙ (ap (λ (b : Bool). (let o : Option (ℕ × ℕ) = if b then Some (max (size / 4096) (from / 4096), blocks_for (from + (len - (from - start))) - max (size / 4096) (from / 4096)) else None in o))
      (less_is size (from + (len - (from - start))) (omega (arith, past, end)))
      ∙ pair_is (max (size / 4096) (from / 4096)) (blocks_for (from + (len - (from - start))) - max (size / 4096) (from / 4096)) (from / 4096) (blocks_reached from (len - (from - start))) first (omega (arith, first, inside)));
  need = at_most (write_need Mode.Sync size from (from + (len - (from - start)))) (write_need Mode.Sync size start (start + len)) (λ i. write_need Mode.Sync size start (end i));
} where
  inside : from < start + len
  inside = omega (arith, is, past, some)

  end : from + (len - (from - start)) ≡ start + len
  end = omega (arith, is, inside)

  first : max (size / 4096) (from / 4096) ≡ from / 4096
  first = omega (arith, is)

  end_is : start < from → 4096 * max (size / 4096) (start / 4096) ≡ from
  end_is before = omega (arith, is, before)

-- the part of a plan that stages this run
pub part_is : (mode : Mode) (size start len : ℕ) (run : ℕ × ℕ) → mode ≢ Mode.Posix → 1 ≤ len → (plan_of mode size start len).staged ≡ Some run → IsPart mode size start len (max start (4096 * run.0))
part_is Mode.Strict size start len run not_posix some plan =
    let pick = chosen true (first_staged Mode.Strict size start, blocks_for (start + len) - first_staged Mode.Strict size start) run (sym (plan_staged Mode.Strict size start len some) ∙ plan) in
    strict_part size start len (max start (4096 * run.0)) some (ap (λ (r : ℕ × ℕ). max start (4096 * r.0)) (sym pick.1))
part_is Mode.Sync size start len run not_posix some plan =
    let pick = chosen (nat_lt size (start + len)) (first_staged Mode.Sync size start, blocks_for (start + len) - first_staged Mode.Sync size start) run (sym (plan_staged Mode.Sync size start len some) ∙ plan) in
    sync_part size start len (max start (4096 * run.0)) some (less_of size (start + len) pick.0) (ap (λ (r : ℕ × ℕ). max start (4096 * r.0)) (sym pick.1))
part_is Mode.Posix size start len run not_posix some plan = absurd (not_posix refl)

-- ---- a plan that stages nothing

-- It is of sync mode, and all bytes lie below the end of the file and are written in place.
pub record IsAllPlaced (mode : Mode) (size start len : ℕ) : Type 0 where
  pub sync : mode ≡ Mode.Sync
  pub below : start + len ≤ size
  pub placed : (plan_of mode size start len).in_place ≡ Some (start, start + len)

pub all_placed : (mode : Mode) (size start len : ℕ) → mode ≢ Mode.Posix → 1 ≤ len → (plan_of mode size start len).staged ≡ None → IsAllPlaced mode size start len
all_placed Mode.Strict size start len not_posix some plan =
    let never : true ≡ false = unchosen true (first_staged Mode.Strict size start, blocks_for (start + len) - first_staged Mode.Strict size start) (sym (plan_staged Mode.Strict size start len some) ∙ plan) in
    cc
all_placed Mode.Sync size start len not_posix some plan =
    let none = unchosen (nat_lt size (start + len)) (first_staged Mode.Sync size start, blocks_for (start + len) - first_staged Mode.Sync size start) (sym (plan_staged Mode.Sync size start len some) ∙ plan) in
    record {
      sync = refl;
      below = not_less_of size (start + len) none;
      placed = plan_placed Mode.Sync size start len some
          ∙ (ap (λ n. (let o : Option (ℕ × ℕ) = if nat_lt start n then Some (start, n) else None in o))
          (ap (λ (b : Bool). if b then 4096 * max (size / 4096) (start / 4096) else start + len) none)
          ∙ ap (λ (b : Bool). (let o : Option (ℕ × ℕ) = if b then Some (start, start + len) else None in o)) (less_is start (start + len) (omega (arith, some))));
    }
all_placed Mode.Posix size start len not_posix some plan = absurd (not_posix refl)

-- ---- what is written in place

-- in strict mode nothing
pub strict_places_none : (size start len : ℕ) → 1 ≤ len → (plan_of Mode.Strict size start len).in_place ≡ None
strict_places_none size start len some =
    plan_placed Mode.Strict size start len some
    ∙ ap (λ (b : Bool). (let o : Option (ℕ × ℕ) = if b then Some (start, 4096 * (start / 4096)) else None in o)) (not_less start) where
      not_less : (n : ℕ) → nat_lt n (4096 * (n / 4096)) ≡ false
      not_less n = grind (arith, nat_tests)

-- in sync mode what lies below the end of the file
pub places_within : (mode : Mode) (files : Files) (ino size start len : ℕ) → mode ≢ Mode.Posix → 1 ≤ len → len ≤ LONGEST_WRITE → start + len ≤ LONGEST_FILE → size ≡ size_in files ino
    → LieWithin files ino (plan_of mode size start len).in_place
places_within Mode.Strict files ino size start len not_posix some most fits size_is = subst (LieWithin files ino) (sym (strict_places_none size start len some)) tt
places_within Mode.Sync files ino size start len not_posix some most fits size_is = subst (LieWithin files ino) (sym (plan_placed Mode.Sync size start len some)) (by (nat_lt size (start + len)) refl) where
  within : (end : ℕ) → end ≤ start + len → end ≤ size → (b : Bool) → nat_lt start end ≡ b → LieWithin files ino (if b then Some (start, end) else None)
  within end fits_end below false is = tt
  within end fits_end below true is = record {
    some = less_of start end is;
    below = omega (arith, below, size_is);
    fits = omega (arith, fits_end, fits);
    few = omega (arith, fits_end, most);
  }

  by : (b : Bool) → nat_lt size (start + len) ≡ b → LieWithin files ino (in_place_by Mode.Sync size start (start + len))
  by true is = subst (λ n. LieWithin files ino (if nat_lt start n then Some (start, n) else None)) (sym (ap (λ (b : Bool). if b then 4096 * max (size / 4096) (start / 4096) else start + len) is))
      (past (less_of size (start + len) is) (nat_lt start (4096 * max (size / 4096) (start / 4096))) refl)
    where
      past : size < start + len → (b : Bool) → nat_lt start (4096 * max (size / 4096) (start / 4096)) ≡ b → LieWithin files ino (if b then Some (start, 4096 * max (size / 4096) (start / 4096)) else None)
      past reach false not = tt
      past reach true less =
          let before = less_of start (4096 * max (size / 4096) (start / 4096)) less in
          record {
            some = before;
            below = omega (arith, before, size_is);
            fits = omega (arith, before, reach, fits);
            few = omega (arith, before, reach, most);
          }
  by false is = subst (λ n. LieWithin files ino (if nat_lt start n then Some (start, n) else None)) (sym (ap (λ (b : Bool). if b then 4096 * max (size / 4096) (start / 4096) else start + len) is))
      (within (start + len) (omega arith) (not_less_of size (start + len) is) (nat_lt start (start + len)) refl)
places_within Mode.Posix files ino size start len not_posix some most fits size_is = absurd (not_posix refl)

-- ---- the blocks of the part

first_of : (mode : Mode) (size start len : ℕ) (run : ℕ × ℕ) → 1 ≤ len → (plan_of mode size start len).staged ≡ Some run → first_staged mode size start ≡ run.0
first_of mode size start len run some plan =
    ap (λ (r : ℕ × ℕ). r.0) (chosen (stages mode size (start + len)) (first_staged mode size start, blocks_for (start + len) - first_staged mode size start) run (sym (plan_staged mode size start len some) ∙ plan)).1

pub reached_is : StagesThePart → (mode : Mode) (target : Target) (len : ℕ) (run : ℕ × ℕ) → 1 ≤ len → (plan_of mode target.size target.start len).staged ≡ Some run
    → (plan_of mode target.size target.start len).staged ≡ Some (max target.start (4096 * run.0) / 4096, blocks_reached (max target.start (4096 * run.0)) (len - (max target.start (4096 * run.0) - target.start)))
reached_is law mode target len run some plan =
    let blocks = law mode target len run plan in
    let from : part_start mode target ≡ max target.start (4096 * run.0) = ap (λ n. max target.start (4096 * n)) (first_of mode target.size target.start len run some plan) in
    plan
    ∙ pair_is run.0 run.1 (max target.start (4096 * run.0) / 4096) (blocks_reached (max target.start (4096 * run.0)) (len - (max target.start (4096 * run.0) - target.start)))
    (blocks.0 ∙ ap (λ n. n / 4096) from) (blocks.1 ∙ ap (λ n. blocks_reached n (len - (n - target.start))) from)

-- ---- the power in strict mode

-- no hole takes of it
pub strict_spared : (mode : Mode) (size start len : ℕ) (plan : WritePlan) (old new : Supply) → 1 ≤ len → plan ≡ plan_of mode size start len → (plan.in_place ≡ None → new ≡ old) → mode ≡ Mode.Strict → new ≡ old
strict_spared mode size start len plan old new some plan_is spared strict =
    spared (ap (λ (p : WritePlan). p.in_place) plan_is ∙ (ap (λ (m : Mode). (plan_of m size start len).in_place) strict ∙ strict_places_none size start len some))

pub steps_more : (m n : ℕ) (old new : Supply) → m ≤ n → Steps m old new → Steps n old new
steps_more m n old new le is = record { given = is.given; on_before = is.on_before; later = is.later; bound = (let least = is.bound in omega (arith, least, le)) }

-- so no step is taken
pub no_steps : (n : ℕ) (old new : Supply) → new ≡ old → Steps n old new
no_steps n old new same = subst (Steps n old) (sym same) (steps_more 0 n old old (omega arith) (Steps-none old))
