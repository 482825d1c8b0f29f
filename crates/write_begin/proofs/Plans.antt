-- What the plan of a write stages.
use Rattle.std.specs.Prelude.{◌≡◌, ◌≤◌, ◌+◌, ◌/◌, nat_lt, if◌then◌else◌, ℕ, Bool, true, false, Option, Some, None, is_some, refl}
use Rattle.std.specs.Option.{option_map_or}
use Rattle.std.proofs.Common.{arith, ap, ◌∙◌, sym}
use Rattle.std.proofs.lemmas.Bool.Decides.{nat_tests}
use Rattle.std.proofs.lemmas.Option.{same_Some}
use Rattle.posix_types.specs.declared.call.Mode.{Mode}
use Rattle.data_route.specs.Writes.{cleans, in_place_by, plan_of, staged_by}
use Rattle.write_plan.specs.eof_laws.block_io.Overwrites.{blocks_reached}

some_bytes : (len : ℕ) → 1 ≤ len → nat_lt 0 len ≡ true
some_bytes len some = grind (arith, nat_tests)

-- In strict mode it stages blocks from that of the first byte on,
pub strict_staged : (size start len : ℕ) → 1 ≤ len → (plan_of Mode.Strict size start len).staged ≡ Some (start / 4096, blocks_reached start len)
strict_staged size start len some = rw (some_bytes len some) refl

-- and any plan says whether the end is cleaned
pub plan_cleans : (mode : Mode) (size start len : ℕ) → 1 ≤ len → (plan_of mode size start len).clean_tail ≡ cleans size start
plan_cleans mode size start len some = rw (some_bytes len some) refl

-- so many blocks of this run
pub counted : (first count : ℕ) (o : Option (ℕ × ℕ)) → o ≡ Some (first, count) → (run : ℕ × ℕ) → o ≡ Some run → run.1 ≡ count
counted first count o plan run is = ap (λ (p : Option (ℕ × ℕ)). option_map_or (λ (r : ℕ × ℕ). r.1) p 0) (sym is ∙ plan)

-- and there is one
pub stages_some : (first count : ℕ) (o : Option (ℕ × ℕ)) → o ≡ Some (first, count) → o ≡ None → ⊥
stages_some first count o plan is = let never : false ≡ true = ap is_some (sym is ∙ plan) in cc

pub plan_staged : (mode : Mode) (size start len : ℕ) → 1 ≤ len → (plan_of mode size start len).staged ≡ staged_by mode size start (start + len)
plan_staged mode size start len some = rw (some_bytes len some) refl

pub plan_placed : (mode : Mode) (size start len : ℕ) → 1 ≤ len → (plan_of mode size start len).in_place ≡ in_place_by mode size start (start + len)
plan_placed mode size start len some = rw (some_bytes len some) refl

-- a choice that was made, or not
pub chosen : (b : Bool) (a run : ℕ × ℕ) → (if b then Some a else None) ≡ Some run → (b ≡ true) × (a ≡ run)
chosen true a run is = (refl, same_Some a run is)
chosen false a run is = cc

pub unchosen : (b : Bool) (a : ℕ × ℕ) → (if b then Some a else None) ≡ None → b ≡ false
unchosen true a is = cc
unchosen false a is = refl

pub some_run : (run : ℕ × ℕ) → (let o : Option (ℕ × ℕ) = Some run in o ≡ None → ⊥)
some_run run is = let never : true ≡ false = ap is_some is in cc
