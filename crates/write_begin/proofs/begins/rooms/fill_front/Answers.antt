use Rattle.std.proofs.Common.{refl, subst, sym, Ok, Option, Result, ℕ}
use Rattle.std.specs.declared.alloc.AllocError.{AllocError}
use Rattle.in_place.specs.declared.placing.holes.Holes.{Holes}
use Rattle.write_begin.specs.Rooms.{IsFrontFilled, LiesWithin}
use Rattle.write_begin.proofs.Fronts.{front_filled}
use Rattle.write_begin.proofs.begins.rooms.fill_front.Goals as goal

pub returns-in-None-clause-answer : goal.returns-in-None-clause-answer
returns-in-None-clause-answer c =
    subst (λ (o : Option (ℕ × ℕ)). (let result : Result Holes AllocError = Ok Holes.Filled in IsFrontFilled c.args.k.now c.args.k.now c.args.staging.now c.args.files.now c.args.ino o result)) (sym c.in-None.is) (refl, λ need left lacks. lacks)

pub fill_range-requires-clause-some : goal.fill_range-requires-clause-some
fill_range-requires-clause-some c = (let within : LiesWithin c.args.files.now c.args.ino (c.in-Some.from, c.in-Some.to) = rw c.in-Some.is at c.requires.within in within.some)

pub fill_range-requires-clause-below : goal.fill_range-requires-clause-below
fill_range-requires-clause-below c = (let within : LiesWithin c.args.files.now c.args.ino (c.in-Some.from, c.in-Some.to) = rw c.in-Some.is at c.requires.within in within.below)

pub fill_range-requires-clause-fits : goal.fill_range-requires-clause-fits
fill_range-requires-clause-fits c = (let within : LiesWithin c.args.files.now c.args.ino (c.in-Some.from, c.in-Some.to) = rw c.in-Some.is at c.requires.within in within.fits)

pub fill_range-requires-clause-few : goal.fill_range-requires-clause-few
fill_range-requires-clause-few c = (let within : LiesWithin c.args.files.now c.args.ino (c.in-Some.from, c.in-Some.to) = rw c.in-Some.is at c.requires.within in within.few)

pub returns-in-Some-clause-answer : goal.returns-in-Some-clause-answer
returns-in-Some-clause-answer c =
    subst (λ (o : Option (ℕ × ℕ)). IsFrontFilled c.args.k.now c.fill_range.new.k c.args.staging.now c.args.files.now c.args.ino o c.fill_range.result) (sym c.in-Some.is)
    (front_filled c.args.k.now c.fill_range.new.k c.args.staging.now c.args.files.now c.args.ino (c.in-Some.from, c.in-Some.to) c.fill_range.result c.fill_range.ensures.enough c.fill_range.ensures.answer)
