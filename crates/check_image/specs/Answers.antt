-- What the answers of a check say of the rules that were tried.
use Rattle.std.specs.Prelude.{List, Result, Ok, Err}
use Rattle.k_reading.specs.image_model.Broken.{Rule, BreaksFirst}
use Rattle.check_image.specs.declared.faults.BadImage.{BadImage}
use Rattle.check_image.specs.declared.faults.CheckFault.{CheckFault}
use Rattle.check_image.specs.declared.faults.CheckFault.TheVariants.{Bad, NoMemory}

-- of the rules this one is broken first, at this place
abbrev pub IsFirstOf : List Rule → BadImage → Type 0
IsFirstOf rules bad = BreaksFirst rules bad.rule bad.place

-- where a rule and a place are answered, they are such
abbrev pub IfBad : {A : Type 0} → Result A CheckFault → (BadImage → Type 0) → Type 0
IfBad (Ok x) P = Unit {0}
IfBad (Err (Bad bad)) P = P bad
IfBad (Err NoMemory) P = Unit {0}
