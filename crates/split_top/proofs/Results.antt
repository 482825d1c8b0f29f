-- Facts on what a call returned.
use Rattle.std.proofs.Common.{Result, Ok, Err, IfOk}

-- what follows from a fact on the value
pub follows : {T E : Type 0} (r : Result T E) (P Q : T → Type 0) → ((x : T) → P x → Q x) → IfOk r P → IfOk r Q
follows (Ok x) P Q imply h = imply x h
follows (Err e) P Q imply h = h
