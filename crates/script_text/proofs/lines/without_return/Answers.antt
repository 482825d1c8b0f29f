use Rattle.std.proofs.Common.{ℕ, List, false, ◌∙◌, arith, sym, suc, ◌≡◌, ◌-◌, length}
use Rattle.std.proofs.lemmas.Bool.{eqb-false, eqb-true}
use Rattle.std.specs.Prelude.{◌==◌}
use Rattle.script_text.proofs.Ends.{no_end, other_end, returned}
use Rattle.script_text.proofs.lines.without_return.Goals as goal
use Rattle.script_text.proofs.lines.without_return.Goals.{else-not-is_empty-via-then-not-is_empty+else-bytes-eq13, else-not-is_empty-via-else-not-is_empty}

long : (bytes : List ℕ) → (length bytes == 0) ≡ false → length bytes ≡ suc (length bytes - 1)
long bytes some = let other = eqb-false (length bytes) 0 some in omega arith

pub returns-then-bytes-eq13 : goal.returns-then-bytes-eq13
returns-then-bytes-eq13 c = c.front.ensures ∙ returned c.args.bytes.now (length c.args.bytes.now - 1) (long c.args.bytes.now (sym c.is_empty.ensures ∙ c.if-not-is_empty.true)) c.if-bytes-eq13.true

pub returns-else-not-is_empty : goal.returns-else-not-is_empty
returns-else-not-is_empty c = elim c.else-not-is_empty.branch [
  | else-not-is_empty-via-then-not-is_empty+else-bytes-eq13 w ↦ other_end c.args.bytes.now (length c.args.bytes.now - 1) (long c.args.bytes.now (sym c.is_empty.ensures ∙ w.if-not-is_empty.true)) w.if-bytes-eq13.false
  | else-not-is_empty-via-else-not-is_empty w ↦ no_end c.args.bytes.now (eqb-true _ 0 (sym c.is_empty.ensures ∙ w.if-not-is_empty.false))
]
