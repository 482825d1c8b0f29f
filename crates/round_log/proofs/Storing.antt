-- A line into which the words of an entry are stored, and then made durable.
use Rattle.std.proofs.Common.{◌≡◌, ◌<◌, ◌+◌, ◌∙◌, ℕ, Bool, true, cond, List, Option, None, Some, arith, subst, sym, if◌then◌else◌}
use Rattle.oplog_entry.specs.pm_model.declared.Cell.{Cell}
use Rattle.oplog_entry.specs.pm_model.Powers.{is_left, is_on, stepped, Steps, Supply, taken_after}
use Rattle.oplog_entry.specs.pm_model.Words.{Words}
use Rattle.pm_lines.specs.Effects.{Fences, FlushesLine}
use Rattle.oplog_entry.proofs.EntryWords.{finishes, IsStoring}
use Rattle.oplog_entry.specs.declared.claims.Mark.TheVariants.{Lost, Written}
use Rattle.round_log.specs.Stores.{HasStored, Persists}

pub stored_all : (first : List Cell) (words : Words) (on : Bool) (cells : List Cell) → IsStoring first words 8 on cells → HasStored first words on cells
stored_all first words on cells is = record { rest = is.rest; some = is.some; all = is.all }

pub persists : (seq : ℕ) (old flushed fenced : List Cell) (on later last : Bool) → (later ≡ true → on ≡ true) → (last ≡ true → later ≡ true) → FlushesLine on 0 old flushed → Fences later flushed fenced
    → Persists (cond last Written Lost) seq on old fenced
persists seq old flushed fenced on later last before sooner flush fence d first stored single lasted has =
    finishes d seq first old flushed fenced on later last single before sooner (record { rest = has.rest; some = has.some; all = λ is. has.all (lasted is) }) flush fence

-- ---- a step is taken where one is left

taken_more : (given : Option ℕ) (taken n : ℕ) → is_left given taken ≡ true → given ≡ Some n → taken < taken_after given taken
taken_more None taken n on is = cc
taken_more (Some most) taken n on is = subst (λ (b : Bool). taken < (if b then taken + 1 else taken)) (sym on) (omega arith)

-- behind steps that were taken before it
pub took_last : (m n : ℕ) (p q r : Supply) → Steps m p q → Steps n q r → r ≡ stepped q → is_on r ≡ true → (given : ℕ) → p.given ≡ Some given → p.taken < r.taken
took_last m n p q r first last one on given some =
    let more : q.taken < r.taken = subst (λ (s : Supply). q.taken < s.taken) (sym one) (taken_more q.given q.taken given (last.on_before on) (first.given ∙ some)) in
    omega (arith, first.later, more)
