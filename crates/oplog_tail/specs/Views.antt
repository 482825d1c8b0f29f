-- What seats know of the log, counted.
use Rattle.std.specs.Prelude.{ℕ, ◌+◌, ◌==◌, Bool, true, false, if◌then◌else◌, List, [], ◌∷◌, ◌++◌, length, count_by, Option, Some, None}
use Rattle.list_laws.specs.Numbers.{count_with}
use Rattle.oplog_entry.specs.image_model.pm_model.Parts.{Part}
use Rattle.layout_model.specs.declared.lines.Draft.{Draft}
use Rattle.oplog_tail.specs.declared.views.Claim.{Claim}
use Rattle.oplog_tail.specs.declared.views.Knows.{Knows}
use Rattle.oplog_entry.specs.declared.claims.Mark.{Mark}
use Rattle.oplog_entry.specs.declared.claims.Mark.TheVariants.{Lost, Written}
use Rattle.oplog_tail.specs.declared.views.Opened.{Opened}

abbrev pub is_written : Mark → Bool
is_written Written = true
is_written Lost = false

abbrev pub number_of : Claim → ℕ
number_of c = c.number

-- how often the number x stands in a list, in claims, and in a claim that is under way
abbrev pub times : ℕ → List ℕ → ℕ
times x numbers = count_with (λ n. n) x numbers

abbrev pub claims_with : ℕ → List Claim → ℕ
claims_with x claims = count_with number_of x claims

abbrev pub held_with : ℕ → Option Opened → ℕ
held_with x None = 0
held_with x (Some o) = if o.number == x then 1 else 0

abbrev pub held_count : Option Opened → ℕ
held_count None = 0
held_count (Some o) = 1

-- how often a seat claimed the number x, those included that were found past the last line
abbrev pub times_in : ℕ → Knows → ℕ
times_in x v = claims_with x v.claims + held_with x v.held + times x v.full

-- how many numbers a seat claimed, and how many of them past the last line
abbrev pub claims_of : Knows → ℕ
claims_of v = length v.claims + held_count v.held + length v.full

abbrev pub fulls_of : Knows → ℕ
fulls_of v = length v.full

-- how many entries it wrote
abbrev pub written_of : Knows → ℕ
written_of v = count_by (λ c. is_written c.mark) v.claims

abbrev pub parts_of : Knows → ℕ
parts_of v = v.parts

-- a seat of so many parts that claimed nothing
abbrev pub newcomer : ℕ → Knows
newcomer parts = record { parts = parts; claims = []; held = None; full = [] }

abbrev pub claim : ℕ → Draft → Mark → Claim
claim n d mark = record { number = n; entry = d; mark = mark }

-- it has claimed the number n, and opened its line
abbrev pub with_held : Knows → ℕ → Part → Knows
with_held v n line = record { parts = v.parts; claims = v.claims; held = Some (record { number = n; line = line }); full = v.full }

-- it has found the number n past the last line
abbrev pub with_full : Knows → ℕ → Knows
with_full v n = record { parts = v.parts; claims = v.claims; held = v.held; full = v.full ++ n ∷ [] }

-- it has put the line of its number back, with an entry, and marked it
abbrev pub settled : Knows → ℕ → Draft → Mark → Knows
settled v n d mark = record { parts = v.parts; claims = v.claims ++ claim n d mark ∷ []; held = None; full = v.full }

-- it has fewer parts
abbrev pub with_parts : Knows → ℕ → Knows
with_parts v parts = record { parts = parts; claims = v.claims; held = v.held; full = v.full }

-- what it and another seat know, the other's claims first
abbrev pub joined : Knows → Knows → Knows
joined v w = record { parts = v.parts + w.parts; claims = w.claims ++ v.claims; held = v.held; full = w.full ++ v.full }
