use Rattle.std.proofs.Common.{◌≡◌, ◌==◌, take}
use Rattle.std.specs.List.{list_all}
use Rattle.report_text.proofs.data.have_value.Given as goal

-- whether all bytes so far have the value
abbrev pub invariant-loop-byte : goal.invariant-loop-byte
invariant-loop-byte l = l.all ≡ list_all (λ byte. byte == l.value) (take l.byte-index l.run)
