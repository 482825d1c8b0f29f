use Rattle.std.proofs.Common.{◌≡◌, drop, fold}
use Rattle.posix_tables.specs.Places.{entry_place, places, with_place}
use Rattle.posix_tables.proofs.places.places.Given as goal

abbrev pub invariant-loop-entry : goal.invariant-loop-entry
invariant-loop-entry l =
    fold (λ so_far entry. with_place so_far (entry_place l.entries entry)) l.found.items (drop l.entry-index l.entries) ≡ places l.entries
