use Rattle.open_files.proofs.Changes.{closes_alike, dups_alike, moves_alike, nothing_is_open, opens_alike}
use Rattle.open_files.proofs.numbers.numbered_tables_change_alike.Goals as goal

pub returns : goal.returns
returns c = record { none = nothing_is_open; opens = opens_alike; dups = dups_alike; moves = moves_alike; closes = closes_alike }
