use Rattle.std.proofs.Common.{refl}
use Rattle.open_files.proofs.Lookups.{same_key, same_open, same_opened, same_where_open}
use Rattle.open_files.proofs.numbers.numbered_tables_say_the_same.Goals as goal

pub returns : goal.returns
returns c = record { opened = same_opened; key = same_key; full = λ f t. (refl, refl); is_open = same_open; agree = same_where_open }
