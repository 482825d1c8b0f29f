-- What clauses see of an order of threads.
use Rattle.crash_spec.specs.Orders as meaning
use Rattle.schedule.specs.declared.order.Order.{Order}

-- the order by which the machine picks
abbrev pub seen_order : Order → meaning.Order
seen_order (Order.List numbers) = meaning.Listed numbers.items
seen_order (Order.Seed seed) = meaning.Seeded seed
seen_order Order.Round = meaning.Round
