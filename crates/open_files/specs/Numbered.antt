-- Tables of open files with other numbers in the place of their nodes' own: those with inodes, as the file system keeps
-- them, say the same as those with node numbers, as the calls have them.
use Rattle.std.specs.Prelude.{◌≡◌, ℕ, map, true, option_map}
use Rattle.posix_tables.specs.declared.open.Description.{Description}
use Rattle.posix_tables.specs.Open.{is_open, Tables}

-- a description whose node has another number
abbrev pub described_as : (ℕ → ℕ) → Description → Description
described_as f d = record d { node = f d.node }

-- THE TABLES whose nodes have other numbers; descriptions, descriptors and handles stay
abbrev pub numbered_as : (ℕ → ℕ) → Tables → Tables
numbered_as f t = record t { descriptions = map (option_map (described_as f)) t.descriptions }

-- of the nodes that are open, those alone have this node's number that are it
abbrev pub IsTold : (ℕ → ℕ) → Tables → ℕ → Type 0
IsTold f t node = (other : ℕ) → is_open t other ≡ true → f other ≡ f node → other ≡ node
