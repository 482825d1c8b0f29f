-- What commutes with numbering, each as one statement.
use Rattle.std.specs.Prelude.{◌≡◌, ◌⊎◌, ℕ, true, option_map}
use Rattle.posix_tables.specs.posix_types.declared.call.Who.{Who}
use Rattle.posix_tables.specs.posix_types.declared.handle.Handle.{Handle}
use Rattle.posix_tables.specs.declared.open.Description.{Description}
use Rattle.posix_tables.specs.Open.{closed, is_full, is_open, key_of, next_descriptor, nothing_open, opened, Tables, with_descriptor, with_offset, with_opened}
use Rattle.open_files.specs.Numbered.{described_as, IsTold, numbered_as}

-- ---- looking up

-- A handle stands for the same description, by the same number.
abbrev pub SameOpened : Type 0
SameOpened = (f : ℕ → ℕ) (t : Tables) (who : Who) (handle : Handle) → opened (numbered_as f t) who handle ≡ option_map (described_as f) (opened t who handle)

abbrev pub SameKey : Type 0
SameKey = (f : ℕ → ℕ) (t : Tables) (who : Who) (handle : Handle) → key_of (numbered_as f t) who handle ≡ key_of t who handle

-- The same descriptors are free.
abbrev pub SameFull : Type 0
SameFull = (f : ℕ → ℕ) (t : Tables) → (is_full (numbered_as f t) ≡ is_full t) × (next_descriptor (numbered_as f t) ≡ next_descriptor t)

-- A node is open exactly where the other number is.
abbrev pub SameOpen : Type 0
SameOpen = (f : ℕ → ℕ) (t : Tables) (node : ℕ) → IsTold f t node → is_open (numbered_as f t) (f node) ≡ is_open t node

-- Numbers that agree on the nodes that are open give the same tables.
abbrev pub SameWhereOpen : Type 0
SameWhereOpen = (f g : ℕ → ℕ) (t : Tables) → ((node : ℕ) → is_open t node ≡ true → f node ≡ g node) → numbered_as f t ≡ numbered_as g t

-- ---- changes

abbrev pub NothingIsOpen : Type 0
NothingIsOpen = (f : ℕ → ℕ) → numbered_as f nothing_open ≡ nothing_open

abbrev pub OpensAlike : Type 0
OpensAlike =
    (f : ℕ → ℕ) (t : Tables) (who : Who) (handle : Handle) (d : Description)
    → numbered_as f (with_opened t who handle d) ≡ with_opened (numbered_as f t) who handle (described_as f d)

abbrev pub DupsAlike : Type 0
DupsAlike =
    (f : ℕ → ℕ) (t : Tables) (who : Who) (handle : Handle) (key : ℕ) → numbered_as f (with_descriptor t who handle key) ≡ with_descriptor (numbered_as f t) who handle key

abbrev pub MovesAlike : Type 0
MovesAlike = (f : ℕ → ℕ) (t : Tables) (key offset : ℕ) → numbered_as f (with_offset t key offset) ≡ with_offset (numbered_as f t) key offset

abbrev pub ClosesAlike : Type 0
ClosesAlike = (f : ℕ → ℕ) (t : Tables) (who : Who) (handle : Handle) → numbered_as f (closed t who handle) ≡ closed (numbered_as f t) who handle

-- ---- what is open after a change

-- After `open` just the node that was opened, and those before, are open.
abbrev pub OpenOnceOpened : Type 0
OpenOnceOpened =
    (t : Tables) (who : Who) (handle : Handle) (d : Description) (node : ℕ) → is_open (with_opened t who handle d) node ≡ true → (is_open t node ≡ true) ⊎ (node ≡ d.node)

-- `dup` and the offset open and close none.
abbrev pub OpenOnceDuped : Type 0
OpenOnceDuped = (t : Tables) (who : Who) (handle : Handle) (key node : ℕ) → is_open (with_descriptor t who handle key) node ≡ is_open t node

-- After `close` no other node is open than before.
abbrev pub OpenOnceClosed : Type 0
OpenOnceClosed = (t : Tables) (who : Who) (handle : Handle) (node : ℕ) → is_open (closed t who handle) node ≡ true → is_open t node ≡ true
