-- A list to which passes append, and what each of them appended.
use Rattle.std.specs.Prelude.{◌≡◌, ◌≤◌, ℕ, List, [], ◌++◌, drop, length, replicate, sum_by, Vec}
use Rattle.std.specs.Global.{Global}
use Rattle.ruled_turn.specs.list_laws.Numbers.{count_with}
use Rattle.thread_rows.specs.declared.entries.Own.{Own}

abbrev pub Entries : Type 0
Entries = Vec ℕ Global

-- how often the entry e stands in a list
abbrev pub times : ℕ → List ℕ → ℕ
times e list = count_with (λ k. k) e list

abbrev pub own : List ℕ → Own
own list = record { entries = list }

-- an empty list may be opened, and nobody has appended
abbrev pub Opens : Entries → ℕ → Type 0
Opens x n = x.items ≡ []

abbrev pub first_views : Entries → ℕ → List Own
first_views x n = replicate n (own [])

-- each entry stands in the list as often as passes appended it
abbrev pub Holds : Entries → List Own → Type 0
Holds x views = (e : ℕ) → times e x.items ≡ sum_by (λ v. times e v.entries) views

-- a pass may append
abbrev pub May : Own → Entries → Entries → Type 0
May v x y = (more : List ℕ) × (y.items ≡ x.items ++ more)

abbrev pub next_view : Own → Entries → Entries → Own
next_view v x y = own (v.entries ++ drop (length x.items) y.items)

-- what it appended stands in the list
abbrev pub Knows : Entries → Own → Type 0
Knows x v = (e : ℕ) → times e v.entries ≤ times e x.items
