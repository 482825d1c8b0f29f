-- Sync mode as walks: some calls act, each whole or in part; and one way to act in part, which leads towards a tree.
use Rattle.std.specs.Prelude.{◌≡◌, ◌⊎◌, ℕ, not, ◌&&◌, ◌==◌, nat_lt, List, [], ◌∷◌, ◌++◌, length, map, Option, Some, None, slice_index, if◌then◌else◌}
use Rattle.std.specs.List.{range_with_len}
use Rattle.posix_laws.specs.posix_types.declared.tree.TreeEntry.{TreeEntry}
use Rattle.posix_laws.specs.posix_spec.Put.{Put, put_by}
use Rattle.posix_laws.specs.posix_spec.Run.{after_call, Unfinished}
use Rattle.posix_laws.specs.posix_spec.State.{State}
use Rattle.posix_laws.specs.posix_spec.Tree.{tree}
use Rattle.crash_spec.specs.Sync.{ActsInPart, file_bytes, with_bytes}

-- calls act one after the other, each whole or in part, and lead to a state of which this holds
abbrev pub PartsThen : State → List Unfinished → (State → Type 0) → Type 0
PartsThen s [] P = P s
PartsThen s (c ∷ calls) P = PartsThen (after_call s c) calls P ⊎ ((next : State) × ActsInPart s c next × PartsThen next calls P)

-- they lead to a state with this tree
abbrev pub LeadTo : State → List Unfinished → List TreeEntry → Type 0
LeadTo s calls left = PartsThen s calls (λ t. left ≡ tree t)

-- the chosen calls and some of the others do
abbrev pub SomeLead : State → List Unfinished → List Unfinished → List TreeEntry → Type 0
SomeLead s chosen [] left = LeadTo s chosen left
SomeLead s chosen (c ∷ unfinished) left = SomeLead s (chosen ++ c ∷ []) unfinished left ⊎ SomeLead s chosen unfinished left

-- Of a byte that a write may or may not change, the new value where it is wanted, and else the old one.
abbrev pub pick : List ℕ → List ℕ → List ℕ → ℕ → ℕ
pick old whole want i = if nat_lt i (length old) && not (slice_index whole i == slice_index want i) then slice_index old i else slice_index whole i

abbrev pub picked : List ℕ → List ℕ → List ℕ → List ℕ
picked old whole want = map (pick old whole want) (range_with_len 0 (length whole))

-- a call acts towards what is wanted of each node
abbrev pub put_toward : (ℕ → List ℕ) → State → State → Option Put → State
put_toward want s next None = next
put_toward want s next (Some put) = with_bytes next put.node (picked (file_bytes s put.node) (file_bytes next put.node) (want put.node))

abbrev pub toward : (ℕ → List ℕ) → State → Unfinished → State
toward want s c = put_toward want s (after_call s c) (put_by s c.0 c.1)

abbrev pub all_toward : (ℕ → List ℕ) → State → List Unfinished → State
all_toward want s [] = s
all_toward want s (c ∷ calls) = all_toward want (toward want s c) calls
