-- The laws of the order of entries, each as one statement.
use Rattle.std.specs.Prelude.{◌≡◌, ◌≢◌, ℕ, List, None, IsSorted}
use Rattle.std.specs.Cmp.Lexicographic.{slice_cmp}
use Rattle.std.specs.Ordering.{nat_cmp}
use Rattle.list_laws.specs.Members.{In}
use Rattle.posix_spec.specs.posix_types.declared.call.Call.{Call}
use Rattle.posix_spec.specs.posix_types.declared.call.Mode.{Mode}
use Rattle.posix_spec.specs.posix_types.declared.call.Who.{Who}
use Rattle.posix_spec.specs.posix_types.declared.reply.Shape.{Shape}
use Rattle.posix_spec.specs.posix_types.declared.tree.TreeEntry.{TreeEntry}
use Rattle.posix_spec.specs.posix_tables.declared.nodes.DirEntry.{DirEntry}
use Rattle.posix_spec.specs.posix_tables.Lookups.{AreDistinct}
use Rattle.posix_spec.specs.posix_tables.Names.{child_of, names_in}
use Rattle.posix_spec.specs.State.{Instance, State}
use Rattle.posix_spec.specs.Step.{step_of}
use Rattle.posix_spec.specs.Tree.{start}
use Rattle.posix_laws.specs.Order.{RisingBy}
use Rattle.posix_laws.specs.Listed.{AreOnce}
use Rattle.posix_laws.specs.Orders.{AreOrdered, entry_text}

-- Whatever call an instance makes, the entries stay in order.
abbrev pub KeepsOrder : Type 0
KeepsOrder = (i : Instance) (s : State) (who : Who) (call : Call) → AreOrdered s.entries → AreOrdered (step_of i s who call).state.entries

-- The state that a tree begins as has its entries in order, where they are distinct.
abbrev pub StartsInOrder : Type 0
StartsInOrder = (t : List TreeEntry) (shape : Shape) (mode : Mode) → AreDistinct (start t shape mode).entries → RisingBy entry_text (start t shape mode).entries

-- Sorted names, none of them twice, that are just those that lead to something in a directory, are the names that `list` tells.
abbrev pub ListsSorted : Type 0
ListsSorted =
    (entries : List DirEntry) (n : ℕ) (names : List (List ℕ)) → RisingBy entry_text entries → IsSorted (slice_cmp nat_cmp) names → AreOnce names
    → ((z : List ℕ) → In z names → child_of entries n z ≢ None) → ((z : List ℕ) → child_of entries n z ≢ None → In z names) → names_in entries n ≡ names
