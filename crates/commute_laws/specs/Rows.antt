-- A worked row: two threads write to two files, both writes stand in flight together, and a third thread calls meanwhile.
use Rattle.std.specs.Prelude.{ℕ, ◌+◌, true, false, List, [], ◌∷◌, ◌++◌, map, refl}
use Rattle.std.proofs.Common.{arith, lit≤}
use Rattle.crash_spec.specs.posix_laws.posix_types.declared.call.Call.{Call}
use Rattle.crash_spec.specs.posix_laws.posix_types.declared.call.Mode.{Mode}
use Rattle.crash_spec.specs.posix_laws.posix_types.declared.call.Who.{Who}
use Rattle.crash_spec.specs.posix_laws.posix_types.declared.handle.Flags.{Flags}
use Rattle.crash_spec.specs.posix_laws.posix_types.declared.handle.Handle.{Handle}
use Rattle.crash_spec.specs.posix_laws.posix_tables.Open.{binding_of, key_of, opened, with_binding, with_descriptor, with_opened}
use Rattle.crash_spec.specs.posix_laws.posix_spec.FileRows.{write_rows}
use Rattle.crash_spec.specs.posix_laws.posix_spec.Put.{put_by}
use Rattle.crash_spec.specs.posix_laws.posix_spec.Run.{after_call, after_calls, Unfinished}
use Rattle.crash_spec.specs.posix_laws.posix_spec.State.{made, State}
use Rattle.crash_spec.specs.posix_laws.posix_spec.Step.{open_done, opening}
use Rattle.crash_spec.specs.Busy.{waits_for}
use Rattle.crash_spec.specs.posix_laws.posix_types.declared.tree.TreeEntry.{TreeEntry}
use Rattle.crash_spec.specs.Strict.{StrictFrom}
use Rattle.crash_spec.specs.posix_laws.posix_spec.Tree.{bare, default_shape}
use Rattle.crash_spec.specs.posix_laws.posix_tables.NameRows.{open_rows}
use Rattle.crash_spec.specs.posix_laws.posix_tables.Names.{node_at_path, walk, with_entry}
use Rattle.crash_spec.specs.posix_laws.Views.{AreAfforded}
use Rattle.commute_laws.specs.Needs.{AreInFlight, unfinished_call, Flight, LetsAllBe}
use Rattle.commute_laws.specs.Orders.{AreTwoEach, StrictFrom-last}

-- a file each, opened by two threads in strict mode
abbrev handle : Handle
handle = record { len = 1; bytes = 104 ∷ 0 ∷ 0 ∷ 0 ∷ 0 ∷ 0 ∷ 0 ∷ 0 ∷ [] }

abbrev flags : Flags
flags = record { read = true; write = true; append = false; create = true; exclusive = false; truncate = false }

abbrev opens : ℕ → Unfinished
opens n = (Who.Thread n, Call.Open handle (((97 + n) ∷ []) ∷ []) flags)

abbrev opened_both : State
opened_both = after_calls (bare default_shape Mode.Strict) (opens 0 ∷ opens 1 ∷ [])

-- each writes a byte
abbrev writes : ℕ → Flight
writes n = record { begun = (Who.Thread n, Call.Write handle (7 ∷ [])); node = n + 1; whole = 7 ∷ [] }

pub both-InFlight : AreInFlight opened_both (writes 0 ∷ writes 1 ∷ [])
unfolding put_by write_rows opened key_of binding_of with_binding with_descriptor with_opened open_done opening made open_rows walk node_at_path with_entry
both-InFlight = (
  record { puts = record { put = record { node = 1; place = 0; bytes = 7 ∷ [] }; is = refl; node_is = refl; whole_is = refl }; file = record { bytes = []; published = 0 }; is = refl },
  (record { puts = record { put = record { node = 2; place = 0; bytes = 7 ∷ [] }; is = refl; node_is = refl; whole_is = refl }; file = record { bytes = []; published = 0 }; is = refl }, tt),
)

-- they are two writes of two files, and find room together
pub both-AreTwoEach : AreTwoEach (writes 0 ∷ writes 1 ∷ [])
both-AreTwoEach = ((record { threads = record { other = refl; thread = refl; own = refl }; files = λ same. absurd (omega (arith, same)) }, tt), (tt, tt))

pub both-AreAfforded : AreAfforded opened_both (map unfinished_call (writes 0 ∷ writes 1 ∷ []))
unfolding opened key_of binding_of with_binding with_descriptor with_opened open_done opening made open_rows walk node_at_path with_entry
both-AreAfforded = lit≤ tt

-- a directory that a third thread makes meanwhile takes no block and lets the files be, so the three may be left in any of
-- the ways that the order of their beginning allows
abbrev third : Unfinished
third = (Who.Thread 2, Call.Mkdir ((100 ∷ []) ∷ []))

pub third-LetsAllBe : LetsAllBe opened_both third (writes 0 ∷ writes 1 ∷ [])
unfolding waits_for
third-LetsAllBe = (
  record { threads = record { other = refl; thread = refl; own = refl }; aside = λ waits. cc },
  (record { threads = record { other = refl; thread = refl; own = refl }; aside = λ waits. cc }, tt),
)

pub third-stands_last : (left : List TreeEntry)
    → StrictFrom (after_call opened_both third) (map unfinished_call (writes 0 ∷ writes 1 ∷ [])) left
    → StrictFrom opened_both (map unfinished_call (writes 0 ∷ writes 1 ∷ []) ++ third ∷ []) left
third-stands_last left strict = StrictFrom-last opened_both third (writes 0 ∷ writes 1 ∷ []) left both-InFlight both-AreTwoEach third-LetsAllBe (omega (arith, both-AreAfforded)) strict
