-- Which file a call waits for.
use Rattle.std.specs.Prelude.{◌≡◌, ℕ, false, List, Option, Some, None, option_map, Result, refl}
use Rattle.std.proofs.Common.{sym, subst}
use Rattle.live_model.specs.k_split_model.View.{View}
use Rattle.live_model.specs.k_split.Looks.{IsFound}
use Rattle.posix_types.specs.declared.call.Call.{Call}
use Rattle.posix_types.specs.declared.call.Who.{Who}
use Rattle.posix_types.specs.declared.handle.Handle.{Handle}
use Rattle.posix_types.specs.declared.reply.Errno.{Errno}
use Rattle.open_files.specs.posix_tables.declared.open.Description.{Description}
use Rattle.open_files.specs.posix_tables.Open.{opened, Tables}
use Rattle.open_files.specs.posix_spec.State.{State}
use Rattle.open_files.specs.crash_spec.Busy.{handle_node, is_busy, path_node, waits_for}
use Rattle.live_model.specs.Standing.{JobOut}
use Rattle.in_flight.specs.Busy.{files_by, found_ino, HoldsFile, IsKeeping, IsKept, IsNodeOf, WaitsForFile}
use Rattle.in_flight.proofs.Waiting.{handle_waits, idle_file, idle_none, kept_waiting, path_waits}

pub by_handle : (k : View) (t : Tables) (who : Who) (h : Handle) (call : Call) (r : Option ℕ) → r ≡ option_map (λ (d : Description). d.node) (opened t who h)
    → ((s : State) → waits_for s (who, call) ≡ handle_node s who h) → WaitsForFile who call k t r
by_handle k t who h call r is waits g kept n s stands =
    subst (IsNodeOf stands.numbers k r) (sym (waits s))
    (subst (λ o. IsNodeOf stands.numbers k o (handle_node s who h)) (sym is) (handle_waits g k t kept _ n s stands who h (opened t who h) refl))

pub by_path : (k : View) (t : Tables) (who : Who) (p : List (List ℕ)) (call : Call) (r : Option ℕ) → (found : Result ℕ Errno) × IsFound k.volume p found × (r ≡ found_ino found)
    → ((s : State) → waits_for s (who, call) ≡ path_node s p) → WaitsForFile who call k t r
by_path k t who p call r is waits g kept n s stands =
    subst (IsNodeOf stands.numbers k r) (sym (waits s))
    (subst (λ o. IsNodeOf stands.numbers k o (path_node s p)) (sym is.2) (path_waits g k t kept _ n s stands p is.0 is.1))

pub by_none : (k : View) (t : Tables) (who : Who) (call : Call) → ((s : State) → waits_for s (who, call) ≡ None) → WaitsForFile who call k t None
by_none k t who call waits g kept n s stands = waits s

-- ---- whether a job keeps it waiting

pub kept_none : (k : View) (t : Tables) (who : Who) (call : Call) (pending : List JobOut) → WaitsForFile who call k t None → IsKept who call k t pending None
kept_none k t who call pending waits g kept n s stands same =
    subst (λ (ps : List JobOut). is_busy s (files_by s ps) (who, call) ≡ false) same (idle_none g k t kept _ n s stands who call (waits g kept n s stands))

pub kept_by_none : (k : View) (t : Tables) (who : Who) (call : Call) (pending : List JobOut) (ino : ℕ) → WaitsForFile who call k t (Some ino) → HoldsFile pending ino who None → IsKept who call k t pending None
kept_by_none k t who call pending ino waits holds g kept n s stands same =
    subst (λ (ps : List JobOut). is_busy s (files_by s ps) (who, call) ≡ false) same
    (idle_file g k t kept _ n s stands who call ino (waits g kept n s stands) (subst (λ (ps : List JobOut). HoldsFile ps ino who None) (sym same) holds))

pub kept_by : (k : View) (t : Tables) (who : Who) (call : Call) (pending : List JobOut) (ino : ℕ) (holder : Who) → WaitsForFile who call k t (Some ino) → HoldsFile pending ino who (Some holder) → IsKept who call k t pending (Some (ino, holder))
kept_by k t who call pending ino holder waits holds g kept n s stands same =
    subst (λ (ps : List JobOut). IsKeeping s ps who call ino holder) same
    (kept_waiting g k t kept _ n s stands who call ino holder (waits g kept n s stands) (subst (λ (ps : List JobOut). HoldsFile ps ino who (Some holder)) (sym same) holds))
