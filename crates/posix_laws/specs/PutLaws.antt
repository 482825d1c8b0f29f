-- What an accepted write leaves.
use Rattle.std.specs.Prelude.{◌≡◌, ℕ, List, Option, Some, None, refl}
use Rattle.std.proofs.Common.{subst}
use Rattle.posix_spec.specs.posix_types.declared.call.Call.{Call}
use Rattle.posix_spec.specs.posix_types.declared.call.Who.{Who}
use Rattle.posix_spec.specs.posix_types.declared.handle.Handle.{Handle}
use Rattle.posix_spec.specs.posix_types.declared.item.Outcome.{Outcome}
use Rattle.posix_spec.specs.posix_tables.Bytes.{overwritten}
use Rattle.posix_spec.specs.posix_tables.Outcomes.{first}
use Rattle.posix_spec.specs.FileRows.{content, file_number, write_rows, write_start}
use Rattle.posix_spec.specs.Put.{Put, put_by}
use Rattle.posix_spec.specs.State.{alone, State, with_file}
use Rattle.posix_spec.specs.Step.{pwrite_done, step, stepped, write_done, written}
use Rattle.posix_laws.specs.RowLaws.{put_at-Some, rows-from_Accepts}
use Rattle.posix_laws.specs.Puts.{LeavesWhole, put_bytes, PutsWhole}

leaves_write : (s : State) (who : Who) (h : Handle) (x : List ℕ) (o : Option Outcome) → o ≡ None
    → LeavesWhole s (stepped s o (write_done alone s who h x)).state (file_number s.tables who h) (overwritten (content s who h) (write_start s who h) x)
unfolding write_done written with_file
leaves_write s who h x (Some outcome) none = let never : Some outcome ≡ None = none in cc
leaves_write s who h x None none = record { entries = refl; shape = refl; mode = refl; nodes = refl }

leaves_pwrite : (s : State) (who : Who) (h : Handle) (start : ℕ) (x : List ℕ) (o : Option Outcome) → o ≡ None
    → LeavesWhole s (stepped s o (pwrite_done alone s who h start x)).state (file_number s.tables who h) (overwritten (content s who h) start x)
unfolding pwrite_done written with_file
leaves_pwrite s who h start x (Some outcome) none = let never : Some outcome ≡ None = none in cc
leaves_pwrite s who h start x None none = record { entries = refl; shape = refl; mode = refl; nodes = refl }

-- a call that puts something leaves just that
pub LeavesWhole-put : (s : State) (who : Who) (call : Call) (p : Put) → put_by s who call ≡ Some p → LeavesWhole s (step s who call).state p.node (put_bytes s p)
unfolding put_by
LeavesWhole-put s who (Call.Write h x) p is =
    let says = put_at-Some s who h (write_start s who h) x p is in
    let none = rows-from_Accepts s who h (write_start s who h) x says.0 in
    subst (λ (q : Put). LeavesWhole s (step s who (Call.Write h x)).state q.node (put_bytes s q)) says.1
    (leaves_write s who h x (first (write_rows s who h (write_start s who h) x)) none)
LeavesWhole-put s who (Call.Pwrite h start x) p is =
    let says = put_at-Some s who h start x p is in
    let none = rows-from_Accepts s who h start x says.0 in
    subst (λ (q : Put). LeavesWhole s (step s who (Call.Pwrite h start x)).state q.node (put_bytes s q)) says.1
    (leaves_pwrite s who h start x (first (write_rows s who h start x)) none)
LeavesWhole-put s who call p is = cc

-- and a call that puts whole bytes leaves those
pub LeavesWhole-step : (s : State) (who : Who) (call : Call) (node : ℕ) (whole : List ℕ) → PutsWhole s who call node whole → LeavesWhole s (step s who call).state node whole
LeavesWhole-step s who call node whole puts =
    subst (λ n. LeavesWhole s (step s who call).state n whole) puts.node_is
    (subst (λ bytes. LeavesWhole s (step s who call).state puts.put.node bytes) puts.whole_is (LeavesWhole-put s who call puts.put puts.is))
