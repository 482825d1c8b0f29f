-- What calls need, by the tables of open files and what is kept of files.
use Rattle.std.specs.Prelude.{◌≡◌, ◌+◌, ◌&&◌, nat_le, if◌then◌else◌, ℕ, Bool, length, Option, None, Some, sum_by}
use Rattle.write_plan.specs.layout_model.Places.{Geometry}
use Rattle.write_plan.specs.file_table.Files.{Files}
use Rattle.write_plan.specs.k_split_model.View.{View}
use Rattle.write_plan.specs.open_files.declared.files.opened.Opened.{Opened}
use Rattle.posix_types.specs.declared.call.Call.{Call}
use Rattle.posix_types.specs.declared.call.Mode.{Mode}
use Rattle.posix_types.specs.declared.call.Who.{Who}
use Rattle.posix_types.specs.declared.handle.Handle.{Handle}
use Rattle.posix_tables.specs.block_counts.declared.TheConstants.{LONGEST_FILE}
use Rattle.posix_tables.specs.Open.{may_write, Tables}
use Rattle.write_plan.specs.posix_spec.State.{State}
use Rattle.live_step_laws.specs.world_model.JobLaws.{needs}
use Rattle.live_step_laws.specs.live_model.Standing.{Kept, JobOut, StandsAt}
use Rattle.write_plan.specs.Asks.{need_in, start_at}

-- where a write through a handle begins, by what it stands for and the size of its file
abbrev pub start_from : Opened → ℕ → Option ℕ → ℕ
start_from o size None = if o.flags.append then size else o.offset
start_from o size (Some place) = place

-- what a write of so many bytes needs through a handle: nothing where it may not write, or would end behind the longest file
abbrev pub need_through : Mode → Tables → Files → Who → Handle → Option ℕ → ℕ → ℕ
need_through mode t files who h at len =
    if may_write t who h && nat_le (start_at t files who h at + len) LONGEST_FILE then need_in mode t files who h at len else 0

-- other calls need nothing
abbrev pub need_by : Mode → Tables → Files → Who → Call → ℕ
need_by mode t files who (Call.Write h x) = need_through mode t files who h None (length x)
need_by mode t files who (Call.Pwrite h place x) = need_through mode t files who h (Some place) (length x)
need_by mode t files who call = 0

-- THE JOBS THAT ARE OUT need together what their calls do.
abbrev pub JobsNeed : Type 0
JobsNeed =
    (g : Geometry) (k : View) (t : Tables) (kept : Kept) (lines : Bool) (n : ℕ) (s : State) → (stands : StandsAt g k t kept lines n s)
    → sum_by (λ (p : JobOut). need_by s.mode t kept.files p.who p.call) kept.pending ≡ needs s stands.jobs
