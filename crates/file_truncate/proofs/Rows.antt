-- The rows of a `truncate` by numbers are those of the state.
use Rattle.std.specs.Prelude.{◌≡◌, ◌-◌, ℕ, Bool, true, false, length, Option, Some, None, option_map, sum_by, refl}
use Rattle.std.specs.Option.{option_map_or}
use Rattle.std.proofs.Common.{ap, ◌∙◌}
use Rattle.in_place.specs.block_counts.Counts.{held_by, reserve_for}
use Rattle.in_place.specs.layout_model.Places.{data_blocks, Geometry}
use Rattle.in_place.specs.write_plan.file_table.Files.{Files, size_in}
use Rattle.in_place.specs.write_plan.k_split_model.View.{View}
use Rattle.in_place.specs.open_files.Numbered.{described_as}
use Rattle.posix_types.specs.declared.call.Call.{Call}
use Rattle.posix_types.specs.declared.call.Who.{Who}
use Rattle.posix_types.specs.declared.handle.Handle.{Handle}
use Rattle.posix_types.specs.declared.item.Outcome.{Outcome}
use Rattle.posix_types.specs.declared.reply.Errno.{Errno}
use Rattle.posix_types.specs.declared.reply.Reply.{Reply}
use Rattle.posix_tables.specs.declared.open.Description.{Description}
use Rattle.posix_tables.specs.Nodes.{bytes_of, node_at}
use Rattle.posix_tables.specs.Open.{may_write, opened, Tables}
use Rattle.posix_tables.specs.Outcomes.{answer, first}
use Rattle.in_place.specs.write_plan.posix_spec.FileRows.{content, truncate_rows}
use Rattle.in_place.specs.write_plan.posix_spec.State.{room, State}
use Rattle.in_place.specs.write_plan.posix_spec.Step.{step, stepped, truncate_done}
use Rattle.in_place.specs.write_plan.crash_spec.Busy.{waits_for}
use Rattle.in_place.proofs.write_plan_proofs.Numbers.{length_at}
use Rattle.in_place.specs.write_plan.Numbers.{RoomIsKept}
use Rattle.in_place.specs.write_plan.Rows.{truncate_row_by}
use Rattle.file_calls.specs.live_step_laws.world_model.Stands.{number}
use Rattle.file_calls.specs.live_step_laws.live_model.Standing.{Kept}
use Rattle.file_calls.specs.Runs.{RunsAs}
use Rattle.file_calls.proofs.CloseCalls.{handle_open, handle_there}

-- how much room all files leave
abbrev pub room_left : View → Files → ℕ
room_left k f = data_blocks k.volume.geometry - reserve_for (data_blocks k.volume.geometry) - sum_by held_by f.sizes

-- by equal numbers
pub row_same : (may : Bool) (size a b x y : ℕ) → a ≡ b → x ≡ y → truncate_row_by may size a x ≡ truncate_row_by may size b y
row_same may size a b x y first second = λ i. truncate_row_by may size (first i) (second i)

pub room_same : (k : View) (f : Files) (left blocks sum : ℕ) → left ≡ blocks - reserve_for blocks - sum → blocks ≡ data_blocks k.volume.geometry → sum ≡ sum_by held_by f.sizes → left ≡ room_left k f
room_same k f left blocks sum is blocks_are sum_is = is ∙ (λ i. blocks_are i - reserve_for (blocks_are i) - sum_is i)

rows_by : (s : State) (who : Who) (h : Handle) (size : ℕ) → first (truncate_rows s who h size) ≡ truncate_row_by (may_write s.tables who h) size (length (content s who h)) (room s)
unfolding truncate_rows
rows_by s who h size = refl

-- a handle that stands for nothing
pub unknown_row : (g : Geometry) (k : View) (t : Tables) (x : Kept) (n : ℕ) (s : State) (runs : RunsAs g k t x n s) (who : Who) (h : Handle) (size : ℕ) → opened t who h ≡ None
    → first (truncate_rows s who h size) ≡ Some (answer (Reply.Error Errno.EBADF))
unknown_row g k t x n s runs who h size none =
    rows_by s who h size
    ∙ ap (λ (o : Option Description). truncate_row_by (option_map_or (λ z. z.flags.write) o false) size (length (content s who h)) (room s)) (handle_there g k t x n s runs who h None none)

module _ (g : Geometry) (k : View) (t : Tables) (x : Kept) (n : ℕ) (s : State) (runs : RunsAs g k t x n s) (who : Who) (h : Handle) (d : Description) (known : opened t who h ≡ Some d) where
  there : opened s.tables who h ≡ Some (described_as (number runs.numbers) d)
  there = handle_there g k t x n s runs who h (Some d) known

  pub content_long : length (content s who h) ≡ size_in x.files d.node
  content_long =
      ap (λ (o : Option Description). length (bytes_of (node_at s.nodes (option_map_or (λ z. z.node) o 0)))) there
      ∙ length_at g k t x s runs d.node (handle_open t who h d known)

  pub waits : (size : ℕ) → waits_for s (who, Call.Truncate h size) ≡ Some (number runs.numbers d.node)
  unfolding waits_for
  waits size = ap (option_map (λ (z : Description). z.node)) there

  pub room_is : RoomIsKept → room s ≡ room_left k x.files
  room_is kept = kept g k t x true n s runs

  pub row_is : RoomIsKept → (size : ℕ) → first (truncate_rows s who h size) ≡ truncate_row_by d.flags.write size (size_in x.files d.node) (room_left k x.files)
  row_is kept size =
      rows_by s who h size
      ∙ (λ i. truncate_row_by (option_map_or (λ z. z.flags.write) (there i) false) size (content_long i) (room_is kept i))

-- ---- its step

pub step_refused : (s : State) (who : Who) (h : Handle) (size : ℕ) (o : Outcome) → first (truncate_rows s who h size) ≡ Some o → step s who (Call.Truncate h size) ≡ record { state = s; outcome = o }
step_refused s who h size o is = ap (λ z. stepped s z (truncate_done s who h size)) is

pub step_done : (s : State) (who : Who) (h : Handle) (size : ℕ) → first (truncate_rows s who h size) ≡ None → step s who (Call.Truncate h size) ≡ truncate_done s who h size
step_done s who h size none = ap (λ z. stepped s z (truncate_done s who h size)) none

pub outcome_done : (s : State) (who : Who) (h : Handle) (size : ℕ) → (truncate_done s who h size).outcome ≡ answer Reply.Ok
unfolding truncate_done
outcome_done s who h size = refl
