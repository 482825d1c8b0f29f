-- What a write asks for by numbers is what its call does.
use Rattle.std.proofs.Common.{◌≡◌, ◌+◌, ◌||◌, not, ◌∷◌, [], ℕ, zero, suc, Bool, true, false, List, length, Option, Some, None, refl, arith, ap, ◌∙◌, sym}
use Rattle.std.specs.Prelude.{if◌then◌else◌, option_map, slice_get, slice_set, unwrap_or}
use Rattle.std.specs.List.{list_any}
use Rattle.std.specs.Option.{option_flatten, option_map_or}
use Rattle.file_table.specs.Files.{Files, size_in}
use Rattle.open_files.specs.Numbered.{described_as, numbered_as}
use Rattle.open_files.proofs.Changes.{moves_alike}
use Rattle.open_files.proofs.Lookups.{same_key, same_opened}
use Rattle.open_files.specs.posix_laws.RowLaws.{put_at-Some, rows-from_Accepts}
use Rattle.open_files.specs.commute_laws.Bystanders.{is_open-Opens}
use Rattle.open_files.specs.commute_laws.Handles.{Opens-opened}
use Rattle.posix_types.specs.declared.call.Call.{Call}
use Rattle.posix_types.specs.declared.call.Mode.{Mode}
use Rattle.posix_types.specs.declared.call.Who.{Who}
use Rattle.posix_types.specs.declared.handle.Handle.{Handle}
use Rattle.posix_types.specs.declared.item.Outcome.{Outcome}
use Rattle.posix_tables.specs.declared.open.Description.{Description}
use Rattle.posix_tables.specs.Nodes.{bytes_of, node_at}
use Rattle.posix_tables.specs.Open.{describes, is_open, key_of, may_write, opened, Tables, with_offset}
use Rattle.posix_tables.specs.Outcomes.{first}
use Rattle.posix_tables.specs.Room.{write_need}
use Rattle.open_files.specs.posix_spec.FileRows.{appends, content, file_number, offset_of, write_rows, write_start}
use Rattle.open_files.specs.posix_spec.Put.{put_by}
use Rattle.open_files.specs.posix_spec.State.{alone, room, State, with_file}
use Rattle.open_files.specs.posix_spec.Step.{pwrite_done, stepped, write_done, written}
use Rattle.write_plan.specs.Rows.{write_row_by, WritesByRow}
use Rattle.write_plan.specs.Asks.{room_in, row_in, start_at, start_in}
use Rattle.write_plan.specs.AsksLaws.{AreOfState, MayMove, MovesAsCall, NeedsAsCall, OpensNothing, RowsAsCall, start_of, StartsAsCall}

-- what a handle stands for is open
pub handle_open : (t : Tables) (who : Who) (h : Handle) (d : Description) → opened t who h ≡ Some d → is_open t d.node ≡ true
handle_open t who h d is = let o = Opens-opened t who h d is in is_open-Opens t who h o.0 d.node d o.1 refl

-- ---- an offset that moves opens and closes nothing

described_still : (node : ℕ) (slots : List (Option Description)) (key : ℕ) (d : Description) (offset : ℕ) → option_flatten (slice_get slots key) ≡ Some d
    → list_any (describes node) (slice_set slots key (Some (record d { offset = offset }))) ≡ list_any (describes node) slots
described_still node [] key d offset is = refl
described_still node (slot ∷ slots) zero d offset is = ap (λ x. describes node x || list_any (describes node) slots) (sym is)
described_still node (slot ∷ slots) (suc key) d offset is = ap (λ b. describes node slot || b) (described_still node slots key d offset is)

pub open_once_moved : (t : Tables) (key offset node : ℕ) → is_open (with_offset t key offset) node ≡ is_open t node
unfolding with_offset
open_once_moved t key offset node = by (option_flatten (slice_get t.descriptions key)) refl where
  by : (o : Option Description) → option_flatten (slice_get t.descriptions key) ≡ o → is_open (with_offset t key offset) node ≡ is_open t node
  by None is = rw is refl
  by (Some d) is = rw is (described_still node t.descriptions key d offset is)

pub open_moved : OpensNothing
open_moved t files who (Call.Write h x) node = open_once_moved t (unwrap_or (key_of t who h) 0) (start_in t files who h + length x) node
open_moved t files who call node = refl

-- ---- the tables behind a write

tables_write : (s : State) (who : Who) (h : Handle) (x : List ℕ) (o : Option Outcome) → o ≡ None
    → (stepped s o (write_done alone s who h x)).state.tables ≡ with_offset s.tables (unwrap_or (key_of s.tables who h) 0) (write_start s who h + length x)
unfolding write_done written with_file
tables_write s who h x (Some outcome) none = let never : Some outcome ≡ None = none in cc
tables_write s who h x None none = refl

tables_pwrite : (s : State) (who : Who) (h : Handle) (start : ℕ) (x : List ℕ) (o : Option Outcome) → o ≡ None → (stepped s o (pwrite_done alone s who h start x)).state.tables ≡ s.tables
unfolding pwrite_done written with_file
tables_pwrite s who h start x (Some outcome) none = let never : Some outcome ≡ None = none in cc
tables_pwrite s who h start x None none = refl

-- a handle that may write is known
known_of : (f : ℕ → ℕ) (o : Option Description) → option_map_or (λ x. x.flags.write) (option_map (described_as f) o) false ≡ true → (d : Description) × (o ≡ Some d)
known_of f None may = cc
known_of f (Some d) may = (d, refl)

module _ (s : State) (f : ℕ → ℕ) (t : Tables) (files : Files) (of_state : AreOfState s f t files) (who : Who) (h : Handle) where
  there : opened s.tables who h ≡ option_map (described_as f) (opened t who h)
  there = ap (λ x. opened x who h) of_state.tables ∙ same_opened f t who h

  pub known : may_write s.tables who h ≡ true → (d : Description) × (opened t who h ≡ Some d)
  known may = known_of f (opened t who h) (ap (λ (o : Option Description). option_map_or (λ x. x.flags.write) o false) (sym there) ∙ may)

  module _ (d : Description) (is : opened t who h ≡ Some d) where
    there_some : opened s.tables who h ≡ Some (described_as f d)
    there_some = there ∙ ap (option_map (described_as f)) is

    length_is : length (content s who h) ≡ size_in files (file_number t who h)
    length_is =
        ap (λ (o : Option Description). length (bytes_of (node_at s.nodes (option_map_or (λ x. x.node) o 0)))) there_some
        ∙ of_state.sizes d.node (handle_open t who h d is)
        ∙ ap (size_in files) (ap (λ (o : Option Description). option_map_or (λ x. x.node) o 0) (sym is))

    appends_is : appends s.tables who h ≡ appends t who h
    appends_is =
        ap (λ (o : Option Description). option_map_or (λ x. x.flags.append) o false) there_some
        ∙ ap (λ (o : Option Description). option_map_or (λ x. x.flags.append) o false) (sym is)

    offset_is : offset_of s.tables who h ≡ offset_of t who h
    offset_is =
        ap (λ (o : Option Description). option_map_or (λ x. x.offset) o 0) there_some
        ∙ ap (λ (o : Option Description). option_map_or (λ x. x.offset) o 0) (sym is)

    pub start_is : write_start s who h ≡ start_in t files who h
    start_is = λ i. if appends_is i then length_is i else offset_is i

    pub moved_is : (len : ℕ) → with_offset s.tables (unwrap_or (key_of s.tables who h) 0) (write_start s who h + len) ≡ numbered_as f (with_offset t (unwrap_or (key_of t who h) 0) (start_in t files who h + len))
    moved_is len =
        (λ i. with_offset (of_state.tables i) (unwrap_or (key_is i) 0) (start_is i + len))
        ∙ sym (moves_alike f t (unwrap_or (key_of t who h) 0) (start_in t files who h + len)) where
          key_is : key_of s.tables who h ≡ key_of t who h
          key_is = ap (λ x. key_of x who h) of_state.tables ∙ same_key f t who h

-- ---- the laws

pub starts_as_call : StartsAsCall
starts_as_call s f t files who h None of_state may = let d = known s f t files of_state who h may in start_is s f t files of_state who h d.0 d.1
starts_as_call s f t files who h (Some place) of_state may = refl

pub needs_as_call : NeedsAsCall
needs_as_call s f t files who h None x of_state may =
    let d = known s f t files of_state who h may in
    λ i. write_need s.mode (length_is s f t files of_state who h d.0 d.1 i) (start_is s f t files of_state who h d.0 d.1 i) (start_is s f t files of_state who h d.0 d.1 i + length x)
needs_as_call s f t files who h (Some place) x of_state may =
    let d = known s f t files of_state who h may in
    λ i. write_need s.mode (length_is s f t files of_state who h d.0 d.1 i) place (place + length x)

-- the rows of the call, by numbers
by_row : WritesByRow
unfolding write_rows
by_row s who h start x = refl

-- a handle that may not write
shut_row : (mode : Mode) (may : Bool) (start len size left start2 size2 left2 : ℕ) → may ≡ false → write_row_by mode may start len size left ≡ write_row_by mode may start2 len size2 left2
shut_row mode true start len size left start2 size2 left2 shut = cc
shut_row mode false start len size left start2 size2 left2 shut = refl

pub rows_as_call : RowsAsCall
rows_as_call s f t files who h at x data_blocks of_state left = by_row s who h (start_of s who h at) x ∙ by (may_write s.tables who h) refl where
  may_is : may_write s.tables who h ≡ may_write t who h
  may_is = ap (λ (o : Option Description). option_map_or (λ (d : Description). d.flags.write) o false) (there s f t files of_state who h) ∙ same (opened t who h) where
    same : (o : Option Description) → option_map_or (λ (d : Description). d.flags.write) (option_map (described_as f) o) false ≡ option_map_or (λ (d : Description). d.flags.write) o false
    same None = refl
    same (Some d) = refl

  by : (b : Bool) → may_write s.tables who h ≡ b → write_row_by s.mode (may_write s.tables who h) (start_of s who h at) (length x) (length (content s who h)) (room s) ≡ row_in s.mode t files who h at (length x) data_blocks
  by true may =
      let d = known s f t files of_state who h may in
      let start = starts_as_call s f t files who h at of_state may in
      λ i. write_row_by s.mode (may_is i) (start i) (length x) (length_is s f t files of_state who h d.0 d.1 i) (left i)
  by false shut =
      shut_row s.mode (may_write s.tables who h) (start_of s who h at) (length x) (length (content s who h)) (room s) (start_at t files who h at) (size_in files (file_number t who h)) (room_in data_blocks files) shut
      ∙ ap (λ b. write_row_by s.mode b (start_at t files who h at) (length x) (size_in files (file_number t who h)) (room_in data_blocks files)) may_is

pub moves_as_call : MovesAsCall
unfolding put_by
moves_as_call s f t files who (Call.Write h x) p of_state is =
    let says = put_at-Some s who h (write_start s who h) x p is in
    let d = known s f t files of_state who h says.0.may_write in
    tables_write s who h x (first (write_rows s who h (write_start s who h) x)) (rows-from_Accepts s who h (write_start s who h) x says.0)
    ∙ moved_is s f t files of_state who h d.0 d.1 (length x)
moves_as_call s f t files who (Call.Pwrite h start x) p of_state is =
    let says = put_at-Some s who h start x p is in
    tables_pwrite s who h start x (first (write_rows s who h start x)) (rows-from_Accepts s who h start x says.0) ∙ of_state.tables
moves_as_call s f t files who call p of_state is = cc

pub may_move : MayMove
unfolding put_by
may_move s f t files who (Call.Write h x) p of_state below is =
    let says = put_at-Some s who h (write_start s who h) x p is in
    let d = known s f t files of_state who h says.0.may_write in
    record {
      file = d.0;
      known = d.1;
      below = below d.0.node (handle_open t who h d.0 d.1);
      fits = omega (arith, says.0.end, start_is s f t files of_state who h d.0 d.1);
    }
may_move s f t files who (Call.Pwrite h start x) p of_state below is = tt
may_move s f t files who call p of_state below is = cc
