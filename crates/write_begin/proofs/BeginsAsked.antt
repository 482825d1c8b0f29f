-- A write that no row refuses, and that finds room, goes to its target.
use Rattle.std.specs.Prelude.{◌≡◌, ◌≤◌, ◌+◌, ◌-◌, ℕ, true, List, [], ◌∷◌, length, drop, Option, None, Some, option_map, refl}
use Rattle.std.specs.Option.{option_map_or}
use Rattle.std.proofs.Common.{arith, ap, ◌∙◌, sym, subst, inl, inr}
use Rattle.write_plan.specs.pm_model.ImageLaws.{IsImage-words_of}
use Rattle.write_plan.specs.pm_model.Images.{words_of}
use Rattle.write_plan.specs.crash_spec.Busy.{handle_node, waits_for}
use Rattle.write_plan.specs.layout_model.Places.{data_blocks}
use Rattle.write_plan.specs.image_model.Volume.{Volume}
use Rattle.write_plan.specs.eof_laws.Ends.{FilesEnd}
use Rattle.write_plan.specs.file_table.Files.{Files, size_in}
use Rattle.write_plan.specs.k_split_model.View.{View}
use Rattle.write_plan.specs.list_laws.Members.{In}
use Rattle.write_plan.proofs.open_files_proofs.Lookups.{same_opened}
use Rattle.write_plan.specs.open_files.Numbered.{described_as}
use Rattle.posix_types.specs.declared.call.Mode.{Mode}
use Rattle.posix_types.specs.declared.call.Who.{Who}
use Rattle.posix_types.specs.declared.handle.Handle.{Handle}
use Rattle.posix_tables.specs.declared.open.Description.{Description}
use Rattle.posix_tables.specs.Open.{is_open, may_write, opened, Tables}
use Rattle.posix_tables.specs.Outcomes.{first}
use Rattle.posix_tables.specs.Room.{write_need}
use Rattle.write_plan.specs.posix_laws.RowLaws.{Accepts-from_rows}
use Rattle.live_step_laws.specs.commute_laws.Frames.{AreThreads, LeavesAlone}
use Rattle.live_step_laws.specs.commute_laws.Handles.{same_who-sym}
use Rattle.write_plan.specs.posix_laws.Views.{need_of}
use Rattle.write_plan.specs.posix_spec.FileRows.{file_number, write_rows, write_start}
use Rattle.write_plan.specs.posix_spec.Put.{Put, put_by, put_unless}
use Rattle.write_plan.specs.posix_spec.Run.{Unfinished}
use Rattle.write_plan.specs.posix_spec.State.{room, State}
use Rattle.live_step_laws.specs.staging_files.Keeps.{Staged}
use Rattle.live_step_laws.specs.world_model.JobLaws.{needs}
use Rattle.live_step_laws.specs.world_model.Jobs.{Job}
use Rattle.live_step_laws.specs.world_model.Stands.{number}
use Rattle.live_step_laws.specs.world_step_laws.Steps.{LetsJobsBe}
use Rattle.write_plan.proofs.Calls.{handle_open}
use Rattle.write_plan.specs.declared.asks.asking.Target.{Target}
use Rattle.write_plan.specs.Asks.{IsTarget, need_in, room_in, row_in, start_at}
use Rattle.write_plan.specs.AsksLaws.{AreOfState, call_of, NeedsAsCall, RowsAsCall, start_of, StartsAsCall}
use Rattle.write_plan.specs.Numbers.{RoomIsKept, StandsAsKept}
use Rattle.write_begin.specs.Stages.{with_parts}
use Rattle.write_begin.specs.Begins.{Found}
use Rattle.write_begin.specs.Goes.{FitsTarget, Goes, HasRoom}
use Rattle.write_begin.proofs.Spared.{job_of_pending}

-- ---- jobs that are out

-- the call lets each of them be
pub lets_one : (s : State) (c : Unfinished) (numbers : List ℕ) (jobs : List Job) → LetsJobsBe s c numbers jobs → (j : Job) → In j jobs → AreThreads j.who c.0 × LeavesAlone s c (number numbers j.draft.ino)
lets_one s c numbers [] lets j is = absurd is
lets_one s c numbers (i ∷ jobs) lets j (inl same) =
    subst (λ (y : Job). AreThreads y.who c.0 × LeavesAlone s c (number numbers y.draft.ino)) same (lets.0.threads, lets.0.aside)
lets_one s c numbers (i ∷ jobs) lets j (inr behind) = lets_one s c numbers jobs lets.1 j behind

-- two callers, either way
pub turned : (a b : Who) → AreThreads a b → AreThreads b a
turned a b threads = record {
  other = same_who-sym a b ∙ threads.other;
  thread = same_who-sym a Who.Setup ∙ threads.own;
  own = same_who-sym Who.Setup b ∙ threads.thread;
}

-- ---- room

module _ (mode : Mode) (t : Tables) (files : Files) (who : Who) (h : Handle) (at : Option ℕ) (len : ℕ) (target : Target) (is : IsTarget t files who h at len target) where
  own_size : target.size ≡ size_in files (file_number t who h)
  own_size = is.size_is ∙ ap (size_in files) (is.ino_is ∙ sym (ap (λ (o : Option Description). option_map_or (λ d. d.node) o 0) is.known))

  own_need : write_need mode target.size target.start (target.start + len) ≡ need_in mode t files who h at len
  own_need = (λ i. write_need mode (own_size i) (is.start_is i) (is.start_is i + len))

  -- the target finds room, as all files leave it
  pub has_room : (v : Volume) (taken : ℕ) → FilesEnd v files → need_in mode t files who h at len ≤ room_in (data_blocks v.geometry) files - taken → HasRoom mode v files target len
  has_room v taken ends fits = record { ends = ends; room = subst (λ n. n ≤ room_in (data_blocks v.geometry) files) (sym own_need) (omega (arith, fits)) }

-- ---- the call

pub puts_of : (s : State) (who : Who) (h : Handle) (at : Option ℕ) (x : List ℕ) → first (write_rows s who h (start_of s who h at) x) ≡ None
    → (let put : Put = record { node = file_number s.tables who h; place = start_of s who h at; bytes = x } in put_by s who (call_of h at x) ≡ Some put)
unfolding put_by
puts_of s who h None x none = ap (λ o. put_unless o (record { node = file_number s.tables who h; place = write_start s who h; bytes = x })) none
puts_of s who h (Some place) x none = ap (λ o. put_unless o (record { node = file_number s.tables who h; place = place; bytes = x })) none

pub waits_of : (s : State) (who : Who) (h : Handle) (at : Option ℕ) (x : List ℕ) → waits_for s (who, call_of h at x) ≡ handle_node s who h
unfolding waits_for
waits_of s who h None x = refl
waits_of s who h (Some place) x = refl

module _ (kept_law : StandsAsKept) (room_law : RoomIsKept) (mode : Mode) (k : View) (t : Tables) (staging : Staged) (files : Files) (who : Who) (h : Handle) (at : Option ℕ) (x : List ℕ) (taken : ℕ)
    (found : Found mode k t staging files who (call_of h at x) taken) where
  pub of_state : AreOfState found.s (number found.stands.numbers) t files
  of_state = kept_law found.g k t (with_parts found.kept staging files) true found.n found.s found.stands

  pub room_is : room found.s ≡ room_in (data_blocks k.volume.geometry) files
  room_is = room_law found.g k t (with_parts found.kept staging files) true found.n found.s found.stands

  -- the row that fits the call
  pub row_is : RowsAsCall → first (write_rows found.s who h (start_of found.s who h at) x) ≡ row_in mode t files who h at (length x) (data_blocks k.volume.geometry)
  row_is law = law found.s (number found.stands.numbers) t files who h at x (data_blocks k.volume.geometry) of_state room_is
      ∙ ap (λ (m : Mode). row_in m t files who h at (length x) (data_blocks k.volume.geometry)) found.mode_is

  -- all jobs find room
  pub afforded : needs found.s found.stands.jobs ≤ room found.s
  afforded = (found.stands.flying.device.world (words_of k.cells) (IsImage-words_of k.cells)).valid.room

  module _ (starts : StartsAsCall) (needs_law : NeedsAsCall) (none : first (write_rows found.s who h (start_of found.s who h at) x) ≡ None) where
    pub may : may_write found.s.tables who h ≡ true
    may = (Accepts-from_rows found.s who h (start_of found.s who h at) x none).may_write

    pub need_is : need_of found.s who (call_of h at x) ≡ need_in mode t files who h at (length x)
    need_is = needs_law found.s (number found.stands.numbers) t files who h at x of_state may ∙ ap (λ (m : Mode). need_in m t files who h at (length x)) found.mode_is

    pub start_is : start_of found.s who h at ≡ start_at t files who h at
    start_is = starts found.s (number found.stands.numbers) t files who h at of_state may

    module _ (target : Target) (is : IsTarget t files who h at (length x) target) where
      pub opened_is : opened found.s.tables who h ≡ Some (described_as (number found.stands.numbers) is.file)
      opened_is = ap (λ y. opened y who h) found.stands.tables ∙ (same_opened (number found.stands.numbers) t who h ∙ ap (option_map (described_as (number found.stands.numbers))) is.known)

      pub number_is : file_number found.s.tables who h ≡ number found.stands.numbers target.ino
      number_is = ap (λ (o : Option Description). option_map_or (λ d. d.node) o 0) opened_is ∙ ap (number found.stands.numbers) (sym is.ino_is)

      pub node_is : handle_node found.s who h ≡ Some (number found.stands.numbers target.ino)
      node_is = ap (λ (o : Option Description). option_map (λ d. d.node) o) opened_is ∙ ap (λ n. Some (number found.stands.numbers n)) (sym is.ino_is)

      pub start_same : start_of found.s who h at ≡ target.start
      start_same = start_is ∙ sym is.start_is

      abbrev pub goes_of : need_in mode t files who h at (length x) ≤ room_in (data_blocks k.volume.geometry) files - taken → Goes mode k staging files who target x
      goes_of fits = record {
        g = found.g;
        t = t;
        kept = found.kept;
        n = found.n;
        few = found.few;
        s = found.s;
        call = call_of h at x;
        stands = found.stands;
        mode_is = found.mode_is;
        opened = subst (λ n. is_open t n ≡ true) (sym is.ino_is) (handle_open t who h is.file is.known);
        puts = record {
          put = record { node = file_number found.s.tables who h; place = start_of found.s who h at; bytes = x };
          is = puts_of found.s who h at x none;
          node_is = number_is;
          place = omega (arith, start_same);
          bytes = ap (λ n. drop n x) {x = 0} {y = target.start - start_of found.s who h at} (omega (arith, start_same));
          front = λ before. absurd (omega (arith, start_same, before));
          strict = λ strict. start_same;
        };
        present = λ i high low. absurd (omega (arith, start_same, high, low));
        fits = (let taken_is = found.taken_is in let all = afforded in omega (arith, fits, taken_is, all, room_is, need_is));
        others = λ j there own.
            (lets_one found.s (who, call_of h at x) found.stands.numbers found.stands.jobs found.beside j there).1
            (waits_of found.s who h at x ∙ (node_is ∙ ap (λ n. Some (number found.stands.numbers n)) (sym own)));
        callers = λ p there.
            let j = job_of_pending found.kept.pending found.stands.jobs found.stands.jobs_are p there in
            subst (AreThreads who) j.3 (turned j.0.who who (lets_one found.s (who, call_of h at x) found.stands.numbers found.stands.jobs found.beside j.0 j.1).0);
      }

  -- the target fits
  pub fits_target : (target : Target) → IsTarget t files who h at (length x) target → FitsTarget files target (length x)
  fits_target target is = record { some = is.some; most = is.most; fits = is.fits; size = is.size_is }
