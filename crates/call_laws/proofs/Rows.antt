-- What the rows of a write say of its step, and of what it needs.
use Rattle.std.specs.Prelude.{◌≡◌, ◌≢◌, ◌≤◌, ◌<◌, ◌+◌, ◌-◌, ℕ, Bool, true, false, List, length, max, nat_lt, Option, Some, None, if◌then◌else◌, refl}
use Rattle.std.specs.Option.{option_map_or}
use Rattle.std.proofs.Common.{arith, ap, ◌∙◌, sym, subst, inl, inr}
use Rattle.std.proofs.lemmas.Bool.Decides.{nat_tests}
use Rattle.write_begin.specs.layout_model.Places.{reserve}
use Rattle.write_begin.specs.file_table.Files.{Files}
use Rattle.write_begin.specs.k_split_model.View.{View}
use Rattle.write_begin.specs.posix_types.declared.call.Mode.{Mode}
use Rattle.write_begin.specs.posix_types.declared.call.Who.{Who}
use Rattle.write_begin.specs.posix_types.declared.handle.Handle.{Handle}
use Rattle.write_begin.specs.posix_types.declared.item.Outcome.{Outcome}
use Rattle.write_begin.specs.posix_tables.Open.{Tables}
use Rattle.write_begin.specs.posix_tables.Outcomes.{first}
use Rattle.write_begin.specs.posix_tables.Room.{growth, write_need}
use Rattle.write_begin.specs.posix_laws.Views.{need_of}
use Rattle.write_begin.specs.posix_spec.FileRows.{content, file_number, write_rows, write_start}
use Rattle.write_begin.specs.posix_spec.Put.{Put, put_by, put_unless}
use Rattle.write_begin.specs.posix_spec.State.{alone, State}
use Rattle.write_begin.specs.posix_spec.Step.{pwrite_done, step, stepped, Stepped, write_done}
use Rattle.write_begin.specs.crash_spec.Busy.{is_logged, is_logged_put}
use Rattle.world_view_laws.specs.in_flight.k_split.MapChanges.{free_blocks_in}
use Rattle.world_view_laws.specs.in_flight.staging_files.Keeps.{Staged}
use Rattle.world_view_laws.specs.in_flight.staging_files.Reserves.{has_empty, HasNoFreeRun, IsLacking, LacksFirstWay, LacksSecondWay, need, wanted}
use Rattle.write_begin.proofs.BeginsAsked.{puts_of}
use Rattle.write_begin.specs.write_plan.AsksLaws.{call_of, start_of}
use Rattle.write_begin.specs.posix_types.declared.call.Call.{Call}
use Rattle.world_view_laws.specs.Begins.{HasNoRun, IsNeed, IsStagingNeed, LacksBeside, LacksStaging, Publishes, wanted_by, with_disk}
use Rattle.world_view_laws.proofs.Holes.{stages_logged}
use Rattle.write_begin.specs.write_plan.Plans.{size_at, staged_run}
use Rattle.world_view_laws.specs.Views.{Disk, disk_of, state_of, WorldView}

-- ---- a row fits

pub refused_step : (s : State) (who : Who) (h : Handle) (at : Option ℕ) (x : List ℕ) (o : Outcome) → first (write_rows s who h (start_of s who h at) x) ≡ Some o
    → (let same : Stepped = record { state = s; outcome = o } in step s who (call_of h at x) ≡ same)
refused_step s who h None x o is = ap (λ m. stepped s m (write_done alone s who h x)) is
refused_step s who h (Some place) x o is = ap (λ m. stepped s m (pwrite_done alone s who h place x)) is

pub refused_unput : (s : State) (who : Who) (h : Handle) (at : Option ℕ) (x : List ℕ) (o : Outcome) → first (write_rows s who h (start_of s who h at) x) ≡ Some o → put_by s who (call_of h at x) ≡ None
unfolding put_by
refused_unput s who h None x o is = ap (λ m. put_unless m (record { node = file_number s.tables who h; place = write_start s who h; bytes = x })) is
refused_unput s who h (Some place) x o is = ap (λ m. put_unless m (record { node = file_number s.tables who h; place = place; bytes = x })) is

pub refused_unlogged : (s : State) (who : Who) (h : Handle) (at : Option ℕ) (x : List ℕ) (o : Outcome) → first (write_rows s who h (start_of s who h at) x) ≡ Some o
    → is_logged s (who, call_of h at x) ≡ false
refused_unlogged s who h at x o is = ap (λ m. option_map_or (is_logged_put s.mode s) m false) (refused_unput s who h at x o is)

-- a write publishes nothing
pub no_publish : (who : Who) (h : Handle) (at : Option ℕ) (x : List ℕ) (old new : WorldView) → Publishes who (call_of h at x) old new
no_publish who h None x old new = tt
no_publish who h (Some place) x old new = tt

-- ---- none fits

-- one that stages blocks is logged,
pub staged_logged : (s : State) (who : Who) (h : Handle) (at : Option ℕ) (x : List ℕ) (run : ℕ × ℕ) → s.mode ≢ Mode.Posix → first (write_rows s who h (start_of s who h at) x) ≡ None
    → staged_run s (put_by s who (call_of h at x)) ≡ Some run → is_logged s (who, call_of h at x) ≡ true
staged_logged s who h at x run other none is =
    let put : Put = record { node = file_number s.tables who h; place = start_of s who h at; bytes = x } in
    ap (λ m. option_map_or (is_logged_put s.mode s) m false) (puts_of s who h at x none)
    ∙ stages_logged s put run other (ap (staged_run s) (sym (puts_of s who h at x none)) ∙ is)

-- and so is one that needs blocks
logged_put : (m : Mode) (s : State) (put : Put) → m ≢ Mode.Posix → 1 ≤ write_need m (size_at s put) put.place (put.place + length put.bytes) → is_logged_put m s put ≡ true
logged_put Mode.Strict s put other some = refl
logged_put Mode.Posix s put other some = absurd (other refl)
logged_put Mode.Sync s put other some = by (nat_lt (size_at s put) (put.place + length put.bytes)) refl where
  by : (b : Bool) → nat_lt (size_at s put) (put.place + length put.bytes) ≡ b → is_logged_put Mode.Sync s put ≡ true
  by true is = is
  by false is =
      let below : put.place + length put.bytes ≤ size_at s put = grind (arith, nat_tests, is) in
      let same : max (size_at s put) (put.place + length put.bytes) ≡ size_at s put = omega (arith, below) in
      let none = ap (growth (size_at s put)) same in
      absurd (omega (arith, none, some))

pub need_put : (s : State) (who : Who) (h : Handle) (at : Option ℕ) (x : List ℕ) → need_of s who (call_of h at x) ≡ write_need s.mode (length (content s who h)) (start_of s who h at) (start_of s who h at + length x)
need_put s who h None x = refl
need_put s who h (Some place) x = refl

pub needs_logged : (s : State) (who : Who) (h : Handle) (at : Option ℕ) (x : List ℕ) → s.mode ≢ Mode.Posix → first (write_rows s who h (start_of s who h at) x) ≡ None
    → 1 ≤ need_of s who (call_of h at x) → is_logged s (who, call_of h at x) ≡ true
needs_logged s who h at x other none some =
    let put : Put = record { node = file_number s.tables who h; place = start_of s who h at; bytes = x } in
    ap (λ m. option_map_or (is_logged_put s.mode s) m false) (puts_of s who h at x none) ∙ logged_put s.mode s put other (subst (λ n. 1 ≤ n) (need_put s who h at x) some)

-- what it needs is what is asked of it
pub is_its_need : (w : WorldView) (who : Who) (h : Handle) (at : Option ℕ) (x : List ℕ) (need : ℕ) → is_logged (state_of w) (who, call_of h at x) ≡ true → need ≡ need_of (state_of w) who (call_of h at x)
    → IsNeed w who (call_of h at x) need
is_its_need w who h None x need logged is = (logged, is)
is_its_need w who h (Some place) x need logged is = (logged, is)

-- and what is asked of it is what it needs
pub its_need : (w : WorldView) (who : Who) (h : Handle) (at : Option ℕ) (x : List ℕ) (need : ℕ) → IsNeed w who (call_of h at x) need
    → (is_logged (state_of w) (who, call_of h at x) ≡ true) × (need ≡ need_of (state_of w) who (call_of h at x))
its_need w who h None x need is = is
its_need w who h (Some place) x need is = is

-- beside the jobs that are out it needs the same, whatever stands below the calls
need_on : (w : WorldView) (d : Disk) (who : Who) (call : Call) (need : ℕ) → IsNeed w who call need → IsNeed (with_disk w d) who call need
need_on w d who (Call.Truncate h size) need is = is
need_on w d who call need is = is

need_back : (w : WorldView) (d : Disk) (who : Who) (call : Call) (need : ℕ) → IsNeed (with_disk w d) who call need → IsNeed w who call need
need_back w d who (Call.Truncate h size) need is = is
need_back w d who call need is = is

pub beside_on : (w : WorldView) (d : Disk) (who : Who) (call : Call) (need left : ℕ) → LacksBeside w who call need left → LacksBeside (with_disk w d) who call need left
beside_on w d who call need left lacks = record { need_is = need_on w d who call need lacks.need_is; left_is = lacks.left_is; fits = lacks.fits; lacks = lacks.lacks }

pub beside_back : (w : WorldView) (d : Disk) (who : Who) (call : Call) (need left : ℕ) → LacksBeside (with_disk w d) who call need left → LacksBeside w who call need left
beside_back w d who call need left lacks = record { need_is = need_back w d who call need lacks.need_is; left_is = lacks.left_is; fits = lacks.fits; lacks = lacks.lacks }

-- ---- the staging lacks blocks

lacks_there : (staged : Staged) (k : View) (count left : ℕ) → left ≡ (if has_empty staged then free_blocks_in k else 0) → LacksSecondWay staged k count → left < need staged k count
lacks_there staged k count left is (inl short) = by (has_empty staged) is where
  by : (b : Bool) → left ≡ (if b then free_blocks_in k else 0) → left < need staged k count
  by true all = omega (arith, all, short)
  by false none = omega (arith, none)
lacks_there staged k count left is (inr none) =
    let empty : left ≡ 0 = is ∙ ap {B = ℕ} (λ b. if b then free_blocks_in k else 0) none in omega (arith, empty)

second_lacks : (staged : Staged) (k : View) (count left : ℕ) → left ≡ (if has_empty staged then free_blocks_in k else 0) → left < need staged k count → LacksSecondWay staged k count
second_lacks staged k count left is less = by (has_empty staged) refl is where
  by : (b : Bool) → has_empty staged ≡ b → left ≡ (if b then free_blocks_in k else 0) → LacksSecondWay staged k count
  by true some all = inl (omega (arith, all, less))
  by false none all = inr none

-- WHAT THE STAGING LACKS for a run, in its own words and in the World's.
module _ (w : WorldView) (who : Who) (h : Handle) (at : Option ℕ) (x : List ℕ) (k : View) (t : Tables) (staged : Staged) (filed : Files) (run : ℕ × ℕ)
    (run_is : staged_run (state_of w) (put_by (state_of w) who (call_of h at x)) ≡ Some run) (disk : w.disk ≡ disk_of k t staged filed) (geometry : k.volume.geometry ≡ w.geometry) where
  abbrev count : ℕ
  count = run.1

  free_is : w.disk.free ≡ free_blocks_in k
  free_is = ap (λ (d : Disk). d.free) disk

  staging_is : w.disk.staging ≡ staged
  staging_is = ap (λ (d : Disk). d.staging) disk

  room_is : (if has_empty w.disk.staging then w.disk.free else 0) ≡ (if has_empty staged then free_blocks_in k else 0)
  room_is = ap (λ (d : Disk). if has_empty d.staging then d.free else 0) disk

  wanted_is : wanted staged k ≡ wanted_by w
  wanted_is = (λ i. length (sym staging_is i).out + reserve (geometry i) - 2)

  needs_as : (needed : ℕ) → needed ≡ need staged k count → IsStagingNeed w (Some run) needed
  needs_as needed is = is ∙ ap (λ n. count + n + 1) wanted_is

  needs_in : (needed : ℕ) → IsStagingNeed w (Some run) needed → needed ≡ need staged k count
  needs_in needed is = is ∙ ap (λ n. count + n + 1) (sym wanted_is)

  no_run_as : LacksFirstWay staged k count → HasNoRun w (Some run)
  no_run_as (inl few) = inl (subst (λ n. n < wanted_by w) (sym free_is) (subst (λ n. free_blocks_in k < n) wanted_is few))
  no_run_as (inr no_run) = inr (subst (λ (s : Staged). HasNoFreeRun s count) (sym staging_is) no_run)

  no_run_in : HasNoRun w (Some run) → LacksFirstWay staged k count
  no_run_in (inl few) = inl (subst (λ n. free_blocks_in k < n) (sym wanted_is) (subst (λ n. n < wanted_by w) free_is few))
  no_run_in (inr no_run) = inr (subst (λ (s : Staged). HasNoFreeRun s count) staging_is no_run)

  pub lacks_staging : (needed left : ℕ) → ((n m : ℕ) → ¬ LacksBeside w who (call_of h at x) n m) → IsLacking count staged k needed left → LacksStaging w who (call_of h at x) needed left
  lacks_staging needed left beside lacks = record {
    beside = beside;
    need_is = subst (λ (m : Option (ℕ × ℕ)). IsStagingNeed w m needed) (sym run_is) (needs_as needed lacks.need_is);
    no_run = subst (HasNoRun w) (sym run_is) (no_run_as lacks.no_first);
    left_is = lacks.room_is ∙ sym room_is;
    lacks = subst (λ n. left < n) (sym lacks.need_is) (lacks_there staged k count left lacks.room_is lacks.no_second);
  }

  pub lacks_in : (needed left : ℕ) → LacksStaging w who (call_of h at x) needed left → IsLacking count staged k needed left
  lacks_in needed left lacks =
      let need_is = needs_in needed (subst (λ (m : Option (ℕ × ℕ)). IsStagingNeed w m needed) run_is lacks.need_is) in
      record {
        no_first = no_run_in (subst (HasNoRun w) run_is lacks.no_run);
        no_second = second_lacks staged k count left (lacks.left_is ∙ room_is) (subst (λ n. left < n) need_is lacks.lacks);
        need_is = need_is;
        room_is = lacks.left_is ∙ room_is;
      }
