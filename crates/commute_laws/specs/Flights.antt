-- A logged write in flight, and what it keeps under a call of others.
use Rattle.std.specs.Prelude.{◌≡◌, ◌≢◌, ◌≤◌, ℕ, List, Some, option_map}
use Rattle.std.proofs.Common.{ap, ◌∙◌, sym, subst}
use Rattle.crash_spec.specs.posix_laws.posix_types.declared.call.Call.{Call}
use Rattle.crash_spec.specs.posix_laws.posix_types.declared.call.Who.{Who}
use Rattle.crash_spec.specs.posix_laws.posix_types.declared.handle.Handle.{Handle}
use Rattle.crash_spec.specs.posix_laws.posix_tables.declared.nodes.File.{File}
use Rattle.crash_spec.specs.posix_laws.posix_tables.declared.nodes.Node.{Node}
use Rattle.crash_spec.specs.posix_laws.posix_tables.declared.open.Description.{Description}
use Rattle.crash_spec.specs.posix_laws.posix_tables.Nodes.{node_at}
use Rattle.crash_spec.specs.posix_laws.posix_tables.Open.{opened}
use Rattle.crash_spec.specs.posix_laws.posix_spec.FileRows.{write_start}
use Rattle.crash_spec.specs.posix_laws.posix_spec.Put.{Put, put_at, put_by}
use Rattle.crash_spec.specs.posix_laws.posix_spec.Run.{after_call, Unfinished}
use Rattle.crash_spec.specs.posix_laws.posix_spec.State.{room, State}
use Rattle.crash_spec.specs.posix_laws.RowLaws.{put_at-Some}
use Rattle.crash_spec.specs.posix_laws.Puts.{PutsWhole}
use Rattle.crash_spec.specs.posix_laws.ViewLaws.{need_of-kept, PutsWhole-kept}
use Rattle.crash_spec.specs.posix_laws.Views.{KeepsView, need_of, SameView}
use Rattle.crash_spec.specs.Busy.{waits_for}
use Rattle.commute_laws.specs.Bystanders.{IsHeld, is_open-Opens}
use Rattle.commute_laws.specs.Frames.{AreThreads, file_number-is, granted, KeepsSeen, KeepsSeen-step, LeavesAlone}
use Rattle.commute_laws.specs.Handles.{Opens, Opens-opened, opened-Opens}

-- what the handle of an accepted write stands for
pub record IsPutBy (s : State) (who : Who) (h : Handle) (node : ℕ) : Type 0 where
  pub key : ℕ
  pub by : Description
  pub opens : Opens s.tables who h key by
  pub node_is : by.node ≡ node

pub put_at-IsPutBy : (s : State) (who : Who) (h : Handle) (start : ℕ) (x : List ℕ) (p : Put) (node : ℕ)
    → put_at s who h start x ≡ Some p → p.node ≡ node → IsPutBy s who h node
put_at-IsPutBy s who h start x p node is same =
    let says = put_at-Some s who h start x p is in
    let d = granted (λ d. d.flags.write) (opened s.tables who h) says.0.may_write in
    let o = Opens-opened s.tables who h d.0 d.1 in
    record { key = o.0; by = d.0; opens = o.1; node_is = sym (file_number-is s who h d.0 d.1) ∙ ap (λ (q : Put). q.node) says.1 ∙ same }

same_view : (s new : State) (who : Who) (h : Handle) (node : ℕ) → IsPutBy s who h node → KeepsSeen s new who node
    → SameView s new who h
same_view s new who h node puts keeps =
    let before = opened-Opens s.tables who h puts.key puts.by puts.opens in
    let after = opened-Opens new.tables who h puts.key puts.by (keeps.handles h puts.key puts.by puts.opens puts.node_is) in
    record {
      handle = after ∙ sym before;
      node = subst (λ n. node_at new.nodes n ≡ node_at s.nodes n) (sym (file_number-is s who h puts.by before ∙ puts.node_is)) keeps.file;
      mode = keeps.mode;
    }

-- A write whose file and handles stay sees what it saw.
pub KeepsView-seen : (s new : State) (who : Who) (call : Call) (node : ℕ) (whole : List ℕ)
    → PutsWhole s who call node whole → KeepsSeen s new who node → KeepsView s new who call
unfolding put_by
KeepsView-seen s new who (Call.Write h x) node whole puts keeps = same_view s new who h node (put_at-IsPutBy s who h (write_start s who h) x puts.put node puts.is puts.node_is) keeps
KeepsView-seen s new who (Call.Pwrite h start x) node whole puts keeps = same_view s new who h node (put_at-IsPutBy s who h start x puts.put node puts.is puts.node_is) keeps
KeepsView-seen s new who call node whole puts keeps = tt

-- A write that is in flight: it puts these whole bytes into this node, which is a file.
pub record InFlight (s : State) (c : Unfinished) (node : ℕ) (whole : List ℕ) : Type 0 where
  pub puts : PutsWhole s c.0 c.1 node whole
  pub file : File
  pub is : node_at s.nodes node ≡ Node.File file

held_by : (s : State) (who : Who) (h : Handle) (node : ℕ) (file : File) → IsPutBy s who h node
    → node_at s.nodes node ≡ Node.File file → IsHeld s node
held_by s who h node file puts is = record { file = file; is = is; held_open = is_open-Opens s.tables who h puts.key node puts.by puts.opens puts.node_is }

-- its file is held open, and it would wait for that file
pub IsHeld-put : (s : State) (who : Who) (call : Call) (node : ℕ) (whole : List ℕ) (file : File)
    → PutsWhole s who call node whole → node_at s.nodes node ≡ Node.File file → IsHeld s node
unfolding put_by
IsHeld-put s who (Call.Write h x) node whole file puts is = held_by s who h node file (put_at-IsPutBy s who h (write_start s who h) x puts.put node puts.is puts.node_is) is
IsHeld-put s who (Call.Pwrite h start x) node whole file puts is = held_by s who h node file (put_at-IsPutBy s who h start x puts.put node puts.is puts.node_is) is
IsHeld-put s who call node whole file puts is = let never = puts.is in cc

waits_by : (s : State) (who : Who) (h : Handle) (node : ℕ) → IsPutBy s who h node
    → option_map (λ (d : Description). d.node) (opened s.tables who h) ≡ Some node
waits_by s who h node puts = ap (λ o. option_map (λ (d : Description). d.node) o) (opened-Opens s.tables who h puts.key puts.by puts.opens) ∙ ap Some puts.node_is

pub waits_for-put : (s : State) (who : Who) (call : Call) (node : ℕ) (whole : List ℕ)
    → PutsWhole s who call node whole → waits_for s (who, call) ≡ Some node
unfolding put_by waits_for
waits_for-put s who (Call.Write h x) node whole puts = waits_by s who h node (put_at-IsPutBy s who h (write_start s who h) x puts.put node puts.is puts.node_is)
waits_for-put s who (Call.Pwrite h start x) node whole puts = waits_by s who h node (put_at-IsPutBy s who h start x puts.put node puts.is puts.node_is)
waits_for-put s who call node whole puts = let never = puts.is in cc

-- so it leaves every other file alone
pub LeavesAlone-put : (s : State) (c : Unfinished) (node other : ℕ) (whole : List ℕ) → InFlight s c node whole
    → node ≢ other → LeavesAlone s c other
LeavesAlone-put s (who, call) node other whole flight apart waits =
    let both : Some node ≡ Some other = sym (waits_for-put s who call node whole flight.puts) ∙ waits in
    apart cc

-- What it sees stays under a call of another thread that leaves its file alone.
pub KeepsSeen-call : (s : State) (c d : Unfinished) (node : ℕ) (whole : List ℕ) → AreThreads c.0 d.0
    → InFlight s c node whole → LeavesAlone s d node → KeepsSeen s (after_call s d) c.0 node
KeepsSeen-call s (who, call) (who2, call2) node whole threads flight aside =
    KeepsSeen-step s who who2 call2 node threads (IsHeld-put s who call node whole flight.file flight.puts flight.is) aside

pub KeepsView-call : (s : State) (c d : Unfinished) (node : ℕ) (whole : List ℕ) → AreThreads c.0 d.0
    → InFlight s c node whole → LeavesAlone s d node → KeepsView s (after_call s d) c.0 c.1
KeepsView-call s c d node whole threads flight aside = KeepsView-seen s (after_call s d) c.0 c.1 node whole flight.puts (KeepsSeen-call s c d node whole threads flight aside)

-- It needs afterwards what it needed.
pub need_of-step : (s : State) (c d : Unfinished) (node : ℕ) (whole : List ℕ) → AreThreads c.0 d.0
    → InFlight s c node whole → LeavesAlone s d node → need_of (after_call s d) c.0 c.1 ≡ need_of s c.0 c.1
need_of-step s c d node whole threads flight aside = need_of-kept s (after_call s d) c.0 c.1 (KeepsView-call s c d node whole threads flight aside)

-- And it puts what it would have put, if it still finds room.
pub PutsWhole-step : (s : State) (c d : Unfinished) (node : ℕ) (whole : List ℕ) → AreThreads c.0 d.0
    → InFlight s c node whole → LeavesAlone s d node → need_of s c.0 c.1 ≤ room (after_call s d)
    → PutsWhole (after_call s d) c.0 c.1 node whole
PutsWhole-step s c d node whole threads flight aside fits = PutsWhole-kept s (after_call s d) c.0 c.1 node whole flight.puts (KeepsView-call s c d node whole threads flight aside) fits

pub InFlight-step : (s : State) (c d : Unfinished) (node : ℕ) (whole : List ℕ) → AreThreads c.0 d.0
    → InFlight s c node whole → LeavesAlone s d node → need_of s c.0 c.1 ≤ room (after_call s d)
    → InFlight (after_call s d) c node whole
InFlight-step s c d node whole threads flight aside fits = record {
  puts = PutsWhole-step s c d node whole threads flight aside fits;
  file = flight.file;
  is = (KeepsSeen-call s c d node whole threads flight aside).file ∙ flight.is;
}
