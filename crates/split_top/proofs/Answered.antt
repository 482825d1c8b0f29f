-- What the answer to a command says: where its output was put or not, where a file was not read, and where a file was not replaced.
use Rattle.std.proofs.Common.{◌≡◌, ◌≢◌, ◌⊎◌, ◌≤◌, ℕ, List, Option, Some, None, refl, subst, inl, inr, arith}
use Rattle.outside.specs.Outside.{AreOfFile, bytes_named, FileList, IsAbsent, Rose, Takes, TakesFront}
use Rattle.command_line.specs.Command.{Command}
use Rattle.command_line.specs.declared.statuses.statuses.Status.{Status}
use Rattle.split_top.specs.Jobs.{IsAnswer, IsPutOrNot, IsUnread}
use Rattle.split_top.specs.Top.{Completes, Does, IsCutShort, IsGiven, IsMissing, IsReplacedBy, MayFail, Replaces}

-- a count that rose after it had risen or stood
pub rose-later : (a b c : ℕ) → a ≤ b → Rose b c → Rose a c
rose-later a b c before (inl more) = inl (omega arith)
rose-later a b c before (inr last) = inr last

-- ---- the output was put, or not
module _ (c : Command) (files left : Option FileList) (old new : Option (List ℕ)) (Missed Failed Refused : Type 0) (output : List ℕ) (does : Does c files left output) (kept : (left ≡ files) ⊎ IsReplacedBy c files left) (done_is : Completes c files Status.Done) (memory_is : Completes c files Status.NoMemory) where
  cut_short : TakesFront old new output → IsCutShort c files left old new
  cut_short front = record { output = output; does = does; is_front = front }

  pub put-answer : (status : Status) → IsPutOrNot status → (status ≡ Status.Done → Takes old new output) → (status ≢ Status.Done → TakesFront old new output) → (status ≡ Status.WriteFault → Refused) → IsAnswer c files left old new Missed Failed Refused status
  put-answer Status.Done kind taken front failed =
      record {
        usage = λ e. cc;
        no_such_file = λ n e. absurd (let f : ⊥ = cc in f);
        bad_image = λ r p e. absurd (let f : ⊥ = cc in f);
        bad_script = λ l e. absurd (let f : ⊥ = cc in f);
        read_fault = λ e. absurd (let f : ⊥ = cc in f);
        write_fault = λ e. absurd (let f : ⊥ = cc in f);
        done = λ e. record { output = output; does = does; is_taken = taken refl };
        kept = kept;
        front = λ e. elim e [ inl x ↦ absurd (let f : ⊥ = cc in f) | inr x ↦ absurd (let f : ⊥ = cc in f) ];
        nothing = λ r. absurd r;
        complete = λ a b. done_is;
      }
  put-answer Status.WriteFault kind taken front failed =
      record {
        usage = λ e. cc;
        no_such_file = λ n e. absurd (let f : ⊥ = cc in f);
        bad_image = λ r p e. absurd (let f : ⊥ = cc in f);
        bad_script = λ l e. absurd (let f : ⊥ = cc in f);
        read_fault = λ e. absurd (let f : ⊥ = cc in f);
        write_fault = λ e. inl (failed refl);
        done = λ e. absurd (let f : ⊥ = cc in f);
        kept = kept;
        front = λ e. inr (cut_short (front (λ x. cc)));
        nothing = λ r. absurd r;
        complete = λ a b. absurd (b (failed refl));
      }
  put-answer Status.NoMemory kind taken front failed =
      record {
        usage = λ e. cc;
        no_such_file = λ n e. absurd (let f : ⊥ = cc in f);
        bad_image = λ r p e. absurd (let f : ⊥ = cc in f);
        bad_script = λ l e. absurd (let f : ⊥ = cc in f);
        read_fault = λ e. absurd (let f : ⊥ = cc in f);
        write_fault = λ e. absurd (let f : ⊥ = cc in f);
        done = λ e. absurd (let f : ⊥ = cc in f);
        kept = kept;
        front = λ e. inr (cut_short (front (λ x. cc)));
        nothing = λ r. absurd r;
        complete = λ a b. memory_is;
      }
  put-answer Status.Usage kind taken front failed = absurd kind
  put-answer (Status.NoSuchFile name) kind taken front failed = absurd kind
  put-answer (Status.BadImage rule place) kind taken front failed = absurd kind
  put-answer (Status.BadScript line) kind taken front failed = absurd kind
  put-answer Status.ReadFault kind taken front failed = absurd kind

-- ---- nothing was put, and the files are as before
module _ (c : Command) (files left : Option FileList) (old : Option (List ℕ)) (Missed Failed Refused : Type 0) (kept : left ≡ files) where
  -- a file was not read
  pub unread-answer : (status : Status) → IsUnread status → ((name : List ℕ) → status ≡ Status.NoSuchFile name → IsMissing c files name × Missed) → (status ≡ Status.ReadFault → MayFail c files × Failed) → (¬ Failed → Completes c files status) → IsAnswer c files left old old Missed Failed Refused status
  unread-answer (Status.NoSuchFile name) kind missing failed complete =
      record {
        usage = λ e. cc;
        no_such_file = missing;
        bad_image = λ r p e. absurd (let f : ⊥ = cc in f);
        bad_script = λ l e. absurd (let f : ⊥ = cc in f);
        read_fault = λ e. absurd (let f : ⊥ = cc in f);
        write_fault = λ e. absurd (let f : ⊥ = cc in f);
        done = λ e. absurd (let f : ⊥ = cc in f);
        kept = inl kept;
        front = λ e. elim e [ inl x ↦ absurd (let f : ⊥ = cc in f) | inr x ↦ absurd (let f : ⊥ = cc in f) ];
        nothing = λ r. (kept, refl);
        complete = λ a b. complete a;
      }
  unread-answer Status.ReadFault kind missing failed complete =
      record {
        usage = λ e. cc;
        no_such_file = λ n e. absurd (let f : ⊥ = cc in f);
        bad_image = λ r p e. absurd (let f : ⊥ = cc in f);
        bad_script = λ l e. absurd (let f : ⊥ = cc in f);
        read_fault = failed;
        write_fault = λ e. absurd (let f : ⊥ = cc in f);
        done = λ e. absurd (let f : ⊥ = cc in f);
        kept = inl kept;
        front = λ e. elim e [ inl x ↦ absurd (let f : ⊥ = cc in f) | inr x ↦ absurd (let f : ⊥ = cc in f) ];
        nothing = λ r. (kept, refl);
        complete = λ a b. complete a;
      }
  unread-answer Status.NoMemory kind missing failed complete =
      record {
        usage = λ e. cc;
        no_such_file = λ n e. absurd (let f : ⊥ = cc in f);
        bad_image = λ r p e. absurd (let f : ⊥ = cc in f);
        bad_script = λ l e. absurd (let f : ⊥ = cc in f);
        read_fault = λ e. absurd (let f : ⊥ = cc in f);
        write_fault = λ e. absurd (let f : ⊥ = cc in f);
        done = λ e. absurd (let f : ⊥ = cc in f);
        kept = inl kept;
        front = λ e. inl (kept, refl);
        nothing = λ r. absurd r;
        complete = λ a b. complete a;
      }
  unread-answer Status.Done kind missing failed complete = absurd kind
  unread-answer Status.Usage kind missing failed complete = absurd kind
  unread-answer (Status.BadImage rule place) kind missing failed complete = absurd kind
  unread-answer (Status.BadScript line) kind missing failed complete = absurd kind
  unread-answer Status.WriteFault kind missing failed complete = absurd kind

  -- memory ran out
  pub starved-answer : Completes c files Status.NoMemory → IsAnswer c files left old old Missed Failed Refused Status.NoMemory
  starved-answer memory_is =
      record {
        usage = λ e. cc;
        no_such_file = λ n e. absurd (let f : ⊥ = cc in f);
        bad_image = λ r p e. absurd (let f : ⊥ = cc in f);
        bad_script = λ l e. absurd (let f : ⊥ = cc in f);
        read_fault = λ e. absurd (let f : ⊥ = cc in f);
        write_fault = λ e. absurd (let f : ⊥ = cc in f);
        done = λ e. absurd (let f : ⊥ = cc in f);
        kept = inl kept;
        front = λ e. inl (kept, refl);
        nothing = λ r. absurd r;
        complete = λ a b. memory_is;
      }

  -- a file was not replaced
  pub unwritten-answer : Replaces c → Failed → IsAnswer c files left old old Missed Failed Refused Status.WriteFault
  unwritten-answer replaces failed =
      record {
        usage = λ e. cc;
        no_such_file = λ n e. absurd (let f : ⊥ = cc in f);
        bad_image = λ r p e. absurd (let f : ⊥ = cc in f);
        bad_script = λ l e. absurd (let f : ⊥ = cc in f);
        read_fault = λ e. absurd (let f : ⊥ = cc in f);
        write_fault = λ e. inr (replaces, failed);
        done = λ e. absurd (let f : ⊥ = cc in f);
        kept = inl kept;
        front = λ e. inl (kept, refl);
        nothing = λ r. absurd r;
        complete = λ a b. absurd (a failed);
      }

-- what is said by smaller counts is said by greater ones
pub answer-later : (c : Command) (files left : Option FileList) (old new : Option (List ℕ)) (Missed Failed Refused Missed' Failed' : Type 0) (status : Status) → (Missed → Missed') → (Failed → Failed') → IsAnswer c files left old new Missed Failed Refused status → IsAnswer c files left old new Missed' Failed' Refused status
answer-later c files left old new Missed Failed Refused Missed' Failed' status more_missed more_failed a = record {
  usage = a.usage;
  no_such_file = λ n e. ((a.no_such_file n e).0, more_missed (a.no_such_file n e).1);
  bad_image = a.bad_image;
  bad_script = a.bad_script;
  read_fault = λ e. ((a.read_fault e).0, more_failed (a.read_fault e).1);
  write_fault = λ e. elim (a.write_fault e) [ inl x ↦ inl x | inr x ↦ inr (x.0, more_failed x.1) ];
  done = a.done;
  kept = a.kept;
  front = a.front;
  nothing = a.nothing;
  complete = λ none no. a.complete (λ f. none (more_failed f)) no;
}

-- the bytes that were read of a file are those that are there
pub same-bytes : (files : Option FileList) (name read bytes : List ℕ) → AreOfFile files name read → IsGiven files name bytes → read ≡ bytes
same-bytes files name read bytes are given =
    let r : bytes_named given.list name ≡ Some read = subst (λ f. AreOfFile f name read) given.is_told are in
    cc (r, given.is_there)

-- a file that is not there is not given
pub absent-given : (files : Option FileList) (name bytes : List ℕ) → IsAbsent files name → IsGiven files name bytes → ⊥
absent-given files name bytes absent given =
    let none : bytes_named given.list name ≡ None = subst (λ f. IsAbsent f name) given.is_told absent in
    let f : ⊥ = cc (none, given.is_there) in f
