-- What the answer to `step` says: where its image or its script was not read or is refused, and what then has to be answered.
use Rattle.std.proofs.Common.{◌≡◌, ◌⊎◌, ℕ, List, Option, Some, None, refl, sym, subst, inl, inr}
use Rattle.std.specs.Prelude.{IsSome}
use Rattle.outside.specs.Outside.{AreOfFile, FileList, IsAbsent}
use Rattle.command_line.specs.Command.{Run, Step, Stored}
use Rattle.command_line.specs.declared.statuses.statuses.Status.{Status}
use Rattle.command_line.specs.script_text.Scripts.{bad_line}
use Rattle.split_top.specs.Images.{AreOfImage, CanOpen}
use Rattle.split_top.specs.Jobs.{IsAnswer, IsUnkept, IsUnopened, IsUnread, IsUnrun}
use Rattle.split_top.specs.Top.{CompletesStep, IsGivenImage, IsImageVerdict, IsReplacedBy, IsStepped, IsStepVerdict, Keeps}
use Rattle.split_top.proofs.Answered.{absent-given, same-bytes, starved-answer, unwritten-answer}
use Rattle.split_top.proofs.Shown.{absent-image, given-opens, verdict-given}

-- memory ran out
pub starved-step : (run : Run) (files : Option FileList) → CompletesStep run files Status.NoMemory
starved-step run files = record { refused = λ image given none. tt; ran = λ image script given there. tt }

-- the image is not there
pub missing-step : (run : Run) (files : Option FileList) (name : List ℕ) (status : Status) → run.image ≡ Stored name → IsAbsent files name → CompletesStep run files status
missing-step run files name status is absent = record {
  refused = λ image given none. absurd (absent-image files run.image name image is absent given);
  ran = λ image script given there. absurd (absent-image files run.image name image is absent given);
}

-- the image was not opened
image-verdict : (read image script : List ℕ) (status : Status) → IsUnopened read status → IsImageVerdict image status → IsStepVerdict image script status
image-verdict read image script (Status.BadImage rule place) was refused = refused
image-verdict read image script Status.NoMemory was none = tt
image-verdict read image script Status.Done was none = absurd was
image-verdict read image script Status.Usage was none = absurd was
image-verdict read image script (Status.NoSuchFile name) was none = absurd was
image-verdict read image script (Status.BadScript line) was none = absurd was
image-verdict read image script Status.ReadFault was none = absurd was
image-verdict read image script Status.WriteFault was none = absurd was

pub unopened-step : (run : Run) (files : Option FileList) (read : List ℕ) → AreOfImage files run.image read → (status : Status) → IsUnopened read status → CompletesStep run files status
unopened-step run files read are status was = record {
  refused = λ image given none. verdict-given files run.image read image are given status was;
  ran = λ image script given there. image-verdict read image script status was (verdict-given files run.image read image are given status was);
}

-- the image was opened
module _ (run : Run) (files : Option FileList) (read : List ℕ) (are : AreOfImage files run.image read) (can : CanOpen read) where
  opens : (image : List ℕ) → (given : IsGivenImage files run.image image) → CanOpen image
  opens image given = given-opens files run.image read image are given can

  pub unread-step : (status : Status) → IsAbsent files run.script → CompletesStep run files status
  unread-step status absent = record {
    refused = λ image given none. absurd (none (opens image given));
    ran = λ image script given there. absurd (absent-given files run.script script absent there);
  }

  pub ran-step : (bytes : List ℕ) → AreOfFile files run.script bytes → bad_line bytes ≡ None → CompletesStep run files Status.Done
  ran-step bytes are_script good = record {
    refused = λ image given none. absurd (none (opens image given));
    ran = λ image script given there. (opens image given, subst (λ b. bad_line b ≡ None) (same-bytes files run.script bytes script are_script there) good);
  }

  unrun-step : (bytes : List ℕ) (line : ℕ) → AreOfFile files run.script bytes → bad_line bytes ≡ Some line → CompletesStep run files (Status.BadScript line)
  unrun-step bytes line are_script bad = record {
    refused = λ image given none. absurd (none (opens image given));
    ran = λ image script given there. (opens image given, subst (λ b. bad_line b ≡ Some line) (same-bytes files run.script bytes script are_script there) bad);
  }

  -- the script was not run
  module _ (left : Option FileList) (old : Option (List ℕ)) (Missed Failed Refused : Type 0) (bytes : List ℕ) (are_script : AreOfFile files run.script bytes) (kept : left ≡ files) where
    pub unrun-answer : (status : Status) → IsUnrun bytes status → IsAnswer (Step run) files left old old Missed Failed Refused status
    unrun-answer (Status.BadScript line) bad =
        record {
          usage = λ e. cc;
          no_such_file = λ n e. absurd (let f : ⊥ = cc in f);
          bad_image = λ r p e. absurd (let f : ⊥ = cc in f);
          bad_script = λ l e. record { opens = record { image = read; is_image = are; can_open = can }; bytes = bytes; is_read = are_script; is_bad = subst (λ s. IsUnrun bytes s) e bad };
          read_fault = λ e. absurd (let f : ⊥ = cc in f);
          write_fault = λ e. absurd (let f : ⊥ = cc in f);
          done = λ e. absurd (let f : ⊥ = cc in f);
          kept = inl kept;
          front = λ e. elim e [ inl x ↦ absurd (let f : ⊥ = cc in f) | inr x ↦ absurd (let f : ⊥ = cc in f) ];
          nothing = λ r. (kept, refl);
          complete = λ a b. unrun-step bytes line are_script bad;
        }
    unrun-answer Status.NoMemory none = starved-answer (Step run) files left old Missed Failed Refused kept (starved-step run files)
    unrun-answer Status.Done none = absurd none
    unrun-answer Status.Usage none = absurd none
    unrun-answer (Status.NoSuchFile name) none = absurd none
    unrun-answer (Status.BadImage rule place) none = absurd none
    unrun-answer Status.ReadFault none = absurd none
    unrun-answer Status.WriteFault none = absurd none

-- the image was kept, or nothing is
pub keeps-or : (run : Run) (files left : Option FileList) (output kept : List ℕ) → IsStepped files run output kept → Keeps run.options.keep kept files left → (left ≡ files) ⊎ IsReplacedBy (Step run) files left
keeps-or run files left output kept stepped keeps = by run.options.keep refl keeps where
  by : (o : Option (List ℕ)) → run.options.keep ≡ o → Keeps o kept files left → (left ≡ files) ⊎ IsReplacedBy (Step run) files left
  by None is same = inl same
  by (Some name) is replaced = inr (record {
    replaces = subst (λ (o : Option (List ℕ)). IsSome o) (sym is) refl;
    output = output;
    does = record { kept = kept; stepped = stepped; is_left = subst (λ o. Keeps o kept files left) (sym is) replaced };
  })

-- the image was not kept
pub unkept-answer : (run : Run) (files left : Option FileList) (old : Option (List ℕ)) (Missed Failed Refused : Type 0) → left ≡ files → (status : Status) → IsUnkept status → (status ≡ Status.WriteFault → IsSome run.options.keep × Failed) → IsAnswer (Step run) files left old old Missed Failed Refused status
unkept-answer run files left old Missed Failed Refused kept Status.WriteFault kind failed = unwritten-answer (Step run) files left old Missed Failed Refused kept (failed refl).0 (failed refl).1
unkept-answer run files left old Missed Failed Refused kept Status.NoMemory kind failed = starved-answer (Step run) files left old Missed Failed Refused kept (starved-step run files)
unkept-answer run files left old Missed Failed Refused kept Status.Done kind failed = absurd kind
unkept-answer run files left old Missed Failed Refused kept Status.Usage kind failed = absurd kind
unkept-answer run files left old Missed Failed Refused kept (Status.NoSuchFile name) kind failed = absurd kind
unkept-answer run files left old Missed Failed Refused kept (Status.BadImage rule place) kind failed = absurd kind
unkept-answer run files left old Missed Failed Refused kept (Status.BadScript line) kind failed = absurd kind
unkept-answer run files left old Missed Failed Refused kept Status.ReadFault kind failed = absurd kind

-- the image was not read
pub unread-image : (run : Run) (files : Option FileList) (Failed : Type 0) (status : Status) → IsUnread status → ((name : List ℕ) → status ≡ Status.NoSuchFile name → (run.image ≡ Stored name) × IsAbsent files name) → (status ≡ Status.ReadFault → Failed) → ¬ Failed → CompletesStep run files status
unread-image run files Failed (Status.NoSuchFile name) kind missing failed none = missing-step run files name (Status.NoSuchFile name) (missing name refl).0 (missing name refl).1
unread-image run files Failed Status.ReadFault kind missing failed none = absurd (none (failed refl))
unread-image run files Failed Status.NoMemory kind missing failed none = starved-step run files
unread-image run files Failed Status.Done kind missing failed none = absurd kind
unread-image run files Failed Status.Usage kind missing failed none = absurd kind
unread-image run files Failed (Status.BadImage rule place) kind missing failed none = absurd kind
unread-image run files Failed (Status.BadScript line) kind missing failed none = absurd kind
unread-image run files Failed Status.WriteFault kind missing failed none = absurd kind

-- the script was not read
pub unread-script : (run : Run) (files : Option FileList) (read : List ℕ) → AreOfImage files run.image read → CanOpen read → (Failed : Type 0) (status : Status) → IsUnread status → ((name : List ℕ) → status ≡ Status.NoSuchFile name → IsAbsent files run.script) → (status ≡ Status.ReadFault → Failed) → ¬ Failed → CompletesStep run files status
unread-script run files read are can Failed (Status.NoSuchFile name) kind missing failed none = unread-step run files read are can (Status.NoSuchFile name) (missing name refl)
unread-script run files read are can Failed Status.ReadFault kind missing failed none = absurd (none (failed refl))
unread-script run files read are can Failed Status.NoMemory kind missing failed none = starved-step run files
unread-script run files read are can Failed Status.Done kind missing failed none = absurd kind
unread-script run files read are can Failed Status.Usage kind missing failed none = absurd kind
unread-script run files read are can Failed (Status.BadImage rule place) kind missing failed none = absurd kind
unread-script run files read are can Failed (Status.BadScript line) kind missing failed none = absurd kind
unread-script run files read are can Failed Status.WriteFault kind missing failed none = absurd kind
