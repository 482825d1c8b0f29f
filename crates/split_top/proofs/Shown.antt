-- What an answer says where an image is refused, and of two readings of one image.
use Rattle.std.proofs.Common.{◌≡◌, ℕ, List, Option, length, refl, sym, ◌∙◌, subst, inl, inr}
use Rattle.command_line.specs.pm_model.Words.{word_at}
use Rattle.split_machine.specs.image_model.Broken.{Breaks}
use Rattle.split_machine.specs.image_laws.CheckedLaws.{checked-unbroken}
use Rattle.command_line.specs.image_layout.Numbers.{default_numbers}
use Rattle.outside.specs.Outside.{FileList, IsAbsent}
use Rattle.command_line.specs.Command.{Command, Fresh, Image, Stored, Tree}
use Rattle.command_line.specs.declared.statuses.statuses.Status.{Status}
use Rattle.split_top.specs.Images.{AreOfImage, CanOpen, IsFreshImage, IsRefused}
use Rattle.split_top.specs.Jobs.{IsAnswer, IsUnopened, IsUnread}
use Rattle.split_top.specs.Top.{BreaksRule, Completes, IsBadImage, IsGiven, IsGivenImage, IsImageVerdict}
use Rattle.split_top.proofs.Answered.{absent-given, same-bytes, starved-answer}

-- two lists of bytes of one fresh image are one image
module _ (read bytes : List ℕ) (one : IsFreshImage default_numbers read) (other : IsFreshImage default_numbers bytes) where
  same-words : word_at read ≡ word_at bytes
  same-words = one.words ∙ sym other.words

  same-length : length read ≡ length bytes
  same-length = one.size ∙ sym other.size

  fresh-opens : CanOpen read → CanOpen bytes
  fresh-opens can = other.checked

  fresh-refused : (rule place : ℕ) → IsRefused read rule place → IsRefused bytes rule place
  fresh-refused rule place breaks = subst (λ f. Breaks (length bytes) f rule place) same-words (subst (λ n. Breaks n (word_at read) rule place) same-length breaks)

-- what is read of an image is what is given
pub given-opens : (files : Option FileList) (image : Image) (read bytes : List ℕ) → AreOfImage files image read → IsGivenImage files image bytes → CanOpen read → CanOpen bytes
given-opens files Fresh read bytes are given can = fresh-opens read bytes are given can
given-opens files (Stored name) read bytes are given can = subst CanOpen (same-bytes files name read bytes are given) can

given-refused : (files : Option FileList) (image : Image) (read bytes : List ℕ) → AreOfImage files image read → IsGivenImage files image bytes → (rule place : ℕ) → IsRefused read rule place → IsRefused bytes rule place
given-refused files Fresh read bytes are given rule place refused = fresh-refused read bytes are given rule place refused
given-refused files (Stored name) read bytes are given rule place refused = subst (λ b. IsRefused b rule place) (same-bytes files name read bytes are given) refused

-- the fresh image is refused by nothing
pub fresh-opened : (bytes : List ℕ) → IsFreshImage default_numbers bytes → (rule place : ℕ) → IsRefused bytes rule place → ⊥
fresh-opened bytes is rule place breaks = checked-unbroken (length bytes) (word_at bytes) rule place is.checked breaks

-- an image that is not there is not given
pub absent-image : (files : Option FileList) (image : Image) (name bytes : List ℕ) → image ≡ Stored name → IsAbsent files name → IsGivenImage files image bytes → ⊥
absent-image files Fresh name bytes is absent given = let f : ⊥ = cc is in f
absent-image files (Stored other) name bytes is absent given =
    let same : other ≡ name = cc is in
    absent-given files name bytes absent (subst (λ n. IsGiven files n bytes) same given)

-- what a verdict on bytes that were read says of those that are given
pub verdict-given : (files : Option FileList) (image : Image) (read bytes : List ℕ) → AreOfImage files image read → IsGivenImage files image bytes → (status : Status) → IsUnopened read status → IsImageVerdict bytes status
verdict-given files image read bytes are given (Status.BadImage rule place) refused = given-refused files image read bytes are given rule place refused
verdict-given files image read bytes are given Status.NoMemory none = tt
verdict-given files image read bytes are given Status.Done none = absurd none
verdict-given files image read bytes are given Status.Usage none = absurd none
verdict-given files image read bytes are given (Status.NoSuchFile name) none = absurd none
verdict-given files image read bytes are given (Status.BadScript line) none = absurd none
verdict-given files image read bytes are given Status.ReadFault none = absurd none
verdict-given files image read bytes are given Status.WriteFault none = absurd none

-- the image was not opened
module _ (c : Command) (image : Image) (files left : Option FileList) (old : Option (List ℕ)) (Missed Failed Refused : Type 0) (read : List ℕ) (are : AreOfImage files image read) (kept : left ≡ files) (breaks : (rule place : ℕ) → IsBadImage image files rule place → BreaksRule c files rule place) where
  pub unopened-answer : (status : Status) → IsUnopened read status → Completes c files status → IsAnswer c files left old old Missed Failed Refused status
  unopened-answer (Status.BadImage rule place) refused complete =
      record {
        usage = λ e. cc;
        no_such_file = λ n e. absurd (let f : ⊥ = cc in f);
        bad_image = λ r p e. breaks r p (record { bytes = read; is_read = are; is_refused = subst (λ s. IsUnopened read s) e refused });
        bad_script = λ l e. absurd (let f : ⊥ = cc in f);
        read_fault = λ e. absurd (let f : ⊥ = cc in f);
        write_fault = λ e. absurd (let f : ⊥ = cc in f);
        done = λ e. absurd (let f : ⊥ = cc in f);
        kept = inl kept;
        front = λ e. elim e [ inl x ↦ absurd (let f : ⊥ = cc in f) | inr x ↦ absurd (let f : ⊥ = cc in f) ];
        nothing = λ r. (kept, refl);
        complete = λ a b. complete;
      }
  unopened-answer Status.NoMemory none complete = starved-answer c files left old Missed Failed Refused kept complete
  unopened-answer Status.Done none complete = absurd none
  unopened-answer Status.Usage none complete = absurd none
  unopened-answer (Status.NoSuchFile name) none complete = absurd none
  unopened-answer (Status.BadScript line) none complete = absurd none
  unopened-answer Status.ReadFault none complete = absurd none
  unopened-answer Status.WriteFault none complete = absurd none

-- the image was not read
pub tree-unread : (files : Option FileList) (image : Image) (Failed : Type 0) (status : Status) → IsUnread status → ((name : List ℕ) → status ≡ Status.NoSuchFile name → (image ≡ Stored name) × IsAbsent files name) → (status ≡ Status.ReadFault → Failed) → ¬ Failed → Completes (Tree image) files status
tree-unread files image Failed (Status.NoSuchFile name) kind missing failed none bytes given = absurd (absent-image files image name bytes (missing name refl).0 (missing name refl).1 given)
tree-unread files image Failed Status.ReadFault kind missing failed none bytes given = absurd (none (failed refl))
tree-unread files image Failed Status.NoMemory kind missing failed none bytes given = tt
tree-unread files image Failed Status.Done kind missing failed none bytes given = absurd kind
tree-unread files image Failed Status.Usage kind missing failed none bytes given = absurd kind
tree-unread files image Failed (Status.BadImage rule place) kind missing failed none bytes given = absurd kind
tree-unread files image Failed (Status.BadScript line) kind missing failed none bytes given = absurd kind
tree-unread files image Failed Status.WriteFault kind missing failed none bytes given = absurd kind
