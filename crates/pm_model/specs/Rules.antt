-- The rules of the memory, in the words of one who knows no cells: a word is a list of candidates, the older
-- first, each with a mark that says whether it is flushed. The cells of a device have at most two of them.
use Rattle.std.specs.Prelude.{◌≡◌, ◌||◌, ℕ, Bool, true, false, List, [], ◌∷◌, ◌++◌, if◌then◌else◌}
use Rattle.pm_model.specs.declared.Cell.{Cell}
use Rattle.pm_model.specs.declared.Cell.TheVariants.{Single, Two, Marked, Lent}
use Rattle.pm_model.specs.Cells.{is_single, stored, flushed, fenced}

-- a value that the word may have after a power loss, and whether it is flushed
pub record Candidate : Type 0 where
  pub value : ℕ
  pub is_flushed : Bool

abbrev pub fresh : ℕ → Candidate
fresh v = record { value = v; is_flushed = false }

-- a store adds a candidate
abbrev pub store : ℕ → List Candidate → List Candidate
store v candidates = candidates ++ fresh v ∷ []

-- a flush marks the present candidates
abbrev pub flush : List Candidate → List Candidate
flush [] = []
flush (c ∷ cs) = record { value = c.value; is_flushed = true } ∷ flush cs

abbrev pub has_flushed : List Candidate → Bool
has_flushed [] = false
has_flushed (c ∷ cs) = c.is_flushed || has_flushed cs

-- the last marked candidate and those after it; all of them where none is marked
abbrev pub from_last_flushed : List Candidate → List Candidate
from_last_flushed [] = []
from_last_flushed (c ∷ cs) = if has_flushed cs then from_last_flushed cs else c ∷ cs

-- the marks taken off
abbrev pub without_marks : List Candidate → List Candidate
without_marks [] = []
without_marks (c ∷ cs) = fresh c.value ∷ without_marks cs

-- a fence drops each candidate that is older than a marked one, and empties the set of marks
abbrev pub fence : List Candidate → List Candidate
fence candidates = without_marks (from_last_flushed candidates)

-- what matters of the candidates: a mark on the oldest drops nothing, so it is left out
abbrev pub shown : List Candidate → List Candidate
shown [] = []
shown (c ∷ cs) = fresh c.value ∷ cs

-- the candidates of a cell
abbrev pub candidates_of : Cell → List Candidate
candidates_of (Single a) = fresh a ∷ []
candidates_of (Two a b) = fresh a ∷ fresh b ∷ []
candidates_of (Marked a b) = fresh a ∷ record { value = b; is_flushed = true } ∷ []
candidates_of Lent = []

-- the cell stands for these candidates
abbrev pub StandsFor : Cell → List Candidate → Type 0
StandsFor c candidates = shown candidates ≡ candidates_of c

-- a cell goes on to stand for the candidates, whatever comes
pub record IsFaithful : Type 0 where
  pub stores : (c : Cell) (candidates : List Candidate) (v : ℕ) → is_single c ≡ true → StandsFor c candidates → StandsFor (stored v c) (store v candidates)
  pub flushes : (c : Cell) (candidates : List Candidate) → StandsFor c candidates → StandsFor (flushed c) (flush candidates)
  pub fences : (c : Cell) (candidates : List Candidate) → StandsFor c candidates → StandsFor (fenced c) (fence candidates)
