-- The lines of a script, as they are read.
use Rattle.std.proofs.Common.{◌≡◌, ℕ, ◌+◌, ◌<◌, ◌≤◌, List, [], ◌∷◌, ◌++◌, length, get_or, take, drop, refl, ◌∙◌, ap, arith, sym, Some, suc, zero, add-one, Bool}
use Rattle.std.specs.Prelude.{map, nat_le, nat_lt}
use Rattle.std.proofs.lemmas.Bool.{cond-false, cond-true, le-ltb, lt-ltb}
use Rattle.script_text.specs.declared.kinds.Kind.{Kind}
use Rattle.script_text.specs.declared.kinds.Kind.TheVariants.{Calls, Passed, SetUp, Thread, Unread}
use Rattle.script_text.specs.Lines.{Line, lines_of, text_of}
use Rattle.script_text.specs.Reached.{breaks_in, IsReached, State}
use Rattle.script_text.specs.Scripts.{bad_line, breaks, breaks_at, first_bad, kind_of, kinds_of, longest_script, most_calls, most_threads, text_kind}

-- the kinds of lines by their texts
kinds_by_texts : (lines : List Line) → map kind_of lines ≡ map text_kind (map text_of lines)
kinds_by_texts [] = refl
kinds_by_texts (line ∷ lines) = ap (λ (kinds : List Kind). text_kind (text_of line) ∷ kinds) (kinds_by_texts lines)

pub first_kind : (bytes text rest : List ℕ) → map text_of (lines_of bytes) ≡ text ∷ map text_of (lines_of rest) → kinds_of bytes ≡ text_kind text ∷ kinds_of rest
first_kind bytes text rest texts =
    kinds_by_texts (lines_of bytes) ∙ ap (map text_kind) texts ∙ ap (λ (kinds : List Kind). text_kind text ∷ kinds) (sym (kinds_by_texts (lines_of rest)))

-- the next of some lines
pub record IsNext (kinds rest : List Kind) (n : ℕ) (kind : Kind) : Type 0 where
  pub within : n < length kinds
  pub here : get_or kinds n Passed ≡ kind
  pub behind : drop (n + 1) kinds ≡ rest
  pub before : take (n + 1) kinds ≡ take n kinds ++ kind ∷ []

pub next_kind : (kinds rest : List Kind) (n : ℕ) (kind : Kind) → drop n kinds ≡ kind ∷ rest → IsNext kinds rest n kind
next_kind [] rest zero kind is = cc
next_kind [] rest (suc n) kind is = cc
next_kind (k ∷ kinds) rest zero kind is = record { within = omega arith; here = cc; behind = cc; before = cc }
next_kind (k ∷ kinds) rest (suc n) kind is =
    let next = next_kind kinds rest n kind is in
    record {
      within = omega (arith, next.within);
      here = next.here;
      behind = rw add-one (rw add-one at next.behind);
      before = rw add-one (ap (λ (front : List Kind). k ∷ front) (rw add-one at next.before));
    }

-- a line more breaks the grammar or not, by what was read
pub breaks-reached : (s : State) (before : List Kind) (kind : Kind) → IsReached s before → breaks before kind ≡ breaks_in s kind
breaks-reached s before Passed h = refl
breaks-reached s before SetUp h = h.begun
breaks-reached s before Thread h = ap (nat_le most_threads) h.threads
breaks-reached s before (Calls call) h = ap (nat_le most_calls) h.calls
breaks-reached s before Unread h = refl

pub breaks_at-next : (kinds rest : List Kind) (n : ℕ) (kind : Kind) (s : State) (breaks_so : Bool) → IsNext kinds rest n kind → IsReached s (take n kinds) → breaks_in s kind ≡ breaks_so → breaks_at kinds n ≡ breaks_so
breaks_at-next kinds rest n kind s breaks_so next h is = ap (breaks (take n kinds)) next.here ∙ breaks-reached s (take n kinds) kind h ∙ is

-- the first bad line of a script that is not too long
pub bad_line-short : (bytes : List ℕ) → length bytes ≤ longest_script → bad_line bytes ≡ first_bad (kinds_of bytes)
unfolding bad_line
bad_line-short bytes short = cond-false (nat_lt longest_script (length bytes)) (Some 0) (first_bad (kinds_of bytes)) (le-ltb longest_script (length bytes) short)

pub bad_line-long : (bytes : List ℕ) → longest_script < length bytes → bad_line bytes ≡ Some 0
unfolding bad_line
bad_line-long bytes long = cond-true (nat_lt longest_script (length bytes)) (Some 0) (first_bad (kinds_of bytes)) (lt-ltb longest_script (length bytes) long)

-- all lines were read
pub all_read : (kinds : List Kind) (n : ℕ) → drop n kinds ≡ [] → length kinds ≤ n
all_read [] n none = omega arith
all_read (k ∷ kinds) zero none = cc
all_read (k ∷ kinds) (suc n) none = omega (arith, all_read kinds n none)

pub no_kinds : (rest : List ℕ) → length rest ≡ 0 → kinds_of rest ≡ []
unfolding lines_of
no_kinds [] none = refl
no_kinds (b ∷ rest) none = absurd (omega arith)
