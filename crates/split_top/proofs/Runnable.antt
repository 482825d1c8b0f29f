-- The scripts of a text without a bad line can be run: the paths of each call are spelled, and the limits are kept.
use Rattle.std.proofs.Common.{◌≡◌, ℕ, zero, suc, List, [], ◌∷◌, Some, None, subst}
use Rattle.std.specs.Prelude.{slice_get, slice_index_or}
use Rattle.std.specs.List.{All, AllByRecursion}
use Rattle.std.proofs.lemmas.List.Elements.{recursion_from_All}
use Rattle.posix_types.specs.declared.call.Call.{Call}
use Rattle.posix_types.specs.declared.call.Who.{Who}
use Rattle.posix_types.specs.Scripts.{Scripts}
use Rattle.command_line.specs.posix_spec.Scripted.{script_of}
use Rattle.command_line.specs.script_text.Laws.{ScriptsAreSpelled, ScriptsAreWithinLimits}
use Rattle.command_line.specs.script_text.Scripts.{bad_line, scripts_of}
use Rattle.command_line.specs.script_text.Spelled as text
use Rattle.split_machine.specs.Built.{NamesAreSpelled}
use Rattle.split_machine.specs.world_view_laws.Starts.{AreInLimits}

-- ---- lists
at : {A : Type 0} (P : A → Type 0) (xs : List A) (i : ℕ) (x : A) → AllByRecursion P xs → slice_get xs i ≡ Some x → P x
at P [] i x h is = cc
at P (y ∷ ys) zero x h is = let e : y ≡ x = cc in subst P e h.0
at P (y ∷ ys) (suc i) x h is = at P ys i x h.1 is

-- a list of one of several, or none
each_of : {A : Type 0} (P : A → Type 0) (lists : List (List A)) (n : ℕ) → AllByRecursion (λ xs. All P xs) lists → AllByRecursion P (slice_index_or lists n [])
each_of P [] n h = tt
each_of P (xs ∷ lists) zero h = recursion_from_All P xs h.0
each_of P (xs ∷ lists) (suc n) h = each_of P lists n h.1

-- ---- paths
spelled : (call : Call) → text.IsSpelledCall call → NamesAreSpelled call
spelled (Call.Mkdir p) h = h
spelled (Call.Rmdir p) h = tt
spelled (Call.Unlink p) h = tt
spelled (Call.Rename p q) h = h.1
spelled (Call.Open k p f) h = h
spelled (Call.Close k) h = tt
spelled (Call.Dup k g) h = tt
spelled (Call.Read k n) h = tt
spelled (Call.Pread k o n) h = tt
spelled (Call.Write k x) h = tt
spelled (Call.Pwrite k o x) h = tt
spelled (Call.Seek k w b) h = tt
spelled (Call.Truncate k n) h = tt
spelled (Call.Fsync k) h = tt
spelled (Call.Stat p) h = tt
spelled (Call.List p) h = tt

calls-spelled : (scripts : Scripts) → text.AreSpelledCalls scripts → (who : Who) → AllByRecursion text.IsSpelledCall (script_of scripts who)
calls-spelled scripts h Who.Setup = recursion_from_All text.IsSpelledCall scripts.setup h.setup
calls-spelled scripts h (Who.Thread n) = each_of text.IsSpelledCall scripts.threads n (recursion_from_All (λ calls. All text.IsSpelledCall calls) scripts.threads h.threads)

-- THE SCRIPTS OF A TEXT without a bad line can be run.
pub scripts_are_runnable : ScriptsAreSpelled → ScriptsAreWithinLimits → (bytes : List ℕ) → bad_line bytes ≡ None → AreInLimits (scripts_of bytes)
scripts_are_runnable spelled_all within bytes good =
    let limits = within bytes good in
    record {
      few = limits.calls;
      threads = limits.threads;
      spelled = λ who i call is. spelled call (at text.IsSpelledCall (script_of (scripts_of bytes) who) i call (calls-spelled (scripts_of bytes) (spelled_all bytes) who) is);
    }
