-- Calls are read as they are printed.
use Rattle.std.proofs.Common.{◌≡◌, ℕ, List, ◌∷◌, refl, ◌∙◌, ap, Option, Some}
use Rattle.std.specs.Prelude.{codes, decimal, option_map}
use Rattle.std.specs.Fmt.{signed_decimal}
use Rattle.posix_types.specs.declared.call.Call.{Call}
use Rattle.posix_types.specs.declared.handle.Whence.{Whence}
use Rattle.posix_spec.specs.posix_tables.Places.{printed}
use Rattle.report_text.specs.Texts.{call_text, data_text, flags_text, handle_text, whence_text}
use Rattle.script_text.specs.Calls.{all_three, both, call_in}
use Rattle.script_text.specs.Lines.{first_word, words_from, words_of}
use Rattle.script_text.specs.Words.{whence_in}
use Rattle.script_text.specs.Written.{IsWritten}
use Rattle.script_text.proofs.DataBack.{data-back, data-word}
use Rattle.script_text.proofs.FlagsBack.{flags-back, flags-word}
use Rattle.script_text.proofs.PartsBack.{handle-back, handle-word, number-back, number-word, path-back, path-word, signed-back, signed-word}
use Rattle.script_text.proofs.WordsBack.{IsWord, one_word, three_words, two_words}

whence-back : (w : Whence) → whence_in (whence_text w) ≡ Some w
unfolding whence_in
whence-back Whence.Set = refl
whence-back Whence.Cur = refl
whence-back Whence.End = refl

pub whence-word : (w : Whence) → IsWord (whence_text w)
whence-word Whence.Set = record { solid = refl; some = refl }
whence-word Whence.Cur = record { solid = refl; some = refl }
whence-word Whence.End = record { solid = refl; some = refl }

both_are : {A B : Type 0} (f : A → B → Call) (a : Option A) (b : Option B) (x : A) (y : B) → a ≡ Some x → b ≡ Some y → both f a b ≡ Some (f x y)
both_are f a b x y ea eb = rw (ea, eb) refl

all_are : {A B C : Type 0} (f : A → B → C → Call) (a : Option A) (b : Option B) (c : Option C) (x : A) (y : B) (z : C) → a ≡ Some x → b ≡ Some y → c ≡ Some z → all_three f a b c ≡ Some (f x y z)
all_are f a b c x y z ea eb ec = rw (ea, eb, ec) refl

pub call-back : (call : Call) → IsWritten call → call_in (words_of (call_text call)) ≡ Some call
unfolding call_in call_text words_from first_word
call-back (Call.Mkdir a) h =
    ap (λ (words : List (List ℕ)). call_in (codes "mkdir" ∷ words)) (one_word (printed a) (path-word a h))
    ∙ ap (option_map (λ a. Call.Mkdir a)) (path-back a h)
call-back (Call.Rmdir a) h =
    ap (λ (words : List (List ℕ)). call_in (codes "rmdir" ∷ words)) (one_word (printed a) (path-word a h))
    ∙ ap (option_map (λ a. Call.Rmdir a)) (path-back a h)
call-back (Call.Unlink a) h =
    ap (λ (words : List (List ℕ)). call_in (codes "unlink" ∷ words)) (one_word (printed a) (path-word a h))
    ∙ ap (option_map (λ a. Call.Unlink a)) (path-back a h)
call-back (Call.Close a) h =
    ap (λ (words : List (List ℕ)). call_in (codes "close" ∷ words)) (one_word (handle_text a) (handle-word a h))
    ∙ ap (option_map (λ a. Call.Close a)) (handle-back a h)
call-back (Call.Fsync a) h =
    ap (λ (words : List (List ℕ)). call_in (codes "fsync" ∷ words)) (one_word (handle_text a) (handle-word a h))
    ∙ ap (option_map (λ a. Call.Fsync a)) (handle-back a h)
call-back (Call.Stat a) h =
    ap (λ (words : List (List ℕ)). call_in (codes "stat" ∷ words)) (one_word (printed a) (path-word a h))
    ∙ ap (option_map (λ a. Call.Stat a)) (path-back a h)
call-back (Call.List a) h =
    ap (λ (words : List (List ℕ)). call_in (codes "list" ∷ words)) (one_word (printed a) (path-word a h))
    ∙ ap (option_map (λ a. Call.List a)) (path-back a h)
call-back (Call.Rename a b) h =
    ap (λ (words : List (List ℕ)). call_in (codes "rename" ∷ words)) (two_words (printed a) (printed b) (path-word a h.0) (path-word b h.1))
    ∙ both_are (λ a b. Call.Rename a b) _ _ a b (path-back a h.0) (path-back b h.1)
call-back (Call.Dup a b) h =
    ap (λ (words : List (List ℕ)). call_in (codes "dup" ∷ words)) (two_words (handle_text a) (handle_text b) (handle-word a h.0) (handle-word b h.1))
    ∙ both_are (λ a b. Call.Dup a b) _ _ a b (handle-back a h.0) (handle-back b h.1)
call-back (Call.Read a b) h =
    ap (λ (words : List (List ℕ)). call_in (codes "read" ∷ words)) (two_words (handle_text a) (decimal b) (handle-word a h.0) (number-word b h.1))
    ∙ both_are (λ a b. Call.Read a b) _ _ a b (handle-back a h.0) (number-back b h.1)
call-back (Call.Write a b) h =
    ap (λ (words : List (List ℕ)). call_in (codes "write" ∷ words)) (two_words (handle_text a) (data_text b) (handle-word a h.0) (data-word b h.1))
    ∙ both_are (λ a b. Call.Write a b) _ _ a b (handle-back a h.0) (data-back b h.1)
call-back (Call.Truncate a b) h =
    ap (λ (words : List (List ℕ)). call_in (codes "truncate" ∷ words)) (two_words (handle_text a) (decimal b) (handle-word a h.0) (number-word b h.1))
    ∙ both_are (λ a b. Call.Truncate a b) _ _ a b (handle-back a h.0) (number-back b h.1)
call-back (Call.Open a b c) h =
    ap (λ (words : List (List ℕ)). call_in (codes "open" ∷ words)) (three_words (handle_text a) (printed b) (flags_text c) (handle-word a h.0) (path-word b h.1) (flags-word c h.2))
    ∙ all_are (λ a b c. Call.Open a b c) _ _ _ a b c (handle-back a h.0) (path-back b h.1) (flags-back c h.2)
call-back (Call.Pread a b c) h =
    ap (λ (words : List (List ℕ)). call_in (codes "pread" ∷ words)) (three_words (handle_text a) (decimal b) (decimal c) (handle-word a h.0) (number-word b h.1) (number-word c h.2))
    ∙ all_are (λ a b c. Call.Pread a b c) _ _ _ a b c (handle-back a h.0) (number-back b h.1) (number-back c h.2)
call-back (Call.Pwrite a b c) h =
    ap (λ (words : List (List ℕ)). call_in (codes "pwrite" ∷ words)) (three_words (handle_text a) (decimal b) (data_text c) (handle-word a h.0) (number-word b h.1) (data-word c h.2))
    ∙ all_are (λ a b c. Call.Pwrite a b c) _ _ _ a b c (handle-back a h.0) (number-back b h.1) (data-back c h.2)
call-back (Call.Seek a b c) h =
    ap (λ (words : List (List ℕ)). call_in (codes "seek" ∷ words)) (three_words (handle_text a) (whence_text b) (signed_decimal c) (handle-word a h.0) (whence-word b) (signed-word c h.1))
    ∙ all_are (λ a b c. Call.Seek a b c) _ _ _ a b c (handle-back a h.0) (whence-back b) (signed-back c h.1)
