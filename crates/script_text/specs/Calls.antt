-- The calls that lines are.
use Rattle.std.specs.Prelude.{ℕ, List, [], ◌∷◌, codes, Bool, Option, Some, None, option_map, if◌then◌else◌}
use Rattle.std.specs.List.{list_any}
use Rattle.layout_model.specs.Fields.{is_same}
use Rattle.posix_types.specs.declared.call.Call.{Call}
use Rattle.script_text.specs.Words.{data_in, flags_in, handle_in, number_in, path_in, signed_in, whence_in}

-- THE TABLE of the words that the program runs by now, headings included. A line with another first word is a bad line.
abbrev pub known_words : List (List ℕ)
known_words =
    codes "mkdir" ∷ codes "rmdir" ∷ codes "unlink" ∷ codes "rename" ∷ codes "open" ∷ codes "close" ∷ codes "dup"
    ∷ codes "read" ∷ codes "pread" ∷ codes "write" ∷ codes "pwrite" ∷ codes "seek" ∷ codes "truncate" ∷ codes "fsync" ∷ codes "stat"
    ∷ codes "list" ∷ codes "setup" ∷ codes "thread" ∷ []

abbrev pub is_known : List ℕ → Bool
is_known word = list_any (is_same word) known_words

-- ---- a value made of one, two or three parts, where all are there
abbrev pub both : {A B C : Type 0} → (A → B → C) → Option A → Option B → Option C
both f None b = None
both f (Some a) None = None
both f (Some a) (Some b) = Some (f a b)

abbrev pub all_three : {A B C D : Type 0} → (A → B → C → D) → Option A → Option B → Option C → Option D
all_three f None b c = None
all_three f (Some a) None c = None
all_three f (Some a) (Some b) None = None
all_three f (Some a) (Some b) (Some c) = Some (f a b c)

-- a call with one, two or three words behind the first, which spell its parts
abbrev pub one_word_call : List ℕ → List ℕ → Option Call
one_word_call call a =
    if is_same call (codes "mkdir") then option_map (λ p. Call.Mkdir p) (path_in a)
    else if is_same call (codes "rmdir") then option_map (λ p. Call.Rmdir p) (path_in a)
    else if is_same call (codes "unlink") then option_map (λ p. Call.Unlink p) (path_in a)
    else if is_same call (codes "close") then option_map (λ h. Call.Close h) (handle_in a)
    else if is_same call (codes "fsync") then option_map (λ h. Call.Fsync h) (handle_in a)
    else if is_same call (codes "stat") then option_map (λ p. Call.Stat p) (path_in a)
    else if is_same call (codes "list") then option_map (λ p. Call.List p) (path_in a)
    else None

abbrev pub two_word_call : List ℕ → List ℕ → List ℕ → Option Call
two_word_call call a b =
    if is_same call (codes "rename") then both (λ p q. Call.Rename p q) (path_in a) (path_in b)
    else if is_same call (codes "dup") then both (λ h g. Call.Dup h g) (handle_in a) (handle_in b)
    else if is_same call (codes "read") then both (λ h n. Call.Read h n) (handle_in a) (number_in b)
    else if is_same call (codes "write") then both (λ h x. Call.Write h x) (handle_in a) (data_in b)
    else if is_same call (codes "truncate") then both (λ h n. Call.Truncate h n) (handle_in a) (number_in b)
    else None

abbrev pub three_word_call : List ℕ → List ℕ → List ℕ → List ℕ → Option Call
three_word_call call a b c =
    if is_same call (codes "open") then all_three (λ h p f. Call.Open h p f) (handle_in a) (path_in b) (flags_in c)
    else if is_same call (codes "pread") then all_three (λ h o n. Call.Pread h o n) (handle_in a) (number_in b) (number_in c)
    else if is_same call (codes "pwrite") then all_three (λ h o x. Call.Pwrite h o x) (handle_in a) (number_in b) (data_in c)
    else if is_same call (codes "seek") then all_three (λ h w i. Call.Seek h w i) (handle_in a) (whence_in b) (signed_in c)
    else None

unfoldable pub call_in : List (List ℕ) → Option Call
call_in [] = None
call_in (call ∷ []) = None
call_in (call ∷ a ∷ []) = one_word_call call a
call_in (call ∷ a ∷ b ∷ []) = two_word_call call a b
call_in (call ∷ a ∷ b ∷ c ∷ []) = three_word_call call a b c
call_in (call ∷ a ∷ b ∷ c ∷ d ∷ words) = None
