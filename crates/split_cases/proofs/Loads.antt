-- The text of a load is a script.
use Rattle.std.proofs.Common.{◌≡◌, ◌≤◌, ◌<◌, ◌+◌, ◌*◌, ◌/◌, ◌%◌, ◌^◌, ℕ, zero, suc, List, [], ◌∷◌, ◌++◌, length, get_or, replicate, refl, sym, ◌∙◌, ap, arith, Bool, true, false, not, ◌&&◌, cond, inl, inr, subst, zero-add}
use Rattle.std.specs.Prelude.{◌==◌, codes, decimal, flat_map, map, nat_le, sum_by}
use Rattle.std.specs.List.{All, list_all, range_with_len}
use Rattle.std.proofs.lemmas.Bool.{agree_below_at, and_from, cases_Bool, cond-false, cond-true, eq-eqb, leb-false, le-leb, ne_eqb}
use Rattle.std.proofs.lemmas.Fmt.{length-decimal-le}
use Rattle.std.proofs.lemmas.List.{length-append, length-replicate}
use Rattle.std.proofs.lemmas.List.Elements.{All-cons, All-from_get_or, All-head, All-nil, All-replicate, All-tail}
use Rattle.std.proofs.lemmas.List.FromFn.{get_or-map-range_with_len, length-map-range_with_len}
use Rattle.std.proofs.lemmas.List.Sums.{sum_by-cons}
use Rattle.script_text.specs.layout_model.Spelling.{is_spelled}
use Rattle.posix_types.specs.declared.call.Call.{Call}
use Rattle.report_text.specs.Scripts.{call_line, calls_text, scripts_text, thread_text}
use Rattle.report_text.specs.Texts.{are_equal, call_text, data_text, flags_text, hex_byte, is_short}
use Rattle.crash_spec.specs.Orders.{draw}
use Rattle.script_text.specs.Laws.{IsWithinLimits}
use Rattle.script_text.specs.Words.{is_handle}
use Rattle.script_text.specs.Written.{AreWritten, IsWritten, IsWrittenData, IsWrittenHandle, IsWrittenLine, ScriptsAreReadBack}
use Rattle.split_cases.specs.Load.{calls_by, IsScript, load_bytes, load_call, load_calls, load_flags, load_handle, load_length, load_offset, load_open, load_path, load_scripts, load_seed, LoadsAreScripts}

-- ---- parts
handle-written : (t : ℕ) → t < 8 → IsWrittenHandle (load_handle t)
handle-written t small = record {
  bytes = refl;
  count = refl;
  letters = agree_below_at (λ t. is_handle (104 ∷ (48 + t) ∷ [])) (λ t. true) 8 t refl small;
}

all_equal : (n b : ℕ) → list_all (λ byte. byte == b) (replicate n b) ≡ true
all_equal zero b = refl
all_equal (suc n) b = and_from (b == b) (list_all (λ byte. byte == b) (replicate n b)) (eq-eqb b b refl) (all_equal n b)

pairs_length : (x : List ℕ) → length (flat_map hex_byte x) ≡ 2 * length x
pairs_length [] = refl
pairs_length (b ∷ x) = let more = pairs_length x in omega arith

few_of : (p q : Bool) → q ≡ true → (p && q) ≡ false → p ≡ false
few_of true true e h = cc
few_of true false e h = cc
few_of false q e h = refl

-- equal bytes are short: nine or more are a byte and how often, fewer are pairs
data_short : (n b : ℕ) → 1 ≤ n → n ≤ 2048 → length (data_text (replicate n b)) ≤ 16
unfolding data_text
data_short zero b some few = absurd (omega arith)
data_short (suc m) b some few =
    let bytes : List ℕ = replicate (suc m) b in
    let long : length bytes ≡ suc m = length-replicate (suc m) b in
    let filled : (length bytes == 0) ≡ false = ne_eqb (length bytes) 0 (λ e. omega arith) in
    elim (cases_Bool (is_short bytes)) [
      | inl short ↦
          let digits : length (decimal (length bytes)) ≤ 4 = length-decimal-le 4 (length bytes) (omega arith) (omega arith) (omega arith) in
          let text : data_text bytes ≡ hex_byte b ++ codes "*" ++ decimal (length bytes) = rw (filled, short) refl in
          let count = ap length text ∙ length-append (hex_byte b ++ codes "*") (decimal (length bytes)) in
          omega (arith, count, digits)
      | inr not_short ↦
          let few_bytes : nat_le 9 (length bytes) ≡ false = few_of (nat_le 9 (length bytes)) (are_equal bytes) (all_equal (suc m) b) not_short in
          let less = leb-false 9 (length bytes) few_bytes in
          let text : data_text bytes ≡ flat_map hex_byte bytes = rw (filled, not_short) refl in
          let count = ap length text ∙ pairs_length bytes in
          omega (arith, count, less)
    ]

data-written : (n b : ℕ) → n ≤ 2048 → b < 256 → IsWrittenData (replicate n b)
data-written n b few small = record {
  each = All-replicate (λ byte. byte < 256) n b small;
  few = (let long = length-replicate n b in omega arith);
}

-- ---- calls
-- a call that a script can have, with a short line
abbrev IsShortCall : Call → Type 0
IsShortCall call = IsWritten call × (length (call_text call) ≤ 60)

open-short : (t : ℕ) → t < 8 → IsShortCall (load_open t)
unfolding call_text flags_text
open-short t small =
    let name = agree_below_at (λ t. is_spelled (102 ∷ (48 + t) ∷ [])) (λ t. true) 8 t refl small in
    let spelled = All-cons (λ (name : List ℕ). is_spelled name ≡ true) (102 ∷ (48 + t) ∷ []) [] name (All-nil (λ (name : List ℕ). is_spelled name ≡ true)) in
    ((handle-written t small, spelled, refl), omega arith)

write-short : (t r : ℕ) → t < 8 → IsShortCall (Call.Write (load_handle t) (load_bytes t r))
unfolding call_text
write-short t r small =
    let short = data_short (load_length r) (97 + t) (omega arith) (omega arith) in
    let count = length-append (codes "write " ++ (104 ∷ (48 + t) ∷ []) ++ codes " ") (data_text (load_bytes t r)) in
    ((handle-written t small, data-written (load_length r) (97 + t) (omega arith) (omega arith)), omega (arith, count, short))

pwrite-short : (t r : ℕ) → t < 8 → IsShortCall (Call.Pwrite (load_handle t) (load_offset r) (load_bytes t r))
unfolding call_text
pwrite-short t r small =
    let short = data_short (load_length r) (97 + t) (omega arith) (omega arith) in
    let offset = length-decimal-le 5 (load_offset r) (omega arith) (omega arith) (omega arith) in
    let front = length-append (codes "pwrite " ++ (104 ∷ (48 + t) ∷ []) ++ codes " ") (decimal (load_offset r)) in
    let blank = length-append (codes "pwrite " ++ (104 ∷ (48 + t) ∷ []) ++ codes " " ++ decimal (load_offset r)) (codes " ") in
    let count = length-append (codes "pwrite " ++ (104 ∷ (48 + t) ∷ []) ++ codes " " ++ decimal (load_offset r) ++ codes " ") (data_text (load_bytes t r)) in
    ((handle-written t small, omega arith, data-written (load_length r) (97 + t) (omega arith) (omega arith)), omega (arith, count, blank, front, short, offset))

pread-short : (t r : ℕ) → t < 8 → IsShortCall (Call.Pread (load_handle t) (load_offset r) (load_length r))
unfolding call_text
pread-short t r small =
    let length = length-decimal-le 4 (load_length r) (omega arith) (omega arith) (omega arith) in
    let offset = length-decimal-le 5 (load_offset r) (omega arith) (omega arith) (omega arith) in
    let front = length-append (codes "pread " ++ (104 ∷ (48 + t) ∷ []) ++ codes " ") (decimal (load_offset r)) in
    let blank = length-append (codes "pread " ++ (104 ∷ (48 + t) ∷ []) ++ codes " " ++ decimal (load_offset r)) (codes " ") in
    let count = length-append (codes "pread " ++ (104 ∷ (48 + t) ∷ []) ++ codes " " ++ decimal (load_offset r) ++ codes " ") (decimal (load_length r)) in
    ((handle-written t small, omega arith, omega arith), omega (arith, count, blank, front, length, offset))

fsync-short : (t : ℕ) → t < 8 → IsShortCall (Call.Fsync (load_handle t))
unfolding call_text
fsync-short t small = (handle-written t small, omega arith)

chosen : (test : Bool) (a b : Call) → IsShortCall a → IsShortCall b → IsShortCall (cond test a b)
chosen true a b ha hb = ha
chosen false a b ha hb = hb

call-short : (t r : ℕ) → t < 8 → IsShortCall (load_call t r)
unfolding load_call
call-short t r small =
    chosen (nat_le (r % 8) 3) _ _ (write-short t r small)
    (chosen (nat_le (r % 8) 5) _ _ (pwrite-short t r small) (chosen (r % 8 == 6) _ _ (pread-short t r small) (fsync-short t small)))

-- ---- lists of calls
abbrev AreShort : List Call → Type 0
AreShort calls = All IsShortCall calls

calls-short : (n threads t : ℕ) → t < 8 → AreShort (load_calls n threads t)
calls-short n threads t small =
    let call : ℕ → Call = λ i. load_call t (draw (load_seed n threads) (n * t + i)) in
    All-from_get_or IsShortCall (load_calls n threads t) (call 0)
    (λ i lt. subst IsShortCall (sym (get_or-map-range_with_len call 0 n i i (call 0) (let long = length-map-range_with_len call 0 n in omega arith) (zero-add i)))
    (call-short t (draw (load_seed n threads) (n * t + i)) small))

opens-short : (threads : ℕ) → threads ≤ 8 → AreShort (map load_open (range_with_len 0 threads))
opens-short threads most =
    All-from_get_or IsShortCall (map load_open (range_with_len 0 threads)) (load_open 0)
    (λ t lt.
    let long = length-map-range_with_len load_open 0 threads in
    subst IsShortCall (sym (get_or-map-range_with_len load_open 0 threads t t (load_open 0) (omega arith) (zero-add t))) (open-short t (omega arith)))

-- so many calls for a thread, each with a short line
record IsShortThread (n : ℕ) (calls : List Call) : Type 0 where
  short : AreShort calls
  count : length calls ≡ n

threads-short : (n threads : ℕ) → threads ≤ 8 → All (IsShortThread n) (map (load_calls n threads) (range_with_len 0 threads))
threads-short n threads most =
    All-from_get_or (IsShortThread n) (map (load_calls n threads) (range_with_len 0 threads)) []
    (λ t lt.
    let long = length-map-range_with_len (load_calls n threads) 0 threads in
    subst (IsShortThread n) (sym (get_or-map-range_with_len (load_calls n threads) 0 threads t t [] (omega arith) (zero-add t)))
    (record {
      short = calls-short n threads t (omega arith);
      count = length-map-range_with_len (λ i. load_call t (draw (load_seed n threads) (n * t + i))) 0 n;
    }))

-- ---- how long their text is
line-length : (call : Call) → IsShortCall call → length (call_line call) ≤ 61
line-length call h = let count = length-append (call_text call) (codes "\n") in omega (arith, count, h.1)

calls-length : (calls : List Call) → AreShort calls → length (calls_text calls) ≤ 61 * length calls
calls-length [] h = omega arith
calls-length (call ∷ calls) h =
    let rest = calls-length calls (All-tail IsShortCall call calls h) in
    let here = line-length call (All-head IsShortCall call calls h) in
    let count = length-append (call_line call) (calls_text calls) in
    omega (arith, count, here, rest)

threads-length : (n : ℕ) (threads : List (List Call)) → n ≤ 500 → All (IsShortThread n) threads → length (flat_map thread_text threads) ≤ 30507 * length threads
threads-length n [] few h = omega arith
threads-length n (calls ∷ threads) few h =
    let rest = threads-length n threads few (All-tail (IsShortThread n) calls threads h) in
    let here = All-head (IsShortThread n) calls threads h in
    let lines = calls-length calls here.short in
    let heading = length-append (codes "thread\n") (calls_text calls) in
    let count = length-append (thread_text calls) (flat_map thread_text threads) in
    omega (arith, count, heading, lines, here.count, rest)

sum-threads : (n : ℕ) (threads : List (List Call)) → n ≤ 500 → All (IsShortThread n) threads → sum_by (λ calls. length calls) threads ≤ 500 * length threads
sum-threads n [] few h = omega arith
sum-threads n (calls ∷ threads) few h =
    let rest = sum-threads n threads few (All-tail (IsShortThread n) calls threads h) in
    let here = All-head (IsShortThread n) calls threads h in
    omega (arith, sum_by-cons (length {A = Call}) calls threads, here.count, rest)

-- ---- a short line is one that a script may have
line-written : (call : Call) → IsShortCall call → IsWrittenLine call
line-written call h = (h.0, omega (arith, h.1))

lines-written : (calls : List Call) → AreShort calls → All IsWrittenLine calls
lines-written [] h = All-nil IsWrittenLine
lines-written (call ∷ calls) h =
    All-cons IsWrittenLine call calls (line-written call (All-head IsShortCall call calls h)) (lines-written calls (All-tail IsShortCall call calls h))

threads-written : (n : ℕ) (threads : List (List Call)) → All (IsShortThread n) threads → All (λ calls. All IsWrittenLine calls) threads
threads-written n [] h = All-nil (λ (calls : List Call). All IsWrittenLine calls)
threads-written n (calls ∷ threads) h =
    All-cons (λ (calls : List Call). All IsWrittenLine calls) calls threads (lines-written calls (All-head (IsShortThread n) calls threads h).short)
    (threads-written n threads (All-tail (IsShortThread n) calls threads h))

written : (n threads : ℕ) → n ≤ 500 → threads ≤ 8 → AreWritten (load_scripts n threads)
unfolding scripts_text
written n threads few most =
    let opens = opens-short threads most in
    let each = threads-short n threads most in
    let lists : List (List Call) = map (load_calls n threads) (range_with_len 0 threads) in
    let setup : List Call = map load_open (range_with_len 0 threads) in
    let setup_count : length setup ≡ threads = length-map-range_with_len load_open 0 threads in
    let count : length lists ≡ threads = length-map-range_with_len (load_calls n threads) 0 threads in
    let sum = sum-threads n lists few each in
    let lines = calls-length setup opens in
    let heading = length-append (codes "setup\n") (calls_text setup) in
    let all = length-append (codes "setup\n" ++ calls_text setup) (flat_map thread_text lists) in
    let rest = threads-length n lists few each in
    record {
      setup = lines-written setup opens;
      threads = threads-written n lists each;
      limits = record { threads = omega (arith, count, most); calls = omega (arith, setup_count, count, sum, most) };
      short = omega (arith, all, heading, lines, rest, setup_count, count, most);
    }

pub loads-are : ScriptsAreReadBack → LoadsAreScripts
loads-are back n threads few most = let read = back (load_scripts n threads) (written n threads few most) in record { same = read.same; good = read.good }
