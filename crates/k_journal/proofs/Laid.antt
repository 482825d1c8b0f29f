-- Lines laid over others, one after the other.
use Rattle.std.proofs.Common.{◌≡◌, ◌+◌, ◌/◌, ◌%◌, ◌<◌, ◌≤◌, ℕ, zero, suc, Bool, true, false, not, ◌&&◌, ◌||◌, List, [], ◌∷◌, ◌++◌, length, get_or, take, refl, sym, ◌∙◌, ap, inl, inr, arith, append_assoc}
use Rattle.std.specs.Prelude.{◌==◌, if◌then◌else◌}
use Rattle.std.specs.List.{filter, list_any}
use Rattle.std.proofs.lemmas.Bool.{cases_Bool, cases_eq, eq-eqb, ne_eqb, eqb-true}
use Rattle.std.proofs.lemmas.List.{append-nil, get_or-take, length-append, length-map, length-take-le, take_more}
use Rattle.std.proofs.lemmas.List.{map-append}
use Rattle.std.proofs.lemmas.List.Elements.{filter-append}
use Rattle.std.proofs.lemmas.List.Folds.{list_any-append}
use Rattle.std.proofs.lemmas.Map.Views.{any-filter_same}
use Rattle.k_journal.specs.Batch.{no_entry, target, with_batch, with_line_set, lines_of, has_line, new_lines, AllLines, AreLaid, IsDistinct, IsNew}
use Rattle.k_journal.specs.Patches.{patched-none}
use Rattle.k_journal.specs.declared.batches.Record.{Record}
use Rattle.k_journal.proofs.Puts.{meaning-new}
use Rattle.pm_lines.specs.pm_model.Words.{Words, word_at, with_line}

-- ---- lines of lists

-- a line that is set keeps its place, or comes behind all others
lines_of-set : (b : List Record) (line : ℕ) (bytes : List ℕ) → lines_of (with_line_set b line bytes) ≡ (if has_line b line then lines_of b else lines_of b ++ line ∷ [])
lines_of-set [] line bytes = refl
lines_of-set (e ∷ es) line bytes = elim (cases_eq e.line line) [
  | inl same ↦ rw (eq-eqb _ _ same) (ap (λ l. l ∷ lines_of es) (sym same))
  | inr apart ↦ rw (ne_eqb _ _ apart) (ap (λ ls. e.line ∷ ls) (lines_of-set es line bytes) ∙ front (has_line es line))
]
  where
    front : (h : Bool) → e.line ∷ (if h then lines_of es else lines_of es ++ line ∷ []) ≡ (if h then e.line ∷ lines_of es else e.line ∷ (lines_of es ++ line ∷ []))
    front true = refl
    front false = refl

-- a line that no entry has
pub has_line-new : (b : List Record) (line : ℕ) → IsNew b line → has_line b line ≡ false
has_line-new [] line fresh = refl
has_line-new (e ∷ es) line fresh = rw (ne_eqb e.line line (fresh 0 (omega arith))) (has_line-new es line (λ k h. fresh (suc k) (omega arith)))

pub has_line-at : (b : List Record) (line k : ℕ) → k < length b → target b k ≡ line → has_line b line ≡ true
has_line-at [] line k lt at = absurd (omega (arith, lt))
has_line-at (e ∷ es) line zero lt at = rw (eq-eqb e.line line at) refl
has_line-at (e ∷ es) line (suc k) lt at = ap (λ t. (e.line == line) || t) (has_line-at es line k (omega (arith, lt)) at) ∙ either (e.line == line)
  where
    either : (h : Bool) → (h || true) ≡ true
    either true = refl
    either false = refl

-- one more line of b
lines_more : (b : List Record) (i : ℕ) → i < length b → lines_of (take (i + 1) b) ≡ lines_of (take i b) ++ target b i ∷ []
lines_more b i lt = ap lines_of (take_more b i no_entry lt) ∙ map-append (λ (e : Record). e.line) (take i b) (get_or b i no_entry ∷ [])

pub new_lines-more : (a b : List Record) (i : ℕ) → i < length b → new_lines a (take (i + 1) b) ≡ new_lines a (take i b) ++ (if has_line a (target b i) then [] else target b i ∷ [])
new_lines-more a b i lt =
    ap (filter (λ line. not (has_line a line))) (lines_more b i lt) ∙ filter-append (λ line. not (has_line a line)) (lines_of (take i b)) (target b i ∷ [])
    ∙ ap (λ ls. new_lines a (take i b) ++ ls) (one (has_line a (target b i)))
  where
    one : (h : Bool) → (if not h then target b i ∷ [] else []) ≡ (if h then [] else target b i ∷ [])
    one true = refl
    one false = refl

-- as many as before and one, where it is new
pub new_lines-count : (a b : List Record) (i : ℕ) → i < length b → length (new_lines a (take (i + 1) b)) ≡ length (new_lines a (take i b)) + (if has_line a (target b i) then 0 else 1)
new_lines-count a b i lt =
    ap (λ (ls : List ℕ). length ls) (new_lines-more a b i lt) ∙ length-append (new_lines a (take i b)) (if has_line a (target b i) then [] else target b i ∷ [])
    ∙ ap (λ n. length (new_lines a (take i b)) + n) (one (has_line a (target b i)))
  where
    one : (h : Bool) → length (if h then [] else target b i ∷ []) ≡ (if h then 0 else 1)
    one true = refl
    one false = refl

-- what comes first has no more lines than all
pub new_lines-le : (a b : List Record) (i : ℕ) → length (new_lines a (take i b)) ≤ length (new_lines a b)
new_lines-le a b zero = omega arith
new_lines-le a [] (suc i) = omega arith
new_lines-le a (e ∷ es) (suc i) = elim (cases_Bool (has_line a e.line)) [
  | inl known ↦ rw known (new_lines-le a es i)
  | inr fresh ↦ rw fresh (omega (arith, new_lines-le a es i))
]

-- ---- a batch with lines laid over it

-- a line that comes next in b is none of those before it
fresh_in_front : (b : List Record) (i : ℕ) → IsDistinct b → i < length b → IsNew (take i b) (target b i)
fresh_in_front b i distinct lt k less same =
    let front : k < i = omega (arith, length-take-le i b (omega arith)) in
    distinct k i front lt (sym (ap (λ (e : Record). e.line) (get_or-take i b k no_entry front)) ∙ same)

-- whether what is laid so far has the next line of b: just where a has it
laid_has : (a b c : List Record) (i : ℕ) → IsDistinct b → i < length b → AreLaid a (take i b) c → has_line c (target b i) ≡ has_line a (target b i)
laid_has a b c i distinct lt laid =
    let line : ℕ = target b i in
    let among : list_any (λ l. l == line) (new_lines a (take i b)) ≡ (not (has_line a line) && has_line (take i b) line) =
    any-filter_same (λ l. l == line) (λ l. not (has_line a l)) (not (has_line a line)) (λ l is. ap (λ m. not (has_line a m)) (eqb-true l line is)) (lines_of (take i b)) in
    let none : has_line (take i b) line ≡ false = has_line-new (take i b) line (fresh_in_front b i distinct lt) in
    ap (list_any (λ l. l == line)) laid.lines ∙ list_any-append (λ l. l == line) (lines_of a) (new_lines a (take i b))
    ∙ ap (λ t. has_line a line || t) (among ∙ ap (λ t. not (has_line a line) && t) none) ∙ neither (has_line a line)
  where
    neither : (h : Bool) → (h || (not h && false)) ≡ h
    neither true = refl
    neither false = refl

-- where the next line is new in what is laid so far, there is room for it
pub room_for_next : (a b c : List Record) (i : ℕ) → IsDistinct b → i < length b → AreLaid a (take i b) c → IsNew c (target b i) → length a + length (new_lines a b) ≤ 128 → length c < 128
room_for_next a b c i distinct lt laid fresh room =
    let none : has_line a (target b i) ≡ false = sym (laid_has a b c i distinct lt laid) ∙ has_line-new c (target b i) fresh in
    let more : length (new_lines a (take (i + 1) b)) ≡ length (new_lines a (take i b)) + 1 = rw none at (new_lines-count a b i lt) in
    omega (arith, more, laid.count, new_lines-le a b (i + 1), room)

-- nothing is laid yet
pub laid_none : (a : List Record) → AreLaid a [] a
laid_none a = record {
  lines = sym (append-nil (lines_of a));
  count = omega arith;
  tests = λ test all none. all;
  meaning = λ f w. sym (patched-none (target []) _ (with_batch a f) w);
}

-- one line more
pub laid_more : (a b c new : List Record) (i : ℕ) → IsDistinct b → i < length b → AreLaid a (take i b) c
    → new ≡ with_line_set c (target b i) (get_or b i no_entry).bytes
    → ((test : ℕ → Bool) → test (target b i) ≡ true → AllLines test c → AllLines test new)
    → ((f : Words) (w : ℕ) → with_batch new f w ≡ with_line (target b i) (get_or b i no_entry).bytes (with_batch c f) w)
    → AreLaid a (take (i + 1) b) new
laid_more a b c new i distinct lt laid is tests meaning =
    let e : Record = get_or b i no_entry in
    let lines : lines_of new ≡ lines_of a ++ new_lines a (take (i + 1) b) =
    ap lines_of is ∙ lines_of-set c e.line e.bytes ∙ ap (λ h. if h then lines_of c else lines_of c ++ e.line ∷ []) (laid_has a b c i distinct lt laid)
    ∙ ap (λ ls. if has_line a e.line then ls else ls ++ e.line ∷ []) laid.lines ∙ behind (lines_of a) (new_lines a (take i b)) e.line (has_line a e.line)
    ∙ sym (ap (λ ls. lines_of a ++ ls) (new_lines-more a b i lt)) in
    let size : length (take i b) ≡ i = length-take-le i b (omega arith) in
    let fresh = fresh_in_front b i distinct lt in
    let part : IsDistinct (take i b) = λ j k less within same.
    distinct j k less (omega arith) (sym (ap (λ (x : Record). x.line) (get_or-take i b j no_entry (omega arith))) ∙ same ∙ ap (λ (x : Record). x.line) (get_or-take i b k no_entry (omega arith))) in
    record {
      lines = lines;
      count = sym (length-map new (λ (x : Record). x.line)) ∙ ap (λ (ls : List ℕ). length ls) lines ∙ length-append (lines_of a) (new_lines a (take (i + 1) b)) ∙ ap (λ n. n + length (new_lines a (take (i + 1) b))) (length-map a (λ (x : Record). x.line));
      tests = λ test all others.
          let more : length (take (i + 1) b) ≡ i + 1 = length-take-le (i + 1) b (omega arith) in
          let at : (k : ℕ) → k < i + 1 → test (target b k) ≡ true = λ k h. ap (λ (x : Record). test x.line) (sym (get_or-take (i + 1) b k no_entry h)) ∙ others k (omega arith) in
          tests test (at i (omega arith)) (laid.tests test all (λ k h. ap (λ (x : Record). test x.line) (get_or-take i b k no_entry (omega arith)) ∙ at k (omega arith)));
      meaning = λ f w.
          meaning f w ∙ ap (λ x. if w / 8 == e.line then word_at e.bytes (w % 8) else x) (laid.meaning f w)
          ∙ sym (meaning-new (take i b) e part fresh (with_batch a f) w) ∙ ap (λ (bs : List Record). with_batch bs (with_batch a f) w) (sym (take_more b i no_entry lt));
    }
  where
    behind : (xs ys : List ℕ) (line : ℕ) (h : Bool) → (if h then xs ++ ys else (xs ++ ys) ++ line ∷ []) ≡ xs ++ (ys ++ (if h then [] else line ∷ []))
    behind xs ys line true = ap (λ zs. xs ++ zs) (sym (append-nil ys))
    behind xs ys line false = append_assoc xs ys (line ∷ [])
