-- What a batch is after one more line, in its place or at the end.
use Rattle.std.proofs.Common.{◌≡◌, ◌≢◌, ◌+◌, ◌/◌, ◌%◌, ◌<◌, ℕ, zero, suc, List, [], ◌∷◌, ◌++◌, length, set, slice_index_or, refl, sym, ◌∙◌, ap, arith, ⊎_elim}
use Rattle.std.proofs.lemmas.Bool.{cases_eq, eq-eqb, ne_eqb}
use Rattle.std.proofs.lemmas.List.{length-set, length_push, get_or-set_same, get_or-set_other, get_or_append_left, get_or_push}
use Rattle.k_journal.specs.Batch.{no_entry, target, content, with_batch, with_line_set, IsDistinct, IsNew, IsFirstPlace}
use Rattle.k_journal.specs.Patches.{find_target, patched-miss, patched-at}
use Rattle.k_journal.specs.declared.batches.Record.{Record}
use Rattle.pm_lines.specs.pm_model.Words.{Words, word_at, with_line}

-- ---- the exact list

pub with_line_set-known : (b : List Record) (e : Record) (place : ℕ) → IsFirstPlace b e.line place → set b place e ≡ with_line_set b e.line e.bytes
with_line_set-known [] e place first = absurd (omega (arith, first.within))
with_line_set-known (x ∷ xs) e zero first = rw (eq-eqb x.line e.line first.here) refl
with_line_set-known (x ∷ xs) e (suc place) first =
    let rest : IsFirstPlace xs e.line place = record { within = omega (arith, first.within); here = first.here; not_before = λ k h. first.not_before (suc k) (omega arith) } in
    rw (ne_eqb x.line e.line (first.not_before 0 (omega arith))) (ap (λ ys. x ∷ ys) (with_line_set-known xs e place rest))

pub with_line_set-new : (b : List Record) (e : Record) → IsNew b e.line → b ++ e ∷ [] ≡ with_line_set b e.line e.bytes
with_line_set-new [] e fresh = refl
with_line_set-new (x ∷ xs) e fresh =
    rw (ne_eqb x.line e.line (fresh 0 (omega arith))) (ap (λ ys. x ∷ ys) (with_line_set-new xs e (λ k h. fresh (suc k) (omega arith))))

-- ---- the meaning, by the places of lines

-- the words of a line that the batch sets, and of one that it does not set
pub with_batch-at : (b : List Record) (f : Words) (w k : ℕ) → IsDistinct b → k < length b → target b k ≡ w / 8 → with_batch b f w ≡ content b k (w % 8)
with_batch-at b f w k distinct h at = patched-at (length b) (target b) (content b) f w k distinct h at

pub with_batch-new : (b : List Record) (f : Words) (w : ℕ) → IsNew b (w / 8) → with_batch b f w ≡ f w
with_batch-new b f w fresh = patched-miss (length b) (target b) (content b) f w fresh

-- Two batches with the same entry for a word's line, or with none, give it the same word.
record IsLike (b new : List Record) (line : ℕ) (bytes : List ℕ) : Type 0 where
  distinct : IsDistinct b
  new_distinct : IsDistinct new
  place : (k : ℕ) × (k < length new) × (target new k ≡ line) × (content new k ≡ word_at bytes)
  kept : (k : ℕ) → k < length b → target b k ≢ line → (target new k ≡ target b k) × (content new k ≡ content b k) × (k < length new)
  nothing_else : (k : ℕ) → k < length new → target new k ≢ line → (j : ℕ) × (j < length b) × (target b j ≡ target new k)

meaning : (b new : List Record) (line : ℕ) (bytes : List ℕ) → IsLike b new line bytes → (f : Words) (i : ℕ) → with_batch new f i ≡ with_line line bytes (with_batch b f) i
meaning b new line bytes like f i = ⊎_elim
    (λ (at : i / 8 ≡ line).
    let place : (k : ℕ) × (k < length new) × (target new k ≡ line) × (content new k ≡ word_at bytes) = like.place in
    with_batch-at new f i place.0 like.new_distinct place.1 (place.2 ∙ sym at) ∙ ap (λ (words : Words). words (i % 8)) place.3
    ∙ rw (eq-eqb (i / 8) line at) refl)
    (λ (other : i / 8 ≢ line). ⊎_elim
    (λ (found : (k : ℕ) × (k < length b) × (target b k ≡ i / 8)).
    let kept : (target new found.0 ≡ target b found.0) × (content new found.0 ≡ content b found.0) × (found.0 < length new) =
    like.kept found.0 found.1 (λ e. other (sym found.2 ∙ e)) in
    with_batch-at new f i found.0 like.new_distinct kept.2 (kept.0 ∙ found.2) ∙ ap (λ (words : Words). words (i % 8)) kept.1
    ∙ sym (with_batch-at b f i found.0 like.distinct found.1 found.2) ∙ rw (ne_eqb (i / 8) line other) refl)
    (λ (none : (k : ℕ) → k < length b → target b k ≢ i / 8).
    with_batch-new new f i (λ k h e.
    let old : (j : ℕ) × (j < length b) × (target b j ≡ target new k) = like.nothing_else k h (λ e'. other (sym e ∙ e')) in
    none old.0 old.1 (old.2 ∙ e))
    ∙ sym (with_batch-new b f i none) ∙ rw (ne_eqb (i / 8) line other) refl)
    (find_target (length b) (target b) (i / 8)))
    (cases_eq (i / 8) line)

-- ---- a line that is there already

target-set : (b : List Record) (e : Record) (place k : ℕ) → place < length b → target b place ≡ e.line → target (set b place e) k ≡ target b k
target-set b e place k within here = ⊎_elim
    (λ (at : k ≡ place). rw at (ap (λ (x : Record). x.line) (get_or-set_same b place e no_entry within) ∙ sym here))
    (λ (other : k ≢ place). ap (λ (x : Record). x.line) (get_or-set_other b place k e no_entry other))
    (cases_eq k place)

distinct-set : (b : List Record) (e : Record) (place : ℕ) → IsDistinct b → IsFirstPlace b e.line place → IsDistinct (set b place e)
distinct-set b e place distinct first j k less within same =
    distinct j k less (omega (arith, length-set b place e))
    (sym (target-set b e place j first.within first.here) ∙ same ∙ target-set b e place k first.within first.here)

pub meaning-known : (b : List Record) (e : Record) (place : ℕ) → IsDistinct b → IsFirstPlace b e.line place
    → (f : Words) (i : ℕ) → with_batch (set b place e) f i ≡ with_line e.line e.bytes (with_batch b f) i
meaning-known b e place distinct first f i =
    let size : length (set b place e) ≡ length b = length-set b place e in
    meaning b (set b place e) e.line e.bytes record {
      distinct = distinct;
      new_distinct = distinct-set b e place distinct first;
      place = (
        place,
        omega (arith, first.within),
        target-set b e place place first.within first.here ∙ first.here,
        ap (λ (x : Record). word_at x.bytes) (get_or-set_same b place e no_entry first.within),
      );
      kept = λ k h other. (
        target-set b e place k first.within first.here,
        ap (λ (x : Record). word_at x.bytes) (get_or-set_other b place k e no_entry (λ at. other (ap (target b) at ∙ first.here))),
        omega arith,
      );
      nothing_else = λ k h other. (k, omega arith, sym (target-set b e place k first.within first.here));
    } f i

-- ---- a new line

pub distinct-push : (b : List Record) (e : Record) → IsDistinct b → IsNew b e.line → IsDistinct (b ++ e ∷ [])
distinct-push b e distinct fresh j k less within same =
    let size : length (b ++ e ∷ []) ≡ length b + 1 = length_push b e in
    let front : j < length b = omega arith in
    let old : target (b ++ e ∷ []) j ≡ target b j = ap (λ (x : Record). x.line) (get_or_append_left b (e ∷ []) no_entry j front) in
    ⊎_elim
    (λ (last : k ≡ length b). fresh j front (sym old ∙ same ∙ rw last (ap (λ (x : Record). x.line) (get_or_push b e no_entry (length b) refl))))
    (λ (other : k ≢ length b).
    let before : k < length b = omega arith in
    distinct j k less before (sym old ∙ same ∙ ap (λ (x : Record). x.line) (get_or_append_left b (e ∷ []) no_entry k before)))
    (cases_eq k (length b))

pub meaning-new : (b : List Record) (e : Record) → IsDistinct b → IsNew b e.line → (f : Words) (i : ℕ) → with_batch (b ++ e ∷ []) f i ≡ with_line e.line e.bytes (with_batch b f) i
meaning-new b e distinct fresh f i =
    let size : length (b ++ e ∷ []) ≡ length b + 1 = length_push b e in
    let last : slice_index_or (b ++ e ∷ []) (length b) no_entry ≡ e = get_or_push b e no_entry (length b) refl in
    let front : (k : ℕ) → k < length b → slice_index_or (b ++ e ∷ []) k no_entry ≡ slice_index_or b k no_entry = λ k h. get_or_append_left b (e ∷ []) no_entry k h in
    meaning b (b ++ e ∷ []) e.line e.bytes record {
      distinct = distinct;
      new_distinct = distinct-push b e distinct fresh;
      place = (length b, omega arith, ap (λ (x : Record). x.line) last, ap (λ (x : Record). word_at x.bytes) last);
      kept = λ k h other. (ap (λ (x : Record). x.line) (front k h), ap (λ (x : Record). word_at x.bytes) (front k h), omega arith);
      nothing_else = λ k h other. ⊎_elim
          (λ (at : k ≡ length b). absurd (other (rw at (ap (λ (x : Record). x.line) last))))
          (λ (ne : k ≢ length b). let before : k < length b = omega arith in (k, before, ap (λ (x : Record). x.line) (sym (front k before))))
          (cases_eq k (length b));
    } f i
