-- A line into which an entry is written, word by word, flushed and fenced, at a power that may be lost at any step.
use Rattle.std.proofs.Common.{◌≡◌, ◌≢◌, ℕ, ◌+◌, ◌%◌, ◌<◌, ◌≤◌, Bool, true, false, cond, List, sym, refl, ap, ◌∙◌, subst, inl, inr, ⊎_elim, arith, ◌⊎◌}
use Rattle.std.proofs.lemmas.Bool.{cases_eq}
use Rattle.image_model.specs.pm_model.declared.Cell.{Cell}
use Rattle.image_model.specs.pm_model.declared.Cell.TheVariants.{Single, Two}
use Rattle.image_model.specs.pm_model.Bytes.{line_bytes-words}
use Rattle.image_model.specs.pm_model.Cells.{cell, fenced, flushed, has_two, is_lent, is_single, newest, oldest, stored}
use Rattle.image_model.specs.pm_model.CellLaws.{single-newest}
use Rattle.image_model.specs.pm_model.Words.{Words}
use Rattle.pm_lines.specs.Effects.{Fences, FlushesLine, StoresWord}
use Rattle.layout_model.specs.declared.lines.Draft.{Draft}
use Rattle.layout_model.specs.Entries.{encode_entry}
use Rattle.image_model.specs.LogRule.{HoldsEntry, words_of_line}
use Rattle.oplog_entry.specs.declared.claims.Mark.TheVariants.{Lost, Written}
use Rattle.oplog_entry.specs.EntryBytes.{encode_entry-small, length-encode_entry}
use Rattle.oplog_entry.specs.EntryLines.{entry_words, Holds, IsPutOver, IsSingle}

-- The words below n were stored, or as many of them as the power lasted for; the others are as they were.
pub record IsStoring (first : List Cell) (entry : Words) (n : ℕ) (on : Bool) (cells : List Cell) : Type 0 where
  pub rest : (j : ℕ) → n ≤ j → cell cells j ≡ cell first j
  pub some : (j : ℕ) → j < n → (cell cells j ≡ cell first j) ⊎ (cell cells j ≡ Two (newest (cell first j)) (entry j))
  pub all : on ≡ true → (j : ℕ) → j < n → cell cells j ≡ Two (newest (cell first j)) (entry j)

pub stores_none : (first : List Cell) (entry : Words) (on : Bool) → IsStoring first entry 0 on first
stores_none first entry on = record { rest = λ j above. refl; some = λ j below. absurd (omega arith); all = λ is j below. absurd (omega arith) }

-- one word more
pub stores_more : (first : List Cell) (entry : Words) (n : ℕ) (on later : Bool) (v : ℕ) (old new : List Cell) → IsSingle first → n < 8
    → (later ≡ true → on ≡ true) → v ≡ entry n → IsStoring first entry n on old → StoresWord on n v old new → IsStoring first entry (n + 1) later new
stores_more first entry n on later v old new single within before value storing store = record { rest = rest; some = some; all = all } where
  alone : cell old n ≡ Single (newest (cell first n))
  alone = storing.rest n (omega arith) ∙ single-newest (cell first n) (single n within)

  here : (b : Bool) → on ≡ b → (cell new n ≡ cell first n) ⊎ (cell new n ≡ Two (newest (cell first n)) (entry n))
  here true is = inr (store.stored_at ∙ (ap (λ (b : Bool). cond b (stored v (cell old n)) (cell old n)) is ∙ (ap (stored v) alone ∙ ap (Two (newest (cell first n))) value)))
  here false is = inl (store.stored_at ∙ (ap (λ (b : Bool). cond b (stored v (cell old n)) (cell old n)) is ∙ storing.rest n (omega arith)))

  put : on ≡ true → cell new n ≡ Two (newest (cell first n)) (entry n)
  put is = store.stored_at ∙ (ap (λ (b : Bool). cond b (stored v (cell old n)) (cell old n)) is ∙ (ap (stored v) alone ∙ ap (Two (newest (cell first n))) value))

  rest : (j : ℕ) → n + 1 ≤ j → cell new j ≡ cell first j
  rest j above = store.others j (λ e. absurd (omega (arith, above, e))) ∙ storing.rest j (omega (arith, above))

  some : (j : ℕ) → j < n + 1 → (cell new j ≡ cell first j) ⊎ (cell new j ≡ Two (newest (cell first j)) (entry j))
  some j below = ⊎_elim
      (λ (e : j ≡ n). subst (λ (k : ℕ). (cell new k ≡ cell first k) ⊎ (cell new k ≡ Two (newest (cell first k)) (entry k))) (sym e) (here on refl))
      (λ (other : j ≢ n). subst (λ (c : Cell). (c ≡ cell first j) ⊎ (c ≡ Two (newest (cell first j)) (entry j))) (sym (store.others j other)) (storing.some j (omega (arith, below, other))))
      (cases_eq j n)

  all : later ≡ true → (j : ℕ) → j < n + 1 → cell new j ≡ Two (newest (cell first j)) (entry j)
  all is j below = ⊎_elim
      (λ (e : j ≡ n). subst (λ (k : ℕ). cell new k ≡ Two (newest (cell first k)) (entry k)) (sym e) (put (before is)))
      (λ (other : j ≢ n). store.others j other ∙ storing.all (before is) j (omega (arith, below, other)))
      (cases_eq j n)

-- a line whose words are those of an entry, each alone, holds it
holds_words : (d : Draft) (seq : ℕ) (cells : List Cell) → ((j : ℕ) → j < 8 → cell cells j ≡ Single (entry_words d seq j)) → HoldsEntry cells d seq
holds_words d seq cells words = record {
  single = λ j below. ap is_single (words j below);
  spelled = line_bytes-words (words_of_line cells) 0 (encode_entry d seq) (length-encode_entry d seq) (encode_entry-small d seq)
      (λ i at. let below : i < 8 = omega (arith, at) in let same : i ≡ i % 8 = omega (arith, below) in ap newest (words i below) ∙ ap (entry_words d seq) same);
}

-- one word of a line that was given up
abbrev IsLeft : Cell → ℕ → ℕ → Type 0
IsLeft c a e = (is_lent c ≡ false) × (oldest c ≡ a) × (has_two c ≡ true → newest c ≡ e)

left_by : (on : Bool) (c : Cell) (a e : ℕ) → (c ≡ Single a) ⊎ (c ≡ Two a e) → IsLeft (cond on (flushed c) c) a e
left_by true c a e (inl is) = subst (λ (x : Cell). IsLeft (flushed x) a e) (sym is) (refl, refl, λ two. cc)
left_by true c a e (inr is) = subst (λ (x : Cell). IsLeft (flushed x) a e) (sym is) (refl, refl, λ two. refl)
left_by false c a e (inl is) = subst (λ (x : Cell). IsLeft x a e) (sym is) (refl, refl, λ two. cc)
left_by false c a e (inr is) = subst (λ (x : Cell). IsLeft x a e) (sym is) (refl, refl, λ two. refl)

-- WRITING: a line whose eight words were stored, flushed and fenced, at a power that may be lost at any step
pub finishes : (d : Draft) (seq : ℕ) (first stored_ flushed_ fenced_ : List Cell) (on later last : Bool) → IsSingle first → (later ≡ true → on ≡ true) → (last ≡ true → later ≡ true)
    → IsStoring first (entry_words d seq) 8 on stored_ → FlushesLine on 0 stored_ flushed_ → Fences later flushed_ fenced_ → Holds (cond last Written Lost) d seq first fenced_
finishes d seq first stored_ flushed_ fenced_ on later last single before sooner storing flush fence = by last later refl refl where
  entry : Words
  entry = entry_words d seq

  flushed_is : (j : ℕ) → j < 8 → cell flushed_ j ≡ cond on (flushed (cell stored_ j)) (cell stored_ j)
  flushed_is j below = flush.words j (omega (arith, below))

  whole : later ≡ true → HoldsEntry fenced_ d seq
  whole is = holds_words d seq fenced_ (λ j below.
      fence.words j
      ∙ (ap (λ (b : Bool). cond b (fenced (cell flushed_ j)) (cell flushed_ j)) is
      ∙ (ap fenced (flushed_is j below ∙ ap (λ (b : Bool). cond b (flushed (cell stored_ j)) (cell stored_ j)) (before is))
      ∙ ap (λ (c : Cell). fenced (flushed c)) (storing.all (before is) j below))))

  left : later ≡ false → (j : ℕ) → j < 8 → IsLeft (cell fenced_ j) (words_of_line first j) (entry j)
  left is j below =
      let same : cell fenced_ j ≡ cond on (flushed (cell stored_ j)) (cell stored_ j) =
      fence.words j ∙ (ap (λ (b : Bool). cond b (fenced (cell flushed_ j)) (cell flushed_ j)) is ∙ flushed_is j below) in
      subst (λ (c : Cell). IsLeft c (words_of_line first j) (entry j)) (sym same)
      (left_by on (cell stored_ j) (words_of_line first j) (entry j)
      (⊎_elim (λ (old : cell stored_ j ≡ cell first j). inl (old ∙ single-newest (cell first j) (single j below))) (λ (new : cell stored_ j ≡ Two (newest (cell first j)) (entry j)). inr new)
      (storing.some j below)))

  over : later ≡ false → IsPutOver fenced_ (words_of_line first) entry
  over is = record { home = λ j below. (left is j below).0; older = λ j below. (left is j below).1; newer = λ j below. (left is j below).2 }

  by : (b c : Bool) → last ≡ b → later ≡ c → Holds (cond b Written Lost) d seq first fenced_
  by true c is at = whole (sooner is)
  by false true is at = inl (whole at)
  by false false is at = inr (over at)
