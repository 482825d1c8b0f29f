-- An honest image of log lines that are put back shows the claims, and some of the filled jobs.
use Rattle.std.specs.Prelude.{◌≡◌, ◌≢◌, ◌⊎◌, ◌<◌, ℕ, zero, suc, ◌+◌, ◌*◌, ◌/◌, ◌%◌, ◌^◌, ◌==◌, ◌&&◌, Bool, true, false, is_some, List, [], ◌∷◌, ◌++◌, Option, Some, None, refl}
use Rattle.std.proofs.Common.{arith, ap, ◌∙◌, sym, subst, inl, inr}
use Rattle.std.proofs.lemmas.Bool.{and_from, and_parts, both_ways, cases_eq}
use Rattle.std.proofs.lemmas.Bool.Decides.{Decides-eqb}
use Rattle.std.proofs.lemmas.Option.{same_Some}
use Rattle.name_laws.specs.pm_model.declared.Cell.{Cell}
use Rattle.name_laws.specs.pm_model.declared.Cell.TheVariants.{Lent, Marked, Single, Two}
use Rattle.name_laws.specs.pm_model.Bytes.{line_bytes-same}
use Rattle.name_laws.specs.pm_model.Cells.{has_two, IsCandidate, is_lent, newest, oldest}
use Rattle.name_laws.specs.pm_model.Words.{line_bytes, Words}
use Rattle.name_laws.specs.layout_model.Places.{log_line}
use Rattle.name_laws.specs.layout_model.declared.lines.Draft.{Draft}
use Rattle.name_laws.specs.layout_model.Entries.{decode_entry, encode_entry, held_seq, is_draft, is_self_valid}
use Rattle.name_laws.specs.layout_model.EntryLaws.{decode_entry-encode_entry, FitsDraft, held_seq-decode_entry, held_seq-encode_entry}
use Rattle.name_laws.specs.image_model.Honest.{IsHonest, IsTorn}
use Rattle.name_laws.specs.image_model.Live.{entry_in}
use Rattle.name_laws.specs.image_model.Rules.{IsOfNoLater}
use Rattle.name_laws.specs.image_model.Volume.{Volume}
use Rattle.crash_spec.specs.list_laws.Members.{In}
use Rattle.world_model.specs.Jobs.{Job}
use Rattle.world_model.specs.Shown.{AreFilled, landed_pairs, ShowsClaims}
use Rattle.world_model.specs.LogRulesLaws.{KeepsLaps, ShowsPictures}
use Rattle.world_model.specs.Lines.{AreJobLines, AreLinesOut, HasLogWords, HoldsWords, IsJobLine, IsPutOver, IsTaken, Spells}

-- Tests of the words of a line.

all_or_some : (p : ℕ → Bool) (n : ℕ) → ((j : ℕ) → j < n → p j ≡ true) ⊎ ((j : ℕ) × (j < n) × (p j ≡ false))
all_or_some p zero = inl (λ j below. absurd (omega (arith, below)))
all_or_some p (suc n) = by (p n) refl (all_or_some p n) where
  last : p n ≡ true → ((j : ℕ) → j < n → p j ≡ true) → (j : ℕ) → j < suc n → p j ≡ true
  last is all j below = elim (cases_eq j n) [ inl same ↦ ap p same ∙ is | inr other ↦ all j (omega (arith, below, other)) ]

  by : (b : Bool) → p n ≡ b → ((j : ℕ) → j < n → p j ≡ true) ⊎ ((j : ℕ) × (j < n) × (p j ≡ false)) → ((j : ℕ) → j < suc n → p j ≡ true) ⊎ ((j : ℕ) × (j < suc n) × (p j ≡ false))
  by false is rest = inr (n, omega arith, is)
  by true is (inl all) = inl (last is all)
  by true is (inr some) = inr (some.0, omega (arith, some.1), some.2)

place : (i line : ℕ) → i / 8 ≡ line → 8 * line + i % 8 ≡ i
place i line at = omega (arith, at)

short : (i : ℕ) → i % 8 < 8
short i = omega arith

-- lines with the same words have the same bytes
bytes_same : (f g : Words) (line : ℕ) → ((j : ℕ) → j < 8 → f (8 * line + j) ≡ g (8 * line + j)) → line_bytes f line ≡ line_bytes g line
bytes_same f g line same =
    line_bytes-same f g line (λ i at. ap f (sym (place i line at)) ∙ (same (i % 8) (short i) ∙ ap g (place i line at)))

-- One word of a cell.

alone : (c : Cell) (a x : ℕ) → c ≡ Single a → IsCandidate c x → x ≡ a
alone c a x is candidate = subst (λ d. IsCandidate d x) is candidate

-- a candidate that is not the older one is of a word that has two
newer_two : (c : Cell) (x : ℕ) → is_lent c ≡ false → IsCandidate c x → x ≢ oldest c → has_two c ≡ true
newer_two (Single a) x home candidate other = absurd (other candidate)
newer_two (Two a b) x home candidate other = refl
newer_two (Marked a b) x home candidate other = refl
newer_two Lent x home candidate other = cc

-- One line.

reads : (v : Volume) (image : Words) (slot : ℕ) (d : Draft) (words : Words) → Spells v slot d words → line_bytes image (log_line v.geometry slot) ≡ line_bytes words (log_line v.geometry slot) → entry_in v image slot ≡ Some d
reads v image slot d words spells same =
    ap (λ bytes. decode_entry bytes (v.base + slot)) (same ∙ spells.spelled) ∙ decode_entry-encode_entry d (v.base + slot) spells.fits spells.draft

held_words : (v : Volume) (cells : ℕ → Cell) (image words : Words) (slot : ℕ) → slot < v.geometry.log → HasLogWords v cells image → HoldsWords cells words (log_line v.geometry slot)
    → line_bytes image (log_line v.geometry slot) ≡ line_bytes words (log_line v.geometry slot)
held_words v cells image words slot below has holds =
    bytes_same image words (log_line v.geometry slot) (λ j j_below. alone (cells (8 * log_line v.geometry slot + j)) (words (8 * log_line v.geometry slot + j)) (image (8 * log_line v.geometry slot + j)) (holds j j_below) (has slot j below j_below))

-- a line that is not an entry for the number that it holds is none for its slot
not_valid : (v : Volume) (image : Words) (slot : ℕ) → v.base + slot < 2 ^ 64 → is_self_valid (line_bytes image (log_line v.geometry slot)) ≡ false → entry_in v image slot ≡ None
not_valid v image slot small never = by (entry_in v image slot) refl where
  bytes : List ℕ
  bytes = line_bytes image (log_line v.geometry slot)

  by : (o : Option Draft) → entry_in v image slot ≡ o → o ≡ None
  by None is = refl
  by (Some d) is =
      let seq : held_seq bytes ≡ v.base + slot = held_seq-decode_entry bytes (v.base + slot) d small is in
      let valid : is_self_valid bytes ≡ true = ap (λ n. is_some (decode_entry bytes n)) seq ∙ ap (λ (o : Option Draft). is_some o) is in
      absurd (both_ways (is_self_valid bytes) never valid)

-- What a line shows: an entry, what was there first, or no entry for the number that it holds.
data LineReads (v : Volume) (first image : Words) (slot : ℕ) (d : Draft) : Type 0 where
  IsEntry : line_bytes image (log_line v.geometry slot) ≡ encode_entry d (v.base + slot) → LineReads v first image slot d
  IsAsFirst : line_bytes image (log_line v.geometry slot) ≡ line_bytes first (log_line v.geometry slot) → LineReads v first image slot d
  IsNothing : is_self_valid (line_bytes image (log_line v.geometry slot)) ≡ false → LineReads v first image slot d

-- a line that has an entry put over what was there shows one of these
put_over : (v : Volume) (cells : ℕ → Cell) (first image entry : Words) (slot : ℕ) (d : Draft) → slot < v.geometry.log → HasLogWords v cells image → IsHonest v.geometry cells image
    → Spells v slot d entry → IsPutOver cells first entry (log_line v.geometry slot) → LineReads v first image slot d
put_over v cells first image entry slot d below has honest spells over =
    elim (all_or_some (λ j. image (8 * line + j) == oldest (cells (8 * line + j))) 8) [
      | inl older ↦
          IsAsFirst (bytes_same image first line (λ j j_below. (Decides-eqb (image (8 * line + j)) (oldest (cells (8 * line + j)))).0 (older j j_below) ∙ over.older j j_below))
      | inr other ↦ elim (all_or_some (λ j. has_two (cells (8 * line + j)) && (image (8 * line + j) == newest (cells (8 * line + j)))) 8) [
        | inl newer ↦ IsEntry (bytes_same image entry line (whole newer) ∙ spells.spelled)
        | inr mixed ↦ IsNothing (honest slot below (torn other mixed))
      ]
    ] where
      line : ℕ
      line = log_line v.geometry slot

      whole : ((j : ℕ) → j < 8 → (has_two (cells (8 * line + j)) && (image (8 * line + j) == newest (cells (8 * line + j)))) ≡ true) → (j : ℕ) → j < 8 → image (8 * line + j) ≡ entry (8 * line + j)
      whole newer j j_below =
          let parts = and_parts (has_two (cells (8 * line + j))) (image (8 * line + j) == newest (cells (8 * line + j))) (newer j j_below) in
          (Decides-eqb (image (8 * line + j)) (newest (cells (8 * line + j)))).0 parts.1 ∙ over.newer j j_below parts.0

      torn : ((j : ℕ) × (j < 8) × ((image (8 * line + j) == oldest (cells (8 * line + j))) ≡ false))
          → ((j : ℕ) × (j < 8) × ((has_two (cells (8 * line + j)) && (image (8 * line + j) == newest (cells (8 * line + j)))) ≡ false)) → IsTorn cells image line
      torn other mixed =
          let j = other.0 in
          let k = mixed.0 in
          let apart : image (8 * line + j) ≢ oldest (cells (8 * line + j)) = λ same. both_ways (image (8 * line + j) == oldest (cells (8 * line + j))) other.2 ((Decides-eqb (image (8 * line + j)) (oldest (cells (8 * line + j)))).1 same) in
          record {
            some = (j, other.1, newer_two (cells (8 * line + j)) (image (8 * line + j)) (over.home j other.1) (has slot j below other.1) apart);
            not_older = λ older. apart (older j other.1);
            not_newer = λ each newer.
                both_ways (has_two (cells (8 * line + k)) && (image (8 * line + k) == newest (cells (8 * line + k)))) mixed.2
                (and_from (has_two (cells (8 * line + k))) (image (8 * line + k) == newest (cells (8 * line + k))) (each k mixed.1) ((Decides-eqb (image (8 * line + k)) (newest (cells (8 * line + k)))).1 (newer k mixed.1)));
          }

job_line : (v : Volume) (cells : ℕ → Cell) (first image : Words) (slot : ℕ) (d : Draft) → HasLogWords v cells image → IsHonest v.geometry cells image → IsJobLine v cells first slot d → LineReads v first image slot d
job_line v cells first image slot d has honest line = elim line.holds [
  | inl whole ↦ IsEntry (held_words v cells image line.entry slot line.below has whole ∙ line.spells.spelled)
  | inr over ↦ put_over v cells first image line.entry slot d line.below has honest line.spells over
]

-- What was there first is no entry of the slot, and of no later lap.

abbrev IsOld : Volume → Words → ℕ → Type 0
IsOld v first slot = is_self_valid (line_bytes first (log_line v.geometry slot)) ≡ true → held_seq (line_bytes first (log_line v.geometry slot)) < v.base

old_none : (v : Volume) (first : Words) (slot : ℕ) → v.base + slot < 2 ^ 64 → IsOld v first slot → entry_in v first slot ≡ None
old_none v first slot small old = by (entry_in v first slot) refl where
  bytes : List ℕ
  bytes = line_bytes first (log_line v.geometry slot)

  by : (o : Option Draft) → entry_in v first slot ≡ o → o ≡ None
  by None is = refl
  by (Some d) is =
      let seq : held_seq bytes ≡ v.base + slot = held_seq-decode_entry bytes (v.base + slot) d small is in
      let valid : is_self_valid bytes ≡ true = ap (λ n. is_some (decode_entry bytes n)) seq ∙ ap (λ (o : Option Draft). is_some o) is in
      absurd (omega (arith, seq, old valid))

-- so such a line shows its entry or none
line_entry : (v : Volume) (first image : Words) (slot : ℕ) (d : Draft) → v.base + slot < 2 ^ 64 → IsOld v first slot → is_draft d ≡ true → FitsDraft d → LineReads v first image slot d
    → (entry_in v image slot ≡ Some d) ⊎ (entry_in v image slot ≡ None)
line_entry v first image slot d small old draft fits (IsEntry is) = inl (ap (λ bytes. decode_entry bytes (v.base + slot)) is ∙ decode_entry-encode_entry d (v.base + slot) fits draft)
line_entry v first image slot d small old draft fits (IsAsFirst is) = inr (ap (λ bytes. decode_entry bytes (v.base + slot)) is ∙ old_none v first slot small old)
line_entry v first image slot d small old draft fits (IsNothing is) = inr (not_valid v image slot small is)

-- and is of no later lap
line_later : (v : Volume) (first image : Words) (slot : ℕ) (d : Draft) → slot < v.geometry.log → v.base + slot < 2 ^ 64 → IsOld v first slot → LineReads v first image slot d → IsOfNoLater v image slot
line_later v first image slot d below small old (IsEntry is) valid =
    omega (arith, ap held_seq is, held_seq-encode_entry d (v.base + slot) small, below)
line_later v first image slot d below small old (IsAsFirst is) valid = omega (arith, ap held_seq is, old (sym (ap is_self_valid is) ∙ valid), below)
line_later v first image slot d below small old (IsNothing is) valid = absurd (both_ways (is_self_valid (line_bytes image (log_line v.geometry slot))) is valid)

-- The jobs that landed.

abbrev pub kept_slot : ℕ → Option Draft → Option ℕ
kept_slot slot None = None
kept_slot slot (Some d) = Some slot

-- those whose lines show an entry
abbrev pub landed_by : Volume → Words → List Job → List (Option ℕ) → List (Option ℕ)
landed_by v image [] slots = []
landed_by v image (j ∷ jobs) [] = []
landed_by v image (j ∷ jobs) (None ∷ slots) = None ∷ landed_by v image jobs slots
landed_by v image (j ∷ jobs) (Some slot ∷ slots) = kept_slot slot (entry_in v image slot) ∷ landed_by v image jobs slots

-- What is said of each slot of the log.
record IsRead (v : Volume) (cells : ℕ → Cell) (first image : Words) : Type 0 where
  has : HasLogWords v cells image
  honest : IsHonest v.geometry cells image
  small : (slot : ℕ) → slot < v.geometry.log → v.base + slot < 2 ^ 64
  old : (slot : ℕ) → slot < v.geometry.log → IsOld v first slot

read_line : (v : Volume) (cells : ℕ → Cell) (first image : Words) (slot : ℕ) (d : Draft) → IsRead v cells first image → IsJobLine v cells first slot d → (entry_in v image slot ≡ Some d) ⊎ (entry_in v image slot ≡ None)
read_line v cells first image slot d read line =
    line_entry v first image slot d (read.small slot line.below) (read.old slot line.below) line.spells.draft line.spells.fits (job_line v cells first image slot d read.has read.honest line)

-- a line that shows some entry shows that of its job
own_entry : (v : Volume) (cells : ℕ → Cell) (first image : Words) (slot : ℕ) (d e : Draft) → IsRead v cells first image → IsJobLine v cells first slot d → entry_in v image slot ≡ Some e → d ≡ e
own_entry v cells first image slot d e read line is = elim (read_line v cells first image slot d read line) [
  | inl own ↦ same_Some d e (sym own ∙ is)
  | inr none ↦ let never : None ≡ Some e = sym none ∙ is in cc
]

pairs_show : (v : Volume) (cells : ℕ → Cell) (first image : Words) (jobs : List Job) (slots : List (Option ℕ)) → IsRead v cells first image → AreJobLines v cells first jobs slots → (n : ℕ) (d : Draft)
    → In (n, d) (landed_pairs jobs (landed_by v image jobs slots)) → (n < v.geometry.log) × (entry_in v image n ≡ Some d)
pairs_show v cells first image [] slots read lines n d is = absurd is
pairs_show v cells first image (j ∷ jobs) [] read lines n d is = absurd is
pairs_show v cells first image (j ∷ jobs) (None ∷ slots) read lines n d is = pairs_show v cells first image jobs slots read lines n d is
pairs_show v cells first image (j ∷ jobs) (Some slot ∷ slots) read lines n d is =
    by (entry_in v image slot) refl is (pairs_show v cells first image jobs slots read lines.1 n d) where
      by : (o : Option Draft) → entry_in v image slot ≡ o → In (n, d) (landed_pairs (j ∷ jobs) (kept_slot slot o ∷ landed_by v image jobs slots))
          → (In (n, d) (landed_pairs jobs (landed_by v image jobs slots)) → (n < v.geometry.log) × (entry_in v image n ≡ Some d)) → (n < v.geometry.log) × (entry_in v image n ≡ Some d)
      by None shown there rest = rest there
      by (Some e) shown (inl same) rest =
          let number : slot ≡ n = ap (λ (c : ℕ × Draft). c.0) same in
          let entry : j.draft ≡ d = ap (λ (c : ℕ × Draft). c.1) same in
          let own : j.draft ≡ e = own_entry v cells first image slot j.draft e read lines.0 shown in
          (subst (λ m. m < v.geometry.log) number lines.0.below, ap (entry_in v image) (sym number) ∙ (shown ∙ ap Some (sym own ∙ entry)))
      by (Some e) shown (inr behind) rest = rest behind

pairs_have : (v : Volume) (cells : ℕ → Cell) (first image : Words) (jobs : List Job) (slots : List (Option ℕ)) → IsRead v cells first image → AreJobLines v cells first jobs slots → (n : ℕ) (d : Draft)
    → IsTaken jobs slots n → entry_in v image n ≡ Some d → In (n, d) (landed_pairs jobs (landed_by v image jobs slots))
pairs_have v cells first image [] slots read lines n d taken is = absurd taken
pairs_have v cells first image (j ∷ jobs) [] read lines n d taken is = absurd taken
pairs_have v cells first image (j ∷ jobs) (None ∷ slots) read lines n d taken is = pairs_have v cells first image jobs slots read lines n d taken is
pairs_have v cells first image (j ∷ jobs) (Some slot ∷ slots) read lines n d taken is =
    by (entry_in v image slot) refl taken (λ behind. pairs_have v cells first image jobs slots read lines.1 n d behind is) where
      by : (o : Option Draft) → entry_in v image slot ≡ o → (slot ≡ n) ⊎ IsTaken jobs slots n → (IsTaken jobs slots n → In (n, d) (landed_pairs jobs (landed_by v image jobs slots)))
          → In (n, d) (landed_pairs (j ∷ jobs) (kept_slot slot o ∷ landed_by v image jobs slots))
      by None shown (inl same) rest = let never : None ≡ Some d = sym shown ∙ (ap (entry_in v image) same ∙ is) in cc
      by None shown (inr behind) rest = rest behind
      by (Some e) shown (inl same) rest =
          let own : j.draft ≡ d = own_entry v cells first image slot j.draft d read lines.0 (ap (entry_in v image) same ∙ is) in
          inl (λ i. (same i, own i))
      by (Some e) shown (inr behind) rest = inr (rest behind)

landed_filled : (v : Volume) (image : Words) (jobs : List Job) (slots : List (Option ℕ)) → AreFilled v image jobs slots → AreFilled v image jobs (landed_by v image jobs slots)
landed_filled v image [] slots filled = tt
landed_filled v image (j ∷ jobs) [] filled = tt
landed_filled v image (j ∷ jobs) (None ∷ slots) filled = landed_filled v image jobs slots filled
landed_filled v image (j ∷ jobs) (Some slot ∷ slots) filled = by (entry_in v image slot) (landed_filled v image jobs slots filled.1) where
  by : (o : Option Draft) → AreFilled v image jobs (landed_by v image jobs slots) → AreFilled v image (j ∷ jobs) (kept_slot slot o ∷ landed_by v image jobs slots)
  by None rest = rest
  by (Some e) rest = (filled.0, rest)

-- Which slots are claimed.

claimed_or_not : (claims : List (ℕ × Draft)) (n : ℕ) → ((d : Draft) × In (n, d) claims) ⊎ ((d : Draft) → ¬ In (n, d) claims)
claimed_or_not [] n = inr (λ d is. is)
claimed_or_not (c ∷ claims) n = elim (cases_eq c.0 n) [
  | inl same ↦ inl (c.1, inl (λ i. (same i, c.1)))
  | inr other ↦ elim (claimed_or_not claims n) [
    | inl behind ↦ inl (behind.0, inr behind.1)
    | inr none ↦ inr (not_first c claims n other none)
  ]
] where
  not_first : (first : ℕ × Draft) (rest : List (ℕ × Draft)) (m : ℕ) → first.0 ≢ m → ((d : Draft) → ¬ In (m, d) rest) → (d : Draft) → ¬ In (m, d) (first ∷ rest)
  not_first first rest m other none d (inl same) = other (ap (λ (x : ℕ × Draft). x.0) same)
  not_first first rest m other none d (inr behind) = none d behind

taken_or_not : (jobs : List Job) (slots : List (Option ℕ)) (n : ℕ) → IsTaken jobs slots n ⊎ (¬ IsTaken jobs slots n)
taken_or_not [] slots n = inr (λ is. is)
taken_or_not (j ∷ jobs) [] n = inr (λ is. is)
taken_or_not (j ∷ jobs) (None ∷ slots) n = taken_or_not jobs slots n
taken_or_not (j ∷ jobs) (Some slot ∷ slots) n = elim (cases_eq slot n) [
  | inl same ↦ inl (inl same)
  | inr other ↦ elim (taken_or_not jobs slots n) [ inl behind ↦ inl (inr behind) | inr none ↦ inr (neither jobs slots slot n other none) ]
] where
  neither : (rest : List Job) (others : List (Option ℕ)) (slot m : ℕ) → slot ≢ m → ¬ IsTaken rest others m → (slot ≡ m) ⊎ IsTaken rest others m → ⊥
  neither rest others slot m other none (inl same) = other same
  neither rest others slot m other none (inr behind) = none behind

In-left : (xs ys : List (ℕ × Draft)) (x : ℕ × Draft) → In x xs → In x (xs ++ ys)
In-left [] ys x is = absurd is
In-left (z ∷ zs) ys x (inl same) = inl same
In-left (z ∷ zs) ys x (inr behind) = inr (In-left zs ys x behind)

In-right : (xs ys : List (ℕ × Draft)) (x : ℕ × Draft) → In x ys → In x (xs ++ ys)
In-right [] ys x is = is
In-right (z ∷ zs) ys x is = inr (In-right zs ys x is)

In-either : (xs ys : List (ℕ × Draft)) (x : ℕ × Draft) → In x (xs ++ ys) → In x xs ⊎ In x ys
In-either [] ys x is = inr is
In-either (z ∷ zs) ys x (inl same) = inl (inl same)
In-either (z ∷ zs) ys x (inr behind) = elim (In-either zs ys x behind) [ inl left ↦ inl (inr left) | inr right ↦ inr right ]

-- THE PICTURE: an honest image of these lines shows the claims and the filled jobs whose lines show an entry.
pub shows_pictures : ShowsPictures
shows_pictures v cells first image claims jobs slots small lines has honest filled = (landed_by v image jobs slots, landed_filled v image jobs slots filled, shows) where
  read : IsRead v cells first image
  read = record { has = has; honest = honest; small = λ slot below. omega (arith, small, below); old = lines.old }

  claim_shown : (slot : ℕ) (d : Draft) → In (slot, d) claims → (slot < v.geometry.log) × (entry_in v image slot ≡ Some d)
  claim_shown slot d is =
      let line = lines.claimed slot d is in
      (line.below, reads v image slot d line.entry line.spells (held_words v cells image line.entry slot line.below has line.holds))

  on : (slot : ℕ) (d : Draft) → In (slot, d) (claims ++ landed_pairs jobs (landed_by v image jobs slots)) → (slot < v.geometry.log) × (entry_in v image slot ≡ Some d)
  on slot d is = elim (In-either claims (landed_pairs jobs (landed_by v image jobs slots)) (slot, d) is) [
    | inl claimed ↦ claim_shown slot d claimed
    | inr job ↦ pairs_show v cells first image jobs slots read lines.out slot d job
  ]

  back : (slot : ℕ) (d : Draft) → slot < v.geometry.log → entry_in v image slot ≡ Some d → In (slot, d) (claims ++ landed_pairs jobs (landed_by v image jobs slots))
  back slot d below is = elim (claimed_or_not claims slot) [
    | inl claimed ↦
        let same : claimed.0 ≡ d = same_Some claimed.0 d (sym (claim_shown slot claimed.0 claimed.1).1 ∙ is) in
        In-left claims (landed_pairs jobs (landed_by v image jobs slots)) (slot, d) (subst (λ e. In (slot, e) claims) same claimed.1)
    | inr unclaimed ↦ elim (taken_or_not jobs slots slot) [
      | inl taken ↦ In-right claims (landed_pairs jobs (landed_by v image jobs slots)) (slot, d) (pairs_have v cells first image jobs slots read lines.out slot d taken is)
      | inr free ↦
          let none : entry_in v image slot ≡ None =
          ap (λ bytes. decode_entry bytes (v.base + slot)) (held_words v cells image first slot below has (lines.others slot below unclaimed free)) ∙ old_none v first slot (read.small slot below) (lines.old slot below) in
          let never : None ≡ Some d = sym none ∙ is in
          cc
    ]
  ]

  shows : ShowsClaims v (claims ++ landed_pairs jobs (landed_by v image jobs slots)) image
  shows slot d = (on slot d, λ there. back slot d there.0 there.1)

-- THE LINES: no line of such an image is an entry of a later lap.

taken_line : (v : Volume) (cells : ℕ → Cell) (first : Words) (jobs : List Job) (slots : List (Option ℕ)) (n : ℕ) → AreJobLines v cells first jobs slots → IsTaken jobs slots n → (d : Draft) × IsJobLine v cells first n d
taken_line v cells first [] slots n lines taken = absurd taken
taken_line v cells first (j ∷ jobs) [] n lines taken = absurd taken
taken_line v cells first (j ∷ jobs) (None ∷ slots) n lines taken = taken_line v cells first jobs slots n lines taken
taken_line v cells first (j ∷ jobs) (Some slot ∷ slots) n lines (inl same) = (j.draft, subst (λ m. IsJobLine v cells first m j.draft) same lines.0)
taken_line v cells first (j ∷ jobs) (Some slot ∷ slots) n lines (inr behind) = taken_line v cells first jobs slots n lines.1 behind

line_of : (v : Volume) (cells : ℕ → Cell) (first image : Words) (claims : List (ℕ × Draft)) (jobs : List Job) (slots : List (Option ℕ)) (slot : ℕ) → slot < v.geometry.log
    → AreLinesOut v cells first claims jobs slots → HasLogWords v cells image → IsHonest v.geometry cells image → (d : Draft) × LineReads v first image slot d
line_of v cells first image claims jobs slots slot below lines has honest = elim (claimed_or_not claims slot) [
  | inl claimed ↦
      let line = lines.claimed slot claimed.0 claimed.1 in
      (claimed.0, IsEntry (held_words v cells image line.entry slot below has line.holds ∙ line.spells.spelled))
  | inr unclaimed ↦ elim (taken_or_not jobs slots slot) [
    | inl taken ↦ let its = taken_line v cells first jobs slots slot lines.out taken in (its.0, job_line v cells first image slot its.0 has honest its.1)
    | inr free ↦ (no_draft, IsAsFirst (held_words v cells image first slot below has (lines.others slot below unclaimed free)))
  ]
] where
  no_draft : Draft
  no_draft = record { count = 0; order = 0; ino = 0; generation = 0; file_block = 0; staging = 0; staging_block = 0; staging_generation = 0; size = 0 }

pub keeps_laps : KeepsLaps
keeps_laps v cells first image claims jobs slots small lines has honest slot below =
    let its = line_of v cells first image claims jobs slots slot below lines has honest in
    line_later v first image slot its.0 below (omega (arith, small, below)) (lines.old slot below) its.1
