-- A run that is laid behind those of its file: what is staged then.
use Rattle.std.specs.Prelude.{◌≡◌, ◌≢◌, ◌⊎◌, ◌<◌, ◌≤◌, ◌+◌, ◌==◌, ℕ, zero, suc, Bool, true, false, cond, List, [], ◌∷◌, ◌++◌, length, map, filter, nat_lt, option_map, Option, Some, None, refl}
use Rattle.std.proofs.Common.{arith, ap, ◌∙◌, sym, subst, inl, inr}
use Rattle.std.proofs.lemmas.Bool.{cases_eq, cases_lt}
use Rattle.std.proofs.lemmas.Bool.Decides.{Decides-eqb}
use Rattle.std.proofs.lemmas.List.{length-append, length-map}
use Rattle.live_model.specs.extent_model.Extents.{is_within}
use Rattle.live_model.specs.layout_model.declared.lines.Draft.{Draft}
use Rattle.live_model.specs.layout_model.declared.lines.Kind.{Kind}
use Rattle.live_model.specs.layout_model.declared.lines.Kind.TheVariants.{Directory, File, Free, Staging}
use Rattle.live_model.specs.image_model.Content.{disk_by, disk_of, entry_of_block, size_of}
use Rattle.live_model.specs.image_model.Live.{later_of, latest}
use Rattle.live_model.specs.image_model.Volume.{inode, Volume}
use Rattle.live_model.specs.file_overlay.declared.runs.Run.{Run}
use Rattle.live_model.specs.file_table.Files.{Files, runs_in, size_in}
use Rattle.live_model.specs.list_laws.Filters.{filter-both, filter-In, In-filter, map-In}
use Rattle.live_model.specs.list_laws.Members.{In}
use Rattle.live_model.specs.world_model.Landed.{entries-other, entries-own, size-landed, size-other}
use Rattle.live_model.specs.world_model.Latest.{AreBelow-Consecutive}
use Rattle.live_model.specs.world_model.Stands.{entries_of, LogStands}
use Rattle.posix_mode_laws.specs.Claims.{with_size}
use Rattle.posix_mode_laws.specs.ClaimsLaws.{applied_sized}
use Rattle.posix_mode_laws.specs.Sides.{sized}
use Rattle.batch_laws.specs.Standing.{draft_of_run, staged_of}
use Rattle.batch_laws.specs.WorldsLaws.{at_it, below_files, entries_staged, of_file, runs_from, size_of_staged, split_first}
use Rattle.batch_write_laws.specs.Writes.{LaysRun}

-- ---- lists

-- of an inode past them all nothing is staged
past_it : (v : Volume) (files : Files) (ino a n : ℕ) → a + n ≤ ino → entries_of ino (runs_from v files a n) ≡ []
past_it v files ino a zero past = refl
past_it v files ino a (suc n) past =
    let apart : a ≢ ino = λ same. omega (arith, past, same) in
    split_first v files ino a n ∙ (ap (λ xs. xs ++ entries_of ino (runs_from v files (a + 1) n)) (of_file v files ino a (runs_in files a) apart) ∙ past_it v files ino (a + 1) n (omega (arith, past)))

-- nor of an inode of which no run is kept
pub none_staged : (v : Volume) (files : Files) (ino : ℕ) → runs_in files ino ≡ [] → entries_of ino (staged_of v files) ≡ []
none_staged v files ino none = elim (cases_lt ino (length files.sizes)) [
  | inl below ↦ at_it v files ino 0 (length files.sizes) (omega arith) (omega (arith, below)) ∙ ap (map (draft_of_run v files ino)) none
  | inr past ↦ past_it v files ino 0 (length files.sizes) (omega (arith, past))
]

pub file_or : (kind : Kind) → (kind ≡ File) ⊎ (kind ≢ File)
file_or Free = inr (λ never. cc)
file_or Directory = inr (λ never. cc)
file_or File = inl refl
file_or Staging = inr (λ never. cc)

latest_map : (n : ℕ) (ds : List Draft) → latest (map (with_size n) ds) ≡ option_map (with_size n) (latest ds)
latest_map n [] = refl
latest_map n (d ∷ ds) = ap (later_of (with_size n d)) (latest_map n ds) ∙ by (latest ds) where
  pick : (b : Bool) (e : Draft) → cond b (with_size n e) (with_size n d) ≡ with_size n (cond b e d)
  pick true e = refl
  pick false e = refl

  by : (o : Option Draft) → later_of (with_size n d) (option_map (with_size n) o) ≡ option_map (with_size n) (later_of d o)
  by None = refl
  by (Some e) = ap (λ (x : Draft). Some x) (pick (nat_lt d.order e.order) e)

filter_map : (n : ℕ) (p : Draft → Bool) → ((d : Draft) → p (with_size n d) ≡ p d) → (ds : List Draft) → filter p (map (with_size n) ds) ≡ map (with_size n) (filter p ds)
filter_map n p same [] = refl
filter_map n p same (d ∷ ds) =
    ap (λ (b : Bool). cond b (with_size n d ∷ filter p (map (with_size n) ds)) (filter p (map (with_size n) ds))) (same d)
    ∙ by (p d) (filter_map n p same ds) where
      by : (b : Bool) → filter p (map (with_size n) ds) ≡ map (with_size n) (filter p ds)
          → cond b (with_size n d ∷ filter p (map (with_size n) ds)) (filter p (map (with_size n) ds)) ≡ map (with_size n) (cond b (d ∷ filter p ds) (filter p ds))
      by true rest = ap (λ xs. with_size n d ∷ xs) rest
      by false rest = rest

-- the entry of a block, among those of its file
block_entry : (live : List Draft) (ino block : ℕ) → entry_of_block live ino block ≡ latest (filter (λ (d : Draft). is_within d.file_block d.count block) (entries_of ino live))
block_entry live ino block = ap latest (filter-both (λ (d : Draft). d.ino == ino) (λ (d : Draft). is_within d.file_block d.count block) live)

-- ---- the run

module _ (v : Volume) (files e : Files) (ino size : ℕ) (r : Run) (count : length files.sizes ≡ length v.inodes) (file : (inode v ino).kind ≡ File)
    (bare : (j : ℕ) → (inode v j).kind ≢ File → runs_in files j ≡ []) (log : LogStands (sized files.sizes v) (staged_of v files)) (laid : LaysRun v files e ino size r) where
  abbrev staged : List Draft
  staged = staged_of v files

  -- the entry that it is
  abbrev pub entry : Draft
  entry = draft_of_run v e ino r

  -- what is staged, and the run behind
  abbrev pub more : List Draft
  more = staged_of v files ++ entry ∷ []

  e_count : length e.sizes ≡ length v.inodes
  e_count = laid.count ∙ count

  -- drafts of a file, with another size
  resized_runs : (j m : ℕ) (rs : List Run) → m ≡ size_in e j → map (with_size m) (map (draft_of_run v files j) rs) ≡ map (draft_of_run v e j) rs
  resized_runs j m [] same = refl
  resized_runs j m (q ∷ rs) same = λ i. with_size (same i) (draft_of_run v files j q) ∷ resized_runs j m rs same i

  with_last : (m : ℕ) (rs : List Run) → m ≡ size_in e ino → map (with_size m) (map (draft_of_run v files ino) rs ++ entry ∷ []) ≡ map (draft_of_run v e ino) (rs ++ r ∷ [])
  with_last m [] same = λ i. with_size (same i) entry ∷ []
  with_last m (q ∷ rs) same = λ i. with_size (same i) (draft_of_run v files ino q) ∷ with_last m rs same i

  own_entries : entries_of ino staged ≡ map (draft_of_run v files ino) (runs_in files ino)
  own_entries = entries_staged v files ino count file

  -- its order is the next one
  pub next_order : entry.order ≡ (inode (sized files.sizes v) ino).applied + length (entries_of ino (staged_of v files)) + 1
  next_order =
      let runs : length (entries_of ino staged) ≡ length (runs_in files ino) = ap (λ (ds : List Draft). length ds) own_entries ∙ length-map (runs_in files ino) (draft_of_run v files ino) in
      let applied = applied_sized files.sizes v ino in
      let order = laid.order in
      omega (arith, order, runs, applied)

  pub size_more : size_of (sized files.sizes v) more ino ≡ size_in e ino
  size_more =
      size-landed (sized files.sizes v) staged entry
      (AreBelow-Consecutive (inode (sized files.sizes v) ino).applied entry.order (entries_of ino staged) (log.orders ino) (let order = next_order in omega (arith, order)))

  size_other : (j : ℕ) → (inode v j).kind ≡ File → j ≢ ino → size_of (sized files.sizes v) more j ≡ size_in e j
  size_other j j_file other =
      size-other (sized files.sizes v) staged entry j (λ same. other (sym same)) ∙ (sym (size_of_staged v files j count j_file) ∙ sym (laid.others j other).1)

  -- OF EACH FILE THE SAME IS STAGED, with its size as it is then.
  pub entries_more : (j : ℕ) → entries_of j (staged_of v e) ≡ map (with_size (size_of (sized files.sizes v) more j)) (entries_of j more)
  entries_more j = elim (cases_eq j ino) [
    | inl same ↦ subst (λ m. entries_of m (staged_of v e) ≡ map (with_size (size_of (sized files.sizes v) more m)) (entries_of m more)) (sym same) own
    | inr other ↦ others other (file_or (inode v j).kind)
  ] where
    own : entries_of ino (staged_of v e) ≡ map (with_size (size_of (sized files.sizes v) more ino)) (entries_of ino more)
    own =
        entries_staged v e ino e_count file
        ∙ (ap (map (draft_of_run v e ino)) laid.runs
        ∙ (sym (with_last (size_of (sized files.sizes v) more ino) (runs_in files ino) size_more)
        ∙ ap (map (with_size (size_of (sized files.sizes v) more ino))) (ap (λ xs. xs ++ entry ∷ []) (sym own_entries) ∙ sym (entries-own staged entry))))

    others : j ≢ ino → ((inode v j).kind ≡ File) ⊎ ((inode v j).kind ≢ File) → entries_of j (staged_of v e) ≡ map (with_size (size_of (sized files.sizes v) more j)) (entries_of j more)
    others other (inl j_file) =
        entries_staged v e j e_count j_file
        ∙ (ap (map (draft_of_run v e j)) (laid.others j other).0
        ∙ (sym (resized_runs j (size_of (sized files.sizes v) more j) (runs_in files j) (size_other j j_file other))
        ∙ ap (map (with_size (size_of (sized files.sizes v) more j))) (sym (entries_staged v files j count j_file) ∙ sym (entries-other staged entry j (λ same. other (sym same))))))
    others other (inr no_file) =
        none_staged v e j ((laid.others j other).0 ∙ bare j no_file)
        ∙ ap (map (with_size (size_of (sized files.sizes v) more j))) (sym (entries-other staged entry j (λ same. other (sym same)) ∙ none_staged v files j (bare j no_file)))

  -- the entry of a block is that one, with the size
  pub block_more : (j block : ℕ) → entry_of_block (staged_of v e) j block ≡ option_map (with_size (size_of (sized files.sizes v) more j)) (entry_of_block more j block)
  block_more j block =
      let m : ℕ = size_of (sized files.sizes v) more j in
      let p : Draft → Bool = λ (d : Draft). is_within d.file_block d.count block in
      block_entry (staged_of v e) j block
      ∙ (ap (λ ds. latest (filter p ds)) (entries_more j)
      ∙ (ap latest (filter_map m p (λ d. refl) (entries_of j more))
      ∙ (latest_map m (filter p (entries_of j more)) ∙ ap (option_map (with_size m)) (sym (block_entry more j block)))))

  -- so it has the same block
  pub disk_more : (j block : ℕ) → disk_of v (staged_of v e) j block ≡ disk_of v more j block
  disk_more j block = ap (λ o. disk_by v o j block) (block_more j block) ∙ by (entry_of_block more j block) where
    by : (o : Option Draft) → disk_by v (option_map (with_size (size_of (sized files.sizes v) more j)) o) j block ≡ disk_by v o j block
    by None = refl
    by (Some d) = refl

  -- each that is staged is one of those, with another size
  pub record IsOneAgain (d : Draft) : Type 0 where
    pub was : Draft
    pub there : In was more
    pub size_is : ℕ
    pub is : with_size size_is was ≡ d

  pub again : (d : Draft) → In d (staged_of v e) → IsOneAgain d
  again d there =
      let own = In-filter (λ (x : Draft). x.ino == d.ino) (staged_of v e) d there ((Decides-eqb d.ino d.ino).1 refl) in
      let among = subst (λ ds. In d ds) (entries_more d.ino) own in
      let from = map-In (with_size (size_of (sized files.sizes v) more d.ino)) (entries_of d.ino more) d among in
      let was = filter-In (λ (x : Draft). x.ino == d.ino) more from.0 from.1 in
      record { was = from.0; there = was.0; size_is = size_of (sized files.sizes v) more d.ino; is = from.2 }

  -- one more is staged
  runs_of : (f : Files) (a n : ℕ) → length (runs_from v f a (suc n)) ≡ length (runs_in f a) + length (runs_from v f (a + 1) n)
  runs_of f a n =
      let both = length-append (map (draft_of_run v f a) (runs_in f a)) (runs_from v f (a + 1) n) in
      let one = length-map (runs_in f a) (draft_of_run v f a) in
      omega (arith, both, one)

  as_many : (a n : ℕ) → ino < a → length (runs_from v e a n) ≡ length (runs_from v files a n)
  as_many a zero past = refl
  as_many a (suc n) past =
      let apart : a ≢ ino = λ same. omega (arith, past, same) in
      let here = ap (λ (rs : List Run). length rs) (laid.others a apart).0 in
      let rest = as_many (a + 1) n (omega (arith, past)) in
      let now = runs_of e a n in
      let was = runs_of files a n in
      omega (arith, here, rest, now, was)

  one_from : (a n : ℕ) → a ≤ ino → ino < a + n → length (runs_from v e a n) ≡ length (runs_from v files a n) + 1
  one_from a zero low high = absurd (omega (arith, low, high))
  one_from a (suc n) low high = elim (cases_eq a ino) [
    | inl same ↦ (
        let own = subst (λ (i : ℕ). runs_in e i ≡ runs_in files i ++ r ∷ []) (sym same) laid.runs in
        let here = ap (λ (rs : List Run). length rs) own in
        let longer = length-append (runs_in files a) (r ∷ []) in
        let rest = as_many (a + 1) n (omega (arith, same)) in
        let now = runs_of e a n in
        let was = runs_of files a n in
        omega (arith, here, longer, rest, now, was))
    | inr apart ↦ (
        let here = ap (λ (rs : List Run). length rs) (laid.others a apart).0 in
        let rest = one_from (a + 1) n (omega (arith, low, apart)) (omega (arith, high)) in
        let now = runs_of e a n in
        let was = runs_of files a n in
        omega (arith, here, rest, now, was))
  ]

  pub one_more : length (staged_of v e) ≡ length (staged_of v files) + 1
  one_more =
      ap (λ n. length (runs_from v e 0 n)) laid.count
      ∙ one_from 0 (length files.sizes) (omega arith) (let low = below_files v ino file in omega (arith, low, count))
