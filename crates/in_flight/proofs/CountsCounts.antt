-- How many jobs are out, and how many runs are staged.
use Rattle.std.specs.Prelude.{◌≡◌, ◌≢◌, ◌⊎◌, ◌≤◌, ◌<◌, ◌+◌, ◌==◌, nat_le, ℕ, suc, Bool, true, false, cond, List, [], ◌∷◌, length, filter, All, AllPairs, Option, Some, None, slice_index, slice_index_or, sum_by, refl}
use Rattle.std.proofs.Common.{arith, ap, ◌∙◌, sym, subst, inl, inr}
use Rattle.std.proofs.lemmas.Bool.Decides.{Decides-eqb, nat_tests}
use Rattle.std.proofs.lemmas.List.{get_or_default, length-map}
use Rattle.std.proofs.lemmas.List.Sums.{sum_by-cons}
use Rattle.live_model.specs.layout_model.declared.lines.Draft.{Draft}
use Rattle.live_model.specs.layout_model.declared.lines.Inode.{Inode}
use Rattle.live_model.specs.layout_model.declared.lines.Kind.{Kind}
use Rattle.live_model.specs.layout_model.declared.lines.Kind.TheVariants.{Directory, File, Free, Staging}
use Rattle.live_model.specs.layout_model.Entries.{is_draft}
use Rattle.live_model.specs.layout_model.block_counts.declared.TheConstants.{LONGEST_FILE}
use Rattle.live_model.specs.layout_model.Lines.{is_inode_of_kind}
use Rattle.live_model.specs.layout_model.Places.{Geometry}
use Rattle.live_model.specs.image_model.Content.{size_by}
use Rattle.live_model.specs.image_model.Live.{is_file, latest}
use Rattle.live_model.specs.image_model.Volume.{inode}
use Rattle.live_model.specs.file_overlay.Runs.{Overlaid}
use Rattle.live_model.specs.file_table.Files.{nothing_laid, runs_in}
use Rattle.live_model.specs.k_split_model.View.{View}
use Rattle.live_model.specs.commute_laws.list_laws.Filters.{filter-In}
use Rattle.live_model.specs.commute_laws.list_laws.Members.{In}
use Rattle.live_model.specs.Overlays.{run_of}
use Rattle.posix_types.specs.declared.call.Who.{Who}
use Rattle.live_model.specs.commute_laws.posix_tables.Open.{same_who, Tables}
use Rattle.live_model.specs.commute_laws.posix_spec.State.{State}
use Rattle.in_flight.specs.Counters.{IsCounted}
use Rattle.live_model.specs.staging_files.FewRuns.{few_keys, few_runs, keyed_of}
pub use Rattle.live_model.specs.staging_files.FewRuns.{pairs}
use Rattle.live_model.specs.world_model.Latest.{latest-In}
use Rattle.live_model.specs.world_model.Jobs.{live_claims}
use Rattle.live_model.specs.world_model.Stands.{entries_of}
use Rattle.live_model.specs.Standing.{AreOfTwoThreads, Kept, JobOut, StandsAt}

-- ---- jobs

-- the set-up comes behind 8 threads
abbrev who_key : Who → ℕ
who_key Who.Setup = 8
who_key (Who.Thread n) = n

who_below : (who : Who) → IsCounted who → who_key who < 9
who_below Who.Setup counted = omega arith
who_below (Who.Thread n) counted = omega (arith, counted)

who_apart : (a b : Who) → IsCounted a → IsCounted b → same_who a b ≡ false → who_key a ≢ who_key b
who_apart Who.Setup Who.Setup one two other same = let never : true ≡ false = other in cc
who_apart Who.Setup (Who.Thread n) one two other same = omega (arith, two, same)
who_apart (Who.Thread m) Who.Setup one two other same = omega (arith, one, same)
who_apart (Who.Thread m) (Who.Thread n) one two other same =
    let never : true ≡ false = sym ((Decides-eqb m n).1 same) ∙ other in cc

-- AT MOST NINE JOBS ARE OUT, of callers of their own.
pub few_jobs : (pending : List JobOut) → AllPairs AreOfTwoThreads pending → ((p : JobOut) → In p pending → IsCounted p.who) → length pending ≤ 9
few_jobs pending two counted =
    few_keys (λ (p : JobOut). who_key p.who) 9 pending
    (keyed_of (λ (p : JobOut). who_key p.who) AreOfTwoThreads pending two (λ p q at_p at_q are. who_apart p.who q.who (counted p at_p) (counted q at_q) are.other))
    (λ p at. who_below p.who (counted p at))

-- ---- sizes

few_bytes : (kind : Kind) (x : Inode) → is_inode_of_kind kind x ≡ true → x.size ≤ LONGEST_FILE
few_bytes Free x is = grind (arith, nat_tests, is)
few_bytes Directory x is = grind (arith, nat_tests, is)
few_bytes File x is = grind (arith, nat_tests, is)
few_bytes Staging x is = grind (arith, nat_tests, is)

draft_small : (d : Draft) → is_draft d ≡ true → d.size ≤ LONGEST_FILE
draft_small d is = grind (arith, nat_tests, is)

kind_cases : (x : Kind) → (x ≡ File) ⊎ (x ≢ File)
kind_cases File = inl refl
kind_cases Free = inr (λ same. (let never : true ≡ false = sym (ap is_file same) in cc))
kind_cases Directory = inr (λ same. (let never : true ≡ false = sym (ap is_file same) in cc))
kind_cases Staging = inr (λ same. (let never : true ≡ false = sym (ap is_file same) in cc))

-- the entries of a line and those of the lines behind it
from_line : (m : ℕ) (live : List Draft) → length (filter (λ (d : Draft). nat_le m d.ino) live) ≡ length (entries_of m live) + length (filter (λ (d : Draft). nat_le (suc m) d.ino) live)
from_line m [] = refl
from_line m (d ∷ live) = by (d.ino == m) (nat_le m d.ino) (nat_le (suc m) d.ino) refl refl refl (from_line m live) where
  by : (a b c : Bool) → (d.ino == m) ≡ a → nat_le m d.ino ≡ b → nat_le (suc m) d.ino ≡ c
      → length (filter (λ (x : Draft). nat_le m x.ino) live) ≡ length (entries_of m live) + length (filter (λ (x : Draft). nat_le (suc m) x.ino) live)
      → length (filter (λ (x : Draft). nat_le m x.ino) (d ∷ live)) ≡ length (entries_of m (d ∷ live)) + length (filter (λ (x : Draft). nat_le (suc m) x.ino) (d ∷ live))
  by true true false one two three rest = rw (one, two, three) (omega (arith, rest))
  by false true true one two three rest = rw (one, two, three) (omega (arith, rest))
  by false false false one two three rest = rw (one, two, three) (omega (arith, rest))
  by true true true one two three rest = absurd (grind (arith, nat_tests))
  by true false true one two three rest = absurd (grind (arith, nat_tests))
  by true false false one two three rest = absurd (grind (arith, nat_tests))
  by false true false one two three rest = absurd (grind (arith, nat_tests))
  by false false true one two three rest = absurd (grind (arith, nat_tests))

-- where each line has as many runs as entries at most, all lines have
all_runs : (live : List Draft) (os : List Overlaid) (m : ℕ) → ((i : ℕ) → i < length os → length (slice_index_or os i nothing_laid).runs ≤ length (entries_of (m + i) live))
    → sum_by (λ (x : Overlaid). length x.runs) os ≤ length (filter (λ (d : Draft). nat_le m d.ino) live)
all_runs live [] m each = omega arith
all_runs live (o ∷ os) m each =
    let own : length o.runs ≤ length (entries_of m live) = subst (λ x. length o.runs ≤ length (entries_of x live)) (omega arith) (each 0 (omega arith)) in
    let rest : sum_by (λ (x : Overlaid). length x.runs) os ≤ length (filter (λ (d : Draft). nat_le (suc m) d.ino) live) =
    all_runs live os (suc m) (λ i below. subst (λ x. length (slice_index_or os i nothing_laid).runs ≤ length (entries_of x live)) (omega arith) (each (suc i) (omega (arith, below))))
    in
    omega (arith, own, rest, sum_by-cons (λ (x : Overlaid). length x.runs) o os, from_line m live)

fewer : (p : Draft → Bool) (xs : List Draft) → length (filter p xs) ≤ length xs
fewer p [] = omega arith
fewer p (x ∷ xs) = by (p x) (fewer p xs) where
  by : (b : Bool) → length (filter p xs) ≤ length xs → length (cond b (x ∷ filter p xs) (filter p xs)) ≤ length (x ∷ xs)
  by true rest = omega (arith, rest)
  by false rest = omega (arith, rest)

module _ (g : Geometry) (k : View) (t : Tables) (kept : Kept) (lines : Bool) (n : ℕ) (s : State) (stands : StandsAt g k t kept lines n s) where
  abbrev live : List Draft
  live = live_claims k.volume kept.claims

  own_small : (ino : ℕ) → (inode k.volume ino).size ≤ LONGEST_FILE
  own_small ino = few_bytes (inode k.volume ino).kind (inode k.volume ino) (stands.order.whole.inodes ino)

  by_latest : (ino : ℕ) (o : Option Draft) → latest (filter (λ (d : Draft). d.ino == ino) live) ≡ o → size_by o (inode k.volume ino).size ≤ LONGEST_FILE
  by_latest ino None is = own_small ino
  by_latest ino (Some d) is =
      let entry = (filter-In (λ (x : Draft). x.ino == ino) live d (latest-In (filter (λ (x : Draft). x.ino == ino) live) d is)).0 in
      draft_small d (stands.drafts d entry).fields

  -- NO SIZE THAT IS KEPT IS MORE THAN A FILE MAY HAVE.
  pub sizes_small : All (λ size. size ≤ LONGEST_FILE) kept.files.sizes
  sizes_small i d below = elim (kind_cases (inode k.volume i).kind) [
    | inl file ↦ (
        let size = by_latest i (latest (filter (λ (x : Draft). x.ino == i) live)) refl in
        let is = stands.sizes.files i file in
        omega (arith, is, size, same))
    | inr other ↦ (let is = stands.sizes.others i other in omega (arith, is, same))
  ] where
    same : slice_index_or kept.files.sizes i d ≡ slice_index kept.files.sizes i
    same = get_or_default kept.files.sizes i d 0 below

  runs_few : (ino : ℕ) → length (runs_in kept.files ino) ≤ length (entries_of ino live)
  runs_few ino = elim (kind_cases (inode k.volume ino).kind) [
    | inl file ↦ (let count = ap length (stands.flying.overlays ino file).runs_are in omega (arith, count, length-map (entries_of ino live) run_of))
    | inr other ↦ (let count = ap length (stands.bare ino other) in omega (arith, count))
  ]

  -- as many runs are staged of files as runs are out at most
  pub staged_few : sum_by (λ (x : Overlaid). length x.runs) kept.files.overlays ≤ 256
  staged_few =
      let sum : sum_by (λ (x : Overlaid). length x.runs) kept.files.overlays ≤ length (filter (λ (d : Draft). nat_le 0 d.ino) live) =
      all_runs live kept.files.overlays 0 (λ i below. subst (λ x. length (runs_in kept.files i) ≤ length (entries_of x live)) (omega arith) (runs_few i))
      in
      omega (arith, sum, fewer (λ (d : Draft). nat_le 0 d.ino) live, stands.owed, few_runs kept.staging stands.staged)

  pub runs_of_file_few : (ino : ℕ) → length (runs_in kept.files ino) ≤ 256
  runs_of_file_few ino = omega (arith, runs_few ino, fewer (λ (d : Draft). d.ino == ino) live, stands.owed, few_runs kept.staging stands.staged)
