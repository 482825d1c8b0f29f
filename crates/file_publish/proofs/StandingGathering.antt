-- What is staged of all files may be gathered.
use Rattle.std.specs.Prelude.{◌≡◌, ◌≢◌, ◌⊎◌, ◌≤◌, ◌<◌, ◌+◌, ◌^◌, ◌==◌, ℕ, suc, Bool, true, false, nat_le, All, List, [], ◌∷◌, filter, length, map, slice_index_or, sum_by, refl}
use Rattle.std.proofs.Common.{arith, ap, ◌∙◌, sym, subst, inl, inr}
use Rattle.std.proofs.lemmas.Bool.Decides.{Decides-eqb, nat_tests}
use Rattle.std.proofs.lemmas.List.Sums.{sum_by-cons}
use Rattle.log_checkpoint.specs.layout_model.declared.lines.Draft.{Draft}
use Rattle.log_checkpoint.specs.layout_model.declared.lines.Kind.{Kind}
use Rattle.log_checkpoint.specs.layout_model.declared.lines.Kind.TheVariants.{Directory, File, Free, Staging}
use Rattle.log_checkpoint.specs.layout_model.block_counts.declared.TheConstants.{LONGEST_FILE}
use Rattle.log_checkpoint.specs.layout_model.Places.{Geometry}
use Rattle.log_checkpoint.specs.image_model.Live.{is_file}
use Rattle.log_checkpoint.specs.image_model.Volume.{inode}
use Rattle.log_checkpoint.specs.file_overlay.declared.runs.Run.{Run}
use Rattle.log_checkpoint.specs.file_overlay.Runs.{Overlaid}
use Rattle.log_checkpoint.specs.file_table.Files.{nothing_laid, runs_in}
use Rattle.log_checkpoint.specs.fsync_relink.Others.{AllApart}
use Rattle.log_checkpoint.specs.fsync_relink.Publishes.{ShareNone}
use Rattle.log_checkpoint.specs.k_map_plans.Plans.{IsLiveFile}
use Rattle.log_checkpoint.proofs.k_plans_proofs.FreeCounts.{unwaiting-counted}
use Rattle.log_checkpoint.specs.k_split_model.View.{View}
use Rattle.log_checkpoint.specs.list_laws.Filters.{filter-In}
use Rattle.log_checkpoint.specs.list_laws.Members.{In}
use Rattle.log_checkpoint.specs.Gathers.{MayGather, total_runs}
use Rattle.live_step_laws.specs.live_model.Overlays.{run_of}
use Rattle.log_checkpoint.specs.posix_tables.Open.{Tables}
use Rattle.log_checkpoint.specs.posix_spec.State.{State}
use Rattle.log_checkpoint.specs.world_model.Jobs.{live_claims}
use Rattle.log_checkpoint.specs.world_model.TreeRules.{used_below}
use Rattle.log_checkpoint.specs.world_model.Stands.{entries_of, is_used}
use Rattle.live_step_laws.specs.live_model.Standing.{Kept, StandsAt}
use Rattle.file_publish.specs.StandingLaws.{StandsToGather}
use Rattle.file_publish.proofs.Entries.{each_mapped, mapped_length}
use Rattle.file_publish.proofs.StandingPublishing.{fewer, may_publish, share_none}

kind_cases : (x : Kind) → (x ≡ File) ⊎ (x ≢ File)
kind_cases File = inl refl
kind_cases Free = inr (λ same. (let never : true ≡ false = sym (ap is_file same) in cc))
kind_cases Directory = inr (λ same. (let never : true ≡ false = sym (ap is_file same) in cc))
kind_cases Staging = inr (λ same. (let never : true ≡ false = sym (ap is_file same) in cc))

-- the entries of a line and those of the lines behind it
from_line : (m : ℕ) (live : List Draft) → length (filter (λ (d : Draft). nat_le m d.ino) live) ≡ length (entries_of m live) + length (filter (λ (d : Draft). nat_le (suc m) d.ino) live)
from_line m [] = refl
from_line m (d ∷ live) = by (d.ino == m) (nat_le m d.ino) (nat_le (suc m) d.ino) refl refl refl (from_line m live) where
  by : (a b c : Bool) → (d.ino == m) ≡ a → nat_le m d.ino ≡ b → nat_le (suc m) d.ino ≡ c
      → length (filter (λ (x : Draft). nat_le m x.ino) live) ≡ length (entries_of m live) + length (filter (λ (x : Draft). nat_le (suc m) x.ino) live)
      → length (filter (λ (x : Draft). nat_le m x.ino) (d ∷ live)) ≡ length (entries_of m (d ∷ live)) + length (filter (λ (x : Draft). nat_le (suc m) x.ino) (d ∷ live))
  by true true false one two three rest = rw (one, two, three) (omega (arith, rest))
  by false true true one two three rest = rw (one, two, three) (omega (arith, rest))
  by false false false one two three rest = rw (one, two, three) (omega (arith, rest))
  by true true true one two three rest = absurd (grind (arith, nat_tests))
  by true false true one two three rest = absurd (grind (arith, nat_tests))
  by true false false one two three rest = absurd (grind (arith, nat_tests))
  by false true false one two three rest = absurd (grind (arith, nat_tests))
  by false false true one two three rest = absurd (grind (arith, nat_tests))

-- where each line has as many runs as entries at most, all lines have
all_runs : (live : List Draft) (os : List Overlaid) (m : ℕ) → ((i : ℕ) → i < length os → length (slice_index_or os i nothing_laid).runs ≤ length (entries_of (m + i) live))
    → sum_by (λ (x : Overlaid). length x.runs) os ≤ length (filter (λ (d : Draft). nat_le m d.ino) live)
all_runs live [] m each = omega arith
all_runs live (o ∷ os) m each =
    let own : length o.runs ≤ length (entries_of m live) = subst (λ x. length o.runs ≤ length (entries_of x live)) (omega arith) (each 0 (omega arith)) in
    let rest : sum_by (λ (x : Overlaid). length x.runs) os ≤ length (filter (λ (d : Draft). nat_le (suc m) d.ino) live) =
    all_runs live os (suc m) (λ i below. subst (λ x. length (slice_index_or os i nothing_laid).runs ≤ length (entries_of x live)) (omega arith) (each (suc i) (omega (arith, below))))
    in
    omega (arith, own, rest, sum_by-cons (λ (x : Overlaid). length x.runs) o os, from_line m live)

-- what is kept of a line is of entries of its file
record Own (live : List Draft) (ino : ℕ) (runs : List Run) : Type 0 where
  entries : List Draft
  runs_are : runs ≡ map run_of entries
  live_ones : (d : Draft) → In d entries → In d live
  own_ones : (d : Draft) → In d entries → d.ino ≡ ino
  few : length runs ≤ length (entries_of ino live)

module _ (g : Geometry) (k : View) (t : Tables) (kept : Kept) (lines : Bool) (n : ℕ) (s : State) (stands : StandsAt g k t kept lines n s) (few : n ≤ 2 ^ 62)
    (small : All (λ size. size ≤ LONGEST_FILE) kept.files.sizes) where
  abbrev live : List Draft
  live = live_claims k.volume kept.claims

  lines_are : length kept.files.sizes ≡ length k.volume.inodes
  lines_are = stands.sizes.count

  own_of : (ino : ℕ) → Own live ino (runs_in kept.files ino)
  own_of ino = elim (kind_cases (inode k.volume ino).kind) [
    | inl file ↦ record {
      entries = entries_of ino live;
      runs_are = (stands.flying.overlays ino file).runs_are;
      live_ones = λ d is. (filter-In (λ (x : Draft). x.ino == ino) live d is).0;
      own_ones = λ d is. (Decides-eqb d.ino ino).0 (filter-In (λ (x : Draft). x.ino == ino) live d is).1;
      few = (let count = ap length (stands.flying.overlays ino file).runs_are in omega (arith, count, mapped_length run_of (entries_of ino live)));
    }
    | inr other ↦ record {
      entries = [];
      runs_are = stands.bare ino other;
      live_ones = λ d is. absurd is;
      own_ones = λ d is. absurd is;
      few = (let count = ap length (stands.bare ino other) in omega (arith, count));
    }
  ]

  none_kept : (ino : ℕ) → ¬ IsLiveFile ino k.volume → runs_in kept.files ino ≡ []
  none_kept ino never = elim (kind_cases (inode k.volume ino).kind) [
    | inl file ↦ absurd (never (record { below = used_below k.volume ino (ap is_used file); file = file }))
    | inr other ↦ stands.bare ino other
  ]

  all_apart : (ino other : ℕ) → ino ≢ other → AllApart (runs_in kept.files ino) (runs_in kept.files other)
  all_apart ino other two =
      let one = own_of ino in
      let second = own_of other in
      subst (λ runs. AllApart runs (runs_in kept.files other)) (sym one.runs_are)
      (subst (AllApart (map run_of one.entries)) (sym second.runs_are)
      (each_mapped (λ run. All (ShareNone run) (map run_of second.entries)) run_of one.entries (λ d is.
      each_mapped (ShareNone (run_of d)) run_of second.entries (λ e there.
      share_none g k t kept lines n s stands d e (one.live_ones d is) (second.live_ones e there)
      (λ equal. two (sym (one.own_ones d is) ∙ ap (λ (x : Draft). x.ino) equal ∙ second.own_ones e there))))))

  few_at : (i : ℕ) → i < length kept.files.overlays → length (slice_index_or kept.files.overlays i nothing_laid).runs ≤ length (entries_of (0 + i) live)
  few_at i below =
      let same : i ≡ 0 + i = omega arith in
      subst (λ x. length (runs_in kept.files i) ≤ length (entries_of x live)) same (own_of i).few

  pub may_gather : MayGather kept.files k
  may_gather = record {
    lines = lines_are;
    each = λ ino file. may_publish g k t kept lines n s stands ino few file (small ino 0 (omega (arith, file.below, lines_are)));
    none = none_kept;
    apart = all_apart;
    room =
        let free = stands.flying.device.room.free in
        let counted = unwaiting-counted (record { volume = k.volume; aside = []; waiting = k.waiting }) refl (stands.order.none_waits stands.unbatched) in
        let sum : total_runs kept.files ≤ length (filter (λ (d : Draft). nat_le 0 d.ino) live) = all_runs live kept.files.overlays 0 few_at in
        omega (arith, free, counted, sum, fewer live (λ d. nat_le 0 d.ino));
  }

pub stands_to_gather : StandsToGather
stands_to_gather g k t kept lines n s stands few small = may_gather g k t kept lines n s stands few small
