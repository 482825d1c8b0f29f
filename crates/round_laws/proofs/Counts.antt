-- How much there is to gather at most: 256 runs, and a file for each inode but the root's and those of staging files.
use Rattle.std.specs.Prelude.{◌≡◌, ◌≢◌, ◌⊎◌, ◌≤◌, ◌<◌, ◌+◌, ℕ, zero, suc, Bool, true, false, cond, List, [], ◌∷◌, filter, length, slice_index_or, refl}
use Rattle.std.proofs.Common.{arith, ap, sym, inl, inr}
use Rattle.std.proofs.lemmas.List.Sums.{count_by-le-length, length-filter}
use Rattle.world_view_laws.specs.eof_laws.layout_model.declared.lines.Inode.{Inode}
use Rattle.world_view_laws.specs.eof_laws.layout_model.declared.lines.Kind.{Kind}
use Rattle.world_view_laws.specs.eof_laws.layout_model.declared.lines.Kind.TheVariants.{Directory, File, Free, Staging}
use Rattle.world_view_laws.specs.eof_laws.layout_model.Places.{Geometry}
use Rattle.world_view_laws.specs.eof_laws.image_model.Live.{is_file}
use Rattle.world_view_laws.specs.eof_laws.image_model.Rules.{IsKindAt}
use Rattle.world_view_laws.specs.eof_laws.image_model.Volume.{free_inode, inode}
use Rattle.world_view_laws.specs.file_publish.live_model.Standing.{Kept, StandsAt}
use Rattle.world_view_laws.specs.eof_laws.k_split_model.View.{View}
use Rattle.world_view_laws.specs.eof_laws.posix_spec.State.{State}
use Rattle.world_view_laws.specs.eof_laws.posix_tables.Open.{Tables}
use Rattle.world_view_laws.specs.file_publish.log_checkpoint.Gathers.{file_count, total_runs}
use Rattle.world_view_laws.proofs.in_flight_proofs.CountsCounts.{staged_few}

-- ---- no more files than inodes behind the first five

no_file : (ino : ℕ) (kind : Kind) → ino < 5 → IsKindAt ino kind → is_file kind ≡ false
no_file ino Free below at = refl
no_file ino Directory below at = refl
no_file ino File below at = absurd (omega (arith, below, at))
no_file ino Staging below at = refl

passed_few : (p : Inode → Bool) (m : ℕ) (xs : List Inode) → m ≤ length xs → ((i : ℕ) → i < m → p (slice_index_or xs i free_inode) ≡ false) → length (filter p xs) + m ≤ length xs
passed_few p zero xs below none = omega (arith, length-filter p xs, count_by-le-length p xs)
passed_few p (suc m) [] below none = absurd (omega (arith, below))
passed_few p (suc m) (x ∷ xs) below none =
    let step : length (filter p (x ∷ xs)) ≡ length (filter p xs) = ap (λ c. length (cond c (x ∷ filter p xs) (filter p xs))) (none 0 (omega arith)) in
    omega (arith, step, passed_few p m xs (omega (arith, below)) (λ i at. none (suc i) (omega (arith, at))))

-- ---- both

pub file_or_not : (x : Kind) → (x ≡ File) ⊎ (x ≢ File)
file_or_not File = inl refl
file_or_not Free = inr (λ same. (let never : true ≡ false = sym (ap is_file same) in cc))
file_or_not Directory = inr (λ same. (let never : true ≡ false = sym (ap is_file same) in cc))
file_or_not Staging = inr (λ same. (let never : true ≡ false = sym (ap is_file same) in cc))

module _ (g : Geometry) (k : View) (t : Tables) (kept : Kept) (n : ℕ) (s : State) (stands : StandsAt g k t kept false n s) where
  files_few : file_count k.volume + 5 ≤ k.volume.geometry.inodes
  files_few =
      let whole = stands.order.whole in
      let none : (i : ℕ) → i < 5 → is_file (inode k.volume i).kind ≡ false = λ i below. no_file i (inode k.volume i).kind below (whole.kept.kept.kinds i (omega (arith, below, whole.kept.geometry.least_inodes))) in
      let passed = passed_few (λ (x : Inode). is_file x.kind) 5 k.volume.inodes (omega (arith, whole.kept.all.inode_count, whole.kept.geometry.least_inodes)) none in
      omega (arith, passed, length-filter (λ (x : Inode). is_file x.kind) k.volume.inodes, whole.kept.all.inode_count)

  -- SO MANY RUNS AND FILES at most
  pub few_gathered : total_runs kept.files + file_count k.volume ≤ 1275
  few_gathered = omega (arith, staged_few g k t kept false n s stands, files_few, stands.order.whole.kept.geometry.most_inodes)
