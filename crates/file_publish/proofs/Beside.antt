-- A device of which words of the log alone differ: it stands for the same state.
use Rattle.std.specs.Prelude.{◌≡◌, ◌⊎◌, ◌≤◌, ◌<◌, ◌+◌, ◌*◌, ◌/◌, ◌%◌, ◌^◌, ℕ, true, List, Some}
use Rattle.std.proofs.Common.{arith, ap, ◌∙◌, sym, subst, inl, inr}
use Rattle.std.proofs.lemmas.Bool.{cases_lt}
use Rattle.live_step_laws.specs.pm_model.Bytes.{line_bytes-same}
use Rattle.live_step_laws.specs.pm_model.declared.Cell.{Cell}
use Rattle.live_step_laws.specs.pm_model.Cells.{cell, is_lent, is_single, IsCandidate}
use Rattle.live_step_laws.specs.pm_model.Images.{IsImage}
use Rattle.live_step_laws.specs.pm_model.Words.{byte_of, line_bytes, Words}
use Rattle.log_checkpoint.specs.block_io.Overwrites.{SameBesideLines}
use Rattle.live_step_laws.specs.layout_model.Journal.{IsSound, journaled}
use Rattle.live_step_laws.specs.layout_model.Places.{base_word, commit_word, Geometry, is_data_block, log_line}
use Rattle.live_step_laws.specs.layout_model.Superblock.{geometry_at, has_magic, has_numbers, has_version}
use Rattle.live_step_laws.specs.layout_model.declared.lines.Draft.{Draft}
use Rattle.live_step_laws.specs.image_model.Rules.{geometry_of, HasTarget, file_blocks_of}
use Rattle.live_step_laws.specs.image_model.Volume.{extents, inode, Volume}
use Rattle.live_step_laws.specs.extent_model.Extents.{disk_at}
use Rattle.live_step_laws.specs.extent_model.Covers.{covers-disk_at}
use Rattle.live_step_laws.specs.image_laws.ViewLaws.{sound-targets}
use Rattle.log_checkpoint.specs.k_map_plans.Plans.{IsStagingFile}
use Rattle.log_checkpoint.specs.k_plans.Whole.{IsWhole}
use Rattle.live_step_laws.specs.k_split_model.Stands.{Stands}
use Rattle.live_step_laws.specs.k_split_model.View.{View}
use Rattle.log_checkpoint.proofs.k_split_proofs.LogLaws.{data_beside, seen}
use Rattle.log_checkpoint.specs.k_split.Laps.{IsLogWord}
use Rattle.live_step_laws.specs.posix_spec.State.{State}
use Rattle.log_checkpoint.proofs.staging_files_proofs.GiveUpLaws.{staging-file}
use Rattle.log_checkpoint.specs.staging_files.Keeps.{Agrees, AreFreeSingle, IsStaging, Staged}
use Rattle.live_step_laws.specs.volume_laws.PoolLaws.{covered-in_data}
use Rattle.live_step_laws.specs.world_image_laws.Changed.{IsWorld-words}
use Rattle.live_step_laws.specs.world_image_laws.Images.{IsHeaded, StandsFor}
use Rattle.live_step_laws.specs.world_model.Jobs.{Job}
use Rattle.live_step_laws.specs.world_model.Shown.{SameButLent}
use Rattle.file_publish.specs.RoundLinesLaws.{with_cells}

-- all words but those of the log are as they were
abbrev pub SameBeside : Volume → List Cell → List Cell → Type 0
SameBeside v d e = (i : ℕ) → ¬ IsLogWord v i → cell e i ≡ cell d i

-- each image comes from one before, but for words of the log
abbrev pub ComesBeside : Volume → List Cell → List Cell → Type 0
ComesBeside v d e = (image : Words) → IsImage e image → (before : Words) × IsImage d before × SameBesideLines (log_line v.geometry 0) v.geometry.log before image

-- a word is one of the log, or it is not
pub log-or-not : (v : Volume) (i : ℕ) → IsLogWord v i ⊎ (¬ IsLogWord v i)
log-or-not v i = elim (cases_lt (i / 8) (log_line v.geometry 0)) [
  | inl low ↦ inr (λ at. omega (arith, low, at.from))
  | inr from ↦
      elim (cases_lt (i / 8) (log_line v.geometry 0 + v.geometry.log)) [
        | inl below ↦ inl (record { from = from; below = below })
        | inr past ↦ inr (λ at. omega (arith, past, at.below))
      ]
]

-- a word of a staged block is none
pub staged-beside : (v : Volume) (x b disk i : ℕ) → IsWhole v → IsStaging x → disk_at (extents v x) b ≡ Some disk → i / 512 ≡ disk → ¬ IsLogWord v i
staged-beside v x b disk i whole staging at word =
    let file : IsStagingFile x v = staging-file v x whole staging in
    let in_data : is_data_block v.geometry disk ≡ true =
    covered-in_data v.geometry (file_blocks_of (inode v x).kind) (extents v x) disk (whole.kept.kept.in_data x (omega (arith, file.below, whole.kept.all.inode_count))) (covers-disk_at (extents v x) b disk at)
    in
    subst (λ w. ¬ IsLogWord v w) (place i) (data_beside v (i / 512) (i % 512) (ap (is_data_block v.geometry) word ∙ in_data) (omega arith))
  where
    place : (n : ℕ) → 512 * (n / 512) + n % 512 ≡ n
    place n = omega arith

-- bytes of data blocks are as they were
pub bytes-beside : (v : Volume) (before image : Words) → SameBesideLines (log_line v.geometry 0) v.geometry.log before image
    → (b i : ℕ) → is_data_block v.geometry b ≡ true → i < 4096 → byte_of (journaled image) (4096 * b + i) ≡ byte_of (journaled before) (4096 * b + i)
bytes-beside v before image same b i in_data below =
    ap (λ (n : ℕ). n / 256 ^ ((4096 * b + i) % 8) % 256)
    (seen v before image same ((4096 * b + i) / 8) (subst (λ w. ¬ IsLogWord v w) (place b i) (data_beside v b (i / 8) in_data (omega (arith, below)))))
  where
    place : (n k : ℕ) → 512 * n + k / 8 ≡ (4096 * n + k) / 8
    place n k = omega arith

-- the head of an image is right, where that of the image before was
module _ (v : Volume) (e : List Cell) (stands : Stands v.geometry v e) (before image : Words) (is : IsImage e image) (same : SameBesideLines (log_line v.geometry 0) v.geometry.log before image)
    (headed-before : IsHeaded v.geometry before) (base-before : v.base ≡ journaled before base_word) where
  idle : image commit_word ≡ 0
  idle = subst (λ c. IsCandidate c (image commit_word)) stands.idle (is commit_word)

  sound : IsSound v.geometry image
  sound = record { count = omega (arith, idle); targets = λ r below. absurd (omega (arith, idle, below)) }

  first-word : (i : ℕ) → i < 512 → image i ≡ before i
  first-word i below = same i (λ at. omega (arith, below, at.from))

  line : line_bytes image 0 ≡ line_bytes before 0
  line = line_bytes-same image before 0 (λ i at. first-word i (omega (arith, at)))

  geometry : geometry_of image ≡ geometry_of before
  geometry = ap geometry_at line

  base : journaled image base_word ≡ journaled before base_word
  base = sym (stands.reads image is).base ∙ base-before

  pub headed-beside : IsHeaded v.geometry image
  headed-beside = record {
    head = record {
      whole_blocks = headed-before.head.whole_blocks;
      magic = ap has_magic line ∙ headed-before.head.magic;
      version = ap has_version line ∙ headed-before.head.version;
      numbers = record {
        numbers = ap has_numbers line ∙ headed-before.head.numbers.numbers;
        whole = headed-before.head.numbers.whole ∙ ap (λ (k : Geometry). 4096 * k.blocks) (sym geometry);
        state = (stands.reads image is).state;
        others = λ i from below commit state. first-word i (omega (arith, below)) ∙ headed-before.head.numbers.others i from below commit state;
      };
      records = λ r below. subst (λ k. HasTarget k image r) (sym (geometry ∙ headed-before.geometry)) (sound-targets v.geometry image r sound);
      state = record {
        count = sound.count;
        least_base = subst (λ n. 1 ≤ n) (sym base) headed-before.head.state.least_base;
        most_base = subst (λ n. n ≤ 2 ^ 63) (sym base) headed-before.head.state.most_base;
      };
    };
    geometry = geometry ∙ headed-before.geometry;
  }

module _ (v : Volume) (d e : List Cell) (claims : List (ℕ × Draft)) (jobs : List Job) (numbers : List ℕ) (s : State) (count : ℕ) (device : StandsFor v d claims jobs numbers s count) (stands : Stands v.geometry v e)
    (comes : ComesBeside v d e) where
  data-same : (before image : Words) → SameBesideLines (log_line v.geometry 0) v.geometry.log before image → SameButLent v jobs (journaled before) (journaled image)
  data-same before image same b i in_data below lent = bytes-beside v before image same b i in_data below

  pub stands-beside : StandsFor v e claims jobs numbers s count
  stands-beside = record {
    stands = stands;
    headed = λ image is. (let from = comes image is in headed-beside v e stands from.0 image is from.2 (device.headed from.0 from.1) (device.stands.reads from.0 from.1).base);
    world = λ image is.
        let from = comes image is in
        IsWorld-words v claims jobs (journaled from.0) (journaled image) numbers s count (data-same from.0 image from.2) (device.world from.0 from.1);
    room = device.room;
  }

-- ---- the staging

module _ (k : View) (e : List Cell) (staging : Staged) (whole : IsWhole k.volume) (same : SameBeside k.volume k.cells e) where
  pub agrees-beside : Agrees staging k → Agrees staging (with_cells k e)
  agrees-beside agrees = record {
    free = λ x b is free.
        let was = agrees.free x b is free in
        record { disk = was.disk; at = was.at; home = λ i at. ap is_lent (same i (staged-beside k.volume x b was.disk i whole is was.at at)) ∙ was.home i at };
    empty = agrees.empty;
  }

  pub single-beside : AreFreeSingle staging k → AreFreeSingle staging (with_cells k e)
  single-beside free_single x b is free disk i at word = ap is_single (same i (staged-beside k.volume x b disk i whole is at word)) ∙ free_single x b is free disk i at word
