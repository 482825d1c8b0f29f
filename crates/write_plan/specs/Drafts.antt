-- The entry of a logged write, or of the part of it that is staged.
use Rattle.block_counts.specs.declared.TheConstants.{LONGEST_WRITE}
use Rattle.std.specs.Option.{option_map_or}
use Rattle.std.specs.Prelude.{◌≡◌, ◌≤◌, ◌<◌, ◌+◌, ◌/◌, ◌^◌, ℕ, Bool, true, Contains, List, [], ◌∷◌, length, max}
use Rattle.eof_laws.specs.block_io.Overwrites.{blocks_reached}
use Rattle.file_table.specs.layout_model.Places.{Geometry}
use Rattle.layout_model.specs.declared.lines.Draft.{Draft}
use Rattle.layout_model.specs.declared.lines.Kind.TheVariants.{File}
use Rattle.layout_model.specs.Entries.{is_draft}
use Rattle.layout_model.specs.block_counts.declared.TheConstants.{LONGEST_FILE}
use Rattle.live_model.specs.data_route.Writes.{staged_by}
use Rattle.live_model.specs.image_model.Live.{is_live}
use Rattle.live_model.specs.image_model.Volume.{inode, Volume}
use Rattle.file_overlay.specs.declared.runs.Run.{Run}
use Rattle.file_table.specs.Files.{Files, runs_in}
use Rattle.live_model.specs.k_split_model.View.{View}
use Rattle.posix_types.specs.declared.call.Mode.{Mode}
use Rattle.posix_tables.specs.Open.{Tables}
use Rattle.open_files.specs.posix_spec.State.{State}
use Rattle.live_model.specs.staging_files.declared.runs.StageRun.{StageRun}
use Rattle.live_model.specs.staging_files.Keeps.{Staged}
use Rattle.live_model.specs.world_model.Jobs.{live_claims}
use Rattle.live_model.specs.world_model.Stands.{entries_of}
use Rattle.write_plan.specs.declared.asks.asking.Target.{Target}
use Rattle.live_model.specs.Standing.{Kept, StandsAt}

-- the order behind these runs: one more than that of the last one, or than what the file has applied
abbrev pub order_behind : ℕ → List Run → ℕ
order_behind applied [] = applied + 1
order_behind applied (run ∷ runs) = order_behind run.order runs

-- how many blocks a write of some bytes stages, by the plan of its mode
abbrev pub staged_count : Mode → ℕ → ℕ → ℕ → ℕ
staged_count mode size start len = option_map_or (λ (run : ℕ × ℕ). run.1) (staged_by mode size start (start + len)) 0

-- THE ENTRY of a write of so many bytes that has this run: the blocks from that of its first byte on, behind all entries of the
-- file; and the file ends where it did, or behind the bytes.
abbrev pub draft_in : Volume → Files → Target → ℕ → StageRun → Draft
draft_in v files target len run =
    record {
      count = run.count;
      order = order_behind (inode v target.ino).applied (runs_in files target.ino);
      ino = target.ino;
      generation = (inode v target.ino).generation;
      file_block = target.start / 4096;
      staging = run.staging;
      staging_block = run.block;
      staging_generation = run.generation;
      size = max target.size (target.start + len);
    }

-- The write has at least one byte and ends within the longest file; its run is one that is out, of as many blocks as it reaches,
-- and of the generation that its staging file has.
pub record HasRun (v : Volume) (staging : Staged) (target : Target) (len : ℕ) (run : StageRun) : Type 0 where
  pub some : 1 ≤ len
  pub most : len ≤ LONGEST_WRITE
  pub fits : target.start + len ≤ LONGEST_FILE
  pub size : target.size ≤ LONGEST_FILE
  pub out : Contains staging.out run
  pub count_is : run.count ≡ blocks_reached target.start len
  pub generation : run.generation ≡ (inode v run.staging).generation

-- The entry is one that a line can hold, it is live, and its order is the next one of its file.
pub record IsNextEntry (v : Volume) (claims : List (ℕ × Draft)) (d : Draft) : Type 0 where
  pub fields : is_draft d ≡ true
  pub alive : is_live v d ≡ true
  pub order : d.order ≡ (inode v d.ino).applied + length (entries_of d.ino (live_claims v claims)) + 1

-- Where the World stands together, so it is of each file.
abbrev pub DraftsAreNext : Type 0
DraftsAreNext =
    (g : Geometry) (k : View) (t : Tables) (kept : Kept) (lines : Bool) (n : ℕ) (s : State) (target : Target) (len : ℕ) (run : StageRun) → StandsAt g k t kept lines n s → n < 2 ^ 62
    → (inode k.volume target.ino).kind ≡ File → HasRun k.volume kept.staging target len run → IsNextEntry k.volume kept.claims (draft_in k.volume kept.files target len run)
