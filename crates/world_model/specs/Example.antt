-- A worked world: a directory with one file of three bytes, which a live entry has in a staging block; and a write of one
-- byte in flight, which has staged the file's block anew. Its parts stand in `ExampleParts` and `ExampleJob`; the answer
-- of the function that says that it is valid puts them together.
use Rattle.std.specs.Prelude.{◌≡◌, ℕ, zero, suc, ◌==◌, true, false, cond, IsSome, List, [], ◌∷◌, Some}
use Rattle.std.proofs.Common.{arith, inl, inr}
use Rattle.name_laws.specs.volume_laws.image_model.pm_model.Words.{Words}
use Rattle.name_laws.specs.volume_laws.image_model.extent_model.declared.extent_words.Extent.{Extent}
use Rattle.name_laws.specs.volume_laws.image_model.layout_model.declared.lines.Draft.{Draft}
use Rattle.name_laws.specs.volume_laws.image_model.layout_model.declared.lines.Inode.{Inode}
use Rattle.name_laws.specs.volume_laws.image_model.layout_model.declared.lines.Kind.{Kind}
use Rattle.name_laws.specs.volume_laws.image_model.layout_model.declared.lines.Kind.TheVariants.{Directory, File, Staging}
use Rattle.name_laws.specs.volume_laws.image_model.Rules.{HasStagingBlocks}
use Rattle.name_laws.specs.volume_laws.image_model.Volume.{Volume}
use Rattle.crash_spec.specs.posix_laws.posix_types.declared.call.Call.{Call}
use Rattle.crash_spec.specs.posix_laws.posix_types.declared.call.Mode.{Mode}
use Rattle.crash_spec.specs.posix_laws.posix_types.declared.call.Who.{Who}
use Rattle.crash_spec.specs.posix_laws.posix_types.declared.handle.Flags.{Flags}
use Rattle.crash_spec.specs.posix_laws.posix_types.declared.handle.Handle.{Handle}
use Rattle.crash_spec.specs.posix_laws.posix_tables.declared.nodes.Node.{Node}
use Rattle.crash_spec.specs.posix_laws.posix_spec.State.{State}
use Rattle.crash_spec.specs.list_laws.Members.{In}
use Rattle.world_model.specs.Jobs.{Job, live_claims, staged_block}

-- The volume: inode 5 is the file `a` of the root, inode 1 a staging file with blocks 10 and 11.

abbrev line : Kind → Inode
line kind = record { kind = kind; generation = 1; size = 0; applied = 0; root = 0; extents = 0 }

abbrev pub staged_extent : Extent
staged_extent = record { file = 0; disk = 10; count = 2 }

abbrev pub volume_a : Volume
volume_a =
    record {
      geometry = record { version = 1; blocks = 20; log = 8; inodes = 6; names = 1 };
      base = 1;
      inodes = line Directory ∷ line Staging ∷ line Staging ∷ line Staging ∷ line Staging ∷ line File ∷ [];
      names = Some (record { parent = 0; child = 5; name = 97 ∷ [] }) ∷ [];
      chains = [] ∷ [] ∷ [] ∷ [] ∷ [] ∷ [] ∷ [];
      maps = [] ∷ (staged_extent ∷ []) ∷ [] ∷ [] ∷ [] ∷ [] ∷ [];
    }

-- block 10 begins with the bytes 1, 2 and 3, block 11 with 1, 9 and 3
abbrev pub words_a : Words
words_a w = cond (w == 5120) 197121 (cond (w == 5632) 198913 0)

-- the entry of the file's block, in the staging block with this number, with this order
abbrev pub entry_a : ℕ → ℕ → Draft
entry_a staging_block order =
    record { count = 1; order = order; ino = 5; generation = 1; file_block = 0; staging = 1; staging_block = staging_block; staging_generation = 1; size = 3 }

abbrev pub claims_a : List (ℕ × Draft)
claims_a = (0, entry_a 0 1) ∷ []

-- The state: node 1 is the file, which thread 0 has open.

abbrev pub handle_a : Handle
handle_a = record { len = 1; bytes = 102 ∷ 0 ∷ 0 ∷ 0 ∷ 0 ∷ 0 ∷ 0 ∷ 0 ∷ [] }

abbrev flags_a : Flags
flags_a = record { read = true; write = true; append = false; create = false; exclusive = false; truncate = false }

abbrev pub state_a : State
state_a =
    record {
      nodes = Node.Directory ∷ Node.File (record { bytes = 1 ∷ 2 ∷ 3 ∷ []; published = 3 }) ∷ [];
      entries = record { parent = 0; name = 97 ∷ []; child = 1 } ∷ [];
      tables =
          record {
            descriptions = Some (record { node = 1; offset = 0; flags = flags_a }) ∷ [];
            descriptors = Some 0 ∷ [];
            handles = record { who = Who.Thread 0; handle = handle_a; descriptor = 0 } ∷ [];
          };
      shape = record { data_blocks = 12; nodes = 2; names = 1 };
      mode = Mode.Strict;
    }

abbrev pub numbers_a : List ℕ
numbers_a = 0 ∷ 0 ∷ 0 ∷ 0 ∷ 0 ∷ 1 ∷ []

-- The write in flight: byte 1 becomes 9.
abbrev pub job_a : Job
job_a = record { who = Who.Thread 0; call = Call.Pwrite handle_a 1 (9 ∷ []); draft = entry_a 1 2; whole = 1 ∷ 9 ∷ 3 ∷ []; found = 1 ∷ 9 ∷ 3 ∷ [] }

-- Its one live claim, and entries of one staging block.
pub one_entry : (d : Draft) → In d (live_claims volume_a claims_a) → entry_a 0 1 ≡ d
one_entry d (inl same) = same
one_entry d (inr none) = absurd none

pub staged_at : (staging_block order : ℕ) → IsSome (staged_block volume_a (entry_a staging_block order) 0) → HasStagingBlocks volume_a (entry_a staging_block order)
staged_at staging_block order is zero below = is
staged_at staging_block order is (suc k) below = absurd (omega (arith, below))
