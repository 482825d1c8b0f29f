-- Worked worlds in POSIX mode: a root with one name, `a`, of inode 5, and one staging file with blocks.
use Rattle.std.specs.Prelude.{ℕ, ◌==◌, true, false, cond, List, [], ◌∷◌, length, None, Some}
use Rattle.world_image_laws.specs.pm_model.Words.{Words}
use Rattle.world_image_laws.specs.extent_model.declared.extent_words.Extent.{Extent}
use Rattle.world_image_laws.specs.layout_model.declared.lines.Draft.{Draft}
use Rattle.world_image_laws.specs.layout_model.declared.lines.Inode.{Inode}
use Rattle.world_image_laws.specs.layout_model.declared.lines.Kind.{Kind}
use Rattle.world_image_laws.specs.layout_model.declared.lines.Kind.TheVariants.{Directory, File, Staging}
use Rattle.world_image_laws.specs.image_model.Volume.{Volume}
use Rattle.world_image_laws.specs.posix_types.declared.call.Call.{Call}
use Rattle.world_image_laws.specs.posix_types.declared.call.Mode.{Mode}
use Rattle.world_image_laws.specs.posix_types.declared.call.Who.{Who}
use Rattle.world_image_laws.specs.posix_types.declared.handle.Flags.{Flags}
use Rattle.world_image_laws.specs.posix_types.declared.handle.Handle.{Handle}
use Rattle.world_image_laws.specs.posix_types.declared.item.Item.{Item}
use Rattle.world_image_laws.specs.posix_types.declared.reply.Reply.{Reply}
use Rattle.world_image_laws.specs.posix_tables.declared.nodes.Node.{Node}
use Rattle.world_image_laws.specs.posix_tables.Open.{Tables}
use Rattle.world_image_laws.specs.posix_spec.Run.{Unfinished}
use Rattle.world_image_laws.specs.posix_spec.State.{State}
use Rattle.posix_mode_laws.specs.Sides.{Sides}

-- ---- volumes

abbrev line : Kind → Inode
line kind = record { kind = kind; generation = 1; size = 0; applied = 0; root = 0; extents = 0 }

-- one block, or two, of a file or a staging file
abbrev pub extent : ℕ → ℕ → ℕ → List Extent
extent place disk count = record { file = place; disk = disk; count = count } ∷ []

-- Inode 5 is of this kind, generation and size, with this chain and map; inode 1 is a staging file with this map.
abbrev pub volume_with : Kind → ℕ → ℕ → List ℕ → List Extent → List Extent → Volume
volume_with kind generation size blocks staging own =
    record {
      geometry = record { version = 1; blocks = 20; log = 8; inodes = 6; names = 1 };
      base = 1;
      inodes =
          line Directory ∷ line Staging ∷ line Staging ∷ line Staging ∷ line Staging
          ∷ record { kind = kind; generation = generation; size = size; applied = 0; root = 0; extents = 0 } ∷ [];
      names = Some (record { parent = 0; child = 5; name = 97 ∷ [] }) ∷ [];
      chains = [] ∷ [] ∷ [] ∷ [] ∷ [] ∷ blocks ∷ [];
      maps = [] ∷ staging ∷ [] ∷ [] ∷ [] ∷ own ∷ [];
    }

-- block 10 begins with the bytes 9, 2 and 3, block 11 with 9 and 7, block 12 with 9
abbrev pub words_with : ℕ → Words
words_with ten w = cond (w == 5120) ten (cond (w == 5632) 1801 (cond (w == 6144) 9 0))

abbrev pub words_p : Words
words_p = words_with 197129

-- a run of block 0 of the file, in a block of the staging file
abbrev pub run_at : ℕ → ℕ → Draft
run_at block size = record { count = 1; order = 1; ino = 5; generation = 1; file_block = 0; staging = 1; staging_block = block; staging_generation = 1; size = size }

-- inode 5 has this node, and inode 5 this length
abbrev pub only_5 : ℕ → List ℕ
only_5 n = 0 ∷ 0 ∷ 0 ∷ 0 ∷ 0 ∷ n ∷ []

-- ---- states

abbrev pub handle_p : Handle
handle_p = record { len = 1; bytes = 102 ∷ 0 ∷ 0 ∷ 0 ∷ 0 ∷ 0 ∷ 0 ∷ 0 ∷ [] }

abbrev flags_p : Flags
flags_p = record { read = true; write = true; append = false; create = false; exclusive = false; truncate = false }

-- thread 0 has node 1 open, or nothing is open
abbrev pub tables_p : Tables
tables_p =
    record {
      descriptions = Some (record { node = 1; offset = 0; flags = flags_p }) ∷ [];
      descriptors = Some 0 ∷ [];
      handles = record { who = Who.Thread 0; handle = handle_p; descriptor = 0 } ∷ [];
    }

abbrev pub no_tables : Tables
no_tables = record { descriptions = []; descriptors = []; handles = [] }

-- the root, these nodes, and the name, which leads to one of them
abbrev pub state_with : List Node → ℕ → Tables → State
state_with nodes n tables =
    record {
      nodes = Node.Directory ∷ nodes;
      entries = record { parent = 0; name = 97 ∷ []; child = n } ∷ [];
      tables = tables;
      shape = record { data_blocks = 12; nodes = 2; names = 1 };
      mode = Mode.Posix;
    }

-- node 1 is a file with these bytes and this published length
abbrev pub file_with : List ℕ → ℕ → Node
file_with bytes published = Node.File (record { bytes = bytes; published = published })

abbrev pub open_file : List ℕ → ℕ → State
open_file bytes published = state_with (file_with bytes published ∷ []) 1 tables_p

abbrev item : Call → Reply → Item
item call reply = record { who = Who.Thread 0; index = 0; call = call; reply = reply; room = None }

abbrev pub pwrite : ℕ → List ℕ → Item
pwrite place bytes = item (Call.Pwrite handle_p place bytes) (Reply.Count (length bytes))

-- ---- (a) A byte of the file is published, in block 12; it was written in place. Two bytes more are staged, with it, in block 10.
-- The batch is the committed volume.
abbrev pub start_a : State
start_a = open_file (1 ∷ []) 1

abbrev pub later_a : List Item
later_a = pwrite 0 (9 ∷ []) ∷ pwrite 1 (2 ∷ 3 ∷ []) ∷ []

abbrev pub volume_a : Volume
volume_a = volume_with File 1 1 [] (extent 0 10 2) (extent 0 12 1)

abbrev pub world_a : Sides
world_a = record { committed = volume_a; committed_numbers = only_5 1; batch = volume_a; numbers = only_5 1; staged = run_at 0 3 ∷ []; lengths = only_5 3 }

-- ---- (b) The same, in a Checkpoint: block 10 is the file's in the batch, whose new map has its chain in block 14. No run is staged,
-- and the published length is 1 still.
abbrev pub batch_b : Volume
batch_b = volume_with File 1 1 (14 ∷ []) (extent 1 11 1) (extent 0 10 1)

abbrev pub world_b : Sides
world_b = record { committed = volume_a; committed_numbers = only_5 1; batch = batch_b; numbers = only_5 1; staged = []; lengths = only_5 3 }

-- ---- (c) The file, with block 12 and a chain in block 13, was unlinked; a directory of its name has its inode.
abbrev pub start_c : State
start_c = state_with (file_with (9 ∷ []) 1 ∷ []) 1 no_tables

abbrev pub later_c : List Item
later_c = item (Call.Unlink ((97 ∷ []) ∷ [])) Reply.Ok ∷ item (Call.Mkdir ((97 ∷ []) ∷ [])) Reply.Ok ∷ []

abbrev pub committed_c : Volume
committed_c = volume_with File 1 1 (13 ∷ []) (extent 0 10 2) (extent 0 12 1)

abbrev pub batch_c : Volume
batch_c = volume_with Directory 2 0 [] (extent 0 10 2) []

abbrev pub world_c : Sides
world_c = record { committed = committed_c; committed_numbers = only_5 1; batch = batch_c; numbers = only_5 2; staged = []; lengths = only_5 0 }

-- ---- (d) Three bytes were published, in block 10, and are kept; the file was cut to one, and a byte more is staged, in block 11.
-- The map of the file, with its chain in block 13, has not changed.
abbrev pub start_d : State
start_d = open_file (9 ∷ []) 1

abbrev pub kept_d : List Item
kept_d = pwrite 1 (2 ∷ 3 ∷ []) ∷ item (Call.Fsync handle_p) Reply.Ok ∷ []

abbrev pub later_d : List Item
later_d = item (Call.Truncate handle_p 1) Reply.Ok ∷ pwrite 1 (7 ∷ []) ∷ []

abbrev pub committed_d : Volume
committed_d = volume_with File 1 3 (13 ∷ []) (extent 1 11 1) (extent 0 10 1)

abbrev pub batch_d : Volume
batch_d = volume_with File 1 1 (13 ∷ []) (extent 1 11 1) (extent 0 10 1)

abbrev pub world_d : Sides
world_d = record { committed = committed_d; committed_numbers = only_5 1; batch = batch_d; numbers = only_5 1; staged = run_at 1 2 ∷ []; lengths = only_5 2 }

-- ---- (e) The same, in a Checkpoint: block 11 is the file's in the batch, whose new map has its chain in block 14. No run is staged.
abbrev pub batch_e : Volume
batch_e = volume_with File 1 1 (14 ∷ []) [] (extent 0 11 1)

abbrev pub world_e : Sides
world_e = record { committed = committed_d; committed_numbers = only_5 1; batch = batch_e; numbers = only_5 1; staged = []; lengths = only_5 2 }

-- ---- A write of the bytes 7 and 8 at place 1, in place, lost its power: the first is there, the second is not.
abbrev pub lost_call : Unfinished
lost_call = (Who.Thread 0, Call.Pwrite handle_p 1 (7 ∷ 8 ∷ []))

abbrev pub lost_word : ℕ
lost_word = 198409

abbrev pub lost_words : Words
lost_words = words_with lost_word
