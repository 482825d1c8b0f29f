-- Where the parts of an image lie. Block 0 has the superblock (line 0), the commit word of the journal (line 1)
-- and the log base (line 2); blocks 1 to 4 the journal's records; then come the inode lines, the name lines and the
-- log lines, each region rounded up to whole blocks; the rest are data blocks. Lines are counted from the first
-- line of the image, 64 a block; words from its first word, 8 a line.
use Rattle.std.specs.Prelude.{◌≡◌, ℕ, ◌+◌, ◌-◌, ◌*◌, ◌/◌, ◌≤◌, Bool, ◌&&◌, ◌||◌, ◌==◌, nat_lt, nat_le}
use Rattle.block_counts.specs.Counts.{reserve_for}

-- The numbers of an image: its version, its blocks, and the lines of its log, its inodes and its names.
pub record Geometry : Type 0 where
  pub version : ℕ
  pub blocks : ℕ
  pub log : ℕ
  pub inodes : ℕ
  pub names : ℕ

-- how many blocks so many lines take
abbrev pub blocks_of_lines : ℕ → ℕ
blocks_of_lines n = (n + 63) / 64

-- the line of the log base, and the words of the commit word and of the log base
abbrev pub state_line : ℕ
state_line = 2

abbrev pub commit_word : ℕ
commit_word = 8

abbrev pub base_word : ℕ
base_word = 16

-- the first line of record r of the journal, which has its target; its content is the next line
abbrev pub record_line : ℕ → ℕ
record_line r = 64 + 2 * r

-- the first block of each region
abbrev pub inode_block : ℕ
inode_block = 5

abbrev pub name_block : Geometry → ℕ
name_block g = inode_block + blocks_of_lines g.inodes

abbrev pub log_block : Geometry → ℕ
log_block g = name_block g + blocks_of_lines g.names

abbrev pub first_data : Geometry → ℕ
first_data g = log_block g + blocks_of_lines g.log

abbrev pub data_blocks : Geometry → ℕ
data_blocks g = g.blocks - first_data g

-- the lines of inode i, of name line k, of log slot s
abbrev pub inode_line : ℕ → ℕ
inode_line i = 64 * inode_block + i

abbrev pub name_line : Geometry → ℕ → ℕ
name_line g k = 64 * name_block g + k

abbrev pub log_line : Geometry → ℕ → ℕ
log_line g s = 64 * log_block g + s

abbrev pub is_data_block : Geometry → ℕ → Bool
is_data_block g b = nat_le (first_data g) b && nat_lt b g.blocks

-- the blocks that no file may hold
abbrev pub reserve : Geometry → ℕ
reserve g = reserve_for (data_blocks g)

-- nodes that an image has room for: inode lines 1 to 4 are the staging files'
abbrev pub nodes : Geometry → ℕ
nodes g = g.inodes - 4

-- the most that an image of a version has: log lines, inode lines and name lines
abbrev pub most_log_of : ℕ → ℕ
most_log_of version = 1024

abbrev pub most_inodes_of : ℕ → ℕ
most_inodes_of version = 1024

abbrev pub most_names_of : ℕ → ℕ
most_names_of version = 4096

-- the numbers are in range, and at least 32 data blocks are left
pub record IsGeometry (g : Geometry) : Type 0 where
  pub version : g.version ≡ 1
  pub least_blocks : 64 ≤ g.blocks
  pub most_blocks : g.blocks ≤ 16384
  pub least_log : 4 ≤ g.log
  pub most_log : g.log ≤ most_log_of g.version
  pub least_inodes : 16 ≤ g.inodes
  pub most_inodes : g.inodes ≤ most_inodes_of g.version
  pub least_names : 16 ≤ g.names
  pub most_names : g.names ≤ most_names_of g.version
  pub least_data : first_data g + 32 ≤ g.blocks

-- the same as a test of the four numbers, the version apart
abbrev pub is_in_range : Geometry → Bool
is_in_range g =
    nat_le 64 g.blocks && nat_le g.blocks 16384 && nat_le 4 g.log && nat_le g.log (most_log_of g.version)
    && nat_le 16 g.inodes && nat_le g.inodes (most_inodes_of g.version) && nat_le 16 g.names && nat_le g.names (most_names_of g.version)
    && nat_le (first_data g + 32) g.blocks

-- a line of n lines from the first one on
abbrev pub is_within : ℕ → ℕ → ℕ → Bool
is_within first n line = nat_le first line && nat_lt line (first + n)

-- the lines that the journal may change: the log base's, the inode lines and the name lines
abbrev pub is_journaled_line : Geometry → ℕ → Bool
is_journaled_line g line =
    (line == state_line) || is_within (inode_line 0) g.inodes line || is_within (name_line g 0) g.names line
