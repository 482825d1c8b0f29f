-- Laws of the places: the parts of an image are apart, and what a journaled line is not.
use Rattle.std.specs.Prelude.{◌≡◌, ◌≢◌, ◌⊎◌, ℕ, ◌+◌, ◌-◌, ◌*◌, ◌/◌, ◌<◌, ◌≤◌, true, false}
use Rattle.std.proofs.Common.{arith, inl, inr}
use Rattle.std.proofs.lemmas.Bool.Decides.{nat_tests}
use Rattle.layout_model.specs.Journal.{is_journal_word}
use Rattle.layout_model.specs.Places.{Geometry, IsGeometry, is_in_range, state_line, record_line, inode_block, name_block, log_block, first_data, inode_line, name_line, log_line, is_data_block, is_journaled_line}

-- the line lies in one of the blocks from `first` up to `next`, that one left out
pub record LiesIn (first next line : ℕ) : Type 0 where
  pub from : first ≤ line / 64
  pub below : line / 64 < next

-- The parts of an image follow one another: block 0, the journal's blocks, those of the inode lines, the name lines
-- and the log lines, the data blocks. Each line lies in the blocks of its own part.
pub record AreApart (g : Geometry) : Type 0 where
  pub names_behind_inodes : inode_block < name_block g
  pub log_behind_names : name_block g < log_block g
  pub data_behind_log : log_block g < first_data g
  pub within : first_data g < g.blocks
  pub state : LiesIn 0 1 state_line
  pub targets : (r : ℕ) → r < 128 → LiesIn 1 inode_block (record_line r)
  pub contents : (r : ℕ) → r < 128 → LiesIn 1 inode_block (record_line r + 1)
  pub inodes : (i : ℕ) → i < g.inodes → LiesIn inode_block (name_block g) (inode_line i)
  pub names : (k : ℕ) → k < g.names → LiesIn (name_block g) (log_block g) (name_line g k)
  pub log : (s : ℕ) → s < g.log → LiesIn (log_block g) (first_data g) (log_line g s)
  pub data_parts : (b : ℕ) → is_data_block g b ≡ true → (first_data g ≤ b) × (b < g.blocks)

data_bounds : (g : Geometry) (b : ℕ) → is_data_block g b ≡ true → (first_data g ≤ b) × (b < g.blocks)
data_bounds g b h = grind (arith, nat_tests)

pub regions_apart : (g : Geometry) → IsGeometry g → AreApart g
regions_apart g ok =
    record {
      names_behind_inodes = omega (arith, ok.least_inodes);
      log_behind_names = omega (arith, ok.least_names);
      data_behind_log = omega (arith, ok.least_log);
      within = omega (arith, ok.least_data);
      state = record { from = omega arith; below = omega arith };
      targets = λ r h. record { from = omega arith; below = omega arith };
      contents = λ r h. record { from = omega arith; below = omega arith };
      inodes = λ i h. record { from = omega arith; below = omega arith };
      names = λ k h. record { from = omega arith; below = omega arith };
      log = λ s h. record { from = omega arith; below = omega arith };
      data_parts = data_bounds g;
    }

-- the test of the numbers, and the numbers as a geometry
pub IsGeometry-in_range : (g : Geometry) → g.version ≡ 1 → is_in_range g ≡ true → IsGeometry g
IsGeometry-in_range g v h = grind (arith, nat_tests)

pub in_range-IsGeometry : (g : Geometry) → IsGeometry g → is_in_range g ≡ true
in_range-IsGeometry g ok = grind (arith, nat_tests)

-- the three kinds of journaled line, by their bounds and by their numbers
pub journaled_bounds : (g : Geometry) (line : ℕ) → is_journaled_line g line ≡ true → (line ≡ state_line) ⊎ (((inode_line 0 ≤ line) × (line < inode_line g.inodes)) ⊎ ((name_line g 0 ≤ line) × (line < name_line g g.names)))
journaled_bounds g line h = grind (arith, nat_tests)

pub journaled_cases : (g : Geometry) (line : ℕ) → is_journaled_line g line ≡ true → (line ≡ state_line) ⊎ (((i : ℕ) × (i < g.inodes) × (line ≡ inode_line i)) ⊎ ((k : ℕ) × (k < g.names) × (line ≡ name_line g k)))
journaled_cases g line h =
    elim (journaled_bounds g line h) [
      | inl e ↦ inl e
      | inr inside ↦ inr (elim inside [
        | inl b ↦ inl (line - inode_line 0, omega arith, omega arith)
        | inr b ↦ inr (line - name_line g 0, omega arith, omega arith)
      ])
    ]

pub journaled-state : (g : Geometry) → is_journaled_line g state_line ≡ true
journaled-state g = grind (arith, nat_tests)

pub journaled-inode : (g : Geometry) (i : ℕ) → i < g.inodes → is_journaled_line g (inode_line i) ≡ true
journaled-inode g i h = grind (arith, nat_tests)

pub journaled-name : (g : Geometry) (k : ℕ) → k < g.names → is_journaled_line g (name_line g k) ≡ true
journaled-name g k h = grind (arith, nat_tests)

-- a journaled line is below the first log line, and none of the superblock's, the commit word's and the records'
pub journaled-below_log : (g : Geometry) (line : ℕ) → is_journaled_line g line ≡ true → line < log_line g 0
journaled-below_log g line h = grind (arith, nat_tests)

pub journaled-from_state : (g : Geometry) (line : ℕ) → is_journaled_line g line ≡ true → state_line ≤ line
journaled-from_state g line h = grind (arith, nat_tests)

pub journaled-no_record : (g : Geometry) (line r : ℕ) → is_journaled_line g line ≡ true → r < 128 → (line ≢ record_line r) × (line ≢ record_line r + 1)
journaled-no_record g line r h below = (λ e. grind (arith, nat_tests), λ e. grind (arith, nat_tests))

-- words of a journaled line are no words of the journal
pub journaled-words : (g : Geometry) (line w : ℕ) → is_journaled_line g line ≡ true → w / 8 ≡ line → is_journal_word w ≡ false
journaled-words g line w h place = grind (arith, nat_tests)

-- lines of different parts differ
pub inode_line-name_line : (g : Geometry) (i k : ℕ) → i < g.inodes → inode_line i ≢ name_line g k
inode_line-name_line g i k h e = omega arith

pub log_line-not_journaled : (g : Geometry) (s : ℕ) → is_journaled_line g (log_line g s) ≡ false
log_line-not_journaled g s = grind (arith, nat_tests)

-- words from the log lines on are no words of the journal and of no journaled line
pub behind_log-words : (g : Geometry) (w : ℕ) → 512 * log_block g ≤ w → is_journal_word w ≡ false
behind_log-words g w h = grind (arith, nat_tests)

pub behind_log-not_journaled : (g : Geometry) (line : ℕ) → log_line g 0 ≤ line → is_journaled_line g line ≡ false
behind_log-not_journaled g line h = grind (arith, nat_tests)
