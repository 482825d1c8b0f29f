-- The tables of a volume, as they are read and checked.
use Rattle.std.specs.Prelude.{◌≡◌, ℕ, ◌+◌, List, [], ◌∷◌, ◌++◌, length}
use Rattle.k_journal.specs.pm_model.Words.{Words}
use Rattle.k_journal.specs.layout_model.Journal.{journaled}
use Rattle.k_journal.specs.layout_model.Places.{Geometry, first_data, data_blocks}
use Rattle.k_reading.specs.extent_model.declared.extent_words.Extent.{Extent}
use Rattle.k_reading.specs.layout_model.declared.lines.Inode.{Inode}
use Rattle.k_reading.specs.layout_model.Names.{Rows, row, names_of}
use Rattle.k_reading.specs.image_model.Broken.{Rule, at_one, below, head_rules, line_rules, volume_rules}
use Rattle.k_reading.specs.image_model.Rules.{geometry_of, IsRowPlaced, AreDirectoriesNamed, HasOneName, IsNamedOnce}
use Rattle.k_reading.specs.image_model.Uses.{owners}
use Rattle.k_reading.specs.image_model.Volume.{Volume, volume}
use Rattle.k_reading.specs.Pools.{AreInData}
use Rattle.check_image.specs.declared.reading.Tables.{Tables}
use Rattle.check_image.specs.Above.{HaveChildrenBelow}
use Rattle.check_image.specs.Marks.{AreMarks}

-- the tables are those of the volume
pub record AreOf (v : Volume) (inodes : List Inode) (names : Rows) (chains : List (List ℕ)) (maps : List (List Extent)) : Type 0 where
  pub same_inodes : v.inodes ≡ inodes
  pub same_names : v.names ≡ names
  pub same_chains : v.chains ≡ chains
  pub same_maps : v.maps ≡ maps

-- What the rules of the lines give for them: they have one place for each line, chains and maps lie in data blocks,
-- and children are inodes in range.
pub record AreGood (g : Geometry) (inodes : List Inode) (names : Rows) (chains : List (List ℕ)) (maps : List (List Extent)) : Type 0 where
  pub inode_count : length inodes ≡ g.inodes
  pub name_count : length names ≡ g.names
  pub chain_count : length chains ≡ g.inodes
  pub map_count : length maps ≡ g.inodes
  pub in_data : AreInData g chains maps
  pub children : HaveChildrenBelow (length inodes) names

-- rule 8, and rules 9 and 10
abbrev pub blocks_rule : Volume → Rule
blocks_rule v = record { number = 8; first = first_data v.geometry; count = data_blocks v.geometry; HoldsAt = IsNamedOnce v }

abbrev pub tree_rules : Volume → List Rule
tree_rules v =
    below 9 v.geometry.names (λ k. IsRowPlaced v k (row v.names k)) ∷ at_one 9 v.geometry.names (AreDirectoriesNamed v)
    ∷ below 10 v.geometry.inodes (HasOneName v) ∷ []

-- the marks of the uses of data blocks, and of the names of inodes
pub record AreUseMarks (v : Volume) (marks : List ℕ) : Type 0 where
  pub count : length marks ≡ data_blocks v.geometry
  pub uses : AreMarks marks (λ i. length (owners v (first_data v.geometry + i)))

pub record AreNameMarks (v : Volume) (marks : List ℕ) : Type 0 where
  pub count : length marks ≡ length v.inodes
  pub names : AreMarks marks (names_of v.names)

-- all rules before those of the log, for words with this geometry, and for the words of an image
abbrev pub body_rules : Geometry → Words → List Rule
body_rules g j = line_rules (volume g j) j ++ volume_rules (volume g j)

abbrev pub front_rules : ℕ → Words → List Rule
front_rules bytes f = head_rules bytes f ++ line_rules (volume (geometry_of f) (journaled f)) (journaled f) ++ volume_rules (volume (geometry_of f) (journaled f))

-- what was read is the volume, with the marks of its blocks and of its names
pub record AreTables (v : Volume) (t : Tables) : Type 0 where
  pub geometry : v.geometry ≡ t.geometry
  pub base : v.base ≡ t.base
  pub inode_count : length t.inodes.items ≡ t.geometry.inodes
  pub tables : AreOf v t.inodes.items t.names.items t.maps.chains.items t.maps.maps.items
  pub used : AreUseMarks v t.uses.items
  pub named : AreNameMarks v t.named.items
