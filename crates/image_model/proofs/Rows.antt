-- Values worked out by hand, as computations of the definitions.
use Rattle.std.proofs.Common.{◌≡◌, ◌-◌, [], ◌∷◌, refl}
use Rattle.std.specs.Prelude.{Some, None}
use Rattle.layout_model.specs.pm_model.Words.{Words}
use Rattle.layout_model.specs.block_counts.Counts.{blocks_for, chains_for, held_by}
use Rattle.layout_model.specs.declared.lines.Draft.{Draft}
use Rattle.extent_model.specs.declared.extent_words.Extent.{Extent}
use Rattle.image_model.specs.Chains.{chain_word, next_block, extents_in, blocks_from}
use Rattle.image_model.specs.Content.{entry_of_block, size_by}
use Rattle.image_model.specs.Live.{latest}
use Rattle.image_model.specs.Uses.{InChain, Holds, uses_by}

-- how many chain blocks 0, 1, 255 and 256 extents take
chain_counts : chains_for 0 ∷ chains_for 1 ∷ chains_for 255 ∷ chains_for 256 ∷ [] ≡ 0 ∷ 1 ∷ 1 ∷ 2 ∷ []
chain_counts = refl

-- two file blocks from 3 on, at blocks 20 and 21, in a chain block whose next is block 9
an_extent : Extent
an_extent = record { file = 3; disk = 20; count = 2 }

first_words : chain_word 9 (an_extent ∷ []) 0 ∷ chain_word 9 (an_extent ∷ []) 1 ∷ chain_word 9 (an_extent ∷ []) 2 ∷ chain_word 9 (an_extent ∷ []) 3 ∷ chain_word 9 (an_extent ∷ []) 4 ∷ [] ≡ 4294967305 ∷ 0 ∷ 85899345923 ∷ 2 ∷ 0 ∷ []
unfolding an_extent chain_word
first_words = refl

-- words with that chain block as block 10
chained : Words
chained w = chain_word 9 (an_extent ∷ []) (w - 5120)

read_back : (next_block chained 10 ≡ 9) × (extents_in chained 10 ≡ an_extent ∷ []) × (blocks_from chained 10 2 ≡ 10 ∷ 9 ∷ [])
unfolding chained an_extent chain_word blocks_from
read_back = (refl, refl, refl)

-- who uses blocks 10, 21 and 22, where inode 6 has that map
users : (uses_by 6 (10 ∷ []) (an_extent ∷ []) 10 ≡ InChain 6 0 ∷ []) × (uses_by 6 (10 ∷ []) (an_extent ∷ []) 21 ≡ Holds 6 4 ∷ []) × (uses_by 6 (10 ∷ []) (an_extent ∷ []) 22 ≡ [])
unfolding an_extent
users = (refl, refl, refl)

-- the last of three blocks of a chain, and a block that stands in one twice
chain_users : (uses_by 6 (10 ∷ 12 ∷ 11 ∷ []) [] 11 ≡ InChain 6 2 ∷ []) × (uses_by 6 (10 ∷ 12 ∷ 10 ∷ []) [] 10 ≡ InChain 6 0 ∷ InChain 6 2 ∷ [])
chain_users = (refl, refl)

-- blocks of 0, 1, 4,096 and 4,097 bytes, and what files of 0 and 1 bytes hold with their chains
block_counts : blocks_for 0 ∷ blocks_for 1 ∷ blocks_for 4096 ∷ blocks_for 4097 ∷ [] ≡ 0 ∷ 1 ∷ 1 ∷ 2 ∷ []
block_counts = refl

held : held_by 0 ∷ held_by 1 ∷ [] ≡ 0 ∷ 2 ∷ []
held = refl

-- two entries of inode 6, the later over the second block of the earlier
earlier : Draft
earlier = record { count = 2; order = 1; ino = 6; generation = 1; file_block = 0; staging = 1; staging_block = 1; staging_generation = 0; size = 8192 }

later : Draft
later = record { count = 1; order = 2; ino = 6; generation = 1; file_block = 1; staging = 1; staging_block = 3; staging_generation = 0; size = 5000 }

last_entries : (entry_of_block (later ∷ earlier ∷ []) 6 0 ≡ Some earlier) × (entry_of_block (earlier ∷ later ∷ []) 6 1 ≡ Some later) × (entry_of_block (later ∷ earlier ∷ []) 7 0 ≡ None)
unfolding earlier later
last_entries = (refl, refl, refl)

-- the length is that of the entry of greatest order, or of the inode line
lengths : size_by (latest (later ∷ earlier ∷ [])) 7 ∷ size_by (latest (earlier ∷ later ∷ [])) 7 ∷ size_by None 7 ∷ [] ≡ 5000 ∷ 5000 ∷ 7 ∷ []
unfolding earlier later
lengths = refl
