-- The words of the command line. The usage lines, each option at most once and in this order:
--   mkfs IMAGE BLOCKS LOG INODES NAMES
--   tree IMAGE
--   step IMAGE SCRIPT MODE [order LIST | seed N] [cut E] [stop N] [again NUMBERS] [choose C] [keep NAME]
--   run IMAGE SCRIPT MODE [stop N] [again NUMBERS] [choose C] [keep NAME]
--   load N T MODE
-- IMAGE is the name of a file, or `-` for the fresh default image, which `mkfs` does not make. MODE is `strict` or `sync`, those
-- that are built. LIST is 1 to 65,536 numbers below 8 with commas between; a number has 1 to 18 digits. C is `oldest`, `newest`, `even`,
-- `odd` or a number. A load has at most 500 calls for each of 1 to 8 threads.
use Rattle.std.specs.Prelude.{ℕ, Bool, true, false, List, [], length, codes, ◌&&◌, ◌==◌, nat_le, slice_index_or, drop, if◌then◌else◌, Option, Some, None, option_and_then, option_map}
use Rattle.image_layout.specs.layout_model.Fields.{is_same}
use Rattle.image_layout.specs.layout_model.Places.{Geometry, is_in_range}
use Rattle.image_layout.specs.Numbers.{numbered}
use Rattle.pm_lines.specs.declared.choices.Choice.{Choice}
use Rattle.script_text.specs.posix_spec.posix_types.declared.call.Mode.{Mode}
use Rattle.schedule.specs.crash_spec.Orders.{Listed, Order, Round, Seeded}
use Rattle.script_text.specs.Words.{fits, number_in, numbers_in}

-- an image: the fresh default one, or that of the file with this name
pub data Image : Type 0 where
  Fresh : Image
  Stored : List ℕ → Image

-- The options of a run: its mode, whether its threads are those of the machine, otherwise the order in which they are picked, the events and the steps after which the power
-- goes, the steps of each mount behind it but the last, which candidates a power loss leaves, and the name under which the image
-- that is left is kept.
pub record Options : Type 0 where
  pub mode : Mode
  pub by_threads : Bool
  pub order : Order
  pub cut : Option ℕ
  pub stop : Option ℕ
  pub again : List ℕ
  pub choice : Choice
  pub keep : Option (List ℕ)

-- a run of a script: the image, the script's name, and the options
pub record Run : Type 0 where
  pub image : Image
  pub script : List ℕ
  pub options : Options

-- a load: so many calls for each of so many threads, in a mode
pub record Loading : Type 0 where
  pub calls : ℕ
  pub threads : ℕ
  pub mode : Mode

pub data Command : Type 0 where
  Mkfs : List ℕ → Geometry → Command
  Tree : Image → Command
  Step : Run → Command
  Load : Loading → Command

-- word k of the command line, and whether it is this one
abbrev pub word_at : List (List ℕ) → ℕ → List ℕ
word_at words k = slice_index_or words k []

abbrev pub image_of : List ℕ → Image
image_of word = if is_same word (codes "-") then Fresh else Stored word

-- a mode by its name, of those that are built
abbrev pub mode_of : List ℕ → Option Mode
mode_of word =
    if is_same word (codes "strict") then Some Mode.Strict
    else if is_same word (codes "sync") then Some Mode.Sync
    else None

-- a choice by its name, or a number for the seed of its draws
abbrev pub choice_of : List ℕ → Option Choice
choice_of word =
    if is_same word (codes "oldest") then Some Choice.Oldest
    else if is_same word (codes "newest") then Some Choice.Newest
    else if is_same word (codes "even") then Some Choice.Even
    else if is_same word (codes "odd") then Some Choice.Odd
    else option_map (λ seed. Choice.Seed seed) (number_in word)

-- the threads of a list of picks, which are few enough, each the number of a thread
abbrev pub listed : Option (List ℕ) → Order
listed None = Listed []
listed (Some numbers) = Listed numbers

abbrev pub order_in : List ℕ → Option Order
order_in word = if fits 65536 7 (numbers_in word) then Some (listed (numbers_in word)) else None

-- the steps of a list, which are few enough
abbrev pub few_steps : Option (List ℕ) → List ℕ
few_steps None = []
few_steps (Some numbers) = numbers

abbrev pub again_in : List ℕ → Option (List ℕ)
again_in word = if fits 8 999999999999999999 (numbers_in word) then Some (few_steps (numbers_in word)) else None

-- Each of these puts its own option into those that were read before it, where its word is there, and leaves the words
-- behind it to the next.
unfoldable pub with_keep : Options → List (List ℕ) → Option Options
with_keep options words =
    if length words == 0 then Some options
    else if (length words == 2) && is_same (word_at words 0) (codes "keep") then Some (record options { keep = Some (word_at words 1) })
    else None

unfoldable pub with_choice : Options → List (List ℕ) → Option Options
with_choice options words =
    if nat_le 2 (length words) && is_same (word_at words 0) (codes "choose")
    then option_and_then (λ choice. with_keep (record options { choice = choice }) (drop 2 words)) (choice_of (word_at words 1))
    else with_keep options words

unfoldable pub with_again : Options → List (List ℕ) → Option Options
with_again options words =
    if nat_le 2 (length words) && is_same (word_at words 0) (codes "again")
    then option_and_then (λ again. with_choice (record options { again = again }) (drop 2 words)) (again_in (word_at words 1))
    else with_choice options words

unfoldable pub with_stop : Options → List (List ℕ) → Option Options
with_stop options words =
    if nat_le 2 (length words) && is_same (word_at words 0) (codes "stop")
    then option_and_then (λ steps. with_again (record options { stop = Some steps }) (drop 2 words)) (number_in (word_at words 1))
    else with_again options words

unfoldable pub with_cut : Options → List (List ℕ) → Option Options
with_cut options words =
    if nat_le 2 (length words) && is_same (word_at words 0) (codes "cut")
    then option_and_then (λ events. with_stop (record options { cut = Some events }) (drop 2 words)) (number_in (word_at words 1))
    else with_stop options words

-- a seed, or a list, not both
unfoldable pub with_seed : Options → List (List ℕ) → Option Options
with_seed options words =
    if nat_le 2 (length words) && is_same (word_at words 0) (codes "seed")
    then option_and_then (λ seed. with_cut (record options { order = Seeded seed }) (drop 2 words)) (number_in (word_at words 1))
    else with_cut options words

unfoldable pub with_order : Options → List (List ℕ) → Option Options
with_order options words =
    if nat_le 2 (length words) && is_same (word_at words 0) (codes "order")
    then option_and_then (λ order. with_cut (record options { order = order }) (drop 2 words)) (order_in (word_at words 1))
    else with_seed options words

-- the options of a run that names none
abbrev pub options_in : Mode → Options
options_in mode = record { mode = mode; by_threads = false; order = Round; cut = None; stop = None; again = []; choice = Choice.Oldest; keep = None }

unfoldable pub step_of : List (List ℕ) → Option Command
step_of words =
    if nat_le 4 (length words) && is_same (word_at words 0) (codes "step")
    then option_map (λ options. Step (record { image = image_of (word_at words 1); script = word_at words 2; options = options }))
    (option_and_then (λ mode. with_order (options_in mode) (drop 4 words)) (mode_of (word_at words 3)))
    else None

-- a run by threads: it names neither an order nor an event
unfoldable pub threads_of : List (List ℕ) → Option Command
threads_of words =
    if nat_le 4 (length words) && is_same (word_at words 0) (codes "run")
    then option_map (λ options. Step (record { image = image_of (word_at words 1); script = word_at words 2; options = options }))
    (option_and_then (λ mode. with_stop (record (options_in mode) { by_threads = true }) (drop 4 words)) (mode_of (word_at words 3)))
    else None

unfoldable pub tree_of : List (List ℕ) → Option Command
tree_of words = if (length words == 2) && is_same (word_at words 0) (codes "tree") then Some (Tree (image_of (word_at words 1))) else None

-- the geometry with these numbers, where they are in their ranges and leave enough data blocks
abbrev pub geometry_with : ℕ → ℕ → ℕ → ℕ → Option Geometry
geometry_with blocks log inodes names =
    if is_in_range (numbered blocks log inodes names) then Some (numbered blocks log inodes names) else None

-- the geometry that four words spell
unfoldable pub geometry_spelled : List ℕ → List ℕ → List ℕ → List ℕ → Option Geometry
geometry_spelled blocks log inodes names =
    option_and_then (λ b. option_and_then (λ l. option_and_then (λ i. option_and_then (λ n. geometry_with b l i n) (number_in names)) (number_in inodes)) (number_in log)) (number_in blocks)

-- a file by its name alone
abbrev pub stored_name : Image → Option (List ℕ)
stored_name Fresh = None
stored_name (Stored name) = Some name

unfoldable pub mkfs_of : List (List ℕ) → Option Command
mkfs_of words =
    if (length words == 6) && is_same (word_at words 0) (codes "mkfs")
    then option_and_then (λ name. option_map (λ geometry. Mkfs name geometry) (geometry_spelled (word_at words 2) (word_at words 3) (word_at words 4) (word_at words 5))) (stored_name (image_of (word_at words 1)))
    else None

-- a number from one to another
abbrev pub within : ℕ → ℕ → ℕ → Option ℕ
within low high n = if nat_le low n && nat_le n high then Some n else None

abbrev pub number_within : ℕ → ℕ → List ℕ → Option ℕ
number_within low high word = option_and_then (within low high) (number_in word)

-- at most 500 calls for each of 1 to 8 threads
unfoldable pub load_of : List (List ℕ) → Option Command
load_of words =
    if (length words == 4) && is_same (word_at words 0) (codes "load")
    then option_and_then (λ calls. option_and_then (λ threads. option_map (λ mode. Load (record { calls = calls; threads = threads; mode = mode })) (mode_of (word_at words 3))) (number_within 1 8 (word_at words 2))) (number_within 0 500 (word_at words 1))
    else None

-- one command, or another where that is none
abbrev pub or_else : Option Command → Option Command → Option Command
or_else None other = other
or_else (Some command) other = Some command

-- THE COMMAND THAT THE WORDS ARE
unfoldable pub command_of : List (List ℕ) → Option Command
command_of words = or_else (mkfs_of words) (or_else (tree_of words) (or_else (step_of words) (or_else (threads_of words) (load_of words))))
