-- The entries of the log that recovery still has to carry out, the live ones. Every slot is looked at.
use Rattle.std.specs.Prelude.{ℕ, ◌+◌, List, [], ◌∷◌, Bool, true, false, ◌&&◌, ◌==◌, nat_lt, cond, Option, Some, None, filter}
use Rattle.std.specs.List.{filter_map, range_with_len}
use Rattle.layout_model.specs.pm_model.Words.{Words, line_bytes}
use Rattle.layout_model.specs.Places.{log_line}
use Rattle.layout_model.specs.declared.lines.Draft.{Draft}
use Rattle.layout_model.specs.declared.lines.Kind.{Kind}
use Rattle.layout_model.specs.declared.lines.Kind.TheVariants.{Free, Directory, File, Staging}
use Rattle.layout_model.specs.Entries.{decode_entry}
use Rattle.image_model.specs.Volume.{Volume, inode}

abbrev pub is_file : Kind → Bool
is_file Free = false
is_file Directory = false
is_file File = true
is_file Staging = false

abbrev pub is_directory : Kind → Bool
is_directory Free = false
is_directory Directory = true
is_directory File = false
is_directory Staging = false

-- the entry that is valid in a slot: its sequence number is the log base plus the slot
abbrev pub entry_in : Volume → Words → ℕ → Option Draft
entry_in v f slot = decode_entry (line_bytes f (log_line v.geometry slot)) (v.base + slot)

-- the entry is one of a file that is there
abbrev pub is_of_file : Volume → Draft → Bool
is_of_file v d = is_file (inode v d.ino).kind && ((inode v d.ino).generation == d.generation)

-- its order is above what the file has applied, and its staging file is the one that it was written for
abbrev pub is_live : Volume → Draft → Bool
is_live v d =
    is_of_file v d && nat_lt (inode v d.ino).applied d.order && ((inode v d.staging).generation == d.staging_generation)

-- the valid entries by rising slot, and the live ones of them
abbrev pub valid_entries : Volume → Words → List Draft
valid_entries v f = filter_map (entry_in v f) (range_with_len 0 v.geometry.log)

abbrev pub live_entries : Volume → Words → List Draft
live_entries v f = filter (is_live v) (valid_entries v f)

-- the entry of greatest order, the first of those of one order
abbrev pub later_of : Draft → Option Draft → Option Draft
later_of d None = Some d
later_of d (Some e) = Some (cond (nat_lt d.order e.order) e d)

abbrev pub latest : List Draft → Option Draft
latest [] = None
latest (d ∷ ds) = later_of d (latest ds)
