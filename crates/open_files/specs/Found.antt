-- What a look-up finds, in what is kept.
use Rattle.std.specs.Prelude.{◌≡◌, ℕ, ◌==◌, Bool, false, List, Option, Some, None, get_or}
use Rattle.std.specs.Option.{option_map_or}
use Rattle.posix_types.specs.declared.call.Who.{Who}
use Rattle.posix_types.specs.declared.handle.Handle.{Handle}
use Rattle.posix_tables.specs.declared.open.Binding.{Binding}
use Rattle.posix_tables.specs.declared.open.Description.{Description}
use Rattle.posix_tables.specs.Open.{binding_of}
use Rattle.open_files.specs.declared.files.found.Found.{Found}
use Rattle.open_files.specs.declared.files.kept.Kept.{Kept}
use Rattle.open_files.specs.declared.files.kept.Reference.{Reference}
use Rattle.open_files.specs.declared.files.opened.Opened.{Opened}

-- what was opened, as the tables have it
abbrev pub description_in : Opened → Description
description_in o = record { node = o.ino; offset = o.offset; flags = o.flags }

module _ (slots : List (Option Kept)) (descriptors : List (Option Reference)) (handles : List Binding) (who : Who) (handle : Handle) where
  -- the handle is bound to a descriptor, which refers to what is kept under a key
  pub record IsFound (found : Found) : Type 0 where
    pub bound : binding_of handles who handle ≡ Some found.binding
    pub reference : get_or descriptors found.binding.descriptor None ≡ Some found.reference
    pub kept : get_or slots found.reference.key None ≡ Some found.kept

  -- the handle is bound to no such descriptor
  abbrev pub NotFound : Type 0
  NotFound = (binding : Binding) → binding_of handles who handle ≡ Some binding
      → (reference : Reference) → get_or descriptors binding.descriptor None ≡ Some reference
      → get_or slots reference.key None ≡ None

-- a descriptor refers to a description of this inode
abbrev pub refers_to_ino : List (Option Kept) → ℕ → Option Reference → Bool
refers_to_ino slots ino slot = option_map_or (λ reference. option_map_or (λ kept. kept.ino == ino) (get_or slots reference.key None) false) slot false
