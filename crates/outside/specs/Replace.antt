-- What may be replaced, and the folder of a name.
use Rattle.std.specs.Prelude.{◌≢◌, ℕ, List, [], ◌∷◌, Option, Some, None, bit_and, codes}
use Rattle.std.specs.Path.{path_parent}
use Rattle.std.specs.Fs.{IsFile, file_type, metadata_mode}
use Rattle.std.specs.declared.fs.attrs.Metadata.{Metadata}

-- it is a file, and somebody may write it
pub record IsReplaceable (found : Metadata) : Type 0 where
  pub is_file : IsFile (file_type found)
  pub is_writable : bit_and (metadata_mode found) 0o222 ≢ 0

-- a folder, or `.` where it is not named
abbrev pub or_here : Option (List ℕ) → List ℕ
or_here None = codes "."
or_here (Some []) = codes "."
or_here (Some (byte ∷ bytes)) = byte ∷ bytes

-- the folder that a name is in
abbrev pub folder_of_lem : List ℕ → List ℕ
folder_of_lem name = or_here (path_parent name)
