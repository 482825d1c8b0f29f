-- What a replace promises of the new file, by the facts that the steps of a folder give.
use Rattle.std.specs.Prelude.{◌≡◌, ◌⊎◌, ℕ, List}
use Rattle.std.specs.Fs.{metadata_mode, permissions_mode}
use Rattle.std.specs.declared.fs.attrs.Metadata.{Metadata}
use Rattle.std.specs.declared.fs.permissions.Permissions.{Permissions}
use Rattle.outside.specs.declared.folder.Folder.{Ghosts}
use Rattle.outside.specs.Replace.{IsReplaceable, folder_of_lem}

module _ {D New Written Named : Type 0} (g : Ghosts D New Written Named) where
  -- the new file has the permissions of what was found under the name, which may be replaced
  pub record KeepsPermissions (name : List ℕ) (new : New) : Type 0 where
    pub found : Metadata
    pub is_found : g.is_found name found
    pub is_replaceable : IsReplaceable found
    pub permissions : Permissions
    pub are_its : permissions_mode permissions ≡ metadata_mode found
    pub has_them : g.has_permissions new permissions

  -- the new file was made under its own name, for one that is missing or whose permissions it keeps
  pub record IsMadeBeside (name beside : List ℕ) (new : New) : Type 0 where
    pub is_made : g.is_made beside new
    pub permissions : g.is_missing name ⊎ KeepsPermissions name new

  -- a file that was made so has taken the bytes, and is on the disk as it then was
  pub record IsWhole (name beside bytes : List ℕ) (written : Written) : Type 0 where
    pub made : New
    pub filled : New
    pub is_made : IsMadeBeside name beside made
    pub is_filled : g.is_filled made bytes filled
    pub is_on_disk : g.is_on_disk filled written

  -- such a file has the name, and then it was asked that its folder is put on the disk
  pub record HasTakenPlace (name beside bytes : List ℕ) : Type 0 where
    pub written : Written
    pub named : Named
    pub is_whole : IsWhole name beside bytes written
    pub is_renamed : g.is_renamed written beside name named
    pub is_sync_asked : g.is_sync_asked named (folder_of_lem name)

  -- what was found under the name may not be replaced
  pub record IsRefused (name : List ℕ) : Type 0 where
    pub found : Metadata
    pub is_found : g.is_found name found
    pub not_replaceable : IsReplaceable found → ⊥

  -- why a file is not replaced: a step has failed, or it may not be
  abbrev pub HasCause : D → List ℕ → Type 0
  HasCause folder name = g.has_failed folder ⊎ IsRefused name
