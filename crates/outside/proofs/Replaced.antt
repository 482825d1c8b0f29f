-- The promises of a replace from the facts of its steps, each by one lemma that a tactic can apply.
use Rattle.std.proofs.Common.{◌≡◌, ℕ, List, inl, inr}
use Rattle.std.specs.Fs.{metadata_mode, permissions_mode}
use Rattle.std.specs.declared.fs.attrs.Metadata.{Metadata}
use Rattle.std.specs.declared.fs.permissions.Permissions.{Permissions}
use Rattle.outside.specs.declared.folder.Folder.{Ghosts}
use Rattle.outside.specs.Replace.{IsReplaceable, folder_of_lem}
use Rattle.outside.specs.Steps.{HasCause, HasTakenPlace, IsMadeBeside, IsWhole, KeepsPermissions}

module _ {D New Written Named : Type 0} (g : Ghosts D New Written Named) where
  pub made_where_missing : (name beside : List ℕ) (new : New)
      → g.is_missing name → g.is_made beside new → IsMadeBeside g name beside new
  made_where_missing name beside new missing made = record { is_made = made; permissions = inl missing }

  pub made_with_permissions : (name beside : List ℕ) (new : New) (found : Metadata) (permissions : Permissions)
      → g.is_found name found → IsReplaceable found → g.is_made beside new
      → permissions_mode permissions ≡ metadata_mode found → g.has_permissions new permissions → IsMadeBeside g name beside new
  made_with_permissions name beside new found permissions is_found is_replaceable made are_its has_them =
      let keeps : KeepsPermissions g name new = record { found = found; is_found = is_found; is_replaceable = is_replaceable; permissions = permissions; are_its = are_its; has_them = has_them } in
      record { is_made = made; permissions = inr keeps }

  pub refused_cause : (folder : D) (name : List ℕ) (found : Metadata)
      → g.is_found name found → (IsReplaceable found → ⊥) → HasCause g folder name
  refused_cause folder name found is_found not = inr (record { found = found; is_found = is_found; not_replaceable = not })

  pub whole_file : (name beside bytes : List ℕ) (made filled : New) (written : Written)
      → IsMadeBeside g name beside made → g.is_filled made bytes filled → g.is_on_disk filled written
      → IsWhole g name beside bytes written
  whole_file name beside bytes made filled written is_made is_filled on_disk =
      record { made = made; filled = filled; is_made = is_made; is_filled = is_filled; is_on_disk = on_disk }

  pub place_taken : (name beside bytes : List ℕ) (written : Written) (named : Named)
      → IsWhole g name beside bytes written → g.is_renamed written beside name named
      → g.is_sync_asked named (folder_of_lem name) → HasTakenPlace g name beside bytes
  place_taken name beside bytes written named is_whole renamed asked =
      record { written = written; named = named; is_whole = is_whole; is_renamed = renamed; is_sync_asked = asked }

-- what the making of a new file rests on
pub ruleset create_steps = (made_where_missing, made_with_permissions, refused_cause)
