-- The claims of a lap, also those whose entries are carried out already.
use Rattle.std.specs.Prelude.{◌≡◌, ◌≢◌, ◌⊎◌, ◌≤◌, ℕ, true, List}
use Rattle.name_laws.specs.volume_laws.image_model.layout_model.declared.lines.Draft.{Draft}
use Rattle.name_laws.specs.volume_laws.image_model.Live.{is_live, is_of_file}
use Rattle.name_laws.specs.volume_laws.image_model.Volume.{inode, Volume}
use Rattle.crash_spec.specs.list_laws.Members.{In}

-- The claims of files that are there: those of one file in two slots have two orders, and those above what the file has
-- applied are live.
pub record ClaimsStand (v : Volume) (claims : List (ℕ × Draft)) : Type 0 where
  pub orders : (s t : ℕ) (d e : Draft) → In (s, d) claims → In (t, e) claims → s ≢ t → is_of_file v d ≡ true → is_of_file v e ≡ true → d.ino ≡ e.ino → d.order ≢ e.order
  pub settled : (s : ℕ) (d : Draft) → In (s, d) claims → is_of_file v d ≡ true → (d.order ≤ (inode v d.ino).applied) ⊎ (is_live v d ≡ true)
