-- Claims and lengths that are told otherwise: slots, dead claims, the order between files, and the sizes of all entries of a file but
-- the last count for nothing. And what sizes leave of a volume.
use Rattle.std.specs.Prelude.{◌≡◌, ℕ, List, [], length, map}
use Rattle.world_image_laws.specs.pm_model.Words.{Words}
use Rattle.world_image_laws.specs.layout_model.declared.lines.Draft.{Draft}
use Rattle.world_image_laws.specs.layout_model.declared.lines.Kind.TheVariants.{File}
use Rattle.world_image_laws.specs.image_model.Content.{size_of}
use Rattle.world_image_laws.specs.image_model.Volume.{inode, Volume}
use Rattle.world_image_laws.specs.k_split_model.Spaces.{volume_space}
use Rattle.world_image_laws.specs.posix_spec.State.{State}
use Rattle.world_image_laws.specs.world_model.Claims.{ClaimsStand}
use Rattle.world_image_laws.specs.world_model.Jobs.{live_claims}
use Rattle.world_image_laws.specs.world_model.Stands.{entries_of}
use Rattle.world_image_laws.specs.world_step_laws.Ages.{AreAged}
use Rattle.world_image_laws.specs.world_step_laws.Worlds.{IsWorld}
use Rattle.posix_mode_laws.specs.Sides.{sized}

-- an entry with the size that its file has by these claims
abbrev pub with_size : ℕ → Draft → Draft
with_size n d = record d { size = n }

-- OTHER CLAIMS AND LENGTHS: of each file the same entries are live, in the same order, each with the size that the file has; and
-- the length of a file of which none is live stays.
pub record AreSameClaims (v : Volume) (claims others : List (ℕ × Draft)) (lengths : List ℕ) (count : ℕ) : Type 0 where
  pub entries : (ino : ℕ) → entries_of ino (live_claims v others) ≡ map (with_size (size_of v (live_claims v claims) ino)) (entries_of ino (live_claims v claims))
  pub unclaimed : (ino : ℕ) → (inode v ino).kind ≡ File → entries_of ino (live_claims v claims) ≡ [] → (inode (sized lengths v) ino).size ≡ (inode v ino).size
  pub stand : ClaimsStand v others
  pub aged : AreAged v others count

-- The World stands by them too.
abbrev pub KeepsClaims : Type 0
KeepsClaims =
    (v : Volume) (claims others : List (ℕ × Draft)) (lengths : List ℕ) (f : Words) (numbers : List ℕ) (s : State) (count : ℕ)
    → IsWorld v claims [] f numbers s count → AreSameClaims v claims others lengths count → IsWorld (sized lengths v) others [] f numbers s count

-- Of two lists of sizes the second stays.
abbrev pub SizedAgain : Type 0
SizedAgain = (a b : List ℕ) (v : Volume) → length a ≡ length b → sized b (sized a v) ≡ sized b v

-- of each inode the same kind, and the same names
pub record SameKinds (v w : Volume) : Type 0 where
  pub names : w.names ≡ v.names
  pub count : length w.inodes ≡ length v.inodes
  pub each : (ino : ℕ) → (inode w ino).kind ≡ (inode v ino).kind

abbrev pub SizedKinds : Type 0
SizedKinds = (lengths : List ℕ) (v : Volume) → SameKinds v (sized lengths v)

-- The rules of names see the same of it.
abbrev pub SpaceSized : Type 0
SpaceSized = (lengths : List ℕ) (v : Volume) → volume_space (sized lengths v) ≡ volume_space v
