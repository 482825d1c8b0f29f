-- Laws of the superblock: what is written for a geometry is read as that geometry.
use Rattle.std.specs.Prelude.{◌≡◌, ℕ, List, true, ◌&&◌, ◌==◌, refl}
use Rattle.std.proofs.Common.{arith, ap, sym, ◌∙◌}
use Rattle.std.proofs.lemmas.Bool.{and_from}
use Rattle.std.proofs.lemmas.Bool.Decides.{nat_tests}
use Rattle.std.proofs.lemmas.Nat.{from_le_bytes-to_le_bytes_4}
use Rattle.std.proofs.lemmas.Slice.Eq.{bytes_eq-Decides}
use Rattle.layout_model.specs.Fields.{is_same}
use Rattle.layout_model.specs.PlaceLaws.{in_range-IsGeometry}
use Rattle.layout_model.specs.Places.{Geometry, IsGeometry, is_in_range}
use Rattle.layout_model.specs.Superblock.{superblock, geometry_at, has_magic, has_version, has_numbers}

-- the numbers that stand in a superblock are those of its geometry
pub geometry_at-superblock : (g : Geometry) → IsGeometry g → geometry_at (superblock g) ≡ g
geometry_at-superblock g ok =
    let version = from_le_bytes-to_le_bytes_4 g.version (omega (arith, ok.version)) in
    let blocks = from_le_bytes-to_le_bytes_4 g.blocks (omega (arith, ok.most_blocks)) in
    let log = from_le_bytes-to_le_bytes_4 g.log (omega (arith, ok.most_log)) in
    let inodes = from_le_bytes-to_le_bytes_4 g.inodes (omega (arith, ok.most_inodes)) in
    let names = from_le_bytes-to_le_bytes_4 g.names (omega (arith, ok.most_names)) in
    λ i. record { version = version i; blocks = blocks i; log = log i; inodes = inodes i; names = names i }

-- a line is the superblock of this geometry
pub record IsSuperblockOf (g : Geometry) (bytes : List ℕ) : Type 0 where
  pub magic : has_magic bytes ≡ true
  pub version : has_version bytes ≡ true
  pub numbers : has_numbers bytes ≡ true
  pub geometry : geometry_at bytes ≡ g

same_numbers : (g h : Geometry) → IsGeometry g → h ≡ g → (is_in_range h && is_same (superblock g) (superblock h)) ≡ true
same_numbers g h ok e =
    and_from (is_in_range h) (is_same (superblock g) (superblock h))
    (ap is_in_range e ∙ in_range-IsGeometry g ok)
    ((bytes_eq-Decides (superblock g) (superblock h)).1 (ap superblock (sym e)))

known_version : (g h : Geometry) → IsGeometry g → h ≡ g → (h.version == 1) ≡ true
known_version g h ok e = grind (arith, nat_tests, ok.version, ap (λ (x : Geometry). x.version) e)

pub superblock-read : (g : Geometry) → IsGeometry g → IsSuperblockOf g (superblock g)
superblock-read g ok =
    record {
      magic = refl;
      version = known_version g (geometry_at (superblock g)) ok (geometry_at-superblock g ok);
      numbers = same_numbers g (geometry_at (superblock g)) ok (geometry_at-superblock g ok);
      geometry = geometry_at-superblock g ok;
    }
