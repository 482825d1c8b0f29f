-- A file is anew, with whatever was staged of it: what is asked of the change.
use Rattle.std.specs.Prelude.{◌≡◌, ◌≢◌, ◌<◌, ◌==◌, ℕ, not, List, filter}
use Rattle.world_step_laws.specs.world_model.layout_model.declared.lines.Draft.{Draft}
use Rattle.world_step_laws.specs.world_model.layout_model.declared.lines.Kind.TheVariants.{File, Staging}
use Rattle.world_step_laws.specs.world_model.image_model.Volume.{extents, inode, Volume}
use Rattle.world_step_laws.specs.world_model.list_laws.Members.{In}
use Rattle.world_step_laws.specs.world_model.Jobs.{live_claims, staged_block}
use Rattle.world_step_laws.specs.world_model.Stands.{IsSane}

-- ONE FILE IS ANEW: it may have another map, size and applied order. Staging files may have lost blocks that no live entry of another
-- file has; all else stays, and the volume is sane.
pub record Renews (v w : Volume) (claims : List (ℕ × Draft)) (ino : ℕ) : Type 0 where
  pub sane : IsSane w
  pub names : w.names ≡ v.names
  pub geometry : w.geometry ≡ v.geometry
  pub file : (inode v ino).kind ≡ File
  pub kinds : (i : ℕ) → (inode w i).kind ≡ (inode v i).kind
  pub generations : (i : ℕ) → (inode w i).generation ≡ (inode v i).generation
  pub others : (i : ℕ) → i ≢ ino → (inode v i).kind ≢ Staging → (inode w i ≡ inode v i) × (extents w i ≡ extents v i)
  pub staged : (d : Draft) → In d (live_claims v claims) → d.ino ≢ ino → (k : ℕ) → k < d.count → staged_block w d k ≡ staged_block v d k

-- The claims of all other files. (Of a file whose runs were dropped no applied order has risen: an entry of it may be live still.)
abbrev pub claims_beside : ℕ → List (ℕ × Draft) → List (ℕ × Draft)
claims_beside ino claims = filter (λ (c : ℕ × Draft). not (c.1.ino == ino)) claims
