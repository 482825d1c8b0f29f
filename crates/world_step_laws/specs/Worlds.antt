-- The World between two events: valid, with its claims standing and aged, and a state of its shape; and what keeps that.
use Rattle.std.specs.Prelude.{◌≡◌, ◌<◌, ◌≤◌, ◌+◌, ℕ, Bool, true, List, length, Option, Some, slice_set, option_map}
use Rattle.std.proofs.Common.{ap, ◌∙◌, sym, subst, inl, inr}
use Rattle.std.proofs.lemmas.Bool.{cases_eq}
use Rattle.std.proofs.lemmas.List.{length-set}
use Rattle.volume_change_laws.specs.pm_model.Words.{Words}
use Rattle.volume_change_laws.specs.layout_model.Places.{IsGeometry}
use Rattle.volume_change_laws.specs.layout_model.declared.lines.Draft.{Draft}
use Rattle.volume_change_laws.specs.layout_model.Lines.{is_name, NameRow}
use Rattle.volume_change_laws.specs.layout_model.Names.{find_name, row, Rows}
use Rattle.volume_change_laws.specs.image_model.Volume.{Volume}
use Rattle.volume_change_laws.specs.k_split_model.Spaces.{volume_space}
use Rattle.volume_change_laws.specs.CallLaws.{IsKeptVolume}
use Rattle.volume_change_laws.specs.volume_laws.Changes.{row-set_other, row-set_same}
use Rattle.world_model.specs.name_laws.RowLaws.{row-below}
use Rattle.world_model.specs.name_laws.Paths.{HasDirectory, IsAt}
use Rattle.commute_laws.specs.posix_types.declared.call.Call.{Call}
use Rattle.commute_laws.specs.posix_tables.Names.{last_name, node_at_path, parent_at}
use Rattle.commute_laws.specs.posix_spec.State.{space, State}
use Rattle.world_model.specs.Claims.{ClaimsStand}
use Rattle.world_model.specs.Jobs.{Job, live_claims, Valid}
use Rattle.world_model.specs.Stands.{IsSane, IsUsed, number}
use Rattle.world_model.specs.TreeRules.{all_lines}
use Rattle.world_step_laws.specs.Counts.{HasShape}
use Rattle.world_step_laws.specs.Mirrors.{Mirrors, node_at_path-same, walk-Ok}
use Rattle.world_step_laws.specs.Spaces.{Mirrors-Stands}
use Rattle.world_step_laws.specs.Ages.{AreAged}
use Rattle.world_step_laws.specs.Steps.{AreBeside, ClaimsStand-left, GoOn, Steps, Valid-left}

-- THE WORLD: `count` nodes were made since the lap began.
pub record IsWorld (v : Volume) (claims : List (ℕ × Draft)) (jobs : List Job) (f : Words) (numbers : List ℕ) (s : State) (count : ℕ) : Type 0 where
  pub valid : Valid v claims jobs f numbers s
  pub claims_stand : ClaimsStand v claims
  pub aged : AreAged v claims count
  pub shape : HasShape v s
  pub geometry : IsGeometry v.geometry

-- what a step leaves of the sizes of tables
pub record SameSizes (v w : Volume) (s new : State) : Type 0 where
  pub inodes : length w.inodes ≡ length v.inodes
  pub names : length w.names ≡ length v.names
  pub geometry : w.geometry ≡ v.geometry
  pub shape : new.shape ≡ s.shape

pub IsWorld-left : (touched : ℕ → Bool) (v w : Volume) (claims : List (ℕ × Draft)) (jobs : List Job) (f : Words) (numbers after : List ℕ) (s new : State) (count later : ℕ) → IsWorld v claims jobs f numbers s count
    → AreBeside touched jobs → GoOn s new numbers jobs → Steps touched v w claims f numbers after s new → SameSizes v w s new → AreAged w claims later → IsWorld w claims jobs f after new later
IsWorld-left touched v w claims jobs f numbers after s new count later world off on steps sizes aged = record {
  valid = Valid-left touched v w claims jobs f numbers after s new world.valid off on steps;
  claims_stand = ClaimsStand-left touched v w claims f numbers after s new steps world.claims_stand;
  aged = aged;
  shape = record {
    root = subst (λ x. 1 ≤ x.nodes) (sym sizes.shape) world.shape.root;
    nodes = ap (λ x. x.nodes + 4) sizes.shape ∙ (world.shape.nodes ∙ sym sizes.inodes);
    names = ap (λ x. x.names) sizes.shape ∙ (world.shape.names ∙ sym sizes.names);
  };
  geometry = subst IsGeometry (sym sizes.geometry) world.geometry;
}

-- ---- what the World says of its volume

pub kept_volume : (v : Volume) → IsSane v → IsGeometry v.geometry → IsKeptVolume v
kept_volume v sane geometry = record { kept = sane.kept; all = all_lines v sane; geometry = geometry }

pub world_volume : (v : Volume) (claims : List (ℕ × Draft)) (jobs : List Job) (f : Words) (numbers : List ℕ) (s : State) (count : ℕ) → IsWorld v claims jobs f numbers s count → IsKeptVolume v
world_volume v claims jobs f numbers s count world = kept_volume v world.valid.stands.sane world.geometry

pub world_mirror : (v : Volume) (claims : List (ℕ × Draft)) (jobs : List Job) (f : Words) (numbers : List ℕ) (s : State) (count : ℕ) → IsWorld v claims jobs f numbers s count
    → Mirrors (IsUsed v) numbers (volume_space v) (space s)
world_mirror v claims jobs f numbers s count world = Mirrors-Stands v (live_claims v claims) f numbers s world.valid.stands world.shape

-- Spelling: a row that is set is spelled as a name, or free.
pub spelled-set : (rows : Rows) (line : ℕ) (o : Option NameRow) → ((k : ℕ) (r : NameRow) → row rows k ≡ Some r → is_name r.name ≡ true) → ((r : NameRow) → o ≡ Some r → is_name r.name ≡ true)
    → (k : ℕ) (r : NameRow) → row (slice_set rows line o) k ≡ Some r → is_name r.name ≡ true
spelled-set rows line o spelled new k r is = elim (cases_eq k line) [
  | inl same ↦
      let below : line < length rows = subst (λ n. line < n) (length-set rows line o) (row-below (slice_set rows line o) line r (ap (row (slice_set rows line o)) (sym same) ∙ is)) in
      new r (sym (ap (row (slice_set rows line o)) same ∙ row-set_same rows line o below) ∙ is)
  | inr other ↦ spelled k r (sym (row-set_other rows line o k other) ∙ is)
]

-- ---- where paths lead

-- the directory of a path
pub parent_number : (v : Volume) (numbers : List ℕ) (s : State) (p : List (List ℕ)) (parent : ℕ) → Mirrors (IsUsed v) numbers (volume_space v) (space s) → HasDirectory (volume_space v) p parent
    → IsUsed v parent × (parent_at (space s) p ≡ number numbers parent)
parent_number v numbers s p parent mirror directory =
    let leads = walk-Ok (IsUsed v) numbers (volume_space v) (space s) mirror p parent directory.leads in
    (leads.0, leads.2)

-- what stands at a path
there_at : (v : Volume) (p : List (List ℕ)) (parent child : ℕ) → IsAt (volume_space v) p parent child → node_at_path (volume_space v) p ≡ Some child
unfolding node_at_path
there_at v p parent child at = rw (at.directory.below, at.directory.leads) at.is

pub node_there : (v : Volume) (numbers : List ℕ) (s : State) (p : List (List ℕ)) (parent child : ℕ) → Mirrors (IsUsed v) numbers (volume_space v) (space s) → IsAt (volume_space v) p parent child
    → node_at_path (space s) p ≡ Some (number numbers child)
node_there v numbers s p parent child mirror at =
    sym (node_at_path-same (IsUsed v) numbers (volume_space v) (space s) mirror p) ∙ ap (option_map (number numbers)) (there_at v p parent child at)

-- What the look-ups of a call found at a path: its directory, the line and the child.
pub record IsFound (v : Volume) (p : List (List ℕ)) (parent line child : ℕ) : Type 0 where
  pub at : IsAt (volume_space v) p parent child
  pub found : find_name v.names parent (last_name p) ≡ Some (line, child)

-- the calls that change tables and published lengths alone
abbrev pub IsIdle : Call → Type 0
IsIdle (Call.Mkdir p) = ⊥
IsIdle (Call.Rmdir p) = ⊥
IsIdle (Call.Unlink p) = ⊥
IsIdle (Call.Rename p q) = ⊥
IsIdle (Call.Open h p flags) = ⊥
IsIdle (Call.Close h) = ⊥
IsIdle (Call.Dup h g) = Unit {0}
IsIdle (Call.Read h n) = Unit {0}
IsIdle (Call.Pread h o n) = Unit {0}
IsIdle (Call.Write h x) = ⊥
IsIdle (Call.Pwrite h o x) = ⊥
IsIdle (Call.Seek h w by) = Unit {0}
IsIdle (Call.Truncate h n) = ⊥
IsIdle (Call.Fsync h) = Unit {0}
IsIdle (Call.Stat p) = Unit {0}
IsIdle (Call.List p) = Unit {0}
