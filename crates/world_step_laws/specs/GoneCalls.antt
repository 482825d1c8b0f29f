-- A name goes, and a node: `unlink`, `rmdir`, and the last `close` of a file without a name.
use Rattle.std.specs.Prelude.{◌≡◌, ◌≢◌, ◌⊎◌, ◌<◌, ◌==◌, ℕ, true, false, List, [], ◌∷◌, length, Option, Some, None, slice_set, refl}
use Rattle.std.proofs.Common.{arith, ap, ◌∙◌, sym, subst, inl, inr}
use Rattle.std.proofs.lemmas.Bool.{cases_eq, eq-eqb, ne_eqb}
use Rattle.std.proofs.lemmas.List.{length-set}
use Rattle.volume_change_laws.specs.pm_model.Words.{Words}
use Rattle.volume_change_laws.specs.layout_model.declared.lines.Draft.{Draft}
use Rattle.volume_change_laws.specs.layout_model.declared.lines.Kind.{Kind}
use Rattle.volume_change_laws.specs.layout_model.declared.lines.Kind.TheVariants.{Free, Directory, File, Staging}
use Rattle.volume_change_laws.specs.layout_model.Lines.{is_name, NameRow}
use Rattle.volume_change_laws.specs.layout_model.Names.{child_named, row, Rows}
use Rattle.volume_change_laws.specs.layout_model.TableLaws.{NamingLine-child_named}
use Rattle.volume_change_laws.specs.image_model.Live.{is_directory}
use Rattle.volume_change_laws.specs.image_model.Kept.{AreKept}
use Rattle.volume_change_laws.specs.image_model.Rules.{IsKindAt}
use Rattle.volume_change_laws.specs.image_model.Volume.{extents, inode, Volume}
use Rattle.volume_change_laws.specs.k_split_model.ChangesChanges.{dropped, gone_node, unnamed}
use Rattle.world_model.specs.name_laws.KeptLaws.{kept-placed}
use Rattle.volume_change_laws.specs.Changes.{MayUnname}
use Rattle.volume_change_laws.specs.FrameLaws.{dropped-inode, dropped-others}
use Rattle.volume_change_laws.specs.MapLaws.{dropped-keeps}
use Rattle.volume_change_laws.specs.NameLaws.{unnamed-keeps}
use Rattle.commute_laws.specs.posix_tables.declared.nodes.Node.{Node}
use Rattle.commute_laws.specs.posix_tables.Names.{without_entry}
use Rattle.commute_laws.specs.posix_tables.Nodes.{node_at}
use Rattle.commute_laws.specs.posix_tables.Open.{is_open}
use Rattle.commute_laws.specs.posix_spec.State.{State}
use Rattle.commute_laws.specs.Flights.{IsHeld-put}
use Rattle.commute_laws.specs.Needs.{AreInFlight}
use Rattle.world_model.specs.Jobs.{Job, live_claims}
use Rattle.world_model.specs.Stands.{is_used, IsSane, IsUsed, NamesStand, number}
use Rattle.world_model.specs.TreeRules.{all_lines, used_below}
use Rattle.world_step_laws.specs.Ages.{AreAged-same}
use Rattle.world_step_laws.specs.Makers.{Steps-gone, Steps-names}
use Rattle.world_step_laws.specs.Nameless.{IsNameless, nameless-count}
use Rattle.world_step_laws.specs.NameTables.{NamesStand-freed, NamesStand-gone}
use Rattle.world_step_laws.specs.Steps.{AreBeside, AreBeside-none, flights_of, GoOn, shown_node}
use Rattle.world_step_laws.specs.Touched.{Leaves, only, untouched}
use Rattle.world_step_laws.specs.Worlds.{IsWorld, IsWorld-left, spelled-set}

-- ---- a change of names alone

-- the volume is sane with other rows
pub IsSane-rows : (v : Volume) (rows : Rows) → IsSane v → AreKept (record v { names = rows }) → length rows ≡ length v.names → ((k : ℕ) (r : NameRow) → row rows k ≡ Some r → is_name r.name ≡ true)
    → IsSane (record v { names = rows })
IsSane-rows v rows sane kept count spelled = record {
  kept = kept;
  inode_count = sane.inode_count;
  name_count = count ∙ sane.name_count;
  chain_count = sane.chain_count;
  map_count = sane.map_count;
  spelled = spelled;
}

pub IsWorld-rows : (v : Volume) (rows : Rows) (claims : List (ℕ × Draft)) (jobs : List Job) (f : Words) (numbers : List ℕ) (s new : State) (count : ℕ) → IsWorld v claims jobs f numbers s count
    → IsSane (record v { names = rows }) → NamesStand (record v { names = rows }) numbers new → length rows ≡ length v.names → GoOn s new numbers jobs → ((n : ℕ) → shown_node (node_at new.nodes n) ≡ shown_node (node_at s.nodes n))
    → new.shape ≡ s.shape → IsWorld (record v { names = rows }) claims jobs f numbers new count
IsWorld-rows v rows claims jobs f numbers s new count world sane names sizes on nodes shape =
    IsWorld-left untouched v (record v { names = rows }) claims jobs f numbers numbers s new count count world (AreBeside-none jobs) on
    (Steps-names v rows claims (live_claims v claims) f numbers s new world.valid.stands.nodes sane names nodes) (record { inodes = refl; names = sizes; geometry = refl; shape = shape })
    (AreAged-same v (record v { names = rows }) claims count (λ ino. refl) (λ ino is. is) world.aged)

spelled_none : (r : NameRow) → None ≡ Some r → is_name r.name ≡ true
spelled_none r is = cc

-- a name goes whose node is no directory
pub IsWorld-unnamed : (v : Volume) (claims : List (ℕ × Draft)) (jobs : List Job) (f : Words) (numbers : List ℕ) (s new : State) (count line : ℕ) (r : NameRow) → IsWorld v claims jobs f numbers s count → MayUnname line r v
    → GoOn s new numbers jobs → new.nodes ≡ s.nodes → new.entries ≡ without_entry s.entries (number numbers r.parent) r.name → new.shape ≡ s.shape → IsWorld (unnamed line v) claims jobs f numbers new count
IsWorld-unnamed v claims jobs f numbers s new count line r world may on nodes entries shape =
    let sane = world.valid.stands.sane in
    IsWorld-rows v (slice_set v.names line None) claims jobs f numbers s new count world
    (IsSane-rows v (slice_set v.names line None) sane (unnamed-keeps line r v sane.kept (all_lines v sane) may) (length-set v.names line None) (spelled-set v.names line None sane.spelled spelled_none))
    (NamesStand-freed v numbers s new line r sane world.valid.stands.names may.is entries (ap length nodes)) (length-set v.names line None) on (λ n. ap (λ xs. shown_node (node_at xs n)) nodes) shape

-- ---- a node goes

pub IsWorld-gone : (v w : Volume) (claims : List (ℕ × Draft)) (jobs : List Job) (f : Words) (numbers : List ℕ) (s new : State) (count c : ℕ) → IsWorld v claims jobs f numbers s count → IsUsed v c
    → inode w c ≡ gone_node (inode v c) → ((ino : ℕ) → ino ≢ c → inode w ino ≡ inode v ino) → ((ino : ℕ) → ino ≢ c → extents w ino ≡ extents v ino)
    → IsSane w → NamesStand w numbers new → AreBeside (only c) jobs → GoOn s new numbers jobs → ((n : ℕ) → n ≢ number numbers c → shown_node (node_at new.nodes n) ≡ shown_node (node_at s.nodes n))
    → node_at new.nodes (number numbers c) ≡ Node.Gone → length w.names ≡ length v.names → w.geometry ≡ v.geometry → new.shape ≡ s.shape → IsWorld w claims jobs f numbers new count
IsWorld-gone v w claims jobs f numbers s new count c world used own others maps sane names off on nodes gone name_count geometry shape =
    IsWorld-left (only c) v w claims jobs f numbers numbers s new count count world off on
    (Steps-gone v w claims (live_claims v claims) f numbers s new c world.valid.stands.nodes world.valid.stands.names used leaves (ap (λ x. x.kind) own) sane names nodes gone world.aged.staging)
    (record { inodes = sane.inode_count ∙ (ap (λ g. g.inodes) geometry ∙ sym world.valid.stands.sane.inode_count); names = name_count; geometry = geometry; shape = shape })
    (AreAged-same v w claims count (λ ino. same_generation ino (cases_eq ino c)) still world.aged)
  where
    apart : (ino : ℕ) → (ino == c) ≡ false → ino ≢ c
    apart ino out same = let never : true ≡ false = sym (eq-eqb ino c same) ∙ out in cc

    no_staging : (ino : ℕ) → (inode v ino).kind ≡ Staging → ino ≢ c
    no_staging ino is same = let never : true ≡ false = sym used ∙ ap is_used (ap (λ i. (inode v i).kind) (sym same) ∙ is) in cc

    leaves : Leaves (only c) v w
    leaves = record { inodes = λ ino out. others ino (apart ino out); maps = λ ino out. maps ino (apart ino out); staging = λ ino is. ne_eqb ino c (no_staging ino is) }

    same_generation : (ino : ℕ) → (ino ≡ c) ⊎ (ino ≢ c) → (inode w ino).generation ≡ (inode v ino).generation
    same_generation ino (inl same) = ap (λ i. (inode w i).generation) same ∙ (ap (λ x. x.generation) own ∙ ap (λ i. (inode v i).generation) (sym same))
    same_generation ino (inr other) = ap (λ x. x.generation) (others ino other)

    still : (ino : ℕ) → (inode v ino).kind ≡ Staging → (inode w ino).kind ≡ Staging
    still ino is = ap (λ x. x.kind) (others ino (no_staging ino is)) ∙ is

-- no job is of a file that nobody has open
pub beside-closed : (v : Volume) (numbers : List ℕ) (s : State) (c : ℕ) (jobs : List Job) → AreInFlight s (flights_of numbers jobs) → is_open s.tables (number numbers c) ≡ false → AreBeside (only c) jobs
beside-closed v numbers s c [] on shut = tt
beside-closed v numbers s c (j ∷ jobs) on shut = (
  ne_eqb j.draft.ino c (λ same. (
      let held = IsHeld-put s j.who j.call (number numbers j.draft.ino) j.whole on.0.file on.0.puts on.0.is in
      let never : true ≡ false = sym held.held_open ∙ (ap (λ i. is_open s.tables (number numbers i)) same ∙ shut) in
      cc)),
  beside-closed v numbers s c jobs on.1 shut,
)

root_kind : (v : Volume) → IsSane v → IsUsed v 0 → (inode v 0).kind ≡ File → ⊥
root_kind v sane used is = absurd (at (inode v 0).kind is (sane.kept.kinds 0 (subst (λ n. 0 < n) sane.inode_count (used_below v 0 used)))) where
  at : (kind : Kind) → kind ≡ File → IsKindAt 0 kind → ⊥
  at Free is low = cc
  at Directory is low = cc
  at Staging is low = cc
  at File is low = omega (arith, low)

-- nothing is below a file
pub file-empty : (v : Volume) (c : ℕ) → IsSane v → (inode v c).kind ≡ File → (name : List ℕ) → child_named v.names c name ≡ None
file-empty v c sane is name = by (child_named v.names c name) refl where
  by : (o : Option ℕ) → child_named v.names c name ≡ o → child_named v.names c name ≡ None
  by None named = named
  by (Some d) named =
      let line = NamingLine-child_named v.names c name d named in
      let directory = (kept-placed v line.line line.at sane.kept (all_lines v sane) line.is).parent in
      let never : true ≡ false = sym directory ∙ (ap (λ i. is_directory (inode v i).kind) line.parent_is ∙ ap is_directory is) in
      cc

-- A FILE WITHOUT A NAME GOES, that nobody has open.
pub IsWorld-dropped : (v : Volume) (claims : List (ℕ × Draft)) (jobs : List Job) (f : Words) (numbers : List ℕ) (s new : State) (count c : ℕ) → IsWorld v claims jobs f numbers s count → (inode v c).kind ≡ File → IsNameless v.names c
    → is_open new.tables (number numbers c) ≡ false → GoOn s new numbers jobs → ((n : ℕ) → n ≢ number numbers c → shown_node (node_at new.nodes n) ≡ shown_node (node_at s.nodes n)) → node_at new.nodes (number numbers c) ≡ Node.Gone
    → new.entries ≡ s.entries → length new.nodes ≡ length s.nodes → new.shape ≡ s.shape → IsWorld (dropped c v) claims jobs f numbers new count
IsWorld-dropped v claims jobs f numbers s new count c world file nameless shut on nodes gone entries many shape =
    IsWorld-gone v (dropped c v) claims jobs f numbers s new count c world used own (λ ino other. (dropped-others c v).inodes ino (other, tt)) (λ ino other. (dropped-others c v).maps ino (other, tt)) sane_after names
    (beside-closed v numbers new c jobs on.flying_on shut) on nodes gone refl refl shape
  where
    sane : IsSane v
    sane = world.valid.stands.sane

    used : IsUsed v c
    used = ap is_used file

    own : inode (dropped c v) c ≡ gone_node (inode v c)
    own = dropped-inode c v (used_below v c used)

    sane_after : IsSane (dropped c v)
    sane_after = record {
      kept =
          dropped-keeps c v sane.kept (all_lines v sane) (record { chain_count = sane.chain_count ∙ sym sane.inode_count; map_count = sane.map_count ∙ sym sane.inode_count })
          (record { below = used_below v c used; file = file; unnamed = nameless-count v.names c nameless });
      inode_count = length-set v.inodes c (gone_node (inode v c)) ∙ sane.inode_count;
      name_count = sane.name_count;
      chain_count = length-set v.chains c [] ∙ sane.chain_count;
      map_count = length-set v.maps c [] ∙ sane.map_count;
      spelled = sane.spelled;
    }

    names : NamesStand (dropped c v) numbers new
    names =
        NamesStand-gone v (dropped c v) numbers s new c world.valid.stands.names refl (λ ino other. (dropped-others c v).inodes ino (other, tt)) (ap (λ x. x.kind) own)
        (λ zeroth. root_kind v sane (subst (IsUsed v) zeroth used) (ap (λ i. (inode v i).kind) (sym zeroth) ∙ file)) (file-empty v c sane file) used entries many
