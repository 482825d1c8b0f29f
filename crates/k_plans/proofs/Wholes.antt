-- What tables keep, through a change of lines.
use Rattle.std.proofs.Common.{◌≡◌, ◌<◌, ◌⊎◌, ℕ, Bool, true, false, List, [], length, refl, sym, ◌∙◌, ap, inl, inr, arith, subst, ◌≤◌}
use Rattle.std.proofs.lemmas.Bool.{cases_eq}
use Rattle.std.proofs.lemmas.Bool.Decides.{nat_tests}
use Rattle.std.specs.Prelude.{◌==◌, ◌&&◌, ◌||◌, not}
use Rattle.k_reading.specs.block_pool.FreeSets.{FreeSet, is_among}
use Rattle.layout_model.specs.declared.lines.Inode.{Inode}
use Rattle.layout_model.specs.declared.lines.Kind.{Kind}
use Rattle.layout_model.specs.declared.lines.Kind.TheVariants.{Free, Directory, File, Staging}
use Rattle.layout_model.specs.Lines.{is_inode, is_inode_of_kind}
use Rattle.layout_model.specs.Names.{Rows}
use Rattle.layout_model.specs.Places.{is_data_block, first_data, data_blocks}
use Rattle.k_tables.specs.image_model.Live.{is_directory}
use Rattle.k_tables.specs.image_model.Reading.{node_set}
use Rattle.k_tables.specs.image_model.Room.{has_none}
use Rattle.k_tables.specs.image_model.Uses.{owners}
use Rattle.k_tables.specs.image_model.Volume.{Volume, inode}
use Rattle.k_journal.specs.declared.batches.Record.{Record}
use Rattle.k_plans.specs.LandingsPlans.{Turns}
use Rattle.k_tables.specs.volume_laws.Changes.{inode-set_same, inode-set_other}
use Rattle.map_chain.specs.volume_laws.Uses.{is_unused}
use Rattle.k_plans.specs.Free.{AreKeptBack, AreTables, is_freed}
use Rattle.k_plans.specs.PlansPlans.{IsPlan, KeepsStaged}
use Rattle.k_plans.specs.View.{TablesView, with_volume}
use Rattle.k_plans.specs.Whole.{IsWhole}

-- the tables with other names, and with another inode besides
abbrev pub with_names : Rows → TablesView → TablesView
with_names names t = with_volume (record t.volume { names = names }) t

abbrev pub with_lines : ℕ → Inode → Rows → TablesView → TablesView
with_lines ino node names t = with_volume (record (node_set ino node t.volume) { names = names }) t

-- a volume that uses the same blocks has the same pool
unused-same : (v w : Volume) (b : ℕ) → w.geometry ≡ v.geometry → owners w b ≡ owners v b → is_unused w b ≡ is_unused v b
unused-same v w b geometry same = λ i. is_data_block (geometry i) b && has_none (same i)

-- what is kept back of one volume is of the other
back-same : (t : TablesView) (w : Volume) → ((b : ℕ) → is_unused w b ≡ is_unused t.volume b) → AreKeptBack t → AreKeptBack (with_volume w t)
back-same t w same back = record {
  aside = λ b is. same b ∙ back.aside b is;
  waiting = λ b is. same b ∙ back.waiting b is;
  apart = back.apart;
  once = back.once;
}

pub tables-same : (t : TablesView) (w : Volume) (pool held : FreeSet) → AreTables t pool held → IsWhole w
    → w.geometry ≡ t.volume.geometry → ((b : ℕ) → owners w b ≡ owners t.volume b) → AreTables (with_volume w t) pool held
tables-same t w pool held are whole geometry same = record {
  whole = whole;
  pool_is = record {
    first = are.pool_is.first ∙ ap first_data (sym geometry);
    count = are.pool_is.count ∙ ap data_blocks (sym geometry);
    free = λ b. are.pool_is.free b
        ∙ ap (λ u. u && not (is_among t.aside b || is_among t.waiting b)) (sym (unused-same t.volume w b geometry (same b)));
  };
  back = back-same t w (λ b. unused-same t.volume w b geometry (same b)) are.back;
  held_is = are.held_is;
}

-- the same of tables that are known by an equation
pub after-tables : (t u : TablesView) (w : Volume) (pool held : FreeSet) → u ≡ with_volume w t → AreTables t pool held → IsWhole w
    → w.geometry ≡ t.volume.geometry → ((b : ℕ) → owners w b ≡ owners t.volume b) → AreTables u pool held
after-tables t u w pool held is are whole geometry same =
    subst (λ n. AreTables n pool held) (sym is) (tables-same t w pool held are whole geometry same)

-- where the volumes use the same blocks none comes free
pub none-freed : (v w : Volume) (b : ℕ) → is_unused w b ≡ is_unused v b → false ≡ is_freed v w b
none-freed v w b same = sym (ap (λ u. not (is_unused v b) && u) same ∙ none (is_unused v b))
  where
    none : (u : Bool) → (not u && u) ≡ false
    none true = refl
    none false = refl

-- lines that turn the volume, and free no block, are a plan
pub plan-from : (t old new : TablesView) (w : Volume) (b : List Record) → t ≡ old → new ≡ with_volume w t
    → Turns t.volume.geometry [] t.volume w b → 0 < length b → length b ≤ 4 → KeepsStaged t.volume w → IsWhole w
    → old.aside ≡ [] → w.geometry ≡ t.volume.geometry → ((b : ℕ) → owners w b ≡ owners t.volume b) → IsPlan old new b
plan-from t old new w b same is turns some most staged whole idle geometry owned =
    subst (λ o. IsPlan o new b) same
    (subst (λ n. IsPlan t n b) (sym is)
    (record {
      turns = turns;
      some = some;
      most = most;
      aside = λ k. ap (λ ks. is_among ks k) (ap (λ (x : TablesView). x.aside) same ∙ idle)
          ∙ none-freed t.volume w k (unused-same t.volume w k geometry (owned k));
      waiting = refl;
      staged = staged;
      whole = whole;
    }))

-- ---- inodes

-- one inode more that may stand in a line
pub inodes-set : (v : Volume) (ino : ℕ) (x : Inode) → ino < length v.inodes → is_inode x ≡ true
    → ((i : ℕ) → is_inode (inode v i) ≡ true) → (i : ℕ) → is_inode (inode (node_set ino x v) i) ≡ true
inodes-set v ino x below fits all i = elim (cases_eq i ino) [
  | inl same ↦ ap (λ k. is_inode (inode (node_set ino x v) k)) same ∙ ap is_inode (inode-set_same ino x [] [] v below) ∙ fits
  | inr other ↦ ap is_inode (inode-set_other ino x [] [] v i other) ∙ all i
]

-- an inode without a map
pub record IsBare (x : Inode) : Type 0 where
  pub root : x.root ≡ 0
  pub extents : x.extents ≡ 0

bare : (x : Inode) → ((x.size == 0) && (x.applied == 0) && (x.root == 0) && (x.extents == 0)) ≡ true → IsBare x
bare x fits = record { root = grind (arith, nat_tests, fits); extents = grind (arith, nat_tests, fits) }

-- free inodes and directories have none
bare-kind : (kind : Kind) (x : Inode) → is_inode_of_kind kind x ≡ true → (kind ≡ Free) ⊎ (is_directory kind ≡ true) → IsBare x
bare-kind Free x fits is = bare x fits
bare-kind Directory x fits is = bare x fits
bare-kind File x fits (inl is) = absurd (cc)
bare-kind File x fits (inr is) = let never : false ≡ true = is in absurd (cc)
bare-kind Staging x fits (inl is) = absurd (cc)
bare-kind Staging x fits (inr is) = let never : false ≡ true = is in absurd (cc)

pub free-bare : (v : Volume) (ino : ℕ) → IsWhole v → (inode v ino).kind ≡ Free → IsBare (inode v ino)
free-bare v ino whole free = bare-kind (inode v ino).kind (inode v ino) (whole.inodes ino) (inl free)

pub directory-bare : (v : Volume) (ino : ℕ) → IsWhole v → is_directory (inode v ino).kind ≡ true → IsBare (inode v ino)
directory-bare v ino whole directory = bare-kind (inode v ino).kind (inode v ino) (whole.inodes ino) (inr directory)
