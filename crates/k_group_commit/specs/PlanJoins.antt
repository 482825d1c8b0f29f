-- Each plan of the tables is one that may join the changes that gathered.
use Rattle.std.specs.Prelude.{All, ◌≡◌, ◌≢◌, ◌⊎◌, ◌<◌, ◌≤◌, ◌+◌, ◌-◌, ◌==◌, nat_lt, ℕ, zero, suc, ◌∷◌, Bool, true, false, List, [], ◌++◌, length, get_or, slice_index, slice_index_or, Option, Some, None, refl, if◌then◌else◌}
use Rattle.std.specs.List.{list_any}
use Rattle.std.proofs.Common.{arith, ap, sym, ◌∙◌, subst, inl, inr, length-set, length-append}
use Rattle.std.proofs.lemmas.Bool.{both_ways, cases_Bool, cases_eq, cases_lt, eqb-true}
use Rattle.std.proofs.lemmas.List.{append-nil, get_or_append_left, get_or-append-add, get_or-append_right}
use Rattle.k_plans.specs.extent_model.declared.extent_words.Extent.{Extent}
use Rattle.k_plans.specs.extent_model.Extents.{covers}
use Rattle.k_plans.specs.image_model.Placed.{block_at}
use Rattle.k_plans.specs.image_model.Volume.{chain, extents, inode, Volume}
use Rattle.k_plans.specs.k_tables.declared.tables.removing.Entry.{Entry}
use Rattle.k_plans.specs.volume_change_laws.CallLaws.{row_to}
use Rattle.k_plans.specs.image_model.Reading.{base_set}
use Rattle.k_plans.specs.layout_model.Lines.{NameRow}
use Rattle.k_plans.specs.MapPlans.{reset, unapplied}
use Rattle.k_plans.specs.Making.{IsMade, kind_of}
use Rattle.k_plans.specs.Removing.{IsRemoved, IsUnlinked}
use Rattle.k_plans.specs.Renaming.{IsRenamed, renamed_over}
use Rattle.k_plans.specs.k_split_model.ChangesChanges.{dropped, gone_node, new_node, renamed, renamed_over_directory, renamed_over_file}
use Rattle.k_plans.specs.k_split_model.Spaces.{is_directory_in}
use Rattle.k_plans.specs.layout_model.declared.lines.Inode.{Inode}
use Rattle.k_plans.specs.k_journal.declared.batches.Record.{Record}
use Rattle.k_plans.specs.PlansPlans.{IsPlan}
use Rattle.k_plans.specs.View.{TablesView}
use Rattle.k_plans.specs.k_split_model.Taken.{switched, with_map}
use Rattle.k_plans.specs.volume_laws.Changes.{extents-set_other, extents-set_same}
use Rattle.k_group_commit.specs.Gathered.{IsCovered, IsJoining}

-- ---- changes that take no block

-- Each block that a map has then a map had before.
pub record KeepsData (v w : Volume) : Type 0 where
  pub geometry : w.geometry ≡ v.geometry
  pub covered : (k : ℕ) → IsCovered w k → IsCovered v k

pub plan-joins : (t p : TablesView) (b : List Record) → IsPlan t p b → KeepsData t.volume p.volume → IsJoining t p [] b
plan-joins t p b plan keeps = record {
  turns = plan.turns;
  some = plan.some;
  most = omega (arith, plan.most);
  geometry = keeps.geometry;
  whole = plan.whole;
  waiting = plan.waiting;
  aside = plan.aside;
  free = λ k e below. absurd (omega (arith, below));
  placed = λ k below. absurd (omega (arith, below));
  mapped = λ k has. inl (keeps.covered k has);
}

-- where maps and the number of inodes stay
pub same-maps : (v w : Volume) → w.geometry ≡ v.geometry → length w.inodes ≡ length v.inodes → w.maps ≡ v.maps → KeepsData v w
same-maps v w geometry count maps = record {
  geometry = geometry;
  covered = λ k has. (
    has.0,
    omega (arith, has.1, count),
    ap (λ (ms : List (List Extent)). covers (slice_index_or ms has.0 []) k) (sym maps) ∙ has.2,
  );
}

-- ---- an inode goes over to another map

-- a block that a map has then: the new map has it, or one of the others
pub switched-covers : (v w : Volume) (ino : ℕ) (x : Inode) (blocks : List ℕ) (es : List Extent) (Q : ℕ → Type 0) → w ≡ switched ino x blocks es v
    → ino < length v.maps → ((k : ℕ) → covers es k ≡ true → Q k) → ((k : ℕ) → IsCovered v k → Q k) → (k : ℕ) → IsCovered w k → Q k
switched-covers v w ino x blocks es Q is below new old k has = elim (cases_eq has.0 ino) [
  | inl same ↦
      new k
      (ap (λ fs. covers fs k)
      (sym (ap (λ (y : Volume). extents y ino) is ∙ extents-set_same ino (with_map blocks es x) blocks es v below) ∙ ap (extents w) (sym same))
      ∙ has.2)
  | inr apart ↦
      old k (
        has.0,
        omega (arith, has.1, ap (λ (y : Volume). length y.inodes) is, length-set v.inodes ino (with_map blocks es x)),
        ap (λ fs. covers fs k) (sym (ap (λ (y : Volume). extents y has.0) is ∙ extents-set_other ino (with_map blocks es x) blocks es v has.0 apart)) ∙ has.2,
      )
]

-- the blocks of a list stand in a chain
pub placed-chain : (w : Volume) (ino : ℕ) (blocks : List ℕ) → ino < length w.inodes → blocks ≡ chain w ino → (k : ℕ) → k < length blocks
    → (i j : ℕ) × (i < length w.inodes) × (j < length (chain w i)) × (block_at (chain w i) j ≡ block_at blocks k)
placed-chain w ino blocks below is k within =
    (ino, k, below, subst (λ (bs : List ℕ). k < length bs) is within, ap (λ (bs : List ℕ). block_at bs k) (sym is))

pub some-same : (a b : ℕ) → Some a ≡ Some b → a ≡ b
some-same a b is = cc

pub none-some : (a : ℕ) → None ≡ Some a → ⊥
none-some a is = cc

-- ---- the changes of names and nodes

pub made-keeps : (directory : Bool) (path : List (List ℕ)) (v w : Volume) (ino : ℕ) → IsMade directory path v w ino → KeepsData v w
made-keeps directory path v w ino made =
    same-maps v w (ap (λ (x : Volume). x.geometry) made.is_made)
    (ap (λ (x : Volume). length x.inodes) made.is_made ∙ length-set v.inodes made.place.ino (new_node (kind_of directory) (inode v made.place.ino)))
    (ap (λ (x : Volume). x.maps) made.is_made)

pub unlinked-keeps : (path : List (List ℕ)) (v w : Volume) (ino : ℕ) → IsUnlinked path v w ino → KeepsData v w
unlinked-keeps path v w ino gone =
    same-maps v w (ap (λ (x : Volume). x.geometry) gone.is_unlinked) (ap (λ (x : Volume). length x.inodes) gone.is_unlinked)
    (ap (λ (x : Volume). x.maps) gone.is_unlinked)

pub removed-keeps : (path : List (List ℕ)) (v w : Volume) → IsRemoved path v w → KeepsData v w
removed-keeps path v w gone =
    same-maps v w (ap (λ (x : Volume). x.geometry) gone.is_removed)
    (ap (λ (x : Volume). length x.inodes) gone.is_removed ∙ length-set v.inodes gone.entry.child (gone_node (inode v gone.entry.child)))
    (ap (λ (x : Volume). x.maps) gone.is_removed)

over-keeps : (line : ℕ) (r : NameRow) (o : Option Entry) (v : Volume) → KeepsData v (renamed_over line r o v)
over-keeps line r None v = same-maps v (renamed line r v) refl refl refl
over-keeps line r (Some target) v = by (is_directory_in v.inodes target.child)
  where
    by : (directory : Bool)
        → KeepsData v (if directory then renamed_over_directory line r target.line target.child v else renamed_over_file line r target.line v)
    by true = same-maps v (renamed_over_directory line r target.line target.child v) refl (length-set v.inodes target.child (gone_node (inode v target.child))) refl
    by false = same-maps v (renamed_over_file line r target.line v) refl refl refl

pub renamed-keeps : (path to : List (List ℕ)) (v w : Volume) (lost : Option ℕ) → IsRenamed path to v w lost → KeepsData v w
renamed-keeps path to v w lost moved =
    subst (KeepsData v) (sym moved.is_renamed)
    (over-keeps moved.moving.entry.line (row_to to moved.moving.parent moved.moving.entry.child) moved.moving.target v)

pub dropped-keeps : (ino : ℕ) (v w : Volume) → ino < length v.maps → w ≡ dropped ino v → KeepsData v w
dropped-keeps ino v w below is = record {
  geometry = ap (λ (x : Volume). x.geometry) is;
  covered = switched-covers v w ino (gone_node (inode v ino)) [] [] (IsCovered v) is below
      (λ k has. let never : false ≡ true = has in absurd (both_ways false refl never)) (λ k has. has);
}

pub reset-keeps : (ino : ℕ) (v w : Volume) → w ≡ reset ino v → KeepsData v w
reset-keeps ino v w is =
    same-maps v w (ap (λ (x : Volume). x.geometry) is) (ap (λ (x : Volume). length x.inodes) is ∙ length-set v.inodes ino (unapplied (inode v ino)))
    (ap (λ (x : Volume). x.maps) is)

pub based-keeps : (base : ℕ) (v w : Volume) → w ≡ base_set base v → KeepsData v w
based-keeps base v w is =
    same-maps v w (ap (λ (x : Volume). x.geometry) is) (ap (λ (x : Volume). length x.inodes) is) (ap (λ (x : Volume). x.maps) is)
