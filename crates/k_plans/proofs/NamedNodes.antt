-- Whether an inode has a name: it is not the root, and the root is above it.
use Rattle.std.proofs.Common.{◌≡◌, ◌≢◌, ℕ, zero, suc, ◌<◌, Option, Some, None, sym, ◌∙◌, ap, arith, inl, inr}
use Rattle.std.proofs.lemmas.Bool.{cases_lt}
use Rattle.std.proofs.lemmas.Option.{same_Some}
use Rattle.layout_model.specs.Names.{IsBelow, is_child, names_of, row as row_at, up}
use Rattle.layout_model.specs.TableLaws.{is_child-parts}
use Rattle.k_tables.specs.image_model.Volume.{Volume}
use Rattle.k_tables.specs.volume_laws.Lists.{count_by-some}
use Rattle.k_tables.specs.name_laws.ForestLaws.{up-parent, up-top}
use Rattle.k_tables.specs.name_laws.KeptLaws.{kept-one_name, kept-placed}
use Rattle.k_tables.specs.name_laws.SetLaws.{parent_of-none, parent_of-one_name}
use Rattle.volume_change_laws.specs.CallLaws.{IsKeptVolume}

none-some : (o : Option ℕ) (n : ℕ) → o ≡ None → o ≡ Some n → ⊥
none-some o n none some = cc

pub named-below : (v : Volume) (ino : ℕ) → IsKeptVolume v → 0 < names_of v.names ino → (ino ≢ 0) × IsBelow v.names ino 0
named-below v ino k some =
    let found = count_by-some (is_child ino) v.names None some in
    let child = is_child-parts ino (row_at v.names found.0) found.2 in
    let steps = (kept-placed v found.0 child.0 k.kept k.all child.1).steps in
    let above = parent_of-one_name v.names found.0 child.0 (kept-one_name v k.kept k.all child.0.child) child.1 in (
      λ root. omega (arith, some, k.kept.directories.root, ap (names_of v.names) root),
      (suc steps.0, ap (up v.names (suc steps.0)) (sym child.2) ∙ up-parent v.names steps.0 child.0.child child.0.parent above ∙ steps.2),
    )

pub below-named : (v : Volume) (ino : ℕ) → ino ≢ 0 → IsBelow v.names ino 0 → 0 < names_of v.names ino
unfolding up
below-named v ino other (zero, at) = absurd (other (same_Some ino 0 at))
below-named v ino other (suc n, at) = elim (cases_lt 0 (names_of v.names ino)) [
  | inl some ↦ some
  | inr none ↦
      absurd (none-some (up v.names (suc n) ino) 0 (up-top v.names n ino (parent_of-none v.names ino (omega (arith, none)))) at)
]
