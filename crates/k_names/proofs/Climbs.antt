-- The steps of a climb from an inode up to an ancestor.
use Rattle.std.proofs.Common.{◌≡◌, ◌≢◌, ℕ, ◌+◌, ◌<◌, ◌≤◌, Some, None, arith, ap, sym, ◌∙◌, refl, length, ⊎_elim, below_more, add-one}
use Rattle.std.specs.Prelude.{option_and_then}
use Rattle.std.proofs.lemmas.Bool.{cases_order}
use Rattle.std.proofs.lemmas.Option.{same_Some}
use Rattle.layout_model.specs.Names.{Rows, up, parent_of, IsBelow}
use Rattle.layout_model.specs.TableLaws.{up-more, up-bound}
use Rattle.layout_model.specs.Tables.{IsKeyed, IsAcyclic}
use Rattle.layout_model.specs.UpLaws.{up-past}

-- n directories up from the inode one is at `at`, and has not come by the ancestor
abbrev pub Climbs : Rows → ℕ → ℕ → ℕ → ℕ → Type 0
Climbs rows ino ancestor n at = (up rows n ino ≡ Some at) × ((m : ℕ) → m < n → up rows m ino ≢ Some ancestor)

pub climb_start : (rows : Rows) (ino ancestor : ℕ) → Climbs rows ino ancestor 0 ino
unfolding up
climb_start rows ino ancestor = (refl, λ m below. absurd (omega arith))

pub climb_more : (rows : Rows) (ino ancestor n at parent : ℕ) → Climbs rows ino ancestor n at → at ≢ ancestor → parent_of rows at ≡ Some parent → Climbs rows ino ancestor (n + 1) parent
climb_more rows ino ancestor n at parent climb other above = (
  ap (λ k. up rows k ino) (add-one n) ∙ up-more rows n ino ∙ ap (option_and_then (parent_of rows)) climb.0 ∙ above,
  below_more (λ m. up rows m ino ≢ Some ancestor) n climb.1 (λ h. other (same_Some at ancestor (sym climb.0 ∙ h))),
)

-- at the place itself
met : (rows : Rows) (ino ancestor n m at : ℕ) → Climbs rows ino ancestor n at → up rows m ino ≡ Some ancestor → m ≡ n → at ≡ ancestor
met rows ino ancestor n m at climb h same = same_Some at ancestor (sym climb.0 ∙ ap (λ k. up rows k ino) (sym same) ∙ h)

-- where there is no way on
pub climb_end : (rows : Rows) (ino ancestor n at : ℕ) → Climbs rows ino ancestor n at → at ≢ ancestor → parent_of rows at ≡ None → IsBelow rows ino ancestor → ⊥
climb_end rows ino ancestor n at climb other none (m, h) =
    ⊎_elim
    (λ same. other (met rows ino ancestor n m at climb h same))
    (⊎_elim
    (λ before. climb.1 m before h)
    (λ past. let gone = up-past rows n m ino at climb.0 none past in let clash : None ≡ Some ancestor = sym gone ∙ h in cc))
    (cases_order m n)

-- after as many steps as the table has lines
pub climb_all : (rows : Rows) (ino ancestor n at : ℕ) → IsKeyed rows → IsAcyclic rows → length rows ≤ n → Climbs rows ino ancestor n at → IsBelow rows ino ancestor → at ≡ ancestor
climb_all rows ino ancestor n at keyed acyclic all climb (m, h) =
    ⊎_elim
    (λ same. met rows ino ancestor n m at climb h same)
    (⊎_elim
    (λ before. absurd (climb.1 m before h))
    (λ past. absurd (omega (arith, up-bound rows m ino ancestor keyed acyclic h, past, all))))
    (cases_order m n)
