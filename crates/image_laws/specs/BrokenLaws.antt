-- Laws of the first broken rule: an image that keeps all rules breaks none, one that breaks a rule breaks one alone,
-- at one place, and how the first broken rule of a list is found in a part of it.
use Rattle.std.specs.Prelude.{◌≡◌, ℕ, List, [], ◌∷◌, ◌++◌}
use Rattle.std.proofs.Common.{inl, inr, sym, ◌∙◌}
use Rattle.std.proofs.lemmas.Bool.{cases_order}
use Rattle.volume_laws.specs.image_model.Broken.{Rule, FailsFirst, HoldAll, BreaksFirst}

-- of one rule the lowest place is one
lowest-same : (r : Rule) (p q : ℕ) → FailsFirst r p → FailsFirst r q → p ≡ q
lowest-same r p q b c =
    elim (cases_order p q) [
      | inl same ↦ same
      | inr apart ↦ elim apart [
        | inl lower ↦ absurd (b.fails (c.before p b.from lower))
        | inr higher ↦ absurd (c.fails (b.before q c.from higher))
      ]
    ]

-- where all rules hold none is broken
pub HoldAll-unbroken : (rules : List Rule) (number place : ℕ) → HoldAll rules → BreaksFirst rules number place → ⊥
HoldAll-unbroken [] number place hold breaks = breaks
HoldAll-unbroken (r ∷ rules) number place hold breaks =
    elim breaks [
      | inl here ↦ here.1.fails (hold.0 place here.1.from here.1.within)
      | inr later ↦ HoldAll-unbroken rules number place hold.1 later.1
    ]

-- the first broken rule is one, and its place is one
pub BreaksFirst-one : (rules : List Rule) (m p n q : ℕ) → BreaksFirst rules m p → BreaksFirst rules n q → (m ≡ n) × (p ≡ q)
BreaksFirst-one [] m p n q b c = absurd b
BreaksFirst-one (r ∷ rules) m p n q b c =
    elim b [
      | inl here ↦ elim c [
        | inl there ↦ (here.0 ∙ sym there.0, lowest-same r p q here.1 there.1)
        | inr later ↦ absurd (here.1.fails (later.0 p here.1.from here.1.within))
      ]
      | inr passed ↦ elim c [
        | inl there ↦ absurd (there.1.fails (passed.0 q there.1.from there.1.within))
        | inr later ↦ BreaksFirst-one rules m p n q passed.1 later.1
      ]
    ]

-- rules behind others
pub HoldAll-append : (rules more : List Rule) → HoldAll rules → HoldAll more → HoldAll (rules ++ more)
HoldAll-append [] more hold holds = holds
HoldAll-append (r ∷ rules) more hold holds = (hold.0, HoldAll-append rules more hold.1 holds)

pub BreaksFirst-behind : (rules more : List Rule) (number place : ℕ) → HoldAll rules → BreaksFirst more number place → BreaksFirst (rules ++ more) number place
BreaksFirst-behind [] more number place hold breaks = breaks
BreaksFirst-behind (r ∷ rules) more number place hold breaks = inr (hold.0, BreaksFirst-behind rules more number place hold.1 breaks)

pub BreaksFirst-before : (rules more : List Rule) (number place : ℕ) → BreaksFirst rules number place → BreaksFirst (rules ++ more) number place
BreaksFirst-before [] more number place breaks = absurd breaks
BreaksFirst-before (r ∷ rules) more number place breaks =
    elim breaks [
      | inl here ↦ inl here
      | inr later ↦ inr (later.0, BreaksFirst-before rules more number place later.1)
    ]
