-- Loans come home one after the other, those of one job after those of another.
use Rattle.std.specs.Prelude.{◌≡◌, ◌≢◌, ◌⊎◌, ◌<◌, ◌/◌, ◌%◌, ◌++◌, ℕ, suc, false, List, [], ◌∷◌, length, refl}
use Rattle.std.proofs.Common.{append_assoc, arith, ap, ◌∙◌, sym, subst, inl, inr}
use Rattle.file_calls.specs.eof_laws.pm_model.declared.Cell.{Cell}
use Rattle.file_calls.specs.eof_laws.pm_model.Cells.{cell, is_lent, unmarked}
use Rattle.file_calls.specs.eof_laws.pm_model.Parts.{ComesBack, Part}
use Rattle.file_calls.specs.eof_laws.list_laws.Members.{In}
use Rattle.in_flight.specs.write_jobs.Jobs.{FilledView, JobView, loan_at}
use Rattle.write_end.specs.write_jobs.Loans.{AreApart}
use Rattle.write_end.specs.Blocks.{ComeHome}
use Rattle.world_view_laws.specs.Handed.{AreOneEach, HaveOtherPlaces, loans_filled, loans_out}

-- ---- members

pub in_front : {X : Type 0} (xs ys : List X) (x : X) → In x xs → In x (xs ++ ys)
in_front [] ys x at = absurd at
in_front (y ∷ xs) ys x (inl same) = inl same
in_front (y ∷ xs) ys x (inr rest) = inr (in_front xs ys x rest)

pub in_behind : {X : Type 0} (xs ys : List X) (x : X) → In x ys → In x (xs ++ ys)
in_behind [] ys x at = at
in_behind (y ∷ xs) ys x at = inr (in_behind xs ys x at)

pub in_either : {X : Type 0} (xs ys : List X) (x : X) → In x (xs ++ ys) → In x xs ⊎ In x ys
in_either [] ys x at = inr at
in_either (y ∷ xs) ys x (inl same) = inl (inl same)
in_either (y ∷ xs) ys x (inr rest) = elim (in_either xs ys x rest) [ inl front ↦ inl (inr front) | inr behind ↦ inr behind ]

-- ---- loans one after the other

pub home_none : (d : List Cell) → ComeHome [] d d
home_none d = record { size = refl; words = λ loan i at place. absurd at; home = λ loan i at place. absurd at; beside = λ i none. refl }

pub home_one : (loan : Part) (d e : List Cell) → length e ≡ length d → ComesBack 512 loan.place loan.cells d e → ((i : ℕ) → i / 512 ≡ loan.place → is_lent (cell e i) ≡ false) → ComeHome (loan ∷ []) d e
home_one loan d e size back home = record {
  size = size;
  words = λ x i at place. elim at [ inl same ↦ subst (λ (y : Part). cell e i ≡ unmarked (cell y.cells (i % 512))) same (back.words i (place ∙ ap (λ (y : Part). y.place) (sym same))) | inr none ↦ absurd none ];
  home = λ x i at place. elim at [ inl same ↦ home i (place ∙ ap (λ (y : Part). y.place) (sym same)) | inr none ↦ absurd none ];
  beside = λ i none. back.others i (none loan (inl refl));
}

-- those of the one list came home, and then those of the other
pub home_more : (xs ys : List Part) (d e f : List Cell) → HaveOtherPlaces xs ys → ComeHome xs d e → ComeHome ys e f → ComeHome (xs ++ ys) d f
home_more xs ys d e f apart one two = record {
  size = two.size ∙ one.size;
  words = λ loan i at place. elim (in_either xs ys loan at) [
    | inl front ↦ stays loan i front place ∙ one.words loan i front place
    | inr behind ↦ two.words loan i behind place
  ];
  home = λ loan i at place. elim (in_either xs ys loan at) [
    | inl front ↦ ap is_lent (stays loan i front place) ∙ one.home loan i front place
    | inr behind ↦ two.home loan i behind place
  ];
  beside = λ i none. two.beside i (λ loan at. none loan (in_behind xs ys loan at)) ∙ one.beside i (λ loan at. none loan (in_front xs ys loan at));
} where
  stays : (loan : Part) (i : ℕ) → In loan xs → i / 512 ≡ loan.place → cell f i ≡ cell e i
  stays loan i at place = two.beside i (λ other there same. apart loan other at there (sym place ∙ same))

-- ---- no two of one place

pub each_front : (xs ys : List Part) → AreOneEach (xs ++ ys) → AreOneEach xs
each_front [] ys each = tt
each_front (x ∷ xs) ys each = (λ other at. each.0 other (in_front xs ys other at), each_front xs ys each.1)

pub each_behind : (xs ys : List Part) → AreOneEach (xs ++ ys) → AreOneEach ys
each_behind [] ys each = each
each_behind (x ∷ xs) ys each = each_behind xs ys each.1

pub other_places : (xs ys : List Part) → AreOneEach (xs ++ ys) → HaveOtherPlaces xs ys
other_places [] ys each loan other at there = absurd at
other_places (x ∷ xs) ys each loan other (inl same) there = subst (λ (y : Part). y.place ≢ other.place) same (each.0 other (in_behind xs ys other there))
other_places (x ∷ xs) ys each loan other (inr at) there = other_places xs ys each.1 loan other at there

pub each_joined : (xs ys : List Part) → AreOneEach xs → AreOneEach ys → HaveOtherPlaces xs ys → AreOneEach (xs ++ ys)
each_joined [] ys one two apart = two
each_joined (x ∷ xs) ys one two apart = (
  λ other at. elim (in_either xs ys other at) [ inl front ↦ one.0 other front | inr behind ↦ apart x other (inl refl) behind ],
  each_joined xs ys one.1 two (λ loan other at there. apart loan other (inr at) there),
)

-- by their places
at_place : (loans : List Part) (other : Part) → In other loans → (n : ℕ) × (n < length loans) × (loan_at loans n ≡ other)
at_place [] other at = absurd at
at_place (x ∷ loans) other (inl same) = (0, omega arith, same)
at_place (x ∷ loans) other (inr rest) = let its = at_place loans other rest in (suc its.0, omega (arith, its.1), its.2)

pub each_apart : (loans : List Part) → AreApart loans → AreOneEach loans
each_apart [] apart = tt
each_apart (x ∷ loans) apart = (
  λ other at same. (
      let its = at_place loans other at in
      let one : 0 ≡ suc its.0 = apart 0 (suc its.0) (omega arith) (omega (arith, its.1)) (same ∙ ap (λ (y : Part). y.place) (sym its.2)) in
      absurd (omega (arith, one))),
  each_apart loans (λ m n first second same. (let one : suc m ≡ suc n = apart (suc m) (suc n) (omega (arith, first)) (omega (arith, second)) same in omega (arith, one))),
)

-- ---- of jobs

pub loans_out_more : (xs ys : List JobView) → loans_out (xs ++ ys) ≡ loans_out xs ++ loans_out ys
loans_out_more [] ys = refl
loans_out_more (x ∷ xs) ys = ap (λ zs. x.loans ++ zs) (loans_out_more xs ys) ∙ sym (append_assoc x.loans (loans_out xs) (loans_out ys))

pub loans_filled_more : (xs ys : List FilledView) → loans_filled (xs ++ ys) ≡ loans_filled xs ++ loans_filled ys
loans_filled_more [] ys = refl
loans_filled_more (x ∷ xs) ys = ap (λ zs. x.loans ++ zs) (loans_filled_more xs ys) ∙ sym (append_assoc x.loans (loans_filled xs) (loans_filled ys))
