-- Where nothing is open.
use Rattle.std.specs.Prelude.{◌≡◌, ℕ, zero, suc, [], ◌∷◌, map, replicate, Some, None, get_or, refl}
use Rattle.std.specs.Option.{option_map}
use Rattle.std.proofs.Common.{ap, sym, subst}
use Rattle.posix_tables.specs.Open.{nothing_open}
use Rattle.open_files.specs.declared.files.kept.Reference.{Reference}
use Rattle.open_files.specs.Kept.{number_of, tables_of, tabulated}
use Rattle.open_files.specs.Order.{AreInOrder}
use Rattle.open_files.specs.State.{AreKept}
use Rattle.open_files.proofs.OrderLaws.{order-nothing_open}

free_numbers : (n : ℕ) → map (option_map number_of) (replicate n None) ≡ replicate n None
free_numbers zero = refl
free_numbers (suc n) = ap (λ xs. None ∷ xs) (free_numbers n)

free_at : (n d : ℕ) (r : Reference) → get_or (replicate n None) d None ≡ Some r → ⊥
free_at zero d r is = cc
free_at (suc n) zero r is = cc
free_at (suc n) (suc d) r is = free_at n d r is

pub tables-nothing : tables_of [] 0 (replicate 64 None) [] ≡ nothing_open
unfolding tabulated
tables-nothing = λ i. record { descriptions = []; descriptors = free_numbers 64 i; handles = [] }

pub kept-nothing : AreKept [] 0 (replicate 64 None) []
kept-nothing = record {
  below = λ key kept is. cc;
  distinct = λ a b x y at_x at_y same. cc;
  refers = λ d r is. absurd (free_at 64 d r is);
  in_order = subst AreInOrder (sym tables-nothing) order-nothing_open;
}
