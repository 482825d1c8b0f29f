-- Tables of which nothing is set aside.
use Rattle.std.proofs.Common.{◌≡◌, ◌<◌, ◌≤◌, ℕ, List, [], ◌∷◌, length, Option, refl, sym, ap, subst}
use Rattle.k_map_plans.specs.k_plans.Switching.{with_aside}
use Rattle.k_map_plans.specs.k_plans.View.{TablesView}

-- the volume stays
pub same-volume : (u r : TablesView) → r ≡ with_aside [] u → u.volume ≡ r.volume
same-volume u r is = sym (ap (λ (x : TablesView). x.volume) is)

-- tables of which nothing is set aside
pub none_there : (t : TablesView) → t.aside ≡ [] → t ≡ with_aside [] t
none_there t none = ap (λ (bs : List ℕ). with_aside bs t) none
