-- Steps that are taken from the front of their list.
use Rattle.std.proofs.Common.{◌≡◌, ◌<◌, ◌≤◌, ℕ, List, [], ◌∷◌, length, sym, ap, drop, arith}
use Rattle.std.specs.Prelude.{slice_index_or}
use Rattle.k_plans.specs.image_model.Chains.{first_or_zero}
use Rattle.k_plans.specs.image_model.Volume.{Volume}
use Rattle.k_plans.specs.LandingsPlans.{IsMapFrom, NewChain}
use Rattle.k_plans.specs.LandingsPlans.IsMapFrom.{NewMap}
use Rattle.k_plans.specs.k_split_model.Taken.{with_map}
use Rattle.k_plans.specs.volume_change_laws.Switches.{MaySwitch}
use Rattle.k_plans.specs.volume_laws.Uses.{in_chain}
use Rattle.k_relink.specs.extent_model.declared.extent_words.Extent.{Extent}
use Rattle.k_map_plans.specs.Steps.{ComesFrom, MayStep, Step}

pub taken-first : (xs rest : List Step) (s d : Step) → 0 < length xs → s ≡ slice_index_or xs 0 d → rest ≡ drop 1 xs → xs ≡ s ∷ rest
taken-first [] rest s d some s_is rest_is = absurd (omega (arith, some))
taken-first (x ∷ xs) rest s d some s_is rest_is = λ i. sym s_is i ∷ sym rest_is i

pub step-switches : (v : Volume) (waits : List ℕ) (s : Step) → MayStep v waits s → ((b : ℕ) → in_chain waits b ≤ 1)
    → MaySwitch v waits s.ino s.line s.chain s.map s.aside
step-switches v waits s may once = record {
  below = may.below;
  kind = may.kind;
  fields = may.fields;
  short = may.short;
  once = once;
  same = may.same;
}

pub step-map : (news : List NewChain) (v : Volume) (s : Step) → ComesFrom news s
    → IsMapFrom news v s.ino (with_map s.chain s.map s.line) s.chain s.map
step-map news v s from =
    NewMap from.place from.below (ap first_or_zero from.chain) (ap (λ (es : List Extent). length es) from.map) from.chain from.map
