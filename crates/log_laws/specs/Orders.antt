-- The order in which recovery carries out the entries of a log.
use Rattle.std.specs.Prelude.{◌≡◌, ◌≢◌, ◌<◌, ℕ, true, List, [], ◌∷◌, Some}
use Rattle.std.specs.List.Sorted.{IsNonDecreasingBy, IsPermutation}
use Rattle.world_write_laws.specs.pm_model.Words.{Words}
use Rattle.world_write_laws.specs.layout_model.declared.lines.Draft.{Draft}
use Rattle.world_write_laws.specs.image_model.Live.{entry_in, is_of_file}
use Rattle.world_write_laws.specs.image_model.Volume.{Volume}
use Rattle.world_write_laws.specs.list_laws.Members.{In}

-- THE ENTRIES IN THEIR ORDER: those of the list, each as often as there, and none has an order above that of a later one.
pub record AreInOrder (live ds : List Draft) : Type 0 where
  pub same : IsPermutation live ds
  pub rising : IsNonDecreasingBy (λ d. d.order) ds

-- each entry comes before the later ones of its file
abbrev pub ComeFirst : List Draft → Type 0
ComeFirst [] = Unit {0}
ComeFirst (d ∷ ds) = ((e : Draft) → In e ds → d.ino ≡ e.ino → d.order < e.order) × ComeFirst ds

-- no two entries in slots that are of one file have one order
abbrev pub HaveOwnOrders : Volume → Words → Type 0
HaveOwnOrders v f =
    (s t : ℕ) (d e : Draft) → s < t → t < v.geometry.log → entry_in v f s ≡ Some d → entry_in v f t ≡ Some e → is_of_file v d ≡ true
    → is_of_file v e ≡ true → d.ino ≡ e.ino → d.order ≢ e.order
