-- What the extents that were listed from blocks say of the map there.
use Rattle.std.proofs.Common.{◌≡◌, ℕ, List, length, Option, Some, None, sym, subst}
use Rattle.std.specs.Option.{SomeIff, IfSome, IfNone}
use Rattle.pm_lines.specs.pm_model.Words.{Words}
use Rattle.extent_map.specs.extent_model.declared.extent_words.Extent.{Extent}
use Rattle.extent_map.specs.extent_model.Extents.{IsCanonical}
use Rattle.volume_laws.specs.ChainLaws.{spells-stands, stands-spelled, listed-map}
use Rattle.volume_laws.specs.image_model.Placed.{StandsIn}
use Rattle.volume_laws.specs.image_model.Listed.{AreListed}
use Rattle.volume_laws.specs.image_model.Standing.{IsMapIn, HasNoMap}

-- they do not stand there: no map does
pub not_spelled : (f : Words) (blocks : List ℕ) (count : ℕ) (listed : List Extent) → length listed ≡ count → AreListed f blocks listed → ¬ StandsIn f blocks listed
    → HasNoMap f blocks count
not_spelled f blocks count listed size are not es map =
    not (subst (StandsIn f blocks) (sym (listed-map f blocks count es listed map size are)) (stands-spelled f blocks es map.spelled))

-- they stand there, and are a map
pub map_found : (found : Option (List Extent)) (f : Words) (blocks : List ℕ) (count : ℕ) (listed : List Extent) → SomeIff found (IsCanonical listed) listed
    → length listed ≡ count → StandsIn f blocks listed → IfSome found (IsMapIn f blocks count)
map_found None f blocks count listed is size stands = tt
map_found (Some map) f blocks count listed is size stands =
    subst (IsMapIn f blocks count) (sym is.1) (record { spelled = spells-stands f blocks listed stands; counted = size; canonical = is.0 })

-- they are no map: no map stands there
pub map_missed : (found : Option (List Extent)) (f : Words) (blocks : List ℕ) (count : ℕ) (listed : List Extent) → SomeIff found (IsCanonical listed) listed
    → length listed ≡ count → AreListed f blocks listed → IfNone found (HasNoMap f blocks count)
map_missed None f blocks count listed is size are = λ es map. is (subst IsCanonical (sym (listed-map f blocks count es listed map size are)) map.canonical)
map_missed (Some map) f blocks count listed is size are = tt
