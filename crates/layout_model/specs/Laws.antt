-- How names are spelled, in rows.
use Rattle.std.specs.Prelude.{◌≡◌, [], ◌∷◌, true, false, replicate, codes}
use Rattle.layout_model.specs.Spelling.{is_spelled}

-- a name may have 49 bytes, and a dot in it, and each byte from 33 to 126 but the slash; it has some byte, no slash, no
-- blank and no byte 127, and is not one or two dots
abbrev pub SpellsNames : Type 0
SpellsNames =
    (is_spelled (codes "a.b") ≡ true) × (is_spelled (codes "...") ≡ true) × (is_spelled (replicate 49 97) ≡ true)
    × (is_spelled (codes "!~") ≡ true) × (is_spelled (126 ∷ 127 ∷ []) ≡ false) × (is_spelled (32 ∷ 33 ∷ []) ≡ false)
    × (is_spelled [] ≡ false) × (is_spelled (codes ".") ≡ false) × (is_spelled (codes "..") ≡ false)
    × (is_spelled (codes "a/b") ≡ false) × (is_spelled (codes "a b") ≡ false)
