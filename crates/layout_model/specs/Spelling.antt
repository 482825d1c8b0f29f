-- How the names of a path are spelled.
use Rattle.std.specs.Prelude.{◌≡◌, ℕ, List, length, Bool, true, not, ◌&&◌, nat_le, All}
use Rattle.std.specs.List.{list_all}
use Rattle.layout_model.specs.Lines.{is_dots, is_name_byte}

-- One or more printable bytes, none of them a slash; neither `.` nor `..`. It may be longer than a name line holds.
abbrev pub is_spelled : List ℕ → Bool
is_spelled name = list_all is_name_byte name && nat_le 1 (length name) && not (is_dots name)

abbrev pub AreSpelled : List (List ℕ) → Type 0
AreSpelled path = All (λ name. is_spelled name ≡ true) path
