-- The last name of a spelled path that is not too long fits a name line.
use Rattle.std.specs.Prelude.{◌≡◌, ◌-◌, ℕ, true, false, not, ◌&&◌, nat_le, nat_lt, List, [], length}
use Rattle.std.specs.List.{list_all, list_any}
use Rattle.std.proofs.Common.{arith}
use Rattle.std.proofs.lemmas.Bool.{and_from, and_parts, both_ways, false_from_ne_true, or_parts}
use Rattle.std.proofs.lemmas.Bool.Decides.{nat_tests}
use Rattle.std.proofs.lemmas.List.Folds.{list_any_at}
use Rattle.world_write_laws.specs.world_step_laws.layout_model.Lines.{is_dots, is_name, is_name_byte}
use Rattle.world_write_laws.specs.world_step_laws.posix_tables.Names.{is_root, last_name, longest_path, too_long}
use Rattle.world_write_laws.specs.world_step_laws.name_laws.TreeLaws.{some-names}
use Rattle.k_split.specs.layout_model.Spelling.{AreSpelled, is_spelled}

short_name : (name : List ℕ) → is_spelled name ≡ true → nat_lt 48 (length name) ≡ false → is_name name ≡ true
short_name name spelled short =
    let parts = and_parts (list_all is_name_byte name && nat_le 1 (length name)) (not (is_dots name)) spelled in
    let fits : nat_le (length name) 48 ≡ true = grind (arith, nat_tests, short) in
    and_from (list_all is_name_byte name && nat_le 1 (length name) && nat_le (length name) 48) (not (is_dots name))
    (and_from (list_all is_name_byte name && nat_le 1 (length name)) (nat_le (length name) 48) parts.0 fits) parts.1

pub last_fits : (path : List (List ℕ)) → AreSpelled path → is_root path ≡ false → too_long 48 path ≡ false → is_name (last_name path) ≡ true
last_fits path spelled below short =
    let at = some-names path below in
    let none = or_parts (list_any (λ (name : List ℕ). nat_lt 48 (length name)) path) (nat_lt longest_path (length path)) short in
    short_name (last_name path) (spelled (length path - 1) [] (omega arith))
    (false_from_ne_true (nat_lt 48 (length (last_name path)))
    (λ long. both_ways (list_any (λ (name : List ℕ). nat_lt 48 (length name)) path) none.0
    (list_any_at (λ (name : List ℕ). nat_lt 48 (length name)) path (length path - 1) [] (omega arith) long)))
