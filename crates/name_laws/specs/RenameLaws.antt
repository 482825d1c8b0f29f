-- What it says of the paths of a rename that none of its rows fits.
use Rattle.std.specs.Prelude.{◌≡◌, ℕ, ◌+◌, ◌≤◌, List, length, Bool, true, false, not, ◌&&◌, ◌||◌, ◌==◌, nat_lt, Option, Some, None, is_some, unwrap_or, refl}
use Rattle.std.specs.Option.{option_map_or}
use Rattle.std.proofs.Common.{arith, ap, sym, ◌∙◌, subst, inl, inr}
use Rattle.std.proofs.lemmas.Bool.{both_ways, and_from, or_parts, eq-eqb}
use Rattle.std.proofs.lemmas.Bool.Decides.{nat_tests}
use Rattle.k_split_model.specs.posix_tables.NameRows.{rename_kind_rows, rename_rows}
use Rattle.k_split_model.specs.posix_tables.Names.{directory_stands, exists_at, file_stands, has_entries, height, is_below, is_root, longest_path, node_at_path, number_at, Space, too_long}
use Rattle.k_split_model.specs.posix_tables.Outcomes.{first}
use Rattle.name_laws.specs.PathLaws.{child-there, directory-there, node_at-path}
use Rattle.name_laws.specs.Paths.{HasDirectory, MayLand, MayGo}
use Rattle.name_laws.specs.RowLists.{AllNone, none_fits, no_row}

-- where the first of two holds and not both, the second does not
and_other : (a b : Bool) → a ≡ true → (a && b) ≡ false → b ≡ false
and_other true b first none = none
and_other false b first none = cc

not_true : (b : Bool) → not b ≡ false → b ≡ true
not_true true h = refl
not_true false h = cc

not_lt : (n m : ℕ) → nat_lt n m ≡ false → m ≤ n
not_lt n m h = grind (arith, nat_tests)

-- the rows by kinds, where the child and what stands at q are known: `directory` tells of the child, `node` what
-- stands at q
pub record KindsFit (s : Space) (p q : List (List ℕ)) (child : ℕ) : Type 0 where
  pub outside : s.directory child ≡ true → is_below q p ≡ false
  pub over_directory : s.directory child ≡ true → file_stands s q ≡ false
  pub over_empty : s.directory child ≡ true → (directory_stands s q && has_entries s.entries (number_at s q)) ≡ false
  pub deep : s.directory child ≡ true → length q + height s.entries longest_path child ≤ longest_path
  pub over_file : s.directory child ≡ false → directory_stands s q ≡ false

kinds-fit : (s : Space) (p q : List (List ℕ)) (child : ℕ) → node_at_path s p ≡ Some child
    → first (rename_kind_rows s p q) ≡ None → KindsFit s p q child
unfolding rename_kind_rows
kinds-fit s p q child at none =
    let rows : AllNone (rename_kind_rows s p q) = none_fits (rename_kind_rows s p q) none in
    let directory : directory_stands s p ≡ s.directory child = ap (λ o. option_map_or s.directory o false) at in
    let file : file_stands s p ≡ not (s.directory child) =
    ap (λ o. option_map_or (λ node. not (s.directory node)) o false) at
    in
    let number : number_at s p ≡ child = ap (λ o. unwrap_or o 0) at in
    record {
      outside = λ is. and_other (directory_stands s p) (is_below q p) (directory ∙ is) (no_row (directory_stands s p && is_below q p) _ rows.0);
      over_directory = λ is. and_other (directory_stands s p) (file_stands s q) (directory ∙ is) (no_row (directory_stands s p && file_stands s q) _ rows.1.0);
      over_empty =
          λ is. and_other (directory_stands s p) (directory_stands s q && has_entries s.entries (number_at s q)) (directory ∙ is)
          (no_row (directory_stands s p && (directory_stands s q && has_entries s.entries (number_at s q))) _ rows.1.1.0);
      deep = λ is.
          let low = not_lt longest_path (length q + height s.entries longest_path (number_at s p))
          (and_other (directory_stands s p) (nat_lt longest_path (length q + height s.entries longest_path (number_at s p))) (directory ∙ is)
          (no_row (directory_stands s p && nat_lt longest_path (length q + height s.entries longest_path (number_at s p))) _ rows.1.1.1.0))
          in
          subst (λ n. length q + height s.entries longest_path n ≤ longest_path) number low;
      over_file = λ is.
          let stands : file_stands s p ≡ true = file ∙ ap not is in
          and_other (file_stands s p) (directory_stands s q) stands (no_row (file_stands s p && directory_stands s q) _ rows.1.1.1.1.0);
    }

-- so the child may replace what stands at q
lands : (s : Space) (p q : List (List ℕ)) (child to : ℕ) → HasDirectory s q to → node_at_path s p ≡ Some child
    → (exists_at s q && (number_at s p == number_at s q)) ≡ false → KindsFit s p q child → MayLand s q to child
lands s p q child to d at other fit = by (node_at_path s q) refl
  where
    number : number_at s p ≡ child
    number = ap (λ o. unwrap_or o 0) at

    kinds : (target : ℕ) → node_at_path s q ≡ Some target → (b : Bool) → s.directory child ≡ b → s.directory target ≡ b
    kinds target is true own =
        not_true (s.directory target)
        (sym (ap (λ o. option_map_or (λ node. not (s.directory node)) o false) is) ∙ fit.over_directory own)
    kinds target is false own = sym (ap (λ o. option_map_or s.directory o false) is) ∙ fit.over_file own

    by : (o : Option ℕ) → node_at_path s q ≡ o → MayLand s q to child
    by None is = inl (record { directory = d; is_new = sym (node_at-path s q to d) ∙ is })
    by (Some target) is =
        let there : exists_at s q ≡ true = ap is_some is in
        let its_number : number_at s q ≡ target = ap (λ o. unwrap_or o 0) is in
        inr (
          target,
          record { directory = d; is = sym (node_at-path s q to d) ∙ is },
          record {
            apart = λ e. both_ways (exists_at s q && (number_at s p == number_at s q)) other
                (and_from (exists_at s q) (number_at s p == number_at s q) there (eq-eqb (number_at s p) (number_at s q) (number ∙ sym e ∙ sym its_number)));
            same = kinds target is (s.directory child) refl;
            empty = λ own.
                let stands : directory_stands s q ≡ true =
                ap (λ o. option_map_or s.directory o false) is ∙ kinds target is true own
                in
                subst (λ n. has_entries s.entries n ≡ false) its_number
                (and_other (directory_stands s q) (has_entries s.entries (number_at s q)) stands (fit.over_empty own));
          },
        )

-- `rename`: the child at p may have the path q.
pub rename-may : (s : Space) (p q : List (List ℕ)) → first (rename_rows s p q) ≡ None
    → (from : ℕ) × (child : ℕ) × (to : ℕ) × MayGo s p q from child to
unfolding rename_rows
rename-may s p q none =
    let rows : AllNone (rename_rows s p q) = none_fits (rename_rows s p q) none in
    let below = or_parts (is_root p) (is_root q) (no_row (is_root p || is_root q) _ rows.0) in
    let d = directory-there s p below.0 (no_row (too_long s.longest p) _ rows.1.0) rows.1.1.1.0 in
    let e = directory-there s q below.1 (no_row (too_long s.longest q) _ rows.1.1.0) rows.1.1.1.1.1.0 in
    let at = child-there s p d.0 d.1 (no_row (not (exists_at s p)) _ rows.1.1.1.1.0) in
    let fit = kinds-fit s p q at.0 at.2 rows.1.1.1.1.1.1.1.0 in (
      d.0,
      at.0,
      e.0,
      record {
        old = at.1;
        directory = e.1;
        lands = lands s p q at.0 e.0 e.1 at.2 (no_row (exists_at s q && (number_at s p == number_at s q)) _ rows.1.1.1.1.1.1.0) fit;
        outside = fit.outside;
        deep = fit.deep;
      },
    )
