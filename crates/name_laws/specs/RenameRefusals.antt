-- Which row refuses a rename: each in its turn, where those before it do not fit.
use Rattle.std.specs.Prelude.{◌≡◌, ◌≢◌, ◌⊎◌, ◌<◌, ◌≤◌, ℕ, ◌+◌, List, length, Bool, true, false, not, ◌&&◌, ◌||◌, ◌==◌, nat_lt, Option, Some, None, Err, refl}
use Rattle.std.specs.Option.{option_map_or, option_or}
use Rattle.std.proofs.Common.{arith, ap, sym, ◌∙◌, inl, inr}
use Rattle.std.proofs.lemmas.Bool.{and_left, and_right, eq-eqb, ne_eqb}
use Rattle.std.proofs.lemmas.Bool.Decides.{nat_tests}
use Rattle.k_split_model.specs.posix_types.declared.item.Outcome.{Outcome}
use Rattle.k_split_model.specs.posix_types.declared.reply.Reply.{Reply}
use Rattle.k_split_model.specs.posix_types.declared.reply.Errno.{Errno}
use Rattle.k_split_model.specs.posix_tables.NameRows.{rename_kind_rows, rename_rows}
use Rattle.k_split_model.specs.posix_tables.Names.{directory_stands, exists_at, file_stands, has_entries, height, is_below, is_root, longest_path, number_at, Space, too_long, walk}
use Rattle.k_split_model.specs.posix_tables.Outcomes.{answer, first}
use Rattle.name_laws.specs.Paths.{HasDirectory, IsAt, IsNewAt, MayLand, MayGo}
use Rattle.name_laws.specs.PathLaws.{node_at-path}
use Rattle.name_laws.specs.RefusalLaws.{stands-at, nothing-at}

pub rename-root : (s : Space) (p q : List (List ℕ)) → (is_root p || is_root q) ≡ true
    → first (rename_rows s p q) ≡ Some (answer (Reply.Error Errno.EBUSY))
unfolding rename_rows
rename-root s p q root = rw root refl

pub rename-long_old : (s : Space) (p q : List (List ℕ)) → is_root p ≡ false → is_root q ≡ false
    → too_long s.longest p ≡ true
    → first (rename_rows s p q) ≡ Some (answer (Reply.Error Errno.ENAMETOOLONG))
unfolding rename_rows
rename-long_old s p q below_p below_q long = rw (below_p, below_q, long) refl

pub rename-long_new : (s : Space) (p q : List (List ℕ)) → is_root p ≡ false → is_root q ≡ false
    → too_long s.longest p ≡ false → too_long s.longest q ≡ true
    → first (rename_rows s p q) ≡ Some (answer (Reply.Error Errno.ENAMETOOLONG))
unfolding rename_rows
rename-long_new s p q below_p below_q short long = rw (below_p, below_q, short, long) refl

-- neither path is that of the root, and none is too long
pub record AreShort (s : Space) (p q : List (List ℕ)) : Type 0 where
  pub old_below : is_root p ≡ false
  pub new_below : is_root q ≡ false
  pub old_short : too_long s.longest p ≡ false
  pub new_short : too_long s.longest q ≡ false

pub rename-walk_old : (s : Space) (p q : List (List ℕ)) (errno : Errno) → AreShort s p q → walk s p ≡ Err errno
    → first (rename_rows s p q) ≡ Some (answer (Reply.Error errno))
unfolding rename_rows
rename-walk_old s p q errno short leads =
    let a = short.old_below in
    let b = short.new_below in
    let c = short.old_short in
    let d = short.new_short in
    rw (a, b, c, d, leads) refl

pub rename-missing : (s : Space) (p q : List (List ℕ)) (from : ℕ) → AreShort s p q → IsNewAt s p from
    → first (rename_rows s p q) ≡ Some (answer (Reply.Error Errno.ENOENT))
unfolding rename_rows
rename-missing s p q from short new =
    let a = short.old_below in
    let b = short.new_below in
    let c = short.old_short in
    let d = short.new_short in
    let leads = new.directory.leads in
    let nothing = nothing-at s p from new in
    rw (a, b, c, d, leads, nothing) refl

pub rename-walk_new : (s : Space) (p q : List (List ℕ)) (from child : ℕ) (errno : Errno) → AreShort s p q
    → IsAt s p from child → walk s q ≡ Err errno
    → first (rename_rows s p q) ≡ Some (answer (Reply.Error errno))
unfolding rename_rows
rename-walk_new s p q from child errno short at wrong =
    let a = short.old_below in
    let b = short.new_below in
    let c = short.old_short in
    let d = short.new_short in
    let leads = at.directory.leads in
    let exists = (stands-at s p from child at).exists in
    rw (a, b, c, d, leads, exists, wrong) refl

-- both paths lead to one node: nothing is done
pub rename-same : (s : Space) (p q : List (List ℕ)) (from child to : ℕ) → IsAt s p from child → IsAt s q to child
    → first (rename_rows s p q) ≡ Some (answer Reply.Ok)
unfolding rename_rows
rename-same s p q from child to old new =
    let a = old.directory.below in
    let b = new.directory.below in
    let c = old.directory.short in
    let d = new.directory.short in
    let leads = old.directory.leads in
    let leads_new = new.directory.leads in
    let exists = (stands-at s p from child old).exists in
    let there = (stands-at s q to child new).exists in
    let same =
    eq-eqb (number_at s p) (number_at s q)
    ((stands-at s p from child old).number ∙ sym (stands-at s q to child new).number)
    in
    rw (a, b, c, d, leads, exists, leads_new, there, same) refl

-- what stands at q is another node than the child, or nothing
abbrev pub IsElsewhere : Space → List (List ℕ) → ℕ → ℕ → Type 0
IsElsewhere s q to child = IsNewAt s q to ⊎ ((target : ℕ) × IsAt s q to target × (target ≢ child))

apart-at : (s : Space) (p q : List (List ℕ)) (from child to : ℕ) → IsAt s p from child → IsElsewhere s q to child
    → (exists_at s q && (number_at s p == number_at s q)) ≡ false
apart-at s p q from child to old (inl new) =
    and_left (exists_at s q) (number_at s p == number_at s q) (nothing-at s q to new)
apart-at s p q from child to old (inr other) =
    and_right (exists_at s q) (number_at s p == number_at s q) (ne_eqb (number_at s p) (number_at s q) (λ e.
    other.2 (sym (stands-at s q to other.0 other.1).number ∙ sym e ∙ (stands-at s p from child old).number)))

or_none : (o : Option Outcome) → option_or o None ≡ o
or_none None = refl
or_none (Some x) = refl

-- then the kinds decide
pub rename-kinds : (s : Space) (p q : List (List ℕ)) (from child to : ℕ) → IsAt s p from child → HasDirectory s q to
    → IsElsewhere s q to child
    → first (rename_rows s p q) ≡ first (rename_kind_rows s p q)
unfolding rename_rows
rename-kinds s p q from child to old new elsewhere =
    let a = old.directory.below in
    let b = new.below in
    let c = old.directory.short in
    let d = new.short in
    let leads = old.directory.leads in
    let leads_new = new.leads in
    let exists = (stands-at s p from child old).exists in
    let other = apart-at s p q from child to old elsewhere in
    rw (a, b, c, d, leads, exists, leads_new, other) (or_none (first (rename_kind_rows s p q)))

-- a directory does not go below itself
pub kinds-below : (s : Space) (p q : List (List ℕ)) (from child : ℕ) → IsAt s p from child → s.directory child ≡ true
    → is_below q p ≡ true
    → first (rename_kind_rows s p q) ≡ Some (answer (Reply.Error Errno.EINVAL))
unfolding rename_kind_rows
kinds-below s p q from child old directory below =
    let is = (stands-at s p from child old).directory ∙ directory in
    rw (is, below) refl

-- nor over a file, nor over a directory with entries
pub kinds-over_file : (s : Space) (p q : List (List ℕ)) (from child to target : ℕ) → IsAt s p from child
    → s.directory child ≡ true → is_below q p ≡ false
    → IsAt s q to target → s.directory target ≡ false
    → first (rename_kind_rows s p q) ≡ Some (answer (Reply.Error Errno.ENOTDIR))
unfolding rename_kind_rows
kinds-over_file s p q from child to target old directory below new file =
    let is = (stands-at s p from child old).directory ∙ directory in
    let over = (stands-at s q to target new).file ∙ ap not file in
    rw (is, below, over) refl

pub kinds-over_full : (s : Space) (p q : List (List ℕ)) (from child to target : ℕ) → IsAt s p from child
    → s.directory child ≡ true → is_below q p ≡ false
    → IsAt s q to target → s.directory target ≡ true → has_entries s.entries target ≡ true
    → first (rename_kind_rows s p q) ≡ Some (answer (Reply.Error Errno.ENOTEMPTY))
unfolding rename_kind_rows
kinds-over_full s p q from child to target old directory below new its_kind full =
    let is = (stands-at s p from child old).directory ∙ directory in
    let over = (stands-at s q to target new).file ∙ ap not its_kind in
    let stands = (stands-at s q to target new).directory ∙ its_kind in
    let entries = ap (has_entries s.entries) (stands-at s q to target new).number ∙ full in
    rw (is, below, over, stands, entries) refl

-- a file does not go over a directory
pub kinds-over_directory : (s : Space) (p q : List (List ℕ)) (from child to target : ℕ) → IsAt s p from child
    → s.directory child ≡ false
    → IsAt s q to target → s.directory target ≡ true
    → first (rename_kind_rows s p q) ≡ Some (answer (Reply.Error Errno.EISDIR))
unfolding rename_kind_rows
kinds-over_directory s p q from child to target old plain new directory =
    let is = (stands-at s p from child old).directory ∙ plain in
    let file = (stands-at s p from child old).file ∙ ap not plain in
    let stands = (stands-at s q to target new).directory ∙ directory in
    rw (is, file, stands) refl

-- what the rows by kinds say of q, where the child may replace what stands there
none-file : (s : Space) (q : List (List ℕ)) (to child : ℕ) → s.directory child ≡ true → MayLand s q to child
    → file_stands s q ≡ false
none-file s q to child directory (inl new) =
    ap (λ o. option_map_or (λ node. not (s.directory node)) o false) (node_at-path s q to new.directory ∙ new.is_new)
none-file s q to child directory (inr other) =
    (stands-at s q to other.0 other.1).file ∙ ap not (other.2.same ∙ directory)

none-full : (s : Space) (q : List (List ℕ)) (to child : ℕ) → s.directory child ≡ true → MayLand s q to child
    → (directory_stands s q && has_entries s.entries (number_at s q)) ≡ false
none-full s q to child directory (inl new) =
    and_left (directory_stands s q) (has_entries s.entries (number_at s q))
    (ap (λ o. option_map_or s.directory o false) (node_at-path s q to new.directory ∙ new.is_new))
none-full s q to child directory (inr other) =
    and_right (directory_stands s q) (has_entries s.entries (number_at s q))
    (ap (has_entries s.entries) (stands-at s q to other.0 other.1).number ∙ other.2.empty directory)

none-directory : (s : Space) (q : List (List ℕ)) (to child : ℕ) → s.directory child ≡ false → MayLand s q to child
    → directory_stands s q ≡ false
none-directory s q to child plain (inl new) =
    ap (λ o. option_map_or s.directory o false) (node_at-path s q to new.directory ∙ new.is_new)
none-directory s q to child plain (inr other) = (stands-at s q to other.0 other.1).directory ∙ (other.2.same ∙ plain)

too_deep : (n m : ℕ) → n < m → nat_lt n m ≡ true
too_deep n m h = grind (arith, nat_tests)

not_too_deep : (n m : ℕ) → m ≤ n → nat_lt n m ≡ false
not_too_deep n m h = grind (arith, nat_tests)

-- nothing below the directory gets more than 16 names
pub kinds-deep : (s : Space) (p q : List (List ℕ)) (from child to : ℕ) → IsAt s p from child → s.directory child ≡ true
    → is_below q p ≡ false
    → MayLand s q to child → longest_path < length q + height s.entries longest_path child
    → first (rename_kind_rows s p q) ≡ Some (answer (Reply.Error Errno.ENAMETOOLONG))
unfolding rename_kind_rows
kinds-deep s p q from child to old directory below lands deep =
    let is = (stands-at s p from child old).directory ∙ directory in
    let file = none-file s q to child directory lands in
    let full = none-full s q to child directory lands in
    let long : nat_lt longest_path (length q + height s.entries longest_path (number_at s p)) ≡ true =
    ap (λ n. nat_lt longest_path (length q + height s.entries longest_path n)) (stands-at s p from child old).number
    ∙ too_deep longest_path (length q + height s.entries longest_path child) deep
    in
    rw (is, below, file, full, long) refl

kinds-none : (s : Space) (p q : List (List ℕ)) (from child to : ℕ) → MayGo s p q from child to → (b : Bool)
    → s.directory child ≡ b
    → first (rename_kind_rows s p q) ≡ None
unfolding rename_kind_rows
kinds-none s p q from child to may true directory =
    let stands = stands-at s p from child may.old in
    let is = stands.directory ∙ directory in
    let no_file = stands.file ∙ ap not directory in
    let below = may.outside directory in
    let file = none-file s q to child directory may.lands in
    let full = none-full s q to child directory may.lands in
    let short : nat_lt longest_path (length q + height s.entries longest_path (number_at s p)) ≡ false =
    ap (λ n. nat_lt longest_path (length q + height s.entries longest_path n)) stands.number
    ∙ not_too_deep longest_path (length q + height s.entries longest_path child) (may.deep directory)
    in
    rw (is, below, file, full, short, no_file) refl
kinds-none s p q from child to may false plain =
    let stands = stands-at s p from child may.old in
    let is = stands.directory ∙ plain in
    let file = stands.file ∙ ap not plain in
    let over = none-directory s q to child plain may.lands in
    rw (is, file, over) refl

-- where the child may go no row fits
pub rename-none : (s : Space) (p q : List (List ℕ)) (from child to : ℕ) → MayGo s p q from child to
    → first (rename_rows s p q) ≡ None
rename-none s p q from child to may =
    rename-kinds s p q from child to may.old may.directory (elsewhere may.lands)
    ∙ kinds-none s p q from child to may (s.directory child) refl
  where
    elsewhere : MayLand s q to child → IsElsewhere s q to child
    elsewhere (inl new) = inl new
    elsewhere (inr other) = inr (other.0, other.1, other.2.apart)
