-- The entries of a state stay distinct: no two have one directory and one name, whatever calls are made.
use Rattle.std.specs.Prelude.{◌≡◌, ℕ, zero, suc, Bool, true, false, cond, List, [], ◌∷◌, find, insert, Option, Some, None, is_some, option_map, Result, Ok, Err, refl}
use Rattle.std.specs.Cmp.Lexicographic.{bytes_decides}
use Rattle.std.proofs.Common.{sym, ◌∙◌, subst, lit<}
use Rattle.std.proofs.lemmas.Bool.Decides.{Decides-eqb}
use Rattle.posix_spec.specs.posix_types.declared.call.Call.{Call}
use Rattle.posix_spec.specs.posix_types.declared.call.Who.{Who}
use Rattle.posix_spec.specs.posix_types.declared.item.Item.{Item}
use Rattle.posix_spec.specs.posix_types.declared.reply.Errno.{Errno}
use Rattle.posix_spec.specs.posix_types.declared.handle.Flags.{Flags}
use Rattle.posix_spec.specs.posix_types.declared.handle.Handle.{Handle}
use Rattle.posix_spec.specs.posix_tables.declared.nodes.Node.{Node}
use Rattle.posix_spec.specs.posix_tables.declared.nodes.DirEntry.{DirEntry}
use Rattle.posix_spec.specs.posix_tables.Lookups.{AreDistinct, child_of-without_entry-itself, entry_of, find-insert, none_mapped, without_first, without_place-position}
use Rattle.posix_spec.specs.posix_tables.Names.{child_of, exists_at, is_entry, is_root, last_name, node_at_path, number_at, parent_at, Space, walk, with_entry, without_entry}
use Rattle.posix_spec.specs.posix_tables.NameRows.{mkdir_rows, open_rows, walk_row}
use Rattle.posix_spec.specs.posix_tables.Outcomes.{first}
use Rattle.posix_spec.specs.posix_tables.Open.{closed}
use Rattle.posix_spec.specs.FileRows.{file_number}
use Rattle.posix_spec.specs.Run.{run}
use Rattle.posix_spec.specs.State.{alone, Instance, made, space, State, swept, unnamed, with_file, with_node, with_published}
use Rattle.posix_spec.specs.Step.{close_done, dup_done, empty_file, fsync_done, list_done, mkdir_done, open_done, opening, pread_done, pwrite_done, read_done, rename_done, renamed, rmdir_done, seek_done, stat_done, step, step_of, truncate_done, unlink_done, write_done, written}
use Rattle.posix_laws.specs.RowLaws.{no_row, none_fits, stepped-keeps}

-- an entry is that of its own directory and name
pub own_entry : (entry : DirEntry) (parent : ℕ) (name : List ℕ) → entry.parent ≡ parent → entry.name ≡ name → is_entry parent name entry ≡ true
own_entry entry parent name is_parent is_name =
    rw ((Decides-eqb entry.parent parent).1 is_parent, (bytes_decides entry.name name).1 is_name) refl

none_first : {X : Type 0} (b : Bool) (x : X) (o : Option X) → cond b (Some x) o ≡ None → (b ≡ false) × (o ≡ None)
none_first true x o none = cc
none_first false x o none = (refl, none)

-- a name that no entry of a longer list has, no entry of the shorter one has
nowhere_behind : (entry : DirEntry) (entries : List DirEntry) (parent : ℕ) (name : List ℕ) → child_of (entry ∷ entries) parent name ≡ None → (is_entry parent name entry ≡ false) × (find (is_entry parent name) entries ≡ None)
nowhere_behind entry entries parent name none = none_first (is_entry parent name entry) entry (find (is_entry parent name) entries) (none_mapped _ none)

none_of : (o : Option DirEntry) → o ≡ None → option_map (λ (e : DirEntry). e.child) o ≡ None
none_of o none = rw none refl

-- two entries of which one has not the name of the other
apart : (x y : DirEntry) → is_entry x.parent x.name y ≡ false → is_entry y.parent y.name x ≡ false
apart x y other = by (is_entry y.parent y.name x) refl where
  by : (b : Bool) → is_entry y.parent y.name x ≡ b → is_entry y.parent y.name x ≡ false
  by false is = is
  by true is =
      let same = entry_of y.parent y.name x is in
      let never : true ≡ false = sym (own_entry y x.parent x.name (sym same.0) (sym same.1)) ∙ other in
      cc

AreDistinct-insert : (entries : List DirEntry) (i : ℕ) (x : DirEntry) → AreDistinct entries → child_of entries x.parent x.name ≡ None → AreDistinct (insert entries i x)
AreDistinct-insert entries zero x distinct new = (new, distinct)
AreDistinct-insert [] (suc i) x distinct new = (refl, tt)
AreDistinct-insert (y ∷ ys) (suc i) x distinct new =
    let parts = nowhere_behind y ys x.parent x.name new in
    let other = apart x y parts.0 in
    let found = find-insert (is_entry y.parent y.name) ys i x (λ is. none_mapped _ distinct.0) in
    (none_of _ (found ∙ rw other (none_mapped _ distinct.0)), AreDistinct-insert ys i x distinct.1 (none_of _ parts.1))

-- with a new name they stay distinct
pub AreDistinct-with_entry : (entries : List DirEntry) (x : DirEntry) → AreDistinct entries → child_of entries x.parent x.name ≡ None → AreDistinct (with_entry entries x)
unfolding with_entry
AreDistinct-with_entry entries x distinct new = AreDistinct-insert entries _ x distinct new

still_none : {X : Type 0} (p q : X → Bool) (xs : List X) → find q xs ≡ None → find q (without_first p xs) ≡ None
still_none p q [] none = refl
still_none {X} p q (x ∷ xs) none =
    let parts = none_first (q x) x (find q xs) none in
    by (p x) parts (still_none p q xs parts.1) where
      by : (b : Bool) → (q x ≡ false) × (find q xs ≡ None) → find q (without_first p xs) ≡ None → find q (cond b xs (x ∷ without_first p xs)) ≡ None
      by true parts rest = parts.1
      by false parts rest = rw parts.0 rest

AreDistinct-without_first : (p : DirEntry → Bool) (entries : List DirEntry) → AreDistinct entries → AreDistinct (without_first p entries)
AreDistinct-without_first p [] distinct = tt
AreDistinct-without_first p (e ∷ es) distinct = by (p e) (AreDistinct-without_first p es distinct.1) where
  by : (b : Bool) → AreDistinct (without_first p es) → AreDistinct (cond b es (e ∷ without_first p es))
  by true rest = distinct.1
  by false rest = (none_of _ (still_none p (is_entry e.parent e.name) es (none_mapped _ distinct.0)), rest)

-- and without one
pub AreDistinct-without_entry : (entries : List DirEntry) (parent : ℕ) (name : List ℕ) → AreDistinct entries → AreDistinct (without_entry entries parent name)
unfolding without_entry
AreDistinct-without_entry entries parent name distinct =
    subst AreDistinct (sym (without_place-position (is_entry parent name) entries)) (AreDistinct-without_first (is_entry parent name) entries distinct)

-- Where the walk of a path leads to a directory and nothing stands at the path, its last name leads nowhere.
pub nothing_there : (names : Space) (p : List (List ℕ)) → walk_row names p ≡ None → exists_at names p ≡ false → child_of names.entries (parent_at names p) (last_name p) ≡ None
unfolding node_at_path
nothing_there names p walked missing = by (is_root p) (walk names p) refl refl where
  lost : (o : Option ℕ) → is_some o ≡ false → o ≡ None
  lost None is = refl
  lost (Some n) is = cc

  by : (root : Bool) (w : Result ℕ Errno) → is_root p ≡ root → walk names p ≡ w → child_of names.entries (parent_at names p) (last_name p) ≡ None
  by true w is led = let never : true ≡ false = rw is at missing in cc
  by false (Err errno) is led = let never = rw led at walked in cc
  by false (Ok directory) is led = rw led (lost _ (rw (is, led) at missing))

-- Calls.

abbrev Keeps : State → Type 0
Keeps s = AreDistinct s.entries

made_distinct : (s : State) (p : List (List ℕ)) (node : Node) → AreDistinct s.entries → walk_row (space s) p ≡ None → exists_at (space s) p ≡ false → AreDistinct (made s p node).entries
unfolding made
made_distinct s p node distinct walked missing = AreDistinct-with_entry s.entries _ distinct (nothing_there (space s) p walked missing)

unnamed_distinct : (s : State) (p : List (List ℕ)) → AreDistinct s.entries → AreDistinct (unnamed s p).entries
unfolding unnamed
unnamed_distinct s p distinct = AreDistinct-without_entry s.entries (parent_at (space s) p) (last_name p) distinct

swept_distinct : (i : Instance) (s : State) (n : ℕ) → AreDistinct s.entries → AreDistinct (swept i s n).entries
unfolding swept
swept_distinct i s n distinct = by _ where
  by : (b : Bool) → AreDistinct (cond b s (with_node s n Node.Gone)).entries
  by true = distinct
  by false = distinct

mkdir_distinct : (s : State) (p : List (List ℕ)) → AreDistinct s.entries → first (mkdir_rows (space s) p) ≡ None → AreDistinct (mkdir_done s p).state.entries
unfolding mkdir_rows mkdir_done
mkdir_distinct s p distinct none =
    let each = none_fits (mkdir_rows (space s) p) none in
    made_distinct s p Node.Directory distinct (each 2 None (lit< tt)) (no_row _ _ (each 3 None (lit< tt)))

rmdir_distinct : (s : State) (p : List (List ℕ)) → AreDistinct s.entries → AreDistinct (rmdir_done s p).state.entries
unfolding rmdir_done
rmdir_distinct s p distinct = unnamed_distinct s p distinct

unlink_distinct : (i : Instance) (s : State) (p : List (List ℕ)) → AreDistinct s.entries → AreDistinct (unlink_done i s p).state.entries
unfolding unlink_done
unlink_distinct i s p distinct = swept_distinct i (unnamed s p) _ (unnamed_distinct s p distinct)

renamed_distinct : (s : State) (p q : List (List ℕ)) → AreDistinct s.entries → AreDistinct (renamed s p q).entries
unfolding renamed
renamed_distinct s p q distinct =
    let left = unnamed_distinct s p distinct in
    let parent = parent_at (space s) q in
    AreDistinct-with_entry _ _ (AreDistinct-without_entry (unnamed s p).entries parent (last_name q) left)
    (child_of-without_entry-itself (unnamed s p).entries parent (last_name q) left)

rename_distinct : (i : Instance) (s : State) (p q : List (List ℕ)) → AreDistinct s.entries → AreDistinct (rename_done i s p q).state.entries
unfolding rename_done
rename_distinct i s p q distinct = by _ _ where
  by : (b c : Bool) → AreDistinct (cond b (with_node (renamed s p q) (number_at (space s) q) Node.Gone) (cond c (swept i (renamed s p q) (number_at (space s) q)) (renamed s p q))).entries
  by true c = renamed_distinct s p q distinct
  by false true = swept_distinct i (renamed s p q) (number_at (space s) q) (renamed_distinct s p q distinct)
  by false false = renamed_distinct s p q distinct

opening_distinct : (s : State) (p : List (List ℕ)) (truncate : Bool) → AreDistinct s.entries → walk_row (space s) p ≡ None → AreDistinct (opening s p truncate).entries
unfolding opening
opening_distinct s p truncate distinct walked = by (exists_at (space s) p) refl truncate where
  by : (b : Bool) → exists_at (space s) p ≡ b → (cut : Bool) → AreDistinct (cond b (cond cut (with_node s (number_at (space s) p) empty_file) s) (made s p empty_file)).entries
  by true is true = distinct
  by true is false = distinct
  by false is cut = made_distinct s p empty_file distinct walked is

open_distinct : (s : State) (full busy : Bool) (who : Who) (h : Handle) (p : List (List ℕ)) (f : Flags) → AreDistinct s.entries → first (open_rows (space s) full busy p f) ≡ None → AreDistinct (open_done s who h p f).state.entries
unfolding open_rows open_done
open_distinct s full busy who h p f distinct none =
    let each = none_fits (open_rows (space s) full busy p f) none in
    opening_distinct s p f.truncate distinct (each 1 None (lit< tt))

close_distinct : (i : Instance) (s : State) (who : Who) (h : Handle) → AreDistinct s.entries → AreDistinct (close_done i s who h).state.entries
unfolding close_done with_published
close_distinct i s who h distinct =
    let file : ℕ = file_number s.tables who h in
    let left : State = record (with_published s file) { tables = closed s.tables who h } in
    swept_distinct i left file distinct

-- Whatever call an instance makes, the entries of the state stay distinct.
pub AreDistinct-step_of : (i : Instance) (s : State) (who : Who) (call : Call) → AreDistinct s.entries → AreDistinct (step_of i s who call).state.entries
unfolding dup_done read_done pread_done write_done pwrite_done written with_file with_published seek_done truncate_done fsync_done stat_done list_done
AreDistinct-step_of i s who (Call.Mkdir p) distinct = stepped-keeps Keeps s _ _ distinct (mkdir_distinct s p distinct)
AreDistinct-step_of i s who (Call.Rmdir p) distinct = stepped-keeps Keeps s _ _ distinct (λ none. rmdir_distinct s p distinct)
AreDistinct-step_of i s who (Call.Unlink p) distinct = stepped-keeps Keeps s _ _ distinct (λ none. unlink_distinct i s p distinct)
AreDistinct-step_of i s who (Call.Rename p q) distinct = stepped-keeps Keeps s _ _ distinct (λ none. rename_distinct i s p q distinct)
AreDistinct-step_of i s who (Call.Open h p f) distinct = stepped-keeps Keeps s _ _ distinct (open_distinct s _ _ who h p f distinct)
AreDistinct-step_of i s who (Call.Close h) distinct = stepped-keeps Keeps s _ _ distinct (λ none. close_distinct i s who h distinct)
AreDistinct-step_of i s who (Call.Dup h g) distinct = stepped-keeps Keeps s _ _ distinct (λ none. distinct)
AreDistinct-step_of i s who (Call.Read h n) distinct = stepped-keeps Keeps s _ _ distinct (λ none. distinct)
AreDistinct-step_of i s who (Call.Pread h o n) distinct = stepped-keeps Keeps s _ _ distinct (λ none. distinct)
AreDistinct-step_of i s who (Call.Write h x) distinct = stepped-keeps Keeps s _ _ distinct (λ none. distinct)
AreDistinct-step_of i s who (Call.Pwrite h o x) distinct = stepped-keeps Keeps s _ _ distinct (λ none. distinct)
AreDistinct-step_of i s who (Call.Seek h w by) distinct = stepped-keeps Keeps s _ _ distinct (λ none. distinct)
AreDistinct-step_of i s who (Call.Truncate h n) distinct = stepped-keeps Keeps s _ _ distinct (λ none. distinct)
AreDistinct-step_of i s who (Call.Fsync h) distinct = stepped-keeps Keeps s _ _ distinct (λ none. distinct)
AreDistinct-step_of i s who (Call.Stat p) distinct = stepped-keeps Keeps s _ _ distinct (λ none. distinct)
AreDistinct-step_of i s who (Call.List p) distinct = stepped-keeps Keeps s _ _ distinct (λ none. distinct)

-- and so over a history
pub AreDistinct-run : (s : State) (history : List Item) → AreDistinct s.entries → AreDistinct (run s history).entries
AreDistinct-run s [] distinct = distinct
AreDistinct-run s (item ∷ items) distinct = AreDistinct-run (step s item.who item.call).state items (AreDistinct-step_of alone s item.who item.call distinct)
