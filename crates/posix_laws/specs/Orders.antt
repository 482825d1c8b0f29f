-- The entries of a state stand in one order, whatever calls are made: by their directories' numbers, and then by the bytes of their names.
use Rattle.std.specs.Prelude.{◌≡◌, ◌≢◌, ◌||◌, ◌&&◌, ◌==◌, ℕ, nat_lt, Bool, true, false, cond, List, [], ◌∷◌, find, Option, Some, None, option_map, refl}
use Rattle.std.specs.Cmp.Lexicographic.{slice_cmp}
use Rattle.std.specs.Ordering.{is_lt, nat_cmp, ordering_then}
use Rattle.std.specs.declared.cmp.Ordering.{Ordering}
use Rattle.std.specs.declared.cmp.Ordering.TheVariants.{Less, Equal, Greater}
use Rattle.std.proofs.Common.{ap, sym, ◌∙◌, subst, lit<, inl, inr}
use Rattle.std.proofs.Math.Path.{fun_ext}
use Rattle.list_laws.specs.Members.{find-none, In}
use Rattle.posix_spec.specs.posix_types.declared.call.Call.{Call}
use Rattle.posix_spec.specs.posix_types.declared.call.Who.{Who}
use Rattle.posix_spec.specs.posix_types.declared.item.Item.{Item}
use Rattle.posix_spec.specs.posix_types.declared.handle.Flags.{Flags}
use Rattle.posix_spec.specs.posix_types.declared.handle.Handle.{Handle}
use Rattle.posix_spec.specs.posix_tables.declared.nodes.Node.{Node}
use Rattle.posix_spec.specs.posix_tables.declared.nodes.DirEntry.{DirEntry}
use Rattle.posix_spec.specs.posix_tables.Lookups.{AreDistinct, child_of-without_entry-itself, without_first, without_place-position}
use Rattle.posix_spec.specs.posix_tables.Names.{bytes_before, child_of, comes_before, exists_at, is_entry, last_name, number_at, parent_at, with_entry, without_entry}
use Rattle.posix_spec.specs.posix_tables.NameRows.{mkdir_rows, open_rows, walk_row}
use Rattle.posix_spec.specs.posix_tables.Outcomes.{first}
use Rattle.posix_spec.specs.posix_tables.Open.{closed}
use Rattle.posix_spec.specs.FileRows.{file_number}
use Rattle.posix_spec.specs.Run.{run}
use Rattle.posix_spec.specs.State.{alone, Instance, made, space, State, swept, unnamed, with_file, with_node, with_published}
use Rattle.posix_spec.specs.Step.{close_done, dup_done, empty_file, fsync_done, list_done, mkdir_done, open_done, opening, pread_done, pwrite_done, read_done, rename_done, renamed, rmdir_done, seek_done, stat_done, step, step_of, truncate_done, unlink_done, write_done, written}
use Rattle.posix_laws.specs.DistinctLaws.{AreDistinct-with_entry, AreDistinct-without_entry, nothing_there, own_entry}
use Rattle.posix_laws.specs.RowLaws.{no_row, none_fits, stepped-keeps}
use Rattle.posix_laws.specs.Order.{insert-position, put_in, Rising-put_in, RisingBy}

-- the directory's number, and then the name, as one text
abbrev pub entry_text : DirEntry → List ℕ
entry_text e = e.parent ∷ e.name

-- ENTRIES IN ORDER: no two of one directory and one name, and each before those behind it.
abbrev pub AreOrdered : List DirEntry → Type 0
AreOrdered entries = AreDistinct entries × RisingBy entry_text entries

-- an entry comes before another where its text does
pub same_test : (a b : DirEntry) → comes_before a b ≡ bytes_before (entry_text a) (entry_text b)
same_test a b = by (nat_lt a.parent b.parent) (a.parent == b.parent) (slice_cmp nat_cmp a.name b.name) where
  by : (less same : Bool) (r : Ordering) → (less || (same && is_lt r)) ≡ is_lt (ordering_then (cond less Less (cond same Equal Greater)) r)
  by true same r = refl
  by false true r = refl
  by false false r = refl

pub no_entry : (o : Option DirEntry) → option_map (λ (e : DirEntry). e.child) o ≡ None → o ≡ None
no_entry None is = refl
no_entry (Some e) is = cc

pub AreOrdered-with_entry : (entries : List DirEntry) (x : DirEntry) → AreOrdered entries → child_of entries x.parent x.name ≡ None → AreOrdered (with_entry entries x)
unfolding with_entry
AreOrdered-with_entry entries x ordered none = (
  AreDistinct-with_entry entries x ordered.0 none,
  subst (RisingBy entry_text) (sym (insert-position (comes_before x) x entries ∙ ap (λ p. put_in p x entries) (fun_ext (λ z. same_test x z)))) (Rising-put_in entry_text x entries ordered.1 new),
) where
  new : (z : DirEntry) → In z entries → entry_text z ≢ entry_text x
  new z there same =
      let parent : z.parent ≡ x.parent = cc in
      let name : z.name ≡ x.name = cc in
      find-none (is_entry x.parent x.name) entries z (no_entry (find (is_entry x.parent x.name) entries) none) there (own_entry z x.parent x.name parent name)

In-without_first : {X : Type 0} (p : X → Bool) (xs : List X) (z : X) → In z (without_first p xs) → In z xs
In-without_first p [] z is = is
In-without_first p (x ∷ xs) z is = by (p x) is (In-without_first p xs z) where
  by : (b : Bool) → In z (cond b xs (x ∷ without_first p xs)) → (In z (without_first p xs) → In z xs) → In z (x ∷ xs)
  by true there rest = inr there
  by false (inl same) rest = inl same
  by false (inr behind) rest = inr (rest behind)

Rising-without_first : {X : Type 0} (t : X → List ℕ) (p : X → Bool) (xs : List X) → RisingBy t xs → RisingBy t (without_first p xs)
Rising-without_first t p [] rising = tt
Rising-without_first {X} t p (x ∷ xs) rising = by (p x) (Rising-without_first t p xs rising.1) where
  by : (b : Bool) → RisingBy t (without_first p xs) → RisingBy t (cond b xs (x ∷ without_first p xs))
  by true rest = rising.1
  by false rest = (λ z there. rising.0 z (In-without_first p xs z there), rest)

pub AreOrdered-without_entry : (entries : List DirEntry) (parent : ℕ) (name : List ℕ) → AreOrdered entries → AreOrdered (without_entry entries parent name)
unfolding without_entry
AreOrdered-without_entry entries parent name ordered = (
  AreDistinct-without_entry entries parent name ordered.0,
  subst (RisingBy entry_text) (sym (without_place-position (is_entry parent name) entries)) (Rising-without_first entry_text (is_entry parent name) entries ordered.1),
)

-- Calls.

abbrev Keeps : State → Type 0
Keeps s = AreOrdered s.entries

made_ordered : (s : State) (p : List (List ℕ)) (node : Node) → AreOrdered s.entries → walk_row (space s) p ≡ None → exists_at (space s) p ≡ false → AreOrdered (made s p node).entries
unfolding made
made_ordered s p node ordered walked missing = AreOrdered-with_entry s.entries _ ordered (nothing_there (space s) p walked missing)

pub unnamed_ordered : (s : State) (p : List (List ℕ)) → AreOrdered s.entries → AreOrdered (unnamed s p).entries
unfolding unnamed
unnamed_ordered s p ordered = AreOrdered-without_entry s.entries (parent_at (space s) p) (last_name p) ordered

swept_ordered : (i : Instance) (s : State) (n : ℕ) → AreOrdered s.entries → AreOrdered (swept i s n).entries
unfolding swept
swept_ordered i s n ordered = by _ where
  by : (b : Bool) → AreOrdered (cond b s (with_node s n Node.Gone)).entries
  by true = ordered
  by false = ordered

mkdir_ordered : (s : State) (p : List (List ℕ)) → AreOrdered s.entries → first (mkdir_rows (space s) p) ≡ None → AreOrdered (mkdir_done s p).state.entries
unfolding mkdir_rows mkdir_done
mkdir_ordered s p ordered none =
    let each = none_fits (mkdir_rows (space s) p) none in
    made_ordered s p Node.Directory ordered (each 2 None (lit< tt)) (no_row _ _ (each 3 None (lit< tt)))

rmdir_ordered : (s : State) (p : List (List ℕ)) → AreOrdered s.entries → AreOrdered (rmdir_done s p).state.entries
unfolding rmdir_done
rmdir_ordered s p ordered = unnamed_ordered s p ordered

unlink_ordered : (i : Instance) (s : State) (p : List (List ℕ)) → AreOrdered s.entries → AreOrdered (unlink_done i s p).state.entries
unfolding unlink_done
unlink_ordered i s p ordered = swept_ordered i (unnamed s p) _ (unnamed_ordered s p ordered)

pub renamed_ordered : (s : State) (p q : List (List ℕ)) → AreOrdered s.entries → AreOrdered (renamed s p q).entries
unfolding renamed
renamed_ordered s p q ordered =
    let left = unnamed_ordered s p ordered in
    let parent = parent_at (space s) q in
    AreOrdered-with_entry _ _ (AreOrdered-without_entry (unnamed s p).entries parent (last_name q) left)
    (child_of-without_entry-itself (unnamed s p).entries parent (last_name q) left.0)

rename_ordered : (i : Instance) (s : State) (p q : List (List ℕ)) → AreOrdered s.entries → AreOrdered (rename_done i s p q).state.entries
unfolding rename_done
rename_ordered i s p q ordered = by _ _ where
  by : (b c : Bool) → AreOrdered (cond b (with_node (renamed s p q) (number_at (space s) q) Node.Gone) (cond c (swept i (renamed s p q) (number_at (space s) q)) (renamed s p q))).entries
  by true c = renamed_ordered s p q ordered
  by false true = swept_ordered i (renamed s p q) (number_at (space s) q) (renamed_ordered s p q ordered)
  by false false = renamed_ordered s p q ordered

opening_ordered : (s : State) (p : List (List ℕ)) (truncate : Bool) → AreOrdered s.entries → walk_row (space s) p ≡ None → AreOrdered (opening s p truncate).entries
unfolding opening
opening_ordered s p truncate ordered walked = by (exists_at (space s) p) refl truncate where
  by : (b : Bool) → exists_at (space s) p ≡ b → (cut : Bool) → AreOrdered (cond b (cond cut (with_node s (number_at (space s) p) empty_file) s) (made s p empty_file)).entries
  by true is true = ordered
  by true is false = ordered
  by false is cut = made_ordered s p empty_file ordered walked is

open_ordered : (s : State) (full busy : Bool) (who : Who) (h : Handle) (p : List (List ℕ)) (f : Flags) → AreOrdered s.entries → first (open_rows (space s) full busy p f) ≡ None → AreOrdered (open_done s who h p f).state.entries
unfolding open_rows open_done
open_ordered s full busy who h p f ordered none =
    let each = none_fits (open_rows (space s) full busy p f) none in
    opening_ordered s p f.truncate ordered (each 1 None (lit< tt))

close_ordered : (i : Instance) (s : State) (who : Who) (h : Handle) → AreOrdered s.entries → AreOrdered (close_done i s who h).state.entries
unfolding close_done with_published
close_ordered i s who h ordered =
    let file : ℕ = file_number s.tables who h in
    let left : State = record (with_published s file) { tables = closed s.tables who h } in
    swept_ordered i left file ordered

-- Whatever call an instance makes, the entries of the state stay in order.
pub AreOrdered-step_of : (i : Instance) (s : State) (who : Who) (call : Call) → AreOrdered s.entries → AreOrdered (step_of i s who call).state.entries
unfolding dup_done read_done pread_done write_done pwrite_done written with_file with_published seek_done truncate_done fsync_done stat_done list_done
AreOrdered-step_of i s who (Call.Mkdir p) ordered = stepped-keeps Keeps s _ _ ordered (mkdir_ordered s p ordered)
AreOrdered-step_of i s who (Call.Rmdir p) ordered = stepped-keeps Keeps s _ _ ordered (λ none. rmdir_ordered s p ordered)
AreOrdered-step_of i s who (Call.Unlink p) ordered = stepped-keeps Keeps s _ _ ordered (λ none. unlink_ordered i s p ordered)
AreOrdered-step_of i s who (Call.Rename p q) ordered = stepped-keeps Keeps s _ _ ordered (λ none. rename_ordered i s p q ordered)
AreOrdered-step_of i s who (Call.Open h p f) ordered = stepped-keeps Keeps s _ _ ordered (open_ordered s _ _ who h p f ordered)
AreOrdered-step_of i s who (Call.Close h) ordered = stepped-keeps Keeps s _ _ ordered (λ none. close_ordered i s who h ordered)
AreOrdered-step_of i s who (Call.Dup h g) ordered = stepped-keeps Keeps s _ _ ordered (λ none. ordered)
AreOrdered-step_of i s who (Call.Read h n) ordered = stepped-keeps Keeps s _ _ ordered (λ none. ordered)
AreOrdered-step_of i s who (Call.Pread h o n) ordered = stepped-keeps Keeps s _ _ ordered (λ none. ordered)
AreOrdered-step_of i s who (Call.Write h x) ordered = stepped-keeps Keeps s _ _ ordered (λ none. ordered)
AreOrdered-step_of i s who (Call.Pwrite h o x) ordered = stepped-keeps Keeps s _ _ ordered (λ none. ordered)
AreOrdered-step_of i s who (Call.Seek h w by) ordered = stepped-keeps Keeps s _ _ ordered (λ none. ordered)
AreOrdered-step_of i s who (Call.Truncate h n) ordered = stepped-keeps Keeps s _ _ ordered (λ none. ordered)
AreOrdered-step_of i s who (Call.Fsync h) ordered = stepped-keeps Keeps s _ _ ordered (λ none. ordered)
AreOrdered-step_of i s who (Call.Stat p) ordered = stepped-keeps Keeps s _ _ ordered (λ none. ordered)
AreOrdered-step_of i s who (Call.List p) ordered = stepped-keeps Keeps s _ _ ordered (λ none. ordered)

-- and so over a history
pub AreOrdered-run : (s : State) (history : List Item) → AreOrdered s.entries → AreOrdered (run s history).entries
AreOrdered-run s [] ordered = ordered
AreOrdered-run s (item ∷ items) ordered = AreOrdered-run (step s item.who item.call).state items (AreOrdered-step_of alone s item.who item.call ordered)
