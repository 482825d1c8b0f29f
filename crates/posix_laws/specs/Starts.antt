-- The entries of the state that a tree begins as stand in order, where they are distinct.
use Rattle.std.specs.Prelude.{◌≡◌, ◌≢◌, Bool, true, false, cond, fold, List, [], ◌∷◌, find, Some, None, option_map, refl}
use Rattle.std.proofs.Common.{ap, sym, ◌∙◌, subst, inl, inr}
use Rattle.std.proofs.Math.Path.{fun_ext}
use Rattle.list_laws.specs.Members.{find-none, In}
use Rattle.posix_spec.specs.posix_types.declared.call.Mode.{Mode}
use Rattle.posix_spec.specs.posix_types.declared.reply.Shape.{Shape}
use Rattle.posix_spec.specs.posix_types.declared.tree.TreeEntry.{TreeEntry}
use Rattle.posix_spec.specs.posix_tables.declared.nodes.DirEntry.{DirEntry}
use Rattle.posix_spec.specs.posix_tables.Lookups.{AreDistinct}
use Rattle.posix_spec.specs.posix_tables.Names.{child_of, comes_before, is_entry, is_root, with_entry}
use Rattle.posix_spec.specs.posix_tables.Places.{node_of}
use Rattle.posix_laws.specs.DistinctLaws.{own_entry}
use Rattle.posix_spec.specs.State.{made, State}
use Rattle.posix_spec.specs.Tree.{bare, planted, start}
use Rattle.posix_laws.specs.Order.{insert-position, put_in, Rising-put_in, RisingBy}
use Rattle.posix_laws.specs.Orders.{entry_text, no_entry, same_test}

-- a test that nothing of the longer list passes
find_put : (p q : DirEntry → Bool) (x : DirEntry) (xs : List DirEntry) → find q (put_in p x xs) ≡ None → (q x ≡ false) × (find q xs ≡ None)
find_put p q x [] none = by (q x) refl none where
  by : (b : Bool) → q x ≡ b → cond b (Some x) None ≡ None → (q x ≡ false) × (find q [] ≡ None)
  by true is never = cc
  by false is never = (is, refl)
find_put p q x (y ∷ ys) none = by (p y) none (find_put p q x ys) where
  front : (b c : Bool) → q x ≡ b → q y ≡ c → cond b (Some x) (cond c (Some y) (find q ys)) ≡ None → (q x ≡ false) × (cond c (Some y) (find q ys) ≡ None)
  front true c is at never = cc
  front false c is at rest = (is, rest)

  behind : (c : Bool) → cond c (Some y) (find q (put_in p x ys)) ≡ None → (find q (put_in p x ys) ≡ None → (q x ≡ false) × (find q ys ≡ None)) → (q x ≡ false) × (cond c (Some y) (find q ys) ≡ None)
  behind true never rest = cc
  behind false is rest = rest is

  by : (b : Bool) → find q (cond b (x ∷ y ∷ ys) (y ∷ put_in p x ys)) ≡ None → (find q (put_in p x ys) ≡ None → (q x ≡ false) × (find q ys ≡ None)) → (q x ≡ false) × (find q (y ∷ ys) ≡ None)
  by true is rest = front (q x) (q y) refl refl is
  by false is rest = behind (q y) is rest

nothing : (entries : List DirEntry) (x z : DirEntry) → child_of entries x.parent x.name ≡ None → In z entries → entry_text z ≢ entry_text x
nothing entries x z none there same =
    let parent : z.parent ≡ x.parent = cc in
    let name : z.name ≡ x.name = cc in
    find-none (is_entry x.parent x.name) entries z (no_entry (find (is_entry x.parent x.name) entries) none) there (own_entry z x.parent x.name parent name)

-- entries that are distinct with one more: they are without it, and none has its name
record IsNewTo (x : DirEntry) (xs : List DirEntry) : Type 0 where
  distinct : AreDistinct xs
  new : (z : DirEntry) → In z xs → entry_text z ≢ entry_text x

distinct_put : (p : DirEntry → Bool) (x : DirEntry) (xs : List DirEntry) → AreDistinct (put_in p x xs) → IsNewTo x xs
distinct_put p x [] distinct = record { distinct = tt; new = λ z is. absurd is }
distinct_put p x (y ∷ ys) distinct = by (p y) distinct (distinct_put p x ys) where
  by : (b : Bool) → AreDistinct (cond b (x ∷ y ∷ ys) (y ∷ put_in p x ys)) → (AreDistinct (put_in p x ys) → IsNewTo x ys) → IsNewTo x (y ∷ ys)
  by true d rest = record { distinct = d.1; new = λ z there. nothing (y ∷ ys) x z d.0 there }
  by false d rest =
      let inner = rest d.1 in
      let found = find_put p (is_entry y.parent y.name) x ys (no_entry (find (is_entry y.parent y.name) (put_in p x ys)) d.0) in
      record {
        distinct = (ap (option_map (λ (e : DirEntry). e.child)) found.1, inner.distinct);
        new = λ z there. each z there found.0 inner.new;
      }
    where
      each : (z : DirEntry) → In z (y ∷ ys) → is_entry y.parent y.name x ≡ false → ((w : DirEntry) → In w ys → entry_text w ≢ entry_text x) → entry_text z ≢ entry_text x
      each z (inl is) other rest_new same =
          let texts : entry_text y ≡ entry_text x = ap entry_text is ∙ same in
          let parent : x.parent ≡ y.parent = cc in
          let name : x.name ≡ y.name = cc in
          let never : true ≡ false = sym (own_entry x y.parent y.name parent name) ∙ other in
          cc
      each z (inr behind) other rest_new same = rest_new z behind same

as_put : (entries : List DirEntry) (x : DirEntry) → with_entry entries x ≡ put_in (comes_before x) x entries
unfolding with_entry
as_put entries x = insert-position (comes_before x) x entries

new_to : (entries : List DirEntry) (x : DirEntry) → AreDistinct (with_entry entries x) → IsNewTo x entries
new_to entries x distinct = distinct_put (comes_before x) x entries (subst AreDistinct (as_put entries x) distinct)

rising_with : (entries : List DirEntry) (x : DirEntry) → AreDistinct (with_entry entries x) → RisingBy entry_text entries → RisingBy entry_text (with_entry entries x)
rising_with entries x distinct rising =
    subst (RisingBy entry_text) (sym (as_put entries x ∙ ap (λ p. put_in p x entries) (fun_ext (λ z. same_test x z)))) (Rising-put_in entry_text x entries rising (new_to entries x distinct).new)

-- ---- the entries of a tree

planted_back : (s : State) (e : TreeEntry) → AreDistinct (planted s e).entries → AreDistinct s.entries
unfolding made
planted_back s e = by (is_root e.path) where
  by : (b : Bool) → AreDistinct (cond b s (made s e.path (node_of e.node))).entries → AreDistinct s.entries
  by true distinct = distinct
  by false distinct = (new_to s.entries _ distinct).distinct

planted_rising : (s : State) (e : TreeEntry) → AreDistinct (planted s e).entries → RisingBy entry_text s.entries → RisingBy entry_text (planted s e).entries
unfolding made
planted_rising s e = by (is_root e.path) where
  by : (b : Bool) → AreDistinct (cond b s (made s e.path (node_of e.node))).entries → RisingBy entry_text s.entries → RisingBy entry_text (cond b s (made s e.path (node_of e.node))).entries
  by true distinct rising = rising
  by false distinct rising = rising_with s.entries _ distinct rising

fold_back : (s : State) (es : List TreeEntry) → AreDistinct (fold planted s es).entries → AreDistinct s.entries
fold_back s [] distinct = distinct
fold_back s (e ∷ es) distinct = planted_back s e (fold_back (planted s e) es distinct)

fold_rising : (s : State) (es : List TreeEntry) → AreDistinct (fold planted s es).entries → RisingBy entry_text s.entries → RisingBy entry_text (fold planted s es).entries
fold_rising s [] distinct rising = rising
fold_rising s (e ∷ es) distinct rising = fold_rising (planted s e) es distinct (planted_rising s e (fold_back (planted s e) es distinct) rising)

pub start-rising : (t : List TreeEntry) (shape : Shape) (mode : Mode) → AreDistinct (start t shape mode).entries → RisingBy entry_text (start t shape mode).entries
start-rising t shape mode distinct = fold_rising (bare shape mode) t distinct tt
