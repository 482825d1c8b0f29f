-- Which nodes are open, after each change of the tables.
use Rattle.std.specs.Prelude.{◌≡◌, ◌≢◌, ◌⊎◌, ℕ, zero, suc, ◌==◌, ◌||◌, Bool, true, false, cond, List, [], ◌∷◌, position, Option, Some, None, option_and_then, slice_get, slice_set, unwrap_or, refl}
use Rattle.std.specs.List.{list_any}
use Rattle.std.specs.Option.{option_flatten}
use Rattle.std.proofs.Common.{ap, ◌∙◌, sym, inl, inr}
use Rattle.std.proofs.lemmas.Bool.Decides.{Decides-eqb}
use Rattle.std.proofs.lemmas.List.Folds.{list_any-append}
use Rattle.posix_spec.specs.posix_types.declared.call.Who.{Who}
use Rattle.posix_spec.specs.posix_types.declared.handle.Handle.{Handle}
use Rattle.posix_spec.specs.posix_tables.declared.open.Binding.{Binding}
use Rattle.posix_spec.specs.posix_tables.declared.open.Description.{Description}
use Rattle.posix_spec.specs.posix_tables.Names.{without_place}
use Rattle.posix_spec.specs.posix_tables.Open.{binding_of, closed, description_number, describes, has_key, is_binding, is_open, key_of, opened, Tables, with_descriptor, with_offset, with_opened, without_binding, without_unused}

-- ---- tests of lists

pub or_left : (a b : Bool) → a ≡ true → (a || b) ≡ true
or_left true b is = refl
or_left false b is = cc

pub or_right : (a b : Bool) → b ≡ true → (a || b) ≡ true
or_right true b is = refl
or_right false b is = is

pub or_split : (a b : Bool) → (a || b) ≡ true → (a ≡ true) ⊎ (b ≡ true)
or_split true b is = inl refl
or_split false b is = inr is

or_false : (b : Bool) → (b || false) ≡ b
or_false true = refl
or_false false = refl

-- an element in the place of another of which the test says the same
any_set-same : {X : Type 0} (p : X → Bool) (xs : List X) (k : ℕ) (x y : X) → slice_get xs k ≡ Some x → p y ≡ p x → list_any p (slice_set xs k y) ≡ list_any p xs
any_set-same p [] k x y is same = cc
any_set-same {X} p (z ∷ zs) zero x y is same =
    let one : z ≡ x = cc in
    ap (λ (b : Bool). b || list_any p zs) (same ∙ sym (ap p one))
any_set-same p (z ∷ zs) (suc k) x y is same = ap (λ (b : Bool). p z || b) (any_set-same p zs k x y is same)

-- one that does not pass, in the place of another
any_set-less : {X : Type 0} (p : X → Bool) (xs : List X) (k : ℕ) (y : X) → p y ≡ false → list_any p (slice_set xs k y) ≡ true → list_any p xs ≡ true
any_set-less p [] k y fails is = is
any_set-less p (z ∷ zs) zero y fails is = elim (or_split (p y) (list_any p zs) is) [
  | inl first ↦ let never : true ≡ false = sym first ∙ fails in cc
  | inr rest ↦ or_right (p z) (list_any p zs) rest
]
any_set-less p (z ∷ zs) (suc k) y fails is = elim (or_split (p z) (list_any p (slice_set zs k y)) is) [
  | inl first ↦ or_left (p z) (list_any p zs) first
  | inr rest ↦ or_right (p z) (list_any p zs) (any_set-less p zs k y fails rest)
]

flat : {X : Type 0} (o : Option (Option X)) (x : X) → option_flatten o ≡ Some x → o ≡ Some (Some x)
flat None x is = cc
flat (Some None) x is = cc
flat (Some (Some y)) x is = ap Some is

-- ---- what a handle stands for

-- the binding of a handle, the number of its description, and the description
record IsOpenedBy (t : Tables) (who : Who) (h : Handle) (d : Description) : Type 0 where
  binding : Binding
  key : ℕ
  bound : binding_of t.handles who h ≡ Some binding
  key_is : description_number t.descriptors binding.descriptor ≡ Some key
  stands : slice_get t.descriptions key ≡ Some (Some d)

some_behind : {A B : Type 0} (f : A → Option B) (o : Option A) (y : B) → option_and_then f o ≡ Some y → (x : A) × (o ≡ Some x) × (f x ≡ Some y)
some_behind f None y is = cc
some_behind f (Some x) y is = (x, refl, is)

opened_by : (t : Tables) (who : Who) (h : Handle) (d : Description) → opened t who h ≡ Some d → IsOpenedBy t who h d
unfolding opened key_of
opened_by t who h d is =
    let key = some_behind (λ (k : ℕ). option_flatten (slice_get t.descriptions k)) (key_of t who h) d is in
    let binding = some_behind (λ (b : Binding). description_number t.descriptors b.descriptor) (binding_of t.handles who h) key.0 key.1 in
    record { binding = binding.0; key = key.0; bound = binding.1; key_is = binding.2; stands = flat (slice_get t.descriptions key.0) d key.2 }

described_open : (slots : List (Option Description)) (k : ℕ) (d : Description) → slice_get slots k ≡ Some (Some d) → list_any (describes d.node) slots ≡ true
described_open [] k d is = cc
described_open (x ∷ xs) zero d is =
    let one : x ≡ Some d = cc in
    or_left (describes d.node x) (list_any (describes d.node) xs) (ap (describes d.node) one ∙ (Decides-eqb d.node d.node).1 refl)
described_open (x ∷ xs) (suc k) d is = or_right (describes d.node x) (list_any (describes d.node) xs) (described_open xs k d is)

-- the file of a handle is open
pub opened-is_open : (t : Tables) (who : Who) (h : Handle) (d : Description) → opened t who h ≡ Some d → is_open t d.node ≡ true
opened-is_open t who h d is =
    let by = opened_by t who h d is in
    described_open t.descriptions by.key d by.stands

-- ---- changes

-- another offset opens and closes nothing
pub is_open-offset : (t : Tables) (key offset n : ℕ) → is_open (with_offset t key offset) n ≡ is_open t n
unfolding with_offset
is_open-offset t key offset n = by (option_flatten (slice_get t.descriptions key)) refl where
  by : (o : Option Description) → option_flatten (slice_get t.descriptions key) ≡ o → is_open (with_offset t key offset) n ≡ is_open t n
  by None is = rw is refl
  by (Some d) is = rw is (any_set-same (describes n) t.descriptions key (Some d) (Some (record d { offset = offset })) (flat (slice_get t.descriptions key) d is) refl)

-- nor does a descriptor more
pub is_open-descriptor : (t : Tables) (who : Who) (h : Handle) (key n : ℕ) → is_open (with_descriptor t who h key) n ≡ is_open t n
unfolding with_descriptor
is_open-descriptor t who h key n = refl

-- an open opens its file
pub is_open-opened : (t : Tables) (who : Who) (h : Handle) (d : Description) (n : ℕ) → is_open (with_opened t who h d) n ≡ (is_open t n || (d.node == n))
unfolding with_opened with_descriptor
is_open-opened t who h d n =
    list_any-append (describes n) t.descriptions (Some d ∷ [])
    ∙ ap (λ (b : Bool). is_open t n || b) (or_false (d.node == n))

unused_less : (t : Tables) (key n : ℕ) → is_open (without_unused t key) n ≡ true → is_open t n ≡ true
unused_less t key n = by (list_any (has_key key) t.descriptors) where
  by : (b : Bool) → is_open (cond b t (record t { descriptions = slice_set t.descriptions key None })) n ≡ true → is_open t n ≡ true
  by true is = is
  by false is = any_set-less (describes n) t.descriptions key None refl is

-- a close opens none,
pub is_open-closed : (t : Tables) (who : Who) (h : Handle) (n : ℕ) → is_open (closed t who h) n ≡ true → is_open t n ≡ true
unfolding closed without_binding
is_open-closed t who h n = by (binding_of t.handles who h) refl where
  left : Binding → Tables
  left b = record t {
    descriptors = slice_set t.descriptors b.descriptor None;
    handles = without_place t.handles (position (is_binding b.who b.handle) t.handles);
  }

  by : (o : Option Binding) → binding_of t.handles who h ≡ o → is_open (closed t who h) n ≡ true → is_open t n ≡ true
  by None bound is = rw bound at is
  by (Some b) bound is = unused_less (left b) (unwrap_or (description_number t.descriptors b.descriptor) 0) n (rw bound at is)

-- and closes its own file alone
pub is_open-closed_other : (t : Tables) (who : Who) (h : Handle) (d : Description) (n : ℕ) → opened t who h ≡ Some d → n ≢ d.node → is_open (closed t who h) n ≡ is_open t n
unfolding closed without_binding
is_open-closed_other t who h d n is other =
    let own = opened_by t who h d is in
    let left : Tables = record t {
      descriptors = slice_set t.descriptors own.binding.descriptor None;
      handles = without_place t.handles (position (is_binding own.binding.who own.binding.handle) t.handles);
    } in
    let fails : (d.node == n) ≡ false = tells (d.node == n) (λ same. other (sym ((Decides-eqb d.node n).0 same))) in
    let still : is_open (without_unused left own.key) n ≡ is_open t n = unused_other left own.key d n own.stands fails in
    rw own.bound (rw own.key_is still)
  where
    tells : (b : Bool) → (b ≡ true → (⊥)) → b ≡ false
    tells true never = absurd (never refl)
    tells false never = refl

    unused_other : (u : Tables) (key : ℕ) (e : Description) (m : ℕ) → slice_get u.descriptions key ≡ Some (Some e) → (e.node == m) ≡ false → is_open (without_unused u key) m ≡ is_open u m
    unused_other u key e m stands fails = by (list_any (has_key key) u.descriptors) where
      by : (b : Bool) → is_open (cond b u (record u { descriptions = slice_set u.descriptions key None })) m ≡ is_open u m
      by true = refl
      by false = any_set-same (describes m) u.descriptions key (Some e) None stands (sym fails)
