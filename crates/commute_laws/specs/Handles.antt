-- What a handle stands for after another caller opened, doubled, closed or moved a handle.
use Rattle.std.specs.Prelude.{◌≡◌, ◌≢◌, ◌⊎◌, ℕ, ◌==◌, ◌&&◌, nat_eq, Bool, true, false, cond, List, [], ◌∷◌, ◌++◌, length, find, position, Option, Some, None, option_and_then, slice_get, slice_set, unwrap_or, refl}
use Rattle.std.specs.List.{list_any}
use Rattle.std.specs.Option.{option_flatten, option_or}
use Rattle.std.specs.Cmp.Lexicographic.{bytes_decides, pointwise}
use Rattle.std.proofs.Common.{ap, ◌∙◌, sym, subst, inl, inr, arith}
use Rattle.std.proofs.lemmas.Bool.Decides.{Decides-eqb, nat_tests}
use Rattle.crash_spec.specs.list_laws.Members.{find-In, slice_get-front}
use Rattle.crash_spec.specs.posix_laws.posix_types.declared.call.Who.{Who}
use Rattle.crash_spec.specs.posix_laws.posix_types.declared.handle.Handle.{Handle}
use Rattle.crash_spec.specs.posix_laws.posix_tables.declared.open.Binding.{Binding}
use Rattle.crash_spec.specs.posix_laws.posix_tables.declared.open.Description.{Description}
use Rattle.crash_spec.specs.posix_laws.posix_tables.Lookups.{without_first, without_place-position}
use Rattle.crash_spec.specs.posix_laws.posix_tables.Names.{without_place}
use Rattle.crash_spec.specs.posix_laws.posix_tables.Open.{binding_of, closed, description_number, free_descriptor, has_key, is_binding, is_full, key_of, next_descriptor, opened, same_handle, same_who, Tables, with_binding, with_descriptor, with_offset, with_opened, without_binding, without_unused}
use Rattle.commute_laws.specs.Lists.{find-pushed, find-without_first, find-without_first-none, free_place, slice_get-set_other}

-- ---- callers and handles are told apart by their tests

pub same_who-is : (a b : Who) → same_who a b ≡ true → a ≡ b
same_who-is Who.Setup Who.Setup is = refl
same_who-is Who.Setup (Who.Thread n) is = cc
same_who-is (Who.Thread m) Who.Setup is = cc
same_who-is (Who.Thread m) (Who.Thread n) is = ap (λ k. Who.Thread k) ((Decides-eqb m n).0 is)

pub same_who-sym : (a b : Who) → same_who a b ≡ same_who b a
same_who-sym Who.Setup Who.Setup = refl
same_who-sym Who.Setup (Who.Thread n) = refl
same_who-sym (Who.Thread m) Who.Setup = refl
same_who-sym (Who.Thread m) (Who.Thread n) = grind (arith, nat_tests)

both_true : (a b : Bool) → (a && b) ≡ true → (a ≡ true) × (b ≡ true)
both_true true b both = (refl, both)
both_true false b both = cc

same_handle-is : (a b : Handle) → same_handle a b ≡ true → a ≡ b
same_handle-is a b is =
    let both = both_true (a.len == b.len) (pointwise nat_eq a.bytes b.bytes) is in
    let long = (Decides-eqb a.len b.len).0 both.0 in
    let bytes = (bytes_decides a.bytes b.bytes).0 both.1 in
    λ i. record { len = long i; bytes = bytes i }

-- a binding that is a caller's is no other caller's
not_of : (a b : Bool) → a ≡ false → (a && b) ≡ false
not_of a b is = ap (λ c. c && b) is

other_binding : (who who2 : Who) (h h2 : Handle) (b : Binding) → same_who who who2 ≡ false → is_binding who h b ≡ true
    → is_binding who2 h2 b ≡ false
other_binding who who2 h h2 b other is =
    let own = same_who-is b.who who (both_true (same_who b.who who) (same_handle b.handle h) is).0 in
    not_of (same_who b.who who2) (same_handle b.handle h2) (ap (λ w. same_who w who2) own ∙ other)

-- ---- bindings

-- what a look-up found: a binding of the caller's own, or where there is none, one of the set-up's
pub record IsOwn (handles : List Binding) (who : Who) (h : Handle) (b : Binding) : Type 0 where
  pub found : find (is_binding who h) handles ≡ Some b
  pub is : is_binding who h b ≡ true

pub record IsShared (handles : List Binding) (who : Who) (h : Handle) (b : Binding) : Type 0 where
  pub none : find (is_binding who h) handles ≡ None
  pub found : find (is_binding Who.Setup h) handles ≡ Some b
  pub is : is_binding Who.Setup h b ≡ true

pub bound_by : (handles : List Binding) (who : Who) (h : Handle) (b : Binding) → binding_of handles who h ≡ Some b
    → IsOwn handles who h b ⊎ IsShared handles who h b
unfolding binding_of
bound_by handles who h b bound = by (find (is_binding who h) handles) refl bound where
  by : (o : Option Binding) → find (is_binding who h) handles ≡ o
      → option_or o (find (is_binding Who.Setup h) handles) ≡ Some b
      → IsOwn handles who h b ⊎ IsShared handles who h b
  by None none found = inr (record { none = none; found = found; is = (find-In (is_binding Who.Setup h) handles b found).1 })
  by (Some x) it found = let own = it ∙ found in inl (record { found = own; is = (find-In (is_binding who h) handles b own).1 })

own_bound : (handles : List Binding) (who : Who) (h : Handle) (b : Binding) → find (is_binding who h) handles ≡ Some b
    → binding_of handles who h ≡ Some b
unfolding binding_of
own_bound handles who h b found = ap (λ o. option_or o (find (is_binding Who.Setup h) handles)) found

shared_bound : (handles : List Binding) (who : Who) (h : Handle) (b : Binding)
    → find (is_binding who h) handles ≡ None → find (is_binding Who.Setup h) handles ≡ Some b
    → binding_of handles who h ≡ Some b
unfolding binding_of
shared_bound handles who h b none found = ap (λ o. option_or o (find (is_binding Who.Setup h) handles)) none ∙ found

-- a binding stays bound without the first that passes a test that it fails
bound-without_first : (p : Binding → Bool) (handles : List Binding) (who : Who) (h : Handle) (b : Binding)
    → binding_of handles who h ≡ Some b → p b ≡ false → binding_of (without_first p handles) who h ≡ Some b
bound-without_first p handles who h b bound other = elim (bound_by handles who h b bound) [
  | inl own ↦ own_bound (without_first p handles) who h b (find-without_first p (is_binding who h) handles b own.found other)
  | inr shared ↦
      shared_bound (without_first p handles) who h b (find-without_first-none p (is_binding who h) handles shared.none)
      (find-without_first p (is_binding Who.Setup h) handles b shared.found other)
]

-- and with one more of another caller
bound-pushed : (handles : List Binding) (new : Binding) (who : Who) (h : Handle) → same_who new.who who ≡ false
    → same_who new.who Who.Setup ≡ false
    → binding_of (handles ++ new ∷ []) who h ≡ binding_of handles who h
unfolding binding_of
bound-pushed handles new who h other thread =
    let own = find-pushed (is_binding who h) handles new (not_of (same_who new.who who) (same_handle new.handle h) other) in
    let shared = find-pushed (is_binding Who.Setup h) handles new (not_of (same_who new.who Who.Setup) (same_handle new.handle h) thread) in
    λ i. option_or (own i) (shared i)

bound-with_binding : (handles : List Binding) (new : Binding) (who : Who) (h : Handle) (b : Binding)
    → same_who new.who who ≡ false → same_who new.who Who.Setup ≡ false
    → binding_of handles who h ≡ Some b → binding_of (with_binding handles new) who h ≡ Some b
unfolding with_binding
bound-with_binding handles new who h b other thread bound =
    let p : Binding → Bool = is_binding new.who new.handle in
    let fails : is_binding new.who new.handle b ≡ false = elim (bound_by handles who h b bound) [
      | inl own ↦ other_binding who new.who h new.handle b (same_who-sym who new.who ∙ other) own.is
      | inr shared ↦ other_binding Who.Setup new.who h new.handle b (same_who-sym Who.Setup new.who ∙ thread) shared.is
    ] in
    ap (λ xs. binding_of (xs ++ new ∷ []) who h) (without_place-position p handles)
    ∙ bound-pushed (without_first p handles) new who h other thread
    ∙ bound-without_first p handles who h b bound fails

-- ---- what a handle stands for, step by step

-- the description with a number
abbrev pub described : Tables → ℕ → Option Description
described t key = option_flatten (slice_get t.descriptions key)

-- A handle stands for a description with this number: by a binding, and the descriptor of the binding.
pub record Opens (t : Tables) (who : Who) (h : Handle) (key : ℕ) (d : Description) : Type 0 where
  pub binding : Binding
  pub bound : binding_of t.handles who h ≡ Some binding
  pub key_is : description_number t.descriptors binding.descriptor ≡ Some key
  pub stands : described t key ≡ Some d

parts : {A B : Type 0} (f : A → Option B) (o : Option A) (y : B) → option_and_then f o ≡ Some y
    → (x : A) × (o ≡ Some x) × (f x ≡ Some y)
parts f None y is = cc
parts f (Some x) y is = (x, refl, is)

pub Opens-opened : (t : Tables) (who : Who) (h : Handle) (d : Description) → opened t who h ≡ Some d
    → (key : ℕ) × Opens t who h key d
unfolding opened key_of
Opens-opened t who h d is =
    let key = parts (λ (k : ℕ). described t k) (key_of t who h) d is in
    let binding = parts (λ (b : Binding). description_number t.descriptors b.descriptor) (binding_of t.handles who h) key.0 key.1 in
    (key.0, record { binding = binding.0; bound = binding.1; key_is = binding.2; stands = key.2 })

pub key_of-Opens : (t : Tables) (who : Who) (h : Handle) (key : ℕ) (d : Description) → Opens t who h key d
    → key_of t who h ≡ Some key
unfolding key_of
key_of-Opens t who h key d o = ap (λ x. option_and_then (λ (b : Binding). description_number t.descriptors b.descriptor) x) o.bound ∙ o.key_is

pub opened-Opens : (t : Tables) (who : Who) (h : Handle) (key : ℕ) (d : Description) → Opens t who h key d
    → opened t who h ≡ Some d
unfolding opened
opened-Opens t who h key d o = ap (λ x. option_and_then (λ (k : ℕ). described t k) x) (key_of-Opens t who h key d o) ∙ o.stands

-- ---- another caller gets a descriptor

-- Another caller gets a descriptor for a description.
pub Opens-with_descriptor : (t : Tables) (who who2 : Who) (h h2 : Handle) (new key : ℕ) (d : Description)
    → is_full t ≡ false → same_who who2 who ≡ false → same_who who2 Who.Setup ≡ false
    → Opens t who h key d → Opens (with_descriptor t who2 h2 new) who h key d
unfolding with_descriptor
Opens-with_descriptor t who who2 h h2 new key d room other thread o =
    let n : ℕ = next_descriptor t in
    let free = free_place t.descriptors (free_descriptor t) refl room in
    let apart : o.binding.descriptor ≢ n = λ e. (let never : Some key ≡ None = sym o.key_is ∙ ap (λ k. description_number t.descriptors k) e ∙ free in cc) in
    record {
      binding = o.binding;
      bound = bound-with_binding t.handles (record { who = who2; handle = h2; descriptor = n }) who h o.binding other thread o.bound;
      key_is = ap (λ (x : Option (Option ℕ)). option_flatten x) (slice_get-set_other t.descriptors n o.binding.descriptor (Some new) apart) ∙ o.key_is;
      stands = o.stands;
    }

flat : {X : Type 0} (o : Option (Option X)) (x : X) → option_flatten o ≡ Some x → o ≡ Some (Some x)
flat None x is = cc
flat (Some None) x is = cc
flat (Some (Some y)) x is = ap Some is

pub slot_of : (t : Tables) (key : ℕ) (d : Description) → described t key ≡ Some d
    → slice_get t.descriptions key ≡ Some (Some d)
slot_of t key d is = flat (slice_get t.descriptions key) d is

-- Another caller opens a file.
pub Opens-with_opened : (t : Tables) (who who2 : Who) (h h2 : Handle) (new d : Description) (key : ℕ)
    → is_full t ≡ false → same_who who2 who ≡ false → same_who who2 Who.Setup ≡ false
    → Opens t who h key d → Opens (with_opened t who2 h2 new) who h key d
unfolding with_opened
Opens-with_opened t who who2 h h2 new d key room other thread o =
    let more : Tables = record t { descriptions = t.descriptions ++ Some new ∷ [] } in
    let front = ap (λ (x : Option (Option Description)). option_flatten x) (slice_get-front t.descriptions (Some new ∷ []) key (Some d) (slot_of t key d o.stands)) in
    Opens-with_descriptor more who who2 h h2 (length t.descriptions) key d room other thread (record { binding = o.binding; bound = o.bound; key_is = o.key_is; stands = front })

-- ---- a description of another file moves or goes

-- two descriptions of different files have different numbers
pub keys_apart : (t : Tables) (k k2 : ℕ) (d e : Description) → described t k ≡ Some d → described t k2 ≡ Some e
    → d.node ≢ e.node → k ≢ k2
keys_apart t k k2 d e is is2 other same =
    let both : Some d ≡ Some e = sym is ∙ ap (described t) same ∙ is2 in
    let one : d ≡ e = cc in
    other (ap (λ (x : Description). x.node) one)

stands_other : (slots : List (Option Description)) (k k2 : ℕ) (d : Description) (slot : Option Description) → k ≢ k2
    → option_flatten (slice_get slots k) ≡ Some d → option_flatten (slice_get (slice_set slots k2 slot) k) ≡ Some d
stands_other slots k k2 d slot other is = ap (λ (x : Option (Option Description)). option_flatten x) (slice_get-set_other slots k2 k slot other) ∙ is

-- what another offset of a description is
pub with_offset-is : (t : Tables) (key offset : ℕ) (e : Description) → described t key ≡ Some e → with_offset t key offset ≡ record t { descriptions = slice_set t.descriptions key (Some (record e { offset = offset })) }
unfolding with_offset
with_offset-is t key offset e is = rw is refl

pub Opens-set : (t : Tables) (who : Who) (h : Handle) (key k2 : ℕ) (d : Description) (slot : Option Description)
    → key ≢ k2 → Opens t who h key d
    → Opens (record t { descriptions = slice_set t.descriptions k2 slot }) who h key d
Opens-set t who h key k2 d slot other o = record { binding = o.binding; bound = o.bound; key_is = o.key_is; stands = stands_other t.descriptions key k2 d slot other o.stands }

-- Another offset of one description leaves those of other files.
pub Opens-with_offset : (t : Tables) (who who2 : Who) (h h2 : Handle) (offset : ℕ) (key : ℕ) (d e : Description)
    → opened t who2 h2 ≡ Some e → d.node ≢ e.node
    → Opens t who h key d → Opens (with_offset t (unwrap_or (key_of t who2 h2) 0) offset) who h key d
Opens-with_offset t who who2 h h2 offset key d e moves other o =
    let found = Opens-opened t who2 h2 e moves in
    let o2 = found.1 in
    let k2 : ℕ = found.0 in
    let at : unwrap_or (key_of t who2 h2) 0 ≡ k2 = ap (λ x. unwrap_or x 0) (key_of-Opens t who2 h2 k2 e o2) in
    let same : with_offset t (unwrap_or (key_of t who2 h2) 0) offset ≡ record t { descriptions = slice_set t.descriptions k2 (Some (record e { offset = offset })) } =
    ap (λ k. with_offset t k offset) at ∙ with_offset-is t k2 offset e o2.stands in
    subst (λ x. Opens x who h key d) (sym same) (Opens-set t who h key k2 d (Some (record e { offset = offset })) (keys_apart t key k2 d e o.stands o2.stands other) o)

Opens-without_unused : (t : Tables) (k2 : ℕ) (who : Who) (h : Handle) (key : ℕ) (d : Description)
    → Opens t who h key d → key ≢ k2 → Opens (without_unused t k2) who h key d
Opens-without_unused t k2 who h key d o other = by (list_any (has_key k2) t.descriptors) where
  by : (b : Bool) → Opens (cond b t (record t { descriptions = slice_set t.descriptions k2 None })) who h key d
  by true = o
  by false = Opens-set t who h key k2 d None other o

-- two look-ups with different bindings: the one found is not what the other takes away
fails_other : (handles : List Binding) (who who2 : Who) (h h2 : Handle) (b b2 : Binding) → same_who who2 who ≡ false
    → same_who who2 Who.Setup ≡ false → same_who Who.Setup who ≡ false
    → binding_of handles who h ≡ Some b → binding_of handles who2 h2 ≡ Some b2 → b.descriptor ≢ b2.descriptor
    → is_binding b2.who b2.handle b ≡ false
fails_other handles who who2 h h2 b b2 other thread own bound bound2 apart =
    elim (bound_by handles who h b bound) [
      | inl mine ↦
          other_binding who b2.who h b2.handle b (elim (bound_by handles who2 h2 b2 bound2) [
            | inl theirs ↦ same_who-sym who b2.who ∙ ap (λ w. same_who w who) (owner who2 h2 theirs.is) ∙ other
            | inr theirs ↦ same_who-sym who b2.who ∙ ap (λ w. same_who w who) (owner Who.Setup h2 theirs.is) ∙ own
          ]) mine.is
      | inr ours ↦
          elim (bound_by handles who2 h2 b2 bound2) [
            | inl theirs ↦ other_binding Who.Setup b2.who h b2.handle b (same_who-sym Who.Setup b2.who ∙ ap (λ w. same_who w Who.Setup) (owner who2 h2 theirs.is) ∙ thread) ours.is
            | inr theirs ↦ by_handle (is_binding b2.who b2.handle b) refl ours theirs
          ]
    ]
  where
    owner : (w : Who) (g : Handle) → is_binding w g b2 ≡ true → b2.who ≡ w
    owner w g is = same_who-is b2.who w (both_true (same_who b2.who w) (same_handle b2.handle g) is).0

    by_handle : (c : Bool) → is_binding b2.who b2.handle b ≡ c → IsShared handles who h b
        → IsShared handles who2 h2 b2 → c ≡ false
    by_handle false is ours theirs = refl
    by_handle true is ours theirs =
        let first = same_handle-is b.handle b2.handle (both_true (same_who b.who b2.who) (same_handle b.handle b2.handle) is).1 in
        let second = same_handle-is b.handle h (both_true (same_who b.who Who.Setup) (same_handle b.handle h) ours.is).1 in
        let third = same_handle-is b2.handle h2 (both_true (same_who b2.who Who.Setup) (same_handle b2.handle h2) theirs.is).1 in
        let one : h ≡ h2 = sym second ∙ first ∙ third in
        let found : Some b ≡ Some b2 = sym ours.found ∙ ap (λ g. find (is_binding Who.Setup g) handles) one ∙ theirs.found in
        let same : b ≡ b2 = cc in
        absurd (apart (ap (λ (x : Binding). x.descriptor) same))

pub closed-is : (t : Tables) (who : Who) (h : Handle) (b : Binding) → binding_of t.handles who h ≡ Some b
    → closed t who h ≡ without_binding t b
unfolding closed
closed-is t who h b bound = rw bound refl

-- Another caller closes a handle of another file.
pub Opens-closed : (t : Tables) (who who2 : Who) (h h2 : Handle) (key : ℕ) (d e : Description)
    → same_who who2 who ≡ false → same_who who2 Who.Setup ≡ false → same_who Who.Setup who ≡ false
    → opened t who2 h2 ≡ Some e → d.node ≢ e.node → Opens t who h key d → Opens (closed t who2 h2) who h key d
unfolding without_binding
Opens-closed t who who2 h h2 key d e other thread own closes apart o =
    let found = Opens-opened t who2 h2 e closes in
    let k2 : ℕ = found.0 in
    let o2 = found.1 in
    let keys = keys_apart t key k2 d e o.stands o2.stands apart in
    let slots : o.binding.descriptor ≢ o2.binding.descriptor =
    λ same. (let both : Some key ≡ Some k2 = sym o.key_is ∙ ap (λ k. description_number t.descriptors k) same ∙ o2.key_is in let one : key ≡ k2 = cc in keys one) in
    let p : Binding → Bool = is_binding o2.binding.who o2.binding.handle in
    let left : Tables = record t {
      descriptors = slice_set t.descriptors o2.binding.descriptor None;
      handles = without_place t.handles (position p t.handles);
    } in
    let fails = fails_other t.handles who who2 h h2 o.binding o2.binding other thread own o.bound o2.bound slots in
    let middle : Opens left who h key d = record {
      binding = o.binding;
      bound = ap (λ xs. binding_of xs who h) (without_place-position p t.handles) ∙ bound-without_first p t.handles who h o.binding o.bound fails;
      key_is = ap (λ (x : Option (Option ℕ)). option_flatten x) (slice_get-set_other t.descriptors o2.binding.descriptor o.binding.descriptor None slots) ∙ o.key_is;
      stands = o.stands;
    } in
    let number : k2 ≡ unwrap_or (description_number t.descriptors o2.binding.descriptor) 0 = sym (ap (λ x. unwrap_or x 0) o2.key_is) in
    let unused = Opens-without_unused left (unwrap_or (description_number t.descriptors o2.binding.descriptor) 0) who h key d middle (subst (λ k. key ≢ k) number keys) in
    subst (λ x. Opens x who h key d) (sym (closed-is t who2 h2 o2.binding o2.bound)) unused
