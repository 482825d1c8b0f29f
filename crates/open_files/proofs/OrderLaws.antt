-- Tables stay in order: after an open, a dup, a moved offset and a close.
use Rattle.std.specs.Prelude.{◌≡◌, ◌≢◌, ℕ, zero, suc, ◌<◌, ◌==◌, ◌&&◌, ◌||◌, nat_eq, Bool, true, false, cond, List, [], ◌∷◌, ◌++◌, length, find, position, is_none, is_some, All, AllPairs, Option, Some, None, IsSome, get_or, slice_get, slice_set, unwrap_or, replicate, refl}
use Rattle.std.specs.List.{list_any}
use Rattle.std.specs.Option.{option_flatten}
use Rattle.std.specs.Cmp.Lexicographic.{bytes_decides, pointwise}
use Rattle.std.proofs.Common.{ap, ◌∙◌, sym, subst, inl, inr, arith}
use Rattle.std.proofs.lemmas.Bool.{cases_eq, cases_lt}
use Rattle.std.proofs.lemmas.Bool.Decides.{Decides-eqb, eqb_tells}
use Rattle.std.proofs.lemmas.List.{length-replicate, length-set}
use Rattle.std.proofs.lemmas.List.Elements.{All-from_get_or, All-push, All-weaker}
use Rattle.std.proofs.lemmas.List.Folds.{list_any_at}
use Rattle.std.proofs.lemmas.List.Quantifiers.{all_pairs_push}
use Rattle.std.proofs.lemmas.Option.{get_or_from_slice_get}
use Rattle.commute_laws.specs.list_laws.Members.{slice_get-front, slice_get-last}
use Rattle.posix_types.specs.declared.call.Who.{Who}
use Rattle.posix_types.specs.declared.handle.Handle.{Handle}
use Rattle.posix_tables.specs.declared.open.Binding.{Binding}
use Rattle.posix_tables.specs.declared.open.Description.{Description}
use Rattle.posix_tables.specs.Names.{without_place}
use Rattle.posix_tables.specs.Open.{binding_of, closed, description_number, has_key, is_binding, is_full, next_descriptor, nothing_open, same_handle, same_who, Tables, with_binding, with_descriptor, with_offset, with_opened, without_binding, without_unused}
use Rattle.commute_laws.specs.Handles.{bound_by, closed-is, same_who-is, with_offset-is}
use Rattle.open_files.specs.Order.{AreApart, AreInOrder, description_at, IsBound}
use Rattle.open_files.proofs.Places.{All-rest_places, AllPairs-rest_places, first_place, flat-get_or, flat-set_other, flat-set_same, flat-within, is_some-of, rest_place, some_of}

-- ---- bindings are told apart by their callers and handles

both_true : (a b : Bool) → (a && b) ≡ true → (a ≡ true) × (b ≡ true)
both_true true b both = (refl, both)
both_true false b both = cc

and_true : (a b : Bool) → a ≡ true → b ≡ true → (a && b) ≡ true
and_true a b p q = ap (λ c. c && b) p ∙ q

same_who-refl : (a : Who) → same_who a a ≡ true
same_who-refl Who.Setup = refl
same_who-refl (Who.Thread n) = (Decides-eqb n n).1 refl

same_handle-refl : (a : Handle) → same_handle a a ≡ true
same_handle-refl a = and_true (a.len == a.len) (pointwise nat_eq a.bytes a.bytes) ((Decides-eqb a.len a.len).1 refl) ((bytes_decides a.bytes a.bytes).1 refl)

same_handle-is : (a b : Handle) → same_handle a b ≡ true → a ≡ b
same_handle-is a b is =
    let both = both_true (a.len == b.len) (pointwise nat_eq a.bytes b.bytes) is in
    let long = (Decides-eqb a.len b.len).0 both.0 in
    let bytes = (bytes_decides a.bytes b.bytes).0 both.1 in
    λ i. record { len = long i; bytes = bytes i }

binds : (who : Who) (handle : Handle) (b : Binding) → is_binding who handle b ≡ true → (b.who ≡ who) × (b.handle ≡ handle)
binds who handle b is =
    let both = both_true (same_who b.who who) (same_handle b.handle handle) is in
    (same_who-is b.who who both.0, same_handle-is b.handle handle both.1)

binds-back : (who : Who) (handle : Handle) (b : Binding) → b.who ≡ who → b.handle ≡ handle → is_binding who handle b ≡ true
binds-back who handle b same_w same_h = and_true (same_who b.who who) (same_handle b.handle handle)
    (ap (same_who b.who) (sym same_w) ∙ same_who-refl b.who)
    (ap (same_handle b.handle) (sym same_h) ∙ same_handle-refl b.handle)

-- ---- what a descriptor gets

-- a free descriptor is there and has no number
record IsFreeAt (t : Tables) (n : ℕ) : Type 0 where
  pub next : next_descriptor t ≡ n
  pub within : n < length t.descriptors
  pub free : description_number t.descriptors n ≡ None

pub none_of : {X : Type 0} (o : Option X) → is_none o ≡ true → o ≡ None
none_of None is = refl
none_of (Some x) is = cc

free_at : (t : Tables) → is_full t ≡ false → (n : ℕ) × IsFreeAt t n
free_at t room = elim (first_place (λ slot. is_none slot) t.descriptors) [
  | inl found ↦ (
    found.0,
    record {
      next = ap (λ (o : Option ℕ). unwrap_or o 0) found.1.is;
      within = found.1.within;
      free = flat-get_or t.descriptors found.0 ∙ none_of (get_or t.descriptors found.0 None) (found.1.passes None);
    },
  )
  | inr absent ↦ absurd (let never : true ≡ false = sym (ap (λ (o : Option ℕ). is_none o) absent.is) ∙ room in cc)
]

-- In order but for one description, which has no descriptor yet.
record AreInOrderBut (t : Tables) (key : ℕ) : Type 0 where
  pub count : length t.descriptors ≡ 64
  pub bound : All (IsBound t) t.handles
  pub apart : AllPairs AreApart t.handles
  pub described : (descriptor number : ℕ) → description_number t.descriptors descriptor ≡ Some number → IsSome (description_at t number)
  pub used : (number : ℕ) → number ≢ key → IsSome (description_at t number) → (descriptor : ℕ) × (description_number t.descriptors descriptor ≡ Some number)

-- the bindings without the one of a handle have none of it
rest_apart : (handles : List Binding) (new : Binding) → AllPairs AreApart handles → All (λ b. b.descriptor ≢ new.descriptor) handles
    → (k : ℕ) (d : Binding) → k < length (without_place handles (position (is_binding new.who new.handle) handles))
    → AreApart (get_or (without_place handles (position (is_binding new.who new.handle) handles)) k d) new
rest_apart handles new pairs others k d within =
    let p : Binding → Bool = is_binding new.who new.handle in
    let at = rest_place p handles k within in
    let b : Binding = get_or handles at.0 d in
    let here : AreApart b new = record {
      descriptors = others at.0 d at.1;
      handles = λ same_w same_h. (let is : p b ≡ true = binds-back new.who new.handle b same_w same_h in
          elim (first_place p handles) [
            | inl found ↦ (let first : Binding = get_or handles found.0 d in
                let of = binds new.who new.handle first (found.1.passes d) in
                elim (cases_lt at.0 found.0) [
                  | inl before ↦ (let never : false ≡ true = sym (found.1.before at.0 d before) ∙ is in cc)
                  | inr later ↦
                      let other : at.0 ≢ found.0 = λ same. at.2 (found.1.is ∙ ap Some (sym same)) in
                      (pairs found.0 at.0 d (omega arith) at.1).handles (of.0 ∙ sym same_w) (of.1 ∙ sym same_h)
                ])
            | inr absent ↦ (let never : false ≡ true = sym (absent.fails at.0 d at.1) ∙ is in cc)
          ]);
    } in
    subst (λ x. AreApart x new) (sym (at.3 d)) here

order-given : (t : Tables) (who : Who) (handle : Handle) (key : ℕ) → is_full t ≡ false → AreInOrderBut t key
    → IsSome (description_at t key) → AreInOrder (with_descriptor t who handle key)
unfolding with_descriptor with_binding
order-given t who handle key room order opens =
    let at = free_at t room in
    let n : ℕ = next_descriptor t in
    let free : description_number t.descriptors n ≡ None = ap (description_number t.descriptors) at.1.next ∙ at.1.free in
    let within : n < length t.descriptors = subst (λ m. m < length t.descriptors) (sym at.1.next) at.1.within in
    let new : Binding = record { who = who; handle = handle; descriptor = n } in
    let p : Binding → Bool = is_binding who handle in
    let given : List (Option ℕ) = slice_set t.descriptors n (Some key) in
    let same : description_number given n ≡ Some key = flat-set_same t.descriptors n (Some key) within in
    let other : (d : ℕ) → d ≢ n → description_number given d ≡ description_number t.descriptors d = λ d apart. flat-set_other t.descriptors n d (Some key) apart in
    let elsewhere : (b : Binding) → IsBound t b → b.descriptor ≢ n = λ b bound is. (let has = some_of (description_number t.descriptors b.descriptor) bound in let never : None ≡ Some has.0 = sym free ∙ ap (description_number t.descriptors) (sym is) ∙ has.1 in cc) in
    record {
      count = length-set t.descriptors n (Some key) ∙ order.count;
      bound =
          All-push (λ b. IsSome (description_number given b.descriptor)) (without_place t.handles (position p t.handles)) new
          (All-rest_places (λ b. IsSome (description_number given b.descriptor)) p t.handles
          (All-weaker (IsBound t) (λ b. IsSome (description_number given b.descriptor)) (λ b bound. ap is_some (other b.descriptor (elsewhere b bound)) ∙ bound) t.handles order.bound))
          (is_some-of (description_number given n) key same);
      apart =
          all_pairs_push AreApart (without_place t.handles (position p t.handles)) new (AllPairs-rest_places AreApart p t.handles order.apart)
          (rest_apart t.handles new order.apart (All-weaker (IsBound t) (λ b. b.descriptor ≢ n) elsewhere t.handles order.bound));
      described = λ d number has. elim (cases_eq d n) [
        | inl here ↦ (let both : Some key ≡ Some number = sym same ∙ ap (description_number given) (sym here) ∙ has in let one : key ≡ number = cc in subst (λ k. IsSome (description_at t k)) one opens)
        | inr apart ↦ order.described d number (sym (other d apart) ∙ has)
      ];
      used = λ number is. elim (cases_eq number key) [
        | inl here ↦ (n, same ∙ ap Some (sym here))
        | inr apart ↦
            let has = order.used number apart is in
            let elsewhere_d : has.0 ≢ n = λ at_n. (let never : None ≡ Some number = sym free ∙ ap (description_number t.descriptors) (sym at_n) ∙ has.1 in cc) in
            (has.0, other has.0 elsewhere_d ∙ has.1)
      ];
    }

-- A dup leaves the tables in order.
pub order-with_descriptor : (t : Tables) (who : Who) (handle : Handle) (key : ℕ) → is_full t ≡ false → AreInOrder t
    → IsSome (description_at t key) → AreInOrder (with_descriptor t who handle key)
order-with_descriptor t who handle key room order opens =
    order-given t who handle key room (record { count = order.count; bound = order.bound; apart = order.apart; described = order.described; used = λ number apart is. order.used number is }) opens

flat_some : {X : Type 0} (o : Option (Option X)) (x : X) → option_flatten o ≡ Some x → o ≡ Some (Some x)
flat_some None x is = cc
flat_some (Some None) x is = cc
flat_some (Some (Some y)) x is = ap Some is

-- An open leaves the tables in order.
pub order-with_opened : (t : Tables) (who : Who) (handle : Handle) (description : Description) → is_full t ≡ false → AreInOrder t
    → AreInOrder (with_opened t who handle description)
unfolding with_opened
order-with_opened t who handle description room order =
    let more : Tables = record t { descriptions = t.descriptions ++ Some description ∷ [] } in
    let key : ℕ = length t.descriptions in
    let last : description_at more key ≡ Some description = ap (λ (o : Option (Option Description)). option_flatten o) (slice_get-last t.descriptions (Some description)) in
    let kept : (number : ℕ) → IsSome (description_at t number) → IsSome (description_at more number) = λ number is.
    (let has = some_of (description_at t number) is in
    is_some-of (description_at more number) has.0 (ap (λ (o : Option (Option Description)). option_flatten o) (slice_get-front t.descriptions (Some description ∷ []) number (Some has.0) (flat_some (slice_get t.descriptions number) has.0 has.1)))) in
    order-given more who handle key room (record {
      count = order.count;
      bound = order.bound;
      apart = order.apart;
      described = λ d number has. kept number (order.described d number has);
      used = λ number apart is. order.used number (before t.descriptions description number apart is);
    }) (is_some-of (description_at more key) description last)
  where
    before : (xs : List (Option Description)) (d : Description) (n : ℕ) → n ≢ length xs → IsSome (option_flatten (slice_get (xs ++ Some d ∷ []) n)) → IsSome (option_flatten (slice_get xs n))
    before [] d zero apart is = absurd (apart refl)
    before [] d (suc n) apart is = is
    before (x ∷ xs) d zero apart is = is
    before (x ∷ xs) d (suc n) apart is = before xs d n (λ e. apart (ap suc e)) is

-- A moved offset leaves the tables in order.
pub order-with_offset : (t : Tables) (key offset : ℕ) → AreInOrder t → IsSome (description_at t key) → AreInOrder (with_offset t key offset)
order-with_offset t key offset order opens =
    let e = some_of (description_at t key) opens in
    let moved : Description = record e.0 { offset = offset } in
    let next : Tables = record t { descriptions = slice_set t.descriptions key (Some moved) } in
    let within = flat-within t.descriptions key e.0 e.1 in
    let onward : (number : ℕ) → IsSome (description_at t number) → IsSome (description_at next number) = λ number is. elim (cases_eq number key) [
      | inl here ↦ subst (λ k. IsSome (description_at next k)) (sym here) (is_some-of (description_at next key) moved (flat-set_same t.descriptions key (Some moved) within))
      | inr apart ↦ ap is_some (flat-set_other t.descriptions key number (Some moved) apart) ∙ is
    ] in
    let back : (number : ℕ) → IsSome (description_at next number) → IsSome (description_at t number) = λ number is. elim (cases_eq number key) [
      | inl here ↦ subst (λ k. IsSome (description_at t k)) (sym here) opens
      | inr apart ↦ ap is_some (sym (flat-set_other t.descriptions key number (Some moved) apart)) ∙ is
    ] in
    let done : AreInOrder next = record {
      count = order.count;
      bound = order.bound;
      apart = order.apart;
      described = λ d number has. onward number (order.described d number has);
      used = λ number is. order.used number (back number is);
    } in
    subst AreInOrder (sym (with_offset-is t key offset e.0 e.1)) done

-- ---- a close

-- the first binding that a search finds has its place
record FoundPlace (p : Binding → Bool) (xs : List Binding) (b : Binding) : Type 0 where
  pub place : ℕ
  pub within : place < length xs
  pub is : position p xs ≡ Some place
  pub binding : get_or xs place b ≡ b

found_place : (p : Binding → Bool) (xs : List Binding) (b : Binding) → find p xs ≡ Some b → FoundPlace p xs b
found_place p xs b found = elim (first_place p xs) [
  | inl at ↦ record { place = at.0; within = at.1.within; is = at.1.is; binding = get_or_from_slice_get xs at.0 b b (sym at.1.found ∙ found) }
  | inr absent ↦ (let never : None ≡ Some b = sym absent.found ∙ found in cc)
]

-- a binding that is looked up is the first of its own handle
first_own : (handles : List Binding) (who : Who) (handle : Handle) (b : Binding) → find (is_binding who handle) handles ≡ Some b → is_binding who handle b ≡ true
    → find (is_binding b.who b.handle) handles ≡ Some b
first_own handles who handle b found is =
    let of = binds who handle b is in
    let same : find (is_binding b.who b.handle) handles ≡ find (is_binding who handle) handles = λ i. find (is_binding (of.0 i) (of.1 i)) handles in
    same ∙ found

pub first_bound : (handles : List Binding) (who : Who) (handle : Handle) (b : Binding) → binding_of handles who handle ≡ Some b
    → find (is_binding b.who b.handle) handles ≡ Some b
first_bound handles who handle b bound = elim (bound_by handles who handle b bound) [
  | inl own ↦ first_own handles who handle b own.found own.is
  | inr shared ↦ first_own handles Who.Setup handle b shared.found shared.is
]

-- what is bound is in use
pub bound_in_use : (t : Tables) (who : Who) (handle : Handle) (b : Binding) → AreInOrder t → binding_of t.handles who handle ≡ Some b → IsBound t b
bound_in_use t who handle b order bound =
    let at = found_place (is_binding b.who b.handle) t.handles b (first_bound t.handles who handle b bound) in
    subst (IsBound t) at.binding (order.bound at.place b at.within)

any_key : (k : ℕ) (xs : List (Option ℕ)) → list_any (has_key k) xs ≡ true → (d : ℕ) × (description_number xs d ≡ Some k)
any_key k [] is = cc
any_key k (None ∷ xs) is = let rest = any_key k xs is in (suc rest.0, rest.1)
any_key k (Some n ∷ xs) is = elim (eqb_tells n k) [
  | inl same ↦ (0, ap Some same.1)
  | inr other ↦ let rest = any_key k xs (sym (ap (λ b. b || list_any (has_key k) xs) other.0) ∙ is) in (suc rest.0, rest.1)
]

none_key : (k : ℕ) (xs : List (Option ℕ)) (d : ℕ) → list_any (has_key k) xs ≡ false → description_number xs d ≢ Some k
none_key k xs d none has =
    let at : get_or xs d None ≡ Some k = sym (flat-get_or xs d) ∙ has in
    let there = list_any_at (has_key k) xs d None (flat-within xs d k has) (ap (has_key k) at ∙ (Decides-eqb k k).1 refl) in
    let never : true ≡ false = sym there ∙ none in
    cc

-- Without a binding the tables stay in order.
order-without : (t : Tables) (b : Binding) → AreInOrder t → find (is_binding b.who b.handle) t.handles ≡ Some b → AreInOrder (without_binding t b)
unfolding without_binding
order-without t b order found =
    let p : Binding → Bool = is_binding b.who b.handle in
    let at = found_place p t.handles b found in
    let in_use : IsBound t b = subst (IsBound t) at.binding (order.bound at.place b at.within) in
    let has = some_of (description_number t.descriptors b.descriptor) in_use in
    let k : ℕ = has.0 in
    let taken : List (Option ℕ) = slice_set t.descriptors b.descriptor None in
    let left : Tables = record t { descriptors = taken; handles = without_place t.handles (position p t.handles) } in
    let within = flat-within t.descriptors b.descriptor k has.1 in
    let here : description_number taken b.descriptor ≡ None = flat-set_same t.descriptors b.descriptor None within in
    let other : (d : ℕ) → d ≢ b.descriptor → description_number taken d ≡ description_number t.descriptors d = λ d apart. flat-set_other t.descriptors b.descriptor d None apart in
    let rest_elsewhere : All (λ (x : Binding). x.descriptor ≢ b.descriptor) (without_place t.handles (position p t.handles)) =
    All-from_get_or (λ (x : Binding). x.descriptor ≢ b.descriptor) (without_place t.handles (position p t.handles)) b (λ j below same.
    (let of = rest_place p t.handles j below in
    let one : get_or (without_place t.handles (position p t.handles)) j b ≡ get_or t.handles of.0 b = of.3 b in
    let not_it : of.0 ≢ at.place = λ e. of.2 (at.is ∙ ap Some (sym e)) in
    let same_d : (get_or t.handles of.0 b).descriptor ≡ (get_or t.handles at.place b).descriptor =
    ap (λ (x : Binding). x.descriptor) (sym one) ∙ same ∙ ap (λ (x : Binding). x.descriptor) (sym at.binding) in
    elim (cases_lt of.0 at.place) [
      | inl before ↦ (order.apart of.0 at.place b before at.within).descriptors same_d
      | inr later ↦ (order.apart at.place of.0 b (omega arith) of.1).descriptors (sym same_d)
    ])) in
    let rest_bound : All (λ (x : Binding). IsSome (description_number taken x.descriptor)) (without_place t.handles (position p t.handles)) =
    λ j d below. ap is_some (other (get_or (without_place t.handles (position p t.handles)) j d).descriptor (rest_elsewhere j d below)) ∙ All-rest_places (IsBound t) p t.handles order.bound j d below in
    let rest_apart_all = AllPairs-rest_places AreApart p t.handles order.apart in
    let long : length taken ≡ 64 = length-set t.descriptors b.descriptor None ∙ order.count in
    let before_it : (d number : ℕ) → description_number taken d ≡ Some number → (d ≢ b.descriptor) × (description_number t.descriptors d ≡ Some number) = λ d number is.
    (let apart : d ≢ b.descriptor = λ same. (let never : None ≡ Some number = sym here ∙ ap (description_number taken) (sym same) ∙ is in cc) in
    (apart, sym (other d apart) ∙ is)) in
    let number_here : (number : ℕ) → description_number t.descriptors b.descriptor ≡ Some number → number ≡ k = λ number is. (let both : Some number ≡ Some k = sym is ∙ has.1 in cc) in
    let key_is : k ≡ unwrap_or (description_number t.descriptors b.descriptor) 0 = ap (λ (o : Option ℕ). unwrap_or o 0) (sym has.1) in
    let by : (c : Bool) → list_any (has_key k) taken ≡ c → AreInOrder (cond c left (record left { descriptions = slice_set t.descriptions k None })) =
    λ c. elim c as (λ c. list_any (has_key k) taken ≡ c → AreInOrder (cond c left (record left { descriptions = slice_set t.descriptions k None }))) [
      | true ↦ λ any. record {
        count = long;
        bound = rest_bound;
        apart = rest_apart_all;
        described = λ d number is. order.described d number (before_it d number is).1;
        used = λ number is. (let was = order.used number is in
            elim (cases_eq was.0 b.descriptor) [
              | inl same ↦
                  let one : number ≡ k = number_here number (ap (description_number t.descriptors) (sym same) ∙ was.1) in
                  let there = any_key k taken any in
                  (there.0, there.1 ∙ ap Some (sym one))
              | inr apart ↦ (was.0, other was.0 apart ∙ was.1)
            ]);
      }
      | false ↦ λ none. record {
        count = long;
        bound = rest_bound;
        apart = rest_apart_all;
        described = λ d number is.
            (let apart : number ≢ k = λ same. none_key k taken d none (is ∙ ap Some same) in
            ap is_some (flat-set_other t.descriptions k number None apart) ∙ order.described d number (before_it d number is).1);
        used = λ number is.
            (let opens = some_of (description_at t k) (order.described b.descriptor k has.1) in
            let gone : option_flatten (slice_get (slice_set t.descriptions k None) k) ≡ None = flat-set_same t.descriptions k None (flat-within t.descriptions k opens.0 opens.1) in
            let apart : number ≢ k = λ same. (let never : false ≡ true = ap is_some (sym (ap (λ j. option_flatten (slice_get (slice_set t.descriptions k None) j)) same ∙ gone)) ∙ is in cc) in
            let was = order.used number (ap is_some (sym (flat-set_other t.descriptions k number None apart)) ∙ is) in
            let elsewhere : was.0 ≢ b.descriptor = λ same. apart (number_here number (ap (description_number t.descriptors) (sym same) ∙ was.1)) in
            (was.0, other was.0 elsewhere ∙ was.1));
      }
    ] in
    subst (λ j. AreInOrder (without_unused left j)) key_is (by (list_any (has_key k) taken) refl)

-- A close leaves the tables in order.
pub order-closed : (t : Tables) (who : Who) (handle : Handle) (b : Binding) → binding_of t.handles who handle ≡ Some b → AreInOrder t → AreInOrder (closed t who handle)
order-closed t who handle b bound order = subst AreInOrder (sym (closed-is t who handle b bound)) (order-without t b order (first_bound t.handles who handle b bound))

-- Where nothing is open, the tables are in order.
none_at : (n d : ℕ) → description_number (replicate n None) d ≡ None
none_at zero d = refl
none_at (suc n) zero = refl
none_at (suc n) (suc d) = none_at n d

pub order-nothing_open : AreInOrder nothing_open
order-nothing_open = record {
  count = length-replicate {A = Option ℕ} 64 None;
  bound = λ k d within. absurd (omega arith);
  apart = λ i j d before within. absurd (omega arith);
  described = λ d number is. (let never : None ≡ Some number = sym (none_at 64 d) ∙ is in cc);
  used = λ number is. cc;
}
