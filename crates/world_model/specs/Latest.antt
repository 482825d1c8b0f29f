-- The entry of greatest order: lists with the same members have the same, and an entry behind all others is it.
use Rattle.std.specs.Prelude.{◌≡◌, ◌<◌, ◌≤◌, ℕ, ◌+◌, nat_lt, Bool, true, false, cond, List, [], ◌∷◌, ◌++◌, length, filter, Option, Some, None, refl}
use Rattle.std.proofs.Common.{arith, ap, ◌∙◌, sym, subst, inl, inr, lt-ltb}
use Rattle.std.proofs.lemmas.Bool.Decides.{nat_tests}
use Rattle.std.proofs.lemmas.Option.{same_Some}
use Rattle.name_laws.specs.layout_model.declared.lines.Draft.{Draft}
use Rattle.name_laws.specs.image_model.Live.{later_of, latest}
use Rattle.crash_spec.specs.list_laws.Filters.{filter-In}
use Rattle.crash_spec.specs.list_laws.Members.{In}
use Rattle.world_model.specs.Stands.{Consecutive}

-- the same entries are in both
pub record SameMembers (xs ys : List Draft) : Type 0 where
  pub on : (d : Draft) → In d xs → In d ys
  pub back : (d : Draft) → In d ys → In d xs

-- no two entries have one order
abbrev pub OneOrderEach : List Draft → Type 0
OneOrderEach ds = (d e : Draft) → In d ds → In e ds → d.order ≡ e.order → d ≡ e

-- all orders are below a number
abbrev pub AreBelow : ℕ → List Draft → Type 0
AreBelow n ds = (d : Draft) → In d ds → d.order < n

-- What the latest is: one of the entries, above which there is none.
pub latest-In : (ds : List Draft) (d : Draft) → latest ds ≡ Some d → In d ds
latest-In [] d is = cc
latest-In (x ∷ ds) d is = by (latest ds) refl is (latest-In ds) where
  pick : (b : Bool) (e : Draft) → cond b e x ≡ d → In e ds → In d (x ∷ ds)
  pick true e same there = inr (subst (λ y. In y ds) same there)
  pick false e same there = inl same

  by : (o : Option Draft) → latest ds ≡ o → later_of x o ≡ Some d → ((e : Draft) → latest ds ≡ Some e → In e ds) → In d (x ∷ ds)
  by None found same rest = inl (same_Some x d same)
  by (Some e) found same rest = pick (nat_lt x.order e.order) e (same_Some (cond (nat_lt x.order e.order) e x) d same) (rest e found)

pub latest-most : (ds : List Draft) (d e : Draft) → latest ds ≡ Some d → In e ds → e.order ≤ d.order
latest-most [] d e is there = absurd there
latest-most (x ∷ ds) d e is there = by (latest ds) refl is there (latest-most ds) where
  nothing : (ys : List Draft) → latest ys ≡ None → In e ys → ⊥
  nothing [] none in_it = in_it
  nothing (y ∷ ys) none in_it = first (latest ys) none where
    first : (o : Option Draft) → later_of y o ≡ None → ⊥
    first None is_none = cc
    first (Some z) is_none = cc

  past : (a b : ℕ) → nat_lt a b ≡ false → b ≤ a
  past a b test = grind (arith, nat_tests)

  before : (a b : ℕ) → nat_lt a b ≡ true → a ≤ b
  before a b test = grind (arith, nat_tests)

  pick : (b : Bool) (y : Draft) → nat_lt x.order y.order ≡ b → cond b y x ≡ d → ((z : Draft) → In z ds → z.order ≤ y.order) → In e (x ∷ ds) → e.order ≤ d.order
  pick true y test same rest (inl first) = omega (arith, ap (λ (z : Draft). z.order) first, ap (λ (z : Draft). z.order) same, before x.order y.order test)
  pick true y test same rest (inr behind) = omega (arith, rest e behind, ap (λ (z : Draft). z.order) same)
  pick false y test same rest (inl first) = omega (arith, ap (λ (z : Draft). z.order) first, ap (λ (z : Draft). z.order) same)
  pick false y test same rest (inr behind) = omega (arith, rest e behind, past x.order y.order test, ap (λ (z : Draft). z.order) same)

  by : (o : Option Draft) → latest ds ≡ o → later_of x o ≡ Some d → In e (x ∷ ds) → ((y z : Draft) → latest ds ≡ Some y → In z ds → z.order ≤ y.order) → e.order ≤ d.order
  by None found same (inl first) rest = omega (arith, ap (λ (z : Draft). z.order) first, ap (λ (z : Draft). z.order) (same_Some x d same))
  by None found same (inr behind) rest = absurd (nothing ds found behind)
  by (Some y) found same in_it rest =
      pick (nat_lt x.order y.order) y refl (same_Some (cond (nat_lt x.order y.order) y x) d same) (λ z is_in. rest y z found is_in) in_it

pub latest-none : (ds : List Draft) (e : Draft) → latest ds ≡ None → In e ds → ⊥
latest-none [] e none there = there
latest-none (x ∷ ds) e none there = by (latest ds) none where
  by : (o : Option Draft) → later_of x o ≡ None → ⊥
  by None is = cc
  by (Some y) is = cc

-- Lists with the same members have the same latest entry.
pub latest-same_members : (xs ys : List Draft) → SameMembers xs ys → OneOrderEach ys → latest xs ≡ latest ys
latest-same_members xs ys same one = by (latest xs) (latest ys) refl refl where
  by : (a b : Option Draft) → latest xs ≡ a → latest ys ≡ b → latest xs ≡ latest ys
  by None None first second = first ∙ sym second
  by None (Some d) first second = absurd (latest-none xs d first (same.back d (latest-In ys d second)))
  by (Some d) None first second = absurd (latest-none ys d second (same.on d (latest-In xs d first)))
  by (Some d) (Some e) first second =
      let mine : In d ys = same.on d (latest-In xs d first) in
      let its : In e ys = latest-In ys e second in
      let order : d.order ≡ e.order = omega (arith, latest-most xs d e first (same.back e its), latest-most ys e d second mine) in
      first ∙ (ap Some (one d e mine its order) ∙ sym second)

-- An entry behind all others is the latest.
pub latest-append_last : (ds : List Draft) (d : Draft) → AreBelow d.order ds → latest (ds ++ d ∷ []) ≡ Some d
latest-append_last [] d below = refl
latest-append_last (x ∷ ds) d below =
    ap (later_of x) (latest-append_last ds d (λ e is. below e (inr is)))
    ∙ ap (λ (b : Bool). Some (cond b d x)) (lt-ltb x.order d.order (below x (inl refl)))

-- Orders that go on one by one.

pub Consecutive-append : (last : ℕ) (ds : List Draft) (d : Draft) → Consecutive last ds → d.order ≡ last + length ds + 1 → Consecutive last (ds ++ d ∷ [])
Consecutive-append last [] d go_on order = (omega (arith, order), tt)
Consecutive-append last (x ∷ ds) d go_on order = (go_on.0, Consecutive-append (last + 1) ds d go_on.1 (omega (arith, order)))

-- they are above the last, and as far above as there are entries
pub Consecutive-between : (last : ℕ) (ds : List Draft) (d : Draft) → Consecutive last ds → In d ds → (last < d.order) × (d.order ≤ last + length ds)
Consecutive-between last [] d go_on is = absurd is
Consecutive-between last (x ∷ ds) d go_on (inl same) =
    let order : x.order ≡ d.order = ap (λ (z : Draft). z.order) same in
    (omega (arith, order, go_on.0), omega (arith, order, go_on.0))
Consecutive-between last (x ∷ ds) d go_on (inr is) =
    let behind = Consecutive-between (last + 1) ds d go_on.1 is in
    (omega (arith, behind.0), omega (arith, behind.1))

pub AreBelow-Consecutive : (last n : ℕ) (ds : List Draft) → Consecutive last ds → last + length ds < n → AreBelow n ds
AreBelow-Consecutive last n ds go_on long d is = omega (arith, (Consecutive-between last ds d go_on is).1, long)

pub OneOrderEach-Consecutive : (last : ℕ) (ds : List Draft) → Consecutive last ds → OneOrderEach ds
OneOrderEach-Consecutive last [] go_on d e d_is e_is same = absurd d_is
OneOrderEach-Consecutive last (x ∷ ds) go_on d e (inl first) (inl second) same = sym first ∙ second
OneOrderEach-Consecutive last (x ∷ ds) go_on d e (inl first) (inr behind) same =
    absurd (omega (arith, (Consecutive-between (last + 1) ds e go_on.1 behind).0, go_on.0, ap (λ (z : Draft). z.order) first, same))
OneOrderEach-Consecutive last (x ∷ ds) go_on d e (inr behind) (inl second) same =
    absurd (omega (arith, (Consecutive-between (last + 1) ds d go_on.1 behind).0, go_on.0, ap (λ (z : Draft). z.order) second, same))
OneOrderEach-Consecutive last (x ∷ ds) go_on d e (inr first) (inr second) same = OneOrderEach-Consecutive (last + 1) ds go_on.1 d e first second same

-- What holds of all entries holds of those that pass a test.
pub AreBelow-filter : (p : Draft → Bool) (n : ℕ) (ds : List Draft) → AreBelow n ds → AreBelow n (filter p ds)
AreBelow-filter p n ds below d is = below d (filter-In p ds d is).0

pub OneOrderEach-filter : (p : Draft → Bool) (ds : List Draft) → OneOrderEach ds → OneOrderEach (filter p ds)
OneOrderEach-filter p ds one d e d_is e_is same = one d e (filter-In p ds d d_is).0 (filter-In p ds e e_is).0 same
