-- What is live once an entry is relinked.
use Rattle.std.specs.Prelude.{◌≡◌, ◌≢◌, ◌≤◌, ◌<◌, ◌+◌, ◌==◌, ◌&&◌, ◌||◌, not, nat_lt, ℕ, Bool, true, false, cond, List, [], ◌∷◌, filter, length, map, refl}
use Rattle.std.proofs.Common.{arith, ap, ◌∙◌, sym, subst, inl, inr}
use Rattle.std.proofs.lemmas.Bool.{cases_eq, eq-eqb, lt-ltb, ne_eqb}
use Rattle.std.proofs.lemmas.Bool.Decides.{Decides-eqb, nat_tests}
use Rattle.live_step_laws.specs.extent_model.declared.extent_words.Extent.{Extent}
use Rattle.live_step_laws.specs.layout_model.declared.lines.Draft.{Draft}
use Rattle.live_step_laws.specs.image_model.Live.{is_file, is_live, is_of_file}
use Rattle.live_step_laws.specs.image_model.Volume.{inode, Volume}
use Rattle.live_step_laws.specs.list_laws.Filters.{filter-agree, filter-both, filter-In}
use Rattle.live_step_laws.specs.list_laws.Members.{In}
use Rattle.live_step_laws.specs.world_model.Jobs.{live_claims}
use Rattle.live_step_laws.specs.world_model.Stands.{Consecutive, entries_of}
use Rattle.live_step_laws.specs.world_model.Latest.{Consecutive-between}
use Rattle.log_checkpoint.specs.fsync_relink.world_write_laws.Relinks.{Relinks}

-- ---- filters

-- where all pass
filter-all : (p : Draft → Bool) (xs : List Draft) → ((e : Draft) → In e xs → p e ≡ true) → filter p xs ≡ xs
filter-all p [] all = refl
filter-all p (x ∷ xs) all = ap (λ b. cond b (x ∷ filter p xs) (filter p xs)) (all x (inl refl)) ∙ ap (λ ys. x ∷ ys) (filter-all p xs (λ e is. all e (inr is)))

-- no more pass than there are
filter-few : (p : Draft → Bool) (xs : List Draft) → length (filter p xs) ≤ length xs
filter-few p [] = omega arith
filter-few p (x ∷ xs) = by (p x) refl (filter-few p xs) where
  by : (b : Bool) → p x ≡ b → length (filter p xs) ≤ length xs → length (filter p (x ∷ xs)) ≤ length (x ∷ xs)
  by true is rest = rw is (omega (arith, rest))
  by false is rest = rw is (omega (arith, rest))

-- where one fails
filter-fails : (p : Draft → Bool) (xs : List Draft) (x : Draft) → In x xs → p x ≡ false → length (filter p xs) + 1 ≤ length xs
filter-fails p [] x is fails = absurd is
filter-fails p (y ∷ ys) x (inl same) fails =
    let out : filter p (y ∷ ys) ≡ filter p ys = ap (λ b. cond b (y ∷ filter p ys) (filter p ys)) (ap p same ∙ fails) in
    omega (arith, ap length out, filter-few p ys)
filter-fails p (y ∷ ys) x (inr behind) fails = by (p y) refl (filter-fails p ys x behind fails) where
  by : (b : Bool) → p y ≡ b → length (filter p ys) + 1 ≤ length ys → length (filter p (y ∷ ys)) + 1 ≤ length (y ∷ ys)
  by true is rest = rw is (omega (arith, rest))
  by false is rest = rw is (omega (arith, rest))

-- ---- an entry is left: it is of another file, or a later one

abbrev pub is_left : Draft → Draft → Bool
is_left d e = not (e.ino == d.ino) || nat_lt d.order e.order

left-other : (d e : Draft) → e.ino ≢ d.ino → is_left d e ≡ true
left-other d e other = ap (λ b. not b || nat_lt d.order e.order) (ne_eqb e.ino d.ino other)

left-own : (d e : Draft) → e.ino ≡ d.ino → is_left d e ≡ nat_lt d.order e.order
left-own d e own = ap (λ b. not b || nat_lt d.order e.order) (eq-eqb e.ino d.ino own)

not-itself : (d : Draft) → is_left d d ≡ false
not-itself d = left-own d d refl ∙ none d.order where
  none : (n : ℕ) → nat_lt n n ≡ false
  none n = grind (arith, nat_tests)

module _ (v w : Volume) (d : Draft) (displaced : List Extent) (change : Relinks v w d displaced) (applied : (inode v d.ino).applied < d.order) where
  of-file : (e : Draft) → is_of_file w e ≡ is_of_file v e
  of-file e = λ i. is_file ((change.same e.ino).kind i) && ((change.same e.ino).generation i == e.generation)

  -- live then is what was live and is left
  live-then : (e : Draft) → is_live w e ≡ (is_live v e && is_left d e)
  live-then e = elim (cases_eq e.ino d.ino) [
    | inr other ↦ same (change.applied_others e.ino other) ∙ sym (and_true (is_live v e) (is_left d e) (left-other d e other))
    | inl own ↦
        (λ i. of-file e i && nat_lt ((ap (λ k. (inode w k).applied) own ∙ change.applied) i) e.order && ((change.same e.staging).generation i == e.staging_generation))
        ∙ (by (is_of_file v e) (nat_lt (inode v e.ino).applied e.order) (nat_lt d.order e.order) ((inode v e.staging).generation == e.staging_generation)
        (above (inode v e.ino).applied d.order e.order (subst (λ k. (inode v k).applied < d.order) (sym own) applied))
        ∙ ap (λ b. is_live v e && b) (sym (left-own d e own)))
  ]
    where
      same : (inode w e.ino).applied ≡ (inode v e.ino).applied → is_live w e ≡ is_live v e
      same is = λ i. of-file e i && nat_lt (is i) e.order && ((change.same e.staging).generation i == e.staging_generation)

      and_true : (a b : Bool) → b ≡ true → (a && b) ≡ a
      and_true true b is = is
      and_true false b is = refl

      above : (a n m : ℕ) → a < n → nat_lt n m ≡ true → nat_lt a m ≡ true
      above a n m low is = grind (arith, nat_tests, low, is)

      by : (file older later staged : Bool) → (later ≡ true → older ≡ true) → (file && later && staged) ≡ (file && older && staged && later)
      by true true true true imp = refl
      by true true true false imp = refl
      by true true false true imp = refl
      by true true false false imp = refl
      by true false false true imp = refl
      by true false false false imp = refl
      by true false true staged imp = let never : false ≡ true = imp refl in cc
      by false older later staged imp = refl

  module _ (claims : List (ℕ × Draft)) where
    pub live-left : live_claims w claims ≡ filter (is_left d) (live_claims v claims)
    live-left =
        filter-agree (is_live w) (λ e. is_live v e && is_left d e) (map (λ (c : ℕ × Draft). c.1) claims) (λ e is. live-then e)
        ∙ filter-both (is_live v) (is_left d) (map (λ (c : ℕ × Draft). c.1) claims)

    pub still-live : (e : Draft) → In e (live_claims w claims) → In e (live_claims v claims)
    still-live e is = (filter-In (is_left d) (live_claims v claims) e (subst (In e) live-left is)).0

    pub one-less : In d (live_claims v claims) → length (live_claims w claims) + 1 ≤ length (live_claims v claims)
    one-less there = subst (λ ds. length ds + 1 ≤ length (live_claims v claims)) (sym live-left) (filter-fails (is_left d) (live_claims v claims) d there (not-itself d))

    -- the entries of other files, and of its own
    pub entries-other : (i : ℕ) → i ≢ d.ino → entries_of i (live_claims w claims) ≡ entries_of i (live_claims v claims)
    entries-other i other =
        ap (entries_of i) live-left
        ∙ (sym (filter-both (is_left d) (λ e. e.ino == i) (live_claims v claims))
        ∙ filter-agree (λ e. is_left d e && (e.ino == i)) (λ e. e.ino == i) (live_claims v claims) (λ e is. by e (e.ino == i) refl))
      where
        by : (e : Draft) (b : Bool) → (e.ino == i) ≡ b → (is_left d e && b) ≡ b
        by e true own = ap (λ c. c && true) (left-other d e (λ same. other (sym ((Decides-eqb e.ino i).0 own) ∙ same)))
        by e false own = none (is_left d e) where
          none : (c : Bool) → (c && false) ≡ false
          none true = refl
          none false = refl

    pub entries-own : (ds : List Draft) → entries_of d.ino (live_claims v claims) ≡ d ∷ ds → Consecutive (inode v d.ino).applied (d ∷ ds) → entries_of d.ino (live_claims w claims) ≡ ds
    entries-own ds first go_on =
        ap (entries_of d.ino) live-left
        ∙ (swapped (is_left d) (λ e. e.ino == d.ino) (live_claims v claims)
        ∙ (ap (filter (is_left d)) first
        ∙ (ap (λ b. cond b (d ∷ filter (is_left d) ds) (filter (is_left d) ds)) (not-itself d)
        ∙ filter-all (is_left d) ds (λ e is. later e is))))
      where
        swapped : (p q : Draft → Bool) (xs : List Draft) → filter q (filter p xs) ≡ filter p (filter q xs)
        swapped p q xs = sym (filter-both p q xs) ∙ (filter-agree (λ e. p e && q e) (λ e. q e && p e) xs (λ e is. by (p e) (q e)) ∙ filter-both q p xs) where
          by : (a b : Bool) → (a && b) ≡ (b && a)
          by true true = refl
          by true false = refl
          by false true = refl
          by false false = refl

        later : (e : Draft) → In e ds → is_left d e ≡ true
        later e is =
            let between = Consecutive-between ((inode v d.ino).applied + 1) ds e go_on.1 is in
            let above : nat_lt d.order e.order ≡ true = lt-ltb d.order e.order (omega (arith, between.0, go_on.0)) in
            either (e.ino == d.ino) above
          where
            either : (b : Bool) → nat_lt d.order e.order ≡ true → (not b || nat_lt d.order e.order) ≡ true
            either true above = above
            either false above = refl
