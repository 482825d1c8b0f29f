-- The rows of the small volume: which blocks are free, by computation, and the maps file block by file block.
use Rattle.std.proofs.Common.{◌≡◌, ℕ, zero, suc, ◌+◌, ◌-◌, ◌<◌, ◌≤◌, Bool, true, false, not, ◌⊎◌, List, [], ◌∷◌, length, get_or, None, refl, sym, ◌∙◌, ap, subst, inl, inr, zero-add, arith}
use Rattle.std.specs.Prelude.{AllPairs, ◌||◌, ◌==◌, nat_lt, if◌then◌else◌}
use Rattle.std.specs.List.{list_all, list_any, range_with_len}
use Rattle.std.proofs.lemmas.Bool.{both_ways, cases_eq, cases_lt, ltb-true, ne_eqb}
use Rattle.std.proofs.lemmas.Bool.Decides.{nat_tests}
use Rattle.std.proofs.lemmas.List.FromFn.{get_or-range_with_len, length-range_with_len}
use Rattle.std.proofs.lemmas.List.Elements.{All-cons, All-nil}
use Rattle.std.proofs.lemmas.List.Kept.{AllPairs-cons}
use Rattle.std.proofs.lemmas.List.Sums.{AllPass-from_list_all}
use Rattle.image_model.specs.Uses.{owners}
use Rattle.image_model.specs.Volume.{extents}
use Rattle.image_model.specs.block_counts.Counts.{chains_for}
use Rattle.image_model.specs.extent_model.declared.extent_words.Extent.{Extent}
use Rattle.image_model.specs.extent_model.Extents.{disk_at, holds, is_within, ComesAfter, IsCanonical, IsExtent}
use Rattle.image_model.specs.extent_model.Maps.{IsPart}
use Rattle.image_model.specs.extent_model.Moves.{Moves}
use Rattle.k_split_model.specs.MapChangesChanges.{Fills, HasInOrder, holes, in_order as order_of, with_other}
use Rattle.k_split_model.specs.MapChangesExample.{AreChangesOfExample, is_free, is_free_in, run, twice_staged}
use Rattle.k_split_model.specs.Taken.{AreLowest}

-- ---- the lowest free blocks

-- a block that is free is one of the list
abbrev is_listed : (ℕ → Bool) → List ℕ → ℕ → Bool
is_listed free blocks b = not (free b) || list_any (λ t. t == b) blocks

listed : (free : ℕ → Bool) (blocks : List ℕ) (b : ℕ) → is_listed free blocks b ≡ true → free b ≡ true → list_any (λ t. t == b) blocks ≡ true
listed free blocks b is passes = rw (← is) (rw passes refl)

below_top : (free : ℕ → Bool) (blocks : List ℕ) (top : ℕ) → AllPairs ◌<◌ blocks → list_all free blocks ≡ true
    → list_all (is_listed free blocks) (range_with_len 0 top) ≡ true → list_all (λ t. nat_lt t top) blocks ≡ true
    → AreLowest free (length blocks) blocks
below_top free blocks top rising were all low = record {
  count = refl;
  rising = rising;
  were_free = AllPass-from_list_all free blocks were;
  lowest = λ b is none. elim (cases_lt b top) [
    | inl below ↦
        let at = AllPass-from_list_all (is_listed free blocks) (range_with_len 0 top) all b 0 (omega (arith, length-range_with_len 0 top)) in
        let here : is_listed free blocks b ≡ true = subst (λ n. is_listed free blocks n ≡ true) (get_or-range_with_len 0 top b 0 below ∙ zero-add b) at in
        absurd (both_ways (list_any (λ t. t == b) blocks) none (listed free blocks b here is))
    | inr past ↦ λ k d within.
        let t = ltb-true (get_or blocks k d) top (AllPass-from_list_all (λ t. nat_lt t top) blocks low k d within) in
        omega (arith, t, past)
  ];
}

one : (a : ℕ) → AllPairs ◌<◌ (a ∷ [])
one a = AllPairs-cons ◌<◌ a [] (All-nil (λ b. a < b)) (λ i j d lt within. absurd (omega arith))

two : (a b : ℕ) → a < b → AllPairs ◌<◌ (a ∷ b ∷ [])
two a b lt = AllPairs-cons ◌<◌ a (b ∷ []) (All-cons (λ t. a < t) b [] lt (All-nil (λ t. a < t))) (one b)

four : (a b c d : ℕ) → a < b → b < c → c < d → AllPairs ◌<◌ (a ∷ b ∷ c ∷ d ∷ [])
four a b c d ab bc cd =
    AllPairs-cons ◌<◌ a (b ∷ c ∷ d ∷ [])
    (All-cons (λ t. a < t) b (c ∷ d ∷ []) ab
    (All-cons (λ t. a < t) c (d ∷ []) (omega arith) (All-cons (λ t. a < t) d [] (omega arith) (All-nil (λ t. a < t)))))
    (AllPairs-cons ◌<◌ b (c ∷ d ∷ []) (All-cons (λ t. b < t) c (d ∷ []) bc (All-cons (λ t. b < t) d [] (omega arith) (All-nil (λ t. b < t))))
    (two c d cd))

lowest-1 : AreLowest is_free 1 (13 ∷ [])
unfolding owners
lowest-1 = below_top is_free (13 ∷ []) 14 (one 13) refl refl refl

lowest-2 : AreLowest is_free 2 (13 ∷ 15 ∷ [])
unfolding owners
lowest-2 = below_top is_free (13 ∷ 15 ∷ []) 16 (two 13 15 (omega arith)) refl refl refl

lowest-4 : AreLowest is_free 4 (13 ∷ 15 ∷ 16 ∷ 17 ∷ [])
unfolding owners
lowest-4 = below_top is_free (13 ∷ 15 ∷ 16 ∷ 17 ∷ []) 18 (four 13 15 16 17 (omega arith) (omega arith) (omega arith)) refl refl refl

-- those of the volume with two staging files
lowest-behind : AreLowest (is_free_in twice_staged) 2 (16 ∷ 17 ∷ [])
unfolding owners
lowest-behind = below_top (is_free_in twice_staged) (16 ∷ 17 ∷ []) 18 (two 16 17 (omega arith)) refl refl refl

-- ---- maps of one extent and of two

extent : (e : Extent) → 1 ≤ e.count → e.file + e.count ≤ 4096 → e.disk + e.count ≤ 64 → IsExtent e
extent e filled in_file on_disk = record { filled = filled; in_file = in_file; on_disk = omega arith }

map-none : IsCanonical []
map-none = record { each = All-nil IsExtent; rising = λ i j d lt within. absurd (omega arith) }

map-one : (e : Extent) → IsExtent e → IsCanonical (e ∷ [])
map-one e is = record {
  each = All-cons IsExtent e [] is (All-nil IsExtent);
  rising = AllPairs-cons ComesAfter e [] (All-nil (ComesAfter e)) (λ i j d lt within. absurd (omega arith));
}

map-two : (e x : Extent) → IsExtent e → IsExtent x → e.file + e.count < x.file ⊎ (e.file + e.count ≤ x.file × e.disk + e.count < x.disk)
    → IsCanonical (e ∷ x ∷ [])
map-two e x e_is x_is apart = record {
  each = All-cons IsExtent e (x ∷ []) e_is (All-cons IsExtent x [] x_is (All-nil IsExtent));
  rising = AllPairs-cons ComesAfter e (x ∷ []) (All-cons (ComesAfter e) x [] after (All-nil (ComesAfter e)))
      (AllPairs-cons ComesAfter x [] (All-nil (ComesAfter x)) (λ i j d lt within. absurd (omega arith)));
}
  where
    after : ComesAfter e x
    after = elim apart [
      | inl far ↦ record { after = omega arith; apart = λ c. omega (arith, c.file) }
      | inr on ↦ record { after = on.0; apart = λ c. omega (arith, c.disk, on.1) }
    ]

-- a block from 4 on is in no extent that ends by 4
away : (e : Extent) (b : ℕ) → e.file + e.count ≤ 4 → 4 ≤ b → holds e b ≡ false
away e b ends past = grind (arith, nat_tests)

-- what holds of the blocks 0 to 3 and of all behind holds of each
each : (P : ℕ → Type 0) → P 0 → P 1 → P 2 → P 3 → ((b : ℕ) → 4 ≤ b → P b) → (b : ℕ) → P b
each P p0 p1 p2 p3 far zero = p0
each P p0 p1 p2 p3 far (suc zero) = p1
each P p0 p1 p2 p3 far (suc (suc zero)) = p2
each P p0 p1 p2 p3 far (suc (suc (suc zero))) = p3
each P p0 p1 p2 p3 far (suc (suc (suc (suc b)))) = far (suc (suc (suc (suc b)))) (omega arith)

-- the maps of the rows
abbrev old : List Extent
old = run 0 12 1 ∷ run 2 14 1 ∷ []

-- the far blocks have none
far-none : (e : Extent) (b : ℕ) → e.file + e.count ≤ 4 → 4 ≤ b → disk_at (e ∷ []) b ≡ None
far-none e b ends past = rw (away e b ends past) refl

far-two : (e x : Extent) (b : ℕ) → e.file + e.count ≤ 4 → x.file + x.count ≤ 4 → 4 ≤ b → disk_at (e ∷ x ∷ []) b ≡ None
far-two e x b ends x_ends past = rw (away e b ends past, away x b x_ends past) refl

outside : (first count b : ℕ) → first + count ≤ 4 → 4 ≤ b → is_within first count b ≡ false
outside first count b ends past = grind (arith, nat_tests)

not_below : (n b : ℕ) → n ≤ 4 → 4 ≤ b → nat_lt b n ≡ false
not_below n b small past = grind (arith, nat_tests)

-- the changed maps
first-canonical : IsCanonical (run 0 12 1 ∷ [])
first-canonical = map-one (run 0 12 1) (extent (run 0 12 1) (omega arith) (omega arith) (omega arith))

cut : IsPart (λ b. nat_lt b 1) old (run 0 12 1 ∷ [])
cut = record {
  canonical = first-canonical;
  blocks = each (λ b. disk_at (run 0 12 1 ∷ []) b ≡ (if nat_lt b 1 then disk_at old b else None)) refl refl refl refl (λ b past.
      far-none (run 0 12 1) b (omega arith) past ∙ sym (rw (not_below 1 b (omega arith) past) refl));
}

-- all of the map lies before block 3
all_left : IsPart (λ b. nat_lt b 3) old old
all_left = record {
  canonical = map-two (run 0 12 1) (run 2 14 1) (extent (run 0 12 1) (omega arith) (omega arith) (omega arith))
      (extent (run 2 14 1) (omega arith) (omega arith) (omega arith)) (inl (omega arith));
  blocks = each (λ b. disk_at old b ≡ (if nat_lt b 3 then disk_at old b else None)) refl refl refl refl (λ b past.
      far-two (run 0 12 1) (run 2 14 1) b (omega arith) (omega arith) past ∙ sym (rw (not_below 3 b (omega arith) past) refl));
}

fills : Fills 0 3 (13 ∷ []) old (run 0 12 3 ∷ [])
fills = record {
  canonical = map-one (run 0 12 3) (extent (run 0 12 3) (omega arith) (omega arith) (omega arith));
  each = refl;
  filled = λ k below. let zero_is : k ≡ 0 = omega arith in rw zero_is refl;
  others = each (λ b. list_any (λ hole. hole == b) (holes old 0 3) ≡ false → disk_at (run 0 12 3 ∷ []) b ≡ disk_at old b) (λ is. refl)
      (λ is. absurd (both_ways true is refl)) (λ is. refl) (λ is. refl)
      (λ b past is. far-none (run 0 12 3) b (omega arith) past ∙ sym (far-two (run 0 12 1) (run 2 14 1) b (omega arith) (omega arith) past));
}

in_order : HasInOrder (13 ∷ 15 ∷ 16 ∷ []) (run 0 13 1 ∷ run 1 15 2 ∷ [])
in_order = record {
  canonical = map-two (run 0 13 1) (run 1 15 2) (extent (run 0 13 1) (omega arith) (omega arith) (omega arith))
      (extent (run 1 15 2) (omega arith) (omega arith) (omega arith)) (inr (omega arith, omega arith));
  blocks = each (λ b. disk_at (run 0 13 1 ∷ run 1 15 2 ∷ []) b ≡ order_of (13 ∷ 15 ∷ 16 ∷ []) b) refl refl refl refl (λ b past.
      far-two (run 0 13 1) (run 1 15 2) b (omega arith) (omega arith) past ∙ sym (rw (not_below 3 b (omega arith) past) refl));
}

moves : Moves 1 2 1 (run 0 10 2 ∷ []) old (run 0 10 1 ∷ []) (run 0 12 1 ∷ run 2 11 1 ∷ []) (run 2 14 1 ∷ [])
moves = record {
  source = record {
    canonical = map-one (run 0 10 1) (extent (run 0 10 1) (omega arith) (omega arith) (omega arith));
    blocks = each (λ b. disk_at (run 0 10 1 ∷ []) b ≡ (if not (is_within 1 1 b) then disk_at (run 0 10 2 ∷ []) b else None)) refl refl refl refl
        (λ b past. far-none (run 0 10 1) b (omega arith) past
        ∙ sym (rw (outside 1 1 b (omega arith) past) (far-none (run 0 10 2) b (omega arith) past)));
  };
  canonical = map-two (run 0 12 1) (run 2 11 1) (extent (run 0 12 1) (omega arith) (omega arith) (omega arith))
      (extent (run 2 11 1) (omega arith) (omega arith) (omega arith)) (inl (omega arith));
  target = each (λ b. disk_at (run 0 12 1 ∷ run 2 11 1 ∷ []) b ≡ (if is_within 2 1 b then disk_at (run 0 10 2 ∷ []) (1 + (b - 2)) else disk_at old b))
      refl refl refl refl (λ b past.
      far-two (run 0 12 1) (run 2 11 1) b (omega arith) (omega arith) past
      ∙ sym (ap (λ t. if t then disk_at (run 0 10 2 ∷ []) (1 + (b - 2)) else disk_at old b) (outside 2 1 b (omega arith) past) ∙ far-two (run 0 12 1) (run 2 14 1) b (omega arith) (omega arith) past));
  freed = record {
    canonical = map-one (run 2 14 1) (extent (run 2 14 1) (omega arith) (omega arith) (omega arith));
    blocks = each (λ b. disk_at (run 2 14 1 ∷ []) b ≡ (if is_within 2 1 b then disk_at old b else None)) refl refl refl refl (λ b past.
        far-none (run 2 14 1) b (omega arith) past ∙ sym (ap (λ t. if t then disk_at old b else None) (outside 2 1 b (omega arith) past)));
  };
  source_count = refl;
  target_count = refl;
}

-- the first of two runs to file block 2, and the second
first_goes : Moves 0 2 1 (run 0 10 2 ∷ []) old (run 1 11 1 ∷ []) (run 0 12 1 ∷ run 2 10 1 ∷ []) (run 2 14 1 ∷ [])
first_goes = record {
  source = record {
    canonical = map-one (run 1 11 1) (extent (run 1 11 1) (omega arith) (omega arith) (omega arith));
    blocks = each (λ b. disk_at (run 1 11 1 ∷ []) b ≡ (if not (is_within 0 1 b) then disk_at (run 0 10 2 ∷ []) b else None)) refl refl refl refl
        (λ b past. far-none (run 1 11 1) b (omega arith) past
        ∙ sym (rw (outside 0 1 b (omega arith) past) (far-none (run 0 10 2) b (omega arith) past)));
  };
  canonical = map-two (run 0 12 1) (run 2 10 1) (extent (run 0 12 1) (omega arith) (omega arith) (omega arith))
      (extent (run 2 10 1) (omega arith) (omega arith) (omega arith)) (inl (omega arith));
  target = each (λ b. disk_at (run 0 12 1 ∷ run 2 10 1 ∷ []) b ≡ (if is_within 2 1 b then disk_at (run 0 10 2 ∷ []) (0 + (b - 2)) else disk_at old b))
      refl refl refl refl (λ b past.
      far-two (run 0 12 1) (run 2 10 1) b (omega arith) (omega arith) past
      ∙ sym (ap (λ t. if t then disk_at (run 0 10 2 ∷ []) (0 + (b - 2)) else disk_at old b) (outside 2 1 b (omega arith) past) ∙ far-two (run 0 12 1) (run 2 14 1) b (omega arith) (omega arith) past));
  freed = moves.freed;
  source_count = refl;
  target_count = refl;
}

abbrev between : List Extent
between = run 0 12 1 ∷ run 2 10 1 ∷ []

second_goes : Moves 0 2 1 (run 0 15 1 ∷ []) between [] (run 0 12 1 ∷ run 2 15 1 ∷ []) (run 2 10 1 ∷ [])
second_goes = record {
  source = record {
    canonical = map-none;
    blocks = each (λ b. disk_at [] b ≡ (if not (is_within 0 1 b) then disk_at (run 0 15 1 ∷ []) b else None)) refl refl refl refl
        (λ b past.
        sym (ap (λ t. if not t then disk_at (run 0 15 1 ∷ []) b else None) (outside 0 1 b (omega arith) past) ∙ far-none (run 0 15 1) b (omega arith) past));
  };
  canonical = map-two (run 0 12 1) (run 2 15 1) (extent (run 0 12 1) (omega arith) (omega arith) (omega arith))
      (extent (run 2 15 1) (omega arith) (omega arith) (omega arith)) (inl (omega arith));
  target = each (λ b. disk_at (run 0 12 1 ∷ run 2 15 1 ∷ []) b ≡ (if is_within 2 1 b then disk_at (run 0 15 1 ∷ []) (0 + (b - 2)) else disk_at between b))
      refl refl refl refl (λ b past.
      far-two (run 0 12 1) (run 2 15 1) b (omega arith) (omega arith) past
      ∙ sym (ap (λ t. if t then disk_at (run 0 15 1 ∷ []) (0 + (b - 2)) else disk_at between b) (outside 2 1 b (omega arith) past) ∙ far-two (run 0 12 1) (run 2 10 1) b (omega arith) (omega arith) past));
  freed = record {
    canonical = map-one (run 2 10 1) (extent (run 2 10 1) (omega arith) (omega arith) (omega arith));
    blocks = each (λ b. disk_at (run 2 10 1 ∷ []) b ≡ (if is_within 2 1 b then disk_at between b else None)) refl refl refl refl (λ b past.
        far-none (run 2 10 1) b (omega arith) past ∙ sym (ap (λ t. if t then disk_at between b else None) (outside 2 1 b (omega arith) past)));
  };
  source_count = refl;
  target_count = refl;
}

-- what the two staging files have left, and their chains then
abbrev both_left : ℕ → List Extent
both_left = with_other 2 [] (with_other 1 (run 1 11 1 ∷ []) (extents twice_staged))

abbrev both_chains : ℕ → List ℕ
both_chains x = if x == 1 then 17 ∷ [] else []

chains_left : (x : ℕ) → list_any (λ t. t == x) (1 ∷ 2 ∷ []) ≡ true → length (both_chains x) ≡ chains_for (length (both_left x))
chains_left x is = elim (cases_eq x 1) [
  | inl here ↦ subst (λ y. length (both_chains y) ≡ chains_for (length (both_left y))) (sym here) refl
  | inr away ↦ elim (cases_eq x 2) [
    | inl here ↦ subst (λ y. length (both_chains y) ≡ chains_for (length (both_left y))) (sym here) refl
    | inr apart ↦ absurd (both_ways (list_any (λ t. t == x) (1 ∷ 2 ∷ []))
        (rw (ne_eqb 1 x (λ same. away (sym same))) (rw (ne_eqb 2 x (λ same. apart (sym same))) refl)) is)
  ]
]

-- ---- the rows

pub rows : AreChangesOfExample
rows = record {
  sized = record {
    es = run 0 12 1 ∷ [];
    blocks = 13 ∷ [];
    cut = cut;
    count = refl;
    taken = inr (λ same. omega (arith, ap (λ (es : List Extent). length es) same), lowest-1);
    is_sized = refl;
  };
  shortened = record { es = old; blocks = 9 ∷ []; cut = all_left; count = refl; taken = inl (refl, refl); is_sized = refl };
  filled = record { es = run 0 12 3 ∷ []; blocks = 15 ∷ []; some = omega arith; fills = fills; taken = lowest-2; is_filled = refl };
  preallocated = record {
    fresh = 13 ∷ 15 ∷ 16 ∷ [];
    es = run 0 13 1 ∷ run 1 15 2 ∷ [];
    blocks = 17 ∷ [];
    size = refl;
    map = in_order;
    taken = lowest-4;
    is_preallocated = refl;
  };
  gives_up = refl;
  moved = record {
    left = run 0 10 1 ∷ [];
    linked = run 0 12 1 ∷ run 2 11 1 ∷ [];
    blocks = 13 ∷ [];
    rest = 15 ∷ [];
    moves = moves;
    size = refl;
    taken = lowest-2;
    is_moved = refl;
  };
  all_moved = record {
    left = both_left;
    linked = run 0 12 1 ∷ run 2 15 1 ∷ [];
    blocks = 16 ∷ [];
    rests = both_chains;
    moves = (
      run 1 11 1 ∷ [],
      between,
      run 2 14 1 ∷ [],
      run 2 10 1 ∷ [],
      first_goes,
      ([], run 0 12 1 ∷ run 2 15 1 ∷ [], run 2 10 1 ∷ [], [], second_goes, ((λ x. refl), refl, refl), refl),
      refl,
    );
    size = refl;
    sizes = chains_left;
    taken = lowest-behind;
    is_moved = refl;
  };
}
