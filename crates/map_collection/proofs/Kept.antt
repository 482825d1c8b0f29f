-- What the regions have of a file block, by the region that has it.
use Rattle.std.proofs.Common.{arith, ap, sym, ◌∙◌, ◌≡◌, ◌≢◌, ◌≤◌, ◌<◌, ◌+◌, ◌-◌, ◌*◌, ◌/◌, ◌%◌, ℕ, suc, zero, Bool, true, false, cond, nat_eq, nat_lt, List, [], ◌∷◌, find, get_or, map, Option, Some, None, refl, inl, inr}
use Rattle.std.specs.Prelude.{◌&&◌}
use Rattle.std.specs.Global.{Vec}
use Rattle.std.specs.List.{range_with_len}
use Rattle.std.specs.Map.{lookup}
use Rattle.std.specs.Option.{option_map, option_or}
use Rattle.std.specs.Ordering.{nat_cmp}
use Rattle.std.specs.BTreeMap.{is_at, get, BTreeMap}
use Rattle.std.proofs.lemmas.Bool.{cases_Bool, cases_lt}
use Rattle.std.proofs.lemmas.Bool.Decides.{nat_tests}
use Rattle.std.proofs.lemmas.List.Folds.{find-append}
use Rattle.extent_map.specs.extent_model.declared.extent_words.Extent.{Extent}
use Rattle.extent_map.specs.extent_model.Extents.{disk_at, is_between}
use Rattle.map_collection.specs.Kept.{is_for, kept_for, Agrees, Answer, KeepsOthers}
use Rattle.map_collection.specs.Regions.{answer_at, answers_in, answers_of, region_of}

-- the element of a block, among those of blocks in order
in_order : {X : Type 0} (p : X → Bool) (f : ℕ → X) (b : Bool) (base block : ℕ) → ((i : ℕ) → p (f i) ≡ b && nat_eq (base + i) block) → (a n : ℕ)
    → find p (map f (range_with_len a n)) ≡ cond (b && is_between (base + a) (base + a + n) block) (Some (f (block - base))) None
in_order p f false base block test a zero = refl
in_order p f true base block test a zero =
    let none : is_between (base + a) (base + a + 0) block ≡ false = grind (arith, nat_tests) in
    ap (λ h. cond h (Some (f (block - base))) None) (sym none)
in_order p f false base block test a (suc n) =
    ap (λ h. cond h (Some (f a)) (find p (map f (range_with_len (a + 1) n)))) (test a) ∙ in_order p f false base block test (a + 1) n
in_order p f true base block test a (suc n) = ap (λ h. cond h (Some (f a)) (find p (map f (range_with_len (a + 1) n)))) (test a)
    ∙ ap (λ o. cond (nat_eq (base + a) block) (Some (f a)) o) (in_order p f true base block test (a + 1) n)
    ∙ elim (cases_Bool (nat_eq (base + a) block)) [
      | inl here ↦ (
          let is : a ≡ block - base = grind (arith, nat_tests) in
          let within : is_between (base + a) (base + a + suc n) block ≡ true = grind (arith, nat_tests) in
          ap (λ h. cond h (Some (f a)) (cond (is_between (base + (a + 1)) (base + (a + 1) + n) block) (Some (f (block - base))) None)) here
          ∙ ap (λ k. Some (f k)) is
          ∙ ap (λ h. cond h (Some (f (block - base))) None) (sym within))
      | inr other ↦ (
          let same : is_between (base + (a + 1)) (base + (a + 1) + n) block ≡ is_between (base + a) (base + a + suc n) block = grind (arith, nat_tests) in
          ap (λ h. cond h (Some (f a)) (cond (is_between (base + (a + 1)) (base + (a + 1) + n) block) (Some (f (block - base))) None)) other
          ∙ ap (λ h. cond h (Some (f (block - base))) None) same)
    ]

-- whether a region has a file block of an inode
abbrev pub has : ℕ → ℕ → ℕ → Bool
has region ino block = nat_eq (region / 8) ino && is_between (region % 8 * 512) (region % 8 * 512 + 512) block

in_region : (ino block : ℕ) (entry : ℕ × Vec (Option ℕ)) → find (is_for ino block) (answers_of entry)
    ≡ cond (has entry.0 ino block) (Some (answer_at entry.0 entry.1.items (block - entry.0 % 8 * 512))) None
in_region ino block entry =
    in_order (is_for ino block) (answer_at entry.0 entry.1.items) (nat_eq (entry.0 / 8) ino) (entry.0 % 8 * 512) block (λ i. refl) 0 512
    ∙ ap (λ (base : ℕ). cond (nat_eq (entry.0 / 8) ino && is_between base (base + 512) block) (Some (answer_at entry.0 entry.1.items (block - entry.0 % 8 * 512))) None)
    (let start : entry.0 % 8 * 512 + 0 ≡ entry.0 % 8 * 512 = omega arith in start)

-- a region has a block where it is the block's region
pub has_its_own : (region ino block : ℕ) → block < 4096 → has region ino block ≡ is_at (nat_cmp (region_of ino block)) region
has_its_own region ino block low = grind (arith, nat_tests)

pub has_none_behind : (region ino block : ℕ) → 4096 ≤ block → has region ino block ≡ false
has_none_behind region ino block high = grind (arith, nat_tests)

-- the disk block that a region has of a file block
abbrev pub disk_in_region : ℕ → Vec (Option ℕ) → Option ℕ
disk_in_region block disks = get_or disks.items (block % 512) None

-- what is kept for a file block: what its region has, and nothing from block 4,096 on
abbrev pub kept_at : List (ℕ × Vec (Option ℕ)) → ℕ → ℕ → Option (Option ℕ)
kept_at es ino block = cond (nat_lt block 4096) (option_map (disk_in_region block) (lookup (is_at (nat_cmp (region_of ino block))) es)) None

nothing : (h : Bool) → kept_for [] 0 0 ≡ cond h (option_map (disk_in_region 0) None) None
nothing true = refl
nothing false = refl

pub kept_is : (es : List (ℕ × Vec (Option ℕ))) (ino block : ℕ) → kept_for (answers_in es) ino block ≡ kept_at es ino block
kept_is [] ino block = nothing (nat_lt block 4096)
kept_is (e ∷ es) ino block =
    let rest : Option Answer = find (is_for ino block) (answers_in es) in
    let found : Answer = answer_at e.0 e.1.items (block - e.0 % 8 * 512) in
    let disk : Answer → Option ℕ = λ (answer : Answer). answer.disk in
    ap (option_map disk) (find-append (is_for ino block) (answers_of e) (answers_in es) ∙ ap (λ o. option_or o rest) (in_region ino block e))
    ∙ elim (cases_lt block 4096) [
      | inr high ↦ (
          let past : nat_lt block 4096 ≡ false = grind (arith, nat_tests) in
          ap (λ h. option_map disk (option_or (cond h (Some found) None) rest)) (has_none_behind e.0 ino block high)
          ∙ kept_is es ino block
          ∙ ap (λ h. cond h (option_map (disk_in_region block) (lookup (is_at (nat_cmp (region_of ino block))) es)) None) past
          ∙ ap (λ h. cond h (option_map (disk_in_region block) (lookup (is_at (nat_cmp (region_of ino block))) (e ∷ es))) None) (sym past))
      | inl low ↦ (
          let before : nat_lt block 4096 ≡ true = grind (arith, nat_tests) in
          let own = has_its_own e.0 ino block low in
          let of : Option (Vec (Option ℕ)) → Option (Option ℕ) = λ o. cond (nat_lt block 4096) (option_map (disk_in_region block) o) None in
          let later : Option (Vec (Option ℕ)) = lookup (is_at (nat_cmp (region_of ino block))) es in
          elim (cases_Bool (has e.0 ino block)) [
            | inl here ↦ (
                let at : block - e.0 % 8 * 512 ≡ block % 512 = grind (arith, nat_tests) in
                ap (λ h. option_map disk (option_or (cond h (Some found) None) rest)) here
                ∙ ap (λ i. Some (get_or e.1.items i None)) at
                ∙ ap (λ h. cond h (Some (disk_in_region block e.1)) None) (sym before)
                ∙ ap (λ h. of (cond h (Some e.1) later)) (sym here ∙ own))
            | inr other ↦ (
                ap (λ h. option_map disk (option_or (cond h (Some found) None) rest)) other
                ∙ kept_is es ino block
                ∙ ap (λ h. of (cond h (Some e.1) later)) (sym other ∙ own))
          ])
    ]

pub kept_found : (es : List (ℕ × Vec (Option ℕ))) (ino block : ℕ) (disks : Vec (Option ℕ)) → block < 4096
    → lookup (is_at (nat_cmp (region_of ino block))) es ≡ Some disks → kept_for (answers_in es) ino block ≡ Some (disk_in_region block disks)
kept_found es ino block disks low found =
    let before : nat_lt block 4096 ≡ true = grind (arith, nat_tests) in
    kept_is es ino block ∙ ap (λ h. cond h (option_map (disk_in_region block) (lookup (is_at (nat_cmp (region_of ino block))) es)) None) before
    ∙ ap (option_map (disk_in_region block)) found

-- the map of the regions with w where the test holds
module _ (old new : BTreeMap ℕ (Vec (Option ℕ))) (test : ℕ → Bool) (w : Option (Vec (Option ℕ)))
    (changed : (q : ℕ) → get nat_cmp new q ≡ cond (test q) w (get nat_cmp old q)) where
  pub kept_there : (ino block : ℕ) → block < 4096 → test (region_of ino block) ≡ true
      → kept_for (answers_in new.entries) ino block ≡ option_map (disk_in_region block) w
  kept_there ino block low there =
      let before : nat_lt block 4096 ≡ true = grind (arith, nat_tests) in
      kept_is new.entries ino block
      ∙ ap (λ h. cond h (option_map (disk_in_region block) (get nat_cmp new (region_of ino block))) None) before
      ∙ ap (option_map (disk_in_region block)) (changed (region_of ino block) ∙ ap (λ h. cond h w (get nat_cmp old (region_of ino block))) there)

  pub kept_elsewhere : (ino block : ℕ) → test (region_of ino block) ≡ false
      → kept_for (answers_in new.entries) ino block ≡ kept_for (answers_in old.entries) ino block
  kept_elsewhere ino block elsewhere =
      kept_is new.entries ino block
      ∙ ap (λ o. cond (nat_lt block 4096) (option_map (disk_in_region block) o) None) (changed (region_of ino block) ∙ ap (λ h. cond h w (get nat_cmp old (region_of ino block))) elsewhere)
      ∙ sym (kept_is old.entries ino block)

pub kept_behind : (es : List (ℕ × Vec (Option ℕ))) (ino block : ℕ) → 4096 ≤ block → kept_for (answers_in es) ino block ≡ None
kept_behind es ino block high =
    let past : nat_lt block 4096 ≡ false = grind (arith, nat_tests) in
    kept_is es ino block ∙ ap (λ h. cond h (option_map (disk_in_region block) (lookup (is_at (nat_cmp (region_of ino block))) es)) None) past

-- what is kept of an inode agrees with its map once a region is taken from it
pub agrees_with_region : (old new : BTreeMap ℕ (Vec (Option ℕ))) (ino block : ℕ) (map : List Extent) (disks : Vec (Option ℕ))
    → ((q : ℕ) → get nat_cmp new q ≡ cond (is_at (nat_cmp (region_of ino block)) q) (Some disks) (get nat_cmp old q))
    → ((i : ℕ) → i < 512 → get_or disks.items i None ≡ disk_at map (block / 512 * 512 + i))
    → Agrees (answers_in old.entries) ino map → Agrees (answers_in new.entries) ino map
agrees_with_region old new ino block map disks changed taken agrees b d kept = elim (cases_lt b 4096) [
  | inr high ↦ (let never : Some d ≡ None = sym kept ∙ kept_behind new.entries ino b high in cc)
  | inl low ↦ elim (cases_Bool (is_at (nat_cmp (region_of ino block)) (region_of ino b))) [
    | inr other ↦ agrees b d (sym (kept_elsewhere old new (is_at (nat_cmp (region_of ino block))) (Some disks) changed ino b other) ∙ kept)
    | inl there ↦ (
        let is : Some (get_or disks.items (b % 512) None) ≡ Some d =
        sym (kept_there old new (is_at (nat_cmp (region_of ino block))) (Some disks) changed ino b low there) ∙ kept in
        let same : block / 512 * 512 + b % 512 ≡ b = grind (arith, nat_tests) in
        let disk : get_or disks.items (b % 512) None ≡ d = cc in
        sym disk ∙ taken (b % 512) (omega arith) ∙ ap (disk_at map) same)
  ]
]

-- the region of another inode's block is another one
pub other_region : (ino block other b : ℕ) → block < 4096 → b < 4096 → other ≢ ino → is_at (nat_cmp (region_of ino block)) (region_of other b) ≡ false
other_region ino block other b low lower apart = grind (arith, nat_tests)

pub keeps_others : (old new : BTreeMap ℕ (Vec (Option ℕ))) (ino : ℕ) (test : ℕ → Bool) (w : Option (Vec (Option ℕ)))
    → ((q : ℕ) → get nat_cmp new q ≡ cond (test q) w (get nat_cmp old q))
    → ((other b : ℕ) → b < 4096 → other ≢ ino → test (region_of other b) ≡ false)
    → KeepsOthers ino (answers_in old.entries) (answers_in new.entries)
keeps_others old new ino test w changed elsewhere other b apart = elim (cases_lt b 4096) [
  | inr high ↦ kept_behind new.entries other b high ∙ sym (kept_behind old.entries other b high)
  | inl low ↦ kept_elsewhere old new test w changed other b (elsewhere other b low apart)
]
