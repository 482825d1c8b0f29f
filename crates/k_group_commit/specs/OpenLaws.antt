-- Laws of changes that gather: what a commit and a change that joins make of them.
use Rattle.std.specs.Prelude.{All, ◌≡◌, ◌⊎◌, ◌<◌, ◌-◌, ℕ, zero, suc, ◌∷◌, Bool, true, false, not, ◌&&◌, ◌||◌, List, [], ◌++◌, length, get_or, refl}
use Rattle.std.proofs.Common.{arith, ap, sym, ◌∙◌, subst, inl, inr}
use Rattle.std.proofs.lemmas.Bool.{both_ways, cases_Bool, cases_lt}
use Rattle.std.proofs.lemmas.Grind.{flat_map-append}
use Rattle.std.proofs.lemmas.List.{get_or_append_left, get_or-append_right, length-append}
use Rattle.pm_lines.specs.pm_model.declared.Cell.{Cell}
use Rattle.k_plans.specs.block_pool.FreeSets.{is_among}
use Rattle.k_plans.specs.extent_model.Extents.{covers}
use Rattle.k_plans.specs.image_model.Placed.{block_at}
use Rattle.k_plans.specs.image_model.Rules.{file_blocks_of}
use Rattle.k_plans.specs.image_model.Volume.{chain, extents, inode, Volume}
use Rattle.k_plans.specs.k_journal.declared.batches.Record.{Record}
use Rattle.k_plans.specs.Free.{AreKeptBack, is_free_block, is_freed}
use Rattle.k_plans.specs.LandingsPlans.{NewChain, blocks_of}
use Rattle.k_plans.specs.Maps.{AreApart}
use Rattle.k_plans.specs.Switching.{IsHeld, with_waiting}
use Rattle.k_plans.specs.View.{TablesView}
use Rattle.k_plans.specs.Whole.{IsWhole}
use Rattle.k_plans.specs.volume_laws.OwnerLaws.{no_chain_has}
use Rattle.k_plans.specs.volume_laws.PoolLaws.{covered-in_data, unused-uncovered, unused-unchained}
use Rattle.k_plans.specs.volume_laws.Uses.{is_unused}
use Rattle.k_group_commit.specs.Gathered.{AreGathered, IsCovered, IsJoining, IsOpen, IsUnchained}

-- ---- tests of blocks

first-of : (x y : Bool) → (x && y) ≡ true → x ≡ true
first-of true y both = refl
first-of false y both = both

-- a free block is unused, and does not wait
pub free-unused : (t : TablesView) (b : ℕ) → is_free_block t b ≡ true → is_unused t.volume b ≡ true
free-unused t b free = first-of (is_unused t.volume b) _ free

none-of : (x y z : Bool) → (x && not (y || z)) ≡ true → z ≡ false
none-of true true z both = let never : false ≡ true = both in absurd (both_ways false refl never)
none-of true false true both = let never : false ≡ true = both in absurd (both_ways false refl never)
none-of true false false both = refl
none-of false y z both = let never : false ≡ true = both in absurd (both_ways false refl never)

pub free-unwaiting : (t : TablesView) (b : ℕ) → is_free_block t b ≡ true → is_among t.waiting b ≡ false
free-unwaiting t b free = none-of (is_unused t.volume b) (is_among t.aside b) (is_among t.waiting b) free

-- a block that a map has is in no chain
pub covered-unchained : (v : Volume) (b : ℕ) → IsWhole v → IsCovered v b → IsUnchained v b
covered-unchained v b whole has ino k below within =
    let in_data = covered-in_data v.geometry (file_blocks_of (inode v has.0).kind) (extents v has.0) b
    (whole.kept.kept.in_data has.0 (omega (arith, has.1, whole.kept.all.inode_count))) has.2
    in
    no_chain_has v b has.0 ino k (whole.kept.kept.once b in_data) has.1 below has.2 within

-- a block that is unused is in no map
pub unused-bare : (v : Volume) (b : ℕ) → is_unused v b ≡ true → IsCovered v b → ⊥
unused-bare v b unused has = both_ways (covers (extents v has.0) b) (unused-uncovered v b has.0 has.1 unused) has.2

-- a block of a chain is used
pub chained-used : (v : Volume) (ino j b : ℕ) → IsWhole v → ino < length v.inodes → j < length (chain v ino) → block_at (chain v ino) j ≡ b
    → is_unused v b ≡ false
chained-used v ino j b whole below within at = elim (cases_Bool (is_unused v b)) [
  | inr used ↦ used
  | inl unused ↦
      let apart = (unused-unchained v (b ∷ []) (whole.kept.all.inode_count) (λ k d here. one k d here unused)).apart ino j 0 in
      absurd (apart (omega (arith, below, whole.kept.all.inode_count)) within (omega arith) (sym at))
]
  where
    one : (k d : ℕ) → k < 1 → is_unused v b ≡ true → is_unused v (get_or (b ∷ []) k d) ≡ true
    one zero d here unused = unused
    one (suc k) d here unused = absurd (omega (arith, here))

-- an unused block is in no chain
pub unused-unchained_one : (u : Volume) (b : ℕ) → IsWhole u → is_unused u b ≡ true → IsUnchained u b
unused-unchained_one u b whole unused ino k below within at = both_ways (is_unused u b) (chained-used u ino k b whole below within at) unused

-- ---- a commit

settled-of : (x y z : Bool) → (x && not (y || z)) ≡ true → (x && not (y || false)) ≡ true
settled-of true true z both = both
settled-of true false z both = refl
settled-of false y z both = both

-- a free block is so still, once what waits came free
free-settled : (t : TablesView) (b : ℕ) → is_free_block t b ≡ true → is_free_block (with_waiting [] t) b ≡ true
free-settled t b free = settled-of (is_unused t.volume b) (is_among t.aside b) (is_among t.waiting b) free

-- All that gathered is committed: the tables are ahead of nothing.
pub open-committed : (u : Volume) (t : TablesView) (group : List Record) (d m : List Cell) → IsOpen u t group d
    → AreGathered t.volume.geometry [] t.volume t.volume [] m → IsOpen t.volume (with_waiting [] t) [] m
open-committed u t group d m opened are = record {
  news = [];
  are = are;
  committed = opened.whole;
  whole = opened.whole;
  idle = opened.idle;
  waits = λ b among. let never : false ≡ true = among in absurd (both_ways false refl never);
  ahead = record {
    unused = λ b free. free-unused (with_waiting [] t) b free;
    unchained = λ b has. covered-unchained t.volume b opened.whole has;
    held = λ k below. absurd (omega (arith, below));
    bare = λ k below has. omega (arith, below);
  };
}

-- and the plan of a change can join then
pub joining-committed : (t p : TablesView) (maps : List NewChain) (b : List Record) → IsJoining t p maps b
    → IsJoining (with_waiting [] t) (with_waiting [] p) maps b
joining-committed t p maps b joining = record {
  turns = joining.turns;
  some = joining.some;
  most = joining.most;
  geometry = joining.geometry;
  whole = joining.whole;
  waiting = refl;
  aside = joining.aside;
  free = λ k e below. free-settled t (get_or (blocks_of maps) k e) (joining.free k e below);
  placed = joining.placed;
  mapped = λ k has. elim (joining.mapped k has) [
    | inl had ↦ inl had
    | inr free ↦ inr (free-settled t k free)
  ];
}

-- ---- a change joins

-- what holds of the blocks of two lists holds of those of both
pub each-of-both : (P : ℕ → Type 0) (xs ys : List ℕ) → ((k : ℕ) → k < length xs → P (block_at xs k)) → ((k : ℕ) → k < length ys → P (block_at ys k))
    → (k : ℕ) → k < length (xs ++ ys) → P (block_at (xs ++ ys) k)
each-of-both P xs ys first then k below = elim (cases_lt k (length xs)) [
  | inl early ↦ subst P (sym (get_or_append_left xs ys 0 k early)) (first k early)
  | inr late ↦
      subst P (sym (get_or-append_right xs ys (length xs) k 0 refl late)) (then (k - length xs) (omega (arith, length-append xs ys)))
]

or-false : (x y z : Bool) → x ≡ (y || z) → x ≡ false → (y ≡ false) × (z ≡ false)
or-false x true z same none = let never : true ≡ false = sym same ∙ none in absurd (both_ways true never refl)
or-false x false z same none = (refl, sym same ∙ none)

or-left : (x y z : Bool) → x ≡ (y || z) → y ≡ true → x ≡ true
or-left x true z same is = same
or-left x false z same is = let never : false ≡ true = is in absurd (both_ways false refl never)

or-right : (x y z : Bool) → x ≡ (y || z) → z ≡ true → x ≡ true
or-right x true z same is = same
or-right x false z same is = same ∙ is

-- a block that is unused and did not come free was unused
not-freed : (x y z : Bool) → z ≡ (not x && y) → z ≡ false → y ≡ true → x ≡ true
not-freed true y z same none unused = refl
not-freed false y z same none unused = let never : true ≡ false = sym unused ∙ sym same ∙ none in absurd (both_ways true never refl)

freed-of : (x y z : Bool) → z ≡ (not x && y) → x ≡ false → y ≡ true → z ≡ true
freed-of true y z same used unused = let never : true ≡ false = used in absurd (both_ways true never refl)
freed-of false y z same used unused = same ∙ unused

pub free-from : (x y z : Bool) → x ≡ true → y ≡ false → z ≡ false → (x && not (y || z)) ≡ true
free-from true true z unused aside waits = let never : true ≡ false = aside in absurd (both_ways true never refl)
free-from true false true unused aside waits = let never : true ≡ false = waits in absurd (both_ways true never refl)
free-from true false false unused aside waits = refl
free-from false y z unused aside waits = let never : false ≡ true = unused in absurd (both_ways false refl never)

module _ (u : Volume) (t p h : TablesView) (maps : List NewChain) (a b : List Record) (d : List Cell) (opened : IsOpen u t a d)
    (joining : IsJoining t p maps b) (held : IsHeld p h) where
  -- the blocks that it writes are unused in the volume of the device
  pub joins-unused : All (λ k. is_unused u k ≡ true) (blocks_of maps)
  joins-unused k e below = opened.ahead.unused (get_or (blocks_of maps) k e) (joining.free k e below)

  -- a free block is none of those in which new maps stand
  not_held : (k : ℕ) → k < length (blocks_of opened.news) → is_free_block t (block_at (blocks_of opened.news) k) ≡ true → ⊥
  not_held k below free = elim (opened.ahead.held k below) [
    | inl used ↦ both_ways (is_unused t.volume (block_at (blocks_of opened.news) k)) used (free-unused t (block_at (blocks_of opened.news) k) free)
    | inr waits ↦ both_ways (is_among t.waiting (block_at (blocks_of opened.news) k)) (free-unwaiting t (block_at (blocks_of opened.news) k) free) waits
  ]

  pub joins-apart : AreApart (blocks_of opened.news) (blocks_of maps)
  joins-apart j k within inside same = not_held j within (subst (λ x. is_free_block t x ≡ true) (sym same) (joining.free k 0 inside))

  waits-now : (x : ℕ) → is_among h.waiting x ≡ (is_among t.waiting x || is_freed t.volume p.volume x)
  waits-now x = held.waiting x ∙ (λ i. is_among (joining.waiting i) x || joining.aside x i)

  ahead-unused : (x : ℕ) → is_unused p.volume x ≡ true → is_among h.waiting x ≡ false → is_unused u x ≡ true
  ahead-unused x unused quiet =
      let parts = or-false (is_among h.waiting x) (is_among t.waiting x) (is_freed t.volume p.volume x) (waits-now x) quiet in
      let before = not-freed (is_unused t.volume x) (is_unused p.volume x) (is_freed t.volume p.volume x) refl parts.1 unused in
      opened.ahead.unused x
      (free-from (is_unused t.volume x) (is_among t.aside x) (is_among t.waiting x) before (ap (λ (bs : List ℕ). is_among bs x) opened.idle) parts.0)

  ahead-held : (k : ℕ) → k < length (blocks_of opened.news)
      → (is_unused p.volume (block_at (blocks_of opened.news) k) ≡ false) ⊎ (is_among h.waiting (block_at (blocks_of opened.news) k) ≡ true)
  ahead-held k below =
      let x = block_at (blocks_of opened.news) k in
      elim (opened.ahead.held k below) [
        | inr waits ↦ inr (or-left (is_among h.waiting x) (is_among t.waiting x) (is_freed t.volume p.volume x) (waits-now x) waits)
        | inl used ↦ elim (cases_Bool (is_unused p.volume x)) [
          | inr still ↦ inl still
          | inl gone ↦
              inr (or-right (is_among h.waiting x) (is_among t.waiting x) (is_freed t.volume p.volume x) (waits-now x)
              (freed-of (is_unused t.volume x) (is_unused p.volume x) (is_freed t.volume p.volume x) refl used gone))
        ]
      ]

  new-held : (k : ℕ) → k < length (blocks_of maps)
      → (is_unused p.volume (block_at (blocks_of maps) k) ≡ false) ⊎ (is_among h.waiting (block_at (blocks_of maps) k) ≡ true)
  new-held k below =
      let at = joining.placed k below in
      inl (chained-used p.volume at.0 at.1 (block_at (blocks_of maps) k) joining.whole at.2 at.3 at.4)

  old-bare : (k : ℕ) → k < length (blocks_of opened.news) → IsCovered p.volume (block_at (blocks_of opened.news) k) → ⊥
  old-bare k below has = elim (joining.mapped (block_at (blocks_of opened.news) k) has) [
    | inl had ↦ opened.ahead.bare k below had
    | inr free ↦ not_held k below free
  ]

  new-bare : (k : ℕ) → k < length (blocks_of maps) → IsCovered p.volume (block_at (blocks_of maps) k) → ⊥
  new-bare k below has =
      let at = joining.placed k below in
      covered-unchained p.volume (block_at (blocks_of maps) k) joining.whole has at.0 at.1 at.2 at.3 at.4

  ahead-unchained : (x : ℕ) → IsCovered p.volume x → IsUnchained u x
  ahead-unchained x has = elim (joining.mapped x has) [
    | inl had ↦ opened.ahead.unchained x had
    | inr free ↦ unused-unchained_one u x opened.committed (opened.ahead.unused x free)
  ]

  two : blocks_of (opened.news ++ maps) ≡ blocks_of opened.news ++ blocks_of maps
  two = flat_map-append (λ (x : NewChain). x.blocks) opened.news maps

  is_now : h ≡ record { volume = p.volume; aside = []; waiting = h.waiting }
  is_now = λ i. record { volume = held.volume i; aside = held.aside i; waiting = h.waiting }

  -- The change joined: what waits is what waited, and what came free in it.
  pub open-joined : (c : List Record) (m : List Cell) → AreKeptBack h → AreGathered t.volume.geometry (opened.news ++ maps) u p.volume c m → IsOpen u h c m
  open-joined c m back are = subst (λ (x : TablesView). IsOpen u x c m) (sym is_now) (record {
    news = opened.news ++ maps;
    are = subst (λ g. AreGathered g (opened.news ++ maps) u p.volume c m) (sym joining.geometry) are;
    committed = opened.committed;
    whole = joining.whole;
    idle = refl;
    waits = λ x among. subst (λ (v : Volume). is_unused v x ≡ true) held.volume (back.waiting x among);
    ahead = record {
      unused = λ x free.
          let now : TablesView = record { volume = p.volume; aside = []; waiting = h.waiting } in
          ahead-unused x (free-unused now x free) (free-unwaiting now x free);
      unchained = ahead-unchained;
      held = subst (λ (bs : List ℕ). (k : ℕ) → k < length bs → (is_unused p.volume (block_at bs k) ≡ false) ⊎ (is_among h.waiting (block_at bs k) ≡ true)) (sym two)
          (each-of-both (λ x. (is_unused p.volume x ≡ false) ⊎ (is_among h.waiting x ≡ true)) (blocks_of opened.news) (blocks_of maps) ahead-held new-held);
      bare = subst (λ (bs : List ℕ). (k : ℕ) → k < length bs → IsCovered p.volume (block_at bs k) → ⊥) (sym two)
          (each-of-both (λ x. IsCovered p.volume x → ⊥) (blocks_of opened.news) (blocks_of maps) old-bare new-bare);
    };
  })

  pub waits-joined : (x : ℕ) → is_among h.waiting x ≡ (is_among t.waiting x || is_freed t.volume p.volume x)
  waits-joined = waits-now
