-- An inode goes over to a map in a chain of blocks that were set aside.
use Rattle.std.proofs.Common.{◌≡◌, ◌⊎◌, ◌<◌, ◌≤◌, ◌+◌, ℕ, Bool, true, false, not, get_or, List, [], ◌∷◌, ◌++◌, length, refl, sym, ◌∙◌, ap, inl, inr, arith, subst}
use Rattle.std.specs.Prelude.{All, ◌&&◌, ◌||◌, ◌==◌}
use Rattle.std.specs.List.{list_any}
use Rattle.std.proofs.lemmas.Bool.{and_right, both_ways, cases_Bool, cases_lt, eq-eqb, ne_eqb}
use Rattle.std.proofs.lemmas.Bool.Decides.{nat_tests}
use Rattle.std.proofs.lemmas.List.{length-set}
use Rattle.block_counts.specs.Counts.{chains_for}
use Rattle.k_plans.specs.block_pool.FreeSets.{is_among}
use Rattle.layout_model.specs.declared.lines.Inode.{Inode}
use Rattle.layout_model.specs.declared.lines.Kind.{Kind}
use Rattle.layout_model.specs.declared.lines.Kind.TheVariants.{Free, Directory, File, Staging}
use Rattle.layout_model.specs.Lines.{has_map_or_none, is_inode, is_inode_of_kind}
use Rattle.k_plans.specs.layout_model.Places.{is_data_block}
use Rattle.k_plans.specs.image_model.Placed.{AreDistinct}
use Rattle.k_plans.specs.image_model.Room.{has_none}
use Rattle.k_plans.specs.image_model.Uses.{owners}
use Rattle.k_plans.specs.image_model.Volume.{Volume, chain, extents}
use Rattle.k_relink.specs.extent_model.Counts.{length-le}
use Rattle.k_relink.specs.extent_model.declared.extent_words.Extent.{Extent}
use Rattle.k_relink.specs.extent_model.Extents.{IsCanonical}
use Rattle.k_plans.specs.k_journal.declared.batches.Record.{Record}
use Rattle.k_plans.specs.LandingsPlans.{NewChain, Turns, new_at}
use Rattle.k_plans.specs.WrittenLaws.{blocks_of-one}
use Rattle.k_plans.specs.Free.{AreAsideOnce, AreKeptBack, SetsFreedAside, is_free_block}
use Rattle.k_plans.specs.Switching.{IsMapPlan, IsSetAside}
use Rattle.k_plans.specs.View.{TablesView}
use Rattle.k_plans.specs.Whole.{IsWhole}
use Rattle.k_plans.specs.k_split_model.Taken.{AreLowest, switched, with_map}
use Rattle.k_plans.specs.volume_laws.Changes.{chain-set_same, extents-set_same}
use Rattle.k_plans.specs.volume_laws.OwnerLaws.{uses-le-owners}
use Rattle.k_plans.specs.volume_laws.PoolLaws.{has_none-some}
use Rattle.k_plans.specs.volume_laws.UseLaws.{length-uses_by}
use Rattle.k_plans.specs.volume_change_laws.Hits.{in_chain-append}
use Rattle.k_plans.specs.volume_change_laws.Switches.{MaySwitch, among-counted, counted-among, unused-data}
use Rattle.k_plans.specs.volume_change_laws.TakenLaws.{All-at, rising-distinct, rising-once}
use Rattle.k_plans.specs.volume_laws.Uses.{in_chain, in_map, is_unused}
use Rattle.k_map_plans.specs.Going.{HasGoneOver, HasSetAside, MayGoOver}

-- ---- blocks that are set aside

pub among-append : (xs ys : List ℕ) (b : ℕ) → is_among (xs ++ ys) b ≡ (is_among xs b || is_among ys b)
among-append [] ys b = refl
among-append (x ∷ xs) ys b = elim (cases_Bool (x == b)) [
  | inl here ↦ rw here refl
  | inr away ↦ rw away (among-append xs ys b)
]

not_or : (u a w x : Bool) → (u && not ((a || x) || w)) ≡ ((u && not (a || w)) && not x)
not_or true true w x = refl
not_or true false true true = refl
not_or true false true false = refl
not_or true false false true = refl
not_or true false false false = refl
not_or false a w x = refl

pub free-unused : (t : TablesView) (b : ℕ) → is_free_block t b ≡ true → is_unused t.volume b ≡ true
free-unused t b free = first (is_unused t.volume b) (not (is_among t.aside b || is_among t.waiting b)) free
  where
    first : (y z : Bool) → (y && z) ≡ true → y ≡ true
    first true z both = refl
    first false z both = both

free-home : (t : TablesView) (b : ℕ) → is_free_block t b ≡ true → is_among t.aside b ≡ false
free-home t b free = second (is_unused t.volume b) (is_among t.aside b) (is_among t.waiting b) free
  where
    second : (y z w : Bool) → (y && not (z || w)) ≡ true → z ≡ false
    second true true w both = absurd (both_ways false refl both)
    second true false w both = refl
    second false z w both = absurd (both_ways false refl both)

module _ (t u : TablesView) (n : ℕ) (taken : List ℕ) (aside : IsSetAside n taken t u) where
  pub aside-unused : (b : ℕ) → 1 ≤ in_chain taken b → is_unused t.volume b ≡ true
  aside-unused b has = free-unused t b (All-at (λ k. is_free_block t k ≡ true) taken b aside.lowest.were_free has)

  both-once : AreAsideOnce t → (b : ℕ) → in_chain (t.aside ++ taken) b ≤ 1
  both-once once b = elim (cases_lt 0 (in_chain taken b)) [
    | inl has ↦ elim (cases_lt 0 (in_chain t.aside b)) [
      | inl waits ↦
          absurd (both_ways (is_among t.aside b)
          (free-home t b (All-at (λ k. is_free_block t k ≡ true) taken b aside.lowest.were_free (omega arith)))
          (counted-among t.aside b (omega arith)))
      | inr home ↦ omega (arith, in_chain-append t.aside taken b, rising-once taken b aside.lowest.rising)
    ]
    | inr none ↦ omega (arith, in_chain-append t.aside taken b, once b)
  ]

  pub aside-once : AreAsideOnce t → AreAsideOnce u
  aside-once once b = subst (λ (x : TablesView). in_chain x.aside b ≤ 1) (sym aside.after) (both-once once b)

  -- what is left free
  pub left-free : (b : ℕ) → is_free_block u b ≡ (is_free_block t b && not (list_any (λ k. k == b) taken))
  left-free b =
      ap (λ (y : TablesView). is_free_block y b) aside.after
      ∙ ap (λ a. is_unused t.volume b && not (a || is_among t.waiting b)) (among-append t.aside taken b)
      ∙ not_or (is_unused t.volume b) (is_among t.aside b) (is_among t.waiting b) (is_among taken b)

  pub aside-volume : u.volume ≡ t.volume
  aside-volume = ap (λ (x : TablesView). x.volume) aside.after

  pub aside-waiting : u.waiting ≡ t.waiting
  aside-waiting = ap (λ (x : TablesView). x.waiting) aside.after

pub set-aside : (t u : TablesView) (n : ℕ) (taken : List ℕ) → IsSetAside n taken t u → HasSetAside t u
set-aside t u n taken aside = record { volume = aside-volume t u n taken aside; waiting = aside-waiting t u n taken aside }

-- ---- what came free is set aside

freed-test : (a u n x w : Bool) → (n && not (a || w)) ≡ ((u && not (false || w)) && not x) → (a ≡ true → n ≡ true) → (a ≡ true → w ≡ false)
    → (w ≡ true → u ≡ true) → (x ≡ true → n ≡ false) → a ≡ (not u && n)
freed-test true false n x w free aside apart waits used = sym (aside refl)
freed-test true true false x w free aside apart waits used = absurd (both_ways false refl (aside refl))
freed-test true true true x true free aside apart waits used = absurd (both_ways true (apart refl) refl)
freed-test true true true true false free aside apart waits used = absurd (both_ways true (used refl) refl)
freed-test true true true false false free aside apart waits used = absurd (both_ways false refl free)
freed-test false true n x w free aside apart waits used = refl
freed-test false false n x true free aside apart waits used = absurd (both_ways false refl (waits refl))
freed-test false false true x false free aside apart waits used = absurd (both_ways true free refl)
freed-test false false false x false free aside apart waits used = refl

-- Where just the taken blocks are no longer free, and the volume uses them, just the blocks that came free are set aside.
pub freed-aside : (t w : TablesView) (taken : List ℕ) → t.aside ≡ [] → AreKeptBack t → AreKeptBack w → w.waiting ≡ t.waiting
    → ((b : ℕ) → is_free_block w b ≡ (is_free_block t b && not (is_among taken b)))
    → ((b : ℕ) → is_among taken b ≡ true → is_unused w.volume b ≡ false) → SetsFreedAside t w
freed-aside t w taken idle old new same free used b =
    freed-test (is_among w.aside b) (is_unused t.volume b) (is_unused w.volume b) (is_among taken b) (is_among w.waiting b)
    (free b ∙ (λ i. (is_unused t.volume b && not (is_among (idle i) b || is_among (sym same i) b)) && not (is_among taken b)))
    (new.aside b) (new.apart b) (λ waits. old.waiting b (ap (λ ks. is_among ks b) (sym same) ∙ waits)) (used b)

-- where no block is taken
pub kept-aside : (t w : TablesView) → t.aside ≡ [] → AreKeptBack t → AreKeptBack w → w.waiting ≡ t.waiting
    → ((b : ℕ) → is_free_block w b ≡ is_free_block t b) → SetsFreedAside t w
kept-aside t w idle old new same free =
    freed-aside t w [] idle old new same (λ b. free b ∙ and_true (is_free_block t b)) (λ b never. absurd (both_ways false refl never))
  where
    and_true : (f : Bool) → f ≡ (f && true)
    and_true true = refl
    and_true false = refl

-- a block that an inode has is used
pub in-use : (v : Volume) (ino b : ℕ) → ino < length v.inodes → 1 ≤ in_chain (chain v ino) b + in_map (extents v ino) b
    → is_unused v b ≡ false
in-use v ino b below has =
    and_right (is_data_block v.geometry b) (has_none (owners v b))
    (has_none-some (owners v b)
    (omega (arith, has, uses-le-owners v b ino below, length-uses_by ino (chain v ino) (extents v ino) b)))

-- as many inodes as before
pub switched-below : (v w : Volume) (ino : ℕ) (x : Inode) (blocks : List ℕ) (es : List Extent) → w ≡ switched ino x blocks es v
    → length w.inodes ≡ length v.inodes
switched-below v w ino x blocks es is =
    ap (λ (y : Volume). length y.inodes) is ∙ length-set v.inodes ino (with_map blocks es x)

-- One inode went over to a map, in a chain of blocks that were taken.
pub gone-aside : (t w : TablesView) (ino : ℕ) (x : Inode) (es : List Extent) (b : List Record) (c : NewChain) → t.aside ≡ [] → AreKeptBack t
    → ino < length t.volume.inodes → HasGoneOver ino x es t w b c → SetsFreedAside t w
gone-aside t w ino x es b c idle back below gone =
    freed-aside t w c.blocks idle back gone.back gone.waiting gone.free (λ k among.
    in-use w.volume ino k (omega (arith, below, switched-below t.volume w.volume ino x c.blocks es gone.after))
    (omega (arith, among-counted c.blocks k among, ap (λ ks. in_chain ks k) gone.chain_is)))

and_both : (f x y : Bool) → ((f && not x) && not y) ≡ (f && not (x || y))
and_both true true y = refl
and_both true false y = refl
and_both false x y = refl

-- Blocks were set aside before it, which its map has.
module _ (t u w : TablesView) (n ino : ℕ) (fresh : List ℕ) (x : Inode) (es : List Extent) (b : List Record) (c : NewChain)
    (aside : IsSetAside n fresh t u) (gone : HasGoneOver ino x es u w b c) where
  pub fresh-aside : t.aside ≡ [] → AreKeptBack t → IsWhole t.volume → ino < length t.volume.inodes
      → ((k : ℕ) → in_chain fresh k ≤ in_map es k) → SetsFreedAside t w
  fresh-aside idle back whole below has =
      freed-aside t w (fresh ++ c.blocks) idle back gone.back (gone.waiting ∙ aside-waiting t u n fresh aside)
      (λ k. gone.free k ∙ ap (λ f. f && not (is_among c.blocks k)) (left-free t u n fresh aside k)
      ∙ and_both (is_free_block t k) (is_among fresh k) (is_among c.blocks k)
      ∙ ap (λ a. is_free_block t k && not a) (sym (among-append fresh c.blocks k)))
      (λ k among. in-use w.volume ino k below-now
      (omega (
        arith,
        among-counted (fresh ++ c.blocks) k among,
        in_chain-append fresh c.blocks k,
        has k,
        ap (λ ks. in_chain ks k) gone.chain_is,
        ap (λ fs. in_map fs k) map-is,
      )))
    where
      after : w.volume ≡ switched ino x c.blocks es t.volume
      after = gone.after ∙ ap (switched ino x c.blocks es) (aside-volume t u n fresh aside)

      below-now : ino < length w.volume.inodes
      below-now = omega (arith, below, switched-below t.volume w.volume ino x c.blocks es after)

      map-is : extents w.volume ino ≡ es
      map-is = ap (λ (y : Volume). extents y ino) after
          ∙ extents-set_same ino (with_map c.blocks es x) c.blocks es t.volume (omega (arith, below, whole.maps.map_count))

-- ---- the line of an inode with a map

-- a chain of so many blocks, none of them block 0
map-fits : (x : Inode) (blocks : List ℕ) (es : List Extent) → length blocks ≡ chains_for (length es) → All (λ b. 1 ≤ b) blocks
    → has_map_or_none (with_map blocks es x) ≡ true
map-fits x [] es size blocks = eq-eqb (length es) 0 (omega (arith, size))
map-fits x (b ∷ bs) es size blocks =
    let root : (b == 0) ≡ false = ne_eqb b 0 (λ is. omega (arith, is, blocks 0 0 (omega arith))) in
    let some : (length es == 0) ≡ false = ne_eqb (length es) 0 (λ is. omega (arith, is, size)) in
    rw root (ap not some)

pub fields-fit : (x : Inode) (blocks : List ℕ) (es : List Extent) → (x.kind ≡ File) ⊎ (x.kind ≡ Staging)
    → is_inode (with_map [] [] x) ≡ true → length blocks ≡ chains_for (length es) → All (λ b. 1 ≤ b) blocks
    → is_inode (with_map blocks es x) ≡ true
fields-fit x blocks es holder fields size above = by x.kind holder fields
  where
    last : (y z : Bool) → (y && true) ≡ true → z ≡ true → (y && z) ≡ true
    last true z both is = is
    last false z both is = both

    by : (kind : Kind) → (kind ≡ File) ⊎ (kind ≡ Staging) → is_inode_of_kind kind (with_map [] [] x) ≡ true
        → is_inode_of_kind kind (with_map blocks es x) ≡ true
    by Free (inl is) fit = absurd (cc)
    by Free (inr is) fit = absurd (cc)
    by Directory (inl is) fit = absurd (cc)
    by Directory (inr is) fit = absurd (cc)
    by File h fit = last _ (has_map_or_none (with_map blocks es x)) fit (map-fits x blocks es size above)
    by Staging h fit = last _ (has_map_or_none (with_map blocks es x)) fit (map-fits x blocks es size above)

-- ---- it goes over

pub data-above : (v : Volume) (b : ℕ) → is_data_block v.geometry b ≡ true → 1 ≤ b
data-above v b in_data = grind (arith, nat_tests, in_data)

module _ (t u : TablesView) (n ino : ℕ) (x : Inode) (blocks : List ℕ) (es freed : List Extent) (after : List ℕ)
    (aside : IsSetAside n blocks t u) (may : MayGoOver t ino x es freed) where
  pub may-switch : n ≡ chains_for (length es)
      → ((b : ℕ) → in_chain after b ≡ in_chain (chain t.volume ino) b + in_map freed b)
      → MaySwitch u.volume u.aside ino x blocks es after
  may-switch size has =
      subst (λ (y : TablesView). MaySwitch y.volume y.aside ino x blocks es after) (sym aside.after) (record {
        below = may.below;
        kind = may.kind;
        fields = fields-fit x blocks es may.holder may.fields (aside.lowest.count ∙ size) (λ k d below.
            data-above t.volume (get_or blocks k d) (unused-data t.volume (get_or blocks k d) (free-unused t (get_or blocks k d) (aside.lowest.were_free k d below))));
        short = may.short;
        once = both-once t u n blocks aside may.once;
        same = λ b. omega (arith, has b, in_chain-append t.aside blocks b, may.same b);
      })

-- the chain that it has then
pub switched-chain_is : (v : Volume) (ino : ℕ) (x : Inode) (blocks : List ℕ) (es : List Extent) (w : Volume)
    → w ≡ switched ino x blocks es v → IsWhole w → ino < length v.inodes → chain (switched ino x blocks es v) ino ≡ blocks
switched-chain_is v ino x blocks es w is whole below =
    let count : length (switched ino x blocks es v).chains ≡ length (switched ino x blocks es v).inodes =
    (subst IsWhole is whole).maps.chain_count
    in
    chain-set_same ino (with_map blocks es x) blocks es v
    (omega (arith, below, count, length-set v.chains ino blocks, length-set v.inodes ino (with_map blocks es x)))

-- a plan with one new map
pub plan-one : (t : TablesView) (w : Volume) (b : List Record) (c : NewChain) → IsCanonical c.extents
    → AreLowest (is_free_block t) (chains_for (length c.extents)) c.blocks → Turns t.volume.geometry (c ∷ []) t.volume w b
    → w.geometry ≡ t.volume.geometry → 0 < length b → length b ≤ 5 → IsWhole w → IsMapPlan (c ∷ []) t.volume w b
plan-one t w b c canonical lowest turns geometry some most whole = record {
  turns = turns;
  geometry = geometry;
  some = some;
  most = most;
  unused = subst (All (λ k. is_unused t.volume k ≡ true)) (sym (blocks_of-one c)) (λ k d below. free-unused t (get_or c.blocks k d) (lowest.were_free k d below));
  distinct = λ k below.
      let zero_is : k ≡ 0 = omega arith in
      subst (λ i. AreDistinct (new_at (c ∷ []) i).blocks) (sym zero_is) (rising-distinct c.blocks lowest.rising);
  apart = λ j k before below. absurd (omega arith);
  counts = λ k below.
      let zero_is : k ≡ 0 = omega arith in
      subst (λ i. length (new_at (c ∷ []) i).blocks ≡ chains_for (length (new_at (c ∷ []) i).extents)) (sym zero_is) lowest.count;
  steps = omega (arith, lowest.count, length-le c.extents canonical);
  whole = whole;
}
