-- Laws of chains: block by block and as a whole they say the same; a chain has one map; what is written reads back.
use Rattle.std.specs.Prelude.{◌≡◌, ◌≢◌, ◌≤◌, ◌<◌, ◌+◌, ◌-◌, ◌*◌, ◌/◌, ◌%◌, ◌^◌, ℕ, zero, suc, List, [], ◌∷◌, ◌++◌, length, map, take, drop}
use Rattle.std.specs.List.{flat_map}
use Rattle.std.proofs.Common.{refl, sym, ◌∙◌, ap, arith, lit<, add-zero, ⊎_elim}
use Rattle.std.proofs.lemmas.Bool.{cases_lt, ne_eqb}
use Rattle.std.proofs.lemmas.List.{get_or-take, get_or-drop, get_or_default, get_or_past, length-take, length-drop, take-append-drop, drop-drop, nil_from_length, same_lists}
use Rattle.std.proofs.lemmas.List.FromFn.{length-map-range_with_len, get_or-map-range_with_len}
use Rattle.image_model.specs.pm_model.Words.{Words}
use Rattle.image_model.specs.block_counts.Counts.{chains_for}
use Rattle.image_model.specs.extent_model.declared.extent_words.Extent.{Extent}
use Rattle.image_model.specs.extent_model.Extents.{IsExtent, ComesAfter, IsCanonical}
use Rattle.image_model.specs.Chains.{extent_word, chain_word, first_or_zero, SpellsChain, next_block, extent_in, extents_in, blocks_from}
use Rattle.image_model.specs.Placed.{no_extent, extent_at, block_at, part_at, StandsIn, AreDistinct}
use Rattle.image_model.specs.Listed.{first_word, second_word, listed_at, AreListed}
use Rattle.image_model.specs.Standing.{IsMapIn, IsChain, FitHalves, ReadsBack, HasOneChain}

-- two extents with the same numbers are one
pub same_extent : (e f : Extent) → e.file ≡ f.file → e.disk ≡ f.disk → e.count ≡ f.count → e ≡ f
same_extent e f file disk count =
    let make = λ (a b n : ℕ). (let x : Extent = record { file = a; disk = b; count = n } in x) in
    ap (λ a. make a e.disk e.count) file ∙ (ap (λ b. make f.file b e.count) disk ∙ ap (make f.file f.disk) count)

-- ---- the words of a block

extent_word-run : (es : List Extent) (k : ℕ) → extent_word es (2 * k) ≡ (extent_at es k).file + 2 ^ 32 * (extent_at es k).disk
extent_word-run [] k = refl
extent_word-run (e ∷ es) zero = refl
extent_word-run (e ∷ es) (suc k) =
    let twice : 2 * suc k ≡ suc (suc (2 * k)) = omega arith in
    ap (extent_word (e ∷ es)) twice ∙ extent_word-run es k

extent_word-count : (es : List Extent) (k : ℕ) → extent_word es (2 * k + 1) ≡ (extent_at es k).count
extent_word-count [] k = refl
extent_word-count (e ∷ es) zero = refl
extent_word-count (e ∷ es) (suc k) =
    let twice : 2 * suc k + 1 ≡ suc (suc (2 * k + 1)) = omega arith in
    ap (extent_word (e ∷ es)) twice ∙ extent_word-count es k

-- the same, of any word
pub extent_word-even : (es : List Extent) (j : ℕ) → j % 2 ≡ 0 → extent_word es j ≡ (extent_at es (j / 2)).file + 2 ^ 32 * (extent_at es (j / 2)).disk
extent_word-even es j even =
    let twice : j ≡ 2 * (j / 2) = omega arith in
    ap (extent_word es) twice ∙ extent_word-run es (j / 2)

pub extent_word-odd : (es : List Extent) (j : ℕ) → j % 2 ≢ 0 → extent_word es j ≡ (extent_at es (j / 2)).count
extent_word-odd es j odd =
    let twice : j ≡ 2 * (j / 2) + 1 = omega arith in
    ap (extent_word es) twice ∙ extent_word-count es (j / 2)

pub extent_word-past : (es : List Extent) (j : ℕ) → length es ≤ j / 2 → extent_word es j ≡ 0
extent_word-past [] j past = refl
extent_word-past (e ∷ es) zero past = absurd (omega arith)
extent_word-past (e ∷ es) (suc zero) past = absurd (omega arith)
extent_word-past (e ∷ es) (suc (suc j)) past = extent_word-past es j (omega arith)

-- word 0 of a block has the next block and the number of extents
pub chain_word-head : (next : ℕ) (es : List Extent) → chain_word next es 0 ≡ next + 2 ^ 32 * length es
unfolding chain_word
chain_word-head next es = refl

chain_word-later : (next : ℕ) (es : List Extent) (j : ℕ) → chain_word next es (2 + j) ≡ extent_word es j
unfolding chain_word
chain_word-later next es j =
    let back : 2 + j - 2 ≡ j = omega arith in
    rw (ne_eqb (2 + j) 0 (omega arith), ne_eqb (2 + j) 1 (omega arith)) (ap (extent_word es) back)

-- the two words of an extent; behind the last extent they are zero
pub chain_word-run : (next : ℕ) (es : List Extent) (k : ℕ) → chain_word next es (2 + 2 * k) ≡ (extent_at es k).file + 2 ^ 32 * (extent_at es k).disk
chain_word-run next es k = chain_word-later next es (2 * k) ∙ extent_word-run es k

pub chain_word-count : (next : ℕ) (es : List Extent) (k : ℕ) → chain_word next es (3 + 2 * k) ≡ (extent_at es k).count
chain_word-count next es k =
    let third : 3 + 2 * k ≡ 2 + (2 * k + 1) = omega arith in
    ap (chain_word next es) third ∙ (chain_word-later next es (2 * k + 1) ∙ extent_word-count es k)

-- ---- block by block and as a whole

first_or_zero-is : (blocks : List ℕ) → first_or_zero blocks ≡ block_at blocks 0
first_or_zero-is [] = refl
first_or_zero-is (b ∷ blocks) = refl

part_at-more : (es : List Extent) (k : ℕ) → part_at (drop 255 es) k ≡ part_at es (suc k)
part_at-more es k =
    let shift : 255 + 255 * k ≡ 255 * suc k = omega arith in
    ap (take 255) (drop-drop (255 * k) 255 es ∙ ap (λ n. drop n es) shift)

stands-rest : (f : Words) (b : ℕ) (blocks : List ℕ) (es : List Extent) → StandsIn f (b ∷ blocks) es → StandsIn f blocks (drop 255 es)
stands-rest f b blocks es stands = record {
  words = λ k j below word.
      let after : suc k + 1 ≡ suc (k + 1) = omega arith in
      stands.words (suc k) j (omega arith) word
      ∙ ap (λ n. chain_word (block_at (b ∷ blocks) n) (part_at es (suc k)) j) after
      ∙ ap (λ part. chain_word (block_at blocks (k + 1)) part j) (sym (part_at-more es k));
  room = omega (arith, stands.room, length-drop 255 es);
}

pub spells-stands : (f : Words) (blocks : List ℕ) (es : List Extent) → StandsIn f blocks es → SpellsChain f blocks es
unfolding SpellsChain
spells-stands f [] es stands = nil_from_length es (omega (arith, stands.room))
spells-stands f (b ∷ blocks) es stands = (
  λ j word. stands.words 0 j (omega arith) word ∙ ap (λ next. chain_word next (take 255 es) j) (sym (first_or_zero-is blocks)),
  spells-stands f blocks (drop 255 es) (stands-rest f b blocks es stands),
)

stands-more : (f : Words) (b : ℕ) (blocks : List ℕ) (es : List Extent) → ((j : ℕ) → j < 512 → f (512 * b + j) ≡ chain_word (first_or_zero blocks) (take 255 es) j)
    → StandsIn f blocks (drop 255 es) → StandsIn f (b ∷ blocks) es
stands-more f b blocks es first rest = record {
  words = each;
  room = omega (arith, rest.room, length-drop 255 es);
}
  where
    each : (k j : ℕ) → k < length (b ∷ blocks) → j < 512 → f (512 * block_at (b ∷ blocks) k + j) ≡ chain_word (block_at (b ∷ blocks) (k + 1)) (part_at es k) j
    each zero j below word = first j word ∙ ap (λ next. chain_word next (take 255 es) j) (first_or_zero-is blocks)
    each (suc k) j below word =
        let after : suc k + 1 ≡ suc (k + 1) = omega arith in
        rest.words k j (omega arith) word
        ∙ ap (λ part. chain_word (block_at blocks (k + 1)) part j) (part_at-more es k)
        ∙ ap (λ n. chain_word (block_at (b ∷ blocks) n) (part_at es (suc k)) j) (sym after)

pub stands-spelled : (f : Words) (blocks : List ℕ) (es : List Extent) → SpellsChain f blocks es → StandsIn f blocks es
unfolding SpellsChain
stands-spelled f [] es spelled = record { words = λ k j below word. absurd (omega arith); room = rw spelled (omega arith) }
stands-spelled f (b ∷ blocks) es spelled = stands-more f b blocks es spelled.0 (stands-spelled f blocks (drop 255 es) spelled.1)

-- ---- which map stands in a chain

part_at-extent : (es : List Extent) (k : ℕ) → extent_at (part_at es (k / 255)) (k % 255) ≡ extent_at es k
part_at-extent es k =
    let place : 255 * (k / 255) + k % 255 ≡ k = omega arith in
    get_or-take 255 (drop (255 * (k / 255)) es) (k % 255) no_extent (omega arith)
    ∙ get_or-drop (255 * (k / 255)) es (k % 255) no_extent ∙ ap (extent_at es) place

stands-run : (f : Words) (blocks : List ℕ) (es : List Extent) (k : ℕ) → StandsIn f blocks es → k < length es
    → f (first_word blocks k) ≡ (extent_at es k).file + 2 ^ 32 * (extent_at es k).disk
stands-run f blocks es k stands below =
    stands.words (k / 255) (2 + 2 * (k % 255)) (omega (arith, stands.room)) (omega arith)
    ∙ chain_word-run (block_at blocks (k / 255 + 1)) (part_at es (k / 255)) (k % 255)
    ∙ ap (λ (e : Extent). e.file + 2 ^ 32 * e.disk) (part_at-extent es k)

stands-count : (f : Words) (blocks : List ℕ) (es : List Extent) (k : ℕ) → StandsIn f blocks es → k < length es
    → f (second_word blocks k) ≡ (extent_at es k).count
stands-count f blocks es k stands below =
    stands.words (k / 255) (3 + 2 * (k % 255)) (omega (arith, stands.room)) (omega arith)
    ∙ chain_word-count (block_at blocks (k / 255 + 1)) (part_at es (k / 255)) (k % 255)
    ∙ ap (λ (e : Extent). e.count) (part_at-extent es k)

-- the extents of a map fit their words
abbrev pub FitsWords : List Extent → Type 0
FitsWords es = (k : ℕ) → (extent_at es k).file < 2 ^ 32

pub canonical-fits : (es : List Extent) → IsCanonical es → FitsWords es
canonical-fits es canonical k = ⊎_elim
    (λ (h : k < length es). let e : IsExtent (extent_at es k) = canonical.each k no_extent h in omega (arith, e.in_file))
    (λ (h : length es ≤ k). rw (get_or_past es k no_extent h) (lit< tt))
    (cases_lt k (length es))

fits-rest : (es : List Extent) → FitsWords es → FitsWords (drop 255 es)
fits-rest es fits k = rw (get_or-drop 255 es k no_extent) (fits (255 + k))

-- the list of the extents of one block
extents_in-part : (f : Words) (b next : ℕ) (es : List Extent) → next < 2 ^ 32 → FitsWords es
    → ((j : ℕ) → j < 512 → f (512 * b + j) ≡ chain_word next (take 255 es) j) → extents_in f b ≡ take 255 es
extents_in-part f b next es small fits words =
    let part : List Extent = take 255 es in
    let head : f (512 * b) ≡ next + 2 ^ 32 * length part = ap f (sym (add-zero (512 * b))) ∙ words 0 (lit< tt) ∙ chain_word-head next part in
    let count : f (512 * b) / 2 ^ 32 ≡ length part = omega (arith, head) in
    let size : length (extents_in f b) ≡ length part = length-map-range_with_len (extent_in f b) 0 (f (512 * b) / 2 ^ 32) ∙ count in
    same_lists (extents_in f b) part size (λ k d below.
    let within : k < length part = omega (arith, size) in
    let few : k < 255 = omega (arith, length-take 255 es, within) in
    let read : extent_at part k ≡ extent_at es k = get_or-take 255 es k no_extent few in
    let small_file : (extent_at part k).file < 2 ^ 32 = rw read (fits k) in
    let run_place : 512 * b + 2 + 2 * k ≡ 512 * b + (2 + 2 * k) = omega arith in
    let count_place : 512 * b + 3 + 2 * k ≡ 512 * b + (3 + 2 * k) = omega arith in
    let run : f (512 * b + 2 + 2 * k) ≡ (extent_at part k).file + 2 ^ 32 * (extent_at part k).disk = ap f run_place ∙ words (2 + 2 * k) (omega arith) ∙ chain_word-run next part k in
    let number : f (512 * b + 3 + 2 * k) ≡ (extent_at part k).count = ap f count_place ∙ words (3 + 2 * k) (omega arith) ∙ chain_word-count next part k in
    get_or-map-range_with_len (extent_in f b) 0 (f (512 * b) / 2 ^ 32) k k d (omega (arith, count, within)) (omega arith)
    ∙ same_extent (extent_in f b k) (extent_at part k) (omega (arith, run, small_file)) (omega (arith, run, small_file)) number
    ∙ get_or_default part k no_extent d within)

-- The extents that a chain spells are those that its blocks have in them.
pub spelled-map : (f : Words) (blocks : List ℕ) (es : List Extent) → FitHalves blocks → FitsWords es → SpellsChain f blocks es
    → flat_map (extents_in f) blocks ≡ es
unfolding SpellsChain
spelled-map f [] es small fits spelled = sym spelled
spelled-map f (b ∷ blocks) es small fits spelled =
    let next : first_or_zero blocks < 2 ^ 32 = rw (first_or_zero-is blocks) (small 1) in
    ap (λ part. part ++ flat_map (extents_in f) blocks) (extents_in-part f b (first_or_zero blocks) es next fits spelled.0)
    ∙ ap (λ rest. take 255 es ++ rest) (spelled-map f blocks (drop 255 es) (λ k. small (suc k)) (fits-rest es fits) spelled.1)
    ∙ take-append-drop 255 es

-- The blocks that spell a chain are those that one comes to from the first.
pub spelled-linked : (f : Words) (blocks : List ℕ) (es : List Extent) → FitHalves blocks → SpellsChain f blocks es
    → blocks_from f (first_or_zero blocks) (length blocks) ≡ blocks
unfolding SpellsChain blocks_from
spelled-linked f [] es small spelled = refl
spelled-linked f (b ∷ blocks) es small spelled =
    let next : first_or_zero blocks < 2 ^ 32 = rw (first_or_zero-is blocks) (small 1) in
    let head : f (512 * b) ≡ first_or_zero blocks + 2 ^ 32 * length (take 255 es) =
    ap f (sym (add-zero (512 * b))) ∙ spelled.0 0 (lit< tt) ∙ chain_word-head (first_or_zero blocks) (take 255 es) in
    let is_next : next_block f b ≡ first_or_zero blocks = omega (arith, head) in
    ap (λ rest. b ∷ rest) (ap (λ n. blocks_from f n (length blocks)) is_next ∙ spelled-linked f blocks (drop 255 es) (λ k. small (suc k)) spelled.1)

-- words that agree in the blocks spell the same chain
pub SpellsChain-same : (f g : Words) (blocks : List ℕ) (es : List Extent) → ((k j : ℕ) → k < length blocks → j < 512 → g (512 * block_at blocks k + j) ≡ f (512 * block_at blocks k + j))
    → SpellsChain f blocks es → SpellsChain g blocks es
SpellsChain-same f g blocks es same spelled =
    let stands : StandsIn f blocks es = stands-spelled f blocks es spelled in
    spells-stands g blocks es (record { words = λ k j below word. same k j below word ∙ stands.words k j below word; room = stands.room })

-- no block comes twice in a chain: the extents of a map rise
pub spelled-distinct : (f : Words) (blocks : List ℕ) (es : List Extent) → length blocks ≡ chains_for (length es) → IsCanonical es → SpellsChain f blocks es → AreDistinct blocks
spelled-distinct f blocks es count canonical spelled j k before below same =
    let stands : StandsIn f blocks es = stands-spelled f blocks es spelled in
    let first : f (first_word blocks (255 * j)) ≡ (extent_at es (255 * j)).file + 2 ^ 32 * (extent_at es (255 * j)).disk = stands-run f blocks es (255 * j) stands (omega arith) in
    let second : f (first_word blocks (255 * k)) ≡ (extent_at es (255 * k)).file + 2 ^ 32 * (extent_at es (255 * k)).disk = stands-run f blocks es (255 * k) stands (omega arith) in
    let at_j : first_word blocks (255 * j) ≡ 512 * block_at blocks j + 2 = first_word-first j blocks in
    let at_k : first_word blocks (255 * k) ≡ 512 * block_at blocks k + 2 = first_word-first k blocks in
    let one : first_word blocks (255 * j) ≡ first_word blocks (255 * k) = at_j ∙ ap (λ b. 512 * b + 2) same ∙ sym at_k in
    let equal : f (first_word blocks (255 * j)) ≡ f (first_word blocks (255 * k)) = ap f one in
    let after : ComesAfter (extent_at es (255 * j)) (extent_at es (255 * k)) = canonical.rising (255 * j) (255 * k) no_extent (omega arith) (omega arith) in
    let filled : IsExtent (extent_at es (255 * j)) = canonical.each (255 * j) no_extent (omega arith) in
    let fits_j : (extent_at es (255 * j)).file < 2 ^ 32 = canonical-fits es canonical (255 * j) in
    let fits_k : (extent_at es (255 * k)).file < 2 ^ 32 = canonical-fits es canonical (255 * k) in
    omega (arith, first, second, equal, after.after, filled.filled, fits_j, fits_k)
  where
    first_word-first : (k : ℕ) (blocks : List ℕ) → first_word blocks (255 * k) ≡ 512 * block_at blocks k + 2
    first_word-first k blocks =
        let at : 255 * k / 255 ≡ k = omega arith in
        let place : 2 + 2 * (255 * k % 255) ≡ 2 = omega arith in
        ap (λ n. 512 * block_at blocks n + (2 + 2 * (255 * k % 255))) at ∙ ap (λ n. 512 * block_at blocks k + n) place

-- ---- what is read

blocks_from-fit : (f : Words) (root n : ℕ) → root < 2 ^ 32 → FitHalves (blocks_from f root n)
unfolding blocks_from
blocks_from-fit f root zero small k = lit< tt
blocks_from-fit f root (suc n) small zero = small
blocks_from-fit f root (suc n) small (suc k) = blocks_from-fit f (next_block f root) n (omega arith) k

pub chain-fits : (f : Words) (size root count : ℕ) (blocks : List ℕ) (es : List Extent) → root < 2 ^ 32 → IsChain f size root count blocks es → FitHalves blocks
chain-fits f size root count blocks es small chain = rw chain.linked (blocks_from-fit f root (chains_for count) small)

pub length-blocks_from : (f : Words) (root n : ℕ) → length (blocks_from f root n) ≡ n
unfolding blocks_from
length-blocks_from f root zero = refl
length-blocks_from f root (suc n) = ap suc (length-blocks_from f (next_block f root) n)

pub chain-count : (f : Words) (size root count : ℕ) (blocks : List ℕ) (es : List Extent) → IsChain f size root count blocks es → length blocks ≡ chains_for count
chain-count f size root count blocks es chain = ap length chain.linked ∙ length-blocks_from f root (chains_for count)

pub chain-distinct : (f : Words) (size root count : ℕ) (blocks : List ℕ) (es : List Extent) → IsChain f size root count blocks es → AreDistinct blocks
chain-distinct f size root count blocks es chain =
    spelled-distinct f blocks es (chain-count f size root count blocks es chain ∙ ap chains_for (sym chain.map.counted)) chain.map.canonical chain.map.spelled

-- the map of a chain is the list that its blocks have
pub chain-map : (f : Words) (size root count : ℕ) (blocks : List ℕ) (es : List Extent) → root < 2 ^ 32 → IsChain f size root count blocks es → flat_map (extents_in f) blocks ≡ es
chain-map f size root count blocks es small chain =
    spelled-map f blocks es (chain-fits f size root count blocks es small chain) (canonical-fits es chain.map.canonical) chain.map.spelled

blocks_from-same : (f g : Words) (root n : ℕ) → ((k : ℕ) → k < n → g (512 * block_at (blocks_from f root n) k) ≡ f (512 * block_at (blocks_from f root n) k))
    → blocks_from g root n ≡ blocks_from f root n
unfolding blocks_from
blocks_from-same f g root zero same = refl
blocks_from-same f g root (suc n) same =
    let next : next_block g root ≡ next_block f root = ap (λ w. w % 2 ^ 32) (same 0 (omega arith)) in
    ap (λ rest. root ∷ rest) (ap (λ b. blocks_from g b n) next ∙ blocks_from-same f g (next_block f root) n (λ k below. same (suc k) (omega arith)))

-- words that agree in the blocks of a chain have the same chain
pub IsChain-same : (f g : Words) (size root count : ℕ) (blocks : List ℕ) (es : List Extent)
    → ((k j : ℕ) → k < length blocks → j < 512 → g (512 * block_at blocks k + j) ≡ f (512 * block_at blocks k + j))
    → IsChain f size root count blocks es → IsChain g size root count blocks es
IsChain-same f g size root count blocks es same chain =
    let all : length blocks ≡ chains_for count = chain-count f size root count blocks es chain in
    let heads : (k : ℕ) → k < chains_for count → g (512 * block_at blocks k) ≡ f (512 * block_at blocks k) =
    λ k below. ap g (sym (add-zero (512 * block_at blocks k))) ∙ same k 0 (omega arith) (lit< tt) ∙ ap f (add-zero (512 * block_at blocks k)) in
    record {
      linked = chain.linked ∙ sym (blocks_from-same f g root (chains_for count) (rw chain.linked at heads));
      in_device = chain.in_device;
      map = record { spelled = SpellsChain-same f g blocks es same chain.map.spelled; counted = chain.map.counted; canonical = chain.map.canonical };
    }

pub reads_back : ReadsBack
reads_back f size blocks es count small in_device canonical spelled = record {
  linked = sym (ap (blocks_from f (first_or_zero blocks)) (sym count) ∙ spelled-linked f blocks es small spelled);
  in_device = in_device;
  map = record { spelled = spelled; counted = refl; canonical = canonical };
}

pub has_one_chain : HasOneChain
has_one_chain f size root count blocks others es fs small one other =
    let same : others ≡ blocks = other.linked ∙ sym one.linked in
    (same, sym (chain-map f size root count others fs small other) ∙ ap (flat_map (extents_in f)) same ∙ chain-map f size root count blocks es small one)

-- what is listed from blocks that a map stands in is the map
pub listed-map : (f : Words) (blocks : List ℕ) (count : ℕ) (es listed : List Extent) → IsMapIn f blocks count es → length listed ≡ count → AreListed f blocks listed → listed ≡ es
listed-map f blocks count es listed map size are =
    same_lists listed es (size ∙ sym map.counted) (λ k d below.
    let stands : StandsIn f blocks es = stands-spelled f blocks es map.spelled in
    let within : k < length es = omega (arith, map.counted, size) in
    let ok : IsExtent (extent_at es k) = map.canonical.each k no_extent within in
    let run = stands-run f blocks es k stands within in
    let number = stands-count f blocks es k stands within in
    get_or_default listed k d no_extent below ∙ are k below
    ∙ same_extent (listed_at f blocks k) (extent_at es k) (omega (arith, run, ok.in_file)) (omega (arith, run, ok.in_file)) (omega (arith, number, ok.in_file))
    ∙ get_or_default es k no_extent d within)
