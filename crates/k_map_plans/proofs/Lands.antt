-- The steps of a landing on the volume: what each asks for, and what they make of it.
use Rattle.std.proofs.Common.{◌≡◌, ◌≢◌, ◌<◌, ◌≤◌, ◌+◌, ℕ, suc, List, [], ◌∷◌, ◌++◌, length, refl, sym, ◌∙◌, ap, inr, arith, subst}
use Rattle.std.specs.Prelude.{All, sum_by}
use Rattle.std.specs.List.{flat_map}
use Rattle.std.proofs.lemmas.List.{length-set}
use Rattle.std.proofs.lemmas.List.Sums.{sum_by-cons}
use Rattle.layout_model.specs.declared.lines.Inode.{Inode}
use Rattle.layout_model.specs.declared.lines.Kind.TheVariants.{Staging}
use Rattle.k_relink.specs.extent_model.declared.extent_words.Extent.{Extent}
use Rattle.k_plans.specs.image_model.Rules.{file_blocks_of}
use Rattle.k_plans.specs.image_model.Volume.{Volume, chain, extents, inode}
use Rattle.k_plans.specs.LandingsPlans.{NewChain, blocks_of, new_at}
use Rattle.k_plans.specs.Whole.{IsWhole}
use Rattle.k_plans.specs.k_split_model.MapChangesChanges.{with_lefts}
use Rattle.k_plans.specs.k_split_model.Taken.{switched, with_map}
use Rattle.k_plans.specs.k_split_model.declared.map_changes.moves.MoveRun.{MoveRun}
use Rattle.k_plans.specs.volume_change_laws.Hits.{in_chain-append}
use Rattle.k_plans.specs.volume_laws.Changes.{chain-set_other, chain-set_same, extents-set_other, inode-set_other}
use Rattle.k_plans.specs.volume_laws.Uses.{in_chain, in_map}
use Rattle.k_map_plans.specs.LandingSteps.{freed_with, staging_step, steps_of}
use Rattle.k_map_plans.specs.Linking.{KeepsLeft, Left, left_at}
use Rattle.k_map_plans.specs.Steps.{ComeFrom, ComesFrom, MayStep, MayStepAll, Step, after_steps}
use Rattle.k_map_plans.proofs.Chains.{AreFrom, Fits, FitsAll}
use Rattle.k_map_plans.proofs.Goings.{fields-fit}
use Rattle.k_map_plans.proofs.Links.{inodes-room, staging-kind}
use Rattle.k_map_plans.proofs.Stagings.{staging-fields}

-- ---- inodes that are as before

pub record IsAs (v w : Volume) (y : ℕ) : Type 0 where
  pub line : inode w y ≡ inode v y
  pub chain_is : chain w y ≡ chain v y
  pub map : extents w y ≡ extents v y

as-step : (v w : Volume) (x y : ℕ) (line : Inode) (blocks : List ℕ) (es : List Extent) → y ≢ x → IsAs v w y → IsAs v (switched x line blocks es w) y
as-step v w x y line blocks es apart is = record {
  line = inode-set_other x (with_map blocks es line) blocks es w y apart ∙ is.line;
  chain_is = chain-set_other x (with_map blocks es line) blocks es w y apart ∙ is.chain_is;
  map = extents-set_other x (with_map blocks es line) blocks es w y apart ∙ is.map;
}

-- The file and the staging files from `low` on are as before.
pub record IsPartway (v w : Volume) (ino low : ℕ) : Type 0 where
  pub inode_count : length w.inodes ≡ length v.inodes
  pub chain_count : length w.chains ≡ length v.chains
  pub geometry : w.geometry ≡ v.geometry
  pub file : IsAs v w ino
  pub others : (y : ℕ) → low ≤ y → y ≤ 4 → IsAs v w y

pub partway-begin : (v : Volume) (ino : ℕ) → IsPartway v v ino 1
partway-begin v ino = record {
  inode_count = refl;
  chain_count = refl;
  geometry = refl;
  file = record { line = refl; chain_is = refl; map = refl };
  others = λ y low high. record { line = refl; chain_is = refl; map = refl };
}

partway-step : (v w : Volume) (ino low x : ℕ) (line : Inode) (blocks : List ℕ) (es : List Extent) → 5 ≤ ino → low ≤ x → x ≤ 4 → IsPartway v w ino low
    → IsPartway v (switched x line blocks es w) ino (x + 1)
partway-step v w ino low x line blocks es file least most is = record {
  inode_count = length-set w.inodes x (with_map blocks es line) ∙ is.inode_count;
  chain_count = length-set w.chains x blocks ∙ is.chain_count;
  geometry = is.geometry;
  file = as-step v w x ino line blocks es (λ same. omega (arith, same, file, most)) is.file;
  others = λ y from to. as-step v w x y line blocks es (λ same. omega (arith, same, from)) (is.others y (omega (arith, from, least)) to);
}

-- each staging file has its new chain by this
abbrev pub HaveChains : (ℕ → List ℕ) → List ℕ → List NewChain → Type 0
HaveChains f [] cs = Unit {0}
HaveChains f (x ∷ xs) [] = Unit {0}
HaveChains f (x ∷ xs) (c ∷ cs) = (f x ≡ c.blocks) × HaveChains f xs cs

pub chains-same : (f g : ℕ → List ℕ) (low : ℕ) (xs : List ℕ) (cs : List NewChain) → ((y : ℕ) → y ≤ 4 → f y ≡ g y) → AreFrom low xs → HaveChains g xs cs
    → HaveChains f xs cs
chains-same f g low [] cs same from have = tt
chains-same f g low (x ∷ xs) [] same from have = tt
chains-same f g low (x ∷ xs) (c ∷ cs) same from have = (same x from.1 ∙ have.0, chains-same f g (x + 1) xs cs same from.2 have.1)

pub chains-flat : (f : ℕ → List ℕ) (lefts : List Left) (xs : List ℕ) (cs : List NewChain) → FitsAll lefts xs cs → HaveChains f xs cs
    → flat_map f xs ≡ blocks_of cs
chains-flat f lefts [] [] fits have = refl
chains-flat f lefts [] (c ∷ cs) fits have = absurd fits
chains-flat f lefts (x ∷ xs) [] fits have = absurd fits
chains-flat f lefts (x ∷ xs) (c ∷ cs) fits have = λ i. have.0 i ++ chains-flat f lefts xs cs fits.1 have.1 i

module _ (v : Volume) (ino : ℕ) (lefts : List Left) (own : List ℕ) (file : 5 ≤ ino) where
  -- the volume behind the steps of staging files
  pub partway-end : (low : ℕ) (xs : List ℕ) (cs : List NewChain) (freed : List ℕ) (w : Volume) → low ≤ 5 → AreFrom low xs → IsPartway v w ino low
      → IsPartway v (after_steps (steps_of v lefts own xs cs freed []) w) ino 5
  partway-end low [] cs freed w few from is = record {
    inode_count = is.inode_count;
    chain_count = is.chain_count;
    geometry = is.geometry;
    file = is.file;
    others = λ y least most. absurd (omega (arith, least, most));
  }
  partway-end low (x ∷ xs) [] freed w few from is = record {
    inode_count = is.inode_count;
    chain_count = is.chain_count;
    geometry = is.geometry;
    file = is.file;
    others = λ y least most. absurd (omega (arith, least, most));
  }
  partway-end low (x ∷ xs) (c ∷ cs) freed w few from is =
      partway-end (x + 1) xs cs (freed_with v (left_at lefts x) x freed) (switched x (inode v x) c.blocks c.extents w) (omega (arith, from.1)) from.2
      (partway-step v w ino low x (inode v x) c.blocks c.extents file from.0 from.1 is)

  -- steps behind the others
  pub after-end : (xs : List ℕ) (cs : List NewChain) (freed : List ℕ) (end : List Step) (w : Volume)
      → after_steps (steps_of v lefts own xs cs freed end) w ≡ after_steps end (after_steps (steps_of v lefts own xs cs freed []) w)
  after-end [] cs freed end w = refl
  after-end (x ∷ xs) [] freed end w = refl
  after-end (x ∷ xs) (c ∷ cs) freed end w =
      after-end xs cs (freed_with v (left_at lefts x) x freed) end (switched x (inode v x) c.blocks c.extents w)

  -- ---- the chains that staging files have then

  kept-before : (y low : ℕ) (xs : List ℕ) (cs : List NewChain) (freed : List ℕ) (w : Volume) → y < low → AreFrom low xs
      → chain (after_steps (steps_of v lefts own xs cs freed []) w) y ≡ chain w y
  kept-before y low [] cs freed w below from = refl
  kept-before y low (x ∷ xs) [] freed w below from = refl
  kept-before y low (x ∷ xs) (c ∷ cs) freed w below from =
      kept-before y (x + 1) xs cs (freed_with v (left_at lefts x) x freed) (switched x (inode v x) c.blocks c.extents w) (omega (arith, below, from.0)) from.2
      ∙ chain-set_other x (with_map c.blocks c.extents (inode v x)) c.blocks c.extents w y (λ same. omega (arith, same, below, from.0))

  pub have-chains : (low : ℕ) (xs : List ℕ) (cs : List NewChain) (freed : List ℕ) (w : Volume) → AreFrom low xs → 5 ≤ length w.chains
      → HaveChains (chain (after_steps (steps_of v lefts own xs cs freed []) w)) xs cs
  have-chains low [] cs freed w from room = tt
  have-chains low (x ∷ xs) [] freed w from room = tt
  have-chains low (x ∷ xs) (c ∷ cs) freed w from room = (
    kept-before x (x + 1) xs cs (freed_with v (left_at lefts x) x freed) (switched x (inode v x) c.blocks c.extents w) (omega arith) from.2
        ∙ chain-set_same x (with_map c.blocks c.extents (inode v x)) c.blocks c.extents w (omega (arith, room, from.1)),
    have-chains (x + 1) xs cs (freed_with v (left_at lefts x) x freed) (switched x (inode v x) c.blocks c.extents w) from.2
        (omega (arith, room, length-set w.chains x c.blocks)),
  )

  -- ---- what they make of the volume

  pub are-lefts : (rests : ℕ → List ℕ) (left : ℕ → List Extent) (low : ℕ) (xs : List ℕ) (cs : List NewChain) (freed : List ℕ) (w : Volume)
      → 1 ≤ low → ((x : ℕ) → 1 ≤ x → x ≤ 4 → (left_at lefts x).map ≡ left x) → AreFrom low xs → FitsAll lefts xs cs → HaveChains rests xs cs
      → IsPartway v w ino low → after_steps (steps_of v lefts own xs cs freed []) w ≡ with_lefts xs rests left w
  are-lefts rests left low [] [] freed w some here from fits have is = refl
  are-lefts rests left low [] (c ∷ cs) freed w some here from fits have is = absurd fits
  are-lefts rests left low (x ∷ xs) [] freed w some here from fits have is = absurd fits
  are-lefts rests left low (x ∷ xs) (c ∷ cs) freed w some here from fits have is =
      let line_is : inode v x ≡ inode w x = sym (is.others x from.0 from.1).line in
      let map_is : c.extents ≡ left x = fits.0.map ∙ here x (omega (arith, some, from.0)) from.1 in
      are-lefts rests left (x + 1) xs cs (freed_with v (left_at lefts x) x freed) (switched x (inode v x) c.blocks c.extents w) (omega arith) here from.2 fits.1
      have.1 (partway-step v w ino low x (inode v x) c.blocks c.extents file from.0 from.1 is)
      ∙ (λ i. with_lefts xs rests left (switched x (line_is i) (sym have.0 i) (map_is i) w))

-- ---- what each asks for

module _ (v : Volume) (ino : ℕ) (runs : List MoveRun) (lefts : List Left) (linked displaced : List Extent) (own : List ℕ) (last : Step) (file : 5 ≤ ino)
    (whole : IsWhole v) (keeps : KeepsLeft v ino runs lefts linked displaced) (total : ℕ → ℕ)
    (final : (low : ℕ) (w : Volume) (waits : List ℕ) → IsPartway v w ino low → ((b : ℕ) → in_chain waits b ≡ in_chain own b + total b) → MayStep w waits last) where
  one-may : (low x : ℕ) (w : Volume) (c : NewChain) (cs : List NewChain) (freed waits : List ℕ) → 1 ≤ low → low ≤ x → x ≤ 4 → IsPartway v w ino low
      → Fits lefts x c → ((b : ℕ) → in_chain waits b ≡ in_chain own b + (in_chain (c.blocks ++ blocks_of cs) b + in_chain freed b))
      → MayStep w waits (staging_step v x c (own ++ (blocks_of cs ++ freed_with v (left_at lefts x) x freed)))
  one-may low x w c cs freed waits some least most is fits counts =
      let own_is : IsAs v w x = is.others x least most in
      let kind : (inode v x).kind ≡ Staging = staging-kind v x whole (omega (arith, some, least)) most in
      record {
        below = omega (arith, is.inode_count, inodes-room v whole, most);
        kind = ap (λ (y : Inode). y.kind) (sym own_is.line);
        fields = fields-fit (inode v x) c.blocks c.extents (inr kind)
            (staging-fields (inode v x) (inode v x) kind (whole.inodes x) kind refl refl) fits.size fits.above;
        short = subst (λ es. All (λ (e : Extent). e.file + e.count ≤ file_blocks_of (inode v x).kind) es) (sym fits.map)
            (subst (λ k. All (λ (e : Extent). e.file + e.count ≤ file_blocks_of k) (left_at lefts x).map) (sym kind)
            (keeps.short x (omega (arith, some, least)) most));
        same = λ b.
            omega (
              arith,
              counts b,
              keeps.blocks x b (omega (arith, some, least)) most,
              ap (λ es. in_map es b) fits.map,
              ap (λ ks. in_chain ks b) own_is.chain_is,
              ap (λ es. in_map es b) own_is.map,
              in_chain-append c.blocks (blocks_of cs) b,
              in_chain-append own (blocks_of cs ++ freed_with v (left_at lefts x) x freed) b,
              in_chain-append (blocks_of cs) (freed_with v (left_at lefts x) x freed) b,
              in_chain-append (freed ++ chain v x) (left_at lefts x).went b,
              in_chain-append freed (chain v x) b,
            );
      }

  pub all-may : (low : ℕ) (xs : List ℕ) (cs : List NewChain) (freed waits : List ℕ) (w : Volume) → 1 ≤ low → AreFrom low xs → FitsAll lefts xs cs
      → IsPartway v w ino low → ((b : ℕ) → in_chain waits b ≡ in_chain own b + (in_chain (blocks_of cs) b + in_chain freed b))
      → ((b : ℕ) → in_chain freed b + (in_chain (flat_map (chain v) xs) b + sum_by (λ x. in_chain (left_at lefts x).went b) xs) ≡ total b)
      → MayStepAll w waits (steps_of v lefts own xs cs freed (last ∷ []))
  all-may low [] [] freed waits w some from fits is counts sums = (final low w waits is (λ b. omega (arith, counts b, sums b)), tt)
  all-may low [] (c ∷ cs) freed waits w some from fits is counts sums = absurd fits
  all-may low (x ∷ xs) [] freed waits w some from fits is counts sums = absurd fits
  all-may low (x ∷ xs) (c ∷ cs) freed waits w some from fits is counts sums =
      let freed2 : List ℕ = freed_with v (left_at lefts x) x freed in (
        one-may low x w c cs freed waits some from.0 from.1 is fits.0 counts,
        all-may (x + 1) xs cs freed2 (own ++ (blocks_of cs ++ freed2)) (switched x (inode v x) c.blocks c.extents w) (omega arith) from.2 fits.1
            (partway-step v w ino low x (inode v x) c.blocks c.extents file from.0 from.1 is)
            (λ b. omega (arith, in_chain-append own (blocks_of cs ++ freed2) b, in_chain-append (blocks_of cs) freed2 b))
            (λ b.
            omega (
              arith,
              sums b,
              in_chain-append (freed ++ chain v x) (left_at lefts x).went b,
              in_chain-append freed (chain v x) b,
              in_chain-append (chain v x) (flat_map (chain v) xs) b,
              sum_by-cons (λ y. in_chain (left_at lefts y).went b) x xs,
            )),
      )

-- ---- where their maps come from

pub all-come : (v : Volume) (lefts : List Left) (own : List ℕ) (news : List NewChain) (last : Step) (place : ℕ) (xs : List ℕ) (cs : List NewChain)
    (freed : List ℕ) → ComesFrom news last → place + length cs ≤ length news → ((j : ℕ) → j < length cs → new_at news (place + j) ≡ new_at cs j)
    → ComeFrom news (steps_of v lefts own xs cs freed (last ∷ []))
all-come v lefts own news last place [] cs freed file room are = (file, tt)
all-come v lefts own news last place (x ∷ xs) [] freed file room are = (file, tt)
all-come v lefts own news last place (x ∷ xs) (c ∷ cs) freed file room are =
    let here : new_at news place ≡ c = ap (new_at news) (omega arith) ∙ are 0 (omega arith) in (
      record {
        place = place;
        below = omega (arith, room);
        chain = ap (λ (n : NewChain). n.blocks) (sym here);
        map = ap (λ (n : NewChain). n.extents) (sym here);
      },
      all-come v lefts own news last (place + 1) xs cs (freed_with v (left_at lefts x) x freed) file (omega (arith, room)) (λ j below.
          let next : place + 1 + j ≡ place + suc j = omega arith in
          ap (new_at news) next ∙ are (suc j) (omega (arith, below))),
    )
