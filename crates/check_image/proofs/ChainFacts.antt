-- Chains in data blocks: the journal does not change them, so that the device has the chains of the view.
use Rattle.std.proofs.Common.{◌≡◌, ℕ, ◌+◌, ◌*◌, ◌<◌, ◌^◌, true, List, All, sym, ◌∙◌, ap, subst}
use Rattle.k_journal.specs.pm_model.Words.{Words}
use Rattle.k_journal.specs.layout_model.Journal.{journaled, IsSound}
use Rattle.k_journal.specs.layout_model.Places.{Geometry, is_data_block}
use Rattle.k_journal.specs.layout_model.PlaceLaws.{behind_log-words}
use Rattle.k_reading.specs.extent_model.declared.extent_words.Extent.{Extent}
use Rattle.k_reading.specs.layout_model.declared.lines.Inode.{Inode}
use Rattle.k_reading.specs.image_model.Placed.{block_at}
use Rattle.k_reading.specs.image_model.Rules.{file_blocks_of, IsInData, HasChain}
use Rattle.k_reading.specs.image_model.Standing.{IsChain, HasNoChain}
use Rattle.k_reading.specs.image_model.Volume.{Volume, inode, chain, extents}
use Rattle.k_reading.specs.volume_laws.ChainLaws.{IsChain-same, has_one_chain}
use Rattle.k_reading.specs.volume_laws.RuleLaws.{IsOfWords, chain-of_rule, rule-of_chain}
use Rattle.k_reading.specs.volume_laws.ImageLaws.{journaled-other}
use Rattle.k_reading.specs.volume_laws.LineWords.{data_word, data_word-not_journaled}

-- a word of a data block is the same in the view
pub data-viewed : (g : Geometry) (f : Words) (b i : ℕ) → IsSound g f → is_data_block g b ≡ true → i < 512
    → journaled f (512 * b + i) ≡ f (512 * b + i)
data-viewed g f b i sound in_data below =
    journaled-other g f (512 * b + i) sound (behind_log-words g (512 * b + i) (data_word g b i in_data below)) (data_word-not_journaled g b i in_data below)

-- a chain in data blocks stands in the device where it stands in the view
pub chain-viewed : (g : Geometry) (f : Words) (size root count : ℕ) (blocks : List ℕ) (es : List Extent) → IsSound g f
    → All (λ b. is_data_block g b ≡ true) blocks → IsChain f size root count blocks es → IsChain (journaled f) size root count blocks es
chain-viewed g f size root count blocks es sound in_data stands =
    IsChain-same f (journaled f) size root count blocks es
    (λ k i below inside. data-viewed g f (block_at blocks k) i sound (in_data k 0 below) inside) stands

pub chain-stands : (g : Geometry) (f : Words) (size root count : ℕ) (blocks : List ℕ) (es : List Extent) → IsSound g f
    → All (λ b. is_data_block g b ≡ true) blocks → IsChain (journaled f) size root count blocks es → IsChain f size root count blocks es
chain-stands g f size root count blocks es sound in_data stands =
    IsChain-same (journaled f) f size root count blocks es
    (λ k i below inside. sym (data-viewed g f (block_at blocks k) i sound (in_data k 0 below) inside)) stands

-- What a volume has for an inode whose chain the device has.
pub record IsGood (v : Volume) (j : Words) (ino : ℕ) (blocks : List ℕ) (es : List Extent) : Type 0 where
  pub chain_is : chain v ino ≡ blocks
  pub map_is : extents v ino ≡ es
  pub rule : HasChain v j ino

pub chain-good : (v : Volume) (f : Words) (x : Inode) (ino size : ℕ) (blocks : List ℕ) (es : List Extent) → IsSound v.geometry f
    → IsOfWords v (journaled f) ino → inode v ino ≡ x → x.root < 2 ^ 32 → IsChain f size x.root x.extents blocks es
    → All (λ b. is_data_block v.geometry b ≡ true) blocks → All (IsInData v.geometry (file_blocks_of x.kind)) es
    → IsGood v (journaled f) ino blocks es
chain-good v f x ino size blocks es sound of is small stands in_region in_data =
    let j = journaled f in
    let kept = rule-of_chain v j ino size blocks es of
    (subst (λ (y : Inode). y.root < 2 ^ 32) (sym is) small)
    (subst (λ (y : Inode). IsChain j size y.root y.extents blocks es) (sym is)
    (chain-viewed v.geometry f size x.root x.extents blocks es sound in_region stands))
    in_region
    (subst (λ (y : Inode). All (IsInData v.geometry (file_blocks_of y.kind)) es) (sym is) in_data)
    in
    record { chain_is = kept.0; map_is = kept.1; rule = kept.2 }

-- where the rule holds, the device has the chain
pub rule-stands : (v : Volume) (f : Words) (x : Inode) (ino size : ℕ) → size ≡ 512 * v.geometry.blocks → IsSound v.geometry f
    → IsOfWords v (journaled f) ino → inode v ino ≡ x → HasChain v (journaled f) ino
    → IsChain f size x.root x.extents (chain v ino) (extents v ino)
rule-stands v f x ino size sized sound of is rule =
    subst (λ (y : Inode). IsChain f size y.root y.extents (chain v ino) (extents v ino)) is
    (subst (λ s. IsChain f s (inode v ino).root (inode v ino).extents (chain v ino) (extents v ino)) (sym sized)
    (chain-stands v.geometry f (512 * v.geometry.blocks) (inode v ino).root (inode v ino).extents (chain v ino) (extents v ino) sound rule.blocks
    (chain-of_rule v (journaled f) ino of rule)))

-- so the rule fails where the device has none, or has one that does not lie in data blocks
pub rule-none : (v : Volume) (f : Words) (x : Inode) (ino size : ℕ) → size ≡ 512 * v.geometry.blocks → IsSound v.geometry f
    → IsOfWords v (journaled f) ino → inode v ino ≡ x → HasNoChain f size x.root x.extents → HasChain v (journaled f) ino → ⊥
rule-none v f x ino size sized sound of is none rule =
    none (chain v ino) (extents v ino) (rule-stands v f x ino size sized sound of is rule)

pub rule-outside : (v : Volume) (f : Words) (x : Inode) (ino size : ℕ) (blocks : List ℕ) (es : List Extent) → size ≡ 512 * v.geometry.blocks
    → IsSound v.geometry f → IsOfWords v (journaled f) ino → inode v ino ≡ x → x.root < 2 ^ 32 → IsChain f size x.root x.extents blocks es
    → (All (λ b. is_data_block v.geometry b ≡ true) blocks → All (IsInData v.geometry (file_blocks_of x.kind)) es → ⊥)
    → HasChain v (journaled f) ino → ⊥
rule-outside v f x ino size blocks es sized sound of is small stands outside rule =
    let one = has_one_chain f size x.root x.extents blocks (chain v ino) es (extents v ino) small stands (rule-stands v f x ino size sized sound of is rule) in
    outside
    (subst (λ (bs : List ℕ). All (λ b. is_data_block v.geometry b ≡ true) bs) one.0 rule.blocks)
    (subst (λ (y : Inode). All (IsInData v.geometry (file_blocks_of y.kind)) es) is
    (subst (λ (fs : List Extent). All (IsInData v.geometry (file_blocks_of (inode v ino).kind)) fs) one.1 rule.in_data))

-- The same of a geometry that is the volume's: what is known of the blocks and the extents.
pub record IsInRegion (g : Geometry) (f : Words) (x : Inode) (blocks : List ℕ) (es : List Extent) : Type 0 where
  pub sound : IsSound g f
  pub blocks_in : All (λ b. is_data_block g b ≡ true) blocks
  pub extents_in : All (IsInData g (file_blocks_of x.kind)) es

pub good-of : (g : Geometry) (f : Words) (x : Inode) (size : ℕ) (blocks : List ℕ) (es : List Extent) → x.root < 2 ^ 32 → IsChain f size x.root x.extents blocks es
    → IsInRegion g f x blocks es → (v : Volume) (ino : ℕ) → v.geometry ≡ g → IsOfWords v (journaled f) ino → inode v ino ≡ x
    → (chain v ino ≡ blocks) × (extents v ino ≡ es) × HasChain v (journaled f) ino
good-of g f x size blocks es small stands inside v ino same of is =
    let at = subst (λ h. IsInRegion h f x blocks es) (sym same) inside in
    let good = chain-good v f x ino size blocks es at.sound of is small stands at.blocks_in at.extents_in in
    (good.chain_is, good.map_is, good.rule)

pub none-of : (g : Geometry) (f : Words) (x : Inode) (size : ℕ) → size ≡ 512 * g.blocks → IsSound g f → HasNoChain f size x.root x.extents
    → (v : Volume) (ino : ℕ) → v.geometry ≡ g → IsOfWords v (journaled f) ino → inode v ino ≡ x → HasChain v (journaled f) ino → ⊥
none-of g f x size sized sound none v ino same of is rule =
    rule-none v f x ino size (sized ∙ ap (λ (h : Geometry). 512 * h.blocks) (sym same)) (subst (λ h. IsSound h f) (sym same) sound) of is none rule

pub outside-of : (g : Geometry) (f : Words) (x : Inode) (size : ℕ) (blocks : List ℕ) (es : List Extent) → size ≡ 512 * g.blocks → IsSound g f → x.root < 2 ^ 32
    → IsChain f size x.root x.extents blocks es → (IsInRegion g f x blocks es → ⊥)
    → (v : Volume) (ino : ℕ) → v.geometry ≡ g → IsOfWords v (journaled f) ino → inode v ino ≡ x → HasChain v (journaled f) ino → ⊥
outside-of g f x size blocks es sized sound small stands outside v ino same of is rule =
    let here = subst (λ h. IsSound h f) (sym same) sound in
    rule-outside v f x ino size blocks es (sized ∙ ap (λ (h : Geometry). 512 * h.blocks) (sym same)) here of is small stands
    (λ region inside.
    outside (subst (λ h. IsInRegion h f x blocks es) same (record { sound = here; blocks_in = region; extents_in = inside })))
    rule
