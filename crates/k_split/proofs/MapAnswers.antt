-- What a change of maps leaves that was planned and landed.
use Rattle.std.proofs.Common.{◌≡◌, ◌≢◌, ◌⊎◌, ℕ, ◌/◌, Bool, true, false, List, [], Some, None, Result, Ok, Err, refl, sym, ◌∙◌, ap, subst, arith, inl, inr}
use Rattle.std.specs.Prelude.{OnErr, OnOk}
use Rattle.block_io.specs.pm_model.declared.Cell.{Cell}
use Rattle.std.proofs.lemmas.Bool.{cases_Bool, cases_eq}
use Rattle.block_io.specs.pm_model.Cells.{cell, is_single}
use Rattle.block_io.specs.pm_model.Frames.{KeepsSingle}
use Rattle.block_io.specs.pm_model.Powers.{Supply}
use Rattle.layout_model.specs.declared.lines.Inode.{Inode}
use Rattle.layout_model.specs.declared.lines.Kind.TheVariants.{File}
use Rattle.block_io.specs.layout_model.Places.{is_data_block}
use Rattle.block_io.specs.image_model.Rules.{IsKindAt}
use Rattle.block_io.specs.extent_model.Extents.{covers}
use Rattle.block_io.specs.extent_model.declared.extent_words.Extent.{Extent}
use Rattle.k_map_plans.specs.Plans.{IsLiveFile, IsStagingFile}
use Rattle.block_io.specs.k_split_model.MapChangesChanges.{given_up}
use Rattle.block_io.specs.k_split_model.Taken.{switched, with_map}
use Rattle.k_tables.specs.volume_laws.Changes.{chain-set_same, extents-set_other}
use Rattle.block_io.specs.image_model.Volume.{Volume, chain, extents, inode}
use Rattle.k_map_plans.specs.k_plans.PlansPlans.{KeepsStaged}
use Rattle.k_map_plans.specs.k_plans.Whole.{IsWhole}
use Rattle.posix_types.specs.declared.reply.Reply.{Reply}
use Rattle.posix_tables.specs.Outcomes.{answer}
use Rattle.k_split.specs.declared.faults.KFault.{KFault}
use Rattle.k_split.specs.Answers.{IsPaid}
use Rattle.k_split.specs.MapChanges.{IsMapLanded, IsStagedSingle}
use Rattle.k_split.specs.Order.{IsUnstaged, IsUnstagedSingle}

-- a file is no staging file, so that the maps of those stay where a file's map changes
pub file-staged : (v w : Volume) (ino : ℕ) (x : Inode) (blocks : List ℕ) (es : List Extent) → IsWhole v → IsLiveFile ino v
    → w ≡ switched ino x blocks es v → KeepsStaged v w
file-staged v w ino x blocks es whole file is i least most =
    let kept = whole.kept.kept.kinds ino (omega (arith, file.below, whole.kept.all.inode_count)) in
    let behind : IsKindAt ino File = subst (IsKindAt ino) file.file kept in
    ap (λ y. extents y i) is ∙ extents-set_other ino (with_map blocks es x) blocks es v i (λ same. omega (arith, behind, same))

-- Data blocks that no staging file has stay single, where those that a staging file had are single.
pub unstaged-from : (v w : Volume) (d e : List Cell) → w.geometry ≡ v.geometry → KeepsSingle d e → IsUnstagedSingle v d
    → ((i : ℕ) → IsUnstaged w (i / 512) → IsUnstaged v (i / 512) ⊎ (is_single (cell d i) ≡ true)) → IsUnstagedSingle w e
unstaged-from v w d e geometry singles single from i in_data free = elim (from i free) [
  | inl before ↦ singles i (single i (subst (λ g. is_data_block g (i / 512) ≡ true) geometry in_data) before)
  | inr is ↦ singles i is
]

-- where one staging file changes
module _ (v w : Volume) (staging : ℕ) (x : Inode) (blocks : List ℕ) (es : List Extent) (is : w ≡ switched staging x blocks es v) where
  others-staged : (ino : ℕ) → ino ≢ staging → extents w ino ≡ extents v ino
  others-staged ino apart = ap (λ y. extents y ino) is ∙ extents-set_other staging (with_map blocks es x) blocks es v ino apart

  -- one that had nothing
  pub filled-unstaged : extents v staging ≡ [] → (b : ℕ) → IsUnstaged w b → IsUnstaged v b
  filled-unstaged bare b free ino least most = elim (cases_eq ino staging) [
    | inl same ↦ ap (λ fs. covers fs b) (ap (extents v) same ∙ bare)
    | inr apart ↦ ap (λ fs. covers fs b) (sym (others-staged ino apart)) ∙ free ino least most
  ]

  -- one whose blocks are single
  pub single-unstaged : (d : List Cell) → IsStagedSingle staging v d → (i : ℕ) → IsUnstaged w (i / 512)
      → IsUnstaged v (i / 512) ⊎ (is_single (cell d i) ≡ true)
  single-unstaged d home i free = elim (cases_Bool (covers (extents v staging) (i / 512))) [
    | inl has ↦ inr (home i has)
    | inr none ↦ inl (λ ino least most. elim (cases_eq ino staging) [
      | inl same ↦ ap (λ n. covers (extents v n) (i / 512)) same ∙ none
      | inr apart ↦ ap (λ fs. covers fs (i / 512)) (sym (others-staged ino apart)) ∙ free ino least most
    ])
  ]

-- a staging file that gave up its blocks has no chain
pub given-chain : (v w : Volume) (staging : ℕ) → IsWhole v → IsStagingFile staging v → w ≡ given_up staging v → chain w staging ≡ []
given-chain v w staging whole is given =
    ap (λ y. chain y staging) given
    ∙ chain-set_same staging (with_map [] [] (inode v staging)) [] [] v (omega (arith, is.below, whole.maps.chain_count))

pub map-paid : (blocks : List ℕ) (v w : Volume) (d e : List Cell) (p q : Supply) (r : Result (Unit {0}) KFault)
    → IsMapLanded blocks v w d e p q r → IsPaid None p q r
map-paid blocks v w d e p q (Ok done) landed = (landed.on, λ none. landed.took, λ idle. let never : None ≡ Some (answer Reply.Ok) = idle in absurd (cc))
map-paid blocks v w d e p q (Err KFault.PowerLost) landed = landed.off
map-paid blocks v w d e p q (Err (KFault.Refused errno)) landed = absurd landed
map-paid blocks v w d e p q (Err (KFault.Room room)) landed = absurd landed
map-paid blocks v w d e p q (Err KFault.NoMemory) landed = absurd landed
