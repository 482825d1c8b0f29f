-- Staging files that change, in the words of the World, and the content of the images of such a change.
use Rattle.std.proofs.Common.{◌≡◌, ◌+◌, ◌++◌, ◌==◌, ◌&&◌, ℕ, true, List, [], length, refl, sym, ◌∙◌, ap, subst, arith, inl, inr, length-append}
use Rattle.std.specs.Prelude.{All, nat_lt}
use Rattle.std.proofs.lemmas.Bool.{cases_eq}
use Rattle.std.proofs.lemmas.List.{get_or-append-add}
use Rattle.log_laws.specs.pm_model.Images.{Follows, Follows-weaken}
use Rattle.log_laws.specs.layout_model.declared.lines.Draft.{Draft}
use Rattle.log_laws.specs.layout_model.declared.lines.Inode.{Inode}
use Rattle.log_laws.specs.layout_model.declared.lines.Kind.TheVariants.{Staging}
use Rattle.log_laws.specs.layout_model.Journal.{journaled}
use Rattle.log_laws.specs.image_model.Live.{is_file, is_live, valid_entries}
use Rattle.log_laws.specs.image_model.Volume.{chain, extents, inode, Volume}
use Rattle.log_laws.specs.extent_model.declared.extent_words.Extent.{Extent}
use Rattle.k_split.specs.k_map_plans.Plans.{IsStagingFile}
use Rattle.k_split.specs.k_plans.Whole.{IsWhole}
use Rattle.log_laws.specs.k_split_model.View.{View}
use Rattle.k_split.specs.MapChanges.{is_free_in, IsPreallocatedWith}
use Rattle.k_split.specs.Order.{IsInOrder}
use Rattle.log_laws.specs.list_laws.Filters.{filter-In, In-filter}
use Rattle.k_split.specs.k_split_model.MapChangesChanges.{aged, given_up}
use Rattle.k_split.specs.k_split_model.Taken.{switched, with_map}
use Rattle.log_laws.specs.volume_laws.Changes.{chain-set_same, extents-set_other, inode-set_other, inode-set_same}
use Rattle.log_laws.specs.world_model.Stands.{IsSane}
use Rattle.log_laws.specs.world_write_laws.Restages.{Restages}
use Rattle.fsync_relink.specs.Laws.{GivesRestagesFilled, GivesRestagesGivenUp, KeepsContentFilled, KeepsContentGivenUp, StaysDeadGivenUp}
use Rattle.fsync_relink.specs.Images.{IsRestaged}
use Rattle.log_laws.proofs.RestagedLaws.{same-files}
use Rattle.fsync_relink.proofs.ImageLaws.{IsBeside}
use Rattle.fsync_relink.proofs.WorldLaws.{change-beside, sane-in-order, sane-same}

-- ---- a staging file with another line, chain and map

module _ (x : ℕ) (line : Inode) (blocks : List ℕ) (es : List Extent) (v w : Volume) (sane : IsSane v) (staging : IsStagingFile x v) (whole : IsWhole w)
    (is : w ≡ switched x line blocks es v) (kind : line.kind ≡ Staging) where
  restages : Restages v w x
  restages = record {
    sane = sane-same v w sane whole (ap (λ (y : Volume). y.names) is);
    names = ap (λ (y : Volume). y.names) is;
    geometry = ap (λ (y : Volume). y.geometry) is;
    staging = staging.kind;
    kind = ap (λ y. (inode y x).kind) is ∙ (ap (λ (y : Inode). y.kind) (inode-set_same x (with_map blocks es line) blocks es v staging.below) ∙ kind);
    others = λ i other. ap (λ y. inode y i) is ∙ inode-set_other x (with_map blocks es line) blocks es v i other;
    maps = λ i other. ap (λ y. extents y i) is ∙ extents-set_other x (with_map blocks es line) blocks es v i other;
  }

pub restages-filled : GivesRestagesFilled
restages-filled x count old w blocks staging whole sane p = (
  restages x (aged (inode old.volume x)) p.preallocated.blocks p.preallocated.es old.volume w sane staging whole p.preallocated.is_preallocated staging.kind,
  ap (λ (y : Volume). y.base) p.preallocated.is_preallocated,
)

pub restages-given_up : GivesRestagesGivenUp
restages-given_up x old w blocks staging whole sane g = (
  restages x (inode old.volume x) [] [] old.volume w sane staging whole g.given staging.kind,
  ap (λ (y : Volume). y.base) g.given,
)

-- ---- what is live

-- what is given up stays dead: its generation stays
pub stays-dead : StaysDeadGivenUp
stays-dead v f x staging dead d is own =
    let its = filter-In (is_live (given_up x v)) (valid_entries (given_up x v) f) d is in
    dead d (In-filter (is_live v) (valid_entries v f) d its.0 (sym (same d) ∙ its.1)) own
  where
    number-same : {X : Type 0} (number : Inode → X) → ((y : Inode) → number (with_map [] [] y) ≡ number y) → (i : ℕ) → number (inode (given_up x v) i) ≡ number (inode v i)
    number-same number stays i = elim (cases_eq i x) [
      | inl is_own ↦
          ap (λ k. number (inode (given_up x v) k)) is_own
          ∙ (ap number (inode-set_same x (with_map [] [] (inode v x)) [] [] v staging.below) ∙ (stays (inode v x) ∙ ap (λ k. number (inode v k)) (sym is_own)))
      | inr other ↦ ap number (inode-set_other x (with_map [] [] (inode v x)) [] [] v i other)
    ]

    same : (d : Draft) → is_live (given_up x v) d ≡ is_live v d
    same d =
        λ i. (is_file (number-same (λ (y : Inode). y.kind) (λ y. refl) d.ino i) && (number-same (λ (y : Inode). y.generation) (λ y. refl) d.ino i == d.generation))
        && nat_lt (number-same (λ (y : Inode). y.applied) (λ y. refl) d.ino i) d.order
        && (number-same (λ (y : Inode). y.generation) (λ y. refl) d.staging i == d.staging_generation)

-- ---- the content of the images

restaged-beside : (x : ℕ) (old new : View) (w : Volume) → Restages old.volume w x → w.base ≡ old.volume.base → Follows (IsBeside old.volume w) old.cells new.cells
    → Follows (IsRestaged x old.volume w) old.cells new.cells
restaged-beside x old new w change base follows =
    Follows-weaken (IsBeside old.volume w) (IsRestaged x old.volume w) old.cells new.cells (λ before image beside. record {
      log = beside.0;
      same = λ dead after. beside.1 (same-files old.volume w (journaled before) x change base dead after);
    }) follows

-- what holds of all elements holds of those behind the first ones
All-behind : (P : ℕ → Type 0) (xs ys : List ℕ) → All P (xs ++ ys) → All P ys
All-behind P xs ys all k d below = subst P (get_or-append-add xs ys k d) (all (length xs + k) d (omega (arith, below, length-append xs ys)))

-- those of the chain that a staging file gets were free
filled-free : (x count : ℕ) (old : View) (w : Volume) (blocks : List ℕ) → IsInOrder old → IsStagingFile x old.volume → IsPreallocatedWith x count old w blocks → All (λ b. is_free_in old b ≡ true) blocks
filled-free x count old w blocks order staging p =
    subst (All (λ b. is_free_in old b ≡ true))
    (sym (p.written ∙ (ap (λ y. chain y x) p.preallocated.is_preallocated ∙ chain-set_same x (with_map p.preallocated.blocks p.preallocated.es (aged (inode old.volume x))) p.preallocated.blocks p.preallocated.es old.volume
    (omega (arith, order.whole.maps.chain_count, staging.below)))))
    (All-behind (λ b. is_free_in old b ≡ true) p.preallocated.fresh p.preallocated.blocks p.preallocated.taken.were_free)

pub keeps-content-filled : KeepsContentFilled
keeps-content-filled x count old new w blocks order unbatched staging whole p changes =
    let is = restages-filled x count old w blocks staging whole (sane-in-order old order unbatched) p in
    restaged-beside x old new w is.0 is.1 (change-beside old new w blocks order unbatched (filled-free x count old w blocks order staging p) changes)

pub keeps-content-given_up : KeepsContentGivenUp
keeps-content-given_up x old new w blocks order unbatched staging whole g changes =
    let is = restages-given_up x old w blocks staging whole (sane-in-order old order unbatched) g in
    restaged-beside x old new w is.0 is.1 (change-beside old new w blocks order unbatched none changes)
  where
    none : All (λ b. is_free_in old b ≡ true) blocks
    none = subst (All (λ b. is_free_in old b ≡ true)) (sym g.written) (λ k d below. absurd (omega arith))
