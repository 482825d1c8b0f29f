-- A staging file gives up its blocks while nothing is live: what that leaves of a running World.
use Rattle.std.specs.Prelude.{◌≡◌, ◌≤◌, ◌==◌, ◌&&◌, nat_lt, ℕ, suc, zero, false, List, [], map, Ok, refl}
use Rattle.std.proofs.Common.{arith, ap, ◌∙◌, sym, subst, inl, inr}
use Rattle.std.proofs.lemmas.Bool.{cases_eq}
use Rattle.log_checkpoint.specs.pm_model.declared.Cell.{Cell}
use Rattle.log_checkpoint.specs.pm_model.Frames.{KeepsSingle, SameLent}
use Rattle.log_checkpoint.specs.pm_model.ImageLaws.{IsImage-words_of}
use Rattle.log_checkpoint.specs.pm_model.Images.{words_of}
use Rattle.log_checkpoint.specs.crash_spec.Permitted.{StronglyPermitted}
use Rattle.log_checkpoint.specs.layout_model.declared.lines.Draft.{Draft}
use Rattle.log_checkpoint.specs.layout_model.declared.lines.Inode.{Inode}
use Rattle.log_checkpoint.specs.layout_model.declared.lines.Kind.TheVariants.{File, Staging}
use Rattle.log_checkpoint.specs.image_model.Live.{is_file, is_live}
use Rattle.log_checkpoint.specs.image_model.Reading.{inode_set}
use Rattle.log_checkpoint.specs.image_model.Room.{unused_blocks}
use Rattle.log_checkpoint.specs.image_model.Rules.{file_blocks_of}
use Rattle.log_checkpoint.specs.image_model.Volume.{inode, Volume}
use Rattle.log_checkpoint.specs.extent_model.Extents.{block_count}
use Rattle.log_checkpoint.specs.fsync_relink.Others.{GoesOn}
use Rattle.log_checkpoint.specs.k_map_plans.Plans.{IsStagingFile}
use Rattle.log_checkpoint.specs.k_plans.Whole.{IsWhole}
use Rattle.log_checkpoint.specs.k_split_model.Stands.{Stands}
use Rattle.log_checkpoint.specs.k_split_model.View.{View}
use Rattle.log_checkpoint.specs.k_split.MapChanges.{ChangesMaps, IsGivenUpWith, IsGiveUpAnswer, IsMapCut}
use Rattle.log_checkpoint.specs.list_laws.Filters.{filter-agree}
use Rattle.log_checkpoint.specs.list_laws.Members.{In}
use Rattle.log_checkpoint.specs.k_split_model.Taken.{with_map}
use Rattle.log_checkpoint.specs.posix_types.declared.item.Item.{Item}
use Rattle.log_checkpoint.specs.posix_spec.Run.{Unfinished}
use Rattle.log_checkpoint.specs.posix_spec.State.{State}
use Rattle.log_checkpoint.specs.posix_spec.Tree.{tree}
use Rattle.log_checkpoint.proofs.staging_files_proofs.GiveUpLaws.{AreBare, bare-next, none-bare, staging-file}
use Rattle.log_checkpoint.specs.staging_files.GivesUp.{AreGivenUp}
use Rattle.log_checkpoint.specs.staging_files.Keeps.{IsStaging}
use Rattle.log_checkpoint.specs.volume_laws.Changes.{inode-set_same}
use Rattle.log_checkpoint.specs.volume_laws.PoolLaws.{AreInData, unused-set}
use Rattle.live_step_laws.specs.live_model.world_image_laws.Images.{HasRoom, IsChange, IsRunning}
use Rattle.live_step_laws.specs.live_model.world_image_laws.ImagesLaws.{Takes}
use Rattle.live_step_laws.specs.live_model.world_image_laws.Promised.{KeepsPromise}
use Rattle.live_step_laws.specs.live_model.world_image_laws.ImagesRooms.{room_kept}
use Rattle.live_step_laws.specs.live_model.world_image_laws.Running.{promise_in_change, runs_on}
use Rattle.log_checkpoint.proofs.fsync_relink_proofs.StagingLaws.{restages-given_up}
use Rattle.log_checkpoint.specs.world_model.Jobs.{live_claims}
use Rattle.log_checkpoint.specs.world_model.Stands.{IsSane}
use Rattle.log_checkpoint.specs.world_write_laws.Restages.{Restages}
use Rattle.log_checkpoint.specs.world_write_laws.StagingSteps.{restaged}

in-data : (v : Volume) → IsWhole v → AreInData v (λ ino. file_blocks_of (inode v ino).kind)
in-data v whole = record {
  chains = λ ino below. whole.chains ino;
  files = λ ino below. whole.kept.kept.in_data ino (omega (arith, below, whole.kept.all.inode_count));
}

-- ---- one of them

module _ (x : ℕ) (m : View) (w : Volume) (blocks : List ℕ) (on : GoesOn m) (staging : IsStaging x) (whole : IsWhole w) (makes : IsGivenUpWith x m w blocks)
    (claims : List (ℕ × Draft)) (numbers : List ℕ) (s : State) (count : ℕ) (running : IsRunning m.volume m.cells claims numbers s count) (none : live_claims m.volume claims ≡ []) where
  file : IsStagingFile x m.volume
  file = staging-file m.volume x on.order.whole staging

  sane : IsSane m.volume
  sane = (running.device.world (words_of m.cells) (IsImage-words_of m.cells)).valid.stands.sane

  both : Restages m.volume w x × (w.base ≡ m.volume.base)
  both = restages-given_up x m w blocks file whole sane makes

  pub restages : Restages m.volume w x
  restages = both.0

  pub same-base : w.base ≡ m.volume.base
  same-base = both.1

  takes : Takes m.volume w claims [] numbers numbers s s count count
  takes f valid = restaged m.volume w claims [] f numbers s count x valid restages (λ d is. absurd (subst (In d) none is)) (λ j is. absurd is)

  -- what its line keeps
  number-same : {X : Type 0} (number : Inode → X) → ((y : Inode) → number (with_map [] [] y) ≡ number y) → (i : ℕ) → number (inode w i) ≡ number (inode m.volume i)
  number-same number stays i = elim (cases_eq i x) [
    | inl own ↦
        ap (λ k. number (inode w k)) own
        ∙ (ap (λ y. number (inode y x)) makes.given
        ∙ (ap number (inode-set_same x (with_map [] [] (inode m.volume x)) [] [] m.volume file.below) ∙ (stays (inode m.volume x) ∙ ap (λ k. number (inode m.volume k)) (sym own))))
    | inr other ↦ ap number (restages.others i other)
  ]

  pub kinds : (i : ℕ) → (inode w i).kind ≡ (inode m.volume i).kind
  kinds i = number-same (λ (y : Inode). y.kind) (λ y. refl) i

  pub applied : (i : ℕ) → (inode w i).applied ≡ (inode m.volume i).applied
  applied i = number-same (λ (y : Inode). y.applied) (λ y. refl) i

  live-same : (d : Draft) → is_live w d ≡ is_live m.volume d
  live-same d =
      λ i. (is_file (kinds d.ino i) && (number-same (λ (y : Inode). y.generation) (λ y. refl) d.ino i == d.generation))
      && nat_lt (applied d.ino i) d.order
      && (number-same (λ (y : Inode). y.generation) (λ y. refl) d.staging i == d.staging_generation)

  pub none-then : live_claims w claims ≡ []
  none-then = filter-agree (is_live w) (is_live m.volume) (map (λ (c : ℕ × Draft). c.1) claims) (λ d is. live-same d) ∙ none

  pub file-same : (i : ℕ) → (inode m.volume i).kind ≡ File → inode w i ≡ inode m.volume i
  file-same i is = restages.others i (λ same. (let never : File ≡ Staging = sym is ∙ (ap (λ (k : ℕ). (inode m.volume k).kind) same ∙ file.kind) in cc))

  -- blocks come free
  freed : unused_blocks m.volume ≤ unused_blocks w
  freed =
      let line : Inode = with_map [] [] (inode m.volume x) in
      let u : Volume = inode_set x line [] [] m.volume in
      let whole_u : IsWhole u = subst IsWhole makes.given whole in
      let set =
      unused-set m.volume x line [] [] (λ ino. file_blocks_of (inode m.volume ino).kind) (λ ino. file_blocks_of (inode u ino).kind) file.below on.order.whole.maps (in-data m.volume on.order.whole) (in-data u whole_u)
      on.order.whole.kept.kept.once whole_u.kept.kept.once
      in
      let same : unused_blocks w ≡ unused_blocks u = ap unused_blocks makes.given in
      let empty : block_count [] ≡ 0 = refl in
      omega (arith, set, same, empty)

  room : HasRoom w claims [] s
  room = room_kept m.volume w claims [] s s restages.geometry refl freed (λ d is alive. sym (live-same d) ∙ alive) running.device.room

  module _ (e : List Cell) (changes : ChangesMaps blocks m.committed w m.cells e) where
    change : IsChange m.volume w m.cells e
    change =
        let of_v : ChangesMaps blocks m.volume w m.cells e = subst (λ u. ChangesMaps blocks u w m.cells e) (on.order.settled on.unbatched) changes in
        let none_written : ChangesMaps [] m.volume w m.cells e = subst (λ bs. ChangesMaps bs m.volume w m.cells e) makes.written of_v in
        record { each_image = none_written.each_image; geometry = restages.geometry; base = same-base }

    pub running-then : Stands w.geometry w e → IsRunning w e claims numbers s count
    running-then stands = runs_on m.volume w m.cells e claims numbers numbers s s count count running change stands room takes

    pub promise-then : (start : State) (history : List Item) (unfinished : List Unfinished) → StronglyPermitted start.mode start history unfinished (tree s) → KeepsPromise m.volume.geometry e start history unfinished
    promise-then start history unfinished permitted = promise_in_change m.volume w m.cells e claims numbers numbers s s count count start history unfinished running change room takes permitted permitted

-- ---- one after the other

-- What stays from k to l while they do.
pub record HasGone (k l : View) (claims : List (ℕ × Draft)) (numbers : List ℕ) (s : State) (count : ℕ) : Type 0 where
  pub on : GoesOn l
  pub running : IsRunning l.volume l.cells claims numbers s count
  pub none : live_claims l.volume claims ≡ []
  pub kinds : (i : ℕ) → (inode l.volume i).kind ≡ (inode k.volume i).kind
  pub files : (i : ℕ) → (inode k.volume i).kind ≡ File → inode l.volume i ≡ inode k.volume i
  pub applied : (i : ℕ) → (inode l.volume i).applied ≡ (inode k.volume i).applied
  pub geometry : l.volume.geometry ≡ k.volume.geometry
  pub base : l.volume.base ≡ k.volume.base
  pub lent : SameLent k.cells l.cells
  pub singles : KeepsSingle k.cells l.cells

module _ (k : View) (claims : List (ℕ × Draft)) (numbers : List ℕ) (s : State) (count : ℕ) where
  pub none-gone : GoesOn k → IsRunning k.volume k.cells claims numbers s count → live_claims k.volume claims ≡ [] → HasGone k k claims numbers s count
  none-gone on running none = record {
    on = on;
    running = running;
    none = none;
    kinds = λ i. refl;
    files = λ i is. refl;
    applied = λ i. refl;
    geometry = refl;
    base = refl;
    lent = λ i. refl;
    singles = λ i is. is;
  }

  next-gone : (m l : View) (x : ℕ) → IsStaging x → HasGone k m claims numbers s count → IsGiveUpAnswer x m l (Ok tt) → HasGone k l claims numbers s count
  next-gone m l x staging gone gave =
      let off : l.batched ≡ false = gave.2.batched ∙ gone.on.unbatched in
      let whole = gave.2.order.whole in
      let its = restages x m l.volume gave.0 gone.on staging whole gave.1 claims numbers s count gone.running gone.none in
      record {
        on = record { order = gave.2.order; unbatched = off; on = gave.2.kept_on };
        running =
            running-then x m l.volume gave.0 gone.on staging whole gave.1 claims numbers s count gone.running gone.none l.cells gave.2.changes
            (subst (λ u. Stands u.geometry u l.cells) (gave.2.order.settled off) gave.2.order.stands);
        none = none-then x m l.volume gave.0 gone.on staging whole gave.1 claims numbers s count gone.running gone.none;
        kinds = λ i. kinds x m l.volume gave.0 gone.on staging whole gave.1 claims numbers s count gone.running gone.none i ∙ gone.kinds i;
        files = λ i is. file-same x m l.volume gave.0 gone.on staging whole gave.1 claims numbers s count gone.running gone.none i (gone.kinds i ∙ is) ∙ gone.files i is;
        applied = λ i. applied x m l.volume gave.0 gone.on staging whole gave.1 claims numbers s count gone.running gone.none i ∙ gone.applied i;
        geometry = its.geometry ∙ gone.geometry;
        base = same-base x m l.volume gave.0 gone.on staging whole gave.1 claims numbers s count gone.running gone.none ∙ gone.base;
        lent = λ i. gave.2.changes.lent i ∙ gone.lent i;
        singles = λ i is. gave.2.singles i (gone.singles i is);
      }

  pub all-gone : (n : ℕ) (l : View) → n ≤ 4 → HasGone k k claims numbers s count → AreGivenUp n k l → HasGone k l claims numbers s count × AreBare n l
  all-gone zero l few gone same = (subst (λ y. HasGone k y claims numbers s count) (sym same) gone, none-bare l)
  all-gone (suc n) l few gone (middle, before, last) =
      let rest = all-gone n middle (omega (arith, few)) gone before in (
        next-gone middle l (suc n) (record { least = omega arith; most = few }) rest.0 last,
        bare-next n middle l rest.0.on.order (omega (arith, few)) last rest.1,
      )

  -- the power went in the next one
  pub cut-gone : (m l : View) (x : ℕ) → IsStaging x → HasGone k m claims numbers s count → (w : Volume) (blocks : List ℕ) → IsGivenUpWith x m w blocks → IsMapCut blocks w m l
      → (start : State) (history : List Item) (unfinished : List Unfinished) → StronglyPermitted start.mode start history unfinished (tree s) → KeepsPromise k.volume.geometry l.cells start history unfinished
  cut-gone m l x staging gone w blocks makes cut start history unfinished permitted =
      subst (λ g. KeepsPromise g l.cells start history unfinished) gone.geometry
      (promise-then x m w blocks gone.on staging cut.whole makes claims numbers s count gone.running gone.none l.cells cut.changes start history unfinished permitted)
