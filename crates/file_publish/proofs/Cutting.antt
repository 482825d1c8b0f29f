-- The power went while runs of a file were relinked: each image is kept.
use Rattle.std.specs.Prelude.{◌≡◌, ◌≢◌, ◌⊎◌, ◌<◌, ◌+◌, ℕ, Bool, false, List, [], ◌∷◌, ◌++◌, Option, None, Some, Err, refl}
use Rattle.std.proofs.Common.{arith, ap, ◌∙◌, sym, subst, inl, inr}
use Rattle.live_step_laws.specs.world_image_laws.Settings.{setting_run}
use Rattle.live_step_laws.specs.pm_model.declared.Cell.{Cell}
use Rattle.live_step_laws.specs.pm_model.Images.{IsImage}
use Rattle.live_step_laws.specs.pm_model.Parts.{put_back}
use Rattle.live_step_laws.specs.pm_model.Cells.{cell}
use Rattle.live_step_laws.specs.pm_model.Words.{line_bytes, Words}
use Rattle.live_step_laws.specs.layout_model.Journal.{journaled}
use Rattle.live_step_laws.specs.layout_model.Places.{Geometry, log_line}
use Rattle.live_step_laws.specs.layout_model.declared.lines.Draft.{Draft}
use Rattle.live_step_laws.specs.layout_model.Entries.{encode_entry, held_seq, is_self_valid}
use Rattle.live_step_laws.specs.image_model.Honest.{IsHonest, IsHonestWith}
use Rattle.live_step_laws.specs.image_model.Volume.{Volume}
use Rattle.log_checkpoint.specs.file_overlay.declared.runs.Run.{Run}
use Rattle.live_step_laws.specs.live_model.file_table.Files.{Files, runs_in, size_in}
use Rattle.log_checkpoint.proofs.fsync_relink_proofs.NextLaws.{next-may}
use Rattle.log_checkpoint.specs.fsync_relink.Publishes.{IsPublishStopped, IsRelinkedUpTo, IsResized, MayPublish}
use Rattle.live_step_laws.specs.k_split_model.View.{View}
use Rattle.log_checkpoint.specs.fsync_relink.k_split.declared.faults.KFault.{KFault}
use Rattle.log_checkpoint.specs.fsync_relink.k_split.MapChanges.{IsRelinkAnswer}
use Rattle.live_step_laws.specs.live_model.Overlays.{IsOverlayOf}
use Rattle.live_step_laws.specs.posix_types.declared.call.Mode.{Mode}
use Rattle.live_step_laws.specs.posix_types.declared.item.Item.{Item}
use Rattle.live_step_laws.specs.posix_tables.Open.{Tables}
use Rattle.live_step_laws.specs.posix_spec.Run.{Unfinished, run}
use Rattle.live_step_laws.specs.posix_spec.State.{State}
use Rattle.live_step_laws.specs.world_image_laws.Images.{StandsFor}
use Rattle.live_step_laws.specs.world_image_laws.Promised.{IsKept, KeepsPromise}
use Rattle.live_step_laws.specs.world_image_laws.Running.{promise_now}
use Rattle.live_step_laws.specs.world_image_laws.Back.{calls_in_log, IsKeptBack, IsPutBack}
use Rattle.live_step_laws.specs.world_image_laws.Flights.{promise_in_flight}
use Rattle.live_step_laws.specs.world_model.Lines.{AreJobLines, AreLinesOut, HoldsWords, IsClaimedLine, IsPutOver, Spells}
use Rattle.live_step_laws.specs.world_model.Jobs.{Job, live_claims}
use Rattle.live_step_laws.specs.world_step_laws.Steps.{AreBeside}
use Rattle.live_step_laws.specs.world_step_laws.Touched.{only}
use Rattle.live_step_laws.specs.live_model.Standing.{Kept, StandsAt}
use Rattle.file_publish.specs.RelinksLaws.{first_move, KeepsPublished, KeepsPublishedHome, StandsThen}
use Rattle.file_publish.proofs.Cut.{filled-same, HaveSameBlocks}
use Rattle.file_publish.proofs.Kept.{keeps-relinked, keeps-relinked-home, no-jobs}
use Rattle.file_publish.proofs.RelinksPublishing.{has-overlay, loses-runs, own-size, with-runs}
use Rattle.file_publish.proofs.Relinked as relinking
use Rattle.file_publish.proofs.RelinksStanding.{stands-relinked}

-- ---- what is put back, beside another volume

module _ (v w : Volume) (geometry : w.geometry ≡ v.geometry) (base : w.base ≡ v.base) where
  line-same : (slot : ℕ) → log_line v.geometry slot ≡ log_line w.geometry slot
  line-same slot = ap (λ (g : Geometry). log_line g slot) (sym geometry)

  below-same : (slot : ℕ) → slot < v.geometry.log → slot < w.geometry.log
  below-same slot = subst (λ (g : Geometry). slot < g.log) (sym geometry)

  below-back : (slot : ℕ) → slot < w.geometry.log → slot < v.geometry.log
  below-back slot = subst (λ (g : Geometry). slot < g.log) geometry

  spells-same : (slot : ℕ) (d : Draft) (words : Words) → Spells v slot d words → Spells w slot d words
  spells-same slot d words is = record {
    draft = is.draft;
    fits = is.fits;
    spelled = ap (line_bytes words) (sym (line-same slot)) ∙ (is.spelled ∙ ap (λ n. encode_entry d (n + slot)) (sym base));
  }

  job-lines : (cells : ℕ → Cell) (first : Words) (jobs : List Job) (slots : List (Option ℕ)) → AreJobLines v cells first jobs slots → AreJobLines w cells first jobs slots
  job-lines cells first [] slots are = tt
  job-lines cells first (j ∷ jobs) [] are = tt
  job-lines cells first (j ∷ jobs) (None ∷ slots) are = job-lines cells first jobs slots are
  job-lines cells first (j ∷ jobs) (Some slot ∷ slots) are = (
    record {
      below = below-same slot are.0.below;
      entry = are.0.entry;
      spells = spells-same slot j.draft are.0.entry are.0.spells;
      holds = subst (λ line. HoldsWords cells are.0.entry line ⊎ IsPutOver cells first are.0.entry line) (line-same slot) are.0.holds;
    },
    job-lines cells first jobs slots are.1,
  )

  lines-out : (cells : ℕ → Cell) (first : Words) (claims : List (ℕ × Draft)) (jobs : List Job) (slots : List (Option ℕ)) → AreLinesOut v cells first claims jobs slots → AreLinesOut w cells first claims jobs slots
  lines-out cells first claims jobs slots are = record {
    claimed = λ slot d there. claimed slot d (are.claimed slot d there);
    out = job-lines cells first jobs slots are.out;
    others = λ slot below none free. subst (HoldsWords cells first) (line-same slot) (are.others slot (below-back slot below) none free);
    old = λ slot below valid.
        let was = are.old slot (below-back slot below) (ap (λ line. is_self_valid (line_bytes first line)) (line-same slot) ∙ valid) in
        omega (arith, was, ap (λ line. held_seq (line_bytes first line)) (line-same slot), base);
  } where
    claimed : (slot : ℕ) (d : Draft) → IsClaimedLine v cells slot d → IsClaimedLine w cells slot d
    claimed slot d is = record {
      below = below-same slot is.below;
      entry = is.entry;
      spells = spells-same slot d is.entry is.spells;
      holds = subst (HoldsWords cells is.entry) (line-same slot) is.holds;
    }

  put-back-on : (d : List Cell) (back : ℕ → Cell) (first : Words) (claims : List (ℕ × Draft)) (jobs : List Job) (slots : List (Option ℕ)) (image : Words)
      → HaveSameBlocks v w jobs → IsPutBack v d back first claims jobs slots image → IsPutBack w d back first claims jobs slots image
  put-back-on d back first claims jobs slots image same is = record {
    lines = lines-out (put_back d back) first claims jobs slots is.lines;
    image_is = is.image_is;
    honest = subst (λ g. IsHonestWith g d back image) (sym geometry) is.honest;
    filled = filled-same v w (journaled image) jobs slots same is.filled;
  }

  -- so what is kept over the one is kept over the other
  kept-over : (d : List Cell) (first : Words) (claims : List (ℕ × Draft)) (jobs : List Job) (start : State) (history : List Item) (last : List Unfinished) → HaveSameBlocks v w jobs
      → IsKeptBack w d first claims jobs start history last → IsKeptBack v d first claims jobs start history last
  kept-over d first claims jobs start history last same kept back slots image is =
      subst (λ g. IsKept g start history (calls_in_log slots jobs ++ last) image) geometry (kept back slots image (put-back-on d back first claims jobs slots image same is))

-- ---- nothing was changed

module _ (g : Geometry) (k : View) (t : Tables) (kept : Kept) (lines : Bool) (n : ℕ) (start : State) (history : List Item) (mode : start.mode ≢ Mode.Posix) (stands : StandsAt g k t kept lines n (run start history)) where
  pub kept-still : IsKeptBack k.volume k.cells kept.first kept.claims stands.jobs start history []
  kept-still = promise_in_flight k.volume k.cells kept.claims stands.jobs stands.numbers start history stands.count kept.first mode (λ strict. stands.flying.whole ((setting_run start history).mode ∙ strict)) stands.flying.device

pub home-still : (g : Geometry) (k : View) (t : Tables) (kept : Kept) (n : ℕ) (start : State) (history : List Item) → StandsAt g k t kept false n (run start history)
    → (image : Words) → IsImage k.cells image → IsHonest g (λ i. cell k.cells i) image → IsKept g start history [] image
home-still g k t kept n start history stands image is honest =
    let none = no-jobs kept.pending stands.jobs stands.jobs_are stands.lines.0 in
    let device : StandsFor k.volume k.cells kept.claims [] stands.numbers (run start history) stands.count =
    subst (λ js. StandsFor k.volume k.cells kept.claims js stands.numbers (run start history) stands.count) none stands.flying.device
    in
    subst (λ x. IsKept x start history [] image) stands.geometry
    (promise_now k.volume k.cells kept.claims stands.numbers start history [] stands.count (record { device = device; log = stands.lines.1 }) image is
    (subst (λ x. IsHonest x (λ i. cell k.cells i) image) (sym stands.geometry) honest))

-- ---- some first runs were relinked, and the next one was cut off

-- a relink that the power cut off, or that it was off before
module _ (g : Geometry) (t : Tables) (n : ℕ) (start : State) (history : List Item) (mode : start.mode ≢ Mode.Posix) (ino : ℕ) where
  one-kept : (lines : Bool) (r : Run) (rest : List Run) (k l : View) (kept : Kept) (stands : StandsAt g k t kept lines n (run start history)) → runs_in kept.files ino ≡ r ∷ rest
      → MayPublish ino (size_in kept.files ino) (r ∷ rest) k → AreBeside (only ino) stands.jobs → IsRelinkAnswer (first_move kept k ino r rest) k l (Err KFault.PowerLost)
      → IsKeptBack k.volume l.cells kept.first kept.claims stands.jobs start history []
  one-kept lines r rest k l kept stands runs_are may beside (inl off) =
      subst (λ (z : View). IsKeptBack k.volume z.cells kept.first kept.claims stands.jobs start history []) (sym off) (kept-still g k t kept lines n start history mode stands)
  one-kept lines r rest k l kept stands runs_are may beside (inr (w, blocks, made, cut)) =
      keeps-relinked g k l t kept lines n start history ino r rest stands runs_are may beside w blocks made cut mode

  each-kept : (lines : Bool) (r : Run) (rest : List Run) (k l : View) (kept : Kept) (stands : StandsAt g k t kept lines n (run start history)) → runs_in kept.files ino ≡ r ∷ rest
      → MayPublish ino (size_in kept.files ino) (r ∷ rest) k → AreBeside (only ino) stands.jobs → IsRelinkedUpTo KFault.PowerLost ino (size_in kept.files ino) (r ∷ rest) k l
      → IsKeptBack k.volume l.cells kept.first kept.claims stands.jobs start history []
  each-kept lines r rest k l kept stands runs_are may beside (inl answer) = one-kept lines r rest k l kept stands runs_are may beside answer
  each-kept lines r [] k l kept stands runs_are may beside (inr (middle, gave, never)) = absurd never
  each-kept lines r (next ∷ rest) k l kept stands runs_are may beside (inr (middle, gave, behind)) =
      let below = has-overlay kept.files ino r (next ∷ rest) runs_are in
      let table : Files = with-runs ino (next ∷ rest) kept.files in
      let loses = loses-runs kept.files ino (next ∷ rest) below in
      let first : StandsThen g k middle t kept (record kept { files = table }) lines n (run start history) stands =
      stands-relinked g k middle t kept table lines n (run start history) ino r (next ∷ rest) stands runs_are may beside loses gave
      in
      let whole = gave.2.order.whole in
      let change = relinking.change g k t kept lines n (run start history) stands ino r (next ∷ rest) runs_are may beside middle.volume gave.0 gave.1 whole in
      let base = relinking.same-base g k t kept lines n (run start history) stands ino r (next ∷ rest) runs_are may beside middle.volume gave.0 gave.1 whole in
      let same = relinking.job-block g k t kept lines n (run start history) stands ino r (next ∷ rest) runs_are may beside middle.volume gave.0 gave.1 whole in
      kept-over k.volume middle.volume change.geometry base l.cells kept.first kept.claims stands.jobs start history [] same
      (subst (λ js. IsKeptBack middle.volume l.cells kept.first kept.claims js start history []) first.jobs_are
      (each-kept lines next rest middle l (record kept { files = table }) first.now loses.runs_are
      (next-may ino (size_in kept.files ino) r (next ∷ rest) k middle stands.order stands.unbatched may gave) (subst (AreBeside (only ino)) (sym first.jobs_are) beside) behind))

  -- with log lines at home
  one-home : (r : Run) (rest : List Run) (k l : View) (kept : Kept) → StandsAt g k t kept false n (run start history) → runs_in kept.files ino ≡ r ∷ rest
      → MayPublish ino (size_in kept.files ino) (r ∷ rest) k → IsRelinkAnswer (first_move kept k ino r rest) k l (Err KFault.PowerLost) → KeepsPromise g l.cells start history []
  one-home r rest k l kept stands runs_are may (inl off) =
      subst (λ (z : View). KeepsPromise g z.cells start history []) (sym off) (λ image is honest. home-still g k t kept n start history stands image is honest)
  one-home r rest k l kept stands runs_are may (inr (w, blocks, made, cut)) = keeps-relinked-home g k l t kept n start history ino r rest mode stands runs_are may w blocks made cut

  each-home : (r : Run) (rest : List Run) (k l : View) (kept : Kept) → StandsAt g k t kept false n (run start history) → runs_in kept.files ino ≡ r ∷ rest
      → MayPublish ino (size_in kept.files ino) (r ∷ rest) k → IsRelinkedUpTo KFault.PowerLost ino (size_in kept.files ino) (r ∷ rest) k l → KeepsPromise g l.cells start history []
  each-home r rest k l kept stands runs_are may (inl answer) = one-home r rest k l kept stands runs_are may answer
  each-home r [] k l kept stands runs_are may (inr (middle, gave, never)) = absurd never
  each-home r (next ∷ rest) k l kept stands runs_are may (inr (middle, gave, behind)) =
      let below = has-overlay kept.files ino r (next ∷ rest) runs_are in
      let table : Files = with-runs ino (next ∷ rest) kept.files in
      let loses = loses-runs kept.files ino (next ∷ rest) below in
      let none = no-jobs kept.pending stands.jobs stands.jobs_are stands.lines.0 in
      let first : StandsThen g k middle t kept (record kept { files = table }) false n (run start history) stands =
      stands-relinked g k middle t kept table false n (run start history) ino r (next ∷ rest) stands runs_are may (subst (AreBeside (only ino)) (sym none) tt) loses gave
      in
      each-home next rest middle l (record kept { files = table }) first.now loses.runs_are
      (next-may ino (size_in kept.files ino) r (next ∷ rest) k middle stands.order stands.unbatched may gave) behind

-- ---- a publishing

-- a file without runs has its size already
never-resized : (g : Geometry) (k l : View) (t : Tables) (kept : Kept) (lines : Bool) (n : ℕ) (s : State) (ino : ℕ) → StandsAt g k t kept lines n s → runs_in kept.files ino ≡ []
    → MayPublish ino (size_in kept.files ino) [] k → IsResized ino (size_in kept.files ino) k l (Err KFault.PowerLost) → ⊥
never-resized g k l t kept lines n s ino stands none may resized =
    resized.0 (sym (own-size k.volume (live_claims k.volume kept.claims) ino (size_in kept.files ino)
    (subst (λ rs. IsOverlayOf k.volume (live_claims k.volume kept.claims) ino rs (size_in kept.files ino)) none (stands.flying.overlays ino may.file.file))))

pub keeps-published : KeepsPublished
keeps-published g k l t kept lines n start history ino stands may beside stopped mode = by (runs_in kept.files ino) refl may stopped where
  by : (runs : List Run) → runs_in kept.files ino ≡ runs → MayPublish ino (size_in kept.files ino) runs k → IsPublishStopped KFault.PowerLost ino (size_in kept.files ino) runs k l
      → IsKeptBack k.volume l.cells kept.first kept.claims stands.jobs start history []
  by [] none may_be resized = absurd (never-resized g k l t kept lines n (run start history) ino stands none may_be resized)
  by (r ∷ rest) are may_be stopped_at = each-kept g t n start history mode ino lines r rest k l kept stands are may_be beside stopped_at

pub keeps-published-home : KeepsPublishedHome
keeps-published-home g k l t kept n start history ino mode stands may stopped = by (runs_in kept.files ino) refl may stopped where
  by : (runs : List Run) → runs_in kept.files ino ≡ runs → MayPublish ino (size_in kept.files ino) runs k → IsPublishStopped KFault.PowerLost ino (size_in kept.files ino) runs k l
      → KeepsPromise g l.cells start history []
  by [] none may_be resized = absurd (never-resized g k l t kept false n (run start history) ino stands none may_be resized)
  by (r ∷ rest) are may_be stopped_at = each-home g t n start history mode ino r rest k l kept stands are may_be stopped_at
