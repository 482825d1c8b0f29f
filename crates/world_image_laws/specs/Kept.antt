-- An image that shows the World is checked, has a tree, and only trees that are permitted.
use Rattle.std.specs.Prelude.{◌≡◌, ◌≢◌, ℕ, ◌*◌, List, [], ◌∷◌, ◌++◌, map, refl}
use Rattle.std.proofs.Common.{sym, subst}
use Rattle.image_laws.specs.pm_model.Words.{Words}
use Rattle.image_laws.specs.layout_model.Journal.{journaled}
use Rattle.image_laws.specs.layout_model.Places.{Geometry}
use Rattle.image_laws.specs.layout_model.declared.lines.Draft.{Draft}
use Rattle.image_laws.specs.image_model.Checked.{IsCheckedAs}
use Rattle.image_laws.specs.image_model.Content.{content}
use Rattle.image_laws.specs.image_model.Reading.{Reads}
use Rattle.image_laws.specs.image_model.Rules.{IsChecked}
use Rattle.image_laws.specs.image_model.Volume.{Volume}
use Rattle.image_laws.specs.volume_laws.FootprintLaws.{content-own}
use Rattle.image_laws.specs.CheckedLaws.{checked-parts}
use Rattle.world_step_laws.specs.world_model.posix_types.declared.call.Mode.{Mode}
use Rattle.world_step_laws.specs.world_model.posix_types.declared.item.Item.{Item}
use Rattle.world_step_laws.specs.world_model.posix_types.declared.tree.TreeEntry.{TreeEntry}
use Rattle.world_step_laws.specs.world_model.posix_spec.Run.{Unfinished, run}
use Rattle.world_step_laws.specs.world_model.posix_spec.State.{State}
use Rattle.world_step_laws.specs.world_model.posix_spec.Tree.{tree}
use Rattle.world_step_laws.specs.world_model.crash_spec.Permitted.{StronglyPermitted}
use Rattle.world_step_laws.specs.world_model.Jobs.{unfinished_call, Job}
use Rattle.world_step_laws.specs.world_model.Promised.{AreWhole, content_shown, IsShown}
use Rattle.world_step_laws.specs.world_model.Shown.{IsTreeOfContent}
use Rattle.world_step_laws.specs.world_model.Promise.{has_tree, may_be_lost, may_be_lost_in_sync, strict_promise, sync_promise}
use Rattle.world_step_laws.specs.world_model.Free.{may_recover}
use Rattle.world_image_laws.specs.Images.{ShowsWorld}
use Rattle.world_image_laws.specs.Promised.{IsKept}

-- the image as the promise of the World sees it
pub shown : (v : Volume) (claims : List (ℕ × Draft)) (jobs : List Job) (numbers : List ℕ) (s : State) (count : ℕ) (image : Words) → (is : ShowsWorld v claims jobs numbers s count image)
    → IsShown v claims jobs (journaled image) (journaled image) is.landed
shown v claims jobs numbers s count image is = record { same = λ b i in_data below lent. refl; filled = is.filled; log = is.log.shows }

pub is_checked : (v : Volume) (claims : List (ℕ × Draft)) (jobs : List Job) (numbers : List ℕ) (s : State) (count : ℕ) (image : Words) → ShowsWorld v claims jobs numbers s count image → IsChecked (4096 * v.geometry.blocks) image
is_checked v claims jobs numbers s count image is = checked-parts (4096 * v.geometry.blocks) image v parts where
  parts : IsCheckedAs (4096 * v.geometry.blocks) image v
  parts = record {
    head = is.headed.head;
    reads = subst (λ g. Reads g (journaled image) v) (sym is.headed.geometry) is.reads;
    kept = is.world.valid.stands.sane.kept;
    log = record {
      recovers = may_recover v claims jobs (journaled image) (journaled image) numbers s is.landed is.world.valid is.world.claims_stand is.room.blocks is.room.free (shown v claims jobs numbers s count image is);
      no_later = is.log.no_later;
    };
  }

-- its content is that of the volume and its log
content_is : (v : Volume) (claims : List (ℕ × Draft)) (jobs : List Job) (numbers : List ℕ) (s : State) (count : ℕ) (image : Words) → ShowsWorld v claims jobs numbers s count image
    → content v.geometry image ≡ content_shown v (journaled image)
content_is v claims jobs numbers s count image is = content-own v.geometry v (journaled image) is.reads

-- So it is kept, where its trees are permitted.
pub kept_by : (v : Volume) (claims : List (ℕ × Draft)) (jobs : List Job) (numbers : List ℕ) (s : State) (count : ℕ) (image : Words) (start : State) (history : List Item) (unfinished : List Unfinished)
    → ShowsWorld v claims jobs numbers s count image
    → ((left : List TreeEntry) → IsTreeOfContent (content_shown v (journaled image)) left → StronglyPermitted start.mode start history unfinished left) → IsKept v.geometry start history unfinished image
kept_by v claims jobs numbers s count image start history unfinished is permitted = record {
  checked = is_checked v claims jobs numbers s count image is;
  geometry = is.headed.geometry;
  tree = (there.0, subst (λ c. IsTreeOfContent c there.0) (sym same) there.1);
  permitted = λ left tree_is. permitted left (subst (λ c. IsTreeOfContent c left) same tree_is);
} where
  same : content v.geometry image ≡ content_shown v (journaled image)
  same = content_is v claims jobs numbers s count image is

  there : (left : List TreeEntry) × IsTreeOfContent (content_shown v (journaled image)) left
  there = has_tree v claims jobs (journaled image) (journaled image) numbers s is.landed is.world.valid (shown v claims jobs numbers s count image is)

-- With writes in flight: in strict mode each of them whole, in sync mode as it is found.
pub kept_strict : (v : Volume) (claims : List (ℕ × Draft)) (jobs : List Job) (numbers : List ℕ) (count : ℕ) (image : Words) (start : State) (history : List Item) → start.mode ≡ Mode.Strict → AreWhole jobs
    → ShowsWorld v claims jobs numbers (run start history) count image → IsKept v.geometry start history (map unfinished_call jobs) image
kept_strict v claims jobs numbers count image start history mode whole is =
    kept_by v claims jobs numbers (run start history) count image start history (map unfinished_call jobs) is
    (λ left tree_is. subst (λ m. StronglyPermitted m start history (map unfinished_call jobs) left) (sym mode)
    (strict_promise v claims jobs (journaled image) (journaled image) numbers start history is.landed left whole is.world.valid (shown v claims jobs numbers (run start history) count image is) tree_is))

pub kept_sync : (v : Volume) (claims : List (ℕ × Draft)) (jobs : List Job) (numbers : List ℕ) (count : ℕ) (image : Words) (start : State) (history : List Item) → start.mode ≡ Mode.Sync
    → ShowsWorld v claims jobs numbers (run start history) count image → IsKept v.geometry start history (map unfinished_call jobs) image
kept_sync v claims jobs numbers count image start history mode is =
    kept_by v claims jobs numbers (run start history) count image start history (map unfinished_call jobs) is
    (λ left tree_is. subst (λ m. StronglyPermitted m start history (map unfinished_call jobs) left) (sym mode)
    (sync_promise v claims jobs (journaled image) (journaled image) numbers start history is.landed left is.world.valid (shown v claims jobs numbers (run start history) count image is) tree_is))

-- With no write in flight its one tree is that of the state, in each mode.
pub one_tree : (v : Volume) (claims : List (ℕ × Draft)) (numbers : List ℕ) (s : State) (count : ℕ) (image : Words) (left : List TreeEntry) → ShowsWorld v claims [] numbers s count image
    → IsTreeOfContent (content_shown v (journaled image)) left → left ≡ tree s
one_tree v claims numbers s count image left is tree_is =
    strict_promise v claims [] (journaled image) (journaled image) numbers s [] is.landed left tt is.world.valid (shown v claims [] numbers s count image is) tree_is

pub kept_one : (v : Volume) (claims : List (ℕ × Draft)) (numbers : List ℕ) (s : State) (count : ℕ) (image : Words) (start : State) (history : List Item) (unfinished : List Unfinished)
    → ShowsWorld v claims [] numbers s count image → StronglyPermitted start.mode start history unfinished (tree s) → IsKept v.geometry start history unfinished image
kept_one v claims numbers s count image start history unfinished is permitted =
    kept_by v claims [] numbers s count image start history unfinished is
    (λ left tree_is. subst (StronglyPermitted start.mode start history unfinished) (sym (one_tree v claims numbers s count image left is tree_is)) permitted)

-- One more call is unfinished, which lost its power before it acted.
pub kept_more : (g : Geometry) (start : State) (history : List Item) (unfinished : List Unfinished) (c : Unfinished) (image : Words) → start.mode ≢ Mode.Posix → IsKept g start history unfinished image
    → IsKept g start history (unfinished ++ c ∷ []) image
kept_more g start history unfinished c image mode is =
    record { checked = is.checked; geometry = is.geometry; tree = is.tree; permitted = λ left tree_is. by start.mode mode left (is.permitted left tree_is) } where
      by : (m : Mode) → m ≢ Mode.Posix → (left : List TreeEntry) → StronglyPermitted m start history unfinished left → StronglyPermitted m start history (unfinished ++ c ∷ []) left
      by Mode.Strict other left permitted = may_be_lost start history unfinished c left permitted
      by Mode.Sync other left permitted = may_be_lost_in_sync start history unfinished c left permitted
      by Mode.Posix other left permitted = absurd (other refl)
