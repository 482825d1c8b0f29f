-- The first run of a file is relinked: what that leaves of the World, done or cut off.
use Rattle.std.specs.Prelude.{◌≡◌, ◌≢◌, ◌⊎◌, ◌≤◌, ◌<◌, ◌+◌, ◌==◌, not, ℕ, Bool, true, false, All, List, [], ◌∷◌, ◌++◌, length, map, Option, Some, None, IsSome, if◌then◌else◌, refl}
use Rattle.std.proofs.Common.{arith, ap, ◌∙◌, sym, subst, inl, inr}
use Rattle.std.proofs.lemmas.Bool.{both_ways, cases_eq, eq-eqb, eqb-true}
use Rattle.std.proofs.lemmas.Bool.Decides.{nat_tests}
use Rattle.live_step_laws.specs.pm_model.ImageLaws.{IsImage-words_of}
use Rattle.live_step_laws.specs.pm_model.Images.{words_of}
use Rattle.live_step_laws.specs.layout_model.Journal.{journaled}
use Rattle.live_step_laws.specs.layout_model.Places.{data_blocks, Geometry}
use Rattle.live_step_laws.specs.layout_model.declared.lines.Draft.{Draft}
use Rattle.live_step_laws.specs.layout_model.declared.lines.Kind.TheVariants.{File, Staging}
use Rattle.live_step_laws.specs.layout_model.Entries.{is_draft}
use Rattle.live_step_laws.specs.image_model.Content.{size_by, size_of}
use Rattle.live_step_laws.specs.image_model.Live.{latest}
use Rattle.live_step_laws.specs.image_model.Placed.{block_at}
use Rattle.live_step_laws.specs.image_model.Rules.{AreApart}
use Rattle.live_step_laws.specs.image_model.Volume.{extents, inode, Volume}
use Rattle.live_step_laws.specs.extent_model.Covers.{covers-disk_at}
use Rattle.live_step_laws.specs.extent_model.Extents.{covers, disk_at, is_within}
use Rattle.log_checkpoint.specs.file_overlay.declared.runs.Run.{Run}
use Rattle.live_step_laws.specs.live_model.file_table.Files.{runs_in, size_in}
use Rattle.log_checkpoint.proofs.fsync_relink_proofs.NextLaws.{may-move}
use Rattle.log_checkpoint.specs.fsync_relink.Publishes.{MayPublish, move_of, size_before}
use Rattle.log_checkpoint.specs.fsync_relink.k_map_plans.Plans.{MayMove}
use Rattle.log_checkpoint.specs.fsync_relink.k_plans.Whole.{IsWhole}
use Rattle.live_step_laws.specs.k_split_model.View.{View}
use Rattle.log_checkpoint.specs.fsync_relink.k_split.MapChanges.{is_free_in, IsMovedWith}
use Rattle.live_step_laws.specs.list_laws.Filters.{filter-In}
use Rattle.live_step_laws.specs.list_laws.Members.{In}
use Rattle.log_checkpoint.specs.fsync_relink.Moves.{move_for}
use Rattle.live_step_laws.specs.live_model.Overlays.{IsOverlayOf, run_of}
use Rattle.live_step_laws.specs.posix_tables.Open.{Tables}
use Rattle.live_step_laws.specs.posix_spec.State.{State}
use Rattle.live_step_laws.specs.world_image_laws.Images.{HasRoom}
use Rattle.live_step_laws.specs.world_image_laws.ImagesLaws.{Takes}
use Rattle.log_checkpoint.proofs.fsync_relink_proofs.RelinkLaws.{chain-file, chain-left}
use Rattle.log_checkpoint.proofs.fsync_relink_proofs.WorldLaws.{free-in_data, free-unmapped, gives-relinks, relink-takes_one}
use Rattle.log_checkpoint.specs.fsync_relink.Laws.{IsRelinkOf}
use Rattle.log_checkpoint.specs.fsync_relink.world_write_laws.Free.{stays_free_relinked}
use Rattle.live_step_laws.specs.posix_tables.declared.nodes.Node.{Node}
use Rattle.live_step_laws.specs.posix_tables.Nodes.{node_at}
use Rattle.live_step_laws.specs.world_model.Jobs.{Job, JobsStand, JobStands, live_claims, staged_block}
use Rattle.live_step_laws.specs.world_model.Stands.{Consecutive, entries_of, is_used, NodeStands, number}
use Rattle.log_checkpoint.specs.fsync_relink.world_write_laws.Relinks.{IsFirst, Relinks}
use Rattle.log_checkpoint.specs.fsync_relink.world_write_laws.RunSteps.{relinked}
use Rattle.live_step_laws.specs.world_step_laws.Steps.{AreBeside}
use Rattle.live_step_laws.specs.world_step_laws.Touched.{only}
use Rattle.live_step_laws.specs.world_step_laws.Worlds.{IsWorld}
use Rattle.live_step_laws.specs.live_model.Standing.{Kept, StandsAt}
use Rattle.live_step_laws.specs.Changes.{AreSpare}
use Rattle.file_publish.specs.RelinksLaws.{first_move}
use Rattle.file_publish.proofs.Lives.{entries-other, entries-own, one-less, still-live}

some-blocks : (d : Draft) → is_draft d ≡ true → 1 ≤ d.count
some-blocks d is = grind (arith, nat_tests)

no-some : (b : ℕ) → Some b ≡ None → ⊥
no-some b is = cc

has-none : (o : Option ℕ) → o ≡ None → IsSome o → ⊥
has-none None is some = cc
has-none (Some b) is some = no-some b is

-- the entry of the first run, and those behind
pub record HasFirst (es : List Draft) (run : Run) (rest : List Run) : Type 0 where
  pub entry : Draft
  pub behind : List Draft
  pub are : es ≡ entry ∷ behind
  pub run_is : run_of entry ≡ run
  pub rest_are : map run_of behind ≡ rest

has-first : (es : List Draft) (run : Run) (rest : List Run) → run ∷ rest ≡ map run_of es → HasFirst es run rest
has-first [] run rest same = let never : run ∷ rest ≡ [] = same in absurd (cc)
has-first (d ∷ ds) run rest same =
    let both : run ∷ rest ≡ run_of d ∷ map run_of ds = same in
    record { entry = d; behind = ds; are = refl; run_is = cc; rest_are = cc }

job-stands : (v : Volume) (live : List Draft) (f : ℕ → ℕ) (numbers : List ℕ) (s : State) (jobs : List Job) (j : Job) → JobsStand v live f numbers s jobs → In j jobs → JobStands v live f numbers s j
job-stands v live f numbers s [] j out is = absurd is
job-stands v live f numbers s (i ∷ jobs) j out (inl same) = subst (JobStands v live f numbers s) same out.0
job-stands v live f numbers s (i ∷ jobs) j out (inr behind) = job-stands v live f numbers s jobs j out.2 behind

pub job-beside : (ino : ℕ) (jobs : List Job) (j : Job) → AreBeside (only ino) jobs → In j jobs → j.draft.ino ≢ ino
job-beside ino [] j beside is same = absurd is
job-beside ino (i ∷ jobs) j beside (inl here) same =
    both_ways (i.draft.ino == ino) beside.0 (eq-eqb i.draft.ino ino (ap (λ (x : Job). x.draft.ino) here ∙ same))
job-beside ino (i ∷ jobs) j beside (inr behind) same = job-beside ino jobs j beside.1 behind same

module _ (g : Geometry) (k : View) (t : Tables) (kept : Kept) (lines : Bool) (n : ℕ) (s : State) (stands : StandsAt g k t kept lines n s) (ino : ℕ) (run : Run) (rest : List Run)
    (runs_are : runs_in kept.files ino ≡ run ∷ rest) (may : MayPublish ino (size_in kept.files ino) (run ∷ rest) k) (beside : AreBeside (only ino) stands.jobs)
    (w : Volume) (blocks : List ℕ) (made : IsMovedWith (first_move kept k ino run rest) k w blocks) (whole : IsWhole w) where
  abbrev v : Volume
  v = k.volume

  abbrev live : List Draft
  live = live_claims k.volume kept.claims

  abbrev size : ℕ
  size = size_before rest (size_in kept.files ino) (inode k.volume ino).size

  world : IsWorld k.volume kept.claims stands.jobs (journaled (words_of k.cells)) stands.numbers s stands.count
  world = stands.flying.device.world (words_of k.cells) (IsImage-words_of k.cells)

  overlay : IsOverlayOf k.volume (live_claims k.volume kept.claims) ino (runs_in kept.files ino) (size_in kept.files ino)
  overlay = stands.flying.overlays ino may.file.file

  pub first : HasFirst (entries_of ino (live_claims k.volume kept.claims)) run rest
  first = has-first (entries_of ino live) run rest (sym runs_are ∙ overlay.runs_are)

  abbrev pub entry : Draft
  entry = first.entry

  its : In entry (live_claims k.volume kept.claims) × ((entry.ino == ino) ≡ true)
  its = filter-In (λ (x : Draft). x.ino == ino) live entry (subst (In entry) (sym first.are) (inl refl))

  pub there : In entry (live_claims k.volume kept.claims)
  there = its.0

  pub own : entry.ino ≡ ino
  own = eqb-true entry.ino ino its.1

  first-own : entries_of entry.ino (live_claims k.volume kept.claims) ≡ entry ∷ first.behind
  first-own = ap (λ i. entries_of i live) own ∙ first.are

  -- the move is that of the entry
  carries : first_move kept k ino run rest ≡ move_for entry size
  carries = λ i. move_of (sym own i) size (sym first.run_is i)

  pub made-entry : IsMovedWith (move_for entry size) k w blocks
  made-entry = subst (λ m. IsMovedWith m k w blocks) carries made

  may-move-run : MayMove (first_move kept k ino run rest) k.volume
  may-move-run = may-move ino (size_in kept.files ino) run rest k stands.order may

  may-entry : MayMove (move_for entry size) k.volume
  may-entry = subst (λ m. MayMove m k.volume) carries may-move-run

  is : IsRelinkOf entry size k w blocks made-entry
  is = gives-relinks entry size k w blocks stands.order stands.unbatched may-entry whole made-entry

  pub change : Relinks k.volume w entry made-entry.displaced
  change = is.relinks

  pub same-base : w.base ≡ k.volume.base
  same-base = is.base

  go-on : Consecutive (inode k.volume entry.ino).applied (entry ∷ first.behind)
  go-on = subst (Consecutive (inode v entry.ino).applied) first-own (world.valid.stands.log.orders entry.ino)

  pub above : (inode k.volume entry.ino).applied < entry.order
  above = omega (arith, go-on.0)

  -- the size of the last run is that of the file
  sized : first.behind ≡ [] → (inode w entry.ino).size ≡ entry.size
  sized none =
      let no_rest : rest ≡ [] = sym first.rest_are ∙ ap (map run_of) none in
      let size_is : size ≡ size_in kept.files ino = ap (λ rs. size_before rs (size_in kept.files ino) (inode v ino).size) no_rest in
      let alone : entries_of ino live ≡ entry ∷ [] = first.are ∙ ap (λ ds. entry ∷ ds) none in
      let last : size_of v live ino ≡ entry.size = ap (λ ds. size_by (latest ds) (inode v ino).size) alone in
      is.size_is ∙ (size_is ∙ (overlay.size_is ∙ last))

  first-is : IsFirst k.volume w (live_claims k.volume kept.claims) entry first.behind
  first-is = record { first = first-own; size = sized }

  beside-entry : AreBeside (only entry.ino) stands.jobs
  beside-entry = subst (λ i. AreBeside (only i) stands.jobs) (sym own) beside

  -- the World takes it
  pub takes : Takes k.volume w kept.claims stands.jobs stands.numbers stands.numbers s s stands.count stands.count
  takes f valid = relinked v w kept.claims stands.jobs f stands.numbers s stands.count entry made-entry.displaced first.behind valid change first-is beside-entry

  -- ---- entries

  pub entries-beside : (i : ℕ) → i ≢ ino → entries_of i (live_claims w kept.claims) ≡ entries_of i (live_claims k.volume kept.claims)
  entries-beside i other = entries-other v w entry made-entry.displaced change above kept.claims i (λ same. other (same ∙ own))

  behind-are : entries_of ino (live_claims w kept.claims) ≡ first.behind
  behind-are = ap (λ i. entries_of i (live_claims w kept.claims)) (sym own) ∙ entries-own v w entry made-entry.displaced change above kept.claims first.behind first-own go-on

  pub runs-left : rest ≡ map run_of (entries_of ino (live_claims w kept.claims))
  runs-left = sym (ap (map run_of) behind-are ∙ first.rest_are)

  pub still : (e : Draft) → In e (live_claims w kept.claims) → In e (live_claims k.volume kept.claims)
  still = still-live v w entry made-entry.displaced change above kept.claims

  pub fewer : length (live_claims w kept.claims) + 1 ≤ length (live_claims k.volume kept.claims)
  fewer = one-less v w entry made-entry.displaced change above kept.claims there

  -- the last order, those of live entries among them, is as it was
  pub low-own : (inode w ino).applied + length (entries_of ino (live_claims w kept.claims)) ≡ (inode k.volume ino).applied + length (entries_of ino (live_claims k.volume kept.claims))
  low-own = omega (
    arith,
    ap (λ i. (inode w i).applied) (sym own),
    ap (λ i. (inode v i).applied) (sym own),
    change.applied,
    go-on.0,
    ap length behind-are,
    ap length first.are,
  )

  -- the size of the file is as it was
  pub size-left : size_of w (live_claims w kept.claims) ino ≡ size_of k.volume (live_claims k.volume kept.claims) ino
  size-left =
      let f = journaled (words_of k.cells) in
      let before = world.valid.stands.nodes.each ino (ap is_used may.file.file) in
      let kind : (inode w ino).kind ≡ File = (change.same ino).kind ∙ may.file.file in
      let after = (takes f world).valid.stands.nodes.each ino (ap is_used kind) in
      by (node_at s.nodes (number stands.numbers ino)) (subst (λ x. NodeStands v live f ino x (node_at s.nodes (number stands.numbers ino))) may.file.file before)
      (subst (λ x. NodeStands w (live_claims w kept.claims) f ino x (node_at s.nodes (number stands.numbers ino))) kind after)
    where
      by : (node : Node) → NodeStands k.volume (live_claims k.volume kept.claims) (journaled (words_of k.cells)) ino File node
          → NodeStands w (live_claims w kept.claims) (journaled (words_of k.cells)) ino File node → size_of w (live_claims w kept.claims) ino ≡ size_of k.volume (live_claims k.volume kept.claims) ino
      by Node.Gone before after = absurd before
      by Node.Directory before after = absurd before
      by (Node.File file) before after = after.size ∙ sym before.size

  -- ---- blocks

  -- a staging file is no file
  no-file : (x : ℕ) → (inode k.volume x).kind ≡ Staging → x ≢ entry.ino
  no-file x staging same =
      let file : (inode v x).kind ≡ File = ap (λ i. (inode v i).kind) (same ∙ own) ∙ may.file.file in
      let never : Staging ≡ File = sym staging ∙ file in
      cc

  -- a staged block that the entry has not stays where it was
  pub block-stays : (x b : ℕ) → (inode k.volume x).kind ≡ Staging → (x ≡ entry.staging → is_within entry.staging_block entry.count b ≡ false) → disk_at (extents w x) b ≡ disk_at (extents k.volume x) b
  block-stays x b staging away = elim (cases_eq x entry.staging) [
    | inr other ↦ ap (λ es. disk_at es b) (change.maps x (no-file x staging) other)
    | inl same ↦
        ap (λ i. disk_at (extents w i) b) same
        ∙ (change.moves.source.blocks b
        ∙ (ap (λ c. if not c then disk_at (extents v entry.staging) b else None) (away same) ∙ ap (λ i. disk_at (extents v i) b) (sym same)))
  ]

  -- a staging file without blocks has none then
  pub map-empty : (x : ℕ) → (inode k.volume x).kind ≡ Staging → extents k.volume x ≡ [] → extents w x ≡ []
  map-empty x staging none = elim (cases_eq x entry.staging) [
    | inr other ↦ change.maps x (no-file x staging) other ∙ none
    | inl same ↦
        let some : 1 ≤ entry.count = some-blocks entry (stands.drafts entry there).fields in
        let at = world.valid.stands.log.staged entry there 0 some in
        absurd (has-none (disk_at (extents v entry.staging) (entry.staging_block + 0)) (ap (λ i. disk_at (extents v i) (entry.staging_block + 0)) (sym same) ∙ ap (λ es. disk_at es (entry.staging_block + 0)) none) at)
  ]

  past : (from count block : ℕ) → (block < from) ⊎ (from + count ≤ block) → is_within from count block ≡ false
  past from count block (inl before) = grind (arith, nat_tests, before)
  past from count block (inr behind) = grind (arith, nat_tests, behind)

  -- so do those of an entry apart from it
  pub staged-stays : (e : Draft) → (inode k.volume e.staging).kind ≡ Staging → AreApart entry e → (i : ℕ) → i < e.count → staged_block w e i ≡ staged_block k.volume e i
  staged-stays e staging apart i below = block-stays e.staging (e.staging_block + i) staging (λ same. elim (apart (sym same)) [
    | inl before ↦ past entry.staging_block entry.count (e.staging_block + i) (inr (omega (arith, before)))
    | inr behind ↦ past entry.staging_block entry.count (e.staging_block + i) (inl (omega (arith, behind, below)))
  ])

  job-is : (j : Job) → In j stands.jobs → JobStands k.volume (live_claims k.volume kept.claims) (journaled (words_of k.cells)) stands.numbers s j
  job-is j is_out = job-stands v live (journaled (words_of k.cells)) stands.numbers s stands.jobs j world.valid.out is_out

  pub job-block : (j : Job) → In j stands.jobs → (i : ℕ) → i < j.draft.count → staged_block w j.draft i ≡ staged_block k.volume j.draft i
  job-block j is_out i below = let job = job-is j is_out in staged-stays j.draft job.staging (job.apart entry there) i below

  pub job-other : (j : Job) → In j stands.jobs → j.draft.ino ≢ ino
  job-other j is_out = job-beside ino stands.jobs j beside is_out

  -- ---- the blocks that are written

  blocks-free : All (λ b. is_free_in k b ≡ true) blocks
  blocks-free =
      subst (All (λ b. is_free_in k b ≡ true))
      (sym (made.written
      ∙ (λ i. chain-file (is_free_in k) (first_move kept k ino run rest) v w made.displaced stands.order.whole may-move-run made.moved i
      ++ chain-left (is_free_in k) (first_move kept k ino run rest) v w made.displaced stands.order.whole may-move-run made.moved i)))
      made.moved.taken.were_free

  pub spare : AreSpare blocks k.volume
  spare = record {
    in_data = λ i below. free-in_data k (block_at blocks i) (blocks-free i 0 below);
    apart = λ x block i x_below below at.
        both_ways (covers (extents v x) (block_at blocks i)) (free-unmapped k (block_at blocks i) x stands.order.whole.maps.map_count (blocks-free i 0 below))
        (covers-disk_at (extents v x) block (block_at blocks i) at);
  }

  -- ---- room

  pub room : HasRoom w kept.claims stands.jobs s
  room = record {
    free = stays_free_relinked v w kept.claims stands.jobs stands.flying.device.room.free change.geometry
        (relink-takes_one (first_move kept k ino run rest) k w blocks stands.order stands.unbatched may-move-run whole made) fewer;
    blocks = stands.flying.device.room.blocks ∙ ap data_blocks (sym change.geometry);
  }
